use Rattle.feed_disk.proofs.FileLemmas.{if_ok_untold, on_ok_untold}
use Rattle.feed_disk.proofs.file_disk.FileDiskDisk.TheImpl.Goals as goal

pub size-tells : goal.size-tells
size-tells g c = record {
  size = if_ok_untold _ c.result;
  areas = c.ensures.areas;
  counts = c.ensures.counts;
  read = c.ensures.read;
}

pub read-tells : goal.read-tells
read-tells g c = record {
  most = c.ensures.most;
  bytes = if_ok_untold _ c.result;
  areas = c.ensures.areas;
  counts = c.ensures.counts;
  read = c.ensures.read;
  unread = c.ensures.unread;
}

pub write-tells : goal.write-tells
write-tells g c = record {
  written = on_ok_untold _ c.result;
  area = c.ensures.area;
  torn = on_ok_untold _ c.result;
  others = c.ensures.others;
  counts = c.ensures.counts;
  read = c.ensures.read;
}

pub sync-tells : goal.sync-tells
sync-tells g c = record {
  content = on_ok_untold _ c.result;
  certain = on_ok_untold _ c.result;
  area = c.ensures.area;
  others = c.ensures.others;
  counts = c.ensures.counts;
  read = c.ensures.read;
}
