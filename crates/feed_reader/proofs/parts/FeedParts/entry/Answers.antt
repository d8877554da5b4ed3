use Rattle.std.proofs.Common.{◌==◌, length, refl}
use Rattle.feed_reader.specs.Feed.{item_limit}
use Rattle.feed_reader.proofs.FeedPartLemmas.{entry_whole}
use Rattle.feed_reader.proofs.FeedMadeLemmas.{room_of, whole_of}
use Rattle.feed_reader.proofs.parts.FeedParts.entry.Goals as goal

pub returns-in-Err-clause-read : goal.returns-in-Err-clause-read
returns-in-Err-clause-read c = λ from e at of. c.in-Err.ensures.read from at

pub returns-in-Err-entry-clause-read : goal.returns-in-Err-entry-clause-read
returns-in-Err-entry-clause-read c = λ from e at of.
    let x = c.in_default.ensures.read from at in
    let n = length c.args.self.now.entries.items in
    let made = c.in-Err-entry.ensures e x.0 of.place (entry_whole x.0 c.read_children.new.parts x.4) in (
      x.0,
      x.1,
      x.2,
      x.3,
      (
        c.len.result == item_limit,
        made,
        refl,
        whole_of n c.len.result c.len.ensures.count,
        room_of n c.len.result c.len.ensures.count c.len.ensures.within,
      ),
    )

pub returns-in-Ok-push-clause-read : goal.returns-in-Ok-push-clause-read
returns-in-Ok-push-clause-read c = λ from e at of.
    let x = c.in_default.ensures.read from at in
    let n = length c.args.self.now.entries.items in
    let m = c.in-Ok.ensures e x.0 of.place (entry_whole x.0 c.read_children.new.parts x.4) in (
      x.0,
      x.1,
      x.2,
      x.3,
      (
        c.in-Ok.entry,
        (m.0, m.1, refl, m.3, m.4),
        refl,
        c.in-Ok-push.ensures.ok,
        room_of n c.len.result c.len.ensures.count c.len.ensures.within m.2,
      ),
    )
