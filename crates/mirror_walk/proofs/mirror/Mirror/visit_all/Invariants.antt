use Rattle.std.proofs.Common.{◌≡◌, ◌+◌, ◌≤◌}
use Rattle.atom_writer.specs.Doc.{archive_limit}
use Rattle.chain_links.specs.Address.{IsAddress}
use Rattle.mirror_walk.specs.Mirror.{KeepsSetting, StaysSound}
use Rattle.mirror_walk.specs.Visit.{IsNextOf, asks_left}
use Rattle.mirror_walk.proofs.GivenLemmas.{HasGone}
use Rattle.mirror_walk.proofs.mirror.Mirror.visit_all.Given as goal

abbrev pub invariant-addresses : goal.invariant-addresses
invariant-addresses g l =
    let s = g.D.Disk.state l.fn.disk in
    let t = g.D.Disk.state l.disk in
    let before = g.F.Fetch.state l.fn.fetch in
    let after = g.F.Fetch.state l.fetch in
    record {
      setting : KeepsSetting s t l.fn.self l.self;
      sound : StaysSound g.D.Disk.observable s t l.fn.self l.self;
      answers : after.answers ≡ before.answers;
      disk_faults : t.faults ≡ s.faults;
      fetch_faults : after.faults ≡ before.faults;
      next : IsNextOf l.self.kept l.address;
      is_address : IsAddress l.address;
      bounded : l.tally.asked + asks_left l.address ≤ archive_limit + 1;
      answered : l.tally.taken + l.tally.known + l.tally.stale ≤ l.tally.asked;
      gone : HasGone g.D.Disk.observable g.F.Fetch.observable s t before after l.fn.self l.self.kept l.address l.tally;
    }

abbrev pub decreases-addresses : goal.decreases-addresses
decreases-addresses g l = asks_left l.address
