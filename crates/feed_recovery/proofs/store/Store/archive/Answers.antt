use Rattle.std.proofs.Common.{◌≡◌, ◌-◌, ◌≤◌, Some, length, ap, subst, arith}
use Rattle.std.specs.Prelude.{slice_get}
use Rattle.feed_disk.specs.declared.area.Area.{Area}
use Rattle.feed_disk.specs.declared.area.Area.TheVariants.{Journal, Sealed}
use Rattle.feed_journal.specs.Records.{records}
use Rattle.feed_recovery.specs.Documents.{sealed_count}
use Rattle.feed_recovery.specs.Store.{KeepsStore, StoreValue}
use Rattle.feed_recovery.proofs.ArchiveLemmas.{sealed-within, seal-read}
use Rattle.feed_recovery.proofs.store.Store.archive.Goals as goal

pub read-requires-clause-within : goal.read-requires-clause-within
read-requires-clause-within g c =
    let store = c.args.self.now in
    let keeps = subst KeepsStore c.self.view_is c.self.invariant.0 in
    let sealed : c.args.number ≤ sealed_count store = omega (
      arith,
      c.sealed-sealed.ensures,
      c.if-number-sealed.false,
    ) in
    omega (
      arith,
      sealed-within store keeps c.args.number sealed,
      c.if-number-eq0.false,
      ap (λ (v : StoreValue). length v.seals.extents) c.self.view_is,
    )

pub returns-in-Ok-clause-document : goal.returns-in-Ok-clause-document
returns-in-Ok-clause-document g c = λ tells.
    let store = c.args.self.now in
    let s = g.D.Disk.state c.args.disk.now in
    let keeps = subst KeepsStore c.self.view_is c.self.invariant.0 in
    let sealed : c.args.number ≤ sealed_count store = omega (
      arith,
      c.sealed-sealed.ensures,
      c.if-number-sealed.false,
    ) in
    let from_one : 1 ≤ c.args.number = omega (arith, c.if-number-eq0.false) in
    let found = subst (λ (a : Area). slice_get (records (s.content a)) (c.args.number - 1) ≡ Some c.in-Ok.text.items)
    c.self.invariant.0.sealed_area (c.in-Ok.ensures.payload tells) in
    seal-read store keeps (s.content Journal) (s.content Sealed) c.args.number c.in-Ok.text.items
    (c.requires.stands tells).opens from_one sealed found
