use Rattle.std.proofs.Common.{◌≡◌, ◌+◌, ◌-◌, ℕ, Some, sym, ◌∙◌, ap, subst, arith}
use Rattle.std.specs.Prelude.{slice_get}
use Rattle.std.proofs.lemmas.Bool.Decides.{Decides-eqb}
use Rattle.std.proofs.lemmas.Slice.Eq.{slice_eq-Decides}
use Rattle.atom_writer.specs.Pieces.{text}
use Rattle.feed_disk.specs.declared.area.Area.{Area}
use Rattle.feed_journal.specs.Records.{records}
use Rattle.feed_recovery.specs.Opening.{seal_of}
use Rattle.feed_recovery.proofs.replay.is_sealed.Goals as goal
use Rattle.member_rules.specs.Documents.{archive}
use Rattle.member_rules.specs.Windows.{windows_of}

pub returns-clause-same : goal.returns-clause-same
returns-clause-same g c = λ tells.
    let s = g.D.Disk.state c.args.disk.now in
    let payload = c.in-Ok.payload.items in
    let sealed = (windows_of c.args.head.now c.args.window.now.history).sealed in
    let index : c.sealed.result ≡ sealed + 1 - 1 =
    omega (arith, c.sealed.ensures c.args.head.now c.requires.feed) in
    let written : c.in_ok-text.text.items ≡ seal_of c.args.head.now c.args.window.now.history (sealed + 1) =
    c.in_ok-text.ensures
    ∙ ap text {y = archive c.args.head.now c.args.window.now.history (sealed + 1)} c.in_ok-document.ensures in
    let same = slice_eq-Decides Decides-eqb payload c.in_ok-text.text.items c.eq.result c.eq.ensures in
    record {
      payload = payload;
      there = subst (λ (a : Area). slice_get (records (s.content a)) (sealed + 1 - 1) ≡ Some payload)
          c.requires.seals.area
          (subst (λ (k : ℕ). slice_get (records (s.content c.args.seals.now.area)) k ≡ Some payload) index
          (c.in-Ok.ensures.payload tells));
      exact = (λ is. same.0 is ∙ written, λ is. same.1 (is ∙ sym written));
    }
