use Rattle.std.proofs.Common.{◌≡◌, ◌≢◌, ◌⊎◌, ◌≤◌, ◌+◌, inl, inr, ℕ, true, false, Option, Some, None, length, refl, sym, ◌∙◌}
use Rattle.std.proofs.Common.{ap, subst, arith}
use Rattle.std.specs.Prelude.{is_some}
use Rattle.archive_sealer.specs.Window.{IsFull}
use Rattle.feed_disk.specs.declared.area.Area.TheVariants.{Sealed}
use Rattle.feed_journal.specs.Records.{records}
use Rattle.feed_recovery.specs.Loading.{AreCompared, IsSameSeal}
use Rattle.feed_recovery.proofs.ComparedLemmas.{compared-other, compared-same, compared-still}
use Rattle.feed_recovery.proofs.ReadingLemmas.{listed-count}
use Rattle.feed_recovery.proofs.replay.Progress.compare_seal.Goals as goal
use Rattle.feed_recovery.proofs.replay.Progress.compare_seal.Goals.{then-is_some-via-then-is_some}
use Rattle.feed_recovery.proofs.replay.Progress.compare_seal.Goals.{then-is_some-via-else-is_some+then-not-is_full}
use Rattle.feed_recovery.proofs.replay.Progress.compare_seal.Goals.{then-is_some-via-else-is_some+else-not-is_full+then-sealed-len}
use Rattle.member_rules.specs.Windows.{windows_of}

some-given : (wrong : Option ℕ) → is_some wrong ≡ true → wrong ≢ None
some-given None some same = cc
some-given (Some number) some same = cc

none-given : (wrong : Option ℕ) → is_some wrong ≡ false → wrong ≡ None
none-given None none = refl
none-given (Some number) none = absurd (cc)

pub returns-then-is_some-clause-compared : goal.returns-then-is_some-clause-compared
returns-then-is_some-clause-compared g c = λ tells before operation is compared.
    let head = c.args.head.now in
    let after = c.args.self.now.window.history in
    let payloads = records ((g.D.Disk.state c.args.disk.now).content Sealed) in
    let wrong = c.args.self.now.wrong in
    let of_feed = c.requires.replayed.of_feed in
    let why : (wrong ≢ None) ⊎ ((¬ IsFull head after) ⊎ (length payloads ≤ (windows_of head after).sealed)) = elim c.then-is_some.branch [
      | then-is_some-via-then-is_some w ↦ inl (some-given wrong (sym c.is_some.ensures ∙ w.if-is_some.true))
      | then-is_some-via-else-is_some+then-not-is_full w ↦ inr (inl (λ full.
          let is_full : w.is_full.result ≡ true = (w.is_full.ensures head of_feed).1 full in
          let never = w.if-not-is_full.true in
          cc))
      | then-is_some-via-else-is_some+else-not-is_full+then-sealed-len w ↦ inr (inr (omega (
        arith,
        w.if-sealed-len.true,
        w.len.ensures,
        c.sealed-sealed.ensures head of_feed,
        listed-count c.args.seals.now ((g.D.Disk.state c.args.disk.now).content Sealed) (c.requires.seals.list tells),
      )))
    ] in
    compared-still head before after operation is payloads c.requires.replayed.is_head wrong why compared

pub returns-then-not-branch-clause-compared : goal.returns-then-not-branch-clause-compared
returns-then-not-branch-clause-compared g c = λ tells before operation is compared.
    let head = c.args.head.now in
    let after = c.args.self.now.window.history in
    let payloads = records ((g.D.Disk.state c.args.disk.now).content Sealed) in
    let of_feed = c.requires.replayed.of_feed in
    let none = none-given c.args.self.now.wrong (sym c.is_some.ensures ∙ c.if-is_some.false) in
    let sealed = (windows_of head after).sealed in
    let number : sealed + 1 ≡ c.sealed-sealed.result + 1 = ap (λ (n : ℕ). n + 1) (sym (c.sealed-sealed.ensures head of_feed)) in
    subst (λ (n : ℕ). AreCompared head after payloads (Some n)) number
    (compared-other head before after operation is payloads c.requires.replayed.is_head
    ((c.is_full.ensures head of_feed).0 c.if-not-is_full.false)
    (subst (AreCompared head before payloads) none compared)
    (subst (IsSameSeal head after payloads (sealed + 1)) c.if-not-branch.true (c.in_ok-is_sealed.ensures.same tells)))

pub returns-else-not-branch-clause-compared : goal.returns-else-not-branch-clause-compared
returns-else-not-branch-clause-compared g c = λ tells before operation is compared.
    let head = c.args.head.now in
    let after = c.args.self.now.window.history in
    let payloads = records ((g.D.Disk.state c.args.disk.now).content Sealed) in
    let of_feed = c.requires.replayed.of_feed in
    let none = none-given c.args.self.now.wrong (sym c.is_some.ensures ∙ c.if-is_some.false) in
    let sealed = (windows_of head after).sealed in
    subst (AreCompared head after payloads) (sym none)
    (compared-same head before after operation is payloads c.requires.replayed.is_head
    ((c.is_full.ensures head of_feed).0 c.if-not-is_full.false)
    (subst (AreCompared head before payloads) none compared)
    (subst (IsSameSeal head after payloads (sealed + 1)) c.if-not-branch.false (c.in_ok-is_sealed.ensures.same tells)))
