use Rattle.std.proofs.Common.{◌≡◌, ◌≢◌, ◌+◌, ◌||◌, ℕ, min, List, [], ◌∷◌, ◌++◌, length, Option, Some, refl, sym, ◌∙◌, ap}
use Rattle.std.proofs.Common.{subst, length-append}
use Rattle.feed_disk.specs.Moments.{AlwaysLeaves, LeavesAlone, NowOnly}
use Rattle.feed_disk.specs.declared.area.Area.{Area}
use Rattle.feed_disk.specs.declared.area.Area.TheVariants.{Journal, Sealed}
use Rattle.feed_disk.proofs.MomentLemmas.{always_begins, always_weaker}
use Rattle.feed_journal.specs.Log.{LogValue, IsListed}
use Rattle.feed_journal.specs.Records.{records, Begins, IsStep}
use Rattle.feed_recovery.specs.Commit.{IsSealing, MakesSealCalls}
use Rattle.feed_recovery.specs.Prepare.{IsDueSeal}
use Rattle.feed_recovery.specs.Store.{KeepsStore, StandsFor, StoreValue, seal_count}
use Rattle.feed_recovery.proofs.LoadedLemmas.{begins_still}
use Rattle.feed_recovery.proofs.StoreLemmas.{step_seals, still_seals, stands_sealed, keeps_sealed}
use Rattle.feed_recovery.proofs.SealListLemmas.{none_due}
use Rattle.feed_recovery.proofs.store.Store.append_seal.Goals as goal
use Rattle.feed_recovery.proofs.store.Store.append_seal.Goals.{After-append}
use Rattle.feed_recovery.proofs.store.Store.append_seal.Given.{Over}
use Rattle.feed_recovery.specs.Settled.{IsAtRest}

pub returns-in_default-clause-full : goal.returns-in_default-clause-full
returns-in_default-clause-full g c =
    let store = c.args.self.now in
    let keeps = subst KeepsStore c.self.view_is c.self.invariant.0 in
    ap seal_count c.self.view_is ∙ none_due store keeps.seals (subst (IsDueSeal store) c.in_default.is c.requires.due)

pub returns-in_default-clause-moments : goal.returns-in_default-clause-moments
returns-in_default-clause-moments g c = λ tells rests.
    let s = g.D.Disk.state c.args.disk.now in
    let store = c.args.self.now in
    always_begins s Sealed (IsSealing store.head store.history (records (s.content Sealed))) (λ i may.
    still_seals c.begun_images_are_whole.ensures store (s.content Journal) (s.content Sealed)
    (c.requires.stands tells).opens i (rests.sealed i may))

pub returns-in_default-clause-calls : goal.returns-in_default-clause-calls
returns-in_default-clause-calls g c =
    let s = g.D.Disk.state c.args.disk.now in
    let calls = c.args.self.now.seals.calls in
    subst (λ (seal : Option (List ℕ)). MakesSealCalls seal s s calls c.self.inside.seals.calls) (sym c.in_default.is)
    (refl, ap (λ (v : StoreValue). v.seals.calls) c.self.view_is)

others : (g : Over) (c : After-append g) (a : Area) → a ≢ Sealed
    → LeavesAlone (g.D.Disk.state c.args.disk.now) (g.D.Disk.state c.append.new.disk) a
others g c a other = c.append.ensures.others a (λ same. other (same ∙ c.self.invariant.0.sealed_area))

pub returns-in-Err-clause-others : goal.returns-in-Err-clause-others
returns-in-Err-clause-others g c = others g (goal.at.returns-in-Err-clause-others g c).After-append

pub returns-clause-others : goal.returns-clause-others
returns-clause-others g c = others g (goal.at.returns-clause-others g c).After-append

moments : (g : Over) (c : After-append g) → g.D.Disk.observable → IsAtRest (g.D.Disk.state c.args.disk.now)
    → AlwaysLeaves (g.D.Disk.state c.args.disk.now) (g.D.Disk.state c.append.new.disk) Sealed
    (IsSealing c.args.self.now.head c.args.self.now.history
    (records ((g.D.Disk.state c.args.disk.now).content Sealed)))
moments g c tells rests =
    let s = g.D.Disk.state c.args.disk.now in
    let t = g.D.Disk.state c.append.new.disk in
    let store = c.args.self.now in
    let keeps = subst KeepsStore c.self.view_is c.self.invariant.0 in
    let seal = c.in-Some.seal in
    let due = subst (IsDueSeal store) c.in-Some.is c.requires.due in
    let run = subst (λ (a : Area). NowOnly s a (Begins (records (s.content a)))
    → AlwaysLeaves s t a (IsStep (records (s.content a)) seal)) c.self.invariant.0.sealed_area
    (c.append.ensures.moments tells) rests.sealed in
    always_weaker s t Sealed (IsStep (records (s.content Sealed)) seal)
    (IsSealing store.head store.history (records (s.content Sealed)))
    (step_seals store (c.sealed_windows_are_full.ensures store.head store.history keeps.head) due.0 seal due.1
    (s.content Journal) (s.content Sealed) (c.requires.stands tells).opens) run

pub returns-in-Err-clause-moments : goal.returns-in-Err-clause-moments
returns-in-Err-clause-moments g c = moments g (goal.at.returns-in-Err-clause-moments g c).After-append

pub returns-clause-moments : goal.returns-clause-moments
returns-clause-moments g c = moments g (goal.at.returns-clause-moments g c).After-append

pub invariant_of-self-in_default-append : goal.invariant_of-self-in_default-append
invariant_of-self-in_default-append g c =
    let store : StoreValue = record {
      head = c.self.inside.head;
      history = c.self.inside.window.history;
      members = c.self.inside.members;
      journal = c.self.inside.journal;
      seals = c.self.inside.seals;
      spare = min c.self.inside.window.spare c.self.inside.places.spare;
    } in
    let log = c.append.new.self in
    let ok = c.in_default-append.ensures.ok.log in
    let keeps = c.self.invariant.0 in
    let due = subst (λ (v : StoreValue). IsDueSeal v (Some c.in-Some.seal)) (sym c.self.view_is)
    (subst (IsDueSeal c.args.self.now) c.in-Some.is c.requires.due) in
    let count : length log.extents ≡ length store.seals.extents + 1 =
    ap (λ (v : LogValue). length v.extents) ok ∙ length-append store.seals.extents (_ ∷ []) in (
      keeps_sealed store (c.sealed_windows_are_full.ensures store.head store.history keeps.head) due.0 c.in-Some.seal
          due.1 log keeps (ap (λ (v : LogValue). v.area) ok) count,
      c.self.invariant.1,
      c.self.invariant.2 ∙ ap (λ (v : LogValue). store.journal.spent || v.spent) (sym ok),
      c.self.invariant.3,
      c.self.invariant.4,
    )

pub returns-clause-stands : goal.returns-clause-stands
returns-clause-stands g c = λ tells.
    let s = g.D.Disk.state c.args.disk.now in
    let t = g.D.Disk.state c.append.new.disk in
    let store = c.args.self.now in
    let log = c.append.new.self in
    let area = c.self.invariant.0.sealed_area in
    let ok = c.in_default-append.ensures.ok.log in
    let keeps = subst KeepsStore c.self.view_is c.self.invariant.0 in
    let due = subst (IsDueSeal store) c.in-Some.is c.requires.due in
    let list = c.in_default-append.ensures.listed tells in
    let listed = subst (λ (a : Area). IsListed log (t.content a)) area list.listed in
    let added = subst (λ (a : Area). records (t.content a) ≡ records (s.content a) ++ c.in-Some.seal ∷ []) area
    list.list in
    let alone = c.append.ensures.others Journal (λ same. let clash : Journal ≡ Sealed = same ∙ area in cc) in
    let count : length log.extents ≡ length store.seals.extents + 1 =
    ap (λ (v : LogValue). length v.extents) ok ∙ length-append c.self.inside.seals.extents (_ ∷ [])
    ∙ ap (λ (v : StoreValue). length v.seals.extents + 1) c.self.view_is in
    subst (λ (v : StoreValue). StandsFor t (record v { seals = log })) (sym c.self.view_is)
    (stands_sealed store (c.sealed_windows_are_full.ensures store.head store.history keeps.head) due.0 c.in-Some.seal
    due.1 s t log (c.requires.stands tells) alone added listed count)

pub returns-clause-rests : goal.returns-clause-rests
returns-clause-rests g c = λ tells rests.
    let s = g.D.Disk.state c.args.disk.now in
    let t = g.D.Disk.state c.append.new.disk in
    let area = c.self.invariant.0.sealed_area in
    record {
      journal = begins_still s t Journal
          (c.append.ensures.others Journal (λ same. let clash : Journal ≡ Sealed = same ∙ area in cc))
          rests.journal;
      sealed = subst (λ (a : Area). NowOnly s a (Begins (records (s.content a)))
          → NowOnly t a (Begins (records (t.content a)))) area
          (c.in_default-append.ensures.rests tells) rests.sealed;
    }
