-- The disks of a walk: what it leaves of the mirror's disk, with and without a crash, and the copy of the store's disk.
use Rattle.std.proofs.Common.{◌≡◌, ◌≢◌, inl, inr, ℕ, ◌*◌, ◌-◌, ◌<◌, List, length, Option, None, Some, Result, Ok, Err}
use Rattle.std.proofs.Common.{refl, sym, ap, ap₂, subst, ◌∙◌, arith, map}
use Rattle.std.specs.Prelude.{IfOk, OnOk}
use Rattle.chain_links.specs.declared.address.Address.TheVariants.{Feed}
use Rattle.doc_source.specs.Fetch.{FetchState}
use Rattle.feed_disk.specs.Disk.{PassesBy}
use Rattle.feed_disk.specs.DiskLaw.{memory_is_disk}
use Rattle.feed_disk.specs.Memory.{MemoryValue, state_of}
use Rattle.feed_disk.specs.Moments.{AlwaysLeaves, NowOnly}
use Rattle.feed_disk.specs.declared.area.Area.{Area}
use Rattle.feed_disk.specs.declared.area.Area.TheVariants.{Journal, Sealed, Mirror as MirrorArea}
use Rattle.feed_disk.proofs.MomentLemmas.{leaves_inside}
use Rattle.feed_journal.specs.Laws.{BegunAreWhole}
use Rattle.feed_life.specs.Crashes.{HasPayloadsOf, IsCrash, IsCrashAt, IsCrashFrom, IsImageAfter, IsImageBy, clock_of}
use Rattle.feed_life.specs.Laws.{StoresAnswerWhatIsServed}
use Rattle.feed_life.specs.Life.{IsMirrorOf, IsStoreOf}
use Rattle.feed_life.specs.Mirrors.{IsOpenedMirror, IsPastWalk, LeavesWalked, setting_by}
use Rattle.feed_life.specs.StoreFetch.{StoreFetchValue, store_answers}
use Rattle.feed_life.specs.Walks.{HasDocuments, IsOver, IsReady, RunsWalk}
use Rattle.feed_life.specs.declared.event.Stop.{Stop}
use Rattle.feed_life.proofs.WalkEndLemmas.{IsFinished, over-finished, walk-ends, walk-holds, walk-loaded}
use Rattle.feed_recovery.specs.Opening.{Opens}
use Rattle.member_rules.specs.Head.{HeadValue}
use Rattle.member_rules.specs.declared.operation.Op.{Op}
use Rattle.mirror_walk.specs.Holding.{KeptValue, payloads_of}
use Rattle.mirror_walk.specs.Mirror.{IsAtRest, LoadsTo, MirrorValue, StandsFor, TakesFew, take_calls}
use Rattle.mirror_walk.specs.Loaded.{own_offer}
use Rattle.mirror_walk.specs.Offers.{AreServed, AreTakenOf, Offering}
use Rattle.mirror_walk.specs.Walk.{HasWalked, IsServedBy, IsWalkStep, WalkSetting, setting_of}
use Rattle.mirror_walk.specs.Walk.WalkEnding.{cut_short}
use Rattle.mirror_walk.specs.declared.walk.WalkFault.{WalkFault}
use Rattle.mirror_walk.specs.declared.walk.WalkFault.TheVariants as faults
use Rattle.mirror_walk.specs.declared.walk.Walked.{Walked}
use Rattle.mirror_walk.proofs.StepLemmas.{rest-loads}
use Rattle.mirror_walk.proofs.TakenLemmas.{loaded-offered}
use Rattle.mirror_walk.proofs.WalkRunLemmas.{walks-cut}

-- the store's disk

-- a call that changes nothing leaves a store's disk
pub store-still : (head : HeadValue) (history : List Op) (before after : MemoryValue)
    → ((a : Area) → PassesBy (state_of before) (state_of after) a) → IsStoreOf head history before
    → IsStoreOf head history after
store-still head history before after same store = record {
  seals = store.seals;
  opens = subst (λ (journal : List ℕ). Opens journal ((state_of after).content Sealed) head history store.seals)
      (sym (same Journal).content)
      (subst (λ (sealed : List ℕ). Opens ((state_of before).content Journal) sealed head history store.seals)
      (sym (same Sealed).content) store.opens);
  settled = λ journal sealed first second. store.settled journal sealed ((same Journal).passes.now journal first)
      ((same Sealed).passes.now sealed second);
}

-- the walk of a mirror that was loaded, over the documents of a store

-- the mirror walks over the documents of this store
setting-is : (head : HeadValue) (history : List Op) (kept : List KeptValue) (disk : MemoryValue) (mirror : MirrorValue)
    (documents : StoreFetchValue MemoryValue) (source : FetchState) → IsReady head history kept disk mirror documents
    → source.answers ≡ store_answers documents.store.head documents.store.history
    → setting_of mirror source ≡ setting_by head history
setting-is head history kept disk mirror documents source ready answers =
    let made : List ℕ → ℕ → (List ℕ → Option (List ℕ)) → WalkSetting =
    λ base capacity found. record { base = base; capacity = capacity; answers = found } in
    ap (λ (found : List ℕ → Option (List ℕ)). made mirror.base mirror.capacity found) answers
    ∙ ap₂ (λ (base : List ℕ) (capacity : ℕ).
    made base capacity (store_answers documents.store.head documents.store.history)) ready.opened.base
    ready.opened.capacity
    ∙ ap₂ (λ (h : HeadValue) (past : List Op). made head.name.base head.capacity (store_answers h past))
    ready.has.head_is ready.has.history_is

module _ (law : BegunAreWhole) (answer : StoresAnswerWhatIsServed) (head : HeadValue) (history : List Op)
    (kept : List KeptValue) (before after : MemoryValue) (mirror now : MirrorValue)
    (documents : StoreFetchValue MemoryValue) (source : FetchState)
    (ready : IsReady head history kept before mirror documents)
    (answers : source.answers ≡ store_answers documents.store.head documents.store.history) where
  served-by : IsServedBy head history (setting_by head history).answers
  served-by = answer head history ready.has.is_head ready.has.lawful

  -- the documents of the store are refused by no mirror whose documents its feed served
  unrefused : (result : Result Walked WalkFault)
      → ((offers : List Offering) → mirror.base ≡ head.name.base → AreServed head history offers
      → AreTakenOf mirror.base offers mirror.kept → IsServedBy head history source.answers
      → IfOk result (λ walked. walked.refused ≡ None))
      → IfOk result (λ walked. walked.refused ≡ None)
  unrefused result served =
      served (map own_offer kept) ready.opened.base ready.served
      (subst (AreTakenOf mirror.base (map own_offer kept)) (sym ready.opened.kept_is)
      (subst (λ (b : List ℕ). AreTakenOf b (map own_offer kept) kept) (sym ready.opened.base)
      (loaded-offered head.name.base (payloads_of kept) kept ready.loaded)))
      (subst (IsServedBy head history)
      (sym (answers ∙ ap₂ (λ (h : HeadValue) (past : List Op). store_answers h past) ready.has.head_is
      ready.has.history_is)) served-by)

  pub walk-runs : (later : List (List ℕ)) (result : Result Walked WalkFault) → IsOver result
      → ((offers : List Offering) → mirror.base ≡ head.name.base → AreServed head history offers
      → AreTakenOf mirror.base offers mirror.kept → IsServedBy head history source.answers
      → IfOk result (λ walked. walked.refused ≡ None))
      → HasWalked (setting_of mirror source) mirror.kept now.kept source.asked later result
      → (result ≢ Err faults.DiskFault → StandsFor (state_of after) now)
      → (IsAtRest (state_of before) mirror.kept
      → AlwaysLeaves (state_of before) (state_of after) MirrorArea (IsWalkStep (setting_of mirror source) mirror.kept))
      → (result ≢ Err faults.DiskFault → IsAtRest (state_of before) mirror.kept → IsAtRest (state_of after) now.kept)
      → (result ≢ Err faults.DiskFault → TakesFew (state_of before) (state_of after) mirror.kept now.kept)
      → RunsWalk head history kept before after
  walk-runs later result over served walked stands moments rests most =
      let same = setting-is head history kept before mirror documents source ready answers in
      let kept_is = ready.opened.kept_is in
      let finished = over-finished result over (unrefused result served) in
      let worked = finished-works result finished in
      let went = subst (λ (s : WalkSetting). HasWalked s kept now.kept source.asked later result) same
      (subst (λ (ks : List KeptValue). HasWalked (setting_of mirror source) ks now.kept source.asked later result)
      kept_is walked) in
      let held_is : now.kept ≡ went.held = went.left worked in
      let rest = subst (IsAtRest (state_of before)) (sym kept_is) ready.opened.rests in
      let loaded = walk-loaded head history ready.has.is_head ready.has.lawful kept ready.loaded ready.served served-by
      went.asked went.accepted went.held went.ending went.walks in
      record {
        held = went.held;
        walked = record {
          asked = went.asked;
          accepted = went.accepted;
          ending = went.ending;
          walks = went.walks;
          ends = walk-ends head history ready.has.is_head ready.has.lawful kept ready.loaded ready.served
              served-by went.asked
              went.accepted went.held went.ending result went.walks finished went.result;
        };
        mirror = record {
          loads = rest-loads law head.name.base went.held loaded (state_of after)
              ((stands worked).payloads ∙ ap payloads_of held_is)
              (subst (IsAtRest (state_of after)) held_is (rests worked rest));
          served = walk-holds head history ready.has.is_head ready.has.lawful kept ready.loaded ready.served
              served-by went.asked
              went.accepted went.held went.ending went.walks;
        };
        leaves = subst (λ (s : WalkSetting).
            AlwaysLeaves (state_of before) (state_of after) MirrorArea (IsWalkStep s kept)) same
            (subst (λ (ks : List KeptValue).
            AlwaysLeaves (state_of before) (state_of after) MirrorArea
            (IsWalkStep (setting_of mirror source) ks)) kept_is
            (moments rest));
        few = subst (λ (ks : List KeptValue). TakesFew (state_of before) (state_of after) ks went.held) kept_is
            (subst (TakesFew (state_of before) (state_of after) mirror.kept) held_is (most worked));
      }
    where
      finished-works : (given : Result Walked WalkFault) → IsFinished given → given ≢ Err faults.DiskFault
      finished-works (Ok made) finished e = cc
      finished-works (Err faults.FetchFault) finished e = finished
      finished-works (Err (faults.Full size needed capacity)) finished e = cc
      finished-works (Err faults.DiskFault) finished e = finished
      finished-works (Err faults.NoMemory) finished e = finished

-- a mirror that was opened on a mirror's disk, and documents of the store
pub mirror-ready : (head : HeadValue) (history : List Op) (kept : List KeptValue) (before disk : MemoryValue)
    (mirror : MirrorValue) (documents : StoreFetchValue MemoryValue) → HasDocuments head history documents
    → IsMirrorOf head history before kept → IsOpenedMirror head kept disk mirror
    → IsReady head history kept disk mirror documents
mirror-ready head history kept before disk mirror documents has is_mirror opened =
    let image = is_mirror.loads ((state_of before).content MirrorArea)
    ((memory_is_disk before).content tt MirrorArea) in
    record {
      has = has;
      opened = opened;
      loaded = record { payloads = refl; taken = image.loaded.taken };
      served = is_mirror.served;
    }

-- a fact that holds for any result holds for an `Ok`
pub on-ok-of : {A E : Type 0} (result : Result A E) (P : Type 0) → P → OnOk result P
on-ok-of (Ok value) P holds = holds
on-ok-of (Err fault) P holds = tt

-- without a crash
pub walk-left : (head : HeadValue) (history : List Op) (kept : List KeptValue) (disk before after : MemoryValue)
    → RunsWalk head history kept before after → LeavesWalked head history None kept disk after
walk-left head history kept disk before after runs =
    record { after = runs.held; walk = runs.walked; mirror = runs.mirror }

-- with a crash

-- each image of a disk that a crash left is its content
crash-only : (P : List ℕ → Type 0) (images : Area → List ℕ → Type 0) (left : MemoryValue) (a : Area)
    → IsCrash images left → P ((state_of left).content a) → NowOnly (state_of left) a P
crash-only P images left a crash here image may = subst P (sym (crash.synced a image may)) here

module _ (head : HeadValue) (history : List Op) (kept : List KeptValue) (stop : Stop)
    (disk before after left : MemoryValue) (mirror : MirrorValue) (documents : StoreFetchValue MemoryValue)
    (ready : IsReady head history kept before mirror documents) (same : HasPayloadsOf disk before) where
  -- before the first call
  pub walk-before : BegunAreWhole → stop.call ≡ 0 → IsImageAfter before stop.choice left
      → IsCrash (state_of before).image_now left → LeavesWalked head history (Some stop) kept disk left
  walk-before law none image crash = record {
    after = kept;
    walk = record {
      part = inl refl;
      before = λ _. refl;
      cut = λ _. record { loaded = before; same = same; image = image };
      past = λ some. absurd (omega arith);
    };
    mirror = record {
      loads = crash-only (LoadsTo head.name.base kept) (state_of before).image_now left MirrorArea crash
          (rest-loads law head.name.base kept ready.loaded (state_of before)
          (ready.opened.stands.payloads ∙ ap payloads_of ready.opened.kept_is) ready.opened.rests
          ((state_of left).content MirrorArea) (crash.among MirrorArea));
      served = ready.served;
    };
  }

  module _ (answer : StoresAnswerWhatIsServed) (runs : RunsWalk head history kept before after)
      (some : 0 < stop.call) (image : IsImageBy stop (clock_of before) after left) where
    -- a walk that ran into its stop
    walk-into : (now : List KeptValue)
        → (take_calls * (length runs.held - length kept) < stop.call → now ≡ runs.held)
        → IsPastWalk head history stop disk left kept now
    walk-into now past = record {
      whole = runs.held;
      walked = runs.walked;
      ran = after;
      mirror = runs.mirror;
      cut = record { loaded = before; same = same; later = runs.leaves.moments.later; image = image };
      few = runs.few;
      past = past;
    }

    walk-past : IsCrash (state_of after).image_now left → LeavesWalked head history (Some stop) kept disk left
    walk-past crash =
        let walked = runs.walked in
        record {
          after = runs.held;
          walk = record {
            part = inr record {
              asked = walked.asked;
              accepted = walked.accepted;
              walks = walks-cut (setting_by head history) walked.asked walked.accepted kept runs.held (Some Feed)
                  walked.ending walked.walks;
            };
            before = λ none. absurd (omega arith);
            cut = λ none. absurd (omega arith);
            past = λ _. walk-into runs.held (λ _. refl);
          };
          mirror = record {
            loads = crash-only (LoadsTo head.name.base runs.held) (state_of after).image_now left MirrorArea crash
                (runs.mirror.loads ((state_of left).content MirrorArea) (crash.among MirrorArea));
            served = runs.mirror.served;
          };
        }

    walk-within : IsCrashAt (state_of before).clock stop.call after left
        → LeavesWalked head history (Some stop) kept disk left
    walk-within at =
        let step = leaves_inside {observable = Unit {0}} (state_of before) (state_of after) MirrorArea
        (λ _. IsWalkStep (setting_by head history) kept) (memory_is_disk before) runs.leaves.moments at.moment
        ((state_of left).content MirrorArea) at.after (at.crash.among MirrorArea) in
        record {
          after = step.left;
          walk = record {
            part = inr record { asked = step.asked; accepted = step.accepted; walks = step.walks };
            before = λ none. absurd (omega arith);
            cut = λ none. absurd (omega arith);
            past = λ _. walk-into step.left (λ great. absurd (omega (arith, runs.few, at.at, at.made, great)));
          };
          mirror = record {
            loads = crash-only (LoadsTo head.name.base step.left) (λ a. (state_of after).image_at a at.moment) left
                MirrorArea at.crash step.loads;
            served = walk-holds head history ready.has.is_head ready.has.lawful kept ready.loaded ready.served
                (answer head history ready.has.is_head ready.has.lawful) step.asked step.accepted step.left
                cut_short step.walks;
          };
        }

    pub walk-from : IsCrashFrom (state_of before).clock stop.call after left
        → LeavesWalked head history (Some stop) kept disk left
    walk-from (inl (over, crash)) = walk-past crash
    walk-from (inr at) = walk-within at
