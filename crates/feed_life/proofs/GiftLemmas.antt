-- A gift, and what a crash within it leaves.
use Rattle.std.proofs.Common.{◌≡◌, inl, inr, ℕ, ◌<◌, List, [], ◌∷◌, ◌++◌, Ok, None, Some, length, map, refl, sym, ap}
use Rattle.std.proofs.Common.{subst, arith}
use Rattle.std.proofs.Math.Seq.{take-length}
use Rattle.std.specs.Prelude.{IfErr}
use Rattle.feed_disk.specs.DiskLaw.{memory_is_disk}
use Rattle.feed_disk.specs.Memory.{MemoryValue, state_of}
use Rattle.feed_disk.specs.Moments.{AlwaysLeaves, LeavesOnly}
use Rattle.feed_disk.specs.declared.area.Area.TheVariants.{Mirror as MirrorArea}
use Rattle.feed_disk.proofs.MomentLemmas.{leaves_weaker}
use Rattle.feed_journal.specs.Laws.{BegunAreWhole}
use Rattle.feed_life.specs.Crashes.{HasPayloadsOf, IsCrash, IsCrashAt, IsCrashFrom, IsImageAfter, IsImageBy, clock_of}
use Rattle.feed_life.specs.Life.{IsSentBy}
use Rattle.feed_life.specs.Mirrors.{IsGivenInto, IsOpenedMirror, LeavesGiven, LoadsGiven, RunsGift}
use Rattle.feed_life.specs.declared.event.Stop.{Stop}
use Rattle.feed_life.specs.declared.sent.SentDoc.{SentDoc}
use Rattle.feed_life.proofs.GivenLemmas.{after-few, after-loaded, after-served, held-after}
use Rattle.feed_life.proofs.OpenedLemmas.{at-head, content-loads, left-loads}
use Rattle.member_rules.specs.Head.{HeadValue}
use Rattle.member_rules.specs.Served.{Served}
use Rattle.member_rules.specs.declared.operation.Op.{Op}
use Rattle.mirror_walk.specs.declared.answer.Accepted.TheVariants.{Taken}
use Rattle.mirror_walk.specs.Accept.{Answer, IsAnswerWithin, IsForRoom, accept_within}
use Rattle.mirror_walk.specs.Holding.{KeptValue}
use Rattle.mirror_walk.specs.Loaded.{IsLoadedOf, own_offer}
use Rattle.mirror_walk.specs.Mirror.{IsAtRest, IsOfferStep, LoadsTo, MirrorValue, StandsFor, TakesFew}
use Rattle.mirror_walk.specs.Offers.{AreServed}
use Rattle.mirror_walk.proofs.StepLemmas.{rest-loads}

-- a document that was sent is served after the whole history
sent-served : (head : HeadValue) (history : List Op) (doc : SentDoc) → IsSentBy head history doc
    → Served head history doc.address doc.bytes
sent-served head history doc sent =
    subst (λ (l : List Op). Served head l doc.address doc.bytes) (take-length history)
    (sent.served (length history) sent.past (omega arith))

-- an image of a moment after the calls before
moment-leaves : (before after : MemoryValue) (P : List ℕ → Type 0) (moment : ℕ) (image : List ℕ)
    → LeavesOnly (state_of before) (state_of after) MirrorArea (λ _. P) → (state_of before).clock < moment
    → (state_of after).image_at MirrorArea moment image → P image
moment-leaves before after P moment image leaves later at = elim (leaves.each moment image at) [
  | inl earlier ↦ absurd (let begun = (memory_is_disk before).begun MirrorArea moment image earlier in
      omega (arith, begun, later))
  | inr is ↦ is.1
]

module _ (head : HeadValue) (history : List Op) (doc : SentDoc) (kept : List KeptValue) (before after : MemoryValue)
    (mirror new : MirrorValue) (sent : IsSentBy head history doc) (served : AreServed head history (map own_offer kept))
    (opened : IsOpenedMirror head kept before mirror) where
  there : Served head history doc.address doc.bytes
  there = sent-served head history doc sent

  -- the documents held after a document was taken
  given-after : (answer : Answer) (left : List KeptValue)
      → IsAnswerWithin head.capacity head.name.base kept doc.address doc.bytes answer left
      → AreServed head history (map own_offer left)
  given-after answer left is =
      after-served head.name.base kept doc.address doc.bytes left head history
      (held-after head.capacity head.name.base kept doc.address doc.bytes answer left is) there served

  offer-given : (image : List ℕ) → IsOfferStep mirror doc.address doc.bytes image
      → LoadsGiven head history doc kept image
  offer-given image (inl loads) = record {
    after = kept;
    either = inl refl;
    served = served;
    loads = at-head head kept before mirror opened (λ c b l. LoadsTo b l image) loads;
  }
  offer-given image (inr more) =
      let left = kept ++ more.given ∷ [] in
      let answered : IsAnswerWithin head.capacity head.name.base kept doc.address doc.bytes (Ok Taken) left = record {
        given = more.given;
        read = more.read;
        first_fit = sym (at-head head kept before mirror opened
            (λ c b l. accept_within c b l doc.address more.given ≡ Ok Taken) more.taken);
        left_over = refl;
      } in
      record {
        after = left;
        either = inr record { answer = Ok Taken; answered = answered; unrefused = tt };
        served = given-after (Ok Taken) left answered;
        loads = at-head head kept before mirror opened (λ c b l. LoadsTo b (l ++ more.given ∷ []) image) more.loads;
      }

  -- the documents held after the gift
  gift-runs : BegunAreWhole → (answer : Answer)
      → IsAnswerWithin mirror.capacity mirror.base mirror.kept doc.address doc.bytes answer new.kept
      → IfErr answer IsForRoom → StandsFor (state_of after) new → IsAtRest (state_of after) new.kept
      → TakesFew (state_of before) (state_of after) mirror.kept new.kept
      → AlwaysLeaves (state_of before) (state_of after) MirrorArea (IsOfferStep mirror doc.address doc.bytes)
      → RunsGift head history doc kept before after
  gift-runs law answer is unrefused stands rests most leaves =
      let answered = at-head head kept before mirror opened
      (λ c b l. IsAnswerWithin c b l doc.address doc.bytes answer new.kept) is in
      let held = held-after head.capacity head.name.base kept doc.address doc.bytes answer new.kept answered in
      let content = content-loads before (LoadsTo head.name.base kept) opened.loads in
      let loaded = subst (λ (ps : List (List ℕ)). IsLoadedOf head.name.base ps kept) content.loaded.payloads
      content.loaded in
      let later = after-loaded head.name.base kept doc.address doc.bytes new.kept held loaded in
      record {
        now = new.kept;
        given = record { answer = answer; answered = answered; unrefused = unrefused };
        mirror = record {
          loads = rest-loads law head.name.base new.kept later (state_of after) stands.payloads rests;
          served = given-after answer new.kept answered;
        };
        few = omega (
          arith,
          most,
          after-few head.name.base kept doc.address doc.bytes new.kept held,
          ap length opened.kept_is,
        );
        leaves =
            leaves_weaker (state_of before) (state_of after) MirrorArea (λ _. IsOfferStep mirror doc.address doc.bytes)
            (λ _. LoadsGiven head history doc kept) (λ c i rose step. offer-given i step) leaves.moments;
      }

  -- the same at an address and bytes that were read from the document
  module _ (address bytes : List ℕ) (same : address ≡ doc.address) (is_text : bytes ≡ doc.bytes) where
    at-doc : (P : List ℕ → List ℕ → Type 0) → P address bytes → P doc.address doc.bytes
    at-doc P is = subst (λ (a : List ℕ). P a doc.bytes) same (subst (P address) is_text is)

    pub offer-runs : BegunAreWhole → (answer : Answer)
        → IsAnswerWithin mirror.capacity mirror.base mirror.kept address bytes answer new.kept
        → (Served head history address bytes → IfErr answer IsForRoom) → StandsFor (state_of after) new
        → IsAtRest (state_of after) new.kept → TakesFew (state_of before) (state_of after) mirror.kept new.kept
        → AlwaysLeaves (state_of before) (state_of after) MirrorArea (IsOfferStep mirror address bytes)
        → RunsGift head history doc kept before after
    offer-runs law answer is unrefused stands rests most leaves =
        gift-runs law answer
        (at-doc (λ a b. IsAnswerWithin mirror.capacity mirror.base mirror.kept a b answer new.kept) is)
        (at-doc (λ a b. Served head history a b → IfErr answer IsForRoom) unrefused there) stands rests most
        (at-doc (λ a b. AlwaysLeaves (state_of before) (state_of after) MirrorArea (IsOfferStep mirror a b)) leaves)

-- the disk after a whole gift
pub gift-left : (head : HeadValue) (history : List Op) (doc : SentDoc) (kept : List KeptValue)
    (disk before after : MemoryValue) → RunsGift head history doc kept before after
    → LeavesGiven head history doc None kept disk after
gift-left head history doc kept disk before after runs =
    record { after = runs.now; gift = runs.given; mirror = runs.mirror }

-- a crash before the first call
pub gift-before : (head : HeadValue) (history : List Op) (doc : SentDoc) (stop : Stop) (kept : List KeptValue)
    (disk loaded left : MemoryValue) (mirror : MirrorValue) → stop.call ≡ 0 → HasPayloadsOf disk loaded
    → IsOpenedMirror head kept loaded mirror → AreServed head history (map own_offer kept)
    → IsImageAfter loaded stop.choice left → IsCrash (state_of loaded).image_now left
    → LeavesGiven head history doc (Some stop) kept disk left
gift-before head history doc stop kept disk loaded left mirror none same opened served image crash = record {
  after = kept;
  gift = record {
    either = inl refl;
    before = λ _. refl;
    past = λ great. absurd (omega arith);
    cut = λ _. record { loaded = loaded; same = same; image = image };
    within = λ some. absurd (omega arith);
  };
  mirror = record {
    loads = left-loads (state_of loaded).image_now left (LoadsTo head.name.base kept) crash
        (opened.loads ((state_of left).content MirrorArea) (crash.among MirrorArea));
    served = served;
  };
}

module _ (head : HeadValue) (history : List Op) (doc : SentDoc) (stop : Stop) (kept : List KeptValue)
    (disk before after left : MemoryValue) (same : HasPayloadsOf disk before)
    (runs : RunsGift head history doc kept before after) (some : 0 < stop.call)
    (image : IsImageBy stop (clock_of before) after left) where
  given-into : IsGivenInto head history doc stop kept disk left
  given-into = record {
    whole = runs.now;
    given = runs.given;
    ran = after;
    mirror = runs.mirror;
    cut = record { loaded = before; same = same; later = runs.leaves.later; image = image };
    few = runs.few;
  }

  gift-past : IsCrash (state_of after).image_now left → LeavesGiven head history doc (Some stop) kept disk left
  gift-past crash = record {
    after = runs.now;
    gift = record {
      either = inr runs.given;
      before = λ none. absurd (omega arith);
      past = λ _. runs.given;
      cut = λ none. absurd (omega arith);
      within = λ _. given-into;
    };
    mirror = record {
      loads = left-loads (state_of after).image_now left (LoadsTo head.name.base runs.now) crash
          (runs.mirror.loads ((state_of left).content MirrorArea) (crash.among MirrorArea));
      served = runs.mirror.served;
    };
  }

  gift-at : IsCrashAt (state_of before).clock stop.call after left
      → LeavesGiven head history doc (Some stop) kept disk left
  gift-at at =
      let image = (state_of left).content MirrorArea in
      let found = moment-leaves before after (LoadsGiven head history doc kept) at.moment image runs.leaves at.after
      (at.crash.among MirrorArea) in
      record {
        after = found.after;
        gift = record {
          either = found.either;
          before = λ none. absurd (omega arith);
          past = λ great. absurd (omega (arith, runs.few, at.at, at.made, great));
          cut = λ none. absurd (omega arith);
          within = λ _. given-into;
        };
        mirror = record {
          loads = left-loads (λ a. (state_of after).image_at a at.moment) left (LoadsTo head.name.base found.after)
              at.crash found.loads;
          served = found.served;
        };
      }

  -- a crash within the calls of the gift, or after them
  pub gift-from : IsCrashFrom (state_of before).clock stop.call after left
      → LeavesGiven head history doc (Some stop) kept disk left
  gift-from (inl past) = gift-past past.1
  gift-from (inr at) = gift-at at
