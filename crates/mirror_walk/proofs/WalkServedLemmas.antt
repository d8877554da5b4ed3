-- The documents that a walk takes, as offers to the mirror. If one feed served them, it refuses none.
use Rattle.std.proofs.Common.{◌≡◌, ℕ, List, [], ◌∷◌, ◌++◌, Option, Some, None, Ok, Err, refl, sym, subst, ◌∙◌}
use Rattle.std.proofs.Common.{map, unwrap_or}
use Rattle.std.proofs.lemmas.List.Elements.{All-cons, All-nil}
use Rattle.chain_links.specs.Address.{printed}
use Rattle.chain_links.specs.declared.address.Address.{Address}
use Rattle.chain_links.specs.declared.address.Address.TheVariants.{Feed}
use Rattle.member_rules.specs.Head.{HeadValue}
use Rattle.member_rules.specs.declared.operation.Op.{Op}
use Rattle.member_rules.specs.Served.{Served}
use Rattle.mirror_walk.specs.declared.answer.Accepted.{Accepted}
use Rattle.mirror_walk.specs.declared.answer.Accepted.TheVariants.{Taken, Known, Stale}
use Rattle.mirror_walk.specs.declared.answer.Offered.{Offered}
use Rattle.mirror_walk.specs.declared.walk.Refusal.{Refusal}
use Rattle.mirror_walk.specs.declared.walk.Visits.{Visits}
use Rattle.mirror_walk.specs.declared.walk.WalkFault.TheVariants.{NoMemory}
use Rattle.mirror_walk.specs.declared.walk.Walked.{Walked}
use Rattle.mirror_walk.specs.Accept.{Answer, IsAnswer, IsForRoom}
use Rattle.mirror_walk.specs.Holding.{KeptValue, first_missing, payloads_of}
use Rattle.mirror_walk.specs.Loaded.{IsLoadedOf}
use Rattle.mirror_walk.specs.Offers.{AreAnswered, AreServed, AreTakenOf, Offering}
use Rattle.mirror_walk.specs.Visit.{HasVisited}
use Rattle.mirror_walk.specs.Walk.{EndsAt, EndsBefore, HasRefusal, HasWalked, IsAnswered, IsServedBy}
use Rattle.mirror_walk.specs.Walk.{WalkEnding, WalkSetting, Walks, accepted_offers, answer_at, offering_at}
use Rattle.mirror_walk.specs.Walk.WalkEnding.{nothing_wanted, not_there, refused, fetch_failed, filled}
use Rattle.mirror_walk.specs.Walk.WalkEnding.{cut_short, disk_failed}
use Rattle.mirror_walk.proofs.MirrorLemmas.{taken-mirrored}
use Rattle.mirror_walk.proofs.OfferedLemmas.{Mirrors, answer-mirrored}
use Rattle.mirror_walk.proofs.WalkRunLemmas.{walks-cut}
use Rattle.mirror_walk.proofs.RoomLemmas.{within-accepted, within-refused}
use Rattle.mirror_walk.proofs.TakenLemmas.{kept-text, loaded-more, taken-next}

-- the documents of a walk, as offers

-- offers after others
answered-append : (base : List ℕ) (offers more : List Offering) (answers others : List Answer)
    (kept middle left : List KeptValue) → AreAnswered base kept offers answers middle
    → AreAnswered base middle more others left → AreAnswered base kept (offers ++ more) (answers ++ others)
    left
answered-append base [] more [] others kept middle left first second =
    subst (λ (l : List KeptValue). AreAnswered base l more others left) first second
answered-append base [] more (answer ∷ answers) others kept middle left first second = absurd first
answered-append base (offer ∷ offers) more [] others kept middle left first second = absurd first
answered-append base (offer ∷ offers) more (answer ∷ answers) others kept middle left (next, one, rest) second
    =
    (next, one, answered-append base offers more answers others next middle left rest second)

pub some-bytes : (found : Option (List ℕ)) (bytes : List ℕ) → found ≡ Some bytes → unwrap_or found [] ≡ bytes
some-bytes None bytes e = cc
some-bytes (Some other) bytes e = cc

-- the answer to a document of the walk is the answer to its offer
offered-answer : (setting : WalkSetting) (kept : List KeptValue) (address : Address) (answer : Accepted)
    (left : List KeptValue) → IsAnswered setting kept address (Ok answer) left → let offer = offering_at
    setting address in
    IsAnswer setting.base kept offer.address offer.bytes (Ok answer) left
offered-answer setting kept address answer left answered =
    subst (λ (bytes : List ℕ). IsAnswer setting.base kept (printed setting.base address) bytes (Ok answer)
    left)
    (sym (some-bytes (answer_at setting address) answered.bytes answered.there))
    (within-accepted setting.capacity setting.base kept (printed setting.base address) answered.bytes answer
    left
    answered.answered)

walk-answered : (setting : WalkSetting) (asked : List Address) (accepted : List Accepted)
    (kept left : List KeptValue)
    (next : Option Address) (ending : WalkEnding) → Walks setting kept next asked accepted left ending
    → AreAnswered setting.base kept (accepted_offers setting asked accepted) (map Ok accepted) left
walk-answered setting [] [] kept left next ending walks = walks.0
walk-answered setting [] (answer ∷ accepted) kept left next ending walks = absurd walks
walk-answered setting (address ∷ asked) [] kept left next ending (is, none, same, ends) = same
walk-answered setting (address ∷ asked) (answer ∷ accepted) kept left next ending
    (is, (after, answered, walks)) = (
      after,
      offered-answer setting kept address answer after answered,
      walk-answered setting asked accepted after left (first_missing after) ending walks,
    )

-- the documents held after a walk are those of the offers before and of the accepted ones
pub walk-taken : (setting : WalkSetting) (offers : List Offering) (asked : List Address)
    (accepted : List Accepted)
    (kept left : List KeptValue) (next : Option Address) (ending : WalkEnding) → AreTakenOf setting.base
    offers kept
    → Walks setting kept next asked accepted left ending
    → AreTakenOf setting.base (offers ++ accepted_offers setting asked accepted) left
walk-taken setting offers asked accepted kept left next ending taken walks = record {
  answers = taken.answers ++ map Ok accepted;
  answered = answered-append setting.base offers (accepted_offers setting asked accepted) taken.answers
      (map Ok accepted) [] kept left taken.answered
      (walk-answered setting asked accepted kept left next ending walks);
}

-- a walk over documents that one feed served

abbrev IsNoRefusal : WalkEnding → Type 0
IsNoRefusal (refused why) = ⊥
IsNoRefusal nothing_wanted = Unit {0}
IsNoRefusal not_there = Unit {0}
IsNoRefusal fetch_failed = Unit {0}
IsNoRefusal (filled size needed capacity) = Unit {0}
IsNoRefusal disk_failed = Unit {0}
IsNoRefusal cut_short = Unit {0}

module _ (head : HeadValue) (history : List Op) (setting : WalkSetting) (same : setting.base ≡ head.name.base)
    (served : IsServedBy head history setting.answers) where
  accepted-mirrored : (past : List Offering) (kept : List KeptValue) (address : Address) (answer : Accepted)
      (left : List KeptValue) → Mirrors head history past kept → IsAnswered setting kept address (Ok answer)
      left
      → (offer : Offering) × Mirrors head history (past ++ offer ∷ []) left
  accepted-mirrored past kept address answer left mirrors answered =
      let there = printed setting.base address in
      let offer : Offering = record { address = there; bytes = answered.bytes } in
      let is : IsAnswer setting.base kept there answered.bytes (Ok answer) left =
      within-accepted setting.capacity setting.base kept there answered.bytes answer left answered.answered in (
        offer,
        (answer-mirrored head history past kept left offer (Ok answer) mirrors
            (served there answered.bytes answered.there)
            (subst (λ (base : List ℕ). IsAnswer base kept there answered.bytes (Ok answer) left) same is)).1,
      )

  not-refused : (past : List Offering) (kept : List KeptValue) (address : Address) (why : Offered)
      → Mirrors head history past kept → ¬ IsForRoom why → IsAnswered setting kept address (Err why) kept → ⊥
  not-refused past kept address why mirrors of_document answered =
      let there = printed setting.base address in
      let offer : Offering = record { address = there; bytes = answered.bytes } in
      let is : IsAnswer setting.base kept there answered.bytes (Err why) kept =
      within-refused setting.capacity setting.base kept there answered.bytes why kept of_document
      answered.answered in
      let ok = (answer-mirrored head history past kept kept offer (Err why) mirrors
      (served there answered.bytes answered.there)
      (subst (λ (base : List ℕ). IsAnswer base kept there answered.bytes (Err why) kept) same is)).0 in
      cc ok

  ends-served : (past : List Offering) (kept : List KeptValue) (address : Address) (ending : WalkEnding)
      → Mirrors head history past kept → EndsAt setting kept address ending → IsNoRefusal ending
  ends-served past kept address (refused why) mirrors (of_document, answered) =
      not-refused past kept address why mirrors of_document answered
  ends-served past kept address nothing_wanted mirrors ends = tt
  ends-served past kept address not_there mirrors ends = tt
  ends-served past kept address fetch_failed mirrors ends = tt
  ends-served past kept address (filled size needed capacity) mirrors ends = tt
  ends-served past kept address disk_failed mirrors ends = tt
  ends-served past kept address cut_short mirrors ends = tt

  before-served : (next : Option Address) (ending : WalkEnding) → EndsBefore next ending → IsNoRefusal ending
  before-served next (refused why) ends = ends
  before-served next nothing_wanted ends = tt
  before-served next not_there ends = tt
  before-served next fetch_failed ends = tt
  before-served next (filled size needed capacity) ends = tt
  before-served next disk_failed ends = tt
  before-served next cut_short ends = tt

  walk-served : (past : List Offering) (asked : List Address) (accepted : List Accepted)
      (kept left : List KeptValue)
      (next : Option Address) (ending : WalkEnding) → Mirrors head history past kept
      → Walks setting kept next asked accepted left ending → IsNoRefusal ending
  walk-served past [] [] kept left next ending mirrors (held, ends) = before-served next ending ends
  walk-served past [] (answer ∷ accepted) kept left next ending mirrors walks = absurd walks
  walk-served past (address ∷ asked) [] kept left next ending mirrors (is, none, held, ends) =
      ends-served past kept address ending mirrors ends
  walk-served past (address ∷ asked) (answer ∷ accepted) kept left next ending mirrors
      (is, (after, answered, walks)) =
      let more = accepted-mirrored past kept address answer after mirrors answered in
      walk-served (past ++ more.0 ∷ []) asked accepted after left (first_missing after) ending more.1 walks

no-refusal : (asked : List Address) (ending : WalkEnding) (refusal : Option Refusal) → IsNoRefusal ending
    → HasRefusal asked ending refusal → refusal ≡ None
no-refusal asked (refused why) refusal is has = absurd is
no-refusal asked nothing_wanted refusal is has = has
no-refusal asked not_there refusal is has = has
no-refusal asked fetch_failed refusal is has = absurd has
no-refusal asked (filled size needed capacity) refusal is has = absurd has
no-refusal asked disk_failed refusal is has = absurd has
no-refusal asked cut_short refusal is has = absurd has

-- `Mirror::walk`: the clause `served`
pub visited-served : (setting : WalkSetting) (kept now : List KeptValue) (before after : List (List ℕ))
    (made : Visits)
    → HasVisited setting kept now before after (Ok made) → (head : HeadValue) (history : List Op)
    (offers : List Offering) → setting.base ≡ head.name.base → AreServed head history offers
    → AreTakenOf setting.base offers kept → IsServedBy head history setting.answers → made.refused ≡ None
visited-served setting kept now before after made has head history offers same served taken source =
    no-refusal has.asked has.ending made.refused
    (walk-served head history setting same source offers has.asked has.accepted kept has.held (Some Feed)
    has.ending
    (taken-mirrored setting.base kept head history offers same served taken) has.walks)
    has.result.1

-- a walk over documents that one feed served, for the crates above: its result has no refusal
pub walked-served : (setting : WalkSetting) (kept left : List KeptValue) (before after : List (List ℕ))
    (walked : Walked) → HasWalked setting kept left before after (Ok walked) → (head : HeadValue)
    (history : List Op) (offers : List Offering) → setting.base ≡ head.name.base
    → AreServed head history offers → AreTakenOf setting.base offers kept
    → IsServedBy head history setting.answers → walked.refused ≡ None
walked-served setting kept left before after walked has head history offers same served taken source =
    no-refusal has.asked has.ending walked.refused
    (walk-served head history setting same source offers has.asked has.accepted kept has.held (Some Feed)
    has.ending
    (taken-mirrored setting.base kept head history offers same served taken) has.walks)
    has.result.refusal

-- `Mirror::walk`: the clause `walked` where there is no memory for the outcome
pub visited-cut : (setting : WalkSetting) (kept now left : List KeptValue) (before after : List (List ℕ))
    (made : Visits) → HasVisited setting kept now before after (Ok made) → left ≡ now
    → HasWalked setting kept left before after (Err NoMemory)
visited-cut setting kept now left before after made has same = record {
  asked = has.asked;
  accepted = has.accepted;
  held = has.held;
  ending = cut_short;
  walks = walks-cut setting has.asked has.accepted kept has.held (Some Feed) has.ending has.walks;
  addresses = has.addresses;
  left = λ works. same ∙ has.left (λ e. cc);
  result = refl;
}

answered-loaded : (setting : WalkSetting) (kept : List KeptValue) (address : Address) (answer : Accepted)
    (left : List KeptValue) → IsLoadedOf setting.base (payloads_of kept) kept
    → IsAnswered setting kept address (Ok answer) left → IsLoadedOf setting.base (payloads_of left) left
answered-loaded setting kept address Taken left loaded answered =
    let there = printed setting.base address in
    let plain = within-accepted setting.capacity setting.base kept there answered.bytes Taken left answered.answered in
    subst (λ (ks : List KeptValue). IsLoadedOf setting.base (payloads_of ks) ks) (sym plain.left_over)
    (loaded-more setting.base kept plain.given loaded (kept-text answered.bytes plain.given plain.read)
    (taken-next setting.base kept there plain.given (sym plain.first_fit)))
answered-loaded setting kept address Known left loaded answered =
    subst (λ (ks : List KeptValue). IsLoadedOf setting.base (payloads_of ks) ks)
    (sym answered.answered.left_over) loaded
answered-loaded setting kept address Stale left loaded answered =
    subst (λ (ks : List KeptValue). IsLoadedOf setting.base (payloads_of ks) ks)
    (sym answered.answered.left_over) loaded

-- the documents that a walk leaves held were taken one after another, for the crates above
pub walks-loaded : (setting : WalkSetting) (asked : List Address) (accepted : List Accepted)
    (kept left : List KeptValue)
    (next : Option Address) (ending : WalkEnding) → Walks setting kept next asked accepted left ending
    → IsLoadedOf setting.base (payloads_of kept) kept → IsLoadedOf setting.base (payloads_of left) left
walks-loaded setting [] [] kept left next ending walks loaded =
    subst (λ (ks : List KeptValue). IsLoadedOf setting.base (payloads_of ks) ks) (sym walks.0) loaded
walks-loaded setting [] (answer ∷ accepted) kept left next ending walks loaded = absurd walks
walks-loaded setting (address ∷ asked) [] kept left next ending (is, none, same, ends) loaded =
    subst (λ (ks : List KeptValue). IsLoadedOf setting.base (payloads_of ks) ks) (sym same) loaded
walks-loaded setting (address ∷ asked) (answer ∷ accepted) kept left next ending (is, (after, answered, walks)) loaded =
    walks-loaded setting asked accepted after left (first_missing after) ending walks
    (answered-loaded setting kept address answer after loaded answered)

-- the documents that a walk accepted were served, for the crates above
pub accepted-served : (head : HeadValue) (history : List Op) (setting : WalkSetting)
    → IsServedBy head history setting.answers → (asked : List Address) (accepted : List Accepted)
    (kept left : List KeptValue) (next : Option Address) (ending : WalkEnding)
    → Walks setting kept next asked accepted left ending
    → AreServed head history (accepted_offers setting asked accepted)
accepted-served head history setting served [] [] kept left next ending walks =
    All-nil (λ (offer : Offering). Served head history offer.address offer.bytes)
accepted-served head history setting served [] (answer ∷ accepted) kept left next ending walks = absurd walks
accepted-served head history setting served (address ∷ asked) [] kept left next ending walks =
    All-nil (λ (offer : Offering). Served head history offer.address offer.bytes)
accepted-served head history setting served (address ∷ asked) (answer ∷ accepted) kept left next ending
    (is, (after, answered, walks)) =
    let there = printed setting.base address in
    All-cons (λ (offer : Offering). Served head history offer.address offer.bytes) _ _
    (subst (Served head history there) (sym (some-bytes (answer_at setting address) answered.bytes answered.there))
    (served there answered.bytes answered.there))
    (accepted-served head history setting served asked accepted after left (first_missing after) ending walks)
