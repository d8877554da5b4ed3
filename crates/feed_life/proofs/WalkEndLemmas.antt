-- A walk over the documents of a store: how it ends, and which documents it leaves held.
use Rattle.std.proofs.Common.{◌≡◌, ℕ, List, [], ◌∷◌, ◌++◌, Option, Some, None, Result, Ok, Err, length, take, map}
use Rattle.std.proofs.Common.{refl, sym, ap, ap₂, subst, ◌∙◌, arith, unwrap_or}
use Rattle.std.specs.Prelude.{Any, IfOk}
use Rattle.std.proofs.lemmas.List.{take_all}
use Rattle.std.proofs.lemmas.List.Elements.{All-append, All-contains, All-map, All-weaker}
use Rattle.std.proofs.lemmas.List.Elements.{Contains-append_right}
use Rattle.atom_writer.specs.Doc.{DocValue, IsDoc}
use Rattle.atom_writer.specs.Pieces.{own_address, text}
use Rattle.atom_writer.specs.declared.doc.Kind.TheVariants.{Subscription}
use Rattle.chain_links.specs.Address.{printed}
use Rattle.chain_links.specs.declared.address.Address.{Address}
use Rattle.chain_links.specs.declared.address.Address.TheVariants.{Feed, Archive, Member}
use Rattle.feed_life.specs.Mirrors.{EndsWhole, setting_by}
use Rattle.feed_life.specs.Walks.{IsOver}
use Rattle.feed_life.proofs.AnswerLemmas.{answers-archive, answers-feed}
use Rattle.member_rules.specs.Documents.{document_of, subscription, subscription_of}
use Rattle.member_rules.specs.Fold.{live_count}
use Rattle.member_rules.specs.Head.{HeadValue, IsHead}
use Rattle.member_rules.specs.History.{IsLawful}
use Rattle.member_rules.specs.Served.{Served}
use Rattle.member_rules.specs.Windows.{windows_of}
use Rattle.member_rules.specs.declared.operation.Op.{Op}
use Rattle.member_rules.proofs.CutLemmas.{windows-cut}
use Rattle.member_rules.proofs.DocumentRulesLemmas.{subscription-is_doc}
use Rattle.mirror_walk.specs.Accept.{own_text}
use Rattle.mirror_walk.specs.Holding.{KeptValue, best_of, first_missing, payloads_of}
use Rattle.mirror_walk.specs.Laws.{IsMissingOf, ShowsBest, ShowsServed}
use Rattle.mirror_walk.specs.Listing.{outcome_of}
use Rattle.mirror_walk.specs.Loaded.{IsLoadedOf, own_offer}
use Rattle.mirror_walk.specs.Offers.{AreServed, AreTakenOf, IsOffered, Offering}
use Rattle.mirror_walk.specs.Published.{HoldsServed}
use Rattle.mirror_walk.specs.Walk.{EndsAt, EndsBefore, HasRefusal, IsServedBy, IsWalkResult}
use Rattle.mirror_walk.specs.Walk.{WalkEnding, WalkSetting, Walks, WalksFromFeed, accepted_offers, answer_at}
use Rattle.mirror_walk.specs.Walk.WalkEnding.{cut_short, disk_failed, fetch_failed, filled, not_there}
use Rattle.mirror_walk.specs.Walk.WalkEnding.{nothing_wanted, refused}
use Rattle.mirror_walk.specs.declared.answer.Accepted.{Accepted}
use Rattle.mirror_walk.specs.declared.answer.Outcome.TheVariants.{Complete}
use Rattle.mirror_walk.specs.declared.walk.Refusal.{Refusal}
use Rattle.mirror_walk.specs.declared.walk.WalkFault.{WalkFault}
use Rattle.mirror_walk.specs.declared.walk.WalkFault.TheVariants as faults
use Rattle.mirror_walk.specs.declared.walk.Walked.{Walked}
use Rattle.mirror_walk.proofs.AcceptedLemmas.{IsHeldOf}
use Rattle.mirror_walk.proofs.FeedDocumentLemmas.{subscription-prev, version-of}
use Rattle.mirror_walk.proofs.FoundLemmas.{best_of-holds}
use Rattle.mirror_walk.proofs.MirrorLemmas.{taken-mirrored, taken_are_shown}
use Rattle.mirror_walk.proofs.OfferedLemmas.{IsOfferOf, Mirrors}
use Rattle.mirror_walk.proofs.OutcomeLemmas.{outcome-complete}
use Rattle.mirror_walk.proofs.TakenLemmas.{loaded-offered}
use Rattle.mirror_walk.proofs.WalkServedLemmas.{accepted-served, some-bytes, walk-taken, walks-loaded}

-- the documents held after a walk

-- each document held of those that were served is served at its own address
own-served : (head : HeadValue) (history : List Op) (offers : List Offering) (kept : List KeptValue)
    → AreServed head history offers → Mirrors head history offers kept → HoldsServed head history kept
own-served head history offers kept served mirrors =
    All-map (λ (offer : Offering). Served head history offer.address offer.bytes) own_offer kept
    (All-weaker (λ (k : KeptValue). Any (IsOfferOf head history k.document) offers)
    (λ (k : KeptValue). Served head history (own_text k.document) (text k.document)) own kept mirrors.offered)
  where
    own : (k : KeptValue) → Any (IsOfferOf head history k.document) offers
        → Served head history (own_text k.document) (text k.document)
    own k (i, offer, within, at, reading) =
        let here = All-contains (λ (o : Offering). Served head history o.address o.bytes) offers offer served
        (i, within, at) in
        subst (λ (a : List ℕ). Served head history a (text k.document))
        (reading.there ∙ ap (λ (b : List ℕ). printed b (own_address k.document.kind)) (sym reading.base))
        (subst (Served head history offer.address) reading.text here)

-- where a walk ends

-- how a walk ended at its next address
abbrev EndsNext : WalkSetting → Option Address → WalkEnding → Type 0
EndsNext setting next nothing_wanted = next ≡ None
EndsNext setting next not_there = (address : Address) × (next ≡ Some address) × (answer_at setting address ≡ None)
EndsNext setting next (refused why) = Unit {0}
EndsNext setting next fetch_failed = Unit {0}
EndsNext setting next (filled size needed capacity) = Unit {0}
EndsNext setting next disk_failed = Unit {0}
EndsNext setting next cut_short = Unit {0}

before-next : (setting : WalkSetting) (next : Option Address) (ending : WalkEnding) → EndsBefore next ending
    → EndsNext setting next ending
before-next setting next nothing_wanted ends = ends
before-next setting next not_there ends = absurd ends
before-next setting next (refused why) ends = tt
before-next setting next fetch_failed ends = tt
before-next setting next (filled size needed capacity) ends = tt
before-next setting next disk_failed ends = tt
before-next setting next cut_short ends = tt

at-next : (setting : WalkSetting) (kept : List KeptValue) (address : Address) (ending : WalkEnding)
    → EndsAt setting kept address ending → EndsNext setting (Some address) ending
at-next setting kept address nothing_wanted ends = absurd ends
at-next setting kept address not_there ends = (address, refl, ends)
at-next setting kept address (refused why) ends = tt
at-next setting kept address fetch_failed ends = tt
at-next setting kept address (filled size needed capacity) ends = tt
at-next setting kept address disk_failed ends = tt
at-next setting kept address cut_short ends = tt

-- after the feed's document a walk ends at the first missing document of what it holds then
walk-next : (setting : WalkSetting) (asked : List Address) (accepted : List Accepted) (kept left : List KeptValue)
    (ending : WalkEnding) → Walks setting kept (first_missing kept) asked accepted left ending
    → EndsNext setting (first_missing left) ending
walk-next setting [] [] kept left ending (same, ends) =
    subst (λ (ks : List KeptValue). EndsNext setting (first_missing ks) ending) (sym same)
    (before-next setting (first_missing kept) ending ends)
walk-next setting [] (answer ∷ accepted) kept left ending walks = absurd walks
walk-next setting (address ∷ asked) [] kept left ending (is, none, same, ends) =
    subst (λ (ks : List KeptValue). EndsNext setting (first_missing ks) ending) (sym same)
    (subst (λ (next : Option Address). EndsNext setting next ending) (sym is)
    (at-next setting kept address ending ends))
walk-next setting (address ∷ asked) (answer ∷ accepted) kept left ending (is, (after, answered, walks)) =
    walk-next setting asked accepted after left ending walks

-- the walk came to an end without a refusal and without a fault but that of a full area
abbrev Finishes : WalkEnding → Type 0
Finishes nothing_wanted = Unit {0}
Finishes not_there = Unit {0}
Finishes (filled size needed capacity) = Unit {0}
Finishes (refused why) = ⊥
Finishes fetch_failed = ⊥
Finishes disk_failed = ⊥
Finishes cut_short = ⊥

-- the result of such a walk
abbrev pub IsFinished : Result Walked WalkFault → Type 0
IsFinished (Ok walked) = walked.refused ≡ None
IsFinished (Err faults.FetchFault) = ⊥
IsFinished (Err (faults.Full size needed capacity)) = Unit {0}
IsFinished (Err faults.DiskFault) = ⊥
IsFinished (Err faults.NoMemory) = ⊥

pub over-finished : (result : Result Walked WalkFault) → IsOver result
    → IfOk result (λ walked. walked.refused ≡ None) → IsFinished result
over-finished (Ok walked) over none = none
over-finished (Err faults.FetchFault) over none = over
over-finished (Err (faults.Full size needed capacity)) over none = tt
over-finished (Err faults.DiskFault) over none = over
over-finished (Err faults.NoMemory) over none = over

unrefused-finishes : (asked : List Address) (ending : WalkEnding) (refusal : Option Refusal) → refusal ≡ None
    → HasRefusal asked ending refusal → Finishes ending
unrefused-finishes asked nothing_wanted refusal none has = tt
unrefused-finishes asked not_there refusal none has = tt
unrefused-finishes asked (refused why) refusal none has = absurd (let is = has.is in cc)
unrefused-finishes asked fetch_failed refusal none has = absurd has
unrefused-finishes asked (filled size needed capacity) refusal none has = absurd has
unrefused-finishes asked disk_failed refusal none has = absurd has
unrefused-finishes asked cut_short refusal none has = absurd has

result-finishes : (asked : List Address) (accepted : List Accepted) (left : List KeptValue) (ending : WalkEnding)
    (result : Result Walked WalkFault) → IsFinished result → IsWalkResult asked accepted left ending result
    → Finishes ending
result-finishes asked accepted left ending (Ok walked) finished is =
    unrefused-finishes asked ending walked.refused finished is.refusal
result-finishes asked accepted left ending (Err faults.FetchFault) finished is = absurd finished
result-finishes asked accepted left ending (Err (faults.Full size needed capacity)) finished is =
    subst Finishes (sym is) tt
result-finishes asked accepted left ending (Err faults.DiskFault) finished is = absurd finished
result-finishes asked accepted left ending (Err faults.NoMemory) finished is = absurd finished

module _ (head : HeadValue) (history : List Op) (is_head : IsHead head) (lawful : IsLawful head history) where
  -- the subscription document of the whole history

  newest-doc : IsDoc (subscription head history)
  unfolding subscription
  newest-doc =
      subscription-is_doc (windows_of head history).ends (windows_of head history).sealed head history is_head lawful
      (windows-cut head history is_head.limits.window)

  newest-kind : (subscription head history).kind ≡ Subscription
  unfolding subscription subscription_of document_of
  newest-kind = refl

  newest-last : (subscription head history).span.last ≡ length history
  unfolding subscription subscription_of document_of
  newest-last = refl

  -- the store has it at the feed's address
  feed-there : answer_at (setting_by head history) Feed ≡ Some (text (subscription head history))
  feed-there = answers-feed head history (printed head.name.base Feed) refl

  -- once it was offered
  module _ (offers : List Offering) (held : List KeptValue) (served : AreServed head history offers)
      (taken : AreTakenOf head.name.base offers held)
      (there : Any (λ (offer : Offering). offer.bytes ≡ text (subscription head history)) offers) where
    newest-offered : IsOffered offers (subscription head history)
    newest-offered = record { is_doc = newest-doc; there = there }

    mirrors : Mirrors head history offers held
    mirrors = taken-mirrored head.name.base held head history offers refl served taken

    -- the best subscription document is that of the whole history
    record IsWholeBest (best : KeptValue) : Type 0 where
      best_is : best_of held ≡ Some best
      shows : ShowsBest head history offers held best
      last : best.document.span.last ≡ length history
      prev : best.document.prev ≡ (windows_of head history).sealed

    all-of : (count : ℕ) → count ≡ length history → take count history ≡ history
    all-of count is = take_all count history (omega (arith, is))

    whole-best : (best : KeptValue) × IsWholeBest best
    whole-best =
        go (best_of held) refl (taken_are_shown head.name.base held head history offers refl served taken)
      where
        go : (found : Option KeptValue) → best_of held ≡ found → ShowsServed head history offers held found
            → (best : KeptValue) × IsWholeBest best
        go None e shows = absurd (shows.none_offered (subscription head history) newest-offered newest-kind)
        go (Some best) e shows =
            let found = best_of-holds (IsHeldOf head history) held best mirrors.held e in
            let version = version-of head history best.document found.1 found.0.of_feed in
            let greatest = shows.newest.greatest (subscription head history) newest-offered newest-kind in
            let last : best.document.span.last ≡ length history = omega
            (arith, greatest, newest-last, version.past) in (
              best,
              record {
                best_is = e;
                shows = shows;
                last = last;
                prev = ap (λ (d : DocValue). d.prev) version.same
                    ∙ subscription-prev head (take best.document.span.last history)
                    ∙ ap (λ (past : List Op). (windows_of head past).sealed) (all-of best.document.span.last last);
              },
            )

    -- if nothing is missing, the mirror is complete at the whole history
    whole-complete : first_missing held ≡ None → outcome_of held ≡ Complete (length history) (live_count history)
    whole-complete none =
        let (best, whole) = whole-best in
        let version = whole.shows.live none in
        outcome-complete held best whole.best_is none
        ∙ ap₂ (λ (last live : ℕ). Complete last live) whole.last
        (version.fold.count ∙ ap live_count (all-of best.document.span.last whole.last))

    -- the store has each document that may be missing
    missing-there : (address : Address) → first_missing held ≡ Some address
        → answer_at (setting_by head history) address ≡ None → ⊥
    missing-there address is none =
        of address
        (subst (IsMissingOf head.name.base offers whole-best.0.document.prev) is whole-best.1.shows.missing) none
      where
        of : (address : Address)
            → IsMissingOf head.name.base offers whole-best.0.document.prev (Some address)
            → answer_at (setting_by head history) address ≡ None → ⊥
        of Feed missing none = missing
        of (Member number) missing none = missing
        of (Archive number) missing none =
            let some = answers-archive head history (printed head.name.base (Archive number)) is_head lawful number
            missing.needed.0 (omega (arith, missing.needed.1, whole-best.1.prev)) refl in
            absurd (cc)

    ends-whole : (ending : WalkEnding) → EndsNext (setting_by head history) (first_missing held) ending
        → Finishes ending → EndsWhole history held ending
    ends-whole nothing_wanted ends finishes = whole-complete ends
    ends-whole not_there (address, is, none) finishes = missing-there address is none
    ends-whole (filled size needed capacity) ends finishes = tt
    ends-whole (refused why) ends finishes = finishes
    ends-whole fetch_failed ends finishes = finishes
    ends-whole disk_failed ends finishes = finishes
    ends-whole cut_short ends finishes = finishes

  -- a walk from the feed's document

  module _ (kept : List KeptValue) (loaded : IsLoadedOf head.name.base (payloads_of kept) kept)
      (own : HoldsServed head history kept) (source : IsServedBy head history (setting_by head history).answers) where
    abbrev walk_offers : List Address → List Accepted → List Offering
    walk_offers asked accepted = map own_offer kept ++ accepted_offers (setting_by head history) asked accepted

    offers-served : (asked : List Address) (accepted : List Accepted) (left : List KeptValue) (ending : WalkEnding)
        → WalksFromFeed (setting_by head history) kept asked accepted left ending
        → AreServed head history (walk_offers asked accepted)
    offers-served asked accepted left ending walks =
        All-append (λ (offer : Offering). Served head history offer.address offer.bytes) (map own_offer kept)
        (accepted_offers (setting_by head history) asked accepted) own
        (accepted-served head history (setting_by head history) source asked accepted kept left
        (Some Feed) ending walks)

    offers-taken : (asked : List Address) (accepted : List Accepted) (left : List KeptValue) (ending : WalkEnding)
        → WalksFromFeed (setting_by head history) kept asked accepted left ending
        → AreTakenOf head.name.base (walk_offers asked accepted) left
    offers-taken asked accepted left ending walks =
        walk-taken (setting_by head history) (map own_offer kept) asked accepted kept left (Some Feed) ending
        (loaded-offered head.name.base (payloads_of kept) kept loaded) walks

    -- the documents held afterwards load, and were served
    pub walk-loaded : (asked : List Address) (accepted : List Accepted) (left : List KeptValue) (ending : WalkEnding)
        → WalksFromFeed (setting_by head history) kept asked accepted left ending
        → IsLoadedOf head.name.base (payloads_of left) left
    walk-loaded asked accepted left ending walks =
        walks-loaded (setting_by head history) asked accepted kept left (Some Feed) ending walks loaded

    pub walk-holds : (asked : List Address) (accepted : List Accepted) (left : List KeptValue) (ending : WalkEnding)
        → WalksFromFeed (setting_by head history) kept asked accepted left ending → HoldsServed head history left
    walk-holds asked accepted left ending walks =
        let served = offers-served asked accepted left ending walks in
        own-served head history (walk_offers asked accepted) left served
        (taken-mirrored head.name.base left head history (walk_offers asked accepted) refl served
        (offers-taken asked accepted left ending walks))

    -- the walk that finished ended whole
    walk-whole : (asked : List Address) (accepted : List Accepted) (left : List KeptValue) (ending : WalkEnding)
        → WalksFromFeed (setting_by head history) kept asked accepted left ending → Finishes ending
        → EndsWhole history left ending
    walk-whole [] [] left nothing_wanted (same, ends) finishes = absurd (cc)
    walk-whole [] [] left not_there (same, ends) finishes = ends
    walk-whole [] [] left (filled size needed capacity) (same, ends) finishes = tt
    walk-whole [] [] left (refused why) (same, ends) finishes = finishes
    walk-whole [] [] left fetch_failed (same, ends) finishes = finishes
    walk-whole [] [] left disk_failed (same, ends) finishes = finishes
    walk-whole [] [] left cut_short (same, ends) finishes = finishes
    walk-whole [] (answer ∷ accepted) left ending walks finishes = absurd walks
    walk-whole (address ∷ asked) [] left nothing_wanted (is, none, same, ends) finishes = absurd ends
    walk-whole (address ∷ asked) [] left not_there (is, none, same, ends) finishes =
        let feed : Feed ≡ address = cc in
        let there = feed-there in
        let none = subst (λ (a : Address). answer_at (setting_by head history) a ≡ None) (sym feed) ends in
        absurd (cc)
    walk-whole (address ∷ asked) [] left (filled size needed capacity) (is, none, same, ends) finishes = tt
    walk-whole (address ∷ asked) [] left (refused why) (is, none, same, ends) finishes = finishes
    walk-whole (address ∷ asked) [] left fetch_failed (is, none, same, ends) finishes = finishes
    walk-whole (address ∷ asked) [] left disk_failed (is, none, same, ends) finishes = finishes
    walk-whole (address ∷ asked) [] left cut_short (is, none, same, ends) finishes = finishes
    walk-whole (address ∷ asked) (answer ∷ accepted) left ending (is, (after, answered, walks)) finishes =
        let setting = setting_by head history in
        let whole : WalksFromFeed setting kept (address ∷ asked) (answer ∷ accepted) left ending =
        (is, (after, answered, walks)) in
        let feed : Feed ≡ address = cc in
        let bytes = subst (λ (a : Address). unwrap_or (answer_at setting a) [] ≡ text (subscription head history)) feed
        (some-bytes (answer_at setting Feed) (text (subscription head history)) feed-there) in
        let first : Offering = record
        { address = printed setting.base address; bytes = unwrap_or (answer_at setting address) [] } in
        let there = Contains-append_right (map own_offer kept)
        (accepted_offers setting (address ∷ asked) (answer ∷ accepted)) first (0, omega arith, refl) in
        ends-whole (walk_offers (address ∷ asked) (answer ∷ accepted)) left
        (offers-served (address ∷ asked) (answer ∷ accepted) left ending whole)
        (offers-taken (address ∷ asked) (answer ∷ accepted) left ending whole)
        (there.0, first, there.1, there.2, bytes) ending
        (walk-next setting asked accepted after left ending walks) finishes

    pub walk-ends : (asked : List Address) (accepted : List Accepted) (left : List KeptValue) (ending : WalkEnding)
        (result : Result Walked WalkFault)
        → WalksFromFeed (setting_by head history) kept asked accepted left ending → IsFinished result
        → IsWalkResult asked accepted left ending result → EndsWhole history left ending
    walk-ends asked accepted left ending result walks finished is =
        walk-whole asked accepted left ending walks (result-finishes asked accepted left ending result finished is)
