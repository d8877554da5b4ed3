-- The documents that a walk leaves held, where one feed served all that the source has.
use Rattle.std.proofs.Common.{ℕ, List, [], ◌∷◌, ◌++◌, Option, Ok, All, map, sym, subst}
use Rattle.std.proofs.lemmas.List.{map-append}
use Rattle.std.proofs.lemmas.List.Elements.{All-append, All-cons, All-nil}
use Rattle.atom_writer.specs.Pieces.{text}
use Rattle.chain_links.specs.Address.{printed}
use Rattle.chain_links.specs.declared.address.Address.{Address}
use Rattle.member_rules.specs.Head.{HeadValue}
use Rattle.member_rules.specs.Served.{Served}
use Rattle.member_rules.specs.declared.operation.Op.{Op}
use Rattle.mirror_walk.specs.declared.answer.Accepted.{Accepted}
use Rattle.mirror_walk.specs.declared.answer.Accepted.TheVariants.{Taken, Known, Stale}
use Rattle.mirror_walk.specs.Accept.{own_text}
use Rattle.mirror_walk.specs.Holding.{KeptValue, first_missing}
use Rattle.mirror_walk.specs.Loaded.{own_offer}
use Rattle.mirror_walk.specs.Offers.{Offering}
use Rattle.mirror_walk.specs.Published.{HoldsServed}
use Rattle.mirror_walk.specs.Walk.{IsAnswered, IsServedBy, WalkEnding, WalkSetting, Walks}
use Rattle.mirror_walk.proofs.RoomLemmas.{within-accepted}
use Rattle.mirror_walk.proofs.TakenLemmas.{taken-place}

module _ (head : HeadValue) (history : List Op) (setting : WalkSetting)
    (source : IsServedBy head history setting.answers) where
  abbrev IsServedOffer : Offering → Type 0
  IsServedOffer offer = Served head history offer.address offer.bytes

  served-more : (kept : List KeptValue) (given : KeptValue) → HoldsServed head history kept
      → Served head history (own_text given.document) (text given.document)
      → HoldsServed head history (kept ++ given ∷ [])
  served-more kept given served one =
      subst (All IsServedOffer) (sym (map-append own_offer kept (given ∷ [])))
      (All-append IsServedOffer (map own_offer kept) (own_offer given ∷ []) served
      (All-cons IsServedOffer (own_offer given) [] one (All-nil IsServedOffer)))

  answered-served : (kept : List KeptValue) (address : Address) (answer : Accepted) (left : List KeptValue)
      → HoldsServed head history kept → IsAnswered setting kept address (Ok answer) left
      → HoldsServed head history left
  answered-served kept address Taken left served answered =
      let there = printed setting.base address in
      let plain = within-accepted setting.capacity setting.base kept there answered.bytes Taken left answered.answered in
      let place = taken-place setting.base kept there plain.given (sym plain.first_fit) in
      subst (HoldsServed head history) (sym plain.left_over)
      (served-more kept plain.given served
      (subst (λ (a : List ℕ). Served head history a (text plain.given.document)) place.1
      (subst (Served head history there) plain.read.text (source there answered.bytes answered.there))))
  answered-served kept address Known left served answered =
      subst (HoldsServed head history) (sym answered.answered.left_over) served
  answered-served kept address Stale left served answered =
      subst (HoldsServed head history) (sym answered.answered.left_over) served

  pub walks-served : (asked : List Address) (accepted : List Accepted) (kept left : List KeptValue)
      (next : Option Address) (ending : WalkEnding) → HoldsServed head history kept
      → Walks setting kept next asked accepted left ending → HoldsServed head history left
  walks-served [] [] kept left next ending served walks = subst (HoldsServed head history) (sym walks.0) served
  walks-served [] (answer ∷ accepted) kept left next ending served walks = absurd walks
  walks-served (address ∷ asked) [] kept left next ending served (is, none, same, ends) =
      subst (HoldsServed head history) (sym same) served
  walks-served (address ∷ asked) (answer ∷ accepted) kept left next ending served (is, (after, answered, walks)) =
      walks-served asked accepted after left (first_missing after) ending
      (answered-served kept address answer after served answered) walks
