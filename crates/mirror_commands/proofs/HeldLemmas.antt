-- `mirror`: the documents that it holds after offers that one feed served.
use Rattle.std.proofs.Common.{◌≡◌, ℕ, List, [], ◌∷◌, Ok, Err, sym, subst}
use Rattle.std.proofs.lemmas.List.{map-append}
use Rattle.std.proofs.lemmas.List.Elements.{All-append, All-cons, All-head, All-nil, All-tail}
use Rattle.atom_writer.specs.Pieces.{text}
use Rattle.member_rules.specs.Head.{HeadValue}
use Rattle.member_rules.specs.Served.{Served}
use Rattle.member_rules.specs.declared.operation.Op.{Op}
use Rattle.mirror_walk.specs.Accept.{Answer as MirrorAnswer, IsAnswer, own_text}
use Rattle.mirror_walk.specs.Holding.{KeptValue}
use Rattle.mirror_walk.specs.Loaded.{own_offer}
use Rattle.mirror_walk.specs.Offers.{AreAnswered, AreServed, AreTakenOf, Offering}
use Rattle.mirror_walk.specs.declared.answer.Accepted.TheVariants.{Taken, Known, Stale}
use Rattle.mirror_walk.specs.declared.answer.Offered.TheVariants as refusals
use Rattle.mirror_walk.proofs.TakenLemmas.{taken-place}
use Rattle.mirror_commands.specs.Served.{own_offers}

module _ (head : HeadValue) (history : List Op) where
  abbrev IsServed : Offering → Type 0
  IsServed offer = Served head history offer.address offer.bytes

  -- one more document is held: it was offered under its own address
  more-served : (kept : List KeptValue) (offer : Offering) (answer : MirrorAnswer) (left : List KeptValue)
      → IsAnswer head.name.base kept offer.address offer.bytes answer left → IsServed offer
      → AreServed head history (own_offers kept) → AreServed head history (own_offers left)
  more-served kept offer answer left is there held = go answer is
    where
      unmoved : left ≡ kept → AreServed head history (own_offers left)
      unmoved same = subst (λ (ks : List KeptValue). AreServed head history (own_offers ks)) (sym same) held

      go : (a : MirrorAnswer) → IsAnswer head.name.base kept offer.address offer.bytes a left
          → AreServed head history (own_offers left)
      go (Ok Taken) is =
          let given = is.given in
          let place = taken-place head.name.base kept offer.address given (sym is.first_fit) in
          let one : Served head history (own_text given.document) (text given.document) =
          subst (λ (a : List ℕ). Served head history a (text given.document)) place.1
          (subst (Served head history offer.address) is.read.text there) in
          subst (λ (ks : List KeptValue). AreServed head history (own_offers ks)) (sym is.left_over)
          (subst (AreServed head history) (sym (map-append own_offer kept (given ∷ [])))
          (All-append IsServed (own_offers kept) (own_offer given ∷ []) held
          (All-cons IsServed (own_offer given) [] one (All-nil IsServed))))
      go (Ok Known) is = unmoved is.left_over
      go (Ok Stale) is = unmoved is.left_over
      go (Err (refusals.NotADocument at)) is = unmoved is.left_over
      go (Err (refusals.WrongAddress says)) is = unmoved is.left_over
      go (Err (refusals.WrongFeed one other)) is = unmoved is.left_over
      go (Err (refusals.Conflict at one other)) is = unmoved is.left_over
      go (Err (refusals.Break last first)) is = unmoved is.left_over
      go (Err (refusals.Full size needed most)) is = unmoved is.left_over
      go (Err refusals.DiskFault) is = unmoved is.left_over
      go (Err refusals.NoMemory) is = absurd is

  answered-served : (kept : List KeptValue) (offers : List Offering) (answers : List MirrorAnswer)
      (left : List KeptValue) → AreAnswered head.name.base kept offers answers left → AreServed head history offers
      → AreServed head history (own_offers kept) → AreServed head history (own_offers left)
  answered-served kept [] [] left is served held =
      subst (λ (ks : List KeptValue). AreServed head history (own_offers ks)) (sym is) held
  answered-served kept [] (answer ∷ answers) left is served held = absurd is
  answered-served kept (offer ∷ offers) [] left is served held = absurd is
  answered-served kept (offer ∷ offers) (answer ∷ answers) left (next, one, rest) served held =
      answered-served next offers answers left rest (All-tail IsServed offer offers served)
      (more-served kept offer answer next one (All-head IsServed offer offers served) held)

  -- each document that a new mirror took of served offers was served, at its own address
  pub taken-served : (offers : List Offering) (kept : List KeptValue) → AreServed head history offers
      → AreTakenOf head.name.base offers kept → AreServed head history (own_offers kept)
  taken-served offers kept served taken =
      answered-served [] offers taken.answers kept taken.answered served (All-nil IsServed)
