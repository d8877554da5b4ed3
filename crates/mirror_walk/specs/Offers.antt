-- Offers to a mirror, one after another.
use Rattle.std.specs.Prelude.{◌≡◌, ℕ, List, [], ◌∷◌, Any, All}
use Rattle.atom_writer.specs.Doc.{DocValue, IsDoc}
use Rattle.atom_writer.specs.Pieces.{text}
use Rattle.chain_links.specs.Address.{printed}
use Rattle.chain_links.specs.declared.address.Address.TheVariants.{Archive}
use Rattle.member_rules.specs.declared.operation.Op.{Op}
use Rattle.member_rules.specs.Head.{HeadValue}
use Rattle.member_rules.specs.Served.{Served}
use Rattle.mirror_walk.specs.Holding.{KeptValue}
use Rattle.mirror_walk.specs.Accept.{Answer, IsAnswer}

-- bytes that were found at an address
pub record Offering : Type 0 where
  pub address : List ℕ
  pub bytes : List ℕ

-- a mirror that holds `kept` answers the offers in order with these answers, and holds `left` afterwards
abbrev pub AreAnswered : List ℕ → List KeptValue → List Offering → List Answer → List KeptValue → Type 0
AreAnswered base kept [] [] left = left ≡ kept
AreAnswered base kept [] (answer ∷ answers) left = ⊥
AreAnswered base kept (offer ∷ offers) [] left = ⊥
AreAnswered base kept (offer ∷ offers) (answer ∷ answers) left =
    (next : List KeptValue) × IsAnswer base kept offer.address offer.bytes answer next
    × AreAnswered base next offers answers left

-- these documents are what a new mirror holds after the offers
pub record AreTakenOf (base : List ℕ) (offers : List Offering) (kept : List KeptValue) : Type 0 where
  pub answers : List Answer
  pub answered : AreAnswered base [] offers answers kept

-- the feed with this head served each offer after some of these operations
abbrev pub AreServed : HeadValue → List Op → List Offering → Type 0
AreServed head history offers =
    All (λ (offer : Offering). Served head history offer.address offer.bytes) offers

-- the document was offered
pub record IsOffered (offers : List Offering) (document : DocValue) : Type 0 where
  pub is_doc : IsDoc document
  pub there : Any (λ (offer : Offering). offer.bytes ≡ text document) offers

-- an archive was offered under the address of this number
abbrev pub IsArchiveOffered : List ℕ → List Offering → ℕ → Type 0
IsArchiveOffered base offers number =
    Any (λ (offer : Offering). offer.address ≡ printed base (Archive number)) offers
