-- Laws of piles, and of the calls of a reader taken together.
use Rattle.std.specs.Prelude.{◌≡◌, ℕ, ◌+◌, List, [], ◌∷◌, ◌++◌, Some, Ok, length, All}
use Rattle.doc_source.specs.Pile.{
  BeginsWith,
  IsEnd,
  IsOffer,
  pile_text,
  used_text,
  within,
}
use Rattle.doc_source.specs.declared.offer.Offer.{Offer}

-- a text is the pile of one list of offers at most
abbrev pub PilesHaveOneReading : Type 0
PilesHaveOneReading =
    (one other : List Offer) → All IsOffer one → All IsOffer other → pile_text one ≡ pile_text other → one ≡ other

-- the used bytes of a pile, when these offers were read: its first line is used together with the first offer
abbrev pub read_text : List Offer → List ℕ
read_text [] = []
read_text (offer ∷ offers) = pile_text (offer ∷ offers)

-- these offers of the pile were read, one after another, and these bytes of it are unused
pub record HasRead (pile : List ℕ) (offers : List Offer) (used : ℕ) (bytes : List ℕ) : Type 0 where
  pub are : All IsOffer offers
  pub whole : pile ≡ read_text offers ++ bytes
  pub counted : used ≡ length (read_text offers)

-- an offer that `next` returns is the next one of the pile
abbrev pub OffersAreReadInOrder : Type 0
OffersAreReadInOrder =
    (pile : List ℕ) (offers : List Offer) (used limit : ℕ) (bytes : List ℕ) (offer : Offer) (after : List ℕ)
    → HasRead pile offers used bytes → BeginsWith used (within used limit bytes) offer
    → bytes ≡ used_text used (Ok (Some offer)) ++ after
    → HasRead pile (offers ++ offer ∷ []) (used + length (used_text used (Ok (Some offer)))) after

-- when `next` returns None, the pile is that of the offers that were read
abbrev pub PilesAreReadWhole : Type 0
PilesAreReadWhole =
    (pile : List ℕ) (offers : List Offer) (used limit : ℕ) (bytes : List ℕ)
    → HasRead pile offers used bytes → IsEnd used limit bytes → pile ≡ pile_text offers
