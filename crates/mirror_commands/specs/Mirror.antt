-- `mirror` from a pile: its answer to its input and to the documents that it held.
use Rattle.std.specs.Prelude.{◌≡◌, ◌⊎◌, ℕ, ◌≤◌, List, [], ◌∷◌, ◌++◌, Bool, Option, None, Result, Ok, Err, length, map}
use Rattle.doc_source.specs.Laws.{HasRead}
use Rattle.doc_source.specs.Outside.{SourceState}
use Rattle.doc_source.specs.Pile.{IsAnswer, IsOpen}
use Rattle.doc_source.specs.declared.fault.PileFault.{PileFault}
use Rattle.doc_source.specs.declared.fault.PileFault.TheVariants as piles
use Rattle.doc_source.specs.declared.offer.Offer.{Offer}
use Rattle.mirror_walk.specs.Accept.{Answer as MirrorAnswer, IsAnswerWithin}
use Rattle.mirror_walk.specs.Holding.{KeptValue}
use Rattle.mirror_walk.specs.Offers.{Offering}
use Rattle.mirror_walk.specs.declared.answer.Offered.TheVariants.{Full as NoRoom}
use Rattle.command_ends.specs.declared.fault.Refusal.TheVariants.{BadPile, TooLong}
use Rattle.command_ends.specs.Answer.{Answer}
use Rattle.command_ends.specs.Fault.{fault_answer, refusal_answer}
use Rattle.mirror_commands.specs.MirrorFaults.{full_fault}
use Rattle.mirror_commands.specs.Report.{AreAnsweredWithin, report_of}

-- how many bytes a pile may have
abbrev pub pile_limit : ℕ
pile_limit = 1_073_741_824

-- an offer of a pile, as a mirror gets it
abbrev pub offering : Offer → Offering
offering offer = record { address = offer.address; bytes = offer.bytes }

-- these offers lie within a limit and are read one after another
pub record ReadsOffersWithin (limit : ℕ) (pile : List ℕ) (offers : List Offer) : Type 0 where
  pub used : ℕ
  pub bytes : List ℕ
  pub read : HasRead pile offers used bytes
  pub within : used ≤ limit

-- these offers lie within a limit and are read one after another, and then the reader gives this answer
pub record ReadsToWithin (limit : ℕ) (pile : List ℕ) (offers : List Offer) (last : Result (Option Offer) PileFault)
    : Type 0 where
  pub used : ℕ
  pub bytes : List ℕ
  pub read : HasRead pile offers used bytes
  pub within : used ≤ limit
  pub answer : IsAnswer used limit bytes last

-- the same within the limit of a pile
abbrev pub ReadsOffers : List ℕ → List Offer → Type 0
ReadsOffers pile offers = ReadsOffersWithin pile_limit pile offers

abbrev pub ReadsTo : List ℕ → List Offer → Result (Option Offer) PileFault → Type 0
ReadsTo pile offers last = ReadsToWithin pile_limit pile offers last

-- a mirror that held `kept` answered these offers of a pile, each within the capacity of its area
pub record HasAnswered (capacity : ℕ) (base : List ℕ) (kept : List KeptValue) (offers : List Offer)
    (left : List KeptValue) : Type 0 where
  pub answers : List MirrorAnswer
  pub answered : AreAnsweredWithin capacity base kept (map offering offers) answers left

-- the input is a pile: the answer is the report, or else the certificate, of a mirror that held `kept` before its
-- offers
pub record IsReport (report : Bool) (capacity : ℕ) (base : List ℕ) (kept : List KeptValue) (input : List ℕ)
    (given : Answer) : Type 0 where
  pub offers : List Offer
  pub read : ReadsTo input offers (Ok None)
  pub left : List KeptValue
  pub has : HasAnswered capacity base kept offers left
  pub is : given ≡ report_of report base (map offering offers) has.answers left

-- an offer of the input is to be taken and doesn't fit; those before it fitted
pub record IsFilled (capacity : ℕ) (base : List ℕ) (kept : List KeptValue) (input : List ℕ) (given : Answer)
    : Type 0 where
  pub offers : List Offer
  pub offer : Offer
  pub read : ReadsOffers input (offers ++ offer ∷ [])
  pub left : List KeptValue
  pub has : HasAnswered capacity base kept offers left
  pub size : ℕ
  pub needed : ℕ
  pub full : IsAnswerWithin capacity base left offer.address offer.bytes (Err (NoRoom size needed capacity)) left
  pub is : given ≡ fault_answer (full_fault size needed capacity)

-- a line or an offer of the input can't be read, which begins at this offset; the offers before it fitted
pub record IsBadPile (capacity : ℕ) (base : List ℕ) (kept : List KeptValue) (input : List ℕ) (given : Answer)
    : Type 0 where
  pub offers : List Offer
  pub at : ℕ
  pub read : ReadsTo input offers (Err (piles.BadPile at))
  pub left : List KeptValue
  pub has : HasAnswered capacity base kept offers left
  pub is : given ≡ refusal_answer (BadPile at)

-- the input goes on past the limit, and could be a pile up to there; the offers within it fitted
pub record IsLongPile (capacity : ℕ) (base : List ℕ) (kept : List KeptValue) (input : List ℕ) (given : Answer)
    : Type 0 where
  pub offers : List Offer
  pub read : ReadsTo input offers (Err (piles.TooLong pile_limit))
  pub left : List KeptValue
  pub has : HasAnswered capacity base kept offers left
  pub is : given ≡ refusal_answer TooLong

-- how `mirror` from a pile ends by its input
abbrev pub IsMirrored : Bool → ℕ → List ℕ → List KeptValue → List ℕ → Answer → Type 0
IsMirrored report capacity base kept input given =
    IsReport report capacity base kept input given ⊎ IsFilled capacity base kept input given
    ⊎ IsBadPile capacity base kept input given ⊎ IsLongPile capacity base kept input given

-- A call on the source of a pile failed. The bytes of the pile that were read before it lie within the limit. They are
-- these offers and the beginning of a pile's next offer, which isn't whole: the offers are all that were read, and what
-- was read is no bad pile.
pub record StopsAmidOffers (limit : ℕ) (pile rest : List ℕ) (offers : List Offer) : Type 0 where
  pub read : List ℕ
  pub from : pile ≡ read ++ rest
  pub within : length read ≤ limit
  pub used : ℕ
  pub ahead : List ℕ
  pub whole : HasRead read offers used ahead
  pub is_open : IsOpen used ahead

-- a call on the input failed amid a pile, and there was room for each offer that was read before it
pub record ReadsWithinPile (capacity : ℕ) (base : List ℕ) (kept : List KeptValue) (before after : SourceState)
    : Type 0 where
  pub offers : List Offer
  pub stops : StopsAmidOffers pile_limit before.left after.left offers
  pub left : List KeptValue
  pub has : HasAnswered capacity base kept offers left
