-- The text of a pile of offers, and the answer that the bytes of a source have.
use Rattle.std.specs.Prelude.{◌≡◌, ◌≢◌, ℕ, ◌+◌, ◌-◌, ◌<◌, ◌≤◌, List, [], ◌∷◌, ◌++◌, ◌==◌, if◌then◌else◌, Option, None, Some, Result, Ok, Err, length, take, All, codes, decimal, flat_map}
use Rattle.atom_values.specs.Ascii.{lf, space}
use Rattle.feed_disk.specs.Raised.{RisesAtMost}
use Rattle.doc_source.specs.Outside.{SourceState}
use Rattle.doc_source.specs.declared.fault.PileFault.{PileFault}
use Rattle.doc_source.specs.declared.fault.PileFault.TheVariants.{BadPile, TooLong, SourceFault, NoMemory}
use Rattle.doc_source.specs.declared.offer.Offer.{Offer}

-- the most bytes of an address, and of the bytes offered under it
abbrev pub address_limit : ℕ
address_limit = 1_024

abbrev pub offer_limit : ℕ
offer_limit = 67_108_864

-- the first line of a pile
abbrev pub pile_head : List ℕ
pile_head = codes "pile 1\n"

-- an address has 1 to 1,024 bytes, and no space and no LF among them
pub record IsAddress (address : List ℕ) : Type 0 where
  pub some : 0 < length address
  pub short : length address ≤ address_limit
  pub no_space : All (λ b. b ≢ space) address
  pub no_lf : All (λ b. b ≢ lf) address

-- an offer that a pile can have
pub record IsOffer (offer : Offer) : Type 0 where
  pub address : IsAddress offer.address
  pub short : length offer.bytes ≤ offer_limit

-- the end of an offer's first line: a space, the number of its bytes, and LF
abbrev pub count_text : ℕ → List ℕ
count_text count = space ∷ (decimal count ++ lf ∷ [])

-- the first line of an offer: its address, and that end
abbrev pub line_text : List ℕ → ℕ → List ℕ
line_text address count = address ++ count_text count

-- an offer: its first line, its bytes, and LF
abbrev pub offer_text : Offer → List ℕ
offer_text offer = line_text offer.address (length offer.bytes) ++ (offer.bytes ++ lf ∷ [])

-- a pile: its first line and its offers
abbrev pub pile_text : List Offer → List ℕ
pile_text offers = pile_head ++ flat_map offer_text offers

-- the first line of the pile, where no byte of the pile was used yet
abbrev pub head_at : ℕ → List ℕ
head_at used = if used == 0 then pile_head else []

-- the bytes are a prefix of what some pile has after its first `used` bytes, which are whole offers
pub record GoesOn (used : ℕ) (bytes : List ℕ) : Type 0 where
  pub offers : List Offer
  pub more : List ℕ
  pub are : All IsOffer offers
  pub whole : head_at used ++ flat_map offer_text offers ≡ bytes ++ more

-- the bytes begin with this offer
pub record BeginsWith (used : ℕ) (bytes : List ℕ) (offer : Offer) : Type 0 where
  pub rest : List ℕ
  pub is_offer : IsOffer offer
  pub whole : bytes ≡ head_at used ++ (offer_text offer ++ rest)

abbrev pub HasNoOffer : ℕ → List ℕ → Type 0
HasNoOffer used bytes = (offer : Offer) → ¬ BeginsWith used bytes offer

-- no offer is whole among the bytes, and they go on to a pile
pub record IsOpen (used : ℕ) (bytes : List ℕ) : Type 0 where
  pub no_offer : HasNoOffer used bytes
  pub goes_on : GoesOn used bytes

-- a reader of a pile: the bytes that it took from its source and didn't use, how many bytes of the pile it used before
-- them, how many bytes a pile may have, and the refusal that each further call gives
pub record PileState : Type 0 where
  pub ahead : List ℕ
  pub used : ℕ
  pub limit : ℕ
  pub refusal : Option PileFault

-- the unused bytes of the pile
abbrev pub unused : PileState → SourceState → List ℕ
unused reader source = reader.ahead ++ source.left

-- how many bytes of the pile a reader took from its source
abbrev pub taken_by : PileState → ℕ
taken_by reader = reader.used + length reader.ahead

-- the reader took all bytes that were read of its source, by the source's count of them
pub record TakesRead (before after : PileState) (counted counted_after : ℕ) : Type 0 where
  pub later : taken_by before ≤ taken_by after
  pub read : RisesAtMost (taken_by after - taken_by before) counted counted_after

-- those of the unused bytes that lie within the limit
abbrev pub within : ℕ → ℕ → List ℕ → List ℕ
within used limit bytes = take (limit - used) bytes

-- nothing is left of the pile but its first line, if that was not used yet
pub record IsEnd (used limit : ℕ) (bytes : List ℕ) : Type 0 where
  pub whole : bytes ≡ head_at used
  pub short : length bytes ≤ limit - used

-- no offer is whole within the limit, the bytes go on after it, and a pile can begin with those within it
pub record IsTooLong (used limit : ℕ) (bytes : List ℕ) : Type 0 where
  pub no_offer : HasNoOffer used (within used limit bytes)
  pub more : limit - used < length bytes
  pub goes_on : GoesOn used (within used limit bytes)

-- the bytes begin with the first line of a pile
abbrev pub BeginsPile : List ℕ → Type 0
BeginsPile bytes = (rest : List ℕ) × (bytes ≡ pile_head ++ rest)

-- the offset at which the line or the offer begins that can't be read
pub record IsPlace (used : ℕ) (bytes : List ℕ) (at : ℕ) : Type 0 where
  pub behind_offers : used ≢ 0 → at ≡ used
  pub behind_head : used ≡ 0 → BeginsPile bytes → at ≡ length pile_head
  pub in_head : used ≡ 0 → ¬ BeginsPile bytes → at ≡ 0

-- no pile follows: no offer is whole within the limit, and the bytes neither end nor are too long
pub record IsBad (used limit : ℕ) (bytes : List ℕ) (at : ℕ) : Type 0 where
  pub no_offer : HasNoOffer used (within used limit bytes)
  pub no_end : ¬ IsEnd used limit bytes
  pub not_too_long : ¬ IsTooLong used limit bytes
  pub place : IsPlace used bytes at

-- the answer to a call of `next` by the unused bytes; the last two say nothing of the bytes
abbrev pub IsAnswer : ℕ → ℕ → List ℕ → Result (Option Offer) PileFault → Type 0
IsAnswer used limit bytes (Ok (Some offer)) = BeginsWith used (within used limit bytes) offer
IsAnswer used limit bytes (Ok None) = IsEnd used limit bytes
IsAnswer used limit bytes (Err (BadPile at)) = IsBad used limit bytes at
IsAnswer used limit bytes (Err (TooLong stated)) = (stated ≡ limit) × IsTooLong used limit bytes
IsAnswer used limit bytes (Err SourceFault) = Unit {0}
IsAnswer used limit bytes (Err NoMemory) = Unit {0}

-- an answer that depends on the bytes
abbrev pub IsOfBytes : Result (Option Offer) PileFault → Type 0
IsOfBytes (Ok found) = Unit {0}
IsOfBytes (Err (BadPile at)) = Unit {0}
IsOfBytes (Err (TooLong limit)) = Unit {0}
IsOfBytes (Err SourceFault) = ⊥
IsOfBytes (Err NoMemory) = ⊥

-- the refusal that each call gives after this answer
abbrev pub refusal_after : Result (Option Offer) PileFault → Option PileFault
refusal_after (Ok found) = None
refusal_after (Err (BadPile at)) = Some (BadPile at)
refusal_after (Err (TooLong limit)) = Some (TooLong limit)
refusal_after (Err SourceFault) = None
refusal_after (Err NoMemory) = Some NoMemory

-- the byte that may be taken past the limit before a refusal, to learn whether the source goes on
abbrev pub taken_past : {A : Type 0} → Result A PileFault → ℕ
taken_past (Err (BadPile at)) = 1
taken_past (Err (TooLong limit)) = 1
taken_past _ = 0

-- the bytes of the pile that an answer uses: an offer, with the first line of the pile before the first offer
abbrev pub used_text : ℕ → Result (Option Offer) PileFault → List ℕ
used_text used (Ok (Some offer)) = head_at used ++ offer_text offer
used_text used _ = []
