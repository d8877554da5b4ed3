-- A walk of a mirror over a source of documents: the addresses that it asks, and how it ends (RFC 5005
-- section 4).
--
-- A walk asks for the feed's document, and then for the first missing document, again and again.
use Rattle.std.specs.Prelude.{◌≡◌, ◌≢◌, ◌⊎◌, ℕ, ◌<◌, ◌^◌, All, List, [], ◌∷◌, ◌++◌, length, map, take, Option}
use Rattle.std.specs.Prelude.{Some, None, IfSome, Result, Ok, Err, count_by, unwrap_or, Bool, true, false}
use Rattle.chain_links.specs.Address.{IsAddress, printed}
use Rattle.chain_links.specs.declared.address.Address.{Address}
use Rattle.chain_links.specs.declared.address.Address.TheVariants.{Feed, Archive}
use Rattle.doc_source.specs.Fetch.{FetchState}
use Rattle.feed_disk.specs.Disk.{DiskState}
use Rattle.feed_disk.specs.Moments.{AlwaysLeaves}
use Rattle.feed_disk.specs.declared.area.Area.TheVariants.{Mirror as MirrorArea}
use Rattle.mirror_walk.specs.declared.answer.Accepted.{Accepted}
use Rattle.mirror_walk.specs.declared.answer.Accepted.TheVariants.{Taken, Known, Stale}
use Rattle.mirror_walk.specs.declared.answer.Offered.{Offered}
use Rattle.mirror_walk.specs.declared.answer.Offered.TheVariants.{Full}
use Rattle.mirror_walk.specs.Holding.{KeptValue}
use Rattle.mirror_walk.specs.declared.walk.Refusal.{Refusal}
use Rattle.mirror_walk.specs.declared.walk.WalkFault.{WalkFault}
use Rattle.mirror_walk.specs.declared.walk.WalkFault.TheVariants as faults
use Rattle.mirror_walk.specs.declared.walk.Walked.{Walked}
use Rattle.mirror_walk.specs.Accept.{Answer, IsAnswerWithin, IsForRoom, IsTakeable}
use Rattle.mirror_walk.specs.Holding.{archive_at, first_missing}
use Rattle.mirror_walk.specs.Listing.{HasAddress, outcome_of}
use Rattle.mirror_walk.specs.Mirror.{IsAtRest, LoadsTo, MirrorValue}
use Rattle.mirror_walk.specs.Offers.{AreTakenOf, Offering}
use Rattle.member_rules.specs.Head.{HeadValue}
use Rattle.member_rules.specs.Served.{Served}
use Rattle.member_rules.specs.declared.operation.Op.{Op}

-- the mirror's base, the capacity of its area, and what the source answers to each address
pub record WalkSetting : Type 0 where
  pub base : List ℕ
  pub capacity : ℕ
  pub answers : List ℕ → Option (List ℕ)

abbrev pub setting_by : MirrorValue → (List ℕ → Option (List ℕ)) → WalkSetting
setting_by mirror answers = record { base = mirror.base; capacity = mirror.capacity; answers = answers }

abbrev pub setting_of : MirrorValue → FetchState → WalkSetting
setting_of mirror source = setting_by mirror source.answers

-- how a walk ended
pub data WalkEnding : Type 0 where
  -- no document is missing
  nothing_wanted : WalkEnding
  -- the source has no document at the last address
  not_there : WalkEnding
  -- the mirror refused the last document
  refused : Offered → WalkEnding
  -- a call of the source failed
  fetch_failed : WalkEnding
  -- the last document doesn't fit: the size of the area, the bytes needed, and the capacity
  filled : ℕ → ℕ → ℕ → WalkEnding
  -- a device call failed while the last document was taken
  disk_failed : WalkEnding
  -- memory ran out, or a crash came
  cut_short : WalkEnding

-- the bytes that the source answers to an address
abbrev pub answer_at : WalkSetting → Address → Option (List ℕ)
answer_at setting address = setting.answers (printed setting.base address)

-- the source has a document at the address, and this is the mirror's answer to it
pub record IsAnswered (setting : WalkSetting) (kept : List KeptValue) (address : Address) (answer : Answer)
    (left : List KeptValue) : Type 0 where
  pub bytes : List ℕ
  pub there : answer_at setting address ≡ Some bytes
  pub answered : IsAnswerWithin setting.capacity setting.base kept (printed setting.base address) bytes answer
      left

-- the source has a document at the address, and the mirror takes it
pub record IsTakeableAt (setting : WalkSetting) (kept : List KeptValue) (address : Address) : Type 0 where
  pub bytes : List ℕ
  pub there : answer_at setting address ≡ Some bytes
  pub takeable : IsTakeable setting.capacity setting.base kept (printed setting.base address) bytes

-- a walk ends before it asks for its next document
abbrev pub EndsBefore : Option Address → WalkEnding → Type 0
EndsBefore next nothing_wanted = next ≡ None
EndsBefore next cut_short = Unit {0}
EndsBefore next _ = ⊥

-- A walk ends at an address that it asked. Unless a device call failed, it takes no document there.
abbrev pub EndsAt : WalkSetting → List KeptValue → Address → WalkEnding → Type 0
EndsAt setting kept address nothing_wanted = ⊥
EndsAt setting kept address not_there = answer_at setting address ≡ None
EndsAt setting kept address (refused why) = (¬ IsForRoom why) × IsAnswered setting kept address (Err why) kept
EndsAt setting kept address fetch_failed = Unit {0}
EndsAt setting kept address (filled size needed capacity) =
    IsAnswered setting kept address (Err (Full size needed capacity)) kept
EndsAt setting kept address disk_failed = IsTakeableAt setting kept address
EndsAt setting kept address cut_short = Unit {0}

-- A walk of a mirror that holds `kept` and whose next address is `next`: the addresses that it asks, the
-- mirror's answers to the documents that it accepts, what it holds at the end, and how it ends. After each
-- document that was accepted the next address is that of the first missing one.
abbrev pub Walks : WalkSetting → List KeptValue → Option Address → List Address → List Accepted
    → List KeptValue → WalkEnding
    → Type 0
Walks setting kept next [] [] left ending = (left ≡ kept) × EndsBefore next ending
Walks setting kept next [] (answer ∷ answers) left ending = ⊥
Walks setting kept next (address ∷ asked) [] left ending =
    (next ≡ Some address) × (asked ≡ []) × (left ≡ kept) × EndsAt setting kept address ending
Walks setting kept next (address ∷ asked) (answer ∷ answers) left ending =
    (next ≡ Some address) × ((after : List KeptValue) × IsAnswered setting kept address (Ok answer) after
    × Walks setting after (first_missing after) asked answers left ending)

-- a walk begins with the feed's document
abbrev pub WalksFromFeed : WalkSetting → List KeptValue → List Address → List Accepted → List KeptValue
    → WalkEnding → Type 0
WalksFromFeed setting kept asked accepted left ending = Walks setting kept (Some Feed) asked accepted left
    ending

-- the document that the source has at an address, as it is offered to the mirror
abbrev pub offering_at : WalkSetting → Address → Offering
offering_at setting address =
    record { address = printed setting.base address; bytes = unwrap_or (answer_at setting address) [] }

-- the documents that a walk's mirror accepted: those of the first addresses asked
abbrev pub accepted_offers : WalkSetting → List Address → List Accepted → List Offering
accepted_offers setting asked accepted = map (offering_at setting) (take (length accepted) asked)

abbrev pub is_taken : Accepted → Bool
is_taken Taken = true
is_taken Known = false
is_taken Stale = false

abbrev pub is_known : Accepted → Bool
is_known Taken = false
is_known Known = true
is_known Stale = false

abbrev pub is_stale : Accepted → Bool
is_stale Taken = false
is_stale Known = false
is_stale Stale = true

-- the refusal is that of the last address asked
pub record IsRefusedLast (asked : List Address) (why : Offered) (refused : Option Refusal) : Type 0 where
  pub before : List Address
  pub address : Address
  pub last : asked ≡ before ++ address ∷ []
  pub is : refused ≡ Some record { address = address; why = why }

-- the refusal by which a walk ended that met no fault
abbrev pub HasRefusal : List Address → WalkEnding → Option Refusal → Type 0
HasRefusal asked nothing_wanted refusal = refusal ≡ None
HasRefusal asked not_there refusal = refusal ≡ None
HasRefusal asked (refused why) refusal = IsRefusedLast asked why refusal
HasRefusal asked fetch_failed refusal = ⊥
HasRefusal asked (filled size needed capacity) refusal = ⊥
HasRefusal asked disk_failed refusal = ⊥
HasRefusal asked cut_short refusal = ⊥

-- the result of a walk: the numbers of its addresses and answers, the refusal, and the outcome of the documents
pub record IsWalked (addresses : List Address) (accepted : List Accepted) (left : List KeptValue)
    (ending : WalkEnding)
    (walked : Walked) : Type 0 where
  pub asked : walked.asked ≡ length addresses
  pub taken : walked.taken ≡ count_by is_taken accepted
  pub known : walked.known ≡ count_by is_known accepted
  pub stale : walked.stale ≡ count_by is_stale accepted
  pub refusal : HasRefusal addresses ending walked.refused
  pub outcome : walked.outcome ≡ outcome_of left

-- the result of a walk that ended so
abbrev pub IsWalkResult : List Address → List Accepted → List KeptValue → WalkEnding → Result Walked WalkFault
    → Type 0
IsWalkResult asked accepted left ending (Ok walked) = IsWalked asked accepted left ending walked
IsWalkResult asked accepted left ending (Err faults.FetchFault) = ending ≡ fetch_failed
IsWalkResult asked accepted left ending (Err (faults.Full size needed capacity)) = ending ≡ filled size needed
    capacity
IsWalkResult asked accepted left ending (Err faults.DiskFault) = ending ≡ disk_failed
IsWalkResult asked accepted left ending (Err faults.NoMemory) = ending ≡ cut_short

-- a walk of a mirror over a source: the addresses asked, the documents held afterwards unless a device call
-- failed, and the result
pub record HasWalked (setting : WalkSetting) (kept now : List KeptValue) (before after : List (List ℕ))
    (given : Result Walked WalkFault) : Type 0 where
  pub asked : List Address
  pub accepted : List Accepted
  pub held : List KeptValue
  pub ending : WalkEnding
  pub walks : WalksFromFeed setting kept asked accepted held ending
  pub addresses : after ≡ before ++ map (printed setting.base) asked
  pub left : given ≢ Err faults.DiskFault → now ≡ held
  pub result : IsWalkResult asked accepted held ending given

-- an image that loads to the documents that a walk held after it asked some of its addresses
pub record IsWalkStep (setting : WalkSetting) (kept : List KeptValue) (image : List ℕ) : Type 0 where
  pub asked : List Address
  pub accepted : List Accepted
  pub left : List KeptValue
  pub walks : WalksFromFeed setting kept asked accepted left cut_short
  pub loads : LoadsTo setting.base left image

-- What a source was asked in a call, in order, and what it answered. Of a source that contracts see (`seen`), these are
-- the addresses that it counts as asked, and its answers.
pub record Exchange (seen : Type 0) (before after : FetchState) : Type 0 where
  pub asked : List (List ℕ)
  pub answers : List ℕ → Option (List ℕ)
  pub asked_are : seen → after.asked ≡ before.asked ++ asked
  pub answers_are : seen → answers ≡ before.answers

-- A walk over any source, by what the source answered in this call: the documents held afterwards, the result, and the
-- images of the mirror's area that a crash at a moment of the call leaves. The images are those of a disk that contracts
-- see (`observable`) and that was at rest.
pub record WalksByAnswers (observable seen : Type 0) (s t : DiskState) (before after : FetchState)
    (mirror : MirrorValue) (now : List KeptValue) (given : Result Walked WalkFault) : Type 0 where
  pub source : Exchange seen before after
  pub walked : HasWalked (setting_by mirror source.answers) mirror.kept now [] source.asked given
  pub moments : observable → IsAtRest s mirror.kept
      → AlwaysLeaves s t MirrorArea (IsWalkStep (setting_by mirror source.answers) mirror.kept)

-- each number is below the one before it, and the first one is below `high`
abbrev pub FallsFrom : ℕ → List ℕ → Type 0
FallsFrom high [] = Unit {0}
FallsFrom high (number ∷ numbers) = (number < high) × FallsFrom number numbers

-- the feed's document was asked for once, and then archives that weren't held, newest first
pub record AsksOnce (kept : List KeptValue) (asked : List Address) : Type 0 where
  pub numbers : List ℕ
  pub addresses : asked ≡ Feed ∷ map Archive numbers
  pub falling : FallsFrom (2 ^ 32) numbers
  pub missing : All (λ number. archive_at kept number ≡ None) numbers

-- A walk asks for no document twice, and but for the feed's for none that is held. One that was cut short may
-- have asked for nothing.
abbrev pub WalksAskOnce : Type 0
WalksAskOnce = (setting : WalkSetting) (kept : List KeptValue) (offers : List Offering) (asked : List Address)
    (accepted : List Accepted) (left : List KeptValue) (ending : WalkEnding) → AreTakenOf setting.base offers
    kept
    → WalksFromFeed setting kept asked accepted left ending → (asked ≡ []) ⊎ AsksOnce kept asked

-- the feed with this head served each document of the source after some of these operations
abbrev pub IsServedBy : HeadValue → List Op → (List ℕ → Option (List ℕ)) → Type 0
IsServedBy head history answers =
    (address bytes : List ℕ) → answers address ≡ Some bytes → Served head history address bytes

-- the addresses that a walk's result names are those of documents
pub record NamesAddresses (walked : Walked) : Type 0 where
  pub refused : IfSome walked.refused (λ refusal. IsAddress refusal.address)
  pub missing : HasAddress walked.outcome
