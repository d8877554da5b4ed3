-- The steps of an offer to a mirror over its log.
use Rattle.std.specs.Prelude.{◌≡◌, ◌≢◌, ◌⊎◌, ℕ, ◌+◌, ◌<◌, ◌≤◌, List, [], ◌∷◌, ◌++◌, length, Result, Ok, Err}
use Rattle.feed_journal.specs.Limits.{header_length}
use Rattle.mirror_walk.specs.declared.answer.Accepted.TheVariants.{Taken}
use Rattle.mirror_walk.specs.declared.answer.Offered.{Offered}
use Rattle.mirror_walk.specs.declared.answer.Offered.TheVariants.{Full, DiskFault, NoMemory}
use Rattle.mirror_walk.specs.declared.offer.Checked.{Checked}
use Rattle.mirror_walk.specs.declared.offer.Checked.TheVariants.{Answered, New}
use Rattle.mirror_walk.specs.Accept.{Answer, IsAnswerWithin, IsKeptOf, accept}
use Rattle.mirror_walk.specs.Checks.{IsNew}
use Rattle.mirror_walk.specs.Holding.{KeptValue}
use Rattle.mirror_walk.specs.Loading.{IsNext}
use Rattle.mirror_walk.specs.Mirror.{LoadsTo, MirrorValue}

-- the payload is the text of a document that the mirror takes next, and its area has room for it
pub record IsTakenNext (mirror : MirrorValue) (given : KeptValue) (payload : List ℕ) : Type 0 where
  pub read : IsKeptOf payload given
  pub next : IsNext mirror.base mirror.kept given
  pub new : IsNew mirror.kept given.document
  pub fits : mirror.log.size + (length payload + header_length) ≤ mirror.capacity

-- the bytes are that payload, and the document is taken under this address
pub record IsToBeTaken (mirror : MirrorValue) (address bytes : List ℕ) (given : KeptValue) (payload : List ℕ)
    : Type 0
  where
    pub bytes_are : payload ≡ bytes
    pub accepted : accept mirror.base mirror.kept address given ≡ Ok Taken
    pub taken : IsTakenNext mirror given payload

-- the answer of a mirror that holds the same documents afterwards
abbrev pub IsAnswerBefore : MirrorValue → List ℕ → List ℕ → Answer → Type 0
IsAnswerBefore mirror address bytes answer =
    IsAnswerWithin mirror.capacity mirror.base mirror.kept address bytes answer mirror.kept

-- the result of the checks of these bytes under this address, without a device call
abbrev pub IsChecked : MirrorValue → List ℕ → List ℕ → Result Checked Offered → Type 0
IsChecked mirror address bytes (Ok (Answered accepted)) =
    (accepted ≢ Taken) × IsAnswerBefore mirror address bytes (Ok accepted)
IsChecked mirror address bytes (Ok (New given payload)) =
    (given.name ≡ given.kept.document.name) × IsToBeTaken mirror address bytes given.kept payload
IsChecked mirror address bytes (Err refusal) =
    (refusal ≢ DiskFault) × ((refusal ≡ NoMemory) ⊎ IsAnswerBefore mirror address bytes (Err refusal))

-- an image while this document is taken
abbrev pub IsTakeStep : MirrorValue → KeptValue → List ℕ → Type 0
IsTakeStep mirror given image =
    LoadsTo mirror.base mirror.kept image ⊎ LoadsTo mirror.base (mirror.kept ++ given ∷ []) image

-- the mirror is as it was, but for the number of payloads that its log takes without memory
abbrev pub HasOnlyMoreRoom : MirrorValue → MirrorValue → Type 0
HasOnlyMoreRoom before after = after ≡ record before { log = record before.log { spare = after.log.spare } }

-- the area has no room for this many bytes, or memory ran out
abbrev pub IsNoRoom : MirrorValue → ℕ → Offered → Type 0
IsNoRoom mirror needed (Full size more capacity) =
    (size ≡ mirror.log.size) × (more ≡ needed) × (capacity ≡ mirror.capacity) × (capacity < size + more)
IsNoRoom mirror needed NoMemory = Unit {0}
IsNoRoom mirror needed DiskFault = ⊥
IsNoRoom mirror needed refusal = ⊥
