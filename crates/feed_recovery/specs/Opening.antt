-- The store that the journal and the sealed area mean together.
use Rattle.std.specs.Prelude.{◌≡◌, ◌⊎◌, ℕ, ◌-◌, ◌≤◌, List, ◌∷◌, map, length, Some, slice_get}
use Rattle.atom_writer.specs.Pieced.{text_of}
use Rattle.atom_writer.specs.Pieces.{text}
use Rattle.feed_journal.specs.Records.{records}
use Rattle.member_rules.specs.Coding.{heads, operations}
use Rattle.member_rules.specs.Documents.{archive}
use Rattle.member_rules.specs.Head.{HeadValue, IsHead}
use Rattle.member_rules.specs.History.{IsLawful}
use Rattle.member_rules.specs.Windows.{windows_of}
use Rattle.member_rules.specs.declared.operation.Op.{Op}

-- the payloads of the journal: the head's bytes, and then those of each operation
abbrev pub journal_of : HeadValue → List Op → List (List ℕ)
journal_of head history = text_of heads head ∷ map (text_of operations) history

-- the payload of archive `number` in the sealed area: the text of that archive
abbrev pub seal_of : HeadValue → List Op → ℕ → List ℕ
seal_of head history number = text (archive head history number)

-- How many seals there may be: one for each sealed archive. The seal of a full window is appended before the operation
-- that seals it, so after a crash between the two each full window has a seal.
abbrev pub IsSealCount : HeadValue → List Op → ℕ → Type 0
IsSealCount head history seals =
    let windows = windows_of head history in
    (seals ≡ windows.sealed) ⊎ (seals ≡ windows.full)

-- the payloads are the first seals of the history, in order
abbrev pub AreSeals : HeadValue → List Op → List (List ℕ) → Type 0
AreSeals head history payloads =
    (number : ℕ) → 1 ≤ number → number ≤ length payloads
    → slice_get payloads (number - 1) ≡ Some (seal_of head history number)

-- a journal with these payloads is that of the feed with this head and history
pub record IsJournal (payloads : List (List ℕ)) (head : HeadValue) (history : List Op) : Type 0 where
  pub is_head : IsHead head
  pub lawful : IsLawful head history
  pub is : payloads ≡ journal_of head history

-- the two areas open to this head, this history and this number of seals
pub record Opens (journal sealed : List ℕ) (head : HeadValue) (history : List Op) (seals : ℕ) : Type 0 where
  pub is_journal : IsJournal (records journal) head history
  pub are_seals : AreSeals head history (records sealed)
  pub number : length (records sealed) ≡ seals
  pub count : IsSealCount head history seals

-- there is no other way to open
abbrev pub OpensInOneWay : Type 0
OpensInOneWay = (journal sealed : List ℕ) (head other : HeadValue) (history left : List Op) (seals count : ℕ)
    → Opens journal sealed head history seals → Opens journal sealed other left count
    → (head ≡ other) × (history ≡ left) × (seals ≡ count)
