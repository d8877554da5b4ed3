-- The laws that the crates above cite. Each is the contract of a function of laws.rt.
use Rattle.std.specs.Prelude.{◌≡◌, ◌↔◌, ℕ, ◌≤◌, List, Some, length, take}
use Rattle.atom_values.specs.Entry.{EntryValue}
use Rattle.atom_writer.specs.Doc.{DocValue}
use Rattle.member_rules.specs.declared.operation.Op.{Op}
use Rattle.member_rules.specs.Head.{HeadValue, IsHead}
use Rattle.member_rules.specs.History.{IsLawful}
use Rattle.member_rules.specs.Shows.{Shows, live_of}
use Rattle.member_rules.specs.Chain.{IsOpenCut, chain_of, chain}
use Rattle.published_rule.specs.Counts.{Counts}

-- an entry counts exactly where it shows
abbrev pub CountsWhereItShows : List DocValue → Type 0
CountsWhereItShows documents =
    (number : ℕ) (entry : EntryValue) → Counts documents number entry ↔ Shows documents number entry

-- so it is in the documents of every cut of a lawful history
abbrev pub CutsKeepTheRule : Type 0
CutsKeepTheRule = (head : HeadValue) (history : List Op) (ends : ℕ → ℕ) (archives : ℕ) → IsHead head
    → IsLawful head history → IsOpenCut ends archives (length history)
    → CountsWhereItShows (chain_of ends archives head history)

-- so it is in the chain after the first operations, however many
abbrev pub ChainsKeepTheRule : Type 0
ChainsKeepTheRule = (head : HeadValue) (history : List Op) (version : ℕ) → IsHead head → IsLawful head history
    → version ≤ length history → CountsWhereItShows (chain head (take version history))

-- the map `live_of` of that chain has exactly the entries that count
abbrev pub LiveOfCounts : Type 0
LiveOfCounts = (head : HeadValue) (history : List Op) (version : ℕ) → IsHead head → IsLawful head history
    → version ≤ length history → (number : ℕ) (entry : EntryValue)
    → let documents = chain head (take version history) in
    Counts documents number entry ↔ (live_of documents number ≡ Some entry)
