-- The entries of a mirror's documents that count by the published rules for duplicates (RFC 5005, RFC 6721).
use Rattle.std.specs.Prelude.{ℕ, ◌<◌, List, Option, Some, None, map}
use Rattle.atom_values.specs.Entry.{EntryValue}
use Rattle.atom_writer.specs.Doc.{DocValue}
use Rattle.member_rules.specs.declared.operation.Op.{Op}
use Rattle.member_rules.specs.Head.{HeadValue}
use Rattle.published_rule.specs.Counts.{Counts}
use Rattle.mirror_walk.specs.Holding.{KeptValue}
use Rattle.mirror_walk.specs.Loaded.{own_offer}
use Rattle.mirror_walk.specs.Offers.{AreServed}

-- the feed with this head served each document that is held, at the document's own address
abbrev pub HoldsServed : HeadValue → List Op → List KeptValue → Type 0
HoldsServed head history kept = AreServed head history (map own_offer kept)

-- some entry of the member counts
abbrev pub HasCounted : List DocValue → ℕ → Type 0
HasCounted documents number = (entry : EntryValue) × Counts documents number entry

-- an entry of the member counts, and none of a member whose number is between
pub record IsCountedNext (documents : List DocValue) (after next : ℕ) : Type 0 where
  pub later : after < next
  pub counted : HasCounted documents next
  pub first : (number : ℕ) → after < number → number < next → ¬ HasCounted documents number

-- the least number after this one of a member with an entry that counts, if there is one
abbrev pub IsNextCounted : List DocValue → ℕ → Option ℕ → Type 0
IsNextCounted documents after None = (number : ℕ) → after < number → ¬ HasCounted documents number
IsNextCounted documents after (Some next) = IsCountedNext documents after next
