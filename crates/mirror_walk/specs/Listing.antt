-- The outcome of a mirror, and its live entries in order of number.
use Rattle.std.specs.Prelude.{◌≡◌, ℕ, zero, suc, ◌<◌, List, [], ◌∷◌, ◌++◌, Option, Some, None, Bool, true}
use Rattle.std.specs.Prelude.{false, slice_get}
use Rattle.atom_values.specs.Entry.{EntryValue}
use Rattle.atom_writer.specs.Doc.{DocValue}
use Rattle.chain_links.specs.Address.{IsAddress}
use Rattle.chain_links.specs.declared.address.Address.{Address}
use Rattle.member_rules.specs.Shows.{Shows, greatest_member, live_of, live_count_of}
use Rattle.mirror_walk.specs.declared.answer.Outcome.{Outcome}
use Rattle.mirror_walk.specs.declared.answer.Outcome.TheVariants.{Complete, Missing}
use Rattle.mirror_walk.specs.Holding.{KeptValue, best_of, chain_of, first_missing}

-- the live entries, by the members' numbers
abbrev pub live_at : List KeptValue → ℕ → Option EntryValue
live_at kept number = live_of (chain_of kept) number

-- The document that shows the member among these, newest first, is the held one of this index: it has the
-- member's entry, and no newer one has any item of the member.
pub record IsShownIn (kept : List KeptValue) (documents : List DocValue) (number index : ℕ) : Type 0 where
  pub entry : EntryValue
  pub shows : Shows documents number entry
  pub held : KeptValue
  pub there : slice_get kept index ≡ Some held
  pub same : held.document ≡ shows.document

-- the payload of this index is the held document that shows the member, in the chain of the best one
abbrev pub IsShownAt : List KeptValue → ℕ → ℕ → Type 0
IsShownAt kept number index = IsShownIn kept (chain_of kept) number index

-- the payload of this index is the held document that shows some live member
abbrev pub ShowsSome : List KeptValue → ℕ → Type 0
ShowsSome kept index = (number : ℕ) × IsShownAt kept number index

-- these entries, and one more after them if there is one
abbrev pub with_entry : List EntryValue → Option EntryValue → List EntryValue
with_entry entries None = entries
with_entry entries (Some entry) = entries ++ entry ∷ []

-- the entries of the members from 1 up to this number, in order of number
abbrev pub entries_up_to : (ℕ → Option EntryValue) → ℕ → List EntryValue
entries_up_to live zero = []
entries_up_to live (suc number) = with_entry (entries_up_to live number) (live (suc number))

-- the live entries, in order of number
unfoldable pub live_entries : List KeptValue → List EntryValue
live_entries kept = entries_up_to (live_at kept) (greatest_member (chain_of kept))

-- the outcome, where nothing but `missing` is missing
abbrev pub outcome_by : List KeptValue → Option KeptValue → Option Address → Outcome
outcome_by kept best (Some missing) = Missing missing
outcome_by kept None None = Complete 0 0
outcome_by kept (Some best) None = Complete best.document.span.last (live_count_of (chain_of kept))

-- the first missing document, or else the best document's `last` and the number of live entries
unfoldable pub outcome_of : List KeptValue → Outcome
outcome_of kept = outcome_by kept (best_of kept) (first_missing kept)

-- a document that is missing has an address
abbrev pub HasAddress : Outcome → Type 0
HasAddress (Complete _ _) = Unit {0}
HasAddress (Missing address) = IsAddress address

abbrev pub is_complete : Outcome → Bool
is_complete (Complete _ _) = true
is_complete (Missing _) = false

-- no member with a number after this one is live
abbrev pub IsLastLive : List KeptValue → ℕ → Type 0
IsLastLive kept after = (number : ℕ) → after < number → live_at kept number ≡ None

-- the member is live, and no live member's number is between
pub record IsNextLive (kept : List KeptValue) (after next : ℕ) : Type 0 where
  pub later : after < next
  pub entry : EntryValue
  pub live : live_at kept next ≡ Some entry
  pub first : (number : ℕ) → after < number → number < next → live_at kept number ≡ None
