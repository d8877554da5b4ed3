-- The entries that a map lists, in order of number.
use Rattle.std.proofs.Common.{◌≡◌, ℕ, ◌<◌, List, ◌∷◌, Option, Some, None, refl, ap, sym}
use Rattle.std.proofs.Common.{subst, arith}
use Rattle.std.specs.Prelude.{IfSome, IsSome, is_some}
use Rattle.std.specs.BTreeMap.{BTreeMap, get}
use Rattle.std.specs.BTreeMap.Range.{IsRangeOf}
use Rattle.std.specs.declared.ops.Bound.TheVariants.{Excluded, Unbounded}
use Rattle.std.specs.declared.cmp.Ordering.TheVariants.{Less}
use Rattle.std.specs.Cmp.{nat_cmp_is, ranks}
use Rattle.std.specs.Ordering.{MatchOrdering, nat_cmp}
use Rattle.std.proofs.lemmas.Map.Keys.{le_from_not_gt}
use Rattle.atom_values.specs.Entry.{EntryValue}
use Rattle.atom_writer.specs.Doc.{DocValue}
use Rattle.mirror_walk.specs.declared.documents.EntryPlace.{EntryPlace}
use Rattle.mirror_walk.specs.Holding.{KeptValue, chain_of}
use Rattle.mirror_walk.specs.Index.{HasEntries, HasEntryAt, ListsEntry}
use Rattle.mirror_walk.specs.Listing.{IsNextLive, IsShownIn, live_at}

entry_listed : (kept : List KeptValue) (documents : List DocValue) (number : ℕ) (place : EntryPlace)
    (entry : Option EntryValue) → ListsEntry kept documents number (Some place) entry
    → (found : EntryValue) × (entry ≡ Some found)
entry_listed kept documents number place None h = absurd h
entry_listed kept documents number place (Some entry) h = (entry, refl)

place_listed : (kept : List KeptValue) (documents : List DocValue) (number : ℕ) (place : Option EntryPlace)
    (entry : Option EntryValue) → ListsEntry kept documents number place entry → IsSome entry → IsSome place
place_listed kept documents number None None h some = some
place_listed kept documents number None (Some entry) h some = absurd h
place_listed kept documents number (Some place) entry h some = refl

-- `Documents::entry_place`: a member's place is that of its entry, in the document that shows it
pub place-entry : (kept : List KeptValue) (documents : List DocValue) (number : ℕ) (place : EntryPlace)
    (entry : Option EntryValue) → ListsEntry kept documents number (Some place) entry
    → IfSome entry (HasEntryAt kept place) × IsShownIn kept documents number place.document
place-entry kept documents number place None h = absurd h
place-entry kept documents number place (Some entry) h = h

is_less : (a b : ℕ) → a < b → nat_cmp a b ≡ Less
is_less a b l = sym (nat_cmp_is a b Less l)

less_from : (a b : ℕ) → nat_cmp a b ≡ Less → a < b
less_from a b e = subst (λ order. MatchOrdering order (a < b) (a ≡ b) (b < a)) e (ranks a b)

pub IsNextLive-range : (kept : List KeptValue) (live : BTreeMap ℕ EntryPlace) (after number : ℕ)
    (place : EntryPlace)
    (rest : List (ℕ × EntryPlace)) → HasEntries kept (chain_of kept) live
    → IsRangeOf nat_cmp (Excluded after) Unbounded live ((number, place) ∷ rest)
    → IsNextLive kept after number
IsNextLive-range kept live after number place rest entries range =
    let found = entry_listed kept (chain_of kept) number place (live_at kept number)
    (subst (λ p. ListsEntry kept (chain_of kept) number p (live_at kept number)) range.1.1 (entries number)) in
    record {
      later = less_from after number range.1.0.0;
      entry = found.0;
      live = found.1;
      first = λ other later before. split other later before (live_at kept other) refl;
    }
  where
    split : (other : ℕ) → after < other → other < number → (entry : Option EntryValue)
        → live_at kept other ≡ entry
        → entry ≡ None
    split other later before None is = refl
    split other later before (Some entry) is =
        let listed = place_listed kept (chain_of kept) other (get nat_cmp live other) (live_at kept other)
        (entries other)
        (ap (λ o. is_some o) is) in
        let above = le_from_not_gt number other (range.2 other (is_less after other later, tt) listed) in
        absurd (omega arith)
