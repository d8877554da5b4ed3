-- The entries that a map lists, in order of number.
use Rattle.std.proofs.lemmas.Bool.{cases_lt}
use Rattle.std.proofs.Common.{◌≡◌, inl, inr, ℕ, suc, ◌+◌, ◌-◌, ◌<◌, ◌≤◌, List, [], ◌∷◌, ◌++◌, Option, Some, None, refl, ap, sym}
use Rattle.std.proofs.Common.{subst, ◌∙◌, arith}
use Rattle.std.specs.Prelude.{IsSome, is_some}
use Rattle.std.specs.BTreeMap.{BTreeMap, get}
use Rattle.std.specs.BTreeMap.Range.{IsRangeOf}
use Rattle.std.specs.declared.ops.Bound.TheVariants.{Excluded, Unbounded}
use Rattle.std.specs.declared.cmp.Ordering.TheVariants.{Less}
use Rattle.std.specs.Cmp.{nat_cmp_is, ranks}
use Rattle.std.specs.Ordering.{MatchOrdering, nat_cmp}
use Rattle.std.proofs.lemmas.Map.Keys.{le_from_not_gt}
use Rattle.atom_values.specs.Entry.{EntryValue}
use Rattle.atom_writer.specs.Doc.{DocValue}
use Rattle.atom_writer.specs.Members.{member_text}
use Rattle.atom_writer.specs.declared.doc.FeedName.{FeedName}
use Rattle.coverage_certificate.specs.Live.{live_entries_of, live_text}
use Rattle.mirror_walk.proofs.InOrderLemmas.{entries-none, entries-same}
use Rattle.member_rules.specs.Shows.{greatest_member, live_of}
use Rattle.member_rules.proofs.ShowsLemmas.{live_of-past}
use Rattle.mirror_walk.specs.Listing.{entries_up_to, with_entry}
use Rattle.coverage_auditor.specs.declared.live.EntryPlace.{EntryPlace}
use Rattle.coverage_auditor.specs.LiveList.{HasEntries, HasEntryAt, IsLastLive, IsNextPlace, ListsEntry}
use Rattle.std.proofs.lemmas.List.{flat_map_more}

entry_listed : (documents : List DocValue) (place : EntryPlace) (entry : Option EntryValue)
    → ListsEntry documents (Some place) entry
    → (found : EntryValue) × (entry ≡ Some found) × HasEntryAt documents place found
entry_listed documents place None h = absurd h
entry_listed documents place (Some entry) h = (entry, refl, h)

place_listed : (documents : List DocValue) (place : Option EntryPlace) (entry : Option EntryValue)
    → ListsEntry documents place entry → IsSome entry → IsSome place
place_listed documents None None h some = some
place_listed documents None (Some entry) h some = absurd h
place_listed documents (Some place) entry h some = refl

none_listed : (documents : List DocValue) (place : Option EntryPlace) (entry : Option EntryValue)
    → ListsEntry documents place entry → place ≡ None → entry ≡ None
none_listed documents None None h e = refl
none_listed documents None (Some entry) h e = absurd h
none_listed documents (Some place) None h e = absurd h
none_listed documents (Some place) (Some entry) h e = absurd (none e)
  where
    none : Some place ≡ None → ⊥
    none e = cc

is_less : (a b : ℕ) → a < b → nat_cmp a b ≡ Less
is_less a b l = sym (nat_cmp_is a b Less l)

less_from : (a b : ℕ) → nat_cmp a b ≡ Less → a < b
less_from a b e = subst (λ order. MatchOrdering order (a < b) (a ≡ b) (b < a)) e (ranks a b)

pub next-in_range : (documents : List DocValue) (live : BTreeMap ℕ EntryPlace) (after number : ℕ)
    (place : EntryPlace)
    (rest : List (ℕ × EntryPlace)) → HasEntries documents documents live
    → IsRangeOf nat_cmp (Excluded after) Unbounded live ((number, place) ∷ rest)
    → IsNextPlace documents after number place
next-in_range documents live after number place rest entries range =
    let found = entry_listed documents place (live_of documents number)
    (subst (λ p. ListsEntry documents p (live_of documents number)) range.1.1 (entries number)) in
    record {
      later = less_from after number range.1.0.0;
      entry = found.0;
      live = found.1;
      there = found.2;
      first = λ other later before. split other later before (live_of documents other) refl;
    }
  where
    split : (other : ℕ) → after < other → other < number → (entry : Option EntryValue)
        → live_of documents other ≡ entry → entry ≡ None
    split other later before None is = refl
    split other later before (Some entry) is =
        let listed = place_listed documents (get nat_cmp live other) (live_of documents other) (entries other)
        (ap (λ o. is_some o) is) in
        let above = le_from_not_gt number other (range.2 other (is_less after other later, tt) listed) in
        absurd (omega arith)

pub last-in_range : (documents : List DocValue) (live : BTreeMap ℕ EntryPlace) (after : ℕ)
    → HasEntries documents documents live → IsRangeOf nat_cmp (Excluded after) Unbounded live []
    → IsLastLive documents after
last-in_range documents live after entries range number later =
    none_listed documents (get nat_cmp live number) (live_of documents number) (entries number)
    (range.5 refl number (is_less after number later, tt))

-- the entries up to a number

-- one more entry
entries-next : (documents : List DocValue) (after next : ℕ) (place : EntryPlace)
    (is : IsNextPlace documents after next place)
    → entries_up_to (live_of documents) next ≡ entries_up_to (live_of documents) after ++ is.entry ∷ []
entries-next documents after next place is =
    let live = live_of documents in
    let more = next - after - 1 in
    let at : next ≡ suc (after + more) = omega (arith, is.later) in
    ap (entries_up_to live) at
    ∙ ap (with_entry (entries_up_to live (after + more))) (ap live (sym at) ∙ is.live)
    ∙ ap (λ (entries : List EntryValue). entries ++ is.entry ∷ [])
    (entries-none live after more (λ k low high. is.first k low (omega (arith, at, high))))

-- the text of the entries up to a number
abbrev pub text_up_to : FeedName → List DocValue → ℕ → List ℕ
text_up_to name documents after = live_text name (entries_up_to (live_of documents) after)

pub text-none : (name : FeedName) (documents : List DocValue) → text_up_to name documents 0 ≡ []
unfolding live_text
text-none name documents = refl

pub text-next : (name : FeedName) (documents : List DocValue) (after next : ℕ) (place : EntryPlace)
    (is : IsNextPlace documents after next place)
    → text_up_to name documents next ≡ text_up_to name documents after ++ member_text name is.entry
unfolding live_text
text-next name documents after next place is =
    ap (live_text name) (entries-next documents after next place is)
    ∙ sym (flat_map_more (member_text name) [] (entries_up_to (live_of documents) after) is.entry)

pub text-last : (name : FeedName) (documents : List DocValue) (after : ℕ) → IsLastLive documents after
    → text_up_to name documents after ≡ live_text name (live_entries_of documents)
unfolding live_entries_of
text-last name documents after last =
    ap (live_text name) (entries-same (live_of documents) after (greatest_member documents) last
    (λ k past. live_of-past documents k past))

-- a live member's number is at most the greatest
pub within-greatest : (documents : List DocValue) (number : ℕ) (entry : EntryValue)
    → live_of documents number ≡ Some entry → number ≤ greatest_member documents
within-greatest documents number entry e = elim (cases_lt (greatest_member documents) number) [
  | inl past ↦
      let clash : None ≡ Some entry = sym (live_of-past documents number past) ∙ e in
      absurd (cc)
  | inr within ↦ within
]
