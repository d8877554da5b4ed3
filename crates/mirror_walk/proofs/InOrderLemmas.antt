-- The live entries in order of number.
use Rattle.std.proofs.Common.{◌≡◌, ℕ, zero, suc, ◌+◌, ◌-◌, ◌<◌, ◌≤◌, List, [], ◌∷◌, ◌++◌, Option, None, sym, ap, ◌∙◌, arith}
use Rattle.atom_values.specs.Entry.{EntryValue}
use Rattle.member_rules.specs.Shows.{greatest_member}
use Rattle.member_rules.proofs.ShowsLemmas.{live_of-past}
use Rattle.mirror_walk.specs.Holding.{KeptValue, chain_of}
use Rattle.mirror_walk.specs.Listing.{IsLastLive, IsNextLive, entries_up_to, live_at, live_entries, with_entry}

-- no entry has one of the next numbers
pub entries-none : (live : ℕ → Option EntryValue) (n more : ℕ)
    → ((k : ℕ) → n < k → k ≤ n + more → live k ≡ None) → entries_up_to live (n + more) ≡ entries_up_to live n
entries-none live n zero none = let same : n + 0 ≡ n = omega arith in ap (entries_up_to live) same
entries-none live n (suc more) none =
    let next : n + suc more ≡ suc (n + more) = omega arith in
    ap (entries_up_to live) next
    ∙ ap (with_entry (entries_up_to live (n + more))) (none (suc (n + more)) (omega arith) (omega arith))
    ∙ entries-none live n more (λ k low high. none k low (omega arith))

-- all entries have numbers up to both of these
pub entries-same : (live : ℕ → Option EntryValue) (n m : ℕ) → ((k : ℕ) → n < k → live k ≡ None)
    → ((k : ℕ) → m < k → live k ≡ None) → entries_up_to live n ≡ entries_up_to live m
entries-same live n m past_n past_m =
    let around : n + m ≡ m + n = omega arith in
    sym (entries-none live n m (λ k low high. past_n k low))
    ∙ ap (entries_up_to live) around
    ∙ entries-none live m n (λ k low high. past_m k low)

-- one more entry
pub entries-next : (kept : List KeptValue) (after next : ℕ) (is : IsNextLive kept after next)
    → entries_up_to (live_at kept) next ≡ entries_up_to (live_at kept) after ++ is.entry ∷ []
entries-next kept after next is =
    let live = live_at kept in
    let more = next - after - 1 in
    let at : next ≡ suc (after + more) = omega (arith, is.later) in
    ap (entries_up_to live) at
    ∙ ap (with_entry (entries_up_to live (after + more))) (ap live (sym at) ∙ is.live)
    ∙ ap (λ (entries : List EntryValue). entries ++ is.entry ∷ [])
    (entries-none live after more (λ k low high. is.first k low (omega (arith, at, high))))

pub entries-last : (kept : List KeptValue) (after : ℕ) → IsLastLive kept after
    → entries_up_to (live_at kept) after ≡ live_entries kept
unfolding live_entries
entries-last kept after last =
    entries-same (live_at kept) after (greatest_member (chain_of kept)) last
    (λ k past. live_of-past (chain_of kept) k past)
