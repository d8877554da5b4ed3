-- The documents of a cut of a history show its live entries.
use Rattle.std.proofs.Common.{◌≡◌, ◌↔◌, ℕ, zero, suc, ◌+◌, ◌-◌, ◌<◌, ◌≤◌, ℤ, nat_eq, List, length, take, drop, reverse}
use Rattle.std.proofs.Common.{map, Option, Some, None, refl, ap, sym, ◌∙◌, arith}
use Rattle.std.specs.Prelude.{is_some}
use Rattle.std.specs.List.{IsDistinct, AllByRecursion}
use Rattle.std.proofs.lemmas.List.{reverse-append, take-append-drop, take-take}
use Rattle.atom_values.specs.Entry.{EntryValue}
use Rattle.deleted_entries.specs.Item.{item_number}
use Rattle.deleted_entries.specs.declared.item.Item.{Item}
use Rattle.deleted_entries.specs.declared.item.Item.TheVariants.{Kept, Gone}
use Rattle.member_rules.specs.declared.operation.Op.{Op}
use Rattle.member_rules.specs.Head.{HeadValue}
use Rattle.member_rules.specs.Fold.{fold_of, made, live_count, count_up_to}
use Rattle.member_rules.specs.History.{AreFollowing}
use Rattle.member_rules.specs.Items.{items_of}
use Rattle.member_rules.specs.Documents.{document_of, archive_of, subscription_of}
use Rattle.member_rules.specs.Shows.{Shows, entry_of, greatest_member, live_of, live_count_of}
use Rattle.member_rules.specs.Chain.{down_from, chain_of}
use Rattle.member_rules.proofs.NewestItemsLemmas.{items_of-newest}
use Rattle.member_rules.proofs.ItemsLemmas.{newest_of, newest_of-append, item_in, item_in-newest, or_else, entry_or}
use Rattle.member_rules.proofs.ItemsLemmas.{live-is}
use Rattle.member_rules.proofs.ItemsKeptLemmas.{items-distinct}
use Rattle.member_rules.proofs.ShowsLemmas.{shown, shown-from_Shows, Shows-from_shown, live_of-shown, live_of-past}
use Rattle.member_rules.proofs.ShowsLemmas.{entry_of-kept}
use Rattle.member_rules.proofs.StateLemmas.{AreMembers-of}
use Rattle.member_rules.proofs.LiveCountLemmas.{count-same, count-past}
use Rattle.member_rules.proofs.CutLemmas.{IsCut}

-- the documents of a cut

item_in-items : (number : ℕ) (operations : List Op)
    → item_in number (items_of operations) ≡ newest_of number (reverse operations)
item_in-items number operations = ap (item_in number) (items_of-newest operations)
    ∙ item_in-newest number (reverse operations)

-- a list of operations, from a place on and up to it
newest_of-split : (number at : ℕ) (operations : List Op)
    → newest_of number (reverse operations) ≡ or_else (newest_of number (reverse (drop at operations)))
    (newest_of number (reverse (take at operations)))
newest_of-split number at operations =
    ap (λ (ops : List Op). newest_of number (reverse ops)) (sym (take-append-drop at operations))
    ∙ ap (newest_of number) (reverse-append (take at operations) (drop at operations))
    ∙ newest_of-append number (reverse (drop at operations)) (reverse (take at operations))

shown-archives : (ends : ℕ → ℕ) (head : HeadValue) (history : List Op) (number : ℕ) → ends 0 ≡ 0 → (archives : ℕ)
    → ((k : ℕ) → k < archives → ends k < ends (suc k))
    → shown number (down_from (archive_of ends head history) archives)
    ≡ newest_of number (reverse (take (ends archives) history))
unfolding shown archive_of document_of
shown-archives ends head history number none zero rises = rw none refl
shown-archives ends head history number none (suc k) rises =
    let same : suc k - 1 ≡ k = omega arith in
    let covered = take (ends (suc k)) history in
    let below : ends k ≤ ends (suc k) = omega (arith, rises k (omega arith)) in
    let front : take (ends k) covered ≡ take (ends k) history = take-take (ends k) (ends (suc k)) history below in
    rw same
    (ap (λ (o : Option Item). or_else o (shown number (down_from (archive_of ends head history) k)))
    (item_in-items number (drop (ends k) covered))
    ∙ ap (or_else (newest_of number (reverse (drop (ends k) covered))))
    (shown-archives ends head history number none k (λ j l. rises j (omega arith))
    ∙ ap (λ (ops : List Op). newest_of number (reverse ops)) (sym front))
    ∙ sym (newest_of-split number (ends k) covered))

shown-chain : (ends : ℕ → ℕ) (archives : ℕ) (head : HeadValue) (history : List Op) (number : ℕ)
    → IsCut ends archives (length history) → shown number (chain_of ends archives head history)
    ≡ newest_of number (reverse history)
unfolding shown chain_of subscription_of document_of
shown-chain ends archives head history number cut =
    ap (λ (o : Option Item). or_else o (shown number (down_from (archive_of ends head history) archives)))
    (item_in-items number (drop (ends archives) history))
    ∙ ap (or_else (newest_of number (reverse (drop (ends archives) history))))
    (shown-archives ends head history number cut.from_none archives cut.rises)
    ∙ sym (newest_of-split number (ends archives) history)

distinct-archives : (ends : ℕ → ℕ) (head : HeadValue) (history : List Op) (archives : ℕ)
    → AllByRecursion (λ d. IsDistinct nat_eq (map item_number d.items))
    (down_from (archive_of ends head history) archives)
unfolding archive_of document_of
distinct-archives ends head history zero = tt
distinct-archives ends head history (suc k) =
    (items-distinct (drop (ends (suc k - 1)) (take (ends (suc k)) history)), distinct-archives ends head history k)

distinct-chain : (ends : ℕ → ℕ) (archives : ℕ) (head : HeadValue) (history : List Op)
    → AllByRecursion (λ d. IsDistinct nat_eq (map item_number d.items)) (chain_of ends archives head history)
unfolding chain_of subscription_of document_of
distinct-chain ends archives head history = (
  items-distinct (drop (ends archives) history),
  distinct-archives ends head history archives,
)

entry_of-or : (item : Option Item) → entry_of item ≡ entry_or item None
entry_of-or None = refl
entry_of-or (Some (Kept entry)) = refl
entry_of-or (Some (Gone tombstone)) = refl

-- the live entries of the documents of a cut are those of the history
pub chain_of-live : (ends : ℕ → ℕ) (archives : ℕ) (head : HeadValue) (history : List Op)
    → IsCut ends archives (length history) → (number : ℕ)
    → live_of (chain_of ends archives head history) number ≡ (fold_of history).live number
chain_of-live ends archives head history cut number =
    live_of-shown (chain_of ends archives head history) number
    ∙ ap entry_of (shown-chain ends archives head history number cut)
    ∙ entry_of-or (newest_of number (reverse history))
    ∙ sym (live-is number history)

pub chain_of-shows : (ends : ℕ → ℕ) (archives : ℕ) (head : HeadValue) (history : List Op)
    → IsCut ends archives (length history) → (number : ℕ) (entry : EntryValue)
    → Shows (chain_of ends archives head history) number entry ↔ ((fold_of history).live number ≡ Some entry)
chain_of-shows ends archives head history cut number entry =
    let documents = chain_of ends archives head history in
    let same = sym (live_of-shown documents number) ∙ chain_of-live ends archives head history cut number in (
      λ shows. sym same ∙ ap entry_of (shown-from_Shows documents number entry
          (distinct-chain ends archives head history) shows),
      λ e. Shows-from_shown documents number entry (entry_of-kept (shown number documents) entry (same ∙ e)),
    )

-- and there are as many of them
pub chain_of-count : (ends : ℕ → ℕ) (archives : ℕ) (head : HeadValue) (created : ℤ) (history : List Op)
    → IsCut ends archives (length history) → AreFollowing created history
    → live_count_of (chain_of ends archives head history) ≡ live_count history
unfolding live_count_of
chain_of-count ends archives head created history cut following =
    let documents = chain_of ends archives head history in
    let live = (fold_of history).live in
    let greatest = greatest_member documents in
    let same = chain_of-live ends archives head history cut in
    let around : greatest + made history ≡ made history + greatest = omega arith in
    count-same (live_of documents) live greatest (λ k low high. ap is_some (same k))
    ∙ sym (count-past live greatest (made history) (λ k l. sym (same k) ∙ live_of-past documents k l))
    ∙ ap (count_up_to live) around
    ∙ count-past live (made history) greatest (λ k l. ((AreMembers-of created history following).none_past k l).0)
