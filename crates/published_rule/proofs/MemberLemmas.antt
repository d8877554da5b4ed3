-- Two items of one member in a history: the older one is an entry, and the newer one isn't dated before it.
use Rattle.std.proofs.Common.{◌≡◌, inl, inr, ℕ, zero, suc, ◌<◌, ◌≤◌, ℤ, ◌≤ℤ◌, List, [], ◌∷◌, ◌++◌, length}
use Rattle.std.proofs.Common.{take, slice_get, Option, Some, None, IsSomeAnd, refl, ap, sym, subst, ◌∙◌, arith}
use Rattle.std.proofs.lemmas.Int.{ints}
use Rattle.std.proofs.lemmas.Bool.{cases_lt, cases_eq}
use Rattle.std.proofs.lemmas.Option.{slice_get_within}
use Rattle.atom_values.specs.Entry.{EntryValue}
use Rattle.deleted_entries.specs.Item.{item_number}
use Rattle.deleted_entries.specs.Tombstone.{TombstoneValue}
use Rattle.deleted_entries.specs.declared.item.Item.{Item}
use Rattle.deleted_entries.specs.declared.item.Item.TheVariants.{Kept, Gone}
use Rattle.member_rules.specs.declared.operation.Op.{Op}
use Rattle.member_rules.specs.declared.operation.Op.TheVariants.{Add, Change, Remove, Set}
use Rattle.member_rules.specs.Operation.{item_of}
use Rattle.member_rules.specs.Fold.{Fold, with_item, after_operation, fold_of, made}
use Rattle.member_rules.specs.History.{AreFollowing, Fits, later_of}
use Rattle.member_rules.proofs.FoldLemmas.{fold_of-push, made-push, AreFollowing-take}
use Rattle.member_rules.proofs.StateLemmas.{AreMembers, AreMembers-of, live_within, is_there, set-same, live-other}
use Rattle.member_rules.proofs.StateLemmas.{differ}

-- an older and a newer item of one member
abbrev pub Precedes : Item → Item → Type 0
Precedes (Kept older) (Kept newer) = older.updated ≤ℤ newer.updated
Precedes (Kept older) (Gone newer) = older.updated ≤ℤ newer.when
Precedes (Gone older) newer = ⊥

-- the member's live entry after this item, if it has one, isn't older
abbrev LeavesLive : Item → Option EntryValue → Type 0
LeavesLive item None = Unit {0}
LeavesLive (Kept entry) (Some stored) = entry.updated ≤ℤ stored.updated
LeavesLive (Gone tombstone) (Some stored) = ⊥

-- the members after an operation that has this item, or after later ones
record Leaves (item : Item) (members : Fold) (count : ℕ) : Type 0 where
  within : item_number item ≤ count
  live : LeavesLive item (members.live (item_number item))

-- the next operation that names the member

change-after : (item : Item) (live : Option EntryValue) (entry : EntryValue) → LeavesLive item live
    → IsSomeAnd live (λ stored. stored.updated ≤ℤ entry.updated) → Precedes item (Kept entry)
change-after item None entry leaves fits = absurd fits
change-after (Kept older) (Some stored) entry leaves fits = omega (arith, ints)
change-after (Gone older) (Some stored) entry leaves fits = absurd leaves

later-of_second : (a b : ℤ) → b ≤ℤ later_of a b
later-of_second a b = grind (arith, ints)

remove-after : (item : Item) (live : Option EntryValue) (tombstone : TombstoneValue) (moment : ℤ)
    → LeavesLive item live
    → IsSomeAnd live (λ stored. tombstone.when ≡ later_of moment stored.updated) → Precedes item (Gone tombstone)
remove-after item None tombstone moment leaves fits = absurd fits
remove-after (Kept older) (Some stored) tombstone moment leaves fits =
    let behind : stored.updated ≤ℤ tombstone.when =
    subst (λ (z : ℤ). stored.updated ≤ℤ z) (sym fits) (later-of_second moment stored.updated) in
    omega (arith, ints)
remove-after (Gone older) (Some stored) tombstone moment leaves fits = absurd leaves

precedes-next : (history : List Op) (operation : Op) (item later : Item)
    → Leaves item (fold_of history) (made history) → Fits history operation → item_of operation ≡ Some later
    → item_number later ≡ item_number item → Precedes item later
precedes-next history (Add entry) item later leaves fits is named =
    let own : Kept entry ≡ later = cc in
    let number : entry.number ≡ item_number item = ap item_number own ∙ named in
    absurd (omega (arith, leaves.within, fits))
precedes-next history (Change entry) item later leaves fits is named =
    let own : Kept entry ≡ later = cc in
    let number : entry.number ≡ item_number item = ap item_number own ∙ named in
    subst (Precedes item) own
    (change-after item ((fold_of history).live (item_number item)) entry leaves.live
    (subst (λ (n : ℕ). IsSomeAnd ((fold_of history).live n) (λ stored. stored.updated ≤ℤ entry.updated)) number fits))
precedes-next history (Remove removal) item later leaves fits is named =
    let own : Gone removal.tombstone ≡ later = cc in
    let number : removal.tombstone.number ≡ item_number item = ap item_number own ∙ named in
    subst (Precedes item) own
    (remove-after item ((fold_of history).live (item_number item)) removal.tombstone removal.moment leaves.live
    (subst (λ (n : ℕ). IsSomeAnd ((fold_of history).live n)
    (λ stored. removal.tombstone.when ≡ later_of removal.moment stored.updated)) number fits))
precedes-next history (Set setting moment) item later leaves fits is named = absurd (cc)

-- an item and one more operation

leaves-from : (item later : Item) (members : Fold) → Precedes item later → item_number later ≡ item_number item
    → LeavesLive item ((with_item members later).live (item_number item))
leaves-from (Kept entry) (Kept other) members precedes same =
    let own : (with_item members (Kept other)).live entry.number ≡ Some other =
    ap (with_item members (Kept other)).live (sym same) ∙ set-same other.number (Some other) members.live in
    rw own precedes
leaves-from (Kept entry) (Gone other) members precedes same =
    let own : (with_item members (Gone other)).live entry.number ≡ None =
    ap (with_item members (Gone other)).live (sym same) ∙ set-same other.number None members.live in
    rw own tt
leaves-from (Gone tombstone) later members precedes same = absurd precedes

leaves-with : (item later : Item) (members : Fold) → LeavesLive item (members.live (item_number item))
    → (item_number later ≡ item_number item → Precedes item later)
    → LeavesLive item ((with_item members later).live (item_number item))
leaves-with item later members leaves precedes = elim (cases_eq (item_number later) (item_number item)) [
  | inl same ↦ leaves-from item later members (precedes same) same
  | inr other ↦
      rw (live-other members later (item_number item) (differ (item_number later) (item_number item) other)) leaves
]

leaves-after : (item : Item) (members : Fold) (operation : Op) → LeavesLive item (members.live (item_number item))
    → ((later : Item) → item_of operation ≡ Some later → item_number later ≡ item_number item → Precedes item later)
    → LeavesLive item ((after_operation members operation).live (item_number item))
leaves-after item members (Add entry) leaves precedes =
    leaves-with item (Kept entry) members leaves (precedes (Kept entry) refl)
leaves-after item members (Change entry) leaves precedes =
    leaves-with item (Kept entry) members leaves (precedes (Kept entry) refl)
leaves-after item members (Remove removal) leaves precedes =
    leaves-with item (Gone removal.tombstone) members leaves (precedes (Gone removal.tombstone) refl)
leaves-after item members (Set setting moment) leaves precedes = leaves

leaves-more : (history : List Op) (operation : Op) (item : Item) → Leaves item (fold_of history) (made history)
    → Fits history operation
    → Leaves item (fold_of (history ++ operation ∷ [])) (made (history ++ operation ∷ []))
leaves-more history operation item leaves fits = record {
  within = omega (arith, leaves.within, made-push history operation);
  live =
      rw (fold_of-push history operation)
      (leaves-after item (fold_of history) operation leaves.live
      (λ later is named. precedes-next history operation item later leaves fits is named));
}

-- an operation's own item

own-live : (members : Fold) (item : Item) → LeavesLive item ((with_item members item).live (item_number item))
own-live members (Kept entry) = rw (set-same entry.number (Some entry) members.live) (omega (arith, ints))
own-live members (Gone tombstone) = rw (set-same tombstone.number None members.live) tt

leaves-own : (history : List Op) (operation : Op) (item : Item) → AreMembers (fold_of history) (made history)
    → Fits history operation → item_of operation ≡ Some item
    → Leaves item (after_operation (fold_of history) operation) (made (history ++ operation ∷ []))
leaves-own history (Add entry) item are fits is =
    let own : Kept entry ≡ item = cc in
    subst (λ (i : Item). Leaves i (with_item (fold_of history) (Kept entry)) (made (history ++ Add entry ∷ []))) own
    record {
      within = omega (arith, fits, made-push history (Add entry));
      live = own-live (fold_of history) (Kept entry);
    }
leaves-own history (Change entry) item are fits is =
    let own : Kept entry ≡ item = cc in
    let within = live_within (fold_of history) (made history) entry.number are
    (is_there ((fold_of history).live entry.number) _ fits) in
    subst (λ (i : Item). Leaves i (with_item (fold_of history) (Kept entry)) (made (history ++ Change entry ∷ []))) own
    record {
      within = omega (arith, within.1, made-push history (Change entry));
      live = own-live (fold_of history) (Kept entry);
    }
leaves-own history (Remove removal) item are fits is =
    let own : Gone removal.tombstone ≡ item = cc in
    let number = removal.tombstone.number in
    let within = live_within (fold_of history) (made history) number are
    (is_there ((fold_of history).live number) _ fits) in
    subst (λ (i : Item). Leaves i (with_item (fold_of history) (Gone removal.tombstone))
    (made (history ++ Remove removal ∷ []))) own
    record {
      within = omega (arith, within.1, made-push history (Remove removal));
      live = own-live (fold_of history) (Gone removal.tombstone);
    }
leaves-own history (Set setting moment) item are fits is = absurd (cc)

-- the first operations of a history, one by one

pub take-next : {T : Type 0} (n : ℕ) (list : List T) (item : T) → slice_get list n ≡ Some item
    → take (suc n) list ≡ take n list ++ item ∷ []
take-next n [] item at = absurd (cc)
take-next zero (first ∷ rest) item at = let same : first ≡ item = cc in ap (λ x. x ∷ []) same
take-next (suc n) (first ∷ rest) item at = ap (λ xs. first ∷ xs) (take-next n rest item at)

pub get-within : {T : Type 0} (list : List T) (n : ℕ) → n < length list
    → (item : T) × (slice_get list n ≡ Some item)
get-within [] n l = absurd (omega arith)
get-within (first ∷ rest) zero l = (first, refl)
get-within (first ∷ rest) (suc n) l = get-within rest n (omega arith)

leaves-later : (created : ℤ) (history : List Op) (k : ℕ) (operation : Op) (item : Item)
    → AreFollowing created history → slice_get history k ≡ Some operation → item_of operation ≡ Some item
    → (n : ℕ) → k < n → n ≤ length history → Leaves item (fold_of (take n history)) (made (take n history))
leaves-later created history k operation item following at is zero above within = absurd (omega arith)
leaves-later created history k operation item following at is (suc n) above within = elim (cases_lt k n) [
  | inl before ↦
      let next = get-within history n (omega arith) in
      rw (take-next n history next.0 next.1)
      (leaves-more (take n history) next.0 item
      (leaves-later created history k operation item following at is n before (omega arith))
      (following n next.0 next.1).fits)
  | inr past ↦
      let here : k ≡ n = omega arith in
      let there : slice_get history n ≡ Some operation = ap (slice_get history) (sym here) ∙ at in
      let are = AreMembers-of created (take n history) (AreFollowing-take created history n following) in
      rw (take-next n history operation there, fold_of-push (take n history) operation)
      (leaves-own (take n history) operation item are (following n operation there).fits is)
]

-- two operations that name one member
pub precedes : (created : ℤ) (history : List Op) (k n : ℕ) (operation next : Op) (item later : Item)
    → AreFollowing created history → k < n → slice_get history k ≡ Some operation → item_of operation ≡ Some item
    → slice_get history n ≡ Some next → item_of next ≡ Some later → item_number later ≡ item_number item
    → Precedes item later
precedes created history k n operation next item later following before at is there is_later named =
    let within = slice_get_within history n next there in
    precedes-next (take n history) next item later
    (leaves-later created history k operation item following at is n before (omega (arith, within)))
    (following n next there).fits is_later named
