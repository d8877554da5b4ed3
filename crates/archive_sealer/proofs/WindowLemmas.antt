-- A window after one more operation.
use Rattle.std.proofs.Common.{◌≡◌, ◌≢◌, ℕ, ◌+◌, ◌-◌, ◌<◌, ◌≤◌, List, [], ◌∷◌, ◌++◌, Option, Some, None, length, drop}
use Rattle.std.proofs.Common.{slice_get, option_map, refl, sym, ap, ◌∙◌, arith}
use Rattle.std.specs.Prelude.{unwrap_or}
use Rattle.std.proofs.lemmas.Bool.{le-leb}
use Rattle.std.proofs.lemmas.List.{drop_all, drop-append-le, length_push, get_or_push}
use Rattle.std.proofs.lemmas.Option.{slice_get-get_or}
use Rattle.deleted_entries.specs.declared.item.Item.{Item}
use Rattle.member_rules.specs.declared.operation.Op.{Op}
use Rattle.member_rules.specs.Documents.{title_after, title_set}
use Rattle.member_rules.specs.Head.{window_limit}
use Rattle.member_rules.specs.History.{history_limit}
use Rattle.member_rules.specs.Operation.{item_of, moment_of}
use Rattle.member_rules.specs.Setting.{IsWindowSize}
use Rattle.member_rules.specs.Windows.{size_after, size_set, window_ends, windows_from, window_size}
use Rattle.member_rules.proofs.WindowLemmas.{size_after-push, title_after-push}
use Rattle.recency_list.specs.Recency.{RecencyValue}
use Rattle.archive_sealer.specs.declared.past.Past.{Past}
use Rattle.archive_sealer.specs.Window.{Kept, AreItems, IsKeptOf, IsTouched}
use Rattle.archive_sealer.proofs.WindowCountLemmas.{IsOpen, IsOpen-sealed, IsOpen-still, AreCounts-more}
use Rattle.archive_sealer.proofs.WindowItemsLemmas.{AreItems-none, AreItems-put, AreItems-skip, put-within}

-- after these operations, the open window isn't full
pub record IsReady (size sealed before count : ℕ) (items : List Item) (slots : List ℕ) (first : ℕ) (history : List Op)
    : Type 0 where
  pub numbers : IsOpen size sealed before count first history
  pub listed : AreItems items slots (drop before history)
  pub few : length items ≤ count

-- a full window is sealed, and the next one is empty
pub IsReady-sealed : (kept : Kept) (first : ℕ) (title : List ℕ) (history : List Op) (items : List Item)
    (slots : List ℕ) → IsKeptOf kept first title history → kept.count ≡ kept.size → items ≡ [] → slots ≡ []
    → IsReady kept.next_size (kept.sealed + 1) (kept.before + kept.size) 0 items slots first history
IsReady-sealed kept first title history items slots of full i s = record {
  numbers = IsOpen-sealed kept first history of.counts full;
  listed =
      AreItems-none items slots (drop (kept.before + kept.size) history) i s
      (drop_all (kept.before + kept.size) history (omega (arith, of.counts.count)));
  few = omega (arith, ap length i);
}

-- an open window that isn't full takes the operation
pub IsReady-still : (kept : Kept) (first : ℕ) (title : List ℕ) (history : List Op) → IsKeptOf kept first title history
    → kept.count ≢ kept.size
    → IsReady kept.size kept.sealed kept.before kept.count kept.items kept.order.list first history
IsReady-still kept first title history of other = record {
  numbers = IsOpen-still kept first history of.counts other;
  listed = of.items;
  few = of.few;
}

-- the last operation
last-push : (history : List Op) (operation : Op) (n : ℕ) → n ≡ length history
    → slice_get (history ++ operation ∷ []) n ≡ Some operation
last-push history operation n e =
    slice_get-get_or (history ++ operation ∷ []) n operation (omega (arith, length_push history operation))
    ∙ ap (λ (o : Op). Some o) (get_or_push history operation operation n (sym e))

-- the items after the operation, with the slots by their members' last operations
pub record AreAdded (items : List Item) (slots : List ℕ) (operation : Op) (before : List Item) (old : List ℕ) : Type 0 where
  pub listed : (operations : List Op) → AreItems before old operations
      → AreItems items slots (operations ++ operation ∷ [])
  pub few : (operations : List Op) → AreItems before old operations → length items ≤ length before + 1

-- an operation on a member
pub AreAdded-touched : (item : Item) (before after : List Item) (was is : RecencyValue) (operation : Op)
    → item_of operation ≡ Some item → IsTouched item before after was is
    → AreAdded after is.list operation before was.list
AreAdded-touched item before after was is operation of touched = record {
  listed = λ operations are.
      rw touched.list
      (AreItems-put before was.list operations are item after touched.slot operation of touched.put);
  few = λ operations are. put-within before was.list operations are item after touched.slot touched.put;
}

-- an operation on a setting
pub AreAdded-none : (items : List Item) (slots : List ℕ) (operation : Op) → item_of operation ≡ None
    → AreAdded items slots operation items slots
AreAdded-none items slots operation none = record {
  listed = λ operations are. AreItems-skip items slots operations are operation none;
  few = λ operations are. omega arith;
}

-- what is kept after one more operation
pub IsKeptOf-more : (kept : Kept) (count : ℕ) (items : List Item) (slots : List ℕ) (past after : Past) (operation : Op)
    → IsReady kept.size kept.sealed kept.before count items slots past.first past.operations
    → length past.operations < history_limit → AreAdded kept.items kept.order.list operation items slots
    → kept.count ≡ count + 1 → kept.last ≡ Some (moment_of operation)
    → kept.title ≡ unwrap_or (title_set operation) (title_after past.title past.operations)
    → kept.next_size ≡ unwrap_or (size_set operation) (size_after past.first past.operations)
    → after ≡ record past { operations = past.operations ++ operation ∷ [] }
    → IsKeptOf kept after.first after.title after.operations
IsKeptOf-more kept count items slots past after operation ready less added more last named next grown =
    let history = past.operations in
    let pushed = history ++ operation ∷ [] in
    let longer : length pushed ≡ length history + 1 = length_push history operation in
    let one_less : length pushed - 1 ≡ length history = omega arith in
    let newest : slice_get pushed (length pushed - 1) ≡ Some operation =
    last-push history operation (length pushed - 1) one_less in
    let split : drop kept.before pushed ≡ drop kept.before history ++ operation ∷ [] =
    drop-append-le kept.before history (operation ∷ []) (omega (arith, ready.numbers.count_is)) in
    rw grown record {
      counts = AreCounts-more kept count past.first history operation ready.numbers less more
          (next ∙ sym (size_after-push past.first history operation));
      last = last ∙ ap (option_map moment_of) (sym newest);
      title = named ∙ sym (title_after-push past.title history operation);
      items = rw split (added.listed (drop kept.before history) ready.listed);
      few = omega (arith, more, ready.few, added.few (drop kept.before history) ready.listed);
    }

-- a setting that the operation doesn't change
pub unset : {A : Type 0} (set : Option A) (before value : A) → set ≡ None → value ≡ before
    → value ≡ unwrap_or set before
unset set before value none same = rw none same

-- a setting that the operation changes
pub is-set : {A : Type 0} (set : Option A) (before new value : A) → set ≡ Some new → value ≡ new
    → value ≡ unwrap_or set before
is-set set before new value some same = rw some same

-- a size that an operation sets is one that a window may have
pub window_size-some : (size : ℕ) → IsWindowSize size → window_size size ≡ Some size
window_size-some size limits = rw (le-leb 1 size limits.0, le-leb size window_limit limits.1) refl

-- before any operation
pub IsKeptOf-none : (kept : Kept) (first : ℕ) (title : List ℕ) (history : List Op) → IsWindowSize first
    → kept.size ≡ first → kept.next_size ≡ first → kept.sealed ≡ 0 → kept.before ≡ 0 → kept.count ≡ 0
    → kept.last ≡ None → kept.title ≡ title → kept.items ≡ [] → kept.order.list ≡ [] → history ≡ []
    → IsKeptOf kept first title history
unfolding window_ends windows_from size_after title_after
IsKeptOf-none kept first title history limits size next sealed before count last named items slots empty = rw empty record {
  counts = record {
    first_size = limits;
    size = rw (sealed, before, size) refl;
    next_size = next;
    limits = (omega (arith, limits.0), omega (arith, limits.1));
    next_limits = (omega (arith, limits.0), omega (arith, limits.1));
    few = omega arith;
    sealed = sealed;
    before = before ∙ ap (window_ends first []) (sym sealed);
    count = omega (arith, before, count);
    within = omega (arith, count);
    counted = omega arith;
  };
  last = last;
  title = named;
  items = AreItems-none kept.items kept.order.list (drop kept.before []) items slots
      (drop_all kept.before [] (omega arith));
  few = omega (arith, ap length items);
}
