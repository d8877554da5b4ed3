-- The open window of a feed: the operations after those of the sealed windows, and what is kept of them.
use Rattle.std.specs.Prelude.{◌≡◌, ◌≢◌, ◌⊎◌, ℕ, ◌+◌, ◌-◌, ◌<◌, ◌≤◌, ℤ, List, [], ◌∷◌, ◌++◌, Option, Some}
use Rattle.std.specs.Prelude.{All, option_map, length, drop, map, nat_eq, slice_get, slice_set}
use Rattle.std.specs.List.{IsDistinct, filter_map}
use Rattle.atom_writer.specs.Doc.{DocValue}
use Rattle.atom_writer.specs.declared.doc.Kind.{Kind}
use Rattle.atom_writer.specs.declared.doc.Kind.TheVariants.{Subscription, Archive}
use Rattle.deleted_entries.specs.Item.{item_number}
use Rattle.deleted_entries.specs.declared.item.Item.{Item}
use Rattle.member_rules.specs.declared.operation.Op.{Op}
use Rattle.member_rules.specs.Documents.{document_of, title_after}
use Rattle.member_rules.specs.Head.{HeadValue}
use Rattle.member_rules.specs.History.{history_limit}
use Rattle.member_rules.specs.Items.{items_of}
use Rattle.member_rules.specs.Operation.{moment_of}
use Rattle.member_rules.specs.Setting.{IsWindowSize}
use Rattle.member_rules.specs.Windows.{size_after, windows_from, windows_of}
use Rattle.recency_list.specs.Recency.{RecencyValue, touched}

-- the size of the feed's first window and its first title; all operations that were committed; and how many more there
-- is room for
pub record WindowValue : Type 0 where
  pub first : ℕ
  pub title : List ℕ
  pub history : List Op
  pub spare : ℕ

-- the window is that of the feed with this head
pub record IsOfFeed (window : WindowValue) (head : HeadValue) : Type 0 where
  pub first : head.window ≡ window.first
  pub title : head.name.title ≡ window.title

-- the last window of the history is full, and isn't sealed yet
abbrev pub IsFull : HeadValue → List Op → Type 0
IsFull head history = let windows = windows_of head history in windows.full ≡ windows.sealed + 1

-- the document of this kind that has the operations of the open window
unfoldable pub open_document : HeadValue → Kind → List Op → DocValue
open_document head kind history =
    let windows = windows_of head history in
    document_of head kind windows.sealed (windows.ends windows.sealed) history

-- the open window has a subscription document, and the archive of the next number if it is full
abbrev pub IsOpenKind : HeadValue → List Op → Kind → Type 0
IsOpenKind head history Subscription = Unit {0}
IsOpenKind head history (Archive number) =
    IsFull head history × (number ≡ (windows_of head history).sealed + 1)

-- what a window keeps: how many operations fill the open window, and the one after it; how many windows are sealed, and
-- how many operations those have; how many operations are in the open one; the moment of the last operation, and the
-- title after it; and a slot for each member that the open window names
pub record Kept : Type 0 where
  pub size : ℕ
  pub next_size : ℕ
  pub sealed : ℕ
  pub before : ℕ
  pub count : ℕ
  pub last : Option ℤ
  pub title : List ℕ
  pub items : List Item
  pub order : RecencyValue

-- the numbers are those after the operations of a feed whose first window has this size
pub record AreCounts (kept : Kept) (first : ℕ) (history : List Op) : Type 0 where
  pub first_size : IsWindowSize first
  pub size : (windows_from first history).ends (kept.sealed + 1) ≡ kept.before + kept.size
  pub next_size : kept.next_size ≡ size_after first history
  pub limits : IsWindowSize kept.size
  pub next_limits : IsWindowSize kept.next_size
  pub few : length history ≤ history_limit
  pub sealed : kept.sealed ≡ (windows_from first history).sealed
  pub before : kept.before ≡ (windows_from first history).ends kept.sealed
  pub count : kept.before + kept.count ≡ length history
  pub within : kept.count ≤ kept.size
  pub counted : kept.sealed ≤ kept.before

-- the items have a slot for each member, and the listed ones are those of these operations, in the order that the
-- documents have
pub record AreItems (items : List Item) (slots : List ℕ) (operations : List Op) : Type 0 where
  pub apart : IsDistinct nat_eq (map item_number items)
  pub there : All (λ slot. slot < length items) slots
  pub are : filter_map (slice_get items) slots ≡ items_of operations

-- this is kept after these operations of a feed with this first size and this first title
pub record IsKeptOf (kept : Kept) (first : ℕ) (first_title : List ℕ) (history : List Op) : Type 0 where
  pub counts : AreCounts kept first history
  pub last : kept.last ≡ option_map moment_of (slice_get history (length history - 1))
  pub title : kept.title ≡ title_after first_title history
  pub items : AreItems kept.items kept.order.list (drop kept.before history)
  pub few : length kept.items ≤ kept.count

-- the item at this slot is the member's
abbrev pub IsSlotOf : ℕ → List Item → ℕ → Type 0
IsSlotOf number items slot = option_map item_number (slice_get items slot) ≡ Some number

-- the item was put into the slot of its member, or into a new slot where the member had none
abbrev pub IsPut : Item → List Item → List Item → ℕ → Type 0
IsPut item before after slot =
    (IsSlotOf (item_number item) before slot × (after ≡ slice_set before slot item))
    ⊎ (All (λ other. item_number other ≢ item_number item) before × (after ≡ before ++ item ∷ [])
    × (slot ≡ length before))

-- the item was put into a slot, which is the newest now
pub record IsTouched (item : Item) (before after : List Item) (was is : RecencyValue) : Type 0 where
  pub slot : ℕ
  pub put : IsPut item before after slot
  pub list : is.list ≡ touched slot was.list
  pub slots : is.slots ≡ was.slots
