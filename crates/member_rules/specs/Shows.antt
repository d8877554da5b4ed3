-- The members that a list of documents, newest first, shows: the newest document that has an item of a member decides.
-- RFC 5005's rule for duplicate entries goes by `atom:updated`; here the order of the documents decides.
use Rattle.std.specs.Prelude.{◌≡◌, ◌==◌, ℕ, List, ◌∷◌, ◌++◌, Option, Some, None, max, fold, All, Any, Contains}
use Rattle.std.specs.List.{find, flat_map}
use Rattle.atom_values.specs.Entry.{EntryValue}
use Rattle.atom_writer.specs.Doc.{DocValue}
use Rattle.deleted_entries.specs.Item.{item_number}
use Rattle.deleted_entries.specs.declared.item.Item.{Item}
use Rattle.deleted_entries.specs.declared.item.Item.TheVariants.{Kept, Gone}
use Rattle.member_rules.specs.Fold.{count_up_to}

-- the document has an item of the member
abbrev pub HasItemOf : ℕ → DocValue → Type 0
HasItemOf number document = Any (λ item. item_number item ≡ number) document.items

-- a document has the member's entry, and no newer one has any item of the member
pub record Shows (documents : List DocValue) (number : ℕ) (entry : EntryValue) : Type 0 where
  pub newer : List DocValue
  pub document : DocValue
  pub older : List DocValue
  pub split : documents ≡ newer ++ document ∷ older
  pub kept : Contains document.items (Kept entry)
  pub member : entry.number ≡ number
  pub newest : All (λ other. ¬ HasItemOf number other) newer

-- the entry of a kept item
abbrev pub entry_of : Option Item → Option EntryValue
entry_of None = None
entry_of (Some (Kept entry)) = Some entry
entry_of (Some (Gone tombstone)) = None

-- all items of the documents, newest document first
abbrev pub all_items : List DocValue → List Item
all_items documents = flat_map (λ (document : DocValue). document.items) documents

-- the live entries of the documents, by number: the member's first item decides
unfoldable pub live_of : List DocValue → ℕ → Option EntryValue
live_of documents number = entry_of (find (λ item. item_number item == number) (all_items documents))

-- the greatest number of a member that the documents have an item of, or 0
abbrev pub greatest_member : List DocValue → ℕ
greatest_member documents = fold (λ greatest item. max greatest (item_number item)) 0 (all_items documents)

-- how many live entries the documents have
unfoldable pub live_count_of : List DocValue → ℕ
live_count_of documents = count_up_to (live_of documents) (greatest_member documents)
