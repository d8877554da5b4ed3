-- How many bytes the documents of a lawful history have at most.
use Rattle.std.proofs.Common.{◌≡◌, ℕ, ◌-◌, ◌≤◌, List, length, take, drop, refl, arith}
use Rattle.std.specs.Prelude.{All, IfSome}
use Rattle.std.proofs.lemmas.List.Elements.{All-take, All-drop}
use Rattle.atom_values.specs.Entry.{EntryValue}
use Rattle.deleted_entries.specs.declared.item.Item.{Item}
use Rattle.deleted_entries.specs.declared.item.Item.TheVariants.{Kept}
use Rattle.atom_writer.specs.declared.doc.FeedName.{FeedName}
use Rattle.atom_writer.specs.Doc.{DocValue, IsDoc}
use Rattle.atom_writer.specs.Entries.{inner_text, front_text, back_text, edit_link}
use Rattle.atom_writer.specs.Pieces.{entry_piece, item_piece, text}
use Rattle.atom_writer.proofs.LengthLemmas.{text-short, tombstone_piece-short}
use Rattle.member_rules.specs.declared.operation.Op.{Op}
use Rattle.member_rules.specs.declared.operation.Op.TheVariants.{Add, Change, Remove, Set}
use Rattle.member_rules.specs.Coding.{payload_limit}
use Rattle.member_rules.specs.Documents.{name_of, document_of, archive_of, subscription_of, archive, subscription}
use Rattle.member_rules.specs.Head.{HeadValue, IsHead}
use Rattle.member_rules.specs.History.{IsLawful, IsSmall, entry_limit}
use Rattle.member_rules.specs.Laws.{DocumentsAreShort}
use Rattle.member_rules.specs.Operation.{item_of}
use Rattle.member_rules.specs.Windows.{windows_of}
use Rattle.member_rules.proofs.CutLemmas.{full-cut, windows-cut}
use Rattle.member_rules.proofs.DocumentRulesLemmas.{archive-is_doc, subscription-is_doc}
use Rattle.member_rules.proofs.ItemsKeptLemmas.{items-each}

-- the piece of the item has at most `entry_limit` bytes
abbrev IsShort : FeedName → Item → Type 0
IsShort name item = length (item_piece name item) ≤ entry_limit

-- an entry's piece doesn't have the feed's title
entry_piece-named : (head : HeadValue) (covered : List Op) (entry : EntryValue)
    → entry_piece (name_of head covered) entry ≡ entry_piece head.name entry
unfolding name_of entry_piece inner_text front_text back_text edit_link
entry_piece-named head covered entry = refl

entry-short : (head : HeadValue) (covered : List Op) (entry : EntryValue)
    → length (entry_piece head.name entry) ≤ entry_limit → IsShort (name_of head covered) (Kept entry)
entry-short head covered entry small = rw (entry_piece-named head covered entry) small

item_of-short : (head : HeadValue) (covered : List Op) (operation : Op) → IsSmall head.name operation
    → IfSome (item_of operation) (IsShort (name_of head covered))
item_of-short head covered (Add entry) small = entry-short head covered entry small
item_of-short head covered (Change entry) small = entry-short head covered entry small
item_of-short head covered (Remove removal) small =
    omega (arith, tombstone_piece-short (name_of head covered) removal.tombstone)
item_of-short head covered (Set setting moment) small = tt

-- a document whose items are short
short_by_items : (d : DocValue) → IsDoc d → All (IsShort d.name) d.items → length (text d) ≤ payload_limit
short_by_items d is are = omega (arith, text-short d entry_limit is are, is.rules.few, is.rules.room)

subscription-short : (head : HeadValue) (history : List Op) → IsHead head → IsLawful head history
    → length (text (subscription head history)) ≤ payload_limit
unfolding subscription subscription_of document_of
subscription-short head history is_head lawful =
    let windows = windows_of head history in
    let before = windows.ends windows.sealed in
    short_by_items (subscription head history)
    (subscription-is_doc windows.ends windows.sealed head history is_head lawful
    (windows-cut head history is_head.limits.window))
    (items-each (IsSmall head.name) (IsShort (name_of head history)) (item_of-short head history) (drop before history)
    (All-drop (IsSmall head.name) before history lawful.small))

archive-short : (head : HeadValue) (history : List Op) (number : ℕ) → IsHead head → IsLawful head history
    → 1 ≤ number → number ≤ (windows_of head history).full
    → length (text (archive head history number)) ≤ payload_limit
unfolding archive archive_of document_of
archive-short head history number is_head lawful one full =
    let ends = (windows_of head history).ends in
    let covered = take (ends number) history in
    let before = ends (number - 1) in
    short_by_items (archive head history number)
    (archive-is_doc ends number head history number is_head lawful
    (full-cut head history number is_head.limits.window full) one (omega arith))
    (items-each (IsSmall head.name) (IsShort (name_of head covered)) (item_of-short head covered) (drop before covered)
    (All-drop (IsSmall head.name) before covered
    (All-take (IsSmall head.name) (ends number) history lawful.small)))

pub documents-short : DocumentsAreShort
documents-short head history is_head lawful = (
  subscription-short head history is_head lawful,
  λ number one full. archive-short head history number is_head lawful one full,
)
