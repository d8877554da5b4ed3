-- The documents of a window, by what it keeps, and that they keep the rules of documents.
use Rattle.std.proofs.Common.{◌≡◌, ℕ, ◌+◌, ◌-◌, ◌≤◌, ℤ, List, length, slice_get, refl, sym, ap, ◌∙◌}
use Rattle.std.proofs.Common.{Option, subst, arith}
use Rattle.std.specs.Prelude.{unwrap_or}
use Rattle.std.specs.List.{filter_map}
use Rattle.std.proofs.lemmas.List.{take_all}
use Rattle.deleted_entries.specs.declared.item.Item.{Item}
use Rattle.atom_writer.specs.declared.doc.FeedName.{FeedName}
use Rattle.atom_writer.specs.declared.doc.Kind.{Kind}
use Rattle.atom_writer.specs.declared.doc.Kind.TheVariants.{Subscription, Archive}
use Rattle.atom_writer.specs.Doc.{KeepsRules}
use Rattle.member_rules.specs.declared.operation.Op.{Op}
use Rattle.member_rules.specs.Head.{HeadValue}
use Rattle.member_rules.specs.History.{history_limit}
use Rattle.member_rules.specs.Setting.{IsWindowSize}
use Rattle.member_rules.specs.Windows.{windows_from, windows_of}
use Rattle.member_rules.specs.Documents.{archive_of, subscription_of, archive, subscription, title_after}
use Rattle.member_rules.proofs.DocumentRulesLemmas.{archive-keeps, subscription-keeps}
use Rattle.member_rules.proofs.WindowLemmas.{last-within}
use Rattle.archive_sealer.specs.Window.{IsFull, IsKeptOf, IsOpenKind, Kept, open_document}
use Rattle.archive_sealer.proofs.DocumentFormLemmas.{form-of_parts}

-- the document of these parts
pub window-form : (head : HeadValue) (kind : Kind) (history : List Op) (kept : Kept) (first : ℕ) (title : List ℕ)
    (name : FeedName) (updated : ℤ) (items : List Item) → IsKeptOf kept first title history → head.window ≡ first
    → head.name.title ≡ title → name ≡ record head.name { title = kept.title }
    → updated ≡ unwrap_or kept.last head.created → items ≡ filter_map (slice_get kept.items) kept.order.list
    → open_document head kind history ≡ record {
      name = name;
      kind = kind;
      span = record { first = kept.before + 1; last = kept.before + kept.count };
      prev = kept.sealed;
      updated = updated;
      items = items;
    }
unfolding open_document windows_of
window-form head kind history kept first title name updated items of w t n u i =
    let counts = of.counts in
    let windows = windows_from head.window history in
    let sealed : kept.sealed ≡ windows.sealed =
    counts.sealed ∙ ap (λ n. (windows_from n history).sealed) (sym w) in
    let before : kept.before ≡ windows.ends windows.sealed =
    counts.before ∙ ap (λ n. (windows_from n history).ends kept.sealed) (sym w) ∙ ap windows.ends sealed in
    let named : name ≡ record head.name { title = title_after head.name.title history } =
    n
    ∙ ap (λ (title : List ℕ). record head.name { title = title })
    (of.title ∙ ap (λ (title : List ℕ). title_after title history) (sym t)) in
    rw (← before, ← sealed, counts.count)
    (form-of_parts head kind kept.sealed kept.before history name updated items named
    (u ∙ ap (λ (last : Option ℤ). unwrap_or last head.created) of.last) (i ∙ of.items.are))

pub subscription-is : (head : HeadValue) (history : List Op)
    → open_document head Subscription history ≡ subscription head history
unfolding open_document subscription subscription_of
subscription-is head history = refl

-- a full open window ends where the history does
full-whole : (head : HeadValue) (history : List Op) → IsWindowSize head.window → IsFull head history
    → (windows_of head history).ends ((windows_of head history).sealed + 1) ≡ length history
unfolding windows_of windows_from
full-whole head history limits full =
    let windows = windows_of head history in
    let same : windows.ends windows.full ≡ windows.ends (windows.sealed + 1) = ap windows.ends full in
    let within = (last-within head.window history (length history) limits).0 in
    let past = (last-within head.window history (length history - 1) limits).1 in
    omega (arith, same, within, past)

pub archive-is : (head : HeadValue) (history : List Op) → IsWindowSize head.window → IsFull head history
    → open_document head (Archive ((windows_of head history).sealed + 1)) history
    ≡ archive head history ((windows_of head history).sealed + 1)
unfolding open_document archive archive_of
archive-is head history limits full =
    let sealed = (windows_of head history).sealed in
    let same : sealed + 1 - 1 ≡ sealed = omega arith in
    rw (same, full-whole head history limits full, take_all (length history) history (omega arith)) refl

pub open-rules : (head : HeadValue) (history : List Op) (kind : Kind) → IsWindowSize head.window
    → length history ≤ history_limit → IsOpenKind head history kind → KeepsRules (open_document head kind history)
open-rules head history Subscription limits few is =
    subst KeepsRules (sym (subscription-is head history)) (subscription-keeps head history limits)
open-rules head history (Archive number) limits few is =
    let sealed = (windows_of head history).sealed in
    let form = ap (λ (n : ℕ). open_document head (Archive n) history) is.1 ∙ archive-is head history limits is.0 in
    subst KeepsRules (sym form)
    (archive-keeps head history (sealed + 1) limits few (omega arith) (omega (arith, is.0)))
