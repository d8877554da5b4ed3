-- The documents of a history, each as one `document_of`, and that they keep the rules of documents.
use Rattle.std.proofs.Common.{◌≡◌, ℕ, ◌+◌, ◌-◌, ◌≤◌, List, length, take, drop, ℤ, refl, sym, ap, ◌∙◌, subst, arith}
use Rattle.std.proofs.Common.{length-drop}
use Rattle.deleted_entries.specs.declared.item.Item.{Item}
use Rattle.atom_writer.specs.declared.doc.FeedName.{FeedName}
use Rattle.atom_writer.specs.declared.doc.Kind.{Kind}
use Rattle.atom_writer.specs.declared.doc.Kind.TheVariants.{Subscription, Archive}
use Rattle.atom_writer.specs.Doc.{KeepsRules}
use Rattle.member_rules.specs.declared.operation.Op.{Op}
use Rattle.member_rules.specs.Head.{HeadValue, window_limit}
use Rattle.member_rules.specs.Fold.{last_moment}
use Rattle.member_rules.specs.Items.{items_of}
use Rattle.member_rules.specs.History.{history_limit}
use Rattle.member_rules.specs.Windows.{last_within, window_ends, windows_from, windows_of}
use Rattle.member_rules.specs.Documents.{name_of, document_of, archive_of, subscription_of, archive, subscription}
use Rattle.member_rules.specs.Documents.{title_after}
use Rattle.member_rules.proofs.DocumentRulesLemmas.{archive-keeps, subscription-keeps}
use Rattle.archive_sealer.specs.declared.place.Place.{Place}
use Rattle.archive_sealer.specs.Place.{IsPlaceOf}
use Rattle.archive_sealer.proofs.PlaceLemmas.{place-end, place-filled}

-- the document of these parts
pub form-of_parts : (head : HeadValue) (kind : Kind) (prev before : ℕ) (covered : List Op) (name : FeedName)
    (updated : ℤ) (items : List Item) → name ≡ record head.name { title = title_after head.name.title covered }
    → updated ≡ last_moment head.created covered → items ≡ items_of (drop before covered)
    → document_of head kind prev before covered ≡ record {
      name = name;
      kind = kind;
      span = record { first = before + 1; last = length covered };
      prev = prev;
      updated = updated;
      items = items;
    }
unfolding document_of name_of
form-of_parts head kind prev before covered name updated items n u i = rw (n, u, i) refl

-- a document has at most 100 operations
pub few-open : (head : HeadValue) (kind : Kind) (prev before : ℕ) (covered : List Op)
    → KeepsRules (document_of head kind prev before covered) → length (drop before covered) ≤ window_limit
unfolding document_of
few-open head kind prev before covered rules = omega (arith, rules.few, length-drop before covered)

-- the subscription document, from the place after the sealed windows
pub subscription-form : (head : HeadValue) (history : List Op) (place : Place)
    → IsPlaceOf head.window history place
    → place.windows ≡ last_within (window_ends head.window history) (length history - 1) (length history - 1)
    → document_of head Subscription place.windows place.before history ≡ subscription head history
unfolding subscription subscription_of windows_of windows_from
subscription-form head history place of last = rw (of.before, last) refl

-- an archive, from the place of its window
pub archive-form : (head : HeadValue) (history : List Op) (number : ℕ) (place : Place) (covered : List Op)
    → IsPlaceOf head.window history place → place.windows ≡ number - 1 → 1 ≤ number
    → covered ≡ take (place.before + place.size) history
    → document_of head (Archive number) place.windows place.before covered ≡ archive head history number
unfolding archive archive_of windows_of windows_from
archive-form head history number place covered of windows one covers =
    let next : number ≡ place.windows + 1 = omega arith in
    let end : window_ends head.window history number ≡ place.before + place.size =
    ap (window_ends head.window history) next ∙ place-end head.window history place of in
    rw (covers, ← end, of.before, windows) refl

-- the operations of a full window are there
pub archive-within : (head : HeadValue) (history : List Op) (number : ℕ) (place : Place)
    → IsPlaceOf head.window history place → place.windows ≡ number - 1 → 1 ≤ number
    → number ≤ (windows_of head history).full → place.before + place.size ≤ length history
unfolding windows_of
archive-within head history number place of windows one full =
    place-filled head.window history place of (omega arith)

-- the subscription document keeps the rules
pub subscription-rules : (head : HeadValue) (history : List Op) (place : Place)
    → IsPlaceOf head.window history place
    → place.windows ≡ last_within (window_ends head.window history) (length history - 1) (length history - 1)
    → KeepsRules (document_of head Subscription place.windows place.before history)
subscription-rules head history place of last =
    subst KeepsRules (sym (subscription-form head history place of last))
    (subscription-keeps head history of.first_size)

-- an archive keeps the rules
pub archive-rules : (head : HeadValue) (history : List Op) (number : ℕ) (place : Place) (covered : List Op)
    → IsPlaceOf head.window history place → place.windows ≡ number - 1
    → covered ≡ take (place.before + place.size) history → length history ≤ history_limit → 1 ≤ number
    → number ≤ (windows_of head history).full
    → KeepsRules (document_of head (Archive number) place.windows place.before covered)
archive-rules head history number place covered of windows covers few one full =
    subst KeepsRules (sym (archive-form head history number place covered of windows one covers))
    (archive-keeps head history number of.first_size few one full)
