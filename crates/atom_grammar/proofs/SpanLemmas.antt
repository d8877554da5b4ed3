-- A span and an item that keep the rules of their place.
use Rattle.std.proofs.Common.{◌≡◌, ℕ, ◌≤◌, List, [], ◌∷◌, map, Bool, false, ◌||◌, nat_eq, refl, ap, ◌∙◌, IsTrue}
use Rattle.std.specs.List.{list_any}
use Rattle.chain_links.specs.declared.place.Span.{Span}
use Rattle.deleted_entries.specs.Item.{item_number}
use Rattle.deleted_entries.specs.declared.item.Item.{Item}
use Rattle.atom_writer.specs.declared.doc.FeedName.{FeedName}
use Rattle.atom_writer.specs.declared.doc.Kind.{Kind}
use Rattle.atom_writer.specs.Doc.{is_placed, span_len}
use Rattle.atom_grammar.specs.FeedParts.{span, span_of, item_behind}
use Rattle.atom_grammar.specs.Items.{item}
use Rattle.atom_grammar.proofs.ReadingLemmas.{Renames}

abbrev pub Placed : Kind → ℕ → Span → Type 0
Placed kind prev span = IsTrue (is_placed kind span prev) × (span_len span ≤ 100)

pub span_narrowed : (kind : Kind) (prev : ℕ) → Renames span (span_of kind prev) (Placed kind prev) (λ v. v) (λ v. v)
span_narrowed kind prev = record {
  is = λ v is keeps. record { bounds = is; placed = keeps.0; few = keeps.1 };
  text = λ v is keeps. refl;
  was = λ v is. is.bounds;
  keeps = λ v is. (is.placed, is.few);
  same = λ v is. refl;
  again = λ v is. refl;
  before = λ rest b. tt;
}

abbrev pub Apart : List Item → Item → Type 0
Apart before next = list_any (nat_eq (item_number next)) (map item_number before) ≡ false

pub item_narrowed : (name : FeedName) (before : List Item)
    → Renames (item name) (item_behind name before) (Apart before) (λ v. v) (λ v. v)
unfolding item
item_narrowed name before = record {
  is = λ v is keeps. record { item = is; apart = keeps };
  text = λ v is keeps. refl;
  was = λ v is. is.item;
  keeps = λ v is. is.apart;
  same = λ v is. refl;
  again = λ v is. refl;
  before = λ rest b. tt;
}

numbers_any : (number : ℕ) (items : List Item)
    → list_any (λ item. nat_eq number (item_number item)) items ≡ list_any (nat_eq number) (map item_number items)
numbers_any number [] = refl
numbers_any number (item ∷ items) = ap (λ b. nat_eq number (item_number item) || b) (numbers_any number items)

-- whether an item of the number is among them
pub among : (before : List Item) (item : Item) (number : ℕ) (answer : Bool) → number ≡ item_number item
    → answer ≡ list_any (λ other. nat_eq number (item_number other)) before
    → answer ≡ list_any (nat_eq (item_number item)) (map item_number before)
among before item number answer same is =
    is ∙ numbers_any number before ∙ ap (λ n. list_any (nat_eq n) (map item_number before)) same
