-- The items of a document, read one after another, and its end.
use Rattle.std.proofs.Common.{◌≡◌, ◌≢◌, ℕ, List, [], ◌∷◌, ◌++◌, Bool, true, false, Result, Ok, Err, IsErrAnd, map, length, nat_eq, refl, sym, ap, ◌∙◌, subst, arith, codes, All, append_assoc, length-append}
use Rattle.std.proofs.lemmas.Bool.{or_from, or_parts, eq-eqb, ne_eqb, false≢true}
use Rattle.std.proofs.lemmas.List.{map-append}
use Rattle.std.proofs.lemmas.List.Elements.{All-push, All-head, All-tail}
use Rattle.std.specs.List.{IsDistinct, AllByRecursion, list_any}
use Rattle.std.specs.Result.{OnOk, is_err}
use Rattle.atom_values.specs.Listed.{Listed}
use Rattle.atom_values.specs.declared.many.ListFault.{ListFault}
use Rattle.chain_links.specs.declared.place.Span.{Span}
use Rattle.deleted_entries.specs.Item.{IsItem, item_number}
use Rattle.deleted_entries.specs.declared.item.Item.{Item}
use Rattle.atom_writer.specs.Doc.{span_len}
use Rattle.atom_writer.specs.Pieces.{joined, item_piece}
use Rattle.atom_writer.proofs.PieceLemmas.{joined-map-push}
use Rattle.atom_grammar.specs.declared.body.Body.{Body}
use Rattle.atom_grammar.specs.declared.part_fault.PartFault.{PartFault}
use Rattle.atom_grammar.specs.declared.part_fault.PartFault.TheVariants.{Mismatch, NoMemory}
use Rattle.atom_grammar.specs.FeedParts.{ReadsPiece, IsItemBehind, item_behind}
use Rattle.atom_grammar.specs.Parts.{IsAbsent, IsFound, literal, starts}
use Rattle.atom_grammar.specs.Progress.{KeepsBody, HasTaken, IsStuck}
use Rattle.atom_grammar.specs.Stages.{AreItems}
use Rattle.atom_grammar.proofs.BodyLemmas.{head_of, items_of, body_text-open, body_text-ended}
use Rattle.atom_grammar.proofs.PairLemmas.{item-second}
use Rattle.atom_grammar.proofs.ReadingLemmas.{starts_append}
use Rattle.atom_grammar.proofs.TextLemmas.{starts_split}

apart_back : (x y : ℕ) → nat_eq x y ≡ false → nat_eq y x ≡ false
apart_back x y h = ne_eqb y x (λ e. false≢true (sym h ∙ eq-eqb x y (sym e)))

each-push : (x y : ℕ) (xs : List ℕ) → AllByRecursion (λ z. nat_eq x z ≡ false) xs → nat_eq x y ≡ false
    → AllByRecursion (λ z. nat_eq x z ≡ false) (xs ++ y ∷ [])
each-push x y [] h one = (one, tt)
each-push x y (z ∷ xs) h one = (h.0, each-push x y xs h.1 one)

each-last : (x y : ℕ) (xs : List ℕ) → AllByRecursion (λ z. nat_eq x z ≡ false) (xs ++ y ∷ []) → nat_eq x y ≡ false
each-last x y [] h = h.0
each-last x y (z ∷ xs) h = each-last x y xs h.1

distinct-push : (xs : List ℕ) (y : ℕ) → IsDistinct nat_eq xs → list_any (nat_eq y) xs ≡ false
    → IsDistinct nat_eq (xs ++ y ∷ [])
unfolding IsDistinct
distinct-push [] y h none = (tt, tt)
distinct-push (x ∷ xs) y h none =
    let parts = or_parts (nat_eq y x) (list_any (nat_eq y) xs) none in
    (each-push x y xs h.0 (apart_back y x parts.0), distinct-push xs y h.1 parts.1)

distinct-last : (xs : List ℕ) (y : ℕ) → IsDistinct nat_eq (xs ++ y ∷ []) → list_any (nat_eq y) xs ≡ false
unfolding IsDistinct
distinct-last [] y h = refl
distinct-last (x ∷ xs) y h =
    or_from (nat_eq y x) (list_any (nat_eq y) xs) (apart_back x y (each-last x y xs h.0)) (distinct-last xs y h.1)

all-last : (xs : List Item) (y : Item) → All IsItem (xs ++ y ∷ []) → IsItem y
all-last [] y h = All-head IsItem y [] h
all-last (x ∷ xs) y h = all-last xs y (All-tail IsItem x (xs ++ y ∷ []) h)

more_items : (span : Span) (items : List Item) (item : Item) → AreItems span items
    → length items ≢ span_len span → IsItemBehind items item → AreItems span (items ++ item ∷ [])
more_items span items item are room behind = record {
  each = All-push IsItem items item are.each behind.item;
  room = omega (arith, are.room, length-append items (item ∷ []));
  distinct =
      subst (λ z. IsDistinct nat_eq z) (sym (map-append item_number items (item ∷ [])))
      (distinct-push (map item_number items) (item_number item) are.distinct behind.apart);
}

-- an item that may follow these
last_behind : (span : Span) (items : List Item) (item : Item) → AreItems span (items ++ item ∷ [])
    → IsItemBehind items item
last_behind span items item are = record {
  item = all-last items item are.each;
  apart =
      distinct-last (map item_number items) (item_number item)
      (subst (λ z. IsDistinct nat_eq z) (map-append item_number items (item ∷ [])) are.distinct);
}

-- a push that is no error
pub pushed_items : (r : Result (Unit {0}) ListFault) (b : Bool) → b ≡ is_err r → b ≡ false → {P : Type 0} → OnOk r P → P
pushed_items (Ok x) b is fine p = p
pushed_items (Err x) b is fine p = absurd (false≢true (sym fine ∙ is))

no_end_there : (input left : List ℕ) → starts (codes "</feed>\n") input ≡ false → input ≢ codes "</feed>\n" ++ left
no_end_there input left none e =
    false≢true (sym none ∙ ap (starts (codes "</feed>\n")) e ∙ starts_append (codes "</feed>\n") left)

module _ (body : Body) (input : List ℕ) where
  -- nothing may follow the end
  pub ended_stuck : body.ended ≡ true → input ≢ [] → IsStuck body input
  ended_stuck ended some = record {
    no_more = λ going item left are e. absurd (false≢true (sym going ∙ ended));
    no_end = λ going left e. absurd (false≢true (sym going ∙ ended));
    unended = λ _. some;
  }

  -- no item may follow, since the span has no more operations
  pub full_stuck : body.ended ≡ false → starts (codes "</feed>\n") input ≡ false
      → length body.items.items ≡ span_len body.span → IsStuck body input
  full_stuck going goes_on full = record {
    no_more = λ _ item left are e. omega (arith, are.room, length-append body.items.items (item ∷ []));
    no_end = λ _ left e. no_end_there input left goes_on e;
    unended = λ ended. absurd (false≢true (sym going ∙ ended));
  }

  no_item : body.ended ≡ false → starts (codes "</feed>\n") input ≡ false
      → IsAbsent (item_behind body.name body.items.items) input → IsStuck body input
  no_item going goes_on none = record {
    no_more = λ _ item left are e. none item left (last_behind body.span body.items.items item are) tt e;
    no_end = λ _ left e. no_end_there input left goes_on e;
    unended = λ ended. absurd (false≢true (sym going ∙ ended));
  }

  -- or no item that may follow comes next
  pub item_stuck : (after : List ℕ) (e : PartFault) (r : Result (Unit {0}) PartFault) → body.ended ≡ false
      → starts (codes "</feed>\n") input ≡ false → ReadsPiece (item_behind body.name body.items.items) input (Err e) after
      → IsErrAnd r (λ s. s ≡ e) → r ≡ Err Mismatch → IsStuck body input
  item_stuck after e (Ok x) going goes_on s same is = absurd same
  item_stuck after Mismatch (Err x) going goes_on s same is = no_item going goes_on s.1
  item_stuck after NoMemory (Err x) going goes_on s same is = absurd cc

  -- the end is there, since that was seen
  pub end_there : (after : List ℕ) (e : PartFault) (r : Result (Unit {0}) PartFault)
      → starts (codes "</feed>\n") input ≡ true → ReadsPiece (literal (codes "</feed>\n")) input (Err e) after
      → IsErrAnd r (λ s. s ≡ e) → r ≡ Err Mismatch → IsStuck body input
  unfolding literal
  end_there after e (Ok x) there s same is = absurd same
  end_there after Mismatch (Err x) there s same is =
      let split = starts_split (codes "</feed>\n") input there in
      absurd (s.1 tt split.0 tt tt split.1)
  end_there after NoMemory (Err x) there s same is = absurd cc

  module _ (keeps : KeepsBody body) (going : body.ended ≡ false) where
    -- one more item is read
    pub item_taken : (item : Item) (rest : List ℕ) (longer : Listed Item) → length body.items.items ≢ span_len body.span
        → IsFound (item_behind body.name body.items.items) input item rest
        → longer.items ≡ body.items.items ++ item ∷ []
        → HasTaken body (record body { items = longer }) input rest
    item_taken item rest longer room f pushed =
        let h = joined (head_of body) in
        let i = joined (items_of body) in
        let p = item_piece body.name item in
        let after : Body = record body { items = longer } in
        record {
          keeps = record {
            opening = keeps.opening;
            small = keeps.small;
            span = keeps.span;
            items =
                subst (λ z. AreItems body.span z) (sym pushed)
                (more_items body.span body.items.items item keeps.items room f.lawful);
          };
          split =
              ap (λ z. z ++ input) (body_text-open body going) ∙ ap (λ z. (h ++ i) ++ z) f.split
              ∙ sym (append_assoc (h ++ i) p rest) ∙ ap (λ z. z ++ rest) (append_assoc h i p)
              ∙ ap (λ z. (h ++ z) ++ rest) (sym (joined-map-push (item_piece body.name) body.items.items item)
              ∙ ap (λ z. joined (map (item_piece body.name) z)) (sym pushed))
              ∙ ap (λ z. z ++ rest) (sym (body_text-open after going));
          less = omega (arith, ap length f.split, length-append p rest, (item-second body.name item).0);
        }

    -- the end is read
    pub end_taken : (value : Unit {0}) (rest : List ℕ) → IsFound (literal (codes "</feed>\n")) input value rest
        → HasTaken body (record body { ended = true }) input rest
    unfolding literal
    end_taken value rest f =
        let after : Body = record body { ended = true } in
        record {
          keeps = record {
            opening = keeps.opening;
            small = keeps.small;
            span = keeps.span;
            items = keeps.items;
          };
          split =
              ap (λ z. z ++ input) (body_text-open body going)
              ∙ ap (λ z. (joined (head_of body) ++ joined (items_of body)) ++ z) f.split
              ∙ sym (append_assoc (joined (head_of body) ++ joined (items_of body)) (codes "</feed>\n") rest)
              ∙ ap (λ z. z ++ rest) (sym (body_text-ended after refl));
          less = omega (arith, ap length f.split, length-append (codes "</feed>\n") rest);
        }
