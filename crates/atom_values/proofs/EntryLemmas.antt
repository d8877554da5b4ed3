-- The entry that is made of a draft, part by part.
use Rattle.std.proofs.Common.{◌≡◌, ℕ, ◌≤◌, ℤ, Bool, true, false, not, ◌||◌, cond, Option, Some, None, List, [], ◌∷◌}
use Rattle.std.proofs.Common.{Less, Equal, Greater, filter, refl, sym, ap, subst, ◌∙◌, ⊎_elim, arith}
use Rattle.std.specs.Prelude.{unwrap_or, is_some, int_lt, IsTrue, if◌then◌else◌}
use Rattle.std.specs.List.{list_any}
use Rattle.std.specs.Ordering.{is_lt, int_cmp, ord_max}
use Rattle.std.proofs.lemmas.Bool.{cases_Bool, or_from}
use Rattle.std.proofs.lemmas.Int.{ints}
use Rattle.atom_values.specs.declared.text.Text.{Text}
use Rattle.atom_values.specs.declared.link.Link.{Link}
use Rattle.atom_values.specs.Entry.{DraftValue, EntryValue, IsWhole, normal, not_before, shown_content, empty_text}
use Rattle.atom_values.specs.Link.{has_alternate, has_edit, without_edit}

is_less : (a b : Bool) → is_lt (cond a Less (cond b Greater Equal)) ≡ a
is_less true b = refl
is_less false true = refl
is_less false false = refl

-- the later of two moments, in whichever order they are compared
later : (z w : ℤ) → cond (int_lt w z) z w ≡ cond (int_lt z w) w z
later z w = grind (arith, ints)

ord_max-not_before : (asked : ℤ) (stored : Option ℤ) →
    ord_max int_cmp asked (unwrap_or stored asked) ≡ not_before asked stored
ord_max-not_before asked stored =
    let s = unwrap_or stored asked in
    ap (λ b. cond b asked s) (is_less (int_lt s asked) (int_lt asked s)) ∙ later asked s

none_left : (test : Link → Bool) (links : List Link) → list_any test (filter (λ link. not (test link)) links) ≡ false
none_left test [] = refl
none_left test (link ∷ links) =
    let rest = filter (λ l. not (test l)) links in
    let P : Bool → Type 0 = λ b. list_any test (cond (not b) (link ∷ rest) rest) ≡ false in
    ⊎_elim
    (λ t. subst P (sym t) (none_left test links))
    (λ f. subst P (sym f) (or_from (test link) (list_any test rest) f (none_left test links)))
    (cases_Bool (test link))

shown_by : (content : Option Text) (shown : Bool) →
    (is_some (if is_some content || shown then content else Some empty_text) || shown) ≡ true
shown_by (Some text) shown = refl
shown_by None true = refl
shown_by None false = refl

-- an entry that is made of a draft keeps the rules of entries
pub IsWhole-normal : (number : ℕ) (before after : List Link) (asked content : Option Text) → 1 ≤ number →
    after ≡ without_edit before → content ≡ shown_content asked after → IsWhole number after content
IsWhole-normal number before after asked content counted dropped shown =
    let T : Option Text → Type 0 = λ o. IsTrue (is_some o || has_alternate after) in
    record {
      counted = counted;
      no_edit_link = ap has_edit dropped ∙ none_left _ before;
      shown = subst T (sym shown) (shown_by asked (has_alternate after));
    }

pub normal_is : (draft : DraftValue) (number : ℕ) (moment : ℤ) (stored : Option ℤ) (asked updated : ℤ)
    (links : List Link) (content : Option Text) → asked ≡ unwrap_or draft.updated moment →
    updated ≡ ord_max int_cmp asked (unwrap_or stored asked) → links ≡ without_edit draft.links →
    content ≡ shown_content draft.content links →
    let made : EntryValue =
    record {
      number = number;
      edited = moment;
      title = draft.title;
      updated = updated;
      published =
          draft.published;
      authors = draft.authors;
      contributors = draft.contributors;
      links = links;
      categories =
          draft.categories;
      rights = draft.rights;
      summary = draft.summary;
      content = content;
    } in
    made ≡ normal draft number moment stored
unfolding normal
normal_is draft number moment stored asked updated links content a u l t =
    let updated_is : updated ≡ not_before (unwrap_or draft.updated moment) stored = u ∙ ord_max-not_before asked stored
    ∙ ap (λ z. not_before z stored) a in
    let content_is : content ≡ shown_content draft.content (without_edit draft.links) = t
    ∙ ap (shown_content draft.content) l in
    λ i. record {
      number = number;
      edited = moment;
      title = draft.title;
      updated = updated_is i;
      published =
          draft.published;
      authors = draft.authors;
      contributors = draft.contributors;
      links = l i;
      categories =
          draft.categories;
      rights = draft.rights;
      summary = draft.summary;
      content = content_is i;
    }
