-- The scopes of prefixes, and the declarations of the open elements.
use Rattle.std.proofs.Common.{◌≡◌, ℕ, List, [], ◌∷◌, ◌++◌, reverse, Bool, true, false, cond, Option, Some, None}
use Rattle.std.proofs.Common.{option_map}
use Rattle.std.proofs.Common.{refl, sym, ap, subst, ◌∙◌, bytes_eq, ◌+◌, ◌-◌, ◌<◌, ◌==◌, length, arith}
use Rattle.std.proofs.Common.{add-one, get_or, take}
use Rattle.std.proofs.lemmas.Bool.{eqb-false, eqb-true}
use Rattle.std.specs.Prelude.{option_to_list, filter_map, is_some, IsSome}
use Rattle.std.specs.List.{AllZip, cons_option}
use Rattle.std.specs.Option.{option_or}
use Rattle.std.proofs.lemmas.List.{reverse-append, reverse-reverse, take_all}
use Rattle.std.proofs.Math.Seq.{take-suc}
use Rattle.std.proofs.lemmas.Slice.Eq.{bytes_eq-Decides}
use Rattle.xml_tokens.specs.declared.scopes.Namespace.{Namespace}
use Rattle.xml_tokens.specs.declared.scopes.Declaration.{Declaration}
use Rattle.xml_tokens.specs.declared.scopes.Scopes.{Scopes}
use Rattle.xml_tokens.specs.declared.tag.Attribute.{Attribute as Raw}
use Rattle.xml_tokens.specs.Tokens.{Attribute}
use Rattle.xml_tokens.specs.Stages.{Binding, Open, Scope, declared, namespace_of, outer_scope}
use Rattle.xml_tokens.specs.Reading.{kind_of}
use Rattle.xml_tokens.specs.Scopes.{AreFoundOf, AreLinked, AreDeclarationsOf, AreOrdered, AreScopesOf, Declares}
use Rattle.xml_tokens.specs.Scopes.{IsDeclaring, IsLawfulOf, IsTakenOut, IsWithin, OpensScope, checked_place, found_in}
use Rattle.xml_tokens.specs.Scopes.{is_first, place_before, place_of, scope_of}
use Rattle.xml_tokens.proofs.PlaceLemmas.{indexes_less, indexes_more, last_in_map}

-- the namespaces in the innermost of some elements
pub found_of : (opened : List Open) (declarations : List Declaration) →
    AreDeclarationsOf opened declarations → AreFoundOf (scope_of opened) (found_in declarations)
found_of [] declarations are p =
    ap (λ ds. option_or (found_in ds p) (option_map kind_of (namespace_of outer_scope p))) are
found_of (element ∷ opened) declarations are p = are.0 p

declared_value : (a : Attribute) (b : Binding) → declared a ≡ Some b → b.namespace ≡ a.value
declared_value a b = elim (bytes_eq a.name.prefix (120 ∷ 109 ∷ 108 ∷ 110 ∷ 115 ∷ [])) as (λ t.
    cond t (Some (record { prefix = a.name.local; namespace = a.value }))
    (cond (bytes_eq a.name.prefix [])
    (cond (bytes_eq a.name.local (120 ∷ 109 ∷ 108 ∷ 110 ∷ 115 ∷ []))
    (Some (record { prefix = []; namespace = a.value })) None)
    None) ≡ Some b → b.namespace ≡ a.value) [
      | true ↦ λ e. cc
      | false ↦ elim (bytes_eq a.name.prefix []) as (λ t.
          cond t (cond (bytes_eq a.name.local (120 ∷ 109 ∷ 108 ∷ 110 ∷ 115 ∷ []))
          (Some (record { prefix = []; namespace = a.value })) None)
          None ≡ Some b → b.namespace ≡ a.value) [
            | false ↦ λ e. cc
            | true ↦ elim (bytes_eq a.name.local (120 ∷ 109 ∷ 108 ∷ 110 ∷ 115 ∷ [])) as (λ t.
                cond t (Some (record { prefix = []; namespace = a.value })) None ≡ Some b → b.namespace ≡ a.value)
                [ true ↦ λ e. cc | false ↦ λ e. cc ]
          ]
    ]

-- the binding of an attribute that declares a prefix
pub binding_of : (a : Attribute) (prefix : List ℕ) → Some prefix ≡ option_map (λ b. b.prefix) (declared a) →
    (b : Binding) × (declared a ≡ Some b) × (b.prefix ≡ prefix) × (b.namespace ≡ a.value)
binding_of a prefix e =
    let G : Type 0 = (b : Binding) × (declared a ≡ Some b) × (b.prefix ≡ prefix) × (b.namespace ≡ a.value) in
    let at : (o : Option Binding) → declared a ≡ o → G = λ o.
    elim o as (λ v. declared a ≡ v → G) [
      | None ↦ λ none. let bad : Some prefix ≡ None = e ∙ ap (option_map (λ b. b.prefix)) none in absurd cc
      | Some b ↦ λ some.
          let same : Some prefix ≡ Some b.prefix = e ∙ ap (option_map (λ b. b.prefix)) some in
          (b, some, cc, declared_value a b some)
    ] in at (declared a) refl

-- an attribute that declares no prefix
none_declared : (a : Attribute) → None ≡ option_map (λ b. b.prefix) (declared a) → declared a ≡ None
none_declared a e =
    let at : (o : Option Binding) → declared a ≡ o → declared a ≡ None = λ o.
    elim o as (λ v. declared a ≡ v → declared a ≡ None) [
      | None ↦ λ none. none
      | Some b ↦ λ some. let bad : None ≡ Some b.prefix = e ∙ ap (option_map (λ b. b.prefix)) some in absurd cc
    ] in at (declared a) refl

found_more : (b : Binding) (scope : Scope) (d : Declaration) (ds : List Declaration) → d.prefix.now ≡ b.prefix →
    d.namespace ≡ kind_of b.namespace → AreFoundOf scope (found_in ds) → AreFoundOf (b ∷ scope) (found_in (d ∷ ds))
found_more b scope d ds prefix named are p =
    let outside : Option Namespace = option_map kind_of (namespace_of outer_scope p) in
    let both : (t : Bool) → option_or (cond t (Some d.namespace) (found_in ds p)) outside
    ≡ option_map kind_of (cond t (Some b.namespace) (namespace_of scope p)) = λ t.
    elim t as (λ t. option_or (cond t (Some d.namespace) (found_in ds p)) outside
    ≡ option_map kind_of (cond t (Some b.namespace) (namespace_of scope p)))
    [ true ↦ ap Some named | false ↦ are p ] in
    ap (λ x. option_or (cond (bytes_eq x p) (Some d.namespace) (found_in ds p)) outside) prefix
    ∙ both (bytes_eq b.prefix p)

-- a prefix is declared
declares_one : (opened : List Open) (own : Scope) (b : Binding) (d : Declaration) (before after : Scopes) →
    d.prefix.now ≡ b.prefix → d.outer ≡ before.depth →
    d.before ≡ checked_place before.declared.items d.prefix.now (place_of before d.prefix.now) →
    d.namespace ≡ kind_of b.namespace →
    ((p : List ℕ) → place_of after p
    ≡ cond (bytes_eq d.prefix.now p) (Some (length before.declared.items)) (place_of before p)) →
    after.depth ≡ before.depth → after.declared.items ≡ before.declared.items ++ d ∷ [] →
    IsDeclaring opened own before → IsDeclaring opened (b ∷ own) after
declares_one opened own b d before after prefix outer had named set depth items
    ((at, ordered, mine, others, split, inside, are), found) =
    let turned : reverse after.declared.items ≡ d ∷ reverse before.declared.items =
    ap reverse items ∙ reverse-append before.declared.items (d ∷ []) in
    let linked : AreLinked (d ∷ reverse before.declared.items) = (had ∙ ordered.0 d.prefix.now, ordered.1) in (
      (
        depth ∙ at,
        (indexes_more d before after items set ordered.0, subst AreLinked (sym turned) linked),
        d ∷ mine,
        others,
        turned ∙ ap (λ ds. d ∷ ds) split,
        (outer ∙ at, inside),
        are,
      ),
      subst (λ ds. AreFoundOf (b ∷ own ++ scope_of opened) (found_in ds)) (sym turned)
          (found_more b (own ++ scope_of opened) d (reverse before.declared.items) prefix named found),
    )

-- the attribute declares a prefix
pub adds_declaration : (raw : Raw) (prefix : List ℕ) (d : Declaration) (before after : Scopes) →
    ((a : Attribute) → IsLawfulOf a raw →
    (Some prefix ≡ option_map (λ b. b.prefix) (declared a)) × (d.namespace ≡ kind_of a.value)) →
    d.prefix.now ≡ prefix → d.outer ≡ before.depth →
    d.before ≡ checked_place before.declared.items d.prefix.now (place_of before d.prefix.now) →
    ((p : List ℕ) → place_of after p
    ≡ cond (bytes_eq d.prefix.now p) (Some (length before.declared.items)) (place_of before p)) →
    after.depth ≡ before.depth → after.declared.items ≡ before.declared.items ++ d ∷ [] → Declares raw before after
adds_declaration raw prefix d before after says same outer had set depth items opened own a lawful declaring =
    let said = says a lawful in
    let b = binding_of a prefix said.0 in
    subst (λ o. IsDeclaring opened (cons_option o own) after) (sym b.1)
    (declares_one opened own b.0 d before after (same ∙ sym b.2) outer had (said.1 ∙ ap kind_of (sym b.3)) set depth
    items declaring)

-- the attribute declares no prefix
pub adds_nothing : (raw : Raw) (scopes : Scopes) →
    ((a : Attribute) → IsLawfulOf a raw → None ≡ option_map (λ b. b.prefix) (declared a)) →
    Declares raw scopes scopes
adds_nothing raw scopes says opened own a lawful declaring =
    subst (λ o. IsDeclaring opened (cons_option o own) scopes) (sym (none_declared a (says a lawful))) declaring

-- the attributes at the end of a tag are declared
abbrev pub IsDeclaredFrom : List Raw → Scopes → Scopes → Type 0
IsDeclaredFrom raws before after =
    (opened : List Open) (read : List Attribute) → AllZip IsLawfulOf read raws → AreScopesOf opened before →
    IsDeclaring opened (filter_map declared read) after

pub none_yet : (scopes : Scopes) → IsDeclaredFrom [] scopes scopes
none_yet scopes opened [] all (at, ordered, are) = (
  (at, ordered, [], reverse scopes.declared.items, refl, tt, are),
  found_of opened (reverse scopes.declared.items) are,
)
none_yet scopes opened (a ∷ read) all are = absurd all

declared_more : (raw : Raw) (raws : List Raw) (before middle after : Scopes) → IsDeclaredFrom raws before middle →
    Declares raw middle after → IsDeclaredFrom (raw ∷ raws) before after
declared_more raw raws before middle after so_far declares opened [] all are = absurd all
declared_more raw raws before middle after so_far declares opened (a ∷ read) all are =
    declares opened (filter_map declared read) a all.0 (so_far opened read all.1 are)

-- the last n attributes
abbrev pub last_of : ℕ → List Raw → List Raw
last_of n raws = reverse (take n (reverse raws))

pub one_more : (raws : List Raw) (n : ℕ) (raw : Raw) (before middle after : Scopes) → n < length (reverse raws) →
    raw ≡ get_or (reverse raws) n raw → IsDeclaredFrom (last_of n raws) before middle → Declares raw middle after →
    IsDeclaredFrom (last_of (n + 1) raws) before after
one_more raws n raw before middle after short at so_far declares =
    let xs = reverse raws in
    let grown : take (n + 1) xs ≡ take n xs ++ raw ∷ [] =
    ap (λ k. take k xs) (add-one n) ∙ take-suc xs n raw short ∙ ap (λ r. take n xs ++ r ∷ []) (sym at) in
    subst (λ rs. IsDeclaredFrom rs before after) (sym (ap reverse grown ∙ reverse-append (take n xs) (raw ∷ [])))
    (declared_more raw (last_of n raws) before middle after so_far declares)

pub opens : (raws : List Raw) (n : ℕ) (before middle after : Scopes) → n ≡ length (reverse raws) →
    IsDeclaredFrom (last_of n raws) before middle → after ≡ record middle { depth = after.depth } →
    after.depth ≡ middle.depth + 1 → OpensScope raws before after
opens raws n before middle after all are same depth opened name read lawful scopes =
    let whole : last_of n raws ≡ raws =
    ap reverse (take_all n (reverse raws) (omega (arith, all))) ∙ reverse-reverse raws in
    let declaring : IsDeclaring opened (filter_map declared read) middle =
    are opened read (subst (λ rs. AllZip IsLawfulOf read rs) (sym whole) lawful) scopes in
    let within = declaring.0 in (
      omega (arith, depth, within.0),
      subst AreOrdered (sym same) within.1,
      subst (λ s. AreDeclarationsOf (record { name = name; scope = filter_map declared read ++ scope_of opened } ∷ opened)
          (reverse s.declared.items)) (sym same) (declaring.1, within.2, within.3, within.4, within.5, within.6),
    )

itself : (p : List ℕ) → bytes_eq p p ≡ true
itself p = (bytes_eq-Decides p p).1 refl

few_less : (m n : ℕ) → m < n → m ≡ n → ⊥
few_less m n below same = omega (arith, below, same)

-- a declaration of an open element is inside fewer elements than are open
outer_below : (opened : List Open) (d : Declaration) (ds : List Declaration) → AreDeclarationsOf opened (d ∷ ds) →
    d.outer < length opened
outer_below [] d ds are = absurd cc
outer_below (element ∷ opened) d ds (of, [], others, split, inside, are) =
    let below = outer_below opened d ds (subst (AreDeclarationsOf opened) (sym split) are) in omega arith
outer_below (element ∷ opened) d ds (of, e ∷ own, others, split, inside, are) =
    let one : d.outer ≡ e.outer = cc in
    let at = inside.0 in omega (arith, one, at)

first_some : (depth : ℕ) (declarations : List Declaration) → is_first depth (reverse declarations) ≡ true →
    0 < length declarations
first_some depth [] is = absurd cc
first_some depth (declaration ∷ declarations) is = omega arith

-- the last declaration of an element is taken out
pub taken_out : (before after : Scopes) (popped : Option Declaration) →
    after ≡ record before { declared = after.declared } →
    is_first before.depth (reverse before.declared.items) ≡ true →
    before.declared.items ≡ after.declared.items ++ option_to_list popped →
    (0 < length before.declared.items → is_some popped ≡ true) → IsTakenOut before popped after
taken_out before after None same is items some =
    let none : false ≡ true = some (first_some before.depth before.declared.items is) in absurd cc
taken_out before after (Some d) same is items some =
    let split : reverse before.declared.items ≡ d ∷ reverse after.declared.items =
    ap reverse items ∙ reverse-append after.declared.items (d ∷ []) in
    (same, eqb-true d.outer before.depth (sym (ap (is_first before.depth) split) ∙ is), items)

-- the innermost element begins to be closed
pub leaving : (element : Open) (opened : List Open) (before after : Scopes) →
    after ≡ record before { depth = after.depth } →
    after.depth ≡ before.depth - 1 → AreScopesOf (element ∷ opened) before → IsWithin opened after
leaving element opened before after same depth (at, ordered, are) =
    let here : after.depth ≡ length opened = omega (arith, depth, at) in
    let within : IsWithin opened (record before { depth = after.depth }) =
    (here, ordered, are.1, are.2, are.3, are.4, are.5) in
    subst (IsWithin opened) (sym same) within

-- the last declaration is taken out of the map
pub restores : (opened : List Open) (d : Declaration) (before middle after : Scopes) →
    IsTakenOut before (Some d) middle →
    after ≡ record middle { places = after.places } →
    (IsSome (place_of middle d.prefix.now) → (p : List ℕ) → place_of after p ≡ place_before d (place_of middle) p) →
    IsWithin opened before → IsWithin opened after
restores opened d before middle after (same, inside, items) kept back (at, ordered, [], others, split, all, are) =
    let first : reverse before.declared.items ≡ d ∷ reverse middle.declared.items =
    ap reverse items ∙ reverse-append middle.declared.items (d ∷ []) in
    let below = outer_below opened d (reverse middle.declared.items)
    (subst (AreDeclarationsOf opened) (sym split ∙ first) are) in
    absurd (few_less d.outer (length opened) below (inside ∙ at))
restores opened d before middle after (same, inside, items) kept back
    (at, (indexed, linked), e ∷ own, others, split, all, are) =
    let first : reverse before.declared.items ≡ d ∷ reverse middle.declared.items =
    ap reverse items ∙ reverse-append middle.declared.items (d ∷ []) in
    let both : d ∷ reverse middle.declared.items ≡ e ∷ (own ++ others) = sym first ∙ split in
    let rest : reverse middle.declared.items ≡ own ++ others = cc both in
    let links : AreLinked (d ∷ reverse middle.declared.items) = subst AreLinked first linked in
    let map : place_of middle ≡ place_of before = ap place_of same in
    let items_kept : after.declared.items ≡ middle.declared.items = ap (λ s. s.declared.items) kept in
    let some : IsSome (place_of middle d.prefix.now) = ap (λ f. is_some (f d.prefix.now)) map
    ∙ ap is_some (last_in_map d before middle items indexed d.prefix.now (itself d.prefix.now)) in (
      ap (λ s. s.depth) kept ∙ ap (λ s. s.depth) same ∙ at,
      (
        indexes_less d before middle after items map items_kept (back some) links.0 indexed,
        subst (λ ds. AreLinked (reverse ds)) (sym items_kept) links.1,
      ),
      own,
      others,
      ap reverse items_kept ∙ rest,
      all.1,
      are,
    )

all_restored : (opened : List Open) (scopes : Scopes) → is_first scopes.depth (reverse scopes.declared.items) ≡ false →
    IsWithin opened scopes → AreScopesOf opened scopes
all_restored opened scopes other (at, ordered, [], others, split, all, are) =
    (at, ordered, subst (AreDeclarationsOf opened) (sym split) are)
all_restored opened scopes other (at, ordered, e ∷ own, others, split, all, are) =
    let first : is_first scopes.depth (reverse scopes.declared.items) ≡ (e.outer == scopes.depth) =
    ap (is_first scopes.depth) split in
    absurd (eqb-false e.outer scopes.depth (sym first ∙ other) (all.0 ∙ sym at))

-- all declarations of the innermost element are taken out
pub leaves : (opened : List Open) (before after : Scopes) → IsTakenOut before None after → IsWithin opened before →
    AreScopesOf opened after
leaves opened before after (same, other) within =
    subst (AreScopesOf opened) (sym same) (all_restored opened before other within)

-- the last declaration is the first one of the reversed declarations
pub first_of_last : (declarations : List Declaration) (last : Declaration) (rest : List Declaration) (depth : ℕ) →
    declarations ≡ rest ++ last ∷ [] → (last.outer == depth) ≡ is_first depth (reverse declarations)
first_of_last declarations last rest depth split =
    sym (ap (λ xs. is_first depth (reverse xs)) split ∙ ap (is_first depth) (reverse-append rest (last ∷ [])))
