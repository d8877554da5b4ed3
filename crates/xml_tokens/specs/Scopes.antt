-- The scopes of prefixes as a reader keeps them.
use Rattle.std.specs.Prelude.{◌≡◌, ℕ, List, [], ◌∷◌, ◌++◌, length, reverse, filter_map, option_map, Option, None, Some}
use Rattle.std.specs.Prelude.{Bool, false, ◌==◌, bytes_eq, if◌then◌else◌, slice_get, ⊤}
use Rattle.std.specs.List.{AllZip, cons_option}
use Rattle.std.specs.Option.{option_or}
use Rattle.std.specs.BTreeMap.{get_by}
use Rattle.std.specs.Cmp.Lexicographic.{slice_cmp}
use Rattle.std.specs.Ordering.{nat_cmp, ordering_then}
use Rattle.xml_tokens.specs.Keys.{number_of}
use Rattle.xml_tokens.specs.declared.scopes.Namespace.{Namespace}
use Rattle.xml_tokens.specs.declared.scopes.Declaration.{Declaration}
use Rattle.xml_tokens.specs.declared.scopes.Scopes.{Scopes}
use Rattle.xml_tokens.specs.declared.tag.Attribute.{Attribute as Raw}
use Rattle.xml_tokens.specs.Characters.{QName, IsQName, name_text}
use Rattle.xml_tokens.specs.Tokens.{Attribute}
use Rattle.xml_tokens.specs.Stages.{Open, Scope, declared, namespace_of, outer_scope}
use Rattle.xml_tokens.specs.Reading.{IsAttributeOf, kind_of}

-- an attribute with a qualified name, and as it is written
abbrev pub IsLawfulOf : Attribute → Raw → Type 0
IsLawfulOf a raw = IsQName a.name × IsAttributeOf a raw

-- the namespaces of the prefixes that are declared
abbrev pub Found : Type 0
Found = List ℕ → Option Namespace

-- the namespaces by these declarations, the last one first
abbrev pub found_in : List Declaration → Found
found_in [] prefix = None
found_in (declaration ∷ declarations) prefix =
    if bytes_eq declaration.prefix.now prefix then Some declaration.namespace else found_in declarations prefix

-- the place of a prefix's last declaration among these, the last one first
abbrev pub place_in : List Declaration → List ℕ → Option ℕ
place_in [] prefix = None
place_in (declaration ∷ declarations) prefix =
    if bytes_eq declaration.prefix.now prefix then Some (length declarations) else place_in declarations prefix

-- the place that the map has for a prefix
abbrev pub place_of : Scopes → List ℕ → Option ℕ
place_of scopes prefix =
    get_by (λ k. ordering_then (nat_cmp (number_of prefix) k.0) (slice_cmp nat_cmp prefix k.1.now)) scopes.places

-- the declaration is one of this prefix, if it is there
abbrev pub is_of : List ℕ → Option Declaration → Bool
is_of prefix None = false
is_of prefix (Some declaration) = bytes_eq declaration.prefix.now prefix

-- the place, if one of these declarations is there and has this prefix
abbrev pub checked_place : List Declaration → List ℕ → Option ℕ → Option ℕ
checked_place declarations prefix None = None
checked_place declarations prefix (Some place) =
    if is_of prefix (slice_get declarations place) then Some place else None

-- the map has the place of each prefix's last declaration
abbrev pub AreIndexed : Scopes → Type 0
AreIndexed scopes =
    (prefix : List ℕ) → checked_place scopes.declared.items prefix (place_of scopes prefix)
    ≡ place_in (reverse scopes.declared.items) prefix

-- each of these declarations has the place of the one before it of its prefix; the last one is first
abbrev pub AreLinked : List Declaration → Type 0
AreLinked [] = ⊤
AreLinked (declaration ∷ declarations) =
    (declaration.before ≡ place_in declarations declaration.prefix.now) × AreLinked declarations

-- the map after the last declaration is taken out
abbrev pub place_before : Declaration → (List ℕ → Option ℕ) → List ℕ → Option ℕ
place_before declaration place prefix =
    if bytes_eq declaration.prefix.now prefix then option_or declaration.before (place prefix) else place prefix

-- the namespaces of a scope, where a prefix that isn't declared has the one outside the root
abbrev pub AreFoundOf : Scope → Found → Type 0
AreFoundOf scope found =
    (prefix : List ℕ) → option_or (found prefix) (option_map kind_of (namespace_of outer_scope prefix))
    ≡ option_map kind_of (namespace_of scope prefix)

-- these are declarations of the element inside this many
abbrev pub AreInside : ℕ → List Declaration → Type 0
AreInside depth [] = ⊤
AreInside depth (declaration ∷ declarations) = (declaration.outer ≡ depth) × AreInside depth declarations

-- the scope in the innermost of these elements
abbrev pub scope_of : List Open → Scope
scope_of [] = outer_scope
scope_of (element ∷ opened) = element.scope

-- the declarations of these elements, the last one first
abbrev pub AreDeclarationsOf : List Open → List Declaration → Type 0
AreDeclarationsOf [] declarations = declarations ≡ []
AreDeclarationsOf (element ∷ opened) declarations =
    AreFoundOf element.scope (found_in declarations)
    × (own : List Declaration) × (others : List Declaration) × (declarations ≡ own ++ others)
    × AreInside (length opened) own × AreDeclarationsOf opened others

-- the map and the links of the declarations are right
abbrev pub AreOrdered : Scopes → Type 0
AreOrdered scopes = AreIndexed scopes × AreLinked (reverse scopes.declared.items)

abbrev pub AreScopesOf : List Open → Scopes → Type 0
AreScopesOf opened scopes =
    (scopes.depth ≡ length opened) × AreOrdered scopes × AreDeclarationsOf opened (reverse scopes.declared.items)

-- some declarations of an element in these elements are there, too
abbrev pub IsWithin : List Open → Scopes → Type 0
IsWithin opened scopes =
    (scopes.depth ≡ length opened) × AreOrdered scopes × (own : List Declaration) × (others : List Declaration)
    × (reverse scopes.declared.items ≡ own ++ others) × AreInside (length opened) own
    × AreDeclarationsOf opened others

-- the last declaration is one of the element inside this many; the declarations are the last one first
abbrev pub is_first : ℕ → List Declaration → Bool
is_first depth [] = false
is_first depth (declaration ∷ declarations) = declaration.outer == depth

-- the last declaration of the element inside `depth` elements is taken out, if there is one
abbrev pub IsTakenOut : Scopes → Option Declaration → Scopes → Type 0
IsTakenOut before None after = (after ≡ before) × (is_first before.depth (reverse before.declared.items) ≡ false)
IsTakenOut before (Some declaration) after =
    (after ≡ record before { declared = after.declared }) × (declaration.outer ≡ before.depth)
    × (before.declared.items ≡ after.declared.items ++ declaration ∷ [])

-- the prefix that an attribute of this name declares, if it does
abbrev pub IsDeclaredPrefix : List ℕ → Option (List ℕ) → Type 0
IsDeclaredPrefix name prefix =
    (a : Attribute) → IsQName a.name → name_text a.name ≡ name → prefix ≡ option_map (λ b. b.prefix) (declared a)

-- an element in these elements has these declarations
abbrev pub IsDeclaring : List Open → Scope → Scopes → Type 0
IsDeclaring opened own scopes =
    IsWithin opened scopes × AreFoundOf (own ++ scope_of opened) (found_in (reverse scopes.declared.items))

-- the declaration that an attribute is, if it is one, stands before the others
abbrev pub Declares : Raw → Scopes → Scopes → Type 0
Declares raw before after =
    (opened : List Open) (own : Scope) (a : Attribute) → IsLawfulOf a raw → IsDeclaring opened own before
    → IsDeclaring opened (cons_option (declared a) own) after

-- an element with these attributes is opened
abbrev pub OpensScope : List Raw → Scopes → Scopes → Type 0
OpensScope raws before after =
    (opened : List Open) (name : QName) (read : List Attribute) → AllZip IsLawfulOf read raws
    → AreScopesOf opened before
    → AreScopesOf (record { name = name; scope = filter_map declared read ++ scope_of opened } ∷ opened) after
