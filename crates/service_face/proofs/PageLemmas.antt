-- The target of a request names one page, and no document.
use Rattle.std.proofs.Common.{◌≡◌, ◌≢◌, ◌⊎◌, inl, inr, ℕ, List, ◌∷◌, ◌++◌, get_or, Option, Some, None, arith, refl, sym, ap, subst, ◌∙◌}
use Rattle.std.proofs.Common.{[], ◌+◌, ◌%◌, ◌^◌, ◌<◌, ◌==◌, ◌||◌, Bool, true, false, if◌then◌else◌, decimal, append_assoc, IsTrue}
use Rattle.std.specs.Prelude.{◌↔◌, All, bytes_eq}
use Rattle.std.proofs.lemmas.Bool.{cases_Bool, cases_eq, false≢true, ne_eqb, or_cases}
use Rattle.std.proofs.lemmas.Fmt.{decimal_by_steps}
use Rattle.std.proofs.lemmas.List.Elements.{All-nil, All-cons, All-head, All-tail, All-append, All-weaker}
use Rattle.std.proofs.lemmas.Slice.Eq.{bytes_eq-Decides}
use Rattle.std.proofs.lemmas.List.{append_cancel_left}
use Rattle.chain_links.specs.Address.{IsTarget, suffix_text}
use Rattle.chain_links.specs.declared.address.Address.{Address}
use Rattle.chain_links.specs.declared.address.Address.TheVariants.{Feed, Archive, Member}
use Rattle.chain_links.specs.Base.{BaseParts, IsBase, IsPort, IsWord, Spells, base_text, host_text, is_label_char, path_text, port_text}
use Rattle.chain_links.proofs.AddressLemmas.{printed-is}
use Rattle.chain_links.proofs.PartOffsetLemmas.{spelling_of}
use Rattle.chain_links.proofs.ReadingLemmas.{same_parts}
use Rattle.service_face.specs.declared.page.Page.{Page}
use Rattle.service_face.specs.declared.page.Page.TheVariants.{Service, Members}
use Rattle.service_face.specs.Page.{IsPageTarget, from_slash, is_target, page_name, page_of, path_of}

scheme_first : (parts : BaseParts) (rest : List ℕ) → get_or (base_text parts ++ rest) 0 0 ≡ 104
unfolding base_text
scheme_first parts rest = refl

-- an address begins with the scheme, and a path with `/`
pub no_path : {X : Type 0} (base suffix path rest : List ℕ) (parts : BaseParts) → Spells parts base
    → base ++ suffix ≡ 47 ∷ (path ++ rest) → X
no_path base suffix path rest parts spells e =
    let first = sym (scheme_first parts suffix) ∙ ap (λ b. get_or (b ++ suffix) 0 0) spells.1
    ∙ ap (λ t. get_or t 0 0) e in
    absurd (omega (arith, first))

-- the part of a target after the base
abbrev Names : List ℕ → List ℕ → List ℕ → Type 0
Names base name target =
    (target ≡ base ++ name) ⊎ ((parts : BaseParts) × Spells parts base × (target ≡ path_text parts.segments ++ name))

-- is one
one_name : (base target one other : List ℕ) → Names base one target → Names base other target → one ≡ other
one_name base target one other (inl whole) (inl whole') = append_cancel_left base one other (sym whole ∙ whole')
one_name base target one other (inl whole) (inr path) =
    no_path base one _ other path.0 path.1 (sym whole ∙ path.2)
one_name base target one other (inr path) (inl whole) =
    no_path base other _ one path.0 path.1 (sym whole ∙ path.2)
one_name base target one other (inr path) (inr path') =
    append_cancel_left (path_text path.0.segments) one other (sym path.2 ∙ path'.2
    ∙ ap (λ (p : BaseParts). path_text p.segments ++ other) (same_parts base path'.0 path.0 path'.1 path.1))

-- names differ in a byte
other_byte : (k : ℕ) (one other : List ℕ) → get_or one k 0 ≢ get_or other k 0 → one ≢ other
other_byte k one other differ e = differ (ap (λ (name : List ℕ). get_or name k 0) e)

same_name : (one other : Page) → page_name one ≡ page_name other → one ≡ other
same_name Service Service e = refl
same_name Members Members e = refl
same_name Service Members e = absurd (other_byte 0 (page_name Service) (page_name Members) (omega arith) e)
same_name Members Service e = absurd (other_byte 0 (page_name Members) (page_name Service) (omega arith) e)

pub one_page : (base target : List ℕ) (one other : Page) → IsPageTarget base one target
    → IsPageTarget base other target → one ≡ other
one_page base target one other names names' =
    same_name one other (one_name base target (page_name one) (page_name other) names names')

-- a page isn't named as a document
no_suffix : (page : Page) (address : Address) → page_name page ≢ suffix_text address
no_suffix Service Feed = other_byte 0 (page_name Service) (suffix_text Feed) (omega arith)
no_suffix Service (Archive number) = other_byte 0 (page_name Service) (suffix_text (Archive number)) (omega arith)
no_suffix Service (Member number) = other_byte 0 (page_name Service) (suffix_text (Member number)) (omega arith)
no_suffix Members Feed = other_byte 0 (page_name Members) (suffix_text Feed) (omega arith)
no_suffix Members (Archive number) = other_byte 0 (page_name Members) (suffix_text (Archive number)) (omega arith)
no_suffix Members (Member number) = other_byte 6 (page_name Members) (suffix_text (Member number)) (omega arith)

document_name : (base target : List ℕ) (address : Address) → IsTarget base address target
    → Names base (suffix_text address) target
document_name base target address (inl whole) = inl (whole ∙ printed-is base address)
document_name base target address (inr path) = inr path

pub no_document : (base target : List ℕ) (page : Page) (address : Address) → IsPageTarget base page target
    → ¬ IsTarget base address target
no_document base target page address names is =
    no_suffix page address (one_name base target (page_name page) (suffix_text address) names
    (document_name base target address is))

-- a slash is in no host, and in no port
abbrev AreOthers : List ℕ → Type 0
AreOthers text = All (λ c. (c == 47) ≡ false) text

from_slash-skip : (front rest : List ℕ) → AreOthers front → from_slash (front ++ rest) ≡ from_slash rest
from_slash-skip [] rest are = refl
from_slash-skip (c ∷ front) rest are =
    rw (All-head (λ (k : ℕ). (k == 47) ≡ false) c front are)
    (from_slash-skip front rest (All-tail (λ (k : ℕ). (k == 47) ≡ false) c front are))

label_char : (c : ℕ) → IsTrue (is_label_char c) → (c == 47) ≡ false
label_char c is = elim (cases_eq c 47) [
  | inl same ↦ absurd (false≢true (subst (λ (k : ℕ). is_label_char k ≡ true) same is))
  | inr other ↦ ne_eqb c 47 other
]

label_others : (label : List ℕ) → IsWord is_label_char label → AreOthers label
label_others label word = All-weaker (λ c. IsTrue (is_label_char c)) (λ c. (c == 47) ≡ false) label_char label word.1

over_host : (labels : List (List ℕ)) (rest : List ℕ) → All (IsWord is_label_char) labels
    → from_slash (host_text labels ++ rest) ≡ from_slash rest
over_host [] rest words = refl
over_host (label ∷ []) rest words =
    from_slash-skip label rest (label_others label (All-head (IsWord is_label_char) label [] words))
over_host (label ∷ next ∷ labels) rest words =
    ap from_slash (append_assoc label (46 ∷ host_text (next ∷ labels)) rest)
    ∙ from_slash-skip label (46 ∷ (host_text (next ∷ labels) ++ rest))
    (label_others label (All-head (IsWord is_label_char) label (next ∷ labels) words))
    ∙ over_host (next ∷ labels) rest (All-tail (IsWord is_label_char) label (next ∷ labels) words)

digit : (n : ℕ) → n < 10 → (48 + n == 47) ≡ false
digit n small = ne_eqb (48 + n) 47 (λ e. omega (arith, e))

decimal_others : (n : ℕ) → n < 2 ^ 64 → AreOthers (decimal n)
decimal_others n small = decimal_by_steps (λ _ digits. AreOthers digits)
    (λ k below. All-cons (λ (c : ℕ). (c == 47) ≡ false) (48 + k) [] (digit k below) (All-nil (λ (c : ℕ). (c == 47) ≡ false)))
    (λ k digits from are. All-append (λ (c : ℕ). (c == 47) ≡ false) digits ((48 + k % 10) ∷ []) are
    (All-cons (λ (c : ℕ). (c == 47) ≡ false) (48 + k % 10) [] (digit (k % 10) (omega arith))
    (All-nil (λ (c : ℕ). (c == 47) ≡ false))))
    n small

over_port : (port : Option ℕ) (rest : List ℕ) → IsPort port → from_slash (port_text port ++ rest) ≡ from_slash rest
over_port None rest is = refl
over_port (Some n) rest is = from_slash-skip (decimal n) rest (decimal_others n (omega (arith, is.1)))

-- the path of a base address is that of its parts
pub path_of-is : (base : List ℕ) (parts : BaseParts) → Spells parts base → path_of base ≡ path_text parts.segments
path_of-is base parts spells =
    ap path_of (spelling_of parts base spells)
    ∙ over_host parts.labels (port_text parts.port ++ path_text parts.segments) spells.0.labels.1
    ∙ over_port parts.port (path_text parts.segments) spells.0.port

-- the test of a page's addresses
target_passes : (base target : List ℕ) (page : Page) → IsPageTarget base page target → is_target base page target ≡ true
target_passes base target page (inl whole) =
    rw ((bytes_eq-Decides target (base ++ page_name page)).1 whole) refl
target_passes base target page (inr path) = or_right (bytes_eq target (base ++ page_name page)) _
    ((bytes_eq-Decides target (path_of base ++ page_name page)).1
    (path.2 ∙ ap (λ (x : List ℕ). x ++ page_name page) (sym (path_of-is base path.0 path.1))))
  where
    or_right : (a b : Bool) → b ≡ true → (a || b) ≡ true
    or_right true b e = refl
    or_right false b e = e

passed_target : (base target : List ℕ) (page : Page) → IsBase base → is_target base page target ≡ true
    → IsPageTarget base page target
passed_target base target page is passes =
    elim (or_cases (bytes_eq target (base ++ page_name page)) (bytes_eq target (path_of base ++ page_name page)) passes) [
      | inl whole ↦ inl ((bytes_eq-Decides target (base ++ page_name page)).0 whole)
      | inr path ↦ inr (
        is.parts,
        (is.rules, is.spelt),
        (bytes_eq-Decides target (path_of base ++ page_name page)).0 path
            ∙ ap (λ (x : List ℕ). x ++ page_name page) (path_of-is base is.parts (is.rules, is.spelt)),
      )
    ]

pub page_of-from : (base target : List ℕ) (page : Page) → IsBase base → IsPageTarget base page target
    → page_of base target ≡ Some page
unfolding page_of
page_of-from base target page is names = go (cases_Bool (is_target base Service target))
    (cases_Bool (is_target base Members target))
  where
    one : (other : Page) → is_target base other target ≡ true → other ≡ page
    one other passes = one_page base target other page (passed_target base target other is passes) names

    none : (other : Page) → is_target base other target ≡ false → page ≢ other
    none other fails same = false≢true (sym fails ∙ ap (λ (p : Page). is_target base p target) (sym same)
        ∙ target_passes base target page names)

    neither : (p : Page) → p ≢ Service → p ≢ Members → ⊥
    neither Service a b = a refl
    neither Members a b = b refl

    go : ((is_target base Service target ≡ true) ⊎ (is_target base Service target ≡ false))
        → ((is_target base Members target ≡ true) ⊎ (is_target base Members target ≡ false))
        → (if is_target base Service target then Some Service
        else (if is_target base Members target then Some Members else None)) ≡ Some page
    go (inl first) second = rw first (ap (λ (p : Page). Some p) (one Service first))
    go (inr fails) (inl second) = rw (fails, second) (ap (λ (p : Page). Some p) (one Members second))
    go (inr fails) (inr last) = absurd (neither page (none Service fails) (none Members last))

page_of-names : (base target : List ℕ) (page : Page) → IsBase base → page_of base target ≡ Some page
    → IsPageTarget base page target
unfolding page_of
page_of-names base target page is e = passed_target base target page is (go (is_target base Service target)
    (is_target base Members target) refl refl page e)
  where
    go : (a b : Bool) → is_target base Service target ≡ a → is_target base Members target ≡ b → (p : Page)
        → (if a then Some Service else (if b then Some Members else None)) ≡ Some p → is_target base p target ≡ true
    go true b at bt Service e = at
    go true b at bt Members e = absurd cc
    go false true at bt Members e = bt
    go false true at bt Service e = absurd cc
    go false false at bt p e = absurd cc

pub page_of-is : (base target : List ℕ) (page : Page) → IsBase base
    → (page_of base target ≡ Some page) ↔ (IsPageTarget base page target)
page_of-is base target page is = (page_of-names base target page is, page_of-from base target page is)

-- a target that names no page
pub page_of-none : (base target : List ℕ) → IsBase base → ((page : Page) → ¬ IsPageTarget base page target)
    → page_of base target ≡ None
page_of-none base target is none = go (page_of base target) refl
  where
    go : (o : Option Page) → page_of base target ≡ o → o ≡ None
    go None e = refl
    go (Some page) e = absurd (none page (page_of-names base target page is e))
