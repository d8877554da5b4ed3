-- How many bytes an operation and a head have at most, and an operation at least, by the rules that their types keep.
use Rattle.std.proofs.Common.{◌≡◌, ℕ, ◌+◌, ◌*◌, ◌≤◌, ℤ, List, [], ◌∷◌, Option, Some, None, length, length-append, arith, ap, All}
use Rattle.std.specs.Prelude.{IfSome}
use Rattle.std.proofs.lemmas.List.Elements.{All-weaker}
use Rattle.atom_values.specs.declared.category.Category.{Category}
use Rattle.atom_values.specs.declared.link.Link.{Link}
use Rattle.atom_values.specs.declared.person.Person.{Person}
use Rattle.atom_values.specs.declared.text.Text.{Text}
use Rattle.atom_values.specs.Category.{IsCategory}
use Rattle.atom_values.specs.Entry.{EntryValue, IsEntry, IsText}
use Rattle.atom_values.specs.Link.{IsLink}
use Rattle.atom_values.specs.Person.{IsPerson}
use Rattle.atom_values.specs.XmlText.{IsAtomText}
use Rattle.atom_writer.specs.Pieced.{text_of}
use Rattle.atom_writer.specs.Pieces.{joined}
use Rattle.atom_writer.proofs.LengthLemmas.{flat_map-short}
use Rattle.atom_writer.proofs.PieceLemmas.{joined-cons, joined-none}
use Rattle.member_rules.specs.Coding.{stamp_field, text_field, option_field, list_field, construct_field, person_field, link_field, category_field, entry_fields, head_fields, heads, operation_fields, operations, payload_limit}
use Rattle.member_rules.specs.Head.{HeadValue, IsHead}
use Rattle.member_rules.specs.Laws.{OperationsAreLong}
use Rattle.member_rules.specs.Operation.{IsOperation}
use Rattle.member_rules.specs.declared.operation.Op.{Op}
use Rattle.member_rules.specs.declared.operation.Op.TheVariants.{Add, Change, Remove, Set}
use Rattle.member_rules.specs.declared.setting.Setting.TheVariants.{Title, Window}

-- the sum of the fields' lengths
total : List (List ℕ) → ℕ
total [] = 0
total (p ∷ ps) = length p + total ps

total-joined : (ps : List (List ℕ)) → length (joined ps) ≡ total ps
unfolding total
total-joined [] = ap length joined-none
total-joined (p ∷ ps) =
    omega (arith, ap length (joined-cons p ps), length-append p (joined ps), total-joined ps)

text_field-short : (t : List ℕ) → IsAtomText t → length (text_field t) ≤ 65_540
text_field-short t is = omega (arith, is.short)

text_option-short : (t : Option (List ℕ)) → IfSome t IsAtomText → length (option_field text_field t) ≤ 65_541
text_option-short None is = omega arith
text_option-short (Some t) is = omega (arith, text_field-short t is)

construct_field-short : (t : Text) → IsText t → length (construct_field t) ≤ 65_541
construct_field-short t is = omega (arith, text_field-short t.value is)

construct_option-short : (t : Option Text) → IfSome t IsText → length (option_field construct_field t) ≤ 65_542
construct_option-short None is = omega arith
construct_option-short (Some t) is = omega (arith, construct_field-short t is)

stamp_option-short : (z : Option ℤ) → length (option_field stamp_field z) ≤ 9
stamp_option-short None = omega arith
stamp_option-short (Some z) = omega arith

person_field-short : (p : Person) → IsPerson p → length (person_field p) ≤ 200_000
person_field-short p is =
    simp length-append
    (omega (arith, text_field-short p.name is.name, text_option-short p.uri is.uri, text_option-short p.email is.email))

category_field-short : (c : Category) → IsCategory c → length (category_field c) ≤ 200_000
category_field-short c is =
    simp length-append
    (omega (
      arith,
      text_field-short c.term is.term,
      text_option-short c.scheme is.scheme,
      text_option-short c.label is.label,
    ))

link_field-short : (l : Link) → IsLink l → length (link_field l) ≤ 400_000
link_field-short l is =
    simp length-append
    (omega (
      arith,
      text_field-short l.href is.href,
      text_field-short l.rel is.rel,
      text_option-short l.media is.media,
      text_option-short l.hreflang is.hreflang,
      text_option-short l.title is.title,
      text_option-short l.length is.length,
    ))

list_field-short : {A : Type 0} (field : A → List ℕ) (Is : A → Type 0) (most : ℕ)
    → ((a : A) → Is a → length (field a) ≤ most) → (xs : List A) → All Is xs
    → length (list_field field xs) ≤ 1 + most * length xs
list_field-short field Is most short xs are =
    omega (arith, flat_map-short field most xs (All-weaker Is (λ a. length (field a) ≤ most) short xs are))

entry_fields-short : (e : EntryValue) → IsEntry e → length (joined (entry_fields e)) ≤ 40_000_000
unfolding entry_fields total
entry_fields-short e is =
    omega (
      arith,
      total-joined (entry_fields e),
      construct_field-short e.title is.title,
      stamp_option-short e.published,
      list_field-short person_field IsPerson 200_000 person_field-short e.authors is.authors.1,
      is.authors.0,
      list_field-short person_field IsPerson 200_000 person_field-short e.contributors is.contributors.1,
      is.contributors.0,
      list_field-short link_field IsLink 400_000 link_field-short e.links is.links.1,
      is.links.0,
      list_field-short category_field IsCategory 200_000 category_field-short e.categories is.categories.1,
      is.categories.0,
      construct_option-short e.rights is.rights,
      construct_option-short e.summary is.summary,
      construct_option-short e.content is.content,
    )

pub operation-short : (o : Op) → IsOperation o → length (text_of operations o) ≤ payload_limit
unfolding total
operation-short (Add e) is = simp joined-cons (omega (arith, entry_fields-short e is))
operation-short (Change e) is = simp joined-cons (omega (arith, entry_fields-short e is))
operation-short (Remove r) is = omega (arith, total-joined (operation_fields (Remove r)))
operation-short (Set (Title t) m) is = omega (arith, total-joined (operation_fields (Set (Title t) m)), is.0.1)
operation-short (Set (Window n) m) is = omega (arith, total-joined (operation_fields (Set (Window n) m)))

pub operation-long : OperationsAreLong
unfolding entry_fields total
operation-long (Add e) is = omega (arith, total-joined (operation_fields (Add e)))
operation-long (Change e) is = omega (arith, total-joined (operation_fields (Change e)))
operation-long (Remove r) is = omega (arith, total-joined (operation_fields (Remove r)))
operation-long (Set (Title t) m) is = omega (arith, total-joined (operation_fields (Set (Title t) m)))
operation-long (Set (Window n) m) is = omega (arith, total-joined (operation_fields (Set (Window n) m)))

pub head-short : (h : HeadValue) → IsHead h → length (text_of heads h) ≤ payload_limit
unfolding head_fields total
head-short h is =
    omega (
      arith,
      total-joined (head_fields h),
      is.name.base.short,
      is.name.id.size,
      text_field-short h.name.title is.name.title,
      text_field-short h.name.author is.name.author,
    )
