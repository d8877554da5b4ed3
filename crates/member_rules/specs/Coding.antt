-- Operations and heads as bytes: each is a list of fields, one after another. Numbers have their highest byte first.
use Rattle.std.specs.Prelude.{ℕ, List, [], ◌∷◌, ◌++◌, ℤ, Option, Some, None, length, flat_map}
use Rattle.std.specs.Int.{to_be_bytes, w32, w64}
use Rattle.atom_values.specs.Entry.{EntryValue}
use Rattle.atom_values.specs.Stamp.{since_year_zero}
use Rattle.atom_values.specs.declared.category.Category.{Category}
use Rattle.atom_values.specs.declared.link.Link.{Link}
use Rattle.atom_values.specs.declared.person.Person.{Person}
use Rattle.atom_values.specs.declared.text.Text.{Text}
use Rattle.atom_values.specs.declared.text.TextKind.{TextKind}
use Rattle.atom_values.specs.declared.text.TextKind.TheVariants.{Plain, Html}
use Rattle.atom_writer.specs.Pieced.{Pieced}
use Rattle.member_rules.specs.Head.{HeadValue, IsHead}
use Rattle.member_rules.specs.Operation.{IsOperation}
use Rattle.member_rules.specs.declared.operation.Op.{Op}
use Rattle.member_rules.specs.declared.operation.Op.TheVariants.{Add, Change, Remove, Set}
use Rattle.member_rules.specs.declared.setting.Setting.{Setting}
use Rattle.member_rules.specs.declared.setting.Setting.TheVariants.{Title, Window}

-- the most bytes of an operation, and of a head
abbrev pub payload_limit : ℕ
payload_limit = 67_108_864

-- the first byte of an operation's bytes, for each kind of operation
abbrev pub add_tag : ℕ
add_tag = 1

abbrev pub change_tag : ℕ
change_tag = 2

abbrev pub remove_tag : ℕ
remove_tag = 3

abbrev pub set_tag : ℕ
set_tag = 4

-- the byte that tells which setting an operation sets
abbrev pub title_tag : ℕ
title_tag = 1

abbrev pub window_tag : ℕ
window_tag = 2

abbrev pub number_field : ℕ → List ℕ
number_field number = to_be_bytes w32 number

abbrev pub size_field : ℕ → List ℕ
size_field size = to_be_bytes w64 size

-- the milliseconds since the start of year 0
abbrev pub stamp_field : ℤ → List ℕ
stamp_field stamp = to_be_bytes w64 (since_year_zero stamp)

-- the length and then the bytes
abbrev pub text_field : List ℕ → List ℕ
text_field text = number_field (length text) ++ text

-- the byte 0, or the byte 1 and then the value
abbrev pub option_field : {A : Type 0} → (A → List ℕ) → Option A → List ℕ
option_field field None = 0 ∷ []
option_field field (Some value) = 1 ∷ field value

-- one byte for the number of items, and then the items
abbrev pub list_field : {A : Type 0} → (A → List ℕ) → List A → List ℕ
list_field field items = length items ∷ flat_map field items

abbrev pub kind_byte : TextKind → ℕ
kind_byte Plain = 0
kind_byte Html = 1

abbrev pub construct_field : Text → List ℕ
construct_field text = kind_byte text.kind ∷ text_field text.value

abbrev pub person_field : Person → List ℕ
person_field person =
    text_field person.name ++ option_field text_field person.uri ++ option_field text_field person.email

abbrev pub link_field : Link → List ℕ
link_field link =
    text_field link.href ++ text_field link.rel ++ option_field text_field link.media
    ++ option_field text_field link.hreflang ++ option_field text_field link.title
    ++ option_field text_field link.length

abbrev pub category_field : Category → List ℕ
category_field category =
    text_field category.term ++ option_field text_field category.scheme ++ option_field text_field category.label

unfoldable pub entry_fields : EntryValue → List (List ℕ)
entry_fields entry =
    number_field entry.number ∷ stamp_field entry.edited ∷ stamp_field entry.updated
    ∷ construct_field entry.title ∷ option_field stamp_field entry.published
    ∷ list_field person_field entry.authors ∷ list_field person_field entry.contributors
    ∷ list_field link_field entry.links ∷ list_field category_field entry.categories
    ∷ option_field construct_field entry.rights ∷ option_field construct_field entry.summary
    ∷ option_field construct_field entry.content ∷ []

abbrev pub setting_fields : Setting → List (List ℕ)
setting_fields (Title title) = (title_tag ∷ []) ∷ text_field title ∷ []
setting_fields (Window size) = (window_tag ∷ []) ∷ number_field size ∷ []

abbrev pub operation_fields : Op → List (List ℕ)
operation_fields (Add entry) = (add_tag ∷ []) ∷ entry_fields entry
operation_fields (Change entry) = (change_tag ∷ []) ∷ entry_fields entry
operation_fields (Remove removal) =
    (remove_tag ∷ []) ∷ number_field removal.tombstone.number ∷ stamp_field removal.moment
    ∷ stamp_field removal.tombstone.when ∷ []
operation_fields (Set setting moment) = (set_tag ∷ []) ∷ stamp_field moment ∷ setting_fields setting

unfoldable pub head_fields : HeadValue → List (List ℕ)
head_fields head =
    (head.format ∷ []) ∷ text_field head.name.base ∷ head.name.id ∷ text_field head.name.title
    ∷ text_field head.name.author ∷ number_field head.window ∷ size_field head.capacity
    ∷ stamp_field head.created ∷ []

-- operations and heads, and the fields of each
abbrev pub operations : Pieced Op
operations = record { Is = IsOperation; pieces = operation_fields }

abbrev pub heads : Pieced HeadValue
heads = record { Is = IsHead; pieces = head_fields }
