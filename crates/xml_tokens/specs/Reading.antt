-- The results of a reader of one part of a token. A production is a relation of a value, its spelling, and the
-- text that follows the spelling.
use Rattle.std.specs.Prelude.{◌≡◌, ◌⊎◌, ℕ, ◌-◌, List, [], ◌∷◌, ◌++◌, take, length, Bool, true, false, not, IsTrue, ◌||◌}
use Rattle.std.specs.Prelude.{◌&&◌, ◌==◌, drop}
use Rattle.std.specs.Prelude.{Result, Ok, Err, codes, nat_eq}
use Rattle.std.specs.Prelude.{Option, Some, is_some, nat_lt, bytes_eq, if◌then◌else◌, All, map, ◌≢◌, ◌<◌, ◌≤◌}
use Rattle.std.specs.List.{list_all, AllZip, IsDistinct}
use Rattle.std.specs.Str.Parse.{IsNumeral, digits_value}
use Rattle.atom_values.specs.Ascii.{ampersand, colon, cr, less_than}
use Rattle.atom_values.specs.XmlText.{is_xml_char, IsXmlText}
use Rattle.atom_values.specs.Space.{is_space}
use Rattle.xml_tokens.specs.declared.cursor.Lapse.{Lapse}
use Rattle.xml_tokens.specs.declared.cursor.Lapse.TheVariants.{Broken, Cut, NoMemory}
use Rattle.xml_tokens.specs.declared.declaration.Encoding.{Encoding}
use Rattle.xml_tokens.specs.declared.declaration.Encoding.TheVariants.{Utf8, Foreign}
use Rattle.xml_tokens.specs.declared.scopes.Namespace.{Namespace}
use Rattle.xml_tokens.specs.declared.scopes.Namespace.TheVariants.{Atom, App, Tombstones, Other}
use Rattle.xml_tokens.specs.declared.tag.Attribute.{Attribute as Raw}
use Rattle.xml_tokens.specs.declared.tag.Tag.{Tag as RawTag}
use Rattle.xml_tokens.specs.declared.tag.TagEnd.{TagEnd}
use Rattle.xml_tokens.specs.declared.tag.TagEnd.TheVariants.{Open as Whole, Empty, Cut as CutTag, CutAtSlash}
use Rattle.xml_tokens.specs.declared.token.Context.{Context}
use Rattle.xml_tokens.specs.declared.token.Context.TheVariants.{Start, Inside}
use Rattle.xml_tokens.specs.declared.token.Token.{Token as RawToken}
use Rattle.xml_tokens.specs.declared.token.Token.TheVariants.{Declaration, Silent, Characters as Run, Reference}
use Rattle.xml_tokens.specs.declared.token.Token.TheVariants.{Section, Tag as TagToken, EndTag}
use Rattle.xml_tokens.specs.Characters.{QName, IsQName, IsName, IsNamed, IsReference, begins, name_text, AreSpaces}
use Rattle.xml_tokens.specs.Characters.{IsGap}
use Rattle.xml_tokens.specs.Characters.{continues_name, lacks, lines}
use Rattle.xml_tokens.specs.Tokens.{Attribute, Tag, IsComment, IsDeclaration, IsInstruction, IsQuote, IsTag, IsValue}
use Rattle.xml_tokens.specs.Tokens.{is_utf8_name, is_encoding_name}
use Rattle.xml_tokens.specs.Tokens.{Token, IsSpelled}
use Rattle.xml_tokens.specs.Tokens.Token.{declaration, character, referred, section, comment, instruction, opening}
use Rattle.xml_tokens.specs.Tokens.Token.{closing}
use Rattle.xml_tokens.specs.Stages.{Lexeme, lexemes_text, inner_scope, namespace_of, outer_scope}
use Rattle.xml_tokens.specs.Names.{atom, app, tombstones}

-- ]
abbrev pub close_bracket : ℕ
close_bracket = 93

-- the text begins with a spelling of the value, and goes on with `rest`
pub record IsFound {A : Type 0} (spells : A → List ℕ → List ℕ → Type 0) (text : List ℕ) (value : A) (rest : List ℕ)
    : Type 0 where
  pub front : List ℕ
  pub split : text ≡ front ++ rest
  pub spelled : spells value front rest

-- the text begins with a spelling of some value
abbrev pub Starts : {A : Type 0} → (A → List ℕ → List ℕ → Type 0) → List ℕ → Type 0
Starts {A} spells text = (value : A) × (rest : List ℕ) × IsFound spells text value rest

-- some continuation of the text does
abbrev pub Continues : {A : Type 0} → (A → List ℕ → List ℕ → Type 0) → List ℕ → Type 0
Continues spells text = (more : List ℕ) × Starts spells (text ++ more)

-- A value is read with the text that spells it. Else no continuation of the text begins with a spelling, or the text
-- ends too early for one.
abbrev pub Reads : {A : Type 0} → (A → List ℕ → List ℕ → Type 0) → List ℕ → Result A Lapse → List ℕ → Type 0
Reads spells before (Ok value) after = IsFound spells before value after
Reads spells before (Err Broken) after = ¬ Continues spells before
Reads spells before (Err Cut) after = ¬ Starts spells before × Continues spells before
Reads spells before (Err NoMemory) after = Unit {0}

-- a part, and then what its value asks for
abbrev pub seq : {A B : Type 0} → (B → List ℕ → List ℕ → Type 0) → (B → A → List ℕ → List ℕ → Type 0) →
    A → List ℕ → List ℕ → Type 0
seq {A} {B} first behind v text rest =
    (b : B) × (front : List ℕ) × (back : List ℕ) × (text ≡ front ++ back) × first b front (back ++ rest)
    × behind b v back rest

-- the same part, of which another value is kept
abbrev pub mapped : {A B : Type 0} → (B → A) → (B → List ℕ → List ℕ → Type 0) → A → List ℕ → List ℕ → Type 0
mapped {A} {B} f P v text rest = (b : B) × (v ≡ f b) × P b text rest

-- the text doesn't begin with such a byte
abbrev pub first_is_no : (ℕ → Bool) → List ℕ → Bool
first_is_no test [] = true
first_is_no test (b ∷ bs) = not (test b)

-- exactly these bytes
abbrev pub exactly : List ℕ → Unit {0} → List ℕ → List ℕ → Type 0
exactly bytes _ text rest = text ≡ bytes

-- the longest white space that the text begins with, and whether there is any
pub record IsSpaceRead (before : List ℕ) (any : Bool) (after : List ℕ) : Type 0 where
  pub spaces : List ℕ
  pub split : before ≡ spaces ++ after
  pub are_spaces : AreSpaces spaces
  pub longest : IsTrue (first_is_no is_space after)
  pub some : any ≡ true → length spaces ≡ 0 → ⊥
  pub none : any ≡ false → length spaces ≡ 0

-- the longest white space, which may be none
abbrev pub all_spaces : Unit {0} → List ℕ → List ℕ → Type 0
all_spaces _ text rest = AreSpaces text × IsTrue (first_is_no is_space rest)

-- the longest white space, of at least one character
abbrev pub a_gap : Unit {0} → List ℕ → List ℕ → Type 0
a_gap _ text rest = IsGap text × IsTrue (first_is_no is_space rest)

-- the longest white space, and whether there is any
abbrev pub any_spaces : Bool → List ℕ → List ℕ → Type 0
any_spaces any text rest = AreSpaces text × IsTrue (first_is_no is_space rest) × (any ≡ nat_lt 0 (length text))

-- a whole name
abbrev pub whole_name : List ℕ → List ℕ → List ℕ → Type 0
whole_name name text rest = (text ≡ name) × IsName name × IsTrue (first_is_no continues_name rest)

-- a whole qualified name, as it is written
abbrev pub whole_qname : List ℕ → List ℕ → List ℕ → Type 0
whole_qname name text rest =
    (q : QName) × (text ≡ name) × (name ≡ name_text q) × IsQName q × IsTrue (first_is_no continues_name rest)
    × (q.prefix ≡ [] → IsTrue (first_is_no (nat_eq colon) rest))

-- bytes up to the first such end, and the end
abbrev pub up_to_end : List ℕ → List ℕ → List ℕ → List ℕ → Type 0
up_to_end end front text rest =
    (text ≡ front ++ end) × IsTrue (lacks end (front ++ take (length end - 1) end))

-- the index of the first place where the pattern begins
pub record IsFirstPlace (pattern text : List ℕ) (at : ℕ) : Type 0 where
  pub front : List ℕ
  pub rest : List ℕ
  pub split : text ≡ front ++ pattern ++ rest
  pub place : at ≡ length front
  pub first : IsTrue (lacks pattern (front ++ take (length pattern - 1) pattern))

abbrev pub one_quote : ℕ → List ℕ → List ℕ → Type 0
one_quote q text rest = IsQuote q × (text ≡ q ∷ [])

-- `=` with white space round it, all that is after it
abbrev pub equals_sign : Unit {0} → List ℕ → List ℕ → Type 0
equals_sign _ text rest =
    (before : List ℕ) × (behind : List ℕ) × AreSpaces before × AreSpaces behind
    × (text ≡ before ++ codes "=" ++ behind) × IsTrue (first_is_no is_space rest)

-- the bytes before the first one that passes
pub record IsCutBefore (test : ℕ → Bool) (before front after : List ℕ) : Type 0 where
  pub split : before ≡ front ++ after
  pub free : IsTrue (list_all (λ b. not (test b)) front)
  pub longest : IsTrue (first_is_no (λ b. not (test b)) after)

-- a byte of content that begins no other token, and no `]]>`
abbrev pub is_plain : ℕ → Bool
is_plain b = not ((b == less_than) || (b == ampersand) || (b == close_bracket))

-- the longest front of such bytes
pub record IsPlainRun (before run after : List ℕ) : Type 0 where
  pub split : before ≡ run ++ after
  pub free : IsTrue (list_all is_plain run)
  pub longest : IsTrue (first_is_no is_plain after)

-- a byte of an attribute's value that is read as it is written
abbrev pub is_verbatim : ℕ → Bool
is_verbatim b = nat_lt cr b && not (b == ampersand)

-- white space outside the root
abbrev pub ReadsBlank : List ℕ → Result RawToken Lapse → List ℕ → Type 0
ReadsBlank before (Ok Silent) after = IsFound a_gap before tt after
ReadsBlank before (Err Broken) after = IsTrue (first_is_no is_space before)
ReadsBlank before _ after = ⊥

-- characters, a reference, or why there is neither, in content before anything but `<`
abbrev pub ReadsSaid : List ℕ → Result RawToken Lapse → List ℕ → Type 0
ReadsSaid before (Ok (Reference c)) after = IsFound (λ c text rest. IsReference c text) before c after
ReadsSaid before (Ok (Run run)) after =
    (IsPlainRun before run.now after × (begins (codes "&") before ≡ false) × (begins (codes "]") before ≡ false))
    ⊎ ((run.now ≡ close_bracket ∷ []) × (before ≡ close_bracket ∷ after) × (begins (codes "]]>") before ≡ false))
ReadsSaid before (Ok _) after = ⊥
ReadsSaid before (Err lapse) after =
    (IsTrue (begins (codes "&") before) × Reads (λ c text rest. IsReference c text) before (Err lapse) after)
    ⊎ (IsTrue (begins (codes "]]>") before) × (lapse ≡ Broken))

-- `version` and its value, after the white space before it (XML 1.0, production 24)
abbrev pub a_version : Unit {0} → List ℕ → List ℕ → Type 0
a_version = seq (exactly (codes "version")) (λ _. seq equals_sign (λ _. seq one_quote (λ q.
    seq (exactly (codes "1.0")) (λ _. exactly (q ∷ [])))))

abbrev pub yes_or_no : Unit {0} → List ℕ → List ℕ → Type 0
yes_or_no _ text rest = (text ≡ codes "yes") ⊎ (text ≡ codes "no")

-- `standalone` and its value, after the white space before it (XML 1.0, production 32)
abbrev pub a_standalone : Unit {0} → List ℕ → List ℕ → Type 0
a_standalone = seq (exactly (codes "standalone")) (λ _. seq equals_sign (λ _. seq one_quote (λ q.
    seq yes_or_no (λ _. exactly (q ∷ [])))))

-- the end of a declaration, after the longest white space that is there
abbrev pub spaced_end : Unit {0} → List ℕ → List ℕ → Type 0
spaced_end = seq all_spaces (λ _. exactly (codes "?>"))

-- the end of a declaration, and `standalone` before it only if white space was read
abbrev pub declaration_end : Bool → Unit {0} → List ℕ → List ℕ → Type 0
declaration_end spaced v text rest =
    ((spaced ≡ true) × seq a_standalone (λ (_ : Unit {0}). spaced_end) v text rest) ⊎ (text ≡ codes "?>")

-- a value in quotes that is the name of an encoding, after the first quote, and whether its texts are UTF-8
abbrev pub encoding_name : ℕ → Bool → List ℕ → List ℕ → Type 0
encoding_name q utf8 text rest =
    IsQuote q × ((name : List ℕ) × IsTrue (is_encoding_name name) × (utf8 ≡ is_utf8_name (Some name))
    × (text ≡ name ++ q ∷ []))

-- `encoding` and its value, after the white space before it (XML 1.0, production 80)
abbrev pub an_encoding : Bool → List ℕ → List ℕ → Type 0
an_encoding = seq (exactly (codes "encoding")) (λ _. seq equals_sign (λ _. seq one_quote encoding_name))

-- after the encoding of a declaration, whose texts are UTF-8 or not
abbrev pub behind_encoding : Bool → Bool → List ℕ → List ℕ → Type 0
behind_encoding named utf8 text rest = (utf8 ≡ named) × seq any_spaces declaration_end tt text rest

-- after the version of a declaration, and whether its texts are UTF-8; an encoding only if white space was read
abbrev pub behind_version : Bool → Bool → List ℕ → List ℕ → Type 0
behind_version spaced utf8 text rest =
    ((spaced ≡ true) × seq an_encoding behind_encoding utf8 text rest)
    ⊎ ((utf8 ≡ true) × declaration_end spaced tt text rest)

abbrev pub is_utf8 : Encoding → Bool
is_utf8 Utf8 = true
is_utf8 Foreign = false

abbrev pub lapse_of : Encoding → Lapse → Lapse
lapse_of Foreign Cut = Broken
lapse_of _ lapse = lapse

-- the text begins with a spelling of this value
abbrev pub StartsAs : {A : Type 0} → (A → List ℕ → List ℕ → Type 0) → A → List ℕ → Type 0
StartsAs spells value text = (rest : List ℕ) × IsFound spells text value rest

-- some continuation of the text does
abbrev pub ContinuesAs : {A : Type 0} → (A → List ℕ → List ℕ → Type 0) → A → List ℕ → Type 0
ContinuesAs spells value text = (more : List ℕ) × StartsAs spells value (text ++ more)

-- A part of a declaration is read with whether its texts are UTF-8. One of another encoding isn't allowed, so it is
-- read only whole.
abbrev pub ReadsEncoding : (Bool → List ℕ → List ℕ → Type 0) → List ℕ → Result Encoding Lapse → List ℕ → Type 0
ReadsEncoding spells before (Ok encoding) after = IsFound spells before (is_utf8 encoding) after
ReadsEncoding spells before (Err Broken) after = ¬ ContinuesAs spells true before × ¬ StartsAs spells false before
ReadsEncoding spells before (Err Cut) after = ¬ StartsAs spells true before × ContinuesAs spells true before
ReadsEncoding spells before (Err NoMemory) after = Unit {0}

-- a reference by name, after its `&`
abbrev pub named_behind : ℕ → List ℕ → List ℕ → Type 0
named_behind c text rest = IsNamed c (ampersand ∷ text)

-- a number of an XML character in this base, and a semicolon
abbrev pub numbered_behind : ℕ → ℕ → List ℕ → List ℕ → Type 0
numbered_behind base c text rest =
    (digits : List ℕ) × IsNumeral base digits × (c ≡ digits_value base digits) × IsTrue (is_xml_char c)
    × (text ≡ digits ++ codes ";")

-- a declaration of UTF-8, and one of another encoding
abbrev pub utf8_declaration : Unit {0} → List ℕ → List ℕ → Type 0
utf8_declaration _ text rest = (name : Option (List ℕ)) × IsDeclaration name text × IsTrue (is_utf8_name name)

abbrev pub foreign_declaration : Unit {0} → List ℕ → List ℕ → Type 0
foreign_declaration _ text rest = (name : Option (List ℕ)) × IsDeclaration name text × (is_utf8_name name ≡ false)

-- a declaration of another encoding isn't allowed, so it is read only whole
abbrev pub ReadsDeclaration : List ℕ → Result Encoding Lapse → List ℕ → Type 0
ReadsDeclaration before (Ok Utf8) after = IsFound utf8_declaration before tt after
ReadsDeclaration before (Ok Foreign) after = IsFound foreign_declaration before tt after
ReadsDeclaration before (Err Broken) after = ¬ Continues utf8_declaration before × ¬ Starts foreign_declaration before
ReadsDeclaration before (Err Cut) after = ¬ Starts utf8_declaration before × Continues utf8_declaration before
ReadsDeclaration before (Err NoMemory) after = Unit {0}

-- an attribute as it is read, and as it is written
abbrev pub IsAttributeOf : Attribute → Raw → Type 0
IsAttributeOf a raw = (raw.name.now ≡ name_text a.name) × ((q : ℕ) × IsValue q a.value raw.written.now)

-- a tag as it is read, and as it is written
pub record IsTagOf (read : Tag) (raw : RawTag) : Type 0 where
  pub name : raw.name.now ≡ name_text read.name
  pub attributes : AllZip IsAttributeOf read.attributes raw.attributes.items

-- the spellings of a tag
abbrev pub a_tag : Tag → List ℕ → List ℕ → Type 0
a_tag tag text rest = IsTag tag text

-- the spellings of a tag that sets its own prefix, so that it is allowed in each scope
abbrev pub own_tag : Tag → List ℕ → List ℕ → Type 0
own_tag tag text rest =
    IsSpelled (opening tag) text rest
    × IsTrue (is_some (namespace_of (inner_scope outer_scope tag) tag.name.prefix))

-- something after the text makes it a tag that sets its own prefix
pub record CanOwn (text : List ℕ) : Type 0 where
  pub more : List ℕ
  pub tag : Tag
  pub xml : IsXmlText text → IsXmlText more
  pub is_tag : IsTag tag (text ++ more)
  pub set : IsTrue (is_some (namespace_of (inner_scope outer_scope tag) tag.name.prefix))

-- with `>` the text is the tag, and its continuations begin with no other
pub record IsTagAtSlash (before : List ℕ) (raw : RawTag) : Type 0 where
  pub tag : Tag
  pub is_tag : IsTag tag (before ++ codes ">")
  pub tag_of : IsTagOf tag raw
  pub ends : tag.is_empty ≡ true
  pub none : ¬ Starts a_tag before
  pub only : (more : List ℕ) (other : Tag) (rest : List ℕ) → IsFound a_tag (before ++ more) other rest → other ≡ tag

-- a tag is read whole, or the text ends within it; after `/` only `>` is missing, else it can still set its prefix
abbrev pub ReadsTagTo : TagEnd → List ℕ → RawTag → List ℕ → Type 0
ReadsTagTo Whole before raw after = (tag : Tag) × IsFound a_tag before tag after × IsTagOf tag raw
    × (tag.is_empty ≡ false)
ReadsTagTo Empty before raw after = (tag : Tag) × IsFound a_tag before tag after × IsTagOf tag raw
    × (tag.is_empty ≡ true)
ReadsTagTo CutTag before raw after = ¬ Starts a_tag before × CanOwn before
ReadsTagTo CutAtSlash before raw after = IsTagAtSlash before raw

abbrev pub ReadsTag : List ℕ → Result RawTag Lapse → List ℕ → Type 0
ReadsTag before (Ok raw) after = ReadsTagTo raw.end before raw after
ReadsTag before (Err Broken) after = ¬ Continues a_tag before
ReadsTag before (Err Cut) after = ⊥
ReadsTag before (Err NoMemory) after = Unit {0}

abbrev pub is_cut : TagEnd → Bool
is_cut CutTag = true
is_cut CutAtSlash = true
is_cut _ = false

-- a tag as a token: one that the text cuts takes all that is left
abbrev pub ReadsTagToken : List ℕ → Result RawToken Lapse → List ℕ → Type 0
ReadsTagToken before (Ok (TagToken raw)) after =
    (end : List ℕ) × ReadsTagTo raw.end before raw end × (after ≡ (if is_cut raw.end then [] else end))
ReadsTagToken before (Ok _) after = ⊥
ReadsTagToken before (Err lapse) after = ReadsTag before (Err lapse) after

-- a value up to the quote that ends it, as it is written
abbrev pub value_behind : ℕ → List ℕ → List ℕ → List ℕ → Type 0
value_behind q written text rest = ((value : List ℕ) × IsValue q value written) × (text ≡ written ++ q ∷ [])

-- the namespace, as far as a reader tells namespaces apart
abbrev pub kind_of : List ℕ → Namespace
kind_of name =
    if bytes_eq name (atom []).namespace then Atom else (if bytes_eq name (app []).namespace then App
    else (if bytes_eq name (tombstones []).namespace then Tombstones else Other))

abbrev pub a_comment : Unit {0} → List ℕ → List ℕ → Type 0
a_comment _ text rest = IsComment text

-- a declaration begins here: no instruction has its name
abbrev pub begins_declaration : List ℕ → Bool
begins_declaration text = begins (codes "<?xml") text && not (first_is_no is_space (drop 5 text))

abbrev pub an_instruction : Unit {0} → List ℕ → List ℕ → Type 0
an_instruction _ text rest = IsInstruction text

-- an instruction after its name
abbrev pub instruction_end : Unit {0} → List ℕ → List ℕ → Type 0
instruction_end _ text rest =
    (inside : List ℕ) × (text ≡ inside ++ codes "?>") × IsTrue (lacks (codes "?>") (inside ++ codes "?"))
    × ((inside ≡ []) ⊎ ((gap : List ℕ) × (more : List ℕ) × IsGap gap × (inside ≡ gap ++ more)))

-- a CDATA section, by its characters as they are written
abbrev pub written_section : List ℕ → List ℕ → List ℕ → Type 0
written_section inside text rest =
    (text ≡ codes "<![CDATA[" ++ inside ++ codes "]]>") × IsTrue (lacks (codes "]]>") (inside ++ codes "]]"))

-- the end tag of an element with this name, as it is written
abbrev pub written_end_tag : List ℕ → Unit {0} → List ℕ → List ℕ → Type 0
written_end_tag name _ text rest =
    (spaces : List ℕ) × AreSpaces spaces × (text ≡ codes "</" ++ name ++ spaces ++ codes ">")

-- a value in quotes, beside the name of its attribute
abbrev pub quoted_behind : List ℕ → ℕ → List ℕ × List ℕ → List ℕ → List ℕ → Type 0
quoted_behind name q = mapped (λ written. (name, written)) (value_behind q)

-- after the name of an attribute
abbrev pub sign_behind : List ℕ → List ℕ × List ℕ → List ℕ → List ℕ → Type 0
sign_behind name = seq equals_sign (λ _. seq one_quote (quoted_behind name))

-- an attribute without the white space before it: its name and its value, as they are written
abbrev pub attribute_parts : List ℕ × List ℕ → List ℕ → List ℕ → Type 0
attribute_parts = seq whole_qname sign_behind

abbrev pub pairs : List Raw → List (List ℕ × List ℕ)
pairs raws = map (λ (a : Raw). (a.name.now, a.written.now)) raws

abbrev pub names : List Raw → List (List ℕ)
names raws = map (λ (a : Raw). a.name.now) raws

-- whether two of some names are the same
abbrev pub TellsSame : List (List ℕ) → Bool → Type 0
TellsSame all same = (same ≡ true → ¬ IsDistinct bytes_eq all) × (same ≡ false → IsDistinct bytes_eq all)

-- an attribute was read, and is kept as the last one
abbrev pub IsAttributeRead : List ℕ → List Raw → List Raw → List ℕ → Type 0
IsAttributeRead before old kept after =
    (a : Raw) × (kept ≡ old ++ a ∷ []) × IsFound attribute_parts before (a.name.now, a.written.now) after

-- the text ends within an attribute whose name can still grow
abbrev pub CanGrowName : List ℕ → Type 0
CanGrowName before =
    (n : ℕ) → (name : List ℕ) × (n < length name) × (more : List ℕ) × IsXmlText more
    × attribute_parts (name, []) (before ++ more) []

-- the text ends within an attribute with this name
abbrev pub CanEnd : List ℕ → List ℕ → Type 0
CanEnd name before =
    (rest : List ℕ) × IsFound whole_qname before name rest × (rest ≢ []) × (written : List ℕ) × (more : List ℕ)
    × IsXmlText more × attribute_parts (name, written) (before ++ more) []

-- the text ends within an attribute, which is kept if its name is whole
abbrev pub IsAttributeCut : List ℕ → List Raw → List Raw → Type 0
IsAttributeCut before old kept =
    ((kept ≡ old) × CanGrowName before)
    ⊎ ((name : List ℕ) × (names kept ≡ names old ++ name ∷ []) × CanEnd name before)

-- attributes, each after white space, by their names and values as they are written
abbrev pub are_attributes : List (List ℕ × List ℕ) → List ℕ → Type 0
are_attributes [] text = text ≡ []
are_attributes (a ∷ more) text =
    (gap : List ℕ) × (front : List ℕ) × (back : List ℕ) × IsGap gap × attribute_parts a front []
    × are_attributes more back × (text ≡ gap ++ (front ++ back))

abbrev pub tag_end : Bool → List ℕ
tag_end is_empty = if is_empty then codes "/>" else codes ">"

-- the attributes of a tag and its end, after its name
abbrev pub behind_name : List (List ℕ × List ℕ) × Bool → List ℕ → List ℕ → Type 0
behind_name v text rest =
    (inside : List ℕ) × (spaces : List ℕ) × are_attributes v.0 inside × AreSpaces spaces
    × (text ≡ inside ++ (spaces ++ tag_end v.1))

-- XML characters after the text make it whole attributes with these names, and maybe one more with a name longer
-- than n
pub record CanGrow (n : ℕ) (named : List (List ℕ)) (text : List ℕ) : Type 0 where
  pub more : List ℕ
  pub read : List (List ℕ × List ℕ)
  pub inside : List ℕ
  pub spaces : List ℕ
  pub xml : IsXmlText more
  pub are : are_attributes read inside
  pub are_spaces : AreSpaces spaces
  pub split : text ++ more ≡ inside ++ spaces
  pub has : (map (λ a. a.0) read ≡ named)
      ⊎ ((name : List ℕ) × (n < length name) × (map (λ a. a.0) read ≡ named ++ name ∷ []))

-- each continuation that is the rest of a tag has these names first
abbrev pub HasFirst : List (List ℕ) → List ℕ → Type 0
HasFirst named text =
    (more : List ℕ) (v : List (List ℕ × List ℕ) × Bool) (rest : List ℕ) → IsFound behind_name (text ++ more) v rest
    → (later : List (List ℕ)) × (map (λ a. a.0) v.0 ≡ named ++ later)

-- the attributes of a tag and its end are read, or the text ends within them
abbrev pub ReadsBehindName : List ℕ → List Raw → Result TagEnd Lapse → List ℕ → Type 0
ReadsBehindName text raws (Ok Whole) after = IsFound behind_name text (pairs raws, false) after
ReadsBehindName text raws (Ok Empty) after = IsFound behind_name text (pairs raws, true) after
ReadsBehindName text raws (Ok CutTag) after =
    ¬ Starts behind_name text × HasFirst (names raws) text × ((n : ℕ) → CanGrow n (names raws) text)
ReadsBehindName text raws (Ok CutAtSlash) after =
    behind_name (pairs raws, true) (text ++ codes ">") [] × ¬ Starts behind_name text
    × ((more : List ℕ) (v : List (List ℕ × List ℕ) × Bool) (rest : List ℕ) → IsFound behind_name (text ++ more) v rest
    → v ≡ (pairs raws, true))
ReadsBehindName text raws (Err Broken) after = ¬ Continues behind_name text
ReadsBehindName text raws (Err Cut) after = ⊥
ReadsBehindName text raws (Err NoMemory) after = Unit {0}

-- the end of an empty tag, from its `/` on
abbrev pub ReadsEmptyEnd : List ℕ → Result TagEnd Lapse → List ℕ → Type 0
ReadsEmptyEnd before (Ok Empty) after = (b : ℕ) × (before ≡ b ∷ 62 ∷ after)
ReadsEmptyEnd before (Ok CutAtSlash) after = length before ≤ 1
ReadsEmptyEnd before (Err Broken) after = (b : ℕ) × (c : ℕ) × (tail : List ℕ) × (before ≡ b ∷ c ∷ tail) × (c ≢ 62)
ReadsEmptyEnd before _ after = ⊥

-- the name of the open element that a place is in, as it is written, is that of a qualified name
abbrev pub IsFitPlace : Context → Type 0
IsFitPlace (Inside name) = IsXmlText name.now × ((q : QName) × IsQName q × (name.now ≡ name_text q))
IsFitPlace _ = Unit {0}

abbrev pub IsInContent : Context → Type 0
IsInContent (Inside name) = Unit {0}
IsInContent _ = ⊥

-- the end tag of an element with this name ends the innermost open element
abbrev pub IsNameOf : QName → Context → Type 0
IsNameOf q (Inside name) = name.now ≡ name_text q
IsNameOf q _ = ⊥

-- the token is allowed at the place, whatever is open round it; its prefix tells whether a tag is allowed
abbrev pub MayStand : Context → Token → Type 0
MayStand place (declaration encoding) = (place ≡ Start) × IsTrue (is_utf8_name encoding)
MayStand place (character read) = IsInContent place ⊎ AreSpaces read
MayStand place (referred c) = IsInContent place
MayStand place (section read) = IsInContent place
MayStand place comment = Unit {0}
MayStand place instruction = Unit {0}
MayStand place (opening tag) = Unit {0}
MayStand place (closing name) = IsNameOf name place

abbrev pub IsOpening : Token → Type 0
IsOpening (opening tag) = Unit {0}
IsOpening _ = ⊥

-- a token that is allowed at the place, or a tag, begins the text
pub record BeginsAt (place : Context) (text : List ℕ) : Type 0 where
  pub token : Token
  pub front : List ℕ
  pub rest : List ℕ
  pub split : text ≡ front ++ rest
  pub spelled : IsSpelled token front rest
  pub stands : MayStand place token

-- each token that some continuation of the text begins with is a tag
abbrev pub IsTagOnly : List ℕ → Type 0
IsTagOnly text =
    (more : List ℕ) (token : Token) (front rest : List ℕ) → text ++ more ≡ front ++ rest → IsSpelled token front rest
    → IsOpening token

-- lexemes one after another, before the text `rest`
abbrev pub AreSpelled : List Lexeme → List ℕ → Type 0
AreSpelled [] rest = Unit {0}
AreSpelled (l ∷ ls) rest = IsSpelled l.token l.text (lexemes_text ls ++ rest) × AreSpelled ls rest

-- one or more lexemes that are allowed at the place are read
pub record AreRead (place : Context) (before : List ℕ) (lexemes : List Lexeme) (after : List ℕ) : Type 0 where
  pub split : before ≡ lexemes_text lexemes ++ after
  pub spelled : AreSpelled lexemes after
  pub stand : All (λ (l : Lexeme). MayStand place l.token) lexemes
  pub some : lexemes ≢ []

-- this token alone
abbrev pub IsAlone : Token → List Lexeme → Type 0
IsAlone token lexemes = (text : List ℕ) × (lexemes ≡ record { token = token; text = text } ∷ [])

-- characters of content that are read as these bytes
abbrev pub AreCharacters : List ℕ → List Lexeme → Type 0
AreCharacters read [] = read ≡ []
AreCharacters read (l ∷ ls) =
    (first : List ℕ) × (more : List ℕ) × (l.token ≡ character first) × (read ≡ first ++ more) × AreCharacters more ls

-- the token adds nothing to the tree
abbrev pub IsSilentAt : Context → Token → Type 0
IsSilentAt place comment = Unit {0}
IsSilentAt place instruction = Unit {0}
IsSilentAt place (character read) = ¬ IsInContent place
IsSilentAt place _ = ⊥

-- the lexemes that a token stands for
abbrev pub IsTokenOf : Context → RawToken → List Lexeme → Type 0
IsTokenOf place (Declaration Utf8) lexemes = (name : Option (List ℕ)) × IsAlone (declaration name) lexemes
IsTokenOf place (Declaration Foreign) lexemes = ⊥
IsTokenOf place Silent lexemes = All (λ (l : Lexeme). IsSilentAt place l.token) lexemes
IsTokenOf place (Run run) lexemes = IsInContent place × AreCharacters (lines run.now) lexemes
IsTokenOf place (Reference c) lexemes = IsAlone (referred c) lexemes
IsTokenOf place (Section inside) lexemes = IsAlone (section (lines inside.now)) lexemes
IsTokenOf place (TagToken raw) lexemes = ⊥
IsTokenOf place EndTag lexemes = (name : QName) × IsAlone (closing name) lexemes

-- a whole tag
pub record IsTagRead (place : Context) (before : List ℕ) (is_empty : Bool) (raw : RawTag) (after : List ℕ)
    : Type 0 where
  pub tag : Tag
  pub lexemes : List Lexeme
  pub alone : IsAlone (opening tag) lexemes
  pub read : AreRead place before lexemes after
  pub tag_of : IsTagOf tag raw
  pub ends : tag.is_empty ≡ is_empty
  pub name : IsXmlText raw.name.now

-- a tag in which the text ends after `/`: with `>` it is this tag, and it is no other
pub record IsCutAtSlash (before : List ℕ) (raw : RawTag) : Type 0 where
  pub tag : Tag
  pub spelled : IsSpelled (opening tag) (before ++ codes ">") []
  pub tag_of : IsTagOf tag raw
  pub ends : tag.is_empty ≡ true
  pub none : ¬ Starts a_tag before
  pub only : (more : List ℕ) (other : Tag) (rest : List ℕ) → IsFound a_tag (before ++ more) other rest → other ≡ tag

-- A tag is read, whole or as far as it goes. One that the text cuts can be finished, and can set its own prefix unless
-- only `>` is missing.
abbrev pub IsTagTo : TagEnd → Context → List ℕ → RawTag → List ℕ → Type 0
IsTagTo Whole place before raw after = IsTagRead place before false raw after
IsTagTo Empty place before raw after = IsTagRead place before true raw after
IsTagTo CutTag place before raw after = ¬ Starts a_tag before × Continues own_tag before
IsTagTo CutAtSlash place before raw after = IsCutAtSlash before raw

-- a token, or as much of the next tag as there is
abbrev pub IsTokenRead : Context → List ℕ → RawToken → List ℕ → Type 0
IsTokenRead place before (TagToken raw) after = IsTagOnly before × IsTagTo raw.end place before raw after
IsTokenRead place before (Declaration Foreign) after = (place ≡ Start) × Starts foreign_declaration before
IsTokenRead place before token after =
    (lexemes : List Lexeme) × AreRead place before lexemes after × IsTokenOf place token lexemes

-- A token is read exactly where the text begins with one that is allowed at the place, or with a tag. `Broken`: no
-- continuation of the text does. `Cut`: the text doesn't, and some continuation begins with a token that is allowed
-- there and isn't a tag.
abbrev pub ReadsToken : Context → List ℕ → Result RawToken Lapse → List ℕ → Type 0
ReadsToken place before (Ok token) after = IsTokenRead place before token after × IsXmlText after
ReadsToken place before (Err Broken) after = (more : List ℕ) → ¬ BeginsAt place (before ++ more)
ReadsToken place before (Err Cut) after =
    ¬ BeginsAt place before × ((more : List ℕ) × (b : BeginsAt place (before ++ more)) × ¬ IsOpening b.token)
ReadsToken place before (Err NoMemory) after = Unit {0}

-- a declaration of another encoding is read
abbrev pub IsForeignRead : Result RawToken Lapse → Type 0
IsForeignRead result = (result ≡ Ok (Declaration Foreign)) ⊎ (result ≡ Err NoMemory)
