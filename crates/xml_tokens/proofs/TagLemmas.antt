-- Tags, and the attributes that their texts are read as.
use Rattle.std.proofs.Common.{◌≡◌, ◌≢◌, ◌⊎◌, ℕ, Bool, true, false, List, [], ◌∷◌, ◌++◌}
use Rattle.std.proofs.Common.{map, IsTrue, refl, sym, ap, subst, ◌∙◌, inl, inr, ⊎_elim, codes, append_assoc}
use Rattle.std.specs.Prelude.{Ok, bytes_eq}
use Rattle.std.specs.List.{IsDistinct, AllByRecursion, AllZip, list_all}
use Rattle.std.proofs.Common.{◌==◌}
use Rattle.std.proofs.lemmas.Bool.{or_left, and_parts}
use Rattle.std.proofs.lemmas.Bool.{not_from_false}
use Rattle.std.proofs.lemmas.List.{append-nil, append_cancel_left}
use Rattle.xml_tokens.specs.declared.tag.Attribute.{Attribute as Raw}
use Rattle.xml_tokens.specs.declared.tag.Tag.{Tag as RawTag}
use Rattle.xml_tokens.specs.declared.tag.TagEnd.{TagEnd}
use Rattle.xml_tokens.specs.declared.tag.TagEnd.TheVariants.{Open as Whole, Empty, Cut as CutTag, CutAtSlash}
use Rattle.xml_tokens.specs.Characters.{QName, IsQName, IsGap, AreSpaces, continues_name, name_text}
use Rattle.xml_tokens.specs.Tokens.{Attribute, IsAttribute, AreAttributes, IsValue, Tag, IsTag}
use Rattle.std.proofs.Common.{nat_eq}
use Rattle.atom_values.specs.Ascii.{colon}
use Rattle.atom_values.specs.Space.{is_space}
use Rattle.xml_tokens.specs.Reading.{IsFound, Starts, Continues, whole_qname, first_is_no, attribute_parts}
use Rattle.xml_tokens.specs.Reading.{are_attributes, behind_name, tag_end, names, pairs, IsAttributeOf, IsTagOf}
use Rattle.xml_tokens.specs.Reading.{a_tag, HasFirst, ReadsBehindName}
use Rattle.xml_tokens.proofs.PartLemmas.{found_whole, whole_found}
use Rattle.xml_tokens.proofs.AttributeLemmas.{qname_part, sign_first, no_name}
use Rattle.xml_tokens.proofs.DeclarationLemmas.{no_space}
use Rattle.xml_tokens.proofs.BehindNameLemmas.{attribute_named, state_has}
use Rattle.xml_tokens.proofs.SameNameLemmas.{no_names}

-- an attribute as it is read, and its name and value as they are written
abbrev pub IsPairOf : Attribute → List ℕ × List ℕ → Type 0
IsPairOf a pair = IsQName a.name × (pair.0 ≡ name_text a.name) × ((q : ℕ) × IsValue q a.value pair.1)

-- an attribute from its parts
record AttributeRead (gap s : List ℕ) (pair : List ℕ × List ℕ) : Type 0 where
  attribute : Attribute
  is : IsAttribute attribute (gap ++ s)
  of : IsPairOf attribute pair

to_attribute : (gap s x : List ℕ) (pair : List ℕ × List ℕ) → IsGap gap → attribute_parts pair s x →
    AttributeRead gap s pair
to_attribute gap s x pair is_gap p =
    let name = p.4 in
    let sign = p.5 in
    let e = sign.4 in
    let quoted = sign.5 in
    let q = quoted.0 in
    let value = quoted.5 in
    let w = value.0 in
    let same : pair.0 ≡ p.0 = attribute_named pair s x p in
    let V : List ℕ → Type 0 = λ xs. IsValue q value.2.0.0 xs in
    let back : w ≡ pair.1 = sym (ap (λ v. v.1) value.1) in
    let a : Attribute = record { name = name.0; value = value.2.0.0 } in
    record {
      attribute = a;
      is = record {
        name = name.3;
        q = q;
        inside = w;
        value = value.2.0.1;
        setting = record {
          gap = gap;
          before = e.0;
          behind = e.1;
          is_gap = is_gap;
          is_before = e.2;
          is_behind = e.3;
          is_quote = quoted.4.0;
          spelled = ap (λ xs. gap ++ xs)
              (p.3 ∙ (λ i. (name.1 ∙ name.2) i
              ++ (sign.3 ∙ (λ k. e.4 k ++ (quoted.3 ∙ (λ j. quoted.4.1 j ++ value.2.1 j)) k)) i))
              ∙ simp append_assoc;
        };
      };
      of = (name.3, same ∙ name.2, (q, subst V back value.2.0.1));
    }

-- attributes from their parts
pub record AttributesRead (inside : List ℕ) (read : List (List ℕ × List ℕ)) : Type 0 where
  pub attributes : List Attribute
  pub are : AreAttributes attributes inside
  pub of : AllZip IsPairOf attributes read

pub to_attributes : (read : List (List ℕ × List ℕ)) (inside : List ℕ) → are_attributes read inside →
    AttributesRead inside read
to_attributes [] inside are = record { attributes = []; are = are; of = tt }
to_attributes (a ∷ read) inside are =
    let one = to_attribute are.0 are.1 [] a are.3 are.4 in
    let more = to_attributes read are.2 are.5 in
    record {
      attributes = one.attribute ∷ more.attributes;
      are = (
        are.0 ++ are.1,
        are.2,
        one.is,
        more.are,
        are.6 ∙ sym (append_assoc are.0 are.1 are.2),
      );
      of = (one.of, more.of);
    }

from_attribute : (a : Attribute) (text : List ℕ) → IsAttribute a text →
    (gap : List ℕ) × (s : List ℕ) × (pair : List ℕ × List ℕ) × IsGap gap × attribute_parts pair s [] × (text ≡ gap ++ s)
    × IsPairOf a pair
from_attribute a text is =
    let set = is.setting in
    let q = is.q in
    let name = name_text a.name in
    let sign = set.before ++ codes "=" ++ set.behind in
    let value = q ∷ (is.inside ++ q ∷ []) in
    let first = sign_first set.before (set.behind ++ value) set.is_before in
    let N : List ℕ → Type 0 = λ xs. IsTrue (first_is_no continues_name xs) in
    let C : List ℕ → Type 0 = λ xs. IsTrue (first_is_no (nat_eq colon) xs) in
    let whole : set.before ++ 61 ∷ (set.behind ++ value) ≡ (sign ++ value) ++ [] = simp (append_assoc, append-nil) in (
      set.gap,
      name ++ (sign ++ value),
      (name, is.inside),
      set.is_gap,
      (
        name,
        name,
        sign ++ value,
        refl,
        (a.name, refl, refl, is.name, subst N whole first.0, (λ _. subst C whole first.1)),
        (
          tt,
          sign,
          value,
          refl,
          (
            set.before,
            set.behind,
            set.is_before,
            set.is_behind,
            refl,
            no_space q set.is_quote
                ((is.inside ++ q ∷ []) ++ []),
          ),
          (q, q ∷ [], is.inside ++ q ∷ [], refl, (set.is_quote, refl), (is.inside, refl, ((a.value, is.value), refl))),
        ),
      ),
      set.spelled ∙ simp append_assoc,
      (is.name, refl, (q, is.value)),
    )

-- the parts of attributes
pub from_attributes : (attributes : List Attribute) (inside : List ℕ) → AreAttributes attributes inside →
    (read : List (List ℕ × List ℕ)) × are_attributes read inside × AllZip IsPairOf attributes read
from_attributes [] inside are = ([], are, tt)
from_attributes (a ∷ attributes) inside are =
    let one = from_attribute a are.0 are.2 in
    let more = from_attributes attributes are.1 are.3 in (
      one.2 ∷ more.0,
      (
        one.0,
        one.1,
        are.1,
        one.3,
        one.4,
        more.1,
        are.4 ∙ ap (λ xs. xs ++ are.1) one.5 ∙ append_assoc one.0 one.1 are.1,
      ),
      (one.6, more.2),
    )

abbrev names_in : List Attribute → List (List ℕ)
names_in attributes = map (λ (a : Attribute). name_text a.name) attributes

abbrev firsts : List (List ℕ × List ℕ) → List (List ℕ)
firsts read = map (λ (a : List ℕ × List ℕ). a.0) read

pub same_names : (attributes : List Attribute) (read : List (List ℕ × List ℕ)) → AllZip IsPairOf attributes read →
    names_in attributes ≡ firsts read
same_names [] [] of = refl
same_names [] (p ∷ read) of = absurd of
same_names (a ∷ attributes) [] of = absurd of
same_names (a ∷ attributes) (p ∷ read) of =
    let head = sym of.0.1 in
    let tail = same_names attributes read of.1 in
    λ i. head i ∷ tail i

pub raw_names : (raws : List Raw) → firsts (pairs raws) ≡ names raws
raw_names [] = refl
raw_names (a ∷ raws) = ap (λ xs. a.name.now ∷ xs) (raw_names raws)

pub of_raws : (attributes : List Attribute) (raws : List Raw) → AllZip IsPairOf attributes (pairs raws) →
    AllZip IsAttributeOf attributes raws
of_raws [] [] of = tt
of_raws [] (p ∷ read) of = absurd of
of_raws (a ∷ attributes) [] of = absurd of
of_raws (a ∷ attributes) (p ∷ raws) of = ((of.0.1, of.0.2), of_raws attributes raws of.1)

-- a tag by its parts: `<`, a name, and the rest
abbrev pub tag_text : List ℕ → List ℕ → List ℕ
tag_text name rest = codes "<" ++ (name ++ rest)

pub record TagRead (name : List ℕ) (read : List (List ℕ × List ℕ)) (is_empty : Bool) (text : List ℕ) : Type 0 where
  pub tag : Tag
  pub is : IsTag tag text
  pub named : name ≡ name_text tag.name
  pub of : AllZip IsPairOf tag.attributes read
  pub ends : tag.is_empty ≡ is_empty

-- a tag from its parts
pub to_tag : (q : QName) → IsQName q → (read : List (List ℕ × List ℕ)) (is_empty : Bool) (back rest : List ℕ) →
    behind_name (read, is_empty) back rest → IsDistinct bytes_eq (firsts read) →
    TagRead (name_text q) read is_empty (tag_text (name_text q) back)
to_tag q is read is_empty back rest b distinct =
    let a = to_attributes read b.0 b.2 in
    let D : List (List ℕ) → Type 0 = IsDistinct bytes_eq in
    record {
      tag = record { name = q; attributes = a.attributes; is_empty = is_empty };
      is = record {
        name = is;
        inside = b.0;
        spaces = b.1;
        attributes = a.are;
        distinct = subst D (sym (same_names a.attributes read a.of)) distinct;
        are_spaces = b.3;
        spelled = ap (λ xs. codes "<" ++ (name_text q ++ xs)) b.4 ∙ simp append_assoc;
      };
      named = refl;
      of = a.of;
      ends = refl;
    }

-- the parts of a tag
pub from_tag : (tag : Tag) (text rest : List ℕ) → IsTag tag text →
    (read : List (List ℕ × List ℕ)) × (back : List ℕ) × behind_name (read, tag.is_empty) back rest
    × (text ≡ tag_text (name_text tag.name) back) × AllZip IsPairOf tag.attributes read
from_tag tag text rest is =
    let a = from_attributes tag.attributes is.inside is.attributes in (
      a.0,
      is.inside ++ (is.spaces ++ tag_end tag.is_empty),
      (is.inside, is.spaces, a.1, is.are_spaces, refl),
      is.spelled ∙ simp append_assoc,
      a.2,
    )

-- the first byte after a name
space_first : (spaces : List ℕ) (b : ℕ) (rest : List ℕ) → AreSpaces spaces → continues_name b ≡ false →
    nat_eq colon b ≡ false →
    IsTrue (first_is_no continues_name (spaces ++ b ∷ rest)) × IsTrue (first_is_no (nat_eq colon) (spaces ++ b ∷ rest))
space_first [] b rest are no_name no_colon =
    (not_from_false (continues_name b) no_name, not_from_false (nat_eq colon b) no_colon)
space_first (s ∷ spaces) b rest are none no_colon =
    let p = no_name s (or_left (is_space s) (s == 61) (and_parts (is_space s) (list_all is_space spaces) are).0) in
    (not_from_false (continues_name s) p.0, not_from_false (nat_eq colon s) p.1)

end_first : (is_empty : Bool) (spaces rest : List ℕ) → AreSpaces spaces →
    IsTrue (first_is_no continues_name (spaces ++ (tag_end is_empty ++ rest)))
    × IsTrue (first_is_no (nat_eq colon) (spaces ++ (tag_end is_empty ++ rest)))
end_first true spaces rest are = space_first spaces 47 (62 ∷ rest) are refl refl
end_first false spaces rest are = space_first spaces 62 rest are refl refl

pub gap_first : (gap later : List ℕ) → IsGap gap →
    IsTrue (first_is_no continues_name (gap ++ later)) × IsTrue (first_is_no (nat_eq colon) (gap ++ later))
gap_first [] later is = absurd (is.1 refl)
gap_first (s ∷ gap) later is =
    let p = no_name s (or_left (is_space s) (s == 61) (and_parts (is_space s) (list_all is_space gap) is.0).0) in
    (not_from_false (continues_name s) p.0, not_from_false (nat_eq colon s) p.1)

pub behind_first : (read : List (List ℕ × List ℕ)) (is_empty : Bool) (back rest : List ℕ) →
    behind_name (read, is_empty) back rest →
    IsTrue (first_is_no continues_name (back ++ rest)) × IsTrue (first_is_no (nat_eq colon) (back ++ rest))
behind_first [] is_empty back rest b =
    let N : List ℕ → Type 0 = λ xs.
    IsTrue (first_is_no continues_name xs) × IsTrue (first_is_no (nat_eq colon) xs) in
    let whole : back ++ rest ≡ b.1 ++ (tag_end is_empty ++ rest) =
    ap (λ xs. xs ++ rest) (b.4 ∙ ap (λ xs. xs ++ (b.1 ++ tag_end is_empty)) b.2)
    ∙ append_assoc b.1 (tag_end is_empty) rest in
    subst N (sym whole) (end_first is_empty b.1 rest b.3)
behind_first (a ∷ read) is_empty back rest b =
    let i = b.2 in
    let N : List ℕ → Type 0 = λ xs.
    IsTrue (first_is_no continues_name xs) × IsTrue (first_is_no (nat_eq colon) xs) in
    let later = (i.1 ++ i.2) ++ ((b.1 ++ tag_end is_empty) ++ rest) in
    let whole : back ++ rest ≡ i.0 ++ later =
    ap (λ xs. xs ++ rest) (b.4 ∙ ap (λ xs. xs ++ (b.1 ++ tag_end is_empty)) i.6) ∙ simp append_assoc in
    subst N (sym whole) (gap_first i.0 later i.3)

nil_or : (text : List ℕ) → (text ≡ []) ⊎ (text ≢ [])
nil_or [] = inl refl
nil_or (b ∷ text) = inr (λ (e : b ∷ text ≡ []). cc)

-- after the name of a tag, a continuation goes on as the rest of one
pub behind_tag : (text opened name named : List ℕ) → text ≡ codes "<" ++ opened →
    IsFound whole_qname opened name named →
    (more : List ℕ) → (named ≡ [] → more ≡ []) → (tag : Tag) (rest : List ℕ) → IsFound a_tag (text ++ more) tag rest →
    (read : List (List ℕ × List ℕ)) × (name ≡ name_text tag.name) × AllZip IsPairOf tag.attributes read
    × IsFound behind_name (named ++ more) (read, tag.is_empty) rest
behind_tag text opened name named start f more none tag rest found =
    let t = from_tag tag found.front rest found.spelled in
    let other = name_text tag.name in
    let N : List ℕ → Type 0 = λ xs. whole_qname name f.front xs in
    let here : whole_qname name f.front (named ++ more) = ⊎_elim
    (λ over. subst N (sym (append-nil named) ∙ ap (λ xs. named ++ xs) (sym (none over))) f.spelled)
    (λ some. qname_part.grows name f.front named more some f.spelled)
    (nil_or named) in
    let first = behind_first t.0 tag.is_empty t.1 rest t.2 in
    let there : whole_qname other other (t.1 ++ rest) =
    (tag.name, refl, refl, found.spelled.name, first.0, (λ _. first.1)) in
    let whole : 60 ∷ (f.front ++ (named ++ more)) ≡ 60 ∷ (other ++ (t.1 ++ rest)) =
    ap (λ xs. 60 ∷ xs) (sym (append_assoc f.front named more)) ∙ ap (λ xs. (60 ∷ xs) ++ more) (sym f.split)
    ∙ ap (λ xs. xs ++ more) (sym start) ∙ found.split ∙ ap (λ xs. xs ++ rest) t.3
    ∙ ap (λ xs. 60 ∷ xs) (append_assoc other t.1 rest) in
    let tails : f.front ++ (named ++ more) ≡ other ++ (t.1 ++ rest) = cc in
    let one = qname_part.unique name other f.front (named ++ more) other (t.1 ++ rest) here there tails in (
      t.0,
      one.0,
      t.4,
      record {
        front = t.1;
        split = append_cancel_left f.front (named ++ more) (t.1 ++ rest)
            (tails ∙ ap (λ xs. xs ++ (t.1 ++ rest)) (sym one.1));
        spelled = t.2;
      },
    )

-- a tag that was read whole
pub whole_tag : (text opened name named after : List ℕ) → text ≡ codes "<" ++ opened →
    IsFound whole_qname opened name named → (raw : RawTag) → raw.name.now ≡ name → (is_empty : Bool) →
    IsDistinct bytes_eq (names raw.attributes.items) →
    IsFound behind_name named (pairs raw.attributes.items, is_empty) after →
    (tag : Tag) × IsFound a_tag text tag after × IsTagOf tag raw × (tag.is_empty ≡ is_empty)
whole_tag text opened name named after start f raw is is_empty distinct found =
    let q = f.spelled.0 in
    let raws = raw.attributes.items in
    let D : List (List ℕ) → Type 0 = IsDistinct bytes_eq in
    let t = to_tag q f.spelled.3 (pairs raws) is_empty found.front after found.spelled
    (subst D (sym (raw_names raws)) distinct) in (
      t.tag,
      record {
        front = tag_text (name_text q) found.front;
        split = start ∙ ap (λ xs. codes "<" ++ xs)
            (f.split ∙ (λ i. (f.spelled.1 ∙ f.spelled.2) i ++ found.split i)
            ∙ sym (append_assoc (name_text q) found.front after));
        spelled = t.is;
      },
      record { name = is ∙ f.spelled.2 ∙ t.named; attributes = of_raws t.tag.attributes raws t.of },
      t.ends,
    )

behind_lives : Continues behind_name []
behind_lives = (
  codes ">",
  (([], false), [], record { front = codes ">"; split = refl; spelled = ([], [], refl, refl, refl) }),
)

-- the rest of the tag can't be read
pub broken_tag : (text opened name named : List ℕ) → text ≡ codes "<" ++ opened →
    IsFound whole_qname opened name named →
    (Continues behind_name named → ⊥) → Continues a_tag text → ⊥
broken_tag text opened name named start f none some =
    let C : List ℕ → Type 0 = Continues behind_name in
    let b = behind_tag text opened name named start f some.0 (λ over. absurd (none (subst C (sym over) behind_lives)))
    some.1.0 some.1.1 some.1.2 in
    none (some.0, ((b.0, some.1.0.is_empty), some.1.1, b.3))

-- the text isn't a whole tag
pub unfinished_tag : (text opened name named : List ℕ) → text ≡ codes "<" ++ opened →
    IsFound whole_qname opened name named → (Starts behind_name named → ⊥) → Starts a_tag text → ⊥
unfinished_tag text opened name named start f none some =
    let b = behind_tag text opened name named start f [] (λ _. refl) some.0 some.1
    (found_whole a_tag text some.0 some.1 some.2) in
    none ((b.0, some.0.is_empty), some.1, whole_found behind_name named (b.0, some.0.is_empty) some.1 b.3)

nil_list : (xs ys : List (List ℕ)) → xs ++ ys ≡ [] → xs ≡ []
nil_list [] ys e = refl
nil_list (x ∷ xs) ys e = absurd (let g : x ∷ (xs ++ ys) ≡ [] = e in cc)

all_front : (x : List ℕ) (xs ys : List (List ℕ)) → AllByRecursion (λ z. bytes_eq x z ≡ false) (xs ++ ys) →
    AllByRecursion (λ z. bytes_eq x z ≡ false) xs
all_front x [] ys all = tt
all_front x (z ∷ xs) ys all = (all.0, all_front x xs ys all.1)

distinct_front : (xs ys : List (List ℕ)) → IsDistinct bytes_eq (xs ++ ys) → IsDistinct bytes_eq xs
unfolding IsDistinct
distinct_front [] ys distinct = tt
distinct_front (x ∷ xs) ys distinct = (all_front x xs ys distinct.0, distinct_front xs ys distinct.1)

found_first : (named : List ℕ) (raws : List Raw) (is_empty : Bool) (after : List ℕ) →
    IsFound behind_name named (pairs raws, is_empty) after → HasFirst (names raws) named
found_first named raws is_empty after f =
    let b = f.spelled in
    state_has {rest = (b.1 ++ tag_end is_empty) ++ after} (record {
      front = b.0;
      split = f.split ∙ ap (λ xs. xs ++ after) b.4 ∙ append_assoc b.0 (b.1 ++ tag_end is_empty) after;
      are = b.2;
    })

nil_names : (named : List ℕ) (raws : List Raw) → HasFirst (names raws) named → named ≡ [] → names raws ≡ []
unfolding behind_lives
nil_names named raws has over =
    let F : List ℕ → Type 0 = λ xs. IsFound behind_name (xs ++ codes ">") ([], false) [] in
    let h = has (codes ">") ([], false) [] (subst F (sym over) behind_lives.1.2) in
    nil_list (names raws) h.0 (sym h.1)

-- each continuation has the names that were read
pub has_first : (named : List ℕ) (raws : List Raw) (end : TagEnd) (after : List ℕ) →
    ReadsBehindName named raws (Ok end) after → HasFirst (names raws) named
has_first named raws Whole after f = found_first named raws false after f
has_first named raws Empty after f = found_first named raws true after f
has_first named raws CutTag after f = f.1
has_first named raws CutAtSlash after f = λ more v rest found.
    ([], ap (λ x. firsts x.0) (f.2 more v rest found) ∙ raw_names raws ∙ sym (append-nil (names raws)))

-- two attributes of the tag have the same name
pub same_tag : (text opened name named : List ℕ) → text ≡ codes "<" ++ opened → IsFound whole_qname opened name named →
    (raws : List Raw) → HasFirst (names raws) named → (IsDistinct bytes_eq (names raws) → ⊥) → Continues a_tag text → ⊥
same_tag text opened name named start f raws has same some =
    let tag = some.1.0 in
    let none : named ≡ [] → some.0 ≡ [] = λ over.
    absurd (same (subst (IsDistinct bytes_eq) (sym (nil_names named raws has over)) no_names)) in
    let b = behind_tag text opened name named start f some.0 none tag some.1.1 some.1.2 in
    let h = has some.0 (b.0, tag.is_empty) some.1.1 b.3 in
    let D : List (List ℕ) → Type 0 = IsDistinct bytes_eq in
    same (distinct_front (names raws) h.0
    (subst D (same_names tag.attributes b.0 b.2 ∙ h.1) some.1.2.spelled.distinct))
