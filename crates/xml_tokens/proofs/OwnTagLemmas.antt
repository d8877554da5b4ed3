-- Tags in which a text ends, and how they can set their own prefix.
use Rattle.std.proofs.Common.{◌≡◌, ℕ, ◌+◌, ◌<◌, true, false, ◌&&◌, List, [], ◌∷◌, ◌++◌}
use Rattle.std.proofs.Common.{length, map, refl, sym, ap, subst, ◌∙◌, inl, inr, ⊎_elim, codes, arith, append_assoc}
use Rattle.std.proofs.Common.{Option, Some, None}
use Rattle.std.specs.Prelude.{Err, bytes_eq, filter_map, is_some}
use Rattle.std.specs.List.{IsDistinct, AllZip, list_any, cons_option}
use Rattle.std.proofs.lemmas.Bool.{both_ways, cases_Bool, cond-true, cond-false, false_from_ne_true, or_from, or_cases}
use Rattle.std.proofs.lemmas.Bool.{or_left, or_right}
use Rattle.std.proofs.lemmas.List.{append-nil, map-append}
use Rattle.std.proofs.lemmas.List.Folds.{list_any-append, list_all-append}
use Rattle.std.proofs.lemmas.List.{length-append}
use Rattle.std.proofs.lemmas.Slice.Eq.{bytes_eq-Decides}
use Rattle.atom_values.specs.XmlText.{IsXmlText}
use Rattle.atom_values.specs.Space.{is_space}
use Rattle.xml_tokens.specs.declared.cursor.Lapse.TheVariants.{Cut}
use Rattle.xml_tokens.specs.Characters.{QName, IsQName, IsName, IsGap, AreSpaces, name_text}
use Rattle.xml_tokens.specs.Tokens.{Attribute, AreAttributes, Tag}
use Rattle.xml_tokens.specs.Stages.{Binding, Scope, declared, namespace_of, outer_scope}
use Rattle.xml_tokens.specs.Reading.{IsFound, Starts, Reads, whole_qname, attribute_parts, are_attributes}
use Rattle.xml_tokens.specs.Reading.{a_tag, CanOwn, CanGrow}
use Rattle.xml_tokens.proofs.CursorLemmas.{written}
use Rattle.xml_tokens.proofs.NameLemmas.{name_text_one}
use Rattle.xml_tokens.proofs.PlainLemmas.{plain_nil, plain_value}
use Rattle.xml_tokens.proofs.BehindNameLemmas.{are_append, one_attribute}
use Rattle.xml_tokens.proofs.XmlLemmas.{xml_append, printable_xml, xml_before, xml_behind}
use Rattle.xml_tokens.proofs.SameNameLemmas.{distinct_more, no_names}
use Rattle.xml_tokens.proofs.TagLemmas.{IsPairOf, to_attributes, tag_text, same_names, from_tag, behind_first}
use Rattle.xml_tokens.proofs.AttributeCutLemmas.{letters, letters_printable, name_goes}

abbrev firsts : List (List ℕ × List ℕ) → List (List ℕ)
firsts read = map (λ (a : List ℕ × List ℕ). a.0) read

-- how long names are together
total : List (List ℕ) → ℕ
total [] = 0
total (x ∷ xs) = length x + total xs

longer_absent : (name : List ℕ) (xs : List (List ℕ)) → total xs < length name → list_any (bytes_eq name) xs ≡ false
unfolding total
longer_absent name [] long = refl
longer_absent name (x ∷ xs) long =
    or_from (bytes_eq name x) (list_any (bytes_eq name) xs)
    (false_from_ne_true (bytes_eq name x) (λ e. let same = ap length ((bytes_eq-Decides name x).0 e) in omega arith))
    (longer_absent name xs (omega arith))

-- the name of the attribute that declares a prefix
abbrev own_name : List ℕ → QName
own_name prefix = record { prefix = codes "xmlns"; local = prefix }

set_here : (b : Binding) (own : Scope) (prefix : List ℕ) → b.prefix ≡ prefix →
    is_some (namespace_of (b ∷ own) prefix) ≡ true
set_here b own prefix is =
    ap is_some (cond-true (bytes_eq b.prefix prefix) _ _ ((bytes_eq-Decides b.prefix prefix).1 is))

set_later : (b : Option Binding) (own s : Scope) (prefix : List ℕ) → is_some (namespace_of (own ++ s) prefix) ≡ true →
    is_some (namespace_of (cons_option b own ++ s) prefix) ≡ true
set_later None own s prefix e = e
set_later (Some b) own s prefix e =
    ⊎_elim
    (λ here. ap is_some (cond-true (bytes_eq b.prefix prefix) _ _ here))
    (λ other. ap is_some (cond-false (bytes_eq b.prefix prefix) _ _ other) ∙ e)
    (cases_Bool (bytes_eq b.prefix prefix))

declares : (a : Attribute) (prefix : List ℕ) → IsName prefix → IsQName a.name →
    name_text (own_name prefix) ≡ name_text a.name →
    (own s : Scope) → is_some (namespace_of (cons_option (declared a) own ++ s) prefix) ≡ true
declares a prefix named is e own s =
    let one = name_text_one (own_name prefix) a.name (inr refl, named) is e in
    let d : declared a ≡ Some (record { prefix = a.name.local; namespace = a.value }) =
    cond-true (bytes_eq a.name.prefix (codes "xmlns")) _ _
    ((bytes_eq-Decides a.name.prefix (codes "xmlns")).1 (sym one.0)) in
    let S : Option Binding → Type 0 = λ b. is_some (namespace_of (cons_option b own ++ s) prefix) ≡ true in
    subst S (sym d) (set_here (record { prefix = a.name.local; namespace = a.value }) (own ++ s) prefix (sym one.1))

-- an attribute that declares the prefix sets it
declared_sets : (attributes : List Attribute) (read : List (List ℕ × List ℕ)) (prefix : List ℕ) (s : Scope) →
    IsName prefix →
    AllZip IsPairOf attributes read → list_any (bytes_eq (name_text (own_name prefix))) (firsts read) ≡ true →
    is_some (namespace_of (filter_map declared attributes ++ s) prefix) ≡ true
declared_sets [] [] prefix s named of some = absurd (both_ways false refl some)
declared_sets [] (p ∷ read) prefix s named of some = absurd of
declared_sets (a ∷ attributes) [] prefix s named of some = absurd of
declared_sets (a ∷ attributes) (p ∷ read) prefix s named of some =
    let own = name_text (own_name prefix) in
    ⊎_elim
    (λ here. declares a prefix named of.0.0 ((bytes_eq-Decides own p.0).0 here ∙ of.0.1)
    (filter_map declared attributes) s)
    (λ later. set_later (declared a) (filter_map declared attributes) s prefix
    (declared_sets attributes read prefix s named of.1 later))
    (or_cases (bytes_eq own p.0) (list_any (bytes_eq own) (firsts read)) some)

-- an attribute that declares the prefix, and the white space before it
abbrev own_text : List ℕ → List ℕ
own_text prefix = name_text (own_name prefix) ++ codes "=\"\""

own_parts : (prefix : List ℕ) → IsName prefix → attribute_parts (name_text (own_name prefix), []) (own_text prefix) []
own_parts prefix named = (
  name_text (own_name prefix),
  name_text (own_name prefix),
  codes "=\"\"",
  refl,
  (own_name prefix, refl, refl, (inr refl, named), refl, (λ _. refl)),
  (
    tt,
    codes "=",
    codes "\"\"",
    refl,
    ([], [], refl, refl, refl, refl),
    (
      34,
      codes "\"",
      codes "\"",
      refl,
      (inl refl, refl),
      ([], refl, (plain_value 34 (inl refl) [] (plain_nil 34), refl)),
    ),
  ),
)

prefix_xml : (text more : List ℕ) (q : QName) → IsName q.prefix → (inside spaces : List ℕ) →
    text ++ more ≡ tag_text (name_text q) (inside ++ spaces) → IsXmlText text → IsXmlText more → IsXmlText q.prefix
prefix_xml text more q named inside spaces whole x y =
    let X : List ℕ → Type 0 = IsXmlText in
    let same : text ++ more ≡ 60 ∷ (q.prefix ++ 58 ∷ (q.local ++ (inside ++ spaces))) =
    whole ∙ ap (λ xs. 60 ∷ (xs ++ (inside ++ spaces))) (written q.prefix q.local named)
    ∙ ap (λ xs. 60 ∷ xs) (append_assoc q.prefix (58 ∷ q.local) (inside ++ spaces)) in
    xml_before 58 q.prefix (q.local ++ (inside ++ spaces)) (omega arith)
    (xml_behind 60 (q.prefix ++ 58 ∷ (q.local ++ (inside ++ spaces))) (omega arith)
    (subst X same (xml_append text more x y)))

-- the tag is finished, where its prefix is set
record Finished (text : List ℕ) (q : QName) (read : List (List ℕ × List ℕ)) (inside spaces more : List ℕ) : Type 0 where
  are : are_attributes read inside
  are_spaces : AreSpaces spaces
  distinct : IsDistinct bytes_eq (firsts read)
  whole : text ++ more ≡ tag_text (name_text q) (inside ++ spaces)
  xml : IsXmlText text → IsXmlText more

own_set : {text more : List ℕ} {q : QName} {read : List (List ℕ × List ℕ)} {inside spaces : List ℕ} → IsQName q →
    Finished text q read inside spaces more → (attributes : List Attribute) → AreAttributes attributes inside →
    AllZip IsPairOf attributes read →
    is_some (namespace_of (filter_map declared attributes ++ outer_scope) q.prefix) ≡ true → CanOwn text
own_set {text} {more} {q} {read} {inside} {spaces} is f attributes are of set =
    let D : List (List ℕ) → Type 0 = IsDistinct bytes_eq in
    record {
      more = more ++ codes "/>";
      tag = record { name = q; attributes = attributes; is_empty = true };
      xml = λ x. xml_append more (codes "/>") (f.xml x) (printable_xml (codes "/>") refl);
      is_tag = record {
        name = is;
        inside = inside;
        spaces = spaces;
        attributes = are;
        distinct = subst D (sym (same_names attributes read of)) f.distinct;
        are_spaces = f.are_spaces;
        spelled = sym (append_assoc text more (codes "/>")) ∙ ap (λ xs. xs ++ codes "/>") f.whole ∙ simp append_assoc;
      };
      set = set;
    }

-- the tag declares its prefix
own_more : {text more : List ℕ} {q : QName} {read : List (List ℕ × List ℕ)} {inside spaces : List ℕ} → IsQName q →
    IsName q.prefix → Finished text q read inside spaces more →
    list_any (bytes_eq (name_text (own_name q.prefix))) (firsts read) ≡ false → CanOwn text
own_more {text} {more} {q} {read} {inside} {spaces} is named f absent =
    let pair : List ℕ × List ℕ = (name_text (own_name q.prefix), []) in
    let gap = spaces ++ codes " " in
    let is_gap : IsGap gap = (
      list_all-append is_space spaces (codes " ") ∙ ap (λ b. b && true) f.are_spaces,
      (λ e. let long = ap length e in omega (arith, length-append spaces (codes " "))),
    ) in
    let one = own_parts q.prefix named in
    let are = are_append read (pair ∷ []) inside (gap ++ own_text q.prefix) f.are
    (one_attribute pair gap (own_text q.prefix) is_gap one) in
    let all = read ++ pair ∷ [] in
    let inside2 = inside ++ (gap ++ own_text q.prefix) in
    let a = to_attributes all inside2 are in
    let D : List (List ℕ) → Type 0 = IsDistinct bytes_eq in
    let firsts_all = map-append (λ (p : List ℕ × List ℕ). p.0) read (pair ∷ []) in
    let g : Finished text q all inside2 [] (more ++ (codes " " ++ own_text q.prefix)) = record {
      are = are;
      are_spaces = refl;
      distinct = subst D (sym firsts_all)
          (distinct_more (firsts read) (name_text (own_name q.prefix)) f.distinct absent);
      whole = sym (append_assoc text more (codes " " ++ own_text q.prefix))
          ∙ ap (λ xs. xs ++ (codes " " ++ own_text q.prefix)) f.whole
          ∙ simp (append_assoc, append-nil);
      xml = λ x.
          let prefix = prefix_xml text more q named inside spaces f.whole x (f.xml x) in
          xml_append more (codes " " ++ own_text q.prefix) (f.xml x)
          (xml_append (codes " xmlns:") (q.prefix ++ codes "=\"\"") (printable_xml (codes " xmlns:") refl)
          (xml_append q.prefix (codes "=\"\"") prefix (printable_xml (codes "=\"\"") refl)));
    } in
    let present : list_any (bytes_eq (name_text (own_name q.prefix))) (firsts all) ≡ true =
    ap (list_any (bytes_eq (name_text (own_name q.prefix)))) firsts_all
    ∙ list_any-append (bytes_eq (name_text (own_name q.prefix))) (firsts read) (name_text (own_name q.prefix) ∷ [])
    ∙ or_right (list_any (bytes_eq (name_text (own_name q.prefix))) (firsts read)) _
    (or_left (bytes_eq (name_text (own_name q.prefix)) (name_text (own_name q.prefix))) false
    ((bytes_eq-Decides (name_text (own_name q.prefix)) (name_text (own_name q.prefix))).1 refl)) in
    own_set is g a.attributes a.are a.of (declared_sets a.attributes all q.prefix outer_scope named a.of present)

outer_empty : (own : Scope) → is_some (namespace_of (own ++ outer_scope) []) ≡ true
outer_empty [] = refl
outer_empty (b ∷ own) = set_later (Some b) own outer_scope [] (outer_empty own)

-- the tag can be finished, and can set its prefix
pub can_own : (text more : List ℕ) (q : QName) → IsQName q → (read : List (List ℕ × List ℕ)) (inside spaces : List ℕ) →
    are_attributes read inside → AreSpaces spaces → IsDistinct bytes_eq (firsts read) →
    text ++ more ≡ tag_text (name_text q) (inside ++ spaces) → (IsXmlText text → IsXmlText more) → CanOwn text
can_own text more q is read inside spaces are are_spaces distinct whole xml =
    let f : Finished text q read inside spaces more = record {
      are = are;
      are_spaces = are_spaces;
      distinct = distinct;
      whole = whole;
      xml = xml;
    } in
    let a = to_attributes read inside are in
    let own = filter_map declared a.attributes in
    let own_list = list_any (bytes_eq (name_text (own_name q.prefix))) (firsts read) in
    let S : List ℕ → Type 0 = λ p. is_some (namespace_of (own ++ outer_scope) p) ≡ true in
    ⊎_elim
    (λ none. own_set is f a.attributes a.are a.of (subst S (sym none) (outer_empty own)))
    (λ named. ⊎_elim
    (λ present. own_set is f a.attributes a.are a.of
    (declared_sets a.attributes read q.prefix outer_scope named a.of present))
    (λ absent. own_more is named f absent)
    (cases_Bool own_list))
    is.0

-- a tag in whose attributes the text ends
pub own_grow : (text opened name named : List ℕ) → text ≡ codes "<" ++ opened → IsFound whole_qname opened name named →
    (raws : List (List ℕ)) → IsDistinct bytes_eq raws → ((n : ℕ) → CanGrow n raws named) → CanOwn text
own_grow text opened name named start f raws distinct grow =
    let q = f.spelled.0 in
    let g = grow (total raws) in
    let D : List (List ℕ) → Type 0 = IsDistinct bytes_eq in
    let apart : IsDistinct bytes_eq (firsts g.read) = ⊎_elim
    (λ same. subst D (sym same) distinct)
    (λ new. subst D (sym new.2) (distinct_more raws new.0 distinct (longer_absent new.0 raws new.1)))
    g.has in
    can_own text g.more q f.spelled.3 g.read g.inside g.spaces g.are g.are_spaces apart
    (ap (λ xs. xs ++ g.more) (start ∙ ap (λ xs. codes "<" ++ xs) f.split)
    ∙ ap (λ xs. 60 ∷ xs) (append_assoc f.front named g.more)
    ∙ (λ i. 60 ∷ ((f.spelled.1 ∙ f.spelled.2) i ++ g.split i)))
    (λ x. g.xml)

-- a tag in whose name the text ends
pub own_name_cut : (text opened end : List ℕ) → text ≡ codes "<" ++ opened → Reads whole_qname opened (Err Cut) end →
    CanOwn text
own_name_cut text opened end start cut =
    let r = name_goes opened end cut 0 in
    can_own text (letters 1) r.0 r.1 [] [] [] refl refl no_names
    (ap (λ xs. xs ++ letters 1) start ∙ ap (λ xs. 60 ∷ xs) (r.2 ∙ sym (append-nil (name_text r.0))))
    (λ x. printable_xml (letters 1) (letters_printable 1))

-- no tag begins with a name that isn't whole
pub unnamed_tag : (text opened : List ℕ) → text ≡ codes "<" ++ opened → (more : List ℕ) (tag : Tag) (rest : List ℕ) →
    IsFound a_tag (text ++ more) tag rest → Starts whole_qname (opened ++ more)
unnamed_tag text opened start more tag rest found =
    let t = from_tag tag found.front rest found.spelled in
    let other = name_text tag.name in
    let first = behind_first t.0 tag.is_empty t.1 rest t.2 in
    let whole : 60 ∷ (opened ++ more) ≡ 60 ∷ (other ++ (t.1 ++ rest)) =
    ap (λ xs. xs ++ more) (sym start) ∙ found.split ∙ ap (λ xs. xs ++ rest) t.3
    ∙ ap (λ xs. 60 ∷ xs) (append_assoc other t.1 rest) in
    let tails : opened ++ more ≡ other ++ (t.1 ++ rest) = cc in (
      other,
      t.1 ++ rest,
      record {
        front = other;
        split = tails;
        spelled = (tag.name, refl, refl, found.spelled.name, first.0, (λ _. first.1));
      },
    )
