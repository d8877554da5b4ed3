-- The kinds of parts of an item: anything may follow each, and each is read in one way.
use Rattle.std.proofs.Common.{◌≡◌, ℕ, Bool, true, false, cond, List, [], ◌∷◌, ◌++◌, Option, Some, None, IfSome, refl, sym, ap, subst, ◌∙◌, append_assoc, arith}
use lib.Utf8.{encode}
use Rattle.std.specs.Str.{is_utf8, chars}
use Rattle.std.specs.Prelude.{codes, flat_map, bytes_eq, IsTrue}
use Rattle.std.proofs.lemmas.Bool.{cond-false}
use Rattle.std.proofs.lemmas.Slice.Eq.{bytes_eq-Decides}
use Rattle.std.proofs.lemmas.List.{append_cancel_left}
use Rattle.atom_values.specs.declared.category.Category.{Category}
use Rattle.atom_values.specs.declared.link.Link.{Link}
use Rattle.atom_values.specs.declared.text.TextKind.{TextKind}
use Rattle.atom_values.specs.declared.text.TextKind.TheVariants.{Plain, Html}
use Rattle.atom_values.specs.Escape.{escaped}
use Rattle.atom_values.specs.XmlText.{IsAtomText, is_xml_text}
use Rattle.atom_writer.specs.Parts.{attribute as attribute_text, optional_attribute as optional_attribute_text, relation_text as written_relation, link_text, category_text}
use Rattle.atom_grammar.specs.Parts.{Part, IsFound, IsAbsent, IsReadAlone, BeginsWithByte, starts, literal, content, quoted, moment, both, behind, ended, optional, many, alone}
use Rattle.atom_grammar.specs.Items.{element, attribute, date, kind, construct_parts, construct, person_parts, person, persons, relation_text, relation, optional_attribute, link_parts, link, category_parts, category, links, categories}
use Rattle.atom_grammar.proofs.ReadingLemmas.{IsClosed, Starts, found, Renames, renamed_found, renamed_refused, renamed_alone, alone_closed, closed_alone, both_alone, behind_alone, ended_alone, optional_alone, starts_append}
use Rattle.atom_grammar.proofs.ManyLemmas.{many_alone}
use Rattle.atom_grammar.proofs.TextLemmas.{starts_split, content_alone, quoted_alone, moment_alone}

-- an end tag begins so
pub record IsEnd (end : List ℕ) : Type 0 where
  pub more : List ℕ
  pub is : end ≡ 60 ∷ 47 ∷ more

pub end_tag : (end : List ℕ) → IsTrue (starts (codes "</") end) → IsEnd end
end_tag end h = let p = starts_split (codes "</") end h in record { more = p.0; is = p.1 }

end_begins : (end rest : List ℕ) → IsEnd end → BeginsWithByte 60 (end ++ rest)
end_begins end rest is = (47 ∷ is.more ++ rest, ap (λ x. x ++ rest) is.is)

pub element_ends : (start end : List ℕ) → IsEnd end → IsClosed (ended (behind start content) end)
unfolding ended behind content
element_ends start end is rest = end_begins end rest is

pub element_alone : (start end : List ℕ) → IsEnd end → IsReadAlone (element start end)
element_alone start end is =
    closed_alone _ (element_ends start end is)
    (ended_alone (behind start content) end (behind_alone start content content_alone))

pub attribute_ends : (start : List ℕ) → IsClosed (ended (behind start quoted) (codes "\""))
unfolding ended behind quoted
attribute_ends start rest = (rest, refl)

pub attribute_alone : (start : List ℕ) → IsReadAlone (attribute start)
attribute_alone start =
    closed_alone _ (attribute_ends start)
    (ended_alone (behind start quoted) (codes "\"") (behind_alone start quoted quoted_alone))

pub date_ends : (start end : List ℕ) → IsClosed (ended (behind start moment) end)
unfolding ended behind moment
date_ends start end rest = tt

pub date_alone : (start end : List ℕ) → IsReadAlone (date start end)
date_alone start end =
    closed_alone _ (date_ends start end)
    (ended_alone (behind start moment) end (behind_alone start moment moment_alone))

-- each begins with its start
between_starts : (start middle end rest : List ℕ) → starts start (((start ++ middle) ++ end) ++ rest) ≡ true
between_starts start middle end rest =
    ap (starts start) (append_assoc (start ++ middle) end rest ∙ append_assoc start middle (end ++ rest))
    ∙ starts_append start (middle ++ (end ++ rest))

pub element_starts : (start end : List ℕ) → Starts start (element start end)
unfolding alone ended behind content
element_starts start end v rest _ = between_starts start (escaped false v) end rest

pub attribute_starts : (start : List ℕ) → Starts start (attribute start)
unfolding alone ended behind quoted
attribute_starts start v rest _ = between_starts start (escaped true v) (codes "\"") rest

pub date_starts : (start end : List ℕ) → Starts start (date start end)
unfolding alone ended behind moment
date_starts start end v rest _ = between_starts start (moment.text v) end rest

pub optional_attribute_alone : (start : List ℕ) → IsReadAlone (optional_attribute start)
optional_attribute_alone start =
    optional_alone start (attribute start) (alone_closed _) (attribute_starts start) (attribute_alone start)

pub optional_element_alone : (start end : List ℕ) → IsEnd end → IsReadAlone (optional start (element start end))
optional_element_alone start end is =
    optional_alone start (element start end) (alone_closed _) (element_starts start end) (element_alone start end is)

pub optional_date_alone : (start end : List ℕ) → IsReadAlone (optional start (date start end))
optional_date_alone start end =
    optional_alone start (date start end) (alone_closed _) (date_starts start end) (date_alone start end)

-- the text after an optional part, or a list, doesn't begin with these bytes, and no part in it does
pub optional_skips : {A : Type 0} (bytes start : List ℕ) (part : Part A)
    → ((v : A) (rest : List ℕ) → starts bytes (part.text v ++ rest) ≡ false) → (o : Option A) (rest : List ℕ)
    → starts bytes rest ≡ false → starts bytes ((optional start part).text o ++ rest) ≡ false
unfolding optional
optional_skips bytes start part other None rest h = h
optional_skips bytes start part other (Some v) rest h = other v rest

pub many_skips : {A : Type 0} (bytes : List ℕ) (most : ℕ) (start : List ℕ) (part : Part A)
    → ((v : A) (rest : List ℕ) → starts bytes (part.text v ++ rest) ≡ false) → (vs : List A) (rest : List ℕ)
    → starts bytes rest ≡ false → starts bytes ((many most start part).text vs ++ rest) ≡ false
unfolding many
many_skips bytes most start part other [] rest h = h
many_skips bytes most start part other (v ∷ vs) rest h =
    ap (starts bytes) (append_assoc (part.text v) (flat_map part.text vs) rest)
    ∙ other v (flat_map part.text vs ++ rest)

kind_cases : (v w : TextKind) (rest left : List ℕ) → starts (codes " type=\"html\"") rest ≡ false
    → starts (codes " type=\"html\"") left ≡ false → kind.text v ++ rest ≡ kind.text w ++ left
    → (v ≡ w) × (rest ≡ left)
unfolding kind
kind_cases Plain Plain rest left a b e = (refl, e)
kind_cases Plain Html rest left a b e =
    absurd (let h : true ≡ false = sym (starts_append (codes " type=\"html\"") left)
    ∙ ap (starts (codes " type=\"html\"")) (sym e) ∙ a in cc)
kind_cases Html Plain rest left a b e =
    absurd (let h : true ≡ false = sym (starts_append (codes " type=\"html\"") rest)
    ∙ ap (starts (codes " type=\"html\"")) e ∙ b in cc)
kind_cases Html Html rest left a b e = (refl, append_cancel_left (codes " type=\"html\"") rest left e)

pub kind_alone : IsReadAlone kind
unfolding kind
kind_alone v w rest left _ _ a b e = kind_cases v w rest left a b e

html_only : (input rest : List ℕ) → input ≡ codes " type=\"html\"" ++ rest → (other : TextKind) (left : List ℕ)
    → starts (codes " type=\"html\"") left ≡ false → input ≡ kind.text other ++ left → (Html ≡ other) × (rest ≡ left)
unfolding kind
html_only input rest split Plain left before e =
    absurd (let h : true ≡ false = sym (starts_append (codes " type=\"html\"") rest)
    ∙ ap (starts (codes " type=\"html\"")) (sym split ∙ e) ∙ before in cc)
html_only input rest split Html left before e =
    (refl, append_cancel_left (codes " type=\"html\"") rest left (sym split ∙ e))

-- a test that decides which part comes next
pub kind_plain : (input : List ℕ) → starts (codes " type=\"html\"") input ≡ false → IsFound kind input Plain input
unfolding kind
kind_plain input h = found kind kind_alone input Plain input tt h refl

pub kind_html : (input rest : List ℕ) → IsFound (literal (codes " type=\"html\"")) input tt rest
    → IsFound kind input Html rest
unfolding kind literal
kind_html input rest f = record {
  lawful = tt;
  split = f.split;
  only = λ other left _ before e. html_only input rest f.split other left before e;
}

pub kind_absent : (input : List ℕ) → starts (codes " type=\"html\"") input ≡ true
    → IsAbsent (literal (codes " type=\"html\"")) input → IsAbsent kind input
unfolding literal
kind_absent input there none other left _ _ e = let p = starts_split (codes " type=\"html\"") input there in
    none tt p.0 tt tt p.1

-- a text construct
pub construct_ends : (start end : List ℕ) → IsEnd end → IsClosed (construct_parts start end)
unfolding ended both behind kind content
construct_ends start end is rest = (end_begins end rest is, λ v _. refl)

pub construct_parts_alone : (start end : List ℕ) → IsReadAlone (construct_parts start end)
construct_parts_alone start end =
    ended_alone _ end
    (both_alone _ content (ended_alone _ (codes ">") (behind_alone start kind kind_alone)) content_alone)

pub construct_renames : (start end : List ℕ) → IsEnd end
    → Renames (construct_parts start end) (construct start end) (λ _. Unit {0})
    (λ p. record { kind = p.0; value = p.1 }) (λ t. (t.kind, t.value))
unfolding construct ended both behind kind content
construct_renames start end is = record {
  is = λ p law _. law.1;
  text = λ p _ _. refl;
  was = λ t law. (tt, law);
  keeps = λ t _. tt;
  same = λ t _. refl;
  again = λ t _. refl;
  before = λ rest _. construct_ends start end is rest;
}

pub construct_alone : (start end : List ℕ) → IsEnd end → IsReadAlone (construct start end)
construct_alone start end is =
    renamed_alone _ _ _ _ _ (construct_renames start end is) (construct_parts_alone start end)

pub construct_closed : (start end : List ℕ) → IsClosed (construct start end)
unfolding construct
construct_closed start end rest = tt

pub construct_starts : (start end : List ℕ) → Starts start (construct start end)
unfolding construct ended both behind kind content
construct_starts start end t rest _ =
    ap (starts start) (append_assoc _ end rest ∙ append_assoc _ (escaped false t.value) (end ++ rest)
    ∙ append_assoc _ (codes ">") _ ∙ append_assoc start (kind.text t.kind) _)
    ∙ starts_append start _

pub optional_construct_alone : (start end : List ℕ) → IsEnd end → IsReadAlone (optional start (construct start end))
optional_construct_alone start end is =
    optional_alone start (construct start end) (construct_closed start end) (construct_starts start end)
    (construct_alone start end is)

-- a person
pub person_ends : (start end : List ℕ) → IsEnd end → IsClosed (person_parts start end)
unfolding ended both behind optional alone content
person_ends start end is rest =
    let other : (bytes : List ℕ) → starts bytes (60 ∷ 47 ∷ is.more ++ rest) ≡ false
    → starts bytes (end ++ rest) ≡ false = λ bytes h. ap (λ x. starts bytes (x ++ rest)) is.is ∙ h in (
      other (codes "<email>") refl,
      λ e _. (
        optional_skips (codes "<uri>") (codes "<email>") (element (codes "<email>") (codes "</email>")) (λ v r. refl)
            e (end ++ rest) (other (codes "<uri>") refl),
        λ u _. tt,
      ),
    )

pub person_parts_alone : (start end : List ℕ) → IsReadAlone (person_parts start end)
person_parts_alone start end =
    ended_alone _ end
    (both_alone _ _
    (both_alone _ _
    (behind_alone start _ (element_alone (codes "<name>") (codes "</name>") (end_tag (codes "</name>") refl)))
    (optional_element_alone (codes "<uri>") (codes "</uri>") (end_tag (codes "</uri>") refl)))
    (optional_element_alone (codes "<email>") (codes "</email>") (end_tag (codes "</email>") refl)))

pub person_renames : (start end : List ℕ) → IsEnd end
    → Renames (person_parts start end) (person start end) (λ _. Unit {0})
    (λ p. record { name = p.0.0; uri = p.0.1; email = p.1 }) (λ p. ((p.name, p.uri), p.email))
unfolding person ended both behind optional alone content
person_renames start end is = record {
  is = λ p law _. record { name = law.0.0; uri = law.0.1; email = law.1 };
  text = λ p _ _. refl;
  was = λ p law. ((law.name, law.uri), law.email);
  keeps = λ p _. tt;
  same = λ p _. refl;
  again = λ p _. refl;
  before = λ rest _. person_ends start end is rest;
}

pub person_alone : (start end : List ℕ) → IsEnd end → IsReadAlone (person start end)
person_alone start end is = renamed_alone _ _ _ _ _ (person_renames start end is) (person_parts_alone start end)

pub person_closed : (start end : List ℕ) → IsClosed (person start end)
unfolding person
person_closed start end rest = tt

both_starts : {A B : Type 0} (bytes : List ℕ) (first : Part A) (second : Part B) → Starts bytes first
    → Starts bytes (both first second)
unfolding both
both_starts bytes first second begins v rest is =
    ap (starts bytes) (append_assoc (first.text v.0) (second.text v.1) rest) ∙ begins v.0 (second.text v.1 ++ rest) is.0

ended_starts : {A : Type 0} (bytes : List ℕ) (part : Part A) (end : List ℕ) → Starts bytes part
    → Starts bytes (ended part end)
unfolding ended
ended_starts bytes part end begins v rest is =
    ap (starts bytes) (append_assoc (part.text v) end rest) ∙ begins v (end ++ rest) is

behind_starts : {A : Type 0} (bytes : List ℕ) (part : Part A) → Starts bytes (behind bytes part)
unfolding behind
behind_starts bytes part v rest is =
    ap (starts bytes) (append_assoc bytes (part.text v) rest) ∙ starts_append bytes (part.text v ++ rest)

pub renamed_starts : {A B : Type 0} (bytes : List ℕ) (from : Part B) (to : Part A) (Keeps : B → Type 0) (there : B
    → A) (back : A → B) → Renames from to Keeps there back → Starts bytes from → Starts bytes to
renamed_starts bytes from to Keeps there back r begins v rest is =
    ap (λ x. starts bytes (x ++ rest)) (r.same v is) ∙ begins (back v) rest (r.was v is)

pub person_starts : (start end : List ℕ) → IsEnd end → Starts start (person start end)
person_starts start end is =
    renamed_starts start _ _ _ _ _ (person_renames start end is)
    (ended_starts start _ end (both_starts start _ _ (both_starts start _ _ (behind_starts start _))))

pub persons_alone : (start end : List ℕ) → IsEnd end → IsReadAlone (persons start end)
persons_alone start end is =
    many_alone 16 start (person start end) (person_closed start end) (person_starts start end is)
    (person_alone start end is)

-- a link
alternate_text : IsAtomText (codes "alternate")
unfolding is_xml_text is_utf8 chars encode
alternate_text = record { short = omega arith; xml = refl }

-- the relation of a link, by the attribute
abbrev pub relation_there : Option (List ℕ) → List ℕ
relation_there None = codes "alternate"
relation_there (Some rel) = rel

abbrev pub relation_back : List ℕ → Option (List ℕ)
relation_back rel = cond (bytes_eq rel (codes "alternate")) None (Some rel)

abbrev pub IsWritten : Option (List ℕ) → Type 0
IsWritten None = Unit {0}
IsWritten (Some rel) = bytes_eq rel (codes "alternate") ≡ false

relation_is : (o : Option (List ℕ)) → IfSome o IsAtomText → IsAtomText (relation_there o)
relation_is None is = alternate_text
relation_is (Some rel) is = is

relation_text_is : (o : Option (List ℕ)) → IsWritten o
    → (optional_attribute (codes " rel=\"")).text o ≡ relation_text (relation_there o)
unfolding optional
relation_text_is None k = refl
relation_text_is (Some rel) k =
    sym (cond-false (bytes_eq rel (codes "alternate")) [] ((attribute (codes " rel=\"")).text rel) k)

back_is : (rel : List ℕ) (b : Bool) → IsAtomText rel → IfSome (cond b None (Some rel)) IsAtomText
back_is rel true is = tt
back_is rel false is = is

back_keeps : (rel : List ℕ) (b : Bool) → bytes_eq rel (codes "alternate") ≡ b → IsWritten (cond b None (Some rel))
back_keeps rel true e = tt
back_keeps rel false e = e

back_same : (rel : List ℕ) (b : Bool)
    → cond b [] ((attribute (codes " rel=\"")).text rel) ≡ (optional_attribute (codes " rel=\"")).text
    (cond b None (Some rel))
unfolding optional
back_same rel true = refl
back_same rel false = refl

back_again : (rel : List ℕ) (b : Bool) → bytes_eq rel (codes "alternate") ≡ b
    → relation_there (cond b None (Some rel)) ≡ rel
back_again rel true e = sym ((bytes_eq-Decides rel (codes "alternate")).0 e)
back_again rel false e = refl

pub relation_renames : Renames (optional_attribute (codes " rel=\"")) relation IsWritten relation_there relation_back
unfolding relation optional alone ended behind quoted
relation_renames = record {
  is = λ o law k. relation_is o law;
  text = λ o _ k. relation_text_is o k;
  was = λ rel law. back_is rel (bytes_eq rel (codes "alternate")) law;
  keeps = λ rel _. back_keeps rel (bytes_eq rel (codes "alternate")) refl;
  same = λ rel _. back_same rel (bytes_eq rel (codes "alternate"));
  again = λ rel _. back_again rel (bytes_eq rel (codes "alternate")) refl;
  before = λ rest h. h;
}

-- the relation, by its attribute
pub relation_none : (input rest text : List ℕ) (o : Option (List ℕ))
    → IsFound
    (optional_attribute
    (codes " rel=\"")) input o rest → o ≡ None → text ≡ codes "alternate" → IsFound relation input text rest
relation_none input rest text o f e is =
    let P : Option (List ℕ) → Type 0 = λ x. IsFound (optional_attribute (codes " rel=\"")) input x rest in
    let Q : List ℕ → Type 0 = λ x. IsFound relation input x rest in
    subst Q (sym is) (renamed_found _ _ _ _ _ relation_renames input rest None (subst P e f) tt)

pub relation_some : (input rest text : List ℕ) (o : Option (List ℕ))
    → IsFound
    (optional_attribute
    (codes
    " rel=\"")) input o rest → o ≡ Some text → bytes_eq text (codes "alternate") ≡ false
    → IsFound relation input text rest
relation_some input rest text o f e other =
    let P : Option (List ℕ) → Type 0 = λ x. IsFound (optional_attribute (codes " rel=\"")) input x rest in
    renamed_found _ _ _ _ _ relation_renames input rest (Some text) (subst P e f) other

pub relation_refused : (input rest text : List ℕ) (o : Option (List ℕ))
    → IsFound
    (optional_attribute
    (codes
    " rel=\"")) input o rest → o ≡ Some text → bytes_eq text (codes "alternate") ≡ true → IsAbsent relation input
relation_refused input rest text o f e same =
    let P : Option (List ℕ) → Type 0 = λ x. IsFound (optional_attribute (codes " rel=\"")) input x rest in
    renamed_refused _ _ _ _ _ relation_renames input rest (Some text) (subst P e f) (λ k. let h : true ≡ false =
    sym same ∙ k in cc)

pub relation_alone : IsReadAlone relation
relation_alone = renamed_alone _ _ _ _ _ relation_renames (optional_attribute_alone (codes " rel=\""))

attribute_skips : (bytes start : List ℕ) → ((rest : List ℕ) → starts bytes (start ++ rest) ≡ false)
    → (v rest : List ℕ) → starts bytes ((attribute start).text v ++ rest) ≡ false
unfolding alone ended behind quoted
attribute_skips bytes start other v rest =
    ap (starts bytes)
    (append_assoc (start ++ escaped true v)
    (codes "\"") rest ∙ append_assoc start (escaped true v) (codes "\"" ++ rest))
    ∙ other (escaped true v ++ (codes "\"" ++ rest))

-- an optional attribute has another name than this one
later : (bytes start : List ℕ) → ((rest : List ℕ) → starts bytes (start ++ rest) ≡ false)
    → (o : Option (List ℕ)) (rest : List ℕ) → starts bytes rest ≡ false
    → starts bytes ((optional_attribute start).text o ++ rest) ≡ false
later bytes start other o rest h =
    optional_skips bytes start (attribute start) (attribute_skips bytes start other) o rest h

pub link_ends : IsClosed link_parts
unfolding ended both behind optional alone relation
link_ends rest =
    let end : List ℕ = codes "/>" ++ rest in
    let type : List ℕ = codes " type=\"" in
    let lang : List ℕ = codes " hreflang=\"" in
    let title : List ℕ = codes " title=\"" in
    let size : List ℕ = codes " length=\"" in (
      refl,
      λ n _. (
        later title size (λ _. refl) n end refl,
        λ t _. (
          later lang title (λ _. refl) t _ (later lang size (λ _. refl) n end refl),
          λ h _. (
            later type lang (λ _. refl) h _ (later type title (λ _. refl) t _ (later type size (λ _. refl) n end refl)),
            λ m _. (
              tt,
              λ href _. attribute_skips (codes " rel=\"") (codes " href=\"") (λ _. refl) href
                  ((optional_attribute type).text m
                  ++ ((optional_attribute lang).text h
                  ++ ((optional_attribute title).text t ++ ((optional_attribute size).text n ++ end)))),
            ),
          ),
        ),
      ),
    )

pub link_parts_alone : IsReadAlone link_parts
link_parts_alone =
    ended_alone _ (codes "/>") (both_alone _ _ (both_alone _ _ (both_alone _ _ (both_alone _ _ (both_alone _ _
    (behind_alone (codes "<link") _ relation_alone) (attribute_alone (codes " href=\"")))
    (optional_attribute_alone (codes " type=\""))) (optional_attribute_alone (codes " hreflang=\"")))
    (optional_attribute_alone (codes " title=\""))) (optional_attribute_alone (codes " length=\"")))

optional_attribute_same : (name start : List ℕ) → ((v : List ℕ) → attribute_text name v ≡ (attribute start).text v)
    → (o : Option (List ℕ)) → optional_attribute_text name o ≡ (optional_attribute start).text o
unfolding optional_attribute_text optional
optional_attribute_same name start same None = refl
optional_attribute_same name start same (Some v) = same v

written_same : (l : Link) → written_relation l ≡ relation_text l.rel
unfolding written_relation attribute_text alone ended behind quoted
written_same l = refl

link_same : (l : Link) → link_text l ≡ link_parts.text (((((l.rel, l.href), l.media), l.hreflang), l.title), l.length)
unfolding link_text ended both behind relation attribute_text alone quoted
link_same l =
    let r = written_same l in
    let m = optional_attribute_same (codes "type") (codes " type=\"") (λ v. refl) l.media in
    let h = optional_attribute_same (codes "hreflang") (codes " hreflang=\"") (λ v. refl) l.hreflang in
    let t = optional_attribute_same (codes "title") (codes " title=\"") (λ v. refl) l.title in
    let n = optional_attribute_same (codes "length") (codes " length=\"") (λ v. refl) l.length in
    λ i. codes "<link" ++ r i ++ attribute_text (codes "href") l.href ++ m i ++ h i ++ t i ++ n i ++ codes "/>"

pub link_renames : Renames link_parts link (λ _. Unit {0}) (λ p. record {
  href = p.0.0.0.0.1;
  rel =
      p.0.0.0.0.0;
  media = p.0.0.0.1;
  hreflang = p.0.0.1;
  title = p.0.1;
  length = p.1;
})
    (λ l. (((((l.rel, l.href), l.media), l.hreflang), l.title), l.length))
unfolding link ended both behind optional alone relation quoted
link_renames = record {
  is =
      λ p law _. record {
        href = law.0.0.0.0.1;
        rel = law.0.0.0.0.0;
        media = law.0.0.0.1;
        hreflang =
            law.0.0.1;
        title = law.0.1;
        length = law.1;
      };
  text =
      λ p _ _. sym (link_same record {
        href = p.0.0.0.0.1;
        rel = p.0.0.0.0.0;
        media = p.0.0.0.1;
        hreflang =
            p.0.0.1;
        title = p.0.1;
        length = p.1;
      });
  was = λ l law. (((((law.rel, law.href), law.media), law.hreflang), law.title), law.length);
  keeps = λ l _. tt;
  same = λ l _. link_same l;
  again = λ l _. refl;
  before = λ rest _. link_ends rest;
}

pub link_alone : IsReadAlone link
link_alone = renamed_alone _ _ _ _ _ link_renames link_parts_alone

pub link_closed : IsClosed link
unfolding link
link_closed rest = tt

pub link_starts : Starts (codes "<link") link
link_starts =
    renamed_starts (codes "<link") _ _ _ _ _ link_renames
    (ended_starts (codes "<link") _ (codes "/>")
    (both_starts (codes "<link") _ _
    (both_starts (codes "<link") _ _
    (both_starts (codes "<link") _ _
    (both_starts (codes "<link") _ _ (both_starts (codes "<link") _ _ (behind_starts (codes "<link") _)))))))

pub links_alone : IsReadAlone links
links_alone = many_alone 32 (codes "<link") link link_closed link_starts link_alone

-- a category
pub category_ends : IsClosed category_parts
unfolding ended both behind optional alone
category_ends rest =
    (refl, λ l _. (later (codes " scheme=\"") (codes " label=\"") (λ _. refl) l (codes "/>" ++ rest) refl, λ s _. tt))

pub category_parts_alone : IsReadAlone category_parts
category_parts_alone =
    ended_alone _ (codes "/>")
    (both_alone _ _ (both_alone _ _ (behind_alone (codes "<category") _ (attribute_alone (codes " term=\"")))
    (optional_attribute_alone (codes " scheme=\""))) (optional_attribute_alone (codes " label=\"")))

category_same : (k : Category) → category_text k ≡ category_parts.text ((k.term, k.scheme), k.label)
unfolding category_text ended both behind attribute_text alone quoted
category_same k =
    let s = optional_attribute_same (codes "scheme") (codes " scheme=\"") (λ v. refl) k.scheme in
    let l = optional_attribute_same (codes "label") (codes " label=\"") (λ v. refl) k.label in
    λ i. codes "<category" ++ attribute_text (codes "term") k.term ++ s i ++ l i ++ codes "/>"

pub category_renames : Renames category_parts category (λ _. Unit {0})
    (λ p. record { term = p.0.0; scheme = p.0.1; label = p.1 }) (λ k. ((k.term, k.scheme), k.label))
unfolding category ended both behind optional alone quoted
category_renames = record {
  is = λ p law _. record { term = law.0.0; scheme = law.0.1; label = law.1 };
  text = λ p _ _. sym (category_same record { term = p.0.0; scheme = p.0.1; label = p.1 });
  was = λ k law. ((law.term, law.scheme), law.label);
  keeps = λ k _. tt;
  same = λ k _. category_same k;
  again = λ k _. refl;
  before = λ rest _. category_ends rest;
}

pub category_alone : IsReadAlone category
category_alone = renamed_alone _ _ _ _ _ category_renames category_parts_alone

pub category_closed : IsClosed category
unfolding category
category_closed rest = tt

pub category_starts : Starts (codes "<category") category
category_starts =
    renamed_starts (codes "<category") _ _ _ _ _ category_renames
    (ended_starts (codes "<category") _ (codes "/>")
    (both_starts (codes "<category") _ _
    (both_starts (codes "<category") _ _ (behind_starts (codes "<category") _))))

pub categories_alone : IsReadAlone categories
categories_alone = many_alone 64 (codes "<category") category category_closed category_starts category_alone
