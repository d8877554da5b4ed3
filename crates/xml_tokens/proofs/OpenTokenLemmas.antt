-- Tokens that begin with `<`, as they are read.
use Rattle.std.proofs.Common.{◌≡◌, ◌≢◌, ◌⊎◌, ℕ, ◌<◌, ◌≤◌, Bool, true, false, not, List, [], ◌∷◌, ◌++◌, length, IsTrue}
use Rattle.std.proofs.Common.{refl, sym, ap, subst, ◌∙◌, inl, inr, ⊎_elim, codes, arith, append_assoc, drop, Bor}
use Rattle.std.proofs.Common.{Option}
use Rattle.std.specs.Prelude.{Result, Ok, Err}
use Rattle.std.specs.Result.{IsErrAnd}
use Rattle.std.specs.List.{list_all}
use Rattle.std.proofs.lemmas.Bool.{and_parts, and_from, both_ways, not_from_false, not-true, false_from_ne_true}
use Rattle.std.proofs.lemmas.List.Folds.{list_all-append}
use Rattle.std.proofs.Common.{◌==◌, eq-eqb}
use Rattle.xml_tokens.proofs.FindLemmas.{not_before}
use Rattle.std.proofs.lemmas.List.{append-nil, length-append}
use Rattle.std.proofs.lemmas.List.Elements.{All-cons}
use Rattle.atom_values.specs.XmlText.{IsXmlText}
use Rattle.atom_values.specs.Space.{is_space}
use Rattle.xml_tokens.specs.declared.cursor.Lapse.{Lapse}
use Rattle.xml_tokens.specs.declared.cursor.Lapse.TheVariants.{Broken, Cut, NoMemory}
use Rattle.xml_tokens.specs.declared.token.Context.{Context}
use Rattle.xml_tokens.specs.declared.token.Context.TheVariants.{Start, Outside, Inside}
use Rattle.xml_tokens.specs.declared.token.Token.{Token as RawToken}
use Rattle.xml_tokens.specs.declared.token.Token.TheVariants.{Declaration, Silent, Characters as Run, Reference}
use Rattle.xml_tokens.specs.declared.token.Token.TheVariants.{Section, Tag as TagToken, EndTag}
use Rattle.xml_tokens.specs.Characters.{QName, IsQName, AreSpaces, begins, begins_name, lacks, lines, name_text}
use Rattle.xml_tokens.specs.Tokens.{Token, Tag, IsSpelled, IsEndTag, IsSection, IsComment}
use Rattle.xml_tokens.specs.Tokens.Token.{declaration, character, referred, section, comment, instruction, opening}
use Rattle.xml_tokens.specs.Tokens.Token.{closing}
use Rattle.xml_tokens.specs.Stages.{Lexeme}
use Rattle.xml_tokens.specs.Reading.{IsFound, Starts, Continues, Reads, written_end_tag, written_section, a_comment}
use Rattle.xml_tokens.specs.Reading.{IsFitPlace, IsInContent, IsNameOf, MayStand, IsOpening, BeginsAt, IsTagOnly}
use Rattle.xml_tokens.specs.Reading.{IsSilentAt, ReadsToken}
use Rattle.xml_tokens.proofs.BeginLemmas.{begins_split, begins_from}
use Rattle.xml_tokens.proofs.PartLemmas.{splits}
use Rattle.xml_tokens.proofs.TokenFirstLemmas.{token_begins, xml_front, heads_of, tails_of}
use Rattle.xml_tokens.proofs.TokenReadLemmas.{one_read, first_byte}
use Rattle.xml_tokens.proofs.CharacterLemmas.{spaces_xml}
use Rattle.xml_tokens.proofs.XmlLemmas.{printable, printable_xml, printable_append, printable_rest, xml_append}
use Rattle.xml_tokens.proofs.XmlLemmas.{xml_before, xml_behind, xml_nil}
use Rattle.xml_tokens.proofs.TagLemmas.{from_tag}
use Rattle.xml_tokens.specs.declared.tag.Tag.{Tag as RawTag}
use Rattle.xml_tokens.specs.declared.tag.TagEnd.{TagEnd}
use Rattle.xml_tokens.specs.declared.tag.TagEnd.TheVariants.{Open as Whole, Empty, Cut as CutTag, CutAtSlash}
use Rattle.xml_tokens.specs.Characters.{IsGap}
use Rattle.xml_tokens.specs.Tokens.{IsTag}
use Rattle.xml_tokens.specs.Reading.{a_tag, own_tag, behind_name, tag_end, IsTagOf, IsTagRead, IsTagTo, ReadsTag}
use Rattle.xml_tokens.specs.Reading.{ReadsTagTo, ReadsTagToken, is_cut}
use Rattle.std.specs.Prelude.{if◌then◌else◌}
use Rattle.std.proofs.Common.{get_or}
use Rattle.xml_tokens.specs.Reading.{foreign_declaration}
use Rattle.std.proofs.Common.{◌||◌, eqb-true}
use Rattle.std.proofs.lemmas.Bool.{or_cases}

-- the second byte of a continuation's token
second_byte : (k : ℕ) (tail text more s x u : List ℕ) (m : ℕ) → text ≡ 60 ∷ k ∷ tail → text ++ more ≡ s ++ x →
    s ≡ 60 ∷ m ∷ u → m ≡ k
second_byte k tail text more s x u m is e starts =
    let same : 60 ∷ (m ∷ (u ++ x)) ≡ 60 ∷ (k ∷ (tail ++ more)) =
    ap (λ xs. xs ++ x) (sym starts) ∙ sym e ∙ ap (λ xs. xs ++ more) is in
    heads_of m k (u ++ x) (tail ++ more) (tails_of 60 60 (m ∷ (u ++ x)) (k ∷ (tail ++ more)) same)

-- the tokens that can begin with `<` and the byte `k`
pub record OpenCases (P : Token → Type 0) (k : ℕ) (X : Type 0) : Type 0 where
  pub on_declaration : (encoding : Option (List ℕ)) → k ≡ 63 → P (declaration encoding) → X
  pub on_section : (read : List ℕ) → k ≡ 33 → P (section read) → X
  pub on_comment : k ≡ 33 → P comment → X
  pub on_instruction : k ≡ 63 → P instruction → X
  pub on_opening : (tag : Tag) → begins_name k ≡ true → P (opening tag) → X
  pub on_closing : (name : QName) → k ≡ 47 → P (closing name) → X

pub open_cases : {X : Type 0} (P : Token → Type 0) (k : ℕ) (tail text more s x : List ℕ) → text ≡ 60 ∷ k ∷ tail →
    text ++ more ≡ s ++ x → (a : Token) → IsSpelled a s x → P a → OpenCases P k X → X
open_cases P k tail text more s x is e (declaration encoding) spelled p c =
    let f = token_begins (declaration encoding) s x spelled in
    c.on_declaration encoding (sym (second_byte k tail text more s x (codes "xml" ++ f.0) 63 is e f.1)) p
open_cases P k tail text more s x is e (character read) spelled p c =
    let f = token_begins (character read) s x spelled in
    absurd (f.3 (first_byte 60 (k ∷ tail) text more s x f.1 f.0 is e f.2))
open_cases P k tail text more s x is e (referred n) spelled p c =
    let f = token_begins (referred n) s x spelled in
    absurd (let no = first_byte 60 (k ∷ tail) text more s x f.0 38 is e f.1 in omega arith)
open_cases P k tail text more s x is e (section read) spelled p c =
    let f = token_begins (section read) s x spelled in
    c.on_section read (sym (second_byte k tail text more s x (codes "[" ++ f.0) 33 is e f.1)) p
open_cases P k tail text more s x is e comment spelled p c =
    let f = token_begins comment s x spelled in
    c.on_comment (sym (second_byte k tail text more s x (codes "-" ++ f.0) 33 is e f.1)) p
open_cases P k tail text more s x is e instruction spelled p c =
    let f = token_begins instruction s x spelled in
    c.on_instruction (sym (second_byte k tail text more s x f.0 63 is e f.1)) p
open_cases P k tail text more s x is e (opening tag) spelled p c =
    let f = token_begins (opening tag) s x spelled in
    let B : ℕ → Type 0 = λ b. begins_name b ≡ true in
    c.on_opening tag (subst B (second_byte k tail text more s x f.1 f.0 is e f.2) f.3) p
open_cases P k tail text more s x is e (closing name) spelled p c =
    let f = token_begins (closing name) s x spelled in
    c.on_closing name (sym (second_byte k tail text more s x f.0 47 is e f.1)) p

no_name_byte : {X : Type 0} (k : ℕ) (b : ℕ) → b ≡ k → begins_name k ≡ false → begins_name b ≡ true → X
no_name_byte k b is none e =
    let B : ℕ → Type 0 = λ n. begins_name n ≡ true in
    absurd (both_ways (begins_name k) none (subst B is e))

-- after any other byte only a tag can begin
pub tag_only : (k : ℕ) (tail text : List ℕ) → text ≡ 60 ∷ k ∷ tail → k ≢ 33 → k ≢ 63 → k ≢ 47 → IsTagOnly text
tag_only k tail text is no_mark no_question no_slash = λ more token front rest e spelled.
    let cases : OpenCases (λ t. IsOpening t → IsOpening token) k (IsOpening token) = record {
      on_declaration = λ encoding same p. absurd (no_question same);
      on_section = λ read same p. absurd (no_mark same);
      on_comment = λ same p. absurd (no_mark same);
      on_instruction = λ same p. absurd (no_question same);
      on_opening = λ tag name p. p tt;
      on_closing = λ name same p. absurd (no_slash same);
    } in
    open_cases (λ t. IsOpening t → IsOpening token) k tail text more front rest is e token spelled (λ o. o) cases

-- the text begins with `</`
closing_only : {X : Type 0} (place : Context) (tail text more : List ℕ) → text ≡ 60 ∷ 47 ∷ tail →
    (b : BeginsAt place (text ++ more)) →
    ((name : QName) → IsEndTag name b.front → IsNameOf name place → X) → X
closing_only {X} place tail text more is b x =
    let P : Token → Type 0 = λ t. IsSpelled t b.front b.rest × MayStand place t in
    let cases : OpenCases P 47 X = record {
      on_declaration = λ encoding same p. absurd (let k : 47 ≡ 63 = same in omega arith);
      on_section = λ read same p. absurd (let k : 47 ≡ 33 = same in omega arith);
      on_comment = λ same p. absurd (let k : 47 ≡ 33 = same in omega arith);
      on_instruction = λ same p. absurd (let k : 47 ≡ 63 = same in omega arith);
      on_opening = λ tag name p. absurd (both_ways false refl name);
      on_closing = λ name same p. x name p.0.1 p.1;
    } in
    open_cases P 47 tail text more b.front b.rest is b.split b.token b.spelled (b.spelled, b.stands) cases

not_named : (name : QName) (place : Context) → ((n : Bor (List ℕ)) → place ≡ Inside n → ⊥) → IsNameOf name place → ⊥
not_named name Start none is = is
not_named name Outside none is = is
not_named name (Inside n) none is = none n refl

-- no end tag outside the root
pub end_outside : (place : Context) → ((n : Bor (List ℕ)) → place ≡ Inside n → ⊥) → (before : List ℕ) →
    IsTrue (begins (codes "</") before) → (more : List ℕ) → BeginsAt place (before ++ more) → ⊥
end_outside place none before begun more b =
    closing_only place (drop 2 before) before more (begins_split (codes "</") before begun) b
    (λ name is named. not_named name place none named)

-- the name of the innermost open element
record InsideName (place : Context) (name : List ℕ) : Type 0 where
  q : QName
  is : IsQName q
  same : name ≡ name_text q
  xml : IsXmlText name
  stands : MayStand place (closing q)
  one : (r : QName) → IsNameOf r place → name ≡ name_text r

inside_name : (place : Context) (n : Bor (List ℕ)) → place ≡ Inside n → IsFitPlace place → InsideName place n.now
inside_name place n is fit =
    let F : Context → Type 0 = IsFitPlace in
    let f = subst F is fit in
    let N : Context → Type 0 = λ p. IsNameOf f.1.0 p in
    record {
      q = f.1.0;
      is = f.1.1;
      same = f.1.2;
      xml = f.0;
      stands = subst N (sym is) f.1.2;
      one = λ r named. let R : Context → Type 0 = IsNameOf r in subst R is named;
    }

end_form : (q : QName) → IsQName q → (name front : List ℕ) → name ≡ name_text q →
    (spaces : List ℕ) → AreSpaces spaces → front ≡ codes "</" ++ name ++ spaces ++ codes ">" → IsEndTag q front
end_form q is name front same spaces are e = record {
  is_name = is;
  spaces = spaces;
  are_spaces = are;
  spelled = e ∙ ap (λ xs. codes "</" ++ xs ++ spaces ++ codes ">") same;
}

form_end : (name : List ℕ) (r : QName) (front rest : List ℕ) → name ≡ name_text r → IsEndTag r front →
    written_end_tag name tt front rest
form_end name r front rest same is =
    (is.spaces, is.are_spaces, is.spelled ∙ ap (λ xs. codes "</" ++ xs ++ is.spaces ++ codes ">") (sym same))

-- the end tag of the innermost open element
pub end_read : (place : Context) (n : Bor (List ℕ)) → place ≡ Inside n → (before after : List ℕ) → IsXmlText before →
    IsFitPlace place → IsFound (written_end_tag n.now) before tt after → ReadsToken place before (Ok EndTag) after
end_read place n is before after xml fit f =
    let i = inside_name place n is fit in
    let s = f.spelled in
    let x = xml_front before f.front (codes "</" ++ n.now ++ s.0) after f.split s.2 xml in (
      (
        record { token = closing i.q; text = f.front } ∷ [],
        one_read place before f.front after (closing i.q) f.split
            (x.0, end_form i.q i.is n.now f.front i.same s.0 s.1 s.2) i.stands,
        (i.q, (f.front, refl)),
      ),
      x.1,
    )

pub end_fails : (place : Context) (n : Bor (List ℕ)) → place ≡ Inside n → (before after : List ℕ) → IsXmlText before →
    IsFitPlace place → IsTrue (begins (codes "</") before) → (e : Lapse) →
    Reads (written_end_tag n.now) before (Err e) after →
    ReadsToken place before (Err e) after
end_fails place n is before after xml fit begun Broken none = λ more b.
    let i = inside_name place n is fit in
    closing_only place (drop 2 before) before more (begins_split (codes "</") before begun) b
    (λ name end named. none (
      more,
      (
        tt,
        b.rest,
        record {
          front = b.front;
          split = b.split;
          spelled =
              form_end n.now name b.front b.rest (i.one name named) end;
        },
      ),
    ))
end_fails place n is before after xml fit begun Cut cut =
    let i = inside_name place n is fit in
    let f = cut.1.1.2 in
    let s = f.spelled in
    let X : List ℕ → Type 0 = IsXmlText in
    let B : List ℕ → Type 0 = BeginsAt place in
    let start = begins_split (codes "</") before begun in
    let front : IsXmlText f.front = subst X (sym s.2)
    (xml_append ((codes "</" ++ n.now) ++ s.0) (codes ">") (xml_append (codes "</" ++ n.now) s.0
    (xml_append (codes "</") n.now (printable_xml (codes "</") refl) i.xml) (spaces_xml s.0 s.1).0)
    (printable_xml (codes ">") refl)) in (
      (λ b.
          let c = subst B (sym (append-nil before)) b in
          closing_only place (drop 2 before) before [] start c
          (λ name end named. cut.0 (
            tt,
            c.rest,
            record {
              front = c.front;
              split = sym (append-nil before) ∙ c.split;
              spelled = form_end n.now name c.front c.rest (i.one name named) end;
            },
          ))),
      (
        cut.1.0,
        record {
          token = closing i.q;
          front = f.front;
          rest = cut.1.1.1;
          split = f.split;
          spelled = (front, end_form i.q i.is n.now f.front i.same s.0 s.1 s.2);
          stands = i.stands;
        },
        (λ no. no),
      ),
    )
end_fails place n is before after xml fit begun NoMemory none = tt

pub err_token : (place : Context) (before after : List ℕ) (e : Lapse) (r : Result RawToken Lapse) →
    IsErrAnd r (λ s. s ≡ e) →
    ReadsToken place before (Err e) after → ReadsToken place before r after
err_token place before after e (Ok v) same read = absurd same
err_token place before after e (Err x) same read =
    let F : Lapse → Type 0 = λ s. ReadsToken place before (Err s) after in
    subst F (sym same) read

-- a pattern without spaces in a text with one
space_end : (p k rest t m : List ℕ) → list_all (λ b. not (b == 32)) (k ++ m) ≡ true → p ≡ k ++ m → 32 ∷ rest ≡ m ++ t →
    begins p k ≡ true
space_end p k rest t [] free is e = begins_from p k [] (sym (append-nil k) ∙ sym is ∙ sym (append-nil p))
space_end p k rest t (b ∷ m) free is e =
    let all = and_parts (list_all (λ x. not (x == 32)) k) (list_all (λ x. not (x == 32)) (b ∷ m))
    (sym (list_all-append (λ x. not (x == 32)) k (b ∷ m)) ∙ free) in
    let one = heads_of b 32 (m ++ t) rest (sym e) in
    absurd (both_ways (b == 32)
    (not-true (b == 32) (and_parts (not (b == 32)) (list_all (λ x. not (x == 32)) m) all.1).0)
    (eq-eqb b 32 one))

begins_before : (p k rest : List ℕ) → list_all (λ b. not (b == 32)) p ≡ true → begins p (k ++ 32 ∷ rest) ≡ true →
    begins p k ≡ true
begins_before p k rest free begun =
    let t = drop (length p) (k ++ 32 ∷ rest) in
    let F : List ℕ → Type 0 = λ xs. list_all (λ b. not (b == 32)) xs ≡ true in
    ⊎_elim
    (λ longer. space_end p k rest t longer.0 (subst F longer.1 free) longer.1 longer.2)
    (λ shorter. begins_from p k shorter.0 shorter.1)
    (splits k (32 ∷ rest) p t (begins_split p (k ++ 32 ∷ rest) begun))

pub lacks_front : (p k x : List ℕ) → lacks p (k ++ x) ≡ true → lacks p k ≡ true
lacks_front p [] x none = refl
lacks_front p (b ∷ k) x none =
    let q = and_parts (not (begins p (b ∷ (k ++ x)))) (lacks p (k ++ x)) none in
    and_from (not (begins p (b ∷ k))) (lacks p k)
    (not_from_false (begins p (b ∷ k)) (not_before p (b ∷ k) x (not-true (begins p (b ∷ (k ++ x))) q.0)))
    (lacks_front p k x q.1)

pub lacks_space : (p k short : List ℕ) → list_all (λ b. not (b == 32)) p ≡ true → lacks p k ≡ true →
    lacks p (32 ∷ short) ≡ true → lacks p (k ++ 32 ∷ short) ≡ true
lacks_space p [] short free none end = end
lacks_space p (b ∷ k) short free none end =
    let q = and_parts (not (begins p (b ∷ k))) (lacks p k) none in
    and_from (not (begins p (b ∷ (k ++ 32 ∷ short)))) (lacks p (k ++ 32 ∷ short))
    (not_from_false (begins p (b ∷ (k ++ 32 ∷ short)))
    (false_from_ne_true (begins p (b ∷ (k ++ 32 ∷ short)))
    (λ begun. both_ways (begins p (b ∷ k)) (not-true (begins p (b ∷ k)) q.0)
    (begins_before p (b ∷ k) short free begun))))
    (lacks_space p k short free q.1 end)

-- the spelling that a cut lacks the end of
pub cut_more : (before more front rest : List ℕ) → before ++ more ≡ front ++ rest →
    ((k : List ℕ) → before ≡ front ++ k → ⊥) → (m : List ℕ) × (front ≡ before ++ m)
cut_more before more front rest e none =
    ⊎_elim (λ longer. (longer.0, longer.1)) (λ shorter. absurd (none shorter.0 shorter.1))
    (splits before more front rest e)

-- the marks of a token with a start and an end, as a comment
pub record Marks : Type 0 where
  pub start : List ℕ
  pub close : List ℕ
  pub pattern : List ℕ
  pub short : List ℕ
  pub start_printable : list_all printable start ≡ true
  pub close_printable : list_all printable close ≡ true
  pub no_space : list_all (λ b. not (b == 32)) pattern ≡ true
  pub short_lacks : lacks pattern short ≡ true
  pub spaced_lacks : lacks pattern (32 ∷ short) ≡ true

pub section_marks : Marks
section_marks = record {
  start = codes "<![CDATA[";
  close = codes "]]>";
  pattern = codes "]]>";
  short = codes "]]";
  start_printable = refl;
  close_printable = refl;
  no_space = refl;
  short_lacks = refl;
  spaced_lacks = refl;
}

pub comment_marks : Marks
comment_marks = record {
  start = codes "<!--";
  close = codes "-->";
  pattern = codes "--";
  short = codes "-";
  start_printable = refl;
  close_printable = refl;
  no_space = refl;
  short_lacks = refl;
  spaced_lacks = refl;
}

-- a text between marks in XML characters
pub record Goes (marks : Marks) (before : List ℕ) : Type 0 where
  pub more : List ℕ
  pub inside : List ℕ
  pub whole : before ++ more ≡ marks.start ++ (inside ++ marks.close)
  pub xml : IsXmlText (before ++ more)
  pub first : lacks marks.pattern (inside ++ marks.short) ≡ true

pub goes : (marks : Marks) (before m inside : List ℕ) → marks.start ++ (inside ++ marks.close) ≡ before ++ m →
    lacks marks.pattern (inside ++ marks.short) ≡ true → IsXmlText before → Goes marks before
goes marks before m inside whole first xml =
    let close = marks.close in
    let R : List ℕ → Type 0 = λ xs. list_all printable xs ≡ true in
    let L : List ℕ → Type 0 = λ xs. lacks marks.pattern xs ≡ true in
    ⊎_elim
    (λ outer. ⊎_elim
    (λ ended. record {
      more = m;
      inside = inside;
      whole = sym whole;
      xml = xml_append before m xml
          (printable_xml m (printable_rest ended.0 m (subst R ended.2 marks.close_printable)));
      first = first;
    })
    (λ within.
    let k = outer.0 in
    record {
      more = 32 ∷ close;
      inside = k ++ 32 ∷ [];
      whole = ap (λ xs. xs ++ 32 ∷ close) outer.1 ∙ simp append_assoc;
      xml = xml_append before (32 ∷ close) xml
          (xml_append (32 ∷ []) close (printable_xml (32 ∷ []) refl) (printable_xml close marks.close_printable));
      first = ap (lacks marks.pattern) (append_assoc k (32 ∷ []) marks.short)
          ∙ lacks_space marks.pattern k marks.short marks.no_space
          (lacks_front marks.pattern k (within.0 ++ marks.short)
          (subst L (ap (λ xs. xs ++ marks.short) within.1 ∙ append_assoc k within.0 marks.short) first))
          marks.spaced_lacks;
    })
    (splits inside close outer.0 m outer.2))
    (λ early. record {
      more = early.0 ++ close;
      inside = [];
      whole = sym (append_assoc before early.0 close) ∙ ap (λ xs. xs ++ close) (sym early.1);
      xml = xml_append before (early.0 ++ close) xml
          (printable_xml (early.0 ++ close) (printable_append early.0 close
          (printable_rest before early.0 (subst R early.1 marks.start_printable)) marks.close_printable));
      first = marks.short_lacks;
    })
    (splits marks.start (inside ++ close) before m whole)

-- a CDATA section
section_form : (inside front : List ℕ) → front ≡ codes "<![CDATA[" ++ (inside ++ codes "]]>") →
    lacks (codes "]]>") (inside ++ codes "]]") ≡ true → IsSection (lines inside) front
section_form inside front e first = record {
  inside = inside;
  first_end = first;
  spelled = e ∙ sym (append_assoc (codes "<![CDATA[") inside (codes "]]>"));
  is_read = refl;
}

comment_form : (inside front : List ℕ) → front ≡ codes "<!--" ++ (inside ++ codes "-->") →
    lacks (codes "--") (inside ++ codes "-") ≡ true → IsComment front
comment_form inside front e first = record {
  inside = inside;
  first_end = first;
  spelled = e ∙ sym (append_assoc (codes "<!--") inside (codes "-->"));
}

-- the text begins with `<!`
marked_only : {X : Type 0} (place : Context) (tail text more : List ℕ) → text ≡ 60 ∷ 33 ∷ tail →
    (b : BeginsAt place (text ++ more)) →
    ((read : List ℕ) → IsSection read b.front → IsInContent place → X) → (IsComment b.front → X) → X
marked_only {X} place tail text more is b x y =
    let P : Token → Type 0 = λ t. IsSpelled t b.front b.rest × MayStand place t in
    let cases : OpenCases P 33 X = record {
      on_declaration = λ encoding same p. absurd (let k : 33 ≡ 63 = same in omega arith);
      on_section = λ read same p. x read p.0.1 p.1;
      on_comment = λ same p. y p.0.1;
      on_instruction = λ same p. absurd (let k : 33 ≡ 63 = same in omega arith);
      on_opening = λ tag name p. absurd (both_ways false refl name);
      on_closing = λ name same p. absurd (let k : 33 ≡ 47 = same in omega arith);
    } in
    open_cases P 33 tail text more b.front b.rest is b.split b.token b.spelled (b.spelled, b.stands) cases

pub section_read : (place : Context) → IsInContent place → (before after : List ℕ) → IsXmlText before →
    (inside : Bor (List ℕ)) →
    IsFound written_section before inside.now after → ReadsToken place before (Ok (Section inside)) after
section_read place content before after xml inside f =
    let s = f.spelled in
    let e = s.0 ∙ append_assoc (codes "<![CDATA[") inside.now (codes "]]>") in
    let x = xml_front before f.front (codes "<![CDATA[" ++ inside.now ++ codes "]]") after f.split
    (s.0 ∙ simp append_assoc) xml in (
      (
        record { token = section (lines inside.now); text = f.front } ∷ [],
        one_read place before f.front after (section (lines inside.now)) f.split
            (x.0, section_form inside.now f.front e s.1) content,
        (f.front, refl),
      ),
      x.1,
    )

pub section_written : (read front rest : List ℕ) → (is : IsSection read front) → written_section is.inside front rest
section_written read front rest is = (is.spelled, is.first_end)

-- `<![` begins no comment
pub third_byte : (before more front rest u : List ℕ) → before ++ more ≡ front ++ rest → front ≡ codes "<!-" ++ u →
    (tail : List ℕ) → before ≡ codes "<![" ++ tail → ⊥
third_byte before more front rest u e starts tail is =
    let same : 60 ∷ (33 ∷ (45 ∷ (u ++ rest))) ≡ 60 ∷ (33 ∷ (91 ∷ (tail ++ more))) =
    ap (λ xs. xs ++ rest) (sym starts) ∙ sym e ∙ ap (λ xs. xs ++ more) is in
    let one = heads_of 45 91 (u ++ rest) (tail ++ more)
    (tails_of 33 33 (45 ∷ (u ++ rest)) (91 ∷ (tail ++ more))
    (tails_of 60 60 (33 ∷ (45 ∷ (u ++ rest))) (33 ∷ (91 ∷ (tail ++ more))) same)) in
    omega arith

pub comment_first : (front : List ℕ) → (is : IsComment front) → front ≡ codes "<!-"
    ++ (codes "-" ++ (is.inside ++ codes "-->"))
comment_first front is = is.spelled ∙ simp append_assoc

pub section_fails : (place : Context) → IsInContent place → (before after : List ℕ) → IsXmlText before →
    IsTrue (begins (codes "<![") before) → (e : Lapse) →
    Reads written_section before (Err e) after → ReadsToken place before (Err e) after
unfolding section_marks
section_fails place content before after xml begun Broken none = λ more b.
    let is = begins_split (codes "<![") before begun in
    marked_only place (codes "[" ++ drop 3 before) before more is b
    (λ read s inside. none (
      more,
      (s.inside, b.rest, record { front = b.front; split = b.split; spelled = section_written read b.front b.rest s }),
    ))
    (λ s. third_byte before more b.front b.rest (codes "-" ++ (s.inside ++ codes "-->")) b.split
    (comment_first b.front s) (drop 3 before) is)
section_fails place content before after xml begun Cut cut =
    let is = begins_split (codes "<![") before begun in
    let f = cut.1.1.2 in
    let m = cut_more before cut.1.0 f.front cut.1.1.1 f.split (λ k e. cut.0 (
      cut.1.1.0,
      k,
      record { front = f.front; split = e; spelled = f.spelled },
    )) in
    let g = goes section_marks before m.0 cut.1.1.0
    (sym (append_assoc (codes "<![CDATA[") cut.1.1.0 (codes "]]>")) ∙ sym f.spelled.0 ∙ m.1) f.spelled.1 xml in
    let B : List ℕ → Type 0 = BeginsAt place in (
      (λ b.
          let c = subst B (sym (append-nil before)) b in
          marked_only place (codes "[" ++ drop 3 before) before [] is c
          (λ read s inside. cut.0 (
            s.inside,
            c.rest,
            record {
              front = c.front;
              split = sym (append-nil before) ∙ c.split;
              spelled =
                  section_written read c.front c.rest s;
            },
          ))
          (λ s. third_byte before [] c.front c.rest (codes "-" ++ (s.inside ++ codes "-->")) c.split
          (comment_first c.front s)
          (drop 3 before) is)),
      (
        g.more,
        record {
          token = section (lines g.inside);
          front = before ++ g.more;
          rest = [];
          split = sym (append-nil (before ++ g.more));
          spelled = (g.xml, section_form g.inside (before ++ g.more) g.whole g.first);
          stands = content;
        },
        (λ no. no),
      ),
    )
section_fails place content before after xml begun NoMemory none = tt

pub comment_read : (place : Context) (before after : List ℕ) → IsXmlText before → IsFound a_comment before tt after →
    ReadsToken place before (Ok Silent) after
comment_read place before after xml f =
    let s = f.spelled in
    let x = xml_front before f.front (codes "<!--" ++ s.inside ++ codes "--") after f.split
    (s.spelled ∙ simp append_assoc) xml in
    let l : Lexeme = record { token = comment; text = f.front } in (
      (
        l ∷ [],
        one_read place before f.front after comment f.split (x.0, s) tt,
        All-cons (λ (x : Lexeme). IsSilentAt place x.token) l [] tt (λ k d (below : k < 0). absurd (omega arith)),
      ),
      x.1,
    )

comment_lives : (before : List ℕ) → before ≡ codes "<!" → Continues a_comment before
comment_lives before is = (
  codes "---->",
  (
    tt,
    [],
    record {
      front = codes "<!---->";
      split = ap (λ xs. xs ++ codes "---->") is;
      spelled = record { inside = []; first_end = refl; spelled = refl };
    },
  ),
)

-- the third byte of a section
section_third : (tail before more front rest read : List ℕ) → before ≡ 60 ∷ 33 ∷ tail → before ++ more ≡ front ++ rest →
    IsSection read front → (tail ≡ []) ⊎ (begins (codes "<![") before ≡ true)
section_third [] before more front rest read is e s = inl refl
section_third (c ∷ tail) before more front rest read is e s =
    let u = codes "CDATA[" ++ (s.inside ++ codes "]]>") in
    let starts : front ≡ codes "<![" ++ u = s.spelled ∙ simp append_assoc in
    let same : 60 ∷ (33 ∷ (91 ∷ (u ++ rest))) ≡ 60 ∷ (33 ∷ (c ∷ (tail ++ more))) =
    ap (λ xs. xs ++ rest) (sym starts) ∙ sym e ∙ ap (λ xs. xs ++ more) is in
    let one = heads_of 91 c (u ++ rest) (tail ++ more)
    (tails_of 33 33 (91 ∷ (u ++ rest)) (c ∷ (tail ++ more))
    (tails_of 60 60 (33 ∷ (91 ∷ (u ++ rest))) (33 ∷ (c ∷ (tail ++ more))) same)) in
    inr (begins_from (codes "<![") before tail (is ∙ ap (λ k. 60 ∷ 33 ∷ k ∷ tail) (sym one)))

pub comment_fails : (place : Context) (before after : List ℕ) → IsXmlText before → IsTrue (begins (codes "<!") before) →
    (IsInContent place → begins (codes "<![") before ≡ false) → (e : Lapse) → Reads a_comment before (Err e) after →
    ReadsToken place before (Err e) after
unfolding comment_marks
comment_fails place before after xml begun no_section Broken none = λ more b.
    let is = begins_split (codes "<!") before begun in
    marked_only place (drop 2 before) before more is b
    (λ read s inside. ⊎_elim
    (λ over. none (comment_lives before (is ∙ ap (λ xs. codes "<!" ++ xs) over)))
    (λ there. both_ways (begins (codes "<![") before) (no_section inside) there)
    (section_third (drop 2 before) before more b.front b.rest read is b.split s))
    (λ s. none (more, (tt, b.rest, record { front = b.front; split = b.split; spelled = s })))
comment_fails place before after xml begun no_section Cut cut =
    let is = begins_split (codes "<!") before begun in
    let f = cut.1.1.2 in
    let m = cut_more before cut.1.0 f.front cut.1.1.1 f.split (λ k e. cut.0 (
      tt,
      k,
      record { front = f.front; split = e; spelled = f.spelled },
    )) in
    let g = goes comment_marks before m.0 f.spelled.inside
    (sym (append_assoc (codes "<!--") f.spelled.inside (codes "-->")) ∙ sym f.spelled.spelled ∙ m.1)
    f.spelled.first_end xml in
    let B : List ℕ → Type 0 = BeginsAt place in (
      (λ b.
          let c = subst B (sym (append-nil before)) b in
          marked_only place (drop 2 before) before [] is c
          (λ read s inside.
          let u = codes "CDATA[" ++ (s.inside ++ codes "]]>") in
          let starts : c.front ≡ codes "<![" ++ u = s.spelled ∙ simp append_assoc in
          both_ways (begins (codes "<![") before) (no_section inside)
          (begins_from (codes "<![") before (u ++ c.rest)
          (sym (append-nil before) ∙ c.split ∙ ap (λ xs. xs ++ c.rest) starts)))
          (λ s. cut.0 (
            tt,
            c.rest,
            record { front = c.front; split = sym (append-nil before) ∙ c.split; spelled = s },
          ))),
      (
        g.more,
        record {
          token = comment;
          front = before ++ g.more;
          rest = [];
          split = sym (append-nil (before ++ g.more));
          spelled = (g.xml, comment_form g.inside (before ++ g.more) g.whole g.first);
          stands = tt;
        },
        (λ no. no),
      ),
    )
comment_fails place before after xml begun no_section NoMemory none = tt

longer_than : {X : Type 0} (s x u : List ℕ) (a b : ℕ) → codes "<" ≡ s ++ x → s ≡ a ∷ b ∷ u → X
longer_than s x u a b e is =
    absurd (let total = ap length (e ∙ ap (λ xs. xs ++ x) is) in omega (arith, length-append u x))

lone_none : (a : Token) (s x : List ℕ) → codes "<" ≡ s ++ x → IsSpelled a s x → ⊥
lone_none (declaration encoding) s x e spelled =
    let f = token_begins (declaration encoding) s x spelled in longer_than s x (codes "xml" ++ f.0) 60 63 e f.1
lone_none (character read) s x e spelled =
    let f = token_begins (character read) s x spelled in
    f.3 (heads_of f.0 60 (f.1 ++ x) [] (ap (λ xs. xs ++ x) (sym f.2) ∙ sym e))
lone_none (referred c) s x e spelled =
    let f = token_begins (referred c) s x spelled in
    let same = heads_of 38 60 (f.0 ++ x) [] (ap (λ xs. xs ++ x) (sym f.1) ∙ sym e) in omega arith
lone_none (section read) s x e spelled =
    let f = token_begins (section read) s x spelled in longer_than s x (codes "[" ++ f.0) 60 33 e f.1
lone_none comment s x e spelled =
    let f = token_begins comment s x spelled in longer_than s x (codes "-" ++ f.0) 60 33 e f.1
lone_none instruction s x e spelled =
    let f = token_begins instruction s x spelled in longer_than s x f.0 60 63 e f.1
lone_none (opening tag) s x e spelled =
    let f = token_begins (opening tag) s x spelled in longer_than s x f.1 60 f.0 e f.2
lone_none (closing name) s x e spelled =
    let f = token_begins (closing name) s x spelled in longer_than s x f.0 60 47 e f.1

-- a lone `<`
pub lone_cut : (place : Context) (before : List ℕ) → before ≡ codes "<" →
    (BeginsAt place before → ⊥) × ((more : List ℕ) × (b : BeginsAt place (before ++ more)) × (IsOpening b.token → ⊥))
lone_cut place before is = (
  (λ b. lone_none b.token b.front b.rest (sym is ∙ b.split) b.spelled),
  (
    codes "!---->",
    record {
      token = comment;
      front = codes "<!---->";
      rest = [];
      split = ap (λ xs. xs ++ codes "!---->") is;
      spelled = (
        printable_xml (codes "<!---->") refl,
        record { inside = []; first_end = refl; spelled = refl },
      );
      stands = tt;
    },
    (λ no. no),
  ),
)

opening_found : {X : Type 0} (a : Token) (s x : List ℕ) → IsOpening a → IsSpelled a s x →
    ((tag : Tag) → IsTag tag s → X) → X
opening_found (declaration encoding) s x never spelled f = absurd never
opening_found (character read) s x never spelled f = absurd never
opening_found (referred c) s x never spelled f = absurd never
opening_found (section read) s x never spelled f = absurd never
opening_found comment s x never spelled f = absurd never
opening_found instruction s x never spelled f = absurd never
opening_found (opening tag) s x always spelled f = f tag spelled.1
opening_found (closing name) s x never spelled f = absurd never

ends : (is_empty : Bool) (u front : List ℕ) → front ≡ u ++ (if is_empty then codes "/>" else codes ">") →
    (v : List ℕ) × (front ≡ v ++ codes ">")
ends true u front e = (u ++ codes "/", e ∙ sym (append_assoc u (codes "/") (codes ">")))
ends false u front e = (u, e)

space_low : (b : ℕ) → is_space b ≡ true → b < 128
space_low b e =
    ⊎_elim
    (λ three. ⊎_elim
    (λ two. ⊎_elim
    (λ t. let k = eqb-true b 9 t in omega arith)
    (λ l. let k = eqb-true b 10 l in omega arith)
    (or_cases (b == 9) (b == 10) two))
    (λ r. let k = eqb-true b 13 r in omega arith)
    (or_cases ((b == 9) || (b == 10)) (b == 13) three))
    (λ s. let k = eqb-true b 32 s in omega arith)
    (or_cases ((b == 9) || (b == 10) || (b == 13)) (b == 32) e)

-- spaces, or what is after them
low_first : (spaces rest : List ℕ) (k : ℕ) → AreSpaces spaces → k < 128 → (b : ℕ) × (u : List ℕ)
    × (spaces ++ k ∷ rest ≡ b ∷ u) × (b < 128)
low_first [] rest k are low = (k, rest, refl, low)
low_first (b ∷ spaces) rest k are low =
    (b, spaces ++ k ∷ rest, refl, space_low b (and_parts (is_space b) (list_all is_space spaces) are).0)

gap_byte : (gap : List ℕ) → IsGap gap → (b : ℕ) × (u : List ℕ) × (gap ≡ b ∷ u) × (b < 128)
gap_byte [] is = absurd (is.1 refl)
gap_byte (b ∷ gap) is = (b, gap, refl, space_low b (and_parts (is_space b) (list_all is_space gap) is.0).0)

-- the byte after the name of a tag
behind_byte : (read : List (List ℕ × List ℕ)) (is_empty : Bool) (back : List ℕ) → behind_name (read, is_empty) back [] →
    (b : ℕ) × (u : List ℕ) × (back ≡ b ∷ u) × (b < 128)
behind_byte [] true back n =
    let f = low_first n.1 (codes ">") 47 n.3 (omega arith) in
    (f.0, f.1, n.4 ∙ ap (λ xs. xs ++ (n.1 ++ codes "/>")) n.2 ∙ f.2, f.3)
behind_byte [] false back n =
    let f = low_first n.1 [] 62 n.3 (omega arith) in
    (f.0, f.1, n.4 ∙ ap (λ xs. xs ++ (n.1 ++ codes ">")) n.2 ∙ f.2, f.3)
behind_byte (a ∷ read) is_empty back n =
    let i = n.2 in
    let f = gap_byte i.0 i.3 in
    let later = (i.1 ++ i.2) ++ (n.1 ++ tag_end is_empty) in (
      f.0,
      f.1 ++ later,
      n.4 ∙ ap (λ xs. xs ++ (n.1 ++ tag_end is_empty)) i.6
          ∙ append_assoc i.0 (i.1 ++ i.2) (n.1 ++ tag_end is_empty) ∙ ap (λ xs. xs ++ later) f.2,
      f.3,
    )

-- the name of a tag is XML text
tag_name_xml : (tag : Tag) (front : List ℕ) → (is : IsTag tag front) → (raw : RawTag) → IsTagOf tag raw →
    IsXmlText front →
    IsXmlText raw.name.now
tag_name_xml tag front is raw of xml =
    let X : List ℕ → Type 0 = IsXmlText in
    let t = from_tag tag front [] is in
    let b = behind_byte t.0 tag.is_empty t.1 t.2 in
    let name = name_text tag.name in
    let whole : front ≡ 60 ∷ (name ++ b.0 ∷ b.1) = t.3 ∙ ap (λ xs. 60 ∷ (name ++ xs)) b.2 in
    subst X (sym of.name)
    (xml_before b.0 name b.1 b.3 (xml_behind 60 (name ++ b.0 ∷ b.1) (omega arith) (subst X whole xml)))

-- the spelling of a tag ends with `>`
tag_ends : (tag : Tag) (front : List ℕ) → IsTag tag front → (u : List ℕ) × (front ≡ u ++ codes ">")
tag_ends tag front is = ends tag.is_empty (codes "<" ++ name_text tag.name ++ is.inside ++ is.spaces) front is.spelled

whole_read : (place : Context) (before after : List ℕ) → IsXmlText before →
    (raw : RawTag) (is_empty : Bool) (tag : Tag) →
    IsFound a_tag before tag after → IsTagOf tag raw → tag.is_empty ≡ is_empty →
    IsTagRead place before is_empty raw after × IsXmlText after
whole_read place before after xml raw is_empty tag f of ends =
    let t = f.spelled in
    let e = tag_ends tag f.front t in
    let x = xml_front before f.front e.0 after f.split e.1 xml in (
      record {
        tag = tag;
        lexemes = record { token = opening tag; text = f.front } ∷ [];
        alone = (f.front, refl);
        read = one_read place before f.front after (opening tag) f.split (x.0, t) tt;
        tag_of = of;
        ends = ends;
        name = tag_name_xml tag f.front t raw of x.0;
      },
      x.1,
    )

tag_to : (place : Context) (before end after : List ℕ) → IsXmlText before → IsTagOnly before →
    (raw : RawTag) (k : TagEnd) →
    ReadsTagTo k before raw end → after ≡ (if is_cut k then [] else end) →
    IsTagTo k place before raw after × IsXmlText after
tag_to place before end after xml only raw Whole r is =
    let W : List ℕ → Type 0 = λ xs. IsTagRead place before false raw xs × IsXmlText xs in
    subst W (sym is) (whole_read place before end xml raw false r.0 r.1 r.2 r.3)
tag_to place before end after xml only raw Empty r is =
    let W : List ℕ → Type 0 = λ xs. IsTagRead place before true raw xs × IsXmlText xs in
    subst W (sym is) (whole_read place before end xml raw true r.0 r.1 r.2 r.3)
tag_to place before end after xml only raw CutTag r is =
    let o = r.1 in
    let X : List ℕ → Type 0 = IsXmlText in
    let whole : Continues own_tag before = (
      o.more,
      (
        o.tag,
        [],
        record {
          front = before ++ o.more;
          split = sym (append-nil (before ++ o.more));
          spelled = ((xml_append before o.more xml (o.xml xml), o.is_tag), o.set);
        },
      ),
    ) in
    ((r.0, whole), subst X (sym is) xml_nil)
tag_to place before end after xml only raw CutAtSlash r is =
    let X : List ℕ → Type 0 = IsXmlText in (
      record {
        tag = r.tag;
        spelled = (xml_append before (codes ">") xml (printable_xml (codes ">") refl), r.is_tag);
        tag_of = r.tag_of;
        ends = r.ends;
        none = r.none;
        only = r.only;
      },
      subst X (sym is) xml_nil,
    )

pub tag_token_fails : (place : Context) (before after : List ℕ) → IsTagOnly before → (e : Lapse) →
    ReadsTag before (Err e) after → ReadsToken place before (Err e) after
tag_token_fails place before after only Broken none = λ more b.
    opening_found b.token b.front b.rest (only more b.token b.front b.rest b.split b.spelled) b.spelled
    (λ tag is. none (more, (tag, b.rest, record { front = b.front; split = b.split; spelled = is })))
tag_token_fails place before after only Cut r = absurd r
tag_token_fails place before after only NoMemory r = tt

-- a declaration of another encoding begins with `<?`
pub foreign_first : (text : List ℕ) → Starts foreign_declaration text → begins (codes "<?") text ≡ true
foreign_first text some =
    let f = some.2 in
    let d = f.spelled.1 in
    let u = codes "xml" ++ (d.version ++ (d.encoded ++ (d.alone ++ (d.spaces ++ codes "?>")))) in
    let starts : f.front ≡ codes "<?" ++ u = d.spelled ∙ simp append_assoc in
    begins_from (codes "<?") text (u ++ some.1) (f.split ∙ ap (λ xs. xs ++ some.1) starts)

-- the first two bytes
two_bytes : (text : List ℕ) (k : ℕ) → begins (codes "<") text ≡ true → 1 < length text → k ≡ get_or text 1 k →
    (rest : List ℕ) × (text ≡ 60 ∷ k ∷ rest)
two_bytes [] k begun long is = absurd (omega arith)
two_bytes (b ∷ []) k begun long is = absurd (omega arith)
two_bytes (b ∷ c ∷ text) k begun long is =
    let whole : b ∷ (c ∷ text) ≡ 60 ∷ drop 1 (b ∷ (c ∷ text)) = begins_split (codes "<") (b ∷ (c ∷ text)) begun in
    let one = heads_of b 60 (c ∷ text) (drop 1 (b ∷ (c ∷ text))) whole in
    let two : c ≡ k = sym is in
    (text, λ i. one i ∷ two i ∷ text)

pub one_byte : (text : List ℕ) → begins (codes "<") text ≡ true → length text ≤ 1 → text ≡ codes "<"
one_byte [] begun short = absurd (both_ways false refl begun)
one_byte (b ∷ []) begun short =
    let whole : b ∷ [] ≡ 60 ∷ drop 1 (b ∷ []) = begins_split (codes "<") (b ∷ []) begun in
    ap (λ k. k ∷ []) (heads_of b 60 [] (drop 1 (b ∷ [])) whole)
one_byte (b ∷ c ∷ text) begun short = absurd (omega arith)

pub not_content : (place : Context) → ((n : Bor (List ℕ)) → place ≡ Inside n → ⊥) → IsInContent place → ⊥
not_content Start none is = is
not_content Outside none is = is
not_content (Inside n) none is = none n refl

pub content_of : (place : Context) (n : Bor (List ℕ)) → place ≡ Inside n → IsInContent place
content_of place n is = let C : Context → Type 0 = IsInContent in subst C (sym is) tt

pub no_open : {X : Type 0} (text : List ℕ) → begins (codes "<") text ≡ false → Starts foreign_declaration text → X
no_open text none some =
    let whole : text ≡ 60 ∷ (63 ∷ drop 2 text) = begins_split (codes "<?") text (foreign_first text some) in
    absurd (both_ways (begins (codes "<") text) none (begins_from (codes "<") text (63 ∷ drop 2 text) whole))

-- a tag as a token
pub tag_token_reads : (place : Context) (before after : List ℕ) → IsXmlText before → IsTagOnly before →
    (r : Result RawToken Lapse) → ReadsTagToken before r after → ReadsToken place before r after
tag_token_reads place before after xml only (Ok (TagToken raw)) r =
    let t = tag_to place before r.0 after xml only raw raw.end r.1 r.2 in
    ((only, t.0), t.1)
tag_token_reads place before after xml only (Ok (Declaration x)) r = absurd r
tag_token_reads place before after xml only (Ok Silent) r = absurd r
tag_token_reads place before after xml only (Ok (Run x)) r = absurd r
tag_token_reads place before after xml only (Ok (Reference x)) r = absurd r
tag_token_reads place before after xml only (Ok (Section x)) r = absurd r
tag_token_reads place before after xml only (Ok EndTag) r = absurd r
tag_token_reads place before after xml only (Err e) r = tag_token_fails place before after only e r

pub tag_only_at : (text : List ℕ) (k : ℕ) → begins (codes "<") text ≡ true → 1 < length text → k ≡ get_or text 1 k →
    k ≢ 33 → k ≢ 63 → k ≢ 47 → IsTagOnly text
tag_only_at text k begun long is no_mark no_question no_slash =
    let t = two_bytes text k begun long is in
    tag_only k t.0 text t.1 no_mark no_question no_slash

-- the exits of a `?`
pub tag_err : (before after : List ℕ) (e : Lapse) (r : Result RawToken Lapse) → IsErrAnd r (λ s. s ≡ e) →
    ReadsTag before (Err e) after → ReadsTagToken before r after
tag_err before after e (Ok v) same read = absurd same
tag_err before after e (Err x) same read =
    let F : Lapse → Type 0 = λ s. ReadsTag before (Err s) after in
    subst F (sym same) read
