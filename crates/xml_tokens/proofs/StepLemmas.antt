-- TokenWhy a token that isn't read is refused.
use Rattle.std.proofs.Common.{◌≡◌, ◌≢◌, ◌<◌, ℕ, List, [], ◌∷◌, ◌++◌, length, true, false, refl, sym, ap, subst, ◌∙◌}
use Rattle.std.proofs.Common.{append_assoc, arith, inl, inr, ⊎_elim, Bool, ◌==◌, codes, drop, cond, Err, eqb-true}
use Rattle.std.specs.Prelude.{Result, Ok, OnOk, chars}
use Rattle.std.proofs.lemmas.Bool.{both_ways, cond_both, false_from_ne_true, eqb-false}
use Rattle.std.proofs.lemmas.List.{append-nil, length-append, nil_from_length}
use Rattle.std.proofs.lemmas.Str.{chars-nil}
use Rattle.atom_values.specs.XmlText.{IsXmlText}
use Rattle.xml_tokens.specs.declared.cursor.Cursor.{Cursor}
use Rattle.xml_tokens.specs.declared.cursor.Lapse.{Lapse}
use Rattle.xml_tokens.specs.declared.cursor.Lapse.TheVariants.{Broken, Cut, NoMemory as OutOfMemory}
use Rattle.xml_tokens.specs.declared.token.Token.{Token as RawToken}
use Rattle.xml_tokens.specs.Reading.{IsForeignRead}
use Rattle.xml_tokens.specs.declared.elements.Elements.{Elements}
use Rattle.xml_tokens.specs.declared.fault.TokenFault.TheVariants.{NotRead}
use Rattle.xml_tokens.specs.declared.fault.TokenWhy.TheVariants.{Doctype, NotWellFormed}
use Rattle.xml_tokens.specs.declared.token.Context.{Context}
use Rattle.xml_tokens.specs.declared.token.Context.TheVariants.{Start as AtStart, Outside, Inside}
use Rattle.xml_tokens.specs.Characters.{IsNamed, begins, name_text}
use Rattle.xml_tokens.specs.Tokens.{Token, IsSpelled}
use Rattle.xml_tokens.specs.Tokens.Token.{declaration, character, referred, section, comment, instruction, opening}
use Rattle.xml_tokens.specs.Tokens.Token.{closing}
use Rattle.xml_tokens.specs.Stages.{Stage, CanStand, IsInnermost, IsInside, Lexeme, lexemes_text}
use Rattle.xml_tokens.specs.Stages.Stage.{start, prolog, inside, epilog}
use Rattle.xml_tokens.specs.Refusal.{Begins, CanGoOn, IsTooDeep}
use Rattle.xml_tokens.specs.Reading.{AreRead, AreSpelled, BeginsAt, IsFitPlace, IsInContent, IsOpening, MayStand}
use Rattle.xml_tokens.specs.Reading.{ReadsToken, Starts, foreign_declaration}
use Rattle.xml_tokens.specs.Progress.{Point, IsAtText, IsFaultFrom, IsPlaceOf, fault_of}
use Rattle.xml_tokens.proofs.BeginLemmas.{begins_from, begins_split}
use Rattle.xml_tokens.proofs.PartLemmas.{nil_back, nil_front}
use Rattle.xml_tokens.proofs.SuffixLemmas.{begins_more, within, xml_ascii}
use Rattle.xml_tokens.proofs.EventLemmas.{closing_place, content_place, start_place}
use Rattle.xml_tokens.proofs.RefusalLemmas.{ends_at, refused_here}
use Rattle.xml_tokens.proofs.DeclaredXmlLemmas.{declared_xml}

broken_memory : Broken ≡ OutOfMemory → ⊥
broken_memory e = cc

cut_memory : Cut ≡ OutOfMemory → ⊥
cut_memory e = cc

-- the lapse of an error
abbrev lapse_in : Result RawToken Lapse → Lapse
lapse_in (Ok token) = OutOfMemory
lapse_in (Err lapse) = lapse

-- a declaration of another encoding isn't read only if memory runs out
pub foreign_memory : (lapse : Lapse) → IsForeignRead (Err lapse) → lapse ≡ OutOfMemory
foreign_memory lapse is = ⊎_elim (λ read. ap lapse_in read) (λ lapsed. ap lapse_in lapsed) is

ends_some : (front end text : List ℕ) → text ≡ front ++ end → (end ≡ [] → ⊥) → text ≢ []
ends_some front end text split some none = some (nil_back front end (sym split ∙ none))

tag_end : (b : Bool) → cond b (codes "/>") (codes ">") ≡ [] → ⊥
tag_end true e = cc
tag_end false e = cc

named_some : (c : ℕ) (text : List ℕ) → IsNamed c text → text ≢ []
named_some c text named none =
    let never : (name : List ℕ) → text ≡ name → (name ≡ [] → ⊥) → ⊥ = λ name is some. some (sym is ∙ none) in
    ⊎_elim
    (λ k. never (codes "&amp;") k.1 (λ e. cc))
    (λ a. ⊎_elim
    (λ k. never (codes "&lt;") k.1 (λ e. cc))
    (λ b. ⊎_elim
    (λ k. never (codes "&gt;") k.1 (λ e. cc))
    (λ d. ⊎_elim
    (λ k. never (codes "&quot;") k.1 (λ e. cc))
    (λ k. never (codes "&apos;") k.1 (λ e. cc))
    d)
    b)
    a)
    named

-- a token has a byte at least
pub spelled_some : (t : Token) (text rest : List ℕ) → IsSpelled t text rest → text ≢ []
spelled_some (declaration encoding) text rest is =
    ends_some (codes "<?xml" ++ is.1.version ++ is.1.encoded ++ is.1.alone ++ is.1.spaces) (codes "?>")
    text is.1.spelled
    (λ e. cc)
spelled_some (character read) text rest is = λ none.
    ⊎_elim
    (λ plain.
    let one = plain.1.is_character.1 in
    let zero : length (chars text) ≡ 0 = ap (λ t. length (chars t)) none ∙ ap length chars-nil in
    omega arith)
    (λ line. ⊎_elim
    (λ both. let bad : 13 ∷ 10 ∷ [] ≡ [] = sym both ∙ none in cc)
    (λ alone. let bad : 13 ∷ [] ≡ [] = sym alone.0 ∙ none in cc)
    line.1)
    is.1
spelled_some (referred c) text rest is = λ none.
    ⊎_elim
    (λ named. named_some c text named none)
    (λ numbered. ⊎_elim
    (λ k. ends_some (codes "&#" ++ k.digits) (codes ";") text k.spelled (λ e. cc) none)
    (λ k. ends_some (codes "&#x" ++ k.digits) (codes ";") text k.spelled (λ e. cc) none)
    numbered)
    is.1.1
spelled_some (section read) text rest is =
    ends_some (codes "<![CDATA[" ++ is.1.inside) (codes "]]>") text is.1.spelled (λ e. cc)
spelled_some comment text rest is = ends_some (codes "<!--" ++ is.1.inside) (codes "-->") text is.1.spelled (λ e. cc)
spelled_some instruction text rest is =
    ends_some (codes "<?" ++ is.1.name ++ is.1.inside) (codes "?>") text is.1.spelled (λ e. cc)
spelled_some (opening tag) text rest is =
    ends_some (codes "<" ++ name_text tag.name ++ is.1.inside ++ is.1.spaces)
    (cond tag.is_empty (codes "/>") (codes ">"))
    text is.1.spelled (tag_end tag.is_empty)
spelled_some (closing name) text rest is =
    ends_some (codes "</" ++ name_text name ++ is.1.spaces) (codes ">") text is.1.spelled (λ e. cc)

begins_less : (p x y : List ℕ) → begins p (x ++ y) ≡ false → begins p x ≡ false
begins_less p x y none =
    false_from_ne_true (begins p x) (λ is.
    both_ways (begins p (x ++ y)) none
    (begins_from p (x ++ y) (drop (length p) x ++ y)
    (ap (λ t. t ++ y) (begins_split p x is) ∙ append_assoc p (drop (length p) x) y)))

-- a token is spelled so before less, too
pub spelled_less : (t : Token) (text rest tail : List ℕ) → IsSpelled t text (rest ++ tail) → IsSpelled t text rest
spelled_less (declaration encoding) text rest tail s = s
spelled_less (referred c) text rest tail s = s
spelled_less (section read) text rest tail s = s
spelled_less comment text rest tail s = s
spelled_less instruction text rest tail s = s
spelled_less (opening tag) text rest tail s = s
spelled_less (closing name) text rest tail s = s
spelled_less (character read) text rest tail s = (
  s.0,
  ⊎_elim
      (λ plain. inl (
        plain.0,
        record {
          is_character = plain.1.is_character;
          no_tag = plain.1.no_tag;
          no_reference = plain.1.no_reference;
          no_line_end = plain.1.no_line_end;
          no_section_end = begins_less (codes "]]>") (text ++ rest) tail
              (ap (begins (codes "]]>")) (append_assoc text rest tail) ∙ plain.1.no_section_end);
        },
      ))
      (λ ending. inr (
        ending.0,
        ⊎_elim
            (λ both. inl both)
            (λ alone. inr (alone.0, begins_less (10 ∷ []) rest tail alone.1))
            ending.1,
      ))
      s.1,
)

content_inside : (place : Context) (s : Stage) → IsPlaceOf place s → IsInside s → IsInContent place
content_inside AtStart s is h = absurd (subst IsInside is h)
content_inside Outside s is h =
    ⊎_elim (λ p. let bad : IsInside prolog = subst IsInside p h in absurd bad)
    (λ p. let bad : IsInside epilog = subst IsInside p h in absurd bad) is
content_inside (Inside name) s is h = tt

inside_content : (place : Context) (s : Stage) → IsPlaceOf place s → IsInContent place → IsInside s
inside_content place s is content =
    let c = content_place place s is content in subst IsInside (sym c.2) tt

pub place_start : (place : Context) (s : Stage) → IsPlaceOf place s → s ≡ start → place ≡ AtStart
place_start AtStart s is e = refl
place_start Outside s is e =
    ⊎_elim (λ p. let bad : prolog ≡ start = sym p ∙ e in absurd cc) (λ p. let bad : epilog ≡ start = sym p
    ∙ e in absurd cc) is
place_start (Inside name) s is e = let bad : inside is.0 is.1 ≡ start = sym is.2 ∙ e in absurd cc

-- a token that is allowed at a stage is allowed at its place
can_may : (most : ℕ) (place : Context) (s : Stage) (t : Token) → IsPlaceOf place s → CanStand most s t →
    MayStand place t
can_may most place s (declaration encoding) is can = (place_start place s is can.0, can.1)
can_may most place s (character read) is can = ⊎_elim (λ h. inl (content_inside place s is h)) (λ spaces. inr spaces) can
can_may most place s (referred c) is can = content_inside place s is can
can_may most place s (section read) is can = content_inside place s is can
can_may most place s comment is can = tt
can_may most place s instruction is can = tt
can_may most place s (opening tag) is can = tt
can_may most AtStart s (closing name) is can = absurd (subst (IsInnermost name) is can)
can_may most Outside s (closing name) is can =
    ⊎_elim (λ p. let bad : IsInnermost name prolog = subst (IsInnermost name) p can in absurd bad)
    (λ p. let bad : IsInnermost name epilog = subst (IsInnermost name) p can in absurd bad) is
can_may most (Inside raw) s (closing name) is can =
    let same : name ≡ is.0.name = subst (IsInnermost name) is.2 can in is.3.0 ∙ ap name_text (sym same)

-- and a token that isn't a tag the other way round
may_can : (most : ℕ) (place : Context) (s : Stage) (t : Token) (front rest : List ℕ) → IsPlaceOf place s → MayStand place t →
    (IsOpening t → ⊥) → IsSpelled t front rest → CanStand most s t
may_can most place s (declaration encoding) front rest is may untagged spelled = (start_place place s is may.0, may.1)
may_can most place s (character read) front rest is may untagged spelled =
    ⊎_elim (λ h. inl (inside_content place s is h)) (λ spaces. inr spaces) may
may_can most place s (referred c) front rest is may untagged spelled = inside_content place s is may
may_can most place s (section read) front rest is may untagged spelled = inside_content place s is may
may_can most place s comment front rest is may untagged spelled = tt
may_can most place s instruction front rest is may untagged spelled = tt
may_can most place s (opening tag) front rest is may untagged spelled = absurd (untagged tt)
may_can most place s (closing name) front rest is may untagged spelled =
    let c = closing_place place s name is may spelled.1.is_name in subst (IsInnermost name) (sym c.2) c.3

doctype_xml : IsXmlText (codes "<!DOCTYPE")
doctype_xml = xml_ascii (codes "<!DOCTYPE") refl (λ e. cc)

-- a comment is allowed at each stage
a_comment_stands : (most : ℕ) (s : Stage) → CanGoOn most s []
a_comment_stands most s = (
  codes "<!---->",
  record {
    token = comment;
    front = codes "<!---->";
    rest = [];
    split = refl;
    spelled = (xml_ascii (codes "<!---->") refl (λ e. cc), record { inside = []; first_end = refl; spelled = refl });
    stands = tt;
  },
)

-- lexemes have a byte at least
pub lexemes_some : (ls : List Lexeme) (after : List ℕ) → AreSpelled ls after → ls ≢ [] → 0 < length (lexemes_text ls)
lexemes_some [] after are some = absurd (some refl)
lexemes_some (l ∷ ls) after are some =
    let long : length l.text ≡ 0 → ⊥ = λ zero. spelled_some l.token l.text _ are.0 (nil_from_length l.text zero) in
    let parts = length-append l.text (lexemes_text ls) in
    omega arith

pub read_shorter : (place : Context) (before : List ℕ) (ls : List Lexeme) (after : List ℕ) →
    AreRead place before ls after → length after < length before
read_shorter place before ls after read =
    let long = lexemes_some ls after read.spelled read.some in
    let whole = ap length read.split in
    let parts = length-append (lexemes_text ls) after in
    omega arith

-- a reader whose cursor is moved is at the same point
pub moved : (e : Elements) (cursor : Cursor) (before : List ℕ) (from : Point) → IsAtText e before from →
    IsAtText (record e { cursor = cursor }) before from
moved e cursor before from x = record {
  opened = x.opened;
  tail = x.tail;
  most = x.most;
  range = x.range;
  stage = x.stage;
  names = x.names;
  scopes = x.scopes;
  depth = x.depth;
  text = x.text;
  xml = x.xml;
  behind = x.behind;
  at = x.at;
  whole = x.whole;
}

-- the name of the innermost open element
pub fit_place : (place : Context) (s : Stage) → IsPlaceOf place s → IsFitPlace place
fit_place AtStart s is = tt
fit_place Outside s is = tt
fit_place (Inside name) s is = (is.3.2, (is.0.name, is.3.1, is.3.0))

module _ (from : Point) (old : Elements) (before : List ℕ) (x : IsAtText old before from) (place : Context)
    (is : IsPlaceOf place from.stage) (some : before ≢ []) where
  text_some : from.text ≡ [] → from.stage ≢ epilog
  text_some none stage = some (nil_front before x.tail (sym x.text ∙ none))

  on : Begins from.most from.stage from.text → CanGoOn from.most from.stage from.text
  on b = (
    [],
    record {
      token = b.token;
      front = b.front;
      rest = b.rest;
      split = append-nil from.text ∙ b.split;
      spelled = b.spelled;
      stands = b.stands;
    },
  )

  -- a token that the text or a continuation of it begins with, within the reader's text if something follows that
  in_text : x.tail ≢ [] → (t : Token) (more front rest : List ℕ) → from.text ++ more ≡ front ++ rest →
      IsSpelled t front rest → MayStand place t → BeginsAt place before
  in_text tail t more front rest e spelled may =
      let in_x = within before x.tail more front rest x.xml x.behind tail (ap (λ t. t ++ more) (sym x.text)
      ∙ e) spelled.0
      in
      record {
        token = t;
        front = front;
        rest = in_x.0;
        split = in_x.1;
        spelled = spelled_less t front in_x.0 (x.tail ++ more)
            (subst (IsSpelled t front) (in_x.2 ∙ append_assoc in_x.0 x.tail more) spelled);
        stands = may;
      }

  foreign_within : (place ≡ AtStart → Starts foreign_declaration before → ⊥) → from.stage ≡ start →
      Starts foreign_declaration from.text → ⊥
  foreign_within never begun foreign =
      let found = foreign.2 in
      let at : (tail : List ℕ) → x.tail ≡ tail → Starts foreign_declaration before = λ tail.
      elim tail as (λ tail. x.tail ≡ tail → Starts foreign_declaration before) [
        | [] ↦ λ none.
            let same : from.text ≡ before = x.text ∙ ap (λ t. before ++ t) none ∙ append-nil before in
            (tt, foreign.1, record { front = found.front; split = sym same ∙ found.split; spelled = found.spelled })
        | k ∷ ks ↦ λ more.
            let in_x = within before x.tail [] found.front foreign.1 x.xml x.behind
            (λ e. let bad : k ∷ ks ≡ [] = sym more ∙ e in cc)
            (append-nil (before ++ x.tail) ∙ sym x.text ∙ found.split)
            (declared_xml found.spelled.0 found.front found.spelled.1) in
            (tt, in_x.0, record { front = found.front; split = in_x.1; spelled = found.spelled })
      ] in
      never (place_start place from.stage is begun) (at x.tail refl)

  -- no token is allowed, and no tag
  refused : (at : ℕ) → at ≡ from.at → (CanGoOn from.most from.stage from.text → ⊥) →
      (IsTooDeep from.most from.stage from.text → ⊥) →
      (from.stage ≡ start → Starts foreign_declaration from.text → ⊥) →
      IsFaultFrom old.length from
      (cond (begins (codes "<!DOCTYPE") before) (NotRead at Doctype) (NotRead at NotWellFormed))
  refused at here none shallow foreign =
      cond_both (begins (codes "<!DOCTYPE") before) (NotRead at Doctype) (NotRead at NotWellFormed)
      (IsFaultFrom old.length from)
      (λ doctype.
      let r = drop (length (codes "<!DOCTYPE")) before in
      let split = begins_split (codes "<!DOCTYPE") before doctype in
      let whole : begins (codes "<!DOCTYPE") from.text ≡ true =
      begins_from (codes "<!DOCTYPE") from.text (r ++ x.tail)
      (x.text ∙ ap (λ t. t ++ x.tail) split ∙ append_assoc (codes "<!DOCTYPE") r x.tail) in
      refused_here old.length from at Doctype (λ b. none (on b)) text_some
      (inr (none, here ∙ ends_at from old before x, inl (whole, refl))) foreign)
      (λ other.
      let whole : begins (codes "<!DOCTYPE") from.text ≡ false =
      ap (begins (codes "<!DOCTYPE")) x.text
      ∙ begins_more (codes "<!DOCTYPE") before x.tail doctype_xml x.xml x.behind other in
      refused_here old.length from at NotWellFormed (λ b. none (on b)) text_some
      (inr (none, here ∙ ends_at from old before x, inr (inr (whole, shallow, refl)))) foreign)

  -- a token that can't be read is refused
  pub step_fault : (at : ℕ) (lapse : Lapse) (after : List ℕ) → ReadsToken place before (Err lapse) after →
      (place ≡ AtStart → Starts foreign_declaration before → lapse ≡ OutOfMemory) → at ≡ from.at →
      IsFaultFrom old.length from (fault_of old.end old.length at before lapse)
  step_fault at OutOfMemory after read foreign here = tt
  step_fault at Broken after read foreign here =
      let far : (more front rest : List ℕ) → from.text ++ more ≡ front ++ rest → before
      ++ (x.tail ++ more) ≡ front ++ rest =
      λ more front rest e. sym (append_assoc before x.tail more) ∙ ap (λ t. t ++ more) (sym x.text) ∙ e in
      refused at here
      (λ can.
      let b = can.1 in
      read (x.tail ++ can.0) (record {
        token = b.token;
        front = b.front;
        rest = b.rest;
        split = far can.0 b.front b.rest b.split;
        spelled = b.spelled;
        stands = can_may from.most place from.stage b.token is b.stands;
      }))
      (λ deep.
      read (x.tail ++ deep.more) (record {
        token = opening deep.tag;
        front = deep.front;
        rest = deep.rest;
        split = far deep.more deep.front deep.rest deep.split;
        spelled = (deep.xml, deep.is_tag);
        stands = tt;
      }))
      (foreign_within (λ begun some. broken_memory (foreign begun some)))
  step_fault at Cut after read foreign here =
      cond_both (old.end == old.length) (NotRead old.length NotWellFormed)
      (cond (begins (codes "<!DOCTYPE") before) (NotRead at Doctype) (NotRead at NotWellFormed))
      (IsFaultFrom old.length from)
      (λ same.
      let long = eqb-true old.end old.length same in
      let whole = x.whole in
      let tail : x.tail ≡ [] = nil_from_length x.tail (omega arith) in
      let text : from.text ≡ before = x.text ∙ ap (λ t. before ++ t) tail ∙ append-nil before in
      let c = read.1 in
      let b = c.1 in
      let can : CanGoOn from.most from.stage from.text = (
        c.0,
        record {
          token = b.token;
          front = b.front;
          rest = b.rest;
          split = ap (λ t. t ++ c.0) text ∙ b.split;
          spelled = b.spelled;
          stands = may_can from.most place from.stage b.token b.front b.rest is b.stands c.2 b.spelled;
        },
      ) in
      refused_here old.length from old.length NotWellFormed
      (λ k. read.0 (record {
        token = k.token;
        front = k.front;
        rest = k.rest;
        split = sym text ∙ k.split;
        spelled = k.spelled;
        stands = can_may from.most place from.stage k.token is k.stands;
      }))
      text_some (inl (can, refl, refl)) (foreign_within (λ begun some. cut_memory (foreign begun some))))
      (λ other.
      let tail : x.tail ≢ [] = λ none.
      let zero = ap length none in
      let whole = x.whole in
      eqb-false old.end old.length other (omega arith) in
      refused at here
      (λ can.
      let b = can.1 in
      read.0 (in_text tail b.token can.0 b.front b.rest b.split b.spelled
      (can_may from.most place from.stage b.token is b.stands)))
      (λ deep. read.0 (in_text tail (opening deep.tag) deep.more deep.front deep.rest deep.split
      (deep.xml, deep.is_tag) tt))
      (foreign_within (λ begun some. cut_memory (foreign begun some))))

-- the reader's text ends here
pub step_end : (from : Point) (old : Elements) (x : IsAtText old [] from) (at : ℕ) →
    (from.text ≡ [] → from.stage ≢ epilog) → at ≡ from.at →
    IsFaultFrom old.length from (fault_of old.end old.length at [] Cut)
step_end from old x at more here =
    let nothing : x.tail ≢ [] → (later front rest : List ℕ) → from.text ++ later ≡ front ++ rest → IsXmlText front →
    front ≡ [] = λ tail later front rest e xml.
    x.behind front rest later tail (ap (λ t. t ++ later) (sym x.text) ∙ e) xml in
    cond_both (old.end == old.length) (NotRead old.length NotWellFormed) (NotRead at NotWellFormed)
    (IsFaultFrom old.length from)
    (λ same.
    let long = eqb-true old.end old.length same in
    let whole = x.whole in
    let tail : x.tail ≡ [] = nil_from_length x.tail (omega arith) in
    let text : from.text ≡ [] = x.text ∙ tail in
    refused_here old.length from old.length NotWellFormed
    (λ b. spelled_some b.token b.front b.rest b.spelled (nil_front b.front b.rest (sym b.split ∙ text))) more
    (inl (subst (CanGoOn from.most from.stage) (sym text) (a_comment_stands from.most from.stage), refl, refl))
    (λ begun foreign.
    let found = foreign.2 in
    spelled_some (declaration found.spelled.0) found.front foreign.1
    (declared_xml found.spelled.0 found.front found.spelled.1, found.spelled.1)
    (nil_front found.front foreign.1 (sym found.split ∙ text))))
    (λ other.
    let tail : x.tail ≢ [] = λ none.
    let zero = ap length none in
    let whole = x.whole in
    eqb-false old.end old.length other (omega arith) in
    let none : CanGoOn from.most from.stage from.text → ⊥ = λ can.
    let b = can.1 in
    spelled_some b.token b.front b.rest b.spelled (nothing tail can.0 b.front b.rest b.split b.spelled.0) in
    refused_here old.length from at NotWellFormed
    (λ b. spelled_some b.token b.front b.rest b.spelled
    (nothing tail [] b.front b.rest (append-nil from.text ∙ b.split) b.spelled.0)) more
    (inr (
      none,
      here ∙ ends_at from old [] x,
      inr (inr (
        ap (begins (codes "<!DOCTYPE")) x.text
            ∙ false_from_ne_true (begins (codes "<!DOCTYPE") x.tail) (λ doctype.
            let split = begins_split (codes "<!DOCTYPE") x.tail doctype in
            let bad = nothing tail [] (codes "<!DOCTYPE") (drop (length (codes "<!DOCTYPE")) x.tail)
            (append-nil from.text ∙ x.text ∙ split) doctype_xml in cc),
        (λ deep. spelled_some (opening deep.tag) deep.front deep.rest (deep.xml, deep.is_tag)
            (nothing tail deep.more deep.front deep.rest deep.split deep.xml)),
        refl,
      )),
    ))
    (λ begun foreign.
    let found = foreign.2 in
    let xml = declared_xml found.spelled.0 found.front found.spelled.1 in
    spelled_some (declaration found.spelled.0) found.front foreign.1 (xml, found.spelled.1)
    (nothing tail [] found.front foreign.1 (append-nil from.text ∙ found.split) xml)))

-- two facts of an `Ok` give a third
pub ok_both : {A E : Type 0} (P Q S : Type 0) (r : Result A E) → OnOk r P → OnOk r Q → (P → Q → S) → OnOk r S
ok_both P Q S (Ok v) p q both = both p q
ok_both P Q S (Err e) p q both = tt
