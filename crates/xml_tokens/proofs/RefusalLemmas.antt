-- TokenWhy a tag is refused.
use Rattle.std.proofs.Common.{◌≡◌, ◌≢◌, ◌<◌, ◌-◌, ◌⊎◌, ℕ, List, [], ◌∷◌, ◌++◌, length, drop, true, false, refl, sym, ap}
use Rattle.std.proofs.Common.{subst, ◌∙◌}
use Rattle.std.proofs.Common.{append_assoc, arith, inl, inr, ⊎_elim, Bool, Option, Some, None, Ok, Err, option_map}
use Rattle.std.proofs.Common.{◌&&◌, ◌||◌, not, cond, IsTrue, nat_lt, codes, lit<}
use Rattle.std.specs.Prelude.{filter_map, is_some, Result}
use Rattle.std.proofs.Common.{reverse, bytes_eq}
use Rattle.std.specs.List.{AllZip}
use Rattle.std.specs.Borrow.{Bor}
use Rattle.xml_tokens.specs.Stages.{Lexeme, Scope, declared, inner_scope, namespace_of, outer_scope}
use Rattle.xml_tokens.specs.Reading.{AreRead, Continues, IsTagRead, own_tag}
use Rattle.std.specs.Option.{option_or}
use Rattle.xml_tokens.specs.Scopes.{AreScopesOf, OpensScope, found_in, scope_of}
use Rattle.xml_tokens.proofs.ScopeLemmas.{found_of}
use Rattle.xml_tokens.specs.declared.scopes.Scopes.{Scopes}
use Rattle.xml_tokens.specs.Reading.{IsCutAtSlash, IsTagOf, kind_of}
use Rattle.xml_tokens.specs.Progress.{emptiness}
use Rattle.std.proofs.lemmas.Bool.{cases_Bool, cond-true, cond-false, and_parts, or_cases, or_parts, ltb-true}
use Rattle.std.proofs.lemmas.Bool.{ltb-false, both_ways, false_from_ne_true}
use Rattle.std.proofs.lemmas.List.{append-nil, length-append, length-reverse, nil_from_length}
use Rattle.std.proofs.lemmas.Slice.Zip.{AllZip-long}
use Rattle.atom_values.specs.XmlText.{IsXmlText}
use Rattle.xml_tokens.specs.declared.elements.Elements.{Elements}
use Rattle.xml_tokens.specs.declared.elements.Stage.{Stage as RawStage}
use Rattle.xml_tokens.specs.declared.elements.Stage.TheVariants.{Start, Prolog, Root}
use Rattle.xml_tokens.specs.declared.fault.TokenFault.{TokenFault}
use Rattle.xml_tokens.specs.declared.fault.TokenFault.TheVariants.{NotRead}
use Rattle.xml_tokens.specs.declared.fault.TokenWhy.{TokenWhy}
use Rattle.xml_tokens.specs.declared.fault.TokenWhy.TheVariants.{NotWellFormed, TooDeep}
use Rattle.xml_tokens.specs.declared.scopes.Namespace.{Namespace}
use Rattle.xml_tokens.specs.declared.tag.Tag.{Tag as RawTag}
use Rattle.xml_tokens.specs.declared.tag.TagEnd.{TagEnd}
use Rattle.xml_tokens.specs.declared.tag.TagEnd.TheVariants.{Open as WholeTag, Empty as EmptyTag, Cut as CutTag}
use Rattle.xml_tokens.specs.declared.tag.TagEnd.TheVariants.{CutAtSlash}
use Rattle.xml_tokens.specs.declared.token.Context.{Context}
use Rattle.xml_tokens.specs.Characters.{QName, IsQName, IsName, begins, begins_name, name_text}
use Rattle.xml_tokens.specs.Tokens.{Tag, Token, IsSpelled, IsTag}
use Rattle.xml_tokens.specs.Tokens.Token.{declaration, character, referred, section, comment, instruction, opening}
use Rattle.xml_tokens.specs.Tokens.Token.{closing}
use Rattle.xml_tokens.specs.Stages.{Stage, Open, CanBegin, CanStand, MayBegin, open_in, scope_in}
use Rattle.xml_tokens.specs.Stages.Stage.{start, epilog}
use Rattle.xml_tokens.specs.Refusal.{Begins, CanGoOn, IsTooDeep, IsTokenFault}
use Rattle.xml_tokens.specs.Reading.{IsOpening, IsTagOnly, IsTagTo, Starts, a_tag, foreign_declaration}
use Rattle.xml_tokens.specs.Progress.{Point, IsAtText, IsFaultFrom, IsNameOfOpen, IsRefusal, IsStageOf, admission}
use Rattle.xml_tokens.specs.Progress.{admission_of_cut, is_cut, is_past_root}
use Rattle.xml_tokens.proofs.BeginLemmas.{begins_split}
use Rattle.xml_tokens.proofs.SuffixLemmas.{within, xml_one}
use Rattle.xml_tokens.proofs.BeginTagLemmas.{IsAdmitted, kept_open, lawful, may_begin, some_of}
use Rattle.xml_tokens.proofs.OneTokenLemmas.{one_token}
use Rattle.xml_tokens.proofs.DeclaredXmlLemmas.{declared_xml}

-- nothing is allowed here
pub refused_here : (total : ℕ) (from : Point) (at : ℕ) (why : TokenWhy) → (Begins from.most from.stage from.text → ⊥) →
    (from.text ≡ [] → from.stage ≢ epilog) →
    (CanGoOn from.most from.stage from.text × (at ≡ total) × (why ≡ NotWellFormed))
    ⊎ ((CanGoOn from.most from.stage from.text → ⊥) × (at ≡ total - length from.text)
    × IsTokenFault from.most from.stage from.text why) →
    (from.stage ≡ start → Starts foreign_declaration from.text → ⊥) → IsRefusal total from at why
refused_here total from at why none more place foreign = inl (
  record {
    lexemes = [];
    rest = from.text;
    stuck = record { split = refl; stand = tt; no_more = none; unfinished = more };
    place = place;
  },
  foreign,
)

-- where the text ends
pub ends_at : (from : Point) (old : Elements) (before : List ℕ) (x : IsAtText old before from) →
    from.at ≡ old.length - length from.text
ends_at from old before x =
    let text = ap length x.text in
    let parts = length-append before x.tail in
    let at = x.at in
    let whole = x.whole in
    omega arith

pub no_tail : (from : Point) (old : Elements) (before : List ℕ) (x : IsAtText old before from) →
    nat_lt old.end old.length ≡ false → x.tail ≡ []
no_tail from old before x short =
    let long = ltb-false old.end old.length short in
    let whole = x.whole in
    nil_from_length x.tail (omega arith)

pub some_tail : (from : Point) (old : Elements) (before : List ℕ) (x : IsAtText old before from) →
    nat_lt old.end old.length ≡ true → x.tail ≢ []
some_tail from old before x short none =
    let long = ltb-true old.end old.length short in
    let whole = x.whole in
    let zero = ap length none in
    omega arith

-- the first two bytes of a tag
name_first : (text : List ℕ) → IsName text → (n : ℕ) × (xs : List ℕ) × (text ≡ n ∷ xs) × (begins_name n ≡ true)
name_first [] is = absurd (both_ways false refl is)
name_first (n ∷ xs) is = (n, xs, refl, (and_parts (begins_name n) _ is).0)

qname_first : (prefix local : List ℕ) → (prefix ≡ []) ⊎ IsName prefix → IsName local →
    (n : ℕ) × (xs : List ℕ) × (name_text (record { prefix = prefix; local = local }) ≡ n ∷ xs) × (begins_name n ≡ true)
qname_first [] local is_p is_l = name_first local is_l
qname_first (b ∷ bs) local is_p is_l =
    ⊎_elim
    (λ none. let bad : b ∷ bs ≡ [] = none in absurd cc)
    (λ some. (b, bs ++ 58 ∷ local, refl, (and_parts (begins_name b) _ some).0))
    is_p

pub tag_first : (tag : Tag) (text : List ℕ) → IsTag tag text →
    (n : ℕ) × (xs : List ℕ) × (text ≡ 60 ∷ n ∷ xs) × (begins_name n ≡ true)
tag_first tag text is =
    let q = qname_first tag.name.prefix tag.name.local is.name.0 is.name.1 in
    let tail = cond tag.is_empty (codes "/>") (codes ">") in (
      q.0,
      q.1 ++ is.inside ++ is.spaces ++ tail,
      is.spelled ∙ ap (λ xs. (60 ∷ xs) ++ is.inside ++ is.spaces ++ tail) q.2,
      q.3,
    )

open_token : (most : ℕ) (t : Token) (front rest : List ℕ) (s : Stage) → IsOpening t → IsSpelled t front rest →
    CanStand most s t →
    (tag : Tag) × IsSpelled (opening tag) front rest × CanBegin most s tag
open_token most (declaration encoding) front rest s is spelled stands = absurd is
open_token most (character read) front rest s is spelled stands = absurd is
open_token most (referred c) front rest s is spelled stands = absurd is
open_token most (section read) front rest s is spelled stands = absurd is
open_token most comment front rest s is spelled stands = absurd is
open_token most instruction front rest s is spelled stands = absurd is
open_token most (opening tag) front rest s is spelled stands = (tag, spelled, stands)
open_token most (closing name) front rest s is spelled stands = absurd is

-- a tag that some continuation of the text begins with
abbrev pub HasTag : List ℕ → Type 0
HasTag before = (more : List ℕ) × (tag : Tag) × (front : List ℕ) × (rest : List ℕ) × (before ++ more ≡ front ++ rest)
    × IsTag tag front

module _ (from : Point) (old : Elements) (before : List ℕ) (x : IsAtText old before from) (only : IsTagOnly before)
    (some : before ≢ []) where
  -- no tag that the text or a continuation of it begins with is allowed
  abbrev pub NoTag : Type 0
  NoTag = (tag : Tag) (more front rest : List ℕ) → from.text ++ more ≡ front ++ rest →
      IsSpelled (opening tag) front rest →
      CanBegin from.most from.stage tag → ⊥

  apart : (more front rest : List ℕ) → from.text ++ more ≡ front ++ rest → before ++ (x.tail ++ more) ≡ front ++ rest
  apart more front rest e = sym (append_assoc before x.tail more) ∙ ap (λ t. t ++ more) (sym x.text) ∙ e

  pub goes_on : NoTag → CanGoOn from.most from.stage from.text → ⊥
  goes_on none can =
      let b = can.1 in
      let one = open_token from.most b.token b.front b.rest from.stage
      (only (x.tail ++ can.0) b.token b.front b.rest (apart can.0 b.front b.rest b.split) b.spelled)
      b.spelled b.stands in
      none one.0 can.0 b.front b.rest b.split one.1 one.2

  pub begins_on : Begins from.most from.stage from.text → CanGoOn from.most from.stage from.text
  begins_on b = (
    [],
    record {
      token = b.token;
      front = b.front;
      rest = b.rest;
      split = append-nil from.text ∙ b.split;
      spelled = b.spelled;
      stands = b.stands;
    },
  )

  pub tag_foreign : from.stage ≡ start → Starts foreign_declaration from.text → ⊥
  tag_foreign begun foreign =
      let found = foreign.2 in
      only (x.tail ++ []) (declaration found.spelled.0) found.front foreign.1
      (apart [] found.front foreign.1 (append-nil from.text ∙ found.split))
      (declared_xml found.spelled.0 found.front found.spelled.1, found.spelled.1)

  text_some : from.text ≡ [] → from.stage ≢ epilog
  text_some none stage =
      some (nil_from_length before (let text = ap length (sym x.text ∙ none) in
      omega (arith, length-append before x.tail)))

  no_doctype : HasTag before → begins (codes "<!DOCTYPE") from.text ≡ false
  no_doctype has =
      false_from_ne_true (begins (codes "<!DOCTYPE") from.text) (λ is.
      let split = begins_split (codes "<!DOCTYPE") from.text is in
      let r = drop (length (codes "<!DOCTYPE")) from.text in
      let first = tag_first has.1 has.2 has.5 in
      let at : (b : List ℕ) → b ≢ [] → b ++ has.0 ≡ 60 ∷ first.0 ∷ (first.1 ++ has.3) →
      b ++ x.tail ≡ codes "<!DOCTYPE" ++ r → ⊥ = λ b.
      elim b as (λ b. b ≢ [] → b ++ has.0 ≡ 60 ∷ first.0 ∷ (first.1 ++ has.3) →
      b ++ x.tail ≡ codes "<!DOCTYPE" ++ r → ⊥) [
        | [] ↦ λ none tag doctype. none refl
        | k ∷ ks ↦ elim ks as (λ ks. k ∷ ks ≢ [] → (k ∷ ks) ++ has.0 ≡ 60 ∷ first.0 ∷ (first.1 ++ has.3) →
            (k ∷ ks) ++ x.tail ≡ codes "<!DOCTYPE" ++ r → ⊥) [
              | [] ↦ λ none tag doctype.
                  let tail : x.tail ≡ 33 ∷ (codes "DOCTYPE" ++ r) = cc in
                  let nil : 33 ∷ [] ≡ [] =
                  x.behind (33 ∷ []) (codes "DOCTYPE" ++ r) [] (λ e. let bad : 33 ∷ (codes "DOCTYPE" ++ r) ≡ [] =
                  sym tail ∙ e in cc)
                  (append-nil x.tail ∙ tail) (xml_one 33 (lit< tt) refl) in
                  cc
              | m ∷ ms ↦ λ none tag doctype.
                  let one : m ≡ first.0 = cc in
                  let two : m ≡ 33 = cc in
                  let N : ℕ → Type 0 = λ n. begins_name n ≡ true in
                  both_ways false refl (subst N (sym one ∙ two) first.3)
            ]
      ] in
      at before some (has.4 ∙ ap (λ f. f ++ has.3) first.2) (sym x.text ∙ split))

  -- no tag is allowed here
  pub tag_refused : (at : ℕ) (why : TokenWhy) → at ≡ from.at → NoTag → IsTokenFault from.most from.stage from.text why →
      IsRefusal old.length from at why
  tag_refused at why here none fault =
      refused_here old.length from at why (λ b. goes_on none (begins_on b)) text_some
      (inr (goes_on none, here ∙ ends_at from old before x, fault)) tag_foreign

  -- it isn't one level too deep
  pub not_deep : HasTag before → (IsTooDeep from.most from.stage from.text → ⊥) →
      IsTokenFault from.most from.stage from.text NotWellFormed
  not_deep has shallow = inr (inr (no_doctype has, shallow, refl))

  -- the text ends within a tag that could stand
  pub cut_refused : (Starts a_tag before → ⊥) → x.tail ≡ [] → CanGoOn from.most from.stage from.text →
      IsRefusal old.length from old.length NotWellFormed
  cut_refused none tail can =
      let same : from.text ≡ before = x.text ∙ ap (λ t. before ++ t) tail ∙ append-nil before in
      refused_here old.length from old.length NotWellFormed
      (λ b.
      let one = open_token from.most b.token b.front b.rest from.stage
      (only (x.tail ++ []) b.token b.front b.rest (apart [] b.front b.rest (append-nil from.text ∙ b.split)) b.spelled)
      b.spelled b.stands in
      none (one.0, b.rest, record { front = b.front; split = sym same ∙ b.split; spelled = one.1.1 }))
      text_some (inl (can, refl, refl)) tag_foreign

  -- the input goes on with no XML character after a tag in which the text ends
  pub cut_short : x.tail ≢ [] → (Starts a_tag before → ⊥) → NoTag × (IsTooDeep from.most from.stage from.text → ⊥)
  cut_short tail none =
      let found : (tag : Tag) (more front rest : List ℕ) → from.text ++ more ≡ front ++ rest → IsXmlText front →
      IsTag tag front → ⊥ = λ tag more front rest e xml is.
      let in_x = within before x.tail more front rest x.xml x.behind tail (ap (λ t. t ++ more) (sym x.text) ∙ e) xml in
      none (tag, in_x.0, record { front = front; split = in_x.1; spelled = is }) in (
        λ tag more front rest e spelled can. found tag more front rest e spelled.0 spelled.1,
        λ deep. found deep.tag deep.more deep.front deep.rest deep.split deep.xml deep.is_tag,
      )

read_tag : (place : Context) (before : List ℕ) (b : Bool) (raw : RawTag) (after : List ℕ) →
    IsTagRead place before b raw after → HasTag before
read_tag place before b raw after r =
    let l : Lexeme = record { token = opening r.tag; text = r.alone.0 } in
    let one : AreRead place before (l ∷ []) after = subst (λ ls. AreRead place before ls after) r.alone.1 r.read in
    ([], r.tag, l.text, after, append-nil before ∙ one.split ∙ append_assoc l.text [] after, one.spelled.0.1)

whole_deep : (from : Point) (old : Elements) (before : List ℕ) (x : IsAtText old before from)
    (place : Context) (b : Bool)
    (raw : RawTag) (after : List ℕ) → IsTagRead place before b raw after → length (open_in from.stage) ≡ from.most →
    IsTooDeep from.most from.stage from.text
whole_deep from old before x place b raw after r deep =
    let l : Lexeme = record { token = opening r.tag; text = r.alone.0 } in
    let one : AreRead place before (l ∷ []) after = subst (λ ls. AreRead place before ls after) r.alone.1 r.read in
    record {
      deep = deep;
      more = [];
      tag = r.tag;
      front = l.text;
      rest = after ++ x.tail;
      split = append-nil from.text ∙ x.text ∙ ap (λ t. t ++ x.tail) (one.split ∙ append_assoc l.text [] after)
          ∙ append_assoc l.text after x.tail;
      xml = one.spelled.0.0;
      is_tag = one.spelled.0.1;
    }

past_start : (items : List (Bor (List ℕ))) → is_past_root Start items ≡ true → ⊥
past_start [] past = both_ways false refl past
past_start (k ∷ ks) past = both_ways false refl past

past_prolog : (items : List (Bor (List ℕ))) → is_past_root Prolog items ≡ true → ⊥
past_prolog [] past = both_ways false refl past
past_prolog (k ∷ ks) past = both_ways false refl past

past_items : (items : List (Bor (List ℕ))) → is_past_root Root items ≡ true → items ≡ []
past_items [] past = refl
past_items (k ∷ ks) past = absurd (both_ways false refl past)

-- the tag that is read has a spelling
has_tag : (end : TagEnd) (place : Context) (before : List ℕ) (raw : RawTag) (after : List ℕ) →
    IsTagTo end place before raw after → HasTag before
has_tag WholeTag place before raw after r = read_tag place before false raw after r
has_tag EmptyTag place before raw after r = read_tag place before true raw after r
has_tag CutTag place before raw after r =
    let c = r.1 in
    let found = c.1.2 in
    (c.0, c.1.0, found.front, c.1.1, found.split, found.spelled.0.1)
has_tag CutAtSlash place before raw after r =
    (codes ">", r.tag, before ++ codes ">", [], sym (append-nil (before ++ codes ">")), r.spelled.1)

no_start : (end : TagEnd) (place : Context) (before : List ℕ) (raw : RawTag) (after : List ℕ) → is_cut end ≡ true →
    IsTagTo end place before raw after → Starts a_tag before → ⊥
no_start WholeTag place before raw after cut r = absurd (both_ways false refl cut)
no_start EmptyTag place before raw after cut r = absurd (both_ways false refl cut)
no_start CutTag place before raw after cut r = r.0
no_start CutAtSlash place before raw after cut r = r.none

past_stage : (raw : RawStage) (opened : List Open) (items : List (Bor (List ℕ))) (s : Stage) →
    IsStageOf raw false opened s → AllZip IsNameOfOpen opened (reverse items) →
    is_past_root raw items ≡ true → s ≡ epilog
past_stage Start opened items s is names past = absurd (past_start items past)
past_stage Prolog opened items s is names past = absurd (past_prolog items past)
past_stage Root [] items s is names past = is
past_stage Root (e ∷ outer) items s is names past =
    let none = past_items items past in
    let bad : AllZip IsNameOfOpen (e ∷ outer) (reverse []) =
    subst (λ k. AllZip IsNameOfOpen (e ∷ outer) (reverse k)) none names
    in absurd bad

-- a tag that is allowed, but for its prefix
can_begin : (from : Point) (old : Elements) (before : List ℕ) (x : IsAtText old before from) → old.empty ≡ false →
    is_past_root old.stage old.names.items ≡ false → length old.names.items < old.most → (tag : Tag) →
    IsTrue (is_some (namespace_of (inner_scope (scope_in from.stage) tag) tag.name.prefix)) →
    CanBegin from.most from.stage tag
can_begin from old before x told inside shallow tag set =
    let kept : IsStageOf old.stage false x.opened from.stage =
    subst (λ b. IsStageOf old.stage b x.opened from.stage) told x.stage in
    let k = kept_open old.stage x.opened from.stage kept in
    let zipped = AllZip-long IsNameOfOpen x.opened (reverse old.names.items) x.names in
    let long = length-reverse old.names.items in
    let open_long = ap length k.0 in
    let most = x.most in
    record {
      may = may_begin old.stage x.opened old.names.items from.stage kept x.names inside;
      depth = omega arith;
      set = set;
    }

some_append : (own s t : Scope) (p : List ℕ) →
    (is_some (namespace_of s p) ≡ true → is_some (namespace_of t p) ≡ true) →
    is_some (namespace_of (own ++ s) p) ≡ true → is_some (namespace_of (own ++ t) p) ≡ true
some_append [] s t p more = more
some_append (b ∷ own) s t p more = elim (bytes_eq b.prefix p) as (λ c.
    is_some (cond c (Some b.namespace) (namespace_of (own ++ s) p)) ≡ true →
    is_some (cond c (Some b.namespace) (namespace_of (own ++ t) p)) ≡ true)
    [ true ↦ λ e. e | false ↦ some_append own s t p more ]

some_kind : (x : Option (List ℕ)) → is_some (option_map kind_of x) ≡ is_some x
some_kind None = refl
some_kind (Some x) = refl

some_or : (x y : Option Namespace) → is_some y ≡ true → is_some (option_or x y) ≡ true
some_or None y some = some
some_or (Some x) y some = refl

-- a namespace that is set outside the root is set in each element
outer_some : (opened : List Open) (scopes : Scopes) (p : List ℕ) → AreScopesOf opened scopes →
    is_some (namespace_of outer_scope p) ≡ true → is_some (namespace_of (scope_of opened) p) ≡ true
outer_some opened scopes p are some =
    let found = found_of opened (reverse scopes.declared.items) are.2 p in
    let outside = namespace_of outer_scope p in
    sym (some_kind (namespace_of (scope_of opened) p)) ∙ ap is_some (sym found)
    ∙ some_or (found_in (reverse scopes.declared.items) p) (option_map kind_of outside) (some_kind outside ∙ some)

-- a tag with this end whose text goes on
deep_tag : (from : Point) (old : Elements) (before : List ℕ) (x : IsAtText old before from) (end : TagEnd)
    (place : Context)
    (raw : RawTag) (after : List ℕ) → (is_cut end && nat_lt old.end old.length) ≡ false →
    IsTagTo end place before raw after → length (open_in from.stage) ≡ from.most →
    IsTooDeep from.most from.stage from.text
deep_tag from old before x WholeTag place raw after short r deep =
    whole_deep from old before x place false raw after r deep
deep_tag from old before x EmptyTag place raw after short r deep =
    whole_deep from old before x place true raw after r deep
deep_tag from old before x CutTag place raw after short r deep =
    let c = r.1 in
    let found = c.1.2 in
    let same : from.text ≡ before =
    x.text ∙ ap (λ t. before ++ t) (no_tail from old before x short) ∙ append-nil before in
    record {
      deep = deep;
      more = c.0;
      tag = c.1.0;
      front = found.front;
      rest = c.1.1;
      split = ap (λ t. t ++ c.0) same ∙ found.split;
      xml = found.spelled.0.0;
      is_tag = found.spelled.0.1;
    }
deep_tag from old before x CutAtSlash place raw after short r deep =
    let same : from.text ≡ before =
    x.text ∙ ap (λ t. before ++ t) (no_tail from old before x short) ∙ append-nil before in
    record {
      deep = deep;
      more = codes ">";
      tag = r.tag;
      front = before ++ codes ">";
      rest = [];
      split = ap (λ t. t ++ codes ">") same ∙ sym (append-nil (before ++ codes ">"));
      xml = r.spelled.0;
      is_tag = r.spelled.1;
    }

cut_goes : (from : Point) (old : Elements) (before : List ℕ) (x : IsAtText old before from) → old.empty ≡ false →
    is_past_root old.stage old.names.items ≡ false → length old.names.items < old.most → x.tail ≡ [] →
    Continues own_tag before → CanGoOn from.most from.stage from.text
cut_goes from old before x told inside shallow tail c =
    let found = c.1.2 in
    let tag = c.1.0 in
    let kept : IsStageOf old.stage false x.opened from.stage =
    subst (λ b. IsStageOf old.stage b x.opened from.stage) told x.stage in
    let k = kept_open old.stage x.opened from.stage kept in
    let set : is_some (namespace_of (filter_map declared tag.attributes ++ scope_of x.opened) tag.name.prefix) ≡ true =
    some_append (filter_map declared tag.attributes) outer_scope (scope_of x.opened) tag.name.prefix
    (outer_some x.opened old.scopes tag.name.prefix x.scopes) found.spelled.1 in
    let same : from.text ≡ before = x.text ∙ ap (λ t. before ++ t) tail ∙ append-nil before in (
      c.0,
      record {
        token = opening tag;
        front = found.front;
        rest = c.1.1;
        split = ap (λ t. t ++ c.0) same ∙ found.split;
        spelled = found.spelled.0;
        stands = can_begin from old before x told inside shallow tag
            (subst (λ s. is_some (namespace_of (filter_map declared tag.attributes ++ s) tag.name.prefix) ≡ true)
            (sym k.1) set);
      },
    )

cut_admission : (from : Point) (old : Elements) (before : List ℕ) (x : IsAtText old before from)
    (only : IsTagOnly before)
    (some : before ≢ []) (end : TagEnd) (place : Context) (raw : RawTag) (after : List ℕ) (fault : TokenFault) →
    old.empty ≡ false → is_past_root old.stage old.names.items ≡ false → length old.names.items < old.most →
    (is_cut end && nat_lt old.end old.length) ≡ false → IsTagTo end place before raw after →
    admission_of_cut old.length end ≡ Err fault → IsFaultFrom old.length from fault
cut_admission from old before x only some WholeTag place raw after fault told inside shallow short r e =
    let bad : Ok tt ≡ Err fault = e in absurd cc
cut_admission from old before x only some EmptyTag place raw after fault told inside shallow short r e =
    let bad : Ok tt ≡ Err fault = e in absurd cc
cut_admission from old before x only some CutAtSlash place raw after fault told inside shallow short r e =
    let bad : Ok tt ≡ Err fault = e in absurd cc
cut_admission from old before x only some CutTag place raw after fault told inside shallow short r e =
    let tail = no_tail from old before x short in
    let same : NotRead old.length NotWellFormed ≡ fault = cc in
    subst (IsFaultFrom old.length from) same
    (cut_refused from old before x only some r.0 tail (cut_goes from old before x told inside shallow tail r.1))

-- a tag that isn't admitted is refused
pub admit_refused : (from : Point) (old : Elements) (before : List ℕ) (x : IsAtText old before from)
    (only : IsTagOnly before) (some : before ≢ []) (place : Context) (raw : RawTag) (after : List ℕ) (at : ℕ)
    (fault : TokenFault) → old.empty ≡ false → IsTagTo raw.end place before raw after → at ≡ from.at →
    admission old at raw.end ≡ Err fault → IsFaultFrom old.length from fault
admit_refused from old before x only some place raw after at fault told r here e =
    let end = raw.end in
    let A = is_past_root old.stage old.names.items in
    let B = is_cut end && nat_lt old.end old.length in
    let C = nat_lt (length old.names.items) old.most in
    let R : Type 0 = Result (Unit {0}) TokenFault in
    let one : R = Err (NotRead at NotWellFormed) in
    let two : R = Err (NotRead at TooDeep) in
    let three : R = admission_of_cut old.length end in
    let has = has_tag end place before raw after r in
    let kept : IsStageOf old.stage false x.opened from.stage =
    subst (λ b. IsStageOf old.stage b x.opened from.stage) told x.stage in
    let k = kept_open old.stage x.opened from.stage kept in
    let first : (A || B) ≡ true → IsFaultFrom old.length from fault = λ refused.
    let same : one ≡ Err fault = sym (cond-true (A || B) one (cond (not C) two three) refused) ∙ e in
    let is : NotRead at NotWellFormed ≡ fault = cc in
    subst (IsFaultFrom old.length from) is
    (⊎_elim
    (λ past.
    let stage = past_stage old.stage x.opened old.names.items from.stage kept x.names past in
    tag_refused from old before x only some at NotWellFormed here
    (λ tag more front rest e spelled can. subst MayBegin stage can.may)
    (not_deep from old before x only some has (λ deep.
    let none : length (open_in epilog) ≡ from.most = subst (λ s. length (open_in s) ≡ from.most) stage deep.deep in
    let one = x.range.0 in
    omega arith)))
    (λ short.
    let p = and_parts (is_cut end) (nat_lt old.end old.length) short in
    let cut = cut_short from old before x only some (some_tail from old before x p.1)
    (no_start end place before raw after p.0 r) in
    tag_refused from old before x only some at NotWellFormed here cut.0
    (not_deep from old before x only some has cut.1))
    (or_cases A B refused)) in
    let later : (A || B) ≡ false → IsFaultFrom old.length from fault = λ passed.
    let parts = or_parts A B passed in
    let next : cond (not C) two three ≡ Err fault = sym (cond-false (A || B) one (cond (not C) two three) passed) ∙ e in
    ⊎_elim
    (λ low.
    cut_admission from old before x only some end place raw after fault told parts.0
    (ltb-true (length old.names.items) old.most low) parts.1 r
    (sym (cond-false (not C) two three (ap not low)) ∙ next))
    (λ high.
    let same : two ≡ Err fault = sym (cond-true (not C) two three (ap not high)) ∙ next in
    let is : NotRead at TooDeep ≡ fault = cc in
    let zipped = AllZip-long IsNameOfOpen x.opened (reverse old.names.items) x.names in
    let long = length-reverse old.names.items in
    let open_long = ap length k.0 in
    let most = x.most in
    let within_limit = x.depth in
    let above = ltb-false (length old.names.items) old.most high in
    let deep : length (open_in from.stage) ≡ from.most = omega arith in
    subst (IsFaultFrom old.length from) is
    (tag_refused from old before x only some at TooDeep here
    (λ tag more front rest e spelled can. let low = can.depth in omega arith)
    (inr (inl (deep_tag from old before x end place raw after parts.1 r deep, refl)))))
    (cases_Bool C) in
    ⊎_elim first later (cases_Bool (A || B))

opening_same : (a b : Tag) → opening a ≡ opening b → a ≡ b
opening_same a b e = cc

-- the one tag that the text can begin with
pub record OneTag (before : List ℕ) (raw : RawTag) : Type 0 where
  pub tag : Tag
  pub text : List ℕ
  pub is_tag : IsTag tag text
  pub tag_of : IsTagOf tag raw
  pub only : (more front rest : List ℕ) (other : Tag) → before ++ more ≡ front ++ rest →
      IsSpelled (opening other) front rest → other ≡ tag

one_read : (place : Context) (before : List ℕ) (b : Bool) (raw : RawTag) (after : List ℕ) →
    IsTagRead place before b raw after → OneTag before raw
one_read place before b raw after r =
    let l : Lexeme = record { token = opening r.tag; text = r.alone.0 } in
    let one : AreRead place before (l ∷ []) after = subst (λ ls. AreRead place before ls after) r.alone.1 r.read in
    record {
      tag = r.tag;
      text = l.text;
      is_tag = one.spelled.0.1;
      tag_of = r.tag_of;
      only = λ more front rest other e spelled.
          let whole : front ++ rest ≡ l.text ++ (after ++ more) =
          sym e ∙ ap (λ t. t ++ more) (one.split ∙ append_assoc l.text [] after) ∙ append_assoc l.text after more in
          opening_same other r.tag
          (one_token (opening other) (opening r.tag) front rest l.text (after ++ more) spelled one.spelled.0 whole).0;
    }

one_tag : (end : TagEnd) (place : Context) (before : List ℕ) (raw : RawTag) (after : List ℕ) → end ≢ CutTag →
    IsTagTo end place before raw after → OneTag before raw
one_tag WholeTag place before raw after whole r = one_read place before false raw after r
one_tag EmptyTag place before raw after whole r = one_read place before true raw after r
one_tag CutTag place before raw after whole r = absurd (whole refl)
one_tag CutAtSlash place before raw after whole r = record {
  tag = r.tag;
  text = before ++ codes ">";
  is_tag = r.spelled.1;
  tag_of = r.tag_of;
  only = λ more front rest other e spelled.
      r.only more other rest (record { front = front; split = e; spelled = spelled.1 });
}

none_of : (o : Option (List ℕ)) → None ≡ option_map kind_of o → o ≡ None
none_of None e = refl
none_of (Some v) e = let bad : None ≡ Some (kind_of v) = e in absurd cc

-- the namespace of a tag's prefix, as a reader finds it
tag_namespace : (from : Point) (old : Elements) (before : List ℕ) (x : IsAtText old before from) (raw : RawTag)
    (one : OneTag before raw) (scopes : Scopes) (prefix local : Bor (List ℕ)) (found : Option Namespace) →
    old.empty ≡ false → OpensScope raw.attributes.items old.scopes scopes →
    ((opened : List Open) → AreScopesOf opened scopes →
    found ≡ option_map kind_of (namespace_of (scope_of opened) prefix.now)) →
    ((q : QName) → IsQName q → name_text q ≡ raw.name.now → (prefix.now ≡ q.prefix) × (local.now ≡ q.local)) →
    found ≡ option_map kind_of (namespace_of (inner_scope (scope_in from.stage) one.tag) one.tag.name.prefix)
tag_namespace from old before x raw one scopes prefix local found told opens finds splits =
    let tag = one.tag in
    let zip = lawful tag.attributes raw.attributes.items one.is_tag.inside one.is_tag.attributes
    one.tag_of.attributes in
    let kept : IsStageOf old.stage false x.opened from.stage =
    subst (λ b. IsStageOf old.stage b x.opened from.stage) told x.stage in
    let k = kept_open old.stage x.opened from.stage kept in
    let element : Open =
    record { name = tag.name; scope = filter_map declared tag.attributes ++ scope_of x.opened } in
    let parts = splits tag.name one.is_tag.name (sym one.tag_of.name) in
    finds (element ∷ x.opened) (opens x.opened tag.name tag.attributes zip x.scopes)
    ∙ ap (λ p. option_map kind_of (namespace_of (filter_map declared tag.attributes ++ scope_of x.opened) p)) parts.0
    ∙ ap (λ s. option_map kind_of (namespace_of (filter_map declared tag.attributes ++ s) tag.name.prefix)) (sym k.1)

-- a tag whose prefix isn't set is refused
pub unset_refused : (from : Point) (old : Elements) (before : List ℕ) (x : IsAtText old before from)
    (only : IsTagOnly before) (some : before ≢ []) (place : Context) (raw : RawTag) (after : List ℕ) (at : ℕ)
    (scopes : Scopes) (prefix local : Bor (List ℕ)) → old.empty ≡ false → IsTagTo raw.end place before raw after →
    at ≡ from.at → IsAdmitted old raw.end → OpensScope raw.attributes.items old.scopes scopes →
    ((opened : List Open) → AreScopesOf opened scopes →
    None ≡ option_map kind_of (namespace_of (scope_of opened) prefix.now)) →
    ((q : QName) → IsQName q → name_text q ≡ raw.name.now → (prefix.now ≡ q.prefix) × (local.now ≡ q.local)) →
    IsRefusal old.length from at NotWellFormed
unset_refused from old before x only some place raw after at scopes prefix local told r here may opens finds splits =
    let one = one_tag raw.end place before raw after may.not_cut r in
    let none = none_of _ (tag_namespace from old before x raw one scopes prefix local None told opens finds splits) in
    let kept : IsStageOf old.stage false x.opened from.stage =
    subst (λ b. IsStageOf old.stage b x.opened from.stage) told x.stage in
    let k = kept_open old.stage x.opened from.stage kept in
    let zipped = AllZip-long IsNameOfOpen x.opened (reverse old.names.items) x.names in
    let long = length-reverse old.names.items in
    let open_long = ap length k.0 in
    let most = x.most in
    let shallow = may.shallow in
    tag_refused from old before x only some at NotWellFormed here
    (λ tag more front rest e spelled can.
    let same : tag ≡ one.tag =
    one.only (x.tail ++ more) front rest tag (sym (append_assoc before x.tail more)
    ∙ ap (λ t. t ++ more) (sym x.text) ∙ e)
    spelled in
    let set : IsTrue (is_some (namespace_of (inner_scope (scope_in from.stage) one.tag) one.tag.name.prefix)) =
    subst (λ t. IsTrue (is_some (namespace_of (inner_scope (scope_in from.stage) t) t.name.prefix))) same can.set in
    both_ways (is_some {T = List ℕ} None) refl (sym (ap is_some none) ∙ set))
    (not_deep from old before x only some (has_tag raw.end place before raw after r)
    (λ deep. let full = deep.deep in omega arith))

slash_end : (end : TagEnd) → None ≡ emptiness end → end ≢ CutTag → end ≡ CutAtSlash
slash_end WholeTag e whole = let bad : None ≡ Some false = e in absurd cc
slash_end EmptyTag e whole = let bad : None ≡ Some true = e in absurd cc
slash_end CutTag e whole = absurd (whole refl)
slash_end CutAtSlash e whole = refl

-- a tag in which the text ends after `/`
pub slash_refused : (from : Point) (old : Elements) (before : List ℕ) (x : IsAtText old before from)
    (only : IsTagOnly before) (some : before ≢ []) (place : Context) (raw : RawTag) (after : List ℕ)
    (scopes : Scopes) (prefix local : Bor (List ℕ)) (namespace : Namespace) → old.empty ≡ false →
    IsTagTo raw.end place before raw after → IsAdmitted old raw.end → None ≡ emptiness raw.end →
    OpensScope raw.attributes.items old.scopes scopes →
    ((opened : List Open) → AreScopesOf opened scopes →
    Some namespace ≡ option_map kind_of (namespace_of (scope_of opened) prefix.now)) →
    ((q : QName) → IsQName q → name_text q ≡ raw.name.now → (prefix.now ≡ q.prefix) × (local.now ≡ q.local)) →
    IsRefusal old.length from old.length NotWellFormed
slash_refused from old before x only some place raw after scopes prefix local namespace told r may cut opens
    finds splits =
    let end = slash_end raw.end cut may.not_cut in
    let s : IsCutAtSlash before raw = subst (λ e. IsTagTo e place before raw after) end r in
    let at = one_tag raw.end place before raw after may.not_cut r in
    let found = tag_namespace from old before x raw at scopes prefix local (Some namespace) told opens finds splits in
    let set = (some_of _ namespace found).0 in
    let same : at.tag ≡ s.tag =
    sym (at.only (codes ">") (before ++ codes ">") [] s.tag (sym (append-nil (before ++ codes ">"))) s.spelled) in
    let here : IsTrue (is_some (namespace_of (inner_scope (scope_in from.stage) s.tag) s.tag.name.prefix)) =
    subst (λ t. IsTrue (is_some (namespace_of (inner_scope (scope_in from.stage) t) t.name.prefix))) same set in
    let short : nat_lt old.end old.length ≡ false =
    sym (ap (λ e. is_cut e && nat_lt old.end old.length) end) ∙ may.in_text in
    let tail = no_tail from old before x short in
    let text : from.text ≡ before = x.text ∙ ap (λ t. before ++ t) tail ∙ append-nil before in
    cut_refused from old before x only some s.none tail (
      codes ">",
      record {
        token = opening s.tag;
        front = before ++ codes ">";
        rest = [];
        split = ap (λ t. t ++ codes ">") text ∙ sym (append-nil (before ++ codes ">"));
        spelled = s.spelled;
        stands = can_begin from old before x told may.inside_root may.shallow s.tag here;
      },
    )
