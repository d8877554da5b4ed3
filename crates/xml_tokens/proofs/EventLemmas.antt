-- The events that a token adds to the tree, and the reader after it.
use Rattle.std.proofs.Common.{◌≡◌, ◌≢◌, ◌≤◌, ℕ, suc, ◌+◌, List, [], ◌∷◌, ◌++◌, length, map, reverse, false, refl, sym}
use Rattle.std.proofs.Common.{ap, subst, ◌∙◌}
use Rattle.std.proofs.Common.{append_assoc, arith, inl, inr, ⊎_elim, All, codes}
use Rattle.std.specs.Prelude.{flat_map}
use Rattle.std.specs.List.{AllZip}
use Rattle.std.proofs.lemmas.List.{append-nil, length-append}
use Rattle.atom_values.specs.Ascii.{lf}
use Rattle.atom_values.specs.XmlText.{IsXmlText}
use Rattle.xml_tokens.specs.declared.elements.Elements.{Elements}
use Rattle.xml_tokens.specs.declared.elements.Stage.{Stage as RawStage}
use Rattle.xml_tokens.specs.declared.elements.Stage.TheVariants.{Start, Prolog, Root}
use Rattle.xml_tokens.specs.declared.token.Context.{Context}
use Rattle.xml_tokens.specs.declared.token.Context.TheVariants.{Start as AtStart, Outside, Inside}
use Rattle.xml_tokens.specs.Characters.{begins}
use Rattle.xml_tokens.specs.Tokens.{Token, IsSpelled}
use Rattle.xml_tokens.specs.Tokens.Token.{declaration, character, referred, section, comment, instruction, opening}
use Rattle.xml_tokens.specs.Tokens.Token.{closing}
use Rattle.xml_tokens.specs.Stages.{Stage, Open, Lexeme, IsInside, CanStand, CanAllStand, begun, last_stage}
use Rattle.xml_tokens.specs.Stages.{lexemes_text, stage_after}
use Rattle.xml_tokens.specs.Stages.Stage.{start, prolog, inside, epilog}
use Rattle.xml_tokens.specs.Tree.{Event, events, events_of, said_in}
use Rattle.xml_tokens.specs.Tree.Event.{say}
use Rattle.xml_tokens.specs.Reading.{AreCharacters, AreRead, AreSpelled, IsAlone, IsInContent, IsSilentAt, MayStand}
use Rattle.xml_tokens.specs.Scopes.{AreScopesOf}
use Rattle.xml_tokens.specs.Progress.{Point, IsAtText, IsBehindXml, IsLed, IsNameOfOpen, IsPlaceOf, IsStageOf}
use Rattle.xml_tokens.specs.Progress.{later_stage, pending}
use Rattle.xml_tokens.proofs.SuffixLemmas.{begins_more, line_xml, section_xml}
use Rattle.xml_tokens.proofs.XmlLemmas.{xml_append}
use Rattle.xml_tokens.proofs.ProgressLemmas.{names_closed, no_pending}
use Rattle.xml_tokens.proofs.NameLemmas.{split_at_colon, split_nowhere}
use Rattle.std.proofs.Common.{Option, Some, None, ◌==◌}
use Rattle.std.specs.Prelude.{position}
use Rattle.std.proofs.lemmas.List.Elements.{All-head, All-tail}
use Rattle.xml_tokens.specs.declared.fault.TokenWhy.TheVariants.{NotUtf8}
use Rattle.xml_tokens.specs.Characters.{QName, IsQName, name_text}
use Rattle.xml_tokens.specs.Stages.{IsInnermost, left}
use Rattle.xml_tokens.specs.Tree.Event.{finish}
use Rattle.xml_tokens.specs.Reading.{IsNameOf, Starts, foreign_declaration}
use Rattle.xml_tokens.specs.Progress.{IsClosed, IsRefusal, depth_of}

-- a token's spelling doesn't depend on the bytes after the XML text
spelled_more : (t : Token) (text rest tail : List ℕ) → IsXmlText text → IsXmlText rest → IsBehindXml tail →
    IsXmlText (codes "]]>") → IsXmlText (lf ∷ []) → IsSpelled t text rest → IsSpelled t text (rest ++ tail)
spelled_more (declaration encoding) text rest tail xml is behind end line s = s
spelled_more (referred c) text rest tail xml is behind end line s = s
spelled_more (section read) text rest tail xml is behind end line s = s
spelled_more comment text rest tail xml is behind end line s = s
spelled_more instruction text rest tail xml is behind end line s = s
spelled_more (opening tag) text rest tail xml is behind end line s = s
spelled_more (closing name) text rest tail xml is behind end line s = s
spelled_more (character read) text rest tail xml is behind end line s = (
  s.0,
  ⊎_elim
      (λ plain. inl (
        plain.0,
        record {
          is_character = plain.1.is_character;
          no_tag = plain.1.no_tag;
          no_reference = plain.1.no_reference;
          no_line_end = plain.1.no_line_end;
          no_section_end = ap (begins (codes "]]>")) (sym (append_assoc text rest tail))
              ∙ begins_more (codes "]]>") (text ++ rest) tail end (xml_append text rest xml is) behind
              plain.1.no_section_end;
        },
      ))
      (λ ending. inr (
        ending.0,
        ⊎_elim
            (λ both. inl both)
            (λ alone. inr (alone.0, begins_more (lf ∷ []) rest tail line is behind alone.1))
            ending.1,
      ))
      s.1,
)

-- the text of lexemes, and what follows it, is XML text
texts_xml : (ls : List Lexeme) (after : List ℕ) → AreSpelled ls after → IsXmlText after →
    IsXmlText (lexemes_text ls ++ after)
texts_xml [] after are xml = xml
texts_xml (l ∷ ls) after are xml =
    subst IsXmlText (sym (append_assoc l.text (lexemes_text ls) after))
    (xml_append l.text (lexemes_text ls ++ after) are.0.0 (texts_xml ls after are.1 xml))

-- characters outside the root add nothing
said_outside : (s : Stage) (read : List ℕ) → (IsInside s → ⊥) → said_in s read ≡ []
said_outside start read out = refl
said_outside prolog read out = refl
said_outside epilog read out = refl
said_outside (inside e outer) read out = absurd (out tt)

silent_one : (most : ℕ) (place : Context) (s : Stage) (t : Token) → ((IsInContent place → ⊥) → IsInside s → ⊥) → MayStand place t →
    IsSilentAt place t →
    CanStand most s t × (stage_after s t ≡ begun s) × ((at : ℕ) → events_of s at t ≡ [])
silent_one most place s comment out may silent = (tt, refl, λ at. refl)
silent_one most place s instruction out may silent = (tt, refl, λ at. refl)
silent_one most place s (character read) out may silent = (
  ⊎_elim (λ content. absurd (silent content)) (λ spaces. inr spaces) may,
  refl,
  λ at. said_outside s read (out silent),
)
silent_one most place s (declaration encoding) out may silent = absurd silent
silent_one most place s (referred c) out may silent = absurd silent
silent_one most place s (section read) out may silent = absurd silent
silent_one most place s (opening tag) out may silent = absurd silent
silent_one most place s (closing name) out may silent = absurd silent

begun_inside : (s : Stage) → IsInside (begun s) → IsInside s
begun_inside start h = h
begun_inside prolog h = h
begun_inside epilog h = h
begun_inside (inside e outer) h = h

begun_twice : (s : Stage) → begun (begun s) ≡ begun s
begun_twice start = refl
begun_twice prolog = refl
begun_twice epilog = refl
begun_twice (inside e outer) = refl

-- tokens that say nothing of the tree
pub record Silent (most : ℕ) (s : Stage) (ls : List Lexeme) (rest : List ℕ) : Type 0 where
  pub stand : CanAllStand most s ls rest
  pub stage : ls ≢ [] → last_stage s ls ≡ begun s
  pub nothing : (at : ℕ) → events s at ls ≡ []

module _ (tail : List ℕ) (behind : IsBehindXml tail) where
  pub one_more : (l : Lexeme) (ls : List Lexeme) (after : List ℕ) → AreSpelled (l ∷ ls) after → IsXmlText after →
      IsSpelled l.token l.text (lexemes_text ls ++ (after ++ tail))
  one_more l ls after are xml =
      subst (IsSpelled l.token l.text) (append_assoc (lexemes_text ls) after tail)
      (spelled_more l.token l.text (lexemes_text ls ++ after) tail are.0.0 (texts_xml ls after are.1 xml) behind
      section_xml line_xml are.0)

  silent_stand : (most : ℕ) (place : Context) (s : Stage) (ls : List Lexeme) (after : List ℕ) →
      ((IsInContent place → ⊥) → IsInside s → ⊥) → All (λ (l : Lexeme). MayStand place l.token) ls →
      All (λ (l : Lexeme). IsSilentAt place l.token) ls → AreSpelled ls after → IsXmlText after →
      Silent most s ls (after ++ tail)
  silent_stand most place s [] after out may silent are xml = record {
    stand = tt;
    stage = λ some. absurd (some refl);
    nothing = λ at. refl;
  }
  silent_stand most place s (l ∷ ls) after out may silent are xml =
      let M : Lexeme → Type 0 = λ l. MayStand place l.token in
      let S : Lexeme → Type 0 = λ l. IsSilentAt place l.token in
      let one = silent_one most place s l.token out (All-head M l ls may) (All-head S l ls silent) in
      let more = silent_stand most place (begun s) ls after (λ content is. out content (begun_inside s is))
      (All-tail M l ls may) (All-tail S l ls silent) are.1 xml in
      let stage : last_stage (begun s) ls ≡ begun s =
      elim ls as (λ ls. (ls ≢ [] → last_stage (begun s) ls ≡ begun (begun s)) → last_stage (begun s) ls ≡ begun s)
      [ [] ↦ λ h. refl | k ∷ ks ↦ λ h. h (λ e. cc) ∙ begun_twice s ] more.stage in
      record {
        stand = (
          one_more l ls after are xml,
          one.0,
          subst (λ s. CanAllStand most s ls (after ++ tail)) (sym one.1) more.stand,
        );
        stage = λ some. ap (λ s. last_stage s ls) one.1 ∙ stage;
        nothing = λ at.
            (λ i. one.2 at i ++ events (one.1 i) (at + length l.text) ls) ∙ more.nothing (at + length l.text);
      }

  -- characters in an element
  characters_stand : (most : ℕ) (e : Open) (outer : List Open) (ls : List Lexeme) (read after : List ℕ) → AreCharacters read ls →
      AreSpelled ls after → IsXmlText after →
      CanAllStand most (inside e outer) ls (after ++ tail) × (last_stage (inside e outer) ls ≡ inside e outer)
      × ((parts : List (List ℕ)) × (read ≡ flat_map (λ part. part) parts)
      × ((at : ℕ) → events (inside e outer) at ls ≡ map say parts) × (ls ≢ [] → parts ≢ []))
  characters_stand most e outer [] read after are spelled xml = (tt, refl, ([], are, λ at. refl, λ some e. some refl))
  characters_stand most e outer (l ∷ ls) read after are spelled xml =
      let s : Stage = inside e outer in
      let more = characters_stand most e outer ls are.1 after are.4 spelled.1 xml in
      let token : character are.0 ≡ l.token = sym are.2 in
      let stays : stage_after s l.token ≡ s = subst (λ t. stage_after s t ≡ s) token refl in (
        (
          one_more l ls after spelled xml,
          subst (CanStand most s) token (inl tt),
          subst (λ s. CanAllStand most s ls (after ++ tail)) (sym stays) more.0,
        ),
        ap (λ s. last_stage s ls) stays ∙ more.1,
        (
          are.0 ∷ more.2.0,
          are.3 ∙ ap (λ xs. are.0 ++ xs) more.2.1,
          λ at.
              let told : events_of s at l.token ≡ say are.0 ∷ [] =
              subst (λ t. events_of s at t ≡ say are.0 ∷ []) token refl in
              (λ i. told i ++ events (stays i) (at + length l.text) ls)
              ∙ ap (λ xs. say are.0 ∷ xs) (more.2.2 (at + length l.text)),
          λ some e. cc,
        ),
      )

-- the reader after lexemes
pub led_by : (from : Point) (old new : Elements) (before : List ℕ) (x : IsAtText old before from) (ls : List Lexeme)
    (told : List Event) (opened : List Open) → before ≡ lexemes_text ls ++ new.cursor.rest.now →
    CanAllStand from.most from.stage ls (new.cursor.rest.now ++ x.tail) →
    events from.stage from.at ls ≡ told ++ pending new → IsXmlText new.cursor.rest.now →
    (new.most ≡ old.most) × (new.end ≡ old.end) × (new.length ≡ old.length) →
    IsStageOf new.stage new.empty opened (last_stage from.stage ls) →
    AllZip IsNameOfOpen opened (reverse new.names.items) → AreScopesOf opened new.scopes → length opened ≤ from.most →
    IsLed old.length [] from told new
led_by from old new before x ls told opened split stand adds xml same stage names scopes depth = record {
  to = record {
    stage = last_stage from.stage ls;
    text = new.cursor.rest.now ++ x.tail;
    at = from.at + length (lexemes_text ls);
    most = from.most;
  };
  is_at = record {
    opened = opened;
    tail = x.tail;
    most = same.0 ∙ x.most;
    range = x.range;
    stage = stage;
    names = names;
    scopes = scopes;
    depth = depth;
    text = refl;
    xml = xml;
    behind = x.behind;
    at =
        let whole = ap length split in
        let parts = length-append (lexemes_text ls) new.cursor.rest.now in
        let far = x.at in
        let end = same.1 in
        omega arith;
    whole = ap (λ n. n + length x.tail) same.1 ∙ x.whole ∙ sym same.2;
  };
  more = events from.stage from.at ls;
  path = record {
    lexemes = ls;
    split = x.text ∙ ap (λ xs. xs ++ x.tail) split ∙ append_assoc (lexemes_text ls) new.cursor.rest.now x.tail;
    stand = stand;
    stage = refl;
    at = refl;
    most = refl;
    adds = refl;
  };
  order = adds;
  same = same.2;
}

-- a place outside content
outside_place : (place : Context) (s : Stage) → IsPlaceOf place s → (IsInContent place → ⊥) → IsInside s → ⊥
outside_place AtStart s is out h = subst IsInside is h
outside_place Outside s is out h =
    ⊎_elim (λ p. let bad : IsInside prolog = subst IsInside p h in bad)
    (λ p. let bad : IsInside epilog = subst IsInside p h in bad) is
outside_place (Inside name) s is out h = absurd (out tt)

-- a place in content
pub content_place : (place : Context) (s : Stage) → IsPlaceOf place s → IsInContent place →
    (e : Open) × (outer : List Open) × (s ≡ inside e outer)
content_place AtStart s is content = absurd content
content_place Outside s is content = absurd content
content_place (Inside name) s is content = (is.0, is.1, is.2)

-- the stage as a reader keeps it, after a token that says nothing of elements
later : (raw : RawStage) (opened : List Open) (s : Stage) → IsStageOf raw false opened s →
    IsStageOf (later_stage raw) false opened (begun s)
later Start [] s is = ap begun is
later Start (e ∷ outer) s is = absurd is
later Prolog [] s is = ap begun is
later Prolog (e ∷ outer) s is = absurd is
later Root [] s is = ap begun is
later Root (e ∷ outer) s is = ap begun is

silent_by : (from : Point) (old : Elements) (before : List ℕ) (x : IsAtText old before from) (place : Context)
    (ls : List Lexeme) → old.empty ≡ false → AreRead place before ls old.cursor.rest.now →
    Silent from.most from.stage ls (old.cursor.rest.now ++ x.tail) → IsXmlText old.cursor.rest.now →
    IsLed old.length [] from [] (record old { stage = later_stage old.stage })
silent_by from old before x place ls told read all xml =
    let new : Elements = record old { stage = later_stage old.stage } in
    let kept : IsStageOf old.stage false x.opened from.stage =
    subst (λ b. IsStageOf old.stage b x.opened from.stage) told x.stage in
    let stage : IsStageOf (later_stage old.stage) old.empty x.opened (last_stage from.stage ls) =
    subst (λ b. IsStageOf (later_stage old.stage) b x.opened (last_stage from.stage ls)) (sym told)
    (subst (IsStageOf (later_stage old.stage) false x.opened) (sym (all.stage read.some))
    (later old.stage x.opened from.stage kept)) in
    led_by from old new before x ls [] x.opened read.split all.stand
    (all.nothing from.at ∙ sym (no_pending new told)) xml (refl, refl, refl) stage x.names x.scopes x.depth

-- tokens that say nothing of the tree are read
pub silent_led : (from : Point) (old : Elements) (before : List ℕ) (x : IsAtText old before from) (place : Context)
    (ls : List Lexeme) → old.empty ≡ false → IsPlaceOf place from.stage → AreRead place before ls old.cursor.rest.now →
    All (λ (l : Lexeme). IsSilentAt place l.token) ls → IsXmlText old.cursor.rest.now →
    IsLed old.length [] from [] (record old { stage = later_stage old.stage })
silent_led from old before x place ls told is read silent xml =
    silent_by from old before x place ls told read
    (silent_stand x.tail x.behind from.most place from.stage ls old.cursor.rest.now (outside_place place from.stage is) read.stand
    silent read.spelled xml) xml

pub start_place : (place : Context) (s : Stage) → IsPlaceOf place s → place ≡ AtStart → s ≡ start
start_place place s is same = subst (λ p. IsPlaceOf p s) same is

-- a declaration is read
pub declared_led : (from : Point) (old : Elements) (before : List ℕ) (x : IsAtText old before from) (place : Context)
    (ls : List Lexeme) (encoding : Option (List ℕ)) → old.empty ≡ false → IsPlaceOf place from.stage →
    AreRead place before ls old.cursor.rest.now → IsAlone (declaration encoding) ls → IsXmlText old.cursor.rest.now →
    IsLed old.length [] from [] (record old { stage = later_stage old.stage })
declared_led from old before x place ls encoding told is read alone xml =
    let l : Lexeme = record { token = declaration encoding; text = alone.0 } in
    let one : AreRead place before (l ∷ []) old.cursor.rest.now =
    subst (λ ls. AreRead place before ls old.cursor.rest.now) alone.1 read in
    let may = All-head (λ (l : Lexeme). MayStand place l.token) l [] one.stand in
    silent_by from old before x place (l ∷ []) told one
    (record {
      stand = (
        one_more x.tail x.behind l [] old.cursor.rest.now one.spelled xml,
        (start_place place from.stage is may.0, may.1),
        tt,
      );
      stage = λ some. refl;
      nothing = λ at. refl;
    }) xml

-- a declaration of another encoding is refused
pub foreign_refused : (from : Point) (old : Elements) (before : List ℕ) (x : IsAtText old before from) (place : Context)
    (total at : ℕ) → IsPlaceOf place from.stage → place ≡ AtStart → Starts foreign_declaration before → at ≡ from.at →
    IsRefusal total from at NotUtf8
foreign_refused from old before x place total at is same foreign here =
    let found = foreign.2 in
    inr (
      start_place place from.stage is same,
      (
        tt,
        foreign.1 ++ x.tail,
        record {
          front = found.front;
          split = x.text ∙ ap (λ xs. xs ++ x.tail) found.split ∙ append_assoc found.front foreign.1 x.tail;
          spelled = found.spelled;
        },
      ),
      here,
      refl,
    )

-- characters of an element are read
pub characters_led : (from : Point) (old : Elements) (before read : List ℕ) (x : IsAtText old before from)
    (place : Context)
    (ls : List Lexeme) → old.empty ≡ false → IsPlaceOf place from.stage → AreRead place before ls old.cursor.rest.now →
    IsInContent place → AreCharacters read ls → IsXmlText old.cursor.rest.now →
    (parts : List (List ℕ)) × (read ≡ flat_map (λ part. part) parts) × (parts ≢ [])
    × IsLed old.length [] from (map say parts) old
characters_led from old before read x place ls told is spelled content are xml =
    let c = content_place place from.stage is content in
    let s : Stage = inside c.0 c.1 in
    let all = characters_stand x.tail x.behind from.most c.0 c.1 ls read old.cursor.rest.now are spelled.spelled xml in
    let adds : events from.stage from.at ls ≡ map say all.2.0 = ap (λ s. events s from.at ls) c.2 ∙ all.2.2 from.at in (
      all.2.0,
      all.2.1,
      all.2.3 spelled.some,
      led_by from old old before x ls (map say all.2.0) x.opened spelled.split
          (subst (λ s. CanAllStand from.most s ls (old.cursor.rest.now ++ x.tail)) (sym c.2) all.0)
          (adds ∙ sym (append-nil (map say all.2.0)) ∙ ap (λ xs. map say all.2.0 ++ xs) (sym (no_pending old told))) xml
          (refl, refl, refl)
          (subst (IsStageOf old.stage old.empty x.opened)
          (c.2 ∙ sym all.1 ∙ ap (λ s. last_stage s ls) (sym c.2)) x.stage)
          x.names x.scopes x.depth,
    )

-- a single token of content that says this is read
pub said_led : (from : Point) (old : Elements) (before said : List ℕ) (t : Token) (x : IsAtText old before from)
    (place : Context) (ls : List Lexeme) → old.empty ≡ false → IsPlaceOf place from.stage →
    AreRead place before ls old.cursor.rest.now → IsAlone t ls →
    (MayStand place t → IsInContent place) → ((s : Stage) → IsInside s → CanStand from.most s t) →
    ((s : Stage) → stage_after s t ≡ begun s) → ((s : Stage) (at : ℕ) → events_of s at t ≡ say said ∷ []) →
    IsXmlText old.cursor.rest.now → IsLed old.length [] from (say said ∷ []) old
said_led from old before said t x place ls told is read alone inner stands stays says xml =
    let l : Lexeme = record { token = t; text = alone.0 } in
    let one : AreRead place before (l ∷ []) old.cursor.rest.now =
    subst (λ ls. AreRead place before ls old.cursor.rest.now) alone.1 read in
    let c = content_place place from.stage is
    (inner (All-head (λ (l : Lexeme). MayStand place l.token) l [] one.stand)) in
    let s : Stage = inside c.0 c.1 in
    let kept : stage_after from.stage t ≡ from.stage =
    stays from.stage ∙ ap begun c.2 ∙ sym c.2 in
    led_by from old old before x (l ∷ []) (say said ∷ []) x.opened one.split (
      one_more x.tail x.behind l [] old.cursor.rest.now one.spelled xml,
      stands from.stage (subst IsInside (sym c.2) tt),
      tt,
    )
    (ap (λ xs. xs ++ []) (says from.stage from.at) ∙ ap (λ xs. say said ∷ xs) (sym (no_pending old told))) xml
    (refl, refl, refl) (subst (IsStageOf old.stage old.empty x.opened) (sym kept) x.stage) x.names x.scopes x.depth

-- two qualified names that are written the same are the same
pub same_name : (a b : QName) → IsQName a → IsQName b → name_text a ≡ name_text b → a ≡ b
same_name a b is_a is_b e =
    let at : (o : Option ℕ) → o ≡ position (λ k. k == 58) (name_text a) → (a.prefix ≡ b.prefix) × (a.local ≡ b.local) =
    λ o. elim o as (λ o. o ≡ position (λ k. k == 58) (name_text a) → (a.prefix ≡ b.prefix) × (a.local ≡ b.local)) [
      | None ↦ λ none.
          let p = split_nowhere (name_text a) none a is_a refl in
          let q = split_nowhere (name_text a) none b is_b (sym e) in
          (sym p.0 ∙ q.0, sym p.1 ∙ q.1)
      | Some n ↦ λ some.
          let p = split_at_colon (name_text a) n some a is_a refl in
          let q = split_at_colon (name_text a) n some b is_b (sym e) in
          (sym p.0 ∙ q.0, sym p.1 ∙ q.1)
    ] in
    let parts = at (position (λ k. k == 58) (name_text a)) refl in
    λ i. record { prefix = parts.0 i; local = parts.1 i }

inside_start : (e : Open) (outer : List Open) → inside e outer ≡ start → ⊥
inside_start e outer h = cc

inside_prolog : (e : Open) (outer : List Open) → inside e outer ≡ prolog → ⊥
inside_prolog e outer h = cc

inside_end : (e : Open) (outer : List Open) → inside e outer ≡ epilog → ⊥
inside_end e outer h = cc

inside_same : (e k : Open) (outer ks : List Open) → inside e outer ≡ inside k ks → e ∷ outer ≡ k ∷ ks
inside_same e k outer ks h = cc

-- the open elements at a stage inside one
open_stage : (raw : RawStage) (opened : List Open) (e : Open) (outer : List Open) →
    IsStageOf raw false opened (inside e outer) → (raw ≡ Root) × (opened ≡ e ∷ outer)
open_stage Start [] e outer is = absurd (inside_start e outer is)
open_stage Start (k ∷ ks) e outer is = absurd is
open_stage Prolog [] e outer is = absurd (inside_prolog e outer is)
open_stage Prolog (k ∷ ks) e outer is = absurd is
open_stage Root [] e outer is = absurd (inside_end e outer is)
open_stage Root (k ∷ ks) e outer is = (refl, sym (inside_same e k outer ks is))

pub closing_place : (place : Context) (s : Stage) (q : QName) → IsPlaceOf place s → IsNameOf q place → IsQName q →
    (e : Open) × (outer : List Open) × (s ≡ inside e outer) × (q ≡ e.name)
closing_place AtStart s q is name lawful = absurd name
closing_place Outside s q is name lawful = absurd name
closing_place (Inside raw) s q is name lawful =
    (is.0, is.1, is.2, same_name q is.0.name lawful is.3.1 (sym name ∙ is.3.0))

-- an end tag is read
pub closing_led : (from : Point) (old new : Elements) (before : List ℕ) (x : IsAtText old before from) (place : Context)
    (ls : List Lexeme) (name : QName) → old.empty ≡ false → IsPlaceOf place from.stage →
    AreRead place before ls old.cursor.rest.now → IsAlone (closing name) ls → IsXmlText old.cursor.rest.now →
    IsClosed old new → IsLed old.length [] from (finish ∷ []) new × (depth_of new + 1 ≡ depth_of old)
closing_led from old new before x place ls name told is read alone xml shut =
    let l : Lexeme = record { token = closing name; text = alone.0 } in
    let one : AreRead place before (l ∷ []) old.cursor.rest.now =
    subst (λ ls. AreRead place before ls old.cursor.rest.now) alone.1 read in
    let may = All-head (λ (l : Lexeme). MayStand place l.token) l [] one.stand in
    let c = closing_place place from.stage name is may one.spelled.0.1.is_name in
    let h : IsStageOf old.stage false x.opened (inside c.0 c.1) =
    subst (IsStageOf old.stage false x.opened) c.2
    (subst (λ b. IsStageOf old.stage b x.opened from.stage) told x.stage) in
    let s = open_stage old.stage x.opened c.0 c.1 h in
    let names : AllZip IsNameOfOpen (c.0 ∷ c.1) (reverse old.names.items) =
    subst (λ o. AllZip IsNameOfOpen o (reverse old.names.items)) s.1 x.names in
    let scopes : AreScopesOf (c.0 ∷ c.1) old.scopes = subst (λ o. AreScopesOf o old.scopes) s.1 x.scopes in
    let n = names_closed c.0 c.1 old.names.items new.names.items names shut.names in
    let deep : suc (length c.1) ≤ from.most = subst (λ o. length o ≤ from.most) s.1 x.depth in
    let rest : old.cursor.rest.now ≡ new.cursor.rest.now = sym shut.cursor in
    let stays : new.empty ≡ false = shut.empty ∙ told in
    let stage : IsStageOf new.stage new.empty c.1 (last_stage from.stage (l ∷ [])) =
    subst (λ b. IsStageOf new.stage b c.1 (left from.stage)) (sym stays)
    (subst (λ r. IsStageOf r false c.1 (left from.stage)) (sym (shut.stage ∙ s.0))
    (subst (λ s. IsStageOf Root false c.1 (left s)) (sym c.2) refl)) in (
      led_by from old new before x (l ∷ []) (finish ∷ []) c.1 (one.split ∙ ap (λ r. lexemes_text (l ∷ []) ++ r) rest)
          (subst (λ r. CanAllStand from.most from.stage (l ∷ []) (r ++ x.tail)) rest (
            one_more x.tail x.behind l [] old.cursor.rest.now one.spelled xml,
            subst (IsInnermost name) (sym c.2) c.3,
            tt,
          ))
          (ap (λ xs. finish ∷ xs) (sym (no_pending new stays))) (subst IsXmlText rest xml)
          (shut.most, shut.end, shut.length) stage n.0 (shut.scopes c.0 c.1 scopes) (omega arith),
      n.1,
    )
