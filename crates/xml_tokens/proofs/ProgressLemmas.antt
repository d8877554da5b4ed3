-- How a reader goes on in a document, from point to point.
use Rattle.std.proofs.Common.{◌≡◌, ℕ, ◌+◌, List, [], ◌∷◌, ◌++◌, length, refl, sym, ap, subst, ◌∙◌, append_assoc}
use Rattle.std.proofs.Common.{add-zero, arith}
use Rattle.std.proofs.Common.{true, false, inl, inr, ⊎_elim, suc, ◌≤◌, ◌<◌, reverse, Option, Ok, Err}
use Rattle.std.specs.Prelude.{Result, if◌then◌else◌, ◌^◌}
use Rattle.std.specs.Borrow.{Bor}
use Rattle.std.specs.List.{AllZip}
use Rattle.std.specs.Result.{IsErrAnd}
use Rattle.std.proofs.lemmas.List.{reverse-reverse, reverse-append, length-reverse}
use Rattle.std.proofs.lemmas.Slice.Zip.{AllZip-long}
use Rattle.atom_values.specs.XmlText.{IsXmlText}
use Rattle.xml_tokens.specs.declared.elements.Event.{Event as RawEvent}
use Rattle.xml_tokens.specs.declared.elements.Stage.{Stage as RawStage}
use Rattle.xml_tokens.specs.declared.elements.Stage.TheVariants.{Start, Prolog, Root}
use Rattle.xml_tokens.specs.declared.fault.TokenFault.{TokenFault}
use Rattle.xml_tokens.specs.declared.fault.TokenFault.TheVariants.{NotRead, NoMemory}
use Rattle.xml_tokens.specs.Stages.{Open}
use Rattle.std.proofs.Common.{◌-◌, ◌⊎◌, Bool}
use Rattle.std.proofs.Common.{Some, None, ◌==◌}
use Rattle.std.proofs.lemmas.Bool.{both_ways, cases_Bool, cond-true, cond-false, eqb-false}
use Rattle.xml_tokens.specs.declared.elements.Event.TheVariants.{Begin, End, Said as Told}
use Rattle.xml_tokens.specs.Progress.{IsDepthAfter, inner_depth}
use Rattle.xml_tokens.specs.declared.fault.TokenWhy.TheVariants.{NotUtf8, NotWellFormed}
use Rattle.xml_tokens.specs.Tokens.{Tag, is_utf8_name}
use Rattle.xml_tokens.specs.Tokens.Token.{closing}
use Rattle.xml_tokens.specs.Stages.{begun, content_stage, entered, left, open_in}
use Rattle.xml_tokens.specs.Refusal.{Begins, CanGoOn, IsStuckAt, IsTokenFault}
use Rattle.xml_tokens.proofs.PartLemmas.{nil_back, nil_front}
use Rattle.xml_tokens.proofs.OneTokenLemmas.{one_token}
use Rattle.xml_tokens.proofs.DeclaredXmlLemmas.{declared_xml}
use Rattle.xml_tokens.specs.Tree.Event.{finish}
use Rattle.xml_tokens.specs.Scopes.{AreScopesOf}
use Rattle.xml_tokens.specs.Progress.{IsNameOfOpen, IsStageOf, IsClosed, IsEventOf, IsFaultFrom, depth_of}
use Rattle.std.proofs.lemmas.List.{length-append, append-nil}
use Rattle.xml_tokens.specs.declared.elements.Elements.{Elements}
use Rattle.xml_tokens.specs.declared.fault.TokenWhy.{TokenWhy}
use Rattle.xml_tokens.specs.Tokens.{IsSpelled}
use Rattle.xml_tokens.specs.Stages.{Stage, Lexeme, CanAllStand, last_stage, lexemes_text, stage_after}
use Rattle.xml_tokens.specs.Stages.Stage.{start, prolog, inside, epilog}
use Rattle.xml_tokens.specs.Tree.{Event, events, events_of}
use Rattle.xml_tokens.specs.Progress.{Point, Leads, IsAt, IsLed, IsRefusal, pending}
use Rattle.xml_tokens.specs.Tokens.{Token}
use Rattle.xml_tokens.specs.Tokens.Token.{declaration, character, referred, section, comment, instruction, opening}
use Rattle.xml_tokens.specs.Reading.{Starts, foreign_declaration}
use Rattle.xml_tokens.specs.Stages.{CanStand}

pub text_append : (a b : List Lexeme) → lexemes_text (a ++ b) ≡ lexemes_text a ++ lexemes_text b
text_append [] b = refl
text_append (l ∷ a) b =
    ap (λ xs. l.text ++ xs) (text_append a b) ∙ sym (append_assoc l.text (lexemes_text a) (lexemes_text b))

pub stage_append : (s : Stage) (a b : List Lexeme) → last_stage s (a ++ b) ≡ last_stage (last_stage s a) b
stage_append s [] b = refl
stage_append s (l ∷ a) b = stage_append (stage_after s l.token) a b

pub stand_append : (most : ℕ) (s : Stage) (a b : List Lexeme) (rest : List ℕ) →
    CanAllStand most s a (lexemes_text b ++ rest) → CanAllStand most (last_stage s a) b rest →
    CanAllStand most s (a ++ b) rest
stand_append most s [] b rest x y = y
stand_append most s (l ∷ a) b rest x y = (
  subst (λ t. IsSpelled l.token l.text t)
      (sym (append_assoc (lexemes_text a) (lexemes_text b) rest) ∙ ap (λ t. t ++ rest) (sym (text_append a b))) x.0,
  x.1,
  stand_append most (stage_after s l.token) a b rest x.2 y,
)

events_append : (s : Stage) (at : ℕ) (a b : List Lexeme) →
    events s at (a ++ b) ≡ events s at a ++ events (last_stage s a) (at + length (lexemes_text a)) b
events_append s at [] b = ap (λ n. events s n b) (sym (add-zero at))
events_append s at (l ∷ a) b =
    let far : (at + length l.text) + length (lexemes_text a) ≡ at + length (lexemes_text (l ∷ a)) =
    let parts = length-append l.text (lexemes_text a) in omega arith in
    ap (λ xs. events_of s at l.token ++ xs) (events_append (stage_after s l.token) (at + length l.text) a b)
    ∙ sym (append_assoc (events_of s at l.token) (events (stage_after s l.token) (at + length l.text) a)
    (events (last_stage (stage_after s l.token) a) ((at + length l.text) + length (lexemes_text a)) b))
    ∙ ap (λ n. events s at (l ∷ a) ++ events (last_stage (stage_after s l.token) a) n b) far

-- no lexemes
pub leads_nowhere : (p : Point) → Leads p [] p
leads_nowhere p = record {
  lexemes = [];
  split = refl;
  stand = tt;
  stage = refl;
  at = sym (add-zero p.at);
  most = refl;
  adds = refl;
}

-- lexemes, and then more
pub leads_on : (a b c : Point) (t u : List Event) → Leads a t b → Leads b u c → Leads a (t ++ u) c
leads_on a b c t u x y = record {
  lexemes = x.lexemes ++ y.lexemes;
  split = x.split ∙ ap (λ xs. lexemes_text x.lexemes ++ xs) y.split
      ∙ sym (append_assoc (lexemes_text x.lexemes) (lexemes_text y.lexemes) c.text)
      ∙ ap (λ xs. xs ++ c.text) (sym (text_append x.lexemes y.lexemes));
  stand = stand_append a.most a.stage x.lexemes y.lexemes c.text
      (subst (λ t. CanAllStand a.most a.stage x.lexemes t) y.split x.stand)
      (subst (λ s. CanAllStand a.most s y.lexemes c.text) x.stage
      (subst (λ m. CanAllStand m b.stage y.lexemes c.text) x.most y.stand));
  stage = y.stage ∙ ap (λ s. last_stage s y.lexemes) x.stage ∙ sym (stage_append a.stage x.lexemes y.lexemes);
  at = let parts = length-append (lexemes_text x.lexemes) (lexemes_text y.lexemes) in
      let whole = ap length (text_append x.lexemes y.lexemes) in
      let one = x.at in let two = y.at in omega arith;
  most = y.most ∙ x.most;
  adds = (λ i. x.adds i ++ (y.adds ∙ ap (λ s. events s b.at y.lexemes) x.stage
      ∙ ap (λ n. events (last_stage a.stage x.lexemes) n y.lexemes) x.at) i)
      ∙ sym (events_append a.stage a.at x.lexemes y.lexemes);
}

pub led_on : (total : ℕ) (first : List Event) (from : Point) (t u : List Event) (b c : Elements)
    (x : IsLed total first from t b) → IsLed b.length (pending b) x.to u c → IsLed total first from (t ++ u) c
led_on total first from t u b c x z = record {
  to = z.to;
  is_at = z.is_at;
  more = x.more ++ z.more;
  path = leads_on from x.to z.to x.more z.more x.path z.path;
  order = sym (append_assoc first x.more z.more) ∙ ap (λ xs. xs ++ z.more) x.order
      ∙ append_assoc t (pending b) z.more ∙ ap (λ xs. t ++ xs) z.order ∙ sym (append_assoc t u (pending c));
  same = z.same ∙ x.same;
}

-- the reader has not read on yet
pub led_nowhere : (e : Elements) (from : Point) → IsAt e from → IsLed e.length (pending e) from [] e
led_nowhere e from at = record {
  to = from;
  is_at = at;
  more = [];
  path = leads_nowhere from;
  order = append-nil (pending e);
  same = refl;
}

-- a stage that a token is after isn't the first one
-- the stages of open elements aren't the first one
content_never : (opened : List Open) → content_stage opened ≡ start → ⊥
content_never [] h = cc
content_never (e ∷ outer) h = cc

left_never : (s : Stage) → left s ≡ start → ⊥
left_never start h = cc
left_never prolog h = cc
left_never (inside e outer) h = content_never outer h
left_never epilog h = cc

begun_never : (s : Stage) → begun s ≡ start → ⊥
begun_never start h = cc
begun_never prolog h = cc
begun_never (inside e outer) h = cc
begun_never epilog h = cc

entered_never : (s : Stage) (tag : Tag) (b : Bool) → (if b then left (entered s tag) else entered s tag) ≡ start → ⊥
entered_never s tag true h = content_never (open_in s) h
entered_never s tag false h = cc

pub never_start : (s : Stage) (t : Token) → stage_after s t ≡ start → ⊥
never_start s (declaration encoding) h = begun_never s h
never_start s (character read) h = begun_never s h
never_start s (referred c) h = begun_never s h
never_start s (section read) h = begun_never s h
never_start s comment h = begun_never s h
never_start s instruction h = begun_never s h
never_start s (opening tag) h = entered_never s tag tag.is_empty h
never_start s (closing name) h = left_never s h

begun_stage : (s : Stage) (l : Lexeme) (ls : List Lexeme) → last_stage s (l ∷ ls) ≡ start → ⊥
begun_stage s l [] = never_start s l.token
begun_stage s l (k ∷ ls) = begun_stage (stage_after s l.token) k ls

no_foreign : (most : ℕ) (t : Token) (encoding : Option (List ℕ)) → t ≡ declaration encoding → is_utf8_name encoding ≡ false →
    CanStand most start t → ⊥
no_foreign most t encoding same other stands =
    let one : CanStand most start (declaration encoding) = subst (CanStand most start) same stands in
    both_ways (is_utf8_name encoding) other one.1

-- a declaration that is allowed isn't one of another encoding
pub not_foreign : (most : ℕ) (text : List ℕ) (l : Lexeme) (rest : List ℕ) → text ≡ l.text ++ rest → IsSpelled l.token l.text rest →
    CanStand most start l.token → Starts foreign_declaration text → ⊥
not_foreign most text l rest split spelled stands foreign =
    let found = foreign.2 in
    let declared = found.spelled in
    let one = one_token l.token (declaration declared.0) l.text rest found.front foreign.1 spelled
    (declared_xml declared.0 found.front declared.1, declared.1) (sym split ∙ found.split) in
    no_foreign most l.token declared.0 one.0 declared.2 stands

stuck_on : (total : ℕ) (a b : Point) (t : List Event) (at : ℕ) (why : TokenWhy) → Leads a t b →
    IsStuckAt b.most b.stage b.text total at why → IsStuckAt a.most a.stage a.text total at why
stuck_on total a b t at why x stuck =
    let r = subst (λ m. IsStuckAt m b.stage b.text total at why) x.most stuck in
    let same : last_stage b.stage r.lexemes ≡ last_stage a.stage (x.lexemes ++ r.lexemes) =
    ap (λ s. last_stage s r.lexemes) x.stage ∙ sym (stage_append a.stage x.lexemes r.lexemes) in
    record {
      lexemes = x.lexemes ++ r.lexemes;
      rest = r.rest;
      stuck = record {
        split = x.split ∙ ap (λ xs. lexemes_text x.lexemes ++ xs) r.stuck.split
            ∙ sym (append_assoc (lexemes_text x.lexemes) (lexemes_text r.lexemes) r.rest)
            ∙ ap (λ xs. xs ++ r.rest) (sym (text_append x.lexemes r.lexemes));
        stand = stand_append a.most a.stage x.lexemes r.lexemes r.rest
            (subst (λ t. CanAllStand a.most a.stage x.lexemes t) r.stuck.split x.stand)
            (subst (λ s. CanAllStand a.most s r.lexemes r.rest) x.stage r.stuck.stand);
        no_more = subst (λ s. Begins a.most s r.rest → ⊥) same r.stuck.no_more;
        unfinished = subst (λ s. r.rest ≡ [] → s ≡ epilog → ⊥) same r.stuck.unfinished;
      };
      place = subst (λ s. (CanGoOn a.most s r.rest × (at ≡ total) × (why ≡ NotWellFormed))
          ⊎ ((CanGoOn a.most s r.rest → ⊥) × (at ≡ total - length r.rest) × IsTokenFault a.most s r.rest why))
          same r.place;
    }

first_refusal : (total : ℕ) (a b : Point) (ls : List Lexeme) (at : ℕ) (why : TokenWhy) → a.text ≡ lexemes_text ls ++ b.text →
    CanAllStand a.most a.stage ls b.text → b.stage ≡ last_stage a.stage ls →
    b.at ≡ a.at + length (lexemes_text ls) →
    IsStuckAt a.most a.stage a.text total at why
    ⊎ ((b.stage ≡ start) × Starts foreign_declaration b.text × (at ≡ b.at) × (why ≡ NotUtf8)) →
    (b.stage ≡ start → Starts foreign_declaration b.text → ⊥)
    ⊎ ((b.stage ≡ start) × Starts foreign_declaration b.text × (at ≡ b.at) × (why ≡ NotUtf8)) →
    IsRefusal total a at why
first_refusal total a b [] at why split stand stage place found first =
    ⊎_elim
    (λ stuck. ⊎_elim
    (λ none. inl (stuck, λ begins foreign. none (stage ∙ begins) (subst (Starts foreign_declaration) split foreign)))
    (λ f. inr (sym stage ∙ f.0, subst (Starts foreign_declaration) (sym split) f.1, f.2 ∙ place ∙ add-zero a.at, f.3))
    first)
    (λ f. inr (sym stage ∙ f.0, subst (Starts foreign_declaration) (sym split) f.1, f.2 ∙ place ∙ add-zero a.at, f.3))
    found
first_refusal total a b (l ∷ ls) at why split stand stage place found first =
    ⊎_elim
    (λ stuck. inl (
      stuck,
      λ begins foreign.
          not_foreign a.most a.text l (lexemes_text ls ++ b.text)
          (split ∙ append_assoc l.text (lexemes_text ls) b.text) stand.0
          (subst (λ s. CanStand a.most s l.token) begins stand.1) foreign,
    ))
    (λ f. absurd (begun_stage a.stage l ls (sym stage ∙ f.0)))
    found

-- a refusal at a later point is a refusal from here
pub refusal_on : (total : ℕ) (a b : Point) (t : List Event) (at : ℕ) (why : TokenWhy) → Leads a t b →
    IsRefusal total b at why → IsRefusal total a at why
refusal_on total a b t at why x r =
    ⊎_elim
    (λ s. first_refusal total a b x.lexemes at why x.split x.stand x.stage x.at
    (inl (stuck_on total a b t at why x s.0)) (inl s.1))
    (λ f. first_refusal total a b x.lexemes at why x.split x.stand x.stage x.at (inr f) (inr f))
    r

-- a refused part
pub err_is : {A E : Type 0} (P : Result A E → Type 0) (e : E) (r : Result A E) →
    IsErrAnd r (λ s. s ≡ e) → P (Err e) → P r
err_is P e (Ok v) same none = absurd same
err_is {A} {E} P e (Err x) same none =
    let F : E → Type 0 = λ s. P (Err s) in
    subst F (sym same) none

-- an event after silent tokens
pub event_on : (total : ℕ) (first : List Event) (from : Point) (b : Elements) (x : IsLed total first from [] b)
    (event : Option RawEvent) (c : Elements) → IsEventOf b.length (pending b) x.to (Ok event) c →
    IsEventOf total first from (Ok event) c
event_on total first from b x event c y = (y.0, y.1, led_on total first from [] y.0 b c x y.2)

pub fault_on : (total : ℕ) (first : List Event) (from : Point) (t : List Event) (b : Elements)
    (x : IsLed total first from t b) (e : TokenFault) → IsFaultFrom b.length x.to e → IsFaultFrom total from e
fault_on total first from t b x (NotRead at why) y =
    refusal_on total from x.to x.more at why x.path (subst (λ n. IsRefusal n x.to at why) x.same y)
fault_on total first from t b x NoMemory y = tt

-- the stage after an empty element
start_epilog : epilog ≡ start → ⊥
start_epilog h = cc

prolog_epilog : epilog ≡ prolog → ⊥
prolog_epilog h = cc

inside_epilog : (e : Open) (outer : List Open) → epilog ≡ inside e outer → ⊥
inside_epilog e outer h = cc

closed_stage : (s : RawStage) (opened : List Open) (stage : Stage) → IsStageOf s true opened stage →
    (element : Open) × (outer : List Open) × (opened ≡ element ∷ outer) × IsStageOf s false outer stage
closed_stage Start [] stage h = absurd h
closed_stage Start (e ∷ outer) stage h = absurd h
closed_stage Prolog [] stage h = absurd h
closed_stage Prolog (e ∷ outer) stage h = absurd h
closed_stage Root [] stage h = absurd h
closed_stage Root (e ∷ outer) stage h = (e, outer, refl, h)

-- the names of the open elements, when the innermost is closed
pub names_closed : (e : Open) (outer : List Open) (items new : List (Bor (List ℕ))) →
    AllZip IsNameOfOpen (e ∷ outer) (reverse items) →
    ((names : List (Bor (List ℕ))) (name : Bor (List ℕ)) → items ≡ names ++ name ∷ [] → new ≡ names) →
    AllZip IsNameOfOpen outer (reverse new) × (length new + 1 ≡ length items)
names_closed e outer items new all pop =
    let G : Type 0 = AllZip IsNameOfOpen outer (reverse new) × (length new + 1 ≡ length items) in
    let at : (r : List (Bor (List ℕ))) → reverse items ≡ r → AllZip IsNameOfOpen (e ∷ outer) r → G = λ r.
    elim r as (λ r. reverse items ≡ r → AllZip IsNameOfOpen (e ∷ outer) r → G) [
      | [] ↦ λ same zip. absurd zip
      | name ∷ names ↦ λ same zip.
          let whole : items ≡ reverse names ++ name ∷ [] =
          sym (reverse-reverse items) ∙ ap reverse same ∙ reverse-append (name ∷ []) names in
          let front : new ≡ reverse names = pop (reverse names) name whole in
          let parts = length-append (reverse names) (name ∷ []) in
          let long = ap length whole in
          let short = ap length front in
          (subst (AllZip IsNameOfOpen outer) (sym (reverse-reverse names) ∙ ap reverse (sym front)) zip.1, omega arith)
    ] in at (reverse items) refl all

-- the end of an empty element is told
pub element_ends : (old new : Elements) (from : Point) → old.empty ≡ true →
    IsClosed (record old { empty = false }) new →
    IsAt old from → IsLed old.length (pending old) from (finish ∷ []) new × (depth_of new + 1 ≡ depth_of old)
element_ends old new from e shut at =
    let h : IsStageOf old.stage true at.opened from.stage =
    subst (λ b. IsStageOf old.stage b at.opened from.stage) e at.stage in
    let s = closed_stage old.stage at.opened from.stage h in
    let names : AllZip IsNameOfOpen (s.0 ∷ s.1) (reverse old.names.items) =
    subst (λ o. AllZip IsNameOfOpen o (reverse old.names.items)) s.2 at.names in
    let scopes : AreScopesOf (s.0 ∷ s.1) old.scopes = subst (λ o. AreScopesOf o old.scopes) s.2 at.scopes in
    let n = names_closed s.0 s.1 old.names.items new.names.items names shut.names in
    let deep : suc (length s.1) ≤ from.most = subst (λ o. length o ≤ from.most) s.2 at.depth in
    let rest : old.cursor.rest.now ≡ new.cursor.rest.now = sym shut.cursor in
    let is_at : IsAt new from = record {
      opened = s.1;
      tail = at.tail;
      most = shut.most ∙ at.most;
      range = at.range;
      stage = subst (λ b. IsStageOf new.stage b s.1 from.stage) (sym shut.empty)
          (subst (λ r. IsStageOf r false s.1 from.stage) (sym shut.stage) s.3);
      names = n.0;
      scopes = shut.scopes s.0 s.1 scopes;
      depth = omega arith;
      text = at.text ∙ ap (λ r. r ++ at.tail) rest;
      xml = subst IsXmlText rest at.xml;
      behind = at.behind;
      at = ap (λ r. from.at + length r) (sym rest) ∙ at.at ∙ sym shut.end;
      whole = ap (λ n. n + length at.tail) shut.end ∙ at.whole ∙ sym shut.length;
    } in (
      record {
        to = from;
        is_at = is_at;
        more = [];
        path = leads_nowhere from;
        order = ap (λ b. (if b then finish ∷ [] else []) ++ []) e
            ∙ ap (λ b. finish ∷ (if b then finish ∷ [] else [])) (sym shut.empty);
        same = shut.length;
      },
      n.1,
    )

pub no_pending : (e : Elements) → e.empty ≡ false → pending e ≡ []
no_pending e h = ap (λ b. if b then finish ∷ [] else []) h

-- a stage after the root has no open element
ended_stage : (s : RawStage) (opened : List Open) → IsStageOf s false opened epilog → (s ≡ Root) × (opened ≡ [])
ended_stage Start [] h = absurd (start_epilog h)
ended_stage Start (e ∷ outer) h = absurd h
ended_stage Prolog [] h = absurd (prolog_epilog h)
ended_stage Prolog (e ∷ outer) h = absurd h
ended_stage Root [] h = (refl, refl)
ended_stage Root (e ∷ outer) h = absurd (inside_epilog e outer h)

pub no_names : (items : List (Bor (List ℕ))) (opened : List Open) → AllZip IsNameOfOpen opened (reverse items) →
    opened ≡ [] → items ≡ []
no_names items opened all none =
    let at : (r : List (Bor (List ℕ))) → reverse items ≡ r → AllZip IsNameOfOpen [] r → items ≡ [] = λ r.
    elim r as (λ r. reverse items ≡ r → AllZip IsNameOfOpen [] r → items ≡ []) [
      | [] ↦ λ same zip. sym (reverse-reverse items) ∙ ap reverse same
      | name ∷ names ↦ λ same zip. absurd zip
    ] in at (reverse items) refl (subst (λ o. AllZip IsNameOfOpen o (reverse items)) none all)

-- a reader at the end of a whole document has no element open and no text left
pub over_parts : (e : Elements) (from : Point) → e.empty ≡ false → IsAt e from → from.text ≡ [] → from.stage ≡ epilog →
    (e.stage ≡ Root) × (e.names.items ≡ []) × (e.cursor.rest.now ≡ []) × (e.end ≡ e.length)
over_parts e from told at text stage =
    let h : IsStageOf e.stage false at.opened epilog =
    subst (λ b. IsStageOf e.stage b at.opened epilog) told
    (subst (λ s. IsStageOf e.stage e.empty at.opened s) stage at.stage)
    in
    let s = ended_stage e.stage at.opened h in
    let none : e.cursor.rest.now ++ at.tail ≡ [] = sym at.text ∙ text in
    let tail : at.tail ≡ [] = nil_back e.cursor.rest.now at.tail none in
    let short = ap length tail in
    let whole = at.whole in
    (s.0, no_names e.names.items at.opened at.names s.1, nil_front e.cursor.rest.now at.tail none, omega arith)

-- no more elements are open than may be
pub depth_within : (e : Elements) (from : Point) → IsAt e from → depth_of e < 2 ^ 64
depth_within e from at =
    let same = AllZip-long IsNameOfOpen at.opened (reverse e.names.items) at.names in
    let long = length-reverse e.names.items in
    let deep = at.depth in
    let small = at.range.1 in
    omega arith

-- the depth inside an element, after an event
pub depth_step : (event : RawEvent) (mid new depth after outer : ℕ) → IsDepthAfter (Some event) mid new →
    inner_depth event depth ≡ Some after → mid ≡ outer + depth → new ≡ outer + after
depth_step (Begin raw) mid new depth after outer step next deep =
    let same : depth + 1 ≡ after = cc in omega arith
depth_step (Told part) mid new depth after outer step next deep =
    let same : depth ≡ after = cc in omega arith
depth_step End mid new depth after outer step next deep =
    ⊎_elim
    (λ zero. let bad : None ≡ Some after = sym (cond-true (depth == 0) None (Some (depth - 1)) zero)
    ∙ next in absurd cc)
    (λ more.
    let one : Some (depth - 1) ≡ Some after = sym (cond-false (depth == 0) None (Some (depth - 1)) more) ∙ next in
    let same : depth - 1 ≡ after = cc in
    let some : depth ≡ 0 → ⊥ = eqb-false depth 0 more in
    omega arith)
    (cases_Bool (depth == 0))
