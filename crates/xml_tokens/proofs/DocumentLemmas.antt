-- The tree of a whole document: its root, and nothing after it.
use Rattle.std.proofs.Common.{◌≡◌, ℕ, ◌+◌, List, [], ◌∷◌, ◌++◌, length, map, refl, sym, ap, subst, ◌∙◌, Bool, true}
use Rattle.std.proofs.Common.{false, ◌≢◌, Ok, Option, Some, None}
use Rattle.std.specs.Prelude.{if◌then◌else◌}
use Rattle.std.proofs.lemmas.List.{append-nil}
use Rattle.xml_tokens.specs.declared.elements.Element.{Element as RawElement}
use Rattle.xml_tokens.specs.declared.elements.Elements.{Elements}
use Rattle.xml_tokens.specs.declared.elements.Event.{Event as RawEvent}
use Rattle.xml_tokens.specs.declared.elements.Event.TheVariants.{Begin, End, Said as Told}
use Rattle.xml_tokens.specs.Characters.{QName}
use Rattle.xml_tokens.specs.Tokens.{Tag, Token}
use Rattle.xml_tokens.specs.Tokens.Token.{declaration, character, referred, section, comment, instruction, opening}
use Rattle.xml_tokens.specs.Tokens.Token.{closing}
use Rattle.xml_tokens.specs.Stages.{CanAllStand, CanStand, IsInside, IsInnermost, Lexeme, MayBegin, Open, Stage}
use Rattle.xml_tokens.specs.Stages.{begun, content_stage, entered, last_stage, left, stage_after}
use Rattle.xml_tokens.specs.Stages.Stage.{start, prolog, inside, epilog}
use Rattle.xml_tokens.specs.Tree.{Element, Event, Content, contents, events, events_of, said_in, with_element}
use Rattle.xml_tokens.specs.Tree.{with_said}
use Rattle.xml_tokens.specs.Tree.Content.{nothing, said, element}
use Rattle.xml_tokens.specs.Tree.Event.{begin, finish, say}
use Rattle.xml_tokens.specs.Progress.{IsElementOf, IsEventOf, IsLed, IsOver, Leads, Point, pending}
use Rattle.xml_tokens.proofs.ProgressLemmas.{no_pending}

-- the contents that follow in these open elements; nothing follows the root
abbrev IsInOpen : List Open → List Content → Type 0
IsInOpen [] stack = stack ≡ nothing ∷ []
IsInOpen (o ∷ outer) stack = (c : Content) × (rest : List Content) × (stack ≡ c ∷ rest) × IsInOpen outer rest

-- the contents that follow a stage, to the end of a document
abbrev pub IsBehind : Stage → List Content → Type 0
IsBehind start stack = (e : Element) × (c : Content) × (stack ≡ element e c nothing ∷ [])
IsBehind prolog stack = (e : Element) × (c : Content) × (stack ≡ element e c nothing ∷ [])
IsBehind (inside o outer) stack = IsInOpen (o ∷ outer) stack
IsBehind epilog stack = stack ≡ nothing ∷ []

in_open : (opened : List Open) (stack : List Content) → IsBehind (content_stage opened) stack → IsInOpen opened stack
in_open [] stack h = h
in_open (o ∷ outer) stack h = h

behind_begun : (s : Stage) (stack : List Content) → IsBehind (begun s) stack → IsBehind s stack
behind_begun start stack h = h
behind_begun prolog stack h = h
behind_begun (inside o outer) stack h = h
behind_begun epilog stack h = h

behind_said : (s : Stage) (read : List ℕ) (stack : List Content) → IsInside s → IsBehind (begun s) stack →
    IsBehind s (with_said read stack)
behind_said start read stack is h = absurd is
behind_said prolog read stack is h = absurd is
behind_said (inside o outer) read stack is h = (said read h.0, h.1, ap (with_said read) h.2, h.3)
behind_said epilog read stack is h = absurd is

behind_character : (s : Stage) (read : List ℕ) (es : List Event) → IsBehind (begun s) (contents es) →
    IsBehind s (contents (said_in s read ++ es))
behind_character start read es h = h
behind_character prolog read es h = h
behind_character (inside o outer) read es h = (said read h.0, h.1, ap (with_said read) h.2, h.3)
behind_character epilog read es h = h

behind_opening : (s : Stage) (tag : Tag) (e : Element) (b : Bool) (es : List Event) → MayBegin s →
    IsBehind (if b then left (entered s tag) else entered s tag) (contents es) →
    IsBehind s (contents ((begin e ∷ (if b then finish ∷ [] else [])) ++ es))
behind_opening start tag e true es may h = (e, nothing, ap (λ k. with_element e (nothing ∷ k)) h)
behind_opening start tag e false es may h = (e, h.0, ap (with_element e) (h.2 ∙ ap (λ r. h.0 ∷ r) h.3))
behind_opening prolog tag e true es may h = (e, nothing, ap (λ k. with_element e (nothing ∷ k)) h)
behind_opening prolog tag e false es may h = (e, h.0, ap (with_element e) (h.2 ∙ ap (λ r. h.0 ∷ r) h.3))
behind_opening (inside o outer) tag e true es may h =
    (element e nothing h.0, h.1, ap (λ k. with_element e (nothing ∷ k)) h.2, h.3)
behind_opening (inside o outer) tag e false es may h =
    (element e h.0 h.3.0, h.3.1, ap (with_element e) (h.2 ∙ ap (λ r. h.0 ∷ r) h.3.2), h.3.3)
behind_opening epilog tag e b es may h = absurd may

behind_closing : (s : Stage) (name : QName) (es : List Event) → IsInnermost name s → IsBehind (left s) (contents es) →
    IsBehind s (nothing ∷ contents es)
behind_closing start name es is h = absurd is
behind_closing prolog name es is h = absurd is
behind_closing (inside o outer) name es is h = (nothing, contents es, refl, in_open outer (contents es) h)
behind_closing epilog name es is h = absurd is

behind_token : (most : ℕ) (s : Stage) (at : ℕ) (t : Token) (es : List Event) → CanStand most s t →
    IsBehind (stage_after s t) (contents es) → IsBehind s (contents (events_of s at t ++ es))
behind_token most s at (declaration encoding) es can h = behind_begun s (contents es) h
behind_token most s at (character read) es can h = behind_character s read es h
behind_token most s at (referred c) es can h = behind_said s _ (contents es) can h
behind_token most s at (section read) es can h = behind_said s read (contents es) can h
behind_token most s at comment es can h = behind_begun s (contents es) h
behind_token most s at instruction es can h = behind_begun s (contents es) h
behind_token most s at (opening tag) es can h = behind_opening s tag _ tag.is_empty es can.may h
behind_token most s at (closing name) es can h = behind_closing s name es can h

-- the tree of lexemes up to the end of a document
pub behind_lexemes : (most : ℕ) (s : Stage) (at : ℕ) (ls : List Lexeme) (rest : List ℕ) → CanAllStand most s ls rest →
    last_stage s ls ≡ epilog → IsBehind s (contents (events s at ls))
behind_lexemes most s at [] rest stand end = subst (λ k. IsBehind k (nothing ∷ [])) (sym end) refl
behind_lexemes most s at (l ∷ ls) rest stand end =
    behind_token most s at l.token (events (stage_after s l.token) (at + length l.text) ls) stand.1
    (behind_lexemes most (stage_after s l.token) (at + length l.text) ls rest stand.2 end)

-- the root isn't read, nor is anything of it
abbrev pub IsOutside : Stage → Type 0
IsOutside start = Unit {0}
IsOutside prolog = Unit {0}
IsOutside (inside o outer) = ⊥
IsOutside epilog = ⊥

-- the first event is the beginning of an element, if there is one
abbrev pub IsAtRoot : List Event → Type 0
IsAtRoot [] = Unit {0}
IsAtRoot (begin e ∷ es) = Unit {0}
IsAtRoot (finish ∷ es) = ⊥
IsAtRoot (say read ∷ es) = ⊥

outside_begun : (s : Stage) → IsOutside s → IsOutside (begun s)
outside_begun start out = tt
outside_begun prolog out = tt
outside_begun (inside o outer) out = absurd out
outside_begun epilog out = absurd out

not_inside : (s : Stage) → IsOutside s → IsInside s → ⊥
not_inside start out is = is
not_inside prolog out is = is
not_inside (inside o outer) out is = out
not_inside epilog out is = out

not_innermost : (s : Stage) (name : QName) → IsOutside s → IsInnermost name s → ⊥
not_innermost start name out is = is
not_innermost prolog name out is = is
not_innermost (inside o outer) name out is = out
not_innermost epilog name out is = out

root_said : (s : Stage) (read : List ℕ) (es : List Event) → IsOutside s → IsAtRoot es → IsAtRoot (said_in s read ++ es)
root_said start read es out h = h
root_said prolog read es out h = h
root_said (inside o outer) read es out h = absurd out
root_said epilog read es out h = absurd out

root_token : (most : ℕ) (s : Stage) (at : ℕ) (t : Token) (es : List Event) → IsOutside s → CanStand most s t →
    (IsOutside (stage_after s t) → IsAtRoot es) → IsAtRoot (events_of s at t ++ es)
root_token most s at (declaration encoding) es out can h = h (outside_begun s out)
root_token most s at (character read) es out can h = root_said s read es out (h (outside_begun s out))
root_token most s at (referred c) es out can h = absurd (not_inside s out can)
root_token most s at (section read) es out can h = absurd (not_inside s out can)
root_token most s at comment es out can h = h (outside_begun s out)
root_token most s at instruction es out can h = h (outside_begun s out)
root_token most s at (opening tag) es out can h = tt
root_token most s at (closing name) es out can h = absurd (not_innermost s name out can)

-- a document's first event is the beginning of its root
pub root_first : (most : ℕ) (s : Stage) (at : ℕ) (ls : List Lexeme) (rest : List ℕ) → IsOutside s →
    CanAllStand most s ls rest → IsAtRoot (events s at ls)
root_first most s at [] rest out stand = tt
root_first most s at (l ∷ ls) rest out stand =
    root_token most s at l.token (events (stage_after s l.token) (at + length l.text) ls) out stand.1
    (λ outside. root_first most (stage_after s l.token) (at + length l.text) ls rest outside stand.2)

-- a root, and what it leaves to follow
whole_root : (e r : Element) (c : Content) (stack : List Content) →
    with_element e stack ≡ element r c nothing ∷ [] → (inner : Content) × (stack ≡ inner ∷ nothing ∷ [])
whole_root e r c [] same = absurd (cc)
whole_root e r c (x ∷ []) same = absurd (cc)
whole_root e r c (x ∷ y ∷ outer) same =
    let next : y ≡ nothing = cc in
    let none : outer ≡ [] = cc in
    (x, λ i. x ∷ next i ∷ none i)

-- the events of a whole document are its root's
pub whole_told : (from to : Point) (root : Element) (told : List Event) → Leads from (begin root ∷ told) to →
    from.stage ≡ start → to.stage ≡ epilog → (inner : Content) × (contents told ≡ inner ∷ nothing ∷ [])
whole_told from to root told path begins ends =
    let all : IsBehind from.stage (contents (events from.stage from.at path.lexemes)) =
    behind_lexemes from.most from.stage from.at path.lexemes to.text path.stand (sym path.stage ∙ ends) in
    let h : IsBehind start (contents (begin root ∷ told)) =
    subst (λ es. IsBehind start (contents es)) (sym path.adds)
    (subst (λ s. IsBehind s (contents (events from.stage from.at path.lexemes))) begins all) in
    whole_root root h.0 h.1 (contents told) h.2

-- a whole document has a root
pub some_root : (from to : Point) → Leads from [] to → from.stage ≡ start → to.stage ≡ epilog → ⊥
some_root from to path begins ends =
    let all : IsBehind from.stage (contents (events from.stage from.at path.lexemes)) =
    behind_lexemes from.most from.stage from.at path.lexemes to.text path.stand (sym path.stage ∙ ends) in
    let h : IsBehind start (contents []) =
    subst (λ es. IsBehind start (contents es)) (sym path.adds)
    (subst (λ s. IsBehind s (contents (events from.stage from.at path.lexemes))) begins all) in
    let bad : nothing ∷ [] ≡ element h.0 h.1 nothing ∷ [] = h.2 in absurd cc

-- nothing but the root comes first
pub root_leads : (from to : Point) (told : List Event) → Leads from told to → from.stage ≡ start → IsAtRoot told
root_leads from to told path begins =
    let out : IsOutside from.stage = subst IsOutside (sym begins) tt in
    subst IsAtRoot (sym path.adds) (root_first from.most from.stage from.at path.lexemes to.text out path.stand)

-- the events that a reader told from a point on, where none were left to be told
pub led_leads : (total : ℕ) (first : List Event) (from : Point) (told : List Event) (new : Elements) →
    (x : IsLed total first from told new) → first ≡ [] → Leads from (told ++ pending new) x.to
led_leads total first from told new x none =
    subst (λ es. Leads from es x.to) (ap (λ f. f ++ x.more) (sym none) ∙ x.order) x.path

-- and at the end of a document
pub over_leads : (total : ℕ) (first : List Event) (from : Point) (told : List Event) (new : Elements) →
    (x : IsLed total first from told new) → first ≡ [] → IsOver new →
    Leads from told x.to × (x.to.text ≡ []) × (x.to.stage ≡ epilog)
over_leads total first from told new x none over =
    let ends = over.1 x.to x.is_at in
    let more : told ++ pending new ≡ told = ap (λ p. told ++ p) (no_pending new over.0) ∙ append-nil told in
    (subst (λ es. Leads from es x.to) more (led_leads total first from told new x none), ends.0, ends.1)

not_said : (parts : List (List ℕ)) (more : List Event) → parts ≢ [] → IsAtRoot (map say parts ++ more) → ⊥
not_said [] more some at = some refl
not_said (read ∷ parts) more some at = at

-- the first part of a document's tree is its root
pub root_comes : (total : ℕ) (first : List Event) (from : Point) (event : Option RawEvent) (new : Elements) →
    first ≡ [] → from.stage ≡ start → IsEventOf total first from (Ok event) new → (event ≡ None → IsOver new) →
    (raw : RawElement) × (event ≡ Some (Begin raw))
root_comes total first from None new none begins y over =
    let path = over_leads total first from y.0 new y.2 none (over refl) in
    absurd (some_root from y.2.to (subst (λ t. Leads from t y.2.to) y.1 path.0) begins path.2)
root_comes total first from (Some (Begin raw)) new none begins y over = (raw, refl)
root_comes total first from (Some End) new none begins y over =
    let at : IsAtRoot (y.0 ++ pending new) =
    root_leads from y.2.to (y.0 ++ pending new) (led_leads total first from y.0 new y.2 none) begins in
    absurd (subst (λ t. IsAtRoot (t ++ pending new)) y.1 at)
root_comes total first from (Some (Told part)) new none begins y over =
    let at : IsAtRoot (y.0 ++ pending new) =
    root_leads from y.2.to (y.0 ++ pending new) (led_leads total first from y.0 new y.2 none) begins in
    absurd (not_said y.1.0 (pending new) y.1.3 (subst (λ t. IsAtRoot (t ++ pending new)) y.1.1 at))

-- the root, and the reader after its tag
pub root_led : (total : ℕ) (first : List Event) (from : Point) (event : Option RawEvent) (raw : RawElement)
    (new : Elements) → event ≡ Some (Begin raw) → IsEventOf total first from (Ok event) new →
    (e : Element) × IsElementOf e raw × IsLed total first from (begin e ∷ []) new
root_led total first from event raw new same read =
    let y : IsEventOf total first from (Ok (Some (Begin raw))) new =
    subst (λ k. IsEventOf total first from (Ok k) new) same read in
    (y.1.0, y.1.2, subst (λ t. IsLed total first from t new) y.1.1 y.2)
