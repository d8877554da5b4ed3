-- How far a document is read, as a reader keeps it.
use Rattle.std.specs.Prelude.{◌≡◌, ◌≢◌, ◌⊎◌, ℕ, ◌+◌, ◌*◌, List, [], ◌∷◌, ◌++◌, map, flat_map, reverse, length, Bool}
use Rattle.std.specs.Prelude.{true, false}
use Rattle.std.specs.Prelude.{◌==◌, ◌≤◌, ◌<◌, ◌^◌, ◌-◌, ◌&&◌, ◌||◌, not, nat_lt, drop, option_map, codes, if◌then◌else◌, Option}
use Rattle.std.specs.Prelude.{Some, None, Result, Ok, Err, encode_utf8}
use Rattle.std.specs.Prelude.{IsTrue, take}
use Rattle.std.specs.Borrow.{Bor}
use Rattle.std.specs.Str.{is_utf8, IsValidUpTo}
use Rattle.std.specs.List.{AllZip}
use Rattle.std.specs.Option.{option_or}
use Rattle.atom_values.specs.XmlText.{IsXmlText}
use Rattle.xml_tokens.specs.declared.elements.Elements.{Elements}
use Rattle.xml_tokens.specs.declared.elements.Element.{Element as RawElement}
use Rattle.xml_tokens.specs.declared.elements.Event.{Event as RawEvent}
use Rattle.xml_tokens.specs.declared.elements.Event.TheVariants.{Begin, End, Said as Told}
use Rattle.xml_tokens.specs.declared.elements.Said.{Said}
use Rattle.xml_tokens.specs.declared.elements.Said.TheVariants.{Written, Reference}
use Rattle.xml_tokens.specs.declared.elements.Stage.{Stage as RawStage}
use Rattle.xml_tokens.specs.declared.elements.Stage.TheVariants.{Start, Prolog, Root}
use Rattle.xml_tokens.specs.declared.fault.TokenFault.{TokenFault}
use Rattle.xml_tokens.specs.declared.fault.TokenFault.TheVariants.{NotRead, NoMemory}
use Rattle.xml_tokens.specs.declared.fault.TokenWhy.{TokenWhy}
use Rattle.xml_tokens.specs.declared.fault.TokenWhy.TheVariants.{NotUtf8, Doctype, NotWellFormed, TooDeep}
use Rattle.xml_tokens.specs.declared.cursor.Lapse.{Lapse}
use Rattle.xml_tokens.specs.declared.cursor.Lapse.TheVariants.{Broken, Cut, NoMemory as OutOfMemory}
use Rattle.xml_tokens.specs.declared.token.Context.{Context}
use Rattle.xml_tokens.specs.declared.token.Context.TheVariants.{Start as AtStart, Outside, Inside}
use Rattle.xml_tokens.specs.declared.elements.Content.{Content as RawContent}
use Rattle.xml_tokens.specs.declared.tag.TagEnd.{TagEnd}
use Rattle.xml_tokens.specs.declared.tag.TagEnd.TheVariants.{Open as WholeTag, Empty as EmptyTag, Cut as CutTag}
use Rattle.xml_tokens.specs.declared.tag.TagEnd.TheVariants.{CutAtSlash}
use Rattle.xml_tokens.specs.Characters.{IsQName, begins, lines, name_text}
use Rattle.xml_tokens.specs.Tokens.{Attribute}
use Rattle.xml_tokens.specs.Children.{attribute_in, children, first_of, text_of, whole_text_of}
use Rattle.xml_tokens.specs.Stages.{Stage, Open, Lexeme, CanAllStand, content_stage, last_stage, lexemes_text}
use Rattle.xml_tokens.specs.Stages.Stage.{start, prolog, inside, epilog}
use Rattle.xml_tokens.specs.Tree.{Element, Event, Content, contents, events, mark_of}
use Rattle.xml_tokens.specs.Tree.Event.{begin, finish, say}
use Rattle.xml_tokens.specs.Refusal.{IsStuckAt}
use Rattle.xml_tokens.specs.Reading.{Starts, foreign_declaration, kind_of}
use Rattle.xml_tokens.specs.Scopes.{AreScopesOf, IsLawfulOf}

-- a place in a document: the stage there, the text that is unread, its offset in the input, and the greatest depth of
-- an element of the document
pub record Point : Type 0 where
  pub stage : Stage
  pub text : List ℕ
  pub at : ℕ
  pub most : ℕ

-- lexemes lead from a point to another, and add these events
pub record Leads (from : Point) (told : List Event) (to : Point) : Type 0 where
  pub lexemes : List Lexeme
  pub split : from.text ≡ lexemes_text lexemes ++ to.text
  pub stand : CanAllStand from.most from.stage lexemes to.text
  pub stage : to.stage ≡ last_stage from.stage lexemes
  pub at : to.at ≡ from.at + length (lexemes_text lexemes)
  pub most : to.most ≡ from.most
  pub adds : told ≡ events from.stage from.at lexemes

-- the name of an open element, as it is written
abbrev pub IsNameOfOpen : Open → Bor (List ℕ) → Type 0
IsNameOfOpen element name = (name.now ≡ name_text element.name) × IsQName element.name × IsXmlText name.now

-- the stage, as a reader keeps it; an empty element whose end it has not told yet is still open
abbrev pub IsStageOf : RawStage → Bool → List Open → Stage → Type 0
IsStageOf Start false [] stage = stage ≡ start
IsStageOf Prolog false [] stage = stage ≡ prolog
IsStageOf Root false opened stage = stage ≡ content_stage opened
IsStageOf Root true (element ∷ outer) stage = stage ≡ content_stage outer
IsStageOf _ _ _ _ = ⊥

-- the stage after a token that says nothing of elements
abbrev pub later_stage : RawStage → RawStage
later_stage Start = Prolog
later_stage stage = stage

-- the text after the reader's: no XML text begins with its first byte, whatever follows it
abbrev pub IsBehindXml : List ℕ → Type 0
IsBehindXml tail =
    (front back more : List ℕ) → tail ≢ [] → tail ++ more ≡ front ++ back → IsXmlText front → front ≡ []

-- a reader whose unread text is `rest` is at this point
pub record IsAtText (elements : Elements) (rest : List ℕ) (point : Point) : Type 0 where
  pub opened : List Open
  pub tail : List ℕ
  pub most : elements.most ≡ point.most
  pub range : (1 ≤ point.most) × (point.most < 2 ^ 64)
  pub stage : IsStageOf elements.stage elements.empty opened point.stage
  pub names : AllZip IsNameOfOpen opened (reverse elements.names.items)
  pub scopes : AreScopesOf opened elements.scopes
  pub depth : length opened ≤ point.most
  pub text : point.text ≡ rest ++ tail
  pub xml : IsXmlText rest
  pub behind : IsBehindXml tail
  pub at : point.at + length rest ≡ elements.end
  pub whole : elements.end + length tail ≡ elements.length

abbrev pub IsAt : Elements → Point → Type 0
IsAt elements point = IsAtText elements elements.cursor.rest.now point

abbrev pub IsReading : Elements → Type 0
IsReading elements = (point : Point) × IsAt elements point

-- the length of the reader's input
abbrev pub total_of : Elements → ℕ
total_of elements = elements.length

-- the end of an empty element that the reader has not told yet
abbrev pub pending : Elements → List Event
pending elements = if elements.empty then finish ∷ [] else []

-- From this point on, where some events are still to be told, the reader tells events and is at another point.
-- `total` is the length of the input.
pub record IsLed (total : ℕ) (first : List Event) (from : Point) (told : List Event) (new : Elements) : Type 0 where
  pub to : Point
  pub is_at : IsAt new to
  pub more : List Event
  pub path : Leads from more to
  pub order : first ++ more ≡ told ++ pending new
  pub same : new.length ≡ total

-- the rest of the document is refused: a token isn't allowed, or it begins with a declaration of another encoding
abbrev pub IsRefusal : ℕ → Point → ℕ → TokenWhy → Type 0
IsRefusal total from at why =
    (IsStuckAt from.most from.stage from.text total at why
    × (from.stage ≡ start → ¬ Starts foreign_declaration from.text))
    ⊎ ((from.stage ≡ start) × Starts foreign_declaration from.text × (at ≡ from.at) × (why ≡ NotUtf8))

abbrev pub IsFaultFrom : ℕ → Point → TokenFault → Type 0
IsFaultFrom total from (NotRead at why) = IsRefusal total from at why
IsFaultFrom total from NoMemory = Unit {0}

-- the document is whole and read to its end
abbrev pub IsOver : Elements → Type 0
IsOver elements =
    (elements.empty ≡ false) × ((from : Point) → IsAt elements from → (from.text ≡ []) × (from.stage ≡ epilog))

-- the attributes of an element, as its tag tells them
abbrev pub AreAttributesOf : List Attribute → RawElement → Type 0
AreAttributesOf attributes raw = AllZip IsLawfulOf attributes raw.attributes.items

-- an element, and as its tag tells it
pub record IsElementOf (element : Element) (raw : RawElement) : Type 0 where
  pub place : element.place ≡ raw.at
  pub namespace : raw.namespace ≡ kind_of element.name.namespace
  pub local : raw.local.now ≡ element.name.local
  pub attributes : AreAttributesOf element.attributes raw

abbrev pub said_text : Said → List ℕ
said_text (Written run) = lines run.now
said_text (Reference c) = encode_utf8 c

-- the events that a part of a document's tree is; characters may be several, and are one at least
abbrev pub IsToldBy : Option RawEvent → List Event → Type 0
IsToldBy None told = told ≡ []
IsToldBy (Some (Begin raw)) told = (element : Element) × (told ≡ begin element ∷ []) × IsElementOf element raw
IsToldBy (Some End) told = told ≡ finish ∷ []
IsToldBy (Some (Told said)) told =
    (parts : List (List ℕ)) × (told ≡ map say parts) × (said_text said ≡ flat_map (λ part. part) parts) × (parts ≢ [])

-- the next part of the tree is read, where some events are still to be told, or the fault is why there is none
abbrev pub IsEventOf : ℕ → List Event → Point → Result (Option RawEvent) TokenFault → Elements → Type 0
IsEventOf total first from (Ok event) new = (told : List Event) × IsToldBy event told × IsLed total first from told new
IsEventOf total first from (Err fault) new = IsFaultFrom total from fault

abbrev pub IsNext : Elements → Result (Option RawEvent) TokenFault → Elements → Type 0
IsNext old result new = (from : Point) → IsAt old from → IsEventOf old.length (pending old) from result new

-- a tag is the next part of the tree, or the fault is why it isn't allowed
abbrev pub IsBegun : ℕ → Point → Result RawEvent TokenFault → Elements → Type 0
IsBegun total from (Ok event) new = IsEventOf total [] from (Ok (Some event)) new
IsBegun total from (Err fault) new = IsEventOf total [] from (Err fault) new

-- how many elements are open after an event
abbrev pub IsDepthAfter : Option RawEvent → ℕ → ℕ → Type 0
IsDepthAfter None old new = new ≡ old
IsDepthAfter (Some (Begin raw)) old new = new ≡ old + 1
IsDepthAfter (Some End) old new = new + 1 ≡ old
IsDepthAfter (Some (Told said)) old new = new ≡ old

abbrev pub depth_of : Elements → ℕ
depth_of elements = length elements.names.items

-- a measure of the text that is left to read; it falls with each event
abbrev pub left_of : Elements → ℕ
left_of elements = 2 * length elements.cursor.rest.now + (if elements.empty then 1 else 0)

-- the place of the next token, at a stage
abbrev pub IsPlaceOf : Context → Stage → Type 0
IsPlaceOf AtStart stage = stage ≡ start
IsPlaceOf Outside stage = (stage ≡ prolog) ⊎ (stage ≡ epilog)
IsPlaceOf (Inside name) stage =
    (element : Open) × (outer : List Open) × (stage ≡ inside element outer) × IsNameOfOpen element name

-- the value of the attribute with this name and no prefix, as an element's tag tells it
abbrev pub IsAttributeFound : List ℕ → RawElement → Option (List ℕ) → Type 0
IsAttributeFound name raw value =
    (attributes : List Attribute) → AreAttributesOf attributes raw → value ≡ attribute_in name attributes

-- the innermost element is closed
pub record IsClosed (old new : Elements) : Type 0 where
  pub most : new.most ≡ old.most
  pub cursor : new.cursor.rest.now ≡ old.cursor.rest.now
  pub end : new.end ≡ old.end
  pub length : new.length ≡ old.length
  pub stage : new.stage ≡ old.stage
  pub empty : new.empty ≡ old.empty
  pub names : (names : List (Bor (List ℕ))) (name : Bor (List ℕ)) → old.names.items ≡ names ++ name ∷ []
      → new.names.items ≡ names
  pub scopes : (element : Open) (opened : List Open) → AreScopesOf (element ∷ opened) old.scopes
      → AreScopesOf opened new.scopes

-- the fault of a token at an offset that can't be read, where the reader's text ends at `end` in an input of length
-- `total`
abbrev pub fault_of : ℕ → ℕ → ℕ → List ℕ → Lapse → TokenFault
fault_of end total at text OutOfMemory = NoMemory
fault_of end total at text Cut =
    if end == total then NotRead total NotWellFormed
    else (if begins (codes "<!DOCTYPE") text then NotRead at Doctype else NotRead at NotWellFormed)
fault_of end total at text Broken =
    if begins (codes "<!DOCTYPE") text then NotRead at Doctype else NotRead at NotWellFormed

-- the document isn't whole yet
abbrev pub IsUnfinished : Elements → Type 0
IsUnfinished elements = (from : Point) → IsAt elements from → from.text ≡ [] → from.stage ≢ epilog

-- the start of a document, after the mark
abbrev pub first_point : ℕ → List ℕ → Point
first_point most bytes = record {
  stage = start;
  text = drop (length (mark_of bytes)) bytes;
  at = length (mark_of bytes);
  most = most;
}

abbrev pub is_cut : TagEnd → Bool
is_cut CutTag = true
is_cut CutAtSlash = true
is_cut _ = false

-- whether a whole tag is that of an empty element
abbrev pub emptiness : TagEnd → Option Bool
emptiness WholeTag = Some false
emptiness EmptyTag = Some true
emptiness _ = None

-- the root is read, and no element is open
abbrev pub is_past_root : RawStage → List (Bor (List ℕ)) → Bool
is_past_root Root [] = true
is_past_root _ _ = false

-- the input ends within a tag that could set its prefix
abbrev pub admission_of_cut : ℕ → TagEnd → Result (Unit {0}) TokenFault
admission_of_cut total CutTag = Err (NotRead total NotWellFormed)
admission_of_cut total _ = Ok tt

-- whether a tag that ends so is allowed, whatever its prefix is and if its missing attributes set it
abbrev pub admission : Elements → ℕ → TagEnd → Result (Unit {0}) TokenFault
admission elements at end =
    if (is_past_root elements.stage elements.names.items) || (is_cut end && nat_lt elements.end elements.length)
    then Err (NotRead at NotWellFormed)
    else (if not (nat_lt (length elements.names.items) elements.most) then Err (NotRead at TooDeep)
    else admission_of_cut elements.length end)

-- the rest of the document is read
abbrev pub IsDrainedFrom : ℕ → List Event → Point → Result (Unit {0}) TokenFault → Elements → Type 0
IsDrainedFrom total first from (Ok done) new = (told : List Event) × IsLed total first from told new
IsDrainedFrom total first from (Err fault) new = IsFaultFrom total from fault

abbrev pub IsDrained : Elements → Result (Unit {0}) TokenFault → Elements → Type 0
IsDrained old result new = (from : Point) → IsAt old from → IsDrainedFrom old.length (pending old) from result new

-- the events are this content of the innermost element, and its end
abbrev pub AreInner : Content → List Event → Type 0
AreInner inner told = (later : List Event) → contents (told ++ later) ≡ inner ∷ contents later

-- the offset of the first element of a content
abbrev pub first_place : Content → Option ℕ
first_place inner = option_map (λ c. c.element.place) (first_of (children inner))

-- how many elements are open inside the one that is read, after an event; none if it ends that one
abbrev pub inner_depth : RawEvent → ℕ → Option ℕ
inner_depth (Begin raw) depth = Some (depth + 1)
inner_depth End depth = if depth == 0 then None else Some (depth - 1)
inner_depth (Told said) depth = Some depth

-- the own text of an element, with an event inside it
abbrev pub added_text : ℕ → RawEvent → List ℕ → List ℕ
added_text depth (Told said) text = if depth == 0 then text ++ said_text said else text
added_text depth _ text = text

-- the characters of an event
abbrev pub event_text : RawEvent → List ℕ
event_text (Told said) = said_text said
event_text _ = []

-- the first element in it
abbrev pub added_inner : RawEvent → Option ℕ → Option ℕ
added_inner (Begin raw) inner = option_or inner (Some raw.at)
added_inner _ inner = inner

-- the rest of the innermost element is read
abbrev pub IsContentFrom : ℕ → List Event → Point → Result RawContent TokenFault → Elements → Type 0
IsContentFrom total first from (Ok read) new =
    (inner : Content) × (told : List Event) × IsLed total first from told new × AreInner inner told
    × (read.text.items ≡ text_of inner) × (read.inner ≡ first_place inner)
IsContentFrom total first from (Err fault) new = IsFaultFrom total from fault

abbrev pub IsContentRead : Elements → Result RawContent TokenFault → Elements → Type 0
IsContentRead old result new = (from : Point) → IsAt old from → IsContentFrom old.length (pending old) from result new

-- the rest of the innermost element is read, with the characters of elements in it
abbrev pub IsWholeFrom : ℕ → List Event → Point → Result RawContent TokenFault → Elements → Type 0
IsWholeFrom total first from (Ok read) new =
    (inner : Content) × (told : List Event) × IsLed total first from told new × AreInner inner told
    × (read.text.items ≡ whole_text_of inner) × (read.inner ≡ first_place inner)
IsWholeFrom total first from (Err fault) new = IsFaultFrom total from fault

abbrev pub IsWholeRead : Elements → Result RawContent TokenFault → Elements → Type 0
IsWholeRead old result new = (from : Point) → IsAt old from → IsWholeFrom old.length (pending old) from result new

abbrev pub IsSkippedFrom : ℕ → List Event → Point → Result (Unit {0}) TokenFault → Elements → Type 0
IsSkippedFrom total first from (Ok done) new =
    (inner : Content) × (told : List Event) × IsLed total first from told new × AreInner inner told
IsSkippedFrom total first from (Err fault) new = IsFaultFrom total from fault

abbrev pub IsSkipped : Elements → Result (Unit {0}) TokenFault → Elements → Type 0
IsSkipped old result new = (from : Point) → IsAt old from → IsSkippedFrom old.length (pending old) from result new

-- the length of the longest front of a UTF-8 text that has XML characters only
pub record IsXmlLength (bytes : List ℕ) (n : ℕ) : Type 0 where
  pub within : n ≤ length bytes
  pub utf8 : IsTrue (is_utf8 bytes)
  pub text : IsXmlText (take n bytes)
  pub behind : IsBehindXml (drop n bytes)

-- the first sequence that isn't UTF-8
abbrev pub IsNotUtf8Fault : List ℕ → TokenFault → Type 0
IsNotUtf8Fault bytes fault = (at : ℕ) × (fault ≡ NotRead at NotUtf8) × IsValidUpTo bytes at

-- a reader of the bytes that has read nothing yet
pub record IsOpened (most : ℕ) (bytes : List ℕ) (elements : Elements) : Type 0 where
  pub utf8 : IsTrue (is_utf8 bytes)
  pub at : IsAt elements (first_point most bytes)
  pub none : pending elements ≡ []
  pub total : total_of elements ≡ length bytes
  pub depth : depth_of elements ≡ 0
