-- The content of an element, event by event.
use Rattle.std.proofs.Common.{◌≡◌, ℕ, suc, ◌+◌, List, [], ◌∷◌, ◌++◌, length, map, Option, Some, None, refl, sym, ap}
use Rattle.std.proofs.Common.{◌∙◌, append_assoc}
use Rattle.std.specs.Prelude.{flat_map}
use Rattle.std.specs.Option.{option_or}
use Rattle.std.proofs.lemmas.List.{append-nil}
use Rattle.xml_tokens.specs.Tree.{Element, Event, Content, contents, with_element, with_said}
use Rattle.xml_tokens.specs.Tree.Content.{nothing, said, element}
use Rattle.xml_tokens.specs.Tree.Event.{begin, finish, say}
use Rattle.xml_tokens.specs.Children.{Child, children, first_of, text_of, whole_text_of}
use Rattle.std.proofs.Common.{◌-◌, ◌==◌, true, false, Ok, subst, arith, eq-eqb}
use Rattle.std.proofs.lemmas.Bool.{cond-true, cond-false, ne_eqb}
use Rattle.xml_tokens.specs.declared.elements.Elements.{Elements}
use Rattle.xml_tokens.specs.declared.elements.Element.{Element as RawElement}
use Rattle.xml_tokens.specs.declared.elements.Event.{Event as RawEvent}
use Rattle.xml_tokens.specs.declared.elements.Event.TheVariants.{Begin, End, Said as Told}
use Rattle.xml_tokens.specs.declared.elements.Said.{Said}
use Rattle.xml_tokens.specs.Children.{joined}
use Rattle.xml_tokens.specs.Progress.{AreInner, IsAt, IsEventOf, IsLed, Point, added_inner, added_text, first_place}
use Rattle.xml_tokens.specs.Progress.{event_text, inner_depth, pending, said_text}
use Rattle.xml_tokens.proofs.ProgressLemmas.{led_nowhere, led_on}

abbrev pub with_before : Content → List Content → List Content
with_before b [] = []
with_before b (c ∷ outer) = joined b c ∷ outer

-- an element that is read in part, and what is before it in the element round it
pub record Frame : Type 0 where
  pub before : Content
  pub root : Element

abbrev pub around : Content → List Frame → List Content → List Content
around b [] stack = with_before b stack
around b (f ∷ fs) stack = around f.before fs (with_element f.root (with_before b stack))

-- the content that was read, as if all elements ended there
abbrev pub closed : Content → List Frame → Content
closed b [] = b
closed b (f ∷ fs) = closed (joined f.before (element f.root b nothing)) fs

-- the events are the beginning of a content, which ends in these elements
abbrev pub ArePart : Content → List Frame → List Event → Type 0
ArePart b fs told = (later : List Event) → contents (told ++ later) ≡ around b fs (contents later)

-- characters
abbrev pub says : List (List ℕ) → Content
says [] = nothing
says (read ∷ more) = said read (says more)

abbrev pub places : Content → List ℕ
places c = map (λ (k : Child). k.element.place) (children c)

pub joined_nothing : (b : Content) → joined b nothing ≡ b
joined_nothing nothing = refl
joined_nothing (said read b) = ap (said read) (joined_nothing b)
joined_nothing (element e inner b) = ap (element e inner) (joined_nothing b)

pub joined_assoc : (a b c : Content) → joined (joined a b) c ≡ joined a (joined b c)
joined_assoc nothing b c = refl
joined_assoc (said read a) b c = ap (said read) (joined_assoc a b c)
joined_assoc (element e inner a) b c = ap (element e inner) (joined_assoc a b c)

pub with_nothing : (stack : List Content) → with_before nothing stack ≡ stack
with_nothing [] = refl
with_nothing (c ∷ outer) = refl

with_joined : (b x : Content) (stack : List Content) →
    with_before b (with_before x stack) ≡ with_before (joined b x) stack
with_joined b x [] = refl
with_joined b x (c ∷ outer) = ap (λ k. k ∷ outer) (sym (joined_assoc b x c))

around_joined : (b x : Content) (fs : List Frame) (stack : List Content) →
    around b fs (with_before x stack) ≡ around (joined b x) fs stack
around_joined b x [] stack = with_joined b x stack
around_joined b x (f ∷ fs) stack = ap (λ k. around f.before fs (with_element f.root k)) (with_joined b x stack)

with_whole : (e : Element) (inner : Content) (stack : List Content) →
    with_element e (inner ∷ stack) ≡ with_before (element e inner nothing) stack
with_whole e inner [] = refl
with_whole e inner (c ∷ outer) = refl

says_before : (parts : List (List ℕ)) (later : List Event) →
    contents (map say parts ++ later) ≡ with_before (says parts) (contents later)
says_before [] later = sym (with_nothing (contents later))
says_before (read ∷ more) later =
    let one : (stack : List Content) → with_said read (with_before (says more) stack)
    ≡ with_before (said read (says more)) stack = λ stack.
    elim stack as (λ s. with_said read (with_before (says more) s) ≡ with_before (said read (says more)) s)
    [ [] ↦ refl | c ∷ outer ↦ refl ] in
    ap (with_said read) (says_before more later) ∙ one (contents later)

-- nothing is read
pub part_none : ArePart nothing [] []
part_none = λ later. sym (with_nothing (contents later))

-- characters are read
pub part_said : (b : Content) (fs : List Frame) (told : List Event) (parts : List (List ℕ)) → ArePart b fs told →
    ArePart (joined b (says parts)) fs (told ++ map say parts)
part_said b fs told parts part = λ later.
    ap contents (append_assoc told (map say parts) later) ∙ part (map say parts ++ later)
    ∙ ap (around b fs) (says_before parts later) ∙ around_joined b (says parts) fs (contents later)

-- an element begins
pub part_begin : (b : Content) (fs : List Frame) (told : List Event) (e : Element) → ArePart b fs told →
    ArePart nothing (record { before = b; root = e } ∷ fs) (told ++ begin e ∷ [])
part_begin b fs told e part = λ later.
    ap contents (append_assoc told (begin e ∷ []) later) ∙ part (begin e ∷ later)
    ∙ ap (λ k. around b fs (with_element e k)) (sym (with_nothing (contents later)))

-- the innermost element ends
pub part_end : (b : Content) (f : Frame) (fs : List Frame) (told : List Event) → ArePart b (f ∷ fs) told →
    ArePart (joined f.before (element f.root b nothing)) fs (told ++ finish ∷ [])
part_end b f fs told part = λ later.
    ap contents (append_assoc told (finish ∷ []) later) ∙ part (finish ∷ later)
    ∙ ap (λ k. around f.before fs (with_element f.root (k ∷ contents later))) (joined_nothing b)
    ∙ ap (around f.before fs) (with_whole f.root b (contents later))
    ∙ around_joined f.before (element f.root b nothing) fs (contents later)

-- the element round them ends
pub part_last : (b : Content) (told : List Event) → ArePart b [] told → AreInner b (told ++ finish ∷ [])
part_last b told part = λ later.
    ap contents (append_assoc told (finish ∷ []) later) ∙ part (finish ∷ later)
    ∙ ap (λ k. k ∷ contents later) (joined_nothing b)

-- a whole element is read
pub part_whole : (b : Content) (fs : List Frame) (told more : List Event) (e : Element) (inner : Content) →
    ArePart b fs told → AreInner inner more →
    ArePart (joined b (element e inner nothing)) fs (told ++ begin e ∷ more)
part_whole b fs told more e inner part are = λ later.
    ap contents (append_assoc told (begin e ∷ more) later) ∙ part (begin e ∷ more ++ later)
    ∙ ap (λ k. around b fs (with_element e k)) (are later)
    ∙ ap (around b fs) (with_whole e inner (contents later))
    ∙ around_joined b (element e inner nothing) fs (contents later)

pub text_joined : (b c : Content) → text_of (joined b c) ≡ text_of b ++ text_of c
text_joined nothing c = refl
text_joined (said read b) c =
    ap (λ xs. read ++ xs) (text_joined b c) ∙ sym (append_assoc read (text_of b) (text_of c))
text_joined (element e inner b) c = text_joined b c

pub children_joined : (b c : Content) → children (joined b c) ≡ children b ++ children c
children_joined nothing c = refl
children_joined (said read b) c = children_joined b c
children_joined (element e inner b) c =
    ap (λ xs. record { element = e; content = inner } ∷ xs) (children_joined b c)

pub places_joined : (b c : Content) → places (joined b c) ≡ places b ++ places c
places_joined nothing c = refl
places_joined (said read b) c = places_joined b c
places_joined (element e inner b) c = ap (λ xs. e.place ∷ xs) (places_joined b c)

pub says_text : (parts : List (List ℕ)) → text_of (says parts) ≡ flat_map (λ part. part) parts
says_text [] = refl
says_text (read ∷ more) = ap (λ xs. read ++ xs) (says_text more)

pub says_places : (parts : List (List ℕ)) → places (says parts) ≡ []
says_places [] = refl
says_places (read ∷ more) = says_places more

pub first_places : (c : Content) → first_place c ≡ first_of (places c)
first_places nothing = refl
first_places (said read c) = first_places c
first_places (element e inner c) = refl

-- the text and the children of what is read, by those of its innermost part
same_outline : (fs : List Frame) (b c : Content) → text_of b ≡ text_of c → places b ≡ places c →
    (text_of (closed b fs) ≡ text_of (closed c fs)) × (places (closed b fs) ≡ places (closed c fs))
same_outline [] b c t p = (t, p)
same_outline (f ∷ fs) b c t p =
    same_outline fs (joined f.before (element f.root b nothing)) (joined f.before (element f.root c nothing))
    (text_joined f.before (element f.root b nothing) ∙ sym (text_joined f.before (element f.root c nothing)))
    (places_joined f.before (element f.root b nothing) ∙ sym (places_joined f.before (element f.root c nothing)))

inner_outline : (f : Frame) (fs : List Frame) (b c : Content) →
    (text_of (closed b (f ∷ fs)) ≡ text_of (closed c (f ∷ fs)))
    × (places (closed b (f ∷ fs)) ≡ places (closed c (f ∷ fs)))
inner_outline f fs b c =
    same_outline fs (joined f.before (element f.root b nothing)) (joined f.before (element f.root c nothing))
    (text_joined f.before (element f.root b nothing) ∙ sym (text_joined f.before (element f.root c nothing)))
    (places_joined f.before (element f.root b nothing) ∙ sym (places_joined f.before (element f.root c nothing)))

first_last : (xs ys : List ℕ) → first_of (xs ++ ys) ≡ option_or (first_of xs) (first_of ys)
first_last [] ys = refl
first_last (x ∷ xs) ys = refl

-- inside an element the first place is there already
first_inside : (fs : List Frame) (b : Content) (p : ℕ) (o : Option ℕ) → first_of (places b) ≡ Some p →
    first_of (places (closed b fs)) ≡ option_or (first_of (places (closed b fs))) o
first_inside [] b p o e = e ∙ ap (λ x. option_or x o) (sym e)
first_inside (f ∷ fs) b p o e =
    let at : (xs : List ℕ) → (k : ℕ) × (first_of (xs ++ f.root.place ∷ []) ≡ Some k) = λ xs.
    elim xs as (λ xs. (k : ℕ) × (first_of (xs ++ f.root.place ∷ []) ≡ Some k))
    [ [] ↦ (f.root.place, refl) | x ∷ xs ↦ (x, refl) ] in
    let some = at (places f.before) in
    first_inside fs (joined f.before (element f.root b nothing)) some.0 o
    (ap first_of (places_joined f.before (element f.root b nothing)) ∙ some.1)

first_open : (f : Frame) (fs : List Frame) (b : Content) (o : Option ℕ) →
    first_of (places (closed b (f ∷ fs))) ≡ option_or (first_of (places (closed b (f ∷ fs)))) o
first_open f fs b o =
    let at : (xs : List ℕ) → (k : ℕ) × (first_of (xs ++ f.root.place ∷ []) ≡ Some k) = λ xs.
    elim xs as (λ xs. (k : ℕ) × (first_of (xs ++ f.root.place ∷ []) ≡ Some k))
    [ [] ↦ (f.root.place, refl) | x ∷ xs ↦ (x, refl) ] in
    let some = at (places f.before) in
    first_inside fs (joined f.before (element f.root b nothing)) some.0 o
    (ap first_of (places_joined f.before (element f.root b nothing)) ∙ some.1)

-- the text when an element begins
pub text_begin : (b : Content) (fs : List Frame) (e : Element) →
    text_of (closed b fs) ≡ text_of (closed nothing (record { before = b; root = e } ∷ fs))
text_begin b [] e = sym (text_joined b (element e nothing nothing) ∙ append-nil (text_of b))
text_begin b (f ∷ fs) e = (inner_outline f fs b (joined b (element e nothing nothing))).0

-- the first element when an element begins
pub first_begin : (b : Content) (fs : List Frame) (e : Element) →
    option_or (first_of (places (closed b fs))) (Some e.place)
    ≡ first_of (places (closed nothing (record { before = b; root = e } ∷ fs)))
first_begin b [] e =
    sym (first_last (places b) (e.place ∷ [])) ∙ ap first_of (sym (places_joined b (element e nothing nothing)))
first_begin b (f ∷ fs) e =
    sym (first_open f fs b (Some e.place)) ∙ ap first_of (inner_outline f fs b (joined b (element e nothing nothing))).1

-- characters of the element itself
pub text_said : (b : Content) (parts : List (List ℕ)) →
    text_of (joined b (says parts)) ≡ text_of b ++ flat_map (λ part. part) parts
text_said b parts = text_joined b (says parts) ∙ ap (λ xs. text_of b ++ xs) (says_text parts)

pub places_said : (b : Content) (parts : List (List ℕ)) → places (joined b (says parts)) ≡ places b
places_said b parts =
    places_joined b (says parts) ∙ ap (λ xs. places b ++ xs) (says_places parts) ∙ append-nil (places b)

-- characters of an element inside it
pub inner_said : (b : Content) (f : Frame) (fs : List Frame) (parts : List (List ℕ)) →
    (text_of (closed b (f ∷ fs)) ≡ text_of (closed (joined b (says parts)) (f ∷ fs)))
    × (places (closed b (f ∷ fs)) ≡ places (closed (joined b (says parts)) (f ∷ fs)))
inner_said b f fs parts = inner_outline f fs b (joined b (says parts))

-- all characters of a content
pub whole_joined : (b c : Content) → whole_text_of (joined b c) ≡ whole_text_of b ++ whole_text_of c
whole_joined nothing c = refl
whole_joined (said read b) c =
    ap (λ xs. read ++ xs) (whole_joined b c) ∙ sym (append_assoc read (whole_text_of b) (whole_text_of c))
whole_joined (element e inner b) c =
    ap (λ xs. whole_text_of inner ++ xs) (whole_joined b c)
    ∙ sym (append_assoc (whole_text_of inner) (whole_text_of b) (whole_text_of c))

says_whole : (parts : List (List ℕ)) → whole_text_of (says parts) ≡ flat_map (λ part. part) parts
says_whole [] = refl
says_whole (read ∷ more) = ap (λ xs. read ++ xs) (says_whole more)

-- characters at the end of the innermost element are at the end of all
whole_grown : (fs : List Frame) (b c : Content) (t : List ℕ) → whole_text_of c ≡ whole_text_of b ++ t →
    whole_text_of (closed c fs) ≡ whole_text_of (closed b fs) ++ t
whole_grown [] b c t same = same
whole_grown (f ∷ fs) b c t same =
    let end : (k : Content) → whole_text_of (joined f.before (element f.root k nothing))
    ≡ whole_text_of f.before ++ whole_text_of k = λ k.
    whole_joined f.before (element f.root k nothing)
    ∙ ap (λ xs. whole_text_of f.before ++ xs) (append-nil (whole_text_of k)) in
    whole_grown fs (joined f.before (element f.root b nothing)) (joined f.before (element f.root c nothing)) t
    (end c ∙ ap (λ xs. whole_text_of f.before ++ xs) same
    ∙ sym (append_assoc (whole_text_of f.before) (whole_text_of b) t) ∙ ap (λ xs. xs ++ t) (sym (end b)))

-- From a point on, the reader is inside an element, in which `depth` elements are open. `text` is the element's own
-- text that was read so far, and `inner` the offset of its first element.
pub record IsInside (total : ℕ) (first : List Event) (from : Point) (new : Elements) (depth : ℕ) (text : List ℕ)
    (inner : Option ℕ) : Type 0 where
  pub told : List Event
  pub before : Content
  pub frames : List Frame
  pub led : IsLed total first from told new
  pub part : ArePart before frames told
  pub deep : length frames ≡ depth
  pub text_is : text ≡ text_of (closed before frames)
  pub inner_is : inner ≡ first_of (places (closed before frames))

-- nothing of it is read, and no characters
pub whole_start : (e : Elements) (from : Point) → IsAt e from →
    (x : IsInside e.length (pending e) from e 0 [] None) × (whole_text_of (closed x.before x.frames) ≡ [])
whole_start e from at = (
  record {
    told = [];
    before = nothing;
    frames = [];
    led = led_nowhere e from at;
    part = part_none;
    deep = refl;
    text_is = refl;
    inner_is = refl;
  },
  refl,
)

pub inside_start : (e : Elements) (from : Point) → IsAt e from → IsInside e.length (pending e) from e 0 [] None
inside_start e from at = (whole_start e from at).0

module _ (total : ℕ) (first : List Event) (from : Point) (mid new : Elements) (depth after : ℕ) (text : List ℕ)
    (inner : Option ℕ) (x : IsInside total first from mid depth text inner) where
  begin_step : (raw : RawElement) → IsEventOf mid.length (pending mid) x.led.to (Ok (Some (Begin raw))) new →
      inner_depth (Begin raw) depth ≡ Some after →
      (made : IsInside total first from new after text (option_or inner (Some raw.at)))
      × (whole_text_of (closed made.before made.frames) ≡ whole_text_of (closed x.before x.frames) ++ [])
  begin_step raw y next =
      let e = y.1.0 in
      let f : Frame = record { before = x.before; root = e } in
      let deep : depth + 1 ≡ after = cc in
      let long = x.deep in (
        record {
          told = x.told ++ begin e ∷ [];
          before = nothing;
          frames = f ∷ x.frames;
          led = subst (λ t. IsLed total first from (x.told ++ t) new) y.1.1
              (led_on total first from x.told y.0 mid new x.led y.2);
          part = part_begin x.before x.frames x.told e x.part;
          deep = omega arith;
          text_is = x.text_is ∙ text_begin x.before x.frames e;
          inner_is = ap (λ i. option_or i (Some raw.at)) x.inner_is
              ∙ ap (λ p. option_or (first_of (places (closed x.before x.frames))) (Some p)) (sym y.1.2.place)
              ∙ first_begin x.before x.frames e;
        },
        whole_grown x.frames x.before (joined x.before (element e nothing nothing)) []
            (whole_joined x.before (element e nothing nothing)),
      )

  said_step : (part : Said) → IsEventOf mid.length (pending mid) x.led.to (Ok (Some (Told part))) new →
      inner_depth (Told part) depth ≡ Some after →
      (made : IsInside total first from new after (added_text depth (Told part) text) inner)
      × (whole_text_of (closed made.before made.frames) ≡ whole_text_of (closed x.before x.frames) ++ said_text part)
  said_step part y next =
      let parts = y.1.0 in
      let same : depth ≡ after = cc in
      let outline : (fs : List Frame) → length fs ≡ depth →
      (text_of (closed x.before fs) ≡ text_of (closed x.before x.frames)) →
      (places (closed x.before fs) ≡ places (closed x.before x.frames)) →
      (added_text depth (Told part) text ≡ text_of (closed (joined x.before (says parts)) fs))
      × (inner ≡ first_of (places (closed (joined x.before (says parts)) fs))) = λ fs.
      elim fs as (λ fs. length fs ≡ depth →
      (text_of (closed x.before fs) ≡ text_of (closed x.before x.frames)) →
      (places (closed x.before fs) ≡ places (closed x.before x.frames)) →
      (added_text depth (Told part) text ≡ text_of (closed (joined x.before (says parts)) fs))
      × (inner ≡ first_of (places (closed (joined x.before (says parts)) fs)))) [
        | [] ↦ λ none t p.
            let zero : (depth == 0) ≡ true = eq-eqb depth 0 (sym none) in (
              cond-true (depth == 0) (text ++ said_text part) text zero
                  ∙ (λ i. (x.text_is ∙ sym t) i ++ y.1.2 i) ∙ sym (text_said x.before parts),
              x.inner_is ∙ ap first_of (sym p ∙ sym (places_said x.before parts)),
            )
        | f ∷ fs ↦ λ some t p.
            let more : (depth == 0) ≡ false = ne_eqb depth 0 (λ zero. let long = some in omega arith) in
            let o = inner_said x.before f fs parts in (
              cond-false (depth == 0) (text ++ said_text part) text more ∙ x.text_is ∙ sym t ∙ o.0,
              x.inner_is ∙ ap first_of (sym p ∙ o.1),
            )
      ] in
      let o = outline x.frames x.deep refl refl in (
        record {
          told = x.told ++ map say parts;
          before = joined x.before (says parts);
          frames = x.frames;
          led = subst (λ t. IsLed total first from (x.told ++ t) new) y.1.1
              (led_on total first from x.told y.0 mid new x.led y.2);
          part = part_said x.before x.frames x.told parts x.part;
          deep = x.deep ∙ same;
          text_is = o.0;
          inner_is = o.1;
        },
        whole_grown x.frames x.before (joined x.before (says parts)) (said_text part)
            (whole_joined x.before (says parts)
            ∙ ap (λ xs. whole_text_of x.before ++ xs) (says_whole parts ∙ sym y.1.2)),
      )

  end_step : IsEventOf mid.length (pending mid) x.led.to (Ok (Some End)) new → inner_depth End depth ≡ Some after →
      (made : IsInside total first from new after text inner)
      × (whole_text_of (closed made.before made.frames) ≡ whole_text_of (closed x.before x.frames) ++ [])
  end_step y next =
      let W = whole_text_of (closed x.before x.frames) in
      let G : Type 0 = (made : IsInside total first from new after text inner)
      × (whole_text_of (closed made.before made.frames) ≡ W ++ []) in
      let led : IsLed total first from (x.told ++ finish ∷ []) new =
      subst (λ t. IsLed total first from (x.told ++ t) new) y.1
      (led_on total first from x.told y.0 mid new x.led y.2) in
      let at : (fs : List Frame) → length fs ≡ depth → ArePart x.before fs x.told →
      text ≡ text_of (closed x.before fs) → inner ≡ first_of (places (closed x.before fs)) →
      whole_text_of (closed x.before fs) ≡ W → G = λ fs.
      elim fs as (λ fs. length fs ≡ depth → ArePart x.before fs x.told →
      text ≡ text_of (closed x.before fs) → inner ≡ first_of (places (closed x.before fs)) →
      whole_text_of (closed x.before fs) ≡ W → G) [
        | [] ↦ λ none part t p w.
            let bad : None ≡ Some after =
            sym (cond-true (depth == 0) None (Some (depth - 1)) (eq-eqb depth 0 (sym none))) ∙ next in absurd cc
        | f ∷ fs ↦ λ some part t p w.
            let more : (depth == 0) ≡ false = ne_eqb depth 0 (λ zero. let long = some in omega arith) in
            let one : Some (depth - 1) ≡ Some after =
            sym (cond-false (depth == 0) None (Some (depth - 1)) more) ∙ next in
            let same : depth - 1 ≡ after = cc in
            let long : suc (length fs) ≡ depth = some in (
              record {
                told = x.told ++ finish ∷ [];
                before = joined f.before (element f.root x.before nothing);
                frames = fs;
                led = led;
                part = part_end x.before f fs x.told part;
                deep = omega arith;
                text_is = t;
                inner_is = p;
              },
              w ∙ sym (append-nil W),
            )
      ] in at x.frames x.deep x.part x.text_is x.inner_is refl

  last_step : IsEventOf mid.length (pending mid) x.led.to (Ok (Some End)) new → inner_depth End depth ≡ None →
      (inside : Content) × (told : List Event) × IsLed total first from told new × AreInner inside told
      × (text ≡ text_of inside) × (inner ≡ first_place inside)
      × (whole_text_of inside ≡ whole_text_of (closed x.before x.frames))
  last_step y next =
      let W = whole_text_of (closed x.before x.frames) in
      let led : IsLed total first from (x.told ++ finish ∷ []) new =
      subst (λ t. IsLed total first from (x.told ++ t) new) y.1
      (led_on total first from x.told y.0 mid new x.led y.2) in
      let G : Type 0 = (inside : Content) × (told : List Event) × IsLed total first from told new × AreInner inside told
      × (text ≡ text_of inside) × (inner ≡ first_place inside) × (whole_text_of inside ≡ W) in
      let at : (fs : List Frame) → length fs ≡ depth → ArePart x.before fs x.told →
      text ≡ text_of (closed x.before fs) → inner ≡ first_of (places (closed x.before fs)) →
      whole_text_of (closed x.before fs) ≡ W → G = λ fs.
      elim fs as (λ fs. length fs ≡ depth → ArePart x.before fs x.told →
      text ≡ text_of (closed x.before fs) → inner ≡ first_of (places (closed x.before fs)) →
      whole_text_of (closed x.before fs) ≡ W → G) [
        | [] ↦ λ none part t p w. (
          x.before,
          x.told ++ finish ∷ [],
          led,
          part_last x.before x.told part,
          t,
          p ∙ sym (first_places x.before),
          w,
        )
        | f ∷ fs ↦ λ some part t p w.
            let more : (depth == 0) ≡ false = ne_eqb depth 0 (λ zero. let long = some in omega arith) in
            let bad : Some (depth - 1) ≡ None = sym (cond-false (depth == 0) None (Some (depth - 1)) more)
            ∙ next in absurd cc
      ] in at x.frames x.deep x.part x.text_is x.inner_is refl

-- an event inside the element, and all characters in it that are read
pub whole_step : (total : ℕ) (first : List Event) (from : Point) (mid new : Elements) (depth after : ℕ) (text : List ℕ)
    (inner : Option ℕ) (x : IsInside total first from mid depth text inner) (event : RawEvent) →
    IsEventOf mid.length (pending mid) x.led.to (Ok (Some event)) new → inner_depth event depth ≡ Some after →
    (made : IsInside total first from new after (added_text depth event text) (added_inner event inner))
    × (whole_text_of (closed made.before made.frames) ≡ whole_text_of (closed x.before x.frames) ++ event_text event)
whole_step total first from mid new depth after text inner x (Begin raw) y next =
    begin_step total first from mid new depth after text inner x raw y next
whole_step total first from mid new depth after text inner x End y next =
    end_step total first from mid new depth after text inner x y next
whole_step total first from mid new depth after text inner x (Told part) y next =
    said_step total first from mid new depth after text inner x part y next

pub inside_step : (total : ℕ) (first : List Event) (from : Point) (mid new : Elements) (depth after : ℕ) (text : List ℕ)
    (inner : Option ℕ) (x : IsInside total first from mid depth text inner) (event : RawEvent) →
    IsEventOf mid.length (pending mid) x.led.to (Ok (Some event)) new → inner_depth event depth ≡ Some after →
    IsInside total first from new after (added_text depth event text) (added_inner event inner)
inside_step total first from mid new depth after text inner x event y next =
    (whole_step total first from mid new depth after text inner x event y next).0

-- the event that ends the element, and all characters in it
pub whole_last : (total : ℕ) (first : List Event) (from : Point) (mid new : Elements) (depth : ℕ) (text : List ℕ)
    (inner : Option ℕ) (x : IsInside total first from mid depth text inner) (event : RawEvent) →
    IsEventOf mid.length (pending mid) x.led.to (Ok (Some event)) new → inner_depth event depth ≡ None →
    (inside : Content) × (told : List Event) × IsLed total first from told new × AreInner inside told
    × (text ≡ text_of inside) × (inner ≡ first_place inside)
    × (whole_text_of inside ≡ whole_text_of (closed x.before x.frames))
whole_last total first from mid new depth text inner x (Begin raw) y next =
    let bad : Some (depth + 1) ≡ None = next in absurd cc
whole_last total first from mid new depth text inner x End y next =
    last_step total first from mid new depth 0 text inner x y next
whole_last total first from mid new depth text inner x (Told part) y next =
    let bad : Some depth ≡ None = next in absurd cc

pub inside_last : (total : ℕ) (first : List Event) (from : Point) (mid new : Elements) (depth : ℕ) (text : List ℕ)
    (inner : Option ℕ) (x : IsInside total first from mid depth text inner) (event : RawEvent) →
    IsEventOf mid.length (pending mid) x.led.to (Ok (Some event)) new → inner_depth event depth ≡ None →
    (inside : Content) × (told : List Event) × IsLed total first from told new × AreInner inside told
    × (text ≡ text_of inside) × (inner ≡ first_place inside)
inside_last total first from mid new depth text inner x event y next =
    let last = whole_last total first from mid new depth text inner x event y next in
    (last.0, last.1, last.2, last.3, last.4, last.5)
