-- A whole tag opens its element.
use Rattle.std.proofs.Common.{◌≡◌, ◌≢◌, ◌<◌, ℕ, List, [], ◌∷◌, ◌++◌, length, reverse, true, false, refl, sym, ap, subst}
use Rattle.std.proofs.Common.{◌∙◌}
use Rattle.std.proofs.Common.{arith, ⊎_elim, Bool, Option, Some, None, Ok, Err, option_map, ◌&&◌, ◌||◌, not, cond}
use Rattle.std.proofs.Common.{IsTrue, nat_lt}
use Rattle.std.specs.Prelude.{filter_map, is_some, unwrap_or, Result}
use Rattle.std.specs.List.{AllZip}
use Rattle.std.specs.Borrow.{Bor}
use Rattle.std.proofs.lemmas.Bool.{cases_Bool, cond-true, cond-false, or_parts, ltb-true}
use Rattle.std.proofs.lemmas.List.{append-nil, reverse-append, length-reverse}
use Rattle.std.proofs.lemmas.Slice.Zip.{AllZip-long}
use Rattle.atom_values.specs.XmlText.{IsXmlText}
use Rattle.xml_tokens.specs.declared.elements.Elements.{Elements}
use Rattle.xml_tokens.specs.declared.elements.Event.TheVariants.{Begin}
use Rattle.xml_tokens.specs.declared.elements.Stage.{Stage as RawStage}
use Rattle.xml_tokens.specs.declared.elements.Stage.TheVariants.{Start, Prolog, Root}
use Rattle.xml_tokens.specs.declared.fault.TokenFault.{TokenFault}
use Rattle.xml_tokens.specs.declared.fault.TokenFault.TheVariants.{NotRead}
use Rattle.xml_tokens.specs.declared.fault.TokenWhy.TheVariants.{NotWellFormed, TooDeep}
use Rattle.xml_tokens.specs.declared.scopes.Namespace.{Namespace}
use Rattle.xml_tokens.specs.declared.tag.Attribute.{Attribute as Raw}
use Rattle.xml_tokens.specs.declared.tag.Tag.{Tag as RawTag}
use Rattle.xml_tokens.specs.declared.tag.TagEnd.{TagEnd}
use Rattle.xml_tokens.specs.declared.tag.TagEnd.TheVariants.{Open as WholeTag, Empty as EmptyTag, Cut as CutTag}
use Rattle.xml_tokens.specs.declared.tag.TagEnd.TheVariants.{CutAtSlash}
use Rattle.xml_tokens.specs.declared.token.Context.{Context}
use Rattle.xml_tokens.specs.Characters.{QName, IsQName, name_text}
use Rattle.xml_tokens.specs.Tokens.{Attribute, Tag, AreAttributes}
use Rattle.xml_tokens.specs.Tokens.Token.{opening}
use Rattle.xml_tokens.specs.Stages.{Stage, Open, Scope, Lexeme, CanBegin, CanAllStand, MayBegin, content_stage}
use Rattle.xml_tokens.specs.Stages.{declared, entered, inner_scope, last_stage, left, namespace_of, open_in, scope_in}
use Rattle.xml_tokens.specs.Stages.Stage.{inside}
use Rattle.xml_tokens.specs.Tree.{element_of, events_of}
use Rattle.xml_tokens.specs.Tree.Event.{begin, finish}
use Rattle.xml_tokens.specs.Reading.{AreRead, IsAttributeOf, IsTagRead, IsTagTo, kind_of}
use Rattle.xml_tokens.specs.Scopes.{AreScopesOf, IsLawfulOf, OpensScope, scope_of}
use Rattle.xml_tokens.specs.Progress.{Point, IsAtText, IsEventOf, IsNameOfOpen, IsStageOf, admission}
use Rattle.xml_tokens.specs.Progress.{admission_of_cut, emptiness, is_cut, is_past_root, pending}
use Rattle.xml_tokens.proofs.EventLemmas.{led_by, one_more}
use Rattle.xml_tokens.proofs.ProgressLemmas.{no_names}

-- a whole tag
pub whole_tag : (end : TagEnd) (b : Bool) (place : Context) (before : List ℕ) (raw : RawTag) (after : List ℕ) →
    Some b ≡ emptiness end → IsTagTo end place before raw after → IsTagRead place before b raw after
whole_tag WholeTag b place before raw after e read =
    let same : false ≡ b = cc in subst (λ b. IsTagRead place before b raw after) same read
whole_tag EmptyTag b place before raw after e read =
    let same : true ≡ b = cc in subst (λ b. IsTagRead place before b raw after) same read
whole_tag CutTag b place before raw after e read = let bad : Some b ≡ None = e in absurd cc
whole_tag CutAtSlash b place before raw after e read = let bad : Some b ≡ None = e in absurd cc

pub record IsAdmitted (e : Elements) (end : TagEnd) : Type 0 where
  pub inside_root : is_past_root e.stage e.names.items ≡ false
  pub shallow : length e.names.items < e.most
  pub in_text : (is_cut end && nat_lt e.end e.length) ≡ false
  pub not_cut : end ≢ CutTag

-- a tag that is read as far as its attributes go isn't admitted
not_cut_tag : (total : ℕ) (end : TagEnd) → admission_of_cut total end ≡ Ok tt → end ≢ CutTag
not_cut_tag total WholeTag ok same = cc
not_cut_tag total EmptyTag ok same = cc
not_cut_tag total CutTag ok same = let bad : Err (NotRead total NotWellFormed) ≡ Ok tt = ok in cc
not_cut_tag total CutAtSlash ok same = cc

-- a tag that `admission` lets through is admitted
pub admitted : (e : Elements) (at : ℕ) (end : TagEnd) → admission e at end ≡ Ok tt → IsAdmitted e end
admitted e at end ok =
    let A = is_past_root e.stage e.names.items in
    let B = is_cut end && nat_lt e.end e.length in
    let C = nat_lt (length e.names.items) e.most in
    let R : Type 0 = Result (Unit {0}) TokenFault in
    let one : R = Err (NotRead at NotWellFormed) in
    let two : R = Err (NotRead at TooDeep) in
    let three : R = admission_of_cut e.length end in
    ⊎_elim
    (λ past. let bad : one ≡ Ok tt = sym (cond-true (A || B) one (cond (not C) two three) past) ∙ ok in absurd cc)
    (λ here.
    let next : cond (not C) two three ≡ Ok tt = sym (cond-false (A || B) one (cond (not C) two three) here) ∙ ok in
    ⊎_elim
    (λ low. record {
      inside_root = (or_parts A B here).0;
      shallow = ltb-true (length e.names.items) e.most low;
      in_text = (or_parts A B here).1;
      not_cut = not_cut_tag e.length end (sym (cond-false (not C) two three (ap not low)) ∙ next);
    })
    (λ deep. let bad : two ≡ Ok tt = sym (cond-true (not C) two three (ap not deep)) ∙ next in absurd cc)
    (cases_Bool C))
    (cases_Bool (A || B))

-- the attributes of a tag have qualified names
pub lawful : (read : List Attribute) (raws : List Raw) (text : List ℕ) → AreAttributes read text →
    AllZip IsAttributeOf read raws → AllZip IsLawfulOf read raws
lawful [] [] text are zip = tt
lawful [] (r ∷ raws) text are zip = absurd zip
lawful (a ∷ read) [] text are zip = absurd zip
lawful (a ∷ read) (r ∷ raws) text are zip = ((are.2.name, zip.0), lawful read raws are.1 are.3 zip.1)

-- the open elements of a stage, as a reader keeps them
pub kept_open : (raw : RawStage) (opened : List Open) (s : Stage) → IsStageOf raw false opened s →
    (open_in s ≡ opened) × (scope_in s ≡ scope_of opened)
kept_open Start [] s is = (ap open_in is, ap scope_in is)
kept_open Start (e ∷ outer) s is = absurd is
kept_open Prolog [] s is = (ap open_in is, ap scope_in is)
kept_open Prolog (e ∷ outer) s is = absurd is
kept_open Root [] s is = (ap open_in is, ap scope_in is)
kept_open Root (e ∷ outer) s is = (ap open_in is, ap scope_in is)

-- an element may begin, unless the root is read
pub may_begin : (raw : RawStage) (opened : List Open) (items : List (Bor (List ℕ))) (s : Stage) →
    IsStageOf raw false opened s → AllZip IsNameOfOpen opened (reverse items) →
    is_past_root raw items ≡ false → MayBegin s
may_begin Start [] items s is names past = subst MayBegin (sym is) tt
may_begin Start (e ∷ outer) items s is names past = absurd is
may_begin Prolog [] items s is names past = subst MayBegin (sym is) tt
may_begin Prolog (e ∷ outer) items s is names past = absurd is
may_begin Root [] items s is names past =
    let none = no_names items [] names refl in
    let bad : true ≡ false = sym (ap (is_past_root Root) none) ∙ past in absurd cc
may_begin Root (e ∷ outer) items s is names past = subst MayBegin (sym is) tt

pub some_of : (o : Option (List ℕ)) (k : Namespace) → Some k ≡ option_map kind_of o →
    IsTrue (is_some o) × (k ≡ kind_of (unwrap_or o []))
some_of None k e = let bad : Some k ≡ None = e in absurd cc
some_of (Some v) k e = let same : Some k ≡ Some (kind_of v) = e in (refl, cc)

-- the events and the stage of a tag
tag_events : (b : Bool) (tag : Tag) (s : Stage) (at : ℕ) (new : Elements) → tag.is_empty ≡ b → new.empty ≡ b →
    events_of s at (opening tag) ++ [] ≡ begin (element_of (scope_in s) tag at) ∷ pending new
tag_events b tag s at new ends empty =
    append-nil (events_of s at (opening tag))
    ∙ ap (λ b. begin (element_of (scope_in s) tag at) ∷ cond b (finish ∷ []) []) (ends ∙ sym empty)

tag_stage : (b : Bool) (tag : Tag) (s : Stage) (opened : List Open) (raw : RawStage) → open_in s ≡ opened → raw ≡ Root →
    IsStageOf raw b (record { name = tag.name; scope = inner_scope (scope_in s) tag } ∷ opened)
    (cond b (left (entered s tag)) (entered s tag))
tag_stage true tag s opened raw same root =
    subst (λ r. IsStageOf r true (record { name = tag.name; scope = inner_scope (scope_in s) tag } ∷ opened)
    (content_stage (open_in s))) (sym root) (ap content_stage same)
tag_stage false tag s opened raw same root =
    subst (λ r. IsStageOf r false (record { name = tag.name; scope = inner_scope (scope_in s) tag } ∷ opened)
    (entered s tag)) (sym root)
    (ap (λ o. inside (record { name = tag.name; scope = inner_scope (scope_in s) tag }) o) same)

-- the reader after a whole tag
pub begin_led : (from : Point) (old new : Elements) (before : List ℕ) (x : IsAtText old before from) (place : Context)
    (raw : RawTag) (b : Bool) (at : ℕ) (namespace : Namespace) (prefix local : Bor (List ℕ)) → old.empty ≡ false →
    IsTagRead place before b raw old.cursor.rest.now → IsXmlText old.cursor.rest.now → at ≡ from.at →
    IsAdmitted old raw.end →
    OpensScope raw.attributes.items old.scopes new.scopes →
    ((opened : List Open) → AreScopesOf opened new.scopes →
    Some namespace ≡ option_map kind_of (namespace_of (scope_of opened) prefix.now)) →
    ((q : QName) → IsQName q → name_text q ≡ raw.name.now → (prefix.now ≡ q.prefix) × (local.now ≡ q.local)) →
    (new.most ≡ old.most) × (new.end ≡ old.end) × (new.length ≡ old.length) →
    new.cursor.rest.now ≡ old.cursor.rest.now → new.names.items ≡ old.names.items ++ raw.name ∷ [] → new.stage ≡ Root →
    new.empty ≡ b →
    IsEventOf old.length [] from
    (Ok (Some (Begin (record { at = at; namespace = namespace; local = local; attributes = raw.attributes })))) new
begin_led from old new before x place raw b at namespace prefix local told r xml here may opens finds splits same rest
    items root empty =
    let tag = r.tag in
    let l : Lexeme = record { token = opening tag; text = r.alone.0 } in
    let one : AreRead place before (l ∷ []) old.cursor.rest.now =
    subst (λ ls. AreRead place before ls old.cursor.rest.now) r.alone.1 r.read in
    let is_tag = one.spelled.0.1 in
    let q : IsQName tag.name = is_tag.name in
    let zip = lawful tag.attributes raw.attributes.items is_tag.inside is_tag.attributes r.tag_of.attributes in
    let kept : IsStageOf old.stage false x.opened from.stage =
    subst (λ b. IsStageOf old.stage b x.opened from.stage) told x.stage in
    let k = kept_open old.stage x.opened from.stage kept in
    let inner : Scope = filter_map declared tag.attributes ++ scope_of x.opened in
    let same_scope : inner_scope (scope_in from.stage) tag ≡ inner =
    ap (λ s. filter_map declared tag.attributes ++ s) k.1 in
    let element : Open = record { name = tag.name; scope = inner_scope (scope_in from.stage) tag } in
    let scopes : AreScopesOf (element ∷ x.opened) new.scopes =
    subst (λ s. AreScopesOf (record { name = tag.name; scope = s } ∷ x.opened) new.scopes) (sym same_scope)
    (opens x.opened tag.name tag.attributes zip x.scopes) in
    let parts = splits tag.name q (sym r.tag_of.name) in
    let found : Some namespace
    ≡ option_map kind_of (namespace_of (inner_scope (scope_in from.stage) tag) tag.name.prefix) =
    finds (element ∷ x.opened) scopes
    ∙ ap (λ p. option_map kind_of (namespace_of (inner_scope (scope_in from.stage) tag) p)) parts.0 in
    let some = some_of (namespace_of (inner_scope (scope_in from.stage) tag) tag.name.prefix) namespace found in
    let zipped = AllZip-long IsNameOfOpen x.opened (reverse old.names.items) x.names in
    let long = length-reverse old.names.items in
    let open_long = ap length k.0 in
    let most = x.most in
    let shallow = may.shallow in
    let low : length (open_in from.stage) < from.most = omega arith in
    let can : CanBegin from.most from.stage tag = record {
      may = may_begin old.stage x.opened old.names.items from.stage kept x.names may.inside_root;
      depth = low;
      set = some.0;
    } in
    let name : IsNameOfOpen element raw.name = (r.tag_of.name, q, r.name) in
    let names : AllZip IsNameOfOpen (element ∷ x.opened) (reverse new.names.items) =
    subst (AllZip IsNameOfOpen (element ∷ x.opened))
    (sym (ap reverse items ∙ reverse-append old.names.items (raw.name ∷ []))) (name, x.names) in
    let stage : IsStageOf new.stage new.empty (element ∷ x.opened) (last_stage from.stage (l ∷ [])) =
    subst (λ e. IsStageOf new.stage new.empty (element ∷ x.opened)
    (cond e (left (entered from.stage tag)) (entered from.stage tag))) (sym r.ends)
    (subst (λ e. IsStageOf new.stage e (element ∷ x.opened)
    (cond b (left (entered from.stage tag)) (entered from.stage tag))) (sym empty)
    (tag_stage b tag from.stage x.opened new.stage k.0 root)) in (
      begin (element_of (scope_in from.stage) tag from.at) ∷ [],
      (
        element_of (scope_in from.stage) tag from.at,
        refl,
        record { place = sym here; namespace = some.1; local = parts.1; attributes = zip },
      ),
      led_by from old new before x (l ∷ []) (begin (element_of (scope_in from.stage) tag from.at) ∷ [])
          (element ∷ x.opened) (one.split ∙ ap (λ r. l.text ++ [] ++ r) (sym rest))
          (subst (λ r. CanAllStand from.most from.stage (l ∷ []) (r ++ x.tail)) (sym rest)
          (one_more x.tail x.behind l [] old.cursor.rest.now one.spelled xml, can, tt))
          (tag_events b tag from.stage from.at new r.ends empty) (subst IsXmlText (sym rest) xml) same
          stage names scopes
          (omega arith),
    )
