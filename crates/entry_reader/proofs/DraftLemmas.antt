-- The one draft that a document spells, and what a refusal says of the document.
use Rattle.std.proofs.Common.{◌≡◌, ℕ, List, [], ◌∷◌, ◌++◌, length, sym, ap, subst, ◌∙◌, ⊎_elim, inl, IsTrue}
use Rattle.std.proofs.Common.{Option, Some, None, option_map, ℤ, codes}
use Rattle.std.specs.Prelude.{Ok, Err}
use Rattle.std.specs.Str.{is_utf8}
use Rattle.atom_values.specs.DateText.{States}
use Rattle.atom_values.specs.Entry.{DraftValue}
use Rattle.atom_values.specs.Space.{trimmed}
use Rattle.atom_values.proofs.DateTextReadLemmas.{value_of-states}
use Rattle.xml_tokens.specs.declared.elements.Elements.{Elements}
use Rattle.xml_tokens.specs.declared.fault.TokenFault.{TokenFault}
use Rattle.xml_tokens.specs.declared.fault.TokenFault.TheVariants.{NotRead as ToRead, NoMemory as OutOfMemory}
use Rattle.xml_tokens.specs.Refusal.{IsTokenRefusedAt}
use Rattle.entry_reader.specs.declared.fault.EntryFault.TheVariants.{NotRead, NoMemory}
use Rattle.entry_reader.specs.declared.fault.EarlyEnd.TheVariants.{Refused}
use Rattle.entry_reader.specs.declared.fault.Why.{Why}
use Rattle.xml_tokens.specs.Tree.{Element, Content, IsDocument, contents}
use Rattle.xml_tokens.specs.Tree.Content.{nothing}
use Rattle.xml_tokens.specs.Tree.Event.{begin}
use Rattle.entry_reader.specs.Entry.{IsMoment, IsReadAs, construct}
use Rattle.xml_tokens.specs.Children.{Child, child, child_text}
use Rattle.xml_tokens.specs.Order.{all_placed}
use Rattle.entry_reader.specs.Faults.{IsRefusalIn, entry_rules}
use Rattle.entry_reader.specs.Faults.Within.{in_entry}
use Rattle.entry_reader.specs.Spells.{Spells, depth_limit}
use Rattle.entry_reader.specs.Refusal.{IsNoEntryAt, IsRefusedAt, entry_fault, why_of}
use Rattle.xml_tokens.specs.Progress.{IsDrainedFrom, IsFaultFrom, IsLed, IsOver, first_point, pending}
use Rattle.entry_reader.specs.Parts.{IsEntryFrom}
use Rattle.xml_tokens.proofs.DocumentLemmas.{over_leads}
use Rattle.xml_tokens.proofs.OneDocumentLemmas.{document_of, fault_only, one_document, token_refused}
use Rattle.xml_tokens.proofs.OrderLemmas.{no_first}
use Rattle.xml_tokens.proofs.ProgressLemmas.{fault_on, led_on}

one_moment : (text : List ℕ) (a b : ℤ) → States text a → States text b → a ≡ b
one_moment text a b is_a is_b =
    let e : Some a ≡ Some b = sym ((value_of-states text a).1 is_a) ∙ (value_of-states text b).1 is_b in
    cc

same_moment : (o : Option Child) (a b : Option ℤ) → IsMoment o a → IsMoment o b → a ≡ b
same_moment None a b x y = x ∙ sym y
same_moment (Some c) a b x y =
    x.1 ∙ ap (λ z. Some z) (one_moment (trimmed (child_text c)) x.0 y.0 x.2 y.2) ∙ sym y.1

-- a content is read as one draft
one_read : (inner : Content) (a b : DraftValue) → IsReadAs inner a → IsReadAs inner b → a ≡ b
one_read inner a b x y =
    let titles : Some a.title ≡ Some b.title = sym x.title ∙ y.title in
    let title : a.title ≡ b.title = cc in
    let id = x.id ∙ sym y.id in
    let updated = same_moment _ _ _ x.updated y.updated in
    let published = same_moment _ _ _ x.published y.published in
    let authors = x.authors ∙ sym y.authors in
    let contributors = x.contributors ∙ sym y.contributors in
    let links = x.links ∙ sym y.links in
    let categories = x.categories ∙ sym y.categories in
    let rights = x.rights ∙ sym y.rights in
    let summary = x.summary ∙ sym y.summary in
    let content = x.content ∙ sym y.content in
    λ i. record {
      id = id i;
      title = title i;
      updated = updated i;
      published = published i;
      authors = authors i;
      contributors = contributors i;
      links = links i;
      categories = categories i;
      rights = rights i;
      summary = summary i;
      content = content i;
    }

-- bytes spell one draft
pub one_draft : (bytes : List ℕ) (a b : DraftValue) → Spells bytes a → Spells bytes b → a ≡ b
one_draft bytes a b x y =
    let same = one_document depth_limit bytes x.root y.root x.content y.content x.document y.document in
    one_read y.content a b (subst (λ c. IsReadAs c a) same.1 x.read) y.read

no_title : (o : Option Child) (draft : DraftValue) → option_map construct o ≡ Some draft.title → o ≡ None → ⊥
no_title o draft has none =
    let bad : None ≡ Some draft.title = sym (ap (option_map construct) none) ∙ has in cc

-- a document that is refused spells no draft
pub no_entry : (bytes : List ℕ) (root : Element) (inner : Content) (at : ℕ) (why : Why) (draft : DraftValue) →
    IsDocument depth_limit bytes root inner → IsNoEntryAt root inner at why → Spells bytes draft → ⊥
no_entry bytes root inner at why draft x cause s =
    let same = one_document depth_limit bytes root s.root inner s.content x s.document in
    ⊎_elim
    (λ other. other.0 (ap (λ (r : Element). r.name) same.0 ∙ s.is_entry))
    (λ entry.
    ⊎_elim
    (λ fault. no_first entry_rules (all_placed entry_rules in_entry [] s.content) at why s.faultless
    (subst (λ c. IsRefusalIn in_entry [] c (Some (at, why))) same.1 fault))
    (λ untitled. no_title (child (codes "title") s.content) draft s.read.title
    (subst (λ c. child (codes "title") c ≡ None) same.1 untitled.1))
    entry.1)
    cause

module _ (bytes : List ℕ) (utf8 : IsTrue (is_utf8 bytes)) (old mid : Elements) (none : pending old ≡ [])
    (total : old.length ≡ length bytes) (root : Element)
    (x : IsLed old.length (pending old) (first_point depth_limit bytes) (begin root ∷ []) mid) where
  -- the draft that is read
  pub spelled : (draft : DraftValue) (new : Elements) → IsEntryFrom mid.length (pending mid) x.to root (Ok draft) new →
      IsOver new → Spells bytes draft
  spelled draft new y over =
      let led = led_on old.length (pending old) (first_point depth_limit bytes) (begin root ∷ []) (y.1 ++ y.2) mid new x y.3 in
      let path = over_leads old.length (pending old) (first_point depth_limit bytes) (begin root ∷ (y.1 ++ y.2)) new led none over
      in
      let all = document_of depth_limit bytes led.to root (y.1 ++ y.2) utf8 path.0 path.1 path.2 in
      let both : y.0 ∷ contents y.2 ≡ all.0 ∷ nothing ∷ [] = sym (y.4 y.2) ∙ all.1 in
      let same : all.0 ≡ y.0 = cc in
      record {
        root = root;
        content = y.0;
        document = subst (IsDocument depth_limit bytes root) same all.2;
        is_entry = y.5;
        faultless = y.6;
        read = y.7;
      }

  -- a fault after the root's tag
  pub faulty : (fault : TokenFault) → IsFaultFrom mid.length x.to fault →
      IsFaultFrom (length bytes) (first_point depth_limit bytes) fault
  faulty fault f =
      subst (λ n. IsFaultFrom n (first_point depth_limit bytes) fault) total
      (fault_on old.length (pending old) (first_point depth_limit bytes) (begin root ∷ []) mid x fault f)

  module _ (at : ℕ) (why : Why) (stop new : Elements)
      (y : IsEntryFrom mid.length (pending mid) x.to root (Err (Refused at why)) stop) where
    -- a fault after an element that is refused
    pub later_faulty : (fault : TokenFault) → IsDrainedFrom stop.length (pending stop) y.1.to (Err fault) new →
        IsFaultFrom (length bytes) (first_point depth_limit bytes) fault
    later_faulty fault z = faulty fault (fault_on mid.length (pending mid) x.to y.0 stop y.1 fault z)

    -- the refused entry of a whole document
    pub refused_entry : IsDrainedFrom stop.length (pending stop) y.1.to (Ok tt) new → IsOver new →
        (inner : Content) × IsDocument depth_limit bytes root inner × IsNoEntryAt root inner at why
    refused_entry z over =
        let rest = led_on mid.length (pending mid) x.to y.0 z.0 stop new y.1 z.1 in
        let led = led_on old.length (pending old) (first_point depth_limit bytes) (begin root ∷ []) (y.0 ++ z.0) mid new x rest in
        let path = over_leads old.length (pending old) (first_point depth_limit bytes) (begin root ∷ (y.0 ++ z.0)) new led none over
        in
        let all = document_of depth_limit bytes led.to root (y.0 ++ z.0) utf8 path.0 path.1 path.2 in
        (all.0, all.2, y.2 z.0 all.0 nothing [] all.1)

-- a fault of a reader that began with the bytes, in the words of an entry document
pub fault_said : (bytes : List ℕ) (fault : TokenFault) (at : ℕ) (why : Why) → IsTrue (is_utf8 bytes) →
    IsFaultFrom (length bytes) (first_point depth_limit bytes) fault → entry_fault fault ≡ NotRead at why → IsRefusedAt bytes at why
fault_said bytes (ToRead place cause) at why utf8 f same =
    let here : place ≡ at = cc in
    let is : why_of cause ≡ why = cc in
    inl (
      cause,
      subst (λ n. IsTokenRefusedAt depth_limit bytes n cause) here (token_refused depth_limit bytes place cause utf8 f),
      sym is,
    )
fault_said bytes OutOfMemory at why utf8 f same = absurd cc

-- of a whole document nothing but memory is wrong
pub never_faulty : (bytes : List ℕ) (root : Element) (c : Content) (fault : TokenFault) →
    IsDocument depth_limit bytes root c → IsFaultFrom (length bytes) (first_point depth_limit bytes) fault →
    entry_fault fault ≡ NoMemory
never_faulty bytes root c fault x f = ap entry_fault (fault_only depth_limit bytes root c fault x f)
