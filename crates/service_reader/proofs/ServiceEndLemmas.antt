-- What is made of a document that is read to its end, and its refusals.
use Rattle.std.proofs.Common.{◌≡◌, ℕ, List, [], ◌∷◌, ◌++◌, length, sym, subst, ◌∙◌, inl, inr, IsTrue, codes, refl}
use Rattle.std.proofs.Common.{true, false, Some, None}
use Rattle.std.specs.Prelude.{OnOk, Result, Ok, Err}
use Rattle.std.specs.Str.{is_utf8}
use Rattle.atom_values.specs.Listed.{Listed}
use Rattle.xml_tokens.specs.declared.elements.Elements.{Elements}
use Rattle.xml_tokens.specs.declared.fault.TokenFault.{TokenFault}
use Rattle.xml_tokens.specs.declared.fault.TokenFault.TheVariants.{NotRead, NoMemory}
use Rattle.xml_tokens.specs.Progress.{IsDrainedFrom, IsFaultFrom, IsLed, IsOver, IsSkippedFrom}
use Rattle.xml_tokens.specs.Progress.{first_point, pending}
use Rattle.xml_tokens.specs.Refusal.{IsTokenRefusedAt}
use Rattle.xml_tokens.specs.Tree.{Content, Element, IsDocument, contents}
use Rattle.xml_tokens.specs.Tree.Content.{nothing}
use Rattle.xml_tokens.specs.Tree.Event.{begin}
use Rattle.xml_tokens.proofs.DocumentLemmas.{over_leads}
use Rattle.xml_tokens.proofs.OneDocumentLemmas.{document_of, token_refused}
use Rattle.xml_tokens.proofs.OneRefusalLemmas.{document_not_refused}
use Rattle.xml_tokens.proofs.ProgressLemmas.{fault_on, led_on}
use Rattle.feed_reader.specs.Rest.{IsDocumentFrom}
use Rattle.service_reader.specs.declared.fault.ServiceRead.TheVariants.{NotRead as ServiceNotRead}
use Rattle.service_reader.specs.declared.fault.ServiceRead.TheVariants.{NoMemory as OutOfMemory}
use Rattle.service_reader.specs.declared.fault.ServiceWhy.{ServiceWhy}
use Rattle.service_reader.specs.declared.fault.ServiceWhy.TheVariants.{NotAService, Token}
use Rattle.service_reader.specs.declared.values.Collection.{Collection}
use Rattle.service_reader.specs.Service.{collections_of, is_app}
use Rattle.service_reader.specs.ServiceDocument.{IsServiceRefusedAt, SpellsService, service_depth}
use Rattle.service_reader.specs.ServiceReading.{AreMade, IsReadAs, service_fault}
use Rattle.service_reader.proofs.ServiceFaultLemmas.{first_inside, first_root}

-- a fault of a reader that began with the bytes
pub fault_read : (bytes address : List ℕ) (fault : TokenFault) → IsTrue (is_utf8 bytes) →
    IsFaultFrom (length bytes) (first_point service_depth bytes) fault → IsReadAs bytes address (Err fault)
fault_read bytes address (NotRead at why) utf8 f = token_refused service_depth bytes at why utf8 f
fault_read bytes address NoMemory utf8 f = tt

module _ (bytes : List ℕ) (utf8 : IsTrue (is_utf8 bytes)) (root : Element) (mid : Elements)
    (x : IsLed (length bytes) [] (first_point service_depth bytes) (begin root ∷ []) mid) where
  -- a fault after the tag of the root
  pub fault_after : (address : List ℕ) (fault : TokenFault) → IsFaultFrom mid.length x.to fault →
      IsReadAs bytes address (Err fault)
  fault_after address fault f =
      fault_read bytes address fault utf8
      (fault_on (length bytes) [] (first_point service_depth bytes) (begin root ∷ []) mid x fault f)

  -- what is made of a document that is read to its end
  whole_read : {A : Type 0} (R : Content → A → Type 0) (made : A) (new : Elements) →
      IsDocumentFrom R mid.length (pending mid) x.to (Ok made) new → IsOver new →
      (inner : Content) × IsDocument service_depth bytes root inner × R inner made
  whole_read R made new y over =
      let from = first_point service_depth bytes in
      let led = led_on (length bytes) [] from (begin root ∷ []) (y.1 ++ y.2) mid new x y.3 in
      let path = over_leads (length bytes) [] from (begin root ∷ (y.1 ++ y.2)) new led refl over in
      let all = document_of service_depth bytes led.to root (y.1 ++ y.2) utf8 path.0 path.1 path.2 in
      let both : y.0 ∷ contents y.2 ≡ all.0 ∷ nothing ∷ [] = sym (y.4 y.2) ∙ all.1 in
      let same : all.0 ≡ y.0 = cc in
      (y.0, subst (IsDocument service_depth bytes root) same all.2, y.5)

  -- a service
  pub service_read : (address : List ℕ) (made : Result (Listed Collection) (ℕ × ServiceWhy)) (new : Elements) →
      is_app (codes "service") root.name ≡ true →
      IsDocumentFrom (λ inner m. AreMade address (collections_of inner) m) mid.length (pending mid) x.to (Ok made) new →
      IsOver new → IsReadAs bytes address (Ok made)
  service_read address (Ok made) new is y over =
      let w = whole_read (λ inner m. AreMade address (collections_of inner) m) (Ok made) new y over in
      (root, w.0, w.1, (w.2.0, first_inside address root w.0 (collections_of w.0) None is w.2.1))
  service_read address (Err refusal) new is y over =
      let w = whole_read (λ inner m. AreMade address (collections_of inner) m) (Err refusal) new y over in
      (root, w.0, w.1, first_inside address root w.0 (collections_of w.0) (Some refusal) is w.2)

  -- the same, or the fault that its bytes have
  pub service_ended : (address : List ℕ) (r : Result (Result (Listed Collection) (ℕ × ServiceWhy)) TokenFault)
      (new : Elements) → is_app (codes "service") root.name ≡ true →
      IsDocumentFrom (λ inner m. AreMade address (collections_of inner) m) mid.length (pending mid) x.to r new →
      OnOk r (IsOver new) → IsReadAs bytes address r
  service_ended address (Ok made) new is y over = service_read address made new is y over
  service_ended address (Err fault) new is y over = fault_after address fault y

  -- another root
  pub other_read : (address : List ℕ) (at : ℕ) (end new : Elements) → root.place ≡ at →
      is_app (codes "service") root.name ≡ false →
      (y : IsSkippedFrom mid.length (pending mid) x.to (Ok tt) end) →
      IsDrainedFrom end.length (pending end) y.2.to (Ok tt) new → IsOver new →
      IsReadAs bytes address (Ok (Err (at, NotAService)))
  other_read address at end new here other y z over =
      let all : IsDocumentFrom (λ inner (m : Unit {0}). Unit {0}) mid.length (pending mid) x.to (Ok tt) new = (
        y.0,
        y.1,
        z.0,
        led_on mid.length (pending mid) x.to y.1 z.0 end new y.2 z.1,
        y.3,
        tt,
      ) in
      let w = whole_read (λ inner (m : Unit {0}). Unit {0}) tt new all over in
      let first = first_root address root w.0 (collections_of w.0) other in
      subst (λ k. IsReadAs bytes address (Ok (Err (k, NotAService)))) here (root, w.0, w.1, first)

-- the collections that are made are spelled
pub made_spelled : (bytes address : List ℕ) (made : Listed Collection) → IsReadAs bytes address (Ok (Ok made)) →
    SpellsService bytes address made.items
made_spelled bytes address made (root, content, document, is) = record {
  root = root;
  content = content;
  document = document;
  faultless = is.1;
  read = is.0;
}

pub made_refused : (bytes address : List ℕ) (at : ℕ) (why : ServiceWhy) →
    IsReadAs bytes address (Ok (Err (at, why))) → IsServiceRefusedAt bytes address at why
made_refused bytes address at why is = inr is

-- a fault, in the words of a service document
pub fault_said : (bytes address : List ℕ) (fault : TokenFault) (at : ℕ) (why : ServiceWhy) →
    IsReadAs bytes address (Err fault) → service_fault fault ≡ ServiceNotRead at why →
    IsServiceRefusedAt bytes address at why
fault_said bytes address (NotRead place cause) at why f same =
    let here : place ≡ at = cc in
    let is : Token cause ≡ why = cc in
    inl (cause, subst (λ n. IsTokenRefusedAt service_depth bytes n cause) here f, sym is)
fault_said bytes address NoMemory at why f same = absurd cc

-- of a document without a fault nothing but memory is wrong
pub fault_memory : (bytes address : List ℕ) (collections : List Collection) (fault : TokenFault) →
    SpellsService bytes address collections → IsReadAs bytes address (Err fault) → service_fault fault ≡ OutOfMemory
fault_memory bytes address collections (NotRead at why) s f =
    absurd (document_not_refused service_depth bytes s.root s.content at why s.document f)
fault_memory bytes address collections NoMemory s f = refl
