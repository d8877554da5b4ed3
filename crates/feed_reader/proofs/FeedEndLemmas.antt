-- read_feed: what is made of bytes that are read to their end, and why others are refused.
use Rattle.std.proofs.Common.{◌≡◌, ℕ, List, [], ◌∷◌, ◌++◌, length, sym, ap, subst, ◌∙◌, inl, IsTrue}
use Rattle.std.proofs.Common.{codes, false}
use Rattle.std.specs.Prelude.{Result, Ok, Err}
use Rattle.std.specs.Str.{is_utf8}
use Rattle.xml_tokens.specs.declared.elements.Elements.{Elements}
use Rattle.xml_tokens.specs.declared.fault.TokenFault.{TokenFault}
use Rattle.xml_tokens.specs.declared.fault.TokenFault.TheVariants.{NotRead, NoMemory}
use Rattle.xml_tokens.specs.Progress.{IsDrainedFrom, IsFaultFrom, IsLed, IsOver, IsSkippedFrom, Point, first_point, pending}
use Rattle.xml_tokens.specs.Refusal.{IsTokenRefusedAt}
use Rattle.xml_tokens.specs.Tree.{Content, Element, Event, IsDocument, contents}
use Rattle.xml_tokens.specs.Tree.Content.{nothing}
use Rattle.xml_tokens.specs.Tree.Event.{begin}
use Rattle.feed_reader.specs.declared.fault.FeedWhy.{FeedWhy}
use Rattle.feed_reader.specs.declared.fault.FeedWhy.TheVariants.{NotAFeed, Token}
use Rattle.feed_reader.specs.declared.fault.ForeignRead.TheVariants.{NotRead as ForeignNotRead, NoMemory as OutOfMemory}
use Rattle.feed_reader.specs.Feed.{DocumentValue}
use Rattle.feed_reader.specs.FeedDocument.{IsFeedRefusedAt, SpellsFeed, feed_depth}
use Rattle.feed_reader.specs.FeedReading.{IsDocumentMade, foreign_fault}
use Rattle.feed_reader.specs.Rest.{IsDocumentFrom, IsRestRead}
use Rattle.feed_reader.specs.FeedFaults.{is_atom}
use Rattle.feed_reader.proofs.FeedMadeLemmas.{other_root_refused}
use Rattle.xml_tokens.proofs.DocumentLemmas.{over_leads}
use Rattle.xml_tokens.proofs.OneDocumentLemmas.{document_of, fault_only, token_refused}
use Rattle.xml_tokens.proofs.ProgressLemmas.{fault_on, led_on}

-- the rest of an element, and then that of the document
pub rest_drained : {A B : Type 0} (R : Content → A → Type 0) (S : Content → B → Type 0) (total : ℕ) (first : List Event)
    (from : Point) (mid new : Elements) (a : A) (b : B) → ((c : Content) → R c a → S c b) →
    (x : IsRestRead R total first from (Ok a) mid) → IsDrainedFrom mid.length (pending mid) x.2.to (Ok tt) new →
    IsDocumentFrom S total first from (Ok b) new
rest_drained R S total first from mid new a b gives x z =
    (x.0, x.1, z.0, led_on total first from x.1 z.0 mid new x.2 z.1, x.3, gives x.0 x.4)

-- the same, whether the rest is refused or not
pub rest_ended : {A : Type 0} (R : Content → A → Type 0) (S : Content → Unit {0} → Type 0) (total : ℕ)
    (first : List Event) (from : Point) (mid new : Elements) (a : A) (r : Result (Unit {0}) TokenFault) →
    ((c : Content) → R c a → S c tt) → (x : IsRestRead R total first from (Ok a) mid) →
    IsDrainedFrom mid.length (pending mid) x.2.to r new → IsDocumentFrom S total first from r new
rest_ended R S total first from mid new a (Ok done) gives x z =
    rest_drained R S total first from mid new a tt gives x z
rest_ended R S total first from mid new a (Err fault) gives x z =
    fault_on total first from x.1 mid x.2 fault z

module _ (bytes address : List ℕ) (utf8 : IsTrue (is_utf8 bytes)) (old mid : Elements) (none : pending old ≡ [])
    (total : old.length ≡ length bytes) (root : Element)
    (x : IsLed old.length (pending old) (first_point feed_depth bytes) (begin root ∷ []) mid) where
  -- what is made of the document
  pub made_whole : (made : Result DocumentValue (ℕ × FeedWhy)) (new : Elements) →
      IsDocumentFrom (λ inner m. IsDocumentMade address root inner m) mid.length (pending mid) x.to (Ok made) new →
      IsOver new → (inner : Content) × IsDocument feed_depth bytes root inner × IsDocumentMade address root inner made
  made_whole made new y over =
      let from = first_point feed_depth bytes in
      let led = led_on old.length (pending old) from (begin root ∷ []) (y.1 ++ y.2) mid new x y.3 in
      let path = over_leads old.length (pending old) from (begin root ∷ (y.1 ++ y.2)) new led none over in
      let all = document_of feed_depth bytes led.to root (y.1 ++ y.2) utf8 path.0 path.1 path.2 in
      let both : y.0 ∷ contents y.2 ≡ all.0 ∷ nothing ∷ [] = sym (y.4 y.2) ∙ all.1 in
      let same : all.0 ≡ y.0 = cc in
      (y.0, subst (IsDocument feed_depth bytes root) same all.2, y.5)

  -- a fault after the root's tag
  pub faulty : (fault : TokenFault) → IsFaultFrom mid.length x.to fault →
      IsFaultFrom (length bytes) (first_point feed_depth bytes) fault
  faulty fault f =
      subst (λ n. IsFaultFrom n (first_point feed_depth bytes) fault) total
      (fault_on old.length (pending old) (first_point feed_depth bytes) (begin root ∷ []) mid x fault f)

-- a fault of a reader that began with the bytes, in the words of a feed document
pub fault_said : (bytes address : List ℕ) (fault : TokenFault) (at : ℕ) (why : FeedWhy) → IsTrue (is_utf8 bytes) →
    IsFaultFrom (length bytes) (first_point feed_depth bytes) fault → foreign_fault fault ≡ ForeignNotRead at why →
    IsFeedRefusedAt bytes address at why
fault_said bytes address (NotRead place cause) at why utf8 f same =
    let here : place ≡ at = cc in
    let is : Token cause ≡ why = cc in
    inl (
      cause,
      subst (λ n. IsTokenRefusedAt feed_depth bytes n cause) here (token_refused feed_depth bytes place cause utf8 f),
      sym is,
    )
fault_said bytes address NoMemory at why utf8 f same = absurd cc

-- of a whole document nothing but memory is wrong
pub never_faulty : (bytes : List ℕ) (root : Element) (c : Content) (fault : TokenFault) →
    IsDocument feed_depth bytes root c → IsFaultFrom (length bytes) (first_point feed_depth bytes) fault →
    foreign_fault fault ≡ OutOfMemory
never_faulty bytes root c fault x f = ap foreign_fault (fault_only feed_depth bytes root c fault x f)

-- the document that is made is spelled
pub spelled : (bytes address : List ℕ) (root : Element) (inner : Content) (made : DocumentValue) →
    IsDocument feed_depth bytes root inner → IsDocumentMade address root inner (Ok made) → SpellsFeed bytes address made
spelled bytes address root inner made document is = record {
  root = root;
  content = inner;
  document = document;
  faultless = is.2;
  read = is.0;
}

-- a document whose root isn't a feed
pub refused_root : (address : List ℕ) (root : Element) (total : ℕ) (first : List Event) (from : Point)
    (mid new : Elements) (at : ℕ) → root.place ≡ at → is_atom (codes "feed") root.name ≡ false →
    (x : IsSkippedFrom total first from (Ok tt) mid) → IsDrainedFrom mid.length (pending mid) x.2.to (Ok tt) new →
    IsDocumentFrom (λ inner made. IsDocumentMade address root inner made) total first from (Ok (Err (at, NotAFeed))) new
refused_root address root total first from mid new at here other x z = (
  x.0,
  x.1,
  z.0,
  led_on total first from x.1 z.0 mid new x.2 z.1,
  x.3,
  subst (λ k. IsDocumentMade address root x.0 (Err (k, NotAFeed))) here (other_root_refused address root x.0 other),
)
