-- The documents that one feed serves after some of its operations.
use Rattle.std.proofs.Common.{◌≡◌, inl, inr, ℕ, ◌+◌, ◌-◌, ◌≤◌, List, length, take, refl, ap, subst, sym, ◌∙◌}
use Rattle.std.proofs.Common.{arith}
use Rattle.std.proofs.lemmas.List.{length-take-le}
use Rattle.atom_writer.specs.Doc.{DocValue, IsDoc}
use Rattle.atom_writer.specs.Pieces.{own_address, text}
use Rattle.atom_writer.specs.declared.doc.Kind.{Kind}
use Rattle.atom_writer.specs.declared.doc.Kind.TheVariants.{Subscription, Archive as Sealed}
use Rattle.chain_links.specs.Address.{printed}
use Rattle.member_rules.specs.declared.operation.Op.{Op}
use Rattle.member_rules.specs.Head.{HeadValue, IsHead}
use Rattle.member_rules.specs.History.{IsLawful}
use Rattle.member_rules.specs.Windows.{windows_of}
use Rattle.member_rules.specs.Documents.{name_of, document_of, archive_of, subscription_of, archive}
use Rattle.member_rules.specs.Documents.{subscription}
use Rattle.member_rules.specs.Served.{Served, ServesFeed, ServesArchive}
use Rattle.member_rules.proofs.CutLemmas.{IsCut-open, ends-within, full-cut, windows-cut, windows-sealed}
use Rattle.member_rules.proofs.DocumentRulesLemmas.{archive-is_doc, subscription-is_doc}
use Rattle.member_rules.proofs.ServedLemmas.{archive-stays, prefix-lawful}

-- archive `number` of the history, where it is sealed
pub record IsArchiveOf (head : HeadValue) (history : List Op) (number : ℕ) (document : DocValue)
    : Type 0 where
  pub of_sealed : (1 ≤ number) × (number ≤ (windows_of head history).sealed)
  pub same : document ≡ archive head history number

-- the subscription document after the first `version` operations
pub record IsVersionOf (head : HeadValue) (history : List Op) (version : ℕ) (document : DocValue)
    : Type 0 where
  pub past : version ≤ length history
  pub same : document ≡ subscription head (take version history)

abbrev pub IsOfKind : HeadValue → List Op → DocValue → Kind → Type 0
IsOfKind head history document Subscription = IsVersionOf head history document.span.last document
IsOfKind head history document (Sealed number) = IsArchiveOf head history number document

-- a document that the feed serves; the `last` of a subscription document is its version
abbrev pub IsOfFeed : HeadValue → List Op → DocValue → Type 0
IsOfFeed head history document = IsOfKind head history document document.kind

-- the bytes are the text of a document that the feed serves at this address
pub record IsReading (head : HeadValue) (history : List Op) (address bytes : List ℕ) (document : DocValue)
    : Type 0 where
  pub of_feed : IsOfFeed head history document
  pub is_doc : IsDoc document
  pub there : address ≡ printed head.name.base (own_address document.kind)
  pub text : bytes ≡ text document
  pub base : document.name.base ≡ head.name.base
  pub id : document.name.id ≡ head.name.id

pub archive-of : (head : HeadValue) (history : List Op) (document : DocValue) (number : ℕ)
    → document.kind ≡ Sealed number → IsOfFeed head history document
    → IsArchiveOf head history number document
archive-of head history document number e h = subst (IsOfKind head history document) e h

pub version-of : (head : HeadValue) (history : List Op) (document : DocValue) → document.kind ≡ Subscription
    → IsOfFeed head history document → IsVersionOf head history document.span.last document
version-of head history document e h = subst (IsOfKind head history document) e h

-- served bytes

feed-reading : (head : HeadValue) (history : List Op) (address bytes : List ℕ) → IsHead head
    → IsLawful head history
    → (served : ServesFeed head history address bytes)
    → IsReading head history address bytes (subscription head (take served.version history))
unfolding subscription subscription_of document_of name_of
feed-reading head history address bytes is_head lawful served =
    let past = take served.version history in
    let size : length past ≡ served.version = length-take-le served.version history served.past in
    record {
      of_feed = record {
        past = rw size served.past;
        same = ap (λ (version : ℕ). subscription head (take version history)) (sym size);
      };
      is_doc = subscription-is_doc (windows_of head past).ends (windows_of head past).sealed head past is_head
          (prefix-lawful head history served.version lawful) (windows-cut head past is_head.limits.window);
      there = served.there;
      text = served.text;
      base = refl;
      id = refl;
    }

archive-reading : (head : HeadValue) (history : List Op) (address bytes : List ℕ) → IsHead head
    → IsLawful head history
    → (served : ServesArchive head history address bytes)
    → IsReading head history address bytes (archive head history served.number)
unfolding archive archive_of document_of name_of
archive-reading head history address bytes is_head lawful served =
    let full = (windows-sealed head history is_head).full in
    let cut = full-cut head history served.number is_head.limits.window
    (omega (arith, served.of_sealed.1, full)) in
    record {
      of_feed = record { of_sealed = served.of_sealed; same = refl };
      is_doc = archive-is_doc (windows_of head history).ends served.number head history served.number is_head
          lawful
          cut served.of_sealed.0 (omega arith);
      there = served.there;
      text = served.text;
      base = refl;
      id = refl;
    }

pub served-reading : (head : HeadValue) (history : List Op) (address bytes : List ℕ)
    → Served head history address bytes → (document : DocValue) × IsReading head history address bytes
    document
served-reading head history address bytes served = elim served.served [
  | inl feed ↦ (
    subscription head (take feed.version history),
    feed-reading head history address bytes served.is_head served.is_lawful feed,
  )
  | inr sealed ↦ (
    archive head history sealed.number,
    archive-reading head history address bytes served.is_head served.is_lawful sealed,
  )
]

-- the parts of a document

archive-first : (head : HeadValue) (history : List Op) (number : ℕ)
    → (archive head history number).span.first ≡ (windows_of head history).ends (number - 1) + 1
unfolding archive archive_of document_of
archive-first head history number = refl

archive-last : (head : HeadValue) (history : List Op) (number : ℕ) → IsHead head
    → number ≤ (windows_of head history).sealed
    → (archive head history number).span.last ≡ (windows_of head history).ends number
unfolding archive archive_of document_of
archive-last head history number is_head sealed =
    let windows = windows_of head history in
    let cut = IsCut-open windows.ends windows.sealed (length history)
    (windows-cut head history is_head.limits.window) in
    length-take-le (windows.ends number) history
    (ends-within windows.ends windows.sealed (length history) cut number sealed)

subscription-first : (head : HeadValue) (history : List Op)
    → (subscription head history).span.first
    ≡ (windows_of head history).ends (windows_of head history).sealed + 1
unfolding subscription subscription_of document_of
subscription-first head history = refl

pub subscription-prev : (head : HeadValue) (history : List Op)
    → (subscription head history).prev ≡ (windows_of head history).sealed
unfolding subscription subscription_of document_of
subscription-prev head history = refl

-- an archive of the first operations is that of all of them
pub archive-past : (head : HeadValue) (history : List Op) (version number : ℕ) → IsHead head
    → version ≤ length history
    → number ≤ (windows_of head (take version history)).sealed
    → archive head (take version history) number ≡ archive head history number
archive-past head history version number is_head past sealed =
    let full = (windows-sealed head (take version history) is_head).full in
    archive-stays head history version number past (omega arith)

-- which documents adjoin

pub archives-adjoin : (head : HeadValue) (history : List Op) (number : ℕ) (older newer : DocValue)
    → IsHead head
    → IsArchiveOf head history number older → IsArchiveOf head history (number + 1) newer
    → older.span.last + 1 ≡ newer.span.first
archives-adjoin head history number older newer is_head is_older is_newer =
    let windows = windows_of head history in
    let below : number + 1 - 1 ≡ number = omega arith in
    let last : older.span.last ≡ windows.ends number =
    ap (λ (d : DocValue). d.span.last) is_older.same
    ∙ archive-last head history number is_head is_older.of_sealed.1 in
    let first : newer.span.first ≡ windows.ends number + 1 =
    ap (λ (d : DocValue). d.span.first) is_newer.same ∙ archive-first head history (number + 1)
    ∙ ap (λ (n : ℕ). windows.ends n + 1) below in
    rw (last, first) refl

pub version-adjoins : (head : HeadValue) (history : List Op) (version number : ℕ) (older newer : DocValue)
    → IsHead head → IsArchiveOf head history number older → IsVersionOf head history version newer
    → newer.prev ≡ number → older.span.last + 1 ≡ newer.span.first
version-adjoins head history version number older newer is_head is_older is_newer named =
    let past = take version history in
    let windows = windows_of head past in
    let same : windows.sealed ≡ number =
    sym (subscription-prev head past) ∙ sym (ap (λ (d : DocValue). d.prev) is_newer.same) ∙ named in
    let stays : older ≡ archive head past number =
    is_older.same ∙ sym (archive-past head history version number is_head is_newer.past (omega arith)) in
    let last : older.span.last ≡ windows.ends number =
    ap (λ (d : DocValue). d.span.last) stays ∙ archive-last head past number is_head (omega arith) in
    let first : newer.span.first ≡ windows.ends number + 1 =
    ap (λ (d : DocValue). d.span.first) is_newer.same ∙ subscription-first head past
    ∙ ap (λ (n : ℕ). windows.ends n + 1) same in
    rw (last, first) refl
