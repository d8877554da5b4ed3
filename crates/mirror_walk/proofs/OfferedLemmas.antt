-- A mirror that was offered documents of one feed, one after another: it refused none, and covers each.
use Rattle.std.proofs.Common.{◌≡◌, ◌⊎◌, inl, inr, ℕ, List, [], ◌∷◌, ◌++◌, All, Any, Ok, Err, IsOk, refl, ap}
use Rattle.std.proofs.Common.{sym}
use Rattle.std.proofs.Common.{subst, ◌∙◌, append_assoc, append-nil, arith}
use Rattle.std.proofs.lemmas.List.Elements.{All-nil, All-cons, All-head, All-tail, All-push, All-weaker}
use Rattle.std.proofs.lemmas.List.Elements.{Contains-append_left, Contains-push_cases}
use Rattle.std.proofs.lemmas.List.Quantifiers.{Any-push}
use Rattle.sha2.specs.Sha256.{sha256}
use Rattle.atom_grammar.proofs.RefusalLemmas.{one_reading}
use Rattle.atom_writer.specs.Doc.{DocValue, IsDoc}
use Rattle.atom_writer.specs.Pieces.{own_address, text}
use Rattle.atom_writer.specs.declared.doc.Kind.{Kind}
use Rattle.chain_links.specs.Address.{printed}
use Rattle.member_rules.specs.declared.operation.Op.{Op}
use Rattle.member_rules.specs.Head.{HeadValue}
use Rattle.member_rules.specs.Served.{Served}
use Rattle.mirror_walk.specs.declared.answer.Accepted.TheVariants.{Taken, Known, Stale}
use Rattle.mirror_walk.specs.declared.answer.Offered.TheVariants.{NotADocument, WrongAddress, WrongFeed}
use Rattle.mirror_walk.specs.declared.answer.Offered.TheVariants.{Conflict}
use Rattle.mirror_walk.specs.declared.answer.Offered.TheVariants.{Break, Full, DiskFault, NoMemory}
use Rattle.mirror_walk.specs.Holding.{KeptValue}
use Rattle.mirror_walk.specs.Accept.{Answer, AnswersDocument, IsAnswer, after_answer}
use Rattle.mirror_walk.specs.Offers.{Offering, AreAnswered, AreServed}
use Rattle.mirror_walk.proofs.AcceptedLemmas.{Accepts, IsHeldOf, accept-accepts}
use Rattle.mirror_walk.proofs.FeedDocumentLemmas.{IsReading, served-reading}
use Rattle.mirror_walk.proofs.FoundLemmas.{Covers, covers-given, covers-push}

-- the offer is this document of the feed
abbrev pub IsOfferOf : HeadValue → List Op → DocValue → Offering → Type 0
IsOfferOf head history document offer = IsReading head history offer.address offer.bytes document

-- each held document was offered, and each offered one is held or older than the best one
pub record Mirrors (head : HeadValue) (history : List Op) (offers : List Offering) (kept : List KeptValue)
    : Type 0 where
  pub held : All (IsHeldOf head history) kept
  pub offered : All (λ k. Any (IsOfferOf head history k.document) offers) kept
  pub covered : (document : DocValue) → Any (IsOfferOf head history document) offers
      → Covers kept document.span.last document.kind

any-left : {A : Type 0} (P : A → Type 0) (xs : List A) (y : A) → Any P xs → Any P (xs ++ y ∷ [])
any-left P xs y (k, x, within, there, holds) =
    let more = Contains-append_left xs (y ∷ []) x (k, within, there) in
    (more.0, x, more.1, more.2, holds)

any-cases : {A : Type 0} (P : A → Type 0) (xs : List A) (y : A) → Any P (xs ++ y ∷ []) → Any P xs ⊎ P y
any-cases P xs y (k, x, within, there, holds) = elim (Contains-push_cases xs y x (k, within, there)) [
  | inl before ↦ inl (before.0, x, before.1, before.2, holds)
  | inr same ↦ inr (subst P (sym same) holds)
]

-- two readings of the same bytes are the same document
pub same-reading : (head : HeadValue) (history : List Op) (address bytes : List ℕ) (one other : DocValue)
    → IsReading head history address bytes one → IsDoc other → bytes ≡ text other → one ≡ other
same-reading head history address bytes one other reading is_doc e =
    one_reading one other reading.is_doc is_doc (sym reading.text ∙ e)

module _ (head : HeadValue) (history : List Op) (offers : List Offering) (kept : List KeptValue)
    (mirrors : Mirrors head history offers kept) (offer : Offering) (given : KeptValue)
    (reading : IsOfferOf head history given.document offer) where
  covered-more : (left : List KeptValue) → ((last : ℕ) (kind : Kind) → Covers kept last kind → Covers left
      last kind)
      → Covers left given.document.span.last given.document.kind → (document : DocValue)
      → Any (IsOfferOf head history document) (offers ++ offer ∷ [])
      → Covers left document.span.last document.kind
  covered-more left keeps covers document some =
      elim (any-cases (IsOfferOf head history document) offers offer some) [
        | inl before ↦ keeps document.span.last document.kind (mirrors.covered document before)
        | inr here ↦ subst (λ (d : DocValue). Covers left d.span.last d.kind)
            (same-reading head history offer.address offer.bytes given.document document reading here.is_doc
            here.text)
            covers
      ]

  offered-more : All (λ k. Any (IsOfferOf head history k.document) (offers ++ offer ∷ [])) kept
  offered-more = All-weaker (λ (k : KeptValue). Any (IsOfferOf head history k.document) offers)
      (λ (k : KeptValue). Any (IsOfferOf head history k.document) (offers ++ offer ∷ []))
      (λ k some. any-left (IsOfferOf head history k.document) offers offer some) kept mirrors.offered

  mirrors-same : Covers kept given.document.span.last given.document.kind
      → Mirrors head history (offers ++ offer ∷ []) kept
  mirrors-same covers = record {
    held = mirrors.held;
    offered = offered-more;
    covered = covered-more kept (λ last kind h. h) covers;
  }

  mirrors-taken : IsHeldOf head history given → Mirrors head history (offers ++ offer ∷ [])
      (kept ++ given ∷ [])
  mirrors-taken is_given = record {
    held = All-push (IsHeldOf head history) kept given mirrors.held is_given;
    offered = All-push (λ (k : KeptValue). Any (IsOfferOf head history k.document) (offers ++ offer ∷ []))
        kept given
        offered-more (Any-push (IsOfferOf head history given.document) offers offer reading);
    covered = covered-more (kept ++ given ∷ []) (covers-push kept given)
        (covers-given kept given given.document.kind refl);
  }

  mirrors-after : (answer : Answer) → IsHeldOf head history given → Accepts kept given answer
      → IsOk answer × Mirrors head history (offers ++ offer ∷ []) (after_answer kept given answer)
  mirrors-after (Ok Taken) is_given accepts = (refl, mirrors-taken is_given)
  mirrors-after (Ok Known) is_given accepts = (refl, mirrors-same accepts)
  mirrors-after (Ok Stale) is_given accepts = (refl, mirrors-same accepts)
  mirrors-after (Err refusal) is_given accepts = absurd accepts

-- one more offer

pub document-mirrored : (head : HeadValue) (history : List Op) (offers : List Offering)
    (kept left : List KeptValue)
    (offer : Offering) (answer : Answer) → Mirrors head history offers kept
    → Served head history offer.address offer.bytes
    → AnswersDocument head.name.base kept offer.address offer.bytes answer left
    → IsOk answer × Mirrors head history (offers ++ offer ∷ []) left
document-mirrored head history offers kept left offer answer mirrors served answers =
    let given = answers.given in
    let found = served-reading head history offer.address offer.bytes served in
    let same = same-reading head history offer.address offer.bytes found.0 given.document found.1
    answers.read.is_doc
    answers.read.text in
    let reading = subst (λ (d : DocValue). IsOfferOf head history d offer) same found.1 in
    let is_given : IsHeldOf head history given = record {
      of_feed = reading.of_feed;
      id = reading.id;
      digest = answers.read.digest ∙ ap sha256 answers.read.text;
    } in
    let there = reading.there
    ∙ ap (λ (base : List ℕ). printed base (own_address given.document.kind)) (sym reading.base) in
    let accepts = subst (Accepts kept given) (sym answers.first_fit)
    (accept-accepts head history served.is_head kept mirrors.held given is_given head.name.base offer.address
    reading.base there) in
    let after = mirrors-after head history offers kept mirrors offer given reading answer is_given accepts in
    (after.0, subst (Mirrors head history (offers ++ offer ∷ [])) (sym answers.left_over) after.1)

pub answer-mirrored : (head : HeadValue) (history : List Op) (offers : List Offering)
    (kept left : List KeptValue)
    (offer : Offering) (answer : Answer) → Mirrors head history offers kept
    → Served head history offer.address offer.bytes
    → IsAnswer head.name.base kept offer.address offer.bytes answer left
    → IsOk answer × Mirrors head history (offers ++ offer ∷ []) left
answer-mirrored head history offers kept left offer (Ok accepted) mirrors served answers =
    document-mirrored head history offers kept left offer (Ok accepted) mirrors served answers
answer-mirrored head history offers kept left offer (Err (NotADocument at)) mirrors served answers =
    let found = served-reading head history offer.address offer.bytes served in
    absurd (answers.no_document found.0 found.1.is_doc found.1.text)
answer-mirrored head history offers kept left offer (Err NoMemory) mirrors served answers = absurd answers
answer-mirrored head history offers kept left offer (Err (WrongAddress says)) mirrors served answers =
    document-mirrored head history offers kept left offer (Err (WrongAddress says)) mirrors served answers
answer-mirrored head history offers kept left offer (Err (WrongFeed one other)) mirrors served answers =
    document-mirrored head history offers kept left offer (Err (WrongFeed one other)) mirrors served answers
answer-mirrored head history offers kept left offer (Err (Conflict at one other)) mirrors served answers =
    document-mirrored head history offers kept left offer (Err (Conflict at one other)) mirrors served answers
answer-mirrored head history offers kept left offer (Err (Full size needed capacity)) mirrors served answers =
    document-mirrored head history offers kept left offer (Err (Full size needed capacity)) mirrors served
    answers
answer-mirrored head history offers kept left offer (Err DiskFault) mirrors served answers =
    document-mirrored head history offers kept left offer (Err DiskFault) mirrors served answers
answer-mirrored head history offers kept left offer (Err (Break last first)) mirrors served answers =
    document-mirrored head history offers kept left offer (Err (Break last first)) mirrors served answers

-- all offers, one after another

answers-mirrored : (head : HeadValue) (history : List Op) (past offers : List Offering)
    (answers : List Answer)
    (kept left : List KeptValue) → Mirrors head history past kept → AreServed head history offers
    → AreAnswered head.name.base kept offers answers left
    → All IsOk answers × Mirrors head history (past ++ offers) left
answers-mirrored head history past [] [] kept left mirrors served answered = (
  All-nil IsOk,
  subst (λ (offers : List Offering). Mirrors head history offers left) (sym (append-nil past))
      (subst (Mirrors head history past) (sym answered) mirrors),
)
answers-mirrored head history past [] (answer ∷ answers) kept left mirrors served answered = absurd answered
answers-mirrored head history past (offer ∷ offers) [] kept left mirrors served answered = absurd answered
answers-mirrored head history past (offer ∷ offers) (answer ∷ answers) kept left mirrors served
    (next, one, others)
    =
    let P = λ (o : Offering). Served head history o.address o.bytes in
    let first = answer-mirrored head history past kept next offer answer mirrors
    (All-head P offer offers served) one in
    let rest = answers-mirrored head history (past ++ offer ∷ []) offers answers next left first.1
    (All-tail P offer offers served) others in (
      All-cons IsOk answer answers first.0 rest.0,
      subst (λ (offers : List Offering). Mirrors head history offers left)
          (append_assoc past (offer ∷ []) offers)
          rest.1,
    )

mirrors-none : (head : HeadValue) (history : List Op) → Mirrors head history [] []
mirrors-none head history = record {
  held = All-nil (IsHeldOf head history);
  offered = All-nil (λ (k : KeptValue). Any (IsOfferOf head history k.document) []);
  covered = λ document some. absurd (omega (arith, some.2));
}

pub offers-mirrored : (head : HeadValue) (history : List Op) (offers : List Offering) (answers : List Answer)
    (kept : List KeptValue) → AreServed head history offers
    → AreAnswered head.name.base [] offers answers kept
    → All IsOk answers × Mirrors head history offers kept
offers-mirrored head history offers answers kept served answered =
    answers-mirrored head history [] offers answers [] kept (mirrors-none head history) served answered
