-- A visit of an address at which a document was found, by the mirror's answer to it.
use Rattle.std.proofs.Common.{◌≡◌, ◌≢◌, ◌⊎◌, inl, inr, ℕ, List, [], ◌∷◌, ◌++◌, Option, Some, None}
use Rattle.std.proofs.Common.{Ok, Err, Result, append-nil, false, refl, sym, ap, subst, ◌∙◌}
use Rattle.chain_links.specs.Address.{printed}
use Rattle.chain_links.specs.declared.address.Address.{Address}
use Rattle.mirror_walk.specs.declared.answer.Accepted.TheVariants.{Taken}
use Rattle.mirror_walk.specs.declared.answer.Offered.{Offered}
use Rattle.mirror_walk.specs.declared.answer.Offered.TheVariants.{NotADocument, WrongAddress, WrongFeed}
use Rattle.mirror_walk.specs.declared.answer.Offered.TheVariants.{Conflict, Break, Full, DiskFault, NoMemory}
use Rattle.mirror_walk.specs.declared.walk.WalkFault.TheVariants as faults
use Rattle.mirror_walk.specs.Accept.{Answer, IsAnswerWithin, IsForRoom, IsTakeable}
use Rattle.feed_disk.specs.Disk.{DiskState}
use Rattle.feed_disk.specs.Moments.{AlwaysLeaves}
use Rattle.feed_disk.specs.declared.area.Area.TheVariants.{Mirror as MirrorArea}
use Rattle.feed_disk.proofs.MomentLemmas.{always_weaker}
use Rattle.feed_journal.specs.Laws.{BegunAreWhole}
use Rattle.doc_source.specs.Fetch.{FetchState}
use Rattle.doc_source.specs.declared.fetch.GetFault.{GetFault}
use Rattle.doc_source.specs.declared.fetch.GetFault.TheVariants as gets
use Rattle.mirror_walk.specs.declared.walk.Visit.TheVariants as visits
use Rattle.mirror_walk.specs.Holding.{KeptValue, payloads_of}
use Rattle.mirror_walk.specs.Loaded.{IsLoadedOf}
use Rattle.mirror_walk.specs.Mirror.{IsAtRest, IsOfferStep, KeepsMirror, LoadsTo, MirrorValue, StandsFor}
use Rattle.mirror_walk.specs.Mirror.{is_spent}
use Rattle.mirror_walk.specs.Visit.{HasAsked, IsVisit, IsVisitStep, VisitsByAnswer, get_fault, visit_of}
use Rattle.mirror_walk.specs.Walk.{IsAnswered, WalkSetting, answer_at, setting_by}
use Rattle.mirror_walk.proofs.StepLemmas.{rest-leaves}

module _ (mirror : MirrorValue) (setting : WalkSetting) (base : setting.base ≡ mirror.base)
    (capacity : setting.capacity ≡ mirror.capacity) (address : Address) (bytes : List ℕ)
    (there : answer_at setting address ≡ Some bytes) where
  answered : (answer : Answer) (left : List KeptValue)
      → IsAnswerWithin mirror.capacity mirror.base mirror.kept (printed mirror.base address) bytes answer left
      → IsAnswered setting mirror.kept address answer left
  answered answer left is = record {
    bytes = bytes;
    there = there;
    answered = subst (λ (c : ℕ). IsAnswerWithin c setting.base mirror.kept (printed setting.base address)
        bytes answer
        left) (sym capacity) (subst (λ (b : List ℕ). IsAnswerWithin mirror.capacity b mirror.kept
        (printed b address)
        bytes answer left) (sym base) is);
  }

  -- `Mirror::visit`: the clause `moments`
  pub offer-visits : (image : List ℕ) → IsOfferStep mirror (printed mirror.base address) bytes image
      → IsVisitStep setting mirror.kept address image
  offer-visits image (inl loads) = inl (subst (λ (b : List ℕ). LoadsTo b mirror.kept image) (sym base) loads)
  offer-visits image (inr more) = inr record {
    after = mirror.kept ++ more.given ∷ [];
    taken = answered (Ok Taken) (mirror.kept ++ more.given ∷ [])
        record { given = more.given; read = more.read; first_fit = sym more.taken; left_over = refl };
    loads = subst (λ (b : List ℕ). LoadsTo b (mirror.kept ++ more.given ∷ []) image) (sym base) more.loads;
  }

pub ok-works : {T E : Type 0} (value : T) (fault : E) → (let result : Result T E = Ok value in result) ≢ Err fault
ok-works value fault e = cc

-- the fault of an answer
pub disk-visit : (answer : Answer) → answer ≡ Err DiskFault → visit_of answer ≡ Err faults.DiskFault
disk-visit answer e = ap visit_of e

-- the documents of a mirror of use were taken one after another
pub loaded-of : (inside now : MirrorValue) → KeepsMirror inside → inside ≡ now → is_spent now ≡ false
    → IsLoadedOf now.base (payloads_of now.kept) now.kept
loaded-of inside now keeps same unspent = ((subst KeepsMirror same keeps).documents unspent).loaded

-- `Mirror::visit` where the disk got no call
pub none-leaves : BegunAreWhole → (s : DiskState) (mirror : MirrorValue) (answers : List ℕ → Option (List ℕ))
    (address : Address)
    → IsLoadedOf mirror.base (payloads_of mirror.kept) mirror.kept → StandsFor s mirror
    → IsAtRest s mirror.kept
    → AlwaysLeaves s s MirrorArea (IsVisitStep (setting_by mirror answers) mirror.kept address)
none-leaves law s mirror answers address loaded stands rest =
    rest-leaves law mirror.base mirror.kept loaded s stands.payloads rest
    (IsVisitStep (setting_by mirror answers) mirror.kept address) (λ image loads. inl loads)

-- `Mirror::visit` where a document was offered
pub offer-leaves : (s t : DiskState) (mirror : MirrorValue) (address : Address)
    (there bytes : List ℕ) → there ≡ printed mirror.base address
    → AlwaysLeaves s t MirrorArea (IsOfferStep mirror there bytes)
    → AlwaysLeaves s t MirrorArea (IsVisitStep (setting_by mirror (λ _. Some bytes)) mirror.kept address)
offer-leaves s t mirror address there bytes is run =
    always_weaker s t MirrorArea (IsOfferStep mirror (printed mirror.base address) bytes)
    (IsVisitStep (setting_by mirror (λ _. Some bytes)) mirror.kept address)
    (offer-visits mirror (setting_by mirror (λ _. Some bytes)) refl refl address bytes refl)
    (subst (λ (l : List ℕ). AlwaysLeaves s t MirrorArea (IsOfferStep mirror l bytes)) is run)

-- the visit by the mirror's answer to a document that was found
module _ (mirror : MirrorValue) (address : Address) (bytes : List ℕ) (left : List KeptValue) where
  abbrev setting : WalkSetting
  setting = setting_by mirror (λ _. Some bytes)

  refused-visit : (why : Offered) → left ≡ mirror.kept
      → IsAnswerWithin mirror.capacity mirror.base mirror.kept (printed mirror.base address) bytes (Err why) left
      → IsAnswered setting mirror.kept address (Err why) mirror.kept
  refused-visit why same answers = answered mirror setting refl refl address bytes refl (Err why) mirror.kept
      (subst (λ (l : List KeptValue). IsAnswerWithin mirror.capacity mirror.base mirror.kept
      (printed mirror.base address) bytes (Err why) l) same answers)

  refusal : (why : Offered) → why ≢ NoMemory → why ≢ DiskFault → ¬ IsForRoom why
      → (let answer : Answer = Err why in (answer ≡ Err NoMemory) ⊎ (answer ≡ Err DiskFault)
      ⊎ IsAnswerWithin mirror.capacity mirror.base mirror.kept (printed mirror.base address) bytes answer left)
      → (let answer : Answer = Err why in answer ≢ Ok Taken → answer ≢ Err DiskFault → left ≡ mirror.kept)
      → (left ≡ mirror.kept) × ((¬ IsForRoom why) × IsAnswered setting mirror.kept address (Err why) mirror.kept)
  refusal why fits works of_document (inl is) kept = absurd (fits (cc))
  refusal why fits works of_document (inr (inl is)) kept = absurd (works (cc))
  refusal why fits works of_document (inr (inr is)) kept =
      let same = kept (λ e. cc) (λ e. works (cc)) in (same, (of_document, refused-visit why same is))

  pub offered-visit : (answer : Answer)
      → (answer ≡ Err NoMemory) ⊎ (answer ≡ Err DiskFault)
      ⊎ IsAnswerWithin mirror.capacity mirror.base mirror.kept (printed mirror.base address) bytes answer left
      → (answer ≡ Err DiskFault
      → IsTakeable mirror.capacity mirror.base mirror.kept (printed mirror.base address) bytes)
      → (answer ≢ Ok Taken → answer ≢ Err DiskFault → left ≡ mirror.kept)
      → IsVisit setting mirror.kept address left (visit_of answer)
  offered-visit (Ok accepted) (inl is) takes kept = absurd (cc)
  offered-visit (Ok accepted) (inr (inl is)) takes kept = absurd (cc)
  offered-visit (Ok accepted) (inr (inr is)) takes kept =
      answered mirror setting refl refl address bytes refl (Ok accepted) left is
  offered-visit (Err (NotADocument at)) is takes kept = refusal (NotADocument at) (λ e. cc) (λ e. cc) (λ none. none) is kept
  offered-visit (Err (WrongAddress says)) is takes kept =
      refusal (WrongAddress says) (λ e. cc) (λ e. cc) (λ none. none) is kept
  offered-visit (Err (WrongFeed one other)) is takes kept =
      refusal (WrongFeed one other) (λ e. cc) (λ e. cc) (λ none. none) is kept
  offered-visit (Err (Conflict own one other)) is takes kept =
      refusal (Conflict own one other) (λ e. cc) (λ e. cc) (λ none. none) is kept
  offered-visit (Err (Break last first)) is takes kept = refusal (Break last first) (λ e. cc) (λ e. cc) (λ none. none) is kept
  offered-visit (Err (Full size needed capacity)) (inl is) takes kept = absurd (cc)
  offered-visit (Err (Full size needed capacity)) (inr (inl is)) takes kept = absurd (cc)
  offered-visit (Err (Full size needed capacity)) (inr (inr is)) takes kept =
      let same = kept (λ e. cc) (λ e. cc) in (same, refused-visit (Full size needed capacity) same is)
  offered-visit (Err DiskFault) is takes kept = record { bytes = bytes; there = refl; takeable = takes refl }
  offered-visit (Err NoMemory) is takes kept = kept (λ e. cc) (λ e. cc)

-- the visit of an address that isn't asked, or at which no document is found
module _ (observable seen : Type 0) (s : DiskState) (source : FetchState) (mirror : MirrorValue) (address : Address)
    (leaves : (answers : List ℕ → Option (List ℕ)) → observable → IsAtRest s mirror.kept
    → AlwaysLeaves s s MirrorArea (IsVisitStep (setting_by mirror answers) mirror.kept address)) where
  abbrev own : List ℕ
  own = printed mirror.base address

  -- there was no memory for the address
  pub fails-unasked : VisitsByAnswer observable seen s s source source mirror address mirror.kept (Err faults.NoMemory)
  fails-unasked = record {
    found = source.answers own;
    found_is = λ sees. refl;
    visit = refl;
    texts = [];
    texts_are = λ sees. sym (append-nil source.asked);
    asked = inl refl;
    moments = leaves (λ _. source.answers own);
  }

  module _ (later : FetchState) (there : List ℕ) (is : there ≡ own) where
    -- the source gave no answer
    pub fetch-fails : (fault : GetFault) → (fault ≢ gets.NoMemory → seen → later.asked ≡ source.asked ++ there ∷ [])
        → (fault ≡ gets.NoMemory → seen → later.asked ≡ source.asked)
        → VisitsByAnswer observable seen s s source later mirror address mirror.kept (Err (get_fault fault))
    fetch-fails gets.Failed asked unasked = record {
      found = source.answers own;
      found_is = λ sees. refl;
      visit = refl;
      texts = own ∷ [];
      texts_are = λ sees. asked (λ e. cc) sees ∙ ap (λ (l : List ℕ). source.asked ++ l ∷ []) is;
      asked = refl;
      moments = leaves (λ _. source.answers own);
    }
    fetch-fails gets.NoMemory asked unasked = record {
      found = source.answers own;
      found_is = λ sees. refl;
      visit = refl;
      texts = [];
      texts_are = λ sees. unasked refl sees ∙ sym (append-nil source.asked);
      asked = inl refl;
      moments = leaves (λ _. source.answers own);
    }

    -- the source has no document there
    pub finds-none : (seen → later.asked ≡ source.asked ++ there ∷ []) → (seen → source.answers there ≡ None)
        → VisitsByAnswer observable seen s s source later mirror address mirror.kept (Ok visits.NotThere)
    finds-none asked none = record {
      found = None;
      found_is = λ sees. sym (none sees) ∙ ap source.answers is;
      visit = (refl, refl);
      texts = own ∷ [];
      texts_are = λ sees. asked sees ∙ ap (λ (l : List ℕ). source.asked ++ l ∷ []) is;
      asked = refl;
      moments = leaves (λ _. None);
    }

-- the address of a document that was found was asked
pub asked-found : (text : List ℕ) (answer : Answer) → HasAsked [] (text ∷ []) text (visit_of answer)
asked-found text (Ok accepted) = refl
asked-found text (Err (NotADocument at)) = refl
asked-found text (Err (WrongAddress says)) = refl
asked-found text (Err (WrongFeed one other)) = refl
asked-found text (Err (Conflict address one other)) = refl
asked-found text (Err (Break last first)) = refl
asked-found text (Err (Full size needed capacity)) = refl
asked-found text (Err DiskFault) = refl
asked-found text (Err NoMemory) = inr refl
