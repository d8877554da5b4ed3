-- `mirror`: the documents held after an answer, and the images that a crash leaves while documents are taken.
use Rattle.std.proofs.Common.{◌≡◌, ◌⊎◌, inl, inr, ℕ, List, [], ◌∷◌, ◌++◌, None, Ok, Err, refl, sym, ap, subst, ◌∙◌, map, append-nil, append_assoc}
use Rattle.std.proofs.lemmas.List.{map-append}
use Rattle.doc_source.specs.declared.offer.Offer.{Offer}
use Rattle.feed_disk.specs.Disk.{DiskState}
use Rattle.feed_disk.specs.Moments.{AlwaysLeaves, LeavesAlone}
use Rattle.feed_disk.specs.declared.area.Area.{Area}
use Rattle.feed_disk.specs.declared.area.Area.TheVariants.{Mirror as MirrorArea}
use Rattle.feed_disk.proofs.MomentLemmas.{alone_leaves, always_begins, always_joins, always_weaker}
use Rattle.feed_journal.specs.Laws.{BegunAreWhole}
use Rattle.feed_journal.specs.Records.{records}
use Rattle.mirror_walk.specs.Accept.{Answer as MirrorAnswer, IsAnswerWithin, IsTakeable}
use Rattle.mirror_walk.specs.Holding.{KeptValue, payloads_of}
use Rattle.mirror_walk.specs.Loaded.{IsLoadedOf}
use Rattle.mirror_walk.specs.Mirror.{IsAtRest, IsOfferStep, LoadsTo, MirrorValue}
use Rattle.mirror_walk.specs.Offers.{Offering}
use Rattle.mirror_walk.specs.declared.answer.Accepted.TheVariants.{Taken, Known, Stale}
use Rattle.mirror_walk.specs.declared.answer.Offered.TheVariants as refusals
use Rattle.mirror_walk.proofs.RoomLemmas.{within-accepted}
use Rattle.mirror_walk.proofs.StepLemmas.{rest-loads}
use Rattle.mirror_walk.proofs.TakenLemmas.{kept-text, loaded-more, taken-next}
use Rattle.mirror_commands.specs.Mirror.{HasAnswered, ReadsOffers, ReadsTo, offering}
use Rattle.mirror_commands.specs.MirrorCrash.{IsPileStep}
use Rattle.mirror_commands.specs.MirrorEnds.{AreAllAnswered, FailsAtLast, GivesOffers, HasGiven}
use Rattle.mirror_commands.specs.MirrorFaults.{IsHeldIn}
use Rattle.mirror_commands.specs.Report.{AreAnsweredWithin}
use Rattle.mirror_commands.proofs.AnswersLemmas.{answers-push}

-- the documents held after an answer were taken one after another
module _ (capacity : ℕ) (base : List ℕ) (kept : List KeptValue) (address bytes : List ℕ) (left : List KeptValue)
    (loaded : IsLoadedOf base (payloads_of kept) kept) where
  unmoved : left ≡ kept → IsLoadedOf base (payloads_of left) left
  unmoved same = subst (λ (ks : List KeptValue). IsLoadedOf base (payloads_of ks) ks) (sym same) loaded

  pub loaded-after : (answer : MirrorAnswer) → IsAnswerWithin capacity base kept address bytes answer left
      → IsLoadedOf base (payloads_of left) left
  loaded-after (Ok Taken) is =
      let plain = within-accepted capacity base kept address bytes Taken left is in
      subst (λ (ks : List KeptValue). IsLoadedOf base (payloads_of ks) ks) (sym plain.left_over)
      (loaded-more base kept plain.given loaded (kept-text bytes plain.given plain.read)
      (taken-next base kept address plain.given (sym plain.first_fit)))
  loaded-after (Ok Known) is = unmoved is.left_over
  loaded-after (Ok Stale) is = unmoved is.left_over
  loaded-after (Err (refusals.NotADocument at)) is = unmoved is.left_over
  loaded-after (Err (refusals.WrongAddress says)) is = unmoved is.left_over
  loaded-after (Err (refusals.WrongFeed held given)) is = unmoved is.left_over
  loaded-after (Err (refusals.Conflict at held given)) is = unmoved is.left_over
  loaded-after (Err (refusals.Break last first)) is = unmoved is.left_over
  loaded-after (Err (refusals.Full size needed most)) is = unmoved is.left_over
  loaded-after (Err refusals.DiskFault) is = absurd is
  loaded-after (Err refusals.NoMemory) is = absurd is

-- and after all answers
pub answered-loaded : (capacity : ℕ) (base : List ℕ) (kept : List KeptValue) (offers : List Offering)
    (answers : List MirrorAnswer) (left : List KeptValue) → AreAnsweredWithin capacity base kept offers answers left
    → IsLoadedOf base (payloads_of kept) kept → IsLoadedOf base (payloads_of left) left
answered-loaded capacity base kept [] [] left is loaded =
    subst (λ (ks : List KeptValue). IsLoadedOf base (payloads_of ks) ks) (sym is) loaded
answered-loaded capacity base kept [] (answer ∷ answers) left is loaded = absurd is
answered-loaded capacity base kept (offer ∷ offers) [] left is loaded = absurd is
answered-loaded capacity base kept (offer ∷ offers) (answer ∷ answers) left (fits, (next, one, rest)) loaded =
    answered-loaded capacity base next offers answers left rest
    (loaded-after capacity base kept offer.address offer.bytes next loaded answer one)

-- the images while the offers of a pile are taken; `observable` is whether contracts can see the disk
pub record IsTaking (observable : Type 0) (capacity : ℕ) (base : List ℕ) (start : List KeptValue) (offers : List Offer)
    (s now : DiskState) (kept : List KeptValue) : Type 0 where
  pub loaded : IsLoadedOf base (payloads_of kept) kept
  pub images : observable → IsAtRest s start → AlwaysLeaves s now MirrorArea (IsPileStep capacity base start offers)
  pub rests : observable → IsAtRest s start → IsAtRest now kept

-- what a failed call or a report says of the offers holds of fewer of them
pub given-weaker : (capacity : ℕ) (base : List ℕ) (left : List KeptValue) (input : List ℕ)
    (observable failed more whole less : Type 0) (answered offers : List Offer)
    → (failed → more) → (less ⊎ more → whole ⊎ failed) → (less → whole)
    → AreAllAnswered input observable failed whole answered offers
    ⊎ FailsAtLast capacity base left failed whole answered offers
    → AreAllAnswered input observable more less answered offers
    ⊎ FailsAtLast capacity base left more less answered offers
given-weaker capacity base left input observable failed more whole less answered offers to back from (inl all) =
    inl record { same = all.same; all = λ e. all.all (back e) }
given-weaker capacity base left input observable failed more whole less answered offers to back from (inr last) =
    inr record {
      is = to last.is;
      part = λ l. last.part (from l);
      last = last.last;
      one_more = last.one_more;
      takeable = last.takeable;
    }

-- the offers that were given to the mirror that the area loads to
pub gives-held : (capacity : ℕ) (base : List ℕ) (kept : List KeptValue) (content : Area → List ℕ) (input : List ℕ)
    (input_observable disk_observable : Type 0) (before after : DiskState) (failed more whole less : Type 0)
    → IsHeldIn base content kept → input_observable → (failed → more) → (less ⊎ more → whole ⊎ failed) → (less → whole)
    → GivesOffers capacity base kept input input_observable disk_observable before after failed whole
    → HasGiven capacity base content input more less
gives-held capacity base kept content input input_observable disk_observable before after failed more whole less loaded
    reads to back from h = record {
      kept = kept;
      loaded = loaded;
      offers = h.offers;
      read = h.read reads;
      answered = h.answered;
      left = h.left;
      has = h.has;
      given = elim
          (given-weaker capacity base h.left input input_observable failed more whole less h.answered h.offers to back
          from h.given) [
            | inl all ↦ inl record { same = all.same; all = λ e seen. all.all e reads }
            | inr last ↦ inr last
          ];
    }

pub held-weaker : (capacity : ℕ) (base : List ℕ) (content : Area → List ℕ) (input : List ℕ)
    (failed more whole less : Type 0) → (failed → more) → (less ⊎ more → whole ⊎ failed) → (less → whole)
    → HasGiven capacity base content input failed whole → HasGiven capacity base content input more less
held-weaker capacity base content input failed more whole less to back from h = record {
  kept = h.kept;
  loaded = h.loaded;
  offers = h.offers;
  read = h.read;
  answered = h.answered;
  left = h.left;
  has = h.has;
  given = given-weaker capacity base h.left input (Unit {0}) failed more whole less h.answered h.offers to back from
      h.given;
}

module _ (observable : Type 0) (capacity : ℕ) (base : List ℕ) (start : List KeptValue) (s : DiskState) where
  pub taking-start : BegunAreWhole → IsLoadedOf base (payloads_of start) start
      → (observable → records (s.content MirrorArea) ≡ payloads_of start)
      → IsTaking observable capacity base start [] s s start
  taking-start law loaded payloads = record {
    loaded = loaded;
    images = λ t rest. always_begins s MirrorArea (IsPileStep capacity base start []) (λ image may. record {
      first = [];
      rest = [];
      split = refl;
      held = start;
      has = record { answers = []; answered = refl };
      loads = rest-loads law base start loaded s (payloads t) rest image may;
    });
    rests = λ t rest. rest;
  }

  step-more : (offers : List Offer) (offer : Offer) (image : List ℕ) → IsPileStep capacity base start offers image
      → IsPileStep capacity base start (offers ++ offer ∷ []) image
  step-more offers offer image step = record {
    first = step.first;
    rest = step.rest ++ offer ∷ [];
    split = ap (λ (os : List Offer). os ++ offer ∷ []) step.split
        ∙ append_assoc step.first step.rest (offer ∷ []);
    held = step.held;
    has = step.has;
    loads = step.loads;
  }

  -- the images of one offer, by the documents held before it
  step-offer : (offers : List Offer) (offer : Offer) (mirror : MirrorValue) (image : List ℕ) → mirror.base ≡ base
      → mirror.capacity ≡ capacity → HasAnswered capacity base start offers mirror.kept
      → IsOfferStep mirror offer.address offer.bytes image
      → IsPileStep capacity base start (offers ++ offer ∷ []) image
  step-offer offers offer mirror image base_is capacity_is has (inl loads) = record {
    first = offers;
    rest = offer ∷ [];
    split = refl;
    held = mirror.kept;
    has = has;
    loads = subst (λ (b : List ℕ). LoadsTo b mirror.kept image) base_is loads;
  }
  step-offer offers offer mirror image base_is capacity_is has (inr more) =
      let left = mirror.kept ++ more.given ∷ [] in
      let taken : IsAnswerWithin mirror.capacity mirror.base mirror.kept offer.address offer.bytes (Ok Taken) left =
      record { given = more.given; read = more.read; first_fit = sym more.taken; left_over = refl } in
      let answer : IsAnswerWithin capacity base mirror.kept offer.address offer.bytes (Ok Taken) left =
      subst (λ (b : List ℕ). IsAnswerWithin capacity b mirror.kept offer.address offer.bytes (Ok Taken) left) base_is
      (subst (λ (c : ℕ). IsAnswerWithin c mirror.base mirror.kept offer.address offer.bytes (Ok Taken) left) capacity_is
      taken) in
      record {
        first = offers ++ offer ∷ [];
        rest = [];
        split = sym (append-nil (offers ++ offer ∷ []));
        held = left;
        has = record {
          answers = has.answers ++ Ok Taken ∷ [];
          answered = subst (λ (os : List Offering).
              AreAnsweredWithin capacity base start os (has.answers ++ Ok Taken ∷ []) left)
              (sym (map-append offering offers (offer ∷ [])))
              (answers-push capacity base start (map offering offers) has.answers mirror.kept
              (offering offer) (Ok Taken)
              left has.answered tt answer);
        };
        loads = subst (λ (b : List ℕ). LoadsTo b left image) base_is more.loads;
      }

  -- one more offer was given to the mirror
  module _ (offers : List Offer) (offer : Offer) (mirror : MirrorValue) (m t : DiskState) (base_is : mirror.base ≡ base)
      (capacity_is : mirror.capacity ≡ capacity) (has : HasAnswered capacity base start offers mirror.kept)
      (h : IsTaking observable capacity base start offers s m mirror.kept)
      (moments : observable → IsAtRest m mirror.kept
      → AlwaysLeaves m t MirrorArea (IsOfferStep mirror offer.address offer.bytes)) where
    pub taking-images : observable → IsAtRest s start
        → AlwaysLeaves s t MirrorArea (IsPileStep capacity base start (offers ++ offer ∷ []))
    taking-images seen rest =
        always_joins s m t MirrorArea (IsPileStep capacity base start (offers ++ offer ∷ []))
        (always_weaker s m MirrorArea (IsPileStep capacity base start offers)
        (IsPileStep capacity base start (offers ++ offer ∷ [])) (step-more offers offer) (h.images seen rest))
        (always_weaker m t MirrorArea (IsOfferStep mirror offer.address offer.bytes)
        (IsPileStep capacity base start (offers ++ offer ∷ []))
        (λ image. step-offer offers offer mirror image base_is capacity_is has) (moments seen (h.rests seen rest)))

    pub taking-next : (answer : MirrorAnswer) (left : List KeptValue)
        → IsAnswerWithin capacity base mirror.kept offer.address offer.bytes answer left
        → (observable → IsAtRest m mirror.kept → IsAtRest t left)
        → IsTaking observable capacity base start (offers ++ offer ∷ []) s t left
    taking-next answer left is rests = record {
      loaded = loaded-after capacity base mirror.kept offer.address offer.bytes left h.loaded answer is;
      images = taking-images;
      rests = λ seen rest. rests seen (h.rests seen rest);
    }

  -- the offers that were given, as far as they were answered
  pub gives-of : (input : List ℕ) (input_observable : Type 0) (offers : List Offer) (t : DiskState)
      (kept : List KeptValue) (failed whole : Type 0) → BegunAreWhole → (input_observable → ReadsOffers input offers)
      → (whole ⊎ failed → input_observable → ReadsTo input offers (Ok None))
      → HasAnswered capacity base start offers kept → IsTaking observable capacity base start offers s t kept
      → (observable → records (t.content MirrorArea) ≡ payloads_of kept)
      → GivesOffers capacity base start input input_observable observable s t failed whole
  gives-of input input_observable offers t kept failed whole law read all has h payloads = record {
    offers = offers;
    read = read;
    images = h.images;
    answered = offers;
    left = kept;
    has = has;
    given = inl record { same = refl; all = all };
    now = λ none seen rest. rest-loads law base kept h.loaded t (payloads seen) (h.rests seen rest);
  }

  -- the last offer failed on the disk
  pub gives-failed : (input : List ℕ) (input_observable : Type 0) (answered : List Offer) (last : Offer) (t : DiskState)
      (kept : List KeptValue) (failed whole : Type 0) → failed → ¬ whole
      → IsTakeable capacity base kept last.address last.bytes
      → (input_observable → ReadsOffers input (answered ++ last ∷ [])) → HasAnswered capacity base start answered kept
      → (observable → IsAtRest s start
      → AlwaysLeaves s t MirrorArea (IsPileStep capacity base start (answered ++ last ∷ [])))
      → GivesOffers capacity base start input input_observable observable s t failed whole
  gives-failed input input_observable answered last t kept failed whole is part takeable read has images = record {
    offers = answered ++ last ∷ [];
    read = read;
    images = images;
    answered = answered;
    left = kept;
    has = has;
    given = inr record { is = is; part = part; last = last; one_more = refl; takeable = takeable };
    now = λ none. absurd (none is);
  }

  -- and then the area was left alone
  pub gives-later : (input : List ℕ) (input_observable : Type 0) (m t : DiskState) (failed more whole less : Type 0)
      → (failed → more) → (less ⊎ more → whole ⊎ failed) → (less → whole) → LeavesAlone m t MirrorArea
      → GivesOffers capacity base start input input_observable observable s m failed whole
      → GivesOffers capacity base start input input_observable observable s t more less
  gives-later input input_observable m t failed more whole less to back from run h = record {
    offers = h.offers;
    read = h.read;
    answered = h.answered;
    has = h.has;
    given = given-weaker capacity base h.left input input_observable failed more whole less h.answered h.offers to back
        from h.given;
    images = λ seen rest.
        let images = h.images seen rest in
        always_joins s m t MirrorArea (IsPileStep capacity base start h.offers) images
        (alone_leaves m t MirrorArea (IsPileStep capacity base start h.offers) images.now run);
    left = h.left;
    now = λ none seen rest image may. h.now (λ f. none (to f)) seen rest image (run.now image may);
  }
