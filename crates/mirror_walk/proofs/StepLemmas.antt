-- The images that a crash leaves of a mirror at rest, and while a document is appended.
use Rattle.std.proofs.Common.{◌≡◌, inl, inr, ℕ, List, [], ◌∷◌, ◌++◌, length, sym, ◌∙◌, ap, subst}
use Rattle.std.proofs.Common.{arith, ◌≢◌, false}
use Rattle.atom_writer.specs.Pieces.{text}
use Rattle.feed_disk.specs.Disk.{DiskState}
use Rattle.feed_disk.specs.Moments.{AlwaysLeaves, LeavesAlone, NowOnly}
use Rattle.feed_disk.specs.declared.area.Area.{Area}
use Rattle.feed_disk.specs.declared.area.Area.TheVariants.{Mirror as MirrorArea}
use Rattle.feed_disk.proofs.MomentLemmas.{always_begins, always_weaker}
use Rattle.feed_journal.specs.Laws.{BegunAreWhole}
use Rattle.feed_journal.specs.Log.{IsListed, LogValue}
use Rattle.feed_journal.specs.Records.{records, size_of, Begins, IsStep}
use Rattle.mirror_walk.specs.Accept.{IsKeptOf}
use Rattle.mirror_walk.specs.Holding.{KeptValue, payloads_of}
use Rattle.mirror_walk.specs.Loaded.{IsLoadedOf}
use Rattle.mirror_walk.specs.Mirror.{IsAtRest, IsOfferStep, KeepsMirror, LoadsTo}
use Rattle.mirror_walk.specs.Mirror.{MirrorValue, StandsFor, is_spent}
use Rattle.mirror_walk.specs.Taking.{IsTakeStep, IsTakenNext, IsToBeTaken}
use Rattle.mirror_walk.proofs.TakenLemmas.{loaded-more, payloads-more, kept-text}
use Rattle.mirror_walk.proofs.WithinLemmas.{within-taken}

-- an image with the texts of these documents loads to them
pub loads-as : (base : List ℕ) (kept : List KeptValue) (image : List ℕ)
    → IsLoadedOf base (payloads_of kept) kept
    → records image ≡ payloads_of kept → IsLoadedOf base (records image) kept
loads-as base kept image loaded same =
    subst (λ (ps : List (List ℕ)). IsLoadedOf base ps kept) (sym same) loaded

module _ (law : BegunAreWhole) (base : List ℕ) (kept : List KeptValue)
    (loaded : IsLoadedOf base (payloads_of kept) kept)
    (s : DiskState) (is : records (s.content MirrorArea) ≡ payloads_of kept) (rest : IsAtRest s kept) where
  -- each image of a disk at rest loads to the documents
  pub rest-loads : NowOnly s MirrorArea (LoadsTo base kept)
  rest-loads image may =
      let begun = law (s.content MirrorArea) image
      (subst (λ (ps : List (List ℕ)). Begins ps image) (sym is) (rest image may)) in
      record { whole = begun.0; loaded = loads-as base kept image loaded (begun.1 ∙ is) }

  -- a call that changes nothing
  pub rest-leaves : (P : List ℕ → Type 0) → ((image : List ℕ) → LoadsTo base kept image → P image)
      → AlwaysLeaves s s MirrorArea P
  rest-leaves P to = always_begins s MirrorArea P (λ image may. to image (rest-loads image may))

-- an append of one more document
module _ (mirror : MirrorValue) (given : KeptValue) (payload : List ℕ)
    (loaded : IsLoadedOf mirror.base (payloads_of mirror.kept) mirror.kept)
    (more : IsLoadedOf mirror.base (payloads_of (mirror.kept ++ given ∷ [])) (mirror.kept ++ given ∷ []))
    (is_text : payload ≡ text given.document) (s t : DiskState)
    (is : records (s.content MirrorArea) ≡ payloads_of mirror.kept) where
  pub payloads-appended : records (t.content MirrorArea) ≡ records (s.content MirrorArea) ++ payload ∷ []
      → records (t.content MirrorArea) ≡ payloads_of (mirror.kept ++ given ∷ [])
  payloads-appended appended =
      appended
      ∙ ap (λ (ps : List (List ℕ)). ps ++ payload ∷ []) is
      ∙ ap (λ (p : List ℕ). payloads_of mirror.kept ++ p ∷ []) is_text
      ∙ sym (payloads-more mirror.kept given)

  step : (image : List ℕ) → IsStep (records (s.content MirrorArea)) payload image
      → IsTakeStep mirror given image
  step image leaves = elim leaves.payloads [
    | inl before ↦ inl record {
      whole = leaves.whole;
      loaded = loads-as mirror.base mirror.kept image loaded (before ∙ is);
    }
    | inr after ↦ inr record {
      whole = leaves.whole;
      loaded = loads-as mirror.base (mirror.kept ++ given ∷ []) image more
          (after ∙ ap (λ (ps : List (List ℕ)). ps ++ payload ∷ []) is
          ∙ ap (λ (p : List ℕ). payloads_of mirror.kept ++ p ∷ []) is_text
          ∙ sym (payloads-more mirror.kept given));
    }
  ]

  pub append-leaves : (NowOnly s MirrorArea (Begins (records (s.content MirrorArea)))
      → AlwaysLeaves s t MirrorArea (IsStep (records (s.content MirrorArea)) payload))
      → IsAtRest s mirror.kept → AlwaysLeaves s t MirrorArea (IsTakeStep mirror given)
  append-leaves run rest =
      always_weaker s t MirrorArea (IsStep (records (s.content MirrorArea)) payload)
      (IsTakeStep mirror given) step
      (run (λ image may. subst (λ (ps : List (List ℕ)). Begins ps image) (sym is) (rest image may)))

  pub append-rests : records (t.content MirrorArea) ≡ records (s.content MirrorArea) ++ payload ∷ []
      → (NowOnly s MirrorArea (Begins (records (s.content MirrorArea)))
      → NowOnly t MirrorArea (Begins (records (t.content MirrorArea))))
      → IsAtRest s mirror.kept → IsAtRest t (mirror.kept ++ given ∷ [])
  append-rests appended run rest image may =
      subst (λ (ps : List (List ℕ)). Begins ps image) (payloads-appended appended)
      (run (λ i now. subst (λ (ps : List (List ℕ)). Begins ps i) (sym is) (rest i now)) image may)

-- while an offered document is taken
pub offer-step : (mirror : MirrorValue) (address bytes : List ℕ) (given : KeptValue) (payload : List ℕ)
    → mirror.log.size ≡ size_of (payloads_of mirror.kept) → IsToBeTaken mirror address bytes given payload
    → (image : List ℕ) → IsTakeStep mirror given image → IsOfferStep mirror address bytes image
offer-step mirror address bytes given payload size to image (inl loads) = inl loads
offer-step mirror address bytes given payload size to image (inr loads) =
    let is_text : payload ≡ text given.document = to.taken.read.text in
    inr record {
      given = given;
      read = subst (λ (b : List ℕ). IsKeptOf b given) to.bytes_are to.taken.read;
      taken = within-taken mirror.capacity mirror.base mirror.kept address given to.accepted
          (omega (arith, to.taken.fits, size, ap length is_text));
      loads = loads;
    }

-- a mirror at rest, and a call that makes no device call
module _ (law : BegunAreWhole) (s : DiskState) (mirror : MirrorValue) (keeps : KeepsMirror mirror)
    (unspent : is_spent mirror ≡ false) (stands : StandsFor s mirror) where
  pub still-takes : (given : KeptValue) → IsAtRest s mirror.kept
      → AlwaysLeaves s s MirrorArea (IsTakeStep mirror given)
  still-takes given rest =
      rest-leaves law mirror.base mirror.kept (keeps.documents unspent).loaded s stands.payloads rest
      (IsTakeStep mirror given) (λ image loads. inl loads)

  pub still-offers : (address bytes : List ℕ) → IsAtRest s mirror.kept
      → AlwaysLeaves s s MirrorArea (IsOfferStep mirror address bytes)
  still-offers address bytes rest =
      rest-leaves law mirror.base mirror.kept (keeps.documents unspent).loaded s stands.payloads rest
      (IsOfferStep mirror address bytes) (λ image loads. inl loads)

-- an append through the log of a mirror, whose area is the mirror's
module _ (s t : DiskState) (mirror : MirrorValue) (given : KeptValue) (payload : List ℕ)
    (keeps : KeepsMirror mirror)
    (unspent : is_spent mirror ≡ false) (stands : StandsFor s mirror)
    (taken : IsTakenNext mirror given payload)
    (area : Area) (same : area ≡ MirrorArea) where
  loaded : IsLoadedOf mirror.base (payloads_of mirror.kept) mirror.kept
  loaded = (keeps.documents unspent).loaded

  more : IsLoadedOf mirror.base (payloads_of (mirror.kept ++ given ∷ [])) (mirror.kept ++ given ∷ [])
  more = loaded-more mirror.base mirror.kept given loaded (kept-text payload given taken.read) taken.next

  pub appended-leaves : (NowOnly s area (Begins (records (s.content area)))
      → AlwaysLeaves s t area (IsStep (records (s.content area)) payload))
      → IsAtRest s mirror.kept → AlwaysLeaves s t MirrorArea (IsTakeStep mirror given)
  appended-leaves run = append-leaves mirror given payload loaded more taken.read.text s t stands.payloads
      (subst (λ (a : Area). NowOnly s a (Begins (records (s.content a)))
      → AlwaysLeaves s t a (IsStep (records (s.content a)) payload)) same run)

  module _ (list : records (t.content area) ≡ records (s.content area) ++ payload ∷ []) where
    here : records (t.content MirrorArea) ≡ records (s.content MirrorArea) ++ payload ∷ []
    here = subst (λ (a : Area). records (t.content a) ≡ records (s.content a) ++ payload ∷ []) same list

    pub appended-rests : (NowOnly s area (Begins (records (s.content area)))
        → NowOnly t area (Begins (records (t.content area))))
        → IsAtRest s mirror.kept → IsAtRest t (mirror.kept ++ given ∷ [])
    appended-rests run = append-rests mirror given payload loaded more taken.read.text s t stands.payloads
        here
        (subst (λ (a : Area). NowOnly s a (Begins (records (s.content a)))
        → NowOnly t a (Begins (records (t.content a)))) same run)

    pub appended-stands : (after : MirrorValue) → after.kept ≡ mirror.kept ++ given ∷ []
        → IsListed after.log (t.content area) → StandsFor t after
    appended-stands after kept listed =
        let listed' = subst (λ (a : Area). IsListed after.log (t.content a)) same listed in
        record {
          listed = listed';
          payloads = payloads-appended mirror given payload loaded more taken.read.text s t stands.payloads
              here
              ∙ ap payloads_of (sym kept);
        }

-- the other areas
pub others-alone : (s t : DiskState) (area : Area) → area ≡ MirrorArea
    → ((a : Area) → a ≢ area → LeavesAlone s t a) → (a : Area) → a ≢ MirrorArea → LeavesAlone s t a
others-alone s t area same alone a other = alone a (λ is. other (is ∙ same))

-- a mirror whose log got room agrees with the same content
pub stands-room : (s : DiskState) (mirror : MirrorValue) (log : LogValue) → log
    ≡ record mirror.log { spare = log.spare }
    → StandsFor s mirror → StandsFor s (record mirror { log = log })
stands-room s mirror log is stands = record {
  listed = subst (λ (l : LogValue). IsListed l (s.content MirrorArea)) (sym is)
      (record { list = stands.listed.list; long = stands.listed.long });
  payloads = stands.payloads;
}

pub keeps-room : (mirror : MirrorValue) (log : LogValue) → log ≡ record mirror.log { spare = log.spare }
    → KeepsMirror mirror → KeepsMirror (record mirror { log = log })
keeps-room mirror log is keeps = subst (λ (l : LogValue). KeepsMirror (record mirror { log = l })) (sym is)
    (record {
      area = keeps.area;
      log = record { follow = keeps.log.follow; few = keeps.log.few };
      capacity = keeps.capacity;
      documents = λ unspent.
          let documents = keeps.documents unspent in
          record { lengths = documents.lengths; size = documents.size; loaded = documents.loaded };
    })
