-- `mirror` from a pile: a mirror between two offers, with the disk on which it takes them.
use Rattle.std.proofs.Common.{◌≡◌, ◌≢◌, ◌⊎◌, inl, inr, ℕ, ◌+◌, ◌≤◌, List, [], ◌∷◌, ◌++◌, Bool, Some, None}
use Rattle.std.proofs.Common.{Result, Ok, Err}
use Rattle.std.proofs.Common.{IsOk, length, refl, sym, subst, ◌∙◌, arith}
use Rattle.std.proofs.lemmas.List.Elements.{All-nil}
use Rattle.std.proofs.lemmas.Bool.{false≢true}
use Rattle.doc_source.specs.Laws.{HasRead}
use Rattle.doc_source.specs.Outside.{SourceState}
use Rattle.doc_source.specs.Pile.{IsAnswer as IsPileAnswer, IsOffer, PileState, unused, used_text}
use Rattle.doc_source.specs.declared.fault.PileFault.{PileFault}
use Rattle.doc_source.specs.declared.fault.PileFault.TheVariants as piles
use Rattle.doc_source.specs.declared.offer.Offer.{Offer}
use Rattle.feed_disk.specs.Disk.{DiskState}
use Rattle.feed_disk.specs.Moments.{AlwaysLeaves, LeavesAlone}
use Rattle.feed_disk.specs.declared.area.Area.{Area}
use Rattle.feed_disk.specs.declared.area.Area.TheVariants.{Mirror as MirrorArea}
use Rattle.feed_disk.proofs.MomentLemmas.{alone_begins, alone_joins}
use Rattle.feed_journal.specs.Laws.{BegunAreWhole}
use Rattle.mirror_walk.specs.Accept.{Answer as MirrorAnswer, IsAnswerWithin, IsTakeable}
use Rattle.mirror_walk.specs.Holding.{payloads_of}
use Rattle.mirror_walk.specs.Loaded.{IsLoadedOf}
use Rattle.mirror_walk.specs.Mirror.{IsAtRest, IsOfferStep, MirrorValue}
use Rattle.mirror_commands.specs.declared.report.Report.{Report}
use Rattle.mirror_walk.specs.declared.answer.Offered.TheVariants.{Full as NoRoom}
use Rattle.command_ends.specs.declared.fault.Fault.{Fault}
use Rattle.command_ends.specs.declared.fault.Fault.TheVariants.{BadStore, Disk, Full, Input, NoMemory, Refused}
use Rattle.command_ends.specs.Fault.{fault_answer}
use Rattle.mirror_commands.specs.Mirror.{IsMirrored, ReadsOffers, ReadsTo, pile_limit}
use Rattle.command_ends.specs.Fault.{pile_fault}
use Rattle.mirror_commands.specs.MirrorEnds.{GivesOffers}
use Rattle.mirror_commands.specs.MirrorFaults.{full_fault}
use Rattle.mirror_commands.specs.Report.{HasAdded, IsReportable, no_counts}
use Rattle.mirror_commands.specs.Reporting.{IsUsable, MayEndOffer, SameMirror}
use Rattle.mirror_commands.proofs.AnswersLemmas.{full-capacity}
use Rattle.mirror_commands.proofs.OffersLemmas.{IsAmid, amid-next, amid-start, has-answered, mirrored-full, next-read, reads-offers}
use Rattle.mirror_commands.proofs.TakingLemmas.{IsTaking, gives-failed, gives-of, taking-images, taking-next, taking-start}

-- the offers that were given so far, from a mirror that held `first.kept` and a disk in the state s; the two marks are
-- whether contracts can see the input and the disk
pub record IsGiving (input_observable disk_observable : Type 0) (detailed : Bool) (first : MirrorValue)
    (s now : DiskState) (input source : SourceState) (reader : PileState) (mirror : MirrorValue) (report : Report)
    : Type 0 where
  pub offers : List Offer
  pub amid : IsAmid input_observable detailed first.capacity first.base first.kept input.left offers reader source
      mirror.kept report
  pub taking : IsTaking disk_observable first.capacity first.base first.kept offers s now mirror.kept
  pub usable : IsUsable disk_observable now mirror
  pub same : SameMirror first mirror
  pub others : (a : Area) → a ≢ MirrorArea → LeavesAlone s now a
  pub disk_faults : now.faults ≡ s.faults
  pub input_faults : source.faults ≡ input.faults

-- a result that is a fault isn't whole
pub not-ok : {T E : Type 0} (result : Result T E) (fault : E) → result ≡ Err fault → IsOk result → ⊥
not-ok (Ok value) fault is ok = cc
not-ok (Err other) fault is ok = false≢true ok

-- the offers came to no end of the pile, and no device call failed
pub unended : {whole failed : Type 0} {A : Type 0} → ¬ whole → ¬ failed → whole ⊎ failed → A
unended part well (inl w) = absurd (part w)
unended part well (inr f) = absurd (well f)

-- the fault of a pile isn't that of the disk
pub pile-no_disk : (fault : PileFault) → pile_fault fault ≡ Disk → ⊥
pile-no_disk (piles.BadPile at) e = cc
pile-no_disk (piles.TooLong limit) e = cc
pile-no_disk piles.SourceFault e = cc
pile-no_disk piles.NoMemory e = cc

module _ (input_observable disk_observable : Type 0) (detailed : Bool) (first : MirrorValue) (s : DiskState)
    (input : SourceState) where
  pub giving-start : (reader : PileState) (report : Report) → BegunAreWhole
      → reader ≡ record { ahead = []; used = 0; limit = pile_limit; refusal = None } → report.detailed ≡ detailed
      → report.text.items ≡ []
      → report.counts ≡ no_counts → IsUsable disk_observable s first
      → IsLoadedOf first.base (payloads_of first.kept) first.kept
      → IsGiving input_observable disk_observable detailed first s s input input reader first report
  giving-start reader report law start form text counts usable loaded = record {
    offers = [];
    amid = amid-start input_observable detailed first.capacity first.base reader input first.kept report start form text
        counts;
    taking = taking-start disk_observable first.capacity first.base first.kept s law loaded
        (λ observable. (usable.stands observable).payloads);
    usable = usable;
    same = record { base = refl; capacity = refl };
    others = λ a other. alone_begins s a;
    disk_faults = refl;
    input_faults = refl;
  }

  -- the offers that were given, if no device call failed
  pub giving-ends : (now : DiskState) (source : SourceState) (reader : PileState) (mirror : MirrorValue)
      (report : Report) (failed whole : Type 0) → BegunAreWhole
      → (h : IsGiving input_observable disk_observable detailed first s now input source reader mirror report)
      → (whole ⊎ failed → input_observable → ReadsTo input.left h.offers (Ok None))
      → GivesOffers first.capacity first.base first.kept input.left input_observable disk_observable s now failed whole
  giving-ends now source reader mirror report failed whole law h all =
      gives-of disk_observable first.capacity first.base first.kept s input.left input_observable h.offers now
      mirror.kept failed whole
      law
      (reads-offers input_observable detailed first.capacity first.base first.kept input.left h.offers reader source
      mirror.kept report
      h.amid)
      all
      (has-answered input_observable detailed first.capacity first.base first.kept input.left h.offers reader source
      mirror.kept report
      h.amid)
      h.taking (λ observable. (h.usable.stands observable).payloads)

  -- the next offer was read
  module _ (now : DiskState) (source rest : SourceState) (reader after : PileState) (mirror : MirrorValue)
      (report : Report)
      (h : IsGiving input_observable disk_observable detailed first s now input source reader mirror report)
      (offer : Offer) (used : after.used ≡ reader.used + length (used_text reader.used (Ok (Some offer))))
      (begins : input_observable → IsPileAnswer reader.used reader.limit (unused reader source) (Ok (Some offer)))
      (stays : input_observable → unused reader source ≡ used_text reader.used (Ok (Some offer)) ++ unused after rest)
      (limit : after.limit ≡ reader.limit) (bound : after.used ≤ after.limit) where
    read : input_observable → HasRead input.left (h.offers ++ offer ∷ []) after.used (unused after rest)
    read = next-read input_observable detailed first.capacity first.base first.kept input.left h.offers reader after
        source rest mirror.kept report offer h.amid used begins stays

    pub reads-next : input_observable → ReadsOffers input.left (h.offers ++ offer ∷ [])
    reads-next observable = record {
      used = after.used;
      bytes = unused after rest;
      read = read observable;
      within = omega (arith, bound, limit, h.amid.limit);
    }

    -- and the mirror answered it
    pub giving-next : (later : DiskState) (left : MirrorValue) (added : Report) (answer : MirrorAnswer)
        → after.refusal ≡ None → IsOffer offer → IsReportable answer
        → IsAnswerWithin mirror.capacity mirror.base mirror.kept offer.address offer.bytes answer left.kept
        → HasAdded report added offer.address answer → SameMirror mirror left → IsUsable disk_observable later left
        → (disk_observable → IsAtRest now mirror.kept
        → AlwaysLeaves now later MirrorArea (IsOfferStep mirror offer.address offer.bytes))
        → (disk_observable → IsAtRest now mirror.kept → IsAtRest later left.kept)
        → ((a : Area) → a ≢ MirrorArea → LeavesAlone now later a) → later.faults ≡ now.faults
        → rest.faults ≡ source.faults
        → IsGiving input_observable disk_observable detailed first s later input rest after left added
    giving-next later left added answer fresh is fits answered has same usable moments rests others faults
        input_faults =
        let within : IsAnswerWithin first.capacity first.base mirror.kept offer.address offer.bytes answer left.kept =
        subst (λ (b : List ℕ). IsAnswerWithin first.capacity b mirror.kept offer.address offer.bytes answer left.kept)
        h.same.base
        (subst (λ (c : ℕ). IsAnswerWithin c mirror.base mirror.kept offer.address offer.bytes answer left.kept)
        h.same.capacity answered) in
        record {
          offers = h.offers ++ offer ∷ [];
          amid = amid-next input_observable detailed first.capacity first.base first.kept input.left h.offers reader
              after source rest mirror.kept left.kept report added offer answer h.amid fresh limit bound used is read
              fits within has;
          taking = taking-next disk_observable first.capacity first.base first.kept s h.offers offer mirror now
              later h.same.base
              h.same.capacity
              (has-answered input_observable detailed first.capacity first.base first.kept input.left h.offers reader
              source mirror.kept
              report h.amid)
              h.taking moments answer left.kept within rests;
          usable = usable;
          same = record { base = same.base ∙ h.same.base; capacity = same.capacity ∙ h.same.capacity };
          others = λ a other. alone_joins s now later a (h.others a other) (others a other);
          disk_faults = faults ∙ h.disk_faults;
          input_faults = input_faults ∙ h.input_faults;
        }

    -- and a device call failed
    pub giving-failed : (later : DiskState) (failed whole : Type 0) → failed → ¬ whole
        → IsTakeable mirror.capacity mirror.base mirror.kept offer.address offer.bytes
        → (disk_observable → IsAtRest now mirror.kept
        → AlwaysLeaves now later MirrorArea (IsOfferStep mirror offer.address offer.bytes))
        → GivesOffers first.capacity first.base first.kept input.left input_observable disk_observable s later failed
        whole
    giving-failed later failed whole is part takeable moments =
        gives-failed disk_observable first.capacity first.base first.kept s input.left input_observable h.offers offer
        later mirror.kept failed whole is part
        (subst (λ (b : List ℕ). IsTakeable first.capacity b mirror.kept offer.address offer.bytes) h.same.base
        (subst (λ (c : ℕ). IsTakeable c mirror.base mirror.kept offer.address offer.bytes) h.same.capacity takeable))
        reads-next
        (has-answered input_observable detailed first.capacity first.base first.kept input.left h.offers reader source
        mirror.kept report
        h.amid)
        (taking-images disk_observable first.capacity first.base first.kept s h.offers offer mirror now later
        h.same.base h.same.capacity
        (has-answered input_observable detailed first.capacity first.base first.kept input.left h.offers reader source
        mirror.kept report
        h.amid)
        h.taking moments)

    -- and the area has no room for it
    pub giving-full : (address bytes : List ℕ) (size needed most : ℕ) → address ≡ offer.address → bytes ≡ offer.bytes
        → IsAnswerWithin mirror.capacity mirror.base mirror.kept address bytes
        (Err (NoRoom size needed most)) mirror.kept
        → input_observable
        → IsMirrored detailed first.capacity first.base first.kept input.left
        (fault_answer (full_fault size needed most))
    giving-full address bytes size needed most same_address same_bytes full observable =
        let answer : MirrorAnswer = Err (NoRoom size needed most) in
        let most_is : most ≡ first.capacity =
        full-capacity mirror.capacity mirror.base mirror.kept address bytes mirror.kept size needed most full
        ∙ h.same.capacity in
        let within : IsAnswerWithin first.capacity first.base mirror.kept offer.address offer.bytes answer mirror.kept =
        subst (λ (b : List ℕ). IsAnswerWithin first.capacity b mirror.kept offer.address offer.bytes answer mirror.kept)
        h.same.base
        (subst (λ (c : ℕ). IsAnswerWithin c mirror.base mirror.kept offer.address offer.bytes answer mirror.kept)
        h.same.capacity
        (subst (λ (a : List ℕ). IsAnswerWithin mirror.capacity mirror.base mirror.kept a offer.bytes answer mirror.kept)
        same_address
        (subst (λ (x : List ℕ). IsAnswerWithin mirror.capacity mirror.base mirror.kept address x answer mirror.kept)
        same_bytes full))) in
        subst (λ (n : ℕ).
        IsMirrored detailed first.capacity first.base first.kept input.left (fault_answer (full_fault size needed n)))
        (sym most_is)
        (mirrored-full input_observable detailed first.capacity first.base first.kept input.left h.offers reader source
        mirror.kept report
        h.amid offer size needed (reads-next observable)
        (subst (λ (n : ℕ). IsAnswerWithin first.capacity first.base mirror.kept offer.address offer.bytes
        (Err (NoRoom size needed n)) mirror.kept) most_is within))

    -- and a fault ended the offers
    pub giving-fault : (later : DiskState) (fault : Fault) (failed whole : Type 0) → MayEndOffer fault
        → (fault ≡ Disk → failed) → (failed → fault ≡ Disk)
        → (fault ≡ Disk → IsTakeable mirror.capacity mirror.base mirror.kept offer.address offer.bytes) → ¬ whole
        → BegunAreWhole
        → (disk_observable → IsAtRest now mirror.kept
        → AlwaysLeaves now later MirrorArea (IsOfferStep mirror offer.address offer.bytes))
        → (fault ≢ Disk
        → GivesOffers first.capacity first.base first.kept input.left input_observable disk_observable s now failed
        whole
        → GivesOffers first.capacity first.base first.kept input.left input_observable disk_observable s later failed
        whole)
        → GivesOffers first.capacity first.base first.kept input.left input_observable disk_observable s later failed
        whole
    giving-fault later Disk failed whole may is back takes part law moments same =
        giving-failed later failed whole (is refl) part (takes refl) moments
    giving-fault later NoMemory failed whole may is back takes part law moments same =
        same (λ e. cc) (giving-ends now source reader mirror report failed whole law h
        (unended part (λ f. let e = back f in cc)))
    giving-fault later (Full area size needed most) failed whole may is back takes part law moments same =
        same (λ e. cc) (giving-ends now source reader mirror report failed whole law h
        (unended part (λ f. let e = back f in cc)))
    giving-fault later Input failed whole may is back takes part law moments same = absurd may
    giving-fault later (BadStore bad) failed whole may is back takes part law moments same = absurd may
    giving-fault later (Refused refusal) failed whole may is back takes part law moments same = absurd may

-- no offer was given
pub gives-none : (input_observable disk_observable : Type 0) (first : MirrorValue) (s : DiskState) (input : List ℕ)
    (failed whole : Type 0) → BegunAreWhole → IsUsable disk_observable s first
    → IsLoadedOf first.base (payloads_of first.kept) first.kept → ¬ whole → ¬ failed
    → GivesOffers first.capacity first.base first.kept input input_observable disk_observable s s failed whole
gives-none input_observable disk_observable first s input failed whole law usable loaded part well =
    let payloads = λ (observable : disk_observable). (usable.stands observable).payloads in
    gives-of disk_observable first.capacity first.base first.kept s input input_observable [] s first.kept failed whole
    law (λ _. record {
      used = 0;
      bytes = input;
      read = record { are = All-nil IsOffer; whole = refl; counted = refl };
      within = omega (arith);
    })
    (unended part well) (record { answers = []; answered = refl })
    (taking-start disk_observable first.capacity first.base first.kept s law loaded payloads) payloads
