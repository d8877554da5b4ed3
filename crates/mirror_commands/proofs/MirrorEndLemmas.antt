-- How `mirror` and `mirror --fetch` end, by their report or by their fault.
use Rattle.std.proofs.Common.{◌≡◌, ◌⊎◌, inl, inr, ℕ, List, Bool, Option, Err, Result, IsOk}
use Rattle.std.proofs.Common.{refl, sym, ap, subst}
use Rattle.std.proofs.Common.{◌∙◌, map, arith}
use Rattle.doc_source.specs.Outside.{SinkState, SourceState}
use Rattle.doc_source.specs.declared.offer.Offer.{Offer}
use Rattle.feed_disk.specs.Disk.{DiskState}
use Rattle.feed_disk.specs.declared.area.Area.{Area}
use Rattle.feed_disk.specs.declared.area.Area.TheVariants.{Mirror as MirrorArea}
use Rattle.feed_journal.specs.Records.{records}
use Rattle.member_rules.specs.Head.{HeadValue}
use Rattle.member_rules.specs.declared.operation.Op.{Op}
use Rattle.mirror_walk.specs.Holding.{KeptValue}
use Rattle.mirror_walk.specs.Listing.{outcome_of}
use Rattle.mirror_walk.specs.Loaded.{IsLoadedOf}
use Rattle.mirror_walk.specs.Offers.{AreServed}
use Rattle.mirror_walk.specs.Walk.{IsServedBy, WalkEnding}
use Rattle.mirror_walk.specs.declared.answer.Outcome.{Outcome}
use Rattle.mirror_walk.specs.declared.answer.Outcome.TheVariants.{Complete, Missing}
use Rattle.mirror_walk.specs.declared.mirror_fault.MirrorFault.{MirrorFault}
use Rattle.mirror_walk.specs.declared.mirror_fault.MirrorFault.TheVariants as loads
use Rattle.mirror_walk.proofs.LoadLemmas.{loads-without}
use Rattle.mirror_walk.proofs.TakenLemmas.{loaded-once}
use Rattle.mirror_commands.specs.declared.printed.Printed.{Printed}
use Rattle.mirror_commands.specs.declared.report.Report.{Report}
use Rattle.mirror_commands.specs.declared.report_fault.ReportFault.{ReportFault}
use Rattle.mirror_commands.specs.declared.report_fault.ReportFault.TheVariants.{Fetch, OtherBase, Other}
use Rattle.command_ends.specs.declared.fault.Fault.TheVariants.{NoMemory, Input, Disk, BadStore, Full, Refused}
use Rattle.command_ends.specs.declared.status.Status.{Status}
use Rattle.command_ends.specs.declared.status.Status.TheVariants as ends
use Rattle.command_ends.specs.Answer.{Answer, Prints}
use Rattle.mirror_commands.specs.FetchEnds.{EndsFetched, EndsWalkBy, IsWalkEnd, IsWalkAnswer, IsWalkedReport, MayEndFetched}
use Rattle.mirror_commands.specs.Mirror.{IsMirrored, IsReport, offering}
use Rattle.mirror_commands.specs.MirrorCrash.{IsAfterLoad, LeavesFetched, LeavesMirror, LeavesMirrored}
use Rattle.mirror_commands.specs.MirrorEnds.{GivesOf, IsLater, IsPileEnd, IsPileAnswer, IsPileReport, MayEndMirror}
use Rattle.mirror_commands.specs.MirrorFaults.{IsBadMirror, IsHeldIn, IsReportRefusal, mirror_fault, report_answer}
use Rattle.mirror_commands.specs.Mirroring.{EndsWalkAt, HoldsServed}
use Rattle.mirror_commands.specs.Report.{EndsReport, status_of}
use Rattle.command_ends.specs.Ends.{IsDone}
use Rattle.mirror_commands.specs.Served.{EndsServed, IsPileOf, IsReported}
use Rattle.command_ends.specs.Status.{code_of}
use Rattle.mirror_commands.specs.Walked.{IsFetched, IsWalkReport}
use Rattle.mirror_commands.proofs.LoadedLemmas.{ending-weaker, fetched-weaker, leaves-weaker, mirrored-weaker}
use Rattle.mirror_commands.proofs.OneFetchedLemmas.{fetched-once}
use Rattle.mirror_commands.proofs.OneMirroredLemmas.{mirrored-once}
use Rattle.mirror_commands.proofs.ServedReportLemmas.{served-report}
use Rattle.mirror_commands.proofs.TakingLemmas.{held-weaker}
use Rattle.mirror_commands.proofs.WalkEndLemmas.{refusal-over}
use Rattle.mirror_commands.proofs.WalkedReportLemmas.{walked-report}

-- the exit statuses after a report

pub outcome-done : (outcome : Outcome) → IsDone (code_of (status_of outcome))
outcome-done (Missing address) = inr refl
outcome-done (Complete version live) = inl refl

pub report-done : (observable : Type 0) (base : List ℕ) (made : Report) (kept : List KeptValue) (given : Answer)
    → EndsReport observable base made kept given → IsDone (code_of given.status)
report-done observable base made kept given ends =
    subst (λ (status : Status). IsDone (code_of status)) (sym ends.status) (outcome-done (outcome_of kept))

pub printed-mirror : (status : Status) (ended : ℕ) → IsDone (code_of status)
    → (ended ≡ code_of status) ⊎ (ended ≡ code_of ends.OutputFault) → MayEndMirror ended
printed-mirror status ended (inl done) (inl is) = inl (is ∙ done)
printed-mirror status ended (inr done) (inl is) = inr (inl (is ∙ done))
printed-mirror status ended done (inr is) = inr (inr (inr (inr (inr (inl is)))))

pub printed-fetched : (status : Status) (ended : ℕ) → IsDone (code_of status)
    → (ended ≡ code_of status) ⊎ (ended ≡ code_of ends.OutputFault) → MayEndFetched ended
printed-fetched status ended (inl done) (inl is) = inl (is ∙ done)
printed-fetched status ended (inr done) (inl is) = inr (inl (is ∙ done))
printed-fetched status ended done (inr is) = inr (inr (inr (inr (inr (inr (inl is))))))

-- none of these statuses is that of a fault
pub printed-never : (n : ℕ) (status : Status) (ended : ℕ) → (n ≡ 0 → ⊥) → (n ≡ 3 → ⊥) → (n ≡ 8 → ⊥)
    → IsDone (code_of status) → (ended ≡ code_of status) ⊎ (ended ≡ code_of ends.OutputFault) → ended ≡ n → ⊥
printed-never n status ended zero three eight (inl done) (inl is) same = zero (sym same ∙ is ∙ done)
printed-never n status ended zero three eight (inr done) (inl is) same = three (sym same ∙ is ∙ done)
printed-never n status ended zero three eight done (inr is) same = eight (sym same ∙ is)

-- an area that loads isn't bad
pub bad-unheld : (base : List ℕ) (content : Area → List ℕ) (kept : List KeptValue) (given : Answer)
    → IsHeldIn base content kept → IsBadMirror base content given → ⊥
bad-unheld base content kept given held bad = of bad.fault bad.refuses
    (loads-without base (records (content MirrorArea)) kept held bad.fault bad.is)
  where
    of : (fault : MirrorFault) → IsReportRefusal (mirror_fault fault)
        → (fault ≡ loads.DiskFault) ⊎ (fault ≡ loads.NoMemory) → ⊥
    of (loads.OtherBase other) refuses (inl e) = cc
    of (loads.OtherBase other) refuses (inr e) = cc
    of (loads.BadRecord index at) refuses (inl e) = cc
    of (loads.BadRecord index at) refuses (inr e) = cc
    of loads.DiskFault refuses is = refuses
    of loads.NoMemory refuses is = refuses

-- the answers by a pile and by a source are the one answer of what the area loads to

pub pile-same : (report : Bool) (capacity : ℕ) (base : List ℕ) (content : Area → List ℕ) (input : List ℕ)
    (one other : Answer)
    (kept : List KeptValue) → IsPileEnd report capacity base content input one → IsHeldIn base content kept
    → IsMirrored report capacity base kept input other → one ≡ other
pile-same report capacity base content input one other kept p held q =
    let same = loaded-once base (records (content MirrorArea)) p.kept kept p.loaded held in
    mirrored-once report capacity base kept input one other
    (subst (λ (ks : List KeptValue). IsMirrored report capacity base ks input one) same p.is) q

pub walk-same : (report : Bool) (capacity : ℕ) (base : List ℕ) (content : Area → List ℕ)
    (answers : List ℕ → Option (List ℕ))
    (one other : Answer) (kept : List KeptValue) → IsWalkEnd report capacity base content answers one
    → IsHeldIn base content kept → IsFetched report capacity base kept answers other → one ≡ other
walk-same report capacity base content answers one other kept p held q =
    let same = loaded-once base (records (content MirrorArea)) p.kept kept p.loaded held in
    fetched-once report capacity base kept answers one other
    (subst (λ (ks : List KeptValue). IsFetched report capacity base ks answers one) same p.is) q

-- without a failed call the status of a fault is that of the answer, or memory ran out
pub fault-complete : (fault : ReportFault) (given : Answer) → (IsReportRefusal fault → report_answer fault ≡ given)
    → (fault ≡ Other Disk → ⊥) → (fault ≡ Other Input → ⊥) → (fault ≡ Fetch → ⊥)
    → (code_of (report_answer fault).status ≡ code_of given.status)
    ⊎ (code_of (report_answer fault).status ≡ code_of ends.NoMemory)
fault-complete Fetch given same disk input fetch = absurd (fetch refl)
fault-complete (OtherBase base) given same disk input fetch = inl (ap (λ (a : Answer). code_of a.status) (same tt))
fault-complete (Other NoMemory) given same disk input fetch = inr refl
fault-complete (Other Input) given same disk input fetch = absurd (input refl)
fault-complete (Other Disk) given same disk input fetch = absurd (disk refl)
fault-complete (Other (BadStore bad)) given same disk input fetch =
    inl (ap (λ (a : Answer). code_of a.status) (same tt))
fault-complete (Other (Full area size needed capacity)) given same disk input fetch =
    inl (ap (λ (a : Answer). code_of a.status) (same tt))
fault-complete (Other (Refused refusal)) given same disk input fetch =
    inl (ap (λ (a : Answer). code_of a.status) (same tt))

pub pile-refused : (report : Bool) (capacity : ℕ) (base : List ℕ) (content : Area → List ℕ) (input : List ℕ)
    (one other : Answer)
    (kept : List KeptValue) → IsPileAnswer report capacity base content input one → IsHeldIn base content kept
    → IsMirrored report capacity base kept input other → one ≡ other
pile-refused report capacity base content input one other kept (inl end) held q =
    pile-same report capacity base content input one other kept end held q
pile-refused report capacity base content input one other kept (inr bad) held q =
    absurd (bad-unheld base content kept one held bad)

pub walk-refused-same : (report : Bool) (capacity : ℕ) (base : List ℕ) (content : Area → List ℕ)
    (answers : List ℕ → Option (List ℕ))
    (one other : Answer) (kept : List KeptValue) → IsWalkAnswer report capacity base content answers one
    → IsHeldIn base content kept → IsFetched report capacity base kept answers other → one ≡ other
walk-refused-same report capacity base content answers one other kept (inl end) held q =
    walk-same report capacity base content answers one other kept end held q
walk-refused-same report capacity base content answers one other kept (inr bad) held q =
    absurd (bad-unheld base content kept one held bad)

-- the report or the certificate of documents that one feed served

pub pile-served : (report : Bool) (capacity : ℕ) (base : List ℕ) (before : DiskState) (input : List ℕ) (answer : Answer)
    (head : HeadValue) (history : List Op) (kept : List KeptValue) (offers : List Offer) (observable : Type 0)
    (output taken : SinkState) (ended : ℕ) → IsPileReport report capacity base before.content input answer
    → HoldsServed base before head history kept → IsPileOf offers input → AreServed head history (map offering offers)
    → (ended ≡ code_of answer.status) ⊎ (ended ≡ code_of ends.OutputFault)
    → (observable → Prints output taken answer.printed)
    → EndsServed report head history kept (map offering offers) observable output taken ended
pile-served report capacity base before input answer head history kept offers observable output taken ended shown holds
    pile served status prints =
    let payloads = records (before.content MirrorArea) in
    let same = loaded-once base payloads shown.kept kept shown.loaded holds.loaded in
    let loaded = subst (λ (b : List ℕ). IsLoadedOf b payloads kept) holds.base_is holds.loaded in
    let is = subst (λ (ks : List KeptValue). IsReport report capacity head.name.base ks input answer) same
    (subst (λ (b : List ℕ). IsReport report capacity b shown.kept input answer) holds.base_is shown.is) in
    record {
      answer = answer;
      is = served-report report head history kept payloads loaded holds.served capacity input answer offers is pile
          served;
      status = status;
      prints = prints;
    }

pub walk-served : (report : Bool) (capacity : ℕ) (base : List ℕ) (before : DiskState)
    (answers : List ℕ → Option (List ℕ))
    (answer : Answer) (head : HeadValue) (history : List Op) (kept : List KeptValue) (observable : Type 0)
    (output taken : SinkState) (ended : ℕ) → IsWalkedReport report capacity base before.content answers answer
    → HoldsServed base before head history kept → IsServedBy head history answers
    → (ended ≡ code_of answer.status) ⊎ (ended ≡ code_of ends.OutputFault)
    → (observable → Prints output taken answer.printed)
    → EndsFetched report capacity head history kept answers observable output taken ended
walk-served report capacity base before answers answer head history kept observable output taken ended shown holds served
    status prints =
    let payloads = records (before.content MirrorArea) in
    let same = loaded-once base payloads shown.kept kept shown.loaded holds.loaded in
    let loaded = subst (λ (b : List ℕ). IsLoadedOf b payloads kept) holds.base_is holds.loaded in
    let is = subst (λ (ks : List KeptValue). IsWalkReport report capacity head.name.base ks answers answer) same
    (subst (λ (b : List ℕ). IsWalkReport report capacity b shown.kept answers answer) holds.base_is shown.is) in
    record {
      asked = is.asked;
      accepted = is.accepted;
      left = is.left;
      ending = is.ending;
      walks = is.walks;
      over = refusal-over is.asked is.ending is.walked.refused is.is_walked.refusal;
      ends = record {
        answer = answer;
        is = walked-report report head history kept payloads loaded holds.served capacity answers answer is served;
        status = status;
        prints = prints;
      };
    }

-- the images that a crash leaves, by the exit status

module _ (before after : DiskState) (ended : ℕ) where
  pub pile-left : (capacity : ℕ) (base input : List ℕ) (result : Result Printed ReportFault)
      → LeavesMirror before after (IsLater result)
      (LeavesMirrored capacity base input before after (result ≡ Err (Other Disk)) (IsOk result))
      → (IsAfterLoad ended → IsLater result) → (result ≡ Err (Other Disk) → ended ≡ code_of ends.DiskFault)
      → (IsReported ended → IsOk result)
      → LeavesMirror before after (IsAfterLoad ended)
      (LeavesMirrored capacity base input before after (ended ≡ code_of ends.DiskFault) (IsReported ended))
  pile-left capacity base input result leaves later failed reported =
      leaves-weaker before after (IsLater result) (IsAfterLoad ended)
      (LeavesMirrored capacity base input before after (result ≡ Err (Other Disk)) (IsOk result))
      (LeavesMirrored capacity base input before after (ended ≡ code_of ends.DiskFault) (IsReported ended)) later
      (mirrored-weaker capacity base input before after (result ≡ Err (Other Disk)) (ended ≡ code_of ends.DiskFault)
      (IsOk result) (IsReported ended) failed reported) leaves

  -- the offers that were given, by the exit status
  pub pile-gave : (capacity : ℕ) (base : List ℕ) (content : Area → List ℕ) (input rest : SourceState)
      (result : Result Printed ReportFault)
      → GivesOf capacity base content input rest (result ≡ Err (Other Disk)) (IsOk result)
      → (result ≡ Err (Other Disk) → ended ≡ code_of ends.DiskFault)
      → (ended ≡ code_of ends.DiskFault → result ≡ Err (Other Disk)) → (IsReported ended → IsOk result)
      → GivesOf capacity base content input rest (ended ≡ code_of ends.DiskFault) (IsReported ended)
  pile-gave capacity base content input rest result (inl same) failed fails reported = inl same
  pile-gave capacity base content input rest result (inr given) failed fails reported = inr
      (held-weaker capacity base content input.left (result ≡ Err (Other Disk)) (ended ≡ code_of ends.DiskFault)
      (IsOk result) (IsReported ended) failed (λ e. elim e [ inl is ↦ inl (reported is) | inr is ↦ inr (fails is) ])
      reported given)

  -- the end of a walk, by the exit status
  pub walk-ending : (result : Result Printed ReportFault) → (IsReported ended → IsOk result)
      → (ended ≡ code_of ends.FetchFault → result ≡ Err Fetch)
      → (ended ≡ code_of ends.DiskFault → result ≡ Err (Other Disk))
      → (ending : WalkEnding) → EndsWalkBy result ending → EndsWalkAt ended ending
  walk-ending result reported source device =
      ending-weaker (IsOk result) (IsReported ended) (result ≡ Err Fetch) (ended ≡ code_of ends.FetchFault)
      (result ≡ Err (Other Disk)) (ended ≡ code_of ends.DiskFault) reported source device

  pub walk-left : (capacity : ℕ) (base : List ℕ) (answers : List ℕ → Option (List ℕ))
      (result : Result Printed ReportFault)
      → LeavesMirror before after (IsLater result)
      (LeavesFetched capacity base answers before after (result ≡ Err (Other Disk)) (EndsWalkBy result))
      → (IsAfterLoad ended → IsLater result) → (result ≡ Err (Other Disk) → ended ≡ code_of ends.DiskFault)
      → ((ending : WalkEnding) → EndsWalkBy result ending → EndsWalkAt ended ending)
      → LeavesMirror before after (IsAfterLoad ended)
      (LeavesFetched capacity base answers before after (ended ≡ code_of ends.DiskFault) (EndsWalkAt ended))
  walk-left capacity base answers result leaves later failed ending =
      leaves-weaker before after (IsLater result) (IsAfterLoad ended)
      (LeavesFetched capacity base answers before after (result ≡ Err (Other Disk)) (EndsWalkBy result))
      (LeavesFetched capacity base answers before after (ended ≡ code_of ends.DiskFault) (EndsWalkAt ended)) later
      (fetched-weaker capacity base answers before after (result ≡ Err (Other Disk)) (ended ≡ code_of ends.DiskFault)
      (EndsWalkBy result) (EndsWalkAt ended) failed ending) leaves

-- the status of the failed disk
pub disk-code : (fault : ReportFault) (ended : ℕ) → ended ≡ code_of (report_answer fault).status
    → fault ≡ Other Disk → ended ≡ code_of ends.DiskFault
disk-code fault ended is same = is ∙ ap (λ (f : ReportFault). code_of (report_answer f).status) same
