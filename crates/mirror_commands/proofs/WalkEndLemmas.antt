-- `mirror --fetch`: how a walk of the mirror ended, and its report.
use Rattle.std.proofs.Common.{◌≡◌, ◌≢◌, inl, inr, ℕ, List, [], ◌∷◌, ◌++◌, Bool, false, Option, Some, None}
use Rattle.std.proofs.Common.{Result, Ok, Err, refl, sym, ap}
use Rattle.std.proofs.Common.{ap₂, subst, ◌∙◌}
use Rattle.chain_links.specs.Address.{printed}
use Rattle.chain_links.specs.declared.address.Address.{Address}
use Rattle.chain_links.specs.declared.address.Address.TheVariants.{Feed}
use Rattle.doc_source.specs.Fetch.{FetchState}
use Rattle.feed_disk.specs.Disk.{DiskState}
use Rattle.feed_disk.specs.Moments.{AlwaysLeaves, LeavesAlone}
use Rattle.feed_disk.specs.declared.area.Area.TheVariants.{Mirror as MirrorArea}
use Rattle.feed_disk.proofs.MomentLemmas.{alone_leaves, always_joins}
use Rattle.feed_journal.specs.Laws.{BegunAreWhole}
use Rattle.feed_journal.specs.Records.{records}
use Rattle.mirror_walk.specs.Holding.{KeptValue, first_missing, payloads_of}
use Rattle.mirror_walk.specs.Listing.{outcome_of}
use Rattle.mirror_walk.specs.Loaded.{IsLoadedOf}
use Rattle.mirror_walk.specs.Mirror.{IsAtRest}
use Rattle.mirror_walk.specs.Walk.{HasRefusal, HasWalked, IsWalkResult, IsWalkStep, WalkEnding, WalkSetting, Walks}
use Rattle.mirror_walk.specs.Walk.WalkEnding.{nothing_wanted, not_there, refused, fetch_failed, filled}
use Rattle.mirror_walk.specs.Walk.WalkEnding.{cut_short, disk_failed}
use Rattle.mirror_walk.specs.declared.answer.Accepted.{Accepted}
use Rattle.mirror_walk.specs.declared.walk.Refusal.{Refusal}
use Rattle.mirror_walk.specs.declared.walk.WalkFault.{WalkFault}
use Rattle.mirror_walk.specs.declared.walk.WalkFault.TheVariants as faults
use Rattle.mirror_walk.specs.declared.walk.Walked.{Walked}
use Rattle.mirror_walk.proofs.StepLemmas.{rest-loads}
use Rattle.mirror_walk.proofs.WalkServedLemmas.{walks-loaded}
use Rattle.mirror_commands.specs.declared.report.Counts.{Counts}
use Rattle.mirror_commands.specs.declared.report.Report.{Report}
use Rattle.mirror_commands.specs.declared.report_fault.ReportFault.{ReportFault}
use Rattle.mirror_commands.specs.declared.report_fault.ReportFault.TheVariants.{Fetch, Other}
use Rattle.command_ends.specs.Answer.{Answer}
use Rattle.mirror_commands.specs.FetchEnds.{AsksOfMirror, EndsWalkBy, GoesWalk}
use Rattle.mirror_commands.specs.MirrorFaults.{IsReportRefusal, report_answer, walk_fault}
use Rattle.mirror_commands.specs.Report.{EndsReport, ending_in, status_of, walk_counts, walk_line_in, walk_report}
use Rattle.mirror_commands.specs.Walked.{IsFetched, IsOver, IsWalkReport, walk_setting}
use Rattle.mirror_commands.proofs.AnswersLemmas.{full-capacity}
use Rattle.mirror_commands.proofs.GivingLemmas.{not-ok}

-- the capacity of a walk that ended at a document without room is the mirror's
pub filled-capacity : (setting : WalkSetting) (asked : List Address) (accepted : List Accepted)
    (kept left : List KeptValue) (next : Option Address) (size needed most : ℕ)
    → Walks setting kept next asked accepted left (filled size needed most) → most ≡ setting.capacity
filled-capacity setting [] [] kept left next size needed most walks = absurd walks.1
filled-capacity setting [] (answer ∷ accepted) kept left next size needed most walks = absurd walks
filled-capacity setting (address ∷ asked) [] kept left next size needed most (is, none, same, ends) =
    full-capacity setting.capacity setting.base kept (printed setting.base address) ends.bytes kept size needed most
    ends.answered
filled-capacity setting (address ∷ asked) (answer ∷ accepted) kept left next size needed most
    (is, (after, answered, walks)) =
    filled-capacity setting asked accepted after left (first_missing after) size needed most walks

-- a walk with a result has come to its end
pub refusal-over : (asked : List Address) (ended : WalkEnding) (refusal : Option Refusal)
    → HasRefusal asked ended refusal → IsOver ended
refusal-over asked nothing_wanted refusal has = tt
refusal-over asked not_there refusal has = tt
refusal-over asked (refused why) refusal has = tt
refusal-over asked fetch_failed refusal has = absurd has
refusal-over asked (filled size needed capacity) refusal has = absurd has
refusal-over asked disk_failed refusal has = absurd has
refusal-over asked cut_short refusal has = absurd has

-- and one with a fault, by the fault
pub fault-ends : {T : Type 0} (asked : List Address) (accepted : List Accepted) (left : List KeptValue)
    (ending : WalkEnding) (fault : WalkFault) (result : Result T ReportFault)
    → IsWalkResult asked accepted left ending (Err fault) → result ≡ Err (walk_fault fault) → EndsWalkBy result ending
fault-ends asked accepted left ending faults.FetchFault result is same = record {
  over = λ whole. absurd (not-ok result _ same whole);
  at_source = λ e. is;
  at_device = λ e. let other = sym same ∙ e in cc;
}
fault-ends asked accepted left ending (faults.Full size needed most) result is same = record {
  over = λ whole. absurd (not-ok result _ same whole);
  at_source = λ e. let other = sym same ∙ e in cc;
  at_device = λ e. let other = sym same ∙ e in cc;
}
fault-ends asked accepted left ending faults.DiskFault result is same = record {
  over = λ whole. absurd (not-ok result _ same whole);
  at_source = λ e. let other = sym same ∙ e in cc;
  at_device = λ e. inl is;
}
fault-ends asked accepted left ending faults.NoMemory result is same = record {
  over = λ whole. absurd (not-ok result _ same whole);
  at_source = λ e. let other = sym same ∙ e in cc;
  at_device = λ e. let other = sym same ∙ e in cc;
}

-- after the walk's end no call of the source is made
pub over-ends : {T : Type 0} (ending : WalkEnding) (result : Result T ReportFault) → IsOver ending
    → (result ≡ Err Fetch → ⊥) → EndsWalkBy result ending
over-ends ending result over never = record {
  over = λ whole. over;
  at_source = λ e. absurd (never e);
  at_device = λ e. inr over;
}

module _ (capacity : ℕ) (base : List ℕ) (kept now : List KeptValue) (before after : FetchState)
    (result : Result Walked WalkFault)
    (went : HasWalked (walk_setting capacity base before.answers) kept now before.asked after.asked result) where
  pub walk-asks : (IsEnding : WalkEnding → Type 0) → IsEnding went.ending
      → AsksOfMirror capacity base kept before after IsEnding
  walk-asks IsEnding ends = record {
    asked = went.asked;
    accepted = went.accepted;
    left = went.held;
    ending = went.ending;
    walks = went.walks;
    ends = ends;
    addresses = went.addresses;
  }

  -- the disk of the walk
  pub walk-goes : (s m t : DiskState) (failed : Type 0) (IsEnding : WalkEnding → Type 0) → BegunAreWhole
      → IsLoadedOf base (payloads_of kept) kept
      → (IsAtRest s kept → AlwaysLeaves s m MirrorArea (IsWalkStep (walk_setting capacity base before.answers) kept))
      → (result ≡ Err faults.DiskFault → failed) → IsEnding went.ending
      → (result ≢ Err faults.DiskFault → records (m.content MirrorArea) ≡ payloads_of now)
      → (result ≢ Err faults.DiskFault → IsAtRest s kept → IsAtRest m now) → LeavesAlone m t MirrorArea
      → GoesWalk capacity base kept before.answers s t failed IsEnding
  walk-goes s m t failed IsEnding law loaded moments fails ends payloads rests later = record {
    asked = went.asked;
    accepted = went.accepted;
    left = went.held;
    ending = went.ending;
    walks = went.walks;
    ends = ends;
    images = λ rest.
        let images = moments rest in
        always_joins s m t MirrorArea (IsWalkStep (walk_setting capacity base before.answers) kept) images
        (alone_leaves m t MirrorArea (IsWalkStep (walk_setting capacity base before.answers) kept) images.now later);
    now = λ none rest image may.
        let worked : result ≢ Err faults.DiskFault = λ e. none (fails e) in
        let same = went.left worked in
        let held = walks-loaded (walk_setting capacity base before.answers) went.asked went.accepted kept went.held
        (Some Feed) went.ending went.walks loaded in
        rest-loads law base went.held held m
        (payloads worked ∙ ap payloads_of same)
        (subst (IsAtRest m) same (rests worked rest)) image (later.now image may);
  }

-- the walk ended by a fault
walk-fault-of : (report : Bool) (capacity : ℕ) (base : List ℕ) (kept now : List KeptValue)
    (answers : List ℕ → Option (List ℕ))
    (before after : List (List ℕ)) (fault : WalkFault)
    → HasWalked (walk_setting capacity base answers) kept now before after (Err fault)
    → IsReportRefusal (walk_fault fault) → IsFetched report capacity base kept answers
    (report_answer (walk_fault fault))
walk-fault-of report capacity base kept now answers before after faults.FetchFault went refusal = absurd refusal
walk-fault-of report capacity base kept now answers before after (faults.Full size needed most) went refusal =
    let setting = walk_setting capacity base answers in
    let walks = subst (λ (e : WalkEnding). Walks setting kept (Some Feed) went.asked went.accepted went.held
    e) went.result
    went.walks in
    let same = filled-capacity setting went.asked went.accepted kept went.held (Some Feed) size needed most walks in
    subst (λ (c : ℕ). IsFetched report capacity base kept answers
    (report_answer (walk_fault (faults.Full size needed c))))
    (sym same) (inr record {
      asked = went.asked;
      accepted = went.accepted;
      left = went.held;
      size = size;
      needed = needed;
      walks = subst (λ (c : ℕ). Walks setting kept (Some Feed) went.asked went.accepted went.held
          (filled size needed c))
          same walks;
      is = refl;
    })
walk-fault-of report capacity base kept now answers before after faults.DiskFault went refusal = absurd refusal
walk-fault-of report capacity base kept now answers before after faults.NoMemory went refusal = absurd refusal

pub walk-refused : (report : Bool) (capacity : ℕ) (base : List ℕ) (kept now : List KeptValue)
    (answers : List ℕ → Option (List ℕ))
    (before after : List (List ℕ)) (fault : WalkFault)
    → HasWalked (walk_setting capacity base answers) kept now before after (Err fault)
    → IsReportRefusal (walk_fault fault) → IsFetched report capacity base kept answers
    (report_answer (walk_fault fault))
walk-refused = walk-fault-of

-- the report of a walk
pub walked-is : (report : Bool) (capacity : ℕ) (base : List ℕ) (kept now : List KeptValue)
    (answers : List ℕ → Option (List ℕ)) (asked later : List (List ℕ)) (walked : Walked) (made : Report)
    (given : Answer)
    → HasWalked (walk_setting capacity base answers) kept now asked later (Ok walked) → made.detailed ≡ report
    → made.text.items ≡ walk_line_in report base walked.refused → made.counts ≡ walk_counts walked
    → EndsReport (Unit {0}) base made now given → IsWalkReport report capacity base kept answers given
unfolding walk_report
walked-is report capacity base kept now answers asked later walked made given went form lines counts ends =
    let same : now ≡ went.held = went.left (λ e. cc) in
    let line = walk_line_in report base walked.refused in
    let printed : given.printed ≡ line ++ ending_in report base (walk_counts walked) went.held =
    ends.printed tt
    ∙ ap₂ (λ (bytes : List ℕ) (detailed : Bool). bytes ++ ending_in detailed base made.counts now) lines form
    ∙ ap₂ (λ (cs : Counts) (ks : List KeptValue). line ++ ending_in report base cs ks) counts same in
    let status_is : given.status ≡ status_of (outcome_of went.held) =
    ends.status ∙ ap (λ (ks : List KeptValue). status_of (outcome_of ks)) same in
    record {
      asked = went.asked;
      accepted = went.accepted;
      left = went.held;
      ending = went.ending;
      walks = went.walks;
      walked = walked;
      is_walked = went.result;
      is = λ i. record { status = status_is i; printed = printed i };
    }

-- without the report no line was added
line-left_out : (base : List ℕ) (refusal : Option Refusal) → walk_line_in false base refusal ≡ []
line-left_out base None = refl
line-left_out base (Some refusal) = refl

pub walk-lines : (report : Bool) (base : List ℕ) (walked : Walked) (made : Report) → made.detailed ≡ report
    → made.text.items ≡ walk_line_in report base walked.refused → made.detailed ≡ false → made.text.items ≡ []
walk-lines report base walked made form lines plain =
    lines ∙ ap (λ (detailed : Bool). walk_line_in detailed base walked.refused) (sym form ∙ plain)
    ∙ line-left_out base walked.refused
