-- A walk over any source, by what it answered: its answers so far and one more.
use Rattle.std.proofs.Common.{◌≡◌, ◌≢◌, inl, inr, ℕ, ◌+◌, ◌<◌, ◌≤◌, List, [], ◌∷◌, ◌++◌, Option, Some, None, Ok, Err}
use Rattle.std.proofs.Common.{All, Result, refl, sym, ap, subst, ◌∙◌, append_assoc, append-nil, arith, if◌then◌else◌}
use Rattle.std.specs.Str.{bytes_eq}
use Rattle.std.proofs.lemmas.Bool.{cond-false, cond-true, false_from_ne_true}
use Rattle.std.proofs.lemmas.List.Elements.{All-head, All-nil, All-push, All-tail, All-weaker}
use Rattle.std.proofs.lemmas.Slice.Eq.{bytes_eq-Decides}
use Rattle.chain_links.specs.Address.{IsAddress, printed}
use Rattle.chain_links.specs.declared.address.Address.{Address}
use Rattle.chain_links.specs.declared.address.Address.TheVariants.{Feed}
use Rattle.chain_links.proofs.AddressLemmas.{same_address}
use Rattle.doc_source.specs.Fetch.{FetchState}
use Rattle.feed_disk.specs.Disk.{DiskState}
use Rattle.feed_disk.specs.Moments.{AlwaysLeaves, LeavesOnly}
use Rattle.feed_disk.specs.declared.area.Area.TheVariants.{Mirror as MirrorArea}
use Rattle.feed_disk.proofs.MomentLemmas.{always_weaker, leaves_begin, leaves_join, leaves_weaker}
use Rattle.mirror_walk.specs.declared.answer.Accepted.{Accepted}
use Rattle.mirror_walk.specs.declared.answer.Accepted.TheVariants.{Taken}
use Rattle.mirror_walk.specs.declared.answer.Offered.{Offered}
use Rattle.mirror_walk.specs.declared.walk.Tally.{Tally}
use Rattle.mirror_walk.specs.declared.walk.Visits.{Visits}
use Rattle.mirror_walk.specs.declared.walk.Visit.{Visit}
use Rattle.mirror_walk.specs.declared.walk.Visit.TheVariants as visits
use Rattle.mirror_walk.specs.declared.walk.WalkFault.{WalkFault}
use Rattle.mirror_walk.specs.declared.walk.WalkFault.TheVariants as faults
use Rattle.mirror_walk.specs.Accept.{Answer}
use Rattle.mirror_walk.specs.Holding.{KeptValue, first_missing}
use Rattle.mirror_walk.specs.Mirror.{IsAtRest, KeepsSetting, MirrorValue}
use Rattle.mirror_walk.specs.Visit.{HasAsked, IsVisit, IsVisitStep, VisitsByAnswer, VisitsByAnswers}
use Rattle.mirror_walk.specs.Visit.{HasVisited, asks_left, counted_answer, tally_of}
use Rattle.mirror_walk.specs.Walk.{Exchange, IsAnswered, IsWalkStep, WalkSetting, Walks, setting_by}
use Rattle.mirror_walk.specs.Walk.WalkEnding.{cut_short}
use Rattle.mirror_walk.proofs.AddressLemmas.{bytes_cases}
use Rattle.mirror_walk.proofs.VisitsLemmas.{IsSoFar, ends-fault, ends-nowhere, ends-refused, one_asked, visits-begin}
use Rattle.mirror_walk.proofs.VisitsLemmas.{visits-done, visits-more}
use Rattle.mirror_walk.proofs.WalkRunLemmas.{Reaches, reaches-more, walks-before}

-- the answers, with this one to the text
abbrev pub with_answer : (List ℕ → Option (List ℕ)) → List ℕ → Option (List ℕ) → List ℕ → Option (List ℕ)
with_answer answers text found other = if bytes_eq other text then found else answers other

pub new-answer : (answers : List ℕ → Option (List ℕ)) (text other : List ℕ) (found : Option (List ℕ))
    → other ≡ text → with_answer answers text found other ≡ found
new-answer answers text other found same =
    cond-true (bytes_eq other text) found (answers other) ((bytes_eq-Decides other text).1 same)

pub old-answer : (answers : List ℕ → Option (List ℕ)) (text other : List ℕ) (found : Option (List ℕ))
    → other ≢ text → with_answer answers text found other ≡ answers other
old-answer answers text other found differs =
    cond-false (bytes_eq other text) found (answers other)
    (false_from_ne_true _ (λ same. differs ((bytes_eq-Decides other text).0 same)))

-- where the source is seen, both are its own answers
pub same-answers : (answers source : List ℕ → Option (List ℕ)) (text : List ℕ) (found : Option (List ℕ))
    → answers ≡ source → found ≡ source text → with_answer answers text found ≡ source
same-answers answers source text found same is = λ i other. at other i
  where
    at : (other : List ℕ) → with_answer answers text found other ≡ source other
    at other = elim (bytes_cases other text) [
      | inl here ↦ new-answer answers text other found here ∙ is ∙ ap source (sym here)
      | inr differs ↦ old-answer answers text other found differs
          ∙ ap (λ (f : List ℕ → Option (List ℕ)). f other) same
    ]

-- two sources that answer some addresses alike
module _ (mirror : MirrorValue) (answers others : List ℕ → Option (List ℕ)) where
  abbrev pub Agrees : Address → Type 0
  Agrees address = others (printed mirror.base address) ≡ answers (printed mirror.base address)

  pub answered-agrees : (kept : List KeptValue) (address : Address) (answer : Answer) (left : List KeptValue)
      → Agrees address → IsAnswered (setting_by mirror answers) kept address answer left
      → IsAnswered (setting_by mirror others) kept address answer left
  answered-agrees kept address answer left agrees answered =
      record { bytes = answered.bytes; there = agrees ∙ answered.there; answered = answered.answered }

  pub reaches-agrees : (asked : List Address) (accepted : List Accepted) (kept now : List KeptValue)
      (next upcoming : Option Address) → All Agrees asked
      → Reaches (setting_by mirror answers) kept next asked accepted now upcoming
      → Reaches (setting_by mirror others) kept next asked accepted now upcoming
  reaches-agrees [] [] kept now next upcoming agree reaches = reaches
  reaches-agrees [] (answer ∷ accepted) kept now next upcoming agree reaches = absurd reaches
  reaches-agrees (address ∷ asked) [] kept now next upcoming agree reaches = absurd reaches
  reaches-agrees (address ∷ asked) (answer ∷ accepted) kept now next upcoming agree (is, (after, answered, reaches)) = (
    is,
    (
      after,
      answered-agrees kept address (Ok answer) after (All-head Agrees address asked agree) answered,
      reaches-agrees asked accepted after now (first_missing after) upcoming (All-tail Agrees address asked agree)
          reaches,
    ),
  )

  pub walks-agrees : (asked : List Address) (accepted : List Accepted) (kept left : List KeptValue)
      (next : Option Address) → All Agrees asked
      → Walks (setting_by mirror answers) kept next asked accepted left cut_short
      → Walks (setting_by mirror others) kept next asked accepted left cut_short
  walks-agrees [] [] kept left next agree walks = walks
  walks-agrees [] (answer ∷ accepted) kept left next agree walks = absurd walks
  walks-agrees (address ∷ asked) [] kept left next agree (is, none, same, ends) = (is, none, same, tt)
  walks-agrees (address ∷ asked) (answer ∷ accepted) kept left next agree (is, (after, answered, walks)) = (
    is,
    (
      after,
      answered-agrees kept address (Ok answer) after (All-head Agrees address asked agree) answered,
      walks-agrees asked accepted after left (first_missing after) (All-tail Agrees address asked agree) walks,
    ),
  )

  pub visit-agrees : (kept : List KeptValue) (address : Address) (left : List KeptValue)
      (result : Result Visit WalkFault) → Agrees address
      → IsVisit (setting_by mirror answers) kept address left result
      → IsVisit (setting_by mirror others) kept address left result
  visit-agrees kept address left (Ok (visits.Accepted answer)) agrees visit =
      answered-agrees kept address (Ok answer) left agrees visit
  visit-agrees kept address left (Ok visits.NotThere) agrees (same, none) = (same, agrees ∙ none)
  visit-agrees kept address left (Ok (visits.Refused why)) agrees (same, (of_document, answered)) =
      (same, (of_document, answered-agrees kept address (Err why) kept agrees answered))
  visit-agrees kept address left (Err faults.FetchFault) agrees visit = visit
  visit-agrees kept address left (Err (faults.Full size needed capacity)) agrees (same, answered) =
      (same, answered-agrees kept address _ kept agrees answered)
  visit-agrees kept address left (Err faults.DiskFault) agrees visit =
      record { bytes = visit.bytes; there = agrees ∙ visit.there; takeable = visit.takeable }
  visit-agrees kept address left (Err faults.NoMemory) agrees visit = visit

-- from each of these addresses on, a walk may ask for at least `least` documents
abbrev pub AreAbove : ℕ → List Address → Type 0
AreAbove least asked = All (λ (a : Address). IsAddress a × (least ≤ asks_left a)) asked

pub above-less : (least less : ℕ) → less ≤ least → (asked : List Address) → AreAbove least asked
    → AreAbove less asked
above-less least less below asked above =
    All-weaker (λ (a : Address). IsAddress a × (least ≤ asks_left a))
    (λ (a : Address). IsAddress a × (less ≤ asks_left a))
    (λ a is. (is.0, omega (arith, below, is.1))) asked above

-- the addresses before this one have other texts
pub agree-above : (mirror : MirrorValue) (answers : List ℕ → Option (List ℕ)) (address : Address)
    (found : Option (List ℕ)) → IsAddress address → (asked : List Address)
    → AreAbove (asks_left address + 1) asked
    → All (Agrees mirror answers (with_answer answers (printed mirror.base address) found)) asked
agree-above mirror answers address found is_address asked above =
    All-weaker (λ (a : Address). IsAddress a × (asks_left address + 1 ≤ asks_left a))
    (Agrees mirror answers (with_answer answers (printed mirror.base address) found))
    (λ a is. old-answer answers (printed mirror.base address) (printed mirror.base a) found
    (λ same. let one = ap asks_left (same_address mirror.base a address is.0 is_address same) in
    absurd (omega (arith, one, is.1)))) asked above

-- an image of a walk that asked for addresses of this kind alone
pub record IsStepAbove (setting : WalkSetting) (kept : List KeptValue) (least : ℕ) (image : List ℕ) : Type 0 where
  pub step : IsWalkStep setting kept image
  pub above : AreAbove least step.asked

-- the walk so far, by what the source answered: `address` is the next one
pub record HasGone (observable seen : Type 0) (s m : DiskState) (before between : FetchState) (mirror : MirrorValue)
    (now : List KeptValue) (address : Address) (tally : Tally) : Type 0 where
  pub source : Exchange seen before between
  pub so_far : IsSoFar (setting_by mirror source.answers) mirror.kept now address [] source.asked tally
  pub above : AreAbove (asks_left address + 1) so_far.asked
  pub moments : observable → IsAtRest s mirror.kept → LeavesOnly s m MirrorArea
      (λ _. IsStepAbove (setting_by mirror source.answers) mirror.kept (asks_left address + 1))

-- the address was asked after others
asked-after : (asked texts : List (List ℕ)) (text : List ℕ) (result : Result Visit WalkFault)
    → HasAsked [] texts text result → HasAsked asked (asked ++ texts) text result
asked-after asked texts text (Ok visit) is = ap (λ (l : List (List ℕ)). asked ++ l) is
asked-after asked texts text (Err faults.FetchFault) is = ap (λ (l : List (List ℕ)). asked ++ l) is
asked-after asked texts text (Err (faults.Full size needed capacity)) is = ap (λ (l : List (List ℕ)). asked ++ l) is
asked-after asked texts text (Err faults.DiskFault) is = ap (λ (l : List (List ℕ)). asked ++ l) is
asked-after asked texts text (Err faults.NoMemory) (inl is) =
    inl (ap (λ (l : List (List ℕ)). asked ++ l) is ∙ append-nil asked)
asked-after asked texts text (Err faults.NoMemory) (inr is) = inr (ap (λ (l : List (List ℕ)). asked ++ l) is)

-- one more visit
module _ (observable seen : Type 0) (s m t : DiskState) (before between after : FetchState) (one two : MirrorValue)
    (address : Address) (tally : Tally) (keeps : KeepsSetting s m one two)
    (same : between.answers ≡ before.answers) (is_address : IsAddress address)
    (gone : HasGone observable seen s m before between one two.kept address tally) (left : List KeptValue)
    (result : Result Visit WalkFault)
    (visit : VisitsByAnswer observable seen m t between after two address left result) where
  abbrev pub own : List ℕ
  own = printed one.base address

  abbrev pub answers : List ℕ → Option (List ℕ)
  answers = with_answer gone.source.answers own visit.found

  abbrev pub setting : WalkSetting
  setting = setting_by one answers

  pub same-text : printed two.base address ≡ own
  same-text = ap (λ (b : List ℕ). printed b address) keeps.base

  abbrev pub source-more : Exchange seen before after
  source-more = record {
    asked = gone.source.asked ++ visit.texts;
    answers = answers;
    asked_are = λ sees. visit.texts_are sees
        ∙ ap (λ (l : List (List ℕ)). l ++ visit.texts) (gone.source.asked_are sees)
        ∙ append_assoc before.asked gone.source.asked visit.texts;
    answers_are = λ sees. same-answers gone.source.answers before.answers own visit.found
        (gone.source.answers_are sees) (visit.found_is sees
        ∙ ap (λ (f : List ℕ → Option (List ℕ)). f (printed two.base address)) same
        ∙ ap before.answers same-text);
  }

  abbrev pub so_far-more : IsSoFar setting one.kept two.kept address [] gone.source.asked tally
  so_far-more = record {
    asked = gone.so_far.asked;
    accepted = gone.so_far.accepted;
    reaches = reaches-agrees one gone.source.answers answers gone.so_far.asked gone.so_far.accepted one.kept
        two.kept (Some Feed) (Some address)
        (agree-above one gone.source.answers address visit.found is_address gone.so_far.asked gone.above)
        gone.so_far.reaches;
    addresses = gone.so_far.addresses;
    counted = gone.so_far.counted;
  }

  same-setting : (f : List ℕ → Option (List ℕ)) → setting_by two f ≡ setting_by one f
  same-setting f = let base = keeps.base in let capacity = keeps.capacity in cc

  pub visit-more : IsVisit setting two.kept address left result
  visit-more = visit-agrees one (λ _. visit.found) answers two.kept address left result
      (new-answer gone.source.answers own own visit.found refl)
      (subst (λ (g : WalkSetting). IsVisit g two.kept address left result) (same-setting (λ _. visit.found))
      visit.visit)

  pub asked-more : HasAsked gone.source.asked source-more.asked own result
  asked-more = asked-after gone.source.asked visit.texts own result
      (subst (λ (l : List ℕ). HasAsked [] visit.texts l result) same-text visit.asked)

  -- an image of the walk so far
  step-before : (image : List ℕ)
      → IsStepAbove (setting_by one gone.source.answers) one.kept (asks_left address + 1) image
      → IsStepAbove setting one.kept (asks_left address) image
  step-before image is = record {
    step = record {
      asked = is.step.asked;
      accepted = is.step.accepted;
      left = is.step.left;
      walks = walks-agrees one gone.source.answers answers is.step.asked is.step.accepted one.kept is.step.left
          (Some Feed)
          (agree-above one gone.source.answers address visit.found is_address is.step.asked is.above)
          is.step.walks;
      loads = is.step.loads;
    };
    above = above-less (asks_left address + 1) (asks_left address) (omega arith) is.step.asked is.above;
  }

  -- an image of the visit
  step-now : (image : List ℕ) → IsVisitStep (setting_by two (λ _. visit.found)) two.kept address image
      → IsStepAbove setting one.kept (asks_left address) image
  step-now image step = of (here step)
    where
      here : IsVisitStep (setting_by two (λ _. visit.found)) two.kept address image
          → IsVisitStep setting two.kept address image
      here step = agreed (subst (λ (g : WalkSetting). IsVisitStep g two.kept address image)
          (same-setting (λ _. visit.found)) step)
        where
          agreed : IsVisitStep (setting_by one (λ _. visit.found)) two.kept address image
              → IsVisitStep setting two.kept address image
          agreed (inl loads) = inl loads
          agreed (inr more) = inr record {
            after = more.after;
            taken = answered-agrees one (λ _. visit.found) answers two.kept address (Ok Taken) more.after
                (new-answer gone.source.answers own own visit.found refl) more.taken;
            loads = more.loads;
          }

      below : AreAbove (asks_left address) gone.so_far.asked
      below = above-less (asks_left address + 1) (asks_left address) (omega arith) gone.so_far.asked gone.above

      of : IsVisitStep setting two.kept address image → IsStepAbove setting one.kept (asks_left address) image
      of (inl loads) = record {
        step = record {
          asked = gone.so_far.asked;
          accepted = gone.so_far.accepted;
          left = two.kept;
          walks = walks-before setting two.kept gone.so_far.asked gone.so_far.accepted one.kept (Some Feed)
              (Some address) cut_short so_far-more.reaches tt;
          loads = loads;
        };
        above = below;
      }
      of (inr more) = record {
        step = record {
          asked = gone.so_far.asked ++ address ∷ [];
          accepted = gone.so_far.accepted ++ Taken ∷ [];
          left = more.after;
          walks = walks-before setting more.after (gone.so_far.asked ++ address ∷ [])
              (gone.so_far.accepted ++ Taken ∷ []) one.kept (Some Feed) (first_missing more.after) cut_short
              (reaches-more setting two.kept gone.so_far.asked gone.so_far.accepted one.kept more.after (Some Feed)
              address Taken so_far-more.reaches more.taken) tt;
          loads = more.loads;
        };
        above = All-push (λ (a : Address). IsAddress a × (asks_left address ≤ asks_left a)) gone.so_far.asked
            address below (is_address, omega arith);
      }

  pub moments-above : observable → IsAtRest s one.kept → IsAtRest m two.kept
      → AlwaysLeaves s t MirrorArea (IsStepAbove setting one.kept (asks_left address))
  moments-above tells rest still =
      let run = visit.moments tells still in
      record {
        moments = leaves_join s m t MirrorArea (λ _. IsStepAbove setting one.kept (asks_left address))
            (leaves_weaker s m MirrorArea
            (λ _. IsStepAbove (setting_by one gone.source.answers) one.kept (asks_left address + 1))
            (λ _. IsStepAbove setting one.kept (asks_left address)) (λ c i rose step. step-before i step)
            (gone.moments tells rest))
            (leaves_weaker m t MirrorArea (λ _. IsVisitStep (setting_by two (λ _. visit.found)) two.kept address)
            (λ _. IsStepAbove setting one.kept (asks_left address)) (λ c i rose step. step-now i step) run.moments);
        now = λ i may. step-now i (run.now i may);
      }

  -- `Mirror::visit_all`: an image where the walk ends
  pub moments-ended : observable → IsAtRest s one.kept → IsAtRest m two.kept
      → AlwaysLeaves s t MirrorArea (IsWalkStep setting one.kept)
  moments-ended tells rest still =
      always_weaker s t MirrorArea (IsStepAbove setting one.kept (asks_left address)) (IsWalkStep setting one.kept)
      (λ i is. is.step) (moments-above tells rest still)

  -- and where it goes on
  pub moments-on : (next : Address) → asks_left next < asks_left address → observable → IsAtRest s one.kept
      → IsAtRest m two.kept
      → LeavesOnly s t MirrorArea (λ _. IsStepAbove setting one.kept (asks_left next + 1))
  moments-on next fewer tells rest still =
      leaves_weaker s t MirrorArea (λ _. IsStepAbove setting one.kept (asks_left address))
      (λ _. IsStepAbove setting one.kept (asks_left next + 1))
      (λ c i rose is. record {
        step = is.step;
        above = above-less (asks_left address) (asks_left next + 1) (omega (arith, fewer)) is.step.asked is.above;
      })
      (moments-above tells rest still).moments

  pub above-on : (next : Address) → asks_left next < asks_left address
      → AreAbove (asks_left next + 1) (gone.so_far.asked ++ address ∷ [])
  above-on next fewer =
      All-push (λ (a : Address). IsAddress a × (asks_left next + 1 ≤ asks_left a)) gone.so_far.asked address
      (above-less (asks_left address + 1) (asks_left next + 1) (omega (arith, fewer)) gone.so_far.asked gone.above)
      (is_address, omega (arith, fewer))

  -- the same at each end of the walk, if the disk is at rest before the visit

  module _ (rests : observable → IsAtRest s one.kept → IsAtRest m two.kept) where
    ended : (given : Result Visits WalkFault)
        → HasVisited setting one.kept left [] source-more.asked given
        → VisitsByAnswers observable seen s t before after one left given
    ended given visited = record {
      source = source-more;
      visited = visited;
      moments = λ tells rest. moments-ended tells rest (rests tells rest);
    }

    visit-at : (other : Result Visit WalkFault) → result ≡ other → IsVisit setting two.kept address left other
    visit-at other is = subst (λ (r : Result Visit WalkFault). IsVisit setting two.kept address left r) is visit-more

    asked-at : (other : Result Visit WalkFault) → result ≡ other
        → HasAsked gone.source.asked source-more.asked own other
    asked-at other is = subst (λ (r : Result Visit WalkFault). HasAsked gone.source.asked source-more.asked own r)
        is asked-more

    pub ended-fault : (fault : WalkFault) → result ≡ Err fault
        → VisitsByAnswers observable seen s t before after one left (Err fault)
    ended-fault fault is = ended (Err fault) (ends-fault setting one.kept two.kept address [] gone.source.asked tally
        so_far-more fault left source-more.asked (visit-at (Err fault) is) (asked-at (Err fault) is))

    pub ended-nowhere : result ≡ Ok visits.NotThere → VisitsByAnswers observable seen s t before after one left
        (Ok record { tally = one_asked tally; refused = None })
    ended-nowhere is = ended _ (ends-nowhere setting one.kept two.kept address [] gone.source.asked tally so_far-more
        left source-more.asked (visit-at (Ok visits.NotThere) is) (asked-at (Ok visits.NotThere) is))

    pub ended-refused : (why : Offered) → result ≡ Ok (visits.Refused why)
        → VisitsByAnswers observable seen s t before after one left
        (Ok record { tally = one_asked tally; refused = Some record { address = address; why = why } })
    ended-refused why is = ended _ (ends-refused setting one.kept two.kept address [] gone.source.asked tally
        so_far-more why left source-more.asked (visit-at (Ok (visits.Refused why)) is)
        (asked-at (Ok (visits.Refused why)) is))

    pub ended-done : (answer : Accepted) → result ≡ Ok (visits.Accepted answer) → first_missing left ≡ None
        → VisitsByAnswers observable seen s t before after one left
        (Ok record { tally = counted_answer (one_asked tally) answer; refused = None })
    ended-done answer is none = ended _ (visits-done setting one.kept two.kept address [] gone.source.asked tally
        so_far-more left answer (visit-at (Ok (visits.Accepted answer)) is) source-more.asked
        (asked-at (Ok (visits.Accepted answer)) is) none)

    pub goes-further : (answer : Accepted) → result ≡ Ok (visits.Accepted answer) → (next : Address)
        → first_missing left ≡ Some next → asks_left next < asks_left address
        → HasGone observable seen s t before after one left next (counted_answer (one_asked tally) answer)
    unfolding visits-more
    goes-further answer is next missing fewer = record {
      source = source-more;
      so_far = visits-more setting one.kept two.kept address [] gone.source.asked tally so_far-more left answer
          (visit-at (Ok (visits.Accepted answer)) is) source-more.asked
          (asked-at (Ok (visits.Accepted answer)) is) next missing;
      above = above-on next fewer;
      moments = λ tells rest. moments-on next fewer tells rest (rests tells rest);
    }

-- before the first visit
pub gone-none : (observable seen : Type 0) (s : DiskState) (source : FetchState) (mirror : MirrorValue)
    → HasGone observable seen s s source source mirror mirror.kept Feed (tally_of [] [])
unfolding visits-begin
gone-none observable seen s source mirror = record {
  source = record {
    asked = [];
    answers = source.answers;
    asked_are = λ sees. sym (append-nil source.asked);
    answers_are = λ sees. refl;
  };
  so_far = visits-begin (setting_by mirror source.answers) mirror.kept [];
  above = All-nil (λ (a : Address). IsAddress a × (asks_left Feed + 1 ≤ asks_left a));
  moments = λ tells rest. leaves_begin s MirrorArea
      (λ _. IsStepAbove (setting_by mirror source.answers) mirror.kept (asks_left Feed + 1));
}
