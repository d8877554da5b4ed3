-- A walk over any source, by what it answered: its result.
use Rattle.std.proofs.Common.{◌≡◌, ℕ, List, [], ◌++◌, Option, None, Ok, Err, Result, sym, ap, subst, ◌∙◌}
use Rattle.doc_source.specs.Fetch.{FetchState}
use Rattle.feed_disk.specs.Disk.{DiskState}
use Rattle.feed_disk.specs.Moments.{AlwaysLeaves}
use Rattle.feed_disk.specs.declared.area.Area.TheVariants.{Mirror as MirrorArea}
use Rattle.member_rules.specs.Head.{HeadValue}
use Rattle.member_rules.specs.declared.operation.Op.{Op}
use Rattle.mirror_walk.specs.declared.answer.Outcome.{Outcome}
use Rattle.mirror_walk.specs.declared.walk.Tally.{Tally}
use Rattle.mirror_walk.specs.declared.walk.Visits.{Visits}
use Rattle.mirror_walk.specs.declared.walk.WalkFault.{WalkFault}
use Rattle.mirror_walk.specs.declared.walk.WalkFault.TheVariants as faults
use Rattle.mirror_walk.specs.declared.walk.Walked.{Walked}
use Rattle.mirror_walk.specs.Holding.{KeptValue}
use Rattle.mirror_walk.specs.Listing.{outcome_of}
use Rattle.mirror_walk.specs.Mirror.{IsAtRest, MirrorValue}
use Rattle.mirror_walk.specs.Offers.{AreServed, AreTakenOf, Offering}
use Rattle.mirror_walk.specs.Visit.{IsVisitsResult, VisitsByAnswers}
use Rattle.mirror_walk.specs.Walk.{HasWalked, IsServedBy, IsWalkResult, IsWalkStep, WalkEnding}
use Rattle.mirror_walk.specs.Walk.{WalksByAnswers, setting_by, setting_of}
use Rattle.mirror_walk.proofs.PassedLemmas.{err-again}
use Rattle.mirror_walk.proofs.WalkServedLemmas.{visited-cut, visited-served}
use Rattle.chain_links.specs.declared.address.Address.{Address}
use Rattle.mirror_walk.specs.declared.answer.Accepted.{Accepted}

module _ (observable seen : Type 0) (s t : DiskState) (before after : FetchState) (mirror : MirrorValue)
    (now : List KeptValue) where
  -- `Mirror::walk`: the clause `walked`, and for the crates above
  pub seen-walked : (given : Result Walked WalkFault)
      → WalksByAnswers observable seen s t before after mirror now given → seen
      → HasWalked (setting_of mirror before) mirror.kept now before.asked after.asked given
  seen-walked given walks sees =
      subst (λ (f : List ℕ → Option (List ℕ)). HasWalked (setting_by mirror f) mirror.kept now before.asked
      after.asked given) (walks.source.answers_are sees) record {
        asked = walks.walked.asked;
        accepted = walks.walked.accepted;
        held = walks.walked.held;
        ending = walks.walked.ending;
        walks = walks.walked.walks;
        addresses = walks.source.asked_are sees
            ∙ ap (λ (l : List (List ℕ)). before.asked ++ l) walks.walked.addresses;
        left = walks.walked.left;
        result = walks.walked.result;
      }

  -- the clause `moments`
  pub seen-moments : (given : Result Walked WalkFault)
      → WalksByAnswers observable seen s t before after mirror now given → observable → seen → IsAtRest s mirror.kept
      → AlwaysLeaves s t MirrorArea (IsWalkStep (setting_of mirror before) mirror.kept)
  seen-moments given walks tells sees rest =
      subst (λ (f : List ℕ → Option (List ℕ)). AlwaysLeaves s t MirrorArea
      (IsWalkStep (setting_by mirror f) mirror.kept)) (walks.source.answers_are sees) (walks.moments tells rest)

  -- the clause `by_answers` where the walk ended by a fault
  fault-result : (asked : List Address) (accepted : List Accepted) (left : List KeptValue) (ending : WalkEnding)
      (fault : WalkFault) → IsVisitsResult asked accepted ending (Err fault)
      → IsWalkResult asked accepted left ending (Err fault)
  fault-result asked accepted left ending faults.FetchFault is = is
  fault-result asked accepted left ending (faults.Full size needed capacity) is = is
  fault-result asked accepted left ending faults.DiskFault is = is
  fault-result asked accepted left ending faults.NoMemory is = is

  pub walks-fault : (fault : WalkFault) → VisitsByAnswers observable seen s t before after mirror now (Err fault)
      → WalksByAnswers observable seen s t before after mirror now (Err fault)
  walks-fault fault visits = record {
    source = visits.source;
    walked = record {
      asked = visits.visited.asked;
      accepted = visits.visited.accepted;
      held = visits.visited.held;
      ending = visits.visited.ending;
      walks = visits.visited.walks;
      addresses = visits.visited.addresses;
      left = λ works. visits.visited.left (λ e. works (err-again fault faults.DiskFault e));
      result = fault-result visits.visited.asked visits.visited.accepted visits.visited.held
          visits.visited.ending fault visits.visited.result;
    };
    moments = visits.moments;
  }

  module _ (made : Visits) (visits : VisitsByAnswers observable seen s t before after mirror now (Ok made)) where
    module _ (left : List KeptValue) (same : left ≡ now) where
      -- and where there is no memory for the outcome
      pub walks-cut-short : WalksByAnswers observable seen s t before after mirror left (Err faults.NoMemory)
      walks-cut-short = record {
        source = visits.source;
        walked = visited-cut (setting_by mirror visits.source.answers) mirror.kept now left [] visits.source.asked
            made visits.visited same;
        moments = visits.moments;
      }

      pub walks-done : (outcome : Outcome) → outcome ≡ outcome_of now → WalksByAnswers observable seen s t before after
          mirror left (Ok record {
            asked = made.tally.asked;
            taken = made.tally.taken;
            known = made.tally.known;
            stale = made.tally.stale;
            refused = made.refused;
            outcome = outcome;
          })
      walks-done outcome is = record {
        source = visits.source;
        walked = record {
          asked = visits.visited.asked;
          accepted = visits.visited.accepted;
          held = visits.visited.held;
          ending = visits.visited.ending;
          walks = visits.visited.walks;
          addresses = visits.visited.addresses;
          left = λ works. same ∙ visits.visited.left (λ e. cc);
          result = record {
            asked = ap (λ (t : Tally). t.asked) visits.visited.result.0;
            taken = ap (λ (t : Tally). t.taken) visits.visited.result.0;
            known = ap (λ (t : Tally). t.known) visits.visited.result.0;
            stale = ap (λ (t : Tally). t.stale) visits.visited.result.0;
            refusal = visits.visited.result.1;
            outcome = is ∙ ap outcome_of (visits.visited.left (λ e. cc));
          };
        };
        moments = visits.moments;
      }

    -- the clause `served`
    pub seen-served : seen → (head : HeadValue) (history : List Op) (offers : List Offering)
        → mirror.base ≡ head.name.base → AreServed head history offers → AreTakenOf mirror.base offers mirror.kept
        → IsServedBy head history before.answers → made.refused ≡ None
    seen-served sees head history offers same served taken source =
        visited-served (setting_by mirror visits.source.answers) mirror.kept now [] visits.source.asked made
        visits.visited head history offers same served taken
        (subst (IsServedBy head history) (sym (visits.source.answers_are sees)) source)
