-- How `drill` ends.
use Rattle.std.proofs.Common.{◌≡◌, ◌≢◌, ◌⊎◌, inl, inr, ⊎_elim, ℕ, List, ◌++◌, Option, Some, None, refl, ◌∙◌, ap, subst}
use Rattle.std.proofs.Common.{arith}
use Rattle.doc_source.specs.Outside.{SinkState}
use Rattle.command_ends.specs.Answer.{Prints}
use Rattle.feed_commands.specs.Drill.{EndsDrilling, drill_answer, drill_head, drill_text}
use Rattle.feed_commands.specs.Outside.{Outside}
use Rattle.feed_commands.specs.Run.{EndsWith}
use Rattle.command_ends.specs.Ends.{IsAlone, IsDone}
use Rattle.feed_drill.specs.Drilled.{IsDrilled, operations}
use Rattle.feed_drill.specs.Summary.{SummaryValue, summary_of, summary_text}
use Rattle.feed_life.specs.Life.{LifeValue}
use Rattle.member_rules.specs.Head.{HeadValue}
use Rattle.tool_words.specs.declared.command.Command.TheVariants.{Drill}

-- the text of a drill's summary is the answer
pub drill-text : (head : HeadValue) (seed count : ℕ) (summary : SummaryValue) (text : List ℕ) → head ≡ drill_head
    → summary ≡ summary_of head (operations head seed count) count → text ≡ summary_text summary
    → text ≡ drill_text seed count
unfolding drill_text
drill-text head seed count summary text head_is is printed =
    printed
    ∙ ap summary_text (is ∙ ap (λ (h : HeadValue). summary_of h (operations h seed count) count) head_is)

not-failed : (ended : ℕ) → IsDone ended → ended ≢ 8
not-failed ended done failed = ⊎_elim (λ e. absurd (omega (arith, e, failed)))
    (λ e. absurd (omega (arith, e, failed))) done

-- the text was printed, or the output failed
pub drill-ends : (seed count : ℕ) (outside : Outside) (observable : Type 0) (before after : SinkState) (ended : ℕ)
    (text : List ℕ) → text ≡ drill_text seed count → (ended ≡ 0) ⊎ (ended ≡ 8)
    → (observable → Prints before after text) → (ended ≢ 8 → observable → after.taken ≡ before.taken ++ text)
    → EndsWith (Drill seed count) outside observable before after ended
drill-ends seed count outside observable before after ended text is ends prints whole = record {
  answer = drill_answer seed count;
  is = refl;
  status = ⊎_elim (λ e. inl e) (λ e. inr (e, inl refl)) ends;
  prints = λ sink. subst (λ (t : List ℕ). Prints before after t) is (prints sink);
  whole = λ sink done. subst (λ (t : List ℕ). after.taken ≡ before.taken ++ t) is
      (whole (not-failed ended done) sink);
}

-- the life is returned, or the output failed
pub ends-drilling : (seed count : ℕ) (life : LifeValue) (given : Option LifeValue) (ended : ℕ)
    → IsDrilled drill_head seed count life → ((ended ≡ 0) × (given ≡ Some life)) ⊎ ((ended ≡ 8) × (given ≡ None))
    → EndsDrilling seed count given ended
ends-drilling seed count life given ended drilled (inl (done, is)) = record {
  done = λ same. record { given = life; life_is = is; drilled = drilled };
  undone = λ other. absurd (other done);
}
ends-drilling seed count life given ended drilled (inr (failed, none)) = record {
  done = λ same. let is : ended ≡ 0 = same in absurd (omega (arith, is, failed));
  undone = λ other. none;
}

-- neither end is one whose line stands alone
pub not-alone : (ended : ℕ) → (ended ≡ 0) ⊎ (ended ≡ 8) → IsAlone ended → ⊥
not-alone ended ends (inl alone) = let is : ended ≡ 2 = alone in
    ⊎_elim (λ e. absurd (omega (arith, e, is))) (λ e. absurd (omega (arith, e, is))) ends
not-alone ended ends (inr (inl alone)) = let is : ended ≡ 4 = alone in
    ⊎_elim (λ e. absurd (omega (arith, e, is))) (λ e. absurd (omega (arith, e, is))) ends
not-alone ended ends (inr (inr (inl alone))) = let is : ended ≡ 5 = alone in
    ⊎_elim (λ e. absurd (omega (arith, e, is))) (λ e. absurd (omega (arith, e, is))) ends
not-alone ended ends (inr (inr (inr (inl alone)))) = let is : ended ≡ 7 = alone in
    ⊎_elim (λ e. absurd (omega (arith, e, is))) (λ e. absurd (omega (arith, e, is))) ends
not-alone ended ends (inr (inr (inr (inr alone)))) = let is : ended ≡ 9 = alone in
    ⊎_elim (λ e. absurd (omega (arith, e, is))) (λ e. absurd (omega (arith, e, is))) ends
