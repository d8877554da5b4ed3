use Rattle.std.proofs.Common.{◌≤◌, ◌∙◌, ℕ, List, All, ap, refl, subst, sym}
use Rattle.feed_drill.specs.Effects.{CourseValue, noted}
use Rattle.feed_drill.specs.Turn.{asked}
use Rattle.feed_drill.proofs.CourseLemmas.{stops-none, stops-some, turned}
use Rattle.feed_drill.proofs.TurnLemmas.{on-ok}
use Rattle.feed_drill.proofs.turn.have_turn.Goals as goal
use Rattle.feed_drill.proofs.turn.have_turn.Goals.{then-turn-eq0, else-turn-eq0}

pub make-requires : goal.make-requires
make-requires c =
    c.draw_wish-wish.ensures.member (subst (λ (l : List ℕ). All (λ n. 1 ≤ n) l)
    (ap (λ (v : CourseValue). v.live) (sym c.course.view_is) ∙ sym c.as_slice.ensures.value) c.requires)

pub returns : goal.returns
returns c = on-ok c.note.result (λ notes before held lives same is next.
    let asks = ap (λ (v : CourseValue). asked v.live c.args.turn v.state) (sym c.course.view_is)
    ∙ ap (λ (l : List ℕ). asked l c.args.turn c.course.inside.draws) (sym c.as_slice.ensures.value)
    ∙ c.draw_wish-wish.ensures.asked c.args.turn in
    elim c.if-turn-eq0.branch [
      | then-turn-eq0 w ↦
          turned c.args.life.now c.make.new.life c.args.course.now c.note.new.self c.args.head.now c.args.turn before
          held
          c.draw_wish-wish.result c.draw_wish-wish.new.draws w.draw_stop.new.draws c.if-turn-eq0.stop same is next asks
          (stops-some c.args.turn c.draw_wish-wish.new.draws w.draw_stop.new.draws c.if-turn-eq0.stop w.draw_stop.result
          w.if-turn-eq0.true w.stop-is w.draw_stop.ensures.stop w.draw_stop.ensures.next)
          (c.in_ok-make.ensures before.history held lives same next)
          (notes ∙ ap (λ (v : CourseValue). noted v c.draw_wish-wish.result) (w.course-is
          ∙ ap (λ (v : CourseValue). record v { state = w.draw_stop.new.draws }) c.course.view_is))
      | else-turn-eq0 w ↦
          turned c.args.life.now c.make.new.life c.args.course.now c.note.new.self c.args.head.now c.args.turn before
          held
          c.draw_wish-wish.result c.draw_wish-wish.new.draws c.draw_wish-wish.new.draws c.if-turn-eq0.stop same is next
          asks
          (stops-none c.args.turn c.draw_wish-wish.new.draws c.draw_wish-wish.new.draws c.if-turn-eq0.stop
          w.if-turn-eq0.false w.stop-is refl)
          (c.in_ok-make.ensures before.history held lives same next)
          (notes ∙ ap (λ (v : CourseValue). noted v c.draw_wish-wish.result) (w.course-is
          ∙ ap (λ (v : CourseValue). record v { state = c.draw_wish-wish.new.draws }) c.course.view_is))
    ]) c.note.ensures
