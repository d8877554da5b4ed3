use Rattle.std.proofs.Common.{◌-◌, ◌≤◌, List, take, sym, ◌∙◌, ap, subst}
use Rattle.std.proofs.lemmas.Bool.{ltb-true}
use Rattle.feed_journal.specs.Log.{KeepsLog, LogValue}
use Rattle.feed_journal.specs.declared.extent.Extent.{Extent}
use Rattle.feed_journal.proofs.CutLemmas.{follow_offset, keeps_take}
use Rattle.feed_journal.proofs.log.Log.size_of_first.Goals as goal

pub overflow_sub-result : goal.overflow_sub-result
overflow_sub-result c =
    let places = c.deref.result.now in
    let rules = subst (λ (l : List Extent). KeepsLog l c.self.inside.frames.size)
    (sym (c.deref.ensures.value ∙ c.self.invariant.1)) c.self.invariant.0 in
    subst (λ (e : Extent). 4 ≤ e.offset) (sym c.in-Some.ensures.lookup.1)
    (follow_offset 0 c.args.len places c.self.inside.frames.size _ rules.follow
    (ltb-true _ _ (sym c.in-Some.ensures.lookup.0)))

pub returns-in-Some : goal.returns-in-Some
returns-in-Some c =
    let places = c.deref.result.now in
    let rules = subst (λ (l : List Extent). KeepsLog l c.self.inside.frames.size)
    (sym (c.deref.ensures.value ∙ c.self.invariant.1)) c.self.invariant.0 in
    subst (λ (l : List Extent). KeepsLog (take c.args.len l) (c.in-Some.next.now.offset - 4))
    (c.deref.ensures.value ∙ c.self.invariant.1 ∙ ap (λ (v : LogValue). v.extents) c.self.view_is)
    (subst (λ (e : Extent). KeepsLog (take c.args.len places) (e.offset - 4)) (sym c.in-Some.ensures.lookup.1)
    (keeps_take c.args.len places c.self.inside.frames.size _ rules
    (ltb-true _ _ (sym c.in-Some.ensures.lookup.0))))
