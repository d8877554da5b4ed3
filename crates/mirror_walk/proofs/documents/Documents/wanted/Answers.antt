use Rattle.std.proofs.Common.{Option, ap, inl, inr, subst, sym, ◌∙◌}
use Rattle.std.proofs.lemmas.Bool.{cases_eq}
use Rattle.mirror_walk.specs.Holding.{HeldValue, best_of, first_missing}
use Rattle.mirror_walk.specs.Index.{HasBest}
use Rattle.mirror_walk.specs.declared.documents.Best.{Best}
use Rattle.mirror_walk.proofs.MissingLemmas.{missing-archive, missing-feed, missing-nothing}
use Rattle.mirror_walk.proofs.documents.Documents.wanted.Goals as goal

pub returns-in-None-clause-missing : goal.returns-in-None-clause-missing
returns-in-None-clause-missing c =
    let kept = c.self.inside.kept.items in
    let best = subst (λ (b : Option Best). HasBest kept b (best_of kept)) c.in-None.is
    c.self.invariant.best_there in
    sym (missing-feed kept best) ∙ ap (λ (h : HeldValue). first_missing h.kept) c.self.view_is

pub returns-in-Some-clause-missing : goal.returns-in-Some-clause-missing
returns-in-Some-clause-missing c =
    let kept = c.self.inside.kept.items in
    let number = c.in-Some.best.missing in
    let best = subst (λ (b : Option Best). HasBest kept b (best_of kept)) c.in-Some.is
    c.self.invariant.best_there in
    elim (cases_eq number 0) [
      | inl none ↦
          c.archive_address.ensures.none none ∙ sym (missing-nothing kept c.in-Some.best best none)
          ∙ ap (λ (h : HeldValue). first_missing h.kept) c.self.view_is
      | inr some ↦
          c.archive_address.ensures.some some ∙ sym (missing-archive kept c.in-Some.best best some)
          ∙ ap (λ (h : HeldValue). first_missing h.kept) c.self.view_is
    ]
