use Rattle.std.proofs.Common.{◌≡◌, ℕ, Option, Some, None, ap, subst, sym, ◌∙◌}
use Rattle.std.specs.Prelude.{unwrap_or}
use Rattle.atom_writer.specs.declared.doc.Kind.TheVariants.{Subscription, Archive}
use Rattle.mirror_walk.specs.Holding.{HeldValue, best_of, gap_from}
use Rattle.mirror_walk.specs.Index.{HasBest, HasBestAfter}
use Rattle.mirror_walk.specs.declared.documents.Best.{Best}
use Rattle.mirror_walk.proofs.IndexLemmas.{IsNewArchive, new-free, best-own, best-none, best-filled}
use Rattle.mirror_walk.proofs.IndexLemmas.{best-unfilled}
use Rattle.mirror_walk.proofs.NumberLemmas.{archive-numbers}
use Rattle.mirror_walk.proofs.documents.Documents.best_with.Goals as goal
use Rattle.mirror_walk.proofs.documents.Documents.best_with.Goals.{In-Archive}

new : (c : In-Archive) → IsNewArchive c.args.self.now.kept c.args.given.now.document c.in-Archive.number
new c =
    let kind : c.args.given.now.document.kind ≡ Archive c.in-Archive.number =
    sym c.kind.ensures.kind ∙ c.in-Archive.is in
    let numbers = archive-numbers c.args.given.now.document c.in-Archive.number c.kind.ensures.rules kind in
    record {
      kind = kind;
      one = numbers.one;
      free = new-free c.args.self.now.kept c.args.given.now.document c.in-Archive.number c.requires.new kind;
    }

there : (c : In-Archive) (best : Option Best) → c.self.inside.best ≡ best
    → HasBest c.args.self.now.kept best (best_of c.args.self.now.kept)
there c best is =
    let kept = c.self.inside.kept.items in
    subst (λ (h : HeldValue). HasBest h.kept best (best_of h.kept)) c.self.view_is
    (subst (λ (b : Option Best). HasBest kept b (best_of kept)) is c.self.invariant.best_there)

pub returns-in_err-at-in-Archive : goal.returns-in_err-at-in-Archive
returns-in_err-at-in-Archive c =
    let d = (goal.at.returns-in_err-at-in-Archive c).In-Archive in
    let kept = c.args.self.now.kept in
    subst (λ (b : Option Best). HasBestAfter kept c.args.given.now.document b) (sym c.from_residual.ensures)
    (best-none kept c.args.given.now.document c.in-Archive.number (new d) (there d None
    c.in_err-at-in-Archive.was))

pub returns-in-Subscription : goal.returns-in-Subscription
returns-in-Subscription c =
    let kept = c.args.self.now.kept in
    let kind : c.args.given.now.document.kind ≡ Subscription =
    sym c.kind.ensures.kind ∙ c.in-Subscription.is in
    best-own kept c.args.given.now.document c.args.at c.first_missing-missing.result c.requires.new kind
    c.requires.end
    (c.first_missing-missing.ensures ∙ ap (λ (n : ℕ). unwrap_or (gap_from kept n) 0) c.prev.ensures)

pub returns-then-missing-number : goal.returns-then-missing-number
returns-then-missing-number c =
    let d = (goal.at.returns-then-missing-number c).In-Archive in
    best-filled c.args.self.now.kept c.args.given.now.document c.in-Archive.number
    c.in_ok-at-in-Archive.field-0
    c.first_missing-missing-then-missing-number.result (new d)
    (there d (Some c.in_ok-at-in-Archive.field-0) c.in_ok-at-in-Archive.was) c.if-missing-number.true
    c.first_missing-missing-then-missing-number.ensures

pub returns-else-missing-number : goal.returns-else-missing-number
returns-else-missing-number c =
    let d = (goal.at.returns-else-missing-number c).In-Archive in
    best-unfilled c.args.self.now.kept c.args.given.now.document c.in-Archive.number
    c.in_ok-at-in-Archive.field-0 (new d)
    (there d (Some c.in_ok-at-in-Archive.field-0) c.in_ok-at-in-Archive.was) c.if-missing-number.false
