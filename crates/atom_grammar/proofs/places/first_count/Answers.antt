use Rattle.std.proofs.Common.{◌≡◌, ◌+◌, length, sym, ap, ◌∙◌}
use Rattle.atom_writer.specs.Pieces.{prev_pieces}
use Rattle.atom_grammar.proofs.CuttingLemmas.{first_pieces-cut}
use Rattle.atom_grammar.proofs.PairLemmas.{is_kind}
use Rattle.atom_grammar.proofs.PlaceLemmas.{kind_count, length-first_pieces, no_prev_pieces, one_prev_piece}
use Rattle.atom_grammar.proofs.places.first_count.Goals.{then-prev-eq0, else-prev-eq0}
use Rattle.atom_grammar.proofs.places.first_count.Goals as goal

pub returns-in-Subscription-clause-count : goal.returns-in-Subscription-clause-count
returns-in-Subscription-clause-count c = λ name updated.
    let links : length (prev_pieces name c.args.prev) ≡ c.if-prev-eq0.prev_links =
    elim c.if-prev-eq0.branch [
      | then-prev-eq0 w ↦ no_prev_pieces name c.args.prev w.if-prev-eq0.true ∙ sym w.prev_links-is
      | else-prev-eq0 w ↦ one_prev_piece name c.args.prev w.if-prev-eq0.false ∙ sym w.prev_links-is
    ] in
    length-first_pieces name updated c.args.kind c.args.span c.args.prev
    ∙ ap (λ k. kind_count k + length (prev_pieces name c.args.prev)) c.in-Subscription.is ∙ ap (λ n. 8 + n) links

pub returns-in-Subscription-clause-cut : goal.returns-in-Subscription-clause-cut
returns-in-Subscription-clause-cut c = λ name updated is_base.
    first_pieces-cut name updated c.args.kind c.args.span c.args.prev is_base
    (is_kind c.args.kind c.args.span c.args.prev c.requires.placed) c.requires.bounds c.ranges.prev.fits

pub returns-in-Archive-clause-count : goal.returns-in-Archive-clause-count
returns-in-Archive-clause-count c = λ name updated.
    let links : length (prev_pieces name c.args.prev) ≡ c.if-prev-eq0.prev_links =
    elim c.if-prev-eq0.branch [
      | then-prev-eq0 w ↦ no_prev_pieces name c.args.prev w.if-prev-eq0.true ∙ sym w.prev_links-is
      | else-prev-eq0 w ↦ one_prev_piece name c.args.prev w.if-prev-eq0.false ∙ sym w.prev_links-is
    ] in
    length-first_pieces name updated c.args.kind c.args.span c.args.prev
    ∙ ap (λ k. kind_count k + length (prev_pieces name c.args.prev)) c.in-Archive.is ∙ ap (λ n. 11 + n) links

pub returns-in-Archive-clause-cut : goal.returns-in-Archive-clause-cut
returns-in-Archive-clause-cut c = λ name updated is_base.
    first_pieces-cut name updated c.args.kind c.args.span c.args.prev is_base
    (is_kind c.args.kind c.args.span c.args.prev c.requires.placed) c.requires.bounds c.ranges.prev.fits
