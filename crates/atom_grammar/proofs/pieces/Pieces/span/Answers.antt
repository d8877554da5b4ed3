use Rattle.std.proofs.Common.{refl, sym, ◌∙◌, arith}
use Rattle.std.proofs.lemmas.Bool.{false≢true}
use Rattle.atom_grammar.specs.FeedParts.{span, span_of}
use Rattle.atom_grammar.proofs.PieceLemmas.{found_here, stops_piece}
use Rattle.atom_grammar.proofs.ReadingLemmas.{renamed_found, renamed_absent, renamed_refused}
use Rattle.atom_grammar.proofs.SpanLemmas.{Placed, span_narrowed}
use Rattle.atom_grammar.proofs.pieces.Pieces.span.Goals.{then-not-is_placed-via-then-not-is_placed, then-not-is_placed-via-else-not-is_placed+then-operations-from}
use Rattle.atom_grammar.proofs.pieces.Pieces.span.Goals as goal

pub returns-in_err-span : goal.returns-in_err-span
returns-in_err-span c =
    let before = c.args.self.now.rest.now in
    stops_piece span (span_of c.args.kind c.args.prev) c.new-reader.result.rest.now before _ c.from_residual.result
    c.new-reader.ensures c.in_err-span.ensures c.from_residual.ensures.1
    (renamed_absent _ _ _ _ _ (span_narrowed c.args.kind c.args.prev) before)

pub returns-then-not-is_placed : goal.returns-then-not-is_placed
returns-then-not-is_placed c =
    let before = c.args.self.now.rest.now in
    let broken : ¬ Placed c.args.kind c.args.prev c.in_ok-span.span = λ keeps.
    elim c.then-not-is_placed.branch [
      | then-not-is_placed-via-then-not-is_placed w ↦ false≢true (w.if-not-is_placed.ensures ∙ keeps.0)
      | then-not-is_placed-via-else-not-is_placed+then-operations-from w ↦ omega
          (arith, keeps.1, w.from.ensures, w.operations.ensures, w.if-operations-from.true)
    ] in (
      refl,
      renamed_refused _ _ _ _ _ (span_narrowed c.args.kind c.args.prev) before c.span.new.self.rest.now
          c.in_ok-span.span
          (found_here span c.new-reader.result.rest.now before _ _ c.new-reader.ensures c.in_ok-span.ensures) broken,
    )

pub returns : goal.returns
returns c =
    let before = c.args.self.now.rest.now in
    renamed_found _ _ _ _ _ (span_narrowed c.args.kind c.args.prev) before c.span.new.self.rest.now c.in_ok-span.span
    (found_here span c.new-reader.result.rest.now before _ _ c.new-reader.ensures c.in_ok-span.ensures) (
      sym c.if-not-is_placed.ensures,
      omega (arith, c.from.ensures, c.operations.ensures, c.if-operations-from.false),
    )
