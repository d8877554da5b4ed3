use Rattle.std.proofs.Common.{arith}
use Rattle.atom_grammar.proofs.TextLemmas.{never, place_within, cut_given, none_given}
use Rattle.atom_grammar.proofs.reader.Reader.up_to.Goals as goal

pub returns-in_err-at : goal.returns-in_err-at
returns-in_err-at c =
    none_given _ _ c.from_residual.result c.from_residual.ensures
    (never c.args.byte c.args.self.now.rest.now c.in_err-at.ensures)

pub split_at-requires : goal.split_at-requires
split_at-requires c =
    let within = place_within c.args.byte c.args.self.now.rest.now c.in_ok-at.at c.in_ok-at.ensures in
    omega arith

pub returns : goal.returns
returns c =
    cut_given c.args.byte c.args.self.now.rest.now c.split_at.result.0.now c.split_at.result.1.now c.in_ok-at.at
    c.in_ok-at.ensures c.split_at.ensures.front c.split_at.ensures.back
