use Rattle.std.proofs.Common.{Global, map, refl, inl, string_bytes}
use Rattle.tool_words.proofs.FaultLemmas.{memory_only, memory_of, not_usage_of}
use Rattle.tool_words.proofs.ForeignLemmas.{foreign_gives, gives_foreign, same_foreign}
use Rattle.tool_words.proofs.foreign.foreign.Goals as goal

pub returns-in_err-matches-clause-only : goal.returns-in_err-matches-clause-only
returns-in_err-matches-clause-only c = λ from i.
    memory_of c.from_residual.result c.in_err-matches.field-0.0 _ c.from_residual.ensures.1
    (c.in_err-matches.ensures.only i.options i.are_options)

pub returns-in_err-from-clause-only : goal.returns-in_err-from-clause-only
returns-in_err-from-clause-only c = λ from i.
    let g = foreign_gives (map (string_bytes {Z = Global}) c.args.words.now) c.in_ok-matches.matches from i
    (c.in_ok-matches.ensures.only i.options i.are_options) in
    memory_only c.from_residual-in_err-from.result c.in_err-from.field-0.0 _
    c.from_residual-in_err-from.ensures.1
    (not_usage_of c.in_err-from.field-0.0 from (c.in_err-from.ensures.only from g))

pub returns-clause-found : goal.returns-clause-found
returns-clause-found c =
    let (options, are, match) = c.in_ok-matches.ensures.found in (
      c.in_ok-from.from,
      refl,
      gives_foreign (map (string_bytes {Z = Global}) c.args.words.now) c.in_ok-matches.matches options
          c.in_ok-from.from are match c.in_ok-from.ensures.found,
    )

pub returns-clause-only : goal.returns-clause-only
returns-clause-only c = λ from i.
    let g = foreign_gives (map (string_bytes {Z = Global}) c.args.words.now) c.in_ok-matches.matches from i
    (c.in_ok-matches.ensures.only i.options i.are_options) in
    inl (same_foreign from c.in_ok-from.from (c.in_ok-from.ensures.only from g))
