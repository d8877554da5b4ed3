use Rattle.std.proofs.Common.{Global, map, string_bytes}
use Rattle.tool_words.specs.Reading.{names_of}
use Rattle.tool_words.proofs.ParseLemmas.{matches_found, matches_only}
use Rattle.tool_words.proofs.parse.parsed.Goals as goal

pub returns-clause-found : goal.returns-clause-found
returns-clause-found c =
    matches_found (names_of c.args.names.now) (names_of c.args.flags.now)
    (map (string_bytes {Z = Global}) c.args.words.now) c.requires
    (c.in_ok-are_options.ensures.sound c.if-not-branch.false) _ c.matched.result c.in_ok-command_of.ensures
    c.matched.ensures.found

pub returns-clause-only : goal.returns-clause-only
returns-clause-only c = λ options are.
    matches_only (names_of c.args.names.now) (names_of c.args.flags.now)
    (map (string_bytes {Z = Global}) c.args.words.now) c.requires options are _ c.matched.result
    c.in_ok-command_of.ensures c.matched.ensures.found c.matched.ensures.only
