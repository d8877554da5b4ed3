use Rattle.std.proofs.Common.{List, Global, map, length, string_bytes}
use Rattle.tool_words.specs.Options.{Given, AreOptions}
use Rattle.tool_words.specs.Reading.{names_of}
use Rattle.tool_words.proofs.OptionLemmas.{AreBegun, IsLeft}
use Rattle.tool_words.proofs.options.are_options.Given as goal

abbrev pub invariant-loop-given : goal.invariant-loop-given
invariant-loop-given l =
    let names = names_of l.names in
    let flags = names_of l.flags in
    let words = map (string_bytes {Z = Global}) l.words in
    let seen = names_of l.seen.items in
    let rest = map (string_bytes {Z = Global}) l.rest in
    record {
      begun : AreBegun names flags words seen rest;
      only : (all : List Given) → AreOptions names flags words all → IsLeft seen rest all;
    }

abbrev pub decreases-loop-given : goal.decreases-loop-given
decreases-loop-given l = length l.rest
