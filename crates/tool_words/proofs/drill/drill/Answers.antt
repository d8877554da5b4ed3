use Rattle.std.proofs.Common.{Global, inl, map, refl, string_bytes}
use Rattle.tool_words.proofs.DrillLemmas.{drill_are, drill_takes, drill_values, same_drill, values_drill}
use Rattle.tool_words.proofs.FaultLemmas.{memory_of}
use Rattle.tool_words.proofs.drill.drill.Goals as goal

pub returns-in_err-matches-clause-only : goal.returns-in_err-matches-clause-only
returns-in_err-matches-clause-only c = λ seed count i.
    let words = map (string_bytes {Z = Global}) c.args.words.now in
    let are = drill_are words seed count i in
    memory_of c.from_residual.result c.in_err-matches.field-0.0 _ c.from_residual.ensures.1
    (c.in_err-matches.ensures.only are (drill_takes words are))

pub returns-in_err-seed-clause-only : goal.returns-in_err-seed-clause-only
returns-in_err-seed-clause-only c = λ seed count i.
    let (are, has) = c.in_ok-matches.ensures.found in
    let values = drill_values (map (string_bytes {Z = Global}) c.args.words.now) c.in_ok-matches.matches
    seed count i are
    has in
    absurd (let e = c.in_err-seed.ensures.only i.seed_word seed values.0 i.is_seed in cc)

pub returns-in_err-count-clause-only : goal.returns-in_err-count-clause-only
returns-in_err-count-clause-only c = λ seed count i.
    let (are, has) = c.in_ok-matches.ensures.found in
    let values = drill_values (map (string_bytes {Z = Global}) c.args.words.now) c.in_ok-matches.matches
    seed count i are
    has in
    absurd (let e = c.in_err-count.ensures.only i.count_word count values.1 i.is_count in cc)

pub returns-clause-found : goal.returns-clause-found
returns-clause-found c =
    let (are, has) = c.in_ok-matches.ensures.found in
    let (seed_word, first, is_seed) = c.in_ok-seed.ensures.found in
    let (count_word, second, is_count) = c.in_ok-count.ensures.found in (
      c.in_ok-seed.seed,
      c.in_ok-count.count,
      refl,
      values_drill (map (string_bytes {Z = Global}) c.args.words.now) c.in_ok-matches.matches c.in_ok-seed.seed
          c.in_ok-count.count seed_word count_word are has first second is_seed is_count,
    )

pub returns-clause-only : goal.returns-clause-only
returns-clause-only c = λ seed count i.
    let (are, has) = c.in_ok-matches.ensures.found in
    let values = drill_values (map (string_bytes {Z = Global}) c.args.words.now) c.in_ok-matches.matches
    seed count i are
    has in
    inl (same_drill seed c.in_ok-seed.seed count c.in_ok-count.count
    (c.in_ok-seed.ensures.only i.seed_word seed values.0 i.is_seed)
    (c.in_ok-count.ensures.only i.count_word count values.1 i.is_count))
