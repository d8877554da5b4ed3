use Rattle.std.proofs.Common.{Global, map, string_bytes, ap, sym, ◌∙◌, arith}
use Rattle.std.proofs.lemmas.Bool.{true≢false}
use Rattle.clap.specs.Words.{takes}
use Rattle.tool_words.specs.Reading.{names_of}
use Rattle.tool_words.proofs.PlaceLemmas.{are_places, placed_found, places_few, places_values}
use Rattle.tool_words.proofs.parse.placed.Goals as goal
use Rattle.tool_words.proofs.parse.placed.Goals.{
  then-words-names-via-then-words-names,
  then-words-names-via-else-words-names+then-not-are_values,
}

pub returns-then-words-names-clause-only : goal.returns-then-words-names-clause-only
returns-then-words-names-clause-only c = λ are taken.
    let few = places_few c.args.names.now (string_bytes {Z = Global}) c.args.words.now are in
    let values = places_values (names_of c.args.names.now) (string_bytes {Z = Global}) c.args.words.now are in
    elim c.then-words-names.branch [
      | then-words-names-via-then-words-names w ↦ absurd (omega arith)
      | then-words-names-via-else-words-names+then-not-are_values w ↦
          absurd (true≢false (sym values ∙ sym w.are_values.ensures ∙ w.if-not-are_values.true))
    ]

pub returns-clause-found : goal.returns-clause-found
returns-clause-found c =
    placed_found (names_of c.args.names.now) (map (string_bytes {Z = Global}) c.args.words.now) _ c.matched.result
    (are_places c.args.names.now (string_bytes {Z = Global}) c.args.words.now (omega arith)
    (sym c.are_values.ensures ∙ c.if-not-are_values.false))
    c.in_ok-places_of.ensures c.matched.ensures.found

pub returns-clause-only : goal.returns-clause-only
returns-clause-only c = λ are taken.
    c.matched.ensures.only
    (ap (λ app. takes app (map (string_bytes {Z = Global}) c.args.words.now)) c.in_ok-places_of.ensures ∙ taken)
