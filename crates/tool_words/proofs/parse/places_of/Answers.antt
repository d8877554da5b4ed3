use Rattle.std.proofs.Common.{map, take, sym, ap, ◌∙◌}
use Rattle.std.proofs.lemmas.List.{take_all}
use Rattle.tool_words.specs.Parse.{app_with, place_rule}
use Rattle.tool_words.specs.Reading.{names_of}
use Rattle.tool_words.proofs.CommandOfLemmas.{bare, one_more, rules_more}
use Rattle.tool_words.proofs.parse.places_of.Goals as goal

pub loop-name-init : goal.loop-name-init
loop-name-init c =
    bare c.new.result c.no_binary_name.result c.disable_help_flag-command.result c.new.ensures.app
    c.no_binary_name.ensures c.disable_help_flag-command.ensures

pub loop-name-preserved : goal.loop-name-preserved
loop-name-preserved c =
    let names = c.args.names.now in
    let i = c.loop-name.name-index in
    one_more c.loop-name.command c.in_ok-command.command c.place.result (map place_rule (names_of (take i names))) _
    c.in_ok-command.ensures c.place.ensures.local c.place.ensures.rule c.loop-name.invariant
    ∙ ap app_with (sym (rules_more place_rule names i _ c.loop-name-test.true))

pub returns : goal.returns
returns c =
    c.loop-name.invariant
    ∙ ap (λ some. app_with (map place_rule (names_of some)))
    (take_all c.loop-name.name-index c.args.names.now c.loop-name-test.false)
