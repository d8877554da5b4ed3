use Rattle.std.proofs.Common.{◌++◌, [], ◌∷◌, map, take, append_assoc, append-nil, sym, ap, ◌∙◌}
use Rattle.std.proofs.lemmas.List.{take_all}
use Rattle.tool_words.specs.Parse.{app_with, flag_rule, option_rule}
use Rattle.tool_words.specs.Reading.{names_of}
use Rattle.tool_words.proofs.CommandOfLemmas.{bare, one_more, rules_more}
use Rattle.tool_words.proofs.parse.command_of.Goals as goal

pub loop-name-init : goal.loop-name-init
loop-name-init c =
    bare c.new.result c.no_binary_name.result c.disable_help_flag-command.result c.new.ensures.app
    c.no_binary_name.ensures c.disable_help_flag-command.ensures

pub loop-name-preserved : goal.loop-name-preserved
loop-name-preserved c =
    let names = c.args.names.now in
    let i = c.loop-name.name-index in
    one_more c.loop-name.command c.in_ok-command.command c.option.result (map option_rule (names_of (take i names))) _
    c.in_ok-command.ensures c.option.ensures.local c.option.ensures.rule c.loop-name.invariant
    ∙ ap app_with (sym (rules_more option_rule names i _ c.loop-name-test.true))

pub loop-flag-init : goal.loop-flag-init
loop-flag-init c =
    let names = c.args.names.now in
    c.loop-name.invariant
    ∙ ap (λ some. app_with (map option_rule (names_of some)))
    (take_all c.loop-name.name-index names c.loop-name-test.false)
    ∙ ap app_with (sym (append-nil (map option_rule (names_of names))))

pub loop-flag-preserved : goal.loop-flag-preserved
loop-flag-preserved c =
    let flags = c.args.flags.now in
    let i = c.loop-flag.flag-index in
    let options = map option_rule (names_of c.args.names.now) in
    let before = map flag_rule (names_of (take i flags)) in
    one_more c.loop-flag.command c.in_ok-command-2.command c.flag_of.result (options ++ before) _
    c.in_ok-command-2.ensures c.flag_of.ensures.local c.flag_of.ensures.rule c.loop-flag.invariant
    ∙ ap app_with (append_assoc options before (_ ∷ [])
    ∙ ap (λ some. options ++ some) (sym (rules_more flag_rule flags i _ c.loop-flag-test.true)))

pub returns : goal.returns
returns c =
    c.loop-flag.invariant
    ∙ ap (λ some. app_with (map option_rule (names_of c.args.names.now) ++ map flag_rule (names_of some)))
    (take_all c.loop-flag.flag-index c.args.flags.now c.loop-flag-test.false)
