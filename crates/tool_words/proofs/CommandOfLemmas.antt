-- How the command of `clap` grows.
use Rattle.std.proofs.Common.{◌≡◌, ◌<◌, ◌+◌, ◌∙◌, ℕ, List, [], ◌∷◌, ◌++◌, Bor, true, false, map, take, length, get_or}
use Rattle.std.proofs.Common.{ap, ap₂, codes}
use Rattle.std.proofs.lemmas.List.{map-append, take_more}
use Rattle.clap.specs.Words.{AddsArg, App, Rule, Text, app_of, new_app, rule_of, with_rule}
use Rattle.clap.specs.Simple.{app_of_fields}
use Rattle.clap.specs.declared.builder.arg.Arg.{Arg}
use Rattle.clap.specs.declared.builder.command.Command.{Command}
use Rattle.clap.specs.declared.builder.command.Command.TheViews.{out-Command as fields_of}
use Rattle.tool_words.specs.Parse.{app_with}
use Rattle.tool_words.specs.Reading.{names_of}

-- the command with no argument
pub bare : (made unnamed command : Command) → app_of made ≡ new_app (codes "feed_tool") →
    fields_of unnamed ≡ record (fields_of made) { no_binary_name = true } →
    fields_of command ≡ record (fields_of unnamed) { disable_help_flag = true } → app_of command ≡ app_with []
bare made unnamed command is named helped =
    ap app_of_fields helped ∙ ap (λ fields. app_of_fields (record fields { disable_help_flag = true })) named
    ∙ ap (λ (app : App). record {
      top = record app.top { no_binary_name = true; disable_help_flag = true };
      subs = app.subs;
    }) is

-- one more argument
pub one_more : (old new : Command) (arg : Arg) (rules : List Rule) (rule : Rule) → AddsArg old arg new →
    arg.global ≡ false → rule_of arg ≡ rule → app_of old ≡ app_with rules → app_of new ≡ app_with (rules ++ rule ∷ [])
one_more old new arg rules rule adds local is before = adds.shape local ∙ ap₂ with_rule before is

-- the rules of one more name
pub rules_more : (rule : Text → Rule) (names : List (Bor Text)) (i : ℕ) (d : Bor Text) → i < length names →
    map rule (names_of (take (i + 1) names)) ≡ map rule (names_of (take i names)) ++ rule (get_or names i d).now ∷ []
rules_more rule names i d within =
    ap (λ some. map rule (names_of some)) (take_more names i d within)
    ∙ ap (map rule) (map-append (λ name. name.now) (take i names) (get_or names i d ∷ []))
    ∙ map-append rule (names_of (take i names)) ((get_or names i d).now ∷ [])
