use Rattle.std.proofs.Common.{◌≡◌, ap, sym, ◌∙◌, option_map}
use Rattle.tool_words.specs.Line.{change_of, line_ask, member_number, title_of, window_number}
use Rattle.tool_words.specs.declared.line.LineAsk.TheVariants.{Add, Remove, Title, Window}
use Rattle.tool_words.proofs.LineLemmas.{line_ask-add, line_ask-change, line_ask-limits, line_ask-none, line_ask-remove}
use Rattle.tool_words.proofs.LineLemmas.{line_ask-title, line_ask-window, only_good, read_as, within_limits}
use Rattle.tool_words.proofs.line.read_line.Goals as goal

pub returns-in-Some : goal.returns-in-Some
returns-in-Some c =
    let line = c.args.line.now in
    let cut = c.in-Some.ensures.cases in
    let is : line_ask line ≡ option_map Add (title_of c.in-Some.title.now) =
    line_ask-add line cut.0 ∙ ap (λ title. option_map Add (title_of title)) (sym cut.1) in
    let found = read_as (line_ask line) _ c.addition_of.result is c.addition_of.ensures.found in
    record {
      found = found;
      only = only_good (line_ask line) c.addition_of.result found (λ bad. is ∙ c.addition_of.ensures.bad bad);
      bad = λ bad. is ∙ c.addition_of.ensures.bad bad;
      limits = within_limits (line_ask line) c.addition_of.result (line_ask-limits line) found;
    }

pub returns-in-Some-strip_prefix : goal.returns-in-Some-strip_prefix
returns-in-Some-strip_prefix c =
    let line = c.args.line.now in
    let cut = c.in-Some-strip_prefix.ensures.cases in
    let is : line_ask line ≡ change_of c.in-Some-strip_prefix.words.now =
    line_ask-change line c.in_default.ensures.cases cut.0 ∙ ap change_of (sym cut.1) in
    let found = read_as (line_ask line) _ c.change_of.result is c.change_of.ensures.found in
    record {
      found = found;
      only = only_good (line_ask line) c.change_of.result found (λ bad. is ∙ c.change_of.ensures.bad bad);
      bad = λ bad. is ∙ c.change_of.ensures.bad bad;
      limits = within_limits (line_ask line) c.change_of.result (line_ask-limits line) found;
    }

pub returns-in-Some-strip_prefix-2 : goal.returns-in-Some-strip_prefix-2
returns-in-Some-strip_prefix-2 c =
    let line = c.args.line.now in
    let cut = c.in-Some-strip_prefix-2.ensures.cases in
    let is : line_ask line ≡ option_map Remove (member_number c.in-Some-strip_prefix-2.digits.now) =
    line_ask-remove line c.in_default.ensures.cases c.in_default-strip_prefix.ensures.cases cut.0
    ∙ ap (λ digits. option_map Remove (member_number digits)) (sym cut.1) in
    let found = read_as (line_ask line) _ c.removal_of.result is c.removal_of.ensures.found in
    record {
      found = found;
      only = only_good (line_ask line) c.removal_of.result found (λ bad. is ∙ c.removal_of.ensures.bad bad);
      bad = λ bad. is ∙ c.removal_of.ensures.bad bad;
      limits = within_limits (line_ask line) c.removal_of.result (line_ask-limits line) found;
    }

pub returns-in-Some-strip_prefix-3 : goal.returns-in-Some-strip_prefix-3
returns-in-Some-strip_prefix-3 c =
    let line = c.args.line.now in
    let cut = c.in-Some-strip_prefix-3.ensures.cases in
    let is : line_ask line ≡ option_map Title (title_of c.in-Some-strip_prefix-3.title.now) =
    line_ask-title line c.in_default.ensures.cases c.in_default-strip_prefix.ensures.cases
    c.in_default-strip_prefix-2.ensures.cases cut.0 ∙ ap (λ title. option_map Title (title_of title)) (sym cut.1) in
    let found = read_as (line_ask line) _ c.feed_title_of.result is c.feed_title_of.ensures.found in
    record {
      found = found;
      only = only_good (line_ask line) c.feed_title_of.result found (λ bad. is ∙ c.feed_title_of.ensures.bad bad);
      bad = λ bad. is ∙ c.feed_title_of.ensures.bad bad;
      limits = within_limits (line_ask line) c.feed_title_of.result (line_ask-limits line) found;
    }

pub returns-in-Some-strip_prefix-4 : goal.returns-in-Some-strip_prefix-4
returns-in-Some-strip_prefix-4 c =
    let line = c.args.line.now in
    let cut = c.in-Some-strip_prefix-4.ensures.cases in
    let is : line_ask line ≡ option_map Window (window_number c.in-Some-strip_prefix-4.digits.now) =
    line_ask-window line c.in_default.ensures.cases c.in_default-strip_prefix.ensures.cases
    c.in_default-strip_prefix-2.ensures.cases c.in_default-strip_prefix-3.ensures.cases cut.0
    ∙ ap (λ digits. option_map Window (window_number digits)) (sym cut.1) in
    let found = read_as (line_ask line) _ c.window_of.result is c.window_of.ensures.found in
    record {
      found = found;
      only = only_good (line_ask line) c.window_of.result found (λ bad. is ∙ c.window_of.ensures.bad bad);
      bad = λ bad. is ∙ c.window_of.ensures.bad bad;
      limits = within_limits (line_ask line) c.window_of.result (line_ask-limits line) found;
    }

pub returns-in-None : goal.returns-in-None
returns-in-None c =
    let none = line_ask-none c.args.line.now c.in_default.ensures.cases c.in_default-strip_prefix.ensures.cases
    c.in_default-strip_prefix-2.ensures.cases c.in_default-strip_prefix-3.ensures.cases c.in-None.ensures.cases in
    record {
      found = tt;
      only = λ ask e. absurd (let some = none in cc);
      bad = λ _. none;
      limits = tt;
    }
