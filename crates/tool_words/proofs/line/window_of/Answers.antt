use Rattle.std.proofs.Common.{ap, arith, option_map}
use Rattle.tool_words.specs.declared.line.LineAsk.TheVariants.{Window}
use Rattle.tool_words.proofs.LineLemmas.{window_number-large, window_number-none, window_number-some}
use Rattle.tool_words.proofs.line.window_of.Goals.{in_default-via-in-Some+else-size-le-LINE_WINDOW_LIMIT, in_default-via-in_default}
use Rattle.tool_words.proofs.line.window_of.Goals as goal

pub returns-in-Some-clause-found : goal.returns-in-Some-clause-found
returns-in-Some-clause-found c =
    let f = c.in-Some.ensures.found in
    let high = c.if-size-le-LINE_WINDOW_LIMIT.true in
    ap (option_map Window) (window_number-some c.args.digits.now c.in-Some.size f.0 high f.2)

pub returns-in_default-clause-bad : goal.returns-in_default-clause-bad
returns-in_default-clause-bad c = λ _.
    let digits = c.args.digits.now in
    ap (option_map Window) (elim c.in_default.branch [
      | in_default-via-in-Some+else-size-le-LINE_WINDOW_LIMIT w ↦
          let f = w.in-Some.ensures.found in
          window_number-large digits w.in-Some.size w.if-size-le-LINE_WINDOW_LIMIT.false f.1 f.2
      | in_default-via-in_default w ↦ window_number-none digits (λ n low high e.
          w.in_default.not-Some n (c.whole_number.ensures.only n low (omega arith) e))
    ])
