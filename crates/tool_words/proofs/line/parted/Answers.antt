use Rattle.tool_words.proofs.LineLemmas.{parted-none, parted-at}
use Rattle.tool_words.proofs.line.parted.Goals as goal

pub returns-in_err-at : goal.returns-in_err-at
returns-in_err-at c = rw c.from_residual.ensures (parted-none c.args.words.now c.in_err-at.ensures)

pub returns : goal.returns
returns c = parted-at c.args.words.now c.in_ok-at.at c.in_ok-at.ensures
