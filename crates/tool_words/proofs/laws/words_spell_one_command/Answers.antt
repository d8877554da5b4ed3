use Rattle.tool_words.proofs.OneCommandLemmas.{one_command}
use Rattle.tool_words.proofs.laws.words_spell_one_command.Goals as goal

pub returns : goal.returns
returns c = one_command
