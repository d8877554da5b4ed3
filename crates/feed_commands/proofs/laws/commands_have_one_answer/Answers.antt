use Rattle.feed_commands.proofs.AnswerLemmas.{answer_once}
use Rattle.feed_commands.proofs.laws.commands_have_one_answer.Goals as goal

pub returns : goal.returns
returns c =
    answer_once c.stores_open_in_one_way.ensures c.foreign_has_one_answer.ensures c.discover_has_one_answer.ensures
    c.sound_stores_have_one_answer.ensures c.repairs_have_one_end.ensures
