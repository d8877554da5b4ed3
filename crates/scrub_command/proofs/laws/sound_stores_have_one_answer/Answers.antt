use Rattle.scrub_command.proofs.OneAnswerLemmas.{one_sound}
use Rattle.scrub_command.proofs.laws.sound_stores_have_one_answer.Goals as goal

pub returns : goal.returns
returns c = one_sound c.stores_are_sound_in_one_way.ensures
