use Rattle.scrub_command.proofs.OneAnswerLemmas.{sound-given, unsound-given}
use Rattle.scrub_command.proofs.sound.scrub.Goals as goal

pub returns-in_ok-line_of-in-Ok-clause-answer : goal.returns-in_ok-line_of-in-Ok-clause-answer
returns-in_ok-line_of-in-Ok-clause-answer g c = λ observable.
    sound-given _ c.stores_are_sound_in_one_way.ensures _ _ (c.in-Ok.ensures.sound observable) _
    c.in_ok-line_of-in-Ok.ensures

pub returns-in-Err-clause-refused : goal.returns-in-Err-clause-refused
returns-in-Err-clause-refused g c = λ refuses observable.
    rw c.of_unsound.ensures (unsound-given _ c.in-Err.fault (c.in-Err.ensures.unsound observable)
    (rw c.of_unsound.ensures at refuses) (c.in-Err.ensures.only observable))
