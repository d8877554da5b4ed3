use Rattle.feed_life.proofs.AnswerLemmas.{answers-served}
use Rattle.feed_life.proofs.laws.stores_answer_what_is_served.Goals as goal

pub returns : goal.returns
returns c = λ head history is_head is_lawful address bytes. answers-served head history address is_head is_lawful bytes
