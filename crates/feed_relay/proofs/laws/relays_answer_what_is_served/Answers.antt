use Rattle.feed_relay.proofs.AnswerLemmas.{relays-answer}
use Rattle.feed_relay.proofs.laws.relays_answer_what_is_served.Goals as goal

pub returns : goal.returns
returns c = relays-answer
