use Rattle.std.proofs.Common.{subst, sym}
use Rattle.feed_relay.specs.Fetch.{relay_answers}
use Rattle.feed_relay.proofs.AnswerLemmas.{relays-answer}
use Rattle.feed_relay.proofs.ServedLemmas.{walks-served}
use Rattle.feed_relay.proofs.laws.walks_of_relays_keep_what_is_served.Goals as goal
use Rattle.mirror_walk.specs.Published.{HoldsServed}
use Rattle.mirror_walk.specs.Walk.{setting_by}

pub returns : goal.returns
returns c = λ head history relayed mirror now before after given loaded relayed_served served walked works.
    subst (HoldsServed head history) (sym (walked.left works))
    (walks-served head history (setting_by mirror (relay_answers mirror.base relayed))
    (relays-answer head history mirror.base relayed loaded relayed_served) walked.asked walked.accepted mirror.kept
    walked.held _ walked.ending served walked.walks)
