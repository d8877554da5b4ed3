use Rattle.feed_relay.proofs.SameLemmas.{walks-same}
use Rattle.feed_relay.proofs.laws.walks_of_relays_show_the_same.Goals as goal

pub returns : goal.returns
returns c = walks-same
