use Rattle.feed_drill.specs.Requests.{feed_request}
use Rattle.feed_drill.proofs.request.show_request.Goals as goal

pub returns : goal.returns
unfolding feed_request
returns c = c.bare_request.ensures
