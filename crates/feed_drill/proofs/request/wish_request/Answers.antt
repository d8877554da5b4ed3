use Rattle.feed_drill.specs.Requests.{request_of}
use Rattle.feed_drill.proofs.request.wish_request.Goals as goal

pub returns-in-Create-clause-request : goal.returns-in-Create-clause-request
unfolding request_of
returns-in-Create-clause-request c = rw c.in-Create.is c.entry_request.ensures.request

pub returns-in-Replace-clause-request : goal.returns-in-Replace-clause-request
unfolding request_of
returns-in-Replace-clause-request c = rw c.in-Replace.is c.entry_request-in-Replace.ensures.request

pub returns-in-Delete-clause-request : goal.returns-in-Delete-clause-request
unfolding request_of
returns-in-Delete-clause-request c = rw c.in-Delete.is c.bare_request.ensures
