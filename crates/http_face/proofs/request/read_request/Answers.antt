use Rattle.http_face.proofs.ReadingLemmas.{only_request}
use Rattle.http_face.proofs.request.read_request.Goals as goal

pub returns-clause-only : goal.returns-clause-only
returns-clause-only g c =
    only_request g.C.Conn.observable (g.C.Conn.state c.args.conn.now).left c.read_within.result c.read_within.ensures.heard
    c.read_within.ensures.refused
