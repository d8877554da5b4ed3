use Rattle.http_face.proofs.AnswerLemmas.{only_answer}
use Rattle.http_face.proofs.response.read_response.Goals as goal

pub returns-clause-only : goal.returns-clause-only
returns-clause-only g c =
    only_answer g.C.Conn.observable (g.C.Conn.state c.args.conn.now).left c.read_within.result c.read_within.ensures.answered
    c.read_within.ensures.bad
