use Rattle.std.proofs.Common.{◌≤◌, length, take, arith, length-take}
use Rattle.http_face.specs.Heard.{head_limit}
use Rattle.http_face.proofs.AnswerLemmas.{result_answered, answer_bad}
use Rattle.http_face.proofs.ReadLemmas.{takes_more, takes_both}
use Rattle.http_face.proofs.response.read_within.Goals as goal

pub returns-clause-answered : goal.returns-clause-answered
returns-clause-answered g c =
    let head = c.in_ok-head.head in
    let buffer = c.read_response_head.new.buffer in
    let short : length (take head.filled buffer) ≤ head_limit =
    omega (arith, length-take head.filled buffer, c.read_response_head.auto.buffer, c.requires.room) in
    let complete = c.in_ok-head.ensures.complete in
    result_answered (g.C.Conn.state c.args.conn.now).left (take head.filled buffer)
    (g.C.Conn.state c.read_response_head.new.conn).left c.read_response_head.new.headers head.spans complete.0
    g.C.Conn.observable c.answer_of.result c.in_ok-head.ensures.bytes short c.in_ok-head.ensures.within complete.1
    c.in_ok-head.ensures.few c.answer_of.ensures.answered

pub returns-clause-bad : goal.returns-clause-bad
returns-clause-bad g c = λ fails observable.
    let head = c.in_ok-head.head in
    let buffer = c.read_response_head.new.buffer in
    let short : length (take head.filled buffer) ≤ head_limit =
    omega (arith, length-take head.filled buffer, c.read_response_head.auto.buffer, c.requires.room) in
    let complete = c.in_ok-head.ensures.complete in
    answer_bad (g.C.Conn.state c.args.conn.now).left (take head.filled buffer)
    (g.C.Conn.state c.read_response_head.new.conn).left c.read_response_head.new.headers head.spans complete.0
    (c.in_ok-head.ensures.bytes observable) short c.in_ok-head.ensures.within complete.1 c.in_ok-head.ensures.few
    (c.answer_of.ensures.bad fails observable)

pub returns-clause-most : goal.returns-clause-most
returns-clause-most g c = λ observable.
    takes_more _ _ _ _ (omega arith)
    (takes_both _ _ _ _ _ (c.in_ok-head.ensures.most observable) (c.answer_of.ensures.most observable))
