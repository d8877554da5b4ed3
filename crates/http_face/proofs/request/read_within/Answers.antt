use Rattle.std.proofs.Common.{◌≤◌, ◌++◌, length, take, inr, refl, arith, length-take}
use Rattle.std.proofs.lemmas.Result.{err_from_is_err_and}
use Rattle.http_face.specs.Heard.{head_limit}
use Rattle.http_face.specs.Request.{body_limit}
use Rattle.http_face.proofs.ReadLemmas.{takes_more, takes_both, rises_more, rises_both, needs_both}
use Rattle.http_face.proofs.RequestLemmas.{ends_unsettled, result_heard, result_refused}
use Rattle.http_face.proofs.request.read_within.Goals as goal

pub returns-clause-heard : goal.returns-clause-heard
returns-clause-heard g c =
    let head = c.in_ok-head.head in
    let buffer = c.read_head.new.buffer in
    let short : length (take head.filled buffer) ≤ head_limit =
    omega (arith, length-take head.filled buffer, c.read_head.auto.buffer, c.requires.room) in
    let complete = c.in_ok-head.ensures.complete in
    result_heard (g.C.Conn.state c.args.conn.now).left (take head.filled buffer)
    (g.C.Conn.state c.read_head.new.conn).left c.read_head.new.headers head.spans complete.0 g.C.Conn.observable
    c.request_of.result c.in_ok-head.ensures.bytes short c.in_ok-head.ensures.within complete.1 c.in_ok-head.ensures.few
    c.request_of.ensures.verb c.request_of.ensures.target c.request_of.ensures.media c.request_of.ensures.body

pub returns-clause-refused : goal.returns-clause-refused
returns-clause-refused g c =
    let head = c.in_ok-head.head in
    let buffer = c.read_head.new.buffer in
    let short : length (take head.filled buffer) ≤ head_limit =
    omega (arith, length-take head.filled buffer, c.read_head.auto.buffer, c.requires.room) in
    let complete = c.in_ok-head.ensures.complete in
    result_refused (g.C.Conn.state c.args.conn.now).left (take head.filled buffer)
    (g.C.Conn.state c.read_head.new.conn).left c.read_head.new.headers head.spans complete.0 g.C.Conn.observable
    c.request_of.result c.in_ok-head.ensures.bytes short c.in_ok-head.ensures.within complete.1 c.in_ok-head.ensures.few
    c.request_of.ensures.refused

pub returns-clause-most : goal.returns-clause-most
returns-clause-most g c = λ observable.
    takes_more _ _ _ _ (omega arith)
    (takes_both _ _ _ _ _ (c.in_ok-head.ensures.most observable) (c.request_of.ensures.most observable))

pub returns-in_err-head-clause-refused : goal.returns-in_err-head-clause-refused
returns-in_err-head-clause-refused g c =
    let p = err_from_is_err_and c.from_residual.result c.from_residual.ensures.1 in
    rw (p.1, p.2) (λ conn memory observable. inr (c.in_err-head.ensures.refused conn memory observable))

pub returns-clause-read : goal.returns-clause-read
returns-clause-read g c =
    rises_more _ _ _ _ (omega arith)
    (rises_both head_limit body_limit _ _ _ c.in_ok-head.ensures.read c.request_of.ensures.read)

pub returns-clause-needed : goal.returns-clause-needed
returns-clause-needed g c = λ observable.
    let head = c.in_ok-head.head in
    let bytes = take head.filled c.read_head.new.buffer in
    let short : length bytes ≤ head_limit =
    omega (arith, length-take head.filled c.read_head.new.buffer, c.read_head.auto.buffer, c.requires.room) in
    let complete = c.in_ok-head.ensures.complete in
    needs_both _ _ _ (g.C.Conn.state c.read_head.new.conn) _ bytes (c.in_ok-head.ensures.bytes observable)
    (λ before. ends_unsettled (bytes ++ before) bytes before c.read_head.new.headers head.spans complete.0 refl short
    c.in_ok-head.ensures.within complete.1 c.in_ok-head.ensures.few)
    (c.in_ok-head.ensures.needed observable) (c.request_of.ensures.needed observable)
