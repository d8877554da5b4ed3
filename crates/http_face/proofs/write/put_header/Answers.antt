use Rattle.std.proofs.Common.{◌++◌, codes}
use Rattle.std.proofs.lemmas.Result.{err_from_is_err_and}
use Rattle.http_face.specs.Put.{put_state}
use Rattle.http_face.proofs.PutLemmas.{put_cut, put_then, put_then_cut}
use Rattle.http_face.proofs.write.put_header.Goals as goal

pub returns-in_err-put-clause-puts : goal.returns-in_err-put-clause-puts
returns-in_err-put-clause-puts g c =
    let p = err_from_is_err_and c.from_residual.result c.from_residual.ensures.1 in
    rw (p.1, p.2) (put_cut (codes ": " ++ (c.args.value.now ++ codes "\r\n")) c.in_err-put.ensures.puts)

pub returns-in_err-put-2-clause-puts : goal.returns-in_err-put-2-clause-puts
returns-in_err-put-2-clause-puts g c =
    let p = err_from_is_err_and c.from_residual-in_err-put-2.result c.from_residual-in_err-put-2.ensures.1 in
    rw (p.1, p.2) (put_then_cut c.in_ok-put.ensures.puts
    (put_cut (c.args.value.now ++ codes "\r\n") c.in_err-put-2.ensures.puts))

pub returns-in_err-put-3-clause-puts : goal.returns-in_err-put-3-clause-puts
returns-in_err-put-3-clause-puts g c =
    let p = err_from_is_err_and c.from_residual-in_err-put-3.result c.from_residual-in_err-put-3.ensures.1 in
    rw (p.1, p.2) (put_then_cut c.in_ok-put.ensures.puts (put_then_cut c.in_ok-put-2.ensures.puts
    (put_cut (codes "\r\n") c.in_err-put-3.ensures.puts)))

pub returns-clause-puts : goal.returns-clause-puts
returns-clause-puts g c =
    let value = c.args.value.now in
    let s = put_state (g.C.Conn.state c.args.conn.now).sent c.args.waiting.now in
    let t = put_state (g.C.Conn.state c.put.new.conn).sent c.put.new.waiting in
    let v = put_state (g.C.Conn.state c.put-2.new.conn).sent c.put-2.new.waiting in
    let w = put_state (g.C.Conn.state c.put-3.new.conn).sent c.put-3.new.waiting in
    let u = put_state (g.C.Conn.state c.put-4.new.conn).sent c.put-4.new.waiting in
    put_then g.C.Conn.observable c.args.name.now (codes ": " ++ (value ++ codes "\r\n")) s t u c.put-4.result
    c.in_ok-put.ensures.puts
    (put_then g.C.Conn.observable (codes ": ") (value ++ codes "\r\n") t v u c.put-4.result c.in_ok-put-2.ensures.puts
    (put_then g.C.Conn.observable value (codes "\r\n") v w u c.put-4.result c.in_ok-put-3.ensures.puts c.put-4.ensures.puts))
