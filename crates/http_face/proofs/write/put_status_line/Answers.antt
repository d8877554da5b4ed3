use Rattle.std.proofs.Common.{ℕ, List, [], ◌++◌, codes, sym, ap, ◌∙◌}
use Rattle.std.specs.Prelude.{Option, decimal, unwrap_or}
use Rattle.std.proofs.lemmas.Result.{err_from_is_err_and}
use Rattle.http.specs.StatusCode.{reason_phrase}
use Rattle.http_face.specs.Put.{put_state}
use Rattle.http_face.proofs.PutLemmas.{put_cut, put_then, put_then_cut, put_as, cut_as}
use Rattle.http_face.proofs.write.put_status_line.Goals as goal

-- the line from the second space on
abbrev from_space : ℕ → List ℕ
from_space status = codes " " ++ (unwrap_or (reason_phrase status) [] ++ codes "\r\n")

pub returns-in_err-put-clause-puts : goal.returns-in_err-put-clause-puts
returns-in_err-put-clause-puts g c =
    let p = err_from_is_err_and c.from_residual.result c.from_residual.ensures.1 in
    rw (p.1, p.2) (put_cut (decimal c.args.status ++ from_space c.args.status) c.in_err-put.ensures.puts)

pub returns-in_err-put-2-clause-puts : goal.returns-in_err-put-2-clause-puts
returns-in_err-put-2-clause-puts g c =
    let p = err_from_is_err_and c.from_residual-in_err-put-2.result c.from_residual-in_err-put-2.ensures.1 in
    rw (p.1, p.2) (put_then_cut c.in_ok-put.ensures.puts
    (put_cut (from_space c.args.status)
    (cut_as (c.as_bytes.ensures.value ∙ c.format.ensures.text) c.in_err-put-2.ensures.puts)))

pub returns-in_err-put-3-clause-puts : goal.returns-in_err-put-3-clause-puts
returns-in_err-put-3-clause-puts g c =
    let p = err_from_is_err_and c.from_residual-in_err-put-3.result c.from_residual-in_err-put-3.ensures.1 in
    rw (p.1, p.2) (put_then_cut c.in_ok-put.ensures.puts
    (put_then_cut (put_as (c.as_bytes.ensures.value ∙ c.format.ensures.text) c.in_ok-put-2.ensures.puts)
    (put_cut (unwrap_or (reason_phrase c.args.status) [] ++ codes "\r\n") c.in_err-put-3.ensures.puts)))

pub returns-in_err-put-4-clause-puts : goal.returns-in_err-put-4-clause-puts
returns-in_err-put-4-clause-puts g c =
    let p = err_from_is_err_and c.from_residual-in_err-put-4.result c.from_residual-in_err-put-4.ensures.1 in
    let text = sym (ap (λ (o : Option (List ℕ)). unwrap_or o []) c.phrase.ensures) in
    rw (p.1, p.2) (put_then_cut c.in_ok-put.ensures.puts
    (put_then_cut (put_as (c.as_bytes.ensures.value ∙ c.format.ensures.text) c.in_ok-put-2.ensures.puts)
    (put_then_cut c.in_ok-put-3.ensures.puts (put_cut (codes "\r\n") (cut_as text c.in_err-put-4.ensures.puts)))))

pub returns-clause-puts : goal.returns-clause-puts
returns-clause-puts g c =
    let s = put_state (g.C.Conn.state c.args.conn.now).sent c.args.waiting.now in
    let t = put_state (g.C.Conn.state c.put.new.conn).sent c.put.new.waiting in
    let v = put_state (g.C.Conn.state c.put-2.new.conn).sent c.put-2.new.waiting in
    let w = put_state (g.C.Conn.state c.put-3.new.conn).sent c.put-3.new.waiting in
    let x = put_state (g.C.Conn.state c.put-4.new.conn).sent c.put-4.new.waiting in
    let u = put_state (g.C.Conn.state c.put-5.new.conn).sent c.put-5.new.waiting in
    let digits = decimal c.args.status in
    let phrase = unwrap_or (reason_phrase c.args.status) [] in
    let text = sym (ap (λ (o : Option (List ℕ)). unwrap_or o []) c.phrase.ensures) in
    put_then g.C.Conn.observable (codes "HTTP/1.1 ") (digits ++ (codes " " ++ (phrase ++ codes "\r\n"))) s t u c.put-5.result
    c.in_ok-put.ensures.puts
    (put_then g.C.Conn.observable digits (codes " " ++ (phrase ++ codes "\r\n")) t v u c.put-5.result
    (put_as (c.as_bytes.ensures.value ∙ c.format.ensures.text) c.in_ok-put-2.ensures.puts)
    (put_then g.C.Conn.observable (codes " ") (phrase ++ codes "\r\n") v w u c.put-5.result c.in_ok-put-3.ensures.puts
    (put_then g.C.Conn.observable phrase (codes "\r\n") w x u c.put-5.result (put_as text c.in_ok-put-4.ensures.puts)
    c.put-5.ensures.puts)))
