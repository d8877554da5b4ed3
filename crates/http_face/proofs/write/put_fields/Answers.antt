use Rattle.std.proofs.Common.{List, ℕ, ◌++◌, length, codes, ap, ◌∙◌}
use Rattle.std.specs.Prelude.{decimal, option_map}
use Rattle.std.proofs.lemmas.Result.{err_from_is_err_and}
use Rattle.http_face.specs.declared.reply.Reply.{Reply}
use Rattle.http_face.specs.Reply.{header, optional_header, media_text, allow_text, body_text}
use Rattle.http_face.specs.Put.{put_state}
use Rattle.http_face.proofs.PutLemmas.{put_cut, put_then, put_then_cut, put_as, cut_as}
use Rattle.http_face.proofs.write.put_fields.Goals as goal

-- the fields from `Connection`, `Allow`, `Location` and `Content-Length` on
abbrev last : List ℕ
last = codes "Connection: close\r\n\r\n"

abbrev from_allow : Reply → List ℕ
from_allow reply = optional_header (codes "Allow") (option_map allow_text reply.allow) ++ last

abbrev from_location : Reply → List ℕ
from_location reply = optional_header (codes "Location") reply.location ++ from_allow reply

abbrev from_length : Reply → List ℕ
from_length reply = header (codes "Content-Length") (decimal (length (body_text reply.body))) ++ from_location reply

pub returns-in_err-put_header-clause-puts : goal.returns-in_err-put_header-clause-puts
returns-in_err-put_header-clause-puts g c =
    let p = err_from_is_err_and c.from_residual.result c.from_residual.ensures.1 in
    let media = ap (header (codes "Content-Type")) c.text.ensures in
    rw (p.1, p.2) (put_cut (from_length c.args.reply.now) (cut_as media c.in_err-put_header.ensures.puts))

pub returns-in_err-put_header-2-clause-puts : goal.returns-in_err-put_header-2-clause-puts
returns-in_err-put_header-2-clause-puts g c =
    let p = err_from_is_err_and c.from_residual-in_err-put_header-2.result
    c.from_residual-in_err-put_header-2.ensures.1 in
    let media = ap (header (codes "Content-Type")) c.text.ensures in
    let size = ap (header (codes "Content-Length")) (c.as_bytes-length.ensures.value ∙ c.format.ensures.text
    ∙ ap decimal (ap length c.bytes.ensures)) in
    rw (p.1, p.2) (put_then_cut (put_as media c.in_ok-put_header.ensures.puts)
    (put_cut (from_location c.args.reply.now) (cut_as size c.in_err-put_header-2.ensures.puts)))

pub returns-in_err-put_location-clause-puts : goal.returns-in_err-put_location-clause-puts
returns-in_err-put_location-clause-puts g c =
    let p = err_from_is_err_and c.from_residual-in_err-put_location.result
    c.from_residual-in_err-put_location.ensures.1 in
    let media = ap (header (codes "Content-Type")) c.text.ensures in
    let size = ap (header (codes "Content-Length")) (c.as_bytes-length.ensures.value ∙ c.format.ensures.text
    ∙ ap decimal (ap length c.bytes.ensures)) in
    rw (p.1, p.2) (put_then_cut (put_as media c.in_ok-put_header.ensures.puts)
    (put_then_cut (put_as size c.in_ok-put_header-2.ensures.puts)
    (put_cut (from_allow c.args.reply.now) c.in_err-put_location.ensures.puts)))

pub returns-in_err-put-clause-puts : goal.returns-in_err-put-clause-puts
returns-in_err-put-clause-puts g c =
    let p = err_from_is_err_and c.from_residual-in_err-put.result c.from_residual-in_err-put.ensures.1 in
    let media = ap (header (codes "Content-Type")) c.text.ensures in
    let size = ap (header (codes "Content-Length")) (c.as_bytes-length.ensures.value ∙ c.format.ensures.text
    ∙ ap decimal (ap length c.bytes.ensures)) in
    rw (p.1, p.2) (put_then_cut (put_as media c.in_ok-put_header.ensures.puts)
    (put_then_cut (put_as size c.in_ok-put_header-2.ensures.puts)
    (put_then_cut c.in_ok-put_location.ensures.puts
    (put_cut last (cut_as c.header.ensures c.in_err-put.ensures.puts)))))

pub returns-clause-puts : goal.returns-clause-puts
returns-clause-puts g c =
    let reply = c.args.reply.now in
    let s = put_state (g.C.Conn.state c.args.conn.now).sent c.args.waiting.now in
    let t = put_state (g.C.Conn.state c.put_header.new.conn).sent c.put_header.new.waiting in
    let v = put_state (g.C.Conn.state c.put_header-2.new.conn).sent c.put_header-2.new.waiting in
    let w = put_state (g.C.Conn.state c.put_location.new.conn).sent c.put_location.new.waiting in
    let x = put_state (g.C.Conn.state c.put.new.conn).sent c.put.new.waiting in
    let u = put_state (g.C.Conn.state c.put-2.new.conn).sent c.put-2.new.waiting in
    let media = ap (header (codes "Content-Type")) c.text.ensures in
    let size = ap (header (codes "Content-Length")) (c.as_bytes-length.ensures.value ∙ c.format.ensures.text
    ∙ ap decimal (ap length c.bytes.ensures)) in
    let first = header (codes "Content-Type") (media_text reply.media) in
    let second = header (codes "Content-Length") (decimal (length (body_text reply.body))) in
    let third = optional_header (codes "Location") reply.location in
    let fourth = optional_header (codes "Allow") (option_map allow_text reply.allow) in
    put_then g.C.Conn.observable first (from_length reply) s t u c.put-2.result
    (put_as media c.in_ok-put_header.ensures.puts)
    (put_then g.C.Conn.observable second (from_location reply) t v u c.put-2.result
    (put_as size c.in_ok-put_header-2.ensures.puts)
    (put_then g.C.Conn.observable third (from_allow reply) v w u c.put-2.result c.in_ok-put_location.ensures.puts
    (put_then g.C.Conn.observable fourth last w x u c.put-2.result (put_as c.header.ensures c.in_ok-put.ensures.puts)
    c.put-2.ensures.puts)))
