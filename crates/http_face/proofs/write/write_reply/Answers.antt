use Rattle.std.proofs.Common.{◌≡◌, ℕ, List, [], ◌++◌, take, refl, ap, append-nil}
use Rattle.std.proofs.lemmas.Result.{err_from_is_err_and, on_ok_weaker}
use Rattle.http_face.specs.Reply.{status_line, fields_text, body_text, reply_bytes}
use Rattle.http_face.proofs.PutLemmas.{put_cut, put_then, put_then_cut, put_as, cut_as, reply_cut, ends_whole, ends_cut}
use Rattle.http_face.proofs.write.write_reply.Goals as goal

pub returns-in_err-put_status_line-clause-cut : goal.returns-in_err-put_status_line-clause-cut
returns-in_err-put_status_line-clause-cut g c =
    let p = err_from_is_err_and c.from_residual.result c.from_residual.ensures.1 in
    rw (p.1, p.2) (reply_cut _ (reply_bytes c.args.reply.now) _ _ _ refl refl
    (put_cut (fields_text c.args.reply.now ++ body_text c.args.reply.now.body) c.in_err-put_status_line.ensures.puts))

pub returns-in_err-put_fields-clause-cut : goal.returns-in_err-put_fields-clause-cut
returns-in_err-put_fields-clause-cut g c =
    let p = err_from_is_err_and c.from_residual-in_err-put_fields.result c.from_residual-in_err-put_fields.ensures.1 in
    rw (p.1, p.2) (reply_cut _ (reply_bytes c.args.reply.now) _ _ _ refl refl
    (put_then_cut c.in_ok-put_status_line.ensures.puts
    (put_cut (body_text c.args.reply.now.body) c.in_err-put_fields.ensures.puts)))

pub returns-in_err-put-clause-cut : goal.returns-in_err-put-clause-cut
returns-in_err-put-clause-cut g c =
    let p = err_from_is_err_and c.from_residual-in_err-put.result c.from_residual-in_err-put.ensures.1 in
    rw (p.1, p.2) (reply_cut _ (reply_bytes c.args.reply.now) _ _ _ refl refl
    (put_then_cut c.in_ok-put_status_line.ensures.puts
    (put_then_cut c.in_ok-put_fields.ensures.puts (cut_as c.bytes.ensures c.in_err-put.ensures.puts))))

pub returns-clause-whole : goal.returns-clause-whole
returns-clause-whole g c =
    let reply = c.args.reply.now in
    let line = status_line reply.status in
    let fields = fields_text reply in
    let body = body_text reply.body in
    let all = put_then _ line (fields ++ (body ++ [])) _ _ _ c.flush.result c.in_ok-put_status_line.ensures.puts
    (put_then _ fields (body ++ []) _ _ _ c.flush.result c.in_ok-put_fields.ensures.puts
    (put_then _ body [] _ _ _ c.flush.result (put_as c.bytes.ensures c.in_ok-put.ensures.puts) c.flush.ensures.puts)) in
    let done = on_ok_weaker c.flush.result (λ (e : c.flush.new.waiting.filled ≡ 0).
    ap (λ (n : ℕ). take n c.flush.new.waiting.buffer) e) c.flush.ensures.empty in
    ends_whole _ (line ++ (fields ++ body)) (line ++ (fields ++ (body ++ []))) _ _ c.flush.result
    (ap (λ (x : List ℕ). line ++ (fields ++ x)) (append-nil body)) refl done all

pub returns-clause-cut : goal.returns-clause-cut
returns-clause-cut g c =
    let reply = c.args.reply.now in
    let line = status_line reply.status in
    let fields = fields_text reply in
    let body = body_text reply.body in
    let all = put_then _ line (fields ++ (body ++ [])) _ _ _ c.flush.result c.in_ok-put_status_line.ensures.puts
    (put_then _ fields (body ++ []) _ _ _ c.flush.result c.in_ok-put_fields.ensures.puts
    (put_then _ body [] _ _ _ c.flush.result (put_as c.bytes.ensures c.in_ok-put.ensures.puts) c.flush.ensures.puts)) in
    ends_cut _ (line ++ (fields ++ body)) (line ++ (fields ++ (body ++ []))) _ _ c.flush.result
    (ap (λ (x : List ℕ). line ++ (fields ++ x)) (append-nil body)) refl refl all
