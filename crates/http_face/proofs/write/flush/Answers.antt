use Rattle.std.proofs.Common.{[], take, append-nil}
use Rattle.std.proofs.lemmas.Result.{err_from_is_err_and}
use Rattle.http_face.specs.Put.{put_state}
use Rattle.http_face.proofs.PutLemmas.{cut_here}
use Rattle.http_face.proofs.write.flush.Goals as goal

pub returns-in_err-waiting-clause-puts : goal.returns-in_err-waiting-clause-puts
returns-in_err-waiting-clause-puts g c =
    let p = err_from_is_err_and c.from_residual.result c.from_residual.ensures.1 in
    rw (p.1, p.2) (cut_here g.C.Conn.observable [] (put_state (g.C.Conn.state c.args.conn.now).sent c.args.waiting.now)
    (take c.args.waiting.now.filled c.args.waiting.now.buffer) _ _ (append-nil _) c.in_err-waiting.ensures.cut)
