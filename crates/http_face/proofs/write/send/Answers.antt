use Rattle.std.proofs.Common.{◌≡◌, ℕ, List, [], ◌++◌, take, ap}
use Rattle.std.proofs.lemmas.Result.{err_from_is_err_and}
use Rattle.http_face.specs.Put.{put_state}
use Rattle.http_face.proofs.PutLemmas.{cut_here}
use Rattle.http_face.proofs.write.send.Goals as goal

pub returns-in_err-waiting-clause-puts : goal.returns-in_err-waiting-clause-puts
returns-in_err-waiting-clause-puts g c =
    let none : take c.args.waiting.now.filled c.args.waiting.now.buffer ≡ [] =
    ap (λ (n : ℕ). take n c.args.waiting.now.buffer) c.requires.empty in
    let p = err_from_is_err_and c.from_residual.result c.from_residual.ensures.1 in
    rw (p.1, p.2) (cut_here g.C.Conn.observable c.args.bytes.now
    (put_state (g.C.Conn.state c.args.conn.now).sent c.args.waiting.now)
    c.args.bytes.now _ _ (ap (λ (x : List ℕ). x ++ c.args.bytes.now) none) c.in_err-waiting.ensures.cut)
