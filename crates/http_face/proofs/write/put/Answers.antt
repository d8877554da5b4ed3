use Rattle.std.proofs.Common.{[]}
use Rattle.std.proofs.lemmas.Result.{err_from_is_err_and}
use Rattle.http_face.proofs.PutLemmas.{put_cut, put_then}
use Rattle.http_face.proofs.write.put.Goals as goal

pub returns-in_err-make_room-clause-puts : goal.returns-in_err-make_room-clause-puts
returns-in_err-make_room-clause-puts g c =
    let p = err_from_is_err_and c.from_residual.result c.from_residual.ensures.1 in
    rw (p.1, p.2) (put_cut c.args.part.now c.in_err-make_room.ensures.puts)

pub returns-then-part-waiting-clause-puts : goal.returns-then-part-waiting-clause-puts
returns-then-part-waiting-clause-puts g c =
    put_then _ [] c.args.part.now _ _ _ c.send.result c.in_ok-make_room.ensures.puts c.send.ensures.puts
