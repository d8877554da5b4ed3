use Rattle.std.proofs.Common.{◌-◌, length, arith}
use Rattle.http_face.proofs.ReadLemmas.{read_behind, if_ok_with}
use Rattle.http_face.proofs.fill.read_behind.Goals as goal

pub returns-clause-bytes : goal.returns-clause-bytes
returns-clause-bytes g c =
    if_ok_with c.read.result _ _ _ (λ count within bytes observable.
    read_behind c.args.filled count (length c.args.buffer.now - c.args.filled) c.args.buffer.now c.read.new.into
    (g.C.Conn.state c.args.conn.now).left (g.C.Conn.state c.read.new.self).left (omega arith)
    (omega (arith, within, c.read.auto.into)) (bytes observable)) c.read.ensures.within c.read.ensures.bytes
