use Rattle.std.proofs.Common.{◌≡◌, ap, sym, refl, ◌∙◌}
use Rattle.std.specs.Prelude.{None}
use Rattle.document_server.proofs.LinkLemmas.{none-since}
use Rattle.document_server.proofs.StepLemmas.{counts-as}
use Rattle.mirror_walk.specs.Mirror.{is_spent}
use Rattle.relay_command.proofs.ReplyLemmas.{read-back-spent}
use Rattle.relay_command.proofs.SessionLemmas.{relays-none, relays-reply}
use Rattle.relay_command.proofs.session.serve_connection.Goals as goal

pub returns-in_default-clause-relays : goal.returns-in_default-clause-relays
returns-in_default-clause-relays g c =
    let none : c.reply_to.result ≡ None = none-since c.reply_to.result c.in_default.not-Some in
    relays-none g.D.Disk.observable g.K.Conn.observable c.args.base.now c.args.mirror.now.kept
    (g.D.Disk.state c.args.disk.now) (g.D.Disk.state c.reply_to.new.disk) (g.K.Conn.state c.args.link.now)
    (g.K.Conn.state c.reply_to.new.link) _ (c.reply_to.ensures.lost none) c.reply_to.ensures.reads c.requires.unbegun
    c.reply_to.ensures.read c.reply_to.ensures.needed
    (λ spent. let same = sym none ∙ c.reply_to.ensures.spent spent in cc)

pub returns-in_default-clause-mirror : goal.returns-in_default-clause-mirror
returns-in_default-clause-mirror g c =
    read-back-spent g.D.Disk.observable (g.D.Disk.state c.reply_to.new.disk) c.args.mirror.now c.reply_to.new.mirror _
    c.reply_to.ensures.spent c.reply_to.ensures.mirror

pub returns-in_default-clause-faults : goal.returns-in_default-clause-faults
returns-in_default-clause-faults g c =
    counts-as _ _ _ _ (λ fails. ap is_spent (c.reply_to.ensures.mirror.spent fails)) c.reply_to.ensures.spent
    c.reply_to.ensures.faults

pub returns-clause-relays : goal.returns-clause-relays
returns-clause-relays g c =
    relays-reply g.D.Disk.observable g.K.Conn.observable c.args.base.now c.args.mirror.now.kept
    (g.D.Disk.state c.args.disk.now) (g.D.Disk.state c.reply_to.new.disk) (g.K.Conn.state c.args.link.now)
    (g.K.Conn.state c.write_reply.new.conn) _ (g.K.Conn.state c.reply_to.new.link) (g.K.Conn.state c.begin.new.self)
    c.in-Some.reply c.write_reply.result c.in-Some.ensures.status
    (rw c.in-Some.is at c.reply_to.ensures.replied) (rw c.in-Some.is at c.reply_to.ensures.documents)
    c.reply_to.ensures.reads (c.in-Some.ensures.unfailed refl) c.reply_to.ensures.read c.reply_to.ensures.needed
    c.begin.ensures c.write_reply.ensures.writes c.write_reply.ensures.counts c.write_reply.ensures.whole
    c.write_reply.ensures.cut
    (λ spent. sym c.in-Some.is ∙ c.reply_to.ensures.spent spent)
    (λ fails. ap is_spent (c.reply_to.ensures.mirror.spent (c.in-Some.is ∙ fails)))

pub returns-clause-mirror : goal.returns-clause-mirror
returns-clause-mirror g c =
    read-back-spent g.D.Disk.observable (g.D.Disk.state c.reply_to.new.disk) c.args.mirror.now c.reply_to.new.mirror _
    c.reply_to.ensures.spent c.reply_to.ensures.mirror

pub returns-clause-faults : goal.returns-clause-faults
returns-clause-faults g c =
    counts-as _ _ _ _ (λ fails. ap is_spent (c.reply_to.ensures.mirror.spent fails)) c.reply_to.ensures.spent
    c.reply_to.ensures.faults
