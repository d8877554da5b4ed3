use Rattle.std.proofs.Common.{◌≡◌, ap, ◌∙◌, refl}
use Rattle.std.specs.Prelude.{None, Some}
use Rattle.document_server.proofs.LinkLemmas.{needed-written, none-since, read-written, reported-none, reported-reply}
use Rattle.document_server.proofs.LinkLemmas.{sent-none, sent-reply, serves-one, turn-sent}
use Rattle.document_server.specs.declared.line.Line.{Line}
use Rattle.http_face.specs.Conn.{ConnState}
use Rattle.document_server.proofs.session.serve_connection.Goals as goal

pub returns-in_default-clause-serves : goal.returns-in_default-clause-serves
returns-in_default-clause-serves g c =
    let none : c.reply_to.result ≡ None = none-since c.reply_to.result c.in_default.not-Some in
    let reads = c.reply_to.ensures.reads in
    let before = g.D.Disk.state c.args.disk.now in
    let after = g.D.Disk.state c.reply_to.new.disk in
    let given = g.K.Conn.state c.args.link.now in
    let back = g.K.Conn.state c.reply_to.new.link in
    serves-one before after (g.C.Clock.coming c.args.clock.now) (g.C.Clock.coming c.reply_to.new.clock) given back back
    g.D.Disk.observable g.C.Clock.observable g.K.Conn.observable c.args.store.now c.reply_to.new.store None c.line_of.result
    (λ now turn is. is) (rw none at c.reply_to.ensures.replies) c.reply_to.ensures.steps
    (rw none at c.reply_to.ensures.spent)
    (reported-none before after given back c.line_of.result (ap (λ (l : Line). l.status) c.line_of.ensures.is)
    (ap (λ (l : Line). l.whole) c.line_of.ensures.is) (reads.begun ∙ c.requires.unbegun) (c.reply_to.ensures.lost none)
    c.reply_to.ensures.read)
    (λ observable. sent-none before after given back c.line_of.result reads (c.reply_to.ensures.needed observable))
    (ap (λ (l : Line). l.version) c.line_of.ensures.is) (ap (λ (l : Line). l.calls) c.line_of.ensures.is)
    c.reply_to.ensures.grows (λ some. absurd (some (ap (λ (l : Line). l.status) c.line_of.ensures.is)))

pub returns-clause-serves : goal.returns-clause-serves
returns-clause-serves g c =
    let before = g.D.Disk.state c.args.disk.now in
    let after = g.D.Disk.state c.reply_to.new.disk in
    let given = g.K.Conn.state c.args.link.now in
    let read = g.K.Conn.state c.reply_to.new.link in
    let begun = g.K.Conn.state c.begin.new.self in
    let back = g.K.Conn.state c.write_reply.new.conn in
    let reply = c.in-Some.reply in
    let line = c.line_of-2.result in
    let whole = ap (λ (l : Line). l.whole) c.line_of-2.ensures.is ∙ c.is_ok-whole.ensures.value in
    serves-one before after (g.C.Clock.coming c.args.clock.now) (g.C.Clock.coming c.reply_to.new.clock) given read back
    g.D.Disk.observable g.C.Clock.observable g.K.Conn.observable c.args.store.now c.reply_to.new.store (Some reply) line
    (λ now turn is. turn-sent before after _ _ _ _ _ _ _ _ _ is) (rw c.in-Some.is at c.reply_to.ensures.replies)
    c.reply_to.ensures.steps (rw c.in-Some.is at c.reply_to.ensures.spent)
    (reported-reply before after given back line begun reply c.write_reply.result
    (ap (λ (l : Line). l.status) c.line_of-2.ensures.is) c.in-Some.ensures.status
    (ap (λ (s : ConnState). s.faults) c.begin.ensures ∙ c.in-Some.ensures.unfailed refl)
    c.write_reply.ensures.counts whole (read-written given read begun back
    (ap (λ (s : ConnState). s.bytes_read) c.begin.ensures) c.write_reply.ensures.writes c.reply_to.ensures.read))
    (λ observable. sent-reply before after given back line g.K.Conn.observable begun reply c.write_reply.result observable
    (ap (λ (s : ConnState). s.sent) c.begin.ensures ∙ c.reply_to.ensures.reads.sent) c.write_reply.ensures.whole
    c.write_reply.ensures.cut whole (needed-written given read begun back
    (ap (λ (s : ConnState). s.reads) c.begin.ensures) (ap (λ (s : ConnState). s.before_read) c.begin.ensures)
    c.write_reply.ensures.writes (c.reply_to.ensures.needed observable)))
    (ap (λ (l : Line). l.version) c.line_of-2.ensures.is) (ap (λ (l : Line). l.calls) c.line_of-2.ensures.is)
    c.reply_to.ensures.grows
    (λ some. c.write_reply.ensures.writes.begun ∙ ap (λ (s : ConnState). s.begun) c.begin.ensures)
