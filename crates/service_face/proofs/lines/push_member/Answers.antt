-- The line of a live member, and none of another.
use Rattle.std.proofs.Common.{sym, ◌∙◌, append-nil}
use Rattle.service_face.proofs.WalkLemmas.{lines_at-live, lines_at-none, not_live}
use Rattle.service_face.proofs.lines.push_member.Goals as goal

pub returns-in-Live : goal.returns-in-Live
returns-in-Live c = λ created history table.
    let state = sym (c.state.ensures.state created history table) ∙ c.in-Live.is in
    let same = lines_at-live c.args.base.now history c.args.number c.in-Live.version c.in-Live.updated state in
    rw same c.push_line.ensures

pub returns-in-Never : goal.returns-in-Never
returns-in-Never c = λ created history table.
    let state = c.state.ensures.state created history table in
    let other = not_live c.state.result c.in-Never.is in
    rw (lines_at-none c.args.base.now created history c.args.number table.following
    (λ updated version is. other updated version (state ∙ is)))
    (sym (append-nil c.args.text.now.items))
