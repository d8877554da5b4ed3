use Rattle.std.proofs.Common.{ℕ, Some, sym, ◌∙◌, ap}
use Rattle.std.proofs.lemmas.Result.{IfOk-weaker}
use Rattle.feed_journal.proofs.ReadLemmas.{place_length, place_whole}
use Rattle.feed_journal.proofs.frames.Frames.read.Goals as goal

pub returns-clause-payload : goal.returns-clause-payload
returns-clause-payload g c =
    IfOk-weaker c.read_part.result _ _ (λ payload is tells.
    place_whole c.args.self.now.extents c.args.index c.args.extent c.requires.place
    ((g.D.Disk.state c.args.disk.now).content c.args.self.now.area) payload.items (c.requires.listed tells) (is tells))
    c.read_part.ensures.part

pub returns-clause-length : goal.returns-clause-length
returns-clause-length g c =
    IfOk-weaker c.read_part.result _ _ (λ payload long.
    place_length c.args.self.now.extents c.args.index c.args.extent c.requires.place
    ∙ ap (λ (n : ℕ). Some n) (sym long)) c.read_part.ensures.length
