use Rattle.std.proofs.Common.{ap, ◌||◌}
use Rattle.feed_reader.proofs.FeedPartLemmas.{noted_child}
use Rattle.feed_reader.proofs.text.Required.note.Goals as goal

pub returns : goal.returns
returns c = λ b inner e of h.
    let old = c.args.self.now in
    noted_child b e inner old _ h (ap (λ k. old.id || k) (c.is_atom.ensures e of))
    (ap (λ k. old.updated || k) (c.is_atom-2.ensures e of))
