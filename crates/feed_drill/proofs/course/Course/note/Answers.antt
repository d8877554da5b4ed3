use Rattle.std.proofs.Common.{rules}
use Rattle.std.proofs.lemmas.Fn.{filter_same}
use Rattle.feed_drill.proofs.CourseLemmas.{note-delete}
use Rattle.feed_drill.proofs.course.Course.note.Goals as goal

pub returns-in-Delete : goal.returns-in-Delete
returns-in-Delete c =
    note-delete _ c.args.self.now c.args.wish c.in-Delete.number _ c.self.view_is c.in-Delete.is
    (filter_same _ _ _ (λ x b f' k. search rules) _ _ c.retain.ensures.filtered)
