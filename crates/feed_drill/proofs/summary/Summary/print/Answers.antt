use Rattle.std.proofs.Common.{◌≡◌, ◌∙◌, ◌++◌, ℕ, List, ap, codes, decimal, subst}
use Rattle.feed_drill.specs.Summary.{SummaryValue, summary_text}
use Rattle.feed_drill.proofs.SummaryLemmas.{after, number, print-is}
use Rattle.feed_drill.proofs.summary.Summary.print.Goals as goal

pub returns : goal.returns
returns c =
    subst (λ (s : SummaryValue). c.push.new.self.items ≡ summary_text s) c.self.view_is
    (print-is _ c.push_line.new.text.items c.push_line-2.new.text.items c.push_line-3.new.text.items
    c.push_line-4.new.text.items c.push_line-5.new.text.items c.push_numbered.new.text.items
    c.push_line-6.new.text.items c.extend_from_slice.new.self.items c.extend_from_slice-2.new.self.items
    c.push.new.self.items
    (c.in_ok-push_line.ensures ∙ after c.new-text.ensures.items (codes "operations ") c.from.ensures)
    (c.in_ok-push_line-2.ensures ∙ number c.push_line.new.text.items (codes "version ") c.from-2.ensures)
    (c.in_ok-push_line-3.ensures ∙ number c.push_line-2.new.text.items (codes "archives ") c.from-3.ensures)
    c.in_ok-push_line-4.ensures c.in_ok-push_line-5.ensures
    (c.in_ok-push_numbered.ensures ∙ ap (λ (n : ℕ). c.push_line-5.new.text.items ++
    (codes "complete " ++ decimal n)) c.from-4.ensures)
    (c.in_ok-push_line-6.ensures ∙ number c.push_numbered.new.text.items (codes " ") c.from-5.ensures)
    c.in_ok-extend_from_slice.ensures.items
    (c.in_ok-extend_from_slice-2.ensures.items
    ∙ ap (λ (l : List ℕ). c.extend_from_slice.new.self.items ++ l) (c.as_slice.ensures ∙ c.digits_of.ensures))
    c.in_ok-push.ensures.items)
