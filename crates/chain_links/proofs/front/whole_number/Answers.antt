-- A text that is a number is taken whole.
use Rattle.std.proofs.Common.{[], length, ◌==◌, sym, ap, ◌∙◌, append-nil, decimal}
use Rattle.std.proofs.lemmas.Bool.{true≢false}
use Rattle.chain_links.proofs.front.whole_number.Goals as goal

pub returns-in_err-value-clause-only : goal.returns-in_err-value-clause-only
returns-in_err-value-clause-only c = λ n some small e.
    absurd (c.in_err-value.ensures.only n [] some small tt (e ∙ sym (append-nil (decimal n))))

pub returns-else-is_empty-clause-only : goal.returns-else-is_empty-clause-only
returns-else-is_empty-clause-only c = λ n some small e.
    let p = c.in_ok-value.ensures.only n [] some small tt (e ∙ sym (append-nil (decimal n))) in
    absurd (true≢false (sym (ap (λ x. length x == 0) p.1) ∙ sym c.is_empty.ensures ∙ c.if-is_empty.false))
