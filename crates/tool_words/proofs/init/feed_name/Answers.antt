use Rattle.std.proofs.Common.{subst, Err, ap}
use Rattle.tool_words.specs.Words.{IsFeedIdText, IsNameText}
use Rattle.tool_words.proofs.FaultLemmas.{memory_only, not_usage_of}
use Rattle.tool_words.proofs.init.feed_name.Goals as goal

pub returns-in_err-id-clause-only : goal.returns-in_err-id-clause-only
returns-in_err-id-clause-only c = λ name named.
    let given = subst (λ v. IsFeedIdText v name.id) c.in_ok-required.ensures.found named.id in
    absurd (let e = c.in_err-id.ensures.only name.id given in cc)

pub returns-in_err-author-clause-only : goal.returns-in_err-author-clause-only
returns-in_err-author-clause-only c = λ name named.
    let given = subst (λ v. IsNameText v name.author) c.in_ok-required-3.ensures.found named.author in
    memory_only c.from_residual-in_err-author.result c.in_err-author.field-0.0 name
    c.from_residual-in_err-author.ensures.1
    (λ usage. c.in_err-author.ensures.refused (ap Err usage) name.author given)

pub returns-in_err-base-clause-only : goal.returns-in_err-base-clause-only
returns-in_err-base-clause-only c = λ name named.
    memory_only c.from_residual.result c.in_err-base.field-0.0 name
    c.from_residual.ensures.1
    (not_usage_of c.in_err-base.field-0.0 name.base (c.in_err-base.ensures.only name.base named.base))
