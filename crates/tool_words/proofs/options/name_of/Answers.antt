use Rattle.std.proofs.Common.{Some, None, ap}
use Rattle.tool_words.proofs.WordLemmas.{cut_joined}
use Rattle.tool_words.proofs.options.name_of.Goals as goal

pub returns-in-Some-clause-joined : goal.returns-in-Some-clause-joined
returns-in-Some-clause-joined c = λ name value free e.
    let p = cut_joined c.args.word.now c.in_ok-option.option.now name value
    (Some (c.in-Some.name, c.in-Some.value)) c.in_ok-option.ensures.cases c.in-Some.ensures.cases free e in
    (p.0, ap Some p.1)

pub returns-in-None-clause-joined : goal.returns-in-None-clause-joined
returns-in-None-clause-joined c = λ name value free e.
    absurd (cut_joined c.args.word.now c.in_ok-option.option.now name value None
    c.in_ok-option.ensures.cases c.in-None.ensures.cases free e)
