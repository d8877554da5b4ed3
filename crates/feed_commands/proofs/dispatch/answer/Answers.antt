use Rattle.std.proofs.lemmas.Result.{IfErr-weaker, IfOk-weaker}
use Rattle.feed_disk.specs.declared.area.Area.TheVariants.{Journal, Mirror, Sealed}
use Rattle.feed_recovery.proofs.LoadedLemmas.{alone-payloads}
use Rattle.feed_commands.proofs.CommandLemmas.{document-given, init-given, repair-given, scrub-given, scrub-is}
use Rattle.feed_commands.proofs.dispatch.answer.Goals as goal

pub returns-in-Init-clause-answer : goal.returns-in-Init-clause-answer
returns-in-Init-clause-answer g c = λ source. rw c.in-Init.is (IfOk-weaker c.init.result _ _
    (λ written given seen. init-given _ _ c.in-Init.name c.in-Init.window c.in-Init.capacity
    (given (seen.disk tt))) c.init.ensures.answer)

pub returns-in-Init-clause-refused : goal.returns-in-Init-clause-refused
returns-in-Init-clause-refused g c = λ source. rw c.in-Init.is (IfErr-weaker c.init.result _ _
    (λ fault given refusal seen. init-given _ _ c.in-Init.name c.in-Init.window c.in-Init.capacity
    (given refusal (seen.disk tt))) c.init.ensures.refused)

pub returns-in-Document-clause-answer : goal.returns-in-Document-clause-answer
returns-in-Document-clause-answer g c = λ source. rw (c.in-Show.is, c.in-Document.is) (IfOk-weaker c.show.result _ _
    (λ written given seen. document-given _ _ (given (seen.input tt))) c.show.ensures.shown)

pub returns-in-Document-clause-refused : goal.returns-in-Document-clause-refused
returns-in-Document-clause-refused g c = λ source. rw (c.in-Show.is, c.in-Document.is) (IfErr-weaker c.show.result _ _
    (λ fault given refusal seen. document-given _ _ (given refusal (seen.input tt))) c.show.ensures.refused)

pub returns-in-Scrub-false-clause-answer : goal.returns-in-Scrub-false-clause-answer
returns-in-Scrub-false-clause-answer g c = λ source.
    rw (scrub-is c.in-Scrub-false.is c.in-Scrub-false.repair-test) (IfOk-weaker c.scrub.result _ _
    (λ written given seen. scrub-given _ _ (given (seen.disk tt))) c.scrub.ensures.answer)

pub returns-in-Scrub-false-clause-refused : goal.returns-in-Scrub-false-clause-refused
returns-in-Scrub-false-clause-refused g c = λ source.
    rw (scrub-is c.in-Scrub-false.is c.in-Scrub-false.repair-test) (IfErr-weaker c.scrub.result _ _
    (λ fault given refusal seen. scrub-given _ _ (given refusal (seen.disk tt))) c.scrub.ensures.refused)

pub returns-in-Scrub-false-clause-safe : goal.returns-in-Scrub-false-clause-safe
returns-in-Scrub-false-clause-safe g c = λ adds observable.
    alone-payloads _ _ (c.scrub.ensures.areas Journal) (c.scrub.ensures.areas Sealed)

pub returns-in-Scrub-false-clause-mirror : goal.returns-in-Scrub-false-clause-mirror
returns-in-Scrub-false-clause-mirror g c = c.scrub.ensures.areas Mirror

pub returns-in-Scrub-true-clause-answer : goal.returns-in-Scrub-true-clause-answer
returns-in-Scrub-true-clause-answer g c = λ source.
    rw (scrub-is c.in-Scrub-true.is c.in-Scrub-true.repair-test) (IfOk-weaker c.repair.result _ _
    (λ written given seen. repair-given _ _ (given (seen.disk tt))) c.repair.ensures.answer)

pub returns-in-Scrub-true-clause-refused : goal.returns-in-Scrub-true-clause-refused
returns-in-Scrub-true-clause-refused g c = λ source.
    rw (scrub-is c.in-Scrub-true.is c.in-Scrub-true.repair-test) (IfErr-weaker c.repair.result _ _
    (λ fault given refusal seen. repair-given _ _ (given refusal (seen.disk tt))) c.repair.ensures.refused)
