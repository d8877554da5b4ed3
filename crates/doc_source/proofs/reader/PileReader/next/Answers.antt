use Rattle.doc_source.proofs.AnswerLemmas.{one_answer}
use Rattle.doc_source.proofs.reader.PileReader.next.Goals as goal

pub returns-in-Ok-clause-only : goal.returns-in-Ok-clause-only
returns-in-Ok-clause-only g c = λ fresh observable answer is of_bytes _.
    one_answer c.args.self.now.used c.args.self.now.limit _ _ answer (c.in-Ok.ensures.answer observable) is tt of_bytes

pub returns-in-Err-clause-only : goal.returns-in-Err-clause-only
returns-in-Err-clause-only g c = λ fresh observable answer is of_bytes of_result.
    one_answer c.args.self.now.used c.args.self.now.limit _ _ answer
    (c.in-Err.ensures.answer observable) is of_result of_bytes
