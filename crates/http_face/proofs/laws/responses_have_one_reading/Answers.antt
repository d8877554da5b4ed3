use Rattle.http_face.proofs.AnswerLemmas.{one_response, not_bad}
use Rattle.http_face.proofs.laws.responses_have_one_reading.Goals as goal

pub returns-clause-one : goal.returns-clause-one
returns-clause-one c = one_response

pub returns-clause-answered : goal.returns-clause-answered
returns-clause-answered c = not_bad
