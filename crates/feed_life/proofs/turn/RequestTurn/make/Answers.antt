use Rattle.document_server.proofs.LinkLemmas.{stays-or-grows}
use Rattle.feed_life.proofs.TurnLemmas.{answer-says}
use Rattle.feed_life.proofs.turn.RequestTurn.make.Goals as goal

pub returns-clause-answered : goal.returns-clause-answered
returns-clause-answered c = answer-says _ _ _ _ _ (c.answer.ensures.answered tt)

pub returns-clause-leaves : goal.returns-clause-leaves
returns-clause-leaves c = c.answer.ensures.leaves tt

pub returns-clause-settled : goal.returns-clause-settled
returns-clause-settled c = λ other. c.answer.ensures.settled other tt

pub returns-clause-either : goal.returns-clause-either
returns-clause-either c =
    stays-or-grows c.args.self.now.verb c.answer.result _ _ c.answer.ensures.grows c.answer.ensures.same
