use Rattle.std.proofs.Common.{◌≡◌, subst}
use Rattle.document_server.specs.Answer.{IsAnswer, LeavesAnswered}
use Rattle.feed_disk.specs.Memory.{state_of}
use Rattle.feed_life.specs.Asks.{of_setting}
use Rattle.feed_life.proofs.TurnLemmas.{answer-says, set-either}
use Rattle.feed_life.proofs.turn.SettingTurn.make.Goals as goal
use Rattle.http_face.specs.Reply.{disk_fault}
use Rattle.member_rules.specs.declared.setting.Setting.{Setting}

pub returns-clause-answered : goal.returns-clause-answered
returns-clause-answered c =
    subst (λ (setting : Setting). IsAnswer (of_setting setting c.args.now c.args.store.now) c.args.store.now
    c.set.new.store c.set.result (c.set.result ≡ disk_fault)) c.in_ok-setting.ensures.same
    (answer-says _ _ _ _ _ c.set.ensures.answered)

pub returns-clause-leaves : goal.returns-clause-leaves
returns-clause-leaves c =
    subst (λ (setting : Setting). LeavesAnswered (of_setting setting c.args.now c.args.store.now)
    (state_of c.args.disk.now) (state_of c.set.new.disk) c.args.store.now c.set.new.store
    (c.set.result ≡ disk_fault)) c.in_ok-setting.ensures.same (c.set.ensures.leaves tt)

pub returns-clause-settled : goal.returns-clause-settled
returns-clause-settled c = λ other. c.set.ensures.settled other tt

pub returns-clause-either : goal.returns-clause-either
returns-clause-either c = set-either c.set.result _ _ c.set.ensures.grows c.set.ensures.same
