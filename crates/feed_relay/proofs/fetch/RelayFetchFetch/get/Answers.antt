use Rattle.feed_relay.proofs.GetsLemmas.{gets-put, gets-taken}
use Rattle.feed_relay.proofs.fetch.RelayFetchFetch.get.Goals as goal

pub returns-in-Err-NoMemory-clause-gets : goal.returns-in-Err-NoMemory-clause-gets
returns-in-Err-NoMemory-clause-gets g c =
    gets-taken g.D.Disk.observable g.D.Disk.state _ _ _ _ _ _ c.self-2.view_is
    (gets-put g.D.Disk.observable g.D.Disk.state _ _ _ _ _ _ c.self.view_is c.answer-answer.ensures.gets)

pub returns-in_ok-asked-clause-gets : goal.returns-in_ok-asked-clause-gets
returns-in_ok-asked-clause-gets g c =
    let gets = c.answer-answer.ensures.gets in
    gets-put g.D.Disk.observable g.D.Disk.state _ _ _ _ _ _ c.self.view_is c.answer-answer.ensures.gets

pub returns-in_ok-asked-2-clause-gets : goal.returns-in_ok-asked-2-clause-gets
returns-in_ok-asked-2-clause-gets g c =
    let gets = c.answer-answer.ensures.gets in
    gets-put g.D.Disk.observable g.D.Disk.state _ _ _ _ _ _ c.self.view_is c.answer-answer.ensures.gets
