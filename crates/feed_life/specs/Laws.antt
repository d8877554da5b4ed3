-- The laws that the crates above cite. Each is the contract of a function of laws.rt.
use Rattle.std.specs.Prelude.{List}
use Rattle.feed_life.specs.StoreFetch.{store_answers}
use Rattle.member_rules.specs.Head.{HeadValue, IsHead}
use Rattle.member_rules.specs.History.{IsLawful}
use Rattle.member_rules.specs.declared.operation.Op.{Op}
use Rattle.mirror_walk.specs.Walk.{IsServedBy}

-- the feed of a store serves the documents that the store answers with
abbrev pub StoresAnswerWhatIsServed : Type 0
StoresAnswerWhatIsServed =
    (head : HeadValue) (history : List Op) → IsHead head → IsLawful head history
    → IsServedBy head history (store_answers head history)
