use Rattle.std.proofs.Common.{◌≤◌, ◌<◌, length, refl, sym, ◌∙◌, arith}
use Rattle.feed_reader.proofs.FeedEntryLemmas.{none_from}
use Rattle.service_reader.specs.Service.{collection_limit}
use Rattle.service_reader.proofs.ServiceFoundLemmas.{found_bad, found_more, found_over}
use Rattle.service_reader.proofs.found.Found.add.Goals as goal

pub returns-in_default : goal.returns-in_default
returns-in_default c = λ address seen child h none here link takes.
    found_bad address seen child c.args.self.now _ h none c.args.at here refl
    (sym link ∙ none_from c.args.href c.in_default.not-Some)

pub returns-then-len : goal.returns-then-len
returns-then-len c = λ address seen child h none here link takes.
    let old = c.args.self.now in
    let same = c.if-len.true in
    let count = c.len.ensures.count in
    let many : collection_limit ≤ length old.collections.items = omega (arith, same, count) in
    found_over address seen child old _ h none c.args.at here refl c.in-Some.href (sym link ∙ c.in-Some.is) many

pub returns-in-Ok : goal.returns-in-Ok
returns-in-Ok c = λ address seen child h none here link takes.
    let old = c.args.self.now in
    let count = c.len.ensures.count in
    let within = c.len.ensures.within in
    let other = c.if-len.false in
    let few : length old.collections.items < collection_limit = omega (arith, count, within, other) in
    found_more address seen child old _ h none (record { href = c.in-Some.href; entries = c.args.entries })
    (record { href = sym link ∙ c.in-Some.is; entries = takes }) none c.in-Ok.ensures.ok few
