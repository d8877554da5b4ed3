use Rattle.std.proofs.Common.{ap, ◌∙◌, arith}
use Rattle.member_rules.specs.Shows.{live_count_of}
use Rattle.mirror_walk.specs.Holding.{HeldValue, chain_of}
use Rattle.mirror_walk.specs.Index.{IsListing}
use Rattle.mirror_walk.proofs.ListedCountLemmas.{entries-live, len-live_count, len-lt}
use Rattle.mirror_walk.proofs.documents.Documents.live_count.Goals as goal
use Rattle.mirror_walk.proofs.documents.Documents.live_count.Goals.{After-len}

listing : (c : After-len) → IsListing c.self.inside.kept.items c.self.inside.map.entries
listing c = c.self.invariant.listing (ap (λ (v : HeldValue). v.listed) c.self.view_is ∙ c.requires)

pub overflow_cast-result : goal.overflow_cast-result
overflow_cast-result c =
    let listed = listing (goal.at.overflow_cast-result c).After-len in
    let kept = c.self.inside.kept.items in
    let live = c.self.inside.map.entries in
    let few = len-lt (chain_of kept) live c.len.ensures.ordered listed.members
    (entries-live kept (chain_of kept) live listed.entries) in
    omega arith

pub returns : goal.returns
returns c =
    let listed = listing (goal.at.returns c).After-len in
    let kept = c.self.inside.kept.items in
    let live = c.self.inside.map.entries in
    c.len.ensures.len
    ∙ len-live_count (chain_of kept) live c.len.ensures.ordered listed.members
    (entries-live kept (chain_of kept) live listed.entries)
    ∙ ap (λ (v : HeldValue). live_count_of (chain_of v.kept)) c.self.view_is
