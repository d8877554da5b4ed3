use Rattle.std.proofs.Common.{ap, ◌∙◌}
use Rattle.atom_values.specs.Entry.{EntryValue}
use Rattle.member_rules.specs.Removal.{RemovalValue}
use Rattle.member_rules.specs.declared.operation.Removal.TheInside.{Inside}
use Rattle.member_rules.proofs.MayFollowLemmas.{change-live, change-not_live, remove-live, remove-not_live}
use Rattle.member_rules.proofs.members.Members.fits.Goals as goal

pub returns-in-Live : goal.returns-in-Live
returns-in-Live c = λ created history of.
    change-live created history c.args.operation.now c.in-Change.entry c.entry-in-Change.inside.number
    c.in-Live.version c.in-Live.updated c.entry-in-Change.inside.updated c.le.result c.in-Change.is
    (ap (λ (e : EntryValue). e.number) c.entry-in-Change.view_is)
    (ap (λ (e : EntryValue). e.updated) c.entry-in-Change.view_is)
    of.following (c.in-Live.ensures.state created history of) c.le.ensures

pub returns-in-Never : goal.returns-in-Never
returns-in-Never c = λ created history of.
    change-not_live created history c.args.operation.now c.in-Change.entry c.entry-in-Change.inside.number
    c.state.result c.in-Change.is
    (ap (λ (e : EntryValue). e.number) c.entry-in-Change.view_is) of.following c.in-Never.is
    (c.state.ensures.state created history of)

pub returns-in-Live-state : goal.returns-in-Live-state
returns-in-Live-state c = λ created history of.
    let number = ap (λ (r : Inside). r.tombstone.number) c.removal-inside.view_is
    ∙ ap (λ (r : RemovalValue). r.tombstone.number) c.removal.view_is in
    let when = ap (λ (r : Inside). r.tombstone.when) c.removal-inside.view_is
    ∙ ap (λ (r : RemovalValue). r.tombstone.when) c.removal.view_is in
    let moment = ap (λ (r : Inside). r.moment) c.removal-inside.view_is
    ∙ ap (λ (r : RemovalValue). r.moment) c.removal.view_is in
    remove-live created history c.args.operation.now c.in-Remove.removal _ c.in-Live-state.version
    c.in-Live-state.updated _ _ c.eq.result c.in-Remove.is
    number when moment of.following (c.in-Live-state.ensures.state created history of)
    (rw c.max.ensures at c.eq.ensures)

pub returns-in-Never-state : goal.returns-in-Never-state
returns-in-Never-state c = λ created history of.
    let number = ap (λ (r : Inside). r.tombstone.number) c.removal-inside.view_is
    ∙ ap (λ (r : RemovalValue). r.tombstone.number) c.removal.view_is in
    remove-not_live created history c.args.operation.now c.in-Remove.removal _ c.state-in-Remove.result c.in-Remove.is
    number of.following c.in-Never-state.is (c.state-in-Remove.ensures.state created history of)
