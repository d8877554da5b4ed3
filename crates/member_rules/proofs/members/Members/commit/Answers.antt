use Rattle.std.proofs.Common.{◌≡◌, ℕ, ◌+◌, ◌-◌, ◌++◌, ◌∷◌, [], length, map, slice_set, vec_len, Some, ap, ap₂, sym, subst, ◌∙◌}
use Rattle.std.proofs.Common.{rules, arith}
use Rattle.std.proofs.lemmas.List.{length-map, map_push, map-set}
use Rattle.std.proofs.lemmas.Option.{IfSome_then}
use Rattle.atom_values.specs.Entry.{EntryValue}
use Rattle.deleted_entries.specs.Tombstone.{TombstoneValue}
use Rattle.recency_list.specs.Recency.{RecencyValue}
use Rattle.member_rules.specs.Member.{state_kept, edited_kept}
use Rattle.member_rules.specs.Operation.{member_of}
use Rattle.member_rules.specs.Removal.{RemovalValue}
use Rattle.member_rules.specs.Table.{AreOrdered, Table}
use Rattle.member_rules.specs.declared.members.Member.{Member}
use Rattle.member_rules.specs.declared.members.Member.TheVariants.{Live, Gone}
use Rattle.member_rules.specs.declared.operation.Removal.TheInside.{Inside}
use Rattle.member_rules.proofs.RecentLemmas.{AreOrdered-more, AreOrdered-same, moved-is, touched_by}
use Rattle.member_rules.proofs.TableLemmas.{commit-add, commit-change, commit-remove, commit-set, change-place, remove-place}
use Rattle.member_rules.proofs.TableLemmas.{number-place, add-number}
use Rattle.member_rules.proofs.members.Members.commit.Goals as goal
use Rattle.member_rules.proofs.members.Members.commit.Goals.{After-move_to_front}

pub move_to_front-requires : goal.move_to_front-requires
move_to_front-requires c =
    let place = number-place c.args.self.now c.args.operation.now c.requires.follows in
    let size = ap (λ (t : Table). length t.states) c.self.view_is in
    let spare = ap (λ (t : Table). t.spare) c.self.view_is in
    let len = c.self.inside.members.ok.0 in
    let same = length-map c.self.inside.members.items state_kept in
    rw c.member.ensures (IfSome_then (member_of c.args.operation.now) place (λ number within. omega (arith, within)))

-- the order after the move
order : (c : After-move_to_front) → c.move_to_front.new.order
    ≡ record c.self.inside.order { list = touched_by c.member.result c.self.inside.order.list }
order c = moved-is c.member.result c.self.inside.order c.move_to_front.new.order c.move_to_front.ensures

-- it lists the members that it listed
ordered : (c : After-move_to_front) → AreOrdered (vec_len c.self.inside.members) c.move_to_front.new.order
ordered c = subst (AreOrdered (vec_len c.self.inside.members)) (sym (order c))
    (AreOrdered-same (vec_len c.self.inside.members) c.member.result c.self.inside.order c.self.invariant.1)

pub invariant_of-self : goal.invariant_of-self
invariant_of-self c =
    let next = add-number c.args.self.now c.args.operation.now c.in-Add.entry c.in-Add.is c.requires.follows in
    let size = ap (λ (t : Table). length t.states) c.self.view_is in
    let same = length-map c.self.inside.members.items state_kept in
    let spare = ap (λ (t : Table). t.spare) c.self.view_is in
    let len = c.self.inside.members.ok.0 in
    let more : vec_len c.push.new.self ≡ vec_len c.self.inside.members + 1 = search rules in
    let start = (goal.at.invariant_of-self c).After-move_to_front in
    let count : length c.args.self.now.states + 1 ≡ vec_len c.self.inside.members + 1 = omega arith in
    let listed = AreOrdered-more (vec_len c.self.inside.members) c.member.result c.self.inside.order c.self.invariant.1
    (c.member.ensures ∙ next ∙ ap Some count) (omega arith) in (
      search rules,
      subst (λ n. AreOrdered n c.move_to_front.new.order) (sym more)
          (subst (AreOrdered (vec_len c.self.inside.members + 1)) (sym (order start)) listed),
    )

pub index_mut-requires : goal.index_mut-requires
index_mut-requires c =
    let place = change-place c.args.self.now c.args.operation.now c.in-Change.entry c.in-Change.is c.requires.follows in
    let number = ap (λ (e : EntryValue). e.number) c.entry.view_is in
    let size = ap (λ (t : Table). length t.states) c.self.view_is in
    let len = c.self.inside.members.ok.0 in
    omega (arith, length-map c.self.inside.members.items state_kept)

pub invariant_of-self-in-Change : goal.invariant_of-self-in-Change
invariant_of-self-in-Change c = (search rules, ordered (goal.at.invariant_of-self-in-Change c).After-move_to_front)

pub overflow_sub-self : goal.overflow_sub-self
overflow_sub-self c =
    let place = remove-place c.args.self.now c.args.operation.now c.in-Remove.removal c.in-Remove.is c.requires.follows
    in
    let live = ap (λ (t : Table). t.live) c.self.view_is in
    omega (arith, place.0)

pub index_mut-requires-in-Remove : goal.index_mut-requires-in-Remove
index_mut-requires-in-Remove c =
    let place = remove-place c.args.self.now c.args.operation.now c.in-Remove.removal c.in-Remove.is c.requires.follows
    in
    let number = ap (λ (r : Inside). r.tombstone.number) c.removal-inside.view_is
    ∙ ap (λ (r : RemovalValue). r.tombstone.number) c.removal.view_is in
    let size = ap (λ (t : Table). length t.states) c.self.view_is in
    let len = c.self.inside.members.ok.0 in
    omega (arith, place.1, length-map c.self.inside.members.items state_kept)

pub invariant_of-self-in-Remove : goal.invariant_of-self-in-Remove
invariant_of-self-in-Remove c = (search rules, ordered (goal.at.invariant_of-self-in-Remove c).After-move_to_front)

sizes : (c : After-move_to_front) → length c.args.self.now.edited ≡ length c.args.self.now.states
sizes c =
    let items = c.self.inside.members.items in
    let states = ap (λ (t : Table). length t.states) c.self.view_is in
    let edited = ap (λ (t : Table). length t.edited) c.self.view_is in
    sym edited
    ∙ length-map items edited_kept
    ∙ sym (length-map items state_kept)
    ∙ states

recent : (c : After-move_to_front) → c.move_to_front.new.order.list
    ≡ touched_by (member_of c.args.operation.now) c.args.self.now.recent
recent c =
    ap (λ (order : RecencyValue). order.list) (order c)
    ∙ ap₂ touched_by c.member.ensures (ap (λ (t : Table). t.recent) c.self.view_is)

pub returns-in-Add-clause-table : goal.returns-in-Add-clause-table
returns-in-Add-clause-table c = λ created history of.
    let start = (goal.at.returns-in-Add-clause-table c).After-move_to_front in
    let items = c.self.inside.members.items in
    let pushed : c.push.new.self.items ≡ items ++ c.live.result ∷ [] = rw c.unwrap.ensures at c.push.ensures.items in
    commit-add c.args.self.now _ c.args.operation.now c.in-Add.entry created history c.in-Add.is c.requires.follows of
    (record {
      sizes = sizes start;
      recent = recent start;
      last = c.moment-self-inside.ensures;
      operations = ap (λ (t : Table). t.operations + 1) c.self.view_is;
    })
    (ap (map state_kept) pushed
    ∙ map_push state_kept items c.live.result
    ∙ ap₂ (λ (t : Table) (m : Member). t.states ++ state_kept m ∷ []) c.self.view_is c.live.ensures)
    (ap (map edited_kept) pushed
    ∙ map_push edited_kept items c.live.result
    ∙ ap₂ (λ (t : Table) (m : Member). t.edited ++ edited_kept m ∷ []) c.self.view_is c.live.ensures)
    (ap (λ (t : Table). t.live + 1) c.self.view_is)

pub returns-in-Change-clause-table : goal.returns-in-Change-clause-table
returns-in-Change-clause-table c = λ created history of.
    let start = (goal.at.returns-in-Change-clause-table c).After-move_to_front in
    let items = c.self.inside.members.items in
    let at = c.entry.inside.number - 1 in
    let number = ap (λ (e : EntryValue). e.number) c.entry.view_is in
    let member = Live (c.self.inside.operations + 1) c.in-Change.entry.updated c.in-Change.entry.edited in
    commit-change c.args.self.now _ c.args.operation.now c.in-Change.entry created history c.in-Change.is
    c.requires.follows of
    (record {
      sizes = sizes start;
      recent = recent start;
      last = c.moment-self-inside.ensures;
      operations = ap (λ (t : Table). t.operations + 1) c.self.view_is;
    })
    (map-set state_kept items at c.live-in-Change.result
    ∙ ap₂ (λ (t : Table) (m : Member). slice_set t.states at (state_kept m)) c.self.view_is c.live-in-Change.ensures
    ∙ ap (λ (n : ℕ). slice_set c.args.self.now.states (n - 1) (state_kept member)) number)
    (map-set edited_kept items at c.live-in-Change.result
    ∙ ap₂ (λ (t : Table) (m : Member). slice_set t.edited at (edited_kept m)) c.self.view_is c.live-in-Change.ensures
    ∙ ap (λ (n : ℕ). slice_set c.args.self.now.edited (n - 1) (edited_kept member)) number)
    (ap (λ (t : Table). t.live) c.self.view_is)

pub returns-in-Remove-clause-table : goal.returns-in-Remove-clause-table
returns-in-Remove-clause-table c = λ created history of.
    let start = (goal.at.returns-in-Remove-clause-table c).After-move_to_front in
    let place = remove-place c.args.self.now c.args.operation.now c.in-Remove.removal c.in-Remove.is c.requires.follows
    in
    let live = ap (λ (t : Table). t.live) c.self.view_is in
    let tombstone = ap (λ (r : Inside). r.tombstone) c.removal-inside.view_is
    ∙ ap (λ (r : RemovalValue). r.tombstone) c.removal.view_is in
    let items = c.self.inside.members.items in
    let at = c.removal-inside.inside.0.0.number - 1 in
    let member = Gone c.removal-inside.inside.0.0.when in
    commit-remove c.args.self.now _ c.args.operation.now c.in-Remove.removal created history c.in-Remove.is
    c.requires.follows of
    (record {
      sizes = sizes start;
      recent = recent start;
      last = c.moment-self-inside.ensures;
      operations = ap (λ (t : Table). t.operations + 1) c.self.view_is;
    })
    (map-set state_kept items at member
    ∙ ap₂ (λ (t : Table) (x : TombstoneValue). slice_set t.states (x.number - 1) (state_kept (Gone x.when)))
    c.self.view_is tombstone)
    (map-set edited_kept items at member
    ∙ ap₂ (λ (t : Table) (x : TombstoneValue). slice_set t.edited (x.number - 1) (edited_kept (Gone x.when)))
    c.self.view_is tombstone)
    (omega (arith, place.0))

pub returns-in-Set-clause-table : goal.returns-in-Set-clause-table
returns-in-Set-clause-table c = λ created history of.
    let start = (goal.at.returns-in-Set-clause-table c).After-move_to_front in
    commit-set c.args.self.now _ c.args.operation.now _ _ created history c.in-Set.is c.requires.follows of
    (record {
      sizes = sizes start;
      recent = recent start;
      last = c.moment-self-inside.ensures;
      operations = ap (λ (t : Table). t.operations + 1) c.self.view_is;
    })
    (ap (λ (t : Table). t.states) c.self.view_is)
    (ap (λ (t : Table). t.edited) c.self.view_is)
    (ap (λ (t : Table). t.live) c.self.view_is)
