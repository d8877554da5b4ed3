use Rattle.std.proofs.Common.{ℕ, List, subst, refl}
use Rattle.member_rules.specs.Coding.{add_tag, change_tag, remove_tag, entry_fields}
use Rattle.member_rules.specs.Fields.{stamp}
use Rattle.member_rules.specs.RemovalFields.{removals}
use Rattle.member_rules.specs.declared.operation.Op.TheVariants.{Add, Change, Remove}
use Rattle.member_rules.proofs.OperationLemmas.{tagged_written, removes, set_written}
use Rattle.member_rules.proofs.codec.operation.push_operation.Goals as goal

pub returns-in_ok-push_entry-in-Add-clause-added : goal.returns-in_ok-push_entry-in-Add-clause-added
returns-in_ok-push_entry-in-Add-clause-added g c =
    let P : List ℕ → Type 0 = g.W.Out.adds c.args.out.now c.push_entry.new.out in
    rw c.in-Add.is
    (subst P (tagged_written (Add c.in-Add.entry) add_tag (entry_fields c.in-Add.entry) refl)
    (g.met.W.Out.joins _ _ _ _ _ c.in_ok-push-in-Add.ensures.added c.in_ok-push_entry-in-Add.ensures.added))

pub returns-in_ok-push_entry-in-Change-clause-added : goal.returns-in_ok-push_entry-in-Change-clause-added
returns-in_ok-push_entry-in-Change-clause-added g c =
    let P : List ℕ → Type 0 = g.W.Out.adds c.args.out.now c.push_entry-in-Change.new.out in
    rw c.in-Change.is
    (subst P (tagged_written (Change c.in-Change.entry) change_tag (entry_fields c.in-Change.entry) refl)
    (g.met.W.Out.joins _ _ _ _ _ c.in_ok-push-in-Change.ensures.added c.in_ok-push_entry-in-Change.ensures.added))

pub returns-in_ok-push_removal-in-Remove-clause-added : goal.returns-in_ok-push_removal-in-Remove-clause-added
returns-in_ok-push_removal-in-Remove-clause-added g c =
    let r = c.in-Remove.removal in
    let P : List ℕ → Type 0 = g.W.Out.adds c.args.out.now c.push_removal.new.out in
    rw c.in-Remove.is
    (subst P (tagged_written (Remove r) remove_tag (removals.pieces r) (removes.pieces r))
    (g.met.W.Out.joins _ _ _ _ _ c.in_ok-push-in-Remove.ensures.added c.in_ok-push_removal-in-Remove.ensures.added))

pub returns-in_ok-push_setting-in-Set-clause-added : goal.returns-in_ok-push_setting-in-Set-clause-added
returns-in_ok-push_setting-in-Set-clause-added g c =
    let join = g.met.W.Out.joins in
    let P : List ℕ → Type 0 = g.W.Out.adds c.args.out.now c.push_setting.new.out in
    rw c.in-Set.is
    (subst P (set_written c.in-Set.setting c.in-Set.moment)
    (join _ _ _ _ _ (join _ _ _ _ _ c.in_ok-push-in-Set.ensures.added c.in_ok-push-in-Set-2.ensures.added)
    c.in_ok-push_setting-in-Set.ensures.added))

pub returns-in_ok-push_setting-in-Set-clause-rules : goal.returns-in_ok-push_setting-in-Set-clause-rules
unfolding stamp
returns-in_ok-push_setting-in-Set-clause-rules g c =
    rw c.in-Set.is (c.in_ok-push_setting-in-Set.ensures.rules, c.in_ok-push-in-Set-2.ensures.rules)
