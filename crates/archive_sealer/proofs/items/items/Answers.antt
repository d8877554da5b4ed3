use Rattle.std.proofs.Common.{◌≡◌, true, false, [], ◌∷◌, ◌++◌, length, reverse, nat_cmp, ap, sym, ◌∙◌, arith}
use Rattle.std.specs.List.{list_any}
use Rattle.std.specs.BTreeMap.{is_at}
use Rattle.std.specs.BTreeSet.{contains}
use Rattle.std.proofs.lemmas.Bool.{not-true, not-false}
use Rattle.std.proofs.lemmas.List.{length_push}
use Rattle.std.proofs.lemmas.Iterator.Adapters.{YieldsList-from_rev_slice}
use Rattle.std.proofs.lemmas.Iterator.Consumers.{YieldsList-turn, YieldsList-end}
use Rattle.deleted_entries.specs.Item.{item_number}
use Rattle.member_rules.proofs.NewestItemsLemmas.{items_of-newest}
use Rattle.archive_sealer.proofs.ItemsStepLemmas.{Taken-none, Taken-all, Taken-new, Taken-old, AlsoMet-inserted}
use Rattle.archive_sealer.proofs.ItemsStepLemmas.{AlsoMet-same, Taken-skip, item-of_member, no-item}
use Rattle.archive_sealer.proofs.items.items.Goals as goal

pub loop-operation-init : goal.loop-operation-init
loop-operation-init c =
    Taken-none (contains nat_cmp c.new-met.result) c.reserve.new.self.items (reverse c.args.span.now)
    (λ q. ap (list_any (is_at (nat_cmp q))) c.new-met.ensures.empty)
    (c.reserve.ensures.items ∙ c.new-items.ensures)

pub loop-operation-preserved-in_default : goal.loop-operation-preserved-in_default
loop-operation-preserved-in_default c =
    let turn = YieldsList-turn (YieldsList-from_rev_slice c.args.span.now cc) c.loop-operation.yielded _
    c.loop-operation.yielded_by _ _ c.in-Some.operation c.in-Some.is c.next.ensures.steps in
    rw (length_push c.loop-operation.yielded c.in-Some.operation)
    (Taken-skip (contains nat_cmp c.loop-operation.met) c.loop-operation.items.items
    (length c.loop-operation.yielded) (reverse c.args.span.now) c.in-Some.operation.now turn.0 turn.1
    (no-item c.in-Some.operation.now (sym c.in_default.is ∙ c.member.ensures)) c.loop-operation.invariant)

pub loop-operation-preserved : goal.loop-operation-preserved
loop-operation-preserved c =
    let turn = YieldsList-turn (YieldsList-from_rev_slice c.args.span.now cc) c.loop-operation.yielded _
    c.loop-operation.yielded_by _ _ c.in-Some.operation c.in-Some.is c.next.ensures.steps in
    let unseen : contains nat_cmp c.loop-operation.met c.in-Some-member.number ≡ false =
    not-true _ (sym c.in_ok-insert.ensures.added ∙ c.if-not-branch.false) in
    let also = AlsoMet-inserted (contains nat_cmp c.loop-operation.met) c.in-Some-member.number
    (contains nat_cmp c.insert.new.self) c.in_ok-insert.ensures.updates.0 in
    let named = item-of_member c.in-Some.operation.now c.in-Some-member.number c.in-Some-member.ensures in
    let pushed : c.push_item.new.items.items ≡ c.loop-operation.items.items ++ named.0 ∷ [] =
    rw named.1 at c.in_ok-push_item.ensures in
    rw (pushed, length_push c.loop-operation.yielded c.in-Some.operation)
    (Taken-new (contains nat_cmp c.loop-operation.met) (contains nat_cmp c.insert.new.self)
    c.loop-operation.items.items (length c.loop-operation.yielded) (reverse c.args.span.now)
    c.in-Some.operation.now named.0 turn.0 turn.1 named.1
    (AlsoMet-same (contains nat_cmp c.loop-operation.met) (item_number named.0) c.in-Some-member.number
    (contains nat_cmp c.insert.new.self) named.2 also) (ap (contains nat_cmp c.loop-operation.met) named.2 ∙ unseen)
    c.loop-operation.invariant)

pub loop-operation-preserved-then-not-branch : goal.loop-operation-preserved-then-not-branch
loop-operation-preserved-then-not-branch c =
    let turn = YieldsList-turn (YieldsList-from_rev_slice c.args.span.now cc) c.loop-operation.yielded _
    c.loop-operation.yielded_by _ _ c.in-Some.operation c.in-Some.is c.next.ensures.steps in
    let seen : contains nat_cmp c.loop-operation.met c.in-Some-member.number ≡ true =
    not-false _ (sym c.in_ok-insert.ensures.added ∙ c.if-not-branch.true) in
    let also = AlsoMet-inserted (contains nat_cmp c.loop-operation.met) c.in-Some-member.number
    (contains nat_cmp c.insert.new.self) c.in_ok-insert.ensures.updates.0 in
    let named = item-of_member c.in-Some.operation.now c.in-Some-member.number c.in-Some-member.ensures in
    rw (length_push c.loop-operation.yielded c.in-Some.operation)
    (Taken-old (contains nat_cmp c.loop-operation.met) (contains nat_cmp c.insert.new.self)
    c.loop-operation.items.items (length c.loop-operation.yielded) (reverse c.args.span.now)
    c.in-Some.operation.now named.0 turn.0 turn.1 named.1
    (AlsoMet-same (contains nat_cmp c.loop-operation.met) (item_number named.0) c.in-Some-member.number
    (contains nat_cmp c.insert.new.self) named.2 also) (ap (contains nat_cmp c.loop-operation.met) named.2 ∙ seen)
    c.loop-operation.invariant)

pub returns : goal.returns
returns c =
    let end = YieldsList-end (YieldsList-from_rev_slice c.args.span.now cc) c.loop-operation.yielded _
    c.loop-operation.yielded_by _ _ c.in-None.is c.next.ensures.steps in
    Taken-all (contains nat_cmp c.loop-operation.met) c.loop-operation.items.items (length c.loop-operation.yielded)
    (reverse c.args.span.now) (omega (arith, end.1)) c.loop-operation.invariant
    ∙ sym (items_of-newest c.args.span.now)
