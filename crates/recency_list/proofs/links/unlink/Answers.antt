use Rattle.std.proofs.Common.{◌≡◌, ℕ, ◌<◌, List, Option, length, set, sym, ap, subst, ◌∙◌}
use Rattle.recency_list.specs.Links.{facing_newer_at, facing_older_at, unlisted, IsOrder, listed}
use Rattle.recency_list.specs.Recency.{without}
use Rattle.recency_list.specs.declared.slots.Slot.{Slot}
use Rattle.recency_list.proofs.LinkLemmas.{length-facing_older_at}
use Rattle.recency_list.proofs.OrderLemmas.{newer_exists, older_exists, unlisted_order, unlinked_first, unlinked_later}
use Rattle.recency_list.proofs.links.unlink.Goals as goal

-- the slots after the three writes
written : (slots once twice after : List Slot) (at : ℕ) (newer older : Option ℕ)
    → once ≡ facing_older_at newer older slots → twice ≡ facing_newer_at older newer once
    → after ≡ set twice at unlisted
    → after ≡ set (facing_newer_at older newer (facing_older_at newer older slots)) at unlisted
written slots once twice after at newer older first second third =
    third ∙ ap (λ s. set s at unlisted) (second ∙ ap (facing_newer_at older newer) first)

pub returns-then-not-is_listed-clause-order : goal.returns-then-not-is_listed-clause-order
returns-then-not-is_listed-clause-order g c =
    unlisted_order c.args.slots.now c.args.first (listed c.args.slots.now c.args.first) c.requires.order c.args.slot
    (sym c.is_listed.ensures ∙ c.if-not-is_listed.true)

pub set_older-requires : goal.set_older-requires
set_older-requires g c =
    newer_exists c.args.slots.now c.args.first (listed c.args.slots.now c.args.first) c.requires.order c.args.slot
    (sym c.is_listed.ensures ∙ c.if-not-is_listed.false)
    c.get-newer.result.newer c.get-newer.result.older (sym c.get-newer.ensures)

pub set_newer-requires : goal.set_newer-requires
set_newer-requires g c = λ q e.
    subst (λ n. q < n)
    (sym (ap length c.set_older.ensures.slots
    ∙ length-facing_older_at c.get-newer.result.newer c.get-newer.result.older c.args.slots.now))
    (older_exists c.args.slots.now c.args.first (listed c.args.slots.now c.args.first) c.requires.order c.args.slot
    (sym c.is_listed.ensures ∙ c.if-not-is_listed.false)
    c.get-newer.result.newer c.get-newer.result.older (sym c.get-newer.ensures) q e)

pub returns-in-None-clause-order : goal.returns-in-None-clause-order
returns-in-None-clause-order g c =
    let list = listed c.args.slots.now c.args.first in
    subst (λ (s : List Slot). IsOrder s c.get-newer.result.older (without c.args.slot list))
    (sym (written c.args.slots.now c.set_older.new.slots c.set_newer.new.slots c.write.new.self c.args.slot
    c.get-newer.result.newer c.get-newer.result.older c.set_older.ensures.slots c.set_newer.ensures.slots
    c.write.ensures.slots))
    (unlinked_first c.args.slots.now c.args.first list c.requires.order c.args.slot
    (sym c.is_listed.ensures ∙ c.if-not-is_listed.false)
    c.get-newer.result.newer c.get-newer.result.older (sym c.get-newer.ensures) c.in-None.is)

pub returns-in-Some-clause-order : goal.returns-in-Some-clause-order
returns-in-Some-clause-order g c =
    let list = listed c.args.slots.now c.args.first in
    subst (λ (s : List Slot). IsOrder s c.args.first (without c.args.slot list))
    (sym (written c.args.slots.now c.set_older.new.slots c.set_newer.new.slots c.write.new.self c.args.slot
    c.get-newer.result.newer c.get-newer.result.older c.set_older.ensures.slots c.set_newer.ensures.slots
    c.write.ensures.slots))
    (unlinked_later c.args.slots.now c.args.first list c.requires.order c.args.slot
    (sym c.is_listed.ensures ∙ c.if-not-is_listed.false)
    c.get-newer.result.newer c.get-newer.result.older (sym c.get-newer.ensures) c.in-Some.field-0 c.in-Some.is)
