use Rattle.std.proofs.Common.{◌≡◌, Some, ap, ◌∙◌, unwrap_or, rules}
use Rattle.std.specs.BTreeMap.Entry.{entry_value, map_with_value}
use Rattle.foreign_entries.specs.Added.{no_member}
use Rattle.foreign_entries.specs.declared.live.LiveEntries.{LiveEntries}
use Rattle.foreign_entries.proofs.MembersLemmas.{puts_member, tombstone_put}
use Rattle.foreign_entries.proofs.live.LiveEntries.add_tombstone.Goals as goal

pub returns : goal.returns
returns c =
    let before = c.args.self.now in
    let key = c.in_ok-key.key.items in
    let entry = c.in_ok-self.field-0 in
    let old = c.or_insert-member.result.now in
    let new = c.remove.new.self in
    let members = map_with_value entry new in
    -- the map that `or_insert` leaves has no name in the source
    let after : LiveEntries = record { members = c.self-3-1.given.0; alloc = before.alloc } in
    let written : after.members ≡ members = search rules in
    tombstone_put c.args.gone.now before after members key old new written (c.in_ok-key.ensures.items ∙ c.bytes.ensures.bytes)
    (c.or_insert-member.ensures.value ∙ ap (unwrap_or (entry_value entry)) c.new.ensures
    ∙ ap (λ v. unwrap_or v no_member) c.in_ok-self.ensures.value)
    c.remove.ensures (puts_member key before.members members (Some new) (c.in_ok-self.ensures.update.0 new))
