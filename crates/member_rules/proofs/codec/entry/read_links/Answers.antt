use Rattle.std.proofs.Common.{refl, sym, ap, ◌∙◌, true≢false}
use Rattle.atom_values.specs.Link.{has_edit}
use Rattle.member_rules.specs.EntryFields.{linked}
use Rattle.member_rules.proofs.FieldLemmas.{stopped, narrow_absent, narrow_broken, narrow_found}
use Rattle.member_rules.proofs.RuledLemmas.{links, links_one, linked_narrows}
use Rattle.member_rules.proofs.codec.entry.read_links.Goals as goal

pub returns-in_err-links : goal.returns-in_err-links
returns-in_err-links c =
    stopped links _ linked _ _ c.args.unread.now.rest.now _ _ c.in_err-links.ensures c.from_residual.ensures.1
    (narrow_absent links linked linked_narrows _)

pub returns-then-names_edit : goal.returns-then-names_edit
unfolding linked
returns-then-names_edit c = (
  refl,
  narrow_broken links linked linked_narrows links_one c.args.unread.now.rest.now _ _ c.in_ok-links.ensures
      (λ is. true≢false (sym c.if-names_edit.true ∙ c.names_edit.ensures ∙ ap has_edit c.as_slice.ensures.items
      ∙ is.1)),
)

pub returns : goal.returns
unfolding linked
returns c =
    narrow_found links linked linked_narrows c.args.unread.now.rest.now _ _ c.in_ok-links.ensures (
      c.in_ok-links.ensures.lawful,
      sym (ap has_edit c.as_slice.ensures.items) ∙ sym c.names_edit.ensures
          ∙ c.if-names_edit.false,
    )
