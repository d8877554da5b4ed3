use Rattle.std.proofs.Common.{refl, sym, ◌∙◌}
use Rattle.std.proofs.lemmas.Bool.{false≢true}
use Rattle.member_rules.specs.Fields.{construct, optional}
use Rattle.member_rules.specs.EntryFields.{contents}
use Rattle.member_rules.proofs.FieldLemmas.{stopped, narrow_absent, narrow_broken, narrow_found}
use Rattle.member_rules.proofs.RuledLemmas.{contents_narrows, construct_option_one}
use Rattle.member_rules.proofs.codec.entry.read_content.Goals as goal

pub returns-in_err-content : goal.returns-in_err-content
returns-in_err-content c =
    let of = c.args.links.now in
    stopped (optional construct) _ (contents of) _ _ c.args.unread.now.rest.now _ _ c.in_err-content.ensures
    c.from_residual.ensures.1
    (narrow_absent (optional construct) (contents of) (contents_narrows of) _)

pub returns-then-not-is_shown : goal.returns-then-not-is_shown
unfolding contents
returns-then-not-is_shown c =
    let of = c.args.links.now in (
      refl,
      narrow_broken (optional construct) (contents of) (contents_narrows of) construct_option_one
          c.args.unread.now.rest.now _ _ c.in_ok-content.ensures
          (λ is. false≢true (sym c.if-not-is_shown.true ∙ c.is_shown.ensures ∙ is.1)),
    )

pub returns : goal.returns
unfolding contents
returns c =
    let of = c.args.links.now in
    narrow_found (optional construct) (contents of) (contents_narrows of) c.args.unread.now.rest.now _ _
    c.in_ok-content.ensures (c.in_ok-content.ensures.lawful, sym c.is_shown.ensures ∙ c.if-not-is_shown.false)
