use Rattle.std.proofs.Common.{◌≡◌, drop, ap, subst, sym, ◌∙◌}
use Rattle.atom_writer.specs.Doc.{KeepsRules}
use Rattle.member_rules.specs.Documents.{name_of}
use Rattle.member_rules.specs.Fold.{last_moment}
use Rattle.member_rules.specs.Head.{HeadValue}
use Rattle.member_rules.specs.Items.{items_of}
use Rattle.archive_sealer.proofs.DocumentFormLemmas.{few-open, form-of_parts}
use Rattle.archive_sealer.proofs.document.document.Goals as goal

pub items-requires : goal.items-requires
items-requires c = rw c.split_at.ensures.back
    (few-open c.args.head.now c.args.kind c.args.prev c.args.before c.args.covered.now c.requires.rules)

pub unwrap-requires : goal.unwrap-requires
unfolding name_of
unwrap-requires c =
    let updated : c.plain_last_moment-updated.result ≡ last_moment c.args.head.now.created c.args.covered.now =
    c.plain_last_moment-updated.ensures ∙ ap (λ (h : HeadValue). last_moment h.created c.args.covered.now)
    c.head.view_is in
    let items : c.in-Ok.items.items ≡ items_of (drop c.args.before c.args.covered.now) =
    c.in-Ok.ensures ∙ ap items_of c.split_at.ensures.back in
    let form = form-of_parts c.args.head.now c.args.kind c.args.prev c.args.before c.args.covered.now c.args.name
    c.plain_last_moment-updated.result c.in-Ok.items.items c.requires.name updated items in
    c.new.ensures.rules.1 (subst KeepsRules form c.requires.rules)

pub returns : goal.returns
unfolding name_of
returns c =
    let updated : c.plain_last_moment-updated.result ≡ last_moment c.args.head.now.created c.args.covered.now =
    c.plain_last_moment-updated.ensures ∙ ap (λ (h : HeadValue). last_moment h.created c.args.covered.now)
    c.head.view_is in
    let items : c.in-Ok.items.items ≡ items_of (drop c.args.before c.args.covered.now) =
    c.in-Ok.ensures ∙ ap items_of c.split_at.ensures.back in
    let form = form-of_parts c.args.head.now c.args.kind c.args.prev c.args.before c.args.covered.now c.args.name
    c.plain_last_moment-updated.result c.in-Ok.items.items c.requires.name updated items in
    rw c.unwrap.ensures at c.new.ensures.parts ∙ sym form
