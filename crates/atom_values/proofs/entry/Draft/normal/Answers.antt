use Rattle.std.proofs.Common.{◌≡◌, ap, ◌∙◌}
use Rattle.std.specs.Ordering.{int_cmp, ord_max}
use Rattle.std.specs.Prelude.{unwrap_or}
use Rattle.atom_values.specs.Entry.{DraftValue, normal, shown_content}
use Rattle.atom_values.proofs.EntryLemmas.{IsWhole-normal, normal_is}
use Rattle.atom_values.proofs.entry.Draft.normal.Goals as goal

pub invariant_of-result : goal.invariant_of-result
invariant_of-result c =
    IsWhole-normal c.args.number c.self.inside.links.items c.drop_edit.new.links.items c.self.inside.content
    c.shown-content.result c.requires c.drop_edit.ensures (c.shown-content.ensures
    ∙ ap (shown_content c.self.inside.content) c.as_slice.ensures.items)

pub returns : goal.returns
returns c =
    let inside = c.self.inside in
    let draft : DraftValue = record {
      id = inside.id;
      title = inside.title;
      updated = inside.updated;
      published =
          inside.published;
      authors = inside.authors.items;
      contributors = inside.contributors.items;
      links =
          inside.links.items;
      categories = inside.categories.items;
      rights = inside.rights;
      summary =
          inside.summary;
      content = inside.content;
    } in
    let later : c.max.result ≡ ord_max int_cmp c.unwrap_or-asked.result
    (unwrap_or c.args.stored c.unwrap_or-asked.result) = c.max.ensures
    ∙ ap (ord_max int_cmp c.unwrap_or-asked.result) c.unwrap_or.ensures in
    normal_is draft c.args.number c.args.moment c.args.stored c.unwrap_or-asked.result c.max.result
    c.drop_edit.new.links.items c.shown-content.result c.unwrap_or-asked.ensures later c.drop_edit.ensures
    (c.shown-content.ensures ∙ ap (shown_content inside.content) c.as_slice.ensures.items)
    ∙ ap (λ d. normal d c.args.number c.args.moment c.args.stored) c.self.view_is
