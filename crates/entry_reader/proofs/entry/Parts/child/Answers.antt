use Rattle.std.proofs.Common.{sym, ap, ◌∙◌, codes, refl}
use Rattle.atom_values.specs.Space.{trimmed}
use Rattle.entry_reader.specs.Entry.{category, link, person}
use Rattle.xml_tokens.specs.Children.{child_text}
use Rattle.xml_tokens.specs.Names.{atom}
use Rattle.entry_reader.specs.Faults.{dates, is_one_of, persons}
use Rattle.entry_reader.specs.Faults.Within.{in_entry}
use Rattle.xml_tokens.specs.Progress.{pending}
use Rattle.entry_reader.specs.Parts.{elements_of}
use Rattle.entry_reader.proofs.FieldLemmas.{name_is}
use Rattle.entry_reader.proofs.SoFarLemmas.{items_counted, part_mapped, slot_mapped, slot_moment, so_far_authors}
use Rattle.entry_reader.proofs.SoFarLemmas.{so_far_categories, so_far_contributors, so_far_id, so_far_links}
use Rattle.entry_reader.proofs.SoFarLemmas.{so_far_published, so_far_updated}
use Rattle.entry_reader.proofs.entry.Parts.child.Goals as goal

pub returns-then-is_atom-clause-read : goal.returns-then-is_atom-clause-read
returns-then-is_atom-clause-read c = λ from b e at of so.
    let old = c.args.elements.now in
    let parts = c.args.self.now in
    let n = atom (codes "id") in
    let name = name_is e.name n (sym (c.is_atom.ensures e of) ∙ c.if-is_atom.true) in
    part_mapped old.length (pending old) from in_entry (elements_of b) e _ _ c.id.result
    c.id.new.elements
    (c.id.ensures.read from (elements_of b) e at of name
    (slot_mapped (λ k. trimmed (child_text k)) e.name n b parts.id name so.id))
    (λ inner v made. so_far_id b e inner parts c.id.new.self name so made.0 made.1)

pub returns-then-is_atom-2-clause-read : goal.returns-then-is_atom-2-clause-read
returns-then-is_atom-2-clause-read c = λ from b e at of so.
    let old = c.args.elements.now in
    let parts = c.args.self.now in
    let n = atom (codes "updated") in
    let name = name_is e.name n (sym (c.is_atom-else-is_atom.ensures e of) ∙ c.if-is_atom-2.true) in
    part_mapped old.length (pending old) from in_entry (elements_of b) e _ _ c.date.result
    c.date.new.elements
    (c.date.ensures.read from (elements_of b) e at of (ap (is_one_of dates) name)
    (slot_moment e.name n b parts.updated name so.updated))
    (λ inner v made. so_far_updated b e inner parts (record parts { updated = c.date.new.slot }) name so refl made)

pub returns-then-is_atom-3-clause-read : goal.returns-then-is_atom-3-clause-read
returns-then-is_atom-3-clause-read c = λ from b e at of so.
    let old = c.args.elements.now in
    let parts = c.args.self.now in
    let n = atom (codes "published") in
    let name = name_is e.name n (sym (c.is_atom-else-is_atom-2.ensures e of) ∙ c.if-is_atom-3.true) in
    part_mapped old.length (pending old) from in_entry (elements_of b) e _ _ c.date-then-is_atom-3.result
    c.date-then-is_atom-3.new.elements
    (c.date-then-is_atom-3.ensures.read from (elements_of b) e at of (ap (is_one_of dates) name)
    (slot_moment e.name n b parts.published name so.published))
    (λ inner v made. so_far_published b e inner parts (record parts { published = c.date-then-is_atom-3.new.slot })
    name so refl made)

pub returns-then-is_atom-4-clause-read : goal.returns-then-is_atom-4-clause-read
returns-then-is_atom-4-clause-read c = λ from b e at of so.
    let old = c.args.elements.now in
    let parts = c.args.self.now in
    let n = atom (codes "author") in
    let name = name_is e.name n (sym (c.is_atom-else-is_atom-3.ensures e of) ∙ c.if-is_atom-4.true) in
    part_mapped old.length (pending old) from in_entry (elements_of b) e _ _ c.author.result
    c.author.new.elements
    (c.author.ensures.read from (elements_of b) e at of (ap (is_one_of persons) name)
    (items_counted person e.name n b parts.authors.items name so.authors))
    (λ inner v made.
    so_far_authors b e inner parts (record parts { authors = c.author.new.persons }) name so refl made)

pub returns-then-is_atom-5-clause-read : goal.returns-then-is_atom-5-clause-read
returns-then-is_atom-5-clause-read c = λ from b e at of so.
    let old = c.args.elements.now in
    let parts = c.args.self.now in
    let n = atom (codes "contributor") in
    let name = name_is e.name n (sym (c.is_atom-else-is_atom-4.ensures e of) ∙ c.if-is_atom-5.true) in
    part_mapped old.length (pending old) from in_entry (elements_of b) e _ _ c.author-then-is_atom-5.result
    c.author-then-is_atom-5.new.elements
    (c.author-then-is_atom-5.ensures.read from (elements_of b) e at of (ap (is_one_of persons) name)
    (items_counted person e.name n b parts.contributors.items name so.contributors))
    (λ inner v made.
    so_far_contributors b e inner parts (record parts { contributors = c.author-then-is_atom-5.new.persons })
    name so refl made)

pub returns-then-is_atom-6-clause-read : goal.returns-then-is_atom-6-clause-read
returns-then-is_atom-6-clause-read c = λ from b e at of so.
    let old = c.args.elements.now in
    let parts = c.args.self.now in
    let n = atom (codes "link") in
    let name = name_is e.name n (sym (c.is_atom-else-is_atom-5.ensures e of) ∙ c.if-is_atom-6.true) in
    part_mapped old.length (pending old) from in_entry (elements_of b) e _ _ c.link.result
    c.link.new.elements
    (c.link.ensures.read from (elements_of b) e at of name
    (items_counted link e.name n b parts.links.items name so.links))
    (λ inner v made. so_far_links b e inner parts c.link.new.self name so made.0 made.1)

pub returns-then-is_atom-7-clause-read : goal.returns-then-is_atom-7-clause-read
returns-then-is_atom-7-clause-read c = λ from b e at of so.
    let old = c.args.elements.now in
    let parts = c.args.self.now in
    let n = atom (codes "category") in
    let name = name_is e.name n (sym (c.is_atom-else-is_atom-6.ensures e of) ∙ c.if-is_atom-7.true) in
    part_mapped old.length (pending old) from in_entry (elements_of b) e _ _ c.category.result
    c.category.new.elements
    (c.category.ensures.read from (elements_of b) e at of name
    (items_counted category e.name n b parts.categories.items name so.categories))
    (λ inner v made. so_far_categories b e inner parts c.category.new.self name so made.0 made.1)
