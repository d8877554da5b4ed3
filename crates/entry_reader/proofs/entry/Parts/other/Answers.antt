use Rattle.std.proofs.Common.{◌≡◌, sym, ap, ◌∙◌, codes, false, refl}
use Rattle.std.proofs.lemmas.Bool.{or_from}
use Rattle.entry_reader.specs.declared.fault.EarlyEnd.TheVariants.{Fault}
use Rattle.entry_reader.specs.Entry.{construct}
use Rattle.xml_tokens.specs.Names.{app, atom}
use Rattle.entry_reader.specs.Faults.{constructs, is_one_of}
use Rattle.entry_reader.specs.Faults.Within.{in_entry}
use Rattle.xml_tokens.specs.Progress.{pending}
use Rattle.entry_reader.specs.Parts.{elements_of}
use Rattle.entry_reader.proofs.ChildLemmas.{part_stopped}
use Rattle.entry_reader.proofs.FieldLemmas.{name_is}
use Rattle.entry_reader.proofs.SoFarLemmas.{other_faultless, part_mapped, part_names, slot_mapped, so_far_beside}
use Rattle.entry_reader.proofs.SoFarLemmas.{so_far_content, so_far_rights, so_far_summary, so_far_title}
use Rattle.entry_reader.proofs.entry.Parts.other.Goals as goal

pub returns-then-is_atom-clause-read : goal.returns-then-is_atom-clause-read
returns-then-is_atom-clause-read c = λ from b e at of so other.
    let old = c.args.elements.now in
    let parts = c.args.self.now in
    let n = atom (codes "title") in
    let name = name_is e.name n (sym (c.is_atom.ensures e of) ∙ c.if-is_atom.true) in
    part_mapped old.length (pending old) from in_entry (elements_of b) e _ _ c.construct.result
    c.construct.new.elements
    (c.construct.ensures.read from (elements_of b) e at of (ap (is_one_of constructs) name)
    (slot_mapped construct e.name n b parts.title name so.title))
    (λ inner v made.
    so_far_title b e inner parts (record parts { title = c.construct.new.slot }) name so refl made)

pub returns-then-is_atom-2-clause-read : goal.returns-then-is_atom-2-clause-read
returns-then-is_atom-2-clause-read c = λ from b e at of so other.
    let old = c.args.elements.now in
    let parts = c.args.self.now in
    let n = atom (codes "rights") in
    let name = name_is e.name n (sym (c.is_atom-else-is_atom.ensures e of) ∙ c.if-is_atom-2.true) in
    part_mapped old.length (pending old) from in_entry (elements_of b) e _ _ c.construct-then-is_atom-2.result
    c.construct-then-is_atom-2.new.elements
    (c.construct-then-is_atom-2.ensures.read from (elements_of b) e at of (ap (is_one_of constructs) name)
    (slot_mapped construct e.name n b parts.rights name so.rights))
    (λ inner v made.
    so_far_rights b e inner parts (record parts { rights = c.construct-then-is_atom-2.new.slot }) name so refl made)

pub returns-then-is_atom-3-clause-read : goal.returns-then-is_atom-3-clause-read
returns-then-is_atom-3-clause-read c = λ from b e at of so other.
    let old = c.args.elements.now in
    let parts = c.args.self.now in
    let n = atom (codes "summary") in
    let name = name_is e.name n (sym (c.is_atom-else-is_atom-2.ensures e of) ∙ c.if-is_atom-3.true) in
    part_mapped old.length (pending old) from in_entry (elements_of b) e _ _ c.construct-then-is_atom-3.result
    c.construct-then-is_atom-3.new.elements
    (c.construct-then-is_atom-3.ensures.read from (elements_of b) e at of (ap (is_one_of constructs) name)
    (slot_mapped construct e.name n b parts.summary name so.summary))
    (λ inner v made.
    so_far_summary b e inner parts (record parts { summary = c.construct-then-is_atom-3.new.slot }) name so refl made)

pub returns-then-is_atom-4-clause-read : goal.returns-then-is_atom-4-clause-read
returns-then-is_atom-4-clause-read c = λ from b e at of so other.
    let old = c.args.elements.now in
    let parts = c.args.self.now in
    let n = atom (codes "content") in
    let name = name_is e.name n (sym (c.is_atom-else-is_atom-3.ensures e of) ∙ c.if-is_atom-4.true) in
    part_mapped old.length (pending old) from in_entry (elements_of b) e _ _ c.construct-then-is_atom-4.result
    c.construct-then-is_atom-4.new.elements
    (c.construct-then-is_atom-4.ensures.read from (elements_of b) e at of (ap (is_one_of constructs) name)
    (slot_mapped construct e.name n b parts.content name so.content))
    (λ inner v made.
    so_far_content b e inner parts (record parts { content = c.construct-then-is_atom-4.new.slot }) name so refl made)

pub returns-then-is_app-clause-read : goal.returns-then-is_app-clause-read
returns-then-is_app-clause-read c = λ from b e at of so other.
    let old = c.args.elements.now in
    let name = name_is e.name (app (codes "control")) (sym (c.is_app.ensures e of) ∙ c.if-is_app.true) in
    part_mapped old.length (pending old) from in_entry (elements_of b) e _ _ c.control.result c.control.new.elements
    (c.control.ensures.read from (elements_of b) e at of name)
    (λ inner v own. so_far_beside b e inner c.args.self.now so own (ap (is_one_of part_names) name))

pub returns-in_err-skip-clause-read : goal.returns-in_err-skip-clause-read
returns-in_err-skip-clause-read c = λ from b e at of so other.
    let old = c.args.elements.now in
    part_stopped old.length (pending old) from (elements_of b) e _ (Fault c.in_err-skip.field-0.0)
    c.from_residual.result c.skip.new.self c.from_residual.ensures.1 (c.in_err-skip.ensures.read from at)

pub returns-in_ok-skip-clause-read : goal.returns-in_ok-skip-clause-read
returns-in_ok-skip-clause-read c = λ from b e at of so other.
    let x = c.in_ok-skip.ensures.read from at in
    let title = sym (c.is_atom.ensures e of) ∙ c.if-is_atom.false in
    let rights = sym (c.is_atom-else-is_atom.ensures e of) ∙ c.if-is_atom-2.false in
    let summary = sym (c.is_atom-else-is_atom-2.ensures e of) ∙ c.if-is_atom-3.false in
    let content = sym (c.is_atom-else-is_atom-3.ensures e of) ∙ c.if-is_atom-4.false in
    let control = sym (c.is_app.ensures e of) ∙ c.if-is_app.false in
    let none : is_one_of part_names e.name ≡ false =
    or_from _ _ content (or_from _ _ title (or_from _ _ rights (or_from _ _ summary other))) in (
      x.0,
      x.1,
      x.2,
      x.3,
      so_far_beside b e x.0 c.args.self.now so (other_faultless (elements_of b) e x.0 none control) none,
    )
