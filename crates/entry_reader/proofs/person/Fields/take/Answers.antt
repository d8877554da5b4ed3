use Rattle.std.proofs.Common.{◌≡◌, ◌∙◌, Some, ap, sym}
use Rattle.entry_reader.specs.declared.person.Field.TheVariants.{Name as NameField, Uri, Email}
use Rattle.entry_reader.specs.Parts.{taken_fields}
use Rattle.entry_reader.proofs.FieldLemmas.{refusal_read}
use Rattle.entry_reader.proofs.person.Fields.take.Goals as goal

pub returns-in-Name : goal.returns-in-Name
returns-in-Name c =
    let old = c.args.self.now in
    let content = c.args.content in
    let refused = refusal_read old.refused c.inner_fault-inner.result c.slot_refusal-refused.result
    c.or-self.result c.is_some.result old.name c.args.at content.inner c.is_some.ensures
    c.inner_fault-inner.ensures c.slot_refusal-refused.ensures c.or-self.ensures in
    let same : record old { name = Some c.in_ok-text.text; refused = c.or-self.result }
    ≡ taken_fields NameField content.text.items content.inner c.args.at old = λ i. record old {
      name = Some (c.in_ok-text.ensures i);
      refused = refused i;
    } in
    same ∙ ap (λ f. taken_fields f content.text.items content.inner c.args.at old) (sym c.in-Name.is)

pub returns-in-Uri : goal.returns-in-Uri
returns-in-Uri c =
    let old = c.args.self.now in
    let content = c.args.content in
    let refused = refusal_read old.refused c.inner_fault-inner.result c.slot_refusal-refused-in-Uri.result
    c.or-self-in-Uri.result c.is_some-in-Uri.result old.uri c.args.at content.inner c.is_some-in-Uri.ensures
    c.inner_fault-inner.ensures c.slot_refusal-refused-in-Uri.ensures c.or-self-in-Uri.ensures in
    let same : record old { uri = Some c.in_ok-text.text; refused = c.or-self-in-Uri.result }
    ≡ taken_fields Uri content.text.items content.inner c.args.at old = λ i. record old {
      uri = Some (c.in_ok-text.ensures i);
      refused = refused i;
    } in
    same ∙ ap (λ f. taken_fields f content.text.items content.inner c.args.at old) (sym c.in-Uri.is)

pub returns-in-Email : goal.returns-in-Email
returns-in-Email c =
    let old = c.args.self.now in
    let content = c.args.content in
    let refused = refusal_read old.refused c.inner_fault-inner.result c.slot_refusal-refused-in-Email.result
    c.or-self-in-Email.result c.is_some-in-Email.result old.email c.args.at content.inner c.is_some-in-Email.ensures
    c.inner_fault-inner.ensures c.slot_refusal-refused-in-Email.ensures c.or-self-in-Email.ensures in
    let same : record old { email = Some c.in_ok-text.text; refused = c.or-self-in-Email.result }
    ≡ taken_fields Email content.text.items content.inner c.args.at old = λ i. record old {
      email = Some (c.in_ok-text.ensures i);
      refused = refused i;
    } in
    same ∙ ap (λ f. taken_fields f content.text.items content.inner c.args.at old) (sym c.in-Email.is)
