use Rattle.std.proofs.Common.{◌≡◌, ◌∙◌, subst}
use Rattle.atom_values.specs.Entry.{IsDraft}
use Rattle.atom_values.proofs.CopyLemmas.{option_copied, items_copied}
use Rattle.atom_values.proofs.entry.DraftCopies.copy.Goals as goal

pub returns-clause-same : goal.returns-clause-same
returns-clause-same c =
    let id = option_copied _ _ c.in_ok-id.ensures.same.0 in
    let title = c.in_ok-id.ensures.same.1 in
    let updated = option_copied _ _ c.in_ok-updated.ensures.same.0 in
    let published = option_copied _ _ c.in_ok-updated.ensures.same.1 in
    let authors = items_copied _ _ c.in_ok-authors.ensures.same.0 in
    let contributors = items_copied _ _ c.in_ok-authors.ensures.same.1 in
    let links = items_copied _ _ c.in_ok-authors.ensures.same.2 in
    let categories = items_copied _ _ c.in_ok-authors.ensures.same.3 in
    let rights = option_copied _ _ c.in_ok-rights.ensures.same.0 in
    let summary = option_copied _ _ c.in_ok-rights.ensures.same.1 in
    let content = option_copied _ _ c.in_ok-rights.ensures.same.2 in
    let parts : _ ≡ _ = λ i. record {
      id = id i;
      title = title i;
      updated = updated i;
      published = published i;
      authors = authors i;
      contributors = contributors i;
      links = links i;
      categories = categories i;
      rights = rights i;
      summary = summary i;
      content = content i;
    } in
    parts ∙ c.self.view_is

pub returns-clause-rules : goal.returns-clause-rules
returns-clause-rules c = subst IsDraft c.self.view_is (record {
  id = c.in_ok-id.ensures.rules.0;
  title = c.in_ok-id.ensures.rules.1;
  updated = c.in_ok-updated.ensures.rules.0;
  published = c.in_ok-updated.ensures.rules.1;
  authors = c.in_ok-authors.ensures.rules.0;
  contributors = c.in_ok-authors.ensures.rules.1;
  links = c.in_ok-authors.ensures.rules.2;
  categories = c.in_ok-authors.ensures.rules.3;
  rights = c.in_ok-rights.ensures.rules.0;
  summary = c.in_ok-rights.ensures.rules.1;
  content = c.in_ok-rights.ensures.rules.2;
})
