-- The text after the base is the suffix of one document's address.
use Rattle.std.proofs.Common.{◌++◌, sym, ap, ◌∙◌}
use Rattle.std.proofs.lemmas.Option.{none-some, same_Some, IfSome_then}
use Rattle.chain_links.specs.Address.{suffix_text}
use Rattle.chain_links.proofs.AddressLemmas.{printed-is, same_address}
use Rattle.chain_links.proofs.base.Base.read.Goals as goal

pub returns-in_err-after-clause-only : goal.returns-in_err-after-clause-only
returns-in_err-after-clause-only c = λ address is e.
    let base = c.deref.ensures.value ∙ c.self.view_is in
    let split = e ∙ printed-is c.args.self.now address ∙ ap (λ x. x ++ suffix_text address) (sym base) in
    absurd (none-some _ (c.in_err-after.ensures.only (suffix_text address) split))

pub returns-in_err-after-clause-distinct : goal.returns-in_err-after-clause-distinct
returns-in_err-after-clause-distinct c =
    λ one other is_one is_other e. same_address c.args.self.now one other is_one is_other e

pub returns-clause-found : goal.returns-clause-found
returns-clause-found c =
    let base = c.deref.ensures.value ∙ c.self.view_is in
    IfSome_then c.read_suffix.result c.read_suffix.ensures.found
    (λ address p. (
      p.0,
      c.in_ok-after.ensures.found ∙ ap (λ x. x ++ c.in_ok-after.field-0.now) base
          ∙ ap (λ x. c.args.self.now ++ x) p.1 ∙ sym (printed-is c.args.self.now address),
    ))

pub returns-clause-only : goal.returns-clause-only
returns-clause-only c = λ address is e.
    let base = c.deref.ensures.value ∙ c.self.view_is in
    let split = e ∙ printed-is c.args.self.now address ∙ ap (λ x. x ++ suffix_text address) (sym base) in
    c.read_suffix.ensures.only address is (same_Some _ _ (c.in_ok-after.ensures.only (suffix_text address) split))

pub returns-clause-distinct : goal.returns-clause-distinct
returns-clause-distinct c = λ one other is_one is_other e. same_address c.args.self.now one other is_one is_other e
