-- A target is a whole address or a path with a suffix, and never both.
use Rattle.std.proofs.Common.{◌++◌, inr, sym, ap, ◌∙◌, Some, ⊎_elim}
use Rattle.std.proofs.lemmas.Option.{none-some, same_Some, IfSome_then}
use Rattle.chain_links.specs.Address.{suffix_text}
use Rattle.chain_links.specs.Base.{path_text}
use Rattle.chain_links.proofs.TargetLemmas.{target_of_address}
use Rattle.chain_links.proofs.base.Base.read_target.Goals as goal

pub returns-in_err-after-in-None-clause-only : goal.returns-in_err-after-in-None-clause-only
returns-in_err-after-in-None-clause-only c = λ address is target.
    ⊎_elim (λ whole. absurd (none-some _ (sym c.in-None.is ∙ c.read.ensures.only address is whole)))
    (λ path. absurd (none-some _ (c.in_err-after-in-None.ensures.only (suffix_text address)
    (path.2 ∙ ap (λ x. x ++ suffix_text address) (sym (c.path.ensures.path path.0 path.1)))))) target

pub returns-in-Some-clause-only : goal.returns-in-Some-clause-only
returns-in-Some-clause-only c = λ address is target.
    let found = c.in-Some.ensures.found in
    ap (λ a. Some a) (target_of_address c.args.self.now c.args.target.now c.in-Some.address address found.0 is found.1
    target)

pub returns-in_ok-after-in-None-clause-found : goal.returns-in_ok-after-in-None-clause-found
returns-in_ok-after-in-None-clause-found c =
    let base = c.path.ensures.base in
    IfSome_then c.read_suffix.result c.read_suffix.ensures.found
    (λ address p. (
      p.0,
      inr (
        base.parts,
        (base.rules, base.spelt),
        c.in_ok-after-in-None.ensures.found
            ∙ ap (λ x. x ++ c.in_ok-after-in-None.field-0.now) (c.path.ensures.path base.parts (base.rules, base.spelt))
            ∙ ap (λ x. path_text base.parts.segments ++ x) p.1,
      ),
    ))

pub returns-in_ok-after-in-None-clause-only : goal.returns-in_ok-after-in-None-clause-only
returns-in_ok-after-in-None-clause-only c = λ address is target.
    ⊎_elim (λ whole. absurd (none-some _ (sym c.in-None.is ∙ c.read.ensures.only address is whole)))
    (λ path. c.read_suffix.ensures.only address is (same_Some _ _ (c.in_ok-after-in-None.ensures.only
    (suffix_text address) (path.2 ∙ ap (λ x. x ++ suffix_text address)
    (sym (c.path.ensures.path path.0 path.1)))))) target
