use Rattle.std.proofs.Common.{◌≡◌, ◌≤◌, ◌<◌, [], ◌∷◌, ◌++◌, refl, sym, ap, subst, ◌∙◌, arith, codes, inr, ⊎_elim, None}
use Rattle.std.proofs.Common.{Err}
use Rattle.std.proofs.lemmas.Bool.{both_ways}
use Rattle.atom_values.specs.Entry.{category_limit}
use Rattle.entry_reader.specs.declared.fault.EarlyEnd.TheVariants.{Fault}
use Rattle.entry_reader.specs.declared.fault.Why.TheVariants.{Missing, TooMany}
use Rattle.xml_tokens.specs.Tree.Content.{nothing}
use Rattle.entry_reader.specs.Entry.{category}
use Rattle.xml_tokens.specs.Children.{attribute_in, same_name}
use Rattle.xml_tokens.specs.Names.{app}
use Rattle.entry_reader.specs.Faults.{is_one_of, persons, single_parts}
use Rattle.entry_reader.specs.Faults.Within.{in_entry}
use Rattle.xml_tokens.specs.Progress.{pending}
use Rattle.entry_reader.specs.Parts.{IsStopped, count_of}
use Rattle.entry_reader.proofs.ChildLemmas.{no_some, part_stopped, stopped_here}
use Rattle.entry_reader.proofs.ItemLemmas.{beside_faultless, category_part, category_room, item_many, item_missing}
use Rattle.entry_reader.proofs.ItemLemmas.{no_value, one_value}
use Rattle.entry_reader.proofs.entry.Parts.category.Goals as goal

pub returns-in_default-clause-read : goal.returns-in_default-clause-read
returns-in_default-clause-read c = λ from before e at of is count.
    let old = c.args.elements.now in
    let none : attribute_in (codes "term") e.attributes ≡ None =
    no_value (category (record { element = e; content = nothing })) (attribute_in (codes "term") e.attributes)
    (sym (c.in_ok-category.ensures e of) ∙ no_some c.in_ok-category.field-0 c.in_default.not-Some) in
    stopped_here old from before e c.args.child.now c.refused.result Missing at of c.refused.ensures
    (λ inner. item_missing before e inner (ap (is_one_of single_parts) is)
    (ap (λ n. same_name n (app (codes "control"))) is)
    (inr (inr ((refl, ap (is_one_of (codes "category" ∷ [])) is), none))))

pub returns-then-len-clause-read : goal.returns-then-len-clause-read
returns-then-len-clause-read c = λ from before e at of is count.
    let old = c.args.elements.now in
    let value = one_value (category (record { element = e; content = nothing })) c.in-Some.category
    (attribute_in (codes "term") e.attributes) (sym c.in-Some.is ∙ c.in_ok-category.ensures e of) in
    let long = c.len.ensures.count in
    let full = c.if-len.true in
    let limit : category_limit ≤ count_of e.name before = omega arith in
    stopped_here old from before e c.args.child.now c.refused-then-len.result TooMany at of c.refused-then-len.ensures
    (λ inner. item_many before e inner (ap (is_one_of single_parts) is)
    (ap (λ n. same_name n (app (codes "control"))) is) (category_part before e inner is value.1)
    (inr (inr ((refl, ap (is_one_of (codes "category" ∷ [])) is), limit))))

pub returns-in-Err-clause-read : goal.returns-in-Err-clause-read
returns-in-Err-clause-read c = λ from before e at of is count.
    let old = c.args.elements.now in
    let value = one_value (category (record { element = e; content = nothing })) c.in-Some.category
    (attribute_in (codes "term") e.attributes) (sym c.in-Some.is ∙ c.in_ok-category.ensures e of) in
    ⊎_elim
    (λ full.
    let most = c.in-Err.ensures.full.0 (ap (λ f. Err f) full) in
    let limit : category_limit ≤ count_of e.name before = omega arith in
    stopped_here old from before e c.args.child.now c.list_end.result TooMany at of (c.list_end.ensures.full _ full)
    (λ inner. item_many before e inner (ap (is_one_of single_parts) is)
    (ap (λ n. same_name n (app (codes "control"))) is) (category_part before e inner is value.1)
    (inr (inr ((refl, ap (is_one_of (codes "category" ∷ [])) is), limit)))))
    (λ memory.
    subst (λ s. IsStopped old.length (pending old) from in_entry before e s old)
    (sym (c.list_end.ensures.memory memory)) tt)
    c.in-Err.ensures.refusals

pub returns-in_err-skip-clause-read : goal.returns-in_err-skip-clause-read
returns-in_err-skip-clause-read c = λ from before e at of is count.
    let old = c.args.elements.now in
    part_stopped old.length (pending old) from before e _ (Fault c.in_err-skip.field-0.0)
    c.from_residual-in_err-skip.result c.skip.new.self c.from_residual-in_err-skip.ensures.1
    (c.in_err-skip.ensures.read from at)

pub returns-clause-read : goal.returns-clause-read
returns-clause-read c = λ from before e at of is count.
    let x = c.in_ok-skip.ensures.read from at in
    let value = one_value (category (record { element = e; content = nothing })) c.in-Some.category
    (attribute_in (codes "term") e.attributes) (sym c.in-Some.is ∙ c.in_ok-category.ensures e of) in
    let old = c.args.self.now.categories.items in
    let long = c.len.ensures.count in
    let within = c.len.ensures.within in
    let room = c.if-len.false in
    let few : count_of e.name before < category_limit = omega arith in (
      x.0,
      x.1,
      x.2,
      x.3,
      (
        refl,
        (
          c.in_default-push.ensures.ok ∙ ap (λ v. old ++ v ∷ []) value.0,
          beside_faultless before e x.0 (ap (is_one_of single_parts) is) (ap (is_one_of persons) is)
              (λ p. both_ways (same_name e.name (app (codes "control")))
              (ap (λ n. same_name n (app (codes "control"))) is) p.1)
              (category_part before e x.0 is value.1) (category_room before e x.0 is few),
        ),
      ),
    )
