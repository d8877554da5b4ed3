use Rattle.std.proofs.Common.{◌≡◌, ◌∙◌, true, None, Ok, ap, option_map, refl, subst, sym, rules}
use Rattle.std.specs.Prelude.{is_some, Option}
use Rattle.xml_tokens.specs.declared.elements.Elements.{Elements}
use Rattle.xml_tokens.specs.Tree.{Content}
use Rattle.xml_tokens.specs.Children.{with_child}
use Rattle.xml_tokens.specs.Progress.{pending}
use Rattle.feed_reader.specs.declared.entry.EntryParts.{EntryParts}
use Rattle.feed_reader.specs.declared.fault.FeedWhy.{FeedWhy}
use Rattle.feed_reader.specs.FeedReading.{AreNoted, IsEntrySoFar}
use Rattle.feed_reader.specs.Rest.{IsRestRead}
use Rattle.feed_reader.proofs.ChildrenLemmas.{rest_err}
use Rattle.feed_reader.proofs.FeedChildLemmas.{entry_past, entry_with_id, entry_with_other, entry_with_title}
use Rattle.feed_reader.proofs.FeedChildLemmas.{entry_with_updated, rest_skipped}
use Rattle.feed_reader.proofs.FeedMadeLemmas.{none_is}
use Rattle.feed_reader.proofs.entry.EntryPartsParts.child.Goals.{then-is_atom+in_ok-why, else-is_atom+then-is_atom-2+in_ok-why-2}
use Rattle.feed_reader.proofs.entry.EntryPartsParts.child.Goals.{else-is_atom+else-is_atom-2+then-is_atom-3+in_ok-why-3}
use Rattle.feed_reader.proofs.entry.EntryPartsParts.child.Goals.{else-is_atom+else-is_atom-2+else-is_atom-3+in_ok-skip}
use Rattle.feed_reader.proofs.entry.EntryPartsParts.child.Goals as goal

pub returns-then-is_some-clause-read : goal.returns-then-is_some-clause-read
returns-then-is_some-clause-read c = λ from b e at of h.
    let old = c.args.self.now in
    let is : is_some old.refused ≡ true = search rules in
    rest_skipped _ _ _ _ _ c.skip.result
    (λ inner. entry_past b e inner old _ h old.refused refl is refl (c.note.ensures b inner e of h.required))
    (c.skip.ensures.read from at)

pub returns-in_err-why-clause-read : goal.returns-in_err-why-clause-read
returns-in_err-why-clause-read c = λ from b e at of h.
    let old = c.args.elements.now in
    rest_err _ old.length (pending old) from c.identifier.new.elements c.in_err-why.field-0.0 c.from_residual.result
    c.from_residual.ensures.1 (c.in_err-why.ensures.read from at)

pub returns-in_err-why-2-clause-read : goal.returns-in_err-why-2-clause-read
returns-in_err-why-2-clause-read c = λ from b e at of h.
    let old = c.args.elements.now in
    rest_err _ old.length (pending old) from c.date.new.elements c.in_err-why-2.field-0.0
    c.from_residual-in_err-why-2.result c.from_residual-in_err-why-2.ensures.1 (c.in_err-why-2.ensures.read from at)

pub returns-in_err-why-3-clause-read : goal.returns-in_err-why-3-clause-read
returns-in_err-why-3-clause-read c = λ from b e at of h.
    let old = c.args.elements.now in
    rest_err _ old.length (pending old) from c.title.new.elements c.in_err-why-3.field-0.0
    c.from_residual-in_err-why-3.result c.from_residual-in_err-why-3.ensures.1 (c.in_err-why-3.ensures.read from at)

pub returns-in_err-skip-clause-read : goal.returns-in_err-skip-clause-read
returns-in_err-skip-clause-read c = λ from b e at of h.
    let old = c.args.elements.now in
    rest_err _ old.length (pending old) from c.skip-else-is_atom-3.new.self c.in_err-skip.field-0.0
    c.from_residual-in_err-skip.result c.from_residual-in_err-skip.ensures.1 (c.in_err-skip.ensures.read from at)

pub returns-clause-read : goal.returns-clause-read
returns-clause-read c = λ from b e at of h.
    let old = c.args.self.now in
    let start = c.args.elements.now in
    let none : old.refused ≡ None = none_is old.refused (search rules) in
    let noted : (inner : Content) → AreNoted (with_child b e inner) c.note.new.self = λ inner. c.note.ensures b inner e of h.required in
    let final : EntryParts → Option FeedWhy → EntryParts = λ parts why. record parts {
      refused = option_map (λ cause. (c.args.child.now.at, cause)) why;
    } in
    let G : Elements → EntryParts → Option FeedWhy → Type 0 = λ elements parts why.
    IsRestRead (λ inner (x : Unit {0}). IsEntrySoFar (with_child b e inner) (final parts why)) start.length
    (pending start) from (Ok tt) elements in
    let placed : (why : Option FeedWhy) → option_map (λ cause. (c.args.child.now.at, cause)) why
    ≡ option_map (λ cause. (e.place, cause)) why = λ why.
    ap (λ k. option_map (λ cause. (k, cause)) why) (sym of.place) in
    let all : G c.if-is_atom.elements c.if-is_atom.self c.if-is_atom.why = elim c.if-is_atom.branch [
      | then-is_atom+in_ok-why w ↦
          let parts : EntryParts = record old { required = c.note.new.self; id = w.identifier.new.slot } in
          let is = sym (c.is_atom.ensures e of) ∙ w.if-is_atom.true in
          let x = w.in_ok-why.ensures.read from at in
          subst (λ k. G k c.if-is_atom.self c.if-is_atom.why) (sym w.elements-is)
          (subst (λ k. G w.identifier.new.elements k c.if-is_atom.why) (sym w.self-is)
          (subst (λ k. G w.identifier.new.elements parts k) (sym w.why-is) (
            x.0,
            x.1,
            x.2,
            x.3,
            entry_with_id b e x.0 old (final parts w.in_ok-why.why) h none (noted x.0) w.in_ok-why.why (placed w.in_ok-why.why) is x.4 refl refl,
          )))
      | else-is_atom+then-is_atom-2+in_ok-why-2 w ↦
          let parts : EntryParts = record old { required = c.note.new.self; updated = w.date.new.slot } in
          let a = sym (c.is_atom.ensures e of) ∙ w.if-is_atom.false in
          let is = sym (w.is_atom-else-is_atom.ensures e of) ∙ w.if-is_atom-2.true in
          let x = w.in_ok-why-2.ensures.read from at in
          subst (λ k. G k c.if-is_atom.self c.if-is_atom.why) (sym w.elements-is)
          (subst (λ k. G w.date.new.elements k c.if-is_atom.why) (sym w.self-is)
          (subst (λ k. G w.date.new.elements parts k) (sym w.why-is) (
            x.0,
            x.1,
            x.2,
            x.3,
            entry_with_updated b e x.0 old (final parts w.in_ok-why-2.why) h none (noted x.0) w.in_ok-why-2.why (placed w.in_ok-why-2.why) a is x.4 refl refl,
          )))
      | else-is_atom+else-is_atom-2+then-is_atom-3+in_ok-why-3 w ↦
          let parts : EntryParts = record old { required = c.note.new.self; title = w.title.new.slot } in
          let a = sym (c.is_atom.ensures e of) ∙ w.if-is_atom.false in
          let u = sym (w.is_atom-else-is_atom.ensures e of) ∙ w.if-is_atom-2.false in
          let is = sym (w.is_atom-else-is_atom-2.ensures e of) ∙ w.if-is_atom-3.true in
          let x = w.in_ok-why-3.ensures.read from at in
          subst (λ k. G k c.if-is_atom.self c.if-is_atom.why) (sym w.elements-is)
          (subst (λ k. G w.title.new.elements k c.if-is_atom.why) (sym w.self-is)
          (subst (λ k. G w.title.new.elements parts k) (sym w.why-is) (
            x.0,
            x.1,
            x.2,
            x.3,
            entry_with_title b e x.0 old (final parts w.in_ok-why-3.why) h none (noted x.0) w.in_ok-why-3.why (placed w.in_ok-why-3.why) a u is x.4 refl refl,
          )))
      | else-is_atom+else-is_atom-2+else-is_atom-3+in_ok-skip w ↦
          let parts : EntryParts = record old { required = c.note.new.self } in
          let a = sym (c.is_atom.ensures e of) ∙ w.if-is_atom.false in
          let u = sym (w.is_atom-else-is_atom.ensures e of) ∙ w.if-is_atom-2.false in
          let t = sym (w.is_atom-else-is_atom-2.ensures e of) ∙ w.if-is_atom-3.false in
          let x = w.in_ok-skip.ensures.read from at in
          subst (λ k. G k c.if-is_atom.self c.if-is_atom.why) (sym w.elements-is)
          (subst (λ k. G w.skip-else-is_atom-3.new.self k c.if-is_atom.why) (sym w.self-is)
          (subst (λ k. G w.skip-else-is_atom-3.new.self parts k) (sym w.why-is) (
            x.0,
            x.1,
            x.2,
            x.3,
            entry_with_other b e x.0 old (final parts None) h none (noted x.0) None (placed None) a u t refl refl refl refl,
          )))
    ] in
    subst (λ r. IsRestRead (λ inner (x : Unit {0}). IsEntrySoFar (with_child b e inner)
    (record c.if-is_atom.self { refused = r })) start.length (pending start) from (Ok tt) c.if-is_atom.elements)
    (sym c.refusal-self.ensures) all
