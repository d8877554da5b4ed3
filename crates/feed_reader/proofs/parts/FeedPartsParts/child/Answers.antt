use Rattle.std.proofs.Common.{◌≡◌, ◌∙◌, true, None, Ok, ap, codes, option_map, refl, subst, sym, rules}
use Rattle.std.specs.Prelude.{is_some, Option}
use Rattle.xml_tokens.specs.declared.elements.Elements.{Elements}
use Rattle.xml_tokens.specs.Tree.{Content}
use Rattle.xml_tokens.specs.Children.{same_name, with_child}
use Rattle.feed_reader.specs.declared.fault.FeedWhy.{FeedWhy}
use Rattle.feed_reader.specs.declared.parts.FeedParts.{FeedParts}
use Rattle.xml_tokens.specs.Names.{atom}
use Rattle.xml_tokens.specs.Progress.{pending}
use Rattle.feed_reader.specs.FeedReading.{AreNoted, IsFeedSoFar}
use Rattle.feed_reader.specs.Rest.{IsRestRead}
use Rattle.feed_reader.proofs.ChildrenLemmas.{rest_err}
use Rattle.feed_reader.proofs.FeedChildLemmas.{feed_past, feed_with_entry, feed_with_gone, feed_with_id, feed_with_link}
use Rattle.feed_reader.proofs.FeedChildLemmas.{feed_with_other, feed_with_updated, gone_required, link_required, rest_skipped}
use Rattle.feed_reader.proofs.FeedMadeLemmas.{none_is}
use Rattle.feed_reader.proofs.NamedLemmas.{name_is}
use Rattle.feed_reader.proofs.parts.FeedPartsParts.child.Goals.{then-is_atom-2+in_ok-why, else-is_atom-2+then-is_atom-3+in_ok-why-2}
use Rattle.feed_reader.proofs.parts.FeedPartsParts.child.Goals.{else-is_atom-2+else-is_atom-3+in_ok-skip}
use Rattle.feed_reader.proofs.parts.FeedPartsParts.child.Goals.{then-is_atom-4+in_ok-why-3}
use Rattle.feed_reader.proofs.parts.FeedPartsParts.child.Goals.{else-is_atom-4+then-is_tombstone+in_ok-why-4, else-is_atom-4+else-is_tombstone}
use Rattle.feed_reader.proofs.parts.FeedPartsParts.child.Goals as goal

pub returns-then-is_some-clause-read : goal.returns-then-is_some-clause-read
returns-then-is_some-clause-read c = λ from b e at of h.
    let old = c.args.self.now in
    let is : is_some old.refused ≡ true = search rules in
    rest_skipped _ _ _ _ _ c.skip.result
    (λ inner. feed_past b e inner old _ h old.refused refl is refl refl (c.note.ensures b inner e of h.required))
    (c.skip.ensures.read from at)

pub returns-in_err-self-clause-read : goal.returns-in_err-self-clause-read
returns-in_err-self-clause-read c = λ from b e at of h.
    let old = c.args.elements.now in
    rest_err _ old.length (pending old) from c.entry.new.elements c.in_err-self.field-0.0 c.from_residual.result
    c.from_residual.ensures.1 (c.in_err-self.ensures.read from e at of)

pub returns-then-is_atom-clause-read : goal.returns-then-is_atom-clause-read
returns-then-is_atom-clause-read c = λ from b e at of h.
    let old = c.args.self.now in
    let none : old.refused ≡ None = none_is old.refused (search rules) in
    let is = sym (c.is_atom.ensures e of) ∙ c.if-is_atom.true in
    let n = name_is e.name (atom (codes "entry")) is in
    let x = c.in_ok-self.ensures.read from e at of in (
      x.0,
      x.1,
      x.2,
      x.3,
      feed_with_entry b e x.0 old _ _ h none (c.note.ensures b x.0 e of h.required)
          (record { id = refl; updated = refl; prev = refl; address = refl; entries = refl; gone = refl }) c.entry.new.self _
          refl refl (ap (λ k. same_name k (atom (codes "id"))) n) (ap (λ k. same_name k (atom (codes "updated"))) n)
          (ap (λ k. same_name k (atom (codes "link"))) n) is x.4
          (record { id = refl; updated = refl; prev = refl; address = refl; entries = refl; gone = refl }),
    )

pub returns-in_err-why-clause-read : goal.returns-in_err-why-clause-read
returns-in_err-why-clause-read c = λ from b e at of h.
    let old = c.args.elements.now in
    rest_err _ old.length (pending old) from c.identifier.new.elements c.in_err-why.field-0.0
    c.from_residual-in_err-why.result c.from_residual-in_err-why.ensures.1 (c.in_err-why.ensures.read from at)

pub returns-in_err-why-2-clause-read : goal.returns-in_err-why-2-clause-read
returns-in_err-why-2-clause-read c = λ from b e at of h.
    let old = c.args.elements.now in
    rest_err _ old.length (pending old) from c.date.new.elements c.in_err-why-2.field-0.0
    c.from_residual-in_err-why-2.result c.from_residual-in_err-why-2.ensures.1 (c.in_err-why-2.ensures.read from at)

pub returns-in_err-skip-clause-read : goal.returns-in_err-skip-clause-read
returns-in_err-skip-clause-read c = λ from b e at of h.
    let old = c.args.elements.now in
    rest_err _ old.length (pending old) from c.skip-else-is_atom-3.new.self c.in_err-skip.field-0.0
    c.from_residual-in_err-skip.result c.from_residual-in_err-skip.ensures.1 (c.in_err-skip.ensures.read from at)

pub returns-clause-read : goal.returns-clause-read
returns-clause-read c = λ from b e at of h.
    let old = c.args.self.now in
    let start = c.args.elements.now in
    let none : old.refused ≡ None = none_is old.refused (search rules) in
    let noted_parts : FeedParts = record old { required = c.note.new.self } in
    let noted : (inner : Content) → AreNoted (with_child b e inner) c.note.new.self = λ inner.
    c.note.ensures b inner e of h.required in
    let n = sym (c.is_atom.ensures e of) ∙ c.if-is_atom.false in
    let final : FeedParts → Option FeedWhy → FeedParts = λ parts why. record parts {
      refused = option_map (λ cause. (c.args.child.now.at, cause)) why;
    } in
    let G : Elements → FeedParts → Option FeedWhy → Type 0 = λ elements parts why.
    IsRestRead (λ inner (x : Unit {0}). IsFeedSoFar (with_child b e inner) (final parts why)) start.length
    (pending start) from (Ok tt) elements in
    let placed : (why : Option FeedWhy) → option_map (λ cause. (c.args.child.now.at, cause)) why
    ≡ option_map (λ cause. (e.place, cause)) why = λ why.
    ap (λ k. option_map (λ cause. (k, cause)) why) (sym of.place) in
    let all : G c.if-is_atom-2.elements c.if-is_atom-2.self c.if-is_atom-2.why = elim c.if-is_atom-2.branch [
      | then-is_atom-2+in_ok-why w ↦
          let parts : FeedParts = record noted_parts { id = w.identifier.new.slot } in
          let is = sym (c.is_atom-2.ensures e of) ∙ w.if-is_atom-2.true in
          let x = w.in_ok-why.ensures.read from at in
          subst (λ k. G k c.if-is_atom-2.self c.if-is_atom-2.why) (sym w.elements-is)
          (subst (λ k. G w.identifier.new.elements k c.if-is_atom-2.why) (sym w.self-is)
          (subst (λ k. G w.identifier.new.elements parts k) (sym w.why-is) (
            x.0,
            x.1,
            x.2,
            x.3,
            feed_with_id b e x.0 old noted_parts (final parts w.in_ok-why.why) h none (noted x.0)
                (record { id = refl; updated = refl; prev = refl; address = refl; entries = refl; gone = refl })
                w.in_ok-why.why (placed w.in_ok-why.why) refl is x.4 refl refl refl refl refl,
          )))
      | else-is_atom-2+then-is_atom-3+in_ok-why-2 w ↦
          let parts : FeedParts = record noted_parts { updated = w.date.new.slot } in
          let a = sym (c.is_atom-2.ensures e of) ∙ w.if-is_atom-2.false in
          let is = sym (w.is_atom-else-is_atom-2.ensures e of) ∙ w.if-is_atom-3.true in
          let x = w.in_ok-why-2.ensures.read from at in
          subst (λ k. G k c.if-is_atom-2.self c.if-is_atom-2.why) (sym w.elements-is)
          (subst (λ k. G w.date.new.elements k c.if-is_atom-2.why) (sym w.self-is)
          (subst (λ k. G w.date.new.elements parts k) (sym w.why-is) (
            x.0,
            x.1,
            x.2,
            x.3,
            feed_with_updated b e x.0 old noted_parts (final parts w.in_ok-why-2.why) h none (noted x.0)
                (record { id = refl; updated = refl; prev = refl; address = refl; entries = refl; gone = refl })
                w.in_ok-why-2.why (placed w.in_ok-why-2.why) refl a is x.4 refl refl refl refl refl,
          )))
      | else-is_atom-2+else-is_atom-3+in_ok-skip w ↦
          let a = sym (c.is_atom-2.ensures e of) ∙ w.if-is_atom-2.false in
          let u = sym (w.is_atom-else-is_atom-2.ensures e of) ∙ w.if-is_atom-3.false in
          let x = w.in_ok-skip.ensures.read from at in
          let end : Elements = w.skip-else-is_atom-3.new.self in
          let Q : FeedParts → Option FeedWhy → Type 0 = λ parts why.
          IsFeedSoFar (with_child b e x.0) (final parts why) in
          let read : Q w.if-is_atom-4.self w.if-is_atom-4.why = elim w.if-is_atom-4.branch [
            | then-is_atom-4+in_ok-why-3 v ↦
                let is = sym (w.is_atom-else-is_atom-3.ensures e of) ∙ v.if-is_atom-4.true in
                let parts : FeedParts = v.link.new.self in
                let why = v.in_ok-why-3.why in
                let taken = v.in_ok-why-3.ensures.taken e of in
                subst (λ k. Q k w.if-is_atom-4.why) (sym v.self-is)
                (subst (λ k. Q parts k) (sym v.why-is)
                (feed_with_link b e x.0 old noted_parts (final parts why) h none (noted x.0)
                (record { id = refl; updated = refl; prev = refl; address = refl; entries = refl; gone = refl })
                why (placed why) (link_required e noted_parts parts why taken) a u parts is taken
                (record { id = refl; updated = refl; prev = refl; address = refl; entries = refl; gone = refl })))
            | else-is_atom-4+then-is_tombstone+in_ok-why-4 v ↦
                let l = sym (w.is_atom-else-is_atom-3.ensures e of) ∙ v.if-is_atom-4.false in
                let is = sym (v.is_tombstone.ensures e of) ∙ v.if-is_tombstone.true in
                let parts : FeedParts = v.tombstone.new.self in
                let why = v.in_ok-why-4.why in
                let taken = v.in_ok-why-4.ensures.taken e of in
                subst (λ k. Q k w.if-is_atom-4.why) (sym v.self-is)
                (subst (λ k. Q parts k) (sym v.why-is)
                (feed_with_gone b e x.0 old noted_parts (final parts why) h none (noted x.0)
                (record { id = refl; updated = refl; prev = refl; address = refl; entries = refl; gone = refl })
                why (placed why) (gone_required e noted_parts parts why taken) a u parts l n is taken
                (record { id = refl; updated = refl; prev = refl; address = refl; entries = refl; gone = refl })))
            | else-is_atom-4+else-is_tombstone v ↦
                let l = sym (w.is_atom-else-is_atom-3.ensures e of) ∙ v.if-is_atom-4.false in
                let g = sym (v.is_tombstone.ensures e of) ∙ v.if-is_tombstone.false in
                subst (λ k. Q k w.if-is_atom-4.why) (sym v.self-is)
                (subst (λ k. Q noted_parts k) (sym v.why-is)
                (feed_with_other b e x.0 old noted_parts (final noted_parts None) h none (noted x.0)
                (record { id = refl; updated = refl; prev = refl; address = refl; entries = refl; gone = refl })
                None (placed None) refl a u l n g refl refl refl refl refl refl refl))
          ] in
          subst (λ k. G k c.if-is_atom-2.self c.if-is_atom-2.why) (sym w.elements-is)
          (subst (λ k. G end k c.if-is_atom-2.why) (sym w.self-is)
          (subst (λ k. G end w.if-is_atom-4.self k) (sym w.why-is) (x.0, x.1, x.2, x.3, read)))
    ] in
    subst (λ r. IsRestRead (λ inner (x : Unit {0}). IsFeedSoFar (with_child b e inner)
    (record c.if-is_atom-2.self { refused = r })) start.length (pending start) from (Ok tt) c.if-is_atom-2.elements)
    (sym c.refusal-self.ensures) all
