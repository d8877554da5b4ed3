use Rattle.std.proofs.Common.{[], ◌∷◌, Global, map, length, string_bytes, refl, sym, ap, ◌∙◌, subst, arith, inl, inr}
use Rattle.std.proofs.lemmas.Bool.{cases_Bool, true≢false, eqb-true, eq-eqb}
use Rattle.std.proofs.lemmas.List.{map-append, length-map, nil_from_length}
use Rattle.tool_words.specs.Reading.{names_of, option_of}
use Rattle.tool_words.proofs.OptionLemmas.{AreBegun, IsLeft, begun_all, begun_more, left_next, left_more}
use Rattle.tool_words.proofs.options.are_options.Goals as goal

pub returns-then-not-may_follow-clause-complete : goal.returns-then-not-may_follow-clause-complete
returns-then-not-may_follow-clause-complete c = λ (all, are).
    let step = left_more (names_of c.args.names.now) (names_of c.args.flags.now)
    (map (string_bytes {Z = Global}) c.args.words.now) (names_of c.loop-given.seen.items)
    (map (string_bytes {Z = Global}) c.loop-given.rest.now) all (option_of c.in-Some.given)
    (map (string_bytes {Z = Global}) c.in-Some.left.now) c.requires are (c.loop-given.invariant.only all are)
    c.in-Some.ensures.found c.in-Some.ensures.only in
    absurd (true≢false (sym (c.if-not-may_follow.ensures.1 (rw c.as_slice.ensures.value step.0))))

pub loop-given-preserved : goal.loop-given-preserved
loop-given-preserved c =
    let names = names_of c.args.names.now in
    let flags = names_of c.args.flags.now in
    let words = map (string_bytes {Z = Global}) c.args.words.now in
    let seen = names_of c.loop-given.seen.items in
    let rest = map (string_bytes {Z = Global}) c.loop-given.rest.now in
    let next = option_of c.in-Some.given in
    let left = map (string_bytes {Z = Global}) c.in-Some.left.now in
    let items = ap names_of c.in_ok-push.ensures.items
    ∙ map-append (λ name. name.now) c.loop-given.seen.items (c.in-Some.given.name ∷ []) in
    record {
      begun = subst (λ s. AreBegun names flags words s left) (sym items)
          (begun_more names flags words seen rest next left c.loop-given.invariant.begun c.in-Some.ensures.found
          (rw c.as_slice.ensures.value at (c.if-not-may_follow.ensures.0 refl)));
      only = λ all are.
          subst (λ s. IsLeft s left all) (sym items)
          (left_more names flags words seen rest all next left c.requires are (c.loop-given.invariant.only all are)
          c.in-Some.ensures.found c.in-Some.ensures.only).1;
    }

pub returns-clause-sound : goal.returns-clause-sound
returns-clause-sound c = λ yes.
    let names = names_of c.args.names.now in
    let flags = names_of c.args.flags.now in
    let words = map (string_bytes {Z = Global}) c.args.words.now in
    let seen = names_of c.loop-given.seen.items in
    begun_all names flags words seen
    (subst (AreBegun names flags words seen)
    (ap (map (string_bytes {Z = Global})) (nil_from_length c.loop-given.rest.now
    (eqb-true (length c.loop-given.rest.now) 0 (sym c.is_empty.ensures ∙ yes)))) c.loop-given.invariant.begun)

pub returns-clause-complete : goal.returns-clause-complete
returns-clause-complete c = λ (all, are). elim (cases_Bool c.is_empty.result) [
  | inl empty ↦ empty
  | inr some ↦
      let n = left_next (names_of c.args.names.now) (names_of c.args.flags.now)
      (map (string_bytes {Z = Global}) c.args.words.now) (names_of c.loop-given.seen.items)
      (map (string_bytes {Z = Global}) c.loop-given.rest.now) all c.requires are (c.loop-given.invariant.only all are)
      (λ e. true≢false (sym (eq-eqb (length c.loop-given.rest.now) 0
      (omega (arith, length-map c.loop-given.rest.now (string_bytes {Z = Global}), ap length e)))
      ∙ sym c.is_empty.ensures ∙ some)) in
      absurd (c.in_default.ensures.only n.option _ n.free n.form n.spelt)
]
