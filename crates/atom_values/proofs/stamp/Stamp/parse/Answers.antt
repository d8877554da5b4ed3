use Rattle.std.proofs.Common.{arith, ◌≡◌, take, drop, length, min, ap, ◌∙◌}
use Rattle.std.proofs.lemmas.List.{take_min, drop_min}
use Rattle.atom_values.specs.DateFormula.{value_of}
use Rattle.atom_values.proofs.DateTextReadLemmas.{value_of-states}
use Rattle.atom_values.proofs.stamp.Stamp.parse.Goals as goal

pub returns : goal.returns
unfolding value_of
returns c =
    let text = c.args.text.now in
    let low : c.min.result ≡ min 19 (length text) = omega arith in
    let front : c.split_at.result.0.now ≡ take 19 text =
    c.split_at.ensures.front ∙ ap (λ n. take n text) low ∙ take_min 19 text in
    let back : c.split_at.result.1.now ≡ drop 19 text =
    c.split_at.ensures.back ∙ ap (λ n. drop n text) low ∙ drop_min 19 text in
    let value : c.value_of_parts.result ≡ value_of text =
    c.value_of_parts.ensures
    ∙ rw (
      c.split_at-2.ensures.front,
      c.split_at-2.ensures.back,
      c.saturating_sub.ensures,
      c.offset_length.ensures,
      front,
      back,
    ) in
    record { stated = λ moment. rw value (value_of-states text moment) }
