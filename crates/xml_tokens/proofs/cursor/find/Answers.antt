use Rattle.std.proofs.Common.{◌≡◌, ◌++◌, length, take, drop, sym, ap, ◌∙◌, below_more, append_assoc}
use Rattle.std.proofs.Common.{arith}
use Rattle.std.proofs.lemmas.List.{length-take-le, take-append-drop}
use Rattle.xml_tokens.specs.Characters.{begins}
use Rattle.xml_tokens.proofs.BeginLemmas.{to_end, begins_split}
use Rattle.xml_tokens.proofs.FindLemmas.{first_lacks, all_lacks}
use Rattle.xml_tokens.proofs.cursor.find.Goals as goal

pub returns-then-starts_with : goal.returns-then-starts_with
returns-then-starts_with c =
    let text = c.args.text.now in
    let bytes = c.args.pattern.now in
    let at = c.loop-at.at in
    let rest = drop (length bytes) (drop at text) in
    let here = begins_split bytes (drop at text) (ap (begins bytes) (sym (to_end text at))
    ∙ sym c.starts_with.ensures.value ∙ c.if-starts_with.true) in
    let long : length (take at text) ≡ at = length-take-le at text (omega arith) in
    let whole : take at text ++ (bytes ++ rest) ≡ text =
    ap (λ xs. take at text ++ xs) (sym here) ∙ take-append-drop at text in
    record {
      front = take at text;
      rest = rest;
      split = sym whole ∙ sym (append_assoc (take at text) bytes rest);
      place = sym long;
      first = first_lacks bytes (take at text) rest c.requires
          (λ k below. ap (λ xs. begins bytes (drop k xs)) whole ∙ c.loop-at.invariant k (omega arith));
    }

pub loop-at-preserved : goal.loop-at-preserved
loop-at-preserved c = below_more _ _ c.loop-at.invariant (ap (begins c.args.pattern.now)
    (sym (to_end c.args.text.now c.loop-at.at)) ∙ sym c.starts_with.ensures.value ∙ c.if-starts_with.false)

pub returns : goal.returns
returns c = all_lacks c.args.pattern.now c.args.text.now (λ k below. c.loop-at.invariant k (omega arith))
