use Rattle.std.proofs.Common.{◌≡◌, ℕ, ◌+◌, ◌≤◌, ◌<◌, List, length, drop, false, sym, ap, ◌∙◌, subst, arith}
use Rattle.std.proofs.lemmas.List.{length-drop}
use Rattle.xml_tokens.specs.Characters.{allowed_length, is_refused}
use Rattle.xml_tokens.proofs.AllowedLemmas.{found, none, passed, under}
use Rattle.xml_tokens.proofs.BeginLemmas.{to_end}
use Rattle.xml_tokens.proofs.characters.allowed_length.Goals as goal

-- a step over a suspect byte
step : (text rest : List ℕ) (at : ℕ) → at < length rest → allowed_length rest ≡ at + allowed_length (drop at rest) →
    is_refused (drop at rest) ≡ false → (length rest ≤ length text)
    × (allowed_length text + length rest ≡ length text + allowed_length rest) →
    (length (drop (at + 1) rest) ≤ length text)
    × (allowed_length text + length (drop (at + 1) rest) ≡ length text + allowed_length (drop (at + 1) rest))
step text rest at within here free kept =
    let next = passed rest at within free in
    let long = length-drop (at + 1) rest in
    (omega (arith, kept.0), omega (arith, kept.1))

pub loop-at-smaller : goal.loop-at-smaller
loop-at-smaller c =
    let rest = c.loop-at.rest.now in
    let at = c.in-Some.at in
    let within = (found rest at c.in-Some.ensures).0 in
    omega (arith, ap length (to_end rest (at + 1)), length-drop (at + 1) rest)

pub loop-at-preserved : goal.loop-at-preserved
loop-at-preserved c =
    let text = c.args.text.now in
    let rest = c.loop-at.rest.now in
    let at = c.in-Some.at in
    let f = found rest at c.in-Some.ensures in
    let free = sym (ap is_refused (to_end rest at)) ∙ sym c.is_refused.ensures ∙ c.if-is_refused.false in
    subst (λ xs. (length xs ≤ length text) × (allowed_length text + length xs ≡ length text + allowed_length xs))
    (sym (to_end rest (at + 1))) (step text rest at f.0 f.1 free c.loop-at.invariant)

pub returns-then-is_refused : goal.returns-then-is_refused
returns-then-is_refused c =
    let rest = c.loop-at.rest.now in
    let at = c.in-Some.at in
    let f = found rest at c.in-Some.ensures in
    let bad = sym (ap is_refused (to_end rest at)) ∙ sym c.is_refused.ensures ∙ c.if-is_refused.true in
    let nothing = under (drop at rest) bad in
    let kept = c.loop-at.invariant in
    omega (arith, f.0, f.1, kept.0, kept.1)

pub returns : goal.returns
returns c =
    let rest = c.loop-at.rest.now in
    let all = none rest (sym c.in_default.is ∙ c.first_suspect.ensures) in
    let kept = c.loop-at.invariant in
    omega (arith, kept.0, kept.1)
