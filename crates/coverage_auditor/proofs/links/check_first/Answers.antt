use Rattle.std.proofs.Common.{◌≡◌, ℕ, ◌-◌, ◌∷◌, List, Some, ap, length, sym, ◌∙◌, arith}
use Rattle.std.specs.Prelude.{slice_get}
use Rattle.std.proofs.lemmas.Option.{same_Some}
use Rattle.atom_writer.specs.Doc.{DocValue}
use Rattle.chain_links.specs.declared.place.Span.{Span}
use Rattle.coverage_auditor.specs.Links.{oldest_of}
use Rattle.coverage_auditor.specs.declared.verdict.Verdict.TheVariants.{NotTheFirst}
use Rattle.coverage_auditor.proofs.LinksLemmas.{oldest-at, unless-other, unless-same}
use Rattle.coverage_auditor.proofs.links.check_first.Goals as goal

last-is : (documents : List DocValue) (count : ℕ) (found newest : DocValue) (others : List DocValue)
    → count ≡ length documents → documents ≡ newest ∷ others → slice_get documents (count - 1) ≡ Some found
    → found ≡ oldest_of newest others
last-is documents count found newest others size split there =
    let whole = ap (λ (ds : List DocValue). length ds) split in
    let at : count - 1 ≡ length others = omega (arith, size, whole) in
    same_Some found (oldest_of newest others)
    (sym there ∙ ap (slice_get documents) at ∙ ap (λ (ds : List DocValue). slice_get ds (length others)) split
    ∙ oldest-at newest others)

pub returns-then-first-eq1 : goal.returns-then-first-eq1
returns-then-first-eq1 c newest others split =
    let is = last-is c.args.chain.now c.len.result c.document.result.now newest others c.len.ensures split
    c.document.ensures in
    let first = ap (λ (s : Span). s.first) c.span-first.ensures ∙ ap (λ (d : DocValue). d.span.first) is in
    let oldest = oldest_of newest others in
    unless-same oldest.span.first 1 (NotTheFirst oldest.span.first) (sym first ∙ c.if-first-eq1.true)

pub returns-else-first-eq1 : goal.returns-else-first-eq1
returns-else-first-eq1 c newest others split =
    let is = last-is c.args.chain.now c.len.result c.document.result.now newest others c.len.ensures split
    c.document.ensures in
    let first = ap (λ (s : Span). s.first) c.span-first.ensures ∙ ap (λ (d : DocValue). d.span.first) is in
    let oldest = oldest_of newest others in
    unless-other oldest.span.first 1 (NotTheFirst oldest.span.first) (λ e. c.if-first-eq1.false (first ∙ e))
    ∙ ap (λ n. Some (NotTheFirst n)) (sym first)
