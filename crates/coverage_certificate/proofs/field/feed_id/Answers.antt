use Rattle.std.proofs.Common.{◌≡◌, true, false, Some, sym, ap, ◌∙◌}
use Rattle.std.proofs.lemmas.Slice.Eq.{bytes_eq-Decides}
use Rattle.deleted_entries.specs.FeedId.{feed_text}
use Rattle.atom_grammar.proofs.OwnAddressLemmas.{id_is, id_same}
use Rattle.coverage_certificate.proofs.field.feed_id.Goals as goal

pub returns-in_err-id-clause-only : goal.returns-in_err-id-clause-only
returns-in_err-id-clause-only c = λ id is e.
    let taken : false ≡ true = c.in_err-id.ensures.taken.1 (id, id_is c.args.text.now id is e, is.version) in
    absurd cc

pub returns-then-eq-clause-only : goal.returns-then-eq-clause-only
returns-then-eq-clause-only c =
    λ id is e. ap (λ x. Some x) (id_same c.args.text.now c.in_ok-id.id id c.in_ok-id.ensures.value is e)

pub returns-else-eq-clause-only : goal.returns-else-eq-clause-only
returns-else-eq-clause-only c = λ id is e.
    let same = id_same c.args.text.now c.in_ok-id.id id c.in_ok-id.ensures.value is e in
    let texts = c.as_slice.ensures ∙ c.print.ensures.text ∙ ap feed_text same ∙ sym e in
    absurd (let h : true ≡ false = sym ((bytes_eq-Decides _ _).1 texts) ∙ sym c.eq.ensures ∙ c.if-eq.false in cc)
