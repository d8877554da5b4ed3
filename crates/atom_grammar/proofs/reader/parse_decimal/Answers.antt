use Rattle.std.proofs.Common.{Some, sym, ap, ◌∙◌, arith}
use Rattle.std.proofs.lemmas.Slice.Eq.{bytes_eq-Decides}
use Rattle.std.proofs.lemmas.Fmt.{decimal_injective}
use Rattle.std.proofs.lemmas.Bool.{false≢true}
use Rattle.atom_grammar.proofs.DecimalLemmas.{zero_is, from_one}
use Rattle.atom_grammar.proofs.reader.parse_decimal.Goals as goal

pub returns-then-eq-clause-found : goal.returns-then-eq-clause-found
returns-then-eq-clause-found c =
    (omega arith, (bytes_eq-Decides _ _).0 (sym c.eq.ensures ∙ c.if-eq.true) ∙ c.as_slice.ensures ∙ sym zero_is)

pub returns-then-eq-clause-only : goal.returns-then-eq-clause-only
returns-then-eq-clause-only c = λ n small e.
    let text = (bytes_eq-Decides _ _).0 (sym c.eq.ensures ∙ c.if-eq.true) ∙ c.as_slice.ensures ∙ sym zero_is in
    ap (λ k. Some k) (decimal_injective 0 n (omega arith) (omega arith) (sym text ∙ e))

pub returns-clause-only : goal.returns-clause-only
returns-clause-only c = λ n small e.
    c.whole_number.ensures.only n
    (from_one c.args.text.now n
    (λ is. false≢true (sym c.if-eq.false ∙ c.eq.ensures ∙ (bytes_eq-Decides _ _).1 (is ∙ sym c.as_slice.ensures)))
    e) small e
