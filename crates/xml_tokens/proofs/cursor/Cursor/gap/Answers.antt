use Rattle.std.proofs.Common.{◌≡◌, ◌≢◌, eqb, [], ◌∷◌, ◌++◌, List, ℕ, length, eqb-true, refl, sym, ap, ◌∙◌, subst}
use Rattle.std.proofs.Common.{IsTrue}
use Rattle.std.proofs.lemmas.Bool.{both_ways}
use Rattle.std.proofs.lemmas.List.{nil_from_length}
use Rattle.atom_values.specs.Space.{is_space}
use Rattle.xml_tokens.specs.Reading.{a_gap, Continues, first_is_no}
use Rattle.xml_tokens.proofs.PartLemmas.{ended_reads}
use Rattle.xml_tokens.proofs.EncodingLemmas.{no_gap}
use Rattle.xml_tokens.proofs.cursor.Cursor.gap.Goals as goal

pub returns-then-is_empty : goal.returns-then-is_empty
returns-then-is_empty c =
    let text = c.args.self.now.rest.now in
    let end = c.spaces.new.self.rest.now in
    let e = c.spaces.ensures in
    let none : e.spaces ≡ [] = nil_from_length e.spaces (e.none c.if-spaces.false) in
    let over : end ≡ [] = nil_from_length end (eqb-true (length end) 0 (sym c.if-is_empty.ensures)) in
    ended_reads {P = a_gap} (λ v rest is. is.0.1 refl)
    (32 ∷ [], (tt, [], record { front = 32 ∷ []; split = refl; spelled = ((refl, (λ (e : 32 ∷ [] ≡ []). cc)), refl) }))
    text (e.split ∙ (λ i. none i ++ over i)) end

pub returns : goal.returns
returns c = λ (some : Continues a_gap c.args.self.now.rest.now).
    let text = c.args.self.now.rest.now in
    let end = c.spaces.new.self.rest.now in
    let e = c.spaces.ensures in
    let none : e.spaces ≡ [] = nil_from_length e.spaces (e.none c.if-spaces.false) in
    let same : text ≡ end = e.split ∙ ap (λ xs. xs ++ end) none in
    let N : List ℕ → Type 0 = λ xs. IsTrue (first_is_no is_space xs) in
    let f = some.1.2 in
    let some_text : text ≢ [] = λ nil.
    both_ways (eqb (length end) 0) (sym c.if-is_empty.ensures) (ap (λ xs. eqb (length xs) 0) (sym same ∙ nil)) in
    no_gap text some.0 f.front some.1.1 some_text (subst N (sym same) e.longest) f.split f.spelled.0
