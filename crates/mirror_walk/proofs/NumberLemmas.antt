-- The numbers of an archive, by the rules of documents.
use Rattle.std.proofs.Common.{◌≡◌, ℕ, ◌-◌, ◌==◌, ◌≤◌, nat_le, not, if◌then◌else◌, IsTrue, subst}
use Rattle.std.proofs.lemmas.Bool.{and_parts, eqb-true, leb-true}
use Rattle.atom_writer.specs.Doc.{DocValue, KeepsRules, archive_limit, is_placed}
use Rattle.atom_writer.specs.declared.doc.Kind.{Kind}
use Rattle.atom_writer.specs.declared.doc.Kind.TheVariants.{Archive}
use Rattle.chain_links.specs.declared.place.Span.{Span}

-- numbers from 1, and the archive before has the number before
pub record HasNumbers (number prev : ℕ) : Type 0 where
  pub one : 1 ≤ number
  pub most : number ≤ archive_limit
  pub before : prev ≡ number - 1

pub archive-numbers : (document : DocValue) (number : ℕ) → KeepsRules document
    → document.kind ≡ Archive number
    → HasNumbers number document.prev
archive-numbers document number keeps kind =
    placed number document.span document.prev
    (subst (λ (k : Kind). IsTrue (is_placed k document.span document.prev)) kind keeps.placed)
  where
    placed : (number : ℕ) (span : Span) (prev : ℕ) → IsTrue (is_placed (Archive number) span prev)
        → HasNumbers number prev
    placed number span prev is =
        let four = and_parts _ (if number == 1 then span.first == 1 else not (span.first == 1)) is in
        let three = and_parts _ (nat_le span.first span.last) four.0 in
        let two = and_parts _ (prev == number - 1) three.0 in
        let one = and_parts (nat_le 1 number) (nat_le number archive_limit) two.0 in
        record {
          one = leb-true 1 number one.0;
          most = leb-true number archive_limit one.1;
          before = eqb-true prev (number - 1) two.1;
        }
