-- An attribute, part by part: a qualified name, `=` and a quoted value.
use Rattle.std.proofs.Common.{◌≡◌, ℕ, List, [], ◌∷◌, ◌++◌, IsTrue, refl, sym, ap, subst, ◌∙◌, inl, inr, ⊎_elim}
use Rattle.std.proofs.Common.{true, false, not, ◌||◌, ◌==◌, nat_eq, eqb-true, codes, append_assoc, length, arith}
use Rattle.std.specs.Prelude.{Err}
use Rattle.std.proofs.lemmas.List.{length-append}
use Rattle.xml_tokens.specs.declared.cursor.Lapse.TheVariants.{Cut}
use Rattle.std.specs.List.{list_all}
use Rattle.std.proofs.lemmas.Bool.{and_parts, both_ways, or_cases, or_left}
use Rattle.atom_values.specs.Ascii.{colon}
use Rattle.atom_values.specs.Space.{is_space}
use Rattle.xml_tokens.specs.Characters.{AreSpaces, continues_name}
use Rattle.xml_tokens.specs.Tokens.{IsQuote}
use Rattle.xml_tokens.specs.Reading.{quoted_behind, sign_behind, Reads}
use Rattle.xml_tokens.specs.Reading.{seq, whole_qname, equals_sign, one_quote, first_is_no}
use Rattle.xml_tokens.proofs.PartLemmas.{IsPart, Joins, ended_reads, joins_lives, seq_part, same_part}
use Rattle.xml_tokens.proofs.DeclarationLemmas.{quote_joins, equals_joins}
use Rattle.xml_tokens.proofs.PlainLemmas.{plain_nil, plain_value}
use Rattle.xml_tokens.proofs.RunLemmas.{first_grows, first_shrinks}
use Rattle.xml_tokens.proofs.CursorLemmas.{name_then, name_behind, name_behind_joins, name_one, to_qname, from_qname}

name_behind_part : (name : List ℕ) → IsPart (name_behind name)
name_behind_part name = record {
  unique = λ a b s x t y is_s is_t e.
      let N : List ℕ → Type 0 = λ xs. IsTrue (first_is_no (nat_eq colon) xs) in
      ⊎_elim
      (λ p. ⊎_elim
      (λ k. (p.0 ∙ sym k.0, p.1 ∙ sym k.1))
      (λ k.
      let same : x ≡ colon ∷ (k.0 ++ y) = ap (λ xs. xs ++ x) (sym p.1) ∙ e ∙ ap (λ xs. xs ++ y) k.2 in
      absurd (both_ways false refl (subst N same p.3)))
      is_t)
      (λ p. ⊎_elim
      (λ k.
      let same : y ≡ colon ∷ (p.0 ++ x) = ap (λ xs. xs ++ y) (sym k.1) ∙ sym e ∙ ap (λ xs. xs ++ x) p.2 in
      absurd (both_ways false refl (subst N same k.3)))
      (λ k.
      let same : colon ∷ (p.0 ++ x) ≡ colon ∷ (k.0 ++ y) = ap (λ xs. xs ++ x) (sym p.2) ∙ e ∙ ap (λ xs. xs ++ y) k.2 in
      let tails : p.0 ++ x ≡ k.0 ++ y = cc in
      let one = name_one p.0 k.0 p.0 x k.0 y (refl, p.3, p.4) (refl, k.3, k.4) tails in
      (p.1 ∙ ap (λ xs. name ++ colon ∷ xs) one ∙ sym k.1, p.2 ∙ ap (λ xs. colon ∷ xs) one ∙ sym k.2))
      is_t)
      is_s;
  grows = λ a s x more some is.
      ⊎_elim
      (λ p. inl (p.0, p.1, first_grows continues_name x more some p.2, first_grows (nat_eq colon) x more some p.3))
      (λ p. inr (p.0, p.1, p.2, p.3, first_grows continues_name x more some p.4))
      is;
  shrinks = λ a s x more is.
      ⊎_elim
      (λ p. inl (p.0, p.1, first_shrinks continues_name x more p.2, first_shrinks (nat_eq colon) x more p.3))
      (λ p. inr (p.0, p.1, p.2, p.3, first_shrinks continues_name x more p.4))
      is;
}

-- a text begins with one whole qualified name at most
pub qname_part : IsPart whole_qname
qname_part = same_part whole_qname name_then to_qname from_qname (seq_part name_behind_joins name_behind_part)

quoted_goes : (name : List ℕ) (q : ℕ) → IsQuote q → (v : List ℕ × List ℕ) × (t : List ℕ) × quoted_behind name q v t []
quoted_goes name q is =
    ((name, []), q ∷ [], ([], refl, (plain_value q is [] (plain_nil q), refl)))

pub attribute_quote : (name : List ℕ) → Joins one_quote (quoted_behind name)
attribute_quote name = quote_joins (quoted_behind name) (quoted_goes name)

pub attribute_sign : (name : List ℕ) → Joins equals_sign (λ (_ : Unit {0}). seq one_quote (quoted_behind name))
attribute_sign name = equals_joins (quoted_behind name) (quoted_goes name)

pub no_name : (b : ℕ) → (is_space b || (b == 61)) ≡ true → (continues_name b ≡ false) × (nat_eq colon b ≡ false)
no_name b e =
    let C : ℕ → Type 0 = λ k. (continues_name k ≡ false) × (nat_eq colon k ≡ false) in
    let is : (k : ℕ) → C k → b ≡ k → C b = λ k c same. subst C (sym same) c in
    ⊎_elim
    (λ space. ⊎_elim (λ a. ⊎_elim (λ d. ⊎_elim
    (λ t. is 9 (refl, refl) (eqb-true b 9 t)) (λ l. is 10 (
      refl,
      refl,
    ) (eqb-true b 10 l)) (or_cases (b == 9) (b == 10) d))
    (λ r. is 13 (refl, refl) (eqb-true b 13 r)) (or_cases ((b == 9) || (b == 10)) (b == 13) a))
    (λ s. is 32 (refl, refl) (eqb-true b 32 s)) (or_cases ((b == 9) || (b == 10) || (b == 13)) (b == 32) space))
    (λ sign. is 61 (refl, refl) (eqb-true b 61 sign)) (or_cases (is_space b) (b == 61) e)

pub sign_first : (before rest : List ℕ) → AreSpaces before →
    IsTrue (first_is_no continues_name (before ++ 61 ∷ rest)) × IsTrue (first_is_no (nat_eq colon)
    (before ++ 61 ∷ rest))
sign_first [] rest are = (refl, refl)
sign_first (b ∷ before) rest are =
    let p = no_name b (or_left (is_space b) (b == 61) (and_parts (is_space b) (list_all is_space before) are).0) in
    (ap not p.0, ap not p.1)

pub attribute_name : Joins whole_qname sign_behind
attribute_name = record {
  part = qname_part;
  lives = (
    codes "a",
    codes "a",
    (
      record { prefix = []; local = codes "a" },
      refl,
      refl,
      (inl refl, refl),
      refl,
      (λ _. refl),
    ),
  );
  follows = λ name s v t rest is r.
      let sign = r.4 in
      let whole : t ++ rest ≡ sign.0 ++ 61 ∷ (sign.1 ++ (r.2 ++ rest)) =
      ap (λ xs. xs ++ rest) (r.3 ∙ ap (λ xs. xs ++ r.2) sign.4)
      ∙ ap (λ xs. (xs ++ r.2) ++ rest) (append_assoc sign.0 (codes "=") sign.1)
      ∙ append_assoc (sign.0 ++ 61 ∷ sign.1) r.2 rest ∙ append_assoc sign.0 (61 ∷ sign.1) (r.2 ++ rest) in
      let first = sign_first sign.0 (sign.1 ++ (r.2 ++ rest)) sign.2 in
      let N : List ℕ → Type 0 = λ xs. IsTrue (first_is_no continues_name xs) in
      let C : List ℕ → Type 0 = λ xs. IsTrue (first_is_no (nat_eq colon) xs) in
      (is.0, is.1, is.2, is.3, subst N (sym whole) first.0, (λ _. subst C (sym whole) first.1));
  goes = λ name s is. (
    (name, []),
    codes "=\"\"",
    (
      tt,
      codes "=",
      codes "\"\"",
      refl,
      ([], [], refl, refl, refl, refl),
      (
        34,
        codes "\"",
        codes "\"",
        refl,
        (inl refl, refl),
        (
          [],
          refl,
          (plain_value 34 (inl refl) [] (plain_nil 34), refl),
        ),
      ),
    ),
  );
}

-- the text ends after the name
pub name_ended : (name text : List ℕ) → text ≡ [] → (end : List ℕ) → Reads (sign_behind name) text (Err Cut) end
name_ended name text e end =
    ended_reads {P = sign_behind name}
    (λ v rest r.
    let total = ap length (r.3 ∙ ap (λ xs. xs ++ r.2) (r.4.4)) in
    let outer = length-append (r.4.0 ++ codes "=" ++ r.4.1) r.2 in
    let middle = length-append (r.4.0 ++ codes "=") r.4.1 in
    let inner = length-append r.4.0 (codes "=") in
    omega arith)
    (joins_lives (attribute_sign name)) text e end
