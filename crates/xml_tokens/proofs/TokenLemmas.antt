-- Comments, CDATA sections and end tags, part by part.
use Rattle.std.proofs.Common.{◌≡◌, ℕ, List, [], ◌++◌, IsTrue, refl, sym, ap, subst, ◌∙◌, append_assoc, codes}
use Rattle.std.proofs.Common.{arith}
use Rattle.atom_values.specs.Space.{is_space}
use Rattle.xml_tokens.specs.Reading.{seq, exactly, up_to_end, all_spaces, first_is_no, a_comment, written_section}
use Rattle.xml_tokens.specs.Reading.{written_end_tag}
use Rattle.xml_tokens.proofs.PartLemmas.{Joins}
use Rattle.xml_tokens.proofs.RunLemmas.{run_part}
use Rattle.xml_tokens.proofs.FindLemmas.{up_to_part}
use Rattle.xml_tokens.proofs.DeclarationLemmas.{exactly_joins}

abbrev pub section_parts : List ℕ → List ℕ → List ℕ → Type 0
section_parts = seq (exactly (codes "<![CDATA[")) (λ _. up_to_end (codes "]]>"))

pub section_joins : Joins (exactly (codes "<![CDATA[")) (λ _. up_to_end (codes "]]>"))
section_joins = exactly_joins (codes "<![CDATA[") (up_to_end (codes "]]>")) [] (codes "]]>") (refl, refl)

pub to_section : (v s rest : List ℕ) → section_parts v s rest → written_section v s rest
to_section v s rest r = (
  r.3 ∙ ap (λ xs. xs ++ r.2) r.4 ∙ ap (λ xs. codes "<![CDATA[" ++ xs) r.5.0
      ∙ sym (append_assoc (codes "<![CDATA[") v (codes "]]>")),
  r.5.1,
)

pub from_section : (v s rest : List ℕ) → written_section v s rest → section_parts v s rest
from_section v s rest is = (
  tt,
  codes "<![CDATA[",
  v ++ codes "]]>",
  is.0 ∙ append_assoc (codes "<![CDATA[") v (codes "]]>"),
  refl,
  (refl, is.1),
)

-- the characters of a comment, and its end
abbrev pub comment_end : Unit {0} → List ℕ → List ℕ → Type 0
comment_end = seq (up_to_end (codes "--")) (λ _. exactly (codes ">"))

abbrev pub comment_parts : Unit {0} → List ℕ → List ℕ → Type 0
comment_parts = seq (exactly (codes "<!--")) (λ _. comment_end)

pub comment_end_joins : Joins (up_to_end (codes "--")) (λ (_ : List ℕ). exactly (codes ">"))
comment_end_joins = record {
  part = up_to_part (codes "--") (omega arith);
  lives = ([], codes "--", (refl, refl));
  follows = λ b s v t rest is r. is;
  goes = λ b s is. (tt, codes ">", refl);
}

pub comment_joins : Joins (exactly (codes "<!--")) (λ (_ : Unit {0}). comment_end)
comment_joins =
    exactly_joins (codes "<!--") comment_end tt (codes "-->") ([], codes "--", codes ">", refl, (refl, refl), refl)

pub to_comment : (v : Unit {0}) (s rest : List ℕ) → comment_parts v s rest → a_comment v s rest
to_comment v s rest r =
    let inner = r.5 in
    let inside = inner.0 in
    let behind : r.2 ≡ inside ++ codes "-->" =
    inner.3 ∙ (λ i. inner.4.0 i ++ inner.5 i) ∙ append_assoc inside (codes "--") (codes ">") in
    record {
      inside = inside;
      first_end = inner.4.1;
      spelled = r.3 ∙ (λ i. r.4 i ++ behind i) ∙ sym (append_assoc (codes "<!--") inside (codes "-->"));
    }

pub from_comment : (v : Unit {0}) (s rest : List ℕ) → a_comment v s rest → comment_parts v s rest
from_comment v s rest is = (
  tt,
  codes "<!--",
  is.inside ++ codes "-->",
  is.spelled ∙ append_assoc (codes "<!--") is.inside (codes "-->"),
  refl,
  (
    is.inside,
    is.inside ++ codes "--",
    codes ">",
    sym (append_assoc is.inside (codes "--") (codes ">")),
    (refl, is.first_end),
    refl,
  ),
)

-- the end of an end tag
abbrev pub closing_end : Unit {0} → List ℕ → List ℕ → Type 0
closing_end = seq all_spaces (λ _. exactly (codes ">"))

abbrev pub closing_name : List ℕ → Unit {0} → List ℕ → List ℕ → Type 0
closing_name name = seq (exactly name) (λ _. closing_end)

abbrev pub closing_parts : List ℕ → Unit {0} → List ℕ → List ℕ → Type 0
closing_parts name = seq (exactly (codes "</")) (λ _. closing_name name)

pub closing_end_joins : Joins all_spaces (λ (_ : Unit {0}). exactly (codes ">"))
closing_end_joins = record {
  part = run_part is_space;
  lives = (tt, [], (refl, refl));
  follows = λ b s v t rest is r.
      let N : List ℕ → Type 0 = λ xs. IsTrue (first_is_no is_space (xs ++ rest)) in
      (is.0, subst N (sym r) refl);
  goes = λ b s is. (tt, codes ">", refl);
}

one_end : closing_end tt (codes ">") []
one_end = (tt, [], codes ">", refl, (refl, refl), refl)

pub closing_name_joins : (name : List ℕ) → Joins (exactly name) (λ (_ : Unit {0}). closing_end)
closing_name_joins name = exactly_joins name closing_end tt (codes ">") one_end

pub closing_joins : (name : List ℕ) → Joins (exactly (codes "</")) (λ (_ : Unit {0}). closing_name name)
closing_joins name =
    exactly_joins (codes "</") (closing_name name) tt (name ++ codes ">") (tt, name, codes ">", refl, refl, one_end)

pub to_closing : (name : List ℕ) (v : Unit {0}) (s rest : List ℕ) → closing_parts name v s rest →
    written_end_tag name v s rest
to_closing name v s rest r =
    let named = r.5 in
    let end = named.5 in
    let last : named.2 ≡ end.1 ++ codes ">" = end.3 ∙ ap (λ xs. end.1 ++ xs) end.5 in (
      end.1,
      end.4.0,
      r.3 ∙ (λ i. r.4 i ++ (named.3 ∙ (λ k. named.4 k ++ last k)) i)
          ∙ sym (append_assoc (codes "</") name (end.1 ++ codes ">"))
          ∙ sym (append_assoc (codes "</" ++ name) end.1 (codes ">")),
    )

pub from_closing : (name : List ℕ) (v : Unit {0}) (s rest : List ℕ) → written_end_tag name v s rest →
    closing_parts name v s rest
from_closing name v s rest is = (
  tt,
  codes "</",
  name ++ (is.0 ++ codes ">"),
  is.2 ∙ append_assoc (codes "</" ++ name) is.0 (codes ">")
      ∙ append_assoc (codes "</") name (is.0 ++ codes ">"),
  refl,
  (tt, name, is.0 ++ codes ">", refl, refl, (tt, is.0, codes ">", refl, (is.1, refl), refl)),
)
