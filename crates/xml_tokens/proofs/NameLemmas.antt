-- The prefix and the local part of a qualified name.
use Rattle.std.proofs.Common.{◌≡◌, ℕ, ◌+◌, true, false, not, ◌==◌, List, [], ◌∷◌, ◌++◌, take, drop}
use Rattle.std.proofs.Common.{Option, Some, None, IsTrue, refl, sym, ap, subst, ◌∙◌, ⊎_elim, eqb-true}
use Rattle.std.specs.Prelude.{position}
use Rattle.std.specs.List.{list_all}
use Rattle.std.proofs.lemmas.Bool.{and_parts, and_from, both_ways, false_from_ne_true}
use Rattle.std.proofs.lemmas.List.{append_cancel_left}
use Rattle.std.proofs.lemmas.List.Folds.{list_all-append}
use Rattle.xml_tokens.specs.Characters.{QName, IsQName, name_text, written_name, continues_name}
use Rattle.xml_tokens.proofs.RunLemmas.{run_unique}
use Rattle.xml_tokens.proofs.CursorLemmas.{name_run, written}
use Rattle.xml_tokens.proofs.LineLemmas.{byte_cut, byte_none}

no_colon : (xs : List ℕ) → IsTrue (list_all continues_name xs) → IsTrue (list_all (λ b. not (b == 58)) xs)
no_colon [] all = refl
no_colon (b ∷ xs) all =
    let p = and_parts (continues_name b) (list_all continues_name xs) all in
    let N : ℕ → Type 0 = λ k. continues_name k ≡ true in
    let other : (b == 58) ≡ false = false_from_ne_true (b == 58)
    (λ e. both_ways false refl (subst N (eqb-true b 58 e) p.0)) in
    and_from (not (b == 58)) (list_all (λ k. not (k == 58)) xs) (ap not other) (no_colon xs p.1)

colon_in : (front rest : List ℕ) → IsTrue (list_all (λ b. not (b == 58)) (front ++ 58 ∷ rest)) → ⊥
colon_in front rest all =
    let p = and_parts (list_all (λ b. not (b == 58)) front) (list_all (λ b. not (b == 58)) (58 ∷ rest))
    (sym (list_all-append (λ b. not (b == 58)) front (58 ∷ rest)) ∙ all) in
    both_ways false refl (and_parts false (list_all (λ b. not (b == 58)) rest) p.1).0

-- a name with a colon
pub split_at_colon : (name : List ℕ) (at : ℕ) → Some at ≡ position (λ b. b == 58) name → (q : QName) → IsQName q →
    name_text q ≡ name → (take at name ≡ q.prefix) × (drop (at + 1) name ≡ q.local)
split_at_colon name at is q lawful e =
    let c = byte_cut 58 name at is in
    let W : List ℕ → Type 0 = λ p. written_name p q.local ≡ name in
    ⊎_elim
    (λ none.
    let local : name ≡ q.local = sym (subst W none e) in
    let A : List ℕ → Type 0 = λ xs. IsTrue (list_all (λ b. not (b == 58)) xs) in
    absurd (colon_in (take at name) (drop (at + 1) name)
    (subst A (sym local ∙ c.2) (no_colon q.local (name_run q.local lawful.1)))))
    (λ some.
    let whole : name ≡ q.prefix ++ 58 ∷ q.local = sym e ∙ written q.prefix q.local some in
    let same : take at name ++ 58 ∷ drop (at + 1) name ≡ q.prefix ++ 58 ∷ q.local = sym c.2 ∙ whole in
    let front : take at name ≡ q.prefix =
    run_unique (λ b. not (b == 58)) (take at name) (58 ∷ drop (at + 1) name) q.prefix (58 ∷ q.local) c.1 refl
    (no_colon q.prefix (name_run q.prefix some)) refl same in
    let tails : 58 ∷ drop (at + 1) name ≡ 58 ∷ q.local =
    append_cancel_left q.prefix (58 ∷ drop (at + 1) name) (58 ∷ q.local)
    (ap (λ xs. xs ++ 58 ∷ drop (at + 1) name) (sym front) ∙ same) in
    (front, cc))
    lawful.0

-- a name without one
pub split_nowhere : (name : List ℕ) → None ≡ position (λ b. b == 58) name → (q : QName) → IsQName q →
    name_text q ≡ name → ([] ≡ q.prefix) × (name ≡ q.local)
split_nowhere name is q lawful e =
    let W : List ℕ → Type 0 = λ p. written_name p q.local ≡ name in
    ⊎_elim
    (λ none. (sym none, sym (subst W none e)))
    (λ some.
    let A : List ℕ → Type 0 = λ xs. IsTrue (list_all (λ b. not (b == 58)) xs) in
    absurd (colon_in q.prefix q.local (subst A (sym e ∙ written q.prefix q.local some) (byte_none 58 name is))))
    lawful.0

-- a text is that of one qualified name at most
pub name_text_one : (q r : QName) → IsQName q → IsQName r → name_text q ≡ name_text r →
    (q.prefix ≡ r.prefix) × (q.local ≡ r.local)
name_text_one q r is_q is_r e =
    let name = name_text q in
    let G : Type 0 = (q.prefix ≡ r.prefix) × (q.local ≡ r.local) in
    let at : (o : Option ℕ) → o ≡ position (λ b. b == 58) name → G = λ o.
    elim o as (λ v. v ≡ position (λ b. b == 58) name → G) [
      | None ↦ λ none.
          let a = split_nowhere name none q is_q refl in
          let b = split_nowhere name none r is_r (sym e) in
          (sym a.0 ∙ b.0, sym a.1 ∙ b.1)
      | Some n ↦ λ some.
          let a = split_at_colon name n some q is_q refl in
          let b = split_at_colon name n some r is_r (sym e) in
          (sym a.0 ∙ b.0, sym a.1 ∙ b.1)
    ] in
    at (position (λ b. b == 58) name) refl
