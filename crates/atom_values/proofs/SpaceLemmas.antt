-- White space at the ends of a text.
use Rattle.std.proofs.Common.{◌≡◌, ℕ, List, [], ◌∷◌, ◌++◌, reverse, drop, true, ap, ◌∙◌, one-add}
use Rattle.std.proofs.lemmas.Bool.{cond-true}
use Rattle.std.proofs.lemmas.List.{reverse-append}
use Rattle.atom_values.specs.Space.{is_space, without_leading}

-- white space at the beginning
leading-space : (x : ℕ) (xs : List ℕ) → is_space x ≡ true → without_leading (x ∷ xs) ≡ without_leading xs
leading-space x xs is = ap (λ n. drop n (x ∷ xs)) (cond-true (is_space x) _ 0 is ∙ one-add _)

-- white space at the end
pub trailing-space : (front : List ℕ) (x : ℕ) → is_space x ≡ true
    → reverse (without_leading (reverse (front ++ x ∷ []))) ≡ reverse (without_leading (reverse front))
trailing-space front x is =
    ap (λ t. reverse (without_leading t)) (reverse-append front (x ∷ []))
    ∙ ap reverse (leading-space x (reverse front) is)
