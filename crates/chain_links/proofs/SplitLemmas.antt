-- A text is joined from labels, or from segments, in one way alone.
use Rattle.std.proofs.Common.{◌≡◌, ℕ, List, [], ◌∷◌, ◌++◌, true, false, cond, ◌==◌, IsTrue, All, refl, sym, ap, ◌∙◌}
use Rattle.std.proofs.Common.{eqb-true, ⊎_elim, append_assoc}
use Rattle.std.proofs.lemmas.Bool.{cases_Bool, cond-false, true≢false}
use Rattle.std.proofs.lemmas.List.Elements.{All-head, All-tail}
use Rattle.chain_links.specs.Base.{is_label_char, is_segment_char, IsWord, AreLabels, AreSegments, host_text}
use Rattle.chain_links.proofs.HostLemmas.{host_text-cons}
use Rattle.chain_links.proofs.PathLemmas.{segments_text}

-- the first piece with one more character at its front
abbrev widened : ℕ → List (List ℕ) → List (List ℕ)
widened c [] = (c ∷ []) ∷ []
widened c (p ∷ ps) = (c ∷ p) ∷ ps

-- the pieces between dots
abbrev between_dots : List ℕ → List (List ℕ)
between_dots [] = [] ∷ []
between_dots (c ∷ cs) = cond (c == 46) ([] ∷ between_dots cs) (widened c (between_dots cs))

-- the pieces before slashes
abbrev before_slashes : List ℕ → List (List ℕ)
before_slashes [] = []
before_slashes (c ∷ cs) = cond (c == 47) ([] ∷ before_slashes cs) (widened c (before_slashes cs))

not_dot : (c : ℕ) → is_label_char c ≡ true → (c == 46) ≡ false
not_dot c e =
    ⊎_elim
    (λ dot. absurd (let p : c ≡ 46 = eqb-true c 46 dot in let f : false ≡ true = sym (ap is_label_char p) ∙ e in
    true≢false (sym f)))
    (λ other. other)
    (cases_Bool (c == 46))

not_slash : (c : ℕ) → is_segment_char c ≡ true → (c == 47) ≡ false
not_slash c e =
    ⊎_elim
    (λ slash. absurd (let p : c ≡ 47 = eqb-true c 47 slash in let f : false ≡ true = sym (ap is_segment_char p) ∙ e in
    true≢false (sym f)))
    (λ other. other)
    (cases_Bool (c == 47))

over_label : (first : List ℕ) (more : List (List ℕ)) → All (λ c. IsTrue (is_label_char c)) first →
    between_dots (host_text ([] ∷ more)) ≡ [] ∷ more → between_dots (host_text (first ∷ more)) ≡ first ∷ more
over_label [] more chars behind = behind
over_label (c ∷ cs) more chars behind =
    ap between_dots (host_text-cons c cs more)
    ∙ cond-false (c == 46) _ _ (not_dot c (All-head (λ x. IsTrue (is_label_char x)) c cs chars))
    ∙ ap (widened c) (over_label cs more (All-tail (λ x. IsTrue (is_label_char x)) c cs chars) behind)

labels_again : (first : List ℕ) (more : List (List ℕ)) → All (IsWord is_label_char) (first ∷ more) →
    between_dots (host_text (first ∷ more)) ≡ first ∷ more
labels_again first [] words = over_label first [] (All-head (IsWord is_label_char) first [] words).1 refl
labels_again first (m ∷ ms) words =
    over_label first (m ∷ ms) (All-head (IsWord is_label_char) first (m ∷ ms) words).1
    (ap (λ x. [] ∷ x) (labels_again m ms (All-tail (IsWord is_label_char) first (m ∷ ms) words)))

host_again : (labels : List (List ℕ)) → AreLabels labels → between_dots (host_text labels) ≡ labels
host_again [] are = absurd (are.0 refl)
host_again (l ∷ ls) are = labels_again l ls are.1

pub same_labels : (xs ys : List (List ℕ)) → AreLabels xs → AreLabels ys → host_text xs ≡ host_text ys → xs ≡ ys
same_labels xs ys are_xs are_ys e = sym (host_again xs are_xs) ∙ ap between_dots e ∙ host_again ys are_ys

over_segment : (first rest : List ℕ) → All (λ c. IsTrue (is_segment_char c)) first →
    before_slashes (first ++ 47 ∷ rest) ≡ first ∷ before_slashes rest
over_segment [] rest chars = refl
over_segment (c ∷ cs) rest chars =
    cond-false (c == 47) _ _ (not_slash c (All-head (λ x. IsTrue (is_segment_char x)) c cs chars))
    ∙ ap (widened c) (over_segment cs rest (All-tail (λ x. IsTrue (is_segment_char x)) c cs chars))

segments_again : (segments : List (List ℕ)) → AreSegments segments → before_slashes (segments_text segments) ≡ segments
segments_again [] are = refl
segments_again (s ∷ ss) are =
    ap before_slashes (append_assoc s (47 ∷ []) (segments_text ss))
    ∙ over_segment s (segments_text ss) (All-head (IsWord is_segment_char) s ss are).1
    ∙ ap (λ x. s ∷ x) (segments_again ss (All-tail (IsWord is_segment_char) s ss are))

pub same_segments : (xs ys : List (List ℕ)) → AreSegments xs → AreSegments ys → segments_text xs ≡ segments_text ys →
    xs ≡ ys
same_segments xs ys are_xs are_ys e = sym (segments_again xs are_xs) ∙ ap before_slashes e ∙ segments_again ys are_ys
