-- Two lists of pieces are compared from the first piece on. While they agree, the next piece of neither is a proper
-- prefix of the other's.
use Rattle.std.proofs.Common.{◌≡◌, ◌≢◌, ℕ, ◌<◌, List, [], ◌∷◌, ◌++◌, refl, sym, ap, ◌∙◌, append-nil, arith, length, get_or}
use Rattle.atom_writer.specs.Reading.{IsReadInOneWay}

-- the lists never part at pieces of which one is a proper front of the other
abbrev pub IsFree : List (List ℕ) → List (List ℕ) → Type 0
IsFree one other = (read : List (List ℕ)) (p q rest : List ℕ) (later left : List (List ℕ)) → one ≡ read ++ p ∷ later
    → other ≡ read ++ q ∷ left → q ≡ p ++ rest → q ≡ p

-- the second is no proper front of the first, and they are equal only where a fact holds
pub record Same (one other : List (List ℕ)) (R : Type 0) : Type 0 where
  pub free : IsFree one other
  pub whole : (more : List (List ℕ)) → one ≡ other ++ more → more ≡ []
  pub value : one ≡ other → R

nil-free : (other : List (List ℕ)) → IsFree [] other
nil-free other [] p q rest later left e f g = cc
nil-free other (r ∷ read) p q rest later left e f g = cc

pub Same-nil : {R : Type 0} → R → Same [] [] R
Same-nil value = record { free = nil-free []; whole = λ more e. sym e; value = λ e. value }

cons-free : (p q : List ℕ) (one other : List (List ℕ)) → ((rest : List ℕ) → q ≡ p ++ rest → q ≡ p)
    → (p ≡ q → IsFree one other) → IsFree (p ∷ one) (q ∷ other)
cons-free p q one other head tail [] s t rest later left e f g =
    let es : p ≡ s = cc in
    let ft : q ≡ t = cc in
    let h : q ≡ p ++ rest = ft ∙ g ∙ ap (λ (x : List ℕ). x ++ rest) (sym es) in
    sym ft ∙ head rest h ∙ es
cons-free p q one other head tail (r ∷ read) s t rest later left e f g =
    let same : p ≡ q = cc in
    let e2 : one ≡ read ++ s ∷ later = cc in
    let f2 : other ≡ read ++ t ∷ left = cc in
    tail same read s t rest later left e2 f2 g

-- a piece whose value is read in one way, and then the rest where the values are equal
pub Same-cons : {A : Type 0} {R : Type 0} (Is : A → Type 0) (text : A → List ℕ) → IsReadInOneWay Is text → (v w : A)
    → Is v → Is w → (one other : List (List ℕ)) → (v ≡ w → Same one other R) → Same (text v ∷ one) (text w ∷ other) R
Same-cons Is text one_way v w is_v is_w one other tail =
    let same : text v ≡ text w → v ≡ w =
    λ e.
    (one_way (text v) v w [] [] (record { lawful = is_v; split = sym (append-nil (text v)) })
    (record { lawful = is_w; split = e ∙ sym (append-nil (text w)) })).0 in
    record {
      free = cons-free (text v) (text w) one other
          (λ rest e. ap text
          (sym
          (one_way (text w) v w rest [] (record { lawful = is_v; split = e })
          (record { lawful = is_w; split = sym (append-nil (text w)) })).0))
          (λ e. (tail (same e)).free);
      whole = λ more e. let heads : text v ≡ text w = cc in (tail (same heads)).whole more cc;
      value = λ e. let heads : text v ≡ text w = cc in (tail (same heads)).value cc;
    }

-- one piece in both lists
pub Same-fixed : {R : Type 0} (p : List ℕ) (one other : List (List ℕ)) → Same one other R → Same (p ∷ one) (p ∷ other) R
Same-fixed p one other tail = record {
  free = cons-free p p one other (λ rest e. refl) (λ _. tail.free);
  whole = λ more e. tail.whole more cc;
  value = λ e. tail.value cc;
}

second_differs : (p q rest : List ℕ) → 1 < length p → get_or p 1 0 ≢ get_or q 1 0 → q ≢ p ++ rest
second_differs [] q rest long differ e = absurd (omega arith)
second_differs (a ∷ []) q rest long differ e = absurd (omega arith)
second_differs (a ∷ b ∷ p) q rest long differ e = differ (sym (ap (λ (x : List ℕ). get_or x 1 0) e))

-- pieces that differ in their second byte
pub Same-apart : {R : Type 0} (p q : List ℕ) (one other : List (List ℕ)) → 1 < length p → get_or p 1 0 ≢ get_or q 1 0
    → Same (p ∷ one) (q ∷ other) R
Same-apart p q one other long differ = record {
  free =
      cons-free p q one other (λ rest e. absurd (second_differs p q rest long differ e))
      (λ e. absurd (differ (ap (λ (x : List ℕ). get_or x 1 0) e)));
  whole = λ more e. let heads : p ≡ q = cc in absurd (differ (ap (λ (x : List ℕ). get_or x 1 0) heads));
  value = λ e. let heads : p ≡ q = cc in absurd (differ (ap (λ (x : List ℕ). get_or x 1 0) heads));
}

-- the same pieces in front
pub Same-append : {R : Type 0} (front one other : List (List ℕ)) → Same one other R
    → Same (front ++ one) (front ++ other) R
Same-append [] one other tail = tail
Same-append (p ∷ front) one other tail = Same-fixed p (front ++ one) (front ++ other) (Same-append front one other tail)
