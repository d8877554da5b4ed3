-- Where a list is cut at the first of a byte, and prefixes of a list.
use Rattle.std.proofs.Common.{◌≡◌, ◌≢◌, ℕ, ◌-◌, ◌≤◌, zero, suc, List, [], ◌∷◌, ◌++◌, length, take, drop, refl, sym, ap, ◌∙◌, arith}
use Rattle.std.specs.Prelude.{All}
use Rattle.std.proofs.lemmas.List.{take_at, drop_at}
use Rattle.std.proofs.lemmas.List.Elements.{All-head, All-tail}

-- two cuts at the first of a byte are one
pub cut_unique : (c : ℕ) (xs ys vs ws : List ℕ) → All (λ b. b ≢ c) xs → All (λ b. b ≢ c) vs →
    xs ++ (c ∷ ys) ≡ vs ++ (c ∷ ws) → (xs ≡ vs) × (ys ≡ ws)
cut_unique c [] ys [] ws p q e = (refl, cc)
cut_unique c [] ys (v ∷ vs) ws p q e = absurd (All-head (λ b. b ≢ c) v vs q (cc))
cut_unique c (x ∷ xs) ys [] ws p q e = absurd (All-head (λ b. b ≢ c) x xs p (cc))
cut_unique c (x ∷ xs) ys (v ∷ vs) ws p q e =
    let head : x ≡ v = cc in
    let tail : xs ++ (c ∷ ys) ≡ vs ++ (c ∷ ws) = cc in
    let r = cut_unique c xs ys vs ws (All-tail (λ b. b ≢ c) x xs p) (All-tail (λ b. b ≢ c) v vs q) tail in
    (ap (λ (b : ℕ). b ∷ xs) head ∙ ap (λ (bs : List ℕ). v ∷ bs) r.0, r.1)

-- a prefix without the byte is no longer than what is before the first of it
pub no_longer : (c : ℕ) (part more line rest : List ℕ) → All (λ b. b ≢ c) part →
    part ++ more ≡ line ++ (c ∷ rest) → length part ≤ length line
no_longer c [] more line rest p e = omega arith
no_longer c (x ∷ part) more [] rest p e = absurd (All-head (λ b. b ≢ c) x part p (cc))
no_longer c (x ∷ part) more (y ∷ line) rest p e =
    let tail : part ++ more ≡ line ++ (c ∷ rest) = cc in
    omega (arith, no_longer c part more line rest (All-tail (λ b. b ≢ c) x part p) tail)

-- the shorter of two prefixes of a list is a prefix of the other
pub front_of : (part more line rest : List ℕ) → part ++ more ≡ line ++ rest → length part ≤ length line →
    part ++ drop (length part) line ≡ line
front_of [] more line rest e h = refl
front_of (x ∷ part) more [] rest e h = absurd (omega arith)
front_of (x ∷ part) more (y ∷ line) rest e h =
    let head : x ≡ y = cc in
    let tail : part ++ more ≡ line ++ rest = cc in
    ap (λ (b : ℕ). b ∷ (part ++ drop (length part) line)) head
    ∙ ap (λ (bs : List ℕ). y ∷ bs) (front_of part more line rest tail (omega arith))

-- prefixes of the same length are one
pub same_fronts : (a b c d : List ℕ) → length a ≡ length c → a ++ b ≡ c ++ d → (a ≡ c) × (b ≡ d)
same_fronts a b c d h e = (
  sym (take_at a b (length c) h) ∙ ap (take (length c)) e ∙ take_at c d (length c) refl,
  sym (drop_at a b (length c) h) ∙ ap (drop (length c)) e ∙ drop_at c d (length c) refl,
)

-- the first bytes of a list and more
pub take_past : (n : ℕ) (ahead left : List ℕ) → length ahead ≤ n →
    take n (ahead ++ left) ≡ ahead ++ take (n - length ahead) left
take_past n [] left h = ap (λ (k : ℕ). take k left) (omega arith)
take_past zero (x ∷ ahead) left h = absurd (omega arith)
take_past (suc n) (x ∷ ahead) left h =
    ap (λ (bs : List ℕ). x ∷ bs) (take_past n ahead left (omega arith)
    ∙ ap (λ (k : ℕ). ahead ++ take k left) (omega arith))
