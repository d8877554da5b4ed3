-- Laws of all values that are written as pieces, where the pieces of two values can be compared: a text has one
-- reading, no piece is a proper prefix of another, and where a text is refused.
use Rattle.std.proofs.Common.{◌≡◌, ◌⊎◌, inl, inr, ⊎_elim, ℕ, ◌+◌, ◌-◌, ◌≤◌, List, [], ◌∷◌, ◌++◌, length, length-append, refl, sym, ap, ◌∙◌, subst, arith, append-nil, append_assoc}
use Rattle.std.proofs.lemmas.List.{append_cancel_left}
use Rattle.atom_writer.specs.Pieced.{Pieced, BeginsAValue, BeginsWithPieces, HasOneReading, IsNoText, IsPlaceOfRefusal, IsPrefixFree, IsRefused}
use Rattle.atom_writer.specs.Pieces.{joined}
use Rattle.atom_writer.proofs.PieceLemmas.{joined-append, joined-none, joined-cons}
use Rattle.atom_writer.proofs.SameLemmas.{IsFree, Same}

-- the pieces of any two values can be compared from the first on
abbrev pub AreCompared : {A : Type 0} → Pieced A → Type 0
AreCompared {A} v = (a b : A) → v.Is a → v.Is b → Same (v.pieces a) (v.pieces b) (a ≡ b)

pub prefix_free : {A : Type 0} (v : Pieced A) → AreCompared v → IsPrefixFree v
prefix_free v compared read one other rest a b e =
    (compared a.value b.value a.lawful b.lawful).free read one other rest a.later b.later
    (a.begins ∙ append_assoc read (one ∷ []) a.later) (b.begins ∙ append_assoc read (other ∷ []) b.later) e

-- two texts that begin one text: one begins the other
one_begins : (a b x y : List ℕ) → a ++ x ≡ b ++ y → ((r : List ℕ) × (b ≡ a ++ r)) ⊎ ((r : List ℕ) × (a ≡ b ++ r))
one_begins [] b x y e = inl (b, refl)
one_begins (c ∷ a) [] x y e = inr (c ∷ a, refl)
one_begins (c ∷ a) (d ∷ b) x y e =
    let heads : c ≡ d = cc in
    let tails : a ++ x ≡ b ++ y = cc in
    ⊎_elim
    (λ h. let r : ((r : List ℕ) × (d ∷ b ≡ (c ∷ a) ++ r)) =
    (h.0, ap (λ z. d ∷ z) h.1 ∙ ap (λ z. z ∷ (a ++ h.0)) (sym heads)) in inl r)
    (λ h. let r : ((r : List ℕ) × (c ∷ a ≡ (d ∷ b) ++ r)) =
    (h.0, ap (λ z. c ∷ z) h.1 ∙ ap (λ z. z ∷ (b ++ h.0)) heads) in inr r)
    (one_begins a b x y tails)

-- one list of pieces goes on where the other ends
pub record GoesOn (short long : List (List ℕ)) (short_rest long_rest : List ℕ) : Type 0 where
  pub more : List (List ℕ)
  pub pieces : long ≡ short ++ more
  pub rest : short_rest ≡ joined more ++ long_rest

free-tail : (p : List ℕ) (one other : List (List ℕ)) → IsFree (p ∷ one) (p ∷ other) → IsFree one other
free-tail p one other free read s t rest later left e f g =
    free (p ∷ read) s t rest later left (ap (λ z. p ∷ z) e) (ap (λ z. p ∷ z) f) g

goes_on-cons : (p : List ℕ) (short long : List (List ℕ)) (x y : List ℕ) → GoesOn short long x y
    → GoesOn (p ∷ short) (p ∷ long) x y
goes_on-cons p short long x y g = record { more = g.more; pieces = ap (λ z. p ∷ z) g.pieces; rest = g.rest }

joined-front : (p : List ℕ) (ps : List (List ℕ)) (x : List ℕ) → joined (p ∷ ps) ++ x ≡ p ++ (joined ps ++ x)
joined-front p ps x = ap (λ (z : List ℕ). z ++ x) (joined-cons p ps) ∙ append_assoc p (joined ps) x

-- two lists of whole pieces that one text begins with
compare : (r later o left : List (List ℕ)) (x y : List ℕ) → IsFree (r ++ later) (o ++ left)
    → IsFree (o ++ left) (r ++ later) → joined r ++ x ≡ joined o ++ y → GoesOn o r y x ⊎ GoesOn r o x y
compare [] later o left x y free back e =
    inr (record { more = o; pieces = refl; rest = sym (ap (λ (z : List ℕ). z ++ x) joined-none) ∙ e })
compare (p ∷ r) later [] left x y free back e =
    inl (record { more = p ∷ r; pieces = refl; rest = sym (ap (λ (z : List ℕ). z ++ y) joined-none) ∙ sym e })
compare (p ∷ r) later (q ∷ o) left x y free back e =
    let f : p ++ (joined r ++ x) ≡ q ++ (joined o ++ y) = sym (joined-front p r x) ∙ e ∙ joined-front q o y in
    let same : p ≡ q =
    ⊎_elim
    (λ h. sym (free [] p q h.0 (r ++ later) (o ++ left) refl refl h.1))
    (λ h. back [] q p h.0 (o ++ left) (r ++ later) refl refl h.1)
    (one_begins p q (joined r ++ x) (joined o ++ y) f) in
    let free_tail : IsFree (r ++ later) (o ++ left) =
    free-tail p (r ++ later) (o ++ left)
    (subst (λ z. IsFree (p ∷ (r ++ later)) (z ∷ (o ++ left))) (sym same) free) in
    let back_tail : IsFree (o ++ left) (r ++ later) =
    free-tail p (o ++ left) (r ++ later)
    (subst (λ z. IsFree (z ∷ (o ++ left)) (p ∷ (r ++ later))) (sym same) back) in
    ⊎_elim
    (λ g. inl (subst (λ z. GoesOn (z ∷ o) (p ∷ r) y x) same (goes_on-cons p o r y x g)))
    (λ g. inr (subst (λ z. GoesOn (p ∷ r) (z ∷ o) x y) same (goes_on-cons p r o x y g)))
    (compare r later o left x y free_tail back_tail
    (append_cancel_left p (joined r ++ x) (joined o ++ y) (f ∙ ap (λ z. z ++ (joined o ++ y)) (sym same))))

compare_values : {A : Type 0} (v : Pieced A) → AreCompared v → (a b : A) → v.Is a → v.Is b
    → (r later o left : List (List ℕ)) → v.pieces a ≡ r ++ later → v.pieces b ≡ o ++ left → (x y : List ℕ) →
    joined r ++ x ≡ joined o ++ y → GoesOn o r y x ⊎ GoesOn r o x y
compare_values v compared a b is_a is_b r later o left pieces_a pieces_b x y e =
    let free : IsFree (r ++ later) (o ++ left) =
    subst (λ z. IsFree z (o ++ left)) pieces_a
    (subst (λ z. IsFree (v.pieces a) z) pieces_b (compared a b is_a is_b).free) in
    let back : IsFree (o ++ left) (r ++ later) =
    subst (λ z. IsFree z (r ++ later)) pieces_b
    (subst (λ z. IsFree (v.pieces b) z) pieces_a (compared b a is_b is_a).free) in
    compare r later o left x y free back e

-- a text whose pieces go on after those of a document is that document's
same_pieces : {A : Type 0} (v : Pieced A) → AreCompared v → (a b : A) → v.Is a → v.Is b
    → (r later more : List (List ℕ)) → v.pieces a ≡ r ++ later → r ≡ v.pieces b ++ more → (more ≡ []) × (later ≡ [])
same_pieces v compared a b is_a is_b r later [] pieces_a long =
    (refl, (compared a b is_a is_b).whole later (pieces_a ∙ ap (λ z. z ++ later) (long ∙ append-nil (v.pieces b))))
same_pieces v compared a b is_a is_b r later (p ∷ more) pieces_a long =
    let none : p ∷ (more ++ later) ≡ [] =
    (compared a b is_a is_b).whole (p ∷ (more ++ later)) (pieces_a ∙ ap (λ z. z ++ later) long
    ∙ append_assoc (v.pieces b) (p ∷ more) later) in
    absurd cc

joined_all : (ps : List (List ℕ)) (x : List ℕ) → ps ≡ [] → joined ps ++ x ≡ x
joined_all ps x e = ap (λ z. joined z ++ x) e ∙ ap (λ (z : List ℕ). z ++ x) joined-none

pub one_reading : {A : Type 0} (v : Pieced A) → AreCompared v → HasOneReading v
one_reading v compared a b is_a is_b e =
    let same : joined (v.pieces a) ++ [] ≡ joined (v.pieces b) ++ [] = ap (λ z. z ++ []) e in
    ⊎_elim
    (λ g. let none = same_pieces v compared a b is_a is_b (v.pieces a) [] g.more
    (sym (append-nil (v.pieces a))) g.pieces in
    (compared a b is_a is_b).value (g.pieces ∙ ap (λ z. v.pieces b ++ z) none.0 ∙ append-nil (v.pieces b)))
    (λ g. let none = same_pieces v compared b a is_b is_a (v.pieces b) [] g.more
    (sym (append-nil (v.pieces b))) g.pieces in
    (compared a b is_a is_b).value (sym (g.pieces ∙ ap (λ z. v.pieces a ++ z) none.0 ∙ append-nil (v.pieces a))))
    (compare_values v compared a b is_a is_b (v.pieces a) [] (v.pieces b) [] (sym (append-nil (v.pieces a)))
    (sym (append-nil (v.pieces b))) [] [] same)

longest : {A : Type 0} (v : Pieced A) → AreCompared v → (bytes left : List ℕ) (r : IsRefused v [] bytes left)
    (other : List (List ℕ)) → BeginsAValue v other
    → BeginsWithPieces bytes other → length (joined other) ≤ length (joined r.more)
longest v compared bytes left r other begins there =
    ⊎_elim
    (λ g. omega (
      arith,
      ap length (ap joined g.pieces ∙ joined-append other g.more),
      length-append (joined other) (joined g.more),
    ))
    (λ g. elim g.more as (λ z. z ≡ g.more → length (joined other) ≤ length (joined r.more)) [
      | [] ↦ λ e. omega (arith, ap length (ap joined (g.pieces ∙ ap (λ z. r.more ++ z) (sym e) ∙ append-nil r.more)))
      | (p ∷ more) ↦ λ e.
          let at : other ≡ r.more ++ p ∷ more = g.pieces ∙ ap (λ z. r.more ++ z) (sym e) in
          let next : BeginsAValue v (r.more ++ p ∷ []) =
          record {
            value = begins.value;
            lawful = begins.lawful;
            later = more ++ begins.later;
            begins =
                begins.begins ∙ ap (λ z. z ++ begins.later) at ∙ append_assoc r.more (p ∷ more) begins.later
                ∙ sym (append_assoc r.more (p ∷ []) (more ++ begins.later));
          } in
          absurd (r.stuck p (joined more ++ there.rest) next (g.rest ∙ ap (λ z. joined z ++ there.rest) (sym e)
          ∙ joined-front p more there.rest))
    ] refl)
    (compare_values v compared r.begins.value begins.value r.begins.lawful begins.lawful r.more r.begins.later other
    begins.later r.begins.begins begins.begins left there.rest (sym r.split ∙ there.split))

no_text : {A : Type 0} (v : Pieced A) → AreCompared v → (bytes left : List ℕ) → IsRefused v [] bytes left
    → IsNoText v bytes
no_text v compared bytes left r d is e =
    let same : joined r.more ++ left ≡ joined (v.pieces d) ++ [] =
    sym r.split ∙ e ∙ sym (append-nil (joined (v.pieces d))) in
    ⊎_elim
    (λ g.
    let none =
    same_pieces v compared r.begins.value d r.begins.lawful is r.more r.begins.later g.more r.begins.begins g.pieces in
    r.unfinished none.1 (sym (joined_all g.more left none.0) ∙ sym g.rest))
    (λ g. elim g.more as (λ z. z ≡ g.more → ⊥) [
      | [] ↦ λ n.
          let all : v.pieces d ≡ r.more = g.pieces ∙ ap (λ z. r.more ++ z) (sym n) ∙ append-nil r.more in
          let none =
          same_pieces v compared r.begins.value d r.begins.lawful is r.more r.begins.later [] r.begins.begins (sym all
          ∙ sym (append-nil (v.pieces d))) in
          r.unfinished none.1 (g.rest ∙ joined_all g.more [] (sym n))
      | (p ∷ more) ↦ λ n.
          let at : v.pieces d ≡ r.more ++ p ∷ more = g.pieces ∙ ap (λ z. r.more ++ z) (sym n) in
          let next : BeginsAValue v (r.more ++ p ∷ []) =
          record {
            value = d;
            lawful = is;
            later = more;
            begins =
                at ∙ sym (append_assoc r.more (p ∷ []) more);
          } in
          r.stuck p (joined more ++ []) next (g.rest ∙ ap (λ z. joined z ++ []) (sym n) ∙ joined-front p more [])
    ] refl)
    (compare_values v compared r.begins.value d r.begins.lawful is r.more r.begins.later (v.pieces d) [] r.begins.begins
    (sym (append-nil (v.pieces d))) left [] same)

-- the place of a refusal
pub refused_there : {A : Type 0} (v : Pieced A) → AreCompared v → (bytes left : List ℕ) (at : ℕ)
    → IsRefused v [] bytes left → at ≡ length bytes - length left → IsNoText v bytes × IsPlaceOfRefusal v bytes at
refused_there v compared bytes left at r e =
    let size : length bytes ≡ length (joined r.more) + length left =
    ap length r.split ∙ length-append (joined r.more) left in
    let place : at ≡ length (joined r.more) = omega arith in (
      no_text v compared bytes left r,
      record {
        read = r.more;
        some = r.begins;
        there = record { rest = left; split = r.split };
        place = place;
        longest = λ other begins there. omega (arith, longest v compared bytes left r other begins there);
      },
    )

-- a refusal after more pieces
pub refused_behind : {A : Type 0} (v : Pieced A) (read before : List (List ℕ)) (input middle left : List ℕ) →
    input ≡ joined before ++ middle
    → IsRefused v (read ++ before) middle left → IsRefused v read input left
refused_behind v read before input middle left e r =
    let regrouped : (read ++ before) ++ r.more ≡ read ++ (before ++ r.more) = append_assoc read before r.more in
    record {
      more = before ++ r.more;
      split = e ∙ ap (λ z. joined before ++ z) r.split ∙ sym (append_assoc (joined before) (joined r.more) left)
          ∙ ap (λ z. z ++ left) (sym (joined-append before r.more));
      begins =
          record {
            value = r.begins.value;
            lawful = r.begins.lawful;
            later = r.begins.later;
            begins =
                r.begins.begins ∙ ap (λ z. z ++ r.begins.later) regrouped;
          };
      unfinished = r.unfinished;
      stuck =
          λ p after begins at. r.stuck p after (subst (λ z. BeginsAValue v (z ++ p ∷ [])) (sym regrouped) begins) at;
    }
