-- References by name and by number.
use Rattle.std.proofs.Common.{◌≡◌, ℕ, true, false, List, [], ◌∷◌, ◌++◌}
use Rattle.std.proofs.Common.{refl, sym, ap, subst, ◌∙◌, ⊎_elim, inl, inr, arith, codes}
use Rattle.std.specs.Prelude.{Result}
use Rattle.std.proofs.lemmas.Bool.{both_ways}
use Rattle.xml_tokens.specs.declared.cursor.Lapse.{Lapse}
use Rattle.xml_tokens.specs.Characters.{begins, IsNamed}
use Rattle.xml_tokens.specs.Reading.{Continues, Reads, named_behind}
use Rattle.xml_tokens.proofs.BeginLemmas.{begins_from}
use Rattle.xml_tokens.proofs.PartLemmas.{apart, chosen_reads, apart_reads, same_reads}

-- this name, which stands for this character
abbrev pub name_of : ℕ → List ℕ → ℕ → List ℕ → List ℕ → Type 0
name_of character name c text rest = (c ≡ character) × (text ≡ name)

tail_same : (a b : List ℕ) → 38 ∷ a ≡ 38 ∷ b → a ≡ b
tail_same a b e = cc

-- a name is one of five
pub named_cases : (Q : Type 0) (c : ℕ) (t : List ℕ) → IsNamed c (38 ∷ t) → (c ≡ 38 → t ≡ codes "amp;" → Q) →
    (c ≡ 60 → t ≡ codes "lt;" → Q) → (c ≡ 62 → t ≡ codes "gt;" → Q) → (c ≡ 34 → t ≡ codes "quot;" → Q) →
    (c ≡ 39 → t ≡ codes "apos;" → Q) → Q
named_cases Q c t is amp lt gt quot apos =
    ⊎_elim (λ a. amp a.0 (tail_same t (codes "amp;") a.1))
    (λ is2. ⊎_elim (λ a. lt a.0 (tail_same t (codes "lt;") a.1))
    (λ is3. ⊎_elim (λ a. gt a.0 (tail_same t (codes "gt;") a.1))
    (λ is4. ⊎_elim (λ a. quot a.0 (tail_same t (codes "quot;") a.1))
    (λ a. apos a.0 (tail_same t (codes "apos;") a.1)) is4) is3) is2) is

-- where the text begins with a byte, so does each spelling
pub first_same : (b : ℕ) (text tail more s rest : List ℕ) → text ≡ b ∷ tail → text ++ more ≡ s ++ rest →
    (k : ℕ) (u : List ℕ) → s ≡ k ∷ u → b ≡ k
first_same b text tail more s rest is e k u spelled =
    let same : b ∷ (tail ++ more) ≡ k ∷ (u ++ rest) =
    ap (λ xs. xs ++ more) (sym is) ∙ e ∙ ap (λ xs. xs ++ rest) spelled in
    cc

second_same : (b d : ℕ) (text tail more s rest : List ℕ) → text ≡ b ∷ d ∷ tail → text ++ more ≡ s ++ rest →
    (j k : ℕ) (u : List ℕ) → s ≡ j ∷ k ∷ u → d ≡ k
second_same b d text tail more s rest is e j k u spelled =
    let same : b ∷ d ∷ (tail ++ more) ≡ j ∷ k ∷ (u ++ rest) =
    ap (λ xs. xs ++ more) (sym is) ∙ e ∙ ap (λ xs. xs ++ rest) spelled in
    cc

pub lt_reads : (text tail : List ℕ) → text ≡ 108 ∷ tail → (r : Result ℕ Lapse) (end : List ℕ) →
    Reads (name_of 60 (codes "lt;")) text r end → Reads named_behind text r end
lt_reads text tail is = chosen_reads named_behind (name_of 60 (codes "lt;")) text
    (λ c s rest r. inr (inl (r.0, ap (λ xs. 38 ∷ xs) r.1)))
    (λ c more s rest e r. named_cases (name_of 60 (codes "lt;") c s rest) c s r
    (λ _ t. absurd (omega (arith, first_same 108 text tail more s rest is e 97 (codes "mp;") t)))
    (λ a t. (a, t))
    (λ _ t. absurd (omega (arith, first_same 108 text tail more s rest is e 103 (codes "t;") t)))
    (λ _ t. absurd (omega (arith, first_same 108 text tail more s rest is e 113 (codes "uot;") t)))
    (λ _ t. absurd (omega (arith, first_same 108 text tail more s rest is e 97 (codes "pos;") t))))

pub gt_reads : (text tail : List ℕ) → text ≡ 103 ∷ tail → (r : Result ℕ Lapse) (end : List ℕ) →
    Reads (name_of 62 (codes "gt;")) text r end → Reads named_behind text r end
gt_reads text tail is = chosen_reads named_behind (name_of 62 (codes "gt;")) text
    (λ c s rest r. inr (inr (inl (r.0, ap (λ xs. 38 ∷ xs) r.1))))
    (λ c more s rest e r. named_cases (name_of 62 (codes "gt;") c s rest) c s r
    (λ _ t. absurd (omega (arith, first_same 103 text tail more s rest is e 97 (codes "mp;") t)))
    (λ _ t. absurd (omega (arith, first_same 103 text tail more s rest is e 108 (codes "t;") t)))
    (λ a t. (a, t))
    (λ _ t. absurd (omega (arith, first_same 103 text tail more s rest is e 113 (codes "uot;") t)))
    (λ _ t. absurd (omega (arith, first_same 103 text tail more s rest is e 97 (codes "pos;") t))))

pub quot_reads : (text tail : List ℕ) → text ≡ 113 ∷ tail → (r : Result ℕ Lapse) (end : List ℕ) →
    Reads (name_of 34 (codes "quot;")) text r end → Reads named_behind text r end
quot_reads text tail is = chosen_reads named_behind (name_of 34 (codes "quot;")) text
    (λ c s rest r. inr (inr (inr (inl (r.0, ap (λ xs. 38 ∷ xs) r.1)))))
    (λ c more s rest e r. named_cases (name_of 34 (codes "quot;") c s rest) c s r
    (λ _ t. absurd (omega (arith, first_same 113 text tail more s rest is e 97 (codes "mp;") t)))
    (λ _ t. absurd (omega (arith, first_same 113 text tail more s rest is e 108 (codes "t;") t)))
    (λ _ t. absurd (omega (arith, first_same 113 text tail more s rest is e 103 (codes "t;") t)))
    (λ a t. (a, t))
    (λ _ t. absurd (omega (arith, first_same 113 text tail more s rest is e 97 (codes "pos;") t))))

pub amp_reads : (text tail : List ℕ) → text ≡ 97 ∷ 109 ∷ tail → (r : Result ℕ Lapse) (end : List ℕ) →
    Reads (name_of 38 (codes "amp;")) text r end → Reads named_behind text r end
amp_reads text tail is = chosen_reads named_behind (name_of 38 (codes "amp;")) text
    (λ c s rest r. inl (r.0, ap (λ xs. 38 ∷ xs) r.1))
    (λ c more s rest e r. named_cases (name_of 38 (codes "amp;") c s rest) c s r
    (λ a t. (a, t))
    (λ _ t. absurd (omega (arith, first_same 97 text (109 ∷ tail) more s rest is e 108 (codes "t;") t)))
    (λ _ t. absurd (omega (arith, first_same 97 text (109 ∷ tail) more s rest is e 103 (codes "t;") t)))
    (λ _ t. absurd (omega (arith, first_same 97 text (109 ∷ tail) more s rest is e 113 (codes "uot;") t)))
    (λ _ t. absurd (omega (arith, second_same 97 109 text tail more s rest is e 97 112 (codes "os;") t))))

abbrev not_l : ℕ → List ℕ → List ℕ → Type 0
not_l = apart (codes "l") named_behind

abbrev not_lg : ℕ → List ℕ → List ℕ → Type 0
not_lg = apart (codes "g") not_l

abbrev not_lgq : ℕ → List ℕ → List ℕ → Type 0
not_lgq = apart (codes "q") not_lg

abbrev only_apos : ℕ → List ℕ → List ℕ → Type 0
only_apos = apart (codes "am") not_lgq

apos_only : (c : ℕ) (s rest : List ℕ) → name_of 39 (codes "apos;") c s rest → only_apos c s rest
apos_only c s rest r =
    let B : List ℕ → List ℕ → Type 0 = λ p xs. begins p xs ≡ false in (
      (
        (
          (inr (inr (inr (inr (r.0, ap (λ xs. 38 ∷ xs) r.1)))), subst (B (codes "l")) (sym r.1) refl),
          subst (B (codes "g")) (sym r.1) refl,
        ),
        subst (B (codes "q")) (sym r.1) refl,
      ),
      subst (B (codes "am")) (sym r.1) refl,
    )

only_is_apos : (c : ℕ) (s rest : List ℕ) → only_apos c s rest → name_of 39 (codes "apos;") c s rest
only_is_apos c s rest r =
    let B : List ℕ → List ℕ → Type 0 = λ p xs. begins p xs ≡ false in
    named_cases (name_of 39 (codes "apos;") c s rest) c s r.0.0.0.0
    (λ _ t. absurd (both_ways true (subst (B (codes "am")) t r.1) refl))
    (λ _ t. absurd (both_ways true (subst (B (codes "l")) t r.0.0.0.1) refl))
    (λ _ t. absurd (both_ways true (subst (B (codes "g")) t r.0.0.1) refl))
    (λ _ t. absurd (both_ways true (subst (B (codes "q")) t r.0.1) refl))
    (λ a t. (a, t))

-- a text that `apos;` goes on
apos_goes : (text m : List ℕ) → text ++ m ≡ codes "apos;" → Continues only_apos text
apos_goes text m e =
    (m, (39, [], record { front = codes "apos;"; split = e; spelled = apos_only 39 (codes "apos;") [] (refl, refl) }))

weaker : {A : Type 0} (S : A → List ℕ → List ℕ → Type 0) (p text : List ℕ) → Continues (apart p S) text →
    Continues S text
weaker S p text some =
    let f = some.1.2 in
    (some.0, (some.1.0, some.1.1, record { front = f.front; split = f.split; spelled = f.spelled.0 }))

-- only the empty text is shorter than one byte
one_goes : (b : ℕ) (text m : List ℕ) → b ∷ [] ≡ text ++ m → begins (b ∷ []) text ≡ false → Continues only_apos text
one_goes b [] m e none = apos_goes [] (codes "apos;") refl
one_goes b (a ∷ text) m e none =
    let heads : a ≡ b = cc in
    let B : ℕ → Type 0 = λ x. begins (b ∷ []) (x ∷ text) ≡ false in
    absurd (both_ways (begins (b ∷ []) (b ∷ text)) (subst B heads none) (begins_from (b ∷ []) (b ∷ text) text refl))

two_goes : (text m : List ℕ) → codes "am" ≡ text ++ m → begins (codes "am") text ≡ false → Continues only_apos text
two_goes [] m e none = apos_goes [] (codes "apos;") refl
two_goes (a ∷ []) m e none =
    let heads : 97 ≡ a = cc in
    apos_goes (a ∷ []) (codes "pos;") (ap (λ x. x ∷ codes "pos;") (sym heads))
two_goes (a ∷ b ∷ text) m e none =
    let same : a ∷ b ∷ text ≡ codes "am" ++ text = let heads : 97 ≡ a = cc in let next : 109 ≡ b = cc in
    (λ i. sym heads i ∷ sym next i ∷ text) in
    absurd (both_ways (begins (codes "am") (a ∷ b ∷ text)) none
    (begins_from (codes "am") (a ∷ b ∷ text) text same))

pub apos_reads : (text : List ℕ) → begins (codes "l") text ≡ false → begins (codes "g") text ≡ false →
    begins (codes "q") text ≡ false → begins (codes "am") text ≡ false → (r : Result ℕ Lapse) (end : List ℕ) →
    Reads (name_of 39 (codes "apos;")) text r end → Reads named_behind text r end
apos_reads text l g q am r end read =
    let weak1 : Continues only_apos text → Continues not_lgq text = weaker not_lgq (codes "am") text in
    let weak2 : Continues not_lgq text → Continues not_lg text = weaker not_lg (codes "q") text in
    let weak3 : Continues not_lg text → Continues not_l text = weaker not_l (codes "g") text in
    apart_reads named_behind (codes "l") text l (λ m e. weak3 (weak2 (weak1 (one_goes 108 text m e l)))) r end
    (apart_reads not_l (codes "g") text g (λ m e. weak2 (weak1 (one_goes 103 text m e g))) r end
    (apart_reads not_lg (codes "q") text q (λ m e. weak1 (one_goes 113 text m e q)) r end
    (apart_reads not_lgq (codes "am") text am (λ m e. two_goes text m e am) r end
    (same_reads only_apos (name_of 39 (codes "apos;")) apos_only only_is_apos text r end read))))
