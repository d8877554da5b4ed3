-- The text of a summary.
use Rattle.std.proofs.Common.{◌≡◌, ℕ, List, [], ◌∷◌, ◌++◌, codes, decimal, ap, ◌∙◌, append_assoc}
use Rattle.std.proofs.lemmas.List.{append-nil}
use Rattle.atom_values.specs.Ascii.{lf}
use Rattle.hex.specs.Hex.{encode_lower}
use Rattle.feed_drill.specs.Summary.{SummaryValue, summary_lines, summary_text}

abbrev pub numbered : List ℕ → ℕ → List ℕ
numbered word number = word ++ decimal number ++ lf ∷ []

regroup : (end w1 w2 w3 w4 w5 w6 w7 between n1 n2 n3 n4 n5 n6 n7 digest : List ℕ)
    → [] ++ (w1 ++ n1 ++ end) ++ (w2 ++ n2 ++ end) ++ (w3 ++ n3 ++ end) ++ (w4 ++ n4 ++ end) ++ (w5 ++ n5 ++ end)
    ++ (w6 ++ n6) ++ (between ++ n7 ++ end) ++ w7 ++ digest ++ end
    ≡ w1 ++ n1 ++ end ++ (w2 ++ n2 ++ end ++ (w3 ++ n3 ++ end ++ (w4 ++ n4 ++ end ++ (w5 ++ n5 ++ end
    ++ (w6 ++ (n6 ++ (between ++ n7)) ++ end ++ (w7 ++ digest ++ end ++ []))))))
regroup end w1 w2 w3 w4 w5 w6 w7 between n1 n2 n3 n4 n5 n6 n7 digest = simp (append_assoc, append-nil)

pub print-is : (s : SummaryValue) (a b c d e f g h i j : List ℕ)
    → a ≡ [] ++ numbered (codes "operations ") s.operations → b ≡ a ++ numbered (codes "version ") s.version
    → c ≡ b ++ numbered (codes "archives ") s.archives → d ≡ c ++ numbered (codes "stops ") s.stops
    → e ≡ d ++ numbered (codes "mirror stops ") s.mirror_stops
    → f ≡ e ++ (codes "complete " ++ decimal s.complete) → g ≡ f ++ numbered (codes " ") s.live_count
    → h ≡ g ++ codes "live " → i ≡ h ++ encode_lower s.live_digest → j ≡ i ++ lf ∷ [] → j ≡ summary_text s
unfolding summary_text summary_lines
print-is s a b c d e f g h i j ea eb ec ed ee ef eg eh ei ej =
    ej ∙ ap (λ (l : List ℕ). l ++ lf ∷ []) (ei ∙ ap (λ (l : List ℕ). l ++ encode_lower s.live_digest)
    (eh ∙ ap (λ (l : List ℕ). l ++ codes "live ") (eg ∙ ap (λ (l : List ℕ). l ++ numbered (codes " ") s.live_count)
    (ef ∙ ap (λ (l : List ℕ). l ++ (codes "complete " ++ decimal s.complete))
    (ee ∙ ap (λ (l : List ℕ). l ++ numbered (codes "mirror stops ") s.mirror_stops)
    (ed ∙ ap (λ (l : List ℕ). l ++ numbered (codes "stops ") s.stops)
    (ec ∙ ap (λ (l : List ℕ). l ++ numbered (codes "archives ") s.archives)
    (eb ∙ ap (λ (l : List ℕ). l ++ numbered (codes "version ") s.version) ea))))))))
    ∙ regroup (lf ∷ []) (codes "operations ") (codes "version ") (codes "archives ") (codes "stops ")
    (codes "mirror stops ") (codes "complete ") (codes "live ") (codes " ") (decimal s.operations) (decimal s.version)
    (decimal s.archives) (decimal s.stops) (decimal s.mirror_stops) (decimal s.complete) (decimal s.live_count)
    (encode_lower s.live_digest)

-- a line with an equal number
pub number : (before word : List ℕ) {n m : ℕ} → n ≡ m → before ++ numbered word n ≡ before ++ numbered word m
number before word e = ap (λ k. before ++ numbered word k) e

pub after : {before : List ℕ} → before ≡ [] → (word : List ℕ) {n m : ℕ} → n ≡ m
    → before ++ numbered word n ≡ [] ++ numbered word m
after {before = before} none word {n = n} e =
    ap (λ (l : List ℕ). l ++ numbered word n) none ∙ ap (λ k. [] ++ numbered word k) e
