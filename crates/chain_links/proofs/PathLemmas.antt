-- The walk over a path passes exactly the texts of segments.
use Rattle.std.proofs.Common.{◌≡◌, ◌≢◌, ℕ, List, [], ◌∷◌, ◌++◌, Bool, true, false, cond, ◌==◌, ◌||◌, not, IsTrue, All}
use Rattle.std.proofs.Common.{flat_map, refl, sym, ap, ◌∙◌, eqb-true, ⊎_elim, append_assoc}
use Rattle.std.proofs.lemmas.Bool.{cases_Bool, cond-true, true≢false}
use Rattle.std.proofs.lemmas.List.Elements.{All-nil, All-cons, All-head, All-tail}
use Rattle.chain_links.specs.Base.{is_segment_char, IsWord, AreSegments}

-- the text after the first `/`
abbrev pub segments_text : List (List ℕ) → List ℕ
segments_text segments = flat_map (λ segment. segment ++ 47 ∷ []) segments

-- whether a text is segments to its end, where fresh says that a segment is still to begin
abbrev pub is_behind : Bool → List ℕ → Bool
is_behind fresh [] = fresh
is_behind fresh (c ∷ cs) =
    cond (is_segment_char c) (is_behind false cs) (cond (fresh || not (c == 47)) false (is_behind true cs))

-- the rest of a segment, where one has begun, and more segments
record Passed (text : List ℕ) : Type 0 where
  first : List ℕ
  more : List (List ℕ)
  chars : All (λ c. IsTrue (is_segment_char c)) first
  words : All (IsWord is_segment_char) more
  spelt : first ++ (47 ∷ segments_text more) ≡ text

record Whole (text : List ℕ) : Type 0 where
  segments : List (List ℕ)
  words : AreSegments segments
  spelt : segments_text segments ≡ text

with_char : (c : ℕ) (cs : List ℕ) → is_segment_char c ≡ true → Passed cs → Passed (c ∷ cs)
with_char c cs e t = record {
  first = c ∷ t.first;
  more = t.more;
  chars = All-cons (λ x. IsTrue (is_segment_char x)) c t.first e t.chars;
  words = t.words;
  spelt = ap (λ x. c ∷ x) t.spelt;
}

with_slash : (c : ℕ) (cs : List ℕ) → c ≡ 47 → Whole cs → Passed (c ∷ cs)
with_slash c cs e t = record {
  first = [];
  more = t.segments;
  chars = All-nil (λ x. IsTrue (is_segment_char x));
  words = t.words;
  spelt = ap (λ x. 47 ∷ x) t.spelt ∙ ap (λ x. x ∷ cs) (sym e);
}

begun : (c : ℕ) (cs : List ℕ) → is_segment_char c ≡ true → Passed cs → Whole (c ∷ cs)
begun c cs e t =
    let p = with_char c cs e t in
    record {
      segments = p.first ∷ p.more;
      words = All-cons (IsWord is_segment_char) p.first p.more (λ n. cc, p.chars) p.words;
      spelt = append_assoc p.first (47 ∷ []) (segments_text p.more) ∙ p.spelt;
    }

nothing : Whole []
nothing = record { segments = []; words = All-nil (IsWord is_segment_char); spelt = refl }

closes : (c : ℕ) (cs : List ℕ) → cond (not (c == 47)) false (is_behind true cs) ≡ true →
    (c ≡ 47) × (is_behind true cs ≡ true)
closes c cs e =
    ⊎_elim
    (λ slash. (eqb-true c 47 slash, rw slash at e))
    (λ other. absurd (true≢false (sym (rw other at e))))
    (cases_Bool (c == 47))

both : (text : List ℕ) → (is_behind false text ≡ true → Passed text) × (is_behind true text ≡ true → Whole text)
both [] = (λ e. absurd (true≢false (sym e)), λ _. nothing)
both (c ∷ cs) =
    ⊎_elim
    (λ yes. (λ e. with_char c cs yes ((both cs).0 (rw yes at e)), λ e. begun c cs yes ((both cs).0 (rw yes at e))))
    (λ other. (
      λ e.
          let h : cond (not (c == 47)) false (is_behind true cs) ≡ true = rw other at e in
          let p = closes c cs h in
          with_slash c cs p.0 ((both cs).1 p.1),
      λ e. absurd (true≢false (sym (rw other at e))),
    ))
    (cases_Bool (is_segment_char c))

pub path_found : (text : List ℕ) → is_behind true text ≡ true → (segments : List (List ℕ)) × AreSegments segments
    × (segments_text segments ≡ text)
path_found text e = let t = (both text).1 e in (t.segments, t.words, t.spelt)

-- over the characters of a segment and the `/` after it
over_segment : (fresh : Bool) (first rest : List ℕ) → (fresh ≡ true → first ≢ []) →
    All (λ c. IsTrue (is_segment_char c)) first → is_behind fresh (first ++ 47 ∷ rest) ≡ is_behind true rest
over_segment true [] rest begun chars = absurd (begun refl refl)
over_segment false [] rest begun chars = refl
over_segment fresh (c ∷ cs) rest begun chars =
    cond-true (is_segment_char c) _ _ (All-head (λ x. IsTrue (is_segment_char x)) c cs chars)
    ∙ over_segment false cs rest (λ n. absurd (true≢false (sym n)))
    (All-tail (λ x. IsTrue (is_segment_char x)) c cs chars)

over_segments : (segments : List (List ℕ)) → AreSegments segments → is_behind true (segments_text segments) ≡ true
over_segments [] words = refl
over_segments (s ∷ ss) words =
    let w = All-head (IsWord is_segment_char) s ss words in
    ap (is_behind true) (append_assoc s (47 ∷ []) (segments_text ss))
    ∙ over_segment true s (segments_text ss) (λ _. w.0) w.1
    ∙ over_segments ss (All-tail (IsWord is_segment_char) s ss words)

pub path_only : (text : List ℕ) (segments : List (List ℕ)) → AreSegments segments → segments_text segments ≡ text →
    is_behind true text ≡ true
path_only text segments words e = ap (is_behind true) (sym e) ∙ over_segments segments words
