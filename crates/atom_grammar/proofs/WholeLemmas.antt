-- Texts that were cut into whole pieces: what is left behind some of them, and the refusals that stay whatever follows.
use Rattle.std.proofs.Common.{◌≡◌, ◌≢◌, ℕ, List, [], ◌∷◌, ◌++◌, length, refl, sym, ap, ◌∙◌, subst, arith, append_assoc, length-append, All}
use Rattle.std.proofs.lemmas.List.Elements.{All-head, All-tail, All-append}
use Rattle.atom_writer.specs.Doc.{DocValue, IsDoc}
use Rattle.atom_writer.specs.Pieces.{joined, pieces}
use Rattle.atom_writer.proofs.PieceLemmas.{joined-append, joined-none, joined-cons}
use Rattle.atom_grammar.specs.declared.body.Body.{Body}
use Rattle.atom_grammar.specs.Cutting.{IsCut, AreWhole, mark_of}
use Rattle.atom_grammar.specs.Progress.{KeepsBody, HasTaken, IsStuck, IsRefusedBehind, body_text}
use Rattle.atom_grammar.specs.Stages.{IsRefused}
use Rattle.atom_grammar.proofs.BodyLemmas.{IsReading, pieces_of, body_text-is, body_cut, cut-front}
use Rattle.atom_grammar.proofs.CuttingLemmas.{cut_alike, pieces-cut}
use Rattle.atom_grammar.proofs.EndLemmas.{refused_body}

pub nothing_before : (xs ys : List ℕ) → xs ++ ys ≡ [] → xs ≡ []
nothing_before [] ys e = refl
nothing_before (x ∷ xs) ys e = let none : x ∷ (xs ++ ys) ≡ [] = e in cc

no_cut : (p rest : List ℕ) → IsCut p → [] ≢ p ++ rest
no_cut p rest cut e =
    let none : p ≡ [] = nothing_before p rest (sym e) in
    omega (
      arith,
      ap length cut.whole.split,
      length-append cut.whole.front (mark_of p),
      ap length none,
      ap (λ z. length (mark_of z)) none,
    )

pub joined-front : (p : List ℕ) (ps : List (List ℕ)) (rest : List ℕ) → joined (p ∷ ps) ++ rest ≡ p ++ (joined ps ++ rest)
joined-front p ps rest = ap (λ z. z ++ rest) (joined-cons p ps) ∙ append_assoc p (joined ps) rest

-- what is left of whole pieces behind some pieces is whole
left_whole : (ps qs : List (List ℕ)) (rest : List ℕ) → All IsCut ps → All IsCut qs → joined ps ≡ joined qs ++ rest
    → AreWhole rest
left_whole ps [] rest cut_ps cut_qs e =
    record { pieces = ps; cut = cut_ps; split = sym (e ∙ ap (λ z. z ++ rest) joined-none) }
left_whole [] (q ∷ qs) rest cut_ps cut_qs e =
    absurd
    (no_cut q (joined qs ++ rest) (All-head IsCut q qs cut_qs) (sym joined-none ∙ e ∙ joined-front q qs rest))
left_whole (p ∷ ps) (q ∷ qs) rest cut_ps cut_qs e =
    let same =
    cut_alike p q (joined ps) (joined qs ++ rest) (All-head IsCut p ps cut_ps) (All-head IsCut q qs cut_qs)
    (sym (joined-cons p ps) ∙ e ∙ joined-front q qs rest) in
    left_whole ps qs rest (All-tail IsCut p ps cut_ps) (All-tail IsCut q qs cut_qs) same.1

-- or behind a body
pub whole_left : (body : Body) → KeepsBody body → (input rest : List ℕ) → AreWhole input
    → input ≡ body_text body ++ rest → AreWhole rest
whole_left body keeps input rest whole e =
    left_whole whole.pieces (pieces_of body) rest whole.cut (body_cut body keeps)
    (sym whole.split ∙ e ∙ ap (λ z. z ++ rest) (body_text-is body))

whole_behind : (body : Body) → KeepsBody body → (rest : List ℕ) → AreWhole rest → AreWhole (body_text body ++ rest)
whole_behind body keeps rest whole = record {
  pieces = pieces_of body ++ whole.pieces;
  cut = All-append IsCut (pieces_of body) whole.pieces (body_cut body keeps) whole.cut;
  split =
      ap (λ z. z ++ rest) (body_text-is body) ∙ ap (λ z. joined (pieces_of body) ++ z) whole.split
      ∙ sym (joined-append (pieces_of body) whole.pieces);
}

-- behind one more piece
pub whole_taken : (before after : Body) (input rest : List ℕ) → KeepsBody before → AreWhole input
    → HasTaken before after input rest → AreWhole rest
whole_taken before after input rest keeps whole taken =
    whole_left after taken.keeps (body_text before ++ input) rest (whole_behind before keeps input whole) taken.split

cut-last : (ps : List (List ℕ)) (p : List ℕ) → All IsCut (ps ++ p ∷ []) → IsCut p
cut-last [] p all = All-head IsCut p [] all
cut-last (q ∷ ps) p all = cut-last ps p (All-tail IsCut q (ps ++ p ∷ []) all)

-- pieces that begin a document's
cut-begins : (d : DocValue) → IsDoc d → (ps later : List (List ℕ)) → pieces d ≡ ps ++ later → All IsCut ps
cut-begins d is ps later e = cut-front ps later (subst (λ z. All IsCut z) e (pieces-cut d is))

-- a piece that comes next is the first of the whole pieces that are there
is_first : (ps : List (List ℕ)) (rest more p after : List ℕ) → All IsCut ps → rest ≡ joined ps → rest ≢ [] → IsCut p
    → rest ++ more ≡ p ++ after → (left : List ℕ) × (rest ≡ p ++ left)
is_first [] rest more p after cut e some cut_p at = absurd (some (e ∙ joined-none))
is_first (q ∷ qs) rest more p after cut e some cut_p at =
    let split : rest ≡ q ++ joined qs = e ∙ joined-cons q qs in
    let same =
    cut_alike q p (joined qs ++ more) after (All-head IsCut q qs cut) cut_p
    (sym (append_assoc q (joined qs) more) ∙ ap (λ z. z ++ more) (sym split) ∙ at) in
    (joined qs, split ∙ ap (λ z. z ++ joined qs) same.0)

-- a refusal of whole pieces stays, whatever follows
pub refused_on : (input rest : List ℕ) → IsRefused [] input rest → AreWhole input → rest ≢ [] → (more : List ℕ)
    → IsRefused [] (input ++ more) (rest ++ more)
refused_on input rest r whole some more =
    let left =
    left_whole whole.pieces r.more rest whole.cut
    (cut-begins r.begins.value r.begins.lawful r.more r.begins.later r.begins.begins) (sym whole.split ∙ r.split) in
    record {
      more = r.more;
      split = ap (λ z. z ++ more) r.split ∙ append_assoc (joined r.more) rest more;
      begins = r.begins;
      unfinished = λ _ e. some (nothing_before rest more e);
      stuck = λ p after begins at.
          let cut_p =
          cut-last r.more p (cut-begins begins.value begins.lawful (r.more ++ p ∷ []) begins.later begins.begins) in
          let first = is_first left.pieces rest more p after left.cut left.split some cut_p at in
          r.stuck p first.0 begins first.1;
    }

-- no piece is allowed behind a body
stuck_on : (body : Body) (input rest : List ℕ) → KeepsBody body → IsStuck body rest → AreWhole rest → rest ≢ []
    → input ≡ body_text body ++ rest → (more : List ℕ) → IsRefused [] (input ++ more) (rest ++ more)
stuck_on body input rest keeps stuck whole some e more =
    subst (λ z. IsRefused [] (z ++ more) (rest ++ more)) (sym e)
    (refused_on (body_text body ++ rest) rest (refused_body body keeps rest stuck)
    (whole_behind body keeps rest whole) some more)

-- no further piece is allowed behind the whole pieces that were read
pub read_stuck : (start body : Body) (input rest left : List ℕ) → IsReading start input body rest → AreWhole rest
    → IsStuck body rest → rest ≢ [] → left ≡ rest → IsRefusedBehind (body_text start) input left
read_stuck start body input rest left reading whole stuck some same = λ more.
    subst (λ z. IsRefused [] (body_text start ++ input ++ more) (z ++ more)) (sym same)
    (stuck_on body (body_text start ++ input) rest reading.keeps stuck whole some reading.split more)
