-- What was read of a document: its text, and its pieces.
use Rattle.std.proofs.Common.{◌≡◌, ◌≢◌, ℕ, List, [], ◌∷◌, ◌++◌, Bool, true, false, if◌then◌else◌, map, length, nat_eq, Result, Ok, Err, IsErrAnd, refl, sym, ap, ◌∙◌, subst, arith, codes, append-nil, append_assoc, All}
use Rattle.std.proofs.lemmas.Bool.{eqb-true, false≢true}
use Rattle.std.proofs.lemmas.List.{take_at}
use Rattle.std.proofs.lemmas.List.Elements.{All-take}
use Rattle.atom_writer.specs.Doc.{IsDoc}
use Rattle.atom_writer.specs.Pieces.{pieces, joined, text, item_piece}
use Rattle.atom_writer.proofs.PieceLemmas.{joined-append, joined-none, joined-one}
use Rattle.atom_grammar.specs.declared.body.Body.{Body}
use Rattle.atom_grammar.specs.declared.part_fault.PartFault.{PartFault}
use Rattle.atom_grammar.specs.declared.part_fault.PartFault.TheVariants.{Mismatch}
use Rattle.atom_grammar.specs.Cutting.{IsCut}
use Rattle.atom_grammar.specs.Progress.{KeepsBody, HasTaken, IsReadWhole, body_text, document_of}
use Rattle.atom_grammar.specs.Stages.{head_pieces}
use Rattle.atom_grammar.proofs.CuttingLemmas.{pieces-cut}
use Rattle.atom_grammar.proofs.PairLemmas.{end_pieces}
use Rattle.atom_grammar.proofs.StartLemmas.{is_document, whole-is}

abbrev pub head_of : Body → List (List ℕ)
head_of body = head_pieces body.name body.kind body.updated body.prev body.span

abbrev pub items_of : Body → List (List ℕ)
items_of body = map (item_piece body.name) body.items.items

abbrev end_of : Bool → List (List ℕ)
end_of ended = if ended then codes "</feed>\n" ∷ [] else []

-- the pieces that were read
unfoldable pub pieces_of : Body → List (List ℕ)
pieces_of body = head_of body ++ items_of body ++ end_of body.ended

joined-end : (ended : Bool) → joined (end_of ended) ≡ (if ended then codes "</feed>\n" else [])
joined-end true = joined-one (codes "</feed>\n")
joined-end false = joined-none

pub body_text-is : (body : Body) → body_text body ≡ joined (pieces_of body)
unfolding body_text pieces_of
body_text-is body =
    sym (joined-append (head_of body ++ items_of body) (end_of body.ended)
    ∙ ap (λ z. z ++ joined (end_of body.ended)) (joined-append (head_of body) (items_of body))
    ∙ ap (λ z. (joined (head_of body) ++ joined (items_of body)) ++ z) (joined-end body.ended))

-- the text before the end
pub body_text-open : (body : Body) → body.ended ≡ false
    → body_text body ≡ joined (head_of body) ++ joined (items_of body)
unfolding body_text
body_text-open body going =
    ap (λ (b : Bool). joined (head_of body) ++ joined (items_of body) ++ (if b then codes "</feed>\n" else [])) going
    ∙ append-nil (joined (head_of body) ++ joined (items_of body))

pub body_text-ended : (body : Body) → body.ended ≡ true
    → body_text body ≡ joined (head_of body) ++ joined (items_of body) ++ codes "</feed>\n"
unfolding body_text
body_text-ended body ended =
    ap (λ (b : Bool). joined (head_of body) ++ joined (items_of body) ++ (if b then codes "</feed>\n" else [])) ended

-- the text before the items
pub body_text-begun : (body : Body) → body.items.items ≡ [] → body.ended ≡ false
    → body_text body ≡ joined (head_of body)
body_text-begun body none going =
    body_text-open body going
    ∙ ap (λ z. joined (head_of body) ++ joined (map (item_piece body.name) z)) none
    ∙ ap (λ z. joined (head_of body) ++ z) joined-none ∙ append-nil (joined (head_of body))

-- what was read keeps the rules of a document
pub is_body : (body : Body) → KeepsBody body → IsDoc (document_of body)
is_body body keeps =
    is_document body.name body.kind body.span body.prev body.updated body.items.items keeps.opening keeps.small
    keeps.span keeps.items

pub all_pieces : (body : Body)
    → pieces (document_of body) ≡ (head_of body ++ items_of body) ++ codes "</feed>\n" ∷ []
unfolding end_pieces
all_pieces body =
    whole-is (document_of body) ∙ sym (append_assoc (head_of body) (items_of body) (codes "</feed>\n" ∷ []))

-- the whole text
pub body_text-whole : (body : Body) → body.ended ≡ true → body_text body ≡ text (document_of body)
unfolding pieces_of text
body_text-whole body ended =
    body_text-is body ∙ ap (λ b. joined (head_of body ++ items_of body ++ end_of b)) ended
    ∙ ap joined (sym (all_pieces body))

pub cut-front : (xs ys : List (List ℕ)) → All IsCut (xs ++ ys) → All IsCut xs
cut-front xs ys all =
    subst (λ z. All IsCut z) (take_at xs ys (length xs) refl) (All-take IsCut (length xs) (xs ++ ys) all)

cut-end : (front : List (List ℕ)) (ended : Bool) → All IsCut (front ++ codes "</feed>\n" ∷ [])
    → All IsCut (front ++ end_of ended)
cut-end front true all = all
cut-end front false all =
    subst (λ z. All IsCut z) (sym (append-nil front)) (cut-front front (codes "</feed>\n" ∷ []) all)

-- each piece is cut as it was read
pub body_cut : (body : Body) → KeepsBody body → All IsCut (pieces_of body)
unfolding pieces_of
body_cut body keeps =
    cut-end (head_of body ++ items_of body) body.ended
    (subst (λ z. All IsCut z) (all_pieces body) (pieces-cut (document_of body) (is_body body keeps)))

-- the body was read from what `start` had read and some of the input, and `rest` is left
pub record IsReading (start : Body) (input : List ℕ) (body : Body) (rest : List ℕ) : Type 0 where
  pub keeps : KeepsBody body
  pub split : body_text start ++ input ≡ body_text body ++ rest

-- one more piece was read
pub read_on : (start body : Body) (input rest : List ℕ) (after : Body) (left : List ℕ)
    → IsReading start input body rest → HasTaken body after rest left → IsReading start input after left
read_on start body input rest after left reading taken =
    record { keeps = taken.keeps; split = reading.split ∙ taken.split }

nothing_left : (rest : List ℕ) → true ≡ nat_eq (length rest) 0 → rest ≡ []
nothing_left [] none = refl
nothing_left (x ∷ rest) none = let zero = eqb-true (length (x ∷ rest)) 0 (sym none) in absurd (omega arith)

-- nothing is left
pub read_whole : (start body : Body) (input rest : List ℕ) → IsReading start input body rest → body.ended ≡ true
    → true ≡ nat_eq (length rest) 0 → IsReadWhole start body input
read_whole start body input rest reading ended none = record {
  keeps = reading.keeps;
  ended = ended;
  split = reading.split ∙ ap (λ z. body_text body ++ z) (nothing_left rest none) ∙ append-nil (body_text body);
}

pub some_left : (rest : List ℕ) → false ≡ nat_eq (length rest) 0 → rest ≢ []
some_left rest not none = false≢true (not ∙ ap (λ (z : List ℕ). nat_eq (length z) 0) none)

pub same_fault : {A : Type 0} (e : PartFault) (r : Result A PartFault) → IsErrAnd r (λ s. s ≡ e) → r ≡ Err Mismatch
    → e ≡ Mismatch
same_fault e (Ok x) same is = absurd same
same_fault e (Err x) same is = let stop : x ≡ Mismatch = cc in sym same ∙ stop

-- the document that was read
pub document_read : (start body : Body) (input : List ℕ) → IsReadWhole start body input
    → IsDoc (document_of body) × (body_text start ++ input ≡ text (document_of body))
document_read start body input read =
    (is_body body read.keeps, read.split ∙ body_text-whole body read.ended)
