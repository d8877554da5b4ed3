-- A document that is read while its bytes come: the bytes that came, and its refusals.
use Rattle.std.proofs.Common.{◌≡◌, ◌≢◌, ◌⊎◌, inr, ℕ, ◌+◌, ◌-◌, ◌≤◌, List, [], ◌∷◌, ◌++◌, length, drop, take, true, Option, None, Some, IfSome, Result, Ok, Err, IfErr, IsErrAnd, refl, sym, ap, ◌∙◌, subst, arith, append-nil, append_assoc, length-append}
use Rattle.std.proofs.lemmas.Bool.{false≢true}
use Rattle.std.proofs.lemmas.List.Elements.{All-nil, All-push}
use Rattle.std.proofs.lemmas.List.{drop_at, take_all}
use Rattle.atom_values.specs.Ascii.{lf}
use Rattle.atom_writer.specs.Doc.{DocValue, IsDoc}
use Rattle.atom_writer.specs.Pieces.{joined, text}
use Rattle.atom_writer.proofs.PieceLemmas.{joined-append, joined-none, joined-one}
use Rattle.atom_grammar.specs.declared.body.Body.{Body}
use Rattle.atom_grammar.specs.declared.progress.Progress.{Progress}
use Rattle.atom_grammar.specs.declared.read.ReadFault.{ReadFault}
use Rattle.atom_grammar.specs.declared.read.ReadFault.TheVariants.{NotADocument, NoMemory}
use Rattle.atom_grammar.specs.Cutting.{IsCut, IsWhole, IsLine, AreWhole}
use Rattle.atom_grammar.specs.Parts.{lacks}
use Rattle.atom_grammar.specs.Progress.{KeepsBody, IsCutText, IsRefusalOf, IsRefusedBehind, IsGoing, HasRead, ReaderValue, body_text, fed_text, has_ended, read_text}
use Rattle.atom_grammar.specs.Refusal.{IsNoDocument, IsPlaceOfRefusal}
use Rattle.atom_grammar.proofs.CuttingLemmas.{cut_line, unfinished_line, unfinished_nothing, unfinished_rest}
use Rattle.atom_grammar.specs.Stages.{IsRefused}
use Rattle.atom_grammar.proofs.EndLemmas.{refused_body}
use Rattle.atom_grammar.proofs.ItemListLemmas.{ended_stuck}
use Rattle.atom_grammar.proofs.RefusalLemmas.{refused_there}
use Rattle.atom_grammar.proofs.WholeLemmas.{nothing_before}

-- no bytes wait to be read
pub nothing_left : (text : List ℕ) → text ≡ [] → IsCutText text 0
nothing_left text none = record {
  pieces = [];
  pending = [];
  cut = All-nil IsCut;
  unfinished = unfinished_nothing;
  split = none ∙ ap (λ (z : List ℕ). z ++ []) (sym joined-none);
  place = ap length (sym joined-none);
}

empty : (xs : List ℕ) → length xs ≡ 0 → xs ≡ []
empty [] e = refl
empty (x ∷ xs) e = absurd (omega arith)

-- all bytes that wait are whole pieces
pub all_whole : (text : List ℕ) (start : ℕ) → IsCutText text start → start ≡ length text → AreWhole text
all_whole text start cut all =
    let ps = joined cut.pieces in
    let none : cut.pending ≡ [] =
    empty cut.pending (omega (arith, ap length cut.split, length-append ps cut.pending, cut.place, all)) in
    record {
      pieces = cut.pieces;
      cut = cut.cut;
      split = cut.split ∙ ap (λ z. ps ++ z) none ∙ append-nil ps;
    }

-- the refusal of whole pieces holds of the text, whatever follows
pub refused_pieces : (before input rest : List ℕ) (at : ℕ) → IsRefusedBehind before input rest
    → at ≡ length before + length input - length rest → IsRefusalOf (before ++ input) (NotADocument at)
refused_pieces before input rest at r place = λ more.
    refused_there ((before ++ input) ++ more) (rest ++ more) at (r more)
    (omega (
      arith,
      place,
      length-append (before ++ input) more,
      length-append before input,
      length-append rest more,
    ))

pub refused_within : (before input rest : List ℕ) → IsRefusedBehind before input rest
    → length rest ≤ length before + length input
refused_within before input rest r =
    let none = r [] in
    omega (
      arith,
      ap length none.split,
      length-append (joined none.more) (rest ++ []),
      length-append rest [],
      length-append (before ++ input) [],
      length-append before input,
    )

-- a refusal stays when more bytes come
refusal_on : (bytes more : List ℕ) (fault : ReadFault) → IsRefusalOf bytes fault → IsRefusalOf (bytes ++ more) fault
refusal_on bytes more (NotADocument at) r = λ later.
    subst (λ z. IsNoDocument z × IsPlaceOfRefusal z at) (sym (append_assoc bytes more later)) (r (more ++ later))
refusal_on bytes more NoMemory r = tt

-- the bytes that came, with those that come next
pub fed_on : (read text line longer : List ℕ) → longer ≡ text ++ line → read ++ longer ≡ (read ++ text) ++ line
fed_on read text line longer is_longer = ap (λ z. read ++ z) is_longer ∙ sym (append_assoc read text line)

-- a reader's refusal, once all bytes came
pub kept : (reader : ReaderValue) (bytes : List ℕ) (fault : ReadFault) → HasRead reader bytes
    → reader.refusal ≡ Some fault → IsRefusalOf bytes fault
kept reader bytes fault read is = subst (λ z. IfSome z (IsRefusalOf bytes)) is read.refused

pub kept_only : (bytes : List ℕ) (fault : ReadFault) → IsRefusalOf bytes fault → (d : DocValue) → IsDoc d
    → bytes ≡ text d → (r : Result DocValue ReadFault) → r ≡ Err fault → (r ≡ Ok d) ⊎ (r ≡ Err NoMemory)
kept_only bytes (NotADocument at) refusal d is e r same = absurd ((refusal []).0 d is (append-nil bytes ∙ e))
kept_only bytes NoMemory refusal d is e r same = inr same

pub kept_refusal : (bytes : List ℕ) (fault : ReadFault) → IsRefusalOf bytes fault → (at : ℕ)
    → (r : Result DocValue ReadFault) → r ≡ Err fault → r ≡ Err (NotADocument at)
    → IsNoDocument bytes × IsPlaceOfRefusal bytes at
kept_refusal bytes (NotADocument other) refusal at r same e =
    let place : other ≡ at = cc in
    subst (λ z. IsNoDocument bytes × IsPlaceOfRefusal bytes z) place
    (subst (λ z. IsNoDocument z × IsPlaceOfRefusal z other) (append-nil bytes) (refusal []))
kept_refusal bytes NoMemory refusal at r same e = absurd cc

-- no text goes on behind the end of a document
pub refused_end : (begun : Option Body) (text : List ℕ) (used : ℕ) → IfSome begun KeepsBody → has_ended begun ≡ true
    → text ≢ [] → used ≡ length (read_text begun) → IsRefusalOf (read_text begun ++ text) (NotADocument used)
refused_end None text used keeps ended some is_used = absurd (false≢true ended)
refused_end (Some body) text used keeps ended some is_used = λ more.
    let left = text ++ more in
    let stuck = ended_stuck body left ended (λ none. some (nothing_before text more none)) in
    refused_there ((body_text body ++ text) ++ more) left used
    (subst (λ z. IsRefused [] z left) (sym (append_assoc (body_text body) text more))
    (refused_body body keeps left stuck))
    (omega (
      arith,
      is_used,
      length-append (body_text body ++ text) more,
      length-append (body_text body) text,
      length-append text more,
    ))

-- the refusal of the bytes that were taken
pub stopped_on : (bytes more all : List ℕ) (fault : ReadFault) (r : Result (Unit {0}) ReadFault)
    → IsErrAnd r (λ s. s ≡ fault) → all ≡ bytes ++ more → IsRefusalOf bytes fault → IfErr r (IsRefusalOf all)
stopped_on bytes more all fault (Ok x) same e refusal = tt
stopped_on bytes more all fault (Err x) same e refusal =
    subst (λ z. IsRefusalOf all z) (sym same)
    (subst (λ z. IsRefusalOf z fault) (sym e) (refusal_on bytes more fault refusal))

module _ (text line longer : List ℕ) (start : ℕ) (cut : IsCutText text start) (is_longer : longer ≡ text ++ line) where
  -- the whole pieces, and the bytes behind them
  longer_split : longer ≡ joined cut.pieces ++ (cut.pending ++ line)
  longer_split =
      is_longer ∙ ap (λ z. z ++ line) cut.split ∙ append_assoc (joined cut.pieces) cut.pending line

  module _ (seen : List ℕ) (same : seen ≡ longer) where
    -- the bytes behind the whole pieces
    abbrev piece : List ℕ
    piece = take (length seen - start) (drop start seen)

    piece_is : piece ≡ cut.pending ++ line
    piece_is =
        let last = cut.pending ++ line in
        let split : seen ≡ joined cut.pieces ++ last = same ∙ longer_split in
        let behind : drop start seen ≡ last =
        ap (λ z. drop start z) split ∙ drop_at (joined cut.pieces) last start (sym cut.place) in
        ap (λ z. take (length seen - start) z) behind
        ∙ take_all (length seen - start) last
        (omega (arith, ap length split, length-append (joined cut.pieces) last, cut.place))

    -- the line doesn't make a piece whole
    pub line_waits : IsLine line → (IsWhole piece → ⊥) → IsCutText longer start
    line_waits is_line unfinished = record {
      pieces = cut.pieces;
      pending = cut.pending ++ line;
      cut = cut.cut;
      unfinished = unfinished_line cut.pending line cut.unfinished is_line (subst (λ z. IsWhole z → ⊥) piece_is unfinished);
      split = longer_split;
      place = cut.place;
    }

    -- or it does
    pub line_ends : IsLine line → IsWhole piece → IsCutText longer (length longer)
    line_ends is_line whole =
        let ps = cut.pieces ++ (cut.pending ++ line) ∷ [] in
        let all : longer ≡ joined ps =
        longer_split ∙ ap (λ z. joined cut.pieces ++ z) (sym (joined-one (cut.pending ++ line)))
        ∙ sym (joined-append cut.pieces ((cut.pending ++ line) ∷ [])) in
        record {
          pieces = ps;
          pending = [];
          cut =
              All-push IsCut cut.pieces (cut.pending ++ line) cut.cut
              (cut_line cut.pending line cut.unfinished is_line (subst IsWhole piece_is whole));
          unfinished = unfinished_nothing;
          split = all ∙ sym (append-nil (joined ps));
          place = ap length all;
        }

  -- bytes without a line end
  pub rest_waits : lacks lf line ≡ true → IsCutText longer start
  rest_waits none = record {
    pieces = cut.pieces;
    pending = cut.pending ++ line;
    cut = cut.cut;
    unfinished = unfinished_rest cut.pending line cut.unfinished none;
    split = longer_split;
    place = cut.place;
  }

-- some of the next bytes were taken
pub record IsTaking (start : Progress) (bytes : List ℕ) (progress : Progress) (rest : List ℕ) : Type 0 where
  pub going : IsGoing progress
  pub split : fed_text start ++ bytes ≡ fed_text progress ++ rest
