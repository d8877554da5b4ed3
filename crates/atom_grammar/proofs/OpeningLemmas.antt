-- The pieces up to the document's own address, read one after another.
use Rattle.std.proofs.Common.{◌≡◌, ℕ, List, [], ◌∷◌, ◌++◌, ℤ, Result, Ok, Err, IsErrAnd, sym, ap, ◌∙◌, subst}
use Rattle.atom_values.specs.Stamp.{IsStamp}
use Rattle.atom_values.specs.XmlText.{IsAtomText}
use Rattle.deleted_entries.specs.FeedId.{IsFeedId}
use Rattle.atom_writer.specs.Pieces.{joined, declaration_piece, open_piece, id_piece, updated_piece}
use Rattle.atom_grammar.specs.declared.opening.Opening.{Opening}
use Rattle.atom_grammar.specs.declared.opening.Own.{Own}
use Rattle.atom_grammar.specs.declared.part_fault.PartFault.{PartFault}
use Rattle.atom_grammar.specs.declared.part_fault.PartFault.TheVariants.{Mismatch, NoMemory}
use Rattle.atom_grammar.specs.FeedParts.{ReadsPiece, feed_id, title, updated, author, own, own_piece}
use Rattle.atom_grammar.specs.Items.{element}
use Rattle.atom_grammar.specs.Parts.{Part, IsFound, IsAbsent, literal, alone, ended, behind, content, moment}
use Rattle.atom_grammar.specs.Stages.{IsRefused, IsOpeningRead, ReadsOpening}
use Rattle.atom_grammar.proofs.RefusedLemmas.{refused_declaration, refused_open, refused_id, refused_title, refused_updated, refused_author, refused_own}
use Rattle.atom_grammar.proofs.StuckLemmas.{start, step, opening-is}
use Rattle.atom_grammar.proofs.ValueLemmas.{titled, authored}

opening_stopped : {A : Type 0} (part : Part A) (input before after : List ℕ) (e : PartFault)
    (r : Result Opening PartFault) → ReadsPiece part before (Err e) after → IsErrAnd r (λ s. s ≡ e)
    → (IsAbsent part before → IsRefused [] input before) → ReadsOpening input r after
opening_stopped part input before after e (Ok x) s same f = absurd same
opening_stopped part input before after Mismatch (Err x) s same f =
    let P : PartFault → Type 0 = λ stop. ReadsOpening input (Err stop) after in
    subst P (sym same) (subst (λ z. IsRefused [] input z) (sym s.0) (f s.1))
opening_stopped part input before after NoMemory (Err x) s same f =
    let P : PartFault → Type 0 = λ stop. ReadsOpening input (Err stop) after in
    subst P (sym same) tt

pub stop1 : (input after : List ℕ) (e : PartFault) (r : Result Opening PartFault)
    → ReadsPiece (literal declaration_piece) input (Err e) after → IsErrAnd r (λ s. s ≡ e)
    → ReadsOpening input r after
stop1 input after e r s same =
    opening_stopped (literal declaration_piece) input input after e r s same (refused_declaration input)

pub up1 : (input r1 : List ℕ) → IsFound (literal declaration_piece) input tt r1
    → input ≡ joined (declaration_piece ∷ []) ++ r1
unfolding literal
up1 input r1 f = step [] declaration_piece input input r1 (start input) f.split

pub stop2 : (input r1 after : List ℕ) (e : PartFault) (r : Result Opening PartFault)
    → IsFound (literal declaration_piece) input tt r1 → ReadsPiece (literal open_piece) r1 (Err e) after
    → IsErrAnd r (λ s. s ≡ e) → ReadsOpening input r after
stop2 input r1 after e r f1 s same =
    opening_stopped (literal open_piece) input r1 after e r s same (refused_open input r1 (up1 input r1 f1))

pub up2 : (input r1 r2 : List ℕ) → IsFound (literal declaration_piece) input tt r1
    → IsFound (literal open_piece) r1 tt r2 → input ≡ joined (declaration_piece ∷ open_piece ∷ []) ++ r2
unfolding literal
up2 input r1 r2 f1 f2 = step (declaration_piece ∷ []) open_piece input r1 r2 (up1 input r1 f1) f2.split

pub stop3 : (input r2 after : List ℕ) (e : PartFault) (r : Result Opening PartFault)
    → input ≡ joined (declaration_piece ∷ open_piece ∷ []) ++ r2 → ReadsPiece feed_id r2 (Err e) after
    → IsErrAnd r (λ s. s ≡ e) → ReadsOpening input r after
stop3 input r2 after e r e2 s same = opening_stopped feed_id input r2 after e r s same (refused_id input r2 e2)

pub up3 : (input r2 r3 id : List ℕ) → input ≡ joined (declaration_piece ∷ open_piece ∷ []) ++ r2
    → IsFound feed_id r2 id r3 → input ≡ joined (declaration_piece ∷ open_piece ∷ id_piece id ∷ []) ++ r3
up3 input r2 r3 id e f = step (declaration_piece ∷ open_piece ∷ []) (id_piece id) input r2 r3 e f.split

pub stop4 : (input r3 after id : List ℕ) (e : PartFault) (r : Result Opening PartFault) → IsFeedId id
    → input ≡ joined (declaration_piece ∷ open_piece ∷ id_piece id ∷ []) ++ r3 → ReadsPiece title r3 (Err e) after
    → IsErrAnd r (λ s. s ≡ e) → ReadsOpening input r after
stop4 input r3 after id e r is_id e3 s same =
    opening_stopped title input r3 after e r s same (refused_title input r3 id is_id e3)

pub up4 : (input r3 r4 id text : List ℕ) → input ≡ joined (declaration_piece ∷ open_piece ∷ id_piece id ∷ []) ++ r3
    → IsFound title r3 text r4
    → input ≡ joined (declaration_piece ∷ open_piece ∷ id_piece id ∷ titled text ∷ []) ++ r4
unfolding alone ended behind content titled
up4 input r3 r4 id text e f =
    step (declaration_piece ∷ open_piece ∷ id_piece id ∷ []) (titled text) input r3 r4 e f.split

pub is_text : (start end input text rest : List ℕ) → IsFound (element start end) input text rest → IsAtomText text
unfolding alone ended behind content
is_text start end input text rest f = f.lawful

pub stop5 : (input r4 after id text : List ℕ) (e : PartFault) (r : Result Opening PartFault) → IsFeedId id
    → IsAtomText text → input ≡ joined (declaration_piece ∷ open_piece ∷ id_piece id ∷ titled text ∷ []) ++ r4
    → ReadsPiece updated r4 (Err e) after → IsErrAnd r (λ s. s ≡ e) → ReadsOpening input r after
stop5 input r4 after id text e r is_id is_title e4 s same =
    opening_stopped updated input r4 after e r s same (refused_updated input r4 id text is_id is_title e4)

pub up5 : (input r4 r5 id text : List ℕ) (z : ℤ)
    → input ≡ joined (declaration_piece ∷ open_piece ∷ id_piece id ∷ titled text ∷ []) ++ r4 → IsFound updated r4 z r5
    → input ≡ joined (declaration_piece ∷ open_piece ∷ id_piece id ∷ titled text ∷ updated_piece z ∷ []) ++ r5
unfolding alone ended behind moment updated_piece
up5 input r4 r5 id text z e f =
    step (declaration_piece ∷ open_piece ∷ id_piece id ∷ titled text ∷ []) (updated_piece z) input r4 r5 e f.split

pub is_moment : (input : List ℕ) (z : ℤ) (rest : List ℕ) → IsFound updated input z rest → IsStamp z
unfolding alone ended behind moment
is_moment input z rest f = f.lawful

pub stop6 : (input r5 after id text : List ℕ) (z : ℤ) (e : PartFault) (r : Result Opening PartFault) → IsFeedId id
    → IsAtomText text → IsStamp z
    → input ≡ joined (declaration_piece ∷ open_piece ∷ id_piece id ∷ titled text ∷ updated_piece z ∷ []) ++ r5
    → ReadsPiece author r5 (Err e) after → IsErrAnd r (λ s. s ≡ e) → ReadsOpening input r after
stop6 input r5 after id text z e r is_id is_title is_updated e5 s same =
    opening_stopped author input r5 after e r s same (refused_author input r5 id text z is_id is_title is_updated e5)

pub up6 : (input r5 r6 id text writer : List ℕ) (z : ℤ)
    → input ≡ joined (declaration_piece ∷ open_piece ∷ id_piece id ∷ titled text ∷ updated_piece z ∷ []) ++ r5
    → IsFound author r5 writer r6
    → input
    ≡ joined (declaration_piece ∷ open_piece ∷ id_piece id ∷ titled text ∷ updated_piece z ∷ authored writer ∷ [])
    ++ r6
unfolding alone ended behind content authored
up6 input r5 r6 id text writer z e f =
    step (declaration_piece ∷ open_piece ∷ id_piece id ∷ titled text ∷ updated_piece z ∷ []) (authored writer) input
    r5 r6 e f.split

pub stop7 : (input r6 after id text writer : List ℕ) (z : ℤ) (e : PartFault) (r : Result Opening PartFault)
    → IsFeedId id → IsAtomText text → IsAtomText writer → IsStamp z
    → input
    ≡ joined (declaration_piece ∷ open_piece ∷ id_piece id ∷ titled text ∷ updated_piece z ∷ authored writer ∷ [])
    ++ r6 → ReadsPiece own r6 (Err e) after → IsErrAnd r (λ s. s ≡ e) → ReadsOpening input r after
stop7 input r6 after id text writer z e r is_id is_title is_author is_updated e6 s same =
    opening_stopped own input r6 after e r s same
    (refused_own input r6 id text writer z is_id is_title is_author is_updated e6)

pub whole_opening : (input r6 r7 id text writer : List ℕ) (z : ℤ) (o : Own) → IsFeedId id → IsAtomText text
    → IsAtomText writer → IsStamp z
    → input
    ≡ joined (declaration_piece ∷ open_piece ∷ id_piece id ∷ titled text ∷ updated_piece z ∷ authored writer ∷ [])
    ++ r6 → IsFound own r6 o r7
    → IsOpeningRead (record {
      name = record { base = o.base; id = id; title = text; author = writer };
      kind =
          o.kind;
      updated = z;
    }) input r7
whole_opening input r6 r7 id text writer z o is_id is_title is_author is_updated e f = record {
  lawful =
      record {
        is_name = record { base = f.lawful.base; id = is_id; title = is_title; author = is_author };
        is_kind =
            f.lawful.kind;
        is_updated = is_updated;
      };
  split =
      step (declaration_piece ∷ open_piece ∷ id_piece id ∷ titled text ∷ updated_piece z ∷ authored writer ∷ [])
      (own_piece o) input r6 r7 e f.split
      ∙ ap (λ t. joined t ++ r7)
      (sym (opening-is (record { base = o.base; id = id; title = text; author = writer }) o.kind z));
}
