-- The links of an archive, read one after another.
use Rattle.std.proofs.Common.{◌≡◌, ℕ, ◌+◌, ◌-◌, ◌≤◌, List, [], ◌∷◌, ◌++◌, ℤ, Result, Ok, Err, IsErrAnd, refl, sym, ap, ◌∙◌, subst, arith, codes, append_assoc}
use Rattle.chain_links.specs.declared.address.Address.TheVariants.{Feed, Archive}
use Rattle.atom_writer.specs.declared.doc.FeedName.{FeedName}
use Rattle.atom_writer.specs.declared.doc.Kind.TheVariants.{Subscription, Archive as Sealed}
use Rattle.atom_writer.specs.Pieces.{joined, link_piece, current_pieces, prev_pieces, next_pieces}
use Rattle.atom_writer.proofs.PieceLemmas.{joined-cons, joined-one, joined-none, prev_none}
use Rattle.atom_grammar.specs.FeedParts.{ReadsPiece, IsKind, at_base, prev_piece, prev_link}
use Rattle.atom_grammar.specs.Parts.{Part, IsFound, IsAbsent, literal}
use Rattle.atom_grammar.specs.Stages.{IsRefused, IsOpening, ReadsLinks, ReadsPrev, ReadsPrevLink, opening_pieces, links_pieces}
use Rattle.atom_grammar.specs.declared.part_fault.PartFault.{PartFault}
use Rattle.atom_grammar.specs.declared.part_fault.PartFault.TheVariants.{Mismatch, NoMemory}
use Rattle.atom_grammar.proofs.PairLemmas.{prev_pieces-some}
use Rattle.atom_grammar.proofs.RefusedLemmas.{refused_link, links-first, links-later}
use Rattle.atom_grammar.proofs.StuckLemmas.{start, step}

abbrev pub current_link : List ℕ → List ℕ
current_link base = link_piece (codes "current") (at_base base) Feed

abbrev pub next_link : List ℕ → ℕ → List ℕ
next_link base number = link_piece (codes "next-archive") (at_base base) (Archive (number + 1))

abbrev pub mark : List ℕ
mark = codes "<fh:archive/>\n"

links-is : (name : FeedName) (number prev : ℕ)
    → links_pieces name (Sealed number) prev
    ≡ current_link name.base ∷ (prev_pieces name prev ++ next_link name.base number ∷ mark ∷ [])
unfolding links_pieces current_pieces next_pieces link_piece
links-is name number prev = refl

-- the pieces up to the link to the archive after
before_next : FeedName → ℕ → List (List ℕ)
before_next name prev = current_link name.base ∷ prev_pieces name prev

module _ (name : FeedName) (number : ℕ) where
  abbrev one_less : ℕ
  one_less = number - 1

  pub no_current : (updated : ℤ) → IsOpening name (Sealed number) updated → (input : List ℕ)
      → IsAbsent (literal (current_link name.base)) input
      → IsRefused (opening_pieces name (Sealed number) updated) input input
  no_current updated opening input none =
      refused_link name number updated opening [] (current_link name.base)
      (prev_pieces name one_less ++ next_link name.base number ∷ mark ∷ []) (links-is name number one_less) input
      input (start input) none

  pub no_prev : (updated : ℤ) → IsOpening name (Sealed number) updated → (input rest : List ℕ)
      → input ≡ current_link name.base ++ rest → 1 ≤ one_less
      → IsAbsent (literal (prev_piece name.base one_less)) rest
      → IsRefused (opening_pieces name (Sealed number) updated) input rest
  no_prev updated opening input rest split some none =
      let tail = next_link name.base number ∷ mark ∷ [] in
      refused_link name number updated opening (current_link name.base ∷ []) (prev_piece name.base one_less) tail
      (links-is name number one_less
      ∙ ap (λ z. current_link name.base ∷ (z ++ tail)) (prev_pieces-some name one_less some))
      input rest (step [] (current_link name.base) input input rest (start input) split) none

  up_to_next : (input middle rest : List ℕ) → input ≡ current_link name.base ++ middle
      → middle ≡ joined (prev_pieces name one_less) ++ rest → input ≡ joined (before_next name one_less) ++ rest
  unfolding before_next
  up_to_next input middle rest first second =
      first ∙ ap (λ z. current_link name.base ++ z) second
      ∙ sym (append_assoc (current_link name.base) (joined (prev_pieces name one_less)) rest)
      ∙ ap (λ z. z ++ rest) (sym (joined-cons (current_link name.base) (prev_pieces name one_less)))

  pub no_next : (updated : ℤ) → IsOpening name (Sealed number) updated → (input middle rest : List ℕ)
      → input ≡ current_link name.base ++ middle → middle ≡ joined (prev_pieces name one_less) ++ rest
      → IsAbsent (literal (next_link name.base number)) rest
      → IsRefused (opening_pieces name (Sealed number) updated) input rest
  unfolding before_next
  no_next updated opening input middle rest first second none =
      refused_link name number updated opening (before_next name one_less) (next_link name.base number) (mark ∷ [])
      (links-is name number one_less)
      input rest (up_to_next input middle rest first second) none

  with_next : (input middle rest left : List ℕ) → input ≡ current_link name.base ++ middle
      → middle ≡ joined (prev_pieces name one_less) ++ rest → rest ≡ next_link name.base number ++ left
      → input ≡ joined (before_next name one_less ++ next_link name.base number ∷ []) ++ left
  with_next input middle rest left first second third =
      step (before_next name one_less) (next_link name.base number) input rest left
      (up_to_next input middle rest first second) third

  links_two : links_pieces name (Sealed number) one_less
      ≡ (before_next name one_less ++ next_link name.base number ∷ []) ++ mark ∷ []
  unfolding before_next
  links_two =
      links-is name number one_less
      ∙ sym (append_assoc (before_next name one_less) (next_link name.base number ∷ []) (mark ∷ []))

  pub no_mark : (updated : ℤ) → IsOpening name (Sealed number) updated → (input middle rest left : List ℕ)
      → input ≡ current_link name.base ++ middle → middle ≡ joined (prev_pieces name one_less) ++ rest
      → rest ≡ next_link name.base number ++ left → IsAbsent (literal mark) left
      → IsRefused (opening_pieces name (Sealed number) updated) input left
  no_mark updated opening input middle rest left first second third none =
      refused_link name number updated opening (before_next name one_less ++ next_link name.base number ∷ []) mark []
      links_two
      input left (with_next input middle rest left first second third) none

  pub all_links : IsKind (Sealed number) → (input middle rest left after : List ℕ)
      → input ≡ current_link name.base ++ middle → middle ≡ joined (prev_pieces name one_less) ++ rest
      → rest ≡ next_link name.base number ++ left → left ≡ mark ++ after
      → ReadsPrev name (Sealed number) input one_less after
  all_links is input middle rest left after first second third fourth = record {
    small = omega (arith, is.1);
    is = refl;
    split =
        step (before_next name one_less ++ next_link name.base number ∷ []) mark input left after
        (with_next input middle rest left first second third) fourth ∙ ap (λ z. joined z ++ after) (sym links_two);
  }

-- a link that isn't there
pub links_stopped : {A : Type 0} (name : FeedName) (number : ℕ) (part : Part A) (input before after : List ℕ)
    (e : PartFault) (r : Result ℕ PartFault) → ReadsPiece part before (Err e) after → IsErrAnd r (λ s. s ≡ e)
    → (IsAbsent part before → (updated : ℤ) → IsOpening name (Sealed number) updated
    → IsRefused (opening_pieces name (Sealed number) updated) input before)
    → ReadsLinks name (Sealed number) input r after
links_stopped name number part input before after e (Ok x) s same f = absurd same
links_stopped name number part input before after Mismatch (Err x) s same f =
    let P : PartFault → Type 0 = λ stop. ReadsLinks name (Sealed number) input (Err stop) after in
    subst P (sym same)
    (λ updated opening. subst (λ z. IsRefused (opening_pieces name (Sealed number) updated) input z) (sym s.0)
    (f s.1 updated opening))
links_stopped name number part input before after NoMemory (Err x) s same f =
    let P : PartFault → Type 0 = λ stop. ReadsLinks name (Sealed number) input (Err stop) after in
    subst P (sym same) tt

pub prev_stopped : (name : FeedName) (number : ℕ) (input before after : List ℕ) (e : PartFault)
    (r : Result ℕ PartFault) → input ≡ current_link name.base ++ before
    → ReadsPrevLink name (number - 1) before (Err e) after → IsErrAnd r (λ s. s ≡ e)
    → ReadsLinks name (Sealed number) input r after
prev_stopped name number input before after e (Ok x) split s same = absurd same
prev_stopped name number input before after Mismatch (Err x) split s same =
    let P : PartFault → Type 0 = λ stop. ReadsLinks name (Sealed number) input (Err stop) after in
    subst P (sym same)
    (λ updated opening. subst (λ z. IsRefused (opening_pieces name (Sealed number) updated) input z) (sym s.0)
    (no_prev name number updated opening input before split s.1 s.2))
prev_stopped name number input before after NoMemory (Err x) split s same =
    let P : PartFault → Type 0 = λ stop. ReadsLinks name (Sealed number) input (Err stop) after in
    subst P (sym same) tt

pub literal_split : (bytes input : List ℕ) (value : Unit {0}) (rest : List ℕ)
    → IsFound (literal bytes) input value rest → input ≡ bytes ++ rest
unfolding literal
literal_split bytes input value rest f = f.split

-- the link of an archive to the one before it, as it is read
pub prev_link_read : (name : FeedName) (prev : ℕ) (before after : List ℕ) (r : Result (Unit {0}) PartFault) → 1 ≤ prev
    → ReadsPiece (literal (prev_piece name.base prev)) before r after → ReadsPrevLink name prev before r after
unfolding literal
prev_link_read name prev before after (Ok x) some f =
    f.split
    ∙ ap (λ z. z ++ after) (sym (joined-one (prev_piece name.base prev))
    ∙ ap joined (sym (prev_pieces-some name prev some)))
prev_link_read name prev before after (Err Mismatch) some f = (f.0, some, f.1)
prev_link_read name prev before after (Err NoMemory) some f = tt

pub prev_link_none : (name : FeedName) (prev : ℕ) (before : List ℕ) → prev ≡ 0
    → before ≡ joined (prev_pieces name prev) ++ before
prev_link_none name prev before none = ap (λ (z : List ℕ). z ++ before) (sym (prev_none name prev none))

-- the link of a subscription document to the archive before it, where it has one
pub prev_there : (name : FeedName) (before after : List ℕ) (prev : ℕ)
    → IsFound (prev_link name.base) before prev after → ReadsPrev name Subscription before prev after
prev_there name before after prev f = record {
  small = f.lawful.1;
  is = λ none. let some = f.lawful.0 in absurd (omega arith);
  split =
      f.split
      ∙ ap (λ z. z ++ after) (sym (joined-one (prev_piece name.base prev))
      ∙ ap joined (sym (links-later name prev f.lawful.0)));
}

pub prev_not_there : (name : FeedName) (before after : List ℕ) → after ≡ before
    → IsAbsent (prev_link name.base) before → ReadsPrev name Subscription before 0 after
prev_not_there name before after e none = record {
  small = omega arith;
  is = λ _. subst (λ z. IsAbsent (prev_link name.base) z) (sym e) none;
  split = sym e ∙ ap (λ (z : List ℕ). z ++ after) (sym joined-none ∙ ap joined (sym (links-first name)));
}

pub prev_unlike : (name : FeedName) (before after : List ℕ) (e : PartFault) → e ≡ Mismatch
    → ReadsPiece (prev_link name.base) before (Err e) after → ReadsPrev name Subscription before 0 after
prev_unlike name before after Mismatch is s = prev_not_there name before after s.0 s.1
prev_unlike name before after NoMemory is s = absurd cc
