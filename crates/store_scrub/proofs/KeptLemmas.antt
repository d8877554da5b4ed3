-- The seals that a repair keeps.
use Rattle.std.proofs.Common.{◌≡◌, inl, inr, ℕ, zero, suc, ◌+◌, ◌-◌, ◌<◌, ◌≤◌, min, List, [], ◌∷◌, ◌++◌, length}
use Rattle.std.proofs.Common.{get_or, take, Some, None, refl, sym, ◌∙◌, ap, subst, arith, length-append}
use Rattle.std.proofs.Common.{length-take}
use Rattle.std.specs.Prelude.{slice_get}
use Rattle.std.proofs.Math.Seq.{take-suc}
use Rattle.std.proofs.lemmas.Bool.{cases_lt}
use Rattle.std.proofs.lemmas.List.{take_all, take-take}
use Rattle.std.proofs.lemmas.Option.{slice_get-get_or, slice_get_within}
use Rattle.feed_journal.specs.Records.{records, HasFirst}
use Rattle.feed_recovery.specs.Opening.{AreSeals, seal_of}
use Rattle.feed_recovery.specs.Stored.{seals_of}
use Rattle.feed_recovery.proofs.FaultLemmas.{some_same}
use Rattle.feed_recovery.proofs.SealListLemmas.{seals-push}
use Rattle.member_rules.specs.Head.{HeadValue}
use Rattle.member_rules.specs.Windows.{windows_of}
use Rattle.member_rules.specs.declared.operation.Op.{Op}
use Rattle.store_scrub.specs.Repair.{IsKeptCount}
use Rattle.store_scrub.specs.Survey.{CountsKept}

get_take : {T : Type 0} (xs : List T) (n k : ℕ) → k < n → slice_get (take n xs) k ≡ slice_get xs k
get_take xs zero k inside = absurd (omega arith)
get_take [] (suc n) k inside = refl
get_take (x ∷ xs) (suc n) zero inside = refl
get_take (x ∷ xs) (suc n) (suc k) inside = get_take xs n k (omega arith)

module _ (head : HeadValue) (history : List Op) where
  pub length-seals : (number : ℕ) → length (seals_of head history number) ≡ number
  length-seals zero = refl
  length-seals (suc number) =
      let next : number + 1 ≡ suc number = omega arith in
      length-append (seals_of head history number) (seal_of head history (suc number) ∷ [])
      ∙ ap (λ (n : ℕ). n + 1) (length-seals number) ∙ next

  pub seals-are : (number : ℕ) → AreSeals head history (seals_of head history number)
  seals-are zero n from_one within = absurd (omega (arith, from_one, within))
  seals-are (suc number) n from_one within =
      let next : suc number ≡ length (seals_of head history number) + 1 = omega (arith, length-seals number) in
      seals-push head history (seals_of head history number) (seal_of head history (suc number)) (seals-are number)
      (ap (seal_of head history) next) n from_one within

  -- the payloads are the first seals
  pub seals-taken : (payloads : List (List ℕ)) → AreSeals head history payloads → (number : ℕ)
      → number ≤ length payloads → take number payloads ≡ seals_of head history number
  seals-taken payloads are zero within = refl
  seals-taken payloads are (suc number) within =
      let seal = seal_of head history (suc number) in
      let back : suc number - 1 ≡ number = omega arith in
      let there : slice_get payloads number ≡ Some seal =
      subst (λ (n : ℕ). slice_get payloads n ≡ Some seal) back (are (suc number) (omega arith) within) in
      let inside : number < length payloads = omega arith in
      let read : slice_get payloads number ≡ Some (get_or payloads number seal) =
      slice_get-get_or payloads number seal inside in
      let is : get_or payloads number seal ≡ seal = cc in
      take-suc payloads number seal inside
      ∙ ap (λ (p : List ℕ). take number payloads ++ p ∷ []) is
      ∙ ap (λ (ps : List (List ℕ)). ps ++ seal ∷ []) (seals-taken payloads are number (omega arith))

  pub seals-all : (payloads : List (List ℕ)) (number : ℕ) → length payloads ≡ number → AreSeals head history payloads
      → payloads ≡ seals_of head history number
  seals-all payloads number count are =
      sym (take_all number payloads (omega (arith, count))) ∙ seals-taken payloads are number (omega (arith, count))

  take-seals : (few number : ℕ) → few ≤ number → take few (seals_of head history number) ≡ seals_of head history few
  take-seals few number fewer = seals-taken (seals_of head history number) (seals-are number) few
      (omega (arith, fewer, length-seals number))

  -- bytes with these seals first
  module _ (bytes : List ℕ) (number : ℕ) (first : HasFirst (seals_of head history number) bytes) where
    pub first-taken : take number (records bytes) ≡ seals_of head history number
    first-taken = subst (λ (n : ℕ). take n (records bytes) ≡ seals_of head history number) (length-seals number) first

    pub first-few : number ≤ length (records bytes)
    first-few = omega (arith, ap length first-taken, length-seals number, length-take number (records bytes))

    pub first-fewer : (few : ℕ) → few ≤ number → HasFirst (seals_of head history few) bytes
    first-fewer few fewer =
        subst (λ (n : ℕ). take n (records bytes) ≡ seals_of head history few) (sym (length-seals few))
        (sym (take-take few number (records bytes) fewer) ∙ ap (take few) first-taken ∙ take-seals few number fewer)

    first-are : AreSeals head history (take number (records bytes))
    first-are = subst (AreSeals head history) (sym first-taken) (seals-are number)

    pub first-least : (kept : ℕ) → number ≤ (windows_of head history).full
        → IsKeptCount head history (records bytes) kept → number ≤ kept
    first-least kept archived is_kept = is_kept.greatest number archived first-few first-are

  -- the seals that are kept
  pub kept-taken : (sealed : List (List ℕ)) (kept : ℕ) → IsKeptCount head history sealed kept
      → take kept sealed ≡ seals_of head history kept
  kept-taken sealed kept is =
      seals-all (take kept sealed) kept (omega (arith, length-take kept sealed, is.there)) is.right

  -- the number of those that are kept, by the first wrong seal
  pub kept-wrong : (index found kept : ℕ) → kept ≡ index - 1 → CountsKept head history (Some index) found kept
  kept-wrong index found kept is sealed count (within, wrong) =
      let inside : index - 1 < length sealed =
      slice_get_within sealed (index - 1) wrong.payload wrong.there in
      record {
        archived = omega (arith, is, within);
        there = omega (arith, is, inside);
        right = subst (λ (n : ℕ). AreSeals head history (take n sealed)) (sym is) wrong.before;
        greatest = λ number archived there right. elim (cases_lt kept number) [
          | inr least ↦ least
          | inl more ↦
              let in_taken : index - 1 < number = omega (arith, is, more) in
              let long : index ≤ length (take number sealed) =
              omega (arith, length-take number sealed, in_taken, inside, wrong.from_one) in
              absurd (wrong.differs (some_same wrong.payload (seal_of head history index)
              (sym wrong.there ∙ sym (get_take sealed number (index - 1) in_taken)
              ∙ right index wrong.from_one long)))
        ];
      }

  -- where no seal is wrong
  pub kept-right : (found kept : ℕ) → kept ≡ min found (windows_of head history).full
      → CountsKept head history None found kept
  kept-right found kept is sealed count right = record {
    archived = omega (arith, is);
    there = omega (arith, is, count);
    right = elim (cases_lt (windows_of head history).full (length sealed)) [
      | inl more ↦
          let same : kept ≡ (windows_of head history).full = omega (arith, is, count, more) in
          subst (λ (n : ℕ). AreSeals head history (take n sealed)) (sym same) right
      | inr few ↦
          let all : take (windows_of head history).full sealed ≡ take kept sealed =
          take_all (windows_of head history).full sealed few
          ∙ sym (take_all kept sealed (omega (arith, is, count, few))) in
          subst (AreSeals head history) all right
    ];
    greatest = λ number archived there _. omega (arith, is, count, archived, there);
  }

  -- there is no other number
  pub kept-one : (sealed : List (List ℕ)) (kept count : ℕ) → IsKeptCount head history sealed kept
      → IsKeptCount head history sealed count → kept ≡ count
  kept-one sealed kept count one two = omega (
    arith,
    two.greatest kept one.archived one.there one.right,
    one.greatest count two.archived two.there two.right,
  )
