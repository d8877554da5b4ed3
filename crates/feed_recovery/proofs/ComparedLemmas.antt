-- The seals of a load, each compared with the archive of a window that fills.
use Rattle.std.proofs.Common.{◌≡◌, ◌≢◌, ◌⊎◌, inl, inr, true, false, ℕ, zero, suc, ◌+◌, ◌-◌, ◌<◌, ◌≤◌, List, [], ◌∷◌}
use Rattle.std.proofs.Common.{◌++◌, length, take, Option, Some, None, refl, sym, ◌∙◌, ap, subst, arith, length-take}
use Rattle.std.specs.Prelude.{slice_get}
use Rattle.std.proofs.lemmas.Bool.{cases_lt}
use Rattle.std.proofs.lemmas.List.{take_all}
use Rattle.archive_sealer.specs.Window.{IsFull}
use Rattle.feed_recovery.specs.Loading.{AreCompared, IsSameSeal}
use Rattle.feed_recovery.specs.Opening.{AreSeals, IsSealCount, seal_of}
use Rattle.feed_recovery.proofs.SealListLemmas.{seal-stays, seals-stay}
use Rattle.member_rules.specs.Head.{HeadValue, IsHead}
use Rattle.member_rules.specs.Windows.{windows_of}
use Rattle.member_rules.specs.declared.operation.Op.{Op}
use Rattle.member_rules.proofs.CutLemmas.{windows-in_turn, windows-sealed}
use Rattle.member_rules.proofs.ServedLemmas.{archive-stays}

get_take : {T : Type 0} (xs : List T) (n k : ℕ) → k < n → slice_get (take n xs) k ≡ slice_get xs k
get_take xs zero k inside = absurd (omega arith)
get_take [] (suc n) k inside = refl
get_take (x ∷ xs) (suc n) zero inside = refl
get_take (x ∷ xs) (suc n) (suc k) inside = get_take xs n k (omega arith)

-- the first seals, with one more
seals-more : (head : HeadValue) (history : List Op) (payloads : List (List ℕ)) (index : ℕ)
    → AreSeals head history (take index payloads) → slice_get payloads index ≡ Some (seal_of head history (index + 1))
    → AreSeals head history (take (index + 1) payloads)
seals-more head history payloads index before here number from_one within =
    let inside : number - 1 < index + 1 = omega (arith, within, from_one, length-take (index + 1) payloads) in
    get_take payloads (index + 1) (number - 1) inside ∙ elim (cases_lt index number) [
      | inl last ↦
          let is : index + 1 ≡ number = omega (arith, last, inside) in
          let place : index ≡ number - 1 = omega (arith, is) in
          subst (λ (k : ℕ). slice_get payloads k ≡ Some (seal_of head history number)) place
          (subst (λ (k : ℕ). slice_get payloads index ≡ Some (seal_of head history k)) is here)
      | inr earlier ↦
          sym (get_take payloads index (number - 1) (omega (arith, earlier, from_one)))
          ∙ before number from_one
          (omega (arith, earlier, within, length-take (index + 1) payloads, length-take index payloads))
    ]

-- before the first operation no window is full
pub compared-begin : (head : HeadValue) (payloads : List (List ℕ)) → IsHead head → AreCompared head [] payloads None
compared-begin head payloads is_head number from_one within =
    absurd (omega (
      arith,
      from_one,
      within,
      length-take (windows_of head []).full payloads,
      (windows-sealed head [] is_head).few,
    ))

-- after one more operation
module _ (head : HeadValue) (history after : List Op) (operation : Op) (is : after ≡ history ++ operation ∷ [])
    (payloads : List (List ℕ)) (is_head : IsHead head) where
  -- the windows that were full are sealed
  all-sealed : (windows_of head after).sealed ≡ (windows_of head history).full
  all-sealed = ap (λ (l : List Op). (windows_of head l).sealed) is
      ∙ (windows-in_turn head history operation is_head).full

  more-full : (windows_of head history).full ≤ (windows_of head after).full
  more-full = omega (arith, all-sealed, (windows-sealed head after is_head).full)

  seals-still : (count : ℕ) → count ≤ (windows_of head history).full → AreSeals head history (take count payloads)
      → AreSeals head after (take count payloads)
  seals-still count within are = subst (λ (l : List Op). AreSeals head l (take count payloads)) (sym is)
      (seals-stay archive-stays head history operation (take count payloads)
      (omega (arith, within, length-take count payloads)) are)

  full-still : AreSeals head history (take (windows_of head history).full payloads)
      → AreSeals head after (take (windows_of head history).full payloads)
  full-still = seals-still (windows_of head history).full (omega arith)

  -- no seal of a full window is left to be compared
  take-same : (¬ IsFull head after) ⊎ (length payloads ≤ (windows_of head after).sealed)
      → take (windows_of head history).full payloads ≡ take (windows_of head after).full payloads
  take-same (inl partial) = elim (cases_lt (windows_of head history).full (windows_of head after).full) [
    | inl more ↦
        let within = windows-sealed head after is_head in
        absurd (partial (omega (arith, more, all-sealed, within.all_but_one)))
    | inr none ↦
        let same : (windows_of head history).full ≡ (windows_of head after).full = omega (arith, none, more-full) in
        ap (λ (n : ℕ). take n payloads) same
  ]
  take-same (inr few) =
      take_all (windows_of head history).full payloads (omega (arith, few, all-sealed))
      ∙ sym (take_all (windows_of head after).full payloads (omega (arith, few, all-sealed, more-full)))

  -- a wrong seal stays the first one
  pub compared-wrong : (number : ℕ) → AreCompared head history payloads (Some number)
      → AreCompared head after payloads (Some number)
  compared-wrong number (within, wrong) = (
    omega (arith, within, more-full),
    record {
      from_one = wrong.from_one;
      before = seals-still (number - 1) (omega (arith, within)) wrong.before;
      payload = wrong.payload;
      there = wrong.there;
      differs = λ same. wrong.differs (same ∙ ap (λ (l : List Op). seal_of head l number) is
          ∙ sym (seal-stays archive-stays head history operation number within));
    },
  )

  pub compared-still : (wrong : Option ℕ)
      → (wrong ≢ None) ⊎ ((¬ IsFull head after) ⊎ (length payloads ≤ (windows_of head after).sealed))
      → AreCompared head history payloads wrong → AreCompared head after payloads wrong
  compared-still (Some number) why compared = compared-wrong number compared
  compared-still None (inl some) compared = absurd (some refl)
  compared-still None (inr none) compared = subst (AreSeals head after) (take-same none) (full-still compared)

  -- the seal of the window that the operation filled is right
  pub compared-same : IsFull head after → AreCompared head history payloads None
      → IsSameSeal head after payloads ((windows_of head after).sealed + 1) true → AreCompared head after payloads None
  compared-same full compared same =
      let index = (windows_of head history).full in
      let next : (windows_of head after).sealed + 1 ≡ index + 1 = omega (arith, all-sealed) in
      let last : index + 1 ≡ (windows_of head after).full = omega (arith, full, all-sealed) in
      let place : (windows_of head after).sealed + 1 - 1 ≡ index = omega (arith, all-sealed) in
      let there : slice_get payloads index ≡ Some (seal_of head after (index + 1)) =
      subst (λ (k : ℕ). slice_get payloads k ≡ Some same.payload) place same.there
      ∙ ap (λ (l : List ℕ). Some l) (same.exact.0 refl)
      ∙ ap (λ (k : ℕ). Some (seal_of head after k)) next in
      subst (λ (k : ℕ). AreSeals head after (take k payloads)) last
      (seals-more head after payloads index (full-still compared) there)

  -- or wrong
  pub compared-other : IsFull head after → AreCompared head history payloads None
      → IsSameSeal head after payloads ((windows_of head after).sealed + 1) false
      → AreCompared head after payloads (Some ((windows_of head after).sealed + 1))
  compared-other full compared same =
      let place : (windows_of head history).full ≡ (windows_of head after).sealed + 1 - 1 = omega (arith, all-sealed) in (
        omega (arith, full),
        record {
          from_one = omega arith;
          before = subst (λ (k : ℕ). AreSeals head after (take k payloads)) place (full-still compared);
          payload = same.payload;
          there = same.there;
          differs = λ is. never (same.exact.1 is);
        },
      )
    where
      never : false ≡ true → ⊥
      never is = cc

-- at the end each seal was compared, where there are as many as there may be
pub compared-all : (head : HeadValue) (history : List Op) (payloads : List (List ℕ)) → IsHead head
    → IsSealCount head history (length payloads) → AreCompared head history payloads None
    → AreSeals head history payloads
compared-all head history payloads is_head counted compared =
    subst (AreSeals head history) (take_all (windows_of head history).full payloads (within counted)) compared
  where
    within : IsSealCount head history (length payloads) → length payloads ≤ (windows_of head history).full
    within (inl sealed) = omega (arith, sealed, (windows-sealed head history is_head).full)
    within (inr full) = omega (arith, full)

-- a number of seals that is neither that of the sealed windows, nor that of the full ones where one isn't sealed
pub not-counted : (head : HeadValue) (history : List Op) (found : ℕ) → IsHead head
    → found ≢ (windows_of head history).sealed
    → (IsFull head history → found ≢ (windows_of head history).sealed + 1) → ¬ IsSealCount head history found
not-counted head history found is_head other not (inl sealed) = other sealed
not-counted head history found is_head other not (inr full) =
    let within = windows-sealed head history is_head in
    elim (cases_lt (windows_of head history).sealed (windows_of head history).full) [
      | inl more ↦
          let is : IsFull head history = omega (arith, more, within.all_but_one) in
          not is (omega (arith, full, is))
      | inr none ↦ other (omega (arith, full, none, within.full))
    ]
