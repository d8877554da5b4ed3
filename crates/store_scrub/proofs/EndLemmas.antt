-- A repair of the same two areas ends in one way.
use Rattle.std.proofs.Common.{◌≡◌, inl, inr, ℕ, suc, ◌+◌, ◌-◌, ◌<◌, ◌≤◌, List, length, sym, ◌∙◌, ap, subst}
use Rattle.std.proofs.Common.{arith}
use Rattle.std.proofs.lemmas.Bool.{cases_lt}
use Rattle.feed_journal.specs.Limits.{header_length}
use Rattle.feed_journal.specs.Records.{size_of}
use Rattle.feed_journal.proofs.RecordLemmas.{size-push}
use Rattle.feed_recovery.specs.Opening.{IsJournal, seal_of}
use Rattle.feed_recovery.specs.Stored.{seals_of}
use Rattle.feed_recovery.proofs.FaultLemmas.{journal_one}
use Rattle.member_rules.specs.Head.{HeadValue}
use Rattle.member_rules.specs.Windows.{windows_of}
use Rattle.member_rules.specs.declared.operation.Op.{Op}
use Rattle.store_scrub.specs.Repair.{Fit, HaveOneEnd, IsKeptCount, IsRepaired, IsTooLong}
use Rattle.store_scrub.proofs.KeptLemmas.{kept-one}

-- after this number of seals the next one has no room, in the feed with this head and history
record Stops (head : HeadValue) (history : List Op) (sealed : List (List ℕ)) (number size needed capacity : ℕ)
    : Type 0 where
  kept : ℕ
  is_kept : IsKeptCount head history sealed kept
  from : kept ≤ number
  missing : number < (windows_of head history).sealed
  fit : Fit head history kept number
  size_is : size ≡ size_of (seals_of head history number)
  needed_is : needed ≡ length (seal_of head history (number + 1)) + header_length
  capacity_is : capacity ≡ head.capacity
  past : capacity < size + needed

-- or all seals were made
record Ends (head : HeadValue) (history : List Op) (sealed : List (List ℕ)) (kept made : ℕ) : Type 0 where
  is_kept : IsKeptCount head history sealed kept
  is_made : made ≡ (windows_of head history).sealed - kept
  fit : Fit head history kept (windows_of head history).sealed

module _ (head : HeadValue) (history : List Op) (sealed : List (List ℕ)) where
  size-next : (number : ℕ)
      → size_of (seals_of head history (number + 1))
      ≡ size_of (seals_of head history number) + length (seal_of head history (number + 1)) + 5
  size-next number =
      let next : number + 1 ≡ suc number = omega arith in
      let pushed = size-push (seals_of head history number) (seal_of head history (suc number)) in
      ap (λ (n : ℕ). size_of (seals_of head history n)) next ∙ pushed
      ∙ ap (λ (n : ℕ). size_of (seals_of head history number) + length (seal_of head history n) + 5) (sym next)

  -- the next seal fits, where more of them do
  never : (number size needed capacity : ℕ) → Stops head history sealed number size needed capacity → (kept most : ℕ)
      → IsKeptCount head history sealed kept → Fit head history kept most → number < most → ⊥
  never number size needed capacity stops kept most is_kept fit more =
      let same = kept-one head history sealed stops.kept kept stops.is_kept is_kept in
      omega (
        arith,
        stops.past,
        stops.size_is,
        stops.needed_is,
        stops.capacity_is,
        size-next number,
        fit (number + 1) (omega (arith, stops.from, same)) (omega (arith, more)),
      )

  stop-once : (one other size needed capacity : ℕ) (size' needed' capacity' : ℕ)
      → Stops head history sealed one size needed capacity → Stops head history sealed other size' needed' capacity'
      → (size ≡ size') × (needed ≡ needed') × (capacity ≡ capacity')
  stop-once one other size needed capacity size' needed' capacity' a b =
      let same : one ≡ other = elim (cases_lt one other) [
        | inl less ↦ absurd (never one size needed capacity a b.kept other b.is_kept b.fit less)
        | inr more ↦ elim (cases_lt other one) [
          | inl less ↦ absurd (never other size' needed' capacity' b a.kept one a.is_kept a.fit less)
          | inr less ↦ omega (arith, more, less)
        ]
      ] in (
        a.size_is ∙ ap (λ (n : ℕ). size_of (seals_of head history n)) same ∙ sym b.size_is,
        a.needed_is ∙ ap (λ (n : ℕ). length (seal_of head history (n + 1)) + header_length) same ∙ sym b.needed_is,
        a.capacity_is ∙ sym b.capacity_is,
      )

  end-once : (kept made count number : ℕ) → Ends head history sealed kept made → Ends head history sealed count number
      → (kept ≡ count) × (made ≡ number)
  end-once kept made count number a b =
      let same = kept-one head history sealed kept count a.is_kept b.is_kept in
      (same, a.is_made ∙ ap (λ (n : ℕ). (windows_of head history).sealed - n) same ∙ sym b.is_made)

-- the same of the two histories of one journal, which are one
module _ (journal sealed : List (List ℕ)) where
  module _ (head other : HeadValue) (history left : List Op) (is : IsJournal journal head history)
      (also : IsJournal journal other left) (P : HeadValue → List Op → Type 0) where
    as-first : P other left → P head history
    as-first holds =
        let same = journal_one journal head other history left is also in
        subst (λ (h : HeadValue). P h history) (sym same.0) (subst (P other) (sym same.1) holds)

  ends : (kept made : ℕ) (r : IsRepaired journal sealed kept made) → Ends r.head r.history sealed kept made
  ends kept made r = record { is_kept = r.is_kept; is_made = r.is_made; fit = r.fit }

  stops : (number size needed capacity : ℕ) (r : IsTooLong journal sealed number size needed capacity)
      → Stops r.head r.history sealed number size needed capacity
  stops number size needed capacity r = record {
    kept = r.kept;
    is_kept = r.is_kept;
    from = r.from;
    missing = r.missing;
    fit = r.fit;
    size_is = r.size_is;
    needed_is = r.needed_is;
    capacity_is = r.capacity_is;
    past = r.past;
  }

  pub one-end : HaveOneEnd journal sealed
  one-end = record {
    repaired = λ kept made count number a b.
        end-once a.head a.history sealed kept made count number (ends kept made a)
        (as-first a.head b.head a.history b.history a.is_journal b.is_journal
        (λ h l. Ends h l sealed count number) (ends count number b));
    full = λ one other size needed capacity size' needed' capacity' a b.
        stop-once a.head a.history sealed one other size needed capacity size' needed' capacity'
        (stops one size needed capacity a)
        (as-first a.head b.head a.history b.history a.is_journal b.is_journal
        (λ h l. Stops h l sealed other size' needed' capacity') (stops other size' needed' capacity' b));
    apart = λ kept made number size needed capacity a b.
        let long = as-first a.head b.head a.history b.history a.is_journal b.is_journal
        (λ (h : HeadValue) (l : List Op). Stops h l sealed number size needed capacity)
        (stops number size needed capacity b) in
        never a.head a.history sealed number size needed capacity long kept (windows_of a.head a.history).sealed
        a.is_kept a.fit long.missing;
  }
