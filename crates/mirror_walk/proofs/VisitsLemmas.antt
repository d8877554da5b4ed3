-- The visits of a walk, up to its end.
use Rattle.std.proofs.Common.{◌≡◌, ◌≢◌, inl, inr, ℕ, ◌+◌, List, [], ◌∷◌, ◌++◌, Option, Some, None, Ok, Err}
use Rattle.std.proofs.Common.{Result, refl, sym, ap, subst, ◌∙◌, map, append_assoc, append-nil, length-append}
use Rattle.std.proofs.Common.{arith}
use Rattle.std.proofs.lemmas.List.{map-append}
use Rattle.chain_links.specs.Address.{printed}
use Rattle.chain_links.specs.declared.address.Address.{Address}
use Rattle.chain_links.specs.declared.address.Address.TheVariants.{Feed}
use Rattle.mirror_walk.specs.declared.answer.Accepted.{Accepted}
use Rattle.mirror_walk.specs.declared.answer.Accepted.TheVariants.{Taken, Known, Stale}
use Rattle.mirror_walk.specs.declared.answer.Offered.{Offered}
use Rattle.mirror_walk.specs.declared.walk.Refusal.{Refusal}
use Rattle.mirror_walk.specs.declared.walk.Tally.{Tally}
use Rattle.mirror_walk.specs.declared.walk.Visit.{Visit}
use Rattle.mirror_walk.specs.declared.walk.Visit.TheVariants as visits
use Rattle.mirror_walk.specs.declared.walk.Visits.{Visits}
use Rattle.mirror_walk.specs.declared.walk.WalkFault.{WalkFault}
use Rattle.mirror_walk.specs.declared.walk.WalkFault.TheVariants as faults
use Rattle.mirror_walk.specs.Holding.{KeptValue, first_missing}
use Rattle.mirror_walk.specs.Visit.{CountsFaults, HasAsked, HasVisited, IsVisit, IsVisitsResult, counted_answer, tally_of}
use Rattle.mirror_walk.specs.Walk.{EndsAt, HasRefusal, IsAnswered, WalkEnding, WalkSetting}
use Rattle.std.specs.Prelude.{IsErrAnd}
use Rattle.mirror_walk.specs.Walk.WalkEnding.{nothing_wanted, not_there, refused, fetch_failed, filled}
use Rattle.mirror_walk.specs.Walk.WalkEnding.{cut_short, disk_failed}
use Rattle.mirror_walk.proofs.PassedLemmas.{counts-passed}
use Rattle.mirror_walk.proofs.WalkRunLemmas.{Reaches, reaches-more, tally-more, walks-at, walks-before}

-- the visits so far: `now` is held, and `address` is the next one
pub record IsSoFar (setting : WalkSetting) (kept now : List KeptValue) (address : Address)
    (before after : List (List ℕ))
    (tally : Tally) : Type 0 where
  pub asked : List Address
  pub accepted : List Accepted
  pub reaches : Reaches setting kept (Some Feed) asked accepted now (Some address)
  pub addresses : after ≡ before ++ map (printed setting.base) asked
  pub counted : tally ≡ tally_of asked accepted

-- the numbers with one more address
abbrev pub one_asked : Tally → Tally
one_asked tally = record tally { asked = tally.asked + 1 }

-- a tally before the first address
pub no-tally : (tally : Tally) → tally.asked ≡ 0 → tally.taken ≡ 0 → tally.known ≡ 0 → tally.stale ≡ 0
    → tally_of [] [] ≡ tally
no-tally tally asked taken known stale =
    let made = λ (a t k s : ℕ). let m : Tally = record { asked = a; taken = t; known = k; stale = s } in m in
    sym (ap (λ (a : ℕ). made a tally.taken tally.known tally.stale) asked
    ∙ ap (λ (t : ℕ). made 0 t tally.known tally.stale) taken
    ∙ ap (λ (k : ℕ). made 0 0 k tally.stale) known
    ∙ ap (λ (s : ℕ). made 0 0 0 s) stale)

-- the number of answers
abbrev pub sum_of : Tally → ℕ
sum_of tally = tally.taken + tally.known + tally.stale

pub counted-sums : (tally : Tally) (answer : Accepted) → ((counted_answer tally answer).asked ≡ tally.asked)
    × (sum_of (counted_answer tally answer) ≡ sum_of tally + 1)
counted-sums tally Taken = (refl, omega arith)
counted-sums tally Known = (refl, omega arith)
counted-sums tally Stale = (refl, omega arith)

unfoldable pub visits-begin : (setting : WalkSetting) (kept : List KeptValue) (before : List (List ℕ))
    → IsSoFar setting kept kept Feed before before (tally_of [] [])
visits-begin setting kept before = record {
  asked = [];
  accepted = [];
  reaches = (refl, refl);
  addresses = sym (append-nil before);
  counted = refl;
}

module _ (setting : WalkSetting) (kept now : List KeptValue) (address : Address)
    (before after : List (List ℕ))
    (tally : Tally) (so_far : IsSoFar setting kept now address before after tally) where
  abbrev pub longer : List Address
  longer = so_far.asked ++ address ∷ []

  -- the addresses after one more
  pub addresses-more : (later : List (List ℕ)) → later ≡ after ++ printed setting.base address ∷ []
      → later ≡ before ++ map (printed setting.base) longer
  addresses-more later e =
      e
      ∙ ap (λ (l : List (List ℕ)). l ++ printed setting.base address ∷ []) so_far.addresses
      ∙ append_assoc before (map (printed setting.base) so_far.asked) (printed setting.base address ∷ [])
      ∙ ap (λ (l : List (List ℕ)). before ++ l)
      (sym (map-append (printed setting.base) so_far.asked (address ∷ [])))

  asked-more : one_asked tally ≡ tally_of longer so_far.accepted
  asked-more =
      ap one_asked so_far.counted
      ∙ ap (λ (n : ℕ). record (tally_of so_far.asked so_far.accepted) { asked = n })
      (sym (length-append so_far.asked (address ∷ [])))

  module _ (held : List KeptValue) (answer : Accepted) (answered : IsAnswered setting now address (Ok answer)
      held)
      (later : List (List ℕ)) (is : later ≡ after ++ printed setting.base address ∷ []) where
    -- one more accepted document
    unfoldable pub visits-more : (next : Address) → first_missing held ≡ Some next
        → IsSoFar setting kept held next before later (counted_answer (one_asked tally) answer)
    visits-more next e = record {
      asked = longer;
      accepted = so_far.accepted ++ answer ∷ [];
      reaches = subst (Reaches setting kept (Some Feed) longer (so_far.accepted ++ answer ∷ []) held) e
          (reaches-more setting now so_far.asked so_far.accepted kept held (Some Feed) address answer
          so_far.reaches
          answered);
      addresses = addresses-more later is;
      counted = ap (λ (t : Tally). counted_answer (one_asked t) answer) so_far.counted
          ∙ sym (tally-more so_far.asked so_far.accepted address answer);
    }

    -- nothing is missing after it
    pub visits-done : first_missing held ≡ None
        → HasVisited setting kept held before later
        (Ok record { tally = counted_answer (one_asked tally) answer; refused = None })
    visits-done e = record {
      asked = longer;
      accepted = so_far.accepted ++ answer ∷ [];
      held = held;
      ending = nothing_wanted;
      walks = walks-before setting held longer (so_far.accepted ++ answer ∷ []) kept (Some Feed)
          (first_missing held)
          nothing_wanted
          (reaches-more setting now so_far.asked so_far.accepted kept held (Some Feed) address answer
          so_far.reaches
          answered) e;
      addresses = addresses-more later is;
      left = λ works. refl;
      result = (
        ap (λ (t : Tally). counted_answer (one_asked t) answer) so_far.counted
            ∙ sym (tally-more so_far.asked so_far.accepted address answer),
        refl,
      );
    }

  -- the walk ends at this address without a fault
  ends-here : (ending : WalkEnding) (refusal : Option Refusal) (held : List KeptValue) (later : List (List ℕ))
      → held ≡ now → EndsAt setting now address ending → later ≡ after ++ printed setting.base address ∷ []
      → HasRefusal longer ending refusal
      → HasVisited setting kept held before later (Ok record { tally = one_asked tally; refused = refusal })
  ends-here ending refusal held later same ends is has = record {
    asked = longer;
    accepted = so_far.accepted;
    held = now;
    ending = ending;
    walks = walks-at setting now so_far.asked so_far.accepted kept (Some Feed) address ending so_far.reaches
        ends;
    addresses = addresses-more later is;
    left = λ works. same;
    result = (asked-more, has);
  }

  pub ends-nowhere : (held : List KeptValue) (later : List (List ℕ))
      → IsVisit setting now address held (Ok visits.NotThere) → later ≡ after ++ printed setting.base address
      ∷ []
      → HasVisited setting kept held before later (Ok record { tally = one_asked tally; refused = None })
  ends-nowhere held later (same, ends) is = ends-here not_there None held later same ends is refl

  pub ends-refused : (why : Offered) (held : List KeptValue) (later : List (List ℕ))
      → IsVisit setting now address held (Ok (visits.Refused why))
      → later ≡ after ++ printed setting.base address ∷ [] → HasVisited setting kept held before later
      (Ok record { tally = one_asked tally; refused = Some record { address = address; why = why } })
  ends-refused why held later (same, ends) is =
      ends-here (refused why) (Some record { address = address; why = why }) held later same ends is
      record { before = so_far.asked; address = address; last = refl; is = refl }

  -- the walk ends at this address by a fault
  faults-here : (ending : WalkEnding) (fault : WalkFault) (held : List KeptValue) (later : List (List ℕ))
      → (let result : Result Visits WalkFault = Err fault in result ≢ Err faults.DiskFault → held ≡ now)
      → EndsAt setting now address ending → later ≡ after ++ printed setting.base address ∷ []
      → IsVisitsResult longer so_far.accepted ending (Err fault)
      → HasVisited setting kept held before later (Err fault)
  faults-here ending fault held later same ends is result = record {
    asked = longer;
    accepted = so_far.accepted;
    held = now;
    ending = ending;
    walks = walks-at setting now so_far.asked so_far.accepted kept (Some Feed) address ending so_far.reaches
        ends;
    addresses = addresses-more later is;
    left = same;
    result = result;
  }

  pub ends-fault : (fault : WalkFault) (held : List KeptValue) (later : List (List ℕ))
      → IsVisit setting now address held (Err fault)
      → (let result : Result Visit WalkFault = Err fault in HasAsked after later
      (printed setting.base address) result)
      → HasVisited setting kept held before later (Err fault)
  ends-fault faults.FetchFault held later same is =
      faults-here fetch_failed faults.FetchFault held later (λ works. same) tt is refl
  ends-fault (faults.Full size needed capacity) held later (same, ends) is =
      faults-here (filled size needed capacity) (faults.Full size needed capacity) held later (λ works. same)
      ends is
      refl
  ends-fault faults.DiskFault held later visit is =
      faults-here disk_failed faults.DiskFault held later (λ works. absurd (works refl)) visit is refl
  ends-fault faults.NoMemory held later same (inr is) =
      faults-here cut_short faults.NoMemory held later (λ works. same) tt is refl
  ends-fault faults.NoMemory held later same (inl is) = record {
    asked = so_far.asked;
    accepted = so_far.accepted;
    held = now;
    ending = cut_short;
    walks = walks-before setting now so_far.asked so_far.accepted kept (Some Feed) (Some address) cut_short
        so_far.reaches tt;
    addresses = is ∙ so_far.addresses;
    left = λ works. same;
    result = refl;
  }

-- the counts of faults of a result that passes a fault on
pub counts-again : {T U : Type 0} (disk disk' source source' : ℕ) (result : Result U WalkFault) (fault : WalkFault)
    → IsErrAnd result (λ given. given ≡ fault)
    → CountsFaults disk disk' source source' (let given : Result T WalkFault = Err fault in given)
    → CountsFaults disk disk' source source' result
counts-again disk disk' source source' result fault passed counts = record {
  disk_counts = counts-passed disk disk' result fault faults.DiskFault passed counts.disk_counts;
  source_counts = counts-passed source source' result fault faults.FetchFault passed counts.source_counts;
}
