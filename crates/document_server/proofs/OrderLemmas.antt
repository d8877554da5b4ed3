-- The order of the lines of a session, and the device calls that they count.
use Rattle.std.proofs.Common.{◌≡◌, ◌⊎◌, inl, inr, refl, ap, ℕ, ◌+◌, ◌<◌, ◌≤◌, List, [], ◌∷◌, ◌++◌, length, All, arith}
use Rattle.std.proofs.Common.{length-append}
use Rattle.std.specs.Prelude.{Option, None, Some}
use Rattle.std.proofs.lemmas.List.Elements.{All-cons, All-nil, All-weaker}
use Rattle.atom_values.specs.Counts.{counter_limit}
use Rattle.feed_disk.specs.Disk.{DiskState}
use Rattle.feed_disk.specs.Raised.{raised}
use Rattle.feed_journal.specs.Log.{MakesSome}
use Rattle.feed_recovery.specs.Prepare.{commit_calls}
use Rattle.feed_recovery.specs.Store.{StoreValue, call_count}
use Rattle.document_server.specs.Answer.{Grows}
use Rattle.document_server.specs.Serving.{AreInOrder, Follows, version_after}
use Rattle.document_server.specs.declared.line.Line.{Line}

-- the version after one more line
pub version-last : (version : ℕ) (lines : List Line) (line : Line)
    → version_after version (lines ++ line ∷ []) ≡ line.version
version-last version [] line = refl
version-last version (first ∷ lines) line = version-last first.version lines line

-- lines in order, the last of which has this version and this number of calls
abbrev pub LeadTo : ℕ → ℕ → List Line → ℕ → ℕ → Type 0
LeadTo version calls [] last made = (version ≡ last) × (calls ≡ made)
LeadTo version calls (line ∷ lines) last made =
    Follows version calls line × LeadTo line.version line.calls lines last made

pub lead-more : (version calls : ℕ) (lines : List Line) (last made : ℕ) (line : Line)
    → LeadTo version calls lines last made → Follows last made line
    → LeadTo version calls (lines ++ line ∷ []) line.version line.calls
lead-more version calls [] last made line (same, also) follows = (rw (same, also) follows, (refl, refl))
lead-more version calls (first ∷ lines) last made line (before, lead) follows =
    (before, lead-more first.version first.calls lines last made line lead follows)

pub lead-in-order : (version calls : ℕ) (lines : List Line) (last made : ℕ) → LeadTo version calls lines last made
    → AreInOrder version calls lines
lead-in-order version calls [] last made lead = tt
lead-in-order version calls (line ∷ lines) last made (follows, lead) =
    (follows, lead-in-order line.version line.calls lines last made lead)

lead-later : (version calls : ℕ) (lines : List Line) (last made : ℕ) → LeadTo version calls lines last made
    → calls ≤ made
lead-later version calls [] last made (same, also) = omega arith
lead-later version calls (line ∷ lines) last made (follows, lead) =
    omega (arith, follows.later, lead-later line.version line.calls lines last made lead)

-- the calls of a line are from the first number of calls to the last
abbrev pub IsBetween : ℕ → ℕ → Line → Type 0
IsBetween calls made line = (calls ≤ line.calls) × (line.calls ≤ made)

pub lead-within : (version calls : ℕ) (lines : List Line) (last made : ℕ) → LeadTo version calls lines last made
    → All (IsBetween calls made) lines
lead-within version calls [] last made lead = All-nil (IsBetween calls made)
lead-within version calls (line ∷ lines) last made (follows, lead) =
    All-cons (IsBetween calls made) line lines
    (follows.later, lead-later line.version line.calls lines last made lead)
    (All-weaker (IsBetween line.calls made) (IsBetween calls made)
    (λ other within. (omega (arith, follows.later, within.0), within.1)) lines
    (lead-within line.version line.calls lines last made lead))

-- Device calls

pub raised-on : (clock then start before after number : ℕ) → then ≡ raised clock number → after ≡ raised before number
    → then < counter_limit → start + before ≡ clock → start + after ≡ then
raised-on clock then start before after number rises counts below counted = omega arith

-- below the greatest u64 the disk's clock and the store's count of calls rise together
pub clock-on : (s t : DiskState) (start before after : ℕ) → MakesSome s t before after → t.clock < counter_limit
    → start + before ≡ s.clock → start + after ≡ t.clock
clock-on s t start before after (inl (still, same)) below counted = omega arith
clock-on s t start before after (inr (number, makes)) below counted =
    raised-on s.clock t.clock start before after number makes.clock makes.calls below counted

raised-four : (clock then start before after number : ℕ) → 4 ≤ number → then ≡ raised clock number
    → after ≡ raised before number → then < counter_limit → start + before ≡ clock → before + 4 ≤ after
raised-four clock then start before after number some rises counts below counted = omega arith

follows-by : (old new before after : ℕ) (line : Line) → line.version ≡ new → line.calls ≡ after → before ≤ after
    → (new ≡ old) ⊎ ((new ≡ old + 1) × (before + 4 ≤ after)) → Follows old before line
follows-by old new before after line version calls later (inl same) = record {
  no_fewer = omega arith;
  one_more = omega arith;
  later = omega arith;
  grown = λ more. absurd (omega arith);
}
follows-by old new before after line version calls later (inr (one, four)) = record {
  no_fewer = omega arith;
  one_more = omega arith;
  later = omega arith;
  grown = λ more. omega arith;
}

-- the device calls of a commit
four-or-more : (seal : Option (List ℕ)) → 4 ≤ commit_calls seal
four-or-more None = omega arith
four-or-more (Some seal) = omega arith

grown-or-same : (s t : DiskState) (start : ℕ) (old new : StoreValue) → t.clock < counter_limit
    → start + call_count old ≡ s.clock → (new.history ≡ old.history) ⊎ Grows s t old new
    → (length new.history ≡ length old.history)
    ⊎ ((length new.history ≡ length old.history + 1) × (call_count old + 4 ≤ call_count new))
grown-or-same s t start old new below counted (inl same) = inl (ap length same)
grown-or-same s t start old new below counted (inr grows) =
    let one : length new.history ≡ length (old.history ++ grows.operation ∷ []) = ap length grows.history in
    inr (
      omega (arith, one, length-append old.history (grows.operation ∷ [])),
      raised-four s.clock t.clock start (call_count old) (call_count new) (commit_calls grows.seal)
          (four-or-more grows.seal) grows.calls.clock grows.calls.calls below counted,
    )

-- the line of a connection that was served follows those before it
pub line-follows : (s t : DiskState) (start : ℕ) (old new : StoreValue) (line : Line)
    → line.version ≡ length new.history → line.calls ≡ call_count new → s.clock ≤ t.clock
    → MakesSome s t (call_count old) (call_count new) → (new.history ≡ old.history) ⊎ Grows s t old new
    → t.clock < counter_limit → start + call_count old ≡ s.clock → Follows (length old.history) (call_count old) line
line-follows s t start old new line version calls later makes grows below counted =
    let on : start + call_count new ≡ t.clock =
    clock-on s t start (call_count old) (call_count new) makes below counted in
    follows-by (length old.history) (length new.history) (call_count old) (call_count new) line version calls
    (calls-later start (call_count old) (call_count new) s.clock t.clock counted on later)
    (grown-or-same s t start old new below counted grows)
  where
    calls-later : (start before after clock then : ℕ) → start + before ≡ clock → start + after ≡ then → clock ≤ then
        → before ≤ after
    calls-later start before after clock then counted on later = omega arith
