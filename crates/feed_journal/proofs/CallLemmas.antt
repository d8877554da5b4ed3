-- The moments and the number of device calls of an append.
use Rattle.std.proofs.Common.{◌≡◌, inl, inr, ℕ, ◌-◌, ◌<◌, ◌≤◌, ◌+◌, List, length, sym, ◌∙◌, ap, subst, arith}
use Rattle.feed_disk.specs.Disk.{DiskState, IsDisk, written, Torn, TornFrom}
use Rattle.feed_disk.specs.Moments.{AlwaysLeaves, NowOnly}
use Rattle.feed_disk.specs.declared.area.Area.{Area}
use Rattle.feed_disk.proofs.MomentLemmas.{always_weaker, always_joins}
use Rattle.feed_journal.specs.Limits.{payload_limit, payload_count_limit}
use Rattle.feed_journal.specs.Log.{MakesCalls, MakesUpTo, MakesSome}
use Rattle.feed_journal.specs.Records.{records, size_of, tail_of, Begins, IsStep}
use Rattle.feed_journal.proofs.RecordLemmas.{AreSmall, small_read}
use Rattle.feed_journal.proofs.AppendLemmas.{begins_step, torn_behind, Staged, written_staged, staged_step, torn_gate}

module _ (s t u : DiskState) (area : Area) (payload tail : List ℕ) (at : ℕ) (is_tail : tail ≡ tail_of payload)
    (short : length payload ≤ payload_limit) (is_at : at ≡ size_of (records (s.content area)))
    (few : length (records (s.content area)) < payload_count_limit)
    (start : NowOnly s area (Begins (records (s.content area)))) where
  abbrev list : List (List ℕ)
  list = records (s.content area)

  small : AreSmall list
  small = small_read _ (s.content area)

  -- until the first sync returns
  pub first_half : AlwaysLeaves s t area (TornFrom at (length tail) (s.image_now area))
      → AlwaysLeaves s t area (IsStep list payload)
  first_half run =
      always_weaker s t area (TornFrom at (length tail) (s.image_now area)) (IsStep list payload) (λ i from.
      begins_step list small (omega arith) payload i
      (torn_behind list small (omega arith) (length tail) from.0 i (start from.0 from.1)
      (subst (λ (a : ℕ). Torn a (length tail) from.0 i) is_at from.2))) run

  module _ {observable : Type 0} (disk : IsDisk observable s) (tells : observable)
      (content : t.content area ≡ written (s.content area) at tail)
      (certain : (i : List ℕ) → t.image_now area i → i ≡ t.content area) where
    is_staged : (d : List ℕ) → t.image_now area d → Staged list payload d
    is_staged d may =
        subst (Staged list payload) (sym (certain d may ∙ content
        ∙ ap (λ (a : ℕ). written (s.content area) a tail) is_at
        ∙ ap (written (s.content area) (size_of list)) is_tail))
        (written_staged list payload small few short (s.content area)
        (start (s.content area) (disk.content tells area)))

    -- from the first sync on
    pub second_half : AlwaysLeaves t u area (TornFrom (at - 1) 1 (t.image_now area))
        → AlwaysLeaves t u area (IsStep list payload)
    second_half run =
        always_weaker t u area (TornFrom (at - 1) 1 (t.image_now area)) (IsStep list payload) (λ i from.
        staged_step list payload small few short i
        (torn_gate list payload small few short from.0 i (is_staged from.0 from.1)
        (subst (λ (a : ℕ). Torn (a - 1) 1 from.0 i) is_at from.2))) run

    pub both_halves : AlwaysLeaves s t area (TornFrom at (length tail) (s.image_now area))
        → AlwaysLeaves t u area (TornFrom (at - 1) 1 (t.image_now area)) → AlwaysLeaves s u area (IsStep list payload)
    both_halves first second = always_joins s t u area (IsStep list payload) (first_half first) (second_half second)

pub calls_join : (s t u : DiskState) (a b c n most : ℕ) → MakesCalls s t a b n → MakesUpTo t u b c most
    → MakesUpTo s u a c (n + most)
calls_join s t u a b c n most first second = record {
  number = n + second.number;
  within = omega (arith, second.within);
  makes = record {
    clock = omega (arith, first.clock, second.makes.clock);
    calls = omega (arith, first.calls, second.makes.calls);
  };
}

pub calls_then : (s t u : DiskState) (a b c n : ℕ) → MakesCalls s t a b n → MakesSome t u b c
    → (m : ℕ) × MakesCalls s u a c m
calls_then s t u a b c n first (inl none) =
    (n, record { clock = omega (arith, first.clock, none.0); calls = omega (arith, first.calls, none.1) })
calls_then s t u a b c n first (inr some) = (
  n + some.0,
  record {
    clock = omega (arith, first.clock, some.1.clock);
    calls = omega (arith, first.calls, some.1.calls);
  },
)

pub calls_more : (s t u : DiskState) (a b c : ℕ) → MakesSome s t a b → MakesSome t u b c → MakesSome s u a c
calls_more s t u a b c (inl none) (inl still) = inl (still.0 ∙ none.0, still.1 ∙ none.1)
calls_more s t u a b c (inl none) (inr next) = inr (
  next.0,
  record {
    clock = omega (arith, next.1.clock, none.0);
    calls = omega (arith, next.1.calls, none.1);
  },
)
calls_more s t u a b c (inr some) next = inr (calls_then s t u a b c some.0 some.1 next)
