-- The moments of `settle_area`.
use Rattle.std.proofs.Common.{◌≡◌, inl, inr, ℕ, ◌<◌, ◌≤◌, min, leb, List, [], ◌∷◌, length, drop, refl, sym, ◌∙◌, ap}
use Rattle.std.proofs.Common.{arith, length-drop}
use Rattle.std.proofs.lemmas.Bool.{cases_lt, cond-true, cond-false, le-leb, lt-leb}
use Rattle.feed_disk.specs.Disk.{DiskState, TornFrom}
use Rattle.feed_disk.specs.Moments.{AlwaysLeaves}
use Rattle.feed_disk.specs.declared.area.Area.{Area}
use Rattle.feed_disk.proofs.MomentLemmas.{always_weaker, always_joins}
use Rattle.feed_journal.specs.Limits.{payload_count_limit}
use Rattle.feed_journal.specs.Records.{records, StandsFor, padded}
use Rattle.feed_journal.proofs.RecordLemmas.{short_none, reads_none}

pub short_records : (bytes : List ℕ) → length bytes < 6 → records bytes ≡ []
short_records bytes short = reads_none (min (length bytes) payload_count_limit) bytes (short_none bytes short)

pub padded_long : (bytes : List ℕ) → 6 ≤ length bytes → padded bytes ≡ bytes
padded_long bytes long = cond-true (leb 6 (length bytes)) bytes (0 ∷ drop 1 bytes) (le-leb 6 (length bytes) long)

pub padded_short : (bytes : List ℕ) → length bytes < 6 → padded bytes ≡ 0 ∷ drop 1 bytes
padded_short bytes short = cond-false (leb 6 (length bytes)) bytes (0 ∷ drop 1 bytes) (lt-leb 6 (length bytes) short)

pub records-padded : (bytes : List ℕ) → records (padded bytes) ≡ records bytes
records-padded bytes = elim (cases_lt (length bytes) 6) [
  | inl short ↦ ap records (padded_short bytes short)
      ∙ short_records (0 ∷ drop 1 bytes) (omega (arith, length-drop 1 bytes)) ∙ sym (short_records bytes short)
  | inr long ↦ ap records (padded_long bytes long)
]

-- an image is its own image
pub stands_same : (s t : DiskState) (area : Area) → AlwaysLeaves s t area (s.image_now area)
    → AlwaysLeaves s t area (StandsFor (s.image_now area))
stands_same s t area run = always_weaker s t area (s.image_now area) (StandsFor (s.image_now area))
    (λ i may. record { of = i; among = may; payloads = refl; whole = λ whole. whole }) run

-- a torn gate at the start of a short area
pub stands_padded : (s t u : DiskState) (area : Area) → AlwaysLeaves s t area (s.image_now area)
    → ((i : List ℕ) → t.image_now area i → i ≡ t.content area) → length (t.content area) < 6
    → AlwaysLeaves t u area (TornFrom 0 1 (t.image_now area)) → AlwaysLeaves s u area (StandsFor (s.image_now area))
stands_padded s t u area first certain short second =
    always_joins s t u area (StandsFor (s.image_now area)) (stands_same s t area first)
    (always_weaker t u area (TornFrom 0 1 (t.image_now area)) (StandsFor (s.image_now area)) (λ i from.
    let was : length from.0 < 6 = omega (arith, short, ap length (certain from.0 from.1)) in
    let still : length i < 6 = omega (arith, was, from.2.no_longer) in
    record {
      of = from.0;
      among = first.now from.0 from.1;
      payloads = short_records i still ∙ sym (short_records from.0 was);
      whole = λ _. inl still;
    }) second)
