-- The area after a load.
use Rattle.std.proofs.Common.{◌≡◌, ◌≢◌, inl, inr, ℕ, ◌+◌, ◌-◌, ◌<◌, List, [], ◌++◌, length, get_or, drop, sym, ◌∙◌, ap}
use Rattle.std.proofs.Common.{◌⊎◌, min, take, Bool, subst, arith, add-zero, ⊎_elim, take-append-drop}
use Rattle.std.specs.Prelude.{IsTrue, ◌↔◌}
use Rattle.std.proofs.lemmas.Bool.{cases_lt}
use Rattle.std.proofs.lemmas.List.{drop_more, take_at}
use Rattle.feed_journal.specs.Limits.{payload_count_limit}
use Rattle.feed_journal.specs.Log.{LogValue, payloads_at, Follow, IsListed, IsScanned}
use Rattle.feed_journal.specs.Records.{records, size_of, frames, IsWhole, Begins, StartsWith, padded}
use Rattle.feed_journal.specs.Scan.{IsClosedAt}
use Rattle.feed_journal.specs.declared.extent.Extent.{Extent}
use Rattle.feed_journal.proofs.ExtentLemmas.{listed_size}
use Rattle.feed_journal.proofs.RecordLemmas.{length-frames, read_size, size-above}
use Rattle.feed_journal.proofs.SettleLemmas.{short_records, padded_long, padded_short, records-padded}

-- after the frames of a whole area is a closed gate
pub padded_closed : (bytes : List ℕ) → IsWhole bytes
    → get_or (padded bytes) (size_of (records (padded bytes)) - 1) 0 ≢ 1
padded_closed bytes whole = elim (cases_lt (length bytes) 6) [
  | inl short ↦
      let is = padded_short bytes short in
      let none : records (padded bytes) ≡ [] = records-padded bytes ∙ short_records bytes short in
      let first : get_or (padded bytes) (size_of (records (padded bytes)) - 1) 0 ≡ 0 =
      ap (λ (l : List (List ℕ)). get_or (padded bytes) (size_of l - 1) 0) none ∙ ap (λ (l : List ℕ). get_or l 0 0) is in
      λ open_gate. absurd (omega (arith, first, open_gate))
  | inr long ↦ ⊎_elim (λ short. absurd (omega (arith, short, long)))
      (λ closed. λ open_gate. closed (ap (λ (l : List ℕ). get_or l (size_of (records l) - 1) 0)
      (sym (padded_long bytes long)) ∙ open_gate)) whole
]

module _ (extents : List Extent) (end : ℕ) (content : List ℕ) (follow : Follow 0 extents (end + 1))
    (long : end < length content) (scanned : IsScanned extents end content) where
  pub size_is : end + 1 ≡ size_of (records content)
  size_is = sym (listed_size 0 extents (end + 1) content follow (omega arith))
      ∙ add-zero (size_of (payloads_at extents content)) ∙ ap size_of scanned.list

  pub begins_so : get_or content (size_of (records content) - 1) 0 ≢ 1 → Begins (records content) content
  begins_so closed =
      let there : size_of (records content) - 1 ≡ end = omega (arith, size_is) in
      record {
        gate = get_or content end 0;
        rest = drop (end + 1) content;
        closed = λ open_gate. closed (ap (λ (n : ℕ). get_or content n 0) there ∙ open_gate);
        is = scanned.begins ∙ ap (λ (l : List ℕ). frames (records content) ++ l) (drop_more content end 0 long);
      }

-- the log that a scan found, as the content is then
pub scan_listed : (log : LogValue) (extents : List Extent) (end : ℕ) (content now : List ℕ) → now ≡ content
    → log.extents ≡ extents → log.size ≡ end + 1 → Follow 0 extents (end + 1) → end < length content
    → IsScanned extents end content → IsListed log now × (log.size ≡ size_of (records now))
scan_listed log extents end content now same is size follow long scanned =
    subst (λ (l : List ℕ). IsListed log l × (log.size ≡ size_of (records l))) (sym same) (
      record {
        list = ap (λ (l : List Extent). payloads_at l content) is ∙ scanned.list;
        long = omega (arith, size, long);
      },
      size ∙ size_is extents end content follow long scanned,
    )

-- content that begins with the frames of its payloads, and isn't an open gate after them
pub starts_closed : (content : List ℕ) → 0 < length content → StartsWith (records content) content
    → get_or content (size_of (records content) - 1) 0 ≢ 1 → Begins (records content) content
starts_closed content some starts closed =
    let payloads = records content in
    let at = size_of payloads - 1 in
    let end : length (frames payloads) ≡ at = omega (arith, length-frames payloads) in
    let inside : at < length content = omega (
      arith,
      read_size (min (length content) payload_count_limit) content,
      some,
      size-above payloads,
    ) in
    record {
      gate = get_or content at 0;
      rest = drop (at + 1) content;
      closed = closed;
      is = sym (take-append-drop at content)
          ∙ ap (λ (l : List ℕ). l ++ drop at content)
          (ap (take at) starts.is ∙ take_at (frames payloads) starts.rest at end)
          ∙ ap (λ (l : List ℕ). frames payloads ++ l) (drop_more content at 0 inside);
    }

-- the byte after the frames tells whether the content is whole
pub closed_whole : (whole : Bool) (end : ℕ) (content : List ℕ) → end ≡ size_of (records content) - 1
    → (IsTrue whole ↔ IsClosedAt end content) → (IsTrue whole ↔ IsWhole content)
closed_whole whole end content is tells =
    subst (λ (e : ℕ). IsTrue whole ↔ ((length content < 6) ⊎ (get_or content e 0 ≢ 1))) is tells
