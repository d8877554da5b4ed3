-- The store that `init` makes, and the disk before that.
use Rattle.std.proofs.Common.{◌≡◌, ◌≢◌, inl, inr, ℕ, ◌<◌, List, [], ◌∷◌, ◌++◌, length, sym, ◌∙◌, ap}
use Rattle.std.proofs.Common.{arith, refl}
use Rattle.std.proofs.lemmas.Option.{slice_get_within}
use Rattle.std.proofs.lemmas.List.Elements.{All-nil}
use Rattle.atom_writer.specs.Pieced.{text_of}
use Rattle.feed_disk.specs.Disk.{DiskState, IsDisk}
use Rattle.feed_disk.specs.Moments.{AlwaysLeaves, LeavesAlone}
use Rattle.feed_disk.specs.declared.area.Area.TheVariants.{Journal, Sealed}
use Rattle.feed_disk.proofs.MomentLemmas.{alone_leaves}
use Rattle.feed_journal.specs.Laws.{BegunAreWhole}
use Rattle.feed_journal.specs.Log.{LogValue, IsListed, payloads_at}
use Rattle.feed_journal.specs.Records.{records, Begins, IsStep, StandsFor}
use Rattle.feed_journal.specs.declared.extent.Extent.{Extent}
use Rattle.feed_journal.proofs.ExtentLemmas.{length-payloads}
use Rattle.feed_recovery.specs.Init.{HasNoPayload}
use Rattle.feed_recovery.specs.Opening.{Opens}
use Rattle.feed_recovery.specs.Settled.{AlwaysLeavesBoth, AreWhole, IsAtRest, IsInit, Settled, Unused}
use Rattle.feed_recovery.proofs.BothLemmas.{both_always}
use Rattle.member_rules.specs.Coding.{heads}
use Rattle.member_rules.specs.Head.{HeadValue, IsHead}
use Rattle.member_rules.specs.History.{IsLawful, IsSmall}
use Rattle.member_rules.specs.Laws.{HasSealed}
use Rattle.member_rules.specs.Operation.{IsOperation}
use Rattle.member_rules.specs.Windows.{windows_of}
use Rattle.member_rules.specs.declared.operation.Op.{Op}

-- a log with an extent lists an area with a payload
pub some_payload : (log : LogValue) (content : List ℕ) → IsListed log content → 0 < length log.extents
    → records content ≢ []
some_payload log content listed some none =
    omega (arith, some, length-payloads log.extents content, ap length listed.list, ap length none)

no_extents : (extents : List Extent) → (0 < length extents → ⊥) → extents ≡ []
no_extents [] none = refl
no_extents (extent ∷ extents) none = absurd (none (omega arith))

pub no_payload : (log : LogValue) (content : List ℕ) → IsListed log content → (0 < length log.extents → ⊥)
    → records content ≡ []
no_payload log content listed none =
    sym listed.list ∙ ap (λ (l : List Extent). payloads_at l content) (no_extents log.extents none)

pub none_lawful : (head : HeadValue) → IsLawful head []
none_lawful head = record {
  few = omega arith;
  following = λ k operation is. absurd (omega (arith, slice_get_within [] k operation is));
  small = All-nil (IsSmall head.name);
  operations = All-nil IsOperation;
}

-- a journal of the head alone opens to no operation
pub opens_first : (head : HeadValue) → IsHead head → HasSealed (windows_of head []) 0 → (journal sealed : List ℕ)
    → records journal ≡ text_of heads head ∷ [] → records sealed ≡ [] → Opens journal sealed head [] 0
opens_first head is_head windows journal sealed first none = record {
  is_journal = record { is_head = is_head; lawful = none_lawful head; is = first };
  are_seals = λ number one within. absurd (omega (arith, one, within, ap length none));
  number = ap length none;
  count = inr (omega (arith, windows.few));
}

-- the content of an unused disk is whole
pub unused_whole : {observable : Type 0} (s : DiskState) → IsDisk observable s → observable → Unused s → AreWhole s
unused_whole s disk tells unused =
    let here = unused (s.content Journal) (s.content Sealed) (disk.content tells Journal)
    (disk.content tells Sealed) in
    record { journal = here.journal_whole; sealed = here.sealed_whole }

-- a disk that is settled with a store has a payload
pub settled_has_payload : {observable : Type 0} (s : DiskState) (head : HeadValue) (history : List Op) (least : ℕ)
    → IsDisk observable s → observable → Settled s head history least → HasNoPayload s → ⊥
settled_has_payload s head history least disk tells settled none =
    let past = settled (s.content Journal) (s.content Sealed) (disk.content tells Journal)
    (disk.content tells Sealed) in
    omega (arith, ap length (sym none.journal ∙ past.opens.is_journal.is))

-- while the areas of an unused disk are loaded
pub loading_leaves : {observable : Type 0} (s t : DiskState) (head : HeadValue) → IsDisk observable s
    → AlwaysLeaves s t Journal (StandsFor (s.image_now Journal))
    → AlwaysLeaves s t Sealed (StandsFor (s.image_now Sealed)) → Unused s → AlwaysLeavesBoth s t (IsInit head)
loading_leaves s t head disk first second unused =
    both_always s t (StandsFor (s.image_now Journal)) (StandsFor (s.image_now Sealed)) (IsInit head) disk first second
    (λ i j is is'.
    let was = unused is.of is'.of is.among is'.among in
    record {
      journal_whole = is.whole was.journal_whole;
      sealed_whole = is'.whole was.sealed_whole;
      no_seals = is'.payloads ∙ was.no_seals;
      before_or_after = inl (is.payloads ∙ was.no_records);
    })

-- while the head is appended
pub heading_leaves : {observable : Type 0} → BegunAreWhole → (s t : DiskState) (head : HeadValue) → IsHead head
    → HasSealed (windows_of head []) 0 → IsDisk observable s → HasNoPayload s → IsAtRest s → LeavesAlone s t Sealed
    → AlwaysLeaves s t Journal (IsStep (records (s.content Journal)) (text_of heads head))
    → AlwaysLeavesBoth s t (IsInit head)
heading_leaves law s t head is_head windows disk none rests alone run =
    both_always s t (IsStep (records (s.content Journal)) (text_of heads head)) (Begins (records (s.content Sealed)))
    (IsInit head) disk run (alone_leaves s t Sealed (Begins (records (s.content Sealed))) rests.sealed alone)
    (λ i j step begins.
    let second = law (s.content Sealed) j begins in
    record {
      journal_whole = step.whole;
      sealed_whole = second.0;
      no_seals = second.1 ∙ none.sealed;
      before_or_after = elim step.payloads [
        | inl same ↦ inl (same ∙ none.journal)
        | inr added ↦ inr (opens_first head is_head windows i j
            (added ∙ ap (λ (l : List (List ℕ)). l ++ text_of heads head ∷ []) none.journal)
            (second.1 ∙ none.sealed))
      ];
    })
