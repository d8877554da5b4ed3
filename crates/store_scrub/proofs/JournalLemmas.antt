-- The journal of a history has no bad record.
use Rattle.std.proofs.Common.{◌≡◌, ◌≢◌, inl, inr, ⊎_elim, ℕ, zero, suc, ◌≤◌, List, [], take, Option, Some}
use Rattle.std.proofs.Common.{None, All, refl, sym, ◌∙◌, ap, subst, arith}
use Rattle.std.specs.Prelude.{slice_get, option_map}
use Rattle.std.proofs.lemmas.Option.{slice_get_within, slice_get-map, get_or_from_slice_get}
use Rattle.atom_writer.specs.Pieced.{text_of}
use Rattle.atom_writer.proofs.PiecedLemmas.{one_reading}
use Rattle.feed_recovery.specs.Faults.{IsBadOperation, IsBadRecord, IsFirstBad}
use Rattle.feed_recovery.specs.Opening.{IsJournal, journal_of}
use Rattle.feed_recovery.proofs.FaultLemmas.{journal_one, journal_take, some_same}
use Rattle.member_rules.specs.Coding.{heads, operations}
use Rattle.member_rules.specs.Head.{HeadValue}
use Rattle.member_rules.specs.History.{IsLawful, IsSmall, MayFollow}
use Rattle.member_rules.specs.Operation.{IsOperation}
use Rattle.member_rules.specs.declared.operation.Op.{Op}
use Rattle.member_rules.proofs.OperationLemmas.{operations_compared}
use Rattle.store_scrub.specs.Survey.{IsSurveyFault}
use Rattle.store_scrub.specs.declared.fault.RepairFault.{RepairFault}
use Rattle.store_scrub.specs.declared.fault.RepairFault.TheVariants.{NotInit, BadRecord, Full, DiskFault, NoMemory}
use Rattle.feed_disk.specs.declared.area.Area.{Area}

-- the operation of a payload
record IsThere (history : List Op) (index : ℕ) (payload : List ℕ) : Type 0 where
  operation : Op
  there : slice_get history index ≡ Some operation
  text : payload ≡ text_of operations operation

operation_there : (found : Option Op) (history : List Op) (index : ℕ) (payload : List ℕ) →
    slice_get history index ≡ found
    → option_map (text_of operations) found ≡ Some payload → IsThere history index payload
operation_there None history index payload there text = absurd (cc)
operation_there (Some operation) history index payload there text = record {
  operation = operation;
  there = there;
  text = sym (some_same (text_of operations operation) payload text);
}

payload_there : (payloads : List (List ℕ)) (head : HeadValue) (history : List Op) (index : ℕ) (payload : List ℕ)
    → IsJournal payloads head history → slice_get payloads (suc index) ≡ Some payload → IsThere history index payload
payload_there payloads head history index payload is there =
    operation_there (slice_get history index) history index payload refl
    (sym (slice_get-map (text_of operations) history index)
    ∙ ap (λ (l : List (List ℕ)). slice_get l (suc index)) (sym is.is) ∙ there)

element : {T : Type 0} (P : T → Type 0) (xs : List T) (k : ℕ) (x : T) → All P xs → slice_get xs k ≡ Some x → P x
element P xs k x all there = subst P (get_or_from_slice_get xs k x x there) (all k x (slice_get_within xs k x there))

good_operation : (head : HeadValue) (history : List Op) (index : ℕ) (payload : List ℕ) (at : ℕ) → IsLawful head history
    → IsThere history index payload → ¬ IsBadOperation head (take index history) payload at
good_operation head history index payload at lawful has (inl (none, place)) =
    none has.operation (element IsOperation history index has.operation lawful.operations has.there) has.text
good_operation head history index payload at lawful has (inr (unlawful, end)) =
    let same : unlawful.operation ≡ has.operation =
    one_reading operations operations_compared unlawful.operation has.operation unlawful.rules
    (element IsOperation history index has.operation lawful.operations has.there) (sym unlawful.bytes ∙ has.text) in
    ⊎_elim (λ not. not (subst (MayFollow head.created (take index history)) (sym same)
    (lawful.following index has.operation has.there)))
    (λ not. not (subst (IsSmall head.name) (sym same)
    (element (IsSmall head.name) history index has.operation lawful.small has.there))) unlawful.cause

good_records : (payloads : List (List ℕ)) (head : HeadValue) (history : List Op) (index at : ℕ)
    → IsJournal payloads head history → 1 ≤ index → ¬ IsFirstBad payloads index at
good_records payloads head history zero at is from_one bad = absurd (omega arith)
good_records payloads head history (suc index) at is from_one bad =
    let same = journal_one (take (suc index) payloads) bad.head head bad.history (take index history) bad.before
    (journal_take payloads head history index is) in
    good_operation head history index bad.payload at is.lawful
    (payload_there payloads head history index bad.payload is bad.there)
    (subst (λ (h : HeadValue). IsBadOperation h (take index history) bad.payload at) same.0
    (subst (λ (l : List Op). IsBadOperation bad.head l bad.payload at) same.1 bad.bad))

no_bad-record : (payloads : List (List ℕ)) (head : HeadValue) (history : List Op) (index at : ℕ)
    → IsJournal payloads head history → ¬ IsBadRecord payloads index at
no_bad-record payloads head history index at is (inl (zeroth, bad)) =
    bad.none head is.is_head (sym (some_same (text_of heads head) bad.payload
    (ap (λ (l : List (List ℕ)). slice_get l 0) (sym is.is) ∙ bad.there)))
no_bad-record payloads head history index at is (inr (later, bad)) =
    good_records payloads head history index at is later bad

some-payload : (head : HeadValue) (history : List Op) → journal_of head history ≢ []
some-payload head history same = cc

-- the first pass doesn't refuse it
pub survey-only : (payloads : List (List ℕ)) (head : HeadValue) (history : List Op) (fault : RepairFault)
    → IsJournal payloads head history → IsSurveyFault payloads fault
    → (fault ≢ NotInit) × ((area : Area) (index at : ℕ) → fault ≢ BadRecord area index at)
survey-only payloads head history NotInit is why = absurd (some-payload head history (sym is.is ∙ why))
survey-only payloads head history (BadRecord area index at) is why =
    absurd (no_bad-record payloads head history index at is why.1)
survey-only payloads head history (Full size needed capacity) is why = absurd why
survey-only payloads head history DiskFault is why = (λ same. cc, λ area index at same. cc)
survey-only payloads head history NoMemory is why = (λ same. cc, λ area index at same. cc)
