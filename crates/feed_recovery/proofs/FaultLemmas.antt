-- A store that opens has no fault in its payloads.
use Rattle.std.proofs.Common.{◌≡◌, ◌⊎◌, inl, inr, ⊎_elim, ℕ, zero, suc, ◌-◌, ◌≤◌, List, [], ◌∷◌, map, length}
use Rattle.std.proofs.Common.{take, Option, Some, None, All, refl, sym, ◌∙◌, ap, subst, arith}
use Rattle.std.specs.Prelude.{slice_get, option_map}
use Rattle.std.proofs.lemmas.List.{take-map}
use Rattle.std.proofs.lemmas.Option.{slice_get_within, slice_get-map, get_or_from_slice_get}
use Rattle.atom_writer.specs.Pieced.{text_of}
use Rattle.atom_writer.proofs.PiecedLemmas.{one_reading}
use Rattle.feed_journal.specs.Records.{records}
use Rattle.feed_recovery.specs.Faults.{IsBadHead, IsBadOperation, IsFirstBad, IsLoadFault}
use Rattle.feed_recovery.specs.Opening.{IsJournal, IsSealCount, Opens, journal_of, seal_of}
use Rattle.feed_recovery.specs.declared.fault.LoadFault.{LoadFault}
use Rattle.feed_recovery.specs.declared.fault.LoadFault.TheVariants.{NotInit, BadRecord, SealCount, BadSeal}
use Rattle.feed_recovery.specs.declared.fault.LoadFault.TheVariants.{DiskFault, NoMemory}
use Rattle.member_rules.specs.Coding.{heads, operations}
use Rattle.member_rules.specs.Head.{HeadValue}
use Rattle.member_rules.specs.History.{IsLawful, IsSmall, MayFollow}
use Rattle.member_rules.specs.Operation.{IsOperation}
use Rattle.member_rules.specs.declared.operation.Op.{Op}
use Rattle.member_rules.proofs.HeadLemmas.{heads_compared}
use Rattle.member_rules.proofs.OperationLemmas.{operations_compared}
use Rattle.member_rules.proofs.ServedLemmas.{prefix-lawful}

first_same : {T : Type 0} (x y : T) (xs ys : List T) → x ∷ xs ≡ y ∷ ys → (x ≡ y) × (xs ≡ ys)
first_same x y xs ys same = (cc, cc)

pub some_same : {T : Type 0} (x y : T) → Some x ≡ Some y → x ≡ y
some_same x y same = cc

texts_one : (history left : List Op) → All IsOperation history → All IsOperation left
    → map (text_of operations) history ≡ map (text_of operations) left → history ≡ left
texts_one [] [] of also same = refl
texts_one [] (operation ∷ left) of also same = absurd (cc)
texts_one (operation ∷ history) [] of also same = absurd (cc)
texts_one (operation ∷ history) (other ∷ left) of also same =
    let both = first_same (text_of operations operation) (text_of operations other)
    (map (text_of operations) history) (map (text_of operations) left) same in
    let here = one_reading operations operations_compared operation other (of 0 operation (omega arith))
    (also 0 other (omega arith)) both.0 in
    let later = texts_one history left (λ k d inside. of (suc k) d (omega arith))
    (λ k d inside. also (suc k) d (omega arith)) both.1 in
    ap (λ (o : Op). o ∷ history) here ∙ ap (λ (l : List Op). other ∷ l) later

-- the payloads of a journal are those of one head and one history
pub journal_one : (payloads : List (List ℕ)) (head other : HeadValue) (history left : List Op)
    → IsJournal payloads head history → IsJournal payloads other left → (head ≡ other) × (history ≡ left)
journal_one payloads head other history left is also =
    let both = first_same (text_of heads head) (text_of heads other) (map (text_of operations) history)
    (map (text_of operations) left) (sym is.is ∙ also.is) in (
      one_reading heads heads_compared head other is.is_head also.is_head both.0,
      texts_one history left is.lawful.operations also.lawful.operations both.1,
    )

-- the first payloads of a journal are that of the first operations
pub journal_take : (payloads : List (List ℕ)) (head : HeadValue) (history : List Op) (count : ℕ)
    → IsJournal payloads head history → IsJournal (take (suc count) payloads) head (take count history)
journal_take payloads head history count is = record {
  is_head = is.is_head;
  lawful = prefix-lawful head history count is.lawful;
  is = ap (take (suc count)) is.is
      ∙ ap (λ (l : List (List ℕ)). text_of heads head ∷ l) (take-map (text_of operations) count history);
}

-- the operation of a payload
record IsThere (history : List Op) (index : ℕ) (payload : List ℕ) : Type 0 where
  operation : Op
  there : slice_get history index ≡ Some operation
  text : payload ≡ text_of operations operation

operation_there : (found : Option Op) (history : List Op) (index : ℕ) (payload : List ℕ) →
    slice_get history index ≡ found
    → option_map (text_of operations) found ≡ Some payload → IsThere history index payload
operation_there None history index payload there text = absurd (cc)
operation_there (Some operation) history index payload there text = record {
  operation = operation;
  there = there;
  text = sym (some_same (text_of operations operation) payload text);
}

payload_there : (payloads : List (List ℕ)) (head : HeadValue) (history : List Op) (index : ℕ) (payload : List ℕ)
    → IsJournal payloads head history → slice_get payloads (suc index) ≡ Some payload → IsThere history index payload
payload_there payloads head history index payload is there =
    operation_there (slice_get history index) history index payload refl
    (sym (slice_get-map (text_of operations) history index)
    ∙ ap (λ (l : List (List ℕ)). slice_get l (suc index)) (sym is.is) ∙ there)

element : {T : Type 0} (P : T → Type 0) (xs : List T) (k : ℕ) (x : T) → All P xs → slice_get xs k ≡ Some x → P x
element P xs k x all there = subst P (get_or_from_slice_get xs k x x there) (all k x (slice_get_within xs k x there))

good_head : (payloads : List (List ℕ)) (head : HeadValue) (history : List Op) (at : ℕ)
    → IsJournal payloads head history → ¬ IsBadHead payloads at
good_head payloads head history at is bad =
    bad.none head is.is_head (sym (some_same (text_of heads head) bad.payload
    (ap (λ (l : List (List ℕ)). slice_get l 0) (sym is.is) ∙ bad.there)))

good_operation : (head : HeadValue) (history : List Op) (index : ℕ) (payload : List ℕ) (at : ℕ) → IsLawful head history
    → IsThere history index payload → ¬ IsBadOperation head (take index history) payload at
good_operation head history index payload at lawful has (inl (none, place)) =
    none has.operation (element IsOperation history index has.operation lawful.operations has.there) has.text
good_operation head history index payload at lawful has (inr (unlawful, end)) =
    let same : unlawful.operation ≡ has.operation =
    one_reading operations operations_compared unlawful.operation has.operation unlawful.rules
    (element IsOperation history index has.operation lawful.operations has.there) (sym unlawful.bytes ∙ has.text) in
    ⊎_elim (λ not. not (subst (MayFollow head.created (take index history)) (sym same)
    (lawful.following index has.operation has.there)))
    (λ not. not (subst (IsSmall head.name) (sym same)
    (element (IsSmall head.name) history index has.operation lawful.small has.there))) unlawful.cause

good_records : (payloads : List (List ℕ)) (head : HeadValue) (history : List Op) (index at : ℕ)
    → IsJournal payloads head history → 1 ≤ index → ¬ IsFirstBad payloads index at
good_records payloads head history zero at is from_one bad = absurd (omega arith)
good_records payloads head history (suc index) at is from_one bad =
    let same = journal_one (take (suc index) payloads) bad.head head bad.history (take index history) bad.before
    (journal_take payloads head history index is) in
    good_operation head history index bad.payload at is.lawful
    (payload_there payloads head history index bad.payload is bad.there)
    (subst (λ (h : HeadValue). IsBadOperation h (take index history) bad.payload at) same.0
    (subst (λ (l : List Op). IsBadOperation bad.head l bad.payload at) same.1 bad.bad))

-- a store that opens has no fault, but a failed call and out of memory
pub opens_without : (journal sealed : List ℕ) (head : HeadValue) (history : List Op) (seals : ℕ)
    → Opens journal sealed head history seals → (fault : LoadFault) → IsLoadFault (records journal)
    (records sealed) fault
    → (fault ≡ DiskFault) ⊎ (fault ≡ NoMemory)
opens_without journal sealed head history seals opens NotInit none =
    absurd (nonempty (sym opens.is_journal.is ∙ none))
  where
    nonempty : journal_of head history ≡ [] → ⊥
    nonempty same = cc
opens_without journal sealed head history seals opens (BadRecord area index at) (is_area, inl (zeroth, bad)) =
    absurd (good_head (records journal) head history at opens.is_journal bad)
opens_without journal sealed head history seals opens (BadRecord area index at) (is_area, inr (later, bad)) =
    absurd (good_records (records journal) head history index at opens.is_journal later bad)
opens_without journal sealed head history seals opens (SealCount count found) bad =
    let same = journal_one (records journal) bad.head head bad.history history bad.is_journal opens.is_journal in
    let is : found ≡ seals = bad.sealed_number ∙ opens.number in
    let counted : IsSealCount head history found = subst (IsSealCount head history) (sym is) opens.count in
    absurd (bad.bad (subst (λ (h : HeadValue). IsSealCount h bad.history found) (sym same.0)
    (subst (λ (l : List Op). IsSealCount head l found) (sym same.1) counted)))
opens_without journal sealed head history seals opens (BadSeal index) bad =
    let same = journal_one (records journal) bad.head head bad.history history bad.is_journal opens.is_journal in
    let inside : index ≤ length (records sealed) =
    omega (
      arith,
      bad.wrong.from_one,
      slice_get_within (records sealed) (index - 1) bad.wrong.payload
          bad.wrong.there,
    ) in
    let right : bad.wrong.payload ≡ seal_of head history index =
    some_same bad.wrong.payload (seal_of head history index)
    (sym bad.wrong.there ∙ opens.are_seals index bad.wrong.from_one inside) in
    absurd (bad.wrong.differs (right ∙ ap (λ (h : HeadValue). seal_of h history index) (sym same.0)
    ∙ ap (λ (l : List Op). seal_of bad.head l index) (sym same.1)))
opens_without journal sealed head history seals opens DiskFault bad = inl refl
opens_without journal sealed head history seals opens NoMemory bad = inr refl
