-- The entry that an operation's bytes set.
use Rattle.std.proofs.Common.{◌≡◌, ◌⊎◌, inl, inr, ⊎_elim, ℕ, zero, suc, ◌-◌, ◌<◌, ◌≤◌, List, [], ◌∷◌, Some, Ok, Err}
use Rattle.std.proofs.Common.{Result, sym, ◌∙◌, ap, ℤ, Global, Vec, Option, None, length, subst, arith}
use Rattle.std.specs.Prelude.{slice_get, option_map, is_some, IfOk, OnOk}
use Rattle.std.proofs.lemmas.Option.{slice_get_within, slice_get-map, get_or_from_slice_get}
use Rattle.atom_values.specs.Entry.{EntryValue, IsEntry}
use Rattle.atom_writer.specs.Pieced.{text_of}
use Rattle.atom_writer.proofs.PiecedLemmas.{one_reading}
use Rattle.atom_writer.specs.Members.{member_text}
use Rattle.feed_journal.specs.Log.{payload_lengths}
use Rattle.feed_recovery.proofs.FaultLemmas.{some_same}
use Rattle.feed_recovery.specs.Documents.{IsDocumentOf, IsLiveDocument, IsMemberDocument}
use Rattle.feed_recovery.specs.Documents.{Sets}
use Rattle.feed_recovery.specs.Store.{StoreValue}
use Rattle.feed_recovery.specs.declared.fault.MemberFault.{MemberFault}
use Rattle.member_rules.specs.declared.state.State.TheVariants.{Live}
use Rattle.member_rules.proofs.VersionLemmas.{version-is}
use Rattle.feed_recovery.specs.Opening.{IsJournal}
use Rattle.member_rules.specs.Coding.{operations}
use Rattle.member_rules.specs.Fold.{fold_of, made, state_of}
use Rattle.member_rules.specs.Head.{HeadValue, IsHead}
use Rattle.member_rules.specs.History.{AreFollowing, IsLawful}
use Rattle.member_rules.specs.Operation.{IsOperation}
use Rattle.member_rules.specs.declared.codec.CodecFault.{CodecFault}
use Rattle.member_rules.specs.declared.codec.CodecFault.TheVariants.{BadField, NoMemory}
use Rattle.member_rules.specs.declared.operation.Op.{Op}
use Rattle.member_rules.specs.declared.operation.Op.TheVariants.{Add, Change, Remove, Set}
use Rattle.member_rules.specs.declared.setting.Setting.{Setting}
use Rattle.member_rules.specs.Removal.{RemovalValue}
use Rattle.member_rules.proofs.LawLemmas.{law-of_chain}
use Rattle.member_rules.proofs.OperationLemmas.{operations_compared}
use Rattle.member_rules.proofs.StateLemmas.{AreMembers-of, live_within}

-- these bytes are read as an operation that sets this entry, unless memory runs out
module _ (result : Result Op CodecFault) (payload : List ℕ) (entry : EntryValue) (is_entry : IsEntry entry)
    (sets : Sets payload entry) (only : (operation : Op) → IsOperation operation →
    payload ≡ text_of operations operation
    → (result ≡ Ok operation) ⊎ (result ≡ Err NoMemory)) where
  pub no_removal : (removal : RemovalValue) → result ≡ Ok (Remove removal) → ⊥
  no_removal removal is = ⊎_elim
      (λ added. ⊎_elim (λ found. cc) (λ spent. cc) (only (Add entry) is_entry added))
      (λ changed. ⊎_elim (λ found. cc) (λ spent. cc) (only (Change entry) is_entry changed)) sets

  pub no_setting : (setting : Setting) (moment : ℤ) → result ≡ Ok (Set setting moment) → ⊥
  no_setting setting moment is = ⊎_elim
      (λ added. ⊎_elim (λ found. cc) (λ spent. cc) (only (Add entry) is_entry added))
      (λ changed. ⊎_elim (λ found. cc) (λ spent. cc) (only (Change entry) is_entry changed)) sets

  pub no_refusal : (at : ℕ) → result ≡ Err (BadField at) → ⊥
  no_refusal at is = ⊎_elim
      (λ added. ⊎_elim (λ found. cc) (λ spent. cc) (only (Add entry) is_entry added))
      (λ changed. ⊎_elim (λ found. cc) (λ spent. cc) (only (Change entry) is_entry changed)) sets

-- bytes set one entry at most
pub sets_one : (payload : List ℕ) (entry other : EntryValue) → IsEntry entry → IsEntry other → Sets payload entry
    → Sets payload other → entry ≡ other
sets_one payload entry other is_entry is_other (inl a) (inl b) =
    let same : Add entry ≡ Add other =
    one_reading operations operations_compared (Add entry) (Add other) is_entry is_other (sym a ∙ b) in
    cc
sets_one payload entry other is_entry is_other (inl a) (inr b) =
    let same : Add entry ≡ Change other =
    one_reading operations operations_compared (Add entry) (Change other) is_entry is_other (sym a ∙ b) in
    absurd (cc)
sets_one payload entry other is_entry is_other (inr a) (inl b) =
    let same : Change entry ≡ Add other =
    one_reading operations operations_compared (Change entry) (Add other) is_entry is_other (sym a ∙ b) in
    absurd (cc)
sets_one payload entry other is_entry is_other (inr a) (inr b) =
    let same : Change entry ≡ Change other =
    one_reading operations operations_compared (Change entry) (Change other) is_entry is_other (sym a ∙ b) in
    cc

-- the journal's payload of an operation's index is its bytes
payload_of : (payloads : List (List ℕ)) (head : HeadValue) (history : List Op) (version : ℕ) (operation : Op)
    (payload : List ℕ) → IsJournal payloads head history → 1 ≤ version → slice_get history (version - 1) ≡
    Some operation
    → slice_get payloads version ≡ Some payload → payload ≡ text_of operations operation
payload_of payloads head history zero operation payload is from_one there found = absurd (omega arith)
payload_of payloads head history (suc index) operation payload is from_one there found =
    let place : suc index - 1 ≡ index = omega arith in
    some_same payload (text_of operations operation)
    (sym found ∙ ap (λ (l : List (List ℕ)). slice_get l (suc index)) is.is
    ∙ slice_get-map (text_of operations) history index
    ∙ ap (option_map (text_of operations)) (subst (λ (k : ℕ). slice_get history k ≡ Some operation) place there))

-- the operation that set a member's live entry
module _ (head : HeadValue) (history : List Op) (is_head : IsHead head) (lawful : IsLawful head history)
    (number version : ℕ) (entry : EntryValue) (live : (fold_of history).live number ≡ Some entry)
    (from_one : 1 ≤ version) (set_by : (slice_get history (version - 1) ≡ Some (Add entry))
    ⊎ (slice_get history (version - 1) ≡ Some (Change entry))) where
  pub live_named : entry.number ≡ number
  live_named = (((law-of_chain head history is_head lawful).shows number entry).1 live).member

  rules : (operation : Op) → slice_get history (version - 1) ≡ Some operation → IsOperation operation
  rules operation there =
      subst IsOperation (get_or_from_slice_get history (version - 1) operation operation there)
      (lawful.operations (version - 1) operation (slice_get_within history (version - 1) operation there))

  pub live_rules : IsEntry entry
  live_rules = ⊎_elim (λ added. rules (Add entry) added) (λ changed. rules (Change entry) changed) set_by

  pub live_sets : (payloads : List (List ℕ)) (payload : List ℕ) → IsJournal payloads head history
      → slice_get payloads version ≡ Some payload → Sets payload entry
  live_sets payloads payload is found = ⊎_elim
      (λ added. inl (payload_of payloads head history version (Add entry) payload is from_one added found))
      (λ changed. inr (payload_of payloads head history version (Change entry) payload is from_one changed
      found)) set_by

-- the operation that the state of a live member names is one of the history
pub state_within : (history : List Op) (number version : ℕ) (updated : ℤ) →
    state_of history number ≡ Live updated version
    → version ≤ length history
state_within history number version updated state =
    let set = version-is history number updated version state in
    ⊎_elim (λ added. omega (arith, set.counted, slice_get_within history (version - 1) (Add set.entry) added))
    (λ changed. omega (
      arith,
      set.counted,
      slice_get_within history (version - 1) (Change set.entry)
          changed,
    )) set.set_by

-- a live member has a number from 1
pub live_from_one : (created : ℤ) (history : List Op) (number version : ℕ) (updated : ℤ) → AreFollowing created history
    → state_of history number ≡ Live updated version → 1 ≤ number
live_from_one created history number version updated following state =
    (live_within (fold_of history) (made history) number (AreMembers-of created history following)
    (ap is_some (version-is history number updated version state).live)).0

-- an index within a list has an item
pub item_there : {A : Type 0} (list : List A) (index : ℕ) → index < length list → None ≡ slice_get list index → ⊥
item_there [] index within none = absurd (omega arith)
item_there (first ∷ rest) zero within none = cc
item_there (first ∷ rest) (suc index) within none = item_there rest index (omega arith) none

-- the `edited` that the table has for a member is that of its live entry
pub edited_is : (edited : ℤ) (found : Option EntryValue) (entry : EntryValue)
    → Some edited ≡ option_map (λ (e : EntryValue). e.edited) found → found ≡ Some entry → edited ≡ entry.edited
edited_is edited found entry is there =
    let mapped : option_map (λ (e : EntryValue). e.edited) found ≡ Some entry.edited =
    ap (option_map (λ (e : EntryValue). e.edited)) there in
    some_same edited entry.edited (is ∙ mapped)

-- and it has one
pub some_edited : (found : Option EntryValue) (entry : EntryValue)
    → None ≡ option_map (λ (e : EntryValue). e.edited) found → found ≡ Some entry → ⊥
some_edited found entry none there =
    let mapped : option_map (λ (e : EntryValue). e.edited) found ≡ Some entry.edited =
    ap (option_map (λ (e : EntryValue). e.edited)) there in
    cc

-- the document of the bytes that a disk gave, with the timestamps that the history has for the member
pub document_version : (store : StoreValue) (number version : ℕ) (edited updated : ℤ) (payload : List ℕ)
    → slice_get (payload_lengths store.journal.extents) version ≡ Some (length payload)
    → state_of store.history number ≡ Live updated version
    → Some edited ≡ option_map (λ (e : EntryValue). e.edited) ((fold_of store.history).live number)
    → (result : Result (Vec ℕ Global) MemberFault)
    → IfOk result (λ written. IsDocumentOf store.head.name payload number edited updated written.items)
    → IfOk result (λ written. IsMemberDocument store number written.items)
document_version store number version edited updated payload long state dated (Err fault) made = tt
document_version store number version edited updated payload long state dated (Ok written) made =
    let set = version-is store.history number updated version state in
    record {
      stored = set.entry;
      live = set.live;
      since = version;
      is_since = record { updated = updated; state = state };
      payload = payload;
      long = long;
      document = record {
        entry = made.entry;
        is_entry = made.is_entry;
        version = record {
          named = made.version.named;
          edited_is = made.version.edited_is
              ∙ edited_is edited ((fold_of store.history).live number) set.entry dated set.live;
          updated_is = made.version.updated_is ∙ sym set.dated;
        };
        sets = made.sets;
        text = made.text;
      };
    }

module _ (store : StoreValue) (is_head : IsHead store.head) (number version : ℕ) (edited updated : ℤ)
    (state : state_of store.history number ≡ Live updated version) (payloads : List (List ℕ)) (payload : List ℕ)
    (is : IsJournal payloads store.head store.history) (found : slice_get payloads version ≡ Some payload) where
  pub document_live : (result : Result (Vec ℕ Global) MemberFault)
      → IfOk result (λ written. IsDocumentOf store.head.name payload number edited updated written.items)
      → IfOk result (λ written. IsLiveDocument store number written.items)
  document_live (Err fault) made = tt
  document_live (Ok written) made =
      let set = version-is store.history number updated version state in
      let same = sets_one payload made.entry set.entry made.is_entry
      (live_rules store.head store.history is_head is.lawful number version set.entry set.live set.counted set.set_by)
      made.sets (live_sets store.head store.history is_head is.lawful number version set.entry set.live set.counted
      set.set_by payloads payload is found) in
      record { entry = set.entry; live = set.live; text = made.text ∙ ap (member_text store.head.name) same }

-- a fact that doesn't depend on the result
pub on-ok : {A E : Type 0} (P : Type 0) (result : Result A E) → P → OnOk result P
on-ok P (Err fault) given = tt
on-ok P (Ok found) given = given

-- a premise on all goes into what is said of a result
pub inward : {A E : Type 0} (premise : Type 0) (P : A → Type 0) (result : Result A E) → (premise → IfOk result P)
    → IfOk result (λ found. premise → P found)
inward premise P (Err fault) given = tt
inward premise P (Ok found) given = given
