-- The rules of a store, and what it stands for, after one more seal and after one more operation.
use Rattle.std.proofs.Common.{◌≡◌, inl, inr, ℕ, ◌+◌, List, [], ◌∷◌, ◌++◌, length, take, refl, sym, ◌∙◌, ap}
use Rattle.std.proofs.Common.{subst, arith, length-append, All}
use Rattle.std.proofs.Math.Seq.{take-append_seam, take-length}
use Rattle.std.proofs.lemmas.List.{map-append}
use Rattle.std.proofs.lemmas.List.Elements.{All-head, All-tail}
use Rattle.atom_writer.specs.Pieced.{text_of}
use Rattle.feed_disk.specs.Disk.{DiskState}
use Rattle.feed_disk.specs.Moments.{LeavesAlone}
use Rattle.feed_disk.specs.declared.area.Area.TheVariants.{Journal, Sealed}
use Rattle.feed_journal.specs.Laws.{BegunAreWhole}
use Rattle.feed_journal.specs.Limits.{header_length}
use Rattle.feed_journal.specs.Log.{LogValue, IsListed}
use Rattle.feed_journal.specs.Records.{records, Begins, IsStep}
use Rattle.feed_recovery.specs.Commit.{IsSealing}
use Rattle.feed_recovery.specs.Opening.{AreSeals, IsSealCount, Opens, journal_of, seal_of}
use Rattle.feed_recovery.specs.Prepare.{IsMissing, next_seal}
use Rattle.feed_recovery.specs.Store.{KeepsStore, StandsFor, StoreValue, seal_count}
use Rattle.feed_recovery.proofs.SealListLemmas.{seals-push, seals-stay, one_due}
use Rattle.member_rules.specs.Coding.{heads, operations}
use Rattle.member_rules.specs.Head.{HeadValue}
use Rattle.member_rules.specs.History.{IsLawful, MayFollow}
use Rattle.member_rules.specs.Laws.{ArchivesStay, HasSealed, OperationsAreLong, WindowsSealInTurn}
use Rattle.member_rules.specs.Operation.{IsOperation}
use Rattle.member_rules.specs.Table.{IsTableOf, Table}
use Rattle.member_rules.specs.Windows.{windows_of}
use Rattle.member_rules.specs.declared.operation.Op.{Op}
use Rattle.member_rules.proofs.FoldLemmas.{get-push}

-- an image of a disk at rest has the seals that were read
pub still_seals : BegunAreWhole → (store : StoreValue) (journal content : List ℕ)
    → Opens journal content store.head store.history (seal_count store) → (i : List ℕ) → Begins (records content) i
    → IsSealing store.head store.history (records content) i
still_seals law store journal content opens i begins =
    let begun = law content i begins in
    record {
      whole = begun.0;
      are_seals = subst (AreSeals store.head store.history) (sym begun.1) opens.are_seals;
      count = subst (IsSealCount store.head store.history) (sym (ap length begun.1 ∙ opens.number)) opens.count;
      kept = subst (λ (l : List (List ℕ)). take (length (records content)) l ≡ records content) (sym begun.1)
          (take-length (records content));
    }

-- after one more seal
module _ (store : StoreValue) (sealed : HasSealed (windows_of store.head store.history) (length store.history))
    (due : IsMissing store) (seal : List ℕ) (is : seal ≡ next_seal store) where
  pub seals-pushed : (before : List (List ℕ)) → AreSeals store.head store.history before
      → length before ≡ seal_count store → AreSeals store.head store.history (before ++ seal ∷ [])
  seals-pushed before are number =
      seals-push store.head store.history before seal are
      (subst (λ (n : ℕ). seal ≡ seal_of store.head store.history (n + 1)) (sym number) is)

  pub one_more : (before : List (List ℕ)) → length before ≡ seal_count store
      → length (before ++ seal ∷ []) ≡ (windows_of store.head store.history).full
  one_more before number = omega (arith, length-append before (seal ∷ []), one_due store sealed due)

  pub step_seals : (journal content : List ℕ) → Opens journal content store.head store.history (seal_count store)
      → (i : List ℕ) → IsStep (records content) seal i
      → IsSealing store.head store.history (records content) i
  step_seals journal content opens i step = elim step.payloads [
    | inl same ↦ record {
      whole = step.whole;
      are_seals = subst (AreSeals store.head store.history) (sym same) opens.are_seals;
      count = subst (IsSealCount store.head store.history) (sym (ap length same ∙ opens.number)) opens.count;
      kept = subst (λ (l : List (List ℕ)). take (length (records content)) l ≡ records content) (sym same)
          (take-length (records content));
    }
    | inr added ↦ record {
      whole = step.whole;
      are_seals = subst (AreSeals store.head store.history) (sym added)
          (seals-pushed (records content) opens.are_seals opens.number);
      count = inr (ap length added ∙ one_more (records content) opens.number);
      kept = subst (λ (l : List (List ℕ)). take (length (records content)) l ≡ records content) (sym added)
          (take-append_seam (records content) (seal ∷ []));
    }
  ]

  pub stands_sealed : (s t : DiskState) (log : LogValue) → StandsFor s store → LeavesAlone s t Journal
      → records (t.content Sealed) ≡ records (s.content Sealed) ++ seal ∷ [] → IsListed log (t.content Sealed)
      → length log.extents ≡ seal_count store + 1 → StandsFor t (record store { seals = log })
  stands_sealed s t log stands alone added listed count = record {
    opens = record {
      is_journal = record {
        is_head = stands.opens.is_journal.is_head;
        lawful = stands.opens.is_journal.lawful;
        is = ap records alone.content ∙ stands.opens.is_journal.is;
      };
      are_seals = subst (AreSeals store.head store.history) (sym added)
          (seals-pushed (records (s.content Sealed)) stands.opens.are_seals stands.opens.number);
      number = omega (
        arith,
        count,
        ap length added,
        length-append (records (s.content Sealed)) (seal ∷ []),
        stands.opens.number,
      );
      count = inr (count ∙ one_due store sealed due);
    };
    journal = subst (IsListed store.journal) (sym alone.content) stands.journal;
    seals = listed;
  }

  pub keeps_sealed : (log : LogValue) → KeepsStore store → log.area ≡ store.seals.area
      → length log.extents ≡ seal_count store + 1 → KeepsStore (record store { seals = log })
  keeps_sealed log keeps area count = record {
    head = keeps.head;
    lawful = keeps.lawful;
    members = keeps.members;
    journal_area = keeps.journal_area;
    sealed_area = area ∙ keeps.sealed_area;
    records = keeps.records;
    seals = inr (count ∙ one_due store sealed due);
    long = keeps.long;
  }

-- the journal with one more operation
journal-push : (head : HeadValue) (history : List Op) (operation : Op)
    → journal_of head history ++ text_of operations operation ∷ [] ≡ journal_of head (history ++ operation ∷ [])
journal-push head history operation =
    ap (λ (l : List (List ℕ)). text_of heads head ∷ l)
    (sym (map-append (text_of operations) history (operation ∷ [])))

-- two images after one more operation, where each full window had its seal
pub opens_after : ArchivesStay → WindowsSealInTurn → (store : StoreValue) (operation : Op)
    → seal_count store ≡ (windows_of store.head store.history).full
    → IsLawful store.head (store.history ++ operation ∷ []) → (disk : DiskState) (i j : List ℕ) → StandsFor disk store
    → records i ≡ records (disk.content Journal) ++ text_of operations operation ∷ []
    → records j ≡ records (disk.content Sealed)
    → Opens i j store.head (store.history ++ operation ∷ []) (length (records j))
opens_after stay turn store operation full lawful disk i j stands added same =
    let after = store.history ++ operation ∷ [] in
    let opens = stands.opens in
    let few : length (records (disk.content Sealed)) ≡ (windows_of store.head store.history).full =
    opens.number ∙ full in
    record {
      is_journal = record {
        is_head = opens.is_journal.is_head;
        lawful = lawful;
        is = added ∙ ap (λ (l : List (List ℕ)). l ++ text_of operations operation ∷ []) opens.is_journal.is
            ∙ journal-push store.head store.history operation;
      };
      are_seals = subst (AreSeals store.head after) (sym same)
          (seals-stay stay store.head store.history operation (records (disk.content Sealed)) (omega (arith, few))
          opens.are_seals);
      number = refl;
      count = inl (ap length same ∙ few
          ∙ sym (turn store.head store.history operation opens.is_journal.is_head).full);
    }

all-last : {X : Type 0} (P : X → Type 0) (xs : List X) (y : X) → All P (xs ++ y ∷ []) → P y
all-last P [] y holds = All-head P y [] holds
all-last P (x ∷ xs) y holds = all-last P xs y (All-tail P x (xs ++ y ∷ []) holds)

-- the last operation of a lawful history may follow those before it
pub next_follows : (head : HeadValue) (history : List Op) (operation : Op)
    → IsLawful head (history ++ operation ∷ []) → MayFollow head.created history operation
next_follows head history operation lawful =
    subst (λ (l : List Op). MayFollow head.created l operation) (take-append_seam history (operation ∷ []))
    (lawful.following (length history) operation (get-push history operation))

-- after one more operation
module _ (store : StoreValue) (operation : Op) (lawful : IsLawful store.head (store.history ++ operation ∷ []))
    (full : seal_count store ≡ (windows_of store.head store.history).full) (turn : WindowsSealInTurn)
    (members : Table) (log : LogValue) (count : length log.extents ≡ length store.journal.extents + 1)
    (spare : ℕ) where
  abbrev next : StoreValue
  next = record store {
    history = store.history ++ operation ∷ [];
    members = members;
    journal = log;
    spare = spare;
  }

  pub keeps_added : OperationsAreLong → KeepsStore store → IsTableOf members store.head.created
      (store.history ++ operation ∷ [])
      → log.area ≡ store.journal.area
      → log.size ≡ store.journal.size + length (text_of operations operation) + header_length → KeepsStore next
  keeps_added long keeps table area size =
      let more = length-append store.history (operation ∷ []) in
      record {
        head = keeps.head;
        lawful = lawful;
        members = table;
        journal_area = area ∙ keeps.journal_area;
        sealed_area = keeps.sealed_area;
        records = omega (arith, count, keeps.records, more);
        seals = inl (full ∙ sym (turn store.head store.history operation keeps.head).full);
        long = omega (
          arith,
          keeps.long,
          more,
          size,
          long operation (all-last IsOperation store.history operation lawful.operations),
        );
      }

  pub stands_added : ArchivesStay → (s t : DiskState) → StandsFor s store → LeavesAlone s t Sealed
      → records (t.content Journal) ≡ records (s.content Journal) ++ text_of operations operation ∷ []
      → IsListed log (t.content Journal) → StandsFor t next
  stands_added stay s t stands alone added listed = record {
    opens = subst (Opens (t.content Journal) (t.content Sealed) store.head (store.history ++ operation ∷ []))
        (ap (λ (l : List ℕ). length (records l)) alone.content ∙ stands.opens.number)
        (opens_after stay turn store operation full lawful s (t.content Journal) (t.content Sealed) stands added
        (ap records alone.content));
    journal = listed;
    seals = subst (IsListed store.seals) (sym alone.content) stands.seals;
  }
