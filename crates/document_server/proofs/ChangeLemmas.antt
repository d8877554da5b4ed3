-- An operation that is prepared and committed.
use Rattle.std.proofs.Common.{◌≡◌, ◌≢◌, false, ◌⊎◌, inl, inr, refl, sym, ap, ◌∙◌, ℕ, ◌+◌, List, [], ◌∷◌, ◌++◌}
use Rattle.std.proofs.Common.{length, subst}
use Rattle.std.specs.Prelude.{Option, Some, None, Result, Ok, Err}
use Rattle.std.proofs.lemmas.Bool.{cases_eq}
use Rattle.feed_disk.specs.Disk.{DiskState}
use Rattle.feed_journal.specs.Log.{MakesCalls, MakesSome, MakesUpTo}
use Rattle.feed_recovery.specs.Documents.{sealed_count}
use Rattle.feed_recovery.specs.Opening.{IsSealCount}
use Rattle.feed_recovery.specs.Prepare.{IsDueSeal, IsPrepareFault, MayCommit, ReadyValue, SealFits, commit_calls}
use Rattle.feed_recovery.specs.Prepare.{decision_of}
use Rattle.feed_recovery.specs.Settled.{AlwaysLeavesBoth, IsAtRest, OpensPast}
use Rattle.feed_recovery.specs.Store.{KeepsStore, StandsFor, StoreValue, call_count, is_spent, seal_count}
use Rattle.feed_recovery.specs.declared.fault.PrepareFault.{PrepareFault}
use Rattle.feed_recovery.specs.declared.fault.PrepareFault.TheVariants as prepare
use Rattle.document_server.specs.Answer.{ComesTo, Gains, Grows, IsReplied, IsSealedBy, OnlyReads, ReadsOrCommits, Steps}
use Rattle.document_server.specs.Reply.{HasRoomFor, IsAsked, IsRefusedBy, Outcome, done, done_reply, unchanged}
use Rattle.document_server.specs.declared.failure.Failure.{Failure}
use Rattle.document_server.specs.declared.failure.Failure.TheVariants.{Disk, Changed, NoMemory}
use Rattle.atom_writer.specs.declared.doc.FeedName.{FeedName}
use Rattle.http_face.specs.declared.reply.Reply.{Reply}
use Rattle.member_rules.specs.Head.{HeadValue, IsHead}
use Rattle.member_rules.specs.Laws.{WindowsSealInTurn}
use Rattle.member_rules.specs.Windows.{windows_of}
use Rattle.member_rules.specs.declared.ask.Ask.{Ask}
use Rattle.member_rules.specs.declared.operation.Op.{Op}
use Rattle.document_server.proofs.StepLemmas.{gains-none, reads-none, steps-none}

-- the store, with another amount of room
abbrev pub roomy : StoreValue → ℕ → ℕ → ℕ → ℕ → StoreValue
roomy store members journal seals spare = record store {
  members = record store.members { spare = members };
  journal = record store.journal { spare = journal };
  seals = record store.seals { spare = seals };
  spare = spare;
}

-- A seal that is due is one seal

one-due : (store : StoreValue) (first second : Option (List ℕ)) → IsDueSeal store first → IsDueSeal store second
    → first ≡ second
one-due store None None due due' = refl
one-due store None (Some seal) due due' = absurd (due due'.0)
one-due store (Some seal) None due due' = absurd (due' due.0)
one-due store (Some seal) (Some other) due due' = ap Some (due.1 ∙ sym due'.1)

has-room : (store : StoreValue) (ready : ReadyValue) → MayCommit store ready → HasRoomFor store ready.operation
has-room store ready may = record {
  seal = λ seal due. subst (SealFits store) (one-due store ready.seal seal may.seal due) may.seal_fits;
  journal = may.fits;
}

-- The seals after a commit

windows-same : (head other : HeadValue) (history left : List Op) → head ≡ other → history ≡ left
    → (windows_of head history).sealed ≡ (windows_of other left).sealed
windows-same head other history left same same' = ap (λ (h : HeadValue). (windows_of h history).sealed) same
    ∙ ap (λ (l : List Op). (windows_of other l).sealed) same'

-- a window that is full and not sealed is one
sealed-one-more : (full sealed count end : ℕ) → (end ≡ count → full ≡ sealed + 1) → (end ≢ count → full ≡ sealed)
    → full ≢ sealed → full ≡ sealed + 1
sealed-one-more full sealed count end rises stays other = elim (cases_eq end count) [
  | inl e ↦ rises e
  | inr e ↦ absurd (other (stays e))
]

-- if no seal is missing, each full window has one
counts-full : (full sealed seals : ℕ) → (seals ≡ sealed) ⊎ (seals ≡ full) → (full ≢ sealed → seals ≡ sealed → ⊥)
    → full ≡ seals
counts-full full sealed seals (inl is) none = elim (cases_eq full sealed) [
  | inl e ↦ e ∙ sym is
  | inr e ↦ absurd (none e is)
]
counts-full full sealed seals (inr is) none = sym is

-- Where the number of seals is that of the sealed archives after the operation, the seal that was due and missing was
-- made.
sealed-by : WindowsSealInTurn → (old : StoreValue) (operation : Op) (seals : ℕ) → IsHead old.head
    → IsSealCount old.head old.history (seal_count old)
    → seals ≡ (windows_of old.head (old.history ++ operation ∷ [])).sealed
    → IsSealedBy old (Some operation) seals
sealed-by turn old operation seals head count is =
    let in_turn = turn old.head old.history operation head in
    let full : seals ≡ (windows_of old.head old.history).full = is ∙ in_turn.full in
    let windows = windows_of old.head old.history in (
      (λ missing. full ∙ sealed-one-more windows.full windows.sealed (length old.history)
          (windows.ends (windows.sealed + 1))
          (λ e. sym in_turn.full ∙ in_turn.rises e) (λ e. sym in_turn.full ∙ in_turn.stays e) missing.0
          ∙ ap (λ (n : ℕ). n + 1) (sym missing.1)),
      (λ held. full ∙ counts-full windows.full windows.sealed (seal_count old) count
          (λ other is_sealed. held (other, is_sealed))),
    )

module _ (old prepared : StoreValue) (members journal seals spare : ℕ)
    (same : prepared ≡ roomy old members journal seals spare) where
  due-roomy : (seal : Option (List ℕ)) → IsDueSeal old seal → IsDueSeal (roomy old members journal seals spare) seal
  due-roomy None due = due
  due-roomy (Some seal) due = due

  due-before : (seal : Option (List ℕ)) → IsDueSeal (roomy old members journal seals spare) seal → IsDueSeal old seal
  due-before None due = due
  due-before (Some seal) due = due

  fits-roomy : (seal : Option (List ℕ)) → SealFits (roomy old members journal seals spare) seal → SealFits old seal
  fits-roomy None fits = tt
  fits-roomy (Some seal) fits = fits

  pub stands-roomy : (s : DiskState) → StandsFor s old → StandsFor s prepared
  stands-roomy s stands = subst (λ (p : StoreValue). StandsFor s p) (sym same) (record {
    opens = stands.opens;
    journal = record { list = stands.journal.list; long = stands.journal.long };
    seals = record { list = stands.seals.list; long = stands.seals.long };
  })

  -- a fact on the store with more room holds of the store
  pub steps-roomy : (observable : Type 0) (s t : DiskState) (new : StoreValue) (failed : Type 0)
      → Steps observable s t prepared new failed → Steps observable s t old new failed
  steps-roomy observable s t new failed steps =
      let roomier : Steps observable s t (roomy old members journal seals spare) new failed =
      subst (λ (p : StoreValue). Steps observable s t p new failed) same steps in
      record {
        head = roomier.head;
        faults = roomier.faults;
        spent = roomier.spent;
        stays = roomier.stays;
        unspent = roomier.unspent;
        stands = roomier.stands;
        rests = roomier.rests;
        mirror = roomier.mirror;
        calls = roomier.calls;
      }

  -- the ask isn't made ready
  module _ (observable : Type 0) (s : DiskState) (failed : Type 0) (worked : ¬ failed) (unspent : is_spent old ≡ false)
      (stands : observable → StandsFor s old) where
    pub steps-refused : Steps observable s s old prepared failed
    steps-refused = steps-roomy observable s s prepared failed
        (steps-none observable s prepared failed worked (ap is_spent same ∙ unspent) (λ tells. stands-roomy s (stands tells)))

    pub reads-refused : OnlyReads s s old prepared
    reads-refused = record {
      areas = (reads-none s old).areas;
      history = ap (λ (p : StoreValue). p.history) same;
    }

  pub gains-refused : Gains old prepared None
  gains-refused = gains-none old prepared (ap (λ (p : StoreValue). p.history) same) (ap seal_count same)

  pub replied-refused : (outcomes : Outcome → Type 0) (reply : Reply) → outcomes (unchanged reply)
      → IsReplied outcomes old prepared reply
  replied-refused outcomes reply is = record {
    given = unchanged reply;
    is_one = is;
    reply_is = refl;
    gains = gains-refused;
  }

  -- the ask is made ready, and the operation is committed
  module _ (ask : Ask) (now : ℕ) (ready : ReadyValue) (decided : decision_of old ask now ≡ Ok ready.operation)
      (may : MayCommit prepared ready) where
    accepted-room : HasRoomFor old ready.operation
    accepted-room =
        let room : HasRoomFor (roomy old members journal seals spare) ready.operation =
        has-room (roomy old members journal seals spare) ready
        (subst (λ (p : StoreValue). MayCommit p ready) same may) in
        record {
          seal = λ seal due. fits-roomy seal (room.seal seal (due-roomy seal due));
          journal = room.journal;
        }

    pub is-asked : (given : Outcome) → given ≡ done prepared.head.name ready.operation → IsAsked old ask now given
    is-asked given is =
        let is_done = is ∙ ap (λ (p : StoreValue). done p.head.name ready.operation) same in
        inr (ready.operation, decided, inr (accepted-room, is_done))

  gains-roomy : (new : StoreValue) (adds : Option Op) → Gains prepared new adds → Gains old new adds
  gains-roomy new None gains = record {
    history = gains.history ∙ ap (λ (p : StoreValue). p.history ++ []) same;
    seals = gains.seals ∙ ap seal_count same;
  }
  gains-roomy new (Some operation) gains = record {
    history = gains.history ∙ ap (λ (p : StoreValue). p.history ++ operation ∷ []) same;
    seals =
        let sealed = subst (λ (p : StoreValue). IsSealedBy p (Some operation) (seal_count new)) same gains.seals in
        (sealed.0, sealed.1);
  }

  pub comes-roomy : (part whole : Outcome → Type 0) → ((given : Outcome) → part given → whole given)
      → (new : StoreValue) (result : Result Reply Failure)
      → ComesTo part prepared new result → ComesTo whole old new result
  comes-roomy part whole to new (Ok reply) comes = record {
    given = comes.given;
    is_one = to comes.given comes.is_one;
    reply_is = comes.reply_is;
    gains = gains-roomy new comes.given.adds comes.gains;
  }
  comes-roomy part whole to new (Err Disk) comes = tt
  comes-roomy part whole to new (Err Changed) comes = record {
    given = comes.given;
    is_one = to comes.given comes.is_one;
    reply_is = comes.reply_is;
    gains = gains-roomy new comes.given.adds comes.gains;
  }
  comes-roomy part whole to new (Err NoMemory) comes = gains-roomy new None comes

  pub leaves-roomy : (observable : Type 0) (part whole : Outcome → Type 0) → ((given : Outcome) → part given → whole given)
      → (s t : DiskState) (new : StoreValue) (failed : Type 0) → ReadsOrCommits observable part s t prepared new failed
      → ReadsOrCommits observable whole s t old new failed
  leaves-roomy observable part whole to s t new failed (inl reads) = inl (record {
    areas = reads.areas;
    history = reads.history ∙ ap (λ (p : StoreValue). p.history) same;
  })
  leaves-roomy observable part whole to s t new failed (inr commits) = inr (record {
    operation = commits.operation;
    given = commits.given;
    is_one = to commits.given commits.is_one;
    adds = commits.adds;
    leaves = λ tells rests. subst
        (λ (p : StoreValue).
        AlwaysLeavesBoth s t (OpensPast p.head (p.history ++ commits.operation ∷ []) (length p.history))) same
        (commits.leaves tells rests);
    gained = λ works. commits.gained works
        ∙ ap (λ (p : StoreValue). p.history ++ commits.operation ∷ []) same;
  })

  pub grows-roomy : (s t : DiskState) (new : StoreValue) → Grows s t prepared new → Grows s t old new
  grows-roomy s t new grows = record {
    operation = grows.operation;
    history = grows.history ∙ ap (λ (p : StoreValue). p.history ++ grows.operation ∷ []) same;
    seal = grows.seal;
    due = due-before grows.seal (subst (λ (p : StoreValue). IsDueSeal p grows.seal) same grows.due);
    calls = subst (λ (n : ℕ). MakesCalls s t n (call_count new) (commit_calls grows.seal)) (ap call_count same)
        grows.calls;
  }

-- an ask that isn't prepared
pub refused-is : (store : StoreValue) (ask : Ask) (now : ℕ) (fault : PrepareFault) (reply : Reply)
    → IsPrepareFault store ask now fault → IsRefusedBy fault reply → IsAsked store ask now (unchanged reply)
refused-is store ask now (prepare.Rule fault) reply cause is = inl (fault, cause, ap unchanged is)
refused-is store ask now (prepare.Full area size needed capacity) reply (operation, decided, full) is =
    inr (operation, decided, inl (area, size, needed, capacity, full, ap unchanged is))
refused-is store ask now prepare.NoMemory reply cause is = absurd is

-- A commit of the store itself

pub done-same : (name other : FeedName) (operation left : Op) → name ≡ other → operation ≡ left
    → done_reply name operation ≡ done_reply other left
done-same name other operation left same same' =
    ap (λ (n : FeedName). done_reply n operation) same ∙ ap (done_reply other) same'

module _ (turn : WindowsSealInTurn) (old new : StoreValue) (ready : ReadyValue)
    (history : new.history ≡ old.history ++ ready.operation ∷ []) where
  pub replied-done : KeepsStore old → new.head ≡ old.head → seal_count new ≡ sealed_count new → (reply : Reply)
      → reply ≡ done_reply old.head.name ready.operation
      → IsReplied (λ given. given ≡ done old.head.name ready.operation) old new reply
  replied-done keeps head sealed reply is = record {
    given = done old.head.name ready.operation;
    is_one = refl;
    reply_is = is;
    gains = record {
      history = history;
      seals = sealed-by turn old ready.operation (seal_count new) keeps.head keeps.seals
          (sealed ∙ windows-same new.head old.head new.history (old.history ++ ready.operation ∷ []) head history);
    };
  }

pub commits : (observable : Type 0) (s t : DiskState) (old new : StoreValue) (operation : Op) (failed : Type 0)
    → (observable → IsAtRest s → AlwaysLeavesBoth s t
    (OpensPast old.head (old.history ++ operation ∷ []) (length old.history)))
    → (¬ failed → new.history ≡ old.history ++ operation ∷ [])
    → ReadsOrCommits observable (λ given. given ≡ done old.head.name operation) s t old new failed
commits observable s t old new operation failed leaves gained = inr (record {
  operation = operation;
  given = done old.head.name operation;
  is_one = refl;
  adds = refl;
  leaves = leaves;
  gained = gained;
})

-- the device calls of a commit that failed
pub calls-some : (s t : DiskState) (before after most : ℕ) → MakesUpTo s t before after most
    → MakesSome s t before after
calls-some s t before after most calls = inr (calls.number, calls.makes)
