-- The store and the disk after a part of the answer.
use Rattle.std.proofs.Common.{◌≡◌, ◌≢◌, inl, refl, sym, ap, ◌∙◌, ℕ, ◌≤◌, ◌||◌, Bool, true, false, arith, Result, Ok, Err}
use Rattle.std.specs.Prelude.{None}
use Rattle.std.proofs.lemmas.List.{append-nil}
use Rattle.feed_disk.specs.Disk.{DiskState}
use Rattle.feed_disk.specs.Moments.{LeavesAlone}
use Rattle.feed_disk.specs.declared.area.Area.{Area}
use Rattle.feed_disk.specs.declared.area.Area.TheVariants.{Journal, Sealed, Mirror}
use Rattle.feed_disk.proofs.MomentLemmas.{alone_begins}
use Rattle.feed_journal.specs.Log.{MakesSome}
use Rattle.feed_recovery.specs.Store.{StandsFor, StoreValue, call_count, is_spent, seal_count}
use Rattle.feed_recovery.proofs.LoadedLemmas.{begins_still}
use Rattle.atom_values.specs.Counts.{CountsFault, HasRisen}
use Rattle.document_server.specs.Answer.{Gains, IsReplied, OnlyReads, Steps}
use Rattle.http_face.specs.Reply as replies
use Rattle.document_server.specs.Reply.{Outcome, unchanged}
use Rattle.http_face.specs.declared.reply.Body.TheVariants.{Fixed}
use Rattle.http_face.specs.declared.reply.Line7.TheVariants as line
use Rattle.http_face.specs.declared.reply.Reply.{Reply}

-- the store gains nothing
pub gains-none : (old new : StoreValue) → new.history ≡ old.history → seal_count new ≡ seal_count old
    → Gains old new None
gains-none old new same seals = record { history = same ∙ sym (append-nil old.history); seals = seals }

-- no call was made
pub counts-none : (n : ℕ) (failed : Type 0) → ¬ failed → CountsFault n n failed
counts-none n failed worked =
    record { later = omega arith; failed = λ fails. absurd (worked fails); unfailed = λ _. refl }

-- all calls worked
pub counts-worked : (before after : ℕ) (failed : Type 0) → ¬ failed → after ≡ before → CountsFault before after failed
counts-worked before after failed worked same =
    record { later = omega (arith, same); failed = λ fails. absurd (worked fails); unfailed = λ _. same }

-- a call failed
pub counts-failed : (before after : ℕ) (failed : Type 0) → failed → before ≤ after → HasRisen before after
    → CountsFault before after failed
counts-failed before after failed fails later rose =
    record { later = later; failed = λ _. rose; unfailed = λ works. absurd (works fails) }

-- the same calls failed, by other words
pub counts-as : (before after : ℕ) (part whole : Type 0) → (part → whole) → (whole → part)
    → CountsFault before after part → CountsFault before after whole
counts-as before after part whole to from counts = record {
  later = counts.later;
  failed = λ fails. counts.failed (from fails);
  unfailed = λ works. counts.unfailed (λ fails. works (to fails));
}

pub steps-as : (observable : Type 0) (s t : DiskState) (old new : StoreValue) (part whole : Type 0) → (part → whole)
    → (whole → part) → Steps observable s t old new part → Steps observable s t old new whole
steps-as observable s t old new part whole to from steps = record {
  head = steps.head;
  faults = counts-as s.faults t.faults part whole to from steps.faults;
  spent = λ fails. steps.spent (from fails);
  stays = λ fails. steps.stays (from fails);
  unspent = λ works. steps.unspent (λ fails. works (to fails));
  stands = λ works. steps.stands (λ fails. works (to fails));
  rests = λ works. steps.rests (λ fails. works (to fails));
  mirror = steps.mirror;
  calls = steps.calls;
}

-- nothing is done
pub steps-none : (observable : Type 0) (s : DiskState) (store : StoreValue) (failed : Type 0) → ¬ failed
    → is_spent store ≡ false → (observable → StandsFor s store) → Steps observable s s store store failed
steps-none observable s store failed worked unspent stands = record {
  head = refl;
  faults = counts-none s.faults failed worked;
  spent = λ fails. absurd (worked fails);
  stays = λ fails. refl;
  unspent = λ _. unspent;
  stands = λ _. stands;
  rests = λ _ _ rests. rests;
  mirror = alone_begins s Mirror;
  calls = inl (refl, refl);
}

pub reads-none : (s : DiskState) (store : StoreValue) → OnlyReads s s store store
reads-none s store = record { areas = alone_begins s; history = refl }

-- no area is written, and all device calls worked
pub steps-read : (observable : Type 0) (s t : DiskState) (old new : StoreValue) (failed : Type 0) → ¬ failed
    → new.head ≡ old.head → is_spent new ≡ false → (observable → StandsFor t new) → ((a : Area) → LeavesAlone s t a)
    → t.faults ≡ s.faults → MakesSome s t (call_count old) (call_count new) → Steps observable s t old new failed
steps-read observable s t old new failed worked head unspent stands areas unfailed calls = record {
  head = head;
  faults = counts-worked s.faults t.faults failed worked unfailed;
  spent = λ fails. absurd (worked fails);
  stays = λ fails. absurd (worked fails);
  unspent = λ _. unspent;
  stands = λ _. stands;
  rests = λ _ _ rests. record {
    journal = begins_still s t Journal (areas Journal) rests.journal;
    sealed = begins_still s t Sealed (areas Sealed) rests.sealed;
  };
  mirror = areas Mirror;
  calls = calls;
}

-- a device call failed
pub steps-failed : (observable : Type 0) (s t : DiskState) (old new : StoreValue) (failed : Type 0) → failed
    → new.head ≡ old.head → new.history ≡ old.history → is_spent new ≡ true → LeavesAlone s t Mirror
    → s.faults ≤ t.faults → HasRisen s.faults t.faults → MakesSome s t (call_count old) (call_count new)
    → Steps observable s t old new failed
steps-failed observable s t old new failed fails head history spent mirror later rose calls = record {
  head = head;
  faults = counts-failed s.faults t.faults failed fails later rose;
  spent = λ _. spent;
  stays = λ _. history;
  unspent = λ works. absurd (works fails);
  stands = λ works. absurd (works fails);
  rests = λ works. absurd (works fails);
  mirror = mirror;
  calls = calls;
}

pub or-true : (b : Bool) → (b || true) ≡ true
or-true true = refl
or-true false = refl

pub replied-unchanged : (outcomes : Outcome → Type 0) (old new : StoreValue) (reply : Reply)
    → outcomes (unchanged reply) → Gains old new None → IsReplied outcomes old new reply
replied-unchanged outcomes old new reply is gains =
    record { given = unchanged reply; is_one = is; reply_is = refl; gains = gains }

pub replied-none : (outcomes : Outcome → Type 0) (store : StoreValue) (reply : Reply) → outcomes (unchanged reply)
    → IsReplied outcomes store store reply
replied-none outcomes store reply is =
    replied-unchanged outcomes store store reply is (gains-none store store refl refl)

module _ (observable : Type 0) (s t : DiskState) (old new : StoreValue) (failed : Type 0) (calls : ℕ)
    (unspent : is_spent old ≡ false) (areas : (a : Area) → LeavesAlone s t a)
    (made : MakesSome s t (call_count old) (call_count new)) where
  -- a seal is read
  pub steps-archive : new ≡ record old { seals = record old.seals { calls = calls } } → ¬ failed
      → (observable → StandsFor t new) → t.faults ≡ s.faults → Steps observable s t old new failed
  steps-archive same worked stands unfailed = steps-read observable s t old new failed worked
      (ap (λ (o : StoreValue). o.head) same) (ap is_spent same ∙ unspent) stands areas unfailed made

  pub steps-archive-failed : new ≡ record old { seals = record old.seals { calls = calls; spent = true } } → failed
      → s.faults ≤ t.faults → HasRisen s.faults t.faults → Steps observable s t old new failed
  steps-archive-failed same fails later rose = steps-failed observable s t old new failed fails
      (ap (λ (o : StoreValue). o.head) same) (ap (λ (o : StoreValue). o.history) same)
      (ap is_spent same ∙ or-true old.journal.spent) (areas Mirror) later rose made

  -- an operation is read
  pub steps-member : new ≡ record old { journal = record old.journal { calls = calls } } → ¬ failed
      → (observable → StandsFor t new) → t.faults ≡ s.faults → Steps observable s t old new failed
  steps-member same worked stands unfailed = steps-read observable s t old new failed worked
      (ap (λ (o : StoreValue). o.head) same) (ap is_spent same ∙ unspent) stands areas unfailed made

  pub steps-member-failed : new ≡ record old { journal = record old.journal { calls = calls; spent = true } } → failed
      → s.faults ≤ t.faults → HasRisen s.faults t.faults → Steps observable s t old new failed
  steps-member-failed same fails later rose = steps-failed observable s t old new failed fails
      (ap (λ (o : StoreValue). o.head) same) (ap (λ (o : StoreValue). o.history) same)
      (ap is_spent same) (areas Mirror) later rose made

module _ (old new : StoreValue) (calls : ℕ) where
  pub gains-archive : new ≡ record old { seals = record old.seals { calls = calls } } → Gains old new None
  gains-archive same = gains-none old new (ap (λ (o : StoreValue). o.history) same) (ap seal_count same)

  pub gains-member : new ≡ record old { journal = record old.journal { calls = calls } } → Gains old new None
  gains-member same = gains-none old new (ap (λ (o : StoreValue). o.history) same) (ap seal_count same)

-- a call that worked has no fault
pub worked : {T E : Type 0} (value : T) (fault : E) → (let result : Result T E = Ok value in result ≢ Err fault)
worked value fault same = cc

pub same_fault : {T E : Type 0} (fault other : E) → (let result : Result T E = Err fault in result ≡ Err other)
    → fault ≡ other
same_fault fault other same = cc

-- a call that failed by one fault didn't fail by another
pub failed_by : {T E : Type 0} (fault given other : E) → fault ≡ given → given ≢ other
    → (let result : Result T E = Err fault in result ≢ Err other)
failed_by fault given other is differs same = differs (sym is ∙ same_fault fault other same)

-- other replies than `disk`
pub memory-undisk : replies.no_memory ≢ replies.disk_fault
memory-undisk same =
    let status : ◌≡◌ {A = ℕ} 503 500 = ap (λ (r : Reply). r.status) same in
    omega arith

pub changed-undisk : replies.disk_changed ≢ replies.disk_fault
changed-undisk same =
    let body : Fixed line.Changed ≡ Fixed line.Disk = ap (λ (r : Reply). r.body) same in
    cc
