-- A store is loaded, and then connections are served on it.
use Rattle.std.proofs.Common.{◌≡◌, ◌≢◌, ◌⊎◌, ⊎_elim, inl, inr, refl, sym, ap, ◌∙◌, subst, ℕ, ◌+◌, ◌-◌, ◌^◌, ◌<◌, ◌≤◌}
use Rattle.std.proofs.Common.{List, []}
use Rattle.std.proofs.Common.{◌∷◌, ◌++◌, map, length, All, arith, Result, Ok, Err, IfErr}
use Rattle.std.proofs.lemmas.List.Elements.{All-weaker}
use Rattle.atom_values.specs.Counts.{CountsFault, counter_limit}
use Rattle.document_server.specs.Door.{DoorState, SameLinks}
use Rattle.document_server.specs.Served.{Answering}
use Rattle.document_server.specs.Serving.{AreInOrder, CountsFrom, EndsUnopened, EndsWithin, HasExchanges}
use Rattle.document_server.specs.Serving.{IsUnopened, LeavesServed, LeavesServing, OpensAt, OpensAfter, Serves, ServesFrom, end_of}
use Rattle.document_server.specs.Session.{Exchange, IsOneFailed, IsUnfailed}
use Rattle.document_server.specs.declared.line.Line.{Line}
use Rattle.document_server.specs.declared.session.End.{End}
use Rattle.document_server.specs.declared.session.End.TheVariants.{Done, DiskFault, DoorFault, Load, NoMemory as OutOfMemory}
use Rattle.document_server.proofs.OrderLemmas.{raised-on}
use Rattle.document_server.proofs.ServingLemmas.{going-begins, going-ends, going-settles}
use Rattle.document_server.proofs.SessionLemmas.{links-listened}
use Rattle.document_server.proofs.StepLemmas.{counts-as, same_fault}
use Rattle.feed_disk.specs.Disk.{DiskState, IsDisk}
use Rattle.feed_disk.specs.declared.area.Area.{Area}
use Rattle.feed_disk.specs.declared.area.Area.TheVariants.{Journal, Sealed}
use Rattle.feed_disk.proofs.MomentLemmas.{leaves_join, leaves_over}
use Rattle.feed_journal.specs.Log.{MakesCalls}
use Rattle.feed_journal.specs.Laws.{BegunAreWhole}
use Rattle.feed_journal.specs.Records.{records}
use Rattle.feed_recovery.specs.Opening.{AreSeals, IsJournal, Opens, OpensInOneWay}
use Rattle.feed_recovery.specs.Settled.{AlwaysLeavesBoth, AreWhole, IsAtRest, IsSettled, LeavesStores, OpensPast, Settled}
use Rattle.feed_recovery.specs.Store.{StandsFor, StoreValue, call_count}
use Rattle.feed_recovery.specs.Stored.{OpensTo, Stored, stored_of}
use Rattle.feed_recovery.specs.Faults.{IsLoadFault}
use Rattle.feed_recovery.specs.declared.fault.LoadFault.{LoadFault}
use Rattle.feed_recovery.specs.declared.fault.LoadFault.TheVariants as load
use Rattle.feed_recovery.proofs.PastLemmas.{settled-head, settled-whole}
use Rattle.member_rules.specs.Head.{HeadValue}
use Rattle.member_rules.specs.declared.operation.Op.{Op}

-- the payloads decide what a content opens to
opens-same : (content other : Area → List ℕ) (stored : Stored)
    → ((a : Area) → records (other a) ≡ records (content a)) → OpensTo other stored → OpensTo content stored
opens-same content other stored same o = record {
  is_journal = subst (λ (ps : List (List ℕ)). IsJournal ps stored.head stored.history) (same Journal) o.is_journal;
  are_seals = subst (AreSeals stored.head stored.history) (same Sealed) o.are_seals;
  number = ap length (sym (same Sealed)) ∙ o.number;
  count = o.count;
}

-- lines in order are in order from fewer calls
order-fewer : (version calls fewer : ℕ) (lines : List Line) → fewer ≤ calls → AreInOrder version calls lines
    → AreInOrder version fewer lines
order-fewer version calls fewer [] below order = tt
order-fewer version calls fewer (line ∷ lines) below (follows, order) = (
  record {
    no_fewer = follows.no_fewer;
    one_more = follows.one_more;
    later = omega (arith, follows.later, below);
    grown = λ more. omega (arith, follows.grown more, below);
  },
  order,
)

-- the exchanges, from the moment and the door before the load
exchanges-loaded : (start faults before : ℕ) (after : DiskState) (door listened rest : DoorState)
    (door_observable : Type 0) (lines : List Line) (served last : List Exchange) (failed : Type 0) → faults ≡ before
    → (door_observable → SameLinks door listened)
    → HasExchanges start faults after listened rest door_observable lines served last failed
    → HasExchanges start before after door rest door_observable lines served last failed
exchanges-loaded start faults before after door listened rest door_observable lines served last failed unfailed same
    all = record {
      lines_are = all.lines_are;
      unfailed = subst (λ (n : ℕ). All (IsUnfailed n) served) unfailed all.unfailed;
      all_served = all.all_served;
      broken_off = λ fails. subst (λ (n : ℕ). IsOneFailed n after.faults last) unfailed (all.broken_off fails);
      reported = all.reported;
      marked = all.marked;
      linked = λ observable. links-listened door listened rest (served ++ last) (same observable) (all.linked observable);
      sent = all.sent;
    }

-- the images that a crash leaves from the load on
leaves-served : (s m t : DiskState) (head : HeadValue) (operations : List Op) (least : ℕ) (opened : Stored)
    (history : List Op) (lines unbroken : List Line) (failed : Type 0) → opened.head ≡ head
    → (t.clock < counter_limit → All (λ (line : Line). m.clock ≤ s.clock + line.calls) lines)
    → AlwaysLeavesBoth s m (OpensPast head operations least)
    → LeavesServing s.clock m t opened.head (length opened.history) history lines unbroken failed
    → LeavesServed s t head operations least opened history lines unbroken failed
leaves-served s m t head operations least opened history lines unbroken failed same before first second = record {
  same = same;
  loaded = m.clock;
  over = second.each.first.later;
  before_lines = before;
  each = record {
    first = leaves_join s m t Journal (λ _ _. Unit {0}) first.moments.first second.each.first;
    second = leaves_join s m t Sealed (λ _ _. Unit {0}) first.moments.second second.each.second;
    each = λ below c i j inside may may'. (
      (λ within.
          let short : m.clock < 2 ^ 64 - 1 = omega (arith, below, second.each.first.later) in
          first.moments.each short c i j inside
          (leaves_over m t Journal (λ _ _. Unit {0}) second.each.first short c i within may)
          (leaves_over m t Sealed (λ _ _. Unit {0}) second.each.second short c j within may')),
      (λ later.
          subst (λ (h : HeadValue). OpensAt s.clock c h history (length opened.history) lines unbroken i j) same
          (second.each.each below c i j later may may')),
    );
  };
  now = λ i j may may'.
      subst (λ (h : HeadValue). OpensAfter h history (length opened.history) lines i j) same
      (second.now i j may may');
  whole = λ works. subst (λ (h : HeadValue). Settled t h history (length history)) same (second.whole works);
}

-- a store that was loaded
pub record IsLoaded (observable : Type 0) (s m : DiskState) (store : StoreValue) : Type 0 where
  pub disk : IsDisk observable s
  pub one : OpensInOneWay
  pub same : observable → (a : Area) → records (m.content a) ≡ records (s.content a)
  pub stands : observable → StandsFor m store
  pub moments : observable → (head : HeadValue) (operations : List Op) (least : ℕ) → Settled s head operations least
      → AlwaysLeavesBoth s m (OpensPast head operations least)
  pub rests : observable → AreWhole s → IsAtRest m
  pub number : ℕ
  pub calls : MakesCalls s m 0 (call_count store) number
  pub unfailed : m.faults ≡ s.faults

pub loaded-by : (observable : Type 0) (s m : DiskState) (store : StoreValue) → IsDisk observable s → OpensInOneWay
    → (observable → (a : Area) → records (m.content a) ≡ records (s.content a)) → (observable → StandsFor m store)
    → (observable → LeavesStores s m) → (observable → AreWhole s → IsSettled m store)
    → (number : ℕ) × MakesCalls s m 0 (call_count store) number → m.faults ≡ s.faults → IsLoaded observable s m store
loaded-by observable s m store disk one same stands moments settled calls unfailed = record {
  disk = disk;
  one = one;
  same = same;
  stands = stands;
  moments = moments;
  rests = λ tells whole. (settled tells whole).rests;
  number = calls.0;
  calls = calls.1;
  unfailed = unfailed;
}

-- and then connections were served
module _ {observable : Type 0} {answers : Answering} (s m t : DiskState) (moments : ℕ → ℕ) (door listened rest : DoorState)
    (clock_observable door_observable : Type 0) (store : StoreValue) (lines : List Line) (failed : Type 0)
    (loaded : IsLoaded observable s m store) (same : door_observable → SameLinks door listened)
    (later : m.clock ≤ t.clock)
    (serves : CountsFrom s.clock m t store
    → ServesFrom answers s.clock m t moments listened rest observable clock_observable door_observable store lines failed) where
  pub serves-loaded : Serves answers s t moments door rest observable clock_observable door_observable lines failed
  serves-loaded =
      let opens = λ (tells : observable).
      opens-same s.content m.content (stored_of store) (loaded.same tells) (loaded.stands tells).opens in
      let all = serves (λ below.
      raised-on s.clock m.clock s.clock 0 (call_count store) loaded.number loaded.calls.clock loaded.calls.calls
      (omega (arith, below, later)) (omega arith)) in
      record {
        opened = stored_of store;
        opens = opens;
        served = all.served;
        last = all.last;
        exchanges = exchanges-loaded s.clock m.faults s.faults t door listened rest door_observable lines all.served
            all.last failed loaded.unfailed same all.exchanges;
        ordered = λ below.
            order-fewer (length store.history) (call_count store) 0 lines (omega arith) (all.ordered below);
        within = λ below.
            All-weaker (λ (line : Line). (m.clock ≤ s.clock + line.calls) × (s.clock + line.calls ≤ t.clock))
            (λ (line : Line). s.clock + line.calls ≤ t.clock) (λ line within. within.1) lines (all.within below);
        history = all.history;
        stored = all.stored;
        crash = λ tells head operations least settled.
            leaves-served s m t head operations least (stored_of store) (all.history tells) lines
            (map (λ e. e.line) all.served) failed
            (settled-head s head operations least loaded.disk tells loaded.one settled (stored_of store)
            (opens tells))
            (λ below.
            All-weaker (λ (line : Line). (m.clock ≤ s.clock + line.calls) × (s.clock + line.calls ≤ t.clock))
            (λ (line : Line). m.clock ≤ s.clock + line.calls) (λ line within. within.0) lines (all.within below))
            (loaded.moments tells head operations least settled)
            (all.crash tells
            (loaded.rests tells (settled-whole s head operations least loaded.disk tells settled)));
      }

-- no connection was served
pub serves-none : {observable : Type 0} {answers : Answering} (s m : DiskState) (moments : ℕ → ℕ) (door listened : DoorState)
    (clock_observable door_observable : Type 0) (store : StoreValue) (lines : List Line) (failed : Type 0)
    → IsLoaded observable s m store → IsDisk observable m → (door_observable → SameLinks door listened) → BegunAreWhole
    → lines ≡ [] → (failed → ⊥)
    → Serves answers s m moments door listened observable clock_observable door_observable lines failed
serves-none {observable} {answers} s m moments door listened clock_observable door_observable store lines failed loaded disk same
    whole none works =
    subst (λ (ls : List Line). Serves answers s m moments door listened observable clock_observable door_observable ls failed)
    (sym none)
    (serves-loaded s m m moments door listened listened clock_observable door_observable store [] failed loaded same
    (omega arith) (λ counts.
    going-ends s.clock m m moments moments listened listened observable clock_observable door_observable store store []
    failed (going-begins s.clock m moments listened observable clock_observable door_observable store disk)
    loaded.stands counts
    (going-settles whole m m store loaded.stands (λ tells rests. rests)) works))

-- How it ended

same-load : (fault given : LoadFault) → Load fault ≡ Load given → fault ≡ given
same-load fault given is = cc

-- the session didn't end before the door was opened
pub opened : {L : Type 0} (observable : Type 0) (s t : DiskState) (door rest : L) (lines : List Line) (end : End)
    → ¬ IsUnopened end → EndsUnopened observable s t door rest lines end
opened observable s t door rest lines end works = record {
  refused = λ fault is. absurd (works (inr (fault, is)));
  only = λ tells stored opens fault is. absurd (works (inr (fault, is)));
  safe = λ ends. absurd (works ends);
  unserved = λ ends. absurd (works ends);
}

-- memory for the lines ran out
pub unopened-memory : {L : Type 0} (observable : Type 0) (s t : DiskState) (door : L) (lines : List Line)
    → lines ≡ [] → (observable → LeavesStores s t) → EndsUnopened observable s t door door lines OutOfMemory
unopened-memory observable s t door lines none leaves = record {
  refused = λ fault is. absurd cc;
  only = λ tells stored opens fault is. absurd cc;
  safe = λ ends. leaves;
  unserved = λ ends. (none, refl);
}

-- no connection was served
pub ends-unserved : (requests : ℕ) (door_observable : Type 0) (door rest : DoorState) (lines : List Line) (end : End)
    → lines ≡ [] → 1 ≤ requests → end ≢ Done → (door_observable → SameLinks door rest)
    → EndsWithin requests door_observable door rest lines end
ends-unserved requests door_observable door rest lines end none some undone same =
    let count = ap length none in
    record {
      most = omega (arith, count);
      cause = record { done = λ is. absurd (undone is); early = λ _. omega (arith, count, some) };
      returned = λ tells. (same tells).out;
    }

pub same-links : (door_observable : Type 0) (door : DoorState) → door_observable → SameLinks door door
same-links door_observable door tells = record { left = refl; back = refl; out = refl }

-- the store wasn't loaded
module _ (end : End) (fault : LoadFault) (is : end ≡ Load fault) where
  pub load-undone : end ≢ Done
  load-undone done = cc

  load-undisk : end ≢ DiskFault
  load-undisk disk = cc

  pub load-undoor : end ≢ DoorFault
  load-undoor door = cc

  pub unopened-load : {L : Type 0} (observable : Type 0) (s t : DiskState) (door : L) (lines : List Line) → lines ≡ []
      → (observable → IsLoadFault (records (s.content Journal)) (records (s.content Sealed)) fault)
      → (observable → (head : HeadValue) (history : List Op) (seals : ℕ)
      → Opens (s.content Journal) (s.content Sealed) head history seals
      → (fault ≡ load.DiskFault) ⊎ (fault ≡ load.NoMemory))
      → (observable → LeavesStores s t) → EndsUnopened observable s t door door lines end
  unopened-load observable s t door lines none refused only leaves = record {
    refused = λ given same tells.
        subst (IsLoadFault (records (s.content Journal)) (records (s.content Sealed)))
        (same-load fault given (sym is ∙ same)) (refused tells);
    only = λ tells stored opens given same.
        subst (λ (f : LoadFault). (f ≡ load.DiskFault) ⊎ (f ≡ load.NoMemory))
        (same-load fault given (sym is ∙ same)) (only tells stored.head stored.history stored.seals opens);
    safe = λ ends. leaves;
    unserved = λ ends. (none, refl);
  }

  -- the disk's count of faults
  pub counts-load : {T : Type 0} (before after : ℕ)
      → CountsFault before after (let result : Result T LoadFault = Err fault in result ≡ Err load.DiskFault)
      → CountsFault before after ((end ≡ DiskFault) ⊎ (end ≡ Load load.DiskFault))
  counts-load before after counts =
      counts-as before after _ ((end ≡ DiskFault) ⊎ (end ≡ Load load.DiskFault))
      (λ fails. inr (is ∙ ap Load (same_fault fault load.DiskFault fails)))
      (⊎_elim (λ other. absurd (load-undisk other)) (λ same. ap Err (same-load fault load.DiskFault (sym is ∙ same)))) counts

pub memory-undone : OutOfMemory ≢ Done
memory-undone is = cc

pub memory-undoor : OutOfMemory ≢ DoorFault
memory-undoor is = cc

pub memory-no-fault : ¬ ((OutOfMemory ≡ DiskFault) ⊎ (OutOfMemory ≡ Load load.DiskFault))
memory-no-fault (inl is) = absurd cc
memory-no-fault (inr is) = absurd cc

pub door-undone : DoorFault ≢ Done
door-undone is = cc

pub door-no-fault : ¬ ((DoorFault ≡ DiskFault) ⊎ (DoorFault ≡ Load load.DiskFault))
door-no-fault (inl is) = absurd cc
door-no-fault (inr is) = absurd cc

-- how a session ends whose store was loaded and whose door was opened
pub is-opened : (result : Result (Unit {0}) End)
    → IfErr result (λ end. (end ≡ DiskFault) ⊎ (end ≡ DoorFault)) → ¬ IsUnopened (end_of result)
is-opened (Ok done) own (inl is) = absurd cc
is-opened (Ok done) own (inr (fault, is)) = absurd cc
is-opened (Err end) (inl own) (inl is) = absurd cc
is-opened (Err end) (inl own) (inr (fault, is)) = absurd cc
is-opened (Err end) (inr own) (inl is) = absurd cc
is-opened (Err end) (inr own) (inr (fault, is)) = absurd cc

pub door-opened : ¬ IsUnopened DoorFault
door-opened = is-opened (Err DoorFault) (inr refl)

-- the disk's count of faults after the load and after the session
pub counts-loaded : (before amid after : ℕ) (end : End) → ¬ IsUnopened end → amid ≡ before
    → CountsFault amid after (end ≡ DiskFault)
    → CountsFault before after ((end ≡ DiskFault) ⊎ (end ≡ Load load.DiskFault))
counts-loaded before amid after end works same counts =
    subst (λ (n : ℕ). CountsFault n after ((end ≡ DiskFault) ⊎ (end ≡ Load load.DiskFault))) same
    (counts-as amid after (end ≡ DiskFault) ((end ≡ DiskFault) ⊎ (end ≡ Load load.DiskFault)) inl
    (⊎_elim (λ is. is) (λ is. absurd (works (inr (load.DiskFault, is))))) counts)
