-- The store and its disk after the connections so far, and after one more connection.
use Rattle.std.proofs.Common.{◌≡◌, inl, inr, refl, sym, ap, ◌∙◌, subst, ℕ, ◌+◌, ◌<◌, ◌≤◌, List, [], ◌∷◌}
use Rattle.std.proofs.Common.{◌++◌, length, map, All, arith, append_assoc, length-append, true, false}
use Rattle.std.specs.Prelude.{Some}
use Rattle.std.proofs.lemmas.List.{append-nil}
use Rattle.std.proofs.lemmas.List.Elements.{All-nil, All-push, All-weaker}
use Rattle.atom_values.specs.Counts.{HasRisen, counter_limit}
use Rattle.document_server.specs.Answer.{Steps}
use Rattle.document_server.specs.Door.{DoorState, SameLinks}
use Rattle.document_server.specs.Laws.{AreShownServed}
use Rattle.document_server.specs.Served.{Answering}
use Rattle.document_server.specs.Serving.{CountsFrom, HasHistory, LeavesServing, OpensAt}
use Rattle.document_server.specs.Serving.{ServesFrom, ServesOne, exchange_of, version_after}
use Rattle.document_server.specs.Session.{Ends, Exchange, IsBrokenOff, IsFailed, IsMarked, IsServed, IsSession}
use Rattle.document_server.specs.Session.{IsUnfailed, SendsServed}
use Rattle.document_server.specs.declared.line.Line.{Line}
use Rattle.document_server.proofs.DocumentLemmas.{IsOver, sends-later, sends-other, sends-turn}
use Rattle.document_server.proofs.OpensLemmas.{both-join-at, opens-amid, opens-amid-break, opens-until}
use Rattle.document_server.proofs.OpensLemmas.{opens-until-break}
use Rattle.document_server.proofs.OrderLemmas.{IsBetween, LeadTo, clock-on, lead-in-order, lead-more, lead-within}
use Rattle.document_server.proofs.OrderLemmas.{line-follows, version-last}
use Rattle.document_server.proofs.SessionLemmas.{Exchanges, IsAt, Passes, exchanges-break, exchanges-end}
use Rattle.document_server.proofs.SessionLemmas.{exchanges-more, exchanges-none, exchanges-still}
use Rattle.document_server.proofs.SessionLemmas.{lines-more, session-ends, session-more}
use Rattle.feed_disk.specs.Disk.{DiskState, IsDisk}
use Rattle.feed_disk.specs.Moments.{LeavesOnlyBoth}
use Rattle.feed_disk.specs.declared.area.Area.TheVariants.{Journal, Sealed}
use Rattle.feed_disk.proofs.MomentLemmas.{leaves_begin}
use Rattle.feed_journal.specs.Laws.{BegunAreWhole}
use Rattle.feed_recovery.proofs.SettleLemmas.{rest_settles}
use Rattle.feed_recovery.specs.Settled.{IsAtRest, NowBoth, OpensPast, Settled}
use Rattle.feed_recovery.specs.Store.{StandsFor, StoreValue, call_count, is_spent, seal_count}
use Rattle.feed_recovery.specs.Stored.{OpensTo, stored_of}
use Rattle.http_face.specs.Conn.{ConnState}
use Rattle.http_face.specs.Reply.{disk_fault}
use Rattle.member_rules.specs.Head.{HeadValue}
use Rattle.member_rules.specs.History.{IsLawful}
use Rattle.member_rules.specs.Laws.{PrefixesAreLawful, ServedStays}
use Rattle.member_rules.specs.declared.operation.Op.{Op}

-- the store counts its device calls from this moment
abbrev pub Counts : ℕ → DiskState → StoreValue → Type 0
Counts start disk store = start + call_count store ≡ disk.clock

-- the image that a crash at a moment leaves, where the calls are counted from `start`
abbrev pub CrashOpens : ℕ → DiskState → StoreValue → List Op → List Line → List Line → ℕ → List ℕ → List ℕ → Type 0
CrashOpens start before opened history lines unbroken c i j =
    Counts start before opened
    → OpensAt start c opened.head history (length opened.history) lines unbroken i j

-- connections were served, none of which was broken off
pub record Going (answers : Answering) (start : ℕ) (before after : DiskState) (moments coming : ℕ → ℕ) (door rest : DoorState)
    (disk_observable clock_observable door_observable : Type 0) (opened store : StoreValue) (lines : List Line)
    : Type 0 where
  pub head : store.head ≡ opened.head
  pub more : List Op
  pub extends : store.history ≡ opened.history ++ more
  pub version : version_after (length opened.history) lines ≡ length store.history
  pub versions : All (λ (line : Line). line.version ≤ length store.history) lines
  pub clock : after.clock < counter_limit → Counts start before opened → Counts start after store
  pub lead : after.clock < counter_limit → Counts start before opened
      → LeadTo (length opened.history) (call_count opened) lines (length store.history) (call_count store)
  pub served : List Exchange
  pub lines_are : lines ≡ map (λ e. e.line) served
  pub unfailed : All (IsUnfailed before.faults) served
  pub exchanges : Exchanges start before after door rest door_observable opened served
  pub crash : disk_observable → IsAtRest before
      → LeavesOnlyBoth before after Journal Sealed (CrashOpens start before opened store.history lines lines)
  pub over : disk_observable → door_observable → All (IsOver opened.head store.history) served
  pub session : disk_observable → clock_observable → door_observable
      → IsSession answers (IsAt store coming) opened moments served

pub going-begins : {answers : Answering} (start : ℕ) (disk : DiskState) (moments : ℕ → ℕ) (door : DoorState)
    (disk_observable clock_observable door_observable : Type 0) (store : StoreValue) → IsDisk disk_observable disk
    → Going answers start disk disk moments moments door door disk_observable clock_observable door_observable store store []
going-begins start disk moments door disk_observable clock_observable door_observable store is_disk = record {
  head = refl;
  more = [];
  extends = sym (append-nil store.history);
  version = refl;
  versions = All-nil (λ (line : Line). line.version ≤ length store.history);
  clock = λ below counted. counted;
  lead = λ below counted. (refl, refl);
  served = [];
  lines_are = refl;
  unfailed = All-nil (IsUnfailed disk.faults);
  exchanges = exchanges-none start disk door door_observable store;
  crash = λ observable rests. record {
    first = leaves_begin disk Journal (λ _ _. Unit {0});
    second = leaves_begin disk Sealed (λ _ _. Unit {0});
    each = λ below c i j inside may may'. absurd (omega (arith, inside, is_disk.begun Journal c i may));
  };
  over = λ observable see. All-nil (IsOver store.head store.history);
  session = λ observable clock see. (refl, λ k. refl);
}

-- a call of the door that gives no connection
pub going-still : {answers : Answering} (start : ℕ) (before after : DiskState) (moments coming : ℕ → ℕ) (door rest later : DoorState)
    (disk_observable clock_observable door_observable : Type 0) (opened store : StoreValue) (lines : List Line)
    → Going answers start before after moments coming door rest disk_observable clock_observable door_observable
    opened store lines
    → (door_observable → SameLinks rest later)
    → Going answers start before after moments coming door later disk_observable clock_observable door_observable
    opened store lines
going-still start before after moments coming door rest later disk_observable clock_observable door_observable opened
    store lines going same = record {
      head = going.head;
      more = going.more;
      extends = going.extends;
      version = going.version;
      versions = going.versions;
      clock = going.clock;
      lead = going.lead;
      served = going.served;
      lines_are = going.lines_are;
      unfailed = going.unfailed;
      exchanges = exchanges-still start before after door rest later door_observable opened going.served going.exchanges
          same;
      crash = going.crash;
      over = going.over;
      session = going.session;
    }

-- The end

-- all lines within the device calls that the disk made
lines-within : (start : ℕ) (before after : DiskState) (opened : StoreValue) (lines : List Line) (last made : ℕ)
    → Counts start before opened → start + made ≡ after.clock
    → LeadTo (length opened.history) (call_count opened) lines last made
    → All (λ (line : Line). (before.clock ≤ start + line.calls) × (start + line.calls ≤ after.clock)) lines
lines-within start before after opened lines last made counted now lead =
    All-weaker (IsBetween (call_count opened) made)
    (λ (line : Line). (before.clock ≤ start + line.calls) × (start + line.calls ≤ after.clock))
    (λ line within. (omega (arith, within.0, counted), omega (arith, within.1, now))) lines
    (lead-within (length opened.history) (call_count opened) lines last made lead)

-- the images that a crash leaves, where each image of now has the first `has` operations
leaves-serving : (start : ℕ) (before after : DiskState) (opened : StoreValue) (history : List Op)
    (lines unbroken : List Line) (failed : Type 0) (has : ℕ) → CountsFrom start before after opened
    → length opened.history ≤ has → All (λ (line : Line). line.version ≤ has) lines
    → LeavesOnlyBoth before after Journal Sealed (CrashOpens start before opened history lines unbroken)
    → NowBoth after (OpensPast opened.head history has)
    → (¬ failed → Settled after opened.head history (length history))
    → LeavesServing start before after opened.head (length opened.history) history lines unbroken failed
leaves-serving start before after opened history lines unbroken failed has counts grown versions each now whole =
    record {
      each = record {
        first = each.first;
        second = each.second;
        each = λ below c i j inside may may'. each.each below c i j inside may may' (counts below);
      };
      now = λ i j may may'.
          let past = now i j may may' in
          record {
            past = record {
              journal_whole = past.journal_whole;
              sealed_whole = past.sealed_whole;
              version = past.version;
              at_least = omega (arith, past.at_least, grown);
              at_most = past.at_most;
              seals = past.seals;
              opens = past.opens;
            };
            acknowledged = All-weaker (λ (line : Line). line.version ≤ has)
                (λ (line : Line). line.version ≤ past.version) (λ line within. omega (arith, within, past.at_least))
                lines versions;
          };
      whole = whole;
    }

sends-over : (head : HeadValue) (history : List Op) (e : Exchange) → IsOver head history e
    → SendsServed head history e
sends-over head history e over = over.sends

-- all connections were served
module _ {answers : Answering} (start : ℕ) (before after : DiskState) (moments coming : ℕ → ℕ)
    (door rest : DoorState) (disk_observable clock_observable door_observable : Type 0) (opened store : StoreValue)
    (lines : List Line) (failed : Type 0)
    (going : Going answers start before after moments coming door rest disk_observable clock_observable door_observable
    opened store lines)
    (stands : disk_observable → StandsFor after store) where
  history-ends : disk_observable
      → HasHistory answers after moments clock_observable door_observable (stored_of opened) lines going.served []
      store.history failed
  history-ends observable = record {
    more = going.more;
    extends = going.extends;
    no_fewer = omega (arith, going.version);
    no_more = omega (arith, going.version);
    documents = λ see.
        subst (All (SendsServed opened.head store.history)) (sym (append-nil going.served))
        (All-weaker (IsOver opened.head store.history) (SendsServed opened.head store.history)
        (sends-over opened.head store.history) going.served (going.over observable see));
    session = λ clock see. (
      opened,
      refl,
      session-ends answers (Ends answers failed after.content [] store.history) opened moments going.served store coming
          (λ last now at. (
            ap (λ (s : StoreValue). s.history) (sym at.0),
            λ works. subst (λ (s : StoreValue). OpensTo after.content (stored_of s)) (sym at.0) (stands observable).opens,
          )) (going.session observable clock see),
    );
  }

  pub going-ends : CountsFrom start before after opened
      → (disk_observable → IsAtRest before → Settled after store.head store.history (length store.history))
      → (failed → ⊥)
      → ServesFrom answers start before after moments door rest disk_observable clock_observable door_observable
      opened lines failed
  going-ends counts settled works = record {
    served = going.served;
    last = [];
    exchanges = exchanges-end start before after door rest door_observable opened lines going.served failed counts
        going.unfailed going.exchanges going.lines_are works;
    ordered = λ below.
        lead-in-order (length opened.history) (call_count opened) lines (length store.history) (call_count store)
        (going.lead below (counts below));
    within = λ below.
        lines-within start before after opened lines (length store.history) (call_count store) (counts below)
        (going.clock below (counts below)) (going.lead below (counts below));
    history = λ observable. store.history;
    stored = history-ends;
    crash = λ observable rest.
        let leaves : Settled after opened.head store.history (length store.history) =
        subst (λ (h : HeadValue). Settled after h store.history (length store.history)) going.head
        (settled observable rest) in
        subst (λ (unbroken : List Line). LeavesServing start before after opened.head (length opened.history)
        store.history lines unbroken failed) going.lines_are
        (leaves-serving start before after opened store.history lines lines failed (length store.history) counts
        (omega (arith, ap length going.extends, length-append opened.history going.more)) going.versions
        (going.crash observable rest) leaves (λ unfailed. leaves));
  }

-- a store that stands for a disk at rest is what a crash leaves
pub going-settles : BegunAreWhole → {observable : Type 0} (before after : DiskState) (store : StoreValue)
    → (observable → StandsFor after store) → (observable → IsAtRest before → IsAtRest after)
    → observable → IsAtRest before → Settled after store.head store.history (length store.history)
going-settles whole before after store stands rests tells rest =
    rest_settles whole after store.head store.history (seal_count store) (stands tells).opens (rests tells rest)

-- One more connection

pub is-unspent : (store : StoreValue) → is_spent store ≡ false → ¬ (is_spent store ≡ true)
is-unspent store unspent spent = cc

module _ {answers : Answering} (start : ℕ) (before amid after : DiskState) (moments coming later : ℕ → ℕ)
    (given back : ConnState) (door rest : DoorState) (disk_observable clock_observable door_observable conn_observable : Type 0)
    (opened store new : StoreValue) (lines : List Line) (line : Line)
    (going : Going answers start before amid moments coming door rest disk_observable clock_observable door_observable
    opened store lines)
    (linked : ServesOne answers amid after coming later given back disk_observable clock_observable conn_observable
    store new line)
    (steps : Steps disk_observable amid after store new (is_spent new ≡ true)) where
  abbrev exchange : Exchange
  exchange = exchange_of amid after given back linked.reply line

  grown : length opened.history ≤ length store.history
  grown = omega (arith, ap length going.extends, length-append opened.history going.more)

  short : after.clock < counter_limit → amid.clock < counter_limit
  short below = omega (arith, below, steps.mirror.leaves.later)

  counts-on : after.clock < counter_limit → Counts start before opened → Counts start after new
  counts-on below counted =
      clock-on amid after start (call_count store) (call_count new) steps.calls below
      (going.clock (short below) counted)

  -- the line's calls are those at the end of the connection
  line-calls : after.clock < counter_limit → Counts start before opened → start + line.calls ≡ after.clock
  line-calls below counted = ap (λ (n : ℕ). start + n) linked.calls ∙ counts-on below counted

  lead-on : after.clock < counter_limit → Counts start before opened
      → LeadTo (length opened.history) (call_count opened) (lines ++ line ∷ []) line.version line.calls
  lead-on below counted =
      lead-more (length opened.history) (call_count opened) lines (length store.history) (call_count store) line
      (going.lead (short below) counted)
      (line-follows amid after start store new line linked.version linked.calls steps.mirror.leaves.later steps.calls linked.grows
      below (going.clock (short below) counted))

  lines-before : after.clock < counter_limit → Counts start before opened → (c : ℕ) → amid.clock < c
      → All (λ (l : Line). start + l.calls < c) lines
  lines-before below counted c inside =
      let now : start + call_count store ≡ amid.clock = going.clock (short below) counted in
      All-weaker (IsBetween (call_count opened) (call_count store)) (λ (l : Line). start + l.calls < c)
      (λ l within. omega (arith, within.1, now, inside)) lines
      (lead-within (length opened.history) (call_count opened) lines (length store.history) (call_count store)
      (going.lead (short below) counted))

  marked-on : after.clock < counter_limit → Counts start before opened → IsMarked start exchange
  marked-on below counted = λ some. linked.begun some ∙ ap (λ (n : ℕ). Some n) (sym (line-calls below counted))

  -- the operations that the connection added
  gains : (more : List Op) × (new.history ≡ store.history ++ more)
  gains = elim linked.grows [
    | inl same ↦ ([], same ∙ sym (append-nil store.history))
    | inr grows ↦ (grows.operation ∷ [], grows.history)
  ]

  module _ (observable : disk_observable) (disk : IsDisk disk_observable after)
      (rests : IsAtRest before → IsAtRest amid) where
    -- the images that the connection leaves open to the head that was opened
    past-opened : (i j : List ℕ)
        → OpensPast store.head (store.history ++ (linked.stored observable).operations) (length store.history) i j
        → OpensPast opened.head (store.history ++ (linked.stored observable).operations) (length store.history) i j
    past-opened i j past =
        subst (λ (h : HeadValue). OpensPast h (store.history ++ (linked.stored observable).operations) (length store.history) i j)
        going.head past

    pub crash-more : length (store.history ++ (linked.stored observable).operations) ≡ line.version → IsAtRest before
        → LeavesOnlyBoth before after Journal Sealed
        (CrashOpens start before opened (store.history ++ (linked.stored observable).operations) (lines ++ line ∷ [])
        (lines ++ line ∷ []))
    crash-more has rest =
        let operations = (linked.stored observable).operations in
        both-join-at before amid after (CrashOpens start before opened store.history lines lines)
        (λ _. OpensPast store.head (store.history ++ operations) (length store.history))
        (CrashOpens start before opened (store.history ++ operations) (lines ++ line ∷ []) (lines ++ line ∷ [])) disk
        (going.crash observable rest) ((linked.stored observable).leaves (rests rest)).moments
        (λ below c i j early at counted.
        let on : start + line.calls ≡ after.clock = line-calls below counted in
        opens-until opened.head store.history operations i j start c (length opened.history) lines line (at counted)
        (omega (arith, early, on, steps.mirror.leaves.later)) (omega (arith, has, length-append store.history operations)))
        (λ below c i j inside to past counted.
        let on : start + line.calls ≡ after.clock = line-calls below counted in
        opens-amid opened.head store.history operations i j start c (length opened.history) lines line
        (past-opened i j past) grown going.versions (lines-before below counted c inside)
        (omega (arith, to, on)) (omega (arith, has)))

    pub crash-break : IsAtRest before
        → LeavesOnlyBoth before after Journal Sealed
        (CrashOpens start before opened (store.history ++ (linked.stored observable).operations) (lines ++ line ∷ []) lines)
    crash-break rest =
        let operations = (linked.stored observable).operations in
        both-join-at before amid after (CrashOpens start before opened store.history lines lines)
        (λ _. OpensPast store.head (store.history ++ operations) (length store.history))
        (CrashOpens start before opened (store.history ++ operations) (lines ++ line ∷ []) lines) disk
        (going.crash observable rest) ((linked.stored observable).leaves (rests rest)).moments
        (λ below c i j early at counted.
        let on : start + line.calls ≡ after.clock = line-calls below counted in
        opens-until-break opened.head store.history operations i j start c (length opened.history) lines line
        (at counted) (omega (arith, early, on, steps.mirror.leaves.later)))
        (λ below c i j inside to past counted.
        let on : start + line.calls ≡ after.clock = line-calls below counted in
        opens-amid-break opened.head store.history operations i j start c (length opened.history) lines line
        (past-opened i j past) grown going.versions (lines-before below counted c inside)
        (omega (arith, to, on)))

  -- a line more, all of whose versions are within a history
  pub versions-more : (history : List Op) → length store.history ≤ length history → line.version ≤ length history
      → All (λ (l : Line). l.version ≤ length history) (lines ++ line ∷ [])
  versions-more history longer within =
      All-push (λ (l : Line). l.version ≤ length history) lines line
      (All-weaker (λ (l : Line). l.version ≤ length store.history) (λ (l : Line). l.version ≤ length history)
      (λ l before. omega (arith, before, longer)) lines going.versions) within

  module _ (stays : ServedStays) (prefixes : PrefixesAreLawful) (last : DoorState)
      (sees : door_observable → conn_observable)
      (passes : door_observable → Passes rest last given back) (faults : amid.faults ≡ before.faults) where
    -- the exchanges with that of the connection
    exchanges-on : Exchanges start before after door last door_observable opened (going.served ++ exchange ∷ [])
    exchanges-on =
        exchanges-more start before amid after door rest last door_observable opened going.served exchange
        going.exchanges steps.mirror.leaves.later passes linked.reported marked-on
        (λ observable. linked.sent (sees observable))

    lines-on : lines ++ line ∷ [] ≡ map (λ e. e.line) (going.served ++ exchange ∷ [])
    lines-on = lines-more lines going.served exchange going.lines_are

    over-on : (observable : disk_observable) → door_observable
        → IsLawful opened.head (store.history ++ (linked.stored observable).operations)
        → IsOver opened.head (store.history ++ (linked.stored observable).operations) exchange
        → All (IsOver opened.head (store.history ++ (linked.stored observable).operations))
        (going.served ++ exchange ∷ [])
    over-on observable see longer over =
        let operations = (linked.stored observable).operations in
        All-push (IsOver opened.head (store.history ++ operations)) going.served exchange
        (All-weaker (IsOver opened.head store.history) (IsOver opened.head (store.history ++ operations))
        (sends-later stays prefixes opened.head store.history operations longer) going.served (going.over observable see))
        over

    -- the connection was served
    module _ (shown : AreShownServed answers) (unspent : is_spent new ≡ false)
        (stands : disk_observable → StandsFor amid store) where
      works : ¬ (is_spent new ≡ true)
      works = is-unspent new unspent

      gained : (observable : disk_observable) → new.history ≡ store.history ++ (linked.stored observable).operations
      gained observable = (linked.stored observable).gained unspent

      longer-lawful : (observable : disk_observable)
          → IsLawful opened.head (store.history ++ (linked.stored observable).operations)
      longer-lawful observable =
          subst (λ (h : List Op). IsLawful opened.head h) (gained observable)
          (subst (λ (h : HeadValue). IsLawful h new.history) (steps.head ∙ going.head)
          (steps.stands works observable).opens.is_journal.lawful)

      version-is : (observable : disk_observable)
          → length (store.history ++ (linked.stored observable).operations) ≡ line.version
      version-is observable = ap length (sym (gained observable)) ∙ sym linked.version

      over-more : (observable : disk_observable) → door_observable
          → All (IsOver opened.head new.history) (going.served ++ exchange ∷ [])
      over-more observable see =
          let operations = (linked.stored observable).operations in
          let on = (linked.stored observable).served (sees see) unspent in
          let has = version-is observable in
          subst (λ (h : List Op). All (IsOver opened.head h) (going.served ++ exchange ∷ [])) (sym (gained observable))
          (over-on observable see (longer-lawful observable) (record {
            within = omega (arith, has);
            sends = sends-turn stays prefixes opened.head store.history operations (longer-lawful observable) shown store
                on.now (stands observable).opens.is_journal.is_head (stands observable).opens.is_journal.lawful exchange
                on.turn going.head refl (omega (arith, has))
                on.served.is_turn;
          }))

      session-on : disk_observable → clock_observable → door_observable
          → IsSession answers (IsAt new later) opened moments (going.served ++ exchange ∷ [])
      session-on observable clock see =
          let on = (linked.stored observable).served (sees see) unspent in
          session-more answers opened moments going.served store new coming later exchange on.turn
          (going.session observable clock see)
          (subst (λ (now : ℕ). IsServed answers store now exchange on.turn new) (on.is_now clock) on.served) (on.clock clock)

      pub going-more : IsDisk disk_observable after → (disk_observable → IsAtRest before → IsAtRest amid)
          → Going answers start before after moments later door last disk_observable clock_observable door_observable opened new
          (lines ++ line ∷ [])
      going-more disk rests =
          let longer : length store.history ≤ length new.history =
          omega (arith, ap length gains.1, length-append store.history gains.0) in
          record {
            head = steps.head ∙ going.head;
            more = going.more ++ gains.0;
            extends = gains.1 ∙ ap (λ (h : List Op). h ++ gains.0) going.extends
                ∙ append_assoc opened.history going.more gains.0;
            version = version-last (length opened.history) lines line ∙ linked.version;
            versions = versions-more new.history longer (omega (arith, linked.version));
            clock = counts-on;
            lead = λ below counted.
                subst (λ (n : ℕ).
                LeadTo (length opened.history) (call_count opened) (lines ++ line ∷ []) (length new.history) n)
                linked.calls
                (subst (λ (v : ℕ).
                LeadTo (length opened.history) (call_count opened) (lines ++ line ∷ []) v line.calls) linked.version
                (lead-on below counted));
            served = going.served ++ exchange ∷ [];
            lines_are = lines-on;
            unfailed = All-push (IsUnfailed before.faults) going.served exchange going.unfailed
                (record { before = faults; after = steps.faults.unfailed works ∙ faults });
            exchanges = exchanges-on;
            crash = λ observable rest.
                subst (λ (h : List Op). LeavesOnlyBoth before after Journal Sealed
                (CrashOpens start before opened h (lines ++ line ∷ []) (lines ++ line ∷ []))) (sym (gained observable))
                (crash-more observable disk (rests observable) (version-is observable) rest);
            over = over-more;
            session = session-on;
          }

    -- the disk failed after its request
    module _ (failed : Type 0) (fails : failed) (spent : is_spent new ≡ true)
        (pending_lawful : (observable : disk_observable) → door_observable
        → IsLawful opened.head (store.history ++ (linked.stored observable).operations))
        (counts : CountsFrom start before after opened) where
      version-was : line.version ≡ length store.history
      version-was = linked.version ∙ ap length (steps.stays spent)

      exchange-failed : IsFailed before.faults after.faults exchange
      exchange-failed = record {
        before = faults;
        after = refl;
        rose = subst (λ (n : ℕ). HasRisen n after.faults) faults (steps.faults.failed spent);
        reply = linked.failed spent;
      }

      history-breaks : (observable : disk_observable)
          → HasHistory answers after moments clock_observable door_observable (stored_of opened) (lines ++ line ∷ [])
          going.served (exchange ∷ []) (store.history ++ (linked.stored observable).operations) failed
      history-breaks observable =
          let on = linked.stored observable in
          let history = store.history ++ on.operations in
          let version = version-last (length opened.history) lines line ∙ version-was in
          record {
            more = going.more ++ on.operations;
            extends = ap (λ (h : List Op). h ++ on.operations) going.extends
                ∙ append_assoc opened.history going.more on.operations;
            no_fewer = omega (arith, version, length-append store.history on.operations);
            no_more = omega (arith, version, length-append store.history on.operations, on.at_most_one);
            documents = λ see.
                All-weaker (IsOver opened.head history) (SendsServed opened.head history)
                (sends-over opened.head history) (going.served ++ exchange ∷ [])
                (over-on observable see (pending_lawful observable see) (record {
                  within = omega (arith, version-was, length-append store.history on.operations);
                  sends = sends-other opened.head history exchange disk_fault (linked.failed spent)
                      (λ is. cc);
                }));
            session = λ clock see.
                let broken = on.broken_off (sees see) spent in (
                  opened,
                  refl,
                  session-ends answers (Ends answers failed after.content (exchange ∷ []) history) opened moments going.served store
                      coming
                      (λ last now at. (
                        fails,
                        subst (λ (s : StoreValue). IsBrokenOff answers s (now 0) exchange history) (sym at.0)
                            (subst (λ (m : ℕ). IsBrokenOff answers store m exchange history)
                            (broken.is_now clock ∙ sym (at.1 0)) broken.broken_off),
                      )) (going.session observable clock see),
                );
          }

      pub going-breaks : IsDisk disk_observable after → (disk_observable → IsAtRest before → IsAtRest amid)
          → ServesFrom answers start before after moments door last disk_observable clock_observable door_observable opened
          (lines ++ line ∷ []) failed
      going-breaks disk rests = record {
        served = going.served;
        last = exchange ∷ [];
        exchanges = exchanges-break start before after door last door_observable opened (lines ++ line ∷ [])
            going.served failed counts going.unfailed exchange exchanges-on lines-on fails exchange-failed;
        ordered = λ below.
            lead-in-order (length opened.history) (call_count opened) (lines ++ line ∷ []) line.version line.calls
            (lead-on below (counts below));
        within = λ below.
            lines-within start before after opened (lines ++ line ∷ []) line.version line.calls (counts below)
            (line-calls below (counts below)) (lead-on below (counts below));
        history = λ observable. store.history ++ (linked.stored observable).operations;
        stored = history-breaks;
        crash = λ observable rest.
            let on = linked.stored observable in
            subst (λ (unbroken : List Line). LeavesServing start before after opened.head (length opened.history)
            (store.history ++ on.operations) (lines ++ line ∷ []) unbroken failed) going.lines_are
            (leaves-serving start before after opened (store.history ++ on.operations) (lines ++ line ∷ []) lines
            failed (length store.history) counts grown
            (versions-more store.history (omega arith) (omega (arith, version-was)))
            (crash-break observable disk (rests observable) rest)
            (λ i j may may'. past-opened observable disk (rests observable) i j ((on.leaves (rests observable rest)).now i j may may'))
            (λ works. absurd (works fails)));
      }
