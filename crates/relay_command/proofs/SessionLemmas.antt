-- The connections of a session so far, and one more.
use Rattle.std.proofs.Common.{◌≡◌, refl, sym, ap, ◌∙◌, subst, ℕ, ◌≤◌, List, [], ◌∷◌, ◌++◌}
use Rattle.std.proofs.Common.{map, All, arith, false, true, zero-add}
use Rattle.std.specs.Prelude.{Some, None, IfSome, OnOk, IfErr, Result, is_ok}
use Rattle.std.proofs.lemmas.List.{append-nil, map-append}
use Rattle.std.proofs.lemmas.List.Elements.{All-nil, All-push, All-weaker}
use Rattle.atom_values.specs.Counts.{HasCause, HasRisen}
use Rattle.document_server.specs.Door.{DoorState, SameLinks}
use Rattle.document_server.specs.Serving.{HasLinks}
use Rattle.document_server.specs.Session.{Exchange, IsOneFailed, read_limit}
use Rattle.document_server.specs.declared.line.Line.{Line}
use Rattle.document_server.proofs.LinkLemmas.{needed-written, read-written, reported-none, reported-reply, sent-none, sent-reply}
use Rattle.document_server.proofs.SessionLemmas.{Passes, links-listened, links-more, links-none, links-still}
use Rattle.feed_disk.specs.Disk.{DiskState}
use Rattle.feed_disk.specs.Raised.{RisesAtMost}
use Rattle.http_face.specs.Conn.{ConnState, LastReadAfter, Reads, Writes}
use Rattle.http_face.specs.Reply.{HasPhrase, IsCutOff, disk_fault, reply_bytes}
use Rattle.http_face.specs.Settled.{IsUnsettled}
use Rattle.http_face.specs.declared.fault.CutOff.{CutOff}
use Rattle.http_face.specs.declared.reply.Reply.{Reply}
use Rattle.mirror_walk.specs.Holding.{KeptValue}
use Rattle.mirror_walk.specs.Mirror.{MirrorValue, is_spent}
use Rattle.relay_command.specs.Session.{IsExchange, IsReplyTo, IsUnbroken, IsWithin, Relays, RelaysOne, SendsDocument}
use Rattle.relay_command.specs.Session.{exchange_at, line_of, version_of}
use Rattle.relay_command.specs.declared.session.Served.{Served}

-- One connection

module _ (disk_observable conn_observable : Type 0) (base : List ℕ) (kept : List KeptValue) (before after : DiskState)
    (given back : ConnState) (spent : Type 0) where
  -- no reply was begun
  pub relays-none : HasRisen given.faults back.faults → Reads given back → given.begun ≡ None
      → RisesAtMost read_limit given.bytes_read back.bytes_read
      → (conn_observable → LastReadAfter IsUnsettled given back) → ¬ spent
      → RelaysOne disk_observable conn_observable base kept before after given back spent 0
  relays-none rose reads unbegun read needed unspent =
      let line : Line = record { status = 0; version = version_of kept; calls = after.clock; whole = false } in
      record {
        reply = None;
        whole = false;
        exchange = record {
          reported = reported-none before after given back line refl refl (reads.begun ∙ unbegun) rose read;
          version = refl;
          marked = λ some. absurd (some refl);
          sent = λ tells. sent-none before after given back line reads (needed tells);
          replied = λ tells. tt;
          documents = λ seen tells. tt;
        };
        failed = λ fails. absurd (unspent fails);
        unfailed = λ works e. cc;
      }

  -- a reply was sent, or a prefix of it
  pub relays-reply : (read begun : ConnState) (reply : Reply) (result : Result Unit CutOff) → HasPhrase reply.status
      → (conn_observable → IfSome (Some reply) (IsReplyTo disk_observable base kept given.left))
      → (disk_observable → conn_observable → IfSome (Some reply) (SendsDocument base kept given.left))
      → Reads given read → read.faults ≡ given.faults → RisesAtMost read_limit given.bytes_read read.bytes_read
      → (conn_observable → LastReadAfter IsUnsettled given read)
      → begun ≡ record read { begun = Some after.clock } → Writes begun back
      → HasCause begun.faults back.faults result
      → OnOk result (conn_observable → back.sent ≡ begun.sent ++ reply_bytes reply)
      → IfErr result (λ cut. IsCutOff conn_observable (reply_bytes reply) cut.sent begun.sent back.sent)
      → (spent → Some reply ≡ Some disk_fault) → (Some reply ≡ Some disk_fault → spent)
      → RelaysOne disk_observable conn_observable base kept before after given back spent reply.status
  relays-reply read begun reply result phrase replied documents reads faults taken needed is writes counts whole cut
      failed only =
      let line : Line =
      record { status = reply.status; version = version_of kept; calls = after.clock; whole = is_ok result } in
      record {
        reply = Some reply;
        whole = is_ok result;
        exchange = record {
          reported = reported-reply before after given back line begun reply result refl phrase
              (ap (λ (s : ConnState). s.faults) is ∙ faults) counts refl
              (read-written given read begun back (ap (λ (s : ConnState). s.bytes_read) is) writes taken);
          version = refl;
          marked = λ _. writes.begun ∙ ap (λ (s : ConnState). s.begun) is ∙ ap Some (sym (zero-add after.clock));
          sent = λ tells. sent-reply before after given back line conn_observable begun reply result tells
              (ap (λ (s : ConnState). s.sent) is ∙ reads.sent) whole cut refl
              (needed-written given read begun back (ap (λ (s : ConnState). s.reads) is)
              (ap (λ (s : ConnState). s.before_read) is) writes (needed tells));
          replied = replied;
          documents = documents;
        };
        failed = failed;
        unfailed = λ works e. works (only e);
      }

-- a door whose connections contracts see gives connections whose bytes they see
exchange-tells : (disk_observable conn_observable door_observable : Type 0) (base : List ℕ) (kept : List KeptValue)
    (exchange : Exchange) → (door_observable → conn_observable)
    → IsExchange disk_observable conn_observable base kept exchange
    → IsExchange disk_observable door_observable base kept exchange
exchange-tells disk_observable conn_observable door_observable base kept exchange tells is = record {
  reported = is.reported;
  version = is.version;
  marked = is.marked;
  sent = λ seen. is.sent (tells seen);
  replied = λ seen. is.replied (tells seen);
  documents = λ disk seen. is.documents disk (tells seen);
}

-- The connections so far

-- connections were served, and no device call failed
pub record Going (disk_observable door_observable : Type 0) (base : List ℕ) (kept : List KeptValue)
    (before after : DiskState) (door rest : DoorState) (lines : List Served) : Type 0 where
  pub served : List Exchange
  pub lines_are : lines ≡ map line_of served
  pub each : All (IsExchange disk_observable door_observable base kept) served
  pub clocks : All (IsWithin before after) served
  pub unbroken : All (IsUnbroken before.faults) served
  pub linked : door_observable → HasLinks door rest served

module _ (disk_observable door_observable : Type 0) (base : List ℕ) (kept : List KeptValue) where
  pub going-begins : (disk : DiskState) (door : DoorState)
      → Going disk_observable door_observable base kept disk disk door door []
  going-begins disk door = record {
    served = [];
    lines_are = refl;
    each = All-nil (IsExchange disk_observable door_observable base kept);
    clocks = All-nil (IsWithin disk disk);
    unbroken = All-nil (IsUnbroken disk.faults);
    linked = λ seen. links-none door;
  }

  -- a call of the door that gives no connection
  pub going-still : (before after : DiskState) (door rest later : DoorState) (lines : List Served)
      → Going disk_observable door_observable base kept before after door rest lines
      → (door_observable → SameLinks rest later)
      → Going disk_observable door_observable base kept before after door later lines
  going-still before after door rest later lines going same = record {
    served = going.served;
    lines_are = going.lines_are;
    each = going.each;
    clocks = going.clocks;
    unbroken = going.unbroken;
    linked = λ seen. links-still door rest later going.served (going.linked seen) (same seen);
  }

  lines-push : (lines : List Served) (served : List Exchange) (exchange : Exchange) (line : Served)
      → lines ≡ map line_of served → line ≡ line_of exchange
      → lines ++ line ∷ [] ≡ map line_of (served ++ exchange ∷ [])
  lines-push lines served exchange line so_far is =
      ap (λ (l : List Served). l ++ line ∷ []) so_far
      ∙ ap (λ (l : Served). map line_of served ++ l ∷ []) is
      ∙ sym (map-append line_of served (exchange ∷ []))

  clocks-later : (before after behind : DiskState) (served : List Exchange) → after.clock ≤ behind.clock
      → All (IsWithin before after) served → All (IsWithin before behind) served
  clocks-later before after behind served on clocks =
      All-weaker (IsWithin before after) (IsWithin before behind)
      (λ exchange within. (within.0, omega (arith, within.1, on))) served clocks

  module _ (conn_observable : Type 0) (before after behind : DiskState) (given back : ConnState)
      (door rest later : DoorState) (lines : List Served) (spent : Type 0) (status : ℕ)
      (going : Going disk_observable door_observable base kept before after door rest lines)
      (one : RelaysOne disk_observable conn_observable base kept after behind given back spent status)
      (tells : door_observable → conn_observable) (passes : door_observable → Passes rest later given back)
      (same : after.faults ≡ before.faults) (began : before.clock ≤ after.clock) (on : after.clock ≤ behind.clock) where
    abbrev last-exchange : Exchange
    last-exchange = exchange_at after behind given back one.reply status (version_of kept) one.whole

    each-more : All (IsExchange disk_observable door_observable base kept) (going.served ++ last-exchange ∷ [])
    each-more = All-push (IsExchange disk_observable door_observable base kept) going.served last-exchange going.each
        (exchange-tells disk_observable conn_observable door_observable base kept last-exchange tells one.exchange)

    clocks-more : All (IsWithin before behind) (going.served ++ last-exchange ∷ [])
    clocks-more = All-push (IsWithin before behind) going.served last-exchange
        (clocks-later before after behind going.served on going.clocks) (omega (arith, began, on), omega arith)

    linked-more : door_observable → HasLinks door later (going.served ++ last-exchange ∷ [])
    linked-more seen = links-more door rest later going.served last-exchange (going.linked seen) (passes seen)

    -- one more, and no device call failed
    pub going-more : behind.faults ≡ after.faults → ¬ spent
        → Going disk_observable door_observable base kept before behind door later
        (lines ++ record { status = status; version = version_of kept } ∷ [])
    going-more unfailed works = record {
      served = going.served ++ last-exchange ∷ [];
      lines_are = lines-push lines going.served last-exchange (record { status = status; version = version_of kept })
          going.lines_are refl;
      each = each-more;
      clocks = clocks-more;
      unbroken = All-push (IsUnbroken before.faults) going.served last-exchange going.unbroken (record {
        unfailed = record { before = same; after = unfailed ∙ same };
        other = one.unfailed works;
      });
      linked = linked-more;
    }

    -- one more, in which a device call failed
    pub going-breaks : (failed : Type 0) → failed → spent → HasRisen after.faults behind.faults
        → Relays disk_observable door_observable base kept before behind door later
        (lines ++ record { status = status; version = version_of kept } ∷ []) failed
    going-breaks failed fails spends rose = record {
      served = going.served;
      last = last-exchange ∷ [];
      lines_are = lines-push lines going.served last-exchange (record { status = status; version = version_of kept })
          going.lines_are refl;
      each = each-more;
      clocks = clocks-more;
      unbroken = going.unbroken;
      all_served = λ works. absurd (works fails);
      broken_off = λ _. record {
        before = same;
        after = refl;
        rose = subst (λ (n : ℕ). HasRisen n behind.faults) same rose;
        reply = one.failed spends;
      };
      linked = linked-more;
    }

  -- the session ends with the connections so far
  pub going-ends : (before after : DiskState) (door rest : DoorState) (lines : List Served) (failed : Type 0)
      → Going disk_observable door_observable base kept before after door rest lines → ¬ failed
      → Relays disk_observable door_observable base kept before after door rest lines failed
  going-ends before after door rest lines failed going works =
      let none : going.served ++ [] ≡ going.served = append-nil going.served in
      record {
        served = going.served;
        last = [];
        lines_are = going.lines_are ∙ ap (map line_of) (sym none);
        each = subst (All (IsExchange disk_observable door_observable base kept)) (sym none) going.each;
        clocks = subst (All (IsWithin before after)) (sym none) going.clocks;
        unbroken = going.unbroken;
        all_served = λ _. refl;
        broken_off = λ fails. absurd (works fails);
        linked = λ seen. subst (HasLinks door rest) (sym none) (going.linked seen);
      }

  -- the session from before the load of the mirror, and from before the door was opened
  pub relays-from : (first before after : DiskState) (door listened rest : DoorState) (lines : List Served)
      (failed : Type 0) → first.clock ≤ before.clock → before.faults ≡ first.faults
      → (door_observable → SameLinks door listened)
      → Relays disk_observable door_observable base kept before after listened rest lines failed
      → Relays disk_observable door_observable base kept first after door rest lines failed
  relays-from first before after door listened rest lines failed on unfailed same relays = record {
    served = relays.served;
    last = relays.last;
    lines_are = relays.lines_are;
    each = relays.each;
    clocks = All-weaker (IsWithin before after) (IsWithin first after)
        (λ exchange within. (omega (arith, within.0, on), within.1)) (relays.served ++ relays.last) relays.clocks;
    unbroken = subst (λ (n : ℕ). All (IsUnbroken n) relays.served) unfailed relays.unbroken;
    all_served = relays.all_served;
    broken_off = λ fails. subst (λ (n : ℕ). IsOneFailed n after.faults relays.last) unfailed (relays.broken_off fails);
    linked = λ seen. links-listened door listened rest (relays.served ++ relays.last) (same seen) (relays.linked seen);
  }

-- a connection was served by a mirror that holds the same as the first one
pub relays-of : (disk_observable conn_observable : Type 0) (base : List ℕ) (holds kept : List KeptValue)
    → holds ≡ kept → (before after : DiskState) (given back : ConnState) (spent : Type 0) (status : ℕ)
    → RelaysOne disk_observable conn_observable base holds before after given back spent status
    → RelaysOne disk_observable conn_observable base kept before after given back spent status
relays-of disk_observable conn_observable base holds kept same before after given back spent status one =
    subst (λ (k : List KeptValue). RelaysOne disk_observable conn_observable base k before after given back spent status)
    same one

-- the line that was added has the version of the documents held
pub line-pushed : (lines : List Served) (status version : ℕ) (kept : List KeptValue) → version ≡ version_of kept
    → (pushed : List Served) → pushed ≡ lines ++ record { status = status; version = version } ∷ []
    → lines ++ record { status = status; version = version_of kept } ∷ [] ≡ pushed
line-pushed lines status version kept is pushed all =
    ap (λ (v : ℕ). lines ++ record { status = status; version = v } ∷ []) (sym is) ∙ sym all

pub not-spent : (mirror : MirrorValue) → is_spent mirror ≡ false → is_spent mirror ≡ true → ⊥
not-spent mirror unspent spent = cc
