-- A connection that is served on a store.
use Rattle.std.proofs.Common.{◌≡◌, ◌≢◌, ◌⊎◌, inl, inr, refl, sym, ap, ◌∙◌, ℕ, ◌+◌, ◌≤◌, true, false, List, []}
use Rattle.std.proofs.Common.{◌++◌, length, subst, zero-add, add_comm, arith, Bool}
use Rattle.std.specs.Prelude.{Option, Some, None, Result, Ok, Err, IfErr, OnOk, is_ok}
use Rattle.std.proofs.lemmas.Bool.{cases_eq}
use Rattle.std.proofs.lemmas.List.{append-nil}
use Rattle.atom_values.specs.Counts.{HasCause, HasRisen}
use Rattle.document_server.specs.Answer.{Grows, IsAnswer, IsDone, LeavesAnswered, MayAdd, Steps, added}
use Rattle.document_server.specs.Reply.{Outcome}
use Rattle.document_server.specs.Served.{Answering}
use Rattle.document_server.specs.Serving.{IsReplyOn, RepliesOne, ServesOne, exchange_of}
use Rattle.document_server.specs.Session.{IsReported, IsSent, IsTurn, read_limit, unheard}
use Rattle.document_server.specs.declared.line.Line.{Line}
use Rattle.document_server.proofs.StepLemmas.{gains-none}
use Rattle.feed_disk.specs.Disk.{DiskState}
use Rattle.feed_disk.specs.Raised.{RisesAtMost}
use Rattle.feed_recovery.specs.Store.{StoreValue, call_count, is_spent}
use Rattle.feed_recovery.specs.Stored.{IsSized}
use Rattle.http_face.specs.Conn.{ConnState, LastReadAfter, Reads, Writes}
use Rattle.http_face.specs.Heard.{IsHeard, IsMisheard}
use Rattle.http_face.specs.Reply.{HasPhrase, IsCutOff, reply_bytes, disk_fault, fault_reply}
use Rattle.http_face.specs.Request.{IsRequest, RequestValue}
use Rattle.http_face.specs.Settled.{IsUnsettled}
use Rattle.http_face.specs.declared.fault.CutOff.{CutOff}
use Rattle.http_face.specs.declared.fault.RequestFault.{RequestFault}
use Rattle.http_face.specs.declared.fault.RequestFault.TheVariants as fault
use Rattle.http_face.specs.declared.reply.Reply.{Reply}
use Rattle.http_face.specs.declared.request.Verb.{Verb}
use Rattle.http_face.specs.declared.request.Verb.TheVariants.{Get, Head, Post, Put, Delete, Options, Patch, Other}
use Rattle.member_rules.specs.declared.operation.Op.{Op}

-- The operations that a request may add

added-one : (adds : Option Op) → length (added adds) ≤ 1
added-one None = omega arith
added-one (Some operation) = omega arith

may-add-one : (outcomes : Outcome → Type 0) (operations : List Op) → MayAdd outcomes operations
    → length operations ≤ 1
may-add-one outcomes operations (inl none) = rw none (omega arith)
may-add-one outcomes operations (inr (given, is_one, is)) = rw is (added-one given.adds)

is-get : (verb : Verb) → (verb ≡ Get) ⊎ (verb ≢ Get)
is-get Get = inl refl
is-get Head = inr (λ e. cc)
is-get Post = inr (λ e. cc)
is-get Put = inr (λ e. cc)
is-get Delete = inr (λ e. cc)
is-get Options = inr (λ e. cc)
is-get Patch = inr (λ e. cc)
is-get Other = inr (λ e. cc)

is-done : (reply : Reply) → IsDone reply ⊎ (¬ IsDone reply)
is-done reply =
    elim (cases_eq reply.status 200) [
      | inl ok ↦ inl (inl ok)
      | inr other ↦ elim (cases_eq reply.status 201) [
        | inl created ↦ inl (inr created)
        | inr neither ↦ inr (λ done. elim done [ inl e ↦ other e | inr e ↦ neither e ])
      ]
    ]

-- a failed disk acknowledges nothing
undone : {reply : Reply} → reply ≡ disk_fault → ¬ IsDone reply
undone {reply} is (inl ok) =
    let e : reply.status ≡ 500 = ap (λ (r : Reply). r.status) is in
    omega arith
undone {reply} is (inr created) =
    let e : reply.status ≡ 500 = ap (λ (r : Reply). r.status) is in
    omega arith

-- the history stays or grows
pub stays-or-grows : (verb : Verb) (reply : Reply) (same grown : Type 0) → (verb ≢ Get → IsDone reply → grown)
    → ((verb ≡ Get) ⊎ (¬ IsDone reply) → same) → same ⊎ grown
stays-or-grows verb reply same grown grows stays =
    elim (is-get verb) [
      | inl get ↦ inl (stays (inl get))
      | inr other ↦ elim (is-done reply) [
        | inl done ↦ inr (grows other done)
        | inr undone ↦ inl (stays (inr undone))
      ]
    ]

-- The reply to a connection

pub none-since : {T : Type 0} (given : Option T) → ((value : T) → given ≡ Some value → ⊥) → given ≡ None
none-since None other = refl
none-since (Some value) other = absurd (other value refl)

-- a turn is the same after its reply was sent
pub turn-sent : {answers : Answering} (s t : DiskState) (store : StoreValue) (now : ℕ) (given read back : ConnState) (reply : Reply)
    (line line' : Line) (turn : _) → IsTurn answers store now (exchange_of s t given read (Some reply) line) turn
    → IsTurn answers store now (exchange_of s t given back (Some reply) line') turn
turn-sent s t store now given read back reply line line' turn (inl lost) =
    let none : Some reply ≡ None = lost.reply in
    absurd cc
turn-sent s t store now given read back reply line line' turn (inr (inl refused)) = inr (inl (record {
  fault = refused.fault;
  misheard = refused.misheard;
  reply = refused.reply;
  is = refused.is;
}))
turn-sent s t store now given read back reply line line' turn (inr (inr (inl answered))) = inr (inr (inl (record {
  request = answered.request;
  rules = answered.rules;
  heard = answered.heard;
  outcome = answered.outcome;
  is_outcome = answered.is_outcome;
  reply = answered.reply;
  is = answered.is;
})))
turn-sent s t store now given read back reply line line' turn (inr (inr (inr forgotten))) =
    inr (inr (inr (record { reply = forgotten.reply; is = forgotten.is })))

-- the turn of a connection whose bytes are no request, or that failed
fault-turn : {answers : Answering} (s t : DiskState) (store : StoreValue) (now : ℕ) (given read : ConnState) (line : Line)
    (reason : RequestFault) → (reason ≡ fault.ConnFault → HasRisen given.faults read.faults)
    → (reason ≢ fault.ConnFault → reason ≢ fault.NoMemory → IsMisheard given.left reason)
    → IsTurn answers store now (exchange_of s t given read (fault_reply reason) line) unheard
fault-turn s t store now given read line fault.ConnFault failed refused =
    inl (record { cause = failed refl; reply = refl; is = refl })
fault-turn s t store now given read line fault.NoMemory failed refused =
    inr (inr (inr (record { reply = refl; is = inl refl })))
fault-turn s t store now given read line reason failed refused = inr (inl (record {
  fault = reason;
  misheard = refused (λ e. cc) (λ e. cc);
  reply = refl;
  is = refl;
}))

module _ (answers : Answering) (s t : DiskState) (moments coming : ℕ → ℕ) (given read : ConnState)
    (clock_observable conn_observable : Type 0) (old new : StoreValue) where
  -- the reply of an answered request
  answered-on : (request : RequestValue) (now : ℕ) (reply : Reply) (rose : Type 0) → IsRequest request
      → IsHeard given.left request → (clock_observable → now ≡ moments 0)
      → (clock_observable → (k : ℕ) → coming k ≡ moments (k + 1)) → is_spent new ≡ false
      → IsAnswer (answers old request now) old new reply rose
      → IsReplyOn answers s t moments coming clock_observable old given read (Some reply) new
  answered-on request now reply rose rules heard moment later unspent (inl replied) = record {
    now = now;
    is_now = moment;
    turn = record { adds = replied.given.adds; moments = 1 };
    is_turn = λ line. inr (inr (inl (record {
      request = request;
      rules = rules;
      heard = heard;
      outcome = replied.given;
      is_outcome = replied.is_one;
      reply = ap Some replied.reply_is;
      is = refl;
    })));
    gains = replied.gains;
    clock = λ observable k. later observable k ∙ ap moments (add_comm k 1);
  }
  answered-on request now reply rose rules heard moment later unspent (inr (inl forgotten)) = record {
    now = now;
    is_now = moment;
    turn = record { adds = None; moments = 1 };
    is_turn = λ line. inr (inr (inr (record {
      reply = ap Some forgotten.0;
      is = inr (request, heard, refl);
    })));
    gains = forgotten.1;
    clock = λ observable k. later observable k ∙ ap moments (add_comm k 1);
  }
  answered-on request now reply rose rules heard moment later unspent (inr (inr failed)) = absurd cc

  pub replies-answered : (request : RequestValue) (now : ℕ) (reply : Reply) (rose : Type 0) → IsSized old
      → IsRequest request → (conn_observable → IsHeard given.left request) → (clock_observable → now ≡ moments 0)
      → (clock_observable → (k : ℕ) → coming k ≡ moments (k + 1))
      → IsAnswer (answers old request now) old new reply rose
      → LeavesAnswered (answers old request now) s t old new (reply ≡ disk_fault)
      → (reply ≡ disk_fault → is_spent new ≡ true) → (is_spent new ≡ true → reply ≡ disk_fault)
      → RepliesOne answers s t moments coming given read clock_observable conn_observable old new (Some reply)
  replies-answered request now reply rose sized rules heard moment later answer left spent only = record {
    sized = sized;
    operations = left.operations;
    at_most_one = may-add-one _ left.operations left.may;
    leaves = left.leaves;
    gained = λ unspent. left.gained (λ is. let e : is_spent new ≡ true = spent is in cc);
    replied = λ observable unspent. answered-on request now reply rose rules (heard observable) moment later unspent answer;
    failed = λ observable is_failed. record {
      now = now;
      is_now = moment;
      request = request;
      rules = rules;
      heard = heard observable;
      may = left.may;
      is = ap Some (only is_failed);
    };
  }

-- the reply to bytes that are no request
pub replies-refused : {answers : Answering} (s : DiskState) (moments : ℕ → ℕ) (given read : ConnState)
    (clock_observable conn_observable failed : Type 0) (store : StoreValue) (reason : RequestFault)
    → IsSized store → is_spent store ≡ false → ¬ failed
    → (reason ≡ fault.ConnFault → HasRisen given.faults read.faults)
    → (reason ≢ fault.ConnFault → reason ≢ fault.NoMemory → conn_observable → IsMisheard given.left reason)
    → LeavesAnswered (λ _. ⊥) s s store store failed
    → RepliesOne answers s s moments moments given read clock_observable conn_observable store store (fault_reply reason)
replies-refused s moments given read clock_observable conn_observable failed store reason sized unspent worked lost
    refused left = record {
      sized = sized;
      operations = left.operations;
      at_most_one = may-add-one _ left.operations left.may;
      leaves = left.leaves;
      gained = λ _. left.gained worked;
      replied = λ observable _. record {
        now = moments 0;
        is_now = λ _. refl;
        turn = unheard;
        is_turn = λ line. fault-turn s s store (moments 0) given read line reason lost
            (λ other other'. refused other other' observable);
        gains = gains-none store store refl refl;
        clock = λ _ k. ap moments (sym (zero-add k));
      };
      failed = λ observable spent. absurd cc;
    }

-- a call that writes makes no read
pub read-written : (given read begun back : ConnState) → begun.bytes_read ≡ read.bytes_read → Writes begun back
    → RisesAtMost read_limit given.bytes_read read.bytes_read → RisesAtMost read_limit given.bytes_read back.bytes_read
read-written given read begun back same writes rises =
    subst (RisesAtMost read_limit given.bytes_read) (sym (writes.bytes_read ∙ same)) rises

pub needed-written : (given read begun back : ConnState) → begun.reads ≡ read.reads
    → begun.before_read ≡ read.before_read → Writes begun back → LastReadAfter IsUnsettled given read
    → LastReadAfter IsUnsettled given back
needed-written given read begun back reads before writes needed = record {
  last = elim needed.last [
    | inl (same, kept) ↦ inl (writes.reads ∙ reads ∙ same, writes.before_read ∙ before ∙ kept)
    | inr (front, is, unsettled) ↦
        inr (front, subst (λ (b : List ℕ). given.left ≡ front ++ b) (sym (writes.before_read ∙ before)) is, unsettled)
  ];
}

-- The reply is sent

module _ (s t : DiskState) (given back : ConnState) (line : Line) where
  -- no reply was begun, and the connection failed
  pub reported-none : line.status ≡ 0 → line.whole ≡ false → back.begun ≡ None
      → HasRisen given.faults back.faults → RisesAtMost read_limit given.bytes_read back.bytes_read
      → IsReported (exchange_of s t given back None line)
  reported-none status cut unbegun rose read = record {
    status = status;
    cause = λ _. rose;
    unbegun = λ _. unbegun;
    no_reply = λ _. cut;
    read = read;
  }

  pub sent-none : Reads given back → LastReadAfter IsUnsettled given back
      → IsSent (exchange_of s t given back None line)
  sent-none reads needed = record {
    front = [];
    rest = [];
    split = refl;
    sent = reads.sent ∙ sym (append-nil given.sent);
    whole = λ _. refl;
    needed = needed;
  }

  -- a status that has a phrase isn't 0
  phrase-some : (status : ℕ) → HasPhrase status → status ≢ 0
  phrase-some status phrase is =
      let none : false ≡ true = subst HasPhrase is phrase in
      cc

  cut-rose : (result : Result Unit CutOff) (before after : ℕ) (whole : Bool) → whole ≡ is_ok result
      → HasCause before after result → whole ≡ false → HasRisen before after
  cut-rose (Ok done) before after whole is counts cut = absurd cc
  cut-rose (Err failure) before after whole is counts cut = counts.failed

  pub reported-reply : (begun : ConnState) (reply : Reply) (result : Result Unit CutOff)
      → line.status ≡ reply.status → HasPhrase reply.status → begun.faults ≡ given.faults
      → HasCause begun.faults back.faults result → line.whole ≡ is_ok result
      → RisesAtMost read_limit given.bytes_read back.bytes_read
      → IsReported (exchange_of s t given back (Some reply) line)
  reported-reply begun reply result status phrase faults counts whole read =
      let some : line.status ≢ 0 = λ none. phrase-some reply.status phrase (sym status ∙ none) in
      record {
        status = status;
        cause = elim [
          | inl none ↦ absurd (some none)
          | inr cut ↦
              subst (λ (n : ℕ). HasRisen n back.faults) faults
              (cut-rose result begun.faults back.faults line.whole whole counts cut)
        ];
        unbegun = λ none. absurd (some none);
        no_reply = λ none. absurd (some none);
        read = read;
      }

  pub sent-reply : (observable : Type 0) (begun : ConnState) (reply : Reply) (result : Result Unit CutOff) → observable
      → begun.sent ≡ given.sent → OnOk result (observable → back.sent ≡ begun.sent ++ reply_bytes reply)
      → IfErr result (λ cut. IsCutOff observable (reply_bytes reply) cut.sent begun.sent back.sent)
      → line.whole ≡ is_ok result → LastReadAfter IsUnsettled given back
      → IsSent (exchange_of s t given back (Some reply) line)
  sent-reply observable begun reply (Ok done) tells sent whole cut is needed = record {
    front = reply_bytes reply;
    rest = [];
    split = sym (append-nil (reply_bytes reply));
    sent = whole tells ∙ ap (λ (b : List ℕ). b ++ reply_bytes reply) sent;
    whole = λ _. refl;
    needed = needed;
  }
  sent-reply observable begun reply (Err failure) tells sent whole cut is needed = record {
    front = cut.front;
    rest = cut.back;
    split = cut.split;
    sent = cut.sent tells ∙ ap (λ (b : List ℕ). b ++ cut.front) sent;
    whole = λ e. absurd cc;
    needed = needed;
  }

-- The connection was served

pub serves-one : {answers : Answering} (s t : DiskState) (moments coming : ℕ → ℕ) (given read back : ConnState)
    (disk_observable clock_observable conn_observable : Type 0) (old new : StoreValue) (reply : Option Reply)
    (line : Line)
    → ((now : ℕ) (turn : _) → IsTurn answers old now (exchange_of s t given read reply line) turn
    → IsTurn answers old now (exchange_of s t given back reply line) turn)
    → (disk_observable → RepliesOne answers s t moments coming given read clock_observable conn_observable old new reply)
    → Steps disk_observable s t old new (is_spent new ≡ true) → (is_spent new ≡ true → reply ≡ Some disk_fault)
    → IsReported (exchange_of s t given back reply line)
    → (conn_observable → IsSent (exchange_of s t given back reply line)) → line.version ≡ length new.history
    → line.calls ≡ call_count new → (new.history ≡ old.history) ⊎ Grows s t old new
    → (line.status ≢ 0 → back.begun ≡ Some t.clock)
    → ServesOne answers s t moments coming given back disk_observable clock_observable conn_observable old new line
serves-one s t moments coming given read back disk_observable clock_observable conn_observable old new reply line turns
    replies steps fault reported sent version calls grows begun = record {
      reply = reply;
      reported = reported;
      failed = fault;
      sent = sent;
      stored = λ observable.
          let one = replies observable in
          record {
            operations = one.operations;
            at_most_one = one.at_most_one;
            leaves = one.leaves;
            gained = one.gained;
            served = λ tells unspent. let on = one.replied tells unspent in record {
              now = on.now;
              is_now = on.is_now;
              turn = on.turn;
              served = record {
                sized = one.sized;
                is_turn = turns on.now on.turn (on.is_turn line);
                head = steps.head;
                gains = on.gains;
                version = version;
              };
              clock = on.clock;
            };
            broken_off = λ tells spent. let on = one.failed tells spent in record {
              now = on.now;
              is_now = on.is_now;
              broken_off = record {
                sized = one.sized;
                request = on.request;
                rules = on.rules;
                heard = on.heard;
                pending = one.operations;
                may = on.may;
                history_is = refl;
                reply = on.is;
                version = version ∙ ap (length {A = Op}) (steps.stays spent);
              };
            };
          };
      version = version;
      calls = calls;
      grows = grows;
      begun = begun;
    }
