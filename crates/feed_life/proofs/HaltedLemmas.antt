-- A life after a request that was stopped, or after a change of a setting.
use Rattle.std.proofs.Common.{◌≡◌, ◌⊎◌, inl, inr, ℕ, List, All, false, sym, subst}
use Rattle.std.specs.List.{AllZip}
use Rattle.document_server.specs.Answer.{added}
use Rattle.feed_disk.specs.Memory.{MemoryValue}
use Rattle.feed_life.specs.Life.{IsMirrorOf, IsSentBy, IsStoreOf, LifeValue, Lives}
use Rattle.feed_life.specs.Asks.{Gains, IsAnswered, IsHalted, IsLeft, IsSet, LeavesStopped, Outcomes, of_setting}
use Rattle.feed_life.specs.Crashes.{HasPayloadsOf}
use Rattle.feed_life.specs.declared.event.Stop.{Stop}
use Rattle.feed_life.specs.declared.sent.SentDoc.{SentDoc}
use Rattle.feed_life.proofs.StayLemmas.{all-sent-later, mirrors-later}
use Rattle.document_server.specs.declared.line.Line.{Line}
use Rattle.http_face.specs.declared.reply.Reply.{Reply}
use Rattle.member_rules.specs.Head.{HeadValue}
use Rattle.member_rules.specs.History.{IsLawful}
use Rattle.member_rules.specs.declared.operation.Op.{Op}
use Rattle.member_rules.specs.declared.setting.Setting.{Setting}
use Rattle.mirror_walk.specs.Holding.{KeptValue}

-- the documents sent and those held fit the history that a stop leaves
record Stays (head : HeadValue) (later : List Op) (docs : List SentDoc) (disks : List MemoryValue)
    (held : List (List KeptValue)) : Type 0 where
  sent : All (IsSentBy head later) docs
  mirrors : AllZip (IsMirrorOf head later) disks held

stays-stopped : (head : HeadValue) (outcomes : Outcomes) (history later : List Op) (docs : List SentDoc)
    (disk : MemoryValue) (disks : List MemoryValue) (held : List (List KeptValue)) → IsLawful head later
    → (later ≡ history) ⊎ Gains head outcomes history later disk → All (IsSentBy head history) docs
    → AllZip (IsMirrorOf head history) disks held → Stays head later docs disks held
stays-stopped head outcomes history later docs disk disks held lawful (inl same) sent mirrors =
    subst (λ (l : List Op). Stays head l docs disks held) (sym same) record { sent = sent; mirrors = mirrors }
stays-stopped head outcomes history later docs disk disks held lawful (inr gains) sent mirrors =
    let lawful_more = subst (IsLawful head) gains.history_is lawful in
    subst (λ (l : List Op). Stays head l docs disks held) (sym gains.history_is) record {
      sent = all-sent-later head history (added gains.outcome.adds) lawful_more docs sent;
      mirrors = mirrors-later head history (added gains.outcome.adds) lawful_more disks held mirrors;
    }

halted-inside : (old : LifeValue) (outcomes : Outcomes) (stop : Stop) (history : List Op)
    (held : List (List KeptValue)) (left disk : MemoryValue) (version sealed stops : ℕ) → Lives old history held
    → LeavesStopped old.head outcomes stop history old.disk left
    → ((later : List Op) → IsStoreOf old.head later left → IsLeft old.head later disk version sealed)
    → HasPayloadsOf left disk
    → IsHalted old (record old { disk = disk; version = version; sealed = sealed; stops = stops; lost = false }) outcomes
    stop history held
halted-inside old outcomes stop history held left disk version sealed stops lives stopped load same =
    let loaded = load stopped.later stopped.store in
    let stays = stays-stopped old.head outcomes history stopped.later old.sent old.disk old.mirrors held
    loaded.store.opens.is_journal.lawful stopped.stopped.gains lives.sent lives.mirrors in
    record {
      later = stopped.later;
      left = left;
      stopped = stopped.stopped;
      same = same;
      lives = record {
        store = loaded.store;
        version = loaded.version_is;
        sealed = loaded.sealed_is;
        sent = stays.sent;
        mirrors = stays.mirrors;
      };
    }

pub life-halted : (inside old : LifeValue) (outcomes : Outcomes) (stop : Stop) (history : List Op)
    (held : List (List KeptValue)) (made left disk : MemoryValue) (version sealed stops : ℕ) → inside ≡ old
    → Lives old history held → left ≡ made
    → (IsStoreOf inside.head history inside.disk
    → LeavesStopped inside.head outcomes stop history inside.disk made)
    → ((later : List Op) → IsStoreOf inside.head later left → IsLeft inside.head later disk version sealed)
    → HasPayloadsOf left disk
    → IsHalted old (record inside { disk = disk; version = version; sealed = sealed; stops = stops; lost = false })
    outcomes stop history held
life-halted inside old outcomes stop history held made left disk version sealed stops view lives put stopped load same =
    let before = subst (λ (l : LifeValue). Lives l history held) (sym view) lives in
    subst (λ (l : LifeValue). IsHalted l (record inside {
      disk = disk;
      version = version;
      sealed = sealed;
      stops = stops;
      lost = false;
    }) outcomes stop history held) view
    (halted-inside inside outcomes stop history held left disk version sealed stops before
    (subst (λ (d : MemoryValue). LeavesStopped inside.head outcomes stop history inside.disk d) (sym put)
    (stopped before.store)) load same)

set-inside : (old : LifeValue) (setting : Setting) (now : ℕ) (history : List Op) (held : List (List KeptValue))
    (disk : MemoryValue) (reply : Reply) (line : Line) (sealed : ℕ) → Lives old history held
    → IsAnswered old.head (of_setting setting now) history old.disk disk reply line sealed
    → IsSet old (record old { disk = disk; version = line.version; sealed = sealed; lost = false }) setting now history
    held
set-inside old setting now history held disk reply line sealed lives given =
    let replied = given.replied in
    let stays = stays-stopped old.head (of_setting setting now) history given.later old.sent old.disk old.mirrors held
    given.store.opens.is_journal.lawful
    (inr record {
      store = replied.store;
      loaded = replied.loaded;
      outcome = replied.outcome;
      is_outcome = replied.is_outcome;
      history_is = replied.history_is;
    }) lives.sent lives.mirrors in
    record {
      later = given.later;
      reply = reply;
      replied = replied;
      lives = record {
        store = given.store;
        version = given.version;
        sealed = given.sealed_is;
        sent = stays.sent;
        mirrors = stays.mirrors;
      };
    }

pub life-set : (inside old : LifeValue) (setting : Setting) (now : ℕ) (history : List Op)
    (held : List (List KeptValue)) (disk : MemoryValue) (reply : Reply) (line : Line) (sealed : ℕ) → inside ≡ old
    → Lives old history held
    → (IsStoreOf inside.head history inside.disk
    → IsAnswered inside.head (of_setting setting now) history inside.disk disk reply line sealed)
    → IsSet old (record inside { disk = disk; version = line.version; sealed = sealed; lost = false }) setting now
    history held
life-set inside old setting now history held disk reply line sealed view lives answer =
    let before = subst (λ (l : LifeValue). Lives l history held) (sym view) lives in
    subst (λ (l : LifeValue). IsSet l (record inside {
      disk = disk;
      version = line.version;
      sealed = sealed;
      lost = false;
    }) setting now history held) view
    (set-inside inside setting now history held disk reply line sealed before (answer before.store))
