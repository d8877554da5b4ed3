-- A step of a life by an event.
use Rattle.std.proofs.Common.{◌≡◌, inr, ℕ, ◌<◌, List, Option, None, Some, Bool, false, get_or, length, slice_get}
use Rattle.std.proofs.Common.{slice_set, ap, refl, sym, subst, ◌∙◌, Result, Ok, Err, OnOk}
use Rattle.std.proofs.lemmas.List.Elements.{All-get_or}
use Rattle.std.proofs.lemmas.Option.{same_Some, slice_get_read}
use Rattle.atom_values.specs.Counts.{counted}
use Rattle.document_server.specs.declared.line.Line.{Line}
use Rattle.feed_disk.specs.Memory.{MemoryValue}
use Rattle.feed_life.specs.Asks.{IsAsked, IsHalted, IsSet, of_request, of_setting}
use Rattle.feed_life.specs.Events.{IsStep, StepsGift, StepsMirror, with_stop}
use Rattle.feed_life.specs.Life.{IsMirrorOf, IsSentBy, IsStoreOf, LifeValue, Lives}
use Rattle.feed_life.specs.Mirrors.{IsGift, IsWalk, LeavesGiven, LeavesWalked}
use Rattle.feed_life.specs.declared.event.Event.TheVariants.{Ask, Give, Walk, Set}
use Rattle.feed_life.specs.declared.event.Stop.{Stop}
use Rattle.feed_life.specs.declared.sent.SentDoc.{SentDoc}
use Rattle.feed_life.proofs.ZipLemmas.{IsItem, zip-item, zip-set, zip-set_left}
use Rattle.http_face.specs.Request.{RequestValue}
use Rattle.member_rules.specs.declared.operation.Op.{Op}
use Rattle.member_rules.specs.declared.setting.Setting.{Setting}
use Rattle.mirror_walk.specs.Holding.{KeptValue}

-- Asks

pub ask-stepped : (old new : LifeValue) (request : RequestValue) (now : ℕ) (history : List Op)
    (held : List (List KeptValue)) (line : Line) → IsAsked old new request now history held line
    → new ≡ record old { disk = new.disk; sent = new.sent; version = new.version; sealed = new.sealed }
    → IsStep old new (Ask request now None) history held (Some line)
ask-stepped old new request now history held line asked stays = record {
  later = asked.later;
  left = held;
  steps = record {
    answer = line;
    line_is = refl;
    asked = asked;
    history_is = refl;
    held_is = refl;
    stays = stays;
  };
  lives = asked.lives;
}

-- the life after a stop
abbrev StaysHalted : LifeValue → LifeValue → Type 0
StaysHalted old new = new ≡ record old {
  disk = new.disk;
  version = new.version;
  sealed = new.sealed;
  stops = counted old.stops;
}

pub halt-stepped : (old new : LifeValue) (request : RequestValue) (now : ℕ) (stop : Stop) (history : List Op)
    (held : List (List KeptValue)) → IsHalted old new (of_request request now) stop history held → StaysHalted old new
    → IsStep old new (Ask request now (Some stop)) history held None
halt-stepped old new request now stop history held halted stays = record {
  later = halted.later;
  left = held;
  steps = record {
    no_line = refl;
    halted = halted;
    history_is = refl;
    held_is = refl;
    stays = stays;
  };
  lives = halted.lives;
}

-- Settings

-- what two clauses of a call together say once it worked
pub both-ok : {T E : Type 0} (result : Result T E) {P Q R : Type 0} → (P → Q → R) → OnOk result P → OnOk result Q
    → OnOk result R
both-ok (Ok value) both one other = both one other
both-ok (Err fault) both one other = tt

pub set-stepped : (old new : LifeValue) (setting : Setting) (now : ℕ) (history : List Op) (held : List (List KeptValue))
    → IsSet old new setting now history held
    → new ≡ record old { disk = new.disk; version = new.version; sealed = new.sealed }
    → IsStep old new (Set setting now None) history held None
set-stepped old new setting now history held is_set stays = record {
  later = is_set.later;
  left = held;
  steps = record {
    no_line = refl;
    is_set = is_set;
    history_is = refl;
    held_is = refl;
    stays = stays;
  };
  lives = is_set.lives;
}

pub set-halted : (old new : LifeValue) (setting : Setting) (now : ℕ) (stop : Stop) (history : List Op)
    (held : List (List KeptValue)) → IsHalted old new (of_setting setting now) stop history held → StaysHalted old new
    → IsStep old new (Set setting now (Some stop)) history held None
set-halted old new setting now stop history held halted stays = record {
  later = halted.later;
  left = held;
  steps = record {
    no_line = refl;
    halted = halted;
    history_is = refl;
    held_is = refl;
    stays = stays;
  };
  lives = halted.lives;
}

-- Mirrors

-- the life after an event of a mirror
abbrev pub mirror_left : LifeValue → ℕ → MemoryValue → MemoryValue → ℕ → LifeValue
mirror_left old mirror store disk stops = record old {
  disk = store;
  mirrors = slice_set old.mirrors mirror disk;
  mirror_stops = stops;
  lost = false;
}

module _ (old : LifeValue) (history : List Op) (held : List (List KeptValue)) (mirror : ℕ) (stop : Option Stop)
    (store disk : MemoryValue) (stops : ℕ) (lives : Lives old history held)
    (is_store : IsStoreOf old.head history store) (alive : old.lost ≡ false)
    (stops_are : stops ≡ with_stop stop old.mirror_stops) where
  abbrev left : LifeValue
  left = mirror_left old mirror store disk stops

  mirror-lives : (after : List KeptValue) → IsMirrorOf old.head history disk after
      → Lives left history (slice_set held mirror after)
  mirror-lives after is_mirror = record {
    store = is_store;
    version = lives.version;
    sealed = lives.sealed;
    sent = lives.sent;
    mirrors = zip-set (IsMirrorOf old.head history) old.mirrors held mirror disk after lives.mirrors is_mirror;
  }

  mirror-stays : left ≡ record old {
    disk = store;
    mirrors = slice_set old.mirrors mirror disk;
    mirror_stops = with_stop stop old.mirror_stops;
  }
  mirror-stays =
      ap (λ (n : ℕ). mirror_left old mirror store disk n) stops_are
      ∙ ap (λ (b : Bool). record old {
        disk = store;
        mirrors = slice_set old.mirrors mirror disk;
        mirror_stops = with_stop stop old.mirror_stops;
        lost = b;
      }) (sym alive)

  mirror-stepped : (before : MemoryValue) (kept after : List KeptValue)
      (changes : MemoryValue → MemoryValue → List KeptValue → List KeptValue → Type 0)
      → slice_get old.mirrors mirror ≡ Some before → slice_get held mirror ≡ Some kept → changes before disk kept after
      → StepsMirror old left history history held (slice_set held mirror after) mirror stop changes
  mirror-stepped before kept after changes disk_there there changed = record {
    changed = record {
      disk = before;
      disk_left = disk;
      kept = kept;
      after = after;
      disk_there = disk_there;
      there = there;
      changed = changed;
      disks_are = refl;
      left_is = refl;
    };
    history_is = refl;
    stays = mirror-stays;
  }

  given-stepped : (sent : ℕ) (doc : SentDoc) (before : MemoryValue) (kept : List KeptValue)
      → slice_get old.mirrors mirror ≡ Some before → slice_get held mirror ≡ Some kept
      → slice_get old.sent sent ≡ Some doc → LeavesGiven old.head history doc stop kept before disk
      → IsStep old left (Give mirror sent stop) history held None
  given-stepped sent doc before kept disk_there there found leaves = record {
    later = history;
    left = slice_set held mirror leaves.after;
    steps = (
      refl,
      subst (λ (d : Option SentDoc). StepsGift old left history history held (slice_set held mirror leaves.after) mirror
          stop d) (sym found)
          (inr (mirror-stepped before kept leaves.after (IsGift old.head history doc stop) disk_there there
          leaves.gift)),
    );
    lives = mirror-lives leaves.after leaves.mirror;
  }

  walked-stepped : (before : MemoryValue) (kept : List KeptValue) → slice_get old.mirrors mirror ≡ Some before
      → slice_get held mirror ≡ Some kept → LeavesWalked old.head history stop kept before disk
      → IsStep old left (Walk mirror stop) history held None
  walked-stepped before kept disk_there there leaves = record {
    later = history;
    left = slice_set held mirror leaves.after;
    steps = (
      refl,
      inr (mirror-stepped before kept leaves.after (IsWalk old.head history stop) disk_there there leaves.walk),
    );
    lives = mirror-lives leaves.after leaves.mirror;
  }

-- the disk of a mirror, as it was read
module _ (inside old : LifeValue) (history : List Op) (held : List (List KeptValue)) (mirror : ℕ) (read : MemoryValue)
    (view : inside ≡ old) (lives : Lives old history held) (within : mirror < length inside.mirrors)
    (read_is : read ≡ get_or inside.mirrors mirror read) where
  abbrev IsHeldBy : MemoryValue → List KeptValue → Type 0
  IsHeldBy = IsMirrorOf inside.head history

  before : Lives inside history held
  before = subst (λ (l : LifeValue). Lives l history held) (sym view) lives

  read-held : IsItem IsHeldBy read held mirror
  read-held =
      subst (λ (d : MemoryValue). IsItem IsHeldBy d held mirror) (sym read_is)
      (zip-item IsHeldBy inside.mirrors held mirror read before.mirrors within)

  read-there : slice_get inside.mirrors mirror ≡ Some read
  read-there = slice_get_read inside.mirrors (length inside.mirrors) mirror read refl within read_is

  module _ (alive : old.lost ≡ false) (stop : Option Stop) (stops : ℕ)
      (stops_are : stops ≡ with_stop stop inside.mirror_stops) (disk : MemoryValue) where
    alive_inside : inside.lost ≡ false
    alive_inside = ap (λ (l : LifeValue). l.lost) view ∙ alive

    pub life-given : (sent : ℕ) (doc : SentDoc) → sent < length inside.sent → doc ≡ get_or inside.sent sent doc
        → ((kept : List KeptValue) → IsSentBy inside.head history doc → IsHeldBy read kept
        → LeavesGiven inside.head history doc stop kept read disk)
        → IsStep old (mirror_left inside mirror inside.disk disk stops) (Give mirror sent stop) history held None
    life-given sent doc short doc_is gives =
        subst (λ (l : LifeValue). IsStep l (mirror_left inside mirror inside.disk disk stops) (Give mirror sent stop)
        history held None) view
        (given-stepped inside history held mirror stop inside.disk disk stops before before.store alive_inside stops_are
        sent doc read read-held.item read-there read-held.there
        (slice_get_read inside.sent (length inside.sent) sent doc refl short doc_is)
        (gives read-held.item
        (subst (IsSentBy inside.head history) (sym doc_is)
        (All-get_or (IsSentBy inside.head history) inside.sent sent doc short before.sent)) read-held.is))

    pub life-walked : (store : MemoryValue)
        → (IsStoreOf inside.head history inside.disk → IsStoreOf inside.head history store)
        → ((kept : List KeptValue) → IsStoreOf inside.head history inside.disk → IsHeldBy read kept
        → LeavesWalked inside.head history stop kept read disk)
        → IsStep old (mirror_left inside mirror store disk stops) (Walk mirror stop) history held None
    life-walked store stays walks =
        subst (λ (l : LifeValue). IsStep l (mirror_left inside mirror store disk stops) (Walk mirror stop) history held
        None) view
        (walked-stepped inside history held mirror stop store disk stops before (stays before.store) alive_inside
        stops_are read read-held.item read-there read-held.there (walks read-held.item before.store read-held.is))

  -- a mirror that is shown

  pub mirror-read : (kept : List KeptValue) → slice_get held mirror ≡ Some kept → IsHeldBy read kept
  mirror-read kept there =
      subst (IsHeldBy read) (same_Some read-held.item kept (sym read-held.there ∙ there)) read-held.is

  pub shown-lives : (disk : MemoryValue) → ((kept : List KeptValue) → IsHeldBy read kept → IsHeldBy disk kept)
      → Lives (record inside { mirrors = slice_set inside.mirrors mirror disk; lost = false }) history held
  shown-lives disk shows = record {
    store = before.store;
    version = before.version;
    sealed = before.sealed;
    sent = before.sent;
    mirrors =
        zip-set_left IsHeldBy inside.mirrors held mirror disk read-held.item before.mirrors read-held.there
        (shows read-held.item read-held.is);
  }
