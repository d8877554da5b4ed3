-- The exchanges of a session so far, and one more.
use Rattle.std.proofs.Common.{◌≡◌, inl, inr, length, refl, sym, ap, ◌∙◌, subst, ℕ, ◌+◌, ◌<◌, ◌≤◌, List, [], ◌∷◌, ◌++◌}
use Rattle.std.proofs.Common.{map, All, arith, append_assoc}
use Rattle.std.specs.Prelude.{Some}
use Rattle.std.proofs.lemmas.List.{append-nil, map-append}
use Rattle.std.proofs.lemmas.List.Elements.{All-nil, All-push}
use Rattle.atom_values.specs.Counts.{counter_limit}
use Rattle.document_server.specs.Door.{DoorState, Gives, SameLinks, with_back}
use Rattle.document_server.specs.Served.{Answering}
use Rattle.document_server.specs.Serving.{CountsFrom, EndsWithin, GoesOn, HasExchanges, HasLinks}
use Rattle.document_server.specs.Session.{Exchange, IsMarked, IsOneFailed, IsReported, IsSent, IsServed, IsSession}
use Rattle.document_server.specs.Session.{IsUnfailed, Turn}
use Rattle.document_server.specs.declared.line.Line.{Line}
use Rattle.document_server.specs.declared.session.End.{End}
use Rattle.document_server.specs.declared.session.End.TheVariants.{Done, DiskFault, DoorFault}
use Rattle.feed_disk.specs.Disk.{DiskState}
use Rattle.feed_recovery.specs.Store.{StoreValue, call_count}
use Rattle.http_face.specs.Conn.{ConnState}

-- the session has come to this store, and to these moments of the clock
abbrev pub IsAt : StoreValue → (ℕ → ℕ) → StoreValue → (ℕ → ℕ) → Type 0
IsAt store coming last moments = (last ≡ store) × ((k : ℕ) → moments k ≡ coming k)

-- one more exchange
pub session-more : (answers : Answering) (first : StoreValue) (moments : ℕ → ℕ) (served : List Exchange) (store next : StoreValue)
    (coming later : ℕ → ℕ) (exchange : Exchange) (turn : Turn) → IsSession answers (IsAt store coming) first moments served
    → IsServed answers store (coming 0) exchange turn next → GoesOn coming later turn.moments
    → IsSession answers (IsAt next later) first moments (served ++ exchange ∷ [])
session-more answers first moments [] store next coming later exchange turn (same, goes) is on = (
  turn,
  next,
  subst (λ (s : StoreValue). IsServed answers s (moments 0) exchange turn next) (sym same)
      (subst (λ (now : ℕ). IsServed answers store now exchange turn next) (sym (goes 0)) is),
  (refl, λ k. goes (turn.moments + k) ∙ sym (on k)),
)
session-more answers first moments (earlier ∷ served) store next coming later exchange turn (one, then, was, session) is on = (
  one,
  then,
  was,
  session-more answers then (λ k. moments (one.moments + k)) served store next coming later exchange turn session is on,
)

-- the session ends with the connections so far
pub session-ends : (answers : Answering) (ends : StoreValue → (ℕ → ℕ) → Type 0) (first : StoreValue) (moments : ℕ → ℕ)
    (served : List Exchange) (store : StoreValue) (coming : ℕ → ℕ)
    → ((last : StoreValue) (now : ℕ → ℕ) → IsAt store coming last now → ends last now)
    → IsSession answers (IsAt store coming) first moments served → IsSession answers ends first moments served
session-ends answers ends first moments [] store coming to at = to first moments at
session-ends answers ends first moments (exchange ∷ served) store coming to (turn, next, was, session) = (
  turn,
  next,
  was,
  session-ends answers ends next (λ k. moments (turn.moments + k)) served store coming to session,
)

-- Exchanges

-- a connection was given and given back
pub record Passes (door rest : DoorState) (given served : ConnState) : Type 0 where
  pub left : door.left ≡ given ∷ rest.left
  pub back : rest.back ≡ door.back ++ served ∷ []
  pub out : rest.out ≡ door.out

pub passes-door : (door amid rest : DoorState) (given back : ConnState) → Gives (Some given) door amid
    → rest ≡ with_back amid back → Passes door rest given back
passes-door door amid rest given back gives is = record {
  left = gives.0 ∙ ap (λ (d : DoorState). given ∷ d.left) (sym is);
  back = ap (λ (d : DoorState). d.back) is ∙ ap (λ (b : List ConnState). b ++ back ∷ []) gives.1;
  out = omega (arith, ap (λ (d : DoorState). d.out) is, gives.2);
}

map-push : {B : Type 0} (f : Exchange → B) (served : List Exchange) (exchange : Exchange)
    → map f (served ++ exchange ∷ []) ≡ map f served ++ f exchange ∷ []
map-push f served exchange = map-append f served (exchange ∷ [])

given-more : (left : List ConnState) (served : List Exchange) (exchange : Exchange) (rest later : List ConnState)
    → left ≡ map (λ e. e.given) served ++ rest → rest ≡ exchange.given ∷ later
    → left ≡ map (λ e. e.given) (served ++ exchange ∷ []) ++ later
given-more left served exchange rest later so_far next =
    so_far ∙ ap (λ (r : List ConnState). map (λ e. e.given) served ++ r) next
    ∙ sym (append_assoc (map (λ e. e.given) served) (exchange.given ∷ []) later)
    ∙ ap (λ (g : List ConnState). g ++ later) (sym (map-push (λ e. e.given) served exchange))

back-more : (back : List ConnState) (served : List Exchange) (exchange : Exchange) (rest later : List ConnState)
    → rest ≡ back ++ map (λ e. e.back) served → later ≡ rest ++ exchange.back ∷ []
    → later ≡ back ++ map (λ e. e.back) (served ++ exchange ∷ [])
back-more back served exchange rest later so_far next =
    next ∙ ap (λ (r : List ConnState). r ++ exchange.back ∷ []) so_far
    ∙ append_assoc back (map (λ e. e.back) served) (exchange.back ∷ [])
    ∙ ap (λ (b : List ConnState). back ++ b) (sym (map-push (λ e. e.back) served exchange))

pub lines-more : (lines : List Line) (served : List Exchange) (exchange : Exchange) → lines ≡ map (λ e. e.line) served
    → lines ++ exchange.line ∷ [] ≡ map (λ e. e.line) (served ++ exchange ∷ [])
lines-more lines served exchange so_far =
    ap (λ (l : List Line). l ++ exchange.line ∷ []) so_far ∙ sym (map-push (λ e. e.line) served exchange)

-- connections that the door gave and has back

pub links-none : (door : DoorState) → HasLinks door door []
links-none door = record { given = refl; back = sym (append-nil door.back) }

pub links-more : (door rest later : DoorState) (served : List Exchange) (exchange : Exchange)
    → HasLinks door rest served → Passes rest later exchange.given exchange.back
    → HasLinks door later (served ++ exchange ∷ [])
links-more door rest later served exchange so_far passes = record {
  given = given-more door.left served exchange rest.left later.left so_far.given passes.left;
  back = back-more door.back served exchange rest.back later.back so_far.back passes.back;
}

-- a call of the door that gives no connection
pub links-still : (door rest later : DoorState) (served : List Exchange) → HasLinks door rest served
    → SameLinks rest later → HasLinks door later served
links-still door rest later served links same = record {
  given = links.given ∙ ap (λ (l : List ConnState). map (λ e. e.given) served ++ l) (sym same.left);
  back = same.back ∙ links.back;
}

-- the call that opens the door
pub links-listened : (door listened rest : DoorState) (served : List Exchange) → SameLinks door listened
    → HasLinks listened rest served → HasLinks door rest served
links-listened door listened rest served same links = record {
  given = sym same.left ∙ links.given;
  back = links.back ∙ ap (λ (b : List ConnState). b ++ map (λ e. e.back) served) same.back;
}

-- the facts about each exchange that need no disk whose content is seen
pub record Exchanges (start : ℕ) (before after : DiskState) (door rest : DoorState) (door_observable : Type 0)
    (opened : StoreValue) (exchanges : List Exchange) : Type 0 where
  pub reported : All IsReported exchanges
  pub marked : after.clock < counter_limit → start + call_count opened ≡ before.clock
      → All (IsMarked start) exchanges
  pub linked : door_observable → HasLinks door rest exchanges
  pub sent : door_observable → All IsSent exchanges

pub exchanges-none : (start : ℕ) (disk : DiskState) (door : DoorState) (door_observable : Type 0) (opened : StoreValue)
    → Exchanges start disk disk door door door_observable opened []
exchanges-none start disk door door_observable opened = record {
  reported = All-nil IsReported;
  marked = λ below counted. All-nil (IsMarked start);
  linked = λ observable. links-none door;
  sent = λ observable. All-nil IsSent;
}

pub exchanges-more : (start : ℕ) (before after behind : DiskState) (door rest later : DoorState)
    (door_observable : Type 0) (opened : StoreValue) (served : List Exchange) (exchange : Exchange)
    → Exchanges start before after door rest door_observable opened served → after.clock ≤ behind.clock
    → (door_observable → Passes rest later exchange.given exchange.back) → IsReported exchange
    → (behind.clock < counter_limit → start + call_count opened ≡ before.clock → IsMarked start exchange)
    → (door_observable → IsSent exchange)
    → Exchanges start before behind door later door_observable opened (served ++ exchange ∷ [])
exchanges-more start before after behind door rest later door_observable opened served exchange so_far on passes
    reported marked sent = record {
      reported = All-push IsReported served exchange so_far.reported reported;
      marked = λ below counted.
          All-push (IsMarked start) served exchange (so_far.marked (omega (arith, below, on)) counted)
          (marked below counted);
      linked = λ observable. links-more door rest later served exchange (so_far.linked observable) (passes observable);
      sent = λ observable. All-push IsSent served exchange (so_far.sent observable) (sent observable);
    }

pub exchanges-still : (start : ℕ) (before after : DiskState) (door rest later : DoorState) (door_observable : Type 0)
    (opened : StoreValue) (served : List Exchange)
    → Exchanges start before after door rest door_observable opened served
    → (door_observable → SameLinks rest later) → Exchanges start before after door later door_observable opened served
exchanges-still start before after door rest later door_observable opened served all same = record {
  reported = all.reported;
  marked = all.marked;
  linked = λ observable. links-still door rest later served (all.linked observable) (same observable);
  sent = all.sent;
}

-- The end of a session

module _ (start : ℕ) (before after : DiskState) (door rest : DoorState) (door_observable : Type 0) (opened : StoreValue)
    (lines : List Line) (served : List Exchange) (failed : Type 0) (counted : CountsFrom start before after opened)
    (unfailed : All (IsUnfailed before.faults) served) where
  -- all connections were served
  pub exchanges-end : Exchanges start before after door rest door_observable opened served
      → lines ≡ map (λ e. e.line) served → (failed → ⊥)
      → HasExchanges start before.faults after door rest door_observable lines served [] failed
  exchanges-end all lines_are works =
      let none : served ++ [] ≡ served = append-nil served in
      record {
        lines_are = lines_are ∙ ap (map (λ e. e.line)) (sym none);
        unfailed = unfailed;
        all_served = λ _. refl;
        broken_off = λ fails. absurd (works fails);
        reported = subst (All IsReported) (sym none) all.reported;
        marked = λ below. subst (All (IsMarked start)) (sym none) (all.marked below (counted below));
        linked = λ observable. subst (HasLinks door rest) (sym none) (all.linked observable);
        sent = λ observable. subst (All IsSent) (sym none) (all.sent observable);
      }

  -- the last connection was broken off
  pub exchanges-break : (exchange : Exchange)
      → Exchanges start before after door rest door_observable opened (served ++ exchange ∷ [])
      → lines ≡ map (λ e. e.line) (served ++ exchange ∷ []) → failed
      → IsOneFailed before.faults after.faults (exchange ∷ [])
      → HasExchanges start before.faults after door rest door_observable lines served (exchange ∷ []) failed
  exchanges-break exchange all lines_are fails broken = record {
    lines_are = lines_are;
    unfailed = unfailed;
    all_served = λ works. absurd (works fails);
    broken_off = λ _. broken;
    reported = all.reported;
    marked = λ below. all.marked below (counted below);
    linked = all.linked;
    sent = all.sent;
  }

-- How it ends, with this many lines at most

module _ (requests : ℕ) (door_observable : Type 0) (door rest : DoorState) (lines : List Line)
    (returned : door_observable → rest.out ≡ door.out) where
  pub ends-all : length lines ≡ requests → EndsWithin requests door_observable door rest lines Done
  ends-all all = record {
    most = omega (arith, all);
    cause = record { done = λ _. inl all; early = λ is. absurd cc };
    returned = returned;
  }

  -- the door has no connection left
  pub ends-left : length lines ≤ requests → (door_observable → rest.left ≡ [])
      → EndsWithin requests door_observable door rest lines Done
  ends-left most none =
      record { most = most; cause = record { done = λ _. inr none; early = λ is. absurd cc }; returned = returned }

  -- a call of the door failed
  pub ends-door : (end : End) → end ≡ DoorFault → length lines < requests
      → EndsWithin requests door_observable door rest lines end
  ends-door end is few = record {
    most = omega (arith, few);
    cause = record { done = λ done. absurd cc; early = λ _. few };
    returned = returned;
  }

  -- a device call failed
  pub ends-disk : length lines ≤ requests → EndsWithin requests door_observable door rest lines DiskFault
  ends-disk most = record {
    most = most;
    cause = record { done = λ done. absurd cc; early = λ is. absurd cc };
    returned = returned;
  }
