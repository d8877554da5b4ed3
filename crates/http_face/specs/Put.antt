-- A text that is written through a buffer.
use Rattle.std.specs.Prelude.{◌≡◌, ℕ, ◌+◌, List, [], ◌++◌, length, take, min, max, Result, Ok, Err}
use Rattle.atom_values.specs.Counts.{counter_limit}
use Rattle.http_face.specs.declared.fault.CutOff.{CutOff}
use Rattle.http_face.specs.declared.waiting.Waiting.{Waiting}

-- a counter after `more` are added; it is at most the greatest u64
abbrev pub counted_by : ℕ → ℕ → ℕ
counted_by before more = max before (min (before + more) counter_limit)

-- the bytes that the connection has taken, how many of them are the reply's, and those that wait in the buffer
pub record PutState : Type 0 where
  pub sent : List ℕ
  pub count : ℕ
  pub waiting : List ℕ

abbrev pub put_state : List ℕ → Waiting → PutState
put_state sent waiting = record { sent = sent; count = waiting.sent; waiting = take waiting.filled waiting.buffer }

abbrev pub nothing_waits : List ℕ → ℕ → PutState
nothing_waits sent count = record { sent = sent; count = count; waiting = [] }

-- a front of the waiting bytes and the text was sent, and the rest waits
pub record HasPut (observable : Type 0) (text : List ℕ) (s t : PutState) : Type 0 where
  pub front : List ℕ
  pub split : s.waiting ++ text ≡ front ++ t.waiting
  pub counted : t.count ≡ counted_by s.count (length front)
  pub taken : observable → t.sent ≡ s.sent ++ front

-- a front of the waiting bytes and the text was sent, with which `count` bytes were sent; then a call failed
pub record IsCut (observable : Type 0) (text : List ℕ) (s : PutState) (count : ℕ) (sent : List ℕ) : Type 0 where
  pub front : List ℕ
  pub back : List ℕ
  pub split : s.waiting ++ text ≡ front ++ back
  pub counted : count ≡ counted_by s.count (length front)
  pub taken : observable → sent ≡ s.sent ++ front

abbrev pub Puts : {A : Type 0} → Type 0 → List ℕ → PutState → PutState → Result A CutOff → Type 0
Puts observable text s t (Ok _) = HasPut observable text s t
Puts observable text s t (Err cut) = IsCut observable text s cut.sent t.sent
