-- The bytes ahead in a buffer.
use Rattle.std.proofs.Common.{◌≡◌, ℕ, ◌+◌, ◌-◌, ◌≤◌, List, [], ◌++◌, length, take, drop, refl, sym, ap, ◌∙◌, arith, length-take, length-append, length-drop}
use Rattle.std.proofs.Math.Seq.{take-add}
use Rattle.std.proofs.lemmas.List.{append-nil, append_assoc, drop-take, drop-drop}
use Rattle.std.specs.Prelude.{Result, Ok}
use Rattle.atom_values.specs.declared.memory.Failed.{Failed}
use Rattle.feed_disk.specs.Raised.{RisesAtMost}
use Rattle.doc_source.specs.declared.intake.Filled.{Filled}
use Rattle.doc_source.specs.declared.intake.Filled.TheVariants.{More}
use Rattle.doc_source.specs.Intake.{IntakeState, TakesMore, probed}
use Rattle.doc_source.specs.Outside.{SourceState}

pub consumed : (items : List ℕ) (start end count taken limit : ℕ) →
    count ≤ length (take (end - start) (drop start items)) →
    ◌≡◌ {A = IntakeState}
    (record { ahead = take (end - (start + count)) (drop (start + count) items); taken = taken; limit = limit })
    (record { ahead = drop count (take (end - start) (drop start items)); taken = taken; limit = limit })
consumed items start end count taken limit h =
    let within : start + count ≤ start + (end - start) =
    omega (arith, h, length-take (end - start) (drop start items)) in
    let parts : end - start ≡ count + (end - (start + count)) = omega arith in
    let ahead : take (end - (start + count)) (drop (start + count) items)
    ≡ drop count (take (end - start) (drop start items)) =
    ap (take (end - (start + count))) (sym (drop-drop count start items))
    ∙ sym (drop-take count (end - (start + count)) (drop start items))
    ∙ ap (λ (n : ℕ). drop count (take n (drop start items))) (sym parts) in
    ap (λ (x : List ℕ). let s : IntakeState = record { ahead = x; taken = taken; limit = limit } in s) ahead

-- the bytes that two calls took, of which the second filled the intake
pub rises_filled : (start between end before middle after : ℕ) (r : Result Filled Failed) → start ≤ between →
    between ≤ end → RisesAtMost (between - start) before middle → r ≡ Ok More →
    RisesAtMost (end - between + probed r) middle after → RisesAtMost (end - start) before after
rises_filled start between end before middle after r low high one is other =
    let none : probed r ≡ 0 = ap probed is in
    omega (arith, low, high, one, other, none)

pub takes_none : (T : Type 0) (s t : IntakeState) (source rest : SourceState) → t ≡ s → (T → rest.left ≡ source.left) →
    TakesMore T s t source rest
takes_none T s t source rest same left = record {
  read = [];
  ahead = ap (λ (x : IntakeState). x.ahead) same ∙ sym (append-nil s.ahead);
  taken = omega (arith, ap (λ (x : IntakeState). x.taken) same);
  limit = ap (λ (x : IntakeState). x.limit) same;
  from = λ observable. sym (left observable);
}

pub takes_both : (T : Type 0) (r s t : IntakeState) (a b c : SourceState) → TakesMore T r s a b → TakesMore T s t b c →
    TakesMore T r t a c
takes_both T r s t a b c m n = record {
  read = m.read ++ n.read;
  ahead = n.ahead ∙ ap (λ (x : List ℕ). x ++ n.read) m.ahead ∙ append_assoc r.ahead m.read n.read;
  taken = omega (arith, m.taken, n.taken, length-append m.read n.read);
  limit = n.limit ∙ m.limit;
  from = λ observable. m.from observable ∙ ap (λ (x : List ℕ). m.read ++ x) (n.from observable) ∙ sym (append_assoc m.read n.read c.left);
}

pub takes_if : (T U : Type 0) (s t : IntakeState) (a b : SourceState) → (U → T) → TakesMore T s t a b
    → TakesMore U s t a b
takes_if T U s t a b f m =
    record { read = m.read; ahead = m.ahead; taken = m.taken; limit = m.limit; from = λ observable. m.from (f observable) }

-- bytes taken after a front of the bytes ahead
pub takes_behind : (T : Type 0) (front : List ℕ) (s t : IntakeState) (a b : SourceState) → TakesMore T s t a b →
    TakesMore T (record s { ahead = front ++ s.ahead }) (record t { ahead = front ++ t.ahead }) a b
takes_behind T front s t a b m = record {
  read = m.read;
  ahead = ap (λ (x : List ℕ). front ++ x) m.ahead ∙ sym (append_assoc front s.ahead m.read);
  taken = m.taken;
  limit = m.limit;
  from = m.from;
}

-- bytes that moved into another spelling of the bytes ahead
pub takes_as : (T : Type 0) (s t u : IntakeState) (a b : SourceState) → TakesMore T s t a b → u.ahead ≡ t.ahead →
    u.taken ≡ t.taken → u.limit ≡ t.limit → TakesMore T s u a b
takes_as T s t u a b m ahead taken limit = record {
  read = m.read;
  ahead = ahead ∙ m.ahead;
  taken = taken ∙ m.taken;
  limit = limit ∙ m.limit;
  from = m.from;
}

-- a piece that was read after the bytes ahead, when these were moved to the front of the buffer
pub takes_piece : (T : Type 0) (items buffer : List ℕ) (start end kept count taken limit : ℕ) (a b : SourceState) →
    kept ≡ end - start → take kept buffer ≡ take (end - start) (drop start items) → kept + count ≤ length buffer →
    (T → a.left ≡ take count (drop kept buffer) ++ b.left) →
    TakesMore T
    (record { ahead = take (end - start) (drop start items); taken = taken; limit = limit })
    (record { ahead = take (kept + count - 0) (drop 0 buffer); taken = taken + count; limit = limit }) a b
takes_piece T items buffer start end kept count taken limit a b same front room left =
    let piece = take count (drop kept buffer) in
    let all : kept + count - 0 ≡ kept + count = omega arith in
    record {
      read = piece;
      ahead =
          ap (λ (n : ℕ). take n buffer) all
          ∙ take-add kept count buffer ∙ ap (λ (x : List ℕ). x ++ piece) front;
      taken = omega (arith, length-take count (drop kept buffer), length-drop kept buffer, room);
      limit = refl;
      from = left;
    }

-- no piece was read
pub takes_no_piece : (T : Type 0) (items buffer : List ℕ) (start end kept taken limit : ℕ) (a b : SourceState) →
    kept ≡ end - start → take kept buffer ≡ take (end - start) (drop start items) → (T → b.left ≡ a.left) →
    TakesMore T
    (record { ahead = take (end - start) (drop start items); taken = taken; limit = limit })
    (record { ahead = take (kept - 0) (drop 0 buffer); taken = taken; limit = limit }) a b
takes_no_piece T items buffer start end kept taken limit a b same front left =
    let all : kept - 0 ≡ kept = omega arith in
    record {
      read = [];
      ahead =
          ap (λ (n : ℕ). take n buffer) all ∙ front ∙ sym (append-nil (take (end - start) (drop start items)));
      taken = omega arith;
      limit = refl;
      from = λ observable. sym (left observable);
    }
