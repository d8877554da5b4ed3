-- How many bytes were read of a connection, and before which reads.
use Rattle.std.proofs.Common.{◌≡◌, ℕ, ◌+◌, ◌≤◌, List, [], ◌++◌, length, take, inl, inr, refl, sym, ap, ◌∙◌, arith, length-append, append_assoc}
use Rattle.std.specs.Prelude.{◌⊎◌, Result, Ok, Err, IfOk, OnOk}
use Rattle.std.proofs.Math.Seq.{take-append-add}
use Rattle.std.proofs.lemmas.List.{length-take-le, take-take}
use Rattle.std.proofs.lemmas.Slice.{take-put_mid}
use borrow.Rule.Slice.PartMut.{put_mid}
use Rattle.feed_disk.specs.Raised.{RisesAtMost, raised}
use Rattle.http_face.specs.Conn.{ConnState, LastReadAfter, ReadsNothing, TakesAtMost}

pub takes_none : (s t : ConnState) → t.left ≡ s.left → TakesAtMost 0 s t
takes_none s t same = record { read = []; from = sym same; within = omega arith }

pub takes_more : (a b : ℕ) (s t : ConnState) → a ≤ b → TakesAtMost a s t → TakesAtMost b s t
takes_more a b s t h m = record { read = m.read; from = m.from; within = omega (arith, m.within) }

pub takes_both : (a b : ℕ) (s t u : ConnState) → TakesAtMost a s t → TakesAtMost b t u → TakesAtMost (a + b) s u
takes_both a b s t u m n = record {
  read = m.read ++ n.read;
  from = m.from ∙ ap (λ (x : List ℕ). m.read ++ x) n.from ∙ sym (append_assoc m.read n.read u.left);
  within = omega (arith, m.within, n.within, length-append m.read n.read);
}

pub rises_none : (n before after : ℕ) → after ≡ before → RisesAtMost n before after
rises_none n before after same = omega (arith, same)

pub rises_read : (m count n before between after : ℕ) → m + count ≤ n → RisesAtMost m before between →
    after ≡ raised between count → RisesAtMost n before after
rises_read m count n before between after few rise e = omega (arith, few, rise, e)

pub rises_more : (m n before after : ℕ) → m ≤ n → RisesAtMost m before after → RisesAtMost n before after
rises_more m n before after few rise = omega (arith, few, rise)

pub rises_both : (m n before between after : ℕ) → RisesAtMost m before between → RisesAtMost n between after →
    RisesAtMost (m + n) before after
rises_both m n before between after one other = omega (arith, one, other)

pub needs_nothing : (holds : List ℕ → Type 0) (s t : ConnState) → t ≡ s → LastReadAfter holds s t
needs_nothing holds s t same =
    record { last = inl (ap (λ (x : ConnState). x.reads) same, ap (λ (x : ConnState). x.before_read) same) }

-- one call of `read` leads from t to u, after the bytes of `taken`
pub needs_read : (holds : List ℕ → Type 0) (s t u : ConnState) (taken : List ℕ) → s.left ≡ taken ++ t.left →
    u.before_read ≡ t.left → holds taken → LastReadAfter holds s u
needs_read holds s t u taken from before holding =
    record { last = inr (taken, from ∙ ap (λ (x : List ℕ). taken ++ x) (sym before), holding) }

both_last : (holds holds_then : List ℕ → Type 0) (s t u : ConnState) (taken : List ℕ) →
    s.left ≡ taken ++ t.left → ((before : List ℕ) → holds_then before → holds (taken ++ before)) →
    ReadsNothing s t ⊎ ((before : List ℕ) × (s.left ≡ before ++ t.before_read) × holds before) →
    ReadsNothing t u ⊎ ((before : List ℕ) × (t.left ≡ before ++ u.before_read) × holds_then before) →
    ReadsNothing s u ⊎ ((before : List ℕ) × (s.left ≡ before ++ u.before_read) × holds before)
both_last holds holds_then s t u taken from both (inl same) (inl none) =
    inl (none.0 ∙ same.0, none.1 ∙ same.1)
both_last holds holds_then s t u taken from both (inr (before, e, holding)) (inl none) =
    inr (before, e ∙ ap (λ (x : List ℕ). before ++ x) (sym none.1), holding)
both_last holds holds_then s t u taken from both one (inr (before, e, holding)) =
    inr (
      taken ++ before,
      from ∙ ap (λ (x : List ℕ). taken ++ x) e ∙ sym (append_assoc taken before u.before_read),
      both before holding,
    )

-- the bytes of `taken` were read between s and t
pub needs_both : (holds holds_then : List ℕ → Type 0) (s t u : ConnState) (taken : List ℕ) →
    s.left ≡ taken ++ t.left → ((before : List ℕ) → holds_then before → holds (taken ++ before)) →
    LastReadAfter holds s t → LastReadAfter holds_then t u → LastReadAfter holds s u
needs_both holds holds_then s t u taken from both one other =
    record { last = both_last holds holds_then s t u taken from both one.last other.last }

other_last : (holds other : List ℕ → Type 0) (s t : ConnState) → ((before : List ℕ) → holds before → other before) →
    ReadsNothing s t ⊎ ((before : List ℕ) × (s.left ≡ before ++ t.before_read) × holds before) →
    ReadsNothing s t ⊎ ((before : List ℕ) × (s.left ≡ before ++ t.before_read) × other before)
other_last holds other s t f (inl none) = inl none
other_last holds other s t f (inr (before, e, holding)) = inr (before, e, f before holding)

pub needs_other : (holds other : List ℕ → Type 0) (s t : ConnState) →
    ((before : List ℕ) → holds before → other before) → LastReadAfter holds s t → LastReadAfter other s t
needs_other holds other s t f needed = record { last = other_last holds other s t f needed.last }

-- the bytes that a read wrote after the first `filled` bytes
pub read_behind : (filled count k : ℕ) (buffer into left after : List ℕ) → filled ≤ length buffer →
    count ≤ length into → left ≡ take count into ++ after →
    take filled buffer ++ left ≡ take (filled + count) (put_mid filled k buffer into) ++ after
read_behind filled count k buffer into left after within low e =
    let front = take filled buffer in
    let long : length front ≡ filled = length-take-le filled buffer within in
    let whole = take-put_mid filled k buffer into (filled + length into) refl within in
    let part : take (filled + count) (put_mid filled k buffer into) ≡ front ++ take count into =
    sym (take-take (filled + count) (filled + length into) (put_mid filled k buffer into) (omega arith))
    ∙ ap (take (filled + count)) whole
    ∙ ap (λ n. take (n + count) (front ++ into)) (sym long)
    ∙ take-append-add front into count in
    ap (λ (x : List ℕ). front ++ x) e ∙ sym (append_assoc front (take count into) after)
    ∙ ap (λ (x : List ℕ). x ++ after) (sym part)

-- two facts of a value make a third
pub if_ok_with : {A E : Type 0} (r : Result A E) (P Q R : A → Type 0) → ((a : A) → P a → Q a → R a) →
    IfOk r P → IfOk r Q → IfOk r R
if_ok_with (Ok a) P Q R f p q = f a p q
if_ok_with (Err e) P Q R f p q = tt

-- a fact of success whose premise holds
pub if_ok_given : {A E : Type 0} (r : Result A E) (P : A → Type 0) (Q R S : Type 0) → OnOk r (Q → R → S) → Q →
    IfOk r (λ a. P a → R → S)
if_ok_given (Ok a) P Q R S f q = λ _. f q
if_ok_given (Err e) P Q R S f q = tt
