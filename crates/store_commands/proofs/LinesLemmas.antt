-- How far a search of a line's end came.
use Rattle.std.proofs.Common.{◌≡◌, ◌≢◌, ℕ, zero, suc, ◌+◌, ◌-◌, ◌<◌, ◌≤◌, Bool, true, false, not, eqb, List, [], ◌∷◌, ◌++◌}
use Rattle.std.proofs.Common.{length, take, drop, refl, sym, ap, ◌∙◌, subst, inl, inr, arith}
use Rattle.std.proofs.lemmas.List.{append-nil, append_assoc, drop-take, drop-drop, length-append, length-take, take_at}
use Rattle.std.proofs.lemmas.Bool.{both_ways, eq-eqb, false≢true, not-true}
use Rattle.std.proofs.lemmas.List.Elements.{All-append, All-nil}
use Rattle.doc_source.specs.Outside.{SourceState}
use Rattle.atom_values.specs.Ascii.{lf}
use Rattle.tool_words.specs.Line.{IsFirst}
use Rattle.store_commands.specs.Line.{prefix_limit}
use Rattle.store_commands.specs.Lines.{FindsLine, HasNoLf, IsSpent, IsTooLong, KnowsEnd, LinesState, ReadsMore}
use Rattle.store_commands.specs.Lines.{StopsAmid, TakesAll, TakesEnd, allowance, stream, with_prefix}

-- the bytes ahead after a line that ended
pub ahead-rest : (piece : List ℕ) (start end at : ℕ) → start + (at + 1) ≤ end →
    drop (at + 1) (take (end - start) (drop start piece)) ≡ take (end - (start + (at + 1)))
    (drop (start + (at + 1)) piece)
ahead-rest piece start end at h =
    let e : end - start ≡ at + 1 + (end - (start + (at + 1))) = omega arith in
    rw (e, drop-take (at + 1) (end - (start + (at + 1))) (drop start piece), drop-drop (at + 1) start piece) refl

-- a line that ends in the piece
pub TakesEnd-met : (piece : List ℕ) (start end at : ℕ) (line after : List ℕ) (allowed : ℕ) (ended : Bool) →
    IsFirst lf (take (end - start) (drop start piece)) at →
    after ≡ with_prefix line (take at (take (end - start) (drop start piece))) →
    TakesEnd record {
      ahead = take (end - start) (drop start piece);
      line = line;
      allowed = allowed;
      ended =
          ended;
    } record {
      ahead = take (end - (start + (at + 1))) (drop (start + (at + 1)) piece);
      line = after;
      allowed =
          allowed;
      ended = ended;
    }
TakesEnd-met piece start end at line after allowed ended f prefix =
    let within : start + (at + 1) ≤ end = omega (arith, f.within, length-take (end - start) (drop start piece)) in
    record {
      part = take at (take (end - start) (drop start piece));
      no_lf = f.none_before;
      split = rw (← ahead-rest piece start end at within) f.split;
      line = prefix;
    }

-- the beginning of a line that goes on
pub take_over : (k : ℕ) (line part : List ℕ) →
    take k line ++ take (k - length (take k line)) part ≡ take k (line ++ part)
take_over zero line part = refl
take_over (suc k) [] part = let e : suc k - 0 ≡ suc k = omega arith in rw e refl
take_over (suc k) (x ∷ line) part =
    let e : suc k - suc (length (take k line)) ≡ k - length (take k line) = omega arith in
    rw e (ap (λ xs. x ∷ xs) (take_over k line part))

pub prefix-more : (front line part : List ℕ) → front ≡ take prefix_limit line →
    with_prefix front part ≡ take prefix_limit (line ++ part)
prefix-more front line part e = rw e (take_over prefix_limit line part)

-- this part of a line was read, and the line did not end
pub record GoesOn (T : Type 0) (before : LinesState) (input : SourceState) (now : LinesState)
    (rest : SourceState) : Type 0 where
  pub so_far : List ℕ
  pub read : List ℕ
  pub no_lf : HasNoLf so_far
  pub front : now.line ≡ take prefix_limit so_far
  pub met : before.ahead ++ read ≡ so_far ++ now.ahead
  pub from : T → input.left ≡ read ++ rest.left
  pub used : allowance before ≡ length so_far + allowance now
  pub knows : T → KnowsEnd now rest
  pub ended : before.ended ≡ true → now.ended ≡ true
  pub faults : rest.faults ≡ input.faults

pub GoesOn-begin : {T : Type 0} {before : LinesState} {input : SourceState} {now : LinesState} →
    now ≡ record before { line = [] } → (T → KnowsEnd before input) → GoesOn T before input now input
GoesOn-begin {T} {before} {input} {now} e knows = record {
  so_far = [];
  read = [];
  no_lf = All-nil (λ b. b ≢ lf);
  front = ap (λ s. s.line) e;
  met = append-nil before.ahead ∙ sym (ap (λ s. s.ahead) e);
  from = λ _. refl;
  used = rw e (omega arith);
  knows = λ t. rw e (knows t);
  ended = λ was. ap (λ s. s.ended) e ∙ was;
  faults = refl;
}

pub GoesOn-taken : {T : Type 0} {before : LinesState} {input : SourceState} {now after : LinesState}
    {rest : SourceState} → GoesOn T before input now rest → TakesAll now after → after.allowed ≡ now.allowed →
    after.ended ≡ now.ended → GoesOn T before input after rest
GoesOn-taken {T} {before} {input} {now} {after} {rest} g t allowed ended = record {
  so_far = g.so_far ++ now.ahead;
  read = g.read;
  no_lf = All-append (λ b. b ≢ lf) g.so_far now.ahead g.no_lf t.no_lf;
  front = t.line ∙ prefix-more now.line g.so_far now.ahead g.front;
  met = rw t.spent (g.met ∙ sym (append-nil (g.so_far ++ now.ahead)));
  from = g.from;
  used = rw (t.spent, allowed) (omega (arith, length-append g.so_far now.ahead, g.used));
  knows = λ k. rw ended (g.knows k);
  ended = λ was. ended ∙ g.ended was;
  faults = g.faults;
}

pub GoesOn-filled : {T : Type 0} {before : LinesState} {input : SourceState} {now after : LinesState}
    {rest more : SourceState} → GoesOn T before input now rest → now.ahead ≡ [] → after.line ≡ now.line →
    ReadsMore now after → (T → rest.left ≡ stream after more) → (T → KnowsEnd after more) → more.faults ≡ rest.faults →
    GoesOn T before input after more
GoesOn-filled {T} {before} {input} {now} {after} {rest} {more} g spent line r bytes knows faults = record {
  so_far = g.so_far;
  read = g.read ++ after.ahead;
  no_lf = g.no_lf;
  front = line ∙ g.front;
  met = sym (append_assoc before.ahead g.read after.ahead)
      ∙ ap (λ xs. xs ++ after.ahead) (g.met ∙ ap (λ xs. g.so_far ++ xs) spent ∙ append-nil g.so_far);
  from = λ k. g.from k ∙ ap (λ xs. g.read ++ xs) (bytes k) ∙ sym (append_assoc g.read after.ahead more.left);
  used = omega (arith, g.used, r.used, ap length spent);
  knows = knows;
  ended = λ was. absurd (false≢true (sym r.going_on ∙ g.ended was));
  faults = faults ∙ g.faults;
}

-- all of the stream, from the line's beginning
whole : {T : Type 0} {before : LinesState} {input : SourceState} {now : LinesState} {rest : SourceState}
    (g : GoesOn T before input now rest) → T → stream before input ≡ g.so_far ++ stream now rest
whole {T} {before} {input} {now} {rest} g k =
    ap (λ xs. before.ahead ++ xs) (g.from k) ∙ sym (append_assoc before.ahead g.read rest.left)
    ∙ ap (λ xs. xs ++ rest.left) g.met ∙ append_assoc g.so_far now.ahead rest.left

-- the line ended with LF
pub FindsLine-ended : {T : Type 0} {before : LinesState} {input : SourceState} {now after : LinesState}
    {rest : SourceState} → GoesOn T before input now rest → TakesEnd now after → after.allowed ≡ now.allowed → T →
    FindsLine before input after rest
FindsLine-ended {T} {before} {input} {now} {after} {rest} g t allowed k = record {
  line = g.so_far ++ t.part;
  no_lf = All-append (λ b. b ≢ lf) g.so_far t.part g.no_lf t.no_lf;
  prefix = t.line ∙ prefix-more now.line g.so_far t.part g.front;
  found = inl record {
    whole =
        whole g k ∙ ap (λ xs. g.so_far ++ (xs ++ rest.left)) t.split
        ∙ ap (λ xs. g.so_far ++ xs) (append_assoc t.part (lf ∷ after.ahead) rest.left)
        ∙ sym (append_assoc g.so_far t.part (lf ∷ stream after rest));
    used = omega (
      arith,
      g.used,
      allowed,
      ap length t.split,
      length-append t.part (lf ∷ after.ahead),
      length-append g.so_far t.part,
    );
  };
}

prefix_some : (line : List ℕ) → length (take prefix_limit line) ≢ 0 → 0 < length line
prefix_some [] h = absurd (h refl)
prefix_some (b ∷ line) h = omega arith

-- the line ended with the input
all_read : {T : Type 0} {before : LinesState} {input : SourceState} {now after : LinesState} {rest more : SourceState}
    (g : GoesOn T before input now rest) → T → now.ahead ≡ [] → IsSpent after rest more → stream before input ≡ g.so_far
all_read {T} {before} {input} {now} {after} {rest} {more} g k spent s =
    whole g k ∙ ap (λ xs. g.so_far ++ (xs ++ rest.left)) spent ∙ ap (λ xs. g.so_far ++ xs) s.left ∙ append-nil g.so_far

pub FindsLine-last : {T : Type 0} {before : LinesState} {input : SourceState} {now after : LinesState}
    {rest more : SourceState} → GoesOn T before input now rest → now.ahead ≡ [] → after.line ≡ now.line →
    IsSpent after rest more → length after.line ≢ 0 → T → FindsLine before input after more
FindsLine-last {T} {before} {input} {now} {after} {rest} {more} g spent line s some k = record {
  line = g.so_far;
  no_lf = g.no_lf;
  prefix = line ∙ g.front;
  found = inr record {
    whole = all_read g k spent s;
    spent = ap (λ xs. xs ++ more.left) s.ahead ∙ s.after_left;
    some = prefix_some g.so_far (λ e. some (ap length (line ∙ g.front) ∙ e));
    within = omega (arith, g.used);
    ended = s.ended;
  };
}

-- the line did not end within what may be read
pub IsTooLong-met : {T : Type 0} {before : LinesState} {input : SourceState} {now : LinesState} {rest : SourceState} →
    GoesOn T before input now rest → now.ahead ≡ [] → now.allowed ≡ 0 → 0 < length rest.left → T →
    IsTooLong before input
IsTooLong-met {T} {before} {input} {now} {rest} g spent none more k =
    let all : stream before input ≡ g.so_far ++ rest.left = whole g k
    ∙ ap (λ xs. g.so_far ++ (xs ++ rest.left)) spent in
    let full : length g.so_far ≡ allowance before = omega (arith, g.used, none, ap length spent) in
    record {
      more = omega (arith, full, more, ap length all, length-append g.so_far rest.left);
      no_lf = subst HasNoLf
          (sym (ap (take (allowance before)) all ∙ take_at g.so_far rest.left (allowance before) full)) g.no_lf;
    }

not-ended : (before now : Bool) → (before ≡ true → now ≡ true) → now ≡ false → before ≡ false
not-ended true now stays going_on = absurd (false≢true (sym going_on ∙ stays refl))
not-ended false now stays going_on = refl

-- a call failed before the line ended
pub StopsAmid-met : {T : Type 0} {before : LinesState} {input : SourceState} {now : LinesState}
    {rest more : SourceState} → GoesOn T before input now rest → now.ahead ≡ [] → now.ended ≡ false →
    more.left ≡ rest.left → T → StopsAmid before input more
StopsAmid-met {T} {before} {input} {now} {rest} {more} g spent going_on same k =
    let all : before.ahead ++ g.read ≡ g.so_far = g.met ∙ ap (λ xs. g.so_far ++ xs) spent ∙ append-nil g.so_far in
    record {
      going_on = not-ended before.ended now.ended g.ended going_on;
      read = g.read;
      from = g.from k ∙ ap (λ xs. g.read ++ xs) (sym same);
      no_lf = subst HasNoLf (sym all) g.no_lf;
      within = omega (arith, g.used, ap length all);
    }

-- the test of an empty line
pub some_from_test : (line read : List ℕ) (empty : Bool) → read ≡ line → empty ≡ eqb (length read) 0 →
    not empty ≡ true →
    length line ≢ 0
some_from_test line read empty same test some = λ none. both_ways empty (not-true empty some) (test
    ∙ eq-eqb (length read) 0 (ap length same ∙ none))
