-- How far the lines of an input have come, and what each line makes of a feed.
use Rattle.std.proofs.Common.{◌≡◌, ◌⊎◌, inl, inr, ⊎_elim, ℕ, ◌+◌, ◌-◌, ◌<◌, ◌≤◌, true, false, nat_le, List, [], ◌∷◌}
use Rattle.std.proofs.Common.{◌++◌, length, take, Some, None, Result, Ok, Err, refl, ap, sym, ◌∙◌, arith, rules, tests}
use Rattle.std.proofs.Common.{length-append, append_assoc, append-nil, add-zero, zero-add, add_assoc, one-add}
use Rattle.std.specs.Prelude.{All}
use Rattle.std.proofs.lemmas.List.Elements.{All-nil, All-head, All-tail, All-push}
use Rattle.std.proofs.lemmas.List.{take_at}
use Rattle.std.proofs.Math.Seq.{take-append-add}
use Rattle.std.proofs.lemmas.Bool.{cases_lt, false≢true}
use Rattle.std.proofs.lemmas.List.Concat.{flat_map-append}
use Rattle.command_ends.specs.declared.fault.Fault.{Fault}
use Rattle.command_ends.specs.declared.fault.Fault.TheVariants.{Refused}
use Rattle.command_ends.specs.declared.fault.Refusal.TheVariants.{TooLong}
use Rattle.doc_source.specs.Outside.{SourceState}
use Rattle.atom_values.specs.Ascii.{lf}
use Rattle.store_commands.specs.Line.{prefix_limit}
use Rattle.store_commands.specs.Lines.{lines, ended_lines, input_limit, LinesState, stream, allowance, HasNoLf}
use Rattle.store_commands.specs.Lines.{FindsLine, FindsEnded, FindsLast, IsTooLong, StopsAmid}
use Rattle.store_commands.specs.Applied.{Applied, Step, IsMadeByFirst, IsMadeByRead, IsUnrefused, after_line, applied}
use Rattle.store_commands.specs.Applied.{apply_lines, lines_within, then_too_long}
use Rattle.store_commands.proofs.LineLemmas.{with_lf, lines-ended, ended_lines-ended, lines-last, ended_lines-none}
use Rattle.store_commands.proofs.LineLemmas.{ended_lines-joined, lines-joined, with_lf-first}

-- a feed that lines made, none of which was refused
abbrev pub made_whole : {F : Type 0} → F → Applied F
made_whole feed = record { feed = feed; fault = None }

-- the step makes the same of a line and of the prefix that is kept of it
abbrev pub SeesPrefix : {F : Type 0} → Step F → Type 0
SeesPrefix {F} step = (feed : F) (before : ℕ) (line prefix : List ℕ) → prefix ≡ take prefix_limit line →
    step feed before prefix ≡ step feed before line

after_line-more : {F : Type 0} (feed made : F) (one two : F → Applied F) (end : Applied F) (r : Result F Fault) →
    ((next : F) → one next ≡ made_whole made → two next ≡ end) → after_line feed one r ≡ made_whole made →
    after_line feed two r ≡ end
after_line-more feed made one two end (Ok next) h e = h next e
after_line-more feed made one two end (Err fault) h e =
    let fault_is : Some fault ≡ None = ap (λ a. a.fault) e in cc

empty-length : (xs : List ℕ) → length xs ≡ 0 → xs ≡ []
empty-length [] h = refl
empty-length (x ∷ xs) h = absurd (omega (arith, h))

-- where nothing is left, no line is found
pub nothing-found : (reader : LinesState) (input : SourceState) (after : LinesState) (rest : SourceState) →
    stream reader input ≡ [] → FindsLine reader input after rest → ⊥
nothing-found reader input after rest none f =
    ⊎_elim (λ e. absurd (omega (arith, ap length (sym none ∙ e.whole), length-append f.line (lf ∷ stream after rest))))
    (λ l. absurd (omega (arith, ap length (sym none ∙ l.whole), l.some))) f.found

ended_lines-more : (ls : List (List ℕ)) (rest : List ℕ) → All HasNoLf ls →
    ended_lines (with_lf ls ++ rest) ≡ ls ++ ended_lines rest
ended_lines-more [] rest h = refl
ended_lines-more (l ∷ ls) rest h =
    ap ended_lines (with_lf-first l (with_lf ls) rest)
    ∙ ended_lines-ended l (with_lf ls ++ rest) (All-head HasNoLf l ls h)
    ∙ ap (λ more. l ∷ more) (ended_lines-more ls rest (All-tail HasNoLf l ls h))

with_lf-push : (ls : List (List ℕ)) (line : List ℕ) → with_lf (ls ++ line ∷ []) ≡ with_lf ls ++ (line ++ lf ∷ [])
with_lf-push ls line = flat_map-append (λ l. l ++ lf ∷ []) ls (line ∷ [])
    ∙ ap (λ (x : List ℕ). with_lf ls ++ x) (append-nil (line ++ lf ∷ []))

ended-front : (line rest : List ℕ) (size more : ℕ) → HasNoLf line → size ≡ length line + 1 + more →
    ended_lines (take size (line ++ lf ∷ rest)) ≡ line ∷ ended_lines (take more rest)
ended-front line rest size more h e =
    let front : take size (line ++ lf ∷ rest) ≡ line ++ lf ∷ take more rest =
    rw (e, add_assoc (length line) 1 more) (take-append-add line (lf ∷ rest) (1 + more)
    ∙ ap (λ (x : List ℕ). line ++ x) (rw one-add refl)) in
    ap ended_lines front ∙ ended_lines-ended line (take more rest) h

-- the lines of an input within the limit, and of one past it
lines-short : (whole : List ℕ) → length whole ≤ input_limit → lines_within whole ≡ lines whole
lines-short whole h = let e : nat_le (length whole) input_limit ≡ true = search (rules, tests) in rw e refl

lines-past : (whole : List ℕ) → input_limit < length whole →
    lines_within whole ≡ ended_lines (take input_limit whole)
lines-past whole h = let e : nat_le (length whole) input_limit ≡ false = search (rules, tests) in rw e refl

-- the lines so far, each with its LF, made the feed
pub record Going {F : Type 0} (step : Step F) (start : F) (whole : List ℕ) (reader : LinesState) (input : SourceState)
    (before : ℕ) (feed : F) : Type 0 where
  pub ended : List (List ℕ)
  pub no_lf : All HasNoLf ended
  pub split : whole ≡ with_lf ended ++ stream reader input
  pub count : before ≡ length ended
  pub made : apply_lines step start 0 ended ≡ made_whole feed
  pub used : length (with_lf ended) + allowance reader ≡ input_limit

-- the input was used up by a last line without LF
pub record Spent {F : Type 0} (step : Step F) (start : F) (whole : List ℕ) (reader : LinesState) (input : SourceState)
    (before : ℕ) (feed : F) : Type 0 where
  pub nothing : stream reader input ≡ []
  pub within : length whole ≤ input_limit
  pub count : before ≡ length (lines whole)
  pub made : apply_lines step start 0 (lines whole) ≡ made_whole feed
  pub ended : reader.ended ≡ true

-- `before` lines of the input made the feed, and none of them was refused
abbrev pub Progress : {F : Type 0} → Step F → F → List ℕ → LinesState → SourceState → ℕ → F → Type 0
Progress step start whole reader input before feed = Going step start whole reader input before feed
    ⊎ Spent step start whole reader input before feed

module _ {F : Type 0} (step : Step F) where
  -- more lines go on from the feed that the first ones make
  pub apply_lines-append : (feed made : F) (before : ℕ) (first more : List (List ℕ)) →
      apply_lines step feed before first ≡ made_whole made →
      apply_lines step feed before (first ++ more) ≡ apply_lines step made (before + length first) more
  apply_lines-append feed made before [] more e =
      let same : feed ≡ made = ap (λ (a : Applied F). a.feed) e in rw (add-zero before, same) refl
  apply_lines-append feed made before (line ∷ first) more e =
      let count : before + 1 + length first ≡ before + length (line ∷ first) = omega arith in
      after_line-more feed made _ _ _ (step feed before line)
      (λ next h. apply_lines-append next made (before + 1) first more h
      ∙ ap (λ n. apply_lines step made n more) count) e

  made-push : (start feed next : F) (ended : List (List ℕ)) (line : List ℕ) (before : ℕ) →
      before ≡ length ended → apply_lines step start 0 ended ≡ made_whole feed →
      step feed before line ≡ Ok next → apply_lines step start 0 (ended ++ line ∷ []) ≡ made_whole next
  made-push start feed next ended line before count made ok =
      apply_lines-append start feed 0 ended (line ∷ []) made
      ∙ ap (after_line feed made_whole) (ap (λ n. step feed n line) (zero-add (length ended) ∙ sym count) ∙ ok)

  -- a line that is refused leaves the feed
  apply_lines-refused : (feed : F) (before : ℕ) (line : List ℕ) (more : List (List ℕ)) (fault : Fault) →
      step feed before line ≡ Err fault →
      apply_lines step feed before (line ∷ more) ≡ record { feed = feed; fault = Some fault }
  apply_lines-refused feed before line more fault e =
      ap (after_line feed (λ next. apply_lines step next (before + 1) more)) e

  -- an input within the limit
  applied-within : (start : F) (whole : List ℕ) → length whole ≤ input_limit →
      applied step start whole ≡ apply_lines step start 0 (lines whole)
  unfolding applied
  applied-within start whole h = let e : nat_le (length whole) input_limit ≡ true = search (rules, tests) in rw e refl

  applied-past : (start : F) (whole : List ℕ) → input_limit < length whole →
      applied step start whole ≡ then_too_long (apply_lines step start 0 (ended_lines (take input_limit whole)))
  unfolding applied
  applied-past start whole h = let e : nat_le (length whole) input_limit ≡ false = search (rules, tests) in rw e refl

  -- the bytes within the limit, if there are more
  front-past : (start : F) (whole : List ℕ) (reader : LinesState) (input : SourceState) (before : ℕ) (feed : F)
      (g : Going step start whole reader input before feed) →
      take input_limit whole ≡ with_lf g.ended ++ take (allowance reader) (stream reader input)
  front-past start whole reader input before feed g =
      ap (take input_limit) g.split
      ∙ (rw (← g.used) (take-append-add (with_lf g.ended) (stream reader input) (allowance reader)))

  -- before the first line
  pub Progress-start : (start : F) (whole : List ℕ) (reader : LinesState) (input : SourceState) → reader.ahead ≡ [] →
      reader.allowed ≡ input_limit → whole ≡ input.left → Progress step start whole reader input 0 start
  Progress-start start whole reader input none all same = inl record {
    ended = [];
    no_lf = All-nil HasNoLf;
    split = same ∙ ap (λ (x : List ℕ). x ++ input.left) (sym none);
    count = refl;
    made = refl;
    used = omega (arith, ap length none, all);
  }

  -- these lines come first in the input, and they made the feed
  first-made : (start feed : F) (whole : List ℕ) (first more : List (List ℕ)) (count : ℕ) →
      lines_within whole ≡ first ++ more → count ≡ length first → apply_lines step start 0 first ≡ made_whole feed →
      IsMadeByFirst step start whole count feed
  first-made start feed whole first more count split is made = record {
    within = omega (arith, ap length split, length-append first more, is);
    lines = ap (λ ls. apply_lines step start 0 (take count ls)) split
        ∙ ap (apply_lines step start 0) (take_at first more count (sym is)) ∙ made;
  }

  -- the lines so far are the first ones within the limit
  Going-first : (start : F) (whole : List ℕ) (reader : LinesState) (input : SourceState) (before : ℕ) (feed : F)
      (g : Going step start whole reader input before feed) →
      (more : List (List ℕ)) × (lines_within whole ≡ g.ended ++ more)
  Going-first start whole reader input before feed g = ⊎_elim
      (λ (long : input_limit < length whole). (
        ended_lines (take (allowance reader) (stream reader input)),
        lines-past whole long ∙ ap ended_lines (front-past start whole reader input before feed g)
            ∙ ended_lines-more g.ended (take (allowance reader) (stream reader input)) g.no_lf,
      ))
      (λ (short : length whole ≤ input_limit). (
        lines (stream reader input),
        lines-short whole short ∙ ap lines g.split ∙ lines-joined g.ended (stream reader input) g.no_lf,
      ))
      (cases_lt input_limit (length whole))

  -- this number of lines made the feed, the first of the input
  pub Progress-made : (start : F) (whole : List ℕ) (reader : LinesState) (input : SourceState) (before : ℕ)
      (feed : F) → Progress step start whole reader input before feed → IsMadeByFirst step start whole before feed
  Progress-made start whole reader input before feed (inl g) =
      let first = Going-first start whole reader input before feed g in
      first-made start feed whole g.ended first.0 before first.1 g.count g.made
  Progress-made start whole reader input before feed (inr s) =
      first-made start feed whole (lines whole) [] before
      (lines-short whole s.within ∙ sym (append-nil (lines whole))) s.count s.made

  -- where there is no further line, the feed is the input's
  pub Progress-end : (start : F) (whole : List ℕ) (reader : LinesState) (input : SourceState) (before : ℕ)
      (feed : F) → Progress step start whole reader input before feed → stream reader input ≡ [] →
      applied step start whole ≡ made_whole feed
  Progress-end start whole reader input before feed (inl g) none =
      let whole_is : whole ≡ with_lf g.ended = g.split ∙ ap (λ (x : List ℕ). with_lf g.ended ++ x) none
      ∙ append-nil (with_lf g.ended) in
      applied-within start whole (rw whole_is (omega (arith, g.used)))
      ∙ ap (apply_lines step start 0) (ap lines g.split ∙ lines-joined g.ended (stream reader input) g.no_lf
      ∙ ap (λ (x : List ℕ). g.ended ++ lines x) none ∙ append-nil g.ended) ∙ g.made
  Progress-end start whole reader input before feed (inr s) none = applied-within start whole s.within ∙ s.made

  -- the lines that are left decide the result of the whole input
  goes-on : (start : F) (whole : List ℕ) (reader : LinesState) (input : SourceState) (before : ℕ) (feed : F)
      (g : Going step start whole reader input before feed) → length whole ≤ input_limit →
      applied step start whole ≡ apply_lines step feed before (lines (stream reader input))
  goes-on start whole reader input before feed g h =
      applied-within start whole h
      ∙ ap (apply_lines step start 0) (ap lines g.split ∙ lines-joined g.ended (stream reader input) g.no_lf)
      ∙ apply_lines-append start feed 0 g.ended (lines (stream reader input)) g.made
      ∙ ap (λ n. apply_lines step feed n (lines (stream reader input))) (zero-add (length g.ended) ∙ sym g.count)

  goes-past : (start : F) (whole : List ℕ) (reader : LinesState) (input : SourceState) (before : ℕ) (feed : F)
      (g : Going step start whole reader input before feed) → input_limit < length whole →
      applied step start whole
      ≡ then_too_long (apply_lines step feed before (ended_lines (take (allowance reader) (stream reader input))))
  goes-past start whole reader input before feed g h =
      let left = ended_lines (take (allowance reader) (stream reader input)) in
      applied-past start whole h
      ∙ ap (λ ls. then_too_long (apply_lines step start 0 ls))
      (ap ended_lines (front-past start whole reader input before feed g)
      ∙ ended_lines-more g.ended (take (allowance reader) (stream reader input)) g.no_lf)
      ∙ ap then_too_long (apply_lines-append start feed 0 g.ended left g.made
      ∙ ap (λ n. apply_lines step feed n left) (zero-add (length g.ended) ∙ sym g.count))

  last-split : (start : F) (whole : List ℕ) (reader : LinesState) (input : SourceState) (before : ℕ) (feed : F)
      (g : Going step start whole reader input before feed) (line : List ℕ) → stream reader input ≡ line →
      whole ≡ with_lf g.ended ++ line
  last-split start whole reader input before feed g line e =
      g.split ∙ ap (λ (x : List ℕ). with_lf g.ended ++ x) e

  Going-ended : (start : F) (whole : List ℕ) (reader : LinesState) (input : SourceState) (after : LinesState)
      (rest : SourceState) (before : ℕ) (feed next : F) (line : List ℕ) →
      Going step start whole reader input before feed → HasNoLf line → FindsEnded reader input after rest line →
      step feed before line ≡ Ok next → Going step start whole after rest (before + 1) next
  Going-ended start whole reader input after rest before feed next line g h f ok = record {
    ended = g.ended ++ line ∷ [];
    no_lf = All-push HasNoLf g.ended line g.no_lf h;
    split = g.split ∙ ap (λ (x : List ℕ). with_lf g.ended ++ x) (f.whole
        ∙ sym (append_assoc line (lf ∷ []) (stream after rest)))
        ∙ sym (append_assoc (with_lf g.ended) (line ++ lf ∷ []) (stream after rest))
        ∙ ap (λ (x : List ℕ). x ++ stream after rest) (sym (with_lf-push g.ended line));
    count = omega (arith, g.count, length-append g.ended (line ∷ []));
    made = made-push start feed next g.ended line before g.count g.made ok;
    used = omega (
      arith,
      g.used,
      f.used,
      ap length (with_lf-push g.ended line),
      length-append (with_lf g.ended) (line ++ lf ∷ []),
      length-append line (lf ∷ []),
    );
  }

  Spent-last : (start : F) (whole : List ℕ) (reader : LinesState) (input : SourceState) (after : LinesState)
      (rest : SourceState) (before : ℕ) (feed next : F) (line : List ℕ) →
      Going step start whole reader input before feed → HasNoLf line → FindsLast reader input after rest line →
      step feed before line ≡ Ok next → Spent step start whole after rest (before + 1) next
  Spent-last start whole reader input after rest before feed next line g h f ok =
      let split = last-split start whole reader input before feed g line f.whole in
      let all : lines whole ≡ g.ended ++ line ∷ [] =
      ap lines split ∙ lines-joined g.ended line g.no_lf ∙ ap (λ ls. g.ended ++ ls) (lines-last line h f.some) in
      record {
        nothing = f.spent;
        within = omega (arith, ap length split, length-append (with_lf g.ended) line, g.used, f.within);
        count = omega (arith, g.count, ap length all, length-append g.ended (line ∷ []));
        made = ap (apply_lines step start 0) all
            ∙ made-push start feed next g.ended line before g.count g.made ok;
        ended = f.ended;
      }

  -- the next line was found, and it makes the next feed
  pub Progress-step : SeesPrefix step → (start : F) (whole : List ℕ) (reader : LinesState) (input : SourceState)
      (after : LinesState) (rest : SourceState) (before : ℕ) (feed next : F) →
      Progress step start whole reader input before feed → FindsLine reader input after rest →
      step feed before after.line ≡ Ok next → Progress step start whole after rest (before + 1) next
  Progress-step sees start whole reader input after rest before feed next (inl g) f ok =
      let same = sym (sees feed before f.line after.line f.prefix) ∙ ok in
      ⊎_elim
      (λ e. inl (Going-ended start whole reader input after rest before feed next f.line g f.no_lf e same))
      (λ l. inr (Spent-last start whole reader input after rest before feed next f.line g f.no_lf l same)) f.found
  Progress-step sees start whole reader input after rest before feed next (inr s) f ok =
      absurd (nothing-found reader input after rest s.nothing f)

  Going-refused : (start : F) (whole : List ℕ) (reader : LinesState) (input : SourceState) (before : ℕ) (feed : F)
      (line more : List ℕ) (fault : Fault) →
      Going step start whole reader input before feed → step feed before line ≡ Err fault →
      (length whole ≤ input_limit → lines (stream reader input) ≡ line ∷ lines more) →
      (input_limit < length whole →
      ended_lines (take (allowance reader) (stream reader input))
      ≡ line ∷ ended_lines (take (allowance reader - (length line + 1)) more)) →
      applied step start whole ≡ record { feed = feed; fault = Some fault }
  Going-refused start whole reader input before feed line more fault g bad within past =
      ⊎_elim
      (λ (long : input_limit < length whole).
      goes-past start whole reader input before feed g long
      ∙ ap (λ ls. then_too_long (apply_lines step feed before ls)) (past long)
      ∙ ap then_too_long (apply_lines-refused feed before line _ fault bad))
      (λ (short : length whole ≤ input_limit).
      goes-on start whole reader input before feed g short ∙ ap (apply_lines step feed before) (within short)
      ∙ apply_lines-refused feed before line _ fault bad)
      (cases_lt input_limit (length whole))

  -- the next line was found, and it is refused
  pub Progress-refused : SeesPrefix step → (start : F) (whole : List ℕ) (reader : LinesState) (input : SourceState)
      (after : LinesState) (rest : SourceState) (before : ℕ) (feed : F) (fault : Fault) →
      Progress step start whole reader input before feed → FindsLine reader input after rest →
      step feed before after.line ≡ Err fault →
      applied step start whole ≡ record { feed = feed; fault = Some fault }
  Progress-refused sees start whole reader input after rest before feed fault (inl g) f bad =
      let same = sym (sees feed before f.line after.line f.prefix) ∙ bad in
      ⊎_elim
      (λ (e : FindsEnded reader input after rest f.line).
      Going-refused start whole reader input before feed f.line (stream after rest) fault g same
      (λ _. ap lines e.whole ∙ lines-ended f.line (stream after rest) f.no_lf)
      (λ _. ap (λ x. ended_lines (take (allowance reader) x)) e.whole
      ∙ ended-front f.line (stream after rest) (allowance reader) (allowance reader - (length f.line + 1)) f.no_lf
      (omega (arith, e.used))))
      (λ (l : FindsLast reader input after rest f.line).
      let split = last-split start whole reader input before feed g f.line l.whole in
      Going-refused start whole reader input before feed f.line [] fault g same
      (λ _. ap lines l.whole ∙ lines-last f.line f.no_lf l.some)
      (λ long. absurd (omega (arith, long, ap length split, length-append (with_lf g.ended) f.line, g.used, l.within))))
      f.found
  Progress-refused sees start whole reader input after rest before feed fault (inr s) f bad =
      absurd (nothing-found reader input after rest s.nothing f)

  -- no line ends within the limit, and there are more bytes
  pub Progress-long : (start : F) (whole : List ℕ) (reader : LinesState) (input : SourceState) (before : ℕ)
      (feed : F) → Progress step start whole reader input before feed → IsTooLong reader input →
      applied step start whole ≡ record { feed = feed; fault = Some (Refused TooLong) }
  Progress-long start whole reader input before feed (inl g) t =
      goes-past start whole reader input before feed g
      (omega (arith, ap length g.split, length-append (with_lf g.ended) (stream reader input), g.used, t.more))
      ∙ ap (λ ls. then_too_long (apply_lines step feed before ls))
      (ended_lines-none (take (allowance reader) (stream reader input)) t.no_lf)
  Progress-long start whole reader input before feed (inr s) t = absurd (omega (arith, ap length s.nothing, t.more))

  -- a call on the input failed within a line
  pub Progress-read : (start : F) (begin : SourceState) (reader : LinesState) (input : SourceState)
      (rest : SourceState) (before : ℕ) (feed : F) →
      Progress step start begin.left reader input before feed → StopsAmid reader input rest →
      IsMadeByRead step start begin rest feed
  Progress-read start begin reader input rest before feed (inl g) a =
      let read = reader.ahead ++ a.read in
      record {
        read = with_lf g.ended ++ read;
        from = g.split ∙ ap (λ (x : List ℕ). with_lf g.ended ++ (reader.ahead ++ x)) a.from
            ∙ ap (λ (x : List ℕ). with_lf g.ended ++ x) (sym (append_assoc reader.ahead a.read rest.left))
            ∙ sym (append_assoc (with_lf g.ended) read rest.left);
        within = omega (arith, length-append (with_lf g.ended) read, g.used, a.within);
        lines = ap (apply_lines step start 0) (ended_lines-joined g.ended read g.no_lf a.no_lf) ∙ g.made;
      }
  Progress-read start begin reader input rest before feed (inr s) a = absurd (false≢true (sym a.going_on ∙ s.ended))

  pub Progress-amid : (start : F) (begin : SourceState) (reader : LinesState) (input : SourceState)
      (rest : SourceState) (before : ℕ) (feed : F) →
      Progress step start begin.left reader input before feed → StopsAmid reader input rest →
      IsUnrefused step start begin rest
  Progress-amid start begin reader input rest before feed progress amid =
      (feed, Progress-read start begin reader input rest before feed progress amid)
