-- The lines of an input, and a reader of them.
use Rattle.std.specs.Prelude.{◌≡◌, ◌⊎◌, ℕ, ◌+◌, ◌-◌, ◌<◌, ◌≤◌, List, [], ◌∷◌, ◌++◌, Bool, ◌==◌, if◌then◌else◌, length, take}
use Rattle.std.specs.Prelude.{IsTrue, true, false, Result, Err}
use Rattle.atom_values.specs.Ascii.{lf}
use Rattle.feed_disk.specs.Raised.{RisesAtMost}
use Rattle.store_commands.specs.declared.lines.LinesFault.{LinesFault}
use Rattle.store_commands.specs.declared.lines.LinesFault.TheVariants.{TooLong}
use Rattle.store_commands.specs.Line.{prefix_limit}
use Rattle.doc_source.specs.Outside.{SourceState}
use Rattle.tool_words.specs.Line.{HasNo}

-- a byte put before the first line
abbrev pub onto_first : ℕ → List (List ℕ) → List (List ℕ)
onto_first b [] = (b ∷ []) ∷ []
onto_first b (line ∷ lines) = (b ∷ line) ∷ lines

-- the lines: each ends with LF, and the last one may end with the input where it isn't empty
abbrev pub lines : List ℕ → List (List ℕ)
lines [] = []
lines (b ∷ bytes) = if b == lf then [] ∷ lines bytes else onto_first b (lines bytes)

-- a byte put before the first line, if there is a line
abbrev pub onto_ended : ℕ → List (List ℕ) → List (List ℕ)
onto_ended b [] = []
onto_ended b (line ∷ lines) = (b ∷ line) ∷ lines

-- the lines that end with LF
abbrev pub ended_lines : List ℕ → List (List ℕ)
ended_lines [] = []
ended_lines (b ∷ bytes) = if b == lf then [] ∷ ended_lines bytes else onto_ended b (ended_lines bytes)

-- how many bytes are asked of the input at a time
abbrev pub buffer_limit : ℕ
buffer_limit = 65_536

-- how many bytes of lines an input may have
abbrev pub input_limit : ℕ
input_limit = 1_073_741_824

-- a reader of lines: the bytes that were read and not used, the prefix of the line that was found, how many more bytes
-- may be read, and whether the input came to its end
pub record LinesState : Type 0 where
  pub ahead : List ℕ
  pub line : List ℕ
  pub allowed : ℕ
  pub ended : Bool

-- the unread lines, and how many bytes of them may be used
abbrev pub stream : LinesState → SourceState → List ℕ
stream lines input = lines.ahead ++ input.left

abbrev pub allowance : LinesState → ℕ
allowance lines = length lines.ahead + lines.allowed

-- at the end of the input nothing is left
abbrev pub KnowsEnd : LinesState → SourceState → Type 0
KnowsEnd lines input = IsTrue lines.ended → input.left ≡ []

abbrev pub HasNoLf : List ℕ → Type 0
HasNoLf bytes = HasNo lf bytes

-- a line was found that ends with LF
pub record FindsEnded (before : LinesState) (input : SourceState) (after : LinesState) (rest : SourceState)
    (line : List ℕ) : Type 0 where
  pub whole : stream before input ≡ line ++ lf ∷ stream after rest
  pub used : allowance before ≡ length line + 1 + allowance after

-- the last line was found, which ends with the input
pub record FindsLast (before : LinesState) (input : SourceState) (after : LinesState) (rest : SourceState)
    (line : List ℕ) : Type 0 where
  pub whole : stream before input ≡ line
  pub spent : stream after rest ≡ []
  pub some : 0 < length line
  pub within : length line ≤ allowance before
  pub ended : after.ended ≡ true

-- a line was found
pub record FindsLine (before : LinesState) (input : SourceState) (after : LinesState)
    (rest : SourceState) : Type 0 where
  pub line : List ℕ
  pub no_lf : HasNoLf line
  pub prefix : after.line ≡ take prefix_limit line
  pub found : FindsEnded before input after rest line ⊎ FindsLast before input after rest line

-- more bytes are left than may be used, and no line ends among the bytes that may be used
pub record IsTooLong (before : LinesState) (input : SourceState) : Type 0 where
  pub more : allowance before < length (stream before input)
  pub no_lf : HasNoLf (take (allowance before) (stream before input))

-- No line ended in the bytes that were read before a call failed. The input hadn't come to its end.
pub record StopsAmid (before : LinesState) (input : SourceState) (rest : SourceState) : Type 0 where
  pub going_on : before.ended ≡ false
  pub read : List ℕ
  pub from : input.left ≡ read ++ rest.left
  pub no_lf : HasNoLf (before.ahead ++ read)
  pub within : length (before.ahead ++ read) ≤ allowance before

-- the prefix that is kept of a line, with more bytes of the line
abbrev pub with_prefix : List ℕ → List ℕ → List ℕ
with_prefix line bytes = line ++ take (prefix_limit - length line) bytes

-- the line ends among the bytes ahead, and its bytes among them were taken
pub record TakesEnd (before after : LinesState) : Type 0 where
  pub part : List ℕ
  pub no_lf : HasNoLf part
  pub split : before.ahead ≡ part ++ lf ∷ after.ahead
  pub line : after.line ≡ with_prefix before.line part

-- the line does not end among the bytes ahead, and all of them were taken
pub record TakesAll (before after : LinesState) : Type 0 where
  pub no_lf : HasNoLf before.ahead
  pub spent : after.ahead ≡ []
  pub line : after.line ≡ with_prefix before.line before.ahead

-- bytes were read, and that many fewer may be read from now on
pub record ReadsMore (before after : LinesState) : Type 0 where
  pub going_on : before.ended ≡ false
  pub some : 0 < length after.ahead
  pub used : length after.ahead + after.allowed ≡ before.allowed

-- the one byte of the input that is read past the limit
abbrev pub read_past : {A : Type 0} → Result A LinesFault → ℕ
read_past (Err TooLong) = 1
read_past _ = 0

-- the count of the input's bytes rose by as many as may no longer be read, and by some more
pub record ReadsAllowed (before after : LinesState) (more counted counted_after : ℕ) : Type 0 where
  pub fewer : after.allowed ≤ before.allowed
  pub read : RisesAtMost (before.allowed - after.allowed + more) counted counted_after

-- the input had nothing left, and no byte is ahead
pub record IsSpent (after : LinesState) (input rest : SourceState) : Type 0 where
  pub ahead : after.ahead ≡ []
  pub left : input.left ≡ []
  pub after_left : rest.left ≡ []
  pub ended : after.ended ≡ true
