-- A feed after each line of an input, step by step.
use Rattle.std.specs.Prelude.{◌≡◌, ℕ, ◌+◌, ◌≤◌, List, [], ◌∷◌, ◌++◌, length, take, nat_le, if◌then◌else◌}
use Rattle.std.specs.Prelude.{Option, Some, None, Result, Ok, Err}
use Rattle.command_ends.specs.declared.fault.Fault.{Fault}
use Rattle.command_ends.specs.declared.fault.Fault.TheVariants.{Refused}
use Rattle.command_ends.specs.declared.fault.Refusal.TheVariants.{TooLong}
use Rattle.store_commands.specs.Lines.{lines as lines_of, ended_lines, input_limit}
use Rattle.doc_source.specs.Outside.{SourceState}

-- a feed after a line that comes after `before` other lines
abbrev pub Step : Type 0 → Type 0
Step F = F → ℕ → List ℕ → Result F Fault

-- the feed that lines made, and the fault that ended them
pub record Applied (F : Type 0) : Type 0 where
  pub feed : F
  pub fault : Option Fault

-- the line made the next feed and more lines follow, or it was refused and left the feed as it was
abbrev pub after_line : {F : Type 0} → F → (F → Applied F) → Result F Fault → Applied F
after_line feed later (Ok next) = later next
after_line feed later (Err fault) = record { feed = feed; fault = Some fault }

abbrev pub apply_lines : {F : Type 0} → Step F → F → ℕ → List (List ℕ) → Applied F
apply_lines step feed before [] = record { feed = feed; fault = None }
apply_lines step feed before (line ∷ later) =
    after_line feed (λ next. apply_lines step next (before + 1) later) (step feed before line)

abbrev pub or_too_long : Option Fault → Option Fault
or_too_long None = Some (Refused TooLong)
or_too_long (Some fault) = Some fault

-- the lines of an input that is over the limit end with that refusal, unless one is refused before
abbrev pub then_too_long : {F : Type 0} → Applied F → Applied F
then_too_long applied = record { feed = applied.feed; fault = or_too_long applied.fault }

-- a feed after the lines of an input. If the input is over the limit, the lines within the limit come first
unfoldable pub applied : {F : Type 0} → Step F → F → List ℕ → Applied F
applied step feed input =
    if nat_le (length input) input_limit
    then apply_lines step feed 0 (lines_of input)
    else then_too_long (apply_lines step feed 0 (ended_lines (take input_limit input)))

-- The bytes that were read before a call failed are within the limit. The lines that ended among them, none of which is
-- refused, made this feed.
pub record IsMadeByRead {F : Type 0} (step : Step F) (feed : F) (before after : SourceState) (made : F) : Type 0 where
  pub read : List ℕ
  pub from : before.left ≡ read ++ after.left
  pub within : length read ≤ input_limit
  pub lines : apply_lines step feed 0 (ended_lines read) ≡ record { feed = made; fault = None }

-- no line among the bytes that were read before a call failed is refused
abbrev pub IsUnrefused : {F : Type 0} → Step F → F → SourceState → SourceState → Type 0
IsUnrefused {F} step feed before after = (made : F) × IsMadeByRead step feed before after made

-- the lines of an input that are within the limit
abbrev pub lines_within : List ℕ → List (List ℕ)
lines_within input =
    if nat_le (length input) input_limit then lines_of input else ended_lines (take input_limit input)

-- this number of lines of the input, which are its first and none of which is refused, made this feed
pub record IsMadeByFirst {F : Type 0} (step : Step F) (feed : F) (input : List ℕ) (count : ℕ) (made : F)
    : Type 0 where
  pub within : count ≤ length (lines_within input)
  pub lines : apply_lines step feed 0 (take count (lines_within input)) ≡ record { feed = made; fault = None }
