-- How many bytes of an input of lines were read.
use Rattle.std.proofs.Common.{◌≡◌, ℕ, ◌+◌, ◌-◌, ◌≤◌, Result, Ok, Err, arith}
use Rattle.feed_disk.specs.Raised.{RisesAtMost}
use Rattle.store_commands.specs.Lines.{LinesState, ReadsAllowed, input_limit, read_past}
use Rattle.store_commands.specs.declared.lines.LinesFault.{LinesFault}
use Rattle.store_commands.specs.declared.lines.LinesFault.TheVariants.{TooLong, Input, NoMemory}

-- the count of the bytes that were read rose by as many as may no longer be read
pub record HasReadAllowed (lines : LinesState) (first now : ℕ) : Type 0 where
  pub within : lines.allowed ≤ input_limit
  pub read : RisesAtMost (input_limit - lines.allowed) first now

pub read-start : (lines : LinesState) (first : ℕ) → lines.allowed ≡ input_limit → HasReadAllowed lines first first
read-start lines first all = record { within = omega (arith, all); read = omega arith }

past-most : {A : Type 0} (result : Result A LinesFault) → read_past result ≤ 1
past-most (Ok found) = omega arith
past-most (Err TooLong) = omega arith
past-most (Err Input) = omega arith
past-most (Err NoMemory) = omega arith

module _ (lines : LinesState) (first now : ℕ) (h : HasReadAllowed lines first now) where
  pub read-within : RisesAtMost (input_limit + 1) first now
  read-within = omega (arith, h.read)

  -- one more line, or the end of the lines, was read
  pub read-next : (after : LinesState) (rest : ℕ) → ReadsAllowed lines after 0 now rest
      → HasReadAllowed after first rest
  read-next after rest reads = record {
    within = omega (arith, h.within, reads.fewer);
    read = omega (arith, h.within, h.read, reads.fewer, reads.read);
  }

  -- no line follows
  pub read-ends : {A : Type 0} (after : LinesState) (rest : ℕ) (result : Result A LinesFault)
      → ReadsAllowed lines after (read_past result) now rest → RisesAtMost (input_limit + 1) first rest
  read-ends after rest result reads =
      omega (arith, h.within, h.read, reads.fewer, reads.read, past-most result)
