-- The bytes that were taken from a source and aren't used yet.
use Rattle.std.specs.Prelude.{◌≡◌, ℕ, ◌+◌, List, ◌++◌, length, Result, Ok}
use Rattle.atom_values.specs.declared.memory.Failed.{Failed}
use Rattle.doc_source.specs.declared.intake.Filled.{Filled}
use Rattle.doc_source.specs.declared.intake.Filled.TheVariants.{Limit}
use Rattle.doc_source.specs.Outside.{SourceState}

-- how many bytes are asked of a source at a time
abbrev pub buffer_limit : ℕ
buffer_limit = 65_536

-- the byte that is taken past the limit, to learn whether the source goes on
abbrev pub probed : Result Filled Failed → ℕ
probed (Ok Limit) = 1
probed _ = 0

-- the bytes ahead, how many bytes were taken from the source in all, and how many may be taken
pub record IntakeState : Type 0 where
  pub ahead : List ℕ
  pub taken : ℕ
  pub limit : ℕ

-- bytes were taken from the source and stand after those ahead; `observable` is whether the source's content is known
pub record TakesMore (observable : Type 0) (before after : IntakeState) (source rest : SourceState) : Type 0 where
  pub read : List ℕ
  pub ahead : after.ahead ≡ before.ahead ++ read
  pub taken : after.taken ≡ before.taken + length read
  pub limit : after.limit ≡ before.limit
  pub from : observable → source.left ≡ read ++ rest.left
