-- A source of bytes and a sink of bytes, as contracts see them.
use Rattle.std.specs.Prelude.{◌≡◌, ℕ, List, ◌++◌}

-- the bytes that the source has left, how many of its calls failed, and how many bytes it has given
pub record SourceState : Type 0 where
  pub left : List ℕ
  pub faults : ℕ
  pub bytes_read : ℕ

-- the bytes that the sink took, and how many of its calls failed
pub record SinkState : Type 0 where
  pub taken : List ℕ
  pub faults : ℕ

-- the sink took a prefix of the text
pub record TakesPrefix (before after : SinkState) (text : List ℕ) : Type 0 where
  pub sent : List ℕ
  pub rest : List ℕ
  pub whole : text ≡ sent ++ rest
  pub taken : after.taken ≡ before.taken ++ sent
