-- A payload in the form in which it is appended.
use Rattle.std.specs.Prelude.{◌≡◌, ℕ, ◌-◌, ◌≤◌, List, length, take, drop}
use Rattle.feed_journal.specs.Limits.{payload_limit, header_length}
use Rattle.feed_journal.specs.Records.{tail_of}

-- the bytes between the length and the closed gate
abbrev pub payload_of : List ℕ → List ℕ
payload_of bytes = take (length bytes - header_length) (drop 4 bytes)

-- the bytes are the form of a payload within the limit
pub record IsFramed (bytes : List ℕ) : Type 0 where
  pub is : bytes ≡ tail_of (payload_of bytes)
  pub most : length (payload_of bytes) ≤ payload_limit
