-- The reading of one frame's header.
use Rattle.std.specs.Prelude.{◌≡◌, ◌≢◌, ◌⊎◌, ◌<◌, ℕ, true, false, List, ◌∷◌, length, take, slice_index, Option, None}
use Rattle.std.specs.Prelude.{Some}
use Rattle.std.specs.Prelude.{if◌then◌else◌}
use Rattle.std.specs.Prelude.{◌==◌, ◌&&◌, nat_le, nat_lt}
use Rattle.std.specs.Int.{w32, to_be_bytes}
use Rattle.feed_journal.specs.Limits.{payload_limit, header_length, least_size, open_gate}
use Rattle.feed_journal.specs.Records.{has_frame, length_at}

-- the payload's length by this header of a frame, if it is that of a payload before the last of the bytes after it
abbrev pub IsHeader : List ℕ → ℕ → Option ℕ → Type 0
IsHeader header after found =
    let n = length_at header in
    found ≡ (if (slice_index header 0 == open_gate) && nat_le n payload_limit && nat_lt n after then Some n else None)

-- the bytes begin with a frame whose payload has this length, or with no frame
abbrev pub IsNext : List ℕ → Option ℕ → Type 0
IsNext bytes None = has_frame bytes ≡ false
IsNext bytes (Some n) =
    (has_frame bytes ≡ true)
    × (length_at bytes ≡ n)
    × (take header_length bytes ≡ open_gate ∷ to_be_bytes w32 n)

-- the bytes are too few for a payload, or the byte at this offset isn't an open gate
abbrev pub IsClosedAt : ℕ → List ℕ → Type 0
IsClosedAt end bytes = (length bytes < least_size) ⊎ (slice_index bytes end ≢ open_gate)

-- the number of bytes of a header that was found
abbrev pub header_bytes : Option ℕ → ℕ
header_bytes None = 0
header_bytes (Some n) = header_length
