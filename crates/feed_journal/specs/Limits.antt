-- The limits of a log, and the lengths of a frame's parts.
use Rattle.std.specs.Prelude.{ℕ}

-- the greatest length of a payload
abbrev pub payload_limit : ℕ
payload_limit = 67108864

-- the greatest number of payloads of an area
abbrev pub payload_count_limit : ℕ
payload_count_limit = 4294967294

-- the greatest size of an area that is appended to
abbrev pub area_limit : ℕ
area_limit = 68719476736

-- a frame's header: its gate, and the payload's length in 4 bytes
abbrev pub header_length : ℕ
header_length = 5

-- the size of the smallest area with a payload: the header of an empty payload, and the gate after it
abbrev pub least_size : ℕ
least_size = 6

-- the gate of a frame
abbrev pub open_gate : ℕ
open_gate = 1

-- a gate that an append writes; every byte but `open_gate` is a closed one
abbrev pub closed_gate : ℕ
closed_gate = 0
