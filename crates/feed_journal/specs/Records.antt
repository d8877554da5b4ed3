-- The log of an area. A frame is an open gate, the payload's length as 4 bytes with the most significant first, and the
-- payload. After the frames is a closed gate.
use Rattle.std.specs.Prelude.{◌≡◌, ◌≢◌, ◌⊎◌, ℕ, zero, suc, ◌+◌, ◌-◌, ◌<◌, min, Bool, ◌&&◌, nat_le, ◌==◌, if◌then◌else◌}
use Rattle.std.specs.Prelude.{slice_index, List, [], ◌∷◌, ◌++◌, length, take, drop}
use Rattle.std.specs.Int.{w32, to_be_bytes, from_be_bytes}
use Rattle.feed_journal.specs.Limits.{payload_limit, payload_count_limit, header_length, least_size, open_gate}
use Rattle.feed_journal.specs.Limits.{closed_gate}

-- the length after the gate
abbrev pub length_at : List ℕ → ℕ
length_at bytes = from_be_bytes w32 (take 4 (drop 1 bytes))

-- the bytes begin with an open gate and a payload within the limit, and the payload isn't at their end
abbrev pub has_frame : List ℕ → Bool
has_frame bytes =
    (slice_index bytes 0 == open_gate)
    && nat_le (length_at bytes) payload_limit
    && nat_le (length_at bytes + least_size) (length bytes)

-- the payloads of the frames that the bytes begin with, n at most
abbrev pub records_up_to : ℕ → List ℕ → List (List ℕ)
records_up_to zero bytes = []
records_up_to (suc n) bytes =
    if has_frame bytes
    then take (length_at bytes) (drop header_length bytes)
    ∷ records_up_to n (drop (length_at bytes + header_length) bytes)
    else []

-- The payloads of an area, up to the limit of their number. No area has more payloads than bytes.
abbrev pub records : List ℕ → List (List ℕ)
records bytes = records_up_to (min (length bytes) payload_count_limit) bytes

-- the number of bytes up to the closed gate after these payloads, which is counted too
abbrev pub size_of : List (List ℕ) → ℕ
size_of [] = 1
size_of (payload ∷ payloads) = length payload + header_length + size_of payloads

-- the byte after the frames isn't an open gate
abbrev pub IsClosed : List ℕ → Type 0
IsClosed bytes = slice_index bytes (size_of (records bytes) - 1) ≢ open_gate

-- the area is too short for a payload, or the byte after its frames isn't an open gate
abbrev pub IsWhole : List ℕ → Type 0
IsWhole bytes = (length bytes < least_size) ⊎ IsClosed bytes

abbrev pub frame : List ℕ → List ℕ
frame payload = open_gate ∷ to_be_bytes w32 (length payload) ++ payload

abbrev pub frames : List (List ℕ) → List ℕ
frames [] = []
frames (payload ∷ payloads) = frame payload ++ frames payloads

-- the bytes that an append writes after a closed gate: the rest of the frame, and a closed gate
abbrev pub tail_of : List ℕ → List ℕ
tail_of payload = to_be_bytes w32 (length payload) ++ payload ++ closed_gate ∷ []

-- the bytes begin with the frames of these payloads and a closed gate
pub record Begins (payloads : List (List ℕ)) (bytes : List ℕ) : Type 0 where
  pub gate : ℕ
  pub rest : List ℕ
  pub closed : gate ≢ open_gate
  pub is : bytes ≡ frames payloads ++ gate ∷ rest

-- the bytes begin with the frames of these payloads
pub record StartsWith (payloads : List (List ℕ)) (bytes : List ℕ) : Type 0 where
  pub rest : List ℕ
  pub is : bytes ≡ frames payloads ++ rest

-- the first payloads of the bytes are these
abbrev pub HasFirst : List (List ℕ) → List ℕ → Type 0
HasFirst payloads bytes = take (length payloads) (records bytes) ≡ payloads

-- the payloads before an append, or those after it
abbrev pub IsBeforeOrAfter : List (List ℕ) → List ℕ → List (List ℕ) → Type 0
IsBeforeOrAfter before payload payloads = (payloads ≡ before) ⊎ (payloads ≡ before ++ payload ∷ [])

-- a whole image with the payloads before an append, or with those after it
pub record IsStep (before : List (List ℕ)) (payload : List ℕ) (image : List ℕ) : Type 0 where
  pub whole : IsWhole image
  pub payloads : IsBeforeOrAfter before payload (records image)

-- an image with the payloads of one of these, and whole if that one is
pub record StandsFor (images : List ℕ → Type 0) (image : List ℕ) : Type 0 where
  pub of : List ℕ
  pub among : images of
  pub payloads : records image ≡ records of
  pub whole : IsWhole of → IsWhole image

-- the area, which begins with a closed gate if it was too short for a payload
abbrev pub padded : List ℕ → List ℕ
padded bytes = if nat_le least_size (length bytes) then bytes else closed_gate ∷ drop 1 bytes
