-- Identifiers of a feed and of its members: UUIDs (RFC 9562), as sixteen bytes and as texts.
use Rattle.std.specs.Prelude.{◌≡◌, ◌≢◌, ℕ, ◌+◌, ◌*◌, ◌/◌, ◌%◌, ◌<◌, ◌≤◌, ◌^◌, List, ◌∷◌, ◌++◌, length, take}
use Rattle.std.specs.Prelude.{slice_index, All, codes}
use Rattle.std.specs.Int.{to_be_bytes, w32}
use Rattle.uuid.specs.Text.{hyphenated_text, lower}

-- the version of the members' UUIDs
abbrev pub member_version : ℕ
member_version = 8

-- the byte of the two variant bits 10 (RFC 9562 section 4.1) and six zero bits
abbrev pub variant_byte : ℕ
variant_byte = 128

-- the version nibble (RFC 9562 section 4.2)
abbrev pub version : List ℕ → ℕ
version bytes = slice_index bytes 6 / 16

-- a feed's identifier: a UUID of any version but the members'
pub record IsFeedId (bytes : List ℕ) : Type 0 where
  pub size : length bytes ≡ 16
  pub each : All (λ b. b < 256) bytes
  pub version : version bytes ≢ member_version

-- the UUID of a member, of version 8 (RFC 9562 section 5.8): the first 48 bits and the 12 bits after the version are
-- the feed's, and the 62 bits after the variant are the number
unfoldable pub member_bytes : List ℕ → ℕ → List ℕ
member_bytes feed number =
    take 6 feed ++ (16 * member_version + slice_index feed 6 % 16) ∷ slice_index feed 7
    ∷ variant_byte ∷ 0 ∷ 0 ∷ 0 ∷ to_be_bytes w32 number

-- the UUID in lower case with hyphens
abbrev pub feed_text : List ℕ → List ℕ
feed_text bytes = hyphenated_text lower bytes

-- the identifier in documents (RFC 4287 section 4.2.6)
unfoldable pub member_id : List ℕ → ℕ → List ℕ
member_id feed number = codes "urn:uuid:" ++ hyphenated_text lower (member_bytes feed number)

-- the text is the identifier of member `number`, counted from 1
pub record IsMemberId (feed : List ℕ) (number : ℕ) (id : List ℕ) : Type 0 where
  pub counted : 1 ≤ number
  pub below : number < 2 ^ 32
  pub text : id ≡ member_id feed number
