-- The first line of an offer, without its LF.
use Rattle.std.specs.Prelude.{◌≡◌, ◌≢◌, ℕ, ◌+◌, ◌<◌, ◌≤◌, List, ◌∷◌, ◌++◌, All, length, take, drop, decimal}
use Rattle.atom_values.specs.Ascii.{lf, space}
use Rattle.doc_source.specs.Pile.{IsAddress, offer_limit}

-- the most bytes of a line: an address, a space and the eight digits of the greatest length
abbrev pub line_limit : ℕ
line_limit = 1_033

abbrev pub HasNo : ℕ → List ℕ → Type 0
HasNo byte bytes = All (λ b. b ≢ byte) bytes

abbrev pub HasNoLf : List ℕ → Type 0
HasNoLf bytes = HasNo lf bytes

-- the first occurrence of the byte is at this index
pub record IsFirst (byte : ℕ) (bytes : List ℕ) (at : ℕ) : Type 0 where
  pub within : at < length bytes
  pub none_before : HasNo byte (take at bytes)
  pub split : bytes ≡ take at bytes ++ (byte ∷ drop (at + 1) bytes)

-- the line has this address and this number of bytes
pub record IsLine (line address : List ℕ) (count : ℕ) : Type 0 where
  pub is_address : IsAddress address
  pub short : count ≤ offer_limit
  pub whole : line ≡ address ++ (space ∷ decimal count)

-- the part is a prefix of a line
pub record BeginsLine (part : List ℕ) : Type 0 where
  pub address : List ℕ
  pub count : ℕ
  pub more : List ℕ
  pub is_address : IsAddress address
  pub short : count ≤ offer_limit
  pub whole : part ++ more ≡ address ++ (space ∷ decimal count)

-- the digits are a prefix of a number of bytes
pub record BeginsCount (digits : List ℕ) : Type 0 where
  pub count : ℕ
  pub more : List ℕ
  pub short : count ≤ offer_limit
  pub whole : digits ++ more ≡ decimal count
