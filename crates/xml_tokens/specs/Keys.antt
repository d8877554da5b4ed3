-- Names behind numbers that are made of them, and their order.
use Rattle.std.specs.Prelude.{◌≡◌, ℕ, ◌+◌, ◌*◌, ◌%◌, ◌^◌, ◌<◌, List, [], ◌∷◌, length, slice_index_or, true, false}
use Rattle.std.specs.Borrow.{Bor}
use Rattle.std.specs.Cmp.Lexicographic.{slice_cmp}
use Rattle.std.specs.Ordering.{is_eq, nat_cmp, ordering_then}
use Rattle.std.specs.declared.cmp.Ordering.{Ordering}

-- the number of a name, from its bytes and the number of the bytes before them
unfoldable pub number_from : ℕ → List ℕ → ℕ
number_from number [] = number
number_from number (byte ∷ bytes) =
    number_from ((number * 0x9E37_79B9_7F4A_7C15 % 2 ^ 64 + byte) % 2 ^ 64) bytes

abbrev pub number_of : List ℕ → ℕ
number_of name = number_from 0 name

abbrev pub Key : Type 0
Key = ℕ × Bor (List ℕ)

abbrev pub key_of : Bor (List ℕ) → Key
key_of name = (number_of name.now, name)

-- by the numbers, and then by the names
abbrev pub key_cmp : Key → Key → Ordering
key_cmp x y = ordering_then (nat_cmp x.0 y.0) (slice_cmp nat_cmp x.1.now y.1.now)

-- a key is equal to the next one
abbrev pub HasNeighbors : List Key → Type 0
HasNeighbors keys =
    (k : ℕ) × (k + 1 < length keys)
    × ((d : Key) → is_eq (key_cmp (slice_index_or keys k d) (slice_index_or keys (k + 1) d)) ≡ true)

-- no key is equal to the next one
abbrev pub AreApart : List Key → Type 0
AreApart keys =
    (k : ℕ) (d : Key) → k + 1 < length keys
    → is_eq (key_cmp (slice_index_or keys k d) (slice_index_or keys (k + 1) d)) ≡ false
