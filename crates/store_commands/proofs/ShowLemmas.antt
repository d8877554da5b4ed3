-- The bytes of an input, a buffer at a time.
use Rattle.std.proofs.Common.{◌≡◌, ℕ, ◌-◌, ◌<◌, ◌≤◌, List, ◌++◌, length, take, drop, ap, sym, ◌∙◌, append_assoc, arith}
use Rattle.std.proofs.Common.{length-append, length-take}
use Rattle.std.proofs.lemmas.List.{take_at}
use Rattle.atom_grammar.specs.Progress.{HasRead, ReaderValue}

-- one more buffer goes past a limit
pub bytes_past : (limit count : ℕ) (bytes into left0 left1 left2 : List ℕ) → left0 ≡ bytes ++ left1 →
    left1 ≡ take count into ++ left2 → count ≤ length into → limit - length bytes < count → length bytes ≤ limit →
    limit < length left0
bytes_past limit count bytes into left0 left1 left2 before read low past within =
    omega (arith, simp (length-append, length-take) at (ap length (before ∙ ap (λ (x : List ℕ). bytes ++ x) read)))

-- the bytes with one more buffer
pub bytes_more : (count : ℕ) (bytes into left0 left1 left2 : List ℕ) → left0 ≡ bytes ++ left1 →
    left1 ≡ take count into ++ left2 → left0 ≡ (bytes ++ take count into) ++ left2
bytes_more count bytes into left0 left1 left2 before read =
    before ∙ ap (λ (x : List ℕ). bytes ++ x) read ∙ sym (append_assoc bytes (take count into) left2)

-- a buffer that was written whole
pub written_whole : (len : ℕ) (into piece : List ℕ) → length into ≡ len →
    take len (into ++ drop (length into) piece) ≡ into
written_whole len into piece whole = take_at into (drop (length into) piece) len whole

-- these bytes of an input were read and given to a reader
pub record HasGiven (observable : Type 0) (reader : ReaderValue) (before after : List ℕ) : Type 0 where
  pub bytes : List ℕ
  pub read : HasRead reader bytes
  pub left : observable → before ≡ bytes ++ after
