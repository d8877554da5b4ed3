-- `audit`: the part of the input that is read before the pile.
use Rattle.std.specs.Prelude.{◌≡◌, ◌≢◌, ◌⊎◌, ℕ, ◌<◌, List, [], ◌++◌, All, length, take, Option, Some, None}
use Rattle.doc_source.specs.Outside.{SourceState}
use Rattle.coverage_certificate.specs.Text.{text_of_lines}
use Rattle.atom_values.specs.Ascii.{lf}
use Rattle.mirror_commands.specs.Audit.{EndsOnce, HasNoEnd, IsOtherLine, audit_limit}

-- the text is whole lines, none of which is `end`, and the beginning of one more, which begins at this offset
pub record IsAmid (text : List ℕ) (start : ℕ) : Type 0 where
  pub before : List (List ℕ)
  pub others : All IsOtherLine before
  pub line : List ℕ
  pub no_lf : All (λ b. b ≢ lf) line
  pub is : text ≡ text_of_lines before ++ line
  pub at : start ≡ length (text_of_lines before)

-- the text ends with the input's first line `end`, or is all of an input without a line `end`
abbrev pub IsPartOf : List ℕ → List ℕ → Type 0
IsPartOf text left = EndsOnce text ⊎ (HasNoEnd text × (left ≡ []))

-- this part of the input was read, and no byte after it
pub record ReadsPart (before after : SourceState) (text : List ℕ) : Type 0 where
  pub part : IsPartOf text after.left
  pub from : before.left ≡ text ++ after.left

-- the input goes on past the limit, and no line within it is `end`
pub record IsLongPart (input : List ℕ) : Type 0 where
  pub more : audit_limit < length input
  pub no_end : HasNoEnd (take audit_limit input)

-- how many bytes a read of one byte gave
abbrev pub byte_count : Option ℕ → ℕ
byte_count None = 0
byte_count (Some byte) = 1
