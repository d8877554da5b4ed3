-- The ask of a line of `apply`.
use Rattle.std.specs.Prelude.{◌≡◌, ◌≢◌, ℕ, ◌+◌, ◌<◌, ◌≤◌, List, [], ◌∷◌, ◌++◌, All, ◌==◌, ◌&&◌, if◌then◌else◌, nat_eq}
use Rattle.std.specs.Prelude.{nat_le}
use Rattle.std.specs.Prelude.{length, take, drop, codes, decimal, Option, Some, None, option_map, option_and_then}
use Rattle.std.specs.List.{starts_with}
use Rattle.std.specs.Str.{bytes_eq}
use Rattle.std.specs.Str.Parse.{digits_value}
use Rattle.atom_values.specs.Ascii.{space}
use Rattle.atom_values.specs.XmlText.{is_xml_text}
use Rattle.tool_words.specs.declared.line.LineAsk.{LineAsk}
use Rattle.tool_words.specs.declared.line.LineAsk.TheVariants.{Add, Change, Remove, Title, Window}

-- how many bytes a title may have
abbrev pub line_title_limit : ℕ
line_title_limit = 1_024

-- how many operations a window may have
abbrev pub line_window_limit : ℕ
line_window_limit = 100

-- a title has at most 1,024 bytes of XML characters
unfoldable pub title_of : List ℕ → Option (List ℕ)
title_of title = if nat_le (length title) line_title_limit && is_xml_text title then Some title else None

-- a decimal number from 1 to the limit, without leading zeros
unfoldable pub number_up_to : ℕ → List ℕ → Option ℕ
number_up_to limit digits =
    let number = digits_value 10 digits in
    if bytes_eq digits (decimal number) && nat_le 1 number && nat_le number limit then Some number else None

-- a member's number
abbrev pub member_number : List ℕ → Option ℕ
member_number digits = number_up_to 4_294_967_295 digits

-- a number of operations of a window
abbrev pub window_number : List ℕ → Option ℕ
window_number digits = number_up_to line_window_limit digits

-- the text before the first space, and the text after it
abbrev pub parted : List ℕ → Option (List ℕ × List ℕ)
parted [] = None
parted (b ∷ words) = if b == space then Some ([], words) else option_map (λ parts. (b ∷ parts.0, parts.1))
    (parted words)

-- the change that a member's number and a title ask for
abbrev pub change_by : List ℕ × List ℕ → Option LineAsk
change_by parts =
    option_and_then (λ number. option_map (Change number) (title_of parts.1)) (member_number parts.0)

-- a number and a title, with one space between
unfoldable pub change_of : List ℕ → Option LineAsk
change_of words = option_and_then change_by (parted words)

-- the ask of a line: `add TITLE`, `change N TITLE`, `remove N`, `title TITLE` or `window W`. Any other line is bad
unfoldable pub line_ask : List ℕ → Option LineAsk
line_ask line =
    if starts_with nat_eq line (codes "add ") then option_map Add (title_of (drop 4 line))
    else (if starts_with nat_eq line (codes "change ") then change_of (drop 7 line)
    else (if starts_with nat_eq line (codes "remove ") then option_map Remove (member_number (drop 7 line))
    else (if starts_with nat_eq line (codes "title ") then option_map Title (title_of (drop 6 line))
    else (if starts_with nat_eq line (codes "window ") then option_map Window (window_number (drop 7 line)) else
    None))))

-- no byte is this one
abbrev pub HasNo : ℕ → List ℕ → Type 0
HasNo byte bytes = All (λ b. b ≢ byte) bytes

-- the first occurrence of the byte is at this offset
pub record IsFirst (byte : ℕ) (bytes : List ℕ) (at : ℕ) : Type 0 where
  pub within : at < length bytes
  pub none_before : HasNo byte (take at bytes)
  pub split : bytes ≡ take at bytes ++ byte ∷ drop (at + 1) bytes

-- the limits that the ask of a line keeps, where a setting has them
abbrev pub IsLineAsk : LineAsk → Type 0
IsLineAsk (Add title) = Unit {0}
IsLineAsk (Change number title) = Unit {0}
IsLineAsk (Remove number) = Unit {0}
IsLineAsk (Title title) = length title ≤ line_title_limit
IsLineAsk (Window size) = (1 ≤ size) × (size ≤ line_window_limit)
