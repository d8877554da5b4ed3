-- Base addresses: `http://`, a host, optionally `:` and a port, `/`, and segments that each end with `/`.
-- A part of the syntax of RFC 3986 section 3, in which no byte needs an escape.
use Rattle.std.specs.Prelude.{◌≡◌, ◌≢◌, ℕ, ◌≤◌, List, [], ◌∷◌, ◌++◌, length, Bool, ◌||◌, ◌==◌, Option, Some, None}
use Rattle.std.specs.Prelude.{IfSome, IsTrue, All, flat_map, codes, decimal}
use Rattle.std.specs.Char.{is_ascii_digit, is_ascii_lowercase, is_ascii_uppercase}
use Rattle.std.specs.List.{join_with_byte}
use Rattle.atom_values.specs.Ascii.{minus, point, slash, colon, underscore, tilde}

-- the greatest number of bytes of a base address
abbrev pub base_limit : ℕ
base_limit = 200

abbrev pub port_limit : ℕ
port_limit = 65_535

-- the port of a base address without one (RFC 9110 section 4.2.1)
abbrev pub default_port : ℕ
default_port = 80

abbrev pub scheme : List ℕ
scheme = codes "http://"

-- a to z, 0 to 9 and -
abbrev pub is_label_char : ℕ → Bool
is_label_char c = is_ascii_lowercase c || is_ascii_digit c || (c == minus)

-- letters, digits, - . _ and ~ (`unreserved` of RFC 3986 section 2.3)
abbrev pub is_segment_char : ℕ → Bool
is_segment_char c =
    is_ascii_lowercase c || is_ascii_uppercase c || is_ascii_digit c || (c == minus) || (c == point)
    || (c == underscore) || (c == tilde)

-- one or more characters, each of which passes the test
abbrev pub IsWord : (ℕ → Bool) → List ℕ → Type 0
IsWord test word = (word ≢ []) × All (λ c. IsTrue (test c)) word

-- the labels of a host: one or more
abbrev pub AreLabels : List (List ℕ) → Type 0
AreLabels labels = (labels ≢ []) × All (IsWord is_label_char) labels

-- a port that may be absent
abbrev pub IsPort : Option ℕ → Type 0
IsPort port = IfSome port (λ n. (1 ≤ n) × (n ≤ port_limit))

abbrev pub AreSegments : List (List ℕ) → Type 0
AreSegments segments = All (IsWord is_segment_char) segments

-- the parts of a base address
pub record BaseParts : Type 0 where
  pub labels : List (List ℕ)
  pub port : Option ℕ
  pub segments : List (List ℕ)

pub record AreParts (p : BaseParts) : Type 0 where
  pub labels : AreLabels p.labels
  pub port : IsPort p.port
  pub segments : AreSegments p.segments

abbrev pub host_text : List (List ℕ) → List ℕ
host_text labels = join_with_byte point labels

abbrev pub port_text : Option ℕ → List ℕ
port_text None = []
port_text (Some n) = colon ∷ decimal n

-- the path: `/`, and each segment followed by `/`
abbrev pub path_text : List (List ℕ) → List ℕ
path_text segments = slash ∷ flat_map (λ segment. segment ++ slash ∷ []) segments

unfoldable pub base_text : BaseParts → List ℕ
base_text p = scheme ++ (host_text p.labels ++ (port_text p.port ++ path_text p.segments))

-- the text is the base address of these parts
abbrev pub Spells : BaseParts → List ℕ → Type 0
Spells parts text = AreParts parts × (base_text parts ≡ text)

pub record IsBase (text : List ℕ) : Type 0 where
  pub short : length text ≤ base_limit
  pub parts : BaseParts
  pub rules : AreParts parts
  pub spelt : base_text parts ≡ text
