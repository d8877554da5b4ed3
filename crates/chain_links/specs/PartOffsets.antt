-- The offsets of a base address' parts in its text.
use Rattle.std.specs.Prelude.{◌≡◌, ℕ, ◌+◌, ◌≤◌, List, length, unwrap_or}
use Rattle.chain_links.specs.Base.{BaseParts, IsBase, Spells, default_port, host_text, path_text, scheme}

-- the host goes from the scheme's end to host_end, the path from path_start to the end, and number is the port
pub record ArePartOffsets (parts : BaseParts) (text : List ℕ) (host_end number path_start : ℕ) : Type 0 where
  pub host : host_end ≡ length scheme + length (host_text parts.labels)
  pub port : number ≡ unwrap_or parts.port default_port
  pub path : path_start + length (path_text parts.segments) ≡ length text

-- the text is a base address, and its parts are at these offsets
pub record HasParts (text : List ℕ) (host_end number path_start : ℕ) : Type 0 where
  pub base : IsBase text
  pub host_in : length scheme ≤ host_end
  pub path_behind : host_end ≤ path_start
  pub path_in : path_start ≤ length text
  pub parts : (parts : BaseParts) → Spells parts text → ArePartOffsets parts text host_end number path_start
