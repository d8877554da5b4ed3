-- The bytes that are read as a draft.
use Rattle.std.specs.Prelude.{◌≡◌, ℕ, List, [], None, codes}
use Rattle.atom_values.specs.Entry.{DraftValue}
use Rattle.xml_tokens.specs.Tree.{Element, Content, IsDocument}
use Rattle.entry_reader.specs.Entry.{IsReadAs}
use Rattle.xml_tokens.specs.Names.{atom}
use Rattle.entry_reader.specs.Faults.{IsRefusalIn}
use Rattle.entry_reader.specs.Faults.Within.{in_entry}

-- the greatest length of an entry document
abbrev pub entry_limit : ℕ
entry_limit = 65_536

-- the greatest depth of an element in an entry document; the root has depth 1
abbrev pub depth_limit : ℕ
depth_limit = 32

-- the bytes are an entry document without a fault, which is read as the draft
pub record Spells (bytes : List ℕ) (draft : DraftValue) : Type 0 where
  pub root : Element
  pub content : Content
  pub document : IsDocument depth_limit bytes root content
  pub is_entry : root.name ≡ atom (codes "entry")
  pub faultless : IsRefusalIn in_entry [] content None
  pub read : IsReadAs content draft
