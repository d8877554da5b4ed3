-- Why bytes are no entry document that is read, and where: the first of five steps that finds a fault.
use Rattle.std.specs.Prelude.{◌≡◌, ◌≢◌, ◌⊎◌, ℕ, List, [], Some, None, codes}
use Rattle.xml_tokens.specs.declared.fault.TokenFault.{TokenFault}
use Rattle.xml_tokens.specs.declared.fault.TokenFault.TheVariants as token_fault
use Rattle.xml_tokens.specs.declared.fault.TokenWhy.{TokenWhy}
use Rattle.xml_tokens.specs.declared.fault.TokenWhy.TheVariants as token
use Rattle.xml_tokens.specs.Children.{child}
use Rattle.xml_tokens.specs.Names.{atom}
use Rattle.xml_tokens.specs.Refusal.{IsTokenRefusedAt}
use Rattle.xml_tokens.specs.Tree.{Element, Content, IsDocument}
use Rattle.entry_reader.specs.declared.fault.EntryFault.{EntryFault}
use Rattle.entry_reader.specs.declared.fault.EntryFault.TheVariants.{NotRead, NoMemory}
use Rattle.entry_reader.specs.declared.fault.Why.{Why}
use Rattle.entry_reader.specs.declared.fault.Why.TheVariants.{NotUtf8, Doctype, NotWellFormed, TooDeep, NotAnEntry}
use Rattle.entry_reader.specs.declared.fault.Why.TheVariants.{Missing}
use Rattle.entry_reader.specs.Spells.{depth_limit}
use Rattle.entry_reader.specs.Faults.{IsRefusalIn}
use Rattle.entry_reader.specs.Faults.Within.{in_entry}

-- the reason of a token, as that of an entry document
abbrev pub why_of : TokenWhy → Why
why_of token.NotUtf8 = NotUtf8
why_of token.Doctype = Doctype
why_of token.NotWellFormed = NotWellFormed
why_of token.TooDeep = TooDeep

-- the fault of a token, as that of an entry document
abbrev pub entry_fault : TokenFault → EntryFault
entry_fault (token_fault.NotRead at why) = NotRead at (why_of why)
entry_fault token_fault.NoMemory = NoMemory

-- step 3: the root isn't an entry
abbrev pub IsOtherRoot : Element → ℕ → Why → Type 0
IsOtherRoot root at why = (root.name ≢ atom (codes "entry")) × (at ≡ root.place) × (why ≡ NotAnEntry)

-- step 5: no element is refused, and there is no title
abbrev pub HasNoTitle : Element → Content → ℕ → Why → Type 0
HasNoTitle root content at why =
    IsRefusalIn in_entry [] content None × (child (codes "title") content ≡ None) × (at ≡ root.place) × (why ≡ Missing)

-- steps 3 to 5, of which step 4 is the first element that is refused
abbrev pub IsNoEntryAt : Element → Content → ℕ → Why → Type 0
IsNoEntryAt root content at why =
    IsOtherRoot root at why
    ⊎ ((root.name ≡ atom (codes "entry"))
    × (IsRefusalIn in_entry [] content (Some (at, why)) ⊎ HasNoTitle root content at why))

-- the bytes are refused with this offset and reason; steps 1 and 2 are those of tokens
abbrev pub IsRefusedAt : List ℕ → ℕ → Why → Type 0
IsRefusedAt bytes at why =
    ((cause : TokenWhy) × IsTokenRefusedAt depth_limit bytes at cause × (why ≡ why_of cause))
    ⊎ ((root : Element) × (content : Content) × IsDocument depth_limit bytes root content
    × IsNoEntryAt root content at why)
