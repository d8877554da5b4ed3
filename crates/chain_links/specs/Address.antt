-- The addresses of a feed's documents below a base address.
use Rattle.std.specs.Prelude.{◌≡◌, ◌⊎◌, ℕ, ◌+◌, ◌≤◌, ◌<◌, ◌^◌, List, ◌++◌, codes, decimal}
use Rattle.chain_links.specs.declared.address.Address.{Address}
use Rattle.chain_links.specs.declared.address.Address.TheVariants.{Feed, Archive, Member}
use Rattle.chain_links.specs.Base.{BaseParts, Spells, base_limit, path_text}

-- numbers are from 1
abbrev pub IsAddress : Address → Type 0
IsAddress Feed = Unit {0}
IsAddress (Archive number) = (1 ≤ number) × (number < 2 ^ 32)
IsAddress (Member number) = (1 ≤ number) × (number < 2 ^ 32)

-- the part of a document's address after the base
abbrev pub suffix_text : Address → List ℕ
suffix_text Feed = codes "feed"
suffix_text (Archive number) = codes "archive/" ++ decimal number
suffix_text (Member number) = codes "member/" ++ decimal number

-- the printed address: the base and the suffix
unfoldable pub printed : List ℕ → Address → List ℕ
printed base address = base ++ suffix_text address

-- a request names a document by its whole address, or by the address from the path on (RFC 9112 section 3.2)
abbrev pub IsTarget : List ℕ → Address → List ℕ → Type 0
IsTarget base address target =
    (target ≡ printed base address)
    ⊎ ((parts : BaseParts) × Spells parts base × (target ≡ path_text parts.segments ++ suffix_text address))

-- the greatest length of a suffix, which `archive/4294967295` has
abbrev pub suffix_limit : ℕ
suffix_limit = 18

-- no printed address is longer
abbrev pub printed_limit : ℕ
printed_limit = base_limit + suffix_limit
