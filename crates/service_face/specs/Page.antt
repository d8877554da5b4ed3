-- The addresses of the service document and of the listing.
use Rattle.std.specs.Prelude.{◌≡◌, ◌⊎◌, ℕ, List, [], ◌∷◌, ◌++◌, length, drop, Bool, ◌||◌, ◌==◌, if◌then◌else◌, Option, Some, None}
use Rattle.std.specs.Prelude.{bytes_eq, codes}
use Rattle.atom_values.specs.Ascii.{slash}
use Rattle.chain_links.specs.Base.{BaseParts, Spells, path_text, scheme}
use Rattle.service_face.specs.declared.page.Page.{Page}
use Rattle.service_face.specs.declared.page.Page.TheVariants.{Service, Members}

-- the part of a page's address after the base
abbrev pub page_name : Page → List ℕ
page_name Service = codes "service"
page_name Members = codes "members"

-- the text from its first slash on
abbrev pub from_slash : List ℕ → List ℕ
from_slash [] = []
from_slash (c ∷ rest) = if c == slash then c ∷ rest else from_slash rest

-- the path of a base address, which begins with the first slash after the scheme
abbrev pub path_of : List ℕ → List ℕ
path_of base = from_slash (drop (length scheme) base)

-- a request names a page by its whole address, or by the address from the path on (RFC 9112 section 3.2)
abbrev pub is_target : List ℕ → Page → List ℕ → Bool
is_target base page target =
    bytes_eq target (base ++ page_name page) || bytes_eq target (path_of base ++ page_name page)

-- the page that a target names
unfoldable pub page_of : List ℕ → List ℕ → Option Page
page_of base target =
    if is_target base Service target then Some Service
    else (if is_target base Members target then Some Members else None)

-- the same as a relation, in the words of the addresses of documents
abbrev pub IsPageTarget : List ℕ → Page → List ℕ → Type 0
IsPageTarget base page target =
    (target ≡ base ++ page_name page)
    ⊎ ((parts : BaseParts) × Spells parts base × (target ≡ path_text parts.segments ++ page_name page))
