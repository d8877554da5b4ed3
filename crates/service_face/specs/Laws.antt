-- Laws that the crates above cite. Each is the contract of a function of laws.rt.
use Rattle.std.specs.Prelude.{◌≡◌, ◌↔◌, ℕ, List, ℤ, Some}
use Rattle.chain_links.specs.Address.{IsAddress, IsTarget}
use Rattle.chain_links.specs.declared.address.Address.{Address}
use Rattle.chain_links.specs.Base.{IsBase}
use Rattle.member_rules.specs.History.{AreFollowing}
use Rattle.member_rules.specs.declared.operation.Op.{Op}
use Rattle.service_face.specs.Listing.{IsNewestFirst, listed_members}
use Rattle.service_face.specs.Page.{IsPageTarget, page_of}
use Rattle.service_face.specs.declared.page.Page.{Page}

abbrev pub ListingsAreNewestFirst : Type 0
ListingsAreNewestFirst =
    (created : ℤ) (history : List Op) → AreFollowing created history → IsNewestFirst history (listed_members history)

-- no target names both a page and a document
abbrev pub PagesAreNoDocuments : Type 0
PagesAreNoDocuments = (base target : List ℕ) (page : Page) (address : Address) → IsAddress address
    → IsPageTarget base page target → ¬ IsTarget base address target

-- the two definitions of the targets of a page agree
abbrev pub TargetsAreAddresses : Type 0
TargetsAreAddresses = (base target : List ℕ) (page : Page) → IsBase base
    → (page_of base target ≡ Some page) ↔ (IsPageTarget base page target)
