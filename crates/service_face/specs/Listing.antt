-- The listing of the live members.
use Rattle.std.specs.Prelude.{◌↔◌, ℕ, ◌<◌, List, [], ◌++◌, Bool, is_some, IsSome, filter, flat_map, codes, decimal}
use Rattle.std.specs.Prelude.{AllPairs, Contains, if◌then◌else◌}
use Rattle.chain_links.specs.Address.{printed}
use Rattle.chain_links.specs.declared.address.Address.TheVariants.{Member}
use Rattle.member_rules.specs.Fold.{fold_of, last_naming}
use Rattle.member_rules.specs.Recent.{recent_members}
use Rattle.member_rules.specs.declared.operation.Op.{Op}

abbrev pub is_live : List Op → ℕ → Bool
is_live history number = is_some ((fold_of history).live number)

-- the live members, the one that was named last first
unfoldable pub listed_members : List Op → List ℕ
listed_members history = filter (is_live history) (recent_members history)

-- the line of a member that this operation, counted from 1, named last
abbrev pub line_of : List ℕ → ℕ → ℕ → List ℕ
line_of base version number = decimal version ++ codes " " ++ printed base (Member number) ++ codes "\n"

abbrev pub member_line : List ℕ → List Op → ℕ → List ℕ
member_line base history number = line_of base (last_naming number history) number

-- a line for each live member
unfoldable pub listing_text : List ℕ → List Op → List ℕ
listing_text base history = flat_map (member_line base history) (listed_members history)

-- the line of a member, or nothing if it isn't live
abbrev pub lines_at : List ℕ → List Op → ℕ → List ℕ
lines_at base history number = if is_live history number then member_line base history number else []

-- the list has exactly the live members, and each was named later than those after it; so it has none twice
pub record IsNewestFirst (history : List Op) (members : List ℕ) : Type 0 where
  pub live : (number : ℕ) → (Contains members number) ↔ (IsSome ((fold_of history).live number))
  pub falling : AllPairs (λ newer older. last_naming older history < last_naming newer history) members
