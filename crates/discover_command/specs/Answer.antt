-- The answer of `discover` to what a source has at an address.
use Rattle.std.specs.Prelude.{◌≡◌, ◌⊎◌, ℕ, List, Option, None, Some}
use Rattle.command_ends.specs.Answer.{Answer}
use Rattle.service_reader.specs.declared.fault.ServiceWhy.{ServiceWhy}
use Rattle.service_reader.specs.declared.values.Collection.{Collection}
use Rattle.service_reader.specs.ServiceDocument.{IsServiceRefusedAt, SpellsService}
use Rattle.discover_command.specs.Lines.{collections_answer, missing_answer, refused_answer}

-- the answer is that of the collections which the document at this address spells
pub record IsOfCollections (bytes address : List ℕ) (given : Answer) : Type 0 where
  pub collections : List Collection
  pub spelled : SpellsService bytes address collections
  pub is : given ≡ collections_answer collections

-- the answer is that of the offset at which the document at this address is refused
pub record IsOfRefusal (bytes address : List ℕ) (given : Answer) : Type 0 where
  pub at : ℕ
  pub why : ServiceWhy
  pub refused : IsServiceRefusedAt bytes address at why
  pub is : given ≡ refused_answer at

abbrev pub IsAnswerTo : List ℕ → Option (List ℕ) → Answer → Type 0
IsAnswerTo address None given = given ≡ missing_answer address
IsAnswerTo address (Some bytes) given = IsOfCollections bytes address given ⊎ IsOfRefusal bytes address given

-- the answer is that of the document which the source has at the address
abbrev pub IsDiscoverAnswer : (List ℕ → Option (List ℕ)) → List ℕ → Answer → Type 0
IsDiscoverAnswer answers address given = IsAnswerTo address (answers address) given

-- there is one answer at most
abbrev pub DiscoverHasOneAnswer : Type 0
DiscoverHasOneAnswer =
    (answers : List ℕ → Option (List ℕ)) (address : List ℕ) (one other : Answer) → IsDiscoverAnswer answers address one
    → IsDiscoverAnswer answers address other → one ≡ other
