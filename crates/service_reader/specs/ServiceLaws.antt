-- Laws of service documents that the crates above cite. Each is a clause of a function of laws.rt.
use Rattle.std.specs.Prelude.{◌≡◌, ℕ, List}
use Rattle.service_reader.specs.declared.fault.ServiceWhy.{ServiceWhy}
use Rattle.service_reader.specs.declared.values.Collection.{Collection}
use Rattle.service_reader.specs.ServiceDocument.{IsServiceRefusedAt, SpellsService}

-- bytes, in the document of an address, spell one list of collections at most
abbrev pub BytesSpellOneService : Type 0
BytesSpellOneService =
    (bytes address : List ℕ) (one other : List Collection) → SpellsService bytes address one
    → SpellsService bytes address other → one ≡ other

-- they are refused for one reason at one offset at most
abbrev pub BytesHaveOneServiceRefusal : Type 0
BytesHaveOneServiceRefusal =
    (bytes address : List ℕ) (at place : ℕ) (why cause : ServiceWhy) → IsServiceRefusedAt bytes address at why
    → IsServiceRefusedAt bytes address place cause → (at ≡ place) × (why ≡ cause)

-- those that spell a list of collections aren't refused
abbrev pub ServicesAreNotRefused : Type 0
ServicesAreNotRefused =
    (bytes address : List ℕ) (collections : List Collection) (at : ℕ) (why : ServiceWhy)
    → SpellsService bytes address collections → ¬ IsServiceRefusedAt bytes address at why
