-- The law that the crates above cite. It is the contract of the function of laws.rt.
use Rattle.std.specs.Prelude.{◌≡◌, ℕ, List}
use Rattle.feed_journal.specs.Records.{records, Begins, IsWhole}

-- an image that begins with an area's payloads and a closed gate is whole and has those payloads
abbrev pub BegunAreWhole : Type 0
BegunAreWhole = (content image : List ℕ) → Begins (records content) image
    → IsWhole image × (records image ≡ records content)
