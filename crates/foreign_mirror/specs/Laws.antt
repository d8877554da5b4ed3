-- Laws of walks that the crates above cite. Each is a clause of a function of laws.rt.
use Rattle.std.specs.Prelude.{◌≡◌, ℕ, List, Option, bytes_eq}
use Rattle.std.specs.List.{IsDistinct}
use Rattle.feed_reader.specs.Feed.{DocumentValue}
use Rattle.foreign_mirror.specs.declared.walk.ChainEnd.{ChainEnd}
use Rattle.foreign_mirror.specs.Walk.{Ending, WalksFrom}
use Rattle.foreign_mirror.specs.Walk.Ending.{over}

-- what the source answers determines the addresses asked, the documents and the end
pub record IsSameWalk (addresses other_addresses : List (List ℕ)) (values other_values : List DocumentValue)
    (ending other_ending : ChainEnd) : Type 0 where
  pub asked : addresses ≡ other_addresses
  pub documents : values ≡ other_values
  pub end : ending ≡ other_ending

abbrev pub WalksEndInOneWay : Type 0
WalksEndInOneWay =
    (answers : List ℕ → Option (List ℕ)) (from : List ℕ) (asked other_asked : List (List ℕ))
    (documents other_documents : List DocumentValue) (end other_end : ChainEnd)
    → WalksFrom answers from asked documents (over end) → WalksFrom answers from other_asked other_documents (over other_end)
    → IsSameWalk asked other_asked documents other_documents end other_end

-- a walk asks for no address twice
abbrev pub WalksAskOnce : Type 0
WalksAskOnce =
    (answers : List ℕ → Option (List ℕ)) (from : List ℕ) (asked : List (List ℕ)) (documents : List DocumentValue)
    (ending : Ending) → WalksFrom answers from asked documents ending → IsDistinct bytes_eq asked
