-- A fetch of documents, as contracts see it.
use Rattle.std.specs.Prelude.{ℕ, List, Option, bytes_eq, find, option_map}
use Rattle.doc_source.specs.declared.offer.Offer.{Offer}

-- the addresses that were asked, in order, what each address answers, and how many calls failed
pub record FetchState : Type 0 where
  pub asked : List (List ℕ)
  pub answers : List ℕ → Option (List ℕ)
  pub faults : ℕ

-- the bytes of the first offer of the address
abbrev pub answer_of : List Offer → List ℕ → Option (List ℕ)
answer_of offers address =
    option_map (λ offer. offer.bytes) (find (λ offer. bytes_eq offer.address address) offers)
