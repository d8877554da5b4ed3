-- `audit`: the offers of a pile, and why a pile isn't audited.
use Rattle.std.specs.Prelude.{◌≡◌, ℕ, ◌≤◌, List, [], ◌∷◌, ◌++◌, Option, Result, Err, length}
use Rattle.doc_source.specs.Outside.{SourceState}
use Rattle.doc_source.specs.declared.fault.PileFault.{PileFault}
use Rattle.doc_source.specs.declared.fault.PileFault.TheVariants as piles
use Rattle.doc_source.specs.declared.offer.Offer.{Offer}
use Rattle.command_ends.specs.declared.fault.Fault.{Fault}
use Rattle.command_ends.specs.declared.fault.Fault.TheVariants.{Refused}
use Rattle.command_ends.specs.declared.fault.Refusal.TheVariants.{BadPile, TooLong, TooManyOffers}
use Rattle.mirror_commands.specs.Audit.{audited_limit}
use Rattle.mirror_commands.specs.Mirror.{ReadsOffersWithin, ReadsToWithin, StopsAmidOffers}

-- no more offers than may be audited are read within the limit, and then the reader gives this answer
pub record EndsPile (limit : ℕ) (pile : List ℕ) (last : Result (Option Offer) PileFault) : Type 0 where
  pub offers : List Offer
  pub read : ReadsToWithin limit pile offers last
  pub few : length offers ≤ audited_limit

-- one offer more than may be audited is read within the limit
pub record HasOneMore (limit : ℕ) (pile : List ℕ) : Type 0 where
  pub offers : List Offer
  pub offer : Offer
  pub read : ReadsOffersWithin limit pile (offers ++ offer ∷ [])
  pub full : length offers ≡ audited_limit

-- why the pile isn't audited
abbrev pub RefusesPile : ℕ → List ℕ → Fault → Type 0
RefusesPile limit pile (Refused (BadPile at)) = EndsPile limit pile (Err (piles.BadPile at))
RefusesPile limit pile (Refused TooLong) = EndsPile limit pile (Err (piles.TooLong limit))
RefusesPile limit pile (Refused TooManyOffers) = HasOneMore limit pile
RefusesPile limit pile _ = ⊥

-- a call failed amid the pile, and no more offers than may be audited were read before it
pub record StopsAmidPile (limit : ℕ) (before after : SourceState) : Type 0 where
  pub offers : List Offer
  pub stops : StopsAmidOffers limit before.left after.left offers
  pub few : length offers ≤ audited_limit
