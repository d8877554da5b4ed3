-- How many bytes of the input were read, by the reader of a pile.
use Rattle.std.proofs.Common.{◌≡◌, ℕ, ◌+◌, ◌-◌, ◌≤◌, List, [], None, Result, Ok, Err, length, ap, refl, ◌∙◌, arith}
use Rattle.doc_source.specs.Outside.{SourceState}
use Rattle.doc_source.specs.Pile.{PileState, TakesRead, taken_by, taken_past}
use Rattle.doc_source.specs.declared.fault.PileFault.{PileFault}
use Rattle.doc_source.specs.declared.fault.PileFault.TheVariants.{BadPile, TooLong, SourceFault, NoMemory}
use Rattle.feed_disk.specs.Raised.{RisesAtMost}

-- the reader took all bytes of the pile that were read, and they lie within the limit
pub record IsCounted (limit : ℕ) (first now : SourceState) (reader : PileState) : Type 0 where
  pub limit_is : reader.limit ≡ limit
  pub within : taken_by reader ≤ limit
  pub read : RisesAtMost (taken_by reader) first.bytes_read now.bytes_read

pub counted-start : (limit : ℕ) (first : SourceState) (reader : PileState)
    → reader ≡ record { ahead = []; used = 0; limit = limit; refusal = None } → IsCounted limit first first reader
counted-start limit first reader start =
    let taken = ap taken_by start in
    record {
      limit_is = ap (λ (r : PileState). r.limit) start;
      within = omega (arith, taken);
      read = omega (arith, taken);
    }

past-most : {A : Type 0} (result : Result A PileFault) → taken_past result ≤ 1
past-most (Ok found) = omega arith
past-most (Err (BadPile at)) = omega arith
past-most (Err (TooLong limit)) = omega arith
past-most (Err SourceFault) = omega arith
past-most (Err NoMemory) = omega arith

module _ (limit : ℕ) (first now : SourceState) (reader : PileState) (h : IsCounted limit first now reader) where
  -- what was read is within the limit
  pub counted-within : RisesAtMost (limit + 1) first.bytes_read now.bytes_read
  counted-within = omega (arith, h.within, h.read)

  -- the next offer, or the end of the pile, was read
  pub counted-next : (rest : SourceState) (after : PileState) → after.limit ≡ reader.limit
      → taken_by after ≤ after.limit → TakesRead reader after now.bytes_read rest.bytes_read
      → IsCounted limit first rest after
  counted-next rest after same bound took =
      let limit_is = same ∙ h.limit_is in
      record {
        limit_is = limit_is;
        within = omega (arith, bound, limit_is);
        read = omega (arith, h.read, took.later, took.read);
      }

  -- no offer follows
  pub counted-ends : {A : Type 0} (rest : SourceState) (result : Result A PileFault)
      → RisesAtMost (reader.limit - taken_by reader + taken_past result) now.bytes_read rest.bytes_read
      → RisesAtMost (limit + 1) first.bytes_read rest.bytes_read
  counted-ends rest result rises = omega (arith, h.limit_is, h.within, h.read, rises, past-most result)
