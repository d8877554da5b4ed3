-- A pile of which a part was read when a call of its source failed.
use Rattle.std.proofs.Common.{◌≡◌, ℕ, ◌+◌, ◌≤◌, List, ◌++◌, length, refl, sym, ap, ◌∙◌, arith, append_assoc}
use Rattle.std.proofs.Common.{length-append}
use Rattle.doc_source.specs.Laws.{HasRead, read_text}
use Rattle.doc_source.specs.Pile.{IsOpen}
use Rattle.doc_source.specs.declared.offer.Offer.{Offer}
use Rattle.mirror_commands.specs.Mirror.{StopsAmidOffers}

-- a call of the input failed amid an offer
pub stops-amid : (limit : ℕ) (pile rest : List ℕ) (offers : List Offer) (used : ℕ) (bytes ahead : List ℕ)
    → HasRead pile offers used bytes → bytes ≡ ahead ++ rest → used + length ahead ≤ limit → IsOpen used ahead
    → StopsAmidOffers limit pile rest offers
stops-amid limit pile rest offers used bytes ahead has same bound going =
    let front = read_text offers in
    record {
      read = front ++ ahead;
      from = has.whole ∙ ap (λ (b : List ℕ). front ++ b) same ∙ sym (append_assoc front ahead rest);
      within = omega (arith, length-append front ahead, has.counted, bound);
      used = used;
      ahead = ahead;
      whole = record { are = has.are; whole = refl; counted = has.counted };
      is_open = going;
    }
