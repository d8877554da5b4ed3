-- `audit`: the offers of a pile, one after another.
use Rattle.std.proofs.Common.{◌≡◌, ℕ, ◌+◌, ◌<◌, ◌≤◌, List, [], ◌∷◌, ◌++◌, Option, None, Some, Result, Ok, Err, length}
use Rattle.std.proofs.Common.{refl, sym}
use Rattle.std.proofs.Common.{ap, subst, ◌∙◌, arith, length-append}
use Rattle.std.specs.Prelude.{All}
use Rattle.std.proofs.lemmas.List.Elements.{All-append, All-cons, All-nil}
use Rattle.doc_source.specs.Laws.{HasRead}
use Rattle.doc_source.specs.Outside.{SourceState}
use Rattle.doc_source.specs.Pile.{IsAnswer as IsPileAnswer, IsOffer, IsOpen, PileState, unused, used_text}
use Rattle.doc_source.specs.declared.fault.PileFault.{PileFault}
use Rattle.doc_source.specs.declared.fault.PileFault.TheVariants as piles
use Rattle.doc_source.specs.declared.offer.Offer.{Offer}
use Rattle.doc_source.proofs.RunLemmas.{in_order}
use Rattle.command_ends.specs.declared.fault.Fault.TheVariants.{Input}
use Rattle.mirror_commands.specs.Audit.{audited_limit}
use Rattle.mirror_commands.specs.AuditedPile.{HasOneMore, RefusesPile, StopsAmidPile}
use Rattle.command_ends.specs.Fault.{IsRefusal}
use Rattle.mirror_commands.specs.Mirror.{ReadsToWithin}
use Rattle.command_ends.specs.Fault.{pile_fault}
use Rattle.mirror_commands.proofs.AmidLemmas.{stops-amid}

-- a reader between two offers of a pile; `observable` is whether contracts can see the pile
pub record IsReading (observable : Type 0) (limit : ℕ) (first now : SourceState) (reader : PileState) (offers : List Offer)
    : Type 0 where
  pub fresh : reader.refusal ≡ None
  pub limit_is : reader.limit ≡ limit
  pub within : reader.used ≤ limit
  pub read : observable → HasRead first.left offers reader.used (unused reader now)
  pub few : length offers ≤ audited_limit
  pub rules : All IsOffer offers

pub reading-start : (observable : Type 0) (limit : ℕ) (first : SourceState) (reader : PileState)
    → reader ≡ record { ahead = []; used = 0; limit = limit; refusal = None }
    → IsReading observable limit first first reader []
reading-start observable limit first reader start = record {
  fresh = ap (λ (r : PileState). r.refusal) start;
  limit_is = ap (λ (r : PileState). r.limit) start;
  within = omega (arith, ap (λ (r : PileState). r.used) start);
  read = λ _. record {
    are = All-nil IsOffer;
    whole = ap (λ (r : PileState). r.ahead ++ first.left) (sym start);
    counted = ap (λ (r : PileState). r.used) start;
  };
  few = omega arith;
  rules = All-nil IsOffer;
}

module _ (observable : Type 0) (limit : ℕ) (first now : SourceState) (reader : PileState) (offers : List Offer)
    (h : IsReading observable limit first now reader offers) where
  -- the next offer was read
  module _ (rest : SourceState) (after : PileState) (offer : Offer)
      (used : after.used ≡ reader.used + length (used_text reader.used (Ok (Some offer))))
      (begins : observable → IsPileAnswer reader.used reader.limit (unused reader now) (Ok (Some offer)))
      (stays : observable → unused reader now ≡ used_text reader.used (Ok (Some offer)) ++ unused after rest)
      (limit_is : after.limit ≡ reader.limit) (bound : after.used ≤ after.limit) where
    next-read : observable → HasRead first.left (offers ++ offer ∷ []) after.used (unused after rest)
    next-read t =
        subst (λ (n : ℕ). HasRead first.left (offers ++ offer ∷ []) n (unused after rest)) (sym used)
        (in_order first.left offers reader.used reader.limit (unused reader now) offer (unused after rest) (h.read t)
        (begins t) (stays t))

    pub reading-next : after.refusal ≡ None → IsOffer offer → length offers < audited_limit
        → IsReading observable limit first rest after (offers ++ offer ∷ [])
    reading-next fresh is room = record {
      fresh = fresh;
      limit_is = limit_is ∙ h.limit_is;
      within = omega (arith, bound, limit_is, h.limit_is);
      read = next-read;
      few = omega (arith, length-append offers (offer ∷ []), room);
      rules = All-append IsOffer offers (offer ∷ []) h.rules (All-cons IsOffer offer [] is (All-nil IsOffer));
    }

    pub reading-full : observable → length offers ≡ audited_limit → HasOneMore limit first.left
    reading-full t full = record {
      offers = offers;
      offer = offer;
      read = record {
        used = after.used;
        bytes = unused after rest;
        read = next-read t;
        within = omega (arith, bound, limit_is, h.limit_is);
      };
      full = full;
    }

  -- the reader gives another answer
  pub reading-ends : (last : Result (Option Offer) PileFault) → observable
      → IsPileAnswer reader.used reader.limit (unused reader now) last → ReadsToWithin limit first.left offers last
  reading-ends last t is = record {
    used = reader.used;
    bytes = unused reader now;
    read = h.read t;
    within = h.within;
    answer = subst (λ (n : ℕ). IsPileAnswer reader.used n (unused reader now) last) h.limit_is is;
  }

  pub reading-refused : (fault : PileFault) → observable
      → IsPileAnswer reader.used reader.limit (unused reader now) (Err fault) → IsRefusal (pile_fault fault)
      → RefusesPile limit first.left (pile_fault fault)
  reading-refused (piles.BadPile at) t is refusal =
      record { offers = offers; read = reading-ends (Err (piles.BadPile at)) t is; few = h.few }
  reading-refused (piles.TooLong stated) t is refusal = record {
    offers = offers;
    read = subst (λ (n : ℕ). ReadsToWithin limit first.left offers (Err (piles.TooLong n))) (is.0 ∙ h.limit_is)
        (reading-ends (Err (piles.TooLong stated)) t is);
    few = h.few;
  }
  reading-refused piles.SourceFault t is refusal = absurd refusal
  reading-refused piles.NoMemory t is refusal = absurd refusal

  -- a call of the input failed
  pub reading-stops : (after : PileState) (rest : SourceState) → observable → after.limit ≡ reader.limit
      → after.used + length after.ahead ≤ after.limit → after.used ≡ reader.used
      → unused reader now ≡ unused after rest → IsOpen reader.used after.ahead → StopsAmidPile limit first rest
  reading-stops after rest t limit_is bound used same going = record {
    offers = offers;
    stops = stops-amid limit first.left rest.left offers reader.used (unused reader now) after.ahead (h.read t) same
        (omega (arith, bound, used, limit_is, h.limit_is)) going;
    few = h.few;
  }

-- the fault of the input is that of a failed call
pub pile-input : (fault : PileFault) → pile_fault fault ≡ Input → fault ≡ piles.SourceFault
pile-input (piles.BadPile at) e = cc
pile-input (piles.TooLong limit) e = cc
pile-input piles.SourceFault e = refl
pile-input piles.NoMemory e = cc
