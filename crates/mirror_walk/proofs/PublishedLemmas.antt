-- The entries that a mirror shows are those that count by the published rules, where one feed served all that it holds.
use Rattle.std.proofs.Common.{◌≡◌, ◌↔◌, ℕ, List, [], ◌∷◌, Option, Some, None, map, IfSome, refl, sym, subst}
use Rattle.std.proofs.Common.{◌∙◌}
use Rattle.std.proofs.lemmas.List.Elements.{All-head}
use Rattle.atom_values.specs.Entry.{EntryValue}
use Rattle.atom_writer.specs.Doc.{DocValue}
use Rattle.member_rules.specs.declared.operation.Op.{Op}
use Rattle.member_rules.specs.Head.{HeadValue, IsHead}
use Rattle.member_rules.specs.History.{IsLawful}
use Rattle.member_rules.specs.Served.{Served}
use Rattle.member_rules.specs.Shows.{live_of}
use Rattle.published_rule.specs.Counts.{Counts}
use Rattle.published_rule.proofs.RuleLemmas.{live_of-counts}
use Rattle.mirror_walk.specs.Holding.{KeptValue, best_of, chain_of, first_missing}
use Rattle.mirror_walk.specs.Laws.{ShowsServed}
use Rattle.mirror_walk.specs.Listing.{IsLastLive, IsNextLive, live_at}
use Rattle.mirror_walk.specs.Loaded.{IsLoadedOf, own_offer}
use Rattle.mirror_walk.specs.Offers.{Offering}
use Rattle.mirror_walk.specs.Published.{HasCounted, HoldsServed, IsNextCounted}
use Rattle.mirror_walk.proofs.MirrorLemmas.{taken_are_shown}
use Rattle.mirror_walk.proofs.TakenLemmas.{loaded-offered}

-- a feed that served a document has a head and a lawful history
pub served-lawful : (head : HeadValue) (history : List Op) (kept : List KeptValue) (best : KeptValue)
    → HoldsServed head history kept → best_of kept ≡ Some best → IsHead head × IsLawful head history
unfolding best_of
served-lawful head history [] best served e = absurd (cc)
served-lawful head history (first ∷ rest) best served e =
    let one : Served head history (own_offer first).address (own_offer first).bytes =
    All-head (λ (offer : Offering). Served head history offer.address offer.bytes) (own_offer first)
    (map own_offer rest) served in
    (one.is_head, one.is_lawful)

module _ (base : List ℕ) (payloads : List (List ℕ)) (kept : List KeptValue)
    (loaded : IsLoadedOf base payloads kept) (whole : first_missing kept ≡ None) (head : HeadValue)
    (history : List Op) (same : base ≡ head.name.base) (served : HoldsServed head history kept) where
  -- for crates above: an entry counts exactly where it is live
  pub counts-live : (number : ℕ) (entry : EntryValue)
      → Counts (chain_of kept) number entry ↔ (live_at kept number ≡ Some entry)
  counts-live number entry =
      go (best_of kept) refl
      (taken_are_shown base kept head history (map own_offer kept) same served
      (loaded-offered base payloads kept loaded))
    where
      go : (best : Option KeptValue) → best_of kept ≡ best
          → ShowsServed head history (map own_offer kept) kept best
          → Counts (chain_of kept) number entry ↔ (live_at kept number ≡ Some entry)
      go None e shows = let none = sym whole ∙ shows.missing in absurd (cc)
      go (Some best) e shows =
          let version = shows.live whole in
          let lawful = served-lawful head history kept best served e in
          subst (λ (ds : List DocValue). Counts ds number entry ↔ (live_of ds number ≡ Some entry))
          (sym version.whole_chain)
          (live_of-counts head history best.document.span.last lawful.0 lawful.1 version.past number entry)

  none-counted : (number : ℕ) → live_at kept number ≡ None → ¬ HasCounted (chain_of kept) number
  none-counted number none counted =
      let live = sym none ∙ (counts-live number counted.0).0 counted.1 in
      absurd (cc)

  -- `Mirror::entry`: the entry of a live member counts
  pub entry-counts : (number : ℕ) (entry : EntryValue) → live_at kept number ≡ Some entry
      → Counts (chain_of kept) number entry
  entry-counts number entry live = (counts-live number entry).1 live

  -- `Mirror::next_live`: the next live member is the next one with an entry that counts
  pub next-counted : (after : ℕ) (next : Option ℕ) → IfSome next (IsNextLive kept after)
      → (next ≡ None → IsLastLive kept after) → IsNextCounted (chain_of kept) after next
  next-counted after None found last = λ number later. none-counted number (last refl number later)
  next-counted after (Some next) found last = record {
    later = found.later;
    counted = (found.entry, entry-counts next found.entry found.live);
    first = λ number later before. none-counted number (found.first number later before);
  }
