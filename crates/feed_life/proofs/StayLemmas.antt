-- Documents that a feed served stay served when its history gains operations.
use Rattle.std.proofs.Common.{◌≡◌, ℕ, ◌≤◌, List, [], ◌∷◌, ◌++◌, All, length, map, take, sym}
use Rattle.std.proofs.Common.{subst, ◌∙◌, arith, length-append}
use Rattle.std.specs.List.{AllZip}
use Rattle.std.proofs.Math.Seq.{take-append_seam, take-length}
use Rattle.std.proofs.lemmas.List.{length-take, take-append-le, take-take}
use Rattle.std.proofs.lemmas.List.Elements.{All-weaker}
use Rattle.feed_disk.specs.Memory.{MemoryValue}
use Rattle.feed_life.specs.Life.{IsMirrorOf, IsSentBy}
use Rattle.feed_life.specs.declared.sent.SentDoc.{SentDoc}
use Rattle.member_rules.specs.Head.{HeadValue}
use Rattle.member_rules.specs.History.{IsLawful}
use Rattle.member_rules.specs.Served.{Served}
use Rattle.member_rules.specs.declared.operation.Op.{Op}
use Rattle.member_rules.proofs.ServedLemmas.{prefix-lawful, served-stays}
use Rattle.mirror_walk.specs.Holding.{KeptValue}
use Rattle.mirror_walk.specs.Loaded.{own_offer}
use Rattle.mirror_walk.specs.Offers.{Offering}

module _ (head : HeadValue) (history operations : List Op) (lawful : IsLawful head (history ++ operations)) where
  longer : length history ≤ length (history ++ operations)
  longer = omega (arith, length-append history operations)

  -- a document that the history served is served with more operations
  pub served-later : (address bytes : List ℕ) → Served head history address bytes
      → Served head (history ++ operations) address bytes
  served-later address bytes served =
      served-stays head (history ++ operations) (length history) lawful longer address bytes
      (subst (λ (h : List Op). Served head h address bytes) (sym (take-append_seam history operations)) served)

  mirror-later : (disk : MemoryValue) (kept : List KeptValue) → IsMirrorOf head history disk kept
      → IsMirrorOf head (history ++ operations) disk kept
  mirror-later disk kept mirror = record {
    loads = mirror.loads;
    served =
        All-weaker (λ (offer : Offering). Served head history offer.address offer.bytes)
        (λ (offer : Offering). Served head (history ++ operations) offer.address offer.bytes)
        (λ offer. served-later offer.address offer.bytes) (map own_offer kept) mirror.served;
  }

  pub mirrors-later : (disks : List MemoryValue) (held : List (List KeptValue))
      → AllZip (IsMirrorOf head history) disks held → AllZip (IsMirrorOf head (history ++ operations)) disks held
  mirrors-later [] [] all = tt
  mirrors-later [] (kept ∷ held) all = absurd all
  mirrors-later (disk ∷ disks) [] all = absurd all
  mirrors-later (disk ∷ disks) (kept ∷ held) all =
      (mirror-later disk kept all.0, mirrors-later disks held all.1)

  sent-later : (doc : SentDoc) → IsSentBy head history doc → IsSentBy head (history ++ operations) doc
  sent-later doc sent = record {
    past = omega (arith, sent.past, longer);
    served = λ version from within. served_at version from within;
  } where
    -- the history without its operations past a version served the document
    served_at : (version : ℕ) → doc.version ≤ version → version ≤ length (history ++ operations)
        → Served head (take version (history ++ operations)) doc.address doc.bytes
    served_at version from within =
        let whole = take version (history ++ operations) in
        let same : take doc.version whole ≡ take doc.version history =
        take-take doc.version version (history ++ operations) from ∙ take-append-le doc.version history
        operations sent.past in
        served-stays head whole doc.version (prefix-lawful head (history ++ operations) version lawful)
        (omega (arith, length-take version (history ++ operations), sent.past, longer)) doc.address doc.bytes
        (subst (λ (h : List Op). Served head h doc.address doc.bytes) (sym same)
        (sent.served doc.version (omega arith) sent.past))

  pub all-sent-later : (docs : List SentDoc) → All (IsSentBy head history) docs
      → All (IsSentBy head (history ++ operations)) docs
  all-sent-later docs all =
      All-weaker (IsSentBy head history) (IsSentBy head (history ++ operations)) sent-later docs all

-- a document that was served after the whole history
pub sent-now : (head : HeadValue) (history : List Op) (doc : SentDoc) → doc.version ≡ length history
    → Served head history doc.address doc.bytes → IsSentBy head history doc
sent-now head history doc is served = record {
  past = omega arith;
  served = λ version from within.
      let all : version ≡ length history = omega arith in
      subst (λ (n : ℕ). Served head (take n history) doc.address doc.bytes) (sym all)
      (subst (λ (h : List Op). Served head h doc.address doc.bytes) (sym (take-length history)) served);
}
