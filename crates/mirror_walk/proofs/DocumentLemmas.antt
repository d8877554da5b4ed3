-- The documents that a mirror holds at their addresses, and their payloads.
use Rattle.std.proofs.Common.{◌≡◌, ◌≤◌, ◌<◌, ℕ, zero, suc, ◌+◌, List, [], ◌∷◌, Option, Some, None, All, map, length, option_map}
use Rattle.std.proofs.Common.{false, refl, sym, ap, subst, ◌∙◌, arith}
use Rattle.std.specs.Prelude.{slice_get}
use Rattle.std.proofs.lemmas.List.{length-map}
use Rattle.std.proofs.lemmas.List.Elements.{All-cons, All-head, All-nil, All-tail}
use Rattle.std.proofs.lemmas.Option.{slice_get-map, slice_get_within}
use Rattle.atom_writer.specs.Pieces.{own_address, text}
use Rattle.chain_links.specs.Address.{printed}
use Rattle.chain_links.specs.declared.address.Address.{Address}
use Rattle.chain_links.specs.declared.address.Address.TheVariants.{Feed, Archive, Member}
use Rattle.feed_disk.specs.Disk.{DiskState}
use Rattle.feed_disk.specs.declared.area.Area.{Area}
use Rattle.feed_disk.specs.declared.area.Area.TheVariants.{Mirror as MirrorArea}
use Rattle.feed_journal.specs.Limits.{header_length, payload_limit}
use Rattle.feed_journal.specs.Log.{Follow, payload_lengths}
use Rattle.feed_journal.specs.Records.{records}
use Rattle.feed_journal.specs.declared.extent.Extent.{Extent}
use Rattle.member_rules.specs.Head.{HeadValue}
use Rattle.member_rules.specs.Served.{Served}
use Rattle.member_rules.specs.declared.operation.Op.{Op}
use Rattle.mirror_walk.specs.declared.documents.Best.{Best}
use Rattle.mirror_walk.specs.Accept.{own_text}
use Rattle.mirror_walk.specs.Held.{IsHeldDoc}
use Rattle.mirror_walk.specs.Holding.{KeptValue, document_at, payloads_of, text_at}
use Rattle.mirror_walk.specs.Index.{HasBest, HasPlace}
use Rattle.mirror_walk.specs.Loaded.{IsLoadedOf, own_offer}
use Rattle.mirror_walk.specs.Mirror.{KeepsMirror, MirrorValue, StandsFor, is_spent}
use Rattle.mirror_walk.specs.Offers.{Offering}
use Rattle.mirror_walk.specs.Published.{HoldsServed}
use Rattle.mirror_walk.proofs.FoundLemmas.{archive_at-holds, best_of-holds}
use Rattle.mirror_walk.proofs.HeldLemmas.{loaded-held}
use Rattle.mirror_walk.proofs.TakenLemmas.{at-payload}

-- for crates above: a document that is held at an address is one of those held, and the address is its own
pub held-at : (P : KeptValue → Type 0) (kept : List KeptValue) (address : Address) (held : KeptValue) → All P kept
    → document_at kept address ≡ Some held → P held × (own_address held.document.kind ≡ address)
held-at P kept Feed held all e = let found = best_of-holds P kept held all e in (found.0, ap own_address found.1)
held-at P kept (Archive number) held all e =
    let found = archive_at-holds P kept number held all e in (found.0, ap own_address found.1)
held-at P kept (Member number) held all e = absurd (cc)

all-unmap : {X Y : Type 0} (P : X → Type 0) (f : Y → X) (ys : List Y) → All P (map f ys) → All (λ y. P (f y)) ys
all-unmap P f [] all = All-nil (λ y. P (f y))
all-unmap P f (y ∷ ys) all =
    All-cons (λ y. P (f y)) y ys (All-head P (f y) (map f ys) all)
    (all-unmap P f ys (All-tail P (f y) (map f ys) all))

-- for crates above: each document held was served at its own address
pub own-served : (head : HeadValue) (history : List Op) (kept : List KeptValue) → HoldsServed head history kept
    → All (λ (k : KeptValue). Served head history (own_text k.document) (text k.document)) kept
own-served head history kept served =
    all-unmap (λ (offer : Offering). Served head history offer.address offer.bytes) own_offer kept served

held-text : (held : Option KeptValue) (bytes : List ℕ) → option_map (λ (k : KeptValue). text k.document) held ≡ Some bytes
    → (k : KeptValue) × (held ≡ Some k) × (bytes ≡ text k.document)
held-text None bytes e = absurd (cc)
held-text (Some k) bytes e = (k, refl, cc)

-- the document held at an address was served there
pub served-at : (head : HeadValue) (history : List Op) (base : List ℕ) (kept : List KeptValue)
    → IsLoadedOf base (payloads_of kept) kept → HoldsServed head history kept → (address : Address) (bytes : List ℕ)
    → text_at kept address ≡ Some bytes → Served head history (printed base address) bytes
served-at head history base kept loaded served address bytes e =
    let found = held-text (document_at kept address) bytes e in
    let k = found.0 in
    let own = held-at (λ (k : KeptValue). Served head history (own_text k.document) (text k.document)) kept address k
    (own-served head history kept served) found.1 in
    let of = held-at (IsHeldDoc base) kept address k (loaded-held base (payloads_of kept) kept loaded).each found.1 in
    subst (λ (b : List ℕ). Served head history (printed base address) b) (sym found.2)
    (subst (λ (a : List ℕ). Served head history a (text k.document))
    (ap (λ (b : List ℕ). printed b (own_address k.document.kind)) of.0.base_is ∙ ap (printed base) of.1) own.0)

-- the index of the best subscription document
pub best-placed : (kept : List KeptValue) (best : Option Best) (found : Option KeptValue) → HasBest kept best found
    → HasPlace kept (option_map (λ (b : Best). b.at) best) found
best-placed kept None None there = refl
best-placed kept None (Some document) there = absurd there
best-placed kept (Some best) None there = absurd there
best-placed kept (Some best) (Some document) there = record { there = there.there; some = refl }

-- the payloads of a log are no longer than its limit
follow-limit : (from : ℕ) (extents : List Extent) (size index count : ℕ) → Follow from extents size
    → slice_get (payload_lengths extents) index ≡ Some count → count ≤ payload_limit
follow-limit from [] size index count follow there = absurd (cc)
follow-limit from (extent ∷ extents) size zero count follow there =
    let is : extent.length ≡ count = cc in omega (arith, follow.1, is)
follow-limit from (extent ∷ extents) size (suc index) count follow there =
    follow-limit (from + extent.length + header_length) extents size index count follow.2 there

-- a held document, and its payload
pub record IsHeldAt (kept : List KeptValue) (address : Address) (index : ℕ) : Type 0 where
  pub held : KeptValue
  pub found : document_at kept address ≡ Some held
  pub there : slice_get kept index ≡ Some held

pub place-held : (kept : List KeptValue) (address : Address) (index : ℕ)
    → HasPlace kept (Some index) (document_at kept address) → IsHeldAt kept address index
place-held kept address index place = go (document_at kept address) refl place
  where
    go : (found : Option KeptValue) → document_at kept address ≡ found → HasPlace kept (Some index) found
        → IsHeldAt kept address index
    go None is place = absurd (let some = place.some in cc)
    go (Some held) is place = record { held = held; found = is; there = place.there }

module _ (mirror : MirrorValue) (keeps : KeepsMirror mirror) (unspent : is_spent mirror ≡ false) (address : Address)
    (index : ℕ) (at : IsHeldAt mirror.kept address index) where
  payload : slice_get (payloads_of mirror.kept) index ≡ Some (text at.held.document)
  payload = at-payload mirror.kept index at.held at.there

  pub document-within : index < length mirror.log.extents
  document-within =
      let within = slice_get_within (payloads_of mirror.kept) index (text at.held.document) payload in
      omega (
        arith,
        within,
        length-map mirror.log.extents (λ (e : Extent). e.length),
        length-map (payloads_of mirror.kept) (λ (p : List ℕ). length p),
        ap length (keeps.documents unspent).lengths,
      )

  pub document-text : text_at mirror.kept address ≡ Some (text at.held.document)
  document-text = ap (option_map (λ (k : KeptValue). text k.document)) at.found

  -- the payload of the disk is the document's text
  pub document-read : (s : DiskState) (area : Area) → area ≡ MirrorArea → StandsFor s mirror → (bytes : List ℕ)
      → slice_get (records (s.content area)) index ≡ Some bytes → Some bytes ≡ text_at mirror.kept address
  document-read s area is stands bytes read =
      sym read ∙ ap (λ (a : Area). slice_get (records (s.content a)) index) is
      ∙ ap (λ (ps : List (List ℕ)). slice_get ps index) stands.payloads ∙ payload ∙ sym document-text

  module _ (bytes : List ℕ)
      (long : slice_get (payload_lengths mirror.log.extents) index ≡ Some (length bytes)) where
    pub document-long : Some (length bytes) ≡ option_map length (text_at mirror.kept address)
    document-long =
        sym long ∙ ap (λ (l : List ℕ). slice_get l index) (keeps.documents unspent).lengths
        ∙ slice_get-map length (payloads_of mirror.kept) index ∙ ap (option_map length) (payload ∙ sym document-text)

    pub document-limit : length bytes ≤ payload_limit
    document-limit = follow-limit 0 mirror.log.extents mirror.log.size index (length bytes) keeps.log.follow long
