-- `show pile`: the part of a pile that the output took, document by document.
use Rattle.std.proofs.Common.{◌≡◌, ℕ, zero, suc, ◌-◌, ◌<◌, ◌≤◌, List, [], ◌∷◌, ◌++◌, map, flat_map, refl, sym, ◌∙◌, ap, subst}
use Rattle.std.proofs.Common.{append_assoc, append-nil, arith}
use Rattle.std.proofs.lemmas.Grind.{flat_map-append}
use Rattle.atom_writer.specs.Pieces.{text}
use Rattle.chain_links.specs.Address.{printed}
use Rattle.chain_links.specs.declared.address.Address.TheVariants.{Feed, Archive}
use Rattle.doc_source.specs.Outside.{SinkState, TakesPrefix}
use Rattle.doc_source.specs.Pile.{offer_text, pile_head, pile_text}
use Rattle.doc_source.specs.declared.offer.Offer.{Offer}
use Rattle.doc_source.proofs.WriteLemmas.{takes_more, took_more}
use Rattle.feed_recovery.specs.Stored.{Stored}
use Rattle.feed_commands.specs.Pile.{TakesFront, offer_of, offers_of}
use Rattle.member_rules.specs.Chain.{chain, chain_of, down_from}
use Rattle.member_rules.specs.Documents.{archive, archive_of, document_of, name_of, subscription, subscription_of}
use Rattle.member_rules.specs.Head.{HeadValue}
use Rattle.member_rules.specs.Windows.{windows_of}
use Rattle.member_rules.specs.declared.operation.Op.{Op}

-- the archives of a store up to this number, newest first
abbrev pub archives_of : Stored → ℕ → List Offer
archives_of stored number = map offer_of (down_from (archive stored.head stored.history) number)

-- the subscription document comes first, and then the sealed archives
pub offers-are : (stored : Stored) → offers_of stored
    ≡ offer_of (subscription stored.head stored.history)
    ∷ archives_of stored (windows_of stored.head stored.history).sealed
unfolding offers_of chain chain_of subscription archive
offers-are stored = refl

-- the documents at their addresses
pub feed-offer : (head : HeadValue) (history : List Op) (address bytes : List ℕ)
    → address ≡ printed head.name.base Feed → bytes ≡ text (subscription head history)
    → record { address = address; bytes = bytes } ≡ offer_of (subscription head history)
unfolding subscription subscription_of document_of name_of
feed-offer head history address bytes at is = λ i. record { address = at i; bytes = is i }

pub archive-offer : (head : HeadValue) (history : List Op) (number : ℕ) (address bytes : List ℕ)
    → address ≡ printed head.name.base (Archive number) → bytes ≡ text (archive head history number)
    → record { address = address; bytes = bytes } ≡ offer_of (archive head history number)
unfolding archive archive_of document_of name_of
archive-offer head history number address bytes at is = λ i. record { address = at i; bytes = is i }

-- the archive of a store that has the same head and history
pub same-archive : (head other : HeadValue) (history left : List Op) (number : ℕ) → head ≡ other → history ≡ left
    → offer_of (archive head history number) ≡ offer_of (archive other left number)
same-archive head other history left number heads histories =
    ap (λ (h : HeadValue). offer_of (archive h history number)) heads
    ∙ ap (λ (ops : List Op). offer_of (archive other ops number)) histories

-- the archive of a number comes before those of lower numbers
next-archive : (stored : Stored) (number : ℕ) → 0 < number → archives_of stored number
    ≡ offer_of (archive stored.head stored.history number) ∷ archives_of stored (number - 1)
next-archive stored zero some = absurd (omega (arith, some))
next-archive stored (suc number) some =
    let e : suc number - 1 ≡ number = omega arith in rw e refl

-- a pile is cut after its first offers
pile-split : (first left : List Offer) → pile_text (first ++ left) ≡ pile_text first ++ flat_map offer_text left
pile-split first left = ap (λ (x : List ℕ). pile_head ++ x) (flat_map-append offer_text first left)
    ∙ sym (append_assoc pile_head (flat_map offer_text first) (flat_map offer_text left))

one-more : (first : List Offer) (offer : Offer) → pile_text first ++ offer_text offer ≡ pile_text (first ++ offer ∷ [])
one-more first offer = sym (pile-split first (offer ∷ [])
    ∙ ap (λ (x : List ℕ). pile_text first ++ x) (append-nil (offer_text offer)))

-- the next offer was taken
more : (observable : Type 0) (offers left : List Offer) (offer made : Offer) (before mid after : SinkState)
    → (observable → made ≡ offer) → TakesFront observable offers (offer ∷ left) before mid
    → after.taken ≡ mid.taken ++ offer_text made → TakesFront observable offers left before after
more observable offers left offer made before mid after same front next = record {
  front = front.front ++ offer_text made;
  taken = took_more before mid after front.front (offer_text made) front.taken next;
  is = λ seen.
      let is = front.is seen in
      record {
        first = is.first ++ offer ∷ [];
        split = is.split ∙ sym (append_assoc is.first (offer ∷ []) left);
        is = ap (λ (x : List ℕ). x ++ offer_text made) is.is
            ∙ ap (λ (o : Offer). pile_text is.first ++ offer_text o) (same seen) ∙ one-more is.first offer;
      };
}

-- a prefix of the next offer was taken
more-prefix : (observable : Type 0) (offers left : List Offer) (offer made : Offer) (before mid after : SinkState)
    → (observable → made ≡ offer) → observable → TakesFront observable offers (offer ∷ left) before mid
    → TakesPrefix mid after (offer_text made) → TakesPrefix before after (pile_text offers)
more-prefix observable offers left offer made before mid after same seen front prefix =
    let is = front.is seen in
    takes_more before mid after front.front (offer_text made) (flat_map offer_text left) (pile_text offers)
    (ap pile_text is.split ∙ pile-split is.first (offer ∷ left)
    ∙ ap (λ (x : List ℕ). x ++ flat_map offer_text (offer ∷ left)) (sym is.is)
    ∙ ap (λ (o : Offer). front.front ++ (offer_text o ++ flat_map offer_text left)) (sym (same seen)))
    front.taken prefix

module _ (observable : Type 0) (stored : Stored) where
  -- the first line of the pile was taken
  pub front-head : (before after : SinkState) → after.taken ≡ before.taken ++ pile_head
      → TakesFront observable (offers_of stored) (offers_of stored) before after
  front-head before after taken = record {
    front = pile_head;
    taken = taken;
    is = λ _. record { first = []; split = refl; is = sym (append-nil pile_head) };
  }

  pub head-prefix : (before after : SinkState) → TakesPrefix before after pile_head
      → TakesPrefix before after (pile_text (offers_of stored))
  head-prefix before after prefix = takes_more before before after [] pile_head
      (flat_map offer_text (offers_of stored)) (pile_text (offers_of stored)) refl
      (sym (append-nil before.taken)) prefix

  front-feed-due : (before after : SinkState) → after.taken ≡ before.taken ++ pile_head
      → TakesFront observable (offers_of stored) (offer_of (subscription stored.head stored.history)
      ∷ archives_of stored (windows_of stored.head stored.history).sealed) before after
  front-feed-due before after taken =
      subst (λ (left : List Offer). TakesFront observable (offers_of stored) left before after) (offers-are stored)
      (front-head before after taken)

  -- the subscription document was taken
  pub front-feed : (made : Offer) (before mid after : SinkState)
      → made ≡ offer_of (subscription stored.head stored.history) → mid.taken ≡ before.taken ++ pile_head
      → after.taken ≡ mid.taken ++ offer_text made
      → TakesFront observable (offers_of stored) (archives_of stored (windows_of stored.head stored.history).sealed)
      before after
  front-feed made before mid after same head next =
      more observable (offers_of stored) _ _ made before mid after (λ _. same) (front-feed-due before mid head) next

  pub feed-prefix : (made : Offer) (before mid after : SinkState)
      → made ≡ offer_of (subscription stored.head stored.history) → observable → mid.taken ≡ before.taken ++ pile_head
      → TakesPrefix mid after (offer_text made) → TakesPrefix before after (pile_text (offers_of stored))
  feed-prefix made before mid after same seen head prefix =
      more-prefix observable (offers_of stored) _ _ made before mid after (λ _. same) seen (front-feed-due before mid head)
      prefix

  front-archive-due : (number : ℕ) (before after : SinkState) → 0 < number
      → TakesFront observable (offers_of stored) (archives_of stored number) before after
      → TakesFront observable (offers_of stored) (offer_of (archive stored.head stored.history number)
      ∷ archives_of stored (number - 1)) before after
  front-archive-due number before after some front =
      subst (λ (left : List Offer). TakesFront observable (offers_of stored) left before after)
      (next-archive stored number some) front

  -- an archive was taken
  pub front-archive : (number : ℕ) (made : Offer) (before mid after : SinkState) → 0 < number
      → (observable → made ≡ offer_of (archive stored.head stored.history number))
      → TakesFront observable (offers_of stored) (archives_of stored number) before mid
      → after.taken ≡ mid.taken ++ offer_text made
      → TakesFront observable (offers_of stored) (archives_of stored (number - 1)) before after
  front-archive number made before mid after some same front next =
      more observable (offers_of stored) _ _ made before mid after same (front-archive-due number before mid some front) next

  pub archive-prefix : (number : ℕ) (made : Offer) (before mid after : SinkState) → 0 < number
      → (observable → made ≡ offer_of (archive stored.head stored.history number)) → observable
      → TakesFront observable (offers_of stored) (archives_of stored number) before mid
      → TakesPrefix mid after (offer_text made) → TakesPrefix before after (pile_text (offers_of stored))
  archive-prefix number made before mid after some same seen front prefix =
      more-prefix observable (offers_of stored) _ _ made before mid after same seen
      (front-archive-due number before mid some front) prefix

  -- all documents were taken
  pub front-whole : (number : ℕ) (before after : SinkState) → number ≤ 0 → observable
      → TakesFront observable (offers_of stored) (archives_of stored number) before after
      → after.taken ≡ before.taken ++ pile_text (offers_of stored)
  front-whole zero before after none seen front =
      let is = front.is seen in
      front.taken ∙ ap (λ (x : List ℕ). before.taken ++ x)
      (is.is ∙ ap pile_text (sym (append-nil is.first) ∙ sym is.split))
  front-whole (suc number) before after none seen front = absurd (omega (arith, none))
