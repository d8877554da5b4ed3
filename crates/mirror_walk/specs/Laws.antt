-- The law of a mirror over documents that one feed served. They come in any order, and some are lost or come
-- twice.
use Rattle.std.specs.Prelude.{◌≡◌, ℕ, ◌<◌, ◌≤◌, List, [], Option, Some, None, All, IsOk, take, length}
use Rattle.atom_writer.specs.Doc.{DocValue}
use Rattle.atom_writer.specs.declared.doc.Kind.TheVariants.{Subscription}
use Rattle.chain_links.specs.declared.address.Address.{Address}
use Rattle.chain_links.specs.declared.address.Address.TheVariants.{Feed, Archive, Member}
use Rattle.member_rules.specs.declared.operation.Op.{Op}
use Rattle.member_rules.specs.Head.{HeadValue}
use Rattle.member_rules.specs.Chain.{chain, ShowsTheFold}
use Rattle.mirror_walk.specs.Accept.{Answer}
use Rattle.mirror_walk.specs.Holding.{KeptValue, best_of, chain_of, first_missing}
use Rattle.mirror_walk.specs.Offers.{Offering, AreAnswered, AreServed, IsOffered, IsArchiveOffered}

-- no subscription document was offered
abbrev pub IsWithoutNewest : List Offering → Type 0
IsWithoutNewest offers = (document : DocValue) → IsOffered offers document → document.kind ≡ Subscription → ⊥

-- this subscription document has the greatest `last` of those that were offered
pub record IsNewest (offers : List Offering) (best : DocValue) : Type 0 where
  pub offered : IsOffered offers best
  pub kind : best.kind ≡ Subscription
  pub greatest : (document : DocValue) → IsOffered offers document → document.kind ≡ Subscription
      → document.span.last ≤ best.span.last

-- each archive from `prev` down to 1 was offered
abbrev pub AreAllOffered : List ℕ → List Offering → ℕ → Type 0
AreAllOffered base offers prev = (number : ℕ) → 1 ≤ number → number ≤ prev
    → IsArchiveOffered base offers number

-- the greatest number from `prev` down to 1 of an archive that was not offered
pub record IsFirstNotOffered (base : List ℕ) (offers : List Offering) (prev number : ℕ) : Type 0 where
  pub needed : (1 ≤ number) × (number ≤ prev)
  pub not_offered : ¬ IsArchiveOffered base offers number
  pub greatest : (other : ℕ) → number < other → other ≤ prev → IsArchiveOffered base offers other

-- the first missing document, if the best subscription document has this `prev`
abbrev pub IsMissingOf : List ℕ → List Offering → ℕ → Option Address → Type 0
IsMissingOf base offers prev None = AreAllOffered base offers prev
IsMissingOf base offers prev (Some Feed) = ⊥
IsMissingOf base offers prev (Some (Archive number)) = IsFirstNotOffered base offers prev number
IsMissingOf base offers prev (Some (Member number)) = ⊥

-- the documents are the chain of the first `version` operations, and show the live entries after those
pub record ShowsVersion (head : HeadValue) (history : List Op) (version : ℕ) (documents : List DocValue)
    : Type 0 where
  pub past : version ≤ length history
  pub whole_chain : documents ≡ chain head (take version history)
  pub fold : ShowsTheFold documents (take version history)

-- the mirror has a best subscription document
pub record ShowsBest (head : HeadValue) (history : List Op) (offers : List Offering) (kept : List KeptValue)
    (best : KeptValue)
    : Type 0 where
  pub newest : IsNewest offers best.document
  pub missing : IsMissingOf head.name.base offers best.document.prev (first_missing kept)
  pub live : first_missing kept ≡ None → ShowsVersion head history best.document.span.last (chain_of kept)

pub record ShowsNone (offers : List Offering) (kept : List KeptValue) : Type 0 where
  pub none_offered : IsWithoutNewest offers
  pub missing : first_missing kept ≡ Some Feed

abbrev pub ShowsServed : HeadValue → List Op → List Offering → List KeptValue → Option KeptValue → Type 0
ShowsServed head history offers kept None = ShowsNone offers kept
ShowsServed head history offers kept (Some best) = ShowsBest head history offers kept best

-- no offer is refused, and what is held is as much of the feed as was offered
pub record MirrorsServed (head : HeadValue) (history : List Op) (offers : List Offering)
    (answers : List Answer)
    (kept : List KeptValue) : Type 0 where
  pub accepted : All IsOk answers
  pub shows : ShowsServed head history offers kept (best_of kept)

-- The law of a mirror: for every head and history by which all that was offered was served.
abbrev pub LawOfTheMirror : Type 0
LawOfTheMirror = (head : HeadValue) (history : List Op) (offers : List Offering) (answers : List Answer)
    (kept : List KeptValue) → AreServed head history offers
    → AreAnswered head.name.base [] offers answers kept
    → MirrorsServed head history offers answers kept
