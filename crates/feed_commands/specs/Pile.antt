-- `show pile`: the documents of a store as a pile, and the part of it that the output took.
use Rattle.std.specs.Prelude.{◌≡◌, ◌⊎◌, ℕ, List, [], ◌++◌, map}
use Rattle.atom_writer.specs.Doc.{DocValue}
use Rattle.atom_writer.specs.Pieces.{own_address, text}
use Rattle.chain_links.specs.Address.{printed}
use Rattle.doc_source.specs.Outside.{SinkState}
use Rattle.doc_source.specs.Pile.{pile_text}
use Rattle.doc_source.specs.declared.offer.Offer.{Offer}
use Rattle.feed_disk.specs.declared.area.Area.{Area}
use Rattle.feed_recovery.specs.Stored.{OpensTo, Stored}
use Rattle.command_ends.specs.declared.fault.Fault.{Fault}
use Rattle.command_ends.specs.declared.fault.Fault.TheVariants.{NoMemory, Disk, BadStore}
use Rattle.command_ends.specs.declared.status.Status.TheVariants.{Done}
use Rattle.command_ends.specs.Answer.{Answer, Prints}
use Rattle.command_ends.specs.Fault.{fault_answer}
use Rattle.command_ends.specs.Status.{code_of}
use Rattle.member_rules.specs.Chain.{chain}

-- the text of a document, at the document's own address
abbrev pub offer_of : DocValue → Offer
offer_of document = record {
  address = printed document.name.base (own_address document.kind);
  bytes = text document;
}

-- the subscription document of a store and all its sealed archives, newest first
unfoldable pub offers_of : Stored → List Offer
offers_of stored = map offer_of (chain stored.head stored.history)

abbrev pub pile_of : Stored → List ℕ
pile_of stored = pile_text (offers_of stored)

abbrev pub pile_answer : Stored → Answer
pile_answer stored = record { status = Done; printed = pile_of stored }

-- `front` is the pile of the offers before those that are left
pub record IsFront (offers left : List Offer) (front : List ℕ) : Type 0 where
  pub first : List Offer
  pub split : offers ≡ first ++ left
  pub is : front ≡ pile_text first

-- the output took that part of the pile; `observable` is whether contracts can see the offers
pub record TakesFront (observable : Type 0) (offers left : List Offer) (before after : SinkState) : Type 0 where
  pub front : List ℕ
  pub taken : after.taken ≡ before.taken ++ front
  pub is : observable → IsFront offers left front

-- the pile of the first documents of the store to which the content opens
pub record IsFrontOf (content : Area → List ℕ) (front : List ℕ) : Type 0 where
  pub stored : Stored
  pub opens : OpensTo content stored
  pub left : List Offer
  pub is : IsFront (offers_of stored) left front

-- A fault ended `show pile`. The output took nothing, or whole documents of the pile from its beginning, and then the
-- fault's line, or a prefix of the line where a call on the output failed.
pub record EndsCut (content : Area → List ℕ) (observable : Type 0) (before after : SinkState) (ended : ℕ) : Type 0 where
  pub fault : Fault
  pub status : ended ≡ code_of (fault_answer fault).status
  pub front : List ℕ
  pub is : observable → (front ≡ []) ⊎ IsFrontOf content front
  pub prints : Prints (record before { taken = before.taken ++ front }) after (fault_answer fault).printed

-- the faults by which it may end
abbrev pub MayEndPile : Fault → Type 0
MayEndPile NoMemory = Unit {0}
MayEndPile Disk = Unit {0}
MayEndPile (BadStore bad) = Unit {0}
MayEndPile _ = ⊥
