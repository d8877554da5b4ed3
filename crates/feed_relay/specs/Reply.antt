-- The reply of a relay to a request.
use Rattle.std.specs.Prelude.{◌≡◌, ◌≢◌, ◌⊎◌, ℕ, List, length, Option, Some, None}
use Rattle.chain_links.specs.Address.{IsAddress, IsTarget, printed}
use Rattle.chain_links.specs.declared.address.Address.{Address}
use Rattle.chain_links.specs.declared.address.Address.TheVariants.{Feed, Archive, Member}
use Rattle.http_face.specs.Reply.{disk_changed, disk_fault, document_reply, no_memory, not_allowed, not_found, not_implemented}
use Rattle.http_face.specs.Request.{RequestValue}
use Rattle.http_face.specs.declared.reply.Allow.TheVariants.{OfArchive}
use Rattle.http_face.specs.declared.reply.Media.TheVariants as media
use Rattle.http_face.specs.declared.reply.Reply.{Reply}
use Rattle.http_face.specs.declared.request.Verb.{Verb}
use Rattle.http_face.specs.declared.request.Verb.TheVariants.{Get, Other}
use Rattle.member_rules.specs.Head.{HeadValue}
use Rattle.member_rules.specs.Served.{Served}
use Rattle.member_rules.specs.declared.operation.Op.{Op}
use Rattle.mirror_walk.specs.Holding.{KeptValue, text_at}

-- the bytes of a document
abbrev pub feed_reply : List ℕ → Reply
feed_reply bytes = document_reply media.Feed bytes

-- The reply by a disk. `observable` says whether contracts see the disk's content.

-- the document with this text is sent; over any disk the bytes are as many, and they are its text if that is seen
pub record IsSent (observable : Type 0) (text : List ℕ) (reply : Reply) : Type 0 where
  pub bytes : List ℕ
  pub long : length bytes ≡ length text
  pub seen : observable → bytes ≡ text
  pub is : reply ≡ feed_reply bytes

-- a document isn't sent: memory ran out, a device call failed, or the disk gave less than the document
abbrev pub IsUnread : Type 0 → Reply → Type 0
IsUnread observable reply =
    (reply ≡ no_memory) ⊎ (reply ≡ disk_fault) ⊎ ((¬ observable) × (reply ≡ disk_changed))

-- a GET of an address where a document with this text is held, or none
abbrev pub IsShown : Type 0 → Option (List ℕ) → Reply → Type 0
IsShown observable None reply = reply ≡ not_found
IsShown observable (Some text) reply = IsSent observable text reply ⊎ IsUnread observable reply

-- a request of the feed's or an archive's address; a relay allows GET alone, as an archive does
abbrev pub IsOfDocument : Type 0 → Option (List ℕ) → Verb → Reply → Type 0
IsOfDocument observable text Get reply = IsShown observable text reply
IsOfDocument observable text _ reply = reply ≡ not_allowed OfArchive

-- a request of an address; a relay has no members' documents
abbrev pub IsOfAddress : Type 0 → List KeptValue → Address → Verb → Reply → Type 0
IsOfAddress observable kept Feed verb reply = IsOfDocument observable (text_at kept Feed) verb reply
IsOfAddress observable kept (Archive number) verb reply =
    IsOfDocument observable (text_at kept (Archive number)) verb reply
IsOfAddress observable kept (Member number) verb reply = reply ≡ not_found

-- the target is no address of the feed, or a document's
abbrev pub IsOfTarget : Type 0 → List ℕ → List KeptValue → RequestValue → Reply → Type 0
IsOfTarget observable base kept request reply =
    (((address : Address) → IsAddress address → ¬ IsTarget base address request.target) × (reply ≡ not_found))
    ⊎ ((address : Address) × IsAddress address × IsTarget base address request.target
    × IsOfAddress observable kept address request.verb reply)

-- the reply to a request, where the mirror holds these documents
abbrev pub IsRelayed : Type 0 → List ℕ → List KeptValue → RequestValue → Reply → Type 0
IsRelayed observable base kept request reply =
    ((request.verb ≡ Other) × (reply ≡ not_implemented))
    ⊎ ((request.verb ≢ Other) × IsOfTarget observable base kept request reply)

-- the reply is the document that is held at the address that a GET names
pub record SendsHeld (base : List ℕ) (kept : List KeptValue) (request : RequestValue) (reply : Reply) : Type 0 where
  pub get : request.verb ≡ Get
  pub address : Address
  pub is_address : IsAddress address
  pub target : IsTarget base address request.target
  pub bytes : List ℕ
  pub held : text_at kept address ≡ Some bytes
  pub is : reply ≡ feed_reply bytes

-- the feed with this head served the document that the reply is, at the address that the request names
pub record SendsServed (head : HeadValue) (history : List Op) (base : List ℕ) (request : RequestValue) (reply : Reply)
    : Type 0 where
  pub address : Address
  pub is_address : IsAddress address
  pub target : IsTarget base address request.target
  pub bytes : List ℕ
  pub served : Served head history (printed base address) bytes
  pub is : reply ≡ feed_reply bytes
