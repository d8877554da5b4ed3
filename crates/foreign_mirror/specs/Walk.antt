-- A walk over the documents of another server's archived feed, from the newest one to the oldest (RFC 5005 section 4).
use Rattle.std.specs.Prelude.{◌≡◌, ℕ, ◌<◌, List, [], ◌∷◌, ◌++◌, length, take, Contains, Option, Some, None, IfSome}
use Rattle.std.specs.Prelude.{Bool, IsTrue, Result, Ok, Err, codes, bytes_eq, unwrap_or}
use Rattle.chain_links.specs.Checked.{IsUrlText}
use Rattle.doc_source.specs.Fetch.{FetchState}
use Rattle.doc_source.specs.declared.fetch.GetFault.{GetFault}
use Rattle.doc_source.specs.declared.fetch.GetFault.TheVariants as got
use Rattle.feed_reader.specs.Feed.{DocumentValue}
use Rattle.feed_reader.specs.declared.fault.FeedWhy.{FeedWhy}
use Rattle.feed_reader.specs.FeedDocument.{IsFeedRefusedAt, SpellsFeed}
use Rattle.foreign_entries.specs.Live.{IsForeignLive}
use Rattle.foreign_mirror.specs.declared.fault.ForeignFault.{ForeignFault}
use Rattle.foreign_mirror.specs.declared.fault.ForeignFault.TheVariants.{FetchFault, NoMemory}
use Rattle.foreign_mirror.specs.declared.walk.ChainEnd.{ChainEnd}
use Rattle.foreign_mirror.specs.declared.walk.ChainEnd.TheVariants.{Complete, Again, NotHttp, TooMany, Missing, NotRead}
use Rattle.foreign_mirror.specs.declared.walk.ChainEnd.TheVariants.{OtherFeed}
use Rattle.foreign_mirror.specs.declared.walk.Foreign.{Foreign}

-- the greatest number of documents that a walk takes
abbrev pub document_limit : ℕ
document_limit = 10_000

-- the scheme of the address is `http`
abbrev pub is_http : List ℕ → Bool
is_http address = bytes_eq (take 5 address) (codes "http:")

-- an address that a walk may begin at: an `http` URL that the parser of the URL Standard leaves as it is
pub record IsStart (address : List ℕ) : Type 0 where
  pub is_url : IsUrlText address
  pub http : IsTrue (is_http address)

-- how a walk ended
pub data Ending : Type 0 where
  -- at an end that the documents determine
  over : ChainEnd → Ending
  -- a call of the source failed
  fetch_failed : Ending
  -- memory ran out
  cut_short : Ending

-- the source has a document at the address, which is read as this
pub record IsReadAt (answers : List ℕ → Option (List ℕ)) (address : List ℕ) (d : DocumentValue) : Type 0 where
  pub bytes : List ℕ
  pub there : answers address ≡ Some bytes
  pub spelled : SpellsFeed bytes address d

-- the source has a document at the address, which is refused with this offset and reason
pub record IsRefusedAt (answers : List ℕ → Option (List ℕ)) (address : List ℕ) (at : ℕ) (why : FeedWhy) : Type 0 where
  pub bytes : List ℕ
  pub there : answers address ≡ Some bytes
  pub refused : IsFeedRefusedAt bytes address at why

-- the document is of the feed with this identifier; the first document of a walk is of any feed
abbrev pub IsOfFeed : Option (List ℕ) → DocumentValue → Type 0
IsOfFeed feed d = IfSome feed (λ id. d.id ≡ id)

-- a walk that asked the addresses `before` asks this one next, unless memory runs out
pub record IsAskable (before : List (List ℕ)) (address : List ℕ) : Type 0 where
  pub new : ¬ Contains before address
  pub http : IsTrue (is_http address)
  pub few : length before < document_limit

-- a walk that asked the addresses `before` ends before it asks its next address
abbrev pub EndsBefore : List (List ℕ) → Option (List ℕ) → Ending → Type 0
EndsBefore before next (over Complete) = next ≡ None
EndsBefore before next (over (Again address)) = (next ≡ Some address) × Contains before address
EndsBefore before next (over (NotHttp address)) =
    (next ≡ Some address) × (¬ Contains before address) × ¬ IsTrue (is_http address)
EndsBefore before next (over TooMany) =
    (address : List ℕ) × (next ≡ Some address) × (¬ Contains before address) × IsTrue (is_http address)
    × (length before ≡ document_limit)
EndsBefore before next cut_short = Unit {0}
EndsBefore before next _ = ⊥

-- a walk ends at an address that it asked, and takes no document there
abbrev pub EndsAt : (List ℕ → Option (List ℕ)) → Option (List ℕ) → List ℕ → Ending → Type 0
EndsAt answers feed address (over (Missing missing)) = (missing ≡ address) × (answers address ≡ None)
EndsAt answers feed address (over (NotRead refused at why)) =
    (refused ≡ address) × IsRefusedAt answers address at why
EndsAt answers feed address (over (OtherFeed other)) =
    (other ≡ address) × ((d : DocumentValue) × IsReadAt answers address d × ¬ IsOfFeed feed d)
EndsAt answers feed address fetch_failed = Unit {0}
EndsAt answers feed address cut_short = Unit {0}
EndsAt answers feed address _ = ⊥

-- the identifier of the feed, of which this is a document
abbrev pub feed_after : Option (List ℕ) → DocumentValue → Option (List ℕ)
feed_after feed d = Some (unwrap_or feed d.id)

-- A walk that asked the addresses `before` for documents of the feed `feed`, and whose next address is `next`: the
-- addresses that it asks, the documents that it takes, and how it ends.
abbrev pub Walks : (List ℕ → Option (List ℕ)) → List (List ℕ) → Option (List ℕ) → Option (List ℕ) → List (List ℕ)
    → List DocumentValue → Ending → Type 0
Walks answers before feed next [] [] ending = EndsBefore before next ending
Walks answers before feed next [] (d ∷ documents) ending = ⊥
Walks answers before feed next (address ∷ asked) [] ending =
    (next ≡ Some address) × (asked ≡ []) × IsAskable before address × EndsAt answers feed address ending
Walks answers before feed next (address ∷ asked) (d ∷ documents) ending =
    (next ≡ Some address) × IsAskable before address × IsReadAt answers address d × IsOfFeed feed d
    × Walks answers (before ++ address ∷ []) (feed_after feed d) d.prev asked documents ending

-- a walk from an address on
abbrev pub WalksFrom : (List ℕ → Option (List ℕ)) → List ℕ → List (List ℕ) → List DocumentValue → Ending → Type 0
WalksFrom answers from asked documents ending = Walks answers [] None (Some from) asked documents ending

-- the result of a walk to its end: the number of documents, their live entries, and the end
pub record IsForeign (documents : List DocumentValue) (ending : Ending) (foreign : Foreign) : Type 0 where
  pub docs : foreign.docs ≡ length documents
  pub live : IsForeignLive documents foreign.live.items
  pub end : ending ≡ over foreign.end

-- the fault of a source, as a walk returns it
abbrev pub get_fault : GetFault → ForeignFault
get_fault got.Failed = FetchFault
get_fault got.NoMemory = NoMemory

-- the result of a walk
abbrev pub IsWalkResult : List DocumentValue → Ending → Result Foreign ForeignFault → Type 0
IsWalkResult documents ending (Ok foreign) = IsForeign documents ending foreign
IsWalkResult documents ending (Err FetchFault) = ending ≡ fetch_failed
IsWalkResult documents ending (Err NoMemory) = ending ≡ cut_short

-- a walk over a source: the addresses that it was asked, and the result
pub record HasWalked (before after : FetchState) (from : List ℕ) (given : Result Foreign ForeignFault) : Type 0 where
  pub asked : List (List ℕ)
  pub documents : List DocumentValue
  pub ending : Ending
  pub walks : WalksFrom before.answers from asked documents ending
  pub addresses : after.asked ≡ before.asked ++ asked
  pub result : IsWalkResult documents ending given
