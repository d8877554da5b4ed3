-- The outcomes of a request in a session, with the feed's pages or without them.
use Rattle.std.specs.Prelude.{◌≡◌, ℕ, Option, Some, None, Bool, true, false}
use Rattle.document_server.specs.Reply.{IsOutcome, Outcome, unchanged}
use Rattle.feed_recovery.specs.Store.{StoreValue}
use Rattle.http_face.specs.Request.{RequestValue}
use Rattle.http_face.specs.declared.reply.Reply.{Reply}
use Rattle.service_face.specs.Reply.{service_reply}

-- how a session answers: the outcomes of a request on a store at a moment of the clock
abbrev pub Answering : Type 1
Answering = StoreValue → RequestValue → ℕ → Outcome → Type 0

-- the reply to a request of the service document or of the listing, in a session that serves them
abbrev pub paged : Bool → StoreValue → RequestValue → Option Reply
paged false store request = None
paged true store request = service_reply store request

-- the reply of a page, which leaves the store as it is; or an outcome of a request that names no page
abbrev pub IsPageOr : Option Reply → (Outcome → Type 0) → Outcome → Type 0
IsPageOr (Some reply) outcomes given = given ≡ unchanged reply
IsPageOr None outcomes given = outcomes given

-- the answers of a session, which serves the service document and the listing if `service`
abbrev pub answers_of : Bool → StoreValue → RequestValue → ℕ → Outcome → Type 0
answers_of service store request now given =
    IsPageOr (paged service store request) (IsOutcome store request now) given
