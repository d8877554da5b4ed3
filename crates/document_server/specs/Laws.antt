-- Laws that the crates above cite. Each is the contract of a function of laws.rt.
use Rattle.std.specs.Prelude.{◌≡◌, ℕ, List, Bool}
use Rattle.chain_links.specs.Address.{IsAddress, IsTarget, printed}
use Rattle.chain_links.specs.declared.address.Address.{Address}
use Rattle.document_server.specs.Reply.{Outcome}
use Rattle.document_server.specs.Served.{Answering, answers_of}
use Rattle.feed_recovery.specs.Store.{StoreValue}
use Rattle.http_face.specs.Reply.{body_text}
use Rattle.http_face.specs.Request.{RequestValue}
use Rattle.http_face.specs.declared.reply.Media.TheVariants.{Feed}
use Rattle.http_face.specs.declared.reply.Reply.{Reply}
use Rattle.member_rules.specs.Head.{IsHead}
use Rattle.member_rules.specs.History.{IsLawful}
use Rattle.member_rules.specs.Served.{Served}

-- the body of the reply is what the feed serves at the address that the request names
pub record IsServedReply (store : StoreValue) (request : RequestValue) (reply : Reply) : Type 0 where
  pub address : Address
  pub named : IsTarget store.head.name.base address request.target
  pub served : Served store.head store.history (printed store.head.name.base address) (body_text reply.body)

abbrev pub AreShownServed : Answering → Type 0
AreShownServed answers = (store : StoreValue) (request : RequestValue) (now : ℕ) (given : Outcome)
    → IsHead store.head → IsLawful store.head store.history → answers store request now given
    → given.reply.media ≡ Feed → IsServedReply store request given.reply

abbrev pub ShownAreServed : Type 0
ShownAreServed = (service : Bool) → AreShownServed (answers_of service)

-- the target names one address at most
abbrev pub NamesOneAddress : List ℕ → List ℕ → Type 0
NamesOneAddress base target = (one other : Address) → IsAddress one → IsAddress other → IsTarget base one target
    → IsTarget base other target → one ≡ other

-- a request has one outcome at most, if its target names one address at most
abbrev pub OneOutcome : Type 0
OneOutcome = (service : Bool) (store : StoreValue) (request : RequestValue) (now : ℕ) (one other : Outcome)
    → NamesOneAddress store.head.name.base request.target → answers_of service store request now one
    → answers_of service store request now other → one ≡ other
