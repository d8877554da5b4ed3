-- The requests of a drill's turns, and how often each request and each offer is made.
use Rattle.std.specs.Prelude.{ℕ, ◌%◌, ◌==◌, List, [], ◌∷◌, ◌++◌, Bool, true, false, if◌then◌else◌, Option, Some, None}
use Rattle.std.specs.Prelude.{codes}
use Rattle.chain_links.specs.Address.{printed}
use Rattle.chain_links.specs.declared.address.Address.TheVariants.{Feed, Member}
use Rattle.feed_disk.specs.declared.choice.Choice.TheVariants.{Old}
use Rattle.feed_drill.specs.Turn.{title_of}
use Rattle.feed_life.specs.declared.event.Stop.{Stop}
use Rattle.http_face.specs.Request.{RequestValue}
use Rattle.http_face.specs.declared.request.Verb.TheVariants.{Get, Post, Put, Delete}
use Rattle.member_rules.specs.declared.ask.Ask.{Ask}
use Rattle.member_rules.specs.declared.ask.Ask.TheVariants as ask

abbrev pub entry_media : List ℕ
entry_media = codes "application/atom+xml;type=entry"

-- an entry document that has a title and nothing else
unfoldable pub entry_body : ℕ → List ℕ
entry_body turn =
    codes "<entry xmlns=\"http://www.w3.org/2005/Atom\"><title>" ++ title_of turn ++ codes "</title></entry>"

-- the request for the feed's document
unfoldable pub feed_request : List ℕ → RequestValue
feed_request base = record { verb = Get; target = printed base Feed; media = None; body = [] }

-- the request for what a turn asks, below a base address; no turn asks for a setting, for which there is no request
unfoldable pub request_of : List ℕ → ℕ → Ask → RequestValue
request_of base turn (ask.Create draft) = record {
  verb = Post;
  target = printed base Feed;
  media = Some entry_media;
  body = entry_body turn;
}
request_of base turn (ask.Replace number draft) = record {
  verb = Put;
  target = printed base (Member number);
  media = Some entry_media;
  body = entry_body turn;
}
request_of base turn (ask.Delete number) = record {
  verb = Delete;
  target = printed base (Member number);
  media = None;
  body = [];
}
request_of base turn (ask.Change setting) = feed_request base

-- A request whose crash left the history without its operation is made again without a crash. `kept` says whether the
-- operation outlived the crash.
abbrev pub request_again : Option Stop → Bool → List (Option Stop)
request_again None kept = []
request_again (Some crash) true = []
request_again (Some crash) false = None ∷ []

-- the crashes of a turn's requests, in order
abbrev pub request_crashes : Option Stop → Bool → List (Option Stop)
request_crashes crash kept = crash ∷ request_again crash kept

-- each third offer has a crash within its first device call
abbrev pub has_offer_crash : ℕ → Bool
has_offer_crash turn = turn % 15 == 0

abbrev pub offer_crash : Stop
offer_crash = record { call = 1; choice = Old }

-- the crashes of a turn's offers, in order; an offer with a crash is made again
abbrev pub offer_crashes : ℕ → List (Option Stop)
offer_crashes turn = if has_offer_crash turn then Some offer_crash ∷ None ∷ [] else None ∷ []
