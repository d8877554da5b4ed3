-- The laws of a relay. Each is the contract of a function of laws.rt.
use Rattle.std.specs.Prelude.{◌≡◌, ◌≢◌, ℕ, List, [], None, Result, Ok, Err}
use Rattle.feed_relay.specs.Fetch.{relay_answers}
use Rattle.member_rules.specs.Head.{HeadValue}
use Rattle.member_rules.specs.declared.operation.Op.{Op}
use Rattle.mirror_walk.specs.declared.walk.WalkFault.{WalkFault}
use Rattle.mirror_walk.specs.declared.walk.WalkFault.TheVariants.{DiskFault}
use Rattle.mirror_walk.specs.declared.walk.Walked.{Walked}
use Rattle.mirror_walk.specs.Holding.{KeptValue, best_of, first_missing, payloads_of}
use Rattle.mirror_walk.specs.Listing.{live_entries, outcome_of}
use Rattle.mirror_walk.specs.Loaded.{IsLoadedOf}
use Rattle.mirror_walk.specs.Mirror.{MirrorValue}
use Rattle.mirror_walk.specs.Published.{HoldsServed}
use Rattle.mirror_walk.specs.Walk.{HasWalked, IsServedBy, setting_by}

-- a mirror with this base holds these documents
abbrev pub AreHeldBy : List ℕ → List KeptValue → Type 0
AreHeldBy base kept = IsLoadedOf base (payloads_of kept) kept

-- the feed that served all documents held served each that the relay answers with
abbrev pub RelaysAnswerWhatIsServed : Type 0
RelaysAnswerWhatIsServed =
    (head : HeadValue) (history : List Op) (base : List ℕ) (kept : List KeptValue) → AreHeldBy base kept
    → HoldsServed head history kept → IsServedBy head history (relay_answers base kept)

-- A walk of a mirror over a relay that holds these documents: what the mirror holds afterwards, and the result. The
-- addresses asked are those between the two lists.
abbrev pub WalksRelay : List KeptValue → MirrorValue → List KeptValue → List (List ℕ) → List (List ℕ)
    → Result Walked WalkFault → Type 0
WalksRelay relayed mirror now before after given =
    HasWalked (setting_by mirror (relay_answers mirror.base relayed)) mirror.kept now before after given

-- A mirror that holds documents that one feed served, and walks a relay that does, holds such documents alone
-- afterwards. So it may be a relay in turn.
abbrev pub WalksOfRelaysKeepWhatIsServed : Type 0
WalksOfRelaysKeepWhatIsServed =
    (head : HeadValue) (history : List Op) (relayed : List KeptValue) (mirror : MirrorValue) (now : List KeptValue)
    (before after : List (List ℕ)) (given : Result Walked WalkFault) → AreHeldBy mirror.base relayed
    → HoldsServed head history relayed → HoldsServed head history mirror.kept
    → WalksRelay relayed mirror now before after given → given ≢ Err DiskFault → HoldsServed head history now

-- nothing is missing, and the outcome and the live entries are those of these documents
pub record ShowsTheSame (relayed now : List KeptValue) (walked : Walked) : Type 0 where
  pub whole : first_missing now ≡ None
  pub best : best_of now ≡ best_of relayed
  pub refused : walked.refused ≡ None
  pub outcome : walked.outcome ≡ outcome_of relayed
  pub live : live_entries now ≡ live_entries relayed

-- an empty mirror that walks a relay without a missing document shows the same as the relay's mirror
abbrev pub WalksOfRelaysShowTheSame : Type 0
WalksOfRelaysShowTheSame =
    (relayed : List KeptValue) (mirror : MirrorValue) (now : List KeptValue) (before after : List (List ℕ))
    (walked : Walked) → AreHeldBy mirror.base relayed → first_missing relayed ≡ None → mirror.kept ≡ []
    → WalksRelay relayed mirror now before after (Ok walked) → ShowsTheSame relayed now walked
