-- The life after the steps of an offer.
use Rattle.std.proofs.Common.{◌≡◌, ◌≢◌, inl, inr, ℕ, zero, suc, ◌%◌, ◌<◌, List, [], ◌∷◌, ◌++◌, Bool, true, false}
use Rattle.std.proofs.Common.{Option, Some, None, length-append, map}
use Rattle.std.proofs.Common.{length, take, refl, sym, ap, subst, ◌∙◌, arith}
use Rattle.std.specs.Prelude.{if◌then◌else◌, slice_get}
use Rattle.std.specs.List.{AllZip}
use Rattle.std.proofs.Math.Seq.{take-length}
use Rattle.std.proofs.lemmas.Bool.Decides.{nat_tests}
use Rattle.std.proofs.lemmas.List.{append-nil}
use Rattle.atom_values.specs.Counts.{counted}
use Rattle.atom_writer.specs.Pieces.{text}
use Rattle.chain_links.specs.Address.{printed}
use Rattle.chain_links.specs.declared.address.Address.{Address}
use Rattle.chain_links.specs.declared.address.Address.TheVariants.{Feed}
use Rattle.document_server.specs.Answer.{added}
use Rattle.document_server.specs.Reply.{IsOutcome, Outcome, unchanged}
use Rattle.document_server.specs.declared.line.Line.{Line}
use Rattle.feed_disk.specs.Memory.{MemoryValue}
use Rattle.feed_drill.specs.Drilled.{sent_doc}
use Rattle.feed_drill.specs.Effects.{IsFed, IsOffered, IsShownFeed, offer_stops_after}
use Rattle.feed_drill.specs.Events.{Goes, moment_of}
use Rattle.feed_drill.specs.Requests.{feed_request, has_offer_crash, offer_crash, offer_crashes}
use Rattle.feed_drill.specs.Turn.{clock_at}
use Rattle.feed_drill.proofs.OutcomeLemmas.{Comes, feed-shown}
use Rattle.feed_drill.proofs.PathLemmas.{goes-append, step-goes}
use Rattle.feed_life.specs.Asks.{Sends, docs_of}
use Rattle.feed_life.specs.Events.{IsStep, StepsAsk, StepsGift, with_stop}
use Rattle.feed_life.specs.Life.{IsMirrorOf, LifeValue, Lives}
use Rattle.feed_life.specs.declared.event.Event.{Event}
use Rattle.feed_life.specs.declared.event.Event.TheVariants.{Ask as AskEvent, Give}
use Rattle.feed_life.specs.declared.event.Stop.{Stop}
use Rattle.feed_life.specs.declared.sent.SentDoc.{SentDoc}
use Rattle.http_face.specs.Reply.{body_text, document_reply}
use Rattle.http_face.specs.Request.{RequestValue}
use Rattle.http_face.specs.declared.reply.Media.TheVariants as media
use Rattle.http_face.specs.declared.reply.Reply.{Reply}
use Rattle.member_rules.specs.Documents.{subscription}
use Rattle.member_rules.specs.Head.{HeadValue}
use Rattle.member_rules.specs.declared.operation.Op.{Op}
use Rattle.mirror_walk.specs.Holding.{KeptValue}

-- Requests for the feed's document

module _ (head : HeadValue) (now : ℕ) (history later : List Op) (reply : Reply)
    (comes : Comes head (feed_request head.name.base) now history later reply) where
  abbrev shown : HeadValue → List Op → Outcome
  shown h l = unchanged (document_reply media.Feed (text (subscription h l)))

  outcome-is : comes.outcome ≡ shown head history
  outcome-is =
      feed-shown comes.store now comes.outcome
      (subst (λ (h : HeadValue). IsOutcome comes.store (feed_request h.name.base) now comes.outcome)
      (sym comes.same_head) comes.is_outcome)
      ∙ ap (λ (h : HeadValue). shown h comes.store.history) comes.same_head
      ∙ ap (shown head) comes.same_history

  pub shown-later : later ≡ history
  shown-later =
      comes.history_is ∙ ap (λ (o : Outcome). history ++ added o.adds) outcome-is ∙ append-nil history

  reply-is : reply ≡ document_reply media.Feed (text (subscription head history))
  reply-is = comes.reply_is ∙ ap (λ (o : Outcome). o.reply) outcome-is

  same-doc : (bytes other : List ℕ) (version number : ℕ) → bytes ≡ other → version ≡ number
      → ◌≡◌ {A = SentDoc} (record { address = printed head.name.base Feed; bytes = bytes; version = version })
      (record { address = printed head.name.base Feed; bytes = other; version = number })
  same-doc bytes other version number e f =
      ap (λ (b : List ℕ). record { address = printed head.name.base Feed; bytes = b; version = version }) e
      ∙ ap (λ (n : ℕ). record { address = printed head.name.base Feed; bytes = other; version = n }) f

  target-is : (feed_request head.name.base).target ≡ printed head.name.base Feed
  unfolding feed_request
  target-is = refl

  pub shown-sends : (gained : Option SentDoc)
      → Sends head.name.base (feed_request head.name.base) reply (length later) gained
      → docs_of gained ≡ sent_doc head history (length history) ∷ []
  shown-sends None sends = absurd (sends (ap (λ (r : Reply). r.media) reply-is))
  shown-sends (Some doc) sends =
      let address : Feed ≡ sends.address = sends.only Feed tt (inl target-is) in
      let whole : text (subscription head history) ≡ text (subscription head (take (length history) history))
      = ap (λ (l : List Op). text (subscription head l)) (sym (take-length history)) in
      let doc_is : doc ≡ sent_doc head history (length history)
      = sends.is
      ∙ ap (λ (a : Address). record {
        address = printed head.name.base a;
        bytes = body_text reply.body;
        version = length later;
      }) (sym address)
      ∙ same-doc (body_text reply.body) (text (subscription head (take (length history) history))) (length later)
      (length history) (ap (λ (r : Reply). body_text r.body) reply-is ∙ whole) (ap length shown-later) in
      ap (λ (d : SentDoc). d ∷ []) doc_is

shows-feed : (old new : LifeValue) (now : ℕ) (history : List Op) (held : List (List KeptValue)) (line : Option Line)
    → IsStep old new (AskEvent (feed_request old.head.name.base) now None) history held line
    → IsShownFeed old new now history held
shows-feed old new now history held line step =
    let steps : StepsAsk old new (feed_request old.head.name.base) now history step.later held step.left line
    = step.steps in
    let asked = steps.asked in
    let replied = asked.replied in
    let comes : Comes old.head (feed_request old.head.name.base) now history asked.later asked.reply = record {
      store = replied.store;
      same_head = replied.loaded.head_is;
      same_history = replied.loaded.history_is;
      outcome = replied.outcome;
      is_outcome = replied.is_outcome;
      history_is = replied.history_is;
      reply_is = replied.reply_is;
    } in
    let same = shown-later old.head now history asked.later asked.reply comes in
    let docs = shown-sends old.head now history asked.later asked.reply comes asked.gained asked.sends in
    let sent : new.sent ≡ old.sent ++ sent_doc old.head history (length history) ∷ []
    = asked.sent ∙ ap (λ (d : List SentDoc). old.sent ++ d) docs in
    record {
      lives = subst (λ (l : List Op). Lives new l held) same asked.lives;
      rest = steps.stays ∙ ap (λ (d : List SentDoc). record old {
        disk = new.disk;
        sent = d;
        version = new.version;
        sealed = new.sealed;
      }) sent;
      goes = step-goes old new (AskEvent (feed_request old.head.name.base) now None) history held line step history held
          (sym same ∙ sym steps.history_is) (sym steps.held_is);
    }

pub show-done : (old new : LifeValue) (head : HeadValue) (request : RequestValue) (now moment : ℕ) (history : List Op)
    (held : List (List KeptValue)) (line : Option Line) → request ≡ feed_request head.name.base → now ≡ moment
    → old.head ≡ head → IsStep old new (AskEvent request now None) history held line
    → IsShownFeed old new moment history held
show-done old new head request now moment history held line is when same step =
    shows-feed old new moment history held line
    (subst (λ (n : ℕ). IsStep old new (AskEvent (feed_request old.head.name.base) n None) history held line) when
    (subst (λ (r : RequestValue). IsStep old new (AskEvent r now None) history held line)
    (is ∙ ap (λ (h : HeadValue). feed_request h.name.base) (sym same)) step))

-- Offers

get-inside : {A : Type 0} (list : List A) (place : ℕ) → place < length list
    → (item : A) × (slice_get list place ≡ Some item)
get-inside [] place inside = absurd (omega (arith, inside))
get-inside (first ∷ rest) zero inside = (first, refl)
get-inside (first ∷ rest) (suc place) inside = get-inside rest place (omega (arith, inside))

pub one-mirror : (head : HeadValue) (history : List Op) (disks : List MemoryValue) (kept : List KeptValue)
    → AllZip (IsMirrorOf head history) disks (kept ∷ []) → length disks ≡ 1
one-mirror head history [] kept all = absurd all
one-mirror head history (disk ∷ []) kept all = refl
one-mirror head history (disk ∷ other ∷ disks) kept all = absurd all.1

gift-done : (old new : LifeValue) (history : List Op) (kept : List KeptValue) (sent : ℕ) (stop : Option Stop)
    (doc : SentDoc) (line : Option Line) → Lives old history (kept ∷ [])
    → (step : IsStep old new (Give 0 sent stop) history (kept ∷ []) line)
    → StepsGift old new history step.later (kept ∷ []) step.left 0 stop (Some doc)
    → IsOffered old new history kept (with_stop stop old.mirror_stops) (Give 0 sent stop ∷ [])
gift-done old new history kept sent stop doc line lives step (inl (few, nothing)) =
    let one = one-mirror old.head history old.mirrors kept lives.mirrors in absurd (omega (arith, one, few))
gift-done old new history kept sent stop doc line lives step (inr steps) = record {
  kept = steps.changed.after;
  lives = subst (λ (h : List (List KeptValue)). Lives new history h) steps.changed.left_is
      (subst (λ (l : List Op). Lives new l step.left) steps.history_is step.lives);
  rest = steps.stays;
  goes = step-goes old new (Give 0 sent stop) history (kept ∷ []) line step history (steps.changed.after ∷ [])
      (sym steps.history_is) (sym steps.changed.left_is);
}

pub offer-done : (old new : LifeValue) (history : List Op) (kept : List KeptValue) (sent : ℕ) (stop : Option Stop)
    (line : Option Line) → Lives old history (kept ∷ []) → sent < length old.sent
    → IsStep old new (Give 0 sent stop) history (kept ∷ []) line
    → IsOffered old new history kept (with_stop stop old.mirror_stops) (Give 0 sent stop ∷ [])
offer-done old new history kept sent stop line lives inside step =
    let doc = get-inside old.sent sent inside in
    gift-done old new history kept sent stop doc.0 line lives step
    (subst (λ (found : Option SentDoc). StepsGift old new history step.later (kept ∷ []) step.left 0 stop found) doc.1
    step.steps.1)

-- an offer with a crash, and again
pub offer-twice : (old between new : LifeValue) (history : List Op) (held : List KeptValue) (stops : ℕ)
    (first second : Event) (one : IsOffered old between history held stops (first ∷ []))
    → IsOffered between new history one.kept between.mirror_stops (second ∷ [])
    → IsOffered old new history held stops (first ∷ second ∷ [])
offer-twice old between new history held stops first second one other = record {
  kept = other.kept;
  lives = other.lives;
  rest = other.rest ∙ ap (λ (n : ℕ). record between {
    disk = new.disk;
    mirrors = new.mirrors;
    mirror_stops = n;
  }) (ap (λ (l : LifeValue). l.mirror_stops) one.rest)
      ∙ ap (λ (l : LifeValue). record l { disk = new.disk; mirrors = new.mirrors; mirror_stops = stops }) one.rest;
  goes = goes-append (moment_of old history (held ∷ [])) (moment_of between history (one.kept ∷ []))
      (moment_of new history (other.kept ∷ [])) (first ∷ []) (second ∷ []) one.goes other.goes;
}

pub same-sent : (old between : LifeValue) (history : List Op) (held : List KeptValue) (stops : ℕ) (events : List Event)
    (sent : ℕ) → IsOffered old between history held stops events → sent < length old.sent
    → sent < length between.sent
same-sent old between history held stops events sent one inside =
    subst (λ (l : List SentDoc). sent < length l) (sym (ap (λ (l : LifeValue). l.sent) one.rest)) inside

-- the document that was sent last is offered
module _ (old between new : LifeValue) (turn : ℕ) (history : List Op) (held : List KeptValue) (sent : ℕ)
    (shown : IsShownFeed old between (clock_at turn) history (held ∷ [])) (last : suc sent ≡ length between.sent) where
  sent-is : sent ≡ length old.sent
  sent-is =
      let more = ap (λ (l : LifeValue). length l.sent) shown.rest
      ∙ length-append old.sent (sent_doc old.head history (length history) ∷ []) in
      omega (arith, last, more)

  pub last-inside : sent < length between.sent
  last-inside = omega (arith, last)

  abbrev gifts : ℕ → List Event
  gifts number = map (λ (crash : Option Stop). Give 0 number crash) (offer_crashes turn)

  fed-by : (stops : ℕ) (events : List Event) → events ≡ gifts sent → stops ≡ offer_stops_after turn old.mirror_stops
      → IsOffered between new history held stops events → IsFed old new turn history held
  fed-by stops events are counts offered =
      let version_is : between.version ≡ new.version = sym (ap (λ (l : LifeValue). l.version) offered.rest) in
      let sealed_is : between.sealed ≡ new.sealed = sym (ap (λ (l : LifeValue). l.sealed) offered.rest) in
      let docs : List SentDoc = old.sent ++ sent_doc old.head history (length history) ∷ [] in
      record {
        kept = offered.kept;
        lives = offered.lives;
        rest = offered.rest ∙ ap (λ (l : LifeValue). record l {
          disk = new.disk;
          mirrors = new.mirrors;
          mirror_stops = stops;
        }) shown.rest
            ∙ ap (λ (n : ℕ). record old {
              disk = new.disk;
              mirrors = new.mirrors;
              version = n;
              sealed = between.sealed;
              sent = docs;
              mirror_stops = stops;
            }) version_is
            ∙ ap (λ (n : ℕ). record old {
              disk = new.disk;
              mirrors = new.mirrors;
              version = new.version;
              sealed = n;
              sent = docs;
              mirror_stops = stops;
            }) sealed_is
            ∙ ap (λ (n : ℕ). record old {
              disk = new.disk;
              mirrors = new.mirrors;
              version = new.version;
              sealed = new.sealed;
              sent = docs;
              mirror_stops = n;
            }) counts;
        goes = goes-append (moment_of old history (held ∷ [])) (moment_of between history (held ∷ []))
            (moment_of new history (offered.kept ∷ []))
            (AskEvent (feed_request old.head.name.base) (clock_at turn) None ∷ []) (gifts (length old.sent)) shown.goes
            (subst (λ (l : List Event). Goes (moment_of between history (held ∷ [])) l
            (moment_of new history (offered.kept ∷ []))) (are ∙ ap gifts sent-is) offered.goes);
      }

  same-stops : between.mirror_stops ≡ old.mirror_stops
  same-stops = ap (λ (l : LifeValue). l.mirror_stops) shown.rest

  -- an offer with a crash
  pub fed-again : turn % 15 ≡ 0
      → IsOffered between new history held (counted between.mirror_stops)
      (Give 0 sent (Some offer_crash) ∷ Give 0 sent None ∷ []) → IsFed old new turn history held
  fed-again fifteenth offered =
      let test : has_offer_crash turn ≡ true = grind (arith, nat_tests) in
      fed-by (counted between.mirror_stops) (Give 0 sent (Some offer_crash) ∷ Give 0 sent None ∷ [])
      (ap (λ (b : Bool). map (λ (crash : Option Stop). Give 0 sent crash) (if b then Some offer_crash ∷ None ∷ []
      else None ∷ [])) (sym test))
      (ap counted same-stops ∙ ap (λ (b : Bool). if b then counted old.mirror_stops else old.mirror_stops) (sym test))
      offered

  pub fed-once : turn % 15 ≢ 0 → IsOffered between new history held between.mirror_stops (Give 0 sent None ∷ [])
      → IsFed old new turn history held
  fed-once other offered =
      let test : has_offer_crash turn ≡ false = grind (arith, nat_tests) in
      fed-by between.mirror_stops (Give 0 sent None ∷ [])
      (ap (λ (b : Bool). map (λ (crash : Option Stop). Give 0 sent crash) (if b then Some offer_crash ∷ None ∷ []
      else None ∷ [])) (sym test))
      (same-stops ∙ ap (λ (b : Bool). if b then counted old.mirror_stops else old.mirror_stops) (sym test))
      offered
