-- 500 `changed` is the reply to a GET of a document that is read from the disk, and to no other request.
use Rattle.std.proofs.Common.{◌≡◌, ◌≢◌, inl, inr, refl, sym, ap, ◌∙◌, ℕ, List}
use Rattle.atom_values.specs.Entry.{DraftValue}
use Rattle.chain_links.specs.declared.address.Address.{Address as FeedAddress}
use Rattle.chain_links.specs.declared.address.Address.TheVariants as address
use Rattle.entry_reader.specs.declared.fault.Why.{Why}
use Rattle.entry_reader.specs.declared.fault.Why.TheVariants as why
use Rattle.feed_recovery.specs.Store.{StoreValue}
use Rattle.http_face.specs.Reply.{disk_changed}
use Rattle.http_face.specs.Request.{RequestValue}
use Rattle.http_face.specs.declared.reply.Body.TheVariants.{Made, Fixed}
use Rattle.http_face.specs.declared.reply.Line7.TheVariants as line
use Rattle.http_face.specs.declared.reply.Media.{Media}
use Rattle.http_face.specs.declared.reply.Reply.{Reply}
use Rattle.http_face.specs.declared.request.Verb.{Verb}
use Rattle.http_face.specs.declared.request.Verb.TheVariants as verb
use Rattle.document_server.specs.Answer.{IsAnswer}
use Rattle.document_server.specs.Reply.{IsAccepted, IsAsked, IsAtAddressAs, IsMemberShownOver, IsOfArchiveOver}
use Rattle.document_server.specs.Reply.{IsOfFeed, IsOfMemberOver, IsOfState, IsOutcomeOver, IsRead, IsSent, IsShownFrom}
use Rattle.document_server.specs.Reply.{Outcome, done_reply, entry_refusal, rule_reply, shown_over}
use Rattle.document_server.specs.Reply.{unchanged}
use Rattle.member_rules.specs.Fold.{state_of}
use Rattle.member_rules.specs.declared.ask.Ask.{Ask}
use Rattle.member_rules.specs.declared.ask.Ask.TheVariants.{Create, Replace, Delete}
use Rattle.member_rules.specs.declared.fault.RuleFault.{RuleFault}
use Rattle.member_rules.specs.declared.fault.RuleFault.TheVariants as rule
use Rattle.member_rules.specs.declared.operation.Op.{Op}
use Rattle.member_rules.specs.declared.operation.Op.TheVariants as op
use Rattle.member_rules.specs.declared.state.State.{State}
use Rattle.member_rules.specs.declared.state.State.TheVariants as member

-- the reply isn't `changed`
abbrev IsOther : Reply → Type 0
IsOther reply = reply.body ≢ Fixed line.Changed

made-other : (bytes : List ℕ) → Made bytes ≢ Fixed line.Changed
made-other bytes is = cc

of-other : (given : Outcome) (reply : Reply) → IsOther reply → given ≡ unchanged reply → IsOther given.reply
of-other given reply other is = λ changed. other (ap (λ (g : Outcome). g.reply.body) (sym is) ∙ changed)

-- the other fixed lines
not-found-other : Fixed line.NotFound ≢ Fixed line.Changed
not-found-other is = cc

other-id-other : Fixed line.OtherId ≢ Fixed line.Changed
other-id-other is = cc

clock-other : Fixed line.Clock ≢ Fixed line.Changed
clock-other is = cc

too-large-other : Fixed line.EntryTooLarge ≢ Fixed line.Changed
too-large-other is = cc

no-memory-other : Fixed line.NoMemory ≢ Fixed line.Changed
no-memory-other is = cc

gone-other : Fixed line.Gone ≢ Fixed line.Changed
gone-other is = cc

draft-other : Fixed line.Draft ≢ Fixed line.Changed
draft-other is = cc

deleted-other : Fixed line.Deleted ≢ Fixed line.Changed
deleted-other is = cc

not-entry-other : Fixed line.NotEntryType ≢ Fixed line.Changed
not-entry-other is = cc

not-allowed-other : Fixed line.NotAllowed ≢ Fixed line.Changed
not-allowed-other is = cc

not-implemented-other : Fixed line.NotImplemented ≢ Fixed line.Changed
not-implemented-other is = cc

rule-other : (fault : RuleFault) → IsOther (rule_reply fault)
rule-other (rule.NotFound number) = not-found-other
rule-other (rule.Deleted number when) = gone-other
rule-other (rule.OtherId number given) = other-id-other
rule-other (rule.ClockSpent last now) = clock-other
rule-other (rule.TooLarge length) = too-large-other
rule-other rule.NoMemory = no-memory-other

refusal-other : (at : ℕ) (reason : Why) → IsOther (entry_refusal at reason)
refusal-other at why.NotUtf8 = made-other _
refusal-other at why.Doctype = made-other _
refusal-other at why.NotWellFormed = made-other _
refusal-other at why.TooDeep = made-other _
refusal-other at why.NotAnEntry = made-other _
refusal-other at why.Xhtml = made-other _
refusal-other at why.OutOfLine = made-other _
refusal-other at why.Draft = draft-other
refusal-other at why.Missing = made-other _
refusal-other at why.Twice = made-other _
refusal-other at why.BadDate = made-other _
refusal-other at why.TooMany = made-other _

module _ (store : StoreValue) where
  done-other : (operation : Op) → IsOther (done_reply store.head.name operation)
  done-other (op.Add entry) = made-other _
  done-other (op.Change entry) = made-other _
  done-other (op.Remove removal) = deleted-other
  done-other (op.Set setting moment) = made-other _

  accepted-other : (operation : Op) (given : Outcome) → IsAccepted store operation given → IsOther given.reply
  accepted-other operation given (inl (area, size, needed, capacity, full, is)) = of-other given _ (made-other _) is
  accepted-other operation given (inr (room, is)) =
      λ changed. done-other operation (ap (λ (g : Outcome). g.reply.body) (sym is) ∙ changed)

  asked-other : (ask : Ask) (now : ℕ) (given : Outcome) → IsAsked store ask now given → IsOther given.reply
  asked-other ask now given (inl (fault, decided, is)) = of-other given _ (rule-other fault) is
  asked-other ask now given (inr (operation, decided, accepted)) = accepted-other operation given accepted

  read-other : (body : List ℕ) (asked : DraftValue → Ask) (now : ℕ) (given : Outcome)
      → IsRead store body asked now given → IsOther given.reply
  read-other body asked now given (inl (at, reason, refused, is)) = of-other given _ (refusal-other at reason) is
  read-other body asked now given (inr (draft, is_draft, spells, is)) = asked-other (asked draft) now given is

  sent-other : (request : RequestValue) (asked : DraftValue → Ask) (now : ℕ) (given : Outcome)
      → IsSent store request asked now given → IsOther given.reply
  sent-other request asked now given (inl (kind, is)) = of-other given _ not-entry-other is
  sent-other request asked now given (inr (kind, is)) = read-other request.body asked now given is

  state-other : (state : State) (live : Outcome → Type 0) (given : Outcome) → (live given → IsOther given.reply)
      → IsOfState state live given → IsOther given.reply
  state-other member.Never live given other is = of-other given _ not-found-other is
  state-other (member.Gone when) live given other is = of-other given _ gone-other is
  state-other (member.Live updated version) live given other is = other is

  module _ (observable : Type 0) where
    -- a document that a read gave isn't `changed`, so the content isn't seen
    shown-unobservable : (kind : Media) (IsGiven : List ℕ → Type 0) (given : Outcome)
        → given.reply.body ≡ Fixed line.Changed → IsShownFrom observable kind IsGiven given → ¬ observable
    shown-unobservable kind IsGiven given changed (inl (written, read, is)) =
        absurd (of-other given _ (made-other _) is changed)
    shown-unobservable kind IsGiven given changed (inr (unobservable, is)) = unobservable

    state-unobservable : (state : State) (number : ℕ) (given : Outcome) → given.reply.body ≡ Fixed line.Changed
        → IsOfState state (IsMemberShownOver observable store number) given → ¬ observable
    state-unobservable member.Never number given changed is = absurd (of-other given _ not-found-other is changed)
    state-unobservable (member.Gone when) number given changed is = absurd (of-other given _ gone-other is changed)
    state-unobservable (member.Live updated version) number given changed is = shown-unobservable _ _ given changed is

    feed-other : (request : RequestValue) (now : ℕ) (method : Verb) (given : Outcome)
        → IsOfFeed store request now method given → IsOther given.reply
    feed-other request now verb.Get given is = of-other given _ (made-other _) is
    feed-other request now verb.Post given is = sent-other request (λ draft. Create draft) now given is
    feed-other request now verb.Head given is = of-other given _ not-allowed-other is
    feed-other request now verb.Put given is = of-other given _ not-allowed-other is
    feed-other request now verb.Delete given is = of-other given _ not-allowed-other is
    feed-other request now verb.Options given is = of-other given _ not-allowed-other is
    feed-other request now verb.Patch given is = of-other given _ not-allowed-other is
    feed-other request now verb.Other given is = of-other given _ not-allowed-other is

    archive-get : (number : ℕ) (method : Verb) (given : Outcome) → given.reply.body ≡ Fixed line.Changed
        → IsOfArchiveOver observable store number method given → (method ≡ verb.Get) × (¬ observable)
    archive-get number verb.Get given changed (inl (sealed, is)) = (refl, shown-unobservable _ _ given changed is)
    archive-get number verb.Get given changed (inr (unsealed, is)) =
        absurd (of-other given _ not-found-other is changed)
    archive-get number verb.Head given changed is = absurd (of-other given _ not-allowed-other is changed)
    archive-get number verb.Post given changed is = absurd (of-other given _ not-allowed-other is changed)
    archive-get number verb.Put given changed is = absurd (of-other given _ not-allowed-other is changed)
    archive-get number verb.Delete given changed is = absurd (of-other given _ not-allowed-other is changed)
    archive-get number verb.Options given changed is = absurd (of-other given _ not-allowed-other is changed)
    archive-get number verb.Patch given changed is = absurd (of-other given _ not-allowed-other is changed)
    archive-get number verb.Other given changed is = absurd (of-other given _ not-allowed-other is changed)

    member-get : (request : RequestValue) (now number : ℕ) (method : Verb) (given : Outcome)
        → given.reply.body ≡ Fixed line.Changed → IsOfMemberOver observable store request now number method given
        → (method ≡ verb.Get) × (¬ observable)
    member-get request now number verb.Get given changed is =
        (refl, state-unobservable (state_of store.history number) number given changed is)
    member-get request now number verb.Put given changed is =
        absurd (state-other (state_of store.history number) (IsSent store request (λ draft. Replace number draft) now)
        given (sent-other request (λ draft. Replace number draft) now given) is changed)
    member-get request now number verb.Delete given changed is =
        absurd (state-other (state_of store.history number) (IsAsked store (Delete number) now) given
        (asked-other (Delete number) now given) is changed)
    member-get request now number verb.Head given changed is =
        absurd (of-other given _ not-allowed-other is changed)
    member-get request now number verb.Post given changed is =
        absurd (of-other given _ not-allowed-other is changed)
    member-get request now number verb.Options given changed is =
        absurd (of-other given _ not-allowed-other is changed)
    member-get request now number verb.Patch given changed is =
        absurd (of-other given _ not-allowed-other is changed)
    member-get request now number verb.Other given changed is =
        absurd (of-other given _ not-allowed-other is changed)

    at-get : (request : RequestValue) (now : ℕ) (named : FeedAddress) (given : Outcome)
        → given.reply.body ≡ Fixed line.Changed → IsAtAddressAs (shown_over observable store) store request now named given
        → (request.verb ≡ verb.Get) × (¬ observable)
    at-get request now address.Feed given changed is = absurd (feed-other request now request.verb given is changed)
    at-get request now (address.Archive number) given changed is = archive-get number request.verb given changed is
    at-get request now (address.Member number) given changed is =
        member-get request now number request.verb given changed is

    outcome-get : (request : RequestValue) (now : ℕ) (given : Outcome) → given.reply.body ≡ Fixed line.Changed
        → IsOutcomeOver observable store request now given → (request.verb ≡ verb.Get) × (¬ observable)
    outcome-get request now given changed (inl (method, is)) =
        absurd (of-other given _ not-implemented-other is changed)
    outcome-get request now given changed (inr (method, inl (none, is))) =
        absurd (of-other given _ not-found-other is changed)
    outcome-get request now given changed (inr (method, inr (named, is_address, target, at))) =
        at-get request now named given changed at

    pub changed-get : (request : RequestValue) (now : ℕ) (new : StoreValue) (reply : Reply) (failed : Type 0)
        → IsAnswer (IsOutcomeOver observable store request now) store new reply failed → reply ≡ disk_changed
        → (request.verb ≡ verb.Get) × (¬ observable)
    changed-get request now new reply failed (inl replied) is =
        outcome-get request now replied.given
        (ap (λ (r : Reply). r.body) (sym replied.reply_is) ∙ ap (λ (r : Reply). r.body) is) replied.is_one
    changed-get request now new reply failed (inr (inl (none, gains))) is =
        absurd (no-memory-other (ap (λ (r : Reply). r.body) (sym none) ∙ ap (λ (r : Reply). r.body) is))
    changed-get request now new reply failed (inr (inr (fault, rose, stays, spent))) is =
        absurd (disk-other (ap (λ (r : Reply). r.body) (sym fault) ∙ ap (λ (r : Reply). r.body) is))
      where
        disk-other : Fixed line.Disk ≢ Fixed line.Changed
        disk-other clash = cc
