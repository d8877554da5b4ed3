-- The documents in replies are those that the feed serves.
use Rattle.std.proofs.Common.{◌≡◌, ◌≢◌, inl, inr, refl, sym, ap, ◌∙◌, ℕ, List, length, arith}
use Rattle.std.proofs.Math.Seq.{take-length}
use Rattle.atom_values.specs.Entry.{DraftValue}
use Rattle.atom_writer.specs.Pieces.{text}
use Rattle.chain_links.specs.Address.{IsTarget}
use Rattle.chain_links.specs.declared.address.Address.{Address as FeedAddress}
use Rattle.chain_links.specs.declared.address.Address.TheVariants as address
use Rattle.entry_reader.specs.declared.fault.Why.{Why}
use Rattle.entry_reader.specs.declared.fault.Why.TheVariants as why
use Rattle.feed_recovery.specs.Store.{StoreValue}
use Rattle.http_face.specs.Reply.{body_text}
use Rattle.http_face.specs.Request.{RequestValue}
use Rattle.http_face.specs.declared.reply.Media.TheVariants as media
use Rattle.http_face.specs.declared.reply.Reply.{Reply}
use Rattle.http_face.specs.declared.request.Verb.{Verb}
use Rattle.http_face.specs.declared.request.Verb.TheVariants as verb
use Rattle.document_server.specs.Laws.{IsServedReply}
use Rattle.document_server.specs.Reply.{IsAccepted, IsAsked, IsAtAddress, IsMemberShown, IsOfArchive, IsOfFeed}
use Rattle.document_server.specs.Reply.{IsOfMember, IsOfState, IsOutcome, IsRead, IsSent, Outcome, done_reply}
use Rattle.document_server.specs.Reply.{entry_refusal, rule_reply, unchanged}
use Rattle.member_rules.specs.Documents as documents
use Rattle.member_rules.specs.Fold.{state_of}
use Rattle.member_rules.specs.Head.{IsHead}
use Rattle.member_rules.specs.History.{IsLawful}
use Rattle.member_rules.specs.declared.ask.Ask.{Ask}
use Rattle.member_rules.specs.declared.ask.Ask.TheVariants.{Create, Replace, Delete}
use Rattle.member_rules.specs.declared.fault.RuleFault.{RuleFault}
use Rattle.member_rules.specs.declared.fault.RuleFault.TheVariants as rule
use Rattle.member_rules.specs.declared.operation.Op.{Op}
use Rattle.member_rules.specs.declared.operation.Op.TheVariants as op
use Rattle.member_rules.specs.declared.state.State.{State}
use Rattle.member_rules.specs.declared.state.State.TheVariants as member

-- the reply isn't a feed document
abbrev IsNoFeed : Outcome → Type 0
IsNoFeed given = given.reply.media ≢ media.Feed

plain-feed : media.Plain ≢ media.Feed
plain-feed is = cc

entry-feed : media.Entry ≢ media.Feed
entry-feed is = cc

other-reply : (given : Outcome) (reply : Reply) → reply.media ≢ media.Feed → given ≡ unchanged reply → IsNoFeed given
other-reply given reply other is shown = other (ap (λ (g : Outcome). g.reply.media) (sym is) ∙ shown)

rule-plain : (fault : RuleFault) → (rule_reply fault).media ≢ media.Feed
rule-plain (rule.NotFound number) = plain-feed
rule-plain (rule.Deleted number when) = plain-feed
rule-plain (rule.OtherId number given) = plain-feed
rule-plain (rule.ClockSpent last now) = plain-feed
rule-plain (rule.TooLarge length) = plain-feed
rule-plain rule.NoMemory = plain-feed

refusal-plain : (at : ℕ) (reason : Why) → (entry_refusal at reason).media ≢ media.Feed
refusal-plain at why.NotUtf8 = plain-feed
refusal-plain at why.Doctype = plain-feed
refusal-plain at why.NotWellFormed = plain-feed
refusal-plain at why.TooDeep = plain-feed
refusal-plain at why.NotAnEntry = plain-feed
refusal-plain at why.Xhtml = plain-feed
refusal-plain at why.OutOfLine = plain-feed
refusal-plain at why.Draft = plain-feed
refusal-plain at why.Missing = plain-feed
refusal-plain at why.Twice = plain-feed
refusal-plain at why.BadDate = plain-feed
refusal-plain at why.TooMany = plain-feed

module _ (store : StoreValue) where
  done-other : (operation : Op) → (done_reply store.head.name operation).media ≢ media.Feed
  done-other (op.Add entry) = entry-feed
  done-other (op.Change entry) = entry-feed
  done-other (op.Remove removal) = plain-feed
  done-other (op.Set setting moment) = plain-feed

  accepted-other : (operation : Op) (given : Outcome) → IsAccepted store operation given → IsNoFeed given
  accepted-other operation given (inl (area, size, needed, capacity, full, is)) = other-reply given _ plain-feed is
  accepted-other operation given (inr (room, is)) =
      λ shown. done-other operation (ap (λ (g : Outcome). g.reply.media) (sym is) ∙ shown)

  asked-other : (ask : Ask) (now : ℕ) (given : Outcome) → IsAsked store ask now given → IsNoFeed given
  asked-other ask now given (inl (fault, decided, is)) = other-reply given _ (rule-plain fault) is
  asked-other ask now given (inr (operation, decided, accepted)) = accepted-other operation given accepted

  read-other : (body : List ℕ) (asked : DraftValue → Ask) (now : ℕ) (given : Outcome)
      → IsRead store body asked now given → IsNoFeed given
  read-other body asked now given (inl (at, reason, refused, is)) = other-reply given _ (refusal-plain at reason) is
  read-other body asked now given (inr (draft, is_draft, spells, is)) = asked-other (asked draft) now given is

  sent-other : (request : RequestValue) (asked : DraftValue → Ask) (now : ℕ) (given : Outcome)
      → IsSent store request asked now given → IsNoFeed given
  sent-other request asked now given (inl (kind, is)) = other-reply given _ plain-feed is
  sent-other request asked now given (inr (kind, is)) = read-other request.body asked now given is

  state-other : (state : State) (live : Outcome → Type 0) (given : Outcome) → (live given → IsNoFeed given)
      → IsOfState state live given → IsNoFeed given
  state-other member.Never live given other is = other-reply given _ plain-feed is
  state-other (member.Gone when) live given other is = other-reply given _ plain-feed is
  state-other (member.Live updated version) live given other is = other is

  shown-other : (number : ℕ) (given : Outcome) → IsMemberShown store number given → IsNoFeed given
  shown-other number given (entry, live, is) = other-reply given _ entry-feed is

  member-other : (request : RequestValue) (now number : ℕ) (method : Verb) (given : Outcome)
      → IsOfMember store request now number method given → IsNoFeed given
  member-other request now number verb.Get given is =
      state-other (state_of store.history number) (IsMemberShown store number) given (shown-other number given) is
  member-other request now number verb.Put given is =
      state-other (state_of store.history number) (IsSent store request (λ draft. Replace number draft) now) given
      (sent-other request (λ draft. Replace number draft) now given) is
  member-other request now number verb.Delete given is =
      state-other (state_of store.history number) (IsAsked store (Delete number) now) given
      (asked-other (Delete number) now given) is
  member-other request now number verb.Head given is = other-reply given _ plain-feed is
  member-other request now number verb.Post given is = other-reply given _ plain-feed is
  member-other request now number verb.Options given is = other-reply given _ plain-feed is
  member-other request now number verb.Patch given is = other-reply given _ plain-feed is
  member-other request now number verb.Other given is = other-reply given _ plain-feed is

  -- a feed document is served at the address
  module _ (request : RequestValue) (is_head : IsHead store.head) (lawful : IsLawful store.head store.history) where
    feed-served : (given : Outcome) → IsTarget store.head.name.base address.Feed request.target
        → IsOfFeed store request 0 verb.Get given → IsServedReply store request given.reply
    feed-served given named is = record {
      address = address.Feed;
      named = named;
      served = record {
        is_head = is_head;
        is_lawful = lawful;
        served = inl (record {
          version = length store.history;
          past = omega arith;
          there = refl;
          text = ap (λ (g : Outcome). body_text g.reply.body) is
              ∙ ap (λ (h : List Op). text (documents.subscription store.head h)) (sym (take-length store.history));
        });
      };
    }

    archive-served : (number : ℕ) (given : Outcome)
        → IsTarget store.head.name.base (address.Archive number) request.target
        → IsOfArchive store number verb.Get given → given.reply.media ≡ media.Feed
        → IsServedReply store request given.reply
    archive-served number given named (inl (sealed, is)) shown = record {
      address = address.Archive number;
      named = named;
      served = record {
        is_head = is_head;
        is_lawful = lawful;
        served = inr (record {
          number = number;
          of_sealed = sealed;
          there = refl;
          text = ap (λ (g : Outcome). body_text g.reply.body) is;
        });
      };
    }
    archive-served number given named (inr (unsealed, is)) shown =
        absurd (other-reply given _ plain-feed is shown)

    by-verb-feed : (now : ℕ) (method : Verb) (given : Outcome)
        → IsTarget store.head.name.base address.Feed request.target → IsOfFeed store request now method given
        → given.reply.media ≡ media.Feed → IsServedReply store request given.reply
    by-verb-feed now verb.Get given named is shown = feed-served given named is
    by-verb-feed now verb.Post given named is shown =
        absurd (sent-other request (λ draft. Create draft) now given is shown)
    by-verb-feed now verb.Head given named is shown = absurd (other-reply given _ plain-feed is shown)
    by-verb-feed now verb.Put given named is shown = absurd (other-reply given _ plain-feed is shown)
    by-verb-feed now verb.Delete given named is shown = absurd (other-reply given _ plain-feed is shown)
    by-verb-feed now verb.Options given named is shown = absurd (other-reply given _ plain-feed is shown)
    by-verb-feed now verb.Patch given named is shown = absurd (other-reply given _ plain-feed is shown)
    by-verb-feed now verb.Other given named is shown = absurd (other-reply given _ plain-feed is shown)

    by-verb-archive : (number : ℕ) (method : Verb) (given : Outcome)
        → IsTarget store.head.name.base (address.Archive number) request.target → IsOfArchive store number method given
        → given.reply.media ≡ media.Feed → IsServedReply store request given.reply
    by-verb-archive number verb.Get given named is shown = archive-served number given named is shown
    by-verb-archive number verb.Post given named is shown = absurd (other-reply given _ plain-feed is shown)
    by-verb-archive number verb.Head given named is shown = absurd (other-reply given _ plain-feed is shown)
    by-verb-archive number verb.Put given named is shown = absurd (other-reply given _ plain-feed is shown)
    by-verb-archive number verb.Delete given named is shown = absurd (other-reply given _ plain-feed is shown)
    by-verb-archive number verb.Options given named is shown = absurd (other-reply given _ plain-feed is shown)
    by-verb-archive number verb.Patch given named is shown = absurd (other-reply given _ plain-feed is shown)
    by-verb-archive number verb.Other given named is shown = absurd (other-reply given _ plain-feed is shown)

    by-address : (now : ℕ) (named : FeedAddress) (given : Outcome)
        → IsTarget store.head.name.base named request.target → IsAtAddress store request now named given
        → given.reply.media ≡ media.Feed → IsServedReply store request given.reply
    by-address now address.Feed given named is shown = by-verb-feed now request.verb given named is shown
    by-address now (address.Archive number) given named is shown =
        by-verb-archive number request.verb given named is shown
    by-address now (address.Member number) given named is shown =
        absurd (member-other request now number request.verb given is shown)

pub shown-served : (store : StoreValue) (request : RequestValue) (now : ℕ) (given : Outcome) → IsHead store.head
    → IsLawful store.head store.history → IsOutcome store request now given → given.reply.media ≡ media.Feed
    → IsServedReply store request given.reply
shown-served store request now given is_head lawful (inl (is_other, is)) shown =
    absurd (other-reply given _ plain-feed is shown)
shown-served store request now given is_head lawful (inr (method, inl (none, is))) shown =
    absurd (other-reply given _ plain-feed is shown)
shown-served store request now given is_head lawful (inr (method, inr (named, is_address, target, at))) shown =
    by-address store request is_head lawful now named given target at shown
