-- The rows of documents that are read from the disk, over any disk and over one whose content contracts see.
use Rattle.std.proofs.Common.{◌≡◌, inl, inr, ap, subst, ◌∙◌, ℕ, List, Result, Err}
use Rattle.chain_links.specs.declared.address.Address.{Address as FeedAddress}
use Rattle.chain_links.specs.declared.address.Address.TheVariants as address
use Rattle.feed_recovery.specs.Store.{StoreValue}
use Rattle.http_face.specs.Reply.{disk_changed, document_reply}
use Rattle.http_face.specs.Request.{RequestValue}
use Rattle.http_face.specs.declared.reply.Media.TheVariants as media
use Rattle.http_face.specs.declared.reply.Reply.{Reply}
use Rattle.http_face.specs.declared.request.Verb.{Verb}
use Rattle.http_face.specs.declared.request.Verb.TheVariants as verb
use Rattle.document_server.specs.Answer.{ComesTo, IsAnswer}
use Rattle.document_server.specs.Reply.{IsArchiveShown, IsArchiveShownOver, IsAtAddress, IsAtAddressAs, IsMemberShown}
use Rattle.document_server.specs.Reply.{IsMemberShownOver, IsOfArchive, IsOfArchiveOver, IsOfMember, IsOfMemberOver}
use Rattle.document_server.specs.Reply.{IsOfState, IsOutcome, IsOutcomeOver, Outcome}
use Rattle.document_server.specs.Reply.{shown_over, unchanged}
use Rattle.document_server.specs.declared.failure.Failure.{Failure}
use Rattle.document_server.specs.declared.failure.Failure.TheVariants.{Changed}
use Rattle.member_rules.specs.Fold.{state_of}
use Rattle.member_rules.specs.declared.state.State.{State}
use Rattle.member_rules.specs.declared.state.State.TheVariants as member

-- where the disk's content is seen, the outcomes over any disk are those of the table
module _ (observable : Type 0) (tells : observable) (store : StoreValue) where
  archive-observable : (number : ℕ) (given : Outcome) → IsArchiveShownOver observable store number given
      → IsArchiveShown store number given
  archive-observable number given (inl (written, read, is)) =
      is ∙ ap (λ (bytes : List ℕ). unchanged (document_reply media.Feed bytes)) (read.seen tells)
  archive-observable number given (inr (unobservable, is)) = absurd (unobservable tells)

  member-observable : (number : ℕ) (given : Outcome) → IsMemberShownOver observable store number given
      → IsMemberShown store number given
  member-observable number given (inl (written, read, is)) =
      let live = read.seen tells in
      (live.entry, live.live, is ∙ ap (λ (bytes : List ℕ). unchanged (document_reply media.Entry bytes)) live.text)
  member-observable number given (inr (unobservable, is)) = absurd (unobservable tells)

  state-observable : (state : State) (number : ℕ) (given : Outcome)
      → IsOfState state (IsMemberShownOver observable store number) given
      → IsOfState state (IsMemberShown store number) given
  state-observable member.Never number given is = is
  state-observable (member.Gone when) number given is = is
  state-observable (member.Live updated version) number given is = member-observable number given is

  of-archive-observable : (number : ℕ) (method : Verb) (given : Outcome) → IsOfArchiveOver observable store number method given
      → IsOfArchive store number method given
  of-archive-observable number verb.Get given (inl (sealed, is)) = inl (sealed, archive-observable number given is)
  of-archive-observable number verb.Get given (inr is) = inr is
  of-archive-observable number verb.Head given is = is
  of-archive-observable number verb.Post given is = is
  of-archive-observable number verb.Put given is = is
  of-archive-observable number verb.Delete given is = is
  of-archive-observable number verb.Options given is = is
  of-archive-observable number verb.Patch given is = is
  of-archive-observable number verb.Other given is = is

  module _ (request : RequestValue) (now : ℕ) where
    of-member-observable : (number : ℕ) (method : Verb) (given : Outcome)
        → IsOfMemberOver observable store request now number method given → IsOfMember store request now number method given
    of-member-observable number verb.Get given is = state-observable (state_of store.history number) number given is
    of-member-observable number verb.Head given is = is
    of-member-observable number verb.Post given is = is
    of-member-observable number verb.Put given is = is
    of-member-observable number verb.Delete given is = is
    of-member-observable number verb.Options given is = is
    of-member-observable number verb.Patch given is = is
    of-member-observable number verb.Other given is = is

    at-observable : (named : FeedAddress) (given : Outcome)
        → IsAtAddressAs (shown_over observable store) store request now named given
        → IsAtAddress store request now named given
    at-observable address.Feed given is = is
    at-observable (address.Archive number) given is = of-archive-observable number request.verb given is
    at-observable (address.Member number) given is = of-member-observable number request.verb given is

    pub outcome-observable : (given : Outcome) → IsOutcomeOver observable store request now given
        → IsOutcome store request now given
    outcome-observable given (inl is) = inl is
    outcome-observable given (inr (method, inl none)) = inr (method, inl none)
    outcome-observable given (inr (method, inr (named, is_address, target, at))) =
        inr (method, inr (named, is_address, target, at-observable named given at))

    pub answer-observable : (new : StoreValue) (reply : Reply) (failed : Type 0)
        → IsAnswer (IsOutcomeOver observable store request now) store new reply failed
        → IsAnswer (IsOutcome store request now) store new reply failed
    answer-observable new reply failed (inl replied) = inl (record {
      given = replied.given;
      is_one = outcome-observable replied.given replied.is_one;
      reply_is = replied.reply_is;
      gains = replied.gains;
    })
    answer-observable new reply failed (inr other) = inr other

-- The answer from the result of its part

pub comes-err : (outcomes : Outcome → Type 0) (old new : StoreValue) (result : Result Reply Failure)
    (failure given : Failure) → result ≡ Err failure → failure ≡ given → ComesTo outcomes old new result
    → ComesTo outcomes old new (Err given)
comes-err outcomes old new result failure given is same comes =
    subst (λ (f : Failure). ComesTo outcomes old new (Err f)) same (subst (ComesTo outcomes old new) is comes)

pub answer-changed : (outcomes : Outcome → Type 0) (old new : StoreValue) (reply : Reply) (failed : Type 0)
    → reply ≡ disk_changed → ComesTo outcomes old new (Err Changed) → IsAnswer outcomes old new reply failed
answer-changed outcomes old new reply failed is comes = inl (record {
  given = comes.given;
  is_one = comes.is_one;
  reply_is = is ∙ comes.reply_is;
  gains = comes.gains;
})
