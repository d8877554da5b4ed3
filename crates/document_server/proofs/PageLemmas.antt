-- A session that serves the pages of its feed.
use Rattle.std.proofs.Common.{◌≡◌, ◌≢◌, ◌⊎◌, inl, inr, refl, sym, ap, ◌∙◌, subst, ℕ, Bool, true, false, arith}
use Rattle.std.specs.Prelude.{Option, Some, None, option_map}
use Rattle.document_server.specs.Answer.{IsAnswer, LeavesAnswered}
use Rattle.document_server.specs.Laws.{AreShownServed, IsServedReply, NamesOneAddress}
use Rattle.document_server.specs.Reply.{IsOutcome, Outcome, unchanged}
use Rattle.document_server.specs.Served.{IsPageOr, answers_of, paged}
use Rattle.document_server.proofs.OutcomeLemmas.{one-outcome}
use Rattle.document_server.proofs.ServedLemmas.{shown-served}
use Rattle.document_server.proofs.StepLemmas.{replied-none}
use Rattle.feed_disk.specs.Disk.{DiskState}
use Rattle.feed_recovery.specs.Store.{StoreValue}
use Rattle.http_face.specs.Reply.{disk_fault}
use Rattle.http_face.specs.Request.{RequestValue}
use Rattle.http_face.specs.declared.reply.Media.TheVariants as media
use Rattle.http_face.specs.declared.reply.Reply.{Reply}
use Rattle.http_face.specs.declared.request.Verb.{Verb}
use Rattle.http_face.specs.declared.request.Verb.TheVariants.{Get, Head, Post, Put, Delete, Options, Patch, Other}
use Rattle.member_rules.specs.Head.{IsHead}
use Rattle.member_rules.specs.History.{IsLawful}
use Rattle.service_face.specs.Page.{page_of}
use Rattle.service_face.specs.Reply.{asked_reply}
use Rattle.service_face.specs.declared.page.Page.{Page}
use Rattle.service_face.specs.declared.page.Page.TheVariants.{Service, Members}

-- a reply that is no feed document and not that of a failed disk
pub record IsOfPage (reply : Reply) : Type 0 where
  pub other : reply.media ≢ media.Feed
  pub undisk : reply.status ≢ 500

shown-page : (store : StoreValue) (page : Page) → IsOfPage (asked_reply store page Get)
shown-page store Service = record { other = λ is. cc; undisk = λ is. omega (arith, is) }
shown-page store Members = record { other = λ is. cc; undisk = λ is. omega (arith, is) }

asked-page : (store : StoreValue) (page : Page) (verb : Verb) → IsOfPage (asked_reply store page verb)
asked-page store page Get = shown-page store page
asked-page store page Head = record { other = λ is. cc; undisk = λ is. omega (arith, is) }
asked-page store page Post = record { other = λ is. cc; undisk = λ is. omega (arith, is) }
asked-page store page Put = record { other = λ is. cc; undisk = λ is. omega (arith, is) }
asked-page store page Delete = record { other = λ is. cc; undisk = λ is. omega (arith, is) }
asked-page store page Options = record { other = λ is. cc; undisk = λ is. omega (arith, is) }
asked-page store page Patch = record { other = λ is. cc; undisk = λ is. omega (arith, is) }
asked-page store page Other = record { other = λ is. cc; undisk = λ is. omega (arith, is) }

found-page : (store : StoreValue) (verb : Verb) (found : Option Page) (reply : Reply)
    → option_map (λ page. asked_reply store page verb) found ≡ Some reply → IsOfPage reply
found-page store verb None reply is = absurd cc
found-page store verb (Some page) reply is =
    let same : asked_reply store page verb ≡ reply = cc in
    subst IsOfPage same (asked-page store page verb)

pub paged-reply : (service : Bool) (store : StoreValue) (request : RequestValue) (reply : Reply)
    → paged service store request ≡ Some reply → IsOfPage reply
paged-reply false store request reply is = absurd cc
paged-reply true store request reply is =
    found-page store request.verb (page_of store.head.name.base request.target) reply is

pub page-undisk : (reply : Reply) → IsOfPage reply → reply ≢ disk_fault
page-undisk reply is same = is.undisk (ap (λ (r : Reply). r.status) same)

-- The laws

page-served : (store : StoreValue) (request : RequestValue) (now : ℕ) (page : Option Reply) (given : Outcome)
    → IsHead store.head → IsLawful store.head store.history
    → ((reply : Reply) → page ≡ Some reply → IsOfPage reply)
    → IsPageOr page (IsOutcome store request now) given → given.reply.media ≡ media.Feed
    → IsServedReply store request given.reply
page-served store request now (Some reply) given is_head lawful of is shown =
    absurd ((of reply refl).other (ap (λ (g : Outcome). g.reply.media) (sym is) ∙ shown))
page-served store request now None given is_head lawful of is shown =
    shown-served store request now given is_head lawful is shown

pub answers-served : (service : Bool) → AreShownServed (answers_of service)
answers-served service store request now given is_head lawful is shown =
    page-served store request now (paged service store request) given is_head lawful
    (paged-reply service store request) is shown

one-paged : (store : StoreValue) (request : RequestValue) (now : ℕ) (page : Option Reply) (one other : Outcome)
    → NamesOneAddress store.head.name.base request.target → IsPageOr page (IsOutcome store request now) one
    → IsPageOr page (IsOutcome store request now) other → one ≡ other
one-paged store request now (Some reply) one other names is is' = is ∙ sym is'
one-paged store request now None one other names is is' = one-outcome store request now names one other is is'

pub one-answer : (service : Bool) (store : StoreValue) (request : RequestValue) (now : ℕ) (one other : Outcome)
    → NamesOneAddress store.head.name.base request.target → answers_of service store request now one
    → answers_of service store request now other → one ≡ other
one-answer service store request now one other names is is' =
    one-paged store request now (paged service store request) one other names is is'

-- An answer

-- a page is the answer
pub answer-page : (outcomes : Outcome → Type 0) (page : Option Reply) (store : StoreValue) (reply : Reply)
    (failed : Type 0) → page ≡ Some reply → IsAnswer (IsPageOr page outcomes) store store reply failed
answer-page outcomes page store reply failed is =
    inl (replied-none (IsPageOr page outcomes) store reply
    (subst (λ (p : Option Reply). IsPageOr p outcomes (unchanged reply)) (sym is) refl))

-- no page is named
pub answer-unpaged : (outcomes : Outcome → Type 0) (page : Option Reply) (old new : StoreValue) (reply : Reply)
    (failed : Type 0) → page ≡ None → IsAnswer outcomes old new reply failed
    → IsAnswer (IsPageOr page outcomes) old new reply failed
answer-unpaged outcomes page old new reply failed none answer =
    subst (λ (p : Option Reply). IsAnswer (IsPageOr p outcomes) old new reply failed) (sym none) answer

pub leaves-unpaged : (outcomes : Outcome → Type 0) (page : Option Reply) (s t : DiskState) (old new : StoreValue)
    (failed : Type 0) → page ≡ None → LeavesAnswered outcomes s t old new failed
    → LeavesAnswered (IsPageOr page outcomes) s t old new failed
leaves-unpaged outcomes page s t old new failed none left =
    subst (λ (p : Option Reply). LeavesAnswered (IsPageOr p outcomes) s t old new failed) (sym none) left
