-- The rows of the table of replies.
use Rattle.std.proofs.Common.{◌≡◌, ◌≢◌, arith, rules, ⊎_elim, inl, inr, refl, sym, ap, subst, ℕ, ℤ, List, Ok, Err}
use Rattle.std.specs.Prelude.{Some, None, Result}
use Rattle.atom_values.specs.Entry.{DraftValue}
use Rattle.feed_recovery.specs.Store.{StoreValue}
use Rattle.chain_links.specs.Address.{IsAddress, IsTarget}
use Rattle.chain_links.specs.declared.address.Address.{Address as FeedAddress}
use Rattle.chain_links.specs.declared.address.Address.TheVariants.{Feed, Archive, Member}
use Rattle.feed_disk.specs.Disk.{DiskState}
use Rattle.http_face.specs.Reply.{HasPhrase, not_allowed, not_found}
use Rattle.http_face.specs.Request.{RequestValue}
use Rattle.http_face.specs.declared.reply.Allow.TheVariants.{OfFeed, OfArchive, OfMember}
use Rattle.http_face.specs.declared.reply.Body.TheVariants.{Fixed}
use Rattle.http_face.specs.declared.reply.Line7.TheVariants as line
use Rattle.http_face.specs.declared.reply.Reply.{Reply}
use Rattle.http_face.specs.declared.request.Verb.{Verb}
use Rattle.http_face.specs.declared.request.Verb.TheVariants.{Get, Head, Post, Put, Delete, Options, Patch, Other}
use Rattle.document_server.specs.Answer.{ComesTo, IsOwn, IsReadAs, IsRefusal, ReadsOrCommits, absent_reply}
use Rattle.document_server.specs.Reply.{IsAsked, IsAtAddressAs, IsOfArchiveAs, IsOfFeed, IsOfMemberAs, IsOfState}
use Rattle.document_server.specs.Reply.{IsOutcomeAs, IsSent, Outcome, Shown, gone, unchanged}
use Rattle.document_server.specs.declared.failure.Failure.{Failure}
use Rattle.document_server.specs.declared.failure.Failure.TheVariants.{Disk, Changed, NoMemory}
use Rattle.member_rules.specs.declared.ask.Ask.{Ask}
use Rattle.member_rules.specs.declared.state.State.{State}
use Rattle.member_rules.specs.declared.state.State.TheVariants as member

-- a method that isn't allowed

pub feed-refuses : (store : StoreValue) (request : RequestValue) (now : ℕ) (verb : Verb) → verb ≢ Get → verb ≢ Post
    → IsOfFeed store request now verb (unchanged (not_allowed OfFeed))
feed-refuses store request now Get other other' = absurd (other refl)
feed-refuses store request now Head other other' = refl
feed-refuses store request now Post other other' = absurd (other' refl)
feed-refuses store request now Put other other' = refl
feed-refuses store request now Delete other other' = refl
feed-refuses store request now Options other other' = refl
feed-refuses store request now Patch other other' = refl
feed-refuses store request now Other other other' = refl

pub archive-refuses : (shown : Outcome → Type 0) (store : StoreValue) (number : ℕ) (verb : Verb) → verb ≢ Get
    → IsOfArchiveAs shown store number verb (unchanged (not_allowed OfArchive))
archive-refuses shown store number Get other = absurd (other refl)
archive-refuses shown store number Head other = refl
archive-refuses shown store number Post other = refl
archive-refuses shown store number Put other = refl
archive-refuses shown store number Delete other = refl
archive-refuses shown store number Options other = refl
archive-refuses shown store number Patch other = refl
archive-refuses shown store number Other other = refl

pub member-refuses : (shown : Outcome → Type 0) (store : StoreValue) (request : RequestValue) (now number : ℕ)
    (verb : Verb) → verb ≢ Get → verb ≢ Put → verb ≢ Delete
    → IsOfMemberAs shown store request now number verb (unchanged (not_allowed OfMember))
member-refuses shown store request now number Get other other' other'' = absurd (other refl)
member-refuses shown store request now number Head other other' other'' = refl
member-refuses shown store request now number Post other other' other'' = refl
member-refuses shown store request now number Put other other' other'' = absurd (other' refl)
member-refuses shown store request now number Delete other other' other'' = absurd (other'' refl)
member-refuses shown store request now number Options other other' other'' = refl
member-refuses shown store request now number Patch other other' other'' = refl
member-refuses shown store request now number Other other other' other'' = refl

pub target-as : (base other target left : List ℕ) → base ≡ other → target ≡ left → (address : FeedAddress)
    → IsTarget base address target → IsTarget other address left
target-as base other target left same same' address named =
    subst (λ (t : List ℕ). IsTarget other address t) same'
    (subst (λ (b : List ℕ). IsTarget b address target) same named)

-- the outcome of a request whose target names a document
module _ (shown : Shown) (store : StoreValue) (request : RequestValue) (now : ℕ) (other : request.verb ≢ Other)
    (address : FeedAddress) (rules : IsAddress address)
    (target : IsTarget store.head.name.base address request.target) where
  at-address : (given : Outcome) → IsAtAddressAs shown store request now address given
      → IsOutcomeAs shown store request now given
  at-address given is = inr (other, inr (address, rules, target, is))

  pub of-feed : address ≡ Feed → (given : Outcome) → IsOfFeed store request now request.verb given
      → IsOutcomeAs shown store request now given
  of-feed is given row =
      at-address given (subst (λ (a : FeedAddress). IsAtAddressAs shown store request now a given) (sym is) row)

  pub of-archive : (number : ℕ) → address ≡ Archive number → (verb : Verb) → verb ≡ request.verb → (given : Outcome)
      → IsOfArchiveAs (shown.archive number) store number verb given → IsOutcomeAs shown store request now given
  of-archive number is verb same given row =
      at-address given (subst (λ (a : FeedAddress). IsAtAddressAs shown store request now a given) (sym is)
      (subst (λ (v : Verb). IsOfArchiveAs (shown.archive number) store number v given) same row))

  pub of-member : (number : ℕ) → address ≡ Member number → (given : Outcome)
      → IsOfMemberAs (shown.member number) store request now number request.verb given
      → IsOutcomeAs shown store request now given
  of-member number is given row =
      at-address given (subst (λ (a : FeedAddress). IsAtAddressAs shown store request now a given) (sym is) row)

-- the method that a request has
pub feed-verb : (store : StoreValue) (request : RequestValue) (now : ℕ) (verb : Verb) → request.verb ≡ verb
    → (given : Outcome) → IsOfFeed store request now verb given → IsOfFeed store request now request.verb given
feed-verb store request now verb same given row =
    subst (λ (v : Verb). IsOfFeed store request now v given) (sym same) row

pub member-verb : (shown : Outcome → Type 0) (store : StoreValue) (request : RequestValue) (now number : ℕ)
    (verb : Verb) → request.verb ≡ verb → (given : Outcome)
    → IsOfMemberAs shown store request now number verb given
    → IsOfMemberAs shown store request now number request.verb given
member-verb shown store request now number verb same given row =
    subst (λ (v : Verb). IsOfMemberAs shown store request now number v given) (sym same) row

-- a member by its state

pub absent-is : (state : State) (live : Outcome → Type 0) (reply : Reply) → absent_reply state ≡ Some reply
    → IsOfState state live (unchanged reply)
absent-is member.Never live reply is = cc
absent-is (member.Gone when) live reply is = cc
absent-is (member.Live updated version) live reply is = cc

pub present-is : (state : State) (live : Outcome → Type 0) (given : Outcome) → absent_reply state ≡ None → live given
    → IsOfState state live given
present-is member.Never live given is lives = absurd (cc)
present-is (member.Gone when) live given is lives = absurd (cc)
present-is (member.Live updated version) live given is lives = lives

module _ (state : State) (live : Outcome → Type 0) (given : Outcome) where
  pub never-is : state ≡ member.Never → given ≡ unchanged not_found → IsOfState state live given
  never-is is row = subst (λ (s : State). IsOfState s live given) (sym is) row

  pub gone-is : (when : ℤ) → state ≡ member.Gone when → given ≡ unchanged gone → IsOfState state live given
  gone-is when is row = subst (λ (s : State). IsOfState s live given) (sym is) row

  pub live-is : (version : ℕ) (updated : ℤ) → state ≡ member.Live updated version → live given
      → IsOfState state live given
  live-is version updated is row = subst (λ (s : State). IsOfState s live given) (sym is) row

-- an entry in the body of a request

pub sent-refused : (store : StoreValue) (request : RequestValue) (asked : DraftValue → Ask) (now : ℕ) (reply : Reply)
    → IsReadAs request (Err reply) → IsSent store request asked now (unchanged reply)
sent-refused store request asked now reply (inl (media, is)) = inl (media, ap unchanged is)
sent-refused store request asked now reply (inr (media, (at, reason, refused, is))) =
    inr (media, inl (at, reason, refused, ap unchanged is))

pub sent-read : (store : StoreValue) (request : RequestValue) (asked : DraftValue → Ask) (now : ℕ) (draft : DraftValue)
    (given : Outcome) → IsReadAs request (Ok draft) → IsAsked store (asked draft) now given
    → IsSent store request asked now given
sent-read store request asked now draft given (media, is_draft, spells) is =
    inr (media, inr (draft, is_draft, spells, is))

-- the outcome of a part of the answer is one of the whole

pub comes-as : (part whole : Outcome → Type 0) → ((given : Outcome) → part given → whole given)
    → (old new : StoreValue) (result : Result Reply Failure) → ComesTo part old new result →
    ComesTo whole old new result
comes-as part whole to old new (Ok reply) comes = record {
  given = comes.given;
  is_one = to comes.given comes.is_one;
  reply_is = comes.reply_is;
  gains = comes.gains;
}
comes-as part whole to old new (Err Disk) comes = tt
comes-as part whole to old new (Err Changed) comes = record {
  given = comes.given;
  is_one = to comes.given comes.is_one;
  reply_is = comes.reply_is;
  gains = comes.gains;
}
comes-as part whole to old new (Err NoMemory) comes = comes

pub commits-as : (observable : Type 0) (part whole : Outcome → Type 0) → ((given : Outcome) → part given → whole given)
    → (s t : DiskState) (old new : StoreValue) (failed : Type 0) → ReadsOrCommits observable part s t old new failed
    → ReadsOrCommits observable whole s t old new failed
commits-as observable part whole to s t old new failed (inl reads) = inl reads
commits-as observable part whole to s t old new failed (inr commits) = inr (record {
  operation = commits.operation;
  given = commits.given;
  is_one = to commits.given commits.is_one;
  adds = commits.adds;
  leaves = commits.leaves;
  gained = commits.gained;
})

-- replies that no failed device call and no lack of memory makes

module _ (reply : Reply) (phrase : HasPhrase reply.status) (other : reply.status ≢ 503)
    (body : reply.body ≢ Fixed line.Disk) where
  pub own : IsOwn reply
  own = record {
    phrase = phrase;
    memory = λ is. absurd (other is);
    undisk = λ is. body (ap (λ (r : Reply). r.body) is);
  }

  pub refusal : reply.status ≢ 200 → reply.status ≢ 201 → IsRefusal reply
  refusal other' other'' = record { own = own; undone = λ done. ⊎_elim other' other'' done }

pub not-found-refusal : IsRefusal not_found
not-found-refusal = refusal not_found (search rules) (λ e. omega (arith, e)) (λ e. cc) (λ e. omega (arith, e))
    (λ e. omega (arith, e))
