-- A walk so far, of which the document of each address was taken, and how it goes on.
use Rattle.std.proofs.Common.{◌≡◌, inl, inr, ℕ, List, [], ◌∷◌, ◌++◌, Option, Some, None, Result, Ok, Err}
use Rattle.std.proofs.Common.{refl, sym, ap, subst, ◌∙◌, append_assoc, append-nil}
use Rattle.std.proofs.Common.{Bool, true, false, ◌+◌, ◌<◌, length, length-append, bytes_eq, arith}
use Rattle.std.specs.Prelude.{IfOk, IfErr, IsErrAnd}
use Rattle.std.specs.Bool.{Decides}
use Rattle.std.specs.List.{list_any}
use Rattle.std.proofs.lemmas.Bool.{both_ways}
use Rattle.std.proofs.lemmas.Slice.Eq.{bytes_eq-Decides}
use Rattle.feed_reader.specs.declared.fault.FeedWhy.{FeedWhy}
use Rattle.feed_reader.specs.declared.fault.ForeignRead.{ForeignRead}
use Rattle.feed_reader.specs.declared.fault.ForeignRead.TheVariants.{NotRead as NotReadAt, NoMemory as OutOfMemory}
use Rattle.feed_reader.specs.FeedDocument.{IsFeedRefusedAt}
use Rattle.foreign_mirror.specs.declared.walk.Foreign.{Foreign}
use Rattle.doc_source.specs.Fetch.{FetchState}
use Rattle.feed_reader.specs.Feed.{DocumentValue}
use Rattle.foreign_mirror.specs.declared.fault.ForeignFault.{ForeignFault}
use Rattle.foreign_mirror.specs.declared.fault.ForeignFault.TheVariants.{FetchFault, NoMemory}
use Rattle.foreign_mirror.specs.declared.walk.ChainEnd.{ChainEnd}
use Rattle.foreign_mirror.specs.declared.walk.Progress.{Progress}
use Rattle.foreign_mirror.specs.declared.walk.Visit.{Visit}
use Rattle.foreign_mirror.specs.declared.walk.Visit.TheVariants.{Taken, Ended}
use Rattle.foreign_mirror.specs.Walk.{EndsAt, EndsBefore, Ending, IsAskable, IsOfFeed, IsReadAt, Walks, WalksFrom, feed_after}
use Rattle.foreign_mirror.specs.Walk.Ending.{over, fetch_failed, cut_short}
use Rattle.foreign_mirror.specs.Walk.{HasWalked, IsForeign, document_limit}
use Rattle.foreign_mirror.specs.Steps.{HasAsked, HasRun, HasTaken, IsJoined, IsRunResult, IsTakenVisit, Joins, IsVisit, Keeps, Knows, refused}
use Rattle.foreign_mirror.specs.Steps.{feed_of}

-- each way to go on after these addresses and documents makes a whole walk
abbrev pub GoesOn : (List ℕ → Option (List ℕ)) → List ℕ → List (List ℕ) → List DocumentValue → Option (List ℕ) → Type 0
GoesOn answers from asked documents next =
    (more : List (List ℕ)) (later : List DocumentValue) (ending : Ending)
    → Walks answers asked (feed_of documents) next more later ending
    → WalksFrom answers from (asked ++ more) (documents ++ later) ending

pub feed-more : (documents : List DocumentValue) (d : DocumentValue)
    → feed_after (feed_of documents) d ≡ feed_of (documents ++ d ∷ [])
feed-more [] d = refl
feed-more (first ∷ documents) d = refl

-- one more document
pub goes_on-more : (answers : List ℕ → Option (List ℕ)) (from : List ℕ) (asked : List (List ℕ))
    (documents : List DocumentValue) (address : List ℕ) (d : DocumentValue)
    → GoesOn answers from asked documents (Some address) → IsAskable asked address → IsReadAt answers address d
    → IsOfFeed (feed_of documents) d → GoesOn answers from (asked ++ address ∷ []) (documents ++ d ∷ []) d.prev
goes_on-more answers from asked documents address d goes askable read of_feed = λ more later ending walks.
    let whole : WalksFrom answers from (asked ++ address ∷ more) (documents ++ d ∷ later) ending =
    goes (address ∷ more) (d ∷ later) ending (
      refl,
      askable,
      read,
      of_feed,
      subst (λ (f : Option (List ℕ)). Walks answers (asked ++ address ∷ []) f d.prev more later ending)
          (sym (feed-more documents d)) walks,
    ) in
    subst (λ (l : List (List ℕ)). WalksFrom answers from l ((documents ++ d ∷ []) ++ later) ending)
    (sym (append_assoc asked (address ∷ []) more))
    (subst (λ (l : List DocumentValue). WalksFrom answers from (asked ++ address ∷ more) l ending)
    (sym (append_assoc documents (d ∷ []) later)) whole)

-- the walk so far: `next` is its next address
pub record IsSoFar (observable : Type 0) (before after : FetchState) (from : List ℕ) (next : Option (List ℕ))
    (walk : Progress) : Type 0 where
  pub asked : List (List ℕ)
  pub documents : List DocumentValue
  pub keeps : Keeps asked documents walk
  pub addresses : observable → after.asked ≡ before.asked ++ asked
  pub goes_on : observable → GoesOn before.answers from asked documents next

pub so_far-none : (observable : Type 0) (source : FetchState) (from : List ℕ) (walk : Progress)
    → Keeps [] [] walk → IsSoFar observable source source from (Some from) walk
so_far-none observable source from walk keeps = record {
  asked = [];
  documents = [];
  keeps = keeps;
  addresses = λ sees. sym (append-nil source.asked);
  goes_on = λ sees. λ more later ending walks. walks;
}

-- a walk that ran out of memory before its first address
pub run-none : (source : FetchState) (from : List ℕ) (walk : Progress)
    → HasRun source source from walk (Err NoMemory)
run-none source from walk = record {
  asked = [];
  documents = [];
  ending = cut_short;
  walks = tt;
  addresses = sym (append-nil source.asked);
  result = refl;
}

module _ (observable : Type 0) (before between : FetchState) (from : List ℕ) (next : Option (List ℕ)) (old : Progress)
    (so_far : IsSoFar observable before between from next old) where
  abbrev so : List (List ℕ)
  so = so_far.asked

  abbrev took : List DocumentValue
  took = so_far.documents

  -- the walk ends after these addresses
  over-with : (sees : observable) (more : List (List ℕ)) (ending : Ending) (after : FetchState) (walk : Progress)
      (given : Result ChainEnd ForeignFault) → Walks before.answers so (feed_of took) next more [] ending
      → after.asked ≡ between.asked ++ more → IsRunResult took ending walk given
      → HasRun before after from walk given
  over-with sees more ending after walk given walks is result = record {
    asked = so ++ more;
    documents = took;
    ending = ending;
    walks = subst (λ (l : List DocumentValue). WalksFrom before.answers from (so ++ more) l ending)
        (append-nil took) (so_far.goes_on sees more [] ending walks);
    addresses = is
        ∙ ap (λ (l : List (List ℕ)). l ++ more) (so_far.addresses sees)
        ∙ append_assoc before.asked so more;
    result = result;
  }

  -- it ends before it asks its next address
  pub run-before : (end : ChainEnd) → EndsBefore so next (over end)
      → observable → HasRun before between from old (Ok end)
  run-before end ends = λ sees.
      over-with sees [] (over end) between old (Ok end) ends (sym (append-nil between.asked))
      (refl, so_far.keeps.taken)

  module _ (address : List ℕ) (is : next ≡ Some address) (askable : IsAskable so address)
      (same : between.answers ≡ before.answers) (after : FetchState) (walk : Progress)
      (given : Result Visit ForeignFault)
      (visit : IsVisit observable between after so took address walk given) where
    at : (result : Result Visit ForeignFault) → given ≡ result
        → IsVisit observable between after so took address walk result
    at result e = subst (IsVisit observable between after so took address walk) e visit

    -- it ends at this address
    pub run-ended : (end : ChainEnd) → given ≡ Ok (Ended end) → observable → HasRun before after from walk (Ok end)
    run-ended end e = λ sees.
        let here = at (Ok (Ended end)) e in
        over-with sees (address ∷ []) (over end) after walk (Ok end) (
          is,
          refl,
          askable,
          subst (λ (f : List ℕ → Option (List ℕ)). EndsAt f (feed_of took) address (over end)) same
              (here.outcome.0 sees),
        ) (here.addresses sees) (refl, here.outcome.1)

    -- it ends at this address by a fault
    pub run-fault : (fault : ForeignFault) → given ≡ Err fault → observable → HasRun before after from walk (Err fault)
    run-fault fault e = λ sees. go fault ((at (Err fault) e).addresses sees) sees
      where
        go : (fault : ForeignFault)
            → (let result : Result Visit ForeignFault = Err fault in HasAsked between after address result)
            → observable → HasRun before after from walk (Err fault)
        go FetchFault asks sees =
            over-with sees (address ∷ []) fetch_failed after walk (Err FetchFault) (is, refl, askable, tt) asks refl
        go NoMemory (inl none) sees =
            over-with sees [] cut_short after walk (Err NoMemory) tt
            (none ∙ sym (append-nil between.asked)) refl
        go NoMemory (inr asks) sees =
            over-with sees (address ∷ []) cut_short after walk (Err NoMemory) (is, refl, askable, tt) asks refl

    -- it goes on after the document
    pub so_far-more : (prev : Option (List ℕ)) → given ≡ Ok (Taken prev)
        → IsSoFar observable before after from prev walk
    so_far-more prev e =
        let here = at (Ok (Taken prev)) e in
        let d : DocumentValue = here.outcome.0 in
        record {
          asked = so ++ address ∷ [];
          documents = took ++ d ∷ [];
          keeps = here.outcome.4;
          addresses = λ sees. here.addresses sees
              ∙ ap (λ (l : List (List ℕ)). l ++ address ∷ []) (so_far.addresses sees)
              ∙ append_assoc before.asked so (address ∷ []);
          goes_on = λ sees.
              subst (GoesOn before.answers from (so ++ address ∷ []) (took ++ d ∷ [])) (sym here.outcome.1)
              (goes_on-more before.answers from so took address d
              (subst (GoesOn before.answers from so took) is (so_far.goes_on sees)) askable
              (subst (λ (f : List ℕ → Option (List ℕ)). IsReadAt f address d) same (here.outcome.3 sees))
              here.outcome.2);
        }

-- a walk may also be cut short where it ended
pub walks-cut : (answers : List ℕ → Option (List ℕ)) (before : List (List ℕ)) (feed next : Option (List ℕ))
    (asked : List (List ℕ)) (documents : List DocumentValue) (ending : Ending)
    → Walks answers before feed next asked documents ending
    → Walks answers before feed next asked documents cut_short
walks-cut answers before feed next [] [] ending ends = tt
walks-cut answers before feed next [] (d ∷ documents) ending walks = absurd walks
walks-cut answers before feed next (address ∷ asked) [] ending (is, last, askable, ends) = (is, last, askable, tt)
walks-cut answers before feed next (address ∷ asked) (d ∷ documents) ending (is, askable, read, of_feed, walks) = (
  is,
  askable,
  read,
  of_feed,
  walks-cut answers (before ++ address ∷ []) (feed_after feed d) d.prev asked documents ending walks,
)

-- `Progress::run`: a fault that is passed on
pub run-again : (before after : FetchState) (from : List ℕ) (walk : Progress) (fault : ForeignFault)
    (result : Result ChainEnd ForeignFault) → IsErrAnd result (λ given. given ≡ fault)
    → HasRun before after from walk (Err fault) → HasRun before after from walk result
run-again before after from walk fault (Ok end) passed run = absurd passed
run-again before after from walk fault (Err given) passed run =
    subst (λ (f : ForeignFault). HasRun before after from walk (Err f)) (sym passed) run

-- `Progress::visit`: the document that was read was taken, or is of another feed
pub visit-read : (observable : Type 0) (before after : FetchState) (asked : List (List ℕ))
    (documents : List DocumentValue) (address : List ℕ) (d : DocumentValue) (old marked walk : Progress) (visit : Visit)
    → Keeps asked documents old → old.docs < document_limit → Knows (asked ++ address ∷ []) marked
    → IsTakenVisit documents address d marked walk visit → (observable → IsReadAt before.answers address d)
    → (observable → after.asked ≡ before.asked ++ address ∷ [])
    → IsVisit observable before after asked documents address walk (Ok visit)
visit-read observable before after asked documents address d old marked walk (Taken prev) keeps few knows
    (is, of_feed, taken, same) read asks =
    let each = keeps.each in
    let docs = keeps.taken.docs in
    let more = length-append asked (address ∷ []) in
    let later = length-append documents (d ∷ []) in
    record {
      outcome = (
        d,
        is,
        of_feed,
        read,
        record {
          knows = λ q. ap (list_any (λ k. bytes_eq q k.items)) same ∙ knows q;
          taken = taken;
          each = omega (arith, each, more, later);
          few = omega (arith, each, docs, few, more);
        },
      );
      addresses = asks;
    }
visit-read observable before after asked documents address d old marked walk (Ended end) keeps few knows
    (is, other, taken) read asks = record {
      outcome = (
        λ sees. subst (λ (e : ChainEnd). EndsAt before.answers (feed_of documents) address (over e)) (sym is)
            (refl, (d, read sees, other)),
        taken,
      );
      addresses = asks;
    }

-- `Progress::visit`: the document can't be read
pub visit-refused : (observable : Type 0) (before after : FetchState) (asked : List (List ℕ))
    (documents : List DocumentValue) (address bytes : List ℕ) (walk : Progress) (fault : ForeignRead)
    (read : Result DocumentValue ForeignRead) (given : Result Visit ForeignFault) → given ≡ refused address fault
    → read ≡ Err fault
    → ((at : ℕ) (why : FeedWhy) → read ≡ Err (NotReadAt at why) → IsFeedRefusedAt bytes address at why)
    → HasTaken documents walk → (observable → before.answers address ≡ Some bytes)
    → (observable → after.asked ≡ before.asked ++ address ∷ [])
    → IsVisit observable before after asked documents address walk given
visit-refused observable before after asked documents address bytes walk fault read given result is why taken there asks
    = subst (IsVisit observable before after asked documents address walk) (sym result) (of fault is)
  where
    of : (fault : ForeignRead) → read ≡ Err fault
        → IsVisit observable before after asked documents address walk (refused address fault)
    of (NotReadAt at cause) is = record {
      outcome = (
        λ sees. (refl, record { bytes = bytes; there = there sees; refused = why at cause is }),
        taken,
      );
      addresses = asks;
    }
    of OutOfMemory is = record { outcome = tt; addresses = λ sees. inr (asks sees) }

-- `Progress::joins`
pub joins-first : (old new : Progress) (d : DocumentValue) (id : List ℕ) → old.feed ≡ None → id ≡ d.id
    → new ≡ record old { feed = Some id } → Joins old new d
joins-first old new d id none same is = record {
  of_feed = subst (λ (f : Option (List ℕ)). IsOfFeed f d) (sym none) tt;
  feed = ap (λ (p : Progress). p.feed) is
      ∙ ap (λ (l : List ℕ). Some l) same
      ∙ sym (ap (λ (f : Option (List ℕ)). feed_after f d) none);
  live = ap (λ (p : Progress). p.entries) is;
  docs = ap (λ (p : Progress). p.docs) is;
  keys = ap (λ (p : Progress). p.asked.keys) is;
}

pub joins-later : (old : Progress) (d : DocumentValue) (id own : List ℕ) → old.feed ≡ Some id → own ≡ d.id
    → IsJoined old old d (bytes_eq id own)
joins-later old d id own first is = go (bytes_eq id own) (bytes_eq-Decides id own)
  where
    go : (fits : Bool) → Decides fits (id ≡ own) → IsJoined old old d fits
    go true decides = record {
      of_feed = subst (λ (f : Option (List ℕ)). IsOfFeed f d) (sym first) (sym (decides.0 refl ∙ is));
      feed = first ∙ sym (ap (λ (f : Option (List ℕ)). feed_after f d) first);
      live = refl;
      docs = refl;
      keys = refl;
    }
    go false decides = (
      λ of_feed. both_ways false refl (decides.1
          (sym (is ∙ subst (λ (f : Option (List ℕ)). IsOfFeed f d) first of_feed))),
      refl,
    )

-- `Progress::take`
pub taken-feed : (documents : List DocumentValue) (d : DocumentValue) (old new : Progress) → Joins old new d
    → HasTaken documents old → new.feed ≡ feed_of (documents ++ d ∷ [])
taken-feed documents d old new joins taken =
    joins.feed ∙ ap (λ (f : Option (List ℕ)). feed_after f d) taken.feed ∙ feed-more documents d

pub taken-docs : (documents : List DocumentValue) (d : DocumentValue) (old new : Progress) → Joins old new d
    → HasTaken documents old → new.docs + 1 ≡ length (documents ++ d ∷ [])
taken-docs documents d old new joins taken =
    let docs = joins.docs in
    let before = taken.docs in
    let later = length-append documents (d ∷ []) in
    omega (arith, docs, before, later)

-- `foreign_walk`: the result of a walk that ended
pub walked-by : (before after : FetchState) (from : List ℕ) (walk : Progress) (end : ChainEnd)
    (given : Result Foreign ForeignFault) → HasRun before after from walk (Ok end)
    → ((documents : List DocumentValue) → HasTaken documents walk → IfOk given (IsForeign documents (over end)))
    → IfErr given (λ fault. fault ≡ NoMemory) → HasWalked before after from given
walked-by before after from walk end (Ok foreign) run found unfailed = record {
  asked = run.asked;
  documents = run.documents;
  ending = run.ending;
  walks = run.walks;
  addresses = run.addresses;
  result = subst (λ (e : Ending). IsForeign run.documents e foreign) (sym run.result.0)
      (found run.documents run.result.1);
}
walked-by before after from walk end (Err FetchFault) run found unfailed = absurd (cc)
walked-by before after from walk end (Err NoMemory) run found unfailed = record {
  asked = run.asked;
  documents = run.documents;
  ending = cut_short;
  walks = walks-cut before.answers [] None (Some from) run.asked run.documents run.ending run.walks;
  addresses = run.addresses;
  result = refl;
}
