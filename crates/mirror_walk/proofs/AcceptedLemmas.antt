-- A mirror that holds documents of one feed refuses no other document of it.
use Rattle.std.proofs.Common.{◌≡◌, ℕ, ◌+◌, ◌-◌, ◌==◌, nat_lt, List, [], ◌∷◌, All}
use Rattle.std.proofs.Common.{Bool, true, if◌then◌else◌, Option, Some, None, IfSome, is_some, option_and_then}
use Rattle.std.proofs.Common.{unwrap_or}
use Rattle.std.proofs.Common.{Ok, Err, bytes_eq, take, refl, ap, sym, subst, ◌∙◌, arith, eq-eqb}
use Rattle.std.specs.List.{AllByRecursion}
use Rattle.std.proofs.lemmas.Bool.{cond_both, eqb-true, ltb-true}
use Rattle.std.proofs.lemmas.List.Elements.{All-head}
use Rattle.std.proofs.lemmas.Option.{cond_some}
use Rattle.std.proofs.lemmas.Slice.Eq.{bytes_eq-Decides}
use Rattle.sha2.specs.Sha256.{sha256}
use Rattle.atom_writer.specs.Doc.{DocValue}
use Rattle.atom_writer.specs.Pieces.{text}
use Rattle.atom_writer.specs.declared.doc.Kind.{Kind}
use Rattle.atom_writer.specs.declared.doc.Kind.TheVariants.{Subscription, Archive as Sealed}
use Rattle.member_rules.specs.declared.operation.Op.{Op}
use Rattle.member_rules.specs.Head.{HeadValue, IsHead}
use Rattle.member_rules.specs.Documents.{subscription}
use Rattle.mirror_walk.specs.declared.answer.Accepted.TheVariants.{Taken, Known, Stale}
use Rattle.mirror_walk.specs.Holding.{KeptValue, archive_at, best_of}
use Rattle.mirror_walk.specs.Accept.{Answer, accept, best_after, break_after, break_before, break_of}
use Rattle.mirror_walk.specs.Accept.{breaks_of_kind}
use Rattle.mirror_walk.specs.Accept.{broken, conflict, counterpart, counterpart_of_kind, first_of, known}
use Rattle.mirror_walk.specs.Accept.{own_text, stale, stale_of_kind, wrong_address, wrong_feed}
use Rattle.mirror_walk.proofs.FeedDocumentLemmas.{IsArchiveOf, IsOfFeed, archive-of, archives-adjoin}
use Rattle.mirror_walk.proofs.FeedDocumentLemmas.{version-adjoins, version-of}
use Rattle.mirror_walk.proofs.FoundLemmas.{Covers, archive_at-holds, best_of-holds}

-- a held document of the feed, with the digest of its text
pub record IsHeldOf (head : HeadValue) (history : List Op) (held : KeptValue) : Type 0 where
  pub of_feed : IsOfFeed head history held.document
  pub id : held.document.name.id ≡ head.name.id
  pub digest : held.digest ≡ sha256 (text held.document)

-- the answer is no refusal, and the mirror covers the document after it
abbrev pub Accepts : List KeptValue → KeptValue → Answer → Type 0
Accepts kept given (Ok Taken) = Unit {0}
Accepts kept given (Ok Known) = Covers kept given.document.span.last given.document.kind
Accepts kept given (Ok Stale) = Covers kept given.document.span.last given.document.kind
Accepts kept given (Err refusal) = ⊥

-- the first answer of some that fit

pub first_of-fits : (P : Answer → Type 0) (answers : List (Option Answer))
    → AllByRecursion (λ a. IfSome a P) answers
    → IfSome (first_of answers) P
first_of-fits P [] all = tt
first_of-fits P (None ∷ more) all = first_of-fits P more all.1
first_of-fits P (Some answer ∷ more) all = all.0

unwrap_or-fits : (P : Answer → Type 0) (answer : Option Answer) (default : Answer) → IfSome answer P
    → P default
    → P (unwrap_or answer default)
unwrap_or-fits P None default fits is_default = is_default
unwrap_or-fits P (Some answer) default fits is_default = fits

-- an answer that is made from a document that may be held
pub and_then-fits : (P : Answer → Type 0) (answer : KeptValue → Option Answer) (held : Option KeptValue)
    → ((k : KeptValue) → held ≡ Some k → IfSome (answer k) P) → IfSome (option_and_then answer held) P
and_then-fits P answer None fits = tt
and_then-fits P answer (Some k) fits = fits k refl

-- a document that may be held and passes a test
passes-test : (test : KeptValue → Bool) (o : Option KeptValue) (held : KeptValue)
    → option_and_then (λ k. if test k then Some k else None) o ≡ Some held
    → (o ≡ Some held) × (test held ≡ true)
passes-test test None held e = absurd (cc)
passes-test test (Some k) held e =
    let parts = cond_some (test k) k held e in
    (ap Some parts.1, ap test (sym parts.1) ∙ parts.0)

-- a document of the feed beside the documents held

address-fits : (P : Answer → Type 0) (base address : List ℕ) (document : DocValue) → document.name.base ≡ base
    → address ≡ own_text document → IfSome (wrong_address base address document) P
unfolding wrong_address
address-fits P base address document same there =
    let one = (bytes_eq-Decides document.name.base base).1 same in
    let other = (bytes_eq-Decides address (own_text document)).1 there in
    rw (one, other) tt

feed-fits : (P : Answer → Type 0) (head : HeadValue) (history : List Op) (kept : List KeptValue)
    (document : DocValue)
    → All (IsHeldOf head history) kept → document.name.id ≡ head.name.id → IfSome (wrong_feed kept document) P
unfolding wrong_feed
feed-fits P head history [] document all id = tt
feed-fits P head history (first ∷ more) document all id =
    let same = (bytes_eq-Decides first.document.name.id document.name.id).1
    ((All-head (IsHeldOf head history) first more all).id ∙ sym id) in
    rw same tt

-- the document held in its place is the same document
same-document : (head : HeadValue) (history : List Op) (kept : List KeptValue) (document : DocValue)
    (held : KeptValue)
    → All (IsHeldOf head history) kept → IsOfFeed head history document → (kind : Kind) → document.kind ≡ kind
    → counterpart_of_kind kept document.span.last kind ≡ Some held
    → IsHeldOf head history held × (held.document ≡ document) × Covers kept document.span.last kind
same-document head history kept document held all of_feed Subscription is_kind e =
    let last = document.span.last in
    let passed = passes-test (λ (k : KeptValue). k.document.span.last == last) (best_of kept) held e in
    let ends : held.document.span.last ≡ last = eqb-true held.document.span.last last passed.1 in
    let best = best_of-holds (IsHeldOf head history) kept held all passed.0 in
    let one = version-of head history held.document best.1 best.0.of_feed in
    let other = version-of head history document is_kind of_feed in (
      best.0,
      one.same ∙ ap (λ (version : ℕ). subscription head (take version history)) ends ∙ sym other.same,
      rw passed.0 (omega (arith, ends)),
    )
same-document head history kept document held all of_feed (Sealed number) is_kind e =
    let found = archive_at-holds (IsHeldOf head history) kept number held all e in
    let one = archive-of head history held.document number found.1 found.0.of_feed in
    let other = archive-of head history document number is_kind of_feed in
    (found.0, one.same ∙ sym other.same, ap is_some e)

module _ (head : HeadValue) (history : List Op) (is_head : IsHead head) (kept : List KeptValue)
    (all : All (IsHeldOf head history) kept) (given : KeptValue) (is_given : IsHeldOf head history given)
  where
    abbrev Fits : Option Answer → Type 0
    Fits answer = IfSome answer (Accepts kept given)

    in-place : (held : KeptValue) → counterpart kept given.document ≡ Some held → IsHeldOf head history held
        × (held.document ≡ given.document) × Covers kept given.document.span.last given.document.kind
    unfolding counterpart
    in-place held e =
        same-document head history kept given.document held all is_given.of_feed given.document.kind refl e

    known-fits : Fits (known kept given)
    unfolding known
    known-fits = and_then-fits (Accepts kept given) _ (counterpart kept given.document) (λ held e.
        cond_both (bytes_eq held.digest given.digest) (Some (Ok Known)) None Fits
        (λ same. (in-place held e).2)
        (λ other. tt))

    conflict-fits : Fits (conflict kept given)
    unfolding conflict
    conflict-fits = and_then-fits (Accepts kept given) _ (counterpart kept given.document) (λ held e.
        let found = in-place held e in
        let same = found.0.digest ∙ ap (λ (d : DocValue). sha256 (text d)) found.1 ∙ sym is_given.digest in
        rw ((bytes_eq-Decides held.digest given.digest).1 same) tt)

    stale-fits : (kind : Kind) → given.document.kind ≡ kind
        → Fits (stale_of_kind kept given.document.span.last kind)
    stale-fits (Sealed number) is_kind = tt
    stale-fits Subscription is_kind =
        let last = given.document.span.last in
        and_then-fits (Accepts kept given) _ (best_of kept) (λ best e.
        cond_both (nat_lt last best.document.span.last) (Some (Ok Stale)) None Fits
        (λ older. let covers : Covers kept last given.document.kind =
        rw (is_kind, e) (omega (arith, ltb-true last best.document.span.last older)) in covers)
        (λ newer. tt))

    break-fits : (older newer : DocValue) → older.span.last + 1 ≡ newer.span.first
        → Fits (break_of older newer)
    break-fits older newer adjoin = rw (eq-eqb (older.span.last + 1) newer.span.first adjoin) tt

    after-fits : (older : Option KeptValue)
        → ((k : KeptValue) → older ≡ Some k → k.document.span.last + 1 ≡ given.document.span.first)
        → Fits (break_after given.document older)
    unfolding break_after
    after-fits older adjoins = and_then-fits (Accepts kept given) _ older (λ k e.
        break-fits k.document given.document (adjoins k e))

    before-fits : (newer : Option KeptValue)
        → ((k : KeptValue) → newer ≡ Some k → given.document.span.last + 1 ≡ k.document.span.first)
        → Fits (break_before given.document newer)
    unfolding break_before
    before-fits newer adjoins = and_then-fits (Accepts kept given) _ newer (λ k e.
        break-fits given.document k.document (adjoins k e))

    held-archive : (number : ℕ) (held : KeptValue) → archive_at kept number ≡ Some held
        → IsArchiveOf head history number held.document
    held-archive number held e =
        let found = archive_at-holds (IsHeldOf head history) kept number held all e in
        archive-of head history held.document number found.1 found.0.of_feed

    best_after-adjoins : (number : ℕ) (best : KeptValue) → IsArchiveOf head history number given.document
        → best_after kept number ≡ Some best → given.document.span.last + 1 ≡ best.document.span.first
    unfolding best_after
    best_after-adjoins number best archive e =
        let passed = passes-test (λ (k : KeptValue). k.document.prev == number) (best_of kept) best e in
        let found = best_of-holds (IsHeldOf head history) kept best all passed.0 in
        version-adjoins head history best.document.span.last number given.document best.document is_head
        archive
        (version-of head history best.document found.1 found.0.of_feed)
        (eqb-true best.document.prev number passed.1)

    breaks-fit : (kind : Kind) → given.document.kind ≡ kind
        → AllByRecursion Fits (breaks_of_kind kept given.document kind)
    breaks-fit Subscription is_kind =
        let document = given.document in
        let version = version-of head history document is_kind is_given.of_feed in (
          after-fits (archive_at kept document.prev)
              (λ older e. version-adjoins head history document.span.last
              document.prev older.document document is_head (held-archive document.prev older e) version
              refl),
          tt,
        )
    breaks-fit (Sealed number) is_kind =
        let document = given.document in
        let archive = archive-of head history document number is_kind is_given.of_feed in
        let back : number - 1 + 1 ≡ number = omega (arith, archive.of_sealed.0) in
        let again = subst (λ (n : ℕ). IsArchiveOf head history n document) (sym back) archive in (
          after-fits (archive_at kept (number - 1)) (λ older e. archives-adjoin head history (number - 1)
              older.document
              document is_head (held-archive (number - 1) older e) again),
          (
            before-fits (archive_at kept (number + 1))
                (λ newer e. archives-adjoin head history number document
                newer.document is_head archive (held-archive (number + 1) newer e)),
            (before-fits (best_after kept number) (λ best e. best_after-adjoins number best archive e), tt),
          ),
        )

    broken-fits : Fits (broken kept given.document)
    unfolding broken
    broken-fits = first_of-fits (Accepts kept given) (breaks_of_kind kept given.document given.document.kind)
        (breaks-fit given.document.kind refl)

    -- the answer to a document of the feed, at its own address
    pub accept-accepts : (base address : List ℕ) → given.document.name.base ≡ base
        → address ≡ own_text given.document
        → Accepts kept given (accept base kept address given)
    unfolding accept stale
    accept-accepts base address same there =
        let document = given.document in
        let P = Accepts kept given in
        let answers = wrong_address base address document ∷ wrong_feed kept document ∷ known kept given
        ∷ stale kept document ∷ conflict kept given ∷ broken kept document ∷ [] in
        let each : AllByRecursion Fits answers = (
          address-fits P base address document same there,
          (
            feed-fits P head history kept document all is_given.id,
            (known-fits, (stale-fits document.kind refl, (conflict-fits, (broken-fits, tt)))),
          ),
        ) in
        unwrap_or-fits P (first_of answers) (Ok Taken) (first_of-fits P answers each) tt
