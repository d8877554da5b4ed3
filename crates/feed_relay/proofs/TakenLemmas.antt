-- The answer of a mirror to a document of a relay, where the mirror holds some of the relay's documents.
use Rattle.std.proofs.Common.{◌≡◌, ◌⊎◌, inl, inr, ℕ, ◌+◌, ◌-◌, ◌==◌, ◌≤◌, List, []}
use Rattle.std.proofs.Common.{◌∷◌, All, Option, Some, None, Ok, refl, ap, sym, subst, ◌∙◌, arith, eq-eqb}
use Rattle.std.specs.Str.{bytes_eq}
use Rattle.std.proofs.lemmas.Bool.{cases_Bool, cond-true, cond-false, eqb-true}
use Rattle.std.proofs.lemmas.List.Elements.{All-head}
use Rattle.std.proofs.lemmas.Slice.Eq.{bytes_eq-Decides}
use Rattle.atom_writer.specs.Pieces.{own_address}
use Rattle.atom_writer.specs.declared.doc.Kind.{Kind}
use Rattle.atom_writer.specs.declared.doc.Kind.TheVariants.{Subscription, Archive as Sealed}
use Rattle.chain_links.specs.Address.{printed}
use Rattle.chain_links.specs.declared.address.Address.TheVariants.{Feed, Archive}
use Rattle.mirror_walk.specs.declared.answer.Accepted.TheVariants.{Taken}
use Rattle.mirror_walk.specs.Accept.{accept, best_after, break_after, break_before, break_of, breaks_of_kind, broken}
use Rattle.mirror_walk.specs.Accept.{conflict, counterpart, counterpart_of_kind, first_of, known, stale, stale_of_kind}
use Rattle.mirror_walk.specs.Accept.{wrong_feed}
use Rattle.mirror_walk.specs.Held.{AreHeld, SpansAdjoin}
use Rattle.mirror_walk.specs.Holding.{KeptValue, archive_at, best_of}
use Rattle.mirror_walk.proofs.AcceptLemmas.{by-none}
use Rattle.mirror_walk.proofs.AddressLemmas.{address-right, own_text-printed}
use Rattle.mirror_walk.proofs.FirstLemmas.{first-next}

-- a neighbour that adjoins, or none
break_of-none : (older newer : KeptValue) → SpansAdjoin older newer → break_of older.document newer.document ≡ None
break_of-none older newer adjoins =
    cond-true (older.document.span.last + 1 == newer.document.span.first) None _
    (eq-eqb (older.document.span.last + 1) newer.document.span.first adjoins)

after-none : (given : KeptValue) (older : Option KeptValue)
    → ((k : KeptValue) → older ≡ Some k → SpansAdjoin k given) → break_after given.document older ≡ None
unfolding break_after
after-none given None adjoins = refl
after-none given (Some k) adjoins = break_of-none k given (adjoins k refl)

before-none : (given : KeptValue) (newer : Option KeptValue)
    → ((k : KeptValue) → newer ≡ Some k → SpansAdjoin given k) → break_before given.document newer ≡ None
unfolding break_before
before-none given None adjoins = refl
before-none given (Some k) adjoins = break_of-none given k (adjoins k refl)

feed-none : (id : List ℕ) (kept : List KeptValue) (given : KeptValue) → given.document.name.id ≡ id
    → All (λ (k : KeptValue). k.document.name.id ≡ id) kept → wrong_feed kept given.document ≡ None
unfolding wrong_feed
feed-none id [] given same all = refl
feed-none id (k ∷ kept) given same all =
    cond-true (bytes_eq k.document.name.id given.document.name.id) None _
    ((bytes_eq-Decides k.document.name.id given.document.name.id).1
    (All-head (λ (k : KeptValue). k.document.name.id ≡ id) k kept all ∙ sym same))

-- an archive that isn't held
module _ (kept : List KeptValue) (given : KeptValue) (number : ℕ) (kind : given.document.kind ≡ Sealed number)
    (free : archive_at kept number ≡ None) where
  no-counterpart : counterpart kept given.document ≡ None
  unfolding counterpart
  no-counterpart = ap (counterpart_of_kind kept given.document.span.last) kind ∙ free

  no-known : known kept given ≡ None
  unfolding known
  no-known = rw no-counterpart refl

  no-conflict : conflict kept given ≡ None
  unfolding conflict
  no-conflict = rw no-counterpart refl

  no-stale : stale kept given.document ≡ None
  unfolding stale
  no-stale = ap (stale_of_kind kept given.document.span.last) kind

  pub new-archive : first_of (known kept given ∷ stale kept given.document ∷ conflict kept given ∷ []) ≡ None
  new-archive = rw (no-known, no-stale, no-conflict) refl

-- what a mirror holds of the documents of a relay, whose best subscription document it holds
pub record IsPart (relayed : List KeptValue) (id : List ℕ) (best : KeptValue) (kept : List KeptValue) : Type 0 where
  pub best_is : best_of kept ≡ Some best
  pub archives : (n : ℕ) → (archive_at kept n ≡ None) ⊎ (archive_at kept n ≡ archive_at relayed n)
  pub one_feed : All (λ (k : KeptValue). k.document.name.id ≡ id) kept

module _ (base : List ℕ) (relayed : List KeptValue) (held : AreHeld base relayed) (best : KeptValue)
    (newest : best_of relayed ≡ Some best) where
  -- an archive of the relay that isn't held is taken
  module _ (kept : List KeptValue) (part : IsPart relayed held.id best kept) (number : ℕ) (one : 1 ≤ number)
      (free : archive_at kept number ≡ None) (given : KeptValue) (there : archive_at relayed number ≡ Some given)
      (kind : given.document.kind ≡ Sealed number) (same_base : given.document.name.base ≡ base)
      (same_id : given.document.name.id ≡ held.id) where
    of-relayed : (n : ℕ) (k : KeptValue) → archive_at kept n ≡ Some k → archive_at relayed n ≡ Some k
    of-relayed n k is = elim (part.archives n) [
      | inl none ↦ absurd (cc)
      | inr same ↦ sym same ∙ is
    ]

    older-adjoins : (k : KeptValue) → archive_at kept (number - 1) ≡ Some k → SpansAdjoin k given
    older-adjoins k is =
        let next : (number - 1) + 1 ≡ number = omega (arith, one) in
        held.adjoined.archives (number - 1) k given (of-relayed (number - 1) k is)
        (ap (archive_at relayed) next ∙ there)

    newer-adjoins : (k : KeptValue) → archive_at kept (number + 1) ≡ Some k → SpansAdjoin given k
    newer-adjoins k is = held.adjoined.archives number given k there (of-relayed (number + 1) k is)

    best-adjoins : (k : KeptValue) → best_after kept number ≡ Some k → SpansAdjoin given k
    unfolding best_after
    best-adjoins k is = elim (cases_Bool (best.document.prev == number)) [
      | inl last ↦
          let same : best ≡ k =
          cc (cond-true (best.document.prev == number) (Some best) None last, rw part.best_is at is) in
          subst (SpansAdjoin given) same
          (held.adjoined.best given best newest
          (ap (archive_at relayed) (eqb-true best.document.prev number last) ∙ there))
      | inr other ↦
          absurd (cc (cond-false (best.document.prev == number) (Some best) None other, rw part.best_is at is))
    ]

    whole : broken kept given.document ≡ None
    unfolding broken
    whole =
        ap (λ (k : Kind). first_of (breaks_of_kind kept given.document k)) kind
        ∙ rw (
          after-none given (archive_at kept (number - 1)) older-adjoins,
          before-none given (archive_at kept (number + 1)) newer-adjoins,
          before-none given (best_after kept number) best-adjoins,
        ) refl

    pub archive-taken : accept base kept (printed base (Archive number)) given ≡ Ok Taken
    archive-taken =
        by-none base kept (printed base (Archive number)) given
        (address-right base (printed base (Archive number)) given.document same_base
        (own_text-printed base given.document (Archive number) same_base (sym (ap own_address kind))))
        (feed-none held.id kept given same_id part.one_feed)
        (new-archive kept given number kind free) whole

  -- an empty mirror takes the best subscription document
  pub best-taken : best.document.kind ≡ Subscription → best.document.name.base ≡ base
      → accept base [] (printed base Feed) best ≡ Ok Taken
  best-taken kind same_base =
      ap (λ (a : List ℕ). accept base [] a best)
      (own_text-printed base best.document Feed same_base (sym (ap own_address kind)))
      ∙ first-next base best same_base
