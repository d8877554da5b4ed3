-- The first document that a mirror takes.
use Rattle.std.proofs.Common.{◌≡◌, ◌≢◌, length, arith, ℕ, ◌+◌, ◌-◌, List, [], ◌∷◌, None, refl, ap}
use Rattle.std.specs.Prelude.{option_and_then}
use Rattle.atom_writer.specs.Doc.{DocValue}
use Rattle.atom_writer.specs.declared.doc.Kind.{Kind}
use Rattle.atom_writer.specs.declared.doc.Kind.TheVariants.{Subscription, Archive as Sealed}
use Rattle.mirror_walk.specs.Accept.{best_after, break_after, break_before, breaks_of_kind, broken}
use Rattle.mirror_walk.specs.Accept.{conflict, counterpart, counterpart_of_kind, first_of, if_ends_with}
use Rattle.mirror_walk.specs.Accept.{known}
use Rattle.mirror_walk.specs.Accept.{own_text, stale, stale_of_kind, wrong_feed}
use Rattle.mirror_walk.specs.Holding.{KeptValue, archive_at, best_of}
use Rattle.mirror_walk.specs.Loading.{IsNext}
use Rattle.mirror_walk.proofs.AcceptLemmas.{by-none}
use Rattle.mirror_walk.proofs.AddressLemmas.{address-right}

no-archive : (number : ℕ) → archive_at [] number ≡ None
unfolding archive_at
no-archive number = refl

no-best : best_of [] ≡ None
unfolding best_of
no-best = refl

no-counterpart : (document : DocValue) → counterpart [] document ≡ None
unfolding counterpart
no-counterpart document = go document.kind
  where
    go : (kind : Kind) → counterpart_of_kind [] document.span.last kind ≡ None
    go Subscription = ap (option_and_then (if_ends_with document.span.last)) no-best
    go (Sealed number) = no-archive number

no-known : (given : KeptValue) → known [] given ≡ None
unfolding known
no-known given = rw (no-counterpart given.document) refl

no-conflict : (given : KeptValue) → conflict [] given ≡ None
unfolding conflict
no-conflict given = rw (no-counterpart given.document) refl

no-stale : (document : DocValue) → stale [] document ≡ None
unfolding stale
no-stale document = go document.kind
  where
    go : (kind : Kind) → stale_of_kind [] document.span.last kind ≡ None
    go Subscription = rw no-best refl
    go (Sealed number) = refl

no-feed : (document : DocValue) → wrong_feed [] document ≡ None
unfolding wrong_feed
no-feed document = refl

no-after : (document : DocValue) (number : ℕ) → break_after document (archive_at [] number) ≡ None
unfolding break_after
no-after document number = rw (no-archive number) refl

no-before : (document : DocValue) (number : ℕ) → break_before document (archive_at [] number) ≡ None
unfolding break_before
no-before document number = rw (no-archive number) refl

no-best_after : (document : DocValue) (number : ℕ) → break_before document (best_after [] number) ≡ None
unfolding break_before best_after
no-best_after document number = rw no-best refl

no-break : (document : DocValue) → broken [] document ≡ None
unfolding broken
no-break document = go document.kind
  where
    go : (kind : Kind) → first_of (breaks_of_kind [] document kind) ≡ None
    go Subscription = rw (no-after document document.prev) refl
    go (Sealed number) = rw (
      no-after document (number - 1),
      no-before document (number + 1),
      no-best_after document number,
    ) refl

-- a mirror that holds no document takes each document with its base
pub first-next : (base : List ℕ) (given : KeptValue) → given.document.name.base ≡ base → IsNext base [] given
first-next base given same =
    by-none base [] (own_text given.document) given
    (address-right base (own_text given.document) given.document same refl) (no-feed given.document)
    (rw (no-known given, no-stale given.document, no-conflict given) refl) (no-break given.document)

-- a first document that isn't taken has another base
pub first_differs : (base : List ℕ) (kept : List KeptValue) (given : KeptValue) → length kept ≡ 0
    → (IsNext base kept given → ⊥) → given.document.name.base ≢ base
first_differs base [] given none other same = other (first-next base given same)
first_differs base (k ∷ kept) given none other same = absurd (omega (arith, none))
