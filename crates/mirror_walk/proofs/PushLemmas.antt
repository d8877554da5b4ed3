-- The documents held after one more document is taken.
use Rattle.std.proofs.Common.{◌≡◌, ℕ, Bool, true, false, cond, if◌then◌else◌, List, [], ◌∷◌, ◌++◌, refl}
use Rattle.std.proofs.Common.{ap, ◌∙◌, Option, Some, None}
use Rattle.std.specs.Prelude.{fold, filter}
use Rattle.std.specs.Option.{option_or}
use Rattle.std.proofs.lemmas.List.Elements.{filter-append}
use Rattle.std.proofs.lemmas.List.Folds.{find-append}
use Rattle.std.proofs.lemmas.List.Sums.{fold-append}
use Rattle.mirror_walk.specs.Holding.{KeptValue, archive_at, best_of, is_archive, is_subscription, newer_of}

option_or-none : {T : Type 0} (o : Option T) → option_or o None ≡ o
option_or-none None = refl
option_or-none (Some x) = refl

-- the new document, if it is the archive of this number
abbrev pub given_at : KeptValue → ℕ → Option KeptValue
given_at given number = if is_archive number given.document.kind then Some given else None

pub archive_at-push : (kept : List KeptValue) (given : KeptValue) (number : ℕ)
    → archive_at (kept ++ given ∷ []) number ≡ option_or (archive_at kept number) (given_at given number)
unfolding archive_at
archive_at-push kept given number =
    find-append (λ (k : KeptValue). is_archive number k.document.kind) kept (given ∷ [])

pub archive_at-push-other : (kept : List KeptValue) (given : KeptValue) (number : ℕ)
    → is_archive number given.document.kind ≡ false
    → archive_at (kept ++ given ∷ []) number ≡ archive_at kept number
archive_at-push-other kept given number other =
    archive_at-push kept given number
    ∙ ap (λ (b : Bool). option_or (archive_at kept number) (if b then Some given else None)) other
    ∙ option_or-none (archive_at kept number)

pub archive_at-push-own : (kept : List KeptValue) (given : KeptValue) (number : ℕ)
    → archive_at kept number ≡ None
    → is_archive number given.document.kind ≡ true → archive_at (kept ++ given ∷ []) number ≡ Some given
archive_at-push-own kept given number new own =
    archive_at-push kept given number
    ∙ ap (λ (b : Bool). option_or (archive_at kept number) (if b then Some given else None)) own
    ∙ ap (λ (o : Option KeptValue). option_or o (Some given)) new

pub best_of-push : (kept : List KeptValue) (given : KeptValue) → best_of (kept ++ given ∷ [])
    ≡ fold newer_of (best_of kept) (filter (λ (k : KeptValue). is_subscription k.document.kind) (given ∷ []))
unfolding best_of
best_of-push kept given =
    let test = λ (k : KeptValue). is_subscription k.document.kind in
    ap (fold newer_of None) (filter-append test kept (given ∷ []))
    ∙ fold-append newer_of None (filter test kept) (filter test (given ∷ []))

pub best_of-push-other : (kept : List KeptValue) (given : KeptValue)
    → is_subscription given.document.kind ≡ false
    → best_of (kept ++ given ∷ []) ≡ best_of kept
best_of-push-other kept given other =
    best_of-push kept given ∙ ap (λ (b : Bool). fold newer_of (best_of kept) (cond b (given ∷ []) [])) other

pub best_of-push-own : (kept : List KeptValue) (given : KeptValue)
    → is_subscription given.document.kind ≡ true
    → best_of (kept ++ given ∷ []) ≡ newer_of (best_of kept) given
best_of-push-own kept given own =
    best_of-push kept given ∙ ap (λ (b : Bool). fold newer_of (best_of kept) (cond b (given ∷ []) [])) own
