-- The answer to an offer, from the checks that the offer went through.
use Rattle.std.proofs.Common.{◌≡◌, ◌⊎◌, inl, inr, ℕ, ◌+◌, ◌-◌, ◌==◌, nat_lt, ◌&&◌, Bool, true, false}
use Rattle.std.proofs.Common.{cond}
use Rattle.std.proofs.Common.{List, [], ◌∷◌, Option, Some, None, Result, Ok, Err, refl, sym, ap, subst, ◌∙◌}
use Rattle.std.specs.Option.{option_or}
use Rattle.std.specs.Prelude.{IsErrAnd, MatchResult, option_and_then, slice_get, unwrap_or}
use Rattle.std.specs.Str.{bytes_eq}
use Rattle.atom_writer.specs.Doc.{DocValue}
use Rattle.atom_writer.specs.declared.doc.Kind.{Kind}
use Rattle.atom_writer.specs.declared.doc.Kind.TheVariants.{Subscription, Archive as Sealed}
use Rattle.atom_writer.specs.Pieces.{own_address}
use Rattle.mirror_walk.specs.declared.answer.Accepted.{Accepted}
use Rattle.mirror_walk.specs.declared.answer.Accepted.TheVariants.{Taken, Known, Stale}
use Rattle.mirror_walk.specs.declared.answer.Offered.{Offered}
use Rattle.mirror_walk.specs.declared.answer.Offered.TheVariants.{NotADocument, WrongAddress, WrongFeed}
use Rattle.mirror_walk.specs.declared.answer.Offered.TheVariants.{Conflict}
use Rattle.mirror_walk.specs.declared.answer.Offered.TheVariants.{Break, Full, DiskFault, NoMemory}
use Rattle.mirror_walk.specs.Accept.{Answer, accept}
use Rattle.mirror_walk.specs.Accept.{best_after}
use Rattle.mirror_walk.specs.Accept.{break_of, own_text, break_after, break_before, breaks_of_kind, broken}
use Rattle.mirror_walk.specs.Accept.{conflict}
use Rattle.mirror_walk.specs.Accept.{counterpart, first_of, known, stale, stale_of_kind, wrong_address}
use Rattle.mirror_walk.specs.Accept.{wrong_feed}
use Rattle.mirror_walk.specs.Checks.{Refuses}
use Rattle.mirror_walk.specs.Holding.{KeptValue, archive_at, best_of}

-- `Known`, `Stale` and `Conflict` are compared in one step
pub accept-form : (base : List ℕ) (kept : List KeptValue) (address : List ℕ) (given : KeptValue)
    → accept base kept address given
    ≡ unwrap_or (option_or (wrong_address base address given.document)
    (option_or (wrong_feed kept given.document)
    (option_or (first_of (known kept given ∷ stale kept given.document ∷ conflict kept given ∷ []))
    (broken kept given.document)))) (Ok Taken)
unfolding accept
accept-form base kept address given = ap (λ (o : Option Answer). unwrap_or o (Ok Taken)) (steps
    (wrong_address base address given.document) (wrong_feed kept given.document) (known kept given)
    (stale kept given.document) (conflict kept given) (broken kept given.document))
  where
    steps : (a f k s c b : Option Answer) → first_of (a ∷ f ∷ k ∷ s ∷ c ∷ b ∷ [])
        ≡ option_or a (option_or f (option_or (first_of (k ∷ s ∷ c ∷ [])) b))
    steps (Some a) f k s c b = refl
    steps None (Some f) k s c b = refl
    steps None None (Some k) s c b = refl
    steps None None None (Some s) c b = refl
    steps None None None None (Some c) b = refl
    steps None None None None None None = refl
    steps None None None None None (Some b) = refl

-- the first check that doesn't pass gives the answer
module _ (base : List ℕ) (kept : List KeptValue) (address : List ℕ) (given : KeptValue) where
  abbrev compared : Option Answer
  compared = first_of (known kept given ∷ stale kept given.document ∷ conflict kept given ∷ [])

  pub by-address : (answer : Answer) → wrong_address base address given.document ≡ Some answer
      → accept base kept address given ≡ answer
  by-address answer is = let form = accept-form base kept address given in cc

  pub by-feed : wrong_address base address given.document ≡ None → (answer : Answer)
      → wrong_feed kept given.document ≡ Some answer → accept base kept address given ≡ answer
  by-feed right answer is = let form = accept-form base kept address given in cc

  pub by-compared : wrong_address base address given.document ≡ None → wrong_feed kept given.document ≡ None
      → (answer : Answer) → compared ≡ Some answer → accept base kept address given ≡ answer
  by-compared right same answer is = let form = accept-form base kept address given in cc

  pub by-neighbours : wrong_address base address given.document ≡ None → wrong_feed kept given.document ≡ None
      → compared ≡ None → (answer : Answer) → broken kept given.document ≡ Some answer
      → accept base kept address given ≡ answer
  by-neighbours right same new answer is = let form = accept-form base kept address given in cc

  pub by-none : wrong_address base address given.document ≡ None → wrong_feed kept given.document ≡ None
      → compared ≡ None → broken kept given.document ≡ None → accept base kept address given ≡ Ok Taken
  by-none right same new whole = let form = accept-form base kept address given in cc

-- a check that refuses gives the answer, unless memory ran out
pub check-refused : (answer : Answer) (check : Option Answer) (refusal : Offered)
    (result : Result (Option Accepted) Offered) → IsErrAnd result (λ given. given ≡ refusal)
    → Refuses check refusal
    → ((given : Answer) → check ≡ Some given → answer ≡ given)
    → MatchResult result (λ found. answer ≡ Ok (unwrap_or found Taken))
    (λ given. (given ≡ NoMemory) ⊎ (answer ≡ Err given))
check-refused answer check refusal (Ok found) is refuses fits = absurd is
check-refused answer check refusal (Err given) is refuses fits = of refusal is refuses
  where
    of : (refusal : Offered) → given ≡ refusal → Refuses check refusal
        → (given ≡ NoMemory) ⊎ (answer ≡ Err given)
    of NoMemory is refuses = inl is
    of (NotADocument at) is refuses = inr (fits _ refuses ∙ ap (λ (r : Offered). Err r) (sym is))
    of (WrongAddress says) is refuses = inr (fits _ refuses ∙ ap (λ (r : Offered). Err r) (sym is))
    of (WrongFeed held other) is refuses = inr (fits _ refuses ∙ ap (λ (r : Offered). Err r) (sym is))
    of (Conflict own held other) is refuses = inr (fits _ refuses ∙ ap (λ (r : Offered). Err r) (sym is))
    of (Full size needed capacity) is refuses = inr (fits _ refuses ∙ ap (λ (r : Offered). Err r) (sym is))
    of DiskFault is refuses = inr (fits _ refuses ∙ ap (λ (r : Offered). Err r) (sym is))
    of (Break last first) is refuses = inr (fits _ refuses ∙ ap (λ (r : Offered). Err r) (sym is))

-- a check refuses by the document alone, and not as the reader of documents does
abbrev pub IsCheck : Option Answer → Type 0
IsCheck None = Unit {0}
IsCheck (Some (Ok accepted)) = Unit {0}
IsCheck (Some (Err (NotADocument at))) = ⊥
IsCheck (Some (Err (Full size needed capacity))) = ⊥
IsCheck (Some (Err DiskFault)) = ⊥
IsCheck (Some (Err NoMemory)) = ⊥
IsCheck (Some (Err refusal)) = Unit {0}

none : Option Answer
none = None

of_test : (test : Bool) (one other : Option Answer) → IsCheck one → IsCheck other
    → IsCheck (cond test one other)
of_test true one other is is_other = is
of_test false one other is is_other = is_other

of_held : (held : Option KeptValue) (f : KeptValue → Option Answer) → ((k : KeptValue) → IsCheck (f k))
    → IsCheck (option_and_then f held)
of_held None f is = tt
of_held (Some k) f is = is k

of_list : (answer : Option Answer) (more : List (Option Answer)) → IsCheck answer → IsCheck (first_of more)
    → IsCheck (first_of (answer ∷ more))
of_list None more is rest = rest
of_list (Some answer) more is rest = is

address-check : (base address : List ℕ) (document : DocValue) → IsCheck (wrong_address base address document)
unfolding wrong_address
address-check base address document =
    of_test (bytes_eq document.name.base base && bytes_eq address (own_text document)) None
    (Some (Err (WrongAddress (own_text document)))) tt tt

feed-check : (kept : List KeptValue) (document : DocValue) → IsCheck (wrong_feed kept document)
unfolding wrong_feed
feed-check kept document =
    of_held (slice_get kept 0) _ (λ k. of_test (bytes_eq k.document.name.id document.name.id) None
    (Some (Err (WrongFeed k.document.name.id document.name.id))) tt tt)

known-check : (kept : List KeptValue) (given : KeptValue) → IsCheck (known kept given)
unfolding known
known-check kept given =
    of_held (counterpart kept given.document) _
    (λ k. of_test (bytes_eq k.digest given.digest) (Some (Ok Known)) None tt tt)

stale-check : (kept : List KeptValue) (document : DocValue) → IsCheck (stale kept document)
unfolding stale
stale-check kept document = of_kind document.kind
  where
    of_kind : (kind : Kind) → IsCheck (stale_of_kind kept document.span.last kind)
    of_kind (Sealed number) = tt
    of_kind Subscription = of_held (best_of kept) _
        (λ k. of_test (nat_lt document.span.last k.document.span.last) (Some (Ok Stale)) None tt tt)

conflict-check : (kept : List KeptValue) (given : KeptValue) → IsCheck (conflict kept given)
unfolding conflict
conflict-check kept given =
    of_held (counterpart kept given.document) _ (λ k. of_test (bytes_eq k.digest given.digest) None
    (Some (Err (Conflict (own_address given.document.kind) k.digest given.digest))) tt tt)

break-check : (older newer : DocValue) → IsCheck (break_of older newer)
break-check older newer =
    of_test (older.span.last + 1 == newer.span.first) None (Some (Err (Break older.span.last
    newer.span.first))) tt tt

before-check : (document : DocValue) (newer : Option KeptValue) → IsCheck (break_before document newer)
unfolding break_before
before-check document newer =
    of_held newer (λ k. break_of document k.document) (λ k. break-check document k.document)

after-check : (document : DocValue) (older : Option KeptValue) → IsCheck (break_after document older)
unfolding break_after
after-check document older =
    of_held older (λ k. break_of k.document document) (λ k. break-check k.document document)

broken-check : (kept : List KeptValue) (document : DocValue) → IsCheck (broken kept document)
unfolding broken
broken-check kept document = of_kind document.kind
  where
    of_kind : (kind : Kind) → IsCheck (first_of (breaks_of_kind kept document kind))
    of_kind Subscription = of_list _ [] (after-check document (archive_at kept document.prev)) tt
    of_kind (Sealed number) =
        of_list _ _ (after-check document (archive_at kept (number - 1)))
        (of_list _ _ (before-check document (archive_at kept (number + 1)))
        (of_list _ [] (before-check document (best_after kept number)) tt))

pub accept-is_check : (base : List ℕ) (kept : List KeptValue) (address : List ℕ) (given : KeptValue)
    → IsCheck (Some (accept base kept address given))
accept-is_check base kept address given = subst (λ (r : Answer). IsCheck (Some r))
    (sym (accept-form base kept address given)) (first (wrong_address base address given.document)
    (wrong_feed kept given.document)
    (first_of (known kept given ∷ stale kept given.document ∷ conflict kept given ∷ []))
    (broken kept given.document) (address-check base address given.document) (feed-check kept given.document)
    (of_list _ _ (known-check kept given) (of_list _ _ (stale-check kept given.document)
    (of_list _ [] (conflict-check kept given) tt)))
    (broken-check kept given.document))
  where
    first : (a f k b : Option Answer) → IsCheck a → IsCheck f → IsCheck k → IsCheck b
        → IsCheck (Some (unwrap_or (option_or a (option_or f (option_or k b))) (Ok Taken)))
    first (Some a) f k b ok_a ok_f ok_k ok_b = ok_a
    first None (Some f) k b ok_a ok_f ok_k ok_b = ok_f
    first None None (Some k) b ok_a ok_f ok_k ok_b = ok_k
    first None None None (Some b) ok_a ok_f ok_k ok_b = ok_b
    first None None None None ok_a ok_f ok_k ok_b = tt
