-- The document that a mirror accepts at an address: a document of that address, which it takes if it holds none in its
-- place.
use Rattle.std.proofs.Common.{◌≡◌, ◌≢◌, ◌⊎◌, inl, inr, ℕ, ◌+◌, ◌-◌, ◌≤◌, nat_lt, ◌==◌, ◌&&◌, Bool, true}
use Rattle.std.proofs.Common.{false, cond, List, [], ◌∷◌, ◌++◌, All, Option, Some, None, IsSome, Ok, Err}
use Rattle.std.proofs.Common.{refl, sym, ap, subst, ◌∙◌}
use Rattle.std.specs.Option.{option_or}
use Rattle.std.specs.Prelude.{IfSome, IsErr, option_and_then, slice_get, unwrap_or}
use Rattle.std.specs.Str.{bytes_eq}
use Rattle.std.proofs.lemmas.Bool.{and_parts, cond_both, eq-eqb, ne_eqb}
use Rattle.std.proofs.lemmas.Slice.Eq.{bytes_eq-Decides}
use Rattle.std.proofs.lemmas.List.Elements.{All-push}
use Rattle.atom_writer.specs.Doc.{DocValue, IsDoc, archive_limit}
use Rattle.atom_writer.specs.Pieces.{own_address}
use Rattle.atom_writer.specs.declared.doc.Kind.{Kind}
use Rattle.atom_writer.specs.declared.doc.Kind.TheVariants.{Subscription, Archive as Sealed}
use Rattle.chain_links.specs.Address.{IsAddress, printed}
use Rattle.chain_links.specs.declared.address.Address.{Address}
use Rattle.chain_links.specs.declared.address.Address.TheVariants.{Feed, Archive}
use Rattle.chain_links.proofs.AddressLemmas.{same_address}
use Rattle.mirror_walk.specs.declared.answer.Accepted.{Accepted}
use Rattle.mirror_walk.specs.declared.answer.Accepted.TheVariants.{Taken, Known, Stale}
use Rattle.mirror_walk.specs.declared.answer.Offered.TheVariants.{WrongAddress, WrongFeed, Break}
use Rattle.mirror_walk.specs.Holding.{KeptValue}
use Rattle.mirror_walk.specs.Accept.{Answer, AnswersDocument, accept, after_answer, best_after, break_after}
use Rattle.mirror_walk.specs.Accept.{break_before, break_of, breaks_of_kind, broken, conflict, counterpart}
use Rattle.mirror_walk.specs.Accept.{first_of, known, own_text, stale, wrong_address, wrong_feed}
use Rattle.mirror_walk.specs.Holding.{archive_at, best_of, gap_from, is_archive, is_subscription, newer_of}
use Rattle.mirror_walk.proofs.AcceptLemmas.{accept-form}
use Rattle.mirror_walk.proofs.FoundLemmas.{covers-push}
use Rattle.mirror_walk.proofs.GapLemmas.{gap-filled}
use Rattle.mirror_walk.proofs.MirrorLemmas.{address-archive, placed-address}
use Rattle.mirror_walk.proofs.NumberLemmas.{archive-numbers}
use Rattle.mirror_walk.proofs.PushLemmas.{best_of-push-other, best_of-push-own}

-- a check that only refuses

abbrev pub Refuses : Option Answer → Type 0
Refuses check = IfSome check IsErr

refuses-held : (answer : KeptValue → Option Answer) (held : Option KeptValue)
    → ((k : KeptValue) → Refuses (answer k))
    → Refuses (option_and_then answer held)
refuses-held answer None is = tt
refuses-held answer (Some k) is = is k

refuses-first : (check : Option Answer) (more : List (Option Answer)) → Refuses check
    → Refuses (first_of more)
    → Refuses (first_of (check ∷ more))
refuses-first None more is rest = rest
refuses-first (Some answer) more is rest = is

refuses-test : (test : Bool) (answer : Answer) → IsErr answer → Refuses (cond test None (Some answer))
refuses-test test answer is = cond_both test None (Some answer) Refuses (λ yes. tt) (λ no. is)

pub address-refuses : (base address : List ℕ) (document : DocValue)
    → Refuses (wrong_address base address document)
unfolding wrong_address
address-refuses base address document =
    refuses-test (bytes_eq document.name.base base && bytes_eq address (own_text document))
    (Err (WrongAddress (own_text document))) refl

pub feed-refuses : (kept : List KeptValue) (document : DocValue) → Refuses (wrong_feed kept document)
unfolding wrong_feed
feed-refuses kept document =
    refuses-held _ (slice_get kept 0) (λ k. refuses-test (bytes_eq k.document.name.id document.name.id)
    (Err (WrongFeed k.document.name.id document.name.id)) refl)

break-refuses : (older newer : DocValue) → Refuses (break_of older newer)
break-refuses older newer =
    refuses-test (older.span.last + 1 == newer.span.first) (Err (Break older.span.last newer.span.first)) refl

before-refuses : (document : DocValue) (newer : Option KeptValue) → Refuses (break_before document newer)
unfolding break_before
before-refuses document newer =
    refuses-held (λ (k : KeptValue). break_of document k.document) newer
    (λ k. break-refuses document k.document)

after-refuses : (document : DocValue) (older : Option KeptValue) → Refuses (break_after document older)
unfolding break_after
after-refuses document older =
    refuses-held (λ (k : KeptValue). break_of k.document document) older (λ k. break-refuses k.document
    document)

pub broken-refuses : (kept : List KeptValue) (document : DocValue) → Refuses (broken kept document)
unfolding broken
broken-refuses kept document = of_kind document.kind
  where
    of_kind : (kind : Kind) → Refuses (first_of (breaks_of_kind kept document kind))
    of_kind Subscription = refuses-first _ [] (after-refuses document (archive_at kept document.prev)) tt
    of_kind (Sealed number) =
        refuses-first _ _ (after-refuses document (archive_at kept (number - 1)))
        (refuses-first _ _ (before-refuses document (archive_at kept (number + 1)))
        (refuses-first _ [] (before-refuses document (best_after kept number)) tt))

-- an accepted document

-- the comparison with the document in its place
abbrev compared : List KeptValue → KeptValue → Option Answer
compared kept given = first_of (known kept given ∷ stale kept given.document ∷ conflict kept given ∷ [])

-- a document that is accepted and has no counterpart is taken
taken-form : (address feed same broken : Option Answer) (accepted : Accepted) → Refuses address → Refuses feed
    → Refuses broken → same ≡ None
    → Ok accepted ≡ unwrap_or (option_or address (option_or feed (option_or same broken))) (Ok Taken)
    → accepted ≡ Taken
taken-form (Some (Ok other)) feed same broken accepted ok_address ok_feed ok_broken none e = absurd (cc)
taken-form (Some (Err why)) feed same broken accepted ok_address ok_feed ok_broken none e = absurd (cc)
taken-form None (Some (Ok other)) same broken accepted ok_address ok_feed ok_broken none e = absurd (cc)
taken-form None (Some (Err why)) same broken accepted ok_address ok_feed ok_broken none e = absurd (cc)
taken-form None None (Some other) broken accepted ok_address ok_feed ok_broken none e = absurd (cc)
taken-form None None None (Some (Ok other)) accepted ok_address ok_feed ok_broken none e = absurd (cc)
taken-form None None None (Some (Err why)) accepted ok_address ok_feed ok_broken none e = absurd (cc)
taken-form None None None None accepted ok_address ok_feed ok_broken none e = cc

taken-new : (base : List ℕ) (kept : List KeptValue) (address : List ℕ) (given : KeptValue)
    (accepted : Accepted)
    → Ok accepted ≡ accept base kept address given → compared kept given ≡ None → accepted ≡ Taken
taken-new base kept address given accepted fits none =
    taken-form (wrong_address base address given.document) (wrong_feed kept given.document)
    (compared kept given) (broken kept given.document) accepted
    (address-refuses base address given.document) (feed-refuses kept given.document)
    (broken-refuses kept given.document) none (fits ∙ accept-form base kept address given)

-- the address is the document's own, below the mirror's base
right-form : (test : Bool) (why : Answer) (rest : Option Answer) (accepted : Accepted) → IsErr why
    → Ok accepted ≡ unwrap_or (option_or (cond test None (Some why)) rest) (Ok Taken) → test ≡ true
right-form true why rest accepted is e = refl
right-form false (Ok other) rest accepted is e = absurd (cc)
right-form false (Err refusal) rest accepted is e = absurd (cc)

own-form : (base address : List ℕ) (document : DocValue) (rest : Option Answer) (accepted : Accepted)
    → Ok accepted ≡ unwrap_or (option_or (wrong_address base address document) rest) (Ok Taken)
    → (document.name.base ≡ base) × (address ≡ own_text document)
unfolding wrong_address
own-form base address document rest accepted e =
    let parts = and_parts (bytes_eq document.name.base base) (bytes_eq address (own_text document))
    (right-form (bytes_eq document.name.base base && bytes_eq address (own_text document))
    (Err (WrongAddress (own_text document))) rest accepted refl e) in (
      (bytes_eq-Decides document.name.base base).0 parts.0,
      (bytes_eq-Decides address (own_text document)).0 parts.1,
    )

own-kind : (base : List ℕ) (kept : List KeptValue) (address : Address) (given : KeptValue)
    (accepted : Accepted)
    → IsAddress address → IsDoc given.document → Ok accepted ≡ accept base kept (printed base address) given
    → address ≡ own_address given.document.kind
own-kind base kept address given accepted is is_doc fits =
    let document = given.document in
    let own = own-form base (printed base address) document _ accepted
    (fits ∙ accept-form base kept (printed base address) given) in
    same_address base address (own_address document.kind) is
    (placed-address document.kind document.span document.prev is_doc.rules.placed)
    (own.1 ∙ ap (λ (b : List ℕ). printed b (own_address document.kind)) own.0)

-- no document is held in the place of a document of this kind

compared-none : (kept : List KeptValue) (given : KeptValue)
    → counterpart kept given.document ≡ None → stale kept given.document ≡ None
    → compared kept given ≡ None
unfolding known conflict
compared-none kept given none fresh = rw (none, fresh) refl

counterpart-archive : (kept : List KeptValue) (document : DocValue) (number : ℕ)
    → document.kind ≡ Sealed number
    → archive_at kept number ≡ None → counterpart kept document ≡ None
unfolding counterpart
counterpart-archive kept document number kind free = rw kind free

stale-archive : (kept : List KeptValue) (document : DocValue) (number : ℕ) → document.kind ≡ Sealed number
    → stale kept document ≡ None
unfolding stale
stale-archive kept document number kind = rw kind refl

counterpart-newest : (kept : List KeptValue) (document : DocValue) → document.kind ≡ Subscription
    → best_of kept ≡ None
    → counterpart kept document ≡ None
unfolding counterpart
counterpart-newest kept document kind none = rw (kind, none) refl

stale-newest : (kept : List KeptValue) (document : DocValue) → document.kind ≡ Subscription
    → best_of kept ≡ None
    → stale kept document ≡ None
unfolding stale
stale-newest kept document kind none = rw (kind, none) refl

-- the documents held after an accepted document

feed-kind : (kind : Kind) → Feed ≡ own_address kind → kind ≡ Subscription
feed-kind Subscription e = refl
feed-kind (Sealed number) e = cc

newer-some : (best : Option KeptValue) (given : KeptValue) → IsSome (newer_of best given)
newer-some None given = refl
newer-some (Some best) given =
    cond_both (nat_lt best.document.span.last given.document.span.last) (Some given) (Some best)
    (λ o. IsSome o)
    (λ newer. refl) (λ older. refl)

-- after a document that was accepted at the feed's address there is a best one
pub feed-accepted : (base : List ℕ) (kept : List KeptValue) (bytes : List ℕ) (accepted : Accepted)
    (left : List KeptValue)
    → AnswersDocument base kept (printed base Feed) bytes (Ok accepted) left → IsSome (best_of left)
feed-accepted base kept bytes accepted left answers =
    let given = answers.given in
    let kind : given.document.kind ≡ Subscription =
    feed-kind given.document.kind (own-kind base kept Feed given accepted tt answers.read.is_doc
    answers.first_fit) in
    let at_once : (best_of kept ≡ None) → accepted ≡ Taken = λ none.
    taken-new base kept (printed base Feed) given accepted answers.first_fit
    (compared-none kept given (counterpart-newest kept given.document kind none)
    (stale-newest kept given.document kind none)) in
    subst (λ (l : List KeptValue). IsSome (best_of l)) (sym answers.left_over)
    (of given kind accepted at_once)
  where
    held : (best : Option KeptValue) → best_of kept ≡ best → (best_of kept ≡ None → ⊥) → IsSome best
    held None e some = absurd (some e)
    held (Some best) e some = refl

    of : (given : KeptValue) → given.document.kind ≡ Subscription → (accepted : Accepted)
        → (best_of kept ≡ None → accepted ≡ Taken) → IsSome (best_of (after_answer kept given (Ok accepted)))
    of given kind Taken new =
        subst (λ (o : Option KeptValue). IsSome o)
        (sym (best_of-push-own kept given (ap is_subscription kind)))
        (newer-some (best_of kept) given)
    of given kind Known new = held (best_of kept) refl (λ none. let clash : Known ≡ Taken = new none in cc)
    of given kind Stale new = held (best_of kept) refl (λ none. let clash : Stale ≡ Taken = new none in cc)

-- the documents left are those held, and at most one more
abbrev pub Adds : List KeptValue → List KeptValue → Type 0
Adds kept left = (left ≡ kept) ⊎ ((given : KeptValue) × IsDoc given.document × (left ≡ kept ++ given ∷ []))

pub answer-adds : (base : List ℕ) (kept : List KeptValue) (address bytes : List ℕ) (accepted : Accepted)
    (left : List KeptValue)
    → AnswersDocument base kept address bytes (Ok accepted) left → Adds kept left
answer-adds base kept address bytes Taken left answers =
    inr (answers.given, answers.read.is_doc, answers.left_over)
answer-adds base kept address bytes Known left answers = inl answers.left_over
answer-adds base kept address bytes Stale left answers = inl answers.left_over

pub adds-documents : (kept left : List KeptValue) → Adds kept left → All (λ (k : KeptValue). IsDoc k.document)
    kept
    → All (λ (k : KeptValue). IsDoc k.document) left
adds-documents kept left (inl same) are = subst
    (λ (l : List KeptValue). All (λ (k : KeptValue). IsDoc k.document) l) (sym same) are
adds-documents kept left (inr (given, is_doc, is)) are =
    subst (λ (l : List KeptValue). All (λ (k : KeptValue). IsDoc k.document) l) (sym is)
    (All-push (λ (k : KeptValue). IsDoc k.document) kept given are is_doc)

-- an archive that isn't held afterwards wasn't held before
pub adds-missing : (kept left : List KeptValue) (number : ℕ) → Adds kept left → archive_at left number ≡ None
    → archive_at kept number ≡ None
adds-missing kept left number (inl same) none = subst (λ (l : List KeptValue). archive_at l number ≡ None)
    same none
adds-missing kept left number (inr (given, is_doc, is)) none = of (archive_at kept number) refl
  where
    of : (o : Option KeptValue) → archive_at kept number ≡ o → o ≡ None
    of None e = refl
    of (Some k) e =
        let some : IsSome (archive_at kept number) = rw e refl in
        let more : IsSome (archive_at left number) = subst (λ (l : List KeptValue). IsSome
        (archive_at l number)) (sym is)
        (covers-push kept given 0 (Sealed number) some) in
        absurd (let clash : IsSome {T = KeptValue} None = subst (λ (o : Option KeptValue). IsSome o) none more
        in cc)

-- the first missing archive is taken, and the next one is below it
pub record IsFilled (kept left : List KeptValue) (newest : KeptValue) (number : ℕ) (accepted : Accepted)
    : Type 0 where
  pub taken : accepted ≡ Taken
  pub most : number ≤ archive_limit
  pub best : best_of left ≡ Some newest
  pub gap : gap_from left newest.document.prev ≡ gap_from kept (number - 1)

is_archive-own : (number : ℕ) (kind : Kind) → kind ≡ Sealed number → is_archive number kind ≡ true
is_archive-own number kind e = ap (is_archive number) e ∙ eq-eqb number number refl

is_archive-other : (number n : ℕ) (kind : Kind) → kind ≡ Sealed number → n ≢ number
    → is_archive n kind ≡ false
is_archive-other number n kind e other = ap (is_archive n) e ∙ ne_eqb number n (λ same. other (sym same))

own-archive : (number : ℕ) (kind : Kind) → Archive number ≡ own_address kind → kind ≡ Sealed number
own-archive number kind e = address-archive kind number (sym e)

pub archive-accepted : (base : List ℕ) (kept : List KeptValue) (best : KeptValue) (number : ℕ)
    (bytes : List ℕ)
    (accepted : Accepted) (left : List KeptValue) → IsAddress (Archive number) → best_of kept ≡ Some best
    → gap_from kept best.document.prev ≡ Some number → archive_at kept number ≡ None
    → AnswersDocument base kept (printed base (Archive number)) bytes (Ok accepted) left
    → IsFilled kept left best number accepted
archive-accepted base kept best number bytes accepted left is best_is gap free answers =
    let given = answers.given in
    let document = given.document in
    let kind : document.kind ≡ Sealed number = own-archive number document.kind
    (own-kind base kept (Archive number) given accepted is answers.read.is_doc answers.first_fit) in
    let taken = taken-new base kept (printed base (Archive number)) given accepted answers.first_fit
    (compared-none kept given (counterpart-archive kept document number kind free)
    (stale-archive kept document number kind)) in
    let after : left ≡ kept ++ given ∷ [] = answers.left_over
    ∙ ap (λ (a : Accepted). after_answer kept given (Ok a)) taken in
    record {
      taken = taken;
      most = (archive-numbers document number answers.read.is_doc.rules kind).most;
      best = ap best_of after ∙ best_of-push-other kept given (ap is_subscription kind) ∙ best_is;
      gap = ap (λ (l : List KeptValue). gap_from l best.document.prev) after
          ∙ gap-filled kept given number free (is_archive-own number document.kind kind)
          (λ n other. is_archive-other number n document.kind kind other) best.document.prev gap;
    }
