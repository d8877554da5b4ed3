-- The answer of a mirror whose area has a capacity.
use Rattle.std.proofs.Common.{◌≡◌, ◌≢◌, ◌⊎◌, inl, inr, ℕ, ◌+◌, ◌<◌, ◌≤◌, nat_lt, Bool, true, false, cond}
use Rattle.std.proofs.Common.{List}
use Rattle.std.proofs.Common.{Some, Ok, Err, IsOk, length, refl, sym, ap, subst, ◌∙◌}
use Rattle.std.specs.Prelude.{IfErr}
use Rattle.std.proofs.lemmas.Bool.{cond-true, cond-false, lt-ltb, le-ltb}
use Rattle.atom_writer.specs.Pieces.{text}
use Rattle.feed_journal.specs.Limits.{header_length}
use Rattle.feed_journal.specs.Records.{size_of}
use Rattle.member_rules.specs.Head.{HeadValue}
use Rattle.member_rules.specs.Served.{Served}
use Rattle.member_rules.specs.declared.operation.Op.{Op}
use Rattle.mirror_walk.specs.declared.answer.Accepted.TheVariants.{Taken, Known, Stale}
use Rattle.mirror_walk.specs.declared.answer.Offered.TheVariants.{NotADocument, WrongAddress, WrongFeed}
use Rattle.mirror_walk.specs.declared.answer.Offered.TheVariants.{Conflict}
use Rattle.mirror_walk.specs.declared.answer.Offered.TheVariants.{Break, Full, DiskFault, NoMemory}
use Rattle.mirror_walk.specs.Accept.{Answer, AnswersDocument, AnswersWithin, IsAnswer, IsAnswerWithin}
use Rattle.mirror_walk.specs.Accept.{IsForRoom}
use Rattle.mirror_walk.specs.Accept.{IsKeptOf, accept, accept_within, after_answer, within}
use Rattle.mirror_walk.specs.Holding.{KeptValue, payloads_of}
use Rattle.mirror_walk.specs.Offers.{AreServed, AreTakenOf, Offering}
use Rattle.mirror_walk.proofs.AcceptLemmas.{IsCheck, accept-is_check}
use Rattle.mirror_walk.proofs.FeedDocumentLemmas.{served-reading}
use Rattle.mirror_walk.proofs.MirrorLemmas.{served_is_accepted}
use Rattle.mirror_walk.proofs.TakenLemmas.{same-kept}

-- a refusal of a document by the checks and the room
abbrev IsAnswered : Answer → Type 0
IsAnswered (Ok accepted) = Unit {0}
IsAnswered (Err (NotADocument at)) = ⊥
IsAnswered (Err DiskFault) = ⊥
IsAnswered (Err NoMemory) = ⊥
IsAnswered (Err refusal) = Unit {0}

of_test : (test : Bool) (one other : Answer) → IsAnswered one → IsAnswered other
    → IsAnswered (cond test one other)
of_test true one other is is' = is
of_test false one other is is' = is'

within-answered : (capacity size needed : ℕ) (answer : Answer) → IsCheck (Some answer)
    → IsAnswered (within capacity size needed answer)
within-answered capacity size needed (Ok Taken) is =
    of_test (nat_lt capacity (size + needed)) (Err (Full size needed capacity)) (Ok Taken) tt tt
within-answered capacity size needed (Ok Known) is = tt
within-answered capacity size needed (Ok Stale) is = tt
within-answered capacity size needed (Err (NotADocument at)) is = is
within-answered capacity size needed (Err (WrongAddress says)) is = tt
within-answered capacity size needed (Err (WrongFeed held given)) is = tt
within-answered capacity size needed (Err (Conflict address held given)) is = tt
within-answered capacity size needed (Err (Break last first)) is = tt
within-answered capacity size needed (Err (Full one other most)) is = tt
within-answered capacity size needed (Err DiskFault) is = is
within-answered capacity size needed (Err NoMemory) is = is

accept_within-answered : (capacity : ℕ) (base : List ℕ) (kept : List KeptValue) (address : List ℕ)
    (given : KeptValue)
    → IsAnswered (accept_within capacity base kept address given)
unfolding accept_within
accept_within-answered capacity base kept address given =
    within-answered capacity (size_of (payloads_of kept)) (length (text given.document) + header_length)
    (accept base kept address given) (accept-is_check base kept address given)

-- the answer to the bytes of a document
pub answered-within : (capacity : ℕ) (base : List ℕ) (kept : List KeptValue) (address bytes : List ℕ)
    (given : KeptValue) (answer : Answer) (left : List KeptValue) → IsKeptOf bytes given
    → answer ≡ accept_within capacity base kept address given → left ≡ after_answer kept given answer
    → IsAnswerWithin capacity base kept address bytes answer left
answered-within capacity base kept address bytes given answer left read first rest =
    go answer first rest (subst IsAnswered (sym first)
    (accept_within-answered capacity base kept address given))
  where
    go : (answer : Answer) → answer ≡ accept_within capacity base kept address given
        → left ≡ after_answer kept given answer → IsAnswered answer
        → IsAnswerWithin capacity base kept address bytes answer left
    go (Ok accepted) first rest is =
        record { given = given; read = read; first_fit = first; left_over = rest }
    go (Err (NotADocument at)) first rest is = absurd is
    go (Err (WrongAddress says)) first rest is =
        record { given = given; read = read; first_fit = first; left_over = rest }
    go (Err (WrongFeed held other)) first rest is =
        record { given = given; read = read; first_fit = first; left_over = rest }
    go (Err (Conflict own held other)) first rest is =
        record { given = given; read = read; first_fit = first; left_over = rest }
    go (Err (Break last next)) first rest is =
        record { given = given; read = read; first_fit = first; left_over = rest }
    go (Err (Full size needed most)) first rest is =
        record { given = given; read = read; first_fit = first; left_over = rest }
    go (Err DiskFault) first rest is = absurd is
    go (Err NoMemory) first rest is = absurd is

-- a document that is to be taken has room, or is refused with the three numbers
pub within-taken : (capacity : ℕ) (base : List ℕ) (kept : List KeptValue) (address : List ℕ)
    (given : KeptValue)
    → accept base kept address given ≡ Ok Taken
    → size_of (payloads_of kept) + (length (text given.document) + header_length) ≤ capacity
    → accept_within capacity base kept address given ≡ Ok Taken
unfolding accept_within
within-taken capacity base kept address given taken fits =
    ap (within capacity (size_of (payloads_of kept)) (length (text given.document) + header_length)) taken
    ∙ cond-false (nat_lt capacity (size_of (payloads_of kept) +
    (length (text given.document) + header_length)))
    (Err (Full (size_of (payloads_of kept)) (length (text given.document) + header_length) capacity))
    (Ok Taken)
    (le-ltb _ _ fits)

pub within-full : (capacity : ℕ) (base : List ℕ) (kept : List KeptValue) (address : List ℕ)
    (given : KeptValue)
    → accept base kept address given ≡ Ok Taken
    → capacity < size_of (payloads_of kept) + (length (text given.document) + header_length)
    → accept_within capacity base kept address given
    ≡ Err (Full (size_of (payloads_of kept)) (length (text given.document) + header_length) capacity)
unfolding accept_within
within-full capacity base kept address given taken past =
    ap (within capacity (size_of (payloads_of kept)) (length (text given.document) + header_length)) taken
    ∙ cond-true (nat_lt capacity (size_of (payloads_of kept) +
    (length (text given.document) + header_length)))
    (Err (Full (size_of (payloads_of kept)) (length (text given.document) + header_length) capacity))
    (Ok Taken)
    (lt-ltb _ _ past)

-- an answer that is no `Taken` doesn't depend on the room
pub within-same : (capacity : ℕ) (base : List ℕ) (kept : List KeptValue) (address : List ℕ)
    (given : KeptValue)
    → accept base kept address given ≢ Ok Taken
    → accept_within capacity base kept address given ≡ accept base kept address given
unfolding accept_within
within-same capacity base kept address given other = go (accept base kept address given) other
  where
    go : (answer : Answer) → answer ≢ Ok Taken → within capacity (size_of (payloads_of kept))
        (length (text given.document) + header_length) answer ≡ answer
    go (Ok Taken) other = absurd (other refl)
    go (Ok Known) other = refl
    go (Ok Stale) other = refl
    go (Err refusal) other = refl

-- `Mirror::offer`: the clause `first_fit` from the clause `answer`
pub fits-first : (capacity : ℕ) (base : List ℕ) (kept : List KeptValue) (address bytes : List ℕ)
    (answer : Answer)
    (left : List KeptValue) → IsAnswerWithin capacity base kept address bytes answer left
    → (given : KeptValue)
    → IsKeptOf bytes given → answer ≡ accept_within capacity base kept address given
fits-first capacity base kept address bytes answer left is given read = go answer is
  where
    of : (answer : Answer) → AnswersWithin capacity base kept address bytes answer left
        → answer ≡ accept_within capacity base kept address given
    of answer is =
        is.first_fit
        ∙ ap (accept_within capacity base kept address) (same-kept bytes is.given given is.read read)

    go : (answer : Answer) → IsAnswerWithin capacity base kept address bytes answer left
        → answer ≡ accept_within capacity base kept address given
    go (Ok accepted) is = of (Ok accepted) is
    go (Err (NotADocument at)) is = absurd (is.no_document given.document read.is_doc read.text)
    go (Err (WrongAddress says)) is = of (Err (WrongAddress says)) is
    go (Err (WrongFeed held other)) is = of (Err (WrongFeed held other)) is
    go (Err (Conflict own held other)) is = of (Err (Conflict own held other)) is
    go (Err (Break last next)) is = of (Err (Break last next)) is
    go (Err (Full size needed most)) is = of (Err (Full size needed most)) is
    go (Err DiskFault) is = absurd is
    go (Err NoMemory) is = absurd is

-- `Mirror::offer`: the clause `served` from the clause `answer`
module _ (capacity : ℕ) (base : List ℕ) (kept : List KeptValue) (address bytes : List ℕ)
    (left : List KeptValue)
    (head : HeadValue) (history : List Op) (offers : List Offering) (same : base ≡ head.name.base)
    (served : AreServed head history offers) (taken : AreTakenOf base offers kept)
    (there : Served head history address bytes) where
  -- a document's answer without the room
  accepted : (given : KeptValue) → IsKeptOf bytes given → IsOk (accept base kept address given)
  accepted given read = go (accept base kept address given) refl
    where
      answers : (answer : Answer) → accept base kept address given ≡ answer
          → AnswersDocument base kept address bytes answer (after_answer kept given answer)
      answers answer is = record { given = given; read = read; first_fit = sym is; left_over = refl }

      ok : (answer : Answer) → IsAnswer base kept address bytes answer (after_answer kept given answer)
          → IsOk answer
      ok answer is = served_is_accepted base kept address bytes answer (after_answer kept given answer) is
          head history
          offers same served taken there

      go : (answer : Answer) → accept base kept address given ≡ answer → IsOk answer
      go (Ok accepted) is = refl
      go (Err (NotADocument at)) is =
          absurd (subst (λ (r : Answer). IsCheck (Some r)) is (accept-is_check base kept address given))
      go (Err (WrongAddress says)) is = ok (Err (WrongAddress says)) (answers (Err (WrongAddress says)) is)
      go (Err (WrongFeed held other)) is = ok (Err (WrongFeed held other))
          (answers (Err (WrongFeed held other)) is)
      go (Err (Conflict own held other)) is =
          ok (Err (Conflict own held other)) (answers (Err (Conflict own held other)) is)
      go (Err (Break last next)) is = ok (Err (Break last next)) (answers (Err (Break last next)) is)
      go (Err (Full size needed most)) is = ok (Err (Full size needed most))
          (answers (Err (Full size needed most)) is)
      go (Err DiskFault) is =
          absurd (subst (λ (r : Answer). IsCheck (Some r)) is (accept-is_check base kept address given))
      go (Err NoMemory) is =
          absurd (subst (λ (r : Answer). IsCheck (Some r)) is (accept-is_check base kept address given))

  -- the room refuses by its own numbers alone
  roomed : (size needed : ℕ) (answer : Answer) → IsOk answer
      → IfErr (within capacity size needed answer) IsForRoom
  roomed size needed (Ok Taken) is = of_room (nat_lt capacity (size + needed))
    where
      of_room : (test : Bool)
          → IfErr (cond test (let full : Answer = Err (Full size needed capacity) in full) (Ok Taken))
          IsForRoom
      of_room true = tt
      of_room false = tt
  roomed size needed (Ok Known) is = tt
  roomed size needed (Ok Stale) is = tt
  roomed size needed (Err refusal) is = absurd (cc)

  for_room : (given : KeptValue) → IsKeptOf bytes given
      → IfErr (accept_within capacity base kept address given) IsForRoom
  unfolding accept_within
  for_room given read = roomed (size_of (payloads_of kept)) (length (text given.document) + header_length)
      (accept base kept address given) (accepted given read)

  of : (answer : Answer) → AnswersWithin capacity base kept address bytes answer left → IfErr answer IsForRoom
  of answer is = subst (λ (r : Answer). IfErr r IsForRoom) (sym is.first_fit) (for_room is.given is.read)

  refused : (answer : Answer) → IsAnswerWithin capacity base kept address bytes answer left
      → IfErr answer IsForRoom
  refused (Ok accepted) is = tt
  refused (Err (NotADocument at)) is =
      let found = served-reading head history address bytes there in
      absurd (is.no_document found.0 found.1.is_doc found.1.text)
  refused (Err (WrongAddress says)) is = of (Err (WrongAddress says)) is
  refused (Err (WrongFeed held other)) is = of (Err (WrongFeed held other)) is
  refused (Err (Conflict own held other)) is = of (Err (Conflict own held other)) is
  refused (Err (Break last next)) is = of (Err (Break last next)) is
  refused (Err (Full size needed most)) is = tt
  refused (Err DiskFault) is = absurd is
  refused (Err NoMemory) is = absurd is

  pub offer-served : (answer : Answer)
      → (answer ≡ Err NoMemory) ⊎ (answer ≡ Err DiskFault)
      ⊎ IsAnswerWithin capacity base kept address bytes answer left → IfErr answer IsForRoom
  offer-served answer (inl spent) = subst (λ (r : Answer). IfErr r IsForRoom) (sym spent) tt
  offer-served answer (inr (inl failed)) = subst (λ (r : Answer). IfErr r IsForRoom) (sym failed) tt
  offer-served answer (inr (inr is)) = refused answer is
