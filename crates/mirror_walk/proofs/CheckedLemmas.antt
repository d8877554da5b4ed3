-- The results of the checks of an offered document.
use Rattle.std.proofs.Common.{◌≡◌, ◌≢◌, ◌⊎◌, inl, inr, ℕ, ◌+◌, ◌<◌, List, Ok, Err, length, refl, sym, ap}
use Rattle.std.proofs.Common.{subst, ◌∙◌}
use Rattle.std.proofs.Common.{arith, Some, [], ◌∷◌, ◌++◌}
use Rattle.std.specs.Prelude.{OnOk}
use Rattle.atom_grammar.specs.Refusal.{IsNoDocument, IsPlaceOfRefusal}
use Rattle.atom_grammar.specs.declared.read.ReadFault.{ReadFault}
use Rattle.atom_grammar.specs.declared.read.ReadFault.TheVariants.{NotADocument as NotRead}
use Rattle.atom_grammar.specs.declared.read.ReadFault.TheVariants.{NoMemory as NoReadMemory}
use Rattle.atom_writer.specs.Pieces.{text}
use Rattle.feed_journal.specs.Limits.{header_length}
use Rattle.feed_journal.specs.Records.{size_of}
use Rattle.mirror_walk.specs.declared.answer.Accepted.{Accepted}
use Rattle.mirror_walk.specs.declared.answer.Accepted.TheVariants.{Taken, Known, Stale}
use Rattle.mirror_walk.specs.declared.answer.Offered.{Offered}
use Rattle.mirror_walk.specs.declared.answer.Offered.TheVariants.{NotADocument, WrongAddress, WrongFeed}
use Rattle.mirror_walk.specs.declared.answer.Offered.TheVariants.{Conflict}
use Rattle.mirror_walk.specs.declared.answer.Offered.TheVariants.{Break, Full, DiskFault, NoMemory}
use Rattle.mirror_walk.specs.Accept.{Answer, IsAnswerWithin, IsKeptOf, IsOfRead, IsTakeable, accept}
use Rattle.mirror_walk.specs.Accept.{accept_within, after_answer}
use Rattle.mirror_walk.specs.Holding.{KeptValue, payloads_of}
use Rattle.mirror_walk.specs.Mirror.{MirrorValue}
use Rattle.mirror_walk.specs.Taking.{IsAnswerBefore, IsNoRoom, IsToBeTaken}
use Rattle.mirror_walk.proofs.AcceptLemmas.{IsCheck, accept-is_check}
use Rattle.mirror_walk.proofs.WithinLemmas.{answered-within, fits-first, within-full, within-same, within-taken}

module _ (mirror : MirrorValue) (address bytes : List ℕ) where
  abbrev pub IsRefused : Offered → Type 0
  IsRefused refusal = (refusal ≢ DiskFault)
      × ((refusal ≡ NoMemory) ⊎ IsAnswerBefore mirror address bytes (Err refusal))

  memory-refused : (refusal : Offered) → refusal ≡ NoMemory → IsRefused refusal
  memory-refused refusal spent = (
    λ failed. let clash : NoMemory ≡ DiskFault = sym spent
        ∙ failed in cc,
    inl spent,
  )

  -- `Mirror::offer`: the clause `answer` of a refusal
  pub refused-answers : (refusal : Offered) → IsRefused refusal → let answer : Answer = Err refusal in
      (answer ≡ Err NoMemory) ⊎ (answer ≡ Err DiskFault) ⊎ IsAnswerBefore mirror address bytes answer
  refused-answers refusal (other, inl spent) = inl (ap (λ (r : Offered). Err r) spent)
  refused-answers refusal (other, inr answer) = inr (inr answer)

  -- and of a document that was to be taken
  module _ (given : KeptValue) (payload : List ℕ) (size : mirror.log.size ≡ size_of (payloads_of mirror.kept))
      (to : IsToBeTaken mirror address bytes given payload) where
    new-read : IsKeptOf bytes given
    new-read = subst (λ (b : List ℕ). IsKeptOf b given) to.bytes_are to.taken.read

    new-taken : accept_within mirror.capacity mirror.base mirror.kept address given ≡ Ok Taken
    new-taken = within-taken mirror.capacity mirror.base mirror.kept address given to.accepted
        (omega (arith, to.taken.fits, size, ap length to.taken.read.text))

    -- `Mirror::offer`: the clause `failed_taking`
    pub new-takeable : IsTakeable mirror.capacity mirror.base mirror.kept address bytes
    new-takeable = record { given = given; read = new-read; taken = new-taken }

    pub taken-answers : (answer : Answer) (left : List KeptValue) → OnOk answer (left ≡ mirror.kept ++ given ∷ [])
        → (answer ≡ Ok Taken) ⊎ (answer ≡ Err NoMemory) ⊎ (answer ≡ Err DiskFault)
        → (answer ≡ Err NoMemory) ⊎ (answer ≡ Err DiskFault)
        ⊎ IsAnswerWithin mirror.capacity mirror.base mirror.kept address bytes answer left
    taken-answers answer left kept (inr (inl spent)) = inl spent
    taken-answers answer left kept (inr (inr failed)) = inr (inl failed)
    taken-answers answer left kept (inl taken) = inr (inr (subst
        (λ (r : Answer). IsAnswerWithin mirror.capacity mirror.base mirror.kept address bytes r left)
        (sym taken)
        (record {
          given = given;
          read = new-read;
          first_fit = sym new-taken;
          left_over = subst (λ (r : Answer). OnOk r (left ≡ mirror.kept ++ given ∷ [])) taken kept;
        })))

  -- `Mirror::offer`: the clause `first_fit` from the clause `answer`
  pub answer-fits : (answer : Answer) (left : List KeptValue)
      → (answer ≡ Err NoMemory) ⊎ (answer ≡ Err DiskFault)
      ⊎ IsAnswerWithin mirror.capacity mirror.base mirror.kept address bytes answer left → (given : KeptValue)
      → IsKeptOf bytes given
      → (answer ≡ accept_within mirror.capacity mirror.base mirror.kept address given)
      ⊎ (answer ≡ Err NoMemory) ⊎ (answer ≡ Err DiskFault)
  answer-fits answer left (inl spent) given read = inr (inl spent)
  answer-fits answer left (inr (inl failed)) given read = inr (inr failed)
  answer-fits answer left (inr (inr is)) given read =
      inl (fits-first mirror.capacity mirror.base mirror.kept address bytes answer left is given read)

  -- bytes that are no document
  pub unread-checked : (fault : ReadFault) (refusal : Offered) → IsOfRead fault refusal
      → ((at : ℕ) → fault ≡ NotRead at → IsNoDocument bytes × IsPlaceOfRefusal bytes at) → IsRefused refusal
  unread-checked (NotRead at) refusal is refused =
      let why = refused at refl in
      subst IsRefused (sym is) (
        λ failed. cc,
        inr record { no_document = why.0; place = why.1; left_over = refl },
      )
  unread-checked NoReadMemory refusal is refused = memory-refused refusal is

  module _ (given : KeptValue) (read : IsKeptOf bytes given) where
    abbrev answer : Answer
    answer = accept mirror.base mirror.kept address given

    -- a document that the checks refuse
    pub refusal-checked : (refusal : Offered) → (refusal ≡ NoMemory) ⊎ (answer ≡ Err refusal)
        → IsRefused refusal
    refusal-checked refusal (inl spent) = memory-refused refusal spent
    refusal-checked refusal (inr is) =
        let check = subst (λ (r : Answer). IsCheck (Some r)) is
        (accept-is_check mirror.base mirror.kept address given) in
        let same : accept_within mirror.capacity mirror.base mirror.kept address given ≡ answer =
        within-same mirror.capacity mirror.base mirror.kept address given
        (λ taken. let clash : Err refusal ≡ Ok Taken = sym is ∙ taken in cc) in (
          λ failed. subst (λ (r : Offered). IsCheck (Some (Err r))) failed check,
          inr (answered-within mirror.capacity mirror.base mirror.kept address bytes given (Err refusal)
              mirror.kept
              read (sym is ∙ sym same) refl),
        )

    -- `Known` or `Stale`
    pub accepted-checked : (accepted : Accepted) → answer ≡ Ok accepted → accepted ≢ Taken
        → IsAnswerBefore mirror address bytes (Ok accepted)
    accepted-checked accepted is other =
        let same : accept_within mirror.capacity mirror.base mirror.kept address given ≡ answer =
        within-same mirror.capacity mirror.base mirror.kept address given
        (λ taken. other (of accepted (sym is ∙ taken))) in
        answered-within mirror.capacity mirror.base mirror.kept address bytes given (Ok accepted) mirror.kept
        read
        (sym is ∙ sym same) (left accepted other)
      where
        of : (one : Accepted) → (let said : Answer = Ok one in said) ≡ Ok Taken → one ≡ Taken
        of one is = cc

        left : (one : Accepted) → one ≢ Taken → mirror.kept ≡ after_answer mirror.kept given (Ok one)
        left Taken other = absurd (other refl)
        left Known other = refl
        left Stale other = refl

    -- a document that doesn't fit
    pub full-checked : (refusal : Offered) → answer ≡ Ok Taken → mirror.log.size
        ≡ size_of (payloads_of mirror.kept)
        → IsNoRoom mirror (length bytes + header_length) refusal → IsRefused refusal
    full-checked (NotADocument at) taken size full = absurd full
    full-checked (WrongAddress says) taken size full = absurd full
    full-checked (WrongFeed held other) taken size full = absurd full
    full-checked (Conflict own held other) taken size full = absurd full
    full-checked (Break last next) taken size full = absurd full
    full-checked (Full one other most) taken size full =
        let needed : other ≡ length (text given.document) + header_length =
        full.1 ∙ ap (λ (b : List ℕ). length b + header_length) read.text in
        let total : one ≡ size_of (payloads_of mirror.kept) = full.0 ∙ size in
        let capacity : most ≡ mirror.capacity = full.2 in
        let past : mirror.capacity < size_of (payloads_of mirror.kept)
        + (length (text given.document) + header_length) = omega (arith, full.3, needed, total, capacity) in
        let is = within-full mirror.capacity mirror.base mirror.kept address given taken past in
        let said : Err (Full one other most)
        ≡ accept_within mirror.capacity mirror.base mirror.kept address given = cc in (
          λ failed. cc,
          inr (answered-within mirror.capacity mirror.base mirror.kept address bytes given
              (Err (Full one other most))
              mirror.kept read said refl),
        )
    full-checked DiskFault taken size full = absurd full
    full-checked NoMemory taken size full = memory-refused NoMemory refl
