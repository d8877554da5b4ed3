-- The answers to offers of documents without a disk.
use Rattle.std.proofs.Common.{◌≡◌, ◌≢◌, ◌⊎◌, inl, inr, ℕ, List, Some, Ok, Err, refl, sym, ap, subst, ◌∙◌}
use Rattle.atom_grammar.specs.Refusal.{IsNoDocument, IsPlaceOfRefusal}
use Rattle.atom_grammar.specs.declared.read.ReadFault.{ReadFault}
use Rattle.atom_grammar.specs.declared.read.ReadFault.TheVariants.{NotADocument as NotRead}
use Rattle.atom_grammar.specs.declared.read.ReadFault.TheVariants.{NoMemory as NoReadMemory}
use Rattle.mirror_walk.specs.declared.answer.Accepted.{Accepted}
use Rattle.mirror_walk.specs.declared.answer.Accepted.TheVariants.{Taken, Known, Stale}
use Rattle.mirror_walk.specs.declared.answer.Offered.{Offered}
use Rattle.mirror_walk.specs.declared.answer.Offered.TheVariants.{NotADocument, WrongAddress, WrongFeed}
use Rattle.mirror_walk.specs.declared.answer.Offered.TheVariants.{Conflict}
use Rattle.mirror_walk.specs.declared.answer.Offered.TheVariants.{Break, Full, DiskFault, NoMemory}
use Rattle.mirror_walk.specs.Accept.{Answer, AnswersDocument, IsAnswer, IsKeptOf, IsOfRead, accept, after_answer}
use Rattle.mirror_walk.specs.Holding.{KeptValue}
use Rattle.mirror_walk.proofs.AcceptLemmas.{IsCheck, accept-is_check}
use Rattle.mirror_walk.proofs.TakenLemmas.{same-kept}

module _ (base : List ℕ) (kept : List KeptValue) (address bytes : List ℕ) where
  -- a refusal: of memory, or the answer that fits
  abbrev pub IsRefused : Offered → Type 0
  IsRefused refusal = (refusal ≡ NoMemory) ⊎ IsAnswer base kept address bytes (Err refusal) kept

  -- bytes that are no document
  pub held-unread : (fault : ReadFault) (refusal : Offered) → IsOfRead fault refusal
      → ((at : ℕ) → fault ≡ NotRead at → IsNoDocument bytes × IsPlaceOfRefusal bytes at) → IsRefused refusal
  held-unread (NotRead at) refusal is refused =
      let why = refused at refl in
      subst IsRefused (sym is) (inr record { no_document = why.0; place = why.1; left_over = refl })
  held-unread NoReadMemory refusal is refused = inl is

  answered : (given : KeptValue) (answer : Answer) (left : List KeptValue) → IsCheck (Some answer)
      → AnswersDocument base kept address bytes answer left → IsAnswer base kept address bytes answer left
  answered given (Ok accepted) left check answers = answers
  answered given (Err (NotADocument at)) left check answers = absurd check
  answered given (Err (WrongAddress says)) left check answers = answers
  answered given (Err (WrongFeed one other)) left check answers = answers
  answered given (Err (Conflict own one other)) left check answers = answers
  answered given (Err (Break last next)) left check answers = answers
  answered given (Err (Full size needed capacity)) left check answers = absurd check
  answered given (Err DiskFault) left check answers = absurd check
  answered given (Err NoMemory) left check answers = absurd check

  module _ (given : KeptValue) (read : IsKeptOf bytes given) where
    pub held-answered : (answer : Answer) (left : List KeptValue) → accept base kept address given ≡ answer
        → left ≡ after_answer kept given answer → IsAnswer base kept address bytes answer left
    held-answered answer left is same =
        answered given answer left (subst (λ (r : Answer). IsCheck (Some r)) is
        (accept-is_check base kept address given))
        (record { given = given; read = read; first_fit = sym is; left_over = same })

    -- a document that the checks refuse
    pub held-refused : (refusal : Offered) → (refusal ≡ NoMemory) ⊎ (accept base kept address given ≡ Err refusal)
        → IsRefused refusal
    held-refused refusal (inl spent) = inl spent
    held-refused refusal (inr is) = inr (held-answered (Err refusal) kept is refl)

    -- `Known` or `Stale`
    pub held-accepted : (accepted : Accepted) → accept base kept address given ≡ Ok accepted → accepted ≢ Taken
        → IsAnswer base kept address bytes (Ok accepted) kept
    held-accepted Taken is other = absurd (other refl)
    held-accepted Known is other = held-answered (Ok Known) kept is refl
    held-accepted Stale is other = held-answered (Ok Stale) kept is refl

  -- the clause `first_fit` from the clause `answer`
  pub held-fits : (answer : Answer) (left : List KeptValue)
      → (answer ≡ Err NoMemory) ⊎ IsAnswer base kept address bytes answer left → (given : KeptValue)
      → IsKeptOf bytes given → (answer ≡ accept base kept address given) ⊎ (answer ≡ Err NoMemory)
  held-fits answer left (inl spent) given read = inr spent
  held-fits answer left (inr is) given read = inl (fits answer is)
    where
      of : (one : Answer) → AnswersDocument base kept address bytes one left → one ≡ accept base kept address given
      of one answers = answers.first_fit
          ∙ ap (accept base kept address) (same-kept bytes answers.given given answers.read read)

      fits : (one : Answer) → IsAnswer base kept address bytes one left → one ≡ accept base kept address given
      fits (Ok accepted) is = of (Ok accepted) is
      fits (Err (NotADocument at)) is = absurd (is.no_document given.document read.is_doc read.text)
      fits (Err (WrongAddress says)) is = of (Err (WrongAddress says)) is
      fits (Err (WrongFeed one other)) is = of (Err (WrongFeed one other)) is
      fits (Err (Conflict own one other)) is = of (Err (Conflict own one other)) is
      fits (Err (Break last next)) is = of (Err (Break last next)) is
      fits (Err (Full size needed capacity)) is = of (Err (Full size needed capacity)) is
      fits (Err DiskFault) is = of (Err DiskFault) is
      fits (Err NoMemory) is = absurd is

  -- the clause `answer` of a refusal
  pub refused-answer : (refusal : Offered) → IsRefused refusal → (let answer : Answer = Err refusal in
      (answer ≡ Err NoMemory) ⊎ IsAnswer base kept address bytes answer kept)
  refused-answer refusal (inl spent) = inl (ap (λ (r : Offered). Err r) spent)
  refused-answer refusal (inr is) = inr is
