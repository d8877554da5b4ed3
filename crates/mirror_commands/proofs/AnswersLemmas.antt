-- `mirror`: offers one after another have one list of answers.
use Rattle.std.proofs.Common.{◌≡◌, ◌⊎◌, inl, inr, ℕ, ◌+◌, nat_lt, List, [], ◌∷◌, ◌++◌, Bool, true, false, cond, Some, Ok, Err}
use Rattle.std.proofs.Common.{length, refl, sym, ap, subst, ◌∙◌}
use Rattle.atom_writer.specs.Pieces.{text}
use Rattle.feed_journal.specs.Limits.{header_length}
use Rattle.feed_journal.specs.Records.{size_of}
use Rattle.mirror_walk.specs.Accept.{Answer as MirrorAnswer, AnswersOthers, AnswersWithin, IsAnswer, IsAnswerWithin}
use Rattle.mirror_walk.specs.Accept.{accept, accept_within, after_answer, within}
use Rattle.mirror_walk.specs.Holding.{KeptValue, payloads_of}
use Rattle.mirror_walk.specs.Offers.{AreAnswered, Offering}
use Rattle.mirror_walk.specs.declared.answer.Accepted.TheVariants.{Taken, Known, Stale}
use Rattle.mirror_walk.specs.declared.answer.Offered.TheVariants as refusals
use Rattle.mirror_walk.proofs.AcceptLemmas.{IsCheck, accept-is_check}
use Rattle.mirror_walk.proofs.RoomLemmas.{within-accepted, within-refused}
use Rattle.mirror_walk.proofs.TakenLemmas.{same-kept}
use Rattle.mirror_commands.specs.Report.{AreAnsweredWithin, IsReportable}
use Rattle.mirror_commands.proofs.PlaceLemmas.{place_once}

-- the refusal of bytes that are no document
record IsRefusedBytes (kept : List KeptValue) (bytes : List ℕ) (answer : MirrorAnswer) (left : List KeptValue)
    : Type 0 where
  at : ℕ
  is : answer ≡ Err (refusals.NotADocument at)
  others : AnswersOthers kept bytes at left

module _ (capacity : ℕ) (base : List ℕ) where
  answered-as : (kept : List KeptValue) (address bytes : List ℕ) (answer : MirrorAnswer) (left : List KeptValue)
      → IsAnswerWithin capacity base kept address bytes answer left
      → AnswersWithin capacity base kept address bytes answer left ⊎ IsRefusedBytes kept bytes answer left
  answered-as kept address bytes (Ok accepted) left is = inl is
  answered-as kept address bytes (Err (refusals.NotADocument at)) left is =
      inr (record { at = at; is = refl; others = is })
  answered-as kept address bytes (Err (refusals.WrongAddress says)) left is = inl is
  answered-as kept address bytes (Err (refusals.WrongFeed held given)) left is = inl is
  answered-as kept address bytes (Err (refusals.Conflict at held given)) left is = inl is
  answered-as kept address bytes (Err (refusals.Break last first)) left is = inl is
  answered-as kept address bytes (Err (refusals.Full size needed most)) left is = inl is
  answered-as kept address bytes (Err refusals.DiskFault) left is = absurd is
  answered-as kept address bytes (Err refusals.NoMemory) left is = absurd is

  -- an offer has one answer, after which one list of documents is held
  pub answer-once : (kept : List KeptValue) (address bytes : List ℕ) (one other : MirrorAnswer)
      (left more : List KeptValue) → IsAnswerWithin capacity base kept address bytes one left
      → IsAnswerWithin capacity base kept address bytes other more → (other ≡ one) × (more ≡ left)
  answer-once kept address bytes one other left more p q =
      elim (answered-as kept address bytes one left p) [
        | inl d ↦ elim (answered-as kept address bytes other more q) [
          | inl e ↦
              let given = same-kept bytes e.given d.given e.read d.read in
              let same : other ≡ one =
              e.first_fit ∙ ap (accept_within capacity base kept address) given ∙ sym d.first_fit in (
                same,
                e.left_over ∙ ap (λ (g : KeptValue). after_answer kept g other) given
                    ∙ ap (after_answer kept d.given) same ∙ sym d.left_over,
              )
          | inr e ↦ absurd (e.others.no_document d.given.document d.read.is_doc d.read.text)
        ]
        | inr d ↦ elim (answered-as kept address bytes other more q) [
          | inl e ↦ absurd (d.others.no_document e.given.document e.read.is_doc e.read.text)
          | inr e ↦ (
            e.is
                ∙ ap (λ (at : ℕ). Err (refusals.NotADocument at)) (place_once bytes e.at d.at e.others.place
                d.others.place)
                ∙ sym d.is,
            e.others.left_over ∙ sym d.others.left_over,
          )
        ]
      ]

  pub answers-once : (kept : List KeptValue) (offers : List Offering) (one other : List MirrorAnswer)
      (left more : List KeptValue) → AreAnsweredWithin capacity base kept offers one left
      → AreAnsweredWithin capacity base kept offers other more → (other ≡ one) × (more ≡ left)
  answers-once kept [] [] [] left more p q = (refl, q ∙ sym p)
  answers-once kept [] [] (b ∷ other) left more p q = absurd q
  answers-once kept [] (a ∷ one) other left more p q = absurd p
  answers-once kept (offer ∷ offers) [] other left more p q = absurd p
  answers-once kept (offer ∷ offers) (a ∷ one) [] left more p q = absurd q
  answers-once kept (offer ∷ offers) (a ∷ one) (b ∷ other) left more (r, (next, p, ps)) (s, (after, q, qs)) =
      let same = answer-once kept offer.address offer.bytes a b next after p q in
      let rest = answers-once next offers one other left more ps
      (subst (λ (ks : List KeptValue). AreAnsweredWithin capacity base ks offers other more) same.1 qs) in
      ((λ i. same.0 i ∷ rest.0 i), rest.1)

  -- one more offer
  pub answers-push : (kept : List KeptValue) (offers : List Offering) (answers : List MirrorAnswer)
      (middle : List KeptValue) (offer : Offering) (answer : MirrorAnswer) (left : List KeptValue)
      → AreAnsweredWithin capacity base kept offers answers middle → IsReportable answer
      → IsAnswerWithin capacity base middle offer.address offer.bytes answer left
      → AreAnsweredWithin capacity base kept (offers ++ offer ∷ []) (answers ++ answer ∷ []) left
  answers-push kept [] [] middle offer answer left is fits next = (
    fits,
    (
      left,
      subst (λ (k : List KeptValue). IsAnswerWithin capacity base k offer.address offer.bytes answer left) is next,
      refl,
    ),
  )
  answers-push kept [] (a ∷ answers) middle offer answer left is fits next = absurd is
  answers-push kept (o ∷ offers) [] middle offer answer left is fits next = absurd is
  answers-push kept (o ∷ offers) (a ∷ answers) middle offer answer left (r, (after, first, more)) fits next =
      (r, (after, first, answers-push after offers answers middle offer answer left more fits next))

  -- the documents held between the first offers and the others
  pub record IsBetween (kept : List KeptValue) (offers rest : List Offering) (left : List KeptValue) : Type 0 where
    pub first : List MirrorAnswer
    pub second : List MirrorAnswer
    pub middle : List KeptValue
    pub before : AreAnsweredWithin capacity base kept offers first middle
    pub behind : AreAnsweredWithin capacity base middle rest second left

  pub answers-split : (kept : List KeptValue) (offers rest : List Offering) (answers : List MirrorAnswer)
      (left : List KeptValue) → AreAnsweredWithin capacity base kept (offers ++ rest) answers left
      → IsBetween kept offers rest left
  answers-split kept [] rest answers left is =
      record { first = []; second = answers; middle = kept; before = refl; behind = is }
  answers-split kept (offer ∷ offers) rest [] left is = absurd is
  answers-split kept (offer ∷ offers) rest (answer ∷ answers) left (r, (next, one, more)) =
      let between = answers-split next offers rest answers left more in
      record {
        first = answer ∷ between.first;
        second = between.second;
        middle = between.middle;
        before = (r, (next, one, between.before));
        behind = between.behind;
      }

  unreportable : (middle : List KeptValue) (offer : Offering) (rest : List Offering) (second : List MirrorAnswer)
      (left : List KeptValue) (size needed : ℕ)
      → IsAnswerWithin capacity base middle offer.address offer.bytes (Err (refusals.Full size needed capacity)) middle
      → AreAnsweredWithin capacity base middle (offer ∷ rest) second left → ⊥
  unreportable middle offer rest [] left size needed full is = is
  unreportable middle offer rest (answer ∷ second) left size needed full (fits, (next, one, more)) =
      let same = answer-once middle offer.address offer.bytes (Err (refusals.Full size needed capacity)) answer middle
      next full one in
      subst IsReportable same.0 fits tt

  -- offers of which one doesn't fit aren't all answered
  pub full-unanswered : (kept : List KeptValue) (offers : List Offering) (offer : Offering) (rest : List Offering)
      (first answers : List MirrorAnswer) (middle left : List KeptValue) (size needed : ℕ)
      → AreAnsweredWithin capacity base kept offers first middle
      → IsAnswerWithin capacity base middle offer.address offer.bytes (Err (refusals.Full size needed capacity)) middle
      → AreAnsweredWithin capacity base kept (offers ++ offer ∷ rest) answers left → ⊥
  full-unanswered kept offers offer rest first answers middle left size needed before full is =
      let between = answers-split kept offers (offer ∷ rest) answers left is in
      let same = answers-once kept offers first between.first middle between.middle before between.before in
      unreportable middle offer rest between.second left size needed full
      (subst (λ (ks : List KeptValue). AreAnsweredWithin capacity base ks (offer ∷ rest) between.second left) same.1
      between.behind)

  -- answers within a capacity are the answers of a mirror that has room
  answer-plain : (kept : List KeptValue) (address bytes : List ℕ) (answer : MirrorAnswer) (left : List KeptValue)
      → IsReportable answer → IsAnswerWithin capacity base kept address bytes answer left
      → IsAnswer base kept address bytes answer left
  answer-plain kept address bytes (Ok accepted) left fits is =
      within-accepted capacity base kept address bytes accepted left is
  answer-plain kept address bytes (Err why) left fits is =
      within-refused capacity base kept address bytes why left fits is

  pub answers-plain : (kept : List KeptValue) (offers : List Offering) (answers : List MirrorAnswer)
      (left : List KeptValue) → AreAnsweredWithin capacity base kept offers answers left
      → AreAnswered base kept offers answers left
  answers-plain kept [] [] left is = is
  answers-plain kept [] (answer ∷ answers) left is = absurd is
  answers-plain kept (offer ∷ offers) [] left is = absurd is
  answers-plain kept (offer ∷ offers) (answer ∷ answers) left (fits, (next, one, more)) = (
    next,
    answer-plain kept offer.address offer.bytes answer next fits one,
    answers-plain next offers
        answers left more,
  )

-- the capacity in the refusal `Full` is the mirror's

full-test : (test : Bool) (size needed most capacity other more : ℕ)
    → (let full : MirrorAnswer = Err (refusals.Full size needed most) in
    full ≡ cond test (Err (refusals.Full other more capacity)) (Ok Taken)) → most ≡ capacity
full-test true size needed most capacity other more e = cc
full-test false size needed most capacity other more e = absurd (cc)

full-within : (capacity other more size needed most : ℕ) (answer : MirrorAnswer) → IsCheck (Some answer)
    → (let full : MirrorAnswer = Err (refusals.Full size needed most) in full ≡ within capacity other more answer)
    → most ≡ capacity
full-within capacity other more size needed most (Ok Taken) is e =
    full-test (nat_lt capacity (other + more)) size needed most capacity other more e
full-within capacity other more size needed most (Ok Known) is e = absurd (cc)
full-within capacity other more size needed most (Ok Stale) is e = absurd (cc)
full-within capacity other more size needed most (Err (refusals.NotADocument at)) is e = absurd is
full-within capacity other more size needed most (Err (refusals.WrongAddress says)) is e = absurd (cc)
full-within capacity other more size needed most (Err (refusals.WrongFeed held given)) is e = absurd (cc)
full-within capacity other more size needed most (Err (refusals.Conflict at held given)) is e = absurd (cc)
full-within capacity other more size needed most (Err (refusals.Break last first)) is e = absurd (cc)
full-within capacity other more size needed most (Err (refusals.Full s n c)) is e = absurd is
full-within capacity other more size needed most (Err refusals.DiskFault) is e = absurd is
full-within capacity other more size needed most (Err refusals.NoMemory) is e = absurd is

pub full-capacity : (capacity : ℕ) (base : List ℕ) (kept : List KeptValue) (address bytes : List ℕ)
    (left : List KeptValue) (size needed most : ℕ)
    → IsAnswerWithin capacity base kept address bytes (Err (refusals.Full size needed most)) left → most ≡ capacity
unfolding accept_within
full-capacity capacity base kept address bytes left size needed most is =
    full-within capacity (size_of (payloads_of kept)) (length (text is.given.document) + header_length) size needed most
    (accept base kept address is.given) (accept-is_check base kept address is.given) is.first_fit
