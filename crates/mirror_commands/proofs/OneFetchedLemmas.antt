-- `mirror --fetch`: a walk over the documents of a source goes one way, and has one answer.
use Rattle.std.proofs.Common.{◌≡◌, ◌⊎◌, inl, inr, ℕ, List, [], ◌∷◌, ◌++◌, Bool, Option, Some, None, Ok, Err, refl}
use Rattle.std.proofs.Common.{sym, ap, ap₂}
use Rattle.std.proofs.Common.{subst, ◌∙◌}
use Rattle.chain_links.specs.Address.{printed}
use Rattle.chain_links.specs.declared.address.Address.{Address}
use Rattle.chain_links.specs.declared.address.Address.TheVariants.{Feed}
use Rattle.mirror_walk.specs.Accept.{Answer as MirrorAnswer, IsAnswerWithin, IsForRoom}
use Rattle.mirror_walk.specs.Holding.{KeptValue, first_missing}
use Rattle.mirror_walk.specs.Walk.{EndsAt, EndsBefore, HasRefusal, IsAnswered, IsWalked, WalkEnding}
use Rattle.mirror_walk.specs.Walk.{WalkSetting, Walks}
use Rattle.mirror_walk.specs.Walk.WalkEnding.{nothing_wanted, not_there, refused, fetch_failed, filled}
use Rattle.mirror_walk.specs.Walk.WalkEnding.{cut_short, disk_failed}
use Rattle.mirror_walk.specs.declared.answer.Accepted.{Accepted}
use Rattle.mirror_walk.specs.declared.answer.Offered.{Offered}
use Rattle.mirror_walk.specs.declared.answer.Offered.TheVariants.{Full}
use Rattle.mirror_walk.specs.declared.walk.Refusal.{Refusal}
use Rattle.mirror_walk.specs.declared.walk.Walked.{Walked}
use Rattle.command_ends.specs.Answer.{Answer}
use Rattle.command_ends.specs.Fault.{fault_answer}
use Rattle.mirror_commands.specs.MirrorFaults.{full_fault}
use Rattle.mirror_commands.specs.Report.{walk_report}
use Rattle.mirror_commands.specs.Walked.{IsFetched, IsWalkFilled, IsWalkReport, walk_setting}
use Rattle.mirror_commands.proofs.AnswersLemmas.{answer-once}

-- an end that the documents of the source determine
abbrev IsSure : WalkEnding → Type 0
IsSure nothing_wanted = Unit {0}
IsSure not_there = Unit {0}
IsSure (refused why) = Unit {0}
IsSure (filled size needed capacity) = Unit {0}
IsSure fetch_failed = ⊥
IsSure disk_failed = ⊥
IsSure cut_short = ⊥

-- a document or none is at an address
some-none : (found : Option (List ℕ)) (bytes : List ℕ) → found ≡ None → found ≡ Some bytes → ⊥
some-none found bytes e f = absurd (let other : ◌≡◌ {A = Option (List ℕ)} None (Some bytes) = sym e ∙ f in cc)

module _ (setting : WalkSetting) where
  answered-once : (kept : List KeptValue) (address : Address) (one other : MirrorAnswer) (left more : List KeptValue)
      → IsAnswered setting kept address one left → IsAnswered setting kept address other more
      → (other ≡ one) × (more ≡ left)
  answered-once kept address one other left more p q =
      let found : ◌≡◌ {A = Option (List ℕ)} (Some q.bytes) (Some p.bytes) = sym q.there ∙ p.there in
      let same : q.bytes ≡ p.bytes = cc in
      answer-once setting.capacity setting.base kept (printed setting.base address) p.bytes one other left
      more p.answered
      (subst (λ (b : List ℕ). IsAnswerWithin setting.capacity setting.base kept (printed setting.base address) b other
      more) same q.answered)

  -- where nothing is wanted no address is next
  wants-none : (next : Option Address) (address : Address) (ending : WalkEnding) → IsSure ending
      → EndsBefore next ending → next ≡ Some address → ⊥
  wants-none next address nothing_wanted sure ends is =
      absurd (let other : ◌≡◌ {A = Option Address} None (Some address) = sym ends ∙ is in cc)
  wants-none next address not_there sure ends is = ends
  wants-none next address (refused why) sure ends is = ends
  wants-none next address (filled size needed capacity) sure ends is = ends
  wants-none next address fetch_failed sure ends is = ends
  wants-none next address disk_failed sure ends is = sure
  wants-none next address cut_short sure ends is = sure

  before-same : (next : Option Address) (one other : WalkEnding) → IsSure one → IsSure other → EndsBefore next one
      → EndsBefore next other → other ≡ one
  before-same next nothing_wanted nothing_wanted sure too p q = refl
  before-same next nothing_wanted not_there sure too p q = absurd q
  before-same next nothing_wanted (refused why) sure too p q = absurd q
  before-same next nothing_wanted (filled size needed capacity) sure too p q = absurd q
  before-same next nothing_wanted fetch_failed sure too p q = absurd q
  before-same next nothing_wanted disk_failed sure too p q = absurd too
  before-same next nothing_wanted cut_short sure too p q = absurd too
  before-same next not_there other sure too p q = absurd p
  before-same next (refused why) other sure too p q = absurd p
  before-same next (filled size needed capacity) other sure too p q = absurd p
  before-same next fetch_failed other sure too p q = absurd p
  before-same next disk_failed other sure too p q = absurd sure
  before-same next cut_short other sure too p q = absurd sure

  -- the answer at the last address, of which nothing is taken
  record IsLastAnswer (kept : List KeptValue) (address : Address) (ending : WalkEnding) : Type 0 where
    why : Offered
    answered : IsAnswered setting kept address (Err why) kept
    is : (ending ≡ refused why) ⊎ ((size : ℕ) × (needed : ℕ) × (capacity : ℕ) × (why ≡ Full size needed capacity)
        × (ending ≡ filled size needed capacity))
    fits : ending ≡ refused why → ¬ IsForRoom why

  last-answer : (kept : List KeptValue) (address : Address) (ending : WalkEnding) → IsSure ending
      → EndsAt setting kept address ending
      → ((ending ≡ not_there) × EndsAt setting kept address not_there) ⊎ IsLastAnswer kept address ending
  last-answer kept address nothing_wanted sure ends = absurd ends
  last-answer kept address not_there sure ends = inl (refl, ends)
  last-answer kept address (refused why) sure (fits, answered) =
      inr (record { why = why; answered = answered; is = inl refl; fits = λ e. fits })
  last-answer kept address (filled size needed capacity) sure answered = inr (record {
    why = Full size needed capacity;
    answered = answered;
    is = inr (size, needed, capacity, refl, refl);
    fits = λ (e : filled size needed capacity ≡ refused (Full size needed capacity)). absurd (cc);
  })
  last-answer kept address fetch_failed sure ends = absurd sure
  last-answer kept address disk_failed sure ends = absurd sure
  last-answer kept address cut_short sure ends = absurd sure

  last-same : (kept : List KeptValue) (address : Address) (one other : WalkEnding) → IsLastAnswer kept address one
      → IsLastAnswer kept address other → other ≡ one
  last-same kept address one other p q =
      let same = answered-once kept address (Err p.why) (Err q.why) kept kept p.answered q.answered in
      let why : q.why ≡ p.why = let a = same.0 in cc in
      elim p.is [
        | inl e ↦ elim q.is [
          | inl f ↦ f ∙ ap refused why ∙ sym e
          | inr f ↦ absurd (subst (λ (w : Offered). ¬ IsForRoom w) (sym why ∙ f.3) (p.fits e) tt)
        ]
        | inr e ↦ elim q.is [
          | inl f ↦ absurd (subst (λ (w : Offered). ¬ IsForRoom w) (why ∙ e.3) (q.fits f) tt)
          | inr f ↦
              let full : Full f.0 f.1 f.2 ≡ Full e.0 e.1 e.2 = sym f.3 ∙ why ∙ e.3 in
              let size : f.0 ≡ e.0 = cc in
              let needed : f.1 ≡ e.1 = cc in
              let capacity : f.2 ≡ e.2 = cc in
              f.4 ∙ (λ i. filled (size i) (needed i) (capacity i)) ∙ sym e.4
        ]
      ]

  at-same : (kept : List KeptValue) (address : Address) (one other : WalkEnding) → IsSure one → IsSure other
      → EndsAt setting kept address one → EndsAt setting kept address other → other ≡ one
  at-same kept address one other sure too p q =
      elim (last-answer kept address one sure p) [
        | inl a ↦ elim (last-answer kept address other too q) [
          | inl b ↦ b.0 ∙ sym a.0
          | inr b ↦ absurd (some-none (setting.answers (printed setting.base address)) b.answered.bytes a.1
              b.answered.there)
        ]
        | inr a ↦ elim (last-answer kept address other too q) [
          | inl b ↦ absurd (some-none (setting.answers (printed setting.base address)) a.answered.bytes b.1
              a.answered.there)
          | inr b ↦ last-same kept address one other a b
        ]
      ]

  -- a walk that ends at an address doesn't go on after it
  ends-not_on : (kept : List KeptValue) (address : Address) (ending : WalkEnding) (answer : Accepted)
      (after : List KeptValue) → IsSure ending → EndsAt setting kept address ending
      → IsAnswered setting kept address (Ok answer) after → ⊥
  ends-not_on kept address ending answer after sure ends on =
      elim (last-answer kept address ending sure ends) [
        | inl a ↦ some-none (setting.answers (printed setting.base address)) on.bytes a.1 on.there
        | inr a ↦
            let same = answered-once kept address (Err a.why) (Ok answer) kept after a.answered on in
            absurd (let e = same.0 in cc)
      ]

  -- two walks are the same
  record SameWalk (asked more : List Address) (accepted others : List Accepted) (left held : List KeptValue)
      (ending final : WalkEnding) : Type 0 where
    asked_is : more ≡ asked
    accepted_is : others ≡ accepted
    left_is : held ≡ left
    ending_is : final ≡ ending

  walks-once : (kept : List KeptValue) (next : Option Address) (asked more : List Address)
      (accepted others : List Accepted) (left held : List KeptValue) (ending final : WalkEnding) → IsSure ending
      → IsSure final → Walks setting kept next asked accepted left ending →
      Walks setting kept next more others held final
      → SameWalk asked more accepted others left held ending final
  walks-once kept next [] [] [] [] left held ending final sure too (p, ps) (q, qs) = record {
    asked_is = refl;
    accepted_is = refl;
    left_is = q ∙ sym p;
    ending_is = before-same next ending final sure too ps qs;
  }
  walks-once kept next [] more (a ∷ accepted) others left held ending final sure too p q = absurd p
  walks-once kept next asked [] accepted (b ∷ others) left held ending final sure too p q = absurd q
  walks-once kept next [] (v ∷ more) [] [] left held ending final sure too (p, ps) (q, none, stays, ends) =
      absurd (wants-none next v ending sure ps q)
  walks-once kept next [] (v ∷ more) [] (b ∷ others) left held ending final sure too (p, ps) (q, qs) =
      absurd (wants-none next v ending sure ps q)
  walks-once kept next (u ∷ asked) [] [] [] left held ending final sure too (p, none, stays, ends) (q, qs) =
      absurd (wants-none next u final too qs p)
  walks-once kept next (u ∷ asked) [] (a ∷ accepted) [] left held ending final sure too (p, ps) (q, qs) =
      absurd (wants-none next u final too qs p)
  walks-once kept next (u ∷ asked) (v ∷ more) [] [] left held ending final sure too (p, none, stays, ends)
      (q, none_too, stays_too, ends_too) =
      let address : v ≡ u = let both : ◌≡◌ {A = Option Address} (Some v) (Some u) = sym q ∙ p in cc in
      record {
        asked_is = λ i. address i ∷ (none_too ∙ sym none) i;
        accepted_is = refl;
        left_is = stays_too ∙ sym stays;
        ending_is = at-same kept u ending final sure too ends
            (subst (λ (w : Address). EndsAt setting kept w final) address ends_too);
      }
  walks-once kept next (u ∷ asked) (v ∷ more) [] (b ∷ others) left held ending final sure too (p, none, stays, ends)
      (q, (after, on, rest)) =
      let address : v ≡ u = let both : ◌≡◌ {A = Option Address} (Some v) (Some u) = sym q ∙ p in cc in
      absurd (ends-not_on kept u ending b after sure ends
      (subst (λ (w : Address). IsAnswered setting kept w (Ok b) after) address on))
  walks-once kept next (u ∷ asked) (v ∷ more) (a ∷ accepted) [] left held ending final sure too (p, (after, on, rest))
      (q, none, stays, ends) =
      let address : v ≡ u = let both : ◌≡◌ {A = Option Address} (Some v) (Some u) = sym q ∙ p in cc in
      absurd (ends-not_on kept u final a after too
      (subst (λ (w : Address). EndsAt setting kept w final) address ends) on)
  walks-once kept next (u ∷ asked) (v ∷ more) (a ∷ accepted) (b ∷ others) left held ending final sure too
      (p, (after, on, rest)) (q, (behind, on_too, rest_too)) =
      let address : v ≡ u = let both : ◌≡◌ {A = Option Address} (Some v) (Some u) = sym q ∙ p in cc in
      let same = answered-once kept u (Ok a) (Ok b) after behind on
      (subst (λ (w : Address). IsAnswered setting kept w (Ok b) behind) address on_too) in
      let answer : b ≡ a = let e = same.0 in cc in
      let goes = walks-once after (first_missing after) asked more accepted others left held ending final sure too rest
      (subst (λ (ks : List KeptValue). Walks setting ks (first_missing ks) more others held final) same.1 rest_too) in
      record {
        asked_is = λ i. address i ∷ goes.asked_is i;
        accepted_is = λ i. answer i ∷ goes.accepted_is i;
        left_is = goes.left_is;
        ending_is = goes.ending_is;
      }

-- a report's walk met no fault
sure-of_report : (asked : List Address) (ending : WalkEnding) (refusal : Option Refusal)
    → HasRefusal asked ending refusal → IsSure ending
sure-of_report asked nothing_wanted refusal has = tt
sure-of_report asked not_there refusal has = tt
sure-of_report asked (refused why) refusal has = tt
sure-of_report asked fetch_failed refusal has = absurd has
sure-of_report asked (filled size needed capacity) refusal has = absurd has
sure-of_report asked disk_failed refusal has = absurd has
sure-of_report asked cut_short refusal has = absurd has

last-once : (xs ys : List Address) (x y : Address) → xs ++ x ∷ [] ≡ ys ++ y ∷ [] → x ≡ y
last-once [] [] x y e = cc
last-once [] (b ∷ []) x y e = absurd (let none : ◌≡◌ {A = List Address} [] (y ∷ []) = cc in cc)
last-once [] (b ∷ c ∷ ys) x y e = absurd (let none : [] ≡ c ∷ ys ++ y ∷ [] = cc in cc)
last-once (a ∷ []) [] x y e = absurd (let none : ◌≡◌ {A = List Address} (x ∷ []) [] = cc in cc)
last-once (a ∷ c ∷ xs) [] x y e = absurd (let none : c ∷ xs ++ x ∷ [] ≡ [] = cc in cc)
last-once (a ∷ xs) (b ∷ ys) x y e =
    let tail : xs ++ x ∷ [] ≡ ys ++ y ∷ [] = cc in
    last-once xs ys x y tail

-- the refusal of a walk is determined by its end
refusal-once : (asked : List Address) (ending : WalkEnding) (one other : Option Refusal)
    → HasRefusal asked ending one → HasRefusal asked ending other → other ≡ one
refusal-once asked nothing_wanted one other p q = q ∙ sym p
refusal-once asked not_there one other p q = q ∙ sym p
refusal-once asked (refused why) one other p q =
    let address = last-once q.before p.before q.address p.address (sym q.last ∙ p.last) in
    q.is ∙ ap (λ (a : Address). let refusal : Refusal = record { address = a; why = why } in Some refusal) address
    ∙ sym p.is
refusal-once asked fetch_failed one other p q = absurd p
refusal-once asked (filled size needed capacity) one other p q = absurd p
refusal-once asked disk_failed one other p q = absurd p
refusal-once asked cut_short one other p q = absurd p

module _ (report : Bool) (capacity : ℕ) (base : List ℕ) (kept : List KeptValue)
    (answers : List ℕ → Option (List ℕ)) where
  report-once : (one other : Answer) → IsWalkReport report capacity base kept answers one
      → IsWalkReport report capacity base kept answers other → one ≡ other
  unfolding walk_report
  report-once one other p q =
      let same = walks-once (walk_setting capacity base answers) kept (Some Feed) p.asked q.asked p.accepted q.accepted
      p.left q.left p.ending q.ending (sure-of_report p.asked p.ending p.walked.refused p.is_walked.refusal)
      (sure-of_report q.asked q.ending q.walked.refused q.is_walked.refusal) p.walks q.walks in
      let is : IsWalked p.asked p.accepted p.left p.ending q.walked =
      subst (λ (e : WalkEnding). IsWalked p.asked p.accepted p.left e q.walked) same.ending_is
      (subst (λ (l : List KeptValue). IsWalked p.asked p.accepted l q.ending q.walked) same.left_is
      (subst (λ (observable : List Accepted). IsWalked p.asked observable q.left q.ending q.walked) same.accepted_is
      (subst (λ (there : List Address). IsWalked there q.accepted q.left q.ending q.walked) same.asked_is
      q.is_walked))) in
      let walked : q.walked ≡ p.walked =
      let asked = is.asked ∙ sym p.is_walked.asked in
      let taken = is.taken ∙ sym p.is_walked.taken in
      let known = is.known ∙ sym p.is_walked.known in
      let stale = is.stale ∙ sym p.is_walked.stale in
      let refusal = refusal-once p.asked p.ending p.walked.refused q.walked.refused p.is_walked.refusal is.refusal in
      let outcome = is.outcome ∙ sym p.is_walked.outcome in
      λ i. record {
        asked = asked i;
        taken = taken i;
        known = known i;
        stale = stale i;
        refused = refusal i;
        outcome = outcome i;
      } in
      p.is ∙ ap₂ (λ (w : Walked) (l : List KeptValue). walk_report report base w l) (sym walked) (sym same.left_is)
      ∙ sym q.is

  filled-once : (one other : Answer) → IsWalkFilled capacity base kept answers one
      → IsWalkFilled capacity base kept answers other → one ≡ other
  filled-once one other p q =
      let same = walks-once (walk_setting capacity base answers) kept (Some Feed) p.asked q.asked p.accepted q.accepted
      p.left q.left (filled p.size p.needed capacity) (filled q.size q.needed capacity) tt tt p.walks q.walks in
      let ending : filled q.size q.needed capacity ≡ filled p.size p.needed capacity = same.ending_is in
      let size : q.size ≡ p.size = cc in
      let needed : q.needed ≡ p.needed = cc in
      p.is ∙ ap₂ (λ (s n : ℕ). fault_answer (full_fault s n capacity)) (sym size) (sym needed) ∙ sym q.is

  not-both : (one other : Answer) → IsWalkReport report capacity base kept answers one
      → IsWalkFilled capacity base kept answers other → ⊥
  not-both one other p q =
      let same = walks-once (walk_setting capacity base answers) kept (Some Feed) p.asked q.asked p.accepted q.accepted
      p.left q.left p.ending (filled q.size q.needed capacity)
      (sure-of_report p.asked p.ending p.walked.refused p.is_walked.refusal) tt p.walks q.walks in
      subst (λ (e : WalkEnding). HasRefusal p.asked e p.walked.refused) (sym same.ending_is) p.is_walked.refusal

  -- the source has one answer, by the documents held before
  pub fetched-once : (one other : Answer) → IsFetched report capacity base kept answers one
      → IsFetched report capacity base kept answers other → one ≡ other
  fetched-once one other (inl p) (inl q) = report-once one other p q
  fetched-once one other (inl p) (inr q) = absurd (not-both one other p q)
  fetched-once one other (inr p) (inl q) = absurd (not-both other one q p)
  fetched-once one other (inr p) (inr q) = filled-once one other p q
