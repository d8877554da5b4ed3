-- The addresses of a walk.
use Rattle.std.proofs.Common.{◌≡◌, inl, inr, ℕ, ◌-◌, ◌<◌, ◌≤◌, ◌^◌, List, [], ◌∷◌, All, Option, Some, None}
use Rattle.std.proofs.Common.{IsSome, Ok, Err, refl, sym, ap₂, subst, ◌∙◌, arith, map, option_map}
use Rattle.std.proofs.lemmas.List.Elements.{All-nil, All-cons}
use Rattle.atom_writer.specs.Doc.{IsDoc}
use Rattle.chain_links.specs.Address.{printed}
use Rattle.chain_links.specs.declared.address.Address.{Address}
use Rattle.chain_links.specs.declared.address.Address.TheVariants.{Feed, Archive}
use Rattle.mirror_walk.specs.declared.answer.Accepted.{Accepted}
use Rattle.mirror_walk.specs.declared.answer.Offered.{Offered}
use Rattle.mirror_walk.specs.declared.answer.Offered.TheVariants.{NotADocument, WrongAddress, WrongFeed}
use Rattle.mirror_walk.specs.declared.answer.Offered.TheVariants.{Conflict, Break, Full, DiskFault, NoMemory}
use Rattle.mirror_walk.specs.Holding.{KeptValue}
use Rattle.mirror_walk.specs.Accept.{Answer, AnswersDocument, IsAnswer}
use Rattle.mirror_walk.specs.Holding.{archive_at, best_of, first_missing, gap_from}
use Rattle.mirror_walk.specs.Offers.{AreAnswered, Offering}
use Rattle.mirror_walk.specs.Walk.{AsksOnce, FallsFrom, IsAnswered, WalkEnding, WalkSetting, Walks}
use Rattle.mirror_walk.specs.Walk.{WalksAskOnce}
use Rattle.mirror_walk.proofs.FoundLemmas.{best_of-holds}
use Rattle.mirror_walk.proofs.GapLemmas.{gap-found}
use Rattle.mirror_walk.proofs.NewLemmas.{Adds, adds-documents, adds-missing, answer-adds, archive-accepted}
use Rattle.mirror_walk.proofs.NewLemmas.{feed-accepted}
use Rattle.mirror_walk.proofs.RoomLemmas.{within-accepted}

-- a refusal leaves what is held
refused-stays : (base : List ℕ) (kept : List KeptValue) (address bytes : List ℕ) (why : Offered)
    (left : List KeptValue)
    → IsAnswer base kept address bytes (Err why) left → left ≡ kept
refused-stays base kept address bytes (NotADocument at) left answers = answers.left_over
refused-stays base kept address bytes (WrongAddress says) left answers = answers.left_over
refused-stays base kept address bytes (WrongFeed one other) left answers = answers.left_over
refused-stays base kept address bytes (Conflict own one other) left answers = answers.left_over
refused-stays base kept address bytes (Break last first) left answers = answers.left_over
refused-stays base kept address bytes (Full size needed capacity) left answers = answers.left_over
refused-stays base kept address bytes DiskFault left answers = answers.left_over
refused-stays base kept address bytes NoMemory left answers = absurd answers

-- the documents that a mirror took are documents

answered-documents : (base : List ℕ) (offers : List Offering) (answers : List Answer)
    (kept left : List KeptValue)
    → All (λ (k : KeptValue). IsDoc k.document) kept → AreAnswered base kept offers answers left
    → All (λ (k : KeptValue). IsDoc k.document) left
answered-documents base [] [] kept left are answered =
    subst (λ (l : List KeptValue). All (λ (k : KeptValue). IsDoc k.document) l) (sym answered) are
answered-documents base [] (answer ∷ answers) kept left are answered = absurd answered
answered-documents base (offer ∷ offers) [] kept left are answered = absurd answered
answered-documents base (offer ∷ offers) (answer ∷ answers) kept left are (next, one, others) =
    answered-documents base offers answers next left (of answer one) others
  where
    of : (answer : Answer) → IsAnswer base kept offer.address offer.bytes answer next
        → All (λ (k : KeptValue). IsDoc k.document) next
    of (Ok accepted) one = adds-documents kept next
        (answer-adds base kept offer.address offer.bytes accepted next one) are
    of (Err why) one = subst (λ (l : List KeptValue). All (λ (k : KeptValue). IsDoc k.document) l)
        (sym (refused-stays base kept offer.address offer.bytes why next one)) are

-- the document after which a walk goes on

answered-document : (setting : WalkSetting) (kept : List KeptValue) (address : Address) (accepted : Accepted)
    (left : List KeptValue) → (answered : IsAnswered setting kept address (Ok accepted) left)
    → AnswersDocument setting.base kept (printed setting.base address) answered.bytes (Ok accepted) left
answered-document setting kept address accepted left answered =
    within-accepted setting.capacity setting.base kept (printed setting.base address) answered.bytes accepted
    left
    answered.answered

answered-adds : (setting : WalkSetting) (kept : List KeptValue) (address : Address) (accepted : Accepted)
    (left : List KeptValue) → IsAnswered setting kept address (Ok accepted) left → Adds kept left
answered-adds setting kept address accepted left answered =
    answer-adds setting.base kept (printed setting.base address) answered.bytes accepted left
    (answered-document setting kept address accepted left answered)

-- archives that weren't held before are asked for, with falling numbers below `high`
record AsksBelow (before : List KeptValue) (high : ℕ) (asked : List Address) : Type 0 where
  numbers : List ℕ
  addresses : asked ≡ map Archive numbers
  falling : FallsFrom high numbers
  missing : All (λ n. archive_at before n ≡ None) numbers

asks-nothing : (before : List KeptValue) (high : ℕ) → AsksBelow before high []
asks-nothing before high =
    record {
      numbers = [];
      addresses = refl;
      falling = tt;
      missing = All-nil (λ n. archive_at before n ≡ None);
    }

asks-more : (before : List KeptValue) (high number : ℕ) (address : Address) (asked : List Address)
    → number < high
    → archive_at before number ≡ None → address ≡ Archive number → AsksBelow before number asked
    → AsksBelow before high (address ∷ asked)
asks-more before high number address asked below free is asks = record {
  numbers = number ∷ asks.numbers;
  addresses = ap₂ (λ (a : Address) (l : List Address). a ∷ l) is asks.addresses;
  falling = (below, asks.falling);
  missing = All-cons (λ n. archive_at before n ≡ None) number asks.numbers free asks.missing;
}

-- the next address is that of the greatest needed archive that isn't held
pub record IsNextGap (kept : List KeptValue) (best : KeptValue) (address : Address) : Type 0 where
  pub number : ℕ
  pub is : address ≡ Archive number
  pub gap : gap_from kept best.document.prev ≡ Some number

pub next-gap : (kept : List KeptValue) (best : KeptValue) (address : Address) → best_of kept ≡ Some best
    → first_missing kept ≡ Some address → IsNextGap kept best address
unfolding first_missing
next-gap kept best address best_is next = of (gap_from kept best.document.prev) refl (rw best_is at next)
  where
    of : (gap : Option ℕ) → gap_from kept best.document.prev ≡ gap → option_map Archive gap ≡ Some address
        → IsNextGap kept best address
    of None e next = absurd (cc)
    of (Some number) e next = record { number = number; is = cc; gap = e }

module _ (setting : WalkSetting) (before : List KeptValue) where
  asks-below : (asked : List Address) (accepted : List Accepted) (kept left : List KeptValue)
      (ending : WalkEnding)
      (best : KeptValue) (high : ℕ) → high ≤ 2 ^ 32 → best_of kept ≡ Some best
      → ((n : ℕ) → gap_from kept best.document.prev ≡ Some n → n < high)
      → ((n : ℕ) → archive_at kept n ≡ None → archive_at before n ≡ None)
      → Walks setting kept (first_missing kept) asked accepted left ending → AsksBelow before high asked
  asks-below [] accepted kept left ending best high small best_is bound missing walks = asks-nothing before
      high
  asks-below (address ∷ asked) [] kept left ending best high small best_is bound missing
      (next, none, same, ends) =
      let gap = next-gap kept best address best_is next in
      let found = gap-found kept best.document.prev gap.number gap.gap in
      asks-more before high gap.number address asked (bound gap.number gap.gap)
      (missing gap.number found.free) gap.is
      (subst (AsksBelow before gap.number) (sym none) (asks-nothing before gap.number))
  asks-below (address ∷ asked) (answer ∷ accepted) kept left ending best high small best_is bound missing
      (next, (after, answered, walks)) =
      let gap = next-gap kept best address best_is next in
      let number = gap.number in
      let found = gap-found kept best.document.prev number gap.gap in
      let below = bound number gap.gap in
      let one = subst (λ (a : Address). IsAnswered setting kept a (Ok answer) after) gap.is answered in
      let filled = archive-accepted setting.base kept best number one.bytes answer after
      (found.one, omega (arith, below)) best_is gap.gap found.free
      (answered-document setting kept (Archive number) answer after one) in
      asks-more before high number address asked below (missing number found.free) gap.is
      (asks-below asked accepted after left ending best number (omega (arith, below)) filled.best
      (λ n e. let lower = gap-found kept (number - 1) n (sym filled.gap ∙ e) in
      omega (arith, lower.within, found.one))
      (λ n free. missing n (adds-missing kept after n (answered-adds setting kept address answer after
      answered) free))
      walks)

pub walks-ask_once : WalksAskOnce
walks-ask_once setting kept offers [] accepted left ending taken walks = inl refl
walks-ask_once setting kept offers (address ∷ asked) [] left ending taken (next, none, same, ends) = inr
    (record {
      numbers = [];
      addresses = ap₂ (λ (a : Address) (l : List Address). a ∷ l) (let same : Feed ≡ address = cc in sym same)
          none;
      falling = tt;
      missing = All-nil (λ n. archive_at kept n ≡ None);
    })
walks-ask_once setting kept offers (address ∷ asked) (answer ∷ accepted) left ending taken
    (next, (after, answered, walks)) =
    let is : Feed ≡ address = cc in
    let adds = answered-adds setting kept address answer after answered in
    let documents = adds-documents kept after adds (answered-documents setting.base offers taken.answers []
    kept
    (All-nil (λ (k : KeptValue). IsDoc k.document)) taken.answered) in
    let one = subst (λ (a : Address). IsAnswered setting kept a (Ok answer) after) (sym is) answered in
    let some = feed-accepted setting.base kept one.bytes answer after
    (answered-document setting kept Feed answer after one) in
    inr (of (best_of after) refl some documents adds)
  where
    of : (best : Option KeptValue) → best_of after ≡ best → IsSome best
        → All (λ (k : KeptValue). IsDoc k.document) after
        → Adds kept after → AsksOnce kept (address ∷ asked)
    of None e some documents adds = absurd (cc)
    of (Some best) e some documents adds =
        let holds = best_of-holds (λ (k : KeptValue). IsDoc k.document) after best documents e in
        let asks = asks-below setting kept asked accepted after left ending best (2 ^ 32) (omega arith) e
        (λ n gap. omega (arith, (gap-found after best.document.prev n gap).within, holds.0.prev))
        (λ n free. adds-missing kept after n adds free) walks in
        record {
          numbers = asks.numbers;
          addresses = ap₂ (λ (a : Address) (l : List Address). a ∷ l) (let is : Feed ≡ address = cc in sym is)
              asks.addresses;
          falling = asks.falling;
          missing = asks.missing;
        }
