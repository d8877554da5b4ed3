-- Which document a store has at an address.
use Rattle.std.proofs.Common.{◌≡◌, ◌≢◌, inl, inr, ℕ, zero, suc, ◌<◌, ◌≤◌, ◌^◌, Bool, true, List, length}
use Rattle.std.proofs.Common.{Option, Some, None, refl, ap, sym, ◌∙◌, arith, option_map}
use Rattle.std.specs.Prelude.{MatchOption, bytes_eq, find}
use Rattle.std.proofs.Math.Seq.{take-length}
use Rattle.std.proofs.lemmas.Bool.{cases_Bool, cond-true, cond-false}
use Rattle.std.proofs.lemmas.Slice.Eq.{bytes_eq-Decides}
use Rattle.atom_writer.specs.Pieces.{text}
use Rattle.chain_links.specs.Address.{IsAddress, printed}
use Rattle.chain_links.specs.declared.address.Address.{Address}
use Rattle.chain_links.specs.declared.address.Address.TheVariants.{Feed, Archive}
use Rattle.chain_links.proofs.AddressLemmas.{same_address}
use Rattle.feed_life.specs.StoreFetch.{archive_number, store_answers}
use Rattle.feed_recovery.specs.Documents.{IsSealed}
use Rattle.feed_recovery.specs.Opening.{seal_of}
use Rattle.feed_recovery.specs.Store.{StoreValue}
use Rattle.member_rules.specs.Documents.{subscription}
use Rattle.member_rules.specs.Head.{HeadValue, IsHead}
use Rattle.member_rules.specs.History.{IsLawful}
use Rattle.member_rules.specs.Served.{Served}
use Rattle.member_rules.specs.Windows.{windows_of}
use Rattle.member_rules.specs.declared.operation.Op.{Op}
use Rattle.member_rules.proofs.CutLemmas.{windows-sealed}
use Rattle.mirror_walk.specs.Holding.{numbers_from}

module _ (base address : List ℕ) where
  -- the archive of this number has the address
  abbrev is_at : ℕ → Bool
  is_at number = bytes_eq (printed base (Archive number)) address

  at-true : (number : ℕ) → is_at number ≡ true → printed base (Archive number) ≡ address
  at-true number e = (bytes_eq-Decides (printed base (Archive number)) address).0 e

  at-same : (number : ℕ) → printed base (Archive number) ≡ address → is_at number ≡ true
  at-same number e = (bytes_eq-Decides (printed base (Archive number)) address).1 e

  -- the number that was found is that of the archive at the address
  record IsFound (high number : ℕ) : Type 0 where
    from_one : 1 ≤ number
    within : number ≤ high
    there : printed base (Archive number) ≡ address

  find-found : (high number : ℕ) → find is_at (numbers_from high) ≡ Some number → IsFound high number
  find-found zero number e = absurd (cc)
  find-found (suc high) number e = elim (cases_Bool (is_at (suc high))) [
    | inl passed ↦
        let same : suc high ≡ number = cc (cond-true (is_at (suc high)) (Some (suc high))
        (find is_at (numbers_from high)) passed) in
        record {
          from_one = omega arith;
          within = omega arith;
          there = ap (λ (n : ℕ). printed base (Archive n)) (sym same) ∙ at-true (suc high) passed;
        }
    | inr failed ↦
        let below = find-found high number
        (sym (cond-false (is_at (suc high)) (Some (suc high)) (find is_at (numbers_from high)) failed) ∙ e) in
        record { from_one = below.from_one; within = omega (arith, below.within); there = below.there }
  ]

  find-none : (high : ℕ) → ((number : ℕ) → 1 ≤ number → number ≤ high → address ≢ printed base (Archive number))
      → find is_at (numbers_from high) ≡ None
  find-none zero other = refl
  find-none (suc high) other = elim (cases_Bool (is_at (suc high))) [
    | inl passed ↦ absurd (other (suc high) (omega arith) (omega arith) (sym (at-true (suc high) passed)))
    | inr failed ↦ cond-false (is_at (suc high)) (Some (suc high)) (find is_at (numbers_from high)) failed
        ∙ find-none high (λ number from_one within. other number from_one (omega (arith, within)))
  ]

  find-archive : (high number : ℕ) → high < 2 ^ 32 → 1 ≤ number → number ≤ high
      → address ≡ printed base (Archive number) → find is_at (numbers_from high) ≡ Some number
  find-archive zero number small from_one within there = absurd (omega arith)
  find-archive (suc high) number small from_one within there = elim (cases_Bool (is_at (suc high))) [
    | inl passed ↦
        let same : Archive (suc high) ≡ Archive number =
        same_address base (Archive (suc high)) (Archive number) (omega arith, omega arith) (from_one, omega arith)
        (at-true (suc high) passed ∙ there) in
        cond-true (is_at (suc high)) (Some (suc high)) (find is_at (numbers_from high)) passed
        ∙ ap Some (let equal : suc high ≡ number = cc in equal)
    | inr failed ↦
        let other : number ≢ suc high = λ is. absurd (cc (
          at-same (suc high) (ap (λ (n : ℕ). printed base (Archive n)) (sym is) ∙ sym there),
          failed,
        )) in
        cond-false (is_at (suc high)) (Some (suc high)) (find is_at (numbers_from high)) failed
        ∙ find-archive high number (omega arith) from_one (omega arith) there
  ]

module _ (head : HeadValue) (history : List Op) (address : List ℕ) where
  pub answers-feed : address ≡ printed head.name.base Feed
      → store_answers head history address ≡ Some (text (subscription head history))
  unfolding store_answers
  answers-feed there =
      cond-true (bytes_eq (printed head.name.base Feed) address) (Some (text (subscription head history)))
      (option_map (seal_of head history) (archive_number head history address))
      ((bytes_eq-Decides (printed head.name.base Feed) address).1 (sym there))

  answers-not_feed : address ≢ printed head.name.base Feed
      → store_answers head history address ≡ option_map (seal_of head history) (archive_number head history address)
  unfolding store_answers
  answers-not_feed other = elim (cases_Bool (bytes_eq (printed head.name.base Feed) address)) [
    | inl same ↦ absurd (other (sym ((bytes_eq-Decides (printed head.name.base Feed) address).0 same)))
    | inr differs ↦
        cond-false (bytes_eq (printed head.name.base Feed) address) (Some (text (subscription head history)))
        (option_map (seal_of head history) (archive_number head history address)) differs
  ]

  answers-none : address ≢ printed head.name.base Feed
      → ((number : ℕ) → 1 ≤ number → number ≤ (windows_of head history).sealed
      → address ≢ printed head.name.base (Archive number))
      → store_answers head history address ≡ None
  unfolding archive_number
  answers-none not_feed other =
      answers-not_feed not_feed
      ∙ ap (option_map (seal_of head history))
      (find-none head.name.base address (windows_of head history).sealed other)

  module _ (is_head : IsHead head) (is_lawful : IsLawful head history) where
    sealed-few : (windows_of head history).sealed < 2 ^ 32
    sealed-few =
        let within = windows-sealed head history is_head in
        omega (arith, within.full, within.few, is_lawful.few)

    -- an address below the base that isn't the feed's
    below-feed : (other : Address) → IsAddress other → other ≢ Feed → address ≡ printed head.name.base other
        → address ≢ printed head.name.base Feed
    below-feed other is_other differs there feed =
        differs (same_address head.name.base other Feed is_other tt (sym there ∙ feed))

    pub answers-archive : (number : ℕ) → 1 ≤ number → number ≤ (windows_of head history).sealed
        → address ≡ printed head.name.base (Archive number)
        → store_answers head history address ≡ Some (seal_of head history number)
    unfolding archive_number
    answers-archive number from_one within there =
        let few = sealed-few in
        answers-not_feed (below-feed (Archive number) (from_one, omega (arith, few)) (λ is. cc) there)
        ∙ ap (option_map (seal_of head history))
        (find-archive head.name.base address (windows_of head history).sealed number few from_one within there)

    -- any other address of the feed has no document
    pub answers-other : (other : Address) → IsAddress other → other ≢ Feed
        → ((number : ℕ) → 1 ≤ number → number ≤ (windows_of head history).sealed → other ≢ Archive number)
        → address ≡ printed head.name.base other → store_answers head history address ≡ None
    answers-other other is_other not_feed not_archive there =
        let few = sealed-few in
        answers-none (below-feed other is_other not_feed there)
        (λ number from_one within at. not_archive number from_one within
        (same_address head.name.base other (Archive number) is_other (from_one, omega (arith, few)) (sym there ∙ at)))

    -- a text that is no address of the feed has no document
    pub answers-unread : ((other : Address) → IsAddress other → address ≢ printed head.name.base other)
        → store_answers head history address ≡ None
    answers-unread other =
        let few = sealed-few in
        answers-none (other Feed tt) (λ number from_one within. other (Archive number) (from_one, omega (arith, few)))

    pub answers-served : (bytes : List ℕ) → store_answers head history address ≡ Some bytes
        → Served head history address bytes
    unfolding archive_number
    answers-served bytes e = elim (cases_Bool (bytes_eq (printed head.name.base Feed) address)) [
      | inl same ↦
          let there = sym ((bytes_eq-Decides (printed head.name.base Feed) address).0 same) in
          let text_is : bytes ≡ text (subscription head history) = cc (answers-feed there) in
          record {
            is_head = is_head;
            is_lawful = is_lawful;
            served = inl record {
              version = length history;
              past = omega arith;
              there = there;
              text = text_is ∙ ap (λ (h : List Op). text (subscription head h)) (sym (take-length history));
            };
          }
      | inr differs ↦
          let other : address ≢ printed head.name.base Feed =
          λ is. absurd (let h = (bytes_eq-Decides (printed head.name.base Feed) address).1 (sym is) in cc) in
          served_archive (archive_number head history address) refl (sym (answers-not_feed other) ∙ e)
    ] where
      served_archive : (found : Option ℕ) → archive_number head history address ≡ found
          → option_map (seal_of head history) (archive_number head history address) ≡ Some bytes
          → Served head history address bytes
      served_archive None is some = absurd (cc (ap (option_map (seal_of head history)) is))
      served_archive (Some number) is some =
          let found = find-found head.name.base address (windows_of head history).sealed number is in
          let text_is : bytes ≡ seal_of head history number = cc (ap (option_map (seal_of head history)) is) in
          record {
            is_head = is_head;
            is_lawful = is_lawful;
            served = inr record {
              number = number;
              of_sealed = (found.from_one, found.within);
              there = sym found.there;
              text = text_is;
            };
          }

-- the answer for an archive, from what the store returned
pub answers-archived : {V : Type 0} (items : V → List ℕ) (store : StoreValue) (address : List ℕ) (number : ℕ)
    (found : Option V) → IsHead store.head → IsLawful store.head store.history → IsAddress (Archive number)
    → address ≡ printed store.head.name.base (Archive number)
    → MatchOption found (¬ IsSealed store number)
    (λ bytes. IsSealed store number × (items bytes ≡ seal_of store.head store.history number))
    → option_map items found ≡ store_answers store.head store.history address
answers-archived items store address number None is_head is_lawful is_address there unsealed =
    sym (answers-other store.head store.history address is_head is_lawful (Archive number) is_address (λ e. cc)
    (λ other from_one within is. unsealed (let same : number ≡ other = cc in (omega arith, omega (arith, within))))
    there)
answers-archived items store address number (Some bytes) is_head is_lawful is_address there sealed =
    ap Some sealed.1
    ∙ sym (answers-archive store.head store.history address is_head is_lawful number sealed.0.0 sealed.0.1 there)
