-- Which document a relay has at an address.
use Rattle.std.proofs.Common.{◌≡◌, ◌≢◌, inl, inr, ℕ, ◌==◌, Bool, true, false, List, [], ◌∷◌, All}
use Rattle.std.proofs.Common.{Option, Some, None, cond, refl, ap, ap₂, sym, subst, ◌∙◌, arith, option_map}
use Rattle.std.specs.Prelude.{bytes_eq, find}
use Rattle.std.proofs.Common.{eq-eqb}
use Rattle.std.proofs.lemmas.Bool.{cases_Bool, cond-true, cond-false, eqb-true, false_from_ne_true}
use Rattle.std.proofs.lemmas.List.Elements.{All-head, All-tail}
use Rattle.std.proofs.lemmas.Slice.Eq.{bytes_eq-Decides}
use Rattle.atom_writer.specs.Doc.{DocValue, IsDoc}
use Rattle.atom_writer.specs.Pieces.{own_address, text}
use Rattle.atom_writer.specs.declared.doc.Kind.{Kind}
use Rattle.atom_writer.specs.declared.doc.Kind.TheVariants.{Subscription, Archive as Sealed}
use Rattle.chain_links.specs.Address.{IsAddress, printed}
use Rattle.chain_links.specs.declared.address.Address.{Address}
use Rattle.chain_links.specs.declared.address.Address.TheVariants.{Feed, Archive, Member}
use Rattle.chain_links.proofs.AddressLemmas.{same_address}
use Rattle.feed_relay.specs.Fetch.{held_under, relay_answers}
use Rattle.member_rules.specs.Head.{HeadValue}
use Rattle.member_rules.specs.Served.{Served}
use Rattle.member_rules.specs.declared.operation.Op.{Op}
use Rattle.mirror_walk.specs.Accept.{own_text}
use Rattle.mirror_walk.specs.Held.{IsHeldDoc}
use Rattle.mirror_walk.specs.Holding.{KeptValue, archive_at, is_archive, payloads_of, text_at}
use Rattle.mirror_walk.specs.Loaded.{IsLoadedOf}
use Rattle.mirror_walk.specs.Mirror.{KeepsMirror, MirrorValue, is_spent}
use Rattle.mirror_walk.specs.Published.{HoldsServed}
use Rattle.mirror_walk.specs.Walk.{IsServedBy}
use Rattle.mirror_walk.proofs.DocumentLemmas.{own-served, served-at}
use Rattle.mirror_walk.proofs.HeldLemmas.{loaded-held}
use Rattle.mirror_walk.proofs.NumberLemmas.{archive-numbers}

-- what `find` returns

find-same : {A : Type 0} (P : A → Type 0) (one other : A → Bool) (xs : List A)
    → ((x : A) → P x → one x ≡ other x) → All P xs → find one xs ≡ find other xs
find-same P one other [] same all = refl
find-same {A = A} P one other (x ∷ xs) same all =
    ap₂ (λ (b : Bool) (o : Option A). cond b (Some x) o) (same x (All-head P x xs all))
    (find-same P one other xs same (All-tail P x xs all))

find-none : {A : Type 0} (P : A → Type 0) (test : A → Bool) (xs : List A) → ((x : A) → P x → test x ≡ false)
    → All P xs → find test xs ≡ None
find-none P test [] fails all = refl
find-none P test (x ∷ xs) fails all =
    cond-false (test x) (Some x) (find test xs) (fails x (All-head P x xs all))
    ∙ find-none P test xs fails (All-tail P x xs all)

find-holds : {A : Type 0} (P : A → Type 0) (test : A → Bool) (xs : List A) (x : A) → All P xs
    → find test xs ≡ Some x → P x × (test x ≡ true)
find-holds P test [] x all e = absurd (cc)
find-holds P test (y ∷ ys) x all e = elim (cases_Bool (test y)) [
  | inl passed ↦
      let same : y ≡ x = cc (cond-true (test y) (Some y) (find test ys) passed) in
      (subst P same (All-head P y ys all), ap test (sym same) ∙ passed)
  | inr failed ↦ find-holds P test ys x (All-tail P y ys all)
      (sym (cond-false (test y) (Some y) (find test ys) failed) ∙ e)
]

-- a document's own address
own-is_address : (document : DocValue) → IsDoc document → IsAddress (own_address document.kind)
own-is_address document is_doc = go document.kind refl
  where
    go : (kind : Kind) → document.kind ≡ kind → IsAddress (own_address kind)
    go Subscription is = tt
    go (Sealed number) is =
        let numbers = archive-numbers document number is_doc.rules is in
        (omega (arith, numbers.one), omega (arith, numbers.most))

module _ (base : List ℕ) where
  -- texts of two addresses
  differs : (one other : Address) → IsAddress one → IsAddress other → one ≢ other
      → bytes_eq (printed base one) (printed base other) ≡ false
  differs one other is_one is_other different =
      false_from_ne_true (bytes_eq (printed base one) (printed base other)) (λ same.
      different (same_address base one other is_one is_other
      ((bytes_eq-Decides (printed base one) (printed base other)).0 same)))

  -- a document lies at an archive's address exactly if it is that archive
  lies-archive : (kind : Kind) (number : ℕ) → IsAddress (own_address kind) → IsAddress (Archive number)
      → bytes_eq (printed base (own_address kind)) (printed base (Archive number)) ≡ is_archive number kind
  lies-archive Subscription number is_own is_address = differs Feed (Archive number) is_own is_address (λ e. cc)
  lies-archive (Sealed other) number is_own is_address = elim (cases_Bool (other == number)) [
    | inl same ↦
        (bytes_eq-Decides (printed base (Archive other)) (printed base (Archive number))).1
        (ap (λ (n : ℕ). printed base (Archive n)) (eqb-true other number same))
        ∙ sym same
    | inr different ↦
        differs (Archive other) (Archive number) is_own is_address
        (λ e. absurd (let is : other ≡ number = cc in
        let same = eq-eqb other number is in cc))
        ∙ sym different
  ]

  -- no document lies at a member's address
  lies-member : (kind : Kind) (number : ℕ) → IsAddress (own_address kind) → IsAddress (Member number)
      → bytes_eq (printed base (own_address kind)) (printed base (Member number)) ≡ false
  lies-member Subscription number is_own is_address = differs Feed (Member number) is_own is_address (λ e. cc)
  lies-member (Sealed other) number is_own is_address =
      differs (Archive other) (Member number) is_own is_address (λ e. cc)

  module _ (kept : List KeptValue) where
    pub answers-feed : relay_answers base kept (printed base Feed) ≡ text_at kept Feed
    unfolding relay_answers
    answers-feed =
        cond-true (bytes_eq (printed base Feed) (printed base Feed)) (text_at kept Feed)
        (option_map (λ (k : KeptValue). text k.document) (held_under base kept (printed base Feed)))
        ((bytes_eq-Decides (printed base Feed) (printed base Feed)).1 refl)

    answers-other : (address : List ℕ) → bytes_eq (printed base Feed) address ≡ false
        → relay_answers base kept address
        ≡ option_map (λ (k : KeptValue). text k.document) (held_under base kept address)
    unfolding relay_answers
    answers-other address other =
        cond-false (bytes_eq (printed base Feed) address) (text_at kept Feed)
        (option_map (λ (k : KeptValue). text k.document) (held_under base kept address)) other

    module _ (each : All (IsHeldDoc base) kept) where
      under-archive : (number : ℕ) → IsAddress (Archive number)
          → held_under base kept (printed base (Archive number)) ≡ archive_at kept number
      unfolding held_under archive_at
      under-archive number is_address =
          find-same (IsHeldDoc base)
          (λ (k : KeptValue). bytes_eq (printed base (own_address k.document.kind)) (printed base (Archive number)))
          (λ (k : KeptValue). is_archive number k.document.kind) kept
          (λ k is. lies-archive k.document.kind number (own-is_address k.document is.is_doc) is_address) each

      under-member : (number : ℕ) → IsAddress (Member number)
          → held_under base kept (printed base (Member number)) ≡ None
      unfolding held_under
      under-member number is_address =
          find-none (IsHeldDoc base)
          (λ (k : KeptValue). bytes_eq (printed base (own_address k.document.kind)) (printed base (Member number))) kept
          (λ k is. lies-member k.document.kind number (own-is_address k.document is.is_doc) is_address) each

      -- the document held at an address
      pub answers-named : (address : Address) → IsAddress address
          → relay_answers base kept (printed base address) ≡ text_at kept address
      answers-named Feed is_address = answers-feed
      answers-named (Archive number) is_address =
          answers-other (printed base (Archive number)) (differs Feed (Archive number) tt is_address (λ e. cc))
          ∙ ap (option_map (λ (k : KeptValue). text k.document)) (under-archive number is_address)
      answers-named (Member number) is_address =
          answers-other (printed base (Member number)) (differs Feed (Member number) tt is_address (λ e. cc))
          ∙ ap (option_map (λ (k : KeptValue). text k.document)) (under-member number is_address)

      -- a text that is no address of the feed has no document
      pub answers-unread : (address : List ℕ)
          → ((other : Address) → IsAddress other → address ≢ printed base other)
          → relay_answers base kept address ≡ None
      unfolding held_under
      answers-unread address other =
          answers-other address (false_from_ne_true (bytes_eq (printed base Feed) address)
          (λ same. other Feed tt (sym ((bytes_eq-Decides (printed base Feed) address).0 same))))
          ∙ ap (option_map (λ (k : KeptValue). text k.document))
          (find-none (IsHeldDoc base)
          (λ (k : KeptValue). bytes_eq (printed base (own_address k.document.kind)) address) kept
          (λ k is. false_from_ne_true (bytes_eq (printed base (own_address k.document.kind)) address)
          (λ same. other (own_address k.document.kind) (own-is_address k.document is.is_doc)
          (sym ((bytes_eq-Decides (printed base (own_address k.document.kind)) address).0 same)))) each)

-- the documents that a mirror holds, unless it is spent
pub each-held : (base : List ℕ) (mirror : MirrorValue) → base ≡ mirror.base → KeepsMirror mirror
    → is_spent mirror ≡ false → All (IsHeldDoc base) mirror.kept
each-held base mirror same keeps unspent =
    subst (λ (b : List ℕ). All (IsHeldDoc b) mirror.kept) (sym same)
    (loaded-held mirror.base (payloads_of mirror.kept) mirror.kept (keeps.documents unspent).loaded).each

-- each answer is a held document at its own address
module _ (head : HeadValue) (history : List Op) (base : List ℕ) (kept : List KeptValue)
    (loaded : IsLoadedOf base (payloads_of kept) kept) (served : HoldsServed head history kept) (address : List ℕ)
    (bytes : List ℕ) where
  abbrev is_there : KeptValue → Bool
  is_there k = bytes_eq (printed base (own_address k.document.kind)) address

  served-under : (found : Option KeptValue) → find is_there kept ≡ found
      → option_map (λ (k : KeptValue). text k.document) found ≡ Some bytes → Served head history address bytes
  served-under None is e = absurd (cc)
  served-under (Some k) is e =
      let own = find-holds (λ (k : KeptValue). Served head history (own_text k.document) (text k.document)) is_there kept k
      (own-served head history kept served) is in
      let of = find-holds (IsHeldDoc base) is_there kept k (loaded-held base (payloads_of kept) kept loaded).each is in
      let there : own_text k.document ≡ address =
      ap (λ (b : List ℕ). printed b (own_address k.document.kind)) of.0.base_is
      ∙ (bytes_eq-Decides (printed base (own_address k.document.kind)) address).0 of.1 in
      let text_is : text k.document ≡ bytes = cc in
      subst (Served head history address) text_is
      (subst (λ (a : List ℕ). Served head history a (text k.document)) there own.0)

  pub answers-served : relay_answers base kept address ≡ Some bytes → Served head history address bytes
  unfolding relay_answers held_under
  answers-served e = elim (cases_Bool (bytes_eq (printed base Feed) address)) [
    | inl same ↦
        subst (λ (a : List ℕ). Served head history a bytes)
        ((bytes_eq-Decides (printed base Feed) address).0 same)
        (served-at head history base kept loaded served Feed bytes
        (sym (cond-true (bytes_eq (printed base Feed) address) (text_at kept Feed)
        (option_map (λ (k : KeptValue). text k.document) (find is_there kept)) same) ∙ e))
    | inr other ↦
        served-under (find is_there kept) refl
        (sym (cond-false (bytes_eq (printed base Feed) address) (text_at kept Feed)
        (option_map (λ (k : KeptValue). text k.document) (find is_there kept)) other) ∙ e)
  ]

-- the law
pub relays-answer : (head : HeadValue) (history : List Op) (base : List ℕ) (kept : List KeptValue)
    → IsLoadedOf base (payloads_of kept) kept → HoldsServed head history kept
    → IsServedBy head history (relay_answers base kept)
relays-answer head history base kept loaded served = λ address bytes e.
    answers-served head history base kept loaded served address bytes e
