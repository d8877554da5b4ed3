-- The rules that the documents of a loaded mirror keep. If none is missing, they are a whole chain.
use Rattle.std.proofs.Common.{◌≡◌, ◌≢◌, ◌⊎◌, inl, inr, ℕ, zero, suc, ◌+◌, ◌-◌, ◌≤◌, nat_lt, ◌==◌, Bool, true, false}
use Rattle.std.proofs.Common.{cond, List, [], ◌∷◌, ◌++◌, All, Option, Some, None, IsSome, IsTrue, Ok, Err}
use Rattle.std.proofs.Common.{refl, sym, ap, subst, ◌∙◌, arith, option_map}
use Rattle.std.specs.List.{cons_option}
use Rattle.std.specs.Option.{option_or}
use Rattle.std.specs.Prelude.{IfSome, option_and_then, unwrap_or}
use Rattle.std.specs.Str.{bytes_eq}
use Rattle.std.proofs.lemmas.Bool.{cases_Bool, cond-true, eq-eqb, eqb-true}
use Rattle.std.proofs.lemmas.Bool.Decides.{nat_tests}
use Rattle.std.proofs.lemmas.List.Elements.{All-cons, All-head, All-nil, All-push}
use Rattle.std.proofs.lemmas.Option.{same_Some}
use Rattle.std.proofs.lemmas.Slice.Eq.{bytes_eq-Decides}
use Rattle.std.proofs.Common.{append-nil, append_assoc}
use Rattle.atom_writer.specs.Doc.{DocValue, IsDoc, is_placed}
use Rattle.atom_writer.specs.Pieces.{own_address}
use Rattle.atom_writer.specs.declared.doc.Kind.{Kind}
use Rattle.atom_writer.specs.declared.doc.Kind.TheVariants.{Subscription, Archive as Sealed}
use Rattle.chain_links.specs.Place.{Adjoins}
use Rattle.chain_links.specs.declared.address.Address.TheVariants.{Archive}
use Rattle.chain_links.specs.declared.place.Span.{Span}
use Rattle.member_rules.specs.Chain.{IsChain, place_of}
use Rattle.mirror_walk.specs.declared.answer.Accepted.TheVariants.{Taken, Known, Stale}
use Rattle.mirror_walk.specs.declared.answer.Offered.TheVariants.{WrongFeed, Break, Conflict}
use Rattle.mirror_walk.specs.Accept.{Answer, accept, best_after, break_after, break_before, break_of, breaks_of_kind}
use Rattle.mirror_walk.specs.Accept.{broken, conflict, counterpart, first_of, known, own_text, stale, stale_of_kind}
use Rattle.mirror_walk.specs.Accept.{wrong_address, wrong_feed}
use Rattle.mirror_walk.specs.Held.{AreHeld, HaveFeed, IsAtItsAddress, IsHeldDoc, NeighboursAdjoin, SpansAdjoin}
use Rattle.mirror_walk.specs.Holding.{KeptValue, archive_at, archives_from, best_of, chain_from, chain_of}
use Rattle.mirror_walk.specs.Holding.{document_at, first_missing, gap_from}
use Rattle.mirror_walk.specs.Holding.{is_archive, is_subscription, missing_after, newer_of}
use Rattle.mirror_walk.specs.Loaded.{IsLoadedOf}
use Rattle.mirror_walk.proofs.AcceptLemmas.{accept-form}
use Rattle.mirror_walk.proofs.AcceptedLemmas.{and_then-fits, first_of-fits}
use Rattle.mirror_walk.proofs.FoundLemmas.{archive_at-holds, best_of-holds}
use Rattle.mirror_walk.proofs.GapLemmas.{gap-none}
use Rattle.mirror_walk.proofs.MirrorLemmas.{option_map-none}
use Rattle.mirror_walk.proofs.NewLemmas.{Refuses, address-refuses, broken-refuses, feed-refuses}
use Rattle.mirror_walk.proofs.NumberLemmas.{archive-numbers}
use Rattle.mirror_walk.proofs.OutcomeLemmas.{best-of_whole, chain_of-best}
use Rattle.mirror_walk.proofs.PushLemmas.{archive_at-push, best_of-push-other, best_of-push-own}
use Rattle.mirror_walk.proofs.TakenLemmas.{AreTakenAfter, IsTakenAfter, loaded-taken, taken-place}

-- the checks of a document that is taken

abbrev NotTaken : Answer → Type 0
NotTaken answer = answer ≢ Ok Taken

compared-other : (kept : List KeptValue) (given : KeptValue)
    → IfSome (first_of (known kept given ∷ stale kept given.document ∷ conflict kept given ∷ [])) NotTaken
unfolding known stale conflict
compared-other kept given =
    first_of-fits NotTaken (known kept given ∷ stale kept given.document ∷ conflict kept given ∷ []) (
      and_then-fits NotTaken _ (counterpart kept given.document)
          (λ held e. other_of (bytes_eq held.digest given.digest) (Some (Ok Known)) None (λ is. cc) tt),
      (
        stale_other given.document.kind,
        (
          and_then-fits NotTaken _ (counterpart kept given.document)
              (λ held e. other_of (bytes_eq held.digest given.digest) None
              (Some (Err (Conflict (own_address given.document.kind) held.digest given.digest))) tt (λ is. cc)),
          tt,
        ),
      ),
    )
  where
    other_of : (test : Bool) (one other : Option Answer) → IfSome one NotTaken → IfSome other NotTaken
        → IfSome (cond test one other) NotTaken
    other_of true one other is is_other = is
    other_of false one other is is_other = is_other

    stale_other : (kind : Kind) → IfSome (stale_of_kind kept given.document.span.last kind) NotTaken
    stale_other (Sealed number) = tt
    stale_other Subscription =
        and_then-fits NotTaken _ (best_of kept)
        (λ best e. other_of (nat_lt given.document.span.last best.document.span.last) (Some (Ok Stale)) None
        (λ is. cc) tt)

passed-form : (address feed same broken : Option Answer) → Refuses address → Refuses feed → IfSome same NotTaken
    → Refuses broken → unwrap_or (option_or address (option_or feed (option_or same broken))) (Ok Taken) ≡ Ok Taken
    → (feed ≡ None) × (broken ≡ None)
passed-form (Some (Ok other)) feed same broken ok_address ok_feed ok_same ok_broken e = absurd (cc)
passed-form (Some (Err why)) feed same broken ok_address ok_feed ok_same ok_broken e = absurd (cc)
passed-form None (Some (Ok other)) same broken ok_address ok_feed ok_same ok_broken e = absurd (cc)
passed-form None (Some (Err why)) same broken ok_address ok_feed ok_same ok_broken e = absurd (cc)
passed-form None None (Some answer) broken ok_address ok_feed ok_same ok_broken e = absurd (ok_same e)
passed-form None None None (Some (Ok other)) ok_address ok_feed ok_same ok_broken e = absurd (cc)
passed-form None None None (Some (Err why)) ok_address ok_feed ok_same ok_broken e = absurd (cc)
passed-form None None None None ok_address ok_feed ok_same ok_broken e = (refl, refl)

taken-passed : (base : List ℕ) (kept : List KeptValue) (address : List ℕ) (given : KeptValue)
    → accept base kept address given ≡ Ok Taken
    → (wrong_feed kept given.document ≡ None) × (broken kept given.document ≡ None)
taken-passed base kept address given taken =
    passed-form (wrong_address base address given.document) (wrong_feed kept given.document)
    (first_of (known kept given ∷ stale kept given.document ∷ conflict kept given ∷ [])) (broken kept given.document)
    (address-refuses base address given.document) (feed-refuses kept given.document) (compared-other kept given)
    (broken-refuses kept given.document) (sym (accept-form base kept address given) ∙ taken)

none-passes : (test : Bool) (why : Answer) → cond test None (Some why) ≡ None → test ≡ true
none-passes true why e = refl
none-passes false why e = cc

feed-same : (first : KeptValue) (more : List KeptValue) (document : DocValue)
    → wrong_feed (first ∷ more) document ≡ None → first.document.name.id ≡ document.name.id
unfolding wrong_feed
feed-same first more document e =
    (bytes_eq-Decides first.document.name.id document.name.id).0
    (none-passes (bytes_eq first.document.name.id document.name.id)
    (Err (WrongFeed first.document.name.id document.name.id)) e)

-- one more document belongs to the same feed
feed-more : (kept : List KeptValue) (given : KeptValue) (id : List ℕ) → HaveFeed id kept
    → wrong_feed kept given.document ≡ None → (id' : List ℕ) × HaveFeed id' (kept ++ given ∷ [])
feed-more [] given id have passed = (
  given.document.name.id,
  All-cons (λ (held : KeptValue). held.document.name.id ≡ given.document.name.id) given [] refl
      (All-nil (λ (held : KeptValue). held.document.name.id ≡ given.document.name.id)),
)
feed-more (first ∷ more) given id have passed = (
  id,
  All-push (λ (held : KeptValue). held.document.name.id ≡ id) (first ∷ more) given have
      (sym (feed-same first more given.document passed)
      ∙ All-head (λ (held : KeptValue). held.document.name.id ≡ id) first more have),
)

-- the spans of a document that is taken

first-none : (check : Option Answer) (more : List (Option Answer)) → first_of (check ∷ more) ≡ None
    → (check ≡ None) × (first_of more ≡ None)
first-none None more e = (refl, e)
first-none (Some answer) more e = absurd (cc)

break-spans : (older newer : DocValue) → break_of older newer ≡ None → older.span.last + 1 ≡ newer.span.first
break-spans older newer e =
    eqb-true (older.span.last + 1) newer.span.first
    (none-passes (older.span.last + 1 == newer.span.first) (Err (Break older.span.last newer.span.first)) e)

after-spans : (given older : KeptValue) (held : Option KeptValue) → break_after given.document held ≡ None
    → held ≡ Some older → SpansAdjoin older given
unfolding break_after
after-spans given older None none e = absurd (cc)
after-spans given older (Some k) none e =
    subst (λ (h : KeptValue). SpansAdjoin h given) (same_Some k older e) (break-spans k.document given.document none)

before-spans : (given newer : KeptValue) (held : Option KeptValue) → break_before given.document held ≡ None
    → held ≡ Some newer → SpansAdjoin given newer
unfolding break_before
before-spans given newer None none e = absurd (cc)
before-spans given newer (Some k) none e =
    subst (λ (h : KeptValue). SpansAdjoin given h) (same_Some k newer e) (break-spans given.document k.document none)

best_after-is : (kept : List KeptValue) (number : ℕ) (best : KeptValue) → best_of kept ≡ Some best
    → best.document.prev ≡ number → best_after kept number ≡ Some best
unfolding best_after
best_after-is kept number best e same =
    ap (option_and_then (λ (k : KeptValue). cond (k.document.prev == number) (Some k) None)) e
    ∙ cond-true (best.document.prev == number) (Some best) None (eq-eqb best.document.prev number same)

-- no neighbour of a subscription document is broken, and none of an archive
newest-unbroken : (kept : List KeptValue) (given older : KeptValue) → given.document.kind ≡ Subscription
    → broken kept given.document ≡ None → archive_at kept given.document.prev ≡ Some older → SpansAdjoin older given
unfolding broken
newest-unbroken kept given older kind none e =
    let all : first_of (breaks_of_kind kept given.document Subscription) ≡ None =
    ap (λ (k : Kind). first_of (breaks_of_kind kept given.document k)) (sym kind) ∙ none in
    after-spans given older (archive_at kept given.document.prev) (first-none _ [] all).0 e

record Unbroken (kept : List KeptValue) (given : KeptValue) (number : ℕ) : Type 0 where
  older : (held : KeptValue) → archive_at kept (number - 1) ≡ Some held → SpansAdjoin held given
  newer : (held : KeptValue) → archive_at kept (number + 1) ≡ Some held → SpansAdjoin given held
  newest : (held : KeptValue) → best_of kept ≡ Some held → held.document.prev ≡ number → SpansAdjoin given held

archive-unbroken : (kept : List KeptValue) (given : KeptValue) (number : ℕ) → given.document.kind ≡ Sealed number
    → broken kept given.document ≡ None → Unbroken kept given number
unfolding broken
archive-unbroken kept given number kind none =
    let all : first_of (breaks_of_kind kept given.document (Sealed number)) ≡ None =
    ap (λ (k : Kind). first_of (breaks_of_kind kept given.document k)) (sym kind) ∙ none in
    let one = first-none _ _ all in
    let two = first-none _ _ one.1 in
    let three = first-none _ [] two.1 in
    record {
      older = λ held e. after-spans given held (archive_at kept (number - 1)) one.0 e;
      newer = λ held e. before-spans given held (archive_at kept (number + 1)) two.0 e;
      newest = λ held e same. before-spans given held (best_after kept number) three.0
          (best_after-is kept number held e same);
    }

-- the archive of a number once one more document is held: a held one, or the new one
archive-found : (kept : List KeptValue) (given found : KeptValue) (number : ℕ)
    → archive_at (kept ++ given ∷ []) number ≡ Some found
    → (archive_at kept number ≡ Some found) ⊎ ((found ≡ given) × (given.document.kind ≡ Sealed number))
archive-found kept given found number e =
    go (archive_at kept number) given.document.kind (sym (archive_at-push kept given number) ∙ e)
  where
    go : (held : Option KeptValue) (kind : Kind)
        → option_or held (cond (is_archive number kind) (Some given) None) ≡ Some found
        → (held ≡ Some found) ⊎ ((found ≡ given) × (kind ≡ Sealed number))
    go (Some k) kind e = inl e
    go None Subscription e = absurd (cc)
    go None (Sealed other) e = elim (cases_Bool (other == number)) [
      | inl same ↦
          inr (
            sym (same_Some given found (sym (cond-true (other == number) (Some given) None same) ∙ e)),
            ap Sealed (eqb-true other number same),
          )
      | inr differs ↦
          let none : None ≡ Some found = sym (ap (λ b. cond b (Some given) None) differs) ∙ e in absurd (cc)
    ]

newer-found : (best : Option KeptValue) (given found : KeptValue) → newer_of best given ≡ Some found
    → (best ≡ Some found) ⊎ (found ≡ given)
newer-found None given found e = inr (sym (same_Some given found e))
newer-found (Some best) given found e = go (nat_lt best.document.span.last given.document.span.last) e
  where
    go : (newer : Bool) → cond newer (Some given) (Some best) ≡ Some found
        → (Some best ≡ Some found) ⊎ (found ≡ given)
    go true e = inr (sym (same_Some given found e))
    go false e = inl e

archives-more : (kept : List KeptValue) (given : KeptValue) → NeighboursAdjoin kept
    → broken kept given.document ≡ None → (number : ℕ) (older newer : KeptValue)
    → archive_at (kept ++ given ∷ []) number ≡ Some older
    → archive_at (kept ++ given ∷ []) (number + 1) ≡ Some newer → SpansAdjoin older newer
archives-more kept given adjoin none number older newer e f =
    elim (archive-found kept given older number e) [
      | inl held ↦ elim (archive-found kept given newer (number + 1) f) [
        | inl also ↦ adjoin.archives number older newer held also
        | inr new ↦
            let below : number + 1 - 1 ≡ number = omega arith in
            subst (SpansAdjoin older) (sym new.0)
            ((archive-unbroken kept given (number + 1) new.1 none).older older (ap (archive_at kept) below ∙ held))
      ]
      | inr new ↦ elim (archive-found kept given newer (number + 1) f) [
        | inl also ↦
            subst (λ (k : KeptValue). SpansAdjoin k newer) (sym new.0)
            ((archive-unbroken kept given number new.1 none).newer newer also)
        | inr again ↦
            let both : Sealed number ≡ Sealed (number + 1) = sym new.1 ∙ again.1 in
            let same : number ≡ number + 1 = cc in
            absurd (omega arith)
      ]
    ]

best-more : (kept : List KeptValue) (given : KeptValue) → NeighboursAdjoin kept
    → broken kept given.document ≡ None → (older newest : KeptValue)
    → best_of (kept ++ given ∷ []) ≡ Some newest
    → archive_at (kept ++ given ∷ []) newest.document.prev ≡ Some older → SpansAdjoin older newest
best-more kept given adjoin none older newest e f = go given.document.kind refl
  where
    same_best : (kind : Kind) → given.document.kind ≡ kind → best_of kept ≡ Some newest
        → SpansAdjoin older newest
    same_best kind is best = elim (archive-found kept given older newest.document.prev f) [
      | inl held ↦ adjoin.best older newest best held
      | inr new ↦
          subst (λ (k : KeptValue). SpansAdjoin k newest) (sym new.0)
          ((archive-unbroken kept given newest.document.prev new.1 none).newest newest best refl)
    ]

    new_best : given.document.kind ≡ Subscription → newest ≡ given → SpansAdjoin older newest
    new_best is new = elim (archive-found kept given older newest.document.prev f) [
      | inl held ↦
          subst (SpansAdjoin older) (sym new) (newest-unbroken kept given older is none
          (ap (λ (k : KeptValue). archive_at kept k.document.prev) (sym new) ∙ held))
      | inr other ↦ let clash : Subscription ≡ Sealed newest.document.prev = sym is ∙ other.1 in absurd (cc)
    ]

    go : (kind : Kind) → given.document.kind ≡ kind → SpansAdjoin older newest
    go (Sealed number) is =
        same_best (Sealed number) is (sym (best_of-push-other kept given (ap is_subscription is)) ∙ e)
    go Subscription is =
        elim (newer-found (best_of kept) given newest (sym (best_of-push-own kept given (ap is_subscription is)) ∙ e)) [
          | inl best ↦ same_best Subscription is best
          | inr new ↦ new_best is new
        ]

held-more : (base : List ℕ) (kept : List KeptValue) (given : KeptValue) → AreHeld base kept
    → IsTakenAfter base kept given → AreHeld base (kept ++ given ∷ [])
held-more base kept given held taken =
    let passed = taken-passed base kept (own_text given.document) given taken.next in
    let feed = feed-more kept given held.id held.one_feed passed.0 in
    record {
      each = All-push (IsHeldDoc base) kept given held.each record {
        is_doc = taken.read.is_doc;
        base_is = (taken-place base kept (own_text given.document) given taken.next).0;
        digest = taken.read.digest;
      };
      id = feed.0;
      one_feed = feed.1;
      adjoined = record {
        archives = archives-more kept given held.adjoined passed.1;
        best = best-more kept given held.adjoined passed.1;
      };
    }

held-none : (base : List ℕ) → AreHeld base []
unfolding archive_at best_of
held-none base = record {
  each = All-nil (IsHeldDoc base);
  id = [];
  one_feed = All-nil (λ (held : KeptValue). held.document.name.id ≡ []);
  adjoined = record {
    archives = λ number older newer e f. absurd (cc);
    best = λ older newest e f. absurd (cc);
  };
}

held-all : (base : List ℕ) (kept given : List KeptValue) → AreHeld base kept → AreTakenAfter base kept given
    → AreHeld base (kept ++ given)
held-all base kept [] held taken = subst (AreHeld base) (sym (append-nil kept)) held
held-all base kept (k ∷ given) held taken =
    subst (AreHeld base) (append_assoc kept (k ∷ []) given)
    (held-all base (kept ++ k ∷ []) given (held-more base kept k held taken.0) taken.1)

-- for crates above: the documents that a loaded mirror holds
pub loaded-held : (base : List ℕ) (payloads : List (List ℕ)) (kept : List KeptValue)
    → IsLoadedOf base payloads kept → AreHeld base kept
loaded-held base payloads kept loaded =
    held-all base [] kept (held-none base) (loaded-taken base payloads kept loaded)

-- the chain of what is held, where nothing is missing

chain-last : (only : DocValue) → only.span.first ≡ 1 → IsChain (only ∷ [])
chain-last only first = record {
  adjoined = λ before after newer older e. absurd (none before newer older after e);
  whole = λ before oldest e. ap (λ (d : DocValue). d.span.first) (sym (same before oldest e)) ∙ first;
}
  where
    none : (before : List DocValue) (newer older : DocValue) (after : List DocValue)
        → only ∷ [] ≡ before ++ newer ∷ older ∷ after → ⊥
    none [] newer older after e = cc
    none (d ∷ []) newer older after e = cc
    none (d ∷ b ∷ before) newer older after e = cc

    same : (before : List DocValue) (oldest : DocValue) → only ∷ [] ≡ before ++ oldest ∷ [] → only ≡ oldest
    same [] oldest e = cc
    same (d ∷ []) oldest e = absurd (cc)
    same (d ∷ b ∷ before) oldest e = absurd (cc)

chain-more : (newer older : DocValue) (more : List DocValue) → Adjoins (place_of older) (place_of newer)
    → IsChain (older ∷ more) → IsChain (newer ∷ older ∷ more)
chain-more newer older more adjoins chain = record { adjoined = adjoined; whole = whole }
  where
    adjoined : (before after : List DocValue) (a b : DocValue) → newer ∷ older ∷ more ≡ before ++ a ∷ b ∷ after
        → Adjoins (place_of b) (place_of a)
    adjoined [] after a b e =
        let one : newer ≡ a = cc in
        let two : older ≡ b = cc in
        subst (λ (d : DocValue). Adjoins (place_of b) (place_of d)) one
        (subst (λ (d : DocValue). Adjoins (place_of d) (place_of newer)) two adjoins)
    adjoined (d ∷ before) after a b e =
        let rest : older ∷ more ≡ before ++ a ∷ b ∷ after = cc in chain.adjoined before after a b rest

    whole : (before : List DocValue) (oldest : DocValue) → newer ∷ older ∷ more ≡ before ++ oldest ∷ []
        → oldest.span.first ≡ 1
    whole [] oldest e = absurd (cc)
    whole (d ∷ before) oldest e = let rest : older ∷ more ≡ before ++ oldest ∷ [] = cc in chain.whole before oldest rest

-- a document with no archive before it begins with the first operation
first-of_none : (kind : Kind) (span : Span) (prev : ℕ) → IsTrue (is_placed kind span prev) → prev ≡ 0
    → span.first ≡ 1
first-of_none Subscription span prev placed none = grind (arith, nat_tests)
first-of_none (Sealed number) span prev placed none = grind (arith, nat_tests)

archives_from-next : (kept : List KeptValue) (number : ℕ) (held : KeptValue) → archive_at kept (suc number) ≡ Some held
    → archives_from kept (suc number) ≡ held.document ∷ archives_from kept number
unfolding archives_from
archives_from-next kept number held e = rw e refl

some-of : (kept : List KeptValue) (number : ℕ) → IsSome (archive_at kept number)
    → (held : KeptValue) × (archive_at kept number ≡ Some held)
some-of kept number = go (archive_at kept number)
  where
    go : (o : Option KeptValue) → IsSome o → (held : KeptValue) × (o ≡ Some held)
    go None some = absurd (cc)
    go (Some held) some = (held, refl)

module _ (base : List ℕ) (kept : List KeptValue) (held : AreHeld base kept) where
  archives-chain : (number : ℕ) (newer : DocValue) → IsDoc newer → newer.prev ≡ number
      → ((older : KeptValue) → archive_at kept number ≡ Some older → older.document.span.last + 1 ≡ newer.span.first)
      → ((n : ℕ) → 1 ≤ n → n ≤ number → IsSome (archive_at kept n)) → IsChain (newer ∷ archives_from kept number)
  unfolding archives_from
  archives-chain zero newer is_doc prev adjoin some =
      chain-last newer (first-of_none newer.kind newer.span newer.prev is_doc.rules.placed prev)
  archives-chain (suc number) newer is_doc prev adjoin some =
      let found = some-of kept (suc number) (some (suc number) (omega arith) (omega arith)) in
      let older = found.0 in
      let is = archive_at-holds (IsHeldDoc base) kept (suc number) older held.each found.1 in
      let before : older.document.prev ≡ number =
      omega (arith, (archive-numbers older.document (suc number) is.0.is_doc.rules is.1).before) in
      let next : archive_at kept (number + 1) ≡ Some older = let at : number + 1 ≡ suc number = omega arith in
      ap (archive_at kept) at ∙ found.1 in
      subst (λ (ds : List DocValue). IsChain (newer ∷ ds)) (sym (archives_from-next kept number older found.1))
      (chain-more newer older.document (archives_from kept number) record {
        named = ap own_address is.1 ∙ ap Archive (sym prev);
        spans = adjoin older found.1;
      }
      (archives-chain number older.document is.0.is_doc before
      (λ oldest e. held.adjoined.archives number oldest older e next)
      (λ n one within. some n one (omega arith))))

  -- for crates above: the best subscription document and the archives that it needs are a whole chain
  pub held-chain : first_missing kept ≡ None → IsChain (chain_of kept)
  unfolding first_missing
  held-chain whole =
      let found = best-of_whole kept whole in
      let best = found.0 in
      let is = best_of-holds (IsHeldDoc base) kept best held.each found.1 in
      let none = option_map-none (gap_from kept best.document.prev) (sym (ap (missing_after kept) found.1) ∙ whole) in
      subst IsChain (sym (chain_of-best kept best found.1))
      (archives-chain best.document.prev best.document is.0.is_doc refl
      (λ older e. held.adjoined.best older best found.1 e)
      (gap-none kept best.document.prev none))

  held-archive : (number : ℕ) (found : KeptValue) → archive_at kept number ≡ Some found
      → IsAtItsAddress base held.id kept found.document
  held-archive number found e =
      let is = archive_at-holds (IsHeldDoc base) kept number found held.each e in
      record {
        is_doc = is.0.is_doc;
        base_is = is.0.base_is;
        feed = (archive_at-holds (λ (k : KeptValue). k.document.name.id ≡ held.id) kept number found held.one_feed e).0;
        held = found;
        there = ap (λ (kind : Kind). document_at kept (own_address kind)) is.1 ∙ e;
        same = refl;
      }

  held-best : (found : KeptValue) → best_of kept ≡ Some found → IsAtItsAddress base held.id kept found.document
  held-best found e =
      let is = best_of-holds (IsHeldDoc base) kept found held.each e in
      record {
        is_doc = is.0.is_doc;
        base_is = is.0.base_is;
        feed = (best_of-holds (λ (k : KeptValue). k.document.name.id ≡ held.id) kept found held.one_feed e).0;
        held = found;
        there = ap (λ (kind : Kind). document_at kept (own_address kind)) is.1 ∙ e;
        same = refl;
      }

  archives-found : (number : ℕ) → All (IsAtItsAddress base held.id kept) (archives_from kept number)
  unfolding archives_from
  archives-found zero = All-nil (IsAtItsAddress base held.id kept)
  archives-found (suc number) = more (archive_at kept (suc number)) refl (archives-found number)
    where
      more : (found : Option KeptValue) → archive_at kept (suc number) ≡ found
          → All (IsAtItsAddress base held.id kept) (archives_from kept number)
          → All (IsAtItsAddress base held.id kept)
          (cons_option (option_map (λ (k : KeptValue). k.document) found) (archives_from kept number))
      more None e older = older
      more (Some k) e older =
          All-cons (IsAtItsAddress base held.id kept) k.document (archives_from kept number)
          (held-archive (suc number) k e) older

  -- for crates above: each document of the chain is the one held at its own address
  pub chain-found : All (IsAtItsAddress base held.id kept) (chain_of kept)
  unfolding chain_of
  chain-found = of (best_of kept) refl
    where
      of : (best : Option KeptValue) → best_of kept ≡ best
          → All (IsAtItsAddress base held.id kept) (chain_from kept best)
      of None e = All-nil (IsAtItsAddress base held.id kept)
      of (Some best) e =
          All-cons (IsAtItsAddress base held.id kept) best.document (archives_from kept best.document.prev)
          (held-best best e) (archives-found best.document.prev)

-- for crates above: one document is held at an address
pub found-same : (base id : List ℕ) (kept : List KeptValue) (one other : DocValue)
    → IsAtItsAddress base id kept one → IsAtItsAddress base id kept other
    → own_address one.kind ≡ own_address other.kind → one ≡ other
found-same base id kept one other first second same =
    let held = same_Some first.held second.held (sym first.there ∙ ap (document_at kept) same ∙ second.there) in
    sym first.same ∙ ap (λ (k : KeptValue). k.document) held ∙ second.same
