-- A walk of an empty mirror over a relay that misses no document.
use Rattle.std.proofs.Common.{◌≡◌, ◌⊎◌, inl, inr, ℕ, zero, suc, ◌==◌, ◌<◌, ◌≤◌, ◌^◌, List, []}
use Rattle.std.proofs.Common.{◌∷◌, ◌++◌, Option, Some, None, Ok, Err, refl, ap, sym, subst, ◌∙◌, arith, option_map}
use Rattle.std.proofs.Common.{eq-eqb}
use Rattle.std.specs.Prelude.{IsSome}
use Rattle.std.specs.List.{cons_option}
use Rattle.std.proofs.lemmas.Bool.{cases_Bool, eqb-true}
use Rattle.std.proofs.lemmas.List.Elements.{All-append, All-cons, All-nil}
use Rattle.atom_writer.specs.Doc.{DocValue}
use Rattle.atom_writer.specs.Pieces.{text}
use Rattle.atom_writer.specs.declared.doc.Kind.TheVariants.{Subscription, Archive as Sealed}
use Rattle.chain_links.specs.Address.{printed}
use Rattle.chain_links.specs.declared.address.Address.{Address}
use Rattle.chain_links.specs.declared.address.Address.TheVariants.{Feed, Archive}
use Rattle.feed_relay.specs.Fetch.{relay_answers}
use Rattle.feed_relay.specs.Laws.{ShowsTheSame}
use Rattle.feed_relay.proofs.AnswerLemmas.{answers-named}
use Rattle.feed_relay.proofs.TakenLemmas.{IsPart, archive-taken, best-taken}
use Rattle.member_rules.specs.Shows.{greatest_member, live_count_of, live_of}
use Rattle.mirror_walk.specs.declared.answer.Accepted.{Accepted}
use Rattle.mirror_walk.specs.declared.answer.Accepted.TheVariants.{Taken, Known, Stale}
use Rattle.mirror_walk.specs.declared.answer.Offered.TheVariants.{NoMemory}
use Rattle.mirror_walk.specs.declared.answer.Outcome.TheVariants.{Complete}
use Rattle.mirror_walk.specs.declared.walk.Refusal.{Refusal}
use Rattle.mirror_walk.specs.declared.walk.Walked.{Walked}
use Rattle.mirror_walk.specs.Accept.{Answer, IsForRoom, IsKeptOf, accept, after_answer}
use Rattle.mirror_walk.specs.Held.{AreHeld, IsHeldDoc}
use Rattle.mirror_walk.specs.Holding.{KeptValue, archive_at, archives_from, best_of, chain_of, first_missing, is_archive}
use Rattle.mirror_walk.specs.Holding.{is_subscription, newer_of, payloads_of}
use Rattle.mirror_walk.specs.Listing.{entries_up_to, live_entries, outcome_of}
use Rattle.mirror_walk.specs.Loaded.{IsLoadedOf}
use Rattle.mirror_walk.specs.Mirror.{MirrorValue}
use Rattle.mirror_walk.specs.Walk.{EndsAt, EndsBefore, HasRefusal, HasWalked, IsAnswered, WalkEnding, WalkSetting}
use Rattle.mirror_walk.specs.Walk.{Walks, answer_at, setting_by}
use Rattle.mirror_walk.specs.Walk.WalkEnding.{cut_short, disk_failed, fetch_failed, filled, not_there}
use Rattle.mirror_walk.specs.Walk.WalkEnding.{nothing_wanted, refused}
use Rattle.mirror_walk.proofs.FoundLemmas.{archive_at-holds, best_of-holds}
use Rattle.mirror_walk.proofs.GapLemmas.{gap-found}
use Rattle.mirror_walk.proofs.HeldLemmas.{loaded-held}
use Rattle.mirror_walk.proofs.HeldOfferLemmas.{held-fits}
use Rattle.mirror_walk.proofs.MissingLemmas.{whole-held}
use Rattle.mirror_walk.proofs.OutcomeLemmas.{best-of_whole, chain_of-best, outcome-complete}
use Rattle.mirror_walk.proofs.PushLemmas.{archive_at-push-other, archive_at-push-own, best_of-push-other}
use Rattle.mirror_walk.proofs.PushLemmas.{best_of-push-own}
use Rattle.mirror_walk.proofs.RoomLemmas.{within-accepted, within-refused}
use Rattle.mirror_walk.proofs.TakenLemmas.{same-kept}
use Rattle.mirror_walk.proofs.WalkLemmas.{next-gap}

-- a walk that met no fault
abbrev IsEnded : WalkEnding → Type 0
IsEnded nothing_wanted = Unit {0}
IsEnded not_there = Unit {0}
IsEnded (refused why) = Unit {0}
IsEnded fetch_failed = ⊥
IsEnded (filled size needed capacity) = ⊥
IsEnded disk_failed = ⊥
IsEnded cut_short = ⊥

has-ended : (asked : List Address) (ending : WalkEnding) (refusal : Option Refusal) → HasRefusal asked ending refusal
    → IsEnded ending
has-ended asked nothing_wanted refusal has = tt
has-ended asked not_there refusal has = tt
has-ended asked (refused why) refusal has = tt
has-ended asked fetch_failed refusal has = has
has-ended asked (filled size needed capacity) refusal has = has
has-ended asked disk_failed refusal has = has
has-ended asked cut_short refusal has = has

-- the document that is found at an address, and which the mirror takes there
pub record IsDue (setting : WalkSetting) (kept : List KeptValue) (address : Address) (given : KeptValue) : Type 0 where
  pub there : answer_at setting address ≡ Some (text given.document)
  pub read : IsKeptOf (text given.document) given
  pub taken : accept setting.base kept (printed setting.base address) given ≡ Ok Taken

module _ (setting : WalkSetting) (kept : List KeptValue) (address : Address) (given : KeptValue)
    (due : IsDue setting kept address given) where
  -- no other answer fits it
  fits : (answer : Answer) → (answer ≡ accept setting.base kept (printed setting.base address) given)
      ⊎ (answer ≡ Err NoMemory) → (answer ≡ Ok Taken) ⊎ (answer ≡ Err NoMemory)
  fits answer (inl is) = inl (is ∙ due.taken)
  fits answer (inr spent) = inr spent

  same-bytes : (bytes : List ℕ) → answer_at setting address ≡ Some bytes → bytes ≡ text given.document
  same-bytes bytes is = let some = sym is ∙ due.there in cc

  pub due-taken : (answer : Accepted) (left : List KeptValue) → IsAnswered setting kept address (Ok answer) left
      → left ≡ kept ++ given ∷ []
  due-taken answer left answered =
      let there = printed setting.base address in
      let plain = within-accepted setting.capacity setting.base kept there answered.bytes answer left answered.answered in
      let is : plain.given ≡ given = same-kept answered.bytes plain.given given plain.read
      (subst (λ (b : List ℕ). IsKeptOf b given) (sym (same-bytes answered.bytes answered.there)) due.read) in
      of answer plain.given is (plain.first_fit ∙ ap (accept setting.base kept there) is ∙ due.taken) plain.left_over
    where
      of : (answer : Accepted) (other : KeptValue) → other ≡ given → (let made : Answer = Ok answer in made ≡ Ok Taken)
          → left ≡ after_answer kept other (Ok answer) → left ≡ kept ++ given ∷ []
      of Taken other is fit left_over = left_over ∙ ap (λ (k : KeptValue). kept ++ k ∷ []) is
      of Known other is fit left_over = absurd (cc)
      of Stale other is fit left_over = absurd (cc)

  pub due-ends : (ending : WalkEnding) → IsEnded ending → EndsAt setting kept address ending → ⊥
  due-ends nothing_wanted ended ends = ends
  due-ends not_there ended ends = absurd (let some = sym ends ∙ due.there in cc)
  due-ends (refused why) ended (no_room, answered) =
      let there = printed setting.base address in
      let plain = within-refused setting.capacity setting.base kept there answered.bytes why kept no_room
      answered.answered in
      elim (fits (Err why) (held-fits setting.base kept there answered.bytes (Err why) kept (inr plain) given
      (subst (λ (b : List ℕ). IsKeptOf b given) (sym (same-bytes answered.bytes answered.there)) due.read))) [
        | inl is ↦ absurd (cc)
        | inr spent ↦ let same : why ≡ NoMemory = cc in absurd (no_room (subst IsForRoom (sym same) tt))
      ]
  due-ends fetch_failed ended ends = ended
  due-ends (filled size needed capacity) ended ends = ended
  due-ends disk_failed ended ends = ended
  due-ends cut_short ended ends = ended

module _ (relayed : List KeptValue) (mirror : MirrorValue)
    (loaded : IsLoadedOf mirror.base (payloads_of relayed) relayed) (whole : first_missing relayed ≡ None)
    (best : KeptValue) (newest : best_of relayed ≡ Some best) where
  abbrev setting : WalkSetting
  setting = setting_by mirror (relay_answers mirror.base relayed)

  held : AreHeld mirror.base relayed
  held = loaded-held mirror.base (payloads_of relayed) relayed loaded

  kept-of : (k : KeptValue) → IsHeldDoc mirror.base k → IsKeptOf (text k.document) k
  kept-of k is = record { is_doc = is.is_doc; text = refl; digest = is.digest }

  best-own : IsHeldDoc mirror.base best × (best.document.kind ≡ Subscription)
  best-own = best_of-holds (IsHeldDoc mirror.base) relayed best held.each newest

  best-due : IsDue setting [] Feed best
  best-due = record {
    there = answers-named mirror.base relayed held.each Feed tt ∙ ap (option_map (λ (k : KeptValue). text k.document)) newest;
    read = kept-of best best-own.0;
    taken = best-taken mirror.base relayed held best newest best-own.1 best-own.0.base_is;
  }

  none-held : (n : ℕ) → archive_at [] n ≡ None
  unfolding archive_at
  none-held n = refl

  none-best : best_of [] ≡ None
  unfolding best_of
  none-best = refl

  abbrev IsPartOf : List KeptValue → Type 0
  IsPartOf kept = IsPart relayed held.id best kept

  abbrev IsOfFeed : KeptValue → Type 0
  IsOfFeed k = k.document.name.id ≡ held.id

  best-part : IsPartOf ([] ++ best ∷ [])
  best-part = record {
    best_is = best_of-push-own [] best (ap is_subscription best-own.1) ∙ ap (λ (o : Option KeptValue). newer_of o best) none-best;
    archives = λ n. inl (archive_at-push-other [] best n (ap (is_archive n) best-own.1) ∙ none-held n);
    one_feed = All-cons IsOfFeed best [] (best_of-holds IsOfFeed relayed best held.one_feed newest).0 (All-nil IsOfFeed);
  }

  -- an archive of the relay that the best subscription document needs and that isn't held
  record IsGapAt (kept : List KeptValue) (address : Address) : Type 0 where
    number : ℕ
    is : address ≡ Archive number
    one : 1 ≤ number
    small : number < 2 ^ 32
    free : archive_at kept number ≡ None
    given : KeptValue
    there : archive_at relayed number ≡ Some given
    own : IsHeldDoc mirror.base given
    kind : given.document.kind ≡ Sealed number
    id : given.document.name.id ≡ held.id

  some-of : (found : Option KeptValue) → IsSome found → (k : KeptValue) × (found ≡ Some k)
  some-of None some = absurd (cc)
  some-of (Some k) some = (k, refl)

  gap-at : (kept : List KeptValue) (address : Address) → IsPartOf kept → first_missing kept ≡ Some address
      → IsGapAt kept address
  gap-at kept address part next =
      let gap = next-gap kept best address part.best_is next in
      let found = gap-found kept best.document.prev gap.number gap.gap in
      let some = some-of (archive_at relayed gap.number)
      (whole-held relayed best whole newest gap.number found.one found.within) in
      let own = archive_at-holds (IsHeldDoc mirror.base) relayed gap.number some.0 held.each some.1 in
      record {
        number = gap.number;
        is = gap.is;
        one = found.one;
        small = omega (arith, found.within, best-own.0.is_doc.prev);
        free = found.free;
        given = some.0;
        there = some.1;
        own = own.0;
        kind = own.1;
        id = (archive_at-holds IsOfFeed relayed gap.number some.0 held.one_feed some.1).0;
      }

  archive-due : (kept : List KeptValue) (part : IsPartOf kept) (address : Address) (gap : IsGapAt kept address)
      → IsDue setting kept address gap.given
  archive-due kept part address gap =
      subst (λ (a : Address). IsDue setting kept a gap.given) (sym gap.is) record {
        there = answers-named mirror.base relayed held.each (Archive gap.number) (gap.one, gap.small)
            ∙ ap (option_map (λ (k : KeptValue). text k.document)) gap.there;
        read = kept-of gap.given gap.own;
        taken = archive-taken mirror.base relayed held best newest kept part gap.number gap.one gap.free gap.given gap.there
            gap.kind gap.own.base_is gap.id;
      }

  archive-part : (kept : List KeptValue) (part : IsPartOf kept) (address : Address) (gap : IsGapAt kept address)
      → IsPartOf (kept ++ gap.given ∷ [])
  archive-part kept part address gap = record {
    best_is = best_of-push-other kept gap.given (ap is_subscription gap.kind) ∙ part.best_is;
    archives = λ n. elim (cases_Bool (gap.number == n)) [
      | inl own ↦
          let same : gap.number ≡ n = eqb-true gap.number n own in
          inr (subst (λ (m : ℕ). archive_at (kept ++ gap.given ∷ []) m ≡ archive_at relayed m) same
          (archive_at-push-own kept gap.given gap.number gap.free
          (ap (is_archive gap.number) gap.kind ∙ eq-eqb gap.number gap.number refl) ∙ sym gap.there))
      | inr other ↦
          let stays = archive_at-push-other kept gap.given n (ap (is_archive n) gap.kind ∙ other) in
          elim (part.archives n) [
            | inl none ↦ inl (stays ∙ none)
            | inr same ↦ inr (stays ∙ same)
          ]
    ];
    one_feed = All-append IsOfFeed kept (gap.given ∷ []) part.one_feed
        (All-cons IsOfFeed gap.given [] gap.id (All-nil IsOfFeed));
  }

  -- the walk takes what it asks for, and ends where nothing is missing
  record HasEnded (left : List KeptValue) (ending : WalkEnding) : Type 0 where
    part : IsPartOf left
    missing : first_missing left ≡ None
    ending_is : ending ≡ nothing_wanted

  ends-before : (next : Option Address) (ending : WalkEnding) → IsEnded ending → EndsBefore next ending
      → (next ≡ None) × (ending ≡ nothing_wanted)
  ends-before next nothing_wanted ended ends = (ends, refl)
  ends-before next not_there ended ends = absurd ends
  ends-before next (refused why) ended ends = absurd ends
  ends-before next fetch_failed ended ends = absurd ended
  ends-before next (filled size needed capacity) ended ends = absurd ended
  ends-before next disk_failed ended ends = absurd ended
  ends-before next cut_short ended ends = absurd ended

  goes-on : (asked : List Address) (accepted : List Accepted) (kept left : List KeptValue) (ending : WalkEnding)
      → IsPartOf kept → IsEnded ending → Walks setting kept (first_missing kept) asked accepted left ending
      → HasEnded left ending
  goes-on [] [] kept left ending part ended (same, ends) =
      let last = ends-before (first_missing kept) ending ended ends in
      subst (λ (ks : List KeptValue). HasEnded ks ending) (sym same)
      record { part = part; missing = last.0; ending_is = last.1 }
  goes-on [] (answer ∷ accepted) kept left ending part ended walks = absurd walks
  goes-on (address ∷ asked) [] kept left ending part ended (next, none, same, ends) =
      let gap = gap-at kept address part next in
      absurd (due-ends setting kept address gap.given (archive-due kept part address gap) ending ended ends)
  goes-on (address ∷ asked) (answer ∷ accepted) kept left ending part ended (next, (after, answered, walks)) =
      let gap = gap-at kept address part next in
      let is = due-taken setting kept address gap.given (archive-due kept part address gap) answer after answered in
      goes-on asked accepted after left ending
      (subst IsPartOf (sym is) (archive-part kept part address gap)) ended walks

  begins : (asked : List Address) (accepted : List Accepted) (left : List KeptValue) (ending : WalkEnding)
      → IsEnded ending → Walks setting [] (Some Feed) asked accepted left ending → HasEnded left ending
  begins [] [] left ending ended (same, ends) =
      absurd (let last = ends-before (Some Feed) ending ended ends in let none = last.0 in cc)
  begins [] (answer ∷ accepted) left ending ended walks = absurd walks
  begins (address ∷ asked) [] left ending ended (next, none, same, ends) =
      let is : Feed ≡ address = cc in
      absurd (due-ends setting [] Feed best best-due ending ended
      (subst (λ (a : Address). EndsAt setting [] a ending) (sym is) ends))
  begins (address ∷ asked) (answer ∷ accepted) left ending ended (next, (after, answered, walks)) =
      let is : Feed ≡ address = cc in
      let taken = due-taken setting [] Feed best best-due answer after
      (subst (λ (a : Address). IsAnswered setting [] a (Ok answer) after) (sym is) answered) in
      goes-on asked accepted after left ending (subst IsPartOf (sym taken) best-part) ended walks

  -- the same chain

  same-archives : (left : List KeptValue) (number : ℕ)
      → ((n : ℕ) → 1 ≤ n → n ≤ number → archive_at left n ≡ archive_at relayed n)
      → archives_from left number ≡ archives_from relayed number
  unfolding archives_from
  same-archives left zero same = refl
  same-archives left (suc number) same =
      rw (same (suc number) (omega arith) (omega arith))
      (ap (cons_option (option_map (λ (k : KeptValue). k.document) (archive_at relayed (suc number))))
      (same-archives left number (λ n one within. same n one (omega (arith, within)))))

  same-chain : (left : List KeptValue) (ending : WalkEnding) → HasEnded left ending → chain_of left ≡ chain_of relayed
  same-chain left ending has =
      chain_of-best left best has.part.best_is
      ∙ ap (λ (ds : List DocValue). best.document ∷ ds)
      (same-archives left best.document.prev (λ n one within. elim (has.part.archives n) [
        | inl none ↦
            absurd (let some = whole-held left best has.missing has.part.best_is n one within in cc)
        | inr same ↦ same
      ]))
      ∙ sym (chain_of-best relayed best newest)

  same-live : (left : List KeptValue) → chain_of left ≡ chain_of relayed → live_entries left ≡ live_entries relayed
  unfolding live_entries
  same-live left same =
      ap (λ (ds : List DocValue). entries_up_to (λ (n : ℕ). live_of ds n) (greatest_member ds)) same

  same-outcome : (left : List KeptValue) (ending : WalkEnding) → HasEnded left ending
      → outcome_of left ≡ outcome_of relayed
  same-outcome left ending has =
      outcome-complete left best has.part.best_is has.missing
      ∙ ap (λ (ds : List DocValue). Complete best.document.span.last (live_count_of ds)) (same-chain left ending has)
      ∙ sym (outcome-complete relayed best newest whole)

  shows : (left : List KeptValue) (asked : List Address) (ending : WalkEnding) (walked : Walked) → HasEnded left ending
      → walked.outcome ≡ outcome_of left → HasRefusal asked ending walked.refused → ShowsTheSame relayed left walked
  shows left asked ending walked has outcome refusal = record {
    whole = has.missing;
    best = has.part.best_is ∙ sym newest;
    refused = subst (λ (e : WalkEnding). HasRefusal asked e walked.refused) has.ending_is refusal;
    outcome = outcome ∙ same-outcome left ending has;
    live = same-live left (same-chain left ending has);
  }

pub walks-same : (relayed : List KeptValue) (mirror : MirrorValue) (now : List KeptValue)
    (before after : List (List ℕ)) (walked : Walked) → IsLoadedOf mirror.base (payloads_of relayed) relayed
    → first_missing relayed ≡ None → mirror.kept ≡ []
    → HasWalked (setting_by mirror (relay_answers mirror.base relayed)) mirror.kept now before after (Ok walked)
    → ShowsTheSame relayed now walked
walks-same relayed mirror now before after walked loaded whole empty has =
    let (best, newest) = best-of_whole relayed whole in
    let walks = subst (λ (ks : List KeptValue). Walks (setting_by mirror (relay_answers mirror.base relayed)) ks (Some Feed)
    has.asked has.accepted has.held has.ending) empty has.walks in
    let ended = begins relayed mirror loaded whole best newest has.asked has.accepted has.held has.ending
    (has-ended has.asked has.ending walked.refused has.result.refusal) walks in
    subst (λ (ks : List KeptValue). ShowsTheSame relayed ks walked) (sym (has.left (λ e. cc)))
    (shows relayed mirror loaded whole best newest has.held has.asked has.ending walked ended has.result.outcome
    has.result.refusal)
