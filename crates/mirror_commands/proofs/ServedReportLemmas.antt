-- The output of a mirror over documents that one feed served: the report, or else the certificate.
use Rattle.std.proofs.Common.{◌≡◌, ◌⊎◌, inl, inr, ℕ, ◌+◌, List, [], ◌∷◌, ◌++◌, Bool, true, false, Option, None, Some}
use Rattle.std.proofs.Common.{Ok, Err, All, IsOk}
use Rattle.std.proofs.Common.{flat_map, length, map, take, refl, sym, ap, ap₂, subst, ◌∙◌, arith}
use Rattle.std.specs.Prelude.{fold}
use Rattle.std.proofs.lemmas.List.Elements.{All-append, All-contains, All-head, All-tail}
use Rattle.atom_values.specs.Entry.{EntryValue}
use Rattle.chain_links.specs.declared.address.Address.{Address}
use Rattle.chain_links.specs.declared.address.Address.TheVariants.{Archive, Feed, Member}
use Rattle.coverage_certificate.proofs.ServedLemmas.{certificate-served}
use Rattle.doc_source.specs.declared.offer.Offer.{Offer}
use Rattle.doc_source.proofs.OneReading.{one_reading}
use Rattle.doc_source.proofs.RunLemmas.{at_the_end}
use Rattle.member_rules.specs.Fold.{fold_of, made}
use Rattle.member_rules.specs.Head.{HeadValue}
use Rattle.member_rules.specs.History.{IsLawful}
use Rattle.member_rules.specs.Served.{Served}
use Rattle.member_rules.specs.Shows.{greatest_member, live_count_of}
use Rattle.member_rules.specs.declared.operation.Op.{Op}
use Rattle.member_rules.proofs.ServedLemmas.{prefix-lawful}
use Rattle.member_rules.proofs.ShowsLemmas.{live_of-past}
use Rattle.member_rules.proofs.StateLemmas.{AreMembers-of}
use Rattle.mirror_walk.specs.Accept.{Answer as MirrorAnswer}
use Rattle.mirror_walk.specs.Holding.{KeptValue, best_of, chain_of, first_missing, payloads_of}
use Rattle.mirror_walk.specs.Laws.{IsMissingOf, ShowsBest, ShowsServed, ShowsVersion}
use Rattle.mirror_walk.specs.Listing.{entries_up_to, live_at, live_entries, outcome_of}
use Rattle.mirror_walk.specs.Loaded.{IsLoadedOf}
use Rattle.mirror_walk.specs.Offers.{AreAnswered, AreServed, AreTakenOf, IsOffered, Offering}
use Rattle.mirror_walk.specs.declared.answer.Accepted.TheVariants.{Taken, Known, Stale}
use Rattle.mirror_walk.specs.declared.answer.Outcome.{Outcome}
use Rattle.mirror_walk.specs.declared.answer.Outcome.TheVariants.{Complete, Missing}
use Rattle.mirror_walk.proofs.MirrorLemmas.{law-of_mirror}
use Rattle.mirror_walk.proofs.OutcomeLemmas.{outcome-complete, outcome-missing}
use Rattle.command_ends.specs.Answer.{Answer}
use Rattle.mirror_commands.specs.Mirror.{IsReport, offering, pile_limit}
use Rattle.mirror_commands.specs.Report.{certified_ending, complete_line, counted, counts_of, ending, ending_in}
use Rattle.mirror_commands.specs.Report.{missing_line}
use Rattle.mirror_commands.specs.Report.{no_counts, optional_text, refused_lines, refused_lines_in, report_of, status_of}
use Rattle.mirror_commands.specs.Served.{IsPileOf, IsServedReport, MissesArchive, MissesFeed, ShowsFeed, counts_in}
use Rattle.mirror_commands.specs.Served.{entries_after}
use Rattle.mirror_commands.specs.Served.{own_offers, shown_at}
use Rattle.command_ends.specs.Summary.{entry_line}
use Rattle.mirror_commands.specs.declared.report.Counts.{Counts}
use Rattle.mirror_commands.proofs.AnswersLemmas.{answers-plain}
use Rattle.mirror_walk.proofs.InOrderLemmas.{entries-same}
use Rattle.mirror_commands.proofs.HeldLemmas.{taken-served}
use Rattle.mirror_commands.proofs.TakingLemmas.{answered-loaded}

-- nothing was refused

refused_lines-none : (offers : List Offering) (answers : List MirrorAnswer) → All IsOk answers
    → refused_lines offers answers ≡ []
refused_lines-none [] answers accepted = refl
refused_lines-none (offer ∷ offers) [] accepted = refl
refused_lines-none (offer ∷ offers) (Ok is ∷ answers) accepted =
    refused_lines-none offers answers (All-tail IsOk (Ok is) answers accepted)
refused_lines-none (offer ∷ offers) (Err refusal ∷ answers) accepted =
    let ok = All-head IsOk (Err refusal) answers accepted in absurd (cc)

counts-accepted : (answers : List MirrorAnswer) (before : Counts) → All IsOk answers
    → ((fold counted before answers).refused ≡ before.refused)
    × ((fold counted before answers).taken + (fold counted before answers).known + (fold counted before answers).stale
    ≡ before.taken + before.known + before.stale + length answers)
counts-accepted [] before accepted = (refl, omega arith)
counts-accepted (Ok Taken ∷ answers) before accepted =
    let after = counts-accepted answers (counted before (Ok Taken)) (All-tail IsOk (Ok Taken) answers accepted) in
    (after.0, omega (arith, after.1))
counts-accepted (Ok Known ∷ answers) before accepted =
    let after = counts-accepted answers (counted before (Ok Known)) (All-tail IsOk (Ok Known) answers accepted) in
    (after.0, omega (arith, after.1))
counts-accepted (Ok Stale ∷ answers) before accepted =
    let after = counts-accepted answers (counted before (Ok Stale)) (All-tail IsOk (Ok Stale) answers accepted) in
    (after.0, omega (arith, after.1))
counts-accepted (Err refusal ∷ answers) before accepted =
    let ok = All-head IsOk (Err refusal) answers accepted in absurd (cc)

answers-length : (base : List ℕ) (start : List KeptValue) (offers : List Offering) (answers : List MirrorAnswer)
    (kept : List KeptValue) → AreAnswered base start offers answers kept → length answers ≡ length offers
answers-length base start [] [] kept is = refl
answers-length base start [] (answer ∷ answers) kept is = absurd is
answers-length base start (offer ∷ offers) [] kept is = absurd is
answers-length base start (offer ∷ offers) (answer ∷ answers) kept (next, one, others) =
    let more = answers-length base next offers answers kept others in omega (arith, more)

refused_lines_in-none : (report : Bool) (offers : List Offering) (answers : List MirrorAnswer) → All IsOk answers
    → refused_lines_in report offers answers ≡ []
refused_lines_in-none true offers answers accepted = refused_lines-none offers answers accepted
refused_lines_in-none false offers answers accepted = refl

-- the live entries are those of the fold

entries-of_fold : (head : HeadValue) (history : List Op) (version : ℕ) (kept : List KeptValue) → IsLawful head history
    → ShowsVersion head history version (chain_of kept) → live_entries kept ≡ entries_after (take version history)
unfolding live_entries
entries-of_fold head history version kept lawful shows =
    let past = take version history in
    let live = (fold_of past).live in
    let members = AreMembers-of head.created past (prefix-lawful head history version lawful).following in
    let same : live_at kept ≡ live = λ i number. shows.fold.live number i in
    ap (λ (entries : ℕ → Option EntryValue). entries_up_to entries (greatest_member (chain_of kept))) same
    ∙ entries-same live (greatest_member (chain_of kept)) (made past)
    (λ number above. sym (shows.fold.live number) ∙ live_of-past (chain_of kept) number above)
    (λ number above. (members.none_past number above).0)

-- the outcome after the counts
abbrev pub shown_in : Bool → List ℕ → List KeptValue → Outcome → List ℕ
shown_in true base kept outcome = ending base (live_entries kept) outcome
shown_in false base kept outcome = certified_ending base kept outcome

pub shown-in : (report : Bool) (base : List ℕ) (counts : Counts) (kept : List KeptValue)
    → ending_in report base counts kept ≡ counts_in report counts ++ shown_in report base kept (outcome_of kept)
shown-in true base counts kept = refl
shown-in false base counts kept = refl

shown-missing : (report : Bool) (base : List ℕ) (kept : List KeptValue) (address : Address)
    → shown_in report base kept (Missing address) ≡ missing_line base address
shown-missing true base kept address = refl
shown-missing false base kept address = refl

-- the outcome of the documents held is one of three
abbrev pub Ends : Bool → HeadValue → List Op → List Offering → List KeptValue → Outcome → Type 0
Ends report head history offers kept outcome =
    let said = shown_in report head.name.base kept outcome in
    MissesFeed head offers (status_of outcome) said ⊎ MissesArchive head offers (status_of outcome) said
    ⊎ ShowsFeed report head history offers (status_of outcome) said

module _ (head : HeadValue) (history : List Op) (offers : List Offering) (kept : List KeptValue)
    (served : AreServed head history offers) (taken : AreTakenOf head.name.base offers kept)
    (loaded : IsLoadedOf head.name.base (payloads_of kept) kept) where
  offered-lawful : (best : KeptValue) → IsOffered offers best.document → IsLawful head history
  offered-lawful best offered =
      let (k, offer, within, there, text) = offered.there in
      (All-contains (λ (o : Offering). Served head history o.address o.bytes) offers offer served
      (k, within, there)).is_lawful

  -- all of the best document's chain is held
  shown-best : (report : Bool) (best : KeptValue) → best_of kept ≡ Some best → first_missing kept ≡ None
      → IsLawful head history → ShowsVersion head history best.document.span.last (chain_of kept)
      → shown_in report head.name.base kept (Complete best.document.span.last (live_count_of (chain_of kept)))
      ≡ shown_at report head best.document.span.last (take best.document.span.last history)
  shown-best true best is none lawful shown =
      let version = best.document.span.last in
      ap₂ (λ (es : List EntryValue) (live : ℕ). flat_map entry_line es ++ complete_line version live)
      (entries-of_fold head history version kept lawful shown) shown.fold.count
  shown-best false best is none lawful shown =
      ap optional_text
      (certificate-served head.name.base (payloads_of kept) kept loaded none head history refl
      (taken-served head history offers kept served taken) best is)

  ends-best : (report : Bool) (best : KeptValue) → best_of kept ≡ Some best
      → ShowsBest head history offers kept best → (missing : Option Address) → first_missing kept ≡ missing
      → IsMissingOf head.name.base offers best.document.prev missing
      → Ends report head history offers kept (outcome_of kept)
  ends-best report best is shows None none all =
      let shown = shows.live none in
      subst (Ends report head history offers kept) (sym (outcome-complete kept best is none)) (inr (inr (record {
        best = best.document;
        newest = shows.newest;
        all = all;
        past = shown.past;
        ends = refl;
        prints = shown-best report best is none (offered-lawful best shows.newest.offered) shown;
      })))
  ends-best report best is shows (Some Feed) missing first = absurd first
  ends-best report best is shows (Some (Archive number)) missing first =
      subst (Ends report head history offers kept) (sym (outcome-missing kept (Archive number) missing))
      (inr (inl (record {
        best = best.document;
        newest = shows.newest;
        number = number;
        first = first;
        ends = refl;
        prints = shown-missing report head.name.base kept (Archive number);
      })))
  ends-best report best is shows (Some (Member number)) missing first = absurd first

  ends-served : (report : Bool) (best : Option KeptValue) → best_of kept ≡ best
      → ShowsServed head history offers kept best → Ends report head history offers kept (outcome_of kept)
  ends-served report None is shows =
      subst (Ends report head history offers kept) (sym (outcome-missing kept Feed shows.missing)) (inl (record {
        none_offered = shows.none_offered;
        ends = refl;
        prints = shown-missing report head.name.base kept Feed;
      }))
  ends-served report (Some best) is shows =
      ends-best report best is shows (first_missing kept) refl shows.missing

-- the documents that were held, and then others
pub answered-append : (base : List ℕ) (offers more : List Offering) (answers others : List MirrorAnswer)
    (kept middle left : List KeptValue) → AreAnswered base kept offers answers middle
    → AreAnswered base middle more others left → AreAnswered base kept (offers ++ more) (answers ++ others) left
answered-append base [] more [] others kept middle left first second =
    subst (λ (l : List KeptValue). AreAnswered base l more others left) first second
answered-append base [] more (answer ∷ answers) others kept middle left first second = absurd first
answered-append base (offer ∷ offers) more [] others kept middle left first second = absurd first
answered-append base (offer ∷ offers) more (answer ∷ answers) others kept middle left (next, one, rest) second =
    (next, one, answered-append base offers more answers others next middle left rest second)

All-behind : (first rest : List MirrorAnswer) → All IsOk (first ++ rest) → All IsOk rest
All-behind [] rest all = all
All-behind (answer ∷ first) rest all = All-behind first rest (All-tail IsOk answer (first ++ rest) all)

All-served : (head : HeadValue) (history : List Op) (first rest : List Offering) → AreServed head history first
    → AreServed head history rest → AreServed head history (first ++ rest)
All-served head history first rest p q =
    All-append (λ (offer : Offering). Served head history offer.address offer.bytes) first rest p q

module _ (report : Bool) (head : HeadValue) (history : List Op) (held : List KeptValue) (payloads : List (List ℕ))
    (loaded : IsLoadedOf head.name.base payloads held) (own : AreServed head history (own_offers held)) where
  -- the outcome of documents that were taken after those that were held
  pub ends-taken : (offers : List Offering) (kept : List KeptValue) → AreServed head history offers
      → AreTakenOf head.name.base (own_offers held ++ offers) kept
      → IsLoadedOf head.name.base (payloads_of kept) kept
      → Ends report head history (own_offers held ++ offers) kept (outcome_of kept)
  ends-taken offers kept served taken left =
      let all = All-served head history (own_offers held) offers own served in
      let mirrors = law-of_mirror head history (own_offers held ++ offers) taken.answers kept all taken.answered in
      ends-served head history (own_offers held ++ offers) kept all taken left report (best_of kept) refl mirrors.shows

  -- the output ends with this outcome, and nothing was refused
  served-all : (offers : List Offering) (answers : List MirrorAnswer) (kept : List KeptValue)
      → AreServed head history offers → AreAnswered head.name.base held offers answers kept
      → IsLoadedOf head.name.base (payloads_of kept) kept
      → All IsOk answers × Ends report head history (own_offers held ++ offers) kept (outcome_of kept)
  served-all offers answers kept served answered left =
      let all = All-served head history (own_offers held) offers own served in
      let first : List MirrorAnswer = map (λ _. Ok Taken) held in
      let behind = answered-append head.name.base (own_offers held) offers first answers [] held kept loaded.taken
      answered in
      let mirrors = law-of_mirror head history (own_offers held ++ offers) (first ++ answers) kept all behind in (
        All-behind first answers mirrors.accepted,
        ends-taken offers kept served (record { answers = first ++ answers; answered = behind }) left,
      )

  report-served : (offers : List Offering) (answers : List MirrorAnswer) (kept : List KeptValue)
      → AreServed head history offers → AreAnswered head.name.base held offers answers kept
      → IsLoadedOf head.name.base (payloads_of kept) kept
      → IsServedReport report head history held offers (report_of report head.name.base offers answers kept)
  unfolding report_of
  report-served offers answers kept served answered left =
      let mirrors = served-all offers answers kept served answered left in
      let counts = counts-accepted answers no_counts mirrors.0 in
      record {
        counts = counts_of answers;
        none_refused = counts.0;
        all = omega (arith, counts.1, answers-length head.name.base held offers answers kept answered);
        ending = shown_in report head.name.base kept (outcome_of kept);
        is = ap₂ (λ (lines said : List ℕ). lines ++ said) (refused_lines_in-none report offers answers mirrors.0)
            (shown-in report head.name.base (counts_of answers) kept);
        ends = mirrors.1;
      }

  pub served-report : (capacity : ℕ) (input : List ℕ) (given : Answer) (offers : List Offer)
      → IsReport report capacity head.name.base held input given → IsPileOf offers input
      → AreServed head history (map offering offers)
      → IsServedReport report head history held (map offering offers) given
  served-report capacity input given offers shown pile served =
      let read = shown.read.read in
      let whole = at_the_end input shown.offers shown.read.used pile_limit shown.read.bytes read shown.read.answer in
      let all : shown.offers ≡ offers = one_reading shown.offers offers read.are pile.are (sym whole ∙ pile.whole) in
      let within = shown.has.answered in
      let answered = answers-plain capacity head.name.base held (map offering shown.offers) shown.has.answers shown.left
      within in
      let answered_all = subst (λ (os : List Offer). AreAnswered head.name.base held (map offering os) shown.has.answers
      shown.left) all answered in
      let left = answered-loaded capacity head.name.base held (map offering shown.offers) shown.has.answers
      shown.left within
      (subst (λ (list : List (List ℕ)). IsLoadedOf head.name.base list held) loaded.payloads loaded) in
      let is = shown.is
      ∙ ap (λ (os : List Offer). report_of report head.name.base (map offering os) shown.has.answers shown.left) all in
      subst (IsServedReport report head history held (map offering offers)) (sym is)
      (report-served (map offering offers) shown.has.answers shown.left served answered_all left)
