-- The output of a walk over the documents that one feed served: the report, or else the certificate.
use Rattle.std.proofs.Common.{◌≡◌, ℕ, ◌+◌, List, [], ◌∷◌, ◌++◌, Option, None, Some, Ok, length, map, unwrap_or}
use Rattle.std.proofs.Common.{Bool, refl, sym, ap, ap₂, subst, arith}
use Rattle.std.specs.Prelude.{count_by, if◌then◌else◌}
use Rattle.std.proofs.lemmas.List.Elements.{All-cons, All-nil}
use Rattle.std.proofs.lemmas.List.Sums.{sum_by-cons}
use Rattle.chain_links.specs.Address.{printed}
use Rattle.chain_links.specs.declared.address.Address.{Address}
use Rattle.chain_links.specs.declared.address.Address.TheVariants.{Feed}
use Rattle.member_rules.specs.Head.{HeadValue}
use Rattle.member_rules.specs.Served.{Served}
use Rattle.member_rules.specs.declared.operation.Op.{Op}
use Rattle.mirror_walk.specs.Holding.{KeptValue, first_missing}
use Rattle.mirror_walk.specs.Listing.{outcome_of}
use Rattle.mirror_walk.specs.Loaded.{IsLoadedOf}
use Rattle.mirror_walk.specs.Offers.{AreServed, AreTakenOf, Offering}
use Rattle.mirror_walk.specs.Walk.{HasWalked, IsServedBy, WalkEnding, WalkSetting, Walks, accepted_offers, answer_at}
use Rattle.mirror_walk.specs.Walk.{is_known, is_stale, is_taken}
use Rattle.mirror_walk.specs.declared.answer.Accepted.{Accepted}
use Rattle.mirror_walk.specs.declared.answer.Accepted.TheVariants.{Taken, Known, Stale}
use Rattle.mirror_walk.proofs.WalkServedLemmas.{accepted-served, walk-taken, walked-served, walks-loaded}
use Rattle.command_ends.specs.Answer.{Answer}
use Rattle.mirror_commands.specs.Report.{refused_count, walk_counts, walk_line_in, walk_report}
use Rattle.mirror_commands.specs.Served.{IsServedReport, own_offers}
use Rattle.mirror_commands.specs.Walked.{IsWalkReport, walk_setting}
use Rattle.mirror_commands.proofs.ServedReportLemmas.{ends-taken, shown-in, shown_in}

offers-length : (setting : WalkSetting) (asked : List Address) (accepted : List Accepted) (kept left : List KeptValue)
    (next : Option Address) (ending : WalkEnding) → Walks setting kept next asked accepted left ending
    → length (accepted_offers setting asked accepted) ≡ length accepted
offers-length setting [] [] kept left next ending walks = refl
offers-length setting [] (answer ∷ accepted) kept left next ending walks = absurd walks
offers-length setting (address ∷ asked) [] kept left next ending walks = refl
offers-length setting (address ∷ asked) (answer ∷ accepted) kept left next ending (is, (after, answered, walks)) =
    let more = offers-length setting asked accepted after left (first_missing after) ending walks in omega (arith, more)

abbrev one : Bool → ℕ
one is = if is then 1 else 0

one-of : (answer : Accepted) → one (is_taken answer) + one (is_known answer) + one (is_stale answer) ≡ 1
one-of Taken = refl
one-of Known = refl
one-of Stale = refl

counts-all : (accepted : List Accepted)
    → count_by is_taken accepted + count_by is_known accepted + count_by is_stale accepted ≡ length accepted
counts-all [] = refl
counts-all (answer ∷ accepted) = omega (
  arith,
  counts-all accepted,
  one-of answer,
  sum_by-cons (λ a. one (is_taken a)) answer accepted,
  sum_by-cons (λ a. one (is_known a)) answer accepted,
  sum_by-cons (λ a. one (is_stale a)) answer accepted,
)

module _ (report : Bool) (head : HeadValue) (history : List Op) (held : List KeptValue) (payloads : List (List ℕ))
    (loaded : IsLoadedOf head.name.base payloads held) (own : AreServed head history (own_offers held)) where
  held-taken : AreTakenOf head.name.base (own_offers held) held
  held-taken = record { answers = map (λ _. Ok Taken) held; answered = loaded.taken }

  pub walked-report : (capacity : ℕ) (answers : List ℕ → Option (List ℕ)) (given : Answer)
      (shown : IsWalkReport report capacity head.name.base held answers given) → IsServedBy head history answers
      → IsServedReport report head history held
      (accepted_offers (walk_setting capacity head.name.base answers) shown.asked shown.accepted) given
  unfolding walk_report
  walked-report capacity answers given shown served =
      let setting = walk_setting capacity head.name.base answers in
      let walked = shown.walked in
      let went : HasWalked setting held shown.left [] (map (printed head.name.base) shown.asked) (Ok walked) = record {
        asked = shown.asked;
        accepted = shown.accepted;
        held = shown.left;
        ending = shown.ending;
        walks = shown.walks;
        addresses = refl;
        left = λ _. refl;
        result = shown.is_walked;
      } in
      let none : walked.refused ≡ None =
      walked-served setting held shown.left [] (map (printed head.name.base) shown.asked) walked went head history
      (own_offers held) refl own held-taken served in
      let offers = accepted_offers setting shown.asked shown.accepted in
      let all = accepted-served head history setting served shown.asked shown.accepted held shown.left (Some Feed)
      shown.ending shown.walks in
      let is = shown.is_walked in
      subst (IsServedReport report head history held offers) (sym shown.is) (record {
        counts = walk_counts walked;
        none_refused = ap refused_count none;
        all = omega (
          arith,
          is.taken,
          is.known,
          is.stale,
          counts-all shown.accepted,
          offers-length setting shown.asked shown.accepted held shown.left (Some Feed) shown.ending shown.walks,
        );
        ending = shown_in report head.name.base shown.left (outcome_of shown.left);
        is = ap₂ (λ (lines said : List ℕ). lines ++ said) (ap (walk_line_in report head.name.base) none)
            (shown-in report head.name.base (walk_counts walked) shown.left);
        ends = ends-taken report head history held payloads loaded own offers shown.left all
            (walk-taken setting (own_offers held) shown.asked shown.accepted held shown.left (Some Feed) shown.ending
            held-taken shown.walks)
            (walks-loaded setting shown.asked shown.accepted held shown.left (Some Feed) shown.ending shown.walks
            (subst (λ (list : List (List ℕ)). IsLoadedOf head.name.base list held) loaded.payloads loaded));
      })
