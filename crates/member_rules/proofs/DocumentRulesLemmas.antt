-- The documents of a cut of a history keep the rules of documents.
use Rattle.std.proofs.Common.{◌≡◌, ◌≢◌, ℕ, ◌+◌, ◌-◌, ◌<◌, ◌≤◌, true, List, length, take, drop, subst, sym, ap, ◌∙◌}
use Rattle.std.proofs.Common.{arith, length-drop}
use Rattle.std.specs.Prelude.{All}
use Rattle.std.proofs.lemmas.List.{length-take-le}
use Rattle.std.proofs.lemmas.List.Elements.{All-take, All-drop}
use Rattle.std.proofs.lemmas.Bool.Decides.{nat_tests}
use Rattle.atom_writer.specs.declared.doc.Kind.TheVariants.{Subscription, Archive}
use Rattle.atom_writer.specs.Doc.{KeepsRules, IsDoc, IsFeedName, is_placed}
use Rattle.member_rules.specs.declared.operation.Op.{Op}
use Rattle.member_rules.specs.Operation.{IsOperation}
use Rattle.member_rules.specs.Head.{HeadValue, IsHead, window_limit}
use Rattle.member_rules.specs.History.{IsLawful, history_limit}
use Rattle.member_rules.specs.Documents.{name_of, document_of, archive_of, subscription_of, archive, subscription}
use Rattle.member_rules.specs.Windows.{windows_of}
use Rattle.member_rules.specs.Chain.{IsOpenCut}
use Rattle.member_rules.proofs.CutLemmas.{IsCut, IsCut-open, IsSpan, span-of, some-open, ends-at_least, full-cut}
use Rattle.member_rules.proofs.CutLemmas.{windows-cut}
use Rattle.member_rules.proofs.WindowLemmas.{title_after-keeps}
use Rattle.member_rules.proofs.ItemsKeptLemmas.{items-length, items-distinct, items-keep, last_moment-keeps}

-- a name keeps its rules, whatever title the operations set
pub name_of-keeps : (head : HeadValue) (operations : List Op) → IsHead head → All IsOperation operations
    → IsFeedName (name_of head operations)
unfolding name_of
name_of-keeps head operations is_head are =
    let title = title_after-keeps head.name.title operations (is_head.name.title, is_head.limits.title) are in
    record { base = is_head.name.base; id = is_head.name.id; title = title.0; author = is_head.name.author }

archive-placed : (number before end : ℕ) → 1 ≤ number → number < 4_294_967_295 → before < end → number - 1 ≤ before
    → (number ≡ 1 → before ≡ 0) → is_placed (Archive number) record { first = before + 1; last = end } (number - 1)
    ≡ true
archive-placed number before end one few rises behind first = grind (arith, nat_tests)

subscription-placed : (archives before count : ℕ) → (archives ≡ 0 → before ≡ 0)
    → (archives ≢ 0 → (archives ≤ before) × (before < count))
    → is_placed Subscription record { first = before + 1; last = count } archives ≡ true
subscription-placed archives before count none some = grind (arith, nat_tests)

-- the span of an archive, by the length of the operations that it covers
covered-span : (ends : ℕ → ℕ) (archives : ℕ) (history : List Op) (number : ℕ) → IsCut ends archives (length history)
    → 1 ≤ number → number ≤ archives → IsSpan number (ends (number - 1)) (length (take (ends number) history))
    (length history)
covered-span ends archives history number cut one l =
    let at = span-of ends archives (length history) cut number one l in
    subst (λ (end : ℕ). IsSpan number (ends (number - 1)) end (length history))
    (sym (length-take-le (ends number) history at.within)) at

pub archive-rules : (ends : ℕ → ℕ) (archives : ℕ) (head : HeadValue) (history : List Op) (number : ℕ)
    → IsCut ends archives (length history) → length history ≤ history_limit → 1 ≤ number → number ≤ archives
    → KeepsRules (archive_of ends head history number)
unfolding archive_of document_of
archive-rules ends archives head history number cut few one l =
    let at = covered-span ends archives history number cut one l in
    let before = ends (number - 1) in
    let covered = take (ends number) history in
    record {
      placed = archive-placed number before (length covered) one (omega (arith, at.counted, at.within)) at.rises
          at.behind at.first;
      few = omega (arith, at.narrow, at.rises);
      room = omega (arith, items-length (drop before covered), length-drop before covered);
      distinct = items-distinct (drop before covered);
    }

pub subscription-rules : (ends : ℕ → ℕ) (archives : ℕ) (head : HeadValue) (history : List Op)
    → IsOpenCut ends archives (length history) → KeepsRules (subscription_of ends archives head history)
unfolding subscription_of document_of
subscription-rules ends archives head history cut =
    let span = drop (ends archives) history in
    record {
      placed = subscription-placed archives (ends archives) (length history) (λ e. ap ends e ∙ cut.from_none)
          (λ n. (
            ends-at_least ends archives (length history) (IsCut-open ends archives (length history) cut) archives
                (omega arith),
            some-open ends archives (length history) cut n,
          ));
      few = omega (arith, cut.few_open);
      room = omega (arith, items-length span, length-drop (ends archives) history);
      distinct = items-distinct span;
    }

pub archive-is_doc : (ends : ℕ → ℕ) (archives : ℕ) (head : HeadValue) (history : List Op) (number : ℕ) → IsHead head
    → IsLawful head history → IsCut ends archives (length history) → 1 ≤ number → number ≤ archives
    → IsDoc (archive_of ends head history number)
unfolding archive_of document_of
archive-is_doc ends archives head history number is_head lawful cut one l =
    let covered = take (ends number) history in
    let are = All-take IsOperation (ends number) history lawful.operations in
    let at = covered-span ends archives history number cut one l in
    let rules = archive-rules ends archives head history number cut lawful.few one l in
    record {
      name = name_of-keeps head covered is_head are;
      first = omega (arith, at.rises, at.within, lawful.few);
      last = omega (arith, at.within, lawful.few);
      prev = omega (arith, at.counted, at.within, lawful.few);
      updated = last_moment-keeps head.created covered is_head.created are;
      items = items-keep (drop (ends (number - 1)) covered) (All-drop IsOperation (ends (number - 1)) covered are);
      rules = rules;
    }

pub subscription-is_doc : (ends : ℕ → ℕ) (archives : ℕ) (head : HeadValue) (history : List Op) → IsHead head
    → IsLawful head history → IsOpenCut ends archives (length history)
    → IsDoc (subscription_of ends archives head history)
unfolding subscription_of document_of
subscription-is_doc ends archives head history is_head lawful cut =
    let rules = subscription-rules ends archives head history cut in
    let closed = IsCut-open ends archives (length history) cut in
    let least = ends-at_least ends archives (length history) closed archives (omega arith) in
    record {
      name = name_of-keeps head history is_head lawful.operations;
      first = omega (arith, closed.within, lawful.few);
      last = omega (arith, lawful.few);
      prev = omega (arith, closed.within, lawful.few, least);
      updated = last_moment-keeps head.created history is_head.created lawful.operations;
      items = items-keep (drop (ends archives) history)
          (All-drop IsOperation (ends archives) history lawful.operations);
      rules = rules;
    }

-- the documents of windows

pub archive-keeps : (head : HeadValue) (history : List Op) (number : ℕ)
    → (1 ≤ head.window) × (head.window ≤ window_limit) → length history ≤ history_limit
    → 1 ≤ number → number ≤ (windows_of head history).full → KeepsRules (archive head history number)
unfolding archive
archive-keeps head history number limits few one full =
    archive-rules (windows_of head history).ends number head history number (full-cut head history number limits full)
    few one (omega arith)

pub subscription-keeps : (head : HeadValue) (history : List Op) → (1 ≤ head.window) × (head.window ≤ window_limit)
    → KeepsRules (subscription head history)
unfolding subscription
subscription-keeps head history limits =
    subscription-rules (windows_of head history).ends (windows_of head history).sealed head history
    (windows-cut head history limits)
