-- Laws of the documents that a feed serves: they keep the rules, and after more operations the feed still serves them.
use Rattle.std.proofs.Common.{◌≡◌, inl, inr, ℕ, ◌-◌, ◌≤◌, List, length, take, refl, ap, sym, ◌∙◌, length-take, arith}
use Rattle.std.proofs.lemmas.List.{take-take, length-take-le}
use Rattle.std.proofs.lemmas.List.Elements.{All-take}
use Rattle.atom_writer.specs.Pieces.{text}
use Rattle.atom_writer.specs.Doc.{DocValue}
use Rattle.member_rules.specs.declared.operation.Op.{Op}
use Rattle.member_rules.specs.Operation.{IsOperation}
use Rattle.member_rules.specs.Head.{HeadValue, IsHead}
use Rattle.member_rules.specs.History.{IsLawful, IsSmall}
use Rattle.member_rules.specs.Windows.{windows_of}
use Rattle.member_rules.specs.Documents.{name_of, document_of, archive_of, subscription_of, archive, subscription}
use Rattle.member_rules.specs.Served.{ServesFeed, ServesArchive, IsServedDoc}
use Rattle.member_rules.specs.Laws.{ArchivesStay, ServedStays, ServedAreDocuments, PrefixesAreLawful}
use Rattle.member_rules.proofs.FoldLemmas.{AreFollowing-take}
use Rattle.member_rules.proofs.CutLemmas.{full-cut, windows-cut, full-ends, sealed-are_full, sealed-stay}
use Rattle.member_rules.proofs.DocumentRulesLemmas.{archive-is_doc, subscription-is_doc}

pub prefix-lawful : PrefixesAreLawful
prefix-lawful head history version lawful = record {
  few = omega (arith, lawful.few, length-take version history);
  following = AreFollowing-take head.created history version lawful.following;
  small = All-take (IsSmall head.name) version history lawful.small;
  operations = All-take IsOperation version history lawful.operations;
}

-- an archive of a cut is that of its own operations
archive_of-stays : (ends ends' : ℕ → ℕ) (head : HeadValue) (history : List Op) (version number : ℕ)
    → ends' number ≡ ends number → ends' (number - 1) ≡ ends (number - 1) → ends number ≤ version
    → archive_of ends' head (take version history) number ≡ archive_of ends head history number
unfolding archive_of
archive_of-stays ends ends' head history version number last first l =
    rw (last, first, take-take (ends number) version history l) refl

pub archive-stays : ArchivesStay
unfolding archive
archive-stays head history version number past within =
    let last = full-ends head history version number past within in
    let first = full-ends head history version (number - 1) past (omega arith) in
    archive_of-stays (windows_of head history).ends (windows_of head (take version history)).ends head history version
    number (sym last.0) (sym first.0) last.1

feed-stays : (head : HeadValue) (history : List Op) (version : ℕ) → version ≤ length history → (address bytes : List ℕ)
    → ServesFeed head (take version history) address bytes → ServesFeed head history address bytes
feed-stays head history version past address bytes served =
    let length-of = length-take-le version history past in
    let within : served.version ≤ version = omega (arith, served.past, length-of) in
    record {
      version = served.version;
      past = omega arith;
      there = served.there;
      text = served.text ∙ ap (λ (operations : List Op). text (subscription head operations))
          (take-take served.version version history within);
    }

archive-served : (head : HeadValue) (history : List Op) (version : ℕ) → IsHead head → version ≤ length history
    → (address bytes : List ℕ) → ServesArchive head (take version history) address bytes
    → ServesArchive head history address bytes
archive-served head history version is_head past address bytes served =
    let full = sealed-are_full head (take version history) is_head in
    record {
      number = served.number;
      of_sealed = (
        served.of_sealed.0,
        omega (
          arith,
          served.of_sealed.1,
          sealed-stay head history version is_head past,
        ),
      );
      there = served.there;
      text = served.text ∙ ap (λ (document : DocValue). text document)
          (archive-stays head history version served.number past (omega (arith, served.of_sealed.1, full)));
    }

pub served-stays : ServedStays
served-stays head history version lawful past address bytes served = record {
  is_head = served.is_head;
  is_lawful = lawful;
  served = elim served.served [
    | inl feed ↦ inl (feed-stays head history version past address bytes feed)
    | inr sealed ↦ inr (archive-served head history version served.is_head past address bytes sealed)
  ];
}

feed-document : (head : HeadValue) (history : List Op) (address bytes : List ℕ) → IsHead head → IsLawful head history
    → ServesFeed head history address bytes → IsServedDoc head address bytes
unfolding subscription subscription_of document_of name_of
feed-document head history address bytes is_head lawful served =
    let past = take served.version history in
    record {
      document = subscription head past;
      is_doc = subscription-is_doc (windows_of head past).ends (windows_of head past).sealed head past is_head
          (prefix-lawful head history served.version lawful) (windows-cut head past is_head.limits.window);
      there = served.there;
      text = served.text;
      base = refl;
      id = refl;
    }

archive-document : (head : HeadValue) (history : List Op) (address bytes : List ℕ) → IsHead head
    → IsLawful head history → ServesArchive head history address bytes → IsServedDoc head address bytes
unfolding archive archive_of document_of name_of
archive-document head history address bytes is_head lawful served =
    let full = sealed-are_full head history is_head in
    let cut = full-cut head history served.number is_head.limits.window (omega (arith, served.of_sealed.1, full)) in
    record {
      document = archive head history served.number;
      is_doc = archive-is_doc (windows_of head history).ends served.number head history served.number is_head lawful
          cut served.of_sealed.0 (omega arith);
      there = served.there;
      text = served.text;
      base = refl;
      id = refl;
    }

pub served-documents : ServedAreDocuments
served-documents head history address bytes served = elim served.served [
  | inl feed ↦ feed-document head history address bytes served.is_head served.is_lawful feed
  | inr sealed ↦ archive-document head history address bytes served.is_head served.is_lawful sealed
]
