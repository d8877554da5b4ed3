-- The output of `mirror` over documents that one feed served.
use Rattle.std.specs.Prelude.{◌≡◌, ◌⊎◌, ℕ, ◌+◌, ◌≤◌, List, [], ◌++◌, All, Bool, true, false, flat_map, length, map, take}
use Rattle.atom_values.specs.Entry.{EntryValue}
use Rattle.atom_writer.specs.Doc.{DocValue}
use Rattle.chain_links.specs.declared.address.Address.TheVariants.{Archive, Feed}
use Rattle.coverage_certificate.specs.Served.{served_certificate}
use Rattle.coverage_certificate.specs.Text.{certificate_text}
use Rattle.doc_source.specs.Outside.{SinkState}
use Rattle.doc_source.specs.Pile.{IsOffer, pile_text}
use Rattle.doc_source.specs.declared.offer.Offer.{Offer}
use Rattle.member_rules.specs.Fold.{fold_of, live_count, made}
use Rattle.member_rules.specs.Head.{HeadValue}
use Rattle.member_rules.specs.declared.operation.Op.{Op}
use Rattle.mirror_walk.specs.Holding.{KeptValue}
use Rattle.mirror_walk.specs.Laws.{AreAllOffered, IsFirstNotOffered, IsNewest, IsWithoutNewest}
use Rattle.mirror_walk.specs.Listing.{entries_up_to}
use Rattle.mirror_walk.specs.Loaded.{own_offer}
use Rattle.mirror_walk.specs.Offers.{Offering}
use Rattle.mirror_commands.specs.declared.report.Counts.{Counts}
use Rattle.command_ends.specs.declared.status.Status.{Status}
use Rattle.command_ends.specs.declared.status.Status.TheVariants.{Done, Incomplete, OutputFault}
use Rattle.command_ends.specs.Answer.{Answer, Prints}
use Rattle.mirror_commands.specs.Report.{complete_line, counts_line, missing_line}
use Rattle.command_ends.specs.Summary.{entry_line}
use Rattle.command_ends.specs.Status.{code_of}

-- the input is the pile of these offers
pub record IsPileOf (offers : List Offer) (input : List ℕ) : Type 0 where
  pub are : All IsOffer offers
  pub whole : input ≡ pile_text offers

-- the live entries after the operations, in order of number
abbrev pub entries_after : List Op → List EntryValue
entries_after operations = entries_up_to (fold_of operations).live (made operations)

-- no subscription document was offered, so that it is missing
pub record MissesFeed (head : HeadValue) (offers : List Offering) (status : Status) (ending : List ℕ) : Type 0 where
  pub none_offered : IsWithoutNewest offers
  pub ends : status ≡ Incomplete
  pub prints : ending ≡ missing_line head.name.base Feed

-- an archive of the newest document's chain was not offered: the greatest of those is missing
pub record MissesArchive (head : HeadValue) (offers : List Offering) (status : Status) (ending : List ℕ)
    : Type 0 where
  pub best : DocValue
  pub newest : IsNewest offers best
  pub number : ℕ
  pub first : IsFirstNotOffered head.name.base offers best.prev number
  pub ends : status ≡ Incomplete
  pub prints : ending ≡ missing_line head.name.base (Archive number)

-- the outcome of a feed at a version: a line for each live entry and the last line, or the certificate of its documents
abbrev pub shown_at : Bool → HeadValue → ℕ → List Op → List ℕ
shown_at true head version operations =
    flat_map entry_line (entries_after operations) ++ complete_line version (live_count operations)
shown_at false head version operations = certificate_text (served_certificate head operations)

-- the whole chain of the newest document was offered: what is shown is that of the feed at that version
pub record ShowsFeed (report : Bool) (head : HeadValue) (history : List Op) (offers : List Offering) (status : Status)
    (ending : List ℕ) : Type 0 where
  pub best : DocValue
  pub newest : IsNewest offers best
  pub all : AreAllOffered head.name.base offers best.prev
  pub past : best.span.last ≤ length history
  pub ends : status ≡ Done
  pub prints : ending ≡ shown_at report head best.span.last (take best.span.last history)

-- the documents held, as they may be offered again under their own addresses
abbrev pub own_offers : List KeptValue → List Offering
own_offers kept = map own_offer kept

-- the line of the counts, which a certificate hasn't
abbrev pub counts_in : Bool → Counts → List ℕ
counts_in true counts = counts_line counts
counts_in false counts = []

-- The report, or else the certificate, of documents that the feed with this head served after some of these operations:
-- nothing is refused, and the mirror shows as much of the feed as it held and was offered.
pub record IsServedReport (report : Bool) (head : HeadValue) (history : List Op) (kept : List KeptValue)
    (offers : List Offering)
    (given : Answer) : Type 0 where
  pub counts : Counts
  pub none_refused : counts.refused ≡ 0
  pub all : counts.taken + counts.known + counts.stale ≡ length offers
  pub ending : List ℕ
  pub is : given.printed ≡ counts_in report counts ++ ending
  pub ends : MissesFeed head (own_offers kept ++ offers) given.status ending
      ⊎ MissesArchive head (own_offers kept ++ offers) given.status ending
      ⊎ ShowsFeed report head history (own_offers kept ++ offers) given.status ending

-- the exit statuses at which a report was made
abbrev pub IsReported : ℕ → Type 0
IsReported ended = (ended ≡ code_of Done) ⊎ (ended ≡ code_of Incomplete) ⊎ (ended ≡ code_of OutputFault)

-- the program ended with this report, of which the output took a prefix if a call on it failed
pub record EndsServed (report : Bool) (head : HeadValue) (history : List Op) (kept : List KeptValue)
    (offers : List Offering)
    (observable : Type 0) (before after : SinkState) (ended : ℕ) : Type 0 where
  pub answer : Answer
  pub is : IsServedReport report head history kept offers answer
  pub status : (ended ≡ code_of answer.status) ⊎ (ended ≡ code_of OutputFault)
  pub prints : observable → Prints before after answer.printed
