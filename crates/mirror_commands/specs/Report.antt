-- The report of `mirror`: its lines, what an offer adds to it, and the report of a walk. Without `--report` it prints
-- the certificate of what is held.
use Rattle.std.specs.Prelude.{◌≡◌, ℕ, ◌+◌, List, [], ◌∷◌, ◌++◌, Bool, true, false, Option, None, Some, Ok, Err}
use Rattle.std.specs.Prelude.{codes, decimal, flat_map, fold}
use Rattle.atom_values.specs.Entry.{EntryValue}
use Rattle.chain_links.specs.Address.{printed}
use Rattle.chain_links.specs.declared.address.Address.{Address}
use Rattle.coverage_certificate.specs.Certificate.{CertificateValue}
use Rattle.coverage_certificate.specs.Held.{certificate_of}
use Rattle.coverage_certificate.specs.Text.{certificate_text}
use Rattle.mirror_walk.specs.declared.answer.Accepted.TheVariants.{Taken, Known, Stale}
use Rattle.mirror_walk.specs.declared.answer.Offered.{Offered}
use Rattle.mirror_walk.specs.declared.answer.Offered.TheVariants.{NotADocument, WrongAddress, WrongFeed, Conflict}
use Rattle.mirror_walk.specs.declared.answer.Offered.TheVariants.{Break, Full, DiskFault, NoMemory}
use Rattle.mirror_walk.specs.declared.answer.Outcome.{Outcome}
use Rattle.mirror_walk.specs.declared.answer.Outcome.TheVariants.{Complete, Missing}
use Rattle.mirror_walk.specs.declared.walk.Refusal.{Refusal}
use Rattle.mirror_walk.specs.declared.walk.Walked.{Walked}
use Rattle.mirror_walk.specs.Accept.{Answer as MirrorAnswer, IsAnswerWithin, IsForRoom}
use Rattle.mirror_walk.specs.Holding.{KeptValue}
use Rattle.mirror_walk.specs.Listing.{live_entries, outcome_of}
use Rattle.mirror_walk.specs.Offers.{Offering}
use Rattle.mirror_commands.specs.declared.report.Counts.{Counts}
use Rattle.mirror_commands.specs.declared.report.Report.{Report}
use Rattle.command_ends.specs.declared.fault.Fault.{Fault}
use Rattle.command_ends.specs.declared.fault.Fault.TheVariants as faults
use Rattle.command_ends.specs.declared.status.Status.{Status}
use Rattle.command_ends.specs.declared.status.Status.TheVariants.{Done, Incomplete}
use Rattle.command_ends.specs.Answer.{Answer}
use Rattle.mirror_commands.specs.MirrorFaults.{full_fault}
use Rattle.command_ends.specs.Summary.{entry_line}

-- the name of a refusal: that of its variant
abbrev pub refusal_name : Offered → List ℕ
refusal_name (NotADocument at) = codes "NotADocument"
refusal_name (WrongAddress says) = codes "WrongAddress"
refusal_name (WrongFeed kept given) = codes "WrongFeed"
refusal_name (Conflict address kept given) = codes "Conflict"
refusal_name (Break last first) = codes "Break"
refusal_name (Full size needed capacity) = codes "Full"
refusal_name DiskFault = codes "DiskFault"
refusal_name NoMemory = codes "NoMemory"

-- the line of an offer, if it was refused; the address is printed as it was given
abbrev pub refused_line : List ℕ → MirrorAnswer → List ℕ
refused_line address (Ok accepted) = []
refused_line address (Err refusal) =
    codes "refused " ++ address ++ codes " " ++ refusal_name refusal ++ codes "\n"

-- the lines of all offers that were refused, in order
abbrev pub refused_lines : List Offering → List MirrorAnswer → List ℕ
refused_lines [] answers = []
refused_lines (offer ∷ offers) [] = []
refused_lines (offer ∷ offers) (answer ∷ answers) = refused_line offer.address answer ++ refused_lines offers answers

-- the same, in the form that is printed: a certificate has no lines of refused offers
abbrev pub refused_line_in : Bool → List ℕ → MirrorAnswer → List ℕ
refused_line_in report address (Ok accepted) = []
refused_line_in true address (Err refusal) = refused_line address (Err refusal)
refused_line_in false address (Err refusal) = []

abbrev pub refused_lines_in : Bool → List Offering → List MirrorAnswer → List ℕ
refused_lines_in true offers answers = refused_lines offers answers
refused_lines_in false offers answers = []

-- how many offers got each answer
abbrev pub no_counts : Counts
no_counts = record { taken = 0; known = 0; stale = 0; refused = 0 }

abbrev pub counted : Counts → MirrorAnswer → Counts
counted counts (Ok Taken) = record counts { taken = counts.taken + 1 }
counted counts (Ok Known) = record counts { known = counts.known + 1 }
counted counts (Ok Stale) = record counts { stale = counts.stale + 1 }
counted counts (Err refusal) = record counts { refused = counts.refused + 1 }

abbrev pub counts_of : List MirrorAnswer → Counts
counts_of answers = fold counted no_counts answers

abbrev pub total : Counts → ℕ
total counts = counts.taken + counts.known + counts.stale + counts.refused

unfoldable pub counts_line : Counts → List ℕ
counts_line counts =
    codes "offers " ++ decimal counts.taken ++ codes " " ++ decimal counts.known ++ codes " " ++ decimal counts.stale
    ++ codes " " ++ decimal counts.refused ++ codes "\n"

-- the last line: the address of a missing document, or the version and the number of live entries
unfoldable pub missing_line : List ℕ → Address → List ℕ
missing_line base address = codes "missing " ++ printed base address ++ codes "\n"

unfoldable pub complete_line : ℕ → ℕ → List ℕ
complete_line version live = codes "complete " ++ decimal version ++ codes " " ++ decimal live ++ codes "\n"

-- the outcome: the missing document alone, or a line for each live entry and the last line
abbrev pub ending : List ℕ → List EntryValue → Outcome → List ℕ
ending base entries (Missing address) = missing_line base address
ending base entries (Complete version live) = flat_map entry_line entries ++ complete_line version live

-- the text of a certificate, if there is one
abbrev pub optional_text : Option CertificateValue → List ℕ
optional_text None = []
optional_text (Some certificate) = certificate_text certificate

-- the outcome without a report: the missing document alone, or the certificate of what the mirror holds
abbrev pub certified_ending : List ℕ → List KeptValue → Outcome → List ℕ
certified_ending base kept (Missing address) = missing_line base address
certified_ending base kept (Complete version live) = optional_text (certificate_of base kept)

-- the counts, and the outcome of a mirror that holds `kept`
abbrev pub ending_in : Bool → List ℕ → Counts → List KeptValue → List ℕ
ending_in true base counts kept = counts_line counts ++ ending base (live_entries kept) (outcome_of kept)
ending_in false base counts kept = certified_ending base kept (outcome_of kept)

abbrev pub status_of : Outcome → Status
status_of (Missing address) = Incomplete
status_of (Complete version live) = Done

-- An answer that the report counts: it isn't `Full`, `NoMemory` or `DiskFault`.
abbrev pub IsReportable : MirrorAnswer → Type 0
IsReportable (Ok accepted) = Unit {0}
IsReportable (Err refusal) = ¬ IsForRoom refusal

-- the fault with which any other answer ends the report
abbrev pub room_fault : MirrorAnswer → Option Fault
room_fault (Err (Full size needed capacity)) = Some (full_fault size needed capacity)
room_fault (Err DiskFault) = Some faults.Disk
room_fault (Err NoMemory) = Some faults.NoMemory
room_fault _ = None

-- A mirror that holds `kept`, and whose area has this capacity, answers the offers in order with these answers. There
-- is room for each document that it takes. It holds `left` afterwards.
abbrev pub AreAnsweredWithin : ℕ → List ℕ → List KeptValue → List Offering → List MirrorAnswer → List KeptValue → Type 0
AreAnsweredWithin capacity base kept [] [] left = left ≡ kept
AreAnsweredWithin capacity base kept [] (answer ∷ answers) left = ⊥
AreAnsweredWithin capacity base kept (offer ∷ offers) [] left = ⊥
AreAnsweredWithin capacity base kept (offer ∷ offers) (answer ∷ answers) left =
    IsReportable answer × ((next : List KeptValue)
    × IsAnswerWithin capacity base kept offer.address offer.bytes answer next
    × AreAnsweredWithin capacity base next offers answers left)

-- the report, or else the certificate, of a mirror that gave these answers to the offers, and holds `kept`
unfoldable pub report_of : Bool → List ℕ → List Offering → List MirrorAnswer → List KeptValue → Answer
report_of report base offers answers kept = record {
  status = status_of (outcome_of kept);
  printed = refused_lines_in report offers answers ++ ending_in report base (counts_of answers) kept;
}

-- the line of the document at which a walk ended, if the mirror refused it
abbrev pub walk_line : List ℕ → Option Refusal → List ℕ
walk_line base None = []
walk_line base (Some refusal) = refused_line (printed base refusal.address) (Err refusal.why)

abbrev pub walk_line_in : Bool → List ℕ → Option Refusal → List ℕ
walk_line_in report base None = []
walk_line_in true base (Some refusal) = walk_line base (Some refusal)
walk_line_in false base (Some refusal) = []

abbrev pub refused_count : Option Refusal → ℕ
refused_count None = 0
refused_count (Some refusal) = 1

abbrev pub walk_counts : Walked → Counts
walk_counts walked = record {
  taken = walked.taken;
  known = walked.known;
  stale = walked.stale;
  refused = refused_count walked.refused;
}

-- the report, or else the certificate, of a mirror that went this walk, and holds `kept`
unfoldable pub walk_report : Bool → List ℕ → Walked → List KeptValue → Answer
walk_report report base walked kept = record {
  status = status_of (outcome_of kept);
  printed = walk_line_in report base walked.refused ++ ending_in report base (walk_counts walked) kept;
}

-- the report with the answer to one more offer
pub record HasAdded (before after : Report) (address : List ℕ) (answer : MirrorAnswer) : Type 0 where
  pub detailed : after.detailed ≡ before.detailed
  pub text : after.text.items ≡ before.text.items ++ refused_line_in before.detailed address answer
  pub counts : after.counts ≡ counted before.counts answer

-- the report so far, of a mirror that held `kept` and holds `left` after these offers
pub record Reports (report : Bool) (capacity : ℕ) (base : List ℕ) (kept : List KeptValue) (offers : List Offering)
    (left : List KeptValue) (made : Report) : Type 0 where
  pub detailed : made.detailed ≡ report
  pub answers : List MirrorAnswer
  pub answered : AreAnsweredWithin capacity base kept offers answers left
  pub text : made.text.items ≡ refused_lines_in report offers answers
  pub counts : made.counts ≡ counts_of answers

-- The end of a report, or else the certificate. `observable` is whether contracts can see the disk, and
-- the documents held were taken one after another.
pub record EndsReport (observable : Type 0) (base : List ℕ) (made : Report) (kept : List KeptValue) (given : Answer)
    : Type 0 where
  pub status : given.status ≡ status_of (outcome_of kept)
  pub printed : observable → given.printed ≡ made.text.items ++ ending_in made.detailed base made.counts kept
