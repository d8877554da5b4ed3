-- serves `mirror` and `mirror_fetched`: offers one after another have one list of answers
pub mod AnswersLemmas
-- serves `mirror` and `mirror_fetched`: the certificate of a complete mirror
pub mod CertifiedLemmas
-- serves `mirror`: a mirror between two offers of a pile
pub mod GivingLemmas
-- serves `mirror` and `mirror_fetched`: the lines of the live entries
pub mod ListingLemmas
-- serves `mirror` and `mirror_fetched`: the disk after a mirror was loaded
pub mod LoadedLemmas
-- serves `mirror` and `audit`: how many bytes of a pile were read
pub mod CountedLemmas
-- serves `mirror` and `audit`: a pile of which a part was read
pub mod AmidLemmas
-- serves `mirror`: the offers of a pile, one after another
pub mod OffersLemmas
-- serves `mirror_fetched`: a walk of `mirror --fetch` has one answer
pub mod OneFetchedLemmas
-- serves `mirror`: an input of `mirror` has one answer
pub mod OneMirroredLemmas
-- serves `mirror` and `mirror_fetched`: bytes are refused at one place
pub mod PlaceLemmas
-- serves `mirror` and `mirror_fetched`: the documents held, if one feed served them
pub mod HeldLemmas
-- serves `mirror` and `mirror_fetched`: the output over documents that one feed served
pub mod ServedReportLemmas
-- serves `mirror` and `mirror_fetched`: the images that a crash leaves while documents are taken
pub mod TakingLemmas
-- serves `mirror_fetched`: the output over documents that one feed served
pub mod WalkedReportLemmas
-- serves `mirror_fetched`: how a walk ended
pub mod WalkEndLemmas
-- serves `mirror` and `mirror_fetched`: the exit statuses of their faults
pub mod ReportFaultLemmas
-- serves `mirror` and `mirror_fetched`: how `mirror` ends
pub mod MirrorEndLemmas
-- serves `mirror`: the answers to offers that end a report
pub mod RoomFaultLemmas
-- serves `mirror` and `mirror_fetched`: the capacity and the base with which a mirror was loaded
pub mod MovedLemmas
-- serves `audit`: how `audit` ends, and what its status says
pub mod AuditEndLemmas
-- serves `audit`: the exit status and the output of `audit`
pub mod AuditRunLemmas
-- serves `audit`: the offers of the pile of `audit`
pub mod AuditedPileLemmas
-- serves `audit`: the text of a certificate has one line `end`
pub mod CertificateEndLemmas
-- serves `audit`: an input of `audit` has one answer
pub mod OneAuditedLemmas
-- serves `mirror` and `audit`: a pile is read in one way
pub mod OnePileLemmas
-- serves `audit`: the part of the input of `audit` before the pile
pub mod PartLemmas
-- serves `audit`: the line of a verdict, and what its status says
pub mod VerdictSoundLemmas
