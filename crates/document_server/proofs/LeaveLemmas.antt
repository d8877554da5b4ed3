-- The images that a crash leaves of a store whose request was answered.
use Rattle.std.proofs.Common.{inl, inr, refl, sym, ap, ◌∙◌, List, [], ◌∷◌, length, subst}
use Rattle.std.proofs.lemmas.List.{append-nil}
use Rattle.feed_disk.specs.Disk.{DiskState, IsDisk}
use Rattle.feed_disk.specs.declared.area.Area.TheVariants.{Journal, Sealed}
use Rattle.feed_journal.specs.Laws.{BegunAreWhole}
use Rattle.feed_recovery.specs.Settled.{AlwaysLeavesBoth, OpensPast}
use Rattle.feed_recovery.specs.Store.{StandsFor, StoreValue, seal_count}
use Rattle.feed_recovery.proofs.PastLemmas.{both_alone}
use Rattle.feed_recovery.proofs.SettleLemmas.{rest_settles}
use Rattle.document_server.specs.Answer.{Commits, LeavesAnswered, OnlyReads, ReadsOrCommits, added}
use Rattle.document_server.specs.Reply.{Outcome}
use Rattle.member_rules.specs.declared.operation.Op.{Op}

module _ {observable : Type 0} (begun_are : BegunAreWhole) (outcomes : Outcome → Type 0) (s t : DiskState)
    (old new : StoreValue) (failed : Type 0) (disk : IsDisk observable s)
    (stands : StandsFor s old) where
  pub reads-leave : OnlyReads s t old new → LeavesAnswered outcomes s t old new failed
  reads-leave reads = record {
    operations = [];
    may = inl refl;
    leaves = λ rests. subst
        (λ (h : List Op). AlwaysLeavesBoth s t (OpensPast old.head h (length old.history)))
        (sym (append-nil old.history))
        (both_alone s t (OpensPast old.head old.history (length old.history)) disk (reads.areas Journal)
        (reads.areas Sealed) (rest_settles begun_are s old.head old.history (seal_count old) stands.opens rests));
    gained = λ _. reads.history ∙ sym (append-nil old.history);
  }

  commit-leaves : observable → Commits observable outcomes s t old new failed → LeavesAnswered outcomes s t old new failed
  commit-leaves tells commits = record {
    operations = commits.operation ∷ [];
    may = inr (commits.given, commits.is_one, sym (ap added commits.adds));
    leaves = commits.leaves tells;
    gained = commits.gained;
  }

  pub leaves-answered : observable → ReadsOrCommits observable outcomes s t old new failed
      → LeavesAnswered outcomes s t old new failed
  leaves-answered tells (inl reads) = reads-leave reads
  leaves-answered tells (inr commits) = commit-leaves tells commits

-- the same, where the failure is told in another way
pub leaves-failing : (outcomes : Outcome → Type 0) (s t : DiskState) (old new : StoreValue) (failed fails : Type 0)
    → (failed → fails) → LeavesAnswered outcomes s t old new failed → LeavesAnswered outcomes s t old new fails
leaves-failing outcomes s t old new failed fails to left = record {
  operations = left.operations;
  may = left.may;
  leaves = left.leaves;
  gained = λ works. left.gained (λ f. works (to f));
}
