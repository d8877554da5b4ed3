-- The store after a command that isn't done, or that failed.
use Rattle.std.proofs.Common.{ℕ, inl, inr, ⊎_elim, refl}
use Rattle.doc_source.specs.Outside.{SourceState}
use Rattle.feed_disk.specs.Disk.{DiskState, IsDisk}
use Rattle.feed_disk.specs.declared.area.Area.TheVariants.{Journal, Sealed}
use Rattle.feed_disk.proofs.MomentLemmas.{alone_begins}
use Rattle.feed_recovery.specs.Settled.{AlwaysLeavesBoth, IsUnused, KeepsPayloads, LeavesStores, OpensPast}
use Rattle.feed_recovery.proofs.LoadedLemmas.{alone-payloads}
use Rattle.atom_writer.specs.declared.doc.FeedName.{FeedName}
use Rattle.feed_recovery.proofs.PastLemmas.{both_stay}
use Rattle.store_commands.specs.Crash.{AppliesSafely, LeavesApplied, MakesStoreAt}

-- a disk on which no call is made
pub leaves-none : {T : Type 0} (s : DiskState) → IsDisk T s → LeavesStores s s
leaves-none s is = λ head operations least settled. both_stay s (OpensPast head operations least) is settled

pub keeps-none : (s : DiskState) → KeepsPayloads s s
keeps-none s = alone-payloads s s (alone_begins s Journal) (alone_begins s Sealed)

-- no store is made, and no command that made one is done
pub makes-none : {T : Type 0} (s : DiskState) (name : FeedName) (window capacity : ℕ) (observable : Type 0) (moment : ℕ)
    (done : Type 0) → IsDisk T s → (done → ⊥) → MakesStoreAt s s name window capacity observable moment done
makes-none s name window capacity observable moment done is never = record {
  now = moment;
  is_moment = λ _. refl;
  makes = record {
    moments = λ unused. both_stay s _ is (λ journal sealed first second.
        let images : IsUnused journal sealed = unused journal sealed first second in
        record {
          journal_whole = images.journal_whole;
          sealed_whole = images.sealed_whole;
          no_seals = images.no_seals;
          before_or_after = inl images.no_records;
        });
    settled = λ d. absurd (never d);
    opens = λ d. absurd (never d);
  };
  stores = leaves-none s is;
}

-- a statement on the ends at which all is done holds if there are fewer of them
pub makes-weaker : (before after : DiskState) (name : FeedName) (window capacity : ℕ) (observable : Type 0) (moment : ℕ)
    (done less : Type 0) → (less → done) → MakesStoreAt before after name window capacity observable moment done →
    MakesStoreAt before after name window capacity observable moment less
makes-weaker before after name window capacity observable moment done less h m = record {
  now = m.now;
  is_moment = m.is_moment;
  makes = record {
    moments = m.makes.moments;
    settled = λ l. m.makes.settled (h l);
    opens = λ l. m.makes.opens (h l);
  };
  stores = m.stores;
}

-- a store that isn't loaded, of which nothing is written
pub applies-none : {T : Type 0} (s : DiskState) (moments : ℕ → ℕ) (input rest : SourceState)
    (observable failed stopped later : Type 0) → IsDisk T s → (later → ⊥)
    → AppliesSafely s s moments input rest observable failed stopped later
applies-none s moments input rest observable failed stopped later is never = λ head operations least settled.
    inl (never, both_stay s (OpensPast head operations least) is settled)

-- a statement on the ends of `apply` holds if more of them have a failed call of the disk, and fewer one of the input,
-- and fewer come after the load
pub applies-weaker : (before after : DiskState) (moments : ℕ → ℕ) (input rest : SourceState)
    (observable failed stopped later more fewer less : Type 0) → (failed → more) → (more → failed) → (fewer → stopped) → (less → later) →
    AppliesSafely before after moments input rest observable failed stopped later →
    AppliesSafely before after moments input rest observable more fewer less
applies-weaker before after moments input rest observable failed stopped later more fewer less fails caused stops ends
    safely =
    λ head operations least settled.
    ⊎_elim
    (λ (unloaded : (later → ⊥) × AlwaysLeavesBoth before after (OpensPast head operations least)).
    inl (λ l. unloaded.0 (ends l), unloaded.1))
    (λ (l : LeavesApplied before after moments input rest observable head operations least failed stopped). inr record {
      opened = l.opened;
      opens = l.opens;
      same = l.same;
      made = l.made;
      history = l.history;
      lines = record {
        more = l.lines.more;
        grows = l.lines.grows;
        one_more = l.lines.one_more;
        first = l.lines.first;
        cause = λ f. l.lines.cause (caused f);
        read = λ f. l.lines.read (stops f);
      };
      loaded = l.loaded;
      before_lines = l.before_lines;
      each = l.each;
      now = l.now;
      whole = λ none. l.whole (λ f. none (fails f));
    })
    (safely head operations least settled)
