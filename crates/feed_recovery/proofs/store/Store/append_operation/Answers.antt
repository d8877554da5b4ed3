use Rattle.std.proofs.Common.{◌≡◌, ◌≢◌, ◌+◌, ◌||◌, ℕ, min, List, [], ◌∷◌, ◌++◌, length, sym, ◌∙◌, ap, subst}
use Rattle.std.proofs.Common.{length-append, true}
use Rattle.atom_writer.specs.Pieced.{text_of}
use Rattle.member_rules.specs.Coding.{operations}
use Rattle.member_rules.specs.History.{IsLawful}
use Rattle.member_rules.specs.Windows.{windows_of}
use Rattle.member_rules.specs.declared.operation.Op.{Op}
use Rattle.archive_sealer.proofs.FeedLemmas.{of_feed-same}
use Rattle.feed_disk.specs.Moments.{AlwaysLeaves, LeavesAlone, NowOnly}
use Rattle.feed_disk.specs.declared.area.Area.{Area}
use Rattle.feed_disk.specs.declared.area.Area.TheVariants.{Journal, Sealed}
use Rattle.feed_journal.specs.Limits.{header_length}
use Rattle.feed_journal.specs.Log.{LogValue, IsListed}
use Rattle.feed_journal.specs.Records.{records, Begins, IsStep}
use Rattle.feed_journal.specs.declared.extent.Extent.{Extent}
use Rattle.feed_recovery.specs.Places.{ArePlaces}
use Rattle.feed_recovery.specs.Prepare.{ReadyValue}
use Rattle.feed_recovery.specs.Store.{KeepsStore, StandsFor, StoreValue, seal_count}
use Rattle.feed_recovery.proofs.LoadedLemmas.{begins_still}
use Rattle.feed_recovery.proofs.StoreLemmas.{next_follows, keeps_added, stands_added}
use Rattle.feed_recovery.proofs.store.Store.append_operation.Given.{Over}
use Rattle.feed_recovery.proofs.store.Store.append_operation.Goals as goal
use Rattle.feed_recovery.proofs.store.Store.append_operation.Goals.{After-append, In-Ok}

others : (g : Over) (c : After-append g) (a : Area) → a ≢ Journal
    → LeavesAlone (g.D.Disk.state c.args.disk.now) (g.D.Disk.state c.append.new.disk) a
others g c a other = c.append.ensures.others a (λ same. other (same ∙ c.self.invariant.0.journal_area))

pub returns-in-Err-clause-others : goal.returns-in-Err-clause-others
returns-in-Err-clause-others g c = others g (goal.at.returns-in-Err-clause-others g c).After-append

pub returns-clause-others : goal.returns-clause-others
returns-clause-others g c = others g (goal.at.returns-clause-others g c).After-append

-- the store before the call, by its fields
abbrev store : (g : Over) → After-append g → StoreValue
store g c = record {
  head = c.self.inside.head;
  history = c.self.inside.window.history;
  members = c.self.inside.members;
  journal = c.self.inside.journal;
  seals = c.self.inside.seals;
  spare = min c.self.inside.window.spare c.self.inside.places.spare;
}

lawful : (g : Over) (c : After-append g)
    → IsLawful (store g c).head ((store g c).history ++ c.ready.inside.operation ∷ [])
lawful g c =
    subst (λ (v : ReadyValue). IsLawful (store g c).head ((store g c).history ++ v.operation ∷ []))
    (sym c.ready.view_is) (subst (λ (v : StoreValue). IsLawful v.head (v.history ++ c.args.ready.operation ∷ []))
    (sym c.self.view_is) c.requires.lawful)

full : (g : Over) (c : After-append g)
    → seal_count (store g c) ≡ (windows_of (store g c).head (store g c).history).full
full g c =
    subst (λ (v : StoreValue). seal_count v ≡ (windows_of v.head v.history).full) (sym c.self.view_is) c.requires.full

-- the log after the append
appended : (g : Over) (c : In-Ok g) → let log = c.append.new.self in
    log ≡ record c.self.inside.journal {
      extents = c.self.inside.journal.extents ++ record {
        offset = c.self.inside.journal.size + 4;
        length = length c.ready.inside.payload;
      } ∷ [];
      size = c.self.inside.journal.size + length c.ready.inside.payload + header_length;
      calls = log.calls;
      whole = true;
      spare = log.spare;
    }
appended g c = c.in-Ok.ensures.ok.log

counted : (g : Over) (c : In-Ok g)
    → length c.append.new.self.extents ≡ length c.self.inside.journal.extents + 1
counted g c =
    ap (λ (v : LogValue). length v.extents) (appended g c)
    ∙ length-append c.self.inside.journal.extents (_ ∷ [])

pub commit-requires-clause-follows : goal.commit-requires-clause-follows
commit-requires-clause-follows g c =
    let before = (goal.at.commit-requires-clause-follows g c).After-append in
    record {
      created = c.self.inside.head.created;
      history = c.self.inside.window.history;
      count = c.self.invariant.4.count;
      following = c.self.invariant.0.members.following;
      follows = next_follows c.self.inside.head c.self.inside.window.history c.ready.inside.operation (lawful g before);
    }

pub commit-requires-2-clause-follows : goal.commit-requires-2-clause-follows
commit-requires-2-clause-follows g c =
    let before = (goal.at.commit-requires-2-clause-follows g c).After-append in
    record {
      created = c.self.inside.head.created;
      history = c.self.inside.window.history;
      table_of = c.self.invariant.0.members;
      follows = next_follows c.self.inside.head c.self.inside.window.history c.ready.inside.operation (lawful g before);
    }

pub invariant_of-self-2 : goal.invariant_of-self-2
invariant_of-self-2 g c =
    let before = (goal.at.invariant_of-self-2 g c).After-append in
    let log = c.append.new.self in
    let spare = min c.commit-3.new.self.spare c.commit.new.self.spare in
    let keeps = c.self.invariant.0 in
    let operation = c.ready.inside.operation in
    let ok = appended g (goal.at.invariant_of-self-2 g c).In-Ok in
    let size : log.size ≡ c.self.inside.journal.size + length (text_of operations operation) + header_length =
    ap (λ (v : LogValue). v.size) ok
    ∙ ap (λ (l : List ℕ). c.self.inside.journal.size + length l + header_length) c.ready.invariant in
    let pushed = sym c.commit-3.ensures.history in (
      subst (λ (l : List Op). KeepsStore (record (store g before) {
        history = l;
        members = c.commit-2.new.self;
        journal = log;
        spare = spare;
      })) pushed (keeps_added (store g before) operation (lawful g before) (full g before)
          c.windows_seal_in_turn.ensures c.commit-2.new.self log
          (counted g (goal.at.invariant_of-self-2 g c).In-Ok) spare c.operations_are_long.ensures keeps
          (c.commit-2.ensures.table c.self.inside.head.created c.self.inside.window.history keeps.members)
          (ap (λ (v : LogValue). v.area) ok) size),
      of_feed-same c.self.inside.head c.self.inside.window c.commit-3.new.self c.commit-3.ensures.first
          c.commit-3.ensures.title c.self.invariant.1,
      c.self.invariant.2 ∙ ap (λ (v : LogValue). v.spent || c.self.inside.seals.spent) (sym ok),
      tt,
      subst (λ (l : List Extent). ArePlaces c.commit.new.self.extents c.commit-3.new.self.history l)
          (sym c.in-Ok.ensures.place)
          (subst (λ (l : List Op). ArePlaces c.commit.new.self.extents l
          (c.self.inside.journal.extents ++ c.in-Ok.place ∷ [])) pushed
          (c.commit.ensures.places c.self.inside.head.created c.self.inside.window.history c.self.inside.journal.extents
          c.self.invariant.4 keeps.members.following
          (next_follows c.self.inside.head c.self.inside.window.history operation (lawful g before)) keeps.records)),
    )

pub returns-clause-stands : goal.returns-clause-stands
returns-clause-stands g c = λ tells.
    let before = (goal.at.returns-clause-stands g c).After-append in
    let s = g.D.Disk.state c.args.disk.now in
    let t = g.D.Disk.state c.append.new.disk in
    let log = c.append.new.self in
    let spare = min c.commit-3.new.self.spare c.commit.new.self.spare in
    let area = c.self.invariant.0.journal_area in
    let operation = c.ready.inside.operation in
    let stands : StandsFor s (store g before) = subst (StandsFor s) (sym c.self.view_is) (c.requires.stands tells) in
    let list = c.in-Ok.ensures.listed tells in
    let listed = subst (λ (a : Area). IsListed log (t.content a)) area list.listed in
    let added = subst (λ (l : List ℕ). records (t.content Journal) ≡ records (s.content Journal) ++ l ∷ [])
    c.ready.invariant (subst (λ (a : Area). records (t.content a)
    ≡ records (s.content a) ++ c.ready.inside.payload ∷ []) area list.list) in
    let alone = c.append.ensures.others Sealed (λ same. let clash : Sealed ≡ Journal = same ∙ area in cc) in
    let pushed = sym c.commit-3.ensures.history in
    subst (λ (l : List Op). StandsFor t (record (store g before) {
      history = l;
      members = c.commit-2.new.self;
      journal = log;
      spare = spare;
    })) pushed (stands_added (store g before) operation (lawful g before) (full g before)
    c.windows_seal_in_turn.ensures c.commit-2.new.self log (counted g (goal.at.returns-clause-stands g c).In-Ok)
    spare c.archives_stay.ensures s t stands alone added listed)

pub returns-clause-moments : goal.returns-clause-moments
returns-clause-moments g c = λ tells rests.
    let s = g.D.Disk.state c.args.disk.now in
    let t = g.D.Disk.state c.append.new.disk in
    let bytes : c.ready.inside.payload ≡ text_of operations c.args.ready.operation = c.ready.invariant
    ∙ ap (λ (v : ReadyValue). text_of operations v.operation) c.ready.view_is in
    subst (λ (l : List ℕ). AlwaysLeaves s t Journal (IsStep (records (s.content Journal)) l)) bytes
    (subst (λ (a : Area). NowOnly s a (Begins (records (s.content a)))
    → AlwaysLeaves s t a (IsStep (records (s.content a)) c.ready.inside.payload)) c.self.invariant.0.journal_area
    (c.in-Ok.ensures.moments tells) rests.journal)

pub returns-clause-rests : goal.returns-clause-rests
returns-clause-rests g c = λ tells rests.
    let s = g.D.Disk.state c.args.disk.now in
    let t = g.D.Disk.state c.append.new.disk in
    let area = c.self.invariant.0.journal_area in
    record {
      journal = subst (λ (a : Area). NowOnly s a (Begins (records (s.content a)))
          → NowOnly t a (Begins (records (t.content a)))) area (c.in-Ok.ensures.rests tells) rests.journal;
      sealed = begins_still s t Sealed
          (c.append.ensures.others Sealed (λ same. let clash : Sealed ≡ Journal = same ∙ area in cc))
          rests.sealed;
    }
