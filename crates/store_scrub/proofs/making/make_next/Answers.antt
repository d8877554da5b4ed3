use Rattle.std.proofs.Common.{◌≡◌, ◌+◌, ◌<◌, ◌∷◌, [], ◌∙◌, ℕ, List, Some, length, ap, sym, subst, arith, length-append}
use Rattle.std.specs.Prelude.{slice_get}
use Rattle.std.proofs.lemmas.Option.{slice_get_within}
use Rattle.std.proofs.lemmas.Result.{err_from_is_err_and}
use Rattle.feed_disk.specs.declared.area.Area.TheVariants.{Journal, Sealed}
use Rattle.feed_disk.proofs.MomentLemmas.{alone_joins}
use Rattle.feed_journal.specs.Log.{LogValue}
use Rattle.feed_journal.specs.Reading.{HasRead}
use Rattle.feed_journal.specs.Records.{records}
use Rattle.feed_recovery.proofs.LoadedLemmas.{journal_sealed}
use Rattle.feed_recovery.proofs.ReadingLemmas.{read_count}
use Rattle.store_scrub.specs.Steps.{IsBegun}
use Rattle.store_scrub.proofs.MakingLemmas.{appendable-after, begun-more, keeps-after, keeps-reads, reader-after}
use Rattle.store_scrub.proofs.MakingLemmas.{sealed-after, take-fails, window-fails}
use Rattle.store_scrub.proofs.making.make_next.Given.{Over}
use Rattle.store_scrub.proofs.making.make_next.Goals as goal
use Rattle.store_scrub.proofs.making.make_next.Goals.{In-Some, In_default}

pub returns-in_err-frame-clause-keeps : goal.returns-in_err-frame-clause-keeps
returns-in_err-frame-clause-keeps g c = λ tells.
    keeps-reads (g.D.Disk.state c.args.disk.now) (g.D.Disk.state c.next_frame.new.disk) c.next_frame.ensures.reads

pub returns-in_err-frame-clause-others : goal.returns-in_err-frame-clause-others
returns-in_err-frame-clause-others g c = λ a other. c.next_frame.ensures.reads.areas a

-- no frame is left
ended : (g : Over) (c : In_default g) → (c.next_frame.new.reader.log.extents ≡ c.args.reader.now.log.extents)
    × (g.D.Disk.observable → length (records ((g.D.Disk.state c.args.disk.now).content Journal))
    ≡ length c.args.reader.now.log.extents)
ended g c =
    let was = c.in_ok-frame.was in
    let is = c.in_default.is in
    c.next_frame.ensures.last (cc)

pub returns-in_default-clause-making : goal.returns-in_default-clause-making
returns-in_default-clause-making g c =
    let s = g.D.Disk.state c.args.disk.now in
    let m = g.D.Disk.state c.next_frame.new.disk in
    let making = c.requires.making in
    let reads = c.next_frame.ensures.reads in
    let all = ended g (goal.at.returns-in_default-clause-making g c).In_default in
    record {
      is_head = making.is_head;
      of_feed = making.of_feed;
      reader = c.in_ok-frame.ensures.reader;
      rules = c.in_ok-frame.ensures.worked.rules;
      count = ap length all.0 ∙ making.count;
      seals = appendable-after g.D.Disk.observable s m c.args.seals.now reads making.seals;
      begun = λ tells. subst (λ (l : List ℕ). IsBegun (records l) c.args.head.now c.args.window.now.history)
          (sym (reads.areas Journal).content) (making.begun tells);
    }

pub returns-in_default-clause-last : goal.returns-in_default-clause-last
returns-in_default-clause-last g c = λ is.
    let all = ended g (goal.at.returns-in_default-clause-last g c).In_default in
    record {
      all = λ tells. all.1 tells ∙ c.requires.making.count;
      alone = c.next_frame.ensures.reads.areas Sealed;
    }

pub returns-in_default-clause-keeps : goal.returns-in_default-clause-keeps
returns-in_default-clause-keeps g c = λ tells.
    keeps-reads (g.D.Disk.state c.args.disk.now) (g.D.Disk.state c.next_frame.new.disk) c.next_frame.ensures.reads

pub returns-in_default-clause-others : goal.returns-in_default-clause-others
returns-in_default-clause-others g c = λ a other. c.next_frame.ensures.reads.areas a

-- the frame that was read
there : (g : Over) (c : In-Some g) → g.D.Disk.observable
    → slice_get (records ((g.D.Disk.state c.args.disk.now).content Journal)) (length c.args.window.now.history + 1)
    ≡ Some c.in-Some.frame.payload.items
there g c tells =
    let read = rw c.in-Some.is at c.in_ok-frame.ensures.payload in
    subst (λ (n : ℕ). slice_get (records ((g.D.Disk.state c.args.disk.now).content Journal)) n
    ≡ Some c.in-Some.frame.payload.items) c.requires.making.count (read tells)

frame-read : (g : Over) (c : In-Some g) → HasRead c.in-Some.frame.extent c.in-Some.frame.payload.items
    c.args.reader.now.log c.next_frame.new.reader.log
frame-read g c = rw c.in-Some.is at c.in_ok-frame.ensures.frame

pub returns-in-Err-clause-refused : goal.returns-in-Err-clause-refused
returns-in-Err-clause-refused g c = λ tells.
    let s = g.D.Disk.state c.args.disk.now in
    let here = there g (goal.at.returns-in-Err-clause-refused g c).In-Some tells in
    window-fails s (g.D.Disk.state c.next_frame.new.disk) (g.D.Disk.state c.append_seal.new.disk) c.args.head.now
    c.args.window.now.history c.in-Err.fault c.next_frame.ensures.reads (c.requires.making.begun tells)
    (slice_get_within (records (s.content Journal)) (length c.args.window.now.history + 1) c.in-Some.frame.payload.items
    here) (c.in-Err.ensures.refused tells)

pub returns-in-Err-clause-keeps : goal.returns-in-Err-clause-keeps
returns-in-Err-clause-keeps g c = λ tells.
    keeps-after (g.D.Disk.state c.args.disk.now) (g.D.Disk.state c.next_frame.new.disk)
    (g.D.Disk.state c.append_seal.new.disk) c.next_frame.ensures.reads (c.append_seal.ensures.keeps tells)

pub returns-in-Err-clause-others : goal.returns-in-Err-clause-others
returns-in-Err-clause-others g c = λ a other.
    alone_joins (g.D.Disk.state c.args.disk.now) (g.D.Disk.state c.next_frame.new.disk)
    (g.D.Disk.state c.append_seal.new.disk) a (c.next_frame.ensures.reads.areas a)
    (c.append_seal.ensures.others a other)

pub returns-in_err-taken-clause-refused : goal.returns-in_err-taken-clause-refused
returns-in_err-taken-clause-refused g c =
    let after = (goal.at.returns-in_err-taken-clause-refused g c).In-Some in
    let returned = err_from_is_err_and c.from_residual-in_err-taken.result c.from_residual-in_err-taken.ensures.1 in
    rw (returned.1, returned.2) (λ tells. take-fails (g.D.Disk.state c.args.disk.now)
    (g.D.Disk.state c.append_seal.new.disk) c.args.head.now c.args.window.now.history c.in-Some.frame.payload.items
    c.in_err-taken.field-0.0 (there g after tells) c.in_err-taken.ensures.refused)

pub returns-in_err-taken-clause-keeps : goal.returns-in_err-taken-clause-keeps
returns-in_err-taken-clause-keeps g c = λ tells.
    keeps-after (g.D.Disk.state c.args.disk.now) (g.D.Disk.state c.next_frame.new.disk)
    (g.D.Disk.state c.append_seal.new.disk) c.next_frame.ensures.reads (c.append_seal.ensures.keeps tells)

pub returns-in_err-taken-clause-others : goal.returns-in_err-taken-clause-others
returns-in_err-taken-clause-others g c = λ a other.
    alone_joins (g.D.Disk.state c.args.disk.now) (g.D.Disk.state c.next_frame.new.disk)
    (g.D.Disk.state c.append_seal.new.disk) a (c.next_frame.ensures.reads.areas a)
    (c.append_seal.ensures.others a other)

pub returns-clause-making : goal.returns-clause-making
returns-clause-making g c =
    let s = g.D.Disk.state c.args.disk.now in
    let m = g.D.Disk.state c.next_frame.new.disk in
    let t = g.D.Disk.state c.append_seal.new.disk in
    let making = c.requires.making in
    let frame = c.in-Some.frame in
    let reader = c.next_frame.new.reader in
    let head = c.args.head.now in
    let history = c.args.window.now.history in
    let after = (goal.at.returns-clause-making g c).In-Some in
    let taken = c.in_ok-taken.ensures.taken in
    let alone = c.append_seal.ensures.others Journal journal_sealed in
    record {
      is_head = making.is_head;
      of_feed = c.take-taken.ensures.feed head making.of_feed;
      reader = reader-after g.D.Disk.observable m t reader c.in_ok-frame.ensures.reader alone;
      rules = c.in_ok-frame.ensures.worked.rules;
      count = omega (
        arith,
        read_count frame.extent frame.payload.items c.args.reader.now.log reader.log (frame-read g after),
        making.count,
        ap length taken.history,
        length-append history (taken.operation ∷ []),
      );
      seals = c.in_default-append_seal.ensures.seals;
      begun = λ tells.
          subst (λ (l : List ℕ). IsBegun (records l) head c.take-taken.new.window.history)
          (sym (alone.content ∙ (c.next_frame.ensures.reads.areas Journal).content))
          (begun-more (records (s.content Journal)) frame.payload.items history (there g after tells) head
          c.take-taken.new.window.history (making.begun tells) taken);
    }

pub returns-clause-more : goal.returns-clause-more
returns-clause-more g c = λ is.
    let taken = c.in_ok-taken.ensures.taken in
    let read = frame-read g (goal.at.returns-clause-more g c).In-Some in
    record {
      operation = taken.operation;
      history = taken.history;
      longer = omega (arith, ap (λ (l : LogValue). l.size) read.log);
      sealed = λ tells. sealed-after (g.D.Disk.state c.args.disk.now) (g.D.Disk.state c.next_frame.new.disk)
          (g.D.Disk.state c.append_seal.new.disk) c.args.head.now c.args.window.now.history c.next_frame.ensures.reads
          (c.in_default-append_seal.ensures.sealed tells);
    }

pub returns-clause-keeps : goal.returns-clause-keeps
returns-clause-keeps g c = λ tells.
    keeps-after (g.D.Disk.state c.args.disk.now) (g.D.Disk.state c.next_frame.new.disk)
    (g.D.Disk.state c.append_seal.new.disk) c.next_frame.ensures.reads (c.append_seal.ensures.keeps tells)

pub returns-clause-others : goal.returns-clause-others
returns-clause-others g c = λ a other.
    alone_joins (g.D.Disk.state c.args.disk.now) (g.D.Disk.state c.next_frame.new.disk)
    (g.D.Disk.state c.append_seal.new.disk) a (c.next_frame.ensures.reads.areas a)
    (c.append_seal.ensures.others a other)
