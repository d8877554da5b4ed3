use Rattle.std.proofs.Common.{◌≡◌, List, [], ◌∷◌, ◌++◌, ℕ, length, take, map, Some, sym, ◌∙◌, ap, subst}
use Rattle.std.proofs.Common.{arith}
use Rattle.std.specs.Prelude.{slice_get}
use Rattle.std.proofs.Math.Seq.{take-length}
use Rattle.std.proofs.Common.{length-append}
use Rattle.std.proofs.lemmas.List.{length-map, map-append}
use Rattle.std.proofs.lemmas.Result.{err_from_is_err_and}
use Rattle.atom_writer.specs.Pieces.{text}
use Rattle.feed_disk.specs.declared.area.Area.TheVariants.{Mirror as MirrorArea}
use Rattle.feed_journal.specs.Log.{LogValue, payload_lengths}
use Rattle.feed_journal.specs.Records.{records, size_of}
use Rattle.feed_journal.specs.declared.extent.Extent.{Extent}
use Rattle.mirror_walk.specs.Holding.{KeptValue, payloads_of}
use Rattle.mirror_walk.specs.Loaded.{IsLoadedOf}
use Rattle.mirror_walk.specs.Loading.{FailsBy, IsNext}
use Rattle.mirror_walk.proofs.ReadingLemmas.{fails_later, readable_later, reads_join, take_next, worked_join}
use Rattle.mirror_walk.proofs.SizeLemmas.{follow-size}
use Rattle.mirror_walk.proofs.TakenLemmas.{loaded-more, payloads-more}
use Rattle.mirror_walk.proofs.load.held_of.Goals as goal

pub document_of-requires-clause-log : goal.document_of-requires-clause-log
document_of-requires-clause-log g c =
    readable_later g.D.Disk.observable (g.D.Disk.state c.args.disk.now) (g.D.Disk.state c.loop-index.disk)
    c.args.log.now
    c.loop-index.log c.requires c.loop-index.invariant.reads c.loop-index.invariant.worked

pub document_of-requires-clause-within : goal.document_of-requires-clause-within
document_of-requires-clause-within g c =
    omega (
      arith,
      c.loop-index-test.true,
      c.len-index-end.ensures,
      ap (λ (l : LogValue). length l.extents) c.loop-index.invariant.worked.log,
    )

pub document_of-requires-clause-count : goal.document_of-requires-clause-count
document_of-requires-clause-count g c = c.loop-index.invariant.count

pub document_of-requires-clause-loaded : goal.document_of-requires-clause-loaded
document_of-requires-clause-loaded g c =
    subst (λ (b : List ℕ). IsLoadedOf b (payloads_of c.loop-index.held.kept) c.loop-index.held.kept)
    (sym c.loop-index.invariant.base) c.loop-index.invariant.loaded

pub document_of-requires-clause-before : goal.document_of-requires-clause-before
document_of-requires-clause-before g c = λ tells.
    subst (λ (l : List ℕ). take c.loop-index.index (records l) ≡ payloads_of c.loop-index.held.kept)
    (sym (c.loop-index.invariant.reads.areas MirrorArea).content) (c.loop-index.invariant.payloads tells)

pub returns-in_err-given-clause-reads : goal.returns-in_err-given-clause-reads
returns-in_err-given-clause-reads g c = reads_join (g.D.Disk.state c.args.disk.now)
    (g.D.Disk.state c.loop-index.disk) (g.D.Disk.state c.document_of.new.disk) c.loop-index.invariant.reads
    c.document_of.ensures.reads

pub returns-in_err-given-clause-fault : goal.returns-in_err-given-clause-fault
returns-in_err-given-clause-fault g c =
    let s = g.D.Disk.state c.args.disk.now in
    let m = g.D.Disk.state c.loop-index.disk in
    let t = g.D.Disk.state c.document_of.new.disk in
    let before = c.loop-index.invariant in
    let fails = subst (λ (b : List ℕ). FailsBy g.D.Disk.observable b m t c.in_err-given.field-0.0) before.base
    c.in_err-given.ensures.fault in
    let returned = err_from_is_err_and c.from_residual.result c.from_residual.ensures.1 in
    rw (returned.1, returned.2) (fails_later g.D.Disk.observable c.args.base s m t c.in_err-given.field-0.0
    before.reads
    before.worked.faults fails)

pub returns-in_err-take-clause-reads : goal.returns-in_err-take-clause-reads
returns-in_err-take-clause-reads g c = reads_join (g.D.Disk.state c.args.disk.now)
    (g.D.Disk.state c.loop-index.disk) (g.D.Disk.state c.document_of.new.disk) c.loop-index.invariant.reads
    c.document_of.ensures.reads

pub loop-index-preserved : goal.loop-index-preserved
loop-index-preserved g c =
    let s = g.D.Disk.state c.args.disk.now in
    let m = g.D.Disk.state c.loop-index.disk in
    let t = g.D.Disk.state c.document_of.new.disk in
    let before = c.loop-index.invariant in
    let kept = c.loop-index.held.kept in
    let given = c.in_ok-given.given.kept in
    let index = c.loop-index.index in
    let found = c.in_ok-given.ensures in
    let taken : c.take.new.self.kept ≡ kept ++ given ∷ [] = c.in_ok-take.ensures.kept in
    let next = subst (λ (b : List ℕ). IsNext b kept given) before.base found.next in
    let size = subst (λ (l : LogValue). slice_get (payload_lengths l.extents) index
    ≡ Some (length (text given.document))) before.worked.log found.length in
    record {
      base = c.take.ensures.base ∙ before.base;
      unlisted = c.in_ok-take.ensures.unlisted;
      count = omega (arith, before.count, ap length taken, length-append kept (given ∷ []));
      loaded = subst (λ (l : List KeptValue). IsLoadedOf c.args.base (payloads_of l) l) (sym taken)
          (loaded-more c.args.base kept given before.loaded found.document next);
      lengths = take_next (payload_lengths c.args.log.now.extents) index (length (text given.document)) size
          ∙ ap (λ (l : List ℕ). l ++ length (text given.document) ∷ []) before.lengths
          ∙ sym (map-append length (payloads_of kept) (text given.document ∷ []))
          ∙ ap (map length) (sym (payloads-more kept given))
          ∙ ap (λ (l : List KeptValue). map length (payloads_of l)) (sym taken);
      payloads = λ tells.
          take_next (records (s.content MirrorArea)) index (text given.document)
          (subst (λ (l : List ℕ). slice_get (records l) index ≡ Some (text given.document))
          (before.reads.areas MirrorArea).content (found.payload tells))
          ∙ ap (λ (l : List (List ℕ)). l ++ text given.document ∷ []) (before.payloads tells)
          ∙ sym (payloads-more kept given)
          ∙ ap payloads_of (sym taken);
      worked = worked_join s m t c.args.log.now c.loop-index.log c.document_of.new.log before.worked
          found.worked;
      reads = reads_join s m t before.reads c.document_of.ensures.reads;
    }

pub returns-clause-documents : goal.returns-clause-documents
returns-clause-documents g c =
    let before = c.loop-index.invariant in
    let log = c.args.log.now in
    let kept = c.loop-index.held.kept in
    let count : c.loop-index.index ≡ length (payload_lengths log.extents) =
    omega (
      arith,
      c.loop-index-test.false,
      c.len-index-end.ensures,
      c.loop-index.auto.index-end,
      length-map log.extents (λ (e : Extent). e.length),
    ) in
    let lengths : payload_lengths log.extents ≡ map length (payloads_of kept) =
    sym (take-length (payload_lengths log.extents))
    ∙ ap (λ (n : ℕ). take n (payload_lengths log.extents)) (sym count) ∙ before.lengths in
    let size : log.size ≡ size_of (payloads_of kept) =
    omega (arith, follow-size 0 log.extents log.size (payloads_of kept) c.requires.rules.follow lengths) in
    record {
      lengths = ap (λ (l : LogValue). payload_lengths l.extents) before.worked.log ∙ lengths;
      size = ap (λ (l : LogValue). l.size) before.worked.log ∙ size;
      loaded = before.loaded;
    }
