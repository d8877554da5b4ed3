use Rattle.std.proofs.Common.{◌≡◌, ℕ, List, [], ◌∷◌, ◌++◌, ◌∙◌, ap, subst}
use Rattle.atom_writer.specs.Pieced.{text_of}
use Rattle.feed_disk.specs.Moments.{AlwaysLeaves, NowOnly}
use Rattle.feed_disk.specs.declared.area.Area.{Area}
use Rattle.feed_disk.specs.declared.area.Area.TheVariants.{Journal, Sealed}
use Rattle.feed_disk.proofs.MomentLemmas.{alone_begins}
use Rattle.feed_journal.specs.Records.{records, Begins, IsStep}
use Rattle.feed_recovery.specs.Settled.{AlwaysLeavesBoth, IsInit, Unused}
use Rattle.feed_recovery.proofs.BothLemmas.{both_joins}
use Rattle.feed_recovery.proofs.InitLemmas.{heading_leaves, loading_leaves, opens_first, settled_has_payload, unused_whole}
use Rattle.feed_recovery.proofs.LoadedLemmas.{alone_stands, begins_still, settled_stays}
use Rattle.feed_recovery.proofs.SettleLemmas.{rest_settles}
use Rattle.member_rules.specs.Coding.{heads}
use Rattle.feed_recovery.specs.Opening.{Opens}
use Rattle.feed_recovery.proofs.store.Store.init.Given.{Over}
use Rattle.feed_recovery.proofs.store.Store.init.Goals as goal
use Rattle.feed_recovery.proofs.store.Store.init.Goals.{After-append, In_ok-append}

pub returns-in_err-framed-clause-moments : goal.returns-in_err-framed-clause-moments
returns-in_err-framed-clause-moments g c = λ tells unused.
    let s = g.D.Disk.state c.args.disk.now in
    loading_leaves s s c.args.head.now (g.met.D.Disk.is_disk c.args.disk.now)
    (alone_stands s s Journal (alone_begins s Journal)) (alone_stands s s Sealed (alone_begins s Sealed)) unused

pub returns-in_err-journal-clause-already : goal.returns-in_err-journal-clause-already
returns-in_err-journal-clause-already g c = λ is tells.
    let gives = rw is at c.from_residual-in_err-journal.ensures.1 in
    c.in_err-journal.ensures.already (cc) tells

pub returns-in_err-journal-clause-moments : goal.returns-in_err-journal-clause-moments
returns-in_err-journal-clause-moments g c = λ tells unused.
    loading_leaves (g.D.Disk.state c.args.disk.now) (g.D.Disk.state c.unused_journal.new.disk) c.args.head.now
    (g.met.D.Disk.is_disk c.args.disk.now) (c.unused_journal.ensures.journal tells)
    (c.unused_journal.ensures.seals tells) unused

pub returns-in_err-journal-clause-kept : goal.returns-in_err-journal-clause-kept
returns-in_err-journal-clause-kept g c = λ tells other operations least settled.
    settled_stays (g.D.Disk.state c.args.disk.now) (g.D.Disk.state c.unused_journal.new.disk) other operations least
    (g.met.D.Disk.is_disk c.args.disk.now) (c.unused_journal.ensures.journal tells)
    (c.unused_journal.ensures.seals tells) settled

moments : (g : Over) (c : After-append g) → g.D.Disk.observable → Unused (g.D.Disk.state c.args.disk.now)
    → AlwaysLeavesBoth (g.D.Disk.state c.args.disk.now) (g.D.Disk.state c.append.new.disk) (IsInit c.args.head.now)
moments g c tells unused =
    let s = g.D.Disk.state c.args.disk.now in
    let m = g.D.Disk.state c.unused_journal.new.disk in
    let t = g.D.Disk.state c.append.new.disk in
    let head = c.args.head.now in
    let area = c.in_ok-journal.ensures.log.area in
    let rests = c.in_ok-journal.ensures.rests tells
    (unused_whole s (g.met.D.Disk.is_disk c.args.disk.now) tells unused) in
    let run = subst (λ (l : List ℕ). AlwaysLeaves m t Journal (IsStep (records (m.content Journal)) l))
    c.in_ok-framed.ensures.bytes (subst (λ (a : Area). NowOnly m a (Begins (records (m.content a)))
    → AlwaysLeaves m t a (IsStep (records (m.content a)) c.in_ok-framed.framed)) area
    (c.append.ensures.moments tells) rests.journal) in
    both_joins s m t (IsInit head)
    (loading_leaves s m head (g.met.D.Disk.is_disk c.args.disk.now) (c.unused_journal.ensures.journal tells)
    (c.unused_journal.ensures.seals tells) unused)
    (heading_leaves c.begun_images_are_whole.ensures m t head c.framed_head.ensures.rules
    (c.sealed_windows_are_full.ensures head [] c.framed_head.ensures.rules)
    (g.met.D.Disk.is_disk c.unused_journal.new.disk) (c.in_ok-journal.ensures.same tells) rests
    (c.append.ensures.others Sealed (λ same. let clash : Sealed ≡ Journal = same ∙ area in cc)) run)

pub returns-in_err-append-clause-moments : goal.returns-in_err-append-clause-moments
returns-in_err-append-clause-moments g c = moments g (goal.at.returns-in_err-append-clause-moments g c).After-append

pub returns-clause-moments : goal.returns-clause-moments
returns-clause-moments g c = moments g (goal.at.returns-clause-moments g c).After-append

pub returns-in_err-append-clause-kept : goal.returns-in_err-append-clause-kept
returns-in_err-append-clause-kept g c = λ tells other operations least settled.
    absurd (settled_has_payload (g.D.Disk.state c.args.disk.now) other operations least
    (g.met.D.Disk.is_disk c.args.disk.now) tells settled (c.in_ok-journal.ensures.unused tells))

opens : (g : Over) (c : In_ok-append g) → g.D.Disk.observable
    → Opens ((g.D.Disk.state c.append.new.disk).content Journal) ((g.D.Disk.state c.append.new.disk).content Sealed)
    c.args.head.now [] 0
opens g c tells =
    let m = g.D.Disk.state c.unused_journal.new.disk in
    let t = g.D.Disk.state c.append.new.disk in
    let head = c.args.head.now in
    let area = c.in_ok-journal.ensures.log.area in
    let none = c.in_ok-journal.ensures.same tells in
    let alone = c.append.ensures.others Sealed (λ same. let clash : Sealed ≡ Journal = same ∙ area in cc) in
    let added = subst (λ (a : Area). records (t.content a) ≡ records (m.content a) ++ c.in_ok-framed.framed ∷ []) area
    (c.in_ok-append.ensures.listed tells).list in
    let first : records (t.content Journal) ≡ text_of heads head ∷ [] = added
    ∙ ap (λ (l : List (List ℕ)). l ++ c.in_ok-framed.framed ∷ []) none.journal
    ∙ ap (λ (l : List ℕ). l ∷ []) c.in_ok-framed.ensures.bytes in
    opens_first head c.framed_head.ensures.rules
    (c.sealed_windows_are_full.ensures head [] c.framed_head.ensures.rules) (t.content Journal) (t.content Sealed)
    first (ap records alone.content ∙ none.sealed)

pub returns-clause-opens : goal.returns-clause-opens
returns-clause-opens g c = opens g (goal.at.returns-clause-opens g c).In_ok-append

pub returns-clause-settled : goal.returns-clause-settled
returns-clause-settled g c = λ tells unused.
    let s = g.D.Disk.state c.args.disk.now in
    let m = g.D.Disk.state c.unused_journal.new.disk in
    let t = g.D.Disk.state c.append.new.disk in
    let area = c.in_ok-journal.ensures.log.area in
    let alone = c.append.ensures.others Sealed (λ same. let clash : Sealed ≡ Journal = same ∙ area in cc) in
    let rests = c.in_ok-journal.ensures.rests tells
    (unused_whole s (g.met.D.Disk.is_disk c.args.disk.now) tells unused) in
    rest_settles c.begun_images_are_whole.ensures t c.args.head.now [] 0
    (opens g (goal.at.returns-clause-settled g c).In_ok-append tells) (record {
      journal = subst (λ (a : Area). NowOnly m a (Begins (records (m.content a)))
          → NowOnly t a (Begins (records (t.content a)))) area (c.in_ok-append.ensures.rests tells) rests.journal;
      sealed = begins_still m t Sealed alone rests.sealed;
    })

pub returns-clause-kept : goal.returns-clause-kept
returns-clause-kept g c = λ tells other operations least settled.
    absurd (settled_has_payload (g.D.Disk.state c.args.disk.now) other operations least
    (g.met.D.Disk.is_disk c.args.disk.now) tells settled (c.in_ok-journal.ensures.unused tells))
