use Rattle.std.proofs.Common.{◌≡◌, ◌≢◌, ℕ, List, [], ◌∷◌, ◌++◌, false, length, sym, ◌∙◌, ap, subst, arith}
use Rattle.std.proofs.Common.{length-append}
use Rattle.feed_disk.specs.Moments.{AlwaysLeaves, LeavesAlone}
use Rattle.feed_disk.specs.declared.area.Area.{Area}
use Rattle.feed_disk.specs.declared.area.Area.TheVariants.{Mirror as MirrorArea}
use Rattle.feed_journal.specs.Log.{LogValue}
use Rattle.mirror_walk.specs.Holding.{KeptValue}
use Rattle.mirror_walk.specs.Mirror.{IsAtRest, KeepsDocuments, KeepsMirror, MirrorValue, StandsFor, is_spent}
use Rattle.mirror_walk.specs.Taking.{IsTakenNext, IsTakeStep}
use Rattle.mirror_walk.proofs.SizeLemmas.{count-log, few-documents, keeps-taken}
use Rattle.mirror_walk.proofs.StepLemmas.{appended-leaves, appended-rests, appended-stands, keeps-room}
use Rattle.mirror_walk.proofs.StepLemmas.{others-alone}
use Rattle.mirror_walk.proofs.mirror.Mirror.take.Given.{Over}
use Rattle.mirror_walk.proofs.mirror.Mirror.take.Goals as goal
use Rattle.mirror_walk.proofs.mirror.Mirror.take.Goals.{After-append}

-- the mirror before the call, by its fields, and with the room that its log got
abbrev before : (g : Over) → After-append g → MirrorValue
before g c = record {
  base = c.self.inside.documents.base;
  kept = c.self.inside.documents.kept;
  listed = c.self.inside.documents.listed;
  capacity = c.self.inside.capacity;
  log = c.self.inside.log;
}

area : (g : Over) (c : After-append g) → c.reserve.new.self.area ≡ MirrorArea
area g c = ap (λ (l : LogValue). l.area) c.reserve.ensures.log ∙ c.self.invariant.area

keeps : (g : Over) (c : After-append g) → KeepsMirror c.args.self.now
keeps g c = subst KeepsMirror c.self.view_is c.self.invariant

-- the documents when the append begins
documents : (g : Over) (c : After-append g) → KeepsDocuments (before g c).base (before g c).kept
    c.reserve.new.self
documents g c =
    let unspent = subst (λ (m : MirrorValue). is_spent m ≡ false) (sym c.self.view_is) c.requires.unspent in
    (keeps-room (before g c) c.reserve.new.self c.reserve.ensures.log c.self.invariant).documents
    (ap (λ (l : LogValue). l.spent) c.reserve.ensures.log ∙ unspent)

taken : (g : Over) (c : After-append g) → IsTakenNext (before g c) c.args.given.kept c.args.framed.now
taken g c = subst (λ (m : MirrorValue). IsTakenNext m c.args.given.kept c.args.framed.now) (sym c.self.view_is)
    c.requires.taken

pub append-requires-clause-room : goal.append-requires-clause-room
append-requires-clause-room g c =
    let mirror = c.args.self.now in
    let rules = subst KeepsMirror c.self.view_is c.self.invariant in
    let held = rules.documents c.requires.unspent in
    let extents = ap (λ (l : LogValue). length l.extents) c.reserve.ensures.log
    ∙ ap (λ (m : MirrorValue). length m.log.extents) c.self.view_is in
    let size = ap (λ (l : LogValue). l.size) c.reserve.ensures.log ∙ ap (λ (m : MirrorValue). m.log.size) c.self.view_is
    in
    record {
      reserved = c.in_ok-reserve.ensures.ok;
      few = omega (
        arith,
        extents,
        count-log mirror.log.extents mirror.kept held.lengths,
        few-documents mirror.kept,
        held.size,
        c.requires.taken.fits,
        rules.capacity,
      );
      fits = omega (arith, size, c.requires.taken.fits, rules.capacity);
    }

leaves : (g : Over) (c : After-append g) → g.D.Disk.observable
    → IsAtRest (g.D.Disk.state c.args.disk.now) c.args.self.now.kept
    → AlwaysLeaves (g.D.Disk.state c.args.disk.now) (g.D.Disk.state c.append.new.disk) MirrorArea
    (IsTakeStep c.args.self.now c.args.given.kept)
leaves g c tells rest = appended-leaves (g.D.Disk.state c.args.disk.now) (g.D.Disk.state c.append.new.disk)
    c.args.self.now c.args.given.kept c.args.framed.now (keeps g c) c.requires.unspent (c.requires.stands tells)
    c.requires.taken c.reserve.new.self.area (area g c) (c.append.ensures.moments tells) rest

pub returns-in_err-append-clause-moments : goal.returns-in_err-append-clause-moments
returns-in_err-append-clause-moments g c =
    leaves g (goal.at.returns-in_err-append-clause-moments g c).After-append

-- the mirror's area is the only one that an append changes
others : (g : Over) (c : After-append g) (a : Area) → a ≢ MirrorArea
    → LeavesAlone (g.D.Disk.state c.args.disk.now) (g.D.Disk.state c.append.new.disk) a
others g c = others-alone (g.D.Disk.state c.args.disk.now) (g.D.Disk.state c.append.new.disk)
    c.reserve.new.self.area (area g c) c.append.ensures.others

pub returns-in_err-append-clause-setting : goal.returns-in_err-append-clause-setting
returns-in_err-append-clause-setting g c = record {
  base = c.take.ensures.base ∙ ap (λ (m : MirrorValue). m.base) c.self.view_is;
  capacity = ap (λ (m : MirrorValue). m.capacity) c.self.view_is;
  others = others g (goal.at.returns-in_err-append-clause-setting g c).After-append;
}

pub invariant_of-self-2 : goal.invariant_of-self-2
invariant_of-self-2 g c =
    let d = (goal.at.invariant_of-self-2 g c).After-append in
    let ok = c.in_ok-append.ensures.ok in
    let kept = c.in_ok-take.ensures.kept in
    record {
      area = ap (λ (l : LogValue). l.area) ok.log ∙ area g d;
      log = c.append.ensures.rules;
      capacity = c.self.invariant.capacity;
      documents = λ unspent.
          subst (λ (b : List ℕ). KeepsDocuments b c.take.new.self.kept c.append.new.self)
          (sym c.take.ensures.base)
          (subst (λ (l : List KeptValue). KeepsDocuments (before g d).base l c.append.new.self) (sym kept)
          (keeps-taken (before g d).base (before g d).kept c.args.given.kept c.args.framed.now c.reserve.new.self
          c.append.new.self (documents g d) (taken g d).read (taken g d).next ok));
    }

pub returns-clause-setting : goal.returns-clause-setting
returns-clause-setting g c = record {
  base = c.take.ensures.base ∙ ap (λ (m : MirrorValue). m.base) c.self.view_is;
  capacity = ap (λ (m : MirrorValue). m.capacity) c.self.view_is;
  others = others g (goal.at.returns-clause-setting g c).After-append;
}

pub returns-clause-sound : goal.returns-clause-sound
returns-clause-sound g c = λ works.
    let d = (goal.at.returns-clause-sound g c).After-append in
    let s = g.D.Disk.state c.args.disk.now in
    let t = g.D.Disk.state c.append.new.disk in
    let unspent = subst (λ (m : MirrorValue). is_spent m ≡ false) (sym c.self.view_is) c.requires.unspent in
    let area_is = c.reserve.new.self.area in
    let listed = c.in_ok-append.ensures.listed in
    let calls = c.append.ensures.calls.most in
    let kept : c.take.new.self.kept ≡ c.args.self.now.kept ++ c.args.given.kept ∷ [] =
    c.in_ok-take.ensures.kept ∙ ap (λ (m : MirrorValue). m.kept ++ c.args.given.kept ∷ []) c.self.view_is in
    record {
      unspent = ap (λ (l : LogValue). l.spent) c.in_ok-append.ensures.ok.log
          ∙ ap (λ (l : LogValue). l.spent) c.reserve.ensures.log ∙ unspent;
      stands = λ tells.
          appended-stands s t (before g d) c.args.given.kept c.args.framed.now c.self.invariant unspent
          (subst (StandsFor s) (sym c.self.view_is) (c.requires.stands tells)) (taken g d) area_is (area g d)
          (listed tells).list _ c.in_ok-take.ensures.kept (listed tells).listed;
      rests = λ tells rest.
          subst (IsAtRest t) (sym kept) (appended-rests s t c.args.self.now c.args.given.kept c.args.framed.now
          (keeps g d) c.requires.unspent (c.requires.stands tells) c.requires.taken area_is (area g d)
          (listed tells).list (c.in_ok-append.ensures.rests tells) rest);
      most = omega (arith, calls.within, calls.makes.clock, simp length-append at (ap length kept));
    }

pub returns-clause-moments : goal.returns-clause-moments
returns-clause-moments g c = leaves g (goal.at.returns-clause-moments g c).After-append
