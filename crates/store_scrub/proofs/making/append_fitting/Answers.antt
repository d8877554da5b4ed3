use Rattle.std.proofs.Common.{◌≡◌, ◌+◌, ◌<◌, ◌∙◌, inl, inr, refl, ap, subst, arith}
use Rattle.std.proofs.lemmas.Bool.{cases_lt}
use Rattle.feed_disk.specs.declared.area.Area.{Area}
use Rattle.feed_disk.specs.declared.area.Area.TheVariants.{Sealed}
use Rattle.feed_journal.specs.Log.{ListsPayload, LeavesOneList, KeepsAtRest, LogValue}
use Rattle.feed_journal.proofs.ListLemmas.{is_size}
use Rattle.store_scrub.proofs.MakingLemmas.{append-keeps, keeps-still}
use Rattle.store_scrub.proofs.making.append_fitting.Goals as goal
use Rattle.store_scrub.proofs.making.append_fitting.Goals.{After-append}
use Rattle.store_scrub.proofs.making.append_fitting.Given.{Over}

pub returns-in_err-reserve-clause-keeps : goal.returns-in_err-reserve-clause-keeps
returns-in_err-reserve-clause-keeps g c = λ tells. keeps-still (g.D.Disk.state c.args.disk.now)

pub returns-then-not-fits-clause-refused : goal.returns-then-not-fits-clause-refused
returns-then-not-fits-clause-refused g c = λ tells.
    let log = c.args.seals.now in
    let seals = c.requires.seals in
    let listed = seals.listed tells in
    record {
      size_is = c.size.ensures.size ∙ ap (λ (l : LogValue). l.size) {y = record log { spare = c.reserve.new.self.spare }}
          c.reserve.ensures.log
          ∙ is_size log.extents log.size ((g.D.Disk.state c.args.disk.now).content Sealed) seals.readable.rules.follow
          listed.list listed.long;
      needed_is = c.needed.ensures;
      capacity_is = refl;
      past = elim (cases_lt c.args.capacity (c.size.result + c.needed.result)) [
        | inl past ↦ past
        | inr within ↦
            let yes = c.fits.ensures.1 (omega (arith, c.size.ensures.size, c.needed.ensures)) in
            let no = c.if-not-fits.true in
            absurd (cc)
      ];
      same = refl;
    }

pub returns-then-not-fits-clause-keeps : goal.returns-then-not-fits-clause-keeps
returns-then-not-fits-clause-keeps g c = λ tells. keeps-still (g.D.Disk.state c.args.disk.now)

-- the log is that of the sealed area
in-sealed : (g : Over) (c : After-append g) → c.reserve.new.self.area ≡ Sealed
in-sealed g c = ap (λ (l : LogValue). l.area) {y = record c.args.seals.now { spare = c.reserve.new.self.spare }}
    c.reserve.ensures.log ∙ c.requires.seals.readable.area

pub returns-in_err-append-clause-keeps : goal.returns-in_err-append-clause-keeps
returns-in_err-append-clause-keeps g c = λ tells.
    let s = g.D.Disk.state c.args.disk.now in
    let t = g.D.Disk.state c.append.new.disk in
    let area = in-sealed g (goal.at.returns-in_err-append-clause-keeps g c).After-append in
    append-keeps s t c.args.payload.now (subst (λ (a : Area). LeavesOneList s t a c.args.payload.now) area
    (c.append.ensures.moments tells))

pub returns-in_err-append-clause-others : goal.returns-in_err-append-clause-others
returns-in_err-append-clause-others g c = λ a other.
    let area = in-sealed g (goal.at.returns-in_err-append-clause-others g c).After-append in
    c.append.ensures.others a (λ same. other (same ∙ area))

pub returns-clause-appended : goal.returns-clause-appended
returns-clause-appended g c = λ tells.
    let s = g.D.Disk.state c.args.disk.now in
    let t = g.D.Disk.state c.append.new.disk in
    let log = c.append.new.self in
    let area = in-sealed g (goal.at.returns-clause-appended g c).After-append in
    let ok = c.in_ok-append.ensures in
    let listed = subst (λ (a : Area). ListsPayload c.args.payload.now log (s.content a) (t.content a)) area
    (ok.listed tells) in
    record {
      list = listed.list;
      fits = omega (
        arith,
        listed.size,
        ap (λ (l : LogValue). l.size) ok.ok.log,
        c.fits.ensures.0 c.if-not-fits.false,
      );
      rests = subst (λ (a : Area). KeepsAtRest s t a) area (ok.rests tells);
    }

pub returns-clause-keeps : goal.returns-clause-keeps
returns-clause-keeps g c = λ tells.
    let s = g.D.Disk.state c.args.disk.now in
    let t = g.D.Disk.state c.append.new.disk in
    let area = in-sealed g (goal.at.returns-clause-keeps g c).After-append in
    append-keeps s t c.args.payload.now (subst (λ (a : Area). LeavesOneList s t a c.args.payload.now) area
    (c.append.ensures.moments tells))

pub returns-clause-others : goal.returns-clause-others
returns-clause-others g c = λ a other.
    let area = in-sealed g (goal.at.returns-clause-others g c).After-append in
    c.append.ensures.others a (λ same. other (same ∙ area))
