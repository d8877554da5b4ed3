use Rattle.std.proofs.Common.{◌∙◌, Ok, Err, refl, ap}
use Rattle.foreign_mirror.specs.declared.fault.ForeignFault.TheVariants.{NoMemory}
use Rattle.foreign_mirror.specs.declared.walk.Visit.{Visit}
use Rattle.foreign_mirror.proofs.SoFarLemmas.{run-again, run-before, run-ended, run-fault, run-none, so_far-more}
use Rattle.foreign_mirror.proofs.walk.Progress.run.Goals as goal

pub returns-in_err-of-clause-ran : goal.returns-in_err-of-clause-ran
returns-in_err-of-clause-ran g c = λ sees.
    let source = g.F.Fetch.state c.args.fetch.now in
    run-again source source c.args.from.now c.args.self.now NoMemory c.from_residual.result c.from_residual.ensures.1
    (run-none source c.args.from.now c.args.self.now)

pub returns-in-Err-clause-ran : goal.returns-in-Err-clause-ran
returns-in-Err-clause-ran g c =
    let so_far = c.addresses.invariant.so_far in
    run-before g.F.Fetch.observable (g.F.Fetch.state c.args.fetch.now) (g.F.Fetch.state c.addresses.fetch)
    c.args.from.now c.addresses.next c.addresses.self so_far c.in-Err.end
    (c.in-Err.ensures.checked so_far.asked so_far.documents so_far.keeps)

pub returns-in_err-prev-clause-ran : goal.returns-in_err-prev-clause-ran
returns-in_err-prev-clause-ran g c = λ sees.
    let so_far = c.addresses.invariant.so_far in
    let checked = c.in-Ok.ensures.checked so_far.asked so_far.documents so_far.keeps in
    let fault = c.in_err-prev.field-0.0 in
    run-again (g.F.Fetch.state c.args.fetch.now) (g.F.Fetch.state c.visit.new.fetch) c.args.from.now c.visit.new.self
    fault c.from_residual-in_err-prev.result c.from_residual-in_err-prev.ensures.1
    (run-fault g.F.Fetch.observable (g.F.Fetch.state c.args.fetch.now) (g.F.Fetch.state c.addresses.fetch)
    c.args.from.now c.addresses.next c.addresses.self so_far c.in-Ok.address checked.0 checked.1
    c.addresses.invariant.answers (g.F.Fetch.state c.visit.new.fetch) c.visit.new.self (Err fault)
    (c.in_err-prev.ensures.visited so_far.asked so_far.documents so_far.keeps) fault refl sees)

pub addresses-preserved : goal.addresses-preserved
addresses-preserved g c =
    let so_far = c.addresses.invariant.so_far in
    let checked = c.in-Ok.ensures.checked so_far.asked so_far.documents so_far.keeps in
    record {
      so_far = so_far-more g.F.Fetch.observable (g.F.Fetch.state c.args.fetch.now) (g.F.Fetch.state c.addresses.fetch)
          c.args.from.now c.addresses.next c.addresses.self so_far c.in-Ok.address checked.0 checked.1
          c.addresses.invariant.answers (g.F.Fetch.state c.visit.new.fetch) c.visit.new.self
          (Ok c.in_ok-prev.field-0)
          (c.in_ok-prev.ensures.visited so_far.asked so_far.documents so_far.keeps) c.in-Taken.prev
          (ap (λ (v : Visit). Ok v) c.in-Taken.is);
      answers = c.visit.ensures.answers ∙ c.addresses.invariant.answers;
      faults = c.in_ok-prev.ensures.faults.unfailed (λ e. cc) ∙ c.addresses.invariant.faults;
    }

pub returns-in-Ended-clause-ran : goal.returns-in-Ended-clause-ran
returns-in-Ended-clause-ran g c =
    let so_far = c.addresses.invariant.so_far in
    let checked = c.in-Ok.ensures.checked so_far.asked so_far.documents so_far.keeps in
    run-ended g.F.Fetch.observable (g.F.Fetch.state c.args.fetch.now) (g.F.Fetch.state c.addresses.fetch)
    c.args.from.now c.addresses.next c.addresses.self so_far c.in-Ok.address checked.0 checked.1
    c.addresses.invariant.answers (g.F.Fetch.state c.visit.new.fetch) c.visit.new.self (Ok c.in_ok-prev.field-0)
    (c.in_ok-prev.ensures.visited so_far.asked so_far.documents so_far.keeps) c.in-Ended.end
    (ap (λ (v : Visit). Ok v) c.in-Ended.is)
