use Rattle.std.proofs.Common.{◌∙◌, ℕ, List, [], length, ap, sym, subst, arith}
use Rattle.feed_disk.specs.declared.area.Area.TheVariants.{Journal, Sealed}
use Rattle.feed_disk.proofs.MomentLemmas.{alone_joins}
use Rattle.feed_journal.specs.Records.{records}
use Rattle.member_rules.specs.declared.operation.Op.{Op}
use Rattle.store_scrub.specs.Making.{MakesAll}
use Rattle.store_scrub.specs.Steps.{IsBegun, IsMakingFault}
use Rattle.store_scrub.proofs.MakingLemmas.{appendable-after, fails-later, keeps-alone, keeps-later, makes-later, on-ok}
use Rattle.store_scrub.proofs.ScrubLemmas.{err-weaker}
use Rattle.store_scrub.proofs.making.make_read.Goals as goal

pub returns-in_err-head-clause-moments : goal.returns-in_err-head-clause-moments
returns-in_err-head-clause-moments g c = λ tells.
    keeps-alone (g.D.Disk.state c.args.disk.now) (g.D.Disk.state c.head_of.new.disk)
    (c.head_of.ensures.reads.areas Sealed)

pub returns-in_err-head-clause-others : goal.returns-in_err-head-clause-others
returns-in_err-head-clause-others g c = λ a other. c.head_of.ensures.reads.areas a

pub returns-in-Err-clause-moments : goal.returns-in-Err-clause-moments
returns-in-Err-clause-moments g c = λ tells.
    keeps-alone (g.D.Disk.state c.args.disk.now) (g.D.Disk.state c.head_of.new.disk)
    (c.head_of.ensures.reads.areas Sealed)

pub returns-in-Err-clause-others : goal.returns-in-Err-clause-others
returns-in-Err-clause-others g c = λ a other. c.head_of.ensures.reads.areas a

pub make_each-outcome-requires-clause-making : goal.make_each-outcome-requires-clause-making
make_each-outcome-requires-clause-making g c =
    let s = g.D.Disk.state c.args.disk.now in
    let m = g.D.Disk.state c.head_of.new.disk in
    let reads = c.head_of.ensures.reads in
    let ok = c.in_ok-head.ensures in
    let head = c.in_ok-head.head in
    let none = c.in-Ok.ensures.none in
    record {
      is_head = ok.rules;
      of_feed = c.in-Ok.ensures.feed;
      reader = ok.reader;
      rules = ok.log;
      count = omega (arith, ok.one, ap length none);
      seals = appendable-after g.D.Disk.observable s m c.args.seals.now reads c.requires.seals;
      begun = λ tells. subst (λ (l : List Op). IsBegun (records (m.content Journal)) head l) (sym none)
          (subst (λ (l : List ℕ). IsBegun (records l) head []) (sym (reads.areas Journal).content) (ok.begun tells));
    }

pub returns-clause-made : goal.returns-clause-made
returns-clause-made g c =
    let s = g.D.Disk.state c.args.disk.now in
    let m = g.D.Disk.state c.head_of.new.disk in
    let t = g.D.Disk.state c.make_each-outcome.new.disk in
    on-ok c.make_each-outcome.result (g.D.Disk.observable → MakesAll m t) (g.D.Disk.observable → MakesAll s t)
    (λ made tells. makes-later s m t c.head_of.ensures.reads.areas (made tells)) c.make_each-outcome.ensures.made

pub returns-clause-refused : goal.returns-clause-refused
returns-clause-refused g c =
    let s = g.D.Disk.state c.args.disk.now in
    let m = g.D.Disk.state c.head_of.new.disk in
    let t = g.D.Disk.state c.make_each-outcome.new.disk in
    err-weaker c.make_each-outcome.result (λ fault. g.D.Disk.observable → IsMakingFault m t fault)
    (λ fault. g.D.Disk.observable → IsMakingFault s t fault)
    (λ fault why tells. fails-later s m t c.head_of.ensures.reads.areas fault (why tells))
    c.make_each-outcome.ensures.refused

pub returns-clause-moments : goal.returns-clause-moments
returns-clause-moments g c = λ tells.
    keeps-later (g.D.Disk.state c.args.disk.now) (g.D.Disk.state c.head_of.new.disk)
    (g.D.Disk.state c.make_each-outcome.new.disk) c.head_of.ensures.reads.areas
    (c.make_each-outcome.ensures.moments tells)

pub returns-clause-others : goal.returns-clause-others
returns-clause-others g c = λ a other.
    alone_joins (g.D.Disk.state c.args.disk.now) (g.D.Disk.state c.head_of.new.disk)
    (g.D.Disk.state c.make_each-outcome.new.disk) a (c.head_of.ensures.reads.areas a)
    (c.make_each-outcome.ensures.others a other)
