use Rattle.std.proofs.Common.{◌≡◌, List, ℕ, Some, Err, Ok, ap, sym, subst, ◌∙◌}
use Rattle.std.proofs.lemmas.Result.{err_from_is_err_and}
use Rattle.feed_disk.specs.declared.area.Area.TheVariants.{Mirror as MirrorArea}
use Rattle.feed_disk.proofs.MomentLemmas.{alone_begins, alone_joins}
use Rattle.chain_links.specs.declared.address.Address.TheVariants.{Feed}
use Rattle.mirror_walk.specs.Holding.{KeptValue, payloads_of}
use Rattle.mirror_walk.specs.Loaded.{IsLoadedOf}
use Rattle.mirror_walk.specs.Walk.{HasWalked}
use Rattle.mirror_walk.specs.declared.walk.WalkFault.TheVariants as faults
use Rattle.mirror_walk.proofs.WalkServedLemmas.{walks-loaded}
use Rattle.mirror_commands.specs.MirrorFaults.{walk_fault}
use Rattle.mirror_commands.specs.Printed.{printed_answer}
use Rattle.mirror_commands.specs.Walked.{IsWalkReport, walk_setting}
use Rattle.mirror_commands.proofs.OffersLemmas.{ends-observable}
use Rattle.mirror_commands.proofs.WalkEndLemmas.{fault-ends, over-ends, refusal-over, walk-asks, walk-goes, walk-lines, walk-refused}
use Rattle.mirror_commands.proofs.WalkEndLemmas.{walked-is}
use Rattle.mirror_commands.proofs.fetched.report_walk.Goals as goal

pub returns-in_err-walked-clause-refused : goal.returns-in_err-walked-clause-refused
returns-in_err-walked-clause-refused g c =
    let p = err_from_is_err_and c.from_residual.result c.from_residual.ensures.1 in
    let first = c.args.mirror.now in
    let source = g.F.Fetch.state c.args.fetch.now in
    rw (p.1, p.2) (λ refusal disk observable.
    walk-refused c.args.report first.capacity first.base first.kept c.walk.new.self.kept source.answers source.asked
    (g.F.Fetch.state c.walk.new.fetch).asked c.in_err-walked.field-0.0 (c.in_err-walked.ensures.walked observable) refusal)

pub returns-in_err-walked-clause-asks : goal.returns-in_err-walked-clause-asks
returns-in_err-walked-clause-asks g c = λ observable.
    let p = err_from_is_err_and c.from_residual.result c.from_residual.ensures.1 in
    let first = c.args.mirror.now in
    let fault = c.in_err-walked.field-0.0 in
    let went = c.in_err-walked.ensures.walked observable in
    walk-asks first.capacity first.base first.kept c.walk.new.self.kept (g.F.Fetch.state c.args.fetch.now)
    (g.F.Fetch.state c.walk.new.fetch) (Err fault) went _
    (fault-ends went.asked went.accepted went.held went.ending fault c.from_residual.result went.result
    (p.1 ∙ ap Err p.2))

pub returns-in_err-walked-clause-walk : goal.returns-in_err-walked-clause-walk
returns-in_err-walked-clause-walk g c = λ disk observable.
    let p = err_from_is_err_and c.from_residual.result c.from_residual.ensures.1 in
    let first = c.args.mirror.now in
    let fault = c.in_err-walked.field-0.0 in
    let went = c.in_err-walked.ensures.walked observable in
    walk-goes first.capacity first.base first.kept c.walk.new.self.kept (g.F.Fetch.state c.args.fetch.now)
    (g.F.Fetch.state c.walk.new.fetch) (Err fault) (c.in_err-walked.ensures.walked observable)
    (g.D.Disk.state c.args.disk.now) (g.D.Disk.state c.walk.new.disk) (g.D.Disk.state c.walk.new.disk) _ _
    c.begun_images_are_whole.ensures c.requires.loaded (c.in_err-walked.ensures.moments disk observable)
    (λ e. let same : fault ≡ faults.DiskFault = cc in p.1 ∙ ap Err (p.2 ∙ ap walk_fault same))
    (fault-ends went.asked went.accepted went.held went.ending fault c.from_residual.result went.result
    (p.1 ∙ ap Err p.2))
    (λ worked. ((c.in_err-walked.ensures.sound worked).stands disk).payloads)
    (λ worked. (c.in_err-walked.ensures.sound worked).rests disk) (alone_begins _ MirrorArea)

pub returns-in_err-made-clause-asks : goal.returns-in_err-made-clause-asks
returns-in_err-made-clause-asks g c = λ observable.
    let p = err_from_is_err_and c.from_residual-in_err-made.result c.from_residual-in_err-made.ensures.1 in
    let first = c.args.mirror.now in
    let went = c.in_ok-walked.ensures.walked observable in
    walk-asks first.capacity first.base first.kept c.walk.new.self.kept (g.F.Fetch.state c.args.fetch.now)
    (g.F.Fetch.state c.walk.new.fetch) (Ok c.in_ok-walked.walked) went _
    (over-ends went.ending c.from_residual-in_err-made.result
    (refusal-over went.asked went.ending c.in_ok-walked.walked.refused went.result.refusal)
    (λ e. let a = p.1 in let b = p.2 in cc))

pub returns-in_err-made-clause-walk : goal.returns-in_err-made-clause-walk
returns-in_err-made-clause-walk g c = λ disk observable.
    let p = err_from_is_err_and c.from_residual-in_err-made.result c.from_residual-in_err-made.ensures.1 in
    let first = c.args.mirror.now in
    let went = c.in_ok-walked.ensures.walked observable in
    walk-goes first.capacity first.base first.kept c.walk.new.self.kept (g.F.Fetch.state c.args.fetch.now)
    (g.F.Fetch.state c.walk.new.fetch) (Ok c.in_ok-walked.walked) (c.in_ok-walked.ensures.walked observable)
    (g.D.Disk.state c.args.disk.now) (g.D.Disk.state c.walk.new.disk) (g.D.Disk.state c.walk.new.disk) _ _
    c.begun_images_are_whole.ensures c.requires.loaded (c.in_ok-walked.ensures.moments disk observable) (λ e. absurd (cc))
    (over-ends went.ending c.from_residual-in_err-made.result
    (refusal-over went.asked went.ending c.in_ok-walked.walked.refused went.result.refusal)
    (λ e. let a = p.1 in let b = p.2 in cc))
    (λ worked. ((c.in_ok-walked.ensures.sound worked).stands disk).payloads)
    (λ worked. (c.in_ok-walked.ensures.sound worked).rests disk) (alone_begins _ MirrorArea)

pub returns-in_err-end_at-clause-asks : goal.returns-in_err-end_at-clause-asks
returns-in_err-end_at-clause-asks g c = λ observable.
    let p = err_from_is_err_and c.from_residual-in_err-end_at.result c.from_residual-in_err-end_at.ensures.1 in
    let first = c.args.mirror.now in
    let went = c.in_ok-walked.ensures.walked observable in
    walk-asks first.capacity first.base first.kept c.walk.new.self.kept (g.F.Fetch.state c.args.fetch.now)
    (g.F.Fetch.state c.walk.new.fetch) (Ok c.in_ok-walked.walked) went _
    (over-ends went.ending c.from_residual-in_err-end_at.result
    (refusal-over went.asked went.ending c.in_ok-walked.walked.refused went.result.refusal)
    (λ e. let a = p.1 in let b = p.2 in cc))

pub returns-in_err-end_at-clause-walk : goal.returns-in_err-end_at-clause-walk
returns-in_err-end_at-clause-walk g c = λ disk observable.
    let p = err_from_is_err_and c.from_residual-in_err-end_at.result c.from_residual-in_err-end_at.ensures.1 in
    let first = c.args.mirror.now in
    let went = c.in_ok-walked.ensures.walked observable in
    walk-goes first.capacity first.base first.kept c.walk.new.self.kept (g.F.Fetch.state c.args.fetch.now)
    (g.F.Fetch.state c.walk.new.fetch) (Ok c.in_ok-walked.walked) (c.in_ok-walked.ensures.walked observable)
    (g.D.Disk.state c.args.disk.now) (g.D.Disk.state c.walk.new.disk) (g.D.Disk.state c.end_at.new.disk) _ _
    c.begun_images_are_whole.ensures c.requires.loaded (c.in_ok-walked.ensures.moments disk observable) (λ e. absurd (cc))
    (over-ends went.ending c.from_residual-in_err-end_at.result
    (refusal-over went.asked went.ending c.in_ok-walked.walked.refused went.result.refusal)
    (λ e. let a = p.1 in let b = p.2 in cc))
    (λ worked. ((c.in_ok-walked.ensures.sound worked).stands disk).payloads)
    (λ worked. (c.in_ok-walked.ensures.sound worked).rests disk) (c.in_err-end_at.ensures.areas MirrorArea)

pub returns-in_err-end_at-clause-others : goal.returns-in_err-end_at-clause-others
returns-in_err-end_at-clause-others g c = λ a other.
    alone_joins _ (g.D.Disk.state c.walk.new.disk) _ a (c.walk.ensures.setting.others a other)
    (c.in_err-end_at.ensures.areas a)

pub end_at-requires : goal.end_at-requires
end_at-requires g c =
    let first = c.args.mirror.now in
    let left = c.walk.new.self in
    record {
      base = c.requires.base ∙ sym c.walk.ensures.setting.base;
      usable = record {
        unspent = (c.in_ok-walked.ensures.sound (λ e. absurd (cc))).unspent;
        stands = (c.in_ok-walked.ensures.sound (λ e. absurd (cc))).stands;
      };
      outcome = record {
        is = c.in_ok-walked.ensures.outcome;
        listed = c.in_ok-walked.ensures.listed;
        address = c.in_ok-walked.ensures.addresses.missing;
      };
      no_line = walk-lines c.args.report c.args.base.now c.in_ok-walked.walked c.in_ok-made.made
          c.in_ok-made.ensures.detailed c.in_ok-made.ensures.text;
    }

pub returns-clause-printed : goal.returns-clause-printed
returns-clause-printed g c = λ disk observable.
    let first = c.args.mirror.now in
    let base = c.args.base.now in
    let source = g.F.Fetch.state c.args.fetch.now in
    let later = (g.F.Fetch.state c.walk.new.fetch).asked in
    let walked = c.in_ok-walked.walked in
    let given = printed_answer c.in_ok-end_at.field-0 in
    let left = c.walk.new.self in
    let went = c.in_ok-walked.ensures.walked observable in
    let held = walks-loaded (walk_setting first.capacity first.base source.answers) went.asked went.accepted first.kept
    went.held (Some Feed) went.ending went.walks c.requires.loaded in
    let loaded : IsLoadedOf left.base (payloads_of left.kept) left.kept =
    subst (λ (ks : List KeptValue). IsLoadedOf left.base (payloads_of ks) ks) (sym (went.left (λ e. absurd (cc))))
    (subst (λ (b : List ℕ). IsLoadedOf b (payloads_of went.held) went.held) (sym c.walk.ensures.setting.base) held) in
    subst (λ (b : List ℕ). IsWalkReport c.args.report first.capacity b first.kept source.answers given) c.requires.base
    (walked-is c.args.report first.capacity base first.kept c.walk.new.self.kept source.answers source.asked later
    walked
    c.in_ok-made.made given
    (subst (λ (b : List ℕ). HasWalked (walk_setting first.capacity b source.answers) first.kept c.walk.new.self.kept
    source.asked later (Ok walked)) (sym c.requires.base) (c.in_ok-walked.ensures.walked observable))
    c.in_ok-made.ensures.detailed c.in_ok-made.ensures.text c.in_ok-made.ensures.counts
    (ends-observable _ base c.in_ok-made.made left.kept given (disk, loaded) c.in_ok-end_at.ensures.printed))

pub returns-clause-asks : goal.returns-clause-asks
returns-clause-asks g c = λ observable.
    let first = c.args.mirror.now in
    let went = c.in_ok-walked.ensures.walked observable in
    walk-asks first.capacity first.base first.kept c.walk.new.self.kept (g.F.Fetch.state c.args.fetch.now)
    (g.F.Fetch.state c.walk.new.fetch) (Ok c.in_ok-walked.walked) went _
    (over-ends went.ending _
    (refusal-over went.asked went.ending c.in_ok-walked.walked.refused went.result.refusal) (λ e. cc))

pub returns-clause-walk : goal.returns-clause-walk
returns-clause-walk g c = λ disk observable.
    let first = c.args.mirror.now in
    let went = c.in_ok-walked.ensures.walked observable in
    walk-goes first.capacity first.base first.kept c.walk.new.self.kept (g.F.Fetch.state c.args.fetch.now)
    (g.F.Fetch.state c.walk.new.fetch) (Ok c.in_ok-walked.walked) went
    (g.D.Disk.state c.args.disk.now) (g.D.Disk.state c.walk.new.disk) (g.D.Disk.state c.end_at.new.disk) _ _
    c.begun_images_are_whole.ensures c.requires.loaded (c.in_ok-walked.ensures.moments disk observable) (λ e. absurd (cc))
    (over-ends went.ending _
    (refusal-over went.asked went.ending c.in_ok-walked.walked.refused went.result.refusal) (λ e. cc))
    (λ worked. ((c.in_ok-walked.ensures.sound worked).stands disk).payloads)
    (λ worked. (c.in_ok-walked.ensures.sound worked).rests disk) (c.in_ok-end_at.ensures.areas MirrorArea)

pub returns-clause-others : goal.returns-clause-others
returns-clause-others g c = λ a other.
    alone_joins _ (g.D.Disk.state c.walk.new.disk) _ a (c.walk.ensures.setting.others a other)
    (c.in_ok-end_at.ensures.areas a)
