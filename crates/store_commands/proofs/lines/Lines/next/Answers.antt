use Rattle.std.proofs.Common.{ap, arith}
use Rattle.std.proofs.lemmas.Result.{err_from_is_err_and}
use Rattle.store_commands.specs.Lines.{LinesState, TakesEnd, TakesAll}
use Rattle.store_commands.proofs.LinesLemmas.{
  GoesOn-begin,
  GoesOn-taken,
  GoesOn-filled,
  FindsLine-ended,
  FindsLine-last,
  IsTooLong-met,
  StopsAmid-met,
  some_from_test,
}
use Rattle.store_commands.proofs.lines.Lines.next.Goals as goal

pub loop-self-init : goal.loop-self-init
loop-self-init g c = record {
  goes_on = GoesOn-begin c.clear_line.ensures c.requires;
  read =
      let same = ap (λ (l : LinesState). l.allowed) c.clear_line.ensures in
      record { fewer = omega (arith, same); read = omega (arith, same) };
}

pub returns-then-branch-clause-found : goal.returns-then-branch-clause-found
returns-then-branch-clause-found g c = λ _ k.
    let t : TakesEnd c.loop-self.self c.take_line.new.self = c.in_ok-take_line.ensures.ended (cc) in
    FindsLine-ended c.loop-self.invariant.goes_on t c.in_ok-take_line.ensures.allowed k

pub returns-in_err-fill-clause-too_long : goal.returns-in_err-fill-clause-too_long
returns-in_err-fill-clause-too_long g c = λ e k.
    let t : TakesAll c.loop-self.self c.take_line.new.self = c.in_ok-take_line.ensures.all (cc) in
    let p = err_from_is_err_and c.from_residual-in_err-fill.result c.from_residual-in_err-fill.ensures.1 in
    let l = c.in_err-fill.ensures.too_long (cc (p.1, p.2)) in
    IsTooLong-met (GoesOn-taken c.loop-self.invariant.goes_on t c.in_ok-take_line.ensures.allowed
    c.in_ok-take_line.ensures.end) t.spent l.0 (l.1 k) k

pub returns-in_err-fill-clause-amid : goal.returns-in_err-fill-clause-amid
returns-in_err-fill-clause-amid g c = λ e k.
    let t : TakesAll c.loop-self.self c.take_line.new.self = c.in_ok-take_line.ensures.all (cc) in
    let p = err_from_is_err_and c.from_residual-in_err-fill.result c.from_residual-in_err-fill.ensures.1 in
    let l = c.in_err-fill.ensures.amid (cc (p.1, p.2)) in
    StopsAmid-met (GoesOn-taken c.loop-self.invariant.goes_on t c.in_ok-take_line.ensures.allowed
    c.in_ok-take_line.ensures.end) t.spent l.0 (l.1 k) k

pub returns-then-not-branch-clause-found : goal.returns-then-not-branch-clause-found
returns-then-not-branch-clause-found g c = λ e k.
    let t : TakesAll c.loop-self.self c.take_line.new.self = c.in_ok-take_line.ensures.all (cc) in
    let s = c.in_ok-fill.ensures.end (cc) k in
    FindsLine-last (GoesOn-taken c.loop-self.invariant.goes_on t c.in_ok-take_line.ensures.allowed
    c.in_ok-take_line.ensures.end) t.spent c.in_ok-fill.ensures.line s
    (some_from_test c.fill.new.self.line c.line.result.now c.is_empty.result c.line.ensures c.is_empty.ensures
    (cc)) k

pub loop-self-preserved : goal.loop-self-preserved
loop-self-preserved g c =
    let t : TakesAll c.loop-self.self c.take_line.new.self = c.in_ok-take_line.ensures.all (cc) in
    let m = c.in_ok-fill.ensures.more (cc) in
    let was = c.loop-self.invariant.read in
    let now = c.in_ok-fill.ensures.read in
    let kept = c.in_ok-take_line.ensures.allowed in
    record {
      goes_on = GoesOn-filled (GoesOn-taken c.loop-self.invariant.goes_on t kept c.in_ok-take_line.ensures.end) t.spent
          c.in_ok-fill.ensures.line m (c.in_ok-fill.ensures.bytes (cc)) c.in_ok-fill.ensures.knows
          (c.in_ok-fill.ensures.input_faults.unfailed (λ e. cc));
      read = record {
        fewer = omega (arith, was.fewer, now.fewer, kept);
        read = omega (arith, was.fewer, was.read, now.fewer, now.read, kept);
      };
    }
