use Rattle.std.proofs.Common.{◌-◌, ◌∙◌, arith}
use Rattle.http_face.proofs.ReadLemmas.{takes_more, takes_both, rises_read, needs_read}
use Rattle.http_face.proofs.fill.fill_up.Goals as goal

pub loop-full-preserved : goal.loop-full-preserved
loop-full-preserved g c = record {
  within = omega (arith, c.in_ok-count.ensures.within, c.read_behind.auto.buffer);
  more = omega (arith, c.loop-full.invariant.more);
  bytes = λ observable. c.loop-full.invariant.bytes observable ∙ c.in_ok-count.ensures.bytes observable;
  most = λ observable. takes_more _ _ _ _ (omega (arith, c.loop-full.invariant.more))
      (takes_both _ _ _ _ _ (c.loop-full.invariant.most observable) (c.in_ok-count.ensures.most observable));
  read = rises_read (c.loop-full.full - c.args.filled) c.in_ok-count.count _ _ _ _
      (omega (arith, c.loop-full.invariant.more)) c.loop-full.invariant.read c.in_ok-count.ensures.read;
  needed = λ observable. let taken = c.loop-full.invariant.most observable in
      needs_read _ _ (g.C.Conn.state c.loop-full.conn) _ taken.read taken.from (c.read_behind.ensures.before observable)
      (omega (arith, taken.within, c.loop-full.invariant.more, c.loop-full-test.true, c.loop-full.auto.buffer));
  reads = record {
    sent = c.in_ok-count.ensures.reads.sent ∙ c.loop-full.invariant.reads.sent;
    begun = c.in_ok-count.ensures.reads.begun ∙ c.loop-full.invariant.reads.begun;
  };
  faults = c.in_ok-count.ensures.counts.worked ∙ c.loop-full.invariant.faults;
}
