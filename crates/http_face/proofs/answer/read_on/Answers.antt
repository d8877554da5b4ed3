use Rattle.std.proofs.Common.{◌∙◌, arith, length-take}
use Rattle.http_face.proofs.ReadLemmas.{takes_more, takes_both}
use Rattle.http_face.proofs.answer.read_on.Goals as goal

pub returns-in_err-count-clause-most : goal.returns-in_err-count-clause-most
returns-in_err-count-clause-most g c = λ observable.
    takes_more _ _ _ _
    (omega (
      arith,
      length-take c.min-room.result c.loop-body.chunk,
      c.loop-body.invariant.within,
      c.loop-body-test.true,
    ))
    (takes_both _ _ _ _ _ (c.loop-body.invariant.most observable) (c.in_err-count.ensures.most observable))

pub loop-body-preserved : goal.loop-body-preserved
loop-body-preserved g c = record {
  within = omega (
    arith,
    length-take c.min-room.result c.loop-body.chunk,
    c.in_ok-count.ensures.within,
    c.in_ok-count.ensures.len,
    c.loop-body.invariant.within,
    c.loop-body-test.true,
  );
  bytes = λ observable. c.loop-body.invariant.bytes observable ∙ c.in_ok-count.ensures.bytes observable;
  most = λ observable. takes_more _ _ _ _ (omega (arith, c.in_ok-count.ensures.len))
      (takes_both _ _ _ _ _ (c.loop-body.invariant.most observable) (c.in_ok-count.ensures.read observable));
  reads = record {
    sent = c.in_ok-count.ensures.reads.sent ∙ c.loop-body.invariant.reads.sent;
    begun = c.in_ok-count.ensures.reads.begun ∙ c.loop-body.invariant.reads.begun;
  };
  faults = c.in_ok-count.ensures.unfailed (λ e. cc) ∙ c.loop-body.invariant.faults;
}
