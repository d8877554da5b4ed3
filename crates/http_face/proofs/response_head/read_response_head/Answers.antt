use Rattle.std.proofs.Common.{◌≡◌, length, take, refl, sym, ◌∙◌, subst, arith, length-take}
use Rattle.http_face.specs.Heard.{head_limit}
use Rattle.http_face.specs.Response.{HasNoResponseHead}
use Rattle.http_face.proofs.ResponseHeadLemmas.{no_response-nil, no_response-long}
use Rattle.http_face.proofs.ReadLemmas.{takes_none}
use Rattle.http_face.proofs.response_head.read_response_head.Goals as goal

pub loop-filled-init : goal.loop-filled-init
loop-filled-init g c = record {
  within = omega arith;
  none = no_response-nil;
  bytes = λ _. refl;
  most = λ _. takes_none _ _ refl;
  reads = record { sent = refl; begun = refl };
  faults = refl;
}

pub returns-in_err-spans-clause-bad : goal.returns-in_err-spans-clause-bad
returns-in_err-spans-clause-bad g c =
    let left = (g.C.Conn.state c.read_behind.new.conn).left in
    λ _ observable. subst HasNoResponseHead (sym (c.loop-filled.invariant.bytes observable ∙ c.in_ok-count.ensures.bytes observable))
    (c.in_err-spans.ensures.refused left)

pub returns-clause-bad : goal.returns-clause-bad
returns-clause-bad g c = λ _ observable.
    let bytes = take c.loop-filled.filled c.loop-filled.buffer in
    let left = (g.C.Conn.state c.loop-filled.conn).left in
    let long : length bytes ≡ head_limit =
    omega (
      arith,
      length-take c.loop-filled.filled c.loop-filled.buffer,
      c.loop-filled-test.false,
      c.loop-filled.auto.buffer,
      c.requires.room,
    ) in
    subst HasNoResponseHead (sym (c.loop-filled.invariant.bytes observable))
    (no_response-long bytes left long c.loop-filled.invariant.none)
