use Rattle.std.proofs.Common.{◌≡◌, ℕ, ◌+◌, ◌≤◌, List, ◌++◌, length, take, inl, refl, sym, ◌∙◌, subst, arith, length-append, length-take}
use Rattle.std.proofs.lemmas.Result.{err_from_is_err_and}
use Rattle.http_face.specs.Heard.{HasNoHead, IsHeadFault, head_limit}
use Rattle.http_face.specs.declared.fault.RequestFault.TheVariants.{HeadTooLarge}
use Rattle.http_face.proofs.HeadLemmas.{err_same, no_head-nil, no_head-long}
use Rattle.http_face.proofs.ReadLemmas.{takes_none, takes_both, rises_none, rises_read, needs_nothing, needs_read}
use Rattle.http_face.proofs.SettledLemmas.{unsettled-nil}
use Rattle.http_face.proofs.head.read_head.Goals as goal

pub loop-filled-init : goal.loop-filled-init
loop-filled-init g c = record {
  within = omega arith;
  none = no_head-nil;
  unsettled = λ _. unsettled-nil;
  bytes = λ _. refl;
  most = λ _. takes_none _ _ refl;
  read = rises_none _ _ _ refl;
  needed = λ _. needs_nothing _ _ _ refl;
  reads = record { sent = refl; begun = refl };
  faults = refl;
}

pub returns-in_err-count-clause-needed : goal.returns-in_err-count-clause-needed
returns-in_err-count-clause-needed g c = λ observable.
    needs_read _ _ (g.C.Conn.state c.loop-filled.conn) _ _ (c.loop-filled.invariant.bytes observable)
    (c.read_behind.ensures.before observable) (c.loop-filled.invariant.unsettled c.loop-filled-test.true)

pub returns-then-count-eq0-clause-needed : goal.returns-then-count-eq0-clause-needed
returns-then-count-eq0-clause-needed g c = λ observable.
    needs_read _ _ (g.C.Conn.state c.loop-filled.conn) _ _ (c.loop-filled.invariant.bytes observable)
    (c.read_behind.ensures.before observable) (c.loop-filled.invariant.unsettled c.loop-filled-test.true)

pub returns-in_err-spans-clause-needed : goal.returns-in_err-spans-clause-needed
returns-in_err-spans-clause-needed g c = λ observable.
    needs_read _ _ (g.C.Conn.state c.loop-filled.conn) _ _ (c.loop-filled.invariant.bytes observable)
    (c.read_behind.ensures.before observable) (c.loop-filled.invariant.unsettled c.loop-filled-test.true)

pub returns-in-Some-clause-needed : goal.returns-in-Some-clause-needed
returns-in-Some-clause-needed g c = λ observable.
    needs_read _ _ (g.C.Conn.state c.loop-filled.conn) _ _ (c.loop-filled.invariant.bytes observable)
    (c.read_behind.ensures.before observable) (c.loop-filled.invariant.unsettled c.loop-filled-test.true)

pub loop-filled-preserved : goal.loop-filled-preserved
loop-filled-preserved g c =
    let filled = c.loop-filled.filled + c.in_ok-count.count in
    let before = c.loop-filled.invariant in
    record {
      within = omega (arith, c.in_ok-count.ensures.within, c.read_behind.auto.buffer);
      none = (rw c.in_default.is at c.in_ok-spans.ensures.unfinished) refl;
      unsettled = λ room. (rw c.in_default.is at c.in_ok-spans.ensures.unsettled) refl
          (omega (
            arith,
            room,
            length-take filled c.read_behind.new.buffer,
            c.read_behind.auto.buffer,
            c.loop-filled.auto.buffer,
            c.requires.room,
          ));
      bytes = λ observable. before.bytes observable ∙ c.in_ok-count.ensures.bytes observable;
      most = λ observable. takes_both _ _ _ _ _ (before.most observable) (c.in_ok-count.ensures.most observable);
      read = rises_read c.loop-filled.filled c.in_ok-count.count _ _ _ _ (omega arith) before.read
          c.in_ok-count.ensures.read;
      needed = λ observable.
          needs_read _ _ (g.C.Conn.state c.loop-filled.conn) _ _ (before.bytes observable) (c.read_behind.ensures.before observable)
          (before.unsettled c.loop-filled-test.true);
      reads = record {
        sent = c.in_ok-count.ensures.reads.sent ∙ before.reads.sent;
        begun = c.in_ok-count.ensures.reads.begun ∙ before.reads.begun;
      };
      faults = c.in_ok-count.ensures.counts.worked ∙ before.faults;
    }

pub returns-in_err-spans-clause-refused : goal.returns-in_err-spans-clause-refused
returns-in_err-spans-clause-refused g c =
    let p = err_from_is_err_and c.from_residual-in_err-spans.result c.from_residual-in_err-spans.ensures.1 in
    let left = (g.C.Conn.state c.read_behind.new.conn).left in
    rw (p.1, p.2) (λ _ memory observable.
    subst (λ (x : List ℕ). HasNoHead x × IsHeadFault x c.in_err-spans.field-0.0)
    (sym (c.loop-filled.invariant.bytes observable ∙ c.in_ok-count.ensures.bytes observable))
    (c.in_err-spans.ensures.refused memory left))

pub returns-in_err-spans-clause-failed : goal.returns-in_err-spans-clause-failed
returns-in_err-spans-clause-failed g c =
    let p = err_from_is_err_and c.from_residual-in_err-spans.result c.from_residual-in_err-spans.ensures.1 in
    rw (p.1, p.2) (λ same. absurd (c.in_err-spans.ensures.only_errors (err_same same)))

pub returns-clause-refused : goal.returns-clause-refused
returns-clause-refused g c = λ _ _ observable.
    let bytes = take c.loop-filled.filled c.loop-filled.buffer in
    let left = (g.C.Conn.state c.loop-filled.conn).left in
    let long : length bytes ≡ head_limit =
    omega (
      arith,
      length-take c.loop-filled.filled c.loop-filled.buffer,
      c.loop-filled-test.false,
      c.loop-filled.auto.buffer,
      c.requires.room,
    ) in
    let limit : head_limit ≤ length (bytes ++ left) = omega (arith, length-append bytes left, long) in
    subst (λ (x : List ℕ). HasNoHead x × IsHeadFault x HeadTooLarge) (sym (c.loop-filled.invariant.bytes observable))
    (no_head-long bytes left long c.loop-filled.invariant.none, inl limit)
