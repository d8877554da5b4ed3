use Rattle.std.proofs.Common.{◌++◌, List, ℕ, length, take, drop, ap, sym, ◌∙◌, arith, append_assoc, length-drop}
use Rattle.std.proofs.Math.Seq.{take-add}
use Rattle.std.proofs.lemmas.List.{length-take-le, take-append-drop}
use Rattle.http_face.proofs.write.write_all.Goals as goal

pub loop-written-preserved : goal.loop-written-preserved
loop-written-preserved g c =
    let bytes = c.args.bytes.now in
    let written = c.loop-written.written in
    let count = c.in-Ok.count in
    let before = (g.C.Conn.state c.args.conn.now).sent in
    let rest = c.split_at.ensures.back in
    record {
      within = omega (arith, c.in-Ok.ensures.within, ap length rest, length-drop written bytes);
      taken = λ observable.
          c.in-Ok.ensures.bytes observable
          ∙ ap (λ (x : List ℕ). (g.C.Conn.state c.loop-written.conn).sent ++ take count x) rest
          ∙ ap (λ (x : List ℕ). x ++ take count (drop written bytes)) (c.loop-written.invariant.taken observable)
          ∙ append_assoc before (take written bytes) (take count (drop written bytes))
          ∙ ap (λ (x : List ℕ). before ++ x) (sym (take-add written count bytes));
      writes = record {
        left = c.in-Ok.ensures.writes.left ∙ c.loop-written.invariant.writes.left;
        begun = c.in-Ok.ensures.writes.begun ∙ c.loop-written.invariant.writes.begun;
        bytes_read = c.in-Ok.ensures.writes.bytes_read ∙ c.loop-written.invariant.writes.bytes_read;
        reads = c.in-Ok.ensures.writes.reads ∙ c.loop-written.invariant.writes.reads;
        before_read = c.in-Ok.ensures.writes.before_read ∙ c.loop-written.invariant.writes.before_read;
      };
      faults = c.in-Ok.ensures.counts.worked ∙ c.loop-written.invariant.faults;
    }

pub returns-in-Err-clause-cut : goal.returns-in-Err-clause-cut
returns-in-Err-clause-cut g c =
    let bytes = c.args.bytes.now in
    let written = c.loop-written.written in
    record {
      front = take written bytes;
      back = drop written bytes;
      split = sym (take-append-drop written bytes);
      counted = omega (arith, length-take-le written bytes c.loop-written.invariant.within);
      taken = λ observable. c.in-Err.ensures.err observable ∙ c.loop-written.invariant.taken observable;
    }
