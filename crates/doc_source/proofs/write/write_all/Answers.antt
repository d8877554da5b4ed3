use Rattle.std.proofs.Common.{◌++◌, List, ℕ, length, take, drop, ap, sym, ◌∙◌, arith, append_assoc, length-drop}
use Rattle.std.proofs.Math.Seq.{take-add}
use Rattle.doc_source.proofs.write.write_all.Goals as goal

pub loop-sent-preserved : goal.loop-sent-preserved
loop-sent-preserved g c =
    let bytes = c.args.bytes.now in
    let sent = c.loop-sent.sent in
    let count = c.in_ok-sent.field-0 in
    let before = (g.K.Sink.state c.args.sink.now).taken in
    let rest = c.split_at.ensures.back in
    record {
      within = omega (arith, c.in_ok-sent.ensures.within, ap length rest, length-drop sent bytes);
      taken = λ observable.
          c.in_ok-sent.ensures.bytes observable
          ∙ ap (λ (x : List ℕ). (g.K.Sink.state c.loop-sent.sink).taken ++ take count x) rest
          ∙ ap (λ (x : List ℕ). x ++ take count (drop sent bytes)) (c.loop-sent.invariant.taken observable)
          ∙ append_assoc before (take sent bytes) (take count (drop sent bytes))
          ∙ ap (λ (x : List ℕ). before ++ x) (sym (take-add sent count bytes));
      faults = c.in_ok-sent.ensures.counts.worked ∙ c.loop-sent.invariant.faults;
    }

pub returns-clause-counts : goal.returns-clause-counts
returns-clause-counts g c = record {
  later = omega (arith, c.loop-sent.invariant.faults);
  failed = tt;
  worked = c.loop-sent.invariant.faults;
}
