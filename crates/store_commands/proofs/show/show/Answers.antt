use Rattle.std.proofs.Common.{ℕ, ap, inr, arith}
use Rattle.command_ends.specs.declared.fault.Refusal.TheVariants.{BadDocument}
use Rattle.command_ends.specs.Fault.{refusal_answer}
use Rattle.store_commands.proofs.show.show.Goals as goal

pub returns-in-Err-NotADocument-clause-refused : goal.returns-in-Err-NotADocument-clause-refused
returns-in-Err-NotADocument-clause-refused g c = λ _ observable.
    let input = (g.I.Source.state c.args.input.now).left in
    let read = c.in_ok-reader.ensures.read observable in
    let refused = c.in-Err-NotADocument.ensures.refused input read c.in-Err-NotADocument.at cc in
    inr (inr (record {
      within = omega (arith, read.length, c.in_ok-reader.ensures.room);
      none = refused.0;
      offset = c.in-Err-NotADocument.at;
      place = refused.1;
      is = ap (λ (n : ℕ). refusal_answer (BadDocument n)) c.in-Err-NotADocument.at-is;
    }))
