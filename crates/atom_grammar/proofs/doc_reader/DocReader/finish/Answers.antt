use Rattle.std.proofs.Common.{sym, ap, ◌∙◌, refl, Err}
use Rattle.atom_grammar.specs.Progress.{ReaderValue}
use Rattle.atom_grammar.proofs.ProgressLemmas.{kept, kept_only, kept_refusal}
use Rattle.atom_grammar.proofs.doc_reader.DocReader.finish.Goals as goal

pub returns-in-Some-clause-only : goal.returns-in-Some-clause-only
returns-in-Some-clause-only c = λ bytes read d is e.
    let fault = c.in-Some.fault in
    let refused = sym (ap (λ (r : ReaderValue). r.refusal) c.self.view_is) ∙ c.in-Some.is in
    kept_only bytes fault (kept c.args.self bytes fault read refused) d is e (Err fault) refl

pub returns-in-Some-clause-refused : goal.returns-in-Some-clause-refused
returns-in-Some-clause-refused c = λ bytes read at e.
    let fault = c.in-Some.fault in
    let refused = sym (ap (λ (r : ReaderValue). r.refusal) c.self.view_is) ∙ c.in-Some.is in
    kept_refusal bytes fault (kept c.args.self bytes fault read refused) at (Err fault) refl e
