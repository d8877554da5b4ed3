use Rattle.std.proofs.Common.{◌≡◌, ℕ, Bool, true, false, ◌||◌, ◌==◌, not, refl}
use Rattle.atom_values.specs.Ascii.{ampersand, less_than}
use Rattle.xml_tokens.specs.Reading.{close_bracket, is_plain}
use Rattle.xml_tokens.proofs.RunLemmas.{run_cut}
use Rattle.xml_tokens.proofs.cursor.Cursor.plain.Goals as goal

twice : (b : Bool) → b ≡ not (not b)
twice true = refl
twice false = refl

pub returns : goal.returns
returns c =
    let run = c.take.result.now in
    let ends : ℕ → Bool = λ b. (b == less_than) || (b == ampersand) || (b == close_bracket) in
    let r = run_cut is_plain ends (λ b. twice (ends b)) c.args.self.now.rest.now run c.take.new.self.rest.now
    c.end_of_plain-end.result c.end_of_plain-end.ensures c.take.ensures.split cc in
    record { split = c.take.ensures.split; free = r.0; longest = r.1 }
