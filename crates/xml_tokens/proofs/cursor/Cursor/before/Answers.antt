use Rattle.std.proofs.Common.{◌≡◌, Bool, true, false, not, ◌==◌, ◌||◌, refl}
use Rattle.xml_tokens.proofs.RunLemmas.{run_cut}
use Rattle.xml_tokens.proofs.cursor.Cursor.before.Goals as goal

twice : (b : Bool) → b ≡ not (not b)
twice true = refl
twice false = refl

pub returns : goal.returns
returns c =
    let r =
    run_cut (λ b. not ((b == c.args.one) || (b == c.args.other))) (λ b. (b == c.args.one) || (b == c.args.other))
    (λ b. twice ((b == c.args.one) || (b == c.args.other))) c.args.self.now.rest.now c.take.result.now
    c.take.new.self.rest.now c.first_of-end.result c.first_of-end.ensures c.take.ensures.split cc in
    record { split = c.take.ensures.split; free = r.0; longest = r.1 }
