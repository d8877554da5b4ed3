use Rattle.std.proofs.Common.{◌≡◌, length, not, eqb, eq-eqb, eqb-true, refl, sym, ◌∙◌}
use Rattle.std.proofs.lemmas.Bool.{both_ways, not-true, not-false}
use Rattle.atom_values.specs.Space.{is_space}
use Rattle.xml_tokens.proofs.RunLemmas.{run_cut}
use Rattle.xml_tokens.proofs.cursor.Cursor.spaces.Goals as goal

pub returns : goal.returns
returns c =
    let spaces = c.take-spaces.result.now in
    let r =
    run_cut is_space (λ b. not (is_space b)) (λ b. refl) c.args.self.now.rest.now spaces c.take-spaces.new.self.rest.now
    c.end_of_spaces-end.result c.end_of_spaces-end.ensures c.take-spaces.ensures.split cc in
    let empty : c.is_empty.result ≡ eqb (length spaces) 0 = c.is_empty.ensures in
    record {
      spaces = spaces;
      split = c.take-spaces.ensures.split;
      are_spaces = r.0;
      longest = r.1;
      some = λ any none. both_ways c.is_empty.result (not-true c.is_empty.result any) (empty
          ∙ eq-eqb (length spaces) 0 none);
      none = λ any. eqb-true (length spaces) 0 (sym empty ∙ not-false c.is_empty.result any);
    }
