use Rattle.std.proofs.Common.{[], ◌∷◌, refl, sym, not}
use Rattle.xml_tokens.specs.Characters.{continues_name}
use Rattle.xml_tokens.specs.Reading.{whole_name}
use Rattle.xml_tokens.proofs.PartLemmas.{ended_reads}
use Rattle.xml_tokens.proofs.RunLemmas.{run_cut}
use Rattle.xml_tokens.proofs.CursorLemmas.{no_first, first_is, name_from, name_some}
use Rattle.xml_tokens.proofs.cursor.Cursor.name.Goals as goal

pub returns-in-None : goal.returns-in-None
returns-in-None c =
    ended_reads {P = whole_name} (λ v rest is. name_some v is.1 (sym is.0))
    (95 ∷ [], (95 ∷ [], [], record { front = 95 ∷ []; split = refl; spelled = (refl, refl, refl) }))
    c.args.self.now.rest.now (no_first c.args.self.now.rest.now c.in-None.ensures.value) c.args.self.now.rest.now

pub returns : goal.returns
returns c =
    let text = c.args.self.now.rest.now in
    let first = first_is text c.in-Some.first.now c.in-Some.ensures.value in
    let r =
    run_cut continues_name (λ b. not (continues_name b)) (λ b. refl) text c.take.result.now c.take.new.self.rest.now
    c.end_of_name-end.result c.end_of_name-end.ensures c.take.ensures.split cc in
    record {
      front = c.take.result.now;
      split = c.take.ensures.split;
      spelled = (
        refl,
        name_from text c.take.result.now c.take.new.self.rest.now first.0 c.in-Some.first.now
            (sym c.if-not-begins_name.ensures) first.1
            c.take.ensures.split r.0 r.1,
        r.1,
      );
    }
