use Rattle.std.proofs.Common.{ℕ, List, [], ◌∷◌, ◌++◌, sym, ap, subst, ◌∙◌}
use Rattle.std.specs.Prelude.{option_map}
use Rattle.feed_reader.specs.FeedDocument.{IsFeedRefusedAt, SpellsFeed}
use Rattle.foreign_mirror.specs.Steps.{Knows}
use Rattle.foreign_mirror.proofs.SoFarLemmas.{visit-read, visit-refused}
use Rattle.foreign_mirror.proofs.walk.Progress.visit.Goals as goal

pub returns-in_ok-take-in-Ok-clause-visited : goal.returns-in_ok-take-in-Ok-clause-visited
returns-in_ok-take-in-Ok-clause-visited g c = λ asked documents keeps.
    let before = g.F.Fetch.state c.args.fetch.now in
    let after = g.F.Fetch.state c.get.new.self in
    let address = c.args.address in
    visit-read g.F.Fetch.observable before after asked documents address c.in-Ok.document c.args.self.now
    c.mark.new.self c.take.new.self c.in_ok-take-in-Ok.field-0 keeps c.requires.few
    (subst (λ (l : List ℕ). Knows (asked ++ l ∷ []) c.mark.new.self) c.slice.ensures
    (c.in_ok-mark.ensures.knows asked keeps.knows))
    (c.in_ok-take-in-Ok.ensures documents (c.mark.ensures.taken documents keeps.taken))
    (λ sees. record {
      bytes = c.in-Some.bytes.items;
      there = ap before.answers (sym c.slice-2.ensures)
          ∙ sym (c.in_ok-bytes.ensures.answer sees)
          ∙ ap (option_map (λ b. b.items)) c.in-Some.is;
      spelled = subst (λ (b : List ℕ). SpellsFeed b address c.in-Ok.document) c.as_slice.ensures.value
          (subst (λ (a : List ℕ). SpellsFeed c.as_slice.result.now a c.in-Ok.document) c.slice-3.ensures
          c.in-Ok.ensures.found.1);
    })
    (λ sees. c.in_ok-bytes.ensures.asked (λ e. cc) sees
    ∙ ap (λ (l : List ℕ). before.asked ++ l ∷ []) c.slice-2.ensures)

pub returns-in-Err-clause-visited : goal.returns-in-Err-clause-visited
returns-in-Err-clause-visited g c = λ asked documents keeps.
    let before = g.F.Fetch.state c.args.fetch.now in
    let address = c.args.address in
    visit-refused g.F.Fetch.observable before (g.F.Fetch.state c.get.new.self) asked documents address
    c.in-Some.bytes.items c.mark.new.self c.in-Err.fault c.read_feed-read.result c.visit_refused.result
    c.visit_refused.ensures c.in-Err.is
    (λ at why is. subst (λ (b : List ℕ). IsFeedRefusedAt b address at why) c.as_slice.ensures.value
    (subst (λ (a : List ℕ). IsFeedRefusedAt c.as_slice.result.now a at why) c.slice-3.ensures
    (c.read_feed-read.ensures.refused at why is)))
    (c.mark.ensures.taken documents keeps.taken)
    (λ sees. ap before.answers (sym c.slice-2.ensures)
    ∙ sym (c.in_ok-bytes.ensures.answer sees)
    ∙ ap (option_map (λ b. b.items)) c.in-Some.is)
    (λ sees. c.in_ok-bytes.ensures.asked (λ e. cc) sees
    ∙ ap (λ (l : List ℕ). before.asked ++ l ∷ []) c.slice-2.ensures)
