use Rattle.std.proofs.Common.{◌≡◌, ℤ, List, sym, ap, ◌∙◌, rules}
use Rattle.member_rules.specs.declared.operation.Op.{Op}
use Rattle.member_rules.specs.declared.ask.Ask.{Ask}
use Rattle.member_rules.specs.declared.ask.Ask.TheVariants.{Create, Replace, Delete, Change}
use Rattle.member_rules.specs.Decide.{decide}
use Rattle.member_rules.specs.Table.{IsTableOf}
use Rattle.member_rules.proofs.LawfulLemmas.{decided-follows, decided-lawful}
use Rattle.member_rules.proofs.decision.decide.Goals as goal

pub returns-in-Create : goal.returns-in-Create
returns-in-Create c =
    let is : c.args.ask ≡ Create c.in-Create.draft = search rules in
    let decision : (created : ℤ) (history : List Op) → IsTableOf c.args.members.now created history
    → c.create.result ≡ decide c.args.name.now created history c.args.ask c.args.now =
    λ created history of. c.create.ensures.decision created history of
    ∙ ap (λ (a : Ask). decide c.args.name.now created history a c.args.now) (sym is) in
    record {
      decision = decision;
      follows = decided-follows c.create.result c.args.name.now c.args.ask c.args.now c.args.members.now decision;
      lawful = decided-lawful c.create.result c.args.name.now c.args.ask c.args.now c.args.members.now c.requires
          decision c.create.ensures.entry;
    }

pub returns-in-Replace : goal.returns-in-Replace
returns-in-Replace c =
    let is : c.args.ask ≡ Replace c.in-Replace.number c.in-Replace.draft = search rules in
    let decision : (created : ℤ) (history : List Op) → IsTableOf c.args.members.now created history
    → c.replace.result ≡ decide c.args.name.now created history c.args.ask c.args.now =
    λ created history of. c.replace.ensures.decision created history of
    ∙ ap (λ (a : Ask). decide c.args.name.now created history a c.args.now) (sym is) in
    record {
      decision = decision;
      follows = decided-follows c.replace.result c.args.name.now c.args.ask c.args.now c.args.members.now decision;
      lawful = decided-lawful c.replace.result c.args.name.now c.args.ask c.args.now c.args.members.now c.requires
          decision c.replace.ensures.entry;
    }

pub returns-in-Delete : goal.returns-in-Delete
returns-in-Delete c =
    let is : c.args.ask ≡ Delete c.in-Delete.number = search rules in
    let decision : (created : ℤ) (history : List Op) → IsTableOf c.args.members.now created history
    → c.delete.result ≡ decide c.args.name.now created history c.args.ask c.args.now =
    λ created history of. c.delete.ensures.decision c.args.name.now created history of
    ∙ ap (λ (a : Ask). decide c.args.name.now created history a c.args.now) (sym is) in
    record {
      decision = decision;
      follows = decided-follows c.delete.result c.args.name.now c.args.ask c.args.now c.args.members.now decision;
      lawful = decided-lawful c.delete.result c.args.name.now c.args.ask c.args.now c.args.members.now c.requires
          decision c.delete.ensures.entry;
    }

pub returns-in-Change : goal.returns-in-Change
returns-in-Change c =
    let is : c.args.ask ≡ Change c.in-Change.setting = search rules in
    let decision : (created : ℤ) (history : List Op) → IsTableOf c.args.members.now created history
    → c.change.result ≡ decide c.args.name.now created history c.args.ask c.args.now =
    λ created history of. c.change.ensures.decision c.args.name.now created history of
    ∙ ap (λ (a : Ask). decide c.args.name.now created history a c.args.now) (sym is) in
    record {
      decision = decision;
      follows = decided-follows c.change.result c.args.name.now c.args.ask c.args.now c.args.members.now decision;
      lawful = decided-lawful c.change.result c.args.name.now c.args.ask c.args.now c.args.members.now c.requires
          decision c.change.ensures.entry;
    }
