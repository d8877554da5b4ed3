use Rattle.std.proofs.Common.{inl, refl, sym, ap, subst, ◌∙◌}
use Rattle.http_face.specs.Request.{RequestValue}
use Rattle.http_face.specs.declared.request.Verb.TheVariants.{Get, Put, Delete}
use Rattle.http_face.specs.declared.reply.Reply.{Reply}
use Rattle.document_server.specs.Reply.{IsMemberShown, IsMemberShownOver, IsOfMemberOver, unchanged}
use Rattle.document_server.proofs.StepLemmas.{reads-none, replied-none, steps-none, worked}
use Rattle.document_server.proofs.RowLemmas.{comes-as, commits-as, member-refuses, member-verb}
use Rattle.document_server.proofs.dispatch.of_member.Goals as goal

pub returns-in-Get-clause-answered : goal.returns-in-Get-clause-answered
returns-in-Get-clause-answered g c =
    comes-as _ _ (member-verb (IsMemberShownOver g.D.Disk.observable c.args.store.now c.args.number)
    c.args.store.now c.args.request.now c.args.now c.args.number Get
    (ap (λ (r : RequestValue). r.verb) (sym c.request.view_is) ∙ c.in-Get.is))
    c.args.store.now c.show_member.new.store c.show_member.result c.show_member.ensures.answered

pub returns-in-Put-clause-answered : goal.returns-in-Put-clause-answered
returns-in-Put-clause-answered g c =
    comes-as _ _ (member-verb (IsMemberShownOver g.D.Disk.observable c.args.store.now c.args.number)
    c.args.store.now c.args.request.now c.args.now c.args.number Put
    (ap (λ (r : RequestValue). r.verb) (sym c.request.view_is) ∙ c.in-Put.is))
    c.args.store.now c.replace.new.store c.replace.result c.replace.ensures.answered

pub returns-in-Put-clause-leaves : goal.returns-in-Put-clause-leaves
returns-in-Put-clause-leaves g c =
    commits-as g.D.Disk.observable _ _ (member-verb (IsMemberShown c.args.store.now c.args.number)
    c.args.store.now c.args.request.now c.args.now c.args.number Put
    (ap (λ (r : RequestValue). r.verb) (sym c.request.view_is) ∙ c.in-Put.is))
    _ _ c.args.store.now c.replace.new.store _ c.replace.ensures.leaves

pub returns-in-Delete-clause-answered : goal.returns-in-Delete-clause-answered
returns-in-Delete-clause-answered g c =
    comes-as _ _ (member-verb (IsMemberShownOver g.D.Disk.observable c.args.store.now c.args.number)
    c.args.store.now c.args.request.now c.args.now c.args.number Delete
    (ap (λ (r : RequestValue). r.verb) (sym c.request.view_is) ∙ c.in-Delete.is))
    c.args.store.now c.delete.new.store c.delete.result c.delete.ensures.answered

pub returns-in-Delete-clause-leaves : goal.returns-in-Delete-clause-leaves
returns-in-Delete-clause-leaves g c =
    commits-as g.D.Disk.observable _ _ (member-verb (IsMemberShown c.args.store.now c.args.number)
    c.args.store.now c.args.request.now c.args.now c.args.number Delete
    (ap (λ (r : RequestValue). r.verb) (sym c.request.view_is) ∙ c.in-Delete.is))
    _ _ c.args.store.now c.delete.new.store _ c.delete.ensures.leaves

pub returns-in_default : goal.returns-in_default
returns-in_default g c =
    let verb = ap (λ (r : RequestValue). r.verb) c.request.view_is in
    let row = member-refuses (IsMemberShownOver g.D.Disk.observable c.args.store.now c.args.number) c.args.store.now
    c.args.request.now c.args.now c.args.number c.args.request.now.verb
    (λ e. c.in_default.not-Get (verb ∙ e)) (λ e. c.in_default.not-Put (verb ∙ e))
    (λ e. c.in_default.not-Delete (verb ∙ e)) in
    record {
      answered = replied-none _ c.args.store.now _ (subst
          (λ (r : Reply). IsOfMemberOver g.D.Disk.observable c.args.store.now c.args.request.now c.args.now c.args.number
          c.args.request.now.verb (unchanged r)) (sym c.refused_method.ensures.reply) row);
      own = c.refused_method.ensures.refusal.own;
      steps = steps-none g.D.Disk.observable _ c.args.store.now _ (worked _ _) c.requires.unspent c.requires.stands;
      leaves = inl (reads-none _ c.args.store.now);
      grows = λ _ done. absurd (c.refused_method.ensures.refusal.undone done);
      same = λ _. refl;
    }
