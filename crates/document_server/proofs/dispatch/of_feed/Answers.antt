use Rattle.std.proofs.Common.{inl, refl, sym, ap, subst, ◌∙◌}
use Rattle.http_face.specs.Request.{RequestValue}
use Rattle.http_face.specs.declared.request.Verb.TheVariants.{Get, Post}
use Rattle.http_face.specs.declared.reply.Reply.{Reply}
use Rattle.document_server.specs.Reply.{IsOfFeed, unchanged}
use Rattle.document_server.proofs.StepLemmas.{reads-none, replied-none, steps-none, worked}
use Rattle.document_server.proofs.RowLemmas.{comes-as, commits-as, feed-refuses, feed-verb}
use Rattle.document_server.proofs.dispatch.of_feed.Goals as goal

pub returns-in-Get-clause-answered : goal.returns-in-Get-clause-answered
returns-in-Get-clause-answered g c =
    comes-as _ _ (feed-verb c.args.store.now c.args.request.now c.args.now Get
    (ap (λ (r : RequestValue). r.verb) (sym c.request.view_is) ∙ c.in-Get.is))
    c.args.store.now c.show_feed.new.store c.show_feed.result (c.show_feed.ensures.answered)

pub returns-in-Post-clause-answered : goal.returns-in-Post-clause-answered
returns-in-Post-clause-answered g c =
    comes-as _ _ (feed-verb c.args.store.now c.args.request.now c.args.now Post
    (ap (λ (r : RequestValue). r.verb) (sym c.request.view_is) ∙ c.in-Post.is))
    c.args.store.now c.create.new.store c.create.result c.create.ensures.answered

pub returns-in-Post-clause-leaves : goal.returns-in-Post-clause-leaves
returns-in-Post-clause-leaves g c =
    commits-as g.D.Disk.observable _ _ (feed-verb c.args.store.now c.args.request.now c.args.now Post
    (ap (λ (r : RequestValue). r.verb) (sym c.request.view_is) ∙ c.in-Post.is))
    _ _ c.args.store.now c.create.new.store _ c.create.ensures.leaves

pub returns-in_default : goal.returns-in_default
returns-in_default g c =
    let verb = ap (λ (r : RequestValue). r.verb) c.request.view_is in
    let row = feed-refuses c.args.store.now c.args.request.now c.args.now c.args.request.now.verb
    (λ e. c.in_default.not-Get (verb ∙ e)) (λ e. c.in_default.not-Post (verb ∙ e)) in
    record {
      answered = replied-none _ c.args.store.now _ (subst
          (λ (r : Reply). IsOfFeed c.args.store.now c.args.request.now c.args.now c.args.request.now.verb
          (unchanged r)) (sym c.refused_method.ensures.reply) row);
      own = c.refused_method.ensures.refusal.own;
      steps = steps-none g.D.Disk.observable _ c.args.store.now _ (worked _ _) c.requires.unspent c.requires.stands;
      leaves = inl (reads-none _ c.args.store.now);
      grows = λ _ done. absurd (c.refused_method.ensures.refusal.undone done);
      same = λ _. refl;
    }
