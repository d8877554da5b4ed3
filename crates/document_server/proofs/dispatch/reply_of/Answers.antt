use Rattle.std.proofs.Common.{inl, inr, refl, sym, ap, subst, ◌∙◌}
use Rattle.document_server.specs.Answer.{IsRefusal}
use Rattle.http_face.specs.Request.{RequestValue}
use Rattle.member_rules.specs.Head.{HeadValue}
use Rattle.document_server.specs.Reply.{shown_by, shown_over, unchanged}
use Rattle.document_server.proofs.RowLemmas.{comes-as, commits-as, not-found-refusal, of-archive, of-feed, of-member}
use Rattle.document_server.proofs.RowLemmas.{target-as}
use Rattle.document_server.proofs.StepLemmas.{reads-none, replied-none, steps-none, worked}
use Rattle.document_server.proofs.dispatch.reply_of.Goals as goal

pub returns-in-Other-clause-answered : goal.returns-in-Other-clause-answered
returns-in-Other-clause-answered g c =
    replied-none _ c.args.store.now _ (inl
    (ap (λ (r : RequestValue). r.verb) (sym c.request.view_is) ∙ c.in-Other.is, ap unchanged c.line.ensures))

pub returns-in-Feed-clause-answered : goal.returns-in-Feed-clause-answered
returns-in-Feed-clause-answered g c =
    comes-as _ _ (of-feed (shown_over g.D.Disk.observable c.args.store.now) c.args.store.now c.args.request.now c.args.now
    (λ e. c.in_default.not-Other (ap (λ (r : RequestValue). r.verb) c.request.view_is ∙ e))
    c.in-Some.address c.in-Some.ensures.found.0 (target-as _ _ _ _
    (ap (λ (h : HeadValue). h.name.base) (c.behind-store.view_is ∙ c.head.ensures))
    (c.slice.ensures ∙ ap (λ (r : RequestValue). r.target) c.request.view_is) c.in-Some.address
    c.in-Some.ensures.found.1) c.in-Feed.is) c.args.store.now c.of_feed.new.store c.of_feed.result
    c.of_feed.ensures.answered

pub returns-in-Feed-clause-leaves : goal.returns-in-Feed-clause-leaves
returns-in-Feed-clause-leaves g c =
    commits-as g.D.Disk.observable _ _ (of-feed (shown_by c.args.store.now) c.args.store.now c.args.request.now c.args.now
    (λ e. c.in_default.not-Other (ap (λ (r : RequestValue). r.verb) c.request.view_is ∙ e))
    c.in-Some.address c.in-Some.ensures.found.0 (target-as _ _ _ _
    (ap (λ (h : HeadValue). h.name.base) (c.behind-store.view_is ∙ c.head.ensures))
    (c.slice.ensures ∙ ap (λ (r : RequestValue). r.target) c.request.view_is) c.in-Some.address
    c.in-Some.ensures.found.1) c.in-Feed.is) _ _ c.args.store.now c.of_feed.new.store _
    c.of_feed.ensures.leaves

pub returns-in-Archive-clause-answered : goal.returns-in-Archive-clause-answered
returns-in-Archive-clause-answered g c =
    comes-as _ _ (of-archive (shown_over g.D.Disk.observable c.args.store.now) c.args.store.now c.args.request.now c.args.now
    (λ e. c.in_default.not-Other (ap (λ (r : RequestValue). r.verb) c.request.view_is ∙ e))
    c.in-Some.address c.in-Some.ensures.found.0 (target-as _ _ _ _
    (ap (λ (h : HeadValue). h.name.base) (c.behind-store.view_is ∙ c.head.ensures))
    (c.slice.ensures ∙ ap (λ (r : RequestValue). r.target) c.request.view_is) c.in-Some.address
    c.in-Some.ensures.found.1)
    c.in-Archive.number c.in-Archive.is _ (ap (λ (r : RequestValue). r.verb) c.request.view_is))
    c.args.store.now c.of_archive.new.store c.of_archive.result
    c.of_archive.ensures.answered

pub returns-in-Member-clause-answered : goal.returns-in-Member-clause-answered
returns-in-Member-clause-answered g c =
    comes-as _ _ (of-member (shown_over g.D.Disk.observable c.args.store.now) c.args.store.now c.args.request.now c.args.now
    (λ e. c.in_default.not-Other (ap (λ (r : RequestValue). r.verb) c.request.view_is ∙ e))
    c.in-Some.address c.in-Some.ensures.found.0 (target-as _ _ _ _
    (ap (λ (h : HeadValue). h.name.base) (c.behind-store.view_is ∙ c.head.ensures))
    (c.slice.ensures ∙ ap (λ (r : RequestValue). r.target) c.request.view_is) c.in-Some.address
    c.in-Some.ensures.found.1)
    c.in-Member.number c.in-Member.is) c.args.store.now c.of_member.new.store c.of_member.result
    c.of_member.ensures.answered

pub returns-in-Member-clause-leaves : goal.returns-in-Member-clause-leaves
returns-in-Member-clause-leaves g c =
    commits-as g.D.Disk.observable _ _ (of-member (shown_by c.args.store.now) c.args.store.now c.args.request.now c.args.now
    (λ e. c.in_default.not-Other (ap (λ (r : RequestValue). r.verb) c.request.view_is ∙ e))
    c.in-Some.address c.in-Some.ensures.found.0 (target-as _ _ _ _
    (ap (λ (h : HeadValue). h.name.base) (c.behind-store.view_is ∙ c.head.ensures))
    (c.slice.ensures ∙ ap (λ (r : RequestValue). r.target) c.request.view_is) c.in-Some.address
    c.in-Some.ensures.found.1)
    c.in-Member.number c.in-Member.is) _ _ c.args.store.now c.of_member.new.store _
    c.of_member.ensures.leaves

pub returns-in_default-read_target : goal.returns-in_default-read_target
returns-in_default-read_target g c =
    let missing = subst IsRefusal (sym c.line-in_default-read_target.ensures) not-found-refusal in
    record {
      answered = replied-none _ c.args.store.now _ (inr (
        (λ e. c.in_default.not-Other (ap (λ (r : RequestValue). r.verb) c.request.view_is ∙ e)),
        inl (
          (λ address rules target. c.in_default-read_target.not-Some address (c.read_target.ensures.only address rules
              (target-as _ _ _ _ (sym (ap (λ (h : HeadValue). h.name.base) (c.behind-store.view_is ∙ c.head.ensures)))
              (sym (c.slice.ensures ∙ ap (λ (r : RequestValue). r.target) c.request.view_is)) address target))),
          ap unchanged c.line-in_default-read_target.ensures,
        ),
      ));
      own = missing.own;
      steps = steps-none g.D.Disk.observable _ c.args.store.now _ (worked _ _) c.requires.unspent c.requires.stands;
      leaves = inl (reads-none _ c.args.store.now);
      grows = λ _ done. absurd (missing.undone done);
      same = λ _. refl;
    }
