use Rattle.std.proofs.Common.{sym, subst}
use Rattle.http_face.specs.declared.reply.Reply.{Reply}
use Rattle.http_face.specs.declared.request.Verb.{Verb}
use Rattle.document_server.specs.Answer.{ComesTo}
use Rattle.document_server.specs.Reply.{IsArchiveShownOver, IsOfArchiveOver, unchanged}
use Rattle.document_server.proofs.RowLemmas.{archive-refuses}
use Rattle.document_server.proofs.StepLemmas.{reads-none, replied-none, steps-none, worked}
use Rattle.document_server.proofs.dispatch.of_archive.Goals as goal

pub returns-in-Get-clause-answered : goal.returns-in-Get-clause-answered
returns-in-Get-clause-answered g c =
    subst (λ (v : Verb). ComesTo (IsOfArchiveOver g.D.Disk.observable c.args.store.now c.args.number v)
    c.args.store.now c.show_archive.new.store c.show_archive.result) (sym c.in-Get.is) c.show_archive.ensures.answered

pub returns-in_default : goal.returns-in_default
returns-in_default g c = record {
  answered = replied-none _ c.args.store.now _ (subst
      (λ (r : Reply). IsOfArchiveOver g.D.Disk.observable c.args.store.now c.args.number c.args.verb (unchanged r))
      (sym c.refused_method.ensures.reply)
      (archive-refuses (IsArchiveShownOver g.D.Disk.observable c.args.store.now c.args.number) c.args.store.now
      c.args.number c.args.verb c.in_default.not-Get));
  own = c.refused_method.ensures.refusal.own;
  steps = steps-none g.D.Disk.observable _ c.args.store.now _ (worked _ _) c.requires.unspent c.requires.stands;
  reads = reads-none _ c.args.store.now;
  undone = λ _. c.refused_method.ensures.refusal.undone;
}
