use Rattle.std.proofs.Common.{◌≡◌, ◌≢◌, ◌⊎◌, ◌∙◌, ℕ, List, [], ◌∷◌, ◌++◌, Some, Err, Vec, Global, ap}
use Rattle.std.proofs.Common.{sym, subst, option_map, arith}
use Rattle.chain_links.specs.Address.{printed}
use Rattle.doc_source.specs.declared.fetch.GetFault.TheVariants.{NoMemory as NoGetMemory}
use Rattle.mirror_walk.specs.declared.answer.Offered.TheVariants.{DiskFault, NoMemory as OfferNoMemory}
use Rattle.mirror_walk.specs.declared.walk.WalkFault.TheVariants.{NoMemory}
use Rattle.mirror_walk.specs.Accept.{IsAnswerWithin, IsTakeable}
use Rattle.mirror_walk.specs.Mirror.{MirrorValue}
use Rattle.mirror_walk.specs.Visit.{VisitsByAnswer, get_fault}
use Rattle.mirror_walk.proofs.VisitAnswerLemmas.{asked-found, disk-visit, fails-unasked, fetch-fails, finds-none}
use Rattle.mirror_walk.proofs.VisitAnswerLemmas.{loaded-of, none-leaves, ok-works}
use Rattle.mirror_walk.proofs.VisitAnswerLemmas.{offer-leaves, offered-visit}
use Rattle.mirror_walk.proofs.PassedLemmas.{err-of}
use Rattle.mirror_walk.proofs.mirror.Mirror.visit.Goals as goal

pub returns-in_err-text-clause-visited : goal.returns-in_err-text-clause-visited
returns-in_err-text-clause-visited g c =
    let s = g.D.Disk.state c.args.disk.now in
    let source = g.F.Fetch.state c.args.fetch.now in
    subst (VisitsByAnswer g.D.Disk.observable g.F.Fetch.observable s s source source c.args.self.now c.args.address
    c.args.self.now.kept)
    (sym (err-of c.from_residual.result NoMemory c.from_residual.ensures.1))
    (fails-unasked g.D.Disk.observable g.F.Fetch.observable s source c.args.self.now c.args.address
    (λ answers observable rest. none-leaves c.begun_images_are_whole.ensures s c.args.self.now answers c.args.address
    (loaded-of _ c.args.self.now c.self.invariant c.self.view_is c.requires.unspent) (c.requires.stands observable) rest))

pub returns-in_err-bytes-clause-visited : goal.returns-in_err-bytes-clause-visited
returns-in_err-bytes-clause-visited g c =
    let s = g.D.Disk.state c.args.disk.now in
    let source = g.F.Fetch.state c.args.fetch.now in
    let later = g.F.Fetch.state c.get.new.self in
    let fault = c.in_err-bytes.field-0.0 in
    subst (VisitsByAnswer g.D.Disk.observable g.F.Fetch.observable s s source later c.args.self.now c.args.address
    c.args.self.now.kept)
    (sym (err-of c.from_residual-in_err-bytes.result (get_fault fault) c.from_residual-in_err-bytes.ensures.1))
    (fetch-fails g.D.Disk.observable g.F.Fetch.observable s source c.args.self.now c.args.address
    (λ answers observable rest. none-leaves c.begun_images_are_whole.ensures s c.args.self.now answers c.args.address
    (loaded-of _ c.args.self.now c.self.invariant c.self.view_is c.requires.unspent) (c.requires.stands observable) rest)
    later c.as_slice.result.now (grind arith) fault
    (λ other observable. c.get.ensures.asked
    (λ e. other (let is : Err fault ≡ Err NoGetMemory = sym c.in_err-bytes.was ∙ e in cc)) observable)
    (λ is observable. c.get.ensures.unasked (c.in_err-bytes.was ∙ ap Err is) observable))

pub returns-in_default-clause-visited : goal.returns-in_default-clause-visited
returns-in_default-clause-visited g c =
    let s = g.D.Disk.state c.args.disk.now in
    let source = g.F.Fetch.state c.args.fetch.now in
    let items = λ (bytes : Vec ℕ Global). bytes.items in
    finds-none g.D.Disk.observable g.F.Fetch.observable s source c.args.self.now c.args.address
    (λ answers observable rest. none-leaves c.begun_images_are_whole.ensures s c.args.self.now answers c.args.address
    (loaded-of _ c.args.self.now c.self.invariant c.self.view_is c.requires.unspent) (c.requires.stands observable) rest)
    (g.F.Fetch.state c.get.new.self) c.as_slice.result.now (grind arith)
    (λ observable. c.in_ok-bytes.ensures.asked (ok-works _ _) observable)
    (λ observable. sym (c.in_ok-bytes.ensures.answer observable) ∙ ap (option_map items) c.in_default.is)

pub returns-clause-sound : goal.returns-clause-sound
returns-clause-sound g c = λ works.
    let answers : c.offer.result ≢ Err DiskFault =
    λ e. works (c.visit_by.ensures ∙ disk-visit c.offer.result e) in c.offer.ensures.sound answers

pub returns-clause-visited : goal.returns-clause-visited
returns-clause-visited g c =
    let s = g.D.Disk.state c.args.disk.now in
    let t = g.D.Disk.state c.offer.new.disk in
    let source = g.F.Fetch.state c.args.fetch.now in
    let mirror = c.args.self.now in
    let there = c.as_slice-2.result.now in
    let bytes = c.as_slice-3.result.now in
    let is : there ≡ printed mirror.base c.args.address = grind arith in
    let items = λ (bytes : Vec ℕ Global). bytes.items in
    let text : c.as_slice.result.now ≡ printed mirror.base c.args.address = grind arith in
    subst (VisitsByAnswer g.D.Disk.observable g.F.Fetch.observable s t source (g.F.Fetch.state c.get.new.self) mirror
    c.args.address c.offer.new.self.kept) (sym c.visit_by.ensures) record {
      found = Some bytes;
      found_is = λ observable. ap (λ (l : List ℕ). Some l) c.as_slice-3.ensures.value
          ∙ sym (ap (option_map items) c.in-Some.is) ∙ c.in_ok-bytes.ensures.answer observable ∙ ap source.answers text;
      visit = offered-visit mirror c.args.address bytes c.offer.new.self.kept c.offer.result
          (subst (λ (l : List ℕ). (c.offer.result ≡ Err OfferNoMemory) ⊎ (c.offer.result ≡ Err DiskFault)
          ⊎ IsAnswerWithin mirror.capacity mirror.base mirror.kept l bytes c.offer.result c.offer.new.self.kept) is
          c.offer.ensures.answer)
          (λ failed. subst (λ (l : List ℕ). IsTakeable mirror.capacity mirror.base mirror.kept l bytes) is
          (c.offer.ensures.failed_taking failed))
          (λ other other'. ap (λ (m : MirrorValue). m.kept) (c.offer.ensures.unchanged other other').0);
      texts = printed mirror.base c.args.address ∷ [];
      texts_are = λ observable. c.in_ok-bytes.ensures.asked (ok-works _ _) observable
          ∙ ap (λ (l : List ℕ). source.asked ++ l ∷ []) text;
      asked = asked-found (printed mirror.base c.args.address) c.offer.result;
      moments = λ observable rest. offer-leaves s t mirror c.args.address there bytes is (c.offer.ensures.moments observable rest);
    }
