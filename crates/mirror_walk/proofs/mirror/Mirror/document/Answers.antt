use Rattle.std.proofs.Common.{◌≡◌, Some, false, length, option_map, sym, subst, arith}
use Rattle.mirror_walk.specs.Holding.{text_at}
use Rattle.mirror_walk.specs.Mirror.{MirrorValue, StandsFor, is_spent}
use Rattle.mirror_walk.proofs.DocumentLemmas.{IsHeldAt, document-limit, document-long, document-read, place-held}
use Rattle.mirror_walk.proofs.DocumentLemmas.{served-at}
use Rattle.mirror_walk.proofs.VisitAnswerLemmas.{loaded-of}
use Rattle.mirror_walk.proofs.mirror.Mirror.document.Given.{Over}
use Rattle.mirror_walk.proofs.mirror.Mirror.document.Goals as goal
use Rattle.mirror_walk.proofs.mirror.Mirror.document.Goals.{In_ok-read}

-- the mirror before the call, by its fields
abbrev before : (g : Over) → In_ok-read g → MirrorValue
before g c = record {
  base = c.self.inside.documents.base;
  kept = c.self.inside.documents.kept;
  listed = c.self.inside.documents.listed;
  capacity = c.self.inside.capacity;
  log = c.self.inside.log;
}

unspent : (g : Over) (c : In_ok-read g) → is_spent (before g c) ≡ false
unspent g c = subst (λ (m : MirrorValue). is_spent m ≡ false) (sym c.self.view_is) c.requires.unspent

at : (g : Over) (c : In_ok-read g) → IsHeldAt (before g c).kept c.args.address c.in-Some.index
at g c = place-held (before g c).kept c.args.address c.in-Some.index c.in-Some.ensures

pub returns-clause-served : goal.returns-clause-served
returns-clause-served g c = λ tells head history served.
    let now = c.args.self.now in
    let s = g.D.Disk.state c.args.disk.now in
    let read = document-read (before g c) c.self.invariant (unspent g c) c.args.address c.in-Some.index (at g c) s
    c.self.inside.log.area c.self.invariant.area (subst (StandsFor s) (sym c.self.view_is) (c.requires.stands tells))
    c.in_ok-read.field-0.items (c.in_ok-read.ensures.payload tells) in
    served-at head history now.base now.kept (loaded-of _ now c.self.invariant c.self.view_is c.requires.unspent) served
    c.args.address c.in_ok-read.field-0.items
    (subst (λ (m : MirrorValue). text_at m.kept c.args.address ≡ Some c.in_ok-read.field-0.items) c.self.view_is
    (sym read))

pub returns-clause-length : goal.returns-clause-length
returns-clause-length g c =
    subst (λ (m : MirrorValue). Some (length c.in_ok-read.field-0.items)
    ≡ option_map length (text_at m.kept c.args.address)) c.self.view_is
    (document-long (before g c) c.self.invariant (unspent g c) c.args.address c.in-Some.index (at g c)
    c.in_ok-read.field-0.items c.in_ok-read.ensures.length)

pub returns-clause-limit : goal.returns-clause-limit
returns-clause-limit g c =
    let limit = document-limit (before g c) c.self.invariant (unspent g c) c.args.address c.in-Some.index (at g c)
    c.in_ok-read.field-0.items c.in_ok-read.ensures.length in
    omega (arith, limit, c.in_ok-read.field-0.ok)
