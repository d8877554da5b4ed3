use Rattle.std.proofs.Common.{◌≡◌, ◌⊎◌, List, ℕ, Err, refl, ◌∙◌, ap, subst}
use Rattle.std.proofs.lemmas.Result.{err_from_is_err_and}
use Rattle.feed_disk.specs.declared.area.Area.TheVariants.{Journal, Sealed}
use Rattle.feed_disk.proofs.MomentLemmas.{alone_joins}
use Rattle.feed_journal.specs.declared.fault.LogFault.{LogFault}
use Rattle.store_scrub.specs.Scrub.{IsUnsound}
use Rattle.store_scrub.specs.declared.fault.Unsound.TheVariants.{NotInit, DiskFault, NoMemory}
use Rattle.store_scrub.proofs.ScrubLemmas.{err-weaker, refusal-look, refusal-none, sound_without}
use Rattle.store_scrub.proofs.sound.scrub.Goals as goal

pub returns-in_err-reader-clause-refusal : goal.returns-in_err-reader-clause-refusal
returns-in_err-reader-clause-refusal g c =
    let returned = err_from_is_err_and c.from_residual.result c.from_residual.ensures.1 in
    rw returned.1 (refusal-look c.in_err-reader.field-0.0 returned.0
    (λ index is. c.in_err-reader.ensures.unchanged index (ap (λ (f : LogFault). Err f) is)) returned.2)

pub returns-in_default-clause-refusal : goal.returns-in_default-clause-refusal
returns-in_default-clause-refusal g c = refusal-none NotInit refl

pub returns-in-Ok-clause-only : goal.returns-in-Ok-clause-only
returns-in-Ok-clause-only g c = λ tells operations seals sound.
    let s = g.D.Disk.state c.args.disk.now in
    let m = g.D.Disk.state c.look-2.new.disk in
    let journal = (c.look-2.ensures.areas Journal).content ∙ (c.look.ensures.areas Journal).content in
    let sealed = (c.look-2.ensures.areas Sealed).content ∙ (c.look.ensures.areas Sealed).content in
    err-weaker c.scrub_logs.result
    (λ fault. g.D.Disk.observable → IsUnsound (m.content Journal) (m.content Sealed) fault)
    (λ fault. (fault ≡ DiskFault) ⊎ (fault ≡ NoMemory))
    (λ fault why. sound_without (s.content Journal) (s.content Sealed) operations seals sound fault
    (subst (λ (l : List ℕ). IsUnsound l (s.content Sealed) fault) journal
    (subst (λ (l : List ℕ). IsUnsound (m.content Journal) l fault) sealed (why tells)))) c.scrub_logs.ensures.unsound

pub returns-in-Ok-clause-areas : goal.returns-in-Ok-clause-areas
returns-in-Ok-clause-areas g c = λ a.
    let s = g.D.Disk.state c.args.disk.now in
    let l = g.D.Disk.state c.look.new.disk in
    let m = g.D.Disk.state c.look-2.new.disk in
    alone_joins s m (g.D.Disk.state c.scrub_logs.new.disk) a
    (alone_joins s l m a (c.look.ensures.areas a) (c.look-2.ensures.areas a)) (c.scrub_logs.ensures.reads.areas a)

pub returns-in-Err-clause-areas : goal.returns-in-Err-clause-areas
returns-in-Err-clause-areas g c = λ a.
    alone_joins (g.D.Disk.state c.args.disk.now) (g.D.Disk.state c.look.new.disk) (g.D.Disk.state c.look-2.new.disk) a
    (c.look.ensures.areas a) (c.look-2.ensures.areas a)
