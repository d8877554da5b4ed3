use Rattle.std.proofs.Common.{◌≡◌, List, ℕ, Some, refl, sym, ap, ◌∙◌}
use Rattle.std.specs.Prelude.{option_copied, option_map}
use Rattle.std.proofs.lemmas.Option.{same_Some}
use Rattle.atom_writer.specs.declared.doc.FeedName.{FeedName}
use Rattle.feed_journal.specs.declared.fault.LogFault.TheVariants.{DiskFault}
use Rattle.mirror_walk.specs.Held.{IsHeldDoc}
use Rattle.mirror_walk.specs.Holding.{KeptValue, best_of, name_of_best, payloads_of}
use Rattle.mirror_walk.proofs.FoundLemmas.{best_of-holds}
use Rattle.mirror_walk.proofs.HeldLemmas.{loaded-held}
use Rattle.mirror_walk.proofs.OutcomeLemmas.{best-of_whole}
use Rattle.mirror_walk.proofs.PassedLemmas.{counts-passed}
use Rattle.mirror_walk.proofs.RereadLemmas.{read-passed}
use Rattle.coverage_certificate.specs.Held.{with_digest}
use Rattle.coverage_certificate.specs.Live.{live_digest_of}
use Rattle.coverage_certificate.proofs.HeldLemmas.{entries-are, held_made}
use Rattle.coverage_certificate.proofs.SameLemmas.{made}
use Rattle.coverage_certificate.proofs.ServedLemmas.{made-served}
use Rattle.coverage_certificate.proofs.certificate.Certificate.of.Goals as goal

pub returns-clause-certificate : goal.returns-clause-certificate
returns-clause-certificate g c = λ observable.
    let kept = c.args.mirror.now.kept in
    let name = c.in_ok-name.name in
    let place = c.unwrap-best.result in
    let live = c.in_ok-live.live in
    let lines = c.in_ok-lines.lines.items in
    let named : name_of_best kept ≡ Some name = sym c.name.ensures ∙ ap option_copied c.unwrap.ensures
    ∙ ap (λ (n : FeedName). Some n) (sym c.in_ok-name.ensures.same) in
    held_made name.base kept (best_of kept) refl place name lines live.count live.digest
    (sym c.best.ensures ∙ c.unwrap-best.ensures) named c.in_ok-lines.ensures.lines c.in_ok-live.ensures.count
    ∙ ap (λ (d : List ℕ). Some (made name.id name.base place.span.last lines live.count d))
    (sym (c.in_ok-live.ensures.digest observable ∙ ap (live_digest_of name) (entries-are kept)))

pub returns-clause-parts : goal.returns-clause-parts
returns-clause-parts g c =
    let kept = c.args.mirror.now.kept in
    let name = c.in_ok-name.name in
    let live = c.in_ok-live.live in
    let named : name_of_best kept ≡ Some name = sym c.name.ensures ∙ ap option_copied c.unwrap.ensures
    ∙ ap (λ (n : FeedName). Some n) (sym c.in_ok-name.ensures.same) in
    ap (option_map (with_digest live.digest))
    (held_made name.base kept (best_of kept) refl c.unwrap-best.result name c.in_ok-lines.lines.items live.count
    live.digest (sym c.best.ensures ∙ c.unwrap-best.ensures) named c.in_ok-lines.ensures.lines
    c.in_ok-live.ensures.count)

pub returns-clause-base : goal.returns-clause-base
returns-clause-base g c =
    let named : name_of_best c.args.mirror.now.kept ≡ Some c.in_ok-name.name = sym c.name.ensures
    ∙ ap option_copied c.unwrap.ensures ∙ ap (λ (n : FeedName). Some n) (sym c.in_ok-name.ensures.same) in
    ap (option_map (λ (n : FeedName). n.base)) named

pub returns-clause-served : goal.returns-clause-served
returns-clause-served g c = λ observable head history same served.
    let mirror = c.args.mirror.now in
    let kept = mirror.kept in
    let loaded = c.in_ok-live.ensures.loaded in
    let whole = c.in_ok-live.ensures.whole in
    let found = best-of_whole kept whole in
    let held = loaded-held mirror.base (payloads_of kept) kept loaded in
    let is = best_of-holds (IsHeldDoc mirror.base) kept found.0 held.each found.1 in
    let named : name_of_best kept ≡ Some c.in_ok-name.name = sym c.name.ensures ∙ ap option_copied c.unwrap.ensures
    ∙ ap (λ (n : FeedName). Some n) (sym c.in_ok-name.ensures.same) in
    let name = same_Some found.0.document.name c.in_ok-name.name
    (sym (ap (option_map (λ (k : KeptValue). k.document.name)) found.1) ∙ named) in
    made-served mirror.base (payloads_of kept) kept loaded whole head history same served _
    (returns-clause-certificate g c observable)
    (sym (ap (λ (n : FeedName). n.base) name) ∙ is.0.base_is)

pub returns-in_err-live-clause-mirror : goal.returns-in_err-live-clause-mirror
returns-in_err-live-clause-mirror g c =
    read-passed g.D.Disk.observable (g.D.Disk.state c.digest_live.new.disk) c.args.mirror.now
    c.digest_live.new.mirror c.from_residual-in_err-live.result c.in_err-live.field-0.0
    c.from_residual-in_err-live.ensures.1 c.in_err-live.ensures.mirror

pub returns-in_err-live-clause-faults : goal.returns-in_err-live-clause-faults
returns-in_err-live-clause-faults g c =
    counts-passed _ _ c.from_residual-in_err-live.result c.in_err-live.field-0.0 DiskFault
    c.from_residual-in_err-live.ensures.1 c.in_err-live.ensures.faults
