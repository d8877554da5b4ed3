use Rattle.coverage_auditor.specs.Links.{broken_chain, live_differs, not_the_first, oldest_of, version_differs}
use Rattle.coverage_auditor.proofs.CheckLemmas.{by-first-of, by-links-of, by-live-of, by-none-of, by-version-of}
use Rattle.coverage_auditor.proofs.CheckLemmas.{check-ends, check-halted}
use Rattle.coverage_auditor.proofs.auditor.check.Goals as goal

pub returns-in_err-check_version : goal.returns-in_err-check_version
returns-in_err-check_version c =
    let cert = c.args.certificate.now in
    let pile = c.args.pile.now in
    let whole = c.in_ok-chain.ensures in
    check-halted cert pile (version_differs cert whole.newest) c.in_err-check_version.field-0.0
    c.from_residual-in_err-check_version.result c.from_residual-in_err-check_version.ensures.1
    (c.in_err-check_version.ensures whole.newest whole.others whole.split)
    (by-version-of cert pile c.in_ok-chain.chain whole)

pub returns-in_err-check_links : goal.returns-in_err-check_links
returns-in_err-check_links c =
    let cert = c.args.certificate.now in
    let pile = c.args.pile.now in
    let whole = c.in_ok-chain.ensures in
    check-halted cert pile (broken_chain c.in_ok-chain.chain) c.in_err-check_links.field-0.0
    c.from_residual-in_err-check_links.result c.from_residual-in_err-check_links.ensures.1
    c.in_err-check_links.ensures
    (by-links-of cert pile c.in_ok-chain.chain whole
    (c.in_ok-check_version.ensures whole.newest whole.others whole.split))

pub returns-in_err-check_first : goal.returns-in_err-check_first
returns-in_err-check_first c =
    let cert = c.args.certificate.now in
    let pile = c.args.pile.now in
    let whole = c.in_ok-chain.ensures in
    check-halted cert pile (not_the_first (oldest_of whole.newest whole.others)) c.in_err-check_first.field-0.0
    c.from_residual-in_err-check_first.result c.from_residual-in_err-check_first.ensures.1
    (c.in_err-check_first.ensures whole.newest whole.others whole.split)
    (by-first-of cert pile c.in_ok-chain.chain whole
    (c.in_ok-check_version.ensures whole.newest whole.others whole.split) c.in_ok-check_links.ensures)

pub returns : goal.returns
returns c =
    let cert = c.args.certificate.now in
    let pile = c.args.pile.now in
    let whole = c.in_ok-chain.ensures in
    let documents = c.in_ok-chain.chain in
    let version = c.in_ok-check_version.ensures whole.newest whole.others whole.split in
    let first = c.in_ok-check_first.ensures whole.newest whole.others whole.split in
    check-ends cert pile (live_differs cert whole.newest documents) c.check_live.result
    (c.check_live.ensures whole.newest whole.others whole.split)
    (by-live-of cert pile documents whole version c.in_ok-check_links.ensures first)
    (by-none-of cert pile documents whole version c.in_ok-check_links.ensures first)
