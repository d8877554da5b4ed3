use Rattle.std.proofs.Common.{◌≡◌, ◌+◌, ◌<◌, length, refl, arith}
use Rattle.coverage_certificate.proofs.PartLemmas.{bad_ending, later_none, name_found, no_documents, same_fault, so_far}
use Rattle.coverage_certificate.proofs.ReadLemmas.{HasDocuments, bad_document, bad_feed, bad_head, bad_version, made_is, opened, whole_text}
use Rattle.coverage_certificate.proofs.read.read_lines.Goals as goal

pub returns-in_default : goal.returns-in_default
returns-in_default c = bad_head c.args.text.now (c.in_default.ensures.none refl)

pub returns-in_default-2 : goal.returns-in_default-2
returns-in_default-2 c =
    bad_feed c.args.text.now c.in-Some.rest.now c.in-Some.ensures.found (c.in_ok-named.ensures.none c.in_default-2.is)

pub returns-in_default-read_version : goal.returns-in_default-read_version
returns-in_default-read_version c =
    let named = c.in-Some-2.named in
    let name = name_found c.in-Some.rest.now c.in_ok-named.field-0 (named, c.in-Some-2.rest) c.in-Some-2.is
    c.in_ok-named.ensures.found in
    bad_version c.args.text.now c.in-Some.rest.now named.feed named.base c.in-Some-2.rest.now c.in-Some.ensures.found
    name.0 name.1 name.2 (c.in_default-read_version.ensures.none refl)

pub returns-then-len-eq0 : goal.returns-then-len-eq0
returns-then-len-eq0 c =
    let named = c.in-Some-2.named in
    let name = name_found c.in-Some.rest.now c.in_ok-named.field-0 (named, c.in-Some-2.rest) c.in-Some-2.is
    c.in_ok-named.ensures.found in
    let version = c.in-Some-read_version.ensures.found in
    let o = opened c.args.text.now c.in-Some.rest.now named.feed named.base c.in-Some-2.rest.now
    c.in-Some-read_version.version c.in-Some-read_version.rest.now c.in-Some.ensures.found name.0 name.1 name.2
    version.0 version.1 in
    let lines = c.in_ok-lines.lines.items in
    let none : length lines ≡ 0 = omega arith in
    bad_document c.args.text.now named.feed named.base c.in-Some-read_version.version c.in-Some-read_version.rest.now o
    (no_documents named.base lines c.in-Some-read_version.rest.now c.in_ok-lines.rest.now none
    c.in_ok-lines.ensures.split c.in_ok-lines.ensures.none)

pub returns-in_err-live : goal.returns-in_err-live
returns-in_err-live c =
    let named = c.in-Some-2.named in
    let name = name_found c.in-Some.rest.now c.in_ok-named.field-0 (named, c.in-Some-2.rest) c.in-Some-2.is
    c.in_ok-named.ensures.found in
    let version = c.in-Some-read_version.ensures.found in
    let o = opened c.args.text.now c.in-Some.rest.now named.feed named.base c.in-Some-2.rest.now
    c.in-Some-read_version.version c.in-Some-read_version.rest.now c.in-Some.ensures.found name.0 name.1 name.2
    version.0 version.1 in
    let lines = c.in_ok-lines.lines.items in
    let some : 0 < length lines = omega arith in
    let d : HasDocuments named.base lines c.in-Some-read_version.rest.now c.in_ok-lines.rest.now = record {
      are = record {
        placed = so_far lines some c.in_ok-lines.ensures.placed;
        few = c.in_ok-lines.ensures.few;
        digests = c.in_ok-lines.ensures.digests;
      };
      split = c.in_ok-lines.ensures.split;
    } in
    let none = later_none named.base lines c.in_ok-lines.rest.now some c.in_ok-lines.ensures.none in
    let bad = bad_ending c.args.text.now named.feed named.base c.in-Some-read_version.version lines
    c.in-Some-read_version.rest.now c.in_ok-lines.rest.now o d none (4 + c.len-2.result) (omega arith)
    c.in_err-live.field-0.0 c.in_err-live.ensures.refused in
    same_fault c.args.text.now c.from_residual-in_err-live.result c.in_err-live.field-0.0
    c.from_residual-in_err-live.ensures.1 bad

pub returns : goal.returns
returns c =
    let named = c.in-Some-2.named in
    let name = name_found c.in-Some.rest.now c.in_ok-named.field-0 (named, c.in-Some-2.rest) c.in-Some-2.is
    c.in_ok-named.ensures.found in
    let version = c.in-Some-read_version.ensures.found in
    let o = opened c.args.text.now c.in-Some.rest.now named.feed named.base c.in-Some-2.rest.now
    c.in-Some-read_version.version c.in-Some-read_version.rest.now c.in-Some.ensures.found name.0 name.1 name.2
    version.0 version.1 in
    let lines = c.in_ok-lines.lines.items in
    let some : 0 < length lines = omega arith in
    let d : HasDocuments named.base lines c.in-Some-read_version.rest.now c.in_ok-lines.rest.now = record {
      are = record {
        placed = so_far lines some c.in_ok-lines.ensures.placed;
        few = c.in_ok-lines.ensures.few;
        digests = c.in_ok-lines.ensures.digests;
      };
      split = c.in_ok-lines.ensures.split;
    } in
    let live = c.in_ok-live.ensures.found in (
      made_is named.feed named.base c.in-Some-read_version.version lines c.in_ok-live.live.count
          c.in_ok-live.live.digest o.parts d.are record { small = live.0; is_digest = live.1 },
      whole_text c.args.text.now named.feed named.base c.in-Some-read_version.version lines c.in_ok-live.live.count
          c.in_ok-live.live.digest c.in-Some-read_version.rest.now c.in_ok-lines.rest.now o d live.2,
    )
