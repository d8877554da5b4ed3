use Rattle.std.proofs.Common.{◌<◌, ◌≤◌, length, drop, refl, arith}
use Rattle.http_face.specs.Heard.{field_limit}
use Rattle.http_face.proofs.HeadLemmas.{no_head-many, many_fields, field_count, no_head-never, bad_head}
use Rattle.http_face.proofs.SettledLemmas.{few_fields, not_exceeds, unsettled}
use Rattle.http_face.proofs.head.parse_many.Goals as goal

pub returns-then-spans-gt-MAX_FIELDS-clause-refused : goal.returns-then-spans-gt-MAX_FIELDS-clause-refused
returns-then-spans-gt-MAX_FIELDS-clause-refused c = λ _ more.
    let bytes = c.args.bytes.now in
    let spans = c.in-Ok-Complete.spans in
    let found = rw c.in-Ok-Complete.field-0-is at c.in-Ok-Complete.ensures.complete in
    let within = rw c.in-Ok-Complete.field-0-is at c.in-Ok-Complete.ensures.within in
    let head = found.0 in
    let count = field_count bytes c.parse_request.new.headers spans.headers head.fields within.section.count_fits
    found.1.fields in
    let many : field_limit < length head.fields = omega (arith, count, c.if-spans-gt-MAX_FIELDS.true) in (
      no_head-many bytes more (drop spans.len bytes) head found.1.reads many,
      many_fields bytes more (drop spans.len bytes) head c.requires.short found.1.reads many,
    )

pub returns : goal.returns
returns c =
    let never = c.in-Err.ensures.invalid c.in_default.not-TooManyHeaders in
    record {
      none = record {};
      unsettled = record {};
      refused = λ _ more.
          (no_head-never c.args.bytes.now more never, bad_head c.args.bytes.now more c.requires.short never);
      only_errors = λ e. cc;
    }

pub returns-in-Ok-Complete-clause-unsettled : goal.returns-in-Ok-Complete-clause-unsettled
returns-in-Ok-Complete-clause-unsettled c = λ over short.
    let bytes = c.args.bytes.now in
    let spans = c.in-Ok-Complete.spans in
    let found = rw c.in-Ok-Complete.field-0-is at c.in-Ok-Complete.ensures.complete in
    let within = rw c.in-Ok-Complete.field-0-is at c.in-Ok-Complete.ensures.within in
    let head = found.0 in
    let count = field_count bytes c.parse_request.new.headers spans.headers head.fields within.section.count_fits
    found.1.fields in
    absurd (omega (
      arith,
      count,
      c.if-spans-gt-MAX_FIELDS.false,
      few_fields bytes (drop spans.len bytes) head field_limit over found.1.reads,
    ))

pub returns-in-Ok-Partial-clause-unsettled : goal.returns-in-Ok-Partial-clause-unsettled
returns-in-Ok-Partial-clause-unsettled c = λ over short.
    unsettled c.args.bytes.now short (rw c.in-Ok-Partial.field-0-is at c.in-Ok-Partial.ensures.partial)
    (rw c.in-Ok-Partial.field-0-is at c.in-Ok-Partial.ensures.unfinished)

pub returns-in-TooManyHeaders-clause-unsettled : goal.returns-in-TooManyHeaders-clause-unsettled
returns-in-TooManyHeaders-clause-unsettled c = λ over short.
    let wide : 5_461 ≤ length c.deref_mut.result.now =
    omega (arith, c.deref_mut.ensures.len, c.in_ok-headers.ensures.len) in
    absurd (not_exceeds c.args.bytes.now _ c.requires.short wide
    ((rw c.in-TooManyHeaders.is at c.in-Err.ensures.too_many) refl))
