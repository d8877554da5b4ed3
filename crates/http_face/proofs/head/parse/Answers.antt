use Rattle.std.proofs.Common.{◌<◌, length, drop, arith}
use Rattle.http_face.specs.Heard.{field_limit}
use Rattle.http_face.proofs.HeadLemmas.{no_head-many, many_fields, field_count, no_head-never, bad_head}
use Rattle.http_face.proofs.ReadLemmas.{if_ok_given}
use Rattle.http_face.proofs.SettledLemmas.{unsettled}
use Rattle.httparse.specs.Spans.{RequestOverflows}
use Rattle.http_face.proofs.head.parse.Goals as goal

pub returns-then-spans-gt-MAX_FIELDS-clause-refused : goal.returns-then-spans-gt-MAX_FIELDS-clause-refused
returns-then-spans-gt-MAX_FIELDS-clause-refused c = λ _ more.
    let bytes = c.args.bytes.now in
    let spans = c.in-Ok-Complete.spans in
    let found = rw c.in-Ok-Complete.field-0-is at c.in-Ok-Complete.ensures.complete in
    let within = rw c.in-Ok-Complete.field-0-is at c.in-Ok-Complete.ensures.within in
    let head = found.0 in
    let count = field_count bytes c.parse_request.new.headers spans.headers head.fields within.section.count_fits
    found.1.fields in
    let over = rw c.in-Ok-Complete.field-0-is at c.if-spans-gt-MAX_FIELDS.true in
    let many : field_limit < length head.fields = omega (arith, count, over) in (
      no_head-many bytes more (drop spans.len bytes) head found.1.reads many,
      many_fields bytes more (drop spans.len bytes) head c.requires.short found.1.reads many,
    )

pub returns-in_default-clause-refused : goal.returns-in_default-clause-refused
returns-in_default-clause-refused c = λ _ more.
    let never = c.in-Err.ensures.invalid c.in_default.not-TooManyHeaders in
    (no_head-never c.args.bytes.now more never, bad_head c.args.bytes.now more c.requires.short never)

pub returns-in-Ok-Partial-clause-unsettled : goal.returns-in-Ok-Partial-clause-unsettled
returns-in-Ok-Partial-clause-unsettled c = λ _ short.
    unsettled c.args.bytes.now short (rw c.in-Ok-Partial.field-0-is at c.in-Ok-Partial.ensures.partial)
    (rw c.in-Ok-Partial.field-0-is at c.in-Ok-Partial.ensures.unfinished)

pub returns-in-TooManyHeaders-clause-unsettled : goal.returns-in-TooManyHeaders-clause-unsettled
returns-in-TooManyHeaders-clause-unsettled c =
    let over : RequestOverflows field_limit c.args.bytes.now = λ more head rest reads.
    omega (arith, c.in-Err.ensures.no_room more head rest reads, c.requires.fields) in
    if_ok_given c.parse_many.result _ _ _ _ c.parse_many.ensures.unsettled over
