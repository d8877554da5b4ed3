use Rattle.std.proofs.Common.{◌<◌, length, drop, arith}
use Rattle.http_face.specs.Heard.{field_limit}
use Rattle.http_face.proofs.HeadLemmas.{field_count}
use Rattle.http_face.proofs.ResponseHeadLemmas.{no_response-many, no_response-never}
use Rattle.http_face.proofs.response_head.parse.Goals as goal

pub returns-then-spans-gt-MAX_FIELDS-clause-refused : goal.returns-then-spans-gt-MAX_FIELDS-clause-refused
returns-then-spans-gt-MAX_FIELDS-clause-refused c = λ more.
    let bytes = c.args.bytes.now in
    let spans = c.in-Ok-Complete.spans in
    let found = rw c.in-Ok-Complete.field-0-is at c.in-Ok-Complete.ensures.complete in
    let within = rw c.in-Ok-Complete.field-0-is at c.in-Ok-Complete.ensures.within in
    let head = found.0 in
    let count = field_count bytes c.parse_response.new.headers spans.headers head.fields within.section.count_fits
    found.1.fields in
    let many : field_limit < length head.fields = omega (arith, count, c.if-spans-gt-MAX_FIELDS.true) in
    no_response-many bytes more (drop spans.len bytes) head found.1.reads many

pub returns-in_default-clause-refused : goal.returns-in_default-clause-refused
returns-in_default-clause-refused c = λ more.
    no_response-never c.args.bytes.now more (c.in-Err.ensures.invalid c.in_default.not-TooManyHeaders)
