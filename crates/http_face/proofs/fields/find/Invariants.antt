use Rattle.std.proofs.Common.{◌≡◌, map, drop}
use Rattle.httparse.specs.Spans.{header_bytes}
use Rattle.http_face.specs.Heard.{values_of}
use Rattle.http_face.proofs.fields.find.Given as goal

abbrev pub invariant-loop-i : goal.invariant-loop-i
invariant-loop-i l =
    values_of l.name (map (header_bytes l.bytes) l.headers)
    ≡ values_of l.name (map (header_bytes l.bytes) (drop l.i l.headers))
