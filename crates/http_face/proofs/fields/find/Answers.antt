use Rattle.std.proofs.Common.{ℕ, ◌+◌, ◌-◌, List, ◌∷◌, length, drop, map, refl, ap, sym, ◌∙◌, arith, length-drop}
use Rattle.std.proofs.lemmas.List.{take_all}
use Rattle.httparse.specs.declared.spans.HeaderSpan.{HeaderSpan}
use Rattle.httparse.specs.Spans.{header_bytes}
use Rattle.http_face.specs.Heard.{values_of}
use Rattle.http_face.proofs.FieldLemmas.{values-here, values-there}
use Rattle.http_face.proofs.fields.find.Goals as goal

pub returns-then-is_named-clause-found : goal.returns-then-is_named-clause-found
returns-then-is_named-clause-found c =
    let name = c.args.name.now in
    let bytes = c.args.bytes.now in
    let headers = c.args.headers.now in
    let i = c.loop-i.i in
    let all = take_all (length headers - (i + 1)) (drop (i + 1) headers) (omega (arith, length-drop (i + 1) headers)) in
    c.loop-i.invariant
    ∙ values-here name bytes c.of.result.now headers i _ c.loop-i-test.true c.of.ensures
    (c.if-is_named.ensures.0 refl)
    ∙ ap (λ (x : List ℕ). x ∷ values_of name (map (header_bytes bytes) (drop (i + 1) headers)))
    (sym c.of-then-is_named.ensures)
    ∙ ap (λ (hs : List HeaderSpan). c.of-then-is_named.result.now ∷ values_of name (map (header_bytes bytes) hs))
    (sym all)

pub loop-i-preserved : goal.loop-i-preserved
loop-i-preserved c =
    c.loop-i.invariant
    ∙ values-there c.args.name.now c.args.bytes.now c.of.result.now c.args.headers.now c.loop-i.i _ c.loop-i-test.true
    c.of.ensures (λ same. let t = c.if-is_named.ensures.1 same in let f = c.if-is_named.false in cc)
