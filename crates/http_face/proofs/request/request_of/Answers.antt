use Rattle.std.proofs.Common.{◌≡◌, ℕ, ◌+◌, ◌-◌, List, ◌++◌, length, take, drop, true, map, Ok, Err, sym, ◌∙◌, ap, subst, arith, length-append, length-drop}
use Rattle.std.proofs.lemmas.List.{take_all}
use Rattle.std.proofs.lemmas.Result.{err_from_is_err_and}
use Rattle.httparse.specs.Spans.{span_bytes, header_bytes}
use Rattle.http_face.specs.Heard.{verb_of, has_body, sized_body, stated_size}
use Rattle.http_face.proofs.ReadLemmas.{needs_other}
use Rattle.http_face.proofs.SettledLemmas.{body_sized, ends_within}
use Rattle.http_face.proofs.request.request_of.Goals as goal

pub returns-in_err-body-2-clause-refused : goal.returns-in_err-body-2-clause-refused
returns-in_err-body-2-clause-refused g c =
    let p = err_from_is_err_and c.from_residual-in_err-body-2.result c.from_residual-in_err-body-2.ensures.1 in
    let bytes = c.args.bytes.now in
    let len = c.args.head.len in
    let left = (g.C.Conn.state c.args.conn.now).left in
    let has : has_body (verb_of (span_bytes bytes c.args.head.method)) ≡ true =
    ap (λ (m : List ℕ). has_body (verb_of m)) (sym c.of.ensures) ∙ ap has_body (sym c.of-verb.ensures)
    ∙ sym c.has_body.ensures ∙ c.if-not-has_body.false in
    let states : stated_size (map (header_bytes bytes) c.args.headers.now) ≡ Ok c.in_ok-size.size =
    sym c.in_ok-size.ensures in
    let all : take (length bytes - len) (drop len bytes) ≡ drop len bytes =
    take_all (length bytes - len) (drop len bytes) (omega (arith, length-drop len bytes)) in
    rw (p.1, p.2) (λ conn memory observable.
    body_sized (span_bytes bytes c.args.head.method) (map (header_bytes bytes) c.args.headers.now) c.in_ok-size.size
    (length (bytes ++ left)) (len + length (drop len bytes ++ left)) _ _ has states
    (omega (
      arith,
      c.requires.len,
      length-append bytes left,
      length-append (drop len bytes) left,
      length-drop len bytes,
    ))
    (subst (λ (x : List ℕ). sized_body c.in_ok-size.size (len + length (x ++ left)) (x ++ left)
    ≡ Err c.in_err-body-2.field-0.0) all
    (c.in_err-body-2.ensures.refused conn memory observable)))

pub returns-in_err-body-2-clause-needed : goal.returns-in_err-body-2-clause-needed
returns-in_err-body-2-clause-needed g c = λ observable.
    let bytes = c.args.bytes.now in
    let len = c.args.head.len in
    let has : has_body (verb_of (span_bytes bytes c.args.head.method)) ≡ true =
    ap (λ (m : List ℕ). has_body (verb_of m)) (sym c.of.ensures) ∙ ap has_body (sym c.of-verb.ensures)
    ∙ sym c.has_body.ensures ∙ c.if-not-has_body.false in
    let states : stated_size (map (header_bytes bytes) c.args.headers.now) ≡ Ok c.in_ok-size.size =
    sym c.in_ok-size.ensures in
    let all : take (length bytes - len) (drop len bytes) ≡ drop len bytes =
    take_all (length bytes - len) (drop len bytes) (omega (arith, length-drop len bytes)) in
    needs_other _ _ _ _
    (λ taken few. ends_within (span_bytes bytes c.args.head.method) (map (header_bytes bytes) c.args.headers.now)
    c.in_ok-size.size (drop len bytes) has states taken (omega (arith, few, ap length all)))
    (c.read_body.ensures.needed observable)

pub returns-clause-needed : goal.returns-clause-needed
returns-clause-needed g c = λ observable.
    let bytes = c.args.bytes.now in
    let len = c.args.head.len in
    let has : has_body (verb_of (span_bytes bytes c.args.head.method)) ≡ true =
    ap (λ (m : List ℕ). has_body (verb_of m)) (sym c.of.ensures) ∙ ap has_body (sym c.of-verb.ensures)
    ∙ sym c.has_body.ensures ∙ c.if-not-has_body.false in
    let states : stated_size (map (header_bytes bytes) c.args.headers.now) ≡ Ok c.in_ok-size.size =
    sym c.in_ok-size.ensures in
    let all : take (length bytes - len) (drop len bytes) ≡ drop len bytes =
    take_all (length bytes - len) (drop len bytes) (omega (arith, length-drop len bytes)) in
    needs_other _ _ _ _
    (λ taken few. ends_within (span_bytes bytes c.args.head.method) (map (header_bytes bytes) c.args.headers.now)
    c.in_ok-size.size (drop len bytes) has states taken (omega (arith, few, ap length all)))
    (c.read_body.ensures.needed observable)
