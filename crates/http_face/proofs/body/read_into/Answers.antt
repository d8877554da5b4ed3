use Rattle.std.proofs.Common.{◌≡◌, ℕ, ◌+◌, List, ◌++◌, length, take, drop, sym, ap, ◌∙◌, arith, length-append, length-take, length-drop}
use Rattle.std.proofs.lemmas.List.{take_all, take_at}
use Rattle.http_face.proofs.BodyLemmas.{body_full, body_ended}
use Rattle.http_face.proofs.body.read_into.Goals as goal

pub returns-clause-heard : goal.returns-clause-heard
returns-clause-heard g c = λ observable.
    let start = c.min-start.result in
    let ahead = c.args.ahead.now in
    let old = c.args.body.now in
    let copied = c.copy_from_slice.new.self in
    let body = c.fill_up.new.buffer in
    let left = (g.C.Conn.state c.args.conn.now).left in
    let rest = (g.C.Conn.state c.fill_up.new.conn).left in
    let long : length copied ≡ start =
    omega (arith, c.copy_from_slice.ensures.len, length-take start old, c.min-start.ensures) in
    let front : take start (copied ++ drop start old) ≡ take start ahead =
    take_at copied (drop start old) start long ∙ c.copy_from_slice.ensures.after in
    let size : length body ≡ length old =
    omega (
      arith,
      c.fill_up.auto.buffer,
      length-append copied (drop start old),
      length-drop start old,
      long,
      c.min-start.ensures,
    ) in
    let all = take_all c.in_ok-filled.filled body c.if-filled-body.false in
    let same : take start ahead ++ left ≡ body ++ rest =
    ap (λ (x : List ℕ). x ++ left) (sym front) ∙ c.in_ok-filled.ensures.bytes observable
    ∙ ap (λ (x : List ℕ). x ++ rest) all in
    body_full start (length old) (c.args.before + length (ahead ++ left)) ahead left body rest c.min-start.ensures
    size same

pub returns-then-filled-body-clause-refused : goal.returns-then-filled-body-clause-refused
returns-then-filled-body-clause-refused g c = λ _ observable.
    let start = c.min-start.result in
    let ahead = c.args.ahead.now in
    let old = c.args.body.now in
    let copied = c.copy_from_slice.new.self in
    let body = c.fill_up.new.buffer in
    let filled = c.in_ok-filled.filled in
    let left = (g.C.Conn.state c.args.conn.now).left in
    let rest = (g.C.Conn.state c.fill_up.new.conn).left in
    let long : length copied ≡ start =
    omega (arith, c.copy_from_slice.ensures.len, length-take start old, c.min-start.ensures) in
    let front : take start (copied ++ drop start old) ≡ take start ahead =
    take_at copied (drop start old) start long ∙ c.copy_from_slice.ensures.after in
    let size : length body ≡ length old =
    omega (
      arith,
      c.fill_up.auto.buffer,
      length-append copied (drop start old),
      length-drop start old,
      long,
      c.min-start.ensures,
    ) in
    let same : take start ahead ++ left ≡ take filled body ++ rest =
    ap (λ (x : List ℕ). x ++ left) (sym front) ∙ c.in_ok-filled.ensures.bytes observable in
    body_ended start (length old) c.args.before filled ahead left body rest c.min-start.ensures
    (omega (arith, c.if-filled-body.true, size)) (omega (arith, c.if-filled-body.true)) same
    (c.in_ok-filled.ensures.end observable (omega (arith, c.if-filled-body.true, c.fill_up.auto.buffer)))
