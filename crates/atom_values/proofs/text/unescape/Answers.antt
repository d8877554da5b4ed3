use Rattle.std.proofs.Common.{◌++◌, [], ◌∷◌, length, not, ap, sym, ◌∙◌, arith}
use Rattle.std.proofs.lemmas.Bool.{eqb-true, eqb-false}
use Rattle.std.proofs.lemmas.List.{append-nil, nil_from_length}
use Rattle.std.proofs.lemmas.List.Sums.{prefix_len-le-length}
use Rattle.atom_values.specs.Escape.{escaped, may_escape}
use Rattle.atom_values.proofs.EscapeLemmas.{escaped-nil, escaped-run}
use Rattle.atom_values.proofs.UnescapeLemmas.{IsReadBack-all, IsReadBack-stuck, IsReadBack-long, escaped-read}
use Rattle.atom_values.proofs.text.unescape.Goals as goal

pub returns-then-written-gt-MAX_ESCAPED : goal.returns-then-written-gt-MAX_ESCAPED
returns-then-written-gt-MAX_ESCAPED c = IsReadBack-long c.args.quoted c.args.written.now (omega arith)

pub loop-bytes-init : goal.loop-bytes-init
loop-bytes-init c =
    ap (λ xs. escaped c.args.quoted xs ++ c.args.written.now) c.in_ok-bytes.ensures.items
    ∙ ap (λ xs. xs ++ c.args.written.now) (escaped-nil c.args.quoted)

pub split_at-requires : goal.split_at-requires
split_at-requires c =
    omega (arith, c.plain_len.ensures, prefix_len-le-length (λ x. not (may_escape x)) c.loop-bytes.rest.now)

pub returns-then-is_empty : goal.returns-then-is_empty
returns-then-is_empty c =
    let behind = c.split_at.result.1.now in
    let run =
    escaped-run c.args.quoted c.args.written.now c.loop-bytes.bytes.items c.loop-bytes.rest.now c.split_at.result.0.now
    behind c.plain_len.result c.loop-bytes.invariant c.plain_len.ensures c.split_at.ensures.front c.split_at.ensures.back in
    let end = nil_from_length behind (eqb-true _ 0 (sym c.is_empty.ensures ∙ c.if-is_empty.true)) in
    let read = c.loop-bytes.bytes.items ++ c.split_at.result.0.now in
    let whole = sym (append-nil (escaped c.args.quoted read)) ∙ ap (λ xs. escaped c.args.quoted read ++ xs) (sym end) ∙ run in
    IsReadBack-all c.args.quoted c.args.written.now read c.from_vec.result whole
    (rw (← c.in_ok-extend_from_slice.ensures.items) c.from_vec.ensures)

pub returns-in_default : goal.returns-in_default
returns-in_default c =
    let behind = c.split_at.result.1.now in
    let run =
    escaped-run c.args.quoted c.args.written.now c.loop-bytes.bytes.items c.loop-bytes.rest.now c.split_at.result.0.now
    behind c.plain_len.result c.loop-bytes.invariant c.plain_len.ensures c.split_at.ensures.front c.split_at.ensures.back in
    let some = eqb-false (length behind) 0 (sym c.is_empty.ensures ∙ c.if-is_empty.false) in
    IsReadBack-stuck c.args.quoted c.args.written.now (c.loop-bytes.bytes.items ++ c.split_at.result.0.now) behind run
    (omega (arith, some)) c.in_default.ensures

pub loop-bytes-preserved : goal.loop-bytes-preserved
loop-bytes-preserved c =
    let behind = c.split_at.result.1.now in
    let run =
    escaped-run c.args.quoted c.args.written.now c.loop-bytes.bytes.items c.loop-bytes.rest.now c.split_at.result.0.now
    behind c.plain_len.result c.loop-bytes.invariant c.plain_len.ensures c.split_at.ensures.front c.split_at.ensures.back in
    ap (λ xs. escaped c.args.quoted xs ++ c.in-Some.tail.now) (c.in_ok-push.ensures.items
    ∙ ap (λ xs. xs ++ c.in-Some.byte ∷ []) c.in_ok-extend_from_slice.ensures.items)
    ∙ escaped-read c.args.quoted c.args.written.now (c.loop-bytes.bytes.items ++ c.split_at.result.0.now) behind
    c.in-Some.tail.now c.in-Some.byte run c.in-Some.ensures
