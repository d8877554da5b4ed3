use Rattle.std.proofs.Common.{◌≡◌, ◌-◌, ◌++◌, length, take, drop, List, ℕ, [], get_or, ap, sym, ◌∙◌, arith}
use Rattle.atom_values.specs.Escape.{escaped}
use Rattle.atom_values.proofs.EscapeLemmas.{escaped-nil, length-run, length-run_more, IsWritten-escape, IsWritten-plain}
use Rattle.atom_values.proofs.EscapeLemmas.{IsWritten-all, escaped_byte-plain}
use Rattle.atom_values.proofs.text.escape_into.Goals as goal
use Rattle.atom_values.proofs.text.escape_into.Goals.{in-Some+in_ok-extend_from_slice+in_ok-extend_from_slice-2}
use Rattle.atom_values.proofs.text.escape_into.Goals.{in_default}

pub loop-at-init : goal.loop-at-init
loop-at-init c =
    let length_is = ap (λ xs. length (escaped c.args.quoted xs)) c.bytes-bytes.ensures.bytes in
    record {
      within = omega arith;
      written = ap (λ xs. xs ++ []) c.in_ok-reserve.ensures.items
          ∙ ap (λ xs. c.args.out.now.items ++ xs) (sym (escaped-nil c.args.quoted));
      room = omega (arith, c.in_ok-reserve.ensures.ok, c.in_ok-reserve.ensures.len, c.args.out.now.ok);
    }

pub returns-in_err-extend_from_slice-clause-err : goal.returns-in_err-extend_from_slice-clause-err
returns-in_err-extend_from_slice-clause-err c =
    let fits = length-run c.args.quoted c.args.out.now.items c.loop-at.out.items c.bytes-bytes.result.now
    c.loop-at.copied c.loop-at.at c.loop-at.invariant.written in
    absurd (omega (arith, c.in_err-extend_from_slice.ensures.full, c.loop-at.out.ok))

pub returns-in_err-extend_from_slice-2-clause-err :
    goal.returns-in_err-extend_from_slice-2-clause-err
returns-in_err-extend_from_slice-2-clause-err c =
    let fits = length-run_more c.args.quoted c.args.out.now.items c.loop-at.out.items c.bytes-bytes.result.now
    c.loop-at.copied c.loop-at.at c.loop-at-test.true c.loop-at.invariant.written in
    let escape = ap length (c.as_bytes.ensures.value ∙ c.in-Some.ensures.0) in
    absurd (omega (
      arith,
      c.in_err-extend_from_slice-2.ensures.full,
      c.in_ok-extend_from_slice.ensures.len,
      c.in_ok-extend_from_slice.ensures.capacity,
      c.loop-at.out.ok,
    ))

pub loop-at-preserved-then-not-may_escape : goal.loop-at-preserved-then-not-may_escape
loop-at-preserved-then-not-may_escape c =
    let next = IsWritten-plain c.args.quoted c.args.out.now.items c.loop-at.out.items c.bytes-bytes.result.now
    c.loop-at.copied c.loop-at.at c.loop-at.invariant.within c.loop-at-test.true c.loop-at.invariant.written
    (escaped_byte-plain c.args.quoted (get_or c.bytes-bytes.result.now c.loop-at.at 0)
    (sym c.may_escape.ensures ∙ c.if-not-may_escape.true)) in
    record { within = omega arith; written = next; room = c.loop-at.invariant.room }

pub loop-at-preserved : goal.loop-at-preserved
loop-at-preserved c = elim c.match-escape_of.branch [
  | in-Some+in_ok-extend_from_slice+in_ok-extend_from_slice-2 w ↦
      let next = IsWritten-escape c.args.quoted c.args.out.now.items c.loop-at.out.items c.bytes-bytes.result.now
      w.as_bytes.result.now c.loop-at.copied c.loop-at.at c.loop-at-test.true c.loop-at.invariant.written
      (w.as_bytes.ensures.value ∙ w.in-Some.ensures.0) in
      record {
        within = omega arith;
        written = rw (
          w.out-is,
          w.copied-is,
          w.in_ok-extend_from_slice-2.ensures.items,
          w.in_ok-extend_from_slice.ensures.items,
        ) next;
        room = rw w.out-is (omega (
          arith,
          w.in_ok-extend_from_slice-2.ensures.capacity,
          w.in_ok-extend_from_slice.ensures.capacity,
        ));
      }
  | in_default w ↦
      let next = IsWritten-plain c.args.quoted c.args.out.now.items c.loop-at.out.items c.bytes-bytes.result.now
      c.loop-at.copied c.loop-at.at c.loop-at.invariant.within c.loop-at-test.true c.loop-at.invariant.written
      w.in_default.ensures in
      record {
        within = omega arith;
        written = rw (w.out-is, w.copied-is) next;
        room = rw w.out-is c.loop-at.invariant.room;
      }
]

pub returns-in_err-extend_from_slice-3-clause-err :
    goal.returns-in_err-extend_from_slice-3-clause-err
returns-in_err-extend_from_slice-3-clause-err c =
    let run : ℕ → ℕ = λ n. length (take (n - c.loop-at.copied) (drop c.loop-at.copied c.bytes-bytes.result.now)) in
    let end : c.loop-at.at ≡ length c.bytes-bytes.result.now = omega arith in
    let fits = length-run c.args.quoted c.args.out.now.items c.loop-at.out.items c.bytes-bytes.result.now
    c.loop-at.copied c.loop-at.at c.loop-at.invariant.written in
    absurd (omega (arith, c.in_err-extend_from_slice-3.ensures.full, c.loop-at.out.ok, ap run end))

pub returns-clause-ok : goal.returns-clause-ok
returns-clause-ok c =
    let run : ℕ → List ℕ = λ n. c.loop-at.out.items ++ take (n - c.loop-at.copied)
    (drop c.loop-at.copied c.bytes-bytes.result.now) in
    let end : c.loop-at.at ≡ length c.bytes-bytes.result.now = omega arith in
    c.in_ok-extend_from_slice-3.ensures.items
    ∙ ap run (sym end)
    ∙ IsWritten-all c.args.quoted c.args.out.now.items c.loop-at.out.items c.bytes-bytes.result.now c.loop-at.copied
    c.loop-at.at c.loop-at-test.false c.loop-at.invariant.written
    ∙ ap (λ xs. c.args.out.now.items ++ escaped c.args.quoted xs) c.bytes-bytes.ensures.bytes
