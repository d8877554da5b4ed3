use Rattle.std.proofs.Common.{◌≡◌, ◌≢◌, [], ◌∷◌, ◌++◌, length, not, refl, sym, ap, ◌∙◌, arith}
use Rattle.std.proofs.lemmas.List.{length-append, nil_from_length}
use Rattle.xml_tokens.proofs.ValueLemmas.{byte_goes, line_goes, reference_goes, reference_first, value_ends}
use Rattle.xml_tokens.proofs.ValueLemmas.{blank_read, none_gone, plain_read, verbatim_goes}
use Rattle.xml_tokens.proofs.RunLemmas.{run_cut}
use Rattle.xml_tokens.specs.Reading.{is_verbatim}
use Rattle.xml_tokens.proofs.value.value.Goals as goal

pub loop-byte-init : goal.loop-byte-init
loop-byte-init c =
    let written = c.args.written.now in
    let run = run_cut is_verbatim (λ b. not (is_verbatim b)) (λ b. refl) written c.take.result.now c.take.new.self.rest.now
    c.end_of_verbatim.result c.end_of_verbatim.ensures c.take.ensures.split cc in
    verbatim_goes written [] written c.take.result.now c.take.new.self.rest.now c.take.ensures.split run.0
    (none_gone written) c.extend_from_slice.new.self.items
    (c.in_ok-extend_from_slice.ensures.items ∙ ap (λ xs. xs ++ c.take.result.now) c.in_ok-out.ensures.items)

pub loop-byte-smaller-in-Continue-branch-3 : goal.loop-byte-smaller-in-Continue-branch-3
loop-byte-smaller-in-Continue-branch-3 c =
    let f = c.in-Ok.ensures in
    let start = reference_first c.in-Ok.character f.front f.spelled in
    let total = ap length f.split in
    let some = ap length start.1 in
    omega (arith, length-append f.front c.reference.new.self.rest.now)

pub loop-byte-preserved-in-Continue-branch-3 : goal.loop-byte-preserved-in-Continue-branch-3
loop-byte-preserved-in-Continue-branch-3 c =
    reference_goes c.args.written.now c.loop-byte.out.items c.loop-byte.cursor.rest.now c.reference.new.self.rest.now
    c.in-Ok.character c.in-Ok.ensures c.loop-byte.invariant c.push_character.new.out.items
    c.in_ok-push_character-in-Ok.ensures

pub loop-byte-smaller-in-13 : goal.loop-byte-smaller-in-13
loop-byte-smaller-in-13 c =
    let shorter = c.behind_line_end-cursor.ensures.shorter in
    let total = c.in-Some.ensures.cases.1 in
    omega arith

pub loop-byte-preserved-in-13 : goal.loop-byte-preserved-in-13
loop-byte-preserved-in-13 c =
    line_goes c.args.written.now c.loop-byte.out.items c.loop-byte.cursor.rest.now c.in-Some.tail.now
    c.behind_line_end-cursor.result.now (c.in-Some.ensures.cases.0 ∙ ap (λ b. b ∷ c.in-Some.tail.now) c.in-13.is)
    c.behind_line_end-cursor.ensures.read c.loop-byte.invariant
    c.push.new.self.items c.in_ok-push-in-13.ensures.items

pub loop-byte-smaller-then-byte-lt11 : goal.loop-byte-smaller-then-byte-lt11
loop-byte-smaller-then-byte-lt11 c = let total = c.in-Some.ensures.cases.1 in omega arith

pub loop-byte-preserved-then-byte-lt11 : goal.loop-byte-preserved-then-byte-lt11
loop-byte-preserved-then-byte-lt11 c =
    let b = c.in-Some.byte.now in
    let no_cr : b ≢ 13 = λ (e : b ≡ 13). omega arith in
    let no_and : b ≢ 38 = λ (e : b ≡ 38). omega arith in
    let read = blank_read b (omega arith) (omega arith) in
    byte_goes c.args.written.now c.loop-byte.out.items c.loop-byte.cursor.rest.now c.in-Some.tail.now b no_cr no_and
    c.in-Some.ensures.cases.0 c.loop-byte.invariant c.push-in-9.new.self.items
    (c.in_ok-push-in-9.ensures.items ∙ ap (λ x. c.loop-byte.out.items ++ x ∷ []) (sym read))

pub loop-byte-smaller : goal.loop-byte-smaller
loop-byte-smaller c = let total = c.in-Some.ensures.cases.1 in omega arith

pub loop-byte-preserved : goal.loop-byte-preserved
loop-byte-preserved c =
    let b = c.in-Some.byte.now in
    let no_cr : b ≢ 13 = λ (e : b ≡ 13). omega arith in
    let no_and : b ≢ 38 = λ (e : b ≡ 38). omega arith in
    let no_tab : b ≢ 9 = λ (e : b ≡ 9). omega arith in
    let no_lf : b ≢ 10 = λ (e : b ≡ 10). omega arith in
    let read = plain_read b no_tab no_lf in
    byte_goes c.args.written.now c.loop-byte.out.items c.loop-byte.cursor.rest.now c.in-Some.tail.now b no_cr no_and
    c.in-Some.ensures.cases.0 c.loop-byte.invariant c.push-in_default-byte.new.self.items
    (c.in_ok-push-in_default-byte.ensures.items ∙ ap (λ x. c.loop-byte.out.items ++ x ∷ []) (sym read))

pub returns : goal.returns
returns c =
    value_ends c.args.written.now c.loop-byte.out.items c.loop-byte.cursor.rest.now c.loop-byte.invariant
    (nil_from_length c.loop-byte.cursor.rest.now c.in_default.ensures.cases)
