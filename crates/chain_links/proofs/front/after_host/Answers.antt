-- Where the walk over the host ends, and with what.
use Rattle.std.proofs.Common.{drop, get_or, sym, ◌∙◌, arith, ne_eqb}
use Rattle.std.proofs.lemmas.List.{take_rest}
use Rattle.chain_links.proofs.HostLemmas.{host_found, host_only, no_label, host_ends, text_ends}
use Rattle.chain_links.proofs.front.after_host.Goals as goal

pub returns-then-is_fresh-clause-only : goal.returns-then-is_fresh-clause-only
returns-then-is_fresh-clause-only c = λ labels rest are ends e.
    let whole = host_only c.args.text.now labels rest are ends e in
    let none = no_label c.args.text.now c.loop-i.i c.loop-i.is_fresh c.loop-i.invariant c.loop-i-test.true
    (sym c.is_label_char.ensures ∙ c.if-is_label_char.false) c.if-is_fresh.true in
    sym none ∙ whole

pub returns-else-byte-eq46-clause-found : goal.returns-else-byte-eq46-clause-found
returns-else-byte-eq46-clause-found c =
    rw take_rest
    (host_found c.args.text.now (drop c.loop-i.i c.args.text.now)
    (host_ends c.args.text.now c.loop-i.i c.loop-i.is_fresh c.loop-i.invariant c.loop-i-test.true
    (sym c.is_label_char.ensures ∙ c.if-is_label_char.false) c.if-is_fresh.false
    (ne_eqb (get_or c.args.text.now c.loop-i.i 0) 46 c.if-byte-eq46.false)))

pub returns-else-byte-eq46-clause-only : goal.returns-else-byte-eq46-clause-only
returns-else-byte-eq46-clause-only c = λ labels rest are ends e.
    rw take_rest
    (sym (host_ends c.args.text.now c.loop-i.i c.loop-i.is_fresh c.loop-i.invariant c.loop-i-test.true
    (sym c.is_label_char.ensures ∙ c.if-is_label_char.false) c.if-is_fresh.false
    (ne_eqb (get_or c.args.text.now c.loop-i.i 0) 46 c.if-byte-eq46.false))
    ∙ host_only c.args.text.now labels rest are ends e)

pub returns-clause-only : goal.returns-clause-only
returns-clause-only c = λ labels rest are ends e.
    sym (text_ends c.args.text.now c.loop-i.i c.loop-i.is_fresh c.loop-i.invariant (omega arith))
    ∙ host_only c.args.text.now labels rest are ends e
