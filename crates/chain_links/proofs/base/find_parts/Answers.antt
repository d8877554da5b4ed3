-- Each part is found where the text is a base address, and a text whose parts are found is one.
use Rattle.std.proofs.Common.{◌≡◌, ◌+◌, ◌++◌, sym, ap, ◌∙◌, arith, length, length-append}
use Rattle.std.proofs.lemmas.Bool.{false≢true}
use Rattle.std.proofs.lemmas.Option.{none-some, same_Some}
use Rattle.chain_links.specs.Base.{host_text, port_text}
use Rattle.chain_links.proofs.BaseLemmas.{spelling, port_ends_host, base_from}
use Rattle.chain_links.proofs.PartOffsetLemmas.{spelling_of, part_offsets_at}
use Rattle.chain_links.proofs.base.find_parts.Goals as goal

pub returns-in_err-host-clause-none : goal.returns-in_err-host-clause-none
returns-in_err-host-clause-none c =
    rw c.from_residual.ensures
    (λ base. none-some _ (c.in_err-host.ensures.only _ (spelling c.args.text.now base)))

pub returns-in_err-behind-clause-none : goal.returns-in_err-behind-clause-none
returns-in_err-behind-clause-none c =
    rw c.from_residual-in_err-behind.ensures
    (λ base.
    let host = same_Some _ _ (c.in_ok-host.ensures.only _ (spelling c.args.text.now base)) in
    none-some _ (c.in_err-behind.ensures.only base.parts.labels _ base.rules.labels
    (port_ends_host base.parts.port base.parts.segments) host))

pub returns-in_err-number-clause-none : goal.returns-in_err-number-clause-none
returns-in_err-number-clause-none c =
    rw c.from_residual-in_err-number.ensures
    (λ base.
    let host = same_Some _ _ (c.in_ok-host.ensures.only _ (spelling c.args.text.now base)) in
    let behind = same_Some _ _
    (c.in_ok-behind.ensures.only base.parts.labels _ base.rules.labels
    (port_ends_host base.parts.port base.parts.segments) host) in
    c.in_err-number.ensures.only base.parts.port _ base.rules.port behind)

pub returns-then-not-is_path-clause-none : goal.returns-then-not-is_path-clause-none
returns-then-not-is_path-clause-none c = λ base.
    let host = same_Some _ _ (c.in_ok-host.ensures.only _ (spelling c.args.text.now base)) in
    let behind = same_Some _ _
    (c.in_ok-behind.ensures.only base.parts.labels _ base.rules.labels
    (port_ends_host base.parts.port base.parts.segments) host) in
    let path = c.in_ok-number.ensures.only base.parts.port _ base.rules.port behind in
    false≢true (sym c.if-not-is_path.true ∙ c.is_path.ensures.1 (base.parts.segments, base.rules.segments, path.1))

pub returns-clause-base : goal.returns-clause-base
returns-clause-base c =
    base_from c.args.text.now c.in_ok-host.host.now c.in_ok-behind.behind.now c.in_ok-number.path.now
    c.in_ok-number.number
    (omega arith) c.in_ok-host.ensures.found c.in_ok-behind.ensures.found c.in_ok-number.ensures.found
    (c.is_path.ensures.0 c.if-not-is_path.false)

pub returns-clause-offsets : goal.returns-clause-offsets
returns-clause-offsets c =
    let whole : length c.args.text.now ≡ 7 + length c.in_ok-host.host.now =
    omega (arith, ap length c.in_ok-host.ensures.found) in
    let has_host = c.in_ok-behind.ensures.found in
    let has_port = c.in_ok-number.ensures.found in
    let at_host : length c.in_ok-host.host.now ≡ length (host_text has_host.0) + length c.in_ok-behind.behind.now =
    ap length has_host.2 ∙ length-append (host_text has_host.0) c.in_ok-behind.behind.now in
    let at_port : length c.in_ok-behind.behind.now ≡ length (port_text has_port.0) + length c.in_ok-number.path.now =
    ap length has_port.3 ∙ length-append (port_text has_port.0) c.in_ok-number.path.now in
    record {
      base = returns-clause-base c;
      host_in = omega arith;
      path_behind = omega arith;
      path_in = omega arith;
      parts = λ parts spells.
          let host = same_Some _ _ (c.in_ok-host.ensures.only _ (spelling_of parts c.args.text.now spells)) in
          let behind = same_Some _ _
          (c.in_ok-behind.ensures.only parts.labels _ spells.0.labels
          (port_ends_host parts.port parts.segments) host) in
          let path = c.in_ok-number.ensures.only parts.port _ spells.0.port behind in
          part_offsets_at c.args.text.now c.in_ok-host.host.now c.in_ok-behind.behind.now c.in_ok-number.path.now
          c.in_ok-number.number parts c.in_ok-host.ensures.found (host
          ∙ ap (λ x. host_text parts.labels ++ x) (sym behind)) (behind
          ∙ ap (λ x. port_text parts.port ++ x) (sym path.1)) path.1 path.0;
    }
