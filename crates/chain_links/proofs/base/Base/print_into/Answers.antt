use Rattle.std.proofs.Common.{◌≡◌, length, arith, sym, ap, ◌∙◌, ◌++◌, append_assoc}
use Rattle.chain_links.specs.Address.{suffix_text}
use Rattle.chain_links.proofs.AddressLemmas.{length-printed, printed-is}
use Rattle.chain_links.proofs.base.Base.print_into.Goals as goal

pub append-requires : goal.append-requires
append-requires c = omega (
  arith,
  c.in_ok-reserve.ensures.ok,
  length-printed c.args.self.now c.args.address,
  ap length c.self.view_is,
)

pub append_suffix-requires : goal.append_suffix-requires
append_suffix-requires c =
    omega (arith, c.in_ok-reserve.ensures.ok, length-printed c.args.self.now c.args.address, ap length c.self.view_is)

pub returns-clause-ok : goal.returns-clause-ok
returns-clause-ok c =
    let text : c.deref.result.now ≡ c.args.self.now = c.deref.ensures.value ∙ c.self.view_is in
    let appended : c.append.new.out.items ≡ c.args.out.now.items ++ c.args.self.now =
    c.append.ensures.items ∙ ap (λ x. x ++ c.deref.result.now) c.reserve.ensures.items
    ∙ ap (λ x. c.args.out.now.items ++ x) text in
    c.append_suffix.ensures
    ∙ ap (λ x. x ++ suffix_text c.args.address) appended
    ∙ append_assoc c.args.out.now.items c.args.self.now (suffix_text c.args.address)
    ∙ ap (λ x. c.args.out.now.items ++ x) (sym (printed-is c.args.self.now c.args.address))
