use Rattle.std.proofs.Common.{Err, ap, sym, subst, ◌∙◌, ◌++◌}
use Rattle.chain_links.specs.Address.{suffix_text}
use Rattle.chain_links.specs.Base.{IsBase}
use Rattle.atom_writer.specs.Pieces.{own_address}
use Rattle.atom_grammar.proofs.OwnAddressLemmas.{own_nowhere, own_unsplit, own_unlike, own_read}
use Rattle.atom_grammar.proofs.reader.Reader.own_address.Goals as goal

pub returns-in_default : goal.returns-in_default
returns-in_default c = own_nowhere c.args.self.now.rest.now c.in_default.ensures

pub returns-in_default-split_own : goal.returns-in_default-split_own
returns-in_default-split_own c =
    own_unsplit c.args.self.now.rest.now c.in-Some.written.now c.up_to.new.self.rest.now c.in-Some.ensures
    c.in_default-split_own.ensures.only

pub returns-in-Ok : goal.returns-in-Ok
returns-in-Ok c =
    let kind = c.in-Some-split_own.kind in
    own_read c.args.self.now.rest.now c.in-Some.written.now c.up_to.new.self.rest.now c.in-Ok.base kind
    c.in-Some.ensures
    (subst (λ x. IsBase x) (sym c.in-Ok.ensures.text) c.in-Ok.ensures.taken) c.in-Some-split_own.ensures.found.0
    (c.in-Some-split_own.ensures.found.1 ∙ ap (λ x. x ++ suffix_text (own_address kind)) (sym c.in-Ok.ensures.text))

pub returns-in-Err-BadBase : goal.returns-in-Err-BadBase
returns-in-Err-BadBase c =
    own_unlike c.args.self.now.rest.now c.in-Some.written.now c.up_to.new.self.rest.now c.in-Some-split_own.base.now
    c.in-Some-split_own.kind c.in-Some.ensures
    c.in-Some-split_own.ensures.found.0 c.in-Some-split_own.ensures.found.1
    (c.in-Err-BadBase.ensures.refused (ap (λ x. Err x) c.in-Err-BadBase.field-0-is))
