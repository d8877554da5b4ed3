use Rattle.std.proofs.Common.{ℕ, List, subst, sym, ap, Err}
use Rattle.atom_writer.specs.Reading.{BeginsWith}
use Rattle.member_rules.specs.Fields.{bytes_of_text}
use Rattle.member_rules.specs.HeadFields.{base}
use Rattle.member_rules.proofs.FieldLemmas.{stopped, narrow_absent, narrow_found}
use Rattle.member_rules.proofs.RuledLemmas.{base_narrows, base_refused}
use Rattle.member_rules.proofs.codec.head.read_base.Goals as goal

pub returns-in_err-text : goal.returns-in_err-text
returns-in_err-text c =
    stopped bytes_of_text _ base _ _ c.args.unread.now.rest.now _ _ c.in_err-text.ensures c.from_residual.ensures.1
    (narrow_absent bytes_of_text base base_narrows _)

pub returns-in_err-base : goal.returns-in_err-base
returns-in_err-base c =
    base_refused (λ t. t) c.args.unread.now.rest.now _ _ _ _ c.in_ok-text.ensures
    (λ e. c.in_err-base.ensures.refused (ap (λ z. Err z) e))
    c.from_residual-in_err-base.ensures.1

pub returns : goal.returns
unfolding base
returns c =
    let P : List ℕ → Type 0 =
    λ z. BeginsWith base.Is base.bytes c.args.unread.now.rest.now z c.text.new.self.rest.now in
    subst P (sym c.in_ok-base.ensures.text)
    (narrow_found bytes_of_text base base_narrows c.args.unread.now.rest.now _ _ c.in_ok-text.ensures
    c.in_ok-base.ensures.taken)
