use Rattle.std.proofs.Common.{ℕ, List, subst, sym}
use Rattle.atom_writer.specs.Reading.{BeginsWith}
use Rattle.member_rules.specs.Fields.{bytes_of_text, text}
use Rattle.member_rules.proofs.FieldLemmas.{stopped, narrow_absent, text_narrows, text_taken, text_refused}
use Rattle.member_rules.proofs.codec.values.AtomTextCoded.read.Goals as goal

pub returns-in_err-text : goal.returns-in_err-text
returns-in_err-text c =
    stopped bytes_of_text _ text _ _ c.args.unread.now.rest.now _ _ c.in_err-text.ensures
    c.from_residual.ensures.1 (narrow_absent bytes_of_text text text_narrows _)

pub returns-in_err-text-2 : goal.returns-in_err-text-2
returns-in_err-text-2 c =
    text_refused (λ t. t) c.args.unread.now.rest.now _ _ _ _ c.in_ok-text.ensures c.in_err-text-2.ensures.refused
    c.from_residual-in_err-text-2.ensures.1

pub returns : goal.returns
returns c =
    let P : List ℕ → Type 0 =
    λ z. BeginsWith text.Is text.bytes c.args.unread.now.rest.now z c.text.new.self.rest.now in
    subst P (sym c.in_ok-text-2.ensures.text)
    (text_taken c.args.unread.now.rest.now _ _ c.in_ok-text.ensures c.in_ok-text-2.ensures.taken)
