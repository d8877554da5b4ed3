-- A base address is ASCII, so it is always a text.
use Rattle.std.proofs.Common.{IsUtf8, List, ℕ, subst, sym}
use Rattle.chain_links.proofs.AsciiLemmas.{base_utf8}
use Rattle.chain_links.proofs.base.Base.checked.Goals as goal

pub returns-in_default : goal.returns-in_default
returns-in_default c =
    let P : List ℕ → Type 0 = λ t. IsUtf8 t in
    absurd (c.in_default.ensures.cases.0
    (subst P (sym c.deref.ensures.value) (base_utf8 c.self.inside.text.items c.self.invariant.base)))
