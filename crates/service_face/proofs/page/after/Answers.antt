-- The result of `strip_prefix` on bytes.
use Rattle.std.proofs.Common.{◌≡◌, ◌≢◌, ℕ, List, ◌++◌, Option, Some, None, MatchOption, IfSome, option_copied, Bor, ap}
use Rattle.std.proofs.Common.{sym, ◌∙◌}
use Rattle.std.proofs.lemmas.Bool.Decides.{Decides-eqb}
use Rattle.std.proofs.lemmas.Slice.Eq.{strip_prefix_is}
use Rattle.std.proofs.lemmas.List.{append_cancel_left}
use Rattle.service_face.proofs.page.after.Goals as goal

found : (s p : List ℕ) (r : Option (Bor (List ℕ))) →
    MatchOption r ((rest : List ℕ) → s ≢ p ++ rest) (λ x. s ≡ p ++ x.now) → IfSome r (λ x. s ≡ p ++ x.now)
found s p None h = tt
found s p (Some x) h = h

only : (s p : List ℕ) (r : Option (Bor (List ℕ))) →
    MatchOption r ((rest : List ℕ) → s ≢ p ++ rest) (λ x. s ≡ p ++ x.now) → (rest : List ℕ) → s ≡ p ++ rest →
    option_copied r ≡ Some rest
only s p None h rest e = absurd (h rest e)
only s p (Some x) h rest e = ap (λ (y : List ℕ). Some y) (append_cancel_left p x.now rest (sym h ∙ e))

pub returns-clause-found : goal.returns-clause-found
returns-clause-found c =
    found _ _ _ (strip_prefix_is Decides-eqb c.args.text.now c.args.prefix.now _ c.strip_prefix.ensures.cases)

pub returns-clause-only : goal.returns-clause-only
returns-clause-only c =
    only _ _ _ (strip_prefix_is Decides-eqb c.args.text.now c.args.prefix.now _ c.strip_prefix.ensures.cases)
