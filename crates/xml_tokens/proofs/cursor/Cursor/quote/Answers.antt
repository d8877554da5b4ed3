use Rattle.std.proofs.Common.{◌≡◌, [], ◌∷◌, inl, refl}
use Rattle.xml_tokens.specs.Reading.{one_quote}
use Rattle.xml_tokens.proofs.PartLemmas.{ended_reads}
use Rattle.xml_tokens.proofs.CursorLemmas.{no_first}
use Rattle.xml_tokens.proofs.cursor.Cursor.quote.Goals as goal

pub returns-in-None : goal.returns-in-None
returns-in-None c =
    ended_reads {P = one_quote} (λ v rest is. let e : [] ≡ v ∷ [] = is.1 in cc)
    (34 ∷ [], (34, [], record { front = 34 ∷ []; split = refl; spelled = (inl refl, refl) }))
    c.args.self.now.rest.now (no_first c.args.self.now.rest.now c.in-None.ensures.value) c.args.self.now.rest.now
