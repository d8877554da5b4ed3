use Rattle.std.proofs.Common.{◌≡◌, ◌-◌, ◌++◌, ◌∷◌, [], List, ℕ, true, false, drop, take, subst, sym, ap, ◌∙◌}
use Rattle.std.proofs.Common.{length}
use Rattle.std.proofs.lemmas.Slice.Eq.{bytes_eq-Decides}
use Rattle.mirror_commands.specs.Audit.{EndsOnce}
use Rattle.mirror_commands.specs.CertificatePart.{IsAmid}
use Rattle.mirror_commands.proofs.PartLemmas.{amid-byte, amid-ends, amid-line, rest-of}
use Rattle.mirror_commands.proofs.certificate_part.push_byte.Goals as goal

pub returns-then-byte-ne-LF-clause-amid : goal.returns-then-byte-ne-LF-clause-amid
returns-then-byte-ne-LF-clause-amid c = λ _.
    subst (λ (t : List ℕ). IsAmid t c.args.start.now) (sym c.in_ok-push.ensures.items)
    (amid-byte c.args.text.now.items c.args.start.now c.args.byte c.requires c.if-byte-ne-LF.true)

pub returns-clause-ends : goal.returns-clause-ends
returns-clause-ends c = λ is.
    let text = c.args.text.now.items in
    let start = c.args.start.now in
    let ends : c.eq-ends.result ≡ true = cc in
    let items : c.push.new.self.items ≡ text ++ 10 ∷ [] =
    c.in_ok-push.ensures.items ∙ ap (λ (b : ℕ). text ++ b ∷ []) c.if-byte-ne-LF.false in
    let line = (bytes_eq-Decides _ _).0 (sym c.eq-ends.ensures ∙ ends) in
    subst EndsOnce (sym items)
    (amid-ends text start c.requires
    (ap (drop start) (sym items ∙ sym c.deref.ensures.value) ∙ sym (rest-of c.deref.result.now start) ∙ line
    ∙ c.as_slice.ensures))

pub returns-clause-amid : goal.returns-clause-amid
returns-clause-amid c = λ is.
    let text = c.args.text.now.items in
    let start = c.args.start.now in
    let other : c.eq-ends.result ≡ false = cc in
    let items : c.push.new.self.items ≡ text ++ 10 ∷ [] =
    c.in_ok-push.ensures.items ∙ ap (λ (b : ℕ). text ++ b ∷ []) c.if-byte-ne-LF.false in
    let line : take (length c.deref.result.now - start) (drop start c.deref.result.now) ≡ drop start (text ++ 10 ∷ []) =
    rest-of c.deref.result.now start ∙ ap (drop start) (c.deref.ensures.value ∙ items) in
    subst (λ (n : ℕ). IsAmid c.push.new.self.items n) (sym (c.len.ensures ∙ c.push.new.self.ok.0))
    (subst (λ (t : List ℕ). IsAmid t (length t)) (sym items)
    (amid-line text start c.requires
    (λ e.
    let same : true ≡ false =
    sym ((bytes_eq-Decides _ _).1 (line ∙ e ∙ sym c.as_slice.ensures)) ∙ sym c.eq-ends.ensures ∙ other in
    cc)))
