use Rattle.std.proofs.Common.{◌≡◌, List, ℕ, true, Some, Err, ap, sym, subst, ◌∙◌, arith, rules}
use Rattle.std.specs.Str.{bytes_eq}
use Rattle.std.proofs.lemmas.Bool.{false≢true}
use Rattle.std.proofs.lemmas.Grind.{common_steps}
use Rattle.std.proofs.lemmas.Slice.Eq.{bytes_eq-Decides}
use Rattle.atom_writer.specs.declared.doc.FeedName.{FeedName}
use Rattle.atom_writer.specs.Pieces.{own_address}
use Rattle.chain_links.specs.Address.{IsAddress}
use Rattle.mirror_walk.specs.Accept.{own_text, wrong_address}
use Rattle.mirror_walk.specs.Holding.{HeldValue}
use Rattle.mirror_walk.specs.declared.answer.Offered.TheVariants.{WrongAddress}
use Rattle.mirror_walk.proofs.AddressLemmas.{address-right, address-wrong, own_text-printed}
use Rattle.mirror_walk.proofs.documents.Documents.check_address.Goals as goal
use Rattle.mirror_walk.proofs.documents.Documents.check_address.Goals.{After-text-2}
use Rattle.mirror_walk.proofs.documents.Documents.check_address.Goals.{else-eq-via-then-eq+else-eq-2}
use Rattle.mirror_walk.proofs.documents.Documents.check_address.Goals.{else-eq-via-else-eq}

own : (c : After-text-2) → c.address-own.result ≡ own_address c.args.given.now.document.kind
own c = c.address-own.ensures ∙ ap own_address c.kind.ensures.kind

pub returns-then-eq-2 : goal.returns-then-eq-2
returns-then-eq-2 c =
    let d = (goal.at.returns-then-eq-2 c).After-text-2 in
    let document = c.args.given.now.document in
    let read : c.read.result ≡ Some c.address-own.result = grind (arith, common_steps) in
    let base : document.name.base ≡ c.self.inside.base =
    ap (λ (n : FeedName). n.base) (sym c.requires) ∙ sym c.text.ensures.text
    ∙ (bytes_eq-Decides c.text.result.now c.text-2.result.now).0 (sym c.if-eq.ensures)
    ∙ c.text-2.ensures.text in
    let found = rw read at c.read.ensures.found in
    address-right c.args.self.now.base c.args.address.now document
    (base ∙ ap (λ (h : HeldValue). h.base) c.self.view_is)
    (found.1 ∙ own_text-printed c.self.inside.base document c.address-own.result base (own d))

pub returns : goal.returns
returns c =
    let d = (goal.at.returns c).After-text-2 in
    let document = c.args.given.now.document in
    let says : c.from_vec.result ≡ own_text document = search rules in
    subst (λ (text : List ℕ). wrong_address c.args.self.now.base c.args.address.now document
    ≡ Some (Err (WrongAddress text))) (sym says)
    (address-wrong c.args.self.now.base c.args.address.now document (λ base is.
    let base' : document.name.base ≡ c.self.inside.base = base
    ∙ ap (λ (h : HeldValue). h.base) (sym c.self.view_is) in
    elim c.else-eq.branch [
      | else-eq-via-else-eq w ↦
          let same : c.text.result.now ≡ c.text-2.result.now =
          c.text.ensures.text ∙ ap (λ (n : FeedName). n.base) c.requires ∙ base'
          ∙ sym c.text-2.ensures.text in
          let clash : bytes_eq c.text.result.now c.text-2.result.now ≡ true =
          (bytes_eq-Decides c.text.result.now c.text-2.result.now).1 same in
          false≢true (w.if-eq.ensures ∙ clash)
      | else-eq-via-then-eq+else-eq-2 w ↦
          let named : IsAddress c.address-own.result = search rules in
          let read : w.read.result ≡ Some c.address-own.result = w.read.ensures.only c.address-own.result
          named
          (is ∙ sym (own_text-printed c.self.inside.base document c.address-own.result base' (own d))) in
          grind (arith, common_steps)
    ]))
