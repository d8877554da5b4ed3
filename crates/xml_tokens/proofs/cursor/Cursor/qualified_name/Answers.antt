use Rattle.std.proofs.Common.{◌≡◌, ◌++◌, ℕ, List, ◌∷◌, Ok, Err, length, take, sym, subst, ◌∙◌, arith}
use Rattle.std.proofs.lemmas.List.{length-append}
use Rattle.std.specs.Prelude.{Result}
use Rattle.atom_values.specs.Ascii.{colon}
use Rattle.xml_tokens.specs.declared.cursor.Lapse.{Lapse}
use Rattle.xml_tokens.specs.declared.cursor.Cursor.{Cursor}
use Rattle.xml_tokens.specs.Reading.{whole_name, whole_qname, IsFound, Reads}
use Rattle.xml_tokens.proofs.PartLemmas.{err_matches, same_reads, then_reads, joins_fails, leads_reads}
use Rattle.xml_tokens.proofs.PartLemmas.{mapped_fails, mapped_reads}
use Rattle.xml_tokens.proofs.CursorLemmas.{name_then, name_behind, name_behind_joins, to_qname, from_qname}
use Rattle.xml_tokens.proofs.CursorLemmas.{colon_leads, local_lives}
use Rattle.xml_tokens.proofs.CursorLemmas.{local_behind, plain_found, byte_read, qname_cut}
use Rattle.xml_tokens.proofs.cursor.Cursor.qualified_name.Goals as goal
use Rattle.xml_tokens.proofs.cursor.Cursor.qualified_name.Goals.{then-at+in_ok-length-2, else-at}

pub returns-in_err-length : goal.returns-in_err-length
returns-in_err-length c =
    let text = c.args.self.now.rest.now in
    let end = c.name.new.self.rest.now in
    let e = c.in_err-length.field-0.0 in
    err_matches whole_qname text end e c.from_residual.result c.from_residual.ensures.1
    (same_reads whole_qname name_then to_qname from_qname text (Err e) end
    (joins_fails name_behind_joins text e end end c.in_err-length.ensures))

-- the result after a name and its colon is the result of the whole
behind_colon : (text name after last end : List ℕ) → IsFound whole_name text name after → after ≡ colon ∷ last →
    (r : Result (List ℕ) Lapse) → Reads (local_behind name) last r end → Reads whole_qname text r end
behind_colon text name after last end found is r read =
    let R : List ℕ → Type 0 = λ xs. Reads (name_behind name) xs r end in
    same_reads whole_qname name_then to_qname from_qname text r end
    (then_reads name_behind_joins text name after found r end
    (subst R (sym is) (leads_reads (colon_leads name last) (local_lives name) r end read)))

pub returns-in_err-length-2 : goal.returns-in_err-length-2
returns-in_err-length-2 c =
    let text = c.args.self.now.rest.now in
    let name = c.in_ok-length.field-0.now in
    let after = c.name.new.self.rest.now in
    let last = c.take.new.self.rest.now in
    let end = c.name-then-at.new.self.rest.now in
    let e = c.in_err-length-2.field-0.0 in
    let is = byte_read colon after c.take.result.now last (sym c.at.ensures
    ∙ c.if-at.true) c.take.ensures.split c.take.ensures.length in
    err_matches whole_qname text end e c.from_residual-in_err-length-2.result c.from_residual-in_err-length-2.ensures.1
    (behind_colon text name after last end c.in_ok-length.ensures is (Err e)
    (mapped_fails (λ local. name ++ colon ∷ local) whole_name last e end c.in_err-length-2.ensures))

pub returns : goal.returns
returns c =
    let text = c.args.self.now.rest.now in
    let name = c.in_ok-length.field-0.now in
    let after = c.name.new.self.rest.now in
    let F : Cursor → Type 0 = λ k. IsFound whole_qname text (take c.if-at.length text) k.rest.now in
    elim c.if-at.branch [
      | then-at+in_ok-length-2 w ↦
          let local = w.in_ok-length-2.field-0.now in
          let last = w.take.new.self.rest.now in
          let end = w.name-then-at.new.self.rest.now in
          let is = byte_read colon after w.take.result.now last (sym c.at.ensures ∙ w.if-at.true) w.take.ensures.split
          w.take.ensures.length in
          let found =
          behind_colon text name after last end c.in_ok-length.ensures is (Ok (name ++ colon ∷ local))
          (mapped_reads (λ xs. name ++ colon ∷ xs) whole_name last local end w.in_ok-length-2.ensures) in
          let long : c.if-at.length ≡ length (name ++ colon ∷ local) =
          omega (arith, w.length-is, length-append name (colon ∷ local)) in
          subst F (sym w.self-is) (qname_cut text (name ++ colon ∷ local) end c.if-at.length found long)
      | else-at w ↦
          let ends = c.in_ok-length.ensures.spelled.2 in
          let plain = plain_found name after ends (sym c.at.ensures ∙ w.if-at.false) in
          let found =
          same_reads whole_qname name_then to_qname from_qname text (Ok name) after
          (then_reads name_behind_joins text name after c.in_ok-length.ensures (Ok name) after plain) in
          subst F (sym w.self-is) (qname_cut text name after c.if-at.length found w.length-is)
    ]
