use Rattle.std.proofs.Common.{◌≡◌, [], refl, Ok, Err, true, length, sym, ap, ◌∙◌, arith, eqb-true}
use Rattle.std.proofs.Common.{not}
use Rattle.std.proofs.Math.ListN.{set}
use Rattle.std.proofs.Math.Seq.{set-append_seam}
use Rattle.std.specs.Result.{is_ok}
use Rattle.std.proofs.lemmas.Bool.{cond-true}
use Rattle.std.proofs.lemmas.List.{nil_from_length, map-append}
use Rattle.xml_tokens.specs.declared.tag.Attribute.{Attribute as Raw}
use Rattle.xml_tokens.specs.declared.cursor.Lapse.TheVariants.{Cut}
use Rattle.xml_tokens.specs.Reading.{attribute_parts, value_behind}
use Rattle.xml_tokens.proofs.PartLemmas.{then_reads, joins_fails, err_only, mapped_fails, mapped_reads}
use Rattle.xml_tokens.proofs.AttributeLemmas.{attribute_name, attribute_sign, attribute_quote, name_ended}
use Rattle.std.proofs.Common.{◌≢◌, ℕ, List, false, eqb, subst, inl, inr}
use Rattle.std.specs.Prelude.{Result}
use Rattle.std.specs.Result.{IsErrAnd}
use Rattle.std.proofs.lemmas.Bool.{both_ways}
use Rattle.xml_tokens.specs.declared.cursor.Lapse.{Lapse}
use Rattle.xml_tokens.specs.Reading.{Reads, whole_qname, equals_sign, one_quote, names}
use Rattle.xml_tokens.proofs.AttributeCutLemmas.{name_cut, name_last, sign_cut, quote_cut, value_ends}
use Rattle.xml_tokens.proofs.cursor.Cursor.attribute.Goals as goal

pub returns-in_err-name-clause-read : goal.returns-in_err-name-clause-read
returns-in_err-name-clause-read c =
    let text = c.args.self.now.rest.now in
    let end = c.qualified_name.new.self.rest.now in
    let e = c.in_err-name.field-0.0 in
    err_only attribute_parts _ text end e c.from_residual.result c.from_residual.ensures.1
    (joins_fails attribute_name text e end end c.in_err-name.ensures)

pub returns-then-is_empty-clause-read : goal.returns-then-is_empty-clause-read
returns-then-is_empty-clause-read c =
    let text = c.args.self.now.rest.now in
    let named = c.qualified_name.new.self.rest.now in
    let name = c.in_ok-name.name.now in
    then_reads attribute_name text name named c.in_ok-name.ensures (Err Cut) named
    (name_ended name named (nil_from_length named (eqb-true (length named) 0 (sym c.if-is_empty.ensures))) named)

pub returns-in_err-equals-clause-read : goal.returns-in_err-equals-clause-read
returns-in_err-equals-clause-read c =
    let text = c.args.self.now.rest.now in
    let named = c.qualified_name.new.self.rest.now in
    let name = c.in_ok-name.name.now in
    let end = c.equals.new.self.rest.now in
    let e = c.in_err-equals.field-0.0 in
    err_only attribute_parts _ text end e c.from_residual-in_err-equals.result c.from_residual-in_err-equals.ensures.1
    (then_reads attribute_name text name named c.in_ok-name.ensures (Err e) end
    (joins_fails (attribute_sign name) named e end end c.in_err-equals.ensures))

pub returns-in_err-quote-clause-read : goal.returns-in_err-quote-clause-read
returns-in_err-quote-clause-read c =
    let text = c.args.self.now.rest.now in
    let named = c.qualified_name.new.self.rest.now in
    let name = c.in_ok-name.name.now in
    let signed = c.equals.new.self.rest.now in
    let end = c.quote.new.self.rest.now in
    let e = c.in_err-quote.field-0.0 in
    err_only attribute_parts _ text end e c.from_residual-in_err-quote.result c.from_residual-in_err-quote.ensures.1
    (then_reads attribute_name text name named c.in_ok-name.ensures (Err e) end
    (then_reads (attribute_sign name) named tt signed c.in_ok-equals.ensures (Err e) end
    (joins_fails (attribute_quote name) signed e end end c.in_err-quote.ensures)))

pub returns-in_err-written-clause-read : goal.returns-in_err-written-clause-read
returns-in_err-written-clause-read c =
    let text = c.args.self.now.rest.now in
    let named = c.qualified_name.new.self.rest.now in
    let name = c.in_ok-name.name.now in
    let signed = c.equals.new.self.rest.now in
    let quoted = c.quote.new.self.rest.now in
    let q = c.in_ok-quote.quote in
    let end = c.value.new.self.rest.now in
    let e = c.in_err-written.field-0.0 in
    err_only attribute_parts _ text end e c.from_residual-in_err-written.result c.from_residual-in_err-written.ensures.1
    (then_reads attribute_name text name named c.in_ok-name.ensures (Err e) end
    (then_reads (attribute_sign name) named tt signed c.in_ok-equals.ensures (Err e) end
    (then_reads (attribute_quote name) signed q quoted c.in_ok-quote.ensures (Err e) end
    (mapped_fails (λ written. (name, written)) (value_behind q) quoted e end c.in_err-written.ensures))))

pub returns-clause-read : goal.returns-clause-read
returns-clause-read c =
    let text = c.args.self.now.rest.now in
    let named = c.qualified_name.new.self.rest.now in
    let name = c.in_ok-name.name.now in
    let signed = c.equals.new.self.rest.now in
    let quoted = c.quote.new.self.rest.now in
    let q = c.in_ok-quote.quote in
    let end = c.value.new.self.rest.now in
    let written = c.in_ok-written.written.now in
    let old = c.args.attributes.now.items in
    let ok : is_ok c.push.result ≡ true = c.is_err.ensures.negation ∙ ap not c.if-is_err.false in
    let pushed = c.push.ensures.items ∙ cond-true (is_ok c.push.result) _ _ ok in
    let kept : c.len-kept.result ≡ length old = omega arith in
    let a : Raw = record { name = c.in_ok-name.name; written = c.in_ok-written.written } in (
      a,
      (λ i. set (pushed i) (kept i) a) ∙ set-append_seam old _ [] a,
      then_reads attribute_name text name named c.in_ok-name.ensures (Ok (name, written)) end
          (then_reads (attribute_sign name) named tt signed c.in_ok-equals.ensures (Ok (name, written)) end
          (then_reads (attribute_quote name) signed q quoted c.in_ok-quote.ensures (Ok (name, written)) end
          (mapped_reads (λ xs. (name, xs)) (value_behind q) quoted written end c.in_ok-written.ensures))),
    )

-- the lapse that a `?` passes on
passed : (r : Result (Unit {0}) Lapse) (e : Lapse) → IsErrAnd r (λ s. s ≡ e) → r ≡ Err Cut → e ≡ Cut
passed (Ok v) e same is = absurd same
passed (Err s) e same is = let g : s ≡ Cut = cc in sym same ∙ g

pub returns-in_err-name-clause-cut : goal.returns-in_err-name-clause-cut
returns-in_err-name-clause-cut c = λ is.
    let text = c.args.self.now.rest.now in
    let end = c.qualified_name.new.self.rest.now in
    let e = c.in_err-name.field-0.0 in
    let R : Lapse → Type 0 = λ l. Reads whole_qname text (Err l) end in
    inl (
      refl,
      name_cut text end
          (subst R (passed c.from_residual.result e c.from_residual.ensures.1 is) c.in_err-name.ensures),
    )

pub returns-then-is_empty-clause-cut : goal.returns-then-is_empty-clause-cut
returns-then-is_empty-clause-cut c = λ is.
    let named = c.qualified_name.new.self.rest.now in
    inl (
      refl,
      name_last c.args.self.now.rest.now c.in_ok-name.name.now named c.in_ok-name.ensures
          (nil_from_length named (eqb-true (length named) 0 (sym c.if-is_empty.ensures))),
    )

some_left : (text : List ℕ) → false ≡ eqb (length text) 0 → text ≢ []
some_left text e none = both_ways (eqb (length text) 0) (sym e) (ap (λ xs. eqb (length xs) 0) none)

pub returns-in_err-equals-clause-cut : goal.returns-in_err-equals-clause-cut
returns-in_err-equals-clause-cut c = λ is.
    let text = c.args.self.now.rest.now in
    let named = c.qualified_name.new.self.rest.now in
    let end = c.equals.new.self.rest.now in
    let e = c.in_err-equals.field-0.0 in
    let R : Lapse → Type 0 = λ l. Reads equals_sign named (Err l) end in
    let ok : is_ok c.push.result ≡ true = c.is_err.ensures.negation ∙ ap not c.if-is_err.false in
    let pushed = c.push.ensures.items ∙ cond-true (is_ok c.push.result) _ _ ok in
    inr (
      c.in_ok-name.name.now,
      ap names pushed ∙ map-append (λ (a : Raw). a.name.now) c.args.attributes.now.items _,
      sign_cut text c.in_ok-name.name.now named end c.in_ok-name.ensures (some_left named c.if-is_empty.ensures)
          (subst R (passed c.from_residual-in_err-equals.result e c.from_residual-in_err-equals.ensures.1 is)
          c.in_err-equals.ensures),
    )

pub returns-in_err-quote-clause-cut : goal.returns-in_err-quote-clause-cut
returns-in_err-quote-clause-cut c = λ is.
    let text = c.args.self.now.rest.now in
    let named = c.qualified_name.new.self.rest.now in
    let signed = c.equals.new.self.rest.now in
    let end = c.quote.new.self.rest.now in
    let e = c.in_err-quote.field-0.0 in
    let R : Lapse → Type 0 = λ l. Reads one_quote signed (Err l) end in
    let ok : is_ok c.push.result ≡ true = c.is_err.ensures.negation ∙ ap not c.if-is_err.false in
    let pushed = c.push.ensures.items ∙ cond-true (is_ok c.push.result) _ _ ok in
    inr (
      c.in_ok-name.name.now,
      ap names pushed ∙ map-append (λ (a : Raw). a.name.now) c.args.attributes.now.items _,
      quote_cut text c.in_ok-name.name.now named signed end c.in_ok-name.ensures (some_left named c.if-is_empty.ensures)
          c.in_ok-equals.ensures
          (subst R (passed c.from_residual-in_err-quote.result e c.from_residual-in_err-quote.ensures.1 is)
          c.in_err-quote.ensures),
    )

pub returns-in_err-written-clause-cut : goal.returns-in_err-written-clause-cut
returns-in_err-written-clause-cut c = λ is.
    let text = c.args.self.now.rest.now in
    let named = c.qualified_name.new.self.rest.now in
    let signed = c.equals.new.self.rest.now in
    let quoted = c.quote.new.self.rest.now in
    let end = c.value.new.self.rest.now in
    let e = c.in_err-written.field-0.0 in
    let R : Lapse → Type 0 = λ l. Reads (value_behind c.in_ok-quote.quote) quoted (Err l) end in
    let ok : is_ok c.push.result ≡ true = c.is_err.ensures.negation ∙ ap not c.if-is_err.false in
    let pushed = c.push.ensures.items ∙ cond-true (is_ok c.push.result) _ _ ok in
    inr (
      c.in_ok-name.name.now,
      ap names pushed ∙ map-append (λ (a : Raw). a.name.now) c.args.attributes.now.items _,
      value_ends text c.in_ok-name.name.now named signed quoted end c.in_ok-quote.quote c.in_ok-name.ensures
          (some_left named c.if-is_empty.ensures) c.in_ok-equals.ensures c.in_ok-quote.ensures
          (subst R (passed c.from_residual-in_err-written.result e c.from_residual-in_err-written.ensures.1 is)
          c.in_err-written.ensures),
    )
