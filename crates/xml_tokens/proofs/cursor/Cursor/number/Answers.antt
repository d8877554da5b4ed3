use Rattle.std.proofs.Common.{arith, ◌≡◌, ℕ, List, [], ◌∷◌, ◌+◌, ◌*◌, ◌≤◌, ◌<◌, inl, inr, Option, Some, Err, sym, ap}
use Rattle.std.proofs.Common.{subst, ◌∙◌}
use Rattle.std.specs.Prelude.{unwrap_or, Result}
use Rattle.std.specs.Char.{digit_value}
use Rattle.std.proofs.lemmas.List.{nil_from_length}
use Rattle.xml_tokens.specs.declared.cursor.Lapse.{Lapse}
use Rattle.xml_tokens.specs.declared.cursor.Lapse.TheVariants.{Broken, Cut}
use Rattle.xml_tokens.specs.Reading.{numbered_behind, Reads}
use Rattle.xml_tokens.proofs.PartLemmas.{leads_reads, leads_leads, err_reads, Leads}
use Rattle.xml_tokens.proofs.NumberLemmas.{IsBase, left, number_begun, number_lives, number_ended, semicolon_reads}
use Rattle.xml_tokens.proofs.NumberLemmas.{byte_stops}
use Rattle.xml_tokens.proofs.NumberLemmas.{digit_leads, digit_err, digit_ok, number_fits}
use Rattle.xml_tokens.proofs.cursor.Cursor.number.Goals as goal

-- the result from the byte on is the result of the whole
from_byte : (base byte : ℕ) (value : Option ℕ) (text rest tail end : List ℕ) → IsBase base →
    unwrap_or value 0 ≤ 0x10_FFFF → Leads (numbered_behind base) text (left base value) rest → rest ≡ byte ∷ tail →
    (r : Result ℕ Lapse) → Reads (left base value) (byte ∷ tail) r end → Reads (numbered_behind base) text r end
from_byte base byte value text rest tail end is small leads split r read =
    let R : List ℕ → Type 0 = λ xs. Reads (left base value) xs r end in
    leads_reads leads (number_lives base value is small) r end (subst R (sym split) read)

pub loop-byte-init : goal.loop-byte-init
loop-byte-init c = record { small = omega arith; leads = number_begun c.args.base c.args.self.now.rest.now }

pub returns-then-byte-eq59 : goal.returns-then-byte-eq59
returns-then-byte-eq59 c =
    let tail = c.in-Some.tail.now in
    let i = c.loop-byte.invariant in
    from_byte c.args.base 59 c.loop-byte.value c.args.self.now.rest.now c.loop-byte.rest.now tail tail c.requires
    i.small
    i.leads (c.in-Some.ensures.cases.0 ∙ ap (λ b. b ∷ tail) c.if-byte-eq59.true) c.ok_or.result
    (semicolon_reads c.args.base c.loop-byte.value tail c.requires c.numbered.result c.numbered.ensures.found
    c.numbered.ensures.only c.ok_or.result c.ok_or.ensures.value)

pub returns-in_err-digit : goal.returns-in_err-digit
returns-in_err-digit c =
    let tail = c.in-Some.tail.now in
    let byte = c.in-Some.byte.now in
    let text = c.args.self.now.rest.now in
    let i = c.loop-byte.invariant in
    let e = c.in_err-digit.field-0.0 in
    let no = digit_err (digit_value byte) c.args.base c.digit.result c.digit.ensures e c.in_err-digit.ensures.value in
    let R : Lapse → Type 0 = λ x. Reads (numbered_behind c.args.base) text (Err x) tail in
    err_reads (numbered_behind c.args.base) text tail e c.from_residual.result c.from_residual.ensures.1
    (subst R (sym no.0) (from_byte c.args.base byte c.loop-byte.value text c.loop-byte.rest.now tail tail c.requires
    i.small i.leads c.in-Some.ensures.cases.0 (Err Broken)
    (byte_stops c.args.base byte c.loop-byte.value tail c.requires c.if-byte-eq59.false (inl no.1))))

pub overflow_mul-next : goal.overflow_mul-next
overflow_mul-next c =
    let u = c.unwrap_or.ensures in
    let i = c.loop-byte.invariant.small in
    let d = digit_ok (digit_value c.in-Some.byte.now) c.args.base c.digit.result c.digit.ensures c.in_ok-digit.digit
    c.in_ok-digit.ensures.value in
    let fits =
    number_fits c.args.base c.unwrap_or.result (digit_value c.in-Some.byte.now) c.requires (omega arith) d.1 in
    omega arith

pub overflow_add-next : goal.overflow_add-next
overflow_add-next c =
    let u = c.unwrap_or.ensures in
    let i = c.loop-byte.invariant.small in
    let d = digit_ok (digit_value c.in-Some.byte.now) c.args.base c.digit.result c.digit.ensures c.in_ok-digit.digit
    c.in_ok-digit.ensures.value in
    let same = d.0 in
    let fits =
    number_fits c.args.base c.unwrap_or.result (digit_value c.in-Some.byte.now) c.requires (omega arith) d.1 in
    omega arith

pub returns-then-next-gt-LAST_CHAR : goal.returns-then-next-gt-LAST_CHAR
returns-then-next-gt-LAST_CHAR c =
    let tail = c.in-Some.tail.now in
    let byte = c.in-Some.byte.now in
    let i = c.loop-byte.invariant in
    let d = digit_ok (digit_value byte) c.args.base c.digit.result c.digit.ensures c.in_ok-digit.digit
    c.in_ok-digit.ensures.value in
    let large : 0x10_FFFF < unwrap_or c.loop-byte.value 0 * c.args.base + digit_value byte =
    let u = c.unwrap_or.ensures in let same = d.0 in let P : ℕ →
    Type 0 = λ n. 0x10_FFFF < n * c.args.base + digit_value byte in
    subst P u (omega arith) in
    from_byte c.args.base byte c.loop-byte.value c.args.self.now.rest.now c.loop-byte.rest.now tail tail c.requires
    i.small i.leads c.in-Some.ensures.cases.0 (Err Broken)
    (byte_stops c.args.base byte c.loop-byte.value tail c.requires c.if-byte-eq59.false (inr large))

pub loop-byte-preserved : goal.loop-byte-preserved
loop-byte-preserved c =
    let tail = c.in-Some.tail.now in
    let byte = c.in-Some.byte.now in
    let base = c.args.base in
    let value = c.loop-byte.value in
    let text = c.args.self.now.rest.now in
    let i = c.loop-byte.invariant in
    let d = digit_ok (digit_value byte) base c.digit.result c.digit.ensures c.in_ok-digit.digit
    c.in_ok-digit.ensures.value in
    let next : unwrap_or value 0 * base + digit_value byte ≡ c.unwrap_or.result * base + c.in_ok-digit.digit =
    λ k. sym c.unwrap_or.ensures k * base + sym d.0 k in
    let L : List ℕ → Type 0 = λ xs. Leads (numbered_behind base) text (left base value) xs in
    let N : ℕ → Type 0 = λ n. Leads (numbered_behind base) text (left base (Some n)) tail in
    record {
      small = omega arith;
      leads = subst N next (leads_leads (subst L c.in-Some.ensures.cases.0 i.leads)
          (digit_leads base byte value tail c.if-byte-eq59.false d.1));
    }

pub returns : goal.returns
returns c =
    let i = c.loop-byte.invariant in
    leads_reads i.leads (number_lives c.args.base c.loop-byte.value c.requires i.small) (Err Cut) []
    (number_ended c.args.base c.loop-byte.value c.loop-byte.rest.now c.requires i.small
    (nil_from_length c.loop-byte.rest.now c.in_default.ensures.cases) [])
