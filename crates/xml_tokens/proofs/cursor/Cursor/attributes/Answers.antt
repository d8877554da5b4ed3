use Rattle.std.proofs.Common.{◌≡◌, ◌≢◌, ℕ, [], ◌∷◌, List, false, sym, ap, ◌∙◌}
use Rattle.std.proofs.lemmas.List.{nil_from_length}
use Rattle.xml_tokens.proofs.CursorLemmas.{no_first, first_is, byte_taken}
use Rattle.xml_tokens.proofs.BehindNameLemmas.{no_state, attribute_state, cut_behind, end_read, slash_reads}
use Rattle.xml_tokens.proofs.BehindNameLemmas.{tag_broken}
use Rattle.std.specs.Prelude.{Result, Err}
use Rattle.std.proofs.Common.{subst}
use Rattle.xml_tokens.specs.declared.cursor.Lapse.{Lapse}
use Rattle.xml_tokens.specs.Reading.{Reads, attribute_parts}
use Rattle.xml_tokens.proofs.BehindNameLemmas.{no_end_at, cut_within}
use Rattle.xml_tokens.proofs.cursor.Cursor.attributes.Goals as goal

pub loop-self-init : goal.loop-self-init
loop-self-init c = λ none. no_state c.args.self.now.rest.now c.args.attributes.now.items none

pub loop-self-preserved : goal.loop-self-preserved
loop-self-preserved c = λ none.
    attribute_state (c.loop-self.invariant none) c.spaces-spaced.ensures c.if-not-spaced.false
    c.attribute.new.attributes.items
    c.attribute.new.self.rest.now c.in-Ok.ensures.read

pub returns-in-None : goal.returns-in-None
returns-in-None c = λ none.
    cut_behind (c.loop-self.invariant none) c.spaces-spaced.ensures
    (no_first c.spaces-spaced.new.self.rest.now c.in-None.ensures.value)

pub returns-in-Some-eq62 : goal.returns-in-Some-eq62
returns-in-Some-eq62 c = λ none.
    let spaced = c.spaces-spaced.new.self.rest.now in
    let f = first_is spaced c.in-Some-eq62.field-0.now c.in-Some-eq62.ensures.value in
    let whole : spaced ≡ 62 ∷ f.0 = f.1 ∙ ap (λ k. k ∷ f.0) c.in-Some-eq62.field-0-test in
    end_read (c.loop-self.invariant none) c.spaces-spaced.ensures false c.take.new.self.rest.now
    (byte_taken 62 f.0 spaced c.take.result.now c.take.new.self.rest.now whole c.take.ensures.split
    c.take.ensures.length)

pub returns-in-Some-eq47 : goal.returns-in-Some-eq47
returns-in-Some-eq47 c = λ none.
    let spaced = c.spaces-spaced.new.self.rest.now in
    let f = first_is spaced c.in-Some-eq47.field-0.now c.in-Some-eq47.ensures.value in
    slash_reads (c.loop-self.invariant none) c.spaces-spaced.ensures f.0
    (f.1 ∙ ap (λ k. k ∷ f.0) c.in-Some-eq47.field-0-test) c.empty_end.result c.empty_end.new.self.rest.now
    c.empty_end.ensures

some_text : (text : List ℕ) (b : ℕ) (tail : List ℕ) → text ≡ b ∷ tail → text ≢ []
some_text text b tail is none = let g : b ∷ tail ≡ [] = sym is ∙ none in cc

pub returns-in-Some : goal.returns-in-Some
returns-in-Some c = λ none.
    let spaced = c.spaces-spaced.new.self.rest.now in
    let r = c.spaces-spaced.ensures in
    let f = first_is spaced c.in-Some.field-0.now c.in-Some.ensures.value in
    tag_broken (c.loop-self.invariant none) r (some_text spaced c.in-Some.field-0.now f.0 f.1)
    (no_end_at spaced c.in-Some.field-0.now f.0 f.1 c.in-Some.field-0-test.0.1 c.in-Some.field-0-test.1)
    (λ more gap a. gap (nil_from_length r.spaces (r.none c.if-not-spaced.true)))

pub returns-in-Err-Cut : goal.returns-in-Err-Cut
returns-in-Err-Cut c = λ none.
    let spaced = c.spaces-spaced.new.self.rest.now in
    let r = c.spaces-spaced.ensures in
    let f = first_is spaced c.in-Some.field-0.now c.in-Some.ensures.value in
    let is = c.in-Err-Cut.field-0-is in
    let R : Lapse → Type 0 = λ l. Reads attribute_parts spaced (Err l) c.attribute.new.self.rest.now in
    let E : Lapse → Result (Unit {0}) Lapse = λ l. Err l in
    cut_within (c.loop-self.invariant none) r c.if-not-spaced.false (some_text spaced c.in-Some.field-0.now f.0 f.1)
    (no_end_at spaced c.in-Some.field-0.now f.0 f.1 c.in-Some.field-0-test.0.1 c.in-Some.field-0-test.1)
    (subst R is c.in-Err-Cut.ensures.read).0 c.attribute.new.attributes.items (c.in-Err-Cut.ensures.cut (ap E is))

pub returns-in-Err-Broken : goal.returns-in-Err-Broken
returns-in-Err-Broken c = λ none.
    let spaced = c.spaces-spaced.new.self.rest.now in
    let r = c.spaces-spaced.ensures in
    let f = first_is spaced c.in-Some.field-0.now c.in-Some.ensures.value in
    let R : Lapse → Type 0 = λ l. Reads attribute_parts spaced (Err l) c.attribute.new.self.rest.now in
    let broken = subst R c.in-Err-Broken.field-0-is c.in-Err-Broken.ensures.read in
    tag_broken (c.loop-self.invariant none) r (some_text spaced c.in-Some.field-0.now f.0 f.1)
    (no_end_at spaced c.in-Some.field-0.now f.0 f.1 c.in-Some.field-0-test.0.1 c.in-Some.field-0-test.1)
    (λ more gap a. broken (more, a))
