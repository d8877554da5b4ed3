use Rattle.std.proofs.Common.{◌≡◌, [], ◌++◌, Some, None, length, drop, ⊎_elim, refl, sym, ap, ◌∙◌}
use Rattle.std.proofs.lemmas.Bool.{both_ways}
use Rattle.std.proofs.lemmas.Bool.Decides.{Decides-eqb}
use Rattle.std.proofs.lemmas.Slice.Eq.{strip_prefix_is, starts_is}
use Rattle.std.proofs.lemmas.List.{append-nil}
use Rattle.xml_tokens.specs.Reading.{exactly, Starts, Continues}
use Rattle.xml_tokens.proofs.PartLemmas.{splits}
use Rattle.xml_tokens.proofs.cursor.Cursor.literal.Goals as goal

pub returns-in-Some : goal.returns-in-Some
returns-in-Some c = record {
  front = c.args.bytes.now;
  split = strip_prefix_is Decides-eqb c.args.self.now.rest.now c.args.bytes.now (Some c.in-Some.rest)
      c.in-Some.ensures.cases;
  spelled = refl;
}

pub returns-in-None : goal.returns-in-None
returns-in-None c =
    let text = c.args.self.now.rest.now in
    let bytes = c.args.bytes.now in
    let none = strip_prefix_is Decides-eqb text bytes None c.in-None.ensures.cases in
    let begun = (starts_is Decides-eqb bytes text c.starts_with.result c.starts_with.ensures.value).0
    c.if-starts_with.true in (
      (λ (some : Starts (exactly bytes) text). none some.1
          (some.2.split ∙ ap (λ xs. xs ++ some.1) some.2.spelled)),
      (
        drop (length text) bytes,
        (
          tt,
          [],
          record {
            front = bytes;
            split = sym begun
                ∙ sym (append-nil bytes);
            spelled = refl;
          },
        ),
      ),
    )

pub returns-in-None-2 : goal.returns-in-None-2
returns-in-None-2 c =
    let text = c.args.self.now.rest.now in
    let bytes = c.args.bytes.now in
    let none = strip_prefix_is Decides-eqb text bytes None c.in-None.ensures.cases in
    let not_begun = (starts_is Decides-eqb bytes text c.starts_with.result c.starts_with.ensures.value).1 in
    λ (some : Continues (exactly bytes) text).
    let found = some.1.2 in
    let same : text ++ some.0 ≡ bytes ++ some.1.1 = found.split ∙ ap (λ xs. xs ++ some.1.1) found.spelled in
    ⊎_elim
    (λ longer. both_ways c.starts_with.result c.if-starts_with.false (not_begun longer.0 longer.1))
    (λ shorter. none shorter.0 shorter.1)
    (splits text some.0 bytes some.1.1 same)
