use Rattle.std.proofs.Common.{Global, Some, ap, inl, map, refl, string_bytes, subst, sym}
use Rattle.tool_words.specs.Words.{IsShow}
use Rattle.tool_words.specs.declared.command.Show.TheVariants.{Document}
use Rattle.tool_words.proofs.FaultLemmas.{memory_of}
use Rattle.tool_words.proofs.PlaceLemmas.{kind_words, no_kind, no_words, same_show, show_are, show_takes}
use Rattle.tool_words.proofs.words.show.Goals as goal

pub returns-in_err-matches-clause-only : goal.returns-in_err-matches-clause-only
returns-in_err-matches-clause-only c = λ shown i.
    let words = map (string_bytes {Z = Global}) c.args.words.now in
    let are = show_are words shown i in
    memory_of c.from_residual.result c.in_err-matches.field-0.0 _ c.from_residual.ensures.1
    (c.in_err-matches.ensures.only are (show_takes words are))

pub returns-in_default-clause-found : goal.returns-in_default-clause-found
returns-in_default-clause-found c =
    let (are, has) = c.in_ok-matches.ensures.found in (
      Document,
      refl,
      no_words (map (string_bytes {Z = Global}) c.args.words.now) c.in_ok-matches.matches are has
          c.in_default.ensures,
    )

pub returns-in_default-clause-only : goal.returns-in_default-clause-only
returns-in_default-clause-only c = λ shown i.
    let (are, has) = c.in_ok-matches.ensures.found in
    let none = no_words (map (string_bytes {Z = Global}) c.args.words.now) c.in_ok-matches.matches are has
    c.in_default.ensures in
    inl (same_show Document shown
    (ap Some (sym (no_kind (map (string_bytes {Z = Global}) c.args.words.now) shown none i))))

pub returns-in_default-shown_of-clause-only : goal.returns-in_default-shown_of-clause-only
returns-in_default-shown_of-clause-only c = λ shown i.
    let (are, has) = c.in_ok-matches.ensures.found in
    let words = kind_words (map (string_bytes {Z = Global}) c.args.words.now) c.in_ok-matches.matches c.in-Some.kind.now
    c.get_str-2.result are has c.in-Some.ensures c.get_str-2.ensures in
    absurd (c.in_default-shown_of.not-Some shown
    (c.shown_of.ensures.only shown (subst (λ some. IsShow some shown) words i)))

pub returns-clause-found : goal.returns-clause-found
returns-clause-found c =
    let (are, has) = c.in_ok-matches.ensures.found in
    let words = kind_words (map (string_bytes {Z = Global}) c.args.words.now) c.in_ok-matches.matches c.in-Some.kind.now
    c.get_str-2.result are has c.in-Some.ensures c.get_str-2.ensures in (
      c.in-Some-shown_of.shown,
      refl,
      subst (λ some. IsShow some c.in-Some-shown_of.shown) (sym words) c.in-Some-shown_of.ensures.found,
    )

pub returns-clause-only : goal.returns-clause-only
returns-clause-only c = λ shown i.
    let (are, has) = c.in_ok-matches.ensures.found in
    let words = kind_words (map (string_bytes {Z = Global}) c.args.words.now) c.in_ok-matches.matches c.in-Some.kind.now
    c.get_str-2.result are has c.in-Some.ensures c.get_str-2.ensures in
    inl (same_show c.in-Some-shown_of.shown shown
    (c.in-Some-shown_of.ensures.only shown (subst (λ some. IsShow some shown) words i)))
