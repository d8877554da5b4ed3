use Rattle.std.proofs.Common.{Global, inl, map, refl, string_bytes, subst, sym}
use Rattle.tool_words.specs.Words.{IsApply}
use Rattle.tool_words.proofs.FaultLemmas.{memory_of}
use Rattle.tool_words.proofs.PlaceLemmas.{apply_are, same_window, window_takes, window_words}
use Rattle.tool_words.proofs.words.apply.Goals as goal

pub returns-in_err-matches-clause-only : goal.returns-in_err-matches-clause-only
returns-in_err-matches-clause-only c = λ window i.
    let words = map (string_bytes {Z = Global}) c.args.words.now in
    let are = apply_are words window i in
    memory_of c.from_residual.result c.in_err-matches.field-0.0 _ c.from_residual.ensures.1
    (c.in_err-matches.ensures.only are (window_takes words are))

pub returns-in_err-window-clause-only : goal.returns-in_err-window-clause-only
returns-in_err-window-clause-only c = λ window i.
    let (are, has) = c.in_ok-matches.ensures.found in
    let words = window_words (map (string_bytes {Z = Global}) c.args.words.now) c.in_ok-matches.matches
    c.get_str.result are has c.get_str.ensures in
    absurd (let e = c.in_err-window.ensures.only window (subst (λ some. IsApply some window) words i) in cc)

pub returns-clause-found : goal.returns-clause-found
returns-clause-found c =
    let (are, has) = c.in_ok-matches.ensures.found in
    let words = window_words (map (string_bytes {Z = Global}) c.args.words.now) c.in_ok-matches.matches
    c.get_str.result are has c.get_str.ensures in (
      c.in_ok-window.window,
      refl,
      subst (λ some. IsApply some c.in_ok-window.window) (sym words) c.in_ok-window.ensures.found,
    )

pub returns-clause-only : goal.returns-clause-only
returns-clause-only c = λ window i.
    let (are, has) = c.in_ok-matches.ensures.found in
    let words = window_words (map (string_bytes {Z = Global}) c.args.words.now) c.in_ok-matches.matches
    c.get_str.result are has c.get_str.ensures in
    inl (same_window c.in_ok-window.window window
    (c.in_ok-window.ensures.only window (subst (λ some. IsApply some window) words i)))
