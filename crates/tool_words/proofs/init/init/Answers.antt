use Rattle.std.proofs.Common.{Global, map, refl, inl, string_bytes}
use Rattle.tool_words.proofs.FaultLemmas.{memory_only, memory_of, not_usage_of}
use Rattle.tool_words.proofs.InitLemmas.{init_gives, gives_init, same_init}
use Rattle.tool_words.proofs.init.init.Goals as goal

pub returns-in_err-matches-clause-only : goal.returns-in_err-matches-clause-only
returns-in_err-matches-clause-only c = λ name window capacity i.
    memory_of c.from_residual.result c.in_err-matches.field-0.0 _ c.from_residual.ensures.1
    (c.in_err-matches.ensures.only i.options i.are_options)

pub returns-in_err-name-clause-only : goal.returns-in_err-name-clause-only
returns-in_err-name-clause-only c = λ name window capacity i.
    let g = init_gives (map (string_bytes {Z = Global}) c.args.words.now) c.in_ok-matches.matches name window capacity i
    (c.in_ok-matches.ensures.only i.options i.are_options) in
    memory_only c.from_residual-in_err-name.result c.in_err-name.field-0.0 _ c.from_residual-in_err-name.ensures.1
    (not_usage_of c.in_err-name.field-0.0 name (c.in_err-name.ensures.only name g.named))

pub returns-in_err-window-clause-only : goal.returns-in_err-window-clause-only
returns-in_err-window-clause-only c = λ name window capacity i.
    let g = init_gives (map (string_bytes {Z = Global}) c.args.words.now) c.in_ok-matches.matches name window capacity i
    (c.in_ok-matches.ensures.only i.options i.are_options) in
    absurd (let e = c.in_err-window.ensures.only window g.window_is in cc)

pub returns-in_err-capacity-clause-only : goal.returns-in_err-capacity-clause-only
returns-in_err-capacity-clause-only c = λ name window capacity i.
    let g = init_gives (map (string_bytes {Z = Global}) c.args.words.now) c.in_ok-matches.matches name window capacity i
    (c.in_ok-matches.ensures.only i.options i.are_options) in
    absurd (let e = c.in_err-capacity.ensures.only capacity g.capacity_is in cc)

pub returns-clause-found : goal.returns-clause-found
returns-clause-found c =
    let (options, are, match) = c.in_ok-matches.ensures.found in (
      c.in_ok-name.name,
      c.in_ok-window.window,
      c.in_ok-capacity.capacity,
      refl,
      gives_init (map (string_bytes {Z = Global}) c.args.words.now) c.in_ok-matches.matches options
          c.in_ok-name.name c.in_ok-window.window c.in_ok-capacity.capacity are match
          (record {
            named = c.in_ok-name.ensures.found;
            window_is = c.in_ok-window.ensures.found;
            capacity_is = c.in_ok-capacity.ensures.found;
          }),
    )

pub returns-clause-only : goal.returns-clause-only
returns-clause-only c = λ name window capacity i.
    let g = init_gives (map (string_bytes {Z = Global}) c.args.words.now) c.in_ok-matches.matches name window capacity i
    (c.in_ok-matches.ensures.only i.options i.are_options) in
    inl (same_init name c.in_ok-name.name window c.in_ok-window.window capacity c.in_ok-capacity.capacity
    (c.in_ok-name.ensures.only name g.named) (c.in_ok-window.ensures.only window g.window_is)
    (c.in_ok-capacity.ensures.only capacity g.capacity_is))
