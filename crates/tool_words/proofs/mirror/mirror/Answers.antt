use Rattle.std.proofs.Common.{Global, map, refl, ◌∙◌, inl, string_bytes}
use Rattle.tool_words.proofs.FaultLemmas.{memory_only, memory_of, not_usage_of}
use Rattle.tool_words.proofs.MirrorLemmas.{fetch_read, gives_mirror, mirror_gives, report_read, same_mirror}
use Rattle.tool_words.proofs.mirror.mirror.Goals as goal

pub returns-in_err-matches-clause-only : goal.returns-in_err-matches-clause-only
returns-in_err-matches-clause-only c = λ base fetch report capacity i.
    memory_of c.from_residual.result c.in_err-matches.field-0.0 _ c.from_residual.ensures.1
    (c.in_err-matches.ensures.only i.options i.are_options)

pub returns-in_err-base-clause-only : goal.returns-in_err-base-clause-only
returns-in_err-base-clause-only c = λ base fetch report capacity i.
    let g = mirror_gives (map (string_bytes {Z = Global}) c.args.words.now) c.in_ok-matches.matches base fetch report
    capacity i (c.in_ok-matches.ensures.only i.options i.are_options) in
    memory_only c.from_residual-in_err-base.result c.in_err-base.field-0.0 _ c.from_residual-in_err-base.ensures.1
    (not_usage_of c.in_err-base.field-0.0 base (c.in_err-base.ensures.only base g.base_is))

pub returns-in_err-capacity-clause-only : goal.returns-in_err-capacity-clause-only
returns-in_err-capacity-clause-only c = λ base fetch report capacity i.
    let g = mirror_gives (map (string_bytes {Z = Global}) c.args.words.now) c.in_ok-matches.matches base fetch report
    capacity i (c.in_ok-matches.ensures.only i.options i.are_options) in
    absurd (let e = c.in_err-capacity.ensures.only capacity g.capacity_is in cc)

pub returns-clause-found : goal.returns-clause-found
returns-clause-found c =
    let (options, are, match) = c.in_ok-matches.ensures.found in (
      c.in_ok-base.base,
      c.get_flag.result,
      c.get_flag-2.result,
      c.in_ok-capacity.capacity,
      refl,
      gives_mirror (map (string_bytes {Z = Global}) c.args.words.now) c.in_ok-matches.matches options
          c.in_ok-base.base c.get_flag.result c.get_flag-2.result c.in_ok-capacity.capacity are match
          (record { base_is = c.in_ok-base.ensures.found; capacity_is = c.in_ok-capacity.ensures.found })
          (record { set = c.get_flag.ensures.value; unset = c.get_flag.ensures.other })
          (record { set = c.get_flag-2.ensures.value; unset = c.get_flag-2.ensures.other }),
    )

pub returns-clause-only : goal.returns-clause-only
returns-clause-only c = λ base fetch report capacity i.
    let m = c.in_ok-matches.ensures.only i.options i.are_options in
    let g = mirror_gives (map (string_bytes {Z = Global}) c.args.words.now) c.in_ok-matches.matches base fetch report
    capacity i m in
    inl (same_mirror base c.in_ok-base.base fetch c.get_flag.result report c.get_flag-2.result capacity
    c.in_ok-capacity.capacity (c.in_ok-base.ensures.only base g.base_is)
    (fetch_read i.options c.in_ok-matches.matches c.get_flag.result m
    (record { set = c.get_flag.ensures.value; unset = c.get_flag.ensures.other }) ∙ i.is_fetch)
    (report_read i.options c.in_ok-matches.matches c.get_flag-2.result m
    (record { set = c.get_flag-2.ensures.value; unset = c.get_flag-2.ensures.other }) ∙ i.is_report)
    (c.in_ok-capacity.ensures.only capacity g.capacity_is))
