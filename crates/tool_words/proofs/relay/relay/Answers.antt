use Rattle.std.proofs.Common.{Global, map, refl, inl, string_bytes}
use Rattle.tool_words.proofs.FaultLemmas.{memory_only, memory_of, not_usage_of}
use Rattle.tool_words.proofs.RelayLemmas.{gives_relay, relay_gives, same_relay}
use Rattle.tool_words.proofs.relay.relay.Goals as goal

pub returns-in_err-matches-clause-only : goal.returns-in_err-matches-clause-only
returns-in_err-matches-clause-only c = λ base listen requests capacity i.
    memory_of c.from_residual.result c.in_err-matches.field-0.0 _ c.from_residual.ensures.1
    (c.in_err-matches.ensures.only i.options i.are_options)

pub returns-in_err-requests-clause-only : goal.returns-in_err-requests-clause-only
returns-in_err-requests-clause-only c = λ base listen requests capacity i.
    let g = relay_gives (map (string_bytes {Z = Global}) c.args.words.now) c.in_ok-matches.matches base listen requests
    capacity i (c.in_ok-matches.ensures.only i.options i.are_options) in
    absurd (let e = c.in_err-requests.ensures.only requests g.requests_is in cc)

pub returns-in_err-capacity-clause-only : goal.returns-in_err-capacity-clause-only
returns-in_err-capacity-clause-only c = λ base listen requests capacity i.
    let g = relay_gives (map (string_bytes {Z = Global}) c.args.words.now) c.in_ok-matches.matches base listen requests
    capacity i (c.in_ok-matches.ensures.only i.options i.are_options) in
    absurd (let e = c.in_err-capacity.ensures.only capacity g.capacity_is in cc)

pub returns-in_err-base-clause-only : goal.returns-in_err-base-clause-only
returns-in_err-base-clause-only c = λ base listen requests capacity i.
    let g = relay_gives (map (string_bytes {Z = Global}) c.args.words.now) c.in_ok-matches.matches base listen requests
    capacity i (c.in_ok-matches.ensures.only i.options i.are_options) in
    memory_only c.from_residual-in_err-base.result c.in_err-base.field-0.0 _ c.from_residual-in_err-base.ensures.1
    (not_usage_of c.in_err-base.field-0.0 base (c.in_err-base.ensures.only base g.base_is))

pub returns-in_err-listen-clause-only : goal.returns-in_err-listen-clause-only
returns-in_err-listen-clause-only c = λ base listen requests capacity i.
    let g = relay_gives (map (string_bytes {Z = Global}) c.args.words.now) c.in_ok-matches.matches base listen requests
    capacity i (c.in_ok-matches.ensures.only i.options i.are_options) in
    memory_only c.from_residual-in_err-listen.result c.in_err-listen.field-0.0 _
    c.from_residual-in_err-listen.ensures.1
    (not_usage_of c.in_err-listen.field-0.0 listen (c.in_err-listen.ensures.only listen g.listen_is))

pub returns-clause-found : goal.returns-clause-found
returns-clause-found c =
    let (options, are, match) = c.in_ok-matches.ensures.found in (
      c.in_ok-base.base,
      c.in_ok-listen.listen,
      c.in_ok-requests.requests,
      c.in_ok-capacity.capacity,
      refl,
      gives_relay (map (string_bytes {Z = Global}) c.args.words.now) c.in_ok-matches.matches options c.in_ok-base.base
          c.in_ok-listen.listen c.in_ok-requests.requests c.in_ok-capacity.capacity are match (record {
            base_is = c.in_ok-base.ensures.found;
            listen_is = c.in_ok-listen.ensures.found;
            requests_is = c.in_ok-requests.ensures.found;
            capacity_is = c.in_ok-capacity.ensures.found;
          }),
    )

pub returns-clause-only : goal.returns-clause-only
returns-clause-only c = λ base listen requests capacity i.
    let g = relay_gives (map (string_bytes {Z = Global}) c.args.words.now) c.in_ok-matches.matches base listen requests
    capacity i (c.in_ok-matches.ensures.only i.options i.are_options) in
    inl (same_relay base c.in_ok-base.base listen c.in_ok-listen.listen requests c.in_ok-requests.requests capacity
    c.in_ok-capacity.capacity (c.in_ok-base.ensures.only base g.base_is)
    (c.in_ok-listen.ensures.only listen g.listen_is) (c.in_ok-requests.ensures.only requests g.requests_is)
    (c.in_ok-capacity.ensures.only capacity g.capacity_is))
