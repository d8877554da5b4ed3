use Rattle.std.proofs.Common.{Global, map, refl, ◌∙◌, inl, string_bytes}
use Rattle.tool_words.proofs.FaultLemmas.{memory_only, memory_of, not_usage_of}
use Rattle.tool_words.proofs.ServeLemmas.{serve_gives, service_read, gives_serve, same_serve}
use Rattle.tool_words.proofs.serve.serve.Goals as goal

pub returns-in_err-matches-clause-only : goal.returns-in_err-matches-clause-only
returns-in_err-matches-clause-only c = λ listen requests service i.
    memory_of c.from_residual.result c.in_err-matches.field-0.0 _ c.from_residual.ensures.1
    (c.in_err-matches.ensures.only i.options i.are_options)

pub returns-in_err-listen-clause-only : goal.returns-in_err-listen-clause-only
returns-in_err-listen-clause-only c = λ listen requests service i.
    let g = serve_gives (map (string_bytes {Z = Global}) c.args.words.now) c.in_ok-matches.matches listen requests
    service i
    (c.in_ok-matches.ensures.only i.options i.are_options) in
    memory_only c.from_residual-in_err-listen.result c.in_err-listen.field-0.0 _
    c.from_residual-in_err-listen.ensures.1
    (not_usage_of c.in_err-listen.field-0.0 listen (c.in_err-listen.ensures.only listen g.listen_is))

pub returns-in_err-requests-clause-only : goal.returns-in_err-requests-clause-only
returns-in_err-requests-clause-only c = λ listen requests service i.
    let g = serve_gives (map (string_bytes {Z = Global}) c.args.words.now) c.in_ok-matches.matches listen requests
    service i
    (c.in_ok-matches.ensures.only i.options i.are_options) in
    absurd (let e = c.in_err-requests.ensures.only requests g.requests_is in cc)

pub returns-clause-found : goal.returns-clause-found
returns-clause-found c =
    let (options, are, match) = c.in_ok-matches.ensures.found in (
      c.in_ok-listen.listen,
      c.in_ok-requests.requests,
      c.get_flag.result,
      refl,
      gives_serve (map (string_bytes {Z = Global}) c.args.words.now) c.in_ok-matches.matches options
          c.in_ok-listen.listen c.in_ok-requests.requests c.get_flag.result are match
          (record { listen_is = c.in_ok-listen.ensures.found; requests_is = c.in_ok-requests.ensures.found })
          (record { set = c.get_flag.ensures.value; unset = c.get_flag.ensures.other }),
    )

pub returns-clause-only : goal.returns-clause-only
returns-clause-only c = λ listen requests service i.
    let g = serve_gives (map (string_bytes {Z = Global}) c.args.words.now) c.in_ok-matches.matches listen requests
    service i
    (c.in_ok-matches.ensures.only i.options i.are_options) in
    inl (same_serve listen c.in_ok-listen.listen requests c.in_ok-requests.requests service c.get_flag.result
    (c.in_ok-listen.ensures.only listen g.listen_is) (c.in_ok-requests.ensures.only requests g.requests_is)
    (service_read i.options c.in_ok-matches.matches c.get_flag.result
    (c.in_ok-matches.ensures.only i.options i.are_options)
    (record { set = c.get_flag.ensures.value; unset = c.get_flag.ensures.other }) ∙ i.is_service))
