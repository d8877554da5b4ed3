use Rattle.std.proofs.Common.{Global, inl, map, refl, string_bytes}
use Rattle.tool_words.proofs.DiscoverLemmas.{address_takes, discover_are, discover_gives, gives_discover, same_discover}
use Rattle.tool_words.proofs.FaultLemmas.{memory_of, memory_only, not_usage_of}
use Rattle.tool_words.proofs.discover.discover.Goals as goal

pub returns-in_err-matches-clause-only : goal.returns-in_err-matches-clause-only
returns-in_err-matches-clause-only c = λ address i.
    let words = map (string_bytes {Z = Global}) c.args.words.now in
    let are = discover_are words address i in
    memory_of c.from_residual.result c.in_err-matches.field-0.0 _ c.from_residual.ensures.1
    (c.in_err-matches.ensures.only are (address_takes words are))

pub returns-in_err-address-clause-only : goal.returns-in_err-address-clause-only
returns-in_err-address-clause-only c = λ address i.
    let (are, has) = c.in_ok-matches.ensures.found in
    let is = discover_gives (map (string_bytes {Z = Global}) c.args.words.now) c.in_ok-matches.matches address i are
    has in
    memory_only c.from_residual-in_err-address.result c.in_err-address.field-0.0 _
    c.from_residual-in_err-address.ensures.1
    (not_usage_of c.in_err-address.field-0.0 address (c.in_err-address.ensures.only address is))

pub returns-clause-found : goal.returns-clause-found
returns-clause-found c =
    let (are, has) = c.in_ok-matches.ensures.found in (
      c.in_ok-address.address,
      refl,
      gives_discover (map (string_bytes {Z = Global}) c.args.words.now) c.in_ok-matches.matches
          c.in_ok-address.address are has c.in_ok-address.ensures.found,
    )

pub returns-clause-only : goal.returns-clause-only
returns-clause-only c = λ address i.
    let (are, has) = c.in_ok-matches.ensures.found in
    let is = discover_gives (map (string_bytes {Z = Global}) c.args.words.now) c.in_ok-matches.matches address i are
    has in
    inl (same_discover address c.in_ok-address.address (c.in_ok-address.ensures.only address is))
