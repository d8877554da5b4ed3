use Rattle.std.proofs.Common.{◌∷◌, Global, map, string_bytes, sym, ap, codes, inl, ◌∙◌}
use Rattle.tool_words.proofs.CommandLemmas.{apply_found, audit_found, discover_found, drill_found, foreign_found}
use Rattle.tool_words.proofs.CommandLemmas.{init_found, mirror_found, relay_found, scrub_found, serve_found, show_found}
use Rattle.tool_words.proofs.CommandLemmas.{words_only}
use Rattle.tool_words.proofs.words.read_words.Goals as goal

pub returns-in-init-clause-found : goal.returns-in-init-clause-found
returns-in-init-clause-found c =
    let words = map (string_bytes {Z = Global}) c.args.words.now in
    let rest = map (string_bytes {Z = Global}) c.in-Some.rest.now in
    let spelt = ap (map (string_bytes {Z = Global})) c.in-Some.ensures.cases.0
    ∙ ap (λ word. word ∷ rest) (sym c.as_str.ensures.value ∙ c.in-init.is) in
    init_found words rest c.init.result spelt c.init.ensures.found

pub returns-in-init-clause-only : goal.returns-in-init-clause-only
returns-in-init-clause-only c =
    let words = map (string_bytes {Z = Global}) c.args.words.now in
    let rest = map (string_bytes {Z = Global}) c.in-Some.rest.now in
    let spelt = ap (map (string_bytes {Z = Global})) c.in-Some.ensures.cases.0
    ∙ ap (λ word. word ∷ rest) (sym c.as_str.ensures.value ∙ c.in-init.is) in
    words_only rest c.init.result words (codes "init") spelt c.init.ensures.only

pub returns-in-apply-clause-found : goal.returns-in-apply-clause-found
returns-in-apply-clause-found c =
    let words = map (string_bytes {Z = Global}) c.args.words.now in
    let rest = map (string_bytes {Z = Global}) c.in-Some.rest.now in
    let spelt = ap (map (string_bytes {Z = Global})) c.in-Some.ensures.cases.0
    ∙ ap (λ word. word ∷ rest) (sym c.as_str.ensures.value ∙ c.in-apply.is) in
    apply_found words rest c.apply.result spelt c.apply.ensures.found

pub returns-in-apply-clause-only : goal.returns-in-apply-clause-only
returns-in-apply-clause-only c =
    let words = map (string_bytes {Z = Global}) c.args.words.now in
    let rest = map (string_bytes {Z = Global}) c.in-Some.rest.now in
    let spelt = ap (map (string_bytes {Z = Global})) c.in-Some.ensures.cases.0
    ∙ ap (λ word. word ∷ rest) (sym c.as_str.ensures.value ∙ c.in-apply.is) in
    words_only rest c.apply.result words (codes "apply") spelt c.apply.ensures.only

pub returns-in-show-clause-found : goal.returns-in-show-clause-found
returns-in-show-clause-found c =
    let words = map (string_bytes {Z = Global}) c.args.words.now in
    let rest = map (string_bytes {Z = Global}) c.in-Some.rest.now in
    let spelt = ap (map (string_bytes {Z = Global})) c.in-Some.ensures.cases.0
    ∙ ap (λ word. word ∷ rest) (sym c.as_str.ensures.value ∙ c.in-show.is) in
    show_found words rest c.show.result spelt c.show.ensures.found

pub returns-in-show-clause-only : goal.returns-in-show-clause-only
returns-in-show-clause-only c =
    let words = map (string_bytes {Z = Global}) c.args.words.now in
    let rest = map (string_bytes {Z = Global}) c.in-Some.rest.now in
    let spelt = ap (map (string_bytes {Z = Global})) c.in-Some.ensures.cases.0
    ∙ ap (λ word. word ∷ rest) (sym c.as_str.ensures.value ∙ c.in-show.is) in
    words_only rest c.show.result words (codes "show") spelt c.show.ensures.only

pub returns-in-serve-clause-found : goal.returns-in-serve-clause-found
returns-in-serve-clause-found c =
    let words = map (string_bytes {Z = Global}) c.args.words.now in
    let rest = map (string_bytes {Z = Global}) c.in-Some.rest.now in
    let spelt = ap (map (string_bytes {Z = Global})) c.in-Some.ensures.cases.0
    ∙ ap (λ word. word ∷ rest) (sym c.as_str.ensures.value ∙ c.in-serve.is) in
    serve_found words rest c.serve.result spelt c.serve.ensures.found

pub returns-in-serve-clause-only : goal.returns-in-serve-clause-only
returns-in-serve-clause-only c =
    let words = map (string_bytes {Z = Global}) c.args.words.now in
    let rest = map (string_bytes {Z = Global}) c.in-Some.rest.now in
    let spelt = ap (map (string_bytes {Z = Global})) c.in-Some.ensures.cases.0
    ∙ ap (λ word. word ∷ rest) (sym c.as_str.ensures.value ∙ c.in-serve.is) in
    words_only rest c.serve.result words (codes "serve") spelt c.serve.ensures.only

pub returns-in-mirror-clause-found : goal.returns-in-mirror-clause-found
returns-in-mirror-clause-found c =
    let words = map (string_bytes {Z = Global}) c.args.words.now in
    let rest = map (string_bytes {Z = Global}) c.in-Some.rest.now in
    let spelt = ap (map (string_bytes {Z = Global})) c.in-Some.ensures.cases.0
    ∙ ap (λ word. word ∷ rest) (sym c.as_str.ensures.value ∙ c.in-mirror.is) in
    mirror_found words rest c.mirror.result spelt c.mirror.ensures.found

pub returns-in-mirror-clause-only : goal.returns-in-mirror-clause-only
returns-in-mirror-clause-only c =
    let words = map (string_bytes {Z = Global}) c.args.words.now in
    let rest = map (string_bytes {Z = Global}) c.in-Some.rest.now in
    let spelt = ap (map (string_bytes {Z = Global})) c.in-Some.ensures.cases.0
    ∙ ap (λ word. word ∷ rest) (sym c.as_str.ensures.value ∙ c.in-mirror.is) in
    words_only rest c.mirror.result words (codes "mirror") spelt c.mirror.ensures.only

pub returns-in-audit-clause-found : goal.returns-in-audit-clause-found
returns-in-audit-clause-found c =
    let words = map (string_bytes {Z = Global}) c.args.words.now in
    let rest = map (string_bytes {Z = Global}) c.in-Some.rest.now in
    let spelt = ap (map (string_bytes {Z = Global})) c.in-Some.ensures.cases.0
    ∙ ap (λ word. word ∷ rest) (sym c.as_str.ensures.value ∙ c.in-audit.is) in
    audit_found words rest c.audit.result spelt c.audit.ensures.found

pub returns-in-audit-clause-only : goal.returns-in-audit-clause-only
returns-in-audit-clause-only c =
    let words = map (string_bytes {Z = Global}) c.args.words.now in
    let rest = map (string_bytes {Z = Global}) c.in-Some.rest.now in
    let spelt = ap (map (string_bytes {Z = Global})) c.in-Some.ensures.cases.0
    ∙ ap (λ word. word ∷ rest) (sym c.as_str.ensures.value ∙ c.in-audit.is) in
    words_only rest c.audit.result words (codes "audit") spelt (λ none. inl (c.audit.ensures.only none))

pub returns-in-drill-clause-found : goal.returns-in-drill-clause-found
returns-in-drill-clause-found c =
    let words = map (string_bytes {Z = Global}) c.args.words.now in
    let rest = map (string_bytes {Z = Global}) c.in-Some.rest.now in
    let spelt = ap (map (string_bytes {Z = Global})) c.in-Some.ensures.cases.0
    ∙ ap (λ word. word ∷ rest) (sym c.as_str.ensures.value ∙ c.in-drill.is) in
    drill_found words rest c.drill.result spelt c.drill.ensures.found

pub returns-in-drill-clause-only : goal.returns-in-drill-clause-only
returns-in-drill-clause-only c =
    let words = map (string_bytes {Z = Global}) c.args.words.now in
    let rest = map (string_bytes {Z = Global}) c.in-Some.rest.now in
    let spelt = ap (map (string_bytes {Z = Global})) c.in-Some.ensures.cases.0
    ∙ ap (λ word. word ∷ rest) (sym c.as_str.ensures.value ∙ c.in-drill.is) in
    words_only rest c.drill.result words (codes "drill") spelt c.drill.ensures.only

pub returns-in-foreign-clause-found : goal.returns-in-foreign-clause-found
returns-in-foreign-clause-found c =
    let words = map (string_bytes {Z = Global}) c.args.words.now in
    let rest = map (string_bytes {Z = Global}) c.in-Some.rest.now in
    let spelt = ap (map (string_bytes {Z = Global})) c.in-Some.ensures.cases.0
    ∙ ap (λ word. word ∷ rest) (sym c.as_str.ensures.value ∙ c.in-foreign.is) in
    foreign_found words rest c.foreign.result spelt c.foreign.ensures.found

pub returns-in-foreign-clause-only : goal.returns-in-foreign-clause-only
returns-in-foreign-clause-only c =
    let words = map (string_bytes {Z = Global}) c.args.words.now in
    let rest = map (string_bytes {Z = Global}) c.in-Some.rest.now in
    let spelt = ap (map (string_bytes {Z = Global})) c.in-Some.ensures.cases.0
    ∙ ap (λ word. word ∷ rest) (sym c.as_str.ensures.value ∙ c.in-foreign.is) in
    words_only rest c.foreign.result words (codes "foreign") spelt c.foreign.ensures.only

pub returns-in-discover-clause-found : goal.returns-in-discover-clause-found
returns-in-discover-clause-found c =
    let words = map (string_bytes {Z = Global}) c.args.words.now in
    let rest = map (string_bytes {Z = Global}) c.in-Some.rest.now in
    let spelt = ap (map (string_bytes {Z = Global})) c.in-Some.ensures.cases.0
    ∙ ap (λ word. word ∷ rest) (sym c.as_str.ensures.value ∙ c.in-discover.is) in
    discover_found words rest c.discover.result spelt c.discover.ensures.found

pub returns-in-discover-clause-only : goal.returns-in-discover-clause-only
returns-in-discover-clause-only c =
    let words = map (string_bytes {Z = Global}) c.args.words.now in
    let rest = map (string_bytes {Z = Global}) c.in-Some.rest.now in
    let spelt = ap (map (string_bytes {Z = Global})) c.in-Some.ensures.cases.0
    ∙ ap (λ word. word ∷ rest) (sym c.as_str.ensures.value ∙ c.in-discover.is) in
    words_only rest c.discover.result words (codes "discover") spelt c.discover.ensures.only

pub returns-in-relay-clause-found : goal.returns-in-relay-clause-found
returns-in-relay-clause-found c =
    let words = map (string_bytes {Z = Global}) c.args.words.now in
    let rest = map (string_bytes {Z = Global}) c.in-Some.rest.now in
    let spelt = ap (map (string_bytes {Z = Global})) c.in-Some.ensures.cases.0
    ∙ ap (λ word. word ∷ rest) (sym c.as_str.ensures.value ∙ c.in-relay.is) in
    relay_found words rest c.relay.result spelt c.relay.ensures.found

pub returns-in-relay-clause-only : goal.returns-in-relay-clause-only
returns-in-relay-clause-only c =
    let words = map (string_bytes {Z = Global}) c.args.words.now in
    let rest = map (string_bytes {Z = Global}) c.in-Some.rest.now in
    let spelt = ap (map (string_bytes {Z = Global})) c.in-Some.ensures.cases.0
    ∙ ap (λ word. word ∷ rest) (sym c.as_str.ensures.value ∙ c.in-relay.is) in
    words_only rest c.relay.result words (codes "relay") spelt c.relay.ensures.only

pub returns-in-scrub-clause-found : goal.returns-in-scrub-clause-found
returns-in-scrub-clause-found c =
    let words = map (string_bytes {Z = Global}) c.args.words.now in
    let rest = map (string_bytes {Z = Global}) c.in-Some.rest.now in
    let spelt = ap (map (string_bytes {Z = Global})) c.in-Some.ensures.cases.0
    ∙ ap (λ word. word ∷ rest) (sym c.as_str.ensures.value ∙ c.in-scrub.is) in
    scrub_found words rest c.scrub.result spelt c.scrub.ensures.found

pub returns-in-scrub-clause-only : goal.returns-in-scrub-clause-only
returns-in-scrub-clause-only c =
    let words = map (string_bytes {Z = Global}) c.args.words.now in
    let rest = map (string_bytes {Z = Global}) c.in-Some.rest.now in
    let spelt = ap (map (string_bytes {Z = Global})) c.in-Some.ensures.cases.0
    ∙ ap (λ word. word ∷ rest) (sym c.as_str.ensures.value ∙ c.in-scrub.is) in
    words_only rest c.scrub.result words (codes "scrub") spelt (λ repair i. inl (c.scrub.ensures.only repair i))
