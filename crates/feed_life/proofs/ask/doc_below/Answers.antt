use Rattle.std.proofs.Common.{◌≡◌, List, ℕ, sym, subst, ◌∙◌, ap}
use Rattle.chain_links.specs.Address.{IsTarget}
use Rattle.http_face.specs.Reply.{body_text}
use Rattle.feed_life.proofs.AskedLemmas.{same-doc}
use Rattle.feed_life.proofs.ask.doc_below.Goals as goal

pub returns : goal.returns
returns c =
    let target : c.slice.result.now ≡ c.args.request.now.target =
    c.slice.ensures ∙ ap (λ r. r.target) c.request.view_is in
    record {
      media = c.in-Feed.is;
      address = c.in-Some.address;
      named = subst (λ (t : List ℕ). IsTarget c.args.base.now c.in-Some.address t) target c.in-Some.ensures.found.1;
      only = λ other is_address named.
          let same = c.in-Some.ensures.only other is_address
          (subst (λ (t : List ℕ). IsTarget c.args.base.now other t) (sym target) named) in
          cc;
      is = same-doc c.from_vec.result _ c.in-Made.bytes _ c.args.version
          (c.from_vec.ensures ∙ c.in-Ok.ensures) (sym (ap body_text c.in-Made.is));
    }
