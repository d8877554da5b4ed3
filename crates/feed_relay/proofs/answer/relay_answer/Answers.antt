use Rattle.std.proofs.Common.{◌≡◌, List, ℕ, ap, sym, subst, ◌∙◌}
use Rattle.chain_links.specs.Address.{IsTarget, printed}
use Rattle.feed_relay.proofs.ReplyLemmas.{get-changed, get-held, get-memory, get-relayed, get-served, get-status}
use Rattle.feed_relay.proofs.answer.relay_answer.Given.{Over}
use Rattle.feed_relay.proofs.answer.relay_answer.Goals as goal
use Rattle.feed_relay.proofs.answer.relay_answer.Goals.{After-show}
use Rattle.http_face.specs.Request.{RequestValue}
use Rattle.http_face.specs.declared.request.Verb.TheVariants.{Get}
use Rattle.member_rules.specs.Served.{Served}

get : (g : Over) (c : After-show g) → c.args.request.now.verb ≡ Get
get g c = sym (ap (λ (r : RequestValue). r.verb) c.request.view_is) ∙ c.in-Get.is

target : (g : Over) (c : After-show g) → IsTarget c.args.base.now c.in-Some.address c.args.request.now.target
target g c =
    subst (IsTarget c.args.base.now c.in-Some.address)
    (c.slice.ensures ∙ ap (λ (r : RequestValue). r.target) c.request.view_is) c.in-Some.ensures.found.1

pub returns-in-Get : goal.returns-in-Get
returns-in-Get g c =
    let tells = g.D.Disk.observable in
    let base = c.args.base.now in
    let kept = c.args.mirror.now.kept in
    let request = c.args.request.now in
    let reply = c.show.result in
    let address = c.in-Some.address in
    let is_address = c.in-Some.ensures.found.0 in
    let shown = c.show.ensures.shown in
    record {
      relayed = get-relayed tells base kept request reply address (get g c) is_address (target g c) shown;
      held = get-held tells base kept request reply address (get g c) is_address (target g c) shown;
      served = λ seen head history served ok.
          get-served tells base kept request reply address (get g c) is_address (target g c) head history shown seen ok
          (λ bytes is. subst (λ (b : List ℕ). Served head history (printed b address) bytes) (sym c.requires.base)
          (c.show.ensures.served seen head history served bytes is));
      changed = get-changed tells base kept request reply address (get g c) is_address (target g c) shown;
      memory = get-memory tells base kept request reply address (get g c) is_address (target g c) shown;
      status = get-status tells base kept request reply address (get g c) is_address (target g c) shown;
      areas = c.show.ensures.areas;
      mirror = c.show.ensures.mirror;
      faults = c.show.ensures.faults;
    }
