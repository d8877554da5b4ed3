use Rattle.std.proofs.Common.{ℕ, List, subst}
use Rattle.std.proofs.lemmas.List.Elements.{All-nil}
use Rattle.atom_values.specs.Link.{IsLink}
use Rattle.atom_writer.specs.Parts.{link_text}
use Rattle.atom_values.proofs.WalkLemmas.{All-one_more}
use Rattle.atom_writer.proofs.PieceLemmas.{flat_map-more}
use Rattle.atom_writer.proofs.link.push_links.Goals as goal

pub loop-link-init : goal.loop-link-init
loop-link-init g c = record { added = g.met.W.Out.starts _; rules = All-nil IsLink }

pub loop-link-preserved : goal.loop-link-preserved
loop-link-preserved g c =
    let items = c.args.links.now in
    let i = c.loop-link.link-index in
    record {
      added = subst (λ (s : List ℕ). g.W.Out.adds c.args.out.now c.push_link.new.out s)
          (flat_map-more link_text items i c.link-item.result c.loop-link-test.true c.link-item.is)
          (g.met.W.Out.joins _ _ _ _ _ c.loop-link.invariant.added c.in_ok-push_link.ensures.added);
      rules = All-one_more IsLink items i c.link-item.result c.loop-link-test.true c.link-item.is
          c.loop-link.invariant.rules c.in_ok-push_link.ensures.rules;
    }
