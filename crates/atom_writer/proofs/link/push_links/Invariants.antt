use Rattle.std.proofs.Common.{All, take}
use Rattle.std.specs.Prelude.{flat_map}
use Rattle.atom_values.specs.Link.{IsLink}
use Rattle.atom_writer.specs.Parts.{link_text}
use Rattle.atom_writer.proofs.link.push_links.Given as goal

abbrev pub invariant-loop-link : goal.invariant-loop-link
invariant-loop-link g l = record {
  added : g.W.Out.adds l.fn.out l.out (flat_map link_text (take l.link-index l.links));
  rules : All IsLink (take l.link-index l.links);
}
