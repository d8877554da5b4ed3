use Rattle.std.proofs.Common.{subst}
use Rattle.atom_grammar.specs.FeedParts.{IsKind}
use Rattle.atom_grammar.proofs.ArchiveLinkLemmas.{prev_there, prev_unlike}
use Rattle.atom_grammar.proofs.read.links.Goals as goal

pub archive_links-requires : goal.archive_links-requires
archive_links-requires c = subst IsKind c.in-Archive.is c.requires

pub returns-in-Ok : goal.returns-in-Ok
returns-in-Ok c =
    rw (c.in-Subscription.is)
    (prev_there c.args.name.now c.args.pieces.now.rest.now c.prev_link.new.self.rest.now _ c.in-Ok.ensures)

pub returns-in-Err-Mismatch : goal.returns-in-Err-Mismatch
returns-in-Err-Mismatch c =
    rw (c.in-Subscription.is)
    (prev_unlike c.args.name.now c.args.pieces.now.rest.now c.prev_link.new.self.rest.now _
    c.in-Err-Mismatch.field-0-is c.in-Err-Mismatch.ensures)

pub returns-in-Archive : goal.returns-in-Archive
returns-in-Archive c = rw (c.in-Archive.is) c.archive_links.ensures
