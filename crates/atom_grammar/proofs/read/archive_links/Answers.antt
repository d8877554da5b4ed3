use Rattle.std.proofs.Common.{arith}
use Rattle.atom_grammar.specs.Parts.{literal}
use Rattle.atom_grammar.proofs.ArchiveLinkLemmas.{current_link, next_link, mark, no_current, no_next, no_mark, all_links, links_stopped, prev_stopped, literal_split}
use Rattle.atom_grammar.proofs.read.archive_links.Goals as goal

pub overflow_sub-prev : goal.overflow_sub-prev
overflow_sub-prev c = c.requires.0

pub overflow_add-number : goal.overflow_add-number
overflow_add-number c = let below = c.requires.1 in omega arith

pub link_to-requires : goal.link_to-requires
link_to-requires c = tt

pub link_to-requires-2 : goal.link_to-requires-2
link_to-requires-2 c = let below = c.requires.1 in (omega arith, omega arith)

pub returns-in_err-link_to : goal.returns-in_err-link_to
returns-in_err-link_to c =
    let name = c.args.name.now in
    let input = c.args.pieces.now.rest.now in
    links_stopped name c.args.number (literal (current_link name.base)) input input c.link_to.new.self.rest.now _
    c.from_residual.result c.in_err-link_to.ensures c.from_residual.ensures.1
    (λ none updated opening. no_current name c.args.number updated opening input none)

pub returns-in_err-archive_prev : goal.returns-in_err-archive_prev
returns-in_err-archive_prev c =
    let name = c.args.name.now in
    let input = c.args.pieces.now.rest.now in
    let r1 = c.link_to.new.self.rest.now in
    prev_stopped name c.args.number input r1 c.archive_prev.new.pieces.rest.now _
    c.from_residual-in_err-archive_prev.result
    (literal_split (current_link name.base) input _ r1 c.in_ok-link_to.ensures) c.in_err-archive_prev.ensures
    c.from_residual-in_err-archive_prev.ensures.1

pub returns-in_err-link_to-2 : goal.returns-in_err-link_to-2
returns-in_err-link_to-2 c =
    let name = c.args.name.now in
    let input = c.args.pieces.now.rest.now in
    let r1 = c.link_to.new.self.rest.now in
    let r2 = c.archive_prev.new.pieces.rest.now in
    links_stopped name c.args.number (literal (next_link name.base c.args.number)) input r2
    c.link_to-2.new.self.rest.now _ c.from_residual-in_err-link_to-2.result c.in_err-link_to-2.ensures
    c.from_residual-in_err-link_to-2.ensures.1
    (λ none updated opening. no_next name c.args.number updated opening input r1 r2
    (literal_split (current_link name.base) input _ r1 c.in_ok-link_to.ensures) c.in_ok-archive_prev.ensures none)

pub returns-in_err-fixed : goal.returns-in_err-fixed
returns-in_err-fixed c =
    let name = c.args.name.now in
    let input = c.args.pieces.now.rest.now in
    let r1 = c.link_to.new.self.rest.now in
    let r2 = c.archive_prev.new.pieces.rest.now in
    let r3 = c.link_to-2.new.self.rest.now in
    links_stopped name c.args.number (literal mark) input r3 c.fixed.new.self.rest.now _
    c.from_residual-in_err-fixed.result c.in_err-fixed.ensures c.from_residual-in_err-fixed.ensures.1
    (λ none updated opening. no_mark name c.args.number updated opening input r1 r2 r3
    (literal_split (current_link name.base) input _ r1 c.in_ok-link_to.ensures) c.in_ok-archive_prev.ensures
    (literal_split (next_link name.base c.args.number) r2 _ r3 c.in_ok-link_to-2.ensures) none)

pub returns : goal.returns
returns c =
    let name = c.args.name.now in
    let input = c.args.pieces.now.rest.now in
    let r1 = c.link_to.new.self.rest.now in
    let r2 = c.archive_prev.new.pieces.rest.now in
    let r3 = c.link_to-2.new.self.rest.now in
    let r4 = c.fixed.new.self.rest.now in
    all_links name c.args.number c.requires input r1 r2 r3 r4
    (literal_split (current_link name.base) input _ r1 c.in_ok-link_to.ensures) c.in_ok-archive_prev.ensures
    (literal_split (next_link name.base c.args.number) r2 _ r3 c.in_ok-link_to-2.ensures)
    (literal_split mark r3 _ r4 c.in_ok-fixed.ensures)
