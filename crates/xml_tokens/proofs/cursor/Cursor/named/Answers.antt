use Rattle.std.proofs.Common.{codes, drop, sym, ◌∙◌}
use Rattle.xml_tokens.proofs.BeginLemmas.{begins_split}
use Rattle.xml_tokens.proofs.ReferenceLemmas.{lt_reads, gt_reads, quot_reads, amp_reads, apos_reads}
use Rattle.xml_tokens.proofs.cursor.Cursor.named.Goals as goal

pub returns-then-at : goal.returns-then-at
returns-then-at c =
    let text = c.args.self.now.rest.now in
    lt_reads text (drop 1 text) (begins_split (codes "l") text (sym c.at.ensures ∙ c.if-at.true)) c.name_of.result
    c.name_of.new.self.rest.now c.name_of.ensures

pub returns-then-at-2 : goal.returns-then-at-2
returns-then-at-2 c =
    let text = c.args.self.now.rest.now in
    gt_reads text (drop 1 text) (begins_split (codes "g") text (sym c.at-2.ensures ∙ c.if-at-2.true))
    c.name_of-then-at-2.result c.name_of-then-at-2.new.self.rest.now c.name_of-then-at-2.ensures

pub returns-then-at-3 : goal.returns-then-at-3
returns-then-at-3 c =
    let text = c.args.self.now.rest.now in
    quot_reads text (drop 1 text) (begins_split (codes "q") text (sym c.at-3.ensures ∙ c.if-at-3.true))
    c.name_of-then-at-3.result c.name_of-then-at-3.new.self.rest.now c.name_of-then-at-3.ensures

pub returns-then-at-4 : goal.returns-then-at-4
returns-then-at-4 c =
    let text = c.args.self.now.rest.now in
    amp_reads text (drop 2 text) (begins_split (codes "am") text (sym c.at-4.ensures ∙ c.if-at-4.true))
    c.name_of-then-at-4.result c.name_of-then-at-4.new.self.rest.now c.name_of-then-at-4.ensures

pub returns : goal.returns
returns c =
    let text = c.args.self.now.rest.now in
    apos_reads text (sym c.at.ensures ∙ c.if-at.false) (sym c.at-2.ensures ∙ c.if-at-2.false)
    (sym c.at-3.ensures ∙ c.if-at-3.false) (sym c.at-4.ensures ∙ c.if-at-4.false) c.name_of-2.result
    c.name_of-2.new.self.rest.now c.name_of-2.ensures
