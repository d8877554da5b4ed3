use Rattle.std.proofs.Common.{List, get_or, nat_eq, ap, sym, ◌∙◌, subst}
use Rattle.std.specs.List.{IsDistinct}
use Rattle.std.specs.Prelude.{map}
use Rattle.std.proofs.lemmas.Option.{get_or_from_slice_get}
use Rattle.std.proofs.lemmas.Result.{on_ok_weaker}
use Rattle.mirror_walk.specs.Holding.{HeldValue, KeptValue}
use Rattle.mirror_walk.specs.Index.{LaysOver, entry_place}
use Rattle.mirror_walk.specs.Marks.{marked_number, marks_of}
use Rattle.mirror_walk.proofs.EntriesLemmas.{marked_numbers-of}
use Rattle.mirror_walk.proofs.documents.Documents.list_document.Goals as goal

pub list_items-requires-clause-distinct : goal.list_items-requires-clause-distinct
list_items-requires-clause-distinct c =
    subst (IsDistinct nat_eq)
    (sym (ap (map marked_number) c.items.ensures.marks ∙ marked_numbers-of c.index.result.now.document.items))
    c.items.ensures.rules.distinct

pub returns-clause-laid : goal.returns-clause-laid
returns-clause-laid c = on_ok_weaker c.list_items.result (λ laid found there.
    let kept = c.args.self.now.kept in
    let inside = ap (λ (v : HeldValue). v.kept) c.self.view_is in
    let given = c.index.ensures ∙ ap (λ (ks : List KeptValue). get_or ks c.args.at c.index.result.now) inside
    ∙ get_or_from_slice_get kept c.args.at found c.index.result.now there in
    let items = c.items.ensures.marks ∙ ap (λ (k : KeptValue). marks_of k.document) given in
    subst (λ listed. LaysOver marked_number (entry_place c.args.at) listed c.args.live.now
    c.list_items.new.live) items laid)
    c.list_items.ensures.items
