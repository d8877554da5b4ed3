use Rattle.std.proofs.Common.{◌≡◌, List, Some, get_or, map, nat_eq, refl, ap, sym, subst, ◌∙◌}
use Rattle.std.specs.List.{IsDistinct}
use Rattle.std.specs.Prelude.{slice_get}
use Rattle.std.proofs.lemmas.Option.{slice_get-get_or}
use Rattle.std.proofs.lemmas.Result.{on_ok_weaker}
use Rattle.mirror_walk.specs.Holding.{HeldValue, KeptValue, archives_from}
use Rattle.mirror_walk.specs.Index.{entry_place, replaced_in}
use Rattle.mirror_walk.specs.Marks.{marks_of}
use Rattle.mirror_walk.proofs.BaseLemmas.{base-laid}
use Rattle.mirror_walk.proofs.EntriesLemmas.{HasEntries-more, marked_numbers-of}
use Rattle.mirror_walk.proofs.documents.Documents.lay_best.Goals as goal

pub returns-clause-base : goal.returns-clause-base
returns-clause-base c = on_ok_weaker c.list_document.result (λ laid.
    let kept = c.args.self.now.kept in
    let bare = c.args.map.now in
    let found = c.index.result.now in
    let inside = ap (λ (v : HeldValue). v.kept) c.self.view_is in
    let there : slice_get kept c.args.at ≡ Some found =
    slice_get-get_or kept c.args.at found c.requires.within
    ∙ ap (λ (k : KeptValue). Some k)
    (sym (c.index.ensures ∙ ap (λ (ks : List KeptValue). get_or ks c.args.at found) inside)) in
    base-laid kept bare
    record {
      last = bare.last;
      entries = c.list_document.new.live;
      replaced = c.in_ok-map.field-0;
    }
    (entry_place c.args.at) (marks_of found.document) c.requires.bare refl
    (c.in_ok-map.ensures ∙ ap (map (replaced_in bare.entries)) c.items.ensures.marks)
    (subst (IsDistinct nat_eq) (sym (marked_numbers-of found.document.items)) c.items.ensures.rules.distinct)
    (laid found there))
    c.list_document.ensures.laid

pub returns-clause-entries : goal.returns-clause-entries
returns-clause-entries c = on_ok_weaker c.list_document.result (λ laid found there.
    let kept = c.args.self.now.kept in
    HasEntries-more kept c.args.at found (archives_from kept c.args.map.now.last) c.args.map.now.entries
    c.list_document.new.live there
    (laid found there) c.requires.bare.archives.shown)
    c.list_document.ensures.laid
