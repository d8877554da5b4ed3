use Rattle.std.proofs.Common.{ℕ, ◌+◌, nat_cmp, refl, ap, sym, subst, ◌∙◌}
use Rattle.std.specs.BTreeMap.{get}
use Rattle.std.specs.Option.{option_copied}
use Rattle.mirror_walk.specs.Holding.{HeldValue, archive_at}
use Rattle.mirror_walk.specs.Index.{HasArchives}
use Rattle.mirror_walk.proofs.BaseLemmas.{archives-more}
use Rattle.mirror_walk.proofs.OutcomeLemmas.{archive-held, indexed}
use Rattle.mirror_walk.proofs.documents.Documents.lay_archives.Goals as goal

pub loop-before-preserved : goal.loop-before-preserved
loop-before-preserved c =
    let kept = c.args.self.now.kept in
    let before = c.loop-before.before in
    let at = c.unwrap-at.result.now in
    let inside = ap (λ (v : HeldValue). v.kept) c.self.view_is in
    let index = indexed c.self.inside.kept.items c.args.self.now _ _ _ _ _ _ inside c.self.invariant in
    let found = archive-held kept (get nat_cmp c.self.inside.archives (before + 1)) (archive_at kept (before + 1))
    at (index.archives_there (before + 1)) (sym c.get.ensures.value ∙ ap option_copied c.unwrap-at.ensures) in
    let laid = c.in_ok-list_document.ensures in
    let map = c.loop-before.map in
    let archives = subst (λ (n : ℕ). HasArchives kept n map.entries) c.loop-before.invariant.last
    c.loop-before.invariant.bare.archives in
    record {
      bare = record {
        archives = archives-more kept before at found.0 map.entries c.list_document.new.live found.1 found.2
            (laid.laid found.0 found.2) laid.members archives;
        bare = c.loop-before.invariant.bare.bare;
      };
      last = refl;
    }
