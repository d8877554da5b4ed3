use Rattle.std.proofs.Common.{◌≡◌, None, Some, get_or, length, arith, subst}
use Rattle.std.specs.Prelude.{slice_get}
use Rattle.std.proofs.lemmas.Option.{slice_get-get_or}
use Rattle.mirror_walk.specs.Index.{replaced_number, replaced_place}
use Rattle.mirror_walk.specs.declared.base_map.Replaced.{Replaced}
use Rattle.mirror_walk.proofs.ListedItemsLemmas.{LaidUpTo, LaysOver-laid, laid-more}
use Rattle.mirror_walk.proofs.base_map.restore.Goals as goal

pub loop-before-preserved : goal.loop-before-preserved
loop-before-preserved c =
    let replaced = c.args.replaced.now in
    let at = c.loop-before.before-index in
    let none : Replaced = record { number = 0; place = None } in
    let before = get_or replaced at none in
    let there : slice_get replaced at ≡ Some before = slice_get-get_or replaced at none (omega arith) in
    laid-more replaced_number replaced_place replaced at before c.args.entries.now c.loop-before.entries
    c.put_back.new.entries c.requires there c.loop-before.invariant c.in_ok-put_back.ensures

pub returns : goal.returns
returns c =
    let all : c.loop-before.before-index ≡ length c.args.replaced.now = omega arith in
    LaysOver-laid replaced_number replaced_place c.args.replaced.now c.args.entries.now c.loop-before.entries
    (subst (λ n. LaidUpTo replaced_number replaced_place c.args.replaced.now n c.args.entries.now
    c.loop-before.entries) all c.loop-before.invariant)
