use Rattle.std.proofs.Common.{inl, inr}
use Rattle.std.proofs.lemmas.Result.{on_ok_weaker}
use Rattle.feed_disk.specs.declared.area.Area.TheVariants.{Journal}
use Rattle.feed_life.proofs.GiftLemmas.{offer-runs}
use Rattle.feed_life.proofs.OpenedLemmas.{opened-offered, opened-rests}
use Rattle.feed_life.proofs.mirrors.offer.Goals as goal

pub returns-clause-runs : goal.returns-clause-runs
returns-clause-runs c = on_ok_weaker c.answered.result (λ known head history kept sent served opened.
    let offered = c.offer-answer.ensures in
    let sound = offered.sound known.1 in
    let rests = opened-rests head kept c.args.disk.now c.args.mirror.now opened in
    offer-runs head history c.args.doc.now kept c.args.disk.now c.offer-answer.new.disk c.args.mirror.now
    c.offer-answer.new.self sent served opened c.slice.result.now c.slice-bytes.result.now c.slice.ensures
    c.slice-bytes.ensures c.begun_images_are_whole.ensures c.offer-answer.result
    (elim offered.answer [
      | inl memory ↦ absurd (known.0 memory)
      | inr (inl failed) ↦ absurd (known.1 failed)
      | inr (inr is) ↦ is
    ])
    (offered.served head history _ opened.base served
    (opened-offered head kept c.args.disk.now c.args.mirror.now opened))
    (sound.stands tt) (sound.rests tt rests) sound.most
    (offered.moments tt rests)) c.answered.ensures

pub returns-clause-later : goal.returns-clause-later
returns-clause-later c = (c.offer-answer.ensures.setting.others Journal (λ e. cc)).leaves.later
