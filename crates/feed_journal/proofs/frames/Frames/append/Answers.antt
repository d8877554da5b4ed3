use Rattle.std.proofs.Common.{◌≡◌, ◌≢◌, ◌+◌, ℕ, List, [], ◌∷◌, ◌++◌, length, sym, ◌∙◌, ap, subst, arith}
use Rattle.feed_disk.specs.Moments.{AlwaysLeaves, LeavesAlone, NowOnly}
use Rattle.feed_disk.specs.declared.area.Area.{Area}
use Rattle.feed_journal.specs.Log.{LogValue, HasRoomFor, IsListed, ListsPayload}
use Rattle.feed_journal.specs.Records.{records, Begins, IsStep}
use Rattle.feed_journal.specs.declared.extent.Extent.{Extent}
use Rattle.feed_journal.proofs.ExtentLemmas.{follow_above}
use Rattle.feed_journal.proofs.ListLemmas.{is_size, how_many, lists_new, begins_new}
use Rattle.feed_journal.proofs.frames.Frames.append.Goals as goal

pub write_frame-outcome-requires-clause-gate : goal.write_frame-outcome-requires-clause-gate
write_frame-outcome-requires-clause-gate g c =
    follow_above 0 c.self.inside.extents.list c.self.inside.size c.self.invariant.follow

pub returns-in-Ok-clause-listed : goal.returns-in-Ok-clause-listed
returns-in-Ok-clause-listed g c = λ tells.
    let s = g.D.Disk.state c.args.disk.now in
    let t = g.D.Disk.state c.write_frame-outcome.new.disk in
    let extents = c.self.inside.extents.list in
    let size = c.self.inside.size in
    let area = c.self.inside.area in
    let listed = subst (λ (v : LogValue). IsListed v (s.content v.area)) (sym c.self.view_is)
    (c.requires.listed tells) in
    let room = subst (λ (v : LogValue). HasRoomFor (length c.args.framed.now) (record v { spare = 1 })) (sym c.self.view_is) c.requires.room in
    let place = c.add.ensures.extent ∙ ap (λ (n : ℕ). record { offset = size + 4; length = n }) c.length.ensures.count in
    let kept : c.add.new.self.extents
    ≡ extents ++ record { offset = size + 4; length = length c.args.framed.now } ∷ [] =
    ap (λ (v : LogValue). v.extents) c.add.ensures.log ∙ ap (λ (e : Extent). extents ++ e ∷ []) place in
    let end : c.add.new.self.size ≡ size + length c.args.framed.now + 5 =
    ap (λ (v : LogValue). v.size) c.add.ensures.log ∙ ap (λ (n : ℕ). size + n + 5) c.length.ensures.count in
    subst (λ (v : LogValue). ListsPayload c.args.framed.now c.add.new.self (s.content v.area) (t.content v.area))
    c.self.view_is
    (lists_new extents size (s.content area) c.self.invariant.follow listed.list listed.long c.args.framed.now
    (t.content area) room.few c.length.ensures.most (c.in-Ok.ensures.content tells) c.add.new.self kept end)

pub returns-in-Ok-clause-moments : goal.returns-in-Ok-clause-moments
returns-in-Ok-clause-moments g c = λ tells.
    let s = g.D.Disk.state c.args.disk.now in
    let t = g.D.Disk.state c.write_frame-outcome.new.disk in
    let extents = c.self.inside.extents.list in
    let listed = subst (λ (v : LogValue). IsListed v (s.content v.area)) (sym c.self.view_is)
    (c.requires.listed tells) in
    let room = subst (λ (v : LogValue). HasRoomFor (length c.args.framed.now) (record v { spare = 1 })) (sym c.self.view_is) c.requires.room in
    subst (λ (v : LogValue). NowOnly s v.area (Begins (records (s.content v.area)))
    → AlwaysLeaves s t v.area (IsStep (records (s.content v.area)) c.args.framed.now)) c.self.view_is
    (c.write_frame-outcome.ensures.moments tells
    (is_size extents c.self.inside.size (s.content c.self.inside.area) c.self.invariant.follow listed.list
    listed.long)
    (omega (
      arith,
      room.few,
      how_many extents c.self.inside.size (s.content c.self.inside.area) c.self.invariant.follow
          listed.list listed.long,
    )))

pub returns-in-Err-clause-moments : goal.returns-in-Err-clause-moments
returns-in-Err-clause-moments g c = λ tells.
    let s = g.D.Disk.state c.args.disk.now in
    let t = g.D.Disk.state c.write_frame-outcome.new.disk in
    let extents = c.self.inside.extents.list in
    let listed = subst (λ (v : LogValue). IsListed v (s.content v.area)) (sym c.self.view_is)
    (c.requires.listed tells) in
    let room = subst (λ (v : LogValue). HasRoomFor (length c.args.framed.now) (record v { spare = 1 })) (sym c.self.view_is) c.requires.room in
    subst (λ (v : LogValue). NowOnly s v.area (Begins (records (s.content v.area)))
    → AlwaysLeaves s t v.area (IsStep (records (s.content v.area)) c.args.framed.now)) c.self.view_is
    (c.write_frame-outcome.ensures.moments tells
    (is_size extents c.self.inside.size (s.content c.self.inside.area) c.self.invariant.follow listed.list
    listed.long)
    (omega (
      arith,
      room.few,
      how_many extents c.self.inside.size (s.content c.self.inside.area) c.self.invariant.follow
          listed.list listed.long,
    )))

pub returns-in-Ok-clause-rests : goal.returns-in-Ok-clause-rests
returns-in-Ok-clause-rests g c = λ tells.
    let s = g.D.Disk.state c.args.disk.now in
    let t = g.D.Disk.state c.write_frame-outcome.new.disk in
    let extents = c.self.inside.extents.list in
    let area = c.self.inside.area in
    let listed = subst (λ (v : LogValue). IsListed v (s.content v.area)) (sym c.self.view_is)
    (c.requires.listed tells) in
    let room = subst (λ (v : LogValue). HasRoomFor (length c.args.framed.now) (record v { spare = 1 })) (sym c.self.view_is) c.requires.room in
    subst (λ (v : LogValue). NowOnly s v.area (Begins (records (s.content v.area))) → (i : List ℕ)
    → t.image_now v.area i → Begins (records (t.content v.area)) i) c.self.view_is
    (λ start i may. subst (Begins (records (t.content area))) (sym (c.in-Ok.ensures.certain tells i may))
    (begins_new s t area c.self.inside.size c.args.framed.now c.length.ensures.most
    (is_size extents c.self.inside.size (s.content area) c.self.invariant.follow listed.list listed.long)
    (omega (
      arith,
      room.few,
      how_many extents c.self.inside.size (s.content area) c.self.invariant.follow listed.list
          listed.long,
    ))
    (start (s.content area) ((g.met.D.Disk.is_disk c.args.disk.now).content tells area))
    (c.in-Ok.ensures.content tells)))

pub returns-in-Ok-clause-others : goal.returns-in-Ok-clause-others
returns-in-Ok-clause-others g c =
    subst (λ (v : LogValue). (a : Area) → a ≢ v.area
    → LeavesAlone (g.D.Disk.state c.args.disk.now) (g.D.Disk.state c.write_frame-outcome.new.disk) a) c.self.view_is
    c.write_frame-outcome.ensures.others

pub returns-in-Err-clause-others : goal.returns-in-Err-clause-others
returns-in-Err-clause-others g c =
    subst (λ (v : LogValue). (a : Area) → a ≢ v.area
    → LeavesAlone (g.D.Disk.state c.args.disk.now) (g.D.Disk.state c.write_frame-outcome.new.disk) a) c.self.view_is
    c.write_frame-outcome.ensures.others
