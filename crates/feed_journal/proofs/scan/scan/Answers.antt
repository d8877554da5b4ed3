use Rattle.std.proofs.Common.{◌≡◌, ◌+◌, ◌<◌, ◌≤◌, ℕ, List, [], ◌∷◌, ◌++◌, Option, None, length, take, drop, inl, refl, sym}
use Rattle.std.proofs.Common.{◌∙◌, ap, subst, arith, length-append}
use Rattle.std.specs.Prelude.{IfSome}
use Rattle.std.proofs.lemmas.Grind.{common_steps}
use Rattle.feed_disk.specs.declared.area.Area.{Area}
use Rattle.feed_disk.proofs.MomentLemmas.{alone_begins, alone_joins}
use Rattle.feed_journal.specs.Limits.{payload_limit, payload_count_limit}
use Rattle.feed_journal.specs.Log.{KeepsLog}
use Rattle.feed_journal.specs.Ahead.{Gives, IsAhead}
use Rattle.feed_journal.specs.Reading.{AreFirst}
use Rattle.feed_journal.specs.Scan.{IsNext, header_bytes}
use Rattle.feed_journal.specs.declared.extent.Extent.{Extent}
use Rattle.feed_journal.proofs.CallLemmas.{calls_more}
use Rattle.feed_journal.proofs.ScanLemmas.{found_none, found_last, found_end, found_most, found_more}
use Rattle.feed_journal.proofs.ScanLemmas.{follow_push_end}
use Rattle.feed_journal.proofs.scan.scan.Goals as goal
use Rattle.feed_journal.proofs.scan.scan.Goals.{then-full-via-then-full}
use Rattle.feed_journal.proofs.scan.scan.Goals.{then-full-via-else-full+then-size-end-le-HEADER_LENGTH}

pub frames-init : goal.frames-init
frames-init g c = record {
  ahead = λ tells. subst (λ (l : List ℕ).
      l ≡ take (length l) (drop c.args.ahead.now.from ((g.D.Disk.state c.args.disk.now).content c.args.area)))
      (sym c.requires.none) refl;
  read = omega (arith, ap length c.new-extents.ensures, ap length c.requires.none);
  rules = subst (λ (l : List Extent). KeepsLog l 1) (sym c.new-extents.ensures)
      (record { follow = refl; few = omega arith });
  same = c.new-places.ensures.items ∙ sym c.new-extents.ensures;
  within = c.requires.some;
  found = λ tells. subst (λ (l : List Extent). AreFirst l 0 ((g.D.Disk.state c.args.disk.now).content c.args.area))
      (sym c.new-extents.ensures) (found_none _ (omega (arith, c.requires.some, c.requires.size tells)));
  areas = λ a. alone_begins (g.D.Disk.state c.args.disk.now) a;
  made = inl (refl, refl);
  faults = refl;
}

pub returns-then-full-clause-scanned : goal.returns-then-full-clause-scanned
returns-then-full-clause-scanned g c = λ tells. elim c.then-full.branch [
  | then-full-via-then-full w ↦
      found_most c.frames.extents.list c.frames.end _ (c.frames.invariant.found tells) c.frames.invariant.rules.follow
      (omega (arith, w.if-full.true, c.len-full.ensures, c.frames.places.ok.0, ap length c.frames.invariant.same))
  | then-full-via-else-full+then-size-end-le-HEADER_LENGTH w ↦
      found_end c.frames.extents.list c.frames.end _ (c.frames.invariant.found tells) c.frames.invariant.rules.follow
      (omega (arith, w.if-size-end-le-HEADER_LENGTH.true, c.requires.size tells))
]

pub returns-in_default-clause-read : goal.returns-in_default-clause-read
returns-in_default-clause-read g c =
    omega (arith, c.in_ok-length.ensures.read.read, c.frames.invariant.read)

pub returns-in_default-clause-scanned : goal.returns-in_default-clause-scanned
returns-in_default-clause-scanned g c = λ tells.
    let content = (g.D.Disk.state c.args.disk.now).content c.args.area in
    let next : IsNext (drop c.frames.end content) None =
    subst (IsNext (drop c.frames.end content)) c.in_default.is
    (subst (λ (l : List ℕ). IsNext (drop c.frames.end l) c.in_ok-length.field-0)
    (c.frames.invariant.areas c.args.area).content (c.in_ok-length.ensures.found tells)) in
    found_last c.frames.extents.list c.frames.end content (c.frames.invariant.found tells)
    c.frames.invariant.rules.follow next

pub returns-in_err-length-clause-areas : goal.returns-in_err-length-clause-areas
returns-in_err-length-clause-areas g c = λ a.
    alone_joins (g.D.Disk.state c.args.disk.now) (g.D.Disk.state c.frames.disk) (g.D.Disk.state c.next_frame.new.disk) a
    (c.frames.invariant.areas a) (c.next_frame.ensures.areas a)

pub returns-in_err-length-clause-calls : goal.returns-in_err-length-clause-calls
returns-in_err-length-clause-calls g c = calls_more (g.D.Disk.state c.args.disk.now) (g.D.Disk.state c.frames.disk)
    (g.D.Disk.state c.next_frame.new.disk) c.args.calls.now c.frames.calls c.next_frame.new.calls
    c.frames.invariant.made c.next_frame.ensures.calls

pub returns-in_default-clause-areas : goal.returns-in_default-clause-areas
returns-in_default-clause-areas g c = λ a.
    alone_joins (g.D.Disk.state c.args.disk.now) (g.D.Disk.state c.frames.disk) (g.D.Disk.state c.next_frame.new.disk) a
    (c.frames.invariant.areas a) (c.next_frame.ensures.areas a)

pub returns-in_default-clause-calls : goal.returns-in_default-clause-calls
returns-in_default-clause-calls g c = calls_more (g.D.Disk.state c.args.disk.now) (g.D.Disk.state c.frames.disk)
    (g.D.Disk.state c.next_frame.new.disk) c.args.calls.now c.frames.calls c.next_frame.new.calls
    c.frames.invariant.made c.next_frame.ensures.calls

pub returns-in_err-push-clause-areas : goal.returns-in_err-push-clause-areas
returns-in_err-push-clause-areas g c = λ a.
    alone_joins (g.D.Disk.state c.args.disk.now) (g.D.Disk.state c.frames.disk) (g.D.Disk.state c.next_frame.new.disk) a
    (c.frames.invariant.areas a) (c.next_frame.ensures.areas a)

pub returns-in_err-push-clause-calls : goal.returns-in_err-push-clause-calls
returns-in_err-push-clause-calls g c = calls_more (g.D.Disk.state c.args.disk.now) (g.D.Disk.state c.frames.disk)
    (g.D.Disk.state c.next_frame.new.disk) c.args.calls.now c.frames.calls c.next_frame.new.calls
    c.frames.invariant.made c.next_frame.ensures.calls

pub frames-preserved : goal.frames-preserved
frames-preserved g c =
    let content = (g.D.Disk.state c.args.disk.now).content c.args.area in
    let extents = c.frames.extents.list in
    let end = c.frames.end in
    let n = c.in-Some.length in
    let extent : Extent = record { offset = end + 5; length = n } in
    let pushed = c.with-extents.ensures in
    let placed : c.push.new.self.items ≡ c.frames.places.items ++ extent ∷ [] = grind (arith, common_steps) in
    let few : length extents < payload_count_limit =
    omega (arith, c.if-full.false, c.len-full.ensures, c.frames.places.ok.0, ap length c.frames.invariant.same) in
    let sum : end + n + 5 ≡ end + (c.from.result + 5) = omega (arith, c.from.ensures) in
    let within : (n ≤ payload_limit) × (end + n + 5 < c.args.size) =
    subst (λ (o : Option ℕ). IfSome o (λ m. (m ≤ payload_limit) × (end + m + 5 < c.args.size))) c.in-Some.is
    c.in_ok-length.ensures.within in
    let m = g.D.Disk.state c.frames.disk in
    let t = g.D.Disk.state c.next_frame.new.disk in
    let read : Gives m t end 5 c.frames.ahead c.next_frame.new.ahead =
    subst (λ (o : Option ℕ). Gives m t end (header_bytes o) c.frames.ahead c.next_frame.new.ahead) c.in-Some.is
    c.in_ok-length.ensures.read in
    let next = λ (tells : g.D.Disk.observable). subst (IsNext (drop end content)) c.in-Some.is
    (subst (λ (l : List ℕ). IsNext (drop end l) c.in_ok-length.field-0)
    (c.frames.invariant.areas c.args.area).content (c.in_ok-length.ensures.found tells)) in
    let areas = λ (a : Area). alone_joins (g.D.Disk.state c.args.disk.now) m t a (c.frames.invariant.areas a)
    (c.next_frame.ensures.areas a) in
    record {
      ahead = λ tells. subst (IsAhead c.next_frame.new.ahead) (areas c.args.area).content
          (c.in_ok-length.ensures.ahead tells);
      read = omega (
        arith,
        read.read,
        read.most,
        c.frames.invariant.read,
        ap length pushed,
        length-append extents (extent ∷ []),
        c.from.ensures,
      );
      rules = subst (λ (l : List Extent). KeepsLog l (end + (c.from.result + 5) + 1)) (sym pushed)
          (subst (λ (m : ℕ). KeepsLog (extents ++ extent ∷ []) (m + 1)) sum (record {
            follow = follow_push_end extents end n c.frames.invariant.rules.follow within.0;
            few = omega (arith, few, length-append extents (extent ∷ []));
          }));
      same = placed ∙ ap (λ (l : List Extent). l ++ extent ∷ []) c.frames.invariant.same ∙ sym pushed;
      within = omega (arith, within.1, c.from.ensures);
      found = λ tells. subst (λ (l : List Extent). AreFirst l (end + (c.from.result + 5)) content) (sym pushed)
          (subst (λ (m : ℕ). AreFirst (extents ++ extent ∷ []) m content) sum
          (found_more extents end content (c.frames.invariant.found tells) c.frames.invariant.rules.follow few n
          (next tells)));
      areas = areas;
      made = calls_more (g.D.Disk.state c.args.disk.now) (g.D.Disk.state c.frames.disk)
          (g.D.Disk.state c.next_frame.new.disk) c.args.calls.now c.frames.calls c.next_frame.new.calls
          c.frames.invariant.made c.next_frame.ensures.calls;
      faults = c.in_ok-length.ensures.cause.worked ∙ c.frames.invariant.faults;
    }
