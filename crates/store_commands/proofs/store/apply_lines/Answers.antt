use Rattle.std.proofs.Common.{◌≡◌, inl, inr, ℕ, ◌+◌, ◌-◌, List, [], ◌∷◌, ◌++◌, length, Result, Ok, Err, refl, ap, sym, subst, ◌∙◌, append-nil, append_assoc, arith, zero-add}
use Rattle.std.specs.Prelude.{Some}
use Rattle.std.proofs.lemmas.Bool.{false≢true}
use Rattle.std.proofs.lemmas.Result.{err_from_is_err_and}
use Rattle.feed_disk.specs.declared.area.Area.TheVariants.{Mirror}
use Rattle.feed_disk.proofs.MomentLemmas.{alone_begins, alone_joins}
use Rattle.feed_recovery.specs.Settled.{AlwaysLeavesBoth, OpensPast, Settled}
use Rattle.feed_recovery.specs.Stored.{Stored, stored_of}
use Rattle.command_ends.specs.declared.fault.Fault.{Fault}
use Rattle.command_ends.specs.declared.fault.Fault.TheVariants.{Input, Disk}
use Rattle.store_commands.specs.Apply.{lines_fault}
use Rattle.store_commands.specs.Loaded.{LeavesLines}
use Rattle.store_commands.specs.Stored.{applied_store, stored_step, with_operation}
use Rattle.store_commands.proofs.FaultLemmas.{lines-no_disk, input-of_lines, refusal-of_lines}
use Rattle.feed_recovery.proofs.PastLemmas.{both_stay, leaves-more}
use Rattle.store_commands.proofs.MomentsLemmas.{lines-fail, lines-leave}
use Rattle.store_commands.proofs.ReadLemmas.{read-ends, read-next, read-start, read-within}
use Rattle.store_commands.proofs.ProgressLemmas.{Progress, Progress-amid, Progress-end, Progress-long, Progress-made}
use Rattle.store_commands.proofs.ProgressLemmas.{Progress-read, Progress-refused, Progress-start, Progress-step}
use Rattle.store_commands.proofs.StepLemmas.{stored_step-prefix}
use Rattle.store_commands.proofs.StoreLemmas.{disk-or-not, line-is, no-disk}
use Rattle.store_commands.proofs.store.apply_lines.Goals as goal
use Rattle.member_rules.specs.Head.{HeadValue}
use Rattle.member_rules.specs.declared.operation.Op.{Op}

pub returns-in_err-lines-clause-leaves : goal.returns-in_err-lines-clause-leaves
returns-in_err-lines-clause-leaves g c =
    let opened = stored_of c.args.store.now in
    let disk = g.D.Disk.state c.args.disk.now in
    let input = g.I.Source.state c.args.input.now in
    let p = err_from_is_err_and c.from_residual.result c.from_residual.ensures.1 in
    rw (p.1, p.2) (λ observable rests settled.
    lines-leave disk disk (g.C.Clock.coming c.args.clock.now) input input _ _ _ opened opened 0
    ([], sym (append-nil opened.history)) (λ below. omega arith)
    (λ seen. record { within = omega arith; lines = refl })
    (λ stop. cc)
    (both_stay disk (OpensPast opened.head opened.history (length opened.history))
    (g.met.D.Disk.is_disk c.args.disk.now) settled) settled (λ e. cc))

pub loop-lines-init : goal.loop-lines-init
loop-lines-init g c =
    let store = c.args.store.now in
    let disk = g.D.Disk.state c.args.disk.now in
    let moments = g.C.Clock.coming c.args.clock.now in
    let input = g.I.Source.state c.args.input.now in
    let none : length store.history - length store.history ≡ 0 = omega arith in
    record {
      unspent = c.requires.unspent;
      stands = c.requires.stands;
      head = refl;
      opened = c.version-opened.ensures;
      grown = omega arith;
      progress = λ observable clock source.
          subst (λ (n : ℕ).
          Progress (stored_step moments) (stored_of store) input.left c.in_ok-lines.lines input n (stored_of store))
          (sym none)
          (Progress-start (stored_step moments) (stored_of store) input.left c.in_ok-lines.lines input
          c.in_ok-lines.ensures.0 c.in_ok-lines.ensures.1 refl);
      moments = λ clock k. let same : k ≡ k + (length store.history - length store.history) = omega arith in
          ap moments same;
      knows = λ source ended. absurd (false≢true (rw c.in_ok-lines.ensures.2 at ended));
      faults = refl;
      read = read-start c.in_ok-lines.lines input.bytes_read c.in_ok-lines.ensures.1;
      disk_faults = refl;
      calls = λ below. omega arith;
      mirror = alone_begins disk Mirror;
      rests = λ observable rests. rests;
      added = λ observable rests. ([], sym (append-nil store.history));
      leaves = λ observable rests settled.
          both_stay disk (OpensPast store.head store.history (length store.history))
          (g.met.D.Disk.is_disk c.args.disk.now) settled;
      settled = λ observable rests settled. settled;
    }

pub loop-lines-preserved : goal.loop-lines-preserved
loop-lines-preserved g c =
    let held = c.loop-lines.invariant in
    let opened = c.args.store.now in
    let store = c.loop-lines.store in
    let after = c.apply_line.new.store in
    let start = g.D.Disk.state c.args.disk.now in
    let disk = g.D.Disk.state c.loop-lines.disk in
    let left = g.D.Disk.state c.apply_line.new.disk in
    let moments = g.C.Clock.coming c.args.clock.now in
    let input = g.I.Source.state c.loop-lines.input in
    let rest = g.I.Source.state c.next.new.input in
    let before = length store.history - length opened.history in
    let grows = c.in_ok-apply_line.ensures.grows in
    let more : before + 1 ≡ length after.history - length opened.history = omega (arith, held.grown, grows) in
    record {
      unspent = c.in_ok-apply_line.ensures.unspent;
      stands = c.in_ok-apply_line.ensures.stands;
      head = c.apply_line.ensures.head ∙ held.head;
      opened = held.opened;
      grown = omega (arith, held.grown, grows);
      progress = λ observable clock source.
          subst (λ (n : ℕ).
          Progress (stored_step moments) (stored_of opened) (g.I.Source.state c.args.input.now).left
          c.next.new.self rest
          n (stored_of after)) more
          (Progress-step (stored_step moments) (stored_step-prefix moments) (stored_of opened)
          (g.I.Source.state c.args.input.now).left c.loop-lines.lines input c.next.new.self rest before
          (stored_of store)
          (stored_of after) (held.progress observable clock source)
          (c.in_ok-next.ensures.found (ap Ok c.if-branch.true) source)
          (line-is moments store before c.next.new.self.line _ _ _ (Ok (stored_of after)) c.line.ensures
          (omega (arith, c.version.ensures, held.opened))
          (c.now.ensures.moment clock ∙ held.moments clock 0 ∙ ap moments (zero-add before))
          (c.in_ok-apply_line.ensures.made observable)));
      moments = λ clock k.
          let later : k + 1 + before ≡ k + (length after.history - length opened.history) = omega (arith, more) in
          c.now.ensures.later clock k ∙ held.moments clock (k + 1) ∙ ap moments later;
      knows = c.in_ok-next.ensures.knows;
      faults = c.in_ok-next.ensures.input_faults.unfailed (λ e. cc) ∙ held.faults;
      read = read-next c.loop-lines.lines (g.I.Source.state c.args.input.now).bytes_read
          (g.I.Source.state c.loop-lines.input).bytes_read held.read c.next.new.self
          (g.I.Source.state c.next.new.input).bytes_read c.in_ok-next.ensures.read;
      disk_faults = c.in_ok-apply_line.ensures.disk_faults.unfailed (λ e. cc) ∙ held.disk_faults;
      calls = λ below.
          let one = c.in_ok-apply_line.ensures.calls below in
          omega (arith, one, held.calls (omega (arith, one, below)), held.grown, grows);
      mirror = alone_joins start disk left Mirror held.mirror c.apply_line.ensures.mirror;
      rests = λ observable rests. (c.in_ok-apply_line.ensures.settled observable (held.rests observable rests)).rests;
      added = λ observable rests.
          let one = c.in_ok-apply_line.ensures.leaves observable (held.rests observable rests) in
          let so_far = held.added observable rests in (
            so_far.0 ++ one.0 ∷ [],
            one.1 ∙ ap (λ (h : List Op). h ++ one.0 ∷ []) so_far.1
                ∙ append_assoc opened.history so_far.0 (one.0 ∷ []),
          );
      leaves = λ observable rests settled.
          let one = c.in_ok-apply_line.ensures.leaves observable (held.rests observable rests) in
          subst (λ (h : List Op). AlwaysLeavesBoth start left (OpensPast opened.head h (length opened.history)))
          (sym one.1)
          (leaves-more start disk left opened.head store.history one.0 (length opened.history) held.grown
          (held.leaves observable rests settled)
          (subst (λ (h : HeadValue).
          AlwaysLeavesBoth disk left (OpensPast h (store.history ++ one.0 ∷ []) (length store.history))) held.head
          one.2));
      settled = λ observable rests settled.
          subst (λ (h : HeadValue). Settled left h after.history (length after.history))
          (c.apply_line.ensures.head ∙ held.head)
          (c.in_ok-apply_line.ensures.settled observable (held.rests observable rests)).settled;
    }

pub returns-in_err-next-clause-refused : goal.returns-in_err-next-clause-refused
returns-in_err-next-clause-refused g c =
    let p = err_from_is_err_and c.from_residual-in_err-next.result c.from_residual-in_err-next.ensures.1 in
    let moments = g.C.Clock.coming c.args.clock.now in
    let start = g.I.Source.state c.args.input.now in
    let opened = stored_of c.args.store.now in
    let store = stored_of c.loop-lines.store in
    rw (p.1, p.2) (λ refusal observable clock source.
    refusal-of_lines (λ (fault : Fault).
    applied_store moments opened start.left ≡ record { feed = store; fault = Some fault }) c.in_err-next.field-0.0
    (λ e. Progress-long (stored_step moments) opened start.left c.loop-lines.lines
    (g.I.Source.state c.loop-lines.input) _ store
    (c.loop-lines.invariant.progress observable clock source) (c.in_err-next.ensures.too_long (ap Err e) source))
    refusal)

pub returns-in_err-next-clause-leaves : goal.returns-in_err-next-clause-leaves
returns-in_err-next-clause-leaves g c =
    let p = err_from_is_err_and c.from_residual-in_err-next.result c.from_residual-in_err-next.ensures.1 in
    let held = c.loop-lines.invariant in
    let moments = g.C.Clock.coming c.args.clock.now in
    let start = g.I.Source.state c.args.input.now in
    let input = g.I.Source.state c.loop-lines.input in
    let rest = g.I.Source.state c.next.new.input in
    let opened = stored_of c.args.store.now in
    let store = stored_of c.loop-lines.store in
    let before = length store.history - length opened.history in
    rw (p.1, p.2) (λ observable rests settled.
    lines-leave (g.D.Disk.state c.args.disk.now) (g.D.Disk.state c.loop-lines.disk) moments start rest
    (g.C.Clock.observable × g.I.Source.observable) _ _ opened store before (held.added observable rests) held.calls
    (λ seen. Progress-made (stored_step moments) opened start.left c.loop-lines.lines input before store
    (held.progress observable seen.0 seen.1))
    (λ stop seen.
    let same : lines_fault c.in_err-next.field-0.0 ≡ Input = cc in
    Progress-read (stored_step moments) opened start c.loop-lines.lines input rest before store
    (held.progress observable seen.0 seen.1)
    (c.in_err-next.ensures.amid (ap Err (input-of_lines c.in_err-next.field-0.0 same)) seen.1))
    (held.leaves observable rests settled) (held.settled observable rests settled)
    (λ e. let failed : lines_fault c.in_err-next.field-0.0 ≡ Disk = cc in
    lines-no_disk c.in_err-next.field-0.0 failed))

pub returns-in_err-next-clause-unrefused : goal.returns-in_err-next-clause-unrefused
returns-in_err-next-clause-unrefused g c =
    let p = err_from_is_err_and c.from_residual-in_err-next.result c.from_residual-in_err-next.ensures.1 in
    let moments = g.C.Clock.coming c.args.clock.now in
    rw (p.1, p.2) (λ e observable clock source.
    let same : lines_fault c.in_err-next.field-0.0 ≡ Input = cc in
    Progress-amid (stored_step moments) (stored_of c.args.store.now) (g.I.Source.state c.args.input.now)
    c.loop-lines.lines
    (g.I.Source.state c.loop-lines.input) (g.I.Source.state c.next.new.input) _ (stored_of c.loop-lines.store)
    (c.loop-lines.invariant.progress observable clock source)
    (c.in_err-next.ensures.amid (ap Err (input-of_lines c.in_err-next.field-0.0 same)) source))

pub returns-in_err-apply_line-clause-refused : goal.returns-in_err-apply_line-clause-refused
returns-in_err-apply_line-clause-refused g c =
    let p = err_from_is_err_and c.from_residual-in_err-apply_line.result c.from_residual-in_err-apply_line.ensures.1 in
    let held = c.loop-lines.invariant in
    let fault = c.in_err-apply_line.field-0.0 in
    let moments = g.C.Clock.coming c.args.clock.now in
    let store = c.loop-lines.store in
    let before = length store.history - length c.args.store.now.history in
    rw (p.1, p.2) (λ refusal observable clock source.
    Progress-refused (stored_step moments) (stored_step-prefix moments) (stored_of c.args.store.now)
    (g.I.Source.state c.args.input.now).left c.loop-lines.lines (g.I.Source.state c.loop-lines.input) c.next.new.self
    (g.I.Source.state c.next.new.input) before (stored_of store) fault (held.progress observable clock source)
    (c.in_ok-next.ensures.found (ap Ok c.if-branch.true) source)
    (line-is moments store before c.next.new.self.line _ _ _ (Err fault) c.line.ensures
    (omega (arith, c.version.ensures, held.opened))
    (c.now.ensures.moment clock ∙ held.moments clock 0 ∙ ap moments (zero-add before))
    (c.in_err-apply_line.ensures.refused refusal observable))
    ∙ ap (λ (s : Stored). record { feed = s; fault = Some fault })
    (sym (c.in_err-apply_line.ensures.same (λ e. no-disk fault refusal cc)).0))

pub returns-in_err-apply_line-clause-leaves : goal.returns-in_err-apply_line-clause-leaves
returns-in_err-apply_line-clause-leaves g c =
    let p = err_from_is_err_and c.from_residual-in_err-apply_line.result c.from_residual-in_err-apply_line.ensures.1 in
    let held = c.loop-lines.invariant in
    let fault = c.in_err-apply_line.field-0.0 in
    let moments = g.C.Clock.coming c.args.clock.now in
    let start = g.D.Disk.state c.args.disk.now in
    let disk = g.D.Disk.state c.loop-lines.disk in
    let left = g.D.Disk.state c.apply_line.new.disk in
    let input = g.I.Source.state c.args.input.now in
    let now = g.I.Source.state c.loop-lines.input in
    let rest = g.I.Source.state c.next.new.input in
    let opened = stored_of c.args.store.now in
    let store = stored_of c.loop-lines.store in
    let before = length store.history - length opened.history in
    rw (p.1, p.2) (λ observable rests settled.
    let made = λ (seen : g.C.Clock.observable × g.I.Source.observable).
    Progress-made (stored_step moments) opened input.left c.loop-lines.lines now before store
    (held.progress observable seen.0 seen.1) in
    let none : ◌≡◌ {A = Result (Unit {0}) Fault} (Err fault) (Err Input) → ⊥ =
    λ stop. c.in_err-apply_line.ensures.only_errors stop in
    elim (disk-or-not fault) [
      | inl is ↦
          let bad = c.in_err-apply_line.ensures.failed (ap Err is) observable (held.rests observable rests) in
          let next = with_operation store bad.0 in
          let each =
          leaves-more start disk left opened.head store.history bad.0 (length opened.history) held.grown
          (held.leaves observable rests settled)
          (subst (λ (h : HeadValue).
          AlwaysLeavesBoth disk left (OpensPast h (store.history ++ bad.0 ∷ []) (length store.history))) held.head
          bad.3) in
          let later = bad.3.moments.first.later in
          lines-fail start left moments input rest (g.C.Clock.observable × g.I.Source.observable) _ _ opened store before
          (held.added observable rests) (λ below. omega (arith, later, held.calls (omega (arith, later, below))))
          made (λ stop. absurd (none stop)) bad.0 (ap Err is)
          (λ seen.
          Progress-made (stored_step moments) opened input.left c.next.new.self rest (before + 1) next
          (Progress-step (stored_step moments) (stored_step-prefix moments) opened input.left c.loop-lines.lines now
          c.next.new.self rest before store next (held.progress observable seen.0 seen.1)
          (c.in_ok-next.ensures.found (ap Ok c.if-branch.true) seen.1)
          (line-is moments c.loop-lines.store before c.next.new.self.line _ _ _ (Ok next) c.line.ensures
          (omega (arith, c.version.ensures, held.opened))
          (c.now.ensures.moment seen.0 ∙ held.moments seen.0 0 ∙ ap moments (zero-add before)) bad.1)))
          each
      | inr other ↦
          let same = c.in_err-apply_line.ensures.untouched (λ e. other cc) in
          subst (λ d.
          LeavesLines start (g.D.Disk.state d) moments input rest (g.C.Clock.observable × g.I.Source.observable) opened
          (◌≡◌ {A = Result (Unit {0}) Fault} (Err fault) (Err Disk))
          (◌≡◌ {A = Result (Unit {0}) Fault} (Err fault) (Err Input))) (sym same)
          (lines-leave start disk moments input rest (g.C.Clock.observable × g.I.Source.observable) _ _ opened store before
          (held.added observable rests) held.calls made (λ stop. absurd (none stop))
          (held.leaves observable rests settled)
          (held.settled observable rests settled) (λ e. other cc))
    ])

pub returns-clause-made : goal.returns-clause-made
returns-clause-made g c = λ observable clock source.
    let moments = g.C.Clock.coming c.args.clock.now in
    Progress-end (stored_step moments) (stored_of c.args.store.now) (g.I.Source.state c.args.input.now).left
    c.loop-lines.lines (g.I.Source.state c.loop-lines.input) _ (stored_of c.loop-lines.store)
    (c.loop-lines.invariant.progress observable clock source)
    (c.in_ok-next.ensures.none (ap Ok c.if-branch.false) source)

pub returns-clause-leaves : goal.returns-clause-leaves
returns-clause-leaves g c = λ observable rests settled.
    let held = c.loop-lines.invariant in
    let moments = g.C.Clock.coming c.args.clock.now in
    let start = g.I.Source.state c.args.input.now in
    let opened = stored_of c.args.store.now in
    let store = stored_of c.loop-lines.store in
    let before = length store.history - length opened.history in
    lines-leave (g.D.Disk.state c.args.disk.now) (g.D.Disk.state c.loop-lines.disk) moments start
    (g.I.Source.state c.next.new.input)
    (g.C.Clock.observable × g.I.Source.observable) _ _ opened store before (held.added observable rests) held.calls
    (λ seen. Progress-made (stored_step moments) opened start.left c.loop-lines.lines
    (g.I.Source.state c.loop-lines.input) before store
    (held.progress observable seen.0 seen.1))
    (λ stop. cc) (held.leaves observable rests settled) (held.settled observable rests settled) (λ e. cc)

pub returns-in_err-next-clause-read : goal.returns-in_err-next-clause-read
returns-in_err-next-clause-read g c =
    let first = (g.I.Source.state c.args.input.now).bytes_read in
    let now = (g.I.Source.state c.loop-lines.input).bytes_read in
    let rest = (g.I.Source.state c.next.new.input).bytes_read in
    read-ends c.loop-lines.lines first now c.loop-lines.invariant.read c.next.new.self rest c.next.result
    c.next.ensures.read

pub returns-in_err-apply_line-clause-read : goal.returns-in_err-apply_line-clause-read
returns-in_err-apply_line-clause-read g c =
    let first = (g.I.Source.state c.args.input.now).bytes_read in
    let now = (g.I.Source.state c.loop-lines.input).bytes_read in
    let rest = (g.I.Source.state c.next.new.input).bytes_read in
    read-within c.next.new.self first rest
    (read-next c.loop-lines.lines first now c.loop-lines.invariant.read c.next.new.self rest
    c.in_ok-next.ensures.read)

pub returns-clause-read : goal.returns-clause-read
returns-clause-read g c =
    let first = (g.I.Source.state c.args.input.now).bytes_read in
    let now = (g.I.Source.state c.loop-lines.input).bytes_read in
    let rest = (g.I.Source.state c.next.new.input).bytes_read in
    read-within c.next.new.self first rest
    (read-next c.loop-lines.lines first now c.loop-lines.invariant.read c.next.new.self rest
    c.in_ok-next.ensures.read)
