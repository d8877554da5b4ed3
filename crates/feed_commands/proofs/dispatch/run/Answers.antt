use Rattle.std.proofs.Common.{◌≡◌, ◌⊎◌, inl, inr, ⊎_elim, ℕ, Err, true, false, refl, sym, subst, ap, ◌∙◌, arith}
use Rattle.std.proofs.lemmas.Result.{on_ok_weaker}
use Rattle.scrub_command.proofs.RepairEndLemmas.{ends-bad, ends-full, repair-weaker}
use Rattle.tool_words.specs.declared.command.Command.TheVariants.{Audit, Discover, Drill, Foreign, Mirror, Relay, Serve, Show}
use Rattle.tool_words.specs.declared.command.Show.TheVariants.{Pile}
use Rattle.feed_disk.specs.declared.area.Area.TheVariants.{Journal, Sealed}
use Rattle.feed_recovery.proofs.LoadedLemmas.{alone-payloads}
use Rattle.mirror_commands.specs.declared.report_fault.ReportFault.TheVariants.{Other}
use Rattle.command_ends.specs.declared.fault.Fault.TheVariants.{Disk, Input, NoMemory}
use Rattle.command_ends.specs.Answer.{Answer}
use Rattle.store_commands.specs.Crash.{IsStatusAfterLoad}
use Rattle.command_ends.specs.Fault.{fault_answer}
use Rattle.feed_commands.specs.Outside.{outside_of}
use Rattle.command_ends.specs.Ends.{IsAnswered}
use Rattle.command_ends.specs.Status.{code_of}
use Rattle.command_ends.proofs.AnsweredLemmas.{done-sent}
use Rattle.feed_commands.proofs.CountLemmas.{counts-none, counts-of_ok, disk-of_fault, disk_end, input-of_fault, no_usage}
use Rattle.feed_commands.proofs.CountLemmas.{output-later, output-of_fault, shared-counts, shared-other}
use Rattle.store_commands.proofs.DiskLemmas.{applies-weaker, keeps-none, makes-weaker}
use Rattle.feed_commands.proofs.EndsLemmas.{text-ends, unread-ends}
use Rattle.command_ends.proofs.EndLemmas.{answered-refusal, input_end, no_door, no_end, no_output}
use Rattle.feed_commands.proofs.LoadedFaultLemmas.{loaded_fault}
use Rattle.mirror_commands.proofs.MirrorEndLemmas.{fault-complete}
use Rattle.feed_commands.proofs.PileEndLemmas.{pile-is_status}
use Rattle.command_ends.proofs.PrintLemmas.{alone-fault, prints-from}
use Rattle.feed_commands.proofs.RunLemmas.{ends-done, ends-refused, ends-unsent, no_command, read_all, read_as}
use Rattle.feed_commands.proofs.RunLemmas.{audit-status, discover-status, fetched-status, foreign-status, mirror-status}
use Rattle.feed_commands.proofs.RunLemmas.{discover-other, read_words-of, url-of}
use Rattle.feed_commands.proofs.RunLemmas.{audit-other, bare-none, drill-other, faults-none, fetched-other, foreign-other}
use Rattle.feed_commands.proofs.RunLemmas.{mirror-other, start-of}
use Rattle.feed_commands.proofs.RunLemmas.{relay-other, relay-status}
use Rattle.feed_commands.proofs.RunLemmas.{pile-other, serve-other, unused-all, unused-by, words-of, words-refused, words-unread}
use Rattle.feed_commands.proofs.RunLemmas.{drill-status, mirror-is, seen-unfetched, serve-status, show-pile, usage}
use Rattle.feed_commands.proofs.dispatch.run.Goals as goal

-- words that name no command

pub returns-in-Err-Usage-clause-words : goal.returns-in-Err-Usage-clause-words
returns-in-Err-Usage-clause-words g c = words-refused
    (no_command (usage c.in-Err-Usage.is c.in-Err-Usage.field-0-is) c.read_words.ensures.only)
    c.with_status.ensures.status

pub returns-in-Err-Usage-clause-faults : goal.returns-in-Err-Usage-clause-faults
returns-in-Err-Usage-clause-faults g c =
    let is : c.with_status.result.status ≡ 2 = c.with_status.ensures.status in
    faults-none (λ e. omega (arith, e, is)) (λ e. omega (arith, e, is)) (λ e. omega (arith, e, is))
    (output-later (λ e. omega (arith, e, is)) (⊎_elim (λ e. omega (arith, e, is)) (λ e. omega (arith, e, is)))
    c.write_all.ensures.counts.later)

pub returns-in-Err-Usage-clause-complete : goal.returns-in-Err-Usage-clause-complete
returns-in-Err-Usage-clause-complete g c = λ command of_words.
    absurd (no_command (usage c.in-Err-Usage.is c.in-Err-Usage.field-0-is)
    c.read_words.ensures.only command of_words)

pub returns-in-Err-Usage-clause-safe : goal.returns-in-Err-Usage-clause-safe
returns-in-Err-Usage-clause-safe g c = λ others observable. keeps-none (g.D.Disk.state c.args.disk.now)

pub returns-in-Err-Usage-clause-unused : goal.returns-in-Err-Usage-clause-unused
returns-in-Err-Usage-clause-unused g c = unused-all refl refl refl refl refl

pub returns-in-Err-Usage-clause-bare : goal.returns-in-Err-Usage-clause-bare
returns-in-Err-Usage-clause-bare g c = bare-none c.with_status.ensures.alone

pub returns-in-Err-Usage-clause-ends : goal.returns-in-Err-Usage-clause-ends
returns-in-Err-Usage-clause-ends g c = λ command of_words.
    absurd (no_command (usage c.in-Err-Usage.is c.in-Err-Usage.field-0-is)
    c.read_words.ensures.only command of_words)

-- no memory for the command

pub returns-in-Err-NoMemory-clause-words : goal.returns-in-Err-NoMemory-clause-words
returns-in-Err-NoMemory-clause-words g c = words-unread
    (c.with_status-in-Err-NoMemory.ensures.status ∙ ap code_of c.print_fault.ensures.status)

pub returns-in-Err-NoMemory-clause-alone : goal.returns-in-Err-NoMemory-clause-alone
returns-in-Err-NoMemory-clause-alone g c = λ sink once alone.
    rw (c.with_status-in-Err-NoMemory.ensures.status ∙ ap code_of c.print_fault.ensures.status)
    (rw (alone-fault NoMemory (inr (inr (inl refl)))) (c.print_fault.ensures.prints sink))

pub returns-in-Err-NoMemory-clause-faults : goal.returns-in-Err-NoMemory-clause-faults
returns-in-Err-NoMemory-clause-faults g c =
    let is : c.with_status-in-Err-NoMemory.result.status ≡ 5 =
    (c.with_status-in-Err-NoMemory.ensures.status ∙ ap code_of c.print_fault.ensures.status) in
    faults-none (λ e. omega (arith, e, is)) (λ e. omega (arith, e, is)) (λ e. omega (arith, e, is))
    (output-of_fault NoMemory is c.print_fault.ensures.faults)

pub returns-in-Err-NoMemory-clause-safe : goal.returns-in-Err-NoMemory-clause-safe
returns-in-Err-NoMemory-clause-safe g c = λ others observable. keeps-none (g.D.Disk.state c.args.disk.now)

pub returns-in-Err-NoMemory-clause-unused : goal.returns-in-Err-NoMemory-clause-unused
returns-in-Err-NoMemory-clause-unused g c = unused-all refl refl refl refl refl

pub returns-in-Err-NoMemory-clause-bare : goal.returns-in-Err-NoMemory-clause-bare
returns-in-Err-NoMemory-clause-bare g c = bare-none c.with_status-in-Err-NoMemory.ensures.alone

pub returns-in-Err-NoMemory-clause-ends : goal.returns-in-Err-NoMemory-clause-ends
returns-in-Err-NoMemory-clause-ends g c = λ command of_words.
    unread-ends (g.D.Disk.state c.args.disk.now) (g.C.Clock.coming c.args.clock.now) (g.L.Door.state c.args.door.now)
    _ (g.F.Fetch.state c.args.fetch.now) (g.I.Source.state c.args.input.now) (g.O.Sink.state c.args.output.now)
    (g.O.Sink.state c.print_fault.new.output) g.D.Disk.observable g.C.Clock.observable g.L.Door.observable
    g.F.Fetch.observable g.I.Source.observable g.O.Sink.observable
    c.with_status-in-Err-NoMemory.result.lines.items c.with_status-in-Err-NoMemory.result.life
    c.with_status-in-Err-NoMemory.result.status (g.met.D.Disk.is_disk c.args.disk.now) (λ listen stays. stays)
    c.print_fault.ensures.prints c.with_status-in-Err-NoMemory.ensures.alone
    (c.with_status-in-Err-NoMemory.ensures.status ∙ ap code_of c.print_fault.ensures.status) command

-- `serve`

pub returns-in-Serve-clause-statuses : goal.returns-in-Serve-clause-statuses
returns-in-Serve-clause-statuses g c = serve-status c.serve.result.status c.serve.ensures.statuses

pub returns-in-Serve-clause-words : goal.returns-in-Serve-clause-words
returns-in-Serve-clause-words g c = words-of (Serve c.in-Serve.listen c.in-Serve.requests c.in-Serve.service)
    (read_as _ c.in-Ok.is c.in-Serve.is c.read_words.ensures.found)
    (serve-other _ c.serve.ensures.statuses).0

pub returns-in-Serve-clause-alone : goal.returns-in-Serve-clause-alone
returns-in-Serve-clause-alone g c = λ sink once.
    absurd (once (Serve c.in-Serve.listen c.in-Serve.requests c.in-Serve.service)
    (read_as _ c.in-Ok.is c.in-Serve.is c.read_words.ensures.found))

pub returns-in-Serve-clause-faults : goal.returns-in-Serve-clause-faults
returns-in-Serve-clause-faults g c = record {
  disk_faults = c.serve.ensures.disk_faults;
  input_faults = counts-none (serve-other _ c.serve.ensures.statuses).1;
  input_read = λ command of_words. omega arith;
  output_faults = c.serve.ensures.output_faults;
  door_faults = shared-counts c.serve.ensures.door_faults;
  fetch_faults = shared-other (λ others.
      others (Serve c.in-Serve.listen c.in-Serve.requests c.in-Serve.service)
      (read_as _ c.in-Ok.is c.in-Serve.is c.read_words.ensures.found) tt);
}

pub returns-in-Serve-clause-safe : goal.returns-in-Serve-clause-safe
returns-in-Serve-clause-safe g c = λ others.
    absurd (others (Serve c.in-Serve.listen c.in-Serve.requests c.in-Serve.service)
    (read_as _ c.in-Ok.is c.in-Serve.is c.read_words.ensures.found))

pub returns-in-Serve-clause-unused : goal.returns-in-Serve-clause-unused
returns-in-Serve-clause-unused g c =
    let of_words = read_as _ c.in-Ok.is c.in-Serve.is c.read_words.ensures.found in
    unused-by (Serve c.in-Serve.listen c.in-Serve.requests c.in-Serve.service) of_words (λ unused. absurd (unused tt))
    (λ unused. absurd (unused tt)) (λ _. refl) (λ unused. absurd (unused tt)) (λ _. refl)

pub returns-in-Serve-clause-bare : goal.returns-in-Serve-clause-bare
returns-in-Serve-clause-bare g c = record {
  no_lines = λ others. absurd (others _ _ _ (read_as _ c.in-Ok.is c.in-Serve.is c.read_words.ensures.found));
  no_life = λ _. c.serve.ensures.life;
}

pub returns-in-Serve-clause-ends : goal.returns-in-Serve-clause-ends
returns-in-Serve-clause-ends g c = read_all _ c.in-Ok.is c.read_words.ensures.only
    (rw c.in-Serve.is (c.serve.ensures.serves, rw c.slice.ensures at c.serve.ensures.address))

-- `relay`

pub returns-in-Relay-clause-statuses : goal.returns-in-Relay-clause-statuses
returns-in-Relay-clause-statuses g c =
    rw c.with_status-in-Relay.ensures.status (relay-status _ c.relay-status.ensures.statuses)

pub returns-in-Relay-clause-words : goal.returns-in-Relay-clause-words
returns-in-Relay-clause-words g c =
    words-of (Relay c.in-Relay.base c.in-Relay.listen c.in-Relay.requests c.in-Relay.capacity)
    (read_as _ c.in-Ok.is c.in-Relay.is c.read_words.ensures.found)
    (rw c.with_status-in-Relay.ensures.status (relay-other _ c.relay-status.ensures.statuses).0)

pub returns-in-Relay-clause-alone : goal.returns-in-Relay-clause-alone
returns-in-Relay-clause-alone g c = λ sink once.
    absurd (once (Relay c.in-Relay.base c.in-Relay.listen c.in-Relay.requests c.in-Relay.capacity)
    (read_as _ c.in-Ok.is c.in-Relay.is c.read_words.ensures.found))

pub returns-in-Relay-clause-faults : goal.returns-in-Relay-clause-faults
returns-in-Relay-clause-faults g c =
    rw c.with_status-in-Relay.ensures.status (record {
      disk_faults = c.relay-status.ensures.disk_faults;
      input_faults = counts-none (relay-other _ c.relay-status.ensures.statuses).1;
      input_read = λ command of_words. omega arith;
      output_faults = c.relay-status.ensures.output_faults;
      door_faults = shared-counts c.relay-status.ensures.door_faults;
      fetch_faults = shared-other (λ others.
          others (Relay c.in-Relay.base c.in-Relay.listen c.in-Relay.requests c.in-Relay.capacity)
          (read_as _ c.in-Ok.is c.in-Relay.is c.read_words.ensures.found) tt);
    })

pub returns-in-Relay-clause-safe : goal.returns-in-Relay-clause-safe
returns-in-Relay-clause-safe g c = λ others observable.
    alone-payloads _ _ (c.relay-status.ensures.others Journal (λ e. cc)) (c.relay-status.ensures.others Sealed (λ e. cc))

pub returns-in-Relay-clause-mirror : goal.returns-in-Relay-clause-mirror
returns-in-Relay-clause-mirror g c = λ others.
    absurd (others (Relay c.in-Relay.base c.in-Relay.listen c.in-Relay.requests c.in-Relay.capacity)
    (read_as _ c.in-Ok.is c.in-Relay.is c.read_words.ensures.found) tt)

pub returns-in-Relay-clause-unused : goal.returns-in-Relay-clause-unused
returns-in-Relay-clause-unused g c =
    unused-by (Relay c.in-Relay.base c.in-Relay.listen c.in-Relay.requests c.in-Relay.capacity)
    (read_as _ c.in-Ok.is c.in-Relay.is c.read_words.ensures.found) (λ unused. absurd (unused tt))
    (λ _. refl) (λ _. refl) (λ unused. absurd (unused tt)) (λ _. refl)

pub returns-in-Relay-clause-bare : goal.returns-in-Relay-clause-bare
returns-in-Relay-clause-bare g c = bare-none c.with_status-in-Relay.ensures.alone

pub returns-in-Relay-clause-ends : goal.returns-in-Relay-clause-ends
returns-in-Relay-clause-ends g c = read_all _ c.in-Ok.is c.read_words.ensures.only
    (rw c.in-Relay.is (
      rw c.with_status-in-Relay.ensures.status c.relay-status.ensures.ends,
      rw c.slice-at.ensures at c.relay-status.ensures.address,
    ))

-- `show pile`

pub returns-in-Show-Pile-clause-statuses : goal.returns-in-Show-Pile-clause-statuses
returns-in-Show-Pile-clause-statuses g c = rw c.with_status-in-Show-Pile.ensures.status
    (pile-is_status _ c.show_pile.ensures.statuses)

pub returns-in-Show-Pile-clause-words : goal.returns-in-Show-Pile-clause-words
returns-in-Show-Pile-clause-words g c =
    let is = show-pile c.in-Show-Pile.is (rw c.in-Show-Pile.is at c.in-Show-Pile.field-0-is) in
    words-of (Show Pile) (read_as _ c.in-Ok.is is c.read_words.ensures.found)
    (rw c.with_status-in-Show-Pile.ensures.status (pile-other _ c.show_pile.ensures.statuses).0)

pub returns-in-Show-Pile-clause-answered : goal.returns-in-Show-Pile-clause-answered
returns-in-Show-Pile-clause-answered g c =
    let is = show-pile c.in-Show-Pile.is (rw c.in-Show-Pile.is at c.in-Show-Pile.field-0-is) in
    read_all _ c.in-Ok.is c.read_words.ensures.only
    (rw is (λ seen. rw c.with_status-in-Show-Pile.ensures.status (λ answered.
    c.show_pile.ensures.answered (seen.disk tt) answered (g.C.Clock.coming c.args.clock.now)
    (g.I.Source.state c.args.input.now) (g.F.Fetch.state c.args.fetch.now))))

pub returns-in-Show-Pile-clause-alone : goal.returns-in-Show-Pile-clause-alone
returns-in-Show-Pile-clause-alone g c = λ sink once.
    let is = show-pile c.in-Show-Pile.is (rw c.in-Show-Pile.is at c.in-Show-Pile.field-0-is) in
    absurd (once (Show Pile) (read_as _ c.in-Ok.is is c.read_words.ensures.found))

pub returns-in-Show-Pile-clause-faults : goal.returns-in-Show-Pile-clause-faults
returns-in-Show-Pile-clause-faults g c =
    let other = pile-other _ c.show_pile.ensures.statuses in
    rw c.with_status-in-Show-Pile.ensures.status (record {
      disk_faults = c.show_pile.ensures.disk_faults;
      input_faults = counts-none other.2;
      input_read = λ command of_words. omega arith;
      output_faults = c.show_pile.ensures.output_faults;
      door_faults = shared-counts (counts-none other.1);
      fetch_faults = shared-counts (counts-none other.1);
    })

pub returns-in-Show-Pile-clause-complete : goal.returns-in-Show-Pile-clause-complete
returns-in-Show-Pile-clause-complete g c =
    let is = show-pile c.in-Show-Pile.is (rw c.in-Show-Pile.is at c.in-Show-Pile.field-0-is) in
    read_all _ c.in-Ok.is c.read_words.ensures.only
    (rw is (λ seen given due. record {
      ends = λ disk fetch input output.
          rw (c.with_status-in-Show-Pile.ensures.status, due.is)
          (c.show_pile.ensures.complete (seen.disk tt) due.stored due.opens disk output);
    }))

pub returns-in-Show-Pile-clause-unused : goal.returns-in-Show-Pile-clause-unused
returns-in-Show-Pile-clause-unused g c =
    let is = show-pile c.in-Show-Pile.is (rw c.in-Show-Pile.is at c.in-Show-Pile.field-0-is) in
    unused-by (Show Pile) (read_as _ c.in-Ok.is is c.read_words.ensures.found)
    (λ unused. absurd (unused tt)) (λ _. refl) (λ _. refl) (λ _. refl) (λ _. refl)

pub returns-in-Show-Pile-clause-bare : goal.returns-in-Show-Pile-clause-bare
returns-in-Show-Pile-clause-bare g c = bare-none c.with_status-in-Show-Pile.ensures.alone

pub returns-in-Show-Pile-clause-ends : goal.returns-in-Show-Pile-clause-ends
returns-in-Show-Pile-clause-ends g c =
    let is = show-pile c.in-Show-Pile.is (rw c.in-Show-Pile.is at c.in-Show-Pile.field-0-is) in
    read_all _ c.in-Ok.is c.read_words.ensures.only
    (rw is (rw c.with_status-in-Show-Pile.ensures.status c.show_pile.ensures.cut))

-- `mirror --fetch`

pub returns-in-Mirror-default-true-default-default-clause-statuses :
    goal.returns-in-Mirror-default-true-default-default-clause-statuses
returns-in-Mirror-default-true-default-default-clause-statuses g c = rw
    c.with_status-in-Mirror-default-true-default-default.ensures.status
    (fetched-status _ c.mirror_fetched-status.ensures.statuses)

pub returns-in-Mirror-default-true-default-default-clause-words :
    goal.returns-in-Mirror-default-true-default-default-clause-words
returns-in-Mirror-default-true-default-default-clause-words g c =
    let arm = c.in-Mirror-default-true-default-default in
    let is = mirror-is arm.is arm.fetch-test in
    words-of (Mirror arm.base true arm.report arm.capacity) (read_as _ c.in-Ok.is is c.read_words.ensures.found)
    (rw c.with_status-in-Mirror-default-true-default-default.ensures.status
    (fetched-other _ c.mirror_fetched-status.ensures.statuses).0)

pub returns-in-Mirror-default-true-default-default-clause-answered :
    goal.returns-in-Mirror-default-true-default-default-clause-answered
returns-in-Mirror-default-true-default-default-clause-answered g c =
    let arm = c.in-Mirror-default-true-default-default in
    let is = mirror-is arm.is arm.fetch-test in
    read_all _ c.in-Ok.is c.read_words.ensures.only
    (rw is (λ seen. rw c.with_status-in-Mirror-default-true-default-default.ensures.status (λ answered.
    c.mirror_fetched-status.ensures.answered (seen.disk tt) (seen.fetch tt) answered)))

pub returns-in-Mirror-default-true-default-default-clause-alone :
    goal.returns-in-Mirror-default-true-default-default-clause-alone
returns-in-Mirror-default-true-default-default-clause-alone g c = λ sink once. rw
    c.with_status-in-Mirror-default-true-default-default.ensures.status (c.mirror_fetched-status.ensures.alone sink)

pub returns-in-Mirror-default-true-default-default-clause-faults :
    goal.returns-in-Mirror-default-true-default-default-clause-faults
returns-in-Mirror-default-true-default-default-clause-faults g c =
    let arm = c.in-Mirror-default-true-default-default in
    let is = mirror-is arm.is arm.fetch-test in
    let of_words = read_as _ c.in-Ok.is is c.read_words.ensures.found in
    rw c.with_status-in-Mirror-default-true-default-default.ensures.status (record {
      disk_faults = c.mirror_fetched-status.ensures.disk_faults;
      input_faults = counts-none (fetched-other _ c.mirror_fetched-status.ensures.statuses).1;
      input_read = λ command of_words. omega arith;
      output_faults = c.mirror_fetched-status.ensures.output_faults;
      door_faults = shared-other (λ others. others (Mirror arm.base true arm.report arm.capacity) of_words tt);
      fetch_faults = shared-counts c.mirror_fetched-status.ensures.fetch_faults;
    })

pub returns-in-Mirror-default-true-default-default-clause-complete :
    goal.returns-in-Mirror-default-true-default-default-clause-complete
returns-in-Mirror-default-true-default-default-clause-complete g c =
    let arm = c.in-Mirror-default-true-default-default in
    let is = mirror-is arm.is arm.fetch-test in
    read_all _ c.in-Ok.is c.read_words.ensures.only (rw is (λ seen given due. record {
      ends = λ disk fetch input output.
          rw c.with_status-in-Mirror-default-true-default-default.ensures.status
          (c.mirror_fetched-status.ensures.complete (seen.disk tt) (seen.fetch tt) due.kept given due.loaded due.is
          disk fetch
          output);
    }))

pub returns-in-Mirror-default-true-default-default-clause-mirror :
    goal.returns-in-Mirror-default-true-default-default-clause-mirror
returns-in-Mirror-default-true-default-default-clause-mirror g c = λ others.
    let arm = c.in-Mirror-default-true-default-default in
    let is = mirror-is arm.is arm.fetch-test in
    absurd (others (Mirror arm.base true arm.report arm.capacity)
    (read_as _ c.in-Ok.is is c.read_words.ensures.found) tt)

pub returns-in-Mirror-default-true-default-default-clause-unused :
    goal.returns-in-Mirror-default-true-default-default-clause-unused
returns-in-Mirror-default-true-default-default-clause-unused g c =
    let arm = c.in-Mirror-default-true-default-default in
    let is = mirror-is arm.is arm.fetch-test in
    unused-by (Mirror arm.base true arm.report arm.capacity) (read_as _ c.in-Ok.is is c.read_words.ensures.found)
    (λ unused. absurd (unused tt)) (λ _. refl) (λ _. refl) (λ _. refl) (λ unused. absurd (unused tt))

pub returns-in-Mirror-default-true-default-default-clause-bare :
    goal.returns-in-Mirror-default-true-default-default-clause-bare
returns-in-Mirror-default-true-default-default-clause-bare g c = bare-none
    c.with_status-in-Mirror-default-true-default-default.ensures.alone

pub returns-in-Mirror-default-true-default-default-clause-ends :
    goal.returns-in-Mirror-default-true-default-default-clause-ends
returns-in-Mirror-default-true-default-default-clause-ends g c =
    let arm = c.in-Mirror-default-true-default-default in
    let is = mirror-is arm.is arm.fetch-test in
    read_all _ c.in-Ok.is c.read_words.ensures.only
    (rw is (rw c.with_status-in-Mirror-default-true-default-default.ensures.status
    c.mirror_fetched-status.ensures.fetches))

-- `mirror` from a pile

pub returns-in-Mirror-default-false-default-default-clause-statuses :
    goal.returns-in-Mirror-default-false-default-default-clause-statuses
returns-in-Mirror-default-false-default-default-clause-statuses g c = rw
    c.with_status-in-Mirror-default-false-default-default.ensures.status
    (mirror-status _ c.mirror-status.ensures.statuses)

pub returns-in-Mirror-default-false-default-default-clause-words :
    goal.returns-in-Mirror-default-false-default-default-clause-words
returns-in-Mirror-default-false-default-default-clause-words g c =
    let arm = c.in-Mirror-default-false-default-default in
    let is = mirror-is arm.is arm.fetch-test in
    words-of (Mirror arm.base false arm.report arm.capacity) (read_as _ c.in-Ok.is is c.read_words.ensures.found)
    (rw c.with_status-in-Mirror-default-false-default-default.ensures.status
    (mirror-other _ c.mirror-status.ensures.statuses).0)

pub returns-in-Mirror-default-false-default-default-clause-answered :
    goal.returns-in-Mirror-default-false-default-default-clause-answered
returns-in-Mirror-default-false-default-default-clause-answered g c =
    let arm = c.in-Mirror-default-false-default-default in
    let is = mirror-is arm.is arm.fetch-test in
    read_all _ c.in-Ok.is c.read_words.ensures.only
    (rw is (λ seen. rw c.with_status-in-Mirror-default-false-default-default.ensures.status (λ answered.
    c.mirror-status.ensures.answered (seen.disk tt) (seen.input tt) answered)))

pub returns-in-Mirror-default-false-default-default-clause-alone :
    goal.returns-in-Mirror-default-false-default-default-clause-alone
returns-in-Mirror-default-false-default-default-clause-alone g c = λ sink once. rw
    c.with_status-in-Mirror-default-false-default-default.ensures.status (c.mirror-status.ensures.alone sink)

pub returns-in-Mirror-default-false-default-default-clause-faults :
    goal.returns-in-Mirror-default-false-default-default-clause-faults
returns-in-Mirror-default-false-default-default-clause-faults g c =
    let other = mirror-other _ c.mirror-status.ensures.statuses in
    let arm = c.in-Mirror-default-false-default-default in
    let command = mirror-is arm.is arm.fetch-test in
    rw c.with_status-in-Mirror-default-false-default-default.ensures.status (record {
      disk_faults = c.mirror-status.ensures.disk_faults;
      input_faults = c.mirror-status.ensures.input_faults;
      input_read = read_all _ c.in-Ok.is c.read_words.ensures.only (rw command c.mirror-status.ensures.read);
      output_faults = c.mirror-status.ensures.output_faults;
      door_faults = shared-counts (counts-none other.1);
      fetch_faults = shared-counts (counts-none other.1);
    })

pub returns-in-Mirror-default-false-default-default-clause-first_fault :
    goal.returns-in-Mirror-default-false-default-default-clause-first_fault
returns-in-Mirror-default-false-default-default-clause-first_fault g c =
    let arm = c.in-Mirror-default-false-default-default in
    let is = mirror-is arm.is arm.fetch-test in
    read_all _ c.in-Ok.is c.read_words.ensures.only
    (rw is (λ seen. rw c.with_status-in-Mirror-default-false-default-default.ensures.status
    (c.mirror-status.ensures.first_fault (seen.disk tt) (seen.input tt))))

pub returns-in-Mirror-default-false-default-default-clause-complete :
    goal.returns-in-Mirror-default-false-default-default-clause-complete
returns-in-Mirror-default-false-default-default-clause-complete g c =
    let arm = c.in-Mirror-default-false-default-default in
    let is = mirror-is arm.is arm.fetch-test in
    read_all _ c.in-Ok.is c.read_words.ensures.only (rw is (λ seen given due. record {
      ends = λ disk fetch input output.
          rw c.with_status-in-Mirror-default-false-default-default.ensures.status
          (c.mirror-status.ensures.complete (seen.disk tt) (seen.input tt) due.kept given due.loaded due.is disk input
          output);
    }))

pub returns-in-Mirror-default-false-default-default-clause-mirror :
    goal.returns-in-Mirror-default-false-default-default-clause-mirror
returns-in-Mirror-default-false-default-default-clause-mirror g c = λ others.
    let arm = c.in-Mirror-default-false-default-default in
    let is = mirror-is arm.is arm.fetch-test in
    absurd (others (Mirror arm.base false arm.report arm.capacity)
    (read_as _ c.in-Ok.is is c.read_words.ensures.found) tt)

pub returns-in-Mirror-default-false-default-default-clause-unused :
    goal.returns-in-Mirror-default-false-default-default-clause-unused
returns-in-Mirror-default-false-default-default-clause-unused g c =
    let arm = c.in-Mirror-default-false-default-default in
    let is = mirror-is arm.is arm.fetch-test in
    unused-by (Mirror arm.base false arm.report arm.capacity) (read_as _ c.in-Ok.is is c.read_words.ensures.found)
    (λ unused. absurd (unused tt)) (λ _. refl) (λ unused. absurd (unused tt)) (λ _. refl) (λ _. refl)

pub returns-in-Mirror-default-false-default-default-clause-bare :
    goal.returns-in-Mirror-default-false-default-default-clause-bare
returns-in-Mirror-default-false-default-default-clause-bare g c = bare-none
    c.with_status-in-Mirror-default-false-default-default.ensures.alone

pub returns-in-Mirror-default-false-default-default-clause-ends :
    goal.returns-in-Mirror-default-false-default-default-clause-ends
returns-in-Mirror-default-false-default-default-clause-ends g c =
    let arm = c.in-Mirror-default-false-default-default in
    let is = mirror-is arm.is arm.fetch-test in
    read_all _ c.in-Ok.is c.read_words.ensures.only
    (rw is (rw c.with_status-in-Mirror-default-false-default-default.ensures.status
    c.mirror-status.ensures.mirrors))

-- `audit`

pub returns-in-Audit-clause-statuses : goal.returns-in-Audit-clause-statuses
returns-in-Audit-clause-statuses g c = rw c.with_status-in-Audit.ensures.status
    (audit-status _ c.audit.ensures.statuses)

pub returns-in-Audit-clause-words : goal.returns-in-Audit-clause-words
returns-in-Audit-clause-words g c = words-of Audit (read_as _ c.in-Ok.is c.in-Audit.is c.read_words.ensures.found)
    (rw c.with_status-in-Audit.ensures.status (audit-other _ c.audit.ensures.statuses).0)

pub returns-in-Audit-clause-answered : goal.returns-in-Audit-clause-answered
returns-in-Audit-clause-answered g c = read_all _ c.in-Ok.is c.read_words.ensures.only
    (rw c.in-Audit.is (λ seen. rw c.with_status-in-Audit.ensures.status
    (λ answered. c.audit.ensures.answered (seen.input tt) answered)))

pub returns-in-Audit-clause-alone : goal.returns-in-Audit-clause-alone
returns-in-Audit-clause-alone g c = λ sink once. rw c.with_status-in-Audit.ensures.status (c.audit.ensures.alone sink)

pub returns-in-Audit-clause-faults : goal.returns-in-Audit-clause-faults
returns-in-Audit-clause-faults g c =
    let other = audit-other _ c.audit.ensures.statuses in
    rw c.with_status-in-Audit.ensures.status (record {
      disk_faults = counts-none other.1;
      input_faults = c.audit.ensures.input_faults;
      input_read = read_all _ c.in-Ok.is c.read_words.ensures.only (rw c.in-Audit.is c.audit.ensures.read);
      output_faults = c.audit.ensures.output_faults;
      door_faults = shared-counts (counts-none other.2);
      fetch_faults = shared-counts (counts-none other.2);
    })

pub returns-in-Audit-clause-first_fault : goal.returns-in-Audit-clause-first_fault
returns-in-Audit-clause-first_fault g c = read_all _ c.in-Ok.is c.read_words.ensures.only
    (rw c.in-Audit.is (λ seen. rw c.with_status-in-Audit.ensures.status
    (c.audit.ensures.first_fault (seen.input tt))))

pub returns-in-Audit-clause-complete : goal.returns-in-Audit-clause-complete
returns-in-Audit-clause-complete g c = read_all _ c.in-Ok.is c.read_words.ensures.only
    (rw c.in-Audit.is (λ seen given due. record {
      ends = λ disk fetch input output.
          rw c.with_status-in-Audit.ensures.status (c.audit.ensures.complete (seen.input tt) given due input output);
    }))

pub returns-in-Audit-clause-unused : goal.returns-in-Audit-clause-unused
returns-in-Audit-clause-unused g c = unused-by Audit (read_as _ c.in-Ok.is c.in-Audit.is c.read_words.ensures.found)
    (λ _. refl) (λ _. refl) (λ unused. absurd (unused tt)) (λ _. refl) (λ _. refl)

pub returns-in-Audit-clause-bare : goal.returns-in-Audit-clause-bare
returns-in-Audit-clause-bare g c = bare-none c.with_status-in-Audit.ensures.alone

pub returns-in-Audit-clause-ends : goal.returns-in-Audit-clause-ends
returns-in-Audit-clause-ends g c = read_all _ c.in-Ok.is c.read_words.ensures.only
    (rw c.in-Audit.is (rw c.with_status-in-Audit.ensures.status c.audit.ensures.audits))

-- `drill`

pub returns-in-Drill-clause-statuses : goal.returns-in-Drill-clause-statuses
returns-in-Drill-clause-statuses g c = drill-status c.drill.result.status c.drill.ensures.statuses

pub returns-in-Drill-clause-words : goal.returns-in-Drill-clause-words
returns-in-Drill-clause-words g c = words-of (Drill c.in-Drill.seed c.in-Drill.count)
    (read_as _ c.in-Ok.is c.in-Drill.is c.read_words.ensures.found)
    (drill-other _ c.drill.ensures.statuses).0

pub returns-in-Drill-clause-answered : goal.returns-in-Drill-clause-answered
returns-in-Drill-clause-answered g c =
    read_all _ c.in-Ok.is c.read_words.ensures.only (rw c.in-Drill.is (λ seen answered.
    c.drill.ensures.answered answered
    (outside_of (g.C.Clock.coming c.args.clock.now) (g.I.Source.state c.args.input.now)
    (g.D.Disk.state c.args.disk.now) (g.F.Fetch.state c.args.fetch.now))))

pub returns-in-Drill-clause-faults : goal.returns-in-Drill-clause-faults
returns-in-Drill-clause-faults g c =
    let other = drill-other _ c.drill.ensures.statuses in
    faults-none other.1 other.2 other.3 c.drill.ensures.output_faults

pub returns-in-Drill-clause-complete : goal.returns-in-Drill-clause-complete
returns-in-Drill-clause-complete g c =
    read_all _ c.in-Ok.is c.read_words.ensures.only (rw c.in-Drill.is (λ seen given due. record {
      ends = λ disk fetch input output.
          subst (λ (a : Answer). (c.drill.result.status ≡ code_of a.status) ⊎ (c.drill.result.status ≡ 5))
          (sym due) (c.drill.ensures.complete output);
    }))

pub returns-in-Drill-clause-unused : goal.returns-in-Drill-clause-unused
returns-in-Drill-clause-unused g c = unused-all refl refl refl refl refl

pub returns-in-Drill-clause-bare : goal.returns-in-Drill-clause-bare
returns-in-Drill-clause-bare g c = record {
  no_lines = λ _. c.drill.ensures.lines;
  no_life = λ others. absurd (others _ _ (read_as _ c.in-Ok.is c.in-Drill.is c.read_words.ensures.found));
}

pub returns-in-Drill-clause-ends : goal.returns-in-Drill-clause-ends
returns-in-Drill-clause-ends g c =
    read_all _ c.in-Ok.is c.read_words.ensures.only (rw c.in-Drill.is c.drill.ensures.drills)

-- `foreign`

pub foreign-requires : goal.foreign-requires
foreign-requires g c = rw c.slice-in-Foreign.ensures
    (start-of (read_as _ c.in-Ok.is c.in-Foreign.is c.read_words.ensures.found))

pub returns-in-Foreign-clause-statuses : goal.returns-in-Foreign-clause-statuses
returns-in-Foreign-clause-statuses g c = rw c.with_status-in-Foreign.ensures.status
    (foreign-status _ c.foreign.ensures.statuses)

pub returns-in-Foreign-clause-words : goal.returns-in-Foreign-clause-words
returns-in-Foreign-clause-words g c = words-of (Foreign c.in-Foreign.from)
    (read_as _ c.in-Ok.is c.in-Foreign.is c.read_words.ensures.found)
    (rw c.with_status-in-Foreign.ensures.status (foreign-other _ c.foreign.ensures.statuses).0)

pub returns-in-Foreign-clause-answered : goal.returns-in-Foreign-clause-answered
returns-in-Foreign-clause-answered g c = read_all _ c.in-Ok.is c.read_words.ensures.only
    (rw c.in-Foreign.is (λ seen. rw c.with_status-in-Foreign.ensures.status
    (λ answered. rw c.slice-in-Foreign.ensures at (c.foreign.ensures.answered (seen.fetch tt) answered))))

pub returns-in-Foreign-clause-alone : goal.returns-in-Foreign-clause-alone
returns-in-Foreign-clause-alone g c = λ sink once. rw c.with_status-in-Foreign.ensures.status
    (c.foreign.ensures.alone sink)

pub returns-in-Foreign-clause-faults : goal.returns-in-Foreign-clause-faults
returns-in-Foreign-clause-faults g c =
    let other = foreign-other _ c.foreign.ensures.statuses in
    let of_words = read_as _ c.in-Ok.is c.in-Foreign.is c.read_words.ensures.found in
    rw c.with_status-in-Foreign.ensures.status (record {
      disk_faults = counts-none other.1;
      input_faults = counts-none other.2;
      input_read = λ command of_words. omega arith;
      output_faults = c.foreign.ensures.output_faults;
      door_faults = shared-other (λ others. others (Foreign c.in-Foreign.from) of_words tt);
      fetch_faults = shared-counts c.foreign.ensures.fetch_faults;
    })

pub returns-in-Foreign-clause-complete : goal.returns-in-Foreign-clause-complete
returns-in-Foreign-clause-complete g c = read_all _ c.in-Ok.is c.read_words.ensures.only
    (rw c.in-Foreign.is (λ seen given due. record {
      ends = λ disk fetch input output.
          rw c.with_status-in-Foreign.ensures.status
          (c.foreign.ensures.complete (seen.fetch tt) given (rw c.slice-in-Foreign.ensures due) fetch output);
    }))

pub returns-in-Foreign-clause-ends : goal.returns-in-Foreign-clause-ends
returns-in-Foreign-clause-ends g c = read_all _ c.in-Ok.is c.read_words.ensures.only
    (rw c.in-Foreign.is (rw c.with_status-in-Foreign.ensures.status (λ seen.
    rw c.slice-in-Foreign.ensures at (c.foreign.ensures.walks seen))))

pub returns-in-Foreign-clause-unused : goal.returns-in-Foreign-clause-unused
returns-in-Foreign-clause-unused g c =
    unused-by (Foreign c.in-Foreign.from) (read_as _ c.in-Ok.is c.in-Foreign.is c.read_words.ensures.found)
    (λ _. refl) (λ _. refl) (λ _. refl) (λ _. refl) (λ unused. absurd (unused tt))

pub returns-in-Foreign-clause-bare : goal.returns-in-Foreign-clause-bare
returns-in-Foreign-clause-bare g c = bare-none c.with_status-in-Foreign.ensures.alone

-- `discover`

pub discover-requires : goal.discover-requires
discover-requires g c = rw c.slice-in-Discover.ensures
    (url-of (read_as _ c.in-Ok.is c.in-Discover.is c.read_words.ensures.found))

pub returns-in-Discover-clause-statuses : goal.returns-in-Discover-clause-statuses
returns-in-Discover-clause-statuses g c = rw c.with_status-in-Discover.ensures.status
    (discover-status _ c.discover.ensures.statuses)

pub returns-in-Discover-clause-words : goal.returns-in-Discover-clause-words
returns-in-Discover-clause-words g c = words-of (Discover c.in-Discover.address)
    (read_as _ c.in-Ok.is c.in-Discover.is c.read_words.ensures.found)
    (rw c.with_status-in-Discover.ensures.status (discover-other _ c.discover.ensures.statuses).0)

pub returns-in-Discover-clause-answered : goal.returns-in-Discover-clause-answered
returns-in-Discover-clause-answered g c = read_all _ c.in-Ok.is c.read_words.ensures.only
    (rw c.in-Discover.is (λ seen. rw c.with_status-in-Discover.ensures.status
    (λ answered. rw c.slice-in-Discover.ensures at (c.discover.ensures.answered (seen.fetch tt) answered))))

pub returns-in-Discover-clause-alone : goal.returns-in-Discover-clause-alone
returns-in-Discover-clause-alone g c = λ sink once. rw c.with_status-in-Discover.ensures.status
    (c.discover.ensures.alone sink)

pub returns-in-Discover-clause-faults : goal.returns-in-Discover-clause-faults
returns-in-Discover-clause-faults g c =
    let other = discover-other _ c.discover.ensures.statuses in
    let of_words = read_as _ c.in-Ok.is c.in-Discover.is c.read_words.ensures.found in
    rw c.with_status-in-Discover.ensures.status (record {
      disk_faults = counts-none other.1;
      input_faults = counts-none other.2;
      input_read = λ command of_words. omega arith;
      output_faults = c.discover.ensures.output_faults;
      door_faults = shared-other (λ others. others (Discover c.in-Discover.address) of_words tt);
      fetch_faults = shared-counts c.discover.ensures.fetch_faults;
    })

pub returns-in-Discover-clause-complete : goal.returns-in-Discover-clause-complete
returns-in-Discover-clause-complete g c = read_all _ c.in-Ok.is c.read_words.ensures.only
    (rw c.in-Discover.is (λ seen given due. record {
      ends = λ disk fetch input output.
          rw c.with_status-in-Discover.ensures.status
          (c.discover.ensures.complete (seen.fetch tt) given (rw c.slice-in-Discover.ensures due) fetch output);
    }))

pub returns-in-Discover-clause-ends : goal.returns-in-Discover-clause-ends
returns-in-Discover-clause-ends g c = read_all _ c.in-Ok.is c.read_words.ensures.only
    (rw c.in-Discover.is (rw c.with_status-in-Discover.ensures.status (λ seen.
    rw c.slice-in-Discover.ensures at (c.discover.ensures.asks seen))))

pub returns-in-Discover-clause-unused : goal.returns-in-Discover-clause-unused
returns-in-Discover-clause-unused g c =
    unused-by (Discover c.in-Discover.address) (read_as _ c.in-Ok.is c.in-Discover.is c.read_words.ensures.found)
    (λ _. refl) (λ _. refl) (λ _. refl) (λ _. refl) (λ unused. absurd (unused tt))

pub returns-in-Discover-clause-bare : goal.returns-in-Discover-clause-bare
returns-in-Discover-clause-bare g c = bare-none c.with_status-in-Discover.ensures.alone

-- the other commands: the answer was printed

pub returns-in-Ok-write_all-clause-words : goal.returns-in-Ok-write_all-clause-words
returns-in-Ok-write_all-clause-words g c =
    let is : c.with_status-in-Ok-write_all.result.status ≡ 0 = c.with_status-in-Ok-write_all.ensures.status in
    words-of c.in-Ok.command (read_words-of _ c.in-Ok.is c.read_words.ensures.found)
    (λ e. omega (arith, e, is))

pub returns-in-Ok-write_all-clause-answered : goal.returns-in-Ok-write_all-clause-answered
returns-in-Ok-write_all-clause-answered g c = read_all _ c.in-Ok.is c.read_words.ensures.only
    (λ seen answered. rw c.with_status-in-Ok-write_all.ensures.status
    (ends-done c.in-Ok.command _ _ _ _ c.in-Ok-answer.text.items
    (c.in-Ok-answer.ensures.answer (g.F.Fetch.state c.args.fetch.now) (seen-unfetched c.in-Ok.command _ _ _ _ seen))
    (λ sink. rw (← c.as_slice.ensures.value) (prints-from c.write_all-in-Ok-answer.result _ _ _
    (c.write_all-in-Ok-answer.ensures.prefix sink)
    (on_ok_weaker c.write_all-in-Ok-answer.result (λ whole. whole sink) c.write_all-in-Ok-answer.ensures.whole)
    c.write_all-in-Ok-answer.ensures.counts))
    (λ sink. rw (← c.as_slice.ensures.value) (c.in-Ok-write_all.ensures.whole sink))))

pub returns-in-Ok-write_all-clause-faults : goal.returns-in-Ok-write_all-clause-faults
returns-in-Ok-write_all-clause-faults g c =
    let is : c.with_status-in-Ok-write_all.result.status ≡ 0 = c.with_status-in-Ok-write_all.ensures.status in
    record {
      disk_faults = counts-of_ok (λ e. omega (arith, e, is)) c.in-Ok-answer.ensures.disk_faults;
      input_faults = counts-of_ok (λ e. omega (arith, e, is)) c.in-Ok-answer.ensures.input_faults;
      input_read = read_all _ c.in-Ok.is c.read_words.ensures.only c.answer.ensures.read;
      output_faults = record {
        later = c.in-Ok-write_all.ensures.counts.later;
        failed = λ e. absurd (omega (arith, e, is));
        whole = λ _. c.in-Ok-write_all.ensures.counts.worked;
      };
      door_faults = shared-counts (counts-none (λ e. omega (arith, e, is)));
      fetch_faults = shared-counts (counts-none (λ e. omega (arith, e, is)));
    }

pub returns-in-Ok-write_all-clause-complete : goal.returns-in-Ok-write_all-clause-complete
returns-in-Ok-write_all-clause-complete g c = read_all _ c.in-Ok.is c.read_words.ensures.only
    (λ seen given due. record {
      ends = λ disk fetch input output.
          let answered = c.in-Ok-answer.ensures.answer (g.F.Fetch.state c.args.fetch.now)
          (seen-unfetched c.in-Ok.command _ _ _ _ seen) in
          inl (c.with_status-in-Ok-write_all.ensures.status
          ∙ ap (λ (a : Answer). code_of a.status) (sym (answered.due given due)));
    })

pub returns-in-Ok-write_all-clause-safe : goal.returns-in-Ok-write_all-clause-safe
returns-in-Ok-write_all-clause-safe g c = λ others.
    c.answer.ensures.safe (others c.in-Ok.command
    (read_words-of _ c.in-Ok.is c.read_words.ensures.found))

pub returns-in-Ok-write_all-clause-unused : goal.returns-in-Ok-write_all-clause-unused
returns-in-Ok-write_all-clause-unused g c =
    unused-by c.in-Ok.command (read_words-of _ c.in-Ok.is c.read_words.ensures.found)
    c.answer.ensures.no_disk c.answer.ensures.no_clock c.answer.ensures.no_input (λ _. refl) (λ _. refl)

pub returns-in-Ok-write_all-clause-bare : goal.returns-in-Ok-write_all-clause-bare
returns-in-Ok-write_all-clause-bare g c = bare-none c.with_status-in-Ok-write_all.ensures.alone

pub returns-in-Ok-write_all-clause-ends : goal.returns-in-Ok-write_all-clause-ends
returns-in-Ok-write_all-clause-ends g c = read_all _ c.in-Ok.is c.read_words.ensures.only
    (text-ends _ c.in-Ok.command c.answer.ensures.kind.0 c.answer.ensures.kind.1
    (λ name window capacity is observable.
    makes-weaker _ _ name window capacity _ _ _ _ (λ _. refl)
    (c.in-Ok-answer.ensures.made name window capacity is observable))
    (λ is observable. let applied = c.in-Ok-answer.ensures.applied is observable in
    record {
      safe = applies-weaker _ _ _ _ _ _ _ _ _ _ _ _ (λ e. cc)
          (λ e. absurd (omega (arith, e, c.with_status-in-Ok-write_all.ensures.status)))
          (λ e. absurd (omega (arith, e, c.with_status-in-Ok-write_all.ensures.status))) (λ e. tt) applied.safe;
      opens = λ clock source answered. applied.opens clock source tt;
    })
    c.answer.ensures.scrubbed
    (λ is observable. repair-weaker (λ _. refl)
    (λ e. absurd (omega (arith, e, c.with_status-in-Ok-write_all.ensures.status)))
    (λ e. absurd (omega (arith, e, c.with_status-in-Ok-write_all.ensures.status)))
    (c.in-Ok-answer.ensures.repaired is observable)))

-- the output failed

pub returns-in-Ok-answer-clause-words : goal.returns-in-Ok-answer-clause-words
returns-in-Ok-answer-clause-words g c =
    let is : c.with_status-in-Err-write_all.result.status ≡ 8 = c.with_status-in-Err-write_all.ensures.status in
    words-of c.in-Ok.command (read_words-of _ c.in-Ok.is c.read_words.ensures.found)
    (λ e. omega (arith, e, is))

pub returns-in-Ok-answer-clause-answered : goal.returns-in-Ok-answer-clause-answered
returns-in-Ok-answer-clause-answered g c = read_all _ c.in-Ok.is c.read_words.ensures.only
    (λ seen answered. rw c.with_status-in-Err-write_all.ensures.status
    (ends-unsent c.in-Ok.command _ _ _ _ c.in-Ok-answer.text.items
    (c.in-Ok-answer.ensures.answer (g.F.Fetch.state c.args.fetch.now) (seen-unfetched c.in-Ok.command _ _ _ _ seen))
    (λ sink. rw (← c.as_slice.ensures.value) (prints-from c.write_all-in-Ok-answer.result _ _ _
    (c.write_all-in-Ok-answer.ensures.prefix sink)
    (on_ok_weaker c.write_all-in-Ok-answer.result (λ whole. whole sink) c.write_all-in-Ok-answer.ensures.whole)
    c.write_all-in-Ok-answer.ensures.counts))))

pub returns-in-Ok-answer-clause-faults : goal.returns-in-Ok-answer-clause-faults
returns-in-Ok-answer-clause-faults g c =
    let is : c.with_status-in-Err-write_all.result.status ≡ 8 = c.with_status-in-Err-write_all.ensures.status in
    record {
      disk_faults = counts-of_ok (λ e. omega (arith, e, is)) c.in-Ok-answer.ensures.disk_faults;
      input_faults = counts-of_ok (λ e. omega (arith, e, is)) c.in-Ok-answer.ensures.input_faults;
      input_read = read_all _ c.in-Ok.is c.read_words.ensures.only c.answer.ensures.read;
      output_faults = record {
        later = c.in-Err-write_all.ensures.counts.later;
        failed = λ _. c.in-Err-write_all.ensures.counts.failed;
        whole = λ done. absurd (done-sent _ done is);
      };
      door_faults = shared-counts (counts-none (λ e. omega (arith, e, is)));
      fetch_faults = shared-counts (counts-none (λ e. omega (arith, e, is)));
    }

pub returns-in-Ok-answer-clause-safe : goal.returns-in-Ok-answer-clause-safe
returns-in-Ok-answer-clause-safe g c = λ others.
    c.answer.ensures.safe (others c.in-Ok.command
    (read_words-of _ c.in-Ok.is c.read_words.ensures.found))

pub returns-in-Ok-answer-clause-unused : goal.returns-in-Ok-answer-clause-unused
returns-in-Ok-answer-clause-unused g c =
    unused-by c.in-Ok.command (read_words-of _ c.in-Ok.is c.read_words.ensures.found)
    c.answer.ensures.no_disk c.answer.ensures.no_clock c.answer.ensures.no_input (λ _. refl) (λ _. refl)

pub returns-in-Ok-answer-clause-bare : goal.returns-in-Ok-answer-clause-bare
returns-in-Ok-answer-clause-bare g c = bare-none c.with_status-in-Err-write_all.ensures.alone

pub returns-in-Ok-answer-clause-ends : goal.returns-in-Ok-answer-clause-ends
returns-in-Ok-answer-clause-ends g c = read_all _ c.in-Ok.is c.read_words.ensures.only
    (text-ends _ c.in-Ok.command c.answer.ensures.kind.0 c.answer.ensures.kind.1
    (λ name window capacity is observable.
    makes-weaker _ _ name window capacity _ _ _ _ (λ _. refl)
    (c.in-Ok-answer.ensures.made name window capacity is observable))
    (λ is observable. let applied = c.in-Ok-answer.ensures.applied is observable in
    record {
      safe = applies-weaker _ _ _ _ _ _ _ _ _ _ _ _ (λ e. cc)
          (λ e. absurd (omega (arith, e, c.with_status-in-Err-write_all.ensures.status)))
          (λ e. absurd (omega (arith, e, c.with_status-in-Err-write_all.ensures.status))) (λ e. tt) applied.safe;
      opens = λ clock source answered. applied.opens clock source tt;
    })
    c.answer.ensures.scrubbed
    (λ is observable. repair-weaker (λ _. refl)
    (λ e. absurd (omega (arith, e, c.with_status-in-Err-write_all.ensures.status)))
    (λ e. absurd (omega (arith, e, c.with_status-in-Err-write_all.ensures.status)))
    (c.in-Ok-answer.ensures.repaired is observable)))

-- the command has a fault

pub returns-clause-words : goal.returns-clause-words
returns-clause-words g c =
    words-of c.in-Ok.command (read_words-of _ c.in-Ok.is c.read_words.ensures.found)
    (λ e. no_usage c.in-Err.fault (sym (c.with_status-in-Err.ensures.status ∙ ap code_of
    c.print_fault-in-Err.ensures.status) ∙ e))

pub returns-clause-answered : goal.returns-clause-answered
returns-clause-answered g c = read_all _ c.in-Ok.is c.read_words.ensures.only
    (λ seen answered. ends-refused c.in-Ok.command _ _ _ _ c.in-Err.fault _
    (c.with_status-in-Err.ensures.status ∙ ap code_of c.print_fault-in-Err.ensures.status)
    (c.in-Err.ensures.refused (g.F.Fetch.state c.args.fetch.now)
    (answered-refusal c.in-Err.fault (rw (c.with_status-in-Err.ensures.status ∙ ap code_of
    c.print_fault-in-Err.ensures.status) at answered))
    (seen-unfetched c.in-Ok.command _ _ _ _ seen))
    c.print_fault-in-Err.ensures.prints)

pub returns-clause-alone : goal.returns-clause-alone
returns-clause-alone g c = λ sink others alone.
    rw (c.with_status-in-Err.ensures.status ∙ ap code_of c.print_fault-in-Err.ensures.status)
    (rw (alone-fault c.in-Err.fault (rw (c.with_status-in-Err.ensures.status ∙ ap code_of
    c.print_fault-in-Err.ensures.status) at alone))
    (c.print_fault-in-Err.ensures.prints sink))

pub returns-clause-faults : goal.returns-clause-faults
returns-clause-faults g c =
    let is = c.with_status-in-Err.ensures.status ∙ ap code_of c.print_fault-in-Err.ensures.status in
    record {
      disk_faults = disk-of_fault c.in-Err.fault is c.in-Err.ensures.disk_faults;
      input_faults = input-of_fault c.in-Err.fault is c.in-Err.ensures.input_faults;
      input_read = read_all _ c.in-Ok.is c.read_words.ensures.only c.answer.ensures.read;
      output_faults = output-of_fault c.in-Err.fault is c.print_fault-in-Err.ensures.faults;
      door_faults = shared-counts (counts-none (λ e. no_door c.in-Err.fault (sym is ∙ e)));
      fetch_faults = shared-counts (counts-none (λ e. no_door c.in-Err.fault (sym is ∙ e)));
    }

pub returns-clause-first_fault : goal.returns-clause-first_fault
returns-clause-first_fault g c = read_all _ c.in-Ok.is c.read_words.ensures.only
    (λ seen e.
    let is = c.with_status-in-Err.ensures.status ∙ ap code_of c.print_fault-in-Err.ensures.status in
    let same : c.in-Err.fault ≡ Input = input_end c.in-Err.fault (sym is ∙ e) in
    c.answer.ensures.unrefused (c.in-Err.is ∙ ap Err same) (seen-unfetched c.in-Ok.command _ _ _ _ seen))

pub returns-clause-complete : goal.returns-clause-complete
returns-clause-complete g c = read_all _ c.in-Ok.is c.read_words.ensures.only
    (λ seen given due. record {
      ends = λ disk fetch input output.
          let fault = c.in-Err.fault in
          subst (λ (n : ℕ). (n ≡ code_of given.status) ⊎ (n ≡ 5))
          (sym (c.with_status-in-Err.ensures.status ∙ ap code_of c.print_fault-in-Err.ensures.status))
          (fault-complete (Other fault) given
          (λ refusal. sym ((c.in-Err.ensures.refused (g.F.Fetch.state c.args.fetch.now) refusal
          (seen-unfetched c.in-Ok.command _ _ _ _ seen)).due given due))
          (λ e. let same : fault ≡ Disk = cc in disk
          (c.answer.ensures.disk_faults.failed (c.in-Err.is ∙ ap Err same)))
          (λ e. let same : fault ≡ Input = cc in input
          (c.answer.ensures.input_faults.failed (c.in-Err.is ∙ ap Err same)))
          (λ e. cc));
    })

pub returns-clause-safe : goal.returns-clause-safe
returns-clause-safe g c = λ others.
    c.answer.ensures.safe (others c.in-Ok.command
    (read_words-of _ c.in-Ok.is c.read_words.ensures.found))

pub returns-clause-unused : goal.returns-clause-unused
returns-clause-unused g c =
    unused-by c.in-Ok.command (read_words-of _ c.in-Ok.is c.read_words.ensures.found)
    c.answer.ensures.no_disk c.answer.ensures.no_clock c.answer.ensures.no_input (λ _. refl) (λ _. refl)

pub returns-clause-bare : goal.returns-clause-bare
returns-clause-bare g c = bare-none c.with_status-in-Err.ensures.alone

pub returns-clause-ends : goal.returns-clause-ends
returns-clause-ends g c = read_all _ c.in-Ok.is c.read_words.ensures.only
    (text-ends _ c.in-Ok.command c.answer.ensures.kind.0 c.answer.ensures.kind.1
    (λ name window capacity same observable.
    makes-weaker _ _ name window capacity _ _ _ _
    (λ done. absurd (⊎_elim (λ e. no_end c.in-Err.fault
    (sym (c.with_status-in-Err.ensures.status ∙ ap code_of c.print_fault-in-Err.ensures.status) ∙ e))
    (λ e. no_output c.in-Err.fault (sym (c.with_status-in-Err.ensures.status ∙ ap code_of
    c.print_fault-in-Err.ensures.status) ∙ e)) done))
    (c.in-Err.ensures.made name window capacity same observable))
    (λ same observable.
    let is = c.with_status-in-Err.ensures.status ∙ ap code_of c.print_fault-in-Err.ensures.status in
    let applied = c.in-Err.ensures.applied same observable in
    record {
      safe = applies-weaker _ _ _ _ _ _ _ _ _ _ _ _ (λ e. let failed : c.in-Err.fault ≡ Disk = cc in
          is ∙ ap (λ fault. code_of (fault_answer fault).status) failed)
          (λ e. let failed : c.in-Err.fault ≡ Disk = disk_end c.in-Err.fault (sym is ∙ e) in ap Err failed)
          (λ e. let failed : c.in-Err.fault ≡ Input = input_end c.in-Err.fault (sym is ∙ e) in ap Err failed)
          (λ ends. loaded_fault c.in-Err.fault (subst IsStatusAfterLoad is ends)) applied.safe;
      opens = λ clock source answered.
          applied.opens clock source (answered-refusal c.in-Err.fault (subst IsAnswered is answered));
    })
    c.answer.ensures.scrubbed
    (λ same observable.
    let is = c.with_status-in-Err.ensures.status ∙ ap code_of c.print_fault-in-Err.ensures.status in
    repair-weaker (⊎_elim (λ e. absurd (no_end c.in-Err.fault (sym is ∙ e)))
    (λ e. absurd (no_output c.in-Err.fault (sym is ∙ e))))
    (ends-full {fault = c.in-Err.fault} refl is) (ends-bad {fault = c.in-Err.fault} refl is)
    (c.in-Err.ensures.repaired same observable)))
