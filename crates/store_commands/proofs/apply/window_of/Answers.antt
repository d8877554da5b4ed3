use Rattle.std.proofs.Common.{◌≡◌, ℕ, ◌+◌, ◌++◌, List, ◌∷◌, [], length, Some, Ok, Err, refl, ap, ◌∙◌, arith}
use Rattle.std.proofs.Common.{add-zero, zero-add, length-append, sym}
use Rattle.std.proofs.lemmas.Bool.{false≢true}
use Rattle.std.proofs.lemmas.Result.{err_from_is_err_and}
use Rattle.command_ends.specs.declared.fault.Fault.{Fault}
use Rattle.command_ends.specs.declared.fault.Fault.TheVariants.{Input}
use Rattle.member_rules.specs.declared.operation.Op.{Op}
use Rattle.member_rules.specs.Head.{HeadValue}
use Rattle.member_rules.specs.Table.{IsTableOf}
use Rattle.store_commands.specs.Applied.{Applied, applied}
use Rattle.store_commands.specs.Apply.{history_step, lines_fault}
use Rattle.store_commands.proofs.FaultLemmas.{refusal-of_lines, input-of_lines}
use Rattle.archive_sealer.proofs.FeedLemmas.{of_feed-room, of_feed-same}
use Rattle.store_commands.proofs.HistoryLemmas.{IsTableOf-with_room, history-with_room, lawful-none}
use Rattle.store_commands.proofs.ProgressLemmas.{Progress-start, Progress-end, Progress-step, Progress-refused}
use Rattle.store_commands.proofs.ProgressLemmas.{Progress-long, Progress-amid}
use Rattle.store_commands.proofs.ReadLemmas.{read-ends, read-next, read-start, read-within}
use Rattle.store_commands.proofs.StepLemmas.{history_step-is, history_step-prefix}
use Rattle.store_commands.proofs.apply.window_of.Goals as goal

pub returns-in_err-next-clause-refused : goal.returns-in_err-next-clause-refused
returns-in_err-next-clause-refused g c =
    let p = err_from_is_err_and c.from_residual-in_err-next.result c.from_residual-in_err-next.ensures.1 in
    let moments = g.C.Clock.coming c.args.clock.now in
    let start = g.I.Source.state c.args.input.now in
    rw (p.1, p.2) (λ refusal source clock.
    refusal-of_lines
    (λ (fault : Fault). (applied (history_step c.args.head.now moments) [] start.left).fault ≡ Some fault)
    c.in_err-next.field-0.0
    (λ e. ap (λ (a : Applied (List Op)). a.fault)
    (Progress-long (history_step c.args.head.now moments) [] start.left c.loop-window.lines
    (g.I.Source.state c.loop-window.input) (length c.loop-window.window.history) c.loop-window.window.history
    (c.loop-window.invariant.progress source clock) (c.in_err-next.ensures.too_long (ap Err e) source)))
    refusal)

pub returns-in_err-next-clause-unrefused : goal.returns-in_err-next-clause-unrefused
returns-in_err-next-clause-unrefused g c =
    let p = err_from_is_err_and c.from_residual-in_err-next.result c.from_residual-in_err-next.ensures.1 in
    rw (p.1, p.2) (λ e source clock.
    let same : lines_fault c.in_err-next.field-0.0 ≡ Input = cc in
    Progress-amid (history_step c.args.head.now (g.C.Clock.coming c.args.clock.now)) []
    (g.I.Source.state c.args.input.now) c.loop-window.lines (g.I.Source.state c.loop-window.input)
    (g.I.Source.state c.next.new.input) (length c.loop-window.window.history) c.loop-window.window.history
    (c.loop-window.invariant.progress source clock)
    (c.in_err-next.ensures.amid (ap Err (input-of_lines c.in_err-next.field-0.0 same)) source))

pub returns-in_err-operation-clause-refused : goal.returns-in_err-operation-clause-refused
returns-in_err-operation-clause-refused g c =
    let p = err_from_is_err_and c.from_residual-in_err-operation.result c.from_residual-in_err-operation.ensures.1 in
    let moments = g.C.Clock.coming c.args.clock.now in
    let history = c.loop-window.window.history in
    let same : c.prepare-in-loop-window.new.self.history ≡ history =
    history-with_room c.loop-window.window c.prepare-in-loop-window.new.self c.in_ok-prepare-2.ensures.same in
    let held = c.loop-window.invariant in
    let table : IsTableOf c.prepare.new.self c.args.head.now.created history =
    rw c.in_ok-prepare.ensures.same
    (IsTableOf-with_room c.loop-window.members c.prepare.new.self.spare c.args.head.now.created history held.table) in
    rw (p.1, p.2) (λ refusal source clock.
    ap (λ (a : Applied (List Op)). a.fault)
    (Progress-refused (history_step c.args.head.now moments) (history_step-prefix c.args.head.now moments) []
    (g.I.Source.state c.args.input.now).left c.loop-window.lines
    (g.I.Source.state c.loop-window.input) c.next.new.self
    (g.I.Source.state c.next.new.input) (length history) history c.in_err-operation.field-0.0
    (held.progress source clock)
    (c.in_ok-next.ensures.found (ap Ok c.if-branch.true) source)
    (history_step-is c.args.head.now moments history (length history) c.next.new.self.line _ _ _
    (Err c.in_err-operation.field-0.0) c.line.ensures (ap (λ (n : ℕ). n + 1) (c.operations.ensures ∙ ap length same))
    (held.moments clock 0 ∙ ap moments (zero-add (length history)))
    (c.in_err-operation.ensures.refused refusal clock history table))))

pub commit-requires-clause-follows : goal.commit-requires-clause-follows
commit-requires-clause-follows g c =
    let head = c.args.head.now in
    let history = c.loop-window.window.history in
    let same : c.prepare-in-loop-window.new.self.history ≡ history =
    history-with_room c.loop-window.window c.prepare-in-loop-window.new.self c.in_ok-prepare-2.ensures.same in
    let held = c.loop-window.invariant in
    let table : IsTableOf c.prepare.new.self head.created history =
    rw c.in_ok-prepare.ensures.same
    (IsTableOf-with_room c.loop-window.members c.prepare.new.self.spare head.created history held.table) in
    record {
      created = head.created;
      history = history;
      table_of = table;
      follows = c.in_ok-operation.ensures.follows history table;
    }

pub loop-window-init : goal.loop-window-init
loop-window-init g c =
    let head = c.args.head.now in
    let moments = g.C.Clock.coming c.args.clock.now in
    let start = g.I.Source.state c.args.input.now in
    let table : IsTableOf c.new-members.result head.created [] = rw (← c.head.view_is) c.new-members.ensures.table in
    record {
      progress = λ source clock. rw c.in_ok-window.ensures.empty
          (Progress-start (history_step head moments) [] start.left c.in_ok-lines.lines start
          c.in_ok-lines.ensures.0 c.in_ok-lines.ensures.1 refl);
      moments = λ clock k. rw c.in_ok-window.ensures.empty (ap moments (sym (add-zero k)));
      knows = λ source ended. absurd (false≢true (rw c.in_ok-lines.ensures.2 at ended));
      table = rw c.in_ok-window.ensures.empty table;
      lawful = rw c.in_ok-window.ensures.empty (lawful-none head table.following);
      feed = record {
        first = sym (c.in_ok-window.ensures.first ∙ ap (λ (h : HeadValue). h.window) c.head.view_is);
        title = sym (c.in_ok-window.ensures.title ∙ c.in_ok-title.ensures.same
            ∙ ap (λ (h : HeadValue). h.name.title) c.head.view_is);
      };
      few = omega (
        arith,
        ap length c.in_ok-lines.ensures.0,
        c.in_ok-lines.ensures.1,
        ap length c.in_ok-window.ensures.empty,
      );
      faults = refl;
      read = read-start c.in_ok-lines.lines (g.I.Source.state c.args.input.now).bytes_read c.in_ok-lines.ensures.1;
    }

pub loop-window-preserved : goal.loop-window-preserved
loop-window-preserved g c =
    let head = c.args.head.now in
    let moments = g.C.Clock.coming c.args.clock.now in
    let whole = (g.I.Source.state c.args.input.now).left in
    let input = g.I.Source.state c.loop-window.input in
    let rest = g.I.Source.state c.next.new.input in
    let history = c.loop-window.window.history in
    let same : c.prepare-in-loop-window.new.self.history ≡ history =
    history-with_room c.loop-window.window c.prepare-in-loop-window.new.self c.in_ok-prepare-2.ensures.same in
    let operation = c.in_ok-operation.operation in
    let held = c.loop-window.invariant in
    let pushed = c.commit-in-loop-window.ensures.history ∙ ap (λ (h : List Op). h ++ operation ∷ []) same in
    let table : IsTableOf c.prepare.new.self head.created history =
    rw c.in_ok-prepare.ensures.same
    (IsTableOf-with_room c.loop-window.members c.prepare.new.self.spare head.created history held.table) in
    record {
      progress = λ source clock. rw (pushed, length-append history (operation ∷ []))
          (Progress-step (history_step head moments) (history_step-prefix head moments) [] whole
          c.loop-window.lines input c.next.new.self rest (length history) history (history ++ operation ∷ [])
          (held.progress source clock)
          (c.in_ok-next.ensures.found (ap Ok c.if-branch.true) source)
          (history_step-is head moments history (length history) c.next.new.self.line _ _ _ (Ok operation)
          c.line.ensures (ap (λ (n : ℕ). n + 1) (c.operations.ensures ∙ ap length same))
          (held.moments clock 0 ∙ ap moments (zero-add (length history)))
          (c.in_ok-operation.ensures.operation clock history table)));
      moments = λ clock k.
          let later : k + 1 + length history ≡ k + length c.commit-in-loop-window.new.self.history =
          omega (arith, ap length pushed, length-append history (operation ∷ [])) in
          c.in_ok-operation.ensures.moment clock k ∙ held.moments clock (k + 1) ∙ ap moments later;
      knows = c.in_ok-next.ensures.knows;
      table = rw pushed (c.commit.ensures.table head.created history table);
      lawful = rw pushed (c.in_ok-operation.ensures.lawful history table held.lawful);
      feed = of_feed-same head c.prepare-in-loop-window.new.self c.commit-in-loop-window.new.self
          c.commit-in-loop-window.ensures.first c.commit-in-loop-window.ensures.title
          (of_feed-room head c.loop-window.window c.prepare-in-loop-window.new.self c.in_ok-prepare-2.ensures.same
          held.feed);
      few = omega (
        arith,
        held.few,
        ap length pushed,
        length-append history (operation ∷ []),
        c.in_ok-next.ensures.progress (ap Ok c.if-branch.true),
      );
      faults = c.in_ok-next.ensures.input_faults.unfailed (λ e. cc) ∙ held.faults;
      read = read-next c.loop-window.lines (g.I.Source.state c.args.input.now).bytes_read input.bytes_read held.read
          c.next.new.self rest.bytes_read c.in_ok-next.ensures.read;
    }

pub returns-clause-history : goal.returns-clause-history
returns-clause-history g c = λ source clock.
    Progress-end (history_step c.args.head.now (g.C.Clock.coming c.args.clock.now)) []
    (g.I.Source.state c.args.input.now).left c.loop-window.lines
    (g.I.Source.state c.loop-window.input) (length c.loop-window.window.history) c.loop-window.window.history
    (c.loop-window.invariant.progress source clock) (c.in_ok-next.ensures.none (ap Ok c.if-branch.false) source)

pub returns-in_err-next-clause-read : goal.returns-in_err-next-clause-read
returns-in_err-next-clause-read g c =
    let first = (g.I.Source.state c.args.input.now).bytes_read in
    let now = (g.I.Source.state c.loop-window.input).bytes_read in
    let rest = (g.I.Source.state c.next.new.input).bytes_read in
    read-ends c.loop-window.lines first now c.loop-window.invariant.read c.next.new.self rest c.next.result
    c.next.ensures.read

pub returns-in_err-prepare-clause-read : goal.returns-in_err-prepare-clause-read
returns-in_err-prepare-clause-read g c =
    let first = (g.I.Source.state c.args.input.now).bytes_read in
    let now = (g.I.Source.state c.loop-window.input).bytes_read in
    let rest = (g.I.Source.state c.next.new.input).bytes_read in
    read-within c.next.new.self first rest
    (read-next c.loop-window.lines first now c.loop-window.invariant.read c.next.new.self rest
    c.in_ok-next.ensures.read)

pub returns-in_err-prepare-2-clause-read : goal.returns-in_err-prepare-2-clause-read
returns-in_err-prepare-2-clause-read g c =
    let first = (g.I.Source.state c.args.input.now).bytes_read in
    let now = (g.I.Source.state c.loop-window.input).bytes_read in
    let rest = (g.I.Source.state c.next.new.input).bytes_read in
    read-within c.next.new.self first rest
    (read-next c.loop-window.lines first now c.loop-window.invariant.read c.next.new.self rest
    c.in_ok-next.ensures.read)

pub returns-in_err-operation-clause-read : goal.returns-in_err-operation-clause-read
returns-in_err-operation-clause-read g c =
    let first = (g.I.Source.state c.args.input.now).bytes_read in
    let now = (g.I.Source.state c.loop-window.input).bytes_read in
    let rest = (g.I.Source.state c.next.new.input).bytes_read in
    read-within c.next.new.self first rest
    (read-next c.loop-window.lines first now c.loop-window.invariant.read c.next.new.self rest
    c.in_ok-next.ensures.read)

pub returns-clause-read : goal.returns-clause-read
returns-clause-read g c =
    let first = (g.I.Source.state c.args.input.now).bytes_read in
    let now = (g.I.Source.state c.loop-window.input).bytes_read in
    let rest = (g.I.Source.state c.next.new.input).bytes_read in
    read-within c.next.new.self first rest
    (read-next c.loop-window.lines first now c.loop-window.invariant.read c.next.new.self rest
    c.in_ok-next.ensures.read)
