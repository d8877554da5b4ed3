use Rattle.std.proofs.Common.{◌≡◌, ℕ, ◌+◌, ◌≤◌, [], length}
use Rattle.member_rules.specs.History.{IsLawful}
use Rattle.member_rules.specs.Table.{IsTableOf}
use Rattle.archive_sealer.specs.Window.{IsOfFeed}
use Rattle.store_commands.specs.Apply.{history_step}
use Rattle.store_commands.specs.Lines.{KnowsEnd, allowance, input_limit}
use Rattle.store_commands.proofs.ReadLemmas.{HasReadAllowed}
use Rattle.store_commands.proofs.ProgressLemmas.{Progress}
use Rattle.store_commands.proofs.apply.window_of.Given as goal

abbrev pub invariant-loop-window : goal.invariant-loop-window
invariant-loop-window g l =
    let before = g.I.Source.state l.fn.input in
    let input = g.I.Source.state l.input in
    record {
      progress : g.I.Source.observable → g.C.Clock.observable →
          Progress (history_step l.head (g.C.Clock.coming l.fn.clock)) [] before.left l.lines input
          (length l.window.history) l.window.history;
      moments : g.C.Clock.observable → (k : ℕ) →
          g.C.Clock.coming l.clock k ≡ g.C.Clock.coming l.fn.clock (k + length l.window.history);
      knows : g.I.Source.observable → KnowsEnd l.lines input;
      table : IsTableOf l.members l.head.created l.window.history;
      lawful : IsLawful l.head l.window.history;
      feed : IsOfFeed l.window l.head;
      few : length l.window.history + allowance l.lines ≤ input_limit;
      faults : (g.I.Source.state l.input).faults ≡ before.faults;
      read : HasReadAllowed l.lines before.bytes_read input.bytes_read;
    }

abbrev pub decreases-loop-window : goal.decreases-loop-window
decreases-loop-window g l = allowance l.lines
