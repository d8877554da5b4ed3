-- The turns of a drill, counted from 1: what each asks of the feed, when, and within which crash.
use Rattle.std.specs.Prelude.{ℕ, ◌+◌, ◌*◌, ◌%◌, ◌==◌, List, ◌++◌, Bool, ◌||◌, nat_lt, if◌then◌else◌, Option, Some, None}
use Rattle.std.specs.Prelude.{codes, decimal, filter, get_or, is_some, length}
use Rattle.std.specs.List.{range_with_len}
use Rattle.atom_values.specs.Entry.{titled}
use Rattle.feed_disk.specs.declared.choice.Choice.{Choice}
use Rattle.feed_disk.specs.declared.choice.Choice.TheVariants.{Old, New, Fill}
use Rattle.feed_drill.specs.Draws.{drawn, number_of}
use Rattle.feed_life.specs.declared.event.Stop.{Stop}
use Rattle.member_rules.specs.Fold.{fold_of, made}
use Rattle.member_rules.specs.declared.ask.Ask.{Ask}
use Rattle.member_rules.specs.declared.ask.Ask.TheVariants.{Create, Replace, Delete}
use Rattle.member_rules.specs.declared.operation.Op.{Op}

-- Asks

-- the numbers of the live members, in order
unfoldable pub live_numbers : List Op → List ℕ
live_numbers history = filter (λ number. is_some ((fold_of history).live number)) (range_with_len 1 (made history))

-- the title of the entry that a turn makes
abbrev pub title_of : ℕ → List ℕ
title_of turn = codes "t" ++ decimal turn

-- a turn makes a member if none is live, and else by the number that it draws first
abbrev pub makes_member : List ℕ → ℕ → Bool
makes_member live first = length live == 0 || nat_lt (first % 4) 2

-- the live member at the place that the second number names
abbrev pub member_at : List ℕ → ℕ → ℕ
member_at live second = get_or live (second % length live) 0

-- the entry of a live member is replaced, or the member is deleted
abbrev pub change_of : ℕ → ℕ → ℕ → Ask
change_of turn first member = if first % 4 == 2 then Replace member (titled (title_of turn)) else Delete member

-- the ask of a turn, and the state after its draws
pub record Asked : Type 0 where
  pub ask : Ask
  pub state : ℕ

-- the ask of a turn, by the live members and the state before it
unfoldable pub asked : List ℕ → ℕ → ℕ → Asked
asked live turn state =
    let first = drawn state in
    let second = drawn first in
    if makes_member live (number_of first)
    then record { ask = Create (titled (title_of turn)); state = first }
    else record { ask = change_of turn (number_of first) (member_at live (number_of second)); state = second }

-- Crashes

-- each seventh request has a crash
abbrev pub has_crash : ℕ → Bool
has_crash turn = turn % 7 == 0

abbrev pub choice_by : ℕ → Choice
choice_by d = if d % 3 == 0 then Old else if d % 3 == 1 then New else Fill 165

-- the crash by two draws after this state
unfoldable pub crash_after : ℕ → Stop
crash_after state =
    let first = drawn state in
    record { call = 1 + number_of first % 4; choice = choice_by (number_of (drawn first)) }

-- after each fifth turn the feed's document is asked for, and offered to the mirror
abbrev pub has_offer : ℕ → Bool
has_offer turn = turn % 5 == 0

-- Turns

-- the ask of a turn, the clock, and the crash within its request
pub record Turn : Type 0 where
  pub ask : Ask
  pub now : ℕ
  pub crash : Option Stop

abbrev pub clock_at : ℕ → ℕ
clock_at turn = 1_700_000_000_000 + 1_000 * turn

-- the turn of this number, by the live members and the state before it
unfoldable pub turn_of : List ℕ → ℕ → ℕ → Turn
turn_of live turn state =
    let asks = asked live turn state in record {
      ask = asks.ask;
      now = clock_at turn;
      crash = if has_crash turn then Some (crash_after asks.state) else None;
    }

-- the state after the turn
unfoldable pub state_past : List ℕ → ℕ → ℕ → ℕ
state_past live turn state =
    let behind = (asked live turn state).state in if has_crash turn then drawn (drawn behind) else behind
