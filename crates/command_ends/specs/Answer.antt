-- Answers, which all commands have, and how the output takes their bytes.
use Rattle.std.specs.Prelude.{◌≡◌, ℕ, List, ◌++◌, codes}
use Rattle.atom_values.specs.Counts.{HasRisen}
use Rattle.command_ends.specs.declared.status.Status.{Status}
use Rattle.doc_source.specs.Outside.{SinkState, TakesPrefix}

-- how a command ends, and the bytes that it prints
pub record Answer : Type 0 where
  pub status : Status
  pub printed : List ℕ

-- the line for words that name no command
abbrev pub usage_line : List ℕ
usage_line = codes "usage: feed_tool init, apply, show, serve, mirror, audit, drill, foreign, discover, relay, scrub\n"

-- the output took the text, or a prefix of it where one of the output's calls failed
pub record Prints (before after : SinkState) (text : List ℕ) : Type 0 where
  pub prefix : TakesPrefix before after text
  pub whole : ¬ HasRisen before.faults after.faults → after.taken ≡ before.taken ++ text
