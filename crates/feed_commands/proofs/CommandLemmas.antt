-- The answer of a command, from the contract of its own function.
use Rattle.std.proofs.Common.{◌≡◌, ℕ, Bool, true, false, ap, ◌∙◌}
use Rattle.atom_writer.specs.declared.doc.FeedName.{FeedName}
use Rattle.scrub_command.specs.Answer.{IsRepairedBy, IsScrubbed}
use Rattle.tool_words.specs.declared.command.Command.{Command}
use Rattle.tool_words.specs.declared.command.Command.TheVariants.{Init, Scrub, Show}
use Rattle.tool_words.specs.declared.command.Show.TheVariants.{Document}
use Rattle.command_ends.specs.Answer.{Answer}
use Rattle.feed_commands.specs.Outside.{Outside}
use Rattle.feed_commands.specs.Run.{IsGiven}
use Rattle.store_commands.specs.Show.{IsShown}
use Rattle.store_commands.specs.Stored.{IsInitAnswer}
use Rattle.feed_commands.proofs.AnswerLemmas.{init_once, shown_once}

-- the command of an arm that tests the flag
pub scrub-is : {command : Command} {repair given : Bool} → command ≡ Scrub repair → repair ≡ given
    → command ≡ Scrub given
scrub-is is same = is ∙ ap (λ (flag : Bool). Scrub flag) same

module _ (outside : Outside) (given : Answer) where
  pub init-given : (name : FeedName) (window capacity : ℕ) → IsInitAnswer outside.content given →
      IsGiven (Init name window capacity) outside given
  init-given name window capacity a =
      record { is = a; due = λ other o. init_once outside.content other given o a }

  pub document-given : IsShown outside.input given → IsGiven (Show Document) outside given
  document-given a = record { is = a; due = λ other o. shown_once outside.input other given o a }

  pub scrub-given : IsScrubbed outside.content given → IsGiven (Scrub false) outside given
  scrub-given a = record { is = a.is; due = a.due }

  pub repair-given : IsRepairedBy outside.content given → IsGiven (Scrub true) outside given
  repair-given a = record { is = a.is; due = a.due }
