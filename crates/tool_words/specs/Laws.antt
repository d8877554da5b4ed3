-- The law that the crates above cite. It is the contract of the function of laws.rt.
use Rattle.std.specs.Prelude.{◌≡◌, ℕ, List}
use Rattle.tool_words.specs.Words.{IsCommandOf}
use Rattle.tool_words.specs.declared.command.Command.{Command}

-- words spell one command at most
abbrev pub WordsSpellOneCommand : Type 0
WordsSpellOneCommand = (words : List (List ℕ)) (one other : Command) → IsCommandOf words one → IsCommandOf words other
    → one ≡ other
