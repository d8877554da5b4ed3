-- A flag that is read is one that is given.
use Rattle.std.proofs.Common.{◌≡◌, List, ℕ, Some, Bool, true, false, codes}
use Rattle.clap.specs.declared.parser.matches.ArgMatches.{ArgMatches}
use Rattle.tool_words.specs.Parse.{flag_in, flag_text}

-- the flags that the matches tell
pub record Tells (matches : ArgMatches) (key : List ℕ) (read : Bool) : Type 0 where
  pub set : flag_in matches key ≡ Some (codes "true") → read ≡ true
  pub unset : flag_in matches key ≡ Some (codes "false") → read ≡ false

pub flag_read : (matches : ArgMatches) (key : List ℕ) (given read : Bool)
    → flag_in matches key ≡ Some (flag_text given) → Tells matches key read → read ≡ given
flag_read matches key true read is tells = tells.set is
flag_read matches key false read is tells = tells.unset is
