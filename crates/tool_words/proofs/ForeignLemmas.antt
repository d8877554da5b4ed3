-- The command of `foreign` depends only on the value of its option.
use Rattle.std.proofs.Common.{◌≡◌, ◌⊎◌, ℕ, List, [], All, Option, Result, Ok, Err, codes, sym, subst, arith, inl, inr}
use Rattle.tool_words.specs.Options.{Given, AreOptions, value_of}
use Rattle.clap.specs.declared.parser.matches.ArgMatches.{ArgMatches}
use Rattle.tool_words.specs.Parse.{Match, value_in}
use Rattle.tool_words.specs.Words.{IsForeign, IsHttpText, foreign_options}
use Rattle.tool_words.specs.declared.command.Command.{Command}
use Rattle.tool_words.specs.declared.command.Command.TheVariants.{Foreign}
use Rattle.tool_words.specs.declared.fault.WordsFault.{WordsFault}
use Rattle.tool_words.specs.declared.fault.WordsFault.TheVariants.{NoMemory}

pub from_same : (one other : List ℕ → Option (List ℕ)) (from : List ℕ) →
    All (λ key. one key ≡ other key) foreign_options → IsHttpText (one (codes "from")) from →
    IsHttpText (other (codes "from")) from
from_same one other from same is = subst (λ v. IsHttpText v from) (same 0 [] (omega arith)) is

-- the words of `foreign` and the matches of their options
pub foreign_gives : (words : List (List ℕ)) (matches : ArgMatches) (from : List ℕ) → (i : IsForeign words from) →
    Match foreign_options [] i.options matches → IsHttpText (value_in matches (codes "from")) from
foreign_gives words matches from i m =
    from_same (λ key. value_of key i.options) (value_in matches) from (λ k d lt. sym (m.values k d lt)) i.is_from

pub gives_foreign : (words : List (List ℕ)) (matches : ArgMatches) (options : List Given) (from : List ℕ) →
    AreOptions foreign_options [] words options → Match foreign_options [] options matches →
    IsHttpText (value_in matches (codes "from")) from → IsForeign words from
gives_foreign words matches options from are m is = record {
  options = options;
  are_options = are;
  is_from = from_same (value_in matches) (λ key. value_of key options) from m.values is;
}

pub same_foreign : (from address : List ℕ) →
    (◌≡◌ {A = Result (List ℕ) WordsFault} (Ok address) (Ok from))
    ⊎ (◌≡◌ {A = Result (List ℕ) WordsFault} (Ok address) (Err NoMemory)) →
    ◌≡◌ {A = Result Command WordsFault} (Ok (Foreign address)) (Ok (Foreign from))
same_foreign from address (inl e) = cc
same_foreign from address (inr e) = absurd (cc)
