-- The command that `clap` parses, and what its matches give.
use Rattle.std.specs.Prelude.{◌≡◌, ◌≤◌, ℕ, List, [], ◌++◌, Bool, true, Option, Some, All, IsTrue, codes, length, map}
use Rattle.std.specs.Prelude.{if◌then◌else◌}
use Rattle.clap.specs.Walk.{Rule, Text}
use Rattle.clap.specs.Simple.{App, new_rule, new_shape}
use Rattle.clap.specs.Matches.{first_value, found_of, one_text}
use Rattle.clap.specs.declared.builder.action.ArgAction.TheVariants.{Set, SetTrue}
use Rattle.clap.specs.declared.parser.matches.ArgMatches.{ArgMatches}
use Rattle.tool_words.specs.Options.{Given, is_given, is_value, value_of}

-- the argument of an option, and of a flag
abbrev pub option_rule : Text → Rule
option_rule name = record (new_rule name) { long = Some name; action = Some Set }

abbrev pub flag_rule : Text → Rule
flag_rule name = record (new_rule name) { long = Some name; action = Some SetTrue }

-- the command that has these arguments and nothing else, whose words begin with none for the program
abbrev pub app_with : List Rule → App
app_with rules = record {
  top = record (new_shape (codes "feed_tool")) {
    rules = rules;
    no_binary_name = true;
    disable_help_flag = true;
  };
  subs = [];
}

-- the command that has these options and flags
abbrev pub options_app : List Text → List Text → App
options_app names flags = app_with (map option_rule names ++ map flag_rule flags)

-- the argument of a positional word
abbrev pub place_rule : Text → Rule
place_rule name = record (new_rule name) { action = Some Set }

-- the command that has these positional words
abbrev pub places_app : List Text → App
places_app names = app_with (map place_rule names)

-- the words are values, and no more than the places
pub record ArePlaces (names words : List Text) : Type 0 where
  pub few : length words ≤ length names
  pub values : All (λ word. IsTrue (is_value word)) words

-- the value of an argument among the matches
abbrev pub value_in : ArgMatches → List ℕ → Option (List ℕ)
value_in matches name = first_value (found_of matches) name

-- the text of a flag among the matches
abbrev pub flag_in : ArgMatches → List ℕ → Option (List ℕ)
flag_in matches name = one_text (found_of matches) name

abbrev pub flag_text : Bool → List ℕ
flag_text given = if given then codes "true" else codes "false"

-- the matches have the values of these options, and tell which flags are among them
pub record Match (names flags : List Text) (options : List Given) (matches : ArgMatches) : Type 0 where
  pub values : All (λ name. value_in matches name ≡ value_of name options) names
  pub flags_are : All (λ name. flag_in matches name ≡ Some (flag_text (is_given name options))) flags
