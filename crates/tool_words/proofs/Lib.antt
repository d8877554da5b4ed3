-- serves `read_words`: from the words of each command to the command
pub mod CommandLemmas
-- serves `parsed` and `placed`: how the command of `clap` is made
pub mod CommandOfLemmas
-- serves `read_words`, for `discover`
pub mod DiscoverLemmas
-- serves `read_words`, for `drill`
pub mod DrillLemmas
-- serves `read_words`, the clause `only`: a fault that isn't `Usage`
pub mod FaultLemmas
-- serves `read_words`, for `mirror` and `serve`: flags
pub mod FlagLemmas
-- serves `read_words`, for `foreign`
pub mod ForeignLemmas
-- serves `read_words`, for `init`
pub mod InitLemmas
-- serves `read_line`
pub mod LineLemmas
-- serves `read_words`, for `mirror`
pub mod MirrorLemmas
-- serves `words_spell_one_command`
pub mod OneCommandLemmas
-- serves `read_words`, for the options of a command: the test of the grammar
pub mod OptionLemmas
-- serves `read_words`, for the options of a command: the parse by `clap`
pub mod ParseLemmas
-- serves `read_words`, for `apply`, `show`, `drill` and `discover`: the parse of positional words by `clap`
pub mod PlaceLemmas
-- serves `read_words`, for `relay`
pub mod RelayLemmas
-- serves `read_words`, for `serve`
pub mod ServeLemmas
-- serves `read_words`, for the options of a command: a word with a name and its value
pub mod WordLemmas
