-- The command of `drill` depends only on the values of its two words.
use Rattle.std.proofs.Common.{◌≡◌, ℕ, List, [], ◌∷◌, Some, Result, Ok, true, refl, sym, subst, arith, codes}
use Rattle.clap.specs.Simple.{HasMatchesOf}
use Rattle.clap.specs.Takes.{takes}
use Rattle.clap.specs.Walk.{Text}
use Rattle.clap.specs.declared.parser.matches.ArgMatches.{ArgMatches}
use Rattle.clap.proofs.OnLiterals.{clap_on_literals}
use Rattle.tool_words.specs.Numbers.{IsNumber}
use Rattle.tool_words.specs.Parse.{ArePlaces, places_app, value_in}
use Rattle.tool_words.specs.Words.{IsDrill, count_limit, seed_limit}
use Rattle.tool_words.specs.declared.command.Command.{Command}
use Rattle.tool_words.specs.declared.command.Command.TheVariants.{Drill}
use Rattle.tool_words.specs.declared.fault.WordsFault.{WordsFault}
use Rattle.tool_words.proofs.PlaceLemmas.{AreTwoNames, both_values, number_value, two_are_values, two_taken}
use Rattle.tool_words.proofs.PlaceLemmas.{words_of_two}

seed_and_count : AreTwoNames (codes "seed") (codes "count")
unfolding clap_on_literals
seed_and_count = record {
  simple = refl;
  made = refl;
  first_at = refl;
  second_at = refl;
  settles_none = refl;
  settles_one = λ w. refl;
  rests_one = λ w. refl;
  rests_two = λ w u. refl;
  none_taken = refl;
  none_found = refl;
  one_found = λ w. record { first_is = refl; second_is = refl };
  two_found = λ w u. record { first_is = refl; second_is = refl };
}

pub drill_takes : (words : List Text) → ArePlaces (codes "seed" ∷ codes "count" ∷ []) words →
    takes (places_app (codes "seed" ∷ codes "count" ∷ [])) words ≡ true
drill_takes = two_taken (codes "seed") (codes "count") seed_and_count

pub drill_are : (words : List Text) (seed count : ℕ) → IsDrill words seed count →
    ArePlaces (codes "seed" ∷ codes "count" ∷ []) words
drill_are words seed count i =
    subst (ArePlaces (codes "seed" ∷ codes "count" ∷ [])) (sym i.words_are) (record {
      few = omega arith;
      values = two_are_values i.seed_word i.count_word (number_value i.seed_word i.is_seed.digits)
          (number_value i.count_word i.is_count.digits);
    })

-- the matches have the two words
pub drill_values : (words : List Text) (m : ArgMatches) (seed count : ℕ) → (i : IsDrill words seed count)
    → ArePlaces (codes "seed" ∷ codes "count" ∷ []) words
    → HasMatchesOf (places_app (codes "seed" ∷ codes "count" ∷ [])) words m
    → (value_in m (codes "seed") ≡ Some i.seed_word) × (value_in m (codes "count") ≡ Some i.count_word)
drill_values words m seed count i are has =
    both_values (codes "seed") (codes "count") seed_and_count i.seed_word i.count_word m
    (subst (ArePlaces (codes "seed" ∷ codes "count" ∷ [])) i.words_are are)
    (subst (λ w. HasMatchesOf (places_app (codes "seed" ∷ codes "count" ∷ [])) w m) i.words_are has)

-- the words are the values of the matches
pub values_drill : (words : List Text) (m : ArgMatches) (seed count : ℕ) (seed_word count_word : Text)
    → ArePlaces (codes "seed" ∷ codes "count" ∷ []) words
    → HasMatchesOf (places_app (codes "seed" ∷ codes "count" ∷ [])) words m
    → value_in m (codes "seed") ≡ Some seed_word → value_in m (codes "count") ≡ Some count_word
    → IsNumber 0 seed_limit seed_word seed → IsNumber 1 count_limit count_word count → IsDrill words seed count
values_drill words m seed count seed_word count_word are has first second is_seed is_count = record {
  seed_word = seed_word;
  count_word = count_word;
  words_are = words_of_two (codes "seed") (codes "count") seed_and_count words m seed_word (Some count_word) are has
      first second;
  is_seed = is_seed;
  is_count = is_count;
}

pub same_drill : (seed n count k : ℕ) → ◌≡◌ {A = Result ℕ WordsFault} (Ok n) (Ok seed) →
    ◌≡◌ {A = Result ℕ WordsFault} (Ok k) (Ok count) →
    ◌≡◌ {A = Result Command WordsFault} (Ok (Drill n k)) (Ok (Drill seed count))
same_drill seed n count k e ek = cc
