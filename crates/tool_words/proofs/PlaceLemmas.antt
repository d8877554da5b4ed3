-- A parse of positional words by `clap`: at most two, none of which begins with `-`.
use Rattle.std.proofs.Common.{◌+◌, ◌≡◌, ◌≤◌, inl, inr, ℕ, List, [], ◌∷◌, All, Bool, true, false, IsTrue}
use Rattle.std.proofs.Common.{Option, None, Some, Bor, Result, Ok, Err, IfOk, map, refl, sym, ap, ap₂}
use Rattle.std.proofs.Common.{◌∙◌, subst, arith, length, codes}
use Rattle.std.specs.Prelude.{not, ◌&&◌, ◌==◌, min, slice_get}
use Rattle.std.proofs.lemmas.Bool.{cases_Bool, eqb-true, not-true, true≢false}
use Rattle.std.proofs.lemmas.List.Elements.{All-cons, All-head, All-nil, All-tail}
use Rattle.clap.specs.Lexer.{usize_max}
use Rattle.clap.specs.Matches.{found_of}
use Rattle.clap.specs.Walk.{walk, Row, is_pending, finished, rows_after, Rule, Text, Walk, arg_by_index, first_of}
use Rattle.clap.specs.Walk.{nothing_held, settled_rows, walk_from, walked}
use Rattle.clap.specs.Takes.{built_takes, entered_passes, settle_passes, takes, turn_passes, walk_passes}
use Rattle.clap.specs.Simple.{App, names_of, HasMatchesOf, built, filled, is_simple, matches_of, with_index}
use Rattle.clap.specs.declared.parser.matches.ArgMatches.{ArgMatches}
use Rattle.clap.proofs.OnLiterals.{clap_on_literals}
use Rattle.clap.proofs.WalkLemmas.{first_value-rows}
use Rattle.std.specs.Char.{is_ascii_digit}
use Rattle.std.specs.List.{cons_option, list_all}
use Rattle.std.specs.Option.{option_copied}
use Rattle.std.proofs.lemmas.List.{length-map}
use Rattle.std.proofs.lemmas.List.Folds.{list_all-map}
use Rattle.std.proofs.lemmas.List.Sums.{AllPass-from_list_all, list_all-from_AllPass}
use Rattle.tool_words.specs.Options.{is_value}
use Rattle.tool_words.specs.Numbers.{is_number}
use Rattle.tool_words.specs.Words.{IsApply, IsNumbered, IsShow}
use Rattle.tool_words.specs.declared.command.Command.{Command}
use Rattle.tool_words.specs.declared.command.Command.TheVariants.{Apply, Show}
use Rattle.tool_words.specs.declared.command.Show.{Show as Shown}
use Rattle.tool_words.specs.declared.command.Show.TheVariants.{Document, Feed, Archive, Member, Pile}
use Rattle.tool_words.specs.declared.fault.WordsFault.{WordsFault}
use Rattle.tool_words.specs.Parse.{ArePlaces, app_with, place_rule, places_app, value_in}
use Rattle.tool_words.specs.Reading.{names_of as names_in}
use Rattle.tool_words.proofs.OptionLemmas.{both}
use Rattle.tool_words.proofs.ParseLemmas.{at_rest, built_app, built_shape, rest_passes, swap_and}

abbrev pub built_place : ℕ → Text → Rule
built_place i name = with_index i (filled (place_rule name))

and_false : (b : Bool) → (b && false) ≡ false
and_false true = refl
and_false false = refl

module _ (c : List Rule) (pending : Option (Text × List Text)) (held : List Row) (skip position : ℕ) where
  abbrev here : Walk
  here = at_rest pending held skip position

  plain_first : (v : ℕ) (vs : Text) → is_value (v ∷ vs) ≡ true → (v == 45) ≡ false
  plain_first v vs h = not-true (v == 45) h

  -- the word goes to the place
  pub place_walk : (name word : Text) → is_value word ≡ true
      → arg_by_index c position ≡ Some (built_place position name)
      → walked c [] here word
      ≡ at_rest (Some (name, word ∷ [])) (settled_rows c pending held) skip (min (position + 1) usize_max)
  unfolding walked
  place_walk name [] is known = absurd (true≢false (sym is))
  place_walk name (v ∷ vs) is known =
      let e = plain_first v vs is in
      let none = and_false (is_pending (built_place position name) pending) in
      rw e (rw e (rw known (rw none)))

  pub place_passes : (name word : Text) → is_value word ≡ true
      → arg_by_index c position ≡ Some (built_place position name)
      → settle_passes c false here.held ≡ true → turn_passes (built_shape c) [] here word ≡ true
  place_passes name [] is known settles = absurd (true≢false (sym is))
  place_passes name (v ∷ vs) is known settles =
      let e = plain_first v vs is in
      let none = and_false (is_pending (built_place position name) pending) in
      rw e (rw e (rw known (rw (none, settles))))

-- ---- a whole parse

place_takes : (rules c : List Rule) (words : List Text) (end : Walk) → is_simple (app_with rules) ≡ true →
    built (app_with rules) ≡ built_app c → walk_passes (built_shape c) [] (walk_from nothing_held) words ≡ true →
    walk c [] nothing_held words ≡ end → rest_passes c end ≡ true → takes (app_with rules) words ≡ true
place_takes rules c words end simple made passes is ends =
    let w = walk c [] nothing_held words in
    ap₂ (λ b a. b && built_takes a nothing_held words) simple made
    ∙ swap_and (entered_passes (built_app c) w.stopped)
    (walk_passes (built_shape c) [] (walk_from nothing_held) words) _ passes (ap (rest_passes c) is ∙ ends)

place_matches : (rules c : List Rule) (words : List Text) (end : Walk) → built (app_with rules) ≡ built_app c →
    walk c [] nothing_held words ≡ end → matches_of (app_with rules) words ≡ finished c end.held
place_matches rules c words end made is =
    ap (λ (a : App). rows_after a.top.rules (names_of a) words) made ∙ ap (λ (w : Walk). finished c w.held) is

value_of_rows : (app : App) (words : List Text) (m : ArgMatches) (rows : List Row) (name : Text)
    → is_simple app ≡ true → HasMatchesOf app words m → matches_of app words ≡ rows
    → value_in m name ≡ first_of name rows
value_of_rows app words m rows name simple has is =
    first_value-rows (found_of m) name ∙ ap (first_of name) ((has simple).0 ∙ is)

both_true : (a b : Bool) → a ≡ true → b ≡ true → (a && (b && true)) ≡ true
both_true true b ha hb = rw hb
both_true false b ha hb = absurd (true≢false (sym ha))

-- ---- words of few places

no_word : (words : List Text) → slice_get words 0 ≡ None → words ≡ []
no_word [] h = refl
no_word (w ∷ words) h = absurd (cc)

one_word : (words : List Text) (o : Option Text) → length words ≤ 1 → slice_get words 0 ≡ o
    → words ≡ cons_option o []
one_word [] None few h = refl
one_word [] (Some w) few h = absurd (cc)
one_word (x ∷ []) None few h = absurd (cc)
one_word (x ∷ []) (Some w) few h = cc
one_word (x ∷ y ∷ words) o few h = absurd (omega arith)

two_words : (words : List Text) (k : Text) (o : Option Text) → length words ≤ 2 → slice_get words 0 ≡ Some k →
    slice_get words 1 ≡ o → words ≡ k ∷ cons_option o []
two_words [] k o few first second = absurd (cc)
two_words (x ∷ []) k None few first second = cc
two_words (x ∷ []) k (Some n) few first second = absurd (cc)
two_words (x ∷ y ∷ []) k None few first second = absurd (cc)
two_words (x ∷ y ∷ []) k (Some n) few first second = cc
two_words (x ∷ y ∷ z ∷ words) k o few first second = absurd (omega arith)

-- ---- one place

abbrev pub one_rule : Text → List Rule
one_rule name = place_rule name ∷ []

abbrev pub one_built : Text → List Rule
one_built name = built_place 1 name ∷ []

abbrev pub after_one : Text → Text → Walk
after_one first w = at_rest (Some (first, w ∷ [])) [] 0 2

-- The steps of `clap` that depend on the name of the place. Each computes if the name is a literal.
pub record IsOneName (name : Text) : Type 0 where
  pub simple : is_simple (app_with (one_rule name)) ≡ true
  pub made : built (app_with (one_rule name)) ≡ built_app (one_built name)
  pub first_at : arg_by_index (one_built name) 1 ≡ Some (built_place 1 name)
  pub settles : settle_passes (one_built name) false (at_rest None [] 0 1).held ≡ true
  pub rests : (w : Text) → rest_passes (one_built name) (after_one name w) ≡ true
  pub none_taken : takes (app_with (one_rule name)) [] ≡ true
  pub none_found : matches_of (app_with (one_rule name)) [] ≡ []
  pub found : (w : Text) → first_of name (finished (one_built name) (after_one name w).held) ≡ Some w

module _ (name : Text) (is_one : IsOneName name) where
  one_walk : (w : Text) → is_value w ≡ true → walk (one_built name) [] nothing_held (w ∷ []) ≡ after_one name w
  one_walk w is = place_walk (one_built name) None [] 0 1 name w is is_one.first_at

  pub one_taken : (words : List Text) → ArePlaces (name ∷ []) words → takes (places_app (name ∷ [])) words ≡ true
  unfolding walk_passes
  one_taken [] are = is_one.none_taken
  one_taken (w ∷ []) are =
      let is : is_value w ≡ true = All-head (λ word. IsTrue (is_value word)) w [] are.values in
      place_takes (one_rule name) (one_built name) (w ∷ []) (after_one name w) is_one.simple is_one.made
      (rw (place_passes (one_built name) None [] 0 1 name w is is_one.first_at is_one.settles)) (one_walk w is)
      (is_one.rests w)
  one_taken (w ∷ u ∷ more) are = absurd (omega (arith, are.few))

  pub value_of_one : (words : List Text) (m : ArgMatches) → ArePlaces (name ∷ []) words →
      HasMatchesOf (places_app (name ∷ [])) words m → value_in m name ≡ slice_get words 0
  value_of_one [] m are has =
      value_of_rows (app_with (one_rule name)) [] m [] name is_one.simple has is_one.none_found
  value_of_one (w ∷ []) m are has =
      let is : is_value w ≡ true = All-head (λ word. IsTrue (is_value word)) w [] are.values in
      value_of_rows (app_with (one_rule name)) (w ∷ []) m (finished (one_built name) (after_one name w).held) name
      is_one.simple has
      (place_matches (one_rule name) (one_built name) (w ∷ []) (after_one name w) is_one.made (one_walk w is))
      ∙ is_one.found w
  value_of_one (w ∷ u ∷ more) m are has = absurd (omega (arith, are.few))

  -- the words are the value
  pub words_of_one : (words : List Text) (m : ArgMatches) (word : Option Text) → ArePlaces (name ∷ []) words
      → HasMatchesOf (places_app (name ∷ [])) words m → value_in m name ≡ word → words ≡ cons_option word []
  words_of_one words m word are has value =
      one_word words word are.few (sym (value_of_one words m are has) ∙ value)

-- ---- two places

abbrev pub two_rules : Text → Text → List Rule
two_rules first second = place_rule first ∷ place_rule second ∷ []

abbrev pub two_built : Text → Text → List Rule
two_built first second = built_place 1 first ∷ built_place 2 second ∷ []

abbrev pub after_two : Text → Text → Text → Text → Walk
after_two first second w u =
    at_rest (Some (second, u ∷ [])) (settled_rows (two_built first second) (Some (first, w ∷ [])) []) 0 3

-- the first word is there, or it isn't, and the second one too
pub record Values (first second : Text) (words : List Text) (value : Text → Option Text) : Type 0 where
  pub first_is : value first ≡ slice_get words 0
  pub second_is : value second ≡ slice_get words 1

-- The steps of `clap` that depend on the names of the places. Each computes if the names are literals.
pub record AreTwoNames (first second : Text) : Type 0 where
  pub simple : is_simple (app_with (two_rules first second)) ≡ true
  pub made : built (app_with (two_rules first second)) ≡ built_app (two_built first second)
  pub first_at : arg_by_index (two_built first second) 1 ≡ Some (built_place 1 first)
  pub second_at : arg_by_index (two_built first second) 2 ≡ Some (built_place 2 second)
  pub settles_none : settle_passes (two_built first second) false (at_rest None [] 0 1).held ≡ true
  pub settles_one : (w : Text) → settle_passes (two_built first second) false (after_one first w).held ≡ true
  pub rests_one : (w : Text) → rest_passes (two_built first second) (after_one first w) ≡ true
  pub rests_two : (w u : Text) → rest_passes (two_built first second) (after_two first second w u) ≡ true
  pub none_taken : takes (app_with (two_rules first second)) [] ≡ true
  pub none_found : matches_of (app_with (two_rules first second)) [] ≡ []
  pub one_found : (w : Text) → Values first second (w ∷ [])
      (λ name. first_of name (finished (two_built first second) (after_one first w).held))
  pub two_found : (w u : Text) → Values first second (w ∷ u ∷ [])
      (λ name. first_of name (finished (two_built first second) (after_two first second w u).held))

module _ (first second : Text) (are_two : AreTwoNames first second) where
  abbrev two : List Rule
  two = two_built first second

  first_walk : (w : Text) → is_value w ≡ true → walk two [] nothing_held (w ∷ []) ≡ after_one first w
  first_walk w is = place_walk two None [] 0 1 first w is are_two.first_at

  second_walk : (w u : Text) → is_value w ≡ true → is_value u ≡ true →
      walk two [] nothing_held (w ∷ u ∷ []) ≡ after_two first second w u
  second_walk w u is is_too =
      ap (λ s. walked two [] s u) (first_walk w is)
      ∙ place_walk two (Some (first, w ∷ [])) [] 0 2 second u is_too are_two.second_at

  second_passes : (w u : Text) → is_value w ≡ true → is_value u ≡ true →
      walk_passes (built_shape two) [] (walk_from nothing_held) (w ∷ u ∷ []) ≡ true
  unfolding walk_passes
  second_passes w u is is_too =
      both_true _ _ (place_passes two None [] 0 1 first w is are_two.first_at are_two.settles_none)
      (ap (λ s. turn_passes (built_shape two) [] s u) (first_walk w is)
      ∙ place_passes two (Some (first, w ∷ [])) [] 0 2 second u is_too are_two.second_at (are_two.settles_one w))

  pub two_taken : (words : List Text) → ArePlaces (first ∷ second ∷ []) words →
      takes (places_app (first ∷ second ∷ [])) words ≡ true
  unfolding walk_passes
  two_taken [] are = are_two.none_taken
  two_taken (w ∷ []) are =
      let is : is_value w ≡ true = All-head (λ word. IsTrue (is_value word)) w [] are.values in
      place_takes (two_rules first second) two (w ∷ []) (after_one first w) are_two.simple are_two.made
      (rw (place_passes two None [] 0 1 first w is are_two.first_at are_two.settles_none)) (first_walk w is)
      (are_two.rests_one w)
  two_taken (w ∷ u ∷ []) are =
      let is : is_value w ≡ true = All-head (λ word. IsTrue (is_value word)) w (u ∷ []) are.values in
      let is_too : is_value u ≡ true = All-head (λ word. IsTrue (is_value word)) u []
      (All-tail (λ word. IsTrue (is_value word)) w (u ∷ []) are.values) in
      place_takes (two_rules first second) two (w ∷ u ∷ []) (after_two first second w u) are_two.simple are_two.made
      (second_passes w u is is_too) (second_walk w u is is_too) (are_two.rests_two w u)
  two_taken (w ∷ u ∷ v ∷ more) are = absurd (omega (arith, are.few))

  values_of_rows : (words : List Text) (m : ArgMatches) (rows : List Row)
      → HasMatchesOf (places_app (first ∷ second ∷ [])) words m
      → matches_of (app_with (two_rules first second)) words ≡ rows
      → Values first second words (λ name. first_of name rows) → Values first second words (value_in m)
  values_of_rows words m rows has is values = record {
    first_is = value_of_rows (app_with (two_rules first second)) words m rows first are_two.simple has is
        ∙ values.first_is;
    second_is = value_of_rows (app_with (two_rules first second)) words m rows second are_two.simple has is
        ∙ values.second_is;
  }

  two_values : (words : List Text) (m : ArgMatches) → ArePlaces (first ∷ second ∷ []) words →
      HasMatchesOf (places_app (first ∷ second ∷ [])) words m → Values first second words (value_in m)
  two_values [] m are has =
      values_of_rows [] m [] has are_two.none_found (record { first_is = refl; second_is = refl })
  two_values (w ∷ []) m are has =
      let is : is_value w ≡ true = All-head (λ word. IsTrue (is_value word)) w [] are.values in
      values_of_rows (w ∷ []) m (finished two (after_one first w).held) has
      (place_matches (two_rules first second) two (w ∷ []) (after_one first w) are_two.made (first_walk w is))
      (are_two.one_found w)
  two_values (w ∷ u ∷ []) m are has =
      let is : is_value w ≡ true = All-head (λ word. IsTrue (is_value word)) w (u ∷ []) are.values in
      let is_too : is_value u ≡ true = All-head (λ word. IsTrue (is_value word)) u []
      (All-tail (λ word. IsTrue (is_value word)) w (u ∷ []) are.values) in
      values_of_rows (w ∷ u ∷ []) m (finished two (after_two first second w u).held) has
      (place_matches (two_rules first second) two (w ∷ u ∷ []) (after_two first second w u) are_two.made
      (second_walk w u is is_too)) (are_two.two_found w u)
  two_values (w ∷ u ∷ v ∷ more) m are has = absurd (omega (arith, are.few))

  -- the words are the values
  pub words_of_two : (words : List Text) (m : ArgMatches) (kind : Text) (word : Option Text)
      → ArePlaces (first ∷ second ∷ []) words → HasMatchesOf (places_app (first ∷ second ∷ [])) words m
      → value_in m first ≡ Some kind → value_in m second ≡ word → words ≡ kind ∷ cons_option word []
  words_of_two words m kind word are has first_is second_is =
      let values = two_values words m are has in
      two_words words kind word are.few (sym values.first_is ∙ first_is) (sym values.second_is ∙ second_is)

  pub words_of_none : (words : List Text) (m : ArgMatches) → ArePlaces (first ∷ second ∷ []) words
      → HasMatchesOf (places_app (first ∷ second ∷ [])) words m → value_in m first ≡ None → words ≡ []
  words_of_none words m are has none = no_word words (sym (two_values words m are has).first_is ∙ none)

  -- two words are the values of the matches
  pub both_values : (w u : Text) (m : ArgMatches) → ArePlaces (first ∷ second ∷ []) (w ∷ u ∷ [])
      → HasMatchesOf (places_app (first ∷ second ∷ [])) (w ∷ u ∷ []) m
      → (value_in m first ≡ Some w) × (value_in m second ≡ Some u)
  both_values w u m are has =
      let values = two_values (w ∷ u ∷ []) m are has in (values.first_is, values.second_is)

-- ---- `apply`

window_name : IsOneName (codes "window")
unfolding clap_on_literals
window_name = record {
  simple = refl;
  made = refl;
  first_at = refl;
  settles = refl;
  rests = λ w. refl;
  none_taken = refl;
  none_found = refl;
  found = λ w. refl;
}

pub window_takes : (words : List Text) → ArePlaces (codes "window" ∷ []) words →
    takes (places_app (codes "window" ∷ [])) words ≡ true
window_takes = one_taken (codes "window") window_name

-- ---- `show`

kind_and_number : AreTwoNames (codes "kind") (codes "number")
unfolding clap_on_literals
kind_and_number = record {
  simple = refl;
  made = refl;
  first_at = refl;
  second_at = refl;
  settles_none = refl;
  settles_one = λ w. refl;
  rests_one = λ w. refl;
  rests_two = λ w u. refl;
  none_taken = refl;
  none_found = refl;
  one_found = λ w. record { first_is = refl; second_is = refl };
  two_found = λ w u. record { first_is = refl; second_is = refl };
}

pub show_takes : (words : List Text) → ArePlaces (codes "kind" ∷ codes "number" ∷ []) words →
    takes (places_app (codes "kind" ∷ codes "number" ∷ [])) words ≡ true
show_takes = two_taken (codes "kind") (codes "number") kind_and_number

-- ---- `placed`

pub placed_found : (names words : List Text) (app : App) (r : Result ArgMatches WordsFault) → ArePlaces names words
    → app ≡ places_app names → IfOk r (HasMatchesOf app words)
    → IfOk r (λ m. ArePlaces names words × HasMatchesOf (places_app names) words m)
placed_found names words app (Ok m) are is has = (are, subst (λ a. HasMatchesOf a words m) is has)
placed_found names words app (Err fault) are is has = tt

pub are_places : (names : List (Bor Text)) {X : Type 0} (text : X → Text) (words : List X)
    → length words ≤ length names → list_all (λ word. is_value (text word)) words ≡ true
    → ArePlaces (names_in names) (map text words)
are_places names text words few values = record {
  few = omega (arith, length-map names (λ name. name.now), length-map words text);
  values = AllPass-from_list_all is_value (map text words) (list_all-map is_value text words ∙ values);
}

pub places_few : (names : List (Bor Text)) {X : Type 0} (text : X → Text) (words : List X)
    → ArePlaces (names_in names) (map text words) → length words ≤ length names
places_few names text words are = omega (arith, are.few, length-map names (λ name. name.now), length-map words text)

pub places_values : (names : List Text) {X : Type 0} (text : X → Text) (words : List X)
    → ArePlaces names (map text words) → list_all (λ word. is_value (text word)) words ≡ true
places_values names text words are =
    sym (list_all-map is_value text words) ∙ list_all-from_AllPass is_value (map text words) are.values

-- ---- numbers as values

-- a number may be a value
digit_first : (x : ℕ) → is_ascii_digit x ≡ true → not (x == 45) ≡ true
digit_first x digit = elim (cases_Bool (x == 45)) [
  | inl minus ↦
      absurd (true≢false (sym digit ∙ ap is_ascii_digit (eqb-true x 45 minus)))
  | inr other ↦ rw other
]

pub number_value : (word : Text) → is_number word ≡ true → is_value word ≡ true
number_value [] h = absurd (true≢false (sym h))
number_value (x ∷ xs) h =
    digit_first x (first_true (is_ascii_digit x) _ (both (not (length (x ∷ xs) == 0)) _ h).1)
  where
    first_true : (a b : Bool) → (a && b) ≡ true → a ≡ true
    first_true true b h = refl
    first_true false b h = absurd (true≢false (sym h))

one_value : (word : Text) → is_value word ≡ true → All (λ w. IsTrue (is_value w)) (word ∷ [])
one_value word h = All-cons (λ w. IsTrue (is_value w)) word [] h (All-nil (λ w. IsTrue (is_value w)))

pub apply_are : (words : List Text) (window : Option ℕ) → IsApply words window → ArePlaces (codes "window" ∷ []) words
apply_are words None e =
    subst (ArePlaces (codes "window" ∷ [])) (sym e)
    (record { few = omega arith; values = All-nil (λ word. IsTrue (is_value word)) })
apply_are words (Some n) (word, e, number) =
    subst (ArePlaces (codes "window" ∷ [])) (sym e) (record {
      few = omega arith;
      values = one_value word (number_value word number.digits);
    })

-- the words after `apply` are its value
pub window_words : (words : List Text) (m : ArgMatches) (word : Option (Bor Text))
    → ArePlaces (codes "window" ∷ []) words → HasMatchesOf (places_app (codes "window" ∷ [])) words m
    → option_copied word ≡ value_in m (codes "window") → words ≡ cons_option (option_copied word) []
window_words words m word are has value =
    words_of_one (codes "window") window_name words m (option_copied word) are has (sym value)

-- no words after `show` ask for the document of the input
pub no_kind : (words : List Text) (shown : Shown) → words ≡ [] → IsShow words shown → shown ≡ Document
no_kind words Document e i = refl
no_kind words Feed e i = absurd (cc)
no_kind words Pile e i = absurd (cc)
no_kind words (Archive n) e (word, spelt, number) = absurd (cc)
no_kind words (Member n) e (word, spelt, number) = absurd (cc)

pub two_are_values : (kind word : Text) → is_value kind ≡ true → is_value word ≡ true →
    All (λ w. IsTrue (is_value w)) (kind ∷ word ∷ [])
two_are_values kind word k h = All-cons (λ w. IsTrue (is_value w)) kind (word ∷ []) k (one_value word h)

numbered_are : (kind : Text) (words : List Text) (n : ℕ) → is_value kind ≡ true → IsNumbered kind words n →
    ArePlaces (codes "kind" ∷ codes "number" ∷ []) words
numbered_are kind words n k (word, e, number) =
    subst (ArePlaces (codes "kind" ∷ codes "number" ∷ [])) (sym e) (record {
      few = omega arith;
      values = two_are_values kind word k (number_value word number.digits);
    })

pub show_are : (words : List Text) (shown : Shown) → IsShow words shown →
    ArePlaces (codes "kind" ∷ codes "number" ∷ []) words
show_are words Document e =
    subst (ArePlaces (codes "kind" ∷ codes "number" ∷ [])) (sym e)
    (record { few = omega arith; values = All-nil (λ word. IsTrue (is_value word)) })
show_are words Feed e =
    subst (ArePlaces (codes "kind" ∷ codes "number" ∷ [])) (sym e)
    (record { few = omega arith; values = one_value (codes "feed") refl })
show_are words Pile e =
    subst (ArePlaces (codes "kind" ∷ codes "number" ∷ [])) (sym e)
    (record { few = omega arith; values = one_value (codes "pile") refl })
show_are words (Archive n) h = numbered_are (codes "archive") words n refl h
show_are words (Member n) h = numbered_are (codes "member") words n refl h

-- the words after `show` are its values
pub kind_words : (words : List Text) (m : ArgMatches) (kind : Text) (word : Option (Bor Text))
    → ArePlaces (codes "kind" ∷ codes "number" ∷ []) words
    → HasMatchesOf (places_app (codes "kind" ∷ codes "number" ∷ [])) words m
    → Some kind ≡ value_in m (codes "kind") → option_copied word ≡ value_in m (codes "number")
    → words ≡ kind ∷ cons_option (option_copied word) []
kind_words words m kind word are has first second =
    words_of_two (codes "kind") (codes "number") kind_and_number words m kind (option_copied word) are has (sym first)
    (sym second)

pub no_words : (words : List Text) (m : ArgMatches) → ArePlaces (codes "kind" ∷ codes "number" ∷ []) words
    → HasMatchesOf (places_app (codes "kind" ∷ codes "number" ∷ [])) words m → None ≡ value_in m (codes "kind")
    → words ≡ []
no_words words m are has none =
    words_of_none (codes "kind") (codes "number") kind_and_number words m are has (sym none)

pub same_window : (a b : Option ℕ) → ◌≡◌ {A = Result (Option ℕ) WordsFault} (Ok a) (Ok b)
    → ◌≡◌ {A = Result Command WordsFault} (Ok (Apply a)) (Ok (Apply b))
same_window a b e = cc

pub same_show : (a b : Shown) → Some a ≡ Some b → ◌≡◌ {A = Result Command WordsFault} (Ok (Show a)) (Ok (Show b))
same_show a b e = cc
