-- A parse of options by `clap`, from its rules for words to the values in its matches.
use Rattle.std.proofs.Common.{◌<◌, get_or, length, ◌≡◌, ◌≢◌, inl, inr, ℕ, List, [], ◌∷◌, ◌++◌, Bool, true}
use Rattle.std.proofs.Common.{false, not, ◌==◌, All, Any}
use Rattle.std.proofs.Common.{Option, None, Some, IsTrue, map, bytes_eq, refl, sym, ap, ap₂, ◌∙◌, subst, codes}
use Rattle.std.proofs.Common.{append_assoc, append-nil, Result, Ok, Err, IfOk, IfErr, MatchResult}
use Rattle.std.specs.Prelude.{option_and_then, slice_get, count_by, is_some, ◌&&◌, ◌||◌, flat_map, fold}
use Rattle.std.specs.Prelude.{if◌then◌else◌, unwrap_or}
use Rattle.std.specs.List.{list_all, list_any, find}
use Rattle.std.proofs.lemmas.Slice.Eq.{bytes_eq-Decides}
use Rattle.std.proofs.lemmas.Bool.{cases_Bool, false_from_ne_true, not-true, true≢false}
use Rattle.std.proofs.lemmas.List.{map-append, get_or_default}
use Rattle.std.proofs.lemmas.List.Elements.{All-head, All-tail}
use Rattle.std.proofs.lemmas.List.Folds.{Any-from_list_any, list_any-from_Any, find-append}
use Rattle.std.specs.Option.{option_or}
use Rattle.clap.specs.Walk.{rows_of, first_of, one_of, row_text, rows_after, finished, is_early_multiple}
use Rattle.clap.specs.Walk.{nothing_held, after_flag, after_step, long_met, more_values, with_values, without}
use Rattle.clap.specs.Walk.{Row, Rule, Text, Walk, idle, option, arg_by_id, arg_by_long, at_row}
use Rattle.clap.specs.Walk.{has_row, settled_rows, walked, walk_from, with_default, used}
use Rattle.clap.specs.Takes.{built_takes, is_given as is_present, default_passes, entered_passes, is_valid, takes}
use Rattle.clap.specs.Takes.{long_passes, step_passes, settle_passes, turn_passes, walk_passes}
use Rattle.clap.specs.Simple.{HasMatchesOf, names_of, App, built, entered, is_simple, matches_of, new_shape, Shape}
use Rattle.clap.specs.Simple.{filled, filled_from}
use Rattle.clap.specs.Matches.{found_of}
use Rattle.clap.specs.declared.parser.matches.ArgMatches.{ArgMatches}
use Rattle.clap.proofs.WalkLemmas.{first_value-rows, one_text-rows}
use Rattle.std.proofs.lemmas.List.Sums.{AllPass-from_list_all}
use Rattle.tool_words.specs.Reading.{SpellOptions, are_apart, are_names, can_be_read, is_name}
use Rattle.tool_words.proofs.OptionLemmas.{both, free_of_name, listed_name}
use Rattle.clap.specs.Lexer.{name_and_value}
use Rattle.clap.proofs.CutLemmas.{Lacks, before_first-Lacks, before_first-at, after_first-at, list_any-Lacks}
use Rattle.clap.proofs.CutLemmas.{list_any-at}
use Rattle.clap.specs.declared.parser.matches.ValueSource.TheVariants.{DefaultValue, CommandLine}
use Rattle.clap.specs.declared.builder.value_parser.Reading.{Reading}
use Rattle.clap.specs.declared.builder.value_parser.Reading.TheVariants.{AsWritten}
use Rattle.tool_words.specs.Parse.{Match, flag_rule, option_rule, options_app}
use Rattle.tool_words.specs.Options.{AreOptions, IsKnown, IsKnownAs, value_of, AreDistinct, is_given, Given, spelled}
use Rattle.tool_words.specs.Options.{spelled_as, is_value}
use Rattle.tool_words.specs.declared.fault.WordsFault.{WordsFault}
use Rattle.tool_words.specs.declared.fault.WordsFault.TheVariants.{NoMemory}

-- as they are built
abbrev pub built_option : Text → Rule
built_option name = filled (option_rule name)

abbrev pub built_flag : Text → Rule
built_flag name = filled (flag_rule name)

abbrev pub row_as : Text → Option Text → Row
row_as name value = record {
  id = name;
  values = unwrap_or value (codes "true") ∷ [];
  count = None;
  source = Some CommandLine;
  reading = AsWritten;
}

abbrev pub option_row : Given → Row
option_row given = row_as given.name given.value

-- no `=`
abbrev IsFree : Text → Type 0
IsFree name = All (λ c. c ≢ 61) name

cut_none : (name : Text) → IsFree name → name_and_value name ≡ (name, None)
cut_none name h =
    let lacks : Lacks 61 name = λ i lt. h i 0 lt in
    rw (before_first-Lacks 61 name lacks, list_any-Lacks 61 name lacks)

cut_some : (name value : Text) → IsFree name → name_and_value (name ++ 61 ∷ value) ≡ (name, Some value)
cut_some name value h =
    let lacks : Lacks 61 name = λ i lt. h i 0 lt in
    rw (before_first-at 61 name value lacks, after_first-at 61 name value lacks, list_any-at 61 name value)

fresh_row : (name : Text) (change : Row → List Row) (missing : List Row) (rows : List Row) → has_row name rows ≡ false
    → at_row name change missing rows ≡ rows ++ missing
fresh_row name change missing [] h = refl
fresh_row name change missing (r ∷ rs) h = elim (cases_Bool (bytes_eq r.id name)) [
  | inl same ↦ absurd (let k = rw same at h in true≢false k)
  | inr other ↦ rw other (ap (λ more. r ∷ more) (fresh_row name change missing rs (rw other at h)))
]

-- a walk that stands between two options
abbrev pub at_rest : Option (Text × List Text) → List Row → ℕ → ℕ → Walk
at_rest pending rows skip position = record {
  held = record { rows = rows; pending = pending; skip = skip };
  waiting = idle;
  position = position;
  is_trailing = false;
  stopped = None;
}

-- with these rows, once the pending option is settled
pub record IsAtRest (c : List Rule) (rows : List Row) (w : Walk) : Type 0 where
  pub pending : Option (Text × List Text)
  pub held : List Row
  pub skip : ℕ
  pub position : ℕ
  pub is : w ≡ at_rest pending held skip position
  pub rows_are : settled_rows c pending held ≡ rows
  pub passes : settle_passes c false w.held ≡ true

abbrev met_walked : List Rule → Option Rule → Option Text → Text → Walk → Walk
met_walked c found value word w =
    let met = after_flag c idle word (long_met c found value w.held).0 (long_met c found value w.held).1 in
    after_step c word w met.0 met.1

abbrev long_walked : List Rule → Text × Option Text → Text → Walk → Walk
long_walked c p word w = met_walked c (arg_by_long c p.0) p.1 word w

module _ (c : List Rule) (pending : Option (Text × List Text)) (held : List Row) (skip position : ℕ) where
  abbrev here : Walk
  here = at_rest pending held skip position

  abbrev before : List Row
  before = settled_rows c pending held

  begin_walk : (x : ℕ) (rest : Text)
      → walked c [] here (codes "--" ++ x ∷ rest) ≡ long_walked c (name_and_value (x ∷ rest)) (codes "--" ++ x ∷ rest)
      here
  unfolding walked
  begin_walk x rest = refl

  used_fresh : (name : Text) (how : Reading) (values : List Text) (rows : List Row) → has_row name rows ≡ false
      → with_values name how CommandLine values (without name rows) ≡ rows ++ record
      { id = name; values = values; count = None; source = Some CommandLine; reading = how } ∷ []
  used_fresh name how values rows fresh =
      rw (fresh_row name (λ _. []) [] rows fresh, append-nil rows)
      (fresh_row name (more_values CommandLine values) _ rows fresh)

  joined_walk : (x : ℕ) (xs value : Text) → IsFree (x ∷ xs) → arg_by_long c (x ∷ xs) ≡ Some (built_option (x ∷ xs))
      → has_row (x ∷ xs) before ≡ false
      → walked c [] here (codes "--" ++ (x ∷ xs) ++ codes "=" ++ value) ≡ at_rest None
      (before ++ row_as (x ∷ xs) (Some value) ∷ []) skip position
  joined_walk x xs value free known fresh =
      let word : Text = codes "--" ++ x ∷ (xs ++ 61 ∷ value) in
      let cut : name_and_value (x ∷ (xs ++ 61 ∷ value)) ≡ (x ∷ xs, Some value) = cut_some (x ∷ xs) value free in
      ap (λ rest. walked c [] here (45 ∷ 45 ∷ x ∷ rest)) (append_assoc xs (61 ∷ []) value)
      ∙ begin_walk x (xs ++ 61 ∷ value) ∙ ap (λ p. long_walked c p word here) cut
      ∙ ap (λ o. met_walked c o (Some value) word here) known
      ∙ ap (λ rows. at_rest None rows skip position) (used_fresh (x ∷ xs) AsWritten (value ∷ []) before fresh)

  flag_walk : (x : ℕ) (xs : Text) → IsFree (x ∷ xs) → arg_by_long c (x ∷ xs) ≡ Some (built_flag (x ∷ xs))
      → has_row (x ∷ xs) before ≡ false
      → walked c [] here (codes "--" ++ x ∷ xs) ≡ at_rest None (before ++ row_as (x ∷ xs) None ∷ []) skip position
  flag_walk x xs free known fresh =
      let word = codes "--" ++ x ∷ xs in
      begin_walk x xs ∙ ap (λ p. long_walked c p word here) (cut_none (x ∷ xs) free)
      ∙ ap (λ o. met_walked c o None word here) known
      ∙ ap (λ rows. at_rest None rows skip position) (used_fresh (x ∷ xs) AsWritten (codes "true" ∷ []) before fresh)

  -- the walk after `--name`, which waits for the value
  abbrev waiting_for : Text → Walk
  waiting_for name = record here {
    held = record { rows = before; pending = Some (name, []); skip = skip };
    waiting = option name;
  }

  name_walk : (x : ℕ) (xs : Text) → IsFree (x ∷ xs) → arg_by_long c (x ∷ xs) ≡ Some (built_option (x ∷ xs))
      → walked c [] here (codes "--" ++ x ∷ xs) ≡ waiting_for (x ∷ xs)
  name_walk x xs free known =
      let word = codes "--" ++ x ∷ xs in
      begin_walk x xs ∙ ap (λ p. long_walked c p word here) (cut_none (x ∷ xs) free)
      ∙ ap (λ o. met_walked c o None word here) known

  same_text : (name : Text) → bytes_eq name name ≡ true
  same_text name = (bytes_eq-Decides name name).1 refl

  not_minus : (v : ℕ) (vs : Text) → is_value (v ∷ vs) ≡ true → (v == 45) ≡ false
  not_minus v vs h = not-true (v == 45) h

  value_walk : (name value : Text) → arg_by_id c name ≡ Some (built_option name) → is_value value ≡ true
      → walked c [] (waiting_for name) value ≡ at_rest (Some (name, value ∷ [])) before skip position
  unfolding walked
  value_walk name [] known is = absurd (true≢false (sym is))
  value_walk name (v ∷ vs) known is = let e = not_minus v vs is in rw e (rw e (rw (known, same_text name)))

-- the command, as it is built
abbrev pub built_shape : List Rule → Shape
built_shape rules = record (new_shape (codes "feed_tool")) {
  rules = rules;
  no_binary_name = true;
  disable_help_flag = true;
  disable_help_subcommand = true;
  is_built = true;
}

module _ (c : List Rule) (pending : Option (Text × List Text)) (held : List Row) (skip position : ℕ) where
  abbrev there : Walk
  there = at_rest pending held skip position

  abbrev rows_before : List Row
  rows_before = settled_rows c pending held

  abbrev met_passes : Option Rule → Option Text → Text → Bool
  met_passes found value word =
      let met = after_flag c idle word (long_met c found value there.held).0 (long_met c found value there.held).1 in
      long_passes c false found value there.held && step_passes (built_shape c) position met.0 met.1

  abbrev cut_passes : Text × Option Text → Text → Bool
  cut_passes p word = met_passes (arg_by_long c p.0) p.1 word

  begin_passes : (x : ℕ) (rest : Text)
      → turn_passes (built_shape c) [] there (codes "--" ++ x ∷ rest) ≡ cut_passes (name_and_value (x ∷ rest))
      (codes "--" ++ x ∷ rest)
  begin_passes x rest = refl

  joined_passes : (x : ℕ) (xs value : Text) → IsFree (x ∷ xs) → arg_by_long c (x ∷ xs) ≡ Some (built_option (x ∷ xs))
      → has_row (x ∷ xs) rows_before ≡ false → settle_passes c false there.held ≡ true
      → turn_passes (built_shape c) [] there (codes "--" ++ (x ∷ xs) ++ codes "=" ++ value) ≡ true
  joined_passes x xs value free known fresh settles =
      let word : Text = codes "--" ++ x ∷ (xs ++ 61 ∷ value) in
      let cut : name_and_value (x ∷ (xs ++ 61 ∷ value)) ≡ (x ∷ xs, Some value) = cut_some (x ∷ xs) value free in
      ap (λ rest. turn_passes (built_shape c) [] there (45 ∷ 45 ∷ x ∷ rest)) (append_assoc xs (61 ∷ []) value)
      ∙ begin_passes x (xs ++ 61 ∷ value) ∙ ap (λ p. cut_passes p word) cut
      ∙ ap (λ o. met_passes o (Some value) word) known
      ∙ rw (settles, fresh)

  flag_passes : (x : ℕ) (xs : Text) → IsFree (x ∷ xs) → arg_by_long c (x ∷ xs) ≡ Some (built_flag (x ∷ xs))
      → has_row (x ∷ xs) rows_before ≡ false → settle_passes c false there.held ≡ true
      → turn_passes (built_shape c) [] there (codes "--" ++ x ∷ xs) ≡ true
  flag_passes x xs free known fresh settles =
      let word : Text = codes "--" ++ x ∷ xs in
      begin_passes x xs ∙ ap (λ p. cut_passes p word) (cut_none (x ∷ xs) free)
      ∙ ap (λ o. met_passes o None word) known
      ∙ rw (settles, fresh)

  name_passes : (x : ℕ) (xs : Text) → IsFree (x ∷ xs) → arg_by_long c (x ∷ xs) ≡ Some (built_option (x ∷ xs))
      → settle_passes c false there.held ≡ true
      → turn_passes (built_shape c) [] there (codes "--" ++ x ∷ xs) ≡ true
  name_passes x xs free known settles =
      let word : Text = codes "--" ++ x ∷ xs in
      begin_passes x xs ∙ ap (λ p. cut_passes p word) (cut_none (x ∷ xs) free)
      ∙ ap (λ o. met_passes o None word) known
      ∙ rw settles

  value_passes : (name value : Text) → is_value value ≡ true
      → turn_passes (built_shape c) [] (waiting_for c pending held skip position name) value ≡ true
  value_passes name [] is = absurd (true≢false (sym is))
  value_passes name (v ∷ vs) is = let e = not_minus c pending held skip position v vs is in rw e (rw e refl)

-- ---- the rules

abbrev pub built_rules : List Text → List Text → List Rule
built_rules names flags = map built_option names ++ map built_flag flags

abbrev is_among : Text → List Text → Bool
is_among name names = list_any (λ known. bytes_eq known name) names

pub option_by_long : (names flags : List Text) (name : Text) → is_among name names ≡ true
    → arg_by_long (built_rules names flags) name ≡ Some (built_option name)
option_by_long [] flags name h = absurd (true≢false (sym h))
option_by_long (k ∷ ks) flags name h = elim (cases_Bool (bytes_eq k name)) [
  | inl same ↦ rw same (ap (λ n. Some (built_option n)) ((bytes_eq-Decides k name).0 same))
  | inr other ↦ rw other (option_by_long ks flags name (rw other at h))
]

pub option_by_id : (names flags : List Text) (name : Text) → is_among name names ≡ true
    → arg_by_id (built_rules names flags) name ≡ Some (built_option name)
option_by_id [] flags name h = absurd (true≢false (sym h))
option_by_id (k ∷ ks) flags name h = elim (cases_Bool (bytes_eq k name)) [
  | inl same ↦ rw same (ap (λ n. Some (built_option n)) ((bytes_eq-Decides k name).0 same))
  | inr other ↦ rw other (option_by_id ks flags name (rw other at h))
]

flag_in_flags : (flags : List Text) (name : Text) → is_among name flags ≡ true
    → arg_by_long (map built_flag flags) name ≡ Some (built_flag name)
flag_in_flags [] name h = absurd (true≢false (sym h))
flag_in_flags (k ∷ ks) name h = elim (cases_Bool (bytes_eq k name)) [
  | inl same ↦ rw same (ap (λ n. Some (built_flag n)) ((bytes_eq-Decides k name).0 same))
  | inr other ↦ rw other (flag_in_flags ks name (rw other at h))
]

among_more : (k : Text) (ks : List Text) (name : Text) → is_among name (k ∷ ks) ≡ false
    → (bytes_eq k name ≡ false) × (is_among name ks ≡ false)
among_more k ks name h = elim (cases_Bool (bytes_eq k name)) [
  | inl same ↦ absurd (let e = rw same at h in true≢false e)
  | inr other ↦ (other, rw other at h)
]

pub flag_by_long : (names flags : List Text) (name : Text) → is_among name names ≡ false → is_among name flags ≡ true
    → arg_by_long (built_rules names flags) name ≡ Some (built_flag name)
flag_by_long [] flags name out h = flag_in_flags flags name h
flag_by_long (k ∷ ks) flags name out h =
    let p = among_more k ks name out in rw p.0 (flag_by_long ks flags name p.1 h)

-- ---- all the options

abbrev name_of : Given → List ℕ
name_of given = given.name

has_row-is_given : (name : Text) (done : List Given) → has_row name (map option_row done) ≡ is_given name done
has_row-is_given name [] = refl
has_row-is_given name (x ∷ xs) = ap (λ b. bytes_eq x.name name || b) (has_row-is_given name xs)

middle : {X : Type 0} (P : X → Type 0) (xs : List X) (y : X) (ys : List X) → All P (xs ++ y ∷ ys) → P y
middle P [] y ys h = All-head P y ys h
middle P (x ∷ xs) y ys h = middle P xs y ys (All-tail P x (xs ++ y ∷ ys) h)

other_name : (one other : List ℕ) → one ≢ other → bytes_eq one other ≡ false
other_name one other ne = false_from_ne_true (bytes_eq one other) (λ e. ne ((bytes_eq-Decides one other).0 e))

fresh_of_distinct : (given : List Given) (next : Given) (more : List Given) →
    AreDistinct (map name_of (given ++ next ∷ more)) → is_given next.name given ≡ false
fresh_of_distinct [] next more h = refl
fresh_of_distinct (x ∷ xs) next more h =
    let ne : next.name ≢ x.name = middle (λ other. other ≢ x.name) (map name_of xs) next.name (map name_of more)
    (subst (All (λ other. other ≢ x.name)) (map-append name_of xs (next ∷ more)) h.0) in
    rw (other_name x.name next.name (λ e. ne (sym e))) (fresh_of_distinct xs next more h.1)

-- an option of these rules is found with this rule
abbrev IsFoundAs : List Rule → Text → Option Text → Type 0
IsFoundAs c name None = arg_by_long c name ≡ Some (built_flag name)
IsFoundAs c name (Some value) = IsTrue (is_value value)
    × (arg_by_long c name ≡ Some (built_option name)) × (arg_by_id c name ≡ Some (built_option name))

pub record IsFound (c : List Rule) (given : Given) : Type 0 where
  pub free : IsFree given.name
  pub some : given.name ≢ []
  pub found : IsFoundAs c given.name given.value

-- the words pass, and leave these rows
pub record Parses (c : List Rule) (rows : List Row) (w : Walk) (words : List Text) : Type 0 where
  pub passes : walk_passes (built_shape c) [] w words ≡ true
  pub ends : IsAtRest c rows (fold (walked c []) w words)

more_parses : (c : List Rule) (rows : List Row) (w next : Walk) (word : Text) (words : List Text)
    → turn_passes (built_shape c) [] w word ≡ true → walked c [] w word ≡ next → Parses c rows next words
    → Parses c rows w (word ∷ words)
unfolding walk_passes
more_parses c rows w next word words turn step h = record {
  passes = rw (turn, step) h.passes;
  ends = subst (λ v. IsAtRest c rows (fold (walked c []) v words)) (sym step) h.ends;
}

-- the rows that a walk at rest holds
pub record Holds (c : List Rule) (pending : Option (Text × List Text)) (held : List Row) (skip position : ℕ)
    (rows : List Row)
    : Type 0 where
  pub rows_are : settled_rows c pending held ≡ rows
  pub passes : settle_passes c false (at_rest pending held skip position).held ≡ true

-- one option, and then the words that follow it
one_parses : (c : List Rule) (name : Text) (value : Option Text) (joined : Bool) (words : List Text)
    (end rows : List Row)
    (pending : Option (Text × List Text)) (held : List Row) (skip position : ℕ)
    → IsFree name → name ≢ [] → IsFoundAs c name value → has_row name rows ≡ false
    → Holds c pending held skip position rows
    → ((pending : Option (Text × List Text)) (held : List Row) (skip position : ℕ)
    → Holds c pending held skip position (rows ++ row_as name value ∷ [])
    → Parses c end (at_rest pending held skip position) words)
    → Parses c end (at_rest pending held skip position) (spelled_as name value joined ++ words)
one_parses c [] value joined words end rows pending held skip position free some found fresh h go = absurd (some refl)
one_parses c (x ∷ xs) None joined words end rows pending held skip position free some found fresh h go =
    let clean : has_row (x ∷ xs) (settled_rows c pending held) ≡ false = rw h.rows_are fresh in
    let row = row_as (x ∷ xs) None in
    more_parses c end (at_rest pending held skip position)
    (at_rest None (settled_rows c pending held ++ row ∷ []) skip position) _ words
    (flag_passes c pending held skip position x xs free found clean h.passes)
    (flag_walk c pending held skip position x xs free found clean)
    (go None (settled_rows c pending held ++ row ∷ []) skip position
    (record { rows_are = ap (λ r. r ++ row ∷ []) h.rows_are; passes = refl }))
one_parses c (x ∷ xs) (Some value) true words end rows pending held skip position free some found fresh h go =
    let clean : has_row (x ∷ xs) (settled_rows c pending held) ≡ false = rw h.rows_are fresh in
    let row = row_as (x ∷ xs) (Some value) in
    more_parses c end (at_rest pending held skip position)
    (at_rest None (settled_rows c pending held ++ row ∷ []) skip position) _ words
    (joined_passes c pending held skip position x xs value free found.1 clean h.passes)
    (joined_walk c pending held skip position x xs value free found.1 clean)
    (go None (settled_rows c pending held ++ row ∷ []) skip position
    (record { rows_are = ap (λ r. r ++ row ∷ []) h.rows_are; passes = refl }))
one_parses c (x ∷ xs) (Some value) false words end rows pending held skip position free some found fresh h go =
    let before = settled_rows c pending held in
    let clean : has_row (x ∷ xs) before ≡ false = rw h.rows_are fresh in
    let row = row_as (x ∷ xs) (Some value) in
    let put : used (built_option (x ∷ xs)) (value ∷ []) before ≡ before ++ row ∷ [] = used_fresh c pending held skip
    position (x ∷ xs) AsWritten (value ∷ []) before clean in
    more_parses c end (at_rest pending held skip position) (waiting_for c pending held skip position (x ∷ xs)) _
    (value ∷ words)
    (name_passes c pending held skip position x xs free found.1 h.passes)
    (name_walk c pending held skip position x xs free found.1)
    (more_parses c end (waiting_for c pending held skip position (x ∷ xs))
    (at_rest (Some (x ∷ xs, value ∷ [])) before skip position) value words
    (value_passes c pending held skip position (x ∷ xs) value found.0)
    (value_walk c pending held skip position (x ∷ xs) value found.2 found.0)
    (go (Some (x ∷ xs, value ∷ [])) before skip position
    (record { rows_are = rw found.2 (put ∙ ap (λ r. r ++ row ∷ []) h.rows_are); passes = rw (found.2, clean) })))

-- the options after those that are done
all_parse : (c : List Rule) (options done : List Given)
    (pending : Option (Text × List Text)) (held : List Row) (skip position : ℕ)
    → All (IsFound c) options → AreDistinct (map name_of (done ++ options))
    → Holds c pending held skip position (map option_row done)
    → Parses c (map option_row (done ++ options)) (at_rest pending held skip position) (flat_map spelled options)
unfolding walk_passes
all_parse c [] done pending held skip position found distinct h = record {
  passes = refl;
  ends = record {
    pending = pending;
    held = held;
    skip = skip;
    position = position;
    is = refl;
    rows_are = rw append-nil h.rows_are;
    passes = h.passes;
  };
}
all_parse c (o ∷ os) done pending held skip position found distinct h =
    let mine : IsFound c o = All-head (IsFound c) o os found in
    let fresh : has_row o.name (map option_row done) ≡ false = has_row-is_given o.name done
    ∙ fresh_of_distinct done o os distinct in
    let shift : (done ++ o ∷ []) ++ os ≡ done ++ o ∷ os = append_assoc done (o ∷ []) os in
    one_parses c o.name o.value o.joined (flat_map spelled os) (map option_row (done ++ o ∷ os)) (map option_row done)
    pending held skip position mine.free mine.some mine.found fresh h
    (λ pending' held' skip' position' h'.
    subst (λ all. Parses c (map option_row all) (at_rest pending' held' skip' position') (flat_map spelled os)) shift
    (all_parse c os (done ++ o ∷ []) pending' held' skip' position' (All-tail (IsFound c) o os found)
    (subst (λ all. AreDistinct (map name_of all)) (sym shift) distinct)
    (record { rows_are = h'.rows_are ∙ sym (map-append option_row done (o ∷ [])); passes = h'.passes })))

-- ---- the command

flags_filled : (i : ℕ) (flags : List Text) → filled_from i (map flag_rule flags) ≡ map built_flag flags
flags_filled i [] = refl
flags_filled i (x ∷ xs) = ap (λ more. built_flag x ∷ more) (flags_filled i xs)

rules_filled : (i : ℕ) (names flags : List Text)
    → filled_from i ((map option_rule names ++ map flag_rule flags)) ≡ built_rules names flags
rules_filled i [] flags = flags_filled i flags
rules_filled i (x ∷ xs) flags = ap (λ more. built_option x ∷ more) (rules_filled i xs flags)

abbrev pub built_app : List Rule → App
built_app c = record { top = built_shape c; subs = [] }

is_built : (names flags : List Text) → built (options_app names flags) ≡ built_app (built_rules names flags)
is_built names flags = ap built_app (rules_filled 1 names flags)

-- a test that each rule passes
all_rules : (p : Rule → Bool) (f g : Text → Rule) → ((name : Text) → p (f name) ≡ true)
    → ((name : Text) → p (g name) ≡ true)
    → (names flags : List Text) → list_all p (map f names ++ map g flags) ≡ true
all_rules p f g hf hg [] [] = refl
all_rules p f g hf hg [] (x ∷ xs) = rw hg (all_rules p f g hf hg [] xs)
all_rules p f g hf hg (x ∷ xs) flags = rw hf (all_rules p f g hf hg xs flags)

no_rules : (p : Rule → Bool) (f g : Text → Rule) → ((name : Text) → p (f name) ≡ false)
    → ((name : Text) → p (g name) ≡ false)
    → (names flags : List Text) → list_any p (map f names ++ map g flags) ≡ false
no_rules p f g hf hg [] [] = refl
no_rules p f g hf hg [] (x ∷ xs) = rw hg (no_rules p f g hf hg [] xs)
no_rules p f g hf hg (x ∷ xs) flags = rw hf (no_rules p f g hf hg xs flags)

is_simple_app : (names flags : List Text) → is_simple (options_app names flags) ≡ true
is_simple_app names flags =
    let given : list_all (λ (a : Rule). a.is_simple) ((map option_rule names ++ map flag_rule flags)) ≡ true =
    all_rules (λ a. a.is_simple) option_rule flag_rule (λ _. refl) (λ _. refl) names flags in
    let after : list_all (λ (a : Rule). a.is_simple) (built_rules names flags) ≡ true =
    all_rules (λ a. a.is_simple) built_option built_flag (λ _. refl) (λ _. refl) names flags in
    let ordered : list_any (is_early_multiple (count_by (λ (a : Rule). is_some a.index) (built_rules names flags)))
    (built_rules names flags) ≡ false =
    no_rules (is_early_multiple (count_by (λ (a : Rule). is_some a.index) (built_rules names flags))) built_option
    built_flag (λ _. refl) (λ _. refl) names flags in
    rw (rules_filled 1 names flags, given, after, ordered)

-- the tests after the walk
abbrev pub rest_passes : List Rule → Walk → Bool
rest_passes c w =
    let a = built_app c in
    entered_passes a w.stopped && (settle_passes c false w.held && (list_all default_passes c
    && is_valid a.top (finished c w.held) (is_some (entered a w.stopped))))

pub swap_and : (a b c : Bool) → b ≡ true → (a && c) ≡ true → (a && (b && c)) ≡ true
swap_and a true c _ h = h
swap_and a false c h k = absurd (true≢false (sym h))

ends_pass : (names flags : List Text) (rows : List Row) (w : Walk) → IsAtRest (built_rules names flags) rows w
    → rest_passes (built_rules names flags) w ≡ true
ends_pass names flags rows w e =
    let c = built_rules names flags in
    let end = at_rest e.pending e.held e.skip e.position in
    let settles : settle_passes c false end.held ≡ true = subst (λ (v : Walk). settle_passes c false v.held ≡ true)
    e.is e.passes in
    let defaults : list_all default_passes c ≡ true = all_rules default_passes built_option built_flag (λ _. refl)
    (λ _. refl) names flags in
    let free : list_all (λ (a : Rule). a.is_free) c ≡ true = all_rules (λ a. a.is_free) built_option built_flag
    (λ _. refl) (λ _. refl) names flags in
    let needed : list_all (λ (a : Rule). not a.required || is_present a.id (finished c end.held)) c ≡ true =
    all_rules (λ a. not a.required || is_present a.id (finished c end.held)) built_option built_flag (λ _. refl)
    (λ _. refl) names flags in
    ap (rest_passes c) e.is ∙ rw (settles, defaults, free, needed)

pub taken : (names flags : List Text) (rows : List Row) (words : List Text)
    → Parses (built_rules names flags) rows (walk_from nothing_held) words
    → takes (options_app names flags) words ≡ true
taken names flags rows words h =
    let c = built_rules names flags in
    let a = built_app c in
    let w = fold (walked c []) (walk_from nothing_held) words in
    ap₂ (λ b app. b && built_takes app nothing_held words) (is_simple_app names flags) (is_built names flags)
    ∙ swap_and (entered_passes a w.stopped) (walk_passes (built_shape c) [] (walk_from nothing_held) words) _ h.passes
    (ends_pass names flags rows w h.ends)

-- the rows of the options, and then the defaults of the flags that aren't given
pub matched : (names flags : List Text) (rows : List Row) (words : List Text)
    → Parses (built_rules names flags) rows (walk_from nothing_held) words
    → matches_of (options_app names flags) words ≡ fold with_default rows (built_rules names flags)
matched names flags rows words h =
    let c = built_rules names flags in
    ap (λ (app : App). rows_after app.top.rules (names_of app) words) (is_built names flags)
    ∙ ap (λ (w : Walk). finished c w.held) h.ends.is
    ∙ ap (λ r. fold with_default r c) h.ends.rows_are

-- ---- the getters

abbrev has_name : Text → Row → Bool
has_name name r = bytes_eq r.id name

same_bytes : (name : Text) → bytes_eq name name ≡ true
same_bytes name = (bytes_eq-Decides name name).1 refl

or_none : {X : Type 0} (o : Option X) → option_or o None ≡ o
or_none None = refl
or_none (Some x) = refl

option_adds : (rows : List Row) (k : Text) → with_default rows (built_option k) ≡ rows
option_adds rows k = elim (cases_Bool (has_row k rows)) [
  | inl there ↦ rw there
  | inr none ↦ rw none
]

has_row-find : (name : Text) (rows : List Row) → has_row name rows ≡ is_some (find (has_name name) rows)
has_row-find name [] = refl
has_row-find name (r ∷ rs) = elim (cases_Bool (bytes_eq r.id name)) [
  | inl same ↦ rw same
  | inr other ↦ rw other (has_row-find name rs)
]

abbrev unset_row : Text → Row
unset_row name = record {
  id = name;
  values = codes "false" ∷ [];
  count = None;
  source = Some DefaultValue;
  reading = AsWritten;
}

flag_adds : (rows : List Row) (k : Text) → has_row k rows ≡ false
    → with_default rows (built_flag k) ≡ rows ++ unset_row k ∷ []
flag_adds rows k none = rw none (fresh_row k (more_values DefaultValue (codes "false" ∷ [])) (unset_row k ∷ []) rows
    none)

-- a row that is found stays found
found_stays : (name k : Text) (rows : List Row) (r : Row) → find (has_name name) rows ≡ Some r
    → find (has_name name) (with_default rows (built_flag k)) ≡ Some r
found_stays name k rows r h = elim (cases_Bool (has_row k rows)) [
  | inl there ↦ rw there h
  | inr none ↦ ap (find (has_name name)) (flag_adds rows k none) ∙ find-append (has_name name) rows (unset_row k ∷ [])
      ∙ rw h
]

-- another flag adds nothing of the name
other_adds : (name k : Text) (rows : List Row) → bytes_eq k name ≡ false
    → find (has_name name) (with_default rows (built_flag k)) ≡ find (has_name name) rows
other_adds name k rows other = elim (cases_Bool (has_row k rows)) [
  | inl there ↦ rw there
  | inr none ↦ ap (find (has_name name)) (flag_adds rows k none) ∙ find-append (has_name name) rows (unset_row k ∷ [])
      ∙ rw other (or_none (find (has_name name) rows))
]

options_keep : (names : List Text) (cs : List Rule) (rows : List Row)
    → fold with_default rows (map built_option names ++ cs) ≡ fold with_default rows cs
options_keep [] cs rows = refl
options_keep (k ∷ ks) cs rows = ap (λ r. fold with_default r (map built_option ks ++ cs)) (option_adds rows k)
    ∙ options_keep ks cs rows

fold_found : (name : Text) (flags : List Text) (rows : List Row) (r : Row) → find (has_name name) rows ≡ Some r
    → find (has_name name) (fold with_default rows (map built_flag flags)) ≡ Some r
fold_found name [] rows r h = h
fold_found name (k ∷ ks) rows r h = fold_found name ks (with_default rows (built_flag k)) r
    (found_stays name k rows r h)

fold_other : (name : Text) (flags : List Text) (rows : List Row) → is_among name flags ≡ false
    → find (has_name name) (fold with_default rows (map built_flag flags)) ≡ find (has_name name) rows
fold_other name [] rows out = refl
fold_other name (k ∷ ks) rows out =
    let p = among_more k ks name out in
    fold_other name ks (with_default rows (built_flag k)) p.1 ∙ other_adds name k rows p.0

unset_found : (name : Text) (rows : List Row) → find (has_name name) rows ≡ None
    → find (has_name name) (with_default rows (built_flag name)) ≡ Some (unset_row name)
unset_found name rows none =
    let out : has_row name rows ≡ false = has_row-find name rows ∙ ap is_some none in
    ap (find (has_name name)) (flag_adds rows name out) ∙ find-append (has_name name) rows (unset_row name ∷ [])
    ∙ rw (none, same_bytes name)

fold_unset : (name : Text) (flags : List Text) (rows : List Row) → is_among name flags ≡ true
    → find (has_name name) rows ≡ None
    → find (has_name name) (fold with_default rows (map built_flag flags)) ≡ Some (unset_row name)
fold_unset name [] rows among none = absurd (true≢false (sym among))
fold_unset name (k ∷ ks) rows among none = elim (cases_Bool (bytes_eq k name)) [
  | inl same ↦
      fold_found name ks (with_default rows (built_flag k)) (unset_row name)
      (subst (λ n. find (has_name name) (with_default rows (built_flag n)) ≡ Some (unset_row name))
      (sym ((bytes_eq-Decides k name).0 same)) (unset_found name rows none))
  | inr other ↦ fold_unset name ks (with_default rows (built_flag k)) (rw other at among)
      (other_adds name k rows other ∙ none)
]

-- ---- the values

among_of : (names : List Text) (name : Text) → Any (λ known. known ≡ name) names → is_among name names ≡ true
among_of names name (k, known, inside, at, same) =
    list_any-from_Any (λ known. bytes_eq known name) names
    (k, known, inside, at, (bytes_eq-Decides known name).1 same)

-- no name of an option is a flag's
abbrev AreApart : List Text → List Text → Type 0
AreApart names flags = (name : Text) → is_among name names ≡ true → is_among name flags ≡ false

value_here : (names flags : List Text) (name : Text) (value : Option Text) → is_among name flags ≡ false
    → IsKnownAs names flags name value
    → Some (unwrap_or value (codes "true")) ≡ value
value_here names flags name None out known = absurd (true≢false (sym (among_of flags name known) ∙ out))
value_here names flags name (Some v) out known = refl

first_given : (names flags : List Text) (name : Text) (options : List Given) → is_among name flags ≡ false
    → All (IsKnown names flags) options
    → first_of name (map option_row options) ≡ value_of name options
first_given names flags name [] out known = refl
first_given names flags name (x ∷ xs) out known = elim (cases_Bool (bytes_eq x.name name)) [
  | inl same ↦ rw same (value_here names flags x.name x.value
      (subst (λ n. is_among n flags ≡ false) (sym ((bytes_eq-Decides x.name name).0 same)) out)
      (All-head (IsKnown names flags) x xs known))
  | inr other ↦ rw other (first_given names flags name xs out (All-tail (IsKnown names flags) x xs known))
]

pub value_is : (names flags : List Text) (name : Text) (options : List Given) → is_among name flags ≡ false
    → All (IsKnown names flags) options
    → first_of name (fold with_default (map option_row options) (built_rules names flags)) ≡ value_of name options
value_is names flags name options out known =
    ap (first_of name) (options_keep names (map built_flag flags) (map option_row options))
    ∙ ap (option_and_then (λ (r : Row). slice_get r.values 0)) (fold_other name flags (map option_row options) out)
    ∙ first_given names flags name options out known

flag_here : (names flags : List Text) (name : Text) (value : Option Text) → is_among name names ≡ false
    → IsKnownAs names flags name value
    → value ≡ None
flag_here names flags name None out known = refl
flag_here names flags name (Some v) out known = absurd (true≢false (sym (among_of names name known.1) ∙ out))

flag_given : (names flags : List Text) (name : Text) (options : List Given) → is_among name names ≡ false
    → All (IsKnown names flags) options
    → find (has_name name) (map option_row options) ≡ if is_given name options then Some (row_as name None) else None
flag_given names flags name [] out known = refl
flag_given names flags name (x ∷ xs) out known = elim (cases_Bool (bytes_eq x.name name)) [
  | inl same ↦
      let is : x.name ≡ name = (bytes_eq-Decides x.name name).0 same in
      rw same (ap₂ (λ n v. Some (row_as n v)) is
      (flag_here names flags x.name x.value (subst (λ n. is_among n names ≡ false) (sym is) out)
      (All-head (IsKnown names flags) x xs known)))
  | inr other ↦ rw other (flag_given names flags name xs out (All-tail (IsKnown names flags) x xs known))
]

pub flag_is : (names flags : List Text) (name : Text) (options : List Given) → is_among name names ≡ false
    → is_among name flags ≡ true
    → All (IsKnown names flags) options
    → one_of name (fold with_default (map option_row options) (built_rules names flags))
    ≡ Some (if is_given name options then codes "true" else codes "false")
flag_is names flags name options out among known =
    ap (one_of name) (options_keep names (map built_flag flags) (map option_row options))
    ∙ go (is_given name options) (flag_given names flags name options out known)
  where
    go : (b : Bool) → find (has_name name) (map option_row options) ≡ if b then Some (row_as name None) else None
        → one_of name (fold with_default (map option_row options) (map built_flag flags))
        ≡ Some (if b then codes "true" else codes "false")
    go true h = ap (option_and_then row_text) (fold_found name flags (map option_row options) (row_as name None) h)
    go false h = ap (option_and_then row_text) (fold_unset name flags (map option_row options) among h)

-- ---- words of the grammar

name_apart : (names flags : List Text) → IsTrue (are_apart names flags) → AreApart names flags
name_apart names flags h name among =
    let (k, known, inside, at, same) = Any-from_list_any (λ known. bytes_eq known name) names among in
    let at_place : not (is_among (get_or names k known) flags) ≡ true =
    AllPass-from_list_all (λ n. not (is_among n flags)) names h k known inside in
    let is : get_or names k known ≡ name = at ∙ (bytes_eq-Decides known name).0 same in
    not-true (is_among name flags) (rw is at at_place)

flag_apart : (names flags : List Text) → IsTrue (are_apart names flags) → (name : Text) → is_among name flags ≡ true
    → is_among name names ≡ false
flag_apart names flags h name among =
    false_from_ne_true (is_among name names) (λ listed. true≢false (sym among ∙ name_apart names flags h name listed))

found_as : (names flags : List Text) (name : Text) (value : Option Text) → IsTrue (are_apart names flags)
    → IsKnownAs names flags name value
    → IsFoundAs (built_rules names flags) name value
found_as names flags name None h known =
    let among = among_of flags name known in flag_by_long names flags name (flag_apart names flags h name among) among
found_as names flags name (Some value) h known =
    let among = among_of names name known.1 in
    (known.0, option_by_long names flags name among, option_by_id names flags name among)

is_named : (names flags : List Text) (name : Text) (value : Option Text) → IsTrue (can_be_read names flags)
    → IsKnownAs names flags name value
    → is_name name ≡ true
is_named names flags name None can known =
    let fronts = both (are_names names && are_names flags) (are_apart names flags) can in
    listed_name flags name (both (are_names names) (are_names flags) fronts.0).1 known
is_named names flags name (Some value) can known =
    let fronts = both (are_names names && are_names flags) (are_apart names flags) can in
    listed_name names name (both (are_names names) (are_names flags) fronts.0).0 known.1

not_empty : (name : Text) → is_name name ≡ true → name ≢ []
not_empty [] h e = true≢false (sym h)
not_empty (c ∷ more) h e = cc

listed : (names : List Text) (i : ℕ) (d : Text) → i < length names → is_among (get_or names i d) names ≡ true
listed names i d lt =
    among_of names (get_or names i d) (i, get_or names i d, lt, get_or_default names i (get_or names i d) d lt, refl)

module _ (names flags words : List Text) (options : List Given) (can : IsTrue (can_be_read names flags))
    (are : AreOptions names flags words options) where
  apart_is : IsTrue (are_apart names flags)
  apart_is = (both (are_names names && are_names flags) (are_apart names flags) can).1

  all_found : All (IsFound (built_rules names flags)) options
  all_found i d lt =
      let given = get_or options i d in
      let named = is_named names flags given.name given.value can (are.known i d lt) in
      record {
        free = free_of_name given.name named;
        some = not_empty given.name named;
        found = found_as names flags given.name given.value apart_is (are.known i d lt);
      }

  they_parse : Parses (built_rules names flags) (map option_row options) (walk_from nothing_held) words
  they_parse =
      subst (Parses (built_rules names flags) (map option_row options) (walk_from nothing_held)) (sym are.words_are)
      (all_parse (built_rules names flags) options [] None [] 0 1 all_found are.distinct
      (record { rows_are = refl; passes = refl }))

  pub are_taken : (app : App) → app ≡ options_app names flags → takes app words ≡ true
  are_taken app is = ap (λ a. takes a words) is ∙ taken names flags (map option_row options) words they_parse

  pub they_match : (app : App) (m : ArgMatches) → app ≡ options_app names flags → HasMatchesOf app words m
      → Match names flags options m
  they_match app m is has =
      let rows : rows_of (found_of m) ≡ fold with_default (map option_row options) (built_rules names flags) =
      (has (ap is_simple is ∙ is_simple_app names flags)).0 ∙ ap (λ a. matches_of a words) is
      ∙ matched names flags (map option_row options) words they_parse in
      record {
        values = λ i d lt.
            let name = get_or names i d in
            first_value-rows (found_of m) name ∙ ap (first_of name) rows
            ∙ value_is names flags name options (name_apart names flags apart_is name (listed names i d lt))
            are.known;
        flags_are = λ i d lt.
            let name = get_or flags i d in
            let among = listed flags i d lt in
            one_text-rows (found_of m) name ∙ ap (one_of name) rows
            ∙ flag_is names flags name options (flag_apart names flags apart_is name among) among are.known;
      }

-- the options that a parse of words of the grammar finds
pub matches_found : (names flags words : List Text) → IsTrue (can_be_read names flags) → SpellOptions names flags words
    → (app : App) (r : Result ArgMatches WordsFault) → app ≡ options_app names flags → IfOk r (HasMatchesOf app words)
    → IfOk r (λ m. (options : List Given) × AreOptions names flags words options × Match names flags options m)
matches_found names flags words can (options, are) app (Ok m) is has =
    (options, are, they_match names flags words options can are app m is has)
matches_found names flags words can (options, are) app (Err fault) is has = tt

-- words of the grammar are refused for want of memory only
pub matches_only : (names flags words : List Text) → IsTrue (can_be_read names flags) → (options : List Given)
    → AreOptions names flags words options → (app : App) (r : Result ArgMatches WordsFault)
    → app ≡ options_app names flags → IfOk r (HasMatchesOf app words)
    → (takes app words ≡ true → IfErr r (λ fault. fault ≡ NoMemory))
    → MatchResult r (Match names flags options) (λ fault. fault ≡ NoMemory)
matches_only names flags words can options are app (Ok m) is has memory =
    they_match names flags words options can are app m is has
matches_only names flags words can options are app (Err fault) is has memory =
    memory (are_taken names flags words options can are app is)

-- ---- words spell options in one way

-- the rows of the options that words spell
same_rows : (names flags words : List Text) → IsTrue (can_be_read names flags) → (one other : List Given)
    → AreOptions names flags words one → AreOptions names flags words other
    → fold with_default (map option_row one) (built_rules names flags)
    ≡ fold with_default (map option_row other) (built_rules names flags)
same_rows names flags words can one other x y =
    sym (matched names flags (map option_row one) words (they_parse names flags words one can x))
    ∙ matched names flags (map option_row other) words (they_parse names flags words other can y)

pub one_value : (names flags words : List Text) → IsTrue (can_be_read names flags) → (one other : List Given)
    → AreOptions names flags words one → AreOptions names flags words other
    → All (λ name. value_of name one ≡ value_of name other) names
one_value names flags words can one other x y = λ i d lt.
    let name = get_or names i d in
    let out = name_apart names flags (apart_is names flags words one can x) name (listed names i d lt) in
    sym (value_is names flags name one out x.known)
    ∙ ap (first_of name) (same_rows names flags words can one other x y)
    ∙ value_is names flags name other out y.known

true_apart : Some (codes "true") ≡ Some (codes "false") → ⊥
true_apart e =
    let same : codes "true" ≡ codes "false" = cc in
    true≢false (sym ((bytes_eq-Decides (codes "true") (codes "false")).1 same))

one_flag_text : (a b : Bool) → Some (if a then codes "true" else codes "false")
    ≡ Some (if b then codes "true" else codes "false")
    → a ≡ b
one_flag_text true true e = refl
one_flag_text true false e = absurd (true_apart e)
one_flag_text false true e = absurd (true_apart (sym e))
one_flag_text false false e = refl

pub one_flag : (names flags words : List Text) → IsTrue (can_be_read names flags) → (one other : List Given)
    → AreOptions names flags words one → AreOptions names flags words other
    → All (λ name. is_given name one ≡ is_given name other) flags
one_flag names flags words can one other x y = λ i d lt.
    let name = get_or flags i d in
    let among = listed flags i d lt in
    let out = flag_apart names flags (apart_is names flags words one can x) name among in
    one_flag_text (is_given name one) (is_given name other)
    (sym (flag_is names flags name one out among x.known)
    ∙ ap (one_of name) (same_rows names flags words can one other x y)
    ∙ flag_is names flags name other out among y.known)
