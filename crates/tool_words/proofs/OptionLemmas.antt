-- Words spell at most one list of options.
use Rattle.std.proofs.Common.{◌≡◌, ◌≢◌, inl, inr, ℕ, List, [], ◌∷◌, ◌++◌, All, Any, Bool, true, false, not, ◌==◌}
use Rattle.std.proofs.Common.{Option, None, Some, IsTrue, map, get_or, bytes_eq, refl, sym, ap, ◌∙◌, subst}
use Rattle.std.proofs.Common.{append_assoc}
use Rattle.std.proofs.Common.{append-nil, arith, zero, suc, ◌⊎◌}
use Rattle.std.specs.Prelude.{◌&&◌, flat_map}
use Rattle.std.specs.List.{list_any}
use Rattle.std.proofs.lemmas.Grind.{flat_map-append}
use Rattle.std.proofs.lemmas.List.{map-append}
use Rattle.std.proofs.lemmas.List.Elements.{All-nil, All-head, All-tail, All-push}
use Rattle.std.proofs.lemmas.List.Folds.{list_any-from_Any}
use Rattle.std.proofs.lemmas.List.Sums.{AllPass-from_list_all}
use Rattle.std.proofs.lemmas.Slice.Eq.{bytes_eq-Decides}
use Rattle.std.proofs.lemmas.Bool.{not-true, true≢false}
use Rattle.tool_words.specs.Options.{Given, AreDistinct, AreOptions, IsKnown, IsKnownAs, spelled, spelled_as}
use Rattle.tool_words.specs.Reading.{BeginsWith, IsFormAs, IsOfForm, MayFollow, SpellOptions, apart, are_apart}
use Rattle.tool_words.specs.Reading.{are_names, can_be_read, is_name}

abbrev name_of : Given → List ℕ
name_of given = given.name

-- the words begin with options of these names; the rest comes after them
pub record AreBegun (names flags words seen rest : List (List ℕ)) : Type 0 where
  pub options : List Given
  pub spelt : words ≡ flat_map spelled options ++ rest
  pub same : map name_of options ≡ seen
  pub known : All (IsKnown names flags) options
  pub distinct : AreDistinct (map name_of options)

-- the rest are all the options but for those of these names
pub record IsLeft (seen rest : List (List ℕ)) (all : List Given) : Type 0 where
  pub done : List Given
  pub left : List Given
  pub whole : all ≡ done ++ left
  pub same : map name_of done ≡ seen
  pub spelt : rest ≡ flat_map spelled left

-- the next of all the options
pub record IsNext (names flags seen rest : List (List ℕ)) (all : List Given) : Type 0 where
  pub done : List Given
  pub option : Given
  pub left : List Given
  pub whole : all ≡ done ++ option ∷ left
  pub same : map name_of done ≡ seen
  pub spelt : rest ≡ spelled option ++ flat_map spelled left
  pub free : All (λ c. c ≢ 61) option.name
  pub form : IsOfForm flags option
  pub may : MayFollow names flags seen (apart option)

Any-here : {X : Type 0} (P : X → Type 0) (x : X) (xs : List X) → P x → Any P (x ∷ xs)
Any-here P x xs p = (0, x, omega arith, refl, p)

Any-there : {X : Type 0} (P : X → Type 0) (x : X) (xs : List X) → Any P xs → Any P (x ∷ xs)
Any-there P x xs (k, y, inside, at, p) = (suc k, y, omega (arith, inside), at, p)

Any-cases : {X : Type 0} (P : X → Type 0) (x : X) (xs : List X) → Any P (x ∷ xs) → P x ⊎ Any P xs
Any-cases P x xs (zero, y, inside, at, p) = inl (subst P (sym at) p)
Any-cases P x xs (suc k, y, inside, at, p) = inr (k, y, omega (arith, inside), at, p)

middle : {X : Type 0} (P : X → Type 0) (xs : List X) (y : X) (ys : List X) → All P (xs ++ y ∷ ys) → P y
middle P [] y ys h = All-head P y ys h
middle P (x ∷ xs) y ys h = middle P xs y ys (All-tail P x (xs ++ y ∷ ys) h)

not_equal : (c : ℕ) → not (c == 61) ≡ true → c ≢ 61
not_equal c h e = let k = rw e at h in cc

pub both : (a b : Bool) → (a && b) ≡ true → (a ≡ true) × (b ≡ true)
both true b h = (refl, h)
both false b h = absurd (true≢false (sym h))

pub free_of_name : (name : List ℕ) → is_name name ≡ true → All (λ c. c ≢ 61) name
free_of_name [] h = absurd (true≢false (sym h))
free_of_name (c ∷ more) h =
    λ i d within.
    not_equal (get_or (c ∷ more) i d) (AllPass-from_list_all (λ c. not (c == 61)) (c ∷ more) h i d within)

-- each name may be read
pub listed_name : (names : List (List ℕ)) (name : List ℕ) → IsTrue (are_names names) →
    Any (λ known. known ≡ name) names → is_name name ≡ true
listed_name names name all (k, known, inside, at, same) =
    let at_place : is_name (get_or names k known) ≡ true = AllPass-from_list_all is_name names all k known inside in
    rw (at, same) at at_place

listed_free : (names : List (List ℕ)) (name : List ℕ) → IsTrue (are_names names) →
    Any (λ known. known ≡ name) names → All (λ c. c ≢ 61) name
listed_free names name all listed = free_of_name name (listed_name names name all listed)

known_free : (names flags : List (List ℕ)) (name : List ℕ) (value : Option (List ℕ)) →
    IsTrue (can_be_read names flags) → IsKnownAs names flags name value → All (λ c. c ≢ 61) name
known_free names flags name None can known =
    let fronts = both (are_names names && are_names flags) (are_apart names flags) can in
    listed_free flags name (both (are_names names) (are_names flags) fronts.0).1 known
known_free names flags name (Some value) can known =
    let fronts = both (are_names names && are_names flags) (are_apart names flags) can in
    listed_free names name (both (are_names names) (are_names flags) fronts.0).0 known.1

-- the name of an option is no flag's
not_flag : (names flags : List (List ℕ)) (name : List ℕ) → IsTrue (are_apart names flags) →
    Any (λ known. known ≡ name) names → Any (λ flag. flag ≡ name) flags → ⊥
not_flag names flags name free (k, known, inside, at, same) (i, flag, within, there, e) =
    let at_place : not (list_any (λ f. bytes_eq f (get_or names k known)) flags) ≡ true =
    AllPass-from_list_all (λ n. not (list_any (λ f. bytes_eq f n) flags)) names free k known inside in
    let none : list_any (λ f. bytes_eq f name) flags ≡ false =
    not-true (list_any (λ f. bytes_eq f name) flags) (rw (at, same) at at_place) in
    true≢false (sym (list_any-from_Any (λ f. bytes_eq f name) flags
    (i, flag, within, there, (bytes_eq-Decides flag name).1 e)) ∙ none)

form_of_known : (names flags : List (List ℕ)) (name : List ℕ) (value : Option (List ℕ)) →
    IsTrue (can_be_read names flags) → IsKnownAs names flags name value → IsFormAs flags name value
form_of_known names flags name None can known = known
form_of_known names flags name (Some value) can known =
    not_flag names flags name (both (are_names names && are_names flags) (are_apart names flags) can).1 known.1

-- an option's name is none of those before it
fresh_of_distinct : (done : List Given) (next : Given) (more : List Given) →
    AreDistinct (map name_of (done ++ next ∷ more)) → Any (λ name. name ≡ next.name) (map name_of done) → ⊥
fresh_of_distinct [] next more h (k, name, inside, at, same) = absurd (omega (arith, inside))
fresh_of_distinct (x ∷ xs) next more h seen = elim (Any-cases (λ name. name ≡ next.name) x.name (map name_of xs) seen) [
  | inl same ↦
      middle (λ other. other ≢ x.name) (map name_of xs) next.name (map name_of more)
      (subst (All (λ other. other ≢ x.name)) (map-append name_of xs (next ∷ more)) h.0) (sym same)
  | inr later ↦ fresh_of_distinct xs next more h.1 later
]

distinct_push : (done : List Given) (next : Given) → AreDistinct (map name_of done) →
    ¬ Any (λ name. name ≡ next.name) (map name_of done) → AreDistinct (map name_of (done ++ next ∷ []))
distinct_push [] next h fresh = (All-nil (λ other. other ≢ next.name), tt)
distinct_push (x ∷ xs) next h fresh = (
  subst (All (λ other. other ≢ x.name)) (sym (map-append name_of xs (next ∷ [])))
      (All-push (λ other. other ≢ x.name) (map name_of xs) next.name h.0
      (λ e. fresh (Any-here (λ name. name ≡ next.name) x.name (map name_of xs) (sym e)))),
  distinct_push xs next h.1 (λ later. fresh (Any-there (λ name. name ≡ next.name) x.name (map name_of xs) later)),
)

-- the options so far
pub begun_more : (names flags words seen rest : List (List ℕ)) (next : Given) (left : List (List ℕ)) →
    AreBegun names flags words seen rest → BeginsWith rest next left → MayFollow names flags seen next →
    AreBegun names flags words (seen ++ next.name ∷ []) left
begun_more names flags words seen rest next left h begins may =
    let option : Given = record { name = next.name; value = next.value; joined = begins.0 } in
    let before = flat_map spelled h.options in
    record {
      options = h.options ++ option ∷ [];
      spelt = h.spelt ∙ ap (λ r. before ++ r) begins.1 ∙ sym (append_assoc before (spelled option) left)
          ∙ ap (λ b. b ++ left) (ap (λ b. before ++ b) (sym (append-nil (spelled option)))
          ∙ sym (flat_map-append spelled h.options (option ∷ [])));
      same = map-append name_of h.options (option ∷ []) ∙ ap (λ names. names ++ next.name ∷ []) h.same;
      known = All-push (IsKnown names flags) h.options option h.known may.known;
      distinct = distinct_push h.options option h.distinct
          (subst (λ names. ¬ Any (λ name. name ≡ next.name) names) (sym h.same) may.fresh);
    }

-- the options that are left
pub left_next : (names flags words seen rest : List (List ℕ)) (all : List Given) → IsTrue (can_be_read names flags) →
    AreOptions names flags words all → (l : IsLeft seen rest all) → rest ≢ [] → IsNext names flags seen rest all
left_next names flags words seen rest all can h l some = go l.left l.whole l.spelt
  where
    go : (left : List Given) → all ≡ l.done ++ left → rest ≡ flat_map spelled left → IsNext names flags seen rest all
    go [] whole spelt = absurd (some spelt)
    go (option ∷ more) whole spelt =
        let known : IsKnown names flags option = middle (IsKnown names flags) l.done option more
        (subst (All (IsKnown names flags)) whole h.known) in
        record {
          done = l.done;
          option = option;
          left = more;
          whole = whole;
          same = l.same;
          spelt = spelt;
          free = known_free names flags option.name option.value can known;
          form = form_of_known names flags option.name option.value can known;
          may = record {
            known = known;
            fresh = subst (λ names. ¬ Any (λ name. name ≡ option.name) names) l.same
                (fresh_of_distinct l.done option more (subst (λ a. AreDistinct (map name_of a)) whole h.distinct));
          };
        }

-- an option has at least one word
word_of_each : (name : List ℕ) (value : Option (List ℕ)) (joined : Bool) (rest : List (List ℕ)) →
    [] ≡ spelled_as name value joined ++ rest → ⊥
word_of_each name None joined rest e = cc
word_of_each name (Some value) true rest e = cc
word_of_each name (Some value) false rest e = cc

begins_some : (words : List (List ℕ)) (given : Given) (rest : List (List ℕ)) → BeginsWith words given rest
    → words ≢ []
begins_some words given rest begins e = word_of_each given.name given.value begins.0 rest (sym e ∙ begins.1)

none_of : (left : List Given) → [] ≡ flat_map spelled left → left ≡ []
none_of [] e = refl
none_of (option ∷ more) e = absurd (word_of_each option.name option.value option.joined (flat_map spelled more) e)

-- where the first option is the only one that the words begin with, it is the next one
pub left_more : (names flags words seen rest : List (List ℕ)) (all : List Given) (next : Given)
    (left : List (List ℕ)) → IsTrue (can_be_read names flags) → AreOptions names flags words all →
    IsLeft seen rest all → BeginsWith rest next left →
    ((option : Given) (behind : List (List ℕ)) → All (λ c. c ≢ 61) option.name → IsOfForm flags option →
    rest ≡ spelled option ++ behind → (next ≡ apart option) × (left ≡ behind)) →
    MayFollow names flags seen next × IsLeft (seen ++ next.name ∷ []) left all
left_more names flags words seen rest all next left can h l begins only =
    let n = left_next names flags words seen rest all can h l (begins_some rest next left begins) in
    let (same, behind) = only n.option (flat_map spelled n.left) n.free n.form n.spelt in (
      subst (MayFollow names flags seen) (sym same) n.may,
      record {
        done = n.done ++ n.option ∷ [];
        left = n.left;
        whole = n.whole ∙ sym (append_assoc n.done (n.option ∷ []) n.left);
        same = map-append name_of n.done (n.option ∷ []) ∙ ap (λ names. names ++ n.option.name ∷ []) n.same
            ∙ ap (λ (o : Given). seen ++ o.name ∷ []) (sym same);
        spelt = behind;
      },
    )

-- all the words are options
pub begun_all : (names flags words seen : List (List ℕ)) → AreBegun names flags words seen []
    → SpellOptions names flags words
begun_all names flags words seen h = (
  h.options,
  record { words_are = h.spelt ∙ append-nil (flat_map spelled h.options); known = h.known; distinct = h.distinct },
)
