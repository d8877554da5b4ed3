-- Keys of names: their order, and keys in order.
use Rattle.std.proofs.Common.{◌≡◌, ℕ, suc, ◌+◌, ◌-◌, ◌*◌, ◌%◌, ◌^◌, ◌<◌, ◌≤◌, ◌==◌, ◌&&◌, Bool, true, false, List, [], ◌∷◌, ◌++◌, length, refl, sym, ap}
use Rattle.std.proofs.Common.{◌∙◌, subst, take, drop, add-one, nat_lt, inl, inr}
use Rattle.std.proofs.Common.{Option, cond, Ordering, Less, Equal, Greater, map, get_or, bytes_eq, eq-eqb, arith}
use Rattle.std.specs.Borrow.{Bor}
use Rattle.std.specs.BTreeMap.{BTreeMap, UpdatesBy, get_by}
use Rattle.std.specs.Cmp.{IsTotalOrder, both_tied, eq_by_cmp_equiv, on_total, then_total, nat_cmp_total, unsigned_ties}
use Rattle.std.specs.Cmp.Lexicographic.{nat_list_cmp_total, slice_cmp}
use Rattle.std.specs.List.{AllByRecursion, IsDistinct}
use Rattle.std.specs.List.Sorted.{IsPermutation, IsSorted, IsStrictlySortedBy}
use Rattle.std.specs.Ordering.{eq_by_cmp, is_eq, is_lt, nat_cmp, ordering_reverse}
use Rattle.std.proofs.lemmas.Bool.{both_ways, cases_Bool, ltb-true, ltb-false}
use Rattle.std.proofs.lemmas.List.{drop_all, get_or_default, map-append}
use Rattle.std.proofs.Math.Seq.{drop-cons}
use Rattle.std.proofs.lemmas.List.Sorted.{IsPermutation-sym}
use Rattle.std.proofs.lemmas.Map.Keys.{IsDistinct-IsPermutation, IsDistinct-from_sorted, apart_from_distinct}
use Rattle.std.proofs.lemmas.Map.Keys.{sorted_from_all_adjacent}
use Rattle.std.proofs.lemmas.Map.Text.{is_eq-slice_cmp}
use Rattle.std.proofs.lemmas.Slice.Eq.{bytes_eq-Decides}
use Rattle.xml_tokens.specs.declared.tag.Attribute.{Attribute as Raw}
use Rattle.xml_tokens.specs.Keys.{Key, AreApart, HasNeighbors, key_cmp, key_of, number_from, number_of}
use Rattle.xml_tokens.specs.Reading.{TellsSame, names}

pub key_total : IsTotalOrder key_cmp
key_total = then_total (on_total (λ (k : Key). k.0) nat_cmp_total) (on_total (λ (k : Key). k.1.now) nat_list_cmp_total)

-- `==` of two keys, and their order
pub key_ties : (x y : Key) → ((x.0 == y.0) && bytes_eq x.1.now y.1.now) ≡ is_eq (key_cmp x y)
key_ties x y =
    both_tied (x.0 == y.0) (bytes_eq x.1.now y.1.now) (nat_cmp x.0 y.0) (slice_cmp nat_cmp x.1.now y.1.now)
    (unsigned_ties x.0 y.0) (sym (is_eq-slice_cmp x.1.now y.1.now))

and_false : (b : Bool) → (b && false) ≡ false
and_false true = refl
and_false false = refl

-- the keys of two names are equal if the names are
pub key_same : (x y : Bor (List ℕ)) → is_eq (key_cmp (key_of x) (key_of y)) ≡ bytes_eq x.now y.now
key_same x y =
    let numbers : Bool = number_of x.now == number_of y.now in
    let at : (t : Bool) → bytes_eq x.now y.now ≡ t → (numbers && t) ≡ t = λ t.
    elim t as (λ t. bytes_eq x.now y.now ≡ t → (numbers && t) ≡ t) [
      | true ↦ λ e. ap (λ b. b && true)
          (eq-eqb (number_of x.now) (number_of y.now) (ap number_of ((bytes_eq-Decides x.now y.now).0 e)))
      | false ↦ λ e. and_false numbers
    ] in sym (key_ties (key_of x) (key_of y)) ∙ at (bytes_eq x.now y.now) refl

-- a key that isn't after the next one, nor equal to it, is before it
below : (x y : Key) → is_lt (key_cmp y x) ≡ false → is_eq (key_cmp x y) ≡ false → key_cmp x y ≡ Less
below x y up apart =
    let turned : key_cmp x y ≡ ordering_reverse (key_cmp y x) = key_total.antisymm x y in
    let at : (o : Ordering) → key_cmp y x ≡ o → key_cmp x y ≡ Less = λ o.
    elim o as (λ o. key_cmp y x ≡ o → key_cmp x y ≡ Less) [
      | Less ↦ λ e. absurd (both_ways (is_lt (key_cmp y x)) up (ap is_lt e))
      | Equal ↦ λ e. absurd (both_ways (is_eq (key_cmp x y)) apart (ap is_eq (turned ∙ ap ordering_reverse e)))
      | Greater ↦ λ e. turned ∙ ap ordering_reverse e
    ] in at (key_cmp y x) refl

-- the keys of the names of attributes
abbrev pub keys_of : List Raw → List Key
keys_of raws = map (λ (a : Raw). key_of a.name) raws

apart_names : (x : Raw) (ys : List Raw) →
    AllByRecursion (λ k. eq_by_cmp key_cmp (key_of x.name) k ≡ false) (keys_of ys) →
    AllByRecursion (λ n. bytes_eq x.name.now n ≡ false) (names ys)
apart_names x [] all = tt
apart_names x (y ∷ ys) all = (sym (key_same x.name y.name) ∙ all.0, apart_names x ys all.1)

apart_keys : (x : Raw) (ys : List Raw) → AllByRecursion (λ n. bytes_eq x.name.now n ≡ false) (names ys) →
    AllByRecursion (λ k. eq_by_cmp key_cmp (key_of x.name) k ≡ false) (keys_of ys)
apart_keys x [] all = tt
apart_keys x (y ∷ ys) all = (key_same x.name y.name ∙ all.0, apart_keys x ys all.1)

distinct_names : (xs : List Raw) → IsDistinct (eq_by_cmp key_cmp) (keys_of xs) → IsDistinct bytes_eq (names xs)
unfolding IsDistinct
distinct_names [] distinct = tt
distinct_names (x ∷ xs) distinct = (apart_names x xs distinct.0, distinct_names xs distinct.1)

distinct_keys : (xs : List Raw) → IsDistinct bytes_eq (names xs) → IsDistinct (eq_by_cmp key_cmp) (keys_of xs)
unfolding IsDistinct
distinct_keys [] distinct = tt
distinct_keys (x ∷ xs) distinct = (apart_keys x xs distinct.0, distinct_keys xs distinct.1)

flips : (x y : Key) → eq_by_cmp key_cmp x y ≡ eq_by_cmp key_cmp y x
flips x y = (eq_by_cmp_equiv key_total).symm x y

abbrev pub no_key : Key
no_key = (0, record { ref_ptr = (0, 0); now = [] })

-- keys in order, of which no two neighbors are equal
apart_distinct : (raws : List Raw) (keys : List Key) → IsPermutation (keys_of raws) keys → IsSorted key_cmp keys →
    AreApart keys → IsDistinct bytes_eq (names raws)
apart_distinct raws keys moved sorted apart =
    let strictly : IsStrictlySortedBy key_cmp keys =
    sorted_from_all_adjacent key_total keys no_key (λ k short.
    below (get_or keys k no_key) (get_or keys (k + 1) no_key) (sorted k no_key (omega arith) short)
    (apart k no_key short)) in
    distinct_names raws (IsDistinct-IsPermutation (eq_by_cmp key_cmp) flips keys (keys_of raws)
    (IsPermutation-sym (keys_of raws) keys moved) (IsDistinct-from_sorted key_cmp keys strictly))

-- two neighbors are equal
same_neighbors : (raws : List Raw) (keys : List Key) → IsPermutation (keys_of raws) keys → HasNeighbors keys →
    IsDistinct bytes_eq (names raws) → ⊥
same_neighbors raws keys moved (k, short, equal) distinct =
    let apart = apart_from_distinct (eq_by_cmp key_cmp) keys k (k + 1) no_key
    (IsDistinct-IsPermutation (eq_by_cmp key_cmp) flips (keys_of raws) keys moved (distinct_keys raws distinct))
    (omega arith) short in
    both_ways (eq_by_cmp key_cmp (get_or keys k no_key) (get_or keys (k + 1) no_key)) apart (equal no_key)

-- sorted keys tell whether two names are the same
pub tells_same_names : (raws : List Raw) (items keys : List Key) (same : Bool) → items ≡ keys_of raws →
    IsPermutation items keys → IsSorted key_cmp keys → (same ≡ true → HasNeighbors keys) →
    (same ≡ false → AreApart keys) → TellsSame (names raws) same
tells_same_names raws items keys same all moved sorted some none =
    let whole : IsPermutation (keys_of raws) keys = subst (λ xs. IsPermutation xs keys) all moved in
    (λ is. same_neighbors raws keys whole (some is), λ is. apart_distinct raws keys whole sorted (none is))

-- the key of one more attribute
pub keys_more : (raws : List Raw) (i : ℕ) (a : Raw) (key : Key) (items pushed : List Key) →
    take (suc i) raws ≡ take i raws ++ a ∷ [] → key ≡ key_of a.name → pushed ≡ items ++ key ∷ [] →
    items ≡ keys_of (take i raws) → pushed ≡ keys_of (take (i + 1) raws)
keys_more raws i a key items pushed is key_is push all =
    push ∙ ap (λ xs. xs ++ key ∷ []) all ∙ ap (λ k. keys_of (take i raws) ++ k ∷ []) key_is
    ∙ sym (map-append (λ (a : Raw). key_of a.name) (take i raws) (a ∷ [])) ∙ ap keys_of (sym is)
    ∙ ap (λ n. keys_of (take n raws)) (sym (add-one i))

-- a key that isn't equal to the next one
pub apart_more : (keys : List Key) (next : ℕ) (e : Key) → 1 ≤ next → next < length keys →
    (((get_or keys (next - 1) e).0 == (get_or keys next e).0)
    && bytes_eq (get_or keys (next - 1) e).1.now (get_or keys next e).1.now) ≡ false →
    ((k : ℕ) (d : Key) → k + 1 < next → is_eq (key_cmp (get_or keys k d) (get_or keys (k + 1) d)) ≡ false) →
    (k : ℕ) (d : Key) → k + 1 < next + 1 → is_eq (key_cmp (get_or keys k d) (get_or keys (k + 1) d)) ≡ false
apart_more keys next e some within other so_far k d short = elim (cases_Bool (nat_lt (k + 1) next)) [
  | inl less ↦ so_far k d (ltb-true (k + 1) next less)
  | inr last ↦
      let past = ltb-false (k + 1) next last in
      let at : k ≡ next - 1 = omega arith in
      let behind : k + 1 ≡ next = omega arith in
      ap (λ j. is_eq (key_cmp (get_or keys j d) (get_or keys (k + 1) d))) at
      ∙ ap (λ j. is_eq (key_cmp (get_or keys (next - 1) d) (get_or keys j d))) behind
      ∙ ap (λ x. is_eq (key_cmp x (get_or keys next d))) (get_or_default keys (next - 1) d e (omega arith))
      ∙ ap (λ x. is_eq (key_cmp (get_or keys (next - 1) e) x)) (get_or_default keys next d e within)
      ∙ sym (key_ties (get_or keys (next - 1) e) (get_or keys next e)) ∙ other
]

-- a key that is equal to the next one
pub neighbors_here : (keys : List Key) (next : ℕ) (e : Key) → 1 ≤ next → next < length keys →
    (((get_or keys (next - 1) e).0 == (get_or keys next e).0)
    && bytes_eq (get_or keys (next - 1) e).1.now (get_or keys next e).1.now) ≡ true → HasNeighbors keys
neighbors_here keys next e some within same =
    let behind : (next - 1) + 1 ≡ next = omega arith in (
      next - 1,
      omega arith,
      λ d.
          ap (λ j. is_eq (key_cmp (get_or keys (next - 1) d) (get_or keys j d))) behind
          ∙ ap (λ x. is_eq (key_cmp x (get_or keys next d))) (get_or_default keys (next - 1) d e (omega arith))
          ∙ ap (λ x. is_eq (key_cmp (get_or keys (next - 1) e) x)) (get_or_default keys next d e within)
          ∙ sym (key_ties (get_or keys (next - 1) e) (get_or keys next e)) ∙ same,
    )

-- the number of one more byte
pub number_more : (name : List ℕ) (i number byte : ℕ) → i < length name → byte ≡ get_or name i 0 →
    number_from number (drop i name) ≡ number_of name →
    number_from ((number * 0x9E37_79B9_7F4A_7C15 % 2 ^ 64 + byte) % 2 ^ 64) (drop (i + 1) name) ≡ number_of name
unfolding number_from
number_more name i number byte short at so_far =
    ap (λ b. number_from number (b ∷ drop (i + 1) name)) at
    ∙ ap (λ k. number_from number (get_or name i 0 ∷ drop k name)) (add-one i)
    ∙ ap (number_from number) (sym (drop-cons name i 0 short)) ∙ so_far

pub number_ends : (name : List ℕ) (i number : ℕ) → length name ≤ i →
    number_from number (drop i name) ≡ number_of name → number ≡ number_of name
unfolding number_from
number_ends name i number past so_far = ap (number_from number) (sym (drop_all i name past)) ∙ so_far

-- the value at each name after that of a key is changed
pub key_updates : {V : Type 0} (name : Bor (List ℕ)) (key : Key) (before after : BTreeMap Key V) (value : Option V) →
    key ≡ key_of name → UpdatesBy key_cmp (key_cmp key) before after value → (other : List ℕ) →
    get_by (key_cmp (key_of (record { ref_ptr = (0, 0); now = other }))) after
    ≡ cond (bytes_eq name.now other) value (get_by (key_cmp (key_of (record { ref_ptr = (0, 0); now = other }))) before)
key_updates name key before after value is updates other =
    let o : Bor (List ℕ) = record { ref_ptr = (0, 0); now = other } in
    updates.0 (key_of o)
    ∙ ap (λ k. cond (is_eq (key_cmp k (key_of o))) value (get_by (key_cmp (key_of o)) before)) is
    ∙ ap (λ b. cond b value (get_by (key_cmp (key_of o)) before)) (key_same name o)
