-- The images after a write: stated from one image to the next, and stated for all writes since the last sync.
use Rattle.std.proofs.Common.{◌≡◌, inl, inr, ℕ, ◌+◌, ◌-◌, ◌<◌, ◌≤◌, min, max, Bool, true, false, ◌||◌, leb, ltb, List}
use Rattle.std.proofs.Common.{◌++◌, length, get_or, take, drop, refl, sym, ◌∙◌, ap, arith, length-append, length-take}
use Rattle.std.proofs.Common.{length-drop, get_or-take, get_or-drop}
use Rattle.std.proofs.lemmas.List.{get_or_append_left, get_or-append_right, take_at, drop_at, take-take, take_all}
use Rattle.std.proofs.lemmas.List.{drop_all, append_assoc}
use Rattle.std.proofs.lemmas.Bool.{cases_lt, or_parts, cases_Bool, leb-true, ltb-true, lt-leb, and_left, and_parts}
use Rattle.feed_disk.specs.Disk.{Torn}
use Rattle.feed_disk.specs.AreaRecord.{is_within, IsBetween}
use Rattle.feed_disk.specs.DiskLaw.{outside_cases}

-- the image keeps each byte outside the range
torn_at : (at n : ℕ) (d i : List ℕ) → Torn at n d i → (offset : ℕ) → is_within offset at n ≡ false
    → get_or i offset 0 ≡ get_or d offset 0
torn_at at n d i torn offset out = elim (outside_cases offset at n out) [
  | inl below ↦ sym (get_or-take at i offset 0 below) ∙ ap (λ (l : List ℕ). get_or l offset 0) torn.before
      ∙ get_or-take at d offset 0 below
  | inr above ↦
      let k = offset - (at + n) in
      let is : at + n + k ≡ offset = omega arith in
      ap (λ (m : ℕ). get_or i m 0) (sym is) ∙ sym (get_or-drop (at + n) i k 0)
      ∙ ap (λ (l : List ℕ). get_or l k 0) torn.after ∙ get_or-drop (at + n) d k 0 ∙ ap (λ (m : ℕ). get_or d m 0) is
]

pub torn_is_between : (old : List ℕ) (size size' at n : ℕ) (w : ℕ → Bool) (d i : List ℕ) → max size (at + n) ≤ size'
    → IsBetween old size w d → Torn at n d i → IsBetween old size' (λ offset. is_within offset at n || w offset) i
torn_is_between old size size' at n w d i fits between torn = record {
  no_shorter = omega (arith, between.no_shorter, torn.no_shorter);
  no_longer = omega (arith, between.no_longer, torn.no_longer);
  certain = λ offset there out.
      let parts = or_parts (is_within offset at n) (w offset) out in
      torn_at at n d i torn offset parts.0 ∙ between.certain offset there parts.1;
}

pub torn_same : (at n : ℕ) (i : List ℕ) → Torn at n i i
torn_same at n i = record { before = refl; after = refl; no_shorter = omega arith; no_longer = omega arith }

-- an image before the write: the one after it, with the old bytes in the range
abbrev before_write : List ℕ → ℕ → ℕ → List ℕ → List ℕ
before_write old at n i = take at i ++ take n (drop at (old ++ drop (length old) i)) ++ drop (at + n) i

module _ (old i : List ℕ) (at n : ℕ) (longer : length old ≤ length i) (there : at ≤ length i) where
  full : length (old ++ drop (length old) i) ≡ length i
  full = omega (arith, length-append old (drop (length old) i), length-drop (length old) i)

  front : length (take at i) ≡ at
  front = omega (arith, length-take at i)

  middle : length (take n (drop at (old ++ drop (length old) i))) ≡ min n (length i - at)
  middle = omega (
    arith,
    full,
    length-take n (drop at (old ++ drop (length old) i)),
    length-drop at (old ++ drop (length old) i),
  )

  pub length-before_write : length (before_write old at n i) ≡ length i
  length-before_write = omega (
    arith,
    front,
    middle,
    length-drop (at + n) i,
    length-append (take at i ++ take n (drop at (old ++ drop (length old) i))) (drop (at + n) i),
    length-append (take at i) (take n (drop at (old ++ drop (length old) i))),
  )

  two : length (take at i ++ take n (drop at (old ++ drop (length old) i))) ≡ min (at + n) (length i)
  two = omega (arith, front, middle, length-append (take at i) (take n (drop at (old ++ drop (length old) i))))

  pub take-before_write : take at (before_write old at n i) ≡ take at i
  take-before_write =
      ap (λ (l : List ℕ). take at l) (append_assoc (take at i) (take n (drop at (old ++ drop (length old) i)))
      (drop (at + n) i))
      ∙ take_at (take at i) (take n (drop at (old ++ drop (length old) i)) ++ drop (at + n) i) at front

  pub drop-before_write : drop (at + n) (before_write old at n i) ≡ drop (at + n) i
  drop-before_write = elim (cases_lt (length i) (at + n)) [
    | inl past ↦ drop_all (at + n) (before_write old at n i) (omega (arith, length-before_write))
        ∙ sym (drop_all (at + n) i (omega arith))
    | inr fits ↦ drop_at (take at i ++ take n (drop at (old ++ drop (length old) i))) (drop (at + n) i) (at + n)
        (omega (arith, two))
  ]

  pub torn_before_write : Torn at n (before_write old at n i) i
  torn_before_write = record {
    before = sym take-before_write;
    after = sym drop-before_write;
    no_shorter = omega (arith, length-before_write);
    no_longer = omega (arith, length-before_write);
  }

  -- it has the old bytes in the range
  pub old_before_write : (offset : ℕ) → offset < length old → is_within offset at n ≡ true
      → get_or (before_write old at n i) offset 0 ≡ get_or old offset 0
  old_before_write offset inside within =
      let both = and_parts (leb at offset) (ltb offset (at + n)) within in
      let from : at ≤ offset = leb-true at offset both.0 in
      let to : offset < at + n = ltb-true offset (at + n) both.1 in
      let fulls = old ++ drop (length old) i in
      let mid = take n (drop at fulls) in
      let is : at + (offset - at) ≡ offset = omega arith in
      get_or_append_left (take at i ++ mid) (drop (at + n) i) 0 offset (omega (arith, two))
      ∙ get_or-append_right (take at i) mid at offset 0 front from
      ∙ get_or-take n (drop at fulls) (offset - at) 0 (omega arith)
      ∙ get_or-drop at fulls (offset - at) 0
      ∙ ap (λ (k : ℕ). get_or fulls k 0) is
      ∙ get_or_append_left old (drop (length old) i) 0 offset inside

  certain_before_write : (size : ℕ) (w : ℕ → Bool) → IsBetween old size (λ offset. is_within offset at n || w offset) i
      → (offset : ℕ) → offset < length old → w offset ≡ false
      → get_or (before_write old at n i) offset 0 ≡ get_or old offset 0
  certain_before_write size w between offset inside out = elim (cases_Bool (is_within offset at n)) [
    | inl within ↦ old_before_write offset inside within
    | inr apart ↦ sym (torn_at at n (before_write old at n i) i torn_before_write offset apart)
        ∙ between.certain offset inside (or_from_false offset w apart out)
  ]
    where
      or_from_false : (offset : ℕ) (w : ℕ → Bool) → is_within offset at n ≡ false → w offset ≡ false
          → (is_within offset at n || w offset) ≡ false
      or_from_false offset w apart out = ap (λ (b : Bool). b || w offset) apart ∙ out

  -- the same image, cut to a size that it may have had
  abbrev cut_before_write : ℕ → List ℕ
  cut_before_write size = take (min (length i) size) (before_write old at n i)

  length-cut : (size : ℕ) → length (cut_before_write size) ≡ min (length i) size
  length-cut size = omega (arith, length-take (min (length i) size) (before_write old at n i), length-before_write)

  torn_cut : (size : ℕ) → at ≤ size → length i ≤ max size (at + n) → Torn at n (cut_before_write size) i
  torn_cut size fits short = record {
    before = sym take-before_write ∙ sym (take-take at (min (length i) size) (before_write old at n i) (omega arith));
    after = elim (cases_lt size (length i)) [
      | inl cut ↦ drop_all (at + n) i (omega arith)
          ∙ sym (drop_all (at + n) (cut_before_write size) (omega (arith, length-cut size)))
      | inr whole ↦ sym drop-before_write ∙ ap (λ (l : List ℕ). drop (at + n) l)
          (sym (take_all (min (length i) size) (before_write old at n i) (omega (arith, length-before_write))))
    ];
    no_shorter = omega (arith, length-cut size);
    no_longer = omega (arith, length-cut size);
  }

  between_cut : (size size' : ℕ) (w : ℕ → Bool) → length old ≤ size
      → IsBetween old size' (λ offset. is_within offset at n || w offset) i
      → IsBetween old size w (cut_before_write size)
  between_cut size size' w within between = record {
    no_shorter = omega (arith, length-cut size);
    no_longer = omega (arith, length-cut size);
    certain = λ offset inside out.
        get_or-take (min (length i) size) (before_write old at n i) offset 0 (omega arith)
        ∙ certain_before_write size' w between offset inside out;
  }

-- each image after the write comes from one before it
pub between_is_torn : (old : List ℕ) (size size' at n : ℕ) (w : ℕ → Bool) (i : List ℕ) → at ≤ size
    → size' ≤ max size (at + n) → length old ≤ size
    → IsBetween old size' (λ offset. is_within offset at n || w offset) i
    → (d : List ℕ) × IsBetween old size w d × Torn at n d i
between_is_torn old size size' at n w i fits most within between = elim (cases_lt (length i) at) [
  | inl short ↦ (
    i,
    record {
      no_shorter = between.no_shorter;
      no_longer = omega arith;
      certain = λ offset inside out. between.certain offset inside
          (ap (λ (b : Bool). b || w offset) (apart offset (omega (arith, between.no_shorter))) ∙ out);
    },
    torn_same at n i,
  )
  | inr there ↦ (
    cut_before_write old i at n between.no_shorter there size,
    between_cut old i at n between.no_shorter there size size' w within between,
    torn_cut old i at n between.no_shorter there size fits (omega (arith, between.no_longer)),
  )
]
  where
    apart : (offset : ℕ) → offset < at → is_within offset at n ≡ false
    apart offset below = and_left (leb at offset) (ltb offset (at + n)) (lt-leb at offset below)
