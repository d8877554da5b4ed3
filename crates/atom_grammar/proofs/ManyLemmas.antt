-- Lists of parts are read in one way.
use Rattle.std.proofs.Common.{◌≡◌, ℕ, ◌<◌, ◌≤◌, true, false, List, [], ◌∷◌, ◌++◌, length, refl, sym, ap, subst, ◌∙◌, append_assoc, length-append, arith, All}
use Rattle.std.proofs.Common.{◌⊎◌, inl, inr}
use Rattle.std.specs.Prelude.{flat_map, codes, IsTrue, Result, Ok, Err}
use Rattle.std.specs.Result.{IsErrAnd}
use Rattle.atom_values.specs.declared.many.ListFault.{ListFault}
use Rattle.atom_values.specs.declared.many.ListFault.TheVariants.{TooMany, NoMemory as Memory}
use Rattle.atom_grammar.specs.ListFaults.{IsFaultOf}
use Rattle.atom_grammar.specs.declared.part_fault.PartFault.{PartFault}
use Rattle.atom_grammar.specs.declared.part_fault.PartFault.TheVariants.{Mismatch, NoMemory}
use Rattle.atom_grammar.proofs.TextLemmas.{starts_split}
use Rattle.std.proofs.lemmas.List.{append-nil}
use Rattle.std.proofs.lemmas.List.Concat.{flat_map-append}
use Rattle.std.proofs.lemmas.List.Elements.{All-head, All-tail, All-nil, All-cons, All-append}
use Rattle.atom_grammar.specs.Parts.{Part, IsFound, IsAbsent, IsReadAlone, IsPartFault, ReadsAs, starts, many}
use Rattle.atom_grammar.proofs.ReadingLemmas.{IsClosed, Starts, found}

-- the input begins with these items' texts
pub record IsGathered {A : Type 0} (part : Part A) (input : List ℕ) (items : List A) (rest : List ℕ) : Type 0 where
  pub lawful : All part.Is items
  pub split : input ≡ flat_map part.text items ++ rest

head_starts : {A : Type 0} (bytes : List ℕ) (part : Part A) → Starts bytes part
    → (x : A) (xs : List A) (rest : List ℕ) → part.Is x → starts bytes (flat_map part.text (x ∷ xs) ++ rest) ≡ true
head_starts bytes part begins x xs rest is =
    ap (starts bytes) (append_assoc (part.text x) (flat_map part.text xs) rest)
    ∙ begins x (flat_map part.text xs ++ rest) is

-- two lists at the front of one input: the one whose end is seen goes on where the other ends
goes_on : {A : Type 0} (bytes : List ℕ) (part : Part A) → IsClosed part → Starts bytes part → IsReadAlone part
    → (xs ys : List A) (rest left : List ℕ) → All part.Is xs → All part.Is ys → starts bytes left ≡ false
    → flat_map part.text xs ++ rest ≡ flat_map part.text ys ++ left
    → (more : List A) × (ys ≡ xs ++ more) × (rest ≡ flat_map part.text more ++ left) × All part.Is more
goes_on bytes part closed begins one [] ys rest left is_xs is_ys before e = (ys, refl, e, is_ys)
goes_on bytes part closed begins one (x ∷ xs) [] rest left is_xs is_ys before e =
    absurd (let h : true ≡ false = sym (head_starts bytes part begins x xs rest (All-head part.Is x xs is_xs))
    ∙ ap (starts bytes) e ∙ before in cc)
goes_on bytes part closed begins one (x ∷ xs) (y ∷ ys) rest left is_xs is_ys before e =
    let p =
    one x y (flat_map part.text xs ++ rest) (flat_map part.text ys ++ left) (All-head part.Is x xs is_xs)
    (All-head part.Is y ys is_ys) (closed _) (closed _)
    (sym (append_assoc (part.text x) (flat_map part.text xs) rest) ∙ e
    ∙ append_assoc (part.text y) (flat_map part.text ys) left) in
    let q =
    goes_on bytes part closed begins one xs ys rest left (All-tail part.Is x xs is_xs)
    (All-tail part.Is y ys is_ys) before p.1 in
    (q.0, (λ i. sym p.0 i ∷ q.1 i), q.2, q.3)

ends : {A : Type 0} (bytes : List ℕ) (part : Part A) → Starts bytes part → (more : List A) (rest left : List ℕ)
    → All part.Is more → starts bytes rest ≡ false → rest ≡ flat_map part.text more ++ left → more ≡ []
ends bytes part begins [] rest left is before e = refl
ends bytes part begins (x ∷ xs) rest left is before e =
    absurd (let h : true ≡ false = sym (head_starts bytes part begins x xs left (All-head part.Is x xs is))
    ∙ ap (starts bytes) (sym e) ∙ before in cc)

pub many_alone : {A : Type 0} (most : ℕ) (bytes : List ℕ) (part : Part A) → IsClosed part → Starts bytes part
    → IsReadAlone part → IsReadAlone (many most bytes part)
unfolding many
many_alone most bytes part closed begins one xs ys rest left is_xs is_ys before_rest before_left e =
    let q = goes_on bytes part closed begins one xs ys rest left is_xs.1 is_ys.1 before_left e in
    let none = ends bytes part begins q.0 rest left q.3 before_rest q.2 in
    (sym (append-nil xs) ∙ ap (λ m. xs ++ m) (sym none) ∙ sym q.1, q.2 ∙ ap (λ m. flat_map part.text m ++ left) none)

-- the list is at its end
pub many_found : {A : Type 0} (most : ℕ) (bytes : List ℕ) (part : Part A) → IsClosed part → Starts bytes part
    → IsReadAlone part → (input rest : List ℕ) (items : List A) → IsGathered part input items rest
    → length items ≤ most → starts bytes rest ≡ false → IsFound (many most bytes part) input items rest
unfolding many
many_found most bytes part closed begins one input rest items g few before =
    found (many most bytes part) (many_alone most bytes part closed begins one) input items rest (few, g.lawful)
    before g.split

-- one item more
pub gathered_more : {A : Type 0} (part : Part A) (input middle rest : List ℕ) (items : List A) (x : A)
    → IsGathered part input items middle → IsFound part middle x rest → IsGathered part input (items ++ x ∷ []) rest
gathered_more part input middle rest items x g f = record {
  lawful = All-append part.Is items (x ∷ []) g.lawful (All-cons part.Is x [] f.lawful (All-nil part.Is));
  split =
      g.split ∙ ap (λ t. flat_map part.text items ++ t) (f.split ∙ ap (λ t. t ++ rest) (sym (append-nil (part.text x))))
      ∙ sym (append_assoc (flat_map part.text items) (part.text x ++ []) rest)
      ∙ ap (λ t. t ++ rest) (sym (flat_map-append part.text items (x ∷ [])));
}

stuck_by : {A : Type 0} (bytes : List ℕ) (part : Part A) → IsClosed part → (more : List A) (middle left : List ℕ)
    → All part.Is more → starts bytes middle ≡ true → starts bytes left ≡ false → IsAbsent part middle
    → middle ≡ flat_map part.text more ++ left → ⊥
stuck_by bytes part closed [] middle left is there before none e = let h : true ≡ false =
    sym there ∙ ap (starts bytes) e ∙ before in cc
stuck_by bytes part closed (x ∷ xs) middle left is there before none e =
    none x (flat_map part.text xs ++ left) (All-head part.Is x xs is) (closed _) (e
    ∙ append_assoc (part.text x) (flat_map part.text xs) left)

-- an item begins, and isn't there
pub many_stuck : {A : Type 0} (most : ℕ) (bytes : List ℕ) (part : Part A) → IsClosed part → Starts bytes part
    → IsReadAlone part → (input middle : List ℕ) (items : List A) → IsGathered part input items middle
    → starts bytes middle ≡ true → IsAbsent part middle → IsAbsent (many most bytes part) input
unfolding many
many_stuck most bytes part closed begins one input middle items g there none other left is before e =
    let q = goes_on bytes part closed begins one items other middle left g.lawful is.1 before (sym g.split ∙ e) in
    stuck_by bytes part closed q.0 middle left q.3 there before none q.2

-- there are too many items
pub many_full : {A : Type 0} (most : ℕ) (bytes : List ℕ) (part : Part A) → IsClosed part → Starts bytes part
    → IsReadAlone part → (input rest : List ℕ) (items : List A) → IsGathered part input items rest
    → most < length items → IsAbsent (many most bytes part) input
unfolding many
many_full most bytes part closed begins one input rest items g full other left is before e =
    let q = goes_on bytes part closed begins one items other rest left g.lawful is.1 before (sym g.split ∙ e) in
    omega (arith, ap length q.1, length-append items q.0, is.0)

-- each item takes some of the input
pub shorter : {A : Type 0} (start : List ℕ) (part : Part A) → Starts start part → IsTrue (starts (codes "<") start)
    → (input rest : List ℕ) (x : A) → IsFound part input x rest → length rest < length input
shorter start part begins some input rest x f =
    let p = starts_split start (part.text x ++ []) (begins x [] f.lawful) in
    let q = starts_split (codes "<") start some in
    omega (
      arith,
      ap length f.split,
      length-append (part.text x) rest,
      ap length p.1,
      length-append (part.text x) [],
      length-append start p.0,
      ap length q.1,
    )

-- an item is added
pub few_pushed : {A : Type 0} (most : ℕ) (items new : List A) (x : A) → new ≡ items ++ x ∷ [] → length items ≤ most
    → (length items ≡ most → ⊥) → length new ≤ most
few_pushed most items new x is few not_full = omega (arith, ap length is, length-append items (x ∷ []), not_full)

pub gathered_pushed : {A : Type 0} (part : Part A) (input middle rest : List ℕ) (items new : List A) (x : A)
    → new ≡ items ++ x ∷ [] → IsGathered part input items middle → IsFound part middle x rest
    → IsGathered part input new rest
gathered_pushed {A} part input middle rest items new x is g f =
    let P : List A → Type 0 = λ xs. IsGathered part input xs rest in
    subst P (sym is) (gathered_more part input middle rest items x g f)

-- or the list is full, or memory ran out
pub push_stopped : {A C : Type 0} (view : C → List A) (most : ℕ) (bytes : List ℕ) (part : Part A) → IsClosed part
    → Starts bytes part → IsReadAlone part
    → (input middle rest : List ℕ) (items : List A) (x : A) (fault : ListFault) (r : Result C PartFault)
    → IsGathered part input items middle → IsFound part middle x rest → IsErrAnd r (IsFaultOf fault)
    → (fault ≡ TooMany (length items)) ⊎ (fault ≡ Memory) → (fault ≡ TooMany (length items) → length items ≡ most)
    → ReadsAs view (many most bytes part) input r rest
push_stopped view most bytes part closed begins one input middle rest items x fault (Ok y) g f same which full =
    absurd same
push_stopped view most bytes part closed begins one input middle rest items x fault (Err s) g f same (inl e) full =
    let P : ListFault → Type 0 = λ k. IsFaultOf k s in
    let Q : PartFault → Type 0 = IsPartFault (many most bytes part) input in
    let unlike : s ≡ Mismatch = subst P e same in
    subst Q (sym unlike)
    (many_full most bytes part closed begins one input rest (items ++ x ∷ [])
    (gathered_more part input middle rest items x g f) (omega (arith, full e, length-append items (x ∷ []))))
push_stopped view most bytes part closed begins one input middle rest items x fault (Err s) g f same (inr e) full =
    let P : ListFault → Type 0 = λ k. IsFaultOf k s in
    let Q : PartFault → Type 0 = IsPartFault (many most bytes part) input in
    let memory : s ≡ NoMemory = subst P e same in
    subst Q (sym memory) tt
