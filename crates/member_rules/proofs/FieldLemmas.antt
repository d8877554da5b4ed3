-- Each field has one value, and readings of fields put together.
use Rattle.std.proofs.Common.{◌≡◌, ◌≢◌, ℕ, ◌<◌, ◌≤◌, ◌^◌, ℤ, List, [], ◌∷◌, ◌++◌, Option, Some, None, Bool, false, ◌+◌, length, get_or, take, drop, refl, sym, ap, subst, ◌∙◌, append_assoc, length-append, arith, All}
use Rattle.std.proofs.lemmas.Int.{ints}
use Rattle.std.proofs.lemmas.List.{append-nil, take-append-drop, take_all}
use Rattle.std.proofs.lemmas.List.Concat.{flat_map-append}
use Rattle.std.proofs.lemmas.List.Elements.{All-head, All-tail, All-nil, All-cons, All-append}
use Rattle.std.proofs.lemmas.Nat.{from_be_bytes-to_be_bytes_4, from_be_bytes-to_be_bytes_8}
use Rattle.std.specs.Int.{from_be_bytes, to_be_bytes, w32, w64}
use Rattle.std.specs.Prelude.{IfSome, flat_map, Result, Ok, Err}
use Rattle.std.specs.Result.{IsErrAnd, OnOk, is_err}
use Rattle.std.proofs.lemmas.Bool.{false≢true}
use Rattle.atom_values.specs.declared.many.ListFault.{ListFault}
use Rattle.atom_writer.proofs.PieceLemmas.{flat_map-more}
use Rattle.atom_values.specs.Stamp.{IsStamp, since_year_zero}
use Rattle.atom_values.specs.XmlText.{IsAtomText, IsTextFault, IsXmlText}
use Rattle.atom_values.specs.declared.text.TextFault.{TextFault}
use Rattle.atom_values.specs.declared.text.TextFault.TheVariants.{TooLong, NotXmlChar, NoMemory as NoRoom}
use Rattle.atom_values.specs.declared.text.Text.{Text}
use Rattle.atom_values.specs.declared.text.TextKind.{TextKind}
use Rattle.atom_values.specs.declared.text.TextKind.TheVariants.{Plain, Html}
use Rattle.atom_writer.specs.Reading.{BeginsWith}
use Rattle.member_rules.specs.Coding.{number_field, size_field, option_field, kind_byte}
use Rattle.member_rules.specs.FieldFaults.{IsOfText}
use Rattle.member_rules.specs.Fields.{Field, HasOneValue, IsAbsent, IsFault, ReadsAs, byte, number, size, bytes_of_text, counted, stamp, text, kind, construct, optional, listed}
use Rattle.member_rules.specs.declared.codec.fault.FieldFault.{FieldFault}
use Rattle.member_rules.specs.declared.codec.fault.FieldFault.TheVariants.{Mismatch, NoMemory}

-- two values at the front of one list of bytes are one
abbrev pub AreOne : {A : Type 0} → Field A → Type 0
AreOne {A} field = (v w : A) (rest left : List ℕ) → field.Is v → field.Is w
    → field.bytes v ++ rest ≡ field.bytes w ++ left → (v ≡ w) × (rest ≡ left)

pub one_value : {A : Type 0} (field : Field A) → AreOne field → HasOneValue field
one_value field are input v w rest left a b = are v w rest left a.lawful b.lawful (sym a.split ∙ b.split)

pub are_one : {A : Type 0} (field : Field A) → HasOneValue field → AreOne field
are_one field one v w rest left is_v is_w e =
    one (field.bytes v ++ rest) v w rest left (record { lawful = is_v; split = refl })
    (record { lawful = is_w; split = e })

-- lists of one size at the front of one list
pub same_size : (a b x y : List ℕ) → length a ≡ length b → a ++ x ≡ b ++ y → (a ≡ b) × (x ≡ y)
same_size [] [] x y size e = (refl, e)
same_size [] (d ∷ b) x y size e = absurd (omega arith)
same_size (c ∷ a) [] x y size e = absurd (omega arith)
same_size (c ∷ a) (d ∷ b) x y size e =
    let heads : c ≡ d = cc in
    let tails : a ++ x ≡ b ++ y = cc in
    let p = same_size a b x y (omega arith) tails in
    (λ i. heads i ∷ p.0 i, p.1)

pub byte_one : HasOneValue byte
unfolding byte
byte_one = one_value byte (λ v w rest left is_v is_w e. let heads : v ≡ w = cc in let tails : rest ≡ left = cc in
    (heads, tails))

pub number_one : HasOneValue number
unfolding number
number_one = one_value number (λ v w rest left is_v is_w e.
    let p = same_size (to_be_bytes w32 v) (to_be_bytes w32 w) rest left refl e in (
      sym (from_be_bytes-to_be_bytes_4 v is_v) ∙ ap (from_be_bytes w32) p.0 ∙ from_be_bytes-to_be_bytes_4 w is_w,
      p.1,
    ))

pub size_one : HasOneValue size
unfolding size
size_one = one_value size (λ v w rest left is_v is_w e.
    let p = same_size (to_be_bytes w64 v) (to_be_bytes w64 w) rest left refl e in (
      sym (from_be_bytes-to_be_bytes_8 v is_v) ∙ ap (from_be_bytes w64) p.0 ∙ from_be_bytes-to_be_bytes_8 w is_w,
      p.1,
    ))

-- the same bytes, with more rules
pub record Narrows {A : Type 0} (wide narrow : Field A) : Type 0 where
  pub is : (v : A) → narrow.Is v → wide.Is v
  pub bytes : (v : A) → narrow.bytes v ≡ wide.bytes v

pub narrow_one : {A : Type 0} (wide narrow : Field A) → Narrows wide narrow → HasOneValue wide → HasOneValue narrow
narrow_one wide narrow n one = one_value narrow (λ v w rest left is_v is_w e.
    are_one wide one v w rest left (n.is v is_v) (n.is w is_w) (ap (λ z. z ++ rest) (sym (n.bytes v)) ∙ e
    ∙ ap (λ z. z ++ left) (n.bytes w)))

pub narrow_absent : {A : Type 0} (wide narrow : Field A) → Narrows wide narrow → (input : List ℕ) → IsAbsent wide input
    → IsAbsent narrow input
narrow_absent wide narrow n input none other left is e =
    none other left (n.is other is) (e ∙ ap (λ z. z ++ left) (n.bytes other))

-- the value breaks one of the further rules
pub narrow_broken : {A : Type 0} (wide narrow : Field A) → Narrows wide narrow → HasOneValue wide
    → (input rest : List ℕ) (v : A) → BeginsWith wide.Is wide.bytes input v rest → ¬ narrow.Is v → IsAbsent narrow input
narrow_broken wide narrow n one input rest v found broken other left is e =
    let p =
    one input v other rest left found
    (record { lawful = n.is other is; split = e ∙ ap (λ z. z ++ left) (n.bytes other) }) in
    broken (subst narrow.Is (sym p.0) is)

pub narrow_found : {A : Type 0} (wide narrow : Field A) → Narrows wide narrow → (input rest : List ℕ) (v : A)
    → BeginsWith wide.Is wide.bytes input v rest → narrow.Is v → BeginsWith narrow.Is narrow.bytes input v rest
narrow_found wide narrow n input rest v found is = record {
  lawful = is;
  split = found.split ∙ ap (λ z. z ++ rest) (sym (n.bytes v));
}

pub counted_narrows : Narrows number counted
unfolding number counted
counted_narrows = record { is = λ v is. is.1; bytes = λ v. refl }

-- the fault of a field that was read is that of a field that contains it
pub stopped : {A B C : Type 0} (part : Field A) (view : C → B) (whole : Field B) (at after input : List ℕ)
    (e : FieldFault) (r : Result C FieldFault) → IsFault part at e after → IsErrAnd r (λ s. s ≡ e)
    → (IsAbsent part at → IsAbsent whole input) → ReadsAs view whole input r input
stopped part view whole at after input e (Ok x) s same f = absurd same
stopped part view whole at after input Mismatch (Err x) s same f =
    let P : FieldFault → Type 0 = λ k. IsFault whole input k input in
    subst P (sym same) (refl, f s.1)
stopped part view whole at after input NoMemory (Err x) s same f =
    let P : FieldFault → Type 0 = λ k. IsFault whole input k input in
    subst P (sym same) tt

-- two fields, one after the other
unfoldable pub pair : {A B : Type 0} → Field A → Field B → Field (A × B)
pair first second = record {
  Is = λ p. first.Is p.0 × second.Is p.1;
  bytes = λ p. first.bytes p.0 ++ second.bytes p.1;
}

pub pair_one : {A B : Type 0} (first : Field A) (second : Field B) → HasOneValue first → HasOneValue second
    → HasOneValue (pair first second)
unfolding pair
pair_one first second one two = one_value (pair first second) (λ v w rest left is_v is_w e.
    let heads =
    are_one first one v.0 w.0 (second.bytes v.1 ++ rest) (second.bytes w.1 ++ left) is_v.0 is_w.0
    (sym (append_assoc (first.bytes v.0) (second.bytes v.1) rest) ∙ e
    ∙ append_assoc (first.bytes w.0) (second.bytes w.1) left) in
    let tails = are_one second two v.1 w.1 rest left is_v.1 is_w.1 heads.1 in
    (λ i. (heads.0 i, tails.0 i), tails.1))

pub pair_absent : {A B : Type 0} (first : Field A) (second : Field B) (input : List ℕ) → IsAbsent first input
    → IsAbsent (pair first second) input
unfolding pair
pair_absent first second input none other left is e =
    none other.0 (second.bytes other.1 ++ left) is.0 (e
    ∙ append_assoc (first.bytes other.0) (second.bytes other.1) left)

pub pair_stuck : {A B : Type 0} (first : Field A) (second : Field B) → HasOneValue first → (input middle : List ℕ)
    (a : A)
    → BeginsWith first.Is first.bytes input a middle → IsAbsent second middle → IsAbsent (pair first second) input
unfolding pair
pair_stuck first second one input middle a found none other left is e =
    let p =
    one input a other.0 middle (second.bytes other.1 ++ left) found
    (record { lawful = is.0; split = e ∙ append_assoc (first.bytes other.0) (second.bytes other.1) left }) in
    none other.1 left is.1 p.1

pub pair_found : {A B : Type 0} (first : Field A) (second : Field B) (input middle rest : List ℕ) (a : A) (b : B)
    → BeginsWith first.Is first.bytes input a middle → BeginsWith second.Is second.bytes middle b rest
    → BeginsWith (pair first second).Is (pair first second).bytes input (a, b) rest
unfolding pair
pair_found first second input middle rest a b f s = record {
  lawful = (f.lawful, s.lawful);
  split = f.split ∙ ap (λ z. first.bytes a ++ z) s.split
      ∙ sym (append_assoc (first.bytes a) (second.bytes b) rest);
}

-- After some fields of `whole` were read at `input`, `left` remains to be read at `middle`. Its value completes the
-- value of the whole.
pub record Continues {A B : Type 0} (whole : Field B) (input : List ℕ) (left : Field A) (middle : List ℕ) (complete : A
    → B) : Type 0 where
  pub found : (value : A) (rest : List ℕ) → BeginsWith left.Is left.bytes middle value rest
      → BeginsWith whole.Is whole.bytes input (complete value) rest
  pub absent : IsAbsent left middle → IsAbsent whole input

-- one more field was read
pub then : {A B C : Type 0} {whole : Field C} {input middle after : List ℕ} {first : Field A} {second : Field B}
    {complete : A × B → C} {value : A} → HasOneValue first
    → Continues whole input (pair first second) middle complete → BeginsWith first.Is first.bytes middle value after
    → Continues whole input second after (λ more. complete (value, more))
then {first} {second} {value} one so f = record {
  found = λ more rest s. so.found (value, more) rest (pair_found first second _ _ _ _ _ f s);
  absent = λ none. so.absent (pair_stuck first second one _ _ _ f none);
}

-- one field's values are another's, seen in another way
pub record Renames {A B : Type 0} (from : Field B) (to : Field A) (there : B → A) (back : A → B) : Type 0 where
  pub is : (b : B) → from.Is b → to.Is (there b)
  pub bytes : (b : B) → from.bytes b ≡ to.bytes (there b)
  pub was : (a : A) → to.Is a → from.Is (back a)
  pub again : (a : A) → there (back a) ≡ a

pub begun : {A B : Type 0} (from : Field B) (to : Field A) (there : B → A) (back : A → B) → Renames from to there back
    → (input : List ℕ) → Continues to input from input there
begun from to there back r input = record {
  found = λ value rest f. record {
    lawful = r.is value f.lawful;
    split = f.split ∙ ap (λ z. z ++ rest) (r.bytes value);
  };
  absent = λ none other left is e. none (back other) left (r.was other is)
      (e ∙ ap (λ z. to.bytes z ++ left) (sym (r.again other)) ∙ ap (λ z. z ++ left) (sym (r.bytes (back other))));
}

pub renamed_one : {A B : Type 0} (from : Field B) (to : Field A) (there : B → A) (back : A → B)
    → Renames from to there back → HasOneValue from → HasOneValue to
renamed_one from to there back r one = one_value to (λ v w rest left is_v is_w e.
    let p =
    are_one from one (back v) (back w) rest left (r.was v is_v) (r.was w is_w)
    (ap (λ z. z ++ rest) (r.bytes (back v)) ∙ ap (λ z. to.bytes z ++ rest) (r.again v) ∙ e
    ∙ ap (λ z. to.bytes z ++ left) (sym (r.again w)) ∙ ap (λ z. z ++ left) (sym (r.bytes (back w)))) in
    (sym (r.again v) ∙ ap there p.0 ∙ r.again w, p.1))

pub bytes_of_text_one : HasOneValue bytes_of_text
unfolding bytes_of_text number
bytes_of_text_one = one_value bytes_of_text (λ v w rest left is_v is_w e.
    let p =
    are_one number number_one (length v) (length w) (v ++ rest) (w ++ left) is_v is_w
    (sym (append_assoc (number_field (length v)) v rest) ∙ e ∙ append_assoc (number_field (length w)) w left) in
    same_size v w rest left p.0 p.1)

pub text_narrows : Narrows bytes_of_text text
unfolding bytes_of_text text
text_narrows = record { is = λ v is. omega (arith, is.short); bytes = λ v. refl }

pub text_one : HasOneValue text
text_one = narrow_one bytes_of_text text text_narrows bytes_of_text_one

-- a timestamp is the number of its milliseconds
since_one : (v w : ℤ) → IsStamp v → IsStamp w → since_year_zero v ≡ since_year_zero w → v ≡ w
since_one v w is_v is_w e = omega (arith, ints, is_v.0, is_w.0)

pub stamp_one : HasOneValue stamp
unfolding stamp size
stamp_one = one_value stamp (λ v w rest left is_v is_w e.
    let p =
    are_one size size_one (since_year_zero v) (since_year_zero w) rest left (omega (arith, ints, is_v.0, is_v.1))
    (omega (arith, ints, is_w.0, is_w.1)) e in
    (since_one v w is_v is_w p.0, p.1))

kinds_one : (v w : TextKind) (rest left : List ℕ) → kind_byte v ∷ rest ≡ kind_byte w ∷ left → (v ≡ w) × (rest ≡ left)
kinds_one Plain Plain rest left e = (refl, cc)
kinds_one Plain Html rest left e = absurd cc
kinds_one Html Plain rest left e = absurd cc
kinds_one Html Html rest left e = (refl, cc)

pub kind_one : HasOneValue kind
unfolding kind
kind_one = one_value kind (λ v w rest left is_v is_w e. kinds_one v w rest left e)

abbrev pub construct_of : TextKind × List ℕ → Text
construct_of p = record { kind = p.0; value = p.1 }

pub construct_renames : Renames (pair kind text) construct construct_of (λ t. (t.kind, t.value))
unfolding pair kind text construct
construct_renames = record {
  is = λ b is. is.1;
  bytes = λ b. refl;
  was = λ a is. (tt, is);
  again = λ a. refl;
}

pub construct_begun : (input : List ℕ) → Continues construct input (pair kind text) input construct_of
construct_begun input =
    begun (pair kind text) construct construct_of (λ t. (t.kind, t.value)) construct_renames input

pub construct_one : HasOneValue construct
construct_one =
    renamed_one (pair kind text) construct construct_of (λ t. (t.kind, t.value)) construct_renames
    (pair_one kind text kind_one text_one)

options_one : {A : Type 0} (field : Field A) → AreOne field → (v w : Option A) (rest left : List ℕ)
    → IfSome v field.Is → IfSome w field.Is
    → option_field field.bytes v ++ rest ≡ option_field field.bytes w ++ left → (v ≡ w) × (rest ≡ left)
options_one field are None None rest left is_v is_w e = (refl, cc)
options_one field are None (Some w) rest left is_v is_w e = absurd cc
options_one field are (Some v) None rest left is_v is_w e = absurd cc
options_one field are (Some v) (Some w) rest left is_v is_w e =
    let tails : field.bytes v ++ rest ≡ field.bytes w ++ left = cc in
    let p = are v w rest left is_v is_w tails in
    (ap (λ z. Some z) p.0, p.1)

pub optional_one : {A : Type 0} (field : Field A) → HasOneValue field → HasOneValue (optional field)
unfolding optional
optional_one field one = one_value (optional field) (λ v w rest left is_v is_w e.
    options_one field (are_one field one) v w rest left is_v is_w e)

items_one : {A : Type 0} (field : Field A) → AreOne field → (v w : List A) (rest left : List ℕ) → length v ≡ length w
    → All field.Is v → All field.Is w → flat_map field.bytes v ++ rest ≡ flat_map field.bytes w ++ left
    → (v ≡ w) × (rest ≡ left)
items_one field are [] [] rest left size is_v is_w e = (refl, e)
items_one field are [] (y ∷ w) rest left size is_v is_w e = absurd (omega arith)
items_one field are (x ∷ v) [] rest left size is_v is_w e = absurd (omega arith)
items_one field are (x ∷ v) (y ∷ w) rest left size is_v is_w e =
    let p =
    are x y (flat_map field.bytes v ++ rest) (flat_map field.bytes w ++ left) (All-head field.Is x v is_v)
    (All-head field.Is y w is_w)
    (sym (append_assoc (field.bytes x) (flat_map field.bytes v) rest) ∙ e
    ∙ append_assoc (field.bytes y) (flat_map field.bytes w) left) in
    let q =
    items_one field are v w rest left (omega arith) (All-tail field.Is x v is_v) (All-tail field.Is y w is_w) p.1 in
    (λ i. p.0 i ∷ q.0 i, q.1)

pub listed_one : {A : Type 0} (most : ℕ) (field : Field A) → HasOneValue field → HasOneValue (listed most field)
unfolding listed
listed_one most field one = one_value (listed most field) (λ v w rest left is_v is_w e.
    let sizes : length v ≡ length w = cc in
    let tails : flat_map field.bytes v ++ rest ≡ flat_map field.bytes w ++ left = cc in
    items_one field (are_one field one) v w rest left sizes is_v.1 is_w.1 tails)

-- the list is cut after its first `n`
pub cut : (n : ℕ) (input front rest : List ℕ) → front ≡ take n input → rest ≡ drop n input → input ≡ front ++ rest
cut n input front rest f r = sym (take-append-drop n input) ∙ λ i. sym f i ++ sym r i

pub number_short : (input : List ℕ) → length input < 4 → IsAbsent number input
unfolding number
number_short input short other left is e =
    let four : length (number_field other) ≡ 4 = refl in
    omega (arith, short, ap length e, length-append (number_field other) left)

pub size_short : (input : List ℕ) → length input < 8 → IsAbsent size input
unfolding size
size_short input short other left is e =
    let eight : length (size_field other) ≡ 8 = refl in
    omega (arith, short, ap length e, length-append (size_field other) left)

pub number_found : (input front rest : List ℕ) (n : ℕ) → n < 2 ^ 32 → to_be_bytes w32 n ≡ front → front ≡ take 4 input
    → rest ≡ drop 4 input → BeginsWith number.Is number.bytes input n rest
unfolding number
number_found input front rest n small spelt f r = record {
  lawful = small;
  split = cut 4 input (to_be_bytes w32 n) rest (spelt ∙ f) r;
}

pub size_found : (input front rest : List ℕ) (n : ℕ) → n < 2 ^ 64 → to_be_bytes w64 n ≡ front → front ≡ take 8 input
    → rest ≡ drop 8 input → BeginsWith size.Is size.bytes input n rest
unfolding size
size_found input front rest n small spelt f r = record {
  lawful = small;
  split = cut 8 input (to_be_bytes w64 n) rest (spelt ∙ f) r;
}

pub text_absent : (input : List ℕ) → IsAbsent number input → IsAbsent bytes_of_text input
unfolding number bytes_of_text
text_absent input none other left is e =
    none (length other) (other ++ left) is (e ∙ append_assoc (number_field (length other)) other left)

-- fewer bytes than the number are left
pub text_cut : (input middle : List ℕ) (n : ℕ) → BeginsWith number.Is number.bytes input n middle → length middle < n
    → IsAbsent bytes_of_text input
unfolding number bytes_of_text
text_cut input middle n found short other left is e =
    let p =
    are_one number number_one n (length other) middle (other ++ left) found.lawful is (sym found.split ∙ e
    ∙ append_assoc (number_field (length other)) other left) in
    omega (arith, p.0, ap length p.1, length-append other left)

pub text_found : (input middle front rest : List ℕ) (n : ℕ) → BeginsWith number.Is number.bytes input n middle
    → front ≡ take n middle → rest ≡ drop n middle → length front ≡ n
    → BeginsWith bytes_of_text.Is bytes_of_text.bytes input front rest
unfolding number bytes_of_text
text_found input middle front rest n found f r size = record {
  lawful = omega (arith, found.lawful);
  split =
      found.split ∙ (λ i. number_field (sym size i) ++ cut n middle front rest f r i)
      ∙ sym (append_assoc (number_field (length front)) front rest);
}

pub text_taken : (input rest value : List ℕ) → BeginsWith bytes_of_text.Is bytes_of_text.bytes input value rest
    → IsAtomText value → BeginsWith text.Is text.bytes input value rest
unfolding text
text_taken input rest value found is = narrow_found bytes_of_text text text_narrows input rest value found is

-- the bytes are no text, or memory ran out
pub text_refused : {C : Type 0} (view : C → List ℕ) (input middle bytes : List ℕ) (fault : TextFault)
    (r : Result C FieldFault) → BeginsWith bytes_of_text.Is bytes_of_text.bytes input bytes middle
    → IsTextFault bytes fault → IsErrAnd r (λ s. IsOfText fault s) → ReadsAs view text input r input
unfolding text
text_refused view input middle bytes fault (Ok x) found is same = absurd same
text_refused view input middle bytes (TooLong n) (Err x) found is same =
    let P : FieldFault → Type 0 = λ k. IsFault text input k input in
    subst P (sym same) (
      refl,
      narrow_broken bytes_of_text text text_narrows bytes_of_text_one input middle bytes found
          (λ atom. omega (arith, is.0, atom.short)),
    )
text_refused view input middle bytes (NotXmlChar at) (Err x) found is same =
    let P : FieldFault → Type 0 = λ k. IsFault text input k input in
    subst P (sym same) (
      refl,
      narrow_broken bytes_of_text text text_narrows bytes_of_text_one input middle bytes found
          (λ atom. is.1.longest (length bytes) is.1.before_end (omega arith)
          (subst IsXmlText (sym (take_all (length bytes) bytes (omega arith))) atom.xml)),
    )
text_refused view input middle bytes NoRoom (Err x) found is same =
    let P : FieldFault → Type 0 = λ k. IsFault text input k input in
    subst P (sym same) tt

pub stamp_absent : (input : List ℕ) → IsAbsent size input → IsAbsent stamp input
unfolding size stamp
stamp_absent input none other left is e = none (since_year_zero other) left (omega (arith, ints, is.0, is.1)) e

-- no timestamp is `n` milliseconds after the first
pub stamp_past : (input middle : List ℕ) (n : ℕ) → BeginsWith size.Is size.bytes input n middle
    → ((z : ℤ) → IsStamp z → n ≡ since_year_zero z → ⊥) → IsAbsent stamp input
unfolding size stamp
stamp_past input middle n found past other left is e =
    let p =
    are_one size size_one n (since_year_zero other) middle left found.lawful (omega (arith, ints, is.0, is.1))
    (sym found.split ∙ e) in
    past other is p.0

pub stamp_found : (input rest : List ℕ) (n : ℕ) (z : ℤ) → BeginsWith size.Is size.bytes input n rest → IsStamp z
    → n ≡ since_year_zero z → BeginsWith stamp.Is stamp.bytes input z rest
unfolding size stamp
stamp_found input rest n z found is same = record {
  lawful = is;
  split = found.split ∙ ap (λ k. size_field k ++ rest) same;
}

-- the byte that the input begins with
first : (input rest : List ℕ) (b : ℕ) → BeginsWith byte.Is byte.bytes input b rest → input ≡ b ∷ rest
unfolding byte
first input rest b found = found.split

kind_small : (k : TextKind) → kind_byte k < 256
kind_small Plain = omega arith
kind_small Html = omega arith

pub kind_absent : (input : List ℕ) → IsAbsent byte input → IsAbsent kind input
unfolding byte kind
kind_absent input none other left is e = none (kind_byte other) left (kind_small other) e

kind_unlike : (b : ℕ) (k : TextKind) → b ≢ 0 → b ≢ 1 → b ≡ kind_byte k → ⊥
kind_unlike b Plain none some e = none e
kind_unlike b Html none some e = some e

-- a byte past those of the kinds
pub kind_past : (input rest : List ℕ) (b : ℕ) → BeginsWith byte.Is byte.bytes input b rest → b ≢ 0 → b ≢ 1
    → IsAbsent kind input
unfolding kind
kind_past input rest b found none some other left is e =
    let f : b ∷ rest ≡ kind_byte other ∷ left = sym (first input rest b found) ∙ e in
    kind_unlike b other none some cc

pub kind_found : (input rest : List ℕ) (b : ℕ) (k : TextKind) → BeginsWith byte.Is byte.bytes input b rest
    → b ≡ kind_byte k → BeginsWith kind.Is kind.bytes input k rest
unfolding kind
kind_found input rest b k found is = record {
  lawful = tt;
  split = first input rest b found ∙ ap (λ z. z ∷ rest) is;
}

module _ {A : Type 0} (field : Field A) where
  absent_cases : (input : List ℕ) → IsAbsent byte input → (other : Option A) (left : List ℕ)
      → input ≡ option_field field.bytes other ++ left → ⊥
  unfolding byte
  absent_cases input none None left e = none 0 left (omega arith) e
  absent_cases input none (Some x) left e = none 1 (field.bytes x ++ left) (omega arith) e

  pub optional_absent : (input : List ℕ) → IsAbsent byte input → IsAbsent (optional field) input
  unfolding optional
  optional_absent input none other left is e = absent_cases input none other left e

  past_cases : (rest : List ℕ) (b : ℕ) → b ≢ 0 → b ≢ 1 → (other : Option A) (left : List ℕ)
      → b ∷ rest ≡ option_field field.bytes other ++ left → ⊥
  past_cases rest b none some None left e = none cc
  past_cases rest b none some (Some x) left e = some cc

  -- a byte that is neither 0 nor 1
  pub optional_past : (input rest : List ℕ) (b : ℕ) → BeginsWith byte.Is byte.bytes input b rest → b ≢ 0 → b ≢ 1
      → IsAbsent (optional field) input
  unfolding optional
  optional_past input rest b found none some other left is e =
      past_cases rest b none some other left (sym (first input rest b found) ∙ e)

  stuck_cases : (middle : List ℕ) → IsAbsent field middle → (other : Option A) (left : List ℕ) → IfSome other field.Is
      → 1 ∷ middle ≡ option_field field.bytes other ++ left → ⊥
  stuck_cases middle none None left is e = absurd cc
  stuck_cases middle none (Some x) left is e = none x left is cc

  pub optional_stuck : (input middle : List ℕ) (b : ℕ) → BeginsWith byte.Is byte.bytes input b middle → b ≡ 1
      → IsAbsent field middle → IsAbsent (optional field) input
  unfolding optional
  optional_stuck input middle b found is none other left lawful e =
      stuck_cases middle none other left lawful (ap (λ z. z ∷ middle) (sym is) ∙ sym (first input middle b found) ∙ e)

  pub optional_none : (input rest : List ℕ) (b : ℕ) → BeginsWith byte.Is byte.bytes input b rest → b ≡ 0
      → BeginsWith (optional field).Is (optional field).bytes input None rest
  unfolding optional
  optional_none input rest b found is = record {
    lawful = tt;
    split = first input rest b found ∙ ap (λ z. z ∷ rest) is;
  }

  pub optional_some : (input middle rest : List ℕ) (b : ℕ) (x : A) → BeginsWith byte.Is byte.bytes input b middle
      → b ≡ 1 → BeginsWith field.Is field.bytes middle x rest
      → BeginsWith (optional field).Is (optional field).bytes input (Some x) rest
  unfolding optional
  optional_some input middle rest b x found is f = record {
    lawful = f.lawful;
    split = first input middle b found ∙ (λ i. is i ∷ f.split i);
  }

  -- the input begins with a count and then with these items
  pub record IsGathered (input : List ℕ) (count : ℕ) (items : List A) (rest : List ℕ) : Type 0 where
    pub lawful : All field.Is items
    pub split : input ≡ count ∷ (flat_map field.bytes items ++ rest)

  pub listed_absent : (most : ℕ) (input : List ℕ) → most < 256 → IsAbsent byte input → IsAbsent
      (listed most field) input
  unfolding byte listed
  listed_absent most input small none other left is e =
      none (length other) (flat_map field.bytes other ++ left) (omega (arith, is.0)) e

  -- there are too many items
  pub listed_past : (most : ℕ) (input rest : List ℕ) (b : ℕ) → BeginsWith byte.Is byte.bytes input b rest → most < b
      → IsAbsent (listed most field) input
  unfolding listed
  listed_past most input rest b found past other left is e =
      let f : b ∷ rest ≡ length other ∷ (flat_map field.bytes other ++ left) = sym (first input rest b found) ∙ e in
      let same : b ≡ length other = cc in
      omega (arith, is.0)

  items_stuck : AreOne field → (xs ys : List A) (middle left : List ℕ) → All field.Is xs → All field.Is ys
      → length xs < length ys → flat_map field.bytes xs ++ middle ≡ flat_map field.bytes ys ++ left
      → IsAbsent field middle → ⊥
  items_stuck are xs [] middle left is_xs is_ys few e none = omega arith
  items_stuck are [] (y ∷ ys) middle left is_xs is_ys few e none =
      none y (flat_map field.bytes ys ++ left) (All-head field.Is y ys is_ys) (e
      ∙ append_assoc (field.bytes y) (flat_map field.bytes ys) left)
  items_stuck are (x ∷ xs) (y ∷ ys) middle left is_xs is_ys few e none =
      let p =
      are x y (flat_map field.bytes xs ++ middle) (flat_map field.bytes ys ++ left) (All-head field.Is x xs is_xs)
      (All-head field.Is y ys is_ys)
      (sym (append_assoc (field.bytes x) (flat_map field.bytes xs) middle) ∙ e
      ∙ append_assoc (field.bytes y) (flat_map field.bytes ys) left) in
      items_stuck are xs ys middle left (All-tail field.Is x xs is_xs) (All-tail field.Is y ys is_ys) (omega arith) p.1
      none

  -- the next item isn't there
  pub listed_stuck : HasOneValue field → (most : ℕ) (input middle : List ℕ) (count : ℕ) (items : List A)
      → IsGathered input count items middle → length items < count → IsAbsent field middle
      → IsAbsent (listed most field) input
  unfolding listed
  listed_stuck one most input middle count items g few none other left is e =
      let f : count ∷ (flat_map field.bytes items ++ middle) ≡ length other ∷ (flat_map field.bytes other ++ left) =
      sym g.split ∙ e in
      let same : count ≡ length other = cc in
      let tails : flat_map field.bytes items ++ middle ≡ flat_map field.bytes other ++ left = cc in
      items_stuck (are_one field one) items other middle left g.lawful is.1 (omega arith) tails none

  pub gathered_none : (input rest : List ℕ) (b : ℕ) → BeginsWith byte.Is byte.bytes input b rest
      → IsGathered input b [] rest
  gathered_none input rest b found = record { lawful = All-nil field.Is; split = first input rest b found }

  -- one more item
  pub gathered_more : (input middle rest : List ℕ) (count : ℕ) (items new : List A) (x : A)
      → IsGathered input count items middle → BeginsWith field.Is field.bytes middle x rest → new ≡ items ++ x ∷ []
      → IsGathered input count new rest
  gathered_more input middle rest count items new x g f is =
      subst (λ z. IsGathered input count z rest) (sym is) (record {
        lawful = All-append field.Is items (x ∷ []) g.lawful (All-cons field.Is x [] f.lawful (All-nil field.Is));
        split = g.split ∙ ap (λ z. count ∷ z) (ap (λ z. flat_map field.bytes items ++ z) (f.split
            ∙ ap (λ z. z ++ rest) (sym (append-nil (field.bytes x))))
            ∙ sym (append_assoc (flat_map field.bytes items) (field.bytes x ++ []) rest)
            ∙ ap (λ z. z ++ rest) (sym (flat_map-append field.bytes items (x ∷ []))));
      })

  pub listed_found : (most : ℕ) (input rest : List ℕ) (count : ℕ) (items : List A) → IsGathered input count items rest
      → length items ≡ count → count ≤ most
      → BeginsWith (listed most field).Is (listed most field).bytes input items rest
  unfolding listed
  listed_found most input rest count items g size few = record {
    lawful = (omega arith, g.lawful);
    split = g.split ∙ ap (λ n. n ∷ (flat_map field.bytes items ++ rest)) (sym size);
  }

-- a condition on `Ok` holds if an item was added
pub pushed_items : (r : Result (Unit {0}) ListFault) (b : Bool) → b ≡ is_err r → b ≡ false → {P : Type 0} → OnOk r P → P
pushed_items (Ok x) b is not p = p
pushed_items (Err x) b is not p = absurd (false≢true (sym not ∙ is))

-- a list of short fields is written in its order
pub items_more : {A : Type 0} (bytes : A → List ℕ) (items : List A) (i : ℕ) (x : A) → i < length items
    → x ≡ get_or items i x
    → (length items ∷ flat_map bytes (take i items)) ++ bytes x ≡ length items ∷ flat_map bytes (take (i + 1) items)
items_more bytes items i x below is = ap (λ z. length items ∷ z) (flat_map-more bytes items i x below is)
