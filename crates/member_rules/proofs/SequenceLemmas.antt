-- Lists of fields are compared and read one part after another.
use Rattle.std.proofs.Common.{◌≡◌, ◌≢◌, ℕ, List, [], ◌∷◌, ◌++◌, refl, sym, ap, subst, ◌∙◌, append-nil, append_assoc, length, nat_eq, true, false, true≢false, eqb-true, arith}
use Rattle.std.specs.Prelude.{Bool, Option, Result, Ok, Err}
use Rattle.std.specs.Bool.{then_some}
use Rattle.std.specs.Option.{ok_or}
use Rattle.std.specs.Result.{IsErrAnd}
use Rattle.atom_writer.specs.Pieced.{Pieced, IsRefused, text_of}
use Rattle.atom_writer.specs.Pieces.{joined}
use Rattle.atom_writer.specs.Reading.{BeginsWith}
use Rattle.atom_writer.proofs.PieceLemmas.{joined-append, joined-none, joined-one}
use Rattle.atom_writer.proofs.PiecedLemmas.{AreCompared}
use Rattle.atom_writer.proofs.SameLemmas.{Same, Same-nil, Same-cons}
use Rattle.member_rules.specs.Fields as fields
use Rattle.member_rules.specs.Fields.{Field, HasOneValue, IsAbsent}
use Rattle.member_rules.specs.FieldLists.{one, both, StopsAt, IsFault, ReadsAll, ReadsWhole}
use Rattle.member_rules.specs.declared.codec.fault.FieldFault.{FieldFault}
use Rattle.member_rules.specs.declared.codec.fault.FieldFault.TheVariants.{Mismatch, NoMemory}

-- Lists of fields are compared: equal lists have equal values, and neither goes on at a field of which the other is a
-- proper prefix. Some value has such a list.
pub record IsSequence {A : Type 0} (p : Pieced A) : Type 1 where
  pub example : A
  pub lawful : p.Is example
  pub heads : (v w : A) → p.Is v → p.Is w → (rest left : List (List ℕ)) → p.pieces v ++ rest ≡ p.pieces w ++ left
      → (v ≡ w) × (rest ≡ left)
  pub same : (v w : A) → p.Is v → p.Is w → (R : Type 0) (rest left : List (List ℕ)) → (v ≡ w → Same rest left R)
      → Same (p.pieces v ++ rest) (p.pieces w ++ left) R

pub sequence_one : {A : Type 0} (field : Field A) → HasOneValue field → (example : A) → field.Is example
    → IsSequence (one field)
unfolding one
sequence_one field alone example is = record {
  example = example;
  lawful = is;
  heads = λ v w is_v is_w rest left e.
      let pieces : field.bytes v ≡ field.bytes w = cc in
      let tails : rest ≡ left = cc in (
        (alone (field.bytes v) v w [] [] (record { lawful = is_v; split = sym (append-nil (field.bytes v)) })
            (record { lawful = is_w; split = pieces ∙ sym (append-nil (field.bytes w)) })).0,
        tails,
      );
  same = λ v w is_v is_w R rest left more. Same-cons field.Is field.bytes alone v w is_v is_w rest left more;
}

pub sequence_both : {A B : Type 0} (first : Pieced A) (second : A → Pieced B) → IsSequence first
    → ((v : A) → first.Is v → IsSequence (second v)) → IsSequence (both first second)
unfolding both
sequence_both {A} {B} first second f s = record {
  example = (f.example, (s f.example f.lawful).example);
  lawful = (f.lawful, (s f.example f.lawful).lawful);
  heads = λ v w is_v is_w rest left e.
      let h =
      f.heads v.0 w.0 is_v.0 is_w.0 ((second v.0).pieces v.1 ++ rest) ((second w.0).pieces w.1 ++ left)
      (sym (append_assoc (first.pieces v.0) ((second v.0).pieces v.1) rest) ∙ e
      ∙ append_assoc (first.pieces w.0) ((second w.0).pieces w.1) left) in
      let P : A → Type 0 = λ z. (second z).Is w.1 in
      let t =
      (s v.0 is_v.0).heads v.1 w.1 is_v.1 (subst P (sym h.0) is_w.1) rest left (h.1
      ∙ ap (λ z. (second z).pieces w.1 ++ left) (sym h.0)) in
      (λ i. (h.0 i, t.0 i), t.1);
  same = λ v w is_v is_w R rest left more.
      let P : List (List ℕ) → Type 0 = λ z. Same z ((first.pieces w.0 ++ (second w.0).pieces w.1) ++ left) R in
      let Q : List (List ℕ) → Type 0 =
      λ z. Same (first.pieces v.0 ++ ((second v.0).pieces v.1 ++ rest)) z R in
      subst P (sym (append_assoc (first.pieces v.0) ((second v.0).pieces v.1) rest))
      (subst Q (sym (append_assoc (first.pieces w.0) ((second w.0).pieces w.1) left))
      (f.same v.0 w.0 is_v.0 is_w.0 R ((second v.0).pieces v.1 ++ rest) ((second w.0).pieces w.1 ++ left) (λ heads.
      let K : A → Type 0 = λ z. (second z).Is w.1 in
      let L : A → Type 0 =
      λ z. Same ((second v.0).pieces v.1 ++ rest) ((second z).pieces w.1 ++ left) R in
      subst L heads ((s v.0 is_v.0).same v.1 w.1 is_v.1 (subst K (sym heads) is_w.1) R rest left
      (λ tails. more (λ i. (heads i, tails i)))))));
}

pub sequence_compared : {A : Type 0} (p : Pieced A) → IsSequence p → AreCompared p
sequence_compared p s a b is_a is_b =
    let P : List (List ℕ) → Type 0 = λ z. Same z (p.pieces b ++ []) (a ≡ b) in
    let Q : List (List ℕ) → Type 0 = λ z. Same (p.pieces a) z (a ≡ b) in
    subst Q (append-nil (p.pieces b)) (subst P (append-nil (p.pieces a)) (s.same a b is_a is_b (a ≡ b) [] [] Same-nil))

-- the first field isn't there
pub stops_one : {A : Type 0} (field : Field A) → (example : A) → field.Is example → (input : List ℕ)
    → IsAbsent field input → StopsAt (one field) input input
unfolding one
stops_one field example is input none = record {
  read = [];
  split = ap (λ (z : List ℕ). z ++ input) (sym joined-none);
  value = example;
  lawful = is;
  next = field.bytes example;
  later = [];
  begins = refl;
  stuck = λ other lawful behind p after left e f.
      let heads : field.bytes other ≡ p = cc in
      none other after lawful (f ∙ ap (λ z. z ++ after) (sym heads));
}

-- reading stops in the first list
pub stops_first : {A B : Type 0} (first : Pieced A) (second : A → Pieced B)
    → ((v : A) → first.Is v → IsSequence (second v)) → (input rest : List ℕ) → StopsAt first input rest
    → StopsAt (both first second) input rest
unfolding both
stops_first first second s input rest stop = record {
  read = stop.read;
  split = stop.split;
  value = (stop.value, (s stop.value stop.lawful).example);
  lawful = (stop.lawful, (s stop.value stop.lawful).lawful);
  next = stop.next;
  later = stop.later ++ (second stop.value).pieces (s stop.value stop.lawful).example;
  begins =
      ap (λ z. z ++ (second stop.value).pieces (s stop.value stop.lawful).example) stop.begins
      ∙ append_assoc stop.read (stop.next ∷ stop.later)
      ((second stop.value).pieces (s stop.value stop.lawful).example);
  stuck = λ other lawful behind p after left e f.
      stop.stuck other.0 lawful.0 ((second other.0).pieces other.1 ++ behind) p after left
      (sym (append_assoc (first.pieces other.0) ((second other.0).pieces other.1) behind) ∙ e) f;
}

-- the first list is read, and reading stops in the second
pub stops_second : {A B : Type 0} (first : Pieced A) (second : A → Pieced B) → IsSequence first
    → (input middle rest : List ℕ) (v : A) → BeginsWith first.Is (text_of first) input v middle
    → StopsAt (second v) middle rest → StopsAt (both first second) input rest
unfolding both
stops_second {A} first second s input middle rest v found stop = record {
  read = first.pieces v ++ stop.read;
  split =
      found.split ∙ ap (λ z. joined (first.pieces v) ++ z) stop.split
      ∙ sym (append_assoc (joined (first.pieces v)) (joined stop.read) rest)
      ∙ ap (λ z. z ++ rest) (sym (joined-append (first.pieces v) stop.read));
  value = (v, stop.value);
  lawful = (found.lawful, stop.lawful);
  next = stop.next;
  later = stop.later;
  begins =
      ap (λ z. first.pieces v ++ z) stop.begins
      ∙ sym (append_assoc (first.pieces v) stop.read (stop.next ∷ stop.later));
  stuck = λ other lawful behind p after left e f.
      let h =
      s.heads other.0 v lawful.0 found.lawful ((second other.0).pieces other.1 ++ behind)
      (stop.read ++ p ∷ left)
      (sym (append_assoc (first.pieces other.0) ((second other.0).pieces other.1) behind) ∙ e
      ∙ append_assoc (first.pieces v) stop.read (p ∷ left)) in
      let K : A → Type 0 = λ z. (second z).Is other.1 in
      stop.stuck other.1 (subst K h.0 lawful.1) behind p after left
      (ap (λ z. (second z).pieces other.1 ++ behind) (sym h.0) ∙ h.1) f;
}

pub both_read : {A B : Type 0} (first : Pieced A) (second : A → Pieced B) (input middle rest : List ℕ) (v : A) (w : B)
    → BeginsWith first.Is (text_of first) input v middle
    → BeginsWith (second v).Is (text_of (second v)) middle w rest
    → BeginsWith (both first second).Is (text_of (both first second)) input (v, w) rest
unfolding both
both_read first second input middle rest v w f s = record {
  lawful = (f.lawful, s.lawful);
  split =
      f.split ∙ ap (λ z. joined (first.pieces v) ++ z) s.split
      ∙ sym (append_assoc (joined (first.pieces v)) (joined ((second v).pieces w)) rest)
      ∙ ap (λ z. z ++ rest) (sym (joined-append (first.pieces v) ((second v).pieces w)));
}

pub one_read : {A : Type 0} (field : Field A) (input rest : List ℕ) (v : A)
    → BeginsWith field.Is field.bytes input v rest → BeginsWith (one field).Is (text_of (one field)) input v rest
unfolding one
one_read field input rest v f = record {
  lawful = f.lawful;
  split = f.split ∙ ap (λ z. z ++ rest) (sym (joined-one (field.bytes v)));
}

-- After some fields of `whole` were read at `input`, `left` remains to be read at `middle`. Its value completes the
-- value of the whole.
pub record Continues {A B : Type 0} (whole : Pieced B) (input : List ℕ) (left : Pieced A) (middle : List ℕ)
    (complete : A → B) : Type 0 where
  pub found : (value : A) (rest : List ℕ) → BeginsWith left.Is (text_of left) middle value rest
      → BeginsWith whole.Is (text_of whole) input (complete value) rest
  pub stops : (rest : List ℕ) → StopsAt left middle rest → StopsAt whole input rest

pub begun : {A : Type 0} (whole : Pieced A) (input : List ℕ) → Continues whole input whole input (λ value. value)
begun whole input = record { found = λ value rest f. f; stops = λ rest s. s }

-- one more list was read
pub then : {A B C : Type 0} {whole : Pieced C} {input middle after : List ℕ} {complete : A × B → C} {value : A}
    (first : Pieced A) (second : A → Pieced B) → IsSequence first
    → Continues whole input (both first second) middle complete
    → BeginsWith first.Is (text_of first) middle value after
    → Continues whole input (second value) after (λ more. complete (value, more))
then {value} first second s so f = record {
  found = λ more rest g. so.found (value, more) rest (both_read first second _ _ _ _ _ f g);
  stops = λ rest stop. so.stops rest (stops_second first second s _ _ _ _ f stop);
}

-- the fault of a field that was to be read next
pub stopped_field : {A B C : Type 0} (field : Field A) (view : C → B) (whole : Pieced B) (at after input : List ℕ)
    (e : FieldFault) (r : Result C FieldFault) → fields.IsFault field at e after → IsErrAnd r (λ s. s ≡ e)
    → (IsAbsent field at → StopsAt whole input at) → ReadsAll view whole input r after
stopped_field field view whole at after input e (Ok x) s same f = absurd same
stopped_field field view whole at after input Mismatch (Err x) s same f =
    let P : FieldFault → Type 0 = λ k. IsFault whole input k after in
    subst P (sym same) (subst (λ z. StopsAt whole input z) (sym s.0) (f s.1))
stopped_field field view whole at after input NoMemory (Err x) s same f =
    let P : FieldFault → Type 0 = λ k. IsFault whole input k after in
    subst P (sym same) tt

-- the fault of a list of fields that was to be read next
pub stopped_list : {A B C : Type 0} (list : Pieced A) (view : C → B) (whole : Pieced B) (at after input : List ℕ)
    (e : FieldFault) (r : Result C FieldFault) → IsFault list at e after → IsErrAnd r (λ s. s ≡ e)
    → (StopsAt list at after → StopsAt whole input after) → ReadsAll view whole input r after
stopped_list list view whole at after input e (Ok x) s same f = absurd same
stopped_list list view whole at after input Mismatch (Err x) s same f =
    let P : FieldFault → Type 0 = λ k. IsFault whole input k after in
    subst P (sym same) (f s)
stopped_list list view whole at after input NoMemory (Err x) s same f =
    let P : FieldFault → Type 0 = λ k. IsFault whole input k after in
    subst P (sym same) tt

-- one kind of values is another, seen in another way
pub record Renames {A B : Type 0} (from : Pieced B) (to : Pieced A) (there : B → A) (back : A → B) : Type 0 where
  pub is : (b : B) → from.Is b → to.Is (there b)
  pub pieces : (b : B) → from.pieces b ≡ to.pieces (there b)
  pub was : (a : A) → to.Is a → from.Is (back a)
  pub again : (a : A) → there (back a) ≡ a

pub renamed : {A B : Type 0} (from : Pieced B) (to : Pieced A) (there : B → A) (back : A → B)
    → Renames from to there back → (input : List ℕ) → Continues to input from input there
renamed from to there back r input = record {
  found = λ value rest f. record {
    lawful = r.is value f.lawful;
    split = f.split ∙ ap (λ z. joined z ++ rest) (r.pieces value);
  };
  stops = λ rest s. record {
    read = s.read;
    split = s.split;
    value = there s.value;
    lawful = r.is s.value s.lawful;
    next = s.next;
    later = s.later;
    begins = sym (r.pieces s.value) ∙ s.begins;
    stuck = λ other lawful behind p after left e f.
        s.stuck (back other) (r.was other lawful) behind p after left
        (ap (λ z. z ++ behind) (r.pieces (back other) ∙ ap to.pieces (r.again other)) ∙ e) f;
  };
}

pub renamed_compared : {A B : Type 0} (from : Pieced B) (to : Pieced A) (there : B → A) (back : A → B)
    → Renames from to there back → AreCompared from → AreCompared to
renamed_compared {A} from to there back r compared a b is_a is_b =
    let s = compared (back a) (back b) (r.was a is_a) (r.was b is_b) in
    let same_a : from.pieces (back a) ≡ to.pieces a = r.pieces (back a) ∙ ap to.pieces (r.again a) in
    let same_b : from.pieces (back b) ≡ to.pieces b = r.pieces (back b) ∙ ap to.pieces (r.again b) in
    let P : List (List ℕ) → Type 0 = λ z. Same z (to.pieces b) (a ≡ b) in
    let Q : List (List ℕ) → Type 0 = λ z. Same (from.pieces (back a)) z (a ≡ b) in
    subst P same_a (subst Q same_b (record {
      free = s.free;
      whole = s.whole;
      value = λ e. sym (r.again a) ∙ ap there (s.value e) ∙ r.again b;
    }))

-- reading stops before a whole value
pub stops_refused : {A : Type 0} (p : Pieced A) (input rest : List ℕ) → StopsAt p input rest
    → IsRefused p [] input rest
stops_refused p input rest s = record {
  more = s.read;
  split = s.split;
  begins = record { value = s.value; lawful = s.lawful; later = s.next ∷ s.later; begins = s.begins };
  unfinished = λ e _. absurd cc;
  stuck = λ q after begins e. s.stuck begins.value begins.lawful [] q after begins.later
      (append-nil (p.pieces begins.value) ∙ begins.begins ∙ append_assoc s.read (q ∷ []) begins.later) e;
}

-- some bytes are left after a whole value
left_refused : {A : Type 0} (p : Pieced A) → AreCompared p → (input rest : List ℕ) (v : A)
    → BeginsWith p.Is (text_of p) input v rest → rest ≢ [] → IsRefused p [] input rest
left_refused p compared input rest v found some = record {
  more = p.pieces v;
  split = found.split;
  begins = record { value = v; lawful = found.lawful; later = []; begins = sym (append-nil (p.pieces v)) };
  unfinished = λ _ e. some e;
  stuck = λ q after begins e.
      let longer : p.pieces begins.value ≡ p.pieces v ++ (q ∷ begins.later) =
      begins.begins ∙ append_assoc (p.pieces v) (q ∷ []) begins.later in
      let none = (compared begins.value v begins.lawful found.lawful).whole (q ∷ begins.later) longer in
      absurd cc;
}

-- the fault of a list of fields is that of all the bytes
pub not_whole : {A : Type 0} (p : Pieced A) (input after : List ℕ) (e : FieldFault) (r : Result A FieldFault)
    → IsFault p input e after → IsErrAnd r (λ s. s ≡ e) → ReadsWhole p input r after
not_whole p input after e (Ok x) s same = absurd same
not_whole p input after Mismatch (Err x) s same =
    let P : FieldFault → Type 0 = λ k. ReadsWhole p input (Err k) after in
    subst P (sym same) (stops_refused p input after s)
not_whole p input after NoMemory (Err x) s same =
    let P : FieldFault → Type 0 = λ k. ReadsWhole p input (Err k) after in
    subst P (sym same) tt

-- nothing is left
whole_read : {A : Type 0} (p : Pieced A) (input rest : List ℕ) (v : A) → BeginsWith p.Is (text_of p) input v rest
    → nat_eq (length rest) 0 ≡ true → p.Is v × (input ≡ text_of p v)
whole_read p input [] v found none = (found.lawful, found.split ∙ append-nil (joined (p.pieces v)))
whole_read p input (x ∷ rest) v found none = absurd (omega (arith, eqb-true (length (x ∷ rest)) 0 none))

some_left : (rest : List ℕ) → nat_eq (length rest) 0 ≡ false → rest ≢ []
some_left rest some none = true≢false (sym (ap (λ (z : List ℕ). nat_eq (length z) 0) none) ∙ some)

-- the bytes are all read, or some are left
pub ended : {A : Type 0} (p : Pieced A) → AreCompared p → (input rest : List ℕ) (v : A) (whole : Bool) (o : Option A)
    (r : Result A FieldFault) → BeginsWith p.Is (text_of p) input v rest → whole ≡ nat_eq (length rest) 0
    → o ≡ then_some whole v → r ≡ ok_or o Mismatch → ReadsWhole p input r rest
ended p compared input rest v true o r found none some is =
    subst (λ s. ReadsWhole p input s rest) (sym (is ∙ ap (λ s. ok_or s Mismatch) some))
    (whole_read p input rest v found (sym none))
ended p compared input rest v false o r found more some is =
    subst (λ s. ReadsWhole p input s rest) (sym (is ∙ ap (λ s. ok_or s Mismatch) some))
    (left_refused p compared input rest v found (some_left rest (sym more)))

-- the refusal of all the bytes
pub whole_refused : {A : Type 0} (p : Pieced A) (input after : List ℕ) (e : FieldFault) → e ≡ Mismatch
    → ReadsWhole p input (Err e) after → IsRefused p [] input after
whole_refused p input after Mismatch is r = r
whole_refused p input after NoMemory is r = absurd cc
