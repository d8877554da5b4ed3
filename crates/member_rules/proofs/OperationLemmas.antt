-- The fields of operations, by the kind that the first byte tells.
use Rattle.std.proofs.Common.{◌≡◌, ◌≢◌, ℕ, ℤ, pos, List, [], ◌∷◌, ◌++◌, refl, sym, ap, subst, ◌∙◌, append-nil, append_assoc, arith}
use Rattle.std.proofs.lemmas.Int.{ints}
use Rattle.atom_values.specs.Entry.{EntryValue}
use Rattle.atom_writer.specs.Pieced.{text_of}
use Rattle.atom_writer.specs.Pieces.{joined}
use Rattle.atom_writer.proofs.PieceLemmas.{joined-cons, joined-none}
use Rattle.atom_writer.proofs.PiecedLemmas.{AreCompared}
use Rattle.atom_writer.proofs.SameLemmas.{Same, Same-cons}
use Rattle.member_rules.specs.Coding.{add_tag, change_tag, remove_tag, set_tag, number_field, stamp_field, setting_fields, operation_fields, operations}
use Rattle.member_rules.specs.EntryFields.{entries}
use Rattle.member_rules.specs.FieldLists.{one, both, StopsAt}
use Rattle.member_rules.specs.Fields.{byte, counted, stamp, IsAbsent}
use Rattle.member_rules.specs.Operation.{IsOperation}
use Rattle.member_rules.specs.Removal.{RemovalValue, IsRemoval}
use Rattle.member_rules.specs.RemovalFields.{parts, removal_of, removals, stamp_from}
use Rattle.member_rules.specs.SettingFields.{settings, sets, set_of}
use Rattle.member_rules.specs.declared.operation.Op.{Op}
use Rattle.member_rules.specs.declared.operation.Op.TheVariants.{Add, Change, Remove, Set}
use Rattle.member_rules.specs.declared.setting.Setting.{Setting}
use Rattle.member_rules.proofs.EntrySequences.{counted_sequence, stamp_sequence, entries_compared}
use Rattle.member_rules.proofs.FieldLemmas.{byte_one}
use Rattle.member_rules.proofs.KindLemmas.{IsKind, same_map}
use Rattle.member_rules.proofs.RuledLemmas.{from_one}
use Rattle.member_rules.proofs.SettingLemmas.{sets_compared}
use Rattle.member_rules.proofs.SequenceLemmas.{IsSequence, Continues, Renames, sequence_one, sequence_both, sequence_compared, stops_one, renamed, renamed_compared}

from_is : (moment : ℤ) → stamp.Is moment → (stamp_from moment).Is moment
unfolding stamp stamp_from
from_is moment is = (is, omega (arith, ints))

pub from_sequence : (moment : ℤ) → stamp.Is moment → IsSequence (one (stamp_from moment))
from_sequence moment is = sequence_one (stamp_from moment) (from_one moment) moment (from_is moment is)

pub from_stops : (moment : ℤ) → stamp.Is moment → (input : List ℕ) → IsAbsent (stamp_from moment) input
    → StopsAt (one (stamp_from moment)) input input
from_stops moment is input none = stops_one (stamp_from moment) moment (from_is moment is) input none

first_is : (moment : ℤ) → (one stamp).Is moment → stamp.Is moment
unfolding one
first_is moment is = is

pub moments_sequence : IsSequence (both (one stamp) (λ moment. one (stamp_from moment)))
moments_sequence =
    sequence_both (one stamp) (λ moment. one (stamp_from moment)) stamp_sequence (λ moment is.
    from_sequence moment (first_is moment is))

pub moment_tail : (moment : ℤ) → (one stamp).Is moment → IsSequence (one (stamp_from moment))
moment_tail moment is = from_sequence moment (first_is moment is)

pub removal_parts : RemovalValue → ℕ × (ℤ × ℤ)
removal_parts r = (r.tombstone.number, (r.moment, r.tombstone.when))

removal_renames : Renames parts removals removal_of removal_parts
unfolding one both counted stamp stamp_from removals removal_parts
removal_renames = record {
  is = λ b is. record {
    tombstone = record { number = is.0; when = is.1.1.0 };
    moment = is.1.0;
    in_order = is.1.1.1;
  };
  pieces = λ b. refl;
  was = λ r is. (is.tombstone.number, (is.moment, (is.tombstone.when, is.in_order)));
  again = λ r. refl;
}

pub removal_begun : (input : List ℕ) → Continues removals input parts input removal_of
removal_begun input = renamed parts removals removal_of removal_parts removal_renames input

parts_sequence : IsSequence parts
parts_sequence =
    sequence_both (one counted) (λ _. both (one stamp) (λ moment. one (stamp_from moment))) counted_sequence
    (λ _ _. moments_sequence)

removals_compared : AreCompared removals
removals_compared =
    renamed_compared parts removals removal_of removal_parts removal_renames (sequence_compared parts parts_sequence)

-- the first byte
tag_of : Op → ℕ
tag_of (Add entry) = add_tag
tag_of (Change entry) = change_tag
tag_of (Remove removal) = remove_tag
tag_of (Set setting moment) = set_tag

-- the fields after it
body_of : Op → List (List ℕ)
body_of (Add entry) = entries.pieces entry
body_of (Change entry) = entries.pieces entry
body_of (Remove removal) = removals.pieces removal
body_of (Set setting moment) = sets.pieces (moment, setting)

fields-is : (o : Op) → operation_fields o ≡ (tag_of o ∷ []) ∷ body_of o
unfolding tag_of body_of entries removals one both stamp settings
fields-is (Add entry) = refl
fields-is (Change entry) = refl
fields-is (Remove removal) = refl
fields-is (Set setting moment) = refl

tag_in : (o : Op) (behind : List (List ℕ)) (p : List ℕ) (more : List (List ℕ))
    → operation_fields o ++ behind ≡ p ∷ more → tag_of o ∷ [] ≡ p
tag_in o behind p more e =
    let f : (tag_of o ∷ []) ∷ (body_of o ++ behind) ≡ p ∷ more = ap (λ z. z ++ behind) (sym (fields-is o)) ∙ e in
    cc

add_only : (o : Op) → tag_of o ≡ add_tag → (entry : EntryValue) × (o ≡ Add entry)
unfolding tag_of
add_only (Add entry) e = (entry, refl)
add_only _ e = absurd (omega (arith, e))

change_only : (o : Op) → tag_of o ≡ change_tag → (entry : EntryValue) × (o ≡ Change entry)
unfolding tag_of
change_only (Change entry) e = (entry, refl)
change_only _ e = absurd (omega (arith, e))

remove_only : (o : Op) → tag_of o ≡ remove_tag → (removal : RemovalValue) × (o ≡ Remove removal)
unfolding tag_of
remove_only (Remove removal) e = (removal, refl)
remove_only _ e = absurd (omega (arith, e))

set_only : (o : Op) → tag_of o ≡ set_tag → (s : ℤ × Setting) × (o ≡ set_of s)
unfolding tag_of
set_only (Set setting moment) e = ((moment, setting), refl)
set_only _ e = absurd (omega (arith, e))

tagged : (o : Op) (behind : List (List ℕ)) (tag : ℕ) (more : List (List ℕ))
    → operation_fields o ++ behind ≡ (tag ∷ []) ∷ more → tag_of o ≡ tag
tagged o behind tag more e =
    let f : tag_of o ∷ [] ≡ tag ∷ [] = tag_in o behind (tag ∷ []) more e in
    cc

pub adds : IsKind operations add_tag entries (λ e. Add e)
unfolding entries
adds = record {
  is = λ a is. is;
  was = λ a is. is;
  pieces = λ a. refl;
  only = λ o behind more e. add_only o (tagged o behind add_tag more e);
}

pub changes : IsKind operations change_tag entries (λ e. Change e)
unfolding entries
changes = record {
  is = λ a is. is;
  was = λ a is. is;
  pieces = λ a. refl;
  only = λ o behind more e. change_only o (tagged o behind change_tag more e);
}

pub removes : IsKind operations remove_tag removals (λ r. Remove r)
unfolding removals
removes = record {
  is = λ a is. is;
  was = λ a is. is;
  pieces = λ a. refl;
  only = λ o behind more e. remove_only o (tagged o behind remove_tag more e);
}

pub set_kind : IsKind operations set_tag sets set_of
unfolding one both stamp settings
set_kind = record {
  is = λ a is. (is.1, is.0);
  was = λ a is. (is.1, is.0);
  pieces = λ a. refl;
  only = λ o behind more e. set_only o (tagged o behind set_tag more e);
}

bodies : (a b : Op) → IsOperation a → IsOperation b → tag_of a ≡ tag_of b → Same (body_of a) (body_of b) (a ≡ b)
unfolding tag_of body_of entries removals one both stamp settings
bodies (Add x) (Add y) is_a is_b same =
    same_map (entries.pieces x) (entries.pieces y) (λ e. ap (λ z. Add z) e) (entries_compared x y is_a is_b)
bodies (Change x) (Change y) is_a is_b same =
    same_map (entries.pieces x) (entries.pieces y) (λ e. ap (λ z. Change z) e) (entries_compared x y is_a is_b)
bodies (Remove x) (Remove y) is_a is_b same =
    same_map (removals.pieces x) (removals.pieces y) (λ e. ap (λ z. Remove z) e) (removals_compared x y is_a is_b)
bodies (Set x m) (Set y n) is_a is_b same =
    same_map (sets.pieces (m, x)) (sets.pieces (n, y)) (λ e. ap set_of e)
    (sets_compared (m, x) (n, y) (is_a.1, is_a.0) (is_b.1, is_b.0))
bodies _ _ is_a is_b same = absurd (omega (arith, same))

tag_small : (o : Op) → byte.Is (tag_of o)
unfolding byte tag_of
tag_small (Add entry) = omega arith
tag_small (Change entry) = omega arith
tag_small (Remove removal) = omega arith
tag_small (Set setting moment) = omega arith

pub operations_compared : AreCompared operations
unfolding byte
operations_compared a b is_a is_b =
    let P : List (List ℕ) → Type 0 = λ z. Same z (operation_fields b) (a ≡ b) in
    let Q : List (List ℕ) → Type 0 = λ z. Same ((tag_of a ∷ []) ∷ body_of a) z (a ≡ b) in
    subst P (sym (fields-is a)) (subst Q (sym (fields-is b))
    (Same-cons byte.Is byte.bytes byte_one (tag_of a) (tag_of b) (tag_small a) (tag_small b) (body_of a) (body_of b)
    (λ same. bodies a b is_a is_b same)))

-- the first byte is that of no kind
none_there : (input : List ℕ) → ((after : List ℕ) → input ≢ add_tag ∷ after)
    → ((after : List ℕ) → input ≢ change_tag ∷ after) → ((after : List ℕ) → input ≢ remove_tag ∷ after)
    → ((after : List ℕ) → input ≢ set_tag ∷ after) → (o : Op) (after : List ℕ) → input ≢ tag_of o ∷ after
unfolding tag_of
none_there input no_add no_change no_remove no_set (Add entry) after e = no_add after e
none_there input no_add no_change no_remove no_set (Change entry) after e = no_change after e
none_there input no_add no_change no_remove no_set (Remove removal) after e = no_remove after e
none_there input no_add no_change no_remove no_set (Set setting moment) after e = no_set after e

example : RemovalValue
example = record { tombstone = record { number = 1; when = pos 0 }; moment = pos 0 }

example_is : IsRemoval example
unfolding example
example_is = record {
  tombstone = record { number = (omega arith, omega arith); when = (omega (arith, ints), omega (arith, ints)) };
  moment = (omega (arith, ints), omega (arith, ints));
  in_order = omega (arith, ints);
}

pub no_kind : (input : List ℕ) → ((after : List ℕ) → input ≢ add_tag ∷ after)
    → ((after : List ℕ) → input ≢ change_tag ∷ after) → ((after : List ℕ) → input ≢ remove_tag ∷ after)
    → ((after : List ℕ) → input ≢ set_tag ∷ after) → StopsAt operations input input
no_kind input no_add no_change no_remove no_set = record {
  read = [];
  split = ap (λ (z : List ℕ). z ++ input) (sym joined-none);
  value = Remove example;
  lawful = example_is;
  next = remove_tag ∷ [];
  later =
      number_field example.tombstone.number ∷ stamp_field example.moment ∷ stamp_field example.tombstone.when ∷ [];
  begins = refl;
  stuck = λ other lawful behind p after left e f.
      none_there input no_add no_change no_remove no_set other after
      (f ∙ ap (λ z. z ++ after) (sym (tag_in other behind p left e)));
}

-- the fields that are written one after another
pub removal_written : (r : RemovalValue)
    → number_field r.tombstone.number ++ stamp.bytes r.moment ++ stamp.bytes r.tombstone.when ≡ text_of removals r
unfolding stamp removals
removal_written r = sym (simp (joined-cons, joined-none, append-nil, append_assoc))

pub tagged_written : (o : Op) (tag : ℕ) (later : List (List ℕ)) → operation_fields o ≡ (tag ∷ []) ∷ later
    → tag ∷ joined later ≡ text_of operations o
tagged_written o tag later is = sym (ap joined is ∙ joined-cons (tag ∷ []) later)

-- the same of a change of a setting
pub set_written : (setting : Setting) (moment : ℤ)
    → (set_tag ∷ []) ++ stamp.bytes moment ++ text_of settings setting ≡ text_of operations (Set setting moment)
unfolding stamp settings
set_written setting moment =
    sym (joined-cons (set_tag ∷ []) (stamp_field moment ∷ setting_fields setting)
    ∙ ap (λ z. set_tag ∷ z) (joined-cons (stamp_field moment) (setting_fields setting)))
