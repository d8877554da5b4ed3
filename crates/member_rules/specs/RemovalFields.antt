-- The fields of a removal in the order in which they are read.
use Rattle.std.specs.Prelude.{ℕ, ℤ, [], ◌∷◌, ◌≤ℤ◌}
use Rattle.atom_values.specs.Stamp.{IsStamp}
use Rattle.atom_writer.specs.Pieced.{Pieced}
use Rattle.member_rules.specs.Coding.{number_field, stamp_field}
use Rattle.member_rules.specs.FieldLists.{one, both}
use Rattle.member_rules.specs.Fields.{Field, counted, stamp}
use Rattle.member_rules.specs.Removal.{RemovalValue, IsRemoval}

-- a timestamp that isn't before this one
unfoldable pub stamp_from : ℤ → Field ℤ
stamp_from moment = record { Is = λ when. IsStamp when × (moment ≤ℤ when); bytes = stamp_field }

-- number, moment, when
abbrev pub parts : Pieced (ℕ × (ℤ × ℤ))
parts = both (one counted) (λ _. both (one stamp) (λ moment. one (stamp_from moment)))

abbrev pub removal_of : ℕ × (ℤ × ℤ) → RemovalValue
removal_of p = record { tombstone = record { number = p.0; when = p.1.1 }; moment = p.1.0 }

-- removals, and the fields of each
unfoldable pub removals : Pieced RemovalValue
removals = record {
  Is = IsRemoval;
  pieces =
      λ r. number_field r.tombstone.number ∷ stamp_field r.moment ∷ stamp_field r.tombstone.when ∷ [];
}
