-- The state of a door, as contracts see it.
use Rattle.std.specs.Prelude.{◌≡◌, ℕ, ◌+◌, ◌-◌, List, [], ◌∷◌, ◌++◌, Option, Some, None}
use Rattle.http_face.specs.Conn.{ConnState}

-- the connections to come, those that were given back, in order, how many were given out and not given back, and the
-- count of failed calls
pub record DoorState : Type 0 where
  pub left : List ConnState
  pub back : List ConnState
  pub out : ℕ
  pub faults : ℕ

-- the same connections are left, out and given back
pub record SameLinks (s t : DoorState) : Type 0 where
  pub left : t.left ≡ s.left
  pub back : t.back ≡ s.back
  pub out : t.out ≡ s.out

-- the door gives the next connection, or has none left
abbrev pub Gives : Option ConnState → DoorState → DoorState → Type 0
Gives None s t = (s.left ≡ []) × SameLinks s t
Gives (Some link) s t = (s.left ≡ link ∷ t.left) × (t.back ≡ s.back) × (t.out ≡ s.out + 1)

-- the door with this connection given back
abbrev pub with_back : DoorState → ConnState → DoorState
with_back s link = record { left = s.left; back = s.back ++ link ∷ []; out = s.out - 1; faults = s.faults }
