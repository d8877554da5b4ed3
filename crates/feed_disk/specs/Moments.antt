-- The images that a run of device calls leaves at each of its moments.
use Rattle.std.specs.Prelude.{◌≡◌, ◌⊎◌, ℕ, ◌-◌, ◌^◌, ◌<◌, ◌≤◌, List}
use Rattle.atom_values.specs.Counts.{HasRisen}
use Rattle.feed_disk.specs.Disk.{DiskState}
use Rattle.feed_disk.specs.declared.area.Area.{Area}

-- From s on, each image of the area at a moment c satisfies P c. The moments until s stay as they were.
pub record LeavesOnly (s t : DiskState) (a : Area) (P : ℕ → List ℕ → Type 0) : Type 0 where
  pub later : s.clock ≤ t.clock
  pub each : (c : ℕ) (i : List ℕ) → t.image_at a c i → s.image_at a c i ⊎ (HasRisen s.clock c × P c i)
  pub keeps : (c : ℕ) (i : List ℕ) → s.image_at a c i → t.image_at a c i

-- each image of now satisfies P
abbrev pub NowOnly : DiskState → Area → (List ℕ → Type 0) → Type 0
NowOnly t a P = (i : List ℕ) → t.image_now a i → P i

-- each image of a moment from s on, and each image of now, satisfies P
pub record AlwaysLeaves (s t : DiskState) (a : Area) (P : List ℕ → Type 0) : Type 0 where
  pub moments : LeavesOnly s t a (λ _. P)
  pub now : NowOnly t a P

-- the area is as it was, at each moment
pub record LeavesAlone (s t : DiskState) (a : Area) : Type 0 where
  pub leaves : LeavesOnly s t a (λ _. s.image_now a)
  pub now : NowOnly t a (s.image_now a)
  pub still : NowOnly s a (t.image_now a)
  pub content : t.content a ≡ s.content a

-- From s on, each pair of images of two areas at one moment satisfies P. It is each pair, because the areas are
-- independent.
pub record LeavesOnlyBoth (s t : DiskState) (a b : Area) (P : ℕ → List ℕ → List ℕ → Type 0) : Type 0 where
  pub first : LeavesOnly s t a (λ _ _. Unit {0})
  pub second : LeavesOnly s t b (λ _ _. Unit {0})
  pub each : t.clock < 2 ^ 64 - 1 → (c : ℕ) (i j : List ℕ) → s.clock < c
      → t.image_at a c i → t.image_at b c j → P c i j
