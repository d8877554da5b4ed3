-- The slots as the links of a list.
use Rattle.std.specs.Prelude.{◌≡◌, ℕ, zero, suc, ◌<◌, List, [], ◌∷◌, false, ◌==◌, Option, Some, None, set, length, slice_index_or}
use Rattle.std.specs.List.{IsDistinct, list_any}
use Rattle.recency_list.specs.declared.slots.Slot.{Slot}

-- a slot that isn't in the list
abbrev pub unlisted : Slot
unlisted = record { newer = None; older = None }

-- the slot at an index, where a slot that doesn't exist isn't in the list
abbrev pub slot_at : List Slot → ℕ → Slot
slot_at slots at = slice_index_or slots at unlisted

-- the slot at an index with another neighbour
abbrev pub facing_newer_at : Option ℕ → Option ℕ → List Slot → List Slot
facing_newer_at None newer slots = slots
facing_newer_at (Some at) newer slots = set slots at (record (slot_at slots at) { newer = newer })

abbrev pub facing_older_at : Option ℕ → Option ℕ → List Slot → List Slot
facing_older_at None older slots = slots
facing_older_at (Some at) older slots = set slots at (record (slot_at slots at) { older = older })

-- at most this number of slots, from this one on along the older neighbours
abbrev pub followed : ℕ → List Slot → Option ℕ → List ℕ
followed zero slots start = []
followed (suc most) slots None = []
followed (suc most) slots (Some at) = at ∷ followed most slots (slot_at slots at).older

-- the list that begins at this slot
abbrev pub listed : List Slot → Option ℕ → List ℕ
listed slots first = followed (length slots) slots first

-- the first slot of a list, or the one behind the list
abbrev pub first_or : List ℕ → Option ℕ → Option ℕ
first_or [] behind = behind
first_or (at ∷ _) behind = Some at

-- the slot exists, between these neighbours
pub record IsLinked (slots : List Slot) (at : ℕ) (newer older : Option ℕ) : Type 0 where
  pub exists : at < length slots
  pub is : slot_at slots at ≡ record { newer = newer; older = older }

-- each slot of a part of the list has its neighbours there, between the slots before and behind the part
abbrev pub AreLinked : List Slot → Option ℕ → List ℕ → Option ℕ → Type 0
AreLinked slots before [] behind = Unit {0}
AreLinked slots before (at ∷ rest) behind =
    IsLinked slots at before (first_or rest behind) × AreLinked slots (Some at) rest behind

-- the slots are those of the list
pub record IsOrder (slots : List Slot) (first : Option ℕ) (list : List ℕ) : Type 0 where
  pub starts : first ≡ first_or list None
  pub linked : AreLinked slots None list None
  pub distinct : IsDistinct (λ slot other. slot == other) list
  pub others : (at : ℕ) → list_any (λ other. at == other) list ≡ false → slot_at slots at ≡ unlisted
