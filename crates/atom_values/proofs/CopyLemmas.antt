-- The parts of a copy equal those of the value.
use Rattle.std.proofs.Common.{◌≡◌, List, map, Option, ap, sym, ◌∙◌}
use Rattle.std.proofs.lemmas.Iterator.Adapters.{option_map_id}
use Rattle.std.proofs.lemmas.List.{map-id}
use Rattle.std.specs.Option.{option_map}
use Rattle.atom_values.specs.Listed.{Listed}

-- an option whose value is copied whole
pub option_copied : {A : Type 0} (copy from : Option A) → option_map (λ v. v) copy ≡ option_map (λ v. v) from
    → copy ≡ from
option_copied copy from same = sym (option_map_id copy) ∙ same ∙ option_map_id from

-- the items of a list, without its spare room
abbrev pub all_but_spare : {A : Type 0} → List A → Listed A
all_but_spare items = record { items = map (λ v. v) items; spare = 0 }

pub items_copied : {A : Type 0} (copy from : List A) → all_but_spare copy ≡ all_but_spare from → copy ≡ from
items_copied {A} copy from same = sym (map-id copy) ∙ ap (λ (l : Listed A). l.items) same ∙ map-id from
