-- The lines of `discover`.
use Rattle.std.specs.Prelude.{ℕ, List, ◌++◌, Bool, flat_map, codes, if◌then◌else◌}
use Rattle.std.specs.List.{list_any}
use Rattle.command_ends.specs.Answer.{Answer}
use Rattle.command_ends.specs.Fault.{refusal_answer}
use Rattle.command_ends.specs.Printed.{address_line}
use Rattle.command_ends.specs.declared.fault.Refusal.TheVariants.{BadService}
use Rattle.command_ends.specs.declared.status.Status.TheVariants.{Done, Incomplete}
use Rattle.service_reader.specs.declared.values.Collection.{Collection}

abbrev pub kind_word : Bool → List ℕ
kind_word entries = if entries then codes " entries\n" else codes " closed\n"

-- a collection by its address, and whether it takes entries
abbrev pub collection_line : Collection → List ℕ
collection_line c = codes "collection " ++ c.href ++ kind_word c.entries

-- what is printed of a document with these collections: all of them, if one takes entries
abbrev pub collections_answer : List Collection → Answer
collections_answer collections =
    if list_any (λ c. c.entries) collections
    then record { status = Done; printed = flat_map collection_line collections }
    else record { status = Incomplete; printed = codes "no collection\n" }

-- what is printed if there is no document at the address
abbrev pub missing_answer : List ℕ → Answer
missing_answer address = record { status = Incomplete; printed = address_line (codes "missing ") address }

-- what is printed of a document that is refused at this offset
abbrev pub refused_answer : ℕ → Answer
refused_answer at = refusal_answer (BadService at)
