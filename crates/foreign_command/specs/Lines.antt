-- The lines of `foreign`.
use Rattle.std.specs.Prelude.{ℕ, List, ◌++◌, flat_map, length, codes, decimal, true}
use Rattle.atom_values.specs.Escape.{escaped}
use Rattle.atom_values.specs.Stamp.{printed}
use Rattle.feed_reader.specs.declared.values.ForeignEntry.{ForeignEntry}
use Rattle.foreign_mirror.specs.declared.walk.ChainEnd.{ChainEnd}
use Rattle.foreign_mirror.specs.declared.walk.ChainEnd.TheVariants.{Complete, Again, NotHttp, TooMany, Missing, NotRead}
use Rattle.foreign_mirror.specs.declared.walk.ChainEnd.TheVariants.{OtherFeed}
use Rattle.command_ends.specs.Answer.{Answer}
use Rattle.command_ends.specs.Printed.{address_line}
use Rattle.command_ends.specs.declared.status.Status.TheVariants.{Done, Incomplete}

-- a live entry by its identifier, its `updated` and its title, which are escaped as in an attribute
abbrev pub entry_line : ForeignEntry → List ℕ
entry_line e =
    codes "entry " ++ escaped true e.id ++ codes " " ++ printed e.updated ++ codes " " ++ escaped true e.title
    ++ codes "\n"

-- the number of documents, and that of live entries
abbrev pub complete_line : ℕ → ℕ → List ℕ
complete_line docs live = codes "complete " ++ decimal docs ++ codes " " ++ decimal live ++ codes "\n"

abbrev pub not_read_line : List ℕ → ℕ → List ℕ
not_read_line address at = codes "not read " ++ address ++ codes " " ++ decimal at ++ codes "\n"

-- what a walk that took these documents prints, by its end, and the status
abbrev pub foreign_answer : ℕ → List ForeignEntry → ChainEnd → Answer
foreign_answer docs live Complete =
    record { status = Done; printed = flat_map entry_line live ++ complete_line docs (length live) }
foreign_answer docs live (Again address) =
    record { status = Incomplete; printed = address_line (codes "chain again ") address }
foreign_answer docs live (NotHttp address) =
    record { status = Incomplete; printed = address_line (codes "not http ") address }
foreign_answer docs live TooMany = record { status = Incomplete; printed = codes "too many documents\n" }
foreign_answer docs live (Missing address) =
    record { status = Incomplete; printed = address_line (codes "missing ") address }
foreign_answer docs live (NotRead address at why) =
    record { status = Incomplete; printed = not_read_line address at }
foreign_answer docs live (OtherFeed address) =
    record { status = Incomplete; printed = address_line (codes "other feed ") address }
