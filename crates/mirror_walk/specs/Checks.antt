-- The results of the checks that an offer goes through.
use Rattle.std.specs.Prelude.{◌≡◌, List, Option, Some, None, Result, Ok, Err}
use Rattle.atom_writer.specs.Doc.{DocValue}
use Rattle.mirror_walk.specs.declared.answer.Accepted.{Accepted}
use Rattle.mirror_walk.specs.declared.answer.Offered.{Offered}
use Rattle.mirror_walk.specs.declared.answer.Offered.TheVariants.{NotADocument, WrongAddress, WrongFeed}
use Rattle.mirror_walk.specs.declared.answer.Offered.TheVariants.{Conflict}
use Rattle.mirror_walk.specs.declared.answer.Offered.TheVariants.{Break, Full, DiskFault, NoMemory}
use Rattle.mirror_walk.specs.Holding.{KeptValue}
use Rattle.mirror_walk.specs.Accept.{Answer, counterpart, stale}

-- the refusal is the answer that fits, unless memory ran out
abbrev pub Refuses : Option Answer → Offered → Type 0
Refuses answer NoMemory = Unit {0}
Refuses answer (NotADocument at) = answer ≡ Some (Err (NotADocument at))
Refuses answer (WrongAddress says) = answer ≡ Some (Err (WrongAddress says))
Refuses answer (WrongFeed kept given) = answer ≡ Some (Err (WrongFeed kept given))
Refuses answer (Conflict address kept given) = answer ≡ Some (Err (Conflict address kept given))
Refuses answer (Full size needed capacity) = answer ≡ Some (Err (Full size needed capacity))
Refuses answer DiskFault = answer ≡ Some (Err DiskFault)
Refuses answer (Break last first) = answer ≡ Some (Err (Break last first))

-- the check passes if no answer fits, and else refuses
abbrev pub Checks : {A : Type 0} → Option Answer → Result A Offered → Type 0
Checks answer (Ok _) = answer ≡ None
Checks answer (Err refusal) = Refuses answer refusal

-- the same of a check that may also end the offer without a refusal
abbrev pub Compares : Option Answer → Result (Option Accepted) Offered → Type 0
Compares answer (Ok None) = answer ≡ None
Compares answer (Ok (Some accepted)) = answer ≡ Some (Ok accepted)
Compares answer (Err refusal) = Refuses answer refusal

-- no document is held in the place of this one, and it isn't stale
pub record IsNew (kept : List KeptValue) (document : DocValue) : Type 0 where
  pub counterpart : counterpart kept document ≡ None
  pub stale : stale kept document ≡ None
