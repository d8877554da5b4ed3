-- `Report::offer`: the answers that end a report, and those that it has.
use Rattle.std.proofs.Common.{◌≡◌, ◌≢◌, ◌⊎◌, inl, inr, ℕ, Some, None, Ok, Err, refl, sym, ◌∙◌, subst}
use Rattle.feed_disk.specs.declared.area.Area.TheVariants.{Journal, Sealed, Mirror}
use Rattle.mirror_walk.specs.Accept.{Answer}
use Rattle.mirror_walk.specs.declared.answer.Accepted.TheVariants.{Taken}
use Rattle.mirror_walk.specs.declared.answer.Offered.TheVariants as why
use Rattle.command_ends.specs.declared.fault.Fault.{Fault}
use Rattle.command_ends.specs.declared.fault.Fault.TheVariants.{BadStore, Disk, Full, Input, NoMemory, Refused}
use Rattle.command_ends.specs.Fault.{IsRefusal}
use Rattle.mirror_commands.specs.MirrorFaults.{full_fault}
use Rattle.mirror_commands.specs.Report.{IsReportable, room_fault}
use Rattle.mirror_commands.specs.Reporting.{MayEndOffer}

-- an answer that ends no report
pub reportable : (answer : Answer) → room_fault answer ≡ None → IsReportable answer
reportable (Ok accepted) e = tt
reportable (Err (why.NotADocument at)) e = λ room. room
reportable (Err (why.WrongAddress says)) e = λ room. room
reportable (Err (why.WrongFeed kept given)) e = λ room. room
reportable (Err (why.Conflict at kept given)) e = λ room. room
reportable (Err (why.Break last first)) e = λ room. room
reportable (Err (why.Full size needed capacity)) e = absurd (cc)
reportable (Err why.DiskFault) e = absurd (cc)
reportable (Err why.NoMemory) e = absurd (cc)

-- the answer of a mirror that has one, unless memory ran out or a device call failed
pub reported-answer : (P : Type 0) (answer : Answer) → room_fault answer ≡ None
    → (answer ≡ Err why.NoMemory) ⊎ (answer ≡ Err why.DiskFault) ⊎ P → P
reported-answer P answer e (inl is) = absurd (subst IsReportable is (reportable answer e) tt)
reported-answer P answer e (inr (inl is)) = absurd (subst IsReportable is (reportable answer e) tt)
reported-answer P answer e (inr (inr p)) = p

pub reportable-not_disk : (answer : Answer) → room_fault answer ≡ None → answer ≢ Err why.DiskFault
reportable-not_disk answer e is = subst IsReportable is (reportable answer e) tt

-- the fault that an answer has

pub room-own : (answer : Answer) (fault : Fault) → room_fault answer ≡ Some fault → MayEndOffer fault
room-own (Ok accepted) fault e = absurd (cc)
room-own (Err (why.NotADocument at)) fault e = absurd (cc)
room-own (Err (why.WrongAddress says)) fault e = absurd (cc)
room-own (Err (why.WrongFeed kept given)) fault e = absurd (cc)
room-own (Err (why.Conflict at kept given)) fault e = absurd (cc)
room-own (Err (why.Break last first)) fault e = absurd (cc)
room-own (Err (why.Full size needed capacity)) fault e =
    let same : full_fault size needed capacity ≡ fault = cc in subst MayEndOffer same tt
room-own (Err why.DiskFault) fault e = let same : Disk ≡ fault = cc in subst MayEndOffer same tt
room-own (Err why.NoMemory) fault e = let same : NoMemory ≡ fault = cc in subst MayEndOffer same tt

pub room-full : (answer : Answer) (size needed capacity : ℕ)
    → room_fault answer ≡ Some (full_fault size needed capacity) → answer ≡ Err (why.Full size needed capacity)
room-full (Ok accepted) size needed capacity e = absurd (cc)
room-full (Err (why.NotADocument at)) size needed capacity e = absurd (cc)
room-full (Err (why.WrongAddress says)) size needed capacity e = absurd (cc)
room-full (Err (why.WrongFeed kept given)) size needed capacity e = absurd (cc)
room-full (Err (why.Conflict at kept given)) size needed capacity e = absurd (cc)
room-full (Err (why.Break last first)) size needed capacity e = absurd (cc)
room-full (Err (why.Full s n c)) size needed capacity e = cc
room-full (Err why.DiskFault) size needed capacity e = absurd (cc)
room-full (Err why.NoMemory) size needed capacity e = absurd (cc)

pub room-disk : (answer : Answer) → room_fault answer ≡ Some Disk → answer ≡ Err why.DiskFault
room-disk (Ok accepted) e = absurd (cc)
room-disk (Err (why.NotADocument at)) e = absurd (cc)
room-disk (Err (why.WrongAddress says)) e = absurd (cc)
room-disk (Err (why.WrongFeed kept given)) e = absurd (cc)
room-disk (Err (why.Conflict at kept given)) e = absurd (cc)
room-disk (Err (why.Break last first)) e = absurd (cc)
room-disk (Err (why.Full s n c)) e = absurd (cc)
room-disk (Err why.DiskFault) e = refl
room-disk (Err why.NoMemory) e = absurd (cc)

-- an answer with a fault other than that of the disk
pub room-not_disk : (answer : Answer) (fault : Fault) → room_fault answer ≡ Some fault → fault ≢ Disk
    → answer ≢ Err why.DiskFault
room-not_disk answer fault e other is =
    let same : Some fault ≡ Some Disk = sym e ∙ (subst (λ (a : Answer). room_fault a ≡ room_fault (Err why.DiskFault))
    (sym is) refl) in
    other (cc)

pub room-not_taken : (answer : Answer) (fault : Fault) → room_fault answer ≡ Some fault → answer ≢ Ok Taken
room-not_taken answer fault e is =
    let same : Some fault ≡ None = sym e ∙ (subst (λ (a : Answer). room_fault a ≡ room_fault (Ok Taken))
    (sym is) refl) in
    absurd (cc)

-- the fault of an offer that refuses is that of a full area
pub offered-refused : (P : Fault → Type 0) (fault : Fault) → MayEndOffer fault → IsRefusal fault
    → ((size needed capacity : ℕ) → fault ≡ full_fault size needed capacity → P (full_fault size needed capacity))
    → P fault
offered-refused P NoMemory may refusal p = absurd refusal
offered-refused P Disk may refusal p = absurd refusal
offered-refused P (Full Mirror size needed capacity) may refusal p = p size needed capacity refl
offered-refused P (Full Journal size needed capacity) may refusal p = absurd may
offered-refused P (Full Sealed size needed capacity) may refusal p = absurd may
offered-refused P Input may refusal p = absurd may
offered-refused P (BadStore bad) may refusal p = absurd may
offered-refused P (Refused refused) may refusal p = absurd may
