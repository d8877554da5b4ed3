-- The decision on an ask after a history: the operation that the ask becomes, or the first refusal that fits
-- (RFC 5023 sections 9.2 to 9.4).
use Rattle.std.specs.Prelude.{ℕ, ◌+◌, List, ℤ, pos, ◌+ℤ◌, int_lt, nat_lt, nat_le, ◌&&◌, if◌then◌else◌, Option, Some}
use Rattle.std.specs.Prelude.{None, Result, Ok, Err, length}
use Rattle.std.specs.Str.{bytes_eq}
use Rattle.atom_values.specs.Entry.{EntryValue, normal}
use Rattle.atom_writer.specs.declared.doc.FeedName.{FeedName}
use Rattle.atom_writer.specs.Pieces.{entry_piece}
use Rattle.deleted_entries.specs.FeedId.{member_id}
use Rattle.member_rules.specs.declared.operation.Op.{Op}
use Rattle.member_rules.specs.declared.operation.Op.TheVariants.{Add, Change, Remove, Set}
use Rattle.member_rules.specs.declared.ask.Ask.{Ask}
use Rattle.member_rules.specs.declared.ask.Ask.TheVariants.{Create, Replace, Delete, Change as ChangeSetting}
use Rattle.member_rules.specs.declared.fault.RuleFault.{RuleFault}
use Rattle.member_rules.specs.declared.fault.RuleFault.TheVariants.{NotFound, Deleted, OtherId, ClockSpent, TooLarge}
use Rattle.member_rules.specs.Fold.{fold_of, made, last_moment}
use Rattle.member_rules.specs.History.{entry_limit, later_of}

infixl 10 ◌>>=◌
abbrev pub ◌>>=◌ : {A B : Type 0} → Result A RuleFault → (A → Result B RuleFault) → Result B RuleFault
(Ok x) >>= f = f x
(Err e) >>= f = Err e

-- the entry of a live member, or the refusal of a deleted one or of one that was never made
abbrev pub live_or_gone : ℕ → Option ℤ → Option EntryValue → Result EntryValue RuleFault
live_or_gone number (Some when) live = Err (Deleted number when)
live_or_gone number None (Some entry) = Ok entry
live_or_gone number None None = Err (NotFound number)

-- the entry of the member with this number; no member has the number 0 or one past the number of members made
unfoldable pub live_entry : List Op → ℕ → Result EntryValue RuleFault
live_entry history number =
    let members = fold_of history in
    if nat_le 1 number && nat_le number (made history)
    then live_or_gone number (members.gone number) (members.live number)
    else Err (NotFound number)

-- a draft that replaces a member's entry may have the member's identifier or none
abbrev pub unless_other : FeedName → ℕ → Option (List ℕ) → Result (Unit {0}) RuleFault
unless_other name number None = Ok tt
unless_other name number (Some given) =
    if bytes_eq given (member_id name.id number) then Ok tt else Err (OtherId number given)

-- the greatest moment, 9999-12-31T23:59:59.999Z
abbrev pub greatest_moment : ℤ
greatest_moment = pos 253_402_300_799_999

-- the clock's moment, but always later than the last one
abbrev pub later_moment : ℤ → ℕ → ℤ
later_moment last now = later_of (last +ℤ pos 1) (pos now)

-- the moment of the next operation
unfoldable pub next_moment : ℤ → List Op → ℕ → Result ℤ RuleFault
next_moment created history now =
    let last = last_moment created history in
    let moment = later_moment last now in
    if int_lt greatest_moment moment then Err (ClockSpent last now) else Ok moment

-- the `updated` of a live member's entry, and the moment of what replaces it by a draft with this identifier
unfoldable pub moments : FeedName → ℤ → List Op → ℕ → Option (List ℕ) → ℕ → Result (ℤ × ℤ) RuleFault
moments name created history number id now =
    live_entry history number
    >>= λ stored. unless_other name number id
    >>= λ _. next_moment created history now
    >>= λ moment. Ok (stored.updated, moment)

-- the operation that sets this entry, unless its piece of a document is too long
unfoldable pub unless_large : FeedName → (EntryValue → Op) → EntryValue → Result Op RuleFault
unless_large name operation entry =
    let size = length (entry_piece name entry) in
    if nat_lt entry_limit size then Err (TooLarge size) else Ok (operation entry)

-- the decision on the ask in the feed of this name, which was made at `created`, with the clock at `now`
unfoldable pub decide : FeedName → ℤ → List Op → Ask → ℕ → Result Op RuleFault
decide name created history (Create draft) now =
    next_moment created history now
    >>= λ moment. unless_large name Add (normal draft (made history + 1) moment None)
decide name created history (Replace number draft) now =
    live_entry history number
    >>= λ stored. unless_other name number draft.id
    >>= λ _. next_moment created history now
    >>= λ moment. unless_large name Change (normal draft number moment (Some stored.updated))
decide name created history (Delete number) now =
    live_entry history number
    >>= λ stored. next_moment created history now
    >>= λ moment. Ok (Remove record {
      tombstone = record { number = number; when = later_of moment stored.updated };
      moment = moment;
    })
decide name created history (ChangeSetting setting) now =
    next_moment created history now
    >>= λ moment. Ok (Set setting moment)
