-- The reply to a request on a store, and the operation that the store gains, row by row (RFC 5023, RFC 9110).
use Rattle.std.specs.Prelude.{◌≡◌, ◌≢◌, ◌⊎◌, ℕ, ◌-◌, List, ◌++◌, length, slice_get, Option, Some, None, Ok, Err}
use Rattle.std.specs.Prelude.{◌==◌, Bool, true, false, not}
use Rattle.std.specs.Prelude.{codes, decimal, take_while}
use Rattle.std.specs.Str.{str_eq_ignore_ascii_case}
use Rattle.atom_values.specs.Entry.{DraftValue, EntryValue, IsDraft}
use Rattle.atom_values.specs.Space.{trimmed}
use Rattle.chain_links.specs.Address.{IsAddress, IsTarget, printed}
use Rattle.chain_links.specs.declared.address.Address.{Address}
use Rattle.chain_links.specs.declared.address.Address.TheVariants.{Feed, Archive, Member}
use Rattle.atom_writer.specs.Members.{member_text}
use Rattle.atom_writer.specs.Pieced.{text_of}
use Rattle.atom_writer.specs.Pieces.{text}
use Rattle.atom_writer.specs.declared.doc.FeedName.{FeedName}
use Rattle.entry_reader.specs.Refusal.{IsRefusedAt}
use Rattle.entry_reader.specs.Spells.{Spells}
use Rattle.entry_reader.specs.declared.fault.Why.{Why}
use Rattle.entry_reader.specs.declared.fault.Why.TheVariants as why
use Rattle.feed_disk.specs.declared.area.Area.{Area}
use Rattle.feed_disk.specs.declared.area.Area.TheVariants.{Journal, Sealed, Mirror}
use Rattle.feed_journal.specs.Log.{payload_lengths}
use Rattle.feed_recovery.specs.Documents.{IsLiveDocument, IsMemberDocument, IsSealed}
use Rattle.feed_recovery.specs.Opening.{seal_of}
use Rattle.feed_recovery.specs.Prepare.{Fits, IsDueSeal, IsFullArea, SealFits, decision_of}
use Rattle.feed_recovery.specs.Store.{StoreValue}
use Rattle.feed_recovery.specs.declared.fault.PrepareFault.{PrepareFault}
use Rattle.feed_recovery.specs.declared.fault.PrepareFault.TheVariants as prepare
use Rattle.http_face.specs.Reply.{disk_changed, document_reply, line_reply, no_memory, not_allowed, not_found, not_implemented}
use Rattle.http_face.specs.Request.{RequestValue}
use Rattle.http_face.specs.declared.request.Verb.{Verb}
use Rattle.http_face.specs.declared.request.Verb.TheVariants.{Get, Post, Put, Delete, Other}
use Rattle.http_face.specs.declared.reply.Allow.TheVariants.{OfFeed, OfArchive, OfMember}
use Rattle.http_face.specs.declared.reply.Body.TheVariants.{Made}
use Rattle.http_face.specs.declared.reply.Line7.TheVariants as line
use Rattle.http_face.specs.declared.reply.Media.{Media}
use Rattle.http_face.specs.declared.reply.Media.TheVariants as media
use Rattle.http_face.specs.declared.reply.Reply.{Reply}
use Rattle.member_rules.specs.Coding.{operations}
use Rattle.member_rules.specs.Documents as documents
use Rattle.member_rules.specs.Fold.{fold_of, state_of}
use Rattle.member_rules.specs.declared.ask.Ask.{Ask}
use Rattle.member_rules.specs.declared.ask.Ask.TheVariants as ask
use Rattle.member_rules.specs.declared.fault.RuleFault.{RuleFault}
use Rattle.member_rules.specs.declared.fault.RuleFault.TheVariants as rule
use Rattle.member_rules.specs.declared.operation.Op.{Op}
use Rattle.member_rules.specs.declared.operation.Op.TheVariants.{Add, Change, Remove, Set}
use Rattle.member_rules.specs.declared.state.State.{State}
use Rattle.member_rules.specs.declared.state.State.TheVariants as member

-- Replies

abbrev pub made_reply : ℕ → List ℕ → Reply
made_reply status line =
    record { status = status; media = media.Plain; location = None; allow = None; body = Made line }

abbrev pub gone : Reply
gone = line_reply 410 line.Gone

-- an ask that the rules of the feed refuse
abbrev pub rule_reply : RuleFault → Reply
rule_reply (rule.NotFound number) = not_found
rule_reply (rule.Deleted number when) = gone
rule_reply (rule.OtherId number given) = line_reply 409 line.OtherId
rule_reply (rule.ClockSpent last now) = line_reply 500 line.Clock
rule_reply (rule.TooLarge length) = line_reply 413 line.EntryTooLarge
rule_reply rule.NoMemory = no_memory

abbrev pub area_word : Area → List ℕ
area_word Journal = codes "journal"
area_word Sealed = codes "sealed"
area_word Mirror = codes "mirror"

abbrev pub spaced : ℕ → List ℕ
spaced number = codes " " ++ decimal number

-- an operation for which an area has no room
abbrev pub full_reply : Area → ℕ → ℕ → ℕ → Reply
full_reply area size needed capacity =
    made_reply 507 (codes "full " ++ area_word area ++ spaced size ++ spaced needed ++ spaced capacity ++ codes "\n")

-- the reply to an ask that isn't prepared; out of memory has none here
abbrev pub IsRefusedBy : PrepareFault → Reply → Type 0
IsRefusedBy (prepare.Rule fault) reply = reply ≡ rule_reply fault
IsRefusedBy (prepare.Full area size needed capacity) reply = reply ≡ full_reply area size needed capacity
IsRefusedBy prepare.NoMemory reply = ⊥

abbrev pub why_word : Why → List ℕ
why_word why.NotUtf8 = codes "NotUtf8"
why_word why.Doctype = codes "Doctype"
why_word why.NotWellFormed = codes "NotWellFormed"
why_word why.TooDeep = codes "TooDeep"
why_word why.NotAnEntry = codes "NotAnEntry"
why_word why.Xhtml = codes "Xhtml"
why_word why.OutOfLine = codes "OutOfLine"
why_word why.Draft = codes "Draft"
why_word why.Missing = codes "Missing"
why_word why.Twice = codes "Twice"
why_word why.BadDate = codes "BadDate"
why_word why.TooMany = codes "TooMany"

-- a body that isn't read as an entry; a draft is refused by a status of its own (RFC 5023 section 13.1.1)
abbrev pub entry_refusal : ℕ → Why → Reply
entry_refusal at why.Draft = line_reply 403 line.Draft
entry_refusal at why = made_reply 400 (codes "entry" ++ spaced at ++ codes " " ++ why_word why ++ codes "\n")

-- a change that is made: the member document, and the address of a new member (RFC 5023 sections 9.2 to 9.4); no
-- request asks for a setting
abbrev pub done_reply : FeedName → Op → Reply
done_reply name (Add entry) = record {
  status = 201;
  media = media.Entry;
  location = Some (printed name.base (Member entry.number));
  allow = None;
  body = Made (member_text name entry);
}
done_reply name (Change entry) = document_reply media.Entry (member_text name entry)
done_reply name (Remove removal) = line_reply 200 line.Deleted
done_reply name (Set setting moment) = made_reply 200 (codes "set\n")

-- The outcome of a request

-- the reply, and the operation that the history gains, if it gains one
pub record Outcome : Type 0 where
  pub reply : Reply
  pub adds : Option Op

-- the store stays as it is
abbrev pub unchanged : Reply → Outcome
unchanged reply = record { reply = reply; adds = None }

-- the change is made
abbrev pub done : FeedName → Op → Outcome
done name operation = record { reply = done_reply name operation; adds = Some operation }

-- the operation fits into the journal, and the seal that is due and missing into the sealed area
pub record HasRoomFor (store : StoreValue) (operation : Op) : Type 0 where
  pub seal : (seal : Option (List ℕ)) → IsDueSeal store seal → SealFits store seal
  pub journal : Fits store.journal (text_of operations operation) store.head.capacity

-- an operation that the rules accept is made, or an area is full
abbrev pub IsAccepted : StoreValue → Op → Outcome → Type 0
IsAccepted store operation given =
    ((area : Area) × (size : ℕ) × (needed : ℕ) × (capacity : ℕ)
    × IsFullArea store operation area size needed capacity
    × (given ≡ unchanged (full_reply area size needed capacity)))
    ⊎ (HasRoomFor store operation × (given ≡ done store.head.name operation))

-- the rules of the feed refuse an ask, or accept it as an operation
abbrev pub IsAsked : StoreValue → Ask → ℕ → Outcome → Type 0
IsAsked store ask now given =
    ((fault : RuleFault) × (decision_of store ask now ≡ Err fault) × (given ≡ unchanged (rule_reply fault)))
    ⊎ ((operation : Op) × (decision_of store ask now ≡ Ok operation) × IsAccepted store operation given)

-- the byte before the first parameter of a media type
abbrev pub semicolon : ℕ
semicolon = 59

-- A media type without its parameters is that of Atom. Case and white space around it don't count (RFC 9110 section
-- 8.3.1).
abbrev pub is_atom_type : List ℕ → Bool
is_atom_type value =
    str_eq_ignore_ascii_case (trimmed (take_while (λ b. not (b == semicolon)) value)) (codes "application/atom+xml")

-- a body without a media type is taken as an entry
abbrev pub is_entry_media : Option (List ℕ) → Bool
is_entry_media None = true
is_entry_media (Some value) = is_atom_type value

-- the body is read as a draft, which is asked for, or refused
abbrev pub IsRead : StoreValue → List ℕ → (DraftValue → Ask) → ℕ → Outcome → Type 0
IsRead store body asked now given =
    ((at : ℕ) × (reason : Why) × IsRefusedAt body at reason × (given ≡ unchanged (entry_refusal at reason)))
    ⊎ ((draft : DraftValue) × IsDraft draft × Spells body draft × IsAsked store (asked draft) now given)

-- a request with an entry in its body
abbrev pub IsSent : StoreValue → RequestValue → (DraftValue → Ask) → ℕ → Outcome → Type 0
IsSent store request asked now given =
    ((is_entry_media request.media ≡ false) × (given ≡ unchanged (line_reply 415 line.NotEntryType)))
    ⊎ ((is_entry_media request.media ≡ true) × IsRead store request.body asked now given)

-- a request of a member, by its state
abbrev pub IsOfState : State → (Outcome → Type 0) → Outcome → Type 0
IsOfState member.Never live given = given ≡ unchanged not_found
IsOfState (member.Gone when) live given = given ≡ unchanged gone
IsOfState (member.Live updated version) live given = live given

-- the subscription document
abbrev pub IsFeedShown : StoreValue → Outcome → Type 0
IsFeedShown store given =
    given ≡ unchanged (document_reply media.Feed (text (documents.subscription store.head store.history)))

abbrev pub IsOfFeed : StoreValue → RequestValue → ℕ → Verb → Outcome → Type 0
IsOfFeed store request now Get given = IsFeedShown store given
IsOfFeed store request now Post given = IsSent store request (λ draft. ask.Create draft) now given
IsOfFeed store request now _ given = given ≡ unchanged (not_allowed OfFeed)

-- the text of a sealed archive
abbrev pub IsArchiveShown : StoreValue → ℕ → Outcome → Type 0
IsArchiveShown store number given =
    given ≡ unchanged (document_reply media.Feed (seal_of store.head store.history number))

-- the member document of the entry that a live member has
abbrev pub IsMemberShown : StoreValue → ℕ → Outcome → Type 0
IsMemberShown store number given =
    (entry : EntryValue) × ((fold_of store.history).live number ≡ Some entry)
    × (given ≡ unchanged (document_reply media.Entry (member_text store.head.name entry)))

-- the outcomes of a GET of a sealed archive and of a live member, by their number: the documents that are read from the
-- disk
pub record Shown : Type 1 where
  pub archive : ℕ → Outcome → Type 0
  pub member : ℕ → Outcome → Type 0

abbrev pub shown_by : StoreValue → Shown
shown_by store = record { archive = IsArchiveShown store; member = IsMemberShown store }

-- a request of an archive, of which a GET has these outcomes
abbrev pub IsOfArchiveAs : (Outcome → Type 0) → StoreValue → ℕ → Verb → Outcome → Type 0
IsOfArchiveAs shown store number Get given =
    (IsSealed store number × shown given) ⊎ ((¬ IsSealed store number) × (given ≡ unchanged not_found))
IsOfArchiveAs shown store number _ given = given ≡ unchanged (not_allowed OfArchive)

abbrev pub IsOfArchive : StoreValue → ℕ → Verb → Outcome → Type 0
IsOfArchive store number verb given = IsOfArchiveAs (IsArchiveShown store number) store number verb given

-- a request of a member, of which a GET has these outcomes while it is live
abbrev pub IsOfMemberAs : (Outcome → Type 0) → StoreValue → RequestValue → ℕ → ℕ → Verb → Outcome → Type 0
IsOfMemberAs shown store request now number Get given = IsOfState (state_of store.history number) shown given
IsOfMemberAs shown store request now number Put given =
    IsOfState (state_of store.history number)
    (IsSent store request (λ draft. ask.Replace number draft) now) given
IsOfMemberAs shown store request now number Delete given =
    IsOfState (state_of store.history number) (IsAsked store (ask.Delete number) now) given
IsOfMemberAs shown store request now number _ given = given ≡ unchanged (not_allowed OfMember)

abbrev pub IsOfMember : StoreValue → RequestValue → ℕ → ℕ → Verb → Outcome → Type 0
IsOfMember store request now number verb given =
    IsOfMemberAs (IsMemberShown store number) store request now number verb given

abbrev pub IsAtAddressAs : Shown → StoreValue → RequestValue → ℕ → Address → Outcome → Type 0
IsAtAddressAs shown store request now Feed given = IsOfFeed store request now request.verb given
IsAtAddressAs shown store request now (Archive number) given =
    IsOfArchiveAs (shown.archive number) store number request.verb given
IsAtAddressAs shown store request now (Member number) given =
    IsOfMemberAs (shown.member number) store request now number request.verb given

abbrev pub IsAtAddress : StoreValue → RequestValue → ℕ → Address → Outcome → Type 0
IsAtAddress store request now address given = IsAtAddressAs (shown_by store) store request now address given

-- the target is no address of the feed, or a document's
abbrev pub IsOfTargetAs : Shown → StoreValue → RequestValue → ℕ → Outcome → Type 0
IsOfTargetAs shown store request now given =
    (((address : Address) → IsAddress address → ¬ IsTarget store.head.name.base address request.target)
    × (given ≡ unchanged not_found))
    ⊎ ((address : Address) × IsAddress address × IsTarget store.head.name.base address request.target
    × IsAtAddressAs shown store request now address given)

abbrev pub IsOutcomeAs : Shown → StoreValue → RequestValue → ℕ → Outcome → Type 0
IsOutcomeAs shown store request now given =
    ((request.verb ≡ Other) × (given ≡ unchanged (not_implemented)))
    ⊎ ((request.verb ≢ Other) × IsOfTargetAs shown store request now given)

-- the outcome of a request on a store at a moment of the clock, if neither memory nor disk fails
abbrev pub IsOutcome : StoreValue → RequestValue → ℕ → Outcome → Type 0
IsOutcome store request now given = IsOutcomeAs (shown_by store) store request now given

-- The same over any disk. `observable` says whether contracts see the disk's content.

-- the text that a read gave for a sealed archive is as long as the store has its seal, and is its text if that is seen
pub record IsArchiveRead (observable : Type 0) (store : StoreValue) (number : ℕ) (written : List ℕ) : Type 0 where
  pub long : slice_get (payload_lengths store.seals.extents) (number - 1) ≡ Some (length written)
  pub seen : observable → written ≡ seal_of store.head store.history number

-- the member document that a read gave for a live member is that of the entry that the member has, if that is seen
pub record IsMemberRead (observable : Type 0) (store : StoreValue) (number : ℕ) (written : List ℕ) : Type 0 where
  pub document : IsMemberDocument store number written
  pub seen : observable → IsLiveDocument store number written

-- a document that a read gave; or the disk gave something else than what the store has on it
abbrev pub IsShownFrom : Type 0 → Media → (List ℕ → Type 0) → Outcome → Type 0
IsShownFrom observable kind IsGiven given =
    ((written : List ℕ) × IsGiven written × (given ≡ unchanged (document_reply kind written)))
    ⊎ ((¬ observable) × (given ≡ unchanged disk_changed))

abbrev pub IsArchiveShownOver : Type 0 → StoreValue → ℕ → Outcome → Type 0
IsArchiveShownOver observable store number given = IsShownFrom observable media.Feed (IsArchiveRead observable store number) given

abbrev pub IsMemberShownOver : Type 0 → StoreValue → ℕ → Outcome → Type 0
IsMemberShownOver observable store number given = IsShownFrom observable media.Entry (IsMemberRead observable store number) given

abbrev pub shown_over : Type 0 → StoreValue → Shown
shown_over observable store =
    record { archive = IsArchiveShownOver observable store; member = IsMemberShownOver observable store }

abbrev pub IsOfArchiveOver : Type 0 → StoreValue → ℕ → Verb → Outcome → Type 0
IsOfArchiveOver observable store number verb given =
    IsOfArchiveAs (IsArchiveShownOver observable store number) store number verb given

abbrev pub IsOfMemberOver : Type 0 → StoreValue → RequestValue → ℕ → ℕ → Verb → Outcome → Type 0
IsOfMemberOver observable store request now number verb given =
    IsOfMemberAs (IsMemberShownOver observable store number) store request now number verb given

abbrev pub IsOutcomeOver : Type 0 → StoreValue → RequestValue → ℕ → Outcome → Type 0
IsOutcomeOver observable store request now given = IsOutcomeAs (shown_over observable store) store request now given
