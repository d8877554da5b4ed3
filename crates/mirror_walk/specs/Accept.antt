-- The answer of a mirror to an offered document: the first condition that fits.
--
-- `Known` and `Stale` come before `Conflict`. An answer other than `Taken` leaves what is held.
use Rattle.std.specs.Prelude.{◌≡◌, ℕ, ◌+◌, ◌-◌, ◌==◌, nat_lt, List, [], ◌∷◌, ◌++◌, ◌&&◌, if◌then◌else◌}
use Rattle.std.specs.Prelude.{Option, Some, None, option_and_then, unwrap_or, slice_get, Result, Ok, Err}
use Rattle.std.specs.Prelude.{length}
use Rattle.std.specs.Str.{bytes_eq}
use Rattle.sha2.specs.Sha256.{sha256}
use Rattle.atom_writer.specs.Doc.{DocValue, IsDoc}
use Rattle.atom_writer.specs.Pieces.{own_address, text}
use Rattle.atom_writer.specs.declared.doc.Kind.{Kind}
use Rattle.atom_writer.specs.declared.doc.Kind.TheVariants.{Subscription, Archive as Sealed}
use Rattle.feed_journal.specs.Limits.{header_length}
use Rattle.feed_journal.specs.Records.{size_of}
use Rattle.atom_grammar.specs.Refusal.{IsNoDocument, IsPlaceOfRefusal}
use Rattle.atom_grammar.specs.declared.read.ReadFault.{ReadFault}
use Rattle.atom_grammar.specs.declared.read.ReadFault.TheVariants.{NotADocument as NotRead}
use Rattle.atom_grammar.specs.declared.read.ReadFault.TheVariants.{NoMemory as NoReadMemory}
use Rattle.chain_links.specs.Address.{printed}
use Rattle.mirror_walk.specs.declared.answer.Accepted.{Accepted}
use Rattle.mirror_walk.specs.declared.answer.Accepted.TheVariants.{Taken, Known, Stale}
use Rattle.mirror_walk.specs.declared.answer.Offered.{Offered}
use Rattle.mirror_walk.specs.declared.answer.Offered.TheVariants.{NotADocument, WrongAddress, WrongFeed}
use Rattle.mirror_walk.specs.declared.answer.Offered.TheVariants.{Conflict}
use Rattle.mirror_walk.specs.declared.answer.Offered.TheVariants.{Break, Full, DiskFault, NoMemory}
use Rattle.mirror_walk.specs.Holding.{KeptValue, archive_at, best_of, payloads_of}

abbrev pub Answer : Type 0
Answer = Result Accepted Offered

-- the document's own address in full
abbrev pub own_text : DocValue → List ℕ
own_text document = printed document.name.base (own_address document.kind)

-- the address isn't the document's own, or the document has another base
unfoldable pub wrong_address : List ℕ → List ℕ → DocValue → Option Answer
wrong_address base address document =
    if bytes_eq document.name.base base && bytes_eq address (own_text document)
    then None
    else Some (Err (WrongAddress (own_text document)))

-- a held document has another feed identifier; all of them have the same one
unfoldable pub wrong_feed : List KeptValue → DocValue → Option Answer
wrong_feed kept document =
    option_and_then (λ (held : KeptValue). if bytes_eq held.document.name.id document.name.id
    then None
    else Some (Err (WrongFeed held.document.name.id document.name.id)))
    (slice_get kept 0)

-- the document, if it has this `last`
abbrev pub if_ends_with : ℕ → KeptValue → Option KeptValue
if_ends_with last held = if held.document.span.last == last then Some held else None

abbrev pub counterpart_of_kind : List KeptValue → ℕ → Kind → Option KeptValue
counterpart_of_kind kept last Subscription = option_and_then (if_ends_with last) (best_of kept)
counterpart_of_kind kept last (Sealed number) = archive_at kept number

-- the held document in the place of this one: the archive of the same number, or the best subscription
-- document if it has the same `last`
unfoldable pub counterpart : List KeptValue → DocValue → Option KeptValue
counterpart kept document = counterpart_of_kind kept document.span.last document.kind

-- the document in its place has the same digest
unfoldable pub known : List KeptValue → KeptValue → Option Answer
known kept given =
    option_and_then (λ (held : KeptValue). if bytes_eq held.digest given.digest
    then Some (Ok Known)
    else None)
    (counterpart kept given.document)

abbrev pub stale_of_kind : List KeptValue → ℕ → Kind → Option Answer
stale_of_kind kept last Subscription =
    option_and_then (λ (best : KeptValue). if nat_lt last best.document.span.last
    then Some (Ok Stale)
    else None)
    (best_of kept)
stale_of_kind kept last (Sealed _) = None

-- a subscription document with a lower `last` than the best one
unfoldable pub stale : List KeptValue → DocValue → Option Answer
stale kept document = stale_of_kind kept document.span.last document.kind

-- the document in its place has another digest
unfoldable pub conflict : List KeptValue → KeptValue → Option Answer
conflict kept given =
    option_and_then (λ (held : KeptValue). if bytes_eq held.digest given.digest
    then None
    else Some (Err (Conflict (own_address given.document.kind) held.digest given.digest)))
    (counterpart kept given.document)

-- the spans of two neighbours don't adjoin
abbrev pub break_of : DocValue → DocValue → Option Answer
break_of older newer =
    if older.span.last + 1 == newer.span.first then None else Some
    (Err (Break older.span.last newer.span.first))

-- the break between the document and an older one, or a newer one, that may not be held
unfoldable pub break_after : DocValue → Option KeptValue → Option Answer
break_after document older = option_and_then (λ (k : KeptValue). break_of k.document document) older

unfoldable pub break_before : DocValue → Option KeptValue → Option Answer
break_before document newer = option_and_then (λ (k : KeptValue). break_of document k.document) newer

-- the best subscription document, if it comes right after the archive of this number
unfoldable pub best_after : List KeptValue → ℕ → Option KeptValue
best_after kept number =
    option_and_then (λ (best : KeptValue). if best.document.prev == number then Some best else None)
    (best_of kept)

abbrev pub breaks_of_kind : List KeptValue → DocValue → Kind → List (Option Answer)
breaks_of_kind kept document Subscription = break_after document (archive_at kept document.prev) ∷ []
breaks_of_kind kept document (Sealed number) =
    break_after document (archive_at kept (number - 1)) ∷ break_before document (archive_at kept (number + 1))
    ∷ break_before document (best_after kept number) ∷ []

-- the first answer that fits
abbrev pub first_of : List (Option Answer) → Option Answer
first_of [] = None
first_of (None ∷ more) = first_of more
first_of (Some answer ∷ more) = Some answer

-- A held neighbour doesn't adjoin the document. The neighbours of an archive are the archives before and
-- after it, and the best subscription document if that comes right after it. A subscription document has one
-- neighbour, the archive before it. There is no archive 0.
unfoldable pub broken : List KeptValue → DocValue → Option Answer
broken kept document = first_of (breaks_of_kind kept document document.kind)

-- The answer of a mirror with this base, which holds these documents, to a document that is offered under
-- this address.
unfoldable pub accept : List ℕ → List KeptValue → List ℕ → KeptValue → Answer
accept base kept address given =
    let document = given.document in
    unwrap_or (first_of (wrong_address base address document ∷ wrong_feed kept document ∷ known kept given
    ∷ stale kept document ∷ conflict kept given ∷ broken kept document ∷ [])) (Ok Taken)

-- the documents held after an answer
abbrev pub after_answer : List KeptValue → KeptValue → Answer → List KeptValue
after_answer kept given (Ok Taken) = kept ++ given ∷ []
after_answer kept given (Ok Known) = kept
after_answer kept given (Ok Stale) = kept
after_answer kept given (Err _) = kept

-- the bytes are the text of a document, kept with their digest
pub record IsKeptOf (bytes : List ℕ) (given : KeptValue) : Type 0 where
  pub is_doc : IsDoc given.document
  pub text : bytes ≡ text given.document
  pub digest : given.digest ≡ sha256 bytes

-- the bytes are a document's; the answer is the first condition that fits it, and `left` is held afterwards
pub record AnswersDocument (base : List ℕ) (kept : List KeptValue) (address bytes : List ℕ) (answer : Answer)
    (left : List KeptValue) : Type 0 where
  pub given : KeptValue
  pub read : IsKeptOf bytes given
  pub first_fit : answer ≡ accept base kept address given
  pub left_over : left ≡ after_answer kept given answer

-- the bytes are the text of no document, and `at` is the offset of the first piece that is refused
pub record AnswersOthers (kept : List KeptValue) (bytes : List ℕ) (at : ℕ) (left : List KeptValue)
    : Type 0 where
  pub no_document : IsNoDocument bytes
  pub place : IsPlaceOfRefusal bytes at
  pub left_over : left ≡ kept

-- The answer of a mirror that holds these documents to an offer, and what it holds afterwards. With enough
-- memory, `NoMemory` is no answer.
abbrev pub IsAnswer : List ℕ → List KeptValue → List ℕ → List ℕ → Answer → List KeptValue → Type 0
IsAnswer base kept address bytes (Ok accepted) left =
    AnswersDocument base kept address bytes (Ok accepted) left
IsAnswer base kept address bytes (Err (NotADocument at)) left = AnswersOthers kept bytes at left
IsAnswer base kept address bytes (Err NoMemory) left = ⊥
IsAnswer base kept address bytes (Err refusal) left =
    AnswersDocument base kept address bytes (Err refusal) left

-- a refusal by the reader of documents
abbrev pub IsOfRead : ReadFault → Offered → Type 0
IsOfRead (NotRead at) refusal = refusal ≡ NotADocument at
IsOfRead NoReadMemory refusal = refusal ≡ NoMemory

-- The answer to a document whose payload takes up `needed` bytes, in an area of `size` bytes that may have
-- this capacity: a document that is to be taken needs room for it.
abbrev pub within : ℕ → ℕ → ℕ → Answer → Answer
within capacity size needed (Ok Taken) =
    if nat_lt capacity (size + needed) then Err (Full size needed capacity) else Ok Taken
within capacity size needed (Ok Known) = Ok Known
within capacity size needed (Ok Stale) = Ok Stale
within capacity size needed (Err refusal) = Err refusal

-- The answer of a mirror whose area has this capacity: a document that is to be taken and doesn't fit is
-- refused with the three numbers.
unfoldable pub accept_within : ℕ → List ℕ → List KeptValue → List ℕ → KeptValue → Answer
accept_within capacity base kept address given =
    within capacity (size_of (payloads_of kept)) (length (text given.document) + header_length)
    (accept base kept address given)

-- the bytes are a document's; the answer is the first condition that fits it, and `left` is held afterwards
pub record AnswersWithin (capacity : ℕ) (base : List ℕ) (kept : List KeptValue) (address bytes : List ℕ)
    (answer : Answer) (left : List KeptValue) : Type 0 where
  pub given : KeptValue
  pub read : IsKeptOf bytes given
  pub first_fit : answer ≡ accept_within capacity base kept address given
  pub left_over : left ≡ after_answer kept given answer

-- The answer to an offer of a mirror whose area has this capacity, and what it holds afterwards. With enough
-- memory, `NoMemory` is no answer. With no failed device call, `DiskFault` is none.
abbrev pub IsAnswerWithin : ℕ → List ℕ → List KeptValue → List ℕ → List ℕ → Answer → List KeptValue → Type 0
IsAnswerWithin capacity base kept address bytes (Ok accepted) left =
    AnswersWithin capacity base kept address bytes (Ok accepted) left
IsAnswerWithin capacity base kept address bytes (Err (NotADocument at)) left = AnswersOthers kept bytes at
    left
IsAnswerWithin capacity base kept address bytes (Err DiskFault) left = ⊥
IsAnswerWithin capacity base kept address bytes (Err NoMemory) left = ⊥
IsAnswerWithin capacity base kept address bytes (Err refusal) left =
    AnswersWithin capacity base kept address bytes (Err refusal) left

-- the bytes are a document's that a mirror takes under this address, within the capacity of its area
pub record IsTakeable (capacity : ℕ) (base : List ℕ) (kept : List KeptValue) (address bytes : List ℕ) : Type 0 where
  pub given : KeptValue
  pub read : IsKeptOf bytes given
  pub taken : accept_within capacity base kept address given ≡ Ok Taken

-- the refusal has its cause in the mirror's area, disk or memory, and not in the document
abbrev pub IsForRoom : Offered → Type 0
IsForRoom (Full size needed capacity) = Unit {0}
IsForRoom DiskFault = Unit {0}
IsForRoom NoMemory = Unit {0}
IsForRoom refusal = ⊥
