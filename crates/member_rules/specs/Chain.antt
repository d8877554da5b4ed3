-- The chain of a history: its newest document and the archives before it.
use Rattle.std.specs.Prelude.{◌≡◌, ◌↔◌, ◌⊎◌, ℕ, zero, suc, ◌+◌, ◌<◌, ◌≤◌, List, [], ◌∷◌, ◌++◌, Some, All}
use Rattle.atom_values.specs.Entry.{EntryValue}
use Rattle.atom_writer.specs.Doc.{DocValue, IsDoc}
use Rattle.atom_writer.specs.Pieces.{own_address}
use Rattle.chain_links.specs.Place.{Adjoins}
use Rattle.chain_links.specs.declared.place.Place.{Place}
use Rattle.member_rules.specs.declared.operation.Op.{Op}
use Rattle.member_rules.specs.Head.{HeadValue, window_limit}
use Rattle.member_rules.specs.Fold.{fold_of, live_count}
use Rattle.member_rules.specs.Windows.{windows_of}
use Rattle.member_rules.specs.Documents.{archive_of, subscription_of}
use Rattle.member_rules.specs.Shows.{Shows, live_of, live_count_of}

-- the first `archives` spans of a cut have 1 to `window_limit` operations each, and so have the operations after them;
-- those are none only where there are no operations at all
pub record IsOpenCut (ends : ℕ → ℕ) (archives count : ℕ) : Type 0 where
  pub from_none : ends 0 ≡ 0
  pub rising : (number : ℕ) → number < archives → ends number < ends (number + 1)
  pub narrow : (number : ℕ) → number < archives → ends (number + 1) ≤ ends number + window_limit
  pub some_open : (ends archives < count) ⊎ ((count ≡ 0) × (archives ≡ 0))
  pub few_open : count ≤ ends archives + window_limit

-- from this number down to the first
abbrev pub down_from : {A : Type 0} → (ℕ → A) → ℕ → List A
down_from archive zero = []
down_from archive (suc number) = archive (suc number) ∷ down_from archive number

-- the subscription document of a cut and all its archives, newest first
unfoldable pub chain_of : (ℕ → ℕ) → ℕ → HeadValue → List Op → List DocValue
chain_of ends archives head history =
    subscription_of ends archives head history ∷ down_from (archive_of ends head history) archives

-- the subscription document and all sealed archives, newest first
unfoldable pub chain : HeadValue → List Op → List DocValue
chain head history = let windows = windows_of head history in chain_of windows.ends windows.sealed head history

-- the address, the span and `prev` of a document
abbrev pub place_of : DocValue → Place
place_of document = record { address = own_address document.kind; span = document.span; prev = document.prev }

-- each document but the first is followed by the one before it, and the last one's span begins at 1
pub record IsChain (documents : List DocValue) : Type 0 where
  pub adjoined : (before after : List DocValue) (newer older : DocValue)
      → documents ≡ before ++ newer ∷ older ∷ after → Adjoins (place_of older) (place_of newer)
  pub whole : (before : List DocValue) (oldest : DocValue) → documents ≡ before ++ oldest ∷ [] → oldest.span.first ≡ 1

-- the documents are a chain, each keeps the rules of documents, and they show exactly the live entries of the history
pub record ShowsTheFold (documents : List DocValue) (history : List Op) : Type 0 where
  pub shows : (number : ℕ) (entry : EntryValue)
      → Shows documents number entry ↔ ((fold_of history).live number ≡ Some entry)
  pub live : (number : ℕ) → live_of documents number ≡ (fold_of history).live number
  pub count : live_count_of documents ≡ live_count history
  pub is_chain : IsChain documents
  pub rules : All IsDoc documents
