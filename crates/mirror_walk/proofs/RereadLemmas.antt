-- The entries that a mirror reads back.
use Rattle.std.proofs.Common.{◌≡◌, ◌≤◌, ◌+◌, ◌==◌, ℕ, List, Option, Some, None, Result, Err}
use Rattle.std.proofs.Common.{false, true, length, refl, sym, ap, subst, ◌∙◌, arith}
use Rattle.std.specs.List.{find}
use Rattle.std.specs.Option.{option_map}
use Rattle.std.specs.Prelude.{All, IfSome, IsErrAnd, IsSome, drop, slice_get, take}
use Rattle.std.proofs.lemmas.Option.{get_or_from_slice_get, slice_get-map, slice_get_within}
use Rattle.atom_grammar.specs.Places.{HasPiece}
use Rattle.atom_grammar.specs.declared.places.PiecePlace.{PiecePlace}
use Rattle.atom_values.specs.Entry.{EntryValue, IsEntry}
use Rattle.atom_writer.specs.Doc.{DocValue}
use Rattle.atom_writer.specs.Pieces.{entry_piece, text}
use Rattle.deleted_entries.specs.Item.{IsItem, item_number}
use Rattle.deleted_entries.specs.declared.item.Item.{Item}
use Rattle.deleted_entries.specs.declared.item.Item.TheVariants.{Kept as KeptItem, Gone}
use Rattle.feed_disk.specs.Disk.{DiskState}
use Rattle.feed_disk.specs.Moments.{LeavesAlone}
use Rattle.feed_disk.specs.declared.area.Area.{Area}
use Rattle.feed_disk.specs.declared.area.Area.TheVariants.{Mirror as MirrorArea}
use Rattle.feed_journal.specs.Log.{IsListed, LogValue, payload_lengths}
use Rattle.feed_journal.specs.Records.{records}
use Rattle.feed_journal.specs.declared.fault.LogFault.{LogFault}
use Rattle.feed_journal.specs.declared.fault.LogFault.TheVariants.{DiskFault}
use Rattle.member_rules.specs.Shows.{all_items, entry_of, live_of}
use Rattle.mirror_walk.specs.declared.documents.EntryPlace.{EntryPlace}
use Rattle.mirror_walk.specs.Held.{IsHeldDoc}
use Rattle.mirror_walk.specs.Holding.{KeptValue, best_of, chain_of, payloads_of}
use Rattle.mirror_walk.specs.Index.{HasEntryAt}
use Rattle.mirror_walk.specs.Listing.{live_at}
use Rattle.mirror_walk.specs.Loaded.{IsLoadedOf}
use Rattle.mirror_walk.specs.Rereading.{HasReadBack, IsSpentBy, KeepsAllBut}
use Rattle.mirror_walk.specs.Mirror.{KeepsMirror, MirrorValue, StandsFor, is_spent}
use Rattle.mirror_walk.proofs.EntriesLemmas.{find-place}
use Rattle.mirror_walk.proofs.FoundLemmas.{best_of-holds}
use Rattle.mirror_walk.proofs.HeldLemmas.{loaded-held}
use Rattle.mirror_walk.proofs.PassedLemmas.{err-again, err-of}
use Rattle.atom_grammar.proofs.PlaceLemmas.{item_piece-same}
use Rattle.mirror_walk.proofs.TakenLemmas.{at-payload, loaded-at}

all-at : {A : Type 0} (P : A → Type 0) (list : List A) (index : ℕ) (x : A) → All P list
    → slice_get list index ≡ Some x → P x
all-at P list index x all there =
    subst P (get_or_from_slice_get list index x x there) (all index x (slice_get_within list index x there))

-- the piece of an entry of a document that is held
module _ (mirror : MirrorValue) (keeps : KeepsMirror mirror) (unspent : is_spent mirror ≡ false)
    (place : EntryPlace) (entry : EntryValue) (held : HasEntryAt mirror.kept place entry) (piece : PiecePlace)
    (has : HasPiece (text held.document.document) held.document.document.name (KeptItem entry) piece) where
  there : slice_get (payloads_of mirror.kept) place.document ≡ Some (text held.document.document)
  there = at-payload mirror.kept place.document held.document held.there

  loaded : IsLoadedOf mirror.base (payloads_of mirror.kept) mirror.kept
  loaded = (keeps.documents unspent).loaded

  -- it lies within the document's payload
  pub piece-within : (whole : ℕ) → slice_get (payload_lengths mirror.log.extents) place.document ≡ Some whole
      → piece.at + piece.length ≤ whole
  piece-within whole is =
      let same : Some whole ≡ Some (length (text held.document.document)) =
      sym is ∙ ap (λ (l : List ℕ). slice_get l place.document) (keeps.documents unspent).lengths
      ∙ slice_get-map length (payloads_of mirror.kept) place.document ∙ ap (option_map length) there in
      let long : whole ≡ length (text held.document.document) = cc in
      omega (arith, long, has.within)

  -- a read of this part of the payload gives it
  pub piece-given : (s : DiskState) (area : Area) → area ≡ MirrorArea → StandsFor s mirror → (part : List ℕ)
      → ((payload : List ℕ) → slice_get (records (s.content area)) place.document ≡ Some payload
      → part ≡ take piece.length (drop piece.at payload))
      → part ≡ entry_piece held.document.document.name entry
  piece-given s area is stands part gives =
      gives (text held.document.document)
      (ap (λ (a : Area). slice_get (records (s.content a)) place.document) is
      ∙ ap (λ (ps : List (List ℕ)). slice_get ps place.document) stands.payloads ∙ there)
      ∙ has.piece

  pub piece-lawful : IsEntry entry
  piece-lawful = all-at IsItem held.document.document.items place.item (KeptItem entry)
      (loaded-at mirror.base (payloads_of mirror.kept) mirror.kept place.document held.document loaded
      held.there).read.is_doc.items held.item

  -- it is also the entry's piece with the name in the best subscription document
  pub piece-named : (best : KeptValue) → best_of mirror.kept ≡ Some best
      → entry_piece held.document.document.name entry ≡ entry_piece best.document.name entry
  piece-named best is =
      let of = loaded-held mirror.base (payloads_of mirror.kept) mirror.kept loaded in
      let own = all-at (IsHeldDoc mirror.base) mirror.kept place.document held.document of.each held.there in
      let own_id = all-at (λ (k : KeptValue). k.document.name.id ≡ of.id) mirror.kept place.document
      held.document of.one_feed held.there in
      let newest = (best_of-holds (IsHeldDoc mirror.base) mirror.kept best of.each is).0 in
      let newest_id = (best_of-holds (λ (k : KeptValue). k.document.name.id ≡ of.id) mirror.kept best of.one_feed
      is).0 in
      item_piece-same held.document.document.name best.document.name (own.base_is ∙ sym newest.base_is)
      (own_id ∙ sym newest_id) (KeptItem entry)

-- a mirror after a read that worked
stands-reread : (s t : DiskState) (mirror : MirrorValue) (log : LogValue)
    → LeavesAlone s t MirrorArea → log ≡ record mirror.log { calls = log.calls } → StandsFor s mirror
    → StandsFor t (record mirror { log = log })
stands-reread s t mirror log alone is stands =
    let here : IsListed mirror.log (t.content MirrorArea) =
    subst (IsListed mirror.log) (sym alone.content) stands.listed in
    record {
      listed = subst (λ (l : LogValue). IsListed l (t.content MirrorArea)) (sym is)
          (record { list = here.list; long = here.long });
      payloads = ap records alone.content ∙ stands.payloads;
    }

-- the entry of a live member, and its place
pub record IsLiveAt (kept : List KeptValue) (number : ℕ) (place : EntryPlace) : Type 0 where
  pub entry : EntryValue
  pub live : live_at kept number ≡ Some entry
  pub number_is : entry.number ≡ number
  pub held : HasEntryAt kept place entry

entry-number : (documents : List DocValue) (number : ℕ) (entry : EntryValue) → live_of documents number
    ≡ Some entry
    → entry.number ≡ number
unfolding live_of
entry-number documents number entry live = go (find (λ item. item_number item == number)
    (all_items documents)) refl live
  where
    go : (found : Option Item) → find (λ item. item_number item == number) (all_items documents) ≡ found
        → entry_of found ≡ Some entry → entry.number ≡ number
    go None is of = absurd (cc)
    go (Some (Gone tombstone)) is of = absurd (cc)
    go (Some (KeptItem other)) is of =
        let place = find-place number (all_items documents) (KeptItem other) is in
        let same : other ≡ entry = cc in
        sym (ap (λ (e : EntryValue). e.number) same) ∙ place.2

pub live-place : (kept : List KeptValue) (number : ℕ) (place : EntryPlace) → IsSome (live_at kept number)
    → IfSome (live_at kept number) (HasEntryAt kept place) → IsLiveAt kept number place
live-place kept number place some held = go (live_at kept number) refl some held
  where
    go : (entry : Option EntryValue) → live_at kept number ≡ entry → IsSome entry
        → IfSome entry (HasEntryAt kept place) → IsLiveAt kept number place
    go None is some held = absurd (cc)
    go (Some entry) is some held =
        record {
          entry = entry;
          live = is;
          number_is = entry-number (chain_of kept) number entry is;
          held =
              held;
        }

-- entries were read back, and the fault is passed on
pub read-passed : {T U : Type 0} (observable : Type 0) (s : DiskState) (before after : MirrorValue)
    (result : Result U LogFault) (fault : LogFault) → IsErrAnd result (λ given. given ≡ fault)
    → HasReadBack observable s before after ((let given : Result T LogFault = Err fault in given) ≡ Err DiskFault)
    → HasReadBack observable s before after (result ≡ Err DiskFault)
read-passed observable s before after result fault passed read =
    let is = err-of result fault passed in
    record {
      same = λ other. read.same (λ e. other (is ∙ err-again fault DiskFault e));
      spent = λ e. read.spent (err-again fault DiskFault (sym is ∙ e));
      stands = λ other. read.stands (λ e. other (is ∙ err-again fault DiskFault e));
    }

-- the log read a part of a payload, or a device call failed
pub read-by : (observable : Type 0) (s t : DiskState) (mirror now : MirrorValue) (log : LogValue)
    (failed : Type 0) → mirror ≡ now → LeavesAlone s t MirrorArea
    → (¬ failed → log ≡ record mirror.log { calls = log.calls })
    → (failed → log ≡ record mirror.log { calls = log.calls; spent = true }) → (observable → StandsFor s mirror)
    → HasReadBack observable t now (record mirror { log = log }) failed
read-by observable s t mirror now log failed same alone keeps spends stands =
    let with_log = λ (l : LogValue). let m : MirrorValue = record mirror { log = l } in m in
    record {
      same = λ other. subst (λ (m : MirrorValue). KeepsAllBut m (with_log log)) same (ap with_log (keeps other));
      spent = λ is. subst (λ (m : MirrorValue). IsSpentBy m (with_log log)) same (ap with_log (spends is));
      stands = λ other tells. stands-reread s t mirror log alone (keeps other) (stands tells);
    }
