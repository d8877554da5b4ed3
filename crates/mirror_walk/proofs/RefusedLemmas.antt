-- Why a mirror isn't loaded, over any disk.
use Rattle.std.proofs.Common.{◌≡◌, ◌≢◌, inl, inr, ℕ, ◌<◌, List, [], Ok, Err, Result, Some, length, map, take, refl}
use Rattle.std.proofs.Common.{arith, false, true, subst, sym}
use Rattle.std.specs.Prelude.{IfErr, slice_get}
use Rattle.atom_grammar.specs.Refusal.{IsNoDocument, IsPlaceOfRefusal}
use Rattle.feed_disk.specs.declared.area.Area.TheVariants.{Mirror as MirrorArea}
use Rattle.feed_journal.specs.Log.{LogValue, payload_lengths}
use Rattle.feed_journal.specs.declared.extent.Extent.{Extent}
use Rattle.feed_journal.specs.declared.fault.LogFault.{LogFault}
use Rattle.feed_journal.specs.declared.fault.LogFault.TheVariants.{Changed}
use Rattle.feed_journal.specs.declared.fault.LogFault.TheVariants.{DiskFault as LogDiskFault}
use Rattle.feed_journal.specs.declared.fault.LogFault.TheVariants.{NoMemory as LogNoMemory}
use Rattle.mirror_walk.specs.declared.mirror_fault.MirrorFault.{MirrorFault}
use Rattle.mirror_walk.specs.declared.mirror_fault.MirrorFault.TheVariants.{OtherBase, BadRecord, DiskFault}
use Rattle.mirror_walk.specs.declared.mirror_fault.MirrorFault.TheVariants.{NoMemory}
use Rattle.mirror_walk.specs.Accept.{IsKeptOf}
use Rattle.mirror_walk.specs.Holding.{KeptValue, payloads_of}
use Rattle.mirror_walk.specs.Loaded.{IsLoadedOf}
use Rattle.mirror_walk.specs.Loading.{IsUnfit, fault_of}
use Rattle.mirror_walk.specs.Refused.{IsRefusal, Refuses, RefusesAt}

module _ (base : List ℕ) (kept : List KeptValue) (extents : List Extent) (index : ℕ) where
  -- `document_of`: a payload that was read short
  pub short-refused : (fault : LogFault) → ((n : ℕ) → fault ≡ Changed n → n ≡ index)
      → RefusesAt base kept extents index (fault_of fault)
  short-refused LogDiskFault named = tt
  short-refused (Changed n) named = (named n refl, inl refl)
  short-refused LogNoMemory named = tt

  module _ (payload : List ℕ) (whole : slice_get (payload_lengths extents) index ≡ Some (length payload)) where
    -- `document_of`: a payload that is no document
    pub unread-refused : (at : ℕ) → IsNoDocument payload × IsPlaceOfRefusal payload at
        → RefusesAt base kept extents index (BadRecord index at)
    unread-refused at (none, place) = (
      refl,
      inr record {
        payload = payload;
        whole = whole;
        is_bad = inl record { no_document = none; place = place };
      },
    )

    unfit-one : (given : KeptValue) → IsKeptOf payload given → (fault : MirrorFault)
        → IsUnfit base kept index given (length payload) fault → RefusesAt base kept extents index fault
    unfit-one given read (OtherBase other) (first, base_is, differs) = (
      first,
      record {
        payload = payload;
        given = given;
        whole = subst (λ (n : ℕ). slice_get (payload_lengths extents) n ≡ Some (length payload)) first whole;
        read = read;
        base_is = base_is;
        differs = differs;
      },
    )
    unfit-one given read (BadRecord named at) (is, end, later, not_next) = (
      is,
      inr record {
        payload = payload;
        whole = whole;
        is_bad = inr (later, end, record { given = given; read = read; not_taken = not_next });
      },
    )
    unfit-one given read DiskFault unfit = absurd unfit
    unfit-one given read NoMemory unfit = tt

    -- `document_of`: a document that isn't taken
    pub unfit-refused : {T : Type 0} (given : KeptValue) → IsKeptOf payload given → (size : ℕ) → size ≡ length payload
        → (result : Result T MirrorFault) → IfErr result (IsUnfit base kept index given size)
        → IfErr result (RefusesAt base kept extents index)
    unfit-refused given read size is (Ok admitted) unfit = tt
    unfit-refused given read size is (Err fault) unfit = unfit-one given read fault
        (subst (λ (n : ℕ). IsUnfit base kept index given n fault) is unfit)

  -- `held_of`: the documents before that payload are taken
  pub refused-after : IsLoadedOf base (payloads_of kept) kept
      → take index (payload_lengths extents) ≡ map length (payloads_of kept) → length kept ≡ index
      → index < length extents → (fault : MirrorFault) → RefusesAt base kept extents index fault
      → Refuses base extents fault
  refused-after loaded before count within (OtherBase other) refused = refused.1
  refused-after loaded before count within (BadRecord named at) (is, place) =
      subst (λ (n : ℕ). Refuses base extents (BadRecord n at)) (sym is) record {
        kept = kept;
        loaded = loaded;
        before = before;
        count = count;
        within = within;
        place = place;
      }
  refused-after loaded before count within DiskFault refused = tt
  refused-after loaded before count within NoMemory refused = tt

abbrev no_payloads : LogValue
no_payloads = record { area = MirrorArea; extents = []; size = 1; calls = 0; spent = false; whole = true; spare = 0 }

-- `Mirror::load`: the log isn't loaded only if a call fails or memory runs out
pub log-refused : (base : List ℕ) (fault : LogFault) → ((n : ℕ) → fault ≢ Changed n) → IsRefusal base (fault_of fault)
log-refused base LogDiskFault never =
    record { log = no_payloads; rules = record { follow = refl; few = omega arith }; refuses = tt }
log-refused base (Changed n) never = absurd (never n refl)
log-refused base LogNoMemory never =
    record { log = no_payloads; rules = record { follow = refl; few = omega arith }; refuses = tt }
