-- `mirror`: the disk after a mirror was loaded and took documents, and after one that wasn't loaded.
use Rattle.std.proofs.Common.{◌≢◌, inl, inr, ℕ, List, Option, refl, sym, subst, arith}
use Rattle.doc_source.specs.Fetch.{FetchState}
use Rattle.doc_source.specs.declared.offer.Offer.{Offer}
use Rattle.feed_disk.specs.Disk.{DiskState, IsDisk}
use Rattle.feed_disk.specs.Moments.{AlwaysLeaves, LeavesAlone, NowOnly}
use Rattle.feed_disk.specs.declared.area.Area.{Area}
use Rattle.feed_disk.specs.declared.area.Area.TheVariants.{Journal, Sealed, Mirror as MirrorArea}
use Rattle.feed_disk.proofs.MomentLemmas.{always_begins}
use Rattle.feed_journal.specs.Records.{IsWhole, StandsFor}
use Rattle.feed_recovery.specs.Settled.{KeepsPayloads}
use Rattle.feed_recovery.proofs.LoadedLemmas.{alone-payloads}
use Rattle.mirror_walk.specs.Holding.{KeptValue}
use Rattle.mirror_walk.specs.Mirror.{IsAtRest}
use Rattle.mirror_walk.specs.Walk.{IsWalkStep, WalkEnding}
use Rattle.mirror_walk.specs.declared.mirror_fault.MirrorFault.{MirrorFault}
use Rattle.mirror_walk.specs.declared.mirror_fault.MirrorFault.TheVariants as loads
use Rattle.mirror_commands.specs.FetchEnds.{AsksOf, GoesWalk}
use Rattle.mirror_commands.specs.Mirror.{HasAnswered}
use Rattle.mirror_commands.specs.MirrorCrash.{IsPileStep, LeavesFetched, LeavesMirror, LeavesMirrored, LeavesSteps}
use Rattle.mirror_commands.specs.MirrorEnds.{GivesOffers, IsLaterFault}
use Rattle.mirror_commands.specs.MirrorFaults.{IsHeldIn, mirror_fault}
use Rattle.mirror_commands.specs.Walked.{EndsWalk, walk_setting}

-- no call was made
pub stands-still : (s : DiskState) → AlwaysLeaves s s MirrorArea (StandsFor (s.image_now MirrorArea))
stands-still s = always_begins s MirrorArea (StandsFor (s.image_now MirrorArea)) (λ image may. record {
  of = image;
  among = may;
  payloads = refl;
  whole = λ w. w;
})

-- a mirror that isn't loaded
pub leaves-unloaded : (before after : DiskState) (later taken : Type 0)
    → AlwaysLeaves before after MirrorArea (StandsFor (before.image_now MirrorArea)) → ¬ later
    → LeavesMirror before after later taken
leaves-unloaded before after later taken stands never =
    record { each = inl stands; loaded = λ l. absurd (never l) }

pub leaves-taken : (before after : DiskState) (later taken : Type 0) → taken → LeavesMirror before after later taken
leaves-taken before after later taken is = record { each = inr is; loaded = λ l. is }

-- a fault of the load comes from no mirror that was loaded
pub load-never_later : (fault : MirrorFault) → IsLaterFault (mirror_fault fault) → ⊥
load-never_later (loads.OtherBase base) later = later
load-never_later (loads.BadRecord index at) later = later
load-never_later loads.DiskFault later = later
load-never_later loads.NoMemory later = later

-- images of a load and of the steps after it
steps-join : {observable : Type 0} (before mid after : DiskState) (IsStep : List ℕ → Type 0) → IsDisk observable mid
    → AlwaysLeaves before mid MirrorArea (StandsFor (before.image_now MirrorArea))
    → AlwaysLeaves mid after MirrorArea IsStep → LeavesSteps before after IsStep
steps-join before mid after IsStep disk load steps =
    let Stands : List ℕ → Type 0 = StandsFor (before.image_now MirrorArea) in
    record {
      loaded = mid.clock;
      over = steps.moments.later;
      moments = record {
        later = omega (arith, load.moments.later, steps.moments.later);
        each = λ c i may. elim (steps.moments.each c i may) [
          | inl past ↦ elim (load.moments.each c i past) [
            | inl before_load ↦ inl before_load
            | inr now ↦ inr (now.0, inl (disk.begun MirrorArea c i past, now.1))
          ]
          | inr now ↦ inr (omega (arith, now.0, load.moments.later), inr now)
        ];
        keeps = λ c i may. steps.moments.keeps c i (load.moments.keeps c i may);
      };
      now = steps.now;
    }

module _ {observable : Type 0} (before mid after : DiskState) (disk : IsDisk observable before) (middle : IsDisk observable mid)
    (seen : observable) (whole : NowOnly before MirrorArea IsWhole) (capacity : ℕ) (base : List ℕ) (kept : List KeptValue)
    (loaded : IsHeldIn base before.content kept)
    (load : AlwaysLeaves before mid MirrorArea (StandsFor (before.image_now MirrorArea)))
    (rests : IsWhole (before.content MirrorArea) → IsAtRest mid kept) where
  at-rest : IsAtRest mid kept
  at-rest = rests (whole (before.content MirrorArea) (disk.content seen MirrorArea))

  -- after the load the offers of a pile were given
  pub leaves-offers : (input : List ℕ) (input_observable : Type 0) (failed all : Type 0) → input_observable
      → GivesOffers capacity base kept input input_observable observable mid after failed all
      → LeavesMirrored capacity base input before after failed all
  leaves-offers input input_observable failed all reads gives = record {
    kept = kept;
    loaded = loaded;
    offers = gives.offers;
    read = gives.read reads;
    images = steps-join before mid after (IsPileStep capacity base kept gives.offers) middle load
        (gives.images seen at-rest);
    all = λ w. elim gives.given [ inl every ↦ every.all (inl w) reads | inr last ↦ absurd (last.part w) ];
    left = gives.left;
    has = λ none. elim gives.given [
      | inl every ↦ subst (λ (os : List Offer). HasAnswered capacity base kept os gives.left) (sym every.same) gives.has
      | inr last ↦ absurd (none last.is)
    ];
    now = λ none. gives.now none seen at-rest;
  }

  -- after the load the mirror went its walk
  pub leaves-walk : (answers : List ℕ → Option (List ℕ)) (failed : Type 0) (IsEnding : WalkEnding → Type 0)
      → GoesWalk capacity base kept answers mid after failed IsEnding
      → LeavesFetched capacity base answers before after failed IsEnding
  leaves-walk answers failed IsEnding walk = record {
    kept = kept;
    loaded = loaded;
    images = steps-join before mid after (IsWalkStep (walk_setting capacity base answers) kept) middle load
        (walk.images at-rest);
    asked = walk.asked;
    accepted = walk.accepted;
    left = walk.left;
    ending = walk.ending;
    walks = walk.walks;
    ends = walk.ends;
    now = λ none. walk.now none at-rest;
  }

-- a statement on some failures and reports holds of fewer of them
pub mirrored-weaker : (capacity : ℕ) (base input : List ℕ) (before after : DiskState) (failed more all less : Type 0)
    → (failed → more) → (less → all) → LeavesMirrored capacity base input before after failed all
    → LeavesMirrored capacity base input before after more less
mirrored-weaker capacity base input before after failed more all less to from h = record {
  kept = h.kept;
  loaded = h.loaded;
  offers = h.offers;
  read = h.read;
  all = λ l. h.all (from l);
  images = h.images;
  left = h.left;
  has = λ none. h.has (λ f. none (to f));
  now = λ none. h.now (λ f. none (to f));
}

pub fetched-weaker : (capacity : ℕ) (base : List ℕ) (answers : List ℕ → Option (List ℕ)) (before after : DiskState)
    (failed more : Type 0) (IsEnding IsOther : WalkEnding → Type 0) → (failed → more)
    → ((ending : WalkEnding) → IsEnding ending → IsOther ending)
    → LeavesFetched capacity base answers before after failed IsEnding
    → LeavesFetched capacity base answers before after more IsOther
fetched-weaker capacity base answers before after failed more IsEnding IsOther to ends h = record {
  kept = h.kept;
  loaded = h.loaded;
  images = h.images;
  asked = h.asked;
  accepted = h.accepted;
  left = h.left;
  ending = h.ending;
  walks = h.walks;
  ends = ends h.ending h.ends;
  now = λ none. h.now (λ f. none (to f));
}

pub asks-weaker : (capacity : ℕ) (base : List ℕ) (content : Area → List ℕ) (before after : FetchState)
    (IsEnding IsOther : WalkEnding → Type 0) → ((ending : WalkEnding) → IsEnding ending → IsOther ending)
    → AsksOf capacity base content before after IsEnding → AsksOf capacity base content before after IsOther
asks-weaker capacity base content before after IsEnding IsOther ends (inl same) = inl same
asks-weaker capacity base content before after IsEnding IsOther ends (inr walk) = inr record {
  kept = walk.kept;
  loaded = walk.loaded;
  asks = record {
    asked = walk.asks.asked;
    accepted = walk.asks.accepted;
    left = walk.asks.left;
    ending = walk.asks.ending;
    walks = walk.asks.walks;
    ends = ends walk.asks.ending walk.asks.ends;
    addresses = walk.asks.addresses;
  };
}

pub ending-weaker : (reported less source source_less device device_less : Type 0) → (less → reported)
    → (source_less → source) → (device_less → device) → (ending : WalkEnding)
    → EndsWalk reported source device ending → EndsWalk less source_less device_less ending
ending-weaker reported less source source_less device device_less to at_source at_device ending h = record {
  over = λ l. h.over (to l);
  at_source = λ l. h.at_source (at_source l);
  at_device = λ l. h.at_device (at_device l);
}

pub leaves-weaker : (before after : DiskState) (later less taken more : Type 0) → (less → later) → (taken → more)
    → LeavesMirror before after later taken → LeavesMirror before after less more
leaves-weaker before after later less taken more from to h = record {
  each = elim h.each [ inl stands ↦ inl stands | inr is ↦ inr (to is) ];
  loaded = λ l. to (h.loaded (from l));
}

-- the journal and the sealed area were left alone
pub stores-alone : (s t : DiskState) → ((a : Area) → a ≢ MirrorArea → LeavesAlone s t a) → KeepsPayloads s t
stores-alone s t others = alone-payloads s t (others Journal (λ e. cc)) (others Sealed (λ e. cc))
