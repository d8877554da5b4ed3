-- A mirror that was loaded from a disk whose images load to known documents.
use Rattle.std.proofs.Common.{◌≡◌, ℕ, List, map, sym, subst, ◌∙◌}
use Rattle.feed_disk.specs.DiskLaw.{memory_is_disk}
use Rattle.feed_disk.specs.Memory.{MemoryValue, state_of}
use Rattle.feed_disk.specs.Moments.{NowOnly}
use Rattle.feed_disk.specs.declared.area.Area.{Area}
use Rattle.feed_disk.specs.declared.area.Area.TheVariants.{Mirror as MirrorArea}
use Rattle.feed_journal.specs.Records.{IsWhole, StandsFor as ImageStandsFor, records}
use Rattle.feed_life.specs.Crashes.{IsCrash}
use Rattle.feed_life.specs.Life.{IsMirrorOf}
use Rattle.feed_life.specs.Mirrors.{IsOpenedMirror}
use Rattle.member_rules.specs.Head.{HeadValue}
use Rattle.member_rules.specs.declared.operation.Op.{Op}
use Rattle.mirror_walk.specs.Holding.{KeptValue}
use Rattle.mirror_walk.specs.Loaded.{IsLoadedOf, own_offer}
use Rattle.mirror_walk.specs.Mirror.{IsAtRest, LoadsTo, MirrorValue, StandsFor}
use Rattle.mirror_walk.specs.Offers.{AreServed, AreTakenOf}
use Rattle.mirror_walk.proofs.TakenLemmas.{loaded-offered, loaded-once}

-- the content of a disk is one of the images of now
pub content-loads : (disk : MemoryValue) (P : List ℕ → Type 0) → NowOnly (state_of disk) MirrorArea P
    → P ((state_of disk).content MirrorArea)
content-loads disk P each = each ((state_of disk).content MirrorArea) ((memory_is_disk disk).content tt MirrorArea)

pub mirror-opened : (head : HeadValue) (base : List ℕ) (kept : List KeptValue) (before after : MemoryValue)
    (mirror : MirrorValue) → base ≡ head.name.base → mirror.base ≡ base → mirror.capacity ≡ head.capacity
    → IsLoadedOf base (records ((state_of before).content MirrorArea)) mirror.kept
    → StandsFor (state_of after) mirror
    → NowOnly (state_of after) MirrorArea (ImageStandsFor ((state_of before).image_now MirrorArea))
    → (IsWhole ((state_of before).content MirrorArea) → IsAtRest (state_of after) mirror.kept)
    → NowOnly (state_of before) MirrorArea (LoadsTo head.name.base kept) → IsOpenedMirror head kept after mirror
mirror-opened head base kept before after mirror copied base_is capacity loaded stands leaves rests each =
    let content = content-loads before (LoadsTo head.name.base kept) each in
    let same = loaded-once head.name.base (records ((state_of before).content MirrorArea)) mirror.kept kept
    (subst (λ (b : List ℕ). IsLoadedOf b (records ((state_of before).content MirrorArea)) mirror.kept) copied loaded)
    content.loaded in
    record {
      base = base_is ∙ copied;
      capacity = capacity;
      kept_is = same;
      stands = stands;
      rests = subst (IsAtRest (state_of after)) same (rests content.whole);
      loads = λ image may.
          let from = leaves image may in
          let found = each from.of from.among in
          record {
            whole = from.whole found.whole;
            loaded = subst (λ (ps : List (List ℕ)). IsLoadedOf head.name.base ps kept) (sym from.payloads) found.loaded;
          };
    }

-- a disk that a crash left
pub left-loads : (images : Area → List ℕ → Type 0) (left : MemoryValue) (P : List ℕ → Type 0) → IsCrash images left
    → P ((state_of left).content MirrorArea) → NowOnly (state_of left) MirrorArea P
left-loads images left P crash is image may = subst P (sym (crash.synced MirrorArea image may)) is

module _ (head : HeadValue) (kept : List KeptValue) (disk : MemoryValue) (mirror : MirrorValue)
    (opened : IsOpenedMirror head kept disk mirror) where
  -- a property of the mirror's parts is one of the head's and of the documents held
  pub at-head : (P : ℕ → List ℕ → List KeptValue → Type 0) → P mirror.capacity mirror.base mirror.kept
      → P head.capacity head.name.base kept
  at-head P is =
      subst (λ (c : ℕ). P c head.name.base kept) opened.capacity
      (subst (λ (b : List ℕ). P mirror.capacity b kept) opened.base
      (subst (λ (l : List KeptValue). P mirror.capacity mirror.base l) opened.kept_is is))

  pub from-head : (P : ℕ → List ℕ → List KeptValue → Type 0) → P head.capacity head.name.base kept
      → P mirror.capacity mirror.base mirror.kept
  from-head P is =
      subst (λ (c : ℕ). P c mirror.base mirror.kept) (sym opened.capacity)
      (subst (λ (b : List ℕ). P head.capacity b mirror.kept) (sym opened.base)
      (subst (λ (l : List KeptValue). P head.capacity head.name.base l) (sym opened.kept_is) is))

  pub opened-loaded : IsLoadedOf head.name.base (records ((state_of disk).content MirrorArea)) kept
  opened-loaded = (content-loads disk (LoadsTo head.name.base kept) opened.loads).loaded

  pub opened-offered : AreTakenOf mirror.base (map own_offer kept) mirror.kept
  opened-offered =
      from-head (λ c b l. AreTakenOf b (map own_offer kept) l)
      (loaded-offered head.name.base (records ((state_of disk).content MirrorArea)) kept opened-loaded)

  pub opened-rests : IsAtRest (state_of disk) mirror.kept
  opened-rests = from-head (λ c b l. IsAtRest (state_of disk) l) opened.rests

  pub opened-mirror : (history : List Op) → AreServed head history (map own_offer kept)
      → IsMirrorOf head history disk kept
  opened-mirror history served = record { loads = opened.loads; served = served }
