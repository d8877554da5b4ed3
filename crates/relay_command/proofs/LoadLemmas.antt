-- A mirror that is loaded, and a session that ends before a connection is served.
use Rattle.std.proofs.Common.{◌≡◌, ◌≢◌, ◌⊎◌, ⊎_elim, inl, inr, refl, sym, ap, ◌∙◌, subst, ℕ, ◌<◌, ◌≤◌, List, [], length, arith}
use Rattle.std.proofs.Common.{Result, Ok, Err, IfErr}
use Rattle.atom_values.specs.Counts.{CountsFault}
use Rattle.document_server.specs.Door.{DoorState}
use Rattle.document_server.proofs.StepLemmas.{counts-as, same_fault}
use Rattle.feed_disk.specs.Disk.{DiskState}
use Rattle.feed_disk.specs.Moments.{AlwaysLeaves, LeavesAlone}
use Rattle.feed_disk.specs.declared.area.Area.TheVariants.{Mirror}
use Rattle.feed_disk.proofs.MomentLemmas.{alone_leaves, always_begins, always_joins}
use Rattle.feed_journal.specs.Records.{records, StandsFor}
use Rattle.mirror_walk.specs.Holding.{KeptValue}
use Rattle.mirror_walk.specs.Loaded.{IsLoadedOf, IsMirrorFault}
use Rattle.mirror_walk.specs.declared.mirror_fault.MirrorFault.{MirrorFault}
use Rattle.mirror_walk.specs.declared.mirror_fault.MirrorFault.TheVariants as load
use Rattle.relay_command.specs.Session.{EndsLoading, EndsWithin, IsOpened, KeepsArea, end_of}
use Rattle.relay_command.specs.declared.session.End.{End}
use Rattle.relay_command.specs.declared.session.End.TheVariants.{Done, Load, DiskFault, DoorFault, NoMemory}
use Rattle.relay_command.specs.declared.session.Served.{Served}

-- The mirror's area

-- an image stands for itself
own-image : (images : List ℕ → Type 0) (image : List ℕ) → images image → StandsFor images image
own-image images image among = record { of = image; among = among; payloads = refl; whole = λ is. is }

pub area-untouched : (disk : DiskState) (end : End) → KeepsArea disk disk end
area-untouched disk end = record {
  payloads = λ other. refl;
  moments = always_begins disk Mirror (StandsFor (disk.image_now Mirror)) (own-image (disk.image_now Mirror));
}

pub area-unloaded : (before after : DiskState) (fault : MirrorFault) (end : End) → end ≡ Load fault
    → AlwaysLeaves before after Mirror (StandsFor (before.image_now Mirror)) → KeepsArea before after end
area-unloaded before after fault end is moments =
    record { payloads = λ other. absurd (other fault is); moments = moments }

pub area-loaded : (before loaded after : DiskState) (end : End)
    → records (loaded.content Mirror) ≡ records (before.content Mirror)
    → AlwaysLeaves before loaded Mirror (StandsFor (before.image_now Mirror)) → LeavesAlone loaded after Mirror
    → KeepsArea before after end
area-loaded before loaded after end same moments alone = record {
  payloads = λ other. ap records alone.content ∙ same;
  moments = always_joins before loaded after Mirror (StandsFor (before.image_now Mirror)) moments
      (alone_leaves loaded after Mirror (StandsFor (before.image_now Mirror)) moments.now alone);
}

-- How the session ends

-- no connection was served
pub ends-unserved : (requests : ℕ) (observable : Type 0) (rest : DoorState) (lines : List Served) (end : End)
    → lines ≡ [] → 1 ≤ requests → end ≢ Done → EndsWithin requests observable rest lines end
ends-unserved requests observable rest lines end none some undone =
    let count : length lines ≡ 0 = ap length none in
    record {
      most = omega (arith, count);
      done = λ is. absurd (undone is);
      early = λ is. omega (arith, count, some);
    }

pub same-load-fault : (one other : MirrorFault) → Load one ≡ Load other → one ≡ other
same-load-fault one other same = cc

module _ (observable : Type 0) (base : List ℕ) (before : DiskState) (end : End) where
  -- the mirror was loaded, or its load wasn't begun
  pub loading-none : ((fault : MirrorFault) → end ≢ Load fault) → EndsLoading observable base before end
  loading-none other = record {
    refused = λ fault is. absurd (other fault is);
    only = λ seen kept loads fault is. absurd (other fault is);
  }

  pub loading-by : (fault : MirrorFault) → end ≡ Load fault
      → (observable → IsMirrorFault base (records (before.content Mirror)) fault)
      → (observable → (kept : List KeptValue) → IsLoadedOf base (records (before.content Mirror)) kept
      → (fault ≡ load.DiskFault) ⊎ (fault ≡ load.NoMemory))
      → EndsLoading observable base before end
  loading-by fault is refused only = record {
    refused = λ other same seen.
        subst (IsMirrorFault base (records (before.content Mirror))) (same-load-fault fault other (sym is ∙ same)) (refused seen);
    only = λ seen kept loads other same.
        subst (λ (f : MirrorFault). (f ≡ load.DiskFault) ⊎ (f ≡ load.NoMemory))
        (same-load-fault fault other (sym is ∙ same)) (only seen kept loads);
  }

-- a session that was opened didn't end by its load
pub opened-load : (end : End) (fault : MirrorFault) → IsOpened end → end ≡ Load fault → ⊥
opened-load end fault opened is = subst IsOpened is opened

pub opened-memory : (end : End) → IsOpened end → end ≡ NoMemory → ⊥
opened-memory end opened is = subst IsOpened is opened

-- these ends come after the load
pub after-load : (end : End) → (end ≡ DiskFault) ⊎ (end ≡ DoorFault) ⊎ (end ≡ NoMemory) → (fault : MirrorFault)
    → end ≢ Load fault
after-load end (inl disk) fault is = let same = sym disk ∙ is in cc
after-load end (inr (inl door)) fault is = let same = sym door ∙ is in cc
after-load end (inr (inr memory)) fault is = let same = sym memory ∙ is in cc

-- the ends differ
pub door-disk : DoorFault ≢ DiskFault
door-disk same = cc

pub done-disk : Done ≢ DiskFault
done-disk same = cc

pub done-door : Done ≢ DoorFault
done-door same = cc

pub disk-door : DiskFault ≢ DoorFault
disk-door same = cc

pub memory-disk : NoMemory ≢ DiskFault
memory-disk same = cc

pub memory-door : NoMemory ≢ DoorFault
memory-door same = cc

-- How a session ends that served connections

module _ (requests : ℕ) (observable : Type 0) (rest : DoorState) (lines : List Served) where
  pub ends-all : length lines ≡ requests → EndsWithin requests observable rest lines Done
  ends-all all = record { most = omega (arith, all); done = λ _. inl all; early = λ is. absurd (done-door is) }

  -- the door has no connection left
  pub ends-left : length lines ≤ requests → (observable → rest.left ≡ []) → EndsWithin requests observable rest lines Done
  ends-left most none = record { most = most; done = λ _. inr none; early = λ is. absurd (done-door is) }

  -- a call of the door failed
  pub ends-door : (end : End) → end ≡ DoorFault → length lines < requests
      → EndsWithin requests observable rest lines end
  ends-door end is few = record {
    most = omega (arith, few);
    done = λ done. absurd (done-door (sym done ∙ is));
    early = λ _. few;
  }

  -- a device call failed
  pub ends-disk : length lines ≤ requests → EndsWithin requests observable rest lines DiskFault
  ends-disk most = record {
    most = most;
    done = λ done. absurd (done-disk (sym done));
    early = λ is. absurd (disk-door is);
  }

-- The end of a part of a session

-- connections were served, so the session was opened
pub opened-served : (result : Result (Unit {0}) End) → IfErr result (λ end. (end ≡ DiskFault) ⊎ (end ≡ DoorFault))
    → IsOpened (end_of result)
opened-served (Ok done) only = tt
opened-served (Err end) (inl disk) = rw disk tt
opened-served (Err end) (inr door) = rw door tt

-- it ended after the load
pub after-served : (result : Result (Unit {0}) End)
    → IfErr result (λ end. (end ≡ DiskFault) ⊎ (end ≡ DoorFault) ⊎ (end ≡ NoMemory)) → (fault : MirrorFault)
    → end_of result ≢ Load fault
after-served (Ok done) only fault is = cc
after-served (Err end) only fault is = after-load end only fault is

pub memory-undone : (end : End) → end ≡ NoMemory → end ≢ Done
memory-undone end is done = let same = sym is ∙ done in cc

pub door-undone : (end : End) → end ≡ DoorFault → end ≢ Done
door-undone end is done = let same = sym is ∙ done in cc

pub load-undone : (end : End) (fault : MirrorFault) → end ≡ Load fault → end ≢ Done
load-undone end fault is done = let same = sym is ∙ done in cc

pub memory-unloaded : (end : End) → end ≡ NoMemory → (fault : MirrorFault) → end ≢ Load fault
memory-unloaded end is fault same = let e = sym is ∙ same in cc

pub memory-undisk : (end : End) → end ≡ NoMemory → (end ≡ DiskFault) ⊎ (end ≡ Load load.DiskFault) → ⊥
memory-undisk end is (inl disk) = let e = sym is ∙ disk in cc
memory-undisk end is (inr disk) = let e = sym is ∙ disk in cc

pub load-undoor : (end : End) (fault : MirrorFault) → end ≡ Load fault → end ≢ DoorFault
load-undoor end fault is door = let same = sym is ∙ door in cc

-- a failed load counts as such
pub counts-load : {T : Type 0} (end : End) (fault : MirrorFault) (before after : ℕ) → end ≡ Load fault
    → (let result : Result T MirrorFault = Err fault in CountsFault before after (result ≡ Err load.DiskFault))
    → CountsFault before after ((end ≡ DiskFault) ⊎ (end ≡ Load load.DiskFault))
counts-load {T} end fault before after is counts =
    counts-as before after _ _
    (λ e. inr (is ∙ ap Load (same_fault fault load.DiskFault e)))
    (⊎_elim (λ e. absurd (let same = sym is ∙ e in cc))
    (λ e. ap Err (same-load-fault fault load.DiskFault (sym is ∙ e)))) counts

-- a mirror that was loaded served, and only device calls after the load can have failed
pub counts-loaded : (result : Result (Unit {0}) End) (before loaded after : ℕ) → loaded ≡ before
    → IfErr result (λ end. (end ≡ DiskFault) ⊎ (end ≡ DoorFault) ⊎ (end ≡ NoMemory))
    → CountsFault loaded after (end_of result ≡ DiskFault)
    → CountsFault before after ((end_of result ≡ DiskFault) ⊎ (end_of result ≡ Load load.DiskFault))
counts-loaded result before loaded after same only counts =
    counts-as before after (end_of result ≡ DiskFault) _ inl
    (⊎_elim (λ e. e) (λ e. absurd (after-served result only load.DiskFault e)))
    (subst (λ (n : ℕ). CountsFault n after (end_of result ≡ DiskFault)) same counts)

-- the call that opened the door worked
pub counts-listened : (before listened after : ℕ) (failed : Type 0) → listened ≡ before
    → CountsFault listened after failed → CountsFault before after failed
counts-listened before listened after failed same counts =
    subst (λ (n : ℕ). CountsFault n after failed) same counts
