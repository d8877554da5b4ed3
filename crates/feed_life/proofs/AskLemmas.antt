-- A store is loaded from the disk of a life, and answers a request.
use Rattle.std.proofs.Common.{◌≡◌, ◌≢◌, inl, inr, ℕ, List, ◌++◌, length, false, true, ap, sym, subst, ◌∙◌}
use Rattle.document_server.specs.Answer.{IsAnswer, added}
use Rattle.feed_disk.specs.DiskLaw.{memory_is_disk}
use Rattle.feed_disk.specs.Memory.{MemoryValue, state_of}
use Rattle.feed_disk.specs.declared.area.Area.TheVariants.{Journal, Sealed}
use Rattle.feed_journal.specs.Log.{IsLog}
use Rattle.feed_journal.specs.Records.{records}
use Rattle.feed_life.specs.Life.{IsStoreOf}
use Rattle.feed_life.specs.Asks.{IsAnswered, IsLeft, IsOpened, IsReplied, Outcomes}
use Rattle.feed_life.specs.Crashes.{HasPayloadsOf}
use Rattle.http_face.specs.Reply.{disk_fault, no_memory}
use Rattle.http_face.specs.declared.reply.Reply.{Reply}
use Rattle.document_server.specs.declared.line.Line.{Line}
use Rattle.feed_recovery.specs.Documents.{sealed_count}
use Rattle.feed_recovery.specs.Opening.{AreSeals, IsJournal, Opens, OpensInOneWay}
use Rattle.feed_recovery.specs.Settled.{AreWhole, IsAtRest, Settled}
use Rattle.feed_recovery.specs.Store.{StandsFor, StoreValue, is_spent, seal_count}
use Rattle.feed_recovery.specs.Stored.{OpensTo}
use Rattle.feed_recovery.proofs.PastLemmas.{settled-whole}
use Rattle.feed_recovery.proofs.SizeLemmas.{is_sized}
use Rattle.member_rules.specs.Head.{HeadValue}
use Rattle.member_rules.specs.Windows.{windows_of}
use Rattle.member_rules.specs.declared.operation.Op.{Op}

-- the payloads decide what areas open to
pub opens-same : (journal sealed other more : List ℕ) (head : HeadValue) (history : List Op) (seals : ℕ)
    → records other ≡ records journal → records more ≡ records sealed → Opens other more head history seals
    → Opens journal sealed head history seals
opens-same journal sealed other more head history seals first second o = record {
  is_journal = subst (λ (ps : List (List ℕ)). IsJournal ps head history) first o.is_journal;
  are_seals = subst (AreSeals head history) second o.are_seals;
  number = ap length (sym second) ∙ o.number;
  count = o.count;
}

pub store-opened : (head : HeadValue) (history : List Op) (before after : MemoryValue) (store : StoreValue)
    → OpensInOneWay → IsStoreOf head history before → StandsFor (state_of after) store
    → IsLog store.journal × IsLog store.seals → HasPayloadsOf before after
    → (AreWhole (state_of before) → Settled (state_of after) store.head store.history (length store.history))
    → (AreWhole (state_of before) → IsAtRest (state_of after)) → IsOpened head history before after store
store-opened head history before after store one is_store stands logs same settled rests =
    let whole = settled-whole (state_of before) head history (length history) (memory_is_disk before) tt
    is_store.settled in
    let opens = opens-same ((state_of before).content Journal) ((state_of before).content Sealed)
    ((state_of after).content Journal) ((state_of after).content Sealed) store.head store.history (seal_count store)
    (same Journal) (same Sealed) stands.opens in
    let one_way = one ((state_of before).content Journal) ((state_of before).content Sealed) store.head
    head store.history
    history (seal_count store) is_store.seals opens is_store.opens in
    record {
      loaded = record {
        head_is = one_way.0;
        history_is = one_way.1;
        opens = opens;
        sized = is_sized (state_of after) store stands logs;
      };
      same = same;
      stands = stands;
      rests = rests whole;
      settled =
          subst (λ (h : HeadValue). Settled (state_of after) h history (length history)) one_way.0
          (subst (λ (l : List Op). Settled (state_of after) store.head l (length l)) one_way.1 (settled whole));
    }

module _ (head : HeadValue) (outcomes : Outcomes) (history : List Op)
    (before loaded after : MemoryValue) (old new : StoreValue) (reply : Reply)
    (opened : IsOpened head history before loaded old) (same : new.head ≡ old.head) where
  pub head-is : new.head ≡ head
  head-is = same ∙ opened.loaded.head_is

  pub opens-left : StandsFor (state_of after) new
      → OpensTo (state_of after).content (record { head = head; history = new.history; seals = seal_count new })
  opens-left stands =
      subst (λ (h : HeadValue). Opens ((state_of after).content Journal) ((state_of after).content Sealed) h new.history
      (seal_count new)) head-is stands.opens

  store-left : StandsFor (state_of after) new
      → Settled (state_of after) new.head new.history (length new.history) → IsStoreOf head new.history after
  store-left stands settled = record {
    seals = seal_count new;
    opens = opens-left stands;
    settled = subst (λ (h : HeadValue). Settled (state_of after) h new.history (length new.history)) head-is settled;
  }

  pub reply-made : (failed : Type 0) → IsAnswer (outcomes old) old new reply failed → reply ≢ no_memory
      → reply ≢ disk_fault → StandsFor (state_of after) new
      → IsReplied head outcomes history new.history before after reply
  reply-made failed (inl given) memory disk stands = record {
    store = old;
    loaded = opened.loaded;
    outcome = given.given;
    is_outcome = given.is_one;
    history_is =
        given.gains.history
        ∙ ap (λ (h : List Op). h ++ added given.given.adds) opened.loaded.history_is;
    reply_is = given.reply_is;
    seals = seal_count new;
    sealed = given.gains.seals;
    opens = opens-left stands;
  }
  reply-made failed (inr (inl lack)) memory disk stands = absurd (memory lack.0)
  reply-made failed (inr (inr fault)) memory disk stands = absurd (disk fault.0)

  pub store-answered : (failed : Type 0) (line : Line) (sealed : ℕ)
      → IsAnswer (outcomes old) old new reply failed
      → reply.status ≢ 503 → is_spent new ≡ false → (reply ≡ disk_fault → is_spent new ≡ true)
      → (reply ≢ disk_fault → StandsFor (state_of after) new)
      → (reply ≢ disk_fault → IsAtRest (state_of loaded)
      → Settled (state_of after) new.head new.history (length new.history))
      → line.status ≡ reply.status → line.version ≡ length new.history → line.whole ≡ true
      → sealed ≡ sealed_count new → IsAnswered head outcomes history before after reply line sealed
  store-answered failed line sealed answer known unspent spent stands settled status version whole count =
      let disk : reply ≢ disk_fault = λ is. let wrong = spent is in let right = unspent in cc in
      record {
        later = new.history;
        replied =
            reply-made failed answer (λ is. known (ap (λ (r : Reply). r.status) is)) disk (stands disk);
        store = store-left (stands disk) (settled disk opened.rests);
        sealed_is = count ∙ ap (λ (h : HeadValue). (windows_of h new.history).sealed) head-is;
        status = status;
        version = version;
        whole = whole;
      }

-- a store that was loaded leaves its disk a store's disk
pub opened-left : (head : HeadValue) (history : List Op) (before disk : MemoryValue) (store : StoreValue)
    (version sealed : ℕ) → IsOpened head history before disk store → version ≡ length store.history
    → sealed ≡ sealed_count store → IsLeft head history disk version sealed
opened-left head history before disk store version sealed opened version_is sealed_is = record {
  store = record {
    seals = seal_count store;
    opens =
        subst (λ (h : HeadValue). Opens ((state_of disk).content Journal) ((state_of disk).content Sealed) h history
        (seal_count store)) opened.loaded.head_is
        (subst (λ (l : List Op). Opens ((state_of disk).content Journal) ((state_of disk).content Sealed) store.head l
        (seal_count store)) opened.loaded.history_is opened.stands.opens);
    settled = opened.settled;
  };
  version_is = version_is ∙ ap length opened.loaded.history_is;
  sealed_is =
      sealed_is ∙ ap (λ (h : HeadValue). (windows_of h store.history).sealed) opened.loaded.head_is
      ∙ ap (λ (l : List Op). (windows_of head l).sealed) opened.loaded.history_is;
}
