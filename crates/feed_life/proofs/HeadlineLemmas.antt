-- The facts of a life that each later life keeps.
use Rattle.std.proofs.Common.{◌≡◌, ◌⊎◌, inl, inr, ℕ, ◌≤◌, List, [], ◌∷◌, ◌++◌, Option, None, Some, length, map}
use Rattle.std.proofs.Common.{slice_get, append_assoc, append-nil, ap, arith, length-append, refl, subst, sym, take, ◌∙◌}
use Rattle.std.proofs.Math.Seq.{take-append_seam}
use Rattle.std.specs.List.{AllZip}
use Rattle.atom_writer.specs.Pieces.{text}
use Rattle.document_server.specs.Answer.{added}
use Rattle.document_server.specs.declared.line.Line.{Line}
use Rattle.feed_disk.specs.Memory.{MemoryValue}
use Rattle.feed_life.specs.Asks.{Gains, Outcomes, docs_of, of_request, of_setting}
use Rattle.feed_life.specs.Events.{IsLifeOf, LivesOn, StepsAnyMirror, StepsBy, StepsGift}
use Rattle.feed_life.specs.Headline.{KeepsAll}
use Rattle.feed_life.specs.Life.{IsMirrorOf, LifeValue, Lives}
use Rattle.feed_life.specs.Mirrors.{IsShown}
use Rattle.feed_life.specs.declared.event.Event.{Event}
use Rattle.feed_life.specs.declared.event.Event.TheVariants.{Ask, Give, Walk, Set}
use Rattle.feed_life.specs.declared.event.Stop.{Stop}
use Rattle.feed_life.specs.declared.sent.SentDoc.{SentDoc}
use Rattle.feed_life.proofs.OpenedLemmas.{content-loads}
use Rattle.feed_life.proofs.ShownLemmas.{served-shows}
use Rattle.feed_life.proofs.ZipLemmas.{zip-left}
use Rattle.feed_recovery.specs.Opening.{seal_of}
use Rattle.member_rules.specs.Documents.{archive}
use Rattle.member_rules.specs.Head.{HeadValue, IsHead}
use Rattle.member_rules.specs.Laws.{ArchivesStay}
use Rattle.member_rules.specs.Windows.{windows_of}
use Rattle.member_rules.specs.declared.operation.Op.{Op}
use Rattle.member_rules.proofs.CutLemmas.{windows-sealed}
use Rattle.mirror_walk.specs.Holding.{KeptValue}
use Rattle.mirror_walk.specs.Laws.{LawOfTheMirror}
use Rattle.mirror_walk.specs.Listing.{outcome_of}
use Rattle.mirror_walk.specs.Loaded.{own_offer}
use Rattle.mirror_walk.specs.Mirror.{LoadsTo}

-- Steps

-- the history and the documents that were sent grow, or stay
record Grows (old new : LifeValue) (history later : List Op) : Type 0 where
  head_is : new.head ≡ old.head
  more : List Op
  history_is : later ≡ history ++ more
  docs : List SentDoc
  sent_is : new.sent ≡ old.sent ++ docs

grows-none : (old new : LifeValue) (history later : List Op) → new.head ≡ old.head → new.sent ≡ old.sent
    → later ≡ history → Grows old new history later
grows-none old new history later head sent same = record {
  head_is = head;
  more = [];
  history_is = same ∙ sym (append-nil history);
  docs = [];
  sent_is = sent ∙ sym (append-nil old.sent);
}

any-mirror-grows : (old new : LifeValue) (history later : List Op) (held left : List (List KeptValue)) (mirror : ℕ)
    (stop : Option Stop) (changes : MemoryValue → MemoryValue → List KeptValue → List KeptValue → Type 0)
    → StepsAnyMirror old new history later held left mirror stop changes → Grows old new history later
any-mirror-grows old new history later held left mirror stop changes (inl (none, steps)) =
    grows-none old new history later (ap (λ (l : LifeValue). l.head) steps.same)
    (ap (λ (l : LifeValue). l.sent) steps.same) steps.history_is
any-mirror-grows old new history later held left mirror stop changes (inr steps) =
    grows-none old new history later (ap (λ (l : LifeValue). l.head) steps.stays)
    (ap (λ (l : LifeValue). l.sent) steps.stays) steps.history_is

gift-grows : (old new : LifeValue) (history later : List Op) (held left : List (List KeptValue)) (mirror : ℕ)
    (stop : Option Stop) (doc : Option SentDoc) → StepsGift old new history later held left mirror stop doc
    → Grows old new history later
gift-grows old new history later held left mirror stop None steps =
    grows-none old new history later (ap (λ (l : LifeValue). l.head) steps.same)
    (ap (λ (l : LifeValue). l.sent) steps.same) steps.history_is
gift-grows old new history later held left mirror stop (Some doc) steps =
    any-mirror-grows old new history later held left mirror stop _ steps

halt-grows : (old new : LifeValue) (outcomes : Outcomes) (history later : List Op) → new.head ≡ old.head
    → new.sent ≡ old.sent → (later ≡ history) ⊎ Gains old.head outcomes history later old.disk
    → Grows old new history later
halt-grows old new outcomes history later head sent (inl same) = grows-none old new history later head sent same
halt-grows old new outcomes history later head sent (inr gains) = record {
  head_is = head;
  more = added gains.outcome.adds;
  history_is = gains.history_is;
  docs = [];
  sent_is = sent ∙ sym (append-nil old.sent);
}

step-grows : (old new : LifeValue) (event : Event) (history later : List Op) (held left : List (List KeptValue))
    (line : Option Line) → StepsBy old new event history later held left line → Grows old new history later
step-grows old new (Ask request now None) history later held left line steps = record {
  head_is = ap (λ (l : LifeValue). l.head) steps.stays;
  more = added steps.asked.replied.outcome.adds;
  history_is = steps.history_is ∙ steps.asked.replied.history_is;
  docs = docs_of steps.asked.gained;
  sent_is = steps.asked.sent;
}
step-grows old new (Ask request now (Some stop)) history later held left line steps =
    halt-grows old new (of_request request now) history later (ap (λ (l : LifeValue). l.head) steps.stays)
    (ap (λ (l : LifeValue). l.sent) steps.stays)
    (subst (λ (l : List Op). (l ≡ history) ⊎ Gains old.head (of_request request now) history l old.disk)
    (sym steps.history_is) steps.halted.stopped.gains)
step-grows old new (Set setting now None) history later held left line steps = record {
  head_is = ap (λ (l : LifeValue). l.head) steps.stays;
  more = added steps.is_set.replied.outcome.adds;
  history_is = steps.history_is ∙ steps.is_set.replied.history_is;
  docs = [];
  sent_is = ap (λ (l : LifeValue). l.sent) steps.stays ∙ sym (append-nil old.sent);
}
step-grows old new (Set setting now (Some stop)) history later held left line steps =
    halt-grows old new (of_setting setting now) history later (ap (λ (l : LifeValue). l.head) steps.stays)
    (ap (λ (l : LifeValue). l.sent) steps.stays)
    (subst (λ (l : List Op). (l ≡ history) ⊎ Gains old.head (of_setting setting now) history l old.disk)
    (sym steps.history_is) steps.halted.stopped.gains)
step-grows old new (Give mirror sent stop) history later held left line (none, steps) =
    gift-grows old new history later held left mirror stop (slice_get old.sent sent) steps
step-grows old new (Walk mirror stop) history later held left line (none, steps) =
    any-mirror-grows old new history later held left mirror stop _ steps

grows-on : (old next new : LifeValue) (history later last : List Op) → Grows old next history later
    → Grows next new later last → Grows old new history last
grows-on old next new history later last first second = record {
  head_is = second.head_is ∙ first.head_is;
  more = first.more ++ second.more;
  history_is =
      second.history_is ∙ ap (λ (l : List Op). l ++ second.more) first.history_is
      ∙ append_assoc history first.more second.more;
  docs = first.docs ++ second.docs;
  sent_is =
      second.sent_is ∙ ap (λ (l : List SentDoc). l ++ second.docs) first.sent_is
      ∙ append_assoc old.sent first.docs second.docs;
}

-- Lives

-- the last life of some events
record Ends (old new : LifeValue) (history : List Op) : Type 0 where
  last : List Op
  left : List (List KeptValue)
  lives : Lives new last left
  grows : Grows old new history last

lives-end : (events : List Event) (old new : LifeValue) (history : List Op) (held : List (List KeptValue))
    → Lives old history held → LivesOn old history held events new → Ends old new history
lives-end [] old new history held lives same = record {
  last = history;
  left = held;
  lives = subst (λ (l : LifeValue). Lives l history held) (sym same) lives;
  grows = grows-none old new history history (ap (λ (l : LifeValue). l.head) same)
      (ap (λ (l : LifeValue). l.sent) same) refl;
}
lives-end (event ∷ events) old new history held lives (next, line, step, on) =
    let ends = lives-end events next new step.later step.left step.lives on in
    record {
      last = ends.last;
      left = ends.left;
      lives = ends.lives;
      grows =
          grows-on old next new history step.later ends.last
          (step-grows old next event history step.later held step.left line step.steps) ends.grows;
    }

-- the life between the first events and the rest
record Splits (old new : LifeValue) (history : List Op) (held : List (List KeptValue)) (first rest : List Event)
    : Type 0 where
  earlier : LifeValue
  reached : LivesOn old history held first earlier
  past : List Op
  holding : List (List KeptValue)
  lives : Lives earlier past holding
  on : LivesOn earlier past holding rest new
  grows : Grows old earlier history past

lives-split : (first rest : List Event) (old new : LifeValue) (history : List Op) (held : List (List KeptValue))
    → Lives old history held → LivesOn old history held (first ++ rest) new → Splits old new history held first rest
lives-split [] rest old new history held lives on = record {
  earlier = old;
  reached = refl;
  past = history;
  holding = held;
  lives = lives;
  on = on;
  grows = grows-none old old history history refl refl refl;
}
lives-split (event ∷ first) rest old new history held lives (next, line, step, on) =
    let split = lives-split first rest next new step.later step.left step.lives on in
    record {
      earlier = split.earlier;
      reached = (next, line, step, split.reached);
      past = split.past;
      holding = split.holding;
      lives = split.lives;
      on = split.on;
      grows =
          grows-on old next split.earlier history step.later split.past
          (step-grows old next event history step.later held step.left line step.steps) split.grows;
    }

-- Archives

archives-kept : ArchivesStay → (head : HeadValue) (history more : List Op) (number : ℕ)
    → number ≤ (windows_of head history).full → seal_of head (history ++ more) number ≡ seal_of head history number
archives-kept stay head history more number within =
    let past : length history ≤ length (history ++ more) = omega (arith, length-append history more) in
    let seam = take-append_seam history more in
    let full : number ≤ (windows_of head (take (length history) (history ++ more))).full =
    subst (λ (l : List Op). number ≤ (windows_of head l).full) (sym seam) within in
    sym (ap (λ (l : List Op). text (archive head l number)) (sym seam)
    ∙ ap text (stay head (history ++ more) (length history) number past full))

-- Mirrors

mirror-shows : LawOfTheMirror → (head : HeadValue) (history : List Op) (disk : MemoryValue) (kept : List KeptValue)
    → IsMirrorOf head history disk kept → IsShown head history kept (outcome_of kept)
mirror-shows law head history disk kept mirror =
    let loaded = (content-loads disk (LoadsTo head.name.base kept) mirror.loads).loaded in
    record {
      outcome_is = refl;
      shows = served-shows head history (map own_offer kept) kept
          (law head history (map own_offer kept) _ kept mirror.served loaded.taken).shows;
    }

mirrors-show : LawOfTheMirror → (head : HeadValue) (history : List Op) (disks : List MemoryValue)
    (held : List (List KeptValue)) → AllZip (IsMirrorOf head history) disks held → (mirror : ℕ) (kept : List KeptValue)
    → slice_get held mirror ≡ Some kept → IsShown head history kept (outcome_of kept)
mirrors-show law head history disks held all mirror kept there =
    let found = zip-left (IsMirrorOf head history) disks held mirror kept all there in
    mirror-shows law head history found.item kept found.is

-- The headline

life-grows-from : ArchivesStay → LawOfTheMirror → (head : HeadValue) (mirrors : ℕ) (first rest : List Event)
    (last : LifeValue) → IsLifeOf head mirrors (first ++ rest) last → KeepsAll head mirrors first rest last
life-grows-from stay law head mirrors first rest last life =
    let begun = life.begun in
    let nothing : List (List KeptValue) = map (λ _. []) begun.mirrors in
    let split = lives-split first rest begun last [] nothing life.born.lives life.lived in
    let ends = lives-end rest split.earlier last split.past split.holding split.lives split.on in
    let earlier_head : split.earlier.head ≡ head = split.grows.head_is ∙ life.born.head_is in
    let last_head : last.head ≡ head = ends.grows.head_is ∙ earlier_head in
    let more = ends.grows.more in
    let lives_on = subst (λ (l : List Op). Lives last l ends.left) ends.grows.history_is ends.lives in
    let windows = windows-sealed head split.past
    (subst IsHead earlier_head split.lives.store.opens.is_journal.is_head) in
    let sealed : split.earlier.sealed ≡ (windows_of head split.past).sealed =
    split.lives.sealed ∙ ap (λ (h : HeadValue). (windows_of h split.past).sealed) earlier_head in
    record {
      earlier = split.earlier;
      is_life = record { begun = begun; born = life.born; lived = split.reached };
      history = split.past;
      held = split.holding;
      lives = split.lives;
      lived = split.on;
      more = more;
      left = ends.left;
      lives_on = lives_on;
      head_is = last_head;
      archives = λ number from within.
          archives-kept stay head split.past more number (omega (arith, within, sealed, windows.full));
      docs = ends.grows.docs;
      sent = ends.grows.sent_is;
      shown = λ mirror kept there.
          mirrors-show law head (split.past ++ more) last.mirrors ends.left
          (subst (λ (h : HeadValue). AllZip (IsMirrorOf h (split.past ++ more)) last.mirrors ends.left) last_head
          lives_on.mirrors) mirror kept there;
    }

-- for each way to cut the events in two
pub life-keeps : ArchivesStay → LawOfTheMirror → (head : HeadValue) (mirrors : ℕ) (events : List Event)
    (last : LifeValue) → IsLifeOf head mirrors events last → (first rest : List Event) → events ≡ first ++ rest
    → KeepsAll head mirrors first rest last
life-keeps stay law head mirrors events last life first rest cut =
    life-grows-from stay law head mirrors first rest last
    (subst (λ (l : List Event). IsLifeOf head mirrors l last) cut life)
