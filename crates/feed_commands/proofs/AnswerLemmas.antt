-- Each command has one answer.
use Rattle.std.proofs.Common.{◌≡◌, inl, inr, ℕ, true, false, List, Some, None, sym, ap, ◌∙◌, arith}
use Rattle.atom_grammar.proofs.RefusalLemmas.{one_reading}
use Rattle.feed_recovery.specs.Stored.{OpensTo, Stored}
use Rattle.command_ends.specs.declared.fault.Refusal.TheVariants.{BadDocument}
use Rattle.command_ends.specs.declared.status.Status.TheVariants.{Done}
use Rattle.feed_disk.specs.declared.area.Area.{Area}
use Rattle.feed_disk.specs.declared.area.Area.TheVariants.{Journal, Sealed}
use Rattle.feed_recovery.specs.Opening.{OpensInOneWay}
use Rattle.tool_words.specs.declared.command.Command.{Command}
use Rattle.tool_words.specs.declared.command.Command.TheVariants.{Init, Apply, Audit, Discover, Drill, Foreign, Serve}
use Rattle.tool_words.specs.declared.command.Command.TheVariants.{Show, Mirror, Relay, Scrub}
use Rattle.tool_words.specs.declared.command.Show.TheVariants.{Document, Feed, Archive, Member, Pile}
use Rattle.command_ends.specs.Answer.{Answer}
use Rattle.command_ends.specs.Fault.{refusal_answer}
use Rattle.discover_command.specs.Answer.{DiscoverHasOneAnswer}
use Rattle.foreign_command.specs.Answer.{ForeignHasOneAnswer}
use Rattle.scrub_command.specs.Answer.{RepairsHaveOneEnd, SoundStoresHaveOneAnswer}
use Rattle.store_commands.specs.Show.{IsShown, IsPast, IsSummary, IsBadDocument}
use Rattle.command_ends.specs.Summary.{summary}
use Rattle.feed_commands.specs.Outside.{Outside}
use Rattle.feed_commands.specs.Run.{IsOfStore, OneAnswer, stored_answer}
use Rattle.store_commands.specs.Stored.{IsInitAnswer}
use Rattle.mirror_commands.proofs.MirrorEndLemmas.{pile-same, walk-same}
use Rattle.mirror_commands.proofs.OneAuditedLemmas.{one-audited}
use Rattle.mirror_commands.proofs.PlaceLemmas.{place_once}

past_once : (input : List ℕ) (one other : Answer) → IsPast input one → IsShown input other → one ≡ other
past_once input one other p (inl q) = p.is ∙ sym q.is
past_once input one other p (inr (inl q)) = absurd (omega (arith, p.past, q.within))
past_once input one other p (inr (inr q)) = absurd (omega (arith, p.past, q.within))

summary_once : (input : List ℕ) (one other : Answer) → IsSummary input one → IsShown input other → one ≡ other
summary_once input one other p (inl q) = absurd (omega (arith, q.past, p.within))
summary_once input one other p (inr (inl q)) =
    p.is ∙ ap (λ d. record { status = Done; printed = summary d })
    (one_reading p.document q.document p.lawful q.lawful (sym p.split ∙ q.split)) ∙ sym q.is
summary_once input one other p (inr (inr q)) = absurd (q.none p.document p.lawful p.split)

bad_once : (input : List ℕ) (one other : Answer) → IsBadDocument input one → IsShown input other → one ≡ other
bad_once input one other p (inl q) = absurd (omega (arith, q.past, p.within))
bad_once input one other p (inr (inl q)) = absurd (p.none q.document q.lawful q.split)
bad_once input one other p (inr (inr q)) = p.is
    ∙ ap (λ offset. refusal_answer (BadDocument offset)) (place_once input p.offset q.offset p.place q.place) ∙ sym q.is

pub shown_once : (input : List ℕ) (one other : Answer) → IsShown input one → IsShown input other → one ≡ other
shown_once input one other (inl p) q = past_once input one other p q
shown_once input one other (inr (inl p)) q = summary_once input one other p q
shown_once input one other (inr (inr p)) q = bad_once input one other p q

-- `init` answers by whether the areas have a payload
pub init_once : (content : Area → List ℕ) (one other : Answer) → IsInitAnswer content one →
    IsInitAnswer content other → one ≡ other
init_once content one other (inl p) (inl q) = p.1 ∙ sym q.1
init_once content one other (inl p) (inr q) = absurd (q.0 p.0)
init_once content one other (inr p) (inl q) = absurd (p.0 q.0)
init_once content one other (inr p) (inr q) = p.1 ∙ sym q.1

stored_once : OpensInOneWay → (content : Area → List ℕ) (stored other : Stored) → OpensTo content stored →
    OpensTo content other → stored ≡ other
stored_once law content stored other p q =
    let same = law (content Journal) (content Sealed) stored.head other.head stored.history other.history
    stored.seals other.seals p q in
    λ i. record { head = same.0 i; history = same.1 i; seals = same.2 i }

of_store_once : OpensInOneWay → (command : Command) (outside : Outside) (one other : Answer) →
    IsOfStore command outside one → IsOfStore command outside other → one ≡ other
of_store_once law command outside one other p q = p.is
    ∙ ap (stored_answer command outside) (stored_once law outside.content p.stored q.stored p.opens q.opens) ∙ sym q.is

module _ (law : OpensInOneWay) (foreign : ForeignHasOneAnswer) (discover : DiscoverHasOneAnswer)
    (sound : SoundStoresHaveOneAnswer) (repairs : RepairsHaveOneEnd) where
  -- a command has one answer, since the areas of a store open in one way and a walk goes one way
  pub answer_once : OneAnswer
  answer_once (Init name window capacity) outside one other p q = init_once outside.content one other p q
  answer_once (Apply None) outside one other p q = of_store_once law (Apply None) outside one other p q
  answer_once (Apply (Some window)) outside one other p q = sym p ∙ q
  answer_once (Serve listen requests service) outside one other p q = absurd p
  answer_once (Mirror base false report capacity) outside one other p q =
      pile-same report capacity base outside.content outside.input one other q.kept p q.loaded q.is
  answer_once (Mirror base true report capacity) outside one other p q =
      walk-same report capacity base outside.content outside.answers one other q.kept p q.loaded q.is
  answer_once Audit outside one other p q = one-audited outside.input one other p q
  answer_once (Drill seed count) outside one other p q = p ∙ sym q
  answer_once (Foreign from) outside one other p q = foreign outside.answers from one other p q
  answer_once (Discover address) outside one other p q = discover outside.answers address one other p q
  answer_once (Relay base listen requests capacity) outside one other p q = absurd p
  answer_once (Scrub false) outside one other p q = sound outside.content one other p q
  answer_once (Scrub true) outside one other p q = repairs outside.content one other p q
  answer_once (Show Document) outside one other p q = shown_once outside.input one other p q
  answer_once (Show Feed) outside one other p q = of_store_once law (Show Feed) outside one other p q
  answer_once (Show (Archive number)) outside one other p q =
      of_store_once law (Show (Archive number)) outside one other p q
  answer_once (Show (Member number)) outside one other p q =
      of_store_once law (Show (Member number)) outside one other p q
  answer_once (Show Pile) outside one other p q = of_store_once law (Show Pile) outside one other p q
