-- A request has one outcome at most.
use Rattle.std.proofs.Common.{◌≡◌, inl, inr, refl, sym, ap, ◌∙◌, ℕ, List, subst, arith}
use Rattle.std.specs.Prelude.{Some}
use Rattle.atom_values.specs.Entry.{DraftValue, EntryValue}
use Rattle.chain_links.specs.declared.address.Address.{Address as FeedAddress}
use Rattle.chain_links.specs.declared.address.Address.TheVariants as address
use Rattle.entry_reader.proofs.DraftLemmas.{one_draft}
use Rattle.entry_reader.proofs.OneRefusalLemmas.{not_refused, one_refusal}
use Rattle.feed_disk.specs.declared.area.Area.{Area}
use Rattle.feed_recovery.specs.Prepare.{Fits, IsFull, IsFullArea, next_seal}
use Rattle.feed_recovery.specs.Store.{StoreValue}
use Rattle.feed_journal.specs.Log.{LogValue}
use Rattle.http_face.specs.Reply.{document_reply}
use Rattle.http_face.specs.Request.{RequestValue}
use Rattle.http_face.specs.declared.request.Verb.{Verb}
use Rattle.http_face.specs.declared.request.Verb.TheVariants as verb
use Rattle.document_server.specs.Laws.{NamesOneAddress}
use Rattle.document_server.specs.Reply.{HasRoomFor, IsAccepted, IsAsked, IsAtAddress, IsMemberShown, IsOfArchive}
use Rattle.document_server.specs.Reply.{IsOfFeed, IsOfMember, IsOfState, IsOutcome, IsRead, IsSent, Outcome}
use Rattle.document_server.specs.Reply.{entry_refusal, full_reply, rule_reply, unchanged}
use Rattle.atom_writer.specs.Members.{member_text}
use Rattle.http_face.specs.declared.reply.Media.TheVariants as media
use Rattle.member_rules.specs.Fold.{state_of}
use Rattle.member_rules.specs.declared.ask.Ask.{Ask}
use Rattle.member_rules.specs.declared.ask.Ask.TheVariants.{Create, Replace, Delete}
use Rattle.member_rules.specs.declared.fault.RuleFault.{RuleFault}
use Rattle.member_rules.specs.declared.operation.Op.{Op}
use Rattle.member_rules.specs.declared.state.State.{State}
use Rattle.member_rules.specs.declared.state.State.TheVariants as member

-- any two of these outcomes are one
abbrev AtMostOne : (Outcome → Type 0) → Type 0
AtMostOne outcomes = (one other : Outcome) → outcomes one → outcomes other → one ≡ other

same-outcome : (one other given : Outcome) → one ≡ given → other ≡ given → one ≡ other
same-outcome one other given is is' = is ∙ sym is'

full-same : (area area' : Area) (size needed capacity size' needed' capacity' : ℕ) → area ≡ area' → size ≡ size'
    → needed ≡ needed' → capacity ≡ capacity'
    → full_reply area size needed capacity ≡ full_reply area' size' needed' capacity'
full-same area area' size needed capacity size' needed' capacity' a b c d =
    ap (λ (x : Area). full_reply x size needed capacity) a ∙ ap (λ (x : ℕ). full_reply area' x needed capacity) b
    ∙ ap (λ (x : ℕ). full_reply area' size' x capacity) c ∙ ap (λ (x : ℕ). full_reply area' size' needed' x) d

module _ (store : StoreValue) where
  -- a full area has no room
  fits-not : (log : LogValue) (payload : List ℕ) (size needed capacity limit : ℕ) → Fits log payload limit
      → capacity ≡ limit → IsFull log payload size needed capacity → ⊥
  fits-not log payload size needed capacity limit fits same full =
      absurd (omega (arith, fits, same, full.over, full.is_size, full.is_needed))

  full-room : (operation : Op) (area : Area) (size needed capacity : ℕ) → HasRoomFor store operation
      → IsFullArea store operation area size needed capacity → ⊥
  full-room operation area size needed capacity room (same, inl (is_area, missing, full)) =
      fits-not store.seals (next_seal store) size needed capacity store.head.capacity
      (room.seal (Some (next_seal store)) (missing, refl)) same full
  full-room operation area size needed capacity room (same, inr (is_area, fits, full)) =
      fits-not store.journal _ size needed capacity store.head.capacity room.journal same full

  one-area : (operation : Op) (area area' : Area) (size needed capacity size' needed' capacity' : ℕ)
      → IsFullArea store operation area size needed capacity
      → IsFullArea store operation area' size' needed' capacity'
      → full_reply area size needed capacity ≡ full_reply area' size' needed' capacity'
  one-area operation area area' size needed capacity size' needed' capacity' (same, inl (is, missing, full))
      (same', inl (is', missing', full')) =
      full-same area area' size needed capacity size' needed' capacity' (is ∙ sym is')
      (full.is_size ∙ sym full'.is_size) (full.is_needed ∙ sym full'.is_needed) (same ∙ sym same')
  one-area operation area area' size needed capacity size' needed' capacity' (same, inr (is, fits, full))
      (same', inr (is', fits', full')) =
      full-same area area' size needed capacity size' needed' capacity' (is ∙ sym is')
      (full.is_size ∙ sym full'.is_size) (full.is_needed ∙ sym full'.is_needed) (same ∙ sym same')
  one-area operation area area' size needed capacity size' needed' capacity' (same, inl (is, missing, full))
      (same', inr (is', fits', full')) =
      absurd (fits-not store.seals (next_seal store) size needed capacity store.head.capacity
      (fits' (Some (next_seal store)) (missing, refl)) same full)
  one-area operation area area' size needed capacity size' needed' capacity' (same, inr (is, fits, full))
      (same', inl (is', missing', full')) =
      absurd (fits-not store.seals (next_seal store) size' needed' capacity' store.head.capacity
      (fits (Some (next_seal store)) (missing', refl)) same' full')

  one-accepted : (operation : Op) → AtMostOne (IsAccepted store operation)
  one-accepted operation one other (inl (area, size, needed, capacity, full, is))
      (inl (area', size', needed', capacity', full', is')) =
      is ∙ ap unchanged (one-area operation area area' size needed capacity size' needed' capacity' full full')
      ∙ sym is'
  one-accepted operation one other (inl (area, size, needed, capacity, full, is)) (inr (room, is')) =
      absurd (full-room operation area size needed capacity room full)
  one-accepted operation one other (inr (room, is)) (inl (area, size, needed, capacity, full, is')) =
      absurd (full-room operation area size needed capacity room full)
  one-accepted operation one other (inr (room, is)) (inr (room', is')) = is ∙ sym is'

  one-asked : (ask : Ask) (now : ℕ) → AtMostOne (IsAsked store ask now)
  one-asked ask now one other (inl (fault, decided, is)) (inl (fault', decided', is')) =
      let same : fault ≡ fault' = cc in is ∙ ap (λ (f : RuleFault). unchanged (rule_reply f)) same ∙ sym is'
  one-asked ask now one other (inl (fault, decided, is)) (inr (operation, decided', accepted)) = cc
  one-asked ask now one other (inr (operation, decided, accepted)) (inl (fault, decided', is)) = cc
  one-asked ask now one other (inr (operation, decided, accepted)) (inr (operation', decided', accepted')) =
      let same : operation' ≡ operation = cc in
      one-accepted operation one other accepted
      (subst (λ (o : Op). IsAccepted store o other) same accepted')

  module _ (request : RequestValue) (now : ℕ) where
    one-read : (asked : DraftValue → Ask) → AtMostOne (IsRead store request.body asked now)
    one-read asked one other (inl (at, reason, refused, is)) (inl (at', reason', refused', is')) =
        let same = one_refusal request.body at at' reason reason' refused refused' in
        is ∙ ap (λ (n : ℕ). unchanged (entry_refusal n reason)) same.0
        ∙ ap (λ r. unchanged (entry_refusal at' r)) same.1 ∙ sym is'
    one-read asked one other (inl (at, reason, refused, is)) (inr (draft, is_draft, spells, is')) =
        absurd (not_refused request.body draft at reason spells refused)
    one-read asked one other (inr (draft, is_draft, spells, is)) (inl (at, reason, refused, is')) =
        absurd (not_refused request.body draft at reason spells refused)
    one-read asked one other (inr (draft, is_draft, spells, is)) (inr (draft', is_draft', spells', is')) =
        let same = one_draft request.body draft' draft spells' spells in
        one-asked (asked draft) now one other is
        (subst (λ (d : DraftValue). IsAsked store (asked d) now other) same is')

    one-sent : (asked : DraftValue → Ask) → AtMostOne (IsSent store request asked now)
    one-sent asked one other (inl (kind, is)) (inl (kind', is')) = is ∙ sym is'
    one-sent asked one other (inl (kind, is)) (inr (kind', is')) = cc
    one-sent asked one other (inr (kind, is)) (inl (kind', is')) = cc
    one-sent asked one other (inr (kind, is)) (inr (kind', is')) = one-read asked one other is is'

    one-state : (state : State) (live : Outcome → Type 0) → AtMostOne live → AtMostOne (IsOfState state live)
    one-state member.Never live lives one other is is' = is ∙ sym is'
    one-state (member.Gone when) live lives one other is is' = is ∙ sym is'
    one-state (member.Live updated version) live lives one other is is' = lives one other is is'

    one-shown : (number : ℕ) → AtMostOne (IsMemberShown store number)
    one-shown number one other (entry, live, is) (entry', live', is') =
        let same : entry ≡ entry' = cc in
        is ∙ ap (λ (e : EntryValue). unchanged (document_reply media.Entry (member_text store.head.name e))) same
        ∙ sym is'

    one-of-feed : (method : Verb) → AtMostOne (IsOfFeed store request now method)
    one-of-feed verb.Get one other is is' = is ∙ sym is'
    one-of-feed verb.Post one other is is' = one-sent (λ draft. Create draft) one other is is'
    one-of-feed verb.Head one other is is' = is ∙ sym is'
    one-of-feed verb.Put one other is is' = is ∙ sym is'
    one-of-feed verb.Delete one other is is' = is ∙ sym is'
    one-of-feed verb.Options one other is is' = is ∙ sym is'
    one-of-feed verb.Patch one other is is' = is ∙ sym is'
    one-of-feed verb.Other one other is is' = is ∙ sym is'

    one-of-archive : (number : ℕ) (method : Verb) → AtMostOne (IsOfArchive store number method)
    one-of-archive number verb.Get one other (inl (sealed, is)) (inl (sealed', is')) = is ∙ sym is'
    one-of-archive number verb.Get one other (inl (sealed, is)) (inr (unsealed, is')) = absurd (unsealed sealed)
    one-of-archive number verb.Get one other (inr (unsealed, is)) (inl (sealed, is')) = absurd (unsealed sealed)
    one-of-archive number verb.Get one other (inr (unsealed, is)) (inr (unsealed', is')) = is ∙ sym is'
    one-of-archive number verb.Post one other is is' = is ∙ sym is'
    one-of-archive number verb.Head one other is is' = is ∙ sym is'
    one-of-archive number verb.Put one other is is' = is ∙ sym is'
    one-of-archive number verb.Delete one other is is' = is ∙ sym is'
    one-of-archive number verb.Options one other is is' = is ∙ sym is'
    one-of-archive number verb.Patch one other is is' = is ∙ sym is'
    one-of-archive number verb.Other one other is is' = is ∙ sym is'

    one-of-member : (number : ℕ) (method : Verb) → AtMostOne (IsOfMember store request now number method)
    one-of-member number verb.Get one other is is' =
        one-state (state_of store.history number) (IsMemberShown store number) (one-shown number) one other is is'
    one-of-member number verb.Put one other is is' =
        one-state (state_of store.history number) (IsSent store request (λ draft. Replace number draft) now)
        (one-sent (λ draft. Replace number draft)) one other is is'
    one-of-member number verb.Delete one other is is' =
        one-state (state_of store.history number) (IsAsked store (Delete number) now) (one-asked (Delete number) now)
        one other is is'
    one-of-member number verb.Head one other is is' = is ∙ sym is'
    one-of-member number verb.Post one other is is' = is ∙ sym is'
    one-of-member number verb.Options one other is is' = is ∙ sym is'
    one-of-member number verb.Patch one other is is' = is ∙ sym is'
    one-of-member number verb.Other one other is is' = is ∙ sym is'

    one-at : (named : FeedAddress) → AtMostOne (IsAtAddress store request now named)
    one-at address.Feed one other is is' = one-of-feed request.verb one other is is'
    one-at (address.Archive number) one other is is' = one-of-archive number request.verb one other is is'
    one-at (address.Member number) one other is is' = one-of-member number request.verb one other is is'

    pub one-outcome : NamesOneAddress store.head.name.base request.target → AtMostOne (IsOutcome store request now)
    one-outcome names one other (inl (method, is)) (inl (method', is')) = is ∙ sym is'
    one-outcome names one other (inl (method, is)) (inr (method', at')) = absurd (method' method)
    one-outcome names one other (inr (method, at)) (inl (method', is')) = absurd (method method')
    one-outcome names one other (inr (method, inl (none, is))) (inr (method', inl (none', is'))) = is ∙ sym is'
    one-outcome names one other (inr (method, inl (none, is))) (inr (method', inr (named, rules, target, at))) =
        absurd (none named rules target)
    one-outcome names one other (inr (method, inr (named, rules, target, at))) (inr (method', inl (none, is))) =
        absurd (none named rules target)
    one-outcome names one other (inr (method, inr (named, rules, target, at)))
        (inr (method', inr (named', rules', target', at'))) =
        let same = names named' named rules' rules target' target in
        one-at named one other at
        (subst (λ (a : FeedAddress). IsAtAddress store request now a other) same at')
