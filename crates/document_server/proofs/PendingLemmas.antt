-- The operation that a request adds keeps the history lawful, also if its commit fails.
use Rattle.std.proofs.Common.{◌≡◌, inl, inr, refl, sym, ap, ◌∙◌, subst, ℕ, ◌+◌, ◌^◌, ◌<◌, ◌≤◌, List, [], ◌∷◌, ◌++◌}
use Rattle.std.proofs.Common.{length, arith, Bool, true, false, Result, Ok, Err, ℤ, int_lt, nat_le}
use Rattle.std.proofs.Common.{◌&&◌, ◌||◌, not, filter, if◌then◌else◌, IfSome}
use Rattle.std.specs.Prelude.{Option, Some, None, is_some, unwrap_or}
use Rattle.std.proofs.lemmas.Int.{ints}
use Rattle.std.proofs.lemmas.List.{append-nil, length-map}
use Rattle.std.proofs.lemmas.List.Elements.{All-filter}
use Rattle.std.proofs.lemmas.List.Sums.{count_by-le-length, length-filter}
use Rattle.atom_values.specs.Entry.{DraftValue, EntryValue, IsDraft, IsEntry, IsText, empty_text, link_limit, normal}
use Rattle.atom_values.specs.Entry.{not_before, shown_content}
use Rattle.atom_values.specs.Link.{IsLink, has_alternate, has_relation, without_edit}
use Rattle.atom_values.specs.Listed.{IsListOf}
use Rattle.atom_values.specs.Stamp.{IsStamp}
use Rattle.atom_values.specs.declared.link.Link.{Link}
use Rattle.atom_values.specs.declared.text.Text.{Text}
use Rattle.atom_values.proofs.EntryLemmas.{IsWhole-normal}
use Rattle.atom_writer.specs.declared.doc.FeedName.{FeedName}
use Rattle.chain_links.specs.Address.{IsAddress}
use Rattle.chain_links.specs.declared.address.Address.{Address}
use Rattle.chain_links.specs.declared.address.Address.TheVariants as address
use Rattle.document_server.specs.Answer.{added}
use Rattle.document_server.specs.Reply.{IsAccepted, IsAsked, IsAtAddress, IsMemberShown, IsOfArchive, IsOfFeed}
use Rattle.document_server.specs.Reply.{IsOfMember, IsOfState, IsOutcome, IsRead, IsSent, Outcome, unchanged}
use Rattle.document_server.specs.Served.{IsPageOr, answers_of, paged}
use Rattle.document_server.specs.Session.{Exchange, IsBrokenOff}
use Rattle.xml_tokens.proofs.XmlLemmas.{xml_nil}
use Rattle.feed_disk.specs.Disk.{DiskState}
use Rattle.feed_journal.specs.Log.{IsLog}
use Rattle.feed_recovery.specs.Store.{StandsFor, StoreValue}
use Rattle.http_face.specs.Request.{RequestValue}
use Rattle.http_face.specs.declared.reply.Reply.{Reply}
use Rattle.http_face.specs.declared.request.Verb.{Verb}
use Rattle.http_face.specs.declared.request.Verb.TheVariants as verb
use Rattle.member_rules.specs.Decide.{◌>>=◌, decide, greatest_moment, later_moment, live_entry, live_or_gone}
use Rattle.member_rules.specs.Decide.{next_moment, unless_large, unless_other}
use Rattle.member_rules.specs.Fold.{fold_of, last_moment, made}
use Rattle.member_rules.specs.History.{IsLawful, history_limit, later_of}
use Rattle.member_rules.specs.Operation.{KeepsEntry}
use Rattle.member_rules.specs.Setting.{IsSetting}
use Rattle.member_rules.specs.declared.ask.Ask.{Ask}
use Rattle.member_rules.specs.declared.ask.Ask.TheVariants.{Create, Replace, Delete, Change as ChangeSetting}
use Rattle.member_rules.specs.declared.fault.RuleFault.{RuleFault}
use Rattle.member_rules.specs.declared.fault.RuleFault.TheVariants.{NotFound, ClockSpent, TooLarge}
use Rattle.member_rules.specs.declared.operation.Op.{Op}
use Rattle.member_rules.specs.declared.operation.Op.TheVariants.{Add, Change, Remove, Set}
use Rattle.member_rules.specs.declared.setting.Setting.{Setting}
use Rattle.member_rules.specs.declared.state.State.{State}
use Rattle.member_rules.specs.declared.state.State.TheVariants as member
use Rattle.member_rules.proofs.FoldLemmas.{made-le-length}
use Rattle.member_rules.proofs.LawfulLemmas.{decide-lawful, live-entries}

-- The entry that is made of a draft

later-stamp : (asked : ℤ) (stored : Option ℤ) → IsStamp asked → IfSome stored IsStamp
    → IsStamp (not_before asked stored)
later-stamp asked None stamp also = (grind (arith, ints), grind (arith, ints))
later-stamp asked (Some when) stamp also = (grind (arith, ints), grind (arith, ints))

asked-stamp : (asked : Option ℤ) (moment : ℤ) → IfSome asked IsStamp → IsStamp moment
    → IsStamp (unwrap_or asked moment)
asked-stamp None moment is stamp = stamp
asked-stamp (Some when) moment is stamp = is

empty-is-text : IsText empty_text
empty-is-text = record { short = omega arith; xml = xml_nil }

shown-text : (asked : Option Text) (alternate : Bool) → IfSome asked IsText
    → IfSome (if is_some asked || alternate then asked else Some empty_text) IsText
shown-text None true is = tt
shown-text None false is = empty-is-text
shown-text (Some text) alternate is = is

links-left : (test : Link → Bool) (links : List Link) → IsListOf link_limit IsLink links
    → IsListOf link_limit IsLink (filter test links)
links-left test links (few, all) = (
  omega (arith, few, length-filter test links, count_by-le-length test links),
  All-filter test IsLink links all,
)

normal-entry : (draft : DraftValue) (number : ℕ) (moment : ℤ) (stored : Option ℤ) → IsDraft draft → 1 ≤ number
    → number < 2 ^ 32 → IsStamp moment → IfSome stored IsStamp → IsEntry (normal draft number moment stored)
unfolding normal
normal-entry draft number moment stored is counted small stamp also = record {
  whole = IsWhole-normal number draft.links (without_edit draft.links) draft.content
      (shown_content draft.content (without_edit draft.links)) counted refl refl;
  number = small;
  edited = stamp;
  title = is.title;
  updated = later-stamp (unwrap_or draft.updated moment) stored
      (asked-stamp draft.updated moment is.updated stamp) also;
  published = is.published;
  authors = is.authors;
  contributors = is.contributors;
  links = links-left (λ link. not (has_relation _ link)) draft.links is.links;
  categories = is.categories;
  rights = is.rights;
  summary = is.summary;
  content = shown-text draft.content (has_alternate (without_edit draft.links)) is.content;
}

-- The decision

split-ok : {A : Type 0} (r : Result A RuleFault) (f : A → Result Op RuleFault) (operation : Op)
    → (r >>= f) ≡ Ok operation → (x : A) × (r ≡ Ok x) × (f x ≡ Ok operation)
split-ok (Ok x) f operation e = (x, refl, e)
split-ok (Err fault) f operation e = absurd (cc)

moment-test : (last : ℤ) (now : ℕ) (spent : Bool) (moment : ℤ) → int_lt greatest_moment (later_moment last now) ≡ spent
    → (if spent then Err (ClockSpent last now) else Ok (later_moment last now)) ≡ Ok moment
    → (int_lt greatest_moment (later_moment last now) ≡ false) × (moment ≡ later_moment last now)
moment-test last now true moment t e = absurd (cc)
moment-test last now false moment t e = (t, (cc))

moment-stamp : (last : ℤ) (now : ℕ) → int_lt greatest_moment (later_moment last now) ≡ false
    → IsStamp (later_moment last now)
moment-stamp last now e = (grind (arith, ints), grind (arith, ints))

next-stamp : (created : ℤ) (history : List Op) (now : ℕ) (moment : ℤ) → next_moment created history now ≡ Ok moment
    → IsStamp moment
unfolding next_moment
next-stamp created history now moment e =
    let last = last_moment created history in
    let t = moment-test last now (int_lt greatest_moment (later_moment last now)) moment refl e in
    rw t.1 (moment-stamp last now t.0)

live-test : (number : ℕ) (gone : Option ℤ) (live : Option EntryValue) (inside : Bool) (stored : EntryValue)
    → (if inside then live_or_gone number gone live else Err (NotFound number)) ≡ Ok stored → live ≡ Some stored
live-test number (Some when) live true stored e = absurd (cc)
live-test number None (Some entry) true stored e = let same : entry ≡ stored = cc in ap Some same
live-test number None None true stored e = absurd (cc)
live-test number when live false stored e = absurd (cc)

live-stored : (history : List Op) (number : ℕ) (stored : EntryValue) → live_entry history number ≡ Ok stored
    → (fold_of history).live number ≡ Some stored
unfolding live_entry
live-stored history number stored e =
    live-test number ((fold_of history).gone number) ((fold_of history).live number)
    (nat_le 1 number && nat_le number (made history)) stored e

large-test : (size : ℕ) (set operation : Op) (large : Bool)
    → (if large then Err (TooLarge size) else Ok set) ≡ Ok operation → set ≡ operation
large-test size set operation true e = absurd (cc)
large-test size set operation false e = cc

large-set : (name : FeedName) (make : EntryValue → Op) (entry : EntryValue) (operation : Op)
    → unless_large name make entry ≡ Ok operation → make entry ≡ operation
unfolding unless_large
large-set name make entry operation e = large-test _ (make entry) operation _ e

-- equal results that are `Ok` have the same operation
same_ok : (a b : Op) → (let r : Result Op RuleFault = Ok a in r ≡ Ok b) → a ≡ b
same_ok a b e = cc

-- the rules that the type of an ask keeps
abbrev KeepsAsk : Ask → Type 0
KeepsAsk (Create draft) = IsDraft draft
KeepsAsk (Replace number draft) = (1 ≤ number) × (number < 2 ^ 32) × IsDraft draft
KeepsAsk (Delete number) = Unit {0}
KeepsAsk (ChangeSetting setting) = IsSetting setting

module _ (name : FeedName) (created : ℤ) (history : List Op) (now : ℕ) (operation : Op)
    (few : length history < history_limit) where
  created-entry : (draft : DraftValue) → IsDraft draft → decide name created history (Create draft) now ≡ Ok operation
      → KeepsEntry operation
  unfolding decide
  created-entry draft is e =
      let m = split-ok (next_moment created history now)
      (λ m. unless_large name Add (normal draft (made history + 1) m None)) operation e in
      let set = large-set name Add (normal draft (made history + 1) m.0 None) operation m.2 in
      subst KeepsEntry set
      (normal-entry draft (made history + 1) m.0 None is (omega arith) (omega (arith, made-le-length history, few))
      (next-stamp created history now m.0 m.1) tt)

  replaced-entry : (number : ℕ) (draft : DraftValue) → IsDraft draft → 1 ≤ number → number < 2 ^ 32
      → ((stored : EntryValue) → (fold_of history).live number ≡ Some stored → IsEntry stored)
      → decide name created history (Replace number draft) now ≡ Ok operation → KeepsEntry operation
  unfolding decide
  replaced-entry number draft is counted small live e =
      let s = split-ok (live_entry history number) (λ stored. unless_other name number draft.id >>= λ _. next_moment
      created history now >>= λ m. unless_large name Change (normal draft number m (Some stored.updated))) operation
      e in
      let o = split-ok (unless_other name number draft.id)
      (λ _. next_moment created history now >>= λ m. unless_large name Change
      (normal draft number m (Some s.0.updated))) operation s.2 in
      let m = split-ok (next_moment created history now)
      (λ m. unless_large name Change (normal draft number m (Some s.0.updated))) operation o.2 in
      let set = large-set name Change (normal draft number m.0 (Some s.0.updated)) operation m.2 in
      let stored = live s.0 (live-stored history number s.0 s.1) in
      subst KeepsEntry set
      (normal-entry draft number m.0 (Some s.0.updated) is counted small (next-stamp created history now m.0 m.1)
      stored.updated)

  removed-entry : (number : ℕ) → decide name created history (Delete number) now ≡ Ok operation
      → KeepsEntry operation
  unfolding decide
  removed-entry number e =
      let s = split-ok (live_entry history number) (λ stored. next_moment created history now >>= λ m. Ok
      (Remove record { tombstone = record { number = number; when = later_of m stored.updated }; moment = m }))
      operation e in
      let m = split-ok (next_moment created history now)
      (λ m. Ok (Remove record { tombstone = record { number = number; when = later_of m s.0.updated }; moment = m }))
      operation s.2 in
      subst KeepsEntry
      (same_ok (Remove record { tombstone = record { number = number; when = later_of m.0 s.0.updated }; moment = m.0 })
      operation m.2) tt

  -- an ask for a setting becomes an operation with that setting, which keeps the rules of its type
  kept-setting : (setting : Setting) → IsSetting setting
      → decide name created history (ChangeSetting setting) now ≡ Ok operation → KeepsEntry operation
  unfolding decide
  kept-setting setting is e =
      let m = split-ok (next_moment created history now) (λ m. Ok (Set setting m)) operation e in
      subst KeepsEntry (same_ok (Set setting m.0) operation m.2) is

-- The outcome of a request

module _ (store : StoreValue) (few : length store.history < history_limit)
    (lawful : IsLawful store.head store.history) where
  -- an operation that the outcome adds keeps the history lawful
  abbrev AddsLawful : Outcome → Type 0
  AddsLawful given =
      (operation : Op) → given.adds ≡ Some operation → IsLawful store.head (store.history ++ operation ∷ [])

  adds-nothing : (given : Outcome) (reply : Reply) → given ≡ unchanged reply → AddsLawful given
  adds-nothing given reply is = λ operation adds.
      let none : given.adds ≡ None = ap (λ (g : Outcome). g.adds) is in
      absurd (cc)

  entry-kept : (ask : Ask) (now : ℕ) (operation : Op) → KeepsAsk ask
      → decide store.head.name store.head.created store.history ask now ≡ Ok operation → KeepsEntry operation
  entry-kept (Create draft) now operation is e =
      created-entry store.head.name store.head.created store.history now operation few draft is e
  entry-kept (Replace number draft) now operation (counted, small, is) e =
      replaced-entry store.head.name store.head.created store.history now operation few number draft is counted small
      (λ stored live. live-entries store.history lawful.operations number stored live) e
  entry-kept (Delete number) now operation is e =
      removed-entry store.head.name store.head.created store.history now operation few number e
  entry-kept (ChangeSetting setting) now operation is e =
      kept-setting store.head.name store.head.created store.history now operation few setting is e

  accepted-lawful : (ask : Ask) (now : ℕ) (operation : Op) (given : Outcome) → KeepsAsk ask
      → decide store.head.name store.head.created store.history ask now ≡ Ok operation
      → IsAccepted store operation given → AddsLawful given
  accepted-lawful ask now operation given is e (inl (area, size, needed, capacity, full, same)) =
      adds-nothing given _ same
  accepted-lawful ask now operation given is e (inr (room, same)) = λ other adds.
      let adds_this : given.adds ≡ Some operation = ap (λ (g : Outcome). g.adds) same in
      let this : operation ≡ other = cc in
      subst (λ (o : Op). IsLawful store.head (store.history ++ o ∷ [])) this
      (decide-lawful store.head store.history ask now operation e few lawful (entry-kept ask now operation is e))

  asked-lawful : (ask : Ask) (now : ℕ) (given : Outcome) → KeepsAsk ask → IsAsked store ask now given
      → AddsLawful given
  asked-lawful ask now given is (inl (fault, decided, same)) = adds-nothing given _ same
  asked-lawful ask now given is (inr (operation, decided, accepted)) =
      accepted-lawful ask now operation given is decided accepted

  read-lawful : (body : List ℕ) (asked : DraftValue → Ask) (now : ℕ) (given : Outcome)
      → ((draft : DraftValue) → IsDraft draft → KeepsAsk (asked draft)) → IsRead store body asked now given
      → AddsLawful given
  read-lawful body asked now given keeps (inl (at, reason, refused, same)) = adds-nothing given _ same
  read-lawful body asked now given keeps (inr (draft, is_draft, spells, is)) =
      asked-lawful (asked draft) now given (keeps draft is_draft) is

  sent-lawful : (request : RequestValue) (asked : DraftValue → Ask) (now : ℕ) (given : Outcome)
      → ((draft : DraftValue) → IsDraft draft → KeepsAsk (asked draft)) → IsSent store request asked now given
      → AddsLawful given
  sent-lawful request asked now given keeps (inl (kind, same)) = adds-nothing given _ same
  sent-lawful request asked now given keeps (inr (kind, is)) = read-lawful request.body asked now given keeps is

  state-lawful : (state : State) (live : Outcome → Type 0) (given : Outcome) → (live given → AddsLawful given)
      → IsOfState state live given → AddsLawful given
  state-lawful member.Never live given to same = adds-nothing given _ same
  state-lawful (member.Gone when) live given to same = adds-nothing given _ same
  state-lawful (member.Live updated version) live given to is = to is

  feed-lawful : (request : RequestValue) (now : ℕ) (method : Verb) (given : Outcome)
      → IsOfFeed store request now method given → AddsLawful given
  feed-lawful request now verb.Get given is = adds-nothing given _ is
  feed-lawful request now verb.Post given is =
      sent-lawful request (λ draft. Create draft) now given (λ draft rules. rules) is
  feed-lawful request now verb.Head given is = adds-nothing given _ is
  feed-lawful request now verb.Put given is = adds-nothing given _ is
  feed-lawful request now verb.Delete given is = adds-nothing given _ is
  feed-lawful request now verb.Options given is = adds-nothing given _ is
  feed-lawful request now verb.Patch given is = adds-nothing given _ is
  feed-lawful request now verb.Other given is = adds-nothing given _ is

  archive-lawful : (number : ℕ) (method : Verb) (given : Outcome) → IsOfArchive store number method given
      → AddsLawful given
  archive-lawful number verb.Get given (inl (sealed, is)) = adds-nothing given _ is
  archive-lawful number verb.Get given (inr (unsealed, is)) = adds-nothing given _ is
  archive-lawful number verb.Post given is = adds-nothing given _ is
  archive-lawful number verb.Head given is = adds-nothing given _ is
  archive-lawful number verb.Put given is = adds-nothing given _ is
  archive-lawful number verb.Delete given is = adds-nothing given _ is
  archive-lawful number verb.Options given is = adds-nothing given _ is
  archive-lawful number verb.Patch given is = adds-nothing given _ is
  archive-lawful number verb.Other given is = adds-nothing given _ is

  member-lawful : (request : RequestValue) (now number : ℕ) (method : Verb) (given : Outcome)
      → (1 ≤ number) × (number < 2 ^ 32) → IsOfMember store request now number method given → AddsLawful given
  member-lawful request now number verb.Get given within is =
      state-lawful _ (IsMemberShown store number) given
      (λ (shown : IsMemberShown store number given). adds-nothing given _ shown.2) is
  member-lawful request now number verb.Put given within is =
      state-lawful _ (IsSent store request (λ draft. Replace number draft) now) given
      (sent-lawful request (λ draft. Replace number draft) now given
      (λ draft rules. (within.0, within.1, rules))) is
  member-lawful request now number verb.Delete given within is =
      state-lawful _ (IsAsked store (Delete number) now) given (asked-lawful (Delete number) now given tt) is
  member-lawful request now number verb.Head given within is = adds-nothing given _ is
  member-lawful request now number verb.Post given within is = adds-nothing given _ is
  member-lawful request now number verb.Options given within is = adds-nothing given _ is
  member-lawful request now number verb.Patch given within is = adds-nothing given _ is
  member-lawful request now number verb.Other given within is = adds-nothing given _ is

  address-lawful : (request : RequestValue) (now : ℕ) (named : Address) (given : Outcome) → IsAddress named
      → IsAtAddress store request now named given → AddsLawful given
  address-lawful request now address.Feed given within is = feed-lawful request now request.verb given is
  address-lawful request now (address.Archive number) given within is = archive-lawful number request.verb given is
  address-lawful request now (address.Member number) given within is =
      member-lawful request now number request.verb given within is

  outcome-lawful : (request : RequestValue) (now : ℕ) (given : Outcome) → IsOutcome store request now given
      → AddsLawful given
  outcome-lawful request now given (inl (other, is)) = adds-nothing given _ is
  outcome-lawful request now given (inr (method, inl (none, is))) = adds-nothing given _ is
  outcome-lawful request now given (inr (method, inr (named, is_address, target, at))) =
      address-lawful request now named given is_address at

  -- the operations that an outcome adds
  added-lawful : (adds : Option Op)
      → ((operation : Op) → adds ≡ Some operation → IsLawful store.head (store.history ++ operation ∷ []))
      → IsLawful store.head (store.history ++ added adds)
  added-lawful None to = subst (IsLawful store.head) (sym (append-nil store.history)) lawful
  added-lawful (Some operation) to = to operation refl

  page-lawful : (page : Option Reply) (request : RequestValue) (now : ℕ) (given : Outcome)
      → IsPageOr page (IsOutcome store request now) given → AddsLawful given
  page-lawful (Some reply) request now given is = adds-nothing given reply is
  page-lawful None request now given is = outcome-lawful request now given is

  answers-lawful : (service : Bool) (request : RequestValue) (now : ℕ) (given : Outcome)
      → answers_of service store request now given → AddsLawful given
  answers-lawful service request now given is = page-lawful (paged service store request) request now given is

  pending-history : (service : Bool) (now : ℕ) (exchange : Exchange) (history : List Op)
      → IsBrokenOff (answers_of service) store now exchange history → IsLawful store.head history
  pending-history service now exchange history broken = subst (IsLawful store.head) (sym broken.history_is) (elim broken.may [
    | inl none ↦
        subst (λ (o : List Op). IsLawful store.head (store.history ++ o)) (sym none)
        (subst (IsLawful store.head) (sym (append-nil store.history)) lawful)
    | inr one ↦
        subst (λ (o : List Op). IsLawful store.head (store.history ++ o)) (sym one.2)
        (added-lawful one.0.adds (answers-lawful service broken.request now one.0 one.1))
  ])

-- a store has room for one more operation, since its log has a payload for each and one for the head
stands-few : (disk : DiskState) (store : StoreValue) → IsLog store.journal → StandsFor disk store
    → length store.history < history_limit
stands-few disk store log stands =
    let payloads = ap length stands.journal.list ∙ ap length stands.opens.is_journal.is in
    omega (arith, log.few, simp length-map at payloads)

pub pending-lawful : (service : Bool) (disk : DiskState) (store : StoreValue) (now : ℕ) (exchange : Exchange) (history : List Op)
    → IsLog store.journal → StandsFor disk store → IsBrokenOff (answers_of service) store now exchange history
    → IsLawful store.head history
pending-lawful service disk store now exchange history log stands broken =
    pending-history store (stands-few disk store log stands) stands.opens.is_journal.lawful service now exchange
    history broken
