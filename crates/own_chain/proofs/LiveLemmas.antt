-- The live entries of a chain's documents, as a reader of any feed takes them, are those of the history.
use Rattle.std.proofs.Common.{◌≡◌, ◌↔◌, ℕ, ◌<◌, ◌^◌, List, map, Some, ap, sym, subst, ◌∙◌}
use Rattle.std.specs.Prelude.{All, Contains}
use Rattle.std.proofs.lemmas.List.Elements.{All-contains}
use Rattle.atom_values.specs.Entry.{EntryValue}
use Rattle.atom_writer.specs.Doc.{DocValue}
use Rattle.deleted_entries.specs.FeedId.{IsFeedId, member_id}
use Rattle.member_rules.specs.declared.operation.Op.{Op}
use Rattle.member_rules.specs.Fold.{fold_of}
use Rattle.member_rules.specs.Head.{HeadValue}
use Rattle.canonical_feed.specs.Reading.{foreign_document, foreign_entry}
use Rattle.feed_reader.specs.declared.values.ForeignEntry.{ForeignEntry}
use Rattle.foreign_entries.specs.Counts.{CountsById}
use Rattle.foreign_entries.specs.Live.{IsFirstCounting, IsForeignLive}
use Rattle.foreign_entries.specs.Occurrence.{Occurrence}
use Rattle.published_rule.specs.Counts.{Counts}
use Rattle.own_chain.specs.Served.{AreLiveEntries, IsLiveEntry}
use Rattle.own_chain.proofs.CountsLemmas.{IsOfFeed, counts-by_id, counts-by_member, entry-small, same-id, same-member}
use Rattle.own_chain.proofs.OccurrenceLemmas.{occurrence-is, occurrence_of}

-- the live entries of the history are those that count
abbrev pub LiveCounts : List Op → List DocValue → Type 0
LiveCounts history documents =
    (number : ℕ) (entry : EntryValue) → Counts documents number entry ↔ ((fold_of history).live number ≡ Some entry)

module _ (head : HeadValue) (history : List Op) (documents : List DocValue) (is : IsFeedId head.name.id)
    (all : All (IsOfFeed head.name.id) documents) (rule : LiveCounts history documents) where
  -- an entry that counts first is one of the history's live entries
  counting-live : (e : ForeignEntry) → IsFirstCounting (map foreign_document documents) e.id e
      → IsLiveEntry head history e
  counting-live e first =
      let o = occurrence-is documents first.occurrence first.counts.there in
      let same = same-id head.name.id documents all o.document o.entry.number o.there in
      let id : e.id ≡ member_id head.name.id o.entry.number =
      sym first.counts.of ∙ ap (λ (x : Occurrence). x.entry.id) o.is ∙ same in
      let counts = subst (λ (i : List ℕ). CountsById (map foreign_document documents) i (occurrence_of o.document
      o.entry)) id
      (subst (CountsById (map foreign_document documents) e.id) o.is first.counts) in
      record {
        number = o.entry.number;
        entry = o.entry;
        live = (rule o.entry.number o.entry).0
            (counts-by_member head.name.id documents all o.document o.entry o.there o.kept counts);
        is = first.is ∙ ap (λ (x : Occurrence). x.entry) o.is
            ∙ ap (λ (i : List ℕ). record { id = i; title = o.entry.title.value; updated = o.entry.updated }) same;
      }

  module _ (live : List ForeignEntry) (is_live : IsForeignLive (map foreign_document documents) live) where
    found-live : (e : ForeignEntry) → Contains live e → IsLiveEntry head history e
    found-live e there =
        counting-live e (All-contains (λ (x : ForeignEntry). IsFirstCounting (map foreign_document documents) x.id x)
        live e is_live.each there)

    -- the number of a live entry's member is below the limit of numbers
    live-small : (number : ℕ) (entry : EntryValue) → (fold_of history).live number ≡ Some entry → number < 2 ^ 32
    live-small number entry there =
        let counts = (rule number entry).1 there in
        subst (λ (n : ℕ). n < 2 ^ 32) counts.has.member
        (entry-small head.name.id documents all counts.document entry counts.there counts.has.kept)

    -- a live entry's identifier is that of its member
    live-id : (e : ForeignEntry) → (one : IsLiveEntry head history e) → e.id ≡ member_id head.name.id one.number
    live-id e one =
        ap (λ (x : ForeignEntry). x.id) one.is
        ∙ ap (member_id head.name.id) ((rule one.number one.entry).1 one.live).has.member

    -- two live entries with one identifier are the same
    one-entry : (e other : ForeignEntry) → IsLiveEntry head history e → IsLiveEntry head history other
        → other.id ≡ e.id → other ≡ e
    one-entry e other one two same =
        let named : two.number ≡ one.number =
        same-member head.name.id documents all is one.number two.number (live-small one.number one.entry one.live)
        (live-small two.number two.entry two.live)
        (sym (live-id other two) ∙ same ∙ live-id e one) in
        let both : Some two.entry ≡ Some one.entry =
        sym two.live ∙ ap (fold_of history).live named ∙ one.live in
        let entries : two.entry ≡ one.entry = cc in
        two.is ∙ ap (foreign_entry head.name) entries ∙ sym one.is

    live-found : (e : ForeignEntry) → IsLiveEntry head history e → Contains live e
    live-found e one =
        let counts = (rule one.number one.entry).1 one.live in
        let (k, other, within, at, same) = is_live.all (member_id head.name.id one.number)
        (occurrence_of counts.document one.entry)
        (counts-by_id head.name.id documents all is one.number one.entry counts) in
        let there : Contains live other = (k, within, at) in
        subst (Contains live) (one-entry e other one (found-live other there) (same ∙ sym (live-id e one))) there

    pub live-entries : AreLiveEntries head history live
    live-entries = record {
      rising = is_live.rising;
      exact = λ e. (λ there. found-live e there, λ one. live-found e one);
    }
