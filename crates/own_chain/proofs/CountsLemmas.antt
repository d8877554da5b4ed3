-- An entry of a chain counts by the identifiers of a reader of any feed exactly where it counts by members.
use Rattle.std.proofs.Common.{◌≡◌, ℕ, ◌<◌, ◌^◌, ◌<ℤ◌, ◌≤ℤ◌, List, map, refl, ap, sym, subst, ◌∙◌}
use Rattle.std.specs.Prelude.{All, Contains}
use Rattle.std.proofs.lemmas.List.Elements.{All-contains}
use Rattle.atom_values.specs.Entry.{EntryValue}
use Rattle.atom_writer.specs.Doc.{DocValue, IsDoc}
use Rattle.deleted_entries.specs.FeedId.{IsFeedId, member_id}
use Rattle.deleted_entries.specs.Item.{IsItem}
use Rattle.deleted_entries.specs.Tombstone.{TombstoneValue}
use Rattle.deleted_entries.specs.declared.item.Item.TheVariants.{Kept, Gone}
use Rattle.deleted_entries.proofs.IdLemmas.{one_number}
use Rattle.canonical_feed.specs.Reading.{foreign_document, foreign_gone}
use Rattle.feed_reader.specs.Feed.{DocumentValue}
use Rattle.feed_reader.specs.declared.values.ForeignGone.{ForeignGone}
use Rattle.foreign_entries.specs.Counts.{CountsById}
use Rattle.foreign_entries.specs.Occurrence.{HasTombstone, Occurrence}
use Rattle.published_rule.specs.Counts.{Counts, HasEntry}
use Rattle.own_chain.proofs.ElementLemmas.{Contains-from_map, Contains-map}
use Rattle.own_chain.proofs.OccurrenceLemmas.{IsOccurrence, gone-is, gone-there, occurrence-is, occurrence_of, occurs}

-- the document keeps the rules of documents, and is of the feed with this identifier
pub record IsOfFeed (id : List ℕ) (d : DocValue) : Type 0 where
  pub is_doc : IsDoc d
  pub same : d.name.id ≡ id

module _ (id : List ℕ) (documents : List DocValue) (all : All (IsOfFeed id) documents) where
  of-feed : (d : DocValue) → Contains documents d → IsOfFeed id d
  of-feed d there = All-contains (IsOfFeed id) documents d all there

  -- the identifier of a member in a document of the feed
  pub same-id : (d : DocValue) (number : ℕ) → Contains documents d → member_id d.name.id number ≡ member_id id number
  same-id d number there = ap (λ (i : List ℕ). member_id i number) (of-feed d there).same

  pub entry-small : (d : DocValue) (entry : EntryValue) → Contains documents d → Contains d.items (Kept entry)
      → entry.number < 2 ^ 32
  entry-small d entry there kept =
      (All-contains IsItem d.items (Kept entry) (of-feed d there).is_doc.items kept).number

  tombstone-small : (d : DocValue) (t : TombstoneValue) → Contains documents d → Contains d.items (Gone t)
      → t.number < 2 ^ 32
  tombstone-small d t there gone =
      (All-contains IsItem d.items (Gone t) (of-feed d there).is_doc.items gone).number.1

  -- an entry that counts by its identifier counts by its member
  pub counts-by_member : (d : DocValue) (entry : EntryValue) → Contains documents d → Contains d.items (Kept entry)
      → CountsById (map foreign_document documents) (member_id id entry.number) (occurrence_of d entry)
      → Counts documents entry.number entry
  counts-by_member d entry there kept counts = record {
    document = d;
    there = there;
    has = record { kept = kept; member = refl };
    latest = λ other rival among has. counts.latest (occurrence_of other rival)
        (occurs documents other rival among has.kept) (rival-id other rival among has);
    newest = λ other rival among has same. counts.newest (occurrence_of other rival)
        (occurs documents other rival among has.kept) (rival-id other rival among has) same;
    undeleted = λ other t among has. counts.undeleted (foreign_gone other.name t) (record {
      document = foreign_document other;
      there = Contains-map foreign_document documents other among;
      has = gone-there other t has.gone;
      of = same-id other t.number among ∙ ap (member_id id) has.member;
    });
  }
    where
      rival-id : (other : DocValue) (rival : EntryValue) → Contains documents other → HasEntry other entry.number rival
          → (occurrence_of other rival).entry.id ≡ member_id id entry.number
      rival-id other rival among has = same-id other rival.number among ∙ ap (member_id id) has.member

  module _ (is : IsFeedId id) where
    -- where a member has the identifier of another, it is the same one
    pub same-member : (number other : ℕ) → number < 2 ^ 32 → other < 2 ^ 32 → member_id id other ≡ member_id id number
        → other ≡ number
    same-member number other small small_other same = one_number id number other is small small_other (sym same)

    -- an entry that counts by its member counts by its identifier
    pub counts-by_id : (number : ℕ) (entry : EntryValue) → (counts : Counts documents number entry)
        → CountsById (map foreign_document documents) (member_id id number) (occurrence_of counts.document entry)
    counts-by_id number entry counts = record {
      there = occurs documents counts.document entry counts.there counts.has.kept;
      of = same-id counts.document entry.number counts.there ∙ ap (member_id id) counts.has.member;
      latest = λ rival among same.
          let o = occurrence-is documents rival among in
          subst (λ (r : Occurrence). r.entry.updated ≤ℤ entry.updated) (sym o.is)
          (counts.latest o.document o.entry o.there (rival-of rival o same));
      newest = λ rival among same same_updated.
          let o = occurrence-is documents rival among in
          subst (λ (r : Occurrence). r.document.updated ≤ℤ counts.document.updated) (sym o.is)
          (counts.newest o.document o.entry o.there (rival-of rival o same)
          (sym (ap (λ (r : Occurrence). r.entry.updated) o.is) ∙ same_updated));
      undeleted = λ gone has. undeleted gone has;
    }
      where
        small : number < 2 ^ 32
        small = subst (λ (n : ℕ). n < 2 ^ 32) counts.has.member
            (entry-small counts.document entry counts.there counts.has.kept)

        rival-of : (rival : Occurrence) (o : IsOccurrence documents rival) → rival.entry.id ≡ member_id id number
            → HasEntry o.document number o.entry
        rival-of rival o same = record {
          kept = o.kept;
          member = same-member number o.entry.number small (entry-small o.document o.entry o.there o.kept)
              (sym (same-id o.document o.entry.number o.there)
              ∙ sym (ap (λ (r : Occurrence). r.entry.id) o.is) ∙ same);
        }

        undeleted : (gone : ForeignGone) → HasTombstone (map foreign_document documents) (member_id id number) gone
            → gone.when <ℤ entry.updated
        undeleted gone has =
            let (d, among, is_d) = Contains-from_map foreign_document documents has.document has.there in
            let (t, there, is_t) = gone-is d gone
            (subst (λ (x : DocumentValue). Contains x.gone gone) (sym is_d) has.has) in
            let member : t.number ≡ number =
            same-member number t.number small (tombstone-small d t among there)
            (sym (same-id d t.number among) ∙ ap (λ (g : ForeignGone). g.id) is_t ∙ has.of) in
            subst (λ (g : ForeignGone). g.when <ℤ entry.updated) is_t
            (counts.undeleted d t among (record { gone = there; member = member }))
