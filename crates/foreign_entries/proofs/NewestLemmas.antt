-- The newest entry and the latest tombstone of an identifier, with one more entry or tombstone.
use Rattle.std.proofs.Common.{◌≡◌, ◌≢◌, ℕ, List, [], ◌∷◌, ◌++◌, All, Option, Some, None, ℤ, ◌<ℤ◌, ◌≤ℤ◌}
use Rattle.std.proofs.Common.{◌⊎◌, inl, inr, is_some, MatchOption, refl, sym, ap, subst, subst₂, ◌∙◌, arith, append_assoc}
use Rattle.std.proofs.lemmas.Int.{ints}
use Rattle.std.proofs.lemmas.List.Elements.{All-nil, All-push, All-append, All-cons, All-weaker, Contains-append_left}
use Rattle.std.proofs.lemmas.List.Elements.{Contains-push}
use Rattle.feed_reader.specs.declared.values.ForeignEntry.{ForeignEntry}
use Rattle.feed_reader.specs.declared.values.ForeignGone.{ForeignGone}
use Rattle.foreign_entries.specs.Occurrence.{Occurrence}
use Rattle.foreign_entries.specs.Tally.{IsNewer, IsNewestOf, IsLatestOf, IsMemberOf, Keeps, HasNoEntry}
use Rattle.foreign_entries.specs.Tally.{HasNoTombstone}
use Rattle.foreign_entries.specs.Added.{IsOccurrenceOf, IsNewerKept}
use Rattle.foreign_entries.specs.declared.live.Kept.{Kept}
use Rattle.foreign_entries.specs.declared.live.Member.{Member}

later : (a b c d e f : ℤ) → (b <ℤ a) ⊎ ((b ≡ a) × (d <ℤ c)) → (e <ℤ b) ⊎ ((e ≡ b) × (f <ℤ d))
    → (e <ℤ a) ⊎ ((e ≡ a) × (f <ℤ c))
later a b c d e f x y = grind (arith, ints)

-- what is newer than an entry is newer than those that aren't newer than it
later_than_no_later : (a b c d e f : ℤ) → (b <ℤ a) ⊎ ((b ≡ a) × (d <ℤ c))
    → ((b <ℤ e) ⊎ ((b ≡ e) × (d <ℤ f)) → ⊥) → (e <ℤ a) ⊎ ((e ≡ a) × (f <ℤ c))
later_than_no_later a b c d e f x y = grind (arith, ints)

newer : (a b c : Occurrence) → IsNewer a b → IsNewer b c → IsNewer a c
newer a b c = later a.entry.updated b.entry.updated a.document.updated b.document.updated c.entry.updated c.document.updated

newer_than_no_newer : (a b c : Occurrence) → IsNewer a b → (IsNewer c b → ⊥) → IsNewer a c
newer_than_no_newer a b c = later_than_no_later a.entry.updated b.entry.updated a.document.updated b.document.updated
    c.entry.updated c.document.updated

-- the order of entries is that of what is kept of them
same_order : (a b c d p q r s : ℤ) → a ≡ p → b ≡ q → c ≡ r → d ≡ s → (b <ℤ a) ⊎ ((b ≡ a) × (d <ℤ c))
    → (q <ℤ p) ⊎ ((q ≡ p) × (s <ℤ r))
same_order a b c d p q r s e f g h x = subst₂ (λ v w. (q <ℤ p) ⊎ ((q ≡ p) × (w <ℤ v))) g h
    (subst₂ (λ v w. (w <ℤ v) ⊎ ((w ≡ v) × (d <ℤ c))) e f x)

updated : (kept : Kept) (o : Occurrence) → IsOccurrenceOf kept o → kept.entry.updated ≡ o.entry.updated
updated kept o is = ap (λ (e : ForeignEntry). e.updated) is.entry

newer_from_kept : (one other : Kept) (a b : Occurrence) → IsOccurrenceOf one a → IsOccurrenceOf other b
    → IsNewerKept one other → IsNewer a b
newer_from_kept one other a b x y h = same_order one.entry.updated other.entry.updated one.document_updated
    other.document_updated _ _ _ _ (updated one a x) (updated other b y) x.document y.document h

kept_from_newer : (one other : Kept) (a b : Occurrence) → IsOccurrenceOf one a → IsOccurrenceOf other b
    → IsNewer a b → IsNewerKept one other
kept_from_newer one other a b x y h = same_order a.entry.updated b.entry.updated a.document.updated b.document.updated
    _ _ _ _ (sym (updated one a x)) (sym (updated other b y)) (sym x.document) (sym y.document) h

is_of : (all : List Occurrence) (id : List ℕ) (kept : Kept) (n : IsNewestOf all id kept)
    → IsOccurrenceOf kept n.occurrence
is_of all id kept n = record { entry = n.entry; document = n.document }

-- the first entry of the identifier
newest_first : (all : List Occurrence) (o : Occurrence) (kept : Kept) → IsOccurrenceOf kept o
    → HasNoEntry all o.entry.id → IsNewestOf (all ++ o ∷ []) o.entry.id kept
newest_first all o kept is none = record {
  before = all;
  occurrence = o;
  after = [];
  split = refl;
  of = refl;
  first = All-weaker (λ (r : Occurrence). r.entry.id ≢ o.entry.id)
      (λ (r : Occurrence). r.entry.id ≡ o.entry.id → IsNewer o r) (λ r apart same. absurd (apart same)) all none;
  newest = All-nil (λ (r : Occurrence). r.entry.id ≡ o.entry.id → IsNewer r o → ⊥);
  entry = is.entry;
  document = is.document;
}

-- an entry that is newer
newest_put : (all : List Occurrence) (o : Occurrence) (kept old : Kept) → IsOccurrenceOf kept o
    → IsNewestOf all o.entry.id old → IsNewerKept kept old → IsNewestOf (all ++ o ∷ []) o.entry.id kept
newest_put all o kept old is n newer_kept =
    let P : Occurrence → Type 0 = λ r. r.entry.id ≡ o.entry.id → IsNewer o r in
    let over : IsNewer o n.occurrence = newer_from_kept kept old o n.occurrence is (is_of all _ old n) newer_kept in
    let front : All P n.before = All-weaker (λ (r : Occurrence). r.entry.id ≡ o.entry.id → IsNewer n.occurrence r) P
    (λ r has same. newer o n.occurrence r over (has same)) n.before n.first in
    let back : All P n.after = All-weaker (λ (r : Occurrence). r.entry.id ≡ o.entry.id → IsNewer r n.occurrence → ⊥) P
    (λ r has same. newer_than_no_newer o n.occurrence r over (has same)) n.after n.newest in
    let whole : All P (n.before ++ n.occurrence ∷ n.after) = All-append P n.before (n.occurrence ∷ n.after) front
    (All-cons P n.occurrence n.after (λ _. over) back) in
    record {
      before = all;
      occurrence = o;
      after = [];
      split = refl;
      of = refl;
      first = subst (All P) (sym n.split) whole;
      newest = All-nil (λ (r : Occurrence). r.entry.id ≡ o.entry.id → IsNewer r o → ⊥);
      entry = is.entry;
      document = is.document;
    }

-- an entry after which the one that was kept stays
newest_past : (all : List Occurrence) (id : List ℕ) (o : Occurrence) (old : Kept) (n : IsNewestOf all id old)
    → (o.entry.id ≡ id → IsNewer o n.occurrence → ⊥) → IsNewestOf (all ++ o ∷ []) id old
newest_past all id o old n never = record {
  before = n.before;
  occurrence = n.occurrence;
  after = n.after ++ o ∷ [];
  split = ap (λ xs. xs ++ o ∷ []) n.split ∙ append_assoc n.before (n.occurrence ∷ n.after) (o ∷ []);
  of = n.of;
  first = n.first;
  newest = All-push (λ (r : Occurrence). r.entry.id ≡ id → IsNewer r n.occurrence → ⊥) n.after o n.newest never;
  entry = n.entry;
  document = n.document;
}

-- an entry that isn't newer
newest_stays : (all : List Occurrence) (o : Occurrence) (kept old : Kept) → IsOccurrenceOf kept o
    → IsNewestOf all o.entry.id old → (IsNewerKept kept old → ⊥) → IsNewestOf (all ++ o ∷ []) o.entry.id old
newest_stays all o kept old is n never = newest_past all o.entry.id o old n
    (λ _ over. never (kept_from_newer kept old o n.occurrence is (is_of all _ old n) over))

-- the first tombstone of the identifier
latest_first : (all : List ForeignGone) (g : ForeignGone) (when : ℤ) → g.when ≡ when → HasNoTombstone all g.id
    → IsLatestOf (all ++ g ∷ []) g.id when
latest_first all g when is none =
    let P : ForeignGone → Type 0 = λ r. r.id ≡ g.id → r.when ≤ℤ when in
    record {
      gone = g;
      there = Contains-push all g;
      of = refl;
      is = is;
      latest = All-push P all g (All-weaker (λ (r : ForeignGone). r.id ≢ g.id) P
          (λ r apart same. absurd (apart same)) all none) (λ _. omega (arith, ints));
    }

-- a tombstone that is later
latest_put : (all : List ForeignGone) (g : ForeignGone) (when old : ℤ) → g.when ≡ when → IsLatestOf all g.id old
    → old <ℤ when → IsLatestOf (all ++ g ∷ []) g.id when
latest_put all g when old is n over =
    let P : ForeignGone → Type 0 = λ r. r.id ≡ g.id → r.when ≤ℤ when in
    record {
      gone = g;
      there = Contains-push all g;
      of = refl;
      is = is;
      latest = All-push P all g (All-weaker (λ (r : ForeignGone). r.id ≡ g.id → r.when ≤ℤ old) P
          (λ r has same. let below : r.when ≤ℤ old = has same in omega (arith, ints)) all n.latest)
          (λ _. omega (arith, ints));
    }

-- a tombstone after which the latest stays
latest_past : (all : List ForeignGone) (id : List ℕ) (g : ForeignGone) (old : ℤ) → IsLatestOf all id old
    → (g.id ≡ id → g.when ≤ℤ old) → IsLatestOf (all ++ g ∷ []) id old
latest_past all id g old n never = record {
  gone = n.gone;
  there = Contains-append_left all (g ∷ []) n.gone n.there;
  of = n.of;
  is = n.is;
  latest = All-push (λ (r : ForeignGone). r.id ≡ id → r.when ≤ℤ old) all g n.latest never;
}

-- a member that takes an entry of its identifier
pub offer_first : (entries : List Occurrence) (gone : List ForeignGone) (o : Occurrence) (kept : Kept) (m : Member)
    → IsOccurrenceOf kept o → m.kept ≡ None → Keeps entries gone o.entry.id m
    → IsMemberOf (entries ++ o ∷ []) gone o.entry.id (record { kept = Some kept; gone = m.gone })
offer_first entries gone o kept m is none has = record {
  keeps = (
    newest_first entries o kept is
        (subst (λ k. MatchOption k (HasNoEntry entries o.entry.id) (IsNewestOf entries o.entry.id)) none has.0),
    has.1,
  );
  some = inl refl;
}

pub offer_newer : (entries : List Occurrence) (gone : List ForeignGone) (o : Occurrence) (kept old : Kept) (m : Member)
    → IsOccurrenceOf kept o → m.kept ≡ Some old → IsNewerKept kept old → Keeps entries gone o.entry.id m
    → IsMemberOf (entries ++ o ∷ []) gone o.entry.id (record { kept = Some kept; gone = m.gone })
offer_newer entries gone o kept old m is some newer_kept has = record {
  keeps = (
    newest_put entries o kept old is
        (subst (λ k. MatchOption k (HasNoEntry entries o.entry.id) (IsNewestOf entries o.entry.id)) some has.0) newer_kept,
    has.1,
  );
  some = inl refl;
}

pub offer_older : (entries : List Occurrence) (gone : List ForeignGone) (o : Occurrence) (kept old : Kept) (m : Member)
    → IsOccurrenceOf kept o → m.kept ≡ Some old → (IsNewerKept kept old → ⊥) → Keeps entries gone o.entry.id m
    → IsMemberOf (entries ++ o ∷ []) gone o.entry.id m
offer_older entries gone o kept old m is some never has =
    let P : Option Kept → Type 0 = λ k. MatchOption k (HasNoEntry entries o.entry.id)
    (IsNewestOf entries o.entry.id) in
    let Q : Option Kept → Type 0 = λ k. MatchOption k (HasNoEntry (entries ++ o ∷ []) o.entry.id)
    (IsNewestOf (entries ++ o ∷ []) o.entry.id) in
    record {
      keeps = (
        subst Q (sym some) (newest_stays entries o kept old is (subst P some has.0) never),
        has.1,
      );
      some = inl (ap is_some some);
    }

-- a member that takes a tombstone of its identifier
pub remove_first : (entries : List Occurrence) (gone : List ForeignGone) (g : ForeignGone) (when : ℤ) (m : Member)
    → g.when ≡ when → m.gone ≡ None → Keeps entries gone g.id m
    → IsMemberOf entries (gone ++ g ∷ []) g.id (record { kept = m.kept; gone = Some when })
remove_first entries gone g when m is none has = record {
  keeps = (
    has.0,
    latest_first gone g when is
        (subst (λ w. MatchOption w (HasNoTombstone gone g.id) (IsLatestOf gone g.id)) none has.1),
  );
  some = inr refl;
}

pub remove_later : (entries : List Occurrence) (gone : List ForeignGone) (g : ForeignGone) (when old : ℤ) (m : Member)
    → g.when ≡ when → m.gone ≡ Some old → old <ℤ when → Keeps entries gone g.id m
    → IsMemberOf entries (gone ++ g ∷ []) g.id (record { kept = m.kept; gone = Some when })
remove_later entries gone g when old m is some over has = record {
  keeps = (
    has.0,
    latest_put gone g when old is
        (subst (λ w. MatchOption w (HasNoTombstone gone g.id) (IsLatestOf gone g.id)) some has.1) over,
  );
  some = inr refl;
}

pub remove_earlier : (entries : List Occurrence) (gone : List ForeignGone) (g : ForeignGone) (when old : ℤ)
    (m : Member) → g.when ≡ when → m.gone ≡ Some old → when ≤ℤ old → Keeps entries gone g.id m
    → IsMemberOf entries (gone ++ g ∷ []) g.id m
remove_earlier entries gone g when old m is some under has =
    let P : Option ℤ → Type 0 = λ w. MatchOption w (HasNoTombstone gone g.id) (IsLatestOf gone g.id) in
    let Q : Option ℤ → Type 0 = λ w. MatchOption w (HasNoTombstone (gone ++ g ∷ []) g.id)
    (IsLatestOf (gone ++ g ∷ []) g.id) in
    record {
      keeps = (
        has.0,
        subst Q (sym some) (latest_past gone g.id g old (subst P some has.1) (λ _. omega (arith, ints))),
      );
      some = inr (ap is_some some);
    }

-- an entry of another identifier changes nothing
pub entry_of_other : (entries : List Occurrence) (gone : List ForeignGone) (id : List ℕ) (o : Occurrence)
    → o.entry.id ≢ id → (member : Option Member)
    → MatchOption member (HasNoEntry entries id × HasNoTombstone gone id) (IsMemberOf entries gone id)
    → MatchOption member (HasNoEntry (entries ++ o ∷ []) id × HasNoTombstone gone id)
    (IsMemberOf (entries ++ o ∷ []) gone id)
entry_of_other entries gone id o apart None has =
    (All-push (λ (r : Occurrence). r.entry.id ≢ id) entries o has.0 apart, has.1)
entry_of_other entries gone id o apart (Some m) has =
    let at : (k : Option Kept) → MatchOption k (HasNoEntry entries id) (IsNewestOf entries id)
    → MatchOption k (HasNoEntry (entries ++ o ∷ []) id) (IsNewestOf (entries ++ o ∷ []) id) = λ k.
    elim k as (λ k. MatchOption k (HasNoEntry entries id) (IsNewestOf entries id)
    → MatchOption k (HasNoEntry (entries ++ o ∷ []) id) (IsNewestOf (entries ++ o ∷ []) id)) [
      | None ↦ λ none. All-push (λ (r : Occurrence). r.entry.id ≢ id) entries o none apart
      | Some kept ↦ λ n. newest_past entries id o kept n (λ same _. apart same)
    ] in
    record { keeps = (at m.kept has.keeps.0, has.keeps.1); some = has.some }

-- a tombstone of another identifier changes nothing
pub tombstone_of_other : (entries : List Occurrence) (gone : List ForeignGone) (id : List ℕ) (g : ForeignGone)
    → g.id ≢ id → (member : Option Member)
    → MatchOption member (HasNoEntry entries id × HasNoTombstone gone id) (IsMemberOf entries gone id)
    → MatchOption member (HasNoEntry entries id × HasNoTombstone (gone ++ g ∷ []) id)
    (IsMemberOf entries (gone ++ g ∷ []) id)
tombstone_of_other entries gone id g apart None has =
    (has.0, All-push (λ (r : ForeignGone). r.id ≢ id) gone g has.1 apart)
tombstone_of_other entries gone id g apart (Some m) has =
    let at : (w : Option ℤ) → MatchOption w (HasNoTombstone gone id) (IsLatestOf gone id)
    → MatchOption w (HasNoTombstone (gone ++ g ∷ []) id) (IsLatestOf (gone ++ g ∷ []) id) = λ w.
    elim w as (λ w. MatchOption w (HasNoTombstone gone id) (IsLatestOf gone id)
    → MatchOption w (HasNoTombstone (gone ++ g ∷ []) id) (IsLatestOf (gone ++ g ∷ []) id)) [
      | None ↦ λ none. All-push (λ (r : ForeignGone). r.id ≢ id) gone g none apart
      | Some when ↦ λ n. latest_past gone id g when n (λ same. absurd (apart same))
    ] in
    record { keeps = (has.keeps.0, at m.gone has.keeps.1); some = has.some }
