-- The members of a map after one is added or changed.
use Rattle.std.proofs.Common.{◌≡◌, ◌≢◌, ℕ, List, [], ◌∷◌, ◌++◌, Option, Some, None, MatchOption, Bool, true, false, cond}
use Rattle.std.proofs.Common.{unwrap_or}
use Rattle.std.proofs.Common.{sym, ap, subst, ◌∙◌, refl, bytes_eq, BTreeMap, Vec, Global, true≢false}
use Rattle.std.specs.BTreeMap.{UpdatesBy, get_by, is_at}
use Rattle.std.specs.Cmp.{eq_by_cmp_equiv}
use Rattle.std.specs.Cmp.Lexicographic.{slice_cmp, nat_list_cmp_total, nat_list_eq_equiv}
use Rattle.std.specs.Map.{KeepsOthers, IsKeyTest, AreApart, lookup}
use Rattle.std.specs.Ordering.{nat_cmp, is_eq, eq_by_cmp}
use Rattle.std.proofs.lemmas.Map.Text.{is_eq-slice_cmp}
use Rattle.std.proofs.lemmas.Slice.Eq.{bytes_eq-Decides}
use Rattle.feed_reader.specs.declared.values.ForeignEntry.{ForeignEntry}
use Rattle.feed_reader.specs.declared.values.ForeignGone.{ForeignGone}
use Rattle.foreign_entries.specs.Occurrence.{Occurrence}
use Rattle.foreign_entries.specs.Tally.{TalliesIn, IsMemberOf, Keeps, HasNoEntry, HasNoTombstone}
use Rattle.foreign_entries.specs.Tally.{member_of}
use Rattle.foreign_entries.specs.Added.{OffersEntry, OffersTombstone}
use Rattle.foreign_entries.specs.Added.{AddsEntry, AddsTombstone, no_member}
use Rattle.foreign_entries.specs.declared.live.Kept.{Kept}
use Rattle.foreign_entries.specs.declared.live.Member.{Member}
use Rattle.foreign_entries.specs.declared.live.LiveEntries.{LiveEntries}
use Rattle.foreign_entries.proofs.NewestLemmas.{entry_of_other, tombstone_of_other}

-- a change at one identifier leaves what other tests of the keys find
module _ {K X : Type 0} (eq : K → K → Bool) (test : K → Bool) where
  others : (old new : List (K × X)) → KeepsOthers eq test old new → (other : K → Bool) → IsKeyTest eq other
      → AreApart test other → lookup other new ≡ lookup other old
  unfolding KeepsOthers
  others old new h = h

apart : (bs cs ks : List ℕ) → bytes_eq bs cs ≡ false → is_eq (slice_cmp nat_cmp bs ks) ≡ true
    → is_eq (slice_cmp nat_cmp cs ks) ≡ false
apart bs cs ks n y =
    let same : bs ≡ ks = (bytes_eq-Decides bs ks).0 (sym (is_eq-slice_cmp bs ks) ∙ y) in
    is_eq-slice_cmp cs ks ∙ subst (λ xs. bytes_eq cs xs ≡ false) same (nat_list_eq_equiv.symm cs bs ∙ n)

-- a change at one identifier, by the bytes of the keys
pub puts_member : (key : List ℕ) (m n : BTreeMap (Vec ℕ Global) Member) (w : Option Member)
    → UpdatesBy (λ x y. slice_cmp nat_cmp x.items y.items) (λ k. slice_cmp nat_cmp key k.items) m n w
    → (id : List ℕ) → get_by (λ k. slice_cmp nat_cmp id k.items) n
    ≡ cond (bytes_eq key id) w (get_by (λ k. slice_cmp nat_cmp id k.items) m)
puts_member key m n w h id =
    let at : (t : Bool) → bytes_eq key id ≡ t → get_by (λ k. slice_cmp nat_cmp id k.items) n
    ≡ cond t w (get_by (λ k. slice_cmp nat_cmp id k.items) m) = λ t.
    elim t as (λ t. bytes_eq key id ≡ t → get_by (λ k. slice_cmp nat_cmp id k.items) n
    ≡ cond t w (get_by (λ k. slice_cmp nat_cmp id k.items) m)) [
      | true ↦ λ e. subst (λ bs. get_by (λ k. slice_cmp nat_cmp bs k.items) n ≡ w) ((bytes_eq-Decides key id).0 e) h.1
      | false ↦ λ e. others (eq_by_cmp (λ x y. slice_cmp nat_cmp x.items y.items)) _ m.entries n.entries h.3
          (is_at (λ k. slice_cmp nat_cmp id k.items))
          (λ x y. (eq_by_cmp_equiv nat_list_cmp_total).congr id x.items y.items)
          (λ k. apart key id k.items e)
    ] in at (bytes_eq key id) refl

-- the map has this member at the identifier, and the others as they were
abbrev pub PutsMember : List ℕ → Member → LiveEntries → LiveEntries → Type 0
PutsMember key member before after =
    (id : List ℕ) → member_of after id ≡ cond (bytes_eq key id) (Some member) (member_of before id)

apart_ids : (key id : List ℕ) → bytes_eq key id ≡ false → key ≢ id
apart_ids key id e same = true≢false (sym ((bytes_eq-Decides key id).1 same) ∙ e)

-- a member that has one more entry is put into the map
tally_entry : (entries : List Occurrence) (gone : List ForeignGone) (o : Occurrence) (member : Member)
    (before after : LiveEntries) → PutsMember o.entry.id member before after
    → IsMemberOf (entries ++ o ∷ []) gone o.entry.id member → TalliesIn entries gone before
    → TalliesIn (entries ++ o ∷ []) gone after
tally_entry entries gone o member before after puts is tallies id =
    let P : Option Member → Type 0 = λ m. MatchOption m (HasNoEntry (entries ++ o ∷ []) id × HasNoTombstone gone id)
    (IsMemberOf (entries ++ o ∷ []) gone id) in
    let at : (t : Bool) → bytes_eq o.entry.id id ≡ t → P (cond t (Some member) (member_of before id)) = λ t.
    elim t as (λ t. bytes_eq o.entry.id id ≡ t → P (cond t (Some member) (member_of before id))) [
      | true ↦ λ e. subst (λ xs. IsMemberOf (entries ++ o ∷ []) gone xs member) ((bytes_eq-Decides o.entry.id id).0 e) is
      | false ↦ λ e. entry_of_other entries gone id o (apart_ids o.entry.id id e) (member_of before id) (tallies id)
    ] in subst P (sym (puts id)) (at (bytes_eq o.entry.id id) refl)

-- a member that has one more tombstone is put into the map
tally_tombstone : (entries : List Occurrence) (gone : List ForeignGone) (g : ForeignGone) (member : Member)
    (before after : LiveEntries) → PutsMember g.id member before after
    → IsMemberOf entries (gone ++ g ∷ []) g.id member → TalliesIn entries gone before
    → TalliesIn entries (gone ++ g ∷ []) after
tally_tombstone entries gone g member before after puts is tallies id =
    let P : Option Member → Type 0 = λ m. MatchOption m (HasNoEntry entries id × HasNoTombstone (gone ++ g ∷ []) id)
    (IsMemberOf entries (gone ++ g ∷ []) id) in
    let at : (t : Bool) → bytes_eq g.id id ≡ t → P (cond t (Some member) (member_of before id)) = λ t.
    elim t as (λ t. bytes_eq g.id id ≡ t → P (cond t (Some member) (member_of before id))) [
      | true ↦ λ e. subst (λ xs. IsMemberOf entries (gone ++ g ∷ []) xs member) ((bytes_eq-Decides g.id id).0 e) is
      | false ↦ λ e. tombstone_of_other entries gone id g (apart_ids g.id id e) (member_of before id) (tallies id)
    ] in subst P (sym (puts id)) (at (bytes_eq g.id id) refl)

-- what the map keeps of an identifier, which may be new
kept_at : (entries : List Occurrence) (gone : List ForeignGone) (id : List ℕ) (member : Option Member)
    → MatchOption member (HasNoEntry entries id × HasNoTombstone gone id) (IsMemberOf entries gone id)
    → Keeps entries gone id (unwrap_or member no_member)
kept_at entries gone id None has = has
kept_at entries gone id (Some m) has = has.keeps

-- the map has this member at the identifier, where its members are these
puts_in : (key : List ℕ) (member : Member) (before after : LiveEntries) (members : BTreeMap (Vec ℕ Global) Member)
    → after.members ≡ members
    → ((id : List ℕ) → get_by (λ k. slice_cmp nat_cmp id k.items) members
    ≡ cond (bytes_eq key id) (Some member) (member_of before id))
    → PutsMember key member before after
puts_in key member before after members same puts id =
    ap (λ ms. get_by (λ k. slice_cmp nat_cmp id k.items) ms) same ∙ puts id

-- an entry that is offered to the member of its identifier
pub entry_put : (kept : Kept) (before after : LiveEntries) (members : BTreeMap (Vec ℕ Global) Member) (key : List ℕ)
    (old new : Member) → after.members ≡ members → key ≡ kept.entry.id
    → old ≡ unwrap_or (member_of before key) no_member → OffersEntry kept old new
    → ((id : List ℕ) → get_by (λ k. slice_cmp nat_cmp id k.items) members
    ≡ cond (bytes_eq key id) (Some new) (member_of before id))
    → AddsEntry kept before after
entry_put kept before after members key old new is_in e has offers puts entries gone o is tallies =
    let same : key ≡ o.entry.id = e ∙ ap (λ (x : ForeignEntry). x.id) is.entry in
    let id = o.entry.id in
    tally_entry entries gone o new before after (subst (λ xs. PutsMember xs new before after) same
    (puts_in key new before after members is_in puts))
    (offers entries gone o is (subst (Keeps entries gone id)
    (sym (subst (λ xs. old ≡ unwrap_or (member_of before xs) no_member) same has))
    (kept_at entries gone id (member_of before id) (tallies id)))) tallies

-- a tombstone that is offered to the member of its identifier
pub tombstone_put : (g : ForeignGone) (before after : LiveEntries) (members : BTreeMap (Vec ℕ Global) Member)
    (key : List ℕ) (old new : Member) → after.members ≡ members → key ≡ g.id
    → old ≡ unwrap_or (member_of before key) no_member → OffersTombstone g.when old new
    → ((id : List ℕ) → get_by (λ k. slice_cmp nat_cmp id k.items) members
    ≡ cond (bytes_eq key id) (Some new) (member_of before id))
    → AddsTombstone g before after
tombstone_put g before after members key old new is_in e has offers puts entries gone tallies =
    tally_tombstone entries gone g new before after (subst (λ xs. PutsMember xs new before after) e
    (puts_in key new before after members is_in puts))
    (offers entries gone g refl (subst (Keeps entries gone g.id)
    (sym (subst (λ xs. old ≡ unwrap_or (member_of before xs) no_member) e has))
    (kept_at entries gone g.id (member_of before g.id) (tallies g.id)))) tallies
