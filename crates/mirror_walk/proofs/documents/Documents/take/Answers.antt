use Rattle.std.proofs.Common.{◌≡◌, ℕ, List, [], ◌∷◌, ◌++◌, Option, Some, false, length, refl, ap, sym, subst}
use Rattle.std.proofs.Common.{◌∙◌, arith, rules}
use Rattle.std.specs.BTreeMap.{BTreeMap}
use Rattle.std.proofs.lemmas.Grind.{common_steps}
use Rattle.atom_writer.specs.declared.doc.FeedName.{FeedName}
use Rattle.atom_writer.specs.declared.doc.Kind.TheVariants.{Subscription, Archive}
use Rattle.mirror_walk.specs.Checks.{IsNew}
use Rattle.mirror_walk.specs.Holding.{HeldValue, KeptValue, is_archive, name_of_best}
use Rattle.mirror_walk.specs.Index.{IsBaseMap, IsIndexed, feed_of}
use Rattle.mirror_walk.specs.declared.base_map.BaseMap.{BaseMap}
use Rattle.mirror_walk.specs.declared.documents.Documents.TheInside.{Inside}
use Rattle.mirror_walk.proofs.BaseLemmas.{base-stays}
use Rattle.mirror_walk.proofs.IndexLemmas.{HasPlaces, feed-first, feed-stays, indexed-more, name-own, name-stays}
use Rattle.mirror_walk.proofs.IndexLemmas.{new-free, places-other, places-own}
use Rattle.mirror_walk.proofs.documents.Documents.take.Goals as goal
use Rattle.mirror_walk.proofs.documents.Documents.take.Goals.{in-Archive+in_ok-insert-in-Archive, in-Subscription+in-Some-1}
use Rattle.mirror_walk.proofs.documents.Documents.take.Goals.{in-Subscription+in-None-1, then-at-eq0, else-at-eq0}
use Rattle.mirror_walk.proofs.documents.Documents.take.Goals.{Joined-at-eq0}

-- what is kept beside the documents, once the kind of the document was looked at: where the archives are, the
-- feed's name, and what stays
record IsFiled (kept : List KeptValue) (given : KeptValue) (was : Option (List ℕ)) (archives : BTreeMap ℕ ℕ)
    (base : BaseMap) (feed : Option (List ℕ)) (name : Option FeedName) : Type 0 where
  places : HasPlaces (kept ++ given ∷ []) archives
  based : IsBaseMap (kept ++ given ∷ []) base
  fed : feed ≡ was
  named : name ≡ name_of_best (kept ++ given ∷ [])

abbrev IsFiledIn : Joined-at-eq0 → Inside → Type 0
IsFiledIn c i = IsFiled c.reserve.new.self.items c.args.given.kept c.self.inside.feed i.archives i.map i.feed i.name

-- the new document's index is the number of those before it
count : (c : Joined-at-eq0) → c.in_ok-at.at ≡ length c.reserve.new.self.items
count c = grind (arith, common_steps)

filed : (c : Joined-at-eq0) → IsFiledIn c c.match-kind.self-inside
filed c = elim c.match-kind.branch [
  | in-Archive+in_ok-insert-in-Archive w ↦
      let kind : given.document.kind ≡ Archive w.in-Archive.number =
      sym c.kind.ensures.kind ∙ w.in-Archive.is in
      subst (IsFiledIn c) (sym w.self-inside-is) record {
        places = places-own kept given c.self.inside.archives w.insert.new.self w.in-Archive.number c.in_ok-at.at
            there (new-free kept given.document w.in-Archive.number new kind) kind (count c)
            w.in_ok-insert-in-Archive.ensures.updates;
        based = stays;
        fed = refl;
        named = was_named ∙ sym (name-stays kept given w.in-Archive.number kind);
      }
  | in-Subscription+in-Some-1 w ↦
      subst (IsFiledIn c) (sym w.self-inside-is) (newest (sym c.kind.ensures.kind ∙ w.in-Subscription.is))
  | in-Subscription+in-None-1 w ↦
      subst (IsFiledIn c) (sym w.self-inside-is) (newest (sym c.kind.ensures.kind ∙ w.in-Subscription.is))
]
  where
    kept : List KeptValue
    kept = c.reserve.new.self.items

    given : KeptValue
    given = c.args.given.kept

    new : IsNew kept given.document
    new = subst (λ (list : List KeptValue). IsNew list given.document)
        (ap (λ (h : HeldValue). h.kept) (sym c.self.view_is) ∙ sym c.reserve.ensures.items) c.requires.new

    there : HasPlaces kept c.self.inside.archives
    there = subst (λ (list : List KeptValue). HasPlaces list c.self.inside.archives)
        (sym c.reserve.ensures.items) c.self.invariant.archives_there

    stays : IsBaseMap (kept ++ given ∷ []) c.self.inside.map
    stays = base-stays kept given c.self.inside.map
        (subst (λ (list : List KeptValue). IsBaseMap list c.self.inside.map) (sym c.reserve.ensures.items)
        c.self.invariant.base_there)

    was_named : c.self.inside.name ≡ name_of_best kept
    was_named = c.self.invariant.name_there ∙ ap name_of_best (sym c.reserve.ensures.items)

    newest : given.document.kind ≡ Subscription → IsFiled kept given c.self.inside.feed c.self.inside.archives
        c.self.inside.map c.self.inside.feed (Some c.args.given.name)
    newest kind = record {
      places = places-other kept given c.self.inside.archives there (λ n. ap (is_archive n) kind);
      based = stays;
      fed = refl;
      named = ap (λ (n : FeedName). Some n) c.requires.name ∙ sym (name-own kept given new kind);
    }

pub invariant_of-self-3 : goal.invariant_of-self-3
invariant_of-self-3 c =
    let kept = c.reserve.new.self.items in
    let given = c.args.given.kept in
    let pushed : c.push.new.self.items ≡ kept ++ given ∷ [] = search rules in
    let file = filed (goal.at.invariant_of-self-3 c).Joined-at-eq0 in
    let same : c.self.inside.feed ≡ feed_of kept =
    c.self.invariant.feed_there ∙ ap feed_of (sym c.reserve.ensures.items) in
    let long = count (goal.at.invariant_of-self-3 c).Joined-at-eq0 in
    let indexed = λ (feed : Option (List ℕ)) (fed : feed ≡ feed_of (kept ++ given ∷ [])).
    indexed-more kept c.push.new.self.items given c.match-kind.self-inside.archives c.best_with-best.result
    c.match-kind.self-inside.map feed c.match-kind.self-inside.name pushed file.places c.best_with-best.ensures
    file.based fed file.named in
    elim c.if-at-eq0.branch [
      | then-at-eq0 w ↦
          subst (λ (i : Inside). IsIndexed c.push.new.self.items i.archives i.best i.map false i.feed i.name)
          (sym w.self-inside-is)
          (indexed (Some c.args.given.name.id)
          (ap (λ (n : FeedName). Some n.id) c.requires.name
          ∙ sym (feed-first kept given (omega (arith, long, w.if-at-eq0.true)))))
      | else-at-eq0 w ↦
          subst (λ (i : Inside). IsIndexed c.push.new.self.items i.archives i.best i.map false i.feed i.name)
          (sym w.self-inside-is)
          (indexed c.match-kind.self-inside.feed
          (file.fed ∙ same ∙ sym (feed-stays kept given (λ none. w.if-at-eq0.false (long ∙ none)))))
    ]
