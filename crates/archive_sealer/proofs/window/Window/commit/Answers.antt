use Rattle.std.proofs.Common.{◌≡◌, inl, inr, ◌<◌, Some, None, [], ◌∷◌, ◌++◌, length, refl, ap, sym, ◌∙◌, subst}
use Rattle.deleted_entries.specs.declared.item.Item.TheVariants.{Kept, Gone}
use Rattle.member_rules.specs.declared.operation.Op.{Op}
use Rattle.member_rules.specs.declared.operation.Op.TheVariants.{Set}
use Rattle.member_rules.specs.declared.setting.Setting.{Setting}
use Rattle.member_rules.specs.Documents.{title_after, title_set}
use Rattle.member_rules.specs.History.{history_limit}
use Rattle.member_rules.specs.Operation.{item_of}
use Rattle.member_rules.specs.Removal.{RemovalValue}
use Rattle.member_rules.specs.Setting.{IsWindowSize}
use Rattle.member_rules.specs.Windows.{size_after, size_set}
use Rattle.recency_list.specs.Recency.{RecencyValue}
use Rattle.archive_sealer.specs.Window.{WindowValue}
use Rattle.archive_sealer.specs.declared.past.Past.{Past}
use Rattle.archive_sealer.specs.declared.window.Window.TheInside.{Inside}
use Rattle.archive_sealer.proofs.WindowLemmas.{IsReady, IsReady-sealed, IsReady-still, IsKeptOf-more}
use Rattle.archive_sealer.proofs.WindowLemmas.{AreAdded-none, AreAdded-touched, is-set, unset, window_size-some}
use Rattle.archive_sealer.proofs.window.Window.commit.Goals as goal
use Rattle.archive_sealer.proofs.window.Window.commit.Goals.{After-moment, then-self, else-self}

-- the fields with an open window that isn't full, to which the operation is added
record AreReady (past : Past) (operation : Op) (inside : Inside) : Type 0 where
  fields : IsReady inside.size inside.sealed inside.before inside.count inside.items.items inside.order.list past.first
      past.operations
  sized : inside.next_size ≡ size_after past.first past.operations
  titled : inside.title ≡ title_after past.title past.operations
  grown : inside.past ≡ record past { operations = past.operations ++ operation ∷ [] }

ready : (c : After-moment) → AreReady c.self.inside.past c.args.operation c.if-self.self-inside
ready c =
    let past = c.self.inside.past in
    elim c.if-self.branch [
      | then-self w ↦
          subst (AreReady past c.args.operation) (sym w.self-inside-is) record {
            fields =
                IsReady-sealed _ past.first past.title past.operations _ _ c.self.invariant w.if-self.true
                w.clear.ensures.items (ap (λ (r : RecencyValue). r.list) w.clear-then-self.ensures);
            sized = c.self.invariant.counts.next_size;
            titled = c.self.invariant.title;
            grown = c.with-self-inside.ensures;
          }
      | else-self w ↦
          subst (AreReady past c.args.operation) (sym w.self-inside-is) record {
            fields = IsReady-still _ past.first past.title past.operations c.self.invariant w.if-self.false;
            sized = c.self.invariant.counts.next_size;
            titled = c.self.invariant.title;
            grown = c.with-self-inside.ensures;
          }
    ]

few : (c : After-moment) → length c.self.inside.past.operations < history_limit
few c = subst (λ (v : WindowValue). length v.history < history_limit) (sym c.self.view_is) c.requires.few

pub invariant_of-self : goal.invariant_of-self
invariant_of-self c =
    let at = (goal.at.invariant_of-self c).After-moment in
    let is = ready at in
    let item : item_of c.args.operation ≡ Some (Gone c.removal.inside.tombstone) =
    ap item_of c.in-Remove.is ∙ ap (λ (r : RemovalValue). Some (Gone r.tombstone)) (sym c.removal.view_is) in
    IsKeptOf-more _ c.if-self.self-inside.count c.if-self.self-inside.items.items c.if-self.self-inside.order.list
    c.self.inside.past _ c.args.operation is.fields (few at)
    (AreAdded-touched (Gone c.removal.inside.tombstone) _ _ _ _ c.args.operation item c.touch.ensures) refl
    (ap Some c.moment.ensures) (unset _ _ _ (ap title_set c.in-Remove.is) is.titled)
    (unset _ _ _ (ap size_set c.in-Remove.is) is.sized) is.grown

pub invariant_of-self-in-Title : goal.invariant_of-self-in-Title
invariant_of-self-in-Title c =
    let at = (goal.at.invariant_of-self-in-Title c).After-moment in
    let is = ready at in
    let title : title_set c.args.operation ≡ Some c.in-Title.title =
    ap title_set c.in-Set.is ∙ ap (λ (s : Setting). title_set (Set s c.in-Set.moment)) c.in-Title.is in
    let size : size_set c.args.operation ≡ None =
    ap size_set c.in-Set.is ∙ ap (λ (s : Setting). size_set (Set s c.in-Set.moment)) c.in-Title.is in
    IsKeptOf-more _ c.if-self.self-inside.count c.if-self.self-inside.items.items c.if-self.self-inside.order.list
    c.self.inside.past _ c.args.operation is.fields (few at) (AreAdded-none _ _ c.args.operation (ap item_of c.in-Set.is))
    refl (ap Some c.moment.ensures) (is-set _ _ c.in-Title.title _ title c.into_text.ensures.text)
    (unset _ _ _ size is.sized) is.grown

pub invariant_of-self-in-Window : goal.invariant_of-self-in-Window
invariant_of-self-in-Window c =
    let at = (goal.at.invariant_of-self-in-Window c).After-moment in
    let is = ready at in
    let limits = subst IsWindowSize c.get-self-inside.ensures.size c.get-self-inside.ensures.rules in
    let title : title_set c.args.operation ≡ None =
    ap title_set c.in-Set.is ∙ ap (λ (s : Setting). title_set (Set s c.in-Set.moment)) c.in-Window.is in
    let size : size_set c.args.operation ≡ Some c.in-Window.size =
    ap size_set c.in-Set.is
    ∙ ap (λ (s : Setting). size_set (Set s c.in-Set.moment)) c.in-Window.is
    ∙ window_size-some c.in-Window.size limits in
    IsKeptOf-more _ c.if-self.self-inside.count c.if-self.self-inside.items.items c.if-self.self-inside.order.list
    c.self.inside.past _ c.args.operation is.fields (few at) (AreAdded-none _ _ c.args.operation (ap item_of c.in-Set.is))
    refl (ap Some c.moment.ensures) (unset _ _ _ title is.titled)
    (is-set _ _ c.in-Window.size _ size c.get-self-inside.ensures.size) is.grown

pub invariant_of-self-in-Add : goal.invariant_of-self-in-Add
invariant_of-self-in-Add c =
    let at = (goal.at.invariant_of-self-in-Add c).After-moment in
    let is = ready at in
    let item : item_of c.args.operation ≡ Some (Kept c.in-Add.entry) = elim c.in-Add.is [
      | inl made ↦ ap item_of made
      | inr changed ↦ ap item_of changed
    ] in
    let title : title_set c.args.operation ≡ None = elim c.in-Add.is [
      | inl made ↦ ap title_set made
      | inr changed ↦ ap title_set changed
    ] in
    let size : size_set c.args.operation ≡ None = elim c.in-Add.is [
      | inl made ↦ ap size_set made
      | inr changed ↦ ap size_set changed
    ] in
    IsKeptOf-more _ c.if-self.self-inside.count c.if-self.self-inside.items.items c.if-self.self-inside.order.list
    c.self.inside.past _ c.args.operation is.fields (few at)
    (AreAdded-touched (Kept c.in-Add.entry) _ _ _ _ c.args.operation item c.touch-in-Add.ensures) refl
    (ap Some c.moment.ensures) (unset _ _ _ title is.titled) (unset _ _ _ size is.sized) is.grown
