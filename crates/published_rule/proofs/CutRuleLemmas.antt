-- The documents of a cut of a history: each is later than those after it.
use Rattle.std.proofs.Common.{◌≡◌, ◌≢◌, inl, inr, ℕ, zero, suc, ◌+◌, ◌-◌, ◌<◌, ◌≤◌, ℤ, ◌<ℤ◌, nat_eq, List, [], ◌∷◌}
use Rattle.std.proofs.Common.{length, map, take, drop, slice_get, Contains, All, IfSome, Option, Some, None, refl, ap}
use Rattle.std.proofs.Common.{sym, subst, subst₂, ◌∙◌, take_all, arith}
use Rattle.std.specs.List.{IsDistinct}
use Rattle.std.proofs.lemmas.Option.{slice_get-get_or}
use Rattle.std.proofs.lemmas.List.Elements.{All-contains_itself}
use Rattle.atom_writer.specs.Doc.{DocValue}
use Rattle.deleted_entries.specs.Item.{item_number}
use Rattle.deleted_entries.specs.declared.item.Item.{Item}
use Rattle.member_rules.specs.declared.operation.Op.{Op}
use Rattle.member_rules.specs.Operation.{item_of}
use Rattle.member_rules.specs.Head.{HeadValue}
use Rattle.member_rules.specs.Fold.{last_moment}
use Rattle.member_rules.specs.History.{AreFollowing}
use Rattle.member_rules.specs.Items.{items_of}
use Rattle.member_rules.specs.Documents.{document_of, archive_of, subscription_of}
use Rattle.member_rules.specs.Chain.{IsOpenCut, chain_of, down_from}
use Rattle.member_rules.proofs.ItemsKeptLemmas.{items-distinct, items-each}
use Rattle.member_rules.proofs.CutLemmas.{IsCut, IsCut-open, ends-within, some-open, span-of}
use Rattle.published_rule.proofs.MemberLemmas.{precedes}
use Rattle.published_rule.proofs.MomentLemmas.{moments-rise}
use Rattle.published_rule.proofs.DatedLemmas.{AreDated, Contains-none, Contains-split, IsBehind}

-- the operation of an item

-- one of the operations has the item
record HasOperation (operations : List Op) (item : Item) : Type 0 where
  place : ℕ
  operation : Op
  there : slice_get operations place ≡ Some operation
  is : item_of operation ≡ Some item

operation-items : (operations : List Op) → All (HasOperation operations) (items_of operations)
operation-items operations = items-each (Contains operations) (HasOperation operations) keeps operations
    (All-contains_itself operations)
  where
    keeps : (operation : Op) → Contains operations operation → IfSome (item_of operation) (HasOperation operations)
    keeps operation there = go (item_of operation) refl
      where
        go : (o : Option Item) → item_of operation ≡ o → IfSome o (HasOperation operations)
        go None is = tt
        go (Some item) is = record {
          place = there.0;
          operation = operation;
          there = slice_get-get_or operations there.0 operation there.1 ∙ ap (λ (o : Op). Some o) there.2;
          is = is;
        }

operation-item : (operations : List Op) (item : Item) → Contains (items_of operations) item
    → HasOperation operations item
operation-item operations item there =
    subst (HasOperation operations) there.2 (operation-items operations there.0 item there.1)

get-drop : (n : ℕ) (list : List Op) (k : ℕ) → slice_get (drop n list) k ≡ slice_get list (n + k)
get-drop zero list k = let same : k ≡ 0 + k = omega arith in ap (slice_get list) same
get-drop (suc n) [] k = refl
get-drop (suc n) (first ∷ rest) k =
    let same : suc n + k ≡ suc (n + k) = omega arith in
    get-drop n rest k ∙ ap (slice_get (first ∷ rest)) (sym same)

get-take : (n : ℕ) (list : List Op) (k : ℕ) (operation : Op) → slice_get (take n list) k ≡ Some operation
    → (k < n) × (slice_get list k ≡ Some operation)
get-take zero list k operation at = absurd (cc)
get-take (suc n) [] k operation at = absurd (cc)
get-take (suc n) (first ∷ rest) zero operation at = (omega arith, at)
get-take (suc n) (first ∷ rest) (suc k) operation at =
    let more = get-take n rest k operation at in
    (omega (arith, more.0), more.1)

-- the document of a span

-- the document has the operations after the first `before` up to `end`
record IsSpanDoc (created : ℤ) (history : List Op) (before end : ℕ) (document : DocValue) : Type 0 where
  within : end ≤ length history
  dated : document.updated ≡ last_moment created (take end history)
  items : document.items ≡ items_of (drop before (take end history))

-- an operation of the span has the item
record IsOfSpan (history : List Op) (before end : ℕ) (item : Item) : Type 0 where
  place : ℕ
  operation : Op
  later : before ≤ place
  earlier : place < end
  there : slice_get history place ≡ Some operation
  is : item_of operation ≡ Some item

span-item : (created : ℤ) (history : List Op) (before end : ℕ) (document : DocValue) (item : Item)
    → IsSpanDoc created history before end document → Contains document.items item
    → IsOfSpan history before end item
span-item created history before end document item span there =
    let found = operation-item (drop before (take end history)) item
    (subst (λ (items : List Item). Contains items item) span.items there) in
    let got = get-take end history (before + found.place) found.operation
    (sym (get-drop before (take end history) found.place) ∙ found.there) in
    record {
      place = before + found.place;
      operation = found.operation;
      later = omega arith;
      earlier = got.0;
      there = got.1;
      is = found.is;
    }

-- two spans, one after the other
span-behind : (created : ℤ) (history : List Op) (before end before' end' : ℕ) (older newer : DocValue)
    → AreFollowing created history → IsSpanDoc created history before end older
    → IsSpanDoc created history before' end' newer → end ≤ before' → before' < end' → IsBehind older newer
span-behind created history before end before' end' older newer following first second apart some = record {
  dated =
      subst₂ (λ (a b : ℤ). a <ℤ b) (sym first.dated) (sym second.dated)
      (moments-rise created history end end' following (omega arith) second.within);
  items = λ item later in_older in_newer named.
      let one = span-item created history before end older item first in_older in
      let next = span-item created history before' end' newer later second in_newer in
      precedes created history one.place next.place one.operation next.operation item later following
      (omega (arith, one.earlier, next.later)) one.there one.is next.there next.is named;
}

-- the archives of a cut

archive-span : (ends : ℕ → ℕ) (head : HeadValue) (history : List Op) (number : ℕ) → ends number ≤ length history
    → IsSpanDoc head.created history (ends (number - 1)) (ends number) (archive_of ends head history number)
unfolding archive_of document_of
archive-span ends head history number within = record { within = within; dated = refl; items = refl }

archive-distinct : (ends : ℕ → ℕ) (head : HeadValue) (history : List Op) (number : ℕ)
    → IsDistinct nat_eq (map item_number (archive_of ends head history number).items)
unfolding archive_of document_of
archive-distinct ends head history number = items-distinct (drop (ends (number - 1)) (take (ends number) history))

in-down_from : (archive : ℕ → DocValue) (number : ℕ) (other : DocValue) → Contains (down_from archive number) other
    → (n : ℕ) × (1 ≤ n) × (n ≤ number) × (archive n ≡ other)
in-down_from archive zero other there = absurd (Contains-none other there)
in-down_from archive (suc number) other there =
    elim (Contains-split (archive (suc number)) other (down_from archive number) there) [
      | inl same ↦ (suc number, omega arith, omega arith, same)
      | inr behind ↦
          let found = in-down_from archive number other behind in
          (found.0, found.1, omega (arith, found.2), found.3)
    ]

-- the spans of the first archives end before those of the next ones
ends-rise : (ends : ℕ → ℕ) (archives count : ℕ) → IsCut ends archives count → (number n : ℕ) → number ≤ archives
    → n ≤ number → ends n ≤ ends number
ends-rise ends archives count cut number n within l =
    let part : IsCut ends number (ends number) = record {
      from_none = cut.from_none;
      rises = λ k less. cut.rises k (omega arith);
      narrow = λ k less. cut.narrow k (omega arith);
      within = omega arith;
    } in
    ends-within ends number (ends number) part n l

module _ (ends : ℕ → ℕ) (archives : ℕ) (head : HeadValue) (history : List Op)
    (following : AreFollowing head.created history) (cut : IsCut ends archives (length history)) where
  archive-behind : (number : ℕ) (other newer : DocValue) (end : ℕ) → number ≤ archives
      → Contains (down_from (archive_of ends head history) number) other
      → IsSpanDoc head.created history (ends number) end newer → ends number < end → IsBehind other newer
  archive-behind number other newer end within there span some =
      let found = in-down_from (archive_of ends head history) number other there in
      let n = found.0 in
      let older = archive-span ends head history n
      (ends-within ends archives (length history) cut n (omega (arith, found.2))) in
      subst (λ (d : DocValue). IsBehind d newer) found.3
      (span-behind head.created history (ends (n - 1)) (ends n) (ends number) end (archive_of ends head history n) newer
      following older span (ends-rise ends archives (length history) cut number n within found.2) some)

  archives-dated : (number : ℕ) → number ≤ archives → AreDated (down_from (archive_of ends head history) number)
  archives-dated zero within = tt
  archives-dated (suc number) within =
      let newer = archive_of ends head history (suc number) in
      let same : suc number - 1 ≡ number = omega arith in
      let of_span = span-of ends archives (length history) cut (suc number) (omega arith) within in
      let span : IsSpanDoc head.created history (ends number) (ends (suc number)) newer =
      rw same at (archive-span ends head history (suc number) of_span.within) in
      let some : ends number < ends (suc number) = rw same at of_span.rises in (
        archive-distinct ends head history (suc number),
        λ other there. archive-behind number other newer (ends (suc number)) (omega arith) there span some,
        archives-dated number (omega arith),
      )

-- the subscription document

subscription-span : (ends : ℕ → ℕ) (archives : ℕ) (head : HeadValue) (history : List Op)
    → IsSpanDoc head.created history (ends archives) (length history) (subscription_of ends archives head history)
unfolding subscription_of document_of
subscription-span ends archives head history =
    let whole = take_all (length history) history (omega arith) in
    record {
      within = omega arith;
      dated = ap (last_moment head.created) (sym whole);
      items = ap (λ (operations : List Op). items_of (drop (ends archives) operations)) (sym whole);
    }

subscription-distinct : (ends : ℕ → ℕ) (archives : ℕ) (head : HeadValue) (history : List Op)
    → IsDistinct nat_eq (map item_number (subscription_of ends archives head history).items)
unfolding subscription_of document_of
subscription-distinct ends archives head history = items-distinct (drop (ends archives) history)

pub chain-dated : (ends : ℕ → ℕ) (archives : ℕ) (head : HeadValue) (history : List Op)
    → AreFollowing head.created history → IsOpenCut ends archives (length history)
    → AreDated (chain_of ends archives head history)
unfolding chain_of
chain-dated ends archives head history following open_cut =
    let cut = IsCut-open ends archives (length history) open_cut in (
      subscription-distinct ends archives head history,
      λ other there.
          let found = in-down_from (archive_of ends head history) archives other there in
          let some : archives ≢ 0 = λ none. omega (arith, found.1, found.2) in
          archive-behind ends archives head history following cut archives other
          (subscription_of ends archives head history) (length history) (omega arith) there
          (subscription-span ends archives head history)
          (some-open ends archives (length history) open_cut some),
      archives-dated ends archives head history following cut archives (omega arith),
    )
