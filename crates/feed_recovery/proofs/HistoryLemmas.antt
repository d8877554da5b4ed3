-- The history and the journal of a load, with one operation more and at the end.
use Rattle.std.proofs.Common.{◌≡◌, ℕ, suc, ◌+◌, ◌<◌, List, [], ◌∷◌, ◌++◌, length}
use Rattle.std.proofs.Common.{ℤ, take, Some, sym, ◌∙◌, ap, subst, arith, length-append}
use Rattle.std.specs.Prelude.{slice_get}
use Rattle.std.proofs.Math.Seq.{take-suc}
use Rattle.std.proofs.lemmas.List.{map-append}
use Rattle.std.proofs.lemmas.List.Elements.{All-push}
use Rattle.std.proofs.lemmas.Option.{slice_get_within, get_or_from_slice_get}
use Rattle.atom_writer.specs.Pieced.{text_of}
use Rattle.feed_journal.specs.Log.{Follow}
use Rattle.feed_journal.specs.declared.extent.Extent.{Extent}
use Rattle.feed_recovery.specs.Opening.{journal_of}
use Rattle.member_rules.specs.Coding.{heads, operations}
use Rattle.member_rules.specs.Head.{HeadValue}
use Rattle.member_rules.specs.History.{IsLawful, IsSmall, MayFollow, history_limit}
use Rattle.member_rules.specs.Operation.{IsOperation}
use Rattle.member_rules.specs.Table.{Table, IsTableOf}
use Rattle.member_rules.specs.declared.operation.Op.{Op}
use Rattle.member_rules.proofs.FoldLemmas.{AreFollowing-push}

pub take_next : {T : Type 0} (xs : List T) (n : ℕ) (x : T) → slice_get xs n ≡ Some x
    → take (n + 1) xs ≡ take n xs ++ x ∷ []
take_next {T = T} xs n x there =
    let next : n + 1 ≡ suc n = omega arith in
    ap (λ (k : ℕ). take k xs) next ∙ take-suc xs n x (slice_get_within xs n x there)
    ∙ ap (λ (y : T). take n xs ++ y ∷ []) (get_or_from_slice_get xs n x x there)

pub journal_more : (head : HeadValue) (history : List Op) (operation : Op)
    → journal_of head (history ++ operation ∷ []) ≡ journal_of head history ++ text_of operations operation ∷ []
journal_more head history operation =
    ap (λ (l : List (List ℕ)). text_of heads head ∷ l) (map-append (text_of operations) history (operation ∷ []))

pub lawful_more : (head : HeadValue) (history : List Op) (operation : Op) → IsLawful head history
    → length history < history_limit → MayFollow head.created history operation → IsSmall head.name operation
    → IsOperation operation → IsLawful head (history ++ operation ∷ [])
lawful_more head history operation lawful few follows small rules = record {
  few = omega (arith, length-append history (operation ∷ []));
  following = AreFollowing-push head.created history operation lawful.following follows;
  small = All-push (IsSmall head.name) history operation lawful.small small;
  operations = All-push IsOperation history operation lawful.operations rules;
}

-- a log has at least the gate after its frames
pub follow-below : (from : ℕ) (extents : List Extent) (size : ℕ) → Follow from extents size → from < size
follow-below from [] size follow = omega arith
follow-below from (extent ∷ extents) size follow =
    omega (arith, follow-below (from + extent.length + 5) extents size follow.2)

-- a table with other room is of the same history
pub table_spare : (table after : Table) (created : ℤ) (history : List Op) → IsTableOf table created history
    → after ≡ record table { spare = after.spare } → IsTableOf after created history
table_spare table after created history of is = subst (λ (t : Table). IsTableOf t created history) (sym is) (record {
  following = of.following;
  count = of.count;
  states = of.states;
  edited = of.edited;
  recent = of.recent;
  last = of.last;
  live = of.live;
  operations = of.operations;
})
