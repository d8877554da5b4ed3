-- A walk asks for no address twice.
use Rattle.std.proofs.Common.{ℕ, List, [], ◌∷◌, ◌++◌, Option, Some, None, subst, append_assoc, append-nil, bytes_eq, sym}
use Rattle.std.specs.List.{IsDistinct, list_any}
use Rattle.std.specs.Cmp.Lexicographic.{nat_list_eq_equiv}
use Rattle.std.proofs.lemmas.Bool.{false_from_ne_true}
use Rattle.std.proofs.lemmas.Map.Keys.{IsDistinct-push}
use Rattle.feed_reader.specs.Feed.{DocumentValue}
use Rattle.foreign_mirror.specs.Laws.{WalksAskOnce}
use Rattle.foreign_mirror.specs.Walk.{Ending, IsAskable, Walks, feed_after}
use Rattle.foreign_mirror.proofs.KnownLemmas.{asked-Decides}

distinct-more : (before : List (List ℕ)) (address : List ℕ) → IsDistinct bytes_eq before → IsAskable before address
    → IsDistinct bytes_eq (before ++ address ∷ [])
distinct-more before address distinct askable =
    IsDistinct-push nat_list_eq_equiv before address distinct
    (false_from_ne_true (list_any (bytes_eq address) before)
    (λ there. askable.new ((asked-Decides before address).0 there)))

asks-once : (answers : List ℕ → Option (List ℕ)) (before : List (List ℕ)) (feed next : Option (List ℕ))
    (asked : List (List ℕ)) (documents : List DocumentValue) (ending : Ending) → IsDistinct bytes_eq before
    → Walks answers before feed next asked documents ending → IsDistinct bytes_eq (before ++ asked)
asks-once answers before feed next [] [] ending distinct walks =
    subst (IsDistinct bytes_eq) (sym (append-nil before)) distinct
asks-once answers before feed next [] (d ∷ documents) ending distinct walks = absurd walks
asks-once answers before feed next (address ∷ asked) [] ending distinct (is, last, askable, ends) =
    subst (λ (l : List (List ℕ)). IsDistinct bytes_eq (before ++ address ∷ l)) (sym last)
    (distinct-more before address distinct askable)
asks-once answers before feed next (address ∷ asked) (d ∷ documents) ending distinct
    (is, askable, read, of_feed, walks) =
    subst (IsDistinct bytes_eq) (append_assoc before (address ∷ []) asked)
    (asks-once answers (before ++ address ∷ []) (feed_after feed d) d.prev asked documents ending
    (distinct-more before address distinct askable) walks)

none-distinct : IsDistinct bytes_eq []
unfolding IsDistinct
none-distinct = tt

pub walks_ask_once : WalksAskOnce
walks_ask_once answers from asked documents ending walks =
    asks-once answers [] None (Some from) asked documents ending none-distinct walks
