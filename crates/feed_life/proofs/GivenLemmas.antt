-- The documents that a mirror holds after an answer. The feed served them.
use Rattle.std.proofs.Common.{◌≡◌, ◌⊎◌, inl, inr, ℕ, ◌+◌, ◌≤◌, List, [], ◌∷◌, ◌++◌, Ok, Err, length, map, sym, ap}
use Rattle.std.proofs.Common.{subst, arith, length-append}
use Rattle.std.proofs.lemmas.List.{map-append}
use Rattle.std.proofs.lemmas.List.Elements.{All-push}
use Rattle.atom_writer.specs.Pieces.{text}
use Rattle.member_rules.specs.Head.{HeadValue}
use Rattle.member_rules.specs.Served.{Served}
use Rattle.member_rules.specs.declared.operation.Op.{Op}
use Rattle.mirror_walk.specs.declared.answer.Accepted.TheVariants.{Taken, Known, Stale}
use Rattle.mirror_walk.specs.declared.answer.Offered.TheVariants.{NotADocument, WrongAddress, WrongFeed, Conflict}
use Rattle.mirror_walk.specs.declared.answer.Offered.TheVariants.{Break, Full, DiskFault, NoMemory}
use Rattle.mirror_walk.specs.Accept.{Answer, IsAnswerWithin, IsKeptOf, accept, own_text}
use Rattle.mirror_walk.specs.Holding.{KeptValue, payloads_of}
use Rattle.mirror_walk.specs.Loaded.{IsLoadedOf, own_offer}
use Rattle.mirror_walk.specs.Offers.{AreServed, Offering}
use Rattle.mirror_walk.proofs.RoomLemmas.{within-accepted}
use Rattle.mirror_walk.proofs.TakenLemmas.{kept-text, loaded-more, taken-next, taken-place}

-- one more document is held, which was taken
pub record HoldsMore (base : List ℕ) (kept : List KeptValue) (address bytes : List ℕ) (left : List KeptValue)
    : Type 0 where
  pub given : KeptValue
  pub read : IsKeptOf bytes given
  pub taken : accept base kept address given ≡ Ok Taken
  pub is : left ≡ kept ++ given ∷ []

-- the documents held after an answer: those held before, or one more
pub held-after : (capacity : ℕ) (base : List ℕ) (kept : List KeptValue) (address bytes : List ℕ) (answer : Answer)
    (left : List KeptValue) → IsAnswerWithin capacity base kept address bytes answer left
    → (left ≡ kept) ⊎ HoldsMore base kept address bytes left
held-after capacity base kept address bytes (Ok Taken) left is =
    let accepted = within-accepted capacity base kept address bytes Taken left is in
    inr record {
      given = accepted.given;
      read = accepted.read;
      taken = sym accepted.first_fit;
      is = accepted.left_over;
    }
held-after capacity base kept address bytes (Ok Known) left is = inl is.left_over
held-after capacity base kept address bytes (Ok Stale) left is = inl is.left_over
held-after capacity base kept address bytes (Err (NotADocument at)) left is = inl is.left_over
held-after capacity base kept address bytes (Err (WrongAddress says)) left is = inl is.left_over
held-after capacity base kept address bytes (Err (WrongFeed one other)) left is = inl is.left_over
held-after capacity base kept address bytes (Err (Conflict own one other)) left is = inl is.left_over
held-after capacity base kept address bytes (Err (Break last first)) left is = inl is.left_over
held-after capacity base kept address bytes (Err (Full size needed most)) left is = inl is.left_over
held-after capacity base kept address bytes (Err DiskFault) left is = absurd is
held-after capacity base kept address bytes (Err NoMemory) left is = absurd is

module _ (base : List ℕ) (kept : List KeptValue) (address bytes : List ℕ) (left : List KeptValue) where
  abbrev pub IsHeldAfter : Type 0
  IsHeldAfter = (left ≡ kept) ⊎ HoldsMore base kept address bytes left

  -- at most one more
  pub after-few : IsHeldAfter → length left ≤ length kept + 1
  after-few (inl same) = omega (arith, ap length same)
  after-few (inr more) = omega (arith, simp length-append at (ap length more.is))

  -- each was taken after those before it
  pub after-loaded : IsHeldAfter → IsLoadedOf base (payloads_of kept) kept → IsLoadedOf base (payloads_of left) left
  after-loaded (inl same) loaded = subst (λ (l : List KeptValue). IsLoadedOf base (payloads_of l) l) (sym same) loaded
  after-loaded (inr more) loaded =
      subst (λ (l : List KeptValue). IsLoadedOf base (payloads_of l) l) (sym more.is)
      (loaded-more base kept more.given loaded (kept-text bytes more.given more.read)
      (taken-next base kept address more.given more.taken))

  -- the feed served each of them
  pub after-served : (head : HeadValue) (history : List Op) → IsHeldAfter → Served head history address bytes
      → AreServed head history (map own_offer kept) → AreServed head history (map own_offer left)
  after-served head history (inl same) there served =
      subst (λ (l : List KeptValue). AreServed head history (map own_offer l)) (sym same) served
  after-served head history (inr more) there served =
      let given = more.given in
      let own : Served head history (own_text given.document) (text given.document) =
      subst (λ (a : List ℕ). Served head history a (text given.document))
      (taken-place base kept address given more.taken).1
      (subst (λ (b : List ℕ). Served head history address b) more.read.text there) in
      subst (λ (l : List KeptValue). AreServed head history (map own_offer l)) (sym more.is)
      (subst (AreServed head history) (sym (map-append own_offer kept (given ∷ [])))
      (All-push (λ (offer : Offering). Served head history offer.address offer.bytes) (map own_offer kept)
      (own_offer given) served own))
