use Rattle.std.proofs.Common.{◌≡◌, ℕ, Bool, true, false, Some, None, Option, Result, IsOk, is_some, is_ok, List, ap}
use Rattle.std.proofs.Common.{sym, subst, rules, arith, ◌∙◌}
use Rattle.std.specs.Str.{bytes_eq}
use Rattle.std.proofs.lemmas.Slice.Eq.{bytes_eq-Decides}
use Rattle.uuid.specs.Text.{parsed}
use Rattle.deleted_entries.specs.FeedId.{IsFeedId, member_bytes, member_id}
use Rattle.deleted_entries.proofs.IdLemmas.{member_parsed, number_read}
use Rattle.deleted_entries.proofs.feed_id.number_of.Goals as goal
use Rattle.deleted_entries.proofs.feed_id.number_of.Goals.{else-number-ge1-via-then-number-ge1+else-eq}
use Rattle.deleted_entries.proofs.feed_id.number_of.Goals.{else-number-ge1-via-else-number-ge1}

not_read : {A E : Type 0} (read : Result A E) (kept : Option A) → is_some kept ≡ is_ok read → kept ≡ None → IsOk read →
    ⊥
not_read read kept same none ok = let e : is_some kept ≡ false = ap is_some none in cc

differs : (xs ys : List ℕ) (r : Bool) → r ≡ bytes_eq xs ys → r ≡ false → xs ≡ ys → ⊥
differs xs ys r is denied same = let yes : bytes_eq xs ys ≡ true = (bytes_eq-Decides xs ys).1 same in cc

pub returns-in_err-uuid : goal.returns-in_err-uuid
returns-in_err-uuid c =
    let is : IsFeedId c.args.feed.now = subst IsFeedId c.feed.view_is c.feed.invariant in
    λ number. (
      λ some. absurd (cc),
      λ member.
          let ok = c.try_parse_ascii.ensures.ok.1
          (member_bytes c.args.feed.now number, member_parsed _ _ number is member) in
          absurd (not_read _ _ c.ok.ensures.variant c.in_err-uuid.was ok),
    )

pub returns-else-number-ge1 : goal.returns-else-number-ge1
returns-else-number-ge1 c =
    let is : IsFeedId c.args.feed.now = subst IsFeedId c.feed.view_is c.feed.invariant in
    let reads : Some c.in_ok-uuid.uuid ≡ parsed c.args.id.now = search rules in
    λ number. (
      λ some. cc,
      λ member.
          let e : c.last_number-number.result ≡ number = c.last_number-number.ensures
          ∙ number_read _ _ _ number is member reads in
          elim c.else-number-ge1.branch [
            | else-number-ge1-via-then-number-ge1+else-eq w ↦
                let same : w.as_slice.result.now ≡ c.args.id.now = w.as_slice.ensures ∙ w.id_of.ensures.text
                ∙ ap (member_id c.args.feed.now) e ∙ sym member.text in
                absurd (differs _ _ w.eq.result w.eq.ensures w.if-eq.false same)
            | else-number-ge1-via-else-number-ge1 w ↦ absurd (omega (arith, member.counted))
          ],
    )
