use Rattle.std.proofs.Common.{◌≡◌, ℕ, List, ◌+◌, ◌%◌, ◌∷◌, length, take, get_or, ap, sym, subst, arith, ◌∙◌, ◌++◌}
use Rattle.std.proofs.Common.{codes}
use Rattle.uuid.specs.Text.{hyphenated_text, lower}
use Rattle.deleted_entries.specs.FeedId.{IsFeedId, member_id, member_bytes}
use Rattle.deleted_entries.proofs.IdLemmas.{member_from_parts, one_number}
use Rattle.deleted_entries.proofs.feed_id.id_of.Goals as goal

pub returns-clause-text : goal.returns-clause-text
unfolding member_id member_bytes
returns-clause-text c =
    let put = member_from_parts c.as_bytes.result.now c.to_be_bytes-n.result (ap length c.as_bytes.ensures
    ∙ c.feed.invariant.size) (ap length c.to_be_bytes-n.ensures) in
    let of_feed = ap (λ (f : List ℕ). take 6 f
    ++ (128 + get_or f 6 0 % 16) ∷ get_or f 7 0 ∷ 128 ∷ 0 ∷ 0 ∷ 0 ∷ c.to_be_bytes-n.result) (c.as_bytes.ensures
    ∙ c.feed.view_is) in
    let of_number = ap (λ (n : List ℕ). take 6 c.args.feed.now
    ++ (128 + get_or c.args.feed.now 6 0 % 16) ∷ get_or c.args.feed.now 7 0 ∷ 128 ∷ 0 ∷ 0 ∷ 0 ∷ n)
    c.to_be_bytes-n.ensures in
    let e : c.urn.result ≡ member_bytes c.args.feed.now c.args.number = c.urn.ensures ∙ c.into_uuid-uuid.ensures
    ∙ c.from_custom_bytes.ensures.value ∙ put ∙ of_feed ∙ of_number in
    c.copy_from_slice.ensures.after ∙ c.as_bytes-2.ensures.value ∙ c.encode_lower-text.ensures.text
    ∙ ap (λ (x : List ℕ). codes "urn:uuid:" ++ hyphenated_text lower x) e

pub returns-clause-own : goal.returns-clause-own
returns-clause-own c = λ other below same.
    let is : IsFeedId c.args.feed.now = subst IsFeedId c.feed.view_is c.feed.invariant in
    one_number c.args.feed.now c.args.number other is (omega arith) below (sym (returns-clause-text c) ∙ same)
