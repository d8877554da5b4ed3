use Rattle.std.proofs.Common.{◌≡◌, ◌≢◌, List, ℕ, ◌∷◌, [], Some, refl, sym, ◌∙◌, codes, arith}
use Rattle.std.proofs.lemmas.Bool.{false≢true}
use Rattle.uuid.specs.Text.{parsed}
use Rattle.uuid.proofs.OnLiterals.{uuid_on_literals}
use Rattle.deleted_entries.specs.FeedId.{version}
use Rattle.store_commands.specs.Apply.{test_head}
use Rattle.store_commands.proofs.apply.test_head.Goals as goal

abbrev feed_id : List ℕ
feed_id = 0x6d ∷ 0x1f ∷ 0x0c ∷ 0x5a ∷ 0x93 ∷ 0xbe ∷ 0x4c ∷ 0x27 ∷ 0x8d ∷ 0x10 ∷ 0x2b ∷ 0x7f ∷ 0x9e ∷ 0x4a ∷ 0x5c ∷ 0x36
    ∷ []

feed_id_text : parsed (codes "6d1f0c5a-93be-4c27-8d10-2b7f9e4a5c36") ≡ Some feed_id
unfolding uuid_on_literals
feed_id_text = refl

other_version : version feed_id ≢ 8
other_version = λ e. absurd (omega arith)

same_id : (id : List ℕ) → parsed (codes "6d1f0c5a-93be-4c27-8d10-2b7f9e4a5c36") ≡ Some id → id ≡ feed_id
same_id id h = let e : Some id ≡ Some feed_id = sym h ∙ feed_id_text in cc

pub unreachable-requires : goal.unreachable-requires
unreachable-requires c = false≢true (c.in_default-parse.ensures.taken.1 (feed_id, feed_id_text, other_version))

pub returns : goal.returns
unfolding test_head
returns c =
    rw (
      c.in-Ok.ensures.text,
      same_id c.in-Some.id c.in-Some.ensures.value,
      c.in-Ok-of.ensures.text,
      c.in-Ok-of-2.ensures.text,
      rw c.unwrap-created.ensures at c.new.ensures.value,
    ) refl
