-- A request or a setting, as a turn of a store.
use Rattle.std.proofs.Common.{◌≡◌, ◌⊎◌, inl, inr}
use Rattle.document_server.specs.Answer.{IsAnswer, IsDone}
use Rattle.document_server.specs.Reply.{Outcome}
use Rattle.document_server.proofs.LinkLemmas.{stays-or-grows}
use Rattle.feed_recovery.specs.Store.{StoreValue}
use Rattle.http_face.specs.Reply.{disk_fault}
use Rattle.http_face.specs.declared.reply.Reply.{Reply}
use Rattle.http_face.specs.declared.request.Verb.TheVariants.{Post}

-- the reply that the disk failed says so itself
pub answer-says : (outcomes : Outcome → Type 0) (old new : StoreValue) (reply : Reply) (failed : Type 0)
    → IsAnswer outcomes old new reply failed → IsAnswer outcomes old new reply (reply ≡ disk_fault)
answer-says outcomes old new reply failed (inl replied) = inl replied
answer-says outcomes old new reply failed (inr (inl forgotten)) = inr (inl forgotten)
answer-says outcomes old new reply failed (inr (inr (is, rose, stays, spent))) = inr (inr (is, is, stays, spent))

-- the history stays or grows, as it does after a POST
pub set-either : (reply : Reply) (same grown : Type 0) → (IsDone reply → grown) → ((¬ IsDone reply) → same)
    → same ⊎ grown
set-either reply same grown grows stays =
    stays-or-grows Post reply same grown (λ other done. grows done) (λ why. elim why [
      | inl get ↦ absurd (cc)
      | inr undone ↦ stays undone
    ])
