-- What a source has at an address determines the answer of `discover`.
use Rattle.std.proofs.Common.{◌≡◌, inl, inr, ℕ, List, Option, None, Some, sym, ap, ◌∙◌}
use Rattle.command_ends.specs.Answer.{Answer}
use Rattle.service_reader.specs.ServiceLaws.{BytesHaveOneServiceRefusal, BytesSpellOneService, ServicesAreNotRefused}
use Rattle.discover_command.specs.Answer.{DiscoverHasOneAnswer, IsAnswerTo}
use Rattle.discover_command.specs.Lines.{collections_answer, refused_answer}

module _ (spell : BytesSpellOneService) (refuse : BytesHaveOneServiceRefusal) (apart : ServicesAreNotRefused) where
  one_answer_to : (address : List ℕ) (found : Option (List ℕ)) (one other : Answer) → IsAnswerTo address found one
      → IsAnswerTo address found other → one ≡ other
  one_answer_to address None one other x y = x ∙ sym y
  one_answer_to address (Some bytes) one other (inl x) (inl y) =
      x.is
      ∙ ap collections_answer (spell bytes address x.collections y.collections x.spelled y.spelled)
      ∙ sym y.is
  one_answer_to address (Some bytes) one other (inl x) (inr y) =
      absurd (apart bytes address x.collections y.at y.why x.spelled y.refused)
  one_answer_to address (Some bytes) one other (inr x) (inl y) =
      absurd (apart bytes address y.collections x.at x.why y.spelled x.refused)
  one_answer_to address (Some bytes) one other (inr x) (inr y) =
      x.is
      ∙ ap refused_answer (refuse bytes address x.at y.at x.why y.why x.refused y.refused).0
      ∙ sym y.is

  pub one_answer : DiscoverHasOneAnswer
  one_answer answers address one other x y = one_answer_to address (answers address) one other x y
