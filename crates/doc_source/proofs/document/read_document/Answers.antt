use Rattle.std.proofs.Common.{◌≡◌, inl, inr, refl}
use Rattle.std.specs.Prelude.{◌⊎◌, Result, Ok, Err}
use Rattle.http_face.specs.declared.fault.ResponseFault.{ResponseFault}
use Rattle.http_face.specs.declared.fault.ResponseFault.TheVariants.{ConnFault, NoMemory}
use Rattle.http_face.proofs.AnswerLemmas.{not_bad}
use Rattle.doc_source.proofs.document.read_document.Goals as goal

-- a result that is `Ok` is no fault
no_fault : {A : Type 0} (x : A) (P : Type 0) (r : Result A ResponseFault) → r ≡ Ok x →
    P ⊎ ((r ≡ Err ConnFault) ⊎ (r ≡ Err NoMemory)) → P
no_fault x P r is (inl holds) = holds
no_fault x P r is (inr (inl other)) = absurd (let e = is in let f = other in cc)
no_fault x P r is (inr (inr other)) = absurd (let e = is in let f = other in cc)

pub returns-in-Ok-clause-only : goal.returns-in-Ok-clause-only
returns-in-Ok-clause-only g c = λ answer is observable.
    inl (no_fault c.in-Ok.found _ (Ok c.in-Ok.found) refl (c.in-Ok.ensures.only answer is observable))

pub returns-in-Ok-clause-bad : goal.returns-in-Ok-clause-bad
returns-in-Ok-clause-bad g c = λ observable bad. absurd (not_bad _ _ (c.in-Ok.ensures.answered observable) bad)
