-- Which numbers have a phrase.
use Rattle.std.proofs.Common.{◌≡◌, ℕ, true, false, List, Bool, ◌==◌, if◌then◌else◌, refl, sym, subst, nat_le, nat_lt}
use Rattle.std.specs.Prelude.{Option, Some, None, IsSome}
use Rattle.std.proofs.lemmas.Bool.{eqb-true, leb-true, ltb-true}
use Rattle.http.specs.StatusCode.{reason_phrase, IsStatusCode}

step : (n code : ℕ) (phrase : List ℕ) (others : Option (List ℕ)) → nat_le 100 code ≡ true → nat_lt code 1000 ≡ true →
    (IsSome others → IsStatusCode n) → IsSome (if n == code then Some phrase else others) → IsStatusCode n
step n code phrase others low high next some =
    (elim (n == code) as
    (λ (b : Bool). (n == code) ≡ b → IsSome (if b then Some phrase else others) → IsStatusCode n) [
      | true ↦ λ e _. subst IsStatusCode (sym (eqb-true n code e)) (leb-true 100 code low, ltb-true code 1000 high)
      | false ↦ λ _ h. next h
    ]) refl some

no_phrase : {n : ℕ} → IsSome {T = List ℕ} None → IsStatusCode n
no_phrase none = cc

-- each is a code
pub phrase_code : (n : ℕ) → IsSome (reason_phrase n) → IsStatusCode n
phrase_code n =
    step n 100 _ _ refl refl
    (step n 101 _ _ refl refl
    (step n 102 _ _ refl refl
    (step n 103 _ _ refl refl
    (step n 200 _ _ refl refl
    (step n 201 _ _ refl refl
    (step n 202 _ _ refl refl
    (step n 203 _ _ refl refl
    (step n 204 _ _ refl refl
    (step n 205 _ _ refl refl
    (step n 206 _ _ refl refl
    (step n 207 _ _ refl refl
    (step n 208 _ _ refl refl
    (step n 226 _ _ refl refl
    (step n 300 _ _ refl refl
    (step n 301 _ _ refl refl
    (step n 302 _ _ refl refl
    (step n 303 _ _ refl refl
    (step n 304 _ _ refl refl
    (step n 305 _ _ refl refl
    (step n 307 _ _ refl refl
    (step n 308 _ _ refl refl
    (step n 400 _ _ refl refl
    (step n 401 _ _ refl refl
    (step n 402 _ _ refl refl
    (step n 403 _ _ refl refl
    (step n 404 _ _ refl refl
    (step n 405 _ _ refl refl
    (step n 406 _ _ refl refl
    (step n 407 _ _ refl refl
    (step n 408 _ _ refl refl
    (step n 409 _ _ refl refl
    (step n 410 _ _ refl refl
    (step n 411 _ _ refl refl
    (step n 412 _ _ refl refl
    (step n 413 _ _ refl refl
    (step n 414 _ _ refl refl
    (step n 415 _ _ refl refl
    (step n 416 _ _ refl refl
    (step n 417 _ _ refl refl
    (step n 418 _ _ refl refl
    (step n 421 _ _ refl refl
    (step n 422 _ _ refl refl
    (step n 423 _ _ refl refl
    (step n 424 _ _ refl refl
    (step n 425 _ _ refl refl
    (step n 426 _ _ refl refl
    (step n 428 _ _ refl refl
    (step n 429 _ _ refl refl
    (step n 431 _ _ refl refl
    (step n 451 _ _ refl refl
    (step n 500 _ _ refl refl
    (step n 501 _ _ refl refl
    (step n 502 _ _ refl refl
    (step n 503 _ _ refl refl
    (step n 504 _ _ refl refl
    (step n 505 _ _ refl refl
    (step n 506 _ _ refl refl
    (step n 507 _ _ refl refl
    (step n 508 _ _ refl refl
    (step n 510 _ _ refl refl
    (step n 511 _ None refl refl
    no_phrase)))))))))))))))))))))))))))))))))))))))))))))))))))))))))))))
