-- A read head and body of a response decide the bytes of a connection.
use Rattle.std.proofs.Common.{◌≡◌, ℕ, ◌≤◌, List, ◌++◌, length, take, drop, map, inl, inr, refl, sym, ap, ◌∙◌, arith}
use Rattle.std.specs.Prelude.{◌⊎◌, Option, Result, Ok, Err, IfOk, IsOkAnd, Vec, option_map}
use Rattle.std.specs.declared.alloc.Global.{Global}
use Rattle.httparse.specs.declared.spans.HeaderSpan.{HeaderSpan}
use Rattle.httparse.specs.declared.spans.ResponseSpans.{ResponseSpans}
use Rattle.httparse.specs.Grammar.{ResponseHead, status_code}
use Rattle.httparse.specs.Spans.{IsResponseWithin, IsResponseAt, header_bytes}
use Rattle.httparse.proofs.GrammarLemmas.{ReadsResponse-append, response_unique}
use Rattle.http_face.specs.declared.fault.ResponseFault.{ResponseFault}
use Rattle.http_face.specs.declared.fault.ResponseFault.TheVariants.{ConnFault, BadResponse, NoMemory}
use Rattle.http_face.specs.Heard.{head_limit, field_limit}
use Rattle.http_face.specs.Response.{BeginsWithResponse, IsAnswered, IsBadResponse, answer_by, response_fields, ResponsesHaveOneReading, AnswersAreNotBad}
use Rattle.http_face.proofs.HeadLemmas.{field_count}

module _ (left bytes rest : List ℕ) (headers : List HeaderSpan) (spans : ResponseSpans) (h : ResponseHead) where
  abbrev parts : List (List ℕ × List ℕ)
  parts = map (header_bytes bytes) (take spans.headers headers)

  abbrev all_behind : List ℕ
  all_behind = drop spans.len bytes ++ rest

  begins : left ≡ bytes ++ rest → length bytes ≤ head_limit → IsResponseWithin bytes headers spans →
      IsResponseAt bytes headers spans h → spans.headers ≤ field_limit → BeginsWithResponse left h all_behind
  begins e short within at few = record {
    reads = (at.reads.0, e ∙ (ReadsResponse-append bytes h (drop spans.len bytes) rest at.reads).1);
    short = omega (arith, at.len, within.section.len_fits, short);
    few = omega (arith, few, field_count bytes headers spans.headers h.fields within.section.count_fits at.fields);
  }

  answer_is : IsResponseAt bytes headers spans h →
      answer_by (status_code h) (response_fields h) all_behind ≡ answer_by spans.code parts all_behind
  answer_is at =
      ap (λ (k : ℕ). answer_by k (response_fields h) all_behind) (sym at.code)
      ∙ ap (λ (fs : List (List ℕ × List ℕ)). answer_by spans.code fs all_behind) (sym at.fields)

  pub result_answered : (observable : Type 0) (r : Result (Option (Vec ℕ Global)) ResponseFault) →
      (observable → left ≡ bytes ++ rest) → length bytes ≤ head_limit → IsResponseWithin bytes headers spans →
      IsResponseAt bytes headers spans h → spans.headers ≤ field_limit →
      IfOk r (λ found. observable → answer_by spans.code parts all_behind ≡ Ok (option_map (λ v. v.items) found)) →
      IfOk r (λ found. observable → IsAnswered left (option_map (λ v. v.items) found))
  result_answered observable (Ok found) e short within at few same = λ seen. record {
    head = h;
    behind = all_behind;
    begins = begins (e seen) short within at few;
    answer_is = answer_is at ∙ same seen;
  }
  result_answered observable (Err fault) e short within at few same = tt

  pub answer_bad : left ≡ bytes ++ rest → length bytes ≤ head_limit → IsResponseWithin bytes headers spans →
      IsResponseAt bytes headers spans h → spans.headers ≤ field_limit →
      answer_by spans.code parts all_behind ≡ Err BadResponse → IsBadResponse left
  answer_bad e short within at few same = inl (h, all_behind, begins e short within at few, answer_is at ∙ same)

same_answer : (h k : ResponseHead) (p q : List ℕ) → h ≡ k → p ≡ q →
    answer_by (status_code h) (response_fields h) p ≡ answer_by (status_code k) (response_fields k) q
same_answer h k p q e d =
    ap (λ (x : ResponseHead). answer_by (status_code x) (response_fields x) p) e
    ∙ ap (answer_by (status_code k) (response_fields k)) d

same_ok : (a b : Option (List ℕ)) → ◌≡◌ {A = Result (Option (List ℕ)) ResponseFault} (Ok a) (Ok b) → a ≡ b
same_ok a b e = cc

pub one_response : ResponsesHaveOneReading
one_response bytes one other x y =
    let same = response_unique bytes x.head y.head x.behind y.behind x.begins.reads y.begins.reads in
    same_ok one other
    (sym x.answer_is ∙ same_answer x.head y.head x.behind y.behind same.0 same.1 ∙ y.answer_is)

pub not_bad : AnswersAreNotBad
not_bad bytes answer x (inl (head, behind, begins, fails)) =
    let same = response_unique bytes x.head head x.behind behind x.begins.reads begins.reads in
    let both : ◌≡◌ {A = Result (Option (List ℕ)) ResponseFault} (Ok answer) (Err BadResponse) =
    sym x.answer_is ∙ same_answer x.head head x.behind behind same.0 same.1 ∙ fails in
    cc
not_bad bytes answer x (inr none) = none x.head x.behind x.begins

-- a result that is exact in both directions
pub only_answer : (observable : Type 0) (left : List ℕ) (r : Result (Option (Vec ℕ Global)) ResponseFault) →
    IfOk r (λ found. observable → IsAnswered left (option_map (λ v. v.items) found)) →
    (r ≡ Err BadResponse → observable → IsBadResponse left) → (answer : Option (List ℕ)) → IsAnswered left answer → observable →
    IsOkAnd r (λ found. option_map (λ v. v.items) found ≡ answer) ⊎ ((r ≡ Err ConnFault) ⊎ (r ≡ Err NoMemory))
only_answer observable left (Ok found) heard refused answer spelt seen =
    inl (one_response left (option_map (λ v. v.items) found) answer (heard seen) spelt)
only_answer observable left (Err ConnFault) heard refused answer spelt seen = inr (inl refl)
only_answer observable left (Err NoMemory) heard refused answer spelt seen = inr (inr refl)
only_answer observable left (Err BadResponse) heard refused answer spelt seen =
    absurd (not_bad left answer spelt (refused refl seen))
