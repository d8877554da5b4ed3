-- A read head and body of a request decide the bytes of a connection.
use Rattle.std.proofs.Common.{◌≡◌, ◌≢◌, ℕ, ◌≤◌, List, ◌++◌, length, take, drop, map, codes, inl, sym, ap, ◌∙◌, arith}
use Rattle.std.specs.Prelude.{Result, Ok, Err, IfOk, IfErr}
use Rattle.httparse.specs.declared.spans.HeaderSpan.{HeaderSpan}
use Rattle.httparse.specs.declared.spans.RequestSpans.{RequestSpans}
use Rattle.httparse.specs.Grammar.{RequestHead}
use Rattle.httparse.specs.Spans.{IsRequestWithin, IsRequestAt, span_bytes, header_bytes}
use Rattle.httparse.proofs.GrammarLemmas.{ReadsRequest-append}
use Rattle.http_face.specs.declared.fault.RequestFault.{RequestFault}
use Rattle.http_face.specs.declared.fault.RequestFault.TheVariants.{ConnFault, NoMemory}
use Rattle.http_face.specs.Heard.{BeginsWithHead, IsHeard, IsMisheard, head_limit, field_limit, verb_of, body_of, first_of, values_of, fields_of}
use Rattle.http_face.specs.Request.{RequestValue}
use Rattle.http_face.specs.Settled.{IsUnsettled, EndsWithinBody}
use Rattle.http_face.proofs.HeadLemmas.{field_count}
use Rattle.http_face.proofs.SettledLemmas.{unsettled_body}

module _ (left bytes rest : List ℕ) (headers : List HeaderSpan) (spans : RequestSpans) (h : RequestHead) where
  abbrev parts : List (List ℕ × List ℕ)
  parts = map (header_bytes bytes) (take spans.headers headers)

  abbrev all_behind : List ℕ
  all_behind = drop spans.len bytes ++ rest

  begins : left ≡ bytes ++ rest → length bytes ≤ head_limit → IsRequestWithin bytes headers spans →
      IsRequestAt bytes headers spans h → spans.headers ≤ field_limit → BeginsWithHead left h all_behind
  begins e short within at few = record {
    reads = (at.reads.0, e ∙ (ReadsRequest-append bytes h (drop spans.len bytes) rest at.reads).1);
    short = omega (arith, at.len, within.section.len_fits, short);
    few = omega (arith, few, field_count bytes headers spans.headers h.fields within.section.count_fits at.fields);
  }

  body_is : left ≡ bytes ++ rest → IsRequestAt bytes headers spans h →
      body_of h.method (fields_of h) (length left) all_behind
      ≡ body_of (span_bytes bytes spans.method) parts (length (bytes ++ rest)) all_behind
  body_is e at =
      ap (λ (m : List ℕ). body_of m (fields_of h) (length left) all_behind) (sym at.method)
      ∙ ap (λ (fs : List (List ℕ × List ℕ)). body_of (span_bytes bytes spans.method) fs (length left) all_behind)
      (sym at.fields)
      ∙ ap (λ (x : List ℕ). body_of (span_bytes bytes spans.method) parts (length x) all_behind) e

  pub result_heard : (observable : Type 0) (r : Result RequestValue RequestFault) → (observable → left ≡ bytes ++ rest) →
      length bytes ≤ head_limit → IsRequestWithin bytes headers spans → IsRequestAt bytes headers spans h →
      spans.headers ≤ field_limit →
      IfOk r (λ request. request.verb ≡ verb_of (span_bytes bytes spans.method)) →
      IfOk r (λ request. request.target ≡ span_bytes bytes spans.path) →
      IfOk r (λ request. request.media ≡ first_of (values_of (codes "content-type") parts)) →
      IfOk r (λ request. observable → body_of (span_bytes bytes spans.method) parts (length (bytes ++ rest)) all_behind
      ≡ Ok request.body) →
      IfOk r (λ request. observable → IsHeard left request)
  result_heard observable (Ok request) e short within at few verb target media body = λ seen. record {
    head = h;
    behind = all_behind;
    begins = begins (e seen) short within at few;
    verb = verb ∙ ap verb_of at.method;
    target = target ∙ at.path;
    media = media ∙ ap (λ (fs : List (List ℕ × List ℕ)). first_of (values_of (codes "content-type") fs)) at.fields;
    body = body_is (e seen) at ∙ body seen;
  }
  result_heard observable (Err fault) e short within at few verb target media body = tt

  pub result_refused : (observable : Type 0) (r : Result RequestValue RequestFault) → (observable → left ≡ bytes ++ rest) →
      length bytes ≤ head_limit → IsRequestWithin bytes headers spans → IsRequestAt bytes headers spans h →
      spans.headers ≤ field_limit →
      IfErr r (λ fault. fault ≢ ConnFault → fault ≢ NoMemory → observable
      → body_of (span_bytes bytes spans.method) parts (length (bytes ++ rest)) all_behind ≡ Err fault) →
      IfErr r (λ fault. fault ≢ ConnFault → fault ≢ NoMemory → observable → IsMisheard left fault)
  result_refused observable (Ok request) e short within at few refused = tt
  result_refused observable (Err fault) e short within at few refused = λ conn memory seen.
      inl (h, all_behind, begins (e seen) short within at few, body_is (e seen) at ∙ refused conn memory seen)

  pub ends_unsettled : left ≡ bytes ++ rest → length bytes ≤ head_limit → IsRequestWithin bytes headers spans →
      IsRequestAt bytes headers spans h → spans.headers ≤ field_limit →
      EndsWithinBody (span_bytes bytes spans.method) parts all_behind → IsUnsettled left
  ends_unsettled e short within at few early =
      unsettled_body left h all_behind (begins e short within at few)
      (λ all. ap (λ (m : List ℕ). body_of m (fields_of h) all all_behind) (sym at.method)
      ∙ ap (λ (fs : List (List ℕ × List ℕ)). body_of (span_bytes bytes spans.method) fs all all_behind) (sym at.fields)
      ∙ early all)
