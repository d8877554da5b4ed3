-- Which bytes begin with a head.
use Rattle.std.proofs.Common.{◌≡◌, ℕ, ◌+◌, ◌-◌, ◌<◌, ◌≤◌, List, [], ◌∷◌, ◌++◌, length, take, inr, sym, ap, ◌∙◌, subst, arith, length-append, append_assoc, append-nil}
use Rattle.std.proofs.Math.Seq.{take-append-add, take-append_seam}
use Rattle.std.proofs.lemmas.List.{length-map, length-take}
use Rattle.httparse.specs.Grammar.{Field, RequestHead, ReadsRequest, HasNoRequest, NeverHasRequest, print_request, print_blank, print_version, print_end, print_section}
use Rattle.httparse.specs.declared.spans.HeaderSpan.{HeaderSpan}
use Rattle.httparse.specs.Spans.{RequestOverflows, AreFieldsAt}
use Rattle.httparse.proofs.GrammarLemmas.{print_request-append, request_prefix_free, ReadsRequest-append}
use Rattle.http_face.specs.Heard.{HasNoHead, IsHeadFault, head_limit, field_limit}
use Rattle.std.specs.Prelude.{Result, Err}
use Rattle.http_face.specs.declared.fault.RequestFault.{RequestFault}
use Rattle.http_face.specs.declared.fault.RequestFault.TheVariants.{BadHead, HeadTooLarge}

-- no head is empty
pub no_head-nil : HasNoHead []
no_head-nil h behind b =
    omega (
      arith,
      ap length (b.reads.1 ∙ print_request-append h behind),
      length-append (print_blank h.blank) (h.method ++ 32 ∷ (h.target ++ 32 ∷ (print_version h.minor
          ++ (print_end h.line_end ++ (print_section h.fields h.last ++ behind))))),
      length-append h.method (32 ∷ (h.target ++ 32 ∷ (print_version h.minor
          ++ (print_end h.line_end ++ (print_section h.fields h.last ++ behind))))),
    )

pub no_head-unfinished : (bytes : List ℕ) → HasNoRequest bytes → HasNoHead bytes
no_head-unfinished bytes none h behind b = none h behind b.reads

-- a head has more fields than there is room for
pub no_head-overflows : (room : ℕ) (bytes : List ℕ) → field_limit ≤ room → RequestOverflows room bytes → HasNoHead bytes
no_head-overflows room bytes wide over h behind b =
    omega (arith, b.few, over [] h behind (b.reads.0, append-nil bytes ∙ b.reads.1), wide)

pub no_head-never : (bytes more : List ℕ) → NeverHasRequest bytes → HasNoHead (bytes ++ more)
no_head-never bytes more never h behind b = never more h behind b.reads

-- bytes that can't begin a head can't with more bytes
pub bad_head : (bytes more : List ℕ) → length bytes ≤ head_limit → NeverHasRequest bytes →
    IsHeadFault (bytes ++ more) BadHead
bad_head bytes more short never =
    let room = head_limit - length bytes in
    let size : head_limit ≡ length bytes + room = omega (arith, short) in
    let front : take head_limit (bytes ++ more) ≡ bytes ++ take room more =
    ap (λ (n : ℕ). take n (bytes ++ more)) size ∙ take-append-add bytes more room in
    subst NeverHasRequest (sym front)
    (λ rest h behind r. never (take room more ++ rest) h behind
    (r.0, sym (append_assoc bytes (take room more) rest) ∙ r.1))

-- a head of too many fields
pub no_head-many : (bytes more behind : List ℕ) (h : RequestHead) → ReadsRequest bytes h behind →
    field_limit < length h.fields → HasNoHead (bytes ++ more)
no_head-many bytes more behind h reads many k rest b =
    let same = request_prefix_free bytes more h k behind rest reads b.reads in
    omega (arith, many, b.few, ap (λ (x : RequestHead). length x.fields) same.0)

pub many_fields : (bytes more behind : List ℕ) (h : RequestHead) → length bytes ≤ head_limit →
    ReadsRequest bytes h behind → field_limit < length h.fields → IsHeadFault (bytes ++ more) HeadTooLarge
many_fields bytes more behind h short reads many =
    inr (
      h,
      behind ++ more,
      ReadsRequest-append bytes h behind more reads,
      omega (arith, ap length reads.1, length-append (print_request h) behind),
      many,
    )

-- no head ends after the limit
pub no_head-long : (bytes more : List ℕ) → length bytes ≡ head_limit → HasNoHead bytes → HasNoHead (bytes ++ more)
no_head-long bytes more long none h behind b =
    let room = head_limit - length (print_request h) in
    let size : length bytes ≡ length (print_request h) + room = omega (arith, b.short, long) in
    let whole : bytes ≡ print_request h ++ take room behind =
    sym (take-append_seam bytes more) ∙ ap (take (length bytes)) b.reads.1
    ∙ ap (λ (n : ℕ). take n (print_request h ++ behind)) size ∙ take-append-add (print_request h) behind room in
    none h (take room behind) (record { reads = (b.reads.0, whole); short = b.short; few = b.few })

-- as many headers were written as there are fields
pub field_count : (buf : List ℕ) (headers : List HeaderSpan) (count : ℕ) (fields : List Field) →
    count ≤ length headers → AreFieldsAt buf headers count fields → count ≡ length fields
field_count buf headers count fields fits e =
    omega (arith, simp (length-map, length-take) at (ap length e), fits)

-- equal refusals have equal faults
pub err_same : {A : Type 0} {one other : RequestFault} → ◌≡◌ {A = Result A RequestFault} (Err one)
    (Err other) → one ≡ other
err_same e = cc
