-- Which bytes begin with the head of a response.
use Rattle.std.proofs.Common.{◌≡◌, ℕ, ◌+◌, ◌-◌, ◌<◌, ◌≤◌, List, [], ◌∷◌, ◌++◌, length, take, sym, ap, ◌∙◌, arith, length-append, append-nil}
use Rattle.std.proofs.Math.Seq.{take-append-add, take-append_seam}
use Rattle.httparse.specs.Grammar.{ResponseHead, ReadsResponse, HasNoResponse, NeverHasResponse, print_response, print_blank, print_version, print_reason, print_end, print_section}
use Rattle.httparse.specs.Spans.{ResponseOverflows}
use Rattle.httparse.proofs.GrammarLemmas.{print_response-append, response_prefix_free}
use Rattle.http_face.specs.Heard.{head_limit, field_limit}
use Rattle.http_face.specs.Response.{HasNoResponseHead}

-- no head is empty
pub no_response-nil : HasNoResponseHead []
no_response-nil h behind b =
    omega (
      arith,
      ap length (b.reads.1 ∙ print_response-append h behind),
      length-append (print_blank h.blank) (print_version h.minor ++ 32 ∷ (h.digits ++ (print_reason h.reason
          ++ (print_end h.line_end ++ (print_section h.fields h.last ++ behind))))),
      length-append (print_version h.minor) (32 ∷ (h.digits ++ (print_reason h.reason
          ++ (print_end h.line_end ++ (print_section h.fields h.last ++ behind))))),
    )

pub no_response-unfinished : (bytes : List ℕ) → HasNoResponse bytes → HasNoResponseHead bytes
no_response-unfinished bytes none h behind b = none h behind b.reads

-- a head has more fields than there is room for
pub no_response-overflows : (room : ℕ) (bytes : List ℕ) → field_limit ≤ room → ResponseOverflows room bytes →
    HasNoResponseHead bytes
no_response-overflows room bytes wide over h behind b =
    omega (arith, b.few, over [] h behind (b.reads.0, append-nil bytes ∙ b.reads.1), wide)

pub no_response-never : (bytes more : List ℕ) → NeverHasResponse bytes → HasNoResponseHead (bytes ++ more)
no_response-never bytes more never h behind b = never more h behind b.reads

-- a head of too many fields
pub no_response-many : (bytes more behind : List ℕ) (h : ResponseHead) → ReadsResponse bytes h behind →
    field_limit < length h.fields → HasNoResponseHead (bytes ++ more)
no_response-many bytes more behind h reads many k rest b =
    let same = response_prefix_free bytes more h k behind rest reads b.reads in
    omega (arith, many, b.few, ap (λ (x : ResponseHead). length x.fields) same.0)

-- no head ends after the limit
pub no_response-long : (bytes more : List ℕ) → length bytes ≡ head_limit → HasNoResponseHead bytes →
    HasNoResponseHead (bytes ++ more)
no_response-long bytes more long none h behind b =
    let room = head_limit - length (print_response h) in
    let size : length bytes ≡ length (print_response h) + room = omega (arith, b.short, long) in
    let whole : bytes ≡ print_response h ++ take room behind =
    sym (take-append_seam bytes more) ∙ ap (take (length bytes)) b.reads.1
    ∙ ap (λ (n : ℕ). take n (print_response h ++ behind)) size ∙ take-append-add (print_response h) behind room in
    none h (take room behind) (record { reads = (b.reads.0, whole); short = b.short; few = b.few })
