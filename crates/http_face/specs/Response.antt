-- A connection's bytes are a response, or they are none (RFC 9112 sections 2 to 6).
use Rattle.std.specs.Prelude.{◌≡◌, ◌⊎◌, ℕ, ◌≤◌, List, [], ◌∷◌, length, take, map}
use Rattle.std.specs.Prelude.{◌==◌, ◌||◌, nat_le, nat_lt, if◌then◌else◌, Option, Some, None, Result, Ok, Err, codes, is_some}
use Rattle.std.specs.Str.Parse.{digits_value}
use Rattle.httparse.specs.Grammar.{ResponseHead, ReadsResponse, print_response, status_code}
use Rattle.httparse.specs.Spans.{name_and_value}
use Rattle.http_face.specs.declared.fault.ResponseFault.{ResponseFault}
use Rattle.http_face.specs.declared.fault.ResponseFault.TheVariants.{BadResponse}
use Rattle.http_face.specs.Heard.{head_limit, field_limit, values_of, first_of, is_length}

-- the most bytes of a response's body
abbrev pub answer_limit : ℕ
answer_limit = 67_108_864

-- the bytes begin with this head, within the limits of a head, and go on so
pub record BeginsWithResponse (bytes : List ℕ) (head : ResponseHead) (behind : List ℕ) : Type 0 where
  pub reads : ReadsResponse bytes head behind
  pub short : length (print_response head) ≤ head_limit
  pub few : length head.fields ≤ field_limit

abbrev pub HasNoResponseHead : List ℕ → Type 0
HasNoResponseHead bytes = (head : ResponseHead) (behind : List ℕ) → ¬ BeginsWithResponse bytes head behind

-- the names and the values of a head's fields
abbrev pub response_fields : ResponseHead → List (List ℕ × List ℕ)
response_fields head = map name_and_value head.fields

-- the length of the body that a value states
abbrev pub extent_of : List ℕ → Result (Option ℕ) ResponseFault
extent_of value =
    if is_length value then
    (if nat_lt answer_limit (digits_value 10 value) then Err BadResponse
    else Ok (Some (digits_value 10 value))) else Err BadResponse

-- the length of the body by the values of `Content-Length`; None if the body goes on up to the end (RFC 9112
-- section 6.3)
abbrev pub extent_by : List (List ℕ) → Result (Option ℕ) ResponseFault
extent_by [] = Ok None
extent_by (value ∷ []) = extent_of value
extent_by (value ∷ other ∷ more) = Err BadResponse

-- the length of the body by the fields; a coded body can't be read
abbrev pub stated_extent : List (List ℕ × List ℕ) → Result (Option ℕ) ResponseFault
stated_extent fields =
    if is_some (first_of (values_of (codes "transfer-encoding") fields)) then Err BadResponse
    else extent_by (values_of (codes "content-length") fields)

-- the body of this length, or up to the end
abbrev pub body_within : Option ℕ → List ℕ → Result (Option (List ℕ)) ResponseFault
body_within None behind =
    if nat_le (length behind) answer_limit then Ok (Some behind) else Err BadResponse
body_within (Some size) behind =
    if nat_le size (length behind) then Ok (Some (take size behind)) else Err BadResponse

abbrev pub found_by : Result (Option ℕ) ResponseFault → List ℕ → Result (Option (List ℕ)) ResponseFault
found_by (Ok extent) behind = body_within extent behind
found_by (Err fault) behind = Err fault

-- the answer of a response with this status, these fields and these bytes after its head: the document, or
-- None if the server has none (RFC 9110 section 15)
abbrev pub answer_by : ℕ → List (List ℕ × List ℕ) → List ℕ → Result (Option (List ℕ)) ResponseFault
answer_by status fields behind =
    if status == 200 then found_by (stated_extent fields) behind
    else (if status == 404 || status == 410 then Ok None else Err BadResponse)

-- the answer of the response that the bytes of a connection begin with
pub record IsAnswered (bytes : List ℕ) (answer : Option (List ℕ)) : Type 0 where
  pub head : ResponseHead
  pub behind : List ℕ
  pub begins : BeginsWithResponse bytes head behind
  pub answer_is : answer_by (status_code head) (response_fields head) behind ≡ Ok answer

-- the bytes of a connection are no response that can be read
abbrev pub IsBadResponse : List ℕ → Type 0
IsBadResponse bytes =
    ((head : ResponseHead) × (behind : List ℕ) × BeginsWithResponse bytes head behind
    × (answer_by (status_code head) (response_fields head) behind ≡ Err BadResponse))
    ⊎ HasNoResponseHead bytes

-- bytes have one answer at most, and are not also bad
abbrev pub ResponsesHaveOneReading : Type 0
ResponsesHaveOneReading =
    (bytes : List ℕ) (one other : Option (List ℕ)) → IsAnswered bytes one → IsAnswered bytes other
    → one ≡ other

abbrev pub AnswersAreNotBad : Type 0
AnswersAreNotBad =
    (bytes : List ℕ) (answer : Option (List ℕ)) → IsAnswered bytes answer → ¬ IsBadResponse bytes
