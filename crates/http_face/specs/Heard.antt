-- A connection's bytes are a request, or the cause why they are none (RFC 9112 sections 2 to 6).
use Rattle.std.specs.Prelude.{◌≡◌, ◌⊎◌, ℕ, ◌<◌, ◌≤◌, List, [], ◌∷◌, length, take, map, filter, Bool, true, false}
use Rattle.std.specs.Prelude.{◌&&◌, nat_le, nat_lt, if◌then◌else◌, Option, Some, None, Result, Ok, Err, codes, bytes_eq, is_some}
use Rattle.std.specs.List.{list_all}
use Rattle.std.specs.Char.{is_ascii_digit}
use Rattle.std.specs.Str.Parse.{digits_value}
use Rattle.std.specs.Str.{str_eq_ignore_ascii_case}
use Rattle.httparse.specs.Grammar.{RequestHead, ReadsRequest, NeverHasRequest, print_request}
use Rattle.httparse.specs.Spans.{name_and_value}
use Rattle.http_face.specs.declared.fault.RequestFault.{RequestFault}
use Rattle.http_face.specs.declared.fault.RequestFault.TheVariants.{BadHead, HeadTooLarge, EndedEarly, NoLength, TwoLengths, BodyTooLarge}
use Rattle.http_face.specs.declared.request.Verb.{Verb}
use Rattle.http_face.specs.declared.request.Verb.TheVariants.{Get, Head, Post, Put, Delete, Options, Patch, Other}
use Rattle.http_face.specs.Request.{RequestValue, body_limit}

-- the most bytes of a head, and the most fields
abbrev pub head_limit : ℕ
head_limit = 16_384

abbrev pub field_limit : ℕ
field_limit = 64

-- the most digits of a length
abbrev pub digit_limit : ℕ
digit_limit = 30

-- the bytes begin with this head, within the limit of a head, and go on so
pub record BeginsWithHead (bytes : List ℕ) (head : RequestHead) (behind : List ℕ) : Type 0 where
  pub reads : ReadsRequest bytes head behind
  pub short : length (print_request head) ≤ head_limit
  pub few : length head.fields ≤ field_limit

abbrev pub HasNoHead : List ℕ → Type 0
HasNoHead bytes = (head : RequestHead) (behind : List ℕ) → ¬ BeginsWithHead bytes head behind

-- the method, by its name, in which case counts (RFC 9110 section 9.1)
abbrev pub verb_of : List ℕ → Verb
verb_of method =
    if bytes_eq method (codes "GET") then Get
    else (if bytes_eq method (codes "HEAD") then Head
    else (if bytes_eq method (codes "POST") then Post
    else (if bytes_eq method (codes "PUT") then Put
    else (if bytes_eq method (codes "DELETE") then Delete
    else (if bytes_eq method (codes "OPTIONS") then Options
    else (if bytes_eq method (codes "PATCH") then Patch else Other))))))

-- the methods whose requests have a body
abbrev pub has_body : Verb → Bool
has_body Post = true
has_body Put = true
has_body _ = false

-- the values of the fields of this name, of names and values; in names case doesn't count (RFC 9110 section 5.1)
abbrev pub values_of : List ℕ → List (List ℕ × List ℕ) → List (List ℕ)
values_of name fields = map (λ f. f.1) (filter (λ f. str_eq_ignore_ascii_case f.0 name) fields)

-- the names and the values of a head's fields
abbrev pub fields_of : RequestHead → List (List ℕ × List ℕ)
fields_of head = map name_and_value head.fields

abbrev pub first_of : List (List ℕ) → Option (List ℕ)
first_of [] = None
first_of (value ∷ values) = Some value

-- a length: 1 to 30 digits
abbrev pub is_length : List ℕ → Bool
is_length value = nat_lt 0 (length value) && nat_le (length value) digit_limit && list_all is_ascii_digit value

-- the length of the body that a value states
abbrev pub size_of : List ℕ → Result ℕ RequestFault
size_of value =
    if is_length value then
    (if nat_lt body_limit (digits_value 10 value) then Err (BodyTooLarge (digits_value 10 value))
    else Ok (digits_value 10 value))
    else Err BadHead

-- the length of the body by the values of `Content-Length` (RFC 9112 section 6.3)
abbrev pub size_by : List (List ℕ) → Result ℕ RequestFault
size_by [] = Err NoLength
size_by (value ∷ []) = size_of value
size_by (value ∷ other ∷ more) = Err TwoLengths

-- the length of the body by the fields; a coded body has no length that can be read
abbrev pub stated_size : List (List ℕ × List ℕ) → Result ℕ RequestFault
stated_size fields =
    if is_some (first_of (values_of (codes "transfer-encoding") fields)) then Err NoLength
    else size_by (values_of (codes "content-length") fields)

-- the body of `size` bytes, if `behind` has them; `all` is the number of all bytes
abbrev pub sized_body : ℕ → ℕ → List ℕ → Result (List ℕ) RequestFault
sized_body size all behind = if nat_le size (length behind) then Ok (take size behind) else Err (EndedEarly all)

abbrev pub body_by : Result ℕ RequestFault → ℕ → List ℕ → Result (List ℕ) RequestFault
body_by (Ok size) all behind = sized_body size all behind
body_by (Err fault) all behind = Err fault

-- the body after a head of this method and these fields
abbrev pub body_of : List ℕ → List (List ℕ × List ℕ) → ℕ → List ℕ → Result (List ℕ) RequestFault
body_of method fields all behind =
    if has_body (verb_of method) then body_by (stated_size fields) all behind else Ok []

-- why bytes that begin with no head are refused
abbrev pub IsHeadFault : List ℕ → RequestFault → Type 0
IsHeadFault bytes BadHead = NeverHasRequest (take head_limit bytes)
IsHeadFault bytes HeadTooLarge =
    (head_limit ≤ length bytes)
    ⊎ ((head : RequestHead) × (behind : List ℕ) × ReadsRequest bytes head behind
    × (length (print_request head) ≤ head_limit) × (field_limit < length head.fields))
IsHeadFault bytes (EndedEarly read) = (read ≡ length bytes) × (read ≤ head_limit)
IsHeadFault bytes _ = ⊥

-- the request that the bytes of a connection begin with
pub record IsHeard (bytes : List ℕ) (request : RequestValue) : Type 0 where
  pub head : RequestHead
  pub behind : List ℕ
  pub begins : BeginsWithHead bytes head behind
  pub verb : request.verb ≡ verb_of head.method
  pub target : request.target ≡ head.target
  pub media : request.media ≡ first_of (values_of (codes "content-type") (fields_of head))
  pub body : body_of head.method (fields_of head) (length bytes) behind ≡ Ok request.body

-- why the bytes of a connection are no request
abbrev pub IsMisheard : List ℕ → RequestFault → Type 0
IsMisheard bytes fault =
    ((head : RequestHead) × (behind : List ℕ) × BeginsWithHead bytes head behind
    × (body_of head.method (fields_of head) (length bytes) behind ≡ Err fault))
    ⊎ (HasNoHead bytes × IsHeadFault bytes fault)

-- bytes have one request at most, and are not also refused
abbrev pub RequestsHaveOneReading : Type 0
RequestsHaveOneReading =
    (bytes : List ℕ) (one other : RequestValue) → IsHeard bytes one → IsHeard bytes other → one ≡ other

abbrev pub RequestsAreNotRefused : Type 0
RequestsAreNotRefused =
    (bytes : List ℕ) (request : RequestValue) (fault : RequestFault) → IsHeard bytes request → ¬ IsMisheard bytes fault

-- bytes that begin with a head are refused only for the body that the head states
abbrev pub HeadsDecideTheFault : Type 0
HeadsDecideTheFault =
    (bytes : List ℕ) (head : RequestHead) (behind : List ℕ) (fault : RequestFault) → BeginsWithHead bytes head behind
    → IsMisheard bytes fault → body_of head.method (fields_of head) (length bytes) behind ≡ Err fault
