-- Which bytes of a connection don't settle its request.
use Rattle.std.proofs.Common.{◌≡◌, ℕ, ◌+◌, ◌*◌, ◌<◌, ◌≤◌, Bool, true, false, if◌then◌else◌, List, [], ◌∷◌, ◌++◌, length, take, inl, inr, refl, sym, ap, ◌∙◌, subst, arith, length-append, append-nil}
use Rattle.std.specs.Prelude.{All, IsTrue, Result, Ok, Err, codes, is_some, nat_le, nat_lt}
use Rattle.std.specs.List.{flat_map}
use Rattle.std.specs.Str.Parse.{digits_value}
use Rattle.std.proofs.lemmas.Bool.{lt-leb}
use Rattle.std.proofs.lemmas.List.{take_all}
use Rattle.std.proofs.lemmas.List.Elements.{All-cons, All-head, All-nil, All-tail}
use Rattle.httparse.specs.Grammar.{LineEnd, crlf, lf, Field, IsField, RequestHead, IsRequestHead, ReadsRequest, is_token_byte, is_uri_byte, HasNoRequest, NeverHasRequest, MayBecomeRequest, print_request, print_blank, print_version, print_end, print_field, print_section}
use Rattle.httparse.specs.Spans.{RequestExceeds, RequestOverflows}
use Rattle.httparse.proofs.GrammarLemmas.{print_request-append}
use Rattle.http_face.specs.declared.fault.RequestFault.{RequestFault}
use Rattle.http_face.specs.declared.fault.RequestFault.TheVariants.{ConnFault, BadHead, HeadTooLarge, EndedEarly, NoLength, TwoLengths, BodyTooLarge, NoMemory}
use Rattle.http_face.specs.Heard.{BeginsWithHead, IsHeard, IsMisheard, head_limit, body_of, body_by, sized_body, fields_of, has_body, verb_of, stated_size, size_by, is_length, first_of, values_of}
use Rattle.http_face.specs.Request.{body_limit}
use Rattle.http_face.specs.Settled.{IsUnsettled, EndsWithinBody}
use Rattle.http_face.proofs.ReadingLemmas.{unrefused, decided_fault}
use Rattle.http_face.proofs.HeadLemmas.{err_same}

-- a stated length that is refused isn't refused as `EndedEarly`
not_early-value : (right large : Bool) (size n : ℕ) →
    ◌≡◌ {A = Result ℕ RequestFault}
    (if right then (if large then Err (BodyTooLarge size) else Ok size) else Err BadHead) (Err (EndedEarly n)) → ⊥
not_early-value true true size n e = cc
not_early-value true false size n e = cc
not_early-value false large size n e = cc

not_early-values : (values : List (List ℕ)) (n : ℕ) → size_by values ≡ Err (EndedEarly n) → ⊥
not_early-values [] n e = cc
not_early-values (value ∷ []) n e =
    not_early-value (is_length value) (nat_lt body_limit (digits_value 10 value)) (digits_value 10 value) n e
not_early-values (value ∷ other ∷ more) n e = cc

not_early-either : (coded : Bool) (r : Result ℕ RequestFault) (n : ℕ) → (r ≡ Err (EndedEarly n) → ⊥) →
    ◌≡◌ {A = Result ℕ RequestFault} (if coded then Err NoLength else r) (Err (EndedEarly n)) → ⊥
not_early-either true r n not e = cc
not_early-either false r n not e = not e

not_early-size : (fields : List (List ℕ × List ℕ)) (n : ℕ) → stated_size fields ≡ Err (EndedEarly n) → ⊥
not_early-size fields n e =
    not_early-either (is_some (first_of (values_of (codes "transfer-encoding") fields)))
    (size_by (values_of (codes "content-length") fields)) n
    (not_early-values (values_of (codes "content-length") fields) n) e

-- a body that ends early names the number of all bytes
early_sized : (enough : Bool) (body : List ℕ) (all n : ℕ) →
    ◌≡◌ {A = Result (List ℕ) RequestFault} (if enough then Ok body else Err (EndedEarly all)) (Err (EndedEarly n)) →
    n ≡ all
early_sized true body all n e = cc
early_sized false body all n e = cc

early_by : (r : Result ℕ RequestFault) (all n : ℕ) (behind : List ℕ) → (r ≡ Err (EndedEarly n) → ⊥) →
    body_by r all behind ≡ Err (EndedEarly n) → n ≡ all
early_by (Ok size) all n behind not e = early_sized (nat_le size (length behind)) (take size behind) all n e
early_by (Err fault) all n behind not e = absurd (not (ap Err (err_same e)))

early_either : (has : Bool) (r : Result (List ℕ) RequestFault) (all n : ℕ) → (r ≡ Err (EndedEarly n) → n ≡ all) →
    ◌≡◌ {A = Result (List ℕ) RequestFault} (if has then r else Ok []) (Err (EndedEarly n)) → n ≡ all
early_either true r all n f e = f e
early_either false r all n f e = cc

early_body : (method : List ℕ) (fields : List (List ℕ × List ℕ)) (all n : ℕ) (behind : List ℕ) →
    body_of method fields all behind ≡ Err (EndedEarly n) → n ≡ all
early_body method fields all n behind e =
    early_either (has_body (verb_of method)) (body_by (stated_size fields) all behind) all n
    (early_by (stated_size fields) all n behind (not_early-size fields n)) e

early_length : (bytes : List ℕ) (n : ℕ) → IsMisheard bytes (EndedEarly n) → n ≡ length bytes
early_length bytes n (inl (head, behind, begins, body)) =
    early_body head.method (fields_of head) (length bytes) n behind body
early_length bytes n (inr (none, why)) = why.0

-- no early end fits whatever follows
never_early : (bytes : List ℕ) (n : ℕ) → ((more : List ℕ) → IsMisheard (bytes ++ more) (EndedEarly n)) → ⊥
never_early bytes n wrong =
    let first = early_length (bytes ++ []) n (wrong []) in
    let second = early_length (bytes ++ 0 ∷ []) n (wrong (0 ∷ [])) in
    omega (arith, first, second, length-append bytes [], length-append bytes (0 ∷ []))

-- no fault fits bytes that a head may begin with, whatever follows
no_fault : (bytes : List ℕ) (fault : RequestFault) → length bytes < head_limit → HasNoRequest bytes →
    ¬ NeverHasRequest bytes → IsMisheard bytes fault → ((more : List ℕ) → IsMisheard (bytes ++ more) fault) → ⊥
no_fault bytes fault short none may (inl (head, behind, begins, body)) wrong = none head behind begins.reads
no_fault bytes BadHead short none may (inr (headless, why)) wrong =
    may (subst NeverHasRequest (take_all head_limit bytes (omega (arith, short))) why)
no_fault bytes HeadTooLarge short none may (inr (headless, inl long)) wrong = omega (arith, short, long)
no_fault bytes HeadTooLarge short none may (inr (headless, inr (head, behind, reads, fits, many))) wrong =
    none head behind reads
no_fault bytes (EndedEarly n) short none may (inr why) wrong = never_early bytes n wrong
no_fault bytes ConnFault short none may (inr why) wrong = why.1
no_fault bytes NoLength short none may (inr why) wrong = why.1
no_fault bytes TwoLengths short none may (inr why) wrong = why.1
no_fault bytes (BodyTooLarge n) short none may (inr why) wrong = why.1
no_fault bytes NoMemory short none may (inr why) wrong = why.1

-- bytes that a longer head may begin with
pub unsettled : (bytes : List ℕ) → length bytes < head_limit → HasNoRequest bytes → MayBecomeRequest bytes →
    IsUnsettled bytes
unsettled bytes short none may (inl (request, heard)) =
    let now = subst (λ (b : List ℕ). IsHeard b request) (append-nil bytes) (heard []) in
    none now.head now.behind now.begins.reads
unsettled bytes short none (inl (more, head, reads)) (inr (surely, outside)) =
    no_fault bytes surely.0 short none (λ never. never more head [] reads)
    (subst (λ (b : List ℕ). IsMisheard b surely.0) (append-nil bytes) (surely.1 [])) surely.1
unsettled bytes short none (inr ends) (inr (surely, outside)) = outside ends

-- the body of a head that states a length
pub body_sized : (method : List ℕ) (fields : List (List ℕ × List ℕ)) (size all n : ℕ) (behind : List ℕ)
    (r : Result (List ℕ) RequestFault) → has_body (verb_of method) ≡ true → stated_size fields ≡ Ok size → n ≡ all →
    sized_body size n behind ≡ r → body_of method fields all behind ≡ r
body_sized method fields size all n behind r has states same is =
    rw has (rw states (subst (λ (k : ℕ). sized_body size k behind ≡ r) same is))

pub ends_within : (method : List ℕ) (fields : List (List ℕ × List ℕ)) (size : ℕ) (behind : List ℕ) →
    has_body (verb_of method) ≡ true → stated_size fields ≡ Ok size → (taken : List ℕ) →
    length behind + length taken < size → EndsWithinBody method fields (behind ++ taken)
ends_within method fields size behind has states taken few all =
    let short : nat_le size (length (behind ++ taken)) ≡ false =
    lt-leb size (length (behind ++ taken)) (omega (arith, few, length-append behind taken)) in
    rw has (rw states (rw short refl))

-- bytes that end within the body that their head states
pub unsettled_body : (bytes : List ℕ) (head : RequestHead) (behind : List ℕ) → BeginsWithHead bytes head behind →
    EndsWithinBody head.method (fields_of head) behind → IsUnsettled bytes
unsettled_body bytes head behind begins early (inl (request, heard)) =
    unrefused bytes request (EndedEarly (length bytes))
    (subst (λ (b : List ℕ). IsHeard b request) (append-nil bytes) (heard []))
    (inl (head, behind, begins, early (length bytes)))
unsettled_body bytes head behind begins early (inr (surely, outside)) =
    let now = decided_fault bytes head behind surely.0 begins
    (subst (λ (b : List ℕ). IsMisheard b surely.0) (append-nil bytes) (surely.1 [])) in
    let same : surely.0 ≡ EndedEarly (length bytes) = err_same (sym now ∙ early (length bytes)) in
    never_early bytes (length bytes)
    (λ more. subst (λ (f : RequestFault). IsMisheard (bytes ++ more) f) same (surely.1 more))

-- a head that has more fields than there is room for
pub few_fields : (bytes behind : List ℕ) (head : RequestHead) (room : ℕ) → RequestOverflows room bytes →
    ReadsRequest bytes head behind → room < length head.fields
few_fields bytes behind head room over reads = over [] head behind (reads.0, append-nil bytes ∙ reads.1)

-- each field takes three bytes at least
end_long : (end : LineEnd) → 1 ≤ length (print_end end)
end_long crlf = omega arith
end_long lf = omega arith

field_long : (f : Field) → IsField f → 3 ≤ length (print_field f)
field_long f is = simp length-append (omega (arith, is.name.0, end_long f.end))

fields_long : (fields : List Field) → All IsField fields →
    3 * length fields ≤ length (flat_map print_field fields)
fields_long [] all = omega arith
fields_long (f ∷ fields) all =
    let size : length (flat_map print_field (f ∷ fields)) ≡ length (print_field f)
    + length (flat_map print_field fields) = length-append (print_field f) (flat_map print_field fields) in
    let one = field_long f (All-head IsField f fields all) in
    let rest = fields_long fields (All-tail IsField f fields all) in
    omega (arith, size, one, rest)

section_long : (h : RequestHead) → length (flat_map print_field h.fields) ≤ length (print_request h ++ [])
section_long h =
    let section = print_section h.fields h.last ++ [] in
    let line = print_version h.minor ++ (print_end h.line_end ++ section) in
    omega (
      arith,
      ap length (print_request-append h []),
      length-append (print_blank h.blank) (h.method ++ 32 ∷ (h.target ++ 32 ∷ line)),
      length-append h.method (32 ∷ (h.target ++ 32 ∷ line)),
      length-append h.target (32 ∷ line),
      length-append (print_version h.minor) (print_end h.line_end ++ section),
      length-append (print_end h.line_end) section,
      length-append (print_section h.fields h.last) [],
      length-append (flat_map print_field h.fields) (print_end h.last),
    )

-- bytes of at most 16,384 don't have more than 5,461 fields
pub not_exceeds : (bytes : List ℕ) (room : ℕ) → length bytes ≤ head_limit → 5_461 ≤ room →
    RequestExceeds room bytes → ⊥
not_exceeds bytes room short wide (front, rest, split, h, reads, many) =
    omega (
      arith,
      short,
      wide,
      many,
      ap length split,
      length-append front rest,
      ap length reads.1,
      length-append front (print_end lf),
      section_long h,
      fields_long h.fields reads.0.fields,
    )

-- no byte settles nothing
abbrev smallest : RequestHead
smallest = record {
  blank = [];
  method = 71 ∷ [];
  target = 47 ∷ [];
  minor = 1;
  line_end = lf;
  fields = [];
  last = lf;
}

smallest-method : IsTrue (is_token_byte 71)
unfolding is_token_byte
smallest-method = refl

smallest-is : IsRequestHead smallest
unfolding lib.Utf8.encode
smallest-is = record {
  method = (
    omega arith,
    All-cons (λ b. IsTrue (is_token_byte b)) 71 [] smallest-method (All-nil (λ b. IsTrue (is_token_byte b))),
  );
  target = (omega arith, All-cons (λ b. IsTrue (is_uri_byte b)) 47 [] refl (All-nil (λ b. IsTrue (is_uri_byte b))));
  target_text = (47 ∷ [], (refl, refl));
  minor = omega arith;
  fields = All-nil IsField;
}

no_request-nil : HasNoRequest []
no_request-nil h rest reads =
    let section = print_section h.fields h.last ++ rest in
    let line = print_version h.minor ++ (print_end h.line_end ++ section) in
    omega (
      arith,
      ap length (reads.1 ∙ print_request-append h rest),
      length-append (print_blank h.blank) (h.method ++ 32 ∷ (h.target ++ 32 ∷ line)),
      length-append h.method (32 ∷ (h.target ++ 32 ∷ line)),
    )

pub unsettled-nil : IsUnsettled []
unsettled-nil =
    unsettled [] (omega arith) no_request-nil
    (inl (print_request smallest, smallest, (smallest-is, sym (append-nil (print_request smallest)))))
