-- The text of a URL as it is read is ASCII.
use Rattle.std.proofs.Common.{◌≡◌, ℕ, suc, ◌+◌, ◌-◌, ◌<◌, ◌^◌, Bool, true, false, cond, not, List, [], ◌∷◌, ◌++◌}
use Rattle.std.proofs.Common.{length, take, drop, Option, Some, None, Ok, Err, refl, subst, ⊎_elim}
use Rattle.std.proofs.Common.{codes, arith, lit<, decimal, nat_eq, option_map}
use Rattle.std.specs.Prelude.{◌&&◌, ◌||◌, ◌==◌, if◌then◌else◌, is_some, nat_lt, slice_index, unwrap_or, IsTrue}
use Rattle.std.specs.Char.{is_ascii_alphabetic, is_ascii_digit}
use Rattle.std.specs.List.{AllByRecursion, concat, list_all}
use Rattle.std.specs.Option.{option_eq}
use Rattle.std.specs.Str.{IsAscii, is_utf8}
use Rattle.std.specs.Str.Parse.{digits_value}
use Rattle.std.proofs.lemmas.Bool.{and_parts, ltb-true}
use Rattle.std.proofs.lemmas.Bool.Decides.{nat_tests}
use Rattle.std.proofs.lemmas.Fmt.{IsAscii-decimal}
use Rattle.std.proofs.lemmas.Str.{IsAscii-append, IsAscii-take, IsUtf8-from_ascii, is_utf8-from_IsUtf8}
use Rattle.std.proofs.lemmas.Str.Ascii.{IsAscii-cons, IsAscii-nil}
use Rattle.percent_encoding.specs.declared.ascii_set.AsciiSet.{AsciiSet}
use Rattle.percent_encoding.specs.Percent.{percent_encode}
use Rattle.percent_encoding.proofs.PercentLemmas.{IsAscii-percent_encode}
use Rattle.url.specs.declared.error.ParseError.TheVariants.{EmptyHost, InvalidPort, RelativeUrlWithoutBase}
use Rattle.url.specs.declared.host.Host.{Host}
use Rattle.url.specs.declared.host.Host.TheVariants.{Domain}
use Rattle.url.specs.declared.scheme.SchemeType.{SchemeType}
use Rattle.url.specs.declared.scheme.SchemeType.TheVariants.{File, NotSpecial}
use Rattle.url.specs.Head.{scheme_only, with_authority}
use Rattle.url.specs.Host.{host_text, parse_file_host, parse_host}
use Rattle.url.specs.Input.{is_empty, lowercase, rsplit_once, rsplit_step, split_once, strip_tabs_and_new_lines}
use Rattle.url.specs.Input.{trim_c0_control_and_space, when}
use Rattle.url.specs.Parser.{Parsed, after_double_slash, after_file_double_slash, and_then, before_tail, file_with_host}
use Rattle.url.specs.Parser.{parse_authority, parse_body, parse_by_scheme, parse_file, parse_non_special}
use Rattle.url.specs.Parser.{parse_parts, parse_port, parse_url, skip_slashes, split_scheme, with_path, with_tail}
use Rattle.url.specs.Parser.{lacks_host, leading_slashes, split_port, without_default_port}
use Rattle.url.specs.Path.{dot_count, ends_in_space, escape_end, is_windows_drive_letter, parse_path, parse_path_start, parse_segments}
use Rattle.url.specs.Path.{push_segment, segment_len, segment_text, shorten_path, without_last_segment}
use Rattle.url.specs.Parts.{Parts, host_or_empty, kind_of, pieces, serialize}
use Rattle.url.specs.Scheme.{default_port, is_file, is_slash, is_special, scheme_len, scheme_type}
use Rattle.url.proofs.SchemeLemmas.{IsAscii-scheme, scheme_at_front}
use Rattle.chain_links.specs.Checked.{IsUrlText}
use Rattle.canonical_feed.proofs.HostAsciiLemmas.{chosen, file_low, given, host_low}

-- each part of the URL is ASCII
record IsLow (url : Parts) : Type 0 where
  scheme : IsAscii url.scheme
  username : IsAscii url.username
  password : IsAscii url.password
  host : IsAscii (host_text (host_or_empty url))
  port : IsAscii (unwrap_or (option_map decimal url.port) [])
  path : IsAscii url.path
  query : IsAscii (unwrap_or url.query [])
  fragment : IsAscii (unwrap_or url.fragment [])

one_low : (b : ℕ) → b < 128 → IsAscii (b ∷ [])
one_low b low = IsAscii-cons b [] low IsAscii-nil

either_low : (test : Bool) (xs ys : List ℕ) → IsAscii xs → IsAscii ys → IsAscii (if test then xs else ys)
either_low test xs ys low_x low_y =
    elim test as (λ b. IsAscii (if b then xs else ys)) [ true ↦ low_x | false ↦ low_y ]

when_low : (test : Bool) (xs : List ℕ) → IsAscii xs → IsAscii (when test xs)
when_low test xs low = either_low test xs [] low IsAscii-nil

concat_low : (xs : List (List ℕ)) → AllByRecursion IsAscii xs → IsAscii (concat xs)
concat_low [] all = IsAscii-nil
concat_low (x ∷ xs) all = IsAscii-append x (concat xs) all.0 (concat_low xs all.1)

slashes_low : IsAscii (codes "://")
slashes_low = IsAscii-cons 58 (47 ∷ 47 ∷ []) (lit< tt) (IsAscii-cons 47 (47 ∷ []) (lit< tt) (one_low 47 (lit< tt)))

serialize_low : (url : Parts) → IsLow url → IsAscii (serialize url)
serialize_low url low =
    concat_low (pieces url) (
      low.scheme,
      (
        either_low _ (codes "://") (codes ":") slashes_low (one_low 58 (lit< tt)),
        (
          low.username,
          (
            when_low _ (codes ":") (one_low 58 (lit< tt)),
            (
              low.password,
              (
                when_low _ (codes "@") (one_low 64 (lit< tt)),
                (
                  low.host,
                  (
                    when_low _ (codes ":") (one_low 58 (lit< tt)),
                    (
                      low.port,
                      (
                        when_low _ (codes "/.") (IsAscii-cons 47 (46 ∷ []) (lit< tt) (one_low 46 (lit< tt))),
                        (
                          low.path,
                          (
                            when_low _ (codes "?") (one_low 63 (lit< tt)),
                            (
                              low.query,
                              (
                                when_low _ (codes "#") (one_low 35 (lit< tt)),
                                (low.fragment, tt),
                              ),
                            ),
                          ),
                        ),
                      ),
                    ),
                  ),
                ),
              ),
            ),
          ),
        ),
      ),
    )

-- ---- paths

rsplit_step_low : (b : ℕ) (o : Option (List ℕ)) (back : List ℕ) → b < 128 → IsAscii (unwrap_or o []) →
    IsAscii (unwrap_or (rsplit_step 47 b o back).0 [])
rsplit_step_low b (Some front) back low all = IsAscii-cons b front low all
rsplit_step_low b None back low all =
    let found : Option (List ℕ) × List ℕ = (Some [], back) in
    let later : Option (List ℕ) × List ℕ = (None, b ∷ back) in
    elim (b == 47) as (λ t. IsAscii (unwrap_or ((cond t found later).0) []))
    [ true ↦ IsAscii-nil | false ↦ IsAscii-nil ]

front_low : (xs : List ℕ) → IsAscii xs → IsAscii (without_last_segment xs)
unfolding rsplit_once
front_low [] low = IsAscii-nil
front_low (b ∷ bytes) low =
    rsplit_step_low b (rsplit_once 47 bytes).0 (rsplit_once 47 bytes).1 (low 0) (front_low bytes (λ k. low (suc k)))

shorten_low : (kind : SchemeType) (path : List ℕ) → IsAscii path → IsAscii (shorten_path kind path)
unfolding shorten_path
shorten_low kind path low = either_low _ path (without_last_segment path) low (front_low path low)

letter_low : (b : ℕ) → is_ascii_alphabetic b ≡ true → b < 128
letter_low b is = grind (arith, nat_tests)

drive_low : (segment : List ℕ) → is_windows_drive_letter segment ≡ true → slice_index segment 0 < 128
unfolding is_windows_drive_letter
drive_low segment is =
    letter_low (slice_index segment 0) (and_parts (length segment == 2) (is_ascii_alphabetic (slice_index segment 0))
    (and_parts (length segment == 2 && is_ascii_alphabetic (slice_index segment 0)) _ is).0).1

segment_low : (kind : SchemeType) (path segment : List ℕ) → IsAscii (segment_text kind path segment)
segment_low kind path segment =
    let test = is_file kind && is_empty path && is_windows_drive_letter segment in
    ⊎_elim
    (λ drive. subst IsAscii drive.1
    (IsAscii-cons (slice_index segment 0) (58 ∷ [])
    (drive_low segment (and_parts (is_file kind && is_empty path) (is_windows_drive_letter segment) drive.0).1)
    (one_low 58 (lit< tt))))
    (λ other. subst IsAscii other.1 (IsAscii-percent_encode _ segment))
    (chosen test (slice_index segment 0 ∷ 58 ∷ []) _ (segment_text kind path segment) refl)

push_low : (kind : SchemeType) (path segment : List ℕ) (is_last : Bool) → IsAscii path →
    IsAscii (push_segment kind path segment is_last)
unfolding push_segment
push_low kind path segment is_last low =
    let last = when_low is_last (47 ∷ []) (one_low 47 (lit< tt)) in
    let pushed = path ++ 47 ∷ segment_text kind path segment in
    either_low (dot_count segment == 2) (shorten_path kind path ++ when is_last (47 ∷ []))
    (if dot_count segment == 1 then path ++ when is_last (47 ∷ []) else pushed)
    (IsAscii-append (shorten_path kind path) (when is_last (47 ∷ [])) (shorten_low kind path low) last)
    (either_low (dot_count segment == 1) (path ++ when is_last (47 ∷ [])) pushed
    (IsAscii-append path (when is_last (47 ∷ [])) low last)
    (IsAscii-append path (47 ∷ segment_text kind path segment) low
    (IsAscii-cons 47 (segment_text kind path segment) (lit< tt) (segment_low kind path segment))))

segments_low : (kind : SchemeType) (path segment bytes : List ℕ) → IsAscii path →
    IsAscii (parse_segments kind path segment bytes)
unfolding parse_segments
segments_low kind path segment [] low = push_low kind path segment true low
segments_low kind path segment (b ∷ bytes) low =
    either_low (is_slash kind b) (parse_segments kind (push_segment kind path segment false) [] bytes)
    (parse_segments kind path (segment ++ b ∷ []) bytes)
    (segments_low kind (push_segment kind path segment false) [] bytes (push_low kind path segment false low))
    (segments_low kind path (segment ++ b ∷ []) bytes low)

start_low : (kind : SchemeType) (path bytes : List ℕ) → IsAscii path → IsAscii (parse_path_start kind path bytes)
unfolding parse_path_start
start_low kind path bytes low =
    let first = is_slash kind (slice_index bytes 0) in
    let behind = parse_path kind path (drop 1 bytes) in
    let whole = parse_path kind path bytes in
    either_low (is_empty bytes && not (is_special kind)) path (if first then behind else whole) low
    (either_low first behind whole (segments_low kind path [] (drop 1 bytes) low) (segments_low kind path [] bytes low))

-- ---- the parts, one after another

then_ok : {T U : Type 0} (r : Parsed T) (f : T → Parsed U) (y : U) → and_then r f ≡ Ok y →
    (x : T) × (r ≡ Ok x) × (f x ≡ Ok y)
then_ok (Ok x) f y is = (x, refl, is)
then_ok (Err e) f y is = absurd (let bad : Err e ≡ Ok y = is in cc)

ok_is : {T : Type 0} (P : T → Type 0) (x y : T) → given x ≡ given y → P x → P y
ok_is P x y is p = let same : x ≡ y = cc in subst P same p

with_path_low : (url : Parts) (path : List ℕ) → IsLow url → IsAscii path → IsLow (with_path url path)
with_path_low url path low low_path = record {
  scheme = low.scheme;
  username = low.username;
  password = low.password;
  host = low.host;
  port = low.port;
  path = low_path;
  query = low.query;
  fragment = low.fragment;
}

scheme_low : (scheme : List ℕ) → IsAscii scheme → IsLow (scheme_only scheme)
scheme_low scheme low = record {
  scheme = low;
  username = IsAscii-nil;
  password = IsAscii-nil;
  host = IsAscii-nil;
  port = IsAscii-nil;
  path = IsAscii-nil;
  query = IsAscii-nil;
  fragment = IsAscii-nil;
}

with_authority_low : (scheme username password : List ℕ) (host : Host (List ℕ)) (port : Option ℕ) → IsAscii scheme →
    IsAscii (host_text host) → IsAscii (unwrap_or (option_map decimal port) []) →
    IsLow (with_authority scheme username password host port)
with_authority_low scheme username password host port low_scheme low_host low_port = record {
  scheme = low_scheme;
  username = IsAscii-percent_encode _ username;
  password = IsAscii-percent_encode _ password;
  host = low_host;
  port = low_port;
  path = IsAscii-nil;
  query = IsAscii-nil;
  fragment = IsAscii-nil;
}

port_low : (scheme digits : List ℕ) (port : Option ℕ) → parse_port scheme digits ≡ Ok port →
    IsAscii (unwrap_or (option_map decimal port) [])
unfolding parse_port
port_low scheme digits port is =
    let P : Option ℕ → Type 0 = λ p. IsAscii (unwrap_or (option_map decimal p) []) in
    let n = digits_value 10 digits in
    let known = without_default_port scheme (Some n) in
    ⊎_elim
    (λ none. ok_is P None port none.1 IsAscii-nil)
    (λ some. ⊎_elim
    (λ fits. ok_is P known port fits.1
    (let low = ltb-true n (2 ^ 16) (and_parts (list_all is_ascii_digit digits) (nat_lt n (2 ^ 16)) fits.0).1 in
    elim (option_eq nat_eq (Some n) (default_port scheme)) as (λ b. P (if b then None else Some n))
    [ true ↦ IsAscii-nil | false ↦ IsAscii-decimal n (omega arith) ]))
    (λ none. absurd (let bad : Err InvalidPort ≡ Ok port = none.1 in cc))
    (chosen (list_all is_ascii_digit digits && nat_lt n (2 ^ 16)) (given known) (Err InvalidPort) (Ok port) some.1))
    (chosen (is_empty digits) (given None)
    (if list_all is_ascii_digit digits && nat_lt n (2 ^ 16) then Ok known else Err InvalidPort) (Ok port) is)

authority_low : (scheme bytes : List ℕ) (url : Parts) → IsAscii scheme → parse_authority scheme bytes ≡ Ok url → IsLow url
unfolding parse_authority
authority_low scheme bytes url low is =
    let at = rsplit_once 64 bytes in
    let host_port = split_port at.1 in
    let userinfo = split_once 58 (unwrap_or at.0 []) in
    let kind = scheme_type scheme in
    let digits = unwrap_or host_port.1 [] in
    let password = unwrap_or userinfo.1 [] in
    let with_port : Host (List ℕ) → Option ℕ → Parsed Parts =
    λ host port. Ok (with_authority scheme userinfo.0 password host port) in
    let with_host : Host (List ℕ) → Parsed Parts = λ host. and_then (parse_port scheme digits) (with_port host) in
    ⊎_elim
    (λ none. absurd (let bad : Err EmptyHost ≡ Ok url = none.1 in cc))
    (λ some.
    let host = then_ok (parse_host kind host_port.0) with_host url some.1 in
    let port = then_ok (parse_port scheme digits) (with_port host.0) url host.2 in
    ok_is IsLow (with_authority scheme userinfo.0 password host.0 port.0) url port.2
    (with_authority_low scheme userinfo.0 password host.0 port.0 low (host_low kind host_port.0 host.0 host.1)
    (port_low scheme digits port.0 port.1)))
    (chosen (lacks_host at.0 host_port.0 host_port.1) (Err EmptyHost) (and_then (parse_host kind host_port.0) with_host)
    (Ok url) is)

double_low : (scheme bytes : List ℕ) (url : Parts) → IsAscii scheme → after_double_slash scheme bytes ≡ Ok url → IsLow url
unfolding after_double_slash
double_low scheme bytes url low is =
    let kind = scheme_type scheme in
    let n = segment_len kind bytes in
    let path = parse_path_start kind [] (drop n bytes) in
    let made : Parts → Parsed Parts = λ head. Ok (with_path head path) in
    let head = then_ok (parse_authority scheme (take n bytes)) made url is in
    ok_is IsLow (with_path head.0 path) url head.2
    (with_path_low head.0 path (authority_low scheme (take n bytes) head.0 low head.1)
    (start_low kind [] (drop n bytes) IsAscii-nil))

-- an opaque path
opaque_low : (scheme body : List ℕ) (set : AsciiSet) (url : Parts) → IsAscii scheme →
    given (with_path (scheme_only scheme) (percent_encode set body)) ≡ given url → IsLow url
opaque_low scheme body set url low is =
    ok_is IsLow (with_path (scheme_only scheme) (percent_encode set body)) url is
    (with_path_low (scheme_only scheme) (percent_encode set body) (scheme_low scheme low) (IsAscii-percent_encode set body))

non_special_low : (scheme body : List ℕ) (url : Parts) → IsAscii scheme → parse_non_special scheme body ≡ Ok url →
    IsLow url
unfolding parse_non_special
non_special_low scheme body url low is =
    let slashes = leading_slashes NotSpecial body in
    let path = parse_path NotSpecial [] (drop 1 body) in
    ⊎_elim
    (λ two. double_low scheme (drop 2 body) url low two.1)
    (λ other. ⊎_elim
    (λ one. ok_is IsLow (with_path (scheme_only scheme) path) url one.1
    (with_path_low (scheme_only scheme) path (scheme_low scheme low) (segments_low NotSpecial [] [] (drop 1 body) IsAscii-nil)))
    (λ none. opaque_low scheme body _ url low none.1)
    (chosen (slashes == 1) (given (with_path (scheme_only scheme) path)) _ (Ok url) other.1))
    (chosen (slashes == 2) (after_double_slash scheme (drop 2 body)) _ (Ok url) is)

file_scheme_low : IsAscii (codes "file")
file_scheme_low =
    IsAscii-cons 102 (codes "ile") (lit< tt)
    (IsAscii-cons 105 (codes "le") (lit< tt) (IsAscii-cons 108 (codes "e") (lit< tt) (one_low 101 (lit< tt))))

file_host_low : (host : Host (List ℕ)) → IsAscii (host_text host) → IsLow (file_with_host host)
file_host_low host low = with_authority_low (codes "file") [] [] host None file_scheme_low low IsAscii-nil

file_double_low : (bytes : List ℕ) (url : Parts) → after_file_double_slash bytes ≡ Ok url → IsLow url
unfolding after_file_double_slash
file_double_low bytes url is =
    let n = segment_len File bytes in
    let path = parse_path File [] bytes in
    let behind = parse_path_start File [] (drop n bytes) in
    let made : Host (List ℕ) → Parsed Parts = λ host. Ok (with_path (file_with_host host) behind) in
    ⊎_elim
    (λ drive. ok_is IsLow (with_path (file_with_host (Domain [])) path) url drive.1
    (with_path_low (file_with_host (Domain [])) path (file_host_low (Domain []) IsAscii-nil)
    (segments_low File [] [] bytes IsAscii-nil)))
    (λ other.
    let host = then_ok (parse_file_host (take n bytes)) made url other.1 in
    ok_is IsLow (with_path (file_with_host host.0) behind) url host.2
    (with_path_low (file_with_host host.0) behind (file_host_low host.0 (file_low (take n bytes) host.0 host.1))
    (start_low File [] (drop n bytes) IsAscii-nil)))
    (chosen (is_windows_drive_letter (take n bytes)) (given (with_path (file_with_host (Domain [])) path))
    (and_then (parse_file_host (take n bytes)) made) (Ok url) is)

parse_file_low : (body : List ℕ) (url : Parts) → parse_file None body ≡ Ok url → IsLow url
unfolding parse_file
parse_file_low body url is =
    let slashes = leading_slashes File body in
    let rest = drop slashes body in
    let path = parse_path File [] rest in
    ⊎_elim
    (λ two. file_double_low rest url two.1)
    (λ other. ok_is IsLow (with_path (file_with_host (Domain [])) path) url other.1
    (with_path_low (file_with_host (Domain [])) path (file_host_low (Domain []) IsAscii-nil)
    (segments_low File [] [] rest IsAscii-nil)))
    (chosen (slashes == 2) (after_file_double_slash rest) (given (with_path (file_with_host (Domain [])) path)) (Ok url) is)

body_low : (scheme body : List ℕ) (url : Parts) → IsAscii scheme → parse_body scheme None body ≡ Ok url → IsLow url
unfolding parse_body
body_low scheme body url low is =
    ⊎_elim
    (λ file. parse_file_low body url file.1)
    (λ other. ⊎_elim
    (λ special. double_low scheme (skip_slashes body) url low special.1)
    (λ plain. non_special_low scheme body url low plain.1)
    (chosen (is_special (scheme_type scheme)) _ _ (Ok url) other.1))
    (chosen (is_file (scheme_type scheme)) _ _ (Ok url) is)

before_low : (url : Parts) (query fragment : Option (List ℕ)) → IsLow url → IsLow (before_tail url query fragment)
before_low url query fragment low =
    elim (not (is_special (kind_of url)) && (is_some query || is_some fragment))
    as (λ b. IsLow (if b then with_path url (escape_end url.path) else url)) [
      | true ↦ with_path_low url (escape_end url.path) low
          (either_low (ends_in_space url.path) (take (length url.path - 1) url.path ++ codes "%20") url.path
          (IsAscii-append (take (length url.path - 1) url.path) (codes "%20") (IsAscii-take url.path _ low.path)
          (IsAscii-cons 37 (50 ∷ 48 ∷ []) (lit< tt) (IsAscii-cons 50 (48 ∷ []) (lit< tt) (one_low 48 (lit< tt)))))
          low.path)
      | false ↦ low
    ]

part_low : (set : AsciiSet) (part : Option (List ℕ)) → IsAscii (unwrap_or (option_map (percent_encode set) part) [])
part_low set None = IsAscii-nil
part_low set (Some text) = IsAscii-percent_encode set text

with_tail_low : (url : Parts) (query fragment : Option (List ℕ)) → IsLow url → IsLow (with_tail url query fragment)
with_tail_low url query fragment low = record {
  scheme = low.scheme;
  username = low.username;
  password = low.password;
  host = low.host;
  port = low.port;
  path = low.path;
  query = part_low _ query;
  fragment = part_low _ fragment;
}

parts_low : (scheme body : List ℕ) (query fragment : Option (List ℕ)) (url : Parts) → IsAscii scheme →
    parse_parts scheme None body query fragment ≡ Ok url → IsLow url
unfolding parse_parts
parts_low scheme body query fragment url low is =
    let made : Parts → Parsed Parts = λ u. Ok (with_tail (before_tail u query fragment) query fragment) in
    let read = then_ok (parse_body scheme None body) made url is in
    ok_is IsLow (with_tail (before_tail read.0 query fragment) query fragment) url read.2
    (with_tail_low (before_tail read.0 query fragment) query fragment
    (before_low read.0 query fragment (body_low scheme body read.0 low read.1)))

split_low : (bytes : List ℕ) (split : List ℕ × List ℕ) → split_scheme bytes ≡ Some split → IsAscii (lowercase split.0)
unfolding split_scheme
split_low bytes split is =
    let n = scheme_len bytes in
    ⊎_elim
    (λ some.
    let both : Some (take n bytes, drop (n + 1) bytes) ≡ Some split = some.1 in
    let same : (take n bytes, drop (n + 1) bytes) ≡ split = cc in
    let first = and_parts (nat_lt 0 n) (slice_index bytes n == 58) some.0 in
    let at = scheme_at_front bytes n refl (ltb-true 0 n first.0) in
    subst (λ (s : List ℕ × List ℕ). IsAscii (lowercase s.0)) same (IsAscii-scheme (lowercase (take n bytes)) at.1))
    (λ none. absurd (let bad : None ≡ Some split = none.1 in cc))
    (chosen (nat_lt 0 n && slice_index bytes n == 58) _ None (Some split) is)

by_scheme_low : (split : Option (List ℕ × List ℕ)) (bytes : List ℕ) (query fragment : Option (List ℕ)) (url : Parts) →
    split_scheme bytes ≡ split → parse_by_scheme split None bytes query fragment ≡ Ok url → IsLow url
by_scheme_low None bytes query fragment url found is =
    absurd (let bad : Err RelativeUrlWithoutBase ≡ Ok url = is in cc)
by_scheme_low (Some split) bytes query fragment url found is =
    parts_low (lowercase split.0) split.1 query fragment url (split_low bytes split found) is

url_low : (text : List ℕ) (url : Parts) → parse_url None text ≡ Ok url → IsLow url
unfolding parse_url
url_low text url is =
    let hash = split_once 35 (strip_tabs_and_new_lines (trim_c0_control_and_space text)) in
    let question = split_once 63 hash.0 in
    by_scheme_low (split_scheme question.0) question.0 question.1 hash.1 url refl is

-- a text that the parser of the URL Standard keeps is UTF-8
pub url_utf8 : (text : List ℕ) → IsUrlText text → IsTrue (is_utf8 text)
url_utf8 text is =
    subst (λ t. IsTrue (is_utf8 t)) is.2
    (is_utf8-from_IsUtf8 (serialize is.0)
    (IsUtf8-from_ascii (serialize is.0) (serialize_low is.0 (url_low text is.0 is.1))))
