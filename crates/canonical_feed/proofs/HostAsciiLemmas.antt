-- The host of a URL as it is read is written in ASCII.
use Rattle.std.proofs.Common.{◌≡◌, ◌⊎◌, ℕ, zero, suc, ◌+◌, ◌-◌, ◌*◌, ◌/◌, ◌%◌, ◌<◌, ◌≤◌, ◌^◌, Bool, true, false, cond, List, [], ◌∷◌}
use Rattle.std.proofs.Common.{◌++◌, length, get_or, Option, Some, None, Result, Ok, Err, refl, sym, ap, subst, ◌∙◌, ⊎_elim, inl, inr}
use Rattle.std.proofs.Common.{codes, arith, lit<, replicate}
use Rattle.std.specs.Prelude.{◌==◌, if◌then◌else◌, bytes_eq, slice_index}
use Rattle.std.specs.Int.{to_be_bytes, w32}
use Rattle.std.specs.List.{list_any}
use Rattle.std.specs.Result.{result_map_both}
use Rattle.std.specs.Str.{IsAscii}
use Rattle.std.specs.Str.Parse.{AllDigits, digits_value}
use Rattle.std.specs.Net.Addr.{segments_of}
use Rattle.std.specs.Net.Text.{hex_groups_text, ipv4_text}
use Rattle.std.specs.Net.Grammar.{IsColonHex, IsDotted, IsGroupsAfter}
use Rattle.std.specs.Net.Reader.{read_ipv6, whole_value}
use Rattle.std.proofs.NetLemmas.Alphabet.{IsDigitOrDot, IsHexOrColon, All-ipv4_text, All-hex_groups_text}
use Rattle.std.proofs.NetLemmas.Ipv6.{read_ipv6_sound}
use Rattle.std.proofs.lemmas.Bool.{cases_Bool, cond-true, cond-false, or_parts}
use Rattle.std.proofs.lemmas.List.Elements.{All-weaker}
use Rattle.std.proofs.lemmas.Str.{IsAscii-append}
use Rattle.std.proofs.lemmas.Str.Ascii.{IsAscii-cons, IsAscii-from_all, IsAscii-nil}
use Rattle.percent_encoding.proofs.AsciiSetLemmas.{ascii_from_kept}
use Rattle.percent_encoding.proofs.PercentLemmas.{IsAscii-percent_encode}
use Rattle.percent_encoding.specs.declared.ascii_set.AsciiSet.{AsciiSet}
use Rattle.percent_encoding.specs.Percent.{percent_decode, percent_encode}
use Rattle.url.specs.declared.error.ParseError.{ParseError}
use Rattle.url.specs.declared.error.ParseError.TheVariants.{EmptyHost, IdnaError, InvalidDomainCharacter, InvalidIpv4Address}
use Rattle.url.specs.declared.error.ParseError.TheVariants.{InvalidIpv6Address}
use Rattle.url.specs.declared.host.Host.{Host}
use Rattle.url.specs.declared.host.Host.TheVariants.{Domain, Ipv4, Ipv6}
use Rattle.url.specs.declared.scheme.SchemeType.{SchemeType}
use Rattle.url.specs.declared.scheme.SchemeType.TheVariants.{File, SpecialNotFile, NotSpecial}
use Rattle.url.specs.Ipv4.{ends_in_a_number, parse_ipv4}
use Rattle.url.specs.Host.{ascii_domain, host_of_ascii, host_text, ipv4_host, ipv6_host, is_forbidden_in_domain}
use Rattle.url.specs.Host.{is_forbidden_in_host, parse_bracketed, parse_domain, parse_file_host, parse_host}
use Rattle.url.specs.Host.{parse_opaque_host, parse_special_host, without_localhost}
use Rattle.url.specs.Input.{is_empty}
use Rattle.url.specs.Parser.{Parsed}

-- ---- choices

pub chosen : {A : Type 0} (b : Bool) (x y z : A) → cond b x y ≡ z → ((b ≡ true) × (x ≡ z)) ⊎ ((b ≡ false) × (y ≡ z))
chosen b x y z is =
    ⊎_elim (λ (t : b ≡ true). inl (t, sym (cond-true b x y t) ∙ is)) (λ f. inr (f, sym (cond-false b x y f) ∙ is))
    (cases_Bool b)

-- a result that isn't a refusal
abbrev pub given : {T : Type 0} → T → Parsed T
given x = Ok x

-- ---- numbers below a limit

abbrev pub AreBelow : ℕ → List ℕ → Type 0
AreBelow m xs = (k : ℕ) → get_or xs k 0 < m

below_nil : (m : ℕ) → 0 < m → AreBelow m []
below_nil m some zero = some
below_nil m some (suc k) = some

below_cons : (m x : ℕ) (xs : List ℕ) → x < m → AreBelow m xs → AreBelow m (x ∷ xs)
below_cons m x xs low all zero = low
below_cons m x xs low all (suc k) = all k

below_append : (m : ℕ) (xs ys : List ℕ) → AreBelow m xs → AreBelow m ys → AreBelow m (xs ++ ys)
below_append m [] ys all_x all_y = all_y
below_append m (x ∷ xs) ys all_x all_y =
    below_cons m x (xs ++ ys) (all_x 0) (below_append m xs ys (λ k. all_x (suc k)) all_y)

below_zeros : (m n : ℕ) → 0 < m → AreBelow m (replicate n 0)
below_zeros m zero some = below_nil m some
below_zeros m (suc n) some = below_cons m 0 (replicate n 0) some (below_zeros m n some)

-- ---- IPv6

four_digits : (ds : List ℕ) → AllDigits 16 ds → length ds ≤ 4 → digits_value 16 ds < 65536
four_digits [] all short = omega arith
four_digits (a ∷ []) all short = omega (arith, all.0)
four_digits (a ∷ b ∷ []) all short = omega (arith, all.0, all.1.0)
four_digits (a ∷ b ∷ c ∷ []) all short = omega (arith, all.0, all.1.0, all.1.1.0)
four_digits (a ∷ b ∷ c ∷ d ∷ []) all short = omega (arith, all.0, all.1.0, all.1.1.0, all.1.1.1.0)
four_digits (a ∷ b ∷ c ∷ d ∷ e ∷ ds) all short = absurd (omega (arith, short))

dotted_low : (text octets : List ℕ) → IsDotted text octets → AreBelow 65536 (segments_of octets)
dotted_low text octets is =
    let some : 0 < 65536 = lit< tt in
    let fit = is.fit in
    subst (λ o. AreBelow 65536 (segments_of o)) (sym is.value)
    (below_cons 65536 (is.a * 256 + is.b) ((is.c * 256 + is.d) ∷ []) (omega (arith, fit.0, fit.1))
    (below_cons 65536 (is.c * 256 + is.d) [] (omega (arith, fit.2, fit.3)) (below_nil 65536 some)))

groups_low : (ipv4 : Bool) (lead text segments : List ℕ) → IsGroupsAfter ipv4 lead text segments → AreBelow 65536 segments
groups_low ipv4 lead text [] is = below_nil 65536 (lit< tt)
groups_low ipv4 lead text (s ∷ segments) is =
    ⊎_elim
    (λ group.
    below_cons 65536 s segments
    (subst (λ n. n < 65536) group.3.0.1 (four_digits group.0 group.3.0.0.1 group.3.1))
    (groups_low ipv4 (codes ":") group.1 segments group.4))
    (λ last. subst (AreBelow 65536) (sym last.5) (dotted_low last.0 last.1 last.4))
    is

colon_hex_low : (text segments : List ℕ) → IsColonHex text segments → AreBelow 65536 segments
colon_hex_low text segments is =
    ⊎_elim
    (λ whole. groups_low true [] text segments whole.0)
    (λ elided.
    let zeros = replicate (8 - length elided.head - length elided.tail) 0 in
    subst (AreBelow 65536) (sym elided.value)
    (below_append 65536 (elided.head ++ zeros) elided.tail
    (below_append 65536 elided.head zeros (groups_low false [] elided.head_text elided.head elided.head_groups)
    (below_zeros 65536 (8 - length elided.head - length elided.tail) (lit< tt)))
    (groups_low true [] elided.tail_text elided.tail elided.tail_groups)))
    is

hex_low : (segments : List ℕ) → AreBelow 65536 segments →
    IsAscii (host_text (Ipv6 (record { segments = segments })))
hex_low segments low =
    IsAscii-append (codes "[" ++ hex_groups_text segments) (codes "]")
    (IsAscii-append (codes "[") (hex_groups_text segments) (IsAscii-cons 91 [] (lit< tt) IsAscii-nil)
    (IsAscii-from_all (hex_groups_text segments)
    (All-weaker IsHexOrColon (λ b. b < 128) (λ b hex. grind arith) (hex_groups_text segments)
    (All-hex_groups_text segments low))))
    (IsAscii-cons 93 [] (lit< tt) IsAscii-nil)

-- the segments that a reader gives
ipv6_low : (text : List ℕ) (read : Option (List ℕ × List ℕ)) → read_ipv6 text ≡ read → (h : Host (List ℕ)) →
    ipv6_host (whole_value read) ≡ Ok h → IsAscii (host_text h)
ipv6_low text None found h is = absurd (let bad : Err InvalidIpv6Address ≡ Ok h = is in cc)
ipv6_low text (Some p) found h is =
    let sound = read_ipv6_sound text p.0 p.1 found in
    let low = hex_low p.0 (colon_hex_low sound.0 p.0 sound.2) in
    ⊎_elim
    (λ (t : (length p.1 == 0) ≡ true).
    let whole : ipv6_host (Some p.0) ≡ Ok h = ap ipv6_host (sym (cond-true (length p.1 == 0) (Some p.0) None t)) ∙ is in
    let same : Ipv6 (record { segments = p.0 }) ≡ h = cc in
    subst (λ x. IsAscii (host_text x)) same low)
    (λ f.
    absurd (let bad : ipv6_host None ≡ Ok h = ap ipv6_host (sym (cond-false (length p.1 == 0) (Some p.0) None f)) ∙ is in cc))
    (cases_Bool (length p.1 == 0))

bracketed_low : (bytes : List ℕ) (h : Host (List ℕ)) → parse_bracketed bytes ≡ Ok h → IsAscii (host_text h)
unfolding parse_bracketed
bracketed_low bytes h is =
    ⊎_elim
    (λ read. ipv6_low _ _ refl h read.1)
    (λ none. absurd (let bad : Err InvalidIpv6Address ≡ Ok h = none.1 in cc))
    (chosen (slice_index bytes (length bytes - 1) == 93) _ _ (Ok h) is)

-- ---- IPv4 and domains

octets_low : (n : ℕ) → AreBelow (2 ^ 8) (to_be_bytes w32 n)
octets_low n =
    below_cons (2 ^ 8) (n / 256 ^ 3 % 256) (n / 256 ^ 2 % 256 ∷ n / 256 ^ 1 % 256 ∷ n % 256 ∷ []) (omega arith)
    (below_cons (2 ^ 8) (n / 256 ^ 2 % 256) (n / 256 ^ 1 % 256 ∷ n % 256 ∷ []) (omega arith)
    (below_cons (2 ^ 8) (n / 256 ^ 1 % 256) (n % 256 ∷ []) (omega arith)
    (below_cons (2 ^ 8) (n % 256) [] (omega arith) (below_nil (2 ^ 8) (omega arith)))))

dotted_text_low : (bits : ℕ) → IsAscii (host_text (Ipv4 (record { octets = to_be_bytes w32 bits })))
dotted_text_low bits =
    IsAscii-from_all (ipv4_text (to_be_bytes w32 bits))
    (All-weaker IsDigitOrDot (λ b. b < 128) (λ b digit. grind arith) (ipv4_text (to_be_bytes w32 bits))
    (All-ipv4_text (to_be_bytes w32 bits) (octets_low bits)))

ipv4_low : (o : Option ℕ) (h : Host (List ℕ)) → ipv4_host o ≡ Ok h → IsAscii (host_text h)
ipv4_low None h is = absurd (let bad : Err InvalidIpv4Address ≡ Ok h = is in cc)
ipv4_low (Some bits) h is =
    let same : Ipv4 (record { octets = to_be_bytes w32 bits }) ≡ h = cc in
    subst (λ x. IsAscii (host_text x)) same (dotted_text_low bits)

allowed_low : (bytes : List ℕ) → list_any is_forbidden_in_domain bytes ≡ false → IsAscii bytes
allowed_low [] none = IsAscii-nil
allowed_low (b ∷ bytes) none =
    let p = or_parts (is_forbidden_in_domain b) (list_any is_forbidden_in_domain bytes) none in
    IsAscii-cons b bytes (ascii_from_kept _ b p.0) (allowed_low bytes p.1)

domain_low : (o : Option (List ℕ)) (h : Host (List ℕ)) → host_of_ascii o ≡ Ok h → IsAscii (host_text h)
domain_low None h is = absurd (let bad : Err IdnaError ≡ Ok h = is in cc)
domain_low (Some domain) h is =
    ⊎_elim
    (λ none. absurd (let bad : Err EmptyHost ≡ Ok h = none.1 in cc))
    (λ some. ⊎_elim
    (λ none. absurd (let bad : Err IdnaError ≡ Ok h = none.1 in cc))
    (λ allowed. ⊎_elim
    (λ number. ipv4_low (parse_ipv4 domain) h number.1)
    (λ named.
    let same : Domain domain ≡ h = let e : Ok (Domain domain) ≡ Ok h = named.1 in cc in
    subst (λ x. IsAscii (host_text x)) same (allowed_low domain allowed.0))
    (chosen (ends_in_a_number domain) (ipv4_host (parse_ipv4 domain)) (Ok (Domain domain)) (Ok h) allowed.1))
    (chosen (list_any is_forbidden_in_domain domain) (Err IdnaError) _ (Ok h) some.1))
    (chosen (is_empty domain) (Err EmptyHost) _ (Ok h) is)

special_low : (bytes : List ℕ) (h : Host (List ℕ)) → parse_special_host bytes ≡ Ok h → IsAscii (host_text h)
unfolding parse_special_host
special_low bytes h is =
    ⊎_elim
    (λ bracket. bracketed_low bytes h bracket.1)
    (λ named. domain_low (ascii_domain (percent_decode bytes)) h named.1)
    (chosen (slice_index bytes 0 == 91) (parse_bracketed bytes) (parse_domain (percent_decode bytes)) (Ok h) is)

encoded_low : (set : AsciiSet) (bytes : List ℕ) (h : Host (List ℕ)) →
    given (Domain (percent_encode set bytes)) ≡ given h → IsAscii (host_text h)
encoded_low set bytes h is =
    let same : Domain (percent_encode set bytes) ≡ h = cc in
    subst (λ x. IsAscii (host_text x)) same (IsAscii-percent_encode set bytes)

opaque_low : (bytes : List ℕ) (h : Host (List ℕ)) → parse_opaque_host bytes ≡ Ok h → IsAscii (host_text h)
unfolding parse_opaque_host
opaque_low bytes h is =
    ⊎_elim
    (λ bracket. bracketed_low bytes h bracket.1)
    (λ named. ⊎_elim
    (λ none. absurd (let bad : Err InvalidDomainCharacter ≡ Ok h = none.1 in cc))
    (λ allowed. encoded_low _ bytes h allowed.1)
    (chosen (list_any is_forbidden_in_host bytes) (Err InvalidDomainCharacter) _ (Ok h) named.1))
    (chosen (slice_index bytes 0 == 91) (parse_bracketed bytes) _ (Ok h) is)

local_low : (h : Host (List ℕ)) → IsAscii (host_text h) → IsAscii (host_text (without_localhost h))
local_low (Domain domain) low =
    elim (bytes_eq domain (codes "localhost")) as (λ b. IsAscii (if b then [] else domain))
    [ true ↦ IsAscii-nil | false ↦ low ]
local_low (Ipv4 address) low = low
local_low (Ipv6 address) low = low

local_of : (r : Result (Host (List ℕ)) ParseError) (h : Host (List ℕ)) →
    ((k : Host (List ℕ)) → r ≡ Ok k → IsAscii (host_text k)) →
    result_map_both without_localhost (λ e. e) r ≡ Ok h → IsAscii (host_text h)
local_of (Ok k) h low is =
    let same : without_localhost k ≡ h = let e : Ok (without_localhost k) ≡ Ok h = is in cc in
    subst (λ x. IsAscii (host_text x)) same (local_low k (low k refl))
local_of (Err e) h low is = absurd (let bad : Err e ≡ Ok h = is in cc)

pub file_low : (bytes : List ℕ) (h : Host (List ℕ)) → parse_file_host bytes ≡ Ok h → IsAscii (host_text h)
unfolding parse_file_host
file_low bytes h is =
    ⊎_elim
    (λ none.
    let same : Domain [] ≡ h = let e : Ok (Domain []) ≡ Ok h = none.1 in cc in
    subst (λ x. IsAscii (host_text x)) same IsAscii-nil)
    (λ some. local_of (parse_special_host bytes) h (special_low bytes) some.1)
    (chosen (is_empty bytes) (Ok (Domain [])) (result_map_both without_localhost (λ e. e) (parse_special_host bytes)) (Ok h)
    is)

pub host_low : (kind : SchemeType) (bytes : List ℕ) (h : Host (List ℕ)) → parse_host kind bytes ≡ Ok h →
    IsAscii (host_text h)
host_low File bytes h is = file_low bytes h is
host_low SpecialNotFile bytes h is = special_low bytes h is
host_low NotSpecial bytes h is = opaque_low bytes h is
