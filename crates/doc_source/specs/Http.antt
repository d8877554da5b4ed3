-- The request for the document of an address (RFC 9112 section 3, RFC 1945 section 5).
use Rattle.std.specs.Prelude.{ℕ, List, ◌++◌, ◌==◌, ◌||◌, if◌then◌else◌, Option, Some, None, option_map, length, take, drop, codes, bytes_eq}
use Rattle.std.specs.List.{list_all, position_or_len}
use Rattle.std.specs.Char.{is_ascii_graphic}

-- the place of the first such byte, or the end
abbrev pub first_of : ℕ → List ℕ → ℕ
first_of byte bytes = position_or_len (λ b. b == byte) bytes

abbrev pub scheme : List ℕ
scheme = codes "http://"

-- the address after its scheme
abbrev pub behind_scheme : List ℕ → List ℕ
behind_scheme address = drop (length scheme) address

-- the host, and its port if the address has one: up to the first `/`
abbrev pub authority_of : List ℕ → List ℕ
authority_of address = take (first_of 47 (behind_scheme address)) (behind_scheme address)

-- the address from that `/` on
abbrev pub behind_authority : List ℕ → List ℕ
behind_authority address = drop (first_of 47 (behind_scheme address)) (behind_scheme address)

-- the path: up to the end or to a `#`
abbrev pub path_of : List ℕ → List ℕ
path_of address = take (first_of 35 (behind_authority address)) (behind_authority address)

-- the authority and the path, if there are both
abbrev pub both_of : List ℕ → List ℕ → Option (List ℕ × List ℕ)
both_of authority path = if length authority == 0 || length path == 0 then None else Some (authority, path)

-- the authority and the path of an address that can be asked for: it has visible ASCII characters alone
abbrev pub target_of : List ℕ → Option (List ℕ × List ℕ)
target_of address =
    if list_all is_ascii_graphic address then
    (if bytes_eq (take (length scheme) address) scheme then
    both_of (authority_of address) (path_of address) else None) else None

-- the request. A server sends no chunked body to a client of HTTP/1.0.
abbrev pub request_text : List ℕ → List ℕ → List ℕ
request_text authority path =
    codes "GET " ++ path ++ codes " HTTP/1.0\r\nHost: " ++ authority ++ codes "\r\nConnection: close\r\n\r\n"

-- the request for the document of an address; None if it can't be asked for
abbrev pub request_of : List ℕ → Option (List ℕ)
request_of address = option_map (λ target. request_text target.0 target.1) (target_of address)
