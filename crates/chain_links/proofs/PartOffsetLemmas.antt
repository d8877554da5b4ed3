-- The offsets of a base address' parts follow from their lengths.
use Rattle.std.proofs.Common.{◌≡◌, ℕ, ◌+◌, ◌-◌, List, ◌++◌, length, take, drop, unwrap_or, codes, sym, ap, ◌∙◌, arith}
use Rattle.std.proofs.Common.{length-append, append_assoc, take_at, drop_at}
use Rattle.std.proofs.lemmas.List.{take_rest}
use Rattle.chain_links.specs.Base.{BaseParts, Spells, base_text, host_text, port_text, path_text}
use Rattle.chain_links.specs.PartOffsets.{ArePartOffsets}

pub spelling_of : (parts : BaseParts) (text : List ℕ) → Spells parts text →
    text ≡ codes "http://" ++ (host_text parts.labels ++ (port_text parts.port ++ path_text parts.segments))
unfolding base_text
spelling_of parts text spells = sym spells.1

pub spells_same : (parts : BaseParts) (text other : List ℕ) → other ≡ text → Spells parts text → Spells parts other
spells_same parts text other e spells = (spells.0, spells.1 ∙ sym e)

-- the lengths of what the readers leave
pub part_offsets_at : (text host behind path : List ℕ) (number : ℕ) (parts : BaseParts) →
    text ≡ codes "http://" ++ host → host ≡ host_text parts.labels ++ behind → behind ≡ port_text parts.port ++ path →
    path ≡ path_text parts.segments → number ≡ unwrap_or parts.port 80 →
    ArePartOffsets parts text (length text - length behind) number (length text - length path)
part_offsets_at text host behind path number parts scheme has_host has_port is_path is_number =
    let whole : length text ≡ 7 + length host = omega (arith, ap length scheme) in
    let at_host : length host ≡ length (host_text parts.labels) + length behind = ap length has_host
    ∙ length-append (host_text parts.labels) behind in
    let at_port : length behind ≡ length (port_text parts.port) + length path = ap length has_port
    ∙ length-append (port_text parts.port) path in
    record { host = omega arith; port = is_number; path = omega (arith, ap length is_path) }

pub host_at : (parts : BaseParts) (text : List ℕ) (host_end number path_start : ℕ) → Spells parts text →
    ArePartOffsets parts text host_end number path_start → take (host_end - 7) (drop 7 text) ≡ host_text parts.labels
host_at parts text host_end number path_start spells at =
    let behind : drop 7 text ≡ host_text parts.labels ++ (port_text parts.port ++ path_text parts.segments) =
    ap (drop 7) (spelling_of parts text spells) in
    ap (take (host_end - 7)) behind
    ∙ take_at (host_text parts.labels) (port_text parts.port ++ path_text parts.segments) (host_end - 7)
    (omega (arith, at.host))

pub path_at : (parts : BaseParts) (text : List ℕ) (host_end number path_start : ℕ) → Spells parts text →
    ArePartOffsets parts text host_end number path_start →
    take (length text - path_start) (drop path_start text) ≡ path_text parts.segments
path_at parts text host_end number path_start spells at =
    let front = codes "http://" ++ (host_text parts.labels ++ port_text parts.port) in
    let whole : text ≡ front ++ path_text parts.segments =
    spelling_of parts text spells
    ∙ ap (λ x. codes "http://" ++ x)
    (sym (append_assoc (host_text parts.labels) (port_text parts.port) (path_text parts.segments))) in
    let len : length text ≡ length front + length (path_text parts.segments) = ap length whole
    ∙ length-append front (path_text parts.segments) in
    take_rest text path_start ∙ ap (drop path_start) whole
    ∙ drop_at front (path_text parts.segments) path_start (omega (arith, at.path))
