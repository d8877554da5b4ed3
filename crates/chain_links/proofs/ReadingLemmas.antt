-- A text is read as a base address in one way alone.
use Rattle.std.proofs.Common.{◌≡◌, ℕ, List, ◌∷◌, ◌++◌, get_or, Option, Some, None, codes, decimal, refl, sym, ap, ◌∙◌}
use Rattle.std.proofs.Common.{arith}
use Rattle.std.proofs.lemmas.Bool.{false≢true}
use Rattle.std.proofs.lemmas.List.{append_cancel_left, append_cancel_right}
use Rattle.std.proofs.lemmas.Option.{some_pair_parts, same_Some}
use Rattle.chain_links.specs.Base.{BaseParts, AreParts, IsPort, Spells, base_text, host_text, port_text, path_text}
use Rattle.chain_links.proofs.HostLemmas.{host_only}
use Rattle.chain_links.proofs.NumberLemmas.{number_only}
use Rattle.chain_links.proofs.BaseLemmas.{port_ends_host}
use Rattle.chain_links.proofs.SplitLemmas.{same_labels, same_segments}

same_ports : (m n : Option ℕ) (x y : List ℕ) → IsPort m → IsPort n → port_text m ++ 47 ∷ x ≡ port_text n ++ 47 ∷ y →
    (m ≡ n) × (x ≡ y)
same_ports None None x y is_m is_n e = (refl, cc)
same_ports None (Some n) x y is_m is_n e = absurd (omega (arith, ap (λ t. get_or t 0 0) e))
same_ports (Some m) None x y is_m is_n e = absurd (omega (arith, ap (λ t. get_or t 0 0) e))
same_ports (Some m) (Some n) x y is_m is_n e =
    let tails : decimal m ++ 47 ∷ x ≡ decimal n ++ 47 ∷ y = cc in
    let at_m = number_only (decimal m ++ 47 ∷ x) m (47 ∷ x) (omega (arith, is_m.1)) false≢true refl in
    let at_n = number_only (decimal m ++ 47 ∷ x) n (47 ∷ y) (omega (arith, is_n.1)) false≢true tails in
    let p = some_pair_parts m n (47 ∷ x) (47 ∷ y) (sym at_m ∙ at_n) in
    (ap (λ k. Some k) p.0, let h = p.1 in cc)

-- the parts that follow a scheme and the same bytes are the same
same_behind : (p q : BaseParts) → AreParts p → AreParts q →
    host_text p.labels ++ (port_text p.port ++ path_text p.segments) ≡ host_text q.labels
    ++ (port_text q.port ++ path_text q.segments) → p ≡ q
same_behind p q are_p are_q e =
    let text = host_text p.labels ++ (port_text p.port ++ path_text p.segments) in
    let at_p = host_only text p.labels (port_text p.port ++ path_text p.segments) are_p.labels
    (port_ends_host p.port p.segments) refl in
    let at_q = host_only text q.labels (port_text q.port ++ path_text q.segments) are_q.labels
    (port_ends_host q.port q.segments) e in
    let behind : port_text p.port ++ path_text p.segments ≡ port_text q.port ++ path_text q.segments =
    same_Some _ _ (sym at_p ∙ at_q) in
    let hosts : host_text p.labels ≡ host_text q.labels =
    append_cancel_right (host_text p.labels) (host_text q.labels) (port_text q.port ++ path_text q.segments)
    (ap (λ x. host_text p.labels ++ x) (sym behind) ∙ e) in
    let labels = same_labels p.labels q.labels are_p.labels are_q.labels hosts in
    let ports = same_ports p.port q.port _ _ are_p.port are_q.port behind in
    let segments = same_segments p.segments q.segments are_p.segments are_q.segments ports.1 in
    λ i. record { labels = labels i; port = ports.0 i; segments = segments i }

pub same_parts : (text : List ℕ) (p q : BaseParts) → Spells p text → Spells q text → p ≡ q
unfolding base_text
same_parts text p q spells_p spells_q =
    same_behind p q spells_p.0 spells_q.0 (append_cancel_left (codes "http://") _ _ (spells_p.1 ∙ sym spells_q.1))
