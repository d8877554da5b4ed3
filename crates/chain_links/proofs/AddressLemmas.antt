-- A printed address is the base and a place, and no two addresses print the same.
use Rattle.std.proofs.Common.{◌≡◌, ℕ, ◌+◌, ◌<◌, ◌^◌, List, ◌++◌, length, get_or, length-append, codes, decimal}
use Rattle.std.proofs.Common.{arith, refl, ap}
use Rattle.std.proofs.lemmas.List.{append_cancel_left}
use Rattle.std.proofs.lemmas.Fmt.{decimal_injective}
use Rattle.chain_links.specs.declared.address.Address.{Address}
use Rattle.chain_links.specs.declared.address.Address.TheVariants.{Feed, Archive, Member}
use Rattle.chain_links.specs.Address.{IsAddress, printed, suffix_text}

pub printed-is : (base : List ℕ) (address : Address) → printed base address ≡ base ++ suffix_text address
unfolding printed
printed-is base address = refl

pub length-printed : (base : List ℕ) (address : Address) →
    length (printed base address) ≡ length base + length (suffix_text address)
unfolding printed
length-printed base address = length-append base (suffix_text address)

same_numbers : (m n : ℕ) → m < 2 ^ 32 → n < 2 ^ 32 → decimal m ≡ decimal n → m ≡ n
same_numbers m n small_m small_n e = decimal_injective m n (omega arith) (omega arith) e

pub same_suffix : (a b : Address) → IsAddress a → IsAddress b → suffix_text a ≡ suffix_text b → a ≡ b
same_suffix Feed Feed is_a is_b e = refl
same_suffix Feed (Archive n) is_a is_b e = absurd (omega (arith, ap (λ x. get_or x 0 0) e))
same_suffix Feed (Member n) is_a is_b e = absurd (omega (arith, ap (λ x. get_or x 0 0) e))
same_suffix (Archive m) Feed is_a is_b e = absurd (omega (arith, ap (λ x. get_or x 0 0) e))
same_suffix (Archive m) (Archive n) is_a is_b e =
    ap (λ k. Archive k) (same_numbers m n is_a.1 is_b.1
    (append_cancel_left (codes "archive/") (decimal m) (decimal n) e))
same_suffix (Archive m) (Member n) is_a is_b e = absurd (omega (arith, ap (λ x. get_or x 0 0) e))
same_suffix (Member m) Feed is_a is_b e = absurd (omega (arith, ap (λ x. get_or x 0 0) e))
same_suffix (Member m) (Archive n) is_a is_b e = absurd (omega (arith, ap (λ x. get_or x 0 0) e))
same_suffix (Member m) (Member n) is_a is_b e =
    ap (λ k. Member k) (same_numbers m n is_a.1 is_b.1 (append_cancel_left (codes "member/") (decimal m) (decimal n) e))

pub same_address : (base : List ℕ) (a b : Address) → IsAddress a → IsAddress b → printed base a ≡ printed base b → a ≡ b
unfolding printed
same_address base a b is_a is_b e =
    same_suffix a b is_a is_b (append_cancel_left base (suffix_text a) (suffix_text b) e)
