-- Whether a document's own address is the one that it was offered under.
use Rattle.std.proofs.Common.{◌≡◌, ◌≢◌, ◌⊎◌, inl, inr, ℕ, Bool, true, false, ◌&&◌, List, Some, None, Err}
use Rattle.std.proofs.Common.{refl, ap, sym}
use Rattle.std.proofs.Common.{◌∙◌}
use Rattle.std.specs.Str.{bytes_eq}
use Rattle.std.proofs.lemmas.Bool.{and_from, and_parts, cond-false, cond-true, false_from_ne_true}
use Rattle.std.proofs.lemmas.Slice.Eq.{bytes_eq-Decides}
use Rattle.atom_writer.specs.Doc.{DocValue}
use Rattle.atom_writer.specs.Pieces.{own_address}
use Rattle.chain_links.specs.Address.{printed}
use Rattle.chain_links.specs.declared.address.Address.{Address}
use Rattle.mirror_walk.specs.declared.answer.Offered.TheVariants.{WrongAddress}
use Rattle.mirror_walk.specs.Accept.{own_text, wrong_address}

pub own_text-printed : (base : List ℕ) (document : DocValue) (own : Address) → document.name.base ≡ base
    → own ≡ own_address document.kind → printed base own ≡ own_text document
own_text-printed base document own same is =
    ap (λ (b : List ℕ). printed b own) (sym same) ∙ ap (printed document.name.base) is

pub address-right : (base address : List ℕ) (document : DocValue) → document.name.base ≡ base
    → address ≡ own_text document → wrong_address base address document ≡ None
unfolding wrong_address
address-right base address document same own =
    cond-true (bytes_eq document.name.base base && bytes_eq address (own_text document)) None
    (Some (Err (WrongAddress (own_text document))))
    (and_from (bytes_eq document.name.base base) (bytes_eq address (own_text document))
    ((bytes_eq-Decides document.name.base base).1 same) ((bytes_eq-Decides address (own_text document)).1
    own))

pub address-wrong : (base address : List ℕ) (document : DocValue)
    → (document.name.base ≡ base → address ≡ own_text document → ⊥)
    → wrong_address base address document ≡ Some (Err (WrongAddress (own_text document)))
unfolding wrong_address
address-wrong base address document other =
    cond-false (bytes_eq document.name.base base && bytes_eq address (own_text document)) None
    (Some (Err (WrongAddress (own_text document)))) (false_from_ne_true _ (λ both.
    let parts = and_parts (bytes_eq document.name.base base) (bytes_eq address (own_text document)) both in
    other ((bytes_eq-Decides document.name.base base).0 parts.0)
    ((bytes_eq-Decides address (own_text document)).0 parts.1)))

pub bytes_cases : (one other : List ℕ) → (one ≡ other) ⊎ (one ≢ other)
bytes_cases one other = go (bytes_eq one other) refl
  where
    go : (b : Bool) → bytes_eq one other ≡ b → (one ≡ other) ⊎ (one ≢ other)
    go true is = inl ((bytes_eq-Decides one other).0 is)
    go false is = inr (λ same. let never : true ≡ false = sym ((bytes_eq-Decides one other).1 same)
        ∙ is in cc)

-- the base and the address are the document's own, or the offer is refused by them
pub address-known : (base address : List ℕ) (document : DocValue)
    → ((document.name.base ≡ base) × (address ≡ own_text document))
    ⊎ (wrong_address base address document ≡ Some (Err (WrongAddress (own_text document))))
address-known base address document = elim (bytes_cases document.name.base base) [
  | inl same ↦ elim (bytes_cases address (own_text document)) [
    | inl own ↦ inl (same, own)
    | inr other ↦ inr (address-wrong base address document (λ _ own. other own))
  ]
  | inr other ↦ inr (address-wrong base address document (λ same _. other same))
]
