-- The bytes that a sink took of a text that is written in parts.
use Rattle.std.proofs.Common.{◌≡◌, ℕ, List, [], ◌∷◌, ◌++◌, length, sym, ap, ◌∙◌}
use Rattle.std.proofs.lemmas.List.{append_assoc}
use Rattle.atom_values.specs.Ascii.{lf}
use Rattle.doc_source.specs.Outside.{SinkState, TakesPrefix}
use Rattle.doc_source.specs.Pile.{count_text, offer_text}

-- after the front of a text a prefix of the next part was taken
pub takes_more : (before mid after : SinkState) (front more rest text : List ℕ) → text ≡ front ++ (more ++ rest) →
    mid.taken ≡ before.taken ++ front → TakesPrefix mid after more → TakesPrefix before after text
takes_more before mid after front more rest text split taken prefix = record {
  sent = front ++ prefix.sent;
  rest = prefix.rest ++ rest;
  whole = split ∙ ap (λ (m : List ℕ). front ++ (m ++ rest)) prefix.whole
      ∙ ap (λ (x : List ℕ). front ++ x) (append_assoc prefix.sent prefix.rest rest)
      ∙ sym (append_assoc front prefix.sent (prefix.rest ++ rest));
  taken = prefix.taken ∙ ap (λ (x : List ℕ). x ++ prefix.sent) taken ∙ append_assoc before.taken front prefix.sent;
}

-- after the front of a text the next part was taken
pub took_more : (before mid after : SinkState) (front more : List ℕ) → mid.taken ≡ before.taken ++ front →
    after.taken ≡ mid.taken ++ more → after.taken ≡ before.taken ++ (front ++ more)
took_more before mid after front more taken next =
    next ∙ ap (λ (x : List ℕ). x ++ more) taken ∙ append_assoc before.taken front more

-- the same, where the next part was made under another name
pub took_made : (before mid after : SinkState) (front made more : List ℕ) → made ≡ more →
    mid.taken ≡ before.taken ++ front → after.taken ≡ mid.taken ++ made →
    after.taken ≡ before.taken ++ (front ++ more)
took_made before mid after front made more is taken next =
    took_more before mid after front more taken (next ∙ ap (λ (x : List ℕ). mid.taken ++ x) is)

-- the parts of an offer, split after the address and before the last LF
pub behind_address : (address bytes : List ℕ) → offer_text (record { address = address; bytes = bytes })
    ≡ address ++ (count_text (length bytes) ++ (bytes ++ lf ∷ []))
behind_address address bytes = append_assoc address (count_text (length bytes)) (bytes ++ lf ∷ [])

pub before_lf : (address bytes : List ℕ) → offer_text (record { address = address; bytes = bytes })
    ≡ ((address ++ count_text (length bytes)) ++ bytes) ++ lf ∷ []
before_lf address bytes = sym (append_assoc (address ++ count_text (length bytes)) bytes (lf ∷ []))
