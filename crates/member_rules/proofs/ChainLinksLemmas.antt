-- The documents of a cut of a history adjoin, and each keeps the rules.
use Rattle.std.proofs.Common.{◌≡◌, ℕ, zero, suc, ◌-◌, ◌≤◌, List, [], ◌∷◌, ◌++◌, ◌+◌, length, take, refl, ap, subst}
use Rattle.std.proofs.Common.{arith}
use Rattle.std.specs.Prelude.{All}
use Rattle.std.proofs.lemmas.List.{length-take-le}
use Rattle.std.proofs.lemmas.List.Elements.{All-nil, All-cons}
use Rattle.atom_writer.specs.Doc.{DocValue, IsDoc}
use Rattle.chain_links.specs.Place.{Adjoins}
use Rattle.member_rules.specs.declared.operation.Op.{Op}
use Rattle.member_rules.specs.Head.{HeadValue, IsHead}
use Rattle.member_rules.specs.History.{IsLawful}
use Rattle.member_rules.specs.Documents.{document_of, archive_of, subscription_of}
use Rattle.member_rules.specs.Chain.{IsChain, IsOpenCut, place_of, down_from, chain_of}
use Rattle.member_rules.proofs.CutLemmas.{IsCut, IsCut-open, ends-within}
use Rattle.member_rules.proofs.DocumentRulesLemmas.{archive-is_doc, subscription-is_doc}

-- by recursion: a document, and then the older ones
abbrev Linked : DocValue → List DocValue → Type 0
Linked newer [] = newer.span.first ≡ 1
Linked newer (older ∷ oldest) = Adjoins (place_of older) (place_of newer) × Linked older oldest

adjoined-from : (first : DocValue) (documents before after : List DocValue) (newer older : DocValue)
    → Linked first documents → first ∷ documents ≡ before ++ newer ∷ older ∷ after
    → Adjoins (place_of older) (place_of newer)
adjoined-from first [] [] after newer older h e = absurd (grind arith)
adjoined-from first [] (x ∷ before) after newer older h e = absurd (no_more before e)
  where
    no_more : (before : List DocValue) → first ∷ [] ≡ x ∷ before ++ newer ∷ older ∷ after → ⊥
    no_more [] e = grind arith
    no_more (y ∷ before) e = grind arith
adjoined-from first (next ∷ documents) [] after newer older h e =
    let one : first ≡ newer = cc in
    let two : next ≡ older = cc in
    subst (λ (d : DocValue). Adjoins (place_of older) (place_of d)) one
    (subst (λ (d : DocValue). Adjoins (place_of d) (place_of first)) two h.0)
adjoined-from first (next ∷ documents) (x ∷ before) after newer older h e =
    let rest : next ∷ documents ≡ before ++ newer ∷ older ∷ after = cc in
    adjoined-from next documents before after newer older h.1 rest

whole-from : (first : DocValue) (documents before : List DocValue) (oldest : DocValue) → Linked first documents
    → first ∷ documents ≡ before ++ oldest ∷ [] → oldest.span.first ≡ 1
whole-from first [] [] oldest h e = let same : first ≡ oldest = cc in subst (λ (d : DocValue). d.span.first ≡ 1) same h
whole-from first [] (x ∷ before) oldest h e = absurd (no_more before e)
  where
    no_more : (before : List DocValue) → first ∷ [] ≡ x ∷ before ++ oldest ∷ [] → ⊥
    no_more [] e = grind arith
    no_more (y ∷ before) e = grind arith
whole-from first (next ∷ documents) [] oldest h e = absurd (grind arith)
whole-from first (next ∷ documents) (x ∷ before) oldest h e =
    let rest : next ∷ documents ≡ before ++ oldest ∷ [] = cc in
    whole-from next documents before oldest h.1 rest

-- a span ends where the next one begins
seam : (ends : ℕ → ℕ) (archives : ℕ) (history : List Op) (k : ℕ) → IsCut ends archives (length history) → k ≤ archives
    → length (take (ends k) history) + 1 ≡ ends k + 1
seam ends archives history k cut l = ap (λ (n : ℕ). n + 1)
    (length-take-le (ends k) history (ends-within ends archives (length history) cut k l))

linked-archives : (ends : ℕ → ℕ) (archives : ℕ) (head : HeadValue) (history : List Op)
    → IsCut ends archives (length history) → (k : ℕ) → suc k ≤ archives
    → Linked (archive_of ends head history (suc k)) (down_from (archive_of ends head history) k)
unfolding archive_of document_of
linked-archives ends archives head history cut zero l = omega (arith, cut.from_none)
linked-archives ends archives head history cut (suc k) l =
    let same : suc (suc k) - 1 ≡ suc k = omega arith in (
      record { named = rw same refl; spans = rw same (seam ends archives history (suc k) cut (omega arith)) },
      linked-archives ends archives head history cut k (omega arith),
    )

linked-chain : (ends : ℕ → ℕ) (archives : ℕ) (head : HeadValue) (history : List Op)
    → IsCut ends archives (length history) → Linked (subscription_of ends archives head history)
    (down_from (archive_of ends head history) archives)
unfolding archive_of subscription_of document_of
linked-chain ends zero head history cut = omega (arith, cut.from_none)
linked-chain ends (suc k) head history cut = (
  record { named = refl; spans = seam ends (suc k) history (suc k) cut (omega arith) },
  linked-archives ends (suc k) head history cut k (omega arith),
)

pub chain_of-is_chain : (ends : ℕ → ℕ) (archives : ℕ) (head : HeadValue) (history : List Op)
    → IsCut ends archives (length history) → IsChain (chain_of ends archives head history)
unfolding chain_of
chain_of-is_chain ends archives head history cut =
    let first = subscription_of ends archives head history in
    let older = down_from (archive_of ends head history) archives in
    let linked = linked-chain ends archives head history cut in
    record {
      adjoined = λ before after newer next e. adjoined-from first older before after newer next linked e;
      whole = λ before oldest e. whole-from first older before oldest linked e;
    }

docs-archives : (ends : ℕ → ℕ) (archives : ℕ) (head : HeadValue) (history : List Op) → IsHead head
    → IsLawful head history → IsCut ends archives (length history) → (k : ℕ) → k ≤ archives
    → All IsDoc (down_from (archive_of ends head history) k)
docs-archives ends archives head history is_head lawful cut zero l = All-nil IsDoc
docs-archives ends archives head history is_head lawful cut (suc k) l =
    All-cons IsDoc (archive_of ends head history (suc k)) (down_from (archive_of ends head history) k)
    (archive-is_doc ends archives head history (suc k) is_head lawful cut (omega arith) l)
    (docs-archives ends archives head history is_head lawful cut k (omega arith))

pub chain_of-documents : (ends : ℕ → ℕ) (archives : ℕ) (head : HeadValue) (history : List Op) → IsHead head
    → IsLawful head history → IsOpenCut ends archives (length history) → All IsDoc (chain_of ends archives head history)
unfolding chain_of
chain_of-documents ends archives head history is_head lawful cut =
    All-cons IsDoc (subscription_of ends archives head history) (down_from (archive_of ends head history) archives)
    (subscription-is_doc ends archives head history is_head lawful cut)
    (docs-archives ends archives head history is_head lawful (IsCut-open ends archives (length history) cut) archives
    (omega arith))
