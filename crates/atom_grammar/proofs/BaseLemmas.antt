-- A base address has no quote, and an address of a document is split in one way into a base and a place.
use Rattle.std.proofs.Common.{◌≡◌, ◌≢◌, ℕ, ◌<◌, ◌^◌, Bool, false, List, [], ◌∷◌, ◌++◌, Option, Some, None, IsTrue, All, refl, sym, ap, ◌∙◌, subst, arith, codes, decimal, append_assoc}
use Rattle.std.proofs.lemmas.Bool.{true≢false}
use Rattle.std.proofs.lemmas.Fmt.{decimal_injective}
use Rattle.std.proofs.lemmas.List.{append_cancel_right}
use Rattle.std.proofs.lemmas.List.Elements.{All-head, All-tail}
use Rattle.chain_links.specs.Address.{suffix_text}
use Rattle.chain_links.specs.Base.{is_label_char, is_segment_char, IsWord, IsPort, AreSegments, IsBase, host_text, port_text, path_text}
use Rattle.chain_links.proofs.BaseLemmas.{spelling}
use Rattle.chain_links.proofs.PathLemmas.{segments_text}
use Rattle.atom_writer.specs.declared.doc.Kind.{Kind}
use Rattle.atom_writer.specs.declared.doc.Kind.TheVariants.{Subscription, Archive as Sealed}
use Rattle.atom_writer.specs.Pieces.{own_address}
use Rattle.atom_grammar.specs.declared.opening.Own.{Own}
use Rattle.atom_grammar.specs.FeedParts.{IsOwn, IsKind}
use Rattle.atom_grammar.proofs.UntilLemmas.{Lacks, Lacks-append, Lacks-tested, Lacks-decimal_below, behind_last, last_same, decimal_ends}

Lacks-word : (c : ℕ) (test : ℕ → Bool) (word : List ℕ) → test c ≡ false → All (λ x. IsTrue (test x)) word → Lacks c word
Lacks-word c test [] other chars = tt
Lacks-word c test (x ∷ word) other chars = (
  (λ e. true≢false (sym (All-head (λ x. IsTrue (test x)) x word chars) ∙ ap test e ∙ other)),
  Lacks-word c test word other (All-tail (λ x. IsTrue (test x)) x word chars),
)

Lacks-host : (labels : List (List ℕ)) → All (IsWord is_label_char) labels → Lacks 34 (host_text labels)
Lacks-host [] are = tt
Lacks-host (l ∷ []) are = Lacks-word 34 is_label_char l refl (All-head (IsWord is_label_char) l [] are).1
Lacks-host (l ∷ m ∷ ms) are =
    Lacks-append 34 l (46 ∷ host_text (m ∷ ms))
    (Lacks-word 34 is_label_char l refl (All-head (IsWord is_label_char) l (m ∷ ms) are).1)
    ((λ e. absurd (omega arith)), Lacks-host (m ∷ ms) (All-tail (IsWord is_label_char) l (m ∷ ms) are))

Lacks-port : (port : Option ℕ) → IsPort port → Lacks 34 (port_text port)
Lacks-port None is = tt
Lacks-port (Some n) is = ((λ e. absurd (omega arith)), Lacks-decimal_below 34 n (omega arith) (omega (arith, is.1)))

Lacks-segments : (segments : List (List ℕ)) → AreSegments segments → Lacks 34 (segments_text segments)
Lacks-segments [] are = tt
Lacks-segments (s ∷ ss) are =
    Lacks-append 34 (s ++ 47 ∷ []) (segments_text ss)
    (Lacks-append 34 s (47 ∷ []) (Lacks-word 34 is_segment_char s refl (All-head (IsWord is_segment_char) s ss are).1)
    ((λ e. absurd (omega arith)), tt))
    (Lacks-segments ss (All-tail (IsWord is_segment_char) s ss are))

pub Lacks-base : (text : List ℕ) → IsBase text → Lacks 34 text
Lacks-base text base =
    let parts = base.parts in
    let path : Lacks 34 (path_text parts.segments) =
    ((λ e. absurd (omega arith)), Lacks-segments parts.segments base.rules.segments) in
    let whole =
    Lacks-append 34 (codes "http://")
    (host_text parts.labels ++ (port_text parts.port ++ path_text parts.segments))
    (Lacks-tested 34 (codes "http://") refl)
    (Lacks-append 34 (host_text parts.labels) (port_text parts.port ++ path_text parts.segments)
    (Lacks-host parts.labels base.rules.labels.1)
    (Lacks-append 34 (port_text parts.port) (path_text parts.segments) (Lacks-port parts.port base.rules.port) path)) in
    subst (λ t. Lacks 34 t) (sym (spelling text base)) whole

pub Lacks-place : (kind : Kind) → IsKind kind → Lacks 34 (suffix_text (own_address kind))
Lacks-place Subscription is = Lacks-tested 34 (codes "feed") refl
Lacks-place (Sealed n) is =
    Lacks-append 34 (codes "archive/") (decimal n) (Lacks-tested 34 (codes "archive/") refl)
    (Lacks-decimal_below 34 n (omega arith) (omega (arith, is.1)))

-- the text of a document's own address
abbrev pub own_text : Own → List ℕ
own_text own = own.base ++ suffix_text (own_address own.kind)

feed_archive : (a b : List ℕ) (n : ℕ) → n < 2 ^ 32 → a ++ codes "feed" ≢ b ++ (codes "archive/" ++ decimal n)
feed_archive a b n small e =
    let ends = decimal_ends n small in
    let left : (a ++ codes "fee") ++ 100 ∷ [] ≡ a ++ codes "feed" = append_assoc a (codes "fee") (100 ∷ []) in
    let right : b ++ (codes "archive/" ++ decimal n) ≡ (b ++ (codes "archive/" ++ ends.front)) ++ ends.digit ∷ [] =
    ap (λ z. b ++ (codes "archive/" ++ z)) ends.is
    ∙ sym (append_assoc b (codes "archive/" ++ ends.front) (ends.digit ∷ [])) in
    let same : 100 ≡ ends.digit =
    last_same (a ++ codes "fee") (b ++ (codes "archive/" ++ ends.front)) 100 ends.digit (left ∙ e ∙ right) in
    let below = ends.below in
    absurd (omega arith)

-- two splits of one text
pub parts_same : (x y : List ℕ) (k l : Kind) → IsKind k → IsKind l
    → x ++ suffix_text (own_address k) ≡ y ++ suffix_text (own_address l) → (x ≡ y) × (k ≡ l)
parts_same x y Subscription Subscription is_k is_l e = (append_cancel_right x y (codes "feed") e, refl)
parts_same x y Subscription (Sealed n) is_k is_l e = absurd (feed_archive x y n (omega (arith, is_l.1)) e)
parts_same x y (Sealed m) Subscription is_k is_l e = absurd (feed_archive y x m (omega (arith, is_k.1)) (sym e))
parts_same x y (Sealed m) (Sealed n) is_k is_l e =
    let split : (z : List ℕ) (k : ℕ)
    → (z ++ codes "archive") ++ 47 ∷ decimal k ≡ z ++ (codes "archive/" ++ decimal k) =
    λ z k. append_assoc z (codes "archive") (47 ∷ decimal k) in
    let parts =
    behind_last 47 (x ++ codes "archive") (y ++ codes "archive") (decimal m) (decimal n)
    (Lacks-decimal_below 47 m (omega arith) (omega (arith, is_k.1)))
    (Lacks-decimal_below 47 n (omega arith) (omega (arith, is_l.1))) (split x m ∙ e ∙ sym (split y n)) in
    let numbers : m ≡ n = decimal_injective m n (omega (arith, is_k.1)) (omega (arith, is_l.1)) parts.1 in
    (append_cancel_right x y (codes "archive") parts.0, ap (λ k. Sealed k) numbers)

pub own_same : (a b : Own) → IsOwn a → IsOwn b → own_text a ≡ own_text b → a ≡ b
own_same a b is_a is_b e =
    let own : List ℕ → Kind → Own = λ base kind. record { base = base; kind = kind } in
    let parts = parts_same a.base b.base a.kind b.kind is_a.kind is_b.kind e in
    ap (λ z. own z a.kind) parts.0 ∙ ap (λ k. own b.base k) parts.1
