-- A base address is ASCII.
use Rattle.std.proofs.Common.{◌≡◌, ℕ, ◌<◌, List, [], ◌∷◌, ◌++◌, Some, None, Option, IsTrue, All, IsAscii, IsUtf8, codes}
use Rattle.std.proofs.Common.{decimal, arith, rules, true, sym, subst}
use Rattle.std.proofs.lemmas.Bool.Decides.{nat_tests}
use Rattle.std.proofs.lemmas.List.Elements.{All-head, All-tail, All-weaker}
use Rattle.std.proofs.lemmas.Str.{IsAscii-append, IsUtf8-from_ascii}
use Rattle.std.proofs.lemmas.Str.Ascii.{IsAscii-nil, IsAscii-cons, IsAscii-from_all}
use Rattle.std.proofs.lemmas.Fmt.{IsAscii-decimal}
use Rattle.chain_links.specs.Base.{is_label_char, is_segment_char, IsWord, IsPort, AreSegments, IsBase, host_text}
use Rattle.chain_links.specs.Base.{port_text, path_text}
use Rattle.chain_links.proofs.PathLemmas.{segments_text}
use Rattle.chain_links.proofs.BaseLemmas.{spelling}

label_ascii : (c : ℕ) → is_label_char c ≡ true → c < 128
label_ascii c e = grind (arith, nat_tests)

segment_ascii : (c : ℕ) → is_segment_char c ≡ true → c < 128
segment_ascii c e = grind (arith, nat_tests)

word_ascii : (word : List ℕ) → IsWord is_label_char word → IsAscii word
word_ascii word is = IsAscii-from_all word
    (All-weaker (λ c. IsTrue (is_label_char c)) (λ c. c < 128) label_ascii word is.1)

piece_ascii : (word : List ℕ) → IsWord is_segment_char word → IsAscii word
piece_ascii word is = IsAscii-from_all word
    (All-weaker (λ c. IsTrue (is_segment_char c)) (λ c. c < 128) segment_ascii word is.1)

host_ascii : (labels : List (List ℕ)) → All (IsWord is_label_char) labels → IsAscii (host_text labels)
host_ascii [] are = IsAscii-nil
host_ascii (l ∷ []) are = word_ascii l (All-head (IsWord is_label_char) l [] are)
host_ascii (l ∷ m ∷ ms) are =
    IsAscii-append l (46 ∷ host_text (m ∷ ms)) (word_ascii l (All-head (IsWord is_label_char) l (m ∷ ms) are))
    (IsAscii-cons 46 (host_text (m ∷ ms)) (omega arith)
    (host_ascii (m ∷ ms) (All-tail (IsWord is_label_char) l (m ∷ ms) are)))

port_ascii : (port : Option ℕ) → IsPort port → IsAscii (port_text port)
port_ascii None is = IsAscii-nil
port_ascii (Some n) is = IsAscii-cons 58 (decimal n) (omega arith) (IsAscii-decimal n (omega (arith, is.1)))

segments_ascii : (segments : List (List ℕ)) → AreSegments segments → IsAscii (segments_text segments)
segments_ascii [] are = IsAscii-nil
segments_ascii (s ∷ ss) are =
    IsAscii-append (s ++ 47 ∷ []) (segments_text ss)
    (IsAscii-append s (47 ∷ []) (piece_ascii s (All-head (IsWord is_segment_char) s ss are))
    (IsAscii-cons 47 [] (omega arith) IsAscii-nil))
    (segments_ascii ss (All-tail (IsWord is_segment_char) s ss are))

scheme_ascii : (rest : List ℕ) → IsAscii rest → IsAscii (codes "http://" ++ rest)
scheme_ascii rest is = search (rules, IsAscii-cons)

pub base_utf8 : (text : List ℕ) → IsBase text → IsUtf8 text
base_utf8 text base =
    let parts = base.parts in
    let whole = scheme_ascii _ (IsAscii-append (host_text parts.labels) _ (host_ascii parts.labels base.rules.labels.1)
    (IsAscii-append (port_text parts.port) (path_text parts.segments) (port_ascii parts.port base.rules.port)
    (IsAscii-cons 47 (segments_text parts.segments) (omega arith)
    (segments_ascii parts.segments base.rules.segments)))) in
    IsUtf8-from_ascii text (let P : List ℕ → Type 0 = λ t. IsAscii t in subst P (sym (spelling text base)) whole)
