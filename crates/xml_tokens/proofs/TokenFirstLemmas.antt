-- How the spelling of each token begins, and how it ends.
use Rattle.std.proofs.Common.{◌≡◌, ◌≢◌, ℕ, ◌<◌, true, List, [], ◌∷◌, ◌++◌, length, refl, sym, ap, subst}
use Rattle.std.proofs.Common.{◌∙◌, ⊎_elim, codes, arith, append_assoc}
use Rattle.std.specs.Prelude.{chars, if◌then◌else◌}
use Rattle.std.proofs.Math.Utf8.{encode, encodes}
use Rattle.std.proofs.lemmas.List.{append-nil}
use Rattle.std.proofs.lemmas.Str.{encode_ascii, encodes-chars, IsUtf8-from_is_utf8}
use Rattle.atom_values.specs.XmlText.{IsXmlText}
use Rattle.xml_tokens.specs.Characters.{begins_name, name_text}
use Rattle.xml_tokens.specs.Tokens.{Token, IsSpelled, IsPlain}
use Rattle.xml_tokens.specs.Tokens.Token.{declaration, character, referred, section, comment, instruction, opening}
use Rattle.xml_tokens.specs.Tokens.Token.{closing}
use Rattle.xml_tokens.proofs.ValueLemmas.{reference_first}
use Rattle.xml_tokens.proofs.BehindNameLemmas.{qname_first}
use Rattle.xml_tokens.proofs.CharacterLemmas.{char_head}
use Rattle.xml_tokens.proofs.XmlLemmas.{printable_xml, xml_append, xml_before, xml_behind, xml_parts, xml_rest}

-- a front that ends with `>`
pub xml_front : (text front u after : List ℕ) → text ≡ front ++ after → front ≡ u ++ codes ">" → IsXmlText text →
    IsXmlText front × IsXmlText after
xml_front text front u after split ends is =
    let X : List ℕ → Type 0 = IsXmlText in
    let whole : text ≡ u ++ 62 ∷ after = split ∙ ap (λ xs. xs ++ after) ends ∙ append_assoc u (codes ">") after in
    let x = subst X whole is in
    let before = xml_before 62 u after (omega arith) x in (
      subst X (sym ends) (xml_append u (codes ">") before (printable_xml (codes ">") refl)),
      xml_behind 62 after (omega arith) (xml_rest u (62 ∷ after) before x),
    )

pub heads_of : (a b : ℕ) (s t : List ℕ) → a ∷ s ≡ b ∷ t → a ≡ b
heads_of a b s t e = cc

pub tails_of : (a b : ℕ) (s t : List ℕ) → a ∷ s ≡ b ∷ t → s ≡ t
tails_of a b s t e = cc

one_first : (text rest : List ℕ) (cs : List ℕ) → encodes cs ≡ text → length cs ≡ 1 → IsPlain text rest →
    (b : ℕ) × (u : List ℕ) × (text ≡ b ∷ u) × (b ≢ 60) × (b ≢ 38)
one_first text rest [] e one p = absurd (omega arith)
one_first text rest (c ∷ []) e one p =
    let h = char_head c in
    let whole : text ≡ encode c = sym e ∙ append-nil (encode c) in
    let only : (k : ℕ) → k < 128 → (text ≢ k ∷ []) → h.0 ≢ k = λ k low none same.
    ⊎_elim
    (λ is. none (whole ∙ encode_ascii c (omega arith) ∙ ap (λ n. n ∷ []) (sym is ∙ same)))
    (λ above. omega arith)
    h.3 in
    (h.0, h.1, whole ∙ h.2, only 60 (omega arith) p.no_tag, only 38 (omega arith) p.no_reference)
one_first text rest (c ∷ d ∷ ds) e one p = absurd (omega arith)

-- a character that is written as it is
plain_first : (text rest : List ℕ) → IsPlain text rest → (b : ℕ) × (u : List ℕ) × (text ≡ b ∷ u) × (b ≢ 60) × (b ≢ 38)
plain_first text rest p =
    let is = p.is_character in
    let u = IsUtf8-from_is_utf8 text (xml_parts text is.0).0 in
    one_first text rest (chars text) (encodes-chars text u) is.1 p

-- how the spelling of a token begins
abbrev pub Begins : Token → List ℕ → Type 0
Begins (declaration encoding) s = (u : List ℕ) × (s ≡ codes "<?xml" ++ u)
Begins (character read) s = (b : ℕ) × (u : List ℕ) × (s ≡ b ∷ u) × (b ≢ 60) × (b ≢ 38)
Begins (referred c) s = (u : List ℕ) × (s ≡ 38 ∷ u)
Begins (section read) s = (u : List ℕ) × (s ≡ codes "<![" ++ u)
Begins comment s = (u : List ℕ) × (s ≡ codes "<!-" ++ u)
Begins instruction s = (u : List ℕ) × (s ≡ codes "<?" ++ u)
Begins (opening tag) s = (b : ℕ) × (u : List ℕ) × (s ≡ 60 ∷ b ∷ u) × (begins_name b ≡ true)
Begins (closing name) s = (u : List ℕ) × (s ≡ codes "</" ++ u)

pub token_begins : (a : Token) (s x : List ℕ) → IsSpelled a s x → Begins a s
token_begins (declaration encoding) s x is =
    let d = is.1 in
    (d.version ++ d.encoded ++ d.alone ++ d.spaces ++ codes "?>", d.spelled ∙ simp append_assoc)
token_begins (character read) s x is =
    ⊎_elim
    (λ plain. plain_first s x plain.1)
    (λ line. ⊎_elim
    (λ two. (13, 10 ∷ [], two, (λ (e : 13 ≡ 60). omega arith), (λ (e : 13 ≡ 38). omega arith)))
    (λ one. (13, [], one.0, (λ (e : 13 ≡ 60). omega arith), (λ (e : 13 ≡ 38). omega arith)))
    line.1)
    is.1
token_begins (referred c) s x is = reference_first c s is.1
token_begins (section read) s x is = (codes "CDATA[" ++ is.1.inside ++ codes "]]>", is.1.spelled ∙ simp append_assoc)
token_begins comment s x is = (codes "-" ++ is.1.inside ++ codes "-->", is.1.spelled ∙ simp append_assoc)
token_begins instruction s x is = (is.1.name ++ is.1.inside ++ codes "?>", is.1.spelled ∙ simp append_assoc)
token_begins (opening tag) s x is =
    let t = is.1 in
    let f = qname_first tag.name t.name in
    let end = if tag.is_empty then codes "/>" else codes ">" in (
      f.0,
      f.1 ++ (t.inside ++ (t.spaces ++ end)),
      t.spelled
          ∙ ap (λ xs. codes "<" ++ xs ++ t.inside ++ t.spaces ++ end) f.2 ∙ simp append_assoc,
      f.3,
    )
token_begins (closing name) s x is = (name_text name ++ is.1.spaces ++ codes ">", is.1.spelled ∙ simp append_assoc)
