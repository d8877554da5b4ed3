-- XML text before bytes that no XML text begins with.
use Rattle.std.proofs.Common.{◌≡◌, ◌≢◌, ℕ, List, [], ◌∷◌, ◌++◌, length, drop, true, false, refl, sym, ap}
use Rattle.std.proofs.Common.{subst, ◌∙◌, append_assoc}
use Rattle.std.proofs.Common.{⊎_elim, ◌<◌, lit<, codes, Bool, ◌&&◌, nat_lt, ltb-true}
use Rattle.std.proofs.lemmas.Str.{IsUtf8-from_ascii, chars-IsAscii}
use Rattle.atom_values.specs.Ascii.{lf}
use Rattle.std.specs.List.{list_all}
use Rattle.std.proofs.lemmas.Bool.{and_parts, and_from, both_ways, false_from_ne_true}
use Rattle.std.proofs.lemmas.List.{append-nil}
use Rattle.std.proofs.lemmas.Str.{is_utf8-from_IsUtf8}
use Rattle.atom_values.specs.XmlText.{IsXmlText, is_xml_char}
use Rattle.xml_tokens.specs.Characters.{begins}
use Rattle.xml_tokens.specs.Progress.{IsBehindXml}
use Rattle.xml_tokens.proofs.BeginLemmas.{begins_split, begins_from}
use Rattle.xml_tokens.proofs.PartLemmas.{splits}
use Rattle.xml_tokens.proofs.XmlLemmas.{ascii_one, xml_append, xml_from, xml_rest}

-- XML text that the whole begins with is within the XML text
pub within : (x tail more front back : List ℕ) → IsXmlText x → IsBehindXml tail → tail ≢ [] →
    (x ++ tail) ++ more ≡ front ++ back → IsXmlText front →
    (y : List ℕ) × (x ≡ front ++ y) × (back ≡ y ++ tail ++ more)
within x tail more front back is_x behind some e is_front =
    ⊎_elim
    (λ longer.
    let g = longer.0 in
    let is_g : IsXmlText g = xml_rest x g is_x (subst IsXmlText longer.1 is_front) in
    let none : g ≡ [] = behind g back more some longer.2 is_g in (
      [],
      (sym (append-nil x) ∙ ap (λ k. x ++ k) (sym none) ∙ sym longer.1) ∙ sym (append-nil front),
      ap (λ k. k ++ back) (sym none) ∙ sym longer.2,
    ))
    (λ shorter. (shorter.0, shorter.1, shorter.2 ∙ sym (append_assoc shorter.0 tail more)))
    (splits x (tail ++ more) front back (sym (append_assoc x tail more) ∙ e))

-- XML text doesn't begin the whole if it doesn't begin the XML text
pub begins_more : (p x tail : List ℕ) → IsXmlText p → IsXmlText x → IsBehindXml tail → begins p x ≡ false →
    begins p (x ++ tail) ≡ false
begins_more p x [] is_p is_x behind none = ap (begins p) (append-nil x) ∙ none
begins_more p x (b ∷ bs) is_p is_x behind none =
    false_from_ne_true (begins p (x ++ b ∷ bs)) (λ is.
    let split = begins_split p (x ++ b ∷ bs) is in
    let in_x = within x (b ∷ bs) [] p (drop (length p) (x ++ b ∷ bs)) is_x behind (λ e. cc)
    (append-nil (x ++ b ∷ bs) ∙ split) is_p in
    both_ways (begins p x) none (begins_from p x in_x.0 in_x.1))

pub xml_one : (b : ℕ) → b < 128 → is_xml_char b ≡ true → IsXmlText (b ∷ [])
xml_one b low char =
    let ascii = ascii_one b low in
    xml_from (b ∷ []) (is_utf8-from_IsUtf8 (b ∷ []) (IsUtf8-from_ascii (b ∷ []) ascii))
    (ap (list_all is_xml_char) (chars-IsAscii (b ∷ []) ascii) ∙ and_from (is_xml_char b) true char refl)

pub line_xml : IsXmlText (lf ∷ [])
line_xml = xml_one 10 (lit< tt) refl

pub section_xml : IsXmlText (codes "]]>")
section_xml =
    xml_append (93 ∷ []) (93 ∷ 62 ∷ []) (xml_one 93 (lit< tt) refl)
    (xml_append (93 ∷ []) (62 ∷ []) (xml_one 93 (lit< tt) refl) (xml_one 62 (lit< tt) refl))

-- XML characters of ASCII
abbrev pub ascii_char : ℕ → Bool
ascii_char b = nat_lt b 128 && is_xml_char b

pub xml_ascii : (bs : List ℕ) → list_all ascii_char bs ≡ true → bs ≢ [] → IsXmlText bs
xml_ascii [] all some = absurd (some refl)
xml_ascii (b ∷ []) all some =
    let p = and_parts (nat_lt b 128 && is_xml_char b) true all in
    let q = and_parts (nat_lt b 128) (is_xml_char b) p.0 in
    xml_one b (ltb-true b 128 q.0) q.1
xml_ascii (b ∷ k ∷ ks) all some =
    let p = and_parts (nat_lt b 128 && is_xml_char b) (list_all ascii_char (k ∷ ks)) all in
    let q = and_parts (nat_lt b 128) (is_xml_char b) p.0 in
    xml_append (b ∷ []) (k ∷ ks) (xml_one b (ltb-true b 128 q.0) q.1) (xml_ascii (k ∷ ks) p.1 (λ e. cc))
