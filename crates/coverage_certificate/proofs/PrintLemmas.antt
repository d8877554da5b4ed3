-- The parts of a certificate's text that are written one after another.
use Rattle.std.proofs.Common.{◌≡◌, ℕ, ◌+◌, ◌<◌, List, [], ◌∷◌, ◌++◌, length, take, drop, get_or, refl, sym, ap, ◌∙◌, append-nil, append_assoc}
use Rattle.std.specs.Prelude.{map}
use Rattle.std.proofs.lemmas.List.{drop_more, map-append, take-append-drop, take_more}
use Rattle.doc_source.specs.Outside.{SinkState, TakesPrefix}
use Rattle.doc_source.proofs.WriteLemmas.{takes_more, took_more}
use Rattle.coverage_certificate.specs.Certificate.{CertificateValue, CoverValue}
use Rattle.coverage_certificate.specs.Text.{certificate_lines, certificate_text, document_line, ending_lines, opening_lines, text_of_lines}
use Rattle.coverage_certificate.proofs.LineLemmas.{text-append, text-is}

abbrev pub opening_text : CertificateValue → List ℕ
opening_text c = text_of_lines (opening_lines c.feed c.base c.version)

abbrev pub documents_text : List ℕ → List CoverValue → List ℕ
documents_text base lines = text_of_lines (map (document_line base) lines)

abbrev pub ending_text : CertificateValue → List ℕ
ending_text c = text_of_lines (ending_lines c.live_count c.live_digest)

lines-are : (c : CertificateValue) → certificate_lines c ≡ opening_lines c.feed c.base c.version
    ++ (map (document_line c.base) c.lines ++ ending_lines c.live_count c.live_digest)
unfolding certificate_lines
lines-are c = refl

pub text_parts : (c : CertificateValue) → certificate_text c
    ≡ opening_text c ++ (documents_text c.base c.lines ++ ending_text c)
text_parts c =
    text-is c ∙ ap text_of_lines (lines-are c)
    ∙ text-append (opening_lines c.feed c.base c.version)
    (map (document_line c.base) c.lines ++ ending_lines c.live_count c.live_digest)
    ∙ ap (λ (t : List ℕ). opening_text c ++ t)
    (text-append (map (document_line c.base) c.lines) (ending_lines c.live_count c.live_digest))

-- the text of the documents up to an index, and that of the one there
pub documents_more : (base : List ℕ) (lines : List CoverValue) (i : ℕ) (line : CoverValue) → i < length lines
    → get_or lines i line ≡ line
    → documents_text base (take i lines) ++ (document_line base line ++ 10 ∷ [])
    ≡ documents_text base (take (i + 1) lines)
documents_more base lines i line within at =
    ap (λ (t : List ℕ). documents_text base (take i lines) ++ t)
    (sym (append-nil (document_line base line ++ 10 ∷ [])))
    ∙ sym (text-append (map (document_line base) (take i lines)) (document_line base line ∷ []))
    ∙ ap text_of_lines (sym (map-append (document_line base) (take i lines) (line ∷ [])))
    ∙ ap (documents_text base) (ap (λ (l : CoverValue). take i lines ++ l ∷ []) (sym at)
    ∙ sym (take_more lines i line within))

-- the text of the documents is that up to an index, that of the one there, and the rest
pub documents_split : (base : List ℕ) (lines : List CoverValue) (i : ℕ) (line : CoverValue) → i < length lines
    → get_or lines i line ≡ line
    → documents_text base lines ≡ documents_text base (take i lines)
    ++ ((document_line base line ++ 10 ∷ []) ++ documents_text base (drop (i + 1) lines))
documents_split base lines i line within at =
    ap (documents_text base) (sym (take-append-drop i lines)
    ∙ ap (λ (ls : List CoverValue). take i lines ++ ls) (drop_more lines i line within
    ∙ ap (λ (l : CoverValue). l ∷ drop (i + 1) lines) at))
    ∙ ap text_of_lines (map-append (document_line base) (take i lines) (line ∷ drop (i + 1) lines))
    ∙ text-append (map (document_line base) (take i lines))
    (map (document_line base) (line ∷ drop (i + 1) lines))

-- the opening is written
pub print_first : (before mid : SinkState) (c : CertificateValue) (made : List ℕ) → made ≡ opening_text c
    → TakesPrefix before mid made → TakesPrefix before mid (certificate_text c)
print_first before mid c made is prefix =
    takes_more before before mid [] made (documents_text c.base c.lines ++ ending_text c) (certificate_text c)
    (text_parts c ∙ ap (λ (t : List ℕ). t ++ (documents_text c.base c.lines ++ ending_text c)) (sym is))
    (sym (append-nil before.taken)) prefix

-- after it the documents are written
pub print_second : (before mid after : SinkState) (c : CertificateValue) (made : List ℕ) → made ≡ opening_text c
    → mid.taken ≡ before.taken ++ made → TakesPrefix mid after (documents_text c.base c.lines)
    → TakesPrefix before after (certificate_text c)
print_second before mid after c made is taken prefix =
    takes_more before mid after (opening_text c) (documents_text c.base c.lines) (ending_text c) (certificate_text c)
    (text_parts c) (taken ∙ ap (λ (t : List ℕ). before.taken ++ t) is) prefix

-- the opening and the documents are written
pub print_both : (before mid after : SinkState) (c : CertificateValue) (made : List ℕ) → made ≡ opening_text c
    → mid.taken ≡ before.taken ++ made → after.taken ≡ mid.taken ++ documents_text c.base c.lines
    → after.taken ≡ before.taken ++ (opening_text c ++ documents_text c.base c.lines)
print_both before mid after c made is taken next =
    took_more before mid after (opening_text c) (documents_text c.base c.lines)
    (taken ∙ ap (λ (t : List ℕ). before.taken ++ t) is) next

-- after them the ending is written
pub print_third : (before after last : SinkState) (c : CertificateValue) (made : List ℕ) → made ≡ ending_text c
    → after.taken ≡ before.taken ++ (opening_text c ++ documents_text c.base c.lines) → TakesPrefix after last made
    → TakesPrefix before last (certificate_text c)
print_third before after last c made is taken prefix =
    takes_more before after last (opening_text c ++ documents_text c.base c.lines) made [] (certificate_text c)
    (text_parts c ∙ sym (append_assoc (opening_text c) (documents_text c.base c.lines) (ending_text c))
    ∙ ap (λ (t : List ℕ). (opening_text c ++ documents_text c.base c.lines) ++ t) (sym is ∙ sym (append-nil made)))
    taken prefix

-- all is written
pub print_whole : (before after last : SinkState) (c : CertificateValue) (made : List ℕ) → made ≡ ending_text c
    → after.taken ≡ before.taken ++ (opening_text c ++ documents_text c.base c.lines)
    → last.taken ≡ after.taken ++ made → last.taken ≡ before.taken ++ certificate_text c
print_whole before after last c made is taken next =
    next ∙ ap (λ (t : List ℕ). t ++ made) taken
    ∙ append_assoc before.taken (opening_text c ++ documents_text c.base c.lines) made
    ∙ ap (λ (t : List ℕ). before.taken ++ t)
    (ap (λ (t : List ℕ). (opening_text c ++ documents_text c.base c.lines) ++ t) is
    ∙ append_assoc (opening_text c) (documents_text c.base c.lines) (ending_text c) ∙ sym (text_parts c))
