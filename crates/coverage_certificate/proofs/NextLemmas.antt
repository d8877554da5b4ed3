-- The line that may come next in a certificate, after its first lines.
use Rattle.std.proofs.Common.{◌≡◌, ◌≢◌, ◌⊎◌, ℕ, List, [], ◌∷◌, ◌++◌, length, get_or, codes, inl, inr, refl, sym, ap, ◌∙◌, arith}
use Rattle.std.specs.Prelude.{All, map}
use Rattle.std.proofs.lemmas.List.{append_cancel_left}
use Rattle.std.proofs.lemmas.List.Elements.{All-head, All-tail}
use Rattle.deleted_entries.specs.FeedId.{feed_text}
use Rattle.deleted_entries.proofs.IdLemmas.{length-by_index}
use Rattle.doc_source.proofs.CutLemmas.{same_fronts}
use Rattle.coverage_certificate.specs.Certificate.{CertificateValue, CoverValue}
use Rattle.coverage_certificate.specs.Text.{certificate_lines, document_line, end_line, feed_line, head_line, live_line, opening_lines, version_line}

pub length-feed_text : (id : List ℕ) → length (feed_text id) ≡ 36
length-feed_text id = length-by_index 36 _

-- the lines that name the feed are the same for the same feed and base alone
pub feed_line_parts : (feed base feed' base' : List ℕ) → feed_line feed base ≡ feed_line feed' base'
    → (feed_text feed ≡ feed_text feed') × (base ≡ base')
feed_line_parts feed base feed' base' e =
    let behind = append_cancel_left (codes "feed ") (feed_text feed ++ 32 ∷ base) (feed_text feed' ++ 32 ∷ base') e in
    let parts = same_fronts (feed_text feed) (32 ∷ base) (feed_text feed') (32 ∷ base')
    (length-feed_text feed ∙ sym (length-feed_text feed')) behind in
    let rest : 32 ∷ base ≡ 32 ∷ base' = parts.1 in
    (parts.0, cc)

-- a document's line isn't the line of the live entries
pub other_line : (base : List ℕ) (cover : CoverValue) (count : ℕ) (digest : List ℕ)
    → live_line count digest ≢ document_line base cover
other_line base cover count digest e = omega (arith, ap (λ (l : List ℕ). get_or l 0 0) e)

-- the lines from the documents on
abbrev pub tail_of : CertificateValue → List (List ℕ)
tail_of c = map (document_line c.base) c.lines ++ live_line c.live_count c.live_digest ∷ end_line ∷ []

pub lines-are : (c : CertificateValue) → certificate_lines c
    ≡ head_line ∷ feed_line c.feed c.base ∷ version_line c.version ∷ tail_of c
unfolding certificate_lines
lines-are c = refl

-- a certificate with this opening has this base, and its other lines come next
pub record HasTail (c : CertificateValue) (base : List ℕ) (more : List (List ℕ)) : Type 0 where
  pub base_is : c.base ≡ base
  pub tail : map (document_line base) c.lines ++ live_line c.live_count c.live_digest ∷ end_line ∷ [] ≡ more

pub behind_opening : (c : CertificateValue) (feed base : List ℕ) (version : ℕ) (more : List (List ℕ))
    → certificate_lines c ≡ opening_lines feed base version ++ more → HasTail c base more
behind_opening c feed base version more e =
    let whole : head_line ∷ feed_line c.feed c.base ∷ version_line c.version ∷ tail_of c
    ≡ head_line ∷ feed_line feed base ∷ version_line version ∷ more = sym (lines-are c) ∙ e in
    let named : feed_line c.feed c.base ≡ feed_line feed base = cc in
    let tails : tail_of c ≡ more = cc in
    let same = (feed_line_parts c.feed c.base feed base named).1 in
    record {
      base_is = same;
      tail =
          ap (λ (b : List ℕ). map (document_line b) c.lines
          ++ live_line c.live_count c.live_digest ∷ end_line ∷ []) (sym same) ∙ tails;
    }

-- a document's line that passes, or the line of the live entries
abbrev pub IsAfter : (CoverValue → Type 0) → List ℕ → ℕ → List ℕ → List ℕ → Type 0
IsAfter P base count digest line =
    ((cover : CoverValue) × P cover × (line ≡ document_line base cover)) ⊎ (line ≡ live_line count digest)

-- after some documents comes another one, or the line of the live entries
pub after_documents : (P : CoverValue → Type 0) (base : List ℕ) (covers read : List CoverValue) (count : ℕ)
    (digest line : List ℕ) (more : List (List ℕ)) → All P covers
    → map (document_line base) covers ++ live_line count digest ∷ end_line ∷ []
    ≡ map (document_line base) read ++ line ∷ more → IsAfter P base count digest line
after_documents P base [] [] count digest line more all e = inr (cc)
after_documents P base [] (r ∷ read) count digest line more all e =
    absurd (other_line base r count digest (cc))
after_documents P base (c ∷ covers) [] count digest line more all e =
    inl (c, All-head P c covers all, cc)
after_documents P base (c ∷ covers) (r ∷ read) count digest line more all e =
    let tails : map (document_line base) covers ++ live_line count digest ∷ end_line ∷ []
    ≡ map (document_line base) read ++ line ∷ more = cc in
    after_documents P base covers read count digest line more (All-tail P c covers all) tails

-- after the documents and the line of the live entries comes the last line
pub after_live : (base : List ℕ) (covers read : List CoverValue) (count : ℕ) (digest : List ℕ) (count' : ℕ)
    (digest' line : List ℕ) (more : List (List ℕ))
    → map (document_line base) covers ++ live_line count digest ∷ end_line ∷ []
    ≡ map (document_line base) read ++ live_line count' digest' ∷ line ∷ more → line ≡ end_line
after_live base [] [] count digest count' digest' line more e = cc
after_live base [] (r ∷ read) count digest count' digest' line more e =
    absurd (other_line base r count digest (cc))
after_live base (c ∷ covers) [] count digest count' digest' line more e =
    absurd (other_line base c count' digest' (cc))
after_live base (c ∷ covers) (r ∷ read) count digest count' digest' line more e =
    let tails : map (document_line base) covers ++ live_line count digest ∷ end_line ∷ []
    ≡ map (document_line base) read ++ live_line count' digest' ∷ line ∷ more = cc in
    after_live base covers read count digest count' digest' line more tails

-- and nothing after that
pub after_end : (base : List ℕ) (covers read : List CoverValue) (count : ℕ) (digest : List ℕ) (count' : ℕ)
    (digest' line : List ℕ) (more : List (List ℕ))
    → map (document_line base) covers ++ live_line count digest ∷ end_line ∷ []
    ≢ map (document_line base) read ++ live_line count' digest' ∷ end_line ∷ line ∷ more
after_end base [] [] count digest count' digest' line more e = cc
after_end base [] (r ∷ read) count digest count' digest' line more e = other_line base r count digest (cc)
after_end base (c ∷ covers) [] count digest count' digest' line more e = other_line base c count' digest' (cc)
after_end base (c ∷ covers) (r ∷ read) count digest count' digest' line more e =
    let tails : map (document_line base) covers ++ live_line count digest ∷ end_line ∷ []
    ≡ map (document_line base) read ++ live_line count' digest' ∷ end_line ∷ line ∷ more = cc in
    after_end base covers read count digest count' digest' line more tails

-- documents alone end no certificate, and neither does the line of the live entries
pub not_documents : (base : List ℕ) (covers read : List CoverValue) (count : ℕ) (digest : List ℕ)
    → map (document_line base) covers ++ live_line count digest ∷ end_line ∷ [] ≢ map (document_line base) read
not_documents base [] [] count digest e = cc
not_documents base [] (r ∷ read) count digest e = other_line base r count digest (cc)
not_documents base (c ∷ covers) [] count digest e = cc
not_documents base (c ∷ covers) (r ∷ read) count digest e =
    let tails : map (document_line base) covers ++ live_line count digest ∷ end_line ∷ []
    ≡ map (document_line base) read = cc in
    not_documents base covers read count digest tails

pub not_live : (base : List ℕ) (covers read : List CoverValue) (count : ℕ) (digest : List ℕ) (count' : ℕ)
    (digest' : List ℕ) → map (document_line base) covers ++ live_line count digest ∷ end_line ∷ []
    ≢ map (document_line base) read ++ live_line count' digest' ∷ []
not_live base [] [] count digest count' digest' e = cc
not_live base [] (r ∷ read) count digest count' digest' e = other_line base r count digest (cc)
not_live base (c ∷ covers) [] count digest count' digest' e = other_line base c count' digest' (cc)
not_live base (c ∷ covers) (r ∷ read) count digest count' digest' e =
    let tails : map (document_line base) covers ++ live_line count digest ∷ end_line ∷ []
    ≡ map (document_line base) read ++ live_line count' digest' ∷ [] = cc in
    not_live base covers read count digest count' digest' tails
