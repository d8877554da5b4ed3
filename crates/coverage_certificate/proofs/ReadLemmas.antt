-- The first line of a text that isn't allowed, by the line up to which the text was read.
use Rattle.std.proofs.Common.{◌≡◌, ◌≢◌, ℕ, ◌+◌, ◌<◌, ◌≤◌, ◌^◌, true, false, List, [], ◌∷◌, ◌++◌, length, replicate, codes, inl, inr, refl, sym, ap, subst, ◌∙◌, arith, append_assoc, append-nil, length-append}
use Rattle.std.specs.Prelude.{All, None, map}
use Rattle.std.proofs.lemmas.List.{length-map, length-replicate}
use Rattle.std.proofs.lemmas.List.Elements.{All-cons, All-head, All-nil, All-replicate, All-tail}
use Rattle.chain_links.specs.Base.{IsBase, IsWord, base_text, is_label_char}
use Rattle.chain_links.specs.declared.address.Address.TheVariants.{Feed}
use Rattle.deleted_entries.specs.FeedId.{IsFeedId}
use Rattle.coverage_certificate.specs.Certificate.{AreCoverLines, CertificateValue, CoverValue, IsArchive, IsCertificate, line_limit}
use Rattle.coverage_certificate.specs.Digest.{IsDigest}
use Rattle.coverage_certificate.specs.Reading.{GoesPastEnd, HasNoLine, IsDocumentLine, IsFeedLine, IsLiveLine, IsVersionLine, LacksEnd}
use Rattle.coverage_certificate.specs.Text.{IsFirstBadLine, certificate_lines, certificate_text, document_line, end_line, feed_line, head_line, live_line, opening_lines, text_of_lines, version_line}
use Rattle.coverage_certificate.proofs.BreakLemmas.{documents_lack, end_line_lacks, feed_line_lacks, head_line_lacks, live_line_lacks, version_line_lacks}
use Rattle.coverage_certificate.proofs.LineLemmas.{Begins, Front, IsNotWhole, first_bad, front_more, front_most, front_nil, text-append, text-is}
use Rattle.coverage_certificate.proofs.SameLemmas.{made}
use Rattle.coverage_certificate.proofs.NextLemmas.{HasTail, after_documents, after_end, after_live, behind_opening, lines-are, not_documents, not_live}

-- some digest, feed and base, for a certificate that begins with the lines read
abbrev zeros : ℕ → List ℕ
zeros count = replicate count 0

zeros_are : (count : ℕ) → All (λ b. b < 256) (zeros count)
zeros_are count = All-replicate (λ b. b < 256) count 0 (omega arith)

some_digest : IsDigest (zeros 32)
some_digest = record { size = length-replicate {A = ℕ} 32 0; each = zeros_are 32 }

some_feed : IsFeedId (zeros 16)
some_feed = record { size = length-replicate {A = ℕ} 16 0; each = zeros_are 16; version = λ e. omega (arith, e) }

abbrev any_base : List ℕ
any_base = codes "http://a/"

some_base : IsBase any_base
unfolding base_text
some_base = record {
  short = omega arith;
  parts = record { labels = (97 ∷ []) ∷ []; port = None; segments = [] };
  rules = record {
    labels = (
      (λ e. let f : (97 ∷ []) ∷ [] ≡ [] = e in cc),
      All-cons (IsWord is_label_char) (97 ∷ []) [] (
        (λ e. let f : 97 ∷ [] ≡ [] = e in cc),
        All-cons (λ c. is_label_char c ≡ true) 97 [] refl
            (All-nil (λ c. is_label_char c ≡ true)),
      )
          (All-nil (IsWord is_label_char)),
    );
    port = tt;
    segments = All-nil _;
  };
  spelt = refl;
}

pub record AreParts (feed base : List ℕ) (version : ℕ) : Type 0 where
  pub is_feed : IsFeedId feed
  pub is_base : IsBase base
  pub small : version < 2 ^ 32

pub record AreCovers (lines : List CoverValue) : Type 0 where
  pub placed : AreCoverLines lines
  pub few : length lines ≤ line_limit
  pub digests : All (λ (line : CoverValue). IsDigest line.digest) lines

pub record IsLive (count : ℕ) (digest : List ℕ) : Type 0 where
  pub small : count < 2 ^ 32
  pub is_digest : IsDigest digest

pub made_is : (feed base : List ℕ) (version : ℕ) (lines : List CoverValue) (count : ℕ) (digest : List ℕ)
    → AreParts feed base version → AreCovers lines → IsLive count digest
    → IsCertificate (made feed base version lines count digest)
made_is feed base version lines count digest parts covers live = record {
  feed = parts.is_feed;
  base = parts.is_base;
  version = parts.small;
  lines = covers.placed;
  few = covers.few;
  digests = covers.digests;
  live_count = live.small;
  live_digest = live.is_digest;
}

abbrev some_covers : List CoverValue
some_covers = record { address = Feed; digest = zeros 32 } ∷ []

some_are : AreCovers some_covers
some_are = record {
  placed = (refl, All-nil _);
  few = omega arith;
  digests = All-cons (λ (line : CoverValue). IsDigest line.digest) _ [] some_digest (All-nil _);
}

some_live : IsLive 0 (zeros 32)
some_live = record { small = omega arith; is_digest = some_digest }

some_parts : AreParts (zeros 16) any_base 0
some_parts = record { is_feed = some_feed; is_base = some_base; small = omega arith }

-- the lines of a certificate with these parts
lines_made : (feed base : List ℕ) (version : ℕ) (lines : List CoverValue) (count : ℕ) (digest : List ℕ)
    → certificate_lines (made feed base version lines count digest)
    ≡ opening_lines feed base version ++ (map (document_line base) lines ++ live_line count digest ∷ end_line ∷ [])
lines_made feed base version lines count digest = lines-are (made feed base version lines count digest)

-- there are at least six lines
six_lines : (c : CertificateValue) → IsCertificate c → 6 ≤ length (certificate_lines c)
six_lines c is =
    let some : 1 ≤ length c.lines = covers_some c.lines is.lines in
    omega (
      arith,
      ap length (lines-are c),
      length-append (map (document_line c.base) c.lines) (live_line c.live_count c.live_digest ∷ end_line ∷ []),
      length-map c.lines (document_line c.base),
    )
  where
    covers_some : (lines : List CoverValue) → AreCoverLines lines → 1 ≤ length lines
    covers_some [] are = absurd are
    covers_some (line ∷ lines) are = omega arith

few_lines : (lines : List (List ℕ)) (rest : List ℕ) → length lines < 6 → IsNotWhole lines rest
few_lines lines rest few c is e = absurd (omega (arith, six_lines c is, ap length e))

pub bad_head : (text : List ℕ) → ((rest : List ℕ) → text ≢ head_line ++ 10 ∷ rest) → IsFirstBadLine text 1
bad_head text none =
    first_bad text [] text (front_nil text) (inl refl)
    (λ c is line more e after split.
    let first : head_line ∷ feed_line c.feed c.base ∷ version_line c.version ∷ _ ≡ line ∷ more = sym
    (lines-are c) ∙ e in
    let same : line ≡ head_line = cc in
    none after (split ∙ ap (λ (l : List ℕ). l ++ 10 ∷ after) same))
    (few_lines [] text (omega arith))

front_head : (text rest : List ℕ) → text ≡ head_line ++ 10 ∷ rest → Front text (head_line ∷ []) rest
front_head text rest e = front_more text [] text head_line rest (front_nil text) head_line_lacks e

pub bad_feed : (text r1 : List ℕ) → text ≡ head_line ++ 10 ∷ r1 → HasNoLine IsFeedLine r1 → IsFirstBadLine text 2
bad_feed text r1 e1 none =
    first_bad text (head_line ∷ []) r1 (front_head text r1 e1)
    (inr record {
      certificate = made (zeros 16) any_base 0 some_covers 0 (zeros 32);
      rules = made_is (zeros 16) any_base 0 some_covers 0 (zeros 32) some_parts some_are some_live;
      more = _;
      whole = lines_made (zeros 16) any_base 0 some_covers 0 (zeros 32);
    })
    (λ c is line more e after split.
    let all : head_line ∷ feed_line c.feed c.base ∷ version_line c.version ∷ _ ≡ head_line ∷ line ∷ more =
    sym (lines-are c) ∙ e in
    none line after record {
      feed = c.feed;
      base = c.base;
      is_feed = is.feed;
      is_base = is.base;
      whole = cc;
    } split)
    (few_lines (head_line ∷ []) r1 (omega arith))

front_feed : (text r1 feed base r2 : List ℕ) → text ≡ head_line ++ 10 ∷ r1 → IsFeedId feed → IsBase base
    → r1 ≡ feed_line feed base ++ 10 ∷ r2 → Front text (head_line ∷ feed_line feed base ∷ []) r2
front_feed text r1 feed base r2 e1 is_feed is_base e2 =
    front_more text (head_line ∷ []) r1 (feed_line feed base) r2 (front_head text r1 e1)
    (feed_line_lacks (feed_line feed base) record {
      feed = feed;
      base = base;
      is_feed = is_feed;
      is_base = is_base;
      whole = refl;
    })
    e2

pub bad_version : (text r1 feed base r2 : List ℕ) → text ≡ head_line ++ 10 ∷ r1 → IsFeedId feed → IsBase base
    → r1 ≡ feed_line feed base ++ 10 ∷ r2 → HasNoLine IsVersionLine r2 → IsFirstBadLine text 3
bad_version text r1 feed base r2 e1 is_feed is_base e2 none =
    first_bad text (head_line ∷ feed_line feed base ∷ []) r2 (front_feed text r1 feed base r2 e1 is_feed is_base e2)
    (inr record {
      certificate = made feed base 0 some_covers 0 (zeros 32);
      rules = made_is feed base 0 some_covers 0 (zeros 32)
          record { is_feed = is_feed; is_base = is_base; small = omega arith } some_are some_live;
      more = _;
      whole = lines_made feed base 0 some_covers 0 (zeros 32);
    })
    (λ c is line more e after split.
    let all : head_line ∷ feed_line c.feed c.base ∷ version_line c.version ∷ _
    ≡ head_line ∷ feed_line feed base ∷ line ∷ more = sym (lines-are c) ∙ e in
    none line after record { version = c.version; small = is.version; whole = cc } split)
    (few_lines (head_line ∷ feed_line feed base ∷ []) r2 (omega arith))

-- the text begins with the lines up to the documents
pub record IsOpened (text feed base : List ℕ) (version : ℕ) (rest : List ℕ) : Type 0 where
  pub parts : AreParts feed base version
  pub front : Front text (opening_lines feed base version) rest

pub opened : (text r1 feed base r2 : List ℕ) (version : ℕ) (r3 : List ℕ) → text ≡ head_line ++ 10 ∷ r1
    → IsFeedId feed → IsBase base → r1 ≡ feed_line feed base ++ 10 ∷ r2 → version < 2 ^ 32
    → r2 ≡ version_line version ++ 10 ∷ r3 → IsOpened text feed base version r3
opened text r1 feed base r2 version r3 e1 is_feed is_base e2 small e3 = record {
  parts = record { is_feed = is_feed; is_base = is_base; small = small };
  front = front_more text (head_line ∷ feed_line feed base ∷ []) r2 (version_line version) r3
      (front_feed text r1 feed base r2 e1 is_feed is_base e2)
      (version_line_lacks (version_line version) record { version = version; small = small; whole = refl }) e3;
}

first_cover : (base : List ℕ) (lines : List CoverValue) (tail : List (List ℕ)) (line : List ℕ)
    (more : List (List ℕ)) → AreCoverLines lines → All (λ (line : CoverValue). IsDigest line.digest) lines
    → map (document_line base) lines ++ tail ≡ line ∷ more → IsDocumentLine base true line
first_cover base [] tail line more are digests e = absurd are
first_cover base (cover ∷ lines) tail line more are digests e = record {
  cover = cover;
  fits = are.0;
  is_digest = All-head (λ (line : CoverValue). IsDigest line.digest) cover lines digests;
  whole = cc;
}

pub bad_document : (text feed base : List ℕ) (version : ℕ) (r3 : List ℕ) → IsOpened text feed base version r3
    → HasNoLine (IsDocumentLine base true) r3 → IsFirstBadLine text 4
bad_document text feed base version r3 o none =
    first_bad text (opening_lines feed base version) r3 o.front
    (inr record {
      certificate = made feed base version some_covers 0 (zeros 32);
      rules = made_is feed base version some_covers 0 (zeros 32) o.parts some_are some_live;
      more = _;
      whole = lines_made feed base version some_covers 0 (zeros 32);
    })
    (λ c is line more e after split.
    let t = behind_opening c feed base version (line ∷ more) e in
    none line after (first_cover base c.lines _ line more is.lines is.digests t.tail) split)
    (few_lines (opening_lines feed base version) r3 (omega arith))

-- the text after the opening begins with these documents
pub record HasDocuments (base : List ℕ) (lines : List CoverValue) (text rest : List ℕ) : Type 0 where
  pub are : AreCovers lines
  pub split : text ≡ text_of_lines (map (document_line base) lines) ++ rest

abbrev pub with_documents : List ℕ → List ℕ → ℕ → List CoverValue → List (List ℕ)
with_documents feed base version lines = opening_lines feed base version ++ map (document_line base) lines

front_documents : (text feed base : List ℕ) (version : ℕ) (lines : List CoverValue) (r3 r4 : List ℕ)
    → IsOpened text feed base version r3 → HasDocuments base lines r3 r4
    → Front text (with_documents feed base version lines) r4
front_documents text feed base version lines r3 r4 o d =
    front_most text (opening_lines feed base version) (map (document_line base) lines) r3 r4 o.front
    (documents_lack base lines o.parts.is_base d.are.placed) d.split

begins_documents : (feed base : List ℕ) (version : ℕ) (lines : List CoverValue) → AreParts feed base version
    → AreCovers lines → Begins (with_documents feed base version lines)
begins_documents feed base version lines parts are = record {
  certificate = made feed base version lines 0 (zeros 32);
  rules = made_is feed base version lines 0 (zeros 32) parts are some_live;
  more = live_line 0 (zeros 32) ∷ end_line ∷ [];
  whole = lines_made feed base version lines 0 (zeros 32);
}

-- the text after an opening and documents, in a certificate
tail_from : (c : CertificateValue) (feed base : List ℕ) (version : ℕ) (lines : List CoverValue)
    (more : List (List ℕ)) → certificate_lines c ≡ with_documents feed base version lines ++ more
    → HasTail c base (map (document_line base) lines ++ more)
tail_from c feed base version lines more e = behind_opening c feed base version
    (map (document_line base) lines ++ more) e

abbrev LaterCover : CoverValue → Type 0
LaterCover cover = IsArchive cover.address × IsDigest cover.digest

later_covers : (lines : List CoverValue) → All (λ (line : CoverValue). IsArchive line.address) lines
    → All (λ (line : CoverValue). IsDigest line.digest) lines → All LaterCover lines
later_covers [] placed digests = All-nil LaterCover
later_covers (line ∷ lines) placed digests =
    let P : CoverValue → Type 0 = λ line. IsArchive line.address in
    let Q : CoverValue → Type 0 = λ line. IsDigest line.digest in
    All-cons LaterCover line lines (All-head P line lines placed, All-head Q line lines digests)
    (later_covers lines (All-tail P line lines placed) (All-tail Q line lines digests))

no_later_line : (base : List ℕ) (covers read : List CoverValue) (count : ℕ) (digest line : List ℕ)
    (more : List (List ℕ)) (rest after : List ℕ) → AreCoverLines covers
    → All (λ (line : CoverValue). IsDigest line.digest) covers → IsLive count digest → AreCoverLines read
    → map (document_line base) covers ++ live_line count digest ∷ end_line ∷ []
    ≡ map (document_line base) read ++ line ∷ more
    → HasNoLine (IsDocumentLine base false) rest → HasNoLine IsLiveLine rest → rest ≡ line ++ 10 ∷ after → ⊥
no_later_line base [] read count digest line more rest after are digests live placed e none none_live split =
    absurd are
no_later_line base (c ∷ covers) [] count digest line more rest after are digests live placed e none none_live split =
    absurd placed
no_later_line base (c ∷ covers) (r ∷ read) count digest line more rest after are digests live placed e none
    none_live split =
    let Q : CoverValue → Type 0 = λ line. IsDigest line.digest in
    let tails : map (document_line base) covers ++ live_line count digest ∷ end_line ∷ []
    ≡ map (document_line base) read ++ line ∷ more = cc in
    elim (after_documents LaterCover base covers read count digest line more
    (later_covers covers are.1 (All-tail Q c covers digests)) tails) [
      | inl d ↦ none line after record { cover = d.0; fits = d.1.0; is_digest = d.1.1; whole = d.2 } split
      | inr l ↦ none_live line after record {
        count = count;
        digest = digest;
        small = live.small;
        is_digest = live.is_digest;
        whole = l;
      } split
    ]

live_of : (c : CertificateValue) → IsCertificate c → IsLive c.live_count c.live_digest
live_of c is = record { small = is.live_count; is_digest = is.live_digest }

length-with_documents : (feed base : List ℕ) (version : ℕ) (lines : List CoverValue)
    → length (with_documents feed base version lines) ≡ 3 + length lines
length-with_documents feed base version lines =
    omega (
      arith,
      length-append (opening_lines feed base version) (map (document_line base) lines),
      length-map lines (document_line base),
    )

pub bad_live : (text feed base : List ℕ) (version : ℕ) (lines : List CoverValue) (r3 r4 : List ℕ)
    → IsOpened text feed base version r3 → HasDocuments base lines r3 r4
    → HasNoLine (IsDocumentLine base false) r4 → HasNoLine IsLiveLine r4
    → IsFirstBadLine text (4 + length lines)
bad_live text feed base version lines r3 r4 o d none none_live =
    subst (IsFirstBadLine text) (omega (arith, length-with_documents feed base version lines))
    (first_bad text (with_documents feed base version lines) r4
    (front_documents text feed base version lines r3 r4 o d)
    (inr (begins_documents feed base version lines o.parts d.are))
    (λ c is line more e after split.
    let t = tail_from c feed base version lines (line ∷ more) e in
    no_later_line base c.lines lines c.live_count c.live_digest line more r4 after is.lines is.digests
    (live_of c is) d.are.placed t.tail none none_live split)
    (λ c is e whole.
    let t = behind_opening c feed base version (map (document_line base) lines) e in
    not_documents base c.lines lines c.live_count c.live_digest t.tail))

abbrev with_live : List ℕ → List ℕ → ℕ → List CoverValue → ℕ → List ℕ → List (List ℕ)
with_live feed base version lines count digest =
    with_documents feed base version lines ++ live_line count digest ∷ []

front_live : (text feed base : List ℕ) (version : ℕ) (lines : List CoverValue) (r3 r4 : List ℕ) (count : ℕ)
    (digest r5 : List ℕ) → IsOpened text feed base version r3 → HasDocuments base lines r3 r4
    → IsLive count digest → r4 ≡ live_line count digest ++ 10 ∷ r5
    → Front text (with_live feed base version lines count digest) r5
front_live text feed base version lines r3 r4 count digest r5 o d live e =
    front_more text (with_documents feed base version lines) r4 (live_line count digest) r5
    (front_documents text feed base version lines r3 r4 o d)
    (live_line_lacks (live_line count digest) record {
      count = count;
      digest = digest;
      small = live.small;
      is_digest = live.is_digest;
      whole = refl;
    })
    e

begins_live : (feed base : List ℕ) (version : ℕ) (lines : List CoverValue) (count : ℕ) (digest : List ℕ)
    → AreParts feed base version → AreCovers lines → IsLive count digest
    → Begins (with_live feed base version lines count digest)
begins_live feed base version lines count digest parts are live = record {
  certificate = made feed base version lines count digest;
  rules = made_is feed base version lines count digest parts are live;
  more = end_line ∷ [];
  whole =
      lines_made feed base version lines count digest
      ∙ ap (λ (ls : List (List ℕ)). opening_lines feed base version ++ ls)
      (sym (append_assoc (map (document_line base) lines) (live_line count digest ∷ []) (end_line ∷ [])));
}

pub bad_end : (text feed base : List ℕ) (version : ℕ) (lines : List CoverValue) (r3 r4 : List ℕ)
    → IsOpened text feed base version r3 → HasDocuments base lines r3 r4 → LacksEnd r4
    → IsFirstBadLine text (5 + length lines)
bad_end text feed base version lines r3 r4 o d l =
    let live : IsLive l.count l.digest = record { small = l.small; is_digest = l.is_digest } in
    subst (IsFirstBadLine text)
    (omega (
      arith,
      length-with_documents feed base version lines,
      length-append (with_documents feed base version lines) (live_line l.count l.digest ∷ []),
    ))
    (first_bad text (with_live feed base version lines l.count l.digest) l.rest
    (front_live text feed base version lines r3 r4 l.count l.digest l.rest o d live l.split)
    (inr (begins_live feed base version lines l.count l.digest o.parts d.are live))
    (λ c is line more e after split.
    let t = tail_from c feed base version lines (live_line l.count l.digest ∷ line ∷ more)
    (e ∙ append_assoc (with_documents feed base version lines) (live_line l.count l.digest ∷ []) (line ∷ more)) in
    let same = after_live base c.lines lines c.live_count c.live_digest l.count l.digest line more t.tail in
    l.no_end after (split ∙ ap (λ (x : List ℕ). x ++ 10 ∷ after) same))
    (λ c is e whole.
    let t = tail_from c feed base version lines (live_line l.count l.digest ∷ []) e in
    not_live base c.lines lines c.live_count c.live_digest l.count l.digest t.tail))

pub bad_more : (text feed base : List ℕ) (version : ℕ) (lines : List CoverValue) (r3 r4 : List ℕ)
    → IsOpened text feed base version r3 → HasDocuments base lines r3 r4 → GoesPastEnd r4
    → IsFirstBadLine text (6 + length lines)
unfolding begins_live
bad_more text feed base version lines r3 r4 o d p =
    let live : IsLive p.count p.digest = record { small = p.small; is_digest = p.is_digest } in
    let front = front_live text feed base version lines r3 r4 p.count p.digest (end_line ++ 10 ∷ p.rest) o d live
    p.split in
    let lived = with_live feed base version lines p.count p.digest in
    subst (IsFirstBadLine text)
    (omega (
      arith,
      length-with_documents feed base version lines,
      length-append (with_documents feed base version lines) (live_line p.count p.digest ∷ []),
      length-append (with_live feed base version lines p.count p.digest) (end_line ∷ []),
    ))
    (first_bad text (lived ++ end_line ∷ []) p.rest
    (front_more text lived (end_line ++ 10 ∷ p.rest) end_line p.rest front end_line_lacks refl)
    (inr record {
      certificate = made feed base version lines p.count p.digest;
      rules = made_is feed base version lines p.count p.digest o.parts d.are live;
      more = [];
      whole =
          (begins_live feed base version lines p.count p.digest o.parts d.are live).whole
          ∙ sym (append-nil (lived ++ end_line ∷ []));
    })
    (λ c is line more e after split.
    let t = tail_from c feed base version lines (live_line p.count p.digest ∷ end_line ∷ line ∷ more)
    (e ∙ append_assoc lived (end_line ∷ []) (line ∷ more)
    ∙ append_assoc (with_documents feed base version lines) (live_line p.count p.digest ∷ [])
    (end_line ∷ line ∷ more)) in
    after_end base c.lines lines c.live_count c.live_digest p.count p.digest line more t.tail)
    (λ c is e whole. p.more whole))

-- all lines were read
pub whole_text : (text feed base : List ℕ) (version : ℕ) (lines : List CoverValue) (count : ℕ)
    (digest r3 r4 : List ℕ) → IsOpened text feed base version r3 → HasDocuments base lines r3 r4
    → r4 ≡ text_of_lines (live_line count digest ∷ end_line ∷ [])
    → certificate_text (made feed base version lines count digest) ≡ text
whole_text text feed base version lines count digest r3 r4 o d e =
    let front = front_documents text feed base version lines r3 r4 o d in
    let ending = live_line count digest ∷ end_line ∷ [] in
    text-is (made feed base version lines count digest)
    ∙ ap text_of_lines (lines_made feed base version lines count digest
    ∙ sym (append_assoc (opening_lines feed base version) (map (document_line base) lines) ending))
    ∙ text-append (with_documents feed base version lines) ending
    ∙ ap (λ (x : List ℕ). text_of_lines (with_documents feed base version lines) ++ x) (sym e) ∙ sym front.split
