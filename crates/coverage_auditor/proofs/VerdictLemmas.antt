-- The verdict on the documents of all lines, by the checks in turn; and what it means to be accepted.
use Rattle.std.proofs.Common.{◌≡◌, ◌⊎◌, inl, inr, ℕ, ◌+◌, Bool, true, false, not, cond, List, [], ◌∷◌, ◌++◌, length, Option}
use Rattle.std.proofs.Common.{Some, None, refl, sym, ap, subst, ◌∙◌, arith}
use Rattle.std.specs.Prelude.{find, option_map, slice_get, unwrap_or, ◌==◌, ◌&&◌, if◌then◌else◌}
use Rattle.std.specs.Str.{bytes_eq}
use Rattle.std.proofs.lemmas.Bool.{and_from, and_parts, cases_Bool, eq-eqb, eqb-true, false≢true}
use Rattle.std.proofs.lemmas.List.{length-append}
use Rattle.std.proofs.lemmas.Option.{same_Some}
use Rattle.std.proofs.lemmas.Slice.Eq.{bytes_eq-Decides}
use Rattle.atom_writer.specs.Doc.{DocValue}
use Rattle.atom_writer.specs.Pieces.{own_address}
use Rattle.coverage_certificate.specs.Certificate.{CertificateValue}
use Rattle.doc_source.specs.declared.offer.Offer.{Offer}
use Rattle.member_rules.specs.Chain.{IsChain}
use Rattle.member_rules.specs.Shows.{live_count_of}
use Rattle.coverage_auditor.specs.Finding.{RefusesLine}
use Rattle.coverage_auditor.specs.Links.{Link, accepted, broken_chain, digest_by, first_of, is_broken, is_followed}
use Rattle.coverage_auditor.specs.Links.{links_of, live_differs, live_differs_from, not_the_first, oldest_of}
use Rattle.coverage_auditor.specs.Links.{unless_same, verdict_on, version_differs}
use Rattle.coverage_auditor.specs.Verdict.{AreDocuments, Covers, IsDecidedOn, IsRefusedAtLine, IsVerdict}
use Rattle.coverage_auditor.specs.declared.verdict.Verdict.{Verdict}
use Rattle.coverage_auditor.specs.declared.verdict.Verdict.TheVariants.{Accepted, BrokenChain, LiveDiffers}
use Rattle.coverage_auditor.specs.declared.verdict.Verdict.TheVariants.{NotTheFirst, VersionDiffers}
use Rattle.coverage_auditor.proofs.LinksLemmas.{adjoins-followed, followed-adjoins, oldest-at, unless-same}
use Rattle.coverage_auditor.proofs.ListLemmas.{slice_get-last}

module _ (c : CertificateValue) (newest : DocValue) (others : List DocValue) where
  abbrev first_that_fits : Option Verdict → Option Verdict → Option Verdict → Option Verdict → Verdict
  first_that_fits version links first live = unwrap_or (first_of (version ∷ links ∷ first ∷ live ∷ [])) (accepted c)

  pub by-version : (v : Verdict) → version_differs c newest ≡ Some v → v ≡ verdict_on c newest others
  unfolding verdict_on
  by-version v e = sym (ap (λ o. first_that_fits o (broken_chain (newest ∷ others))
      (not_the_first (oldest_of newest others)) (live_differs c newest (newest ∷ others))) e)

  pub by-links : (v : Verdict) → version_differs c newest ≡ None → broken_chain (newest ∷ others) ≡ Some v
      → v ≡ verdict_on c newest others
  unfolding verdict_on
  by-links v e f = sym (λ i. first_that_fits (e i) (f i)
      (not_the_first (oldest_of newest others)) (live_differs c newest (newest ∷ others)))

  pub by-first : (v : Verdict) → version_differs c newest ≡ None → broken_chain (newest ∷ others) ≡ None
      → not_the_first (oldest_of newest others) ≡ Some v → v ≡ verdict_on c newest others
  unfolding verdict_on
  by-first v e f g = sym (λ i. first_that_fits (e i) (f i) (g i) (live_differs c newest (newest ∷ others)))

  pub by-live : (v : Verdict) → version_differs c newest ≡ None → broken_chain (newest ∷ others) ≡ None
      → not_the_first (oldest_of newest others) ≡ None → live_differs c newest (newest ∷ others) ≡ Some v
      → v ≡ verdict_on c newest others
  unfolding verdict_on
  by-live v e f g h = sym (λ i. first_that_fits (e i) (f i) (g i) (h i))

  pub by-none : version_differs c newest ≡ None → broken_chain (newest ∷ others) ≡ None
      → not_the_first (oldest_of newest others) ≡ None → live_differs c newest (newest ∷ others) ≡ None
      → accepted c ≡ verdict_on c newest others
  unfolding verdict_on
  by-none e f g h = sym (λ i. first_that_fits (e i) (f i) (g i) (h i))

-- no check refuses what is accepted

all-none : (a : Verdict) (version links first live : Option Verdict)
    → ((v : Verdict) → version ≡ Some v → v ≡ a → ⊥) → ((v : Verdict) → links ≡ Some v → v ≡ a → ⊥)
    → ((v : Verdict) → first ≡ Some v → v ≡ a → ⊥) → ((v : Verdict) → live ≡ Some v → v ≡ a → ⊥)
    → unwrap_or (first_of (version ∷ links ∷ first ∷ live ∷ [])) a ≡ a
    → (version ≡ None) × (links ≡ None) × (first ≡ None) × (live ≡ None)
all-none a (Some v) links first live p q r s e = absurd (p v refl e)
all-none a None (Some v) first live p q r s e = absurd (q v refl e)
all-none a None None (Some v) live p q r s e = absurd (r v refl e)
all-none a None None None (Some v) p q r s e = absurd (s v refl e)
all-none a None None None None p q r s e = (refl, refl, refl, refl)

unless-refuses : (found wanted : ℕ) (verdict v : Verdict) → unless_same found wanted verdict ≡ Some v → v ≡ verdict
unless-refuses found wanted verdict v = go (found == wanted)
  where
    go : (b : Bool) → (if b then None else Some verdict) ≡ Some v → v ≡ verdict
    go true e = absurd (none e)
      where
        none : None ≡ Some v → ⊥
        none e = cc
    go false e = sym (same_Some verdict v e)

unless-passes : (found wanted : ℕ) (verdict : Verdict) → unless_same found wanted verdict ≡ None → found ≡ wanted
unless-passes found wanted verdict = go (found == wanted) refl
  where
    go : (b : Bool) → (found == wanted) ≡ b → (if b then None else Some verdict) ≡ None → found ≡ wanted
    go true is e = eqb-true found wanted is
    go false is e = absurd (none e)
      where
        none : Some verdict ≡ None → ⊥
        none e = cc

live-passes : (c : CertificateValue) (count : ℕ) (digest : List ℕ) → live_differs_from c count digest ≡ None
    → (count ≡ c.live_count) × (digest ≡ c.live_digest)
live-passes c count digest = go ((count == c.live_count) && bytes_eq digest c.live_digest) refl
  where
    go : (b : Bool) → ((count == c.live_count) && bytes_eq digest c.live_digest) ≡ b
        → (if b then None else Some (LiveDiffers count digest)) ≡ None
        → (count ≡ c.live_count) × (digest ≡ c.live_digest)
    go true is e =
        let parts = and_parts (count == c.live_count) (bytes_eq digest c.live_digest) is in
        (eqb-true count c.live_count parts.0, (bytes_eq-Decides digest c.live_digest).0 parts.1)
    go false is e = absurd (none e)
      where
        none : Some (LiveDiffers count digest) ≡ None → ⊥
        none e = cc

pub live-same : (c : CertificateValue) (count : ℕ) (digest : List ℕ) → count ≡ c.live_count
    → digest ≡ c.live_digest → live_differs_from c count digest ≡ None
live-same c count digest e f =
    ap (λ b. cond b None (Some (LiveDiffers count digest)))
    (and_from (count == c.live_count) (bytes_eq digest c.live_digest) (eq-eqb count c.live_count e)
    ((bytes_eq-Decides digest c.live_digest).1 f))

live-refuses : (c : CertificateValue) (count : ℕ) (digest : List ℕ) (v : Verdict)
    → live_differs_from c count digest ≡ Some v → v ≡ LiveDiffers count digest
live-refuses c count digest v = go ((count == c.live_count) && bytes_eq digest c.live_digest)
  where
    go : (b : Bool) → (if b then None else Some (LiveDiffers count digest)) ≡ Some v → v ≡ LiveDiffers count digest
    go true e = absurd (none e)
      where
        none : None ≡ Some v → ⊥
        none e = cc
    go false e = sym (same_Some (LiveDiffers count digest) v e)

chain-refuses : (found : Option Link) (v : Verdict)
    → option_map (λ (link : Link). BrokenChain (own_address link.older.kind)) found ≡ Some v
    → (link : Link) × (v ≡ BrokenChain (own_address link.older.kind))
chain-refuses None v e = absurd (none e)
  where
    none : None ≡ Some v → ⊥
    none e = cc
chain-refuses (Some link) v e = (link, sym (same_Some (BrokenChain (own_address link.older.kind)) v e))

chain-passes : (found : Option Link)
    → option_map (λ (link : Link). BrokenChain (own_address link.older.kind)) found ≡ None → found ≡ None
chain-passes None e = refl
chain-passes (Some link) e = absurd (none e)
  where
    none : Some (BrokenChain (own_address link.older.kind)) ≡ None → ⊥
    none e = cc

-- the links of a chain

cond-none : (b : Bool) (link : Link) (rest : Option Link) → cond b (Some link) rest ≡ None
    → (b ≡ false) × (rest ≡ None)
cond-none true link rest e = absurd (none e)
  where
    none : Some link ≡ None → ⊥
    none e = cc
cond-none false link rest e = (refl, e)

not-false : (b : Bool) → not b ≡ false → b ≡ true
not-false true e = refl
not-false false e = absurd (false≢true (sym e))

none-followed : (before after : List DocValue) (newer older : DocValue)
    → find is_broken (links_of (before ++ newer ∷ older ∷ after)) ≡ None → is_followed newer older ≡ true
none-followed [] after newer older e =
    not-false (is_followed newer older)
    (cond-none (not (is_followed newer older)) (record { newer = newer; older = older })
    (find is_broken (links_of (older ∷ after))) e).0
none-followed (x ∷ []) after newer older e =
    none-followed [] after newer older
    (cond-none (not (is_followed x newer)) (record { newer = x; older = newer })
    (find is_broken (links_of (newer ∷ older ∷ after))) e).1
none-followed (x ∷ y ∷ more) after newer older e =
    none-followed (y ∷ more) after newer older
    (cond-none (not (is_followed x y)) (record { newer = x; older = y })
    (find is_broken (links_of (y ∷ more ++ newer ∷ older ∷ after))) e).1

chain-none : (documents : List DocValue)
    → ((before after : List DocValue) (newer older : DocValue) → documents ≡ before ++ newer ∷ older ∷ after
    → is_followed newer older ≡ true)
    → find is_broken (links_of documents) ≡ None
chain-none [] h = refl
chain-none (only ∷ []) h = refl
chain-none (newer ∷ older ∷ more) h =
    ap (λ b. cond (not b) (Some record { newer = newer; older = older }) (find is_broken (links_of (older ∷ more))))
    (h [] more newer older refl)
    ∙ chain-none (older ∷ more) (λ before after a b e. h (newer ∷ before) after a b (ap (λ ds. newer ∷ ds) e))

oldest-is : (newest : DocValue) (others before : List DocValue) (oldest : DocValue)
    → newest ∷ others ≡ before ++ oldest ∷ [] → oldest_of newest others ≡ oldest
oldest-is newest others before oldest e =
    let size : length others ≡ length before =
    let both = ap (λ (ds : List DocValue). length ds) e ∙ length-append before (oldest ∷ []) in omega (arith, both) in
    let there = sym (oldest-at newest others) ∙ ap (slice_get (newest ∷ others)) size
    ∙ ap (λ (ds : List DocValue). slice_get ds (length before)) e ∙ slice_get-last before oldest in
    same_Some (oldest_of newest others) oldest there

oldest-split : (newest : DocValue) (others : List DocValue)
    → (before : List DocValue) × (newest ∷ others ≡ before ++ oldest_of newest others ∷ [])
oldest-split newest [] = ([], refl)
oldest-split newest (older ∷ more) =
    let rest = oldest-split older more in
    (newest ∷ rest.0, ap (λ (ds : List DocValue). newest ∷ ds) rest.1)

pub chain-from : (newest : DocValue) (others : List DocValue) → broken_chain (newest ∷ others) ≡ None
    → (oldest_of newest others).span.first ≡ 1 → IsChain (newest ∷ others)
unfolding broken_chain
chain-from newest others none first = record {
  adjoined = λ before after newer older e. followed-adjoins newer older
      (none-followed before after newer older
      (ap (λ (ds : List DocValue). find is_broken (links_of ds)) (sym e)
      ∙ chain-passes (find is_broken (links_of (newest ∷ others))) none));
  whole = λ before oldest e.
      ap (λ (d : DocValue). d.span.first) (sym (oldest-is newest others before oldest e)) ∙ first;
}

pub from-chain : (newest : DocValue) (others : List DocValue) → IsChain (newest ∷ others)
    → (broken_chain (newest ∷ others) ≡ None) × ((oldest_of newest others).span.first ≡ 1)
unfolding broken_chain
from-chain newest others chain = (
  ap (option_map (λ (link : Link). BrokenChain (own_address link.older.kind)))
      (chain-none (newest ∷ others) (λ before after newer older e.
      adjoins-followed newer older (chain.adjoined before after newer older e))),
  (let split = oldest-split newest others in chain.whole split.0 (oldest_of newest others) split.1),
)

-- a certificate that is accepted is covered

accepted-on : (c : CertificateValue) (pile : List Offer) (newest : DocValue) (others : List DocValue)
    → AreDocuments c pile c.lines (newest ∷ others) → verdict_on c newest others ≡ accepted c → Covers c pile
unfolding verdict_on broken_chain
accepted-on c pile newest others read e =
    let documents = newest ∷ others in
    let oldest = oldest_of newest others in
    let none = all-none (accepted c) (version_differs c newest) (broken_chain documents) (not_the_first oldest)
    (live_differs c newest documents) not_version not_links not_first not_live e in
    let chain = chain-from newest others none.1
    (unless-passes oldest.span.first 1 (NotTheFirst oldest.span.first) none.2) in
    let live = live-passes c (live_count_of documents) (digest_by newest documents) none.3 in
    record {
      newest = newest;
      others = others;
      read = read;
      version = unless-passes newest.span.last c.version (VersionDiffers newest.span.last) none.0;
      chain = chain;
      count = live.0;
      digest = live.1;
    }
  where
    not_version : (v : Verdict) → version_differs c newest ≡ Some v → v ≡ accepted c → ⊥
    not_version v is same =
        let clash : VersionDiffers newest.span.last ≡ Accepted c.version c.live_count =
        sym (unless-refuses newest.span.last c.version (VersionDiffers newest.span.last) v is) ∙ same in cc

    not_links : (v : Verdict) → broken_chain (newest ∷ others) ≡ Some v → v ≡ accepted c → ⊥
    not_links v is same =
        let found = chain-refuses (find is_broken (links_of (newest ∷ others))) v is in
        let clash : BrokenChain (own_address found.0.older.kind) ≡ Accepted c.version c.live_count =
        sym found.1 ∙ same in cc

    not_first : (v : Verdict) → not_the_first (oldest_of newest others) ≡ Some v → v ≡ accepted c → ⊥
    not_first v is same =
        let first = (oldest_of newest others).span.first in
        let clash : NotTheFirst first ≡ Accepted c.version c.live_count =
        sym (unless-refuses first 1 (NotTheFirst first) v is) ∙ same in cc

    not_live : (v : Verdict) → live_differs c newest (newest ∷ others) ≡ Some v → v ≡ accepted c → ⊥
    not_live v is same =
        let count = live_count_of (newest ∷ others) in
        let digest = digest_by newest (newest ∷ others) in
        let clash : LiveDiffers count digest ≡ Accepted c.version c.live_count =
        sym (live-refuses c count digest v is) ∙ same in cc

pub accepted-covers : (c : CertificateValue) (pile : List Offer) (v : Verdict) → IsVerdict c pile v
    → v ≡ accepted c → Covers c pile
accepted-covers c pile v (inl refused) e = absurd (subst (RefusesLine c pile refused.line) e refused.refused)
accepted-covers c pile v (inr decided) e =
    accepted-on c pile decided.newest decided.others decided.read (sym decided.decided ∙ e)

pub covers-verdict : (c : CertificateValue) (pile : List Offer) → Covers c pile → IsVerdict c pile (accepted c)
covers-verdict c pile covers =
    let chain = from-chain covers.newest covers.others covers.chain in
    inr (record {
      newest = covers.newest;
      others = covers.others;
      read = covers.read;
      decided = by-none c covers.newest covers.others
          (unless-same covers.newest.span.last c.version (VersionDiffers covers.newest.span.last) covers.version)
          chain.0
          (unless-same (oldest_of covers.newest covers.others).span.first 1
          (NotTheFirst (oldest_of covers.newest covers.others).span.first) chain.1)
          (live-same c (live_count_of (covers.newest ∷ covers.others))
          (digest_by covers.newest (covers.newest ∷ covers.others)) covers.count covers.digest);
    })

-- the number or the digest of the live entries isn't the certificate's
pub live-other : (c : CertificateValue) (count : ℕ) (digest : List ℕ)
    → (count ≡ c.live_count → digest ≡ c.live_digest → ⊥)
    → live_differs_from c count digest ≡ Some (LiveDiffers count digest)
live-other c count digest differ = go ((count == c.live_count) && bytes_eq digest c.live_digest) refl
  where
    go : (b : Bool) → ((count == c.live_count) && bytes_eq digest c.live_digest) ≡ b
        → (if b then None else Some (LiveDiffers count digest)) ≡ Some (LiveDiffers count digest)
    go true is =
        let parts = and_parts (count == c.live_count) (bytes_eq digest c.live_digest) is in
        absurd (differ (eqb-true count c.live_count parts.0) ((bytes_eq-Decides digest c.live_digest).0 parts.1))
    go false is = refl
