-- A certificate and a pile have one verdict.
use Rattle.std.proofs.Common.{◌≡◌, ◌⊎◌, inl, inr, Bool, true, false, cond, List, [], ◌∷◌, ◌++◌, Option, Some, None}
use Rattle.std.proofs.Common.{ℕ, refl, sym, ap, subst, ◌∙◌}
use Rattle.std.specs.Prelude.{find, slice_get, ◌&&◌}
use Rattle.std.specs.Str.{bytes_eq}
use Rattle.std.proofs.lemmas.Option.{same_Some}
use Rattle.atom_grammar.proofs.RefusalLemmas.{one_reading}
use Rattle.atom_writer.specs.Doc.{DocValue}
use Rattle.chain_links.specs.Address.{printed}
use Rattle.coverage_certificate.specs.Certificate.{CertificateValue, CoverValue}
use Rattle.coverage_certificate.specs.Digest.{digest_of}
use Rattle.doc_source.specs.declared.offer.Offer.{Offer}
use Rattle.coverage_auditor.specs.Finding.{BelongsTo, HasDocument, IsForeign, IsNoReading, IsNotOffered, IsOfferedAs}
use Rattle.coverage_auditor.specs.Finding.{IsReadOf, RefusesLine, is_at, is_of_line, offer_at, offer_of}
use Rattle.coverage_auditor.specs.Links.{verdict_on}
use Rattle.coverage_auditor.specs.Verdict.{AreDocuments, IsDecidedOn, IsRefusedAtLine, IsVerdict}
use Rattle.coverage_auditor.specs.declared.verdict.Verdict.{Verdict}
use Rattle.coverage_auditor.specs.declared.verdict.Verdict.TheVariants.{Accepted, NoDocument, DigestDiffers}
use Rattle.coverage_auditor.specs.declared.verdict.Verdict.TheVariants.{NotADocument, WrongDocument}
use Rattle.coverage_auditor.specs.declared.verdict.Verdict.TheVariants.{VersionDiffers, BrokenChain, NotTheFirst}
use Rattle.coverage_auditor.specs.declared.verdict.Verdict.TheVariants.{LiveDiffers}

some-none : {A : Type 0} (o : Option A) (x : A) → o ≡ Some x → o ≡ None → ⊥
some-none None x e f = cc
some-none (Some y) x e f = cc

-- an item that passes two tests passes the first
find-both : (p q : Offer → Bool) (pile : List Offer) (found : Offer)
    → find (λ offer. p offer && q offer) pile ≡ Some found → find p pile ≡ None → ⊥
find-both p q [] found e none = some-none None found e refl
find-both p q (offer ∷ pile) found e none = split (p offer) (find-both p q pile found) e none
  where
    split : (b : Bool) → (find (λ o. p o && q o) pile ≡ Some found → find p pile ≡ None → ⊥)
        → cond (b && q offer) (Some offer) (find (λ o. p o && q o) pile) ≡ Some found
        → cond b (Some offer) (find p pile) ≡ None → ⊥
    split true later e none = some-none (Some offer) offer refl none
    split false later e none = later e none

module _ (c : CertificateValue) (pile : List Offer) where
  -- the document of a line
  pub same-document : (line : CoverValue) (one other : DocValue) → IsReadOf c pile line one
      → IsReadOf c pile line other → one ≡ other
  same-document line one other p q =
      let offer : p.offer ≡ q.offer = same_Some p.offer q.offer (sym p.found ∙ q.found) in
      one_reading one other p.is_doc q.is_doc
      (sym p.text ∙ ap (λ (o : Offer). o.bytes) offer ∙ q.text)

  pub same-documents : (lines : List CoverValue) (one other : List DocValue) → AreDocuments c pile lines one
      → AreDocuments c pile lines other → one ≡ other
  same-documents [] [] [] p q = refl
  same-documents [] [] (d ∷ other) p q = absurd q
  same-documents [] (d ∷ one) other p q = absurd p
  same-documents (line ∷ lines) [] other p q = absurd p
  same-documents (line ∷ lines) (d ∷ one) [] p q = absurd q
  same-documents (line ∷ lines) (d ∷ one) (e ∷ other) p q =
      let first = same-document line d e p.0.read q.0.read in
      let rest = same-documents lines one other p.1 q.1 in
      (λ i. first i ∷ rest i)

  -- the first offer of a line excludes the other refusals

  offered-not_found : (line : CoverValue) (offer : Offer) → offer_of c.base pile line ≡ Some offer
      → IsNotOffered c pile line → ⊥
  unfolding offer_of offer_at
  offered-not_found line offer found none =
      find-both (is_at (printed c.base line.address)) (λ (o : Offer). bytes_eq (digest_of o.bytes) line.digest) pile
      offer found none

  read-no_reading : (line : CoverValue) (document : DocValue) → IsReadOf c pile line document
      → IsNoReading c pile line → ⊥
  read-no_reading line document read none =
      let offer : none.offer ≡ read.offer = same_Some none.offer read.offer (sym none.found ∙ read.found) in
      none.no_document document read.is_doc (ap (λ (o : Offer). o.bytes) offer ∙ read.text)

  -- a refusal, by its kind
  abbrev Kinds : CoverValue → Verdict → Type 0
  Kinds line v = ((v ≡ NoDocument line.address) × IsNotOffered c pile line)
      ⊎ ((digest : List ℕ) × (v ≡ DigestDiffers line.address digest) × IsOfferedAs c pile line digest)
      ⊎ ((v ≡ NotADocument line.address) × IsNoReading c pile line)
      ⊎ ((v ≡ WrongDocument line.address) × IsForeign c pile line)

  kind-of : (line : CoverValue) (v : Verdict) → RefusesLine c pile line v → Kinds line v
  kind-of line (NoDocument address) r = inl (ap NoDocument r.0, r.1)
  kind-of line (DigestDiffers address digest) r =
      inr (inl (digest, ap (λ a. DigestDiffers a digest) r.0, r.1))
  kind-of line (NotADocument address) r = inr (inr (inl (ap NotADocument r.0, r.1)))
  kind-of line (WrongDocument address) r = inr (inr (inr (ap WrongDocument r.0, r.1)))
  kind-of line (Accepted version live) r = absurd r
  kind-of line (VersionDiffers found) r = absurd r
  kind-of line (BrokenChain address) r = absurd r
  kind-of line (NotTheFirst first) r = absurd r
  kind-of line (LiveDiffers count digest) r = absurd r

  -- a line with a document isn't refused
  has-refused : (line : CoverValue) (document : DocValue) (v : Verdict) → HasDocument c pile line document
      → RefusesLine c pile line v → ⊥
  has-refused line document v has refused = go (kind-of line v refused)
    where
      go : Kinds line v → ⊥
      go (inl (e, none)) = offered-not_found line has.read.offer has.read.found none
      go (inr (inl (digest, e, differs))) =
          some-none (offer_of c.base pile line) has.read.offer has.read.found differs.none
      go (inr (inr (inl (e, none)))) = read-no_reading line document has.read none
      go (inr (inr (inr (e, foreign)))) =
          foreign.foreign (subst (BelongsTo c line)
          (same-document line document foreign.document has.read foreign.read) has.belongs)

  -- a line is refused in one way
  refused-once : (line : CoverValue) (v w : Verdict) → RefusesLine c pile line v → RefusesLine c pile line w → v ≡ w
  refused-once line v w p q = go (kind-of line v p) (kind-of line w q)
    where
      go : Kinds line v → Kinds line w → v ≡ w
      go (inl (e, none)) (inl (f, other)) = e ∙ sym f
      go (inl (e, none)) (inr (inl (digest, f, o))) =
          absurd (some-none (offer_at c.base pile line.address) o.first o.there none)
      go (inl (e, none)) (inr (inr (inl (f, o)))) = absurd (offered-not_found line o.offer o.found none)
      go (inl (e, none)) (inr (inr (inr (f, o)))) = absurd (offered-not_found line o.read.offer o.read.found none)
      go (inr (inl (digest, e, o))) (inl (f, none)) =
          absurd (some-none (offer_at c.base pile line.address) o.first o.there none)
      go (inr (inl (one, e, o))) (inr (inl (other, f, r))) =
          let first : o.first ≡ r.first = same_Some o.first r.first (sym o.there ∙ r.there) in
          let digest : one ≡ other =
          o.digest_is ∙ ap (λ (x : Offer). digest_of x.bytes) first ∙ sym r.digest_is in
          e ∙ ap (DigestDiffers line.address) digest ∙ sym f
      go (inr (inl (digest, e, o))) (inr (inr (inl (f, r)))) =
          absurd (some-none (offer_of c.base pile line) r.offer r.found o.none)
      go (inr (inl (digest, e, o))) (inr (inr (inr (f, r)))) =
          absurd (some-none (offer_of c.base pile line) r.read.offer r.read.found o.none)
      go (inr (inr (inl (e, o)))) (inl (f, none)) = absurd (offered-not_found line o.offer o.found none)
      go (inr (inr (inl (e, o)))) (inr (inl (digest, f, r))) =
          absurd (some-none (offer_of c.base pile line) o.offer o.found r.none)
      go (inr (inr (inl (e, o)))) (inr (inr (inl (f, r)))) = e ∙ sym f
      go (inr (inr (inl (e, o)))) (inr (inr (inr (f, r)))) = absurd (read-no_reading line r.document r.read o)
      go (inr (inr (inr (e, o)))) (inl (f, none)) = absurd (offered-not_found line o.read.offer o.read.found none)
      go (inr (inr (inr (e, o)))) (inr (inl (digest, f, r))) =
          absurd (some-none (offer_of c.base pile line) o.read.offer o.read.found r.none)
      go (inr (inr (inr (e, o)))) (inr (inr (inl (f, r)))) = absurd (read-no_reading line o.document o.read r)
      go (inr (inr (inr (e, o)))) (inr (inr (inr (f, r)))) = e ∙ sym f

  -- the first line that is refused

  head-same : (one other : CoverValue) (lines more : List CoverValue) → one ∷ lines ≡ other ∷ more → one ≡ other
  head-same one other lines more e = same_Some one other (ap (λ (ls : List CoverValue). slice_get ls 0) e)

  abbrev tail_of : List CoverValue → List CoverValue
  tail_of [] = []
  tail_of (line ∷ lines) = lines

  first-refused : (before before' after after' : List CoverValue) (line line' : CoverValue)
      (ds ds' : List DocValue) (v w : Verdict) → before ++ line ∷ after ≡ before' ++ line' ∷ after'
      → AreDocuments c pile before ds → AreDocuments c pile before' ds'
      → RefusesLine c pile line v → RefusesLine c pile line' w → v ≡ w
  first-refused [] [] after after' line line' ds ds' v w e p q r s =
      refused-once line v w r
      (subst (λ (l : CoverValue). RefusesLine c pile l w) (sym (head-same line line' after after' e)) s)
  first-refused [] (x ∷ before') after after' line line' ds [] v w e p q r s = absurd q
  first-refused [] (x ∷ before') after after' line line' ds (d ∷ ds') v w e p q r s =
      let same = head-same line x after (before' ++ line' ∷ after') e in
      absurd (has-refused x d v q.0 (subst (λ (l : CoverValue). RefusesLine c pile l v) same r))
  first-refused (x ∷ before) [] after after' line line' [] ds' v w e p q r s = absurd p
  first-refused (x ∷ before) [] after after' line line' (d ∷ ds) ds' v w e p q r s =
      let same = head-same x line' (before ++ line ∷ after) after' e in
      absurd (has-refused x d w p.0 (subst (λ (l : CoverValue). RefusesLine c pile l w) (sym same) s))
  first-refused (x ∷ before) (y ∷ before') after after' line line' [] ds' v w e p q r s = absurd p
  first-refused (x ∷ before) (y ∷ before') after after' line line' (d ∷ ds) [] v w e p q r s = absurd q
  first-refused (x ∷ before) (y ∷ before') after after' line line' (d ∷ ds) (d' ∷ ds') v w e p q r s =
      first-refused before before' after after' line line' ds ds' v w (ap tail_of e) p.1 q.1 r s

  -- if each line has a document, none is refused
  all-have : (before after : List CoverValue) (line : CoverValue) (ds : List DocValue) (v : Verdict)
      → AreDocuments c pile (before ++ line ∷ after) ds → RefusesLine c pile line v → ⊥
  all-have [] after line [] v all refused = absurd all
  all-have [] after line (d ∷ ds) v all refused = has-refused line d v all.0 refused
  all-have (x ∷ before) after line [] v all refused = absurd all
  all-have (x ∷ before) after line (d ∷ ds) v all refused = all-have before after line ds v all.1 refused

  decided-refused : (v w : Verdict) → IsRefusedAtLine c pile v → IsDecidedOn c pile w → ⊥
  decided-refused v w refused decided =
      all-have refused.before refused.after refused.line (decided.newest ∷ decided.others) v
      (subst (λ (lines : List CoverValue). AreDocuments c pile lines (decided.newest ∷ decided.others)) refused.split
      decided.read) refused.refused

  verdict_on-all : List DocValue → Verdict
  verdict_on-all [] = NotTheFirst 0
  verdict_on-all (newest ∷ others) = verdict_on c newest others

  decided-once : (v w : Verdict) → IsDecidedOn c pile v → IsDecidedOn c pile w → v ≡ w
  unfolding verdict_on-all
  decided-once v w p q =
      p.decided
      ∙ ap verdict_on-all (same-documents c.lines (p.newest ∷ p.others) (q.newest ∷ q.others) p.read q.read)
      ∙ sym q.decided

  pub one-verdict : (v w : Verdict) → IsVerdict c pile v → IsVerdict c pile w → v ≡ w
  one-verdict v w (inl p) (inl q) =
      first-refused p.before q.before p.after q.after p.line q.line p.documents q.documents v w
      (sym p.split ∙ q.split) p.read q.read p.refused q.refused
  one-verdict v w (inl p) (inr q) = absurd (decided-refused v w p q)
  one-verdict v w (inr p) (inl q) = absurd (decided-refused w v q p)
  one-verdict v w (inr p) (inr q) = decided-once v w p q
