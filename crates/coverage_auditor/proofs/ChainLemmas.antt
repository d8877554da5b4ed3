-- The documents of the lines, as one line after another is read.
use Rattle.std.proofs.Common.{◌≡◌, ℕ, zero, suc, ◌+◌, ◌<◌, Bool, true, false, cond, List, [], ◌∷◌, ◌++◌, length, take, drop, get_or}
use Rattle.std.proofs.Common.{Option, Some, None, Result, Ok, Err, refl, sym, ap, subst, ◌∙◌, arith}
use Rattle.std.specs.Prelude.{All, IsErrAnd, slice_get, filter_map, option_map}
use Rattle.std.specs.BTreeMap.{BTreeMap, get, Updates}
use Rattle.std.specs.List.{AllZip, cons_option}
use Rattle.std.specs.Map.{lookup}
use Rattle.std.specs.Ordering.{is_eq}
use Rattle.std.proofs.lemmas.List.{take_more}
use Rattle.std.proofs.lemmas.List.Elements.{All-append, All-cons, All-head, All-nil, All-tail, filter_map-append}
use Rattle.std.proofs.lemmas.Option.{same_Some, slice_get_within}
use Rattle.atom_writer.specs.Doc.{DocValue}
use Rattle.atom_writer.specs.declared.doc.FeedName.{FeedName}
use Rattle.chain_links.specs.Address.{IsAddress}
use Rattle.chain_links.specs.declared.address.Address.{Address}
use Rattle.chain_links.specs.declared.address.Address.TheVariants.{Feed, Archive, Member}
use Rattle.coverage_certificate.specs.Certificate.{AreCoverLines, CertificateValue, CoverValue, IsArchive}
use Rattle.doc_source.specs.declared.offer.Offer.{Offer}
use Rattle.coverage_auditor.specs.Chain.{ArePlaces, HasFirstName, IsChainOf, IsOfFeed}
use Rattle.coverage_auditor.specs.Chain.{IsShelf, IsShelved, IsShelvedAt, shown}
use Rattle.coverage_auditor.specs.Checks.{KeepsDocuments, PlacesLine, ReadsLine, ReadsLines}
use Rattle.coverage_auditor.specs.Finding.{HasDocument, RefusesLine}
use Rattle.coverage_auditor.specs.Offers.{Key, key_cmp, line_key}
use Rattle.coverage_auditor.specs.Verdict.{AreDocuments, IsRefusedAtLine, IsWhole}
use Rattle.coverage_auditor.specs.declared.halt.Halt.{Halt}
use Rattle.coverage_auditor.specs.declared.halt.Halt.TheVariants.{Refused, NoMemory}
use Rattle.coverage_auditor.specs.declared.verdict.Verdict.{Verdict}
use Rattle.coverage_auditor.proofs.ListLemmas.{AllZip-more, parted-at, slice_get-before, slice_get-last}
use Rattle.coverage_auditor.proofs.ListLemmas.{slice_get-some}
use Rattle.coverage_auditor.proofs.OffersLemmas.{same_line}

-- the lines of a certificate

archive-addressed : (address : Address) → IsArchive address → IsAddress address
archive-addressed Feed is = absurd is
archive-addressed (Archive number) is = is
archive-addressed (Member number) is = absurd is

archives-addressed : (lines : List CoverValue) → All (λ (line : CoverValue). IsArchive line.address) lines
    → All (λ (line : CoverValue). IsAddress line.address) lines
archives-addressed lines all k d l = archive-addressed (get_or lines k d).address (all k d l)

pub lines-addressed : (lines : List CoverValue) → AreCoverLines lines
    → All (λ (line : CoverValue). IsAddress line.address) lines
lines-addressed [] are = absurd are
lines-addressed (first ∷ others) are =
    All-cons (λ (line : CoverValue). IsAddress line.address) first others (subst IsAddress (sym are.0) tt)
    (archives-addressed others are.1)

-- the documents that were read

module _ (c : CertificateValue) (pile : List Offer) where
  pub shelf-none : (read : BTreeMap Key ℕ) → read.entries ≡ [] → IsShelf c pile [] read
  shelf-none read empty line is_line =
      subst (IsShelvedAt c pile [] line)
      (sym (ap (λ es. lookup (λ z. is_eq (key_cmp (line_key line) z)) es) empty)) tt

  pub shelved-at : (documents : List DocValue) (line : CoverValue) (place : Option ℕ) (at : ℕ)
      → IsShelvedAt c pile documents line place → place ≡ Some at → IsShelved c pile documents line at
  shelved-at documents line place at there e = subst (IsShelvedAt c pile documents line) e there

  pub shelved-last : (documents : List DocValue) (document : DocValue) (line : CoverValue)
      → HasDocument c pile line document
      → IsShelved c pile (documents ++ document ∷ []) line (length documents)
  shelved-last documents document line has =
      record { document = document; there = slice_get-last documents document; of_line = has }

  shelved-more : (documents : List DocValue) (document : DocValue) (line : CoverValue) (place : Option ℕ)
      → IsShelvedAt c pile documents line place → IsShelvedAt c pile (documents ++ document ∷ []) line place
  shelved-more documents document line None there = tt
  shelved-more documents document line (Some at) there = record {
    document = there.document;
    there = slice_get-before documents document at there.document there.there;
    of_line = there.of_line;
  }

  pub shelf-more : (documents : List DocValue) (document : DocValue) (line : CoverValue)
      (read read' : BTreeMap Key ℕ) → IsAddress line.address → HasDocument c pile line document
      → Updates key_cmp read read' (line_key line) (Some (length documents)) → IsShelf c pile documents read
      → IsShelf c pile (documents ++ document ∷ []) read'
  shelf-more documents document line read read' is_line has updates shelf other is_other =
      subst (IsShelvedAt c pile (documents ++ document ∷ []) other) (sym (updates.0 (line_key other)))
      (split (is_eq (key_cmp (line_key line) (line_key other))) refl)
    where
      split : (b : Bool) → is_eq (key_cmp (line_key line) (line_key other)) ≡ b
          → IsShelvedAt c pile (documents ++ document ∷ []) other
          (cond b (Some (length documents)) (get key_cmp read (line_key other)))
      split true e =
          let same : line ≡ other = same_line line other is_line is_other e in
          shelved-last documents document other
          (subst (λ (l : CoverValue). HasDocument c pile l document) same has)
      split false e = shelved-more documents document other (get key_cmp read (line_key other))
          (shelf other is_other)

  -- the places of the lines

  pub places-kept : (documents documents' : List DocValue) (places : List ℕ)
      → KeepsDocuments documents documents' → ArePlaces documents places → ArePlaces documents' places
  places-kept documents documents' places keeps are k d l =
      let found = slice_get-some documents (get_or places k d) (are k d l) in
      slice_get_within documents' (get_or places k d) found.0 (keeps (get_or places k d) found.0 found.1)

  pub places-more : (documents : List DocValue) (places : List ℕ) (line : CoverValue) (at : ℕ)
      → ArePlaces documents places → IsShelved c pile documents line at → ArePlaces documents (places ++ at ∷ [])
  places-more documents places line at are shelved =
      All-append (λ k. k < length documents) places (at ∷ []) are
      (All-cons (λ k. k < length documents) at [] (slice_get_within documents at shelved.document shelved.there)
      (All-nil (λ k. k < length documents)))

  pub shown-kept : (documents documents' : List DocValue) (places : List ℕ)
      → KeepsDocuments documents documents' → ArePlaces documents places
      → shown documents' places ≡ shown documents places
  unfolding shown
  shown-kept documents documents' [] keeps are = refl
  shown-kept documents documents' (at ∷ places) keeps are =
      let found = slice_get-some documents at (All-head (λ k. k < length documents) at places are) in
      let rest = shown-kept documents documents' places keeps (All-tail (λ k. k < length documents) at places are)
      in
      (λ i. cons_option ((keeps at found.0 found.1 ∙ sym found.1) i) (rest i))

  pub shown-more : (documents : List DocValue) (places : List ℕ) (line : CoverValue) (at : ℕ)
      (shelved : IsShelved c pile documents line at)
      → shown documents (places ++ at ∷ []) ≡ shown documents places ++ shelved.document ∷ []
  unfolding shown
  shown-more documents places line at shelved =
      filter_map-append (slice_get documents) places (at ∷ [])
      ∙ ap (λ (found : Option DocValue). filter_map (slice_get documents) places ++ cons_option found [])
      shelved.there

  -- the first of the lines' documents is the first that was read

  first-of : (documents : List DocValue) (last : DocValue) → slice_get documents 0 ≡ None
      → slice_get (documents ++ last ∷ []) 0 ≡ Some last
  first-of [] last none = refl
  first-of (first ∷ documents) last none = absurd (some none)
    where
      some : Some first ≡ None → ⊥
      some e = cc

  pub first-more : (documents documents' : List DocValue) (places : List ℕ) (line : CoverValue) (at : ℕ)
      → KeepsDocuments documents documents' → ArePlaces documents places
      → IsShelved c pile documents' line at → (documents ≡ [] → at ≡ 0)
      → slice_get (shown documents places) 0 ≡ slice_get documents 0
      → slice_get (shown documents' (places ++ at ∷ [])) 0 ≡ slice_get documents' 0
  first-more documents documents' places line at keeps are shelved first same =
      ap (λ (ds : List DocValue). slice_get ds 0)
      (shown-more documents' places line at shelved
      ∙ ap (λ (ds : List DocValue). ds ++ shelved.document ∷ []) (shown-kept documents documents' places keeps are))
      ∙ split documents refl
    where
      split : (ds : List DocValue) → documents ≡ ds
          → slice_get (shown documents places ++ shelved.document ∷ []) 0 ≡ slice_get documents' 0
      split [] none =
          first-of (shown documents places) shelved.document
          (same ∙ ap (λ (ds : List DocValue). slice_get ds 0) none)
          ∙ sym shelved.there ∙ ap (slice_get documents') (first none)
      split (oldest ∷ more) some =
          let there : slice_get documents 0 ≡ Some oldest = ap (λ (ds : List DocValue). slice_get ds 0) some in
          slice_get-before (shown documents places) shelved.document 0 oldest (same ∙ there)
          ∙ sym (keeps 0 oldest there)

  pub shelved-some : (documents : List DocValue) (line : CoverValue) (at : ℕ) → documents ≡ []
      → IsShelved c pile documents line at → ⊥
  shelved-some documents line at none shelved =
      let l = slice_get_within documents at shelved.document shelved.there in
      let empty = ap (λ (ds : List DocValue). length ds) none in
      omega (arith, l, empty)

  -- one more line
  pub documents-more : (lines : List CoverValue) (count : ℕ) (d : CoverValue)
      (documents documents' : List DocValue) (places : List ℕ) (at : ℕ) (next : List CoverValue)
      → next ≡ lines ++ d ∷ []
      → KeepsDocuments documents documents' → ArePlaces documents places
      → IsShelved c pile documents' d at → AreDocuments c pile lines (shown documents places)
      → AreDocuments c pile next (shown documents' (places ++ at ∷ []))
  documents-more lines count d documents documents' places at next e keeps are shelved all =
      subst (λ (l : List CoverValue). AreDocuments c pile l (shown documents' (places ++ at ∷ []))) (sym e)
      (subst (AreDocuments c pile (lines ++ d ∷ []))
      (sym (shown-more documents' places d at shelved
      ∙ ap (λ (ds : List DocValue). ds ++ shelved.document ∷ []) (shown-kept documents documents' places keeps are)))
      (AllZip-more (HasDocument c pile) lines (shown documents places) d shelved.document all shelved.of_line))

  -- the end of the lines
  pub whole-from : (documents : List DocValue) → AreCoverLines c.lines → AreDocuments c pile c.lines documents
      → IsWhole c pile documents
  whole-from documents are all = split c.lines documents are all refl refl
    where
      split : (lines : List CoverValue) (ds : List DocValue) → AreCoverLines lines → AreDocuments c pile lines ds
          → c.lines ≡ lines → documents ≡ ds → IsWhole c pile documents
      split [] ds are zipped same is = absurd are
      split (first ∷ lines) [] are zipped same is = absurd zipped
      split (first ∷ lines) (newest ∷ others) are zipped same is =
          record { newest = newest; others = others; split = is; read = all }

  first-belongs : (lines : List CoverValue) (newest : DocValue) (others : List DocValue)
      → AreDocuments c pile lines (newest ∷ others) → (newest.name.base ≡ c.base) × (newest.name.id ≡ c.feed)
  first-belongs [] newest others all = absurd all
  first-belongs (line ∷ lines) newest others all = (all.0.belongs.base, all.0.belongs.feed)

  of-feed : (name : FeedName) → name.base ≡ c.base → name.id ≡ c.feed → (lines : List CoverValue)
      (documents : List DocValue) → AreDocuments c pile lines documents → All (IsOfFeed name) documents
  of-feed name base id [] [] all = All-nil (IsOfFeed name)
  of-feed name base id [] (d ∷ documents) all = absurd all
  of-feed name base id (line ∷ lines) [] all = absurd all
  of-feed name base id (line ∷ lines) (d ∷ documents) all =
      All-cons (IsOfFeed name) d documents
      (record { base = all.0.belongs.base ∙ sym base; feed = all.0.belongs.feed ∙ sym id })
      (of-feed name base id lines documents all.1)

  -- the name that is kept is the newest document's
  pub whole-named : (documents : List DocValue) (places : List ℕ) (name : Option FeedName)
      (whole : IsWhole c pile (shown documents places))
      → slice_get (shown documents places) 0 ≡ slice_get documents 0 → HasFirstName documents name
      → name ≡ Some whole.newest.name
  whole-named documents places name whole first named =
      named ∙ ap (option_map (λ (d : DocValue). d.name))
      (sym first ∙ ap (λ (ds : List DocValue). slice_get ds 0) whole.split)

  pub chain-of : (documents : List DocValue) (places : List ℕ) (name : FeedName) → ArePlaces documents places
      → IsWhole c pile (shown documents places)
      → slice_get (shown documents places) 0 ≡ slice_get documents 0 → HasFirstName documents (Some name)
      → IsChainOf name documents places
  chain-of documents places name are whole first named =
      let is = same_Some name whole.newest.name (whole-named documents places (Some name) whole first named) in
      let own = first-belongs c.lines whole.newest whole.others
      (subst (AreDocuments c pile c.lines) whole.split whole.read) in
      record {
        placed = are;
        named = named ∙ ap (option_map (λ (d : DocValue). d.name)) (sym first);
        of_feed = of-feed name (ap (λ (n : FeedName). n.base) is ∙ own.0)
            (ap (λ (n : FeedName). n.id) is ∙ own.1) c.lines (shown documents places) whole.read;
      }

  pub refused-from : (at : ℕ) (d : CoverValue) (documents : List DocValue) (verdict : Verdict)
      → at < length c.lines → AreDocuments c pile (take at c.lines) documents
      → RefusesLine c pile (get_or c.lines at d) verdict → IsRefusedAtLine c pile verdict
  refused-from at d documents verdict l all refused = record {
    before = take at c.lines;
    line = get_or c.lines at d;
    after = drop (at + 1) c.lines;
    split = parted-at c.lines at d l;
    documents = documents;
    read = all;
    refused = refused;
  }

-- the documents, by the index of a line

pub length-shown : (documents : List DocValue) (places : List ℕ) → ArePlaces documents places
    → length (shown documents places) ≡ length places
unfolding shown
length-shown documents [] are = refl
length-shown documents (at ∷ places) are =
    let found = slice_get-some documents at (All-head (λ k. k < length documents) at places are) in
    ap (λ (o : Option DocValue). length (cons_option o (filter_map (slice_get documents) places))) found.1
    ∙ ap (λ n. suc n) (length-shown documents places (All-tail (λ k. k < length documents) at places are))

pub shown-at : (documents : List DocValue) (places : List ℕ) (at place : ℕ) → ArePlaces documents places
    → slice_get places at ≡ Some place → slice_get (shown documents places) at ≡ slice_get documents place
unfolding shown
shown-at documents [] at place are e = absurd (none e)
  where
    none : None ≡ Some place → ⊥
    none e = cc
shown-at documents (first ∷ places) zero place are e =
    let found = slice_get-some documents first (All-head (λ k. k < length documents) first places are) in
    ap (λ (o : Option DocValue). slice_get (cons_option o (filter_map (slice_get documents) places)) 0) found.1
    ∙ sym found.1 ∙ ap (slice_get documents) (same_Some first place e)
shown-at documents (first ∷ places) (suc at) place are e =
    let found = slice_get-some documents first (All-head (λ k. k < length documents) first places are) in
    ap (λ (o : Option DocValue). slice_get (cons_option o (filter_map (slice_get documents) places)) (suc at)) found.1
    ∙ shown-at documents places at place (All-tail (λ k. k < length documents) first places are) e

-- why a line has no place
pub halted : (c : CertificateValue) (pile : List Offer) (line : CoverValue) (documents : List DocValue) (halt : Halt)
    (result : Result ℕ Halt) → IsErrAnd result (λ given. given ≡ halt) → ReadsLine c pile line (Err halt)
    → PlacesLine c pile line documents result
halted c pile line documents halt (Ok at) is reads = absurd is
halted c pile line documents halt (Err given) is reads = of given (subst (λ (h : Halt). ReadsLine c pile line (Err h))
    (sym is) reads)
  where
    of : (given : Halt) → ReadsLine c pile line (Err given) → PlacesLine c pile line documents (Err given)
    of (Refused verdict) reads = reads
    of NoMemory reads = tt

-- the lines, one after another

module _ (c : CertificateValue) (pile : List Offer) where
  pub read-none : (lines : List CoverValue) (documents : List DocValue) (places : List ℕ) → places ≡ []
      → AreDocuments c pile (take 0 lines) (shown documents places)
  unfolding shown
  read-none [] documents places e =
      subst (λ (ps : List ℕ). AreDocuments c pile [] (filter_map (slice_get documents) ps)) (sym e) tt
  read-none (line ∷ lines) documents places e =
      subst (λ (ps : List ℕ). AreDocuments c pile [] (filter_map (slice_get documents) ps)) (sym e) tt

  refused-in : (lines : List CoverValue) → lines ≡ c.lines → (at : ℕ) (d : CoverValue) (documents : List DocValue)
      (verdict : Verdict) → at < length lines → AreDocuments c pile (take at lines) documents
      → RefusesLine c pile (get_or lines at d) verdict → IsRefusedAtLine c pile verdict
  refused-in lines e at d documents verdict l all refused = record {
    before = take at lines;
    line = get_or lines at d;
    after = drop (at + 1) lines;
    split = sym e ∙ parted-at lines at d l;
    documents = documents;
    read = all;
    refused = refused;
  }

  pub line-refused : (lines : List CoverValue) → lines ≡ c.lines → (at : ℕ) (d : CoverValue) (halt : Halt)
      (result : Result (List DocValue) Halt) (documents later : List DocValue)
      → IsErrAnd result (λ given. given ≡ halt) → at < length lines
      → AreDocuments c pile (take at lines) documents
      → PlacesLine c pile (get_or lines at d) later (Err halt) → ReadsLines c pile result
  line-refused lines e at d halt (Ok x) documents later is l all places = absurd is
  line-refused lines e at d halt (Err given) documents later is l all places =
      of given (subst (λ (h : Halt). PlacesLine c pile (get_or lines at d) later (Err h)) (sym is) places)
    where
      of : (given : Halt) → PlacesLine c pile (get_or lines at d) later (Err given)
          → ReadsLines c pile (Err given)
      of (Refused verdict) refused = refused-in lines e at d documents verdict l all refused
      of NoMemory refused = tt

  pub line-read : (lines : List CoverValue) (i : ℕ) (d : CoverValue) (documents documents' : List DocValue)
      (places places' : List ℕ) (at : ℕ) → i < length lines → KeepsDocuments documents documents'
      → ArePlaces documents places → AreDocuments c pile (take i lines) (shown documents places)
      → places' ≡ places ++ at ∷ [] → IsShelved c pile documents' (get_or lines i d) at
      → ArePlaces documents' places' × AreDocuments c pile (take (i + 1) lines) (shown documents' places')
  line-read lines i d documents documents' places places' at l keeps are all e shelved =
      let kept = places-kept c pile documents documents' places keeps are in
      let more = places-more c pile documents' places (get_or lines i d) at kept shelved in
      let read = documents-more c pile (take i lines) i (get_or lines i d) documents documents' places at
      (take (i + 1) lines) (take_more lines i d l) keeps are shelved all in (
        subst (ArePlaces documents') (sym e) more,
        subst (λ (ps : List ℕ). AreDocuments c pile (take (i + 1) lines) (shown documents' ps)) (sym e) read,
      )
