-- The certificate of documents that one feed served.
use Rattle.std.proofs.Common.{◌≡◌, ℕ, zero, suc, List, [], ◌∷◌, ◌++◌, map, Option, Some, None, take, refl, sym, ap, ap₂}
use Rattle.std.proofs.Common.{subst, ◌∙◌}
use Rattle.std.specs.Prelude.{option_map}
use Rattle.std.specs.List.{cons_option}
use Rattle.std.proofs.lemmas.List.{length-take-le}
use Rattle.std.proofs.lemmas.Option.{same_Some}
use Rattle.sha2.specs.Sha256.{sha256}
use Rattle.atom_values.specs.Entry.{EntryValue}
use Rattle.atom_values.specs.declared.person.Person.{Person}
use Rattle.atom_writer.specs.Doc.{DocValue}
use Rattle.atom_writer.specs.Entries.{back_text, edit_link, front_text}
use Rattle.atom_writer.specs.Members.{member_text, shown_authors}
use Rattle.atom_writer.specs.Pieces.{own_address, text}
use Rattle.atom_writer.specs.declared.doc.FeedName.{FeedName}
use Rattle.chain_links.specs.declared.address.Address.{Address}
use Rattle.chain_links.specs.declared.address.Address.TheVariants.{Feed, Archive}
use Rattle.member_rules.specs.declared.operation.Op.{Op}
use Rattle.member_rules.specs.Chain.{ShowsTheFold, chain, chain_of as cut_chain}
use Rattle.member_rules.specs.Documents.{document_of, name_of, subscription_of, title_after}
use Rattle.member_rules.specs.Fold.{fold_of, made}
use Rattle.member_rules.specs.Head.{HeadValue}
use Rattle.member_rules.specs.History.{IsLawful}
use Rattle.member_rules.specs.Shows.{greatest_member, live_of}
use Rattle.member_rules.specs.Windows.{windows_of}
use Rattle.member_rules.proofs.ServedLemmas.{prefix-lawful}
use Rattle.member_rules.proofs.ShowsLemmas.{live_of-past}
use Rattle.member_rules.proofs.StateLemmas.{AreMembers-of}
use Rattle.mirror_walk.specs.Held.{AreHeld, IsHeldDoc}
use Rattle.mirror_walk.specs.Holding.{KeptValue, archive_at, archives_from, best_of, chain_of, first_missing}
use Rattle.mirror_walk.specs.Laws.{ShowsServed, ShowsVersion}
use Rattle.mirror_walk.specs.Listing.{entries_up_to, with_entry}
use Rattle.mirror_walk.specs.Loaded.{IsLoadedOf, own_offer}
use Rattle.mirror_walk.specs.Published.{HoldsServed}
use Rattle.mirror_walk.proofs.FoundLemmas.{archive_at-holds, best_of-holds}
use Rattle.mirror_walk.proofs.HeldLemmas.{loaded-held}
use Rattle.mirror_walk.proofs.MirrorLemmas.{taken_are_shown}
use Rattle.mirror_walk.proofs.OutcomeLemmas.{best-of_whole, chain_of-best}
use Rattle.mirror_walk.proofs.PublishedLemmas.{served-lawful}
use Rattle.mirror_walk.proofs.TakenLemmas.{loaded-offered}
use Rattle.coverage_certificate.specs.Certificate.{CertificateValue, CoverValue}
use Rattle.coverage_certificate.specs.Held.{certificate_by, certificate_of, line_at, lines_of}
use Rattle.coverage_certificate.specs.Digest.{digest_of}
use Rattle.coverage_certificate.specs.Live.{live_digest_of, live_entries_of, live_text}
use Rattle.coverage_certificate.specs.Served.{fold_entries, line_of, served_certificate}
use Rattle.coverage_certificate.proofs.HeldLemmas.{archives_to, lines-are}
use Rattle.mirror_walk.proofs.InOrderLemmas.{entries-same}
use Rattle.coverage_certificate.proofs.SameLemmas.{fields_same}

-- the lines of what is held are those of its documents

line-is : (held : KeptValue) (address : Address) → own_address held.document.kind ≡ address
    → held.digest ≡ sha256 (text held.document)
    → (let line : CoverValue = record { address = address; digest = held.digest } in line) ≡ line_of held.document
line-is held address own digest =
    ap₂ (λ (x : Address) (d : List ℕ). let line : CoverValue = record { address = x; digest = d } in line) (sym own)
    digest

module _ (base : List ℕ) (kept : List KeptValue) (held : AreHeld base kept) where
  archives-lines : (number : ℕ) → archives_to kept number ≡ map line_of (archives_from kept number)
  unfolding archives_from
  archives-lines zero = refl
  archives-lines (suc number) = more (archive_at kept (suc number)) refl (archives-lines number)
    where
      more : (found : Option KeptValue) → archive_at kept (suc number) ≡ found
          → archives_to kept number ≡ map line_of (archives_from kept number)
          → cons_option (option_map (λ (digest : List ℕ). let line : CoverValue = record {
            address = Archive (suc number);
            digest = digest;
          } in line) (option_map (λ (k : KeptValue). k.digest) found)) (archives_to kept number)
          ≡ map line_of (cons_option (option_map (λ (k : KeptValue). k.document) found) (archives_from kept number))
      more None e older = older
      more (Some k) e older =
          let is = archive_at-holds (IsHeldDoc base) kept (suc number) k held.each e in
          ap₂ (λ (line : CoverValue) (lines : List CoverValue). line ∷ lines)
          (line-is k (Archive (suc number)) (ap own_address is.1) is.0.digest) older

  line_at-feed : (best : KeptValue) → best_of kept ≡ Some best → line_at kept Feed ≡ Some (line_of best.document)
  line_at-feed best e =
      let is = best_of-holds (IsHeldDoc base) kept best held.each e in
      ap (λ (o : Option KeptValue). option_map (λ (digest : List ℕ). let line : CoverValue = record {
        address = Feed;
        digest = digest;
      } in line) (option_map (λ (k : KeptValue). k.digest) o)) e
      ∙ ap (λ (line : CoverValue). Some line) (line-is best Feed (ap own_address is.1) is.0.digest)

  -- for crates above: the lines of the chain of what is held
  pub lines-documents : (best : KeptValue) → best_of kept ≡ Some best
      → lines_of kept best.document.prev ≡ map line_of (chain_of kept)
  lines-documents best e =
      lines-are kept best.document.prev
      ∙ ap (λ (o : Option CoverValue). cons_option o (archives_to kept best.document.prev)) (line_at-feed best e)
      ∙ ap (λ (lines : List CoverValue). line_of best.document ∷ lines) (archives-lines best.document.prev)
      ∙ ap (map line_of) (sym (chain_of-best kept best e))

-- the live entries of documents that show the fold

-- the same entries, up to a number
entries-equal : (live other : ℕ → Option EntryValue) (n : ℕ) → ((k : ℕ) → live k ≡ other k)
    → entries_up_to live n ≡ entries_up_to other n
entries-equal live other zero same = refl
entries-equal live other (suc n) same = (λ i. with_entry (entries-equal live other n same i) (same (suc n) i))

-- for crates above
pub shown-entries : (head : HeadValue) (documents : List DocValue) (past : List Op) → IsLawful head past
    → ShowsTheFold documents past → live_entries_of documents ≡ fold_entries past
unfolding live_entries_of
shown-entries head documents past lawful shows =
    let live = (fold_of past).live in
    entries-equal (live_of documents) live (greatest_member documents) shows.live
    ∙ entries-same live (greatest_member documents) (made past)
    (λ k l. sym (shows.live k) ∙ live_of-past documents k l)
    (λ k l. ((AreMembers-of head.created past lawful.following).none_past k l).0)

-- no document of a member states the feed's title
member_text-titled : (name : FeedName) (title : List ℕ) (e : EntryValue) (authors : List Person) → e.authors ≡ authors
    → member_text (record name { title = title }) e ≡ member_text name e
unfolding member_text front_text back_text edit_link shown_authors
member_text-titled name title e [] is = rw is refl
member_text-titled name title e (person ∷ more) is = rw is refl

live_text-titled : (name : FeedName) (title : List ℕ) (entries : List EntryValue)
    → live_text (record name { title = title }) entries ≡ live_text name entries
unfolding live_text
live_text-titled name title [] = refl
live_text-titled name title (e ∷ entries) =
    ap₂ (λ (one more : List ℕ). one ++ more) (member_text-titled name title e e.authors refl)
    (live_text-titled name title entries)

-- for crates above: so a change of the title leaves the digest
pub live_digest-named : (head : HeadValue) (operations : List Op) (entries : List EntryValue)
    → live_digest_of (name_of head operations) entries ≡ live_digest_of head.name entries
unfolding name_of
live_digest-named head operations entries =
    ap digest_of (live_text-titled head.name (title_after head.name.title operations) entries)

-- the certificate

first-name : (head : HeadValue) (operations : List Op) (newest : DocValue) (others : List DocValue)
    → newest ∷ others ≡ chain head operations → newest.name ≡ name_of head operations
unfolding chain cut_chain subscription_of document_of
first-name head operations newest others e =
    let windows = windows_of head operations in
    let same : newest ≡ subscription_of windows.ends windows.sealed head operations = cc in
    ap (λ (d : DocValue). d.name) same

made-version : (kept : List KeptValue) (c : CertificateValue) (best : KeptValue)
    → certificate_of c.base kept ≡ Some c → best_of kept ≡ Some best → c.version ≡ best.document.span.last
unfolding certificate_of certificate_by
made-version kept c best made e =
    let is : certificate_by c.base kept best ≡ c = same_Some (certificate_by c.base kept best) c
    (sym (ap (option_map (certificate_by c.base kept)) e) ∙ made) in
    sym (ap (λ (v : CertificateValue). v.version) is)

module _ (base : List ℕ) (payloads : List (List ℕ)) (kept : List KeptValue) (loaded : IsLoadedOf base payloads kept)
    (whole : first_missing kept ≡ None) (head : HeadValue) (history : List Op) (same : base ≡ head.name.base)
    (served : HoldsServed head history kept) where
  shows-version : (best : KeptValue) → best_of kept ≡ Some best
      → ShowsVersion head history best.document.span.last (chain_of kept)
  shows-version best e =
      (subst (ShowsServed head history (map own_offer kept) kept) e
      (taken_are_shown base kept head history (map own_offer kept) same served
      (loaded-offered base payloads kept loaded))).live whole

  -- For crates above, and the clause `served` of `Certificate::of`: the certificate of what a mirror holds is that of
  -- the feed after the operations up to the best document's last one.
  pub certificate-served : (best : KeptValue) → best_of kept ≡ Some best
      → certificate_of base kept ≡ Some (served_certificate head (take best.document.span.last history))
  unfolding certificate_of certificate_by served_certificate name_of
  certificate-served best e =
      let version = best.document.span.last in
      let past = take version history in
      let shows = shows-version best e in
      let lawful = prefix-lawful head history version (served-lawful head history kept best served e).1 in
      let name = first-name head past best.document (archives_from kept best.document.prev)
      (sym (chain_of-best kept best e) ∙ shows.whole_chain) in
      ap (option_map (certificate_by base kept)) e
      ∙ ap (λ (c : CertificateValue). Some c) (fields_same (certificate_by base kept best)
      (served_certificate head past)
      record {
        feed = ap (λ (n : FeedName). n.id) name;
        base = same;
        version = sym (length-take-le version history shows.past);
        lines = lines-documents base kept (loaded-held base payloads kept loaded) best e
            ∙ ap (map line_of) shows.whole_chain;
        live_count = shows.fold.count;
        live_digest = ap₂ (λ (n : FeedName) (entries : List EntryValue). live_digest_of n entries) name
            (shown-entries head (chain_of kept) past lawful shows.fold)
            ∙ live_digest-named head past (fold_entries past);
      })

  -- the clause `served` of `Certificate::of`
  pub made-served : (c : CertificateValue) → certificate_of c.base kept ≡ Some c → c.base ≡ base
      → c ≡ served_certificate head (take c.version history)
  made-served c made stated =
      let found = best-of_whole kept whole in
      let best = found.0 in
      let version = best.document.span.last in
      let is : c ≡ served_certificate head (take version history) =
      same_Some c (served_certificate head (take version history))
      (sym made ∙ ap (λ (b : List ℕ). certificate_of b kept) stated ∙ certificate-served best found.1) in
      let last = made-version kept c best made found.1 in
      is ∙ ap (λ (n : ℕ). served_certificate head (take n history)) (sym last)
