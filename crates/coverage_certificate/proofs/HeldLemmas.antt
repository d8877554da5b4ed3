-- The certificate of what a mirror holds: its lines, and its live entries, which are read back one after another.
use Rattle.std.proofs.Common.{◌≡◌, ℕ, zero, suc, ◌+◌, ◌-◌, ◌<◌, ◌≤◌, ◌^◌, true, false, cond, List, [], ◌∷◌, ◌++◌, length, IsTrue, Option, None, Some, IsSome, is_some, append-nil, append_assoc, length-append, refl, sym, ap, subst, ◌∙◌, arith}
use Rattle.std.specs.Prelude.{All, map, option_map}
use Rattle.std.specs.List.{cons_option, filter_map}
use Rattle.std.specs.Option.{option_to_list}
use Rattle.std.proofs.lemmas.List.{flat_map_more}
use Rattle.std.proofs.lemmas.List.Elements.{All-cons, All-nil}
use Rattle.sha2.specs.Hashers.{Holds256}
use Rattle.sha2.specs.declared.Sha256.{Sha256}
use Rattle.atom_values.specs.Entry.{EntryValue}
use Rattle.atom_writer.specs.Members.{member_text}
use Rattle.atom_writer.specs.declared.doc.FeedName.{FeedName}
use Rattle.chain_links.specs.declared.address.Address.TheVariants.{Feed, Archive}
use Rattle.feed_disk.specs.Disk.{DiskState}
use Rattle.feed_disk.specs.Moments.{LeavesAlone}
use Rattle.feed_disk.specs.declared.area.Area.{Area}
use Rattle.feed_disk.proofs.MomentLemmas.{alone_begins, alone_joins}
use Rattle.member_rules.specs.Fold.{count_up_to}
use Rattle.member_rules.specs.Shows.{greatest_member, live_count_of}
use Rattle.mirror_walk.specs.Holding.{KeptValue, best_of, chain_of, digest_at, numbers_from}
use Rattle.mirror_walk.specs.Listing.{IsLastLive, IsNextLive, entries_up_to, live_at, live_entries, with_entry}
use Rattle.mirror_walk.specs.Mirror.{MirrorValue, StandsFor, is_spent}
use Rattle.mirror_walk.proofs.InOrderLemmas.{entries-last, entries-next}
use Rattle.mirror_walk.specs.Rereading.{HasReadBack, IsSpentBy, KeepsAllBut}
use Rattle.coverage_certificate.specs.Certificate.{AreCoverLines, CoverValue, IsArchive}
use Rattle.chain_links.specs.declared.place.Place.{Place}
use Rattle.member_rules.specs.Chain.{place_of}
use Rattle.coverage_certificate.specs.Held.{certificate_by, certificate_of, line_at, lines_of}
use Rattle.coverage_certificate.specs.Live.{live_digest_of, live_entries_of, live_text}
use Rattle.coverage_certificate.proofs.SameLemmas.{made}

pub entries-are : (kept : List KeptValue) → live_entries kept ≡ live_entries_of (chain_of kept)
unfolding live_entries live_entries_of
entries-are kept = refl

length-with_entry : (entries : List EntryValue) (entry : Option EntryValue)
    → length (with_entry entries entry) ≡ cond (is_some entry) (length entries + 1) (length entries)
length-with_entry entries None = refl
length-with_entry entries (Some entry) = omega (arith, length-append entries (entry ∷ []))

length-entries : (live : ℕ → Option EntryValue) (n : ℕ) → length (entries_up_to live n) ≡ count_up_to live n
length-entries live zero = refl
length-entries live (suc n) =
    length-with_entry (entries_up_to live n) (live (suc n))
    ∙ ap (λ (k : ℕ). cond (is_some (live (suc n))) (k + 1) k) (length-entries live n)

length-live : (kept : List KeptValue) → length (live_entries kept) ≡ live_count_of (chain_of kept)
unfolding live_entries live_count_of
length-live kept = length-entries (live_at kept) (greatest_member (chain_of kept))

text-more : (name : FeedName) (entries : List EntryValue) (entry : EntryValue)
    → live_text name entries ++ member_text name entry ≡ live_text name (entries ++ entry ∷ [])
unfolding live_text
text-more name entries entry = flat_map_more (member_text name) [] entries entry

text-nil : (name : FeedName) → [] ≡ live_text name []
unfolding live_text
text-nil name = refl

-- only the mirror's count of calls changed, twice
pub keeps_joins : (a b c : MirrorValue) → KeepsAllBut a b → KeepsAllBut b c → KeepsAllBut a c
keeps_joins a b c first second =
    second ∙ ap (λ (m : MirrorValue). let left : MirrorValue = record m {
      log = record m.log { calls = c.log.calls };
    } in left) first

pub spent_joins : (a b c : MirrorValue) → KeepsAllBut a b → IsSpentBy b c → IsSpentBy a c
spent_joins a b c first second =
    second ∙ ap (λ (m : MirrorValue). let left : MirrorValue = record m {
      log = record m.log { calls = c.log.calls; spent = true };
    } in left) first

pub read_joins : (observable : Type 0) (s : DiskState) (a b c : MirrorValue) (failed : Type 0) → KeepsAllBut a b
    → HasReadBack observable s b c failed → HasReadBack observable s a c failed
read_joins observable s a b c failed first second = record {
  same = λ other. keeps_joins a b c first (second.same other);
  spent = λ is. spent_joins a b c first (second.spent is);
  stands = second.stands;
}

-- The digest of the live entries up to this number is under way. `observable` is whether contracts can see the disk.
pub record IsDigesting (observable : Type 0) (first : MirrorValue) (name : FeedName) (s now : DiskState)
    (mirror : MirrorValue) (hasher : Sha256) (count after : ℕ) : Type 0 where
  pub keeps : KeepsAllBut first mirror
  pub listed : IsTrue mirror.listed
  pub unspent : is_spent mirror ≡ false
  pub stands : observable → StandsFor now mirror
  pub message : List ℕ
  pub holds : Holds256 hasher message
  pub text : observable → message ≡ live_text name (entries_up_to (live_at first.kept) after)
  pub count_is : count ≡ length (entries_up_to (live_at first.kept) after)
  pub below : count ≤ after
  pub small : after < 2 ^ 32
  pub areas : (a : Area) → LeavesAlone s now a
  pub faults : now.faults ≡ s.faults

module _ (observable : Type 0) (first : MirrorValue) (name : FeedName) (s : DiskState) where
  pub digesting-start : (hasher : Sha256) → Holds256 hasher [] → IsTrue first.listed → is_spent first ≡ false
      → (observable → StandsFor s first) → IsDigesting observable first name s s first hasher 0 0
  digesting-start hasher holds listed unspent stands = record {
    keeps = refl;
    listed = listed;
    unspent = unspent;
    stands = stands;
    message = [];
    holds = holds;
    text = λ t. text-nil name;
    count_is = refl;
    below = omega arith;
    small = omega arith;
    areas = alone_begins s;
    faults = refl;
  }

  module _ (now : DiskState) (mirror : MirrorValue) (hasher : Sha256) (count after : ℕ)
      (h : IsDigesting observable first name s now mirror hasher count after) where
    pub same_kept : mirror.kept ≡ first.kept
    same_kept = ap (λ (m : MirrorValue). m.kept) h.keeps

    pub digesting-next : (later : DiskState) (left : MirrorValue) (more : Sha256) (number : ℕ) (entry : EntryValue)
        (document : List ℕ) → IsNextLive mirror.kept after number → number < 2 ^ 32
        → (observable → live_at mirror.kept number ≡ Some entry) → document ≡ member_text name entry
        → ((m : List ℕ) → Holds256 hasher m → Holds256 more (m ++ document)) → KeepsAllBut mirror left
        → (observable → StandsFor later left) → ((a : Area) → LeavesAlone now later a) → later.faults ≡ now.faults
        → IsDigesting observable first name s later left more (count + 1) number
    digesting-next later left more number entry document next small there written holds keeps stands areas faults =
        let found : IsNextLive first.kept after number =
        subst (λ (ks : List KeptValue). IsNextLive ks after number) same_kept next in
        let entries = entries-next first.kept after number found in
        record {
          keeps = keeps_joins first mirror left h.keeps keeps;
          listed = ap (λ (m : MirrorValue). m.listed) keeps ∙ h.listed;
          unspent = ap (λ (m : MirrorValue). m.log.spent) keeps ∙ h.unspent;
          stands = stands;
          message = h.message ++ document;
          holds = holds h.message h.holds;
          text = λ t.
              let at : live_at first.kept number ≡ Some entry =
              subst (λ (ks : List KeptValue). live_at ks number ≡ Some entry) same_kept (there t) in
              let is : found.entry ≡ entry = let both = sym found.live ∙ at in cc in
              ap (λ (m : List ℕ). m ++ document) (h.text t)
              ∙ ap (λ (d : List ℕ). live_text name (entries_up_to (live_at first.kept) after) ++ d)
              (written ∙ ap (member_text name) (sym is))
              ∙ text-more name (entries_up_to (live_at first.kept) after) found.entry
              ∙ ap (live_text name) (sym entries);
          count_is =
              omega (
                arith,
                h.count_is,
                ap length entries,
                length-append (entries_up_to (live_at first.kept) after) (found.entry ∷ []),
              );
          below = omega (arith, h.below, found.later);
          small = small;
          areas = λ a. alone_joins s now later a (h.areas a) (areas a);
          faults = faults ∙ h.faults;
        }

    pub digesting-entries : IsLastLive mirror.kept after
        → entries_up_to (live_at first.kept) after ≡ live_entries first.kept
    digesting-entries last =
        entries-last first.kept after (subst (λ (ks : List KeptValue). IsLastLive ks after) same_kept last)

    pub digesting-count : IsLastLive mirror.kept after → count ≡ live_count_of (chain_of first.kept)
    digesting-count last =
        h.count_is ∙ ap length (digesting-entries last) ∙ length-live first.kept

    pub digesting-text : IsLastLive mirror.kept after → observable
        → h.message ≡ live_text name (live_entries first.kept)
    digesting-text last t = h.text t ∙ ap (live_text name) (digesting-entries last)

-- the lines of the archives from this number down to 1
abbrev pub archives_to : List KeptValue → ℕ → List CoverValue
archives_to kept number = filter_map (line_at kept) (map Archive (numbers_from number))

archives_are : (kept : List KeptValue) (number : ℕ) → number < 2 ^ 32
    → All (λ (line : CoverValue). IsArchive line.address) (archives_to kept number)
archives_are kept zero small = All-nil _
archives_are kept (suc number) small =
    with_line kept number (digest_at kept (Archive (suc number))) small
    (archives_are kept number (omega arith))
  where
    with_line : (kept : List KeptValue) (number : ℕ) (digest : Option (List ℕ)) → suc number < 2 ^ 32
        → All (λ (line : CoverValue). IsArchive line.address) (archives_to kept number)
        → All (λ (line : CoverValue). IsArchive line.address)
        (cons_option (option_map (λ digest. record { address = Archive (suc number); digest = digest }) digest)
        (archives_to kept number))
    with_line kept number None small more = more
    with_line kept number (Some digest) small more =
        All-cons (λ (line : CoverValue). IsArchive line.address)
        record { address = Archive (suc number); digest = digest } (archives_to kept number)
        (omega arith, small) more

pub lines-are : (kept : List KeptValue) (prev : ℕ) → lines_of kept prev
    ≡ cons_option (line_at kept Feed) (archives_to kept prev)
unfolding lines_of
lines-are kept prev = refl

covers_begin : (lines : List CoverValue) (digest : Option (List ℕ)) → IsSome digest
    → All (λ (line : CoverValue). IsArchive line.address) lines
    → AreCoverLines (cons_option (option_map (λ digest. record { address = Feed; digest = digest }) digest) lines)
covers_begin lines None some are = cc
covers_begin lines (Some digest) some are = (refl, are)

some_digest : (best : Option KeptValue) → IsSome best → IsSome (option_map (λ (k : KeptValue). k.digest) best)
some_digest None some = some
some_digest (Some best) some = refl

pub lines_are_covers : (kept : List KeptValue) (prev : ℕ) → prev < 2 ^ 32 → IsSome (best_of kept)
    → AreCoverLines (lines_of kept prev)
lines_are_covers kept prev small some =
    subst AreCoverLines (sym (lines-are kept prev))
    (covers_begin (archives_to kept prev) (digest_at kept Feed) (some_digest (best_of kept) some)
    (archives_are kept prev small))

cons_is : (line : Option CoverValue) (lines : List CoverValue) → cons_option line lines ≡ option_to_list line ++ lines
cons_is None lines = refl
cons_is (Some line) lines = refl

-- the lines of the feed's document and of no archive yet
pub held-start : (kept : List KeptValue) (prev : ℕ) (lines : List CoverValue)
    → lines ≡ [] ++ option_to_list (line_at kept Feed)
    → lines ++ archives_to kept (prev - 0) ≡ lines_of kept prev
held-start kept prev lines e =
    let all : prev - 0 ≡ prev = omega arith in
    ap (λ (n : ℕ). lines ++ archives_to kept n) all
    ∙ ap (λ (ls : List CoverValue). ls ++ archives_to kept prev) e
    ∙ sym (cons_is (line_at kept Feed) (archives_to kept prev)) ∙ sym (lines-are kept prev)

archives_step : (kept : List KeptValue) (number : ℕ) → 1 ≤ number
    → archives_to kept number ≡ option_to_list (line_at kept (Archive number)) ++ archives_to kept (number - 1)
archives_step kept zero some = absurd (omega arith)
archives_step kept (suc number) some =
    let less : suc number - 1 ≡ number = omega arith in
    cons_is (line_at kept (Archive (suc number))) (archives_to kept number)
    ∙ ap (λ (n : ℕ). option_to_list (line_at kept (Archive (suc number))) ++ archives_to kept n) (sym less)

-- one more archive
pub held-next : (kept : List KeptValue) (prev before : ℕ) (lines more : List CoverValue) → before < prev
    → lines ++ archives_to kept (prev - before) ≡ lines_of kept prev
    → more ≡ lines ++ option_to_list (line_at kept (Archive (prev - before)))
    → more ++ archives_to kept (prev - (before + 1)) ≡ lines_of kept prev
held-next kept prev before lines more within so_far e =
    let less : prev - (before + 1) ≡ prev - before - 1 = omega arith in
    ap (λ (n : ℕ). more ++ archives_to kept n) less
    ∙ ap (λ (ls : List CoverValue). ls ++ archives_to kept (prev - before - 1)) e
    ∙ append_assoc lines (option_to_list (line_at kept (Archive (prev - before))))
    (archives_to kept (prev - before - 1))
    ∙ ap (λ (ls : List CoverValue). lines ++ ls) (sym (archives_step kept (prev - before) (omega arith))) ∙ so_far

pub held-ends : (kept : List KeptValue) (prev before : ℕ) (lines : List CoverValue) → prev ≤ before
    → lines ++ archives_to kept (prev - before) ≡ lines_of kept prev → lines ≡ lines_of kept prev
held-ends kept prev before lines past so_far =
    let none : prev - before ≡ 0 = omega arith in
    sym (append-nil lines) ∙ ap (λ (n : ℕ). lines ++ archives_to kept n) (sym none) ∙ so_far

-- the certificate of what is held, from the best document's place and name
pub held_made : (base : List ℕ) (kept : List KeptValue) (best : Option KeptValue) → best_of kept ≡ best
    → (place : Place) (name : FeedName) (lines : List CoverValue) (count : ℕ) (digest : List ℕ)
    → option_map (λ (k : KeptValue). place_of k.document) best ≡ Some place
    → option_map (λ (k : KeptValue). k.document.name) best ≡ Some name → lines ≡ lines_of kept place.prev
    → count ≡ live_count_of (chain_of kept)
    → certificate_of base kept ≡ Some (made name.id base place.span.last lines count
    (live_digest_of name (live_entries_of (chain_of kept))))
unfolding certificate_of certificate_by
held_made base kept None e place name lines count digest at named is_lines is_count = cc
held_made base kept (Some best) e place name lines count digest at named is_lines is_count =
    let same_place : place_of best.document ≡ place = cc in
    let same_name : best.document.name ≡ name = cc in
    ap (option_map (certificate_by base kept)) e
    ∙ ap (λ (p : Place). Some (made best.document.name.id base p.span.last (lines_of kept p.prev)
    (live_count_of (chain_of kept)) (live_digest_of best.document.name (live_entries_of (chain_of kept))))) same_place
    ∙ ap (λ (n : FeedName). Some (made n.id base place.span.last (lines_of kept place.prev)
    (live_count_of (chain_of kept)) (live_digest_of n (live_entries_of (chain_of kept))))) same_name
    ∙ ap (λ (ls : List CoverValue). Some (made name.id base place.span.last ls (live_count_of (chain_of kept))
    (live_digest_of name (live_entries_of (chain_of kept))))) (sym is_lines)
    ∙ ap (λ (n : ℕ). Some (made name.id base place.span.last lines n
    (live_digest_of name (live_entries_of (chain_of kept))))) (sym is_count)
