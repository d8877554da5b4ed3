-- The checks of the documents of all lines.
use Rattle.std.proofs.Common.{◌≡◌, inl, inr, ℕ, zero, suc, ◌+◌, ◌<◌, Bool, true, false, not, cond, List, [], ◌∷◌, length}
use Rattle.std.proofs.Common.{Option, Some, None, refl, sym, ap, subst, ◌∙◌, arith}
use Rattle.std.specs.Prelude.{find, option_map, slice_get, ◌==◌, ◌&&◌}
use Rattle.std.proofs.lemmas.Bool.{and_from, and_parts, cases_lt, eq-eqb, eqb-true, false≢true, ne_eqb}
use Rattle.std.proofs.lemmas.Option.{same_Some}
use Rattle.atom_writer.specs.Doc.{DocValue}
use Rattle.atom_writer.specs.Pieces.{own_address}
use Rattle.atom_writer.specs.declared.doc.Kind.{Kind}
use Rattle.atom_writer.specs.declared.doc.Kind.TheVariants.{Subscription, Archive as Sealed}
use Rattle.chain_links.specs.Place.{Adjoins}
use Rattle.chain_links.specs.declared.address.Address.TheVariants.{Archive}
use Rattle.member_rules.specs.Chain.{place_of}
use Rattle.mirror_walk.specs.Holding.{is_archive}
use Rattle.mirror_walk.proofs.MirrorLemmas.{address-archive}
use Rattle.coverage_auditor.specs.Links.{Link, broken_chain, is_broken, is_followed, links_of, oldest_of, unless_same}
use Rattle.coverage_auditor.specs.declared.verdict.Verdict.{Verdict}
use Rattle.coverage_auditor.specs.declared.verdict.Verdict.TheVariants.{BrokenChain}

pub unless-same : (found wanted : ℕ) (verdict : Verdict) → found ≡ wanted → unless_same found wanted verdict ≡ None
unless-same found wanted verdict e = ap (λ b. cond b None (Some verdict)) (eq-eqb found wanted e)

pub unless-other : (found wanted : ℕ) (verdict : Verdict) → (found ≡ wanted → ⊥)
    → unless_same found wanted verdict ≡ Some verdict
unless-other found wanted verdict ne = ap (λ b. cond b None (Some verdict)) (ne_eqb found wanted ne)

-- which documents adjoin

archive-from : (number : ℕ) (kind : Kind) → own_address kind ≡ Archive number → is_archive number kind ≡ true
archive-from number kind e = subst (λ (k : Kind). is_archive number k ≡ true) (sym (address-archive kind number e))
    (eq-eqb number number refl)

from-archive : (number : ℕ) (kind : Kind) → is_archive number kind ≡ true → own_address kind ≡ Archive number
from-archive number Subscription e = absurd (false≢true e)
from-archive number (Sealed other) e = ap Archive (eqb-true other number e)

pub adjoins-followed : (newer older : DocValue) → Adjoins (place_of older) (place_of newer)
    → is_followed newer older ≡ true
adjoins-followed newer older adjoins =
    and_from (is_archive newer.prev older.kind) (older.span.last + 1 == newer.span.first)
    (archive-from newer.prev older.kind adjoins.named)
    (eq-eqb (older.span.last + 1) newer.span.first adjoins.spans)

pub followed-adjoins : (newer older : DocValue) → is_followed newer older ≡ true
    → Adjoins (place_of older) (place_of newer)
followed-adjoins newer older e =
    let parts = and_parts (is_archive newer.prev older.kind) (older.span.last + 1 == newer.span.first) e in
    record {
      named = from-archive newer.prev older.kind parts.0;
      spans = eqb-true (older.span.last + 1) newer.span.first parts.1;
    }

-- the links of the first documents

-- each document up to the one at this index is followed
abbrev pub AreFollowed : List DocValue → ℕ → Type 0
AreFollowed documents at = (k : ℕ) (newer older : DocValue) → suc k < at → slice_get documents k ≡ Some newer
    → slice_get documents (suc k) ≡ Some older → is_followed newer older ≡ true

no-document : (document : DocValue) → None ≡ Some document → ⊥
no-document document e = cc

find-none : (documents : List DocValue) → AreFollowed documents (length documents)
    → find is_broken (links_of documents) ≡ None
find-none [] followed = refl
find-none (only ∷ []) followed = refl
find-none (newer ∷ older ∷ more) followed =
    ap (λ b. cond (not b) (Some record { newer = newer; older = older }) (find is_broken (links_of (older ∷ more))))
    (followed 0 newer older (omega arith) refl refl)
    ∙ find-none (older ∷ more) (λ k a b l first second. followed (suc k) a b (omega arith) first second)

find-some : (documents : List DocValue) (at : ℕ) (newer older : DocValue) → AreFollowed documents (suc at)
    → slice_get documents at ≡ Some newer → slice_get documents (suc at) ≡ Some older
    → is_followed newer older ≡ false
    → find is_broken (links_of documents) ≡ Some record { newer = newer; older = older }
find-some [] at newer older followed first second broken = absurd (no-document newer first)
find-some (only ∷ []) at newer older followed first second broken = absurd (no-document older second)
find-some (a ∷ b ∷ more) zero newer older followed first second broken =
    let is_newer : a ≡ newer = same_Some a newer first in
    let is_older : b ≡ older = same_Some b older second in
    let here : is_followed a b ≡ false =
    subst (λ (d : DocValue). is_followed a d ≡ false) (sym is_older)
    (subst (λ (d : DocValue). is_followed d older ≡ false) (sym is_newer) broken) in
    ap (λ t. cond (not t) (Some record { newer = a; older = b }) (find is_broken (links_of (b ∷ more)))) here
    ∙ (λ i. Some record { newer = is_newer i; older = is_older i })
find-some (a ∷ b ∷ more) (suc at) newer older followed first second broken =
    ap (λ t. cond (not t) (Some record { newer = a; older = b }) (find is_broken (links_of (b ∷ more))))
    (followed 0 a b (omega arith) refl refl)
    ∙ find-some (b ∷ more) at newer older (λ k x y l p q. followed (suc k) x y (omega arith) p q) first second broken

pub chain-whole : (documents : List DocValue) → AreFollowed documents (length documents)
    → broken_chain documents ≡ None
unfolding broken_chain
chain-whole documents followed =
    ap (option_map (λ (link : Link). BrokenChain (own_address link.older.kind))) (find-none documents followed)

pub chain-broken : (documents : List DocValue) (at : ℕ) (newer older : DocValue) → AreFollowed documents (suc at)
    → slice_get documents at ≡ Some newer → slice_get documents (suc at) ≡ Some older
    → is_followed newer older ≡ false → broken_chain documents ≡ Some (BrokenChain (own_address older.kind))
unfolding broken_chain
chain-broken documents at newer older followed first second broken =
    ap (option_map (λ (link : Link). BrokenChain (own_address link.older.kind)))
    (find-some documents at newer older followed first second broken)

-- one more document
pub followed-more : (documents : List DocValue) (at : ℕ) (newer older : DocValue)
    → AreFollowed documents (suc at)
    → slice_get documents at ≡ Some newer → slice_get documents (suc at) ≡ Some older
    → is_followed newer older ≡ true → AreFollowed documents (suc (suc at))
followed-more documents at newer older followed first second follows k a b l p q = elim (cases_lt (suc k) (suc at)) [
  | inl before ↦ followed k a b before p q
  | inr last ↦
      let same : k ≡ at = omega arith in
      let is_newer : newer ≡ a = same_Some newer a (sym first ∙ ap (slice_get documents) (sym same) ∙ p) in
      let is_older : older ≡ b = same_Some older b (sym second ∙ ap (λ n. slice_get documents (suc n)) (sym same) ∙ q)
      in
      subst (λ (d : DocValue). is_followed a d ≡ true) is_older
      (subst (λ (d : DocValue). is_followed d older ≡ true) is_newer follows)
]

-- the oldest document
pub oldest-at : (newest : DocValue) (others : List DocValue)
    → slice_get (newest ∷ others) (length others) ≡ Some (oldest_of newest others)
oldest-at newest [] = refl
oldest-at newest (older ∷ more) = oldest-at older more
