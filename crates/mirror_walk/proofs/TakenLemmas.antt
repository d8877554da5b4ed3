-- Documents that a mirror takes one after another, each under its own address.
use Rattle.std.proofs.Common.{◌≡◌, inl, inr, ℕ, zero, suc, List, [], ◌∷◌, ◌++◌, Some}
use Rattle.std.proofs.Common.{Ok, Err, take, refl, sym, ap, subst, ◌∙◌, append_assoc, append-nil}
use Rattle.std.proofs.Common.{map}
use Rattle.std.specs.Prelude.{slice_get}
use Rattle.std.proofs.lemmas.List.{map-append}
use Rattle.atom_grammar.proofs.RefusalLemmas.{one_reading}
use Rattle.atom_writer.specs.Doc.{DocValue}
use Rattle.atom_writer.specs.Pieces.{text}
use Rattle.mirror_walk.specs.declared.answer.Accepted.TheVariants.{Taken}
use Rattle.mirror_walk.specs.declared.answer.Offered.TheVariants.{WrongAddress}
use Rattle.mirror_walk.specs.Accept.{IsKeptOf, accept, own_text}
use Rattle.mirror_walk.specs.Holding.{KeptValue, payloads_of}
use Rattle.mirror_walk.specs.Loaded.{IsLoadedOf, own_offer}
use Rattle.mirror_walk.specs.Loading.{IsNext}
use Rattle.mirror_walk.specs.Offers.{AreAnswered, AreTakenOf}
use Rattle.mirror_walk.proofs.AcceptLemmas.{by-address}
use Rattle.mirror_walk.proofs.AddressLemmas.{address-known}

-- a document that is taken has the mirror's base, and is offered under its own address
pub taken-place : (base : List ℕ) (kept : List KeptValue) (address : List ℕ) (given : KeptValue)
    → accept base kept address given ≡ Ok Taken
    → (given.document.name.base ≡ base) × (address ≡ own_text given.document)
taken-place base kept address given taken = elim (address-known base address given.document) [
  | inl right ↦ right
  | inr wrong ↦
      let refused : accept base kept address given ≡ Err (WrongAddress (own_text given.document)) =
      by-address base kept address given _ wrong in
      absurd (cc)
]

pub taken-next : (base : List ℕ) (kept : List KeptValue) (address : List ℕ) (given : KeptValue)
    → accept base kept address given ≡ Ok Taken → IsNext base kept given
taken-next base kept address given taken =
    subst (λ (a : List ℕ). accept base kept a given ≡ Ok Taken) (taken-place base kept address given taken).1
    taken

-- two readings of the same bytes
pub same-kept : (bytes : List ℕ) (one other : KeptValue) → IsKeptOf bytes one → IsKeptOf bytes other → one
    ≡ other
same-kept bytes one other read read' =
    let made : DocValue → List ℕ → KeptValue = λ d g. record { document = d; digest = g } in
    let document = one_reading one.document other.document read.is_doc read'.is_doc
    (sym read.text ∙ read'.text) in
    ap (λ (d : DocValue). made d one.digest) document
    ∙ ap (made other.document) (read.digest ∙ sym read'.digest)

-- the bytes of a kept document are its text
pub kept-text : (bytes : List ℕ) (given : KeptValue) → IsKeptOf bytes given
    → IsKeptOf (text given.document) given
kept-text bytes given read = subst (λ (b : List ℕ). IsKeptOf b given) read.text read

pub text-kept : (bytes : List ℕ) (given : KeptValue) → IsKeptOf (text given.document) given
    → bytes ≡ text given.document → IsKeptOf bytes given
text-kept bytes given read is = subst (λ (b : List ℕ). IsKeptOf b given) (sym is) read

-- a document is taken after those before it
pub record IsTakenAfter (base : List ℕ) (kept : List KeptValue) (given : KeptValue) : Type 0 where
  pub read : IsKeptOf (text given.document) given
  pub next : IsNext base kept given

-- each of these documents is taken after those that are held and those before it
abbrev pub AreTakenAfter : List ℕ → List KeptValue → List KeptValue → Type 0
AreTakenAfter base kept [] = Unit {0}
AreTakenAfter base kept (given ∷ others) =
    IsTakenAfter base kept given × AreTakenAfter base (kept ++ given ∷ []) others

-- documents that are held after answers that were all `Taken`
record HeldAfter (base : List ℕ) (kept left : List KeptValue) : Type 0 where
  others : List KeptValue
  is : left ≡ kept ++ others
  taken : AreTakenAfter base kept others

held_after : (base : List ℕ) (kept given left : List KeptValue)
    → AreAnswered base kept (map own_offer given) (map (λ _. Ok Taken) given) left → HeldAfter base kept left
held_after base kept [] left same =
    record { others = []; is = same ∙ sym (append-nil kept); taken = tt }
held_after base kept (k ∷ given) left (next, one, rest) =
    let g = one.given in
    let after = held_after base next given left rest in
    let is_next : next ≡ kept ++ g ∷ [] = one.left_over in
    record {
      others = g ∷ after.others;
      is = after.is ∙ ap (λ (l : List KeptValue). l ++ after.others) is_next
          ∙ append_assoc kept (g ∷ []) after.others;
      taken = (
        record {
          read = kept-text (text k.document) g one.read;
          next = taken-next base kept (own_text k.document) g (sym one.first_fit);
        },
        subst (λ (l : List KeptValue). AreTakenAfter base l after.others) is_next after.taken,
      );
    }

-- the two forms of a load
pub loaded-taken : (base : List ℕ) (payloads : List (List ℕ)) (kept : List KeptValue)
    → IsLoadedOf base payloads kept
    → AreTakenAfter base [] kept
loaded-taken base payloads kept loaded =
    let after = held_after base [] kept kept loaded.taken in
    subst (AreTakenAfter base []) (sym after.is) after.taken

answered : (base : List ℕ) (kept given : List KeptValue) → AreTakenAfter base kept given
    → AreAnswered base kept (map own_offer given) (map (λ _. Ok Taken) given) (kept ++ given)
answered base kept [] taken = append-nil kept
answered base kept (g ∷ given) (one, others) = (
  kept ++ g ∷ [],
  record { given = g; read = one.read; first_fit = sym one.next; left_over = refl },
  subst (AreAnswered base (kept ++ g ∷ []) (map own_offer given) (map (λ _. Ok Taken) given))
      (append_assoc kept (g ∷ []) given) (answered base (kept ++ g ∷ []) given others),
)

pub taken-loaded : (base : List ℕ) (kept : List KeptValue) → AreTakenAfter base [] kept
    → IsLoadedOf base (payloads_of kept) kept
taken-loaded base kept taken = record { payloads = refl; taken = answered base [] kept taken }

-- one more document
taken_more : (base : List ℕ) (kept given : List KeptValue) (more : KeptValue) → AreTakenAfter base kept given
    → IsTakenAfter base (kept ++ given) more → AreTakenAfter base kept (given ++ more ∷ [])
taken_more base kept [] more taken one =
    (subst (λ (l : List KeptValue). IsTakenAfter base l more) (append-nil kept) one, tt)
taken_more base kept (g ∷ given) more (first, others) one = (
  first,
  taken_more base (kept ++ g ∷ []) given more others
      (subst (λ (l : List KeptValue). IsTakenAfter base l more) (sym (append_assoc kept (g ∷ []) given)) one),
)

pub payloads-more : (kept : List KeptValue) (more : KeptValue)
    → payloads_of (kept ++ more ∷ []) ≡ payloads_of kept ++ text more.document ∷ []
payloads-more kept more = map-append (λ (k : KeptValue). text k.document) kept (more ∷ [])

pub loaded-more : (base : List ℕ) (kept : List KeptValue) (more : KeptValue)
    → IsLoadedOf base (payloads_of kept) kept
    → IsKeptOf (text more.document) more → IsNext base kept more
    → IsLoadedOf base (payloads_of (kept ++ more ∷ [])) (kept ++ more ∷ [])
loaded-more base kept more loaded read next =
    taken-loaded base (kept ++ more ∷ []) (taken_more base [] kept more
    (loaded-taken base (payloads_of kept) kept loaded) (record { read = read; next = next }))

pub loaded-none : (base : List ℕ) → IsLoadedOf base [] []
loaded-none base = record { payloads = refl; taken = refl }

-- the document of an index
taken_at : (base : List ℕ) (kept given : List KeptValue) (index : ℕ) (k : KeptValue)
    → AreTakenAfter base kept given
    → slice_get given index ≡ Some k → IsTakenAfter base (kept ++ take index given) k
taken_at base kept [] index k taken there = absurd (cc)
taken_at base kept (g ∷ given) zero k (one, others) there =
    let same : g ≡ k = cc in
    subst (λ (l : List KeptValue). IsTakenAfter base l k) (sym (append-nil kept))
    (subst (IsTakenAfter base kept) same one)
taken_at base kept (g ∷ given) (suc index) k (one, others) there =
    subst (λ (l : List KeptValue). IsTakenAfter base l k) (append_assoc kept (g ∷ []) (take index given))
    (taken_at base (kept ++ g ∷ []) given index k others there)

pub loaded-at : (base : List ℕ) (payloads : List (List ℕ)) (kept : List KeptValue) (index : ℕ) (k : KeptValue)
    → IsLoadedOf base payloads kept → slice_get kept index ≡ Some k → IsTakenAfter base (take index kept) k
loaded-at base payloads kept index k loaded there =
    taken_at base [] kept index k (loaded-taken base payloads kept loaded) there

-- the first documents
taken_first : (base : List ℕ) (kept given : List KeptValue) (count : ℕ) → AreTakenAfter base kept given
    → AreTakenAfter base kept (take count given)
taken_first base kept given zero taken = tt
taken_first base kept [] (suc count) taken = tt
taken_first base kept (g ∷ given) (suc count) (one, others) =
    (one, taken_first base (kept ++ g ∷ []) given count others)

-- the same payloads load to the same documents
same_taken : (base base' : List ℕ) (kept kept' one other : List KeptValue) → AreTakenAfter base kept one
    → AreTakenAfter base' kept' other → payloads_of one ≡ payloads_of other → one ≡ other
same_taken base base' kept kept' [] [] taken taken' same = refl
same_taken base base' kept kept' [] (k ∷ other) taken taken' same = absurd (cc)
same_taken base base' kept kept' (g ∷ one) [] taken taken' same = absurd (cc)
same_taken base base' kept kept' (g ∷ one) (k ∷ other) (first, rest) (first', rest') same =
    let texts : text g.document ≡ text k.document = cc in
    let others : payloads_of one ≡ payloads_of other = cc in
    let is : g ≡ k = same-kept (text g.document) g k first.read
    (text-kept (text g.document) k first'.read texts) in
    let more : one ≡ other = same_taken base base' (kept ++ g ∷ []) (kept' ++ k ∷ []) one other rest rest'
    others in
    cc

pub loaded-once : (base : List ℕ) (payloads : List (List ℕ)) (one other : List KeptValue)
    → IsLoadedOf base payloads one → IsLoadedOf base payloads other → one ≡ other
loaded-once base payloads one other loaded loaded' =
    same_taken base base [] [] one other (loaded-taken base payloads one loaded)
    (loaded-taken base payloads other loaded') (sym loaded.payloads ∙ loaded'.payloads)

take-payloads : (kept : List KeptValue) (count : ℕ) → payloads_of (take count kept)
    ≡ take count (payloads_of kept)
take-payloads kept zero = refl
take-payloads [] (suc count) = refl
take-payloads (k ∷ kept) (suc count) = ap (λ (ps : List (List ℕ)). text k.document ∷ ps)
    (take-payloads kept count)

pub loaded-first : (base : List ℕ) (payloads : List (List ℕ)) (kept : List KeptValue) (count : ℕ)
    → IsLoadedOf base payloads kept → IsLoadedOf base (take count payloads) (take count kept)
loaded-first base payloads kept count loaded =
    subst (λ (ps : List (List ℕ)). IsLoadedOf base ps (take count kept))
    (take-payloads kept count ∙ ap (take count) (sym loaded.payloads))
    (taken-loaded base (take count kept) (taken_first base [] kept count
    (loaded-taken base payloads kept loaded)))

-- the document of a payload
pub payload-at : (kept : List KeptValue) (index : ℕ) (payload : List ℕ) → slice_get (payloads_of kept) index
    ≡ Some payload
    → (k : KeptValue) × (slice_get kept index ≡ Some k) × (payload ≡ text k.document)
payload-at [] index payload there = absurd (cc)
payload-at (k ∷ kept) zero payload there =
    let is : payload ≡ text k.document = cc in (k, refl, is)
payload-at (k ∷ kept) (suc index) payload there = payload-at kept index payload there

pub at-payload : (kept : List KeptValue) (index : ℕ) (k : KeptValue) → slice_get kept index ≡ Some k
    → slice_get (payloads_of kept) index ≡ Some (text k.document)
at-payload [] index k there = absurd (cc)
at-payload (g ∷ kept) zero k there =
    let is : g ≡ k = cc in ap (λ (v : KeptValue). Some (text v.document)) is
at-payload (g ∷ kept) (suc index) k there = at-payload kept index k there

-- for crates above: the documents of a load are held after they were offered in order
pub loaded-offered : (base : List ℕ) (payloads : List (List ℕ)) (kept : List KeptValue)
    → IsLoadedOf base payloads kept → AreTakenOf base (map own_offer kept) kept
loaded-offered base payloads kept loaded =
    record { answers = map (λ _. Ok Taken) kept; answered = loaded.taken }
