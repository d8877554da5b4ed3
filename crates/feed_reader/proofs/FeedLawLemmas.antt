-- A feed document is read in one way, and refused for one reason at one offset.
use Rattle.std.proofs.Common.{◌≡◌, ℕ, ℤ, List, [], ◌∷◌, Option, Some, sym, ap, subst, ◌∙◌, inl, inr}
use Rattle.std.proofs.Common.{codes, refl}
use Rattle.std.specs.List.{AllZip}
use Rattle.atom_values.specs.DateText.{States}
use Rattle.atom_values.specs.Space.{trimmed}
use Rattle.atom_values.proofs.DateTextReadLemmas.{value_of-states}
use Rattle.feed_reader.specs.declared.fault.FeedWhy.{FeedWhy}
use Rattle.feed_reader.specs.declared.fault.FeedWhy.TheVariants.{Token}
use Rattle.feed_reader.specs.declared.values.ForeignEntry.{ForeignEntry}
use Rattle.feed_reader.specs.declared.values.ForeignGone.{ForeignGone}
use Rattle.xml_tokens.specs.Tree.{Element, Content, IsDocument}
use Rattle.xml_tokens.specs.Children.{Child, child}
use Rattle.feed_reader.specs.Feed.{DocumentValue, IsDocumentOf, IsEntryOf, IsGoneOf, StatesMoment, cut_text}
use Rattle.feed_reader.specs.FeedFaults.{feed_rules}
use Rattle.feed_reader.specs.FeedDocument.{IsRefusalIn, SpellsFeed, feed_depth, placed_in}
use Rattle.feed_reader.specs.FeedLaws.{BytesHaveOneFeedRefusal, BytesSpellOneFeed, FeedsAreNotRefused}
use Rattle.feed_reader.proofs.FeedFaultLemmas.{feed_ranked}
use Rattle.xml_tokens.proofs.OneDocumentLemmas.{one_document}
use Rattle.xml_tokens.proofs.OneRefusalLemmas.{document_not_refused, one_token_refusal}
use Rattle.xml_tokens.proofs.OrderLemmas.{no_first, one_first}

-- a text states one timestamp at most
one_date : (text : List ℕ) (a b : ℤ) → States text a → States text b → a ≡ b
one_date text a b is_a is_b =
    let e : Some a ≡ Some b = sym ((value_of-states text a).1 is_a) ∙ (value_of-states text b).1 is_b in
    cc

one_moment : (date : Option Child) (a b : ℤ) → StatesMoment date a → StatesMoment date b → a ≡ b
one_moment date a b (c, is, states) (d, is', states') =
    let e : Some c ≡ Some d = sym is ∙ is' in
    let same : c ≡ d = cc in
    one_date (cut_text d) a b (subst (λ k. States (cut_text k) a) same states) states'

one_entry : (c : Child) (a b : ForeignEntry) → IsEntryOf c a → IsEntryOf c b → a ≡ b
one_entry c a b x y =
    let ids : Some a.id ≡ Some b.id = sym x.id ∙ y.id in
    let id : a.id ≡ b.id = cc in
    let title : a.title ≡ b.title = x.title ∙ sym y.title in
    let updated : a.updated ≡ b.updated =
    one_moment (child (codes "updated") c.content) a.updated b.updated x.updated y.updated in
    λ i. record { id = id i; title = title i; updated = updated i }

one_gone : (c : Child) (a b : ForeignGone) → IsGoneOf c a → IsGoneOf c b → a ≡ b
one_gone c a b x y =
    let ids : Some a.id ≡ Some b.id = sym x.id ∙ y.id in
    let id : a.id ≡ b.id = cc in
    let dates : Some x.when.0 ≡ Some y.when.0 = sym x.when.1 ∙ y.when.1 in
    let date : x.when.0 ≡ y.when.0 = cc in
    let when : a.when ≡ b.when =
    one_date (trimmed y.when.0) a.when b.when (subst (λ d. States (trimmed d) a.when) date x.when.2) y.when.2 in
    λ i. record { id = id i; when = when i }

one_list : {A B : Type 0} (R : A → B → Type 0) → ((x : A) (a b : B) → R x a → R x b → a ≡ b) → (xs : List A)
    (ys zs : List B) → AllZip R xs ys → AllZip R xs zs → ys ≡ zs
one_list R one [] [] [] all other = refl
one_list R one [] [] (z ∷ zs) all other = absurd other
one_list R one [] (y ∷ ys) zs all other = absurd all
one_list R one (x ∷ xs) [] zs all other = absurd all
one_list R one (x ∷ xs) (y ∷ ys) [] all other = absurd other
one_list R one (x ∷ xs) (y ∷ ys) (z ∷ zs) all other =
    let head = one x y z all.0 other.0 in
    let tail = one_list R one xs ys zs all.1 other.1 in
    λ i. head i ∷ tail i

-- a content is read as one document
pub one_value : (address : List ℕ) (inner : Content) (a b : DocumentValue) → IsDocumentOf address inner a →
    IsDocumentOf address inner b → a ≡ b
one_value address inner a b x y =
    let ids : Some a.id ≡ Some b.id = sym x.id ∙ y.id in
    let id : a.id ≡ b.id = cc in
    let updated : a.updated ≡ b.updated =
    one_moment (child (codes "updated") inner) a.updated b.updated x.updated y.updated in
    let prev : a.prev ≡ b.prev = x.prev ∙ sym y.prev in
    let entries : a.entries ≡ b.entries = one_list IsEntryOf one_entry _ a.entries b.entries x.entries y.entries in
    let gone : a.gone ≡ b.gone = one_list IsGoneOf one_gone _ a.gone b.gone x.gone y.gone in
    λ i. record { id = id i; updated = updated i; prev = prev i; entries = entries i; gone = gone i }

pub one_feed : BytesSpellOneFeed
one_feed bytes address one other x y =
    let same = one_document feed_depth bytes x.root y.root x.content y.content x.document y.document in
    one_value address y.content one other (subst (λ c. IsDocumentOf address c one) same.1 x.read) y.read

-- a document that is refused is none that is read
pub refused_never : (bytes address : List ℕ) (d : DocumentValue) (root : Element) (c : Content) (at : ℕ)
    (why : FeedWhy) → IsDocument feed_depth bytes root c → IsRefusalIn address root c (Some (at, why)) →
    SpellsFeed bytes address d → ⊥
refused_never bytes address d root c at why document refusal s =
    let same = one_document feed_depth bytes root s.root c s.content document s.document in
    no_first (feed_rules address) (placed_in address s.root s.content) at why s.faultless
    (subst (λ k. IsRefusalIn address s.root k (Some (at, why))) same.1
    (subst (λ r. IsRefusalIn address r c (Some (at, why))) same.0 refusal))

pub one_feed_refusal : BytesHaveOneFeedRefusal
one_feed_refusal bytes address at place why cause (inl (token, refused, is)) (inl (token', refused', is')) =
    let one = one_token_refusal feed_depth bytes at place token token' refused refused' in
    (one.0, is ∙ ap Token one.1 ∙ sym is')
one_feed_refusal bytes address at place why cause (inl (token, refused, is)) (inr (root, c, document, refusal)) =
    absurd (document_not_refused feed_depth bytes root c at token document refused)
one_feed_refusal bytes address at place why cause (inr (root, c, document, refusal)) (inl (token, refused, is)) =
    absurd (document_not_refused feed_depth bytes root c place token document refused)
one_feed_refusal bytes address at place why cause (inr (root, c, document, refusal))
    (inr (root', c', document', refusal')) =
    let same = one_document feed_depth bytes root root' c c' document document' in
    one_first (feed_rules address) (feed_ranked address) (placed_in address root' c') at place why cause
    (subst (λ k. IsRefusalIn address root' k (Some (at, why))) same.1
    (subst (λ r. IsRefusalIn address r c (Some (at, why))) same.0 refusal)) refusal'

pub feed_not_refused : FeedsAreNotRefused
feed_not_refused bytes address d at why s (inl (token, refused, is)) =
    document_not_refused feed_depth bytes s.root s.content at token s.document refused
feed_not_refused bytes address d at why s (inr (root, c, document, refusal)) =
    refused_never bytes address d root c at why document refusal s
