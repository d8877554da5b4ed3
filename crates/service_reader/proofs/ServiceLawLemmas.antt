-- A service document is read in one way, and refused for one reason at one offset.
use Rattle.std.proofs.Common.{◌≡◌, ℕ, List, [], ◌∷◌, Some, sym, ap, subst, ◌∙◌, inl, inr, refl}
use Rattle.xml_tokens.specs.Tree.{Element, Content, IsDocument}
use Rattle.xml_tokens.specs.Children.{Child}
use Rattle.xml_tokens.proofs.OneDocumentLemmas.{one_document}
use Rattle.xml_tokens.proofs.OneRefusalLemmas.{document_not_refused, one_token_refusal}
use Rattle.xml_tokens.proofs.OrderLemmas.{no_first, one_first}
use Rattle.service_reader.specs.declared.fault.ServiceWhy.{ServiceWhy}
use Rattle.service_reader.specs.declared.fault.ServiceWhy.TheVariants.{Token}
use Rattle.service_reader.specs.declared.values.Collection.{Collection}
use Rattle.service_reader.specs.Service.{AreCollectionsOf, IsCollectionOf, collections_of}
use Rattle.service_reader.specs.ServiceDocument.{IsRefusalIn, service_depth}
use Rattle.service_reader.specs.ServiceFaults.{placed_in, service_rules}
use Rattle.service_reader.specs.ServiceLaws.{BytesHaveOneServiceRefusal, BytesSpellOneService, ServicesAreNotRefused}
use Rattle.service_reader.proofs.ServiceFaultLemmas.{service_ranked}

one_collection : (address : List ℕ) (c : Child) (a b : Collection) → IsCollectionOf address c a →
    IsCollectionOf address c b → a ≡ b
one_collection address c a b x y =
    let both : Some a.href ≡ Some b.href = sym x.href ∙ y.href in
    let href : a.href ≡ b.href = cc in
    let entries : a.entries ≡ b.entries = x.entries ∙ sym y.entries in
    λ i. record { href = href i; entries = entries i }

one_list : (address : List ℕ) (cs : List Child) (xs ys : List Collection) → AreCollectionsOf address cs xs →
    AreCollectionsOf address cs ys → xs ≡ ys
one_list address [] [] [] all other = refl
one_list address [] [] (y ∷ ys) all other = absurd other
one_list address [] (x ∷ xs) ys all other = absurd all
one_list address (c ∷ cs) [] ys all other = absurd all
one_list address (c ∷ cs) (x ∷ xs) [] all other = absurd other
one_list address (c ∷ cs) (x ∷ xs) (y ∷ ys) all other =
    let head = one_collection address c x y all.0 other.0 in
    let tail = one_list address cs xs ys all.1 other.1 in
    λ i. head i ∷ tail i

pub one_service : BytesSpellOneService
one_service bytes address one other x y =
    let same = one_document service_depth bytes x.root y.root x.content y.content x.document y.document in
    one_list address (collections_of y.content) one other
    (subst (λ c. AreCollectionsOf address (collections_of c) one) same.1 x.read) y.read

-- the refusal of a document, and another root and content of it
refusal_of : (bytes address : List ℕ) (r p : Element) (c k : Content) (at : ℕ) (why : ServiceWhy) →
    IsDocument service_depth bytes r c → IsDocument service_depth bytes p k →
    IsRefusalIn address r c (Some (at, why)) → IsRefusalIn address p k (Some (at, why))
refusal_of bytes address r p c k at why one other refusal =
    let same = one_document service_depth bytes r p c k one other in
    subst (λ z. IsRefusalIn address p z (Some (at, why))) same.1
    (subst (λ z. IsRefusalIn address z c (Some (at, why))) same.0 refusal)

pub one_service_refusal : BytesHaveOneServiceRefusal
one_service_refusal bytes address at place why cause (inl (token, refused, is)) (inl (token', refused', is')) =
    let one = one_token_refusal service_depth bytes at place token token' refused refused' in
    (one.0, is ∙ ap Token one.1 ∙ sym is')
one_service_refusal bytes address at place why cause (inl (token, refused, is)) (inr (root, c, document, refusal)) =
    absurd (document_not_refused service_depth bytes root c at token document refused)
one_service_refusal bytes address at place why cause (inr (root, c, document, refusal)) (inl (token, refused, is)) =
    absurd (document_not_refused service_depth bytes root c place token document refused)
one_service_refusal bytes address at place why cause (inr (root, c, document, refusal))
    (inr (root', c', document', refusal')) =
    one_first (service_rules address) (service_ranked address) (placed_in root' c') at place why cause
    (refusal_of bytes address root root' c c' at why document document' refusal) refusal'

pub service_not_refused : ServicesAreNotRefused
service_not_refused bytes address collections at why s (inl (token, refused, is)) =
    document_not_refused service_depth bytes s.root s.content at token s.document refused
service_not_refused bytes address collections at why s (inr (root, c, document, refusal)) =
    no_first (service_rules address) (placed_in s.root s.content) at why s.faultless
    (refusal_of bytes address root s.root c s.content at why document s.document refusal)
