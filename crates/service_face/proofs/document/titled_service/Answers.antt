-- The pieces one after another are the document.
use Rattle.std.proofs.Common.{◌≡◌, List, ℕ, ◌++◌, codes, ap, ◌∙◌, append_assoc, false}
use Rattle.atom_values.specs.Escape.{escaped}
use Rattle.chain_links.specs.Address.{printed}
use Rattle.chain_links.specs.declared.address.Address.TheVariants.{Feed}
use Rattle.service_face.specs.Service.{titled_service}
use Rattle.service_face.specs.declared.document.TheConstants.{START, COLLECTION, COLLECTION_TITLE, END}
use Rattle.service_face.proofs.document.titled_service.Goals as goal

-- the pieces of the code are those of the definition, grouped otherwise
grouped : (declaration service workspace start title close collection address link accept last : List ℕ)
    → ((((((declaration ++ service ++ workspace ++ start) ++ title) ++ (close ++ collection)) ++ address)
    ++ (link ++ start)) ++ title) ++ (close ++ accept ++ last)
    ≡ declaration ++ service ++ workspace ++ (start ++ title ++ close)
    ++ (collection ++ address ++ link ++ (start ++ title ++ close) ++ accept) ++ last
grouped declaration service workspace start title close collection address link accept last = simp append_assoc

regroup : (base title : List ℕ)
    → (((((START.now ++ escaped false title) ++ COLLECTION.now) ++ printed base Feed) ++ COLLECTION_TITLE.now)
    ++ escaped false title) ++ END.now ≡ titled_service base title
unfolding titled_service
regroup base title =
    grouped (codes "<?xml version=\"1.0\" encoding=\"utf-8\"?>\n")
    (codes "<service xmlns=\"http://www.w3.org/2007/app\" xmlns:atom=\"http://www.w3.org/2005/Atom\">")
    (codes "<workspace>") (codes "<atom:title>") (escaped false title) (codes "</atom:title>")
    (codes "<collection href=\"") (printed base Feed) (codes "\">")
    (codes "<accept>application/atom+xml;type=entry</accept></collection>") (codes "</workspace></service>\n")

pub returns : goal.returns
returns c =
    c.in_ok-extend_from_slice-3.ensures.items
    ∙ ap (λ (x : List ℕ). x ++ END.now) (c.in_ok-escape_into-2.ensures.ok
    ∙ ap (λ (x : List ℕ). x ++ escaped false c.args.title.now) (c.in_ok-extend_from_slice-2.ensures.items
    ∙ ap (λ (x : List ℕ). x ++ COLLECTION_TITLE.now) (c.in_ok-print_into.ensures.ok
    ∙ ap (λ (x : List ℕ). x ++ printed c.args.base.now Feed) (c.in_ok-extend_from_slice.ensures.items
    ∙ ap (λ (x : List ℕ). x ++ COLLECTION.now) (c.in_ok-escape_into.ensures.ok
    ∙ ap (λ (x : List ℕ). x ++ escaped false c.args.title.now) c.in_ok-text.ensures.items)))))
    ∙ regroup c.args.base.now c.args.title.now
