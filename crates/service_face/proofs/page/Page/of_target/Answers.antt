-- A target is a whole address or a path with a name, and never both.
use Rattle.std.proofs.Common.{◌≡◌, ◌++◌, List, ℕ, Option, Some, None, inl, inr, sym, ap, ◌∙◌, ⊎_elim}
use Rattle.std.specs.Prelude.{IfSome}
use Rattle.std.proofs.lemmas.List.{append_cancel_left}
use Rattle.std.proofs.lemmas.Option.{none-some, same_Some}
use Rattle.chain_links.specs.Base.{IsBase, path_text}
use Rattle.service_face.specs.declared.page.Page.{Page}
use Rattle.service_face.specs.Page.{IsPageTarget, page_name, page_of}
use Rattle.service_face.proofs.PageLemmas.{no_path, page_of-from, page_of-none}
use Rattle.service_face.proofs.page.Page.of_target.Goals as goal

-- a result that names the target's page, if there is one, is that page
decided : (base target : List ℕ) (found : Option Page) → IsBase base
    → IfSome found (λ page. IsPageTarget base page target)
    → ((page : Page) → IsPageTarget base page target → found ≡ Some page) → found ≡ page_of base target
decided base target None is found only =
    sym (page_of-none base target is (λ page names. none-some page (only page names)))
decided base target (Some page) is found only = sym (page_of-from base target page is found)

-- the same where the rest of the target is after a part of it, and the page goes by the name that the rest is
by_name : (base target name : List ℕ) (found : Option Page) → IsBase base → IfSome found (λ page. name ≡ page_name page)
    → ((page : Page) → name ≡ page_name page → found ≡ Some page)
    → ((page : Page) → name ≡ page_name page → IsPageTarget base page target)
    → ((page : Page) → IsPageTarget base page target → name ≡ page_name page) → found ≡ page_of base target
by_name base target name None is named only to from =
    decided base target None is tt (λ page names. only page (from page names))
by_name base target name (Some page) is named only to from =
    decided base target (Some page) is (to page named) (λ other names. only other (from other names))

pub returns-in-Some : goal.returns-in-Some
returns-in-Some c =
    let whole = c.in-Some.ensures.found ∙ ap (λ (x : List ℕ). x ++ c.in-Some.name.now) c.text.ensures.text in
    by_name c.args.base.now c.args.target.now c.in-Some.name.now c.named.result c.text.ensures.base
    c.named.ensures.found c.named.ensures.only
    (λ page name. inl (whole ∙ ap (λ (x : List ℕ). c.args.base.now ++ x) name))
    (λ page names.
    ⊎_elim (λ same. append_cancel_left c.args.base.now c.in-Some.name.now (page_name page) (sym whole ∙ same))
    (λ path. no_path c.args.base.now c.in-Some.name.now _ (page_name page) path.0 path.1 (sym whole ∙ path.2)) names)

pub returns-in_ok-after-in-None : goal.returns-in_ok-after-in-None
returns-in_ok-after-in-None c =
    let base = c.path.ensures.base in
    by_name c.args.base.now c.args.target.now c.in_ok-after-in-None.field-0.now c.named-in-None.result base
    c.named-in-None.ensures.found c.named-in-None.ensures.only
    (λ page name. inr (
      base.parts,
      (base.rules, base.spelt),
      c.in_ok-after-in-None.ensures.found
          ∙ ap (λ x. x ++ c.in_ok-after-in-None.field-0.now) (c.path.ensures.path base.parts (base.rules, base.spelt))
          ∙ ap (λ x. path_text base.parts.segments ++ x) name,
    ))
    (λ page names.
    ⊎_elim (λ whole. absurd (none-some _ (c.in-None.ensures.only (page_name page)
    (whole ∙ ap (λ (x : List ℕ). x ++ page_name page) (sym c.text.ensures.text)))))
    (λ path. same_Some _ _ (c.in_ok-after-in-None.ensures.only (page_name page)
    (path.2 ∙ ap (λ x. x ++ page_name page) (sym (c.path.ensures.path path.0 path.1))))) names)

pub returns-in_err-after-in-None : goal.returns-in_err-after-in-None
returns-in_err-after-in-None c =
    c.from_residual.ensures ∙ sym (page_of-none c.args.base.now c.args.target.now c.path.ensures.base (λ page names.
    ⊎_elim (λ whole. none-some _ (c.in-None.ensures.only (page_name page)
    (whole ∙ ap (λ (x : List ℕ). x ++ page_name page) (sym c.text.ensures.text))))
    (λ path. none-some _ (c.in_err-after-in-None.ensures.only (page_name page)
    (path.2 ∙ ap (λ x. x ++ page_name page) (sym (c.path.ensures.path path.0 path.1))))) names))
