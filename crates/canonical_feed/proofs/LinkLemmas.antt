-- The address of an archive, as a reference in any document, leads to itself.
use Rattle.std.proofs.Common.{◌≡◌, ◌≢◌, ℕ, ◌+◌, ◌-◌, ◌<◌, true, false, not, eqb, List, [], ◌∷◌, ◌++◌, length}
use Rattle.std.proofs.Common.{take, drop, reverse, Option, Some, None, Ok, refl, sym, ap, subst, ◌∙◌, codes, arith}
use Rattle.std.proofs.Common.{bytes_eq, append_assoc, ⊎_elim}
use Rattle.std.proofs.lemmas.List.{take_all}
use Rattle.std.specs.Prelude.{◌&&◌, ◌||◌, ◌==◌, IsTrue}
use Rattle.std.specs.List.{prefix_len}
use Rattle.std.specs.Str.{is_utf8}
use Rattle.std.proofs.lemmas.Bool.{and_parts, cases_Bool, cond-true, cond-false, lt-leb, ne_eqb, or_from, eq-eqb}
use Rattle.std.proofs.lemmas.Slice.Eq.{bytes_eq-Decides}
use Rattle.url.specs.declared.scheme.SchemeType.TheVariants.{SpecialNotFile}
use Rattle.url.specs.Input.{is_c0_control_or_space, is_tab_or_new_line, is_empty, split_once, strip_tabs_and_new_lines}
use Rattle.url.specs.Input.{trim_c0_control_and_space, trim_end}
use Rattle.url.specs.Parser.{Parsed, after_double_slash, after_slashes, base_for_scheme, inherit, leading_slashes, parse_all, parse_body}
use Rattle.url.specs.Parser.{parse_by_scheme, parse_parts, parse_relative, parse_url, skip_slashes, split_scheme}
use Rattle.url.specs.Parser.{with_path, with_tail, before_tail, and_then}
use Rattle.url.specs.Path.{parse_path}
use Rattle.url.specs.Parts.{Parts, kind_of}
use Rattle.url.specs.Scheme.{default_port, is_special, scheme_len, scheme_type}
use Rattle.chain_links.specs.Base.{IsBase, base_text, host_text, path_text, port_text}
use Rattle.chain_links.specs.Address as address
use Rattle.chain_links.specs.declared.address.Address.{Address}
use Rattle.chain_links.specs.Checked.{IsUrlText}
use Rattle.feed_reader.specs.Feed.{based, joined_to, url_text}
use Rattle.canonical_feed.proofs.CleanLemmas.{IsClean, IsCleanByte, clean_first, clean_reverse}

http_scheme : scheme_type (codes "http") ≡ SpecialNotFile
unfolding scheme_type default_port
http_scheme = refl

-- the scheme is what stands before `:`
http_split : (rest : List ℕ) → split_scheme (codes "http://" ++ rest) ≡ Some (codes "http", 47 ∷ 47 ∷ rest)
unfolding split_scheme scheme_len
http_split rest = refl

two_slashes : (rest : List ℕ) → leading_slashes SpecialNotFile (47 ∷ 47 ∷ rest) ≡ 2
unfolding leading_slashes
two_slashes rest = refl

-- a base of the same scheme doesn't matter
relative_is : (base : Parts) (rest : List ℕ) → base.scheme ≡ codes "http" →
    parse_relative base (47 ∷ 47 ∷ rest) ≡ after_double_slash (codes "http") (skip_slashes (47 ∷ 47 ∷ rest))
unfolding parse_relative
relative_is base rest same =
    let body = 47 ∷ 47 ∷ rest in
    let kind = kind_of base in
    let is : kind ≡ SpecialNotFile = ap scheme_type same ∙ http_scheme in
    let slashes : leading_slashes kind body ≡ 2 = ap (λ k. leading_slashes k body) is ∙ two_slashes rest in
    let start = inherit base (leading_slashes kind body == 0) in
    cond-true (leading_slashes kind body == 2) (after_double_slash base.scheme (after_slashes kind body))
    (Ok (with_path start (parse_path kind start.path (drop (leading_slashes kind body) body))))
    (eq-eqb (leading_slashes kind body) 2 slashes)
    ∙ ap (λ s. after_double_slash s (after_slashes kind body)) same
    ∙ ap (λ k. after_double_slash (codes "http") (after_slashes k body)) is

http_alone : (rest : List ℕ) →
    parse_body (codes "http") None (47 ∷ 47 ∷ rest) ≡ after_double_slash (codes "http") (skip_slashes (47 ∷ 47 ∷ rest))
unfolding parse_body scheme_type default_port
http_alone rest = refl

http_based : (base : Parts) (rest : List ℕ) →
    parse_body (codes "http") (Some base) (47 ∷ 47 ∷ rest) ≡ parse_relative base (47 ∷ 47 ∷ rest)
unfolding parse_body scheme_type default_port
http_based base rest = refl

same_parts : (base : Parts) (rest : List ℕ) (query fragment : Option (List ℕ)) → base.scheme ≡ codes "http" →
    parse_parts (codes "http") (Some base) (47 ∷ 47 ∷ rest) query fragment
    ≡ parse_parts (codes "http") None (47 ∷ 47 ∷ rest) query fragment
unfolding parse_parts
same_parts base rest query fragment same =
    cond-false (is_empty (47 ∷ 47 ∷ rest)) _ (parse_all (codes "http") (Some base) (47 ∷ 47 ∷ rest) query fragment)
    (ne_eqb (length (47 ∷ 47 ∷ rest)) 0 (λ e. omega (arith, e)))
    ∙ ap (λ (p : Parsed Parts). and_then p (λ url. Ok (with_tail (before_tail url query fragment) query fragment)))
    (http_based base rest ∙ relative_is base rest same ∙ sym (http_alone rest))

any_base : (base : Option Parts) (rest : List ℕ) (query fragment : Option (List ℕ)) →
    parse_parts (codes "http") (base_for_scheme base (codes "http")) (47 ∷ 47 ∷ rest) query fragment
    ≡ parse_parts (codes "http") None (47 ∷ 47 ∷ rest) query fragment
any_base None rest query fragment = refl
any_base (Some base) rest query fragment =
    let test = is_special (kind_of base) && bytes_eq base.scheme (codes "http") in
    let P : Option Parts → Type 0 = λ b. parse_parts (codes "http") b (47 ∷ 47 ∷ rest) query fragment
    ≡ parse_parts (codes "http") None (47 ∷ 47 ∷ rest) query fragment in
    ⊎_elim
    (λ (t : test ≡ true). subst P (sym (cond-true test (Some base) None t))
    (same_parts base rest query fragment
    ((bytes_eq-Decides base.scheme (codes "http")).0
    (and_parts (is_special (kind_of base)) (bytes_eq base.scheme (codes "http")) t).1)))
    (λ f. subst P (sym (cond-false test (Some base) None f)) refl)
    (cases_Bool test)

-- ---- nothing is trimmed

clean_c0 : (b : ℕ) → IsCleanByte b → is_c0_control_or_space b ≡ false
clean_c0 b is = lt-leb b 32 (let low = is.low in omega arith)

clean_none : (t : List ℕ) → IsClean t → prefix_len is_c0_control_or_space t ≡ 0
clean_none [] is = refl
clean_none (b ∷ t) is =
    cond-false (is_c0_control_or_space b) (1 + prefix_len is_c0_control_or_space t) 0 (clean_c0 b (clean_first b t is).0)

untrimmed : (t : List ℕ) → IsClean t → trim_c0_control_and_space t ≡ t
unfolding trim_c0_control_and_space
untrimmed t is =
    ap (λ k. trim_end is_c0_control_or_space (drop k t)) (clean_none t is)
    ∙ ap (λ k. take (length t - k) t) (clean_none (reverse t) (clean_reverse t is))
    ∙ take_all (length t - 0) t (omega arith)

clean_line : (b : ℕ) → IsCleanByte b → not (is_tab_or_new_line b) ≡ true
clean_line b is =
    let n : (k : ℕ) → k < 40 → eqb b k ≡ false = λ k low. ne_eqb b k (λ e. omega arith) in
    ap not (or_from (b == 9 || b == 10) (b == 13)
    (or_from (b == 9) (b == 10) (n 9 (omega arith)) (n 10 (omega arith))) (n 13 (omega arith)))

unstripped : (t : List ℕ) → IsClean t → strip_tabs_and_new_lines t ≡ t
unfolding strip_tabs_and_new_lines
unstripped [] is = refl
unstripped (b ∷ t) is =
    let p = clean_first b t is in
    cond-true (not (is_tab_or_new_line b)) (b ∷ strip_tabs_and_new_lines t) (strip_tabs_and_new_lines t) (clean_line b p.0)
    ∙ ap (λ x. b ∷ x) (unstripped t p.1)

abbrev Split : Type 0
Split = List ℕ × Option (List ℕ)

unsplit : (k : ℕ) → ((b : ℕ) → IsCleanByte b → b ≢ k) → (t : List ℕ) → IsClean t → split_once k t ≡ (t, None)
unfolding split_once
unsplit k other [] is = refl
unsplit k other (b ∷ t) is =
    let p = clean_first b t is in
    cond-false (b == k) ([], Some t) (b ∷ (split_once k t).0, (split_once k t).1) (ne_eqb b k (other b p.0))
    ∙ ap (λ (r : Split). (b ∷ r.0, r.1)) (unsplit k other t p.1)

-- an address of `http` is read in the same way with any base
parse_is : (base : Option Parts) (t rest : List ℕ) → t ≡ codes "http://" ++ rest → IsClean t →
    parse_url base t ≡ parse_parts (codes "http") None (47 ∷ 47 ∷ rest) None None
unfolding parse_url
parse_is base t rest begins is =
    let whole = λ (h : Split) (q : Split). parse_by_scheme (split_scheme q.0) base q.0 q.1 h.1 in
    let no_hash : split_once 35 t ≡ (t, None) = unsplit 35 (λ b c. λ e. omega arith) t is in
    let no_question : split_once 63 t ≡ (t, None) = unsplit 63 (λ b c. c.no_question) t is in
    ap (λ x. whole (split_once 35 x) (split_once 63 (split_once 35 x).0))
    (ap strip_tabs_and_new_lines (untrimmed t is) ∙ unstripped t is)
    ∙ ap (λ (h : Split). whole h (split_once 63 h.0)) no_hash
    ∙ ap (λ (q : Split). whole (t, None) q) no_question
    ∙ ap (λ s. parse_by_scheme s base t None None) (ap split_scheme begins ∙ http_split rest)
    ∙ any_base base rest None None

-- an address of `http` leads to itself, in the document of any address
pub joined_is : (from t rest : List ℕ) → IsTrue (is_utf8 from) → IsUrlText from → IsUrlText t →
    t ≡ codes "http://" ++ rest → IsClean t → joined_to from t ≡ Some t
joined_is from t rest utf8 is_from is_t begins clean =
    cond-true (is_utf8 from) (based (parse_url None from) t) None utf8
    ∙ ap (λ p. based p t) is_from.1
    ∙ ap url_text (parse_is (Some is_from.0) t rest begins clean ∙ sym (parse_is None t rest begins clean) ∙ is_t.1)
    ∙ ap Some is_t.2

-- the address of a document begins with `http://`
pub begins_http : (base : List ℕ) (a : Address) → IsBase base →
    (rest : List ℕ) × (address.printed base a ≡ codes "http://" ++ rest)
unfolding address.printed base_text
begins_http base a is =
    let p = is.parts in
    let behind = host_text p.labels ++ (port_text p.port ++ path_text p.segments) in (
      behind ++ address.suffix_text a,
      ap (λ b. b ++ address.suffix_text a) (sym is.spelt) ∙ append_assoc (codes "http://") behind (address.suffix_text a),
    )
