-- A text begins with one declaration at most, which names one encoding.
use Rattle.std.proofs.Common.{◌≡◌, ℕ, false, ◌==◌, List, [], ◌∷◌, ◌++◌, IsTrue}
use Rattle.std.proofs.Common.{Option, Some, None}
use Rattle.std.proofs.Common.{refl, sym, ap, subst, ◌∙◌, ⊎_elim, codes, append_assoc}
use Rattle.std.specs.List.{list_all}
use Rattle.std.proofs.lemmas.Bool.{both_ways, not_from_false}
use Rattle.std.proofs.lemmas.List.{append_cancel_left}
use Rattle.std.proofs.Common.{eq-eqb}
use Rattle.atom_values.specs.Space.{is_space}
use Rattle.xml_tokens.specs.Characters.{AreSpaces}
use Rattle.xml_tokens.specs.Tokens.{IsDeclaration, IsOptionalEncoding, IsOptionalSetting, IsQuote, IsSetting}
use Rattle.xml_tokens.specs.Tokens.{is_utf8_name}
use Rattle.xml_tokens.specs.Reading.{seq, any_spaces, declaration_end}
use Rattle.xml_tokens.proofs.TokenFirstLemmas.{heads_of, tails_of}
use Rattle.xml_tokens.proofs.RunLemmas.{run_unique}
use Rattle.xml_tokens.proofs.DeclarationLemmas.{no_space}
use Rattle.xml_tokens.proofs.EncodingLemmas.{apart, name_free, ends_first, end_first}
use Rattle.xml_tokens.proofs.DeclaredLemmas.{declaration_part, from_declaration, end_from}

-- a setting of the name b ∷ u, part by part, before the text x
record SettingParts (q b : ℕ) (u inside text x : List ℕ) : Type 0 where
  gap : List ℕ
  before : List ℕ
  behind : List ℕ
  is_gap : AreSpaces gap
  is_before : AreSpaces before
  is_behind : AreSpaces behind
  is_quote : IsQuote q
  spelled : text ≡ gap ++ ((b ∷ u) ++ (before ++ (61 ∷ (behind ++ (q ∷ (inside ++ q ∷ []))))))
  whole : text ++ x ≡ gap ++ ((b ∷ u) ++ (before ++ (61 ∷ (behind ++ (q ∷ (inside ++ q ∷ x))))))

setting_text : (gap name before behind inside end : List ℕ) →
    gap ++ name ++ before ++ codes "=" ++ behind ++ inside ++ end
    ≡ gap ++ (name ++ (before ++ (61 ∷ (behind ++ (inside ++ end)))))
setting_text gap name before behind inside end = simp append_assoc

setting_more : (gap name before behind inside end x : List ℕ) →
    (gap ++ (name ++ (before ++ (61 ∷ (behind ++ (inside ++ end)))))) ++ x
    ≡ gap ++ (name ++ (before ++ (61 ∷ (behind ++ (inside ++ (end ++ x))))))
setting_more gap name before behind inside end x = simp append_assoc

setting_parts : (q b : ℕ) (u inside text x : List ℕ) → IsSetting q (b ∷ u) inside text →
    SettingParts q b u inside text x
setting_parts q b u inside text x set = record {
  gap = set.gap;
  before = set.before;
  behind = set.behind;
  is_gap = set.is_gap.0;
  is_before = set.is_before;
  is_behind = set.is_behind;
  is_quote = set.is_quote;
  spelled = set.spelled ∙ setting_text set.gap (b ∷ u) set.before set.behind (q ∷ inside) (q ∷ []);
  whole = ap (λ xs. xs ++ x) (set.spelled ∙ setting_text set.gap (b ∷ u) set.before set.behind (q ∷ inside) (q ∷ []))
      ∙ setting_more set.gap (b ∷ u) set.before set.behind (q ∷ inside) (q ∷ []) x;
}

-- settings of one name in one text are the same
setting_one : (b : ℕ) (u : List ℕ) → is_space b ≡ false → (q r : ℕ) (v w s t x y : List ℕ) →
    (IsQuote q → IsTrue (list_all (apart q) v)) → (IsQuote r → IsTrue (list_all (apart r) w)) →
    IsSetting q (b ∷ u) v s → IsSetting r (b ∷ u) w t → s ++ x ≡ t ++ y → (v ≡ w) × (s ≡ t)
setting_one b u other q r v w s t x y free_v free_w is_s is_t e =
    let c = setting_parts q b u v s x is_s in
    let d = setting_parts r b u w t y is_t in
    let no_b = not_from_false (is_space b) other in
    let c_quoted = q ∷ (v ++ q ∷ x) in
    let d_quoted = r ∷ (w ++ r ∷ y) in
    let c_sign = c.before ++ (61 ∷ (c.behind ++ c_quoted)) in
    let d_sign = d.before ++ (61 ∷ (d.behind ++ d_quoted)) in
    let same : c.gap ++ ((b ∷ u) ++ c_sign) ≡ d.gap ++ ((b ∷ u) ++ d_sign) = sym c.whole ∙ e ∙ d.whole in
    let gap =
    run_unique is_space c.gap ((b ∷ u) ++ c_sign) d.gap ((b ∷ u) ++ d_sign) c.is_gap no_b d.is_gap no_b same in
    let named : (b ∷ u) ++ c_sign ≡ (b ∷ u) ++ d_sign =
    append_cancel_left c.gap ((b ∷ u) ++ c_sign) ((b ∷ u) ++ d_sign)
    (same ∙ ap (λ xs. xs ++ ((b ∷ u) ++ d_sign)) (sym gap)) in
    let sign : c_sign ≡ d_sign = append_cancel_left (b ∷ u) c_sign d_sign named in
    let before = run_unique is_space c.before (61 ∷ (c.behind ++ c_quoted)) d.before (61 ∷ (d.behind ++ d_quoted))
    c.is_before refl d.is_before refl sign in
    let equals : 61 ∷ (c.behind ++ c_quoted) ≡ 61 ∷ (d.behind ++ d_quoted) =
    append_cancel_left c.before (61 ∷ (c.behind ++ c_quoted)) (61 ∷ (d.behind ++ d_quoted))
    (sign ∙ ap (λ xs. xs ++ (61 ∷ (d.behind ++ d_quoted))) (sym before)) in
    let spaced = tails_of 61 61 (c.behind ++ c_quoted) (d.behind ++ d_quoted) equals in
    let behind = run_unique is_space c.behind c_quoted d.behind d_quoted c.is_behind
    (no_space q c.is_quote (v ++ q ∷ x)) d.is_behind (no_space r d.is_quote (w ++ r ∷ y)) spaced in
    let quoted : c_quoted ≡ d_quoted =
    append_cancel_left c.behind c_quoted d_quoted (spaced ∙ ap (λ xs. xs ++ d_quoted) (sym behind)) in
    let one = heads_of q r (v ++ q ∷ x) (w ++ r ∷ y) quoted in
    let values : v ++ q ∷ x ≡ w ++ q ∷ y =
    tails_of q r (v ++ q ∷ x) (w ++ r ∷ y) quoted ∙ ap (λ k. w ++ k ∷ y) (sym one) in
    let F : ℕ → Type 0 = λ k. IsTrue (list_all (apart k) w) in
    let value = run_unique (apart q) v (q ∷ x) w (q ∷ y) (free_v c.is_quote) (ends_first q x)
    (subst F (sym one) (free_w d.is_quote)) (ends_first q y) values in (
      value,
      c.spelled
          ∙ (λ i. gap i ++ ((b ∷ u) ++ (before i ++ (61 ∷ (behind i ++ (one i ∷ (value i ++ one i ∷ [])))))))
          ∙ sym d.spelled,
    )

-- no setting of an encoding is in the end of a declaration
end_no_encoding : (q : ℕ) (name set end x rest : List ℕ) → IsSetting q (codes "encoding") name set →
    seq any_spaces declaration_end tt end x → end ++ x ≡ set ++ rest → ⊥
end_no_encoding q name set end x rest is d e =
    let p = setting_parts q 101 (codes "ncoding") name set rest is in
    let f = end_first d.0 tt d.2 x d.5 in
    let later = codes "ncoding" ++ (p.before ++ (61 ∷ (p.behind ++ (q ∷ (name ++ q ∷ rest))))) in
    let same : d.1 ++ (d.2 ++ x) ≡ p.gap ++ (101 ∷ later) =
    sym (append_assoc d.1 d.2 x) ∙ ap (λ xs. xs ++ x) (sym d.3) ∙ e ∙ p.whole in
    let gap = run_unique is_space d.1 (d.2 ++ x) p.gap (101 ∷ later) d.4.0 d.4.1 p.is_gap refl same in
    let behind : d.2 ++ x ≡ 101 ∷ later =
    append_cancel_left d.1 (d.2 ++ x) (101 ∷ later) (same ∙ ap (λ xs. xs ++ (101 ∷ later)) (sym gap)) in
    let one = heads_of f.0 101 (f.1 ++ x) later (ap (λ xs. xs ++ x) (sym f.2) ∙ behind) in
    both_ways (101 == f.0) f.4 (eq-eqb 101 f.0 (sym one))

-- an optional encoding, and the end of the declaration after it
encoding_one : (a b : Option (List ℕ)) (s t end last x y : List ℕ) → IsOptionalSetting (codes "encoding") a s →
    IsOptionalEncoding a → IsOptionalSetting (codes "encoding") b t → IsOptionalEncoding b →
    seq any_spaces declaration_end tt end x → seq any_spaces declaration_end tt last y →
    s ++ (end ++ x) ≡ t ++ (last ++ y) → a ≡ b
encoding_one None None s t end last x y set_a is_a set_b is_b end_a end_b e = refl
encoding_one None (Some n) s t end last x y set_a is_a set_b is_b end_a end_b e =
    absurd (end_no_encoding set_b.0 n t end x (last ++ y) set_b.1 end_a
    (ap (λ xs. xs ++ (end ++ x)) (sym set_a) ∙ e))
encoding_one (Some m) None s t end last x y set_a is_a set_b is_b end_a end_b e =
    absurd (end_no_encoding set_a.0 m s last y (end ++ x) set_a.1 end_b
    (ap (λ xs. xs ++ (last ++ y)) (sym set_b) ∙ sym e))
encoding_one (Some m) (Some n) s t end last x y set_a is_a set_b is_b end_a end_b e =
    ap (λ v. Some v) (setting_one 101 (codes "ncoding") refl set_a.0 set_b.0 m n s t (end ++ x) (last ++ y)
    (λ q. name_free set_a.0 q m is_a) (λ q. name_free set_b.0 q n is_b) set_a.1 set_b.1 e).0

one_free : (q : ℕ) → IsQuote q → IsTrue (list_all (apart q) (codes "1.0"))
one_free q is =
    let F : ℕ → Type 0 = λ k. IsTrue (list_all (apart k) (codes "1.0")) in
    ⊎_elim (λ d. subst F (sym d) refl) (λ a. subst F (sym a) refl) is

-- a declaration in the text s ++ x, part by part
declared_parts : (name : Option (List ℕ)) (s x : List ℕ) → (d : IsDeclaration name s) →
    s ++ x ≡ codes "<?xml" ++ (d.version ++ (d.encoded ++ ((d.alone ++ d.spaces ++ codes "?>") ++ x)))
declared_parts name s x d = ap (λ xs. xs ++ x) d.spelled ∙ simp append_assoc

pub declaration_one : (a b : Option (List ℕ)) (s t x y : List ℕ) → IsDeclaration a s → IsDeclaration b t →
    s ++ x ≡ t ++ y → (a ≡ b) × (s ≡ t)
declaration_one a b s t x y c d e =
    let end = c.alone ++ c.spaces ++ codes "?>" in
    let last = d.alone ++ d.spaces ++ codes "?>" in
    let back = c.encoded ++ (end ++ x) in
    let other = d.encoded ++ (last ++ y) in
    let same : codes "<?xml" ++ (c.version ++ back) ≡ codes "<?xml" ++ (d.version ++ other) =
    sym (declared_parts a s x c) ∙ e ∙ declared_parts b t y d in
    let versions : c.version ++ back ≡ d.version ++ other =
    append_cancel_left (codes "<?xml") (c.version ++ back) (d.version ++ other) same in
    let q = c.is_version.0 in
    let r = d.is_version.0 in
    let version = (setting_one 118 (codes "ersion") refl q r (codes "1.0") (codes "1.0") c.version d.version back other
    (one_free q) (one_free r) c.is_version.1 d.is_version.1 versions).1 in
    let tails : back ≡ other =
    append_cancel_left c.version back other (versions ∙ ap (λ xs. xs ++ other) (sym version)) in (
      encoding_one a b c.encoded d.encoded end last x y c.is_encoded c.is_encoding d.is_encoded d.is_encoding
          (end_from c.standalone c.alone c.spaces x c.is_alone c.is_standalone c.are_spaces)
          (end_from d.standalone d.alone d.spaces y d.is_alone d.is_standalone d.are_spaces) tails,
      (declaration_part.unique (is_utf8_name a) (is_utf8_name b) s x t y (from_declaration a s x c)
          (from_declaration b t y d) e).1,
    )
