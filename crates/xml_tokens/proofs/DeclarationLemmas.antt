-- The parts of a declaration.
use Rattle.std.proofs.Common.{◌≡◌, ℕ, List, [], ◌∷◌, ◌++◌, IsTrue, refl, sym, ap, subst, ◌∙◌, inl, inr, ⊎_elim, codes}
use Rattle.std.proofs.Common.{true, false, drop, arith}
use Rattle.std.specs.Prelude.{Result}
use Rattle.std.proofs.lemmas.Bool.{both_ways}
use Rattle.atom_values.specs.Space.{is_space}
use Rattle.xml_tokens.specs.declared.cursor.Lapse.{Lapse}
use Rattle.xml_tokens.specs.Characters.{begins}
use Rattle.xml_tokens.specs.Tokens.{IsQuote}
use Rattle.xml_tokens.specs.Reading.{seq, exactly, equals_sign, one_quote, first_is_no, yes_or_no, a_standalone}
use Rattle.xml_tokens.specs.Reading.{spaced_end, declaration_end, all_spaces, Reads, Continues}
use Rattle.xml_tokens.proofs.BeginLemmas.{begins_split, begins_from}
use Rattle.xml_tokens.proofs.PartLemmas.{IsPart, Joins, apart, choice_part, seq_part, chosen_reads, apart_reads}
use Rattle.xml_tokens.proofs.PartLemmas.{same_reads}
use Rattle.xml_tokens.proofs.RunLemmas.{run_part}
use Rattle.xml_tokens.proofs.ReferenceLemmas.{first_same}
use Rattle.xml_tokens.proofs.ReferencePartLemmas.{one_left}
use Rattle.xml_tokens.proofs.CursorLemmas.{exactly_part, equals_part, quote_part}

-- bytes, and anything after them
pub exactly_joins : {A : Type 0} (bytes : List ℕ) (R : A → List ℕ → List ℕ → Type 0) (v : A) (t : List ℕ) → R v t [] →
    Joins (exactly bytes) (λ _. R)
exactly_joins bytes R v t is = record {
  part = exactly_part bytes;
  lives = (tt, bytes, refl);
  follows = λ _ s w u rest same r. same;
  goes = λ _ s same. (v, t, is);
}

-- a quote, and what goes with it
pub quote_joins : {A : Type 0} (R : ℕ → A → List ℕ → List ℕ → Type 0) →
    ((q : ℕ) → IsQuote q → (v : A) × (t : List ℕ) × R q v t []) → Joins one_quote R
quote_joins R goes = record {
  part = quote_part;
  lives = (34, 34 ∷ [], (inl refl, refl));
  follows = λ q s v t rest is r. is;
  goes = λ q s is. goes q is.0;
}

pub no_space : (q : ℕ) → IsQuote q → (xs : List ℕ) → IsTrue (first_is_no is_space (q ∷ xs))
no_space q is xs =
    let N : ℕ → Type 0 = λ b. IsTrue (first_is_no is_space (b ∷ xs)) in
    ⊎_elim (λ e. subst N (sym e) refl) (λ e. subst N (sym e) refl) is

-- `=`, and a quoted value
pub equals_joins : {A : Type 0} (R : ℕ → A → List ℕ → List ℕ → Type 0) →
    ((q : ℕ) → IsQuote q → (v : A) × (t : List ℕ) × R q v t []) → Joins equals_sign (λ _. seq one_quote R)
equals_joins R goes = record {
  part = equals_part;
  lives = (tt, codes "=", ([], [], refl, refl, refl, refl));
  follows = λ b s v t rest is r.
      let N : List ℕ → Type 0 = λ xs. IsTrue (first_is_no is_space (xs ++ rest)) in
      let same : t ≡ r.0 ∷ r.2 = r.3 ∙ ap (λ xs. xs ++ r.2) r.4.1 in
      (is.0, is.1, is.2, is.3, is.4, subst N (sym same) (no_space r.0 r.4.0 (r.2 ++ rest)));
  goes = λ b s is.
      let g = goes 34 (inl refl) in
      (g.0, 34 ∷ g.1, (34, 34 ∷ [], g.1, refl, (inl refl, refl), g.2));
}

-- the number of the version, and its second quote
abbrev pub number_behind : ℕ → Unit {0} → List ℕ → List ℕ → Type 0
number_behind q = seq (exactly (codes "1.0")) (λ _. exactly (q ∷ []))

number_goes : (q : ℕ) → IsQuote q → (v : Unit {0}) × (t : List ℕ) × number_behind q v t []
number_goes q is = (tt, codes "1.0" ++ q ∷ [], (tt, codes "1.0", q ∷ [], refl, refl, refl))

pub number_joins : (q : ℕ) → Joins (exactly (codes "1.0")) (λ (_ : Unit {0}). exactly (q ∷ []))
number_joins q = exactly_joins (codes "1.0") (exactly (q ∷ [])) tt (q ∷ []) refl

pub version_quote : Joins one_quote number_behind
version_quote = quote_joins number_behind number_goes

pub version_equals : Joins equals_sign (λ (_ : Unit {0}). seq one_quote number_behind)
version_equals = equals_joins number_behind number_goes

pub version_name : Joins (exactly (codes "version")) (λ (_ : Unit {0}). seq equals_sign
    (λ _. seq one_quote number_behind))
version_name =
    exactly_joins (codes "version") (seq equals_sign (λ _. seq one_quote number_behind)) tt (codes "=\"1.0\"") (
      tt,
      codes "=",
      codes "\"1.0\"",
      refl,
      ([], [], refl, refl, refl, refl),
      (34, codes "\"", codes "1.0\"", refl, (inl refl, refl), (tt, codes "1.0", codes "\"", refl, refl, refl)),
    )

yes_part : IsPart yes_or_no
yes_part = choice_part (exactly (codes "yes")) (exactly (codes "no")) (exactly_part (codes "yes")) (exactly_part
    (codes "no"))
    (λ a b s x t y yes other e. omega (arith, first_same 121 s (codes "es") x t y yes e 110 (codes "o") other))

-- `yes` or `no`, and the second quote
abbrev pub answer_behind : ℕ → Unit {0} → List ℕ → List ℕ → Type 0
answer_behind q = seq yes_or_no (λ _. exactly (q ∷ []))

answer_goes : (q : ℕ) → IsQuote q → (v : Unit {0}) × (t : List ℕ) × answer_behind q v t []
answer_goes q is = (tt, codes "no" ++ q ∷ [], (tt, codes "no", q ∷ [], refl, inr refl, refl))

pub answer_joins : (q : ℕ) → Joins yes_or_no (λ (_ : Unit {0}). exactly (q ∷ []))
answer_joins q = record {
  part = yes_part;
  lives = (tt, codes "no", inr refl);
  follows = λ _ s w u rest same r. same;
  goes = λ _ s same. (tt, q ∷ [], refl);
}

pub standalone_quote : Joins one_quote answer_behind
standalone_quote = quote_joins answer_behind answer_goes

pub standalone_equals : Joins equals_sign (λ (_ : Unit {0}). seq one_quote answer_behind)
standalone_equals = equals_joins answer_behind answer_goes

one_standalone : seq equals_sign (λ (_ : Unit {0}). seq one_quote answer_behind) tt (codes "=\"no\"") []
one_standalone = (
  tt,
  codes "=",
  codes "\"no\"",
  refl,
  ([], [], refl, refl, refl, refl),
  (34, codes "\"", codes "no\"", refl, (inl refl, refl), (tt, codes "no", codes "\"", refl, inr refl, refl)),
)

pub standalone_name : Joins (exactly (codes "standalone")) (λ (_ : Unit {0}). seq equals_sign
    (λ _. seq one_quote answer_behind))
standalone_name =
    exactly_joins (codes "standalone") (seq equals_sign (λ _. seq one_quote answer_behind)) tt (codes "=\"no\"")
    one_standalone

standalone_part : IsPart a_standalone
standalone_part =
    seq_part standalone_name (λ _. seq_part standalone_equals (λ _. seq_part standalone_quote
    (λ q. seq_part (answer_joins q) (λ _. exactly_part (q ∷ [])))))

pub end_joins : Joins all_spaces (λ (_ : Unit {0}). exactly (codes "?>"))
end_joins = record {
  part = run_part is_space;
  lives = (tt, [], (refl, refl));
  follows = λ b s v t rest is r.
      let N : List ℕ → Type 0 = λ xs. IsTrue (first_is_no is_space (xs ++ rest)) in
      (is.0, subst N (sym r) refl);
  goes = λ b s is. (tt, codes "?>", refl);
}

-- nothing after `standalone` matters
standalone_closed : (v : Unit {0}) (s rest : List ℕ) → a_standalone v s [] → a_standalone v s rest
standalone_closed v s rest is =
    let sign = is.5 in
    let quoted = sign.5 in
    let same : sign.2 ≡ quoted.0 ∷ quoted.2 = quoted.3 ∙ ap (λ xs. xs ++ quoted.2) quoted.4.1 in
    let N : List ℕ → Type 0 = λ xs. IsTrue (first_is_no is_space (xs ++ rest)) in (
      is.0,
      is.1,
      is.2,
      is.3,
      is.4,
      (
        sign.0,
        sign.1,
        sign.2,
        sign.3,
        (
          sign.4.0,
          sign.4.1,
          sign.4.2,
          sign.4.3,
          sign.4.4,
          subst N (sym same) (no_space quoted.0 quoted.4.0
              (quoted.2 ++ rest)),
        ),
        (quoted.0, quoted.1, quoted.2, quoted.3, quoted.4, quoted.5),
      ),
    )

pub standalone_joins : Joins a_standalone (λ (_ : Unit {0}). spaced_end)
standalone_joins = record {
  part = standalone_part;
  lives = (tt, codes "standalone=\"no\"", (tt, codes "standalone", codes "=\"no\"", refl, refl, one_standalone));
  follows = λ b s v t rest is r. standalone_closed b s (t ++ rest) is;
  goes = λ b s is. (tt, codes "?>", (tt, [], codes "?>", refl, (refl, refl), refl));
}

-- the byte that a text begins with
yes_first : (text tail : List ℕ) → text ≡ 121 ∷ tail → (r : Result (Unit {0}) Lapse) (end : List ℕ) →
    Reads (exactly (codes "yes")) text r end → Reads yes_or_no text r end
yes_first text tail is = chosen_reads yes_or_no (exactly (codes "yes")) text
    (λ v s rest p. inl p)
    (λ v more s rest e p. ⊎_elim (λ yes. yes)
    (λ other. absurd (omega (arith, first_same 121 text tail more s rest is e 110 (codes "o") other))) p)

pub yes_reads : (text : List ℕ) → begins (codes "y") text ≡ true → (r : Result (Unit {0}) Lapse) (end : List ℕ) →
    Reads (exactly (codes "yes")) text r end → Reads yes_or_no text r end
yes_reads text begun = yes_first text (drop 1 text) (begins_split (codes "y") text begun)

no_apart : (v : Unit {0}) (s rest : List ℕ) → exactly (codes "no") v s rest → apart (codes "y") yes_or_no v s rest
no_apart v s rest p =
    let B : List ℕ → Type 0 = λ xs. begins (codes "y") xs ≡ false in
    (inr p, subst B (sym p) refl)

apart_no : (v : Unit {0}) (s rest : List ℕ) → apart (codes "y") yes_or_no v s rest → exactly (codes "no") v s rest
apart_no v s rest p =
    let B : List ℕ → Type 0 = λ xs. begins (codes "y") xs ≡ false in
    ⊎_elim (λ yes. absurd (both_ways true (subst B yes p.1) refl)) (λ other. other) p.0

pub no_reads : (text : List ℕ) → begins (codes "y") text ≡ false → (r : Result (Unit {0}) Lapse) (end : List ℕ) →
    Reads (exactly (codes "no")) text r end → Reads yes_or_no text r end
no_reads text none r end read =
    let C : List ℕ → Type 0 = Continues (apart (codes "y") yes_or_no) in
    let lives : C [] = (
      codes "no",
      (
        tt,
        [],
        record {
          front = codes "no";
          split = refl;
          spelled = no_apart tt (codes "no") [] refl;
        },
      ),
    ) in
    apart_reads yes_or_no (codes "y") text none (λ m e. subst C (sym (one_left 121 text m none e)) lives) r end
    (same_reads (apart (codes "y") yes_or_no) (exactly (codes "no")) no_apart apart_no text r end read)

standalone_starts : (v : Unit {0}) (s rest : List ℕ) → seq a_standalone (λ (_ : Unit {0}). spaced_end) v s rest →
    (u : List ℕ) × (s ≡ 115 ∷ u)
standalone_starts v s rest p =
    let a = p.4 in
    (codes "tandalone" ++ a.2 ++ p.2, p.3 ∙ ap (λ xs. xs ++ p.2) (a.3 ∙ ap (λ xs. xs ++ a.2) a.4))

pub spaced_reads : (text : List ℕ) → begins (codes "s") text ≡ true → (r : Result (Unit {0}) Lapse) (end : List ℕ) →
    Reads (seq a_standalone (λ (_ : Unit {0}). spaced_end)) text r end → Reads (declaration_end true) text r end
spaced_reads text begun = chosen_reads (declaration_end true) (seq a_standalone (λ (_ : Unit {0}). spaced_end)) text
    (λ v s rest p. inl (refl, p))
    (λ v more s rest e p. ⊎_elim (λ alone. alone.1)
    (λ over. absurd (omega (
      arith,
      first_same 115 text (drop 1 text) more s rest (begins_split (codes "s") text begun) e 63
          (codes ">") over,
    ))) p)

end_apart : (v : Unit {0}) (s rest : List ℕ) → exactly (codes "?>") v s rest →
    apart (codes "s") (declaration_end true) v s rest
end_apart v s rest p =
    let B : List ℕ → Type 0 = λ xs. begins (codes "s") xs ≡ false in
    (inr p, subst B (sym p) refl)

apart_end : (v : Unit {0}) (s rest : List ℕ) → apart (codes "s") (declaration_end true) v s rest →
    exactly (codes "?>") v s rest
apart_end v s rest p =
    ⊎_elim
    (λ alone.
    let start = standalone_starts v s rest alone.1 in
    absurd (both_ways (begins (codes "s") s) p.1 (begins_from (codes "s") s start.0 start.1)))
    (λ over. over) p.0

pub plain_end : (text : List ℕ) → begins (codes "s") text ≡ false → (r : Result (Unit {0}) Lapse) (end : List ℕ) →
    Reads (exactly (codes "?>")) text r end → Reads (declaration_end true) text r end
plain_end text none r end read =
    let C : List ℕ → Type 0 = Continues (apart (codes "s") (declaration_end true)) in
    let lives : C [] = (
      codes "?>",
      (
        tt,
        [],
        record {
          front = codes "?>";
          split = refl;
          spelled = end_apart tt (codes "?>") [] refl;
        },
      ),
    ) in
    apart_reads (declaration_end true) (codes "s") text none (λ m e. subst C (sym (one_left 115 text m none e)) lives) r
    end (same_reads (apart (codes "s") (declaration_end true)) (exactly
    (codes "?>")) end_apart apart_end text r end read)

pub close_end : (text : List ℕ) (r : Result (Unit {0}) Lapse) (end : List ℕ) →
    Reads (exactly (codes "?>")) text r end → Reads (declaration_end false) text r end
close_end = same_reads (declaration_end false) (exactly (codes "?>")) (λ v s rest p. inr p)
    (λ v s rest p. ⊎_elim (λ alone. absurd (both_ways true (sym alone.0) refl)) (λ over. over) p)
