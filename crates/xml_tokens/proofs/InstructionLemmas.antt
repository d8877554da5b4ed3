-- Instructions, part by part.
use Rattle.std.proofs.Common.{◌≡◌, ◌≢◌, ℕ, true, false, not, List, [], ◌∷◌, ◌++◌, IsTrue, refl, sym, ap, subst}
use Rattle.std.proofs.Common.{◌∙◌, inl, inr, ⊎_elim, codes, append_assoc, drop}
use Rattle.std.specs.Prelude.{Result, Err}
use Rattle.std.specs.List.{list_all}
use Rattle.std.proofs.lemmas.Bool.{and_parts, and_from, both_ways, not_from_false, false_from_ne_true}
use Rattle.std.proofs.lemmas.List.Folds.{list_all-append}
use Rattle.atom_values.specs.Space.{is_space}
use Rattle.xml_tokens.specs.declared.cursor.Lapse.{Lapse}
use Rattle.xml_tokens.specs.declared.cursor.Lapse.TheVariants.{Broken, Cut, NoMemory}
use Rattle.xml_tokens.specs.Characters.{AreSpaces, IsGap, begins, lacks}
use Rattle.xml_tokens.specs.Reading.{IsFound, Starts, Continues, Reads, exactly, first_is_no, instruction_end}
use Rattle.xml_tokens.specs.Reading.{up_to_end}
use Rattle.xml_tokens.proofs.BeginLemmas.{begins_split}
use Rattle.xml_tokens.proofs.PartLemmas.{splits, chosen_reads}
use Rattle.xml_tokens.proofs.EncodingLemmas.{no_gap}
use Rattle.xml_tokens.proofs.TokenFirstLemmas.{heads_of}

-- after a name without white space
pub bare_end : (text : List ℕ) → text ≢ [] → IsTrue (first_is_no is_space text) → (r : Result (Unit {0}) Lapse)
    (end : List ℕ) → Reads (exactly (codes "?>")) text r end → Reads instruction_end text r end
bare_end text some first = chosen_reads instruction_end (exactly (codes "?>")) text
    (λ v s rest p. ([], p, refl, inl refl))
    (λ v more s rest e p. ⊎_elim
    (λ none. p.1 ∙ ap (λ xs. xs ++ codes "?>") none)
    (λ gap.
    let back = gap.1 ++ (codes "?>" ++ rest) in
    let whole : text ++ more ≡ gap.0 ++ back =
    e ∙ ap (λ xs. xs ++ rest) (p.1 ∙ ap (λ xs. xs ++ codes "?>") gap.3) ∙ simp append_assoc in
    absurd (no_gap text more gap.0 back some first whole gap.2))
    p.3)

space_no_question : (b : ℕ) → is_space b ≡ true → b ≢ 63
space_no_question b e is =
    let S : ℕ → Type 0 = λ k. is_space k ≡ true in
    both_ways false refl (subst S is e)

-- no end begins in white space
lacks_spaces : (spaces x : List ℕ) → AreSpaces spaces → lacks (codes "?>") x ≡ true →
    lacks (codes "?>") (spaces ++ x) ≡ true
lacks_spaces [] x are none = none
lacks_spaces (b ∷ spaces) x are none =
    let p = and_parts (is_space b) (list_all is_space spaces) are in
    and_from (not (begins (codes "?>") (b ∷ (spaces ++ x)))) (lacks (codes "?>") (spaces ++ x))
    (not_from_false (begins (codes "?>") (b ∷ (spaces ++ x)))
    (false_from_ne_true (begins (codes "?>") (b ∷ (spaces ++ x))) (λ begun.
    let whole = begins_split (codes "?>") (b ∷ (spaces ++ x)) begun in
    space_no_question b p.0 (heads_of b 63 (spaces ++ x) (62 ∷ drop 2 (b ∷ (spaces ++ x))) whole))))
    (lacks_spaces spaces x p.1 none)

lacks_rest : (p k x : List ℕ) → lacks p (k ++ x) ≡ true → lacks p x ≡ true
lacks_rest p [] x none = none
lacks_rest p (b ∷ k) x none = lacks_rest p k x (and_parts (not (begins p (b ∷ (k ++ x)))) (lacks p (k ++ x)) none).1

-- after white space
end_forth : (spaces x : List ℕ) (front rest : List ℕ) → IsGap spaces → IsFound (up_to_end (codes "?>")) x front rest →
    IsFound instruction_end (spaces ++ x) tt rest
end_forth spaces x front rest gap f = record {
  front = spaces ++ f.front;
  split = ap (λ xs. spaces ++ xs) f.split ∙ sym (append_assoc spaces f.front rest);
  spelled = (
    spaces ++ front,
    ap (λ xs. spaces ++ xs) f.spelled.0 ∙ sym (append_assoc spaces front (codes "?>")),
    ap (lacks (codes "?>")) (append_assoc spaces front (codes "?"))
        ∙ lacks_spaces spaces (front ++ codes "?") gap.0 f.spelled.1,
    inr (spaces, front, gap, refl),
  );
}

-- an end within white space
within : {X : Type 0} (inside spaces x rest k : List ℕ) → AreSpaces spaces → spaces ≡ inside ++ k →
    codes "?>" ++ rest ≡ k ++ x →
    ((m : List ℕ) → lacks (codes "?>") (m ++ codes "?") ≡ true → x ≡ m ++ (codes "?>" ++ rest) → X) → X
within inside spaces x rest [] are is e found = found [] refl (sym e)
within inside spaces x rest (b ∷ k) are is e found =
    let A : List ℕ → Type 0 = AreSpaces in
    let all = and_parts (list_all is_space inside) (list_all is_space (b ∷ k))
    (sym (list_all-append is_space inside (b ∷ k)) ∙ subst A is are) in
    absurd (space_no_question b (and_parts (is_space b) (list_all is_space k) all.1).0
    (sym (heads_of 63 b (62 ∷ rest) (k ++ x) e)))

end_back : (spaces x rest : List ℕ) (v : Unit {0}) → AreSpaces spaces → IsFound instruction_end (spaces ++ x) v rest →
    (front : List ℕ) × IsFound (up_to_end (codes "?>")) x front rest
end_back spaces x rest v are f =
    let p = f.spelled in
    let inside = p.0 in
    let whole : spaces ++ x ≡ inside ++ (codes "?>" ++ rest) =
    f.split ∙ ap (λ xs. xs ++ rest) p.1 ∙ append_assoc inside (codes "?>") rest in
    let L : List ℕ → Type 0 = λ xs. lacks (codes "?>") (xs ++ codes "?") ≡ true in
    let found : (k : List ℕ) → lacks (codes "?>") (k ++ codes "?") ≡ true → x ≡ k ++ (codes "?>" ++ rest) →
    (front : List ℕ) × IsFound (up_to_end (codes "?>")) x front rest = λ k none e. (
      k,
      record {
        front = k ++ codes "?>";
        split = e ∙ sym (append_assoc k (codes "?>") rest);
        spelled =
            (refl, none);
      },
    ) in
    ⊎_elim
    (λ longer. found longer.0
    (lacks_rest (codes "?>") spaces (longer.0 ++ codes "?")
    (ap (lacks (codes "?>")) (sym (append_assoc spaces longer.0 (codes "?"))) ∙ subst L longer.1 p.2)) longer.2)
    (λ shorter. within inside spaces x rest shorter.0 are shorter.1 shorter.2 found)
    (splits spaces x inside (codes "?>" ++ rest) whole)

pub spaced_found : (text spaces x front end : List ℕ) → text ≡ spaces ++ x → IsGap spaces →
    IsFound (up_to_end (codes "?>")) x front end → IsFound instruction_end text tt end
spaced_found text spaces x front end is gap f =
    let F : List ℕ → Type 0 = λ xs. IsFound instruction_end xs tt end in
    subst F (sym is) (end_forth spaces x front end gap f)

pub spaced_fails : (text spaces x end : List ℕ) → text ≡ spaces ++ x → IsGap spaces → (e : Lapse) →
    Reads (up_to_end (codes "?>")) x (Err e) end → Reads instruction_end text (Err e) end
spaced_fails text spaces x end is gap Broken none = λ (some : Continues instruction_end text).
    let F : List ℕ → Type 0 = λ xs. IsFound instruction_end xs some.1.0 some.1.1 in
    let b = end_back spaces (x ++ some.0) some.1.1 some.1.0 gap.0
    (subst F (ap (λ xs. xs ++ some.0) is ∙ append_assoc spaces x some.0) some.1.2) in
    none (some.0, (b.0, some.1.1, b.1))
spaced_fails text spaces x end is gap Cut cut =
    let F : List ℕ → Type 0 = λ xs. IsFound instruction_end xs tt cut.1.1.1 in (
      (λ (some : Starts instruction_end text).
          let G : List ℕ → Type 0 = λ xs. IsFound instruction_end xs some.0 some.1 in
          let b = end_back spaces x some.1 some.0 gap.0 (subst G is some.2) in
          cut.0 (b.0, some.1, b.1)),
      (
        cut.1.0,
        (
          tt,
          cut.1.1.1,
          subst F (sym (ap (λ xs. xs ++ cut.1.0) is ∙ append_assoc spaces x cut.1.0))
              (end_forth spaces (x ++ cut.1.0) cut.1.1.0 cut.1.1.1 gap cut.1.1.2),
        ),
      ),
    )
spaced_fails text spaces x end is gap NoMemory none = tt
