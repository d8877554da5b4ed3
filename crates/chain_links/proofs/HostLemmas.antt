-- The walk over a host takes exactly its labels.
use Rattle.std.proofs.Common.{◌≡◌, ◌≢◌, ℕ, List, [], ◌∷◌, ◌++◌, length, get_or, drop, ◌+◌, ◌<◌, ◌≤◌, Bool, true, false}
use Rattle.std.proofs.Common.{cond, ◌==◌, Option, Some, None, IsTrue, All, refl, sym, ap, ◌∙◌, eqb-true, ⊎_elim}
use Rattle.std.proofs.lemmas.Bool.{cases_Bool, cond-true, true≢false, or_cases}
use Rattle.std.proofs.lemmas.List.Elements.{All-nil, All-cons, All-head, All-tail}
use Rattle.std.proofs.lemmas.List.{at_drop_more, at_drop_all, drop_more}
use Rattle.chain_links.specs.Base.{is_label_char, IsWord, AreLabels, host_text}
use Rattle.chain_links.specs.Front.{BeginsWith, is_host_end, HasHost}

-- the text after a host; `fresh` says that a label is still to begin
abbrev pub behind_host : Bool → List ℕ → Option (List ℕ)
behind_host fresh [] = None
behind_host fresh (c ∷ cs) =
    cond (is_label_char c) (behind_host false cs)
    (cond fresh None (cond (c == 46) (behind_host true cs) (Some (c ∷ cs))))

-- the rest of a label, more labels, and what follows
record Taken (fresh : Bool) (text rest : List ℕ) : Type 0 where
  first : List ℕ
  more : List (List ℕ)
  begun : fresh ≡ true → first ≢ []
  chars : All (λ c. IsTrue (is_label_char c)) first
  words : All (IsWord is_label_char) more
  spelt : host_text (first ∷ more) ++ rest ≡ text

pub host_text-cons : (c : ℕ) (first : List ℕ) (more : List (List ℕ)) →
    host_text ((c ∷ first) ∷ more) ≡ c ∷ host_text (first ∷ more)
host_text-cons c first [] = refl
host_text-cons c first (m ∷ ms) = refl

with_char : (fresh : Bool) (c : ℕ) (cs rest : List ℕ) → is_label_char c ≡ true → Taken false cs rest →
    Taken fresh (c ∷ cs) rest
with_char fresh c cs rest e t = record {
  first = c ∷ t.first;
  more = t.more;
  begun = λ _. λ n. cc;
  chars = All-cons (λ x. IsTrue (is_label_char x)) c t.first e t.chars;
  words = t.words;
  spelt = ap (λ x. x ++ rest) (host_text-cons c t.first t.more) ∙ ap (λ x. c ∷ x) t.spelt;
}

with_dot : (c : ℕ) (cs rest : List ℕ) → c ≡ 46 → Taken true cs rest → Taken false (c ∷ cs) rest
with_dot c cs rest e t = record {
  first = [];
  more = t.first ∷ t.more;
  begun = λ n. absurd (true≢false (sym n));
  chars = All-nil (λ x. IsTrue (is_label_char x));
  words = All-cons (IsWord is_label_char) t.first t.more (t.begun refl, t.chars) t.words;
  spelt = ap (λ x. 46 ∷ x) t.spelt ∙ ap (λ x. x ∷ cs) (sym e);
}

at_end : (c : ℕ) (cs rest : List ℕ) → Some (c ∷ cs) ≡ Some rest → Taken false (c ∷ cs) rest
at_end c cs rest e = record {
  first = [];
  more = [];
  begun = λ n. absurd (true≢false (sym n));
  chars = All-nil (λ x. IsTrue (is_label_char x));
  words = All-nil (IsWord is_label_char);
  spelt = cc;
}

after_char : (fresh : Bool) (c : ℕ) (cs rest : List ℕ) → is_label_char c ≡ false →
    behind_host fresh (c ∷ cs) ≡ Some rest → (behind_host true cs ≡ Some rest → Taken true cs rest) →
    Taken fresh (c ∷ cs) rest
after_char true c cs rest apart e go = absurd (let h = rw apart at e in cc)
after_char false c cs rest apart e go =
    let h : cond (c == 46) (behind_host true cs) (Some (c ∷ cs)) ≡ Some rest = rw apart at e in
    ⊎_elim
    (λ dot. with_dot c cs rest (eqb-true c 46 dot) (go (rw dot at h)))
    (λ other. at_end c cs rest (rw other at h))
    (cases_Bool (c == 46))

taken : (fresh : Bool) (text rest : List ℕ) → behind_host fresh text ≡ Some rest → Taken fresh text rest
taken fresh [] rest e = absurd cc
taken fresh (c ∷ cs) rest e =
    ⊎_elim
    (λ yes. with_char fresh c cs rest yes (taken false cs rest (rw yes at e)))
    (λ apart. after_char fresh c cs rest apart e (taken true cs rest))
    (cases_Bool (is_label_char c))

-- the rest that the walk leaves is the text after a host
pub host_found : (text rest : List ℕ) → behind_host true text ≡ Some rest → HasHost text rest
host_found text rest e =
    let t = taken true text rest e in (
      t.first ∷ t.more,
      (λ n. cc, All-cons (IsWord is_label_char) t.first t.more (t.begun refl, t.chars) t.words),
      sym t.spelt,
    )

-- over the characters of a label
over_label : (fresh : Bool) (first : List ℕ) (more : List (List ℕ)) (rest : List ℕ) → (fresh ≡ true → first ≢ []) →
    All (λ c. IsTrue (is_label_char c)) first →
    behind_host fresh (host_text (first ∷ more) ++ rest) ≡ behind_host false (host_text ([] ∷ more) ++ rest)
over_label true [] more rest begun chars = absurd (begun refl refl)
over_label false [] more rest begun chars = refl
over_label fresh (c ∷ cs) more rest begun chars =
    ap (λ x. behind_host fresh (x ++ rest)) (host_text-cons c cs more)
    ∙ cond-true (is_label_char c) _ _ (All-head (λ c. IsTrue (is_label_char c)) c cs chars)
    ∙ over_label false cs more rest (λ n. absurd (true≢false (sym n)))
    (All-tail (λ c. IsTrue (is_label_char c)) c cs chars)

-- the end of a host is neither in a label nor a dot
end_is_other : (c : ℕ) → is_host_end c ≡ true → (is_label_char c ≡ false) × ((c == 46) ≡ false)
end_is_other c e =
    ⊎_elim
    (λ h. let p : c ≡ 58 = eqb-true c 58 h in rw p (refl, refl))
    (λ h. let p : c ≡ 47 = eqb-true c 47 h in rw p (refl, refl))
    (or_cases (c == 58) (c == 47) e)

stops : (rest : List ℕ) → BeginsWith is_host_end rest → behind_host false rest ≡ Some rest
stops [] e = absurd e
stops (c ∷ cs) e = let p = end_is_other c e in rw (p.0, p.1) refl

over_labels : (first : List ℕ) (more : List (List ℕ)) (rest : List ℕ) → All (IsWord is_label_char) (first ∷ more) →
    BeginsWith is_host_end rest → behind_host true (host_text (first ∷ more) ++ rest) ≡ Some rest
over_labels first [] rest words ends =
    let w = All-head (IsWord is_label_char) first [] words in
    over_label true first [] rest (λ _. w.0) w.1 ∙ stops rest ends
over_labels first (m ∷ ms) rest words ends =
    let w = All-head (IsWord is_label_char) first (m ∷ ms) words in
    over_label true first (m ∷ ms) rest (λ _. w.0) w.1
    ∙ over_labels m ms rest (All-tail (IsWord is_label_char) first (m ∷ ms) words) ends

-- and a host is taken whole
pub host_only : (text : List ℕ) (labels : List (List ℕ)) (rest : List ℕ) → AreLabels labels →
    BeginsWith is_host_end rest → text ≡ host_text labels ++ rest → behind_host true text ≡ Some rest
host_only text [] rest are ends e = absurd (are.0 refl)
host_only text (l ∷ ls) rest are ends e = ap (behind_host true) e ∙ over_labels l ls rest are.1 ends

-- the state of the walk
pub no_label : (text : List ℕ) (i : ℕ) (fresh : Bool) → behind_host fresh (drop i text) ≡ behind_host true text →
    i < length text → is_label_char (get_or text i 0) ≡ false → fresh ≡ true → behind_host true text ≡ None
no_label text i fresh walk lt other begins =
    sym walk ∙ ap (λ f. behind_host f (drop i text)) begins ∙ at_drop_more (behind_host true) text i 0 lt
    ∙ rw other refl

pub host_ends : (text : List ℕ) (i : ℕ) (fresh : Bool) → behind_host fresh (drop i text) ≡ behind_host true text →
    i < length text → is_label_char (get_or text i 0) ≡ false → fresh ≡ false → (get_or text i 0 == 46) ≡ false →
    behind_host true text ≡ Some (drop i text)
host_ends text i fresh walk lt other begun not_dot =
    let more : behind_host false (drop i text) ≡ Some (get_or text i 0 ∷ drop (i + 1) text) =
    at_drop_more (behind_host false) text i 0 lt ∙ rw (other, not_dot) refl in
    sym walk ∙ ap (λ f. behind_host f (drop i text)) begun ∙ more
    ∙ ap (λ (x : List ℕ). Some x) (sym (drop_more text i 0 lt))

pub text_ends : (text : List ℕ) (i : ℕ) (fresh : Bool) → behind_host fresh (drop i text) ≡ behind_host true text →
    length text ≤ i → behind_host true text ≡ None
text_ends text i fresh walk ends = sym walk ∙ at_drop_all (behind_host fresh) text i ends
