-- The parts that a cursor reads in one step.
use Rattle.std.proofs.Common.{◌≡◌, ◌≢◌, ℕ, Bool, true, false, ◌||◌, List, [], ◌∷◌, ◌++◌, IsTrue, Some, None}
use Rattle.std.proofs.Common.{refl, sym, ap}
use Rattle.std.proofs.Common.{append_assoc, ◌==◌, ◌⊎◌, length, take, drop, min, arith, nat_eq, eqb-true, subst, ◌∙◌}
use Rattle.std.proofs.Common.{inl, inr, ⊎_elim, codes}
use Rattle.std.specs.List.{list_all, slice_get}
use Rattle.std.proofs.lemmas.Bool.{and_parts, and_from, both_ways, not-true, cases_Bool, not_from_false}
use Rattle.std.proofs.lemmas.List.{append-nil, take_at}
use Rattle.std.specs.Char.{is_ascii_digit}
use Rattle.atom_values.specs.Ascii.{minus, point, colon}
use Rattle.atom_values.specs.Space.{is_space}
use Rattle.xml_tokens.specs.Characters.{IsName, begins, begins_name, continues_name, written_name}
use Rattle.xml_tokens.specs.Reading.{Continues, IsFound, IsSpaceRead, exactly, first_is_no, whole_name, one_quote}
use Rattle.xml_tokens.specs.Reading.{equals_sign, whole_qname}
use Rattle.xml_tokens.proofs.PartLemmas.{IsPart, Joins, Leads, same_front, same_part, seq_part}
use Rattle.xml_tokens.specs.Reading.{mapped}
use Rattle.xml_tokens.specs.Reading.{seq}
use Rattle.xml_tokens.proofs.BeginLemmas.{begins_from, begins_split}
use Rattle.xml_tokens.proofs.RunLemmas.{run, run_unique, run_part, first_grows, first_shrinks}

-- the first byte
pub no_first : (text : List ℕ) → None ≡ slice_get text 0 → text ≡ []
no_first [] e = refl
no_first (b ∷ bs) e = absurd (let g : None ≡ Some b = e in cc)

pub first_is : (text : List ℕ) (b : ℕ) → Some b ≡ slice_get text 0 → (tail : List ℕ) × (text ≡ b ∷ tail)
first_is [] b e = absurd (let g : Some b ≡ None = e in cc)
first_is (a ∷ bs) b e = (bs, (let g : Some b ≡ Some a = e in cc))

pub exactly_part : (bytes : List ℕ) → IsPart (exactly bytes)
exactly_part bytes = record {
  unique = λ a b s x t y is_s is_t e. (refl, is_s ∙ sym is_t);
  grows = λ a s x more some is. is;
  shrinks = λ a s x more is. is;
}

pub quote_part : IsPart one_quote
quote_part = record {
  unique = λ a b s x t y is_s is_t e.
      let same : a ∷ x ≡ b ∷ y = ap (λ xs. xs ++ x) (sym is_s.1) ∙ e ∙ ap (λ xs. xs ++ y) is_t.1 in
      let one : a ≡ b = cc in
      (one, is_s.1 ∙ ap (λ q. q ∷ []) one ∙ sym is_t.1);
  grows = λ a s x more some is. is;
  shrinks = λ a s x more is. is;
}

either : (a b : Bool) → a ≡ true → (a || b) ≡ true
either true b e = refl
either false b e = absurd (both_ways false refl e)

begins_continues : (b : ℕ) → begins_name b ≡ true → continues_name b ≡ true
begins_continues b e = either (begins_name b || is_ascii_digit b || (b == minus)) (b == point)
    (either (begins_name b || is_ascii_digit b) (b == minus) (either (begins_name b) (is_ascii_digit b) e))

pub name_run : (name : List ℕ) → IsName name → IsTrue (list_all continues_name name)
name_run [] is = refl
name_run (b ∷ bs) is =
    let p = and_parts (begins_name b) (list_all continues_name bs) is in
    and_from (continues_name b) (list_all continues_name bs) (begins_continues b p.0) p.1

pub name_some : (name : List ℕ) → IsName name → name ≢ []
name_some [] is e = both_ways false refl is
name_some (b ∷ bs) is e = cc

-- a front that goes as far as a name can, after a first byte of a name
pub name_from : (text front rest tail : List ℕ) (b : ℕ) → begins_name b ≡ true → text ≡ b ∷ tail →
    text ≡ front ++ rest → IsTrue (list_all continues_name front) → IsTrue (first_is_no continues_name rest) →
    IsName front
name_from text [] rest tail b first is split all ends =
    let N : List ℕ → Type 0 = λ xs. IsTrue (first_is_no continues_name xs) in
    absurd (both_ways (continues_name b) (not-true (continues_name b) (subst N (sym split ∙ is) ends))
    (begins_continues b first))
name_from text (a ∷ front) rest tail b first is split all ends =
    let same : a ∷ (front ++ rest) ≡ b ∷ tail = sym split ∙ is in
    let one : a ≡ b = cc in
    and_from (begins_name a) (list_all continues_name front) (ap begins_name one ∙ first)
    (and_parts (continues_name a) (list_all continues_name front) all).1

pub name_one : (a b s x t y : List ℕ) → whole_name a s x → whole_name b t y → s ++ x ≡ t ++ y → s ≡ t
name_one a b s x t y is_s is_t e =
    let N : List ℕ → Type 0 = λ xs. IsTrue (list_all continues_name xs) in
    run_unique continues_name s x t y (subst N (sym is_s.0) (name_run a is_s.1)) is_s.2
    (subst N (sym is_t.0) (name_run b is_t.1)) is_t.2 e

pub name_part : IsPart whole_name
name_part = record {
  unique = λ a b s x t y is_s is_t e.
      let one = name_one a b s x t y is_s is_t e in
      (sym is_s.0 ∙ one ∙ is_t.0, one);
  grows = λ a s x more some is. (is.0, is.1, first_grows continues_name x more some is.2);
  shrinks = λ a s x more is. (is.0, is.1, first_shrinks continues_name x more is.2);
}

-- white space, if there is any
pub spaces_found : (before : List ℕ) (any : Bool) (after : List ℕ) → IsSpaceRead before any after →
    IsFound (run is_space) before tt after
spaces_found before any after read =
    record { front = read.spaces; split = read.split; spelled = (read.are_spaces, read.longest) }

-- `=` and the white space after it
abbrev pub sign_behind : Unit {0} → Unit {0} → List ℕ → List ℕ → Type 0
sign_behind _ = seq (exactly (codes "=")) (λ _. run is_space)

abbrev pub spaced_sign : Unit {0} → List ℕ → List ℕ → Type 0
spaced_sign = seq (run is_space) sign_behind

pub sign_joins : Joins (exactly (codes "=")) (λ _. run is_space)
sign_joins = record {
  part = exactly_part (codes "=");
  lives = (tt, codes "=", refl);
  follows = λ b s v t rest is r. is;
  goes = λ b s is. (tt, [], (refl, refl));
}

pub spaced_joins : Joins (run is_space) sign_behind
spaced_joins = record {
  part = run_part is_space;
  lives = (tt, [], (refl, refl));
  follows = λ b s v t rest is r.
      let N : List ℕ → Type 0 = λ xs. IsTrue (first_is_no is_space (xs ++ rest)) in
      (is.0, subst N (sym (r.3 ∙ ap (λ xs. xs ++ r.2) r.4)) refl);
  goes = λ b s is. (tt, codes "=", (tt, codes "=", [], refl, refl, (refl, refl)));
}

pub to_equals : (v : Unit {0}) (s rest : List ℕ) → spaced_sign v s rest → equals_sign v s rest
to_equals v s rest r =
    let sign = r.5 in (
      r.1,
      sign.2,
      r.4.0,
      sign.5.0,
      r.3 ∙ ap (λ xs. r.1 ++ xs) (sign.3 ∙ ap (λ xs. xs ++ sign.2) sign.4)
          ∙ sym (append_assoc r.1 (codes "=") sign.2),
      sign.5.1,
    )

pub from_equals : (v : Unit {0}) (s rest : List ℕ) → equals_sign v s rest → spaced_sign v s rest
from_equals v s rest is = (
  tt,
  is.0,
  61 ∷ is.1,
  is.4 ∙ append_assoc is.0 (codes "=") is.1,
  (is.2, refl),
  (
    tt,
    codes "=",
    is.1,
    refl,
    refl,
    (is.3, is.5),
  ),
)

-- after a name: the end of a name without a prefix, or a colon and a name
abbrev pub name_behind : List ℕ → List ℕ → List ℕ → List ℕ → Type 0
name_behind name v text rest =
    ((v ≡ name) × (text ≡ []) × IsTrue (first_is_no continues_name rest) × IsTrue (first_is_no (nat_eq colon) rest))
    ⊎ ((local : List ℕ) × (v ≡ name ++ colon ∷ local) × (text ≡ colon ∷ local) × IsName local
    × IsTrue (first_is_no continues_name rest))

pub name_behind_joins : Joins whole_name name_behind
name_behind_joins = record {
  part = name_part;
  lives = (95 ∷ [], 95 ∷ [], (refl, refl, refl));
  follows = λ b s v t rest is r.
      let N : List ℕ → Type 0 = λ xs. IsTrue (first_is_no continues_name (xs ++ rest)) in (
        is.0,
        is.1,
        ⊎_elim
            (λ plain. subst N (sym plain.1) plain.2)
            (λ pair. subst N (sym pair.2) refl)
            r,
      );
  goes = λ b s is. (b, [], inl (refl, refl, refl, refl));
}

pub written : (name local : List ℕ) → IsName name → written_name name local ≡ name ++ colon ∷ local
written [] local is = absurd (name_some [] is refl)
written (b ∷ bs) local is = refl

abbrev pub name_then : List ℕ → List ℕ → List ℕ → Type 0
name_then = seq whole_name name_behind

pub to_qname : (v : List ℕ) (s rest : List ℕ) → name_then v s rest → whole_qname v s rest
to_qname v s rest r =
    let name = r.0 in
    let is = r.4 in
    let front : r.1 ≡ name = is.0 in
    ⊎_elim
    (λ plain. (
      record { prefix = []; local = name },
      r.3 ∙ ap (λ xs. r.1 ++ xs) plain.1 ∙ append-nil r.1 ∙ front ∙ sym plain.0,
      plain.0,
      (inl refl, is.1),
      plain.2,
      λ _. plain.3,
    ))
    (λ pair. (
      record { prefix = name; local = pair.0 },
      r.3 ∙ ap (λ xs. r.1 ++ xs) pair.2 ∙ ap (λ xs. xs ++ colon ∷ pair.0) front ∙ sym pair.1,
      pair.1 ∙ sym (written name pair.0 is.1),
      (inr is.1, pair.3),
      pair.4,
      λ e. absurd (name_some name is.1 e),
    ))
    r.5

pub from_qname : (v : List ℕ) (s rest : List ℕ) → whole_qname v s rest → name_then v s rest
from_qname v s rest is =
    let q = is.0 in
    let W : List ℕ → Type 0 = λ p. v ≡ written_name p q.local in
    ⊎_elim
    (λ none.
    let local : v ≡ q.local = subst W none is.2 in (
      q.local,
      q.local,
      [],
      is.1 ∙ local ∙ sym (append-nil q.local),
      (refl, is.3.1, is.4),
      inl (local, refl, is.4, is.5 none),
    ))
    (λ name.
    let whole : v ≡ q.prefix ++ colon ∷ q.local = is.2 ∙ written q.prefix q.local name in (
      q.prefix,
      q.prefix,
      colon ∷ q.local,
      is.1 ∙ whole,
      (refl, name, refl),
      inr (q.local, whole, refl, is.3.1, is.4),
    ))
    is.3.0

-- a local name after a prefix and its colon
abbrev pub local_behind : List ℕ → List ℕ → List ℕ → List ℕ → Type 0
local_behind name = mapped (λ local. name ++ colon ∷ local) whole_name

pub colon_leads : (name after : List ℕ) → Leads (name_behind name) (colon ∷ after) (local_behind name) after
colon_leads name after = record {
  forth = λ v more rest found.
      let is = found.spelled in
      record {
        front = colon ∷ found.front;
        split = ap (λ xs. colon ∷ xs) found.split;
        spelled = inr (is.0, is.1, ap (λ xs. colon ∷ xs) is.2.0, is.2.1, is.2.2);
      };
  back = λ v more rest none found.
      ⊎_elim
      (λ plain.
      let N : List ℕ → Type 0 = λ xs. IsTrue (first_is_no (nat_eq colon) xs) in
      let here : colon ∷ (after ++ more) ≡ rest = found.split ∙ ap (λ xs. xs ++ rest) plain.1 in
      absurd (both_ways false refl (subst N (sym here) plain.3)))
      (λ pair.
      let same : colon ∷ (after ++ more) ≡ colon ∷ (pair.0 ++ rest) =
      found.split ∙ ap (λ xs. xs ++ rest) pair.2 in
      let tails : after ++ more ≡ pair.0 ++ rest = cc in
      record { front = pair.0; split = tails; spelled = (pair.0, pair.1, (refl, pair.3, pair.4)) })
      found.spelled;
  ends = λ e. absurd (let g : colon ∷ after ≡ [] = e in cc);
}

pub local_lives : (name : List ℕ) → Continues (local_behind name) []
local_lives name = (
  95 ∷ [],
  (
    name ++ colon ∷ 95 ∷ [],
    [],
    record {
      front = 95 ∷ [];
      split = refl;
      spelled = (95 ∷ [], refl, (refl, refl, refl));
    },
  ),
)

-- no colon after the name
pub plain_found : (name after : List ℕ) → IsTrue (first_is_no continues_name after) →
    begins (colon ∷ []) after ≡ false →
    IsFound (name_behind name) after name after
plain_found name [] ends none =
    record { front = []; split = refl; spelled = inl (refl, refl, refl, refl) }
plain_found name (b ∷ after) ends none =
    let other : nat_eq colon b ≡ false = ⊎_elim
    (λ same. absurd (both_ways (begins (colon ∷ []) (b ∷ after)) none
    (begins_from (colon ∷ []) (b ∷ after) after (ap (λ x. x ∷ after) (sym (eqb-true colon b same))))))
    (λ o. o) (cases_Bool (nat_eq colon b)) in
    record { front = []; split = refl; spelled = inl (refl, refl, ends, not_from_false (nat_eq colon b) other) }

-- one byte was read
pub byte_read : (b : ℕ) (text taken rest : List ℕ) → begins (b ∷ []) text ≡ true → text ≡ taken ++ rest →
    length taken ≡ min 1 (length text) → text ≡ b ∷ rest
byte_read b text taken rest begun split long =
    let whole : text ≡ b ∷ drop 1 text = begins_split (b ∷ []) text begun in
    let total = ap length whole in
    let parts = same_front taken rest (b ∷ []) (drop 1 text) (sym split ∙ whole) (omega arith) in
    split ∙ ap (λ xs. xs ++ rest) parts.0

-- the spelling of a name is as long as it
pub qname_cut : (text v rest : List ℕ) (n : ℕ) → IsFound whole_qname text v rest → n ≡ length v →
    IsFound whole_qname text (take n text) rest
qname_cut text v rest n found long =
    let F : List ℕ → Type 0 = λ xs. IsFound whole_qname text xs rest in
    let whole : take n text ≡ v =
    ap (λ k. take k text) long ∙ ap (take (length v)) (found.split ∙ ap (λ xs. xs ++ rest) found.spelled.1)
    ∙ take_at v rest (length v) refl in
    subst F (sym whole) found

pub equals_part : IsPart equals_sign
equals_part = same_part equals_sign spaced_sign to_equals from_equals
    (seq_part spaced_joins (λ _. seq_part sign_joins (λ _. run_part is_space)))

-- the first byte was read
pub byte_taken : (b : ℕ) (tail text taken rest : List ℕ) → text ≡ b ∷ tail → text ≡ taken ++ rest →
    length taken ≡ min 1 (length text) → text ≡ b ∷ rest
byte_taken b tail text taken rest whole split long =
    let total = ap length whole in
    let parts = same_front taken rest (b ∷ []) tail (sym split ∙ whole) (omega arith) in
    split ∙ ap (λ xs. xs ++ rest) parts.0
