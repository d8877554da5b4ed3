-- Parts of a token that are read one after another.
use Rattle.std.proofs.Common.{◌≡◌, ◌≢◌, ℕ, List, [], ◌∷◌, ◌++◌, length, refl, sym, ap, subst, ◌∙◌, ◌⊎◌, ⊎_elim, inl}
use Rattle.std.proofs.Common.{inr}
use Rattle.std.proofs.Common.{append_assoc, drop, false, arith}
use Rattle.std.specs.Prelude.{Result, Ok, Err, MatchResult}
use Rattle.std.specs.Result.{IsErrAnd}
use denote.Ref.{Bor}
use Rattle.xml_tokens.proofs.BeginLemmas.{begins_split, begins_from}
use Rattle.std.proofs.lemmas.Bool.{cases_Bool, both_ways}
use Rattle.std.proofs.lemmas.List.{append-nil, append_cancel_left, length-append, nil_from_length}
use Rattle.xml_tokens.specs.declared.cursor.Lapse.{Lapse}
use Rattle.xml_tokens.specs.declared.cursor.Lapse.TheVariants.{Broken, Cut, NoMemory}
use Rattle.xml_tokens.specs.Characters.{begins}
use Rattle.xml_tokens.specs.Reading.{mapped, seq, IsFound, Starts, Continues, Reads}

-- two splits of one text: one has the longer front
pub splits : (s x t y : List ℕ) → s ++ x ≡ t ++ y →
    ((m : List ℕ) × (t ≡ s ++ m) × (x ≡ m ++ y)) ⊎ ((m : List ℕ) × (s ≡ t ++ m) × (y ≡ m ++ x))
splits [] x t y e = inl (t, refl, e)
splits (a ∷ s) x [] y e = inr (a ∷ s, refl, sym e)
splits (a ∷ s) x (b ∷ t) y e =
    let heads : a ≡ b = cc in
    let tails : s ++ x ≡ t ++ y = cc in
    ⊎_elim
    (λ l. inl (l.0, (λ i. sym heads i ∷ l.1 i), l.2))
    (λ r. inr (r.0, (λ i. heads i ∷ r.1 i), r.2))
    (splits s x t y tails)

-- two splits at one place
pub same_front : (s x t y : List ℕ) → s ++ x ≡ t ++ y → length s ≡ length t → (s ≡ t) × (x ≡ y)
same_front [] x [] y e long = (refl, e)
same_front [] x (b ∷ t) y e long = absurd (omega arith)
same_front (a ∷ s) x [] y e long = absurd (omega arith)
same_front (a ∷ s) x (b ∷ t) y e long =
    let heads : a ≡ b = cc in
    let tails : s ++ x ≡ t ++ y = cc in
    let more = same_front s x t y tails (omega arith) in
    ((λ i. heads i ∷ more.0 i), more.1)

pub nil_back : (s x : List ℕ) → s ++ x ≡ [] → x ≡ []
nil_back s x e = nil_from_length x (let total = ap length e in omega (arith, length-append s x))

pub nil_front : (s x : List ℕ) → s ++ x ≡ [] → s ≡ []
nil_front s x e = nil_from_length s (let total = ap length e in omega (arith, length-append s x))

-- a production whose spelling in a text is unique, and depends on at most the first byte after it
pub record IsPart {A : Type 0} (P : A → List ℕ → List ℕ → Type 0) : Type 0 where
  pub unique : (a b : A) (s x t y : List ℕ) → P a s x → P b t y → s ++ x ≡ t ++ y → (a ≡ b) × (s ≡ t)
  pub grows : (a : A) (s x more : List ℕ) → x ≢ [] → P a s x → P a s (x ++ more)
  pub shrinks : (a : A) (s x more : List ℕ) → P a s (x ++ more) → P a s x

-- the part is allowed before what follows it, and something can follow it
pub record Joins {A B : Type 0} (P : B → List ℕ → List ℕ → Type 0) (R : B → A → List ℕ → List ℕ → Type 0)
    : Type 0 where
  pub part : IsPart P
  pub lives : (b : B) × (s : List ℕ) × P b s []
  pub follows : (b : B) (s : List ℕ) (v : A) (t rest : List ℕ) → P b s [] → R b v t rest → P b s (t ++ rest)
  pub goes : (b : B) (s : List ℕ) → P b s [] → (v : A) × (t : List ℕ) × R b v t []

-- after the text that was read, a spelling goes on as one of what is left
pub record Leads {A : Type 0} (S : A → List ℕ → List ℕ → Type 0) (before : List ℕ)
    (Q : A → List ℕ → List ℕ → Type 0) (after : List ℕ) : Type 0 where
  pub forth : (v : A) (more rest : List ℕ) → IsFound Q (after ++ more) v rest → IsFound S (before ++ more) v rest
  pub back : (v : A) (more rest : List ℕ) → (after ≡ [] → more ≡ []) → IsFound S (before ++ more) v rest →
      IsFound Q (after ++ more) v rest
  pub ends : before ≡ [] → after ≡ []

pub leads_leads : {A : Type 0} {S Q R : A → List ℕ → List ℕ → Type 0} {before middle after : List ℕ} →
    Leads S before Q middle → Leads Q middle R after → Leads S before R after
leads_leads l m = record {
  forth = λ v more rest found. l.forth v more rest (m.forth v more rest found);
  back = λ v more rest none found. m.back v more rest none (l.back v more rest (λ e. none (m.ends e)) found);
  ends = λ e. m.ends (l.ends e);
}

pub found_whole : {A : Type 0} (Q : A → List ℕ → List ℕ → Type 0) (text : List ℕ) (v : A) (rest : List ℕ) →
    IsFound Q text v rest → IsFound Q (text ++ []) v rest
found_whole Q text v rest found =
    let F : List ℕ → Type 0 = λ xs. IsFound Q xs v rest in
    subst F (sym (append-nil text)) found

pub whole_found : {A : Type 0} (Q : A → List ℕ → List ℕ → Type 0) (text : List ℕ) (v : A) (rest : List ℕ) →
    IsFound Q (text ++ []) v rest → IsFound Q text v rest
whole_found Q text v rest found =
    let F : List ℕ → Type 0 = λ xs. IsFound Q xs v rest in
    subst F (append-nil text) found

-- if a front leads to a rest, each result on the rest is one on the whole
pub leads_reads : {A : Type 0} {S Q : A → List ℕ → List ℕ → Type 0} {before after : List ℕ} →
    Leads S before Q after → Continues Q [] → (r : Result A Lapse) (end : List ℕ) → Reads Q after r end →
    Reads S before r end
leads_reads {A} {S} {Q} {before} {after} l lives (Ok v) end found =
    whole_found S before v end (l.forth v [] end (found_whole Q after v end found))
leads_reads {A} {S} {Q} {before} {after} l lives (Err Broken) end none = λ (some : Continues S before).
    let C : List ℕ → Type 0 = Continues Q in
    none (
      some.0,
      (
        some.1.0,
        some.1.1,
        l.back some.1.0 some.0 some.1.1 (λ e. absurd (none (subst C (sym e) lives)))
            some.1.2,
      ),
    )
leads_reads {A} {S} {Q} {before} {after} l lives (Err Cut) end cut = (
  (λ (some : Starts S before). cut.0 (
    some.0,
    some.1,
    whole_found Q after some.0 some.1 (l.back some.0 [] some.1 (λ _. refl) (found_whole S before some.0 some.1 some.2)),
  )),
  (cut.1.0, (cut.1.1.0, cut.1.1.1, l.forth cut.1.1.0 cut.1.0 cut.1.1.1 cut.1.1.2)),
)
leads_reads l lives (Err NoMemory) end none = tt

-- after a part that was read
grown : {B : Type 0} {P : B → List ℕ → List ℕ → Type 0} → IsPart P → (b : B) (s x more : List ℕ) → P b s x →
    (x ≡ [] → P b s (x ++ more)) → P b s (x ++ more)
grown part b s [] more is at_end = at_end refl
grown part b s (y ∷ x) more is at_end = part.grows b s (y ∷ x) more (λ (e : y ∷ x ≡ []). cc) is

pub joins_leads : {A B : Type 0} {P : B → List ℕ → List ℕ → Type 0} {R : B → A → List ℕ → List ℕ → Type 0} →
    Joins P R → (before : List ℕ) (b : B) (after : List ℕ) → IsFound P before b after →
    Leads (seq P R) before (R b) after
joins_leads {A} {B} {P} {R} j before b after f = record {
  forth = λ v more rest found.
      let N : List ℕ → Type 0 = λ xs. P b f.front xs in
      let none : after ≡ [] → P b f.front (after ++ more) = λ e.
      subst N (sym found.split) (j.follows b f.front v found.front rest (subst N e f.spelled) found.spelled) in
      let whole = subst N found.split (grown j.part b f.front after more f.spelled none) in
      record {
        front = f.front ++ found.front;
        split = ap (λ xs. xs ++ more) f.split ∙ append_assoc f.front after more ∙ ap (λ xs. f.front ++ xs) found.split
            ∙ sym (append_assoc f.front found.front rest);
        spelled = (b, f.front, found.front, refl, whole, found.spelled);
      };
  back = λ v more rest none found.
      let q = found.spelled in
      let N : List ℕ → Type 0 = λ xs. P b f.front xs in
      let at_end : after ≡ [] → P b f.front (after ++ more) = λ e.
      subst N (sym (append-nil after) ∙ ap (λ xs. after ++ xs) (sym (none e))) f.spelled in
      let here = grown j.part b f.front after more f.spelled at_end in
      let same : f.front ++ (after ++ more) ≡ q.1 ++ (q.2 ++ rest) =
      sym (append_assoc f.front after more) ∙ ap (λ xs. xs ++ more) (sym f.split) ∙ found.split
      ∙ ap (λ xs. xs ++ rest) q.3 ∙ append_assoc q.1 q.2 rest in
      let one = j.part.unique b q.0 f.front (after ++ more) q.1 (q.2 ++ rest) here q.4 same in
      let V : B → Type 0 = λ a. R a v q.2 rest in
      record {
        front = q.2;
        split = append_cancel_left f.front (after ++ more) (q.2 ++ rest)
            (same ∙ ap (λ xs. xs ++ (q.2 ++ rest)) (sym one.1));
        spelled = subst V (sym one.0) q.5;
      };
  ends = λ e. nil_back f.front after (sym f.split ∙ e);
}

pub goes_lives : {A B : Type 0} {P : B → List ℕ → List ℕ → Type 0} {R : B → A → List ℕ → List ℕ → Type 0} →
    Joins P R → (b : B) (s rest : List ℕ) → P b s rest → Continues (R b) []
goes_lives j b s rest is =
    let g = j.goes b s (j.part.shrinks b s [] rest is) in
    (g.1, (g.0, [], record { front = g.1; split = sym (append-nil g.1); spelled = g.2 }))

pub joins_lives : {A B : Type 0} {P : B → List ℕ → List ℕ → Type 0} {R : B → A → List ℕ → List ℕ → Type 0} →
    Joins P R → Continues (seq P R) []
joins_lives {A} {B} {P} {R} j =
    let one = j.lives in
    let g = j.goes one.0 one.1 one.2 in (
      one.1 ++ g.1,
      (
        g.0,
        [],
        record {
          front = one.1 ++ g.1;
          split = sym (append-nil (one.1 ++ g.1));
          spelled = (one.0, one.1, g.1, refl, j.follows one.0 one.1 g.0 g.1 [] one.2 g.2, g.2);
        },
      ),
    )

pub first_found : {A B : Type 0} {P : B → List ℕ → List ℕ → Type 0} {R : B → A → List ℕ → List ℕ → Type 0}
    (text : List ℕ) (v : A) (rest : List ℕ) → IsFound (seq P R) text v rest → Starts P text
first_found text v rest found =
    let q = found.spelled in (
      q.0,
      q.2 ++ rest,
      record {
        front = q.1;
        split = found.split ∙ ap (λ xs. xs ++ rest) q.3 ∙ append_assoc q.1 q.2 rest;
        spelled = q.4;
      },
    )

-- a part that can't be read
pub joins_fails : {A B : Type 0} {P : B → List ℕ → List ℕ → Type 0} {R : B → A → List ℕ → List ℕ → Type 0} →
    Joins P R → (before : List ℕ) (e : Lapse) (end last : List ℕ) → Reads P before (Err e) end →
    Reads (seq P R) before (Err e) last
joins_fails {A} {B} {P} {R} j before Broken end last none = λ (some : Continues (seq P R) before).
    none (some.0, first_found {R = R} (before ++ some.0) some.1.0 some.1.1 some.1.2)
joins_fails {A} {B} {P} {R} j before Cut end last cut =
    let more = cut.1.0 in
    let b = cut.1.1.0 in
    let rest = cut.1.1.1 in
    let f = cut.1.1.2 in (
      (λ (some : Starts (seq P R) before). cut.0 (first_found {R = R} before some.0 some.1 some.2)),
      ⊎_elim
          (λ longer.
          let alone = j.part.shrinks b f.front [] rest f.spelled in
          let g = j.goes b f.front alone in (
            longer.0 ++ g.1,
            (
              g.0,
              [],
              record {
                front = f.front ++ g.1;
                split = sym (append_assoc before longer.0 g.1) ∙ ap (λ xs. xs ++ g.1) (sym longer.1)
                    ∙ sym (append-nil (f.front ++ g.1));
                spelled = (b, f.front, g.1, refl, j.follows b f.front g.0 g.1 [] alone g.2, g.2);
              },
            ),
          ))
          (λ shorter.
          let N : List ℕ → Type 0 = λ xs. P b f.front xs in
          absurd (cut.0 (
            b,
            shorter.0,
            record {
              front = f.front;
              split = shorter.1;
              spelled = j.part.shrinks b f.front shorter.0 more (subst N shorter.2 f.spelled);
            },
          )))
          (splits before more f.front rest f.split),
    )
joins_fails j before NoMemory end last none = tt

-- one part, and then the rest
pub then_reads : {A B : Type 0} {P : B → List ℕ → List ℕ → Type 0} {R : B → A → List ℕ → List ℕ → Type 0} →
    Joins P R → (before : List ℕ) (b : B) (after : List ℕ) → IsFound P before b after → (r : Result A Lapse)
    (end : List ℕ) → Reads (R b) after r end → Reads (seq P R) before r end
then_reads j before b after f =
    leads_reads (joins_leads j before b after f) (goes_lives j b f.front after f.spelled)

-- two productions with the same spellings
pub same_reads : {A : Type 0} (S Q : A → List ℕ → List ℕ → Type 0) →
    ((v : A) (s rest : List ℕ) → Q v s rest → S v s rest) → ((v : A) (s rest : List ℕ) → S v s rest → Q v s rest) →
    (text : List ℕ) (r : Result A Lapse) (end : List ℕ) → Reads Q text r end → Reads S text r end
same_reads S Q to from text (Ok v) end f =
    record { front = f.front; split = f.split; spelled = to v f.front end f.spelled }
same_reads S Q to from text (Err Broken) end none = λ (some : Continues S text).
    let f = some.1.2 in
    none (
      some.0,
      (
        some.1.0,
        some.1.1,
        record {
          front = f.front;
          split = f.split;
          spelled = from some.1.0 f.front some.1.1 f.spelled;
        },
      ),
    )
same_reads S Q to from text (Err Cut) end cut =
    let f = cut.1.1.2 in (
      (λ (some : Starts S text). cut.0 (
        some.0,
        some.1,
        record {
          front = some.2.front;
          split = some.2.split;
          spelled = from some.0 some.2.front some.1 some.2.spelled;
        },
      )),
      (
        cut.1.0,
        (
          cut.1.1.0,
          cut.1.1.1,
          record {
            front = f.front;
            split = f.split;
            spelled = to cut.1.1.0 f.front cut.1.1.1 f.spelled;
          },
        ),
      ),
    )
same_reads S Q to from text (Err NoMemory) end none = tt

-- a text that a spelling begins is read
pub found_reads : {A B : Type 0} {P : A → List ℕ → List ℕ → Type 0} (S : B → List ℕ → List ℕ → Type 0)
    (text : List ℕ) (v : A) (rest : List ℕ) → IsFound P text v rest → (e : Lapse) (end before last : List ℕ) →
    Reads P text (Err e) end → Reads S before (Err e) last
found_reads {A} {B} {P} S text v rest found Broken end before last none =
    absurd (none ([], (v, rest, found_whole P text v rest found)))
found_reads S text v rest found Cut end before last cut = absurd (cut.0 (v, rest, found))
found_reads S text v rest found NoMemory end before last none = tt

-- the text ends before a part
pub ended_reads : {A : Type 0} {P : A → List ℕ → List ℕ → Type 0} → ((v : A) (rest : List ℕ) → P v [] rest → ⊥) →
    Continues P [] → (text : List ℕ) → text ≡ [] → (end : List ℕ) → Reads P text (Err Cut) end
ended_reads {A} {P} some lives text e end =
    let C : List ℕ → Type 0 = Continues P in (
      (λ (starts : Starts P text).
          let f = starts.2 in
          let N : List ℕ → Type 0 = λ xs. P starts.0 xs starts.1 in
          some starts.0 starts.1 (subst N (nil_front f.front starts.1 (sym f.split ∙ e)) f.spelled)),
      subst C (sym e) lives,
    )

-- the exits of a `?`
pub err_reads : {A : Type 0} (S : A → List ℕ → List ℕ → Type 0) (before end : List ℕ) (e : Lapse)
    (r : Result A Lapse) → IsErrAnd r (λ s. s ≡ e) → Reads S before (Err e) end → Reads S before r end
err_reads S before end e (Ok v) same none = absurd same
err_reads {A} S before end e (Err x) same none =
    let F : Lapse → Type 0 = λ s. Reads S before (Err s) end in
    subst F (sym same) none

pub err_matches : (S : List ℕ → List ℕ → List ℕ → Type 0) (before end : List ℕ) (e : Lapse)
    (r : Result (Bor (List ℕ)) Lapse) → IsErrAnd r (λ s. s ≡ e) → Reads S before (Err e) end →
    MatchResult r (λ front. Reads S before (Ok front.now) end) (λ lapse. Reads S before (Err lapse) end)
err_matches S before end e (Ok v) same none = absurd same
err_matches S before end e (Err x) same none =
    let F : Lapse → Type 0 = λ s. Reads S before (Err s) end in
    subst F (sym same) none

pub seq_part_of : {A B : Type 0} {P : B → List ℕ → List ℕ → Type 0} {R : B → A → List ℕ → List ℕ → Type 0} →
    Joins P R → ((b : B) (s x : List ℕ) → P b s x → IsPart (R b)) → IsPart (seq P R)
seq_part_of {A} {B} {P} {R} j later = record {
  unique = λ v w s x t y is_s is_t e.
      let same : is_s.1 ++ (is_s.2 ++ x) ≡ is_t.1 ++ (is_t.2 ++ y) =
      sym (append_assoc is_s.1 is_s.2 x) ∙ ap (λ xs. xs ++ x) (sym is_s.3) ∙ e ∙ ap (λ xs. xs ++ y) is_t.3
      ∙ append_assoc is_t.1 is_t.2 y in
      let one = j.part.unique is_s.0 is_t.0 is_s.1 (is_s.2 ++ x) is_t.1 (is_t.2 ++ y) is_s.4 is_t.4 same in
      let V : B → Type 0 = λ b. R b w is_t.2 y in
      let behind : is_s.2 ++ x ≡ is_t.2 ++ y = append_cancel_left is_s.1 (is_s.2 ++ x) (is_t.2 ++ y)
      (same ∙ ap (λ xs. xs ++ (is_t.2 ++ y)) (sym one.1)) in
      let two = (later is_s.0 is_s.1 (is_s.2 ++ x) is_s.4).unique v w is_s.2 x is_t.2 y is_s.5
      (subst V (sym one.0) is_t.5) behind in
      (two.0, is_s.3 ∙ ap (λ xs. xs ++ is_s.2) one.1 ∙ ap (λ xs. is_t.1 ++ xs) two.1 ∙ sym is_t.3);
  grows = λ v s x more some is.
      let N : List ℕ → Type 0 = λ xs. P is.0 is.1 xs in (
        is.0,
        is.1,
        is.2,
        is.3,
        subst N (append_assoc is.2 x more)
            (j.part.grows is.0 is.1 (is.2 ++ x) more (λ e. some (nil_back is.2 x e)) is.4),
        (later is.0 is.1 (is.2 ++ x) is.4).grows v is.2 x more some is.5,
      );
  shrinks = λ v s x more is.
      let N : List ℕ → Type 0 = λ xs. P is.0 is.1 xs in (
        is.0,
        is.1,
        is.2,
        is.3,
        j.part.shrinks is.0 is.1 (is.2 ++ x) more (subst N (sym (append_assoc is.2 x more)) is.4),
        (later is.0 is.1 (is.2 ++ (x ++ more)) is.4).shrinks v is.2 x more is.5,
      );
}

pub seq_part : {A B : Type 0} {P : B → List ℕ → List ℕ → Type 0} {R : B → A → List ℕ → List ℕ → Type 0} →
    Joins P R → ((b : B) → IsPart (R b)) → IsPart (seq P R)
seq_part j later = seq_part_of j (λ b s x is. later b)

pub mapped_part : {A B : Type 0} (f : B → A) {P : B → List ℕ → List ℕ → Type 0} → IsPart P → IsPart (mapped f P)
mapped_part f part = record {
  unique = λ v w s x t y is_s is_t e.
      let one = part.unique is_s.0 is_t.0 s x t y is_s.2 is_t.2 e in
      (is_s.1 ∙ ap f one.0 ∙ sym is_t.1, one.1);
  grows = λ v s x more some is. (is.0, is.1, part.grows is.0 s x more some is.2);
  shrinks = λ v s x more is. (is.0, is.1, part.shrinks is.0 s x more is.2);
}

mapped_found : {A B : Type 0} (f : B → A) (P : B → List ℕ → List ℕ → Type 0) (text : List ℕ) (b : B) (rest : List ℕ) →
    IsFound P text b rest → IsFound (mapped f P) text (f b) rest
mapped_found f P text b rest found =
    record { front = found.front; split = found.split; spelled = (b, refl, found.spelled) }

unmapped : {A B : Type 0} (f : B → A) (P : B → List ℕ → List ℕ → Type 0) (text : List ℕ) (v : A) (rest : List ℕ) →
    IsFound (mapped f P) text v rest → Starts P text
unmapped f P text v rest found =
    (found.spelled.0, rest, record { front = found.front; split = found.split; spelled = found.spelled.2 })

pub mapped_fails : {A B : Type 0} (f : B → A) (P : B → List ℕ → List ℕ → Type 0) (text : List ℕ) (e : Lapse)
    (end : List ℕ) → Reads P text (Err e) end → Reads (mapped f P) text (Err e) end
mapped_fails f P text Broken end none = λ (some : Continues (mapped f P) text).
    none (some.0, unmapped f P (text ++ some.0) some.1.0 some.1.1 some.1.2)
mapped_fails f P text Cut end cut = (
  (λ (some : Starts (mapped f P) text). cut.0 (unmapped f P text some.0 some.1 some.2)),
  (cut.1.0, (f cut.1.1.0, cut.1.1.1, mapped_found f P (text ++ cut.1.0) cut.1.1.0 cut.1.1.1 cut.1.1.2)),
)
mapped_fails f P text NoMemory end none = tt

pub mapped_reads : {A B : Type 0} (f : B → A) (P : B → List ℕ → List ℕ → Type 0) (text : List ℕ) (b : B)
    (rest : List ℕ) → IsFound P text b rest → Reads (mapped f P) text (Ok (f b)) rest
mapped_reads f P text b rest found = mapped_found f P text b rest found

-- if the text begins as one of the choices alone can, a read of that choice is a read of both
pub chosen_reads : {A : Type 0} (S T : A → List ℕ → List ℕ → Type 0) (text : List ℕ) →
    ((v : A) (s rest : List ℕ) → T v s rest → S v s rest) →
    ((v : A) (more s rest : List ℕ) → text ++ more ≡ s ++ rest → S v s rest → T v s rest) →
    (r : Result A Lapse) (end : List ℕ) → Reads T text r end → Reads S text r end
chosen_reads S T text to from (Ok v) end f =
    record { front = f.front; split = f.split; spelled = to v f.front end f.spelled }
chosen_reads S T text to from (Err Broken) end none = λ (some : Continues S text).
    let f = some.1.2 in
    none (
      some.0,
      (
        some.1.0,
        some.1.1,
        record {
          front = f.front;
          split = f.split;
          spelled = from some.1.0 some.0 f.front some.1.1 f.split f.spelled;
        },
      ),
    )
chosen_reads S T text to from (Err Cut) end cut =
    let f = cut.1.1.2 in (
      (λ (some : Starts S text).
          let s = some.2 in
          cut.0 (
            some.0,
            some.1,
            record {
              front = s.front;
              split = s.split;
              spelled = from some.0 [] s.front some.1 (append-nil text ∙ s.split) s.spelled;
            },
          )),
      (
        cut.1.0,
        (
          cut.1.1.0,
          cut.1.1.1,
          record {
            front = f.front;
            split = f.split;
            spelled = to cut.1.1.0 f.front cut.1.1.1 f.spelled;
          },
        ),
      ),
    )
chosen_reads S T text to from (Err NoMemory) end none = tt

-- the other choices, where the text doesn't begin with these bytes
abbrev pub apart : {A : Type 0} → List ℕ → (A → List ℕ → List ℕ → Type 0) → A → List ℕ → List ℕ → Type 0
apart p S v s rest = S v s rest × (begins p s ≡ false)

pub apart_reads : {A : Type 0} (S : A → List ℕ → List ℕ → Type 0) (p text : List ℕ) → begins p text ≡ false →
    ((m : List ℕ) → p ≡ text ++ m → Continues (apart p S) text) → (r : Result A Lapse) (end : List ℕ) →
    Reads (apart p S) text r end → Reads S text r end
apart_reads S p text none lives (Ok v) end f =
    record { front = f.front; split = f.split; spelled = f.spelled.0 }
apart_reads S p text none lives (Err Broken) end broken = λ (some : Continues S text).
    let f = some.1.2 in
    ⊎_elim
    (λ begun.
    let same : text ++ some.0 ≡ p ++ (drop (length p) f.front ++ some.1.1) =
    f.split ∙ ap (λ xs. xs ++ some.1.1) (begins_split p f.front begun)
    ∙ append_assoc p (drop (length p) f.front) some.1.1 in
    ⊎_elim
    (λ longer. broken (lives longer.0 longer.1))
    (λ shorter. both_ways (begins p text) none (begins_from p text shorter.0 shorter.1))
    (splits text some.0 p (drop (length p) f.front ++ some.1.1) same))
    (λ other. broken (
      some.0,
      (
        some.1.0,
        some.1.1,
        record {
          front = f.front;
          split = f.split;
          spelled = (f.spelled, other);
        },
      ),
    ))
    (cases_Bool (begins p f.front))
apart_reads S p text none lives (Err Cut) end cut =
    let f = cut.1.1.2 in (
      (λ (some : Starts S text).
          let s = some.2 in
          ⊎_elim
          (λ begun. both_ways (begins p text) none (begins_from p text (drop (length p) s.front ++ some.1)
          (s.split ∙ ap (λ xs. xs ++ some.1) (begins_split p s.front begun)
          ∙ append_assoc p (drop (length p) s.front) some.1)))
          (λ other. cut.0 (some.0, some.1, record { front = s.front; split = s.split; spelled = (s.spelled, other) }))
          (cases_Bool (begins p s.front))),
      (cut.1.0, (cut.1.1.0, cut.1.1.1, record { front = f.front; split = f.split; spelled = f.spelled.0 })),
    )
apart_reads S p text none lives (Err NoMemory) end broken = tt

-- one of two parts that no text begins both of
pub choice_part : {A : Type 0} (P Q : A → List ℕ → List ℕ → Type 0) → IsPart P → IsPart Q →
    ((a b : A) (s x t y : List ℕ) → P a s x → Q b t y → s ++ x ≡ t ++ y → ⊥) →
    IsPart (λ (v : A) (text rest : List ℕ). P v text rest ⊎ Q v text rest)
choice_part P Q p q never = record {
  unique = λ a b s x t y is_s is_t e.
      ⊎_elim
      (λ p_s. ⊎_elim
      (λ p_t. p.unique a b s x t y p_s p_t e)
      (λ q_t. absurd (never a b s x t y p_s q_t e))
      is_t)
      (λ q_s. ⊎_elim
      (λ p_t. absurd (never b a t y s x p_t q_s (sym e)))
      (λ q_t. q.unique a b s x t y q_s q_t e)
      is_t)
      is_s;
  grows = λ a s x more some is.
      ⊎_elim (λ i. inl (p.grows a s x more some i)) (λ i. inr (q.grows a s x more some i)) is;
  shrinks = λ a s x more is. ⊎_elim (λ i. inl (p.shrinks a s x more i)) (λ i. inr (q.shrinks a s x more i)) is;
}

pub same_part : {A : Type 0} (S Q : A → List ℕ → List ℕ → Type 0) →
    ((v : A) (s rest : List ℕ) → Q v s rest → S v s rest) → ((v : A) (s rest : List ℕ) → S v s rest → Q v s rest) →
    IsPart Q → IsPart S
same_part S Q to from part = record {
  unique = λ a b s x t y is_s is_t e. part.unique a b s x t y (from a s x is_s) (from b t y is_t) e;
  grows = λ a s x more some is. to a s (x ++ more) (part.grows a s x more some (from a s x is));
  shrinks = λ a s x more is. to a s x (part.shrinks a s x more (from a s (x ++ more) is));
}

-- a result that is no error
pub read_ok : {A : Type 0} (P : A → List ℕ → List ℕ → Type 0) (text end : List ℕ) (r : Result A Lapse) →
    ((e : Lapse) → r ≡ Err e → ⊥) → Reads P text r end → (v : A) × IsFound P text v end
read_ok P text end (Ok v) never read = (v, read)
read_ok P text end (Err e) never read = absurd (never e refl)

-- a result that is passed on
pub match_reads : (S P : List ℕ → List ℕ → List ℕ → Type 0) (text middle end : List ℕ) →
    ((r : Result (List ℕ) Lapse) → Reads P middle r end → Reads S text r end) → (r : Result (Bor (List ℕ)) Lapse) →
    MatchResult r (λ front. Reads P middle (Ok front.now) end) (λ lapse. Reads P middle (Err lapse) end) →
    MatchResult r (λ front. Reads S text (Ok front.now) end) (λ lapse. Reads S text (Err lapse) end)
match_reads S P text middle end pass (Ok front) read = pass (Ok front.now) read
match_reads S P text middle end pass (Err lapse) read = pass (Err lapse) read

pub err_only : {A : Type 0} (S : A → List ℕ → List ℕ → Type 0) (Q : Unit {0} → Type 0) (before end : List ℕ) (e : Lapse)
    (r : Result (Unit {0}) Lapse) → IsErrAnd r (λ s. s ≡ e) → Reads S before (Err e) end →
    MatchResult r Q (λ lapse. Reads S before (Err lapse) end)
err_only S Q before end e (Ok v) same none = absurd same
err_only {A} S Q before end e (Err x) same none =
    let F : Lapse → Type 0 = λ s. Reads S before (Err s) end in
    subst F (sym same) none
