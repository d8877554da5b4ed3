-- How a part of a declaration is read that says whether the texts are UTF-8.
use Rattle.std.proofs.Common.{◌≡◌, ℕ, Bool, true, false, List, [], ◌++◌, refl, sym, subst}
use Rattle.std.specs.Prelude.{Result, Ok, Err}
use Rattle.std.specs.Result.{IsErrAnd}
use Rattle.std.proofs.lemmas.List.{append-nil}
use Rattle.xml_tokens.specs.declared.cursor.Lapse.{Lapse}
use Rattle.xml_tokens.specs.declared.cursor.Lapse.TheVariants.{Broken, Cut, NoMemory}
use Rattle.xml_tokens.specs.declared.declaration.Encoding.{Encoding}
use Rattle.xml_tokens.specs.Reading.{seq, is_utf8, IsFound, StartsAs, ContinuesAs, Reads, ReadsEncoding}
use Rattle.xml_tokens.proofs.PartLemmas.{Joins, Leads, joins_leads, joins_fails, first_found, found_whole}
use Rattle.xml_tokens.proofs.PartLemmas.{whole_found}

-- after the text that was read, a part goes on as one of what is left
pub leads_encoding : {S Q : Bool → List ℕ → List ℕ → Type 0} {before after : List ℕ} → Leads S before Q after →
    ((more rest : List ℕ) → after ≡ [] → IsFound S (before ++ more) true rest → ContinuesAs Q true []) →
    (r : Result Encoding Lapse) (end : List ℕ) → ReadsEncoding Q after r end → ReadsEncoding S before r end
leads_encoding {S} {Q} {before} {after} l lives (Ok k) end found =
    whole_found S before (is_utf8 k) end (l.forth (is_utf8 k) [] end (found_whole Q after (is_utf8 k) end found))
leads_encoding {S} {Q} {before} {after} l lives (Err Broken) end none =
    let C : List ℕ → Type 0 = ContinuesAs Q true in (
      (λ (some : ContinuesAs S true before). none.0 (
        some.0,
        (
          some.1.0,
          l.back true some.0 some.1.0
              (λ e. absurd (none.0 (subst C (sym e) (lives some.0 some.1.0 e some.1.1)))) some.1.1,
        ),
      )),
      (λ (some : StartsAs S false before). none.1 (
        some.0,
        whole_found Q after false some.0
            (l.back false [] some.0 (λ _. refl) (found_whole S before false some.0 some.1)),
      )),
    )
leads_encoding {S} {Q} {before} {after} l lives (Err Cut) end cut = (
  (λ (some : StartsAs S true before). cut.0 (
    some.0,
    whole_found Q after true some.0 (l.back true [] some.0 (λ _. refl) (found_whole S before true some.0 some.1)),
  )),
  (cut.1.0, (cut.1.1.0, l.forth true cut.1.0 cut.1.1.0 cut.1.1.1)),
)
leads_encoding l lives (Err NoMemory) end none = tt

-- the same parts, of which only those of UTF-8 are kept
utf8_joins : {B : Type 0} {P : B → List ℕ → List ℕ → Type 0} {R : B → Bool → List ℕ → List ℕ → Type 0} → Joins P R →
    ((b : B) (s : List ℕ) → P b s [] → (t : List ℕ) × R b true t []) → Joins P (λ b (_ : Unit {0}). R b true)
utf8_joins j goes = record {
  part = j.part;
  lives = j.lives;
  follows = λ b s v t rest is r. j.follows b s true t rest is r;
  goes = λ b s is. let g = goes b s is in (tt, g.0, g.1);
}

pub then_encoding : {B : Type 0} {P : B → List ℕ → List ℕ → Type 0} {R : B → Bool → List ℕ → List ℕ → Type 0} →
    Joins P R → ((b : B) (s : List ℕ) → P b s [] → (t : List ℕ) × R b true t []) → (before : List ℕ) (b : B)
    (after : List ℕ) → IsFound P before b after → (r : Result Encoding Lapse) (end : List ℕ) →
    ReadsEncoding (R b) after r end → ReadsEncoding (seq P R) before r end
then_encoding j goes before b after f = leads_encoding (joins_leads j before b after f)
    (λ more rest e found.
    let g = goes b f.front (j.part.shrinks b f.front [] after f.spelled) in
    (g.0, ([], record { front = g.0; split = sym (append-nil g.0); spelled = g.1 })))

pub fails_encoding : {B : Type 0} {P : B → List ℕ → List ℕ → Type 0} {R : B → Bool → List ℕ → List ℕ → Type 0} →
    Joins P R → ((b : B) (s : List ℕ) → P b s [] → (t : List ℕ) × R b true t []) → (before : List ℕ) (e : Lapse)
    (end last : List ℕ) → Reads P before (Err e) end → ReadsEncoding (seq P R) before (Err e) last
fails_encoding {B} {P} {R} j goes before Broken end last none =
    let none_true = joins_fails (utf8_joins j goes) before Broken end last none in (
      (λ (some : ContinuesAs (seq P R) true before). none_true (
        some.0,
        (
          tt,
          some.1.0,
          record { front = some.1.1.front; split = some.1.1.split; spelled = some.1.1.spelled },
        ),
      )),
      (λ (some : StartsAs (seq P R) false before).
          let s = first_found {R = R} before false some.0 some.1 in
          none ([], (s.0, s.1, found_whole P before s.0 s.1 s.2))),
    )
fails_encoding {B} {P} {R} j goes before Cut end last cut =
    let c = joins_fails (utf8_joins j goes) before Cut end last cut in
    let f = c.1.1.2 in (
      (λ (some : StartsAs (seq P R) true before). c.0 (
        tt,
        some.0,
        record { front = some.1.front; split = some.1.split; spelled = some.1.spelled },
      )),
      (c.1.0, (c.1.1.1, record { front = f.front; split = f.split; spelled = f.spelled })),
    )
fails_encoding j goes before NoMemory end last none = tt

-- if the text begins as one of the choices alone can, a read of that choice is a read of both
pub chosen_encoding : (S T : Bool → List ℕ → List ℕ → Type 0) (text : List ℕ) →
    ((v : Bool) (s rest : List ℕ) → T v s rest → S v s rest) →
    ((v : Bool) (more s rest : List ℕ) → text ++ more ≡ s ++ rest → S v s rest → T v s rest) →
    (r : Result Encoding Lapse) (end : List ℕ) → ReadsEncoding T text r end → ReadsEncoding S text r end
chosen_encoding S T text to from (Ok k) end f =
    record { front = f.front; split = f.split; spelled = to (is_utf8 k) f.front end f.spelled }
chosen_encoding S T text to from (Err Broken) end none = (
  (λ (some : ContinuesAs S true text).
      let f = some.1.1 in
      none.0 (
        some.0,
        (
          some.1.0,
          record {
            front = f.front;
            split = f.split;
            spelled = from true some.0 f.front some.1.0 f.split f.spelled;
          },
        ),
      )),
  (λ (some : StartsAs S false text).
      let f = found_whole S text false some.0 some.1 in
      none.1 (
        some.0,
        whole_found T text false some.0
            (record { front = f.front; split = f.split; spelled = from false [] f.front some.0 f.split f.spelled }),
      )),
)
chosen_encoding S T text to from (Err Cut) end cut = (
  (λ (some : StartsAs S true text).
      let f = found_whole S text true some.0 some.1 in
      cut.0 (
        some.0,
        whole_found T text true some.0
            (record { front = f.front; split = f.split; spelled = from true [] f.front some.0 f.split f.spelled }),
      )),
  (
    cut.1.0,
    (
      cut.1.1.0,
      record {
        front = cut.1.1.1.front;
        split = cut.1.1.1.split;
        spelled = to true cut.1.1.1.front cut.1.1.0 cut.1.1.1.spelled;
      },
    ),
  ),
)
chosen_encoding S T text to from (Err NoMemory) end none = tt

-- the exits of a `?`
pub err_encoding : (S : Bool → List ℕ → List ℕ → Type 0) (before end : List ℕ) (e : Lapse)
    (r : Result Encoding Lapse) → IsErrAnd r (λ s. s ≡ e) → ReadsEncoding S before (Err e) end →
    ReadsEncoding S before r end
err_encoding S before end e (Ok v) same none = absurd same
err_encoding S before end e (Err x) same none =
    let F : Lapse → Type 0 = λ s. ReadsEncoding S before (Err s) end in
    subst F (sym same) none
