-- The body after a head.
use Rattle.std.proofs.Common.{◌≡◌, ⊎_elim, ℕ, ◌+◌, ◌<◌, ◌≤◌, true, false, nat_le, List, [], ◌++◌, length, take, min, sym, ap, ◌∙◌, arith, length-append, length-take}
use Rattle.std.specs.Prelude.{Ok, Err}
use Rattle.std.proofs.Math.Seq.{take-append_seam}
use Rattle.std.proofs.lemmas.Bool.{cases_lt, le-leb, lt-leb}
use Rattle.std.proofs.lemmas.List.{take_all, take-append-le}
use Rattle.http_face.specs.Heard.{sized_body}
use Rattle.http_face.specs.declared.fault.RequestFault.TheVariants.{EndedEarly}

-- the part of a body that was read ahead, and the part that is left
ahead_part : (start size : ℕ) (ahead left : List ℕ) → start ≡ min (length ahead) size →
    take size (take start ahead ++ left) ≡ take size (ahead ++ left)
ahead_part start size ahead left e =
    ⊎_elim
    (λ (short : length ahead < size).
    ap (λ (x : List ℕ). take size (x ++ left)) (take_all start ahead (omega (arith, e, short))))
    (λ (long : size ≤ length ahead).
    let same : start ≡ size = omega (arith, e, long) in
    let room : size ≤ length (take start ahead) = omega (arith, length-take start ahead, same, long) in
    take-append-le size (take start ahead) left room
    ∙ ap (λ (k : ℕ). take size (take k ahead)) same
    ∙ take_all size (take size ahead) (omega (arith, length-take size ahead))
    ∙ sym (take-append-le size ahead left long))
    (cases_lt (length ahead) size)

pub body_full : (start size all : ℕ) (ahead left body rest : List ℕ) → start ≡ min (length ahead) size →
    length body ≡ size → take start ahead ++ left ≡ body ++ rest →
    sized_body size all (ahead ++ left) ≡ Ok body
body_full start size all ahead left body rest e long same =
    let part : take size (ahead ++ left) ≡ body =
    sym (ahead_part start size ahead left e) ∙ ap (take size) same
    ∙ ap (λ (k : ℕ). take k (body ++ rest)) (sym long) ∙ take-append_seam body rest in
    let enough : nat_le size (length (ahead ++ left)) ≡ true = le-leb size (length (ahead ++ left)) (omega (
      arith,
      ap length same,
      length-append (take start ahead) left,
      length-append body rest,
      length-append ahead left,
      length-take start ahead,
      long,
    )) in
    rw enough (ap Ok part)

pub body_ended : (start size before filled : ℕ) (ahead left body rest : List ℕ) → start ≡ min (length ahead) size →
    filled < size → filled ≤ length body → take start ahead ++ left ≡ take filled body ++ rest → rest ≡ [] →
    sized_body size (before + length (ahead ++ left)) (ahead ++ left) ≡ Err (EndedEarly (before + filled))
body_ended start size before filled ahead left body rest e few within same none =
    let long : length (ahead ++ left) ≡ filled = omega (
      arith,
      ap length same,
      length-append (take start ahead) left,
      length-append (take filled body) rest,
      length-take filled body,
      length-append ahead left,
      length-take start ahead,
      ap length none,
      e,
      few,
      within,
    ) in
    let short : nat_le size (length (ahead ++ left)) ≡ false =
    lt-leb size (length (ahead ++ left)) (omega (arith, long, few)) in
    rw short (ap (λ (k : ℕ). Err (EndedEarly (before + k))) long)
