-- Texts that are written through a buffer.
use Rattle.std.proofs.Common.{◌≡◌, ℕ, List, [], ◌++◌, sym, ap, ◌∙◌, subst, arith, length-append, append_assoc, append-nil}
use Rattle.std.specs.Prelude.{Result, Ok, Err, OnOk, IfErr}
use Rattle.http_face.specs.declared.fault.CutOff.{CutOff}
use Rattle.http_face.specs.Put.{PutState, HasPut, IsCut, Puts, nothing_waits}
use Rattle.http_face.specs.Reply.{IsCutOff}

-- the bytes were what waited and the text
pub cut_here : (observable : Type 0) (text : List ℕ) (s : PutState) (bytes : List ℕ) (n : ℕ) (sent : List ℕ) →
    s.waiting ++ text ≡ bytes → IsCut observable bytes (nothing_waits s.sent s.count) n sent → IsCut observable text s n sent
cut_here observable text s bytes n sent whole h = record {
  front = h.front;
  back = h.back;
  split = whole ∙ h.split;
  counted = h.counted;
  taken = h.taken;
}

pub put_cut : {observable : Type 0} {a : List ℕ} {s : PutState} {n : ℕ} {sent : List ℕ} (b : List ℕ) →
    IsCut observable a s n sent → IsCut observable (a ++ b) s n sent
put_cut {observable} {a} {s} {n} {sent} b h = record {
  front = h.front;
  back = h.back ++ b;
  split = sym (append_assoc s.waiting a b) ∙ ap (λ (x : List ℕ). x ++ b) h.split ∙ append_assoc h.front h.back b;
  counted = h.counted;
  taken = h.taken;
}

put_split : (w a b f v g x : List ℕ) → w ++ a ≡ f ++ v → v ++ b ≡ g ++ x → w ++ (a ++ b) ≡ (f ++ g) ++ x
put_split w a b f v g x d e =
    sym (append_assoc w a b) ∙ ap (λ (y : List ℕ). y ++ b) d ∙ append_assoc f v b
    ∙ ap (λ (y : List ℕ). f ++ y) e ∙ sym (append_assoc f g x)

put_sent : (s t u f g : List ℕ) → t ≡ s ++ f → u ≡ t ++ g → u ≡ s ++ (f ++ g)
put_sent s t u f g d e = e ∙ ap (λ (y : List ℕ). y ++ g) d ∙ append_assoc s f g

pub put_then_cut : {observable : Type 0} {a b : List ℕ} {s t : PutState} {n : ℕ} {sent : List ℕ} → HasPut observable a s t →
    IsCut observable b t n sent → IsCut observable (a ++ b) s n sent
put_then_cut {observable} {a} {b} {s} {t} {n} {sent} h k = record {
  front = h.front ++ k.front;
  back = k.back;
  split = put_split s.waiting a b h.front t.waiting k.front k.back h.split k.split;
  counted = omega (arith, h.counted, k.counted, length-append h.front k.front);
  taken = λ seen. put_sent s.sent t.sent sent h.front k.front (h.taken seen) (k.taken seen);
}

-- one text after the other
pub put_then : {A : Type 0} (observable : Type 0) (a b : List ℕ) (s t u : PutState) (r : Result A CutOff) →
    HasPut observable a s t → Puts observable b t u r → Puts observable (a ++ b) s u r
put_then observable a b s t u (Ok x) h k = record {
  front = h.front ++ k.front;
  split = put_split s.waiting a b h.front t.waiting k.front u.waiting h.split k.split;
  counted = omega (arith, h.counted, k.counted, length-append h.front k.front);
  taken = λ seen. put_sent s.sent t.sent u.sent h.front k.front (h.taken seen) (k.taken seen);
}
put_then observable a b s t u (Err e) h k = put_then_cut h k

pub put_as : {observable : Type 0} {a b : List ℕ} {s t : PutState} → a ≡ b → HasPut observable a s t → HasPut observable b s t
put_as {observable} {a} {b} {s} {t} e h = subst (λ (x : List ℕ). HasPut observable x s t) e h

pub cut_as : {observable : Type 0} {a b : List ℕ} {s : PutState} {n : ℕ} {sent : List ℕ} → a ≡ b →
    IsCut observable a s n sent → IsCut observable b s n sent
cut_as {observable} {a} {b} {s} {n} {sent} e h = subst (λ (x : List ℕ). IsCut observable x s n sent) e h

-- a reply that was cut off
pub reply_cut : (observable : Type 0) (text : List ℕ) (s : PutState) (n : ℕ) (sent : List ℕ) → s.waiting ≡ [] →
    s.count ≡ 0 → IsCut observable text s n sent → IsCutOff observable text n s.sent sent
reply_cut observable text s n sent none zero h = record {
  front = h.front;
  back = h.back;
  split = ap (λ (x : List ℕ). x ++ text) (sym none) ∙ h.split;
  counted = omega (arith, h.counted, zero);
  sent = h.taken;
}

-- a reply that was written whole
pub whole_reply : (observable : Type 0) (text : List ℕ) (s t : PutState) → s.waiting ≡ [] → t.waiting ≡ [] →
    HasPut observable text s t → observable → t.sent ≡ s.sent ++ text
whole_reply observable text s t none done h seen =
    h.taken seen ∙ ap (λ (x : List ℕ). s.sent ++ x) (sym (append-nil h.front)
    ∙ ap (λ (x : List ℕ). h.front ++ x) (sym done) ∙ sym h.split ∙ ap (λ (x : List ℕ). x ++ text) none)

pub ends_whole : {A : Type 0} (observable : Type 0) (text all : List ℕ) (s t : PutState) (r : Result A CutOff) →
    all ≡ text → s.waiting ≡ [] → OnOk r (t.waiting ≡ []) → Puts observable all s t r →
    OnOk r (observable → t.sent ≡ s.sent ++ text)
ends_whole observable text all s t (Ok x) e none done h = whole_reply observable text s t none done (put_as e h)
ends_whole observable text all s t (Err cut) e none done h = tt

pub ends_cut : {A : Type 0} (observable : Type 0) (text all : List ℕ) (s t : PutState) (r : Result A CutOff) →
    all ≡ text → s.waiting ≡ [] → s.count ≡ 0 → Puts observable all s t r →
    IfErr r (λ cut. IsCutOff observable text cut.sent s.sent t.sent)
ends_cut observable text all s t (Ok x) same none zero h = tt
ends_cut observable text all s t (Err cut) same none zero h = reply_cut observable text s cut.sent t.sent none zero (cut_as same h)
