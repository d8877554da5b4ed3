-- What a call on a mirror keeps, and how calls join.
use Rattle.std.proofs.Common.{◌≡◌, false, refl, sym, ap, subst, ◌∙◌, arith}
use Rattle.feed_disk.specs.Disk.{DiskState}
use Rattle.feed_disk.proofs.MomentLemmas.{alone_begins, alone_joins}
use Rattle.mirror_walk.specs.Mirror.{IsAtRest, KeepsSetting, MirrorValue, StandsFor, StaysSound, TakesFew, is_spent}

pub setting-begins : (s : DiskState) (mirror : MirrorValue) → KeepsSetting s s mirror mirror
setting-begins s mirror = record { base = refl; capacity = refl; others = λ a other. alone_begins s a }

pub setting-joins : (s m t : DiskState) (one two three : MirrorValue) → KeepsSetting s m one two
    → KeepsSetting m t two three → KeepsSetting s t one three
setting-joins s m t one two three first second = record {
  base = second.base ∙ first.base;
  capacity = second.capacity ∙ first.capacity;
  others = λ a other. alone_joins s m t a (first.others a other) (second.others a other);
}

pub sound-begins : (observable : Type 0) (s : DiskState) (mirror : MirrorValue) → is_spent mirror ≡ false
    → (observable → StandsFor s mirror) → StaysSound observable s s mirror mirror
sound-begins observable s mirror unspent stands =
    record { unspent = unspent; stands = stands; rests = λ tells rest. rest; most = omega arith }

pub sound-joins : (observable : Type 0) (s m t : DiskState) (one two three : MirrorValue)
    → StaysSound observable s m one two → StaysSound observable m t two three → StaysSound observable s t one three
sound-joins observable s m t one two three first second = record {
  unspent = second.unspent;
  stands = second.stands;
  rests = λ tells rest. second.rests tells (first.rests tells rest);
  most = omega (arith, first.most, second.most);
}

-- The live entries are listed, and nothing else changes.
module _ (s t : DiskState) (one two three : MirrorValue) (same : three ≡ record two { listed = three.listed }) where
  pub setting-listed : KeepsSetting s t one two → KeepsSetting s t one three
  setting-listed keeps = record {
    base = ap (λ (m : MirrorValue). m.base) same ∙ keeps.base;
    capacity = ap (λ (m : MirrorValue). m.capacity) same ∙ keeps.capacity;
    others = keeps.others;
  }

  pub sound-listed : (observable : Type 0) → StaysSound observable s t one two → StaysSound observable s t one three
  sound-listed observable sound =
      let kept = ap (λ (m : MirrorValue). m.kept) same in
      record {
        unspent = ap is_spent same ∙ sound.unspent;
        stands = λ tells.
            let stands = sound.stands tells in
            subst (StandsFor t) (sym same)
            (record { listed = stands.listed; payloads = stands.payloads });
        rests = λ tells rest. subst (IsAtRest t) (sym kept) (sound.rests tells rest);
        most = subst (TakesFew s t one.kept) (sym kept) sound.most;
      }
