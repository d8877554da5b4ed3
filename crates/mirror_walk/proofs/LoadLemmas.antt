-- Why a mirror isn't loaded.
use Rattle.std.proofs.Common.{◌≡◌, ◌⊎◌, inl, inr, ℕ, List, Some, take, refl, sym}
use Rattle.std.proofs.Common.{ap, subst, ◌∙◌}
use Rattle.std.specs.Prelude.{slice_get}
use Rattle.mirror_walk.specs.declared.mirror_fault.MirrorFault.{MirrorFault}
use Rattle.mirror_walk.specs.declared.mirror_fault.MirrorFault.TheVariants.{OtherBase, BadRecord, DiskFault}
use Rattle.mirror_walk.specs.declared.mirror_fault.MirrorFault.TheVariants.{NoMemory}
use Rattle.mirror_walk.specs.Accept.{IsKeptOf}
use Rattle.mirror_walk.specs.Holding.{KeptValue}
use Rattle.mirror_walk.specs.Loaded.{IsFirstBad, IsLoadedOf, IsMirrorFault, IsOfOtherBase}
use Rattle.mirror_walk.specs.Loading.{IsNext}
use Rattle.mirror_walk.proofs.TakenLemmas.{loaded-at, loaded-first, loaded-once, payload-at, same-kept}
use Rattle.mirror_walk.proofs.TakenLemmas.{taken-place, text-kept}
use Rattle.mirror_walk.specs.Accept.{own_text}

-- payloads that load leave no fault but those of the disk and of memory
module _ (base : List ℕ) (payloads : List (List ℕ)) (kept : List KeptValue)
    (loaded : IsLoadedOf base payloads kept) where
  -- the document of a payload, and that it is taken
  record Found (index : ℕ) (payload : List ℕ) : Type 0 where
    given : KeptValue
    read : IsKeptOf payload given
    next : IsNext base (take index kept) given

  found : (index : ℕ) (payload : List ℕ) → slice_get payloads index ≡ Some payload → Found index payload
  found index payload there =
      let (k, at, is) = payload-at kept index payload
      (ap (λ (ps : List (List ℕ)). slice_get ps index) (sym loaded.payloads) ∙ there) in
      let taken = loaded-at base payloads kept index k loaded at in
      record { given = k; read = text-kept payload k taken.read is; next = taken.next }

  pub base-same : (other : List ℕ) → IsOfOtherBase base payloads other → other ≡ base
  base-same other fault =
      let here = found 0 fault.payload fault.there in
      let same = same-kept fault.payload fault.given here.given fault.read here.read in
      sym fault.base_is ∙ ap (λ (k : KeptValue). k.document.name.base) same
      ∙ (taken-place base (take 0 kept) (own_text here.given.document) here.given here.next).0

  pub none-bad : (index at : ℕ) → IsFirstBad base payloads index at → ⊥
  none-bad index at fault =
      let here = found index fault.payload fault.there in
      elim fault.bad [
        | inl unread ↦ unread.no_document here.given.document here.read.is_doc here.read.text
        | inr refused ↦
            let other = refused.2 in
            let same = same-kept fault.payload here.given other.given here.read other.read in
            let before = loaded-once base (take index payloads) (take index kept) fault.kept
            (loaded-first base payloads kept index loaded) fault.before in
            other.not_taken (subst (λ (l : List KeptValue). IsNext base l other.given) before
            (subst (IsNext base (take index kept)) same here.next))
      ]

  pub loads-without : (fault : MirrorFault) → IsMirrorFault base payloads fault
      → (fault ≡ DiskFault) ⊎ (fault ≡ NoMemory)
  loads-without (OtherBase other) is = absurd (is.differs (base-same other is))
  loads-without (BadRecord index at) is = absurd (none-bad index at is)
  loads-without DiskFault is = inl refl
  loads-without NoMemory is = inr refl
