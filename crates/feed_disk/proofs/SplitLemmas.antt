-- A list of changes, which the code keeps oldest first and the definitions read newest first.
use Rattle.std.proofs.Common.{◌≡◌, ◌⊎◌, inl, inr, ℕ, ◌+◌, ◌<◌, ◌≤◌, List, [], ◌∷◌, ◌++◌, length, get_or, take, drop}
use Rattle.std.proofs.Common.{sym, ◌∙◌, ap, subst, take-append-drop}
use Rattle.std.specs.Prelude.{reverse}
use Rattle.std.proofs.lemmas.List.{take_more, reverse-append}
use Rattle.feed_disk.specs.AreaRecord.{IsRecorded, content_of}
use Rattle.feed_disk.specs.Pending.{Reaches, applied}
use Rattle.feed_disk.specs.declared.change.Change.{Change}
use Rattle.feed_disk.specs.declared.change.Change.TheVariants.{Write, FailedWrite, Sync}

pub reverse_take : (xs : List Change) (i : ℕ) (x : Change) → i < length xs → x ≡ get_or xs i x
    → reverse (take (i + 1) xs) ≡ x ∷ reverse (take i xs)
reverse_take xs i x within is =
    ap reverse (take_more xs i x within) ∙ reverse-append (take i xs) (get_or xs i x ∷ [])
    ∙ ap (λ (y : Change). y ∷ reverse (take i xs)) (sym is)

reaches_older : (bytes : List ℕ) (newer older : List Change) → Reaches bytes (newer ++ older) → Reaches bytes older
reaches_older bytes [] older reaches = reaches
reaches_older bytes (Write call at from ∷ newer) older reaches = reaches_older bytes newer older reaches.1
reaches_older bytes (FailedWrite call at from ∷ newer) older reaches = reaches_older bytes newer older reaches.1
reaches_older bytes (Sync call ∷ newer) older reaches = reaches_older bytes newer older reaches

pub recorded_older : (first : List ℕ) (newer older : List Change) → IsRecorded first (newer ++ older)
    → IsRecorded first older
recorded_older first [] older recorded = recorded
recorded_older first (Write call at from ∷ newer) older recorded = recorded_older first newer older recorded.2
recorded_older first (FailedWrite call at from ∷ newer) older recorded = recorded_older first newer older recorded.2
recorded_older first (Sync call ∷ newer) older recorded = recorded_older first newer older recorded.1

module _ (xs : List Change) (i : ℕ) (x : Change) (within : i < length xs) (is : x ≡ get_or xs i x) where
  parts : reverse xs ≡ reverse (drop (i + 1) xs) ++ (x ∷ reverse (take i xs))
  parts =
      ap reverse (sym (take-append-drop (i + 1) xs))
      ∙ reverse-append (take (i + 1) xs) (drop (i + 1) xs)
      ∙ ap (λ (l : List Change). reverse (drop (i + 1) xs) ++ l) (reverse_take xs i x within is)

  pub reaches_at : (bytes : List ℕ) → Reaches bytes (reverse xs) → Reaches bytes (x ∷ reverse (take i xs))
  reaches_at bytes reaches = reaches_older bytes (reverse (drop (i + 1) xs)) _ (subst (Reaches bytes) parts reaches)

  pub recorded_at : (first : List ℕ) → IsRecorded first (reverse xs) → IsRecorded first (x ∷ reverse (take i xs))
  recorded_at first recorded = recorded_older first (reverse (drop (i + 1) xs)) _
      (subst (IsRecorded first) parts recorded)

-- a write of the list begins in the bytes before it
pub reaches_write : (bytes : List ℕ) (change : Change) (older : List Change) (at : ℕ) (from : List ℕ)
    → Reaches bytes (change ∷ older) → ((call : ℕ) × (change ≡ Write call at from))
    ⊎ ((call : ℕ) × (change ≡ FailedWrite call at from)) → at ≤ length (applied bytes older)
reaches_write bytes change older at from reaches (inl is) =
    (subst (λ (x : Change). Reaches bytes (x ∷ older)) is.1 reaches).0
reaches_write bytes change older at from reaches (inr is) =
    (subst (λ (x : Change). Reaches bytes (x ∷ older)) is.1 reaches).0

pub recorded_write : (first : List ℕ) (change : Change) (older : List Change) (call at : ℕ) (from : List ℕ)
    → IsRecorded first (change ∷ older) → change ≡ Write call at from → at ≤ length (content_of first older)
recorded_write first change older call at from recorded is =
    (subst (λ (x : Change). IsRecorded first (x ∷ older)) is recorded).0
