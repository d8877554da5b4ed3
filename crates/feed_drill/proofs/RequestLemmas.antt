-- The requests of a turn.
use Rattle.std.proofs.Common.{◌≡◌, ℕ, List, ◌++◌, Result, Ok, Err, inl, inr, ◌⊎◌, codes, sym, ap, subst, ◌∙◌}
use Rattle.atom_values.specs.Entry.{DraftValue, titled}
use Rattle.entry_reader.specs.Spells.{Spells}
use Rattle.entry_reader.specs.declared.fault.EntryFault.{EntryFault}
use Rattle.entry_reader.specs.declared.fault.EntryFault.TheVariants.{NoMemory}
use Rattle.feed_drill.specs.Effects.{ReadsAsTitle}
use Rattle.feed_drill.specs.Requests.{entry_body}
use Rattle.feed_drill.specs.Turn.{title_of}

-- the bytes are read as one draft alone
pub read-alone : (bytes title : List ℕ) (draft : DraftValue) (result : Result DraftValue EntryFault)
    → result ≡ Ok draft
    → ((other : DraftValue) → Spells bytes other → (result ≡ Ok other) ⊎ (result ≡ Err NoMemory))
    → draft ≡ titled title → (other : DraftValue) → Spells bytes other → other ≡ titled title
read-alone bytes title draft result is only same other spells = elim (only other spells) [
  | inl found ↦ let one : draft ≡ other = cc in sym one ∙ same
  | inr lack ↦ absurd (cc)
]

pub body-is : (turn : ℕ) (begun first second title slice body : List ℕ)
    → begun ≡ codes "<entry xmlns=\"http://www.w3.org/2005/Atom\"><title>" → slice ≡ title → title ≡ title_of turn
    → first ≡ begun ++ slice → second ≡ first ++ codes "</title></entry>" → body ≡ second → body ≡ entry_body turn
unfolding entry_body
body-is turn begun first second title slice body a b c d e f =
    f ∙ e ∙ ap (λ (l : List ℕ). l ++ codes "</title></entry>") (d ∙ ap (λ (l : List ℕ). l ++ slice) a
    ∙ ap (λ (l : List ℕ). codes "<entry xmlns=\"http://www.w3.org/2005/Atom\"><title>" ++ l) (b ∙ c))

pub title-read : (turn : ℕ) (bytes title : List ℕ) → bytes ≡ entry_body turn → title ≡ title_of turn
    → ((draft : DraftValue) → Spells bytes draft → draft ≡ titled title) → ReadsAsTitle turn
title-read turn bytes title body is alone draft spells =
    alone draft (subst (λ (b : List ℕ). Spells b draft) (sym body) spells) ∙ ap titled is
