-- Laws that the crates above cite. Each is a clause of the function of laws.rt.
use Rattle.std.specs.Prelude.{◌≡◌, ℕ, List}
use Rattle.atom_values.specs.Entry.{DraftValue}
use Rattle.entry_reader.specs.declared.fault.Why.{Why}
use Rattle.entry_reader.specs.Spells.{Spells}
use Rattle.entry_reader.specs.Refusal.{IsRefusedAt}

-- bytes spell one draft at most
abbrev pub BytesSpellOneDraft : Type 0
BytesSpellOneDraft = (bytes : List ℕ) (one other : DraftValue) → Spells bytes one → Spells bytes other → one ≡ other

-- bytes are refused for one reason at one offset at most
abbrev pub BytesHaveOneRefusal : Type 0
BytesHaveOneRefusal = (bytes : List ℕ) (at place : ℕ) (why cause : Why) → IsRefusedAt bytes at why
    → IsRefusedAt bytes place cause → (at ≡ place) × (why ≡ cause)

-- bytes that spell a draft aren't refused
abbrev pub DraftsAreNotRefused : Type 0
DraftsAreNotRefused = (bytes : List ℕ) (draft : DraftValue) (at : ℕ) (why : Why) → Spells bytes draft
    → ¬ IsRefusedAt bytes at why
