-- The life that the command `drill` runs, and its answer.
use Rattle.std.specs.Prelude.{◌≡◌, ◌≢◌, ◌⊎◌, ℕ, List, Option, Some, None}
use Rattle.command_ends.specs.declared.status.Status.TheVariants as ends
use Rattle.command_ends.specs.Answer.{Answer}
use Rattle.store_commands.specs.Apply.{test_head}
use Rattle.command_ends.specs.Status.{code_of}
use Rattle.feed_drill.specs.Drilled.{IsDrilled, operations}
use Rattle.feed_drill.specs.Summary.{summary_of, summary_text}
use Rattle.feed_life.specs.Life.{LifeValue}
use Rattle.member_rules.specs.Head.{HeadValue}

-- how many operations a window of a drill's feed has
abbrev pub drill_window : ℕ
drill_window = 16

-- the head of a drill's feed
abbrev pub drill_head : HeadValue
drill_head = test_head drill_window

-- the summary of the life that the drill runs
unfoldable pub drill_text : ℕ → ℕ → List ℕ
drill_text seed count = summary_text (summary_of drill_head (operations drill_head seed count) count)

abbrev pub drill_answer : ℕ → ℕ → Answer
drill_answer seed count = record { status = ends.Done; printed = drill_text seed count }

-- the life whose summary was printed: it had all turns of the drill
pub record HasDrilled (seed count : ℕ) (life : Option LifeValue) : Type 0 where
  pub given : LifeValue
  pub life_is : life ≡ Some given
  pub drilled : IsDrilled drill_head seed count given

-- a drill ends with the status 0 and its life, or with another status and no life
pub record EndsDrilling (seed count : ℕ) (life : Option LifeValue) (ended : ℕ) : Type 0 where
  pub done : ended ≡ code_of ends.Done → HasDrilled seed count life
  pub undone : ended ≢ code_of ends.Done → life ≡ None

-- how `drill` may end
abbrev pub MayEndDrill : ℕ → Type 0
MayEndDrill ended =
    (ended ≡ code_of ends.Done) ⊎ (ended ≡ code_of ends.OutputFault) ⊎ (ended ≡ code_of ends.NoMemory)
