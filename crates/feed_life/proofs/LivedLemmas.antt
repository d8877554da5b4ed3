-- A life between two of its events.
use Rattle.std.proofs.Common.{◌≡◌, ℕ, ◌+◌, ◌<◌, ◌≤◌, List, [], ◌∷◌, Option, drop, get_or, length, map}
use Rattle.std.proofs.Common.{ap, refl, sym, subst, ◌∙◌}
use Rattle.std.proofs.lemmas.List.{drop_all, drop_more}
use Rattle.document_server.specs.declared.line.Line.{Line}
use Rattle.feed_life.specs.Events.{IsBorn, IsLifeOf, IsStep, LivesOn}
use Rattle.feed_life.specs.Life.{LifeValue, Lives}
use Rattle.feed_life.specs.declared.event.Event.{Event}
use Rattle.member_rules.specs.Head.{HeadValue}
use Rattle.member_rules.specs.declared.operation.Op.{Op}
use Rattle.mirror_walk.specs.Holding.{KeptValue}

-- a life that has the rest of its events to come
pub record IsMidway (head : HeadValue) (mirrors : ℕ) (events rest : List Event) (life : LifeValue) : Type 0 where
  begun : LifeValue
  born : IsBorn head mirrors begun
  history : List Op
  held : List (List KeptValue)
  lives : Lives life history held
  so_far : (last : LifeValue) → LivesOn life history held rest last
      → LivesOn begun [] (map (λ _. []) begun.mirrors) events last

pub midway-born : (head : HeadValue) (mirrors : ℕ) (events : List Event) (life : LifeValue) → IsBorn head mirrors life
    → IsMidway head mirrors events events life
midway-born head mirrors events life born = record {
  begun = life;
  born = born;
  history = [];
  held = map (λ _. []) life.mirrors;
  lives = born.lives;
  so_far = λ last lived. lived;
}

pub midway-more : (head : HeadValue) (mirrors : ℕ) (events : List Event) (index : ℕ) (event : Event)
    (old new : LifeValue) (line : Option Line) → index < length events → event ≡ get_or events index event
    → ((history : List Op) (held : List (List KeptValue)) → Lives old history held
    → IsStep old new event history held line)
    → IsMidway head mirrors events (drop index events) old → IsMidway head mirrors events (drop (index + 1) events) new
midway-more head mirrors events index event old new line within is steps midway =
    let step = steps midway.history midway.held midway.lives in
    let rest : drop index events ≡ event ∷ drop (index + 1) events =
    drop_more events index event within ∙ ap (λ (e : Event). e ∷ drop (index + 1) events) (sym is) in
    record {
      begun = midway.begun;
      born = midway.born;
      history = step.later;
      held = step.left;
      lives = step.lives;
      so_far = λ last lived. midway.so_far last
          (subst (λ (l : List Event). LivesOn old midway.history midway.held l last) (sym rest)
          (new, line, step, lived));
    }

pub midway-all : (head : HeadValue) (mirrors : ℕ) (events : List Event) (index : ℕ) (life : LifeValue)
    → length events ≤ index → IsMidway head mirrors events (drop index events) life
    → IsLifeOf head mirrors events life
midway-all head mirrors events index life over midway = record {
  begun = midway.begun;
  born = midway.born;
  lived = midway.so_far life
      (subst (λ (rest : List Event). LivesOn life midway.history midway.held rest life)
      (sym (drop_all index events over)) refl);
}
