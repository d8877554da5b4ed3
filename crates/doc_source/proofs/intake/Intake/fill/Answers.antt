use Rattle.std.proofs.Common.{◌≡◌, ◌+◌, ◌-◌, ◌≤◌, List, ℕ, length, take, drop, ap, ◌∙◌, arith}
use Rattle.std.specs.Vec.{with_items}
use Rattle.std.proofs.lemmas.List.{with_items_is}
use Rattle.doc_source.proofs.IntakeLemmas.{takes_no_piece, takes_piece}
use Rattle.doc_source.proofs.intake.Intake.fill.Goals as goal

pub returns-in_err-count-clause-takes : goal.returns-in_err-count-clause-takes
returns-in_err-count-clause-takes g c =
    let inside = c.self.inside in
    let kept = c.move_to_front-self-inside.result in
    let moved = c.move_to_front-self-inside.new.buffer in
    let buffer = c.read_behind.new.buffer in
    let first : (with_items inside.buffer moved).items ≡ moved =
    with_items_is inside.buffer moved (c.move_to_front-self-inside.auto.buffer ∙ c.deref_mut.ensures.len) in
    let second : (with_items (with_items inside.buffer moved) buffer).items ≡ buffer =
    with_items_is (with_items inside.buffer moved) buffer (c.read_behind.auto.buffer ∙ c.deref_mut-2.ensures.len) in
    let front : take kept buffer ≡ take (inside.end - inside.start) (drop inside.start inside.buffer.items) =
    c.in_err-count.ensures.before
    ∙ ap (take kept) (c.deref_mut-2.ensures.value ∙ first)
    ∙ ap (λ (n : ℕ). take n moved) c.move_to_front-self-inside.ensures.count
    ∙ c.move_to_front-self-inside.ensures.moved
    ∙ ap (λ (x : List ℕ). take (inside.end - inside.start) (drop inside.start x)) c.deref_mut.ensures.value in
    rw (← c.self.view_is) (rw second (takes_no_piece _ inside.buffer.items buffer inside.start inside.end kept
    inside.taken
    inside.limit _ _ c.move_to_front-self-inside.ensures.count front (λ t. c.in_err-count.ensures.err t.0)))

pub returns-clause-takes : goal.returns-clause-takes
returns-clause-takes g c =
    let inside = c.self.inside in
    let kept = c.move_to_front-self-inside.result in
    let moved = c.move_to_front-self-inside.new.buffer in
    let buffer = c.read_behind.new.buffer in
    let first : (with_items inside.buffer moved).items ≡ moved =
    with_items_is inside.buffer moved (c.move_to_front-self-inside.auto.buffer ∙ c.deref_mut.ensures.len) in
    let second : (with_items (with_items inside.buffer moved) buffer).items ≡ buffer =
    with_items_is (with_items inside.buffer moved) buffer (c.read_behind.auto.buffer ∙ c.deref_mut-2.ensures.len) in
    let front : take kept buffer ≡ take (inside.end - inside.start) (drop inside.start inside.buffer.items) =
    c.in_ok-count.ensures.before
    ∙ ap (take kept) (c.deref_mut-2.ensures.value ∙ first)
    ∙ ap (λ (n : ℕ). take n moved) c.move_to_front-self-inside.ensures.count
    ∙ c.move_to_front-self-inside.ensures.moved
    ∙ ap (λ (x : List ℕ). take (inside.end - inside.start) (drop inside.start x)) c.deref_mut.ensures.value in
    let room : kept + c.in_ok-count.count ≤ length buffer =
    omega (
      arith,
      c.in_ok-count.ensures.within,
      c.read_behind.auto.buffer,
      c.deref_mut-2.ensures.len,
      c.min-room.ensures,
    ) in
    rw (← c.self.view_is) (rw second (takes_piece _ inside.buffer.items buffer inside.start inside.end kept
    c.in_ok-count.count inside.taken inside.limit _ _ c.move_to_front-self-inside.ensures.count front room
    (λ t. c.in_ok-count.ensures.bytes t.0)))
