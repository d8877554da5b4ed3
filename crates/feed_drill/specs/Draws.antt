-- The numbers of a drill: a linear congruential generator modulo 2^64, whose draws are the high halves of its states.
use Rattle.std.specs.Prelude.{ℕ, ◌+◌, ◌*◌, ◌/◌, ◌%◌, ◌^◌}

abbrev pub multiplier : ℕ
multiplier = 6_364_136_223_846_793_005

abbrev pub increment : ℕ
increment = 1_442_695_040_888_963_407

-- the state after one more draw
abbrev pub drawn : ℕ → ℕ
drawn state = (state * multiplier + increment) % 2 ^ 64

-- the number that was drawn, by the state after the draw
abbrev pub number_of : ℕ → ℕ
number_of state = state / 2 ^ 32
