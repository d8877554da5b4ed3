-- The bytes of the ASCII characters that the formats use, by name.
use Rattle.std.specs.Prelude.{ℕ}

abbrev pub tab : ℕ
tab = 9

abbrev pub lf : ℕ
lf = 10

abbrev pub cr : ℕ
cr = 13

abbrev pub space : ℕ
space = 32

abbrev pub quote : ℕ
quote = 34

abbrev pub ampersand : ℕ
ampersand = 38

abbrev pub plus : ℕ
plus = 43

abbrev pub minus : ℕ
minus = 45

abbrev pub point : ℕ
point = 46

abbrev pub slash : ℕ
slash = 47

-- the first of the ten digits
abbrev pub digit_zero : ℕ
digit_zero = 48

abbrev pub colon : ℕ
colon = 58

abbrev pub less_than : ℕ
less_than = 60

abbrev pub greater_than : ℕ
greater_than = 62

abbrev pub upper_t : ℕ
upper_t = 84

abbrev pub upper_z : ℕ
upper_z = 90

abbrev pub underscore : ℕ
underscore = 95

abbrev pub tilde : ℕ
tilde = 126
