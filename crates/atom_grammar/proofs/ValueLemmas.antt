-- The pieces with a text.
use Rattle.std.proofs.Common.{List, ℕ, ◌++◌, false, codes}
use Rattle.atom_values.specs.Escape.{escaped}

unfoldable pub titled : List ℕ → List ℕ
titled title = codes "<title>" ++ escaped false title ++ codes "</title>\n"

unfoldable pub authored : List ℕ → List ℕ
authored author = codes "<author><name>" ++ escaped false author ++ codes "</name></author>\n"
