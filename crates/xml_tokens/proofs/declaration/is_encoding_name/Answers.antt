use Rattle.std.proofs.Common.{◌&&◌, ◌||◌, ◌==◌, sym, ap, ◌∙◌}
use Rattle.std.specs.List.{list_all}
use Rattle.std.specs.Char.{is_ascii_alphanumeric}
use Rattle.atom_values.specs.Ascii.{minus, point, underscore}
use Rattle.xml_tokens.specs.Tokens.{is_encoding_name}
use Rattle.xml_tokens.proofs.declaration.is_encoding_name.Goals as goal

pub returns-then-is_ascii_alphabetic : goal.returns-then-is_ascii_alphabetic
returns-then-is_ascii_alphabetic c =
    let rest = c.in-Some.rest.now in
    c.continue_encoding.ensures
    ∙ ap (λ a. a && list_all (λ b. is_ascii_alphanumeric b || (b == point) || (b == underscore) || (b == minus)) rest)
    c.if-is_ascii_alphabetic.ensures.value ∙ ap is_encoding_name (sym c.in-Some.ensures.cases.0)
