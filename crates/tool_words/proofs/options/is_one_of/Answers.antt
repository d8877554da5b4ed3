use Rattle.std.proofs.Common.{◌≡◌, ℕ, List, [], ◌∷◌, Bor, bytes_eq, refl, sym, ap, ◌∙◌}
use Rattle.std.specs.Prelude.{◌||◌}
use Rattle.std.specs.List.{list_any}
use Rattle.std.proofs.lemmas.List.Folds.{Any-from_list_any, list_any-from_Any}
use Rattle.std.proofs.lemmas.Slice.Eq.{bytes_eq-Decides}
use Rattle.tool_words.specs.Reading.{names_of}
use Rattle.tool_words.proofs.options.is_one_of.Goals as goal

list_any-names_of : (names : List (Bor (List ℕ))) (name : List ℕ) →
    list_any (λ known. bytes_eq known.now name) names ≡ list_any (λ known. bytes_eq known name) (names_of names)
list_any-names_of [] name = refl
list_any-names_of (known ∷ names) name = ap (λ b. bytes_eq known.now name || b) (list_any-names_of names name)

pub returns : goal.returns
returns c =
    let name = c.args.name.now in
    let names = names_of c.args.names.now in
    let value = c.contains.ensures.value ∙ list_any-names_of c.args.names.now name in (
      λ is.
          let (k, known, inside, at, same) = Any-from_list_any (λ known. bytes_eq known name) names (sym value ∙ is) in
          (k, known, inside, at, (bytes_eq-Decides known name).0 same),
      λ (k, known, inside, at, same).
          value ∙ list_any-from_Any (λ known. bytes_eq known name) names
          (k, known, inside, at, (bytes_eq-Decides known name).1 same),
    )
