-- joined, target: the URL that a reference leads to
use Rattle.std.proofs.Common.{◌≡◌, List, ℕ, Option, Some, None, option_map, sym, ap, ◌∙◌, ⊎_elim}
use Rattle.std.specs.Prelude.{Result, Ok, Err, IfOk}
use Rattle.std.specs.Str.{IsUtf8, is_utf8}
use Rattle.std.proofs.lemmas.Bool.{cases_Bool, cond-false, cond-true}
use Rattle.std.proofs.lemmas.Str.{IsUtf8-from_is_utf8, is_utf8-from_IsUtf8}
use Rattle.url.specs.Parser.{Gives, Parsed, parse_url}
use Rattle.url.specs.Parts.{Parts, serialize}
use Rattle.feed_reader.specs.Feed.{based, joined_to, url_text}
use Rattle.feed_reader.specs.FeedReading.{IsUrlOf}

pub ok_mapped : {A E : Type 0} {P Q : A → Type 0} (r : Result A E) → ((x : A) → P x → Q x) → IfOk r P → IfOk r Q
ok_mapped (Ok x) f h = f x h
ok_mapped (Err e) f h = tt

-- the URL that was read is the expected one
pub url_read : (parsed expected : Parsed Parts) (found : Option Parts) → Gives parsed expected → IsUrlOf parsed found →
    option_map serialize found ≡ url_text expected
url_read (Ok url) expected found gives is = ap (option_map serialize) is ∙ sym (ap url_text gives)
url_read (Err fault) expected found gives (none, room) =
    ⊎_elim (λ e. ap (option_map serialize) none ∙ sym (ap url_text e)) (λ out. absurd (room out)) gives

pub base_read : (parsed expected : Parsed Parts) (found : Option Parts) (base : Parts) → Gives parsed expected →
    IsUrlOf parsed found → found ≡ Some base → expected ≡ Ok base
base_read (Ok url) expected found base gives is some =
    let same : Some url ≡ Some base = sym is ∙ some in
    let one : url ≡ base = cc in
    gives ∙ ap Ok one
base_read (Err fault) expected found base gives (none, room) some =
    let bad : None ≡ Some base = sym none ∙ some in absurd cc

pub no_base : (parsed expected : Parsed Parts) (found : Option Parts) (reference : List ℕ) → Gives parsed expected →
    IsUrlOf parsed found → found ≡ None → None ≡ based expected reference
no_base (Ok url) expected found reference gives is none =
    let bad : Some url ≡ None = sym is ∙ none in absurd cc
no_base (Err fault) expected found reference gives (is, room) none =
    ⊎_elim (λ e. sym (ap (λ k. based k reference) e)) (λ out. absurd (room out)) gives

-- an address that isn't UTF-8 is no base
pub not_joined : (address reference : List ℕ) → (IsUtf8 address → ⊥) → None ≡ joined_to address reference
not_joined address reference none =
    ⊎_elim
    (λ t. absurd (none (IsUtf8-from_is_utf8 address t)))
    (λ f. sym (cond-false (is_utf8 address) (based (parse_url None address) reference) None f))
    (cases_Bool (is_utf8 address))

-- one that is UTF-8 may be one
pub is_joined : (address reference : List ℕ) → IsUtf8 address →
    based (parse_url None address) reference ≡ joined_to address reference
is_joined address reference utf8 =
    sym (cond-true (is_utf8 address) (based (parse_url None address) reference) None (is_utf8-from_IsUtf8 address utf8))
