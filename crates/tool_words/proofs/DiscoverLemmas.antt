-- The command of `discover` depends only on its word.
use Rattle.std.proofs.Common.{◌≡◌, ◌⊎◌, inl, inr, ℕ, List, [], ◌∷◌, Some, true, Result, Ok, Err, IsTrue}
use Rattle.std.proofs.Common.{refl, sym, ◌∙◌, subst, arith, codes, bytes_eq, slice_get, take}
use Rattle.std.proofs.lemmas.Bool.{true≢false}
use Rattle.std.proofs.lemmas.List.Elements.{All-cons, All-nil}
use Rattle.clap.specs.Simple.{HasMatchesOf}
use Rattle.clap.specs.Takes.{takes}
use Rattle.clap.specs.Walk.{Text}
use Rattle.clap.specs.declared.parser.matches.ArgMatches.{ArgMatches}
use Rattle.clap.proofs.OnLiterals.{clap_on_literals}
use Rattle.std.proofs.lemmas.Slice.Eq.{bytes_eq-Decides}
use Rattle.tool_words.specs.Options.{is_value}
use Rattle.tool_words.specs.Parse.{ArePlaces, places_app, value_in}
use Rattle.tool_words.specs.Words.{IsDiscover, IsHttpText}
use Rattle.tool_words.specs.declared.command.Command.{Command}
use Rattle.tool_words.specs.declared.command.Command.TheVariants.{Discover}
use Rattle.tool_words.specs.declared.fault.WordsFault.{WordsFault}
use Rattle.tool_words.specs.declared.fault.WordsFault.TheVariants.{NoMemory}
use Rattle.tool_words.proofs.PlaceLemmas.{IsOneName, one_taken, value_of_one, words_of_one}

address_name : IsOneName (codes "address")
unfolding clap_on_literals
address_name = record {
  simple = refl;
  made = refl;
  first_at = refl;
  settles = refl;
  rests = λ w. refl;
  none_taken = refl;
  none_found = refl;
  found = λ w. refl;
}

pub address_takes : (words : List Text) → ArePlaces (codes "address" ∷ []) words →
    takes (places_app (codes "address" ∷ [])) words ≡ true
address_takes = one_taken (codes "address") address_name

-- an address begins with a letter
http_value : (address : List ℕ) → bytes_eq (take 5 address) (codes "http:") ≡ true → is_value address ≡ true
http_value [] http = absurd (true≢false (sym http))
http_value (c ∷ more) http =
    let front : take 5 (c ∷ more) ≡ codes "http:" = (bytes_eq-Decides (take 5 (c ∷ more)) (codes "http:")).0 http in
    let first : c ≡ 104 = cc in rw first

pub discover_are : (words : List Text) (address : List ℕ) → IsDiscover words address →
    ArePlaces (codes "address" ∷ []) words
discover_are words address i =
    subst (ArePlaces (codes "address" ∷ [])) (sym i.words_are) (record {
      few = omega arith;
      values = All-cons (λ word. IsTrue (is_value word)) address [] (http_value address i.is_address.http)
          (All-nil (λ word. IsTrue (is_value word)));
    })

-- the matches have the word
pub discover_gives : (words : List Text) (m : ArgMatches) (address : List ℕ) → IsDiscover words address
    → ArePlaces (codes "address" ∷ []) words → HasMatchesOf (places_app (codes "address" ∷ [])) words m
    → IsHttpText (value_in m (codes "address")) address
discover_gives words m address i are has =
    let value : value_in m (codes "address") ≡ Some address =
    value_of_one (codes "address") address_name words m are has ∙ first_word i.words_are in
    subst (λ v. IsHttpText v address) (sym value) i.is_address
  where
    first_word : words ≡ address ∷ [] → slice_get words 0 ≡ Some address
    first_word e = rw e

-- the word is the value of the matches
pub gives_discover : (words : List Text) (m : ArgMatches) (address : List ℕ)
    → ArePlaces (codes "address" ∷ []) words → HasMatchesOf (places_app (codes "address" ∷ [])) words m
    → IsHttpText (value_in m (codes "address")) address → IsDiscover words address
gives_discover words m address are has is = record {
  words_are = words_of_one (codes "address") address_name words m (Some address) are has is.there;
  is_address = subst (λ v. IsHttpText v address) is.there is;
}

pub same_discover : (address read : List ℕ) →
    (◌≡◌ {A = Result (List ℕ) WordsFault} (Ok read) (Ok address))
    ⊎ (◌≡◌ {A = Result (List ℕ) WordsFault} (Ok read) (Err NoMemory)) →
    ◌≡◌ {A = Result Command WordsFault} (Ok (Discover read)) (Ok (Discover address))
same_discover address read (inl e) = cc
same_discover address read (inr e) = absurd (cc)
