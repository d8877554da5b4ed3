-- The command of `serve` depends only on the values of its options and on its flag.
use Rattle.std.proofs.Common.{◌≡◌, ◌⊎◌, ℕ, List, [], All, Option, Bool, Result, Ok, Err, codes, sym, subst, arith}
use Rattle.std.proofs.Common.{inl, inr}
use Rattle.tool_words.specs.Options.{Given, AreOptions, is_given, value_of}
use Rattle.clap.specs.declared.parser.matches.ArgMatches.{ArgMatches}
use Rattle.tool_words.specs.Parse.{Match, value_in}
use Rattle.tool_words.specs.Words.{IsListen, IsRequests, IsServe, serve_flags, serve_options}
use Rattle.tool_words.specs.declared.command.Command.{Command}
use Rattle.tool_words.specs.declared.command.Command.TheVariants.{Serve}
use Rattle.tool_words.specs.declared.fault.WordsFault.{WordsFault}
use Rattle.tool_words.specs.declared.fault.WordsFault.TheVariants.{NoMemory}
use Rattle.tool_words.proofs.FlagLemmas.{Tells, flag_read}

-- the values give this address and this number of requests
pub record Give (value : List ℕ → Option (List ℕ)) (listen : List ℕ) (requests : ℕ) : Type 0 where
  pub listen_is : IsListen (value (codes "listen")) listen
  pub requests_is : IsRequests (value (codes "requests")) requests

pub give_same : (one other : List ℕ → Option (List ℕ)) (listen : List ℕ) (requests : ℕ) →
    All (λ key. one key ≡ other key) serve_options → Give one listen requests → Give other listen requests
give_same one other listen requests same g = record {
  listen_is = subst (λ v. IsListen v listen) (same 0 [] (omega arith)) g.listen_is;
  requests_is = subst (λ v. IsRequests v requests) (same 1 [] (omega arith)) g.requests_is;
}

pub service_read : (options : List Given) (matches : ArgMatches) (service : Bool) →
    Match serve_options serve_flags options matches → Tells matches (codes "service") service →
    service ≡ is_given (codes "service") options
service_read options matches service m tells =
    flag_read matches (codes "service") (is_given (codes "service") options) service
    (m.flags_are 0 [] (omega arith)) tells

-- the words of `serve` and the matches of their options
pub serve_gives : (words : List (List ℕ)) (matches : ArgMatches) (listen : List ℕ) (requests : ℕ) (service : Bool) →
    (i : IsServe words listen requests service) → Match serve_options serve_flags i.options matches →
    Give (value_in matches) listen requests
serve_gives words matches listen requests service i m =
    give_same (λ key. value_of key i.options) (value_in matches) listen requests (λ k d lt. sym (m.values k d lt))
    (record { listen_is = i.is_listen; requests_is = i.is_requests })

pub gives_serve : (words : List (List ℕ)) (matches : ArgMatches) (options : List Given) (listen : List ℕ)
    (requests : ℕ) (service : Bool) → AreOptions serve_options serve_flags words options →
    Match serve_options serve_flags options matches → Give (value_in matches) listen requests →
    Tells matches (codes "service") service → IsServe words listen requests service
gives_serve words matches options listen requests service are m g tells =
    let k = give_same (value_in matches) (λ key. value_of key options) listen requests m.values g in
    record {
      options = options;
      are_options = are;
      is_listen = k.listen_is;
      is_requests = k.requests_is;
      is_service = sym (service_read options matches service m tells);
    }

pub same_serve : (listen address : List ℕ) (requests n : ℕ) (service flag : Bool) →
    (◌≡◌ {A = Result (List ℕ) WordsFault} (Ok address) (Ok listen))
    ⊎ (◌≡◌ {A = Result (List ℕ) WordsFault} (Ok address) (Err NoMemory)) →
    ◌≡◌ {A = Result ℕ WordsFault} (Ok n) (Ok requests) → flag ≡ service →
    ◌≡◌ {A = Result Command WordsFault} (Ok (Serve address n flag)) (Ok (Serve listen requests service))
same_serve listen address requests n service flag (inl e) en ef = cc
same_serve listen address requests n service flag (inr e) en ef = absurd (cc)
