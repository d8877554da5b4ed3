-- The command of `relay` depends only on the values of its options.
use Rattle.std.proofs.Common.{◌≡◌, ◌⊎◌, inl, inr, ℕ, List, [], All, Option, Result, Ok, Err, codes, sym, subst, arith}
use Rattle.tool_words.specs.Options.{Given, AreOptions, value_of}
use Rattle.clap.specs.declared.parser.matches.ArgMatches.{ArgMatches}
use Rattle.tool_words.specs.Parse.{Match, value_in}
use Rattle.tool_words.specs.Words.{IsBaseText, IsListen, IsNumberOr, IsRelay, IsRequests, relay_options}
use Rattle.tool_words.specs.Words.{capacity_floor, capacity_limit, default_capacity}
use Rattle.tool_words.specs.declared.command.Command.{Command}
use Rattle.tool_words.specs.declared.command.Command.TheVariants.{Relay}
use Rattle.tool_words.specs.declared.fault.WordsFault.{WordsFault}
use Rattle.tool_words.specs.declared.fault.WordsFault.TheVariants.{NoMemory}

-- the values give this base, this address, this number of requests and this capacity
pub record Give (value : List ℕ → Option (List ℕ)) (base listen : List ℕ) (requests capacity : ℕ) : Type 0 where
  pub base_is : IsBaseText (value (codes "base")) base
  pub listen_is : IsListen (value (codes "listen")) listen
  pub requests_is : IsRequests (value (codes "requests")) requests
  pub capacity_is : IsNumberOr default_capacity capacity_floor capacity_limit (value (codes "capacity")) capacity

pub give_same : (one other : List ℕ → Option (List ℕ)) (base listen : List ℕ) (requests capacity : ℕ) →
    All (λ key. one key ≡ other key) relay_options → Give one base listen requests capacity →
    Give other base listen requests capacity
give_same one other base listen requests capacity same g = record {
  base_is = subst (λ v. IsBaseText v base) (same 0 [] (omega arith)) g.base_is;
  listen_is = subst (λ v. IsListen v listen) (same 1 [] (omega arith)) g.listen_is;
  requests_is = subst (λ v. IsRequests v requests) (same 2 [] (omega arith)) g.requests_is;
  capacity_is = subst (λ v. IsNumberOr default_capacity capacity_floor capacity_limit v capacity)
      (same 3 [] (omega arith)) g.capacity_is;
}

-- the words of `relay` and the matches of their options
pub relay_gives : (words : List (List ℕ)) (matches : ArgMatches) (base listen : List ℕ) (requests capacity : ℕ) →
    (i : IsRelay words base listen requests capacity) → Match relay_options [] i.options matches →
    Give (value_in matches) base listen requests capacity
relay_gives words matches base listen requests capacity i m =
    give_same (λ key. value_of key i.options) (value_in matches) base listen requests capacity
    (λ k d lt. sym (m.values k d lt)) (record {
      base_is = i.is_base;
      listen_is = i.is_listen;
      requests_is = i.is_requests;
      capacity_is = i.is_capacity;
    })

pub gives_relay : (words : List (List ℕ)) (matches : ArgMatches) (options : List Given) (base listen : List ℕ)
    (requests capacity : ℕ) → AreOptions relay_options [] words options → Match relay_options [] options matches →
    Give (value_in matches) base listen requests capacity → IsRelay words base listen requests capacity
gives_relay words matches options base listen requests capacity are m g =
    let k = give_same (value_in matches) (λ key. value_of key options) base listen requests capacity m.values g in
    record {
      options = options;
      are_options = are;
      is_base = k.base_is;
      is_listen = k.listen_is;
      is_requests = k.requests_is;
      is_capacity = k.capacity_is;
    }

pub same_relay : (base b listen l : List ℕ) (requests n capacity k : ℕ) →
    (◌≡◌ {A = Result (List ℕ) WordsFault} (Ok b) (Ok base))
    ⊎ (◌≡◌ {A = Result (List ℕ) WordsFault} (Ok b) (Err NoMemory)) →
    (◌≡◌ {A = Result (List ℕ) WordsFault} (Ok l) (Ok listen))
    ⊎ (◌≡◌ {A = Result (List ℕ) WordsFault} (Ok l) (Err NoMemory)) →
    ◌≡◌ {A = Result ℕ WordsFault} (Ok n) (Ok requests) → ◌≡◌ {A = Result ℕ WordsFault} (Ok k) (Ok capacity) →
    ◌≡◌ {A = Result Command WordsFault} (Ok (Relay b l n k)) (Ok (Relay base listen requests capacity))
same_relay base b listen l requests n capacity k (inl eb) (inl el) en ek = cc
same_relay base b listen l requests n capacity k (inl eb) (inr el) en ek = absurd (cc)
same_relay base b listen l requests n capacity k (inr eb) el en ek = absurd (cc)
