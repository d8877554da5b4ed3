-- The command of `init` depends only on the values of its options.
use Rattle.std.proofs.Common.{◌≡◌, ◌⊎◌, ℕ, List, [], All, Option, Result, Ok, Err, codes, sym, subst, arith, inl, inr}
use Rattle.atom_writer.specs.declared.doc.FeedName.{FeedName}
use Rattle.tool_words.specs.Options.{Given, AreOptions, value_of}
use Rattle.clap.specs.declared.parser.matches.ArgMatches.{ArgMatches}
use Rattle.tool_words.specs.Parse.{Match, value_in}
use Rattle.tool_words.specs.Words.{IsBaseText, IsFeedIdText, IsNameText, IsNamed, IsNumberOr, IsInit, init_options}
use Rattle.tool_words.specs.Words.{window_limit, default_window}
use Rattle.tool_words.specs.Words.{capacity_floor, capacity_limit, default_capacity}
use Rattle.tool_words.specs.declared.command.Command.{Command}
use Rattle.tool_words.specs.declared.command.Command.TheVariants.{Init}
use Rattle.tool_words.specs.declared.fault.WordsFault.{WordsFault}
use Rattle.tool_words.specs.declared.fault.WordsFault.TheVariants.{NoMemory}

-- the values give this feed, this window and this capacity
pub record Give (value : List ℕ → Option (List ℕ)) (name : FeedName) (window capacity : ℕ) : Type 0 where
  pub named : IsNamed value name
  pub window_is : IsNumberOr default_window 1 window_limit (value (codes "window")) window
  pub capacity_is : IsNumberOr default_capacity capacity_floor capacity_limit (value (codes "capacity")) capacity

pub give_same : (one other : List ℕ → Option (List ℕ)) (name : FeedName) (window capacity : ℕ) →
    All (λ key. one key ≡ other key) init_options → Give one name window capacity → Give other name window capacity
give_same one other name window capacity same g = record {
  named = record {
    base = subst (λ v. IsBaseText v name.base) (same 0 [] (omega arith)) g.named.base;
    id = subst (λ v. IsFeedIdText v name.id) (same 1 [] (omega arith)) g.named.id;
    title = subst (λ v. IsNameText v name.title) (same 2 [] (omega arith)) g.named.title;
    author = subst (λ v. IsNameText v name.author) (same 3 [] (omega arith)) g.named.author;
  };
  window_is = subst (λ v. IsNumberOr default_window 1 window_limit v window) (same 4 [] (omega arith)) g.window_is;
  capacity_is = subst (λ v. IsNumberOr default_capacity capacity_floor capacity_limit v capacity)
      (same 5 [] (omega arith)) g.capacity_is;
}

-- the words of `init` and the matches of their options
pub init_gives : (words : List (List ℕ)) (matches : ArgMatches) (name : FeedName) (window capacity : ℕ) →
    (i : IsInit words name window capacity) → Match init_options [] i.options matches →
    Give (value_in matches) name window capacity
init_gives words matches name window capacity i m =
    give_same (λ key. value_of key i.options) (value_in matches) name window capacity
    (λ k d lt. sym (m.values k d lt))
    (record { named = i.is_named; window_is = i.is_window; capacity_is = i.is_capacity })

pub gives_init : (words : List (List ℕ)) (matches : ArgMatches) (options : List Given) (name : FeedName)
    (window capacity : ℕ) → AreOptions init_options [] words options → Match init_options [] options matches →
    Give (value_in matches) name window capacity → IsInit words name window capacity
gives_init words matches options name window capacity are m g =
    let k = give_same (value_in matches) (λ key. value_of key options) name window capacity m.values g in
    record {
      options = options;
      are_options = are;
      is_named = k.named;
      is_window = k.window_is;
      is_capacity = k.capacity_is;
    }

pub same_init : (name feed : FeedName) (window w capacity k : ℕ) →
    (◌≡◌ {A = Result FeedName WordsFault} (Ok feed) (Ok name))
    ⊎ (◌≡◌ {A = Result FeedName WordsFault} (Ok feed) (Err NoMemory)) →
    ◌≡◌ {A = Result ℕ WordsFault} (Ok w) (Ok window) → ◌≡◌ {A = Result ℕ WordsFault} (Ok k) (Ok capacity) →
    ◌≡◌ {A = Result Command WordsFault} (Ok (Init feed w k)) (Ok (Init name window capacity))
same_init name feed window w capacity k (inl e) ew ek = cc
same_init name feed window w capacity k (inr e) ew ek = absurd (cc)
