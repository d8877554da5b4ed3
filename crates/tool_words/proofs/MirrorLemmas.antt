-- The command of `mirror` depends only on the values of its options and on the flags that are given.
use Rattle.std.proofs.Common.{◌≡◌, ◌⊎◌, inl, inr, ℕ, List, [], All, Option, Bool, Result, Ok, Err}
use Rattle.std.proofs.Common.{codes, sym, subst, arith}
use Rattle.tool_words.specs.Options.{Given, AreOptions, is_given, value_of}
use Rattle.clap.specs.declared.parser.matches.ArgMatches.{ArgMatches}
use Rattle.tool_words.specs.Parse.{Match, value_in}
use Rattle.tool_words.specs.Words.{IsBaseText, IsMirror, IsNumberOr, mirror_flags, mirror_options}
use Rattle.tool_words.specs.Words.{capacity_floor, capacity_limit, default_capacity}
use Rattle.tool_words.specs.declared.command.Command.{Command}
use Rattle.tool_words.specs.declared.command.Command.TheVariants.{Mirror}
use Rattle.tool_words.specs.declared.fault.WordsFault.{WordsFault}
use Rattle.tool_words.specs.declared.fault.WordsFault.TheVariants.{NoMemory}
use Rattle.tool_words.proofs.FlagLemmas.{Tells, flag_read}

-- the values give this base and this capacity
pub record Give (value : List ℕ → Option (List ℕ)) (base : List ℕ) (capacity : ℕ) : Type 0 where
  pub base_is : IsBaseText (value (codes "base")) base
  pub capacity_is : IsNumberOr default_capacity capacity_floor capacity_limit (value (codes "capacity")) capacity

pub give_same : (one other : List ℕ → Option (List ℕ)) (base : List ℕ) (capacity : ℕ) →
    All (λ key. one key ≡ other key) mirror_options → Give one base capacity → Give other base capacity
give_same one other base capacity same g = record {
  base_is = subst (λ v. IsBaseText v base) (same 0 [] (omega arith)) g.base_is;
  capacity_is = subst (λ v. IsNumberOr default_capacity capacity_floor capacity_limit v capacity)
      (same 1 [] (omega arith)) g.capacity_is;
}

pub fetch_read : (options : List Given) (matches : ArgMatches) (fetch : Bool) →
    Match mirror_options mirror_flags options matches → Tells matches (codes "fetch") fetch →
    fetch ≡ is_given (codes "fetch") options
fetch_read options matches fetch m tells =
    flag_read matches (codes "fetch") (is_given (codes "fetch") options) fetch (m.flags_are 0 [] (omega arith)) tells

pub report_read : (options : List Given) (matches : ArgMatches) (report : Bool) →
    Match mirror_options mirror_flags options matches → Tells matches (codes "report") report →
    report ≡ is_given (codes "report") options
report_read options matches report m tells =
    flag_read matches (codes "report") (is_given (codes "report") options) report
    (m.flags_are 1 [] (omega arith)) tells

-- the words of `mirror` and the matches of their options
pub mirror_gives : (words : List (List ℕ)) (matches : ArgMatches) (base : List ℕ) (fetch report : Bool)
    (capacity : ℕ) → (i : IsMirror words base fetch report capacity)
    → Match mirror_options mirror_flags i.options matches →
    Give (value_in matches) base capacity
mirror_gives words matches base fetch report capacity i m =
    give_same (λ key. value_of key i.options) (value_in matches) base capacity (λ k d lt. sym (m.values k d lt))
    (record { base_is = i.is_base; capacity_is = i.is_capacity })

pub gives_mirror : (words : List (List ℕ)) (matches : ArgMatches) (options : List Given) (base : List ℕ)
    (fetch report : Bool) (capacity : ℕ) → AreOptions mirror_options mirror_flags words options →
    Match mirror_options mirror_flags options matches → Give (value_in matches) base capacity →
    Tells matches (codes "fetch") fetch → Tells matches (codes "report") report →
    IsMirror words base fetch report capacity
gives_mirror words matches options base fetch report capacity are m g fetches reports =
    let k = give_same (value_in matches) (λ key. value_of key options) base capacity m.values g in
    record {
      options = options;
      are_options = are;
      is_base = k.base_is;
      is_fetch = sym (fetch_read options matches fetch m fetches);
      is_report = sym (report_read options matches report m reports);
      is_capacity = k.capacity_is;
    }

pub same_mirror : (base read : List ℕ) (fetch flag report asked : Bool) (capacity limit : ℕ) →
    (◌≡◌ {A = Result (List ℕ) WordsFault} (Ok read) (Ok base))
    ⊎ (◌≡◌ {A = Result (List ℕ) WordsFault} (Ok read) (Err NoMemory)) → flag ≡ fetch → asked ≡ report →
    ◌≡◌ {A = Result ℕ WordsFault} (Ok limit) (Ok capacity) →
    ◌≡◌ {A = Result Command WordsFault} (Ok (Mirror read flag asked limit)) (Ok (Mirror base fetch report capacity))
same_mirror base read fetch flag report asked capacity limit (inl e) ef er el = cc
same_mirror base read fetch flag report asked capacity limit (inr e) ef er el = absurd (cc)
