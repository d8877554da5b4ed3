-- The command that words spell, by their first word.
use Rattle.std.proofs.Common.{◌≡◌, ◌⊎◌, ℕ, List, [], ◌∷◌, Option, Result, Ok, Err, IfOk}
use Rattle.std.proofs.Common.{codes, bytes_eq, Bool, true, false, sym, ◌∙◌, subst}
use Rattle.atom_writer.specs.declared.doc.FeedName.{FeedName}
use Rattle.tool_words.specs.Words.{IsApply, IsCommandOf, IsDiscover, IsDrill, IsForeign, IsInit, IsMirror, IsRelay}
use Rattle.tool_words.specs.Words.{IsRestOf, IsScrub, IsServe, IsShow, word_of}
use Rattle.tool_words.specs.declared.command.Command.{Command}
use Rattle.tool_words.specs.declared.command.Command.TheVariants.{Init, Apply, Show, Serve, Mirror, Audit, Drill, Foreign}
use Rattle.tool_words.specs.declared.command.Command.TheVariants.{Discover, Relay, Scrub}
use Rattle.tool_words.specs.declared.command.Show.{Show as Shown}
use Rattle.tool_words.specs.declared.fault.WordsFault.{WordsFault}
use Rattle.tool_words.specs.declared.fault.WordsFault.TheVariants.{NoMemory}

-- the first statement if the words are the same, and else the other
abbrev By : Bool → Type 0 → Type 0 → Type 0
By true one other = one
By false one other = other

module _ (rest : List (List ℕ)) (r : Result Command WordsFault) where
  -- the result is the command, unless memory ran out
  abbrev pub IsRead : Command → Type 0
  IsRead command = (r ≡ Ok command) ⊎ (r ≡ Err NoMemory)

  -- what the reader of the words after this first word ensures
  abbrev pub Only : List ℕ → Type 0
  Only word = By (bytes_eq word (codes "init"))
      ((name : FeedName) (window capacity : ℕ) → IsInit rest name window capacity → IsRead (Init name window capacity))
      (By (bytes_eq word (codes "apply")) ((window : Option ℕ) → IsApply rest window → IsRead (Apply window))
      (By (bytes_eq word (codes "show")) ((shown : Shown) → IsShow rest shown → IsRead (Show shown))
      (By (bytes_eq word (codes "serve")) ((listen : List ℕ) (requests : ℕ) (service : Bool) →
      IsServe rest listen requests service → IsRead (Serve listen requests service))
      (By (bytes_eq word (codes "mirror")) ((base : List ℕ) (fetch report : Bool) (capacity : ℕ) →
      IsMirror rest base fetch report capacity → IsRead (Mirror base fetch report capacity))
      (By (bytes_eq word (codes "audit")) (rest ≡ [] → IsRead Audit)
      (By (bytes_eq word (codes "drill")) ((seed count : ℕ) → IsDrill rest seed count → IsRead (Drill seed count))
      (By (bytes_eq word (codes "foreign")) ((from : List ℕ) → IsForeign rest from → IsRead (Foreign from))
      (By (bytes_eq word (codes "discover")) ((address : List ℕ) → IsDiscover rest address → IsRead (Discover address))
      (By (bytes_eq word (codes "relay")) ((base listen : List ℕ) (requests capacity : ℕ) →
      IsRelay rest base listen requests capacity → IsRead (Relay base listen requests capacity))
      ((repair : Bool) → IsScrub rest repair → IsRead (Scrub repair)))))))))))

  by_word : (command : Command) → Only (word_of command) → IsRestOf rest command → IsRead command
  by_word (Init name window capacity) only = only name window capacity
  by_word (Apply window) only = only window
  by_word (Show shown) only = only shown
  by_word (Serve listen requests service) only = only listen requests service
  by_word (Mirror base fetch report capacity) only = only base fetch report capacity
  by_word Audit only = only
  by_word (Drill seed count) only = only seed count
  by_word (Foreign from) only = only from
  by_word (Discover address) only = only address
  by_word (Relay base listen requests capacity) only = only base listen requests capacity
  by_word (Scrub repair) only = only repair

  -- the words are read as any command that they spell
  pub words_only : (words : List (List ℕ)) (word : List ℕ) → words ≡ word ∷ rest → Only word → (command : Command) →
      IsCommandOf words command → IsRead command
  words_only words word spelt only command (behind, e, i) =
      let both : word ∷ rest ≡ word_of command ∷ behind = sym spelt ∙ e in
      let same_word : word ≡ word_of command = cc in
      let same_rest : behind ≡ rest = cc in
      by_word command (subst Only same_word only) (subst (λ b. IsRestOf b command) same_rest i)

-- A reader of the words after the first one returned this command, which is one of all the words.
module _ (words rest : List (List ℕ)) where
  found : (command : Command) → words ≡ word_of command ∷ rest → IsRestOf rest command → (read : Command) →
      read ≡ command → IsCommandOf words read
  found command spelt i read e = subst (IsCommandOf words) (sym e) (rest, spelt, i)

  pub init_found : (r : Result Command WordsFault) → words ≡ codes "init" ∷ rest →
      IfOk r (λ command. (name : FeedName) × (window capacity : ℕ) × (command ≡ Init name window capacity)
      × IsInit rest name window capacity) → IfOk r (IsCommandOf words)
  init_found (Ok command) spelt (name, window, capacity, e, i) = found (Init name window capacity) spelt i command e
  init_found (Err fault) spelt h = tt

  pub apply_found : (r : Result Command WordsFault) → words ≡ codes "apply" ∷ rest →
      IfOk r (λ command. (window : Option ℕ) × (command ≡ Apply window) × IsApply rest window) →
      IfOk r (IsCommandOf words)
  apply_found (Ok command) spelt (window, e, i) = found (Apply window) spelt i command e
  apply_found (Err fault) spelt h = tt

  pub show_found : (r : Result Command WordsFault) → words ≡ codes "show" ∷ rest →
      IfOk r (λ command. (shown : Shown) × (command ≡ Show shown) × IsShow rest shown) → IfOk r (IsCommandOf words)
  show_found (Ok command) spelt (shown, e, i) = found (Show shown) spelt i command e
  show_found (Err fault) spelt h = tt

  pub serve_found : (r : Result Command WordsFault) → words ≡ codes "serve" ∷ rest →
      IfOk r (λ command. (listen : List ℕ) × (requests : ℕ) × (service : Bool) × (command ≡ Serve listen requests service)
      × IsServe rest listen requests service) → IfOk r (IsCommandOf words)
  serve_found (Ok command) spelt (listen, requests, service, e, i) =
      found (Serve listen requests service) spelt i command e
  serve_found (Err fault) spelt h = tt

  pub mirror_found : (r : Result Command WordsFault) → words ≡ codes "mirror" ∷ rest →
      IfOk r (λ command. (base : List ℕ) × (fetch report : Bool) × (capacity : ℕ) × (command ≡ Mirror base fetch report capacity)
      × IsMirror rest base fetch report capacity) → IfOk r (IsCommandOf words)
  mirror_found (Ok command) spelt (base, fetch, report, capacity, e, i) =
      found (Mirror base fetch report capacity) spelt i command e
  mirror_found (Err fault) spelt h = tt

  pub audit_found : (r : Result Command WordsFault) → words ≡ codes "audit" ∷ rest →
      IfOk r (λ command. (command ≡ Audit) × (rest ≡ [])) → IfOk r (IsCommandOf words)
  audit_found (Ok command) spelt (e, i) = found Audit spelt i command e
  audit_found (Err fault) spelt h = tt

  pub drill_found : (r : Result Command WordsFault) → words ≡ codes "drill" ∷ rest →
      IfOk r (λ command. (seed count : ℕ) × (command ≡ Drill seed count) × IsDrill rest seed count) →
      IfOk r (IsCommandOf words)
  drill_found (Ok command) spelt (seed, count, e, i) = found (Drill seed count) spelt i command e
  drill_found (Err fault) spelt h = tt

  pub foreign_found : (r : Result Command WordsFault) → words ≡ codes "foreign" ∷ rest →
      IfOk r (λ command. (from : List ℕ) × (command ≡ Foreign from) × IsForeign rest from) →
      IfOk r (IsCommandOf words)
  foreign_found (Ok command) spelt (from, e, i) = found (Foreign from) spelt i command e
  foreign_found (Err fault) spelt h = tt

  pub discover_found : (r : Result Command WordsFault) → words ≡ codes "discover" ∷ rest →
      IfOk r (λ command. (address : List ℕ) × (command ≡ Discover address) × IsDiscover rest address) →
      IfOk r (IsCommandOf words)
  discover_found (Ok command) spelt (address, e, i) = found (Discover address) spelt i command e
  discover_found (Err fault) spelt h = tt

  pub relay_found : (r : Result Command WordsFault) → words ≡ codes "relay" ∷ rest →
      IfOk r (λ command. (base listen : List ℕ) × (requests capacity : ℕ) × (command ≡ Relay base listen requests capacity)
      × IsRelay rest base listen requests capacity) → IfOk r (IsCommandOf words)
  relay_found (Ok command) spelt (base, listen, requests, capacity, e, i) =
      found (Relay base listen requests capacity) spelt i command e
  relay_found (Err fault) spelt h = tt

  pub scrub_found : (r : Result Command WordsFault) → words ≡ codes "scrub" ∷ rest →
      IfOk r (λ command. (repair : Bool) × (command ≡ Scrub repair) × IsScrub rest repair) →
      IfOk r (IsCommandOf words)
  scrub_found (Ok command) spelt (repair, e, i) = found (Scrub repair) spelt i command e
  scrub_found (Err fault) spelt h = tt
