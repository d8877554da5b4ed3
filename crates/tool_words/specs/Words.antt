-- The words of each command.
use Rattle.std.specs.Prelude.{◌≡◌, ◌≢◌, ℕ, ◌-◌, ◌≤◌, ◌^◌, List, [], ◌∷◌, Option, Some, None, Bool, true, false, IsTrue, codes}
use Rattle.std.specs.Prelude.{length}
use Rattle.std.specs.Prelude.{bytes_eq, take}
use Rattle.uuid.specs.Text.{parsed}
use Rattle.atom_values.specs.XmlText.{IsAtomText}
use Rattle.atom_writer.specs.declared.doc.FeedName.{FeedName}
use Rattle.chain_links.specs.Base.{IsBase}
use Rattle.chain_links.specs.Checked.{IsUrlText}
use Rattle.deleted_entries.specs.FeedId.{version, member_version}
use Rattle.tool_words.specs.Numbers.{IsNumber}
use Rattle.tool_words.specs.Options.{Given, AreOptions, is_given, value_of}
use Rattle.tool_words.specs.declared.command.Command.{Command}
use Rattle.tool_words.specs.declared.command.Command.TheVariants.{Init, Apply, Show, Serve, Mirror, Audit, Drill, Foreign}
use Rattle.tool_words.specs.declared.command.Command.TheVariants.{Discover, Relay, Scrub}
use Rattle.tool_words.specs.declared.command.Show.{Show as Shown}
use Rattle.tool_words.specs.declared.command.Show.TheVariants.{Document, Feed, Archive, Member, Pile}

-- the most operations of a window, and how many it has where the words don't say
abbrev pub window_limit : ℕ
window_limit = 100

abbrev pub default_window : ℕ
default_window = 10

-- how many bytes an area may be limited to, at least and at most, and where the words don't say
abbrev pub capacity_floor : ℕ
capacity_floor = 4_096

abbrev pub capacity_limit : ℕ
capacity_limit = 68_719_476_736

abbrev pub default_capacity : ℕ
default_capacity = 1_073_741_824

-- how many bytes a feed's title and its author may have
abbrev pub name_limit : ℕ
name_limit = 1_024

-- how many bytes an address to listen at may have
abbrev pub listen_limit : ℕ
listen_limit = 255

-- how many requests may be asked for
abbrev pub request_limit : ℕ
request_limit = 1_000_000

-- the greatest seed of a drill, and how many requests it may make
abbrev pub seed_limit : ℕ
seed_limit = 2 ^ 64 - 1

abbrev pub count_limit : ℕ
count_limit = 2_000

abbrev pub init_options : List (List ℕ)
init_options =
    codes "base" ∷ codes "uuid" ∷ codes "title" ∷ codes "author" ∷ codes "window" ∷ codes "capacity" ∷ []

abbrev pub serve_options : List (List ℕ)
serve_options = codes "listen" ∷ codes "requests" ∷ []

abbrev pub serve_flags : List (List ℕ)
serve_flags = codes "service" ∷ []

abbrev pub mirror_options : List (List ℕ)
mirror_options = codes "base" ∷ codes "capacity" ∷ []

abbrev pub mirror_flags : List (List ℕ)
mirror_flags = codes "fetch" ∷ codes "report" ∷ []

abbrev pub foreign_options : List (List ℕ)
foreign_options = codes "from" ∷ []

abbrev pub relay_options : List (List ℕ)
relay_options = codes "base" ∷ codes "listen" ∷ codes "requests" ∷ codes "capacity" ∷ []

-- the value is this number in the range, or is left out and the number is the default
abbrev pub IsNumberOr : ℕ → ℕ → ℕ → Option (List ℕ) → ℕ → Type 0
IsNumberOr default least most None number = number ≡ default
IsNumberOr default least most (Some word) number = IsNumber least most word number

-- the value is a base address that the parser of the URL Standard leaves as it is
pub record IsBaseText (value : Option (List ℕ)) (base : List ℕ) : Type 0 where
  pub there : value ≡ Some base
  pub is_base : IsBase base
  pub is_url : IsUrlText base

-- the value is a feed's title or author
pub record IsNameText (value : Option (List ℕ)) (text : List ℕ) : Type 0 where
  pub there : value ≡ Some text
  pub is_text : IsAtomText text
  pub short : length text ≤ name_limit

-- the value is the identifier of a feed
pub record IsFeedIdText (value : Option (List ℕ)) (id : List ℕ) : Type 0 where
  pub text : List ℕ
  pub there : value ≡ Some text
  pub is_id : parsed text ≡ Some id
  pub of_a_feed : version id ≢ member_version

-- the values of the options name the feed
pub record IsNamed (value : List ℕ → Option (List ℕ)) (name : FeedName) : Type 0 where
  pub base : IsBaseText (value (codes "base")) name.base
  pub id : IsFeedIdText (value (codes "uuid")) name.id
  pub title : IsNameText (value (codes "title")) name.title
  pub author : IsNameText (value (codes "author")) name.author

-- the words after `init`
pub record IsInit (words : List (List ℕ)) (name : FeedName) (window capacity : ℕ) : Type 0 where
  pub options : List Given
  pub are_options : AreOptions init_options [] words options
  pub is_named : IsNamed (λ key. value_of key options) name
  pub is_window : IsNumberOr default_window 1 window_limit (value_of (codes "window") options) window
  pub is_capacity :
      IsNumberOr default_capacity capacity_floor capacity_limit (value_of (codes "capacity") options) capacity

-- the words after `apply`
abbrev pub IsApply : List (List ℕ) → Option ℕ → Type 0
IsApply words None = words ≡ []
IsApply words (Some window) = (word : List ℕ) × (words ≡ word ∷ []) × IsNumber 1 window_limit word window

-- the number of an archive or of a member
abbrev pub IsNumbered : List ℕ → List (List ℕ) → ℕ → Type 0
IsNumbered kind words number =
    (word : List ℕ) × (words ≡ kind ∷ word ∷ []) × IsNumber 1 (2 ^ 32 - 1) word number

-- the words after `show`
abbrev pub IsShow : List (List ℕ) → Shown → Type 0
IsShow words Document = words ≡ []
IsShow words Feed = words ≡ codes "feed" ∷ []
IsShow words (Archive number) = IsNumbered (codes "archive") words number
IsShow words (Member number) = IsNumbered (codes "member") words number
IsShow words Pile = words ≡ codes "pile" ∷ []

-- the value is an address to listen at
pub record IsListen (value : Option (List ℕ)) (listen : List ℕ) : Type 0 where
  pub there : value ≡ Some listen
  pub some : 1 ≤ length listen
  pub short : length listen ≤ listen_limit

-- the value is a number of requests
pub record IsRequests (value : Option (List ℕ)) (requests : ℕ) : Type 0 where
  pub word : List ℕ
  pub there : value ≡ Some word
  pub is_number : IsNumber 1 request_limit word requests

-- the words after `serve`
pub record IsServe (words : List (List ℕ)) (listen : List ℕ) (requests : ℕ) (service : Bool) : Type 0 where
  pub options : List Given
  pub are_options : AreOptions serve_options serve_flags words options
  pub is_listen : IsListen (value_of (codes "listen") options) listen
  pub is_requests : IsRequests (value_of (codes "requests") options) requests
  pub is_service : is_given (codes "service") options ≡ service

-- the words after `mirror`
pub record IsMirror (words : List (List ℕ)) (base : List ℕ) (fetch report : Bool) (capacity : ℕ) : Type 0 where
  pub options : List Given
  pub are_options : AreOptions mirror_options mirror_flags words options
  pub is_base : IsBaseText (value_of (codes "base") options) base
  pub is_fetch : is_given (codes "fetch") options ≡ fetch
  pub is_report : is_given (codes "report") options ≡ report
  pub is_capacity :
      IsNumberOr default_capacity capacity_floor capacity_limit (value_of (codes "capacity") options) capacity

-- the words after `drill`
pub record IsDrill (words : List (List ℕ)) (seed count : ℕ) : Type 0 where
  pub seed_word : List ℕ
  pub count_word : List ℕ
  pub words_are : words ≡ seed_word ∷ count_word ∷ []
  pub is_seed : IsNumber 0 seed_limit seed_word seed
  pub is_count : IsNumber 1 count_limit count_word count

-- the value is an `http` URL that the parser of the URL Standard leaves as it is
pub record IsHttpText (value : Option (List ℕ)) (address : List ℕ) : Type 0 where
  pub there : value ≡ Some address
  pub is_url : IsUrlText address
  pub http : IsTrue (bytes_eq (take 5 address) (codes "http:"))

-- the words after `foreign`
pub record IsForeign (words : List (List ℕ)) (from : List ℕ) : Type 0 where
  pub options : List Given
  pub are_options : AreOptions foreign_options [] words options
  pub is_from : IsHttpText (value_of (codes "from") options) from

-- the word after `discover`
pub record IsDiscover (words : List (List ℕ)) (address : List ℕ) : Type 0 where
  pub words_are : words ≡ address ∷ []
  pub is_address : IsHttpText (Some address) address

-- the words after `relay`
pub record IsRelay (words : List (List ℕ)) (base listen : List ℕ) (requests capacity : ℕ) : Type 0 where
  pub options : List Given
  pub are_options : AreOptions relay_options [] words options
  pub is_base : IsBaseText (value_of (codes "base") options) base
  pub is_listen : IsListen (value_of (codes "listen") options) listen
  pub is_requests : IsRequests (value_of (codes "requests") options) requests
  pub is_capacity :
      IsNumberOr default_capacity capacity_floor capacity_limit (value_of (codes "capacity") options) capacity

-- the words after `scrub`
abbrev pub IsScrub : List (List ℕ) → Bool → Type 0
IsScrub words false = words ≡ []
IsScrub words true = words ≡ codes "--repair" ∷ []

-- the first word of a command's words
abbrev pub word_of : Command → List ℕ
word_of (Init name window capacity) = codes "init"
word_of (Apply window) = codes "apply"
word_of (Show shown) = codes "show"
word_of (Serve listen requests service) = codes "serve"
word_of (Mirror base fetch report capacity) = codes "mirror"
word_of Audit = codes "audit"
word_of (Drill seed count) = codes "drill"
word_of (Foreign from) = codes "foreign"
word_of (Discover address) = codes "discover"
word_of (Relay base listen requests capacity) = codes "relay"
word_of (Scrub repair) = codes "scrub"

-- the words after a command's first word
abbrev pub IsRestOf : List (List ℕ) → Command → Type 0
IsRestOf rest (Init name window capacity) = IsInit rest name window capacity
IsRestOf rest (Apply window) = IsApply rest window
IsRestOf rest (Show shown) = IsShow rest shown
IsRestOf rest (Serve listen requests service) = IsServe rest listen requests service
IsRestOf rest (Mirror base fetch report capacity) = IsMirror rest base fetch report capacity
IsRestOf rest Audit = rest ≡ []
IsRestOf rest (Drill seed count) = IsDrill rest seed count
IsRestOf rest (Foreign from) = IsForeign rest from
IsRestOf rest (Discover address) = IsDiscover rest address
IsRestOf rest (Relay base listen requests capacity) = IsRelay rest base listen requests capacity
IsRestOf rest (Scrub repair) = IsScrub rest repair

-- the words of a command
abbrev pub IsCommandOf : List (List ℕ) → Command → Type 0
IsCommandOf words command =
    (rest : List (List ℕ)) × (words ≡ word_of command ∷ rest) × IsRestOf rest command
