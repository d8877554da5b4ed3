-- Words spell one command at most.
use Rattle.std.proofs.Common.{◌≡◌, ◌⊎◌, inl, inr, ℕ, List, [], ◌∷◌, Bool, true, false, Option, None, Some, Result, Ok, Err}
use Rattle.std.proofs.Common.{refl, sym, ap, subst, ◌∙◌, arith, codes, bytes_eq}
use Rattle.std.specs.Prelude.{if◌then◌else◌}
use Rattle.uuid.specs.Text.{parsed}
use Rattle.atom_writer.specs.declared.doc.FeedName.{FeedName}
use Rattle.tool_words.specs.Numbers.{IsNumber, number_value}
use Rattle.tool_words.specs.Options.{value_of}
use Rattle.tool_words.specs.Words.{IsApply, IsBaseText, IsDiscover, IsDrill, IsFeedIdText, IsForeign, IsHttpText}
use Rattle.tool_words.specs.Words.{IsInit, IsListen, IsMirror, IsNamed, IsNameText, IsNumberOr, IsRelay, IsRequests}
use Rattle.tool_words.specs.Words.{IsRestOf, IsScrub, IsServe, IsShow, foreign_options, init_options, mirror_flags}
use Rattle.tool_words.specs.Words.{relay_options, word_of}
use Rattle.tool_words.specs.Words.{mirror_options, serve_flags, serve_options, capacity_floor, capacity_limit, count_limit}
use Rattle.tool_words.specs.Words.{default_capacity, default_window, request_limit, seed_limit, window_limit}
use Rattle.tool_words.specs.Laws.{WordsSpellOneCommand}
use Rattle.tool_words.specs.declared.command.Command.{Command}
use Rattle.tool_words.specs.declared.command.Command.TheVariants.{Init, Apply, Show, Serve, Mirror, Audit, Drill, Foreign}
use Rattle.tool_words.specs.declared.command.Command.TheVariants.{Discover, Relay, Scrub}
use Rattle.tool_words.specs.declared.command.Show.{Show as Shown}
use Rattle.tool_words.specs.declared.command.Show.TheVariants.{Document, Feed, Archive, Member, Pile}
use Rattle.tool_words.specs.declared.fault.WordsFault.{WordsFault}
use Rattle.tool_words.specs.declared.fault.WordsFault.TheVariants.{NoMemory}
use Rattle.tool_words.proofs.CommandLemmas.{Only, words_only}
use Rattle.tool_words.proofs.ForeignLemmas as foreign
use Rattle.tool_words.proofs.InitLemmas as init
use Rattle.tool_words.proofs.MirrorLemmas as mirror
use Rattle.tool_words.proofs.RelayLemmas as relay
use Rattle.tool_words.proofs.ServeLemmas as serve
use Rattle.tool_words.proofs.ParseLemmas.{one_flag, one_value}

-- ---- values

one_number : (least most : ℕ) (word : List ℕ) (m n : ℕ) → IsNumber least most word m → IsNumber least most word n →
    m ≡ n
one_number least most word m n x y = sym x.value ∙ y.value

one_number_or : (default least most : ℕ) (value : Option (List ℕ)) (m n : ℕ) → IsNumberOr default least most value m →
    IsNumberOr default least most value n → m ≡ n
one_number_or default least most None m n x y = x ∙ sym y
one_number_or default least most (Some word) m n x y = one_number least most word m n x y

one_some : (value : Option (List ℕ)) (a b : List ℕ) → value ≡ Some a → value ≡ Some b → a ≡ b
one_some value a b x y = let same : Some a ≡ Some b = sym x ∙ y in cc

one_base : (value : Option (List ℕ)) (a b : List ℕ) → IsBaseText value a → IsBaseText value b → a ≡ b
one_base value a b x y = one_some value a b x.there y.there

one_name_text : (value : Option (List ℕ)) (a b : List ℕ) → IsNameText value a → IsNameText value b → a ≡ b
one_name_text value a b x y = one_some value a b x.there y.there

one_id : (value : Option (List ℕ)) (a b : List ℕ) → IsFeedIdText value a → IsFeedIdText value b → a ≡ b
one_id value a b x y =
    let text = one_some value x.text y.text x.there y.there in
    one_some (parsed y.text) a b (subst (λ t. parsed t ≡ Some a) text x.is_id) y.is_id

one_name : (value : List ℕ → Option (List ℕ)) (a b : FeedName) → IsNamed value a → IsNamed value b → a ≡ b
one_name value a b x y =
    let base = one_base (value (codes "base")) a.base b.base x.base y.base in
    let id = one_id (value (codes "uuid")) a.id b.id x.id y.id in
    let title = one_name_text (value (codes "title")) a.title b.title x.title y.title in
    let author = one_name_text (value (codes "author")) a.author b.author x.author y.author in
    λ i. record { base = base i; id = id i; title = title i; author = author i }

one_listen : (value : Option (List ℕ)) (a b : List ℕ) → IsListen value a → IsListen value b → a ≡ b
one_listen value a b x y = one_some value a b x.there y.there

one_requests : (value : Option (List ℕ)) (m n : ℕ) → IsRequests value m → IsRequests value n → m ≡ n
one_requests value m n x y =
    let word = one_some value x.word y.word x.there y.there in
    one_number 1 request_limit y.word m n (subst (λ w. IsNumber 1 request_limit w m) word x.is_number) y.is_number

one_http : (value : Option (List ℕ)) (a b : List ℕ) → IsHttpText value a → IsHttpText value b → a ≡ b
one_http value a b x y = one_some value a b x.there y.there

-- ---- commands

one_init : (words : List (List ℕ)) (a b : FeedName) (m n c d : ℕ) → IsInit words a m c → IsInit words b n d →
    Init a m c ≡ Init b n d
one_init words a b m n c d x y =
    let given = init.give_same (λ key. value_of key x.options) (λ key. value_of key y.options) a m c
    (one_value init_options [] words refl x.options y.options x.are_options y.are_options)
    (record { named = x.is_named; window_is = x.is_window; capacity_is = x.is_capacity }) in
    let name = one_name (λ key. value_of key y.options) a b given.named y.is_named in
    let window = one_number_or default_window 1 window_limit (value_of (codes "window") y.options) m n
    given.window_is y.is_window in
    let capacity = one_number_or default_capacity capacity_floor capacity_limit
    (value_of (codes "capacity") y.options) c d given.capacity_is y.is_capacity in
    λ i. Init (name i) (window i) (capacity i)

one_apply : (words : List (List ℕ)) (a b : Option ℕ) → IsApply words a → IsApply words b → Apply a ≡ Apply b
one_apply words None None x y = refl
one_apply words None (Some n) x (word, y, number) = let bad : [] ≡ word ∷ [] = sym x ∙ y in absurd cc
one_apply words (Some m) None (word, x, number) y = let bad : [] ≡ word ∷ [] = sym y ∙ x in absurd cc
one_apply words (Some m) (Some n) (word, x, number) (word', y, number') =
    let both : word ∷ [] ≡ word' ∷ [] = sym x ∙ y in
    let same : word ≡ word' = cc in
    ap (λ (k : ℕ). Apply (Some k)) (one_number 1 window_limit word' m n
    (subst (λ w. IsNumber 1 window_limit w m) same number) number')

-- the document that words after `show` ask for
abbrev asked : List (List ℕ) → Shown
asked [] = Document
asked (kind ∷ []) = if bytes_eq kind (codes "feed") then Feed else Pile
asked (kind ∷ word ∷ more) =
    if bytes_eq kind (codes "archive") then Archive (number_value word) else Member (number_value word)

show_asked : (words : List (List ℕ)) (shown : Shown) → IsShow words shown → asked words ≡ shown
show_asked words Document e = ap asked e
show_asked words Feed e = ap asked e
show_asked words (Archive n) (word, e, number) = ap asked e ∙ ap (λ (k : ℕ). Archive k) number.value
show_asked words (Member n) (word, e, number) = ap asked e ∙ ap (λ (k : ℕ). Member k) number.value
show_asked words Pile e = ap asked e

one_serve : (words : List (List ℕ)) (a b : List ℕ) (m n : ℕ) (s t : Bool) → IsServe words a m s → IsServe words b n t →
    Serve a m s ≡ Serve b n t
one_serve words a b m n s t x y =
    let given = serve.give_same (λ key. value_of key x.options) (λ key. value_of key y.options) a m
    (one_value serve_options serve_flags words refl x.options y.options x.are_options y.are_options)
    (record { listen_is = x.is_listen; requests_is = x.is_requests }) in
    let listen = one_listen (value_of (codes "listen") y.options) a b given.listen_is y.is_listen in
    let requests = one_requests (value_of (codes "requests") y.options) m n given.requests_is y.is_requests in
    let flags = one_flag serve_options serve_flags words refl x.options y.options x.are_options y.are_options in
    let service = sym x.is_service ∙ flags 0 [] (omega arith) ∙ y.is_service in
    λ i. Serve (listen i) (requests i) (service i)

one_mirror : (words : List (List ℕ)) (a b : List ℕ) (f g r s : Bool) (c d : ℕ) → IsMirror words a f r c →
    IsMirror words b g s d → Mirror a f r c ≡ Mirror b g s d
one_mirror words a b f g r s c d x y =
    let given = mirror.give_same (λ key. value_of key x.options) (λ key. value_of key y.options) a c
    (one_value mirror_options mirror_flags words refl x.options y.options x.are_options y.are_options)
    (record { base_is = x.is_base; capacity_is = x.is_capacity }) in
    let flags =
    one_flag mirror_options mirror_flags words refl x.options y.options x.are_options y.are_options in
    let base = one_base (value_of (codes "base") y.options) a b given.base_is y.is_base in
    let fetch = sym x.is_fetch ∙ flags 0 [] (omega arith) ∙ y.is_fetch in
    let report = sym x.is_report ∙ flags 1 [] (omega arith) ∙ y.is_report in
    let capacity = one_number_or default_capacity capacity_floor capacity_limit
    (value_of (codes "capacity") y.options) c d given.capacity_is y.is_capacity in
    λ i. Mirror (base i) (fetch i) (report i) (capacity i)

one_drill : (words : List (List ℕ)) (m n c d : ℕ) → IsDrill words m c → IsDrill words n d → Drill m c ≡ Drill n d
one_drill words m n c d x y =
    let both : x.seed_word ∷ x.count_word ∷ [] ≡ y.seed_word ∷ y.count_word ∷ [] = sym x.words_are ∙ y.words_are in
    let seed_word : x.seed_word ≡ y.seed_word = cc in
    let count_word : x.count_word ≡ y.count_word = cc in
    let seed = one_number 0 seed_limit y.seed_word m n
    (subst (λ w. IsNumber 0 seed_limit w m) seed_word x.is_seed) y.is_seed in
    let count = one_number 1 count_limit y.count_word c d
    (subst (λ w. IsNumber 1 count_limit w c) count_word x.is_count) y.is_count in
    λ i. Drill (seed i) (count i)

one_foreign : (words : List (List ℕ)) (a b : List ℕ) → IsForeign words a → IsForeign words b → Foreign a ≡ Foreign b
one_foreign words a b x y =
    let given = foreign.from_same (λ key. value_of key x.options) (λ key. value_of key y.options) a
    (one_value foreign_options [] words refl x.options y.options x.are_options y.are_options) x.is_from in
    ap Foreign (one_http (value_of (codes "from") y.options) a b given y.is_from)

one_discover : (words : List (List ℕ)) (a b : List ℕ) → IsDiscover words a → IsDiscover words b →
    Discover a ≡ Discover b
one_discover words a b x y =
    let both : a ∷ [] ≡ b ∷ [] = sym x.words_are ∙ y.words_are in
    let same : a ≡ b = cc in ap Discover same

one_relay : (words : List (List ℕ)) (a b l k : List ℕ) (m n c d : ℕ) → IsRelay words a l m c → IsRelay words b k n d →
    Relay a l m c ≡ Relay b k n d
one_relay words a b l k m n c d x y =
    let given = relay.give_same (λ key. value_of key x.options) (λ key. value_of key y.options) a l m c
    (one_value relay_options [] words refl x.options y.options x.are_options y.are_options)
    (record { base_is = x.is_base; listen_is = x.is_listen; requests_is = x.is_requests; capacity_is = x.is_capacity })
    in
    let base = one_base (value_of (codes "base") y.options) a b given.base_is y.is_base in
    let listen = one_listen (value_of (codes "listen") y.options) l k given.listen_is y.is_listen in
    let requests = one_requests (value_of (codes "requests") y.options) m n given.requests_is y.is_requests in
    let capacity = one_number_or default_capacity capacity_floor capacity_limit
    (value_of (codes "capacity") y.options) c d given.capacity_is y.is_capacity in
    λ i. Relay (base i) (listen i) (requests i) (capacity i)

one_scrub : (words : List (List ℕ)) (a b : Bool) → IsScrub words a → IsScrub words b → Scrub a ≡ Scrub b
one_scrub words false false x y = refl
one_scrub words false true x y = let bad : [] ≡ codes "--repair" ∷ [] = sym x ∙ y in absurd cc
one_scrub words true false x y = let bad : [] ≡ codes "--repair" ∷ [] = sym y ∙ x in absurd cc
one_scrub words true true x y = refl

-- of two results one of which is a command
same_command : (one other : Command) → (◌≡◌ {A = Result Command WordsFault} (Ok one) (Ok other))
    ⊎ (◌≡◌ {A = Result Command WordsFault} (Ok one) (Err NoMemory)) → one ≡ other
same_command one other (inl e) = cc
same_command one other (inr e) = absurd cc

only_of : (one : Command) (rest : List (List ℕ)) → IsRestOf rest one → Only rest (Ok one) (word_of one)
only_of (Init a m c) rest x = λ b n d y. inl (ap Ok (one_init rest a b m n c d x y))
only_of (Apply a) rest x = λ b y. inl (ap Ok (one_apply rest a b x y))
only_of (Show a) rest x =
    λ b y. inl (ap (λ (k : Shown). Ok (Show k)) (sym (show_asked rest a x) ∙ show_asked rest b y))
only_of (Serve a m s) rest x = λ b n t y. inl (ap Ok (one_serve rest a b m n s t x y))
only_of (Mirror a f r c) rest x = λ b g s d y. inl (ap Ok (one_mirror rest a b f g r s c d x y))
only_of Audit rest x = λ none. inl refl
only_of (Drill m c) rest x = λ n d y. inl (ap Ok (one_drill rest m n c d x y))
only_of (Foreign a) rest x = λ b y. inl (ap Ok (one_foreign rest a b x y))
only_of (Discover a) rest x = λ b y. inl (ap Ok (one_discover rest a b x y))
only_of (Relay a l m c) rest x = λ b k n d y. inl (ap Ok (one_relay rest a b l k m n c d x y))
only_of (Scrub a) rest x = λ b y. inl (ap Ok (one_scrub rest a b x y))

pub one_command : WordsSpellOneCommand
one_command words one other (rest, e, x) y =
    same_command one other (words_only rest (Ok one) words (word_of one) e (only_of one rest x) other y)
