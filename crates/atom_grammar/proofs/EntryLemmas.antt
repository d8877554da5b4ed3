-- Tombstones and entries are read in one way.
use Rattle.std.proofs.Common.{◌≡◌, ℕ, ◌<◌, ◌≤◌, ◌^◌, true, false, List, [], ◌∷◌, ◌++◌, Option, Some, None, refl, sym, ap, subst, ◌∙◌, append_assoc}
use Rattle.std.specs.Prelude.{codes, flat_map, ℤ}
use Rattle.std.proofs.Common.{Bool, ◌&&◌, ◌||◌, not, eqb, is_some}
use Rattle.std.proofs.lemmas.Bool.{and_parts, and_from, eqb-true, eq-eqb, not-true, not_from_false, false≢true}
use Rattle.atom_values.specs.Link.{has_edit, has_alternate}
use Rattle.std.proofs.lemmas.List.Elements.{All-head}
use Rattle.atom_values.specs.declared.person.Person.{Person}
use Rattle.atom_values.specs.declared.text.Text.{Text}
use Rattle.atom_values.specs.Entry.{EntryValue, IsWhole, person_limit, category_limit}
use Rattle.atom_values.specs.Escape.{escaped}
use Rattle.atom_values.specs.Stamp.{printed as printed_stamp}
use Rattle.chain_links.specs.Address.{IsAddress, printed}
use Rattle.chain_links.specs.declared.address.Address.{Address}
use Rattle.chain_links.specs.declared.address.Address.TheVariants.{Feed, Archive, Member}
use Rattle.deleted_entries.specs.FeedId.{IsFeedId, member_id}
use Rattle.atom_writer.specs.declared.doc.FeedName.{FeedName}
use Rattle.atom_writer.specs.Parts.{element as element_text, optional_element as optional_element_text, person_text, link_text, category_text}
use Rattle.atom_writer.specs.Entries.{open_attributes, construct as construct_text, optional_construct as optional_construct_text, edit_link, published_text, front_text, back_text, inner_text}
use Rattle.atom_writer.specs.Pieces.{entry_piece, tombstone_piece}
use Rattle.atom_grammar.specs.Parts.{Part, IsFound, IsReadAlone, starts, lacks, content, moment, address, member, both, behind, ended, optional, many, alone}
use Rattle.atom_grammar.specs.EntryParts.{FrontValue, BackValue, EntryPartsValue, edit_in, links_in, details_in, content_in, entry_of}
use Rattle.atom_grammar.specs.Items.{element, date, kind, construct, person, persons, link, category, categories, whole_construct, dates, editing, texts, details, front, back, tombstone, entry}
use Rattle.atom_grammar.proofs.ReadingLemmas.{IsClosed, Starts, Renames, renamed_found, renamed_alone, both_alone, behind_alone, ended_alone}
use Rattle.atom_grammar.proofs.NameLemmas.{member_alone, address_alone}
use Rattle.atom_grammar.proofs.ShapeLemmas.{end_tag, date_alone, optional_date_alone, construct_alone, optional_construct_alone, persons_alone, links_alone, categories_alone, construct_starts, person_starts, category_starts}
use Rattle.atom_grammar.proofs.TextLemmas.{moment_alone, starts_split}

-- a tombstone
abbrev pub tombstone_parts : FeedName → Part (ℕ × ℤ)
tombstone_parts name =
    ended (both (ended (behind (codes "<at:deleted-entry ref=\"") (member name.id)) (codes "\" when=\"")) moment)
    (codes "\"/>\n")

pub tombstone_ends : (name : FeedName) → IsClosed (tombstone_parts name)
unfolding ended both behind member moment
tombstone_ends name rest = (tt, λ _ _. tt)

pub tombstone_renames : (name : FeedName)
    → Renames (tombstone_parts name) (tombstone name) (λ _. Unit {0}) (λ p. record { number = p.0; when = p.1 })
    (λ t. (t.number, t.when))
unfolding tombstone tombstone_piece ended both behind member moment
tombstone_renames name = record {
  is = λ p law _. record { number = law.0; when = law.1 };
  text = λ p _ _. refl;
  was = λ t law. (law.number, law.when);
  keeps = λ t _. tt;
  same = λ t _. refl;
  again = λ t _. refl;
  before = λ rest _. tombstone_ends name rest;
}

pub tombstone_alone : (name : FeedName) → IsFeedId name.id → IsReadAlone (tombstone name)
tombstone_alone name is =
    renamed_alone _ _ _ _ _ (tombstone_renames name)
    (ended_alone _ (codes "\"/>\n")
    (both_alone _ moment
    (ended_alone _ (codes "\" when=\"")
    (behind_alone (codes "<at:deleted-entry ref=\"") _ (member_alone name.id is))) moment_alone))

-- the link for editing, by its address
abbrev pub editing_parts : FeedName → Part Address
editing_parts name = ended (behind (codes "<link rel=\"edit\" href=\"") (address name.base)) (codes "\"/>")

abbrev pub IsMember : Address → Type 0
IsMember Feed = ⊥
IsMember (Archive _) = ⊥
IsMember (Member _) = Unit {0}

abbrev pub member_number : Address → ℕ
member_number Feed = 0
member_number (Archive n) = n
member_number (Member n) = n

pub editing_ends : (name : FeedName) → IsClosed (editing_parts name)
unfolding ended behind address
editing_ends name rest = (codes "/>" ++ rest, refl)

number_is : (a : Address) → IsAddress a → IsMember a → (1 ≤ member_number a) × (member_number a < 2 ^ 32)
number_is Feed is k = absurd k
number_is (Archive n) is k = absurd k
number_is (Member n) is k = is

member_again : (a : Address) → IsMember a → a ≡ Member (member_number a)
member_again Feed k = absurd k
member_again (Archive n) k = absurd k
member_again (Member n) k = refl

pub editing_renames : (name : FeedName)
    → Renames (editing_parts name) (editing name) IsMember member_number (λ n. Member n)
unfolding editing edit_link ended behind address
editing_renames name = record {
  is = λ a law k. number_is a law k;
  text =
      λ a _ k. ap (λ (x : Address). codes "<link rel=\"edit\" href=\"" ++ printed name.base x ++ codes "\"/>")
      (member_again a k);
  was = λ n law. law;
  keeps = λ n _. tt;
  same = λ n _. refl;
  again = λ n _. refl;
  before = λ rest _. editing_ends name rest;
}

pub editing_alone : (name : FeedName) → lacks 34 name.base ≡ true → IsReadAlone (editing name)
editing_alone name h =
    renamed_alone _ _ _ _ _ (editing_renames name)
    (ended_alone _ (codes "\"/>") (behind_alone (codes "<link rel=\"edit\" href=\"") _ (address_alone name.base h)))

-- another address is no member's
pub not_member : (a : Address) → ((n : ℕ) → a ≡ Member n → ⊥) → IsMember a → ⊥
not_member Feed h k = k
not_member (Archive n) h k = k
not_member (Member n) h k = h n refl

pub editing_found : (name : FeedName) (input rest : List ℕ) (a : Address) (n : ℕ)
    → IsFound (editing_parts name) input a rest → a ≡ Member n → IsFound (editing name) input n rest
editing_found name input rest a n f e =
    let M : Address → Type 0 = IsMember in
    let P : ℕ → Type 0 = λ x. IsFound (editing name) input x rest in
    subst P (ap member_number e) (renamed_found _ _ _ _ _ (editing_renames name) _ _ _ f (subst M (sym e) tt))

-- the parts before the authors
pub dates_alone : IsReadAlone dates
dates_alone =
    both_alone _ _ (date_alone (codes "<updated>") (codes "</updated>"))
    (both_alone _ _ (optional_date_alone (codes "<published>") (codes "</published>"))
    (date_alone (codes "<app:edited>") (codes "</app:edited>")))

pub front_closed : (name : FeedName) → IsClosed (front name)
unfolding both optional alone ended construct member behind moment
front_closed name rest = ((((tt, λ _ _. refl), λ _ _. tt), λ _ _. tt), λ _ _. tt)

pub front_counted : (name : FeedName) (input rest : List ℕ) (f : FrontValue) → IsFound (front name) input f rest
    → 1 ≤ f.0
unfolding both ended behind member
front_counted name input rest f found = found.lawful.0.0

pub front_alone : (name : FeedName) → IsFeedId name.id → IsReadAlone (front name)
front_alone name is =
    both_alone _ _ (ended_alone _ (codes "</id>") (behind_alone (codes "<id>") _ (member_alone name.id is)))
    (both_alone _ _ (construct_alone (codes "<title") (codes "</title>") (end_tag (codes "</title>") refl)) dates_alone)

-- the parts after the authors
pub texts_alone : IsReadAlone texts
texts_alone =
    both_alone _ _ (optional_construct_alone (codes "<rights") (codes "</rights>") (end_tag (codes "</rights>") refl))
    (both_alone _ _
    (optional_construct_alone (codes "<summary") (codes "</summary>") (end_tag (codes "</summary>") refl))
    (optional_construct_alone (codes "<content") (codes "</content>") (end_tag (codes "</content>") refl)))

pub details_alone : IsReadAlone details
details_alone = both_alone _ _ links_alone (both_alone _ _ categories_alone texts_alone)

pub back_alone : (name : FeedName) → lacks 34 name.base ≡ true → IsReadAlone (back name)
back_alone name h =
    both_alone _ _
    (persons_alone (codes "<contributor>") (codes "</contributor>") (end_tag (codes "</contributor>") refl))
    (both_alone _ _ (editing_alone name h) details_alone)

-- a part that begins with other bytes
other_starts : {A : Type 0} (bytes start : List ℕ) (part : Part A) → Starts start part
    → ((rest : List ℕ) → starts bytes (start ++ rest) ≡ false) → (v : A) (rest : List ℕ) → part.Is v
    → starts bytes (part.text v ++ rest) ≡ false
other_starts bytes start part begins other v rest is =
    let p = starts_split start (part.text v ++ rest) (begins v rest is) in
    ap (starts bytes) p.1 ∙ other p.0

-- an optional part, or a list, that doesn't begin with the bytes, before what doesn't either
optional_over : {A : Type 0} (bytes start : List ℕ) (part : Part A) → Starts start part
    → ((rest : List ℕ) → starts bytes (start ++ rest) ≡ false) → (o : Option A) (rest : List ℕ)
    → (optional start part).Is o → starts bytes rest ≡ false
    → starts bytes ((optional start part).text o ++ rest) ≡ false
unfolding optional
optional_over bytes start part begins other None rest is h = h
optional_over bytes start part begins other (Some v) rest is h = other_starts bytes start part begins other v rest is

many_over : {A : Type 0} (bytes : List ℕ) (most : ℕ) (start : List ℕ) (part : Part A) → Starts start part
    → ((rest : List ℕ) → starts bytes (start ++ rest) ≡ false) → (vs : List A) (rest : List ℕ)
    → (many most start part).Is vs → starts bytes rest ≡ false
    → starts bytes ((many most start part).text vs ++ rest) ≡ false
unfolding many
many_over bytes most start part begins other [] rest is h = h
many_over bytes most start part begins other (v ∷ vs) rest is h =
    ap (starts bytes) (append_assoc (part.text v) (flat_map part.text vs) rest)
    ∙ other_starts bytes start part begins other v (flat_map part.text vs ++ rest) (All-head part.Is v vs is.1)

construct_over : (bytes start end : List ℕ) → ((rest : List ℕ) → starts bytes (start ++ rest) ≡ false)
    → (o : Option Text) (rest : List ℕ) → (whole_construct start end).Is o → starts bytes rest ≡ false
    → starts bytes ((whole_construct start end).text o ++ rest) ≡ false
construct_over bytes start end other o rest is h =
    optional_over bytes start (construct start end) (construct_starts start end) other o rest is h

-- if a text begins with neither the bytes nor the part's start, the part before it doesn't change that
abbrev Over : {A : Type 0} → List ℕ → Part A → Type 0
Over {A} bytes part = (v : A) (rest : List ℕ) → part.Is v → starts bytes rest ≡ false
    → starts bytes (part.text v ++ rest) ≡ false

abbrev Apart : List ℕ → List ℕ → Type 0
Apart bytes start = (rest : List ℕ) → starts bytes (start ++ rest) ≡ false

both_over : {A B : Type 0} (bytes : List ℕ) (first : Part A) (second : Part B) → Over bytes first → Over bytes second
    → Over bytes (both first second)
unfolding both
both_over bytes first second over_first over_second v rest is h =
    ap (starts bytes) (append_assoc (first.text v.0) (second.text v.1) rest)
    ∙ over_first v.0 (second.text v.1 ++ rest) is.0 (over_second v.1 rest is.1 h)

-- the text constructs
later_over : (bytes : List ℕ) → Apart bytes (codes "<summary") → Apart bytes (codes "<content")
    → Over bytes
    (both (whole_construct (codes "<summary") (codes "</summary>"))
    (whole_construct (codes "<content") (codes "</content>")))
later_over bytes summary content =
    both_over bytes _ _ (construct_over bytes (codes "<summary") (codes "</summary>") summary)
    (construct_over bytes (codes "<content") (codes "</content>") content)

texts_over : (bytes : List ℕ) → Apart bytes (codes "<rights") → Apart bytes (codes "<summary")
    → Apart bytes (codes "<content") → Over bytes texts
texts_over bytes rights summary content =
    both_over bytes _ _ (construct_over bytes (codes "<rights") (codes "</rights>") rights)
    (later_over bytes summary content)

-- no part of the details begins the bytes
pub record Ends (rest : List ℕ) : Type 0 where
  pub no_link : starts (codes "<link") rest ≡ false
  pub no_category : starts (codes "<category") rest ≡ false
  pub no_rights : starts (codes "<rights") rest ≡ false
  pub no_summary : starts (codes "<summary") rest ≡ false
  pub no_content : starts (codes "<content") rest ≡ false

texts_before : (rest : List ℕ) → Ends rest → texts.Before rest
unfolding both optional
texts_before rest ends = (
  (
    ends.no_content,
    λ o is. construct_over (codes "<summary") (codes "<content") (codes "</content>") (λ _. refl) o
        rest is ends.no_summary,
  ),
  λ v is. later_over (codes "<rights") (λ _. refl) (λ _. refl) v rest is ends.no_rights,
)

details_before : (rest : List ℕ) → Ends rest → details.Before rest
unfolding both many
details_before rest ends = (
  (
    texts_before rest ends,
    λ v is. texts_over (codes "<category") (λ _. refl) (λ _. refl) (λ _. refl) v rest is
        ends.no_category,
  ),
  λ v is.
      both_over (codes "<link") categories texts
      (many_over (codes "<link") category_limit (codes "<category") category category_starts (λ _. refl))
      (texts_over (codes "<link") (λ _. refl) (λ _. refl) (λ _. refl)) v rest is ends.no_link,
)

-- the end of an entry
abbrev closing : List ℕ
closing = codes "</entry>\n"

pub back_before : (name : FeedName) (rest : List ℕ) → (back name).Before (closing ++ rest)
unfolding both editing edit_link many
back_before name rest = (
  (
    details_before (closing ++ rest)
        (record { no_link = refl; no_category = refl; no_rights = refl; no_summary = refl; no_content = refl }),
    λ _ _. tt,
  ),
  λ _ _. refl,
)

abbrev pub entry_parts : FeedName → Part EntryPartsValue
entry_parts name =
    behind (codes "<entry>")
    (both (front name) (both (persons (codes "<author>") (codes "</author>")) (ended (back name) closing)))

-- the contributors and the link for editing don't begin as an author does
back_never : (name : FeedName) (b : BackValue) (rest : List ℕ) → (back name).Is b
    → starts (codes "<author>") ((back name).text b ++ rest) ≡ false
unfolding both editing edit_link
back_never name b rest is =
    ap (starts (codes "<author>"))
    (append_assoc ((persons (codes "<contributor>") (codes "</contributor>")).text b.0)
    ((both (editing name) details).text b.1) rest)
    ∙ many_over (codes "<author>") person_limit (codes "<contributor>")
    (person (codes "<contributor>") (codes "</contributor>"))
    (person_starts (codes "<contributor>") (codes "</contributor>") (end_tag (codes "</contributor>") refl))
    (λ _. refl) b.0 ((both (editing name) details).text b.1 ++ rest) is.0 refl

no_author : (name : FeedName) (b : BackValue) (rest : List ℕ) → (back name).Is b
    → (persons (codes "<author>") (codes "</author>")).Before (((back name).text b ++ closing) ++ rest)
unfolding many
no_author name b rest is =
    ap (starts (codes "<author>")) (append_assoc ((back name).text b) closing rest)
    ∙ back_never name b (closing ++ rest) is

pub entry_ends : (name : FeedName) → IsClosed (entry_parts name)
entry_ends name rest = unfold ended both behind in
    ((back_before name rest, λ b is. no_author name b rest is), λ _ _. front_closed name _)

-- Texts that are put together in another order.
last : (a b c d : List ℕ) → ((a ++ b) ++ c) ++ d ≡ a ++ (b ++ (c ++ d))
last a b c d = simp append_assoc

flat_map_same : {A : Type 0} (f g : A → List ℕ) → ((x : A) → f x ≡ g x) → (xs : List A) → flat_map f xs ≡ flat_map g xs
flat_map_same f g same [] = refl
flat_map_same f g same (x ∷ xs) = let h = same x in let t = flat_map_same f g same xs in λ i. h i ++ t i

element_same : (tag start end : List ℕ) → codes "<" ++ tag ++ codes ">" ≡ start
    → codes "</" ++ (tag ++ codes ">") ≡ end → (v : List ℕ) → element_text tag v ≡ (element start end).text v
unfolding element_text alone ended behind content
element_same tag start end s n v =
    last (codes "<" ++ tag ++ codes ">" ++ escaped false v) (codes "</") tag (codes ">")
    ∙ (λ i. s i ++ escaped false v ++ n i)

optional_element_same : (tag start end : List ℕ) → codes "<" ++ tag ++ codes ">" ≡ start
    → codes "</" ++ (tag ++ codes ">") ≡ end → (o : Option (List ℕ))
    → optional_element_text tag o ≡ (optional start (element start end)).text o
unfolding optional_element_text optional
optional_element_same tag start end s n None = refl
optional_element_same tag start end s n (Some v) = element_same tag start end s n v

person_same : (tag start end : List ℕ) → codes "<" ++ tag ++ codes ">" ≡ start
    → codes "</" ++ (tag ++ codes ">") ≡ end → (p : Person) → person_text tag p ≡ (person start end).text p
unfolding person_text person ended both behind
person_same tag start end s n p =
    let name = element_same (codes "name") (codes "<name>") (codes "</name>") refl refl p.name in
    let uri = optional_element_same (codes "uri") (codes "<uri>") (codes "</uri>") refl refl p.uri in
    let email = optional_element_same (codes "email") (codes "<email>") (codes "</email>") refl refl p.email in
    last
    (codes "<" ++ tag ++ codes ">" ++ element_text (codes "name") p.name
    ++ optional_element_text (codes "uri") p.uri ++ optional_element_text (codes "email") p.email) (codes "</")
    tag (codes ">")
    ∙ (λ i. s i ++ name i ++ uri i ++ email i ++ n i)

persons_same : (tag start end : List ℕ) → codes "<" ++ tag ++ codes ">" ≡ start
    → codes "</" ++ (tag ++ codes ">") ≡ end → (ps : List Person)
    → flat_map (person_text tag) ps ≡ (persons start end).text ps
unfolding many
persons_same tag start end s n ps = flat_map_same _ _ (person_same tag start end s n) ps

construct_same : (tag start end : List ℕ) → codes "<" ++ tag ≡ start → codes "</" ++ (tag ++ codes ">") ≡ end
    → (t : Text) → construct_text tag t ≡ (construct start end).text t
unfolding construct_text construct ended both behind kind content
construct_same tag start end s n t =
    last (codes "<" ++ tag ++ open_attributes t.kind ++ codes ">" ++ escaped false t.value) (codes "</") tag (codes ">")
    ∙ (λ i. s i ++ open_attributes t.kind ++ codes ">" ++ escaped false t.value ++ n i)

optional_construct_same : (tag start end : List ℕ) → codes "<" ++ tag ≡ start → codes "</" ++ (tag ++ codes ">") ≡ end
    → (o : Option Text) → optional_construct_text tag o ≡ (whole_construct start end).text o
unfolding optional_construct_text optional
optional_construct_same tag start end s n None = refl
optional_construct_same tag start end s n (Some t) = construct_same tag start end s n t

published_same : (o : Option ℤ)
    → published_text o ≡ (optional (codes "<published>") (date (codes "<published>") (codes "</published>"))).text o
unfolding published_text optional alone ended behind moment
published_same None = refl
published_same (Some z) = refl

abbrev pub front_of : EntryValue → FrontValue
front_of e = (e.number, (e.title, (e.updated, (e.published, e.edited))))

abbrev pub back_of : EntryValue → BackValue
back_of e = (e.contributors, (e.number, (e.links, (e.categories, (e.rights, (e.summary, e.content))))))

abbrev pub parts_of : EntryValue → EntryPartsValue
parts_of e = (front_of e, (e.authors, back_of e))

front_order : (a b c t d u e p f g h : List ℕ)
    → a ++ b ++ c ++ t ++ d ++ u ++ e ++ p ++ f ++ g ++ h ≡ ((a ++ b) ++ c)
    ++ (t ++ (((d ++ u) ++ e) ++ (p ++ ((f ++ g) ++ h))))
front_order a b c t d u e p f g h = simp append_assoc

front_same : (name : FeedName) (e : EntryValue) → front_text name e ≡ (front name).text (front_of e)
unfolding front_text both ended behind member alone moment
front_same name e =
    let t = construct_same (codes "title") (codes "<title") (codes "</title>") refl refl e.title in
    let p = published_same e.published in
    (λ i. codes "<id>" ++ member_id name.id e.number ++ codes "</id>" ++ t i ++ codes "<updated>"
    ++ printed_stamp e.updated
    ++ codes "</updated>" ++ p i ++ codes "<app:edited>" ++ printed_stamp e.edited ++ codes "</app:edited>")
    ∙ front_order (codes "<id>") (member_id name.id e.number) (codes "</id>")
    ((construct (codes "<title") (codes "</title>")).text e.title)
    (codes "<updated>") (printed_stamp e.updated) (codes "</updated>")
    ((optional (codes "<published>") (date (codes "<published>") (codes "</published>"))).text e.published)
    (codes "<app:edited>") (printed_stamp e.edited) (codes "</app:edited>")

back_order : (a b c d e f g : List ℕ) → a ++ b ++ c ++ d ++ e ++ f ++ g ≡ a ++ (b ++ (c ++ (d ++ (e ++ (f ++ g)))))
back_order a b c d e f g = simp append_assoc

back_same : (name : FeedName) (e : EntryValue) → back_text name e ≡ (back name).text (back_of e)
unfolding back_text both many editing link category
back_same name e =
    let c =
    persons_same (codes "contributor") (codes "<contributor>") (codes "</contributor>") refl refl e.contributors
    in
    let r = optional_construct_same (codes "rights") (codes "<rights") (codes "</rights>") refl refl e.rights in
    let s = optional_construct_same (codes "summary") (codes "<summary") (codes "</summary>") refl refl e.summary in
    let t = optional_construct_same (codes "content") (codes "<content") (codes "</content>") refl refl e.content in
    (λ i. c i ++ edit_link name e.number ++ flat_map link_text e.links ++ flat_map category_text e.categories ++ r i
    ++ s i ++ t i)
    ∙ back_order ((persons (codes "<contributor>") (codes "</contributor>")).text e.contributors)
    (edit_link name e.number)
    (flat_map link_text e.links) (flat_map category_text e.categories)
    ((whole_construct (codes "<rights") (codes "</rights>")).text e.rights)
    ((whole_construct (codes "<summary") (codes "</summary>")).text e.summary)
    ((whole_construct (codes "<content") (codes "</content>")).text e.content)

entry_order : (o f a b c : List ℕ) → (o ++ (f ++ a ++ b)) ++ c ≡ o ++ (f ++ (a ++ (b ++ c)))
entry_order o f a b c = simp append_assoc

entry_same : (name : FeedName) (e : EntryValue) → entry_piece name e ≡ (entry_parts name).text (parts_of e)
unfolding entry_piece inner_text ended both behind
entry_same name e =
    let f = front_same name e in
    let a = persons_same (codes "author") (codes "<author>") (codes "</author>") refl refl e.authors in
    let b = back_same name e in
    (λ i. codes "<entry>" ++ (f i ++ a i ++ b i) ++ closing)
    ∙ entry_order (codes "<entry>") ((front name).text (front_of e))
    ((persons (codes "<author>") (codes "</author>")).text e.authors)
    ((back name).text (back_of e)) closing

-- the rule that the parts of an entry keep together
pub record Agrees (p : EntryPartsValue) : Type 0 where
  pub edit : p.1.1.1.0 ≡ p.0.0
  pub whole : IsWhole p.0.0 p.1.1.1.1.0 p.1.1.1.1.1.1.1.1

-- the reader's test of that rule
abbrev pub agreement : EntryPartsValue → Bool
agreement p =
    eqb (edit_in p) p.0.0 && not (has_edit (links_in p)) && (is_some (content_in p) || has_alternate (links_in p))

pub agrees_true : (p : EntryPartsValue) → 1 ≤ p.0.0 → agreement p ≡ true → Agrees p
agrees_true p counted h =
    let a =
    and_parts (eqb (edit_in p) p.0.0 && not (has_edit (links_in p)))
    (is_some (content_in p) || has_alternate (links_in p)) h in
    let b = and_parts (eqb (edit_in p) p.0.0) (not (has_edit (links_in p))) a.0 in
    record { edit = eqb-true _ _ b.0; whole = record { counted = counted; no_edit_link = not-true _ b.1; shown = a.1 } }

pub agrees_false : (p : EntryPartsValue) → agreement p ≡ false → Agrees p → ⊥
agrees_false p h a =
    false≢true (sym h
    ∙ and_from _ _ (and_from _ _ (eq-eqb _ _ a.edit) (not_from_false _ a.whole.no_edit_link)) a.whole.shown)

-- the parts whose link for editing names this number
abbrev with_edit : EntryPartsValue → ℕ → EntryPartsValue
with_edit p number = (p.0, (p.1.0, (p.1.1.0, (number, details_in p))))

pub entry_renames : (name : FeedName) → Renames (entry_parts name) (entry name) Agrees entry_of parts_of
unfolding entry ended both behind member construct alone moment optional many editing link category person
entry_renames name = record {
  is = λ p law k.
      let dates = law.0.1.1 in
      let details = law.1.1.1.1 in
      record {
        whole = k.whole;
        number = law.0.0.1;
        edited = dates.1.1;
        title = law.0.1.0;
        updated = dates.0;
        published = dates.1.0;
        authors = law.1.0;
        contributors = law.1.1.0;
        links = details.0;
        categories = details.1.0;
        rights = details.1.1.0;
        summary = details.1.1.1.0;
        content = details.1.1.1.1;
      };
  text = λ p law k. ap (λ (n : ℕ). (entry_parts name).text (with_edit p n)) k.edit ∙ sym (entry_same name (entry_of p));
  was = λ e law. (
    ((law.whole.counted, law.number), (law.title, (law.updated, (law.published, law.edited)))),
    (
      law.authors,
      (
        law.contributors,
        ((law.whole.counted, law.number), (law.links, (law.categories, (law.rights, (law.summary, law.content))))),
      ),
    ),
  );
  keeps = λ e law. record { edit = refl; whole = law.whole };
  same = λ e _. entry_same name e;
  again = λ e _. refl;
  before = λ rest _. entry_ends name rest;
}

pub entry_alone : (name : FeedName) → IsFeedId name.id → lacks 34 name.base ≡ true → IsReadAlone (entry name)
entry_alone name is h =
    renamed_alone _ _ _ _ _ (entry_renames name)
    (behind_alone (codes "<entry>") _ (both_alone _ _ (front_alone name is)
    (both_alone _ _ (persons_alone (codes "<author>") (codes "</author>") (end_tag (codes "</author>") refl))
    (ended_alone _ closing (back_alone name h)))))
