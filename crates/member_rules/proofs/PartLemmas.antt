-- The fields of persons, links and categories.
use Rattle.std.proofs.Common.{ℕ, List, Option, refl, append_assoc}
use Rattle.atom_values.specs.declared.category.Category.{Category}
use Rattle.atom_values.specs.declared.link.Link.{Link}
use Rattle.atom_values.specs.declared.person.Person.{Person}
use Rattle.member_rules.specs.Fields.{Field, HasOneValue, text, optional, person, link, category}
use Rattle.member_rules.proofs.FieldLemmas.{pair, pair_one, Continues, Renames, begun, renamed_one, text_one, optional_one}

pub option_one : HasOneValue (optional text)
option_one = optional_one text text_one

abbrev pub two_options : Field (Option (List ℕ) × Option (List ℕ))
two_options = pair (optional text) (optional text)

abbrev pub person_pairs : Field (List ℕ × (Option (List ℕ) × Option (List ℕ)))
person_pairs = pair text two_options

abbrev pub person_of : List ℕ × (Option (List ℕ) × Option (List ℕ)) → Person
person_of p = record { name = p.0; uri = p.1.0; email = p.1.1 }

abbrev pub person_parts : Person → List ℕ × (Option (List ℕ) × Option (List ℕ))
person_parts p = (p.name, (p.uri, p.email))

person_renames : Renames person_pairs person person_of person_parts
unfolding pair text optional person
person_renames = record {
  is = λ b is. record { name = is.0; uri = is.1.0; email = is.1.1 };
  bytes = λ b. simp append_assoc;
  was = λ a is. (is.name, (is.uri, is.email));
  again = λ a. refl;
}

pub person_begun : (input : List ℕ) → Continues person input person_pairs input person_of
person_begun input = begun person_pairs person person_of person_parts person_renames input

pub person_one : HasOneValue person
person_one =
    renamed_one person_pairs person person_of person_parts person_renames
    (pair_one text two_options text_one (pair_one (optional text) (optional text) option_one option_one))

abbrev pub category_of : List ℕ × (Option (List ℕ) × Option (List ℕ)) → Category
category_of p = record { term = p.0; scheme = p.1.0; label = p.1.1 }

abbrev pub category_parts : Category → List ℕ × (Option (List ℕ) × Option (List ℕ))
category_parts p = (p.term, (p.scheme, p.label))

category_renames : Renames person_pairs category category_of category_parts
unfolding pair text optional category
category_renames = record {
  is = λ b is. record { term = is.0; scheme = is.1.0; label = is.1.1 };
  bytes = λ b. simp append_assoc;
  was = λ a is. (is.term, (is.scheme, is.label));
  again = λ a. refl;
}

pub category_begun : (input : List ℕ) → Continues category input person_pairs input category_of
category_begun input = begun person_pairs category category_of category_parts category_renames input

pub category_one : HasOneValue category
category_one =
    renamed_one person_pairs category category_of category_parts category_renames
    (pair_one text two_options text_one (pair_one (optional text) (optional text) option_one option_one))

abbrev pub LinkParts : Type 0
LinkParts =
    List ℕ × (List ℕ × (Option (List ℕ) × (Option (List ℕ) × (Option (List ℕ) × Option (List ℕ)))))

abbrev pub link_pairs : Field LinkParts
link_pairs = pair text (pair text (pair (optional text) (pair (optional text) two_options)))

abbrev pub link_of : LinkParts → Link
link_of p = record {
  href = p.0;
  rel = p.1.0;
  media = p.1.1.0;
  hreflang = p.1.1.1.0;
  title = p.1.1.1.1.0;
  length = p.1.1.1.1.1;
}

abbrev pub link_parts : Link → LinkParts
link_parts l = (l.href, (l.rel, (l.media, (l.hreflang, (l.title, l.length)))))

link_renames : Renames link_pairs link link_of link_parts
unfolding pair text optional link
link_renames = record {
  is = λ b is. record {
    href = is.0;
    rel = is.1.0;
    media = is.1.1.0;
    hreflang = is.1.1.1.0;
    title = is.1.1.1.1.0;
    length = is.1.1.1.1.1;
  };
  bytes = λ b. simp append_assoc;
  was = λ a is. (is.href, (is.rel, (is.media, (is.hreflang, (is.title, is.length)))));
  again = λ a. refl;
}

pub link_begun : (input : List ℕ) → Continues link input link_pairs input link_of
link_begun input = begun link_pairs link link_of link_parts link_renames input

pub link_one : HasOneValue link
link_one =
    renamed_one link_pairs link link_of link_parts link_renames
    (pair_one text (pair text (pair (optional text) (pair (optional text) two_options))) text_one
    (pair_one text (pair (optional text) (pair (optional text) two_options)) text_one
    (pair_one (optional text) (pair (optional text) two_options) option_one
    (pair_one (optional text) two_options option_one
    (pair_one (optional text) (optional text) option_one option_one)))))
