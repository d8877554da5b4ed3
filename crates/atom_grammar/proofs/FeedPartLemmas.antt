-- The parts that the pieces of a document's head are put together from.
use Rattle.std.proofs.Common.{◌≡◌, ◌≢◌, ℕ, List, ◌++◌, refl, sym, ap, ◌∙◌, subst, codes, append_assoc, decimal, length}
use Rattle.std.proofs.lemmas.List.{append_cancel_left}
use Rattle.chain_links.specs.Address.{IsAddress, printed}
use Rattle.chain_links.specs.declared.address.Address.{Address}
use Rattle.chain_links.specs.declared.address.Address.TheVariants.{Archive}
use Rattle.chain_links.specs.declared.place.Span.{Span}
use Rattle.deleted_entries.specs.FeedId.{feed_text}
use Rattle.deleted_entries.proofs.IdLemmas.{length-by_index}
use Rattle.atom_writer.specs.Pieces.{id_piece, link_piece, span_piece}
use Rattle.atom_grammar.specs.declared.opening.Own.{Own}
use Rattle.atom_grammar.specs.FeedParts.{at_base, uuid, feed_id, own_address, own, own_piece, feed_link, link_to, prev_link, prev_piece, span}
use Rattle.atom_grammar.specs.Parts.{Part, IsFound, IsAbsent, literal, number, address, behind, both, ended}
use Rattle.atom_grammar.proofs.ReadingLemmas.{Renames}

abbrev pub Always : {A : Type 0} → A → Type 0
Always _ = Unit {0}

abbrev pub id_parts : Part (List ℕ)
id_parts = ended (behind (codes "<id>urn:uuid:") uuid) (codes "</id>\n")

pub id_renames : Renames id_parts feed_id Always (λ v. v) (λ v. v)
unfolding ended behind id_piece
id_renames = record {
  is = λ v is _. is;
  text = λ v is _. refl;
  was = λ v is. is;
  keeps = λ v is. tt;
  same = λ v is. refl;
  again = λ v is. refl;
  before = λ rest b. tt;
}

abbrev pub own_parts : Part Own
own_parts = ended (behind (codes "<link rel=\"self\" href=\"") own_address) (codes "\"/>\n")

pub own_renames : Renames own_parts own Always (λ v. v) (λ v. v)
unfolding ended behind own_piece link_piece
own_renames = record {
  is = λ v is _. is;
  text = λ v is _. refl;
  was = λ v is. is;
  keeps = λ v is. tt;
  same = λ v is. refl;
  again = λ v is. refl;
  before = λ rest b. (codes "/>\n" ++ rest, refl);
}

abbrev pub link_parts : List ℕ → List ℕ → Part Address
link_parts rel base =
    ended (behind (codes "<link rel=\"") (behind rel (behind (codes "\" href=\"") (address base)))) (codes "\"/>\n")

link_text : (rel base : List ℕ) (v : Address)
    → codes "<link rel=\"" ++ (rel ++ (codes "\" href=\"" ++ printed base v)) ++ codes "\"/>\n"
    ≡ link_piece rel (at_base base) v
unfolding link_piece
link_text rel base v =
    ap
    (λ z. z ++ codes "\"/>\n") (sym (append_assoc (codes "<link rel=\"") rel (codes "\" href=\"" ++ printed base v))
    ∙ sym (append_assoc (codes "<link rel=\"" ++ rel) (codes "\" href=\"") (printed base v)))

pub link_renames : (rel base : List ℕ) → Renames (link_parts rel base) (feed_link rel base) Always (λ v. v) (λ v. v)
unfolding ended behind address
link_renames rel base = record {
  is = λ v is _. is;
  text = λ v is _. link_text rel base v;
  was = λ v is. is;
  keeps = λ v is. tt;
  same = λ v is. sym (link_text rel base v);
  again = λ v is. refl;
  before = λ rest b. (codes "/>\n" ++ rest, refl);
}

abbrev pub span_parts : Part (ℕ × ℕ)
span_parts =
    ended (both (behind (codes "<sp:span first=\"") number) (behind (codes "\" last=\"") number)) (codes "\"/>\n")

abbrev span_at : ℕ × ℕ → Span
span_at p = record { first = p.0; last = p.1 }

abbrev ends_of : Span → ℕ × ℕ
ends_of s = (s.first, s.last)

span_text : (p : ℕ × ℕ)
    → (codes "<sp:span first=\"" ++ decimal p.0) ++ (codes "\" last=\"" ++ decimal p.1) ++ codes "\"/>\n"
    ≡ span_piece (span_at p)
unfolding span_piece
span_text p =
    ap
    (λ z. z
    ++ codes
    "\"/>\n") (sym (append_assoc (codes "<sp:span first=\"" ++ decimal p.0) (codes "\" last=\"") (decimal p.1)))

pub span_renames : Renames span_parts span Always span_at ends_of
unfolding ended behind both number
span_renames = record {
  is = λ p is _. record { first = is.0; last = is.1 };
  text = λ p is _. span_text p;
  was = λ s is. (is.first, is.last);
  keeps = λ s is. tt;
  same = λ s is. sym (span_text (ends_of s));
  again = λ s is. refl;
  before =
      λ rest b.
      ((codes "/>\n" ++ rest, refl), λ v is. (codes " last=\"" ++ decimal v ++ (codes "\"/>\n" ++ rest), refl));
}

-- a UUID has 36 bytes
pub uuid_length : (id : List ℕ) → length (feed_text id) ≡ 36
uuid_length id = length-by_index 36 _

-- the link to one document
pub to_found : (rel base input : List ℕ) (a to : Address) (rest : List ℕ) → a ≡ to
    → IsFound (feed_link rel base) input a rest → IsFound (link_to rel base to) input tt rest
unfolding literal
to_found rel base input a to rest same f = record {
  lawful = tt;
  split = f.split ∙ ap (λ z. link_piece rel (at_base base) z ++ rest) same;
  only =
      λ other left is before e. (
        refl,
        append_cancel_left (link_piece rel (at_base base) to) rest left
            (ap (λ z. link_piece rel (at_base base) z ++ rest) (sym same) ∙ sym f.split ∙ e),
      );
}

pub to_absent : (rel base input : List ℕ) (to : Address) → IsAddress to → IsAbsent (feed_link rel base) input
    → IsAbsent (link_to rel base to) input
unfolding literal
to_absent rel base input to is none other left _ _ e = none to left is tt e

pub to_other : (rel base input : List ℕ) (a to : Address) (rest : List ℕ) → IsAddress to → a ≢ to
    → IsFound (feed_link rel base) input a rest → IsAbsent (link_to rel base to) input
unfolding literal
to_other rel base input a to rest is differ f other left _ _ e = differ (f.only to left is tt e).0

pub prev_found : (base input : List ℕ) (a : Address) (n : ℕ) (rest : List ℕ) → a ≡ Archive n
    → IsFound (feed_link (codes "prev-archive") base) input a rest → IsFound (prev_link base) input n rest
unfolding prev_piece
prev_found base input a n rest same f = record {
  lawful = subst (λ z. IsAddress z) same f.lawful;
  split = f.split ∙ ap (λ z. link_piece (codes "prev-archive") (at_base base) z ++ rest) same;
  only = λ other left is before e.
      let p = f.only (Archive other) left is tt e in
      let both : Archive n ≡ Archive other = sym same ∙ p.0 in
      let numbers : n ≡ other = cc in
      (numbers, p.1);
}

pub prev_absent : (base input : List ℕ) → IsAbsent (feed_link (codes "prev-archive") base) input
    → IsAbsent (prev_link base) input
unfolding prev_piece
prev_absent base input none other left is before e = none (Archive other) left is tt e

pub prev_other : (base input : List ℕ) (a : Address) (rest : List ℕ) → ((n : ℕ) → a ≢ Archive n)
    → IsFound (feed_link (codes "prev-archive") base) input a rest → IsAbsent (prev_link base) input
unfolding prev_piece
prev_other base input a rest differ f other left is before e = differ other (f.only (Archive other) left is tt e).0
