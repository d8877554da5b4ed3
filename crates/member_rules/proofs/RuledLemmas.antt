-- Fields with more rules than others of the same bytes.
use Rattle.std.proofs.Common.{◌≡◌, ℕ, ◌<◌, ℤ, ◌+◌, List, ◌++◌, length, length-append, take, drop, refl, sym, ◌∙◌, arith, subst, ap}
use Rattle.std.specs.Prelude.{Result, Ok, Err}
use Rattle.std.specs.Result.{IsErrAnd}
use Rattle.atom_values.specs.Entry.{link_limit}
use Rattle.atom_values.specs.declared.link.Link.{Link}
use Rattle.chain_links.specs.Base.{IsBase}
use Rattle.chain_links.specs.declared.base.BaseFault.{BaseFault}
use Rattle.chain_links.specs.declared.base.BaseFault.TheVariants.{BadBase, NoMemory as NoRoom}
use Rattle.deleted_entries.specs.FeedId.{IsFeedId}
use Rattle.atom_writer.specs.Reading.{BeginsWith}
use Rattle.member_rules.specs.EntryFields.{linked, contents}
use Rattle.member_rules.specs.FieldFaults.{IsOfBase}
use Rattle.member_rules.specs.Fields.{Field, HasOneValue, IsAbsent, IsFault, ReadsAs, byte, number, size, bytes_of_text, counted, stamp, text, construct, optional, listed, link}
use Rattle.member_rules.specs.HeadFields.{format, base, feed_id, title, window, capacity, created}
use Rattle.member_rules.specs.RemovalFields.{stamp_from}
use Rattle.member_rules.specs.declared.codec.fault.FieldFault.{FieldFault}
use Rattle.member_rules.proofs.FieldLemmas.{Narrows, narrow_one, narrow_broken, counted_narrows, byte_one, number_one, size_one, bytes_of_text_one, stamp_one, text_one, construct_one, optional_one, listed_one, one_value, same_size, cut}
use Rattle.member_rules.proofs.PartLemmas.{link_one}

pub counted_one : HasOneValue counted
counted_one = narrow_one number counted counted_narrows number_one

abbrev pub links : Field (List Link)
links = listed link_limit link

pub links_one : HasOneValue links
links_one = listed_one link_limit link link_one

pub linked_narrows : Narrows links linked
unfolding linked
linked_narrows = record { is = λ v is. is.0; bytes = λ v. refl }

pub linked_one : HasOneValue linked
linked_one = narrow_one links linked linked_narrows links_one

pub construct_option_one : HasOneValue (optional construct)
construct_option_one = optional_one construct construct_one

pub contents_narrows : (of : List Link) → Narrows (optional construct) (contents of)
unfolding contents
contents_narrows of = record { is = λ v is. is.0; bytes = λ v. refl }

pub contents_one : (of : List Link) → HasOneValue (contents of)
contents_one of = narrow_one (optional construct) (contents of) (contents_narrows of) construct_option_one

pub from_narrows : (moment : ℤ) → Narrows stamp (stamp_from moment)
unfolding stamp stamp_from
from_narrows moment = record { is = λ v is. is.0; bytes = λ v. refl }

pub from_one : (moment : ℤ) → HasOneValue (stamp_from moment)
from_one moment = narrow_one stamp (stamp_from moment) (from_narrows moment) stamp_one

pub format_narrows : Narrows byte format
unfolding byte format
format_narrows = record { is = λ v is. omega (arith, is.1); bytes = λ v. refl }

pub format_one : HasOneValue format
format_one = narrow_one byte format format_narrows byte_one

pub title_narrows : Narrows text title
unfolding text title
title_narrows = record { is = λ v is. is.0; bytes = λ v. refl }

pub title_one : HasOneValue title
title_one = narrow_one text title title_narrows text_one

pub window_narrows : Narrows number window
unfolding number window
window_narrows = record { is = λ v is. omega (arith, is.1); bytes = λ v. refl }

pub window_one : HasOneValue window
window_one = narrow_one number window window_narrows number_one

pub capacity_narrows : Narrows size capacity
unfolding size capacity
capacity_narrows = record { is = λ v is. omega (arith, is.1); bytes = λ v. refl }

pub capacity_one : HasOneValue capacity
capacity_one = narrow_one size capacity capacity_narrows size_one

pub created_narrows : Narrows stamp created
unfolding stamp created
created_narrows = record { is = λ v is. is.0; bytes = λ v. refl }

pub created_one : HasOneValue created
created_one = narrow_one stamp created created_narrows stamp_one

pub base_narrows : Narrows bytes_of_text base
unfolding bytes_of_text base
base_narrows = record { is = λ v is. omega (arith, is.short); bytes = λ v. refl }

pub base_one : HasOneValue base
base_one = narrow_one bytes_of_text base base_narrows bytes_of_text_one

pub feed_id_one : HasOneValue feed_id
unfolding feed_id
feed_id_one = one_value feed_id (λ v w rest left is_v is_w e.
    same_size v w rest left (is_v.size ∙ sym is_w.size) e)

-- the bytes are no base address, or memory ran out
pub base_refused : {C : Type 0} (view : C → List ℕ) (input middle bytes : List ℕ) (fault : BaseFault)
    (r : Result C FieldFault) → BeginsWith bytes_of_text.Is bytes_of_text.bytes input bytes middle
    → (fault ≡ BadBase → ¬ IsBase bytes) → IsErrAnd r (λ s. IsOfBase fault s) → ReadsAs view base input r input
unfolding base
base_refused view input middle bytes fault (Ok x) found is same = absurd same
base_refused view input middle bytes BadBase (Err x) found is same =
    let P : FieldFault → Type 0 = λ k. IsFault base input k input in
    subst P (sym same) (
      refl,
      narrow_broken bytes_of_text base base_narrows bytes_of_text_one input middle bytes found
          (is refl),
    )
base_refused view input middle bytes NoRoom (Err x) found is same =
    let P : FieldFault → Type 0 = λ k. IsFault base input k input in
    subst P (sym same) tt

pub id_short : (input : List ℕ) → length input < 16 → IsAbsent feed_id input
unfolding feed_id
id_short input short other left is e = omega (arith, short, ap length e, length-append other left, is.size)

-- the sixteen bytes are no identifier
pub id_refused : (input front rest : List ℕ) → front ≡ take 16 input → rest ≡ drop 16 input
    → length rest + 16 ≡ length input → ¬ IsFeedId front → IsAbsent feed_id input
unfolding feed_id
id_refused input front rest f r size broken other left is e =
    let split : input ≡ front ++ rest = cut 16 input front rest f r in
    let p =
    same_size front other rest left (omega (arith, ap length split, length-append front rest, is.size)) (sym split ∙ e)
    in
    broken (subst IsFeedId (sym p.0) is)

pub id_found : (input front rest id : List ℕ) → front ≡ take 16 input → rest ≡ drop 16 input → id ≡ front
    → IsFeedId front → BeginsWith feed_id.Is feed_id.bytes input id rest
unfolding feed_id
id_found input front rest id f r same is =
    let split : input ≡ front ++ rest = cut 16 input front rest f r in
    record { lawful = subst IsFeedId (sym same) is; split = split ∙ ap (λ z. z ++ rest) (sym same) }
