-- Identifiers, addresses and numbers: each is read in one way.
use Rattle.std.proofs.Common.{◌≡◌, ◌≢◌, ◌↔◌, ℕ, ◌+◌, ◌<◌, ◌≤◌, ◌^◌, Bool, true, false, not, eqb, List, [], ◌∷◌, ◌++◌, length, take, drop, Option, Some, None, IfSome, refl, sym, ap, subst, ◌∙◌, append_assoc, length-append, decimal, arith, rules, All}
use Rattle.std.specs.Prelude.{codes, flat_map, Result, IsTrue}
use Rattle.std.specs.Option.{ok_or}
use Rattle.std.specs.Str.{all_ascii_digits}
use Rattle.std.specs.Char.{is_ascii_digit}
use Rattle.std.proofs.lemmas.Bool.{and_from, and_parts, ne_eqb, not_from_false}
use Rattle.std.proofs.lemmas.List.{take_at, drop_at, take-append-drop}
use Rattle.std.proofs.lemmas.List.Elements.{All-head, All-tail}
use Rattle.std.proofs.lemmas.Str.Parse.{IsNumeralModel, numerals_by_fold, tells_all_ascii_digits}
use Rattle.std.proofs.lemmas.Fmt.{digits_decimal, decimal_injective}
use Rattle.chain_links.specs.Base.{IsBase, IsPort, IsWord, AreSegments, is_label_char, is_segment_char, host_text, port_text, path_text}
use Rattle.chain_links.specs.Address.{IsAddress, printed, suffix_text}
use Rattle.chain_links.specs.declared.address.Address.{Address}
use Rattle.chain_links.specs.declared.address.Address.TheVariants.{Feed, Archive, Member}
use Rattle.chain_links.proofs.AddressLemmas.{printed-is, same_address}
use Rattle.chain_links.proofs.BaseLemmas.{spelling}
use Rattle.chain_links.proofs.NumberLemmas.{read_on}
use Rattle.deleted_entries.specs.FeedId.{IsFeedId, IsMemberId, member_id}
use Rattle.deleted_entries.proofs.IdLemmas.{length-by_index, one_number}
use Rattle.atom_grammar.specs.declared.part_fault.PartFault.{PartFault}
use Rattle.atom_grammar.specs.declared.part_fault.PartFault.TheVariants.{Mismatch}
use Rattle.atom_grammar.specs.Parts.{IsFound, IsAbsent, IsReadAlone, Reads, starts, lacks, IsCutAt, number, address, member}
use Rattle.atom_grammar.proofs.ReadingLemmas.{found, starts_append}
use Rattle.atom_grammar.proofs.TextLemmas.{lacks_append, cut_same, no_cut}

length-member_id : (feed : List ℕ) (n : ℕ) → length (member_id feed n) ≡ 45
unfolding member_id
length-member_id feed n = length-append (codes "urn:uuid:") _ ∙ ap (λ k. 9 + k) (length-by_index 36 _)

pub member_alone : (feed : List ℕ) → IsFeedId feed → IsReadAlone (member feed)
unfolding member
member_alone feed is v w rest left is_v is_w _ _ e =
    let a = length-member_id feed v in
    let b = length-member_id feed w in
    let texts : member_id feed v ≡ member_id feed w = sym (take_at (member_id feed v) rest 45 a) ∙ ap (take 45) e
    ∙ take_at (member_id feed w) left 45 b in (
      sym (one_number feed v w is is_v.1 is_w.1 texts),
      sym (drop_at (member_id feed v) rest 45 a) ∙ ap (drop 45) e
          ∙ drop_at (member_id feed w) left 45 b,
    )

pub member_counted : (feed input rest : List ℕ) (n : ℕ) → IsFound (member feed) input n rest → 1 ≤ n
unfolding member
member_counted feed input rest n f = f.lawful.0

-- too few bytes are no identifier
pub member_short : (feed input : List ℕ) → length input < 45 → IsAbsent (member feed) input
unfolding member
member_short feed input short n left is _ e =
    omega (arith, ap length e, length-append (member_id feed n) left, length-member_id feed n)

member_by : (feed input : List ℕ) (r : Option ℕ) → ((n : ℕ) → (r ≡ Some n) ↔ IsMemberId feed n (take 45 input))
    → Reads (member feed) input (ok_or r Mismatch) (drop 45 input)
unfolding member
member_by feed input (Some n) exact =
    let is = (exact n).0 refl in
    record {
      lawful = (is.counted, is.below);
      split = sym (take-append-drop 45 input) ∙ ap (λ x. x ++ drop 45 input) is.text;
      only = λ other left law _ e.
          let size = length-member_id feed other in
          let h : Some n ≡ Some other =
          (exact other).1 record {
            counted = law.0;
            below = law.1;
            text =
                ap (take 45) e ∙ take_at (member_id feed other) left 45 size;
          } in
          let g : n ≡ other = cc in
          (g, ap (drop 45) e ∙ drop_at (member_id feed other) left 45 size);
    }
member_by feed input None exact = λ other left law _ e.
    let size = length-member_id feed other in
    let h : None ≡ Some other =
    (exact other).1 record {
      counted = law.0;
      below = law.1;
      text =
          ap (take 45) e ∙ take_at (member_id feed other) left 45 size;
    } in
    cc

pub member_read : (feed input id rest : List ℕ) (r : Option ℕ) (s : Result ℕ PartFault) → s ≡ ok_or r Mismatch
    → id ≡ take 45 input → rest ≡ drop 45 input → ((n : ℕ) → (r ≡ Some n) ↔ IsMemberId feed n id)
    → Reads (member feed) input s rest
member_read feed input id rest r s is front back exact =
    let P : List ℕ → Type 0 = λ x. (n : ℕ) → (r ≡ Some n) ↔ IsMemberId feed n x in
    let Q : Result ℕ PartFault → Type 0 = λ x. Reads (member feed) input x (drop 45 input) in
    let R : List ℕ → Type 0 = λ x. Reads (member feed) input s x in
    subst R (sym back) (subst Q (sym is) (member_by feed input r (subst P front exact)))

-- characters that pass a test which the byte fails
tested_lacks : (byte : ℕ) (test : ℕ → Bool) → ((c : ℕ) → IsTrue (test c) → c ≢ byte) → (xs : List ℕ)
    → All (λ c. IsTrue (test c)) xs → lacks byte xs ≡ true
tested_lacks byte test other [] all = refl
tested_lacks byte test other (x ∷ xs) all =
    and_from (not (eqb x byte)) (lacks byte xs)
    (not_from_false (eqb x byte) (ne_eqb x byte (other x (All-head (λ c. IsTrue (test c)) x xs all))))
    (tested_lacks byte test other xs (All-tail (λ c. IsTrue (test c)) x xs all))

not_label : (c : ℕ) → IsTrue (is_label_char c) → c ≢ 34
not_label c h e = let P : ℕ → Type 0 = λ n. IsTrue (is_label_char n) in let g : false ≡ true = subst P e h in cc

not_segment : (c : ℕ) → IsTrue (is_segment_char c) → c ≢ 34
not_segment c h e = let P : ℕ → Type 0 = λ n. IsTrue (is_segment_char n) in let g : false ≡ true = subst P e h in cc

labels_lack : (labels : List (List ℕ)) → All (IsWord is_label_char) labels → lacks 34 (host_text labels) ≡ true
labels_lack [] all = refl
labels_lack (x ∷ []) all = tested_lacks 34 is_label_char not_label x (All-head (IsWord is_label_char) x [] all).1
labels_lack (x ∷ y ∷ ys) all =
    lacks_append 34 x (46 ∷ host_text (y ∷ ys))
    (tested_lacks 34 is_label_char not_label x (All-head (IsWord is_label_char) x (y ∷ ys) all).1)
    (labels_lack (y ∷ ys) (All-tail (IsWord is_label_char) x (y ∷ ys) all))

segments_lack : (segments : List (List ℕ)) → AreSegments segments
    → lacks 34 (flat_map (λ (s : List ℕ). s ++ 47 ∷ []) segments) ≡ true
segments_lack [] all = refl
segments_lack (x ∷ xs) all =
    lacks_append 34 (x ++ 47 ∷ []) (flat_map (λ (s : List ℕ). s ++ 47 ∷ []) xs)
    (lacks_append 34 x (47 ∷ [])
    (tested_lacks 34 is_segment_char not_segment x (All-head (IsWord is_segment_char) x xs all).1) refl)
    (segments_lack xs (All-tail (IsWord is_segment_char) x xs all))

own : IsNumeralModel (λ ds. all_ascii_digits ds ≡ true) (read_on 0)
own = numerals_by_fold _ tells_all_ascii_digits read_on (search rules)

not_digit : (c : ℕ) → is_ascii_digit c ≡ true → c ≢ 34
not_digit c h e = let P : ℕ → Type 0 = λ n. is_ascii_digit n ≡ true in let g : false ≡ true = subst P e h in cc

digits_lack : (ds : List ℕ) → all_ascii_digits ds ≡ true → lacks 34 ds ≡ true
digits_lack [] h = refl
digits_lack (d ∷ ds) h =
    let p = and_parts (is_ascii_digit d) (all_ascii_digits ds) h in
    and_from (not (eqb d 34)) (lacks 34 ds) (not_from_false (eqb d 34) (ne_eqb d 34 (not_digit d p.0)))
    (digits_lack ds p.1)

pub decimal_lacks : (n : ℕ) → n < 2 ^ 32 → lacks 34 (decimal n) ≡ true
decimal_lacks n small = digits_lack (decimal n) (digits_decimal own n (omega arith))

port_lacks : (port : Option ℕ) → IsPort port → lacks 34 (port_text port) ≡ true
port_lacks None is = refl
port_lacks (Some n) is = decimal_lacks n (omega (arith, is.1))

pub base_lacks : (base : List ℕ) → IsBase base → lacks 34 base ≡ true
base_lacks base is =
    let p = is.parts in
    ap (lacks 34) (spelling base is)
    ∙ lacks_append 34 (codes "http://") (host_text p.labels ++ (port_text p.port ++ path_text p.segments)) refl
    (lacks_append 34 (host_text p.labels) (port_text p.port ++ path_text p.segments)
    (labels_lack p.labels is.rules.labels.1)
    (lacks_append 34 (port_text p.port) (path_text p.segments) (port_lacks p.port is.rules.port)
    (segments_lack p.segments is.rules.segments)))

place_lacks : (a : Address) → IsAddress a → lacks 34 (suffix_text a) ≡ true
place_lacks Feed is = refl
place_lacks (Archive n) is = decimal_lacks n is.1
place_lacks (Member n) is = decimal_lacks n is.1

printed_lacks : (base : List ℕ) (a : Address) → lacks 34 base ≡ true → IsAddress a → lacks 34 (printed base a) ≡ true
printed_lacks base a h is =
    ap (lacks 34) (printed-is base a) ∙ lacks_append 34 base (suffix_text a) h (place_lacks a is)

pub address_alone : (base : List ℕ) → lacks 34 base ≡ true → IsReadAlone (address base)
unfolding address
address_alone base h v w rest left is_v is_w a b e =
    let p =
    cut_same 34 (printed base v) (printed base w) rest left (printed_lacks base v h is_v)
    (printed_lacks base w h is_w) a b e in
    (same_address base v w is_v is_w p.0, p.1)

-- an address begins with the base
pub address_elsewhere : (base input : List ℕ) → starts base input ≡ false → IsAbsent (address base) input
unfolding address
address_elsewhere base input h other left is _ e =
    let parts = e ∙ ap (λ x. x ++ left) (printed-is base other) ∙ append_assoc base (suffix_text other) left in
    let g : true ≡ false = sym (starts_append base (suffix_text other ++ left)) ∙ ap (starts base) (sym parts) ∙ h in cc

-- and there is a quote after it
pub address_nowhere : (base input : List ℕ) → lacks 34 input ≡ true → IsAbsent (address base) input
unfolding address
address_nowhere base input h other left is before e = no_cut 34 input (printed base other) left h before e

address_by : (base input front rest : List ℕ) (r : Option Address) → lacks 34 base ≡ true
    → IsCutAt 34 input front rest → IfSome r (λ a. IsAddress a × (front ≡ printed base a))
    → ((a : Address) → IsAddress a → front ≡ printed base a → r ≡ Some a)
    → Reads (address base) input (ok_or r Mismatch) rest
unfolding address
address_by base input front rest (Some a) h cut some only =
    found (address base) (address_alone base h) input a rest some.0 cut.begins (cut.split ∙ ap (λ x. x ++ rest) some.1)
address_by base input front rest None h cut some only = λ other left is before e.
    let p =
    cut_same 34 front (printed base other) rest left cut.free (printed_lacks base other h is) cut.begins before
    (sym cut.split ∙ e) in
    let g : None ≡ Some other = only other is p.0 in cc

pub address_read : (base input front rest : List ℕ) (r : Option Address) (s : Result Address PartFault)
    → s ≡ ok_or r Mismatch → lacks 34 base ≡ true → IsCutAt 34 input front rest
    → IfSome r (λ a. IsAddress a × (front ≡ printed base a))
    → ((a : Address) → IsAddress a → front ≡ printed base a → r ≡ Some a) → Reads (address base) input s rest
address_read base input front rest r s is h cut some only =
    let Q : Result Address PartFault → Type 0 = λ x. Reads (address base) input x rest in
    subst Q (sym is) (address_by base input front rest r h cut some only)

pub number_alone : IsReadAlone number
unfolding number
number_alone v w rest left is_v is_w a b e =
    let p = cut_same 34 (decimal v) (decimal w) rest left (decimal_lacks v is_v) (decimal_lacks w is_w) a b e in
    (decimal_injective v w (omega arith) (omega arith) p.0, p.1)

pub number_nowhere : (input : List ℕ) → lacks 34 input ≡ true → IsAbsent number input
unfolding number
number_nowhere input h other left is before e = no_cut 34 input (decimal other) left h before e

number_by : (input front rest : List ℕ) (r : Option ℕ) → IsCutAt 34 input front rest
    → IfSome r (λ n. (n < 2 ^ 32) × (front ≡ decimal n)) → ((n : ℕ) → n < 2 ^ 32 → front ≡ decimal n → r ≡ Some n)
    → Reads number input (ok_or r Mismatch) rest
unfolding number
number_by input front rest (Some n) cut some only =
    found number number_alone input n rest some.0 cut.begins (cut.split ∙ ap (λ x. x ++ rest) some.1)
number_by input front rest None cut some only = λ other left is before e.
    let p =
    cut_same 34 front (decimal other) rest left cut.free (decimal_lacks other is) cut.begins before (sym cut.split
    ∙ e) in
    let h : None ≡ Some other = only other is p.0 in cc

pub number_read : (input front rest : List ℕ) (r : Option ℕ) (s : Result ℕ PartFault) → s ≡ ok_or r Mismatch
    → IsCutAt 34 input front rest → IfSome r (λ n. (n < 2 ^ 32) × (front ≡ decimal n))
    → ((n : ℕ) → n < 2 ^ 32 → front ≡ decimal n → r ≡ Some n) → Reads number input s rest
number_read input front rest r s is cut some only =
    let Q : Result ℕ PartFault → Type 0 = λ x. Reads number input x rest in
    subst Q (sym is) (number_by input front rest r cut some only)
