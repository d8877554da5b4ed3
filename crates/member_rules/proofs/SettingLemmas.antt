-- The fields of settings, by the kind that the first byte tells.
use Rattle.std.proofs.Common.{◌≡◌, ◌≢◌, ℕ, List, [], ◌∷◌, ◌++◌, refl, sym, ap, ◌∙◌, arith}
use Rattle.atom_writer.specs.Pieced.{text_of}
use Rattle.atom_writer.specs.Pieces.{joined}
use Rattle.atom_writer.proofs.PieceLemmas.{joined-cons, joined-none, joined-one}
use Rattle.atom_writer.proofs.PiecedLemmas.{AreCompared}
use Rattle.atom_writer.proofs.SameLemmas.{Same, Same-cons, Same-fixed}
use Rattle.member_rules.specs.Coding.{title_tag, window_tag, number_field, text_field, setting_fields}
use Rattle.member_rules.specs.FieldLists.{one, StopsAt}
use Rattle.member_rules.specs.Fields.{byte, stamp}
use Rattle.member_rules.specs.HeadFields.{title, window}
use Rattle.member_rules.specs.Setting.{IsSetting}
use Rattle.member_rules.specs.SettingFields.{settings, sets}
use Rattle.member_rules.specs.declared.setting.Setting.{Setting}
use Rattle.member_rules.specs.declared.setting.Setting.TheVariants.{Title, Window}
use Rattle.member_rules.proofs.EntrySequences.{stamp_sequence}
use Rattle.member_rules.proofs.FieldLemmas.{byte_one}
use Rattle.member_rules.proofs.HeadLemmas.{title_sequence, window_sequence}
use Rattle.member_rules.proofs.KindLemmas.{IsKind}
use Rattle.member_rules.proofs.SequenceLemmas.{IsSequence, sequence_both, sequence_compared}

-- the first byte
tag_of : Setting → ℕ
tag_of (Title text) = title_tag
tag_of (Window size) = window_tag

-- the field after it
body_of : Setting → List ℕ
body_of (Title text) = text_field text
body_of (Window size) = number_field size

-- the two are all its fields
fields-is : (s : Setting) → setting_fields s ≡ (tag_of s ∷ []) ∷ body_of s ∷ []
unfolding tag_of body_of
fields-is (Title text) = refl
fields-is (Window size) = refl

-- a list of fields that begins with a setting's begins with its first byte
tag_in : (s : Setting) (behind : List (List ℕ)) (p : List ℕ) (more : List (List ℕ))
    → setting_fields s ++ behind ≡ p ∷ more → tag_of s ∷ [] ≡ p
tag_in s behind p more e =
    let f : (tag_of s ∷ []) ∷ (body_of s ∷ behind) ≡ p ∷ more = ap (λ z. z ++ behind) (sym (fields-is s)) ∙ e in
    cc

tagged : (s : Setting) (behind : List (List ℕ)) (tag : ℕ) (more : List (List ℕ))
    → setting_fields s ++ behind ≡ (tag ∷ []) ∷ more → tag_of s ≡ tag
tagged s behind tag more e =
    let f : tag_of s ∷ [] ≡ tag ∷ [] = tag_in s behind (tag ∷ []) more e in
    cc

-- which settings begin with each byte
title_only : (s : Setting) → tag_of s ≡ title_tag → (text : List ℕ) × (s ≡ Title text)
unfolding tag_of
title_only (Title text) e = (text, refl)
title_only _ e = absurd (omega (arith, e))

window_only : (s : Setting) → tag_of s ≡ window_tag → (size : ℕ) × (s ≡ Window size)
unfolding tag_of
window_only (Window size) e = (size, refl)
window_only _ e = absurd (omega (arith, e))

-- the two kinds of settings
pub title_kind : IsKind settings title_tag (one title) (λ text. Title text)
unfolding settings one title
title_kind = record {
  is = λ a is. is;
  was = λ a is. is;
  pieces = λ a. refl;
  only = λ s behind more e. title_only s (tagged s behind title_tag more e);
}

pub window_kind : IsKind settings window_tag (one window) (λ size. Window size)
unfolding settings one window
window_kind = record {
  is = λ a is. is;
  was = λ a is. is;
  pieces = λ a. refl;
  only = λ s behind more e. window_only s (tagged s behind window_tag more e);
}

-- the same fields at the front of two lists are those of one setting
heads : (v w : Setting) → IsSetting v → IsSetting w → (rest left : List (List ℕ)) → tag_of v ≡ tag_of w
    → setting_fields v ++ rest ≡ setting_fields w ++ left → (v ≡ w) × (rest ≡ left)
unfolding tag_of one title window
heads (Title v) (Title w) is_v is_w rest left same e =
    let tails : text_field v ∷ rest ≡ text_field w ∷ left = cc in
    let p = title_sequence.heads v w is_v is_w rest left tails in
    (ap (λ z. Title z) p.0, p.1)
heads (Window v) (Window w) is_v is_w rest left same e =
    let tails : number_field v ∷ rest ≡ number_field w ∷ left = cc in
    let p = window_sequence.heads v w is_v is_w rest left tails in
    (ap (λ z. Window z) p.0, p.1)
heads _ _ is_v is_w rest left same e = absurd (omega (arith, same))

-- lists that begin with the fields of settings are compared from the first field on
compared : (v w : Setting) → IsSetting v → IsSetting w → (R : Type 0) (rest left : List (List ℕ))
    → (v ≡ w → Same rest left R) → Same (setting_fields v ++ rest) (setting_fields w ++ left) R
unfolding byte one title window
compared (Title v) (Title w) is_v is_w R rest left more =
    Same-fixed (title_tag ∷ []) (text_field v ∷ rest) (text_field w ∷ left)
    (title_sequence.same v w is_v is_w R rest left (λ e. more (ap (λ z. Title z) e)))
compared (Window v) (Window w) is_v is_w R rest left more =
    Same-fixed (window_tag ∷ []) (number_field v ∷ rest) (number_field w ∷ left)
    (window_sequence.same v w is_v is_w R rest left (λ e. more (ap (λ z. Window z) e)))
compared (Title v) (Window w) is_v is_w R rest left more =
    Same-cons byte.Is byte.bytes byte_one title_tag window_tag (omega arith) (omega arith) (text_field v ∷ rest)
    (number_field w ∷ left) (λ same. absurd (omega (arith, same)))
compared (Window v) (Title w) is_v is_w R rest left more =
    Same-cons byte.Is byte.bytes byte_one window_tag title_tag (omega arith) (omega arith) (number_field v ∷ rest)
    (text_field w ∷ left) (λ same. absurd (omega (arith, same)))

example_is : IsSetting (Window 1)
example_is = (omega arith, omega arith)

pub settings_sequence : IsSequence settings
unfolding settings
settings_sequence = record {
  example = Window 1;
  lawful = example_is;
  heads = λ v w is_v is_w rest left e.
      let same : tag_of v ≡ tag_of w =
      tagged v rest (tag_of w) (body_of w ∷ left) (e ∙ ap (λ z. z ++ left) (fields-is w)) in
      heads v w is_v is_w rest left same e;
  same = compared;
}

-- the moment, and then the setting
pub sets_sequence : IsSequence sets
sets_sequence = sequence_both (one stamp) (λ _. settings) stamp_sequence (λ _ _. settings_sequence)

pub sets_compared : AreCompared sets
sets_compared = sequence_compared sets sets_sequence

-- the first byte is that of no setting
none_there : (input : List ℕ) → ((after : List ℕ) → input ≢ title_tag ∷ after)
    → ((after : List ℕ) → input ≢ window_tag ∷ after) → (s : Setting) (after : List ℕ) → input ≢ tag_of s ∷ after
unfolding tag_of
none_there input no_title no_window (Title text) after e = no_title after e
none_there input no_title no_window (Window size) after e = no_window after e

pub no_setting : (input : List ℕ) → ((after : List ℕ) → input ≢ title_tag ∷ after)
    → ((after : List ℕ) → input ≢ window_tag ∷ after) → StopsAt settings input input
unfolding settings
no_setting input no_title no_window = record {
  read = [];
  split = ap (λ (z : List ℕ). z ++ input) (sym joined-none);
  value = Window 1;
  lawful = example_is;
  next = window_tag ∷ [];
  later = number_field 1 ∷ [];
  begins = refl;
  stuck = λ other lawful behind p after left e f.
      none_there input no_title no_window other after
      (f ∙ ap (λ z. z ++ after) (sym (tag_in other behind p left e)));
}

-- the fields that are written one after another
pub setting_written : (s : Setting) (tag : ℕ) (field : List ℕ) → setting_fields s ≡ (tag ∷ []) ∷ field ∷ []
    → tag ∷ field ≡ text_of settings s
unfolding settings
setting_written s tag field is =
    sym (ap joined is ∙ joined-cons (tag ∷ []) (field ∷ []) ∙ ap (λ z. tag ∷ z) (joined-one field))
