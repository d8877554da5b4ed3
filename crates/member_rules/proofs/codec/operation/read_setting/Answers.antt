use Rattle.std.proofs.Common.{◌≡◌, ℕ, List, ◌∷◌, refl, sym, subst, ◌∙◌}
use Rattle.member_rules.specs.Coding.{title_tag, window_tag}
use Rattle.member_rules.specs.FieldLists.{one, StopsAt}
use Rattle.member_rules.specs.HeadFields.{title, window}
use Rattle.member_rules.specs.SettingFields.{settings}
use Rattle.member_rules.specs.declared.setting.Setting.TheVariants.{Title, Window}
use Rattle.member_rules.proofs.HeadLemmas.{title_stops, window_stops}
use Rattle.member_rules.proofs.KindLemmas.{kind_found, kind_stops}
use Rattle.member_rules.proofs.SequenceLemmas.{one_read, stopped_field}
use Rattle.member_rules.proofs.SettingLemmas.{title_kind, window_kind, no_setting}
use Rattle.member_rules.proofs.codec.operation.read_setting.Goals as goal

pub returns-in_err-read_title : goal.returns-in_err-read_title
returns-in_err-read_title c =
    let input = c.args.unread.now.rest.now in
    stopped_field title (λ s. s) settings _ _ input _ _ c.in_err-read_title.ensures c.from_residual.ensures.1
    (λ none. kind_stops settings title_tag (one title) (λ text. Title text) title_kind input _
    (c.if-tag.ensures.next refl) _ (title_stops _ none))

pub returns-then-tag : goal.returns-then-tag
returns-then-tag c =
    kind_found settings title_tag (one title) (λ text. Title text) title_kind c.args.unread.now.rest.now _
    (c.if-tag.ensures.next refl) _ _ (one_read title _ _ _ c.in_ok-read_title.ensures)

pub returns-in_err-read_window : goal.returns-in_err-read_window
returns-in_err-read_window c =
    let input = c.args.unread.now.rest.now in
    let tagged : input ≡ window_tag ∷ c.tag-2.new.self.rest.now =
    sym (c.if-tag.ensures.left refl) ∙ c.if-tag-2.ensures.next refl in
    stopped_field window (λ s. s) settings _ _ input _ _ c.in_err-read_window.ensures
    c.from_residual-in_err-read_window.ensures.1
    (λ none. kind_stops settings window_tag (one window) (λ size. Window size) window_kind input _ tagged _
    (window_stops _ none))

pub returns-then-tag-2 : goal.returns-then-tag-2
returns-then-tag-2 c =
    let input = c.args.unread.now.rest.now in
    let tagged : input ≡ window_tag ∷ c.tag-2.new.self.rest.now =
    sym (c.if-tag.ensures.left refl) ∙ c.if-tag-2.ensures.next refl in
    kind_found settings window_tag (one window) (λ size. Window size) window_kind input _ tagged _ _
    (one_read window _ _ _ c.in_ok-read_window.ensures)

pub returns : goal.returns
returns c =
    let input = c.args.unread.now.rest.now in
    let second : c.tag.new.self.rest.now ≡ input = c.if-tag.ensures.left refl in
    let left : c.tag-2.new.self.rest.now ≡ input = c.if-tag-2.ensures.left refl ∙ second in
    let P : List ℕ → Type 0 = λ z. StopsAt settings input z in
    subst P (sym left)
    (no_setting input (c.if-tag.ensures.other refl) (λ after e. c.if-tag-2.ensures.other refl after (second ∙ e)))
