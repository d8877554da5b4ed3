use Rattle.std.proofs.Common.{◌≡◌, ℕ, List, ◌∷◌, refl, sym, subst, ◌∙◌}
use Rattle.member_rules.specs.Coding.{add_tag, change_tag, remove_tag, set_tag, operations}
use Rattle.member_rules.specs.EntryFields.{entries}
use Rattle.member_rules.specs.FieldLists.{StopsAt}
use Rattle.member_rules.specs.RemovalFields.{removals}
use Rattle.member_rules.specs.SettingFields.{sets, set_of}
use Rattle.member_rules.specs.declared.operation.Op.TheVariants.{Add, Change, Remove}
use Rattle.member_rules.proofs.KindLemmas.{kind_found, kind_stops}
use Rattle.member_rules.proofs.OperationLemmas.{adds, changes, removes, set_kind, no_kind}
use Rattle.member_rules.proofs.SequenceLemmas.{stopped_list}
use Rattle.member_rules.proofs.codec.operation.read_operation.Goals as goal

pub returns-in_err-read_entry : goal.returns-in_err-read_entry
returns-in_err-read_entry c =
    let input = c.args.unread.now.rest.now in
    stopped_list entries (λ o. o) operations _ _ input _ _ c.in_err-read_entry.ensures c.from_residual.ensures.1
    (kind_stops operations add_tag entries (λ e. Add e) adds input _ (c.if-tag.ensures.next refl) _)

pub returns-then-tag : goal.returns-then-tag
returns-then-tag c =
    kind_found operations add_tag entries (λ e. Add e) adds c.args.unread.now.rest.now _
    (c.if-tag.ensures.next refl) _ _
    c.in_ok-read_entry.ensures

pub returns-in_err-read_entry-2 : goal.returns-in_err-read_entry-2
returns-in_err-read_entry-2 c =
    let input = c.args.unread.now.rest.now in
    let tagged : input ≡ change_tag ∷ c.tag-2.new.self.rest.now =
    sym (c.if-tag.ensures.left refl) ∙ c.if-tag-2.ensures.next refl in
    stopped_list entries (λ o. o) operations _ _ input _ _ c.in_err-read_entry-2.ensures
    c.from_residual-in_err-read_entry-2.ensures.1
    (kind_stops operations change_tag entries (λ e. Change e) changes input _ tagged _)

pub returns-then-tag-2 : goal.returns-then-tag-2
returns-then-tag-2 c =
    let input = c.args.unread.now.rest.now in
    let tagged : input ≡ change_tag ∷ c.tag-2.new.self.rest.now =
    sym (c.if-tag.ensures.left refl) ∙ c.if-tag-2.ensures.next refl in
    kind_found operations change_tag entries (λ e. Change e) changes input _ tagged _ _ c.in_ok-read_entry-2.ensures

pub returns-in_err-read_removal : goal.returns-in_err-read_removal
returns-in_err-read_removal c =
    let input = c.args.unread.now.rest.now in
    let tagged : input ≡ remove_tag ∷ c.tag-3.new.self.rest.now =
    sym (c.if-tag.ensures.left refl) ∙ sym (c.if-tag-2.ensures.left refl) ∙ c.if-tag-3.ensures.next refl in
    stopped_list removals (λ o. o) operations _ _ input _ _ c.in_err-read_removal.ensures
    c.from_residual-in_err-read_removal.ensures.1
    (kind_stops operations remove_tag removals (λ r. Remove r) removes input _ tagged _)

pub returns-then-tag-3 : goal.returns-then-tag-3
returns-then-tag-3 c =
    let input = c.args.unread.now.rest.now in
    let tagged : input ≡ remove_tag ∷ c.tag-3.new.self.rest.now =
    sym (c.if-tag.ensures.left refl) ∙ sym (c.if-tag-2.ensures.left refl) ∙ c.if-tag-3.ensures.next refl in
    kind_found operations remove_tag removals (λ r. Remove r) removes input _ tagged _ _ c.in_ok-read_removal.ensures

pub returns-in_err-moment : goal.returns-in_err-moment
returns-in_err-moment c =
    let input = c.args.unread.now.rest.now in
    let tagged : input ≡ set_tag ∷ c.tag-4.new.self.rest.now =
    sym (c.if-tag.ensures.left refl) ∙ sym (c.if-tag-2.ensures.left refl) ∙ sym (c.if-tag-3.ensures.left refl)
    ∙ c.if-tag-4.ensures.next refl in
    stopped_list sets (λ o. o) operations _ _ input _ _ c.in_err-moment.ensures
    c.from_residual-in_err-moment.ensures.1
    (kind_stops operations set_tag sets set_of set_kind input _ tagged _)

pub returns-then-tag-4 : goal.returns-then-tag-4
returns-then-tag-4 c =
    let input = c.args.unread.now.rest.now in
    let tagged : input ≡ set_tag ∷ c.tag-4.new.self.rest.now =
    sym (c.if-tag.ensures.left refl) ∙ sym (c.if-tag-2.ensures.left refl) ∙ sym (c.if-tag-3.ensures.left refl)
    ∙ c.if-tag-4.ensures.next refl in
    kind_found operations set_tag sets set_of set_kind input _ tagged _ _ c.in_ok-moment.ensures

pub returns : goal.returns
returns c =
    let input = c.args.unread.now.rest.now in
    let second : c.tag.new.self.rest.now ≡ input = c.if-tag.ensures.left refl in
    let third : c.tag-2.new.self.rest.now ≡ input = c.if-tag-2.ensures.left refl ∙ second in
    let fourth : c.tag-3.new.self.rest.now ≡ input = c.if-tag-3.ensures.left refl ∙ third in
    let left : c.tag-4.new.self.rest.now ≡ input = c.if-tag-4.ensures.left refl ∙ fourth in
    let P : List ℕ → Type 0 = λ z. StopsAt operations input z in
    subst P (sym left)
    (no_kind input (c.if-tag.ensures.other refl) (λ after e. c.if-tag-2.ensures.other refl after (second ∙ e))
    (λ after e. c.if-tag-3.ensures.other refl after (third ∙ e))
    (λ after e. c.if-tag-4.ensures.other refl after (fourth ∙ e)))
