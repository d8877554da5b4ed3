use Rattle.std.proofs.Common.{ℕ, List, subst, refl}
use Rattle.member_rules.specs.Coding.{title_tag, window_tag, number_field, text_field}
use Rattle.member_rules.specs.Fields.{text}
use Rattle.member_rules.specs.declared.setting.Setting.TheVariants.{Title, Window}
use Rattle.member_rules.proofs.SettingLemmas.{setting_written}
use Rattle.member_rules.proofs.codec.operation.push_setting.Goals as goal

pub returns-in_ok-push-in-Title-2-clause-added : goal.returns-in_ok-push-in-Title-2-clause-added
unfolding text
returns-in_ok-push-in-Title-2-clause-added g c =
    let P : List ℕ → Type 0 = g.W.Out.adds c.args.out.now c.push-in-Title.new.out in
    rw c.in-Title.is
    (subst P (setting_written (Title c.in-Title.title) title_tag (text_field c.in-Title.title) refl)
    (g.met.W.Out.joins _ _ _ _ _ c.in_ok-push-in-Title.ensures.added
    (rw c.text.ensures.text at c.in_ok-push-in-Title-2.ensures.added)))

pub returns-in_ok-push_number-in-Window-clause-added : goal.returns-in_ok-push_number-in-Window-clause-added
returns-in_ok-push_number-in-Window-clause-added g c =
    let P : List ℕ → Type 0 = g.W.Out.adds c.args.out.now c.push_number.new.out in
    rw c.in-Window.is
    (subst P (setting_written (Window c.in-Window.size) window_tag (number_field c.in-Window.size) refl)
    (g.met.W.Out.joins _ _ _ _ _ c.in_ok-push-in-Window.ensures.added
    (rw c.get.ensures.size at c.in_ok-push_number-in-Window.ensures.added)))
