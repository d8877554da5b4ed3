-- What the table has of a member, in each history that it is the table of.
use Rattle.std.proofs.Common.{◌≡◌, ◌⊎◌, inl, inr, ℕ, ◌+◌, ◌-◌, ◌<◌, ℤ, Option, Some, None, option_map, List, length}
use Rattle.std.proofs.Common.{sym, ap, ◌∙◌, arith}
use Rattle.std.proofs.lemmas.Option.{slice_get_within}
use Rattle.atom_values.specs.Entry.{EntryValue}
use Rattle.member_rules.specs.declared.operation.Op.{Op}
use Rattle.member_rules.specs.declared.state.State.{State}
use Rattle.member_rules.specs.declared.state.State.TheVariants.{Never, Live, Gone as Deleted}
use Rattle.member_rules.specs.Fold.{fold_of, state_of}
use Rattle.member_rules.specs.Member.{state_kept, edited_kept}
use Rattle.member_rules.specs.declared.members.Member.{Member}
use Rattle.member_rules.specs.declared.members.Member.TheVariants.{Live as KeptLive, Gone as KeptGone}
use Rattle.member_rules.specs.Table.{HasMember, IsTableOf, Table}
use Rattle.member_rules.proofs.MayFollowLemmas.{live-by_state}
use Rattle.member_rules.proofs.StateLemmas.{state_of-zero, state_of-past}

abbrev edited_of : Option EntryValue → Option ℤ
edited_of live = option_map (λ (entry : EntryValue). entry.edited) live

module _ (table : Table) (created : ℤ) (history : List Op) (number : ℕ) (of : IsTableOf table created history) where
  pub state_of-none : (number ≡ 0) ⊎ (length table.states < number) → Never ≡ state_of history number
  state_of-none outside = elim outside [
    | inl zero ↦ sym (ap (state_of history) zero ∙ state_of-zero created history of.following)
    | inr past ↦ sym (state_of-past created history number of.following (omega (arith, of.count)))
  ]

  pub state_of-member : (is : State) (at : Option ℤ) → HasMember table number is at → is ≡ state_of history number
  state_of-member is at has =
      let within = slice_get_within table.states (number - 1) is has.state in
      let here : number - 1 + 1 ≡ number = omega (arith, has.counted) in
      let same : Some is ≡ Some (state_of history (number - 1 + 1)) = sym has.state ∙ of.states (number - 1) within in
      let state : is ≡ state_of history (number - 1 + 1) = cc in
      state ∙ ap (state_of history) here

  pub edited-none : (number ≡ 0) ⊎ (length table.states < number)
      → None ≡ edited_of ((fold_of history).live number)
  edited-none outside =
      sym (ap edited_of (live-by_state created history number Never of.following (state_of-none outside)))

  edited-live : (updated at : ℤ) (version : ℕ) → HasMember table number (Live updated version) (Some at)
      → Some at ≡ edited_of ((fold_of history).live number)
  edited-live updated at version has =
      let entry = live-by_state created history number (Live updated version) of.following
      (state_of-member (Live updated version) (Some at) has) in
      let kept : Some (Some at) ≡ Some (Some entry.0.edited) = sym has.edited ∙ of.edited number entry.0 entry.1 in
      let same : Some at ≡ Some entry.0.edited = cc in
      same ∙ sym (ap edited_of entry.1)

  edited-gone : (when : ℤ) → HasMember table number (Deleted when) None
      → None ≡ edited_of ((fold_of history).live number)
  edited-gone when has =
      sym (ap edited_of (live-by_state created history number (Deleted when) of.following
      (state_of-member (Deleted when) None has)))

  pub edited-member : (member : Member) → HasMember table number (state_kept member) (edited_kept member)
      → edited_kept member ≡ edited_of ((fold_of history).live number)
  edited-member (KeptLive version updated edited) has = edited-live updated edited version has
  edited-member (KeptGone when) has = edited-gone when has
