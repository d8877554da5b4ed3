use Rattle.std.proofs.Common.{◌≡◌, [], true, sym, ap, subst, ◌∙◌, inr, rules}
use Rattle.std.specs.Prelude.{◌&&◌, IfSome, unwrap_or, codes}
use Rattle.atom_values.specs.XmlText.{IsAtomText}
use Rattle.xml_tokens.specs.Children.{child}
use Rattle.xml_tokens.specs.Order.{IsFirst, all_placed}
use Rattle.feed_reader.specs.FeedFaults.{feed_rules}
use Rattle.feed_reader.specs.FeedFaults.Within.{in_entry}
use Rattle.feed_reader.proofs.FeedEntryLemmas.{moment_rules, moment_states, none_from, title_text}
use Rattle.feed_reader.proofs.FeedMadeLemmas.{whole_noted}
use Rattle.feed_reader.proofs.entry.EntryParts.entry.Goals as goal

pub returns-in-Some : goal.returns-in-Some
returns-in-Some c = λ e inner here h.
    let old = c.args.self in
    let all : (old.required.id && old.required.updated) ≡ true = search rules in
    inr (inr (
      whole_noted inner old.required h.required all,
      c.if-full.false,
      λ address.
          subst (λ r. IsFirst (feed_rules address) (all_placed (feed_rules address) in_entry [] inner) r) c.in-Some.is
          (h.refused address),
    ))

pub returns : goal.returns
returns c = λ e inner here h.
    let old = c.args.self in
    let all : (old.required.id && old.required.updated) ≡ true = search rules in
    let none = none_from old.refused c.in_default.not-Some in
    let r = h.read none in
    let states = moment_states (child (codes "updated") inner) old.updated c.in-Some-Some.updated r.updated
    c.in-Some-Some.is-1 in
    let title = c.unwrap_or.ensures ∙ (λ i. unwrap_or (r.title i) (c.empty.ensures i)) in
    let empty : IsAtomText [] = search rules in (
      record {
        id = sym r.id ∙ c.in-Some-Some.is-0;
        title = title;
        updated = states;
      },
      record {
        id = subst (λ o. IfSome o IsAtomText) c.in-Some-Some.is-0 r.id_rules;
        title = subst IsAtomText (sym (c.unwrap_or.ensures ∙ ap (unwrap_or old.title) c.empty.ensures))
            (title_text old.title r.title_rules empty);
        updated = moment_rules (child (codes "updated") inner) c.in-Some-Some.updated states;
      },
      c.if-full.false,
      whole_noted inner old.required h.required all,
      λ address. subst (λ r. IsFirst (feed_rules address) (all_placed (feed_rules address) in_entry [] inner) r) none
          (h.refused address),
    )
