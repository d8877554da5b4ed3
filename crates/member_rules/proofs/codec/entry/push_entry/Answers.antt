use Rattle.std.proofs.Common.{ℕ, List, subst}
use Rattle.member_rules.specs.Fields.{stamp, construct, optional, person, link, category}
use Rattle.member_rules.proofs.EntrySequences.{entry_written}
use Rattle.member_rules.proofs.codec.entry.push_entry.Goals as goal

pub returns-clause-added : goal.returns-clause-added
returns-clause-added g c =
    let join = g.met.W.Out.joins in
    let P : List ℕ → Type 0 = g.W.Out.adds c.args.out.now c.push-7.new.out in
    subst P (entry_written c.args.entry.now)
    (rw (← c.entry.view_is)
    (join _ _ _ _ _ (join _ _ _ _ _ (join _ _ _ _ _ (join _ _ _ _ _ (join _ _ _ _ _ (join _ _ _ _ _
    (join _ _ _ _ _ (join _ _ _ _ _ (join _ _ _ _ _ (join _ _ _ _ _ (join _ _ _ _ _
    c.in_ok-push_number.ensures.added c.in_ok-push.ensures.added) c.in_ok-push-2.ensures.added)
    c.in_ok-push-3.ensures.added) c.in_ok-push-4.ensures.added)
    (rw c.as_slice.ensures.items at c.in_ok-push_list.ensures.added))
    (rw c.as_slice-2.ensures.items at c.in_ok-push_list-2.ensures.added))
    (rw c.as_slice-3.ensures.items at c.in_ok-push_list-3.ensures.added))
    (rw c.as_slice-4.ensures.items at c.in_ok-push_list-4.ensures.added))
    c.in_ok-push-5.ensures.added) c.in_ok-push-6.ensures.added) c.in_ok-push-7.ensures.added))

pub returns-clause-rules : goal.returns-clause-rules
unfolding stamp construct optional person link category
returns-clause-rules g c = rw (← c.entry.view_is) (record {
  whole = c.entry.invariant;
  number = c.in_ok-push_number.ensures.rules;
  edited = c.in_ok-push.ensures.rules;
  title = c.in_ok-push-3.ensures.rules;
  updated = c.in_ok-push-2.ensures.rules;
  published = c.in_ok-push-4.ensures.rules;
  authors = (c.as_slice.ensures.within, rw c.as_slice.ensures.items at c.in_ok-push_list.ensures.rules);
  contributors = (c.as_slice-2.ensures.within, rw c.as_slice-2.ensures.items at c.in_ok-push_list-2.ensures.rules);
  links = (c.as_slice-3.ensures.within, rw c.as_slice-3.ensures.items at c.in_ok-push_list-3.ensures.rules);
  categories = (c.as_slice-4.ensures.within, rw c.as_slice-4.ensures.items at c.in_ok-push_list-4.ensures.rules);
  rights = c.in_ok-push-5.ensures.rules;
  summary = c.in_ok-push-6.ensures.rules;
  content = c.in_ok-push-7.ensures.rules;
})
