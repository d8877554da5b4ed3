use Rattle.std.proofs.Common.{ℕ, List, subst, arith, ap, length}
use Rattle.member_rules.specs.Fields.{text, stamp}
use Rattle.member_rules.proofs.HeadLemmas.{head_written}
use Rattle.member_rules.proofs.codec.head.push_head.Goals as goal

pub push_bytes-requires : goal.push_bytes-requires
push_bytes-requires g c =
    omega (arith, c.text.ensures.base.short, ap length c.text.ensures.text)

pub returns-clause-added : goal.returns-clause-added
returns-clause-added g c =
    let join = g.met.W.Out.joins in
    let P : List ℕ → Type 0 = g.W.Out.adds c.args.out.now c.push-5.new.out in
    subst P (head_written c.args.head.now)
    (rw (← c.head.view_is)
    (join _ _ _ _ _ (join _ _ _ _ _ (join _ _ _ _ _ (join _ _ _ _ _ (join _ _ _ _ _ (join _ _ _ _ _ (join _ _ _ _ _
    c.in_ok-push.ensures.added
    (rw c.text.ensures.text at c.in_ok-push_bytes.ensures.added))
    (rw c.bytes.ensures.bytes at c.in_ok-push-2.ensures.added))
    c.in_ok-push-3.ensures.added) c.in_ok-push-4.ensures.added) c.in_ok-push_number.ensures.added)
    c.in_ok-push_size.ensures.added) c.in_ok-push-5.ensures.added))

pub returns-clause-rules : goal.returns-clause-rules
unfolding text stamp
returns-clause-rules g c = rw (← c.head.view_is) (record {
  name = record {
    base = c.text.ensures.base;
    id = c.bytes.ensures.rules;
    title = c.in_ok-push-3.ensures.rules;
    author = c.in_ok-push-4.ensures.rules;
  };
  created = c.in_ok-push-5.ensures.rules;
  limits = c.head.invariant;
})
