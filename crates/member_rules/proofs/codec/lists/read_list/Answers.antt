use Rattle.std.proofs.Common.{◌≡◌, refl, sym, ap, subst, ◌∙◌, arith, length, length-append, [], ◌∷◌}
use Rattle.member_rules.specs.Fields.{byte, listed}
use Rattle.member_rules.proofs.FieldLemmas.{stopped, IsGathered, listed_absent, listed_past, listed_stuck, listed_found, gathered_none, gathered_more, pushed_items}
use Rattle.member_rules.proofs.codec.lists.read_list.Goals as goal

pub returns-in_err-count : goal.returns-in_err-count
returns-in_err-count g c =
    let field = g.T.Coded.field in
    stopped byte _ (listed g.row.MAX field) _ _ c.args.unread.now.rest.now _ _ c.in_err-count.ensures
    c.from_residual.ensures.1
    (listed_absent field g.row.MAX _ (omega (arith, c.requires)))

pub returns-then-from : goal.returns-then-from
returns-then-from g c = (
  refl,
  listed_past g.T.Coded.field g.row.MAX c.args.unread.now.rest.now _ _ c.in_ok-count.ensures
      (omega (arith, c.from.ensures, c.if-from.true)),
)

pub loop-init : goal.loop-init
loop-init g c =
    let none : c.reserve.new.self.items ≡ [] = c.in_ok-reserve.ensures.items ∙ c.new-items.ensures in
    record {
      gathered = subst (λ z. IsGathered g.T.Coded.field c.args.unread.now.rest.now c.in_ok-count.count z
          c.byte.new.self.rest.now) (sym none)
          (gathered_none g.T.Coded.field c.args.unread.now.rest.now _ _ c.in_ok-count.ensures);
      size = ap length none;
    }

pub returns-in_err-read : goal.returns-in_err-read
returns-in_err-read g c =
    let field = g.T.Coded.field in
    stopped field _ (listed g.row.MAX field) _ _ c.args.unread.now.rest.now _ _ c.in_err-read.ensures
    c.from_residual-in_err-read.ensures.1
    (listed_stuck field c.has_one_value.ensures g.row.MAX c.args.unread.now.rest.now _ _ _ c.loop.invariant.gathered
    (omega (arith, c.loop.invariant.size, c.loop-test.true)))

pub loop-preserved : goal.loop-preserved
loop-preserved g c =
    let new = pushed_items c.push.result c.is_err.result c.is_err.ensures.value c.if-is_err.false c.push.ensures.ok in
    record {
      gathered = gathered_more g.T.Coded.field c.args.unread.now.rest.now _ _ _ _ _ _ c.loop.invariant.gathered
          c.in_ok-read.ensures new;
      size = omega (
        arith,
        ap length new,
        length-append c.loop.items.items (c.in_ok-read.field-0 ∷ []),
        c.loop.invariant.size,
      );
    }

pub returns : goal.returns
returns g c =
    listed_found g.T.Coded.field g.row.MAX c.args.unread.now.rest.now _ _ _ c.loop.invariant.gathered
    (omega (arith, c.loop.invariant.size, c.loop-test.false, c.loop.auto.counter-end))
    (omega (arith, c.from.ensures, c.if-from.false))
