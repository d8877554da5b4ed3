use Rattle.std.proofs.Common.{◌≡◌, ◌+◌, ◌≤◌, List, length, ap, sym, ◌∙◌, subst}
use Rattle.std.specs.Prelude.{slice_get, unwrap_or}
use Rattle.std.specs.List.{filter_map}
use Rattle.deleted_entries.specs.declared.item.Item.{Item}
use Rattle.atom_writer.specs.Doc.{KeepsRules}
use Rattle.member_rules.specs.declared.operation.Op.{Op}
use Rattle.member_rules.specs.Head.{HeadValue}
use Rattle.member_rules.specs.History.{history_limit}
use Rattle.member_rules.specs.Setting.{IsWindowSize}
use Rattle.archive_sealer.specs.Window.{WindowValue, open_document}
use Rattle.archive_sealer.proofs.WindowFormLemmas.{window-form, open-rules}
use Rattle.archive_sealer.proofs.window.Window.document.Goals as goal
use Rattle.archive_sealer.proofs.window.Window.document.Goals.{After-new}

past : (c : After-new) → c.self.inside.past.operations ≡ c.args.self.now.history
past c = ap (λ (v : WindowValue). v.history) c.self.view_is

first : (c : After-new) → c.args.head.now.window ≡ c.self.inside.past.first
first c = c.requires.feed.first ∙ ap (λ (v : WindowValue). v.first) (sym c.self.view_is)

title : (c : After-new) → c.args.head.now.name.title ≡ c.self.inside.past.title
title c = c.requires.feed.title ∙ ap (λ (v : WindowValue). v.title) (sym c.self.view_is)

-- the document of the parts
form : (c : After-new) → open_document c.args.head.now c.args.kind c.args.self.now.history ≡ record {
  name = c.in_ok-name.name;
  kind = c.args.kind;
  span = record { first = c.self.inside.before + 1; last = c.self.inside.before + c.self.inside.count };
  prev = c.self.inside.sealed;
  updated = c.unwrap_or-updated.result;
  items = c.in_ok-items.items.items;
}
form c =
    let inside = c.self.inside in
    let name : c.in_ok-name.name ≡ record c.args.head.now.name { title = inside.title } =
    c.in_ok-name.ensures ∙ ap (λ (h : HeadValue). record h.name { title = inside.title }) c.head.view_is in
    let updated : c.unwrap_or-updated.result ≡ unwrap_or inside.last c.args.head.now.created =
    c.unwrap_or-updated.ensures ∙ ap (λ (h : HeadValue). unwrap_or inside.last h.created) c.head.view_is in
    let items : c.in_ok-items.items.items ≡ filter_map (slice_get inside.items.items) inside.order.list =
    c.in_ok-items.ensures
    ∙ ap (λ (items : List Item). filter_map (slice_get items) inside.order.list) c.as_slice.ensures.value in
    ap (open_document c.args.head.now c.args.kind) (sym (past c))
    ∙ window-form c.args.head.now c.args.kind inside.past.operations _ inside.past.first inside.past.title
    c.in_ok-name.name c.unwrap_or-updated.result c.in_ok-items.items.items c.self.invariant (first c) (title c) name
    updated items

pub unwrap-requires : goal.unwrap-requires
unwrap-requires c =
    let limits = subst IsWindowSize (sym (first c)) c.self.invariant.counts.first_size in
    let few = subst (λ (ops : List Op). length ops ≤ history_limit) (past c) c.self.invariant.counts.few in
    c.new.ensures.rules.1 (subst KeepsRules (form c)
    (open-rules c.args.head.now c.args.self.now.history c.args.kind limits few c.requires.kind))

pub returns : goal.returns
returns c = rw c.unwrap.ensures at c.new.ensures.parts ∙ sym (form (goal.at.returns c).After-new)
