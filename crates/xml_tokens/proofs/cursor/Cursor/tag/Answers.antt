use Rattle.std.proofs.Common.{ℕ, List, [], refl, sym, subst}
use Rattle.std.specs.Prelude.{Err}
use Rattle.std.proofs.lemmas.List.{append-nil}
use Rattle.xml_tokens.specs.declared.cursor.Lapse.{Lapse}
use Rattle.xml_tokens.specs.Reading.{Reads, Starts, Continues, whole_qname, a_tag, names}
use Rattle.xml_tokens.proofs.PartLemmas.{found_whole}
use Rattle.xml_tokens.proofs.CursorLemmas.{byte_read}
use Rattle.xml_tokens.proofs.TagLemmas.{same_tag, has_first}
use Rattle.xml_tokens.proofs.OwnTagLemmas.{own_name_cut, unnamed_tag}
use Rattle.xml_tokens.proofs.WholeTagLemmas.{tag_reads, tag_fails}
use Rattle.std.specs.List.{IsDistinct}
use Rattle.std.specs.Prelude.{bytes_eq}
use Rattle.std.proofs.Common.{ap}
use Rattle.xml_tokens.proofs.cursor.Cursor.tag.Goals as goal

pub returns-in-Err-Cut : goal.returns-in-Err-Cut
returns-in-Err-Cut c =
    let text = c.args.self.now.rest.now in
    let opened = c.take.new.self.rest.now in
    let end = c.qualified_name.new.self.rest.now in
    let start = byte_read 60 text c.take.result.now opened c.requires c.take.ensures.split c.take.ensures.length in
    let R : Lapse → Type 0 = λ l. Reads whole_qname opened (Err l) end in
    let cut = subst R c.in-Err-Cut.field-0-is c.in-Err-Cut.ensures in
    let S : List ℕ → Type 0 = Starts whole_qname in (
      (λ (some : Starts a_tag text). cut.0 (subst S (append-nil opened)
          (unnamed_tag text opened start [] some.0 some.1 (found_whole a_tag text some.0 some.1 some.2)))),
      own_name_cut text opened end start cut,
    )

pub returns-in-Err-Broken : goal.returns-in-Err-Broken
returns-in-Err-Broken c = λ (some : Continues a_tag c.args.self.now.rest.now).
    let text = c.args.self.now.rest.now in
    let opened = c.take.new.self.rest.now in
    let end = c.qualified_name.new.self.rest.now in
    let start = byte_read 60 text c.take.result.now opened c.requires c.take.ensures.split c.take.ensures.length in
    let R : Lapse → Type 0 = λ l. Reads whole_qname opened (Err l) end in
    let broken = subst R c.in-Err-Broken.field-0-is c.in-Err-Broken.ensures in
    broken (some.0, unnamed_tag text opened start some.0 some.1.0 some.1.1 some.1.2)

pub returns-in_err-end : goal.returns-in_err-end
returns-in_err-end c =
    let text = c.args.self.now.rest.now in
    let opened = c.take.new.self.rest.now in
    let named = c.qualified_name.new.self.rest.now in
    let start = byte_read 60 text c.take.result.now opened c.requires c.take.ensures.split c.take.ensures.length in
    tag_fails text opened c.in-Ok.name.now named start c.in-Ok.ensures c.attributes.new.attributes.items
    c.in_err-end.field-0.0 c.attributes.new.self.rest.now (c.in_err-end.ensures c.new-attributes.ensures.items)
    c.from_residual.result c.from_residual.ensures.1

pub returns-then-same : goal.returns-then-same
returns-then-same c = λ (some : Continues a_tag c.args.self.now.rest.now).
    let text = c.args.self.now.rest.now in
    let opened = c.take.new.self.rest.now in
    let named = c.qualified_name.new.self.rest.now in
    let start = byte_read 60 text c.take.result.now opened c.requires c.take.ensures.split c.take.ensures.length in
    let raws = c.attributes.new.attributes.items in
    let D : List (List ℕ) → Type 0 = IsDistinct bytes_eq in
    same_tag text opened c.in-Ok.name.now named start c.in-Ok.ensures raws
    (has_first named raws c.in_ok-end.end c.attributes.new.self.rest.now
    (c.in_ok-end.ensures c.new-attributes.ensures.items))
    (λ distinct. c.in-Ok-has_same_names.ensures.0 c.if-same.true
    (subst D (sym (ap names c.as_slice.ensures.value)) distinct)) some

pub returns : goal.returns
returns c =
    let text = c.args.self.now.rest.now in
    let opened = c.take.new.self.rest.now in
    let named = c.qualified_name.new.self.rest.now in
    let start = byte_read 60 text c.take.result.now opened c.requires c.take.ensures.split c.take.ensures.length in
    let D : List (List ℕ) → Type 0 = IsDistinct bytes_eq in
    tag_reads text opened c.in-Ok.name.now named start c.in-Ok.ensures
    (record { name = c.in-Ok.name; attributes = c.attributes.new.attributes; end = c.in_ok-end.end }) refl
    (subst D (ap names c.as_slice.ensures.value) (c.in-Ok-has_same_names.ensures.1 c.if-same.false)) c.in_ok-end.end
    c.attributes.new.self.rest.now (c.in_ok-end.ensures c.new-attributes.ensures.items)
