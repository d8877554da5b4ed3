use Rattle.std.proofs.Common.{rules, ◌≡◌, ◌∷◌, [], Ok, Some, None, List, refl, sym, subst}
use Rattle.std.specs.Prelude.{encode_utf8}
use Rattle.std.proofs.lemmas.List.{append-nil}
use Rattle.xml_tokens.specs.declared.declaration.Encoding.TheVariants.{Utf8, Foreign}
use Rattle.xml_tokens.specs.declared.token.Token.TheVariants.{Declaration}
use Rattle.xml_tokens.specs.Characters.{lines}
use Rattle.xml_tokens.specs.Tokens.Token.{referred, section}
use Rattle.xml_tokens.specs.Tree.{Event}
use Rattle.xml_tokens.specs.Tree.Event.{say}
use Rattle.xml_tokens.specs.Reading.{IsTokenRead}
use Rattle.xml_tokens.specs.Progress.{IsDepthAfter, IsEventOf, IsLed, IsToldBy, depth_of}
use Rattle.xml_tokens.proofs.ProgressLemmas.{err_is}
use Rattle.xml_tokens.proofs.EventLemmas.{silent_led, declared_led, foreign_refused, characters_led, said_led}
use Rattle.xml_tokens.proofs.EventLemmas.{closing_led}
use Rattle.xml_tokens.proofs.StepLemmas.{read_shorter}
use Rattle.xml_tokens.proofs.elements.Elements.event.Goals as goal

pub returns-in_err-begin-in-Tag-clause-read : goal.returns-in_err-begin-in-Tag-clause-read
returns-in_err-begin-in-Tag-clause-read c = λ place before from x is read xml same some.
    let old = c.args.self.now in
    let r = subst (λ t. IsTokenRead place before t old.cursor.rest.now) c.in-Tag.is read in
    err_is (λ r. IsEventOf old.length [] from r c.begin.new.self) c.in_err-begin-in-Tag.field-0.0 c.from_residual.result
    c.from_residual.ensures.1 (c.in_err-begin-in-Tag.ensures.read place before from x is r.0 r.1 xml same some)

pub returns-in-Declaration-Foreign-clause-read : goal.returns-in-Declaration-Foreign-clause-read
returns-in-Declaration-Foreign-clause-read c = λ place before from x is read xml same some.
    let old = c.args.self.now in
    let e : c.in-Declaration-Foreign.field-0 ≡ Foreign = search rules in
    let r = subst (λ t. IsTokenRead place before (Declaration t) old.cursor.rest.now) e
    (subst (λ t. IsTokenRead place before t old.cursor.rest.now) c.in-Declaration-Foreign.is read) in
    foreign_refused from old before x place old.length c.args.at is r.0 r.1 same

pub returns-in-Reference-clause-read : goal.returns-in-Reference-clause-read
returns-in-Reference-clause-read c = λ place before from x is read xml same some.
    let old = c.args.self.now in
    let char = c.in-Reference.character in
    let r = subst (λ t. IsTokenRead place before t old.cursor.rest.now) c.in-Reference.is read in (
      say (encode_utf8 char) ∷ [],
      (encode_utf8 char ∷ [], refl, sym (append-nil (encode_utf8 char)), λ e. cc),
      said_led from old before (encode_utf8 char) (referred char) x place r.0 c.requires is r.1 r.2 (λ h. h) (λ s h. h)
          (λ s. refl) (λ s at. refl) xml,
    )

pub returns-in_ok-begin-in-Tag-clause-read : goal.returns-in_ok-begin-in-Tag-clause-read
returns-in_ok-begin-in-Tag-clause-read c = λ place before from x is read xml same some.
    let old = c.args.self.now in
    let r = subst (λ t. IsTokenRead place before t old.cursor.rest.now) c.in-Tag.is read in
    c.in_ok-begin-in-Tag.ensures.read place before from x is r.0 r.1 xml same some

pub returns-in-EndTag-clause-read : goal.returns-in-EndTag-clause-read
returns-in-EndTag-clause-read c = λ place before from x is read xml same some.
    let old = c.args.self.now in
    let new = c.close.new.self in
    let r = subst (λ t. IsTokenRead place before t old.cursor.rest.now) c.in-EndTag.is read in
    let led = closing_led from old new before x place r.0 r.2.0 c.requires is r.1 r.2.1 xml c.close.ensures.closed in
    subst (λ e. (told : List Event) × IsToldBy (Some e) told × IsLed old.length [] from told new)
    (sym c.close.ensures.end) (_, refl, led.0)

pub returns-in-EndTag-clause-depth : goal.returns-in-EndTag-clause-depth
returns-in-EndTag-clause-depth c = λ place before from x is read xml.
    let old = c.args.self.now in
    let new = c.close.new.self in
    let r = subst (λ t. IsTokenRead place before t old.cursor.rest.now) c.in-EndTag.is read in
    let led = closing_led from old new before x place r.0 r.2.0 c.requires is r.1 r.2.1 xml c.close.ensures.closed in
    subst (λ e. IsDepthAfter (Some e) (depth_of old) (depth_of new)) (sym c.close.ensures.end) led.1

pub returns-in-Characters-clause-read : goal.returns-in-Characters-clause-read
returns-in-Characters-clause-read c = λ place before from x is read xml same some.
    let old = c.args.self.now in
    let r = subst (λ t. IsTokenRead place before t old.cursor.rest.now) c.in-Characters.is read in
    let led = characters_led from old before (lines c.in-Characters.run'.now) x place r.0 c.requires is r.1
    r.2.0 r.2.1 xml
    in (_, (led.0, refl, led.1, led.2), led.3)

pub returns-in-Section-clause-read : goal.returns-in-Section-clause-read
returns-in-Section-clause-read c = λ place before from x is read xml same some.
    let old = c.args.self.now in
    let said = lines c.in-Section.run'.now in
    let r = subst (λ t. IsTokenRead place before t old.cursor.rest.now) c.in-Section.is read in (
      say said ∷ [],
      (said ∷ [], refl, sym (append-nil said), λ e. cc),
      said_led from old before said (section said) x place r.0 c.requires is r.1 r.2 (λ h. h) (λ s h. h) (λ s. refl)
          (λ s at. refl) xml,
    )

pub returns-in-Silent-clause-read : goal.returns-in-Silent-clause-read
returns-in-Silent-clause-read c = λ place before from x is read xml same some.
    let old = c.args.self.now in
    let r = subst (λ t. IsTokenRead place before t old.cursor.rest.now) c.in-Silent.is read in
    subst (λ e. IsEventOf old.length [] from (Ok e) c.silent-in-Silent.new.self) (sym c.silent-in-Silent.ensures.none)
    (subst (λ n. IsEventOf old.length [] from (Ok None) n) (sym c.silent-in-Silent.ensures.stage)
    ([], refl, silent_led from old before x place r.0 c.requires is r.1 r.2 xml))

pub returns-in-Declaration-Utf8-clause-read : goal.returns-in-Declaration-Utf8-clause-read
returns-in-Declaration-Utf8-clause-read c = λ place before from x is read xml same some.
    let old = c.args.self.now in
    let e : c.in-Declaration-Utf8.field-0 ≡ Utf8 = search rules in
    let r = subst (λ t. IsTokenRead place before (Declaration t) old.cursor.rest.now) e
    (subst (λ t. IsTokenRead place before t old.cursor.rest.now) c.in-Declaration-Utf8.is read) in
    subst (λ e. IsEventOf old.length [] from (Ok e) c.silent.new.self) (sym c.silent.ensures.none)
    (subst (λ n. IsEventOf old.length [] from (Ok None) n) (sym c.silent.ensures.stage)
    ([], refl, declared_led from old before x place r.0 r.2.0 c.requires is r.1 r.2.1 xml))

pub returns-in-Reference-clause-shorter : goal.returns-in-Reference-clause-shorter
returns-in-Reference-clause-shorter c = λ place before read.
    let rest = c.args.self.now.cursor.rest.now in
    let r = subst (λ t. IsTokenRead place before t rest) c.in-Reference.is read in
    read_shorter place before r.0 rest r.1

pub returns-in-EndTag-clause-shorter : goal.returns-in-EndTag-clause-shorter
returns-in-EndTag-clause-shorter c = λ place before read.
    let rest = c.args.self.now.cursor.rest.now in
    let r = subst (λ t. IsTokenRead place before t rest) c.in-EndTag.is read in
    read_shorter place before r.0 rest r.1

pub returns-in-Characters-clause-shorter : goal.returns-in-Characters-clause-shorter
returns-in-Characters-clause-shorter c = λ place before read.
    let rest = c.args.self.now.cursor.rest.now in
    let r = subst (λ t. IsTokenRead place before t rest) c.in-Characters.is read in
    read_shorter place before r.0 rest r.1

pub returns-in-Section-clause-shorter : goal.returns-in-Section-clause-shorter
returns-in-Section-clause-shorter c = λ place before read.
    let rest = c.args.self.now.cursor.rest.now in
    let r = subst (λ t. IsTokenRead place before t rest) c.in-Section.is read in
    read_shorter place before r.0 rest r.1

pub returns-in-Silent-clause-shorter : goal.returns-in-Silent-clause-shorter
returns-in-Silent-clause-shorter c = λ place before read.
    let rest = c.args.self.now.cursor.rest.now in
    let r = subst (λ t. IsTokenRead place before t rest) c.in-Silent.is read in
    read_shorter place before r.0 rest r.1

pub returns-in-Declaration-Utf8-clause-shorter : goal.returns-in-Declaration-Utf8-clause-shorter
returns-in-Declaration-Utf8-clause-shorter c = λ place before read.
    let rest = c.args.self.now.cursor.rest.now in
    let e : c.in-Declaration-Utf8.field-0 ≡ Utf8 = search rules in
    let r = subst (λ t. IsTokenRead place before (Declaration t) rest) e
    (subst (λ t. IsTokenRead place before t rest) c.in-Declaration-Utf8.is read) in
    read_shorter place before r.0 rest r.1

pub returns-in_ok-begin-in-Tag-clause-shorter : goal.returns-in_ok-begin-in-Tag-clause-shorter
returns-in_ok-begin-in-Tag-clause-shorter c = λ place before read.
    let rest = c.args.self.now.cursor.rest.now in
    let r = subst (λ t. IsTokenRead place before t rest) c.in-Tag.is read in
    c.in_ok-begin-in-Tag.ensures.shorter place before r.1
