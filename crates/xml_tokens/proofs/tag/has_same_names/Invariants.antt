use Rattle.std.proofs.Common.{◌≡◌, take}
use Rattle.xml_tokens.proofs.KeyLemmas.{keys_of}
use Rattle.xml_tokens.proofs.tag.has_same_names.Given as goal

abbrev pub invariant-loop-attribute : goal.invariant-loop-attribute
invariant-loop-attribute l = l.keys.items ≡ keys_of (take l.attribute-index l.attributes)
