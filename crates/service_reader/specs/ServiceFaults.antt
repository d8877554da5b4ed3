-- The elements of a service document that are refused.
use Rattle.std.specs.Prelude.{◌≡◌, ℕ, ◌≤◌, List, [], ◌∷◌, ◌++◌, length, false, None, codes}
use Rattle.xml_tokens.specs.Tree.{Element, Content}
use Rattle.xml_tokens.specs.Children.{Child}
use Rattle.feed_reader.specs.Feed.{target}
use Rattle.xml_tokens.specs.Order.{Placed, Rules, name_of}
use Rattle.service_reader.specs.declared.fault.ServiceWhy.{ServiceWhy}
use Rattle.service_reader.specs.declared.fault.ServiceWhy.TheVariants.{Token, NotAService, BadLink, TooMany}
use Rattle.service_reader.specs.Service.{collection_limit, collections_of, is_app}

-- where an element that can be refused is
pub data Within : Type 0 where
  at_root : Within
  in_workspace : Within

-- The reason holds of an element there, in the document of an address. `Token` is a reason of the text and not of an
-- element.
abbrev pub IsFault : List ℕ → Within → ServiceWhy → Placed Within → Type 0
IsFault address at_root NotAService p = is_app (codes "service") (name_of p) ≡ false
IsFault address in_workspace BadLink p = target address p.child ≡ None
IsFault address in_workspace TooMany p = collection_limit ≤ length p.before
IsFault address _ _ p = ⊥

-- the order in which the reasons of one element are tried
abbrev pub rank : ServiceWhy → ℕ
rank (Token why) = 0
rank NotAService = 1
rank BadLink = 2
rank TooMany = 3

-- `placed_in` lists the elements itself, so nothing goes by `inside`
abbrev pub service_rules : List ℕ → Rules Within ServiceWhy
service_rules address = record {
  inside = λ within name. in_workspace;
  Has = λ why p. IsFault address p.within why p;
  rank = rank;
}

-- the collections after others, each with all those before it
abbrev pub placed_after : List Element → List Child → List (Placed Within)
placed_after before [] = []
placed_after before (c ∷ cs) =
    record { within = in_workspace; before = before; child = c } ∷ placed_after (before ++ c.element ∷ []) cs

-- the elements of a document that can be refused, in document order: its root and then its collections
abbrev pub placed_in : Element → Content → List (Placed Within)
placed_in root content =
    record { within = at_root; before = []; child = record { element = root; content = content } }
    ∷ placed_after [] (collections_of content)
