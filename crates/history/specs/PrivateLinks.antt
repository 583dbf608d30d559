-- The links of a chain of items. Private: contracts see the list of items alone.
use Rattle.std.specs.Prelude.{List, [], ◌∷◌}
use Rattle.history.specs.declared.item.Item.{Item}
use Rattle.history.specs.declared.chain.Link.{Link}
use Rattle.history.specs.declared.chain.Link.TheVariants.{End, More}

-- the items from a link on
abbrev pub items_of : Link → List Item
items_of End = []
items_of (More node) = node.value.item ∷ node.value.older
