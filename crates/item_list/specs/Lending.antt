-- What a list of items ends as, where a `&mut` to its items is lent.
use Rattle.std.specs.Prelude.{List, length}
use Rattle.std.specs.List.{refill}
use Rattle.std.specs.Borrow.{Lends, Fml, RattleType, MutBor, Array}
use Rattle.item_list.specs.contracts.items.Items.{the_row}

-- the items end as those that the borrow shows last, which are as many
abbrev pub LendsItems : (T : RattleType) → MutBor (List T.Denot) → MutBor (List T.Denot) → Fml
LendsItems T list borrow = Lends (the_row T) (Array T 0) list borrow (refill (length list.now) list.now)
