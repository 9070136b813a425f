-- Which list of an arena is which order: eight by recency, then the dirty lines, then eight of marks.
use Rattle.std.specs.Prelude.{take, drop}
use Rattle.index_list.specs.Lists.{Lists, list_of}
use Rattle.lru_cache.specs.Order.{LineOrders}

unfoldable pub orders_in : Lists → LineOrders
orders_in a = record { lines = a.nodes; recency = take 8 a.lists; dirty = list_of a 8; marked = drop 9 a.lists }
