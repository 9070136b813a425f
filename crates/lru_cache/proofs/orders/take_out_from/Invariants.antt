use Rattle.std.proofs.Common.{◌≡◌, ℕ, ◌&&◌, if◌then◌else◌, [], nat_le, nat_lt, slice_index_or}
use Rattle.index_list.specs.Lists.{without, IsSound}
use Rattle.lru_cache.proofs.orders.take_out_from.Given as goal

abbrev pub invariant-loop-list : goal.invariant-loop-list
invariant-loop-list l = record {
  nodes : l.arena.nodes ≡ l.fn.arena.nodes;
  sound : IsSound 17 l.arena;
  changed : (k : ℕ) → slice_index_or l.arena.lists k [] ≡ (if nat_le l.first k && nat_lt k l.list then without l.slot (slice_index_or l.fn.arena.lists k []) else slice_index_or l.fn.arena.lists k []);
}
