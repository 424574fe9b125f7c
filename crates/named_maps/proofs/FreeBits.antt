-- The stack `mixed` changes no free bit of a cell. Assumes nothing.
use Rattle.lattice.proofs.FreeBits.{LeavesFreeBits}
use Rattle.tables.specs.Names.{bbm, exchange}
use Rattle.block_map.specs.Laws.{block_free}
use Rattle.cell_map.specs.Laws.{cell_free}
use Rattle.rules.specs.Rules.{life}
use Rattle.lift.specs.Laws.{lift_free}
use Rattle.layers.specs.Laws.{between_laws, then_laws, then_free, between_free, times_free}
use Rattle.named_maps.specs.Laws.{bbm_laws, life2_laws, exchange_laws, exchange_twice}
use Rattle.named_maps.specs.Named.{mixed_forward, mixed_backward}

pub mixed_free : LeavesFreeBits mixed_forward mixed_backward
mixed_free =
    let seen_laws = between_laws life2_laws exchange_laws in
    let seen = between_free life2_laws exchange_laws (lift_free life) (cell_free exchange exchange exchange_twice exchange_twice) in
    times_free 3 (then_laws bbm_laws seen_laws) (then_free bbm_laws seen_laws (block_free bbm bbm) seen)
