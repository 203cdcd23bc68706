-- The six rounds, the largest half blocks first (halved-round).
use Rattle.relay_rows.proofs.Prelude.{arith, needs}
use Rattle.relay_rows.proofs.Face.{mask_5, mask_4, mask_3, mask_2, mask_1, mask_0, halved_start, halved_round, crossed}
use Rattle.relay_rows.proofs.block.turn.Goals as goal

pub exchange-requires : goal.exchange-requires
exchange-requires c = search (mask_5, needs)

pub exchange-requires-2 : goal.exchange-requires-2
exchange-requires-2 c = search (mask_4, needs)

pub exchange-requires-3 : goal.exchange-requires-3
exchange-requires-3 c = search (mask_3, needs)

pub exchange-requires-4 : goal.exchange-requires-4
exchange-requires-4 c = search (mask_2, needs)

pub exchange-requires-5 : goal.exchange-requires-5
exchange-requires-5 c = search (mask_1, needs)

pub exchange-requires-6 : goal.exchange-requires-6
exchange-requires-6 c = search (mask_0, needs)

pub returns : goal.returns
returns c =
    let h5 = halved_round 5 (omega arith) (halved_start _) c.exchange.ensures in
    let h4 = halved_round 4 (omega arith) h5 c.exchange-2.ensures in
    let h3 = halved_round 3 (omega arith) h4 c.exchange-3.ensures in
    let h2 = halved_round 2 (omega arith) h3 c.exchange-4.ensures in
    let h1 = halved_round 1 (omega arith) h2 c.exchange-5.ensures in
    crossed h1 c.exchange-6.ensures
