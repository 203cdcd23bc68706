-- Each return says what its node adds to the words; both branches have fewer undecided atoms.
use Rattle.finding.proofs.Prelude.{arith, refl, true, false}
use Rattle.finding.proofs.Face.{looked_seen, dark_free, gather_full, gather_none, gather_leaf, gather_low, gather_both, descended_falls, stands_still}
use Rattle.finding.proofs.gather.+gather.Goals as goal

pub returns-then-out-at-clause-added : goal.returns-then-out-at-clause-added
returns-then-out-at-clause-added t c = gather_full c.requires.1 c.if-out-at.true

pub returns-in_default-clause-added : goal.returns-in_default-clause-added
returns-in_default-clause-added t c = gather_none c.requires.1 c.in_default.is c.look.ensures.looked

pub returns-then-free-eq0-clause-added : goal.returns-then-free-eq0-clause-added
returns-then-free-eq0-clause-added t c =
    gather_leaf c.look.ensures.stands (looked_seen refl c.in-Some.ensures.looked)
    (rw (c.undecided-free.ensures, c.dark_of-dark.ensures, c.without.ensures) at c.if-free-eq0.true) c.put.ensures

pub descend-low-requires : goal.descend-low-requires
descend-low-requires t c =
    let k = rw (c.undecided-free.ensures, c.dark_of-dark.ensures, c.without.ensures) at c.highest-k.ensures in
    (c.look.ensures.stands, looked_seen refl c.in-Some.ensures.looked, k.1, dark_free c.args.node.front.state _ k.0.here)

pub gather-mid-requires : goal.gather-mid-requires
gather-mid-requires t c =
    let k = rw (c.undecided-free.ensures, c.dark_of-dark.ensures, c.without.ensures) at c.highest-k.ensures in
    (descended_falls c.args.node.front.state _ false k.0 c.descend-low.ensures c.decreases, (c.descend-low.ensures.is_node, c.requires.1))

pub returns-then-out-mid-clause-added : goal.returns-then-out-mid-clause-added
returns-then-out-mid-clause-added t c =
    let k = rw (c.undecided-free.ensures, c.dark_of-dark.ensures, c.without.ensures) at c.highest-k.ensures in
    gather_low c.look.ensures.stands k.0 c.descend-low.ensures c.gather-mid.ensures.added c.if-out-mid.true

pub descend-up-requires : goal.descend-up-requires
descend-up-requires t c =
    let k = rw (c.undecided-free.ensures, c.dark_of-dark.ensures, c.without.ensures) at c.highest-k.ensures in (
      stands_still c.look.ensures.stands c.gather-mid.ensures.stands.remembers,
      looked_seen refl c.in-Some.ensures.looked,
      k.1,
      dark_free c.args.node.front.state _ k.0.here,
    )

pub gather-requires : goal.gather-requires
gather-requires t c =
    let k = rw (c.undecided-free.ensures, c.dark_of-dark.ensures, c.without.ensures) at c.highest-k.ensures in
    let told = c.gather-mid.ensures.added in
    (descended_falls c.args.node.front.state _ true k.0 c.descend-up.ensures c.decreases, (c.descend-up.ensures.is_node, omega (arith, told.room, told.long)))

pub returns-clause-added : goal.returns-clause-added
returns-clause-added t c =
    let k = rw (c.undecided-free.ensures, c.dark_of-dark.ensures, c.without.ensures) at c.highest-k.ensures in
    gather_both c.look.ensures.stands k.0 c.descend-low.ensures c.descend-up.ensures c.gather-mid.ensures.added c.gather.ensures.added
