-- Three cases: the atom is up, dropped and not up, or undecided.
use Rattle.contact_tables.proofs.Face.{sifted_up, sifted_dropped, sifted_open, test_has, test_lacks}
use Rattle.contact_tables.proofs.rows.sifted.Goals as goal

pub returns-then-not-are_apart : goal.returns-then-not-are_apart
returns-then-not-are_apart c =
    sifted_up c.ranges.rows.fits c.column.ensures
    (test_has _ _ c.single-atom.ensures c.are_apart.ensures c.if-not-are_apart.true-raw) c.cut.ensures

pub returns-then-not-are_apart-2 : goal.returns-then-not-are_apart-2
returns-then-not-are_apart-2 c =
    sifted_dropped c.ranges.rows.fits c.column-then-not-are_apart-2.ensures
    (test_lacks _ _ c.single-atom.ensures c.are_apart.ensures c.if-not-are_apart.false-raw)
    (test_has _ _ c.single-atom.ensures c.are_apart-2.ensures c.if-not-are_apart-2.true-raw) c.without.ensures

pub returns : goal.returns
returns c =
    sifted_open (test_lacks _ _ c.single-atom.ensures c.are_apart.ensures c.if-not-are_apart.false-raw)
    (test_lacks _ _ c.single-atom.ensures c.are_apart-2.ensures c.if-not-are_apart-2.false-raw)
